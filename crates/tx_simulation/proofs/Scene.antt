-- A thread that runs and isn't lost, in its mode, with all that is known of the machine around it; and what is known of the source's next step.
use Rattle.std.proofs.Common.{ℕ, zero, suc, ◌≡◌, ◌≢◌, ◌⊎◌, ◌∙◌, Bool, true, false, List, [], ◌∷◌, ◌++◌, take, drop, reverse, replicate, length, Option, Some, None, slice_get, slice_set, refl, ap, sym, subst, inl, inr}
use Rattle.std.specs.Option.{option_map_or, is_some}
use Rattle.ir_core.specs.declared.types.Ty.{Ty}
use Rattle.ir_core.specs.declared.types.Loc.{Loc}
use Rattle.ir_core.specs.declared.values.Val.TheVariants as values
use Rattle.ir_core.specs.declared.values.Side.{Side}
use Rattle.ir_core.specs.declared.instruction.Inst.{Inst}
use Rattle.ir_core.specs.declared.instruction.Block.{Block}
use Rattle.ir_core.specs.Module.{ModuleParts, FuncParts}
use Rattle.ir_layout.specs.Memory.{layout_of}
use Rattle.ir_check.specs.Faults.{IsAccepted}
use Rattle.mem_image.specs.Bytes.{Memory}
use Rattle.inst_meaning.specs.declared.actions.Cause.{Cause}
use Rattle.inst_meaning.specs.declared.actions.Cause.TheVariants.{Unreachable}
use Rattle.inst_meaning.specs.declared.actions.Action.{Action}
use Rattle.inst_meaning.specs.declared.actions.Action.TheVariants.{Fault}
use Rattle.inst_meaning.specs.Action.{action_of, callees_of}
use Rattle.inst_meaning.specs.Registers.{get}
use Rattle.process.specs.declared.state.CallStack.{CallStack}
use Rattle.process.specs.declared.state.Thread.{Thread}
use Rattle.process.specs.declared.state.Thread.TheVariants.{Running}
use Rattle.process.specs.declared.state.Step.{Step}
use Rattle.process.specs.declared.state.Step.TheVariants.{Undefined}
use Rattle.process.specs.Outcome.{failure}
use Rattle.process_laws.specs.Alone.{IsAlone}
use Rattle.process_laws.proofs.Likeness as likeness
use Rattle.src_meaning.specs.declared.state.Frame.{Frame as SourceFrame}
use Rattle.src_meaning.specs.State as source_state
use Rattle.src_meaning.specs.State.{State as SourceState, inst_at}
use Rattle.src_meaning.specs.Step.{frames, opening, action_in, fetched, turned, unless_ended, step}
use Rattle.src_meaning.specs.Runs.{source, run_from}
use Rattle.src_meaning.specs.Races.{IsGood}
use Rattle.src_laws.proofs.Accepted.{inst-calls}
use Rattle.src_laws.proofs.Moves.{source-sound}
use Rattle.src_laws.proofs.Placed.{IsPlaced, in-block}
use Rattle.src_laws.proofs.Reading.{reads-next}
use Rattle.src_laws.specs.Assigned.{ReadsWords}
use Rattle.src_laws.proofs.Suits.{IsSuited, action-suits}
use Rattle.hard_ir.specs.declared.instruction.HInst.{HInst}
use Rattle.hard_ir.specs.Hardened.{HardParts}
use Rattle.hard_ir.specs.Images.{IsLooseImage}
use Rattle.hard_frames.specs.declared.outcome.Stop.TheVariants.{Fail, Trap}
use Rattle.hard_frames.specs.declared.state.Frame.{Frame}
use Rattle.hard_frames.specs.Code.{blocks_at, list_at}
use Rattle.hard_frames.specs.Code as hard_text
use Rattle.hard_frames.specs.Frames as hard_frame
use Rattle.hard_frames.specs.Places.{place_text}
use Rattle.hard_simulation.proofs.Sides.{Sides, IsHurt}
use Rattle.hard_simulation.proofs.Entries.{get-drop, get-drop-none, drop-suc}
use Rattle.hard_simulation.proofs.Turns.{state-append}
use Rattle.hard_simulation.proofs.Points.{source_code, hard_code}
use Rattle.hard_simulation.proofs.Heads as heads
use Rattle.hard_meaning.specs.State.{Transaction, Mode, Free, Inside, Worker, Upset, State, seen_in}
use Rattle.hard_meaning.specs.Aborts.{Mismatch, Other}
use Rattle.hard_meaning.specs.Effects.{with_worker}
use Rattle.hard_meaning.specs.Turns.{stepped, failed, trapped}
use Rattle.hard_meaning.specs.Turns as hard
use Rattle.tx_simulation.proofs.Owners.{AreFree}
use Rattle.tx_simulation.proofs.Walks.{Lone, lone_start, Ran, state_at, process_at, Walked, solo, set-there}
use Rattle.tx_simulation.proofs.Points.{IsFree, Stands, names_at, past_code, is_edged, Known, Now, alike, IsStack}
use Rattle.tx_simulation.proofs.Facts.{IsCarried, OkIn, Facts, machine_of, mode_of, watched_in}
use Rattle.tx_simulation.proofs.Inner.{LinkAt, ok-from, good-step, good-alone, can-inside}
use Rattle.tx_simulation.proofs.Holds.{Holds, settles, halts}

pub record Scene (mode : Mode) : Type 0 where
  pub m : ModuleParts
  pub h : HardParts
  pub arguments : List ℕ
  pub s : SourceState
  pub workers : List Worker
  pub turns : List ℕ
  pub upsets : List Upset
  pub t : ℕ
  pub x : Thread SourceFrame
  pub v : Worker
  pub a : CallStack SourceFrame
  pub b : CallStack Frame
  pub sides : Sides
  pub good : IsGood m arguments
  pub accepted : IsAccepted m
  pub image : IsLooseImage m h
  pub facts : Facts m h arguments s workers turns upsets
  pub at : slice_get s.process.threads t ≡ Some x
  pub hard_at : slice_get workers t ≡ Some (record v { thread = Running b; mode = mode })
  pub hurt : IsHurt sides → IsCarried (record v { thread = Running b; mode = mode })
  pub link : LinkAt m h sides s.process.memory t x mode (Running a)
  pub mark : b.mark ≡ a.mark
  pub callers : likeness.AreCallers (alike m h) (Now sides mode (seen_in mode s.process.memory)) a.callers b.callers
  pub function : b.frame.function ≡ a.frame.function
  pub block : b.frame.block ≡ a.frame.block
  pub start : b.frame.mark ≡ a.frame.mark

-- ---- the source

-- the thread's own turns since its transaction began
pub record AsLone (mode : Mode) (c : Scene mode) : Type 0 where
  pub n : ℕ
  pub alone : Lone
  pub free : AreFree c.s.process.world.owners alone.locked
  pub ran : Ran c.m c.s.process.memory c.t c.x n alone
  pub thread : alone.thread ≡ Running c.a

pub as-lone : (mode : Mode) (c : Scene mode) → AsLone mode c
as-lone (Free plain) c = record { n = 0; alone = lone_start c.x; free = λ a e. cc; ran = refl; thread = c.link }
as-lone (Inside tx) c = record {
  n = tx.pending;
  alone = c.link.now;
  free = λ a e. subst (λ (o : Option Worker). AreFree c.s.process.world.owners (watched_in (mode_of o))) c.hard_at (c.facts.all.unowned c.t) a (c.link.locked a e);
  ran = c.link.ran;
  thread = c.link.thread;
}

module _ (mode : Mode) (c : Scene mode) where
  abbrev pub now : State
  now = machine_of c.s c.workers c.turns c.upsets

  abbrev pub here : Worker
  here = record c.v { thread = Running c.b; mode = mode }

  abbrev pub seen : Memory
  seen = seen_in mode c.s.process.memory

  abbrev pub AfterTurn : State → Type 0
  AfterTurn next = Holds c.m c.h c.arguments next

  -- the point at which a frame stands, for the same place of the source
  abbrev pub PointAt : Frame → Type 0
  PointAt frame = Stands c.m (names_at c.m c.a.frame.function) (is_edged c.h frame) c.sides mode seen (source_code c.m c.a.frame) c.a.frame.registers
      (past_code c.h frame) (hard_code c.h frame) frame.masters frame.shadows

  pub lone : AsLone mode c
  lone = as-lone mode c

  -- the source has come to the thread's frames
  pub there : slice_get (source c.m c.arguments (c.turns ++ replicate lone.n c.t)).state.process.threads c.t ≡ Some (Running c.a)
  there =
      let walked : Walked c.m c.s c.t lone.n lone.alone = solo c.m c.s c.t c.x lone.n lone.alone c.at c.facts.going c.facts.whole lone.free lone.ran in
      ap (λ (state : SourceState). slice_get state.process.threads c.t)
      (state-append c.m (opening c.m c.arguments) c.turns (replicate lone.n c.t)
      ∙ ap (λ (state : SourceState). (run_from c.m state (replicate lone.n c.t)).state) c.facts.state ∙ walked.state)
      ∙ set-there c.s.process.threads c.t lone.alone.thread c.x c.at ∙ ap Some lone.thread

  pub placed : IsPlaced c.m c.a.frame.function c.a.frame.block c.a.frame.index c.a.frame.registers
  placed = (source-sound c.m c.arguments (c.turns ++ replicate lone.n c.t) c.accepted c.t (Running c.a) there).0

  -- something is left of the source's block
  pub somewhere : source_code c.m c.a.frame ≡ [] → ⊥
  somewhere left =
      let none : inst_at c.m c.a.frame ≡ None = get-drop-none _ c.a.frame.index left in
      good-alone c.m c.h c.arguments c.good c.s c.turns c.facts.state c.facts.going c.facts.whole c.t c.x c.at lone.n lone.alone lone.free lone.ran c.t Unreachable
      (ap (λ (p : SourceState × Step). p.1)
      (ap (λ (b : Bool). unless_ended b (state_at c.s c.t lone.alone) (turned c.m (state_at c.s c.t lone.alone) c.t (slice_get (slice_set c.s.process.threads c.t lone.alone.thread) c.t))) c.facts.going
      ∙ ap (λ (o : Option (Thread SourceFrame)). turned c.m (state_at c.s c.t lone.alone) c.t o)
      (set-there c.s.process.threads c.t lone.alone.thread c.x c.at ∙ ap Some lone.thread)
      ∙ ap (λ (o : Option Inst). fetched c.m (state_at c.s c.t lone.alone) c.t c.a o) none))

  -- outside, the source's next step isn't undefined
  pub defined : (cause : Cause) → (step c.m c.s c.t).1 ≡ Undefined cause → ⊥
  defined cause e = good-step c.m c.arguments c.turns c.good c.t cause (ap (λ (state : SourceState). (step c.m state c.t).1) c.facts.state ∙ e)

  -- where an instruction stands in the module, at the frame's place
  pub record InPlace (inst : Inst) : Type 0 where
    pub f : FuncParts
    pub stands : slice_get c.m.funcs c.a.frame.function ≡ Some f
    pub block : Block
    pub there : slice_get f.blocks c.a.frame.block ≡ Some block
    pub at : slice_get block.insts c.a.frame.index ≡ Some inst

  module _ (inst : Inst) (after : List Inst) (left : source_code c.m c.a.frame ≡ inst ∷ after) where
    pub found : inst_at c.m c.a.frame ≡ Some inst
    found = get-drop _ c.a.frame.index inst after left

    pub in-place : InPlace inst
    in-place =
        let blocks : source_state.blocks_at c.m.funcs c.a.frame.function ≡ placed.f.blocks =
        ap (λ (o : Option FuncParts). option_map_or (λ (f : FuncParts). f.blocks) o []) placed.stands in
        let in_it = in-block placed.f.blocks c.a.frame.block c.a.frame.index inst
        (ap (λ (blocks : List Block). slice_get (source_state.code_at blocks c.a.frame.block) c.a.frame.index) (sym blocks) ∙ found) in
        record { f = placed.f; stands = placed.stands; block = in_it.block; there = in_it.there; at = in_it.at }

    -- what the source does next by itself can be done
    pub can : IsAlone (action_in c.m c.a.frame inst) → failure (frames c.m) c.s.process.memory.places c.t c.a (action_in c.m c.a.frame inst) ≡ None
    can by_itself = can-inside c.m c.h c.arguments c.good c.s c.turns c.facts.state c.facts.going c.facts.whole c.t c.x c.at lone.n lone.alone lone.free lone.ran
        c.a inst lone.thread found by_itself

    pub not-faulty : (cause : Cause) → action_in c.m c.a.frame inst ≡ Fault cause → ⊥
    not-faulty cause e =
        let none : failure (frames c.m) c.s.process.memory.places c.t c.a (action_in c.m c.a.frame inst) ≡ None =
        can (subst IsAlone (sym e) tt) in
        let some : Some cause ≡ None = sym (ap (failure (frames c.m) c.s.process.memory.places c.t c.a) e) ∙ none in cc

    pub suited : IsSuited c.m inst (action_in c.m c.a.frame inst)
    suited =
        let place : InPlace inst = in-place in
        action-suits c.m (layout_of c.m) c.a.frame.registers inst c.accepted
        (inst-calls c.m c.a.frame.function c.a.frame.block c.a.frame.index place.f place.block inst c.accepted place.stands place.there place.at)

    -- what it reads has words
    pub reads : ReadsWords c.m c.a.frame inst
    reads = reads-next c.m c.arguments (c.turns ++ replicate lone.n c.t) c.t c.a inst c.accepted there found

  -- ---- turns

  -- the instruction at the frame's place
  pub by-head : (inst : HInst) (rest : List HInst) → hard_code c.h c.b.frame ≡ inst ∷ rest → AfterTurn (stepped c.h now c.t here c.b inst)
      → AfterTurn (hard.fetched c.h now c.t here c.b (hard_text.inst_at c.h c.b.frame))
  by-head inst rest e is = rw (get-drop (list_at (blocks_at c.h c.b.frame.function) c.b.frame.block) c.b.frame.index inst rest e) is

  -- the frame moves on at its place, with these registers and words of the runtime
  pub goes-on : (frame : Frame) (attempts counter : ℕ) → frame.function ≡ c.b.frame.function → frame.block ≡ c.b.frame.block → frame.mark ≡ c.b.frame.mark → PointAt frame
      → AfterTurn (with_worker now c.t (record c.v { thread = Running (record c.b { frame = frame }); mode = mode; attempts = attempts; counter = counter }))
  goes-on frame attempts counter e f g point =
      settles c.m c.h c.arguments c.s c.workers c.turns c.upsets c.facts c.t c.x c.at c.v (Running c.b) mode c.hard_at c.sides c.hurt
      (Running (record c.b { frame = frame })) attempts counter
      (ok-from c.m c.h c.sides c.s.process.memory c.t c.x (Running c.a) (Running (record c.b { frame = frame })) mode c.link (record {
        mark = c.mark;
        callers = c.callers;
        frame = record { function = e ∙ c.function; block = f ∙ c.block; mark = g ∙ c.start; point = point };
      }))

  pub failing : (IsFree mode → IsHurt c.sides) → AfterTurn (failed c.h now c.t here c.b.frame)
  failing hurts = halts c.m c.h c.arguments c.s c.workers c.turns c.upsets c.facts c.t c.x c.at c.v (Running c.b) mode c.hard_at c.sides c.hurt Mismatch
      (Fail (record { 0 = c.t }) (place_text c.h c.b.frame)) tt hurts

  pub trapping : (IsFree mode → IsHurt c.sides) → AfterTurn (trapped c.h now c.t here c.b.frame)
  trapping hurts = halts c.m c.h c.arguments c.s c.workers c.turns c.upsets c.facts c.t c.x c.at c.v (Running c.b) mode c.hard_at c.sides c.hurt Other
      (Trap (record { 0 = c.t }) (place_text c.h c.b.frame)) tt hurts

  -- ---- what a passed frame leaves and has left

  pub code-after : (frame : Frame) (inst : HInst) (rest : List HInst) → hard_code c.h frame ≡ inst ∷ rest → hard_code c.h (hard_frame.passed frame) ≡ rest
  code-after frame inst rest e = drop-suc (list_at (blocks_at c.h frame.function) frame.block) frame.index inst rest e

  -- ---- actions

  pub same-layout : layout_of c.h.heads ≡ layout_of c.m
  same-layout = ap layout_of c.image.heads ∙ heads.layout-heads c.m

  pub same-callees : callees_of c.h.heads ≡ callees_of c.m
  same-callees = ap callees_of c.image.heads ∙ heads.callees-heads c.m

  -- what an instruction asks for on a side of the frame
  pub own-action : (side : Side) (inst : Inst) → hard_frame.action_on c.h side c.b.frame inst
      ≡ action_of (layout_of c.m) (callees_of c.m) (hard_frame.file side c.b.frame) inst
  own-action side inst = rw (same-layout, same-callees) refl
