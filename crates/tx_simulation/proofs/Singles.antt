-- An instruction that is done once: what it asks of both frames, whatever its action, and its turn where it does what the source does.
use Rattle.std.proofs.Common.{ℕ, ◌≡◌, ◌⊎◌, ◌∙◌, Bool, true, false, List, [], ◌∷◌, ◌++◌, length, Option, Some, None, refl, ap, sym, subst, inl, inr}
use Rattle.std.specs.Option.{option_map, is_some}
use Rattle.ir_core.specs.declared.types.Ty.{Ty}
use Rattle.ir_core.specs.declared.types.Loc.{Loc}
use Rattle.ir_core.specs.declared.values.Val.{Val}
use Rattle.ir_core.specs.declared.values.Side.{Side}
use Rattle.ir_core.specs.declared.values.Side.TheVariants.{M, S}
use Rattle.ir_core.specs.declared.instruction.Inst.{Inst}
use Rattle.ir_core.specs.declared.instruction.Inst.TheVariants as insts
use Rattle.ir_core.specs.Instructions.{is_phi}
use Rattle.ir_layout.specs.Memory.{layout_of}
use Rattle.mem_image.specs.Bytes.{Memory}
use Rattle.rtm_core.specs.Footprint.{seen_through}
use Rattle.inst_meaning.specs.declared.actions.Cause.{Cause}
use Rattle.inst_meaning.specs.declared.actions.Cause.TheVariants.{Unreachable}
use Rattle.inst_meaning.specs.declared.actions.Place.{Place}
use Rattle.inst_meaning.specs.declared.actions.Action.{Action}
use Rattle.inst_meaning.specs.declared.actions.Action.TheVariants.{Assign, Reserve, Read, Write, Update, Pass, Jump, Call, Ask, Create, Join, Exit, Return, Fault}
use Rattle.inst_meaning.specs.Action.{action_of, callees_of, destination}
use Rattle.inst_meaning.specs.Registers.{get, put}
use Rattle.process.specs.declared.state.Thread.{Thread}
use Rattle.process.specs.declared.state.Thread.TheVariants.{Running}
use Rattle.process.specs.Outcome.{failure, unless, called}
use Rattle.process.specs.State.{in_frame}
use Rattle.process_laws.specs.Alone.{IsAlone}
use Rattle.process_laws.proofs.Likeness.{AreJumps, Asks}
use Rattle.src_meaning.specs.declared.state.Frame.{Frame as SourceFrame}
use Rattle.src_meaning.specs.Step as source
use Rattle.src_meaning.specs.Step.{frames}
use Rattle.src_laws.proofs.Suits.{HasNoResult, JumpsTo, IsSuited}
use Rattle.hard_ir.specs.declared.instruction.HInst.{HInst}
use Rattle.hard_ir.specs.declared.instruction.HInst.TheVariants.{Do}
use Rattle.hard_ir.specs.Image.{is_doubled, is_done_twice, single_result, copies, core, checks_after, checked_before, ends_before}
use Rattle.hard_ir.specs.Images.{LooseRows}
use Rattle.hard_frames.specs.declared.state.Frame.{Frame}
use Rattle.hard_frames.specs.Frames as hard_frame
use Rattle.hard_frames.specs.Frames.{action_on, destination_on}
use Rattle.hard_simulation.proofs.Sides.{Sides, On, IsHurt, on-map}
use Rattle.hard_simulation.proofs.Entries.{drop-suc}
use Rattle.hard_simulation.proofs.Files.{one-fresh}
use Rattle.hard_simulation.proofs.Instructions.{single-destination}
use Rattle.hard_simulation.proofs.Effects.{on_master, in_source}
use Rattle.hard_simulation.proofs.Points.{source_code, hard_code}
use Rattle.hard_meaning.specs.State.{Transaction, Mode, Free, Inside}
use Rattle.hard_meaning.specs.Effects.{transaction_after}
use Rattle.hard_meaning.specs.Locks.{MutexCall, mutex_call, can_watch, watching}
use Rattle.hard_meaning.specs.Turns.{acted, stepped, trapped, watched_if}
use Rattle.tx_simulation.proofs.Reading.{AreSameIn, acts-alike}
use Rattle.tx_simulation.proofs.Points.{IfInside, IsFree, names_at, AgreeIn, AgreeBut, source_action, core_onto, At, Copying, IsFrame, IsCaller, Now, Fresh, alike, IsThreadOn}
use Rattle.tx_simulation.proofs.Named.{put-agrees}
use Rattle.tx_simulation.proofs.Landing.{IsLanding, Lost, Landed, lands}
use Rattle.tx_simulation.proofs.Entries.{one-but, enters, enters-fresh, resumes}
use Rattle.tx_simulation.proofs.Inner.{in-tx, link-called}
use Rattle.tx_simulation.proofs.Acts.{can-call, watches}
use Rattle.tx_simulation.proofs.Scene.{Scene, here, now, seen, AfterTurn, placed, found, not-faulty, can, suited, trapping, own-action}
use Rattle.tx_simulation.proofs.Silent.{PointIn, ends-at}
use Rattle.tx_simulation.proofs.Once.{done-outside, transaction_then, done-inside}
use Rattle.tx_simulation.proofs.InsideActions.{Inner, ByItself, OfMutex, inner-kind}

-- ---- such an instruction

once-doubled : (inst : Inst) → is_done_twice inst ≡ false → is_doubled inst ≡ false
once-doubled (insts.Bin dst op flags w a b) once = cc
once-doubled (insts.Cmp dst pred ty a b) once = cc
once-doubled (insts.Select dst cond ty a b) once = cc
once-doubled (insts.Cast dst op from a to) once = cc
once-doubled (insts.Gep dst base ptr index) once = cc
once-doubled (insts.Extract dst elem pair index) once = cc
once-doubled inst once = refl

pub once-core : (inst : Inst) → is_done_twice inst ≡ false → is_phi inst ≡ false → core inst ≡ Do M inst true ∷ copies (single_result inst)
once-core (insts.Bin dst op flags w a b) once plain = cc
once-core (insts.Cmp dst pred ty a b) once plain = cc
once-core (insts.Select dst cond ty a b) once plain = cc
once-core (insts.Cast dst op from a to) once plain = cc
once-core (insts.Gep dst base ptr index) once plain = cc
once-core (insts.Extract dst elem pair index) once plain = cc
once-core (insts.Load dst ty ptr false) once plain = cc
once-core (insts.Load dst ty ptr true) once plain = refl
once-core (insts.Phi dst ty arms) once plain = cc
once-core inst once plain = refl

-- an instruction about to be done, all its checks passed
pub record IsReady (mode : Mode) (c : Scene mode) (inst : Inst) : Type 0 where
  pub after : List Inst
  pub left : source_code c.m c.a.frame ≡ inst ∷ after
  pub rest : List HInst
  pub code : hard_code c.h c.b.frame ≡ core_onto inst rest
  pub rows : LooseRows c.m after rest
  pub once : is_done_twice inst ≡ false
  pub plain : is_phi inst ≡ false
  pub kind : IsFree mode ⊎ (ends_before c.m inst ≡ [])
  pub masters : On c.sides M (AgreeIn (names_at c.m c.a.frame.function) c.b.frame.masters c.a.frame.registers)
  pub shadows : On c.sides S (AgreeIn (names_at c.m c.a.frame.function) c.b.frame.shadows c.a.frame.registers)
  pub again : IfInside mode (AreSameIn c.b.frame.masters c.a.frame.registers (checked_before inst) → PointIn mode c (Free false) (seen mode c) c.b.frame)

module _ (mode : Mode) (c : Scene mode) (inst : Inst) (r : IsReady mode c inst) where
  -- ---- where its result goes

  result : Option (Ty × Loc)
  result = single_result inst

  to-register : destination inst ≡ in_source (single_result inst)
  to-register = single-destination inst (once-doubled inst r.once) r.plain

  on-master-side : destination_on M inst ≡ on_master (single_result inst)
  on-master-side = ap on_m to-register ∙ by_result (single_result inst)
    where
      on_m : Option Loc → Option (Side × Loc)
      on_m o = option_map (λ (at : Loc). (M, at)) o

      by_result : (o : Option (Ty × Loc)) → on_m (in_source o) ≡ on_master o
      by_result None = refl
      by_result (Some reg) = refl

  pub head : hard_code c.h c.b.frame ≡ Do M inst true ∷ (copies (single_result inst) ++ (checks_after inst ++ r.rest))
  head = r.code ∙ ap (λ (list : List HInst). list ++ (checks_after inst ++ r.rest)) (once-core inst r.once r.plain)

  frame-with : (o : Option (Ty × Loc)) → hard_code c.h c.b.frame ≡ Do M inst true ∷ (copies o ++ r.rest) → (n : ℕ) (k : Mode) (mem : Memory)
      → IsFrame c.m c.h c.sides k mem (source.resulted (in_source o) n c.a.frame)
      (hard_frame.resulted (on_master o) n c.b.frame)
  frame-with None code n k mem = record {
    function = c.function;
    block = c.block;
    mark = c.start;
    point = At (rw (drop-suc _ c.a.frame.index inst r.after r.left, drop-suc _ c.b.frame.index _ r.rest code) r.rows) r.masters r.shadows;
  }
  frame-with (Some reg) code n k mem = record {
    function = c.function;
    block = c.block;
    mark = c.start;
    point = Copying (reg ∷ []) r.rest (drop-suc _ c.b.frame.index _ _ code) (rw (drop-suc _ c.a.frame.index inst r.after r.left) r.rows)
        (one-fresh reg c.b.frame.masters c.a.frame.registers n)
        (on-map c.sides M _ _ (λ (e : AgreeIn (names_at c.m c.a.frame.function) c.b.frame.masters c.a.frame.registers).
        put-agrees (names_at c.m c.a.frame.function) c.b.frame.masters c.a.frame.registers reg.1.0 n e) r.masters)
        (on-map c.sides S _ _ (λ (e : AgreeIn (names_at c.m c.a.frame.function) c.b.frame.shadows c.a.frame.registers).
        one-but (names_at c.m c.a.frame.function) reg c.b.frame.shadows c.a.frame.registers n e) r.shadows);
  }

  -- ---- where no late checks follow

  module _ (none : checks_after inst ≡ []) where
    code-then : hard_code c.h c.b.frame ≡ Do M inst true ∷ (copies (single_result inst) ++ r.rest)
    code-then = head ∙ ap (λ (list : List HInst). Do M inst true ∷ (copies (single_result inst) ++ (list ++ r.rest))) none

    pub results : (n : ℕ) (k : Mode) (mem : Memory) → IsFrame c.m c.h c.sides k mem (source.resulted (destination inst) n c.a.frame)
        (hard_frame.resulted (destination_on M inst) n c.b.frame)
    results n k mem = subst (λ (o : Option Loc). IsFrame c.m c.h c.sides k mem (source.resulted o n c.a.frame) (hard_frame.resulted (destination_on M inst) n c.b.frame)) (sym to-register)
        (subst (λ (o : Option (Side × Loc)). IsFrame c.m c.h c.sides k mem (source.resulted (in_source (single_result inst)) n c.a.frame) (hard_frame.resulted o n c.b.frame))
        (sym on-master-side) (frame-with (single_result inst) code-then n k mem))

    advances : destination inst ≡ None → (k : Mode) (mem : Memory) → IsFrame c.m c.h c.sides k mem (source.passed c.a.frame) (hard_frame.passed c.b.frame)
    advances without k mem = subst (λ (o : Option Loc). IsFrame c.m c.h c.sides k mem (source.resulted o 0 c.a.frame)
        (hard_frame.resulted (to_master o) 0 c.b.frame)) without (results 0 k mem)
      where
        to_master : Option Loc → Option (Side × Loc)
        to_master o = option_map (λ (at : Loc). (M, at)) o

    waiting : IsCaller c.m c.h c.sides (source.suspended (destination inst) c.a.frame) (hard_frame.suspended (destination_on M inst) c.b.frame)
    waiting = record {
      function = c.function;
      block = c.block;
      mark = c.start;
      result = single_result inst;
      waits = to-register;
      takes = on-master-side;
      rest = r.rest;
      code = drop-suc _ c.b.frame.index _ _ code-then;
      image = rw (drop-suc _ c.a.frame.index inst r.after r.left) r.rows;
      masters = r.masters;
      shadows = r.shadows;
    }

    -- what its action asks, in any mode, over any memory
    pub asks-of : (k : Mode) (mem : Memory) (action : Action) → IsSuited c.m inst action
        → ((label : Loc) → action ≡ Jump label → AreJumps (alike c.m c.h) (Now c.sides k mem) (source.jumped c.m c.a.frame label) (hard_frame.jumped c.h c.b.frame label))
        → Asks (alike c.m c.h) (frames c.m) (hard_frame.frames c.h) (Now c.sides k mem) (destination inst) (destination_on M inst) c.a.frame c.b.frame action
    asks-of k mem (Assign n) suits jumps = λ i. results i k mem
    asks-of k mem (Reserve size) suits jumps = λ i. results i k mem
    asks-of k mem (Read place atomic) suits jumps = λ i. results i k mem
    asks-of k mem (Write place n atomic) suits jumps = advances suits.suits.1 k mem
    asks-of k mem (Update place update) suits jumps = λ i. results i k mem
    asks-of k mem Pass suits jumps = advances suits.suits.1 k mem
    asks-of k mem (Jump label) suits jumps = jumps label refl
    asks-of k mem (Call n words) suits jumps = record {
      entered = λ mark. enters c.m c.h c.image c.accepted n words mark suits.suits.1 c.sides k mem;
      suspended = waiting;
    }
    asks-of k mem (Ask request) suits jumps = λ i. results i k mem
    asks-of k mem (Create address n argument) suits jumps = record {
      results = λ i. results i k mem;
      new = Fresh;
      good = tt;
      entered = λ mark. enters-fresh c.m c.h c.image c.accepted n (argument ∷ []) mark suits.suits.1;
    }
    asks-of k mem (Join other) suits jumps = λ i. results i k mem
    asks-of k mem (Exit code) suits jumps = tt
    asks-of k mem (Return n) suits jumps = record { mark = c.start; resumed = λ x y is. resumes c.m c.h c.sides k mem x y n is }
    asks-of k mem (Fault cause) suits jumps = tt

-- ---- turns

-- a call of a mutex, inside
mutex-inside : (tx : Transaction) (c : Scene (Inside tx)) (inst : Inst) (r : IsReady (Inside tx) c inst) → checks_after inst ≡ []
    → AreSameIn c.b.frame.masters c.a.frame.registers (checked_before inst) → (action : Action) → source_action c.m c.a.frame.registers inst ≡ action
    → (call : MutexCall) → mutex_call action ≡ Some call
    → AfterTurn (Inside tx) c (acted c.h (now (Inside tx) c) c.t (here (Inside tx) c) c.b (destination_on M inst) true action)
mutex-inside tx c inst r none same action acts call is = rw is (by_test (can_watch call c.s.process.world tx) refl)
  where
    by_test : (b : Bool) → can_watch call c.s.process.world tx ≡ b
        → AfterTurn (Inside tx) c (watched_if b (now (Inside tx) c) c.t (here (Inside tx) c) c.b (destination_on M inst) true call c.h tx)
    by_test true can = watches c.m c.h c.arguments c.s c.workers c.turns c.upsets c.facts c.t c.x c.at c.v (Running c.b) tx c.hard_at c.sides c.hurt call
        (called (hard_frame.frames c.h) (destination_on M inst) c.b 0) can
        (in-tx c.m c.h c.sides c.s.process.memory c.t c.x (called (frames c.m) (destination inst) c.a 0) (called (hard_frame.frames c.h) (destination_on M inst) c.b 0)
        (transaction_after true None None (watching call tx))
        (link-called c.m c.h c.sides c.s.process.memory c.t c.x tx c.a inst call c.link (found (Inside tx) c inst r.after r.left) (ap mutex_call acts ∙ is)
        (can-call call c.s.process.world tx can))
        (record {
          mark = c.mark;
          callers = c.callers;
          frame = results (Inside tx) c inst r none 0 (Inside (transaction_after true None None (watching call tx)))
              (seen_through (transaction_after true None None (watching call tx)).footprint c.s.process.memory);
        }))
    by_test false can = ends-at (Inside tx) c c.b.frame (record { function = refl; block = refl; mark = refl }) (r.again same)

-- ---- a branch

-- the hardened frame can't go along the edge
pub jump-none : (mode : Mode) (c : Scene mode) (target : Option (Side × Loc)) (label : Loc) → hard_frame.jumped c.h c.b.frame label ≡ None
    → acted c.h (now mode c) c.t (here mode c) c.b target true (Jump label) ≡ trapped c.h (now mode c) c.t (here mode c) c.b.frame
jump-none (Free plain) c target label e = rw e refl
jump-none (Inside tx) c target label e = rw e refl

module _ (mode : Mode) (c : Scene mode) (inst : Inst) (r : IsReady mode c inst) where
  -- the source goes along the edge
  pub goes-along : (label : Loc) → source_action c.m c.a.frame.registers inst ≡ Jump label → (frame : SourceFrame) × (source.jumped c.m c.a.frame label ≡ Some frame)
  goes-along label acts = by_jump (source.jumped c.m c.a.frame label) refl
    where
      fails : unless (is_some (source.jumped c.m c.a.frame label)) Unreachable ≡ None
      fails = subst (λ (k : Action). IsAlone k → failure (frames c.m) c.s.process.memory.places c.t c.a k ≡ None) acts (can mode c inst r.after r.left) tt

      by_jump : (o : Option SourceFrame) → source.jumped c.m c.a.frame label ≡ o → (frame : SourceFrame) × (source.jumped c.m c.a.frame label ≡ Some frame)
      by_jump (Some frame) e = (frame, e)
      by_jump None e = let none : Some Unreachable ≡ None = sym (ap (λ (o : Option SourceFrame). unless (is_some o) Unreachable) e) ∙ fails in absurd cc

  module _ (label : Loc) (acts : source_action c.m c.a.frame.registers inst ≡ Jump label) (jumps : JumpsTo inst label) where
    landing : (k : Mode) (mem : Memory) → IsLanding c.m c.h c.sides k mem (goes-along label acts).0 (hard_frame.jumped c.h c.b.frame label)
    landing k mem = lands c.m c.h c.image c.accepted c.sides k mem c.a.frame c.b.frame c.function c.block c.start r.masters r.shadows inst label (placed mode c)
        (found mode c inst r.after r.left) jumps acts (goes-along label acts).0 (goes-along label acts).1

    pub lost-or-lands : (hard_frame.jumped c.h c.b.frame label ≡ None → IsHurt c.sides)
        × ((other : Frame) → hard_frame.jumped c.h c.b.frame label ≡ Some other → (k : Mode) (mem : Memory)
        → AreJumps (alike c.m c.h) (Now c.sides k mem) (source.jumped c.m c.a.frame label) (hard_frame.jumped c.h c.b.frame label))
    lost-or-lands = (λ e. by_lost e (landing mode (seen mode c)), λ other e k mem. by_landing other e k mem (landing k mem))
      where
        by_lost : hard_frame.jumped c.h c.b.frame label ≡ None → IsLanding c.m c.h c.sides mode (seen mode c) (goes-along label acts).0 (hard_frame.jumped c.h c.b.frame label) → IsHurt c.sides
        by_lost e (Lost none hurt) = hurt
        by_lost e (Landed other some is) = let clash : Some other ≡ None = sym some ∙ e in absurd cc

        by_landing : (other : Frame) → hard_frame.jumped c.h c.b.frame label ≡ Some other → (k : Mode) (mem : Memory)
            → IsLanding c.m c.h c.sides k mem (goes-along label acts).0 (hard_frame.jumped c.h c.b.frame label)
            → AreJumps (alike c.m c.h) (Now c.sides k mem) (source.jumped c.m c.a.frame label) (hard_frame.jumped c.h c.b.frame label)
        by_landing other e k mem (Lost none hurt) = let clash : Some other ≡ None = sym e ∙ none in absurd cc
        by_landing other e k mem (Landed to some is) =
            subst (λ (o : Option SourceFrame). AreJumps (alike c.m c.h) (Now c.sides k mem) o (hard_frame.jumped c.h c.b.frame label)) (sym (goes-along label acts).1)
            (subst (λ (o : Option Frame). AreJumps (alike c.m c.h) (Now c.sides k mem) (Some (goes-along label acts).0) o) (sym some) is)

-- ---- whatever it does, as long as it is what the source does

-- where a branch goes, both frames go
abbrev pub JumpsAlike : (mode : Mode) → Scene mode → Action → Type 0
JumpsAlike mode c action = (k : Mode) (mem : Memory) (label : Loc) → action ≡ Jump label
    → AreJumps (alike c.m c.h) (Now c.sides k mem) (source.jumped c.m c.a.frame label) (hard_frame.jumped c.h c.b.frame label)

abbrev pub Does : (mode : Mode) → Scene mode → Inst → Action → Type 0
Does mode c inst action = AfterTurn mode c (acted c.h (now mode c) c.t (here mode c) c.b (destination_on M inst) true action)

suits-as : (mode : Mode) (c : Scene mode) (inst : Inst) (r : IsReady mode c inst) (action : Action) → source_action c.m c.a.frame.registers inst ≡ action → IsSuited c.m inst action
suits-as mode c inst r action acts = subst (IsSuited c.m inst) acts (suited mode c inst r.after r.left)

does-as : (mode : Mode) (c : Scene mode) (inst : Inst) (r : IsReady mode c inst) → checks_after inst ≡ []
    → (action : Action) → source_action c.m c.a.frame.registers inst ≡ action
    → ((call : MutexCall) → mutex_call action ≡ Some call → AreSameIn c.b.frame.masters c.a.frame.registers (checked_before inst))
    → JumpsAlike mode c action → Does mode c inst action
does-as (Free plain) c inst r none action acts same jumps = done-outside plain c inst r.after r.left action acts (destination_on M inst)
    (λ mem. asks-of (Free plain) c inst r none (Free plain) mem action (suits-as (Free plain) c inst r action acts) (jumps (Free plain) mem))
does-as (Inside tx) c inst r none action acts same jumps = by_kind r.kind
  where
    by_inner : Inner action → Does (Inside tx) c inst action
    by_inner (ByItself by_itself plain) = done-inside tx c inst r.after r.left action acts by_itself (destination_on M inst) plain
        (asks-of (Inside tx) c inst r none (Inside (transaction_then tx c inst r.after r.left action acts by_itself (destination_on M inst)))
        (seen_through (transaction_then tx c inst r.after r.left action acts by_itself (destination_on M inst)).footprint c.s.process.memory) action
        (suits-as (Inside tx) c inst r action acts)
        (jumps (Inside (transaction_then tx c inst r.after r.left action acts by_itself (destination_on M inst)))
        (seen_through (transaction_then tx c inst r.after r.left action acts by_itself (destination_on M inst)).footprint c.s.process.memory)))
    by_inner (OfMutex call is) = mutex-inside tx c inst r none (same call is) action acts call is

    by_kind : IsFree (Inside tx) ⊎ (ends_before c.m inst ≡ []) → Does (Inside tx) c inst action
    by_kind (inl free) = absurd free
    by_kind (inr ends) = by_inner (subst Inner acts (inner-kind c.m (layout_of c.m) c.a.frame.registers inst ends))

module _ (mode : Mode) (c : Scene mode) (inst : Inst) (r : IsReady mode c inst) (none : checks_after inst ≡ []) where
  pub branches-to : (label : Loc) → source_action c.m c.a.frame.registers inst ≡ Jump label → (o : Option Frame) → hard_frame.jumped c.h c.b.frame label ≡ o → Does mode c inst (Jump label)
  branches-to label acts None e = subst (AfterTurn mode c) (sym (jump-none mode c (destination_on M inst) label e))
      (trapping mode c (λ free. (lost-or-lands mode c inst r label acts (suits-as mode c inst r (Jump label) acts).suits).0 e))
  branches-to label acts (Some other) e = does-as mode c inst r none (Jump label) acts (λ call e. cc) (λ k mem to f.
      let is : label ≡ to = cc in
      subst (λ (at : Loc). AreJumps (alike c.m c.h) (Now c.sides k mem) (source.jumped c.m c.a.frame at) (hard_frame.jumped c.h c.b.frame at)) is
      ((lost-or-lands mode c inst r label acts (suits-as mode c inst r (Jump label) acts).suits).1 other e k mem))

module _ (mode : Mode) (c : Scene mode) (inst : Inst) (r : IsReady mode c inst) (none : checks_after inst ≡ [])
    (same : AreSameIn c.b.frame.masters c.a.frame.registers (checked_before inst)) where
  does : (action : Action) → source_action c.m c.a.frame.registers inst ≡ action → Does mode c inst action
  does (Jump label) acts = branches-to mode c inst r none label acts (hard_frame.jumped c.h c.b.frame label) refl
  does (Assign n) acts = does-as mode c inst r none (Assign n) acts (λ call e. same) (λ k mem label e. cc)
  does (Reserve size) acts = does-as mode c inst r none (Reserve size) acts (λ call e. same) (λ k mem label e. cc)
  does (Read place atomic) acts = does-as mode c inst r none (Read place atomic) acts (λ call e. same) (λ k mem label e. cc)
  does (Write place n atomic) acts = does-as mode c inst r none (Write place n atomic) acts (λ call e. same) (λ k mem label e. cc)
  does (Update place update) acts = does-as mode c inst r none (Update place update) acts (λ call e. same) (λ k mem label e. cc)
  does Pass acts = does-as mode c inst r none Pass acts (λ call e. same) (λ k mem label e. cc)
  does (Call n words) acts = does-as mode c inst r none (Call n words) acts (λ call e. same) (λ k mem label e. cc)
  does (Ask request) acts = does-as mode c inst r none (Ask request) acts (λ call e. same) (λ k mem label e. cc)
  does (Create address n argument) acts = does-as mode c inst r none (Create address n argument) acts (λ call e. same) (λ k mem label e. cc)
  does (Join other) acts = does-as mode c inst r none (Join other) acts (λ call e. same) (λ k mem label e. cc)
  does (Exit code) acts = does-as mode c inst r none (Exit code) acts (λ call e. same) (λ k mem label e. cc)
  does (Return n) acts = does-as mode c inst r none (Return n) acts (λ call e. same) (λ k mem label e. cc)
  does (Fault cause) acts = absurd (not-faulty mode c inst r.after r.left cause acts)

  -- its turn, where no late checks follow
  pub once-turn : AfterTurn mode c (stepped c.h (now mode c) c.t (here mode c) c.b (Do M inst true))
  once-turn = subst (λ (k : Action). Does mode c inst k) (sym (own-action mode c M inst ∙ acts-alike (layout_of c.m) c.b.frame.masters c.a.frame.registers (callees_of c.m) inst r.once same))
      (does (source_action c.m c.a.frame.registers inst) refl)
