-- An instruction that is done on each side, an operator or a plain load: the master's turn, and the shadow's, which retires it.
--
-- Choice: one lemma for both kinds. What a side does by itself is a word, that it assigns or reads; where the side is known it is the source's.
use Rattle.std.proofs.Common.{ℕ, ◌≡◌, ◌∙◌, Bool, true, false, List, [], ◌∷◌, ◌++◌, Option, Some, None, refl, ap, sym, subst}
use Rattle.std.specs.Option.{option_map}
use Rattle.ir_core.specs.declared.types.Ty.{Ty}
use Rattle.ir_core.specs.declared.types.Loc.{Loc}
use Rattle.ir_core.specs.declared.types.Width.{Width}
use Rattle.ir_core.specs.declared.values.Side.{Side}
use Rattle.ir_core.specs.declared.values.Side.TheVariants.{M, S}
use Rattle.ir_core.specs.declared.instruction.Inst.{Inst}
use Rattle.ir_core.specs.declared.instruction.Inst.TheVariants as insts
use Rattle.ir_core.specs.Module.{ModuleParts}
use Rattle.ir_layout.specs.Memory.{LayoutParts, layout_of, is_valid}
use Rattle.ir_layout.specs.declared.spans.Span.{Span}
use Rattle.ir_flow.specs.Uses.{regs_in}
use Rattle.ir_check.proofs.Members.{IsIn}
use Rattle.mem_image.specs.Accesses.{bytes}
use Rattle.mem_image.specs.Bytes.{Memory, peek}
use Rattle.mem_image.specs.Lines.{line_of}
use Rattle.mem_image.specs.Touches.{Touch, Store}
use Rattle.inst_meaning.specs.declared.actions.Callee.{Callee}
use Rattle.inst_meaning.specs.declared.actions.Cause.{Cause}
use Rattle.inst_meaning.specs.declared.actions.Cause.TheVariants.{Access}
use Rattle.inst_meaning.specs.declared.actions.Place.{Place}
use Rattle.inst_meaning.specs.declared.actions.Action.{Action}
use Rattle.inst_meaning.specs.declared.actions.Action.TheVariants.{Assign, Read, Fault}
use Rattle.inst_meaning.specs.Accesses.{place_of, word_read}
use Rattle.inst_meaning.specs.Action.{on_word, on_width, place_at, action_of, callees_of, destination}
use Rattle.inst_meaning.specs.Operands.{memory_width, pointer_word}
use Rattle.inst_meaning.specs.Registers.{get, put}
use Rattle.inst_laws.specs.Agreement.{IsDefined}
use Rattle.process.specs.declared.state.CallStack.{CallStack}
use Rattle.process.specs.declared.state.Thread.{Thread}
use Rattle.process.specs.declared.state.Thread.TheVariants.{Running}
use Rattle.process.specs.Outcome.{failure, touch_at, store_of, thread_after, unless, goes_unless}
use Rattle.process.specs.State.{in_frame}
use Rattle.process_laws.specs.Alone.{IsAlone}
use Rattle.src_meaning.specs.declared.state.Frame.{Frame as SourceFrame}
use Rattle.src_meaning.specs.Step as source
use Rattle.src_meaning.specs.Step.{frames, action_in}
use Rattle.hard_ir.specs.declared.instruction.HInst.{HInst}
use Rattle.hard_ir.specs.declared.instruction.HInst.TheVariants.{Do}
use Rattle.hard_ir.specs.Image.{unflagged, is_done_twice, body_of}
use Rattle.hard_ir.specs.Images.{LooseRows}
use Rattle.hard_frames.specs.declared.state.Frame.{Frame}
use Rattle.hard_frames.specs.Frames as hard_frame
use Rattle.hard_frames.specs.Frames.{file, with_file, action_on, destination_on}
use Rattle.hard_simulation.proofs.Sides.{Sides, Both, Alone, On, IsHurt, on-map, hurt-if}
use Rattle.hard_simulation.proofs.Entries.{drop-suc}
use Rattle.hard_simulation.proofs.Instructions.{CanBe, Done, Faulty, can-be, doubled-assigns, doubled-destination, unflagged-action, unflagged-destination}
use Rattle.hard_simulation.proofs.Points.{source_code, hard_code}
use Rattle.hard_meaning.specs.State.{Transaction, Mode, Free, Inside, Worker, seen_in}
use Rattle.hard_meaning.specs.Effects.{mode_after, tried}
use Rattle.hard_meaning.specs.Turns.{acted, stepped, trapped}
use Rattle.tx_simulation.proofs.Reading.{SameOn, acts-same}
use Rattle.tx_simulation.proofs.Points.{touched, IfInside, IsFree, names_at, past_code, AgreeIn, IsRead, given_by, source_action, Stands, Doubling, At, IsThreadOn}
use Rattle.tx_simulation.proofs.Lines.{never-both, touched-own, touched-keeps}
use Rattle.tx_simulation.proofs.Inner.{Covers}
use Rattle.tx_simulation.proofs.Named.{put-agrees}
use Rattle.tx_simulation.proofs.Scene.{Scene, here, now, seen, AfterTurn, not-faulty, can, by-head, code-after, trapping, own-action}
use Rattle.tx_simulation.proofs.Quiet.{quiet_effect, StillOn, tries-looking, IsQuiet, tries-quietly}
use Rattle.tx_simulation.proofs.Checking.{named-read, IsChecked, Turns}

-- ---- what such an instruction asks for

-- it assigns a word, reads one, or can't be done
pub data Word (action : Action) : Type 0 where
  Assigned : (n : ℕ) → action ≡ Assign n → Word action
  Loaded : (place : Place) → action ≡ Read place false → Word action
  Undone : (cause : Cause) → action ≡ Fault cause → Word action

word-of-double : (action : Action) → (IsDefined action → (n : ℕ) × (action ≡ Assign n)) → Word action
word-of-double action assigns = by_action (can-be action)
  where
    by_action : CanBe action → Word action
    by_action (Done is) = let word = assigns is in Assigned word.0 word.1
    by_action (Faulty cause e) = Undone cause e

word-of-load : (o : Option Width) (p : Option ℕ) → Word (on_width o (λ w. on_word p (λ address. Read (place_at address w) false)))
word-of-load None p = Undone _ refl
word-of-load (Some w) None = Undone _ refl
word-of-load (Some w) (Some address) = Loaded (place_at address w) refl

pub word-of : (l : LayoutParts) (callees : List Callee) (registers : List (Option ℕ)) (inst : Inst) → is_done_twice inst ≡ true
    → Word (action_of l callees registers inst)
word-of l callees registers (insts.Bin dst op flags w a b) twice = word-of-double _ (doubled-assigns l callees registers (insts.Bin dst op flags w a b) refl)
word-of l callees registers (insts.Cmp dst pred ty a b) twice = word-of-double _ (doubled-assigns l callees registers (insts.Cmp dst pred ty a b) refl)
word-of l callees registers (insts.Select dst cond ty a b) twice = word-of-double _ (doubled-assigns l callees registers (insts.Select dst cond ty a b) refl)
word-of l callees registers (insts.Cast dst op from a to) twice = word-of-double _ (doubled-assigns l callees registers (insts.Cast dst op from a to) refl)
word-of l callees registers (insts.Gep dst base ptr index) twice = word-of-double _ (doubled-assigns l callees registers (insts.Gep dst base ptr index) refl)
word-of l callees registers (insts.Extract dst elem pair index) twice = word-of-double _ (doubled-assigns l callees registers (insts.Extract dst elem pair index) refl)
word-of l callees registers (insts.Load dst ty ptr false) twice = word-of-load (memory_width ty) (pointer_word l registers ptr)
word-of l callees registers (insts.Load dst ty ptr true) twice = absurd cc
word-of l callees registers inst twice = absurd cc

unflagged-twice : (inst : Inst) → is_done_twice inst ≡ true → is_done_twice (unflagged inst) ≡ true
unflagged-twice (insts.Bin dst op flags w a b) twice = refl
unflagged-twice inst twice = twice

unflagged-reads : (inst : Inst) → regs_in (unflagged inst) ≡ regs_in inst
unflagged-reads (insts.Bin dst op flags w a b) = refl
unflagged-reads inst = refl

twice-destination : (inst : Inst) → is_done_twice inst ≡ true → (dst : Loc) × (destination inst ≡ Some dst)
twice-destination (insts.Load dst ty ptr atomic) twice = (dst, refl)
twice-destination (insts.Bin dst op flags w a b) twice = (dst, refl)
twice-destination (insts.Cmp dst pred ty a b) twice = (dst, refl)
twice-destination (insts.Select dst cond ty a b) twice = (dst, refl)
twice-destination (insts.Cast dst op from a to) twice = (dst, refl)
twice-destination (insts.Gep dst base ptr index) twice = (dst, refl)
twice-destination (insts.Extract dst elem pair index) twice = (dst, refl)
twice-destination inst twice = absurd cc

pub body-twice : (m : ModuleParts) (inst : Inst) (rest : List HInst) → is_done_twice inst ≡ true
    → body_of m inst ++ rest ≡ Do M (unflagged inst) false ∷ Do S (unflagged inst) true ∷ rest
body-twice m (insts.Bin dst op flags w a b) rest twice = refl
body-twice m (insts.Cmp dst pred ty a b) rest twice = refl
body-twice m (insts.Select dst cond ty a b) rest twice = refl
body-twice m (insts.Cast dst op from a to) rest twice = refl
body-twice m (insts.Gep dst base ptr index) rest twice = refl
body-twice m (insts.Extract dst elem pair index) rest twice = refl
body-twice m (insts.Load dst ty ptr false) rest twice = refl
body-twice m (insts.Load dst ty ptr true) rest twice = absurd cc
body-twice m inst rest twice = absurd cc

-- ---- what comes of it

-- the source's thread has the word
gives-thread : (m : ModuleParts) (dst : Option Loc) (a : CallStack SourceFrame) (mem : Memory) (action : Action) (word : ℕ) → Word action
    → given_by mem action ≡ Some word → thread_after (frames m) dst a action (word_read mem action) ≡ in_frame a (source.resulted dst word a.frame)
gives-thread m dst a mem action word (Assigned n e) given =
    let same : n ≡ word = let both : Some n ≡ Some word = sym (ap (given_by mem) e) ∙ given in cc in
    ap (λ (k : Action). thread_after (frames m) dst a k (word_read mem k)) e ∙ ap (λ (n : ℕ). in_frame a (source.resulted dst n a.frame)) same
gives-thread m dst a mem action word (Loaded place e) given =
    let same : peek mem place.address (bytes place.size) ≡ word =
    let both : Some (peek mem place.address (bytes place.size)) ≡ Some word = sym (ap (given_by mem) e) ∙ given in cc in
    ap (λ (k : Action). thread_after (frames m) dst a k (word_read mem k)) e ∙ ap (λ (n : ℕ). in_frame a (source.resulted dst n a.frame)) same
gives-thread m dst a mem action word (Undone cause e) given = let none : None ≡ Some word = sym (ap (given_by mem) e) ∙ given in absurd cc

word-alone : (action : Action) → Word action → IsAlone action
word-alone action (Assigned n e) = subst IsAlone (sym e) tt
word-alone action (Loaded place e) = subst IsAlone (sym e) tt
word-alone action (Undone cause e) = subst IsAlone (sym e) tt

word-stores : (action : Action) → Word action → (old : ℕ) → store_of action old ≡ None
word-stores action (Assigned n e) old = ap (λ (k : Action). store_of k old) e
word-stores action (Loaded place e) old = ap (λ (k : Action). store_of k old) e
word-stores action (Undone cause e) old = ap (λ (k : Action). store_of k old) e

module _ (mode : Mode) (c : Scene mode) (retires : Bool) (target : Option (Side × Loc)) where
  -- the thread once a word went to the register
  abbrev word_put : ℕ → Thread Frame
  word_put n = in_frame c.b (hard_frame.resulted target n c.b.frame)

assigns-as : (mode : Mode) (c : Scene mode) (retires : Bool) (target : Option (Side × Loc)) (n : ℕ)
    → acted c.h (now mode c) c.t (here mode c) c.b target retires (Assign n)
    ≡ tried (now mode c) c.t (here mode c) retires None (quiet_effect mode c (word_put mode c retires target n) None)
assigns-as (Free plain) c retires target n = refl
assigns-as (Inside tx) c retires target n = refl

reads-as : (mode : Mode) (c : Scene mode) (retires : Bool) (target : Option (Side × Loc)) (place : Place)
    → is_valid c.s.process.memory.places place.address (bytes place.size) ≡ true
    → acted c.h (now mode c) c.t (here mode c) c.b target retires (Read place false)
    ≡ tried (now mode c) c.t (here mode c) retires None
    (quiet_effect mode c (word_put mode c retires target (peek (seen mode c) place.address (bytes place.size))) (Some (touch_at place true false)))
reads-as (Free plain) c retires target place valid = rw valid refl
reads-as (Inside tx) c retires target place valid = rw valid refl

misses-as : (mode : Mode) (c : Scene mode) (retires : Bool) (target : Option (Side × Loc)) (place : Place)
    → is_valid c.s.process.memory.places place.address (bytes place.size) ≡ false
    → acted c.h (now mode c) c.t (here mode c) c.b target retires (Read place false) ≡ trapped c.h (now mode c) c.t (here mode c) c.b.frame
misses-as (Free plain) c retires target place valid = rw valid refl
misses-as (Inside tx) c retires target place valid = rw valid refl

pub faults-as : (mode : Mode) (c : Scene mode) (retires : Bool) (target : Option (Side × Loc)) (cause : Cause)
    → acted c.h (now mode c) c.t (here mode c) c.b target retires (Fault cause) ≡ trapped c.h (now mode c) c.t (here mode c) c.b.frame
faults-as (Free plain) c retires target cause = refl
faults-as (Inside tx) c retires target cause = refl

-- ---- reads and lines

reads-own : (mode : Mode) (retires : Bool) (place : Place)
    → IfInside (mode_after retires (Some (touch_at place true false)) None mode)
    (touched (mode_after retires (Some (touch_at place true false)) None mode) (line_of place.address) ≡ true)
reads-own (Free plain) retires place = tt
reads-own (Inside tx) retires place = touched-own retires None tx (touch_at place true false) refl

covers-none : (mode : Mode) (retires : Bool) → IfInside (mode_after retires None None mode) (Covers (mode_after retires None None mode) None)
covers-none (Free plain) retires = tt
covers-none (Inside tx) retires = tt

covers-read : (tx : Transaction) (touch : Option Touch) (mem : Memory) (action : Action) → Word action → IsRead (Inside tx) mem action
    → Covers (mode_after true touch None (Inside tx)) (place_of action)
covers-read tx touch mem action (Assigned n e) r = subst (λ (k : Action). Covers (mode_after true touch None (Inside tx)) (place_of k)) (sym e) tt
covers-read tx touch mem action (Undone cause e) r = subst (λ (k : Action). Covers (mode_after true touch None (Inside tx)) (place_of k)) (sym e) tt
covers-read tx touch mem action (Loaded place e) r =
    let own : IsRead (Inside tx) mem (Read place false) = subst (IsRead (Inside tx) mem) e r in
    subst (λ (k : Action). Covers (mode_after true touch None (Inside tx)) (place_of k)) (sym e) (touched-keeps true None tx touch (line_of place.address) own.1)

covers-either : (mode : Mode) (sides : Sides) (touch : Option Touch) (mem : Memory) (action : Action) → Word action → On sides M (IsRead mode mem action)
    → On sides S (IfInside (mode_after true touch None mode) (Covers (mode_after true touch None mode) (place_of action)))
    → IfInside (mode_after true touch None mode) (Covers (mode_after true touch None mode) (place_of action))
covers-either (Free plain) sides touch mem action word on_m on_s = tt
covers-either (Inside tx) Both touch mem action word on_m on_s = on_s
covers-either (Inside tx) (Alone S) touch mem action word on_m on_s = on_s
covers-either (Inside tx) (Alone M) touch mem action word on_m on_s = covers-read tx touch mem action word on_m

-- ---- turns

module _ (mode : Mode) (c : Scene mode) (inst : Inst) (after : List Inst) (left : source_code c.m c.a.frame ≡ inst ∷ after) (twice : is_done_twice inst ≡ true) where
  abbrev source_act : Action
  source_act = source_action c.m c.a.frame.registers inst

  abbrev own_act : Side → Action
  own_act side = action_of (layout_of c.m) (callees_of c.m) (file side c.b.frame) (unflagged inst)

  abbrev Agrees : List (Option ℕ) → Type 0
  Agrees registers = AgreeIn (names_at c.m c.a.frame.function) registers c.a.frame.registers

  source-word : Word source_act
  source-word = word-of (layout_of c.m) (callees_of c.m) c.a.frame.registers inst twice

  word-given : (n : ℕ) × (given_by (seen mode c) source_act ≡ Some n)
  word-given = by_word source-word
    where
      by_word : Word source_act → (n : ℕ) × (given_by (seen mode c) source_act ≡ Some n)
      by_word (Assigned n e) = (n, ap (given_by (seen mode c)) e)
      by_word (Loaded place e) = (peek (seen mode c) place.address (bytes place.size), ap (given_by (seen mode c)) e)
      by_word (Undone cause e) = absurd (not-faulty mode c inst after left cause e)

  defined : IsDefined source_act
  defined = by_action (can-be source_act)
    where
      by_action : CanBe source_act → IsDefined source_act
      by_action (Done is) = is
      by_action (Faulty cause e) = absurd (not-faulty mode c inst after left cause e)

  -- a side that is known does what the source does
  known : (registers : List (Option ℕ)) → Agrees registers → action_of (layout_of c.m) (callees_of c.m) registers (unflagged inst) ≡ source_act
  known registers agree =
      acts-same (layout_of c.m) registers c.a.frame.registers (callees_of c.m) (unflagged inst)
      (λ reg is. agree.same reg.0 (named-read mode c inst after left reg (subst (λ (regs : List Loc). IsIn reg regs) (unflagged-reads inst) is)))
      ∙ unflagged-action (layout_of c.m) (callees_of c.m) c.a.frame.registers inst defined

  -- what a known side has come to
  record Own (side : Side) (retires : Bool) (touch : Option Touch) (n : ℕ) : Type 0 where
    agree : Agrees (file side c.b.frame)
    word : given_by (seen mode c) source_act ≡ Some n
    read : IsRead (mode_after retires touch None mode) (seen mode c) source_act
    covers : IfInside (mode_after retires touch None mode) (Covers (mode_after retires touch None mode) (place_of source_act))

  module _ (side : Side) (retires : Bool) (target : Option (Side × Loc)) (on : On c.sides side (Agrees (file side c.b.frame)))
      (goes : (touch : Option Touch) (n : ℕ) → On c.sides side (Own side retires touch n)
      → AfterTurn mode c (tried (now mode c) c.t (here mode c) retires None (quiet_effect mode c (word_put mode c retires target n) touch))) where
    misses : (cause : Cause) → (Agrees (file side c.b.frame) → failure (frames c.m) c.s.process.memory.places c.t c.a source_act ≡ Some cause)
        → AfterTurn mode c (trapped c.h (now mode c) c.t (here mode c) c.b.frame)
    misses cause why = trapping mode c (λ free. hurt-if c.sides side (Agrees (file side c.b.frame)) on (λ agree.
        let none : Some cause ≡ None = sym (why agree) ∙ can mode c inst after left (word-alone source_act source-word) in cc))

    loads : (place : Place) → own_act side ≡ Read place false → (b : Bool) → is_valid c.s.process.memory.places place.address (bytes place.size) ≡ b
        → AfterTurn mode c (acted c.h (now mode c) c.t (here mode c) c.b target retires (Read place false))
    loads place e false valid = subst (AfterTurn mode c) (sym (misses-as mode c retires target place valid))
        (misses Access (λ agree. ap (failure (frames c.m) c.s.process.memory.places c.t c.a) (sym (known (file side c.b.frame) agree) ∙ e)
        ∙ ap (λ (b : Bool). unless b Access) valid))
    loads place e true valid =
        subst (AfterTurn mode c) (sym (reads-as mode c retires target place valid))
        (goes (Some (touch_at place true false)) (peek (seen mode c) place.address (bytes place.size))
        (on-map c.sides side (Agrees (file side c.b.frame)) _ (λ agree.
        let is : Read place false ≡ source_act = sym e ∙ known (file side c.b.frame) agree in
        record {
          agree = agree;
          word = ap (given_by (seen mode c)) (sym is);
          read = subst (IsRead (mode_after retires (Some (touch_at place true false)) None mode) (seen mode c)) is (valid_seen, reads-own mode retires place);
          covers = subst (λ (k : Action). IfInside (mode_after retires (Some (touch_at place true false)) None mode)
              (Covers (mode_after retires (Some (touch_at place true false)) None mode) (place_of k))) is (reads-own mode retires place);
        }) on))
      where
        same-places : (mode : Mode) (mem : Memory) → (seen_in mode mem).places ≡ mem.places
        same-places (Free plain) mem = refl
        same-places (Inside tx) mem = refl

        valid_seen : is_valid (seen mode c).places place.address (bytes place.size) ≡ true
        valid_seen = ap (λ (places : List Span). is_valid places place.address (bytes place.size)) (same-places mode c.s.process.memory) ∙ valid

    by-word : Word (own_act side) → AfterTurn mode c (acted c.h (now mode c) c.t (here mode c) c.b target retires (own_act side))
    by-word (Assigned n e) =
        subst (λ (k : Action). AfterTurn mode c (acted c.h (now mode c) c.t (here mode c) c.b target retires k)) (sym e)
        (subst (AfterTurn mode c) (sym (assigns-as mode c retires target n))
        (goes None n (on-map c.sides side (Agrees (file side c.b.frame)) _ (λ agree.
        let is : Assign n ≡ source_act = sym e ∙ known (file side c.b.frame) agree in
        record {
          agree = agree;
          word = ap (given_by (seen mode c)) (sym is);
          read = subst (IsRead (mode_after retires None None mode) (seen mode c)) is tt;
          covers = subst (λ (k : Action). IfInside (mode_after retires None None mode) (Covers (mode_after retires None None mode) (place_of k))) is (covers-none mode retires);
        }) on)))
    by-word (Loaded place e) =
        subst (λ (k : Action). AfterTurn mode c (acted c.h (now mode c) c.t (here mode c) c.b target retires k)) (sym e)
        (loads place e (is_valid c.s.process.memory.places place.address (bytes place.size)) refl)
    by-word (Undone cause e) =
        subst (λ (k : Action). AfterTurn mode c (acted c.h (now mode c) c.t (here mode c) c.b target retires k)) (sym e)
        (subst (AfterTurn mode c) (sym (faults-as mode c retires target cause))
        (misses cause (λ agree. ap (failure (frames c.m) c.s.process.memory.places c.t c.a) (sym (known (file side c.b.frame) agree) ∙ e))))

    side-turn : AfterTurn mode c (acted c.h (now mode c) c.t (here mode c) c.b target retires (action_on c.h side c.b.frame (unflagged inst)))
    side-turn = subst (λ (k : Action). AfterTurn mode c (acted c.h (now mode c) c.t (here mode c) c.b target retires k)) (sym (own-action mode c side (unflagged inst)))
        (by-word (word-of (layout_of c.m) (callees_of c.m) (file side c.b.frame) (unflagged inst) (unflagged-twice inst twice)))

  -- ---- where the word goes

  abbrev dst : Loc
  dst = (twice-destination inst twice).0

  goes-to : (side : Side) → destination_on side (unflagged inst) ≡ Some (side, dst)
  goes-to side = ap (option_map (λ at. (side, at))) (unflagged-destination inst ∙ (twice-destination inst twice).1)

  module _ (rest : List HInst) (rows : LooseRows c.m after rest) where
    -- the master
    pub first-turn : hard_code c.h c.b.frame ≡ Do M (unflagged inst) false ∷ Do S (unflagged inst) true ∷ rest → On c.sides M (Agrees c.b.frame.masters)
        → On c.sides S (Agrees c.b.frame.shadows) → AfterTurn mode c (stepped c.h (now mode c) c.t (here mode c) c.b (Do M (unflagged inst) false))
    first-turn code on_m on_s = subst (λ (target : Option (Side × Loc)). AfterTurn mode c (acted c.h (now mode c) c.t (here mode c) c.b target false (action_on c.h M c.b.frame (unflagged inst))))
        (sym (goes-to M)) (side-turn M false (Some (M, dst)) on_m goes)
      where
        goes : (touch : Option Touch) (n : ℕ) → On c.sides M (Own M false touch n)
            → AfterTurn mode c (tried (now mode c) c.t (here mode c) false None (quiet_effect mode c (word_put mode c false (Some (M, dst)) n) touch))
        goes touch n own = tries-looking mode c touch (word_put mode c false (Some (M, dst)) n) (record {
          mark = c.mark;
          callers = c.callers;
          frame = record {
            function = c.function;
            block = c.block;
            mark = c.start;
            point = Doubling inst after rest dst word-given.0 left (code-after mode c (with_file M (put c.b.frame.masters dst.0 n) c.b.frame) _ _ code) rows twice
                (twice-destination inst twice).1 word-given.1
                (on-map c.sides M (Own M false touch n) _ (λ o. o.read) own)
                (on-map c.sides M (Own M false touch n) _ (λ o.
                let both : Some n ≡ Some word-given.0 = sym o.word ∙ word-given.1 in
                let same : n ≡ word-given.0 = cc in
                subst (λ (k : ℕ). AgreeIn (names_at c.m c.a.frame.function) (put c.b.frame.masters dst.0 n) (put c.a.frame.registers dst.0 k)) same
                (put-agrees (names_at c.m c.a.frame.function) c.b.frame.masters c.a.frame.registers dst.0 n o.agree)) own)
                on_s;
          };
        })

    -- the shadow, once the master has its word
    pub second-turn : (word : ℕ) (at : Loc) → hard_code c.h c.b.frame ≡ Do S (unflagged inst) true ∷ rest → destination inst ≡ Some at
        → given_by (seen mode c) source_act ≡ Some word → On c.sides M (IsRead mode (seen mode c) source_act)
        → On c.sides M (AgreeIn (names_at c.m c.a.frame.function) c.b.frame.masters (put c.a.frame.registers at.0 word)) → On c.sides S (Agrees c.b.frame.shadows)
        → AfterTurn mode c (stepped c.h (now mode c) c.t (here mode c) c.b (Do S (unflagged inst) true))
    second-turn word at code to given on_read on_m on_s = subst (λ (target : Option (Side × Loc)). AfterTurn mode c (acted c.h (now mode c) c.t (here mode c) c.b target true (action_on c.h S c.b.frame (unflagged inst))))
        (sym (ap (option_map (λ (at : Loc). (S, at))) (unflagged-destination inst ∙ to))) (side-turn S true (Some (S, at)) on_s goes)
      where
        goes : (touch : Option Touch) (n : ℕ) → On c.sides S (Own S true touch n)
            → AfterTurn mode c (tried (now mode c) c.t (here mode c) true None (quiet_effect mode c (word_put mode c true (Some (S, at)) n) touch))
        goes touch n own = tries-quietly mode c touch (word_put mode c true (Some (S, at)) n) (record {
          next = record {
            inst = inst;
            after = after;
            left = left;
            action = source_act;
            acts = refl;
            by_itself = word-alone source_act source-word;
            none = word-stores source_act source-word;
          };
          covers = covers-either mode c.sides touch (seen mode c) source_act source-word on_read (on-map c.sides S (Own S true touch n) _ (λ o. o.covers) own);
          stands = subst (λ (x : Thread SourceFrame). IsThreadOn c.m c.h c.sides (mode_after true touch None mode) (seen mode c) x (word_put mode c true (Some (S, at)) n))
              (sym (gives-thread c.m (destination inst) c.a (seen mode c) source_act word source-word given))
              (subst (λ (o : Option Loc). IsThreadOn c.m c.h c.sides (mode_after true touch None mode) (seen mode c) (in_frame c.a (source.resulted o word c.a.frame))
              (word_put mode c true (Some (S, at)) n)) (sym to) (record {
                mark = c.mark;
                callers = c.callers;
                frame = record {
                  function = c.function;
                  block = c.block;
                  mark = c.start;
                  point = At (rw (drop-suc _ c.a.frame.index inst after left, drop-suc _ c.b.frame.index _ rest code) rows) on_m
                      (on-map c.sides S (Own S true touch n) _ (λ o.
                      let both : Some n ≡ Some word = sym o.word ∙ given in
                      let same : n ≡ word = cc in
                      subst (λ (k : ℕ). AgreeIn (names_at c.m c.a.frame.function) (put c.b.frame.shadows at.0 n) (put c.a.frame.registers at.0 k)) same
                      (put-agrees (names_at c.m c.a.frame.function) c.b.frame.shadows c.a.frame.registers at.0 n o.agree)) own);
                };
              }));
        })
