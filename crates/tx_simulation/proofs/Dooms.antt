-- A plain store inside by a master that isn't known: where it goes to a wrong place, or stores a wrong word, its thread is lost until a late check.
use Rattle.std.proofs.Common.{ℕ, ◌≡◌, ◌≢◌, ◌⊎◌, ◌∙◌, ◌%◌, ◌^◌, ◌<◌, Bool, true, false, List, [], ◌∷◌, ◌++◌, Option, Some, None, nat_eq, refl, ap, sym, subst, inl, inr}
use Rattle.std.proofs.lemmas.Bool.{eqb-true, eqb-false}
use Rattle.std.specs.Option.{option_map}
use Rattle.ir_core.specs.declared.types.Ty.{Ty}
use Rattle.ir_core.specs.declared.types.Ty.TheVariants as types
use Rattle.ir_core.specs.declared.types.Width.{Width}
use Rattle.ir_core.specs.declared.types.Width.TheVariants.{W64}
use Rattle.ir_core.specs.declared.types.Loc.{Loc}
use Rattle.ir_core.specs.declared.values.Val.{Val}
use Rattle.ir_core.specs.declared.values.Val.TheVariants as values
use Rattle.ir_core.specs.declared.values.Side.{Side}
use Rattle.ir_core.specs.declared.values.Side.TheVariants.{M, S}
use Rattle.ir_core.specs.declared.instruction.Inst.{Inst}
use Rattle.ir_core.specs.declared.instruction.Inst.TheVariants as insts
use Rattle.ir_core.specs.Module.{ModuleParts}
use Rattle.op_table.specs.Operators.{bits}
use Rattle.ir_layout.specs.Memory.{LayoutParts, layout_of, is_valid}
use Rattle.ir_flow.specs.Uses.{reg_in}
use Rattle.ir_check.proofs.Members.{in-front, in-back}
use Rattle.mem_image.specs.Accesses.{bytes}
use Rattle.mem_image.specs.Bytes.{Memory}
use Rattle.rtm_core.specs.Footprint.{seen_through}
use Rattle.inst_meaning.specs.declared.actions.Cause.TheVariants.{Unreachable}
use Rattle.inst_meaning.specs.declared.actions.Place.{Place}
use Rattle.inst_meaning.specs.declared.actions.Action.{Action}
use Rattle.inst_meaning.specs.declared.actions.Action.TheVariants.{Write, Fault}
use Rattle.inst_meaning.specs.Operands.{memory_width, size_of_width, word_of, word_at}
use Rattle.inst_meaning.specs.Action.{place_at, action_of, callees_of}
use Rattle.inst_meaning.specs.Registers.{get}
use Rattle.process.specs.declared.state.Thread.TheVariants.{Running}
use Rattle.process.specs.Outcome.{Effect, touch_at, store_at}
use Rattle.process.specs.State.{in_frame}
use Rattle.hard_ir.specs.declared.instruction.HInst.TheVariants.{Do}
use Rattle.hard_ir.specs.Facts.{register_bits}
use Rattle.hard_frames.specs.Frames as hard_frame
use Rattle.hard_frames.specs.Frames.{action_on, destination_on}
use Rattle.hard_simulation.proofs.Sides.{Sides, Alone, On, IsHurt}
use Rattle.hard_meaning.specs.State.{Transaction, Mode, Inside}
use Rattle.hard_meaning.specs.Checks.{same_word}
use Rattle.hard_meaning.specs.Effects.{has_room_in, did, tried}
use Rattle.hard_meaning.specs.Turns.{acted, stepped, trapped}
use Rattle.tx_simulation.proofs.Reading.{bits-of, pointer-width, word-same}
use Rattle.tx_simulation.proofs.Points.{names_at, AgreeIn, IsStored, source_action}
use Rattle.tx_simulation.proofs.Lines.{never-both}
use Rattle.tx_simulation.proofs.Facts.{IsWrong, WrongPlace, WrongWord, IsDoomed}
use Rattle.tx_simulation.proofs.Holds.{rooms}
use Rattle.tx_simulation.proofs.Acts.{accesses}
use Rattle.tx_simulation.proofs.Scene.{Scene, here, now, AfterTurn, not-faulty, trapping, own-action}
use Rattle.tx_simulation.proofs.Checking.{named-read}
use Rattle.tx_simulation.proofs.Singles.{IsReady}
use Rattle.tx_simulation.proofs.Stores.{Storing, Stored, Unstored, storing-of, stores-as, word-fits, stored_tx, stored-stands, code-late, store-turn-alike}

-- ---- a wrong place

differs : (bs : ℕ) (p s a b : ℕ) → bs ≡ 64 → p % 2 ^ 64 ≡ a → s % 2 ^ 64 ≡ b → a ≢ b → nat_eq (p % 2 ^ bs) (s % 2 ^ bs) ≡ false
differs bs p s a b e f g ne = rw (e, f, g) (by_test (nat_eq a b) refl)
  where
    by_test : (t : Bool) → nat_eq a b ≡ t → t ≡ false
    by_test true k = absurd (ne (eqb-true a b k))
    by_test false k = refl

some-word : (o : Option ℕ) (n : ℕ) → option_map (λ word. word % 2 ^ 64) o ≡ Some n → (k : ℕ) × (o ≡ Some k) × (k % 2 ^ 64 ≡ n)
some-word None n e = cc
some-word (Some k) n e = let same : k % 2 ^ 64 ≡ n = cc in (k, refl, same)

wrong-place : (m : ModuleParts) (tx : Transaction) (mem : Memory) (w : Width) (ptr val : Val) (masters shadows : List (Option ℕ)) (a b : ℕ)
    → word_at (layout_of m) masters W64 ptr ≡ Some a → word_at (layout_of m) shadows W64 ptr ≡ Some b → a ≢ b
    → IsWrong m tx mem w ((types.Ptr, ptr) ∷ []) ptr val masters shadows
wrong-place m tx mem w (values.Reg reg) val masters shadows a b e f ne =
    let p = some-word (get masters reg.0) a e in
    let s = some-word (get shadows reg.0) b f in
    WrongPlace reg p.0 s.0 refl p.1 s.1 (differs (register_bits types.Ptr) p.0 s.0 a b (bits-of types.Ptr W64 pointer-width) p.2 s.2 ne)
wrong-place m tx mem w (values.Int n) val masters shadows a b e f ne = let both : Some a ≡ Some b = sym e ∙ f in let same : a ≡ b = cc in absurd (ne same)
wrong-place m tx mem w values.Null val masters shadows a b e f ne = let both : Some a ≡ Some b = sym e ∙ f in let same : a ≡ b = cc in absurd (ne same)
wrong-place m tx mem w (values.Global sym_) val masters shadows a b e f ne = let both : Some a ≡ Some b = sym e ∙ f in let same : a ≡ b = cc in absurd (ne same)
wrong-place m tx mem w (values.Gep gep) val masters shadows a b e f ne = let both : Some a ≡ Some b = sym e ∙ f in let same : a ≡ b = cc in absurd (ne same)

-- ---- the store

module _ (tx : Transaction) (c : Scene (Inside tx)) (ty : Ty) (val ptr : Val) (r : IsReady (Inside tx) c (insts.Store ty val ptr false)) (alone : c.sides ≡ Alone S) where
  abbrev wrong_store : Inst
  wrong_store = insts.Store ty val ptr false

  known : AgreeIn (names_at c.m c.a.frame.function) c.b.frame.shadows c.a.frame.registers
  known = subst (λ (sides : Sides). On sides S (AgreeIn (names_at c.m c.a.frame.function) c.b.frame.shadows c.a.frame.registers)) alone r.shadows

  shadow-ptr : word_of (layout_of c.m) c.b.frame.shadows ptr ≡ word_of (layout_of c.m) c.a.frame.registers ptr
  shadow-ptr = word-same (layout_of c.m) c.b.frame.shadows c.a.frame.registers ptr
      (λ reg is. known.same reg.0 (named-read (Inside tx) c (insts.Store ty val ptr false) r.after r.left reg (in-back reg (reg_in val) (reg_in ptr) is)))

  shadow-val : word_of (layout_of c.m) c.b.frame.shadows val ≡ word_of (layout_of c.m) c.a.frame.registers val
  shadow-val = word-same (layout_of c.m) c.b.frame.shadows c.a.frame.registers val
      (λ reg is. known.same reg.0 (named-read (Inside tx) c (insts.Store ty val ptr false) r.after r.left reg (in-front reg (reg_in val) (reg_in ptr) is)))

  module _ (w : Width) (address n own_address own_n : ℕ) (width : memory_width ty ≡ Some w)
      (at : word_at (layout_of c.m) c.a.frame.registers W64 ptr ≡ Some address) (word : word_at (layout_of c.m) c.a.frame.registers w val ≡ Some n)
      (own_at : word_at (layout_of c.m) c.b.frame.masters W64 ptr ≡ Some own_address) (own_word : word_at (layout_of c.m) c.b.frame.masters w val ≡ Some own_n)
      (valid : is_valid c.s.process.memory.places own_address (bytes (size_of_width w)) ≡ true) (differ : own_address ≡ address → own_n ≢ n) where
    small : own_n < 256 ^ bytes (size_of_width w)
    small = word-fits (layout_of c.m) c.b.frame.masters ty w val own_n width own_word

    abbrev then_tx : Transaction
    then_tx = stored_tx tx c.s.process.memory (place_at own_address w) own_n c.facts.whole c.link.buffers valid small

    doomed : IsDoomed c.m c.h then_tx (seen_through then_tx.footprint c.s.process.memory) (in_frame c.b (hard_frame.passed c.b.frame))
    doomed = record {
      stack = record c.b { frame = hard_frame.passed c.b.frame };
      is = refl;
      ty = ty;
      ptr = ptr;
      val = val;
      w = w;
      width = width;
      pointers = (types.Ptr, ptr) ∷ [];
      rest = r.rest;
      code = code-late (Inside tx) c ty val ptr r;
      one = inr refl;
      wrong = by_place (nat_eq own_address address) refl;
    }
      where
        stored : IsStored (Inside then_tx) (seen_through then_tx.footprint c.s.process.memory) (place_at own_address w) own_n
        stored = stored-stands tx c.s.process.memory (place_at own_address w) own_n c.facts.whole c.link.buffers valid small

        by_place : (b : Bool) → nat_eq own_address address ≡ b
            → IsWrong c.m then_tx (seen_through then_tx.footprint c.s.process.memory) w ((types.Ptr, ptr) ∷ []) ptr val c.b.frame.masters c.b.frame.shadows
        by_place true e =
            let same : own_address ≡ address = eqb-true own_address address e in
            WrongWord address n own_n (ap (option_map (λ word. word % 2 ^ bits W64)) shadow-ptr ∙ at) (ap (option_map (λ word. word % 2 ^ bits w)) shadow-val ∙ word)
            (subst (λ (a : ℕ). IsStored (Inside then_tx) (seen_through then_tx.footprint c.s.process.memory) (place_at a w) own_n) same stored) (differ same)
        by_place false e = wrong-place c.m then_tx (seen_through then_tx.footprint c.s.process.memory) w ptr val c.b.frame.masters c.b.frame.shadows own_address address own_at
            (ap (option_map (λ word. word % 2 ^ bits W64)) shadow-ptr ∙ at) (eqb-false own_address address e)

    dooms : AfterTurn (Inside tx) c (acted c.h (now (Inside tx) c) c.t (here (Inside tx) c) c.b (destination_on M wrong_store) true (Write (place_at own_address w) own_n false))
    dooms = rw valid
        (rooms c.m c.h c.arguments c.s c.workers c.turns c.upsets c.facts c.t c.x c.at (here (Inside tx) c) c.hard_at
        (has_room_in (Inside tx) (Some (touch_at (place_at own_address w) false true))) _
        (accesses c.m c.h c.arguments c.s c.workers c.turns c.upsets c.facts c.t c.x c.at c.v (Running c.b) tx c.hard_at c.sides c.hurt true
        (Some (touch_at (place_at own_address w) false true)) (Some (store_at (place_at own_address w) own_n)) (in_frame c.b (hard_frame.passed c.b.frame))
        (record { kept = c.link.kept; inner = inr (subst IsHurt (sym alone) tt, inl doomed) })))

  abbrev Does : Action → Type 0
  Does action = AfterTurn (Inside tx) c (acted c.h (now (Inside tx) c) c.t (here (Inside tx) c) c.b (destination_on M (insts.Store ty val ptr false)) true action)

  module _ (w : Width) (address n : ℕ) (width : memory_width ty ≡ Some w) (at : word_at (layout_of c.m) c.a.frame.registers W64 ptr ≡ Some address)
      (word : word_at (layout_of c.m) c.a.frame.registers w val ≡ Some n) where
    by-words : (a k : ℕ) → word_at (layout_of c.m) c.b.frame.masters W64 ptr ≡ Some a → word_at (layout_of c.m) c.b.frame.masters w val ≡ Some k
        → (v b d : Bool) → is_valid c.s.process.memory.places a (bytes (size_of_width w)) ≡ v → nat_eq a address ≡ b → nat_eq k n ≡ d → Does (Write (place_at a w) k false)
    by-words a k own_at own_word false b d valid e f = rw valid (trapping (Inside tx) c (λ free. absurd free))
    by-words a k own_at own_word true false d valid e f =
        dooms w address n a k width at word own_at own_word valid (λ same. absurd (eqb-false a address e same))
    by-words a k own_at own_word true true false valid e f = dooms w address n a k width at word own_at own_word valid (λ same. eqb-false k n f)
    by-words a k own_at own_word true true true valid e f =
        let same_a : a ≡ address = eqb-true a address e in
        let same_k : k ≡ n = eqb-true k n f in
        let own = stores-as (layout_of c.m) c.b.frame.masters ty val ptr w a k width own_at own_word in
        let theirs = stores-as (layout_of c.m) c.a.frame.registers ty val ptr w address n width at word in
        let writes : Write (place_at a w) k false ≡ Write (place_at address w) n false =
        ap (λ (i : ℕ). Write (place_at i w) k false) same_a ∙ ap (λ (i : ℕ). Write (place_at address w) i false) same_k in
        subst Does (own-action (Inside tx) c M (insts.Store ty val ptr false) ∙ own) (store-turn-alike (Inside tx) c ty val ptr r (own-action (Inside tx) c M (insts.Store ty val ptr false) ∙ own ∙ writes ∙ sym theirs))

    by-own : Storing (layout_of c.m) c.b.frame.masters ty val ptr → Does (action_of (layout_of c.m) (callees_of c.m) c.b.frame.masters (insts.Store ty val ptr false))
    by-own (Unstored e) = subst Does (sym e) (trapping (Inside tx) c (λ free. absurd free))
    by-own (Stored v a k e f g) =
        let same : v ≡ w = let both : Some v ≡ Some w = sym e ∙ width in cc in
        let word' : word_at (layout_of c.m) c.b.frame.masters w val ≡ Some k = subst (λ (u : Width). word_at (layout_of c.m) c.b.frame.masters u val ≡ Some k) same g in
        subst Does (sym (stores-as (layout_of c.m) c.b.frame.masters ty val ptr w a k width f word'))
        (by-words a k f word' (is_valid c.s.process.memory.places a (bytes (size_of_width w))) (nat_eq a address) (nat_eq k n) refl refl refl)

  pub wrong-turn : AfterTurn (Inside tx) c (stepped c.h (now (Inside tx) c) c.t (here (Inside tx) c) c.b (Do M (insts.Store ty val ptr false) true))
  wrong-turn = by_source (storing-of (layout_of c.m) c.a.frame.registers ty val ptr)
    where
      by_source : Storing (layout_of c.m) c.a.frame.registers ty val ptr
          → AfterTurn (Inside tx) c (stepped c.h (now (Inside tx) c) c.t (here (Inside tx) c) c.b (Do M (insts.Store ty val ptr false) true))
      by_source (Unstored e) = absurd (not-faulty (Inside tx) c (insts.Store ty val ptr false) r.after r.left Unreachable e)
      by_source (Stored w address n e f g) = subst Does (sym (own-action (Inside tx) c M (insts.Store ty val ptr false))) (by-own w address n e f g (storing-of (layout_of c.m) c.b.frame.masters ty val ptr))
