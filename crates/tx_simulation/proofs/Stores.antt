-- A plain store: what it leaves in memory as its thread sees it, and its turn where it does what the source does.
use Rattle.std.proofs.Common.{ℕ, ◌≡◌, ◌⊎◌, ◌∙◌, ◌%◌, ◌^◌, ◌<◌, ◌*◌, arith, Bool, true, false, List, [], ◌∷◌, ◌++◌, Option, Some, None, refl, ap, sym, subst, inl, inr}
use Rattle.std.proofs.lemmas.Nat.{mod_below}
use Rattle.std.specs.Option.{option_map, option_and_then}
use Rattle.ir_core.specs.declared.types.Ty.{Ty}
use Rattle.ir_core.specs.declared.types.Ty.TheVariants as types
use Rattle.ir_core.specs.declared.types.Width.{Width}
use Rattle.ir_core.specs.declared.types.Width.TheVariants.{W1, W8, W16, W32, W64}
use Rattle.ir_core.specs.declared.types.Loc.{Loc}
use Rattle.ir_core.specs.declared.values.Val.{Val}
use Rattle.ir_core.specs.declared.values.Val.TheVariants as values
use Rattle.ir_core.specs.declared.values.Side.TheVariants.{M, S}
use Rattle.ir_core.specs.declared.instruction.Inst.{Inst}
use Rattle.ir_core.specs.declared.instruction.Inst.TheVariants as insts
use Rattle.op_table.specs.Operators.{bits}
use Rattle.ir_layout.specs.Memory.{LayoutParts, layout_of, is_valid}
use Rattle.ir_layout.specs.declared.spans.Span.{Span}
use Rattle.mem_image.specs.Accesses.{bytes}
use Rattle.mem_image.specs.Bytes.{Memory, IsWhole, peek}
use Rattle.mem_image.specs.Lines.{AreLines, line_of}
use Rattle.mem_image.specs.Touches.{Touch, Store}
use Rattle.mem_image.specs.Views.{Written, stored, view}
use Rattle.mem_image.proofs.Laws.{power_of_bytes, read_back}
use Rattle.mem_image.proofs.Views.{view-stored, view-whole}
use Rattle.rtm_core.specs.Footprint.{written_by, seen_through}
use Rattle.inst_meaning.specs.declared.actions.Cause.{Cause}
use Rattle.inst_meaning.specs.declared.actions.Cause.TheVariants.{Unreachable}
use Rattle.inst_meaning.specs.declared.actions.Place.{Place}
use Rattle.inst_meaning.specs.declared.actions.Action.{Action}
use Rattle.inst_meaning.specs.declared.actions.Action.TheVariants.{Write, Fault}
use Rattle.inst_meaning.specs.Operands.{width_of, in_bytes, memory_width, size_of_width, word_of, word_at}
use Rattle.inst_meaning.specs.Action.{on_word, on_width, place_at, storing, action_of, callees_of}
use Rattle.process.specs.Outcome.{failure, touch_at, store_at}
use Rattle.process_laws.specs.Alone.{IsAlone}
use Rattle.process_laws.proofs.Locality.{valid_where_done}
use Rattle.src_meaning.specs.declared.state.Frame.{Frame as SourceFrame}
use Rattle.src_meaning.specs.Step as source
use Rattle.src_meaning.specs.Step.{frames}
use Rattle.hard_ir.specs.declared.instruction.When.TheVariants.{Tx}
use Rattle.hard_ir.specs.declared.instruction.HInst.{HInst}
use Rattle.hard_ir.specs.declared.instruction.HInst.TheVariants.{Do, ChkMem}
use Rattle.hard_ir.specs.Image.{checks_after, check_when, on_shadow}
use Rattle.hard_frames.specs.declared.state.Frame.{Frame}
use Rattle.hard_frames.specs.Frames as hard_frame
use Rattle.hard_frames.specs.Frames.{action_on, destination_on}
use Rattle.hard_simulation.proofs.Entries.{drop-suc}
use Rattle.hard_simulation.proofs.Points.{source_code, hard_code}
use Rattle.hard_meaning.specs.State.{Transaction, Mode, Free, Inside}
use Rattle.hard_meaning.specs.Effects.{transaction_after}
use Rattle.hard_meaning.specs.Turns.{acted, stepped}
use Rattle.tx_simulation.proofs.Points.{touched, IfInside, IsStored, checks_onto, source_action, Late, IsFrame}
use Rattle.tx_simulation.proofs.Lines.{touched-own}
use Rattle.tx_simulation.proofs.Inner.{written-stored}
use Rattle.tx_simulation.proofs.Scene.{Scene, here, now, seen, AfterTurn, not-faulty, can}
use Rattle.tx_simulation.proofs.Once.{done-outside, done-inside}
use Rattle.tx_simulation.proofs.Singles.{IsReady, head}

-- ---- words in memory

in-bytes : (w v : Width) → in_bytes w ≡ Some v → 256 ^ bytes (size_of_width v) ≡ 2 ^ bits v
in-bytes W1 v e = cc
in-bytes W8 v e = let same : W8 ≡ v = cc in subst (λ (k : Width). 256 ^ bytes (size_of_width k) ≡ 2 ^ bits k) same (power_of_bytes 1)
in-bytes W16 v e = let same : W16 ≡ v = cc in subst (λ (k : Width). 256 ^ bytes (size_of_width k) ≡ 2 ^ bits k) same (power_of_bytes 2)
in-bytes W32 v e = let same : W32 ≡ v = cc in subst (λ (k : Width). 256 ^ bytes (size_of_width k) ≡ 2 ^ bits k) same (power_of_bytes 4)
in-bytes W64 v e = let same : W64 ≡ v = cc in subst (λ (k : Width). 256 ^ bytes (size_of_width k) ≡ 2 ^ bits k) same (power_of_bytes 8)

memory-bytes : (o : Option Width) (w : Width) → option_and_then in_bytes o ≡ Some w → 256 ^ bytes (size_of_width w) ≡ 2 ^ bits w
memory-bytes None w e = cc
memory-bytes (Some v) w e = in-bytes v w e

above-zero : (w : Width) → 0 < 2 ^ bits w
above-zero W1 = omega arith
above-zero W8 = omega arith
above-zero W16 = omega arith
above-zero W32 = omega arith
above-zero W64 = omega arith

below-width : (o : Option ℕ) (w : Width) (n : ℕ) → option_map (λ word. word % 2 ^ bits w) o ≡ Some n → n < 2 ^ bits w
below-width None w n e = cc
below-width (Some k) w n e = let same : k % 2 ^ bits w ≡ n = cc in subst (λ (j : ℕ). j < 2 ^ bits w) same (mod_below k (2 ^ bits w) (above-zero w))

-- a word of a width fits into its bytes
pub word-fits : (l : LayoutParts) (registers : List (Option ℕ)) (ty : Ty) (w : Width) (value : Val) (n : ℕ) → memory_width ty ≡ Some w
    → word_at l registers w value ≡ Some n → n < 256 ^ bytes (size_of_width w)
word-fits l registers ty w value n width e =
    subst (λ (limit : ℕ). n < limit) (sym (memory-bytes (width_of ty) w width)) (below-width (word_of l registers value) w n e)

-- ---- what a store asks for

pub data Storing (l : LayoutParts) (registers : List (Option ℕ)) (ty : Ty) (val ptr : Val) : Type 0 where
  Stored : (w : Width) (address n : ℕ) → memory_width ty ≡ Some w → word_at l registers W64 ptr ≡ Some address → word_at l registers w val ≡ Some n
      → Storing l registers ty val ptr
  Unstored : storing l registers ty val ptr false ≡ Fault Unreachable → Storing l registers ty val ptr

pub storing-of : (l : LayoutParts) (registers : List (Option ℕ)) (ty : Ty) (val ptr : Val) → Storing l registers ty val ptr
storing-of l registers ty val ptr = by_width (memory_width ty) refl
  where
    by_word : (w : Width) (address : ℕ) → memory_width ty ≡ Some w → word_at l registers W64 ptr ≡ Some address
        → (o : Option ℕ) → word_at l registers w val ≡ o → Storing l registers ty val ptr
    by_word w address e f None g = Unstored (rw (e, f, g) refl)
    by_word w address e f (Some n) g = Stored w address n e f g

    by_address : (w : Width) → memory_width ty ≡ Some w → (o : Option ℕ) → word_at l registers W64 ptr ≡ o → Storing l registers ty val ptr
    by_address w e None f = Unstored (rw (e, f) refl)
    by_address w e (Some address) f = by_word w address e f (word_at l registers w val) refl

    by_width : (o : Option Width) → memory_width ty ≡ o → Storing l registers ty val ptr
    by_width None e = Unstored (rw e refl)
    by_width (Some w) e = by_address w e (word_at l registers W64 ptr) refl

pub stores-as : (l : LayoutParts) (registers : List (Option ℕ)) (ty : Ty) (val ptr : Val) (w : Width) (address n : ℕ) → memory_width ty ≡ Some w
    → word_at l registers W64 ptr ≡ Some address → word_at l registers w val ≡ Some n → storing l registers ty val ptr false ≡ Write (place_at address w) n false
stores-as l registers ty val ptr w address n e f g = rw (e, f, g) refl

-- ---- what a store leaves

module _ (tx : Transaction) (mem : Memory) (place : Place) (n : ℕ) (whole : IsWhole mem) (buffers : AreLines tx.footprint.write_set)
    (valid : is_valid mem.places place.address (bytes place.size) ≡ true) (small : n < 256 ^ bytes place.size) where
  -- the transaction once it has stored
  abbrev pub stored_tx : Transaction
  stored_tx = transaction_after true (Some (touch_at place false true)) (Some (store_at place n)) tx

  pub stored-stands : IsStored (Inside stored_tx) (seen_through stored_tx.footprint mem) place n
  stored-stands = record {
    stands = ap (λ (written : Written). peek (view mem written) place.address (bytes place.size)) (written-stored mem.places true (touch_at place false true) n tx buffers refl valid)
        ∙ ap (λ (seen : Memory). peek seen place.address (bytes place.size)) (view-stored mem (written_by tx.footprint) place.address (bytes place.size) n whole valid)
        ∙ read_back (view mem (written_by tx.footprint)) place.address (bytes place.size) n (view-whole mem (written_by tx.footprint) whole) valid small;
    line = touched-own true (Some (store_at place n)) tx (touch_at place false true) refl;
    valid = valid;
  }

-- ---- the late checks that follow

late-code : (ty : Ty) (ptr val : Val) (rest : List HInst)
    → (check_when Tx (types.Ptr, ptr) ++ ChkMem ty (on_shadow ptr) (on_shadow val) ∷ []) ++ rest
    ≡ checks_onto Tx ((types.Ptr, ptr) ∷ []) (ChkMem ty (on_shadow ptr) (on_shadow val) ∷ rest)
late-code ty (values.Reg reg) val rest = refl
late-code ty (values.Int n) val rest = refl
late-code ty values.Null val rest = refl
late-code ty (values.Global sym_) val rest = refl
late-code ty (values.Gep gep) val rest = refl

module _ (mode : Mode) (c : Scene mode) (ty : Ty) (val ptr : Val) (r : IsReady mode c (insts.Store ty val ptr false)) where
  abbrev pub store_inst : Inst
  store_inst = insts.Store ty val ptr false

  pub code-late : hard_code c.h (hard_frame.passed c.b.frame) ≡ checks_onto Tx ((types.Ptr, ptr) ∷ []) (ChkMem ty (on_shadow ptr) (on_shadow val) ∷ r.rest)
  code-late = drop-suc _ c.b.frame.index _ _ (head mode c (insts.Store ty val ptr false) r) ∙ late-code ty ptr val r.rest

  module _ (w : Width) (address n : ℕ) (width : memory_width ty ≡ Some w) (at : word_at (layout_of c.m) c.a.frame.registers W64 ptr ≡ Some address)
      (word : word_at (layout_of c.m) c.a.frame.registers w val ≡ Some n) where
    pub late-frame : (k : Mode) (mem : Memory) → IfInside k (IsStored k mem (place_at address w) n)
        → IsFrame c.m c.h c.sides k mem (source.passed c.a.frame) (hard_frame.passed c.b.frame)
    late-frame k mem stands = record {
      function = c.function;
      block = c.block;
      mark = c.start;
      point = Late ty ptr val w ((types.Ptr, ptr) ∷ []) address n r.rest code-late (rw (drop-suc _ c.a.frame.index (insts.Store ty val ptr false) r.after r.left) r.rows)
          (inr refl) width at word stands r.masters r.shadows;
    }

-- it does what the source does
stores-alike : (mode : Mode) (c : Scene mode) (ty : Ty) (val ptr : Val) (r : IsReady mode c (insts.Store ty val ptr false)) (w : Width) (address n : ℕ)
    → memory_width ty ≡ Some w → word_at (layout_of c.m) c.a.frame.registers W64 ptr ≡ Some address → word_at (layout_of c.m) c.a.frame.registers w val ≡ Some n
    → AfterTurn mode c (acted c.h (now mode c) c.t (here mode c) c.b (destination_on M (insts.Store ty val ptr false)) true (Write (place_at address w) n false))
stores-alike (Free plain) c ty val ptr r w address n e f g =
    done-outside plain c (insts.Store ty val ptr false) r.after r.left (Write (place_at address w) n false)
    (stores-as (layout_of c.m) c.a.frame.registers ty val ptr w address n e f g) (destination_on M (insts.Store ty val ptr false))
    (λ mem. late-frame (Free plain) c ty val ptr r w address n e f g (Free plain) mem tt)
stores-alike (Inside tx) c ty val ptr r w address n e f g =
    done-inside tx c (insts.Store ty val ptr false) r.after r.left (Write (place_at address w) n false) acts tt (destination_on M (insts.Store ty val ptr false)) refl
    (late-frame (Inside tx) c ty val ptr r w address n e f g (Inside (stored_tx tx c.s.process.memory (place_at address w) n c.facts.whole c.link.buffers valid small))
    (seen_through (stored_tx tx c.s.process.memory (place_at address w) n c.facts.whole c.link.buffers valid small).footprint c.s.process.memory)
    (stored-stands tx c.s.process.memory (place_at address w) n c.facts.whole c.link.buffers valid small))
  where
    acts : source_action c.m c.a.frame.registers (insts.Store ty val ptr false) ≡ Write (place_at address w) n false
    acts = stores-as (layout_of c.m) c.a.frame.registers ty val ptr w address n e f g

    valid : is_valid c.s.process.memory.places address (bytes (size_of_width w)) ≡ true
    valid = valid_where_done (frames c.m) c.s.process.memory c.t c.a (Write (place_at address w) n false)
        (subst (λ (k : Action). IsAlone k → failure (frames c.m) c.s.process.memory.places c.t c.a k ≡ None) acts
        (can (Inside tx) c (insts.Store ty val ptr false) r.after r.left) tt)

    small : n < 256 ^ bytes (size_of_width w)
    small = word-fits (layout_of c.m) c.a.frame.registers ty w val n e g

pub store-turn-alike : (mode : Mode) (c : Scene mode) (ty : Ty) (val ptr : Val) (r : IsReady mode c (insts.Store ty val ptr false))
    → action_on c.h M c.b.frame (insts.Store ty val ptr false) ≡ source_action c.m c.a.frame.registers (insts.Store ty val ptr false)
    → AfterTurn mode c (stepped c.h (now mode c) c.t (here mode c) c.b (Do M (insts.Store ty val ptr false) true))
store-turn-alike mode c ty val ptr r alike = by_store (storing-of (layout_of c.m) c.a.frame.registers ty val ptr)
  where
    by_store : Storing (layout_of c.m) c.a.frame.registers ty val ptr
        → AfterTurn mode c (stepped c.h (now mode c) c.t (here mode c) c.b (Do M (insts.Store ty val ptr false) true))
    by_store (Unstored e) = absurd (not-faulty mode c (insts.Store ty val ptr false) r.after r.left Unreachable e)
    by_store (Stored w address n e f g) =
        subst (λ (k : Action). AfterTurn mode c (acted c.h (now mode c) c.t (here mode c) c.b (destination_on M (insts.Store ty val ptr false)) true k))
        (sym (alike ∙ stores-as (layout_of c.m) c.a.frame.registers ty val ptr w address n e f g)) (stores-alike mode c ty val ptr r w address n e f g)
