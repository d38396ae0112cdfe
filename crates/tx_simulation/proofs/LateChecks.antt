-- The late checks of a plain store: outside they do nothing; inside they compare, and where they fail the thread is aborted.
-- a store whose checks are left, and what is known there
use Rattle.std.proofs.Common.{Bool, List, None, Option, Some, false, inl, inr, nat_eq, refl, subst, sym, true, ℕ, ◌∷◌, ◌≡◌, ◌⊎◌, []}
use Rattle.ir_core.specs.declared.types.Ty.TheVariants as types
use Rattle.ir_core.specs.declared.types.Ty.{Ty}
use Rattle.ir_core.specs.declared.types.Width.TheVariants.{W64}
use Rattle.ir_core.specs.declared.types.Width.{Width}
use Rattle.ir_core.specs.declared.values.Side.TheVariants.{M, S}
use Rattle.ir_core.specs.declared.values.Val.TheVariants as values
use Rattle.ir_core.specs.declared.values.Val.{Val}
use Rattle.ir_layout.specs.Memory.{layout_of}
use Rattle.mem_image.specs.Bytes.{peek}
use Rattle.mem_image.specs.Touches.{Touch}
use Rattle.rtm_core.specs.Footprint.{has_room, seen_through}
use Rattle.inst_meaning.specs.Action.{place_at}
use Rattle.inst_meaning.specs.Operands.{memory_width, word_at}
use Rattle.process.specs.Outcome.{touch_at}
use Rattle.process.specs.State.{in_frame}
use Rattle.hard_ir.specs.Image.{on_shadow}
use Rattle.hard_ir.specs.Images.{LooseRows}
use Rattle.hard_ir.specs.declared.instruction.HInst.TheVariants.{Chk, ChkMem}
use Rattle.hard_ir.specs.declared.instruction.HInst.{HInst}
use Rattle.hard_ir.specs.declared.instruction.When.TheVariants.{Tx}
use Rattle.hard_frames.specs.Frames as hard_frame
use Rattle.hard_simulation.proofs.Points.{hard_code, source_code}
use Rattle.hard_simulation.proofs.Sides.{On}
use Rattle.hard_meaning.specs.Aborts.{Mismatch}
use Rattle.hard_meaning.specs.Checks.{is_active, operand_word}
use Rattle.hard_meaning.specs.State.{Free, Inside, Mode, Transaction, is_inside}
use Rattle.hard_meaning.specs.Turns.{matched, read_as, read_at, read_back}
use Rattle.tx_simulation.proofs.Checking.{Turns}
use Rattle.tx_simulation.proofs.Holds.{aborts-after, rooms}
use Rattle.tx_simulation.proofs.Points.{AgreeIn, At, IfInside, IsFree, IsStored, Late, checks_onto, names_at}
use Rattle.tx_simulation.proofs.Quiet.{looks}
use Rattle.tx_simulation.proofs.Scene.{AfterTurn, PointAt, Scene, by-head, code-after, here, now, seen, trapping}
use Rattle.tx_simulation.proofs.Silent.{compares, passes}
use Rattle.tx_simulation.proofs.Walks.{frame}

pub record IsLate (mode : Mode) (c : Scene mode) : Type 0 where
  pub ty : Ty
  pub ptr : Val
  pub val : Val
  pub w : Width
  pub address : ℕ
  pub n : ℕ
  pub rest : List HInst
  pub rows : LooseRows c.m (source_code c.m c.a.frame) rest
  pub width : memory_width ty ≡ Some w
  pub at : word_at (layout_of c.m) c.a.frame.registers W64 ptr ≡ Some address
  pub word : word_at (layout_of c.m) c.a.frame.registers w val ≡ Some n
  pub stored : IfInside mode (IsStored mode (seen mode c) (place_at address w) n)
  pub masters : On c.sides M (AgreeIn (names_at c.m c.a.frame.function) c.b.frame.masters c.a.frame.registers)
  pub shadows : On c.sides S (AgreeIn (names_at c.m c.a.frame.function) c.b.frame.shadows c.a.frame.registers)

-- the check of memory stands before the frame, with checks of the pointer before it or none
abbrev pub IsBefore : (mode : Mode) (c : Scene mode) → IsLate mode c → List (Ty × Val) → List HInst → Type 0
IsBefore mode c o pointers code = code ≡ checks_onto Tx pointers (ChkMem o.ty (on_shadow o.ptr) (on_shadow o.val) ∷ o.rest)

module _ (mode : Mode) (c : Scene mode) (o : IsLate mode c) (code : IsBefore mode c o [] (hard_code c.h c.b.frame)) where
  -- the point behind it
  behind : PointAt mode c (hard_frame.passed c.b.frame)
  behind = At (subst (λ (list : List HInst). LooseRows c.m (source_code c.m c.a.frame) list)
      (sym (code-after mode c c.b.frame (ChkMem o.ty (on_shadow o.ptr) (on_shadow o.val)) o.rest code)) o.rows) o.masters o.shadows

module _ (tx : Transaction) (c : Scene (Inside tx)) (o : IsLate (Inside tx) c) (code : IsBefore (Inside tx) c o [] (hard_code c.h c.b.frame)) where
  -- it goes on where the word is the one that is asked for
  compared : (touch : Touch) (b : Bool) → AfterTurn (Inside tx) c (matched (now (Inside tx) c) c.t (here (Inside tx) c) c.b touch b)
  compared touch true = looks (Inside tx) c (Some touch) (in_frame c.b (hard_frame.passed c.b.frame)) (record {
    mark = c.mark;
    callers = c.callers;
    frame = record {
      function = c.function;
      block = c.block;
      mark = c.start;
      point = At (subst (λ (list : List HInst). LooseRows c.m (source_code c.m c.a.frame) list)
          (sym (code-after (Inside tx) c c.b.frame (ChkMem o.ty (on_shadow o.ptr) (on_shadow o.val)) o.rest code)) o.rows) o.masters o.shadows;
    };
  })
  compared touch false = aborts-after c.m c.h c.arguments c.s c.workers c.turns c.upsets c.facts c.t c.x c.at (here (Inside tx) c) c.hard_at
      (record { touch = Some touch; mutex = None }) Mismatch

  by-valid : (touch : Touch) (n : ℕ) (b : Bool) → AfterTurn (Inside tx) c (read_back c.h (now (Inside tx) c) c.t (here (Inside tx) c) c.b tx touch n b)
  by-valid touch n true = rooms c.m c.h c.arguments c.s c.workers c.turns c.upsets c.facts c.t c.x c.at (here (Inside tx) c) c.hard_at (has_room touch tx.footprint) _
      (compared touch (nat_eq (peek (seen_through tx.footprint c.s.process.memory) touch.address touch.size) n))
  by-valid touch n false = trapping (Inside tx) c (λ free. absurd free)

  by-words : (w : Width) (address n : Option ℕ) → AfterTurn (Inside tx) c (read_at c.h (now (Inside tx) c) c.t (here (Inside tx) c) c.b tx w address n)
  by-words w (Some address) (Some n) = by-valid (touch_at (place_at address w) true false) n _
  by-words w (Some address) None = trapping (Inside tx) c (λ free. absurd free)
  by-words w None n = trapping (Inside tx) c (λ free. absurd free)

  by-width : (u : Option Width) → AfterTurn (Inside tx) c (read_as c.h (now (Inside tx) c) c.t (here (Inside tx) c) c.b tx (on_shadow o.ptr) (on_shadow o.val) u)
  by-width (Some w) = by-words w (operand_word c.h c.b.frame W64 (on_shadow o.ptr)) (operand_word c.h c.b.frame w (on_shadow o.val))
  by-width None = trapping (Inside tx) c (λ free. absurd free)

memory-check : (mode : Mode) (c : Scene mode) (o : IsLate mode c) → IsBefore mode c o [] (hard_code c.h c.b.frame) → Turns mode c
memory-check (Free plain) c o code = by-head (Free plain) c (ChkMem o.ty (on_shadow o.ptr) (on_shadow o.val)) o.rest code
    (passes (Free plain) c (behind (Free plain) c o code))
memory-check (Inside tx) c o code = by-head (Inside tx) c (ChkMem o.ty (on_shadow o.ptr) (on_shadow o.val)) o.rest code (by-width tx c o code (memory_width o.ty))

-- a check that is active inside alone
inside-alone : (mode : Mode) → is_active Tx (is_inside mode) ≡ true → IsFree mode → ⊥
inside-alone (Free plain) on free = cc
inside-alone (Inside tx) on free = free

module _ (mode : Mode) (c : Scene mode) (o : IsLate mode c) where
  -- the check of the pointer comes first, where it is a register
  by-pointer : (ptr : Val) → o.ptr ≡ ptr → IsBefore mode c o ((types.Ptr, ptr) ∷ []) (hard_code c.h c.b.frame) → Turns mode c
  by-pointer (values.Reg reg) e code =
      by-head mode c (Chk Tx types.Ptr reg) (ChkMem o.ty (on_shadow o.ptr) (on_shadow o.val) ∷ o.rest) code
      (compares mode c Tx types.Ptr reg (record {
        off = λ off. then;
        same = λ p q on f g k. then;
        differ = λ p q on f g k free. absurd (inside-alone mode on free);
        no_master = λ on f free. absurd (inside-alone mode on free);
        no_shadow = λ on f free. absurd (inside-alone mode on free);
      }))
    where
      then : PointAt mode c (hard_frame.passed c.b.frame)
      then = Late o.ty o.ptr o.val o.w [] o.address o.n o.rest
          (code-after mode c c.b.frame (Chk Tx types.Ptr reg) (ChkMem o.ty (on_shadow o.ptr) (on_shadow o.val) ∷ o.rest) code) o.rows
          (inl refl) o.width o.at o.word o.stored o.masters o.shadows
  by-pointer (values.Int n) e code = memory-check mode c o code
  by-pointer values.Null e code = memory-check mode c o code
  by-pointer (values.Global sym_) e code = memory-check mode c o code
  by-pointer (values.Gep gep) e code = memory-check mode c o code

  pub late-turn : (pointers : List (Ty × Val)) → (pointers ≡ []) ⊎ (pointers ≡ (types.Ptr, o.ptr) ∷ []) → IsBefore mode c o pointers (hard_code c.h c.b.frame) → Turns mode c
  late-turn pointers (inl none) code = memory-check mode c o (subst (λ (list : List (Ty × Val)). IsBefore mode c o list (hard_code c.h c.b.frame)) none code)
  late-turn pointers (inr one) code = by-pointer o.ptr refl (subst (λ (list : List (Ty × Val)). IsBefore mode c o list (hard_code c.h c.b.frame)) one code)
