-- In the hardened module of the image table each `end` stands right before an external call other than lock and unlock.
use Rattle.std.proofs.Common.{ℕ, zero, suc, ◌+◌, ◌≡◌, ◌∙◌, Bool, true, false, List, [], ◌∷◌, ◌++◌, map, Option, Some, None, slice_get, refl, ap, sym, subst, append_assoc}
use Rattle.std.specs.List.{flat_map}
use Rattle.std.specs.Option.{option_map_or}
use Rattle.ir_core.specs.declared.types.Loc.{Loc}
use Rattle.ir_core.specs.declared.types.Sym.{Sym}
use Rattle.ir_core.specs.declared.types.Ty.{Ty}
use Rattle.ir_core.specs.declared.types.Ty.TheVariants as types
use Rattle.ir_core.specs.declared.values.Side.TheVariants.{M}
use Rattle.ir_core.specs.declared.values.Val.{Val}
use Rattle.ir_core.specs.declared.values.Val.TheVariants as values
use Rattle.ir_core.specs.declared.instruction.Block.{Block}
use Rattle.ir_core.specs.declared.instruction.Inst.{Inst}
use Rattle.ir_core.specs.declared.instruction.Inst.TheVariants as insts
use Rattle.ir_core.specs.Module.{ModuleParts, FuncParts}
use Rattle.ir_calls.specs.Calls.{external_named}
use Rattle.ir_flow.specs.Edges.{edges_of, is_loop_head}
use Rattle.hard_ir.specs.declared.instruction.When.{When}
use Rattle.hard_ir.specs.declared.instruction.When.TheVariants.{Tx}
use Rattle.hard_ir.specs.declared.instruction.HBlock.{HBlock}
use Rattle.hard_ir.specs.declared.instruction.HInst.{HInst}
use Rattle.hard_ir.specs.declared.instruction.HInst.TheVariants.{Cut, Begin, End, Tick, Chk, ChkMem, Mov, Do}
use Rattle.hard_ir.specs.Image.{body_of, placed, tick_before, CallKind, Inner, Outer, OfLock, kind_of, copies, copy_of, cut_point, is_done_twice, unflagged, single_result, done_by, core, check_when, checked_when, checked_before, checks_before, checks_after, ends_for, begins_for, begins_after, tick_if, leaves, row, split_table, ticked, since_ender}
use Rattle.hard_ir.specs.Hardened.{HardParts, harden, hard_block, hard_blocks, hard_func, at_entry, at_head, ticked_block}
use Rattle.hard_frames.specs.Code.{list_at, blocks_at, inst_at}
use Rattle.hard_frames.specs.Frames.{passed}
use Rattle.hard_frames.specs.declared.state.Frame.{Frame}
use Rattle.tx_bounds.specs.Commits.{IsOuterCall, Calls}

-- ---- lists of hardened instructions

abbrev IsNoEnd : HInst → Type 0
IsNoEnd (Do side inst retires) = Unit {0}
IsNoEnd (Mov ty reg) = Unit {0}
IsNoEnd (Chk when ty reg) = Unit {0}
IsNoEnd (ChkMem ty ptr val) = Unit {0}
IsNoEnd (Tick work) = Unit {0}
IsNoEnd Cut = Unit {0}
IsNoEnd Begin = Unit {0}
IsNoEnd End = ⊥

-- none of them is an `end`
abbrev AreNoEnds : List HInst → Type 0
AreNoEnds [] = Unit {0}
AreNoEnds (item ∷ list) = IsNoEnd item × AreNoEnds list

no-ends : (xs ys : List HInst) → AreNoEnds xs → AreNoEnds ys → AreNoEnds (xs ++ ys)
no-ends [] ys a b = b
no-ends (x ∷ xs) ys a b = (a.0, no-ends xs ys a.1 b)

module _ (m : ModuleParts) where
  abbrev hard : HardParts
  hard = harden m

  -- such a call comes first
  abbrev IsCallFirst : List HInst → Type 0
  IsCallFirst list = IsOuterCall hard (slice_get list 0)

  -- each `end` is right before such a call
  data EndsRight : List HInst → Type 0 where
    Nothing : EndsRight []
    AnEnd : (list : List HInst) → IsCallFirst list → EndsRight list → EndsRight (End ∷ list)
    Another : (item : HInst) (list : List HInst) → IsNoEnd item → EndsRight list → EndsRight (item ∷ list)

  before : (xs list : List HInst) → AreNoEnds xs → EndsRight list → EndsRight (xs ++ list)
  before [] list none rest = rest
  before (x ∷ xs) list none rest = Another x (xs ++ list) none.0 (before xs list none.1 rest)

  -- ---- the rows of the table

  check-none : (when : When) (operand : Ty × Val) → AreNoEnds (check_when when operand)
  check-none when (ty, values.Reg reg) = (tt, tt)
  check-none when (ty, values.Int n) = tt
  check-none when (ty, values.Null) = tt
  check-none when (ty, values.Global sym) = tt
  check-none when (ty, values.Gep gep) = tt

  checks-none : (when : When) (operands : List (Ty × Val)) → AreNoEnds (flat_map (check_when when) operands)
  checks-none when [] = tt
  checks-none when (operand ∷ operands) = no-ends (check_when when operand) (flat_map (check_when when) operands) (check-none when operand) (checks-none when operands)

  copies-none : (result : Option (Ty × Loc)) → AreNoEnds (copies result)
  copies-none None = tt
  copies-none (Some reg) = (tt, tt)

  done-none : (twice : Bool) (inst : Inst) → AreNoEnds (done_by twice inst)
  done-none true inst = (tt, (tt, tt))
  done-none false inst = (tt, copies-none (single_result inst))

  tick-none : (b : Bool) → AreNoEnds (tick_if b 0)
  tick-none true = (tt, tt)
  tick-none false = tt

  begins-none : (kind : CallKind) → AreNoEnds (begins_for kind)
  begins-none Inner = (tt, (tt, tt))
  begins-none Outer = (tt, tt)
  begins-none OfLock = (tt, tt)

  entry-none : (params : List (Ty × Loc)) → AreNoEnds (map copy_of params ++ cut_point)
  entry-none [] = (tt, (tt, tt))
  entry-none (param ∷ params) = (tt, entry-none params)

  core-none : (inst : Inst) → AreNoEnds (core inst)
  core-none (insts.Phi dst ty arms) = tt
  core-none inst = done-none (is_done_twice inst) (unflagged inst)

  after-none : (inst : Inst) → AreNoEnds (checks_after inst)
  after-none (insts.Store ty val ptr false) = no-ends (check_when Tx (types.Ptr, ptr)) _ (check-none Tx (types.Ptr, ptr)) (tt, tt)
  after-none inst = tt

  quiet : (xs : List HInst) → AreNoEnds xs → EndsRight xs
  quiet [] none = Nothing
  quiet (x ∷ xs) none = Another x xs none.0 (quiet xs none.1)

  first-call : (xs ys : List HInst) → IsCallFirst xs → IsCallFirst (xs ++ ys)
  first-call [] ys call = elim call [ ]
  first-call (x ∷ xs) ys call = call

  both : (xs ys : List HInst) → EndsRight xs → EndsRight ys → EndsRight (xs ++ ys)
  both xs ys Nothing rest = rest
  both xs ys (AnEnd list call right) rest = AnEnd (list ++ ys) (first-call list ys call) (both list ys right rest)
  both xs ys (Another item list none right) rest = Another item (list ++ ys) none (both list ys right rest)

  -- what does an instruction
  call-right : (dst : Option Loc) (ret : Ty) (callee : Sym) (args : List (Ty × Val)) (kind : CallKind) → kind_of (external_named m callee) ≡ kind
      → EndsRight (ends_for kind ++ (core (insts.Call dst ret callee args) ++ []))
  call-right dst ret callee args Inner e = quiet _ (no-ends (core (insts.Call dst ret callee args)) [] (core-none (insts.Call dst ret callee args)) tt)
  call-right dst ret callee args Outer e =
      AnEnd _ (Calls M dst ret callee args true e) (quiet _ (no-ends (core (insts.Call dst ret callee args)) [] (core-none (insts.Call dst ret callee args)) tt))
  call-right dst ret callee args OfLock e = quiet _ (no-ends (core (insts.Call dst ret callee args)) [] (core-none (insts.Call dst ret callee args)) tt)

  body-right : (inst : Inst) → EndsRight (body_of m inst)
  body-right (insts.Call dst ret callee args) = call-right dst ret callee args (kind_of (external_named m callee)) refl
  body-right inst = quiet (core inst ++ checks_after inst) (no-ends (core inst) (checks_after inst) (core-none inst) (after-none inst))

  after-right : (inst : Inst) → EndsRight (begins_after m inst)
  after-right (insts.Call dst ret callee args) = quiet _ (begins-none (kind_of (external_named m callee)))
  after-right inst = Nothing

  row-right : (inst : Inst) → EndsRight (row m 0 inst)
  row-right inst =
      before (tick_before 0 inst) (placed m inst) (tick-none (leaves inst))
      (before (checks_before inst) (body_of m inst ++ begins_after m inst) (checks-none (checked_when inst) (checked_before inst))
      (both (body_of m inst) (begins_after m inst) (body-right inst) (after-right inst)))

  rows-right : (list : List Inst) → EndsRight (flat_map (row m 0) list)
  rows-right [] = Nothing
  rows-right (inst ∷ list) = both (row m 0 inst) (flat_map (row m 0) list) (row-right inst) (rows-right list)

  -- ---- ticks

  ticked-first : (since : ℕ) (list : List HInst) → IsCallFirst list → IsCallFirst (ticked since list)
  ticked-first since [] call = call
  ticked-first since (Do side inst retires ∷ list) call = call
  ticked-first since (Tick work ∷ list) call = elim call [ ]
  ticked-first since (Mov ty reg ∷ list) call = call
  ticked-first since (Chk when ty reg ∷ list) call = call
  ticked-first since (ChkMem ty ptr val ∷ list) call = call
  ticked-first since (Cut ∷ list) call = call
  ticked-first since (Begin ∷ list) call = call
  ticked-first since (End ∷ list) call = call

  ticked-right : (since : ℕ) (list : List HInst) → EndsRight list → EndsRight (ticked since list)
  ticked-right since list Nothing = Nothing
  ticked-right since list (AnEnd rest call right) = AnEnd (ticked (since_ender since End) rest) (ticked-first (since_ender since End) rest call) (ticked-right (since_ender since End) rest right)
  ticked-right since list (Another (Do side inst retires) rest none right) = Another _ _ tt (ticked-right _ rest right)
  ticked-right since list (Another (Tick work) rest none right) = Another _ _ tt (ticked-right _ rest right)
  ticked-right since list (Another (Mov ty reg) rest none right) = Another _ _ tt (ticked-right _ rest right)
  ticked-right since list (Another (Chk when ty reg) rest none right) = Another _ _ tt (ticked-right _ rest right)
  ticked-right since list (Another (ChkMem ty ptr val) rest none right) = Another _ _ tt (ticked-right _ rest right)
  ticked-right since list (Another Cut rest none right) = Another _ _ tt (ticked-right _ rest right)
  ticked-right since list (Another Begin rest none right) = Another _ _ tt (ticked-right _ rest right)
  ticked-right since list (Another End rest none right) = absurd none

  -- ---- blocks

  entry-right : (f : FuncParts) (n : ℕ) → EndsRight (at_entry (split_table m) f n)
  entry-right f zero = quiet _ (entry-none f.params)
  entry-right f (suc n) = Nothing

  head-right : (b : Bool) → EndsRight (at_head (split_table m) b)
  head-right true = quiet _ (tt, (tt, tt))
  head-right false = Nothing

  block-right : (f : FuncParts) (n : ℕ) (block : Block) → EndsRight (ticked_block (hard_block (split_table m) f n block)).list
  block-right f n block = ticked-right 0 _
      (both (at_entry (split_table m) f n) _ (entry-right f n)
      (both (at_head (split_table m) (is_loop_head (edges_of f).pairs n)) _ (head-right (is_loop_head (edges_of f).pairs n)) (rows-right block.insts)))

  blocks-right : (f : FuncParts) (n : ℕ) (blocks : List Block) (b : ℕ) → EndsRight (list_at (map ticked_block (hard_blocks (split_table m) f n blocks)) b)
  blocks-right f n [] b = Nothing
  blocks-right f n (block ∷ blocks) zero = block-right f n block
  blocks-right f n (block ∷ blocks) (suc b) = blocks-right f (n + 1) blocks b

  funcs-right : (funcs : List FuncParts) (n b : ℕ)
      → EndsRight (list_at (option_map_or (λ blocks. blocks) (slice_get (map (map ticked_block) (map (hard_func (split_table m)) funcs)) n) []) b)
  funcs-right [] n b = Nothing
  funcs-right (f ∷ funcs) zero b = blocks-right f 0 f.blocks b
  funcs-right (f ∷ funcs) (suc n) b = funcs-right funcs n b

  at-end : (list : List HInst) (i : ℕ) → EndsRight list → slice_get list i ≡ Some End → IsOuterCall hard (slice_get list (suc i))
  at-end list i Nothing at = absurd cc
  at-end list zero (AnEnd rest call right) at = call
  at-end list (suc i) (AnEnd rest call right) at = at-end rest i right at
  at-end list zero (Another item rest none right) at = let same : item ≡ End = cc in absurd (subst IsNoEnd same none)
  at-end list (suc i) (Another item rest none right) at = at-end rest i right at

  pub call-after : (frame : Frame) → inst_at hard frame ≡ Some End → IsOuterCall hard (inst_at hard (passed frame))
  call-after frame at = at-end (list_at (blocks_at hard frame.function) frame.block) frame.index (funcs-right m.funcs frame.function frame.block) at
