-- In the hardened module of the image table the code after each `cut` and each `end`, and at each lock or unlock call, may be done outside.
use Rattle.std.proofs.Common.{ℕ, zero, suc, ◌+◌, ◌≡◌, ◌≢◌, ◌∙◌, Bool, true, false, List, [], ◌∷◌, ◌++◌, map, Option, Some, None, slice_get, drop, ◌⊎◌, inl, inr, refl, ap, sym, subst, append_assoc}
use Rattle.std.specs.List.{flat_map}
use Rattle.std.specs.Option.{option_map_or}
use Rattle.ir_core.specs.declared.types.Loc.{Loc}
use Rattle.ir_core.specs.declared.types.Sym.{Sym}
use Rattle.ir_core.specs.declared.types.Ty.{Ty}
use Rattle.ir_core.specs.declared.types.Ty.TheVariants as types
use Rattle.ir_core.specs.declared.values.Side.{Side}
use Rattle.ir_core.specs.declared.values.Side.TheVariants.{M}
use Rattle.ir_core.specs.declared.values.Val.{Val}
use Rattle.ir_core.specs.declared.values.Val.TheVariants as values
use Rattle.ir_core.specs.declared.instruction.Block.{Block}
use Rattle.ir_core.specs.declared.instruction.Inst.{Inst}
use Rattle.ir_core.specs.declared.instruction.Inst.TheVariants as insts
use Rattle.ir_core.specs.Module.{ModuleParts, FuncParts}
use Rattle.ir_calls.specs.Calls.{external_named}
use Rattle.ir_flow.specs.Edges.{edges_of, is_loop_head}
use Rattle.hard_ir.specs.declared.instruction.When.{When}
use Rattle.hard_ir.specs.declared.instruction.When.TheVariants.{Tx}
use Rattle.hard_ir.specs.declared.instruction.HBlock.{HBlock}
use Rattle.hard_ir.specs.declared.instruction.HInst.{HInst}
use Rattle.hard_ir.specs.declared.instruction.HInst.TheVariants.{Cut, Begin, End, Tick, Chk, ChkMem, Mov, Do}
use Rattle.hard_ir.specs.Image.{body_of, placed, tick_before, CallKind, Inner, Outer, OfLock, kind_of, copies, copy_of, cut_point, is_done_twice, unflagged, single_result, done_by, core, check_when, checked_when, checked_before, checks_before, checks_after, ends_for, begins_for, begins_after, tick_if, leaves, row, split_table, ticked, since_ender}
use Rattle.hard_ir.specs.Hardened.{HardParts, harden, hard_block, hard_blocks, hard_func, at_entry, at_head, ticked_block}
use Rattle.hard_frames.specs.Code.{list_at, blocks_at, inst_at}
use Rattle.hard_frames.specs.Frames.{passed}
use Rattle.hard_frames.specs.declared.state.Frame.{Frame}
use Rattle.tx_bounds.specs.Outsides.{IsOutside, Begins, Copies, Checks, Cuts, Calls}

-- ---- items that leave a thread where it is, inside or outside

abbrev pub IsNoCall : Inst → Type 0
IsNoCall (insts.Call dst ret callee args) = ⊥
IsNoCall inst = Unit {0}

abbrev pub IsOther : HInst → Type 0
IsOther (Do side inst retires) = IsNoCall inst
IsOther (Mov ty reg) = Unit {0}
IsOther (Chk when ty reg) = Unit {0}
IsOther (ChkMem ty ptr val) = Unit {0}
IsOther (Tick work) = Unit {0}
IsOther Cut = ⊥
IsOther Begin = Unit {0}
IsOther End = ⊥

abbrev AreOther : List HInst → Type 0
AreOther [] = Unit {0}
AreOther (item ∷ list) = IsOther item × AreOther list

others : (xs ys : List HInst) → AreOther xs → AreOther ys → AreOther (xs ++ ys)
others [] ys a b = b
others (x ∷ xs) ys a b = (a.0, others xs ys a.1 b)

module _ (m : ModuleParts) where
  abbrev pub hard : HardParts
  hard = harden m

  abbrev pub Out : List HInst → Type 0
  Out list = IsOutside hard list

  -- after each `cut` and each `end`, and at each call that takes or gives a lock, the list is as it may be outside
  pub data OutRight : List HInst → Type 0 where
    Nothing : OutRight []
    ACut : (list : List HInst) → Out list → OutRight list → OutRight (Cut ∷ list)
    AnEnd : (list : List HInst) → Out list → OutRight list → OutRight (End ∷ list)
    ACall : (side : Side) (dst : Option Loc) (ret : Ty) (callee : Sym) (args : List (Ty × Val)) (retires : Bool) (list : List HInst)
        → (kind_of (external_named m callee) ≡ OfLock → Out (Do side (insts.Call dst ret callee args) retires ∷ list)) → OutRight list
        → OutRight (Do side (insts.Call dst ret callee args) retires ∷ list)
    Another : (item : HInst) (list : List HInst) → IsOther item → OutRight list → OutRight (item ∷ list)

  out-more : (xs ys : List HInst) → Out xs → Out (xs ++ ys)
  out-more xs ys (Begins list) = Begins (list ++ ys)
  out-more xs ys (Copies ty reg list out) = Copies ty reg (list ++ ys) (out-more list ys out)
  out-more xs ys (Checks when ty reg list out) = Checks when ty reg (list ++ ys) (out-more list ys out)
  out-more xs ys (Cuts list out) = Cuts (list ++ ys) (out-more list ys out)
  out-more xs ys (Calls side dst ret callee args retires list outer out) = Calls side dst ret callee args retires (list ++ ys) outer (out-more list ys out)

  both : (xs ys : List HInst) → OutRight xs → OutRight ys → OutRight (xs ++ ys)
  both xs ys Nothing rest = rest
  both xs ys (ACut list out right) rest = ACut (list ++ ys) (out-more list ys out) (both list ys right rest)
  both xs ys (AnEnd list out right) rest = AnEnd (list ++ ys) (out-more list ys out) (both list ys right rest)
  both xs ys (ACall side dst ret callee args retires list out right) rest =
      ACall side dst ret callee args retires (list ++ ys) (λ kind. out-more _ ys (out kind)) (both list ys right rest)
  both xs ys (Another item list other right) rest = Another item (list ++ ys) other (both list ys right rest)

  before : (xs list : List HInst) → AreOther xs → OutRight list → OutRight (xs ++ list)
  before [] list other rest = rest
  before (x ∷ xs) list other rest = Another x (xs ++ list) other.0 (before xs list other.1 rest)

  quiet : (xs : List HInst) → AreOther xs → OutRight xs
  quiet [] other = Nothing
  quiet (x ∷ xs) other = Another x xs other.0 (quiet xs other.1)

  -- ---- the rows of the table

  check-other : (when : When) (operand : Ty × Val) → AreOther (check_when when operand)
  check-other when (ty, values.Reg reg) = (tt, tt)
  check-other when (ty, values.Int n) = tt
  check-other when (ty, values.Null) = tt
  check-other when (ty, values.Global sym) = tt
  check-other when (ty, values.Gep gep) = tt

  checks-other : (when : When) (operands : List (Ty × Val)) → AreOther (flat_map (check_when when) operands)
  checks-other when [] = tt
  checks-other when (operand ∷ operands) = others (check_when when operand) (flat_map (check_when when) operands) (check-other when operand) (checks-other when operands)

  copies-other : (result : Option (Ty × Loc)) → AreOther (copies result)
  copies-other None = tt
  copies-other (Some reg) = (tt, tt)

  tick-other : (b : Bool) → AreOther (tick_if b 0)
  tick-other true = (tt, tt)
  tick-other false = tt

  done-other : (twice : Bool) (inst : Inst) → IsNoCall inst → AreOther (done_by twice inst)
  done-other true inst none = (none, (none, tt))
  done-other false inst none = (none, copies-other (single_result inst))

  no-flags-call : (inst : Inst) → IsNoCall inst → IsNoCall (unflagged inst)
  no-flags-call (insts.Bin dst op flags w a b) none = tt
  no-flags-call inst none = none

  core-other : (inst : Inst) → IsNoCall inst → AreOther (core inst)
  core-other (insts.Phi dst ty arms) none = tt
  core-other inst none = done-other (is_done_twice inst) (unflagged inst) (no-flags-call inst none)

  after-other : (inst : Inst) → AreOther (checks_after inst)
  after-other (insts.Store ty val ptr false) = others (check_when Tx (types.Ptr, ptr)) _ (check-other Tx (types.Ptr, ptr)) (tt, tt)
  after-other inst = tt

  -- a copy of a result, and then what may be outside
  copied-out : (result : Option (Ty × Loc)) (list : List HInst) → Out list → Out ((copies result ++ []) ++ list)
  copied-out None list out = out
  copied-out (Some reg) list out = Copies reg.0 reg.1 list out

  copied-right : (result : Option (Ty × Loc)) (list : List HInst) → OutRight list → OutRight ((copies result ++ []) ++ list)
  copied-right None list right = right
  copied-right (Some reg) list right = Another (copy_of reg) list tt right

  call-right : (dst : Option Loc) (ret : Ty) (callee : Sym) (args : List (Ty × Val)) (kind : CallKind) → kind_of (external_named m callee) ≡ kind
      → OutRight ((ends_for kind ++ (core (insts.Call dst ret callee args) ++ [])) ++ begins_for kind)
  call-right dst ret callee args Inner e =
      ACall M dst ret callee args true _ (λ lock. let clash : Inner ≡ OfLock = sym e ∙ lock in absurd cc)
      (copied-right (single_result (insts.Call dst ret callee args)) _ (ACut _ (Begins []) (Another Begin [] tt Nothing)))
  call-right dst ret callee args Outer e =
      AnEnd _ (Calls M dst ret callee args true _ (λ inner. let clash : Outer ≡ Inner = sym e ∙ inner in cc)
      (copied-out (single_result (insts.Call dst ret callee args)) _ (Begins [])))
      (ACall M dst ret callee args true _ (λ lock. let clash : Outer ≡ OfLock = sym e ∙ lock in absurd cc)
      (copied-right (single_result (insts.Call dst ret callee args)) _ (Another Begin [] tt Nothing)))
  call-right dst ret callee args OfLock e =
      ACall M dst ret callee args true _ (λ lock. Calls M dst ret callee args true _ (λ inner. let clash : OfLock ≡ Inner = sym e ∙ inner in cc)
      (copied-out (single_result (insts.Call dst ret callee args)) _ (Begins [])))
      (copied-right (single_result (insts.Call dst ret callee args)) _ (Another Begin [] tt Nothing))

  placed-right : (inst : Inst) → OutRight (body_of m inst ++ begins_after m inst)
  placed-right (insts.Call dst ret callee args) = call-right dst ret callee args (kind_of (external_named m callee)) refl
  placed-right inst = both (core inst ++ checks_after inst) [] (quiet _ (others (core inst) (checks_after inst) (core-other inst tt) (after-other inst))) Nothing

  row-right : (inst : Inst) → OutRight (row m 0 inst)
  row-right inst =
      before (tick_before 0 inst) (placed m inst) (tick-other (leaves inst))
      (before (checks_before inst) (body_of m inst ++ begins_after m inst) (checks-other (checked_when inst) (checked_before inst)) (placed-right inst))

  rows-right : (list : List Inst) → OutRight (flat_map (row m 0) list)
  rows-right [] = Nothing
  rows-right (inst ∷ list) = both (row m 0 inst) (flat_map (row m 0) list) (row-right inst) (rows-right list)

  -- ---- ticks

  ticked-out : (since : ℕ) (list : List HInst) → Out list → Out (ticked since list)
  ticked-out since list (Begins rest) = Begins _
  ticked-out since list (Copies ty reg rest out) = Copies ty reg _ (ticked-out (suc since) rest out)
  ticked-out since list (Checks when ty reg rest out) = Checks when ty reg _ (ticked-out (suc since) rest out)
  ticked-out since list (Cuts rest out) = Cuts _ (ticked-out (suc since) rest out)
  ticked-out since list (Calls side dst ret callee args retires rest outer out) =
      Calls side dst ret callee args retires _ outer (ticked-out (since_ender since (Do side (insts.Call dst ret callee args) retires)) rest out)

  ticked-right : (since : ℕ) (list : List HInst) → OutRight list → OutRight (ticked since list)
  ticked-right since list Nothing = Nothing
  ticked-right since list (ACut rest out right) = ACut _ (ticked-out (suc since) rest out) (ticked-right (suc since) rest right)
  ticked-right since list (AnEnd rest out right) = AnEnd _ (ticked-out (suc since) rest out) (ticked-right (suc since) rest right)
  ticked-right since list (ACall side dst ret callee args retires rest out right) =
      ACall side dst ret callee args retires _ (λ lock. ticked-out since (Do side (insts.Call dst ret callee args) retires ∷ rest) (out lock))
      (ticked-right (since_ender since (Do side (insts.Call dst ret callee args) retires)) rest right)
  ticked-right since list (Another (Do side inst retires) rest other right) = Another _ _ other (ticked-right _ rest right)
  ticked-right since list (Another (Tick work) rest other right) = Another _ _ tt (ticked-right _ rest right)
  ticked-right since list (Another (Mov ty reg) rest other right) = Another _ _ tt (ticked-right _ rest right)
  ticked-right since list (Another (Chk when ty reg) rest other right) = Another _ _ tt (ticked-right _ rest right)
  ticked-right since list (Another (ChkMem ty ptr val) rest other right) = Another _ _ tt (ticked-right _ rest right)
  ticked-right since list (Another Begin rest other right) = Another _ _ tt (ticked-right _ rest right)
  ticked-right since list (Another Cut rest other right) = absurd other
  ticked-right since list (Another End rest other right) = absurd other

  -- ---- blocks

  entry-right : (params : List (Ty × Loc)) → OutRight (map copy_of params ++ cut_point)
  entry-right [] = ACut _ (Begins []) (Another Begin [] tt Nothing)
  entry-right (param ∷ params) = Another _ _ tt (entry-right params)

  at-entry-right : (f : FuncParts) (n : ℕ) → OutRight (at_entry (split_table m) f n)
  at-entry-right f zero = entry-right f.params
  at-entry-right f (suc n) = Nothing

  head-right : (b : Bool) → OutRight (at_head (split_table m) b)
  head-right true = ACut _ (Begins []) (Another Begin [] tt Nothing)
  head-right false = Nothing

  block-right : (f : FuncParts) (n : ℕ) (block : Block) → OutRight (ticked_block (hard_block (split_table m) f n block)).list
  block-right f n block = ticked-right 0 _
      (both (at_entry (split_table m) f n) _ (at-entry-right f n)
      (both (at_head (split_table m) (is_loop_head (edges_of f).pairs n)) _ (head-right (is_loop_head (edges_of f).pairs n)) (rows-right block.insts)))

  blocks-right : (f : FuncParts) (n : ℕ) (blocks : List Block) (b : ℕ) → OutRight (list_at (map ticked_block (hard_blocks (split_table m) f n blocks)) b)
  blocks-right f n [] b = Nothing
  blocks-right f n (block ∷ blocks) zero = block-right f n block
  blocks-right f n (block ∷ blocks) (suc b) = blocks-right f (n + 1) blocks b

  funcs-right : (funcs : List FuncParts) (n b : ℕ)
      → OutRight (list_at (option_map_or (λ blocks. blocks) (slice_get (map (map ticked_block) (map (hard_func (split_table m)) funcs)) n) []) b)
  funcs-right [] n b = Nothing
  funcs-right (f ∷ funcs) zero b = blocks-right f 0 f.blocks b
  funcs-right (f ∷ funcs) (suc n) b = funcs-right funcs n b

  -- of each block of the hardened module
  pub out-right : (function block : ℕ) → OutRight (list_at (blocks_at hard function) block)
  out-right function block = funcs-right m.funcs function block

  abbrev pub Ends : Option HInst → Type 0
  Ends o = (o ≡ Some Cut) ⊎ (o ≡ Some End)

  after-out : (list : List HInst) (i : ℕ) → OutRight list → Ends (slice_get list i) → Out (drop (suc i) list)
  after-out list i Nothing at = absurd (never at)
    where
      never : Ends None → ⊥
      never (inl e) = cc
      never (inr e) = cc
  after-out list zero (ACut rest out right) at = out
  after-out list (suc i) (ACut rest out right) at = after-out rest i right at
  after-out list zero (AnEnd rest out right) at = out
  after-out list (suc i) (AnEnd rest out right) at = after-out rest i right at
  after-out list zero (ACall side dst ret callee args retires rest out right) at = absurd (never at)
    where
      never : Ends (Some (Do side (insts.Call dst ret callee args) retires)) → ⊥
      never (inl e) = cc
      never (inr e) = cc
  after-out list (suc i) (ACall side dst ret callee args retires rest out right) at = after-out rest i right at
  after-out list zero (Another item rest other right) at = absurd (never at)
    where
      never : Ends (Some item) → ⊥
      never (inl e) = let same : item ≡ Cut = cc in subst IsOther same other
      never (inr e) = let same : item ≡ End = cc in subst IsOther same other
  after-out list (suc i) (Another item rest other right) at = after-out rest i right at

  -- after each `cut` and each `end` of the hardened module
  pub ends-outside : (frame : Frame) → Ends (inst_at hard frame) → Out (drop (suc frame.index) (list_at (blocks_at hard frame.function) frame.block))
  ends-outside frame at = after-out (list_at (blocks_at hard frame.function) frame.block) frame.index (out-right frame.function frame.block) at
