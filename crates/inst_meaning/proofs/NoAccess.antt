-- Which instructions make no access to memory: all but loads, stores, updates and calls.
use Rattle.std.proofs.Common.{ℕ, ◌≡◌, Bool, true, false, cond, List, Option, Some, None, Result, Ok, Err, refl, rules}
use Rattle.ir_core.specs.declared.types.Width.{Width}
use Rattle.ir_core.specs.declared.types.Ty.{Ty}
use Rattle.ir_core.specs.declared.types.Loc.{Loc}
use Rattle.ir_core.specs.declared.types.Sym.{Sym}
use Rattle.ir_core.specs.declared.values.Val.{Val}
use Rattle.ir_core.specs.declared.instruction.RmwOp.{RmwOp}
use Rattle.ir_core.specs.declared.instruction.Inst.{Inst}
use Rattle.ir_core.specs.declared.instruction.Inst.TheVariants as insts
use Rattle.op_table.specs.declared.OpCause.{OpCause}
use Rattle.ir_layout.specs.Memory.{LayoutParts}
use Rattle.inst_meaning.specs.declared.actions.Action.{Action}
use Rattle.inst_meaning.specs.declared.actions.Action.TheVariants.{Fault}
use Rattle.inst_meaning.specs.declared.actions.Callee.{Callee}
use Rattle.inst_meaning.specs.declared.actions.Cause.TheVariants.{Unreachable}
use Rattle.inst_meaning.specs.Accesses.{access_of}
use Rattle.inst_meaning.specs.Action.{on_word, on_width, operated, inner_pointer, returning, action_of}

abbrev HasNone : ℕ → Action → Type 0
HasNone made action = access_of made action ≡ None

module _ (made : ℕ) where
  on_word-none : (o : Option ℕ) (ask : ℕ → Action) → ((n : ℕ) → HasNone made (ask n)) → HasNone made (on_word o ask)
  on_word-none None ask h = refl
  on_word-none (Some n) ask h = h n

  on_width-none : (o : Option Width) (ask : Width → Action) → ((w : Width) → HasNone made (ask w)) → HasNone made (on_width o ask)
  on_width-none None ask h = refl
  on_width-none (Some w) ask h = h w

  on_test-none : (b : Bool) (action : Action) → HasNone made action → HasNone made (cond b action (Fault Unreachable))
  on_test-none true action h = h
  on_test-none false action h = refl

  operated-none : (r : Result ℕ OpCause) → HasNone made (operated r)
  operated-none (Ok word) = refl
  operated-none (Err cause) = refl

  inner_pointer-none : (l : LayoutParts) (base : Ty) (address : ℕ) (words : Option (List (Width × ℕ))) → HasNone made (inner_pointer l base address words)
  inner_pointer-none l base address None = refl
  inner_pointer-none l base address (Some words) = search (rules, on_word-none)

  returning-none : (l : LayoutParts) (registers : List (Option ℕ)) (ty : Ty) (value : Option Val) → HasNone made (returning l registers ty value)
  returning-none l registers ty None = refl
  returning-none l registers ty (Some value) = search (rules, on_word-none)

ruleset parts = (on_word-none, on_width-none, on_test-none, operated-none, inner_pointer-none, returning-none)

-- no load, no store, no update and no call
pub record IsOther (inst : Inst) : Type 0 where
  pub no_load : (dst : Loc) (ty : Ty) (ptr : Val) (atomic : Bool) → inst ≡ insts.Load dst ty ptr atomic → ⊥
  pub no_store : (ty : Ty) (val ptr : Val) (atomic : Bool) → inst ≡ insts.Store ty val ptr atomic → ⊥
  pub no_combine : (dst : Loc) (op : RmwOp) (ptr : Val) (ty : Ty) (val : Val) → inst ≡ insts.Rmw dst op ptr ty val → ⊥
  pub no_exchange : (dst : Loc) (ptr : Val) (ty : Ty) (expected desired : Val) → inst ≡ insts.CmpXchg dst ptr ty expected desired → ⊥
  pub no_call : (dst : Option Loc) (ret : Ty) (callee : Sym) (args : List (Ty × Val)) → inst ≡ insts.Call dst ret callee args → ⊥

pub no_access : (made : ℕ) (l : LayoutParts) (callees : List Callee) (registers : List (Option ℕ)) (inst : Inst) → IsOther inst → access_of made (action_of l callees registers inst) ≡ None
no_access made l callees registers (insts.Bin dst op flags w a b) is = search (rules, parts)
no_access made l callees registers (insts.Cmp dst pred ty a b) is = search (rules, parts)
no_access made l callees registers (insts.Select dst condition ty a b) is = search (rules, parts)
no_access made l callees registers (insts.Cast dst op from a to) is = search (rules, parts)
no_access made l callees registers (insts.Gep dst base ptr index) is = search (rules, parts)
no_access made l callees registers (insts.Alloca dst ty) is = refl
no_access made l callees registers (insts.Load dst ty ptr atomic) is = absurd (is.no_load dst ty ptr atomic refl)
no_access made l callees registers (insts.Store ty val ptr atomic) is = absurd (is.no_store ty val ptr atomic refl)
no_access made l callees registers (insts.Rmw dst op ptr ty val) is = absurd (is.no_combine dst op ptr ty val refl)
no_access made l callees registers (insts.CmpXchg dst ptr ty expected desired) is = absurd (is.no_exchange dst ptr ty expected desired refl)
no_access made l callees registers insts.Fence is = refl
no_access made l callees registers (insts.Extract dst elem pair index) is = search (rules, parts)
no_access made l callees registers (insts.Call dst ret callee args) is = absurd (is.no_call dst ret callee args refl)
no_access made l callees registers (insts.Br to) is = refl
no_access made l callees registers (insts.CondBr condition on_true on_false) is = search (rules, parts)
no_access made l callees registers (insts.Switch ty on default cases) is = search (rules, parts)
no_access made l callees registers (insts.Ret ty value) is = search (rules, parts)
no_access made l callees registers (insts.Phi dst ty arms) is = refl
no_access made l callees registers insts.Unreachable is = refl
