-- What an instruction asks for before which no transaction ends: what its thread does by itself, or a mutex.
use Rattle.std.proofs.Common.{ℕ, ◌≡◌, ◌∙◌, Bool, true, false, List, [], ◌∷◌, Option, Some, None, Result, Ok, Err, if◌then◌else◌, refl, ap, sym, subst, ◌==◌, rules}
use Rattle.std.specs.List.{slice_index_or}
use Rattle.ir_core.specs.declared.types.Ty.{Ty}
use Rattle.ir_core.specs.declared.types.Loc.{Loc}
use Rattle.ir_core.specs.declared.types.Width.{Width}
use Rattle.ir_core.specs.declared.types.Sym.{Sym}
use Rattle.ir_core.specs.declared.values.Val.{Val}
use Rattle.ir_core.specs.declared.instruction.Inst.{Inst}
use Rattle.ir_core.specs.declared.instruction.Inst.TheVariants as insts
use Rattle.ir_core.specs.Module.{ModuleParts}
use Rattle.op_table.specs.declared.OpCause.{OpCause}
use Rattle.ir_layout.specs.Memory.{LayoutParts}
use Rattle.ir_calls.specs.declared.externals.External.{External}
use Rattle.ir_calls.specs.declared.externals.External.TheVariants.{PthreadCreate, PthreadJoin, MutexLock, MutexUnlock, Putchar, Exit as ExitProgram, Malloc, Free as FreeMemory, HaftOut, HaftArg}
use Rattle.ir_calls.specs.Calls.{external_named}
use Rattle.inst_meaning.specs.declared.actions.Callee.{Callee}
use Rattle.inst_meaning.specs.declared.actions.Callee.TheVariants.{Defined, Outside, Unknown}
use Rattle.inst_meaning.specs.declared.actions.Cause.TheVariants.{Unreachable}
use Rattle.inst_meaning.specs.declared.actions.Request.TheVariants.{Lock, Unlock}
use Rattle.inst_meaning.specs.declared.actions.Place.{Place}
use Rattle.inst_meaning.specs.declared.actions.Update.{Update as Updates}
use Rattle.inst_meaning.specs.declared.actions.Action.{Action}
use Rattle.inst_meaning.specs.declared.actions.Action.TheVariants.{Assign, Reserve, Read, Write, Update, Pass, Jump, Call, Ask, Create, Join, Exit, Return, Fault}
use Rattle.inst_meaning.specs.Operands.{typed_word, argument_words}
use Rattle.inst_meaning.specs.Action.{on_word, on_width, operated, inner_pointer, returning, asked, asking, outside, entering, calling, callees_of, action_of}
use Rattle.process_laws.specs.Alone.{IsAlone}
use Rattle.src_laws.proofs.Callees.{outside-told}
use Rattle.hard_ir.specs.declared.instruction.HInst.{HInst}
use Rattle.hard_ir.specs.declared.instruction.HInst.TheVariants.{End}
use Rattle.hard_ir.specs.Image.{kind_of, ends_for, ends_before}
use Rattle.hard_meaning.specs.Locks.{MutexCall, Locks, Unlocks, mutex_call}

pub data Inner (action : Action) : Type 0 where
  ByItself : IsAlone action → mutex_call action ≡ None → Inner action
  OfMutex : (call : MutexCall) → mutex_call action ≡ Some call → Inner action

pub record IsInner (action : Action) : Type 0 where
  pub kind : Inner action

on-word : (o : Option ℕ) (ask : ℕ → Action) → ((n : ℕ) → IsInner (ask n)) → IsInner (on_word o ask)
on-word None ask h = record { kind = ByItself tt refl }
on-word (Some n) ask h = h n

on-width : (o : Option Width) (ask : Width → Action) → ((w : Width) → IsInner (ask w)) → IsInner (on_width o ask)
on-width None ask h = record { kind = ByItself tt refl }
on-width (Some w) ask h = h w

on-test : (b : Bool) (action : Action) → IsInner action → IsInner (if b then action else Fault Unreachable)
on-test true action h = h
on-test false action h = record { kind = ByItself tt refl }

operated-inner : (r : Result ℕ OpCause) → IsInner (operated r)
operated-inner (Ok word) = record { kind = ByItself tt refl }
operated-inner (Err cause) = record { kind = ByItself tt refl }

assigned : (n : ℕ) → IsInner (Assign n)
assigned n = record { kind = ByItself tt refl }

read : (place : Place) (atomic : Bool) → IsInner (Read place atomic)
read place atomic = record { kind = ByItself tt refl }

written : (place : Place) (n : ℕ) (atomic : Bool) → IsInner (Write place n atomic)
written place n atomic = record { kind = ByItself tt refl }

updated : (place : Place) (update : Updates) → IsInner (Update place update)
updated place update = record { kind = ByItself tt refl }

jumped : (label : Loc) → IsInner (Jump label)
jumped label = record { kind = ByItself tt refl }

returned : (n : ℕ) → IsInner (Return n)
returned n = record { kind = ByItself tt refl }

pointer-inner : (l : LayoutParts) (base : Ty) (address : ℕ) (words : Option (List (Width × ℕ))) → IsInner (inner_pointer l base address words)
pointer-inner l base address None = record { kind = ByItself tt refl }
pointer-inner l base address (Some words) = search (rules, on-word, assigned)

returning-inner : (l : LayoutParts) (registers : List (Option ℕ)) (ty : Ty) (value : Option Val) → IsInner (returning l registers ty value)
returning-inner l registers ty None = record { kind = ByItself tt refl }
returning-inner l registers ty (Some value) = search (rules, on-word, returned)

entering-inner : (n : ℕ) (o : Option (List ℕ)) → IsInner (entering n o)
entering-inner n None = record { kind = ByItself tt refl }
entering-inner n (Some words) = record { kind = ByItself tt refl }

-- an external before which no transaction ends takes or gives a mutex
outside-inner : (l : LayoutParts) (callees : List Callee) (registers : List (Option ℕ)) (external : External) (args : List (Ty × Val))
    → ends_for (kind_of (Some external)) ≡ [] → IsInner (outside l callees registers external args)
outside-inner l callees registers MutexLock [] none = record { kind = ByItself tt refl }
outside-inner l callees registers MutexLock (arg ∷ args) none =
    on-word (typed_word l registers arg.0 arg.1) (asked MutexLock) (λ n. record { kind = OfMutex (Locks n) refl })
outside-inner l callees registers MutexUnlock [] none = record { kind = ByItself tt refl }
outside-inner l callees registers MutexUnlock (arg ∷ args) none =
    on-word (typed_word l registers arg.0 arg.1) (asked MutexUnlock) (λ n. record { kind = OfMutex (Unlocks n) refl })
outside-inner l callees registers PthreadCreate args none = absurd cc
outside-inner l callees registers PthreadJoin args none = absurd cc
outside-inner l callees registers Putchar args none = absurd cc
outside-inner l callees registers ExitProgram args none = absurd cc
outside-inner l callees registers Malloc args none = absurd cc
outside-inner l callees registers FreeMemory args none = absurd cc
outside-inner l callees registers HaftOut args none = absurd cc
outside-inner l callees registers HaftArg args none = absurd cc

calling-inner : (m : ModuleParts) (l : LayoutParts) (registers : List (Option ℕ)) (callee : Sym) (args : List (Ty × Val)) (o : Callee)
    → slice_index_or (callees_of m) callee.0 Unknown ≡ o → ends_for (kind_of (external_named m callee)) ≡ [] → IsInner (calling l (callees_of m) registers o args)
calling-inner m l registers callee args (Defined n) e none = entering-inner n (argument_words l registers args)
calling-inner m l registers callee args Unknown e none = record { kind = ByItself tt refl }
calling-inner m l registers callee args (Outside external) e none =
    outside-inner l (callees_of m) registers external args (ap (λ (o : Option External). ends_for (kind_of o)) (sym (outside-told m callee external e)) ∙ none)

ruleset parts = (on-word, on-width, on-test, operated-inner, assigned, read, written, updated, jumped, returned, pointer-inner)

is-inner : (m : ModuleParts) (l : LayoutParts) (registers : List (Option ℕ)) (inst : Inst) → ends_before m inst ≡ [] → IsInner (action_of l (callees_of m) registers inst)
is-inner m l registers (insts.Bin dst op flags w a b) none = search (rules, parts)
is-inner m l registers (insts.Cmp dst pred ty a b) none = search (rules, parts)
is-inner m l registers (insts.Select dst cond ty a b) none = search (rules, parts)
is-inner m l registers (insts.Cast dst op from a to) none = search (rules, parts)
is-inner m l registers (insts.Gep dst base ptr index) none = search (rules, parts)
is-inner m l registers (insts.Alloca dst ty) none = record { kind = ByItself tt refl }
is-inner m l registers (insts.Load dst ty ptr atomic) none = search (rules, parts)
is-inner m l registers (insts.Store ty val ptr atomic) none = search (rules, parts)
is-inner m l registers (insts.Rmw dst op ptr ty val) none = search (rules, parts)
is-inner m l registers (insts.CmpXchg dst ptr ty old new) none = search (rules, parts)
is-inner m l registers insts.Fence none = record { kind = ByItself tt refl }
is-inner m l registers (insts.Extract dst elem pair index) none = search (rules, parts)
is-inner m l registers (insts.Call dst ret callee args) none =
    calling-inner m l registers callee args (slice_index_or (callees_of m) callee.0 Unknown) refl none
is-inner m l registers (insts.Phi dst ty arms) none = record { kind = ByItself tt refl }
is-inner m l registers (insts.Br to) none = record { kind = ByItself tt refl }
is-inner m l registers (insts.CondBr cond on_true on_false) none = search (rules, parts)
is-inner m l registers (insts.Switch ty on default cases) none = search (rules, parts)
is-inner m l registers (insts.Ret ty val) none = returning-inner l registers ty val
is-inner m l registers insts.Unreachable none = record { kind = ByItself tt refl }

pub inner-kind : (m : ModuleParts) (l : LayoutParts) (registers : List (Option ℕ)) (inst : Inst) → ends_before m inst ≡ [] → Inner (action_of l (callees_of m) registers inst)
inner-kind m l registers inst none = (is-inner m l registers inst none).kind
