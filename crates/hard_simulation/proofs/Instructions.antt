-- What instructions ask for, by the rows of the image table: what is checked before an instruction that is done once decides its action,
-- and what is done on each side assigns a word.
use Rattle.std.proofs.Common.{ℕ, zero, suc, ◌≡◌, Bool, true, false, List, [], ◌∷◌, ◌++◌, Option, Some, None, Result, Ok, Err, slice_get, if◌then◌else◌, refl, ap, sym, subst, rules}
use Rattle.std.specs.List.{slice_index_or}
use Rattle.std.specs.Option.{option_map, option_map_or}
use Rattle.ir_core.specs.declared.types.Width.{Width}
use Rattle.ir_core.specs.declared.types.Ty.{Ty}
use Rattle.ir_core.specs.declared.types.Loc.{Loc}
use Rattle.ir_core.specs.declared.values.Val.{Val}
use Rattle.ir_core.specs.declared.values.Val.TheVariants as values
use Rattle.ir_core.specs.declared.values.Side.TheVariants.{M, S}
use Rattle.ir_core.specs.declared.instruction.Inst.{Inst}
use Rattle.ir_core.specs.declared.instruction.Inst.TheVariants as insts
use Rattle.op_table.specs.declared.OpCause.{OpCause}
use Rattle.ir_layout.specs.Memory.{LayoutParts}
use Rattle.ir_flow.specs.Uses.{reg_in, reg_in_arg, regs_in}
use Rattle.ir_calls.specs.declared.externals.External.{External}
use Rattle.ir_calls.specs.declared.externals.External.TheVariants.{PthreadCreate, PthreadJoin, MutexLock, MutexUnlock, Putchar, Exit as ExitProgram, Malloc, Free as FreeMemory, HaftOut, HaftArg}
use Rattle.inst_meaning.specs.Registers.{get}
use Rattle.inst_meaning.specs.declared.actions.Callee.{Callee}
use Rattle.inst_meaning.specs.declared.actions.Callee.TheVariants.{Defined, Outside, Unknown}
use Rattle.inst_meaning.specs.declared.actions.Cause.{Cause}
use Rattle.inst_meaning.specs.declared.actions.Cause.TheVariants.{Unreachable}
use Rattle.inst_meaning.specs.declared.actions.Action.{Action}
use Rattle.inst_meaning.specs.declared.actions.Action.TheVariants.{Assign, Reserve, Read, Write, Update, Pass, Jump, Call, Ask, Create, Join, Exit, Return, Fault}
use Rattle.inst_meaning.specs.Operands.{word_of, argument_words}
use Rattle.ir_core.specs.Instructions.{is_phi}
use Rattle.inst_meaning.specs.Action.{on_word, on_width, operated, inner_pointer, creating, asking, outside, calling, action_of, destination}
use Rattle.inst_laws.specs.Agreement.{Agree, IsDefined}
use Rattle.inst_laws.proofs.Flags.{action-plain}
use Rattle.ir_check.proofs.Members.{IsIn, in-front, in-back, in-flat}
use Rattle.hard_ir.specs.declared.instruction.HInst.TheVariants.{Do}
use Rattle.hard_ir.specs.Image.{unflagged, is_doubled, single_result, copies, flow, checked}

-- ---- operands that are the same in two files

-- a value that is a register has the same word in both, or none in either
abbrev pub SameValue : List (Option ℕ) → List (Option ℕ) → Val → Type 0
SameValue a b (values.Reg reg) = get a reg.0 ≡ get b reg.0
SameValue a b other = Unit {0}

abbrev pub AreSame : List (Option ℕ) → List (Option ℕ) → List (Ty × Val) → Type 0
AreSame a b [] = Unit {0}
AreSame a b (operand ∷ operands) = SameValue a b operand.1 × AreSame a b operands

pub same-more : (a b : List (Option ℕ)) (done : List (Ty × Val)) (operand : Ty × Val) → AreSame a b done → SameValue a b operand.1
    → AreSame a b (done ++ operand ∷ [])
same-more a b [] operand h same = (same, tt)
same-more a b (first ∷ done) operand h same = (h.0, same-more a b done operand h.1 same)

same-value : (a b : List (Option ℕ)) (value : Val) → Agree a b → SameValue a b value
same-value a b (values.Reg reg) agree = agree.same reg.0
same-value a b (values.Int n) agree = tt
same-value a b values.Null agree = tt
same-value a b (values.Global sym) agree = tt
same-value a b (values.Gep gep) agree = tt

pub same-all : (a b : List (Option ℕ)) (operands : List (Ty × Val)) → Agree a b → AreSame a b operands
same-all a b [] agree = tt
same-all a b (operand ∷ operands) agree = (same-value a b operand.1 agree, same-all a b operands agree)

-- ---- what is checked decides the action

module _ (l : LayoutParts) (a b : List (Option ℕ)) where
  word-alike : (value : Val) → SameValue a b value → word_of l a value ≡ word_of l b value
  word-alike (values.Reg reg) h = h
  word-alike (values.Int n) h = refl
  word-alike values.Null h = refl
  word-alike (values.Global sym) h = refl
  word-alike (values.Gep gep) h = refl

  words-alike : (arguments : List (Ty × Val)) → AreSame a b arguments → argument_words l a arguments ≡ argument_words l b arguments
  words-alike [] h = refl
  words-alike (argument ∷ arguments) h = rw (word-alike argument.1 h.0, words-alike arguments h.1) refl

  creating-alike : (callees : List Callee) (arguments : List (Ty × Val)) → AreSame a b arguments
      → creating l callees a arguments ≡ creating l callees b arguments
  creating-alike callees [] h = refl
  creating-alike callees (to ∷ []) h = refl
  creating-alike callees (to ∷ attributes ∷ []) h = refl
  creating-alike callees (to ∷ attributes ∷ start ∷ []) h = refl
  creating-alike callees (to ∷ attributes ∷ start ∷ argument ∷ []) h = rw (word-alike to.1 h.0, word-alike argument.1 h.1.1.1.0) refl
  creating-alike callees (to ∷ attributes ∷ start ∷ argument ∷ other ∷ others) h = refl

  asking-alike : (external : External) (arguments : List (Ty × Val)) → AreSame a b arguments
      → asking l a external arguments ≡ asking l b external arguments
  asking-alike external [] h = refl
  asking-alike external (argument ∷ others) h = rw (word-alike argument.1 h.0) refl

  outside-alike : (callees : List Callee) (external : External) (arguments : List (Ty × Val)) → AreSame a b arguments
      → outside l callees a external arguments ≡ outside l callees b external arguments
  outside-alike callees PthreadCreate arguments h = creating-alike callees arguments h
  outside-alike callees PthreadJoin arguments h = asking-alike PthreadJoin arguments h
  outside-alike callees MutexLock arguments h = asking-alike MutexLock arguments h
  outside-alike callees MutexUnlock arguments h = asking-alike MutexUnlock arguments h
  outside-alike callees Putchar arguments h = asking-alike Putchar arguments h
  outside-alike callees ExitProgram arguments h = asking-alike ExitProgram arguments h
  outside-alike callees Malloc arguments h = asking-alike Malloc arguments h
  outside-alike callees FreeMemory arguments h = asking-alike FreeMemory arguments h
  outside-alike callees HaftOut arguments h = asking-alike HaftOut arguments h
  outside-alike callees HaftArg arguments h = asking-alike HaftArg arguments h

  calling-alike : (callees : List Callee) (callee : Callee) (arguments : List (Ty × Val)) → AreSame a b arguments
      → calling l callees a callee arguments ≡ calling l callees b callee arguments
  calling-alike callees (Defined n) arguments h = rw (words-alike arguments h) refl
  calling-alike callees (Outside external) arguments h = outside-alike callees external arguments h
  calling-alike callees Unknown arguments h = refl

  pub acts-alike : (callees : List Callee) (inst : Inst) → is_doubled inst ≡ false → AreSame a b (checked inst)
      → action_of l callees a inst ≡ action_of l callees b inst
  acts-alike callees (insts.Bin dst op flags w x y) single h = absurd cc
  acts-alike callees (insts.Cmp dst pred ty x y) single h = absurd cc
  acts-alike callees (insts.Select dst condition ty x y) single h = absurd cc
  acts-alike callees (insts.Cast dst op from x to) single h = absurd cc
  acts-alike callees (insts.Gep dst base ptr index) single h = absurd cc
  acts-alike callees (insts.Extract dst elem pair index) single h = absurd cc
  acts-alike callees (insts.Alloca dst ty) single h = refl
  acts-alike callees (insts.Load dst ty ptr atomic) single h = rw (word-alike ptr h.0) refl
  acts-alike callees (insts.Store ty val ptr atomic) single h = rw (word-alike ptr h.0, word-alike val h.1.0) refl
  acts-alike callees (insts.Rmw dst op ptr ty val) single h = rw (word-alike ptr h.0, word-alike val h.1.0) refl
  acts-alike callees (insts.CmpXchg dst ptr ty old new) single h =
      rw (word-alike ptr h.0, word-alike old h.1.0, word-alike new h.1.1.0) refl
  acts-alike callees insts.Fence single h = refl
  acts-alike callees (insts.Call dst ret callee args) single h = calling-alike callees (slice_index_or callees callee.0 Unknown) args h
  acts-alike callees (insts.Phi dst ty arms) single h = refl
  acts-alike callees (insts.Br to) single h = refl
  acts-alike callees (insts.CondBr condition on_true on_false) single h = rw (word-alike condition h.0) refl
  acts-alike callees (insts.Switch ty on default cases) single h = rw (word-alike on h.0) refl
  acts-alike callees (insts.Ret ty None) single h = refl
  acts-alike callees (insts.Ret ty (Some value)) single h = rw (word-alike value h.0) refl
  acts-alike callees insts.Unreachable single h = refl

-- ---- what is done on each side assigns a word

record IsAssigning (action : Action) : Type 0 where
  assigns : IsDefined action → (word : ℕ) × (action ≡ Assign word)

assign-assigns : (n : ℕ) → IsAssigning (Assign n)
assign-assigns n = record { assigns = λ _. (n, refl) }

on-word : (o : Option ℕ) (ask : ℕ → Action) → ((n : ℕ) → IsAssigning (ask n)) → IsAssigning (on_word o ask)
on-word None ask h = record { assigns = λ none. absurd none }
on-word (Some n) ask h = h n

on-width : (o : Option Width) (ask : Width → Action) → ((w : Width) → IsAssigning (ask w)) → IsAssigning (on_width o ask)
on-width None ask h = record { assigns = λ none. absurd none }
on-width (Some w) ask h = h w

on-test : (b : Bool) (action : Action) → IsAssigning action → IsAssigning (if b then action else Fault Unreachable)
on-test true action h = h
on-test false action h = record { assigns = λ none. absurd none }

operated-assigns : (r : Result ℕ OpCause) → IsAssigning (operated r)
operated-assigns (Ok word) = assign-assigns word
operated-assigns (Err cause) = record { assigns = λ none. absurd none }

inner-assigns : (l : LayoutParts) (base : Ty) (address : ℕ) (words : Option (List (Width × ℕ))) → IsAssigning (inner_pointer l base address words)
inner-assigns l base address None = record { assigns = λ none. absurd none }
inner-assigns l base address (Some words) = search (rules, on-word, assign-assigns)

ruleset parts = (on-word, on-width, on-test, assign-assigns, operated-assigns, inner-assigns)

action-assigns : (l : LayoutParts) (callees : List Callee) (registers : List (Option ℕ)) (inst : Inst) → is_doubled inst ≡ true
    → IsAssigning (action_of l callees registers inst)
action-assigns l callees registers (insts.Bin dst op flags w a b) doubled = search (rules, parts)
action-assigns l callees registers (insts.Cmp dst pred ty a b) doubled = search (rules, parts)
action-assigns l callees registers (insts.Select dst condition ty a b) doubled = search (rules, parts)
action-assigns l callees registers (insts.Cast dst op from a to) doubled = search (rules, parts)
action-assigns l callees registers (insts.Gep dst base ptr index) doubled = search (rules, parts)
action-assigns l callees registers (insts.Extract dst elem pair index) doubled = search (rules, parts)
action-assigns l callees registers inst doubled = absurd cc

pub doubled-assigns : (l : LayoutParts) (callees : List Callee) (registers : List (Option ℕ)) (inst : Inst) → is_doubled inst ≡ true
    → IsDefined (action_of l callees registers inst) → (word : ℕ) × (action_of l callees registers inst ≡ Assign word)
doubled-assigns l callees registers inst doubled is = (action-assigns l callees registers inst doubled).assigns is

-- an action can be done, or is a fault
pub data CanBe (action : Action) : Type 0 where
  Done : IsDefined action → CanBe action
  Faulty : (cause : Cause) → action ≡ Fault cause → CanBe action

pub can-be : (action : Action) → CanBe action
can-be (Fault cause) = Faulty cause refl
can-be (Assign n) = Done tt
can-be (Reserve size) = Done tt
can-be (Read place atomic) = Done tt
can-be (Write place n atomic) = Done tt
can-be (Update place update) = Done tt
can-be Pass = Done tt
can-be (Jump label) = Done tt
can-be (Call n words) = Done tt
can-be (Ask request) = Done tt
can-be (Create address n argument) = Done tt
can-be (Join other) = Done tt
can-be (Exit code) = Done tt
can-be (Return n) = Done tt

-- ---- where results go

pub doubled-destination : (inst : Inst) → is_doubled inst ≡ true → (dst : Loc) × (destination inst ≡ Some dst)
doubled-destination (insts.Bin dst op flags w a b) doubled = (dst, refl)
doubled-destination (insts.Cmp dst pred ty a b) doubled = (dst, refl)
doubled-destination (insts.Select dst condition ty a b) doubled = (dst, refl)
doubled-destination (insts.Cast dst op from a to) doubled = (dst, refl)
doubled-destination (insts.Gep dst base ptr index) doubled = (dst, refl)
doubled-destination (insts.Extract dst elem pair index) doubled = (dst, refl)
doubled-destination inst doubled = absurd cc

pub single-destination : (inst : Inst) → is_doubled inst ≡ false → is_phi inst ≡ false
    → destination inst ≡ option_map (λ reg. reg.1) (single_result inst)
single-destination (insts.Bin dst op flags w a b) single plain = absurd cc
single-destination (insts.Cmp dst pred ty a b) single plain = absurd cc
single-destination (insts.Select dst condition ty a b) single plain = absurd cc
single-destination (insts.Cast dst op from a to) single plain = absurd cc
single-destination (insts.Gep dst base ptr index) single plain = absurd cc
single-destination (insts.Extract dst elem pair index) single plain = absurd cc
single-destination (insts.Phi dst ty arms) single plain = absurd cc
single-destination (insts.Call None ret callee args) single plain = refl
single-destination (insts.Call (Some dst) ret callee args) single plain = refl
single-destination inst single plain = refl

-- ---- without flags

pub unflagged-action : (l : LayoutParts) (callees : List Callee) (registers : List (Option ℕ)) (inst : Inst)
    → IsDefined (action_of l callees registers inst) → action_of l callees registers (unflagged inst) ≡ action_of l callees registers inst
unflagged-action l callees registers (insts.Bin dst op flags w a b) is = action-plain l callees registers (insts.Bin dst op flags w a b) is
unflagged-action l callees registers inst is = refl

pub unflagged-destination : (inst : Inst) → destination (unflagged inst) ≡ destination inst
unflagged-destination (insts.Bin dst op flags w a b) = refl
unflagged-destination inst = refl

pub unflagged-doubled : (inst : Inst) → is_doubled inst ≡ true → is_doubled (unflagged inst) ≡ true
unflagged-doubled (insts.Bin dst op flags w a b) doubled = refl
unflagged-doubled inst doubled = doubled

-- ---- images

pub flow-doubled : (inst : Inst) → is_doubled inst ≡ true → flow inst ≡ Do M (unflagged inst) false ∷ Do S (unflagged inst) true ∷ []
flow-doubled (insts.Bin dst op flags w a b) doubled = refl
flow-doubled (insts.Cmp dst pred ty a b) doubled = refl
flow-doubled (insts.Select dst condition ty a b) doubled = refl
flow-doubled (insts.Cast dst op from a to) doubled = refl
flow-doubled (insts.Gep dst base ptr index) doubled = refl
flow-doubled (insts.Extract dst elem pair index) doubled = refl
flow-doubled inst doubled = absurd cc

pub flow-single : (inst : Inst) → is_doubled inst ≡ false → is_phi inst ≡ false → flow inst ≡ Do M inst true ∷ copies (single_result inst)
flow-single (insts.Bin dst op flags w a b) single plain = absurd cc
flow-single (insts.Cmp dst pred ty a b) single plain = absurd cc
flow-single (insts.Select dst condition ty a b) single plain = absurd cc
flow-single (insts.Cast dst op from a to) single plain = absurd cc
flow-single (insts.Gep dst base ptr index) single plain = absurd cc
flow-single (insts.Extract dst elem pair index) single plain = absurd cc
flow-single (insts.Phi dst ty arms) single plain = absurd cc
flow-single inst single plain = refl

pub phi-faults : (l : LayoutParts) (callees : List Callee) (registers : List (Option ℕ)) (inst : Inst) → is_phi inst ≡ true
    → action_of l callees registers inst ≡ Fault Unreachable
phi-faults l callees registers (insts.Phi dst ty arms) phi = refl
phi-faults l callees registers inst phi = absurd cc

pub phi-flow : (inst : Inst) → is_phi inst ≡ true → flow inst ≡ []
phi-flow (insts.Phi dst ty arms) phi = refl
phi-flow inst phi = absurd cc

pub phi-checked : (inst : Inst) → is_phi inst ≡ true → checked inst ≡ []
phi-checked (insts.Phi dst ty arms) phi = refl
phi-checked inst phi = absurd cc

-- ---- what is checked is read

-- an operand that is a register is read
reads : (operand : Ty × Val) (ty : Ty) (reg : Loc) → let checked : Ty × Val = (ty, values.Reg reg) in Some operand ≡ Some checked
    → IsIn reg (reg_in operand.1)
reads operand ty reg e =
    let same : operand.1 ≡ values.Reg reg = ap (λ (o : Option (Ty × Val)). option_map_or (λ (checked : Ty × Val). checked.1) o operand.1) e in
    subst (λ (value : Val). IsIn reg (reg_in value)) (sym same) (0, refl)

pub checked-reads : (inst : Inst) (k : ℕ) (ty : Ty) (reg : Loc) → slice_get (checked inst) k ≡ Some (ty, values.Reg reg)
    → (j : ℕ) × (slice_get (regs_in inst) j ≡ Some reg)
checked-reads (insts.Load dst type ptr atomic) zero ty reg e = reads _ ty reg e
checked-reads (insts.Load dst type ptr atomic) (suc k) ty reg e = absurd cc
checked-reads (insts.Store type val ptr atomic) zero ty reg e = in-back reg (reg_in val) (reg_in ptr) (reads _ ty reg e)
checked-reads (insts.Store type val ptr atomic) (suc zero) ty reg e = in-front reg (reg_in val) (reg_in ptr) (reads _ ty reg e)
checked-reads (insts.Store type val ptr atomic) (suc (suc k)) ty reg e = absurd cc
checked-reads (insts.Rmw dst op ptr type val) zero ty reg e = in-front reg (reg_in ptr) (reg_in val) (reads _ ty reg e)
checked-reads (insts.Rmw dst op ptr type val) (suc zero) ty reg e = in-back reg (reg_in ptr) (reg_in val) (reads _ ty reg e)
checked-reads (insts.Rmw dst op ptr type val) (suc (suc k)) ty reg e = absurd cc
checked-reads (insts.CmpXchg dst ptr type old new) zero ty reg e =
    in-front reg (reg_in ptr ++ reg_in old) (reg_in new) (in-front reg (reg_in ptr) (reg_in old) (reads _ ty reg e))
checked-reads (insts.CmpXchg dst ptr type old new) (suc zero) ty reg e =
    in-front reg (reg_in ptr ++ reg_in old) (reg_in new) (in-back reg (reg_in ptr) (reg_in old) (reads _ ty reg e))
checked-reads (insts.CmpXchg dst ptr type old new) (suc (suc zero)) ty reg e =
    in-back reg (reg_in ptr ++ reg_in old) (reg_in new) (reads _ ty reg e)
checked-reads (insts.CmpXchg dst ptr type old new) (suc (suc (suc k))) ty reg e = absurd cc
checked-reads (insts.Call dst ret callee args) k ty reg e =
    let operand : Ty × Val = (ty, values.Reg reg) in
    in-flat reg_in_arg operand reg args (k, e) (0, refl)
checked-reads (insts.CondBr condition on_true on_false) zero ty reg e = reads _ ty reg e
checked-reads (insts.CondBr condition on_true on_false) (suc k) ty reg e = absurd cc
checked-reads (insts.Switch type on default cases) zero ty reg e = reads _ ty reg e
checked-reads (insts.Switch type on default cases) (suc k) ty reg e = absurd cc
checked-reads (insts.Ret type None) k ty reg e = absurd cc
checked-reads (insts.Ret type (Some value)) zero ty reg e = reads _ ty reg e
checked-reads (insts.Ret type (Some value)) (suc k) ty reg e = absurd cc
checked-reads inst k ty reg e = absurd cc
