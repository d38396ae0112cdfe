-- What an instruction of an accepted module asks for suits the instruction: only a terminator jumps, only to its labels; what has a
-- result goes on; what is entered has as many parameters as it is given words.
use Rattle.std.proofs.Common.{ℕ, ◌≡◌, ◌∙◌, ◌==◌, Bool, true, false, ◌&&◌, List, [], ◌∷◌, map, length, Option, Some, None, Result, Ok, Err, refl, ap, sym, subst, rules}
use Rattle.std.specs.Prelude.{nat_eq, if◌then◌else◌, unwrap_or}
use Rattle.std.specs.List.{slice_index_or}
use Rattle.std.specs.Map.{lookup}
use Rattle.std.specs.Option.{option_map}
use Rattle.std.proofs.lemmas.Option.{slice_get-map}
use Rattle.std.proofs.lemmas.Map.Entries.{place_from_lookup}
use Rattle.std.proofs.lemmas.List.{length-map}
use Rattle.ir_core.proofs.Lengths.{both_true}
use Rattle.ir_core.specs.declared.types.Width.{Width}
use Rattle.ir_core.specs.declared.types.Width.TheVariants.{W1}
use Rattle.ir_core.specs.declared.types.Ty.{Ty}
use Rattle.ir_core.specs.declared.types.Loc.{Loc}
use Rattle.ir_core.specs.declared.types.Sym.{Sym}
use Rattle.ir_core.specs.declared.values.Val.{Val}
use Rattle.ir_core.specs.declared.values.Val.TheVariants as values
use Rattle.ir_core.specs.declared.instruction.Inst.{Inst}
use Rattle.ir_core.specs.declared.instruction.Inst.TheVariants as insts
use Rattle.ir_core.specs.Module.{ModuleParts}
use Rattle.op_table.specs.declared.OpCause.{OpCause}
use Rattle.ir_layout.specs.Memory.{LayoutParts}
use Rattle.ir_flow.specs.Edges.{labels_of}
use Rattle.ir_core.specs.Instructions.{result_of}
use Rattle.ir_calls.specs.declared.externals.External.{External}
use Rattle.ir_calls.specs.declared.externals.External.TheVariants.{PthreadCreate, PthreadJoin, MutexLock, MutexUnlock, Putchar, Exit as ExitProgram, Malloc, Free as FreeMemory, HaftOut, HaftArg}
use Rattle.ir_calls.specs.Calls.{standing_of, external_named, takes, result_keeps, names_start, second_is_null, third_is_start, without_third, args_plain, args_keep, inst_keeps}
use Rattle.ir_check.specs.Blocks.{is_terminator}
use Rattle.ir_check.specs.Faults.{IsAccepted}
use Rattle.inst_meaning.specs.declared.actions.Callee.{Callee}
use Rattle.inst_meaning.specs.declared.actions.Callee.TheVariants as callees
use Rattle.inst_meaning.specs.declared.actions.Action.{Action}
use Rattle.inst_meaning.specs.declared.actions.Place.{Place}
use Rattle.inst_meaning.specs.declared.actions.Update.{Update as Updates}
use Rattle.inst_meaning.specs.declared.actions.Action.TheVariants.{Assign, Reserve, Read, Write, Update, Pass, Jump, Call, Ask, Create, Join, Exit, Return, Fault}
use Rattle.inst_meaning.specs.declared.actions.Cause.TheVariants.{Unreachable}
use Rattle.inst_meaning.specs.Operands.{word_at, typed_word, argument_words}
use Rattle.inst_meaning.specs.Action.{on_word, on_width, operated, inner_pointer, returning, case_of, asked, function_of, named_function, creating, asking, outside, entering, calling, callees_of, action_of, destination}
use Rattle.ir_check.proofs.Members.{IsIn, next-in}
use Rattle.src_laws.proofs.Callees.{Enters, defined-told, outside-told, argument-count, call-enters, start-enters}

-- an instruction follows, and what it assigns takes its result
abbrev pub GoesOn : Inst → Type 0
GoesOn inst = (is_terminator inst ≡ false) × (result_of inst ≡ destination inst)

abbrev pub HasNoResult : Inst → Type 0
HasNoResult inst = GoesOn inst × (destination inst ≡ None)

-- it jumps to one of its labels
abbrev pub JumpsTo : Inst → Loc → Type 0
JumpsTo inst label = (is_terminator inst ≡ true) × (result_of inst ≡ None) × IsIn label (labels_of inst)

abbrev pub Suits : ModuleParts → Inst → Action → Type 0
Suits m inst (Assign n) = GoesOn inst
Suits m inst (Reserve size) = GoesOn inst
Suits m inst (Read place atomic) = GoesOn inst
Suits m inst (Write place n atomic) = HasNoResult inst
Suits m inst (Update place update) = GoesOn inst
Suits m inst Pass = HasNoResult inst
Suits m inst (Jump label) = JumpsTo inst label
Suits m inst (Call n words) = GoesOn inst × Enters m n (length words)
Suits m inst (Ask request) = GoesOn inst
Suits m inst (Create address n argument) = GoesOn inst × Enters m n 1
Suits m inst (Join other) = GoesOn inst
Suits m inst (Exit code) = Unit {0}
Suits m inst (Return n) = Unit {0}
Suits m inst (Fault cause) = Unit {0}

pub record IsSuited (m : ModuleParts) (inst : Inst) (action : Action) : Type 0 where
  pub suits : Suits m inst action

-- ---- actions that need words

module _ (m : ModuleParts) (inst : Inst) where
  on-word : (o : Option ℕ) (ask : ℕ → Action) → ((n : ℕ) → IsSuited m inst (ask n)) → IsSuited m inst (on_word o ask)
  on-word None ask h = record { suits = tt }
  on-word (Some n) ask h = h n

  on-width : (o : Option Width) (ask : Width → Action) → ((w : Width) → IsSuited m inst (ask w)) → IsSuited m inst (on_width o ask)
  on-width None ask h = record { suits = tt }
  on-width (Some w) ask h = h w

  on-test : (b : Bool) (action : Action) → IsSuited m inst action → IsSuited m inst (if b then action else Fault Unreachable)
  on-test true action h = h
  on-test false action h = record { suits = tt }

  assign-suits : (n : ℕ) → GoesOn inst → IsSuited m inst (Assign n)
  assign-suits n goes = record { suits = goes }

  read-suits : (place : Place) (atomic : Bool) → GoesOn inst → IsSuited m inst (Read place atomic)
  read-suits place atomic goes = record { suits = goes }

  write-suits : (place : Place) (n : ℕ) (atomic : Bool) → HasNoResult inst → IsSuited m inst (Write place n atomic)
  write-suits place n atomic none = record { suits = none }

  update-suits : (place : Place) (update : Updates) → GoesOn inst → IsSuited m inst (Update place update)
  update-suits place update goes = record { suits = goes }

  return-suits : (n : ℕ) → IsSuited m inst (Return n)
  return-suits n = record { suits = tt }

  operated-suits : (r : Result ℕ OpCause) → GoesOn inst → IsSuited m inst (operated r)
  operated-suits (Ok word) goes = record { suits = goes }
  operated-suits (Err cause) goes = record { suits = tt }

  inner-suits : (l : LayoutParts) (base : Ty) (address : ℕ) (words : Option (List (Width × ℕ))) → GoesOn inst
      → IsSuited m inst (inner_pointer l base address words)
  inner-suits l base address None goes = record { suits = tt }
  inner-suits l base address (Some words) goes = search (rules, on-word, assign-suits)

  returning-suits : (l : LayoutParts) (registers : List (Option ℕ)) (ty : Ty) (value : Option Val) → IsSuited m inst (returning l registers ty value)
  returning-suits l registers ty None = record { suits = tt }
  returning-suits l registers ty (Some value) = search (rules, on-word, return-suits)

  -- ---- calls

  asked-suits : (external : External) (n : ℕ) → GoesOn inst → IsSuited m inst (asked external n)
  asked-suits PthreadCreate n goes = record { suits = tt }
  asked-suits PthreadJoin n goes = record { suits = goes }
  asked-suits MutexLock n goes = record { suits = goes }
  asked-suits MutexUnlock n goes = record { suits = goes }
  asked-suits Putchar n goes = record { suits = goes }
  asked-suits ExitProgram n goes = record { suits = tt }
  asked-suits Malloc n goes = record { suits = goes }
  asked-suits FreeMemory n goes = record { suits = goes }
  asked-suits HaftOut n goes = record { suits = goes }
  asked-suits HaftArg n goes = record { suits = goes }

  asking-suits : (l : LayoutParts) (registers : List (Option ℕ)) (external : External) (arguments : List (Ty × Val)) → GoesOn inst
      → IsSuited m inst (asking l registers external arguments)
  asking-suits l registers external [] goes = record { suits = tt }
  asking-suits l registers external (argument ∷ others) goes =
      on-word (typed_word l registers argument.0 argument.1) (asked external) (λ n. asked-suits external n goes)

  function-defined : (callee : Callee) (n : ℕ) → function_of callee ≡ Some n → callee ≡ callees.Defined n
  function-defined (callees.Defined k) n e = let same : k ≡ n = cc in ap (λ (j : ℕ). callees.Defined j) same
  function-defined (callees.Outside external) n e = cc
  function-defined callees.Unknown n e = cc

  named-enters : (start : Val) (n : ℕ) → IsAccepted m → names_start m start ≡ true → named_function (callees_of m) start ≡ Some n → Enters m n 1
  named-enters (values.Global name) n accepted is e =
      start-enters m name n accepted (defined-told m name n (function-defined (slice_index_or (callees_of m) name.0 callees.Unknown) n e)) is
  named-enters (values.Reg at) n accepted is e = cc
  named-enters (values.Int k) n accepted is e = cc
  named-enters values.Null n accepted is e = cc
  named-enters (values.Gep gep) n accepted is e = cc

  starting-suits : (o : Option ℕ) (ask : ℕ → Action) → ((n : ℕ) → o ≡ Some n → IsSuited m inst (ask n)) → IsSuited m inst (on_word o ask)
  starting-suits None ask h = record { suits = tt }
  starting-suits (Some n) ask h = h n refl

  creating-suits : (l : LayoutParts) (registers : List (Option ℕ)) (arguments : List (Ty × Val)) → IsAccepted m → GoesOn inst
      → third_is_start m arguments ≡ true → IsSuited m inst (creating l (callees_of m) registers arguments)
  creating-suits l registers [] accepted goes is = record { suits = tt }
  creating-suits l registers (to ∷ []) accepted goes is = record { suits = tt }
  creating-suits l registers (to ∷ attributes ∷ []) accepted goes is = record { suits = tt }
  creating-suits l registers (to ∷ attributes ∷ start ∷ []) accepted goes is = record { suits = tt }
  creating-suits l registers (to ∷ attributes ∷ start ∷ argument ∷ []) accepted goes is =
      on-word (typed_word l registers to.0 to.1) (λ address. on_word (named_function (callees_of m) start.1) (λ n. on_word (typed_word l registers argument.0 argument.1) (λ x. Create address n x)))
      (λ address. starting-suits (named_function (callees_of m) start.1) (λ n. on_word (typed_word l registers argument.0 argument.1) (λ x. Create address n x))
      (λ n e. on-word (typed_word l registers argument.0 argument.1) (λ x. Create address n x) (λ x. record { suits = (goes, named-enters start.1 n accepted is e) })))
  creating-suits l registers (to ∷ attributes ∷ start ∷ argument ∷ other ∷ others) accepted goes is = record { suits = tt }

  outside-suits : (l : LayoutParts) (registers : List (Option ℕ)) (external : External) (arguments : List (Ty × Val)) → IsAccepted m → GoesOn inst
      → args_keep m (Some external) arguments ≡ true → IsSuited m inst (outside l (callees_of m) registers external arguments)
  outside-suits l registers PthreadCreate arguments accepted goes keeps =
      let both = both_true (second_is_null arguments && third_is_start m arguments) (args_plain m (without_third arguments)) keeps in
      creating-suits l registers arguments accepted goes (both_true (second_is_null arguments) (third_is_start m arguments) both.0).1
  outside-suits l registers PthreadJoin arguments accepted goes keeps = asking-suits l registers PthreadJoin arguments goes
  outside-suits l registers MutexLock arguments accepted goes keeps = asking-suits l registers MutexLock arguments goes
  outside-suits l registers MutexUnlock arguments accepted goes keeps = asking-suits l registers MutexUnlock arguments goes
  outside-suits l registers Putchar arguments accepted goes keeps = asking-suits l registers Putchar arguments goes
  outside-suits l registers ExitProgram arguments accepted goes keeps = asking-suits l registers ExitProgram arguments goes
  outside-suits l registers Malloc arguments accepted goes keeps = asking-suits l registers Malloc arguments goes
  outside-suits l registers FreeMemory arguments accepted goes keeps = asking-suits l registers FreeMemory arguments goes
  outside-suits l registers HaftOut arguments accepted goes keeps = asking-suits l registers HaftOut arguments goes
  outside-suits l registers HaftArg arguments accepted goes keeps = asking-suits l registers HaftArg arguments goes

  entering-suits : (n : ℕ) (o : Option (List ℕ)) → GoesOn inst → ((words : List ℕ) → o ≡ Some words → Enters m n (length words))
      → IsSuited m inst (entering n o)
  entering-suits n None goes h = record { suits = tt }
  entering-suits n (Some words) goes h = record { suits = (goes, h words refl) }

  calling-suits : (l : LayoutParts) (registers : List (Option ℕ)) (callee : Sym) (ret : Ty) (arguments : List (Ty × Val)) (o : Callee) → IsAccepted m
      → GoesOn inst → takes (standing_of m callee) ret (map (λ argument. argument.0) arguments) ≡ true
      → args_keep m (external_named m callee) arguments ≡ true → slice_index_or (callees_of m) callee.0 callees.Unknown ≡ o
      → IsSuited m inst (calling l (callees_of m) registers o arguments)
  calling-suits l registers callee ret arguments (callees.Defined n) accepted goes taken keeps e =
      let entered : Enters m n (length (map (λ (argument : Ty × Val). argument.0) arguments)) = call-enters m callee n ret (map (λ (argument : Ty × Val). argument.0) arguments) accepted (defined-told m callee n e) taken in
      entering-suits n (argument_words l registers arguments) goes
      (λ words f. subst (λ (k : ℕ). Enters m n k) (length-map arguments (λ (argument : Ty × Val). argument.0) ∙ sym (argument-count l registers arguments words f)) entered)
  calling-suits l registers callee ret arguments (callees.Outside external) accepted goes taken keeps e =
      outside-suits l registers external arguments accepted goes (subst (λ (o : Option External). args_keep m o arguments ≡ true) (outside-told m callee external e) keeps)
  calling-suits l registers callee ret arguments callees.Unknown accepted goes taken keeps e = record { suits = tt }

-- ---- jumps

case-in : (n : ℕ) (cases : List (ℕ × Loc)) (default : Loc) → IsIn (case_of n cases default) (default ∷ map (λ case. case.1) cases)
case-in n cases default = by_case (lookup (nat_eq n) cases) refl
  where
    among : (cases : List (ℕ × Loc)) (label : Loc) → lookup (nat_eq n) cases ≡ Some label → IsIn label (map (λ (case : ℕ × Loc). case.1) cases)
    among cases label e =
        let place = place_from_lookup (nat_eq n) cases label e in (place.0, slice_get-map (λ (case : ℕ × Loc). case.1) cases place.0 ∙ ap (option_map (λ (case : ℕ × Loc). case.1)) place.2)

    by_case : (o : Option Loc) → lookup (nat_eq n) cases ≡ o → IsIn (unwrap_or o default) (default ∷ map (λ (case : ℕ × Loc). case.1) cases)
    by_case None e = (0, refl)
    by_case (Some label) e = next-in label default (map (λ (case : ℕ × Loc). case.1) cases) (among cases label e)

branch-in : (b : Bool) (on_true on_false : Loc) → IsIn (if b then on_true else on_false) (on_true ∷ on_false ∷ [])
branch-in true on_true on_false = (0, refl)
branch-in false on_true on_false = (1, refl)

-- ---- instructions

ruleset parts = (on-word, on-width, on-test, assign-suits, read-suits, write-suits, update-suits, operated-suits, inner-suits)

pub action-suits : (m : ModuleParts) (l : LayoutParts) (registers : List (Option ℕ)) (inst : Inst) → IsAccepted m → inst_keeps m inst ≡ true
    → IsSuited m inst (action_of l (callees_of m) registers inst)
action-suits m l registers (insts.Bin dst op flags w a b) accepted keeps =
    let goes : GoesOn (insts.Bin dst op flags w a b) = (refl, refl) in search (rules, parts)
action-suits m l registers (insts.Cmp dst pred ty a b) accepted keeps =
    let goes : GoesOn (insts.Cmp dst pred ty a b) = (refl, refl) in search (rules, parts)
action-suits m l registers (insts.Select dst condition ty a b) accepted keeps =
    let goes : GoesOn (insts.Select dst condition ty a b) = (refl, refl) in search (rules, parts)
action-suits m l registers (insts.Cast dst op from a to) accepted keeps =
    let goes : GoesOn (insts.Cast dst op from a to) = (refl, refl) in search (rules, parts)
action-suits m l registers (insts.Gep dst base ptr index) accepted keeps =
    let goes : GoesOn (insts.Gep dst base ptr index) = (refl, refl) in search (rules, parts)
action-suits m l registers (insts.Alloca dst ty) accepted keeps = record { suits = (refl, refl) }
action-suits m l registers (insts.Load dst ty ptr atomic) accepted keeps =
    let goes : GoesOn (insts.Load dst ty ptr atomic) = (refl, refl) in search (rules, parts)
action-suits m l registers (insts.Store ty val ptr atomic) accepted keeps =
    let none : HasNoResult (insts.Store ty val ptr atomic) = ((refl, refl), refl) in search (rules, parts)
action-suits m l registers (insts.Rmw dst op ptr ty val) accepted keeps =
    let goes : GoesOn (insts.Rmw dst op ptr ty val) = (refl, refl) in search (rules, parts)
action-suits m l registers (insts.CmpXchg dst ptr ty old new) accepted keeps =
    let goes : GoesOn (insts.CmpXchg dst ptr ty old new) = (refl, refl) in search (rules, parts)
action-suits m l registers insts.Fence accepted keeps = record { suits = ((refl, refl), refl) }
action-suits m l registers (insts.Extract dst elem pair index) accepted keeps =
    let goes : GoesOn (insts.Extract dst elem pair index) = (refl, refl) in search (rules, parts)
action-suits m l registers (insts.Call dst ret callee args) accepted keeps =
    let both = both_true (takes (standing_of m callee) ret (map (λ (arg : Ty × Val). arg.0) args) && result_keeps dst ret) (args_keep m (external_named m callee) args) keeps in
    let taken = both_true (takes (standing_of m callee) ret (map (λ (arg : Ty × Val). arg.0) args)) (result_keeps dst ret) both.0 in
    calling-suits m (insts.Call dst ret callee args) l registers callee ret args (slice_index_or (callees_of m) callee.0 callees.Unknown) accepted (refl, refl) taken.0 both.1 refl
action-suits m l registers (insts.Phi dst ty arms) accepted keeps = record { suits = tt }
action-suits m l registers (insts.Br to) accepted keeps = record { suits = (refl, refl, (0, refl)) }
action-suits m l registers (insts.CondBr condition on_true on_false) accepted keeps =
    on-word m (insts.CondBr condition on_true on_false) (word_at l registers W1 condition) (λ c. Jump (if c == 1 then on_true else on_false)) (λ c. record { suits = (refl, refl, branch-in (c == 1) on_true on_false) })
action-suits m l registers (insts.Switch ty on default cases) accepted keeps =
    on-word m (insts.Switch ty on default cases) (typed_word l registers ty on) (λ n. Jump (case_of n cases default)) (λ n. record { suits = (refl, refl, case-in n cases default) })
action-suits m l registers (insts.Ret ty value) accepted keeps = returning-suits m (insts.Ret ty value) l registers ty value
action-suits m l registers insts.Unreachable accepted keeps = record { suits = tt }
