-- What instructions ask for under other numbers of a module's names: the same, but that a branch goes to the other number of its label.
use Rattle.std.proofs.Common.{ℕ, ◌≡◌, ◌∙◌, ◌%◌, ◌^◌, ◌==◌, Bool, true, false, List, [], ◌∷◌, Option, Some, None, Result, Ok, Err, refl, ap, sym as flip, rules}
use Rattle.std.specs.Prelude.{nat_eq, if◌then◌else◌}
use Rattle.std.specs.List.{slice_index_or}
use Rattle.std.specs.Option.{option_map, option_and_then}
use Rattle.ir_core.specs.declared.types.Ty.{Ty, map-Ty}
use Rattle.ir_core.specs.declared.types.Ty.TheOpen.{Ty-F}
use Rattle.ir_core.specs.declared.types.Ty.TheViews.{out-Ty}
use Rattle.ir_core.specs.declared.types.Loc.{Loc}
use Rattle.ir_core.specs.declared.types.Width.{Width}
use Rattle.ir_core.specs.declared.types.Width.TheVariants.{W1, W64}
use Rattle.ir_core.specs.declared.values.Val.{Val}
use Rattle.ir_core.specs.declared.values.Val.TheVariants as values
use Rattle.ir_core.specs.declared.instruction.Inst.{Inst}
use Rattle.ir_core.specs.declared.instruction.Inst.TheVariants as insts
use Rattle.ir_layout.specs.Memory.{LayoutParts}
use Rattle.ir_calls.specs.declared.externals.External.{External}
use Rattle.ir_calls.specs.declared.externals.External.TheVariants.{PthreadCreate, PthreadJoin, MutexLock, MutexUnlock, Putchar, Exit as ExitProgram, Malloc, Free as FreeMemory, HaftOut, HaftArg}
use Rattle.ir_numbering.specs.Renaming.{Renaming, renamed_loc, renamed_ty, renamed_val, renamed_args, renamed_cases, renamed_index, renamed_inst}
use Rattle.op_table.specs.declared.OpCause.{OpCause}
use Rattle.op_table.specs.Operators.{bits, compares, converted}
use Rattle.inst_meaning.specs.declared.actions.Callee.{Callee}
use Rattle.inst_meaning.specs.declared.actions.Callee.TheVariants.{Defined, Outside, Unknown}
use Rattle.inst_meaning.specs.declared.actions.Place.{Place}
use Rattle.inst_meaning.specs.declared.actions.Update.{Update as Updates}
use Rattle.inst_meaning.specs.declared.actions.Update.TheVariants.{Combine, Exchange}
use Rattle.inst_meaning.specs.declared.actions.Cause.TheVariants.{Unreachable}
use Rattle.inst_meaning.specs.declared.actions.Action.{Action}
use Rattle.inst_meaning.specs.declared.actions.Action.TheVariants.{Assign, Reserve, Read, Write, Update, Pass, Jump, Call, Ask, Create, Join, Exit, Return, Fault}
use Rattle.inst_meaning.specs.Action.{truth, is_cast, place_at, on_word, on_width, operated, element, inner_pointer, case_of, returning, asked, function_of, named_function, creating, asking, outside, entering, calling, action_of}
use Rattle.inst_meaning.specs.Operands.{width_step, width_of, in_bytes, memory_width, word_of, word_at, typed_word, argument_words, index_words}
use Rattle.inst_meaning.specs.Registers.{get}
use Rattle.renamed_modules.proofs.RenamedTypes.{IsApart, numbered_layer, out-renamed, offset-same}
use Rattle.renamed_modules.proofs.RenamedMemory.{renamed_layout, address-same, inner-address-same, size-in-same}

-- ---- widths

by-width : (number : ℕ → ℕ) (f : Ty → Ty) (x : Ty-F Ty) → width_step (numbered_layer number (map-Ty Ty Ty f x)) ≡ width_step x
by-width number f Ty-F.Void = refl
by-width number f (Ty-F.Int w) = refl
by-width number f Ty-F.Ptr = refl
by-width number f (Ty-F.Array count element) = refl
by-width number f (Ty-F.Struct parts) = refl
by-width number f (Ty-F.Named id) = refl

pub width-same : (r : Renaming) (ty : Ty) → width_of (renamed_ty r ty) ≡ width_of ty
width-same r ty = ap width_step (out-renamed r ty) ∙ by-width r.type_id (renamed_ty r) (out-Ty ty)

memory-width-same : (r : Renaming) (ty : Ty) → memory_width (renamed_ty r ty) ≡ memory_width ty
memory-width-same r ty = ap (option_and_then in_bytes) (width-same r ty)

-- ---- actions

-- an action whose label has its other number
abbrev pub renamed_action : Renaming → Action → Action
renamed_action r (Assign n) = Assign n
renamed_action r (Reserve size) = Reserve size
renamed_action r (Read place atomic) = Read place atomic
renamed_action r (Write place n atomic) = Write place n atomic
renamed_action r (Update place update) = Update place update
renamed_action r Pass = Pass
renamed_action r (Jump label) = Jump (renamed_loc r label)
renamed_action r (Call n words) = Call n words
renamed_action r (Ask request) = Ask request
renamed_action r (Create address n argument) = Create address n argument
renamed_action r (Join other) = Join other
renamed_action r (Exit code) = Exit code
renamed_action r (Return n) = Return n
renamed_action r (Fault cause) = Fault cause

-- registers under the other numbers have the same words
pub record AgreeBy (number : ℕ → ℕ) (a b : List (Option ℕ)) : Type 0 where
  pub same : (at : ℕ) → get b (number at) ≡ get a at

-- one that goes to no label
record IsPlain (r : Renaming) (action : Action) : Type 0 where
  is : renamed_action r action ≡ action

module _ (r : Renaming) where
  on-word : (o : Option ℕ) (ask : ℕ → Action) → ((n : ℕ) → IsPlain r (ask n)) → IsPlain r (on_word o ask)
  on-word None ask h = record { is = refl }
  on-word (Some n) ask h = h n

  on-width : (o : Option Width) (ask : Width → Action) → ((w : Width) → IsPlain r (ask w)) → IsPlain r (on_width o ask)
  on-width None ask h = record { is = refl }
  on-width (Some w) ask h = h w

  on-test : (b : Bool) (action : Action) → IsPlain r action → IsPlain r (if b then action else Fault Unreachable)
  on-test true action h = h
  on-test false action h = record { is = refl }

  assign-plain : (n : ℕ) → IsPlain r (Assign n)
  assign-plain n = record { is = refl }

  read-plain : (place : Place) (atomic : Bool) → IsPlain r (Read place atomic)
  read-plain place atomic = record { is = refl }

  write-plain : (place : Place) (n : ℕ) (atomic : Bool) → IsPlain r (Write place n atomic)
  write-plain place n atomic = record { is = refl }

  update-plain : (place : Place) (update : Updates) → IsPlain r (Update place update)
  update-plain place update = record { is = refl }

  return-plain : (n : ℕ) → IsPlain r (Return n)
  return-plain n = record { is = refl }

  create-plain : (address n argument : ℕ) → IsPlain r (Create address n argument)
  create-plain address n argument = record { is = refl }

  operated-plain : (given : Result ℕ OpCause) → IsPlain r (operated given)
  operated-plain (Ok word) = record { is = refl }
  operated-plain (Err cause) = record { is = refl }

  inner-plain : (l : LayoutParts) (base : Ty) (address : ℕ) (words : Option (List (Width × ℕ))) → IsPlain r (inner_pointer l base address words)
  inner-plain l base address None = record { is = refl }
  inner-plain l base address (Some words) = search (rules, on-word, assign-plain)

  asked-plain : (external : External) (n : ℕ) → IsPlain r (asked external n)
  asked-plain PthreadCreate n = record { is = refl }
  asked-plain PthreadJoin n = record { is = refl }
  asked-plain MutexLock n = record { is = refl }
  asked-plain MutexUnlock n = record { is = refl }
  asked-plain Putchar n = record { is = refl }
  asked-plain ExitProgram n = record { is = refl }
  asked-plain Malloc n = record { is = refl }
  asked-plain FreeMemory n = record { is = refl }
  asked-plain HaftOut n = record { is = refl }
  asked-plain HaftArg n = record { is = refl }

  creating-plain : (l : LayoutParts) (callees : List Callee) (registers : List (Option ℕ)) (arguments : List (Ty × Val)) → IsPlain r (creating l callees registers arguments)
  creating-plain l callees registers [] = record { is = refl }
  creating-plain l callees registers (x ∷ []) = record { is = refl }
  creating-plain l callees registers (x ∷ y ∷ []) = record { is = refl }
  creating-plain l callees registers (x ∷ y ∷ z ∷ []) = record { is = refl }
  creating-plain l callees registers (x ∷ y ∷ z ∷ u ∷ []) = search (rules, on-word, create-plain)
  creating-plain l callees registers (x ∷ y ∷ z ∷ u ∷ v ∷ arguments) = record { is = refl }

  asking-plain : (l : LayoutParts) (registers : List (Option ℕ)) (external : External) (arguments : List (Ty × Val)) → IsPlain r (asking l registers external arguments)
  asking-plain l registers external [] = record { is = refl }
  asking-plain l registers external (argument ∷ others) = search (rules, on-word, asked-plain)

  outside-plain : (l : LayoutParts) (callees : List Callee) (registers : List (Option ℕ)) (external : External) (arguments : List (Ty × Val)) → IsPlain r (outside l callees registers external arguments)
  outside-plain l callees registers PthreadCreate arguments = creating-plain l callees registers arguments
  outside-plain l callees registers external arguments = asking-plain l registers external arguments

  entering-plain : (n : ℕ) (o : Option (List ℕ)) → IsPlain r (entering n o)
  entering-plain n None = record { is = refl }
  entering-plain n (Some words) = record { is = refl }

  calling-plain : (l : LayoutParts) (callees : List Callee) (registers : List (Option ℕ)) (callee : Callee) (arguments : List (Ty × Val)) → IsPlain r (calling l callees registers callee arguments)
  calling-plain l callees registers (Defined n) arguments = entering-plain n (argument_words l registers arguments)
  calling-plain l callees registers (Outside external) arguments = outside-plain l callees registers external arguments
  calling-plain l callees registers Unknown arguments = record { is = refl }

  returning-plain : (l : LayoutParts) (registers : List (Option ℕ)) (ty : Ty) (value : Option Val) → IsPlain r (returning l registers ty value)
  returning-plain l registers ty None = record { is = refl }
  returning-plain l registers ty (Some value) = search (rules, on-word, return-plain)

ruleset plain_parts = (on-word, on-width, on-test, assign-plain, read-plain, write-plain, update-plain, operated-plain, inner-plain)

-- ---- words

module _ (r : Renaming) (apart : IsApart r.type_id) (apart_syms : IsApart r.sym) (l : LayoutParts) (a b : List (Option ℕ)) (agree : AgreeBy r.loc a b) where
  abbrev other_layout : LayoutParts
  other_layout = renamed_layout r apart apart_syms l

  word-same : (value : Val) → word_of other_layout b (renamed_val r value) ≡ word_of l a value
  word-same (values.Reg at) = agree.same at.0
  word-same (values.Int n) = refl
  word-same values.Null = refl
  word-same (values.Global name) = ap (λ (n : ℕ). Some n) (address-same r apart apart_syms l name)
  word-same (values.Gep gep) = ap (λ (n : ℕ). Some n) (inner-address-same r apart apart_syms l gep)

  at-same : (w : Width) (value : Val) → word_at other_layout b w (renamed_val r value) ≡ word_at l a w value
  at-same w value = ap (option_map (λ word. word % 2 ^ bits w)) (word-same value)

  pub typed-same : (ty : Ty) (value : Val) → typed_word other_layout b (renamed_ty r ty) (renamed_val r value) ≡ typed_word l a ty value
  typed-same ty value = ap (option_and_then (λ w. word_at other_layout b w (renamed_val r value))) (width-same r ty) ∙ by_found (width_of ty)
    where
      by_found : (o : Option Width) → option_and_then (λ w. word_at other_layout b w (renamed_val r value)) o ≡ option_and_then (λ w. word_at l a w value) o
      by_found None = refl
      by_found (Some w) = at-same w value

  arguments-same : (arguments : List (Ty × Val)) → argument_words other_layout b (renamed_args r arguments) ≡ argument_words l a arguments
  arguments-same [] = refl
  arguments-same (argument ∷ arguments) = rw (typed-same argument.0 argument.1, arguments-same arguments) refl

  indices-same : (indices : List (Width × Val)) → index_words other_layout b (renamed_index r indices) ≡ index_words l a indices
  indices-same [] = refl
  indices-same (index ∷ indices) = rw (at-same index.0 index.1, indices-same indices) refl

  -- ---- instructions

  module _ (callees others : List Callee) (called : (k : ℕ) → slice_index_or others (r.sym k) Unknown ≡ slice_index_or callees k Unknown) where
    named-same : (value : Val) → named_function others (renamed_val r value) ≡ named_function callees value
    named-same (values.Reg at) = refl
    named-same (values.Int n) = refl
    named-same values.Null = refl
    named-same (values.Global name) = ap function_of (called name.0)
    named-same (values.Gep gep) = refl

    creating-same : (arguments : List (Ty × Val)) → creating other_layout others b (renamed_args r arguments) ≡ creating l callees a arguments
    creating-same [] = refl
    creating-same (x ∷ []) = refl
    creating-same (x ∷ y ∷ []) = refl
    creating-same (x ∷ y ∷ z ∷ []) = refl
    creating-same (to ∷ y ∷ start ∷ argument ∷ []) = rw (typed-same to.0 to.1, named-same start.1, typed-same argument.0 argument.1) refl
    creating-same (x ∷ y ∷ z ∷ u ∷ v ∷ arguments) = refl

    asking-same : (external : External) (arguments : List (Ty × Val)) → asking other_layout b external (renamed_args r arguments) ≡ asking l a external arguments
    asking-same external [] = refl
    asking-same external (argument ∷ arguments) = rw (typed-same argument.0 argument.1) refl

    outside-same : (external : External) (arguments : List (Ty × Val)) → outside other_layout others b external (renamed_args r arguments) ≡ outside l callees a external arguments
    outside-same PthreadCreate arguments = creating-same arguments
    outside-same PthreadJoin arguments = asking-same PthreadJoin arguments
    outside-same MutexLock arguments = asking-same MutexLock arguments
    outside-same MutexUnlock arguments = asking-same MutexUnlock arguments
    outside-same Putchar arguments = asking-same Putchar arguments
    outside-same ExitProgram arguments = asking-same ExitProgram arguments
    outside-same Malloc arguments = asking-same Malloc arguments
    outside-same FreeMemory arguments = asking-same FreeMemory arguments
    outside-same HaftOut arguments = asking-same HaftOut arguments
    outside-same HaftArg arguments = asking-same HaftArg arguments

    calling-same : (callee : Callee) (arguments : List (Ty × Val)) → calling other_layout others b callee (renamed_args r arguments) ≡ calling l callees a callee arguments
    calling-same (Defined n) arguments = ap (entering n) (arguments-same arguments)
    calling-same (Outside external) arguments = outside-same external arguments
    calling-same Unknown arguments = refl

    case-same : (n : ℕ) (cases : List (ℕ × Loc)) (default : Loc) → case_of n (renamed_cases r cases) (renamed_loc r default) ≡ renamed_loc r (case_of n cases default)
    case-same n [] default = refl
    case-same n (case ∷ cases) default = by_test (nat_eq n case.0) refl (case-same n cases default)
      where
        by_test : (c : Bool) → nat_eq n case.0 ≡ c → case_of n (renamed_cases r cases) (renamed_loc r default) ≡ renamed_loc r (case_of n cases default)
            → case_of n (renamed_cases r (case ∷ cases)) (renamed_loc r default) ≡ renamed_loc r (case_of n (case ∷ cases) default)
        by_test true e rest = rw e refl
        by_test false e rest = rw e rest

    branching-same : (o : Option ℕ) (first second : Loc)
        → on_word o (λ c. Jump (if c == 1 then renamed_loc r first else renamed_loc r second)) ≡ renamed_action r (on_word o (λ c. Jump (if c == 1 then first else second)))
    branching-same None first second = refl
    branching-same (Some c) first second = by_test (c == 1)
      where
        by_test : (b : Bool) → Jump (if b then renamed_loc r first else renamed_loc r second) ≡ renamed_action r (Jump (if b then first else second))
        by_test true = refl
        by_test false = refl

    switching-same : (o : Option ℕ) (cases : List (ℕ × Loc)) (default : Loc)
        → on_word o (λ n. Jump (case_of n (renamed_cases r cases) (renamed_loc r default))) ≡ renamed_action r (on_word o (λ n. Jump (case_of n cases default)))
    switching-same None cases default = refl
    switching-same (Some n) cases default = ap (λ (label : Loc). Jump label) (case-same n cases default)

    wide-same : (o other : Option Width) (f g : Width → Action) → other ≡ o → ((w : Width) → g w ≡ renamed_action r (f w))
        → on_width other g ≡ renamed_action r (on_width o f)
    wide-same o other f g e same = ap (λ (p : Option Width). on_width p g) e ∙ by_found o
      where
        by_found : (o : Option Width) → on_width o g ≡ renamed_action r (on_width o f)
        by_found None = refl
        by_found (Some w) = same w

    inner-same : (base : Ty) (address : ℕ) (words : Option (List (Width × ℕ))) → inner_pointer other_layout (renamed_ty r base) address words ≡ inner_pointer l base address words
    inner-same base address None = refl
    inner-same base address (Some words) = rw (offset-same r apart l.types base words) refl

    element-same : (base : Ty) (words : Option (List (Width × ℕ))) (o : Option ℕ)
        → on_word o (λ address. inner_pointer other_layout (renamed_ty r base) address words) ≡ on_word o (λ address. inner_pointer l base address words)
    element-same base words None = refl
    element-same base words (Some address) = inner-same base address words

    -- an instruction asks for the same
    pub acts-same : (inst : Inst) → action_of other_layout others b (renamed_inst r inst) ≡ renamed_action r (action_of l callees a inst)
    acts-same (insts.Bin dst op flags w x y) =
        let plain : IsPlain r (action_of l callees a (insts.Bin dst op flags w x y)) = search (rules, plain_parts) in rw (at-same w x, at-same w y) (flip plain.is)
    acts-same (insts.Cmp dst pred ty x y) = wide-same (width_of ty) (width_of (renamed_ty r ty))
        (λ w. on_word (word_at l a w x) (λ p. on_word (word_at l a w y) (λ q. Assign (truth (compares pred (bits w) p q)))))
        (λ w. on_word (word_at other_layout b w (renamed_val r x)) (λ p. on_word (word_at other_layout b w (renamed_val r y)) (λ q. Assign (truth (compares pred (bits w) p q)))))
        (width-same r ty)
        (λ w. let plain : IsPlain r (on_word (word_at l a w x) (λ p. on_word (word_at l a w y) (λ q. Assign (truth (compares pred (bits w) p q))))) = search (rules, plain_parts) in
        rw (at-same w x, at-same w y) (flip plain.is))
    acts-same (insts.Select dst condition ty x y) =
        let plain : IsPlain r (action_of l callees a (insts.Select dst condition ty x y)) = search (rules, plain_parts) in rw (at-same W1 condition, typed-same ty x, typed-same ty y) (flip plain.is)
    acts-same (insts.Cast dst op from x to) = rw (width-same r to) (wide-same (width_of from) (width_of (renamed_ty r from))
        (λ v. on_width (width_of to) (λ w. if is_cast op v w then on_word (word_at l a v x) (λ p. Assign (converted op (bits v) (bits w) p)) else Fault Unreachable))
        (λ v. on_width (width_of to) (λ w. if is_cast op v w then on_word (word_at other_layout b v (renamed_val r x)) (λ p. Assign (converted op (bits v) (bits w) p)) else Fault Unreachable))
        (width-same r from)
        (λ v. let plain : IsPlain r (on_width (width_of to) (λ w. if is_cast op v w then on_word (word_at l a v x) (λ p. Assign (converted op (bits v) (bits w) p)) else Fault Unreachable)) = search (rules, plain_parts) in
        rw (at-same v x) (flip plain.is)))
    acts-same (insts.Gep dst base ptr index) =
        let plain : IsPlain r (action_of l callees a (insts.Gep dst base ptr index)) = search (rules, plain_parts) in
        rw (at-same W64 ptr, indices-same index) (element-same base (index_words l a index) (word_at l a W64 ptr) ∙ flip plain.is)
    acts-same (insts.Alloca dst ty) = ap (λ (size : ℕ). Reserve size) (size-in-same r apart apart_syms l ty)
    acts-same (insts.Load dst ty ptr atomic) =
        let plain : IsPlain r (action_of l callees a (insts.Load dst ty ptr atomic)) = search (rules, plain_parts) in rw (memory-width-same r ty, at-same W64 ptr) (flip plain.is)
    acts-same (insts.Store ty val ptr atomic) = wide-same (memory_width ty) (memory_width (renamed_ty r ty))
        (λ w. on_word (word_at l a W64 ptr) (λ address. on_word (word_at l a w val) (λ x. Write (place_at address w) x atomic)))
        (λ w. on_word (word_at other_layout b W64 (renamed_val r ptr)) (λ address. on_word (word_at other_layout b w (renamed_val r val)) (λ x. Write (place_at address w) x atomic)))
        (memory-width-same r ty)
        (λ w. let plain : IsPlain r (on_word (word_at l a W64 ptr) (λ address. on_word (word_at l a w val) (λ x. Write (place_at address w) x atomic))) = search (rules, plain_parts) in
        rw (at-same W64 ptr, at-same w val) (flip plain.is))
    acts-same (insts.Rmw dst op ptr ty val) = wide-same (memory_width ty) (memory_width (renamed_ty r ty))
        (λ w. on_word (word_at l a W64 ptr) (λ address. on_word (word_at l a w val) (λ x. Update (place_at address w) (Combine op w x))))
        (λ w. on_word (word_at other_layout b W64 (renamed_val r ptr)) (λ address. on_word (word_at other_layout b w (renamed_val r val)) (λ x. Update (place_at address w) (Combine op w x))))
        (memory-width-same r ty)
        (λ w. let plain : IsPlain r (on_word (word_at l a W64 ptr) (λ address. on_word (word_at l a w val) (λ x. Update (place_at address w) (Combine op w x)))) = search (rules, plain_parts) in
        rw (at-same W64 ptr, at-same w val) (flip plain.is))
    acts-same (insts.CmpXchg dst ptr ty old new) = wide-same (memory_width ty) (memory_width (renamed_ty r ty))
        (λ w. on_word (word_at l a W64 ptr) (λ address. on_word (word_at l a w old) (λ x. on_word (word_at l a w new) (λ y. Update (place_at address w) (Exchange w x y)))))
        (λ w. on_word (word_at other_layout b W64 (renamed_val r ptr)) (λ address. on_word (word_at other_layout b w (renamed_val r old)) (λ x. on_word (word_at other_layout b w (renamed_val r new)) (λ y. Update (place_at address w) (Exchange w x y)))))
        (memory-width-same r ty)
        (λ w. let plain : IsPlain r (on_word (word_at l a W64 ptr) (λ address. on_word (word_at l a w old) (λ x. on_word (word_at l a w new) (λ y. Update (place_at address w) (Exchange w x y))))) = search (rules, plain_parts) in
        rw (at-same W64 ptr, at-same w old, at-same w new) (flip plain.is))
    acts-same insts.Fence = refl
    acts-same (insts.Extract dst elem pair index) =
        let plain : IsPlain r (action_of l callees a (insts.Extract dst elem pair index)) = search (rules, plain_parts) in rw (width-same r elem, agree.same pair.0) (flip plain.is)
    acts-same (insts.Call dst ret callee arguments) =
        rw (called callee.0, calling-same (slice_index_or callees callee.0 Unknown) arguments) (flip (calling-plain r l callees a (slice_index_or callees callee.0 Unknown) arguments).is)
    acts-same (insts.Phi dst ty arms) = refl
    acts-same (insts.Br to) = refl
    acts-same (insts.CondBr condition on_true on_false) = rw (at-same W1 condition) (branching-same (word_at l a W1 condition) on_true on_false)
    acts-same (insts.Switch ty on default cases) = rw (typed-same ty on) (switching-same (typed_word l a ty on) cases default)
    acts-same (insts.Ret ty None) = refl
    acts-same (insts.Ret ty (Some value)) = rw (typed-same ty value) (flip (returning-plain r l a ty (Some value)).is)
    acts-same insts.Unreachable = refl
