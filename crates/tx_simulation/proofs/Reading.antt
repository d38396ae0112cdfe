-- What an instruction reads decides what it asks for: the words of its registers, and for one that is done once the words of its operands
-- at the widths of their types.
use Rattle.std.proofs.Common.{ℕ, ◌≡◌, ◌∙◌, ◌%◌, ◌^◌, ◌==◌, if◌then◌else◌, Bool, true, false, List, [], ◌∷◌, ◌++◌, Option, Some, None, refl, ap, sym, subst}
use Rattle.std.specs.List.{flat_map, slice_index_or}
use Rattle.std.specs.Option.{option_map, option_and_then}
use Rattle.ir_core.specs.declared.types.Width.{Width}
use Rattle.ir_core.specs.declared.types.Width.TheVariants.{W1, W8, W16, W32, W64}
use Rattle.ir_core.specs.declared.types.Ty.{Ty}
use Rattle.ir_core.specs.declared.types.Ty.TheOpen.{Ty-F}
use Rattle.ir_core.specs.declared.types.Ty.TheViews.{out-Ty, out-roll-Ty}
use Rattle.ir_core.specs.declared.types.Ty as opened
use Rattle.ir_core.specs.declared.types.Ty.TheVariants as types
use Rattle.ir_core.specs.declared.types.Loc.{Loc}
use Rattle.ir_core.specs.declared.values.Val.{Val}
use Rattle.ir_core.specs.declared.values.Val.TheVariants as values
use Rattle.ir_core.specs.declared.instruction.Inst.{Inst}
use Rattle.ir_core.specs.declared.instruction.Inst.TheVariants as insts
use Rattle.op_table.specs.Operators.{bits}
use Rattle.ir_types.specs.Meanings as meanings
use Rattle.ir_layout.specs.Memory.{LayoutParts}
use Rattle.ir_flow.specs.Uses.{reg_in, reg_in_arg, reg_in_index, regs_in}
use Rattle.ir_calls.specs.declared.externals.External.{External}
use Rattle.ir_calls.specs.declared.externals.External.TheVariants.{PthreadCreate, PthreadJoin, MutexLock, MutexUnlock, Putchar, Exit as ExitProgram, Malloc, Free as FreeMemory, HaftOut, HaftArg}
use Rattle.ir_check.proofs.Members.{IsIn, in-front, in-back}
use Rattle.inst_meaning.specs.Registers.{get}
use Rattle.inst_meaning.specs.declared.actions.Callee.{Callee}
use Rattle.inst_meaning.specs.declared.actions.Callee.TheVariants.{Defined, Outside, Unknown}
use Rattle.inst_meaning.specs.Operands.{width_step, width_of, in_bytes, memory_width, word_of, word_at, typed_word, argument_words, index_words}
use Rattle.inst_meaning.specs.declared.actions.Action.{Action}
use Rattle.inst_meaning.specs.declared.actions.Action.TheVariants.{Read, Write, Update, Jump}
use Rattle.inst_meaning.specs.declared.actions.Update.TheVariants.{Combine, Exchange}
use Rattle.inst_meaning.specs.Action.{on_word, on_width, place_at, creating, asking, outside, calling, action_of}
use Rattle.hard_ir.specs.Facts.{register_bits_step, register_bits}
use Rattle.hard_ir.specs.Image.{is_done_twice, checked, checked_before}

-- ---- the same words

-- two files have the same words in these registers
abbrev pub SameOn : List (Option ℕ) → List (Option ℕ) → List Loc → Type 0
SameOn a b regs = (reg : Loc) → IsIn reg regs → get a reg.0 ≡ get b reg.0

module _ (l : LayoutParts) (a b : List (Option ℕ)) where
  left-of : (xs ys : List Loc) → SameOn a b (xs ++ ys) → SameOn a b xs
  left-of xs ys h reg is = h reg (in-front reg xs ys is)

  right-of : (xs ys : List Loc) → SameOn a b (xs ++ ys) → SameOn a b ys
  right-of xs ys h reg is = h reg (in-back reg xs ys is)

  pub word-same : (value : Val) → SameOn a b (reg_in value) → word_of l a value ≡ word_of l b value
  word-same (values.Reg reg) h = h reg (0, refl)
  word-same (values.Int n) h = refl
  word-same values.Null h = refl
  word-same (values.Global sym) h = refl
  word-same (values.Gep gep) h = refl

  indices-same : (indices : List (Width × Val)) → SameOn a b (flat_map reg_in_index indices) → index_words l a indices ≡ index_words l b indices
  indices-same [] h = refl
  indices-same (index ∷ indices) h = rw (
    word-same index.1 (left-of (reg_in index.1) (flat_map reg_in_index indices) h),
    indices-same indices (right-of (reg_in index.1) (flat_map reg_in_index indices) h),
  ) refl

  arguments-same : (arguments : List (Ty × Val)) → SameOn a b (flat_map reg_in_arg arguments) → argument_words l a arguments ≡ argument_words l b arguments
  arguments-same [] h = refl
  arguments-same (argument ∷ arguments) h = rw (
    word-same argument.1 (left-of (reg_in argument.1) (flat_map reg_in_arg arguments) h),
    arguments-same arguments (right-of (reg_in argument.1) (flat_map reg_in_arg arguments) h),
  ) refl

  creating-same : (callees : List Callee) (arguments : List (Ty × Val)) → SameOn a b (flat_map reg_in_arg arguments)
      → creating l callees a arguments ≡ creating l callees b arguments
  creating-same callees [] h = refl
  creating-same callees (to ∷ []) h = refl
  creating-same callees (to ∷ attributes ∷ []) h = refl
  creating-same callees (to ∷ attributes ∷ start ∷ []) h = refl
  creating-same callees (to ∷ attributes ∷ start ∷ argument ∷ []) h =
      let later = right-of (reg_in to.1) (flat_map reg_in_arg (attributes ∷ start ∷ argument ∷ [])) h in
      let last = right-of (reg_in start.1) (flat_map reg_in_arg (argument ∷ []))
      (right-of (reg_in attributes.1) (flat_map reg_in_arg (start ∷ argument ∷ [])) later) in
      rw (
        word-same to.1 (left-of (reg_in to.1) (flat_map reg_in_arg (attributes ∷ start ∷ argument ∷ [])) h),
        word-same argument.1 (left-of (reg_in argument.1) [] last),
      ) refl
  creating-same callees (to ∷ attributes ∷ start ∷ argument ∷ other ∷ others) h = refl

  asking-same : (external : External) (arguments : List (Ty × Val)) → SameOn a b (flat_map reg_in_arg arguments)
      → asking l a external arguments ≡ asking l b external arguments
  asking-same external [] h = refl
  asking-same external (argument ∷ others) h = rw (word-same argument.1 (left-of (reg_in argument.1) (flat_map reg_in_arg others) h)) refl

  outside-same : (callees : List Callee) (external : External) (arguments : List (Ty × Val)) → SameOn a b (flat_map reg_in_arg arguments)
      → outside l callees a external arguments ≡ outside l callees b external arguments
  outside-same callees PthreadCreate arguments h = creating-same callees arguments h
  outside-same callees PthreadJoin arguments h = asking-same PthreadJoin arguments h
  outside-same callees MutexLock arguments h = asking-same MutexLock arguments h
  outside-same callees MutexUnlock arguments h = asking-same MutexUnlock arguments h
  outside-same callees Putchar arguments h = asking-same Putchar arguments h
  outside-same callees ExitProgram arguments h = asking-same ExitProgram arguments h
  outside-same callees Malloc arguments h = asking-same Malloc arguments h
  outside-same callees FreeMemory arguments h = asking-same FreeMemory arguments h
  outside-same callees HaftOut arguments h = asking-same HaftOut arguments h
  outside-same callees HaftArg arguments h = asking-same HaftArg arguments h

  calling-same : (callees : List Callee) (callee : Callee) (arguments : List (Ty × Val)) → SameOn a b (flat_map reg_in_arg arguments)
      → calling l callees a callee arguments ≡ calling l callees b callee arguments
  calling-same callees (Defined n) arguments h = rw (arguments-same arguments h) refl
  calling-same callees (Outside external) arguments h = outside-same callees external arguments h
  calling-same callees Unknown arguments h = refl

  -- files that have the same words in what an instruction reads give the same action
  pub acts-same : (callees : List Callee) (inst : Inst) → SameOn a b (regs_in inst) → action_of l callees a inst ≡ action_of l callees b inst
  acts-same callees (insts.Bin dst op flags w x y) h =
      rw (word-same x (left-of (reg_in x) (reg_in y) h), word-same y (right-of (reg_in x) (reg_in y) h)) refl
  acts-same callees (insts.Cmp dst pred ty x y) h =
      rw (word-same x (left-of (reg_in x) (reg_in y) h), word-same y (right-of (reg_in x) (reg_in y) h)) refl
  acts-same callees (insts.Select dst condition ty x y) h =
      let both = left-of (reg_in condition ++ reg_in x) (reg_in y) h in
      rw (
        word-same condition (left-of (reg_in condition) (reg_in x) both),
        word-same x (right-of (reg_in condition) (reg_in x) both),
        word-same y (right-of (reg_in condition ++ reg_in x) (reg_in y) h),
      ) refl
  acts-same callees (insts.Cast dst op from x to) h = rw (word-same x h) refl
  acts-same callees (insts.Gep dst base ptr index) h =
      rw (word-same ptr (left-of (reg_in ptr) (flat_map reg_in_index index) h), indices-same index (right-of (reg_in ptr) (flat_map reg_in_index index) h)) refl
  acts-same callees (insts.Extract dst elem pair index) h = rw (h pair (0, refl)) refl
  acts-same callees (insts.Alloca dst ty) h = refl
  acts-same callees (insts.Load dst ty ptr atomic) h = rw (word-same ptr h) refl
  acts-same callees (insts.Store ty val ptr atomic) h =
      rw (word-same ptr (right-of (reg_in val) (reg_in ptr) h), word-same val (left-of (reg_in val) (reg_in ptr) h)) refl
  acts-same callees (insts.Rmw dst op ptr ty val) h =
      rw (word-same ptr (left-of (reg_in ptr) (reg_in val) h), word-same val (right-of (reg_in ptr) (reg_in val) h)) refl
  acts-same callees (insts.CmpXchg dst ptr ty old new) h =
      let both = left-of (reg_in ptr ++ reg_in old) (reg_in new) h in
      rw (
        word-same ptr (left-of (reg_in ptr) (reg_in old) both),
        word-same old (right-of (reg_in ptr) (reg_in old) both),
        word-same new (right-of (reg_in ptr ++ reg_in old) (reg_in new) h),
      ) refl
  acts-same callees insts.Fence h = refl
  acts-same callees (insts.Call dst ret callee args) h = calling-same callees (slice_index_or callees callee.0 Unknown) args h
  acts-same callees (insts.Phi dst ty arms) h = refl
  acts-same callees (insts.Br to) h = refl
  acts-same callees (insts.CondBr condition on_true on_false) h = rw (word-same condition h) refl
  acts-same callees (insts.Switch ty on default cases) h = rw (word-same on h) refl
  acts-same callees (insts.Ret ty None) h = refl
  acts-same callees (insts.Ret ty (Some value)) h = rw (word-same value h) refl
  acts-same callees insts.Unreachable h = refl

-- ---- the same words of types

pub pointer-width : width_of types.Ptr ≡ Some W64
unfolding opened.roll-Ty denote.Hole.Carrier.roll
pointer-width = ap width_step (out-roll-Ty Ty-F.Ptr)

-- a word of one bit
pub bit-width : width_of (types.Int W1) ≡ Some W1
unfolding opened.roll-Ty denote.Hole.Carrier.roll
bit-width = ap width_step (out-roll-Ty (Ty-F.Int W1))

-- the word of a register, as one of a type
abbrev pub word_in : Ty → List (Option ℕ) → Loc → Option ℕ
word_in ty file reg = option_map (λ n. n % 2 ^ register_bits ty) (get file reg.0)

abbrev pub SameIn : List (Option ℕ) → List (Option ℕ) → Ty × Val → Type 0
SameIn a b (ty, values.Reg reg) = word_in ty a reg ≡ word_in ty b reg
SameIn a b (ty, values.Int n) = Unit {0}
SameIn a b (ty, values.Null) = Unit {0}
SameIn a b (ty, values.Global sym) = Unit {0}
SameIn a b (ty, values.Gep gep) = Unit {0}

-- operands of which both files have the same words of their types
abbrev pub AreSameIn : List (Option ℕ) → List (Option ℕ) → List (Ty × Val) → Type 0
AreSameIn a b [] = Unit {0}
AreSameIn a b (operand ∷ operands) = SameIn a b operand × AreSameIn a b operands

pub same-in-more : (a b : List (Option ℕ)) (done : List (Ty × Val)) (operand : Ty × Val) → AreSameIn a b done → SameIn a b operand
    → AreSameIn a b (done ++ operand ∷ [])
same-in-more a b [] operand h same = (same, tt)
same-in-more a b (first ∷ done) operand h same = (h.0, same-in-more a b done operand h.1 same)

same-bits : (w : Width) → meanings.bits w ≡ bits w
same-bits W1 = refl
same-bits W8 = refl
same-bits W16 = refl
same-bits W32 = refl
same-bits W64 = refl

bits-step : (ty : Ty) (step : Ty-F Ty) (w : Width) → out-Ty ty ≡ step → width_step step ≡ Some w → register_bits_step ty step ≡ bits w
bits-step ty (Ty-F.Int v) w f e =
    let same : v ≡ w = cc in ap meanings.word_bits_step f ∙ same-bits v ∙ ap bits same
bits-step ty Ty-F.Ptr w f e = let same : W64 ≡ w = cc in ap meanings.word_bits_step f ∙ ap bits same
bits-step ty Ty-F.Void w f e = cc
bits-step ty (Ty-F.Array count of) w f e = cc
bits-step ty (Ty-F.Struct fields) w f e = cc
bits-step ty (Ty-F.Named id) w f e = cc

-- the bits of a type that has words are those of its width
pub bits-of : (ty : Ty) (w : Width) → width_of ty ≡ Some w → register_bits ty ≡ bits w
bits-of ty w e = bits-step ty (out-Ty ty) w refl e

width-from : (w v : Width) → in_bytes w ≡ Some v → w ≡ v
width-from W1 v e = cc
width-from W8 v e = cc
width-from W16 v e = cc
width-from W32 v e = cc
width-from W64 v e = cc

memory-step : (o : Option Width) (v : Width) → option_and_then in_bytes o ≡ Some v → o ≡ Some v
memory-step None v e = cc
memory-step (Some w) v e = ap Some (width-from w v e)

-- in memory a type's words have its width
pub memory-bits : (ty : Ty) (w : Width) → memory_width ty ≡ Some w → register_bits ty ≡ bits w
memory-bits ty w e = bits-of ty w (memory-step (width_of ty) w e)

module _ (l : LayoutParts) (a b : List (Option ℕ)) where
  -- an operand is the same word at its type's width
  pub at-width : (ty : Ty) (value : Val) (w : Width) → register_bits ty ≡ bits w → SameIn a b (ty, value) → word_at l a w value ≡ word_at l b w value
  at-width ty (values.Reg reg) w e h = subst (λ (n : ℕ). option_map (λ word. word % 2 ^ n) (get a reg.0) ≡ option_map (λ word. word % 2 ^ n) (get b reg.0)) e h
  at-width ty (values.Int n) w e h = refl
  at-width ty values.Null w e h = refl
  at-width ty (values.Global sym) w e h = refl
  at-width ty (values.Gep gep) w e h = refl

  typed-step : (ty : Ty) (value : Val) (o : Option Width) → width_of ty ≡ o → SameIn a b (ty, value)
      → option_and_then (λ w. word_at l a w value) o ≡ option_and_then (λ w. word_at l b w value) o
  typed-step ty value None e h = refl
  typed-step ty value (Some w) e h = at-width ty value w (bits-of ty w e) h

  typed-alike : (operand : Ty × Val) → SameIn a b operand → typed_word l a operand.0 operand.1 ≡ typed_word l b operand.0 operand.1
  typed-alike operand h = typed-step operand.0 operand.1 (width_of operand.0) refl h

  pointer-alike : (ptr : Val) → SameIn a b (types.Ptr, ptr) → word_at l a W64 ptr ≡ word_at l b W64 ptr
  pointer-alike ptr h = at-width types.Ptr ptr W64 (bits-of types.Ptr W64 pointer-width) h

  words-alike : (arguments : List (Ty × Val)) → AreSameIn a b arguments → argument_words l a arguments ≡ argument_words l b arguments
  words-alike [] h = refl
  words-alike (argument ∷ arguments) h = rw (typed-alike argument h.0, words-alike arguments h.1) refl

  creating-alike : (callees : List Callee) (arguments : List (Ty × Val)) → AreSameIn a b arguments
      → creating l callees a arguments ≡ creating l callees b arguments
  creating-alike callees [] h = refl
  creating-alike callees (to ∷ []) h = refl
  creating-alike callees (to ∷ attributes ∷ []) h = refl
  creating-alike callees (to ∷ attributes ∷ start ∷ []) h = refl
  creating-alike callees (to ∷ attributes ∷ start ∷ argument ∷ []) h = rw (typed-alike to h.0, typed-alike argument h.1.1.1.0) refl
  creating-alike callees (to ∷ attributes ∷ start ∷ argument ∷ other ∷ others) h = refl

  asking-alike : (external : External) (arguments : List (Ty × Val)) → AreSameIn a b arguments
      → asking l a external arguments ≡ asking l b external arguments
  asking-alike external [] h = refl
  asking-alike external (argument ∷ others) h = rw (typed-alike argument h.0) refl

  outside-alike : (callees : List Callee) (external : External) (arguments : List (Ty × Val)) → AreSameIn a b arguments
      → outside l callees a external arguments ≡ outside l callees b external arguments
  outside-alike callees PthreadCreate arguments h = creating-alike callees arguments h
  outside-alike callees PthreadJoin arguments h = asking-alike PthreadJoin arguments h
  outside-alike callees MutexLock arguments h = asking-alike MutexLock arguments h
  outside-alike callees MutexUnlock arguments h = asking-alike MutexUnlock arguments h
  outside-alike callees Putchar arguments h = asking-alike Putchar arguments h
  outside-alike callees ExitProgram arguments h = asking-alike ExitProgram arguments h
  outside-alike callees Malloc arguments h = asking-alike Malloc arguments h
  outside-alike callees FreeMemory arguments h = asking-alike FreeMemory arguments h
  outside-alike callees HaftOut arguments h = asking-alike HaftOut arguments h
  outside-alike callees HaftArg arguments h = asking-alike HaftArg arguments h

  calling-alike : (callees : List Callee) (callee : Callee) (arguments : List (Ty × Val)) → AreSameIn a b arguments
      → calling l callees a callee arguments ≡ calling l callees b callee arguments
  calling-alike callees (Defined n) arguments h = rw (words-alike arguments h) refl
  calling-alike callees (Outside external) arguments h = outside-alike callees external arguments h
  calling-alike callees Unknown arguments h = refl

  -- an access of a width, at a pointer
  on-memory : (ty : Ty) (ptr : Val) (x y : Width → ℕ → Action) (o : Option Width) → memory_width ty ≡ o → SameIn a b (types.Ptr, ptr)
      → ((w : Width) (address : ℕ) → register_bits ty ≡ bits w → x w address ≡ y w address)
      → on_width o (λ w. on_word (word_at l a W64 ptr) (x w)) ≡ on_width o (λ w. on_word (word_at l b W64 ptr) (y w))
  on-memory ty ptr x y None e h f = refl
  on-memory ty ptr x y (Some w) e h f = rw (pointer-alike ptr h) (by_word (word_at l b W64 ptr))
    where
      by_word : (p : Option ℕ) → on_word p (x w) ≡ on_word p (y w)
      by_word None = refl
      by_word (Some address) = f w address (memory-bits ty w e)

  -- operands of which both have the same words give the same action, where it is done once
  pub acts-alike : (callees : List Callee) (inst : Inst) → is_done_twice inst ≡ false → AreSameIn a b (checked_before inst)
      → action_of l callees a inst ≡ action_of l callees b inst
  acts-alike callees (insts.Bin dst op flags w x y) once h = absurd cc
  acts-alike callees (insts.Cmp dst pred ty x y) once h = absurd cc
  acts-alike callees (insts.Select dst condition ty x y) once h = absurd cc
  acts-alike callees (insts.Cast dst op from x to) once h = absurd cc
  acts-alike callees (insts.Gep dst base ptr index) once h = absurd cc
  acts-alike callees (insts.Extract dst elem pair index) once h = absurd cc
  acts-alike callees (insts.Alloca dst ty) once h = refl
  acts-alike callees (insts.Load dst ty ptr true) once h =
      on-memory ty ptr (λ w address. Read (place_at address w) true) (λ w address. Read (place_at address w) true) (memory_width ty) refl h.0 (λ w address e. refl)
  acts-alike callees (insts.Load dst ty ptr false) once h = absurd cc
  acts-alike callees (insts.Store ty val ptr atomic) once h =
      on-memory ty ptr (λ w address. on_word (word_at l a w val) (λ x. Write (place_at address w) x atomic))
      (λ w address. on_word (word_at l b w val) (λ x. Write (place_at address w) x atomic)) (memory_width ty) refl (stored atomic h).0
      (λ w address e. ap (λ (o : Option ℕ). on_word o (λ x. Write (place_at address w) x atomic)) (at-width ty val w e (stored atomic h).1))
    where
      stored : (atomic : Bool) → AreSameIn a b (checked_before (insts.Store ty val ptr atomic)) → SameIn a b (types.Ptr, ptr) × SameIn a b (ty, val)
      stored true h = (h.0, h.1.0)
      stored false h = (h.0, h.1.0)
  acts-alike callees (insts.Rmw dst op ptr ty val) once h =
      on-memory ty ptr (λ w address. on_word (word_at l a w val) (λ x. Update (place_at address w) (Combine op w x)))
      (λ w address. on_word (word_at l b w val) (λ x. Update (place_at address w) (Combine op w x))) (memory_width ty) refl h.0
      (λ w address e. ap (λ (o : Option ℕ). on_word o (λ x. Update (place_at address w) (Combine op w x))) (at-width ty val w e h.1.0))
  acts-alike callees (insts.CmpXchg dst ptr ty old new) once h =
      on-memory ty ptr (λ w address. on_word (word_at l a w old) (λ x. on_word (word_at l a w new) (λ y. Update (place_at address w) (Exchange w x y))))
      (λ w address. on_word (word_at l b w old) (λ x. on_word (word_at l b w new) (λ y. Update (place_at address w) (Exchange w x y)))) (memory_width ty) refl h.0
      (λ w address e. ap (λ (o : Option ℕ). on_word o (λ x. on_word (word_at l a w new) (λ y. Update (place_at address w) (Exchange w x y)))) (at-width ty old w e h.1.0)
      ∙ ap (λ (o : Option ℕ). on_word (word_at l b w old) (λ x. on_word o (λ y. Update (place_at address w) (Exchange w x y)))) (at-width ty new w e h.1.1.0))
  acts-alike callees insts.Fence once h = refl
  acts-alike callees (insts.Call dst ret callee args) once h = calling-alike callees (slice_index_or callees callee.0 Unknown) args h
  acts-alike callees (insts.Phi dst ty arms) once h = refl
  acts-alike callees (insts.Br to) once h = refl
  acts-alike callees (insts.CondBr condition on_true on_false) once h =
      ap (λ (o : Option ℕ). on_word o (λ c. Jump (if c == 1 then on_true else on_false)))
      (at-width (types.Int W1) condition W1 (bits-of (types.Int W1) W1 bit-width) h.0)
  acts-alike callees (insts.Switch ty on default cases) once h = rw (typed-alike (ty, on) h.0) refl
  acts-alike callees (insts.Ret ty None) once h = refl
  acts-alike callees (insts.Ret ty (Some value)) once h = rw (typed-alike (ty, value) h.0) refl
  acts-alike callees insts.Unreachable once h = refl
