-- Register files that hold the same words give the same actions and the same words to phis, and agree still when both take a word.
use Rattle.std.proofs.Common.{ℕ, zero, suc, ◌≡◌, ◌%◌, ◌^◌, ◌==◌, Bool, true, false, cond, nat_eq, List, [], ◌∷◌, ◌++◌, find, Option, Some, None, slice_get, if◌then◌else◌, refl, ap, ◌∙◌}
use Rattle.std.specs.List.{slice_index_or, flat_map}
use Rattle.std.specs.Option.{option_map, option_and_then}
use Rattle.ir_core.specs.declared.types.Ty.{Ty}
use Rattle.ir_core.specs.declared.types.Loc.{Loc}
use Rattle.ir_core.specs.declared.types.Width.{Width}
use Rattle.ir_core.specs.declared.types.Width.TheVariants.{W1, W64}
use Rattle.ir_core.specs.declared.values.Val.{Val}
use Rattle.ir_core.specs.declared.values.Val.TheVariants as values
use Rattle.ir_core.specs.declared.instruction.Inst.{Inst}
use Rattle.ir_core.specs.declared.instruction.Inst.TheVariants as insts
use Rattle.op_table.specs.Operators.{bits, binary, compares, converted}
use Rattle.ir_layout.specs.Memory.{LayoutParts}
use Rattle.ir_flow.specs.Uses.{reg_in, reg_in_arg, reg_in_index, regs_in, arms_in}
use Rattle.ir_check.proofs.Members.{IsIn, next-in, in-front, in-back, in-flat}
use Rattle.ir_calls.specs.declared.externals.External.{External}
use Rattle.ir_calls.specs.declared.externals.External.TheVariants.{PthreadCreate, PthreadJoin, MutexLock, MutexUnlock, Putchar, Exit as ExitProgram, Malloc, Free, HaftOut, HaftArg}
use Rattle.inst_meaning.specs.Registers.{get, put}
use Rattle.inst_meaning.specs.declared.actions.Callee.{Callee}
use Rattle.inst_meaning.specs.declared.actions.Callee.TheVariants.{Defined, Outside, Unknown}
use Rattle.inst_meaning.specs.declared.actions.Cause.TheVariants.{Unreachable}
use Rattle.inst_meaning.specs.declared.actions.Update.TheVariants.{Combine, Exchange}
use Rattle.inst_meaning.specs.declared.actions.Action.{Action}
use Rattle.inst_meaning.specs.declared.actions.Action.TheVariants.{Assign, Read, Write, Update, Jump, Create, Return, Fault}
use Rattle.inst_meaning.specs.Operands.{width_of, memory_width, word_of, word_at, typed_word, words_with, argument_words, index_with, index_words}
use Rattle.inst_meaning.specs.Phis.{arm_from, phi_word, phi_words_with, phi_words, assigned, all_assigned}
use Rattle.inst_meaning.specs.Action.{on_word, on_width, operated, truth, is_cast, place_at, extracted, case_of, asked, named_function, inner_pointer, creating, asking, outside, entering, calling, action_of}
use Rattle.inst_laws.specs.Agreement.{Agree}

-- ---- files

get-put : (a b : List (Option ℕ)) (at word k : ℕ) → ((i : ℕ) → get a i ≡ get b i) → get (put a at word) k ≡ get (put b at word) k
get-put [] [] zero word k h = refl
get-put [] [] (suc at) word zero h = refl
get-put [] [] (suc at) word (suc k) h = get-put [] [] at word k (λ i. refl)
get-put [] (y ∷ b) zero word zero h = refl
get-put [] (y ∷ b) zero word (suc k) h = h (suc k)
get-put [] (y ∷ b) (suc at) word zero h = h zero
get-put [] (y ∷ b) (suc at) word (suc k) h = get-put [] b at word k (λ i. h (suc i))
get-put (x ∷ a) [] zero word zero h = refl
get-put (x ∷ a) [] zero word (suc k) h = h (suc k)
get-put (x ∷ a) [] (suc at) word zero h = h zero
get-put (x ∷ a) [] (suc at) word (suc k) h = get-put a [] at word k (λ i. h (suc i))
get-put (x ∷ a) (y ∷ b) zero word zero h = refl
get-put (x ∷ a) (y ∷ b) zero word (suc k) h = h (suc k)
get-put (x ∷ a) (y ∷ b) (suc at) word zero h = h zero
get-put (x ∷ a) (y ∷ b) (suc at) word (suc k) h = get-put a b at word k (λ i. h (suc i))

pub put-agrees : (a b : List (Option ℕ)) (at word : ℕ) → Agree a b → Agree (put a at word) (put b at word)
put-agrees a b at word h = record { same = λ k. get-put a b at word k h.same }

pub assigned-agrees : (a b : List (Option ℕ)) (dst : Option Loc) (word : ℕ) → Agree a b → Agree (assigned dst word a) (assigned dst word b)
assigned-agrees a b None word h = h
assigned-agrees a b (Some at) word h = put-agrees a b at.0 word h

pub all_assigned-agrees : (words : List (Loc × ℕ)) (a b : List (Option ℕ)) → Agree a b → Agree (all_assigned words a) (all_assigned words b)
all_assigned-agrees [] a b h = h
all_assigned-agrees (word ∷ words) a b h = all_assigned-agrees words _ _ (put-agrees a b word.0.0 word.1 h)

pub agree-refl : (a : List (Option ℕ)) → Agree a a
agree-refl a = record { same = λ k. refl }

-- ---- functions of words

one : {A B : Type 0} (f : A → B) {x x' : A} → x ≡ x' → f x ≡ f x'
one f e = ap f e

two : {A B C : Type 0} (f : A → B → C) {x x' : A} {y y' : B} → x ≡ x' → y ≡ y' → f x y ≡ f x' y'
two f {x} {x'} {y} {y'} e d = ap (λ x. f x y) e ∙ ap (f x') d

three : {A B C D : Type 0} (f : A → B → C → D) {x x' : A} {y y' : B} {z z' : C} → x ≡ x' → y ≡ y' → z ≡ z' → f x y z ≡ f x' y' z'
three f {x} {x'} {y} {y'} {z} {z'} e d c = ap (λ x. f x y z) e ∙ ap (λ y. f x' y z) d ∙ ap (f x' y') c

on_width-same : (found : Option Width) (f g : Width → Action) → ((w : Width) → f w ≡ g w) → on_width found f ≡ on_width found g
on_width-same None f g h = refl
on_width-same (Some w) f g h = h w

-- ---- operands

module _ (l : LayoutParts) (a b : List (Option ℕ)) where
  -- these registers have the same words in both files
  abbrev pub AreSameIn : List Loc → Type 0
  AreSameIn regs = (reg : Loc) → IsIn reg regs → get a reg.0 ≡ get b reg.0

  first-part : (xs ys : List Loc) → AreSameIn (xs ++ ys) → AreSameIn xs
  first-part xs ys h reg is = h reg (in-front reg xs ys is)

  later-part : (xs ys : List Loc) → AreSameIn (xs ++ ys) → AreSameIn ys
  later-part xs ys h reg is = h reg (in-back reg xs ys is)

  word_of-same : (value : Val) → AreSameIn (reg_in value) → word_of l a value ≡ word_of l b value
  word_of-same (values.Reg at) h = h at (0, refl)
  word_of-same (values.Int n) h = refl
  word_of-same values.Null h = refl
  word_of-same (values.Global sym) h = refl
  word_of-same (values.Gep gep) h = refl

  at-same : (w : Width) (value : Val) → AreSameIn (reg_in value) → word_at l a w value ≡ word_at l b w value
  at-same w value h = ap (option_map (λ word. word % 2 ^ bits w)) (word_of-same value h)

  typed-found : (found : Option Width) (value : Val) → AreSameIn (reg_in value)
      → option_and_then (λ w. word_at l a w value) found ≡ option_and_then (λ w. word_at l b w value) found
  typed-found None value h = refl
  typed-found (Some w) value h = at-same w value h

  typed-same : (ty : Ty) (value : Val) → AreSameIn (reg_in value) → typed_word l a ty value ≡ typed_word l b ty value
  typed-same ty value h = typed-found (width_of ty) value h

  arguments-same : (arguments : List (Ty × Val)) → AreSameIn (flat_map reg_in_arg arguments) → argument_words l a arguments ≡ argument_words l b arguments
  arguments-same [] h = refl
  arguments-same (argument ∷ arguments) h = two words_with
      (typed-same argument.0 argument.1 (first-part (reg_in argument.1) (flat_map reg_in_arg arguments) h))
      (arguments-same arguments (later-part (reg_in argument.1) (flat_map reg_in_arg arguments) h))

  indices-same : (indices : List (Width × Val)) → AreSameIn (flat_map reg_in_index indices) → index_words l a indices ≡ index_words l b indices
  indices-same [] h = refl
  indices-same (index ∷ indices) h = two (index_with index.0)
      (at-same index.0 index.1 (first-part (reg_in index.1) (flat_map reg_in_index indices) h))
      (indices-same indices (later-part (reg_in index.1) (flat_map reg_in_index indices) h))

  -- ---- actions

  nth-part : (n : ℕ) (argument : Ty × Val) (arguments : List (Ty × Val)) → slice_get arguments n ≡ Some argument → AreSameIn (flat_map reg_in_arg arguments)
      → AreSameIn (reg_in argument.1)
  nth-part n argument arguments there h reg is = h reg (in-flat reg_in_arg argument reg arguments (n, there) is)

  creating-same : (callees : List Callee) (arguments : List (Ty × Val)) → AreSameIn (flat_map reg_in_arg arguments)
      → creating l callees a arguments ≡ creating l callees b arguments
  creating-same callees [] h = refl
  creating-same callees (x ∷ []) h = refl
  creating-same callees (x ∷ y ∷ []) h = refl
  creating-same callees (x ∷ y ∷ z ∷ []) h = refl
  creating-same callees (to ∷ y ∷ start ∷ argument ∷ []) h =
      two (λ p q. on_word p (λ address. on_word (named_function callees start.1) (λ n. on_word q (λ x. Create address n x))))
      (typed-same to.0 to.1 (nth-part 0 to (to ∷ y ∷ start ∷ argument ∷ []) refl h))
      (typed-same argument.0 argument.1 (nth-part 3 argument (to ∷ y ∷ start ∷ argument ∷ []) refl h))
  creating-same callees (x ∷ y ∷ z ∷ u ∷ v ∷ arguments) h = refl

  asking-same : (external : External) (arguments : List (Ty × Val)) → AreSameIn (flat_map reg_in_arg arguments)
      → asking l a external arguments ≡ asking l b external arguments
  asking-same external [] h = refl
  asking-same external (argument ∷ others) h =
      one (λ p. on_word p (asked external)) (typed-same argument.0 argument.1 (nth-part 0 argument (argument ∷ others) refl h))

  outside-same : (callees : List Callee) (external : External) (arguments : List (Ty × Val)) → AreSameIn (flat_map reg_in_arg arguments)
      → outside l callees a external arguments ≡ outside l callees b external arguments
  outside-same callees PthreadCreate arguments h = creating-same callees arguments h
  outside-same callees PthreadJoin arguments h = asking-same PthreadJoin arguments h
  outside-same callees MutexLock arguments h = asking-same MutexLock arguments h
  outside-same callees MutexUnlock arguments h = asking-same MutexUnlock arguments h
  outside-same callees Putchar arguments h = asking-same Putchar arguments h
  outside-same callees ExitProgram arguments h = asking-same ExitProgram arguments h
  outside-same callees Malloc arguments h = asking-same Malloc arguments h
  outside-same callees Free arguments h = asking-same Free arguments h
  outside-same callees HaftOut arguments h = asking-same HaftOut arguments h
  outside-same callees HaftArg arguments h = asking-same HaftArg arguments h

  calling-same : (callees : List Callee) (callee : Callee) (arguments : List (Ty × Val)) → AreSameIn (flat_map reg_in_arg arguments)
      → calling l callees a callee arguments ≡ calling l callees b callee arguments
  calling-same callees (Defined n) arguments h = one (entering n) (arguments-same arguments h)
  calling-same callees (Outside external) arguments h = outside-same callees external arguments h
  calling-same callees Unknown arguments h = refl

  cast-same : (is : Bool) (to : Option ℕ → Action) (p q : Option ℕ) → p ≡ q → (if is then to p else Fault Unreachable) ≡ (if is then to q else Fault Unreachable)
  cast-same is to p q e = ap (λ p. if is then to p else Fault Unreachable) e

  -- an instruction asks for the same where the registers that it reads are the same
  pub uses-same : (callees : List Callee) (inst : Inst) → AreSameIn (regs_in inst) → action_of l callees a inst ≡ action_of l callees b inst
  uses-same callees (insts.Bin dst op flags w x y) h =
      two (λ p q. on_word p (λ x. on_word q (λ y. operated (binary op flags (bits w) x y))))
      (at-same w x (first-part (reg_in x) (reg_in y) h)) (at-same w y (later-part (reg_in x) (reg_in y) h))
  uses-same callees (insts.Cmp dst pred ty x y) h =
      on_width-same (width_of ty) _ _ (λ w. two (λ p q. on_word p (λ x. on_word q (λ y. Assign (truth (compares pred (bits w) x y)))))
      (at-same w x (first-part (reg_in x) (reg_in y) h)) (at-same w y (later-part (reg_in x) (reg_in y) h)))
  uses-same callees (insts.Select dst condition ty x y) h =
      three (λ p q r. on_word p (λ c. on_word q (λ x. on_word r (λ y. Assign (if c == 1 then x else y)))))
      (at-same W1 condition (first-part (reg_in condition) (reg_in x) (first-part (reg_in condition ++ reg_in x) (reg_in y) h)))
      (typed-same ty x (later-part (reg_in condition) (reg_in x) (first-part (reg_in condition ++ reg_in x) (reg_in y) h)))
      (typed-same ty y (later-part (reg_in condition ++ reg_in x) (reg_in y) h))
  uses-same callees (insts.Cast dst op from x to) h =
      on_width-same (width_of from) _ _ (λ v. on_width-same (width_of to) _ _ (λ w. cast-same (is_cast op v w)
      (λ p. on_word p (λ x. Assign (converted op (bits v) (bits w) x))) _ _ (at-same v x h)))
  uses-same callees (insts.Gep dst base ptr index) h = two (λ p q. on_word p (λ address. inner_pointer l base address q))
      (at-same W64 ptr (first-part (reg_in ptr) (flat_map reg_in_index index) h)) (indices-same index (later-part (reg_in ptr) (flat_map reg_in_index index) h))
  uses-same callees (insts.Alloca dst ty) h = refl
  uses-same callees (insts.Load dst ty ptr atomic) h =
      on_width-same (memory_width ty) _ _ (λ w. one (λ p. on_word p (λ address. Read (place_at address w) atomic)) (at-same W64 ptr h))
  uses-same callees (insts.Store ty val ptr atomic) h =
      on_width-same (memory_width ty) _ _ (λ w. two (λ p q. on_word p (λ address. on_word q (λ x. Write (place_at address w) x atomic)))
      (at-same W64 ptr (later-part (reg_in val) (reg_in ptr) h)) (at-same w val (first-part (reg_in val) (reg_in ptr) h)))
  uses-same callees (insts.Rmw dst op ptr ty val) h =
      on_width-same (memory_width ty) _ _ (λ w. two (λ p q. on_word p (λ address. on_word q (λ x. Update (place_at address w) (Combine op w x))))
      (at-same W64 ptr (first-part (reg_in ptr) (reg_in val) h)) (at-same w val (later-part (reg_in ptr) (reg_in val) h)))
  uses-same callees (insts.CmpXchg dst ptr ty expected desired) h =
      on_width-same (memory_width ty) _ _ (λ w. three (λ p q r. on_word p (λ address. on_word q (λ x. on_word r (λ y. Update (place_at address w) (Exchange w x y)))))
      (at-same W64 ptr (first-part (reg_in ptr) (reg_in expected) (first-part (reg_in ptr ++ reg_in expected) (reg_in desired) h)))
      (at-same w expected (later-part (reg_in ptr) (reg_in expected) (first-part (reg_in ptr ++ reg_in expected) (reg_in desired) h)))
      (at-same w desired (later-part (reg_in ptr ++ reg_in expected) (reg_in desired) h)))
  uses-same callees insts.Fence h = refl
  uses-same callees (insts.Extract dst elem pair index) h =
      on_width-same (width_of elem) _ _ (λ w. one (λ p. on_word p (λ x. Assign (extracted index w x))) (h pair (0, refl)))
  uses-same callees (insts.Call dst ret callee args) h = calling-same callees (slice_index_or callees callee.0 Unknown) args h
  uses-same callees (insts.Phi dst ty arms) h = refl
  uses-same callees (insts.Br to) h = refl
  uses-same callees (insts.CondBr condition on_true on_false) h =
      one (λ p. on_word p (λ c. Jump (if c == 1 then on_true else on_false))) (at-same W1 condition h)
  uses-same callees (insts.Switch ty on default cases) h = one (λ p. on_word p (λ n. Jump (case_of n cases default))) (typed-same ty on h)
  uses-same callees (insts.Ret ty None) h = refl
  uses-same callees (insts.Ret ty (Some value)) h = one (λ p. on_word p (λ n. Return n)) (typed-same ty value h)
  uses-same callees insts.Unreachable h = refl

  -- ---- phis

  -- the registers of a phi's arms
  abbrev pub regs_of_phi : Inst → List Loc
  regs_of_phi phi = flat_map (λ arm. reg_in arm.0) (arms_in phi)

  arm-same : (ty : Ty) (label : Loc) (arms : List (Val × Loc)) → AreSameIn (flat_map (λ arm. reg_in arm.0) arms)
      → option_and_then (typed_word l a ty) (arm_from label arms) ≡ option_and_then (typed_word l b ty) (arm_from label arms)
  arm-same ty label [] h = refl
  arm-same ty label (arm ∷ arms) h = by_test (nat_eq arm.1.0 label.0) (arm-same ty label arms (later-part (reg_in arm.0) (flat_map (λ arm. reg_in arm.0) arms) h))
    where
      by_test : (found : Bool) → option_and_then (typed_word l a ty) (arm_from label arms) ≡ option_and_then (typed_word l b ty) (arm_from label arms)
          → option_and_then (typed_word l a ty) (option_map (λ arm. arm.0) (cond found (Some arm) (find (λ arm. nat_eq arm.1.0 label.0) arms)))
          ≡ option_and_then (typed_word l b ty) (option_map (λ arm. arm.0) (cond found (Some arm) (find (λ arm. nat_eq arm.1.0 label.0) arms)))
      by_test true rest = typed-same ty arm.0 (first-part (reg_in arm.0) (flat_map (λ arm. reg_in arm.0) arms) h)
      by_test false rest = rest

  pub phi-same : (label : Loc) (phi : Inst) → AreSameIn (regs_of_phi phi) → phi_word l a label phi ≡ phi_word l b label phi
  phi-same label (insts.Phi dst ty arms) h = ap (option_map (λ n. (dst, n))) (arm-same ty label arms h)
  phi-same label inst h = refl

  pub phi-words-same : (label : Loc) (phis : List Inst) → ((phi : Inst) → IsIn phi phis → AreSameIn (regs_of_phi phi))
      → phi_words l a label phis ≡ phi_words l b label phis
  phi-words-same label [] h = refl
  phi-words-same label (phi ∷ phis) h =
      two phi_words_with (phi-same label phi (h phi (0, refl))) (phi-words-same label phis (λ other is. h other (next-in other phi phis is)))

-- ---- files that are the same everywhere

module _ (l : LayoutParts) (a b : List (Option ℕ)) (h : Agree a b) where
  pub actions-same : (callees : List Callee) (inst : Inst) → action_of l callees a inst ≡ action_of l callees b inst
  actions-same callees inst = uses-same l a b callees inst (λ reg is. h.same reg.0)

  pub phis-same : (label : Loc) (phis : List Inst) → phi_words l a label phis ≡ phi_words l b label phis
  phis-same label phis = phi-words-same l a b label phis (λ phi is reg there. h.same reg.0)
