-- What a call of an accepted module enters: a function with as many parameters as words are given.
use Rattle.std.proofs.Common.{ℕ, zero, suc, ◌≡◌, ◌∙◌, ◌+◌, ◌⊎◌, inl, inr, Bool, true, false, not, List, [], ◌∷◌, ◌++◌, map, length, slice_get, Option, Some, None, refl, ap, sym, arith}
use Rattle.std.specs.Prelude.{nat_eq}
use Rattle.std.specs.List.{prefix_len, range_with_len, slice_index_or}
use Rattle.std.specs.Map.{lookup}
use Rattle.std.specs.Option.{option_map}
use Rattle.std.proofs.lemmas.Bool.{eqb-true, eq-eqb}
use Rattle.std.proofs.lemmas.Option.{slice_get-map}
use Rattle.std.proofs.lemmas.Map.Entries.{place_from_lookup}
use Rattle.std.proofs.lemmas.List.{length-map}
use Rattle.ir_core.proofs.Lengths.{both_true}
use Rattle.ir_core.specs.declared.types.Ty.{Ty}
use Rattle.ir_core.specs.declared.types.Sym.{Sym}
use Rattle.ir_core.specs.declared.types.Loc.{Loc}
use Rattle.ir_core.specs.declared.values.Val.{Val}
use Rattle.ir_core.specs.declared.values.GlobalVar.{GlobalVar}
use Rattle.ir_core.specs.declared.values.Declare.{Declare}
use Rattle.ir_core.specs.Module.{ModuleParts, FuncParts}
use Rattle.ir_layout.specs.Memory.{LayoutParts}
use Rattle.ir_lines.specs.SameTypes.{same_ty, same_types}
use Rattle.ir_calls.specs.declared.externals.External.{External}
use Rattle.ir_calls.specs.Calls.{Standing, Variable, Declared, Defined, of_global, of_declare, of_func, standing_of, external_named, takes, is_start, start_signature}
use Rattle.ir_check.specs.Faults.{IsAccepted}
use Rattle.inst_meaning.specs.declared.actions.Callee.{Callee}
use Rattle.inst_meaning.specs.declared.actions.Callee.TheVariants as callees
use Rattle.inst_meaning.specs.Action.{numbered_function, callee_with, callee_of, callees_of}
use Rattle.inst_meaning.specs.Operands.{typed_word, words_with, argument_words}
use Rattle.ir_check.proofs.Members.{position-place, at-position}
use Rattle.src_laws.proofs.Accepted.{declare-apart}

-- ---- the table of callees

table-at : {A : Type 0} (make : ℕ → A) (start count k place : ℕ) (d : A) → place ≡ start + k
    → (slice_index_or (map make (range_with_len start count)) k d ≡ make place) ⊎ (slice_index_or (map make (range_with_len start count)) k d ≡ d)
table-at make start zero k place d e = inr refl
table-at make start (suc count) zero place d e = let same : start ≡ place = omega arith in inl (ap make same)
table-at make start (suc count) (suc k) place d e = table-at make (start + 1) count k place d (omega arith)

-- what the table tells of a name is what the name stands for, or nothing
pub callee-told : (m : ModuleParts) (name : Sym) (callee : Callee) → slice_index_or (callees_of m) name.0 callees.Unknown ≡ callee
    → (callee ≡ callees.Unknown → ⊥) → callee_of m name ≡ callee
callee-told m name callee e known =
    let start : name.0 ≡ 0 + name.0 = omega arith in
    by_place (table-at (λ (n : ℕ). callee_of m (record { 0 = n })) 0 (length m.syms) name.0 name.0 callees.Unknown start)
  where
    by_place : (slice_index_or (callees_of m) name.0 callees.Unknown ≡ callee_of m name) ⊎ (slice_index_or (callees_of m) name.0 callees.Unknown ≡ callees.Unknown) → callee_of m name ≡ callee
    by_place (inl there) = sym there ∙ e
    by_place (inr none) = absurd (known (sym e ∙ none))

defined-with : (o : Option ℕ) (external : Option External) (n : ℕ) → callee_with o external ≡ callees.Defined n → o ≡ Some n
defined-with (Some k) external n e = let same : k ≡ n = cc in ap (λ (j : ℕ). Some j) same
defined-with None (Some external) n e = cc
defined-with None None n e = cc

outside-with : (o : Option ℕ) (found : Option External) (external : External) → callee_with o found ≡ callees.Outside external → found ≡ Some external
outside-with (Some k) found external e = cc
outside-with None (Some other) external e = let same : other ≡ external = cc in ap (λ (x : External). Some x) same
outside-with None None external e = cc

pub defined-told : (m : ModuleParts) (name : Sym) (n : ℕ) → slice_index_or (callees_of m) name.0 callees.Unknown ≡ callees.Defined n
    → numbered_function m name ≡ Some n
defined-told m name n e =
    defined-with (numbered_function m name) (external_named m name) n (callee-told m name (callees.Defined n) e (λ clash. cc))

pub outside-told : (m : ModuleParts) (name : Sym) (external : External)
    → slice_index_or (callees_of m) name.0 callees.Unknown ≡ callees.Outside external → external_named m name ≡ Some external
outside-told m name external e =
    outside-with (numbered_function m name) (external_named m name) external (callee-told m name (callees.Outside external) e (λ clash. cc))

-- ---- what a function's name stands for

found-among : {K X : Type 0} (test : K → Bool) (xs ys : List (K × X)) (v : X) → lookup test (xs ++ ys) ≡ Some v
    → (lookup test xs ≡ Some v) ⊎ (lookup test ys ≡ Some v)
found-among test [] ys v e = inr e
found-among {K} {X} test (x ∷ xs) ys v e = by_test (test x.0) refl (found-among test xs ys v)
  where
    by_test : (b : Bool) → test x.0 ≡ b → (lookup test (xs ++ ys) ≡ Some v → (lookup test xs ≡ Some v) ⊎ (lookup test ys ≡ Some v))
        → (lookup test (x ∷ xs) ≡ Some v) ⊎ (lookup test ys ≡ Some v)
    by_test true f rest = let here : Some x.1 ≡ Some v = rw f at e in inl (rw f here)
    by_test false f rest = rw f (rest (rw f at e))

-- the first function with a name is the one that has its number
first-func : (funcs : List FuncParts) (name : Sym) (v : Standing) (f : FuncParts)
    → lookup (λ other. nat_eq other.0 name.0) (map of_func funcs) ≡ Some v
    → slice_get funcs (prefix_len (λ g. not (nat_eq g.sym.0 name.0)) funcs) ≡ Some f → v ≡ (of_func f).1
first-func [] name v f e at = cc
first-func (g ∷ funcs) name v f e at = by_test (nat_eq g.sym.0 name.0) refl (first-func funcs name v f)
  where
    by_test : (b : Bool) → nat_eq g.sym.0 name.0 ≡ b
        → (lookup (λ (other : Sym). nat_eq other.0 name.0) (map of_func funcs) ≡ Some v → slice_get funcs (prefix_len (λ (h : FuncParts). not (nat_eq h.sym.0 name.0)) funcs) ≡ Some f → v ≡ (of_func f).1) → v ≡ (of_func f).1
    by_test true b rest =
        let there : Some g ≡ Some f = rw b at at in
        let same : g ≡ f = cc in
        let first : Some (of_func g).1 ≡ Some v = rw b at e in
        let told : (of_func g).1 ≡ v = cc in
        sym told ∙ ap (λ (h : FuncParts). (of_func h).1) same
    by_test false b rest =
        let one : 1 + prefix_len (λ (h : FuncParts). not (nat_eq h.sym.0 name.0)) funcs ≡ suc (prefix_len (λ (h : FuncParts). not (nat_eq h.sym.0 name.0)) funcs) = omega arith in
        rest (rw b at e) (rw (b, one) at at)

-- what may be called
abbrev is_signed : Standing → Bool
is_signed Variable = false
is_signed (Declared signature) = true
is_signed (Defined signature) = true

-- a name that may be called and has a function of the module stands for that function
func-standing : (m : ModuleParts) (name : Sym) (n : ℕ) (v : Standing) → IsAccepted m → numbered_function m name ≡ Some n → standing_of m name ≡ Some v
    → is_signed v ≡ true → (f : FuncParts) × (slice_get m.funcs n ≡ Some f) × (v ≡ (of_func f).1)
func-standing m name n v accepted number stands signed =
    (f, at, by_part (found-among test (map of_global m.globals ++ map of_declare m.declares) (map of_func m.funcs) v stands))
  where
    test : Sym → Bool
    test = λ (other : Sym). nat_eq other.0 name.0

    found : (x : FuncParts) × (slice_get m.funcs n ≡ Some x) × (nat_eq x.sym.0 name.0 ≡ true)
    found = at-position (λ (g : FuncParts). nat_eq g.sym.0 name.0) m.funcs n number

    f : FuncParts
    f = found.0

    at : slice_get m.funcs n ≡ Some f
    at = found.1

    no-variable : (o : Option GlobalVar) (k : Sym) → option_map of_global o ≡ Some (k, v) → ⊥
    no-variable None k e = cc
    no-variable (Some global) k e =
        let pair : of_global global ≡ (k, v) = cc in
        let clash : false ≡ true = ap (λ (p : Sym × Standing). is_signed p.1) pair ∙ signed in
        cc

    no-declare : (o : Option Declare) (k : Sym) (i : ℕ) → slice_get m.declares i ≡ o → option_map of_declare o ≡ Some (k, v) → test k ≡ true → ⊥
    no-declare None k i there e is = cc
    no-declare (Some declare) k i there e is =
        let pair : of_declare declare ≡ (k, v) = cc in
        let name_is : declare.sym.0 ≡ k.0 = ap (λ (p : Sym × Standing). p.0.0) pair in
        let same : f.sym.0 ≡ declare.sym.0 = eqb-true f.sym.0 name.0 found.2 ∙ sym (eqb-true k.0 name.0 is) ∙ sym name_is in
        let clash : true ≡ false = sym (eq-eqb f.sym.0 declare.sym.0 same) ∙ declare-apart m n f declare accepted at (i, there) in
        cc

    by_front : (lookup test (map of_global m.globals) ≡ Some v) ⊎ (lookup test (map of_declare m.declares) ≡ Some v) → v ≡ (of_func f).1
    by_front (inl there) =
        let place = place_from_lookup test (map of_global m.globals) v there in absurd (no-variable (slice_get m.globals place.0) place.1 (sym (slice_get-map of_global m.globals place.0) ∙ place.2))
    by_front (inr there) =
        let place = place_from_lookup test (map of_declare m.declares) v there in
        absurd (no-declare (slice_get m.declares place.0) place.1 place.0 refl (sym (slice_get-map of_declare m.declares place.0) ∙ place.2) place.3)

    by_part : (lookup test (map of_global m.globals ++ map of_declare m.declares) ≡ Some v) ⊎ (lookup test (map of_func m.funcs) ≡ Some v)
        → v ≡ (of_func f).1
    by_part (inl front) = by_front (found-among test (map of_global m.globals) (map of_declare m.declares) v front)
    by_part (inr there) =
        let place = (position-place (λ (g : FuncParts). nat_eq g.sym.0 name.0) m.funcs n number).0 in
        first-func m.funcs name v f there (ap (slice_get m.funcs) (sym place) ∙ at)

-- ---- as many words as parameters

-- the function with a number has so many parameters
pub record Enters (m : ModuleParts) (n count : ℕ) : Type 0 where
  pub f : FuncParts
  pub stands : slice_get m.funcs n ≡ Some f
  pub params : count ≡ length f.params

same-length : (xs ys : List Ty) → same_types xs ys ≡ true → length xs ≡ length ys
same-length [] [] e = refl
same-length [] (y ∷ ys) e = cc
same-length (x ∷ xs) [] e = cc
same-length (x ∷ xs) (y ∷ ys) e = ap suc (same-length xs ys (both_true (same_ty x y) (same_types xs ys) e).1)

words-length : (o : Option ℕ) (rest : Option (List ℕ)) (words : List ℕ) (n : ℕ) → words_with o rest ≡ Some words
    → ((others : List ℕ) → rest ≡ Some others → length others ≡ n) → length words ≡ suc n
words-length None rest words n e h = cc
words-length (Some word) None words n e h = cc
words-length (Some word) (Some others) words n e h = let all : word ∷ others ≡ words = cc in ap length (sym all) ∙ ap suc (h others refl)

pub argument-count : (l : LayoutParts) (registers : List (Option ℕ)) (arguments : List (Ty × Val)) (words : List ℕ)
    → argument_words l registers arguments ≡ Some words → length words ≡ length arguments
argument-count l registers [] words e = let none : [] ≡ words = cc in ap length (sym none)
argument-count l registers (argument ∷ arguments) words e =
    words-length (typed_word l registers argument.0 argument.1) (argument_words l registers arguments) words (length arguments) e (λ others f. argument-count l registers arguments others f)

-- how many parameters what is called has
abbrev count_of : Standing → ℕ
count_of Variable = 0
count_of (Declared signature) = length signature.params
count_of (Defined signature) = length signature.params

record IsCalled (o : Option Standing) (count : ℕ) : Type 0 where
  v : Standing
  is : o ≡ Some v
  signed : is_signed v ≡ true
  params : count ≡ count_of v

taken : (o : Option Standing) (ret : Ty) (args : List Ty) → takes o ret args ≡ true → IsCalled o (length args)
taken None ret args e = cc
taken (Some Variable) ret args e = cc
taken (Some (Declared signature)) ret args e =
    record { v = Declared signature; is = refl; signed = refl; params = same-length args signature.params (both_true (same_ty ret signature.result) (same_types args signature.params) e).1 }
taken (Some (Defined signature)) ret args e =
    record { v = Defined signature; is = refl; signed = refl; params = same-length args signature.params (both_true (same_ty ret signature.result) (same_types args signature.params) e).1 }

started : (o : Option Standing) → is_start o ≡ true → IsCalled o 1
started None e = cc
started (Some Variable) e = cc
started (Some (Declared signature)) e = cc
started (Some (Defined signature)) e = record {
  v = Defined signature;
  is = refl;
  signed = refl;
  params = sym (same-length signature.params start_signature.params (both_true (same_ty signature.result start_signature.result) (same_types signature.params start_signature.params) e).1);
}

enters : (m : ModuleParts) (name : Sym) (n count : ℕ) → IsAccepted m → numbered_function m name ≡ Some n → IsCalled (standing_of m name) count
    → Enters m n count
enters m name n count accepted number called =
    let f = func-standing m name n called.v accepted number called.is called.signed in
    record { f = f.0; stands = f.1; params = called.params ∙ ap count_of f.2 ∙ length-map f.0.params (λ (param : Ty × Loc). param.0) }

pub call-enters : (m : ModuleParts) (name : Sym) (n : ℕ) (ret : Ty) (args : List Ty) → IsAccepted m → numbered_function m name ≡ Some n
    → takes (standing_of m name) ret args ≡ true → Enters m n (length args)
call-enters m name n ret args accepted number e = enters m name n (length args) accepted number (taken (standing_of m name) ret args e)

pub start-enters : (m : ModuleParts) (name : Sym) (n : ℕ) → IsAccepted m → numbered_function m name ≡ Some n → is_start (standing_of m name) ≡ true
    → Enters m n 1
start-enters m name n accepted number e = enters m name n 1 accepted number (started (standing_of m name) e)
