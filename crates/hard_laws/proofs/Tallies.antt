-- How often names are defined: in an accepted module at most once, and once where none is defined again on a side.
use Rattle.std.proofs.Common.{ℕ, zero, suc, ◌≡◌, ◌∙◌, ◌+◌, ◌≤◌, Bool, true, false, ◌||◌, ◌&&◌, List, [], ◌∷◌, ◌++◌, map, Option, Some, None, refl, ap, sym, subst, arith, append_assoc}
use Rattle.std.specs.Prelude.{nat_eq, if◌then◌else◌}
use Rattle.std.specs.List.{list_any}
use Rattle.std.proofs.lemmas.Bool.Decides.{nat_tests}
use Rattle.ir_core.specs.declared.values.Side.{Side}
use Rattle.ir_core.specs.declared.values.Side.TheVariants.{M, S}
use Rattle.ir_lines.specs.declared.site.Site.{Site}
use Rattle.ir_lines.specs.declared.site.Named.{Named}
use Rattle.ir_lines.specs.declared.site.Named.TheVariants as names
use Rattle.ir_names.specs.Names.{same_name, first_again}
use Rattle.hard_ir.specs.Fit.{HardLine, SidedName, same_side, same_sided, hard_again}

-- one more, where a test passes
abbrev pub counted : Bool → ℕ → ℕ
counted true n = suc n
counted false n = n

-- how many items pass a test
abbrev pub tally : {A : Type 0} → (A → Bool) → List A → ℕ
tally test [] = 0
tally test (x ∷ xs) = counted (test x) (tally test xs)

pub counted-more : (b : Bool) (n k : ℕ) → counted b (n + k) ≡ counted b n + k
counted-more true n k = omega arith
counted-more false n k = refl

pub tally-append : {A : Type 0} (test : A → Bool) (xs ys : List A) → tally test (xs ++ ys) ≡ tally test xs + tally test ys
tally-append test [] ys = omega arith
tally-append test (x ∷ xs) ys = ap (counted (test x)) (tally-append test xs ys) ∙ counted-more (test x) (tally test xs) (tally test ys)

pub tally-any : {A : Type 0} (test : A → Bool) (xs : List A) → list_any test xs ≡ true → 1 ≤ tally test xs
tally-any test [] e = cc
tally-any test (x ∷ xs) e = by_test (test x) e (tally-any test xs)
  where
    by_test : (b : Bool) → (b || list_any test xs) ≡ true → (list_any test xs ≡ true → 1 ≤ tally test xs) → 1 ≤ counted b (tally test xs)
    by_test true e rest = omega arith
    by_test false e rest = rest e

pub any-tally : {A : Type 0} (test : A → Bool) (xs : List A) → 1 ≤ tally test xs → list_any test xs ≡ true
any-tally test [] e = absurd (omega arith)
any-tally test (x ∷ xs) e = by_test (test x) e (any-tally test xs)
  where
    by_test : (b : Bool) → 1 ≤ counted b (tally test xs) → (1 ≤ tally test xs → list_any test xs ≡ true) → (b || list_any test xs) ≡ true
    by_test true e rest = refl
    by_test false e rest = rest e

-- ---- names that are the same

pub nat-same : (a : ℕ) → nat_eq a a ≡ true
nat-same a = grind (arith, nat_tests)

nat-euclid : (k a b : ℕ) → nat_eq k a ≡ true → nat_eq k b ≡ true → nat_eq a b ≡ true
nat-euclid k a b p q = grind (arith, nat_tests)

pub name-same : (k : Named) → same_name k k ≡ true
name-same (names.Type id) = nat-same id.0
name-same (names.Sym sym) = nat-same sym.0
name-same (names.Loc n at) = rw (nat-same n, nat-same at.0) refl

halves : (a b : Bool) → (a && b) ≡ true → (a ≡ true) × (b ≡ true)
halves true b e = (refl, e)
halves false b e = cc

pub name-euclid : (k a b : Named) → same_name k a ≡ true → same_name k b ≡ true → same_name a b ≡ true
name-euclid (names.Type id) (names.Type x) (names.Type y) p q = nat-euclid id.0 x.0 y.0 p q
name-euclid (names.Sym sym) (names.Sym x) (names.Sym y) p q = nat-euclid sym.0 x.0 y.0 p q
name-euclid (names.Loc n at) (names.Loc i x) (names.Loc j y) p q =
    let here = halves (nat_eq n i) (nat_eq at.0 x.0) p in
    let there = halves (nat_eq n j) (nat_eq at.0 y.0) q in
    rw (nat-euclid n i j here.0 there.0, nat-euclid at.0 x.0 y.0 here.1 there.1) refl
name-euclid (names.Type id) (names.Sym x) b p q = cc
name-euclid (names.Type id) (names.Loc i x) b p q = cc
name-euclid (names.Type id) (names.Type x) (names.Sym y) p q = cc
name-euclid (names.Type id) (names.Type x) (names.Loc j y) p q = cc
name-euclid (names.Sym sym) (names.Type x) b p q = cc
name-euclid (names.Sym sym) (names.Loc i x) b p q = cc
name-euclid (names.Sym sym) (names.Sym x) (names.Type y) p q = cc
name-euclid (names.Sym sym) (names.Sym x) (names.Loc j y) p q = cc
name-euclid (names.Loc n at) (names.Type x) b p q = cc
name-euclid (names.Loc n at) (names.Sym x) b p q = cc
name-euclid (names.Loc n at) (names.Loc i x) (names.Type y) p q = cc
name-euclid (names.Loc n at) (names.Loc i x) (names.Sym y) p q = cc

-- ---- an accepted module defines each name at most once

none-before : (k d : Named) (before : List Named) → list_any (same_name d) before ≡ false → same_name k d ≡ true → tally (same_name k) before ≡ 0
none-before k d [] e same = refl
none-before k d (x ∷ xs) e same = by_test (same_name k x) refl (same_name d x) refl e (none-before k d xs)
  where
    by_test : (a : Bool) → same_name k x ≡ a → (b : Bool) → same_name d x ≡ b → (b || list_any (same_name d) xs) ≡ false
        → (list_any (same_name d) xs ≡ false → same_name k d ≡ true → tally (same_name k) xs ≡ 0) → counted a (tally (same_name k) xs) ≡ 0
    by_test a p true q e rest = absurd cc
    by_test true p false q e rest = absurd (let clash : true ≡ false = sym (name-euclid k d x same p) ∙ q in cc)
    by_test false p false q e rest = rest e same

tally-once : (k : Named) (before : List Named) (defs : List (Site × Named)) → first_again before defs ≡ None → tally (same_name k) before ≤ 1
    → tally (same_name k) (before ++ map (λ d. d.1) defs) ≤ 1
tally-once k before [] e few = let same = tally-append (same_name k) before [] in omega arith
tally-once k before (d ∷ defs) e few = by_test (list_any (same_name d.1) before) refl e (tally-once k (before ++ d.1 ∷ []) defs)
  where
    grown : (b : Bool) → same_name k d.1 ≡ b → list_any (same_name d.1) before ≡ false → tally (same_name k) (before ++ d.1 ∷ []) ≤ 1
    grown true p none =
        let parts = tally-append (same_name k) before (d.1 ∷ []) in
        let zero = none-before k d.1 before none p in
        let one : tally (same_name k) (d.1 ∷ []) ≡ 1 = ap (λ (b : Bool). counted b 0) p in
        omega arith
    grown false p none =
        let parts = tally-append (same_name k) before (d.1 ∷ []) in
        let zero : tally (same_name k) (d.1 ∷ []) ≡ 0 = ap (λ (b : Bool). counted b 0) p in
        omega arith

    by_test : (b : Bool) → list_any (same_name d.1) before ≡ b → (if b then Some d else first_again (before ++ d.1 ∷ []) defs) ≡ None
        → (first_again (before ++ d.1 ∷ []) defs ≡ None → tally (same_name k) (before ++ d.1 ∷ []) ≤ 1 → tally (same_name k) ((before ++ d.1 ∷ []) ++ map (λ (d : Site × Named). d.1) defs) ≤ 1)
        → tally (same_name k) (before ++ map (λ (d : Site × Named). d.1) (d ∷ defs)) ≤ 1
    by_test true p e rest = absurd cc
    by_test false p e rest =
        subst (λ (xs : List Named). tally (same_name k) xs ≤ 1) (append_assoc before (d.1 ∷ []) (map (λ (d : Site × Named). d.1) defs)) (rest e (grown (same_name k d.1) refl p))

pub defined-once : (k : Named) (defs : List (Site × Named)) → first_again [] defs ≡ None → tally (same_name k) (map (λ d. d.1) defs) ≤ 1
defined-once k defs e = tally-once k [] defs e (omega arith)

-- ---- and where no name is defined twice on a side, none is defined again

same-side : (side : Side) → same_side side side ≡ true
same-side M = refl
same-side S = refl

-- the names on a side are these
abbrev pub on_side : Side → Named → SidedName → Bool
on_side side k = same_sided (Some side, k)

pub grow : (b : Bool) (n : ℕ) → 1 ≤ n → 1 ≤ counted b n
grow true n e = omega arith
grow false n e = e

record Clash (d : SidedName) (before : List SidedName) : Type 0 where
  pub side : Side
  pub own : on_side side d.1 d ≡ true
  pub other : 1 ≤ tally (on_side side d.1) before

clashes : (d : SidedName) (before : List SidedName) → list_any (same_sided d) before ≡ true → Clash d before
clashes (Some side, k) before e = record { side = side; own = rw (same-side side, name-same k) refl; other = tally-any (on_side side k) before e }
clashes (None, k) [] e = cc
clashes (None, k) ((o, x) ∷ xs) e = by_test o (same_name k x) refl e (clashes (None, k) xs)
  where
    later : (y : SidedName) → Clash (None, k) xs → Clash (None, k) (y ∷ xs)
    later y rest = record { side = rest.side; own = rest.own; other = grow (on_side rest.side k y) (tally (on_side rest.side k) xs) rest.other }

    by_test : (o : Option Side) (b : Bool) → same_name k x ≡ b → (b || list_any (same_sided (None, k)) xs) ≡ true → (list_any (same_sided (None, k)) xs ≡ true → Clash (None, k) xs) → Clash (None, k) ((o, x) ∷ xs)
    by_test o false p e rest = later (o, x) (rest e)
    by_test None true p e rest = record { side = M; own = name-same k; other = rw p (omega arith) }
    by_test (Some side) true p e rest = record { side = side; own = name-same k; other = rw (same-side side, p) (omega arith) }

again-none : (before : List SidedName) (defs : List (HardLine × SidedName)) → ((side : Side) (k : Named) → tally (on_side side k) (before ++ map (λ d. d.1) defs) ≤ 1) → hard_again before defs ≡ None
again-none before [] few = refl
again-none before (d ∷ defs) few = by_test (list_any (same_sided d.1) before) refl (again-none (before ++ d.1 ∷ []) defs)
  where
    rest : List SidedName
    rest = map (λ (d : HardLine × SidedName). d.1) defs

    by_test : (b : Bool) → list_any (same_sided d.1) before ≡ b
        → (((side : Side) (k : Named) → tally (on_side side k) ((before ++ d.1 ∷ []) ++ rest) ≤ 1) → hard_again (before ++ d.1 ∷ []) defs ≡ None)
        → (if b then Some d else hard_again (before ++ d.1 ∷ []) defs) ≡ None
    by_test false p next = next (λ side k. subst (λ (xs : List SidedName). tally (on_side side k) xs ≤ 1) (sym (append_assoc before (d.1 ∷ []) rest)) (few side k))
    by_test true p next =
        let clash = clashes d.1 before p in
        let test = on_side clash.side d.1.1 in
        let first = clash.other in
        let own : tally test (d.1 ∷ []) ≡ 1 = ap (λ (b : Bool). counted b 0) clash.own in
        let whole = tally-append test before (d.1 ∷ rest) in
        let behind = tally-append test (d.1 ∷ []) rest in
        let most = few clash.side d.1.1 in
        absurd (omega arith)

pub none-again : (defs : List (HardLine × SidedName)) → ((side : Side) (k : Named) → tally (on_side side k) (map (λ d. d.1) defs) ≤ 1) → hard_again [] defs ≡ None
none-again defs few = again-none [] defs few
