-- Globals that lie apart, and the last one that starts at an address or before it.
use Rattle.std.proofs.Common.{◌≡◌, ℕ, zero, suc, ◌+◌, ◌<◌, ◌≤◌, List, [], ◌∷◌, refl, sym, ap, subst, ◌∙◌, arith, true, false, ◌||◌, inl, inr}
use Rattle.std.specs.Prelude.{Bool, Some, slice_get, ◌⊎◌}
use Rattle.std.specs.List.{list_any}
use Rattle.std.proofs.lemmas.Bool.Decides.{nat_tests}
use Rattle.std.proofs.lemmas.Bool.{cases_lt}
use Rattle.ir_layout.specs.declared.spans.Span.{Span}
use Rattle.ir_layout.specs.Memory.{AreApart, IsStarted, end_of, lies_in, lies_in_global}

-- all up to one that starts at the address or before it do so
pub before-more : (globals : List Span) (address middle : ℕ) (m : Span) → AreApart globals → slice_get globals middle ≡ Some m → m.start ≤ address → (k : ℕ) (span : Span) → k < middle + 1 → slice_get globals k ≡ Some span → span.start ≤ address
before-more globals address middle m apart at low k span below here = by_place (cases_lt k middle)
  where
    by_place : (k < middle) ⊎ (middle ≤ k) → span.start ≤ address
    by_place (inl less) = let order : end_of span ≤ m.start = apart k middle span m less here at in omega arith
    by_place (inr same) = let e : k ≡ middle = omega arith in let f : Some span ≡ Some m = sym here ∙ ap (slice_get globals) e ∙ at in let g : span ≡ m = cc in subst (λ (s : Span). s.start ≤ address) (sym g) low

-- all from one on that starts behind the address do so
pub behind-more : (globals : List Span) (address middle : ℕ) (m : Span) → AreApart globals → slice_get globals middle ≡ Some m → address < m.start → (k : ℕ) (span : Span) → middle ≤ k → slice_get globals k ≡ Some span → address < span.start
behind-more globals address middle m apart at high k span above here = by_place (cases_lt middle k)
  where
    by_place : (middle < k) ⊎ (k ≤ middle) → address < span.start
    by_place (inl less) = let order : end_of m ≤ span.start = apart middle k m span less at here in omega arith
    by_place (inr same) = let e : k ≡ middle = omega arith in let f : Some span ≡ Some m = sym here ∙ ap (slice_get globals) e ∙ at in let g : span ≡ m = cc in subst (λ (s : Span). address < s.start) (sym g) high

-- one passes, or none does
any-at : (test : Span → Bool) (xs : List Span) (i : ℕ) (x : Span) → slice_get xs i ≡ Some x → test x ≡ true → list_any test xs ≡ true
any-at test [] i x at e = cc
any-at test (y ∷ ys) zero x at e = let same : y ≡ x = cc in ap (λ (b : Bool). b || list_any test ys) (ap test same ∙ e)
any-at test (y ∷ ys) (suc i) x at e = ap (λ (b : Bool). test y || b) (any-at test ys i x at e) ∙ or_true (test y)
  where
    or_true : (b : Bool) → (b || true) ≡ true
    or_true true = refl
    or_true false = refl

any-none : (test : Span → Bool) (xs : List Span) → ((k : ℕ) (x : Span) → slice_get xs k ≡ Some x → test x ≡ false) → list_any test xs ≡ false
any-none test [] none = refl
any-none test (y ∷ ys) none = ap (λ (b : Bool). b || list_any test ys) (none 0 y refl) ∙ any-none test ys (λ k x at. none (suc k) x at)

-- an access that begins before a global, or behind its end
lies-before : (span : Span) (address size : ℕ) → address < span.start → lies_in span.start span.size address size ≡ false
lies-before span address size less = grind (arith, nat_tests)

lies-behind : (span : Span) (address size : ℕ) → 0 < size → end_of span ≤ address → lies_in span.start span.size address size ≡ false
lies-behind span address size some past = grind (arith, nat_tests)

pub none-started : (globals : List Span) (address size count : ℕ) → IsStarted globals address count → count ≡ 0 → lies_in_global globals address size ≡ false
none-started globals address size count started none = any-none (λ (span : Span). lies_in span.start span.size address size) globals (λ k span at. lies-before span address size (started.behind k span (omega arith) at))

pub last-started : (globals : List Span) (address size count last : ℕ) (span : Span) → AreApart globals → 0 < size → IsStarted globals address count → last + 1 ≡ count → slice_get globals last ≡ Some span → lies_in_global globals address size ≡ lies_in span.start span.size address size
last-started globals address size count last span apart some started is at = by_test (lies_in span.start span.size address size) refl
  where
    others : lies_in span.start span.size address size ≡ false → (k : ℕ) (other : Span) → slice_get globals k ≡ Some other → lies_in other.start other.size address size ≡ false
    others not_here k other here = by_place (cases_lt k last) (cases_lt last k)
      where
        by_place : (k < last) ⊎ (last ≤ k) → (last < k) ⊎ (k ≤ last) → lies_in other.start other.size address size ≡ false
        by_place (inl less) above = let order : end_of other ≤ span.start = apart k last other span less here at in let from : span.start ≤ address = started.before last span (omega arith) at in lies-behind other address size some (omega arith)
        by_place (inr above) (inl more) = lies-before other address size (started.behind k other (omega arith) here)
        by_place (inr above) (inr below) = let e : k ≡ last = omega arith in let f : Some other ≡ Some span = sym here ∙ ap (slice_get globals) e ∙ at in let g : other ≡ span = cc in subst (λ (s : Span). lies_in s.start s.size address size ≡ false) (sym g) not_here

    by_test : (b : Bool) → lies_in span.start span.size address size ≡ b → lies_in_global globals address size ≡ lies_in span.start span.size address size
    by_test true e = any-at (λ (s : Span). lies_in s.start s.size address size) globals last span at e ∙ sym e
    by_test false e = any-none (λ (s : Span). lies_in s.start s.size address size) globals (others e) ∙ sym e
