-- Turns that are added at the end, as maximal runs.
use Rattle.std.proofs.Common.{ℕ, zero, suc, ◌≡◌, ◌+◌, ◌<◌, ◌≤◌, ◌==◌, List, [], ◌∷◌, ◌++◌, Bool, true, false, length, refl, ap, sym, ◌∙◌, arith, slice_set, slice_index_or, replicate, append_assoc, length-append, add-one, Option, Some, None, is_some, nat_lt, lt-ltb}
use Rattle.std.proofs.lemmas.List.{length-replicate, append-nil}
use Rattle.std.proofs.lemmas.Bool.{eqb-true, eqb-false, true≢false}
use Rattle.ir_core.specs.declared.types.Tid.{Tid}
use Rattle.turn_runs.specs.Runs.{grouped, grouped_with, turns_of, added}

abbrev pub tid : ℕ → Tid
tid t = record { 0 = t }

-- two numbers are tested for equality either way round
same_answers : (a b : ℕ) (p q : Bool) → (a == b) ≡ p → (b == a) ≡ q → p ≡ q
same_answers a b true true e f = refl
same_answers a b true false e f = absurd (eqb-false b a f (sym (eqb-true a b e)))
same_answers a b false true e f = absurd (eqb-false a b e (sym (eqb-true b a f)))
same_answers a b false false e f = refl

same_test : (a b : ℕ) → (a == b) ≡ (b == a)
same_test a b = same_answers a b (a == b) (b == a) refl refl

grouped_first : (x t : ℕ) (b : Bool) → (x == t) ≡ b → grouped_with x ((tid t, 1) ∷ []) ≡ added t ((tid x, 1) ∷ [])
grouped_first x t true e = rw (e, same_test t x, e) (ap (λ (n : ℕ). (tid n, 2) ∷ []) (sym (eqb-true x t e)))
grouped_first x t false e = rw (e, same_test t x, e) refl

grouped_one : (x t : ℕ) (run : Tid × ℕ) (b d : Bool) → (x == run.0.0) ≡ b → (t == run.0.0) ≡ d → grouped_with x (added t (run ∷ [])) ≡ added t (grouped_with x (run ∷ []))
grouped_one x t run true true e f = rw (f, e, f) refl
grouped_one x t run true false e f = rw (f, e, f) refl
grouped_one x t run false true e f = rw (f, e, f) refl
grouped_one x t run false false e f = rw (f, e, f) refl

grouped_more : (x t : ℕ) (run next : Tid × ℕ) (runs : List (Tid × ℕ)) (b : Bool) → (x == run.0.0) ≡ b → grouped_with x (run ∷ added t (next ∷ runs)) ≡ added t (grouped_with x (run ∷ next ∷ runs))
grouped_more x t run next runs true e = rw e refl
grouped_more x t run next runs false e = rw e refl

grouped_with-added : (x t : ℕ) (runs : List (Tid × ℕ)) → grouped_with x (added t runs) ≡ added t (grouped_with x runs)
grouped_with-added x t [] = grouped_first x t (x == t) refl
grouped_with-added x t (run ∷ []) = grouped_one x t run (x == run.0.0) (t == run.0.0) refl refl
grouped_with-added x t (run ∷ next ∷ runs) = grouped_more x t run next runs (x == run.0.0) refl

pub grouped-append : (ts : List ℕ) (t : ℕ) → grouped (ts ++ t ∷ []) ≡ added t (grouped ts)
grouped-append [] t = refl
grouped-append (x ∷ ts) t = ap (grouped_with x) (grouped-append ts t) ∙ grouped_with-added x t (grouped ts)

replicate-suc : (n t : ℕ) → replicate (suc n) t ≡ replicate n t ++ t ∷ []
replicate-suc zero t = refl
replicate-suc (suc n) t = ap (λ ts. t ∷ ts) (replicate-suc n t)

turns_of-one : (t : ℕ) (run : Tid × ℕ) (b : Bool) → (t == run.0.0) ≡ b → turns_of (added t (run ∷ [])) ≡ turns_of (run ∷ []) ++ t ∷ []
turns_of-one t run true e = rw e (simp append-nil (rw (eqb-true t run.0.0 e) (replicate-suc run.1 run.0.0)))
turns_of-one t run false e = rw e (simp append-nil)

pub turns_of-added : (t : ℕ) (runs : List (Tid × ℕ)) → turns_of (added t runs) ≡ turns_of runs ++ t ∷ []
turns_of-added t [] = refl
turns_of-added t (run ∷ []) = turns_of-one t run (t == run.0.0) refl
turns_of-added t (run ∷ next ∷ runs) = ap (λ ts. replicate run.1 run.0.0 ++ ts) (turns_of-added t (next ∷ runs)) ∙ sym (append_assoc (replicate run.1 run.0.0) (turns_of (next ∷ runs)) (t ∷ []))

-- the last run is made longer where it is one of the thread
pub added-same : (runs : List (Tid × ℕ)) (i t : ℕ) (run : Tid × ℕ) → suc i ≡ length runs → run ≡ slice_index_or runs i run → (t == run.0.0) ≡ true → slice_set runs i (run.0, run.1 + 1) ≡ added t runs
added-same [] i t run h e f = absurd (omega arith)
added-same (first ∷ []) zero t run h e f = rw (← e, f) (ap (λ n. (run.0, n) ∷ []) (add-one run.1))
added-same (first ∷ []) (suc i) t run h e f = absurd (omega arith)
added-same (first ∷ next ∷ runs) zero t run h e f = absurd (omega arith)
added-same (first ∷ next ∷ runs) (suc i) t run h e f = ap (λ rest. first ∷ rest) (added-same (next ∷ runs) i t run (omega arith) e f)

-- and else a run is added; the last one was read, and stays
pub added-other : (runs : List (Tid × ℕ)) (i t : ℕ) (run : Tid × ℕ) → suc i ≡ length runs → run ≡ slice_index_or runs i run → (t == run.0.0) ≡ false → slice_set runs i run ++ (tid t, 1) ∷ [] ≡ added t runs
added-other [] i t run h e f = absurd (omega arith)
added-other (first ∷ []) zero t run h e f = rw (← e, f) refl
added-other (first ∷ []) (suc i) t run h e f = absurd (omega arith)
added-other (first ∷ next ∷ runs) zero t run h e f = absurd (omega arith)
added-other (first ∷ next ∷ runs) (suc i) t run h e f = ap (λ rest. first ∷ rest) (added-other (next ∷ runs) i t run (omega arith) e f)

pub added-none : (runs : List (Tid × ℕ)) (t : ℕ) → length runs ≡ 0 → runs ++ (tid t, 1) ∷ [] ≡ added t runs
added-none [] t h = refl
added-none (run ∷ runs) t h = absurd (omega arith)

-- a run is no longer than all turns
pub run-le-length : (runs : List (Tid × ℕ)) (i : ℕ) (run : Tid × ℕ) → i < length runs → run ≡ slice_index_or runs i run → run.1 ≤ length (turns_of runs)
run-le-length [] i run h e = absurd (omega arith)
run-le-length (first ∷ runs) zero run h e = rw e (omega (arith, length-append (replicate first.1 first.0.0) (turns_of runs), length-replicate first.1 first.0.0))
run-le-length (first ∷ runs) (suc i) run h e = omega (arith, run-le-length runs i run (omega arith) e, length-append (replicate first.1 first.0.0) (turns_of runs))

-- no last run, so no runs
pub empty-unless-some : {X : Type 0} (found : Option X) (len : ℕ) → is_some found ≡ nat_lt 0 len → ((x : X) → found ≡ Some x → ⊥) → len ≡ 0
empty-unless-some None zero e h = refl
empty-unless-some None (suc len) e h = absurd (true≢false (sym (lt-ltb 0 (suc len) (omega arith)) ∙ sym e))
empty-unless-some (Some x) len e h = absurd (h x refl)

-- runs that are maximal are so once a turn is added
pub grouped-turns_of-added : (t : ℕ) (runs new : List (Tid × ℕ)) → runs ≡ grouped (turns_of runs) → new ≡ added t runs → new ≡ grouped (turns_of new)
grouped-turns_of-added t runs new h e =
    e ∙ ap (added t) h ∙ sym (grouped-append (turns_of runs) t) ∙ ap grouped (sym (turns_of-added t runs) ∙ ap turns_of (sym e))

-- grouped turns stand for the turns
turns_of-grouped_with : (t : ℕ) (runs : List (Tid × ℕ)) → turns_of (grouped_with t runs) ≡ t ∷ turns_of runs
turns_of-grouped_with t [] = refl
turns_of-grouped_with t (run ∷ runs) = turns_of-first t run runs (t == run.0.0) refl
  where
    turns_of-first : (t : ℕ) (run : Tid × ℕ) (runs : List (Tid × ℕ)) (b : Bool) → (t == run.0.0) ≡ b → turns_of (grouped_with t (run ∷ runs)) ≡ t ∷ turns_of (run ∷ runs)
    turns_of-first t run runs true e = rw e (ap (λ (n : ℕ). n ∷ replicate run.1 run.0.0 ++ turns_of runs) (sym (eqb-true t run.0.0 e)))
    turns_of-first t run runs false e = rw e refl

pub turns_of-grouped : (turns : List ℕ) → turns_of (grouped turns) ≡ turns
turns_of-grouped [] = refl
turns_of-grouped (t ∷ turns) = turns_of-grouped_with t (grouped turns) ∙ ap (λ ts. t ∷ ts) (turns_of-grouped turns)
