-- Turns of one thread that are added at the end all at once.
use Rattle.std.proofs.Common.{ℕ, zero, suc, ◌≡◌, ◌+◌, ◌≤◌, ◌==◌, List, [], ◌∷◌, ◌++◌, Bool, true, false, length, refl, ap, sym, ◌∙◌, arith, slice_set, slice_index_or, replicate, append_assoc}
use Rattle.std.proofs.lemmas.List.{append-nil}
use Rattle.std.proofs.lemmas.Bool.{eq-eqb}
use Rattle.ir_core.specs.declared.types.Tid.{Tid}
use Rattle.turn_runs.specs.Runs.{grouped, turns_of, added, added_run}
use Rattle.turn_runs.proofs.Grouping.{tid, grouped-append, turns_of-added}

-- one turn, and then the others
one-more : (t n : ℕ) (run : Tid × ℕ) (b : Bool) → (t == run.0.0) ≡ b → added_run t n (added t (run ∷ [])) ≡ added_run t (suc n) (run ∷ [])
one-more t zero run true e = rw e (ap (λ (k : ℕ). (run.0, k) ∷ []) (omega arith))
one-more t (suc n) run true e = rw (e, e) (ap (λ (k : ℕ). (run.0, k) ∷ []) (omega arith))
one-more t zero run false e = rw e refl
one-more t (suc n) run false e = rw (e, eq-eqb t t refl) (ap (λ (k : ℕ). run ∷ (tid t, k) ∷ []) (omega arith))

one-first : (t n : ℕ) → added_run t n (added t []) ≡ added_run t (suc n) []
one-first t zero = refl
one-first t (suc n) = rw (eq-eqb t t refl) (ap (λ (k : ℕ). (tid t, k) ∷ []) (omega arith))

behind : (t n : ℕ) (run : Tid × ℕ) (runs more : List (Tid × ℕ)) → added_run t n runs ≡ more → (first next : Tid × ℕ) (rest : List (Tid × ℕ)) → runs ≡ next ∷ rest
    → added_run t n (run ∷ runs) ≡ run ∷ more
behind t zero run runs more e first next rest f = ap (λ (list : List (Tid × ℕ)). run ∷ list) e
behind t (suc n) run runs more e first next rest f = rw f (ap (λ (list : List (Tid × ℕ)). run ∷ list) (ap (added_run t (suc n)) (sym f) ∙ e))

-- what is added is never nothing
some-added : (t : ℕ) (run : Tid × ℕ) (runs : List (Tid × ℕ)) → (next : Tid × ℕ) × (rest : List (Tid × ℕ)) × (added t (run ∷ runs) ≡ next ∷ rest)
some-added t run [] = by_test (t == run.0.0) refl
  where
    by_test : (b : Bool) → (t == run.0.0) ≡ b → (next : Tid × ℕ) × (rest : List (Tid × ℕ)) × (added t (run ∷ []) ≡ next ∷ rest)
    by_test true e = ((run.0, suc run.1), [], rw e refl)
    by_test false e = (run, (tid t, 1) ∷ [], rw e refl)
some-added t run (next ∷ runs) = (run, added t (next ∷ runs), refl)

then-others : (t n : ℕ) (runs : List (Tid × ℕ)) → added_run t n (added t runs) ≡ added_run t (suc n) runs
then-others t n [] = one-first t n
then-others t n (run ∷ []) = one-more t n run (t == run.0.0) refl
then-others t n (run ∷ next ∷ runs) =
    let some = some-added t next runs in
    behind t n run (added t (next ∷ runs)) (added_run t (suc n) (next ∷ runs)) (then-others t n (next ∷ runs)) run some.0 some.1 some.2

-- grouped turns
pub grouped-run : (ts : List ℕ) (t n : ℕ) → grouped (ts ++ replicate n t) ≡ added_run t n (grouped ts)
grouped-run ts t zero = ap grouped (append-nil ts)
grouped-run ts t (suc n) = ap grouped (sym (append_assoc ts (t ∷ []) (replicate n t))) ∙ grouped-run (ts ++ t ∷ []) t n ∙ ap (added_run t n) (grouped-append ts t)
    ∙ then-others t n (grouped ts)

pub turns_of-run : (t n : ℕ) (runs : List (Tid × ℕ)) → turns_of (added_run t n runs) ≡ turns_of runs ++ replicate n t
turns_of-run t zero runs = sym (append-nil (turns_of runs))
turns_of-run t (suc n) runs = ap turns_of (sym (then-others t n runs)) ∙ turns_of-run t n (added t runs) ∙ ap (λ (ts : List ℕ). ts ++ replicate n t) (turns_of-added t runs)
    ∙ append_assoc (turns_of runs) (t ∷ []) (replicate n t)

-- runs that are maximal are so afterwards
pub grouped-turns_of-run : (t n : ℕ) (runs new : List (Tid × ℕ)) → runs ≡ grouped (turns_of runs) → new ≡ added_run t n runs → new ≡ grouped (turns_of new)
grouped-turns_of-run t n runs new h e =
    e ∙ ap (added_run t n) h ∙ sym (grouped-run (turns_of runs) t n) ∙ ap grouped (sym (turns_of-run t n runs) ∙ ap turns_of (sym e))

-- the last run is made longer where it is one of the thread
run-same : (runs : List (Tid × ℕ)) (i t n : ℕ) (run : Tid × ℕ) → suc i ≡ length runs → run ≡ slice_index_or runs i run → (t == run.0.0) ≡ true
    → slice_set runs i (run.0, run.1 + suc n) ≡ added_run t (suc n) runs
run-same [] i t n run h e f = absurd (omega arith)
run-same (first ∷ []) zero t n run h e f = rw (← e, f) refl
run-same (first ∷ []) (suc i) t n run h e f = absurd (omega arith)
run-same (first ∷ next ∷ runs) zero t n run h e f = absurd (omega arith)
run-same (first ∷ next ∷ runs) (suc i) t n run h e f = ap (λ rest. first ∷ rest) (run-same (next ∷ runs) i t n run (omega arith) e f)

-- and else a run is added; the last one was read, and stays
run-other : (runs : List (Tid × ℕ)) (i t n : ℕ) (run : Tid × ℕ) → suc i ≡ length runs → run ≡ slice_index_or runs i run → (t == run.0.0) ≡ false
    → slice_set runs i run ++ (tid t, suc n) ∷ [] ≡ added_run t (suc n) runs
run-other [] i t n run h e f = absurd (omega arith)
run-other (first ∷ []) zero t n run h e f = rw (← e, f) refl
run-other (first ∷ []) (suc i) t n run h e f = absurd (omega arith)
run-other (first ∷ next ∷ runs) zero t n run h e f = absurd (omega arith)
run-other (first ∷ next ∷ runs) (suc i) t n run h e f = ap (λ rest. first ∷ rest) (run-other (next ∷ runs) i t n run (omega arith) e f)

run-none : (runs : List (Tid × ℕ)) (t n : ℕ) → length runs ≡ 0 → runs ++ (tid t, suc n) ∷ [] ≡ added_run t (suc n) runs
run-none [] t n h = refl
run-none (run ∷ runs) t n h = absurd (omega arith)

-- by any count
pub count-same : (runs : List (Tid × ℕ)) (i t count : ℕ) (run : Tid × ℕ) → 1 ≤ count → suc i ≡ length runs → run ≡ slice_index_or runs i run → (t == run.0.0) ≡ true
    → slice_set runs i (run.0, run.1 + count) ≡ added_run t count runs
count-same runs i t zero run some h e f = absurd (omega (arith, some))
count-same runs i t (suc n) run some h e f = run-same runs i t n run h e f

pub count-other : (runs : List (Tid × ℕ)) (i t count : ℕ) (run : Tid × ℕ) → 1 ≤ count → suc i ≡ length runs → run ≡ slice_index_or runs i run → (t == run.0.0) ≡ false
    → slice_set runs i run ++ (tid t, count) ∷ [] ≡ added_run t count runs
count-other runs i t zero run some h e f = absurd (omega (arith, some))
count-other runs i t (suc n) run some h e f = run-other runs i t n run h e f

pub count-none : (runs : List (Tid × ℕ)) (t count : ℕ) → 1 ≤ count → length runs ≡ 0 → runs ++ (tid t, count) ∷ [] ≡ added_run t count runs
count-none runs t zero some h = absurd (omega (arith, some))
count-none runs t (suc n) some h = run-none runs t n h
