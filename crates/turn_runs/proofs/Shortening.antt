-- The last of turns that are grouped is taken back.
use Rattle.std.proofs.Common.{ℕ, zero, suc, ◌≡◌, ◌+◌, ◌-◌, ◌<◌, ◌≤◌, ◌==◌, List, [], ◌∷◌, ◌++◌, Bool, true, false, length, get_or, take, slice_set, slice_index_or, refl, ap, sym, ◌∙◌, arith}
use Rattle.std.proofs.lemmas.List.{take_all, take_more}
use Rattle.ir_core.specs.declared.types.Tid.{Tid}
use Rattle.turn_runs.specs.Runs.{grouped, grouped_with, turns_of, added, shorter, shortened}
use Rattle.turn_runs.proofs.Grouping.{grouped-append, turns_of-grouped}

-- the last run is made shorter, or is taken off
shorter-less : (run : Tid × ℕ) → 1 < run.1 → (run.0, run.1 - 1) ∷ [] ≡ shorter run
shorter-less (t, zero) h = absurd (omega arith)
shorter-less (t, suc zero) h = absurd (omega arith)
shorter-less (t, suc (suc n)) h = let e : suc (suc n) - 1 ≡ suc n = omega arith in ap (λ (k : ℕ). (t, k) ∷ []) e

shorter-none : (run : Tid × ℕ) → run.1 ≤ 1 → [] ≡ shorter run
shorter-none (t, zero) h = refl
shorter-none (t, suc zero) h = refl
shorter-none (t, suc (suc n)) h = absurd (omega arith)

pub shortened-less : (runs : List (Tid × ℕ)) (i : ℕ) (run : Tid × ℕ) → suc i ≡ length runs → run ≡ slice_index_or runs i run → 1 < run.1 → slice_set runs i (run.0, run.1 - 1) ≡ shortened runs
shortened-less [] i run h e p = absurd (omega arith)
shortened-less (first ∷ []) zero run h e p = shorter-less run p ∙ ap shorter e
shortened-less (first ∷ []) (suc i) run h e p = absurd (omega arith)
shortened-less (first ∷ next ∷ runs) zero run h e p = absurd (omega arith)
shortened-less (first ∷ next ∷ runs) (suc i) run h e p = ap (λ rest. first ∷ rest) (shortened-less (next ∷ runs) i run (omega arith) e p)

pub shortened-none : (runs : List (Tid × ℕ)) (i : ℕ) (run : Tid × ℕ) → suc i ≡ length runs → run ≡ slice_index_or runs i run → run.1 ≤ 1 → take i runs ≡ shortened runs
shortened-none [] i run h e p = absurd (omega arith)
shortened-none (first ∷ []) zero run h e p = shorter-none run p ∙ ap shorter e
shortened-none (first ∷ []) (suc i) run h e p = absurd (omega arith)
shortened-none (first ∷ next ∷ runs) zero run h e p = absurd (omega arith)
shortened-none (first ∷ next ∷ runs) (suc i) run h e p = ap (λ rest. first ∷ rest) (shortened-none (next ∷ runs) i run (omega arith) e p)

-- each run has a turn
abbrev Positive : List (Tid × ℕ) → Type 0
Positive [] = Unit {0}
Positive (run ∷ runs) = (1 ≤ run.1) × Positive runs

positive_with : (t : ℕ) (runs : List (Tid × ℕ)) → Positive runs → Positive (grouped_with t runs)
positive_with t [] p = (omega arith, tt)
positive_with t (run ∷ runs) p = by_thread (t == run.0.0) refl
  where
    by_thread : (b : Bool) → (t == run.0.0) ≡ b → Positive (grouped_with t (run ∷ runs))
    by_thread true e = rw e (omega arith, p.1)
    by_thread false e = rw e (omega arith, p)

positive : (turns : List ℕ) → Positive (grouped turns)
positive [] = tt
positive (t ∷ turns) = positive_with t (grouped turns) (positive turns)

-- a run that got one turn more
shorter-more : (t : Tid) (n : ℕ) → 1 ≤ n → shorter (t, suc n) ≡ (t, n) ∷ []
shorter-more t zero h = absurd (omega arith)
shorter-more t (suc n) h = refl

shortened-one : (t : ℕ) (run : Tid × ℕ) (b : Bool) → (t == run.0.0) ≡ b → 1 ≤ run.1 → shortened (added t (run ∷ [])) ≡ run ∷ []
shortened-one t run true e h = rw e (shorter-more run.0 run.1 h)
shortened-one t run false e h = rw e refl

shortened-under : (t : ℕ) (run next : Tid × ℕ) (runs : List (Tid × ℕ)) (b : Bool) → (t == next.0.0) ≡ b → shortened (run ∷ added t (next ∷ runs)) ≡ run ∷ shortened (added t (next ∷ runs))
shortened-under t run next [] true e = rw e refl
shortened-under t run next [] false e = rw e refl
shortened-under t run next (other ∷ runs) b e = refl

shortened-added : (t : ℕ) (runs : List (Tid × ℕ)) → Positive runs → shortened (added t runs) ≡ runs
shortened-added t [] p = refl
shortened-added t (run ∷ []) p = shortened-one t run (t == run.0.0) refl p.0
shortened-added t (run ∷ next ∷ runs) p = shortened-under t run next runs (t == next.0.0) refl ∙ ap (λ rest. run ∷ rest) (shortened-added t (next ∷ runs) p.1)

shortened-grouped : (turns : List ℕ) → shortened (grouped turns) ≡ grouped (take (length turns - 1) turns)
shortened-grouped [] = refl
shortened-grouped (t ∷ turns) =
    let all : List ℕ = t ∷ turns in
    let n : ℕ = length turns in
    let whole : all ≡ take n all ++ get_or all n 0 ∷ [] = sym (take_all (n + 1) all (omega arith)) ∙ take_more all n 0 (omega arith) in
    let fewer : n ≡ length all - 1 = omega arith in
    ap (λ (us : List ℕ). shortened (grouped us)) whole
    ∙ ap shortened (grouped-append (take n all) (get_or all n 0))
    ∙ shortened-added (get_or all n 0) (grouped (take n all)) (positive (take n all))
    ∙ ap (λ (k : ℕ). grouped (take k all)) fewer

pub shortened-turns : (runs new : List (Tid × ℕ)) → runs ≡ grouped (turns_of runs) → new ≡ shortened runs → new ≡ grouped (take (length (turns_of runs) - 1) (turns_of runs))
shortened-turns runs new h e = e ∙ ap shortened h ∙ shortened-grouped (turns_of runs)

-- they stand for all turns but the last, and are maximal
pub turns_of-shortened : (runs new : List (Tid × ℕ)) → runs ≡ grouped (turns_of runs) → new ≡ shortened runs → turns_of new ≡ take (length (turns_of runs) - 1) (turns_of runs)
turns_of-shortened runs new h e = ap turns_of (shortened-turns runs new h e) ∙ turns_of-grouped (take (length (turns_of runs) - 1) (turns_of runs))

pub grouped-shortened : (runs new : List (Tid × ℕ)) → runs ≡ grouped (turns_of runs) → new ≡ shortened runs → new ≡ grouped (turns_of new)
grouped-shortened runs new h e = shortened-turns runs new h e ∙ ap grouped (sym (turns_of-shortened runs new h e))
