-- Turns as maximal runs.
use Rattle.std.specs.Prelude.{ℕ, zero, suc, ◌+◌, ◌==◌, List, [], ◌∷◌, ◌++◌, if◌then◌else◌, replicate}
use Rattle.ir_core.specs.declared.types.Tid.{Tid}

-- a turn before turns that are grouped
abbrev pub grouped_with : ℕ → List (Tid × ℕ) → List (Tid × ℕ)
grouped_with t [] = (record { 0 = t }, 1) ∷ []
grouped_with t (run ∷ runs) = if t == run.0.0 then (run.0, suc run.1) ∷ runs else (record { 0 = t }, 1) ∷ run ∷ runs

-- the turns as maximal runs: a thread, and how often in a row it has its turn
abbrev pub grouped : List ℕ → List (Tid × ℕ)
grouped [] = []
grouped (t ∷ turns) = grouped_with t (grouped turns)

-- runs once a turn is added at their end
abbrev pub added : ℕ → List (Tid × ℕ) → List (Tid × ℕ)
added t [] = (record { 0 = t }, 1) ∷ []
added t (run ∷ []) = if t == run.0.0 then (run.0, suc run.1) ∷ [] else run ∷ (record { 0 = t }, 1) ∷ []
added t (run ∷ next ∷ runs) = run ∷ added t (next ∷ runs)

-- runs once the last of their turns is taken back
abbrev pub shorter : Tid × ℕ → List (Tid × ℕ)
shorter (t, zero) = []
shorter (t, suc zero) = []
shorter (t, suc (suc n)) = (t, suc n) ∷ []

abbrev pub shortened : List (Tid × ℕ) → List (Tid × ℕ)
shortened [] = []
shortened (run ∷ []) = shorter run
shortened (run ∷ next ∷ runs) = run ∷ shortened (next ∷ runs)

-- the turns for which runs of turns stand
abbrev pub turns_of : List (Tid × ℕ) → List ℕ
turns_of [] = []
turns_of (run ∷ runs) = replicate run.1 run.0.0 ++ turns_of runs

-- runs once so many turns of a thread are added at their end
abbrev pub added_run : ℕ → ℕ → List (Tid × ℕ) → List (Tid × ℕ)
added_run t zero runs = runs
added_run t (suc n) [] = (record { 0 = t }, suc n) ∷ []
added_run t (suc n) (run ∷ []) = if t == run.0.0 then (run.0, run.1 + suc n) ∷ [] else run ∷ (record { 0 = t }, suc n) ∷ []
added_run t (suc n) (run ∷ next ∷ runs) = run ∷ added_run t (suc n) (next ∷ runs)
