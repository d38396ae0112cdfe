-- A program is good where something that holds at its opening and that every step keeps leaves no step undefined and no race.
use Rattle.std.proofs.Common.{ℕ, zero, suc, ◌≡◌, List, [], ◌∷◌, Option, Some, None, slice_get}
use Rattle.ir_core.specs.Module.{ModuleParts}
use Rattle.inst_meaning.specs.declared.actions.Cause.{Cause}
use Rattle.process.specs.declared.state.Step.{Step}
use Rattle.process.specs.declared.state.Step.TheVariants.{Undefined}
use Rattle.src_meaning.specs.State.{State}
use Rattle.src_meaning.specs.Step.{opening, step}
use Rattle.src_meaning.specs.Runs.{run_from}
use Rattle.src_meaning.specs.Races.{race_of, NoneUndefined, IsGood}

-- an answer isn't that a step is undefined
abbrev pub IsDefined : Step → Type 0
IsDefined answer = (cause : Cause) → answer ≡ Undefined cause → ⊥

module _ (m : ModuleParts) (arguments : List ℕ) (Reached : State → Type 0) (first : Reached (opening m arguments))
    (kept : (s : State) (t : ℕ) → Reached s → Reached (step m s t).0 × IsDefined (step m s t).1)
    (apart : (s : State) → Reached s → race_of m s ≡ None) where
  none-undefined : (turns : List ℕ) (s : State) → Reached s → NoneUndefined (run_from m s turns).answers
  none-undefined [] s r n cause e = cc
  none-undefined (t ∷ turns) s r zero cause e = (kept s t r).1 cause (cc)
  none-undefined (t ∷ turns) s r (suc n) cause e = none-undefined turns (step m s t).0 (kept s t r).0 n cause e

  reached : (turns : List ℕ) (s : State) → Reached s → Reached (run_from m s turns).state
  reached [] s r = r
  reached (t ∷ turns) s r = reached turns (step m s t).0 (kept s t r).0

  pub is-good : IsGood m arguments
  is-good = record {
    defined = λ turns. none-undefined turns (opening m arguments) first;
    race_free = λ turns. apart (run_from m (opening m arguments) turns).state (reached turns (opening m arguments) first);
  }
