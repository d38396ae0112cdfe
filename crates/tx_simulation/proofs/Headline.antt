-- The headline over transactions and upsets, from the lemma on turns; by numbers and by names.
use Rattle.std.proofs.Common.{◌↔◌, List, None, Option, Some, ap, refl, slice_get, subst, true, ℕ, ◌∙◌, ◌∷◌, ◌≡◌, []}
use Rattle.std.proofs.lemmas.Option.{slice_get-map}
use Rattle.std.specs.List.{list_all}
use Rattle.std.specs.Option.{option_map}
use Rattle.ir_core.proofs.Lengths.{both_true}
use Rattle.ir_core.specs.Module.{ModuleParts}
use Rattle.ir_check.specs.Faults.{IsAccepted}
use Rattle.process.specs.declared.state.Step.{Step}
use Rattle.src_meaning.specs.Races.{IsGood}
use Rattle.src_meaning.specs.Runs.{source}
use Rattle.hard_ir.specs.Hardened.{HardParts, head_of, heads_of}
use Rattle.hard_ir.specs.Images.{IsLooseImage, IsNamedImage}
use Rattle.hard_frames.specs.declared.outcome.Stop.TheVariants.{End}
use Rattle.hard_laws.proofs.ImageRows.{image-loose}
use Rattle.hard_frames.specs.declared.outcome.Stop.{Stop}
use Rattle.hard_machine.specs.Runs.{is_no_upset}
use Rattle.hard_simulation.specs.Meaning.{AllWent, IsFailure, IsUpsetFree, code_of}
use Rattle.hard_meaning.specs.Records.{records_from}
use Rattle.hard_meaning.specs.Runs.{RunParts, happened, happens, run_from, run_on, unless_stopped}
use Rattle.hard_meaning.specs.State.{State, Upset, opening}
use Rattle.tx_simulation.proofs.Events.{TurnsKept}
use Rattle.tx_simulation.proofs.Growing.{abort-upsets, turn-upsets}
use Rattle.tx_simulation.proofs.Results.{gone-runs, meant-runs}
use Rattle.tx_simulation.proofs.ThreadTurns.{turn-kept}
use Rattle.tx_simulation.specs.Meaning.{AreCovered, AreGone, Means}
use Rattle.renamed_modules.proofs.RenamedAccepted.{accepted-where-few}
use Rattle.renamed_modules.proofs.SameModules.{same-answers, same-good, same-outputs}
use Rattle.renamed_modules.specs.Numbered.{AreNumbered, HasFewNames}
use Rattle.sched_file.specs.Events.{AbortOf, Happening, TurnOf, UpsetBy}
use Rattle.turn_runs.specs.Runs.{turns_of}

module _ (m : ModuleParts) (h : HardParts) (arguments : List ℕ) (accepted : IsAccepted m) (image : IsLooseImage m h) (good : IsGood m arguments) where
  turns-kept : TurnsKept m h arguments
  turns-kept s workers turns upsets facts t = turn-kept m h arguments good accepted image s workers turns upsets facts t

  pub meant : (events : List Happening) → AreCovered (run_on h arguments events).upsets → Means m arguments (run_on h arguments events)
  meant events covered = meant-runs m h arguments turns-kept image accepted events covered

  pub never-fails : (events : List Happening) → AreGone (run_on h arguments events).upsets → IsFailure (run_on h arguments events).stop → ⊥
  never-fails events gone failed = gone-runs m h arguments turns-kept image accepted events gone failed

-- ---- without upsets

unstruck-event : (h : HardParts) (s : State) (event : Happening) → is_no_upset event ≡ true → (happened h s event).upsets ≡ s.upsets
unstruck-event h s event none = by_stop s.stop (by_event event none)
  where
    by_event : (event : Happening) → is_no_upset event ≡ true → (happens h s event).upsets ≡ s.upsets
    by_event (TurnOf thread) none = turn-upsets h s thread.0
    by_event (AbortOf thread) none = abort-upsets s thread.0 (slice_get s.workers thread.0)
    by_event (UpsetBy upset) none = cc

    by_stop : (o : Option Stop) → (happens h s event).upsets ≡ s.upsets → (unless_stopped o s (happens h s event)).upsets ≡ s.upsets
    by_stop None e = e
    by_stop (Some stop) e = refl

unstruck-run : (h : HardParts) (s : State) (events : List Happening) → IsUpsetFree events → (run_from h s events).upsets ≡ s.upsets
unstruck-run h s [] free = refl
unstruck-run h s (event ∷ events) free =
    let both = both_true (is_no_upset event) (list_all is_no_upset events) free in
    unstruck-run h (happened h s event) events both.1 ∙ unstruck-event h s event both.0

-- without upsets there are no records
pub unstruck : (h : HardParts) (arguments : List ℕ) (events : List Happening) → IsUpsetFree events → (run_on h arguments events).upsets ≡ []
unstruck h arguments events free =
    ap (λ (upsets : List Upset). records_from (run_from h (opening h arguments) events).workers 0 upsets) (unstruck-run h (opening h arguments) events free)

-- ---- by names

-- what it says of a module, it says of one with the same answers and outputs
pub means-again : (m other : ModuleParts) (arguments : List ℕ) (r : RunParts)
    → ((turns : List ℕ) → (source other arguments turns).answers ≡ (source m arguments turns).answers)
    → ((turns : List ℕ) → (source other arguments turns).state.process.world.outputs ≡ (source m arguments turns).state.process.world.outputs)
    → Means other arguments r → Means m arguments r
means-again m other arguments r answers outputs means = record {
  went = subst (λ (list : List Step). AllWent list) (answers (turns_of r.turns)) means.went;
  outputs = means.outputs ∙ outputs (turns_of r.turns);
  ends = λ code. subst (λ (list : List Step). (r.stop ≡ End code) ↔ (code_of list ≡ Some code)) (answers (turns_of r.turns)) (means.ends code);
  fails = means.fails;
}

few-of-heads : (m : ModuleParts) (h : HardParts) → h.heads ≡ heads_of m → HasFewNames h.heads → HasFewNames m
few-of-heads m h heads few n f at = few n (head_of f)
    (ap (λ (p : ModuleParts). slice_get p.funcs n) heads ∙ slice_get-map head_of m.funcs n ∙ ap (option_map head_of) at)

module _ (m : ModuleParts) (h : HardParts) (arguments : List ℕ) (accepted : IsAccepted m) (numbered : AreNumbered m) (image : IsNamedImage m h)
    (few : HasFewNames h.heads) (good : IsGood m arguments) where
  other-accepted : IsAccepted image.source
  other-accepted = accepted-where-few m image.source image.same numbered accepted (few-of-heads image.source h image.image.heads few)

  other-good : IsGood image.source arguments
  other-good = same-good m image.source image.same numbered arguments good

  other-image : IsLooseImage image.source h
  other-image = image-loose image.source h image.image

  pub named-meant : (events : List Happening) → AreCovered (run_on h arguments events).upsets → Means m arguments (run_on h arguments events)
  named-meant events covered = means-again m image.source arguments (run_on h arguments events)
      (λ turns. same-answers m image.source image.same numbered arguments turns) (λ turns. same-outputs m image.source image.same numbered arguments turns)
      (meant image.source h arguments other-accepted other-image other-good events covered)
