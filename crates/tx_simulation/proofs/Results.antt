-- What a run comes to: what holds at its end says that its result stands for the source, unless an upset struck that isn't covered.
use Rattle.std.proofs.Common.{ℕ, suc, ◌≡◌, ◌↔◌, Bool, true, false, ◌||◌, List, [], ◌∷◌, Option, Some, None, refl, ap, sym, subst}
use Rattle.std.specs.Prelude.{unwrap_or}
use Rattle.std.specs.List.{list_all, list_any}
use Rattle.ir_core.proofs.Lengths.{both_true}
use Rattle.ir_core.specs.Module.{ModuleParts}
use Rattle.ir_check.specs.Faults.{IsAccepted}
use Rattle.ir_check.proofs.Members.{any-in}
use Rattle.src_meaning.specs.State.{State as SourceState}
use Rattle.src_meaning.specs.Runs.{source}
use Rattle.sched_file.specs.Events.{Happening}
use Rattle.turn_runs.specs.Runs.{turns_of}
use Rattle.turn_runs.proofs.Grouping.{turns_of-grouped}
use Rattle.hard_ir.specs.Hardened.{HardParts}
use Rattle.hard_ir.specs.Images.{IsLooseImage}
use Rattle.hard_frames.specs.declared.outcome.Stop.{Stop}
use Rattle.hard_frames.specs.declared.outcome.Stop.TheVariants.{End, Bound, Fail, Trap}
use Rattle.hard_simulation.specs.Meaning.{AllWent, code_of, IsFailure}
use Rattle.hard_meaning.specs.State.{Worker, Upset, Nowhere, OnAnother, InWindow, Struck, State, opening}
use Rattle.hard_meaning.specs.Records.{Record, Missed, Window, Hit, Undone, Stacked, record_of, records_from, records}
use Rattle.hard_meaning.specs.Runs.{RunParts, run_from, result_of, run_on}
use Rattle.tx_simulation.specs.Meaning.{is_covered, is_hit, AreCovered, AreGone, SomeHit, Means}
use Rattle.tx_simulation.proofs.Facts.{machine_of}
use Rattle.tx_simulation.proofs.Holds.{is_broken, end_of, IsHit, IsOver, Holds, Runs, Over, Broken}
use Rattle.tx_simulation.proofs.Strikes.{record-hit}
use Rattle.tx_simulation.proofs.Events.{TurnsKept, run-kept}

-- ---- records

-- an upset of which nothing is said isn't covered
broken-record : (workers : List Worker) (k : ℕ) (upset : Upset) → is_broken upset ≡ true → is_covered (record_of workers k upset) ≡ true → ⊥
broken-record workers k Nowhere e f = cc
broken-record workers k OnAnother e f = cc
broken-record workers k InWindow e f = cc
broken-record workers k Struck e f = cc

broken-records : (workers : List Worker) (first : ℕ) (upsets : List Upset) → list_any is_broken upsets ≡ true → AreCovered (records_from workers first upsets) → ⊥
broken-records workers first [] e covered = cc
broken-records workers first (upset ∷ upsets) e covered =
    let both = both_true (is_covered (record_of workers first upset)) (list_all is_covered (records_from workers (suc first) upsets)) covered in
    by_test (is_broken upset) (λ f. broken-record workers first upset f both.0) (λ f. broken-records workers (suc first) upsets f both.1) e
  where
    by_test : (b : Bool) → (b ≡ true → ⊥) → (list_any is_broken upsets ≡ true → ⊥) → (b || list_any is_broken upsets) ≡ true → ⊥
    by_test true here later f = here refl
    by_test false here later f = later f

some-hit : (now : State) → IsHit now → SomeHit (records now)
some-hit now hit = any-in is_hit Hit (records now) (hit.number, record-hit now.workers now.upsets hit.thread hit.number hit.worker hit.there hit.carried hit.struck) refl

hit-gone : (rs : List Record) → AreGone rs → SomeHit rs → ⊥
hit-gone [] gone hit = cc
hit-gone (Missed ∷ rs) gone hit = hit-gone rs gone hit
hit-gone (Undone ∷ rs) gone hit = hit-gone rs gone hit
hit-gone (Window ∷ rs) gone hit = cc
hit-gone (Hit ∷ rs) gone hit = cc
hit-gone (Stacked ∷ rs) gone hit = cc

-- where nothing of an upset is left, the machine doesn't fail
pub gone-goes : (m : ModuleParts) (arguments : List ℕ) (r : RunParts) → Means m arguments r → AreGone r.upsets → IsFailure r.stop → ⊥
gone-goes m arguments r means gone failed = hit-gone r.upsets gone (means.fails failed)

gone-covered : (rs : List Record) → AreGone rs → AreCovered rs
gone-covered [] gone = refl
gone-covered (Missed ∷ rs) gone = gone-covered rs gone
gone-covered (Undone ∷ rs) gone = gone-covered rs gone
gone-covered (Window ∷ rs) gone = absurd cc
gone-covered (Hit ∷ rs) gone = absurd cc
gone-covered (Stacked ∷ rs) gone = absurd cc

-- ---- results

bound-alone : (n : ℕ) → (Bound ≡ End n) ↔ (None ≡ Some n)
bound-alone n = (λ e. absurd cc, λ e. absurd cc)

same-end : (stop : Stop) (n : ℕ) → (stop ≡ End n) ↔ (end_of stop ≡ Some n)
same-end (End code) n = (λ e. cc, λ e. cc)
same-end Bound n = bound-alone n
same-end (Fail tid place) n = (λ e. absurd cc, λ e. absurd cc)
same-end (Trap tid place) n = (λ e. absurd cc, λ e. absurd cc)

module _ (m : ModuleParts) (h : HardParts) (arguments : List ℕ) where
  means-of : (r : RunParts) (turns : List ℕ) → turns_of r.turns ≡ turns → AllWent (source m arguments turns).answers
      → r.outs ≡ (source m arguments turns).state.process.world.outputs
      → ((code : ℕ) → (r.stop ≡ End code) ↔ (code_of (source m arguments turns).answers ≡ Some code)) → (IsFailure r.stop → SomeHit r.upsets)
      → Means m arguments r
  means-of r turns e went outputs ends fails = record
      { went = rw e went; outputs = rw e outputs; ends = λ code. rw e (ends code); fails = fails }

  over-means : (last : State) (stop : Stop) → last.stop ≡ Some stop → IsOver m arguments last stop → Means m arguments (result_of last)
  over-means last stop e over =
      let stopped : unwrap_or last.stop Bound ≡ stop = ap (λ (o : Option Stop). unwrap_or o Bound) e in
      means-of (result_of last) last.turns (turns_of-grouped last.turns) over.went over.outputs (λ n. rw (stopped, over.ends) (same-end stop n))
      (λ failed. some-hit last (over.hit (subst IsFailure stopped failed)))

  -- what holds at the end of a run
  pub means-last : (last : State) → Holds m h arguments last → AreCovered (records last) → Means m arguments (result_of last)
  means-last last (Runs s workers turns upsets is facts) covered =
      rw is (means-of (result_of (machine_of s workers turns upsets)) turns (turns_of-grouped turns) facts.went
      (sym (ap (λ (state : SourceState). state.process.world.outputs) facts.state)) (λ n. rw facts.unended (bound-alone n)) (λ failed. absurd failed))
  means-last last (Over stop e over) covered = over-means last stop e over
  means-last last (Broken broken) covered = absurd (broken-records last.workers 0 last.upsets broken covered)

  -- a run whose upsets are covered stands for the source run on its turns
  pub meant-runs : TurnsKept m h arguments → IsLooseImage m h → IsAccepted m → (events : List Happening) → AreCovered (run_on h arguments events).upsets
      → Means m arguments (run_on h arguments events)
  meant-runs turns_kept image accepted events covered =
      means-last (run_from h (opening h arguments) events) (run-kept m h arguments turns_kept image accepted events) covered

  -- and where nothing of an upset is left, it neither fails a check nor traps
  pub gone-runs : TurnsKept m h arguments → IsLooseImage m h → IsAccepted m → (events : List Happening) → AreGone (run_on h arguments events).upsets
      → IsFailure (run_on h arguments events).stop → ⊥
  gone-runs turns_kept image accepted events gone = gone-goes m arguments (run_on h arguments events)
      (meant-runs turns_kept image accepted events (gone-covered (run_on h arguments events).upsets gone)) gone
