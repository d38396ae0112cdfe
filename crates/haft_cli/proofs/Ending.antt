-- What the clauses of the top call say, by what was read and what was written.
use Rattle.std.proofs.Common.{ℕ, ◌≡◌, ◌≤◌, ◌⊎◌, inl, inr, List, Option, Some, Result, Ok, Err, IfOk, IfErr, IsTrue, length, refl, sym, ap, subst, ◌∙◌}
use Rattle.std.specs.Option.{ForSome}
use Rattle.std.specs.declared.alloc.Global.{Global}
use Rattle.std.specs.declared.vec.Vec.{Vec}
use Rattle.haft_io.specs.declared.device.Which.{Which}
use Rattle.haft_io.specs.declared.device.Which.TheVariants.{First, Second}
use Rattle.haft_io.specs.Device.{Puts, PutsPart}
use Rattle.ir_core.specs.Module.{ModuleParts}
use Rattle.sched_file.specs.Schedule.{ScheduleParts}
use Rattle.sched_file.specs.Events.{events_of}
use Rattle.src_meaning.specs.Races.{IsGood}
use Rattle.hard_ir.specs.Hardened.{harden}
use Rattle.hard_simulation.specs.Meaning.{IsFailure}
use Rattle.tx_simulation.specs.Meaning.{AreCovered, AreGone, Means}
use Rattle.tx_simulation.proofs.Headline.{meant, never-fails}
use Rattle.haft_run.proofs.Images.{hardened-is-loose}
use Rattle.haft_cli.specs.declared.command.Command.{Command}
use Rattle.haft_cli.specs.declared.refusal.Stopped.{Stopped}
use Rattle.haft_cli.specs.declared.refusal.Stopped.TheVariants as stopped
use Rattle.haft_cli.specs.declared.top.Status.{Status}
use Rattle.haft_cli.specs.declared.top.Status.TheVariants as status
use Rattle.haft_cli.specs.Table.{is_read, Answer, Report, Refused, Row, row_of, result_on}
use Rattle.haft_cli.specs.Answers.{IsWithin, Works, Answers, LongFirst, LongSecond, Within}
use Rattle.haft_cli.specs.Outcome.{Files, Outcome, bytes_of, status_of, Ends, FailsToRead, AreKnown, AreCalm, AsksRun}
use Rattle.haft_cli.specs.Work.{FailsAt, Stops, WritesOrFails, Tells}
use Rattle.haft_cli.proofs.Known.{same_some}
use Rattle.haft_cli.proofs.OneAnswer.{one_work, one_answer, work_on, answers_on}

-- ---- a run

module _ (asked : Option Command) (left : Which → Option (List ℕ)) (m : ModuleParts) (s : ScheduleParts) (run : AsksRun asked left m s) (good : IsGood m s.args) where
  pub meant_of : AreCovered (result_on m s).upsets → Means m s.args (result_on m s)
  meant_of covered = meant m (harden m) s.args run.checks.accepted (hardened-is-loose m) good (events_of s.lines) covered

  pub never_fails_of : AreGone (result_on m s).upsets → IsFailure (result_on m s).stop → ⊥
  never_fails_of gone failed = never-fails m (harden m) s.args run.checks.accepted (hardened-is-loose m) good (events_of s.lines) gone failed

-- ---- known files

module _ (row : Row) (old new : Files) (first second : List ℕ) (known : AreKnown row old.left first second) where
  answer_for : (answer other : Answer) → Outcome row old new answer → Answers row first second other → answer ≡ other
  answer_for answer other out answers =
      one_answer row first second answer other
      (answers_on row out.first out.second first second answer (λ r. out.held First r first (known First r)) (λ r within. out.held Second r second (known Second (r, within))) out.answers) answers

  -- a report is of files that aren't too long
  within_first : (text : List ℕ) → Answers row first second (Report text) → IsWithin row.first first
  within_first text (LongFirst l e) = absurd cc
  within_first text (LongSecond w l e) = w
  within_first text (Within w v work) = w

  of_report : (f s text : List ℕ) → Answers row f s (Report text) → IsWithin row.first f × Works row f s (Report text)
  of_report f s text (LongFirst l e) = absurd cc
  of_report f s text (LongSecond w l e) = absurd cc
  of_report f s text (Within w v work) = (w, work)

  report_for : (text other : List ℕ) → Outcome row old new (Report text) → Works row first second (Report other) → text ≡ other
  report_for text other out work =
      let same_first : IsTrue (is_read row.first) → out.first ≡ first = λ r. out.held First r first (known First r) in
      let parts = of_report out.first out.second text out.answers in
      let within : IsWithin row.first first = λ r. subst (λ (bytes : List ℕ). length bytes ≤ 4194304) (same_first r) (parts.0 r) in
      let moved : Works row first second (Report text) =
      work_on row out.first out.second first second (Report text) same_first (λ r. out.held Second r second (known Second (r, within))) parts.1 in
      let same : Report text ≡ Report other = one_work row first second (Report text) (Report other) moved work in
      cc

-- ---- what was written

-- how a call for a row ended: an answer was written, or a part of it, or a file couldn't be read, or memory ran out
pub data Ending (row : Row) (old new : Files) (answer : Status) (before after : Option (List ℕ)) (rose : Type 0) : Type 0 where
  Wrote : (given : Answer) → Outcome row old new given → answer ≡ status_of given → Puts before (bytes_of given) after → Ending row old new answer before after rose
  Broke : (given : Answer) → Outcome row old new given → answer ≡ status.WriteFault → rose → PutsPart before (bytes_of given) after → Ending row old new answer before after rose
  Unread : FailsAt row old new → answer ≡ status.ReadFault → Ending row old new answer before after rose
  Starved : answer ≡ status.NoMemory → Ending row old new answer before after rose

module _ (row : Row) (old new : Files) (answer : Status) (before after : Option (List ℕ)) (rose : Type 0) where
  of_write : (given : Answer) → Outcome row old new given → WritesOrFails (bytes_of given) (status_of given) answer before after rose → Ending row old new answer before after rose
  of_write given out (inl w) = Wrote given out w.0 w.1
  of_write given out (inr w) = Broke given out w.0 w.1 w.2

  pub ending : (report : Result (Vec ℕ Global) Stopped) → IfOk report (λ text. Outcome row old new (Report text.items)) → IfErr report (Stops row old new)
      → Tells report answer before after rose → Ending row old new answer before after rose
  ending (Ok text) out stops tells = of_write (Report text.items) out tells
  ending (Err (stopped.Refused refusal)) out stops (inl w) = of_write (Refused refusal) stops w
  ending (Err (stopped.Refused refusal)) out stops (inr e) = Starved e
  ending (Err stopped.ReadFault) out stops e = Unread stops e
  ending (Err stopped.NoMemory) out stops e = Starved e

  pub ends_of : Ending row old new answer before after rose → Ends row old new answer before after
  ends_of (Wrote (Report text) out e puts) =
      subst (λ (s : Status). Ends row old new s before after) (sym e) (text, record { outcome = out; written = puts })
  ends_of (Wrote (Refused refusal) out e puts) =
      subst (λ (s : Status). Ends row old new s before after) (sym e) (refusal, record { outcome = out; written = puts })
  ends_of (Broke given out e r part) =
      subst (λ (s : Status). Ends row old new s before after) (sym e) (record { answer = given; outcome = out; written = part })
  ends_of (Unread fails e) = subst (λ (s : Status). Ends row old new s before after) (sym e) tt
  ends_of (Starved e) = subst (λ (s : Status). Ends row old new s before after) (sym e) tt

  not_wrote : (given : Answer) (other : Status) → answer ≡ status_of given → answer ≡ other → (other ≡ status.ReadFault) ⊎ (other ≡ status.WriteFault) → ⊥
  not_wrote (Report text) other e f (inl k) = let clash : status.Done ≡ status.ReadFault = sym e ∙ f ∙ k in absurd cc
  not_wrote (Report text) other e f (inr k) = let clash : status.Done ≡ status.WriteFault = sym e ∙ f ∙ k in absurd cc
  not_wrote (Refused refusal) other e f (inl k) = let clash : status.Refused ≡ status.ReadFault = sym e ∙ f ∙ k in absurd cc
  not_wrote (Refused refusal) other e f (inr k) = let clash : status.Refused ≡ status.WriteFault = sym e ∙ f ∙ k in absurd cc

  pub read_failed : Ending row old new answer before after rose → answer ≡ status.ReadFault → FailsToRead row old.faults new.faults
  read_failed (Wrote given out e puts) f = absurd (not_wrote given status.ReadFault e f (inl refl))
  read_failed (Broke given out e r part) f = let clash : status.WriteFault ≡ status.ReadFault = sym e ∙ f in absurd cc
  read_failed (Unread fails e) f = record { which = fails.which; is_read = fails.is_read; rose = fails.rose }
  read_failed (Starved e) f = let clash : status.NoMemory ≡ status.ReadFault = sym e ∙ f in absurd cc

  pub write_failed : Ending row old new answer before after rose → answer ≡ status.WriteFault → rose
  write_failed (Wrote given out e puts) f = absurd (not_wrote given status.WriteFault e f (inr refl))
  write_failed (Broke given out e r part) f = r
  write_failed (Unread fails e) f = let clash : status.ReadFault ≡ status.WriteFault = sym e ∙ f in absurd cc
  write_failed (Starved e) f = let clash : status.NoMemory ≡ status.WriteFault = sym e ∙ f in absurd cc

  -- the files are known
  module _ (first second : List ℕ) (known : AreKnown row old.left first second) where
    pub exact_of : Ending row old new answer before after rose → (text : List ℕ) → Works row first second (Report text) → answer ≡ status.Done → Puts before text after
    exact_of (Wrote (Report given) out e puts) text work done =
        subst (λ (bytes : List ℕ). Puts before bytes after) (report_for row old new first second known given text out work) puts
    exact_of (Wrote (Refused refusal) out e puts) text work done = let clash : status.Refused ≡ status.Done = sym e ∙ done in absurd cc
    exact_of (Broke given out e r part) text work done = let clash : status.WriteFault ≡ status.Done = sym e ∙ done in absurd cc
    exact_of (Unread fails e) text work done = let clash : status.ReadFault ≡ status.Done = sym e ∙ done in absurd cc
    exact_of (Starved e) text work done = let clash : status.NoMemory ≡ status.Done = sym e ∙ done in absurd cc

    pub complete_of : Ending row old new answer before after rose → (given : Answer) → Answers row first second given → AreCalm row first old.faults new.faults → (rose → ⊥) → (answer ≡ status_of given) ⊎ (answer ≡ status.NoMemory)
    complete_of (Wrote other out e puts) given answers calm_files calm = inl (e ∙ ap status_of (answer_for row old new first second known other given out answers))
    complete_of (Broke other out e r part) given answers calm_files calm = absurd (calm r)
    complete_of (Unread fails e) given answers calm_files calm =
        absurd (calm_files fails.which (fails.decides first (λ r. known First r)) fails.rose)
    complete_of (Starved e) given answers calm_files calm = inr e

-- ---- the clauses

-- what a call for a command ensures, beside what is plain of each of its statuses
pub record Clauses (asked : Option Command) (old new : Files) (answer : Status) (before after : Option (List ℕ)) (rose : Type 0) : Type 0 where
  pub read_fault : answer ≡ status.ReadFault → ForSome asked (λ command. FailsToRead (row_of command) old.faults new.faults)
  pub write_fault : answer ≡ status.WriteFault → rose
  pub outcome : ForSome asked (λ command. Ends (row_of command) old new answer before after)
  pub exact : (command : Command) (first second text : List ℕ) → asked ≡ Some command → AreKnown (row_of command) old.left first second → Works (row_of command) first second (Report text)
      → answer ≡ status.Done → Puts before text after
  pub complete : (command : Command) (first second : List ℕ) (given : Answer) → asked ≡ Some command → AreKnown (row_of command) old.left first second → Answers (row_of command) first second given
      → AreCalm (row_of command) first old.faults new.faults → (rose → ⊥) → (answer ≡ status_of given) ⊎ (answer ≡ status.NoMemory)

pub clauses_of : (asked : Option Command) (command : Command) (old new : Files) (answer : Status) (before after : Option (List ℕ)) (rose : Type 0) (report : Result (Vec ℕ Global) Stopped)
    → Some command ≡ asked → IfOk report (λ text. Outcome (row_of command) old new (Report text.items)) → IfErr report (Stops (row_of command) old new)
    → Tells report answer before after rose → Clauses asked old new answer before after rose
clauses_of asked command old new answer before after rose report is out stops tells = record {
  read_fault = λ e k f. read_failed (row_of k) old new answer before after rose (ended k f) e;
  write_fault = λ e. write_failed (row_of command) old new answer before after rose at_command e;
  outcome = λ k f. ends_of (row_of k) old new answer before after rose (ended k f);
  exact = λ k first second text f known work done. exact_of (row_of k) old new answer before after rose first second known (ended k f) text work done;
  complete = λ k first second given f known answers calm_files calm. complete_of (row_of k) old new answer before after rose first second known (ended k f) given answers calm_files calm;
}
  where
    at_command : Ending (row_of command) old new answer before after rose
    at_command = ending (row_of command) old new answer before after rose report out stops tells

    ended : (k : Command) → asked ≡ Some k → Ending (row_of k) old new answer before after rose
    ended k f = subst (λ (c : Command). Ending (row_of c) old new answer before after rose) (same_some command k asked is f) at_command
