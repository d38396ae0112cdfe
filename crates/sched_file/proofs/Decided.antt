-- Each text is a schedule or has a first unfit line: its lines are taken one after another.
use Rattle.std.proofs.Common.{◌≡◌, ℕ, ◌+◌, false, List, [], ◌∷◌, ◌++◌, length, Option, Some, None, refl, sym, subst, ◌∙◌, append_assoc}
use Rattle.std.proofs.lemmas.List.{append-nil}
use Rattle.ir_core.specs.Lines.{lines_of}
use Rattle.sched_file.specs.declared.drafts.Draft.{Draft}
use Rattle.sched_file.specs.Fields.{fields_of, rows_of}
use Rattle.sched_file.specs.Schedule.{AreSchedule, Verdict, Fits, Refused}
use Rattle.sched_file.specs.Reading.{taken}
use Rattle.sched_file.proofs.Meanings.{Holds}
use Rattle.sched_file.proofs.SoFar.{nothing_so_far, keeps, refuses, schedule_so_far}

module _ (bytes : List ℕ) where
  -- the lines done are what the draft says, and the rest are to be taken
  decided : (done rest : List (List ℕ)) (draft : Draft) → lines_of bytes ≡ done ++ rest → Holds (rows_of done) draft → Verdict bytes
  decided done [] draft parts holds =
      let whole : lines_of bytes ≡ done = parts ∙ append-nil done in
      Fits draft.args draft.lines (subst (λ (l : List (List ℕ)). AreSchedule l draft.args draft.lines) (sym whole) (schedule_so_far done draft holds))
  decided done (line ∷ rest) draft parts holds =
      by (taken draft (fields_of line)) refl
      (λ after e. decided (done ++ line ∷ []) rest after (parts ∙ sym (append_assoc done (line ∷ []) rest)) (keeps done line draft after holds e))
    where
      by : (o : Option Draft) → taken draft (fields_of line) ≡ o → ((after : Draft) → taken draft (fields_of line) ≡ Some after → Verdict bytes) → Verdict bytes
      by None e more = Refused (length done + 1) (record {
        earlier = done;
        line = line;
        later = rest;
        parts = parts;
        place = refl;
        args = draft.args;
        lines = draft.lines;
        before = schedule_so_far done draft holds;
        unfit = refuses done line draft holds e;
      })
      by (Some after) e more = more after e

  pub verdict : Verdict bytes
  verdict = decided [] (lines_of bytes) (record { args = []; lines = []; events = 0; begun = false }) refl nothing_so_far
