use Rattle.std.proofs.Common.{◌≡◌, ℕ, ◌+◌, Bool, true, false, MatchBool, List, [], ◌∷◌, ◌++◌, length, refl, sym, ap, subst, ◌∙◌, append_assoc, arith}
use Rattle.std.proofs.lemmas.List.{append-nil, length-append, nil_from_length}
use Rattle.std.proofs.lemmas.Bool.{eqb-true}
use Rattle.ir_core.specs.Lines.{lines_of}
use Rattle.sched_file.specs.Fields.{rows_of}
use Rattle.sched_file.specs.Schedule.{AreSchedule}
use Rattle.sched_file.proofs.Meanings.{Holds}
use Rattle.sched_file.proofs.SoFar.{nothing_so_far, keeps, refuses, schedule_so_far, have_threads, few_entries}
use Rattle.sched_file.proofs.parsing.parse_schedule.Goals as goal

pub lines-init : goal.lines-init
lines-init c = record {
  done = [];
  parts = refl;
  count = refl;
  room = omega (arith, c.requires);
  holds = subst (Holds (rows_of [])) (sym c.new-draft.ensures) nothing_so_far;
}

on_true : (b : Bool) (P Q : Type 0) → b ≡ true → MatchBool b P Q → P
on_true true P Q e h = h
on_true false P Q e h = absurd cc

on_false : (b : Bool) (P Q : Type 0) → b ≡ false → MatchBool b P Q → Q
on_false true P Q e h = absurd cc
on_false false P Q e h = h

-- the lines of a text, with the next one
next_parts : (text done more rest : List (List ℕ)) (line : List ℕ) → text ≡ done ++ rest → rest ≡ line ∷ more → text ≡ done ++ line ∷ more
next_parts text done more rest line e h = e ∙ ap (λ (l : List (List ℕ)). done ++ l) h

pub lines-preserved : goal.lines-preserved
lines-preserved c =
    let so_far = c.lines.invariant in
    let line = c.cut_line.result.0.now in
    let after = lines_of c.cut_line.result.1.now in
    let parts : lines_of c.args.bytes.now ≡ so_far.done ++ line ∷ after = next_parts _ so_far.done after _ line so_far.parts c.cut_line.ensures.lines in
    record {
      done = so_far.done ++ line ∷ [];
      parts = parts ∙ sym (append_assoc so_far.done (line ∷ []) after);
      count = omega (arith, so_far.count, length-append so_far.done (line ∷ []));
      room = omega (arith, so_far.room, c.cut_line.ensures.shorter);
      holds = keeps so_far.done line c.lines.draft c.take.new.self so_far.holds (on_true _ _ _ c.if-not-branch.false c.in_ok-take.ensures);
    }

pub returns-then-not-branch-clause-unfit : goal.returns-then-not-branch-clause-unfit
returns-then-not-branch-clause-unfit c number e =
    let so_far = c.lines.invariant in
    let line = c.cut_line.result.0.now in
    let after = lines_of c.cut_line.result.1.now in
    let same : c.lines.number + 1 ≡ number = cc in
    let before = schedule_so_far so_far.done c.lines.draft so_far.holds in
    record {
      earlier = so_far.done;
      line = line;
      later = after;
      parts = next_parts _ so_far.done after _ line so_far.parts c.cut_line.ensures.lines;
      place = omega (arith, same, so_far.count);
      args = c.lines.draft.args;
      lines = c.lines.draft.lines;
      before = before;
      unfit = refuses so_far.done line c.lines.draft so_far.holds (on_false _ _ _ c.if-not-branch.true c.in_ok-take.ensures);
    }

pub invariant_of-result : goal.invariant_of-result
invariant_of-result c =
    (have_threads _ _ _ c.lines.invariant.holds.means, (schedule_so_far c.lines.invariant.done c.lines.draft c.lines.invariant.holds).few)

-- at the end the lines are those so far
all_done : (bytes rest : List ℕ) (done : List (List ℕ)) → lines_of bytes ≡ done ++ lines_of rest → length rest ≡ 0 → lines_of bytes ≡ done
unfolding lines_of
all_done bytes rest done e end =
    e ∙ ap (λ (r : List ℕ). done ++ lines_of r) (nil_from_length rest end) ∙ append-nil done

pub returns-clause-schedule : goal.returns-clause-schedule
returns-clause-schedule c =
    let so_far = c.lines.invariant in
    let end : length c.lines.rest.now ≡ 0 = eqb-true (length c.lines.rest.now) 0 (sym c.lines-test.ensures) in
    subst (λ (l : List (List ℕ)). AreSchedule l c.lines.draft.args c.lines.draft.lines) (sym (all_done c.args.bytes.now c.lines.rest.now so_far.done so_far.parts end))
    (schedule_so_far so_far.done c.lines.draft so_far.holds)

pub returns-clause-entries : goal.returns-clause-entries
returns-clause-entries c =
    let so_far = c.lines.invariant in
    let end : length c.lines.rest.now ≡ 0 = eqb-true (length c.lines.rest.now) 0 (sym c.lines-test.ensures) in
    let same = all_done c.args.bytes.now c.lines.rest.now so_far.done so_far.parts end in
    let few = few_entries so_far.done c.lines.draft.args c.lines.draft.lines (schedule_so_far so_far.done c.lines.draft so_far.holds) in
    omega (arith, few, ap length same)
