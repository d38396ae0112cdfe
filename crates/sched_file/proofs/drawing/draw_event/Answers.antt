use Rattle.std.proofs.Common.{◌∷◌, ap, ◌∙◌, arith}
use Rattle.sched_file.specs.declared.entries.Line.{Line}
use Rattle.sched_file.proofs.Turns.{opened, opened_once, ended, of_turn, of_round, of_mix, of_abort, of_upset, first_thread}
use Rattle.sched_file.proofs.drawing.draw_event.Goals as goal

pub returns-in_default-split_first-clause-none : goal.returns-in_default-split_first-clause-none
returns-in_default-split_first-clause-none c =
    ended c.lines.pending c.lines.lines.now _ c.in_default.ensures.none c.in_default-split_first.ensures.cases c.lines.invariant.same

pub returns-in-Abort-clause-some : goal.returns-in-Abort-clause-some
returns-in-Abort-clause-some c =
    let rest = c.in-Some-split_first.rest.now in
    let first = c.in-Some-split_first.ensures.cases.0 ∙ ap (λ (line : Line). line ∷ rest) c.in-Abort.is in
    opened_once c.lines.pending c.lines.lines.now rest _ _ _ (record { none = c.in_default.ensures.none; first = first; same = c.lines.invariant.same }) (of_abort c.in-Abort.tid)

pub returns-in-Upset-clause-some : goal.returns-in-Upset-clause-some
returns-in-Upset-clause-some c =
    let rest = c.in-Some-split_first.rest.now in
    let first = c.in-Some-split_first.ensures.cases.0 ∙ ap (λ (line : Line). line ∷ rest) c.in-Upset.is in
    opened_once c.lines.pending c.lines.lines.now rest _ _ _ (record { none = c.in_default.ensures.none; first = first; same = c.lines.invariant.same }) (of_upset c.in-Upset.upset)

pub lines-preserved-in-Turn : goal.lines-preserved-in-Turn
lines-preserved-in-Turn c =
    let rest = c.in-Some-split_first.rest.now in
    let first = c.in-Some-split_first.ensures.cases.0 ∙ ap (λ (line : Line). line ∷ rest) c.in-Turn.is in
    record {
      ready = tt;
      threads = (first_thread c.lines.lines.now rest _ first c.lines.invariant.threads).1;
      same = opened c.lines.pending c.lines.lines.now rest _ _ _ (record { none = c.in_default.ensures.none; first = first; same = c.lines.invariant.same }) (of_turn c.in-Turn.tid c.in-Turn.turns);
    }

pub lines-preserved-in-Round : goal.lines-preserved-in-Round
lines-preserved-in-Round c =
    let rest = c.in-Some-split_first.rest.now in
    let first = c.in-Some-split_first.ensures.cases.0 ∙ ap (λ (line : Line). line ∷ rest) c.in-Round.is in
    let threads = first_thread c.lines.lines.now rest _ first c.lines.invariant.threads in
    record {
      ready = (threads.0, omega arith);
      threads = threads.1;
      same = opened c.lines.pending c.lines.lines.now rest _ _ _ (record { none = c.in_default.ensures.none; first = first; same = c.lines.invariant.same }) (of_round c.in-Round.threads c.in-Round.rounds);
    }

pub lines-preserved : goal.lines-preserved
lines-preserved c =
    let rest = c.in-Some-split_first.rest.now in
    let first = c.in-Some-split_first.ensures.cases.0 ∙ ap (λ (line : Line). line ∷ rest) c.in-Mix.is in
    let threads = first_thread c.lines.lines.now rest _ first c.lines.invariant.threads in
    record {
      ready = threads.0;
      threads = threads.1;
      same = opened c.lines.pending c.lines.lines.now rest _ _ _ (record { none = c.in_default.ensures.none; first = first; same = c.lines.invariant.same }) (of_mix c.in-Mix.threads c.in-Mix.seed c.in-Mix.turns);
    }
