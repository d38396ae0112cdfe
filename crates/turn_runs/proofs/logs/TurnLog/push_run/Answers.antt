use Rattle.std.proofs.Common.{ℕ, List, ◌++◌, ap, ◌∙◌, replicate}
use Rattle.turn_runs.specs.Runs.{turns_of}
use Rattle.turn_runs.proofs.Lengthening.{grouped-turns_of-run, turns_of-run}
use Rattle.turn_runs.proofs.logs.TurnLog.push_run.Goals as goal

pub invariant_of-self-2 : goal.invariant_of-self-2
invariant_of-self-2 c = grouped-turns_of-run _ _ _ _ c.self.invariant c.in_ok-add_turns.ensures.ok

pub returns-clause-ok : goal.returns-clause-ok
returns-clause-ok c = ap turns_of c.in_ok-add_turns.ensures.ok ∙ turns_of-run c.args.tid.0 c.args.count c.self.inside.runs.items
    ∙ ap (λ (ts : List ℕ). ts ++ replicate c.args.count c.args.tid.0) c.self.view_is
