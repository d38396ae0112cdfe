use Rattle.std.proofs.Common.{[], ◌∷◌, ◌++◌, ap, ◌∙◌}
use Rattle.turn_runs.specs.Runs.{turns_of}
use Rattle.turn_runs.proofs.Grouping.{grouped-turns_of-added, turns_of-added}
use Rattle.turn_runs.proofs.logs.TurnLog.push.Goals as goal

pub invariant_of-self-2 : goal.invariant_of-self-2
invariant_of-self-2 c = grouped-turns_of-added _ _ _ c.self.invariant c.in_ok-add_turn.ensures.ok

pub returns-clause-ok : goal.returns-clause-ok
returns-clause-ok c = ap turns_of c.in_ok-add_turn.ensures.ok ∙ turns_of-added c.args.tid.0 c.self.inside.runs.items ∙ ap (λ ts. ts ++ c.args.tid.0 ∷ []) c.self.view_is
