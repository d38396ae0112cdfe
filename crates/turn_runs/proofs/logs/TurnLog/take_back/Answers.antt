use Rattle.std.proofs.Common.{◌-◌, length, take, ap, ◌∙◌, List, ℕ}
use Rattle.turn_runs.proofs.Shortening.{turns_of-shortened, grouped-shortened}
use Rattle.turn_runs.proofs.logs.TurnLog.take_back.Goals as goal

pub invariant_of-self : goal.invariant_of-self
invariant_of-self c = grouped-shortened _ _ c.self.invariant c.remove_turn.ensures

pub returns : goal.returns
returns c = turns_of-shortened _ _ c.self.invariant c.remove_turn.ensures ∙ ap (λ (turns : List ℕ). take (length turns - 1) turns) c.self.view_is
