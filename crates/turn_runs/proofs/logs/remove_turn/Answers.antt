use Rattle.std.proofs.Common.{ℕ, ◌-◌, take, arith, ap, sym, ◌∙◌}
use Rattle.turn_runs.proofs.Shortening.{shortened-less, shortened-none}
use Rattle.turn_runs.proofs.logs.remove_turn.Goals as goal

pub returns-then-last-gt1 : goal.returns-then-last-gt1
returns-then-last-gt1 c = shortened-less c.args.runs.now.items _ _ (omega arith) c.index-last.ensures c.if-last-gt1.true

pub returns-else-last-gt1 : goal.returns-else-last-gt1
returns-else-last-gt1 c =
    c.pop.ensures.rest
    ∙ ap (λ (n : ℕ). take (n - 1) c.args.runs.now.items) (sym c.len-count.ensures)
    ∙ shortened-none c.args.runs.now.items _ _ (omega arith) c.index-last.ensures c.if-last-gt1.false
