use Rattle.std.proofs.Common.{ℕ, arith, ap, ◌∙◌, slice_set, vec_len, ◌-◌}
use Rattle.turn_runs.proofs.Lengthening.{count-same, count-other, count-none}
use Rattle.turn_runs.proofs.Grouping.{empty-unless-some}
use Rattle.turn_runs.proofs.logs.add_turns.Goals as goal
use Rattle.turn_runs.proofs.logs.add_turns.Goals.{in-Some+else-eq, in_default}

pub returns-then-eq-clause-ok : goal.returns-then-eq-clause-ok
returns-then-eq-clause-ok c = ap (λ (sum : ℕ). slice_set c.args.runs.now.items (vec_len c.args.runs.now - 1) (c.in-Some.last.now.0, sum)) c.in-Some-checked_add.ensures.1
    ∙ count-same c.args.runs.now.items _ _ _ _ c.requires (omega (arith, c.in-Some.ensures.item.3.0)) c.in-Some.ensures.item.1 cc

pub returns-clause-ok : goal.returns-clause-ok
returns-clause-ok c = rw c.in_ok-push.ensures.items (elim c.match-last_mut.branch [
  | in-Some+else-eq w ↦ rw w.runs-is (count-other c.args.runs.now.items _ _ _ _ c.requires (omega (arith, w.in-Some.ensures.item.3.0)) w.in-Some.ensures.item.1 cc)
  | in_default w ↦ rw w.runs-is (count-none c.args.runs.now.items _ _ c.requires (empty-unless-some c.last_mut.result _ c.last_mut.ensures.item.0 w.in_default.not-Some))
])
