use Rattle.std.proofs.Common.{◌≡◌, ◌≤◌, ◌∙◌, List, length, ap, sym, subst, arith}
use Rattle.std.specs.List.{AllByRecursion}
use Rattle.sched_file.specs.declared.entries.Line.{Line}
use Rattle.sched_file.specs.Events.{events_of, HasThread}
use Rattle.sched_file.specs.Only.{only}
use Rattle.sched_file.proofs.OneUpset.{all-only, few-only}
use Rattle.sched_file.proofs.parsing.Schedule.only.Goals as goal

pub invariant_of-result : goal.invariant_of-result
invariant_of-result c =
    let is : c.in_ok-lines.lines ≡ only c.args.k c.self.inside.lines = c.in_ok-lines.ensures ∙ ap (only c.args.k) c.items.ensures in
    let few = few-only c.args.k c.self.inside.lines in
    let most = c.self.invariant.1 in
    subst (λ (lines : List Line). AllByRecursion HasThread lines × (length (events_of lines) ≤ 4194304)) (sym is)
    (all-only c.args.k c.self.inside.lines c.self.invariant.0, omega (arith, few, most))
