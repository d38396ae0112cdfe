use Rattle.std.proofs.Common.{sym, ◌∙◌}
use Rattle.sched_file.proofs.Fronts.{next_none, next_some}
use Rattle.sched_file.proofs.cutting.Fields.next.Goals as goal

pub returns-then-len-eq0-clause-none : goal.returns-then-len-eq0-clause-none
returns-then-len-eq0-clause-none c =
    sym c.self.view_is ∙ next_none c.self.inside.rest.now _ _ c.blanks_len.ensures.len c.field_len-len.ensures.len c.if-len-eq0.true

pub returns-clause-some : goal.returns-clause-some
returns-clause-some c =
    sym c.self.view_is ∙ next_some c.self.inside.rest.now _ _ c.blanks_len.ensures.len c.field_len-len.ensures.len c.if-len-eq0.false _ _ c.split_at.ensures.front c.split_at.ensures.back
