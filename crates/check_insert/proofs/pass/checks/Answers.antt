use Rattle.std.proofs.Common.{◌∙◌, ap}
use Rattle.check_insert.specs.Checks.{checked_module}
use Rattle.check_insert.proofs.Column.{column}
use Rattle.check_insert.proofs.Kept.{kept, checked_module-is}
use Rattle.check_insert.proofs.pass.checks.Goals as goal

pub new-requires : goal.new-requires
new-requires c =
    kept c.args.h _ _ _ c.requires c.take-heads.ensures.hardened c.take-heads.ensures.heads (c.items.ensures ∙ c.take-heads.ensures.blocks) c.in_ok-funcs.ensures.funcs c.in_ok-funcs.ensures.short

pub returns-clause-each : goal.returns-clause-each
returns-clause-each c =
    checked_module-is c.args.h _ _ _ _ c.take-heads.ensures.heads (c.items.ensures ∙ c.take-heads.ensures.blocks) c.in_ok-funcs.ensures.funcs c.in_ok-checked.ensures

pub returns-clause-column : goal.returns-clause-column
returns-clause-column c =
    λ m is. checked_module-is c.args.h _ _ _ _ c.take-heads.ensures.heads (c.items.ensures ∙ c.take-heads.ensures.blocks) c.in_ok-funcs.ensures.funcs c.in_ok-checked.ensures ∙ ap checked_module is ∙ column m
