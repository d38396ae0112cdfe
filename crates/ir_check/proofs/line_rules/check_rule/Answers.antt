use Rattle.ir_check.proofs.Rules.{rule-none, rule-told}
use Rattle.ir_check.proofs.line_rules.check_rule.Goals as goal

pub returns-in-None-clause-ok : goal.returns-in-None-clause-ok
returns-in-None-clause-ok g c = rule-none c.args.m.now c.args.kind (g.R.Rule.keeps c.args.rule.now) c.requires.types c.in-None.ensures

pub returns-in-Some-clause-fault : goal.returns-in-Some-clause-fault
returns-in-Some-clause-fault g c = rule-told c.args.m.now c.args.kind (g.R.Rule.keeps c.args.rule.now) c.in-Some.site c.fault_at.result c.requires.types c.in-Some.ensures c.fault_at.ensures
