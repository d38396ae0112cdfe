use Rattle.std.proofs.Common.{subst, IfErr}
use Rattle.ir_core.specs.Module.{ModuleParts}
use Rattle.ir_types.specs.Types.{types_keep}
use Rattle.ir_check.specs.declared.fault.Kind.TheVariants.{TypeMismatch}
use Rattle.ir_check.specs.Faults.{Tells, rule_fault}
use Rattle.ir_check.proofs.line_rules.check_types.Goals as goal

pub returns-clause-fault : goal.returns-clause-fault
returns-clause-fault c = subst (λ (m : ModuleParts). IfErr c.check_rule.result (λ e. Tells (rule_fault c.args.m.now TypeMismatch (types_keep m)) e)) c.in_ok-rule.ensures c.check_rule.ensures.fault
