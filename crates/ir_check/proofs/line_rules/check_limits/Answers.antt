use Rattle.std.proofs.Common.{ap, sym}
use Rattle.std.specs.Option.{option_map}
use Rattle.ir_layout.specs.Limits.{first_limit}
use Rattle.ir_layout.specs.Memory.{LayoutParts}
use Rattle.ir_lines.specs.Lines.{code_lines, first_told}
use Rattle.ir_check.specs.CodeLimits.{limit_in, limit_text, broken_limit}
use Rattle.ir_check.proofs.Rules.{refused-first, code-limit-told}
use Rattle.ir_check.proofs.line_rules.check_limits.Goals as goal

pub returns-in-Err-clause-fault : goal.returns-in-Err-clause-fault
returns-in-Err-clause-fault c =
    let m = c.args.m.now in
    c.limit_error.ensures (broken_limit m) (refused-first (first_limit m) (option_map (limit_text m) (first_told (limit_in m.types) (code_lines m))) c.in-Err.error c.in-Err.ensures.limit)

pub returns-in-Some-clause-fault : goal.returns-in-Some-clause-fault
returns-in-Some-clause-fault c =
    code-limit-told c.args.m.now c.in-Ok.layout.types c.in-Some.site c.in-Some.kind c.fault_at.result
    (ap (λ (l : LayoutParts). l.types) c.in-Ok.ensures.layout) c.in-Ok.ensures.fits (sym c.in-Some.ensures) c.fault_at.ensures
