use Rattle.std.proofs.Common.{ap, ◌∙◌, rules}
use Rattle.ir_types.specs.Tables.{width_at}
use Rattle.ir_types.proofs.RegisterWidths.{width_at-widths_of}
use Rattle.ir_types.proofs.register_widths.Widths.width.Goals as goal

pub returns-clause-table : goal.returns-clause-table
returns-clause-table c = search rules

pub returns-clause-register : goal.returns-clause-register
returns-clause-register c m f is e = returns-clause-table c ∙ (ap (λ w. width_at w c.args.func c.args.reg) is ∙ width_at-widths_of m f c.args.func c.args.reg e)
