use Rattle.std.proofs.Common.{ap, ◌∙◌}
use Rattle.std.specs.Prelude.{Option, ℕ, unwrap_or}
use Rattle.hard_ir.proofs.FunctionWidths.{width_at-module_widths}
use Rattle.hard_ir.proofs.hardened.Hardened.width.Goals as goal

pub returns : goal.returns
returns c head blocks f b =
    c.unwrap_or.ensures
    ∙ ap (λ (bits : Option ℕ). unwrap_or bits 0) c.found.ensures
    ∙ width_at-module_widths c.args.self.now.heads.funcs c.args.self.now.funcs c.args.func c.args.reg head blocks f b
