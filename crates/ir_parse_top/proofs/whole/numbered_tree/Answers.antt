use Rattle.std.proofs.Common.{ℕ, List, ◌∙◌, ap}
use Rattle.ir_numbering.specs.Numbers.{numbered_module}
use Rattle.ir_parse_top.specs.Sheet.{with_numerals}
use Rattle.ir_parse_top.specs.Text.{numerals_for}
use Rattle.ir_parse_top.proofs.whole.numbered_tree.Goals as goal

pub returns-clause-module : goal.returns-clause-module
returns-clause-module c =
    c.in_ok-m.ensures ∙ ap (λ (bytes : List ℕ). numbered_module bytes c.args.tree.now) (c.deref.ensures.value ∙ c.in_ok-bytes.ensures ∙ ap (λ (n : ℕ). with_numerals n c.args.text.now) (c.numerals_for.ensures ∙ ap numerals_for c.funcs.ensures))
