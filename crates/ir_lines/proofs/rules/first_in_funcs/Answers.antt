use Rattle.std.proofs.Common.{◌∙◌, sym, ◌+◌, drop}
use Rattle.ir_lines.specs.Lines.{func_lines, funcs_lines, first_break}
use Rattle.ir_lines.proofs.Breaks.{at-func, found-first, none-yet}
use Rattle.ir_lines.proofs.rules.first_in_funcs.Goals as goal

pub returns-in-Some : goal.returns-in-Some
returns-in-Some g c =
    let keeps = g.R.Rule.keeps c.args.rule.now in
    let funcs = c.args.funcs.now in
    found-first (first_break keeps (funcs_lines 0 funcs)) (first_break keeps (func_lines c.loop-n.n c.index-funcs-n.result)) (first_break keeps (funcs_lines (c.loop-n.n + 1) (drop (c.loop-n.n + 1) funcs))) c.in-Some.site
    (sym c.loop-n.invariant ∙ at-func keeps c.loop-n.n funcs c.index-funcs-n.result c.loop-n-test.true c.index-funcs-n.is)
    (sym c.in-Some.ensures)

pub loop-n-preserved : goal.loop-n-preserved
loop-n-preserved g c =
    let keeps = g.R.Rule.keeps c.args.rule.now in
    let funcs = c.args.funcs.now in
    none-yet (first_break keeps (funcs_lines 0 funcs)) (first_break keeps (func_lines c.loop-n.n c.index-funcs-n.result)) (first_break keeps (funcs_lines (c.loop-n.n + 1) (drop (c.loop-n.n + 1) funcs)))
    (sym c.loop-n.invariant ∙ at-func keeps c.loop-n.n funcs c.index-funcs-n.result c.loop-n-test.true c.index-funcs-n.is)
    (sym c.in_default.ensures)
