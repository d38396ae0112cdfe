use Rattle.std.proofs.Common.{◌∙◌, sym, ◌+◌, drop}
use Rattle.ir_lines.specs.Lines.{func_lines, funcs_lines, first_told}
use Rattle.ir_lines.proofs.Breaks.{found-first, none-yet}
use Rattle.ir_check.specs.CodeLimits.{limit_in}
use Rattle.ir_check.proofs.Told.{told-func}
use Rattle.ir_check.proofs.code_limits.first_of_funcs.Goals as goal

pub returns-in-Some : goal.returns-in-Some
returns-in-Some c =
    let told = limit_in c.args.layout.now.types in
    let funcs = c.args.funcs.now in
    found-first (first_told told (funcs_lines 0 funcs)) (first_told told (func_lines c.loop-n.n c.index-funcs-n.result)) (first_told told (funcs_lines (c.loop-n.n + 1) (drop (c.loop-n.n + 1) funcs))) c.in-Some.first
    (sym c.loop-n.invariant ∙ told-func told c.loop-n.n funcs c.index-funcs-n.result c.loop-n-test.true c.index-funcs-n.is)
    (sym c.in-Some.ensures)

pub loop-n-preserved : goal.loop-n-preserved
loop-n-preserved c =
    let told = limit_in c.args.layout.now.types in
    let funcs = c.args.funcs.now in
    none-yet (first_told told (funcs_lines 0 funcs)) (first_told told (func_lines c.loop-n.n c.index-funcs-n.result)) (first_told told (funcs_lines (c.loop-n.n + 1) (drop (c.loop-n.n + 1) funcs)))
    (sym c.loop-n.invariant ∙ told-func told c.loop-n.n funcs c.index-funcs-n.result c.loop-n-test.true c.index-funcs-n.is)
    (sym c.in_default.ensures)
