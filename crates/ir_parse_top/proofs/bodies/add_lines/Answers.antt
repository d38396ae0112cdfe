use Rattle.std.proofs.Common.{◌≡◌, Bool, subst}
use Rattle.std.proofs.lemmas.Result.{err_from_is_err_and}
use Rattle.ir_core.specs.Module.{ModuleParts}
use Rattle.ir_parse_top.specs.Sheet.{with_body}
use Rattle.ir_parse_top.specs.Reading.{TripsInside, TripsIn, sheet_behind}
use Rattle.ir_parse_top.proofs.Telling.{told_map}
use Rattle.ir_parse_top.proofs.FunctionLines.{in_function_trips, in_function_more, finds_end}
use Rattle.ir_parse_top.proofs.bodies.add_lines.Goals as goal

pub returns-in_err-line-clause-err : goal.returns-in_err-line-clause-err
returns-in_err-line-clause-err c =
    let p = err_from_is_err_and c.from_residual.result c.from_residual.ensures.1 in
    rw (p.1, p.2) (told_map (TripsInside c.lines.lines) (TripsIn c.args.lines.now c.args.f.now c.args.entry) c.in_err-line.field-0.0 (in_function_trips c.args.lines.now c.lines.lines c.args.f.now c.lines.f c.args.entry c.lines.invariant) c.in_err-line.ensures.err)

pub returns-then-branch-clause-found : goal.returns-then-branch-clause-found
returns-then-branch-clause-found c =
    finds_end c.args.lines.now c.lines.lines c.next_body.new.lines c.args.f.now c.lines.f c.add_line.new.f c.args.entry c.in_ok-line.line c.lines.invariant c.in_ok-line.ensures.line
    (subst (λ (over : Bool). (tree : ModuleParts) → with_body tree c.lines.f c.args.entry c.in_ok-line.line ≡ sheet_behind over tree c.add_line.new.f c.args.entry) c.if-branch.true c.in_ok-add_line.ensures)

pub lines-preserved : goal.lines-preserved
lines-preserved c =
    in_function_more c.args.lines.now c.lines.lines c.next_body.new.lines c.args.f.now c.lines.f c.add_line.new.f c.args.entry c.in_ok-line.line c.lines.invariant c.in_ok-line.ensures.line
    (subst (λ (over : Bool). (tree : ModuleParts) → with_body tree c.lines.f c.args.entry c.in_ok-line.line ≡ sheet_behind over tree c.add_line.new.f c.args.entry) c.if-branch.false c.in_ok-add_line.ensures)
