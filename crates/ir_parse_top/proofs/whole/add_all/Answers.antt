use Rattle.std.specs.Prelude.{Option, IfSome, IfNone}
use Rattle.std.proofs.Common.{subst}
use Rattle.std.proofs.lemmas.Result.{err_from_is_err_and}
use Rattle.ir_core.specs.declared.text.LinePlace.TheVariants.{Top}
use Rattle.ir_grammar.specs.declared.trees.TopLine.{TopLine}
use Rattle.ir_parse_top.specs.Sheet.{Outside, with_top}
use Rattle.ir_parse_top.specs.Reading.{FindsTop, FindsNothing, TripsOutside, TripsFrom}
use Rattle.ir_parse_top.proofs.Telling.{told_map}
use Rattle.ir_parse_top.proofs.TreeLines.{in_module_more, line_trips, top_trips_later, finds_all}
use Rattle.ir_parse_top.proofs.whole.add_all.Goals as goal

pub returns-in_err-line-clause-err : goal.returns-in_err-line-clause-err
returns-in_err-line-clause-err c =
    let p = err_from_is_err_and c.from_residual.result c.from_residual.ensures.1 in
    rw (p.1, p.2) (told_map (TripsOutside c.lines.lines) (TripsFrom c.args.lines.now (Outside c.args.tree.now)) c.in_err-line.field-0.0 (top_trips_later c.args.lines.now c.lines.lines c.args.tree.now c.lines.tree c.lines.invariant) c.in_err-line.ensures.err)

pub lines-preserved : goal.lines-preserved
lines-preserved c =
    in_module_more c.args.lines.now c.lines.lines c.next_top.new.lines c.add_top.new.lines c.args.tree.now c.lines.tree c.add_top.new.tree c.in-Some.line c.lines.invariant
    (subst (λ (o : Option TopLine). IfSome o (FindsTop c.lines.lines c.next_top.new.lines)) c.in-Some.is c.in_ok-line.ensures.found) c.in_ok-add_top.ensures.found

pub returns-in_err-add_top-clause-err : goal.returns-in_err-add_top-clause-err
returns-in_err-add_top-clause-err c =
    let p = err_from_is_err_and c.from_residual-in_err-add_top.result c.from_residual-in_err-add_top.ensures.1 in
    rw (p.1, p.2) (told_map (TripsFrom c.next_top.new.lines (with_top c.next_top.new.lines.text c.lines.tree c.in-Some.line)) (TripsFrom c.args.lines.now (Outside c.args.tree.now)) c.in_err-add_top.field-0.0
    (line_trips c.args.lines.now c.lines.lines c.next_top.new.lines c.add_top.new.lines c.args.tree.now c.lines.tree c.add_top.new.tree c.in-Some.line c.lines.invariant
    (subst (λ (o : Option TopLine). IfSome o (FindsTop c.lines.lines c.next_top.new.lines)) c.in-Some.is c.in_ok-line.ensures.found)) c.in_err-add_top.ensures.err)

pub returns-clause-found : goal.returns-clause-found
returns-clause-found c =
    finds_all c.args.lines.now c.lines.lines c.args.tree.now c.lines.tree c.lines.invariant c.next_top.new.lines
    (subst (λ (o : Option TopLine). IfNone o (FindsNothing Top c.lines.lines c.next_top.new.lines)) c.in_default.is c.in_ok-line.ensures.nothing)
