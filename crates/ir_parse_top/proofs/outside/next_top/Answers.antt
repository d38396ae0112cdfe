use Rattle.std.specs.Prelude.{Option, IfSome}
use Rattle.std.proofs.Common.{ℕ, refl, subst}
use Rattle.std.proofs.lemmas.Result.{err_from_is_err_and}
use Rattle.ir_core.specs.declared.text.LinePlace.TheVariants.{Top}
use Rattle.ir_parse_top.specs.Sheet.{Outside}
use Rattle.ir_parse_top.specs.Reading.{FindsText, FindsBad, TripsOutside}
use Rattle.ir_parse_top.proofs.Telling.{told_map}
use Rattle.ir_parse_top.proofs.Runs.{bad_trips}
use Rattle.ir_parse_top.proofs.Found.{UnfitTop, top_found, top_trips}
use Rattle.ir_parse_top.proofs.outside.next_top.Goals as goal

pub returns-in_err-number-clause-err : goal.returns-in_err-number-clause-err
returns-in_err-number-clause-err c =
    let p = err_from_is_err_and c.from_residual.result c.from_residual.ensures.1 in
    rw (p.1, p.2) (told_map (FindsBad Top c.args.lines.now) (TripsOutside c.args.lines.now) c.in_err-number.field-0.0 (λ n fault f tree. bad_trips Top (Outside tree) refl refl c.args.lines.now n fault f) c.in_err-number.ensures.err)

pub returns-in_err-line-in-Some-clause-err : goal.returns-in_err-line-in-Some-clause-err
returns-in_err-line-in-Some-clause-err c =
    let p = err_from_is_err_and c.from_residual-in_err-line-in-Some.result c.from_residual-in_err-line-in-Some.ensures.1 in
    let f = subst (λ (o : Option ℕ). IfSome o (λ number. FindsText Top c.args.lines.now c.next_text.new.lines number c.next_text.new.tokens.items)) c.in-Some.is c.in_ok-number.ensures.found in
    rw (p.1, p.2) (told_map (UnfitTop c.text.result.now c.deref.result.now c.in-Some.number) (TripsOutside c.args.lines.now) c.in_err-line-in-Some.field-0.0
    (top_trips c.args.lines.now c.next_text.new.lines c.in-Some.number c.next_text.new.tokens.items c.deref.result.now c.text.result.now c.text.ensures.text c.deref.ensures.value f) c.in_err-line-in-Some.ensures.err)

pub returns-in-Some-clause-found : goal.returns-in-Some-clause-found
returns-in-Some-clause-found c =
    let f = subst (λ (o : Option ℕ). IfSome o (λ number. FindsText Top c.args.lines.now c.next_text.new.lines number c.next_text.new.tokens.items)) c.in-Some.is c.in_ok-number.ensures.found in
    top_found c.args.lines.now c.next_text.new.lines c.in-Some.number c.next_text.new.tokens.items c.deref.result.now c.text.result.now c.text.ensures.text c.deref.ensures.value c.in_ok-line-in-Some.line f c.in_ok-line-in-Some.ensures.line
