use Rattle.std.specs.Prelude.{Option, IfNone, codes}
use Rattle.std.proofs.Common.{ℕ, ◌∙◌, [], refl, subst}
use Rattle.std.proofs.lemmas.Result.{err_from_is_err_and}
use Rattle.ir_core.specs.declared.text.LinePlace.TheVariants.{Function}
use Rattle.ir_parse_top.specs.Sheet.{Inside}
use Rattle.ir_parse_top.specs.Text.{BadWord}
use Rattle.ir_parse_top.specs.Reading.{FindsNothing, FindsBad, TripsInside, IsAt}
use Rattle.ir_parse_top.proofs.Telling.{told_map}
use Rattle.ir_parse_top.proofs.Runs.{bad_trips}
use Rattle.ir_parse_top.proofs.Found.{nothing_trips}
use Rattle.ir_parse_top.proofs.inside.next_body.Goals as goal

pub returns-in_err-number-clause-err : goal.returns-in_err-number-clause-err
returns-in_err-number-clause-err c =
    let p = err_from_is_err_and c.from_residual.result c.from_residual.ensures.1 in
    rw (p.1, p.2) (told_map (FindsBad Function c.args.lines.now) (TripsInside c.args.lines.now) c.in_err-number.field-0.0 (λ n fault f tree fn entry. bad_trips Function (Inside tree fn entry []) refl refl c.args.lines.now n fault f) c.in_err-number.ensures.err)

pub returns-in-None-clause-err : goal.returns-in-None-clause-err
returns-in-None-clause-err c =
    let f = subst (λ (o : Option ℕ). IfNone o (FindsNothing Function c.args.lines.now c.next_text.new.lines)) c.in-None.is c.in_ok-number.ensures.nothing in
    told_map (IsAt c.number.result (BadWord (codes "end"))) (TripsInside c.args.lines.now) c.refused.result (λ n fault h. nothing_trips c.args.lines.now c.next_text.new.lines n fault f (h.0 ∙ c.number.ensures) h.1) c.refused.ensures
