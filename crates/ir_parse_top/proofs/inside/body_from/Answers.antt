use Rattle.std.proofs.Common.{◌≡◌, ◌∙◌, ℕ, List, false, ap, sym}
use Rattle.ir_core.specs.declared.text.Token.{Token}
use Rattle.ir_grammar.specs.Fitting.{IsLine}
use Rattle.ir_grammar.specs.Tokens.{tokens_of}
use Rattle.ir_grammar.specs.Top.{body_line}
use Rattle.ir_parse_top.specs.Text.{is_unclosed}
use Rattle.ir_parse_top.specs.Reading.{FindsBody, TripsInside}
use Rattle.ir_parse_top.proofs.Telling.{ok_map, err_map}
use Rattle.ir_parse_top.proofs.Found.{UnfitBody, body_found, body_trips}
use Rattle.ir_parse_top.proofs.inside.body_from.Goals as goal

pub returns-else-is_unclosed-clause-line : goal.returns-else-is_unclosed-clause-line
returns-else-is_unclosed-clause-line c old f =
    ok_map (IsLine body_line.means (tokens_of c.text-else-is_unclosed.result.now c.deref-else-is_unclosed.result.now)) (FindsBody old c.args.lines.now) c.body_of.result
    (λ line h. body_found old c.args.lines.now c.args.number c.args.tokens.items c.deref-else-is_unclosed.result.now c.text-else-is_unclosed.result.now c.text-else-is_unclosed.ensures.text c.deref-else-is_unclosed.ensures.value line f h) c.body_of.ensures.line

pub returns-else-is_unclosed-clause-err : goal.returns-else-is_unclosed-clause-err
returns-else-is_unclosed-clause-err c old f =
    let closed : is_unclosed (tokens_of c.text-else-is_unclosed.result.now c.deref-else-is_unclosed.result.now) ≡ false =
    ap (λ (x : List ℕ). is_unclosed (tokens_of x c.deref-else-is_unclosed.result.now)) (c.text-else-is_unclosed.ensures.text ∙ sym c.text.ensures.text)
    ∙ ap (λ (ts : List Token). is_unclosed (tokens_of c.text.result.now ts)) (c.deref-else-is_unclosed.ensures.value ∙ sym c.deref.ensures.value) ∙ sym c.is_unclosed.ensures ∙ c.if-is_unclosed.false in
    err_map (UnfitBody c.text-else-is_unclosed.result.now c.deref-else-is_unclosed.result.now c.args.number) (TripsInside old) c.body_of.result
    (body_trips old c.args.lines.now c.args.number c.args.tokens.items c.deref-else-is_unclosed.result.now c.text-else-is_unclosed.result.now c.text-else-is_unclosed.ensures.text c.deref-else-is_unclosed.ensures.value f closed) c.body_of.ensures.err
