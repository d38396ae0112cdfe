use Rattle.std.proofs.Common.{◌∙◌, sym, true}
use Rattle.std.proofs.lemmas.Result.{err_from_is_err_and}
use Rattle.ir_grammar.specs.Words.{in_table}
use Rattle.ir_grammar.specs.Tails.{attribute_word, attribute_rest, attributes}
use Rattle.ir_grammar.proofs.Turns.{attribute_turns, some_head, no_head, rest_taken, skip_more, skip_over, skip_stop}
use Rattle.ir_parse_parts.proofs.Exits.{stopped_then}
use Rattle.ir_parse_parts.proofs.reader.Reader.attributes.Goals as goal

pub attributes-preserved : goal.attributes-preserved
unfolding attributes
attributes-preserved c =
    let pick = in_table (attribute_word c.args.linkage) in
    skip_more (attribute_turns c.args.linkage) c.attributes.self c.attribute_rest.new.self true (some_head pick c.attributes.self c.in-Some.head (sym c.in-Some.ensures)) (rest_taken pick attribute_rest c.attributes.self c.in-Some.head _ (sym c.in-Some.ensures) (rw (← c.skip.ensures) c.in_ok-attribute_rest.ensures)) ∙ c.attributes.invariant

pub returns-in_err-attribute_rest : goal.returns-in_err-attribute_rest
unfolding attributes
returns-in_err-attribute_rest c =
    let pick = in_table (attribute_word c.args.linkage) in
    let p = err_from_is_err_and c.from_residual.result c.from_residual.ensures.1 in
    rw (p.1, p.2) (stopped_then c.in_err-attribute_rest.field-0.0 _ _ (λ n e. sym c.attributes.invariant ∙ skip_stop (attribute_turns c.args.linkage) c.attributes.self n (some_head pick c.attributes.self c.in-Some.head (sym c.in-Some.ensures)) (rest_taken pick attribute_rest c.attributes.self c.in-Some.head _ (sym c.in-Some.ensures) (rw (← c.skip.ensures) e))) c.in_err-attribute_rest.ensures)

pub returns : goal.returns
unfolding attributes
returns c = sym c.attributes.invariant ∙ skip_over (attribute_turns c.args.linkage) c.attributes.self (no_head (in_table (attribute_word c.args.linkage)) c.attributes.self (sym c.in_default.ensures))
