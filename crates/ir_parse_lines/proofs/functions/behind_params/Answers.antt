use Rattle.std.proofs.Common.{◌∙◌, sym, true}
use Rattle.std.proofs.lemmas.Result.{err_from_is_err_and}
use Rattle.ir_grammar.specs.Top.{tail_head, tail_rest, behind_params}
use Rattle.ir_grammar.proofs.Turns.{some_head, no_head, rest_taken, skip_more, skip_over, skip_stop}
use Rattle.ir_grammar.proofs.TopLaws.{behind_turns}
use Rattle.ir_parse_parts.proofs.Exits.{stopped_then}
use Rattle.ir_parse_lines.proofs.functions.behind_params.Goals as goal

pub tails-preserved : goal.tails-preserved
unfolding behind_params
tails-preserved c = skip_more behind_turns c.tails.reader c.tail_rest.new.reader true (some_head tail_head c.tails.reader c.in-Some.head (sym c.in-Some.ensures)) (rest_taken tail_head tail_rest c.tails.reader c.in-Some.head _ (sym c.in-Some.ensures) (rw (← c.skip.ensures) c.in_ok-tail_rest.ensures)) ∙ c.tails.invariant

pub returns-in_err-tail_rest : goal.returns-in_err-tail_rest
unfolding behind_params
returns-in_err-tail_rest c =
    let p = err_from_is_err_and c.from_residual.result c.from_residual.ensures.1 in
    rw (p.1, p.2) (stopped_then c.in_err-tail_rest.field-0.0 _ _ (λ n e. sym c.tails.invariant ∙ skip_stop behind_turns c.tails.reader n (some_head tail_head c.tails.reader c.in-Some.head (sym c.in-Some.ensures)) (rest_taken tail_head tail_rest c.tails.reader c.in-Some.head _ (sym c.in-Some.ensures) (rw (← c.skip.ensures) e))) c.in_err-tail_rest.ensures)

pub returns : goal.returns
unfolding behind_params
returns c = sym c.tails.invariant ∙ skip_over behind_turns c.tails.reader (no_head tail_head c.tails.reader (sym c.in_default.ensures))
