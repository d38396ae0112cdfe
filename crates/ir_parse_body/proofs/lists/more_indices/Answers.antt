use Rattle.std.proofs.Common.{◌∙◌, sym}
use Rattle.std.proofs.lemmas.Result.{err_from_is_err_and}
use Rattle.ir_grammar.proofs.Turns.{turns_more, turns_over, turns_stop, index_turns}
use Rattle.ir_parse_parts.proofs.Exits.{stopped_then}
use Rattle.ir_parse_body.proofs.lists.more_indices.Goals as goal

pub more-preserved : goal.more-preserved
more-preserved c =
    rw c.in_ok-push.ensures.ok
    (turns_more (index_turns) c.more.indices c.more.reader c.index.new.reader c.in_ok-index.field-0 (sym c.more-test.ensures) (c.in_ok-index.ensures) ∙ c.more.invariant)

pub more-smaller : goal.more-smaller
more-smaller c = (index_turns).shrinks c.more.reader c.index.new.reader c.in_ok-index.field-0 (sym c.more-test.ensures) (c.in_ok-index.ensures)

pub returns-in_err-index : goal.returns-in_err-index
returns-in_err-index c =
    let p = err_from_is_err_and c.from_residual.result c.from_residual.ensures.1 in
    rw (p.1, p.2) (stopped_then c.in_err-index.field-0.0 _ _ (λ n e. sym c.more.invariant ∙ turns_stop (index_turns) c.more.indices c.more.reader n (sym c.more-test.ensures) (e)) c.in_err-index.ensures)

pub returns : goal.returns
returns c = sym c.more.invariant ∙ turns_over (index_turns) c.more.indices c.more.reader (sym c.more-test.ensures)
