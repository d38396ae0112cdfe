use Rattle.std.proofs.Common.{◌∙◌, sym}
use Rattle.std.proofs.lemmas.Result.{err_from_is_err_and}
use Rattle.ir_grammar.specs.Values.{constant_index}
use Rattle.ir_grammar.proofs.PartLaws.{constant_index_law}
use Rattle.ir_grammar.proofs.Turns.{comma_turns, comma_then, turns_more, turns_over, turns_stop}
use Rattle.ir_parse_parts.proofs.Exits.{stopped_then}
use Rattle.ir_parse_parts.proofs.reader.Reader.more_indices.Goals as goal

pub more-preserved : goal.more-preserved
more-preserved c =
    rw c.in_ok-push.ensures.ok
    (turns_more (comma_turns constant_index_law) c.more.indices c.more.self c.constant_index.new.self c.in_ok-constant_index.field-0 (sym c.more-test.ensures) (comma_then constant_index c.more.self c.punct.new.self c.in_ok-punct.ensures c.in_ok-constant_index.ensures)
    ∙ c.more.invariant)

pub more-smaller : goal.more-smaller
more-smaller c = (comma_turns constant_index_law).shrinks c.more.self c.constant_index.new.self c.in_ok-constant_index.field-0 (sym c.more-test.ensures) (comma_then constant_index c.more.self c.punct.new.self c.in_ok-punct.ensures c.in_ok-constant_index.ensures)

pub returns-in_err-constant_index : goal.returns-in_err-constant_index
returns-in_err-constant_index c =
    let p = err_from_is_err_and c.from_residual-in_err-constant_index.result c.from_residual-in_err-constant_index.ensures.1 in
    rw (p.1, p.2) (stopped_then c.in_err-constant_index.field-0.0 _ _ (λ n e. sym c.more.invariant ∙ turns_stop (comma_turns constant_index_law) c.more.indices c.more.self n (sym c.more-test.ensures) (comma_then constant_index c.more.self c.punct.new.self c.in_ok-punct.ensures e)) c.in_err-constant_index.ensures)

pub returns : goal.returns
returns c = sym c.more.invariant ∙ turns_over (comma_turns constant_index_law) c.more.indices c.more.self (sym c.more-test.ensures)
