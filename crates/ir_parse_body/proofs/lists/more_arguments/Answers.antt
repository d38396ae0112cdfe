use Rattle.std.proofs.Common.{◌∙◌, sym}
use Rattle.std.proofs.lemmas.Result.{err_from_is_err_and}
use Rattle.ir_grammar.proofs.Turns.{turns_more, turns_over, turns_stop, comma_turns, comma_then}
use Rattle.ir_grammar.specs.Lines.{argument}
use Rattle.ir_grammar.proofs.LineLaws.{argument_law}
use Rattle.ir_parse_parts.proofs.Exits.{stopped_then}
use Rattle.ir_parse_body.proofs.lists.more_arguments.Goals as goal

pub more-preserved : goal.more-preserved
more-preserved c =
    rw c.in_ok-push.ensures.ok
    (turns_more (comma_turns argument_law) c.more.arguments c.more.reader c.argument.new.reader c.in_ok-argument.field-0 (sym c.more-test.ensures) (comma_then argument c.more.reader c.punct.new.self c.in_ok-punct.ensures c.in_ok-argument.ensures) ∙ c.more.invariant)

pub more-smaller : goal.more-smaller
more-smaller c = (comma_turns argument_law).shrinks c.more.reader c.argument.new.reader c.in_ok-argument.field-0 (sym c.more-test.ensures) (comma_then argument c.more.reader c.punct.new.self c.in_ok-punct.ensures c.in_ok-argument.ensures)

pub returns-in_err-argument : goal.returns-in_err-argument
returns-in_err-argument c =
    let p = err_from_is_err_and c.from_residual-in_err-argument.result c.from_residual-in_err-argument.ensures.1 in
    rw (p.1, p.2) (stopped_then c.in_err-argument.field-0.0 _ _ (λ n e. sym c.more.invariant ∙ turns_stop (comma_turns argument_law) c.more.arguments c.more.reader n (sym c.more-test.ensures) (comma_then argument c.more.reader c.punct.new.self c.in_ok-punct.ensures e)) c.in_err-argument.ensures)

pub returns : goal.returns
returns c = sym c.more.invariant ∙ turns_over (comma_turns argument_law) c.more.arguments c.more.reader (sym c.more-test.ensures)
