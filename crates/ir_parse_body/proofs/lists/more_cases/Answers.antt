use Rattle.std.proofs.Common.{◌∙◌, sym}
use Rattle.std.proofs.lemmas.Result.{err_from_is_err_and}
use Rattle.ir_grammar.proofs.Turns.{turns_more, turns_over, turns_stop, case_turns}
use Rattle.ir_parse_parts.proofs.Exits.{stopped_then}
use Rattle.ir_parse_body.proofs.lists.more_cases.Goals as goal

pub more-preserved : goal.more-preserved
more-preserved c =
    rw c.in_ok-push.ensures.ok
    (turns_more (case_turns c.args.width) c.more.cases c.more.reader c.arm_of_switch.new.reader c.in_ok-arm_of_switch.field-0 (sym c.more-test.ensures) (c.in_ok-arm_of_switch.ensures) ∙ c.more.invariant)

pub more-smaller : goal.more-smaller
more-smaller c = (case_turns c.args.width).shrinks c.more.reader c.arm_of_switch.new.reader c.in_ok-arm_of_switch.field-0 (sym c.more-test.ensures) (c.in_ok-arm_of_switch.ensures)

pub returns-in_err-arm_of_switch : goal.returns-in_err-arm_of_switch
returns-in_err-arm_of_switch c =
    let p = err_from_is_err_and c.from_residual.result c.from_residual.ensures.1 in
    rw (p.1, p.2) (stopped_then c.in_err-arm_of_switch.field-0.0 _ _ (λ n e. sym c.more.invariant ∙ turns_stop (case_turns c.args.width) c.more.cases c.more.reader n (sym c.more-test.ensures) (e)) c.in_err-arm_of_switch.ensures)

pub returns : goal.returns
returns c = sym c.more.invariant ∙ turns_over (case_turns c.args.width) c.more.cases c.more.reader (sym c.more-test.ensures)
