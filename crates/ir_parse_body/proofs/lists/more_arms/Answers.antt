use Rattle.std.proofs.Common.{◌∙◌, sym}
use Rattle.std.proofs.lemmas.Result.{err_from_is_err_and}
use Rattle.ir_grammar.proofs.Turns.{turns_more, turns_over, turns_stop, arm_turns, comma_then}
use Rattle.ir_grammar.specs.Lines.{arm}
use Rattle.ir_parse_parts.proofs.Exits.{stopped_then}
use Rattle.ir_parse_body.proofs.lists.more_arms.Goals as goal

pub more-preserved : goal.more-preserved
more-preserved c =
    rw c.in_ok-push.ensures.ok
    (turns_more (arm_turns c.args.ty.now) c.more.arms c.more.reader c.arm.new.reader c.in_ok-arm.field-0 (sym c.more-test.ensures) (comma_then (arm c.args.ty.now) c.more.reader c.punct.new.self c.in_ok-punct.ensures c.in_ok-arm.ensures) ∙ c.more.invariant)

pub more-smaller : goal.more-smaller
more-smaller c = (arm_turns c.args.ty.now).shrinks c.more.reader c.arm.new.reader c.in_ok-arm.field-0 (sym c.more-test.ensures) (comma_then (arm c.args.ty.now) c.more.reader c.punct.new.self c.in_ok-punct.ensures c.in_ok-arm.ensures)

pub returns-in_err-arm : goal.returns-in_err-arm
returns-in_err-arm c =
    let p = err_from_is_err_and c.from_residual-in_err-arm.result c.from_residual-in_err-arm.ensures.1 in
    rw (p.1, p.2) (stopped_then c.in_err-arm.field-0.0 _ _ (λ n e. sym c.more.invariant ∙ turns_stop (arm_turns c.args.ty.now) c.more.arms c.more.reader n (sym c.more-test.ensures) (comma_then (arm c.args.ty.now) c.more.reader c.punct.new.self c.in_ok-punct.ensures e)) c.in_err-arm.ensures)

pub returns : goal.returns
returns c = sym c.more.invariant ∙ turns_over (arm_turns c.args.ty.now) c.more.arms c.more.reader (sym c.more-test.ensures)
