-- the machine after an action
use Rattle.std.proofs.Common.{ap, sym, ◌∙◌}
use Rattle.hard_frames.specs.declared.outcome.Stop.TheVariants.{End, Trap}
use Rattle.hard_machine.specs.State.{Machined}
use Rattle.hard_machine.specs.Step.{stopped}
use Rattle.hard_machine.specs.Telling.{place_at}
use Rattle.hard_machine.proofs.Settling.{went_machine, ended_machine, trapped_machine, undefined_machine}
use Rattle.hard_machine.proofs.machines.Machine.act.Goals as goal

pub returns-in-Err-clause-err : goal.returns-in-Err-clause-err
returns-in-Err-clause-err c =
    c.in-Err.ensures.err ∙ c.in_ok-attempt.ensures.state
    ∙ undefined_machine c.args.self.now c.args.retires c.args.dst c.args.action.now c.args.t.0 c.in-Undefined.field-0 c.requires.runs (sym c.in_ok-attempt.ensures.answer ∙ c.in-Undefined.is)

pub returns-in_default-trap-clause-ok : goal.returns-in_default-trap-clause-ok
returns-in_default-trap-clause-ok c =
    c.in_default-trap.ensures.ok
    ∙ ap (λ (v : Machined). record v { state = stopped v.state (Trap c.args.t (place_at v.program v.state c.args.t.0)) }) c.in_ok-attempt.ensures.state
    ∙ trapped_machine c.args.self.now c.args.retires c.args.dst c.args.action.now c.args.t c.in-Undefined.field-0 c.requires.runs (sym c.in_ok-attempt.ensures.answer ∙ c.in-Undefined.is)

pub returns-in-Ended-clause-ok : goal.returns-in-Ended-clause-ok
returns-in-Ended-clause-ok c =
    c.end.ensures
    ∙ ap (λ (v : Machined). record v { state = stopped v.state (End c.in-Ended.code) }) c.in_ok-attempt.ensures.state
    ∙ ended_machine c.args.self.now c.args.retires c.args.dst c.args.action.now c.args.t.0 c.in-Ended.code c.requires.runs (sym c.in_ok-attempt.ensures.answer ∙ c.in-Ended.is)

pub returns-in_default : goal.returns-in_default
returns-in_default c = record {
  ok = c.in_ok-attempt.ensures.state
      ∙ went_machine c.args.self.now c.args.retires c.args.dst c.args.action.now c.args.t.0 c.requires.runs
      (λ cause e. c.in_default.not-Undefined cause (c.in_ok-attempt.ensures.answer ∙ e))
      (λ code e. c.in_default.not-Ended code (c.in_ok-attempt.ensures.answer ∙ e));
  err = tt;
}
