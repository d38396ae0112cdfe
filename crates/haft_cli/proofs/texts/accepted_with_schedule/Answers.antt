use Rattle.std.proofs.Common.{Err, ap, sym, subst}
use Rattle.haft_cli.specs.Table.{ModuleText, ScheduleText, IsNoModule, IsNoSchedule}
use Rattle.haft_cli.specs.Answers.{AreUnfit, InFirst, InSecond}
use Rattle.haft_cli.specs.Work.{Refuses, of_schedule}
use Rattle.haft_cli.proofs.Refusing.{because, refuses_too, schedule_refuses}
use Rattle.haft_cli.proofs.texts.accepted_with_schedule.Goals as goal

pub returns-in_err-a-clause-refused : goal.returns-in_err-a-clause-refused
returns-in_err-a-clause-refused c =
    because c.from_residual.result c.in_err-a.field-0.0 (Refuses (AreUnfit ModuleText ScheduleText c.args.first.now c.args.second.now)) c.from_residual.ensures.1
    (refuses_too (IsNoModule c.args.first.now) (AreUnfit ModuleText ScheduleText c.args.first.now c.args.second.now) (λ refusal unfit. InFirst unfit) c.in_err-a.field-0.0 c.in_err-a.ensures.refused)

pub returns-in-Err-clause-refused : goal.returns-in-Err-clause-refused
returns-in-Err-clause-refused c =
    subst (Refuses (AreUnfit ModuleText ScheduleText c.args.first.now c.args.second.now)) (sym c.from.ensures)
    (refuses_too (IsNoSchedule c.args.second.now) (AreUnfit ModuleText ScheduleText c.args.first.now c.args.second.now) (λ refusal unfit. InSecond c.in_ok-a.a c.in_ok-a.ensures.module unfit)
    (of_schedule c.in-Err.error) (schedule_refuses c.args.second.now c.in-Err.error (λ line e. c.in-Err.ensures.unfit line (ap Err e))))
