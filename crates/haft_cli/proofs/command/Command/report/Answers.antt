use Rattle.std.proofs.Common.{ap, sym}
use Rattle.haft_cli.specs.declared.command.Command.TheVariants.{Check, Run, Src}
use Rattle.haft_cli.specs.Table.{Unread, ModuleText, IsNoModule, Report, Refused, row_of}
use Rattle.haft_cli.specs.Answers.{AreUnfit, InFirst, Works}
use Rattle.haft_cli.specs.Work.{Refuses}
use Rattle.haft_cli.proofs.Refusing.{because, refuses_too}
use Rattle.haft_cli.proofs.Working.{refused_for, fits_for}
use Rattle.haft_cli.proofs.command.Command.report.Goals as goal

pub returns-in_err-a-in-Check-clause-refused : goal.returns-in_err-a-in-Check-clause-refused
returns-in_err-a-in-Check-clause-refused c =
    because c.from_residual.result c.in_err-a-in-Check.field-0.0 (Refuses (λ refusal. Works (row_of c.args.self) c.args.first.now c.args.second.now (Refused refusal))) c.from_residual.ensures.1
    (refused_for c.args.self Check c.in-Check.is c.args.first.now c.args.second.now c.in_err-a-in-Check.field-0.0
    (refuses_too (IsNoModule c.args.first.now) (AreUnfit ModuleText Unread c.args.first.now c.args.second.now) (λ refusal unfit. InFirst unfit) c.in_err-a-in-Check.field-0.0 c.in_err-a-in-Check.ensures.refused))

pub returns-in_ok-text-in-Check-clause-report : goal.returns-in_ok-text-in-Check-clause-report
returns-in_ok-text-in-Check-clause-report c =
    fits_for c.args.self Check c.in-Check.is c.args.first.now c.args.second.now c.in_ok-a-in-Check.a tt c.in_ok-a-in-Check.ensures.module tt
    (Report c.in_ok-text-in-Check.field-0.items) (ap Report (sym c.in_ok-text-in-Check.ensures))

pub returns-in_err-a-in-Run-clause-refused : goal.returns-in_err-a-in-Run-clause-refused
returns-in_err-a-in-Run-clause-refused c =
    because c.from_residual-in_err-a-in-Run.result c.in_err-a-in-Run.field-0.0 (Refuses (λ refusal. Works (row_of c.args.self) c.args.first.now c.args.second.now (Refused refusal))) c.from_residual-in_err-a-in-Run.ensures.1
    (refused_for c.args.self Run c.in-Run.is c.args.first.now c.args.second.now c.in_err-a-in-Run.field-0.0 c.in_err-a-in-Run.ensures.refused)

pub returns-in_ok-text-in-Run-clause-report : goal.returns-in_ok-text-in-Run-clause-report
returns-in_ok-text-in-Run-clause-report c =
    fits_for c.args.self Run c.in-Run.is c.args.first.now c.args.second.now c.in_ok-a-in-Run.a c.in_ok-a-in-Run.s c.in_ok-a-in-Run.ensures.module c.in_ok-a-in-Run.ensures.schedule
    (Report c.in_ok-text-in-Run.field-0.items) (ap Report (sym c.in_ok-text-in-Run.ensures))

pub returns-in_err-a-in-Src-clause-refused : goal.returns-in_err-a-in-Src-clause-refused
returns-in_err-a-in-Src-clause-refused c =
    because c.from_residual-in_err-a-in-Src.result c.in_err-a-in-Src.field-0.0 (Refuses (λ refusal. Works (row_of c.args.self) c.args.first.now c.args.second.now (Refused refusal))) c.from_residual-in_err-a-in-Src.ensures.1
    (refused_for c.args.self Src c.in-Src.is c.args.first.now c.args.second.now c.in_err-a-in-Src.field-0.0 c.in_err-a-in-Src.ensures.refused)

pub returns-in_ok-text-in-Src-clause-report : goal.returns-in_ok-text-in-Src-clause-report
returns-in_ok-text-in-Src-clause-report c =
    fits_for c.args.self Src c.in-Src.is c.args.first.now c.args.second.now c.in_ok-a-in-Src.a c.in_ok-a-in-Src.s c.in_ok-a-in-Src.ensures.module c.in_ok-a-in-Src.ensures.schedule
    (Report c.in_ok-text-in-Src.field-0.items) (ap Report (sym c.in_ok-text-in-Src.ensures))
