use Rattle.std.proofs.Common.{Err, ap}
use Rattle.haft_cli.specs.Table.{IsNoModule}
use Rattle.haft_cli.specs.Work.{Refuses, of_parse, of_check}
use Rattle.haft_cli.proofs.Refusing.{because, parse_refuses, check_refuses}
use Rattle.haft_cli.proofs.texts.accepted.Goals as goal

pub returns-in_err-m-clause-refused : goal.returns-in_err-m-clause-refused
returns-in_err-m-clause-refused c =
    because c.from_residual.result (of_parse c.in_err-m.field-0.0) (Refuses (IsNoModule c.args.text.now)) c.from_residual.ensures.1
    (parse_refuses c.args.text.now c.in_err-m.field-0.0 (λ line word e. c.in_err-m.ensures.refused line word (ap Err e)) (λ line column e. c.in_err-m.ensures.bad_byte line column (ap Err e)))

pub returns-in_err-a-clause-refused : goal.returns-in_err-a-clause-refused
returns-in_err-a-clause-refused c =
    because c.from_residual-in_err-a.result (of_check c.in_err-a.field-0.0) (Refuses (IsNoModule c.args.text.now)) c.from_residual-in_err-a.ensures.1
    (check_refuses c.args.text.now c.in_ok-m.m c.in_err-a.field-0.0 c.in_ok-m.ensures.module c.in_err-a.ensures.fault)
