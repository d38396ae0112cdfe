use Rattle.std.proofs.Common.{map, string_bytes}
use Rattle.haft_io.specs.Device.{Rose}
use Rattle.haft_cli.specs.Command.{command_of}
use Rattle.haft_cli.specs.Outcome.{files}
use Rattle.haft_cli.proofs.Ending.{clauses_of, meant_of, never_fails_of}
use Rattle.haft_cli.proofs.top.haft.Goals as goal

pub returns-clause-read_fault : goal.returns-clause-read_fault
returns-clause-read_fault g c = (clauses_of (command_of (map string_bytes c.args.words.now)) c.in-Some.command
    (files (g.I.Inputs.left c.args.inputs.now) (g.I.Inputs.faults c.args.inputs.now)) (files (g.I.Inputs.left c.report-report.new.inputs) (g.I.Inputs.faults c.report-report.new.inputs))
    c.tell.result (g.O.Sink.written c.args.out.now) (g.O.Sink.written c.tell.new.out) (Rose (g.O.Sink.faults c.args.out.now) (g.O.Sink.faults c.tell.new.out)) c.report-report.result
    c.in-Some.ensures c.report-report.ensures.report c.report-report.ensures.stopped c.tell.ensures.tells).read_fault

pub returns-clause-write_fault : goal.returns-clause-write_fault
returns-clause-write_fault g c = (clauses_of (command_of (map string_bytes c.args.words.now)) c.in-Some.command
    (files (g.I.Inputs.left c.args.inputs.now) (g.I.Inputs.faults c.args.inputs.now)) (files (g.I.Inputs.left c.report-report.new.inputs) (g.I.Inputs.faults c.report-report.new.inputs))
    c.tell.result (g.O.Sink.written c.args.out.now) (g.O.Sink.written c.tell.new.out) (Rose (g.O.Sink.faults c.args.out.now) (g.O.Sink.faults c.tell.new.out)) c.report-report.result
    c.in-Some.ensures c.report-report.ensures.report c.report-report.ensures.stopped c.tell.ensures.tells).write_fault

pub returns-clause-outcome : goal.returns-clause-outcome
returns-clause-outcome g c = (clauses_of (command_of (map string_bytes c.args.words.now)) c.in-Some.command
    (files (g.I.Inputs.left c.args.inputs.now) (g.I.Inputs.faults c.args.inputs.now)) (files (g.I.Inputs.left c.report-report.new.inputs) (g.I.Inputs.faults c.report-report.new.inputs))
    c.tell.result (g.O.Sink.written c.args.out.now) (g.O.Sink.written c.tell.new.out) (Rose (g.O.Sink.faults c.args.out.now) (g.O.Sink.faults c.tell.new.out)) c.report-report.result
    c.in-Some.ensures c.report-report.ensures.report c.report-report.ensures.stopped c.tell.ensures.tells).outcome

pub returns-clause-exact : goal.returns-clause-exact
returns-clause-exact g c = (clauses_of (command_of (map string_bytes c.args.words.now)) c.in-Some.command
    (files (g.I.Inputs.left c.args.inputs.now) (g.I.Inputs.faults c.args.inputs.now)) (files (g.I.Inputs.left c.report-report.new.inputs) (g.I.Inputs.faults c.report-report.new.inputs))
    c.tell.result (g.O.Sink.written c.args.out.now) (g.O.Sink.written c.tell.new.out) (Rose (g.O.Sink.faults c.args.out.now) (g.O.Sink.faults c.tell.new.out)) c.report-report.result
    c.in-Some.ensures c.report-report.ensures.report c.report-report.ensures.stopped c.tell.ensures.tells).exact

pub returns-clause-complete : goal.returns-clause-complete
returns-clause-complete g c = (clauses_of (command_of (map string_bytes c.args.words.now)) c.in-Some.command
    (files (g.I.Inputs.left c.args.inputs.now) (g.I.Inputs.faults c.args.inputs.now)) (files (g.I.Inputs.left c.report-report.new.inputs) (g.I.Inputs.faults c.report-report.new.inputs))
    c.tell.result (g.O.Sink.written c.args.out.now) (g.O.Sink.written c.tell.new.out) (Rose (g.O.Sink.faults c.args.out.now) (g.O.Sink.faults c.tell.new.out)) c.report-report.result
    c.in-Some.ensures c.report-report.ensures.report c.report-report.ensures.stopped c.tell.ensures.tells).complete

pub returns-clause-meaning : goal.returns-clause-meaning
returns-clause-meaning g c = λ m s run done good covered. meant_of (command_of (map string_bytes c.args.words.now)) (g.I.Inputs.left c.args.inputs.now) m s run good covered

pub returns-clause-never_fails : goal.returns-clause-never_fails
returns-clause-never_fails g c = λ m s run done good gone failed. never_fails_of (command_of (map string_bytes c.args.words.now)) (g.I.Inputs.left c.args.inputs.now) m s run good gone failed
