use Rattle.std.proofs.Common.{ℕ, List, sym, subst}
use Rattle.haft_io.specs.declared.device.Which.TheVariants.{First, Second}
use Rattle.haft_cli.specs.Table.{row_of}
use Rattle.haft_cli.specs.Outcome.{files}
use Rattle.haft_cli.specs.Work.{TakesFile, Stops}
use Rattle.haft_cli.proofs.Refusing.{because}
use Rattle.haft_cli.proofs.Reading.{first_stops, second_stops, report_fits, report_stops}
use Rattle.haft_cli.proofs.files.report.Goals as goal

pub returns-in_err-first-clause-stopped : goal.returns-in_err-first-clause-stopped
returns-in_err-first-clause-stopped g c =
    let row = row_of c.args.command in
    let old = files (g.I.Inputs.left c.args.inputs.now) (g.I.Inputs.faults c.args.inputs.now) in
    let new = files (g.I.Inputs.left c.read_file.new.inputs) (g.I.Inputs.faults c.read_file.new.inputs) in
    because c.from_residual.result c.in_err-first.field-0.0 (Stops row old new) c.from_residual.ensures.1
    (first_stops row old new c.in_err-first.ensures.other c.in_err-first.field-0.0 c.in_err-first.ensures.stopped)

pub returns-in_err-second-clause-stopped : goal.returns-in_err-second-clause-stopped
returns-in_err-second-clause-stopped g c =
    let row = row_of c.args.command in
    let old = files (g.I.Inputs.left c.args.inputs.now) (g.I.Inputs.faults c.args.inputs.now) in
    let mid = files (g.I.Inputs.left c.read_file.new.inputs) (g.I.Inputs.faults c.read_file.new.inputs) in
    let new = files (g.I.Inputs.left c.read_file-2.new.inputs) (g.I.Inputs.faults c.read_file-2.new.inputs) in
    because c.from_residual-in_err-second.result c.in_err-second.field-0.0 (Stops row old new) c.from_residual-in_err-second.ensures.1
    (second_stops row old mid new c.in_ok-first.first.items c.in_ok-first.ensures.bytes c.in_ok-first.ensures.other c.in_ok-first.ensures.unread
    c.in_err-second.ensures.other c.in_err-second.field-0.0 c.in_err-second.ensures.stopped)

pub returns-clause-report : goal.returns-clause-report
returns-clause-report g c =
    let row = row_of c.args.command in
    let old = files (g.I.Inputs.left c.args.inputs.now) (g.I.Inputs.faults c.args.inputs.now) in
    let mid = files (g.I.Inputs.left c.read_file.new.inputs) (g.I.Inputs.faults c.read_file.new.inputs) in
    let new = files (g.I.Inputs.left c.read_file-2.new.inputs) (g.I.Inputs.faults c.read_file-2.new.inputs) in
    report_fits row old mid new c.deref.result.now (subst (λ (bytes : List ℕ). TakesFile row First old mid bytes) (sym c.deref.ensures.value) c.in_ok-first.ensures.bytes)
    c.in_ok-first.ensures.other c.in_ok-first.ensures.unread c.in_ok-second.ensures.other
    c.deref-2.result.now (subst (λ (bytes : List ℕ). TakesFile row Second mid new bytes) (sym c.deref-2.ensures.value) c.in_ok-second.ensures.bytes)
    c.in_ok-second.ensures.unread c.report.result c.report.ensures.report

pub returns-clause-stopped : goal.returns-clause-stopped
returns-clause-stopped g c =
    let row = row_of c.args.command in
    let old = files (g.I.Inputs.left c.args.inputs.now) (g.I.Inputs.faults c.args.inputs.now) in
    let mid = files (g.I.Inputs.left c.read_file.new.inputs) (g.I.Inputs.faults c.read_file.new.inputs) in
    let new = files (g.I.Inputs.left c.read_file-2.new.inputs) (g.I.Inputs.faults c.read_file-2.new.inputs) in
    report_stops row old mid new c.deref.result.now (subst (λ (bytes : List ℕ). TakesFile row First old mid bytes) (sym c.deref.ensures.value) c.in_ok-first.ensures.bytes)
    c.in_ok-first.ensures.other c.in_ok-first.ensures.unread c.in_ok-second.ensures.other
    c.deref-2.result.now (subst (λ (bytes : List ℕ). TakesFile row Second mid new bytes) (sym c.deref-2.ensures.value) c.in_ok-second.ensures.bytes)
    c.in_ok-second.ensures.unread c.report.result c.report.ensures.refused
