use Rattle.std.proofs.Common.{Bool, sym, subst}
use Rattle.std.specs.Bool.{Decides}
use Rattle.ir_core.specs.Lines.{IsDropped}
use Rattle.ir_core.proofs.DroppedLines.{is_dropped-Decides}
use Rattle.ir_lex.proofs.dropped.is_dropped.Goals as goal

pub returns : goal.returns
returns c = subst (λ (r : Bool). Decides r (IsDropped c.args.place c.args.line.now)) (sym c.has_dropped_form.ensures) (is_dropped-Decides c.args.place c.args.line.now)
