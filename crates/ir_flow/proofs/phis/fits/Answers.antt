use Rattle.std.proofs.Common.{subst, length}
use Rattle.std.specs.Prelude.{Option, MatchOption}
use Rattle.ir_flow.specs.Phis.{FitsTo, ArmsKnown, Places}
use Rattle.ir_flow.proofs.Arms.{fits-by}
use Rattle.ir_flow.proofs.phis.fits.Goals as goal

pub returns-in-Some : goal.returns-in-Some
returns-in-Some c = fits-by c.args.blocks.now c.args.preds.now c.args.arms.now c.in-Some.places c.all_named.result (subst (λ (o : Option Places). MatchOption o (FitsTo c.args.blocks.now c.args.preds.now c.args.arms.now → ⊥) (λ places. ArmsKnown c.args.blocks.now c.args.preds.now c.args.arms.now (length c.args.arms.now) places)) c.in-Some.is c.in_ok-first_arms.ensures) c.all_named.ensures
