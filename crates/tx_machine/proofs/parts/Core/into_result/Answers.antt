use Rattle.std.proofs.Common.{◌∙◌, List, ap}
use Rattle.std.specs.Prelude.{unwrap_or}
use Rattle.turn_runs.specs.Runs.{grouped}
use Rattle.hard_frames.specs.declared.outcome.Stop.TheVariants.{Bound}
use Rattle.upset_model.specs.declared.records.Record.{Record}
use Rattle.tx_machine.specs.Own.{OwnParts}
use Rattle.tx_machine.specs.Core.{CoreParts}
use Rattle.tx_machine.specs.Log.{hit_all}
use Rattle.tx_machine.specs.Upsets.{all_carried, own_aborts}
use Rattle.tx_machine.proofs.MeantResults.{result-meant}
use Rattle.tx_machine.proofs.parts.Core.into_result.Goals as goal

pub returns : goal.returns
returns c =
    result-meant c.args.self c.args.log c.requires c.into_outputs.result c.from_vec.result c.sum_aborts-aborts.result c.stop_or_bound.result c.into_runs.result
    (c.into_outputs.ensures ∙ ap (λ (p : CoreParts). p.world.outputs) c.self.view_is)
    (c.from_vec.ensures ∙ c.hit_carried.ensures
    ∙ ap (λ (ws : List OwnParts). hit_all (all_carried ws) c.into_kept-records.result.items) (c.deref.ensures.value ∙ ap (λ (p : CoreParts). p.own) c.self.view_is)
    ∙ ap (λ (rs : List Record). hit_all (all_carried c.args.self.own) rs) c.into_kept-records.ensures)
    (c.sum_aborts-aborts.ensures ∙ ap own_aborts (c.deref-2.ensures.value ∙ ap (λ (p : CoreParts). p.own) c.self.view_is))
    (c.stop_or_bound.ensures ∙ ap (λ (p : CoreParts). unwrap_or p.stop Bound) c.self.view_is)
    (c.into_runs.ensures ∙ ap (λ (p : CoreParts). grouped p.turns) c.self.view_is)
