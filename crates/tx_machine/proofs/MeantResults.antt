-- What a run comes to, by the code's parts, is what the definitions say.
use Rattle.std.proofs.Common.{ℕ, ◌≡◌, ◌∙◌, ◌≤◌, List, [], ◌∷◌, length, map, Option, refl, ap, sym, arith}
use Rattle.std.specs.Prelude.{unwrap_or}
use Rattle.ir_core.specs.declared.types.Tid.{Tid}
use Rattle.ir_core.specs.declared.values.Out.{Out}
use Rattle.upset_model.specs.declared.records.Record.{Record}
use Rattle.turn_runs.specs.Runs.{grouped}
use Rattle.process.specs.declared.state.CallStack.{CallStack}
use Rattle.hard_frames.specs.declared.outcome.Aborts.{Aborts}
use Rattle.hard_frames.specs.declared.outcome.Stop.{Stop}
use Rattle.hard_frames.specs.declared.outcome.Stop.TheVariants.{Bound}
use Rattle.hard_frames.specs.declared.state.Frame.{Frame}
use Rattle.elide.specs.Watches.{WatchParts}
use Rattle.rtm_core.specs.Transactions.{Transaction}
use Rattle.hard_meaning.specs.State.{Upset}
use Rattle.hard_meaning.specs.Records.{records}
use Rattle.hard_meaning.specs.Runs.{RunParts, added, all_aborts, result_of}
use Rattle.tx_machine.specs.Own.{OwnParts}
use Rattle.tx_machine.specs.Joined.{joined}
use Rattle.tx_machine.specs.Log.{kept, hit_all}
use Rattle.tx_machine.specs.Core.{CoreParts}
use Rattle.tx_machine.specs.Meant.{state_of, AreTied, IsTied}
use Rattle.tx_machine.specs.Upsets.{all_carried, own_aborts}
use Rattle.tx_machine.proofs.Logs.{records-by, hit-kept}
use Rattle.tx_machine.proofs.MeantUpsets.{all-carried}

-- the records of the upsets
pub records-meant : (p : CoreParts) (ups : List Upset) → IsTied p → hit_all (all_carried p.own) (map kept ups) ≡ records (state_of p ups)
records-meant p ups tied =
    hit-kept (all_carried p.own) ups ∙ sym (records-by (state_of p ups).workers (all_carried p.own) (all-carried p ups tied) ups)

aborts-joined : (ws : List OwnParts) (xs : List (Option (Transaction (CallStack Frame)))) (ks : List WatchParts) → AreTied ws xs → length ws ≤ length ks
    → own_aborts ws ≡ all_aborts (joined ws xs ks)
aborts-joined [] xs ks tied few = refl
aborts-joined (w ∷ ws) [] ks tied few = absurd tied
aborts-joined (w ∷ ws) (x ∷ xs) [] tied few = absurd (omega (arith, few))
aborts-joined (w ∷ ws) (x ∷ xs) (k ∷ ks) tied few =
    ap (λ (rest : Aborts). added w.aborts rest) (aborts-joined ws xs ks tied.1 (omega (arith, few)))

-- the aborts of all threads
pub aborts-meant : (p : CoreParts) (ups : List Upset) → IsTied p → own_aborts p.own ≡ all_aborts (state_of p ups).workers
aborts-meant p ups tied =
    let few = tied.own in
    let many = tied.watches in
    aborts-joined p.own p.rtm.threads p.watches tied.tied (omega (arith, few, many))

-- the whole
pub result-meant : (p : CoreParts) (ups : List Upset) → IsTied p → (outs : List Out) (rs : List Record) (sum : Aborts) (stop : Stop) (turns : List (Tid × ℕ))
    → outs ≡ p.world.outputs → rs ≡ hit_all (all_carried p.own) (map kept ups) → sum ≡ own_aborts p.own → stop ≡ unwrap_or p.stop Bound → turns ≡ grouped p.turns
    → record { outs = outs; upsets = rs; aborts = sum; stop = stop; turns = turns } ≡ result_of (state_of p ups)
result-meant p ups tied outs rs sum stop turns e f g h i =
    let made : List Out → List Record → Aborts → Stop → List (Tid × ℕ) → RunParts =
    λ (o : List Out) (r : List Record) (a : Aborts) (s : Stop) (t : List (Tid × ℕ)). record { outs = o; upsets = r; aborts = a; stop = s; turns = t } in
    ap (λ (o : List Out). made o rs sum stop turns) e
    ∙ ap (λ (r : List Record). made p.world.outputs r sum stop turns) (f ∙ records-meant p ups tied)
    ∙ ap (λ (a : Aborts). made p.world.outputs (records (state_of p ups)) a stop turns) (g ∙ aborts-meant p ups tied)
    ∙ ap (λ (s : Stop). made p.world.outputs (records (state_of p ups)) (all_aborts (state_of p ups).workers) s turns) h
    ∙ ap (made p.world.outputs (records (state_of p ups)) (all_aborts (state_of p ups).workers) (unwrap_or p.stop Bound)) i
