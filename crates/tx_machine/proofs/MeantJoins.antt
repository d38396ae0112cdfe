-- A thread that is waited for, and the program's end, are those of the definitions.
use Rattle.std.proofs.Common.{ℕ, ◌≡◌, ◌∙◌, ◌≤◌, ◌%◌, ◌^◌, Bool, true, false, List, [], ◌∷◌, map, length, Option, Some, None, slice_get, refl, ap, sym, subst, arith}
use Rattle.std.specs.Option.{is_some, option_map}
use Rattle.std.proofs.lemmas.List.{length-map}
use Rattle.std.proofs.lemmas.Option.{slice_get-map}
use Rattle.ir_core.specs.declared.types.Loc.{Loc}
use Rattle.ir_core.specs.declared.values.Side.{Side}
use Rattle.inst_meaning.specs.declared.actions.Action.TheVariants.{Join, Exit}
use Rattle.process.specs.declared.state.CallStack.{CallStack}
use Rattle.process.specs.declared.state.Thread.{Thread}
use Rattle.process.specs.declared.state.Thread.TheVariants.{Running, Exiting, Ended}
use Rattle.process.specs.Outcome as outcomes
use Rattle.process.specs.Outcome.{Ends, outcome_of}
use Rattle.hard_frames.specs.declared.outcome.Stop.TheVariants.{End}
use Rattle.hard_frames.specs.declared.state.Frame.{Frame}
use Rattle.hard_frames.specs.Frames.{frames}
use Rattle.elide.specs.Watches.{WatchParts}
use Rattle.rtm_core.specs.Transactions.{Transaction}
use Rattle.hard_meaning.specs.State.{Mode, Worker, State, Upset, seen}
use Rattle.hard_meaning.specs.Effects.{turns_after}
use Rattle.hard_meaning.specs.Turns.{settled, acted}
use Rattle.tx_machine.specs.Own.{OwnParts}
use Rattle.tx_machine.specs.Joined.{joined_one, joined}
use Rattle.tx_machine.specs.Core.{CoreParts}
use Rattle.tx_machine.specs.Turned.{has_ended, ended_at, awaited_as, core_awaited, told_outside, core_left}
use Rattle.tx_machine.specs.Meant.{state_of, IsTied, StandsAt}
use Rattle.tx_machine.proofs.Meant.{open-is}
use Rattle.tx_machine.proofs.MeantAborts.{trapped-meant, trapped-tied}
use Rattle.tx_machine.proofs.MeantActions.{told_by, told_turns, told-by, told-turns, acted-none}
use Rattle.tx_machine.proofs.MeantCalls.{called-meant, called-tied}
use Rattle.tx_machine.proofs.MeantWatches.{turns-inside}

-- ---- the threads as they are seen

same-threads : (ws : List OwnParts) (xs : List (Option (Transaction (CallStack Frame)))) (ks : List WatchParts) → length ws ≤ length xs → length ws ≤ length ks
    → map (λ (v : Worker). v.thread) (joined ws xs ks) ≡ map (λ (w : OwnParts). w.thread) ws
same-threads [] xs ks e f = refl
same-threads (w ∷ ws) [] ks e f = absurd (omega (arith, e))
same-threads (w ∷ ws) (x ∷ xs) [] e f = absurd (omega (arith, f))
same-threads (w ∷ ws) (x ∷ xs) (k ∷ ks) e f = ap (λ (rest : List (Thread Frame)). w.thread ∷ rest) (same-threads ws xs ks (omega (arith, e)) (omega (arith, f)))

module _ (p : CoreParts) (ups : List Upset) (m : Mode) (tied : IsTied p) where
  pub threads-are : (seen (state_of p ups) m).threads ≡ map (λ (w : OwnParts). w.thread) p.own
  threads-are = same-threads p.own p.rtm.threads p.watches
      (subst (λ (n : ℕ). length p.own ≤ n) (sym tied.threads) tied.own) (subst (λ (n : ℕ). length p.own ≤ n) (sym tied.watches) tied.own)

  pub thread-at : (other : ℕ) → slice_get (seen (state_of p ups) m).threads other ≡ option_map (λ (w : OwnParts). w.thread) (slice_get p.own other)
  thread-at other = ap (λ (ths : List (Thread Frame)). slice_get ths other) threads-are ∙ slice_get-map (λ (w : OwnParts). w.thread) p.own other

  pub count-is : length (seen (state_of p ups) m).threads ≡ length p.own
  count-is = ap (λ (ths : List (Thread Frame)). length ths) threads-are ∙ length-map p.own (λ (w : OwnParts). w.thread)

-- ---- a turn outside

module _ (p : CoreParts) (t : ℕ) (w : OwnParts) (k : WatchParts) (ups : List Upset) (retires : Bool) where
  abbrev turns_as : List ℕ → State
  turns_as turns = record (state_of p ups) { turns = turns }

  told-free : (b : Bool) → state_of (told_by b false t p) ups ≡ turns_as (told_turns b false t p.turns)
  told-free true = refl
  told-free false = refl

  free-tied : (b : Bool) → IsTied p → IsTied (told_by b false t p)
  free-tied true tied = record { threads = tied.threads; watches = tied.watches; own = tied.own; tied = tied.tied }
  free-tied false tied = tied

  outside-told : (x : Option (Transaction (CallStack Frame))) → StandsAt p t w x k
      → state_of (told_outside (is_some x) retires t p) ups ≡ turns_as (turns_after (joined_one w x k).mode retires t p.turns)
  outside-told None at = ap (λ (q : CoreParts). state_of q ups) (told-by retires t p ∙ ap (λ (b : Bool). told_by retires b t p) (open-is p t w None k at ups))
      ∙ told-free retires ∙ ap turns_as (told-turns w.words.mode retires w None k t p.turns at.tied)
  outside-told (Some tx) at = ap turns_as (sym (turns-inside w.words.mode w tx k retires t p.turns at.tied))

  outside-tied : (x : Option (Transaction (CallStack Frame))) → StandsAt p t w x k → IsTied p → IsTied (told_outside (is_some x) retires t p)
  outside-tied None at tied =
      subst IsTied (sym (told-by retires t p ∙ ap (λ (b : Bool). told_by retires b t p) (open-is p t w None k at ups))) (free-tied retires tied)
  outside-tied (Some tx) at tied = tied

-- ---- both actions

module _ (p : CoreParts) (t : ℕ) (w : OwnParts) (x : Option (Transaction (CallStack Frame))) (k : WatchParts) (at : StandsAt p t w x k) (ups : List Upset)
    (retires : Bool) (target : Option (Side × Loc)) where
  awaited-tied-by : (o : Option Bool) → IsTied p → IsTied (awaited_as o retires target t p)
  awaited-tied-by None tied = trapped-tied p t w x k at ups tied
  awaited-tied-by (Some false) tied = tied
  awaited-tied-by (Some true) tied = called-tied p t w x k at ups retires target 0 tied

  pub awaited-tied : (other : ℕ) → IsTied p → IsTied (core_awaited retires target other t p)
  awaited-tied other tied = awaited-tied-by (ended_at p other) tied

  pub left-tied : (code : ℕ) → IsTied p → IsTied (core_left retires code t p)
  left-tied code tied =
      let told : IsTied (told_outside (is_some x) retires t p) = outside-tied p t w k ups retires x at tied in
      subst (λ (b : Bool). IsTied (record (told_outside b retires t p) { stop = Some (End (code % 2 ^ 32)) })) (sym (open-is p t w x k at ups))
      (record { threads = told.threads; watches = told.watches; own = told.own; tied = told.tied })

  -- where it runs
  module _ (stack : CallStack Frame) (runs : w.thread ≡ Running stack) where
    abbrev s : State
    s = state_of p ups

    abbrev one : Worker
    one = joined_one w x k

    abbrev settled_as : Option (Thread Frame) → State
    settled_as o = settled p.program s t one stack.frame retires None (outcomes.joined (frames p.program) (seen s one.mode) target stack o)

    ended-by : (thread : Thread Frame) → state_of (awaited_as (Some (has_ended thread)) retires target t p) ups ≡ settled_as (Some thread)
    ended-by (Running other) = refl
    ended-by (Exiting n) = refl
    ended-by Ended = called-meant p t w x k at ups retires target 0 stack runs

    awaited-by : (o : Option OwnParts) → state_of (awaited_as (option_map (λ (v : OwnParts). has_ended v.thread) o) retires target t p) ups
        ≡ settled_as (option_map (λ (v : OwnParts). v.thread) o)
    awaited-by None = trapped-meant p t w x k at ups stack runs
    awaited-by (Some other) = ended-by other.thread

    pub awaited-meant : (other : ℕ) → IsTied p → state_of (core_awaited retires target other t p) ups
        ≡ acted p.program s t one stack target retires (Join other)
    awaited-meant other tied = awaited-by (slice_get p.own other)
        ∙ ap settled_as (sym (thread-at p ups one.mode tied other))
        ∙ sym (acted-none p.program s t one stack target retires (Join other) one.mode)

    pub left-meant : (code : ℕ) → state_of (core_left retires code t p) ups ≡ acted p.program s t one stack target retires (Exit code)
    left-meant code =
        ap (λ (b : Bool). state_of (record (told_outside b retires t p) { stop = Some (End (code % 2 ^ 32)) }) ups) (open-is p t w x k at ups)
        ∙ ap (λ (z : State). record z { stop = Some (End (code % 2 ^ 32)) }) (outside-told p t w k ups retires x at)
        ∙ sym (acted-none p.program s t one stack target retires (Exit code) one.mode)
