-- A word that was read inside, and isn't the one that is asked for: its thread is aborted after those in the way of its access.
use Rattle.std.proofs.Common.{ℕ, ◌≡◌, ◌∙◌, List, map, Option, Some, None, false, ap}
use Rattle.mem_image.specs.Touches.{Touch}
use Rattle.process.specs.declared.state.CallStack.{CallStack}
use Rattle.process.specs.declared.state.Thread.{Thread}
use Rattle.hard_frames.specs.declared.state.Frame.{Frame}
use Rattle.elide.specs.Watches.{WatchParts}
use Rattle.rtm_core.specs.Transactions.Entry.{Entered}
use Rattle.rtm_core.specs.Transactions.{Transaction as RtmTransaction}
use Rattle.hard_meaning.specs.State.{Transaction, Mode, Free, Inside, Worker, State, Upset}
use Rattle.hard_meaning.specs.Aborts.{Mismatch, aborted, spared}
use Rattle.hard_meaning.specs.Effects.{with_worker, mode_after, did}
use Rattle.hard_meaning.specs.Turns.{matched}
use Rattle.tx_machine.specs.Own.{OwnParts}
use Rattle.tx_machine.specs.Joined.{joined_one}
use Rattle.tx_machine.specs.Core.{CoreParts, core_aborted, touched_as}
use Rattle.tx_machine.specs.Meant.{state_of, IsTied, StandsAt}
use Rattle.tx_machine.proofs.Meant.{set-set}
use Rattle.tx_machine.proofs.MeantAborts.{aborted-meant, aborted-tied}
use Rattle.tx_machine.proofs.MeantTouches.{touched_one, touched-meant, touched-tied, touched-stands, touched-worker}

abbrev did_read : State → ℕ → Worker → Thread Frame → Touch → State
did_read s t w thread touch = did s t w false None (record { thread = thread; world = s.world; born = None; touch = Some touch; store = None })

abbrev touched : Touch → Worker → Worker
touched touch w = record w { mode = mode_after false (Some touch) None w.mode }

inside-mismatch : (s : State) (t : ℕ) (w : Worker) (tx : Transaction) (stack : CallStack Frame) (touch : Touch)
    → with_worker (did_read s t (record w { mode = Inside tx }) w.thread touch) t (aborted Mismatch (touched touch (record w { mode = Inside tx })))
    ≡ matched s t (record w { mode = Inside tx }) stack touch false
inside-mismatch s t w tx stack touch =
    let v : Worker = record w { mode = Inside tx } in
    ap (λ (ws : List Worker). record s { workers = ws })
    (set-set (map (spared (record { touch = Some touch; mutex = None })) s.workers) t (touched touch v) (aborted Mismatch v))

mismatch-in : (m : Mode) (s : State) (t : ℕ) (w : Worker) (tx : Transaction) (stack : CallStack Frame) (touch : Touch) → m ≡ Inside tx
    → with_worker (did_read s t (record w { mode = m }) w.thread touch) t (aborted Mismatch (touched touch (record w { mode = m })))
    ≡ matched s t (record w { mode = m }) stack touch false
mismatch-in (Inside other) s t w tx stack touch e = inside-mismatch s t w other stack touch
mismatch-in (Free plain) s t w tx stack touch e = cc

module _ (p : CoreParts) (t : ℕ) (w : OwnParts) (x : Option (RtmTransaction (CallStack Frame))) (k : WatchParts) (at : StandsAt p t w x k) (ups : List Upset)
    (touch : Touch) where
  pub mismatch-meant : (tx : Transaction) (stack : CallStack Frame) → (joined_one w x k).mode ≡ Inside tx
      → state_of (core_aborted Mismatch t (touched_as Entered touch None t p)) ups ≡ matched (state_of p ups) t (joined_one w x k) stack touch false
  mismatch-meant tx stack e =
      aborted-meant (touched_as Entered touch None t p) t w (touched_one touch None x) k (touched-stands p t w x k at ups touch None) ups Mismatch
      ∙ ap (λ (v : Worker). with_worker (state_of (touched_as Entered touch None t p) ups) t (aborted Mismatch v)) (touched-worker p t w x k at ups touch None)
      ∙ ap (λ (s : State). with_worker s t (aborted Mismatch (touched touch (joined_one w x k)))) (touched-meant p t w x k at ups touch None)
      ∙ mismatch-in (joined_one w x k).mode (state_of p ups) t (joined_one w x k) tx stack touch e

  pub mismatch-tied : IsTied p → IsTied (core_aborted Mismatch t (touched_as Entered touch None t p))
  mismatch-tied tied = aborted-tied (touched_as Entered touch None t p) t w (touched_one touch None x) k (touched-stands p t w x k at ups touch None) ups Mismatch
      (touched-tied p t w x k at ups touch None tied)
