-- What the code's parts show of the state that they stand for: open transactions, the runtime's words, and what is watched.
use Rattle.std.proofs.Common.{ℕ, zero, suc, ◌≡◌, ◌∙◌, List, [], ◌∷◌, Option, Some, None, slice_get, refl, ap, sym, subst}
use Rattle.std.specs.Option.{option_map, option_and_then, option_flatten, is_some, ForSome}
use Rattle.process.specs.declared.state.CallStack.{CallStack}
use Rattle.hard_frames.specs.declared.state.Frame.{Frame}
use Rattle.elide.specs.Watches.{WatchParts, watch_of, nothing_watched}
use Rattle.rtm_core.specs.Transactions.{Transaction, thread}
use Rattle.tx_runtime.specs.declared.words.Mode as runtime
use Rattle.tx_runtime.specs.declared.words.Mode.TheVariants.{Out, In, Plain}
use Rattle.hard_meaning.specs.State.{Worker, Upset}
use Rattle.tx_machine.specs.Own.{OwnParts}
use Rattle.tx_machine.specs.Joined.{joined, mode_with, is_in}
use Rattle.tx_machine.specs.Core.{CoreParts}
use Rattle.tx_machine.specs.Meant.{state_of, AreTied, IsTied}
use Rattle.tx_machine.specs.Machined.{open_in, open_at, mode_word, words_of, words_at, watched_in, watched_at}
use Rattle.tx_machine.proofs.Meant.{found, thread-is, worker-is}
use Rattle.tx_machine.proofs.MeantEnds.{index-there}

-- ---- threads that weren't made

not-joined : (ws : List OwnParts) (xs : List (Option (Transaction (CallStack Frame)))) (ks : List WatchParts) (t : ℕ)
    → slice_get ws t ≡ None → slice_get (joined ws xs ks) t ≡ None
not-joined [] xs ks t e = refl
not-joined (w ∷ ws) [] ks t e = refl
not-joined (w ∷ ws) (x ∷ xs) [] t e = refl
not-joined (w ∷ ws) (x ∷ xs) (k ∷ ks) zero e = cc
not-joined (w ∷ ws) (x ∷ xs) (k ∷ ks) (suc t) e = not-joined ws xs ks t e

not-open : (ws : List OwnParts) (xs : List (Option (Transaction (CallStack Frame)))) (t : ℕ) → slice_get ws t ≡ None → AreTied ws xs → option_flatten (slice_get xs t) ≡ None
not-open [] [] t e tied = refl
not-open [] (None ∷ xs) zero e tied = refl
not-open [] (Some x ∷ xs) zero e tied = cc
not-open [] (x ∷ xs) (suc t) e tied = not-open [] xs t refl tied.1
not-open (w ∷ ws) [] t e tied = absurd tied
not-open (w ∷ ws) (x ∷ xs) zero e tied = cc
not-open (w ∷ ws) (x ∷ xs) (suc t) e tied = not-open ws xs t e tied.1

-- ---- one thread's mode

open-mode : (mode : runtime.Mode) (w : OwnParts) (x : Option (Transaction (CallStack Frame))) (k : WatchParts) → is_some x ≡ is_in mode → x ≡ open_in (mode_with mode w x k)
open-mode Out w None k tied = refl
open-mode Out w (Some x) k tied = cc
open-mode Plain w None k tied = refl
open-mode Plain w (Some x) k tied = cc
open-mode In w None k tied = cc
open-mode In w (Some x) k tied = refl

watched-mode : (mode : runtime.Mode) (w : OwnParts) (x : Option (Transaction (CallStack Frame))) (k : WatchParts) → ForSome (watched_in (mode_with mode w x k)) (λ watch. k ≡ watch)
watched-mode Out w x k = λ watch e. cc
watched-mode Plain w x k = λ watch e. cc
watched-mode In w None k = λ watch e. cc
watched-mode In w (Some x) k = λ watch e. cc

words-one : (mode : runtime.Mode) (w : OwnParts) (x : Option (Transaction (CallStack Frame))) (k : WatchParts) → is_some x ≡ is_in mode → w.words.mode ≡ mode
    → w.words ≡ record { mode = mode_word (mode_with mode w x k); attempts = w.words.attempts; counter = w.words.counter }
words-one Out w x k tied e = ap (λ (m : runtime.Mode). record w.words { mode = m }) e
words-one Plain w x k tied e = ap (λ (m : runtime.Mode). record w.words { mode = m }) e
words-one In w None k tied e = cc
words-one In w (Some x) k tied e = ap (λ (m : runtime.Mode). record w.words { mode = m }) e

-- ---- all threads

module _ (p : CoreParts) (tied : IsTied p) (ups : List Upset) (t : ℕ) where
  pub open-shown : thread p.rtm t ≡ open_at (state_of p ups) t
  open-shown = by_place (slice_get p.own t) refl
    where
      by_place : (o : Option OwnParts) → slice_get p.own t ≡ o → thread p.rtm t ≡ open_at (state_of p ups) t
      by_place None e = not-open p.own p.rtm.threads t e tied.tied
          ∙ ap (λ (o : Option Worker). option_and_then (λ (w : Worker). open_in w.mode) o) (sym (not-joined p.own p.rtm.threads p.watches t e))
      by_place (Some w) e =
          let at = found p t w tied e in
          thread-is p t w at.tx at.watch at.stands ups ∙ open-mode w.words.mode w at.tx at.watch at.stands.tied
          ∙ ap (λ (o : Option Worker). option_and_then (λ (w : Worker). open_in w.mode) o) (sym (worker-is p t w at.tx at.watch at.stands ups))

  pub words-shown : option_map (λ (w : OwnParts). w.words) (slice_get p.own t) ≡ words_at (state_of p ups) t
  words-shown = by_place (slice_get p.own t) refl
    where
      by_place : (o : Option OwnParts) → slice_get p.own t ≡ o → option_map (λ (w : OwnParts). w.words) o ≡ words_at (state_of p ups) t
      by_place None e = ap (option_map words_of) (sym (not-joined p.own p.rtm.threads p.watches t e))
      by_place (Some w) e =
          let at = found p t w tied e in
          ap Some (words-one w.words.mode w at.tx at.watch at.stands.tied refl)
          ∙ ap (option_map words_of) (sym (worker-is p t w at.tx at.watch at.stands ups))

  pub watched-shown : ForSome (watched_at (state_of p ups) t) (λ watch. watch_of p.watches t ≡ watch)
  watched-shown = by_place (slice_get p.own t) refl
    where
      by_place : (o : Option OwnParts) → slice_get p.own t ≡ o → ForSome (watched_at (state_of p ups) t) (λ watch. watch_of p.watches t ≡ watch)
      by_place None e = subst (λ (o : Option Worker). ForSome (option_and_then (λ (w : Worker). watched_in w.mode) o) (λ watch. watch_of p.watches t ≡ watch))
          (sym (not-joined p.own p.rtm.threads p.watches t e)) (λ watch f. cc)
      by_place (Some w) e =
          let at = found p t w tied e in
          subst (λ (o : Option Worker). ForSome (option_and_then (λ (w : Worker). watched_in w.mode) o) (λ watch. watch_of p.watches t ≡ watch))
          (sym (worker-is p t w at.tx at.watch at.stands ups))
          (subst (λ (k : WatchParts). ForSome (watched_in (mode_with w.words.mode w at.tx at.watch)) (λ watch. k ≡ watch))
          (sym (index-there p.watches t at.watch nothing_watched at.stands.watching)) (watched-mode w.words.mode w at.tx at.watch))
