-- Which events commit: turns alone, and of the thread's own.
use Rattle.std.proofs.Common.{ℕ, zero, suc, ◌≡◌, ◌⊎◌, ◌∙◌, Bool, true, false, List, [], ◌∷◌, Option, Some, None, slice_get, slice_set, length, refl, ap, sym, subst, inl, inr}
use Rattle.ir_core.specs.Module.{ModuleParts}
use Rattle.ir_core.specs.declared.types.Tid.{Tid}
use Rattle.process.specs.declared.state.Thread.{Thread}
use Rattle.sched_file.specs.declared.entries.UpsetSpec.{UpsetSpec}
use Rattle.sched_file.specs.Events.{Happening, TurnOf, AbortOf, UpsetBy}
use Rattle.hard_ir.specs.declared.instruction.HInst.TheVariants.{End}
use Rattle.hard_ir.specs.Hardened.{HardParts, harden}
use Rattle.hard_frames.specs.declared.outcome.Stop.{Stop}
use Rattle.hard_frames.specs.declared.state.Frame.{Frame}
use Rattle.hard_frames.specs.Code.{inst_at}
use Rattle.hard_frames.specs.Frames.{passed}
use Rattle.hard_meaning.specs.State.{Transaction, Mode, Free, Inside, Worker, State, Upset, Nowhere, OnAnother, InWindow, Struck}
use Rattle.hard_meaning.specs.Aborts.{Other, aborted}
use Rattle.hard_meaning.specs.Records.{some_stands, records}
use Rattle.hard_meaning.specs.Runs.{abort_in, happens, happened, unless_stopped}
use Rattle.hard_meaning.specs.Strikes.{Target, target_of, struck, kind_of, is_in_window, marked, marked_as, struck_as, struck_at, upset_in, noted}
use Rattle.hard_meaning.specs.Turns.{turned, turn_of}
use Rattle.tx_bounds.specs.Commits.{Commits, MayCommit, IsOuterCall}
use Rattle.tx_bounds.proofs.Turns.{set-at, not-same, not-aborted, turns-commit}
use Rattle.tx_bounds.proofs.Texts.{call-after}

module _ (h : HardParts) (text : (frame : Frame) → inst_at h frame ≡ Some End → IsOuterCall h (inst_at h (passed frame))) (s : State) (t : ℕ) (old : Worker)
    (was : slice_get s.workers t ≡ Some old) where
  one : (a b : Worker) → Some a ≡ Some b → a ≡ b
  one a b e = cc

  -- nothing of a thread's that was there is a commit
  abbrev None-in : State → Type 0
  None-in next = (new : Worker) → slice_get next.workers t ≡ Some new → Commits old new → ⊥

  same-in : (next : State) → next.workers ≡ s.workers → None-in next
  same-in next e new is c =
      let same : new ≡ old = one new old (sym (subst (λ (ws : List Worker). slice_get ws t ≡ Some new) e is) ∙ was) in
      not-same old (subst (λ (x : Worker). Commits old x) same c)

  set-in : (u : ℕ) (w v : Worker) → slice_get s.workers u ≡ Some w → (Commits w v → ⊥) → (next : State) → next.workers ≡ slice_set s.workers u v → None-in next
  set-in u w v stood never next e new is c = by_place (set-at s.workers u t v old new was (subst (λ (ws : List Worker). slice_get ws t ≡ Some new) e is))
    where
      by_place : ((u ≡ t) × (new ≡ v)) ⊎ (new ≡ old) → ⊥
      by_place (inl (same, is_v)) =
          let mine : w ≡ old = one w old (sym (subst (λ (n : ℕ). slice_get s.workers n ≡ Some w) same stood) ∙ was) in
          never (subst (λ (x : Worker). Commits x v) (sym mine) (subst (λ (x : Worker). Commits old x) is_v c))
      by_place (inr is_old) = not-same old (subst (λ (x : Worker). Commits old x) is_old c)

  -- ---- aborts and upsets

  aborts-in : (u : ℕ) (o : Option Worker) → slice_get s.workers u ≡ o → None-in (abort_in s u o)
  aborts-in u None e = same-in s refl
  aborts-in u (Some w) e = set-in u w (aborted Other w) e (not-aborted Other w) (abort_in s u (Some w)) refl

  not-marked : (kind : Upset) (k : ℕ) (w : Worker) (thread : Thread Frame) (mode : Mode) → w.mode ≡ mode
      → Commits w (marked_as kind k (record w { thread = thread; mode = mode })) → ⊥
  not-marked kind k w thread (Free plain) e c = let inside : w.mode ≡ Inside c.tx = c.inside in cc
  not-marked Nowhere k w thread (Inside tx) e c = let outside : Inside tx ≡ Free c.plain = c.outside in cc
  not-marked OnAnother k w thread (Inside tx) e c = let outside : Inside tx ≡ Free c.plain = c.outside in cc
  not-marked InWindow k w thread (Inside tx) e c = let outside : Inside tx ≡ Free c.plain = c.outside in cc
  not-marked Struck k w thread (Inside tx) e c = let outside : Inside (record tx { struck = k ∷ tx.struck }) ≡ Free c.plain = c.outside in cc

  strikes-in : (upset : UpsetSpec) (w : Worker) → slice_get s.workers upset.tid.0 ≡ Some w → (o : Option Target) → None-in (struck_at h s upset w o)
  strikes-in upset w e None = same-in (noted s Nowhere) refl
  strikes-in upset w e (Some to) = set-in upset.tid.0 w _ e (not-marked kind (length s.upsets) w (struck upset to) w.mode refl) (struck_at h s upset w (Some to)) refl
    where
      kind : Upset
      kind = kind_of (some_stands (records s)) (is_in_window h w.mode to.frame to.register)

  upsets-in : (upset : UpsetSpec) (o : Option Worker) → slice_get s.workers upset.tid.0 ≡ o → None-in (upset_in h s upset o)
  upsets-in upset None e = same-in (noted s Nowhere) refl
  upsets-in upset (Some w) e = strikes-in upset w e (target_of h upset w.thread)

  -- ---- turns

  turns-in : (u : ℕ) (o : Option Worker) → slice_get s.workers u ≡ o → (new : Worker) → slice_get (turned h s u o).workers t ≡ Some new → Commits old new
      → (u ≡ t) × MayCommit h s old
  turns-in u None e new is c = absurd (same-in s refl new is c)
  turns-in u (Some w) e new is c =
      let may = turns-commit h s t old was u w e text w.thread refl new is c in
      let mine : w ≡ old = one w old (sym (subst (λ (n : ℕ). slice_get s.workers n ≡ Some w) may.0 e) ∙ was) in
      (may.0, subst (λ (x : Worker). MayCommit h s x) mine may.1)

  -- ---- events

  event-commits : (event : Happening) (new : Worker) → slice_get (happens h s event).workers t ≡ Some new → Commits old new
      → (event ≡ TurnOf (record { 0 = t })) × MayCommit h s old
  event-commits (TurnOf thread) new is c =
      let may = turns-in thread.0 (slice_get s.workers thread.0) refl new is c in
      (ap (λ (n : ℕ). TurnOf (record { 0 = n })) may.0, may.1)
  event-commits (AbortOf thread) new is c = absurd (aborts-in thread.0 (slice_get s.workers thread.0) refl new is c)
  event-commits (UpsetBy upset) new is c = absurd (upsets-in upset (slice_get s.workers upset.tid.0) refl new is c)

  happened-commits : (event : Happening) (o : Option Stop) (new : Worker) → slice_get (unless_stopped o s (happens h s event)).workers t ≡ Some new → Commits old new
      → (event ≡ TurnOf (record { 0 = t })) × MayCommit h s old
  happened-commits event None new is c = event-commits event new is c
  happened-commits event (Some stop) new is c = absurd (same-in s refl new is c)

pub commits-where : (m : ModuleParts) (s : State) (event : Happening) (t : ℕ) (old new : Worker) → slice_get s.workers t ≡ Some old
    → slice_get (happened (harden m) s event).workers t ≡ Some new → Commits old new → (event ≡ TurnOf (record { 0 = t })) × MayCommit (harden m) s old
commits-where m s event t old new was is c = happened-commits (harden m) (call-after m) s t old was event s.stop new is c
