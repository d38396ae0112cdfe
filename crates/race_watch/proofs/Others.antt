-- What a step leaves of the other threads.
use Rattle.std.proofs.Common.{ℕ, zero, suc, ◌≡◌, ◌<◌, Bool, true, false, List, [], ◌∷◌, ◌++◌, length, Option, Some, None, slice_get, slice_set, refl, ap, ◌∙◌, subst, arith}
use Rattle.std.proofs.Math.ListN.{length-set}
use Rattle.ir_core.specs.declared.instruction.Inst.{Inst}
use Rattle.ir_core.specs.Module.{ModuleParts}
use Rattle.inst_meaning.specs.declared.actions.Cause.{Cause}
use Rattle.inst_meaning.specs.Action.{destination}
use Rattle.process.specs.declared.state.CallStack.{CallStack}
use Rattle.process.specs.declared.state.Thread.{Thread}
use Rattle.process.specs.declared.state.Thread.TheVariants.{Running, Exiting, Ended as HasEnded}
use Rattle.process.specs.declared.state.Step.{Step}
use Rattle.process.specs.declared.state.Step.TheVariants.{Went, Waits, Idle, Undefined, Ended}
use Rattle.process.specs.Outcome.{Outcome, Goes, Faults, Ends, outcome_of}
use Rattle.process.specs.Outcome as outcomes
use Rattle.process.specs.Process.{with_born, done}
use Rattle.src_meaning.specs.declared.state.Frame.{Frame}
use Rattle.src_meaning.specs.State.{State, inst_at}
use Rattle.src_meaning.specs.Races.{access_by, unless_over, next_access}
use Rattle.src_meaning.specs.Step.{frames, settled, action_in, fetched, exited, turned, unless_ended, step}

slice_get-set_other : {A : Type 0} (xs : List A) (i : ℕ) (x : A) (k : ℕ) → (k ≡ i → ⊥) → slice_get (slice_set xs i x) k ≡ slice_get xs k
slice_get-set_other [] i x k h = refl
slice_get-set_other (y ∷ ys) zero x zero h = absurd (h refl)
slice_get-set_other (y ∷ ys) zero x (suc k) h = refl
slice_get-set_other (y ∷ ys) (suc i) x zero h = refl
slice_get-set_other (y ∷ ys) (suc i) x (suc k) h = slice_get-set_other ys i x k (λ e. h (ap suc e))

slice_get-append : {A : Type 0} (xs ys : List A) (k : ℕ) → k < length xs → slice_get (xs ++ ys) k ≡ slice_get xs k
slice_get-append [] ys k h = absurd (omega arith)
slice_get-append (x ∷ xs) ys zero h = refl
slice_get-append (x ∷ xs) ys (suc k) h = slice_get-append xs ys k (omega arith)

-- thread t has moved: the others stand as they stood
pub record Moved (s : State) (t : ℕ) (after : State) : Type 0 where
  pub ended : after.ended ≡ s.ended
  pub others : (u : ℕ) → (u ≡ t → ⊥) → u < length s.process.threads → slice_get after.process.threads u ≡ slice_get s.process.threads u

-- what a step leaves, by its answer
abbrev Leaves : State → ℕ → State → Step → Type 0
Leaves s t after Went = Moved s t after
Leaves s t after Waits = after ≡ s
Leaves s t after Idle = after ≡ s
Leaves s t after (Undefined cause) = after ≡ s
Leaves s t after (Ended code) = Unit {0}

moved-set : (s after : State) (t : ℕ) (thread : Thread Frame) → after.process.threads ≡ slice_set s.process.threads t thread → after.ended ≡ s.ended → Moved s t after
moved-set s after t thread e k = record {
  ended = k;
  others = λ u h _. ap (λ threads. slice_get threads u) e ∙ slice_get-set_other s.process.threads t thread u h;
}

moved-add : (s after : State) (t : ℕ) (thread new : Thread Frame) → after.process.threads ≡ slice_set s.process.threads t thread ++ new ∷ [] → after.ended ≡ s.ended → Moved s t after
moved-add s after t thread new e k = record {
  ended = k;
  others = λ u h within. ap (λ threads. slice_get threads u) e ∙ slice_get-append (slice_set s.process.threads t thread) (new ∷ []) u (omega (arith, length-set s.process.threads t thread)) ∙ slice_get-set_other s.process.threads t thread u h;
}

born-moved : (s after : State) (t : ℕ) (thread : Thread Frame) (born : Option (Thread Frame)) → after.process.threads ≡ with_born born (slice_set s.process.threads t thread)
    → after.ended ≡ s.ended → Moved s t after
born-moved s after t thread None e k = moved-set s after t thread e k
born-moved s after t thread (Some new) e k = moved-add s after t thread new e k

settled-leaves : (s : State) (t : ℕ) (outcome : Outcome Frame) → Leaves s t (settled s (done s.process t outcome)).0 (settled s (done s.process t outcome)).1
settled-leaves s t (Goes effect) = born-moved s _ t effect.thread effect.born refl refl
settled-leaves s t outcomes.Waits = refl
settled-leaves s t (Faults cause) = refl
settled-leaves s t (Ends code) = tt

fetched-leaves : (m : ModuleParts) (s : State) (t : ℕ) (stack : CallStack Frame) (inst : Option Inst) → Leaves s t (fetched m s t stack inst).0 (fetched m s t stack inst).1
fetched-leaves m s t stack None = refl
fetched-leaves m s t stack (Some inst) =
    settled-leaves s t (outcome_of (frames m) s.process t (destination inst) stack (action_in m stack.frame inst))

exited-leaves : (s : State) (t n : ℕ) → Leaves s t (exited s t n).0 (exited s t n).1
exited-leaves s zero n = tt
exited-leaves s (suc t) n = moved-set s _ (suc t) HasEnded refl refl

turned-leaves : (m : ModuleParts) (s : State) (t : ℕ) (thread : Option (Thread Frame)) → Leaves s t (turned m s t thread).0 (turned m s t thread).1
turned-leaves m s t None = refl
turned-leaves m s t (Some HasEnded) = refl
turned-leaves m s t (Some (Exiting n)) = exited-leaves s t n
turned-leaves m s t (Some (Running stack)) = fetched-leaves m s t stack (inst_at m stack.frame)

unless_ended-leaves : (over : Bool) (s : State) (t : ℕ) (after : State × Step) → Leaves s t after.0 after.1 → Leaves s t (unless_ended over s after).0 (unless_ended over s after).1
unless_ended-leaves true s t after h = refl
unless_ended-leaves false s t after h = h

step-leaves : (m : ModuleParts) (s : State) (t : ℕ) → Leaves s t (step m s t).0 (step m s t).1
step-leaves m s t = unless_ended-leaves s.ended s t _ (turned-leaves m s t (slice_get s.process.threads t))

-- a step that goes moves its thread alone
pub step-moved : (m : ModuleParts) (s : State) (t : ℕ) → (step m s t).1 ≡ Went → Moved s t (step m s t).0
step-moved m s t e = subst (Leaves s t (step m s t).0) e (step-leaves m s t)

-- a step that waits or is idle changes nothing
pub step-waits : (m : ModuleParts) (s : State) (t : ℕ) → (step m s t).1 ≡ Waits → (step m s t).0 ≡ s
step-waits m s t e = subst (Leaves s t (step m s t).0) e (step-leaves m s t)

pub step-idle : (m : ModuleParts) (s : State) (t : ℕ) → (step m s t).1 ≡ Idle → (step m s t).0 ≡ s
step-idle m s t e = subst (Leaves s t (step m s t).0) e (step-leaves m s t)

-- nor does one that is undefined
pub step-undefined : (m : ModuleParts) (s : State) (t : ℕ) (cause : Cause) → (step m s t).1 ≡ Undefined cause → (step m s t).0 ≡ s
step-undefined m s t cause e = subst (Leaves s t (step m s t).0) e (step-leaves m s t)

-- where no thread is made, the others' next accesses stay
pub next_access-moved : (m : ModuleParts) (s : State) (t : ℕ) (after : State) → Moved s t after → length after.process.threads ≡ length s.process.threads → (u : ℕ) → (u ≡ t → ⊥) → u < length s.process.threads → next_access m after u ≡ next_access m s u
next_access-moved m s t after moved same u other within =
    ap (λ over. unless_over over (access_by m (length after.process.threads) (slice_get after.process.threads u))) moved.ended
    ∙ ap (λ made. unless_over s.ended (access_by m made (slice_get after.process.threads u))) same
    ∙ ap (λ thread. unless_over s.ended (access_by m (length s.process.threads) thread)) (moved.others u other within)
