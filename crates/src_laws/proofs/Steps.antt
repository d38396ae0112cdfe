-- Each step that did nothing gives the state back, case by case.
use Rattle.std.proofs.Common.{ℕ, zero, suc, ◌≡◌, Option, Some, None, Bool, true, false, refl, ap, slice_get}
use Rattle.ir_core.specs.declared.instruction.Inst.{Inst}
use Rattle.ir_core.specs.Module.{ModuleParts}
use Rattle.inst_meaning.specs.declared.actions.Cause.{Cause}
use Rattle.inst_meaning.specs.Action.{destination}
use Rattle.process.specs.declared.state.CallStack.{CallStack}
use Rattle.process.specs.declared.state.Thread.{Thread}
use Rattle.process.specs.declared.state.Thread.TheVariants.{Running, Exiting, Ended as HasEnded}
use Rattle.process.specs.declared.state.Step.{Step}
use Rattle.process.specs.declared.state.Step.TheVariants as answers
use Rattle.process.specs.Outcome.{Outcome, Goes, Waits, Faults, Ends, outcome_of}
use Rattle.process.specs.Process.{done}
use Rattle.src_meaning.specs.declared.state.Frame.{Frame}
use Rattle.src_meaning.specs.State.{State, inst_at}
use Rattle.src_meaning.specs.Step.{frames, action_in, settled, fetched, exited, turned, unless_ended, step}
use Rattle.src_laws.specs.Steps.{IsStep}

is-went : (s next : State) → IsStep s (next, answers.Went)
is-went s next = record { still = λ no. absurd no; over = λ code e. absurd cc }

is-idle : (s : State) → IsStep s (s, answers.Idle)
is-idle s = record { still = λ _. refl; over = λ code e. absurd cc }

is-undefined : (s : State) (cause : Cause) → IsStep s (s, answers.Undefined cause)
is-undefined s cause = record { still = λ _. refl; over = λ code e. absurd cc }

is-end : (s : State) (n : ℕ) → IsStep s (record s { ended = true }, answers.Ended n)
is-end s n = record { still = λ no. absurd no; over = λ code e. refl }

is-settled : (s : State) (t : ℕ) (outcome : Outcome Frame) → IsStep s (settled s (done s.process t outcome))
is-settled s t (Goes effect) = is-went s _
is-settled s t Waits = record { still = λ _. refl; over = λ code e. absurd cc }
is-settled s t (Faults cause) = is-undefined s cause
is-settled s t (Ends code) = is-end s code

is-fetched : (m : ModuleParts) (s : State) (t : ℕ) (stack : CallStack Frame) (o : Option Inst) → IsStep s (fetched m s t stack o)
is-fetched m s t stack None = is-undefined s _
is-fetched m s t stack (Some inst) =
    is-settled s t (outcome_of (frames m) s.process t (destination inst) stack (action_in m stack.frame inst))

is-exited : (s : State) (t n : ℕ) → IsStep s (exited s t n)
is-exited s zero n = is-end s _
is-exited s (suc t) n = is-went s _

is-turned : (m : ModuleParts) (s : State) (t : ℕ) (o : Option (Thread Frame)) → IsStep s (turned m s t o)
is-turned m s t None = is-idle s
is-turned m s t (Some HasEnded) = is-idle s
is-turned m s t (Some (Exiting n)) = is-exited s t n
is-turned m s t (Some (Running stack)) = is-fetched m s t stack (inst_at m stack.frame)

is-unless_ended : (over : Bool) (s : State) (next : State × Step) → IsStep s next → IsStep s (unless_ended over s next)
is-unless_ended true s next fact = is-idle s
is-unless_ended false s next fact = fact

pub is_step : (m : ModuleParts) (s : State) (t : ℕ) → IsStep s (step m s t)
is_step m s t = is-unless_ended s.ended s (turned m s t (slice_get s.process.threads t)) (is-turned m s t (slice_get s.process.threads t))

-- once the program has ended, every thread is idle
pub ended_idle : (m : ModuleParts) (s : State) (t : ℕ) → s.ended ≡ true → step m s t ≡ (s, answers.Idle)
ended_idle m s t over = ap (λ (b : Bool). unless_ended b s (turned m s t (slice_get s.process.threads t))) over
