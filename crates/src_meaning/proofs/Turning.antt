-- A turn of a thread that runs, as the code takes it: decoded, done, and settled.
use Rattle.std.proofs.Common.{ℕ, ◌≡◌, Option, Some, None, true, refl, sym, ap, ◌∙◌}
use Rattle.std.specs.Option.{option_map}
use Rattle.ir_core.specs.declared.types.Loc.{Loc}
use Rattle.ir_core.specs.declared.instruction.Inst.{Inst}
use Rattle.ir_core.specs.Module.{ModuleParts}
use Rattle.inst_meaning.specs.declared.actions.Cause.TheVariants.{Unreachable}
use Rattle.inst_meaning.specs.declared.actions.Action.{Action}
use Rattle.process.specs.declared.state.CallStack.{CallStack}
use Rattle.process.specs.declared.state.Thread.{Thread}
use Rattle.process.specs.declared.state.Thread.TheVariants.{Running, Exiting, Ended as HasEnded}
use Rattle.process.specs.declared.state.Step.{Step}
use Rattle.process.specs.declared.state.Step.TheVariants.{Undefined, Ended}
use Rattle.process.specs.State.{ProcessParts}
use Rattle.process.specs.Outcome.{Outcome, Goes, Waits, Faults, Ends, answer_of, outcome_of}
use Rattle.process.specs.Process.{applied, done, acted}
use Rattle.process.specs.code.Threads.{acted_by, runs, order_at}
use Rattle.src_meaning.specs.declared.state.Frame.{Frame}
use Rattle.src_meaning.specs.State.{State, inst_at}
use Rattle.src_meaning.specs.Step.{frames, settled, fetched, turned}
use Rattle.src_meaning.specs.Landing.{decoded_as, decoded}

-- ---- what becomes of the state

settled-answer : (s : State) (t : ℕ) (outcome : Outcome Frame) → answer_of outcome ≡ (settled s (done s.process t outcome)).1
settled-answer s t (Goes effect) = refl
settled-answer s t Waits = refl
settled-answer s t (Faults cause) = refl
settled-answer s t (Ends code) = refl

settled-going : (s : State) (t : ℕ) (outcome : Outcome Frame) → ((code : ℕ) → answer_of outcome ≡ Ended code → ⊥)
    → record s { process = applied s.process t outcome } ≡ (settled s (done s.process t outcome)).0
settled-going s t (Goes effect) going = refl
settled-going s t Waits going = refl
settled-going s t (Faults cause) going = refl
settled-going s t (Ends code) going = absurd (going code refl)

settled-ended : (s : State) (t : ℕ) (outcome : Outcome Frame) (code : ℕ) → answer_of outcome ≡ Ended code
    → record s { process = applied s.process t outcome; ended = true } ≡ (settled s (done s.process t outcome)).0
settled-ended s t (Goes effect) code e = absurd cc
settled-ended s t Waits code e = absurd cc
settled-ended s t (Faults cause) code e = absurd cc
settled-ended s t (Ends n) code e = refl

-- ---- the instruction at a thread's place

module _ (m : ModuleParts) (s : State) (t : ℕ) where
  fetched-none : (stack : CallStack Frame) (o : Option Inst) → option_map (decoded_as m stack.frame) o ≡ None
      → (s, Undefined Unreachable) ≡ fetched m s t stack o
  fetched-none stack None e = refl
  fetched-none stack (Some inst) e = absurd cc

  -- there is none
  pub turned_none : (o : Option (Thread Frame)) → runs o ≡ true → order_at (decoded m) o ≡ None → (s, Undefined Unreachable) ≡ turned m s t o
  turned_none None r e = absurd cc
  turned_none (Some (Running stack)) r e = fetched-none stack (inst_at m stack.frame) e
  turned_none (Some (Exiting n)) r e = absurd cc
  turned_none (Some HasEnded) r e = absurd cc

  module _ (dst : Option Loc) (action : Action) where
    fetched-some : (stack : CallStack Frame) (o : Option Inst) → option_map (decoded_as m stack.frame) o ≡ Some (dst, action)
        → settled s (acted (frames m) s.process t dst stack action) ≡ fetched m s t stack o
    fetched-some stack None e = absurd cc
    fetched-some stack (Some inst) e =
        let pair : decoded_as m stack.frame inst ≡ (dst, action) = cc in
        ap (λ (x : Option Loc × Action). settled s (acted (frames m) s.process t x.0 stack x.1)) (sym pair)

    -- the answer, and the state once the program goes on or has ended
    pub turned_answer : (o : Option (Thread Frame)) → runs o ≡ true → order_at (decoded m) o ≡ Some (dst, action)
        → (acted_by (frames m) s.process t dst o action).1 ≡ (turned m s t o).1
    turned_answer None r e = absurd cc
    turned_answer (Some (Running stack)) r e =
        settled-answer s t (outcome_of (frames m) s.process t dst stack action)
        ∙ ap (λ (x : State × Step). x.1) (fetched-some stack (inst_at m stack.frame) e)
    turned_answer (Some (Exiting n)) r e = absurd cc
    turned_answer (Some HasEnded) r e = absurd cc

    pub turned_going : (o : Option (Thread Frame)) → runs o ≡ true → order_at (decoded m) o ≡ Some (dst, action)
        → ((code : ℕ) → (acted_by (frames m) s.process t dst o action).1 ≡ Ended code → ⊥)
        → record s { process = (acted_by (frames m) s.process t dst o action).0 } ≡ (turned m s t o).0
    turned_going None r e going = absurd cc
    turned_going (Some (Running stack)) r e going =
        settled-going s t (outcome_of (frames m) s.process t dst stack action) going
        ∙ ap (λ (x : State × Step). x.0) (fetched-some stack (inst_at m stack.frame) e)
    turned_going (Some (Exiting n)) r e going = absurd cc
    turned_going (Some HasEnded) r e going = absurd cc

    pub turned_ended : (o : Option (Thread Frame)) (code : ℕ) → runs o ≡ true → order_at (decoded m) o ≡ Some (dst, action)
        → (acted_by (frames m) s.process t dst o action).1 ≡ Ended code
        → record s { process = (acted_by (frames m) s.process t dst o action).0; ended = true } ≡ (turned m s t o).0
    turned_ended None code r e ended = absurd cc
    turned_ended (Some (Running stack)) code r e ended =
        settled-ended s t (outcome_of (frames m) s.process t dst stack action) code ended
        ∙ ap (λ (x : State × Step). x.0) (fetched-some stack (inst_at m stack.frame) e)
    turned_ended (Some (Exiting n)) code r e ended = absurd cc
    turned_ended (Some HasEnded) code r e ended = absurd cc
