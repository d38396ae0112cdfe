-- What an action comes to, as the code does it: the turn is noted where the action comes, and else nothing has changed.
use Rattle.std.proofs.Common.{ℕ, ◌≡◌, Option, Some, None, Bool, true, false, refl, ap, ◌∙◌, slice_get}
use Rattle.ir_core.specs.declared.types.Tid.{Tid}
use Rattle.ir_core.specs.declared.types.Loc.{Loc}
use Rattle.ir_core.specs.declared.values.Side.{Side}
use Rattle.inst_meaning.specs.declared.actions.Cause.{Cause}
use Rattle.inst_meaning.specs.declared.actions.Action.{Action}
use Rattle.process.specs.declared.state.CallStack.{CallStack}
use Rattle.process.specs.declared.state.Thread.{Thread}
use Rattle.process.specs.declared.state.Thread.TheVariants.{Running, Exiting, Ended}
use Rattle.process.specs.declared.state.Step.{Step}
use Rattle.process.specs.declared.state.Step.TheVariants.{Undefined, Ended as EndsProgram}
use Rattle.process.specs.State.{ProcessParts}
use Rattle.process.specs.Outcome.{Outcome, Goes, Waits, Faults, Ends, answer_of, outcome_of}
use Rattle.process.specs.Process.{done}
use Rattle.process.specs.code.Threads.{acted_by, runs}
use Rattle.hard_ir.specs.Hardened.{HardParts}
use Rattle.hard_frames.specs.declared.outcome.Stop.TheVariants.{End, Trap}
use Rattle.hard_frames.specs.declared.state.Frame.{Frame}
use Rattle.hard_machine.specs.State.{State, Machined}
use Rattle.hard_frames.specs.Frames.{frames}
use Rattle.hard_machine.specs.Step.{retired, stopped, settled}
use Rattle.hard_machine.specs.Telling.{place_of, place_at, attempted, carried_by}

-- ---- the machine once an action was tried

module _ (h : HardParts) (s : State) (stack : CallStack Frame) (retires : Bool) where
  went_of : (t : ℕ) (outcome : Outcome Frame) → ((cause : Cause) → answer_of outcome ≡ Undefined cause → ⊥)
      → ((code : ℕ) → answer_of outcome ≡ EndsProgram code → ⊥)
      → attempted retires t s (done s.process t outcome) ≡ settled h s t stack.frame retires (done s.process t outcome)
  went_of t (Goes effect) f g = refl
  went_of t Waits f g = refl
  went_of t (Faults cause) f g = absurd (f cause refl)
  went_of t (Ends code) f g = absurd (g code refl)

  ended_as : (t code : ℕ) (noted : Bool) → stopped (retired noted t s) (End code) ≡ retired noted t (stopped s (End code))
  ended_as t code true = refl
  ended_as t code false = refl

  ended_of : (t : ℕ) (outcome : Outcome Frame) (code : ℕ) → answer_of outcome ≡ EndsProgram code
      → stopped (attempted retires t s (done s.process t outcome)) (End code) ≡ settled h s t stack.frame retires (done s.process t outcome)
  ended_of t (Goes effect) code f = absurd cc
  ended_of t Waits code f = absurd cc
  ended_of t (Faults cause) code f = absurd cc
  ended_of t (Ends other) code f =
      let same : code ≡ other = cc in
      ap (λ (n : ℕ). stopped (retired retires t s) (End n)) same ∙ ended_as t other retires

  trapped_of : (t : Tid) (outcome : Outcome Frame) (cause : Cause) → slice_get s.process.threads t.0 ≡ Some (Running stack)
      → answer_of outcome ≡ Undefined cause
      → stopped (attempted retires t.0 s (done s.process t.0 outcome)) (Trap t (place_at h (attempted retires t.0 s (done s.process t.0 outcome)) t.0))
      ≡ settled h s t.0 stack.frame retires (done s.process t.0 outcome)
  trapped_of t (Goes effect) cause at f = absurd cc
  trapped_of t Waits cause at f = absurd cc
  trapped_of t (Faults other) cause at f = ap (λ (o : Option (Thread Frame)). stopped s (Trap t (place_of h o))) at
  trapped_of t (Ends code) cause at f = absurd cc

  undefined_of : (t : ℕ) (outcome : Outcome Frame) (cause : Cause) → answer_of outcome ≡ Undefined cause
      → attempted retires t s (done s.process t outcome) ≡ s
  undefined_of t (Goes effect) cause f = absurd cc
  undefined_of t Waits cause f = absurd cc
  undefined_of t (Faults other) cause f = refl
  undefined_of t (Ends code) cause f = absurd cc

-- ---- the same, for the thread that was looked up

module _ (h : HardParts) (s : State) (retires : Bool) (dst : Option (Side × Loc)) (action : Action) where
  abbrev tried_by : ℕ → Option (Thread Frame) → ProcessParts Frame × Step
  tried_by t o = acted_by (frames h) s.process t dst o action

  went_by : (t : ℕ) (o : Option (Thread Frame)) → runs o ≡ true → ((cause : Cause) → (tried_by t o).1 ≡ Undefined cause → ⊥)
      → ((code : ℕ) → (tried_by t o).1 ≡ EndsProgram code → ⊥) → attempted retires t s (tried_by t o) ≡ carried_by h s t retires dst o action
  went_by t None r f g = absurd cc
  went_by t (Some (Running stack)) r f g = went_of h s stack retires t (outcome_of (frames h) s.process t dst stack action) f g
  went_by t (Some (Exiting n)) r f g = absurd cc
  went_by t (Some Ended) r f g = absurd cc

  ended_by : (t : ℕ) (o : Option (Thread Frame)) (code : ℕ) → runs o ≡ true → (tried_by t o).1 ≡ EndsProgram code
      → stopped (attempted retires t s (tried_by t o)) (End code) ≡ carried_by h s t retires dst o action
  ended_by t None code r f = absurd cc
  ended_by t (Some (Running stack)) code r f = ended_of h s stack retires t (outcome_of (frames h) s.process t dst stack action) code f
  ended_by t (Some (Exiting n)) code r f = absurd cc
  ended_by t (Some Ended) code r f = absurd cc

  trapped_by : (t : Tid) (o : Option (Thread Frame)) (cause : Cause) → runs o ≡ true → slice_get s.process.threads t.0 ≡ o
      → (tried_by t.0 o).1 ≡ Undefined cause
      → stopped (attempted retires t.0 s (tried_by t.0 o)) (Trap t (place_at h (attempted retires t.0 s (tried_by t.0 o)) t.0))
      ≡ carried_by h s t.0 retires dst o action
  trapped_by t None cause r at f = absurd cc
  trapped_by t (Some (Running stack)) cause r at f =
      trapped_of h s stack retires t (outcome_of (frames h) s.process t.0 dst stack action) cause at f
  trapped_by t (Some (Exiting n)) cause r at f = absurd cc
  trapped_by t (Some Ended) cause r at f = absurd cc

  undefined_by : (t : ℕ) (o : Option (Thread Frame)) (cause : Cause) → runs o ≡ true → (tried_by t o).1 ≡ Undefined cause
      → attempted retires t s (tried_by t o) ≡ s
  undefined_by t None cause r f = absurd cc
  undefined_by t (Some (Running stack)) cause r f =
      undefined_of h s stack retires t (outcome_of (frames h) s.process t dst stack action) cause f
  undefined_by t (Some (Exiting n)) cause r f = absurd cc
  undefined_by t (Some Ended) cause r f = absurd cc

-- ---- machines

abbrev machined : HardParts → State → Machined
machined h s = record { program = h; state = s }

module _ (now : Machined) (retires : Bool) (dst : Option (Side × Loc)) (action : Action) where
  abbrev outcome : ℕ → ProcessParts Frame × Step
  outcome t = acted_by (frames now.program) now.state.process t dst (slice_get now.state.process.threads t) action

  abbrev carried : ℕ → Machined
  carried t = record now { state = carried_by now.program now.state t retires dst (slice_get now.state.process.threads t) action }

  abbrev tried : ℕ → Machined
  tried t = record now { state = attempted retires t now.state (outcome t) }

  pub went_machine : (t : ℕ) → runs (slice_get now.state.process.threads t) ≡ true → ((cause : Cause) → (outcome t).1 ≡ Undefined cause → ⊥)
      → ((code : ℕ) → (outcome t).1 ≡ EndsProgram code → ⊥) → tried t ≡ carried t
  went_machine t r f g =
      ap (machined now.program) (went_by now.program now.state retires dst action t (slice_get now.state.process.threads t) r f g)

  pub ended_machine : (t code : ℕ) → runs (slice_get now.state.process.threads t) ≡ true → (outcome t).1 ≡ EndsProgram code
      → machined now.program (stopped (tried t).state (End code)) ≡ carried t
  ended_machine t code r f =
      ap (machined now.program) (ended_by now.program now.state retires dst action t (slice_get now.state.process.threads t) code r f)

  pub trapped_machine : (t : Tid) (cause : Cause) → runs (slice_get now.state.process.threads t.0) ≡ true → (outcome t.0).1 ≡ Undefined cause
      → machined now.program (stopped (tried t.0).state (Trap t (place_at now.program (tried t.0).state t.0))) ≡ carried t.0
  trapped_machine t cause r f =
      ap (machined now.program) (trapped_by now.program now.state retires dst action t (slice_get now.state.process.threads t.0) cause r refl f)

  -- an undefined action has changed nothing
  pub undefined_machine : (t : ℕ) (cause : Cause) → runs (slice_get now.state.process.threads t) ≡ true → (outcome t).1 ≡ Undefined cause
      → tried t ≡ now
  undefined_machine t cause r f =
      ap (machined now.program) (undefined_by now.program now.state retires dst action t (slice_get now.state.process.threads t) cause r f)
