-- An action that a thread does alone, as the code does it: on the thread and memory alone.
use Rattle.std.proofs.Common.{ℕ, ◌≡◌, List, Option, Some, None, true, refl, sym, ap, ◌∙◌, slice_get, slice_set, get_or}
use Rattle.mem_image.specs.Bytes.{Memory}
use Rattle.inst_meaning.specs.declared.actions.Cause.{Cause}
use Rattle.inst_meaning.specs.declared.actions.Action.{Action}
use Rattle.inst_meaning.specs.declared.actions.Action.TheVariants.{Assign, Reserve, Read, Write, Update, Pass, Jump, Call, Ask, Create, Join, Exit, Return, Fault}
use Rattle.inst_meaning.specs.Accesses.{word_read}
use Rattle.inst_meaning.specs.World.{WorldParts}
use Rattle.process.specs.declared.state.CallStack.{CallStack}
use Rattle.process.specs.declared.state.Thread.{Thread}
use Rattle.process.specs.declared.state.Thread.TheVariants.{Running, Exiting, Ended}
use Rattle.process.specs.declared.state.Step.{Step}
use Rattle.process.specs.Frames.{Frames}
use Rattle.process.specs.State.{ProcessParts}
use Rattle.process.specs.Outcome.{Effect, failure, effect_alone, goes_unless, alone, outcome_of}
use Rattle.mem_image.specs.Touches.{memory_with}
use Rattle.process.specs.Process.{done}
use Rattle.process.specs.code.Moves.{where_done}
use Rattle.process.specs.code.Threads.{acted_by, acted_at, runs, outside_of, cause_at, thread_at, memory_at, went_or}
use Rattle.process.proofs.Outsides.{set_same, there, process}

module _ {F D : Type 0} (frames : Frames F D) where
  -- an action that asks for nothing more is done alone
  outcome_alone : (p : ProcessParts F) (t : ℕ) (target : D) (stack : CallStack F) (action : Action) → outside_of action ≡ None
      → outcome_of frames p t target stack action ≡ alone frames p t target stack action
  outcome_alone p t target stack (Assign n) inside = refl
  outcome_alone p t target stack (Reserve size) inside = refl
  outcome_alone p t target stack (Read place atomic) inside = refl
  outcome_alone p t target stack (Write place n atomic) inside = refl
  outcome_alone p t target stack (Update place update) inside = refl
  outcome_alone p t target stack Pass inside = refl
  outcome_alone p t target stack (Jump label) inside = refl
  outcome_alone p t target stack (Call n words) inside = refl
  outcome_alone p t target stack (Ask request) inside = absurd cc
  outcome_alone p t target stack (Create address n argument) inside = absurd cc
  outcome_alone p t target stack (Join other) inside = absurd cc
  outcome_alone p t target stack (Exit code) inside = absurd cc
  outcome_alone p t target stack (Return n) inside = refl
  outcome_alone p t target stack (Fault cause) inside = refl

  -- where it was done, or failed
  by_cause : (cause : Option Cause) (p : ProcessParts F) (t : ℕ) (target : D) (stack : CallStack F) (action : Action)
      → slice_get p.threads t ≡ Some (Running stack)
      → (let effect = effect_alone frames p target stack action in
      done p t (goes_unless cause effect)
      ≡ (record p { threads = slice_set p.threads t (where_done cause effect.thread (Running stack)); memory = where_done cause (memory_with effect.store p.memory) p.memory }, went_or cause))
  by_cause None p t target stack action at = refl
  by_cause (Some cause) p t target stack action at =
      ap (λ (ts : List (Thread F)). (record p { threads = ts }, went_or (Some cause))) (sym (set_same p.threads t (Running stack) at))

  alone-after : (p : ProcessParts F) (t : ℕ) (target : D) (action : Action) (thread : Thread F)
      → slice_get p.threads t ≡ Some thread → runs (Some thread) ≡ true → outside_of action ≡ None
      → acted_by frames p t target (Some thread) action
      ≡ (record p { threads = slice_set p.threads t (thread_at frames p.memory t target thread action); memory = memory_at frames p.memory t thread action }, went_or (cause_at frames p.memory t thread action))
  alone-after p t target action (Running stack) at r inside =
      ap (done p t) (outcome_alone p t target stack action inside)
      ∙ by_cause (failure frames p.memory.places t stack action) p t target stack action at
  alone-after p t target action (Exiting n) at r inside = absurd cc
  alone-after p t target action Ended at r inside = absurd cc

  acted_pair : (p : ProcessParts F) (t : ℕ) (target : D) (action : Action) (thread : Thread F)
      → runs (slice_get p.threads t) ≡ true → thread ≡ get_or p.threads t thread → outside_of action ≡ None
      → acted_at frames p t target action
      ≡ (record p { threads = slice_set p.threads t (thread_at frames p.memory t target thread action); memory = memory_at frames p.memory t thread action }, went_or (cause_at frames p.memory t thread action))
  acted_pair p t target action thread r found inside =
      let at : slice_get p.threads t ≡ Some thread = there p.threads t thread r found in
      ap (λ (o : Option (Thread F)). acted_by frames p t target o action) at ∙ alone-after p t target action thread at (ap runs (sym at) ∙ r) inside

  pub acted_state : (now : ProcessParts F) (mem : Memory) (threads : List (Thread F)) (world : WorldParts) (t : ℕ) (target : D) (action : Action) (thread : Thread F)
      → process mem threads world ≡ now → runs (slice_get now.threads t) ≡ true → thread ≡ get_or threads t thread → outside_of action ≡ None
      → process (memory_at frames mem t thread action) (slice_set threads t (thread_at frames mem t target thread action)) world
      ≡ (acted_at frames now t target action).0
  acted_state now mem threads world t target action thread e r found inside =
      let r : runs (slice_get threads t) ≡ true = ap (λ (v : ProcessParts F). runs (slice_get v.threads t)) e ∙ r in
      ap (λ (x : ProcessParts F × Step). x.0) (sym (acted_pair (process mem threads world) t target action thread r found inside))
      ∙ ap (λ (v : ProcessParts F). (acted_at frames v t target action).0) e

  pub acted_answer : (now : ProcessParts F) (mem : Memory) (threads : List (Thread F)) (world : WorldParts) (t : ℕ) (target : D) (action : Action) (thread : Thread F)
      → process mem threads world ≡ now → runs (slice_get now.threads t) ≡ true → thread ≡ get_or threads t thread → outside_of action ≡ None
      → went_or (cause_at frames mem t thread action) ≡ (acted_at frames now t target action).1
  acted_answer now mem threads world t target action thread e r found inside =
      let r : runs (slice_get threads t) ≡ true = ap (λ (v : ProcessParts F). runs (slice_get v.threads t)) e ∙ r in
      ap (λ (x : ProcessParts F × Step). x.1) (sym (acted_pair (process mem threads world) t target action thread r found inside))
      ∙ ap (λ (v : ProcessParts F). (acted_at frames v t target action).1) e
