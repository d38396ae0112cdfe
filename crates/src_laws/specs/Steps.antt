-- What steps of the source that do nothing leave, and what comes after an end.
use Rattle.std.specs.Prelude.{ℕ, ◌≡◌, true}
use Rattle.process.specs.declared.state.Step.{Step}
use Rattle.process.specs.declared.state.Step.TheVariants.{Went, Waits, Idle, Undefined, Ended}
use Rattle.src_meaning.specs.State.{State}

-- the step did nothing
abbrev pub IsStill : Step → Type 0
IsStill Went = ⊥
IsStill Waits = Unit {0}
IsStill Idle = Unit {0}
IsStill (Undefined cause) = Unit {0}
IsStill (Ended code) = ⊥

-- a step that did nothing gives the state back, and one that ends the program says so in its state
pub record IsStep (s : State) (p : State × Step) : Type 0 where
  pub still : IsStill p.1 → p.0 ≡ s
  pub over : (code : ℕ) → p.1 ≡ Ended code → p.0.ended ≡ true
