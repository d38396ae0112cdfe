-- What holds of the runtime's words of a thread at any moment of a run.
use Rattle.std.specs.Prelude.{ℕ, ◌≡◌, ◌<◌, ◌≤◌, true, false, List, Some, slice_get}
use Rattle.tx_runtime.specs.Words.{tries}
use Rattle.hard_ir.specs.declared.instruction.HInst.TheVariants.{Begin}
use Rattle.hard_ir.specs.Hardened.{HardParts}
use Rattle.hard_frames.specs.declared.outcome.Aborts.{Aborts}
use Rattle.hard_frames.specs.Code.{inst_at}
use Rattle.hard_meaning.specs.State.{Mode, Free, Inside, Worker, no_aborts}

-- inside, what an abort gives back stands at a `begin`, and the attempts that were lost leave one more; outside they are no more than there may be
abbrev pub IsTried : HardParts → Mode → ℕ → Type 0
IsTried h (Free plain) attempts = attempts ≤ tries
IsTried h (Inside tx) attempts = (inst_at h tx.kept.frame ≡ Some Begin) × (attempts < tries)

-- no attempt was lost, and transactions aren't given up
abbrev pub IsCalm : Mode → ℕ → Type 0
IsCalm (Free true) attempts = ⊥
IsCalm (Free false) attempts = attempts ≡ 0
IsCalm (Inside tx) attempts = attempts ≡ 0

-- it is so of a thread that was never aborted
pub record Steady (h : HardParts) (mode : Mode) (attempts : ℕ) (aborts : Aborts) : Type 0 where
  pub tried : IsTried h mode attempts
  pub calm : aborts ≡ no_aborts → IsCalm mode attempts

abbrev pub IsSteady : HardParts → Worker → Type 0
IsSteady h w = Steady h w.mode w.attempts w.aborts

-- of each thread
abbrev pub AreSteady : HardParts → List Worker → Type 0
AreSteady h workers = (t : ℕ) (w : Worker) → slice_get workers t ≡ Some w → IsSteady h w
