-- The state of a hardened program that runs: memory, threads and the world as in a run of its source, with two copies of the registers
-- in each frame; and the turns of the source run for which it stands so far.
--
-- Choices: no thread is in a transaction: there are none yet.
use Rattle.std.specs.Prelude.{ℕ, List, Option}
use Rattle.process.specs.State.{ProcessParts}
use Rattle.hard_ir.specs.Hardened.{HardParts}
use Rattle.hard_frames.specs.declared.outcome.Stop.{Stop}
use Rattle.hard_frames.specs.declared.state.Frame.{Frame}

pub record State : Type 0 where
  pub process : ProcessParts Frame
  pub turns : List ℕ
  pub stop : Option Stop

-- what contracts see of a machine: its program, and its state
pub record Machined : Type 0 where
  pub program : HardParts
  pub state : State
