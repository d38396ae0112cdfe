-- A watch that is under way.
use Rattle.std.specs.Prelude.{ℕ, ◌≡◌, List, [], ◌++◌}
use Rattle.ir_core.specs.Module.{ModuleParts}
use Rattle.src_meaning.specs.Step.{opening}
use Rattle.race_watch.specs.declared.outcome.SrcStop.{SrcStop}
use Rattle.race_watch.specs.declared.watching.Watcher.{Watcher}
use Rattle.race_watch.specs.Tables.{IsTable}
use Rattle.race_watch.specs.Watching.{Watched, watch_from}

-- its table is that of its state
abbrev pub IsKept : Watcher → Type 0
IsKept w = IsTable w.source.program w.source.state w.table

-- it has not begun
pub record IsStart (m : ModuleParts) (arguments : List ℕ) (w : Watcher) : Type 0 where
  pub source : w.source ≡ record { program = m; state = opening m arguments }
  pub passed : w.passed ≡ 0
  pub log : w.log ≡ []

-- the same behind turns that went
abbrev pub behind : List ℕ → Watched → Watched
behind turns watched = record watched { turns = turns ++ watched.turns }

-- what it comes to, where these turns are left
abbrev pub outcome_on : Watcher → List ℕ → Watched
outcome_on w turns = behind w.log (watch_from w.source.program w.passed w.source.state turns)

-- what it comes to, where it stops here
abbrev pub stopped : Watcher → SrcStop → Watched
stopped w stop = record { stop = stop; outputs = w.source.state.process.world.outputs; turns = w.log }
