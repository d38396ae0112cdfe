-- What a run of a hardened program says of its source, over transactions and upsets.
--
-- Choices: a result stands for one run of the source, the one on the turns that it tells; turns of transactions that are open or were
-- aborted are none of these. An upset is covered where it struck nothing, or struck outside windows once earlier ones were undone;
-- nothing is said of a run with others. The machine may stop at a check, or at what is undefined, only after one that no abort undid.
use Rattle.std.specs.Prelude.{ℕ, ◌≡◌, ◌↔◌, Bool, true, false, List, Some, IsTrue}
use Rattle.std.specs.List.{list_all, list_any}
use Rattle.ir_core.specs.Module.{ModuleParts}
use Rattle.src_meaning.specs.Runs.{source}
use Rattle.turn_runs.specs.Runs.{turns_of}
use Rattle.hard_frames.specs.declared.outcome.Stop.TheVariants.{End}
use Rattle.hard_simulation.specs.Meaning.{AllWent, code_of, IsFailure}
use Rattle.hard_meaning.specs.Records.{Record, Missed, Window, Hit, Undone, Stacked}
use Rattle.hard_meaning.specs.Runs.{RunParts}

-- ---- records

-- it struck nothing, or outside windows while no earlier one stood
abbrev pub is_covered : Record → Bool
is_covered Missed = true
is_covered Window = false
is_covered Hit = true
is_covered Undone = true
is_covered Stacked = false

abbrev pub is_hit : Record → Bool
is_hit Missed = false
is_hit Window = false
is_hit Hit = true
is_hit Undone = false
is_hit Stacked = false

-- nothing of it is left: it struck nothing, or an abort has undone it
abbrev pub is_gone : Record → Bool
is_gone Missed = true
is_gone Window = false
is_gone Hit = false
is_gone Undone = true
is_gone Stacked = false

-- no record is Window or Stacked
abbrev pub AreCovered : List Record → Type 0
AreCovered records = IsTrue (list_all is_covered records)

-- each record is Missed or Undone
abbrev pub AreGone : List Record → Type 0
AreGone records = IsTrue (list_all is_gone records)

-- some record is Hit
abbrev pub SomeHit : List Record → Type 0
SomeHit records = IsTrue (list_any is_hit records)

-- ---- results

-- the result stands for the source run on the turns that it tells
pub record Means (m : ModuleParts) (arguments : List ℕ) (r : RunParts) : Type 0 where
  pub went : AllWent (source m arguments (turns_of r.turns)).answers
  pub outputs : r.outs ≡ (source m arguments (turns_of r.turns)).state.process.world.outputs
  pub ends : (code : ℕ) → (r.stop ≡ End code) ↔ (code_of (source m arguments (turns_of r.turns)).answers ≡ Some code)
  pub fails : IsFailure r.stop → SomeHit r.upsets
