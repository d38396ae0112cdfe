-- The records of upsets, as they are at a moment.
--
-- Choice: a record is read off: an upset that counts stands as long as some thread, or its transaction, carries its number; once none
-- does, the transaction that it struck was aborted.
use Rattle.std.specs.Prelude.{ℕ, suc, Bool, true, false, ◌||◌, List, [], ◌∷◌}
use Rattle.std.specs.List.{list_any}
use Rattle.line_sets.specs.Sets.{has}
pub use Rattle.upset_model.specs.declared.records.Record.{Record}
pub use Rattle.upset_model.specs.declared.records.Record.TheVariants.{Missed, Window, Hit, Undone, Stacked}
use Rattle.hard_meaning.specs.State.{Mode, Free, Inside, Worker, Upset, Nowhere, OnAnother, InWindow, Struck, State}

abbrev pub struck_in : Mode → List ℕ
struck_in (Free plain) = []
struck_in (Inside tx) = tx.struck

-- a thread carries the number of an upset
abbrev pub carries : ℕ → Worker → Bool
carries k w = has w.hits k || has (struck_in w.mode) k

abbrev pub hit_if : Bool → Record
hit_if true = Hit
hit_if false = Undone

-- what the upset with a number is now
abbrev pub record_of : List Worker → ℕ → Upset → Record
record_of workers k Nowhere = Missed
record_of workers k OnAnother = Stacked
record_of workers k InWindow = Window
record_of workers k Struck = hit_if (list_any (carries k) workers)

abbrev pub records_from : List Worker → ℕ → List Upset → List Record
records_from workers k [] = []
records_from workers k (upset ∷ upsets) = record_of workers k upset ∷ records_from workers (suc k) upsets

abbrev pub records : State → List Record
records s = records_from s.workers 0 s.upsets

-- ---- those that stand

-- it struck, and no abort has undone it
abbrev pub stands : Record → Bool
stands Missed = false
stands Window = true
stands Hit = true
stands Undone = false
stands Stacked = true

abbrev pub some_stands : List Record → Bool
some_stands rs = list_any stands rs
