-- Upsets as the code keeps them: as they came, one that struck as the record of one that is undone; and their records once it is known which
-- numbers threads carry.
use Rattle.std.specs.Prelude.{ℕ, suc, Bool, true, false, List, [], ◌∷◌, slice_get, slice_set}
use Rattle.std.specs.Option.{option_map_or}
use Rattle.upset_model.specs.declared.records.Record.{Record}
use Rattle.upset_model.specs.declared.records.Record.TheVariants.{Missed, Window, Hit, Undone, Stacked}
use Rattle.hard_meaning.specs.State.{Upset, Nowhere, OnAnother, InWindow, Struck}
use Rattle.hard_meaning.specs.Records.{hit_if}
use Rattle.tx_machine.specs.declared.records.Kind.{Kind}
use Rattle.tx_machine.specs.declared.records.Kind.TheVariants as kinds

abbrev pub kind_as : Kind → Upset
kind_as kinds.Nowhere = Nowhere
kind_as kinds.OnAnother = OnAnother
kind_as kinds.InWindow = InWindow
kind_as kinds.Struck = Struck

-- how an upset came, by what is kept of it
abbrev pub came : Record → Upset
came Missed = Nowhere
came Window = InWindow
came Hit = Struck
came Undone = Struck
came Stacked = OnAnother

-- ---- records by a test of numbers

-- what the upset with a number is, where those that struck are hits by this test
abbrev pub record_if : (ℕ → Bool) → ℕ → Upset → Record
record_if is_hit k Nowhere = Missed
record_if is_hit k OnAnother = Stacked
record_if is_hit k InWindow = Window
record_if is_hit k Struck = hit_if (is_hit k)

abbrev pub records_if : (ℕ → Bool) → ℕ → List Upset → List Record
records_if is_hit k [] = []
records_if is_hit k (upset ∷ upsets) = record_if is_hit k upset ∷ records_if is_hit (suc k) upsets

-- what is kept of an upset
abbrev pub kept : Upset → Record
kept upset = record_if (λ k. false) 0 upset

-- ---- those that stand

-- it stands whatever is aborted
abbrev pub is_firm : Upset → Bool
is_firm Nowhere = false
is_firm OnAnother = true
is_firm InWindow = true
is_firm Struck = false

abbrev pub more_if : Bool → ℕ → ℕ
more_if true n = suc n
more_if false n = n

-- how many stand whatever is aborted
abbrev pub firm_in : List Upset → ℕ
firm_in [] = 0
firm_in (upset ∷ upsets) = more_if (is_firm upset) (firm_in upsets)

abbrev pub is_struck : Upset → Bool
is_struck Nowhere = false
is_struck OnAnother = false
is_struck InWindow = false
is_struck Struck = true

-- the upset with a number struck
abbrev pub struck_at : List Upset → ℕ → Bool
struck_at upsets k = option_map_or is_struck (slice_get upsets k) false

-- ---- hits

-- a record of an upset whose number is carried
abbrev pub hit_as : Record → Record
hit_as Missed = Missed
hit_as Window = Window
hit_as Hit = Hit
hit_as Undone = Hit
hit_as Stacked = Stacked

abbrev pub hit_at : ℕ → List Record → List Record
hit_at k rs = option_map_or (λ r. slice_set rs k (hit_as r)) (slice_get rs k) rs

-- those with these numbers
abbrev pub hit_all : List ℕ → List Record → List Record
hit_all [] rs = rs
hit_all (k ∷ ks) rs = hit_all ks (hit_at k rs)
