-- The next accesses of a state's threads as a list, and the first race that it shows.
use Rattle.std.specs.Prelude.{ℕ, ◌≡◌, ◌<◌, Bool, false, List, length, Option, None}
use Rattle.std.specs.List.{find, slice_index_or}
use Rattle.std.specs.Option.{option_map}
use Rattle.ir_core.specs.Module.{ModuleParts}
use Rattle.inst_meaning.specs.declared.actions.Access.{Access}
use Rattle.src_meaning.specs.State.{State}
use Rattle.src_meaning.specs.Races.{next_access, clash_of, pairs_of, race_of}
use Rattle.race_watch.specs.declared.table.Table.{Table}
use Rattle.race_watch.specs.Pairs.{numbers_of}

abbrev pub access_at : List (Option Access) → ℕ → Option Access
access_at accesses t = slice_index_or accesses t None

abbrev pub clashes_in : List (Option Access) → ℕ × ℕ → Bool
clashes_in accesses pair = clash_of (access_at accesses pair.0) (access_at accesses pair.1)

-- the first pair of threads whose accesses clash
abbrev pub race_in : List (Option Access) → Option (ℕ × ℕ)
race_in accesses = find (clashes_in accesses) (pairs_of (length accesses))

-- of any two threads whose accesses clash, this is one
abbrev pub OthersAreApart : List (Option Access) → ℕ → Type 0
OthersAreApart accesses t = (a b : ℕ) → (a ≡ t → ⊥) → (b ≡ t → ⊥) → a < b → b < length accesses → clashes_in accesses (a, b) ≡ false

-- the list has the next access of each thread
pub record AreAccesses (m : ModuleParts) (s : State) (accesses : List (Option Access)) : Type 0 where
  pub count : length accesses ≡ length s.process.threads
  pub each : (t : ℕ) → t < length s.process.threads → access_at accesses t ≡ next_access m s t

-- the table is that of a state
pub record IsTable (m : ModuleParts) (s : State) (table : Table) : Type 0 where
  pub accesses : AreAccesses m s table.accesses.items
  pub race : option_map numbers_of table.race ≡ race_of m s
