-- What stands under a `%` name where the first of its name counts.
use Rattle.std.specs.Prelude.{ℕ, ◌≡◌, List, Option, None, find, slice_get, slice_index_or, nat_eq}
use Rattle.std.specs.Option.{option_map, option_and_then}
use Rattle.std.specs.HashMap.{HashMap, get}
use Rattle.std.specs.declared.hash.FoldHasher.{FoldHasher}
use Rattle.std.specs.declared.hash.BuildHasherDefault.{BuildHasherDefault}
use Rattle.ir_core.specs.declared.types.Loc.{Loc}

-- the first that stands under the name with this number, name and all; and without its name
abbrev pub entry_of : {A : Type 0} → List (Loc × A) → ℕ → Option (Loc × A)
entry_of entries n = find (λ entry. nat_eq entry.0.0 n) entries

abbrev pub first_of : {A : Type 0} → List (Loc × A) → Loc → Option A
first_of entries at = option_map (λ entry. entry.1) (entry_of entries at.0)

-- a table from numbers to places in a list
abbrev pub Places : Type 0
Places = HashMap ℕ ℕ (BuildHasherDefault FoldHasher)

-- at the place of each number stands its first entry
abbrev pub ArePlaced : {A : Type 0} → List (Loc × A) → Places → Type 0
ArePlaced entries places = (n : ℕ) → option_and_then (slice_get entries) (get nat_eq places n) ≡ entry_of entries n

-- the same of a table that is a list by number
abbrev pub AreListed : {A : Type 0} → List (Loc × A) → List (Option ℕ) → Type 0
AreListed entries places = (n : ℕ) → option_and_then (slice_get entries) (slice_index_or places n None) ≡ entry_of entries n
