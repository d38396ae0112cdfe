-- Sets of numbers with a greatest size, as lists without repeats in the order in which their members came.
use Rattle.std.specs.Prelude.{◌≡◌, ℕ, ◌<◌, Bool, true, false, ◌||◌, nat_eq, nat_lt, List, [], ◌∷◌, ◌++◌, length, slice_index, Option, position}
use Rattle.std.specs.List.{list_any}

abbrev pub has : List ℕ → ℕ → Bool
has members n = list_any (nat_eq n) members

abbrev pub added_unless : Bool → List ℕ → ℕ → List ℕ
added_unless true members n = members
added_unless false members n = members ++ n ∷ []

-- the set with a number among its members
abbrev pub with_member : List ℕ → ℕ → List ℕ
with_member members n = added_unless (has members n) members n

-- a set of at most so many takes this one: it is a member, or there is room
abbrev pub takes : ℕ → List ℕ → ℕ → Bool
takes most members n = has members n || nat_lt (length members) most

-- which of the members a number is, from 0
abbrev pub place_in : List ℕ → ℕ → Option ℕ
place_in members n = position (nat_eq n) members

-- the sets have a member in common
abbrev pub meet : List ℕ → List ℕ → Bool
meet members others = list_any (has others) members

-- no member stands at two places
abbrev pub NoRepeats : List ℕ → Type 0
NoRepeats members = (i j : ℕ) → i < length members → j < length members → slice_index members i ≡ slice_index members j → i ≡ j
