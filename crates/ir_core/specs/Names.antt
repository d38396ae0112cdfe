-- Name tables: a name's number is its place, and a name is numbered at the first call that gives it.
use Rattle.std.specs.Prelude.{ℕ, List, ◌∷◌, [], ◌++◌, Option, position, if◌then◌else◌}
use Rattle.std.specs.List.{list_any, position_or_len}
use Rattle.std.specs.Str.{bytes_eq}

-- the number of a name, where the table has it
abbrev pub number_of : List (List ℕ) → List ℕ → Option ℕ
number_of names name = position (bytes_eq name) names

-- the number of a name once the table has it: its own, or the next
abbrev pub number_given : List (List ℕ) → List ℕ → ℕ
number_given names name = position_or_len (bytes_eq name) names

-- the table once it has the name
abbrev pub numbered : List (List ℕ) → List ℕ → List (List ℕ)
numbered names name = if list_any (bytes_eq name) names then names else names ++ name ∷ []
