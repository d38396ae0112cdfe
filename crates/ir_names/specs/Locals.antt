-- Sets of `%` names, as flags by function and number.
--
-- Choices: a number past the end of the flags isn't in the set, so that flags grow as names come.
use Rattle.std.specs.Prelude.{ℕ, Bool, false, ◌&&◌, List, [], nat_eq, slice_index_or}

abbrev pub same_pair : ℕ × ℕ → ℕ × ℕ → Bool
same_pair a b = nat_eq a.0 b.0 && nat_eq a.1 b.1

-- whether a set has the name of a function with this number
abbrev pub has_loc : List (List Bool) → ℕ → ℕ → Bool
has_loc funcs n at = slice_index_or (slice_index_or funcs n []) at false
