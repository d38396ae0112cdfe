-- The fields of a line, and the lines that are passed over.
use Rattle.std.specs.Prelude.{ℕ, ◌==◌, not, if◌then◌else◌, Bool, true, false, List, [], ◌∷◌, map}
use Rattle.std.specs.List.{filter}
use Rattle.ir_core.specs.Tokens.{is_blank}
use Rattle.ir_core.specs.Lines.{with_byte}

-- what stands between two blanks, tabs or carriage returns of a line, before the first or behind the last; it may be empty
unfoldable pub pieces_of : List ℕ → List (List ℕ)
pieces_of [] = [] ∷ []
pieces_of (b ∷ bytes) = if is_blank b then [] ∷ pieces_of bytes else with_byte b (pieces_of bytes)

abbrev pub is_filled : {A : Type 0} → List A → Bool
is_filled [] = false
is_filled (x ∷ xs) = true

-- The fields of a line: blanks, tabs and carriage returns separate them.
unfoldable pub fields_of : List ℕ → List (List ℕ)
fields_of line = filter is_filled (pieces_of line)

-- the field begins with `#`
abbrev pub is_comment : List ℕ → Bool
is_comment [] = false
is_comment (b ∷ bytes) = b == 35

-- A line is passed over where it has no field, or its first field begins with `#`.
abbrev pub is_passed : List (List ℕ) → Bool
is_passed [] = true
is_passed (field ∷ fields) = is_comment field

-- the fields of each line that isn't passed over
unfoldable pub rows_of : List (List ℕ) → List (List (List ℕ))
rows_of lines = filter (λ fields. not (is_passed fields)) (map fields_of lines)
