-- A schedule with one of its upsets alone.
use Rattle.std.specs.Prelude.{ℕ, ◌-◌, Bool, true, false, not, ◌||◌, nat_eq, List, [], ◌∷◌, count_by}
use Rattle.sched_file.specs.declared.entries.Line.{Line}
use Rattle.sched_file.specs.declared.entries.Line.TheVariants as entries

abbrev pub is_upset : Line → Bool
is_upset (entries.Turn thread turns) = false
is_upset (entries.Round threads rounds) = false
is_upset (entries.Mix threads seed turns) = false
is_upset (entries.Abort thread) = false
is_upset (entries.Upset upset) = true

-- how many of the entries are upsets
abbrev pub upsets_in : List Line → ℕ
upsets_in lines = count_by is_upset lines

-- of the upsets that are to come the k-th alone is wanted; 0 where it has come
abbrev pub stays : ℕ → Line → Bool
stays k line = not (is_upset line) || nat_eq k 1

abbrev pub one_less_if : Bool → ℕ → ℕ
one_less_if true k = k - 1
one_less_if false k = k

abbrev pub kept_if : Bool → Line → List Line → List Line
kept_if true line lines = line ∷ lines
kept_if false line lines = lines

-- the entries without the upsets other than the k-th, counted from 1
abbrev pub only : ℕ → List Line → List Line
only k [] = []
only k (line ∷ lines) = kept_if (stays k line) line (only (one_less_if (is_upset line) k) lines)
