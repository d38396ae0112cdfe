-- How it is told whether a line is dropped. `Lines` says what is meant; no clause that a reader of lines
-- relies on cites what stands here.
use Rattle.std.specs.Prelude.{ℕ, ◌+◌, ◌==◌, ◌&&◌, ◌||◌, not, nat_eq, nat_lt, Bool, false, List, length, codes}
use Rattle.std.specs.List.{prefix_len, list_any, starts_with}
use Rattle.std.specs.Str.{bytes_eq}
use Rattle.ir_core.specs.declared.text.LinePlace.{LinePlace}
use Rattle.ir_core.specs.declared.text.LinePlace.TheVariants.{Top, Function, Switch}
use Rattle.ir_core.specs.TokenLengths.{name_from}
use Rattle.ir_core.specs.Lines.{past_blanks, first_word, header_words, externals, debug_fronts}

abbrev pub begins : List ℕ → List ℕ → Bool
begins front bytes = starts_with nat_eq bytes front

abbrev pub isnt_at : ℕ → Bool
isnt_at b = not (b == 64)

-- the line has an `@`
abbrev pub has_at : List ℕ → Bool
has_at line = nat_lt (prefix_len isnt_at line) (length line)

-- the longest name directly behind it, or nothing
abbrev pub name_at : List ℕ → List ℕ
name_at line = name_from line (prefix_len isnt_at line + 1)

-- the word is one of these
abbrev pub is_among : List (List ℕ) → List ℕ → Bool
is_among words word = list_any (bytes_eq word) words

unfoldable pub is_header : List ℕ → Bool
is_header line = is_among header_words (first_word line) || begins (codes "!") line

unfoldable pub is_foreign : List ℕ → Bool
is_foreign line = bytes_eq (first_word line) (codes "declare") && has_at line && not (is_among externals (name_at line))

unfoldable pub is_debug : List ℕ → Bool
is_debug rest = list_any (λ front. begins front rest) debug_fronts

unfoldable pub is_dropped : LinePlace → List ℕ → Bool
is_dropped Top line = is_header line || is_foreign line
is_dropped Function line = is_header line || is_foreign line || is_debug (past_blanks line)
is_dropped Switch line = false
