-- Texts as lines, and the lines that are dropped without being cut into tokens.
use Rattle.std.specs.Prelude.{ℕ, ◌≡◌, ◌≤◌, ◌==◌, ◌⊎◌, not, if◌then◌else◌, Bool, IsTrue, List, [], ◌∷◌, ◌++◌, length, take, drop, codes}
use Rattle.std.specs.List.{list_all, prefix_len, Contains}
use Rattle.ir_core.specs.declared.text.LinePlace.{LinePlace}
use Rattle.ir_core.specs.declared.text.LinePlace.TheVariants.{Top, Function, Switch}
use Rattle.ir_core.specs.Tokens.{is_blank, begins_word, is_name, IsFront}

-- ---- lines

-- a byte before the lines of what follows it, where the byte isn't a line feed
abbrev pub with_byte : ℕ → List (List ℕ) → List (List ℕ)
with_byte b [] = (b ∷ []) ∷ []
with_byte b (line ∷ lines) = (b ∷ line) ∷ lines

-- The lines of a text: a line feed or the end of the text ends one, and an empty rest is none.
unfoldable pub lines_of : List ℕ → List (List ℕ)
lines_of [] = []
lines_of (b ∷ bytes) = if b == 10 then [] ∷ lines_of bytes else with_byte b (lines_of bytes)

-- any byte but a line feed
abbrev pub isnt_feed : ℕ → Bool
isnt_feed b = not (b == 10)

-- The text is a line, its line feed and the rest, or it is a line alone, which the end of the text ends.
pub record IsFirstLine (text line rest : List ℕ) : Type 0 where
  pub is_line : IsTrue (list_all isnt_feed line)
  pub whole : (text ≡ line ++ 10 ∷ rest) ⊎ ((text ≡ line) × (rest ≡ []))

-- the text with a line feed at its end, where it has another byte there
abbrev pub fed : List ℕ → List ℕ
fed [] = []
fed (b ∷ []) = if b == 10 then b ∷ [] else b ∷ 10 ∷ []
fed (b ∷ c ∷ bytes) = b ∷ fed (c ∷ bytes)

-- ---- lines that are dropped

-- the line behind its first blanks, tabs and carriage returns
abbrev pub past_blanks : List ℕ → List ℕ
past_blanks line = drop (prefix_len is_blank line) line

-- the longest run of letters and `_` there
abbrev pub first_word : List ℕ → List ℕ
first_word line = take (prefix_len begins_word (past_blanks line)) (past_blanks line)

-- the first words of lines that say nothing of what the program does
abbrev pub header_words : List (List ℕ)
header_words = codes "source_filename" ∷ codes "target" ∷ codes "attributes" ∷ []

-- the functions outside the module that a module may declare
abbrev pub externals : List (List ℕ)
externals = codes "pthread_create" ∷ codes "pthread_join" ∷ codes "pthread_mutex_lock" ∷ codes "pthread_mutex_unlock" ∷ codes "putchar" ∷ codes "exit" ∷ codes "malloc" ∷ codes "free" ∷ codes "haft_out" ∷ codes "haft_arg" ∷ []

-- how records and calls begin that only a debugger reads, or that say how long a variable is in use
abbrev pub debug_fronts : List (List ℕ)
debug_fronts = codes "#dbg_" ∷ codes "call void @llvm.dbg." ∷ codes "call void @llvm.lifetime." ∷ codes "tail call void @llvm.dbg." ∷ codes "tail call void @llvm.lifetime." ∷ []

-- the line has an `@`, and this is what stands behind the first one
pub record BehindAt (line rest : List ℕ) : Type 0 where
  pub front : List ℕ
  pub whole : line ≡ front ++ codes "@" ++ rest
  pub is_first : IsTrue (list_all (λ b. not (b == 64)) front)

-- the longest name at the front of the bytes
pub record IsLongestName (name bytes : List ℕ) : Type 0 where
  pub is : IsTrue (is_name name)
  pub front : IsFront name bytes
  pub longest : (other : List ℕ) → IsTrue (is_name other) → IsFront other bytes → length other ≤ length name

-- The line says nothing of what the program does.
pub data SaysNothing (line : List ℕ) : Type 0 where
  Header : Contains header_words (first_word line) → SaysNothing line
  Metadata : IsFront (codes "!") line → SaysNothing line
  Nameless : (rest : List ℕ) → first_word line ≡ codes "declare" → BehindAt line rest → ((name : List ℕ) → IsTrue (is_name name) → IsFront name rest → ⊥) → SaysNothing line
  Unknown : (rest name : List ℕ) → first_word line ≡ codes "declare" → BehindAt line rest → IsLongestName name rest → (Contains externals name → ⊥) → SaysNothing line

-- The line is a record or a call that only a debugger reads, or one that says how long a variable is in use.
pub record IsDebug (line : List ℕ) : Type 0 where
  pub front : List ℕ
  pub known : Contains debug_fronts front
  pub begins : IsFront front (past_blanks line)

-- The line is accepted and dropped without being cut into tokens, where it stands at this place.
abbrev pub IsDropped : LinePlace → List ℕ → Type 0
IsDropped Top line = SaysNothing line
IsDropped Function line = SaysNothing line ⊎ IsDebug line
IsDropped Switch line = ⊥
