-- Tokens: what they are, and which stand on a line.
use Rattle.std.specs.Prelude.{ℕ, ◌≡◌, ◌+◌, ◌≤◌, ◌==◌, ◌&&◌, ◌||◌, ◌⊎◌, not, nat_le, if◌then◌else◌, Bool, true, false, IsTrue, List, [], ◌∷◌, ◌++◌, length, drop, codes}
use Rattle.std.specs.List.{list_all, AllByRecursion}
use Rattle.ir_core.specs.declared.text.TokKind.{TokKind}
use Rattle.ir_core.specs.declared.text.TokKind.TheVariants.{Word, Local, At, Label, Num, Bytes, Str, Hash, Bang, Punct}
use Rattle.ir_core.specs.declared.text.Token.{Token}

-- ---- bytes

-- '0' to '9'
abbrev pub is_digit : ℕ → Bool
is_digit b = nat_le 48 b && nat_le b 57

-- 'a' to 'z', or 'A' to 'Z'
abbrev pub is_letter : ℕ → Bool
is_letter b = (nat_le 97 b && nat_le b 122) || (nat_le 65 b && nat_le b 90)

-- a letter or `_`
abbrev pub begins_word : ℕ → Bool
begins_word b = is_letter b || b == 95

-- a letter, a digit, `_` or `.`
abbrev pub is_word_byte : ℕ → Bool
is_word_byte b = begins_word b || is_digit b || b == 46

-- a letter, `-`, `$`, `.` or `_`
abbrev pub begins_name : ℕ → Bool
begins_name b = is_letter b || b == 45 || b == 36 || b == 46 || b == 95

abbrev pub is_name_byte : ℕ → Bool
is_name_byte b = begins_name b || is_digit b

-- one of `= , ( ) { } [ ] *`
abbrev pub is_punct : ℕ → Bool
is_punct b = b == 61 || b == 44 || b == 40 || b == 41 || b == 123 || b == 125 || b == 91 || b == 93 || b == 42

-- any byte but a quote
abbrev pub is_unquoted : ℕ → Bool
is_unquoted b = not (b == 34)

-- a blank, a tab or a carriage return
abbrev pub is_blank : ℕ → Bool
is_blank b = b == 32 || b == 9 || b == 13

-- ---- tokens

-- one digit or more
abbrev pub is_digits : List ℕ → Bool
is_digits [] = false
is_digits (b ∷ bytes) = list_all is_digit (b ∷ bytes)

-- `[-a-zA-Z$._][-a-zA-Z$._0-9]*`, or one digit or more
abbrev pub is_name : List ℕ → Bool
is_name [] = false
is_name (b ∷ bytes) = (begins_name b && list_all is_name_byte bytes) || list_all is_digit (b ∷ bytes)

-- a letter or `_`, then letters, digits, `_` and `.`
abbrev pub is_word : List ℕ → Bool
is_word [] = false
is_word (b ∷ bytes) = begins_word b && list_all is_word_byte bytes

abbrev pub is_one_punct : List ℕ → Bool
is_one_punct (b ∷ []) = is_punct b
is_one_punct bytes = false

-- the text is the front, and then bytes that pass the test
pub record Behind (front : List ℕ) (test : List ℕ → Bool) (text : List ℕ) : Type 0 where
  pub rest : List ℕ
  pub whole : text ≡ front ++ rest
  pub passes : IsTrue (test rest)

-- the text is bytes that pass the test, and then the back
pub record Before (test : List ℕ → Bool) (back : List ℕ) (text : List ℕ) : Type 0 where
  pub begin : List ℕ
  pub whole : text ≡ begin ++ back
  pub passes : IsTrue (test begin)

-- the text is the front, bytes without a quote, and a quote
pub record Quoted (front text : List ℕ) : Type 0 where
  pub inside : List ℕ
  pub whole : text ≡ front ++ inside ++ codes "\""
  pub unquoted : IsTrue (list_all is_unquoted inside)

-- The text is a token of the kind; the Bool says whether it is the first of its line.
unfoldable pub IsToken : Bool → TokKind → List ℕ → Type 0
IsToken first Word text = IsTrue (is_word text)
IsToken first Local text = Behind (codes "%") is_name text
IsToken first At text = Behind (codes "@") is_name text
IsToken first Label text = IsTrue first × Before is_name (codes ":") text
IsToken first Num text = IsTrue (is_digits text) ⊎ Behind (codes "-") is_digits text
IsToken first Bytes text = Quoted (codes "c\"") text
IsToken first Str text = Quoted (codes "\"") text
IsToken first Hash text = Behind (codes "#") is_digits text
IsToken first Bang text = Behind (codes "!") is_name text
IsToken first Punct text = IsTrue (is_one_punct text)

-- ---- the tokens of a line

-- the bytes begin with the text
abbrev pub IsFront : List ℕ → List ℕ → Type 0
IsFront text bytes = (rest : List ℕ) × (bytes ≡ text ++ rest)

-- The text is a token at the front of the bytes, and no token there is longer, of whichever kind.
pub record IsLongest (first : Bool) (kind : TokKind) (text bytes : List ℕ) : Type 0 where
  pub is : IsToken first kind text
  pub front : IsFront text bytes
  pub longest : (kind : TokKind) (other : List ℕ) → IsToken first kind other → IsFront other bytes → length other ≤ length text

-- some token stands at the front of the bytes
abbrev pub Begins : Bool → List ℕ → Type 0
Begins first bytes = (kind : TokKind) × (text : List ℕ) × IsToken first kind text × IsFront text bytes

-- what stands at a place of a line: no more tokens (the end, or a `;`), a gap between tokens, or anything else
pub data Place : Type 0 where
  Over : Place
  Gap : Place
  Text : Place

abbrev pub place_of : List ℕ → Place
place_of [] = Over
place_of (b ∷ bytes) = if b == 59 then Over else if is_blank b then Gap else Text

-- The tokens of the bytes of a line from the place `at` on; the Bool says whether none stands before.
pub data Tokens : Bool → ℕ → List ℕ → List Token → Type 0 where
  Ends : (first : Bool) (at : ℕ) (bytes : List ℕ) → place_of bytes ≡ Over → Tokens first at bytes []
  Passes : (first : Bool) (at : ℕ) (bytes : List ℕ) (tokens : List Token) → place_of bytes ≡ Gap → Tokens first (at + 1) (drop 1 bytes) tokens → Tokens first at bytes tokens
  Takes : (first : Bool) (at : ℕ) (bytes : List ℕ) (kind : TokKind) (text : List ℕ) (tokens : List Token)
      → place_of bytes ≡ Text → IsLongest first kind text bytes → Tokens false (at + length text) (drop (length text) bytes) tokens
      → Tokens first at bytes (record { kind = kind; start = at; end = at + length text } ∷ tokens)

-- The first column, counted from 1, where the line goes on and no token begins.
pub data BadColumn : Bool → ℕ → List ℕ → ℕ → Type 0 where
  Here : (first : Bool) (at : ℕ) (bytes : List ℕ) → place_of bytes ≡ Text → (Begins first bytes → ⊥) → BadColumn first at bytes (at + 1)
  Past : (first : Bool) (at : ℕ) (bytes : List ℕ) (column : ℕ) → place_of bytes ≡ Gap → BadColumn first (at + 1) (drop 1 bytes) column → BadColumn first at bytes column
  Behind_token : (first : Bool) (at : ℕ) (bytes : List ℕ) (kind : TokKind) (text : List ℕ) (column : ℕ)
      → place_of bytes ≡ Text → IsLongest first kind text bytes → BadColumn false (at + length text) (drop (length text) bytes) column
      → BadColumn first at bytes column

-- the tokens of a whole line, and its first bad column
abbrev pub HasTokens : List ℕ → List Token → Type 0
HasTokens line tokens = Tokens true 0 line tokens

abbrev pub HasBadColumn : List ℕ → ℕ → Type 0
HasBadColumn line column = BadColumn true 0 line column

-- ---- where tokens lie

-- the token lies within a text of so many bytes
pub record IsWithin (size : ℕ) (t : Token) : Type 0 where
  pub ordered : t.start ≤ t.end
  pub inside : t.end ≤ size

-- the tokens lie within a text of so many bytes, and are no more than these
pub record AreWithin (size : ℕ) (tokens : List Token) : Type 0 where
  pub each : AllByRecursion (IsWithin size) tokens
  pub count : length tokens ≤ size
