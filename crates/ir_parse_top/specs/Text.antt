-- What a text stands for, and its first line that fits no form at its place (LLVM Language Reference, 'Module
-- Structure').
--
-- Lines are read one after another. A line that is dropped at its place, or has no token, says nothing. Any
-- other one says what its tokens stand for outside or inside functions. A `switch` may go over several lines: its tokens
-- are those of all its lines.
use Rattle.std.specs.Prelude.{ℕ, ◌≡◌, ◌≤◌, ◌⊎◌, ◌+◌, ◌&&◌, not, Bool, true, false, List, [], ◌∷◌, ◌++◌, length, map, codes, slice_get, max, fold, Option, Some, None}
use Rattle.std.specs.List.{list_any}
use Rattle.ir_core.specs.declared.text.Token.{Token}
use Rattle.ir_core.specs.declared.text.LinePlace.{LinePlace}
use Rattle.ir_core.specs.declared.text.LinePlace.TheVariants as places
use Rattle.ir_core.specs.Module.{ModuleParts, FuncParts, empty_module}
use Rattle.ir_core.specs.Tokens.{HasTokens, HasBadColumn}
use Rattle.ir_core.specs.Lines.{lines_of, IsDropped}
use Rattle.ir_grammar.specs.declared.trees.TopLine.{TopLine}
use Rattle.ir_grammar.specs.declared.trees.BodyLine.{BodyLine}
use Rattle.ir_grammar.specs.Parts.{Tok, heads}
use Rattle.ir_grammar.specs.Fitting.{IsLine, IsUnfit}
use Rattle.ir_grammar.specs.Tokens.{tokens_of, is_word, is_punct, open_bracket, close_bracket}
use Rattle.ir_grammar.specs.Top.{top_line, body_line}
use Rattle.ir_numbering.specs.Numbers.{numbered_module}
use Rattle.ir_parse_top.specs.Sheet.{Sheet, Outside, Inside, with_top, with_body, with_numerals}

-- ---- lines and their places

pub record Line : Type 0 where
  pub at : ℕ
  pub bytes : List ℕ

-- lines with the places where they begin, the first of which is given
unfoldable pub placed : ℕ → List (List ℕ) → List Line
placed at [] = []
placed at (bytes ∷ lines) = record { at = at; bytes = bytes } ∷ placed (at + length bytes + 1) lines

-- tokens of a line that begins at this place, told by their places in the text
abbrev pub moved : ℕ → Token → Token
moved at t = record { kind = t.kind; start = at + t.start; end = at + t.end }

abbrev pub all_moved : ℕ → List Token → List Token
all_moved at = map (moved at)

-- ---- a `switch` over several lines

-- the tokens begin a `switch` and its brackets, and don't close them
abbrev pub is_unclosed : List Tok → Bool
is_unclosed tokens = heads (is_word (codes "switch")) tokens && list_any (is_punct open_bracket) tokens && not (list_any (is_punct close_bracket) tokens)

-- ---- one line

abbrev pub place_of_switch : List Token → LinePlace
place_of_switch [] = places.Function
place_of_switch (t ∷ tokens) = places.Switch

-- where the next line stands
abbrev pub place_behind : Sheet → LinePlace
place_behind (Outside tree) = places.Top
place_behind (Inside tree f entry pending) = place_of_switch pending

-- the tokens that a line's own ones go on from
abbrev pub pending_of : Sheet → List Token
pending_of (Outside tree) = []
pending_of (Inside tree f entry pending) = pending

-- The tokens of a `switch` fit so far and end too early, before its brackets are closed.
pub record GoesOn (text : List ℕ) (tokens : List Token) : Type 0 where
  pub unclosed : is_unclosed (tokens_of text tokens) ≡ true
  pub fits : IsUnfit body_line.means (tokens_of text tokens) (length tokens)

-- The tokens stand for a line behind the sheet, which leads to the next one.
abbrev pub Says : List ℕ → Sheet → List Token → Sheet → Type 0
Says text (Outside tree) tokens next = (line : TopLine) × IsLine top_line.means (tokens_of text tokens) line × (next ≡ with_top text tree line)
Says text (Inside tree f entry pending) tokens next =
    ((line : BodyLine) × IsLine body_line.means (tokens_of text tokens) line × (next ≡ with_body tree f entry line))
    ⊎ (GoesOn text tokens × (next ≡ Inside tree f entry tokens))

-- The line is neither dropped nor without tokens, and these, behind those of an unclosed `switch`, are all tokens.
pub record HasText (sheet : Sheet) (line : Line) (all : List Token) : Type 0 where
  pub tokens : List Token
  pub kept : IsDropped (place_behind sheet) line.bytes → ⊥
  pub own : HasTokens line.bytes tokens
  pub some : tokens ≡ [] → ⊥
  pub whole : all ≡ pending_of sheet ++ all_moved line.at tokens

-- The line is read behind the sheet, and the next sheet is what has been read then.
pub data Leads (text : List ℕ) (sheet : Sheet) (line : Line) (next : Sheet) : Type 0 where
  Dropped : IsDropped (place_behind sheet) line.bytes → next ≡ sheet → Leads text sheet line next
  Blank : (IsDropped (place_behind sheet) line.bytes → ⊥) → HasTokens line.bytes [] → next ≡ sheet → Leads text sheet line next
  Said : (all : List Token) → HasText sheet line all → Says text sheet all next → Leads text sheet line next

-- ---- lines that can't be read

-- What is wrong with a line: the column of a byte at which no token begins, or the text of an unfit token, `end` where
-- tokens end too early.
pub data Fault : Type 0 where
  BadByte : ℕ → Fault
  BadWord : List ℕ → Fault

abbrev pub text_or_end : Option Tok → List ℕ
text_or_end None = codes "end"
text_or_end (Some t) = t.text

abbrev pub word_at : List ℕ → List Token → ℕ → Fault
word_at text tokens k = BadWord (text_or_end (slice_get (tokens_of text tokens) k))

-- The token at place k, counted from 0, is the first unfit one behind the sheet; tokens of an unclosed `switch` alone
-- don't end too early.
abbrev pub CantStand : List ℕ → Sheet → List Token → ℕ → Type 0
CantStand text (Outside tree) tokens k = IsUnfit top_line.means (tokens_of text tokens) k
CantStand text (Inside tree f entry pending) tokens k = IsUnfit body_line.means (tokens_of text tokens) k × (k ≡ length tokens → is_unclosed (tokens_of text tokens) ≡ false)

-- The line can't be read behind the sheet. A bad byte comes before an unfit token.
pub data Stops (text : List ℕ) (sheet : Sheet) (line : Line) (fault : Fault) : Type 0 where
  AtByte : (column : ℕ) → (IsDropped (place_behind sheet) line.bytes → ⊥) → HasBadColumn line.bytes column → fault ≡ BadByte column → Stops text sheet line fault
  AtWord : (all : List Token) (k : ℕ) → HasText sheet line all → CantStand text sheet all k → fault ≡ word_at text all k → Stops text sheet line fault

-- ---- all lines

-- The lines are read one after another, from one sheet to the other.
abbrev pub Run : List ℕ → Sheet → List Line → Sheet → Type 0
Run text sheet [] next = next ≡ sheet
Run text sheet (line ∷ lines) next = (middle : Sheet) × Leads text sheet line middle × Run text middle lines next

-- a function is open
abbrev pub is_inside : Sheet → Bool
is_inside (Outside tree) = false
is_inside (Inside tree f entry pending) = true

-- Line n is the first that can't be read, for this fault, where the lines are numbered from the first number on. Where
-- they end inside a function, that is the line behind the last one.
abbrev pub Trips : List ℕ → ℕ → Sheet → List Line → ℕ → Fault → Type 0
Trips text number sheet [] n fault = (is_inside sheet ≡ true) × (n ≡ number) × (fault ≡ BadWord (codes "end"))
Trips text number sheet (line ∷ lines) n fault =
    ((n ≡ number) × Stops text sheet line fault) ⊎ ((middle : Sheet) × Leads text sheet line middle × Trips text (number + 1) middle lines n fault)

abbrev pub lines_placed : List ℕ → List Line
lines_placed text = placed 0 (lines_of text)

-- ---- whole texts

-- how many numerals the functions of a tree may need
abbrev pub numerals_for : List FuncParts → ℕ
numerals_for = fold (λ n f. max n (length f.params + 1)) 0

-- the text stands for the module's tree, whose names are told by places
abbrev pub HasTree : List ℕ → ModuleParts → Type 0
HasTree text tree = Run text (Outside empty_module) (lines_placed text) (Outside tree)

-- The text stands for the module.
pub record Text (text : List ℕ) (m : ModuleParts) : Type 0 where
  pub tree : ModuleParts
  pub read : HasTree text tree
  pub is : m ≡ numbered_module (with_numerals (numerals_for tree.funcs) text) tree

-- some text stands for the module
pub record IsOfText (m : ModuleParts) : Type 0 where
  pub text : List ℕ
  pub stands : Text text m

-- Line n, counted from 1, is the first that fits no form at its place.
abbrev pub Unfit : List ℕ → ℕ → Fault → Type 0
Unfit text n fault = Trips text 1 (Outside empty_module) (lines_placed text) n fault
