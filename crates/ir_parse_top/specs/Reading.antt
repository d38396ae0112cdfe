-- How the functions of this crate go through a text.
use Rattle.std.specs.Prelude.{ℕ, ◌≡◌, ◌⊎◌, ◌+◌, ◌≤◌, ◌<◌, Bool, true, false, List, [], ◌∷◌, ◌++◌, length, drop, codes, nat_le, ⊤}
use Rattle.std.specs.List.{list_any, prefix_len, AllByRecursion}
use Rattle.ir_core.specs.declared.text.Token.{Token}
use Rattle.ir_core.specs.declared.types.Loc.{Loc}
use Rattle.ir_core.specs.Module.{ModuleParts, FuncParts}
use Rattle.ir_core.specs.Tokens.{HasTokens, HasBadColumn, AreWithin}
use Rattle.ir_core.specs.Lines.{lines_of, IsDropped}
use Rattle.ir_core.specs.declared.text.LinePlace.{LinePlace}
use Rattle.ir_grammar.specs.declared.trees.TopLine.{TopLine}
use Rattle.ir_grammar.specs.declared.trees.BodyLine.{BodyLine}
use Rattle.ir_grammar.specs.Fitting.{IsLine, IsUnfit}
use Rattle.ir_grammar.specs.Tokens.{tokens_of, is_punct, close_bracket}
use Rattle.ir_grammar.specs.Top.{body_line}
use Rattle.ir_parse_top.specs.Sheet.{Sheet, Outside, Inside, with_top, with_body}
use Rattle.ir_parse_top.specs.Text.{Line, placed, all_moved, Fault, word_at, Run, Trips}
use Rattle.ir_parse_top.specs.Text as texts
use Rattle.ir_parse_top.specs.declared.switches.Pause.{Pause}
use Rattle.ir_parse_top.specs.declared.switches.Pause.TheVariants.{Closed, AtColumn, AtEnd}
use Rattle.ir_parse_top.specs.declared.errors.ParseError.{ParseError}
use Rattle.ir_parse_top.specs.declared.errors.ParseError.TheVariants as errors

-- a text, where the first line that is left begins, and that one's number
pub record Left : Type 0 where
  pub text : List ℕ
  pub at : ℕ
  pub number : ℕ

-- the lines that are left
abbrev pub lines_left : Left → List Line
lines_left left = placed left.at (lines_of (drop left.at left.text))

-- Texts are short, and there are no more lines than bytes.
pub record IsKept (text : List ℕ) (at number : ℕ) : Type 0 where
  pub short : length text ≤ 4194304
  pub within : at ≤ length text + 1
  pub counted : number ≤ at + 1

-- the first line that was left has been taken
pub record Takes (line : Line) (number : ℕ) (old new : Left) : Type 0 where
  pub text : new.text ≡ old.text
  pub lines : lines_left old ≡ line ∷ lines_left new
  pub number_is : number ≡ old.number
  pub next : new.number ≡ old.number + 1
  pub here : line.at ≡ old.at
  pub at : new.at ≡ old.at + length line.bytes + 1
  pub within : line.at + length line.bytes ≤ length old.text

-- the tokens of the line have joined these, told by their places in the text
pub record AddsTokens (line : Line) (old new : List Token) : Type 0 where
  pub own : List Token
  pub is : HasTokens line.bytes own
  pub within : AreWithin (length line.bytes) own
  pub joined : new ≡ old ++ all_moved line.at own

-- these lines have been taken
pub record Goes (used : List Line) (old new : Left) : Type 0 where
  pub text : new.text ≡ old.text
  pub lines : lines_left old ≡ used ++ lines_left new
  pub number : new.number ≡ old.number + length used

-- the line says nothing at this place
abbrev pub IsPassed : LinePlace → Line → Type 0
IsPassed place line = IsDropped place line.bytes ⊎ ((IsDropped place line.bytes → ⊥) × HasTokens line.bytes [])

-- lines that say nothing at this place have been taken
pub record Passes (place : LinePlace) (old now : Left) : Type 0 where
  pub used : List Line
  pub passed : AllByRecursion (IsPassed place) used
  pub goes : Goes used old now

-- Behind lines that say nothing at this place one with tokens has been taken, which has this number.
pub record FindsText (place : LinePlace) (old new : Left) (number : ℕ) (tokens : List Token) : Type 0 where
  pub used : List Line
  pub line : Line
  pub passed : AllByRecursion (IsPassed place) used
  pub goes : Goes (used ++ line ∷ []) old new
  pub number_is : number ≡ old.number + length used
  pub own : List Token
  pub kept : IsDropped place line.bytes → ⊥
  pub is : HasTokens line.bytes own
  pub some : own ≡ [] → ⊥
  pub joined : tokens ≡ all_moved line.at own
  pub within : AreWithin (length old.text) tokens
  pub few : length tokens < new.at

-- No line says anything at this place, and all have been taken.
pub record FindsNothing (place : LinePlace) (old new : Left) : Type 0 where
  pub passed : AllByRecursion (IsPassed place) (lines_left old)
  pub text : new.text ≡ old.text
  pub number : new.number ≡ old.number + length (lines_left old)
  pub over : lines_left new ≡ []

-- Behind lines that say nothing at this place there is one with a bad byte, line n.
pub record FindsBad (place : LinePlace) (old : Left) (n : ℕ) (fault : Fault) : Type 0 where
  pub used : List Line
  pub line : Line
  pub rest : List Line
  pub column : ℕ
  pub passed : AllByRecursion (IsPassed place) used
  pub lines : lines_left old ≡ used ++ line ∷ rest
  pub kept : IsDropped place line.bytes → ⊥
  pub bad : HasBadColumn line.bytes column
  pub n_is : n ≡ old.number + length used
  pub fault_is : fault ≡ texts.BadByte column

-- Lines have been taken, and from any tree they lead past a line outside functions.
pub record FindsTop (old new : Left) (line : TopLine) : Type 0 where
  pub used : List Line
  pub goes : Goes used old new
  pub ahead : 0 < length used
  pub run : (tree : ModuleParts) → Run old.text (Outside tree) used (with_top old.text tree line)

-- Lines have been taken, and inside any function they lead past a line of it.
pub record FindsBody (old new : Left) (line : BodyLine) : Type 0 where
  pub used : List Line
  pub goes : Goes used old new
  pub ahead : 0 < length used
  pub run : (tree : ModuleParts) (f : FuncParts) (entry : Loc) → Run old.text (Inside tree f entry []) used (with_body tree f entry line)

-- Lines have been taken, and they lead past the end of the function.
pub record FindsEnd (old new : Left) (f : FuncParts) (entry : Loc) (whole : FuncParts) : Type 0 where
  pub used : List Line
  pub goes : Goes used old new
  pub run : (tree : ModuleParts) → Run old.text (Inside tree f entry []) used (Outside (record tree { funcs = tree.funcs ++ whole ∷ [] }))

-- Lines have been taken, and behind a line outside functions they lead to the tree.
pub record Follows (old new : Left) (before : ModuleParts) (line : TopLine) (after : ModuleParts) : Type 0 where
  pub used : List Line
  pub goes : Goes used old new
  pub run : Run old.text (with_top old.text before line) used (Outside after)

-- All lines that were left lead from one tree to the other.
abbrev pub FindsAll : Left → ModuleParts → ModuleParts → Type 0
FindsAll old before after = Run old.text (Outside before) (lines_left old) (Outside after)

-- what has been read behind a line inside a function, by whether it ended that one
abbrev pub sheet_behind : Bool → ModuleParts → FuncParts → Loc → Sheet
sheet_behind true tree f entry = Outside (record tree { funcs = tree.funcs ++ f ∷ [] })
sheet_behind false tree f entry = Inside tree f entry []

-- what an error says of a line; want of memory says nothing
abbrev pub Told : (ℕ → Fault → Type 0) → ParseError → Type 0
Told says (errors.Refused line word) = says line (texts.BadWord word)
Told says (errors.BadByte line column) = says line (texts.BadByte column)
Told says errors.NoMemory = ⊤

-- the line with this number, for this fault
abbrev pub IsAt : ℕ → Fault → ℕ → Fault → Type 0
IsAt number what n fault = (n ≡ number) × (fault ≡ what)

-- the first line that can't be read of those that are left
abbrev pub TripsFrom : Left → Sheet → ℕ → Fault → Type 0
TripsFrom left sheet n fault = Trips left.text left.number sheet (lines_left left) n fault

-- the same, whatever has been read outside functions
abbrev pub TripsOutside : Left → ℕ → Fault → Type 0
TripsOutside left n fault = (tree : ModuleParts) → TripsFrom left (Outside tree) n fault

-- the same, whatever has been read in a function
abbrev pub TripsInside : Left → ℕ → Fault → Type 0
TripsInside left n fault = (tree : ModuleParts) (f : FuncParts) (entry : Loc) → TripsFrom left (Inside tree f entry []) n fault

-- the same of a function that has been read so far, whatever stands outside
abbrev pub TripsIn : Left → FuncParts → Loc → ℕ → Fault → Type 0
TripsIn left f entry n fault = (tree : ModuleParts) → TripsFrom left (Inside tree f entry []) n fault

-- ---- a `switch` over several lines

-- tokens of a line close the brackets of a `switch`
abbrev pub closes : List ℕ → List Token → Bool
closes text tokens = list_any (is_punct close_bracket) (tokens_of text tokens)

-- Lines behind the tokens of an unclosed `switch` don't close it, and with theirs they are these tokens. The counts are how
-- many there were before each of the lines, and behind the last one.
unfoldable pub Grows : List ℕ → List Token → List Line → List Token → List ℕ → Type 0
Grows text tokens [] all counts = (all ≡ tokens) × (counts ≡ length tokens ∷ [])
Grows text tokens (line ∷ lines) all counts =
    (own : List Token) × (others : List ℕ) × HasTokens line.bytes own × (closes text (all_moved line.at own) ≡ false) × (counts ≡ length tokens ∷ others) × Grows text (tokens ++ all_moved line.at own) lines all others

-- what stands behind the lines that belong to an unclosed `switch`; kept are its tokens so far, all are those that were taken
abbrev pub Pauses : List ℕ → List Token → List Token → List Line → List Line → Pause → Type 0
Pauses text kept all lines rest Closed = (line : Line) × (own : List Token) × (lines ≡ line ∷ rest) × HasTokens line.bytes own × (closes text (all_moved line.at own) ≡ true) × (all ≡ kept ++ all_moved line.at own)
Pauses text kept all lines rest (AtColumn column) = (line : Line) × (lines ≡ line ∷ rest) × HasBadColumn line.bytes column × (all ≡ kept)
Pauses text kept all lines rest AtEnd = (lines ≡ []) × (rest ≡ []) × (all ≡ kept)

-- the tokens lie in the text, and are fewer than the bytes that have been read
pub record AreSound (left : Left) (tokens : List Token) : Type 0 where
  pub within : AreWithin (length left.text) tokens
  pub few : length tokens < left.at

-- A line has been taken that doesn't close the `switch`, and its tokens have joined these.
pub record GrowsBy (old new : Left) (before after : List Token) : Type 0 where
  pub line : Line
  pub own : List Token
  pub lines : lines_left old ≡ line ∷ lines_left new
  pub number : new.number ≡ old.number + 1
  pub ahead : old.at < new.at
  pub is : HasTokens line.bytes own
  pub unclosed : closes old.text (all_moved line.at own) ≡ false
  pub joined : after ≡ before ++ all_moved line.at own
  pub sound : AreSound new after

-- how many lines were taken at a pause
abbrev pub taken : Pause → ℕ
taken Closed = 1
taken (AtColumn column) = 1
taken AtEnd = 0

-- The lines went on to a pause.
pub record ComesTo (old new : Left) (before after : List Token) (pause : Pause) : Type 0 where
  pub pauses : Pauses old.text before after (lines_left old) (lines_left new) pause
  pub number : new.number ≡ old.number + taken pause
  pub within : AreWithin (length old.text) after

-- Lines of an unclosed `switch` have been taken, up to a pause.
pub record Gathers (old new : Left) (tokens all : List Token) (counts : List ℕ) (pause : Pause) : Type 0 where
  pub used : List Line
  pub kept : List Token
  pub behind : List Line
  pub lines : lines_left old ≡ used ++ behind
  pub grows : Grows old.text tokens used kept counts
  pub pauses : Pauses old.text kept all behind (lines_left new) pause
  pub number : new.number + 1 ≡ old.number + length counts + taken pause
  pub within : AreWithin (length old.text) all

-- what is wrong where tokens end at a pause
abbrev pub fault_at : Pause → Fault
fault_at Closed = texts.BadWord (codes "end")
fault_at (AtColumn column) = texts.BadByte column
fault_at AtEnd = texts.BadWord (codes "end")

-- how many of the counts are no greater
abbrev pub count_until : ℕ → List ℕ → ℕ
count_until k counts = prefix_len (λ n. nat_le n k) counts

-- The tokens of a `switch`, whose first line has this number, can't be read: one of them is unfit; or they fit so far and
-- pause; or they stand for a line already, and its brackets aren't closed.
pub data Blames (text : List ℕ) (number : ℕ) (tokens : List Token) (counts : List ℕ) (pause : Pause) (n : ℕ) (fault : Fault) : Type 0 where
  Early : (k : ℕ) → k < length tokens → IsUnfit body_line.means (tokens_of text tokens) k → n ≡ number + count_until k counts → fault ≡ word_at text tokens k → Blames text number tokens counts pause n fault
  Late : IsUnfit body_line.means (tokens_of text tokens) (length tokens) → n ≡ number + length counts → fault ≡ fault_at pause → Blames text number tokens counts pause n fault
  Whole : (line : BodyLine) → IsLine body_line.means (tokens_of text tokens) line → (pause ≡ Closed → ⊥) → Blames text number tokens counts pause n fault
