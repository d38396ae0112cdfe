-- What the tokens of a line stand for, and where they stop to fit.
--
-- Choices: how many brackets stand open is a matter of the tokens alone, whatever the brackets hold. The forms of lines
-- have no limit of their own on brackets, so tokens are judged without it, and the limit by itself: the token that opens
-- one bracket more than may be open is the unfit one, and none before it for its sake.
use Rattle.std.specs.Prelude.{ℕ, suc, ◌≡◌, ◌-◌, nat_lt, Bool, true, List, [], ◌∷◌, ◌++◌, length, codes, Option, Some, None, option_and_then, is_some, if◌then◌else◌}
use Rattle.ir_core.specs.declared.text.TokKind.TheVariants.{Punct}
use Rattle.ir_core.specs.declared.instruction.Inst.{Inst}
use Rattle.ir_grammar.specs.declared.heads.Bracket.{Bracket}
use Rattle.ir_grammar.specs.declared.heads.Bracket.TheVariants.{Opens, Closes}
use Rattle.ir_grammar.specs.Parts.{Tok, Begins}
use Rattle.ir_grammar.specs.Words.{entry}
use Rattle.ir_grammar.specs.Lines.{instruction}

-- ---- how many brackets stand open

-- what a token does to brackets
abbrev pub bracket_of : Tok → Option Bracket
bracket_of t = elim t.kind as (λ _. Option Bracket) [ Punct ↦ entry ((codes "(", Opens) ∷ (codes "[", Opens) ∷ (codes "{", Opens) ∷ (codes ")", Closes) ∷ (codes "]", Closes) ∷ (codes "}", Closes) ∷ []) t.text | _ ↦ None ]

-- how many brackets may stand open at once
abbrev pub most_open : ℕ
most_open = 64

-- how many stand open behind a token where n do before it, if no more than may
abbrev pub open_behind : Option Bracket → ℕ → Option ℕ
open_behind None n = Some n
open_behind (Some Opens) n = if nat_lt n most_open then Some (suc n) else None
open_behind (Some Closes) n = Some (n - 1)

-- how many stand open behind tokens where n do before them, if there are never more than may
unfoldable pub open_after : ℕ → List Tok → Option ℕ
open_after n [] = Some n
open_after n (t ∷ ts) = option_and_then (λ m. open_after m ts) (open_behind (bracket_of t) n)

-- at no token do more brackets stand open than may
abbrev pub IsShallow : List Tok → Type 0
IsShallow tokens = is_some (open_after 0 tokens) ≡ true

-- the tokens before the first that opens one more bracket than may be, where n stand open before them
unfoldable pub shallow_front : ℕ → List Tok → List Tok
shallow_front n [] = []
shallow_front n (t ∷ ts) = elim (open_behind (bracket_of t) n) as (λ _. List Tok) [ Some m ↦ t ∷ shallow_front m ts | None ↦ [] ]

-- ---- what lines stand for, by what their forms mean

-- the tokens stand for the value
pub record IsLine {A : Type 0} (means : List Tok → A → Type 0) (tokens : List Tok) (v : A) : Type 0 where
  pub shallow : IsShallow tokens
  pub is : means tokens v

-- a line may begin by the tokens
pub record Fits {A : Type 0} (means : List Tok → A → Type 0) (tokens : List Tok) : Type 0 where
  pub shallow : IsShallow tokens
  pub begins : Begins means tokens

-- The tokens stand for nothing, and the one at place k, counted from 0, is the first that can't stand there: a line may
-- begin by those before it, and with it no longer. Where the tokens end too early, k is their number.
pub record IsUnfit {A : Type 0} (means : List Tok → A → Type 0) (tokens : List Tok) (k : ℕ) : Type 0 where
  pub front : List Tok
  pub stop : List Tok
  pub whole : tokens ≡ front ++ stop
  pub place : k ≡ length front
  pub fits : Fits means front
  pub unfit : (token : Tok) (rest : List Tok) → stop ≡ token ∷ rest → Fits means (front ++ token ∷ []) → ⊥
  pub nothing : (v : A) → IsLine means tokens v → ⊥

-- tokens stand for a value, or have an unfit place
pub data Verdict {A : Type 0} (means : List Tok → A → Type 0) (tokens : List Tok) : Type 0 where
  Stands : (v : A) → IsLine means tokens v → Verdict means tokens
  Unfit : (k : ℕ) → IsUnfit means tokens k → Verdict means tokens

-- tokens stand for one value or have one unfit place, and never both
pub record IsDecided {A : Type 0} (means : List Tok → A → Type 0) : Type 0 where
  pub one_value : (tokens : List Tok) (a b : A) → IsLine means tokens a → IsLine means tokens b → a ≡ b
  pub one_place : (tokens : List Tok) (j k : ℕ) → IsUnfit means tokens j → IsUnfit means tokens k → j ≡ k
  pub verdict : (tokens : List Tok) → Verdict means tokens
  pub never_both : (tokens : List Tok) (a : A) (k : ℕ) → IsLine means tokens a → IsUnfit means tokens k → ⊥

-- the tokens of a line stand for the instruction
abbrev pub IsInstruction : List Tok → Inst → Type 0
IsInstruction = IsLine instruction.means
