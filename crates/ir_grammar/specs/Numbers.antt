-- Numbers as a line writes them (LLVM Language Reference, 'Simple Constants').
use Rattle.std.specs.Prelude.{ℕ, ◌+◌, ◌-◌, ◌*◌, ◌%◌, ◌^◌, ◌==◌, nat_lt, nat_le, List, [], ◌∷◌, Option, Some, None, fold, if◌then◌else◌}
use Rattle.ir_core.specs.declared.text.TokKind.TheVariants.{Num}
use Rattle.ir_core.specs.declared.types.Width.{Width}
use Rattle.ir_core.specs.declared.types.Width.TheVariants.{W1, W8, W16, W32, W64}
use Rattle.ir_grammar.specs.Parts.{Tok, Part, one}

-- how many bits a word of the width has
abbrev pub bits : Width → ℕ
bits W1 = 1
bits W8 = 8
bits W16 = 16
bits W32 = 32
bits W64 = 64

-- the number that decimal digits write, the most significant first
unfoldable pub decimal : List ℕ → ℕ
decimal digits = fold (λ n digit. 10 * n + (digit - 48)) 0 digits

-- a word of w bits by the absolute value of a number, from -2^(w-1) to 2^w - 1, modulo 2^w
abbrev pub negative : ℕ → ℕ → Option ℕ
negative w n = if nat_le n (2 ^ (w - 1)) then Some ((2 ^ w - n) % 2 ^ w) else None

abbrev pub positive : ℕ → ℕ → Option ℕ
positive w n = if nat_lt n (2 ^ w) then Some n else None

-- the word of w bits that a number's text writes, where it is in range
abbrev pub word_written : ℕ → List ℕ → Option ℕ
word_written w [] = None
word_written w (b ∷ text) = if b == 45 then negative w (decimal text) else positive w (decimal (b ∷ text))

-- a count: digits without a sign that write a number below the limit
abbrev pub count_written : ℕ → List ℕ → Option ℕ
count_written limit [] = None
count_written limit (b ∷ text) = if b == 45 then None else if nat_lt (decimal (b ∷ text)) limit then Some (decimal (b ∷ text)) else None

abbrev pub count_of : ℕ → Tok → Option ℕ
count_of limit t = elim t.kind as (λ _. Option ℕ) [ Num ↦ count_written limit t.text | _ ↦ None ]

abbrev pub count : ℕ → Part ℕ
count limit = one (count_of limit)
