-- The bytes that the text between the quotes of `c"..."` stands for (LLVM Language Reference, Simple Constants).
use Rattle.std.specs.Prelude.{ℕ, ◌+◌, ◌-◌, ◌*◌, ◌==◌, ◌&&◌, ◌||◌, nat_le, if◌then◌else◌, Bool, List, [], ◌∷◌, length, take, drop}
use Rattle.ir_core.specs.Tokens.{is_digit}

-- '0' to '9', 'a' to 'f' or 'A' to 'F'
abbrev pub is_hex : ℕ → Bool
is_hex b = is_digit b || (nat_le 97 b && nat_le b 102) || (nat_le 65 b && nat_le b 70)

-- the number that a hexadecimal digit writes
abbrev pub hex_value : ℕ → ℕ
hex_value b = if is_digit b then b - 48 else if nat_le 97 b then b - 87 else b - 55

-- From left to right, `\` and two hexadecimal digits is one byte, `\\` is a backslash, and any other byte is itself.
unfoldable pub string_bytes : List ℕ → List ℕ
string_bytes [] = []
string_bytes (a ∷ []) = a ∷ []
string_bytes (a ∷ b ∷ []) = if a == 92 && b == 92 then 92 ∷ [] else a ∷ string_bytes (b ∷ [])
string_bytes (a ∷ b ∷ c ∷ text) =
    if a == 92 && is_hex b && is_hex c then (16 * hex_value b + hex_value c) ∷ string_bytes text
    else if a == 92 && b == 92 then 92 ∷ string_bytes (c ∷ text)
    else a ∷ string_bytes (b ∷ c ∷ text)

-- the text between the quotes of a token `c"..."`
abbrev pub between_quotes : List ℕ → List ℕ
between_quotes token = take (length token - 3) (drop 2 token)
