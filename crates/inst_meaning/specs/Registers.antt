-- Register files. A register that was never assigned has no word, wherever its number lies.
use Rattle.std.specs.Prelude.{ℕ, zero, suc, List, [], ◌∷◌, Option, Some, None}
use Rattle.std.specs.List.{slice_index_or}

-- the word of a register
abbrev pub get : List (Option ℕ) → ℕ → Option ℕ
get registers at = slice_index_or registers at None

-- the file once a register is assigned
abbrev pub put : List (Option ℕ) → ℕ → ℕ → List (Option ℕ)
put [] zero word = Some word ∷ []
put [] (suc at) word = None ∷ put [] at word
put (old ∷ registers) zero word = Some word ∷ registers
put (old ∷ registers) (suc at) word = old ∷ put registers at word
