-- What a reader keeps.
use Rattle.std.specs.Prelude.{ℕ, ◌≤◌, List, length}
use Rattle.std.specs.List.{AllByRecursion}
use Rattle.ir_core.specs.declared.text.Token.{Token}
use Rattle.ir_core.specs.Tokens.{IsWithin}

-- the tokens lie within the line, which isn't too long
pub record IsKept (line : List ℕ) (tokens : List Token) : Type 0 where
  pub within : AllByRecursion (IsWithin (length line)) tokens
  pub short : length line ≤ 4194304
