-- The real files as contracts see them.
use Rattle.std.specs.Prelude.{ℕ, Option, List}

-- two files of the file system: the name of each, where it has one, and its faults
pub record NamedFiles : Type 0 where
  pub first : Option (List ℕ)
  pub second : Option (List ℕ)
  pub first_faults : ℕ
  pub second_faults : ℕ
