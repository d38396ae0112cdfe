-- Checks of registers and of memory.
--
-- Choices: a check compares words of its type's width. A check that isn't active takes its turn and reads nothing. One of memory
-- is an access like any other: it must be valid, its line must have room, and it aborts others that stand in its way before it
-- compares.
use Rattle.std.specs.Prelude.{ℕ, ◌%◌, ◌^◌, nat_eq, Bool}
use Rattle.ir_core.specs.declared.types.Ty.{Ty}
pub use Rattle.upset_model.specs.Windows.{is_active}
use Rattle.hard_ir.specs.Facts.{register_bits}
pub use Rattle.hard_frames.specs.Frames.{operand_word}

-- two words are the same word of a type
abbrev pub same_word : Ty → ℕ → ℕ → Bool
same_word ty a b = nat_eq (a % 2 ^ register_bits ty) (b % 2 ^ register_bits ty)
