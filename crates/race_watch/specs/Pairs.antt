-- Pairs of threads as pairs of numbers.
use Rattle.std.specs.Prelude.{ℕ}
use Rattle.ir_core.specs.declared.types.Tid.{Tid}

abbrev pub numbers_of : Tid × Tid → ℕ × ℕ
numbers_of pair = (pair.0.0, pair.1.0)
