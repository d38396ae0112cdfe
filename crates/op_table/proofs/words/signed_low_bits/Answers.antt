use Rattle.std.proofs.Common.{ℕ, ap, ◌∙◌, ◌%◌, ◌^◌, ℤ, arith}
use Rattle.std.proofs.lemmas.Int.{to_z-of_z}
use Rattle.std.specs.Int.{cast_unsigned, w64}
use Rattle.op_table.proofs.Powers.{signed_mod}
use Rattle.op_table.proofs.words.signed_low_bits.Goals as goal

pub returns : goal.returns
returns c =
    c.low_bits.ensures
    ∙ ap (λ (n : ℕ). n % 2 ^ c.args.count) c.cast_unsigned.ensures
    ∙ ap (λ (z : ℤ). cast_unsigned w64 z % 2 ^ c.args.count) (to_z-of_z w64 c.args.z c.ranges.z)
    ∙ signed_mod c.args.z c.args.count c.ranges.z (omega arith)
