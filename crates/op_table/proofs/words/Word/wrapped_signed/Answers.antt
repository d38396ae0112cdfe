use Rattle.std.proofs.Common.{ℕ, ap, ◌∙◌, ◌%◌, ◌^◌, ℤ}
use Rattle.std.proofs.lemmas.Int.{to_z-of_z}
use Rattle.std.specs.Int.{cast_unsigned, w64}
use Rattle.op_table.proofs.Powers.{signed_mod}
use Rattle.op_table.proofs.words.Word.wrapped_signed.Goals as goal

pub returns : goal.returns
returns g c =
    c.wrapped.ensures
    ∙ ap (λ (n : ℕ). n % 2 ^ g.row.W) c.cast_unsigned.ensures
    ∙ ap (λ (z : ℤ). cast_unsigned w64 z % 2 ^ g.row.W) (to_z-of_z w64 c.args.z c.ranges.z)
    ∙ signed_mod c.args.z g.row.W c.ranges.z c.requires.1
