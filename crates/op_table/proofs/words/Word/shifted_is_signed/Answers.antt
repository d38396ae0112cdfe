use Rattle.std.proofs.Common.{◌≡◌, ◌-◌, ◌/◌, ◌^◌, refl, sym, ◌∙◌, rules}
use Rattle.std.proofs.lemmas.Nat.{pow_pos}
use Rattle.std.proofs.lemmas.Int.{to_z-of_z}
use Rattle.std.specs.Prelude.{FitsSigned}
use Rattle.std.specs.Int.{w64, cast_signed, cast_unsigned}
use Rattle.op_table.specs.Operators.{sv}
use Rattle.op_table.proofs.Shifts.{half_shifted, half_shifted_some, within_product}
use Rattle.op_table.proofs.words.Word.shifted_is_signed.Goals as goal

pub lies_within-requires-clause-positive : goal.lies_within-requires-clause-positive
lies_within-requires-clause-positive g c =
    rw (c.half.ensures, c.get.ensures.same) (half_shifted_some g.row.W c.args.by.now c.requires.shift)

pub returns : goal.returns
returns g c =
    let fits : FitsSigned w64 c.signed.result = search rules in
    let value : cast_signed w64 (cast_unsigned w64 c.signed.result) ≡ sv g.row.W c.args.self.now = to_z-of_z w64 c.signed.result fits ∙ c.signed.ensures.value in
    let some = half_shifted_some g.row.W c.args.by.now c.requires.shift in
    let half = half_shifted g.row.W c.args.by.now c.requires.shift in
    c.lies_within.ensures
    ∙ rw (value, c.half.ensures, c.get.ensures.same) refl
    ∙ sym (within_product (2 ^ (g.row.W - 1) / 2 ^ c.args.by.now) (2 ^ c.args.by.now) (2 ^ (g.row.W - 1)) (sv g.row.W c.args.self.now) some (pow_pos c.args.by.now) half)
