use Rattle.std.proofs.Common.{◌∙◌, rules}
use Rattle.std.proofs.lemmas.Int.{to_z-of_z}
use Rattle.std.specs.Prelude.{FitsSigned}
use Rattle.std.specs.Int.{w64}
use Rattle.op_table.proofs.Quotients.{can_divide, renamed}
use Rattle.op_table.proofs.words.Word.signed_quotient.Goals as goal

pub quotient_and_remainder-requires : goal.quotient_and_remainder-requires
quotient_and_remainder-requires g c =
    let a_fits : FitsSigned w64 c.signed.result = search rules in
    let b_fits : FitsSigned w64 c.signed-2.result = search rules in
    renamed _ _ _ _
    (to_z-of_z w64 c.signed.result a_fits ∙ c.signed.ensures.value)
    (to_z-of_z w64 c.signed-2.result b_fits ∙ c.signed-2.ensures.value)
    (can_divide g.row.W c.args.self.now c.args.other.now c.requires.width c.signed.ensures.below c.signed-2.ensures.below c.requires.divides)
