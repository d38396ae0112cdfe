use Rattle.std.proofs.Common.{◌^◌}
use Rattle.std.proofs.lemmas.Nat.{pow_pos}
use Rattle.op_table.proofs.Shifts.{at_most_quotient}
use Rattle.op_table.proofs.words.Word.shifted_is_word.Goals as goal

pub returns : goal.returns
returns g c =
    let least_one = at_most_quotient c.args.self.now (2 ^ g.row.W) (2 ^ c.args.by.now) (pow_pos c.args.by.now) (pow_pos g.row.W) in
    cc (least_one, c.get.ensures.same, c.get-2.ensures.same, c.greatest.ensures)
