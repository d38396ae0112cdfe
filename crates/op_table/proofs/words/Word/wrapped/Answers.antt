use Rattle.std.proofs.Common.{ℕ, ap, ◌∙◌, bit_and}
use Rattle.std.proofs.lemmas.Nat.{and_mask}
use Rattle.op_table.proofs.words.Word.wrapped.Goals as goal

pub returns : goal.returns
returns g c = ap (λ (m : ℕ). bit_and c.args.n m) c.greatest.ensures ∙ and_mask c.args.n g.row.W
