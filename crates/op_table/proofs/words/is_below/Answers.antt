use Rattle.std.proofs.Common.{rules}
use Rattle.op_table.proofs.Powers.{below_wide}
use Rattle.op_table.proofs.words.is_below.Goals as goal

-- all words of 64 bits are below 2^count
pub returns-then-count-ge64 : goal.returns-then-count-ge64
returns-then-count-ge64 c = (λ _. below_wide c.args.n c.args.count c.ranges.n.fits c.if-count-ge64.true, λ _. search rules)
