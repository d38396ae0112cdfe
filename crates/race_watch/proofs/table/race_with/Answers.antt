use Rattle.std.proofs.Common.{arith, rules}
use Rattle.race_watch.proofs.Comparisons.{with-earlier, with-later, with-none}
use Rattle.race_watch.proofs.table.race_with.Goals as goal

pub returns-then-clash : goal.returns-then-clash
returns-then-clash c = λ apart. with-earlier c.args.accesses.now c.args.t apart c.earlier.u c.earlier-test.true (omega arith) c.earlier.invariant (search rules)

pub returns-then-clash-2 : goal.returns-then-clash-2
returns-then-clash-2 c = λ apart. with-later c.args.accesses.now c.args.t apart c.later.u (omega arith) (omega arith) (λ a i. c.earlier.invariant a (omega arith)) c.later.invariant (search rules)

pub returns : goal.returns
returns c = λ apart. with-none c.args.accesses.now c.args.t apart (λ a i. c.earlier.invariant a (omega arith)) (λ b i j. c.later.invariant b i (omega arith))
