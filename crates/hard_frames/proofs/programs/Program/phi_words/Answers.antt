-- one of them takes none
use Rattle.std.proofs.Common.{rules}
use Rattle.ir_layout.specs.Memory.{layout_of}
use Rattle.hard_frames.proofs.Phis.{phi_missing}
use Rattle.hard_frames.proofs.programs.Program.phi_words.Goals as goal

pub returns-then-not-branch-clause-all : goal.returns-then-not-branch-clause-all
returns-then-not-branch-clause-all c =
    phi_missing (layout_of c.args.self.now.heads) c.args.registers.now c.args.from c.args.side c.args.block.now.phis c.loop-of.of-index c.loop-of-item.result.0 c.loop-of-item.result.1 _ _ (rw c.items-of-items.ensures at c.loop-of-test.true) (rw c.items-of-items.ensures at c.loop-of-item.is) (search rules) (search rules) c.loop-of.invariant
