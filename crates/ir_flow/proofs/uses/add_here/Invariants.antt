use Rattle.std.proofs.Common.{◌≡◌, ◌++◌, drop}
use Rattle.ir_flow.specs.Uses.{uses_here}
use Rattle.ir_flow.proofs.uses.add_here.Given as goal

abbrev pub invariant-loop-reg : goal.invariant-loop-reg
invariant-loop-reg l = l.uses.items ++ uses_here l.block l.inst (drop l.reg-index l.regs) ≡ l.fn.uses.items ++ uses_here l.block l.inst l.regs
