-- the words so far, and those of the rest
use Rattle.std.proofs.Common.{◌≡◌, ◌++◌, drop}
use Rattle.std.specs.Option.{option_map}
use Rattle.inst_meaning.specs.Phis.{phi_words}
use Rattle.inst_meaning.proofs.operands.Operands.phi_words.Given as goal

abbrev pub invariant-loop-phi : goal.invariant-loop-phi
invariant-loop-phi l =
    option_map (λ rest. l.words.items ++ rest) (phi_words l.self.layout.now l.self.registers.now l.label (drop l.phi-index l.phis))
    ≡ phi_words l.self.layout.now l.self.registers.now l.label l.phis
