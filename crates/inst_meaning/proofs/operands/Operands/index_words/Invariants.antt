-- the words so far, and those of the rest
use Rattle.std.proofs.Common.{◌≡◌, ◌++◌, drop}
use Rattle.std.specs.Option.{option_map}
use Rattle.inst_meaning.specs.Operands.{index_words}
use Rattle.inst_meaning.proofs.operands.Operands.index_words.Given as goal

abbrev pub invariant-loop-w : goal.invariant-loop-w
invariant-loop-w l =
    option_map (λ rest. l.words.items ++ rest) (index_words l.self.layout.now l.self.registers.now (drop l.w-index l.indices))
    ≡ index_words l.self.layout.now l.self.registers.now l.indices
