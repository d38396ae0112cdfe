-- the words so far, and those of the rest
use Rattle.std.proofs.Common.{◌≡◌, ◌++◌, drop}
use Rattle.std.specs.Option.{option_map}
use Rattle.inst_meaning.specs.Operands.{argument_words}
use Rattle.inst_meaning.proofs.operands.Operands.argument_words.Given as goal

abbrev pub invariant-loop-ty : goal.invariant-loop-ty
invariant-loop-ty l =
    option_map (λ rest. l.words.items ++ rest) (argument_words l.self.layout.now l.self.registers.now (drop l.ty-index l.arguments))
    ≡ argument_words l.self.layout.now l.self.registers.now l.arguments
