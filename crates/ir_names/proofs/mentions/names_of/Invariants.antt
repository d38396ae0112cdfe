use Rattle.std.proofs.Common.{take}
use Rattle.ir_names.specs.Sets.{HasNamesOf}
use Rattle.ir_names.proofs.mentions.names_of.Given as goal

abbrev pub invariant-loop-name : goal.invariant-loop-name
invariant-loop-name l = HasNamesOf (take l.name-index l.definitions) l.set
