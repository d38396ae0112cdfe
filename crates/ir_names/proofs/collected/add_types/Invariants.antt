use Rattle.std.proofs.Common.{◌≡◌, ◌++◌, map, drop}
use Rattle.ir_lines.specs.Lines.{TypeLine}
use Rattle.ir_names.specs.Names.{definitions_of}
use Rattle.ir_names.proofs.collected.add_types.Given as goal

abbrev pub invariant-loop-id : goal.invariant-loop-id
invariant-loop-id l = l.list ++ definitions_of (map TypeLine (drop l.id-index l.types)) ≡ l.fn.list ++ definitions_of (map TypeLine l.types)
