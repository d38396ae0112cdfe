use Rattle.std.proofs.Common.{◌≡◌, ◌++◌, map, drop}
use Rattle.ir_lines.specs.Lines.{GlobalLine}
use Rattle.ir_names.specs.Names.{definitions_of}
use Rattle.ir_names.proofs.collected.add_globals.Given as goal

abbrev pub invariant-loop-global : goal.invariant-loop-global
invariant-loop-global l = l.list ++ definitions_of (map GlobalLine (drop l.global-index l.globals)) ≡ l.fn.list ++ definitions_of (map GlobalLine l.globals)
