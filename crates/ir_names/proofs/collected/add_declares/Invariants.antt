use Rattle.std.proofs.Common.{◌≡◌, ◌++◌, map, drop}
use Rattle.ir_lines.specs.Lines.{DeclareLine}
use Rattle.ir_names.specs.Names.{definitions_of}
use Rattle.ir_names.proofs.collected.add_declares.Given as goal

abbrev pub invariant-loop-declare : goal.invariant-loop-declare
invariant-loop-declare l = l.list ++ definitions_of (map DeclareLine (drop l.declare-index l.declares)) ≡ l.fn.list ++ definitions_of (map DeclareLine l.declares)
