use Rattle.std.proofs.Common.{◌≡◌, map, drop}
use Rattle.ir_lines.specs.Lines.{first_told, DeclareLine}
use Rattle.ir_check.specs.CodeLimits.{limit_in}
use Rattle.ir_check.proofs.code_limits.first_of_declares.Given as goal

abbrev pub invariant-loop-declare : goal.invariant-loop-declare
invariant-loop-declare l = first_told (limit_in l.layout.types) (map DeclareLine (drop l.declare-index l.declares)) ≡ first_told (limit_in l.layout.types) (map DeclareLine l.declares)
