use Rattle.std.proofs.Common.{◌≡◌, drop}
use Rattle.ir_layout.specs.WrittenTypes.{is_defined}
use Rattle.ir_layout.proofs.written_types.is_defined.Given as goal

abbrev pub invariant-loop-other : goal.invariant-loop-other
invariant-loop-other l = is_defined (drop l.other-index l.types) l.id.0 ≡ is_defined l.types l.id.0
