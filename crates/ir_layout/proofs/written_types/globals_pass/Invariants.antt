use Rattle.std.proofs.Common.{◌≡◌, drop}
use Rattle.std.specs.List.{flat_map, list_all}
use Rattle.ir_layout.specs.WrittenTypes.{types_in_global}
use Rattle.ir_layout.proofs.written_types.globals_pass.Given as goal

abbrev pub invariant-loop-global : goal.invariant-loop-global
invariant-loop-global g l = list_all (g.T.TypeTest.passes l.test) (flat_map types_in_global (drop l.global-index l.globals)) ≡ list_all (g.T.TypeTest.passes l.test) (flat_map types_in_global (l.globals))
