use Rattle.std.proofs.Common.{◌≡◌, ◌≤◌, ◌++◌, drop}
use Rattle.ir_core.specs.declared.types.Sym.{Sym}
use Rattle.std.specs.Prelude.{nat_eq}
use Rattle.std.specs.HashMap.{get}
use Rattle.ir_layout.specs.Memory.{address_of, spans_from, globals_start}
use Rattle.ir_layout.specs.Limits.{first_of_globals, globals_end}
use Rattle.ir_layout.proofs.placing.place_globals.Given as goal

abbrev pub invariant-loop-global : goal.invariant-loop-global
invariant-loop-global l = record {
  low : globals_start ≤ l.taken;
  high : l.taken ≤ globals_end;
  first : first_of_globals l.m l.taken (drop l.global-index l.global-items) ≡ first_of_globals l.m globals_start l.m.globals;
  placed : l.globals.items ++ spans_from l.m.types l.taken (drop l.global-index l.global-items) ≡ spans_from l.m.types globals_start l.m.globals;
  addresses : (sym : Sym) → get nat_eq l.addresses sym.0 ≡ address_of l.globals.items sym;
}
