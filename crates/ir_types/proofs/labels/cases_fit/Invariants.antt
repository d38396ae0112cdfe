use Rattle.std.proofs.Common.{◌≡◌, List, map, drop}
use Rattle.std.specs.List.{list_all}
use Rattle.ir_core.specs.declared.types.Loc.{Loc}
use Rattle.std.proofs.Common.{ℕ}
use Rattle.ir_types.specs.Types.{names_label}
use Rattle.ir_types.proofs.labels.cases_fit.Given as goal

abbrev pub invariant-loop-label : goal.invariant-loop-label
invariant-loop-label l = let labels : List (ℕ × Loc) → List Loc = map (λ target. target.1) in list_all (names_label l.names) (labels (drop l.label-index l.cases)) ≡ list_all (names_label l.names) (labels l.cases)
