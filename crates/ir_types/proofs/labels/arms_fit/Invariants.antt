use Rattle.std.proofs.Common.{◌≡◌, List, map, drop}
use Rattle.std.specs.List.{list_all}
use Rattle.ir_core.specs.declared.types.Loc.{Loc}
use Rattle.ir_core.specs.declared.values.Val.{Val}
use Rattle.ir_types.specs.Types.{names_label}
use Rattle.ir_types.proofs.labels.arms_fit.Given as goal

abbrev pub invariant-loop-label : goal.invariant-loop-label
invariant-loop-label l = let labels : List (Val × Loc) → List Loc = map (λ arm. arm.1) in list_all (names_label l.names) (labels (drop l.label-index l.arms)) ≡ list_all (names_label l.names) (labels l.arms)
