use Rattle.std.proofs.Common.{◌≡◌, ◌++◌, List, ℕ, map, take}
use Rattle.ir_core.specs.declared.types.Loc.{Loc}
use Rattle.ir_flow.proofs.control.add_labels.Given as goal

abbrev pub invariant-loop-label : goal.invariant-loop-label
invariant-loop-label l = let labels : List (ℕ × Loc) → List Loc = map (λ case. case.1) in l.labels.items ≡ l.initial.labels.items ++ labels (take l.label-index l.label-items)
