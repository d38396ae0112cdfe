use Rattle.std.proofs.Common.{◌≡◌, ◌++◌, drop}
use Rattle.std.specs.List.{filter_map}
use Rattle.ir_flow.specs.Labels.{found_edge}
use Rattle.ir_flow.proofs.control.add_edges.Given as goal

abbrev pub invariant-loop-label : goal.invariant-loop-label
invariant-loop-label l = l.pairs.items ++ filter_map (found_edge l.numbers l.from) (drop l.label-index l.labels) ≡ l.fn.pairs.items ++ filter_map (found_edge l.numbers l.from) l.labels
