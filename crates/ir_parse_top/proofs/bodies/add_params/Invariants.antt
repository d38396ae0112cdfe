use Rattle.std.proofs.Common.{◌≡◌, ◌+◌, ◌≤◌, ◌++◌, length}
use Rattle.ir_parse_top.specs.Sheet.{named_params, counted_params}
use Rattle.ir_parse_top.proofs.bodies.add_params.Given as goal

abbrev pub invariant-params : goal.invariant-params
invariant-params l =
    (record l.f { params = l.f.params ++ named_params l.text l.n l.left } ≡ record l.fn.f { params = l.fn.f.params ++ named_params l.text 0 l.fn.params })
    × (l.n + length l.left ≤ length l.fn.params)
    × (counted_params l.text l.n l.left ≡ counted_params l.text 0 l.fn.params)

abbrev pub decreases-params : goal.decreases-params
decreases-params l = length l.left
