use Rattle.std.proofs.Common.{◌≡◌, ℕ, take, true}
use Rattle.std.specs.Prelude.{nat_eq, IsSome}
use Rattle.std.specs.List.{list_any}
use Rattle.std.specs.HashMap.{get}
use Rattle.ir_flow.proofs.phis.all_named.Given as goal

abbrev pub invariant-loop-from : goal.invariant-loop-from
invariant-loop-from l = (from : ℕ) → list_any (nat_eq from) (take l.from-index l.preds) ≡ true → IsSome (get nat_eq l.places from)
