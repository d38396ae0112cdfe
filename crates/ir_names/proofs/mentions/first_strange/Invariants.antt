use Rattle.std.proofs.Common.{◌≡◌, map, drop}
use Rattle.ir_names.specs.Sets.{has_name}
use Rattle.ir_names.specs.Names.{name_at, first_strange}
use Rattle.ir_names.proofs.mentions.first_strange.Given as goal

abbrev pub invariant-loop-place : goal.invariant-loop-place
invariant-loop-place l = first_strange (has_name l.known) (map (name_at l.n) (drop l.place-index l.places)) ≡ first_strange (has_name l.known) (map (name_at l.n) l.places)
