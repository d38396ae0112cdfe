use Rattle.std.proofs.Common.{◌≡◌}
use Rattle.ir_layout.proofs.named_types.NamedTypes.new.Given as goal

abbrev pub invariant-loop-round : goal.invariant-loop-round
invariant-loop-round l = (l.named.types ≡ l.types) × (l.named.rounds ≡ l._round)
