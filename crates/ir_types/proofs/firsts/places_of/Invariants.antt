use Rattle.std.proofs.Common.{◌≡◌, ◌≤◌, ℕ, drop, length}
use Rattle.std.specs.Prelude.{None, slice_get, slice_index_or}
use Rattle.std.specs.Option.{option_and_then}
use Rattle.ir_types.specs.Firsts.{entry_of}
use Rattle.ir_types.proofs.firsts.places_of.Given as goal

abbrev pub invariant-entries : goal.invariant-entries
invariant-entries g l = record {
  inside : l.left ≤ length l.entries;
  placed : (n : ℕ) → option_and_then (slice_get l.entries) (slice_index_or l.places.items n None) ≡ entry_of (drop l.left l.entries) n;
}

abbrev pub decreases-entries : goal.decreases-entries
decreases-entries g l = l.left
