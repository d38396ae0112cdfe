use Rattle.std.proofs.Common.{◌≡◌, ◌≤◌, drop, length}
use Rattle.std.specs.Prelude.{ℕ, slice_get, nat_eq}
use Rattle.std.specs.Option.{option_and_then}
use Rattle.std.specs.HashMap.{get}
use Rattle.ir_types.specs.Firsts.{entry_of}
use Rattle.hard_ir.proofs.widths.places_of.Given as goal

abbrev pub invariant-entries : goal.invariant-entries
invariant-entries l = record {
  inside : l.left ≤ length l.entries;
  placed : (n : ℕ) → option_and_then (slice_get l.entries) (get nat_eq l.places n) ≡ entry_of (drop l.left l.entries) n;
}

abbrev pub decreases-entries : goal.decreases-entries
decreases-entries l = l.left
