use Rattle.std.proofs.Common.{◌≡◌, ◌≤◌, ◌<◌, ℕ, ◌+◌, ◌-◌, length, drop, subst, arith}
use Rattle.std.specs.Prelude.{None, slice_get, slice_index_or}
use Rattle.std.specs.Option.{option_and_then}
use Rattle.ir_types.specs.Firsts.{entry_of}
use Rattle.ir_types.proofs.FirstPlaces.{placed-before}
use Rattle.ir_types.proofs.firsts.places_of.Goals as goal

pub entries-preserved : goal.entries-preserved
entries-preserved g c =
    let left : ℕ = c.entries.left in
    let some : 0 < left = c.entries-test.true in
    let within : left ≤ length c.args.entries.now = c.entries.invariant.inside in
    let again : left ≡ (left - 1) + 1 = omega arith in
    let behind : (n : ℕ) → option_and_then (slice_get c.args.entries.now) (slice_index_or c.entries.places.items n None) ≡ entry_of (drop ((left - 1) + 1) c.args.entries.now) n = subst (λ (k : ℕ). (n : ℕ) → option_and_then (slice_get c.args.entries.now) (slice_index_or c.entries.places.items n None) ≡ entry_of (drop k c.args.entries.now) n) again c.entries.invariant.placed in
    record {
      inside = omega arith;
      placed = placed-before c.args.entries.now (left - 1) c.index-entries-left.result (λ (n : ℕ). slice_index_or c.entries.places.items n None) (λ (n : ℕ). slice_index_or c.put_place.new.places.items n None) (omega arith) c.index-entries-left.is c.in_ok-put_place.ensures.own c.in_ok-put_place.ensures.others behind;
    }
