use Rattle.std.proofs.Common.{◌≡◌, ◌≤◌, ◌<◌, ℕ, ◌+◌, ◌-◌, length, drop, get_or, subst, arith}
use Rattle.std.specs.Prelude.{nat_eq, slice_get}
use Rattle.std.specs.Option.{option_and_then}
use Rattle.std.specs.HashMap.{get}
use Rattle.std.proofs.lemmas.List.{get_or_default}
use Rattle.ir_core.specs.declared.types.Loc.{Loc}
use Rattle.ir_types.specs.Firsts.{entry_of}
use Rattle.ir_types.proofs.FirstPlaces.{placed-before}
use Rattle.hard_ir.proofs.widths.places_of.Goals as goal

pub entries-preserved : goal.entries-preserved
entries-preserved c =
    let left : ℕ = c.entries.left in
    let some : 0 < left = c.entries-test.true in
    let within : left ≤ length c.args.entries.now = c.entries.invariant.inside in
    let again : left ≡ (left - 1) + 1 = omega arith in
    let none : Loc × ℕ = (record { 0 = 0 }, 0) in
    let entry : Loc × ℕ = get_or c.args.entries.now (left - 1) none in
    let behind : (n : ℕ) → option_and_then (slice_get c.args.entries.now) (get nat_eq c.entries.places n) ≡ entry_of (drop ((left - 1) + 1) c.args.entries.now) n = subst (λ (k : ℕ). (n : ℕ) → option_and_then (slice_get c.args.entries.now) (get nat_eq c.entries.places n) ≡ entry_of (drop k c.args.entries.now) n) again c.entries.invariant.placed in
    record {
      inside = omega arith;
      placed = placed-before c.args.entries.now (left - 1) entry (get nat_eq c.entries.places) (get nat_eq c.insert.new.self) (omega arith) (get_or_default c.args.entries.now (left - 1) none entry (omega arith)) (c.in_ok-insert.ensures.updates.1) (c.in_ok-insert.ensures.updates.2) behind;
    }
