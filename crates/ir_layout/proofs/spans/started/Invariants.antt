use Rattle.std.proofs.Common.{◌-◌, ◌≡◌, ◌<◌, ◌≤◌, ℕ, length}
use Rattle.std.specs.Prelude.{Some, slice_get}
use Rattle.ir_layout.specs.declared.spans.Span.{Span}
use Rattle.ir_layout.proofs.spans.started.Given as goal

abbrev pub invariant-loop-low : goal.invariant-loop-low
invariant-loop-low l = record {
  order : l.low ≤ l.high;
  within : l.high ≤ length l.globals;
  before : (k : ℕ) (span : Span) → k < l.low → slice_get l.globals k ≡ Some span → span.start ≤ l.address;
  behind : (k : ℕ) (span : Span) → l.high ≤ k → slice_get l.globals k ≡ Some span → l.address < span.start;
}

abbrev pub decreases-loop-low : goal.decreases-loop-low
decreases-loop-low l = l.high - l.low
