-- A schedule without some of its upsets keeps what holds of its entries, and has no more events.
use Rattle.std.proofs.Common.{ℕ, ◌≤◌, Bool, true, false, List, [], ◌∷◌, length, length-append, arith}
use Rattle.std.specs.List.{AllByRecursion}
use Rattle.sched_file.specs.declared.entries.Line.{Line}
use Rattle.sched_file.specs.Events.{events_in, events_of, HasThread}
use Rattle.sched_file.specs.Only.{is_upset, stays, one_less_if, kept_if, only}

pub all-only : (k : ℕ) (lines : List Line) → AllByRecursion HasThread lines → AllByRecursion HasThread (only k lines)
all-only k [] all = all
all-only k (line ∷ lines) all = by_test (stays k line) (all-only (one_less_if (is_upset line) k) lines all.1)
  where
    by_test : (b : Bool) → AllByRecursion HasThread (only (one_less_if (is_upset line) k) lines) → AllByRecursion HasThread (kept_if b line (only (one_less_if (is_upset line) k) lines))
    by_test true rest = (all.0, rest)
    by_test false rest = rest

pub few-only : (k : ℕ) (lines : List Line) → length (events_of (only k lines)) ≤ length (events_of lines)
unfolding events_of
few-only k [] = omega arith
few-only k (line ∷ lines) = by_test (stays k line) (few-only (one_less_if (is_upset line) k) lines)
  where
    by_test : (b : Bool) → length (events_of (only (one_less_if (is_upset line) k) lines)) ≤ length (events_of lines)
        → length (events_of (kept_if b line (only (one_less_if (is_upset line) k) lines))) ≤ length (events_of (line ∷ lines))
    by_test true rest =
        let all = length-append (events_in line) (events_of lines) in
        let some = length-append (events_in line) (events_of (only (one_less_if (is_upset line) k) lines)) in
        omega (arith, all, some, rest)
    by_test false rest = let all = length-append (events_in line) (events_of lines) in omega (arith, all, rest)
