-- Runs of the program of two threads, computed: of its memory the first bytes of the heap are enough.
use Rattle.std.proofs.Common.{ℕ, ◌≡◌, ◌∙◌, ◌+◌, List, [], ◌∷◌, ◌++◌, refl, sym, ap, subst, replicate}
use Rattle.std.proofs.lemmas.List.{replicate-append-replicate}
use Rattle.ir_core.specs.declared.types.Ty as ty
use Rattle.ir_layout.specs.Memory.{layout_of, area_size}
use Rattle.op_table.specs.Operators as operators
use Rattle.mem_image.specs.Bytes.{Memory}
use Rattle.mem_image.specs.Opening.{exactly, zeroes, opening as opening_memory}
use Rattle.sched_file.specs.Events.{Happening}
use Rattle.hard_ir.specs.Hardened.{harden}
use Rattle.hard_meaning.specs.Runs.{RunParts, run_from, result_of}
use Rattle.hard_meaning.specs.State.{State, opening}
use Rattle.hard_meaning.specs.Samples.{entered, run_in}
use Rattle.tx_simulation.specs.Samples.{counted}
use Rattle.tx_simulation.specs.Rows.{in_turn, across, waiting, struck_inside, struck_outside, struck_late, struck_twice, struck_between, run_of, Elided, Aborted, FallenBack, HealedInside, StoppedOutside, HitLate, HitTwice, HitBetween}
use Rattle.tx_simulation.proofs.PlainTypes.{same-int}

-- ---- the opening

abbrev memory_with : List ℕ → List ℕ → List ℕ → Memory
memory_with globals stacks heap = record { places = []; globals = globals; stacks = stacks; heap = heap }

-- the heap, with its first bytes written out
abbrev heap_with : List ℕ → List ℕ
heap_with rest = replicate 256 0 ++ rest

zeroes-split : (n m : ℕ) → zeroes (n + m) ≡ replicate n 0 ++ zeroes m
unfolding zeroes
zeroes-split n m = sym (replicate-append-replicate n m 0)

abbrev rest_of : List ℕ
rest_of = zeroes 1048320

abbrev globals_of : List ℕ
globals_of = exactly area_size []

abbrev stacks_of : List ℕ
stacks_of = zeroes area_size

opens-so : opening (harden counted) [] ≡ entered (harden counted) 1 (memory_with globals_of stacks_of (zeroes area_size))
opens-so = rw same-int refl

opens : opening (harden counted) [] ≡ entered (harden counted) 1 (memory_with globals_of stacks_of (heap_with rest_of))
opens = opens-so ∙ ap (λ (heap : List ℕ). entered (harden counted) 1 (memory_with globals_of stacks_of heap)) (zeroes-split 256 1048320)

run-from-there : (events : List Happening) → run_of events ≡ run_in (harden counted) 1 (memory_with globals_of stacks_of (heap_with rest_of)) events
run-from-there events = ap (λ (s : State). result_of (run_from (harden counted) s events)) opens

-- a run that comes to the same whatever the other bytes are
computed : (events : List Happening) (r : RunParts)
    → ((globals stacks rest : List ℕ) → run_in (harden counted) 1 (memory_with globals stacks (heap_with rest)) events ≡ r) → run_of events ≡ r
computed events r runs = run-from-there events ∙ runs globals_of stacks_of rest_of

-- ---- runs

pub elided : Elided
unfolding operators.binary operators.compares operators.converted ty.out-Ty denote.Hole.Carrier.out
elided = computed in_turn _ (λ globals stacks rest. refl)

pub aborted : Aborted
unfolding operators.binary operators.compares operators.converted ty.out-Ty denote.Hole.Carrier.out
aborted = computed across _ (λ globals stacks rest. refl)

pub fallen-back : FallenBack
unfolding operators.binary operators.compares operators.converted ty.out-Ty denote.Hole.Carrier.out
fallen-back = computed waiting _ (λ globals stacks rest. refl)

pub healed-inside : HealedInside
unfolding operators.binary operators.compares operators.converted ty.out-Ty denote.Hole.Carrier.out
healed-inside = computed struck_inside _ (λ globals stacks rest. refl)

pub stopped-outside : StoppedOutside
unfolding operators.binary operators.compares operators.converted ty.out-Ty denote.Hole.Carrier.out
stopped-outside = computed struck_outside _ (λ globals stacks rest. refl)

pub hit-late : HitLate
unfolding operators.binary operators.compares operators.converted ty.out-Ty denote.Hole.Carrier.out
hit-late = computed struck_late _ (λ globals stacks rest. refl)

pub hit-twice : HitTwice
unfolding operators.binary operators.compares operators.converted ty.out-Ty denote.Hole.Carrier.out
hit-twice = computed struck_twice _ (λ globals stacks rest. refl)

pub hit-between : HitBetween
unfolding operators.binary operators.compares operators.converted ty.out-Ty denote.Hole.Carrier.out
hit-between = computed struck_between _ (λ globals stacks rest. refl)
