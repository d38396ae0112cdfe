-- The program of two threads that count under a mutex is good: only who holds the mutex has an access to the word, until one thread is left.
use Rattle.std.proofs.Common.{ℕ, zero, suc, ◌≡◌, List, [], ◌∷◌, ◌++◌, Option, Some, None, refl, true, false, Bool, ◌⊎◌, inl, inr}
use Rattle.ir_core.specs.declared.types.Ty as ty
use Rattle.ir_core.specs.declared.values.Out.{Out}
use Rattle.ir_core.specs.declared.values.Out.TheVariants.{Num}
use Rattle.ir_layout.specs.declared.spans.Span.{Span}
use Rattle.ir_layout.specs.Memory.{layout_of}
use Rattle.op_table.specs.Operators as operators
use Rattle.mem_image.specs.Bytes.{Memory}
use Rattle.mem_image.specs.Opening.{opening as opening_memory}
use Rattle.inst_meaning.specs.declared.actions.Access.{Access}
use Rattle.inst_meaning.specs.World.{WorldParts}
use Rattle.process.specs.declared.state.Thread.{Thread}
use Rattle.process.specs.declared.state.Thread.TheVariants.{Running, Exiting, Ended}
use Rattle.src_meaning.specs.declared.state.Frame.{Frame}
use Rattle.src_meaning.specs.State.{State}
use Rattle.src_meaning.specs.Step.{opening, step}
use Rattle.src_meaning.specs.Races.{race_of, IsGood, access_by, clash_of}
use Rattle.tx_simulation.specs.Samples.{counted}
use Rattle.tx_simulation.proofs.PlainTypes.{same-int}
use Rattle.tx_simulation.proofs.GoodRuns.{IsDefined, is-good}

-- memory without globals, whatever its bytes
abbrev bytes_only : List ℕ → List ℕ → List ℕ → Memory
bytes_only globals stacks heap = record { places = []; globals = globals; stacks = stacks; heap = heap }

-- ---- where the threads stand

abbrev frame_at : ℕ → ℕ → List (Option ℕ) → ℕ → Thread Frame
frame_at function index registers mark = Running (record {
  mark = mark;
  frame = record { function = function; block = 0; index = index; registers = registers; mark = mark; waiting = None };
  callers = [];
})

abbrev main_at : ℕ → List (Option ℕ) → Thread Frame
main_at index registers = frame_at 1 index registers 16777216

abbrev worker_at : ℕ → List (Option ℕ) → Thread Frame
worker_at index registers = frame_at 0 index registers 16793600

-- the addresses of the mutex, of the word and of the thread's number, and the answer of `pthread_create`
abbrev addresses : List (Option ℕ)
addresses = None ∷ Some 67108864 ∷ Some 67108928 ∷ Some 67108992 ∷ []

abbrev made : List (Option ℕ) → List (Option ℕ)
made more = None ∷ Some 67108864 ∷ Some 67108928 ∷ Some 67108992 ∷ Some 0 ∷ more

abbrev given : List (Option ℕ) → List (Option ℕ)
given more = Some 67108864 ∷ None ∷ Some 67108928 ∷ more

-- the first thread before it waits for the second: without the mutex, and with it
data IsFirst : Thread Frame → Type 0 where
  Locks : IsFirst (main_at 4 (made []))
  Joins : (n sum : ℕ) → IsFirst (main_at 9 (made (Some 0 ∷ Some n ∷ Some sum ∷ Some 0 ∷ [])))

data IsFirstWithin : Thread Frame → Type 0 where
  Loads : IsFirstWithin (main_at 5 (made (Some 0 ∷ [])))
  Adds : (n : ℕ) → IsFirstWithin (main_at 6 (made (Some 0 ∷ Some n ∷ [])))
  Stores : (n sum : ℕ) → IsFirstWithin (main_at 7 (made (Some 0 ∷ Some n ∷ Some sum ∷ [])))
  Unlocks : (n sum : ℕ) → IsFirstWithin (main_at 8 (made (Some 0 ∷ Some n ∷ Some sum ∷ [])))

-- the second thread: without the mutex, and with it
data IsSecond : Thread Frame → Type 0 where
  Begins : IsSecond (worker_at 0 (Some 67108864 ∷ []))
  Locks : IsSecond (worker_at 1 (given []))
  Returns : (n sum : ℕ) → IsSecond (worker_at 6 (given (Some 0 ∷ Some n ∷ Some sum ∷ Some 0 ∷ [])))
  Leaves : IsSecond (Exiting 0)
  Gone : IsSecond Ended

data IsSecondWithin : Thread Frame → Type 0 where
  Loads : IsSecondWithin (worker_at 2 (given (Some 0 ∷ [])))
  Adds : (n : ℕ) → IsSecondWithin (worker_at 3 (given (Some 0 ∷ Some n ∷ [])))
  Stores : (n sum : ℕ) → IsSecondWithin (worker_at 4 (given (Some 0 ∷ Some n ∷ Some sum ∷ [])))
  Unlocks : (n sum : ℕ) → IsSecondWithin (worker_at 5 (given (Some 0 ∷ Some n ∷ Some sum ∷ [])))

-- ---- states

abbrev owned_by : ℕ → List (ℕ × ℕ)
owned_by t = (67108864, t) ∷ []

module _ (arguments : List ℕ) where
  abbrev world_of : List (ℕ × ℕ) → List Out → WorldParts
  world_of owners outputs = record { owners = owners; heap_mark = 67108864; arguments = arguments; outputs = outputs }

  abbrev state_of : Memory → List (Thread Frame) → List (ℕ × ℕ) → List Out → Bool → State
  state_of memory threads owners outputs ended = record {
    process = record { memory = memory; threads = threads; world = world_of owners outputs };
    ended = ended;
  }

  -- where two threads are there and neither has left, with these owners
  abbrev both_at : List ℕ → List ℕ → List ℕ → Thread Frame → Thread Frame → List (ℕ × ℕ) → State
  both_at g s h x y owners = state_of (bytes_only g s h) (x ∷ y ∷ []) owners [] false

  -- where the first is left
  abbrev first_left : List ℕ → List ℕ → List ℕ → Thread Frame → List Out → Bool → State
  first_left g s h x outputs ended = state_of (bytes_only g s h) (x ∷ Ended ∷ []) [] outputs ended

  data Reached : State → Type 0 where
    Entered : (g s h : List ℕ) → Reached (state_of (bytes_only g s h) (main_at 0 [] ∷ []) [] [] false)
    Once : (g s h : List ℕ) → Reached (state_of (bytes_only g s h) (main_at 1 (None ∷ Some 67108864 ∷ []) ∷ []) [] [] false)
    Twice : (g s h : List ℕ) → Reached (state_of (bytes_only g s h) (main_at 2 (None ∷ Some 67108864 ∷ Some 67108928 ∷ []) ∷ []) [] [] false)
    Creates : (g s h : List ℕ) → Reached (state_of (bytes_only g s h) (main_at 3 addresses ∷ []) [] [] false)
    Free : (g s h : List ℕ) (x y : Thread Frame) → IsFirst x → IsSecond y → Reached (both_at g s h x y [])
    FirstHolds : (g s h : List ℕ) (x y : Thread Frame) → IsFirstWithin x → IsSecond y → Reached (both_at g s h x y (owned_by 0))
    SecondHolds : (g s h : List ℕ) (x y : Thread Frame) → IsFirst x → IsSecondWithin y → Reached (both_at g s h x y (owned_by 1))
    Reads : (g s h : List ℕ) (n sum : ℕ) → Reached (first_left g s h (main_at 10 (made (Some 0 ∷ Some n ∷ Some sum ∷ Some 0 ∷ Some 0 ∷ []))) [] false)
    Gives : (g s h : List ℕ) (n sum word : ℕ)
        → Reached (first_left g s h (main_at 11 (made (Some 0 ∷ Some n ∷ Some sum ∷ Some 0 ∷ Some 0 ∷ Some word ∷ []))) [] false)
    Returning : (g s h : List ℕ) (n sum word : ℕ) (outputs : List Out)
        → Reached (first_left g s h (main_at 12 (made (Some 0 ∷ Some n ∷ Some sum ∷ Some 0 ∷ Some 0 ∷ Some word ∷ []))) outputs false)
    Leaving : (g s h : List ℕ) (outputs : List Out) → Reached (first_left g s h (Exiting 0) outputs false)
    Over : (g s h : List ℕ) (outputs : List Out) → Reached (first_left g s h (Exiting 0) outputs true)

  abbrev Goes : State → ℕ → Type 0
  Goes s t = Reached (step counted s t).0 × IsDefined (step counted s t).1

  -- ---- steps

  waits : (g s h : List ℕ) (y : Thread Frame) (n sum : ℕ) → IsSecond y
      → Goes (both_at g s h (main_at 9 (made (Some 0 ∷ Some n ∷ Some sum ∷ Some 0 ∷ []))) y []) 0
  unfolding operators.binary operators.converted ty.out-Ty denote.Hole.Carrier.out
  waits g s h y n sum Begins = (Free g s h _ _ (Joins n sum) Begins, λ cause e. cc)
  waits g s h y n sum Locks = (Free g s h _ _ (Joins n sum) Locks, λ cause e. cc)
  waits g s h y n sum (Returns k l) = (Free g s h _ _ (Joins n sum) (Returns k l), λ cause e. cc)
  waits g s h y n sum Leaves = (Free g s h _ _ (Joins n sum) Leaves, λ cause e. cc)
  waits g s h y n sum Gone = (Reads g s h n sum, λ cause e. cc)

  first-free : (g s h : List ℕ) (x y : Thread Frame) → IsFirst x → IsSecond y → Goes (both_at g s h x y []) 0
  unfolding operators.binary operators.converted ty.out-Ty denote.Hole.Carrier.out
  first-free g s h x y Locks is = (FirstHolds g s h _ y Loads is, λ cause e. cc)
  first-free g s h x y (Joins n sum) is = waits g s h y n sum is

  first-within : (g s h : List ℕ) (x y : Thread Frame) → IsFirstWithin x → IsSecond y → Goes (both_at g s h x y (owned_by 0)) 0
  unfolding operators.binary operators.converted ty.out-Ty denote.Hole.Carrier.out
  first-within g s h x y Loads is = (FirstHolds g s h _ y (Adds _) is, λ cause e. cc)
  first-within g s h x y (Adds n) is = (FirstHolds g s h _ y (Stores n _) is, λ cause e. cc)
  first-within g s h x y (Stores n sum) is = (FirstHolds g s _ _ y (Unlocks n sum) is, λ cause e. cc)
  first-within g s h x y (Unlocks n sum) is = (Free g s h _ y (Joins n sum) is, λ cause e. cc)

  first-kept-out : (g s h : List ℕ) (x y : Thread Frame) → IsFirst x → IsSecondWithin y → Goes (both_at g s h x y (owned_by 1)) 0
  unfolding operators.binary operators.converted ty.out-Ty denote.Hole.Carrier.out
  first-kept-out g s h x y Locks is = (SecondHolds g s h _ y Locks is, λ cause e. cc)
  first-kept-out g s h x y (Joins n sum) Loads = (SecondHolds g s h _ _ (Joins n sum) Loads, λ cause e. cc)
  first-kept-out g s h x y (Joins n sum) (Adds k) = (SecondHolds g s h _ _ (Joins n sum) (Adds k), λ cause e. cc)
  first-kept-out g s h x y (Joins n sum) (Stores k l) = (SecondHolds g s h _ _ (Joins n sum) (Stores k l), λ cause e. cc)
  first-kept-out g s h x y (Joins n sum) (Unlocks k l) = (SecondHolds g s h _ _ (Joins n sum) (Unlocks k l), λ cause e. cc)

  second-free : (g s h : List ℕ) (x y : Thread Frame) → IsFirst x → IsSecond y → Goes (both_at g s h x y []) 1
  unfolding operators.binary operators.converted ty.out-Ty denote.Hole.Carrier.out
  second-free g s h x y is Begins = (Free g s h x _ is Locks, λ cause e. cc)
  second-free g s h x y is Locks = (SecondHolds g s h x _ is Loads, λ cause e. cc)
  second-free g s h x y is (Returns n sum) = (Free g s h x _ is Leaves, λ cause e. cc)
  second-free g s h x y is Leaves = (Free g s h x _ is Gone, λ cause e. cc)
  second-free g s h x y is Gone = (Free g s h x _ is Gone, λ cause e. cc)

  second-kept-out : (g s h : List ℕ) (x y : Thread Frame) → IsFirstWithin x → IsSecond y → Goes (both_at g s h x y (owned_by 0)) 1
  unfolding operators.binary operators.converted ty.out-Ty denote.Hole.Carrier.out
  second-kept-out g s h x y is Begins = (FirstHolds g s h x _ is Locks, λ cause e. cc)
  second-kept-out g s h x y is Locks = (FirstHolds g s h x _ is Locks, λ cause e. cc)
  second-kept-out g s h x y is (Returns n sum) = (FirstHolds g s h x _ is Leaves, λ cause e. cc)
  second-kept-out g s h x y is Leaves = (FirstHolds g s h x _ is Gone, λ cause e. cc)
  second-kept-out g s h x y is Gone = (FirstHolds g s h x _ is Gone, λ cause e. cc)

  second-within : (g s h : List ℕ) (x y : Thread Frame) → IsFirst x → IsSecondWithin y → Goes (both_at g s h x y (owned_by 1)) 1
  unfolding operators.binary operators.converted ty.out-Ty denote.Hole.Carrier.out
  second-within g s h x y is Loads = (SecondHolds g s h x _ is (Adds _), λ cause e. cc)
  second-within g s h x y is (Adds n) = (SecondHolds g s h x _ is (Stores n _), λ cause e. cc)
  second-within g s h x y is (Stores n sum) = (SecondHolds g s _ x _ is (Unlocks n sum), λ cause e. cc)
  second-within g s h x y is (Unlocks n sum) = (Free g s h x _ is (Returns n sum), λ cause e. cc)

  -- each thread in each state
  first-goes : (s : State) → Reached s → Goes s 0
  unfolding operators.binary operators.converted ty.out-Ty denote.Hole.Carrier.out
  first-goes state (Entered g s h) = (Once g s h, λ cause e. cc)
  first-goes state (Once g s h) = (Twice g s h, λ cause e. cc)
  first-goes state (Twice g s h) = (Creates g s h, λ cause e. cc)
  first-goes state (Creates g s h) = (Free g s _ _ _ Locks Begins, λ cause e. cc)
  first-goes state (Free g s h x y first second) = first-free g s h x y first second
  first-goes state (FirstHolds g s h x y first second) = first-within g s h x y first second
  first-goes state (SecondHolds g s h x y first second) = first-kept-out g s h x y first second
  first-goes state (Reads g s h n sum) = (Gives g s h n sum _, λ cause e. cc)
  first-goes state (Gives g s h n sum word) = (Returning g s h n sum word _, λ cause e. cc)
  first-goes state (Returning g s h n sum word outputs) = (Leaving g s h outputs, λ cause e. cc)
  first-goes state (Leaving g s h outputs) = (Over g s h outputs, λ cause e. cc)
  first-goes state (Over g s h outputs) = (Over g s h outputs, λ cause e. cc)

  second-goes : (s : State) → Reached s → Goes s 1
  second-goes state (Entered g s h) = (Entered g s h, λ cause e. cc)
  second-goes state (Once g s h) = (Once g s h, λ cause e. cc)
  second-goes state (Twice g s h) = (Twice g s h, λ cause e. cc)
  second-goes state (Creates g s h) = (Creates g s h, λ cause e. cc)
  second-goes state (Free g s h x y first second) = second-free g s h x y first second
  second-goes state (FirstHolds g s h x y first second) = second-kept-out g s h x y first second
  second-goes state (SecondHolds g s h x y first second) = second-within g s h x y first second
  second-goes state (Reads g s h n sum) = (Reads g s h n sum, λ cause e. cc)
  second-goes state (Gives g s h n sum word) = (Gives g s h n sum word, λ cause e. cc)
  second-goes state (Returning g s h n sum word outputs) = (Returning g s h n sum word outputs, λ cause e. cc)
  second-goes state (Leaving g s h outputs) = (Leaving g s h outputs, λ cause e. cc)
  second-goes state (Over g s h outputs) = (Over g s h outputs, λ cause e. cc)

  -- there are no others
  others : (s : State) (t : ℕ) → Reached s → Goes s (suc (suc t))
  others state t (Entered g s h) = (Entered g s h, λ cause e. cc)
  others state t (Once g s h) = (Once g s h, λ cause e. cc)
  others state t (Twice g s h) = (Twice g s h, λ cause e. cc)
  others state t (Creates g s h) = (Creates g s h, λ cause e. cc)
  others state t (Free g s h x y first second) = (Free g s h x y first second, λ cause e. cc)
  others state t (FirstHolds g s h x y first second) = (FirstHolds g s h x y first second, λ cause e. cc)
  others state t (SecondHolds g s h x y first second) = (SecondHolds g s h x y first second, λ cause e. cc)
  others state t (Reads g s h n sum) = (Reads g s h n sum, λ cause e. cc)
  others state t (Gives g s h n sum word) = (Gives g s h n sum word, λ cause e. cc)
  others state t (Returning g s h n sum word outputs) = (Returning g s h n sum word outputs, λ cause e. cc)
  others state t (Leaving g s h outputs) = (Leaving g s h outputs, λ cause e. cc)
  others state t (Over g s h outputs) = (Over g s h outputs, λ cause e. cc)

  kept : (s : State) (t : ℕ) → Reached s → Goes s t
  kept s zero reached = first-goes s reached
  kept s (suc zero) reached = second-goes s reached
  kept s (suc (suc t)) reached = others s t reached

  -- ---- races

  none-first : (x : Thread Frame) → IsFirst x → access_by counted 2 (Some x) ≡ None
  unfolding operators.binary operators.converted ty.out-Ty denote.Hole.Carrier.out
  none-first x Locks = refl
  none-first x (Joins n sum) = refl

  none-second : (y : Thread Frame) → IsSecond y → access_by counted 2 (Some y) ≡ None
  unfolding operators.binary operators.converted ty.out-Ty denote.Hole.Carrier.out
  none-second y Begins = refl
  none-second y Locks = refl
  none-second y (Returns n sum) = refl
  none-second y Leaves = refl
  none-second y Gone = refl

  none-after : (o : Option Access) → clash_of o None ≡ false
  none-after None = refl
  none-after (Some access) = refl

  apart-where : (g s h : List ℕ) (x y : Thread Frame) (owners : List (ℕ × ℕ)) (outputs : List Out)
      → (access_by counted 2 (Some x) ≡ None) ⊎ (access_by counted 2 (Some y) ≡ None)
      → race_of counted (state_of (bytes_only g s h) (x ∷ y ∷ []) owners outputs false) ≡ None
  apart-where g s h x y owners outputs (inl none) = rw none refl
  apart-where g s h x y owners outputs (inr none) = rw none (rw none-after refl)

  apart : (s : State) → Reached s → race_of counted s ≡ None
  apart state (Entered g s h) = refl
  apart state (Once g s h) = refl
  apart state (Twice g s h) = refl
  apart state (Creates g s h) = refl
  apart state (Free g s h x y first second) = apart-where g s h x y [] [] (inl (none-first x first))
  apart state (FirstHolds g s h x y first second) = apart-where g s h x y (owned_by 0) [] (inr (none-second y second))
  apart state (SecondHolds g s h x y first second) = apart-where g s h x y (owned_by 1) [] (inl (none-first x first))
  apart state (Reads g s h n sum) = apart-where g s h (main_at 10 (made (Some 0 ∷ Some n ∷ Some sum ∷ Some 0 ∷ Some 0 ∷ []))) Ended [] [] (inr refl)
  apart state (Gives g s h n sum word) =
      apart-where g s h (main_at 11 (made (Some 0 ∷ Some n ∷ Some sum ∷ Some 0 ∷ Some 0 ∷ Some word ∷ []))) Ended [] [] (inr refl)
  apart state (Returning g s h n sum word outputs) =
      apart-where g s h (main_at 12 (made (Some 0 ∷ Some n ∷ Some sum ∷ Some 0 ∷ Some 0 ∷ Some word ∷ []))) Ended [] outputs (inr refl)
  apart state (Leaving g s h outputs) = refl
  apart state (Over g s h outputs) = refl

entered : (arguments : List ℕ) → Reached arguments (opening counted arguments)
entered arguments = rw same-int (Entered _ _ _)

pub counted-good : (arguments : List ℕ) → IsGood counted arguments
counted-good arguments = is-good counted arguments (Reached arguments) (entered arguments) (kept arguments) (apart arguments)
