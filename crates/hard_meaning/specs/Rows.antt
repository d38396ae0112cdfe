-- Runs of samples, as equations: what a schedule makes of a program.
use Rattle.std.specs.Prelude.{ℕ, ◌≡◌, List, [], ◌∷◌, ◌++◌, codes, decimal}
use Rattle.ir_core.specs.declared.types.Tid.{Tid}
use Rattle.ir_core.specs.declared.values.Side.TheVariants.{M, S}
use Rattle.ir_core.specs.declared.values.Out.TheVariants.{Num}
use Rattle.mem_image.specs.Bytes.{Memory}
use Rattle.hard_ir.specs.Hardened.{harden}
use Rattle.hard_frames.specs.declared.outcome.Aborts.{Aborts}
use Rattle.hard_frames.specs.declared.outcome.Stop.TheVariants.{End, Fail, Trap, Bound}
use Rattle.hard_meaning.specs.Records.{Missed, Window, Hit, Undone, Stacked}
use Rattle.hard_meaning.specs.State.{no_aborts}
use Rattle.hard_meaning.specs.Samples as samples
use Rattle.hard_meaning.specs.Samples.{turns, abort_of, upset_of, run_in, aborts_after, small_heap}

abbrev pub of_thread : ℕ → ℕ → Tid × ℕ
of_thread t n = (record { 0 = t }, n)

abbrev pub only_thread : ℕ → List (Tid × ℕ)
only_thread n = of_thread 0 n ∷ []

abbrev pub explicit_aborts : ℕ → Aborts
explicit_aborts n = record no_aborts { explicit = n }

abbrev pub other_aborts : ℕ → Aborts
other_aborts n = record no_aborts { other = n }

abbrev pub name_a : List ℕ
name_a = codes "a"

-- ---- a sum, over any memory

-- the hardened text of the sum is the one that is written out
abbrev pub SumIsHardened : Type 0
SumIsHardened = harden samples.sum ≡ samples.hard_sum

abbrev pub Whole : Type 0
Whole = (memory : Memory) → run_in samples.hard_sum 0 memory (turns 0 40)
    ≡ record { outs = Num 5 ∷ []; upsets = []; aborts = no_aborts; stop = End 0; turns = only_thread 4 }

-- its return is in an open transaction
abbrev pub Unfinished : Type 0
Unfinished = (memory : Memory) → run_in samples.hard_sum 0 memory (turns 0 11)
    ≡ record { outs = Num 5 ∷ []; upsets = []; aborts = no_aborts; stop = Bound; turns = only_thread 2 }

-- an upset inside a transaction, whose check fails: the transaction aborts, and begins anew
abbrev pub UpsetUndone : Type 0
UpsetUndone = (memory : Memory) → run_in samples.hard_sum 0 memory (turns 0 3 ++ upset_of 0 M name_a 1 ++ turns 0 40)
    ≡ record { outs = Num 5 ∷ []; upsets = Undone ∷ []; aborts = explicit_aborts 1; stop = End 0; turns = only_thread 4 }

-- three aborts, and an upset outside transactions
abbrev pub UpsetHit : Type 0
UpsetHit = (memory : Memory)
    → run_in samples.hard_sum 0 memory
    (turns 0 2 ++ abort_of 0 ++ turns 0 1 ++ abort_of 0 ++ turns 0 1 ++ abort_of 0 ++ turns 0 2 ++ upset_of 0 M name_a 1 ++ turns 0 3)
    ≡ record { outs = []; upsets = Hit ∷ []; aborts = other_aborts 3; stop = Fail (record { 0 = 0 }) (codes "main/0/" ++ decimal 5); turns = only_thread 1 }

-- an upset between the check and what it guards
abbrev pub UpsetInWindow : Type 0
UpsetInWindow = (memory : Memory) → run_in samples.hard_sum 0 memory (turns 0 6 ++ upset_of 0 M name_a 1 ++ turns 0 40)
    ≡ record { outs = Num 4 ∷ []; upsets = Window ∷ []; aborts = no_aborts; stop = End 0; turns = only_thread 4 }

-- the shadow is used by nothing then
abbrev pub UpsetUnused : Type 0
UpsetUnused = (memory : Memory) → run_in samples.hard_sum 0 memory (turns 0 6 ++ upset_of 0 S name_a 1 ++ turns 0 40)
    ≡ record { outs = Num 5 ∷ []; upsets = Hit ∷ []; aborts = no_aborts; stop = End 0; turns = only_thread 4 }

-- an upset of a thread that there isn't
abbrev pub UpsetMissed : Type 0
UpsetMissed = (memory : Memory) → run_in samples.hard_sum 0 memory (upset_of 63 M name_a 1 ++ turns 0 12)
    ≡ record { outs = Num 5 ∷ []; upsets = Missed ∷ []; aborts = no_aborts; stop = End 0; turns = only_thread 4 }

-- an upset once an earlier one was undone
abbrev pub UndoneTwice : Type 0
UndoneTwice = (memory : Memory)
    → run_in samples.hard_sum 0 memory (turns 0 3 ++ upset_of 0 M name_a 1 ++ turns 0 5 ++ upset_of 0 M name_a 2 ++ turns 0 40)
    ≡ record { outs = Num 5 ∷ []; upsets = Undone ∷ Undone ∷ []; aborts = explicit_aborts 2; stop = End 0; turns = only_thread 4 }

-- an upset while an earlier one stands
abbrev pub UpsetStacked : Type 0
UpsetStacked = (memory : Memory)
    → run_in samples.hard_sum 0 memory (turns 0 4 ++ upset_of 0 M name_a 1 ++ upset_of 0 S name_a 1 ++ turns 0 40)
    ≡ record { outs = Num 4 ∷ []; upsets = Hit ∷ Stacked ∷ []; aborts = no_aborts; stop = End 0; turns = only_thread 4 }

-- an upset outside, which an abort of a later transaction doesn't undo
abbrev pub HitStands : Type 0
HitStands = (memory : Memory)
    → run_in samples.hard_sum 0 memory (turns 0 8 ++ upset_of 0 M name_a 1 ++ turns 0 1 ++ abort_of 0 ++ turns 0 20)
    ≡ record { outs = Num 5 ∷ []; upsets = Hit ∷ []; aborts = other_aborts 1; stop = End 0; turns = only_thread 4 }

-- what is undefined aborts inside, three times, and stops the machine outside
abbrev pub Trapped : Type 0
Trapped = (memory : Memory) → run_in (harden samples.divided) 0 memory (turns 0 9)
    ≡ record { outs = []; upsets = []; aborts = other_aborts 3; stop = Trap (record { 0 = 0 }) (codes "main/0/" ++ decimal 2); turns = [] }

-- ---- a condition that is struck between its check and its branch

abbrev pub BranchStruck : Type 0
BranchStruck = (memory : Memory) → run_in (harden samples.branched) 0 memory (turns 0 6 ++ upset_of 0 M (codes "c") 1 ++ turns 0 40)
    ≡ record { outs = Num 2 ∷ []; upsets = Window ∷ []; aborts = no_aborts; stop = End 0; turns = only_thread 5 }

-- with checks on edges it is undone
abbrev pub EdgeChecked : Type 0
EdgeChecked = (memory : Memory) → run_in samples.edged_branch 0 memory (turns 0 6 ++ upset_of 0 M (codes "c") 1 ++ turns 0 40)
    ≡ record { outs = Num 1 ∷ []; upsets = Undone ∷ []; aborts = explicit_aborts 1; stop = End 0; turns = only_thread 5 }

-- ---- memory

-- a pointer that is struck before a store inside: what the check of memory finds is undone
abbrev pub StoreUndone : Type 0
StoreUndone = run_in (harden samples.store_and_load) 0 small_heap (turns 0 4 ++ upset_of 0 M (codes "p") 16 ++ turns 0 60)
    ≡ record { outs = Num 7 ∷ []; upsets = Undone ∷ []; aborts = explicit_aborts 1; stop = End 0; turns = only_thread 6 }

-- a second thread writes to the line that an open transaction has written
abbrev pub WriteConflicts : Type 0
WriteConflicts = run_in (harden (samples.beside (samples.stored 1) 16)) 1 small_heap (turns 0 17 ++ turns 1 12 ++ turns 0 20)
    ≡ record { outs = Num 2 ∷ []; upsets = []; aborts = record no_aborts { conflict = 1 }; stop = End 0; turns = of_thread 0 4 ∷ of_thread 1 3 ∷ of_thread 0 5 ∷ [] }

-- or reads it
abbrev pub ReadConflicts : Type 0
ReadConflicts = run_in (harden (samples.beside (samples.loaded 2) 0)) 1 small_heap (turns 0 17 ++ turns 1 12 ++ turns 0 20)
    ≡ record { outs = Num 2 ∷ []; upsets = []; aborts = record no_aborts { conflict = 1 }; stop = End 0; turns = of_thread 0 4 ∷ of_thread 1 3 ∷ of_thread 0 5 ∷ [] }

-- or writes to another line: both transactions commit
abbrev pub BothCommit : Type 0
BothCommit = run_in (harden (samples.beside (samples.stored 1) 64)) 1 small_heap (turns 0 17 ++ turns 1 12 ++ turns 0 20)
    ≡ record { outs = Num 2 ∷ []; upsets = []; aborts = no_aborts; stop = End 0; turns = of_thread 0 4 ∷ of_thread 1 3 ∷ of_thread 0 5 ∷ [] }

-- a list of written lines has room for one more, and where it is full the transaction aborts
abbrev pub WriteFits : Type 0
WriteFits = aborts_after (harden samples.store_and_load) 5 0 511 ≡ no_aborts

abbrev pub WriteOverflows : Type 0
WriteOverflows = aborts_after (harden samples.store_and_load) 5 0 512 ≡ record no_aborts { overflow = 1 }

-- so it is with lines that are read
abbrev pub ReadFits : Type 0
ReadFits = aborts_after (harden samples.store_and_load) 8 8191 0 ≡ no_aborts

abbrev pub ReadOverflows : Type 0
ReadOverflows = aborts_after (harden samples.store_and_load) 8 8192 0 ≡ record no_aborts { overflow = 1 }

-- ---- mutexes

-- the second lock call finds the mutex held: three aborts, and then it waits
abbrev pub LockedTwice : Type 0
LockedTwice = run_in (harden samples.locked_twice) 0 small_heap (turns 0 50 ++ upset_of 0 M (codes "p") 16 ++ turns 0 5)
    ≡ record { outs = []; upsets = Window ∷ []; aborts = explicit_aborts 3; stop = Bound; turns = only_thread 4 }

-- two critical sections on different lines are open at once
abbrev pub LocksWatched : Type 0
LocksWatched = run_in (harden samples.locked_writers) 1 small_heap (turns 0 24 ++ turns 1 22 ++ turns 0 8)
    ≡ record { outs = []; upsets = []; aborts = no_aborts; stop = End 0; turns = of_thread 0 4 ∷ of_thread 1 6 ∷ of_thread 0 5 ∷ [] }

-- a thread outside takes the mutex that another one watches, which aborts
abbrev pub WatchConflicts : Type 0
WatchConflicts = run_in (harden samples.locked_writers) 1 small_heap
    (turns 0 24 ++ turns 1 3 ++ abort_of 1 ++ turns 1 1 ++ abort_of 1 ++ turns 1 1 ++ abort_of 1 ++ turns 1 40 ++ turns 0 60)
    ≡ record { outs = []; upsets = []; aborts = record no_aborts { conflict = 1; other = 3 }; stop = End 0; turns = of_thread 0 4 ∷ of_thread 1 6 ∷ of_thread 0 5 ∷ [] }

-- a transaction that holds a mutex can't end before a call that leaves the module: three aborts, and then it goes on outside
abbrev pub FallsBack : Type 0
FallsBack = run_in (harden samples.out_while_locked) 0 small_heap (turns 0 60)
    ≡ record { outs = Num 7 ∷ []; upsets = []; aborts = explicit_aborts 3; stop = End 0; turns = only_thread 6 }
