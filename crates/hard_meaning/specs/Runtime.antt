-- The runtime's words of a thread, and what begins and ends transactions (Intel 64 and IA-32 Architectures Software Developer's Manual,
-- volume 1, 'Programming with Intel Transactional Synchronization Extensions': XBEGIN, XEND, XABORT).
--
-- Choices: the words change as the runtime's own table says; here they do so with the thread. One definition says what ending a
-- transaction comes to, with the thread as it is, which an abort needs, and the state that is reached where it commits.
use Rattle.std.specs.Prelude.{ℕ, ◌+◌, min, Bool, true, false, nat_lt, nat_le, List, [], ◌∷◌, ◌++◌, replicate, slice_set}
use Rattle.rtm_core.specs.Footprint.{nothing_touched, seen_through}
use Rattle.tx_runtime.specs.Words.{tries, threshold, last_count}
use Rattle.process.specs.declared.state.CallStack.{CallStack}
use Rattle.hard_frames.specs.declared.state.Frame.{Frame}
use Rattle.hard_meaning.specs.State.{Transaction, Mode, Free, Inside, Worker, State}
use Rattle.hard_meaning.specs.Aborts.{Locked, aborted}
use Rattle.hard_meaning.specs.Effects.{with_worker}

-- ---- begin and tick

abbrev pub fresh : CallStack Frame → Transaction
fresh kept = record { kept = kept; footprint = nothing_touched; pending = 0; struck = []; watched = []; held = [] }

abbrev pub begun_if : Bool → CallStack Frame → Worker → Worker
begun_if true kept w = record w { mode = Inside (fresh kept); counter = 0 }
begun_if false kept w = record w { mode = Free true; attempts = 0; counter = 0 }

-- a `begin` at which the frames stand so: it acts outside, unless transactions are given up
abbrev pub begun : CallStack Frame → Worker → Mode → Worker
begun kept w (Free false) = begun_if (nat_lt w.attempts tries) kept w
begun kept w (Free true) = w
begun kept w (Inside tx) = w

-- work is counted
abbrev pub ticked : ℕ → Worker → Worker
ticked work w = record w { counter = min last_count (w.counter + work) }

-- ---- end and cut

-- outside, and ready to begin
abbrev pub outside : Worker → Worker
outside w = record w { mode = Free false; attempts = 0 }

-- what the transaction wrote becomes memory, its turns join the run's, and what struck it stands; the thread goes on so
abbrev pub committed : State → ℕ → Transaction → Worker → State
committed s t tx w = record s {
  memory = seen_through tx.footprint s.memory;
  workers = slice_set s.workers t (record (outside w) { hits = tx.struck ++ w.hits });
  turns = s.turns ++ replicate tx.pending t;
}

-- the thread goes on so outside, and has committed where it was inside
abbrev pub closed : State → ℕ → Mode → Worker → State
closed s t (Free plain) w = with_worker s t (outside w)
closed s t (Inside tx) w = committed s t tx w

abbrev pub is_empty : List ℕ → Bool
is_empty [] = true
is_empty (n ∷ ns) = false

-- a transaction that holds a mutex, which it only watches, can't commit
abbrev pub can_end : Mode → Bool
can_end (Free plain) = true
can_end (Inside tx) = is_empty tx.held

-- where its transaction can end, what comes then; else it is aborted
abbrev pub where_ends : Bool → State → ℕ → Worker → State → State
where_ends true s t w next = next
where_ends false s t w next = with_worker s t (aborted Locked w)

-- a thread ends its transaction, and goes on as another
abbrev pub ended : State → ℕ → Worker → Worker → State
ended s t w moved = where_ends (can_end w.mode) s t w (closed s t w.mode moved)

-- a `cut` ends where enough work was counted
abbrev pub cut_if : Bool → State → ℕ → Worker → Worker → State
cut_if true s t w moved = ended s t w moved
cut_if false s t w moved = with_worker s t moved

abbrev pub cut : State → ℕ → Worker → Worker → State
cut s t w moved = cut_if (nat_le threshold w.counter) s t w moved
