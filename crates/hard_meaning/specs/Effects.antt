-- What an action of a thread changes in a state: outside transactions at once, inside in what the transaction holds.
--
-- Choices: whether the action can be done is known (that is its outcome). Then the transaction's lists must have room for what it touches,
-- else the thread is aborted and nobody else; then all that stand in its way are aborted; then it is done.
use Rattle.std.specs.Prelude.{ℕ, suc, Bool, true, false, List, [], ◌∷◌, ◌++◌, map, Option, Some, None, slice_set}
use Rattle.std.specs.Option.{option_map}
use Rattle.mem_image.specs.Bytes.{Memory}
use Rattle.mem_image.specs.Touches.{Touch, Store, memory_with}
use Rattle.rtm_core.specs.Footprint.{Footprint, has_room, touched_by}
use Rattle.process.specs.Outcome.{Effect}
use Rattle.process.specs.Process.{with_born}
use Rattle.hard_frames.specs.declared.state.Frame.{Frame}
use Rattle.hard_meaning.specs.State.{Transaction, Mode, Free, Inside, Worker, State, new_worker}
use Rattle.hard_meaning.specs.Aborts.{Overflow, aborted, spared}

abbrev pub with_worker : State → ℕ → Worker → State
with_worker s t w = record s { workers = slice_set s.workers t w }

-- ---- inside

abbrev pub footprint_after : Option Touch → Option Store → Footprint → Footprint
footprint_after None store footprint = footprint
footprint_after (Some touch) store footprint = touched_by touch store footprint

abbrev pub count_after : Bool → ℕ → ℕ
count_after true n = suc n
count_after false n = n

abbrev pub transaction_after : Bool → Option Touch → Option Store → Transaction → Transaction
transaction_after retires touch store tx =
    record tx { footprint = footprint_after touch store tx.footprint; pending = count_after retires tx.pending }

-- ---- in either mode

abbrev pub mode_after : Bool → Option Touch → Option Store → Mode → Mode
mode_after retires touch store (Free plain) = Free plain
mode_after retires touch store (Inside tx) = Inside (transaction_after retires touch store tx)

abbrev pub memory_after : Mode → Option Store → Memory → Memory
memory_after (Free plain) store mem = memory_with store mem
memory_after (Inside tx) store mem = mem

abbrev pub turns_if : Bool → ℕ → List ℕ → List ℕ
turns_if true t turns = turns ++ t ∷ []
turns_if false t turns = turns

-- a turn that retires an instruction of the source joins the turns of the run at once outside, and inside when the transaction commits
abbrev pub turns_after : Mode → Bool → ℕ → List ℕ → List ℕ
turns_after (Free plain) retires t turns = turns_if retires t turns
turns_after (Inside tx) retires t turns = turns

-- thread t has done what has this effect
abbrev pub did : State → ℕ → Worker → Bool → Option ℕ → Effect Frame → State
did s t w retires mutex effect = record s {
  memory = memory_after w.mode effect.store s.memory;
  workers = with_born (option_map new_worker effect.born)
      (slice_set (map (spared (record { touch = effect.touch; mutex = mutex })) s.workers) t
      (record w { thread = effect.thread; mode = mode_after retires effect.touch effect.store w.mode }));
  world = effect.world;
  turns = turns_after w.mode retires t s.turns;
}

-- ---- full lists

abbrev pub has_room_in : Mode → Option Touch → Bool
has_room_in (Free plain) touch = true
has_room_in (Inside tx) None = true
has_room_in (Inside tx) (Some touch) = has_room touch tx.footprint

-- it is done where the lists take what it touches
abbrev pub where_room : Bool → State → ℕ → Worker → State → State
where_room true s t w next = next
where_room false s t w next = with_worker s t (aborted Overflow w)

abbrev pub tried : State → ℕ → Worker → Bool → Option ℕ → Effect Frame → State
tried s t w retires mutex effect = where_room (has_room_in w.mode effect.touch) s t w (did s t w retires mutex effect)
