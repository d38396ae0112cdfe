-- Memory under transactions: what each thread's access, beginning, end and abort come to (Intel 64 and IA-32 Architectures Software
-- Developer's Manual, volume 1, 'Programming with Intel Transactional Synchronization Extensions': XBEGIN, XEND, XABORT, XTEST).
--
-- Choices: an access goes in this order: is it valid, do the thread's own lists take its line, then it aborts all that it conflicts
-- with, in order of threads, and then it is done. Where one of the first two fails nothing changes. Memory changes by an access outside
-- and at an end alone, which makes what its thread saw the memory in one step. What a thread kept at its beginning is any value.
use Rattle.std.specs.Prelude.{ℕ, suc, Bool, true, false, not, ◌&&◌, nat_eq, List, [], ◌∷◌, Option, Some, None, slice_get, slice_set}
use Rattle.std.specs.Option.{option_flatten, option_map}
use Rattle.ir_layout.specs.Memory.{is_valid}
use Rattle.mem_image.specs.Bytes.{Memory, peek}
use Rattle.mem_image.specs.Touches.{Touch, Store, memory_with}
use Rattle.rtm_core.specs.Footprint.{Footprint, nothing_touched, seen_through, conflicts, has_room, touched_by}

-- a thread's open transaction: what it kept, and what it touched
pub record Transaction (C : Type 0) : Type 0 where
  pub kept : C
  pub footprint : Footprint

-- memory, and for each thread its transaction, if one is open
pub record RtmParts (C : Type 0) : Type 0 where
  pub memory : Memory
  pub threads : List (Option (Transaction C))

abbrev pub thread : {C : Type 0} → RtmParts C → ℕ → Option (Transaction C)
thread rtm t = option_flatten (slice_get rtm.threads t)

abbrev pub with_thread : {C : Type 0} → RtmParts C → ℕ → Option (Transaction C) → RtmParts C
with_thread rtm t tx = record rtm { threads = slice_set rtm.threads t tx }

-- ---- what a thread sees

abbrev pub seen_in : {C : Type 0} → Option (Transaction C) → Memory → Memory
seen_in None mem = mem
seen_in (Some tx) mem = seen_through tx.footprint mem

abbrev pub seen_by : {C : Type 0} → RtmParts C → ℕ → Memory
seen_by rtm t = seen_in (thread rtm t) rtm.memory

-- ---- begin, end and abort

abbrev pub begun : {C : Type 0} → RtmParts C → ℕ → C → RtmParts C
begun rtm t kept = with_thread rtm t (Some (record { kept = kept; footprint = nothing_touched }))

abbrev pub kept_of : {C : Type 0} → Option (Transaction C) → Option C
kept_of tx = option_map (λ tx. tx.kept) tx

-- what its thread saw becomes memory
abbrev pub committed : {C : Type 0} → RtmParts C → ℕ → RtmParts C
committed rtm t = record (with_thread rtm t None) { memory = seen_by rtm t }

-- what it did is forgotten
abbrev pub aborted : {C : Type 0} → RtmParts C → ℕ → RtmParts C
aborted rtm t = with_thread rtm t None

-- ---- conflicts

abbrev pub meets : {C : Type 0} → Touch → Option (Transaction C) → Bool
meets touch None = false
meets touch (Some tx) = conflicts touch tx.footprint

-- the access of thread t aborts the transaction of thread u
abbrev pub strikes : {C : Type 0} → ℕ → Touch → ℕ → Option (Transaction C) → Bool
strikes t touch u tx = not (nat_eq u t) && meets touch tx

abbrev pub none_if : {A : Type 0} → Bool → Option A → Option A
none_if true x = None
none_if false x = x

-- the threads from u on once those that conflict were aborted
abbrev pub spared_from : {C : Type 0} → ℕ → Touch → ℕ → List (Option (Transaction C)) → List (Option (Transaction C))
spared_from t touch u [] = []
spared_from t touch u (tx ∷ txs) = none_if (strikes t touch u tx) tx ∷ spared_from t touch (suc u) txs

-- which they are, each with what it kept
abbrev pub joined_if : {C : Type 0} → Bool → ℕ → Option C → List (ℕ × C) → List (ℕ × C)
joined_if true u (Some kept) others = (u, kept) ∷ others
joined_if true u None others = others
joined_if false u kept others = others

abbrev pub struck_from : {C : Type 0} → ℕ → Touch → ℕ → List (Option (Transaction C)) → List (ℕ × C)
struck_from t touch u [] = []
struck_from t touch u (tx ∷ txs) = joined_if (strikes t touch u tx) u (kept_of tx) (struck_from t touch (suc u) txs)

abbrev pub spared : {C : Type 0} → RtmParts C → ℕ → Touch → RtmParts C
spared rtm t touch = record rtm { threads = spared_from t touch 0 rtm.threads }

abbrev pub struck : {C : Type 0} → RtmParts C → ℕ → Touch → List (ℕ × C)
struck rtm t touch = struck_from t touch 0 rtm.threads

-- ---- accesses

-- whether an access of a thread is done, or why nothing changes
pub data Entry : Type 0 where
  Invalid : Entry
  Full : Entry
  Entered : Entry

abbrev pub has_room_in : {C : Type 0} → Touch → Option (Transaction C) → Bool
has_room_in touch None = true
has_room_in touch (Some tx) = has_room touch tx.footprint

abbrev pub entry_if : Bool → Bool → Entry
entry_if false room = Invalid
entry_if true false = Full
entry_if true true = Entered

abbrev pub entry_of : {C : Type 0} → RtmParts C → ℕ → Touch → Entry
entry_of rtm t touch = entry_if (is_valid rtm.memory.places touch.address touch.size) (has_room_in touch (thread rtm t))

-- the access is done: in memory outside, and inside among what the transaction touched
abbrev pub done_in : {C : Type 0} → RtmParts C → ℕ → Touch → Option Store → Option (Transaction C) → RtmParts C
done_in rtm t touch store None = record rtm { memory = memory_with store rtm.memory }
done_in rtm t touch store (Some tx) = with_thread rtm t (Some (record tx { footprint = touched_by touch store tx.footprint }))

abbrev pub done : {C : Type 0} → RtmParts C → ℕ → Touch → Option Store → RtmParts C
done rtm t touch store = done_in (spared rtm t touch) t touch store (thread rtm t)

-- memory and transactions after an access, and whom it aborted
abbrev pub after : {C : Type 0} → Entry → RtmParts C → ℕ → Touch → Option Store → RtmParts C
after Invalid rtm t touch store = rtm
after Full rtm t touch store = rtm
after Entered rtm t touch store = done rtm t touch store

abbrev pub aborts_at : {C : Type 0} → Entry → RtmParts C → ℕ → Touch → List (ℕ × C)
aborts_at Invalid rtm t touch = []
aborts_at Full rtm t touch = []
aborts_at Entered rtm t touch = struck rtm t touch

-- the word that is read
abbrev pub word_seen : {C : Type 0} → RtmParts C → ℕ → ℕ → ℕ → ℕ
word_seen rtm t address size = peek (seen_by rtm t) address size
