-- What the calls of memory under transactions answer (Intel 64 and IA-32 Architectures Software Developer's Manual, volume 1, 'Programming
-- with Intel Transactional Synchronization Extensions': 'RTM Abort Status Definition').
--
-- Choice: a conflict aborts with status 6, that is, a retry may succeed (bit 1) and another thread's access conflicted (bit 2).
use Rattle.std.specs.Prelude.{ℕ, ◌<◌, true, false, List, [], ◌∷◌, map, Option, Some, None, refl}
use Rattle.std.specs.Coded.{Coded, code_by, coded×, coded_list, coded_option}
use Rattle.std.specs.Option.{option_map}
use Rattle.ir_layout.specs.Memory.{thread_limit}
use Rattle.mem_image.specs.Accesses.{bytes}
use Rattle.mem_image.specs.Bytes.{Memory}
use Rattle.mem_image.specs.Touches.{Touch, Store}
use Rattle.rtm_core.specs.declared.Aborted.{Aborted}
use Rattle.rtm_core.specs.declared.Access.{Access}
use Rattle.rtm_core.specs.declared.Got.{Got}
use Rattle.rtm_core.specs.declared.Got.TheVariants.{Value, Trap, Overflow}
use Rattle.rtm_core.specs.Footprint.{Footprint, touched_by}
use Rattle.rtm_core.specs.Transactions.{Transaction, RtmParts, Entry}
use Rattle.rtm_core.specs.Transactions.Entry.{Invalid, Full, Entered}

-- ---- what code keeps

abbrev pub transaction_code : {C : Type 0} → Coded Footprint → Coded C → Coded (Transaction C)
transaction_code {C} footprint code = code_by (C × Footprint) (coded× code footprint) (λ tx. (tx.kept, tx.footprint)) (λ p. record { kept = p.0; footprint = p.1 }) (λ _. refl)

abbrev pub rtm_code : {C : Type 0} → Coded Memory → Coded Footprint → Coded C → Coded (RtmParts C)
rtm_code {C} memory footprint code = code_by (Memory × List (Option (Transaction C))) (coded× memory (coded_list (coded_option (transaction_code footprint code))))
    (λ rtm. (rtm.memory, rtm.threads)) (λ p. record { memory = p.0; threads = p.1 }) (λ _. refl)

-- ---- accesses

-- what an access touches, and what it stores
abbrev pub touch_of : Access → Touch
touch_of access = record { address = access.addr; size = bytes access.size; reads = access.reads; writes = access.writes }

abbrev pub store_at : ℕ → ℕ → Option ℕ → Option Store
store_at address size word = option_map (λ word. record { address = address; size = size; word = word }) word

abbrev pub store_of : Access → Option ℕ → Option Store
store_of access word = store_at access.addr (bytes access.size) word

abbrev pub reading : ℕ → ℕ → Touch
reading address size = record { address = address; size = size; reads = true; writes = false }

abbrev pub writing : ℕ → ℕ → Touch
writing address size = record { address = address; size = size; reads = false; writes = true }

abbrev pub updating : ℕ → ℕ → Touch
updating address size = record { address = address; size = size; reads = true; writes = true }

-- a transaction once it has done an access, which may store a word
abbrev pub touched_in : {C : Type 0} → Touch → Option Store → Option (Transaction C) → Option (Transaction C)
touched_in touch store None = None
touched_in touch store (Some tx) = Some (record tx { footprint = touched_by touch store tx.footprint })

-- the answer of an access, with its word where it was done
abbrev pub got_of : Entry → ℕ → Got
got_of Invalid word = Trap
got_of Full word = Overflow
got_of Entered word = Value word

-- ---- aborts

abbrev pub conflict_status : ℕ
conflict_status = 6

abbrev pub aborted_with : {C : Type 0} → ℕ → ℕ × C → Aborted C
aborted_with status thread = record { tid = record { 0 = thread.0 }; status = status; keep = thread.1 }

abbrev pub conflict_aborts : {C : Type 0} → List (ℕ × C) → List (Aborted C)
conflict_aborts threads = map (aborted_with conflict_status) threads

-- each is a thread
abbrev pub AreThreads : {C : Type 0} → List (Aborted C) → Type 0
AreThreads [] = Unit {0}
AreThreads (a ∷ rest) = (a.tid.0 < thread_limit) × AreThreads rest
