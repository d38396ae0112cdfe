-- What actions read and write (LLVM Language Reference, 'Memory Model for Concurrent Operations', 'atomicrmw Instruction',
-- 'cmpxchg Instruction').
--
-- Choices: an update is one read and one write, and counts as a write, also where the word stays. The result of an exchange on
-- words of w bits is the old word, and 2^w more where the word became the desired one. A new thread's number is stored as a
-- plain word where there is room for a thread.
use Rattle.std.specs.Prelude.{ℕ, ◌≡◌, ◌+◌, ◌*◌, ◌^◌, ◌<◌, ◌==◌, ◌&&◌, ◌||◌, not, nat_lt, Bool, true, false, Option, Some, None, if◌then◌else◌}
use Rattle.ir_core.specs.declared.types.Width.{Width}
use Rattle.op_table.specs.Operators.{bits, updated as combined}
use Rattle.ir_layout.specs.Memory.{thread_limit}
use Rattle.mem_image.specs.declared.sizes.Size.TheVariants.{S8}
use Rattle.mem_image.specs.Accesses.{bytes, overlap}
use Rattle.mem_image.specs.Bytes.{Memory, peek, poke}
use Rattle.inst_meaning.specs.declared.actions.Place.{Place}
use Rattle.inst_meaning.specs.declared.actions.Update.{Update as Updates}
use Rattle.inst_meaning.specs.declared.actions.Update.TheVariants.{Combine, Exchange}
use Rattle.inst_meaning.specs.declared.actions.Action.{Action}
use Rattle.inst_meaning.specs.declared.actions.Action.TheVariants.{Read, Write, Update, Create}
use Rattle.inst_meaning.specs.declared.actions.Access.{Access}

-- ---- updates

-- the word that stands there then
abbrev pub updated : Updates → ℕ → ℕ
updated (Combine op w argument) old = combined op (bits w) old argument
updated (Exchange w expected desired) old = if old == expected then desired else old

-- the result
abbrev pub found : Updates → ℕ → ℕ
found (Combine op w argument) old = old
found (Exchange w expected desired) old = if old == expected then old + 2 ^ bits w else old

-- the words of an update, and the one that stands there before it, have its width
abbrev pub Fits : Updates → ℕ → Type 0
Fits (Combine op w argument) old = (old < 2 ^ bits w) × (argument < 2 ^ bits w)
Fits (Exchange w expected desired) old = (old < 2 ^ bits w) × (desired < 2 ^ bits w)

-- the word has the width of an update's words
abbrev pub IsWordOf : Updates → ℕ → Type 0
IsWordOf (Combine op w argument) n = n < 2 ^ bits w
IsWordOf (Exchange w expected desired) n = n < 2 ^ bits w

-- the words of an action that writes have as many bits as its place
abbrev pub IsAt : Place → Width → Type 0
IsAt place w = bits w ≡ 8 * bytes place.size

abbrev pub IsFittingUpdate : Place → Updates → Type 0
IsFittingUpdate place (Combine op w argument) = IsAt place w × (argument < 2 ^ bits w)
IsFittingUpdate place (Exchange w expected desired) = IsAt place w × (desired < 2 ^ bits w)

abbrev pub IsFitting : Action → Type 0
IsFitting (Write place n atomic) = n < 2 ^ (8 * bytes place.size)
IsFitting (Update place update) = IsFittingUpdate place update
IsFitting other = Unit {0}

-- ---- accesses

-- the place that an action reads or writes by itself
abbrev pub place_of : Action → Option Place
place_of (Read place atomic) = Some place
place_of (Write place n atomic) = Some place
place_of (Update place update) = Some place
place_of other = None

abbrev pub access_at : Place → Bool → Bool → Access
access_at place writes atomic = record { addr = place.address; size = place.size; writes = writes; atomic = atomic }

-- the store of a new thread's number, where so many threads were made
abbrev pub number_store : Bool → ℕ → Option Access
number_store true address = Some (record { addr = address; size = S8; writes = true; atomic = false })
number_store false address = None

-- the access to memory that an action makes, where so many threads were made
abbrev pub access_of : ℕ → Action → Option Access
access_of made (Read place atomic) = Some (access_at place false atomic)
access_of made (Write place n atomic) = Some (access_at place true atomic)
access_of made (Update place update) = Some (access_at place true true)
access_of made (Create address n argument) = number_store (nat_lt made thread_limit) address
access_of made other = None

-- two accesses overlap, one of them writes, and one isn't atomic
abbrev pub clash : Access → Access → Bool
clash a b = overlap a.addr (bytes a.size) b.addr (bytes b.size) && (a.writes || b.writes) && not (a.atomic && b.atomic)

-- ---- memory

-- the word that an action finds in memory, where it reads
abbrev pub word_read : Memory → Action → ℕ
word_read mem (Read place atomic) = peek mem place.address (bytes place.size)
word_read mem (Update place update) = peek mem place.address (bytes place.size)
word_read mem other = 0

-- the memory once a word was found
abbrev pub memory_after : Action → ℕ → Memory → Memory
memory_after (Write place n atomic) old mem = poke mem place.address (bytes place.size) n
memory_after (Update place update) old mem = poke mem place.address (bytes place.size) (updated update old)
memory_after other old mem = mem
