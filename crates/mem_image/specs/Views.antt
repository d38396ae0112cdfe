-- Memory as the thread of a transaction sees it: what the thread wrote stands for it in place of what memory holds, until the transaction
-- ends (Intel 64 and IA-32 Architectures Software Developer's Manual, volume 1, 'Programming with Intel Transactional Synchronization
-- Extensions').
--
-- Choice: at each address one byte was written or none was, whatever was written there before; so what was written is a function of
-- addresses.
use Rattle.std.specs.Prelude.{ℕ, suc, ◌-◌, Bool, true, false, nat_le, nat_eq, List, [], ◌∷◌, Option, Some, None, slice_get, unwrap_or}
use Rattle.std.specs.Option.{option_or}
use Rattle.byteorder.specs.Endian.{little_bytes}
use Rattle.ir_layout.specs.Memory.{globals_start, stacks_start, heap_start}
use Rattle.mem_image.specs.Bytes.{Memory}

-- ---- what was written

abbrev pub Written : Type 0
Written = ℕ → Option ℕ

abbrev pub nothing_written : Written
nothing_written at = None

abbrev pub only_if : {A : Type 0} → Bool → Option A → Option A
only_if true x = x
only_if false x = None

-- the byte that stands at an address where a word stands in the n bytes from a on
abbrev pub byte_of : ℕ → ℕ → ℕ → ℕ → Option ℕ
byte_of a n word at = only_if (nat_le a at) (slice_get (little_bytes n word) (at - a))

-- one byte is written, at an address
abbrev pub one_byte : ℕ → ℕ → Written
one_byte address byte at = only_if (nat_eq at address) (Some byte)

-- a word is written besides
abbrev pub stored : Written → ℕ → ℕ → ℕ → Written
stored written a n word at = option_or (byte_of a n word at) (written at)

-- ---- what is seen

-- the bytes from an address on, with those that were written in place of what was there
abbrev pub overlaid : Written → ℕ → List ℕ → List ℕ
overlaid written at [] = []
overlaid written at (old ∷ olds) = unwrap_or (written at) old ∷ overlaid written (suc at) olds

abbrev pub view : Memory → Written → Memory
view mem written = record mem {
  globals = overlaid written globals_start mem.globals;
  stacks = overlaid written stacks_start mem.stacks;
  heap = overlaid written heap_start mem.heap;
}
