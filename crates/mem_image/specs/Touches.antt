-- What an access touches of memory, and what it stores there.
--
-- Choice: an access touches one range of bytes, which it reads, writes or both.
use Rattle.std.specs.Prelude.{ℕ, Bool, Option, Some, None}
use Rattle.mem_image.specs.Bytes.{Memory, poke}

-- bytes of memory that are read, written or both
pub record Touch : Type 0 where
  pub address : ℕ
  pub size : ℕ
  pub reads : Bool
  pub writes : Bool

-- a word that comes to stand in so many bytes
pub record Store : Type 0 where
  pub address : ℕ
  pub size : ℕ
  pub word : ℕ

-- once a word was stored, in whatever a word is stored so
abbrev pub stored_with : {V : Type 0} → (V → ℕ → ℕ → ℕ → V) → Option Store → V → V
stored_with stored None view = view
stored_with stored (Some store) view = stored view store.address store.size store.word

abbrev pub memory_with : Option Store → Memory → Memory
memory_with store mem = stored_with poke store mem
