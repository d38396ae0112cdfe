-- Locality: what an action that a thread does alone depends on, and what it changes.
use Rattle.std.specs.Prelude.{ℕ, ◌≡◌, true, false, Option, Some, None}
use Rattle.ir_layout.specs.Memory.{is_valid}
use Rattle.mem_image.specs.Accesses.{bytes, overlap}
use Rattle.mem_image.specs.Bytes.{Memory, peek}
use Rattle.inst_meaning.specs.declared.actions.Place.{Place}
use Rattle.inst_meaning.specs.declared.actions.Access.{Access}
use Rattle.inst_meaning.specs.declared.actions.Action.{Action}
use Rattle.inst_meaning.specs.Accesses.{place_of}

-- the memories have the same word at a place
abbrev pub AgreeAt : Memory → Memory → Option Place → Type 0
AgreeAt a b None = Unit {0}
AgreeAt a b (Some place) = peek a place.address (bytes place.size) ≡ peek b place.address (bytes place.size)

-- two memories are alike for an action: it finds the same word there, and the same accesses are valid
pub record AreAlike (a b : Memory) (action : Action) : Type 0 where
  pub places : a.places ≡ b.places
  pub word : AgreeAt a b (place_of action)

-- the bytes share none with what an access writes
abbrev pub IsApart : Option Access → ℕ → ℕ → Type 0
IsApart None address n = Unit {0}
IsApart (Some access) address n = access.writes ≡ true → overlap access.addr (bytes access.size) address n ≡ false

-- the place is valid
abbrev pub IsValidAt : Memory → Option Place → Type 0
IsValidAt mem None = Unit {0}
IsValidAt mem (Some place) = is_valid mem.places place.address (bytes place.size) ≡ true
