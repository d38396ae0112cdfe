-- Mutexes that a transaction watches in place of locking them (Intel 64 and IA-32 Architectures Software Developer's Manual, volume 1,
-- 'Programming with Intel Transactional Synchronization Extensions': lock elision).
--
-- Choices, the tool's own: a transaction watches at most 16 addresses. It holds those that it locked and hasn't unlocked, the latest first; it
-- watches one still after it unlocked it.
use Rattle.std.specs.Prelude.{◌≡◌, ℕ, ◌≤◌, length, Bool, true, false, not, ◌&&◌, nat_eq, List, [], ◌∷◌, slice_index_or}
use Rattle.std.specs.List.{filter}
use Rattle.line_sets.specs.Sets.{has, with_member, takes}

abbrev pub watch_limit : ℕ
watch_limit = 16

abbrev pub without : List ℕ → ℕ → List ℕ
without members n = filter (λ member. not (nat_eq n member)) members

-- the addresses that a thread watches, and those among them that it holds
pub record WatchParts : Type 0 where
  pub watched : List ℕ
  pub held : List ℕ

abbrev pub nothing_watched : WatchParts
nothing_watched = record { watched = []; held = [] }

-- ---- lock and unlock

abbrev pub can_lock : WatchParts → ℕ → Bool
can_lock w address = not (has w.held address) && takes watch_limit w.watched address

abbrev pub once_locked : WatchParts → ℕ → WatchParts
once_locked w address = record { watched = with_member w.watched address; held = address ∷ w.held }

abbrev pub can_unlock : WatchParts → ℕ → Bool
can_unlock w address = has w.held address

abbrev pub once_unlocked : WatchParts → ℕ → WatchParts
once_unlocked w address = record w { held = without w.held address }

abbrev pub is_some_held : List ℕ → Bool
is_some_held [] = false
is_some_held (address ∷ held) = true

-- ---- each thread's

abbrev pub watch_of : List WatchParts → ℕ → WatchParts
watch_of watches t = slice_index_or watches t nothing_watched

-- what always holds: few are watched, and an address that is held is watched, and held once
abbrev pub AreDistinct : List ℕ → Type 0
AreDistinct [] = Unit {0}
AreDistinct (address ∷ held) = (has held address ≡ false) × AreDistinct held

pub record AreWatched (watched held : List ℕ) : Type 0 where
  pub few : length watched ≤ watch_limit
  pub distinct : AreDistinct held
  pub among : (address : ℕ) → has held address ≡ true → has watched address ≡ true
