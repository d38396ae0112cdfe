-- How a set finds its members: each bucket names the latest of its members by its place plus one, and each member the one before it in
-- its bucket; 0 names none.
use Rattle.std.specs.Prelude.{◌≡◌, ℕ, zero, suc, ◌<◌, ◌≤◌, ◌%◌, max, nat_eq, List, length, slice_index, if◌then◌else◌}
use Rattle.line_sets.specs.Sets.{NoRepeats}

-- how many buckets a set of at most so many members has
abbrev pub buckets : ℕ → ℕ
buckets most = max most 1

-- the latest in a bucket of n, among the first k members
abbrev pub latest : ℕ → ℕ → List ℕ → ℕ → ℕ
latest n b members zero = 0
latest n b members (suc k) = if nat_eq (slice_index members k % n) b then suc k else latest n b members k

-- these places name the latest of each of n buckets, and those the one before each member
pub record AreChains (n : ℕ) (members heads links : List ℕ) : Type 0 where
  pub all_heads : length heads ≡ n
  pub all_links : length links ≡ length members
  pub each_head : (b : ℕ) → b < n → slice_index heads b ≡ latest n b members (length members)
  pub each_link : (k : ℕ) → k < length members → slice_index links k ≡ latest n (slice_index members k % n) members k
  pub distinct : NoRepeats members

-- a set of at most so many members, with the room that its lists have
pub record IsSet (most room link_room : ℕ) (members heads links : List ℕ) : Type 0 where
  pub enough : most ≤ room
  pub enough_links : most ≤ link_room
  pub count : length members ≤ most
  pub chains : AreChains (buckets most) members heads links
