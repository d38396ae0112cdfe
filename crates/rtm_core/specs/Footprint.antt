-- What a transaction has read and written, by lines; when another thread's access conflicts with it; and when its lists are full (Intel 64
-- and IA-32 Architectures Software Developer's Manual, volume 1, 'Programming with Intel Transactional Synchronization Extensions': read
-- set, write set, 'RTM Abort Status Definition').
--
-- Choices, the tool's own: the requester of a conflicting access wins, and the other transaction aborts at once. At most 8192 lines
-- are read and 512 written. An atomic update reads and writes. Whether the other thread is in a transaction makes no difference.
use Rattle.std.specs.Prelude.{ℕ, Bool, true, false, not, ◌&&◌, ◌||◌, List, [], Option}
use Rattle.mem_image.specs.Bytes.{Memory}
use Rattle.mem_image.specs.Lines.{Line, line_of, numbers, lines_after, written_in}
use Rattle.mem_image.specs.Touches.{Touch, Store}
use Rattle.mem_image.specs.Views.{Written, view}
use Rattle.line_sets.specs.Sets.{has, with_member, takes}

abbrev pub read_limit : ℕ
read_limit = 8192

abbrev pub write_limit : ℕ
write_limit = 512

-- the lines that were read; the lines that were written, each with the bytes that were written in it
pub record Footprint : Type 0 where
  pub read_set : List ℕ
  pub write_set : List Line

abbrev pub nothing_touched : Footprint
nothing_touched = record { read_set = []; write_set = [] }

abbrev pub written_lines : Footprint → List ℕ
written_lines footprint = numbers footprint.write_set

-- what it wrote, and memory as its thread sees it
abbrev pub written_by : Footprint → Written
written_by footprint = written_in footprint.write_set

abbrev pub seen_through : Footprint → Memory → Memory
seen_through footprint mem = view mem (written_by footprint)

-- ---- conflicts

-- an access of another thread conflicts where it reads a line that was written, or writes one that was read or written
abbrev pub conflicts : Touch → Footprint → Bool
conflicts touch footprint =
    (touch.reads && has (written_lines footprint) (line_of touch.address))
    || (touch.writes && (has footprint.read_set (line_of touch.address) || has (written_lines footprint) (line_of touch.address)))

-- ---- its own accesses

-- each list that must take the line of an access takes it
abbrev pub has_room : Touch → Footprint → Bool
has_room touch footprint =
    (not touch.reads || takes read_limit footprint.read_set (line_of touch.address))
    && (not touch.writes || takes write_limit (written_lines footprint) (line_of touch.address))

abbrev pub read_after : Bool → List ℕ → ℕ → List ℕ
read_after true lines line = with_member lines line
read_after false lines line = lines

-- once it has done an access, which may store a word
abbrev pub touched_by : Touch → Option Store → Footprint → Footprint
touched_by touch store footprint = record {
  read_set = read_after touch.reads footprint.read_set (line_of touch.address);
  write_set = lines_after touch store footprint.write_set;
}
