-- What a thread's place shows of its fields.
use Rattle.std.proofs.Common.{◌≡◌, ◌∙◌, ℕ, ◌+◌, ◌%◌, ◌<◌, ◌≤◌, Bool, true, false, not, ◌&&◌, ◌||◌, List, [], length, Option, Some, None, is_some, get_or, refl, sym, ap, arith}
use Rattle.std.specs.Prelude.{unwrap_or, if◌then◌else◌}
use Rattle.std.specs.Option.{option_map}
use Rattle.byteorder.specs.Endian.{little_number}
use Rattle.ir_layout.specs.Memory.{is_valid}
use Rattle.line_sets.specs.Sets.{has, takes, place_in}
use Rattle.mem_image.specs.Agreement.{byte_at}
use Rattle.mem_image.specs.Bytes.{Memory, IsWhole, bytes_of, peek, read_of}
use Rattle.mem_image.specs.Lines.{line_of, line_size, is_open, written_in}
use Rattle.mem_image.specs.Touches.{Touch}
use Rattle.mem_image.specs.Views.{overlaid, view}
use Rattle.mem_image.proofs.AccessLines.{same-line, within-line}
use Rattle.mem_image.proofs.Agreement.{peek-agrees}
use Rattle.mem_image.proofs.SeenBytes.{seen-word}
use Rattle.mem_image.proofs.Views.{view-byte}
use Rattle.rtm_core.specs.Footprint.{read_limit, write_limit}
use Rattle.rtm_core.specs.Transactions.{Transaction, meets, has_room_in, seen_in}
use Rattle.rtm_core.specs.code.Slots.{lines_of, held_in, HasBuffers, transaction_of}
use Rattle.rtm_core.proofs.LineLists.{Buffers, is-first, numbers-of, open-has, bytes-at, bytes-none}

pub few-lines : (ws : List ℕ) (bs : Buffers) → HasBuffers ws bs → length ws ≤ length bs
few-lines ws bs all = omega (arith, all.count, all.few)

module _ {C : Type 0} where
  pub meets-of : (keep : Option C) (reads ws : List ℕ) (bs : Buffers) (touch : Touch) → HasBuffers ws bs → is_some keep ≡ true
      → ((touch.reads && has ws (line_of touch.address)) || (touch.writes && (has reads (line_of touch.address) || has ws (line_of touch.address)))) ≡ meets touch (transaction_of keep reads ws bs)
  meets-of None reads ws bs touch all inside = cc
  meets-of (Some kept) reads ws bs touch all inside =
      ap (λ (ns : List ℕ). (touch.reads && has ns (line_of touch.address)) || (touch.writes && (has reads (line_of touch.address) || has ns (line_of touch.address)))) (sym (numbers-of ws bs (few-lines ws bs all)))

  pub room-of : (keep : Option C) (reads ws : List ℕ) (bs : Buffers) (touch : Touch) → HasBuffers ws bs → is_some keep ≡ true
      → ((not touch.reads || takes read_limit reads (line_of touch.address)) && (not touch.writes || takes write_limit ws (line_of touch.address))) ≡ has_room_in touch (transaction_of keep reads ws bs)
  room-of None reads ws bs touch all inside = cc
  room-of (Some kept) reads ws bs touch all inside =
      ap (λ (ns : List ℕ). (not touch.reads || takes read_limit reads (line_of touch.address)) && (not touch.writes || takes write_limit ns (line_of touch.address))) (sym (numbers-of ws bs (few-lines ws bs all)))

  -- ---- a word is read

  pub read-unwritten : (mem : Memory) (keep : Option C) (reads ws : List ℕ) (bs : Buffers) (a n : ℕ) → IsWhole mem → is_valid mem.places a n ≡ true → HasBuffers ws bs
      → has ws (line_of a) ≡ false → read_of mem a n ≡ read_of (seen_in (transaction_of keep reads ws bs) mem) a n
  read-unwritten mem None reads ws bs a n whole valid all none = refl
  read-unwritten mem (Some kept) reads ws bs a n whole valid all none =
      ap (λ (word : ℕ). if is_valid mem.places a n then Some word else None) (peek-agrees mem (view mem (written_in (lines_of ws bs))) a n whole valid same)
    where
      unseen : (at : ℕ) → written_in (lines_of ws bs) at ≡ None → (old : Option ℕ) → old ≡ option_map (unwrap_or (written_in (lines_of ws bs) at)) old
      unseen at e None = refl
      unseen at e (Some byte) = ap (λ (o : Option ℕ). Some (unwrap_or o byte)) (sym e)

      same : (k : ℕ) → k < n → byte_at mem (a + k) ≡ byte_at (view mem (written_in (lines_of ws bs))) (a + k)
      same k less =
          let line : line_of (a + k) ≡ line_of a = same-line mem.places a n k valid less in
          let off : is_open (lines_of ws bs) (line_of (a + k)) ≡ false = open-has ws bs (line_of (a + k)) (few-lines ws bs all) ∙ ap (has ws) line ∙ none in
          unseen (a + k) (bytes-none (lines_of ws bs) (a + k) off) (byte_at mem (a + k)) ∙ sym (view-byte mem (written_in (lines_of ws bs)) (a + k))

module _ {C : Type 0} where
  pub read-buffered : (mem : Memory) (keep : Option C) (reads ws : List ℕ) (bs : Buffers) (buffer : List (Option ℕ)) (a n i : ℕ) (old : List ℕ) → IsWhole mem → is_valid mem.places a n ≡ true → HasBuffers ws bs
      → is_some keep ≡ true → place_in ws (line_of a) ≡ Some i → Some old ≡ bytes_of mem a n → buffer ≡ get_or bs i []
      → Some (little_number (length old) (overlaid (held_in buffer) (a % line_size) old)) ≡ read_of (seen_in (transaction_of keep reads ws bs) mem) a n
  read-buffered mem None reads ws bs buffer a n i old whole valid all inside place e is = cc
  read-buffered mem (Some kept) reads ws bs buffer a n i old whole valid all inside place e is =
      ap Some (seen-word mem (written_in (lines_of ws bs)) (held_in buffer) a (a % line_size) n old whole valid e held)
      ∙ sym (ap (λ (t : Bool). if t then Some (peek (view mem (written_in (lines_of ws bs))) a n) else None) valid)
    where
      held : (k : ℕ) → k < n → written_in (lines_of ws bs) (a + k) ≡ held_in buffer (a % line_size + k)
      held k less =
          let line : line_of (a + k) ≡ line_of a = same-line mem.places a n k valid less in
          let fits : a % line_size + n ≤ line_size = within-line mem.places a n valid in
          let at : (a + k) % line_size ≡ a % line_size + k = omega (arith, fits, less) in
          bytes-at ws bs (line_of a) i (a + k) (few-lines ws bs all) (is-first ws (line_of a) i place) line
          ∙ ap (λ (b : List (Option ℕ)). held_in b ((a + k) % line_size)) (sym is) ∙ ap (held_in buffer) at

  pub seen-same : (mem : Memory) (a n : ℕ) (s t : Option (Transaction C)) → s ≡ t → read_of (seen_in s mem) a n ≡ read_of (seen_in t mem) a n
  seen-same mem a n s t e = ap (λ (tx : Option (Transaction C)). read_of (seen_in tx mem) a n) e

pub and-right : (b c : Bool) → (b && c) ≡ true → c ≡ true
and-right true c e = e
and-right false c e = absurd cc
