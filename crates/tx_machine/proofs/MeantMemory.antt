-- Checks of memory are those of the definitions.
use Rattle.std.proofs.Common.{ℕ, ◌≡◌, ◌∙◌, Bool, true, false, List, Option, Some, None, nat_eq, refl, ap, sym}
use Rattle.std.specs.Option.{is_some, option_map_or}
use Rattle.ir_core.specs.declared.types.Ty.{Ty}
use Rattle.ir_core.specs.declared.types.Width.{Width}
use Rattle.ir_core.specs.declared.types.Width.TheVariants.{W64}
use Rattle.ir_layout.specs.Memory.{is_valid}
use Rattle.mem_image.specs.Accesses.{bytes}
use Rattle.mem_image.specs.Bytes.{peek}
use Rattle.mem_image.specs.Touches.{Touch}
use Rattle.inst_meaning.specs.declared.actions.Place.{Place}
use Rattle.inst_meaning.specs.Action.{place_at}
use Rattle.inst_meaning.specs.Operands.{memory_width}
use Rattle.process.specs.declared.state.CallStack.{CallStack}
use Rattle.process.specs.declared.state.Thread.{Thread}
use Rattle.process.specs.declared.state.Thread.TheVariants.{Running}
use Rattle.process.specs.Outcome.{touch_at}
use Rattle.process.specs.State.{in_frame}
use Rattle.hard_ir.specs.declared.instruction.HVal.{HVal}
use Rattle.hard_ir.specs.Hardened.{HardParts}
use Rattle.hard_frames.specs.declared.outcome.Stop.TheVariants.{Trap}
use Rattle.hard_frames.specs.declared.state.Frame.{Frame}
use Rattle.hard_frames.specs.Frames.{passed, operand_word}
use Rattle.hard_frames.specs.Places.{place_text}
use Rattle.elide.specs.Watches.{WatchParts}
use Rattle.rtm_core.specs.Calls.{got_of}
use Rattle.rtm_core.specs.Footprint.{has_room, seen_through}
use Rattle.rtm_core.specs.Transactions as rtm
use Rattle.rtm_core.specs.Transactions.{Entry, entry_if, entry_of, seen_by, word_seen}
use Rattle.rtm_core.specs.Transactions.Entry.{Invalid, Full, Entered}
use Rattle.tx_runtime.specs.declared.words.Mode as runtime
use Rattle.tx_runtime.specs.declared.words.Mode.TheVariants.{Out, In, Plain}
use Rattle.hard_meaning.specs.State.{Transaction, Mode, Free, Inside, Worker, State, Upset, is_inside}
use Rattle.hard_meaning.specs.Aborts.{Status, Mismatch, Overflow, Other, aborted, spared}
use Rattle.hard_meaning.specs.Effects.{with_worker, where_room}
use Rattle.hard_meaning.specs.Turns.{halted, trapped, onward, matched, read_back, read_at, read_as, memory_checked}
use Rattle.tx_machine.specs.Own.{OwnParts, passed_thread}
use Rattle.tx_machine.specs.Joined.{joined_one, is_in}
use Rattle.tx_machine.specs.Core.{CoreParts, is_open, core_aborted, core_touched, touched_as}
use Rattle.tx_machine.specs.Turned.{sought_at, sought_as, sought_in, sought, met_as, found_as, seeking, memory_checked_as, core_memory_checked}
use Rattle.tx_machine.specs.Meant.{state_of, IsTied, StandsAt}
use Rattle.tx_machine.proofs.Meant.{thread-is, open-is}
use Rattle.tx_machine.proofs.MeantAborts.{in_mode, aborted-meant, aborted-tied, trapped-meant, trapped-tied}
use Rattle.tx_machine.proofs.MeantPasses.{passed-meant, passed-tied}
use Rattle.tx_machine.proofs.MeantEnds.{twice}
use Rattle.tx_machine.proofs.MeantTouches.{touched-tied}
use Rattle.tx_machine.proofs.MeantMatches.{mismatch-meant, mismatch-tied}
use Rattle.tx_machine.proofs.MeantAlone.{moved_on, moved_state, set-map}
use Rattle.tx_machine.proofs.MeantActions.{moved, moved_own, moved-stands, moved-tied, moved-meant, moved-worker, done-q}
use Rattle.tx_machine.proofs.MeantWatches.{tx_of}

-- ---- in the definitions

-- an abort forgets that its thread has moved on
back-in : (status : Status) (m : Mode) (s : State) (t : ℕ) (w : Worker) (thread : Thread Frame) → is_inside m ≡ true
    → with_worker (moved_state s t (record w { mode = m }) false thread) t (aborted status (moved_on s t (record w { mode = m }) false thread))
    ≡ with_worker s t (aborted status (record w { mode = m }))
back-in status (Free plain) s t w thread e = cc
back-in status (Inside tx) s t w thread e =
    let v : Worker = record w { mode = Inside tx } in
    twice s t (moved_on s t v false thread) (aborted status v)

matched-in : (m : Mode) (s : State) (t : ℕ) (w : Worker) (thread : Thread Frame) (stack : CallStack Frame) (touch : Touch) → is_inside m ≡ true
    → matched (moved_state s t (record w { mode = m }) false thread) t (moved_on s t (record w { mode = m }) false thread) stack touch false
    ≡ matched s t (record w { mode = m }) stack touch false
matched-in (Free plain) s t w thread stack touch e = cc
matched-in (Inside tx) s t w thread stack touch e =
    let v : Worker = record w { mode = Inside tx } in
    ap (λ (ws : List Worker). record s { workers = ws })
    (set-map (spared (record { touch = Some touch; mutex = None })) s.workers t (moved_on s t v false thread) (aborted Mismatch v))

inside-of : (mode : runtime.Mode) (w : OwnParts) (tx : rtm.Transaction (CallStack Frame)) (k : WatchParts) → true ≡ is_in mode
    → (joined_one (in_mode mode w) (Some tx) k).mode ≡ Inside (tx_of w tx k)
inside-of Out w tx k e = cc
inside-of Plain w tx k e = cc
inside-of In w tx k e = refl

free-checked : (h : HardParts) (s : State) (t : ℕ) (mode : runtime.Mode) (w : OwnParts) (k : WatchParts) (stack : CallStack Frame) (ty : Ty) (ptr val : HVal)
    → with_worker s t (onward (joined_one (in_mode mode w) None k) stack)
    ≡ memory_checked h s t (joined_one (in_mode mode w) None k) stack ty ptr val (joined_one (in_mode mode w) None k).mode
free-checked h s t Out w k stack ty ptr val = refl
free-checked h s t In w k stack ty ptr val = refl
free-checked h s t Plain w k stack ty ptr val = refl

-- ---- a word is read inside

module _ (p : CoreParts) (t : ℕ) (w : OwnParts) (x : Option (rtm.Transaction (CallStack Frame))) (k : WatchParts) (at : StandsAt p t w x k)
    (ups : List Upset) where
  -- the thread has passed
  abbrev q : CoreParts
  q = moved p t w x k at ups false passed_thread

  abbrev v : OwnParts
  v = moved_own p t w x k at ups false passed_thread

  q-stands : StandsAt q t v x k
  q-stands = moved-stands p t w x k at ups false passed_thread

  q-tied : IsTied p → IsTied q
  q-tied tied = moved-tied p t w x k at ups false passed_thread tied

  module _ (touch : Touch) (word : ℕ) where
    met-tied : (b : Bool) → IsTied p → IsTied (met_as b t (touched_as Entered touch None t q))
    met-tied true tied = touched-tied q t v x k q-stands ups touch None (q-tied tied)
    met-tied false tied = mismatch-tied q t v x k q-stands ups touch (q-tied tied)

    found-tied : (entry : Entry) (n : ℕ) → IsTied p → IsTied (found_as (got_of entry n) word t (touched_as entry touch None t q))
    found-tied Invalid n tied = aborted-tied q t v x k q-stands ups Other (q-tied tied)
    found-tied Full n tied = aborted-tied q t v x k q-stands ups Overflow (q-tied tied)
    found-tied Entered n tied = met-tied (nat_eq n word) tied

  seeking-tied : (o : Option (Place × ℕ)) → IsTied p → IsTied (seeking o t p)
  seeking-tied None tied = trapped-tied p t w x k at ups tied
  seeking-tied (Some (place, word)) tied =
      found-tied (touch_at place true false) word (entry_of p.rtm t (touch_at place true false)) (word_seen p.rtm t place.address (bytes place.size)) tied

  checked-tied-by : (b : Bool) (ty : Ty) (ptr val : HVal) → IsTied p → IsTied (memory_checked_as b ty ptr val t p)
  checked-tied-by true ty ptr val tied = seeking-tied (sought p t ty ptr val) tied
  checked-tied-by false ty ptr val tied = passed-tied p t w x k at ups tied

  pub memory-tied : (ty : Ty) (ptr val : HVal) → IsTied p → IsTied (core_memory_checked ty ptr val t p)
  memory-tied ty ptr val tied = checked-tied-by (is_open p t) ty ptr val tied

-- where it runs
module _ (p : CoreParts) (t : ℕ) (w : OwnParts) (tx : rtm.Transaction (CallStack Frame)) (k : WatchParts) (at : StandsAt p t w (Some tx) k) (ups : List Upset)
    (stack : CallStack Frame) (runs : w.thread ≡ Running stack) where
  abbrev s : State
  s = state_of p ups

  abbrev one : Worker
  one = joined_one w (Some tx) k

  abbrev tx_here : Transaction
  tx_here = tx_of w tx k

  abbrev then_thread : Thread Frame
  then_thread = in_frame stack (passed stack.frame)

  abbrev r : CoreParts
  r = q p t w (Some tx) k at ups

  abbrev u : OwnParts
  u = v p t w (Some tx) k at ups

  r-stands : StandsAt r t u (Some tx) k
  r-stands = q-stands p t w (Some tx) k at ups

  mode-is : one.mode ≡ Inside tx_here
  mode-is = inside-of w.words.mode w tx k at.tied

  inside : is_inside one.mode ≡ true
  inside = ap is_inside mode-is

  r-meant : state_of r ups ≡ moved_state s t one false then_thread
  r-meant = moved-meant p t w (Some tx) k at ups false passed_thread ∙ ap (λ (th : Thread Frame). moved_state s t one false (passed_thread th)) runs

  u-is : joined_one u (Some tx) k ≡ moved_on s t one false then_thread
  u-is = moved-worker p t w (Some tx) k at ups false passed_thread ∙ ap (λ (th : Thread Frame). moved_on s t one false (passed_thread th)) runs

  aborted-r : (status : Status) → state_of (core_aborted status t r) ups ≡ with_worker s t (aborted status one)
  aborted-r status = aborted-meant r t u (Some tx) k r-stands ups status
      ∙ ap (λ (z : State). with_worker z t (aborted status (joined_one u (Some tx) k))) r-meant
      ∙ ap (λ (y : Worker). with_worker (moved_state s t one false then_thread) t (aborted status y)) u-is
      ∙ back-in status one.mode s t one then_thread inside

  trapped-r : state_of (core_aborted Other t r) ups ≡ trapped p.program s t one stack.frame
  trapped-r = aborted-r Other ∙ ap (λ (m : Mode). halted Other (Trap (record { 0 = t }) (place_text p.program stack.frame)) s t one m) (sym mode-is)

  module _ (touch : Touch) (word : ℕ) where
    met-by : (b : Bool) → state_of (met_as b t (touched_as Entered touch None t r)) ups ≡ matched s t one stack touch b
    met-by true = done-q p t w (Some tx) k at ups false passed_thread then_thread (ap passed_thread runs) touch None
    met-by false = mismatch-meant r t u (Some tx) k r-stands ups touch tx_here stack (inside-of w.words.mode u tx k at.tied)
        ∙ ap (λ (z : State). matched z t (joined_one u (Some tx) k) stack touch false) r-meant
        ∙ ap (λ (y : Worker). matched (moved_state s t one false then_thread) t y stack touch false) u-is
        ∙ matched-in one.mode s t one then_thread stack touch inside

    abbrev seen_word : ℕ
    seen_word = peek (seen_through tx.footprint p.rtm.memory) touch.address touch.size

    abbrev back_as : Bool → Bool → State
    back_as true room = where_room room s t one (matched s t one stack touch (nat_eq seen_word word))
    back_as false room = trapped p.program s t one stack.frame

    back-as : (b : Bool) → back_as b (has_room touch tx.footprint) ≡ read_back p.program s t one stack tx_here touch word b
    back-as true = refl
    back-as false = refl

    found-by : (valid room : Bool) → state_of (found_as (got_of (entry_if valid room) seen_word) word t (touched_as (entry_if valid room) touch None t r)) ups
        ≡ back_as valid room
    found-by false room = trapped-r
    found-by true false = aborted-r Overflow
    found-by true true = met-by (nat_eq seen_word word)

    matched-meant : state_of (found_as (got_of (entry_of p.rtm t touch) (word_seen p.rtm t touch.address touch.size)) word t (core_touched touch None t r)) ups
        ≡ read_back p.program s t one stack tx_here touch word (is_valid p.rtm.memory.places touch.address touch.size)
    matched-meant =
        let valid : Bool = is_valid p.rtm.memory.places touch.address touch.size in
        let f : Option (rtm.Transaction (CallStack Frame)) → State = λ o. state_of
        (found_as (got_of (entry_if valid (rtm.has_room_in touch o)) (peek (rtm.seen_in o p.rtm.memory) touch.address touch.size)) word t
        (touched_as (entry_if valid (rtm.has_room_in touch o)) touch None t r)) ups in
        ap f (thread-is p t w (Some tx) k at ups) ∙ found-by valid (has_room touch tx.footprint) ∙ back-as valid

  sought-by : (width : Width) (a b : Option ℕ) → state_of (seeking (sought_at width a b) t p) ups ≡ read_at p.program s t one stack tx_here width a b
  sought-by width (Some address) (Some n) = matched-meant (touch_at (place_at address width) true false) n
  sought-by width (Some address) None = trapped-meant p t w (Some tx) k at ups stack runs
  sought-by width None b = trapped-meant p t w (Some tx) k at ups stack runs

  module _ (ptr val : HVal) where
    width-by : (o : Option Width) → state_of (seeking (sought_as o p.program stack.frame ptr val) t p) ups ≡ read_as p.program s t one stack tx_here ptr val o
    width-by (Some width) = sought-by width (operand_word p.program stack.frame W64 ptr) (operand_word p.program stack.frame width val)
    width-by None = trapped-meant p t w (Some tx) k at ups stack runs

    sought-is : (ty : Ty) → sought p t ty ptr val ≡ sought_as (memory_width ty) p.program stack.frame ptr val
    sought-is ty = ap (λ (o : Option OwnParts). option_map_or (λ (y : OwnParts). sought_in p.program y.thread ty ptr val) o None) at.made
        ∙ ap (λ (th : Thread Frame). sought_in p.program th ty ptr val) runs

    inside-checked : (ty : Ty) → state_of (memory_checked_as true ty ptr val t p) ups ≡ memory_checked p.program s t one stack ty ptr val one.mode
    inside-checked ty = ap (λ (o : Option (Place × ℕ)). state_of (seeking o t p) ups) (sought-is ty)
        ∙ width-by (memory_width ty) ∙ ap (λ (m : Mode). memory_checked p.program s t one stack ty ptr val m) (sym mode-is)

-- ---- in either mode

module _ (p : CoreParts) (t : ℕ) (w : OwnParts) (k : WatchParts) (ups : List Upset) (stack : CallStack Frame) (runs : w.thread ≡ Running stack)
    (ty : Ty) (ptr val : HVal) where
  by-open : (x : Option (rtm.Transaction (CallStack Frame))) → StandsAt p t w x k → state_of (memory_checked_as (is_some x) ty ptr val t p) ups
      ≡ memory_checked p.program (state_of p ups) t (joined_one w x k) stack ty ptr val (joined_one w x k).mode
  by-open None at = passed-meant p t w None k at ups stack runs ∙ free-checked p.program (state_of p ups) t w.words.mode w k stack ty ptr val
  by-open (Some tx) at = inside-checked p t w tx k at ups stack runs ptr val ty

  pub memory-meant : (x : Option (rtm.Transaction (CallStack Frame))) → StandsAt p t w x k → state_of (core_memory_checked ty ptr val t p) ups
      ≡ memory_checked p.program (state_of p ups) t (joined_one w x k) stack ty ptr val (joined_one w x k).mode
  memory-meant x at = ap (λ (b : Bool). state_of (memory_checked_as b ty ptr val t p) ups) (open-is p t w x k at ups) ∙ by-open x at
