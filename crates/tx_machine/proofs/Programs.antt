-- No turn changes the program.
use Rattle.std.proofs.Common.{ℕ, zero, suc, ◌≡◌, ◌∙◌, nat_eq, nat_lt, Bool, true, false, length, Option, Some, None, slice_get, refl}
use Rattle.std.specs.Option.{option_map_or, is_some}
use Rattle.ir_core.specs.declared.types.Loc.{Loc}
use Rattle.ir_core.specs.declared.values.Side.{Side}
use Rattle.ir_layout.specs.Memory.{is_valid, thread_limit}
use Rattle.mem_image.specs.Accesses.{bytes}
use Rattle.inst_meaning.specs.declared.actions.Action.{Action}
use Rattle.inst_meaning.specs.declared.actions.Action.TheVariants.{Assign, Reserve, Read, Write, Update, Pass, Jump, Call, Ask, Create, Join, Exit, Return, Fault}
use Rattle.inst_meaning.specs.declared.actions.Cause.{Cause}
use Rattle.inst_meaning.specs.declared.actions.Place.{Place}
use Rattle.inst_meaning.specs.declared.actions.Reply.{Reply}
use Rattle.inst_meaning.specs.declared.actions.Reply.TheVariants.{Answers, Waits, Refuses}
use Rattle.inst_meaning.specs.declared.actions.Request.{Request}
use Rattle.process.specs.declared.state.CallStack.{CallStack}
use Rattle.process.specs.declared.state.Thread.{Thread}
use Rattle.process.specs.declared.state.Thread.TheVariants.{Running, Exiting, Ended}
use Rattle.hard_ir.specs.declared.instruction.HInst.{HInst}
use Rattle.hard_ir.specs.declared.instruction.HInst.TheVariants.{Cut, Begin, End, Tick, Chk, ChkMem, Mov, Do}
use Rattle.hard_frames.specs.declared.outcome.Stop.{Stop}
use Rattle.hard_frames.specs.declared.outcome.Stop.TheVariants.{Fail, Trap}
use Rattle.hard_frames.specs.declared.state.Frame.{Frame}
use Rattle.hard_frames.specs.Frames.{destination_on}
use Rattle.rtm_core.specs.declared.Got.{Got}
use Rattle.rtm_core.specs.declared.Got.TheVariants as gots
use Rattle.rtm_core.specs.Transactions.{Transaction, thread, entry_of, word_seen}
use Rattle.rtm_core.specs.Calls.{reading, writing, got_of}
use Rattle.hard_meaning.specs.Aborts.{Status, Mismatch, Conflict, Overflow, Other}
use Rattle.hard_meaning.specs.Locks.{MutexCall, mutex_request, taken_by}
use Rattle.tx_machine.specs.Own.{OwnParts}
use Rattle.tx_machine.specs.Core.{CoreParts, is_open, aborted_as, core_aborted, halted_if, core_failed, core_trapped, begun_with, kept_in, core_begun, closed_if, closed_by, is_holding, core_closed, passed_if, can_close, core_ended, cuts_in, cut_as, core_cut, agreed_as, compared_at, checked_as, copied_at, copied_as, told_as, core_told, core_touched, took, core_accessed, finished_as, core_finished, core_done, room_for, failure_at, alone_as, core_alone, watcher_if, watches_other, watchers_aborted, taken_as, reply_at, core_requested, replied_as, core_asked, place_in}
use Rattle.tx_machine.specs.Turned.{core_called, core_started, core_unstarted, numbered_as, core_numbered, created_as, core_created, ended_at, awaited_as, core_awaited, told_outside, core_left, can_watch_in, watched_as, core_watched, requested_as, core_request, met_as, found_as, core_matched, seeking, sought, memory_checked_as, gone_as, gone_if, core_exited, core_acted, action_at, done_as, core_stepped_at, inst_in, run_as, core_run, turned_as, core_turn}

-- ---- aborts, stops, begin and end

pub aborted-program : (status : Status) (t : ℕ) (p : CoreParts) → (core_aborted status t p).program ≡ p.program
aborted-program status t p = by_open (thread p.rtm t)
  where
    by_open : (o : Option (Transaction (CallStack Frame))) → (aborted_as o status t p).program ≡ p.program
    by_open None = refl
    by_open (Some tx) = refl

halted-program : (b : Bool) (status : Status) (stop : Stop) (t : ℕ) (p : CoreParts) → (halted_if b status stop t p).program ≡ p.program
halted-program true status stop t p = aborted-program status t p
halted-program false status stop t p = refl

trapped-program : (t : ℕ) (p : CoreParts) → (core_trapped t p).program ≡ p.program
trapped-program t p = halted-program (is_open p t) Other (Trap (record { 0 = t }) (place_in p t)) t p

failed-program : (t : ℕ) (p : CoreParts) → (core_failed t p).program ≡ p.program
failed-program t p = halted-program (is_open p t) Mismatch (Fail (record { 0 = t }) (place_in p t)) t p

begun-program : (t : ℕ) (p : CoreParts) → (core_begun t p).program ≡ p.program
begun-program t p = by_kept (kept_in p t)
  where
    by_kept : (o : Option (CallStack Frame)) → (begun_with o t p).program ≡ p.program
    by_kept None = refl
    by_kept (Some kept) = refl

closed-program : (t : ℕ) (p : CoreParts) → (core_closed t p).program ≡ p.program
closed-program t p = by_open (is_open p t)
  where
    by_holding : (b : Bool) → (closed_if b t p).program ≡ p.program
    by_holding true = aborted-program _ t p
    by_holding false = refl

    by_open : (b : Bool) → (closed_by b t p).program ≡ p.program
    by_open true = by_holding (is_holding p t)
    by_open false = refl

ended-program : (t : ℕ) (p : CoreParts) → (core_ended t p).program ≡ p.program
ended-program t p = by_can (can_close p t)
  where
    by_can : (b : Bool) → (passed_if b t (core_closed t p)).program ≡ p.program
    by_can true = closed-program t p
    by_can false = closed-program t p

cut-program : (t : ℕ) (p : CoreParts) → (core_cut t p).program ≡ p.program
cut-program t p = by_cuts (cuts_in p t)
  where
    by_cuts : (b : Bool) → (cut_as b t p).program ≡ p.program
    by_cuts true = ended-program t p
    by_cuts false = refl

-- ---- checks and copies

checked-program : (b : Bool) (t : ℕ) (o : Option Bool) (p : CoreParts) → (agreed_as o t p).program ≡ p.program
checked-program b t None p = trapped-program t p
checked-program b t (Some true) p = refl
checked-program b t (Some false) p = failed-program t p

copied-program : (b : Bool) (reg : Loc) (t : ℕ) (p : CoreParts) → (copied_as b reg t p).program ≡ p.program
copied-program true reg t p = refl
copied-program false reg t p = trapped-program t p

-- ---- actions

told-program : (retires : Bool) (t : ℕ) (p : CoreParts) → (core_told retires t p).program ≡ p.program
told-program false t p = refl
told-program true t p = by_open (is_open p t)
  where
    by_open : (b : Bool) → (told_as b t p).program ≡ p.program
    by_open true = refl
    by_open false = refl

accessed-program : (action : Action) (t : ℕ) (p : CoreParts) → (core_accessed action t p).program ≡ p.program
accessed-program (Assign n) t p = refl
accessed-program (Reserve size) t p = refl
accessed-program (Read place atomic) t p = refl
accessed-program (Write place n atomic) t p = refl
accessed-program (Update place update) t p = refl
accessed-program Pass t p = refl
accessed-program (Jump label) t p = refl
accessed-program (Call n words) t p = refl
accessed-program (Ask request) t p = refl
accessed-program (Create address n argument) t p = refl
accessed-program (Join other) t p = refl
accessed-program (Exit code) t p = refl
accessed-program (Return n) t p = refl
accessed-program (Fault cause) t p = refl

finished-program : (action : Action) (t : ℕ) (p : CoreParts) → (core_finished action t p).program ≡ p.program
finished-program action t p = by_room (room_for action t p)
  where
    by_room : (b : Bool) → (finished_as b t (core_accessed action t p)).program ≡ p.program
    by_room true = accessed-program action t p
    by_room false = aborted-program Overflow t (core_accessed action t p) ∙ accessed-program action t p

alone-program : (retires : Bool) (target : Option (Side × Loc)) (action : Action) (t : ℕ) (p : CoreParts) → (core_alone retires target action t p).program ≡ p.program
alone-program retires target action t p = by_cause (failure_at (core_told retires t p) t action)
  where
    by_cause : (o : Option Cause) → (alone_as o retires target action t p).program ≡ p.program
    by_cause (Some cause) = trapped-program t p
    by_cause None = finished-program action t (core_done target action t (core_told retires t p)) ∙ told-program retires t p

-- ---- requests

watcher-program : (b : Bool) (u : ℕ) (q p : CoreParts) → q.program ≡ p.program → (watcher_if b u q).program ≡ p.program
watcher-program true u q p e = aborted-program Conflict u q ∙ e
watcher-program false u q p e = e

watchers-program : (count t address : ℕ) (p : CoreParts) → (watchers_aborted count t address p).program ≡ p.program
watchers-program zero t address p = refl
watchers-program (suc u) t address p =
    watcher-program (watches_other (watchers_aborted u t address p) t address u) u (watchers_aborted u t address p) p (watchers-program u t address p)

asked-program : (retires : Bool) (target : Option (Side × Loc)) (request : Request) (t : ℕ) (p : CoreParts) → (core_asked retires target request t p).program ≡ p.program
asked-program retires target request t p = by_reply (reply_at (core_told retires t p) t request)
  where
    by_taken : (o : Option ℕ) (q : CoreParts) → (taken_as o t q).program ≡ q.program
    by_taken None q = refl
    by_taken (Some address) q = watchers-program (length q.own) t address q

    by_reply : (reply : Reply) → (replied_as reply retires target request t p).program ≡ p.program
    by_reply (Answers n) = by_taken (taken_by (mutex_request request)) (core_requested target request t (core_told retires t p)) ∙ told-program retires t p
    by_reply Waits = refl
    by_reply (Refuses cause) = trapped-program t p

watched-program : (call : MutexCall) (retires : Bool) (target : Option (Side × Loc)) (t : ℕ) (p : CoreParts) → (core_watched call retires target t p).program ≡ p.program
watched-program call retires target t p = by_can (can_watch_in call t p)
  where
    by_can : (b : Bool) → (watched_as b call retires target t p).program ≡ p.program
    by_can true = told-program retires t p
    by_can false = closed-program t p

request-program : (retires : Bool) (target : Option (Side × Loc)) (request : Request) (t : ℕ) (p : CoreParts) → (core_request retires target request t p).program ≡ p.program
request-program retires target request t p = by_mode (is_open p t) (mutex_request request)
  where
    by_mode : (b : Bool) (o : Option MutexCall) → (requested_as b o retires target request t p).program ≡ p.program
    by_mode true (Some call) = watched-program call retires target t p
    by_mode true None = asked-program retires target request t p
    by_mode false o = asked-program retires target request t p

-- ---- threads

numbered-program : (address number t : ℕ) (p : CoreParts) → (core_numbered address number t p).program ≡ p.program
numbered-program address number t p = by_took (took (got_of (entry_of p.rtm t (writing address 8)) number))
  where
    stored : CoreParts
    stored = core_touched (writing address 8) (Some (record { address = address; size = 8; word = number })) t p

    by_took : (b : Bool) → (numbered_as b t stored).program ≡ p.program
    by_took true = refl
    by_took false = aborted-program Overflow t (core_unstarted stored)

created-program : (retires : Bool) (target : Option (Side × Loc)) (address n argument t : ℕ) (p : CoreParts)
    → (core_created retires target address n argument t p).program ≡ p.program
created-program retires target address n argument t p = by_room (nat_lt (length p.own) thread_limit) (is_valid p.rtm.memory.places address 8)
  where
    by_room : (room valid : Bool) → (created_as room valid retires target address n argument t p).program ≡ p.program
    by_room true true = numbered-program address (length p.own) t (core_called retires target 0 t (core_started n argument p))
        ∙ told-program retires t (core_started n argument p)
    by_room true false = trapped-program t p
    by_room false valid = told-program retires t p

awaited-program : (retires : Bool) (target : Option (Side × Loc)) (other t : ℕ) (p : CoreParts) → (core_awaited retires target other t p).program ≡ p.program
awaited-program retires target other t p = by_ended (ended_at p other)
  where
    by_ended : (o : Option Bool) → (awaited_as o retires target t p).program ≡ p.program
    by_ended None = trapped-program t p
    by_ended (Some false) = refl
    by_ended (Some true) = told-program retires t p

left-program : (retires : Bool) (code t : ℕ) (p : CoreParts) → (core_left retires code t p).program ≡ p.program
left-program retires code t p = by_open (is_open p t)
  where
    by_open : (b : Bool) → (told_outside b retires t p).program ≡ p.program
    by_open true = refl
    by_open false = told-program retires t p

exited-program : (n t : ℕ) (p : CoreParts) → (core_exited n t p).program ≡ p.program
exited-program n t p = by_can (can_close p t) ∙ closed-program t (core_told true t p) ∙ told-program true t p
  where
    gone : (u : ℕ) (q : CoreParts) → (gone_as u n q).program ≡ q.program
    gone zero q = refl
    gone (suc u) q = refl

    by_can : (b : Bool) → (gone_if b t n (core_closed t (core_told true t p))).program ≡ (core_closed t (core_told true t p)).program
    by_can true = gone t (core_closed t (core_told true t p))
    by_can false = refl

-- ---- checks of memory

matched-program : (place : Place) (word t : ℕ) (p : CoreParts) → (core_matched place word t p).program ≡ p.program
matched-program place word t p =
    by_got (got_of (entry_of p.rtm t (reading place.address (bytes place.size))) (word_seen p.rtm t place.address (bytes place.size))) _ refl
  where
    met : (b : Bool) (q : CoreParts) → (met_as b t q).program ≡ q.program
    met true q = refl
    met false q = aborted-program Mismatch t q

    by_got : (got : Got) (q : CoreParts) → q.program ≡ p.program → (found_as got word t q).program ≡ p.program
    by_got (gots.Value n) q e = met (nat_eq n word) q ∙ e
    by_got gots.Trap q e = aborted-program Other t q ∙ e
    by_got gots.Overflow q e = aborted-program Overflow t q ∙ e

memory-program : (b : Bool) (o : Option (Place × ℕ)) (t : ℕ) (p : CoreParts) → (seeking o t p).program ≡ p.program
memory-program b None t p = trapped-program t p
memory-program b (Some (place, word)) t p = matched-program place word t _

-- ---- turns

acted-program : (retires : Bool) (target : Option (Side × Loc)) (action : Action) (t : ℕ) (p : CoreParts) → (core_acted retires target action t p).program ≡ p.program
acted-program retires target (Assign n) t p = alone-program retires target (Assign n) t p
acted-program retires target (Reserve size) t p = alone-program retires target (Reserve size) t p
acted-program retires target (Read place atomic) t p = alone-program retires target (Read place atomic) t p
acted-program retires target (Write place n atomic) t p = alone-program retires target (Write place n atomic) t p
acted-program retires target (Update place update) t p = alone-program retires target (Update place update) t p
acted-program retires target Pass t p = alone-program retires target Pass t p
acted-program retires target (Jump label) t p = alone-program retires target (Jump label) t p
acted-program retires target (Call n words) t p = alone-program retires target (Call n words) t p
acted-program retires target (Ask request) t p = request-program retires target request t p
acted-program retires target (Create address n argument) t p = created-program retires target address n argument t p
acted-program retires target (Join other) t p = awaited-program retires target other t p
acted-program retires target (Exit code) t p = left-program retires code t p
acted-program retires target (Return n) t p = alone-program retires target (Return n) t p
acted-program retires target (Fault cause) t p = alone-program retires target (Fault cause) t p

done-program : (o : Option Action) (retires : Bool) (target : Option (Side × Loc)) (t : ℕ) (p : CoreParts) → (done_as o retires target t p).program ≡ p.program
done-program None retires target t p = refl
done-program (Some action) retires target t p = acted-program retires target action t p

stepped-program : (inst : HInst) (t : ℕ) (p : CoreParts) → (core_stepped_at inst t p).program ≡ p.program
stepped-program Cut t p = cut-program t p
stepped-program Begin t p = begun-program t p
stepped-program End t p = ended-program t p
stepped-program (Tick work) t p = refl
stepped-program (Chk when ty reg) t p = by_active _
  where
    by_active : (b : Bool) → (checked_as b t ty reg p).program ≡ p.program
    by_active true = checked-program true t (compared_at p t ty reg) p
    by_active false = refl
stepped-program (ChkMem ty ptr val) t p = by_open (is_open p t)
  where
    by_open : (b : Bool) → (memory_checked_as b ty ptr val t p).program ≡ p.program
    by_open true = memory-program true (sought p t ty ptr val) t p
    by_open false = refl
stepped-program (Mov ty reg) t p = copied-program (is_some (copied_at p t reg)) reg t p
stepped-program (Do side inst retires) t p = done-program (action_at p t side inst) retires (destination_on side inst) t p

run-program : (t : ℕ) (p : CoreParts) → (core_run t p).program ≡ p.program
run-program t p = by_inst (inst_in p t)
  where
    by_inst : (o : Option HInst) → (run_as o t p).program ≡ p.program
    by_inst None = trapped-program t p
    by_inst (Some inst) = stepped-program inst t p

pub turn-program : (t : ℕ) (p : CoreParts) → (core_turn t p).program ≡ p.program
turn-program t p = by_place (slice_get p.own t)
  where
    by_thread : (thread : Thread Frame) → (turned_as thread t p).program ≡ p.program
    by_thread (Running stack) = run-program t p
    by_thread (Exiting n) = exited-program n t p
    by_thread Ended = refl

    by_place : (o : Option OwnParts) → (option_map_or (λ (w : OwnParts). turned_as w.thread t p) o p).program ≡ p.program
    by_place None = refl
    by_place (Some w) = by_thread w.thread
