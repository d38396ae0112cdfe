-- A call that is done, and a mutex that it takes, are those of the definitions.
use Rattle.std.proofs.Common.{ℕ, ◌≡◌, ◌∙◌, Bool, List, map, Option, Some, None, slice_set, refl, ap, sym, subst}
use Rattle.ir_core.specs.declared.types.Loc.{Loc}
use Rattle.ir_core.specs.declared.values.Side.{Side}
use Rattle.inst_meaning.specs.World.{WorldParts}
use Rattle.mem_image.specs.Bytes.{Memory}
use Rattle.process.specs.declared.state.CallStack.{CallStack}
use Rattle.process.specs.declared.state.Thread.{Thread}
use Rattle.process.specs.declared.state.Thread.TheVariants.{Running}
use Rattle.process.specs.Outcome.{Effect, Goes, effect_of_call}
use Rattle.hard_ir.specs.Hardened.{HardParts}
use Rattle.hard_frames.specs.declared.state.Frame.{Frame}
use Rattle.hard_frames.specs.Frames.{frames}
use Rattle.elide.specs.Watches.{WatchParts}
use Rattle.rtm_core.specs.Transactions.{Transaction}
use Rattle.hard_meaning.specs.State.{Mode, Free, Inside, Worker, State, Upset, seen}
use Rattle.hard_meaning.specs.Aborts.{spared}
use Rattle.hard_meaning.specs.Effects.{memory_after, did, where_room}
use Rattle.hard_meaning.specs.Turns.{settled}
use Rattle.tx_machine.specs.Own.{OwnParts, called_thread}
use Rattle.tx_machine.specs.Joined.{joined_one}
use Rattle.tx_machine.specs.Core.{CoreParts, with_own, taken_as}
use Rattle.tx_machine.specs.Turned.{core_called}
use Rattle.tx_machine.specs.Meant.{state_of, IsTied, StandsAt}
use Rattle.tx_machine.proofs.Meant.{open-is}
use Rattle.tx_machine.proofs.MeantPasses.{with_thread}
use Rattle.tx_machine.proofs.MeantAlone.{moved_on, moved_state, set-map, alone-after}
use Rattle.tx_machine.proofs.MeantActions.{told_by, told-by, moved, moved_own, moved-stands, moved-tied, moved-meant, moved-worker, no-touch-room}
use Rattle.tx_machine.proofs.MeantTakes.{taking, taken-meant, taken-tied}

-- ---- in the definitions

-- no memory is touched
abbrev pub calling : Thread Frame → WorldParts → Effect Frame
calling thread world = record { thread = thread; world = world; born = None; touch = None; store = None }

memory-same : (m : Mode) (mem : Memory) → mem ≡ memory_after m None mem
memory-same (Free plain) mem = refl
memory-same (Inside tx) mem = refl

pub taken-after : (s : State) (t : ℕ) (w : Worker) (retires : Bool) (thread : Thread Frame) (world : WorldParts) (address : ℕ)
    → record (moved_state s t w retires thread) {
      world = world;
      workers = slice_set (map (spared (taking address)) (moved_state s t w retires thread).workers) t (moved_on s t w retires thread);
    } ≡ did s t w retires (Some address) (calling thread world)
taken-after s t w retires thread world address =
    let v : Worker = moved_on s t w retires thread in
    ap (λ (ws : List Worker). record (moved_state s t w retires thread) { world = world; workers = ws }) (set-map (spared (taking address)) s.workers t v v)
    ∙ ap (λ (m : Memory). record (did s t w retires (Some address) (calling thread world)) { memory = m }) (memory-same w.mode s.memory)

-- a list has room for nothing
pub done-settled : (h : HardParts) (s : State) (t : ℕ) (w : Worker) (frame : Frame) (retires : Bool) (mutex : Option ℕ) (thread : Thread Frame)
    (world : WorldParts)
    → did s t w retires mutex (calling thread world) ≡ settled h s t w frame retires mutex (Goes (calling thread world))
done-settled h s t w frame retires mutex thread world =
    ap (λ (b : Bool). where_room b s t w (did s t w retires mutex (calling thread world))) (sym (no-touch-room w.mode))

-- ---- in all parts

module _ (p : CoreParts) (t : ℕ) (w : OwnParts) (x : Option (Transaction (CallStack Frame))) (k : WatchParts) (at : StandsAt p t w x k) (ups : List Upset)
    (retires : Bool) (g : Thread Frame → Thread Frame) (world : WorldParts) where
  -- a thread has moved on, in another environment
  abbrev pub moved_with : CoreParts
  moved_with = record (moved p t w x k at ups retires g) { world = world }

  with-stands : StandsAt moved_with t (moved_own p t w x k at ups retires g) x k
  with-stands =
      let so = moved-stands p t w x k at ups retires g in
      record { made = so.made; open_there = so.open_there; watching = so.watching; tied = so.tied }

  with-tied : IsTied p → IsTied moved_with
  with-tied tied =
      let so = moved-tied p t w x k at ups retires g tied in
      record { threads = so.threads; watches = so.watches; own = so.own; tied = so.tied }

  with-meant : state_of moved_with ups ≡ record (moved_state (state_of p ups) t (joined_one w x k) retires (g w.thread)) { world = world }
  with-meant = ap (λ (s : State). record s { world = world }) (moved-meant p t w x k at ups retires g)

  pub takes-tied : (mutex : Option ℕ) → IsTied p → IsTied (taken_as mutex t moved_with)
  takes-tied None tied = with-tied tied
  takes-tied (Some address) tied = taken-tied moved_with t address ups (with-tied tied)

  pub takes-meant : (mutex : Option ℕ) → IsTied p
      → state_of (taken_as mutex t moved_with) ups ≡ did (state_of p ups) t (joined_one w x k) retires mutex (calling (g w.thread) world)
  takes-meant None tied = with-meant
      ∙ ap (λ (s : State). record s { world = world }) (alone-after (state_of p ups) t (joined_one w x k) retires (g w.thread))
  takes-meant (Some address) tied =
      let s : State = state_of p ups in
      let one : Worker = joined_one w x k in
      let v : Worker = moved_on s t one retires (g w.thread) in
      let f : State → Worker → State = λ z u. record z { workers = slice_set (map (spared (taking address)) z.workers) t u } in
      taken-meant moved_with t address ups (moved_own p t w x k at ups retires g) x k with-stands (with-tied tied)
      ∙ ap (λ (z : State). f z (joined_one (moved_own p t w x k at ups retires g) x k)) with-meant
      ∙ ap (λ (u : Worker). f (record (moved_state s t one retires (g w.thread)) { world = world }) u) (moved-worker p t w x k at ups retires g)
      ∙ taken-after s t one retires (g w.thread) world address

module _ (p : CoreParts) (t : ℕ) (w : OwnParts) (x : Option (Transaction (CallStack Frame))) (k : WatchParts) (at : StandsAt p t w x k) (ups : List Upset)
    (retires : Bool) (target : Option (Side × Loc)) (n : ℕ) where
  abbrev pub call_in : Thread Frame → Thread Frame
  call_in th = called_thread p.program target n th

  pub called-is : core_called retires target n t p ≡ moved p t w x k at ups retires call_in
  called-is = ap (λ (r : CoreParts). with_own t (with_thread call_in) r)
      (told-by retires t p ∙ ap (λ (b : Bool). told_by retires b t p) (open-is p t w x k at ups))

  pub called-tied : IsTied p → IsTied (core_called retires target n t p)
  called-tied tied = subst IsTied (sym called-is) (moved-tied p t w x k at ups retires call_in tied)

  -- where it runs
  module _ (stack : CallStack Frame) (runs : w.thread ≡ Running stack) where
    pub called-moved : state_of (core_called retires target n t p) ups
        ≡ moved_state (state_of p ups) t (joined_one w x k) retires (call_in (Running stack))
    called-moved = ap (λ (q : CoreParts). state_of q ups) called-is ∙ moved-meant p t w x k at ups retires call_in
        ∙ ap (λ (th : Thread Frame). moved_state (state_of p ups) t (joined_one w x k) retires (call_in th)) runs

    pub called-meant : state_of (core_called retires target n t p) ups
        ≡ settled p.program (state_of p ups) t (joined_one w x k) stack.frame retires None
        (Goes (effect_of_call (frames p.program) (seen (state_of p ups) (joined_one w x k).mode) target stack n))
    called-meant = called-moved ∙ alone-after (state_of p ups) t (joined_one w x k) retires (call_in (Running stack))
        ∙ done-settled p.program (state_of p ups) t (joined_one w x k) stack.frame retires None (call_in (Running stack)) p.world
