-- The state of a hardened program that runs with transactions.
--
-- Choices: all that an abort of a thread changes stands in that thread's own record: its frames, the runtime's words, how often it was
-- aborted, and which upsets stand in it; so an abort is a function of one thread. What an open transaction holds is gone with it.
-- Its turns are a number, since all are its own thread's. Upsets are kept as they came; what has become of them is read off the
-- threads that still carry their numbers.
use Rattle.std.specs.Prelude.{ℕ, Bool, true, false, List, [], ◌∷◌, map, Option, None}
use Rattle.ir_layout.specs.Memory.{layout_of}
use Rattle.mem_image.specs.Bytes.{Memory}
use Rattle.mem_image.specs.Opening.{opening as opening_memory}
use Rattle.rtm_core.specs.Footprint.{Footprint, seen_through}
use Rattle.inst_meaning.specs.World.{WorldParts, opening_world}
use Rattle.process.specs.declared.state.CallStack.{CallStack}
use Rattle.process.specs.declared.state.Thread.{Thread}
use Rattle.process.specs.State.{ProcessParts, new_thread}
use Rattle.src_meaning.specs.State.{main_of}
use Rattle.hard_ir.specs.Hardened.{HardParts}
use Rattle.hard_frames.specs.declared.outcome.Aborts.{Aborts}
use Rattle.hard_frames.specs.declared.outcome.Stop.{Stop}
use Rattle.hard_frames.specs.declared.state.Frame.{Frame}
use Rattle.hard_frames.specs.Frames.{frames}

-- an open transaction: the frames and the stack mark as they stood when it began; what it touched; how many of its turns wait for it to
-- commit; the numbers of the upsets that struck its thread since; the mutexes that it watches; and of these those that it holds, the last first
pub record Transaction : Type 0 where
  pub kept : CallStack Frame
  pub footprint : Footprint
  pub pending : ℕ
  pub struck : List ℕ
  pub watched : List ℕ
  pub held : List ℕ

-- a thread is outside transactions, where it may have given them up until it ends one the next time, or inside one
pub data Mode : Type 0 where
  Free : Bool → Mode
  Inside : Transaction → Mode

-- a thread; how often it was aborted since it last ended a transaction; the work that it has counted; the numbers of the upsets in it that no
-- abort can undo; and its aborts by cause
pub record Worker : Type 0 where
  pub thread : Thread Frame
  pub mode : Mode
  pub attempts : ℕ
  pub counter : ℕ
  pub hits : List ℕ
  pub aborts : Aborts

-- an upset, as it came: it struck nothing; it struck while an earlier one stood; it struck in a window; or it struck
pub data Upset : Type 0 where
  Nowhere : Upset
  OnAnother : Upset
  InWindow : Upset
  Struck : Upset

pub record State : Type 0 where
  pub memory : Memory
  pub workers : List Worker
  pub world : WorldParts
  pub turns : List ℕ
  pub stop : Option Stop
  pub upsets : List Upset

-- ---- what a thread sees

abbrev pub is_inside : Mode → Bool
is_inside (Inside tx) = true
is_inside (Free plain) = false

-- memory as it is seen in a mode
abbrev pub seen_in : Mode → Memory → Memory
seen_in (Free plain) mem = mem
seen_in (Inside tx) mem = seen_through tx.footprint mem

-- the process as it is seen in a mode
abbrev pub seen : State → Mode → ProcessParts Frame
seen s mode = record {
  memory = seen_in mode s.memory;
  threads = map (λ worker. worker.thread) s.workers;
  world = s.world;
}

-- ---- the opening

abbrev pub no_aborts : Aborts
no_aborts = record { explicit = 0; conflict = 0; overflow = 0; other = 0 }

abbrev pub new_worker : Thread Frame → Worker
new_worker thread = record { thread = thread; mode = Free false; attempts = 0; counter = 0; hits = []; aborts = no_aborts }

-- thread 0 stands at the entry of `main`, outside transactions
abbrev pub opening : HardParts → List ℕ → State
opening h arguments = record {
  memory = opening_memory (layout_of h.heads) h.heads.globals;
  workers = new_worker (new_thread (frames h) 0 (main_of h.heads) []) ∷ [];
  world = opening_world arguments;
  turns = [];
  stop = None;
  upsets = [];
}
