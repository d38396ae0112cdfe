-- What an action comes to for the thread that does it (LLVM Language Reference, 'Instruction Reference').
--
-- Choices: what an action comes to is a value, which knows the process as it was and changes nothing: the thread after it, the
-- environment, a thread that was made, what it touches in memory and what it stores there. Whoever keeps the process does it: to memory at
-- once, or later. An action that waits, that is undefined or that ends the program changes nothing. Whether an action can be done
-- is decided before anything else of it.
use Rattle.std.specs.Prelude.{ℕ, ◌+◌, ◌%◌, ◌^◌, suc, Bool, true, false, nat_lt, nat_le, List, [], ◌∷◌, length, Option, Some, None, slice_get, unwrap_or}
use Rattle.std.specs.Option.{is_some}
use Rattle.ir_layout.specs.Shapes.{round_up}
use Rattle.ir_layout.specs.declared.spans.Span.{Span}
use Rattle.ir_layout.specs.Memory.{is_valid, thread_limit, frame_limit}
use Rattle.mem_image.specs.Accesses.{bytes}
use Rattle.mem_image.specs.Touches.{Touch, Store}
use Rattle.inst_meaning.specs.declared.actions.Cause.{Cause}
use Rattle.inst_meaning.specs.declared.actions.Cause.TheVariants.{Access, Stack, Depth, Join as JoinCause, Unreachable}
use Rattle.inst_meaning.specs.declared.actions.Place.{Place}
use Rattle.inst_meaning.specs.declared.actions.Reply.{Reply}
use Rattle.inst_meaning.specs.declared.actions.Reply.TheVariants.{Answers, Waits as MustWait, Refuses}
use Rattle.inst_meaning.specs.declared.actions.Action.{Action}
use Rattle.inst_meaning.specs.declared.actions.Action.TheVariants.{Assign, Reserve, Read, Write, Update, Pass, Jump, Call, Ask, Create, Join, Exit, Return, Fault}
use Rattle.inst_meaning.specs.Accesses.{found, updated, word_read}
use Rattle.inst_meaning.specs.World.{WorldParts, asked_of}
use Rattle.process.specs.declared.state.CallStack.{CallStack}
use Rattle.process.specs.declared.state.Thread.{Thread}
use Rattle.process.specs.declared.state.Thread.TheVariants.{Running, Exiting, Ended}
use Rattle.process.specs.declared.state.Step.{Step}
use Rattle.process.specs.declared.state.Step.TheVariants as answers
use Rattle.process.specs.Frames.{Frames}
use Rattle.process.specs.State.{ProcessParts, stack_start, frame_count, in_frame, new_thread}

-- ---- what is touched and stored

abbrev pub touch_at : Place → Bool → Bool → Touch
touch_at place reads writes = record { address = place.address; size = bytes place.size; reads = reads; writes = writes }

abbrev pub store_at : Place → ℕ → Store
store_at place word = record { address = place.address; size = bytes place.size; word = word }

-- ---- outcomes

-- what an action changes that is done
pub record Effect (F : Type 0) : Type 0 where
  pub thread : Thread F
  pub world : WorldParts
  pub born : Option (Thread F)
  pub touch : Option Touch
  pub store : Option Store

-- it is done; it must wait; it is undefined; or the program ends with a code
pub data Outcome (F : Type 0) : Type 0 where
  Goes : Effect F → Outcome F
  Waits : Outcome F
  Faults : Cause → Outcome F
  Ends : ℕ → Outcome F

-- what a step answers
abbrev pub answer_of : {F : Type 0} → Outcome F → Step
answer_of (Goes effect) = answers.Went
answer_of Waits = answers.Waits
answer_of (Faults cause) = answers.Undefined cause
answer_of (Ends code) = answers.Ended code

abbrev pub goes_unless : {F : Type 0} → Option Cause → Effect F → Outcome F
goes_unless None effect = Goes effect
goes_unless (Some cause) effect = Faults cause

-- ---- what a thread and memory do alone

-- where an `alloca` begins
abbrev pub reserved : {F : Type 0} → CallStack F → ℕ
reserved stack = round_up 16 stack.mark

abbrev pub unless : Bool → Cause → Option Cause
unless true cause = None
unless false cause = Some cause

abbrev pub unless_valid : List Span → Place → Option Cause
unless_valid places place = unless (is_valid places place.address (bytes place.size)) Access

-- a function returns: to its caller, with the stack as it found it, or from the thread's own
abbrev pub returned : {F D : Type 0} → Frames F D → ℕ → ℕ → List F → Thread F
returned frames n mark [] = Exiting n
returned frames n mark (caller ∷ callers) = Running (record { mark = mark; frame = frames.resume n caller; callers = callers })

module _ {F D : Type 0} (frames : Frames F D) where
  -- why a thread can't do an action alone, where it can't
  abbrev pub failure : List Span → ℕ → CallStack F → Action → Option Cause
  failure places t stack (Assign n) = None
  failure places t stack (Reserve size) = unless (nat_le (reserved stack + size) (stack_start (suc t))) Stack
  failure places t stack (Read place atomic) = unless_valid places place
  failure places t stack (Write place n atomic) = unless_valid places place
  failure places t stack (Update place update) = unless_valid places place
  failure places t stack Pass = None
  failure places t stack (Jump label) = unless (is_some (frames.jump label stack.frame)) Unreachable
  failure places t stack (Call n words) = unless (nat_lt (frame_count stack) frame_limit) Depth
  failure places t stack (Ask request) = None
  failure places t stack (Create address n argument) = None
  failure places t stack (Join other) = None
  failure places t stack (Exit code) = None
  failure places t stack (Return n) = None
  failure places t stack (Fault cause) = Some cause

  -- the thread once it has done an action alone that found a word in memory; what takes more than the thread leaves it
  abbrev pub thread_after : D → CallStack F → Action → ℕ → Thread F
  thread_after target stack (Assign n) old = in_frame stack (frames.result target n stack.frame)
  thread_after target stack (Reserve size) old =
      Running (record stack { mark = reserved stack + size; frame = frames.result target (reserved stack) stack.frame })
  thread_after target stack (Read place atomic) old = in_frame stack (frames.result target old stack.frame)
  thread_after target stack (Write place n atomic) old = in_frame stack (frames.advance stack.frame)
  thread_after target stack (Update place update) old = in_frame stack (frames.result target (found update old) stack.frame)
  thread_after target stack Pass old = in_frame stack (frames.advance stack.frame)
  thread_after target stack (Jump label) old = in_frame stack (unwrap_or (frames.jump label stack.frame) stack.frame)
  thread_after target stack (Call n words) old =
      Running (record stack { frame = frames.enter n words stack.mark; callers = frames.suspend target stack.frame ∷ stack.callers })
  thread_after target stack (Ask request) old = Running stack
  thread_after target stack (Create address n argument) old = Running stack
  thread_after target stack (Join other) old = Running stack
  thread_after target stack (Exit code) old = Running stack
  thread_after target stack (Return n) old = returned frames n (frames.mark stack.frame) stack.callers
  thread_after target stack (Fault cause) old = Running stack

-- what it touches of memory
abbrev pub touch_of : Action → Option Touch
touch_of (Assign n) = None
touch_of (Reserve size) = None
touch_of (Read place atomic) = Some (touch_at place true false)
touch_of (Write place n atomic) = Some (touch_at place false true)
touch_of (Update place update) = Some (touch_at place true true)
touch_of Pass = None
touch_of (Jump label) = None
touch_of (Call n words) = None
touch_of (Ask request) = None
touch_of (Create address n argument) = None
touch_of (Join other) = None
touch_of (Exit code) = None
touch_of (Return n) = None
touch_of (Fault cause) = None

-- what it stores there once it has found a word
abbrev pub store_of : Action → ℕ → Option Store
store_of (Assign n) old = None
store_of (Reserve size) old = None
store_of (Read place atomic) old = None
store_of (Write place n atomic) old = Some (store_at place n)
store_of (Update place update) old = Some (store_at place (updated update old))
store_of Pass old = None
store_of (Jump label) old = None
store_of (Call n words) old = None
store_of (Ask request) old = None
store_of (Create address n argument) old = None
store_of (Join other) old = None
store_of (Exit code) old = None
store_of (Return n) old = None
store_of (Fault cause) old = None

module _ {F D : Type 0} (frames : Frames F D) where
  abbrev pub effect_alone : ProcessParts F → D → CallStack F → Action → Effect F
  effect_alone p target stack action = record {
    thread = thread_after frames target stack action (word_read p.memory action);
    world = p.world;
    born = None;
    touch = touch_of action;
    store = store_of action (word_read p.memory action);
  }

  abbrev pub alone : ProcessParts F → ℕ → D → CallStack F → Action → Outcome F
  alone p t target stack action = goes_unless (failure frames p.memory.places t stack action) (effect_alone p target stack action)

  -- ---- what takes the environment or other threads

  -- a call of an external is done, with this result
  abbrev pub called : D → CallStack F → ℕ → Thread F
  called target stack n = in_frame stack (frames.result target n stack.frame)

  abbrev pub effect_of_call : ProcessParts F → D → CallStack F → ℕ → Effect F
  effect_of_call p target stack n = record { thread = called target stack n; world = p.world; born = None; touch = None; store = None }

  -- the environment has replied
  abbrev pub replied : ProcessParts F → D → CallStack F → WorldParts → Reply → Outcome F
  replied p target stack world (Answers n) = Goes (record (effect_of_call p target stack n) { world = world })
  replied p target stack world MustWait = Waits
  replied p target stack world (Refuses cause) = Faults cause

  -- a thread is made, and its number is stored
  abbrev pub effect_of_creation : ProcessParts F → D → CallStack F → ℕ → ℕ → ℕ → Effect F
  effect_of_creation p target stack address n argument = record {
    thread = called target stack 0;
    world = p.world;
    born = Some (new_thread frames (length p.threads) n (argument ∷ []));
    touch = Some (record { address = address; size = 8; reads = false; writes = true });
    store = Some (record { address = address; size = 8; word = length p.threads });
  }

  -- it is made where there is room for one and its number has a place; without room the call answers 11
  abbrev pub created : ProcessParts F → D → CallStack F → ℕ → ℕ → ℕ → Bool → Bool → Outcome F
  created p target stack address n argument true true = Goes (effect_of_creation p target stack address n argument)
  created p target stack address n argument true false = Faults Access
  created p target stack address n argument false valid = Goes (effect_of_call p target stack 11)

  -- a thread is waited for
  abbrev pub joined : ProcessParts F → D → CallStack F → Option (Thread F) → Outcome F
  joined p target stack None = Faults JoinCause
  joined p target stack (Some (Running other)) = Waits
  joined p target stack (Some (Exiting n)) = Waits
  joined p target stack (Some Ended) = Goes (effect_of_call p target stack 0)

  -- ---- actions

  -- what an action comes to for thread t, which stands so, in the process as it sees it
  abbrev pub outcome_of : ProcessParts F → ℕ → D → CallStack F → Action → Outcome F
  outcome_of p t target stack (Assign n) = alone p t target stack (Assign n)
  outcome_of p t target stack (Reserve size) = alone p t target stack (Reserve size)
  outcome_of p t target stack (Read place atomic) = alone p t target stack (Read place atomic)
  outcome_of p t target stack (Write place n atomic) = alone p t target stack (Write place n atomic)
  outcome_of p t target stack (Update place update) = alone p t target stack (Update place update)
  outcome_of p t target stack Pass = alone p t target stack Pass
  outcome_of p t target stack (Jump label) = alone p t target stack (Jump label)
  outcome_of p t target stack (Call n words) = alone p t target stack (Call n words)
  outcome_of p t target stack (Ask request) = replied p target stack (asked_of request t p.world).0 (asked_of request t p.world).1
  outcome_of p t target stack (Create address n argument) =
      created p target stack address n argument (nat_lt (length p.threads) thread_limit) (is_valid p.memory.places address 8)
  outcome_of p t target stack (Join other) = joined p target stack (slice_get p.threads other)
  outcome_of p t target stack (Exit code) = Ends (code % 2 ^ 32)
  outcome_of p t target stack (Return n) = alone p t target stack (Return n)
  outcome_of p t target stack (Fault cause) = alone p t target stack (Fault cause)
