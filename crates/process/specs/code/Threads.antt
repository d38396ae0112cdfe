-- What becomes of one thread of a process, as the code does it.
use Rattle.std.specs.Prelude.{ℕ, ◌++◌, Bool, true, false, [], ◌∷◌, Option, Some, None, slice_get, slice_set}
use Rattle.mem_image.specs.Bytes.{Memory}
use Rattle.inst_meaning.specs.declared.actions.Cause.{Cause}
use Rattle.inst_meaning.specs.declared.actions.Request.{Request}
use Rattle.inst_meaning.specs.declared.actions.Reply.{Reply}
use Rattle.inst_meaning.specs.declared.actions.Reply.TheVariants.{Answers, Waits as MustWait, Refuses}
use Rattle.inst_meaning.specs.declared.actions.Action.{Action}
use Rattle.inst_meaning.specs.declared.actions.Action.TheVariants.{Assign, Reserve, Read, Write, Update, Pass, Jump, Call, Ask, Create, Join, Exit, Return, Fault}
use Rattle.inst_meaning.specs.Accesses.{word_read}
use Rattle.inst_meaning.specs.World.{WorldParts, asked_of}
use Rattle.process.specs.declared.state.CallStack.{CallStack}
use Rattle.process.specs.declared.state.Thread.{Thread}
use Rattle.process.specs.declared.state.Thread.TheVariants.{Running, Exiting, Ended}
use Rattle.process.specs.declared.state.Step.{Step}
use Rattle.process.specs.declared.state.Step.TheVariants.{Went, Waits, Idle, Undefined}
use Rattle.process.specs.declared.processes.Outside.{Outside}
use Rattle.process.specs.declared.processes.Outside.TheVariants.{Asks, Creates, Joins, Exits}
use Rattle.process.specs.Frames.{Frames}
use Rattle.process.specs.State.{ProcessParts, in_frame}
use Rattle.process.specs.Outcome.{failure, thread_after, store_of}
use Rattle.mem_image.specs.Touches.{memory_with}
use Rattle.process.specs.Process.{acted}
use Rattle.process.specs.code.Moves.{answered, where_done}

-- ---- replies of the environment

abbrev pub step_of : Reply → Step
step_of (Answers n) = Went
step_of MustWait = Waits
step_of (Refuses cause) = Undefined cause

abbrev pub went_or : Option Cause → Step
went_or None = Went
went_or (Some cause) = Undefined cause

-- ---- one thread

-- a thread that runs has room for another instruction, as its kind of frames says
abbrev pub CanPass : {F : Type 0} → (F → Type 0) → Thread F → Type 0
CanPass can_pass (Running stack) = can_pass stack.frame
CanPass can_pass (Exiting n) = Unit {0}
CanPass can_pass Ended = Unit {0}

abbrev pub CanPassAt : {F : Type 0} → (F → Type 0) → Option (Thread F) → Type 0
CanPassAt can_pass (Some thread) = CanPass can_pass thread
CanPassAt can_pass None = Unit {0}

-- the call at which a thread stands is done, with this result
abbrev pub finished : {F D : Type 0} → Frames F D → D → ℕ → Thread F → Thread F
finished frames target n (Running stack) = in_frame stack (frames.result target n stack.frame)
finished frames target n (Exiting m) = Exiting m
finished frames target n Ended = Ended

-- a request in a thread's name: the answer, the environment and the thread after it
abbrev pub answer_to : {F : Type 0} → Request → ℕ → WorldParts → Thread F → Step
answer_to request t world (Running stack) = step_of (asked_of request t world).1
answer_to request t world (Exiting n) = Idle
answer_to request t world Ended = Idle

abbrev pub world_after : {F : Type 0} → Request → ℕ → WorldParts → Thread F → WorldParts
world_after request t world (Running stack) = (asked_of request t world).0
world_after request t world (Exiting n) = world
world_after request t world Ended = world

abbrev pub thread_asked : {F D : Type 0} → Frames F D → Request → ℕ → D → WorldParts → Thread F → Thread F
thread_asked frames request t target world (Running stack) =
    in_frame stack (answered frames target (asked_of request t world).1 stack.frame)
thread_asked frames request t target world (Exiting n) = Exiting n
thread_asked frames request t target world Ended = Ended

-- an action that a thread does alone, where the memory that it sees is this
abbrev pub cause_at : {F D : Type 0} → Frames F D → Memory → ℕ → Thread F → Action → Option Cause
cause_at frames mem t (Running stack) action = failure frames mem.places t stack action
cause_at frames mem t (Exiting n) action = None
cause_at frames mem t Ended action = None

abbrev pub thread_at : {F D : Type 0} → Frames F D → Memory → ℕ → D → Thread F → Action → Thread F
thread_at frames mem t target (Running stack) action =
    where_done (failure frames mem.places t stack action) (thread_after frames target stack action (word_read mem action)) (Running stack)
thread_at frames mem t target (Exiting n) action = Exiting n
thread_at frames mem t target Ended action = Ended

abbrev pub memory_at : {F D : Type 0} → Frames F D → Memory → ℕ → Thread F → Action → Memory
memory_at frames mem t (Running stack) action =
    where_done (failure frames mem.places t stack action) (memory_with (store_of action (word_read mem action)) mem) mem
memory_at frames mem t (Exiting n) action = mem
memory_at frames mem t Ended action = mem

-- ---- what takes more than a thread and memory

abbrev pub outside_of : Action → Option Outside
outside_of (Assign n) = None
outside_of (Reserve size) = None
outside_of (Read place atomic) = None
outside_of (Write place n atomic) = None
outside_of (Update place update) = None
outside_of Pass = None
outside_of (Jump label) = None
outside_of (Call n words) = None
outside_of (Ask request) = Some (Asks request)
outside_of (Create address n argument) = Some (Creates address n argument)
outside_of (Join other) = Some (Joins other)
outside_of (Exit code) = Some (Exits code)
outside_of (Return n) = None
outside_of (Fault cause) = None

abbrev pub action_for : Outside → Action
action_for (Asks request) = Ask request
action_for (Creates address n argument) = Create address n argument
action_for (Joins other) = Join other
action_for (Exits code) = Exit code

-- a thread that runs does an action; no other does
abbrev pub acted_by : {F D : Type 0} → Frames F D → ProcessParts F → ℕ → D → Option (Thread F) → Action → ProcessParts F × Step
acted_by frames p t target (Some (Running stack)) action = acted frames p t target stack action
acted_by frames p t target (Some (Exiting n)) action = (p, Idle)
acted_by frames p t target (Some Ended) action = (p, Idle)
acted_by frames p t target None action = (p, Idle)

abbrev pub acted_at : {F D : Type 0} → Frames F D → ProcessParts F → ℕ → D → Action → ProcessParts F × Step
acted_at frames p t target action = acted_by frames p t target (slice_get p.threads t) action

-- the call of thread t is done, with this result
abbrev pub finished_at : {F D : Type 0} → Frames F D → D → ℕ → ℕ → Option (Thread F) → ProcessParts F → ProcessParts F
finished_at frames target n t (Some thread) p = record p { threads = slice_set p.threads t (finished frames target n thread) }
finished_at frames target n t None p = p

abbrev pub with_finished : {F D : Type 0} → Frames F D → D → ℕ → ℕ → ProcessParts F → ProcessParts F
with_finished frames target n t p = finished_at frames target n t (slice_get p.threads t) p

-- a thread stands after the others
abbrev pub with_added : {F : Type 0} → Thread F → ProcessParts F → ProcessParts F
with_added thread p = record p { threads = p.threads ++ thread ∷ [] }

-- a thread runs
abbrev pub runs : {F : Type 0} → Option (Thread F) → Bool
runs (Some (Running stack)) = true
runs (Some (Exiting n)) = false
runs (Some Ended) = false
runs None = false

-- what the instruction at its place asks for
abbrev pub order_at : {F O : Type 0} → (F → Option O) → Option (Thread F) → Option O
order_at order (Some (Running stack)) = order stack.frame
order_at order (Some (Exiting n)) = None
order_at order (Some Ended) = None
order_at order None = None
