-- What a thread does alone, as the code does it: the thread is changed in place, and its own function may return.
use Rattle.std.specs.Prelude.{ℕ, List, [], ◌∷◌, Option, Some, None}
use Rattle.inst_meaning.specs.declared.actions.Cause.{Cause}
use Rattle.inst_meaning.specs.declared.actions.Reply.{Reply}
use Rattle.inst_meaning.specs.declared.actions.Reply.TheVariants.{Answers, Waits as MustWait, Refuses}
use Rattle.process.specs.declared.state.CallStack.{CallStack}
use Rattle.process.specs.declared.state.Thread.{Thread}
use Rattle.process.specs.declared.state.Thread.TheVariants.{Running, Exiting}
use Rattle.process.specs.declared.moves.Local.{Local}
use Rattle.process.specs.declared.moves.Local.TheVariants.{Done, Returned, Failed}
use Rattle.process.specs.Frames.{Frames}

-- a word has come for the first of the frames that wait
abbrev pub first_resumed : {F D : Type 0} → Frames F D → ℕ → List F → List F
first_resumed frames n [] = []
first_resumed frames n (caller ∷ callers) = frames.resume n caller ∷ callers

-- a frame that has asked, once the environment has replied
abbrev pub answered : {F D : Type 0} → Frames F D → D → Reply → F → F
answered frames target (Answers n) frame = frames.result target n frame
answered frames target MustWait frame = frame
answered frames target (Refuses cause) frame = frame

-- the new value where an action was done, and the old one where it failed
abbrev pub where_done : {A : Type 0} → Option Cause → A → A → A
where_done None new old = new
where_done (Some cause) new old = old

-- why an action failed, and what its thread is then
abbrev pub cause_in : Local → Option Cause
cause_in Done = None
cause_in (Returned n) = None
cause_in (Failed cause) = Some cause

abbrev pub thread_in : {F : Type 0} → Local → CallStack F → Thread F
thread_in Done stack = Running stack
thread_in (Returned n) stack = Exiting n
thread_in (Failed cause) stack = Running stack
