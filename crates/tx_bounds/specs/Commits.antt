-- Where transactions commit.
--
-- Choices: a thread has committed where it was inside a transaction, is so no longer, and was not aborted. What is said of a place is said of
-- the thread as it stands before the event.
use Rattle.std.specs.Prelude.{ℕ, ◌≡◌, ◌≤◌, Bool, false, List, Option, Some}
use Rattle.ir_core.specs.declared.types.Loc.{Loc}
use Rattle.ir_core.specs.declared.types.Sym.{Sym}
use Rattle.ir_core.specs.declared.types.Ty.{Ty}
use Rattle.ir_core.specs.declared.values.Side.{Side}
use Rattle.ir_core.specs.declared.values.Val.{Val}
use Rattle.ir_core.specs.declared.instruction.Inst.{Inst}
use Rattle.ir_core.specs.declared.instruction.Inst.TheVariants as insts
use Rattle.ir_calls.specs.Calls.{external_named}
use Rattle.tx_runtime.specs.Words.{threshold}
use Rattle.process.specs.declared.state.CallStack.{CallStack}
use Rattle.process.specs.declared.state.Thread.TheVariants.{Running, Exiting}
use Rattle.hard_ir.specs.declared.instruction.HInst.{HInst}
use Rattle.hard_ir.specs.declared.instruction.HInst.TheVariants.{Cut, End, Do}
use Rattle.hard_ir.specs.Image.{Outer, kind_of}
use Rattle.hard_ir.specs.Hardened.{HardParts}
use Rattle.hard_frames.specs.declared.state.Frame.{Frame}
use Rattle.hard_frames.specs.Code.{inst_at}
use Rattle.hard_frames.specs.Frames.{passed, action_on}
use Rattle.hard_meaning.specs.State.{Transaction, Free, Inside, Worker, State}
use Rattle.hard_meaning.specs.Locks.{MutexCall, mutex_call, can_watch}

-- a thread has committed its transaction
pub record Commits (old new : Worker) : Type 0 where
  pub tx : Transaction
  pub plain : Bool
  pub inside : old.mode ≡ Inside tx
  pub outside : new.mode ≡ Free plain
  pub kept : new.aborts ≡ old.aborts

-- a call of an external other than lock and unlock
pub data IsOuterCall (h : HardParts) : Option HInst → Type 0 where
  Calls : (side : Side) (dst : Option Loc) (ret : Ty) (callee : Sym) (args : List (Ty × Val)) (retires : Bool)
      → kind_of (external_named h.heads callee) ≡ Outer → IsOuterCall h (Some (Do side (insts.Call dst ret callee args) retires))

-- a thread stands at a `cut` that has counted enough work; at the `end` before an external call other than lock and unlock; at a lock or
-- unlock call that can't be done by watching; or its function has returned
pub data MayCommit (h : HardParts) (s : State) (w : Worker) : Type 0 where
  AtCut : (stack : CallStack Frame) → w.thread ≡ Running stack → inst_at h stack.frame ≡ Some Cut → threshold ≤ w.counter → MayCommit h s w
  AtEnd : (stack : CallStack Frame) → w.thread ≡ Running stack → inst_at h stack.frame ≡ Some End → IsOuterCall h (inst_at h (passed stack.frame)) → MayCommit h s w
  AtMutex : (stack : CallStack Frame) (side : Side) (inst : Inst) (retires : Bool) (call : MutexCall) (tx : Transaction) → w.thread ≡ Running stack
      → inst_at h stack.frame ≡ Some (Do side inst retires) → mutex_call (action_on h side stack.frame inst) ≡ Some call → w.mode ≡ Inside tx
      → can_watch call s.world tx ≡ false → MayCommit h s w
  AtExit : (n : ℕ) → w.thread ≡ Exiting n → MayCommit h s w
