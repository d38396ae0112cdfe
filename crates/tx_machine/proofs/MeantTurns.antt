-- A turn of a thread, and an abort that was asked for, are those of the definitions.
use Rattle.std.proofs.Common.{ℕ, zero, suc, ◌≡◌, ◌∙◌, Bool, false, List, [], ◌∷◌, Option, Some, None, slice_get, refl, ap, sym, subst, arith}
use Rattle.std.specs.Option.{is_some, option_map_or, option_flatten}
use Rattle.std.proofs.lemmas.Option.{slice_get_past}
use Rattle.ir_core.specs.declared.instruction.Inst.{Inst}
use Rattle.ir_core.specs.declared.types.Loc.{Loc}
use Rattle.ir_core.specs.declared.values.Side.{Side}
use Rattle.inst_meaning.specs.declared.actions.Action.{Action}
use Rattle.inst_meaning.specs.declared.actions.Action.TheVariants.{Assign, Reserve, Read, Write, Update, Pass, Jump, Call, Ask, Create, Join, Exit, Return, Fault}
use Rattle.process.specs.declared.state.CallStack.{CallStack}
use Rattle.process.specs.declared.state.Thread.{Thread}
use Rattle.process.specs.declared.state.Thread.TheVariants.{Running, Exiting, Ended}
use Rattle.hard_ir.specs.declared.instruction.HInst.{HInst}
use Rattle.hard_ir.specs.declared.instruction.HInst.TheVariants.{Cut, Begin, End as EndTransaction, Tick, Chk, ChkMem, Mov, Do}
use Rattle.hard_frames.specs.declared.state.Frame.{Frame}
use Rattle.hard_frames.specs.Code.{inst_at}
use Rattle.hard_frames.specs.Frames.{action_on, destination_on}
use Rattle.elide.specs.Watches.{WatchParts}
use Rattle.rtm_core.specs.Transactions.{Transaction, thread}
use Rattle.hard_meaning.specs.State.{Worker, State, Upset}
use Rattle.hard_meaning.specs.Aborts.{Other}
use Rattle.hard_meaning.specs.Runs.{abort_in}
use Rattle.hard_meaning.specs.Turns.{acted, stepped, fetched, turned_by, turned, turn_of}
use Rattle.tx_machine.specs.Own.{OwnParts}
use Rattle.tx_machine.specs.Joined.{joined_one, joined}
use Rattle.tx_machine.specs.Core.{CoreParts, aborted_as, core_aborted}
use Rattle.tx_machine.specs.Turned.{core_acted, action_in, action_at, done_as, core_stepped_at, inst_of, inst_in, run_as, core_run, turned_as, core_turn}
use Rattle.tx_machine.specs.Meant.{state_of, AreTied, IsTied, StandsAt}
use Rattle.tx_machine.proofs.Meant.{IsFound, found, worker-is}
use Rattle.tx_machine.proofs.MeantAborts.{aborted-meant, aborted-tied, trapped-meant, trapped-tied}
use Rattle.tx_machine.proofs.MeantPasses.{ticked-meant, ticked-tied, begun-meant, begun-tied}
use Rattle.tx_machine.proofs.MeantEnds.{ended-meant, ended-tied, cut-meant, cut-tied}
use Rattle.tx_machine.proofs.MeantChecks.{checked-meant, checked-tied, copied-meant, copied-tied}
use Rattle.tx_machine.proofs.MeantActions.{alone-meant, alone-tied}
use Rattle.tx_machine.proofs.MeantWatches.{request-meant, request-tied}
use Rattle.tx_machine.proofs.MeantJoins.{awaited-meant, awaited-tied, left-meant, left-tied}
use Rattle.tx_machine.proofs.MeantCreations.{created-meant, created-tied}
use Rattle.tx_machine.proofs.MeantMemory.{memory-meant, memory-tied}
use Rattle.tx_machine.proofs.MeantExits.{exited-meant, exited-tied}

none-joined : (ws : List OwnParts) (xs : List (Option (Transaction (CallStack Frame)))) (ks : List WatchParts) (t : ℕ) → slice_get ws t ≡ None
    → slice_get (joined ws xs ks) t ≡ None
none-joined [] xs ks t e = slice_get_past [] t (omega arith)
none-joined (w ∷ ws) [] ks t e = slice_get_past [] t (omega arith)
none-joined (w ∷ ws) (x ∷ xs) [] t e = slice_get_past [] t (omega arith)
none-joined (w ∷ ws) (x ∷ xs) (k ∷ ks) zero e = cc
none-joined (w ∷ ws) (x ∷ xs) (k ∷ ks) (suc t) e = none-joined ws xs ks t e

-- ---- that it is tied

-- a thread that stands there, in parts that are tied
module _ (p : CoreParts) (t : ℕ) (w : OwnParts) (x : Option (Transaction (CallStack Frame))) (k : WatchParts) (at : StandsAt p t w x k) (ups : List Upset)
    (tied : IsTied p) where
  pub acted-tied : (retires : Bool) (target : Option (Side × Loc)) (action : Action) → IsTied (core_acted retires target action t p)
  acted-tied retires target (Assign n) = alone-tied p t w x k at ups retires target (Assign n) tied
  acted-tied retires target (Reserve size) = alone-tied p t w x k at ups retires target (Reserve size) tied
  acted-tied retires target (Read place atomic) = alone-tied p t w x k at ups retires target (Read place atomic) tied
  acted-tied retires target (Write place n atomic) = alone-tied p t w x k at ups retires target (Write place n atomic) tied
  acted-tied retires target (Update place update) = alone-tied p t w x k at ups retires target (Update place update) tied
  acted-tied retires target Pass = alone-tied p t w x k at ups retires target Pass tied
  acted-tied retires target (Jump label) = alone-tied p t w x k at ups retires target (Jump label) tied
  acted-tied retires target (Call n words) = alone-tied p t w x k at ups retires target (Call n words) tied
  acted-tied retires target (Ask request) = request-tied p t w x k at ups retires target request tied
  acted-tied retires target (Create address n argument) = created-tied p t w x k at ups retires target address n argument tied
  acted-tied retires target (Join other) = awaited-tied p t w x k at ups retires target other tied
  acted-tied retires target (Exit code) = left-tied p t w x k at ups retires target code tied
  acted-tied retires target (Return n) = alone-tied p t w x k at ups retires target (Return n) tied
  acted-tied retires target (Fault cause) = alone-tied p t w x k at ups retires target (Fault cause) tied

  done-tied : (o : Option Action) (retires : Bool) (target : Option (Side × Loc)) → IsTied (done_as o retires target t p)
  done-tied None retires target = tied
  done-tied (Some action) retires target = acted-tied retires target action

  -- where it runs
  module _ (stack : CallStack Frame) (runs : w.thread ≡ Running stack) where
    pub stepped-tied : (inst : HInst) → IsTied (core_stepped_at inst t p)
    stepped-tied Cut = cut-tied p t w x k at ups tied
    stepped-tied Begin = begun-tied p t w x k at ups stack runs tied
    stepped-tied EndTransaction = ended-tied p t w x k at ups tied
    stepped-tied (Tick work) = ticked-tied p t w x k at ups work tied
    stepped-tied (Chk when ty reg) = checked-tied p t w x k at ups when ty reg tied
    stepped-tied (ChkMem ty ptr val) = memory-tied p t w x k at ups ty ptr val tied
    stepped-tied (Mov ty reg) = copied-tied p t w x k at ups reg tied
    stepped-tied (Do side inst retires) = done-tied (action_at p t side inst) retires (destination_on side inst)

    run-tied : (o : Option HInst) → IsTied (run_as o t p)
    run-tied None = trapped-tied p t w x k at ups tied
    run-tied (Some inst) = stepped-tied inst

  by-thread-tied : (thread : Thread Frame) → w.thread ≡ thread → IsTied (turned_as thread t p)
  by-thread-tied (Running stack) e = run-tied stack e (inst_in p t)
  by-thread-tied (Exiting n) e = exited-tied p t w x k at ups n tied
  by-thread-tied Ended e = tied

  -- ---- what it means

  abbrev s : State
  s = state_of p ups

  abbrev one : Worker
  one = joined_one w x k

  module _ (stack : CallStack Frame) (runs : w.thread ≡ Running stack) where
    pub acted-meant : (retires : Bool) (target : Option (Side × Loc)) (action : Action)
        → state_of (core_acted retires target action t p) ups ≡ acted p.program s t one stack target retires action
    acted-meant retires target (Assign n) = alone-meant p t w x k at ups retires target (Assign n) stack runs refl
    acted-meant retires target (Reserve size) = alone-meant p t w x k at ups retires target (Reserve size) stack runs refl
    acted-meant retires target (Read place atomic) = alone-meant p t w x k at ups retires target (Read place atomic) stack runs refl
    acted-meant retires target (Write place n atomic) = alone-meant p t w x k at ups retires target (Write place n atomic) stack runs refl
    acted-meant retires target (Update place update) = alone-meant p t w x k at ups retires target (Update place update) stack runs refl
    acted-meant retires target Pass = alone-meant p t w x k at ups retires target Pass stack runs refl
    acted-meant retires target (Jump label) = alone-meant p t w x k at ups retires target (Jump label) stack runs refl
    acted-meant retires target (Call n words) = alone-meant p t w x k at ups retires target (Call n words) stack runs refl
    acted-meant retires target (Ask request) = request-meant p t w x k at ups retires target request stack runs tied
    acted-meant retires target (Create address n argument) = created-meant p t w x k at ups retires target address n argument tied stack runs
    acted-meant retires target (Join other) = awaited-meant p t w x k at ups retires target stack runs other tied
    acted-meant retires target (Exit code) = left-meant p t w x k at ups retires target stack runs code
    acted-meant retires target (Return n) = alone-meant p t w x k at ups retires target (Return n) stack runs refl
    acted-meant retires target (Fault cause) = alone-meant p t w x k at ups retires target (Fault cause) stack runs refl

    action-is : (side : Side) (inst : Inst) → action_at p t side inst ≡ Some (action_on p.program side stack.frame inst)
    action-is side inst = ap (λ (o : Option OwnParts). option_map_or (λ (v : OwnParts). action_in p.program side inst v.thread) o None) at.made
        ∙ ap (λ (th : Thread Frame). action_in p.program side inst th) runs

    inst-is : inst_in p t ≡ inst_at p.program stack.frame
    inst-is = ap (λ (o : Option OwnParts). option_map_or (λ (v : OwnParts). inst_of p.program v.thread) o None) at.made
        ∙ ap (λ (th : Thread Frame). inst_of p.program th) runs

    pub stepped-meant : (inst : HInst) → state_of (core_stepped_at inst t p) ups ≡ stepped p.program s t one stack inst
    stepped-meant Cut = cut-meant p t w x k at ups stack runs
    stepped-meant Begin = begun-meant p t w x k at ups stack runs
    stepped-meant EndTransaction = ended-meant p t w x k at ups stack runs
    stepped-meant (Tick work) = ticked-meant p t w x k at ups stack runs work
    stepped-meant (Chk when ty reg) = checked-meant p t w x k at ups stack runs when ty reg
    stepped-meant (ChkMem ty ptr val) = memory-meant p t w k ups stack runs ty ptr val x at
    stepped-meant (Mov ty reg) = copied-meant p t w x k at ups stack runs reg
    stepped-meant (Do side inst retires) =
        ap (λ (o : Option Action). state_of (done_as o retires (destination_on side inst) t p) ups) (action-is side inst)
        ∙ acted-meant retires (destination_on side inst) (action_on p.program side stack.frame inst)

    run-by : (o : Option HInst) → state_of (run_as o t p) ups ≡ fetched p.program s t one stack o
    run-by None = trapped-meant p t w x k at ups stack runs
    run-by (Some inst) = stepped-meant inst

    pub run-meant : state_of (core_run t p) ups ≡ fetched p.program s t one stack (inst_at p.program stack.frame)
    run-meant = run-by (inst_in p t) ∙ ap (λ (o : Option HInst). fetched p.program s t one stack o) inst-is

  by-thread : (thread : Thread Frame) → w.thread ≡ thread → p.stop ≡ None → state_of (turned_as thread t p) ups ≡ turned_by p.program s t one thread
  by-thread (Running stack) e going = run-meant stack e
  by-thread (Exiting n) e going = exited-meant p t w x k at ups n e going
  by-thread Ended e going = refl

-- ---- of any thread

module _ (p : CoreParts) (t : ℕ) (ups : List Upset) (tied : IsTied p) where
  place-tied : (o : Option OwnParts) → slice_get p.own t ≡ o → IsTied (option_map_or (λ (w : OwnParts). turned_as w.thread t p) o p)
  place-tied None e = tied
  place-tied (Some w) e =
      let f : IsFound p t w = found p t w tied e in
      by-thread-tied p t w f.tx f.watch f.stands ups tied w.thread refl

  pub turn-tied : IsTied (core_turn t p)
  turn-tied = place-tied (slice_get p.own t) refl

  by-place : (o : Option OwnParts) → slice_get p.own t ≡ o → p.stop ≡ None
      → state_of (option_map_or (λ (w : OwnParts). turned_as w.thread t p) o p) ups ≡ turn_of p.program (state_of p ups) t
  by-place None e going = ap (λ (o : Option Worker). turned p.program (state_of p ups) t o) (sym (none-joined p.own p.rtm.threads p.watches t e))
  by-place (Some w) e going =
      let f : IsFound p t w = found p t w tied e in
      by-thread p t w f.tx f.watch f.stands ups tied w.thread refl going
      ∙ ap (λ (o : Option Worker). turned p.program (state_of p ups) t o) (sym (worker-is p t w f.tx f.watch f.stands ups))

  -- where nothing has stopped
  pub turn-meant : p.stop ≡ None → state_of (core_turn t p) ups ≡ turn_of p.program (state_of p ups) t
  turn-meant going = by-place (slice_get p.own t) refl going

-- ---- an abort that was asked for

module _ (p : CoreParts) (t : ℕ) (ups : List Upset) (tied : IsTied p) where
  -- a thread that wasn't made has no transaction
  never-open : (ws : List OwnParts) (xs : List (Option (Transaction (CallStack Frame)))) (t : ℕ) → slice_get ws t ≡ None → AreTied ws xs
      → is_some (option_flatten (slice_get xs t)) ≡ false
  never-open [] [] zero e so = refl
  never-open [] [] (suc t) e so = refl
  never-open [] (x ∷ xs) zero e so = so.0
  never-open [] (x ∷ xs) (suc t) e so = never-open [] xs t (slice_get_past [] t (omega arith)) so.1
  never-open (w ∷ ws) [] t e so = absurd so
  never-open (w ∷ ws) (x ∷ xs) zero e so = cc
  never-open (w ∷ ws) (x ∷ xs) (suc t) e so = never-open ws xs t e so.1

  nobody : (o : Option (Transaction (CallStack Frame))) → is_some o ≡ false → aborted_as o Other t p ≡ p
  nobody None e = refl
  nobody (Some tx) e = cc

  abort-by : (o : Option OwnParts) → slice_get p.own t ≡ o → state_of (core_aborted Other t p) ups
      ≡ abort_in (state_of p ups) t (slice_get (state_of p ups).workers t)
  abort-by None e = ap (λ (q : CoreParts). state_of q ups) (nobody (thread p.rtm t) (never-open p.own p.rtm.threads t e tied.tied))
      ∙ ap (λ (o : Option Worker). abort_in (state_of p ups) t o) (sym (none-joined p.own p.rtm.threads p.watches t e))
  abort-by (Some w) e =
      let f : IsFound p t w = found p t w tied e in
      aborted-meant p t w f.tx f.watch f.stands ups Other
      ∙ ap (λ (o : Option Worker). abort_in (state_of p ups) t o) (sym (worker-is p t w f.tx f.watch f.stands ups))

  abort-tied-by : (o : Option OwnParts) → slice_get p.own t ≡ o → IsTied (core_aborted Other t p)
  abort-tied-by None e = subst IsTied (sym (nobody (thread p.rtm t) (never-open p.own p.rtm.threads t e tied.tied))) tied
  abort-tied-by (Some w) e =
      let f : IsFound p t w = found p t w tied e in
      aborted-tied p t w f.tx f.watch f.stands ups Other tied

  pub abort-meant : state_of (core_aborted Other t p) ups ≡ abort_in (state_of p ups) t (slice_get (state_of p ups).workers t)
  abort-meant = abort-by (slice_get p.own t) refl

  pub abort-tied : IsTied (core_aborted Other t p)
  abort-tied = abort-tied-by (slice_get p.own t) refl
