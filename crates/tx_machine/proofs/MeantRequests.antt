-- Requests to the environment are those of the definitions.
use Rattle.std.proofs.Common.{ℕ, ◌≡◌, ◌∙◌, Bool, List, Option, refl, ap, sym, subst}
use Rattle.std.specs.Option.{is_some, option_map_or}
use Rattle.ir_core.specs.declared.types.Loc.{Loc}
use Rattle.ir_core.specs.declared.values.Side.{Side}
use Rattle.inst_meaning.specs.World.{WorldParts, asked_of}
use Rattle.inst_meaning.specs.declared.actions.Action.TheVariants.{Ask}
use Rattle.inst_meaning.specs.declared.actions.Request.{Request}
use Rattle.inst_meaning.specs.declared.actions.Reply.{Reply}
use Rattle.inst_meaning.specs.declared.actions.Reply.TheVariants.{Answers, Waits, Refuses}
use Rattle.process.specs.declared.state.CallStack.{CallStack}
use Rattle.process.specs.declared.state.Thread.{Thread}
use Rattle.process.specs.declared.state.Thread.TheVariants.{Running}
use Rattle.process.specs.State.{in_frame}
use Rattle.process.specs.code.Moves.{answered}
use Rattle.process.specs.Outcome.{replied, outcome_of}
use Rattle.hard_ir.specs.Hardened.{HardParts}
use Rattle.hard_frames.specs.declared.state.Frame.{Frame}
use Rattle.hard_frames.specs.Frames.{frames}
use Rattle.elide.specs.Watches.{WatchParts}
use Rattle.rtm_core.specs.Transactions.{Transaction}
use Rattle.hard_meaning.specs.State.{Worker, State, Upset, seen}
use Rattle.hard_meaning.specs.Effects.{did}
use Rattle.hard_meaning.specs.Locks.{mutex_request, taken_by}
use Rattle.hard_meaning.specs.Turns.{settled}
use Rattle.tx_machine.specs.Own.{OwnParts, reply_in, world_in, asked_thread}
use Rattle.tx_machine.specs.Joined.{joined_one}
use Rattle.tx_machine.specs.Core.{CoreParts, own_with, core_told, reply_at, world_at, core_requested, taken_as, core_taking, replied_as, core_asked}
use Rattle.tx_machine.specs.Meant.{state_of, IsTied, StandsAt}
use Rattle.tx_machine.proofs.Meant.{open-is}
use Rattle.tx_machine.proofs.MeantAborts.{trapped-meant, trapped-tied}
use Rattle.tx_machine.proofs.MeantPasses.{with_thread}
use Rattle.tx_machine.proofs.MeantActions.{told_by, told-by, told-program, told-thread, told-stands, told, moved-world}
use Rattle.tx_machine.proofs.MeantCalls.{calling, done-settled, moved_with, takes-meant, takes-tied}

module _ (p : CoreParts) (t : ℕ) (w : OwnParts) (x : Option (Transaction (CallStack Frame))) (k : WatchParts) (at : StandsAt p t w x k) (ups : List Upset)
    (retires : Bool) (target : Option (Side × Loc)) (request : Request) where
  abbrev asking : Thread Frame → Thread Frame
  asking th = asked_thread p.program target request t p.world th

  abbrev told_parts : CoreParts
  told_parts = told p t w x k at ups retires asking

  abbrev world_then : WorldParts
  world_then = world_in request t p.world w.thread

  told-is : core_told retires t p ≡ told_parts
  told-is = told-by retires t p ∙ ap (λ (b : Bool). told_by retires b t p) (open-is p t w x k at ups)

  told-world : told_parts.world ≡ p.world
  told-world = moved-world p t w x k at ups retires asking

  reply-is : reply_at (core_told retires t p) t request ≡ reply_in request t p.world w.thread
  reply-is = ap (λ (r : CoreParts). reply_at r t request) told-is
      ∙ ap (λ (o : Option OwnParts). option_map_or (λ (v : OwnParts). reply_in request t told_parts.world v.thread) o Waits)
      (told-stands p t w k ups retires x at).made
      ∙ ap (λ (th : Thread Frame). reply_in request t told_parts.world th) (told-thread retires (is_some x) w)
      ∙ ap (λ (wo : WorldParts). reply_in request t wo w.thread) told-world

  world-is : world_at told_parts t request ≡ world_then
  world-is = ap (λ (o : Option OwnParts). option_map_or (λ (v : OwnParts). world_in request t told_parts.world v.thread) o told_parts.world)
      (told-stands p t w k ups retires x at).made
      ∙ ap (λ (th : Thread Frame). world_in request t told_parts.world th) (told-thread retires (is_some x) w)
      ∙ ap (λ (wo : WorldParts). world_in request t wo w.thread) told-world

  requested-is : core_requested target request t (core_told retires t p) ≡ moved_with p t w x k at ups retires asking world_then
  requested-is = ap (λ (r : CoreParts). core_requested target request t r) told-is
      ∙ ap (λ (h : HardParts). record told_parts {
        own = own_with t (with_thread (λ (th : Thread Frame). asked_thread h target request t told_parts.world th)) told_parts.own;
        world = world_at told_parts t request;
      }) (told-program retires (is_some x) t p)
      ∙ ap (λ (wo : WorldParts). record told_parts {
        own = own_with t (with_thread (λ (th : Thread Frame). asked_thread p.program target request t wo th)) told_parts.own;
        world = world_at told_parts t request;
      }) told-world
      ∙ ap (λ (wo : WorldParts). moved_with p t w x k at ups retires asking wo) world-is

  taking-is : core_taking request t (core_requested target request t (core_told retires t p))
      ≡ taken_as (taken_by (mutex_request request)) t (moved_with p t w x k at ups retires asking world_then)
  taking-is = ap (λ (r : CoreParts). core_taking request t r) requested-is

  reply-tied : (reply : Reply) → IsTied p → IsTied (replied_as reply retires target request t p)
  reply-tied (Answers n) tied = subst IsTied (sym taking-is) (takes-tied p t w x k at ups retires asking world_then (taken_by (mutex_request request)) tied)
  reply-tied Waits tied = tied
  reply-tied (Refuses cause) tied = trapped-tied p t w x k at ups tied

  pub asked-tied : IsTied p → IsTied (core_asked retires target request t p)
  asked-tied tied = reply-tied (reply_at (core_told retires t p) t request) tied

  -- where it runs
  module _ (stack : CallStack Frame) (runs : w.thread ≡ Running stack) (tied : IsTied p) where
    abbrev mutex : Option ℕ
    mutex = taken_by (mutex_request request)

    abbrev s : State
    s = state_of p ups

    abbrev one : Worker
    one = joined_one w x k

    by-reply : (reply : Reply) → (asked_of request t p.world).1 ≡ reply → state_of (replied_as reply retires target request t p) ups
        ≡ settled p.program s t one stack.frame retires mutex (replied (frames p.program) (seen s one.mode) target stack (asked_of request t p.world).0 reply)
    by-reply (Answers n) e =
        let by_thread : Thread Frame → State = λ th. did s t one retires mutex (calling (asking th) (world_in request t p.world th)) in
        let answer : Reply → Thread Frame = λ r. in_frame stack (answered (frames p.program) target r stack.frame) in
        ap (λ (r : CoreParts). state_of r ups) taking-is
        ∙ takes-meant p t w x k at ups retires asking world_then mutex tied
        ∙ ap by_thread runs
        ∙ ap (λ (r : Reply). did s t one retires mutex (calling (answer r) (asked_of request t p.world).0)) e
        ∙ done-settled p.program s t one stack.frame retires mutex (answer (Answers n)) (asked_of request t p.world).0
    by-reply Waits e = refl
    by-reply (Refuses cause) e = trapped-meant p t w x k at ups stack runs

    -- the environment is asked, and a mutex that it gives is taken
    pub asked-meant : state_of (core_asked retires target request t p) ups
        ≡ settled p.program s t one stack.frame retires mutex (outcome_of (frames p.program) (seen s one.mode) t target stack (Ask request))
    asked-meant = ap (λ (r : Reply). state_of (replied_as r retires target request t p) ups)
        (reply-is ∙ ap (λ (th : Thread Frame). reply_in request t p.world th) runs)
        ∙ by-reply (asked_of request t p.world).1 refl
