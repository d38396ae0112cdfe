-- A request that isn't answered leaves all as it was.
use Rattle.std.specs.Option.{option_map_or}
use Rattle.std.proofs.Common.{ℕ, List, ◌≡◌, ◌∙◌, Option, Some, None, slice_get, slice_set, refl, ap, sym, subst}
use Rattle.ir_core.specs.declared.types.Loc.{Loc}
use Rattle.ir_core.specs.declared.values.Side.{Side}
use Rattle.inst_meaning.specs.declared.actions.Cause.{Cause}
use Rattle.inst_meaning.specs.declared.actions.Request.{Request}
use Rattle.inst_meaning.specs.declared.actions.Reply.{Reply}
use Rattle.inst_meaning.specs.declared.actions.Reply.TheVariants.{Answers, Waits, Refuses}
use Rattle.inst_meaning.specs.World.{WorldParts, asked_of}
use Rattle.process.specs.declared.state.Thread.{Thread}
use Rattle.process.specs.declared.state.Thread.TheVariants.{Running, Exiting, Ended}
use Rattle.process.specs.State.{in_frame}
use Rattle.process.specs.code.Moves.{answered}
use Rattle.process.proofs.Outsides.{quiet, quiet-asked}
use Rattle.hard_ir.specs.Hardened.{HardParts}
use Rattle.hard_frames.specs.declared.state.Frame.{Frame}
use Rattle.hard_frames.specs.Frames.{frames}
use Rattle.tx_machine.specs.Own.{OwnParts, reply_in, world_in, asked_thread}
use Rattle.tx_machine.specs.Core.{CoreParts, reply_at, core_requested}
use Rattle.tx_machine.proofs.Joined.{set-same}

-- an answer changes what it likes
abbrev Stays : {A : Type 0} → Reply → A → A → Type 0
Stays (Answers n) new old = Unit {0}
Stays Waits new old = new ≡ old
Stays (Refuses cause) new old = new ≡ old

same : {A : Type 0} (reply : Reply) (x : A) → Stays reply x x
same (Answers n) x = tt
same Waits x = refl
same (Refuses cause) x = refl

world-stays : (request : Request) (t : ℕ) (world : WorldParts) (thread : Thread Frame)
    → Stays (reply_in request t world thread) (world_in request t world thread) world
world-stays request t world (Running stack) = by_asked (asked_of request t world).0 (asked_of request t world).1 (quiet-asked request t world)
  where
    by_asked : (new : WorldParts) (reply : Reply) → quiet world (new, reply) → Stays reply new world
    by_asked new (Answers n) still = tt
    by_asked new Waits still = still
    by_asked new (Refuses cause) still = still
world-stays request t world (Exiting n) = refl
world-stays request t world Ended = refl

thread-stays : (h : HardParts) (target : Option (Side × Loc)) (request : Request) (t : ℕ) (world : WorldParts) (thread : Thread Frame)
    → Stays (reply_in request t world thread) (asked_thread h target request t world thread) thread
thread-stays h target request t world (Running stack) = by_reply (asked_of request t world).1
  where
    by_reply : (reply : Reply) → Stays reply (in_frame stack (answered (frames h) target reply stack.frame)) (Running stack)
    by_reply (Answers n) = tt
    by_reply Waits = refl
    by_reply (Refuses cause) = refl
thread-stays h target request t world (Exiting n) = refl
thread-stays h target request t world Ended = refl

pub unanswered : (target : Option (Side × Loc)) (request : Request) (t : ℕ) (p : CoreParts)
    → Stays (reply_at p t request) (core_requested target request t p) p
unanswered target request t p = by_place (slice_get p.own t) refl
  where
    by_place : (o : Option OwnParts) → slice_get p.own t ≡ o → Stays (reply_at p t request) (core_requested target request t p) p
    by_place None e = subst (λ (o : Option OwnParts). Stays (option_map_or (λ (w : OwnParts). reply_in request t p.world w.thread) o Waits)
        (record p {
          own = option_map_or (λ w. slice_set p.own t (record w { thread = asked_thread p.program target request t p.world w.thread })) o p.own;
          world = option_map_or (λ (w : OwnParts). world_in request t p.world w.thread) o p.world;
        }) p) (sym e) refl
    by_place (Some w) e = subst (λ (o : Option OwnParts). Stays (option_map_or (λ (w : OwnParts). reply_in request t p.world w.thread) o Waits)
        (record p {
          own = option_map_or (λ w. slice_set p.own t (record w { thread = asked_thread p.program target request t p.world w.thread })) o p.own;
          world = option_map_or (λ (w : OwnParts). world_in request t p.world w.thread) o p.world;
        }) p) (sym e)
        (both (reply_in request t p.world w.thread) (asked_thread p.program target request t p.world w.thread) (world_in request t p.world w.thread)
        (thread-stays p.program target request t p.world w.thread) (world-stays request t p.world w.thread))
      where
        put : (thread : Thread Frame) → thread ≡ w.thread → slice_set p.own t (record w { thread = thread }) ≡ p.own
        put thread is = ap (λ (x : Thread Frame). slice_set p.own t (record w { thread = x })) is ∙ set-same p.own t w e

        both : (reply : Reply) (thread : Thread Frame) (world : WorldParts) → Stays reply thread w.thread → Stays reply world p.world
            → Stays reply (record p { own = slice_set p.own t (record w { thread = thread }); world = world }) p
        both (Answers n) thread world a b = tt
        both Waits thread world a b = ap (λ (ws : List OwnParts). record p { own = ws; world = world }) (put thread a) ∙ ap (λ (x : WorldParts). record p { world = x }) b
        both (Refuses cause) thread world a b =
            ap (λ (ws : List OwnParts). record p { own = ws; world = world }) (put thread a) ∙ ap (λ (x : WorldParts). record p { world = x }) b

pub kept-waiting : (target : Option (Side × Loc)) (request : Request) (t : ℕ) (p : CoreParts)
    → reply_at p t request ≡ Waits → core_requested target request t p ≡ p
kept-waiting target request t p e = subst (λ (r : Reply). Stays r (core_requested target request t p) p) e (unanswered target request t p)

pub refused : (target : Option (Side × Loc)) (request : Request) (t : ℕ) (p : CoreParts) (cause : Cause)
    → reply_at p t request ≡ Refuses cause → core_requested target request t p ≡ p
refused target request t p cause e = subst (λ (r : Reply). Stays r (core_requested target request t p) p) e (unanswered target request t p)
