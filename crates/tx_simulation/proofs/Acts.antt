-- What an action comes to inside a transaction: an access, and a call of a mutex that is done by watching.
use Rattle.std.proofs.Common.{ℕ, ◌≡◌, ◌≢◌, ◌⊎◌, ◌∙◌, Bool, true, false, not, ◌||◌, ◌&&◌, List, [], ◌∷◌, Option, Some, None, slice_get, refl, ap, sym, subst, ⊎_elim}
use Rattle.std.specs.Option.{is_none}
use Rattle.ir_core.specs.Module.{ModuleParts}
use Rattle.mem_image.specs.Touches.{Touch, Store}
use Rattle.line_sets.specs.Sets.{has, takes, with_member}
use Rattle.inst_meaning.specs.World.{WorldParts, owner_of}
use Rattle.process.specs.declared.state.Thread.{Thread}
use Rattle.process.specs.Outcome.{Effect}
use Rattle.src_meaning.specs.declared.state.Frame.{Frame as SourceFrame}
use Rattle.src_meaning.specs.State.{State as SourceState}
use Rattle.hard_ir.specs.Hardened.{HardParts}
use Rattle.hard_frames.specs.declared.state.Frame.{Frame}
use Rattle.hard_simulation.proofs.Sides.{Sides, IsHurt}
use Rattle.hard_meaning.specs.State.{Transaction, Mode, Free, Inside, Worker, Upset, State}
use Rattle.hard_meaning.specs.Aborts.{Claim, is_in_the_way}
use Rattle.hard_meaning.specs.Effects.{transaction_after, did}
use Rattle.hard_meaning.specs.Locks.{MutexCall, Locks, Unlocks, can_watch, watch_limit, watching}
use Rattle.tx_simulation.proofs.Owners.{AreFree}
use Rattle.tx_simulation.proofs.Walks.{CanCall}
use Rattle.tx_simulation.proofs.Lines.{AreApart, apart-after, apart-before, member-only}
use Rattle.tx_simulation.proofs.Facts.{IsWorker, IsCarried, OkIn, watched_in, mode_at, mode_of, AreNamed, Facts, machine_of}
use Rattle.tx_simulation.proofs.Kept.{stays-kept}
use Rattle.tx_simulation.proofs.Holds.{Holds, Runs}

-- ---- what can be watched

is-none : (o : Option ℕ) → is_none o ≡ true → o ≡ None
is-none None e = refl
is-none (Some n) e = cc

both : (a b : Bool) → (a && b) ≡ true → (a ≡ true) × (b ≡ true)
both true b e = (refl, e)
both false b e = cc

not-true : (b : Bool) → not b ≡ true → b ≡ false
not-true false e = refl
not-true true e = cc

pub can-call : (call : MutexCall) (world : WorldParts) (tx : Transaction) → can_watch call world tx ≡ true → CanCall call tx.held
can-call (Locks a) world tx e =
    not-true (has tx.held a) (both (not (has tx.held a)) (takes watch_limit tx.watched a)
    (both (is_none (owner_of world.owners a)) (not (has tx.held a) && takes watch_limit tx.watched a) e).1).0
can-call (Unlocks a) world tx e = e

free-watched : (call : MutexCall) (world : WorldParts) (tx : Transaction) → can_watch call world tx ≡ true → AreFree world.owners tx.watched
    → AreFree world.owners (watching call tx).watched
free-watched (Locks a) world tx e free b f = ⊎_elim
    (λ same. ap (owner_of world.owners) same
    ∙ is-none (owner_of world.owners a) (both (is_none (owner_of world.owners a)) (not (has tx.held a) && takes watch_limit tx.watched a) e).0)
    (λ among. free b among) (member-only tx.watched a b f)
free-watched (Unlocks a) world tx e free b f = free b f

module _ (m : ModuleParts) (h : HardParts) (arguments : List ℕ) (s : SourceState) (workers : List Worker) (turns : List ℕ) (upsets : List Upset)
    (facts : Facts m h arguments s workers turns upsets) (t : ℕ) (x : Thread SourceFrame) (at : slice_get s.process.threads t ≡ Some x) (v : Worker)
    (y : Thread Frame) (tx : Transaction) (hard_at : slice_get workers t ≡ Some (record v { thread = y; mode = Inside tx }))
    (sides : Sides) (hurt : IsHurt sides → IsCarried (record v { thread = y; mode = Inside tx })) where
  free-here : AreFree s.process.world.owners tx.watched
  free-here = subst (λ (o : Option Worker). AreFree s.process.world.owners (watched_in (mode_of o))) hard_at (facts.all.unowned t)

  -- an access was done
  pub accesses : (retires : Bool) (touch : Option Touch) (store : Option Store) (y' : Thread Frame)
      → OkIn m h sides s.process.memory t x y' (Inside (transaction_after retires touch store tx))
      → Holds m h arguments (did (machine_of s workers turns upsets) t (record v { thread = y; mode = Inside tx }) retires None
      (record { thread = y'; world = s.process.world; born = None; touch = touch; store = store }))
  accesses retires touch store y' ok =
      let after : Worker = record v { thread = y'; mode = Inside (transaction_after retires touch store tx) } in
      let claim : Claim = record { touch = touch; mutex = None } in
      Runs s _ turns upsets refl (stays-kept m h arguments s workers turns upsets facts t x (record v { thread = y; mode = Inside tx }) at hard_at claim after
      (record { sides = sides; hurt = λ z. let c = hurt z in record { number = c.number; carried = c.carried }; ok = ok })
      (λ mode clear apart. apart-after retires touch None store tx mode clear apart)
      (λ mode clear apart. apart-before retires touch None store tx mode clear apart)
      free-here (facts.all.named t (record v { thread = y; mode = Inside tx }) hard_at))

  -- a mutex is watched, and held or no longer
  pub watches : (call : MutexCall) (y' : Thread Frame) → can_watch call s.process.world tx ≡ true
      → OkIn m h sides s.process.memory t x y' (Inside (transaction_after true None None (watching call tx)))
      → Holds m h arguments (did (machine_of s workers turns upsets) t (record v { thread = y; mode = Inside (watching call tx) }) true None
      (record { thread = y'; world = s.process.world; born = None; touch = None; store = None }))
  watches call y' can ok = by_call call can ok
    where
      by_call : (call : MutexCall) → can_watch call s.process.world tx ≡ true
          → OkIn m h sides s.process.memory t x y' (Inside (transaction_after true None None (watching call tx)))
          → Holds m h arguments (did (machine_of s workers turns upsets) t (record v { thread = y; mode = Inside (watching call tx) }) true None
          (record { thread = y'; world = s.process.world; born = None; touch = None; store = None }))
      by_call (Locks a) can ok =
          Runs s _ turns upsets refl (stays-kept m h arguments s workers turns upsets facts t x (record v { thread = y; mode = Inside tx }) at hard_at
          (record { touch = None; mutex = None }) (record v { thread = y'; mode = Inside (transaction_after true None None (watching (Locks a) tx)) })
          (record { sides = sides; hurt = λ z. let c = hurt z in record { number = c.number; carried = c.carried }; ok = ok })
          (λ mode clear apart. apart) (λ mode clear apart. apart) (free-watched (Locks a) s.process.world tx can free-here)
          (facts.all.named t (record v { thread = y; mode = Inside tx }) hard_at))
      by_call (Unlocks a) can ok =
          Runs s _ turns upsets refl (stays-kept m h arguments s workers turns upsets facts t x (record v { thread = y; mode = Inside tx }) at hard_at
          (record { touch = None; mutex = None }) (record v { thread = y'; mode = Inside (transaction_after true None None (watching (Unlocks a) tx)) })
          (record { sides = sides; hurt = λ z. let c = hurt z in record { number = c.number; carried = c.carried }; ok = ok })
          (λ mode clear apart. apart) (λ mode clear apart. apart) free-here
          (facts.all.named t (record v { thread = y; mode = Inside tx }) hard_at))
