-- An instruction that is done once, on the master's side, and does what the source does: outside at once, inside as a turn more that waits.
use Rattle.std.proofs.Common.{ℕ, zero, suc, ◌≡◌, ◌⊎◌, ◌∙◌, Bool, true, false, List, [], ◌∷◌, ◌++◌, map, length, Option, Some, None, slice_get, refl, ap, sym, subst, inl, inr}
use Rattle.std.specs.Option.{option_map, is_some}
use Rattle.std.proofs.lemmas.Option.{slice_get-map}
use Rattle.std.proofs.lemmas.List.{length-map}
use Rattle.ir_core.specs.declared.types.Loc.{Loc}
use Rattle.ir_core.specs.declared.values.Side.{Side}
use Rattle.ir_core.specs.declared.instruction.Inst.{Inst}
use Rattle.ir_core.specs.Module.{ModuleParts}
use Rattle.mem_image.specs.Bytes.{Memory}
use Rattle.mem_image.specs.Touches.{Touch, Store, memory_with}
use Rattle.mem_image.specs.Views.{view, stored}
use Rattle.rtm_core.specs.Footprint.{written_by, seen_through}
use Rattle.inst_meaning.specs.declared.actions.Cause.{Cause}
use Rattle.inst_meaning.specs.declared.actions.Action.{Action}
use Rattle.inst_meaning.specs.declared.actions.Action.TheVariants.{Assign, Reserve, Read, Write, Update, Pass, Jump, Call, Ask, Create, Join, Exit, Return, Fault}
use Rattle.inst_meaning.specs.Accesses.{word_read}
use Rattle.inst_meaning.specs.Action.{destination}
use Rattle.process.specs.declared.state.CallStack.{CallStack}
use Rattle.process.specs.declared.state.Thread.{Thread}
use Rattle.process.specs.declared.state.Thread.TheVariants.{Running, Exiting, Ended}
use Rattle.process.specs.declared.state.Step.{Step}
use Rattle.process.specs.declared.state.Step.TheVariants.{Undefined, Ended as EndsProgram}
use Rattle.process.specs.Frames.{Frames}
use Rattle.process.specs.Outcome.{Effect, Outcome, Goes, Waits, Faults, Ends, failure, returned, thread_after, touch_of, store_of, goes_unless, effect_alone, outcome_of}
use Rattle.process.specs.Process.{applied, done}
use Rattle.process_laws.specs.Alone.{IsAlone}
use Rattle.process_laws.proofs.Likeness.{AreOutcomes, BothGo, BothWait, BothFault, BothEnd, AreEffects, Asks, outcomes-alike, same-failure, same-thread, end-alike}
use Rattle.process_laws.proofs.Likeness as likeness
use Rattle.src_meaning.specs.declared.state.Frame.{Frame as SourceFrame}
use Rattle.src_meaning.specs.State.{State as SourceState}
use Rattle.src_meaning.specs.Step as source
use Rattle.src_meaning.specs.Step.{frames, action_in, step}
use Rattle.hard_ir.specs.Hardened.{HardParts}
use Rattle.hard_frames.specs.declared.state.Frame.{Frame}
use Rattle.hard_frames.specs.Frames as hard_frame
use Rattle.hard_simulation.proofs.Sides.{Sides, IsHurt}
use Rattle.hard_simulation.proofs.Points.{source_code}
use Rattle.hard_meaning.specs.State.{Transaction, Mode, Free, Inside, Worker, Upset, seen as seen_by}
use Rattle.hard_meaning.specs.Effects.{transaction_after, has_room_in, did, tried}
use Rattle.hard_meaning.specs.Locks.{MutexCall, mutex_call}
use Rattle.hard_meaning.specs.Turns.{acted}
use Rattle.tx_simulation.proofs.Walks.{Lone, LoneStep, ByItself, OfMutex, Ran, outcome-alone, memory-seen}
use Rattle.tx_simulation.proofs.Points.{Known, Now, alike, IsThreadOn}
use Rattle.tx_simulation.proofs.Facts.{IsWorker, OkIn, InTx, IsInside, IsDoomed, IsAstray, IsGoing, Facts, machine_of}
use Rattle.tx_simulation.proofs.Inner.{Link, after_action, covers-own, adds, link-more, in-tx}
use Rattle.tx_simulation.proofs.Holds.{Holds, Runs, rooms}
use Rattle.tx_simulation.proofs.Acts.{accesses}
use Rattle.tx_simulation.proofs.Outside.{steps-to, acts-outside}
use Rattle.tx_simulation.proofs.Leaving.{ends-program}
use Rattle.renamed_modules.proofs.SamePlaces.{same-place}
use Rattle.tx_simulation.proofs.Scene.{Scene, here, now, seen, AfterTurn, found, can, defined}

-- ---- ends of threads

going-after : (m : ModuleParts) (dst : Option Loc) (stack : CallStack SourceFrame) (action : Action) (old : ℕ) → IsGoing (thread_after (frames m) dst stack action old)
going-after m dst stack (Assign n) old = tt
going-after m dst stack (Reserve size) old = tt
going-after m dst stack (Read place atomic) old = tt
going-after m dst stack (Write place n atomic) old = tt
going-after m dst stack (Update place update) old = tt
going-after m dst stack Pass old = tt
going-after m dst stack (Jump label) old = tt
going-after m dst stack (Call n words) old = tt
going-after m dst stack (Ask request) old = tt
going-after m dst stack (Create address n argument) old = tt
going-after m dst stack (Join other) old = tt
going-after m dst stack (Exit code) old = tt
going-after m dst stack (Return n) old = by_callers stack.callers
  where
    by_callers : (callers : List SourceFrame) → IsGoing (returned (frames m) n stack.frame.mark callers)
    by_callers [] = tt
    by_callers (caller ∷ callers) = tt
going-after m dst stack (Fault cause) old = tt

ran-going : (m : ModuleParts) (mem : Memory) (t : ℕ) (x : Thread SourceFrame) (n : ℕ) (l : Lone) → IsGoing x → Ran m mem t x n l → IsGoing l.thread
ran-going m mem t x zero l going ran = subst (λ (k : Lone). IsGoing k.thread) (sym ran) going
ran-going m mem t x (suc n) l going (k, ran, ByItself stack inst runs stands by_itself can is) =
    subst (λ (j : Lone). IsGoing j.thread) (sym is) (going-after m (destination inst) stack (action_in m stack.frame inst) _)
ran-going m mem t x (suc n) l going (k, ran, OfMutex stack inst call runs stands asks can is) = subst (λ (j : Lone). IsGoing j.thread) (sym is) tt

module _ (m : ModuleParts) (h : HardParts) where
  going-alike : (x : Thread SourceFrame) (y : Thread Frame) (stack : CallStack Frame) → IsGoing x → y ≡ Running stack → likeness.EndAlike (alike m h) x y
  going-alike (Running a) y stack going e = subst (likeness.EndAlike (alike m h) (Running a)) (sym e) tt
  going-alike (Exiting n) y stack going e = subst (likeness.EndAlike (alike m h) (Exiting n)) (sym e) tt
  going-alike Ended y stack going e = absurd going

  -- a thread that runs where another goes on
  both-going : (x z : Thread SourceFrame) (y : Thread Frame) → IsGoing x → IsGoing z → likeness.EndAlike (alike m h) z y → likeness.EndAlike (alike m h) x y
  both-going (Running a) z (Running b) going going' alike = tt
  both-going (Running a) z (Exiting k) going going' alike = tt
  both-going (Running a) (Running b) Ended going going' alike = alike
  both-going (Running a) (Exiting n) Ended going going' alike = alike
  both-going (Running a) Ended Ended going going' alike = absurd going'
  both-going (Exiting n) z (Running b) going going' alike = tt
  both-going (Exiting n) z (Exiting k) going going' alike = tt
  both-going (Exiting n) (Running b) Ended going going' alike = alike
  both-going (Exiting n) (Exiting i) Ended going going' alike = alike
  both-going (Exiting n) Ended Ended going going' alike = absurd going'
  both-going Ended z y going going' alike = absurd going

  kept-going : (sides : Sides) (mem : Memory) (x : Thread SourceFrame) (stack : CallStack Frame) → IsThreadOn m h sides (Free false) mem x (Running stack) → IsGoing x
  kept-going sides mem (Running a) stack is = tt
  kept-going sides mem (Exiting n) stack is = absurd is
  kept-going sides mem Ended stack is = absurd is

  worker-ends : (mem : Memory) (t : ℕ) (x : Thread SourceFrame) (sides : Sides) (y : Thread Frame) (mode : Mode) → OkIn m h sides mem t x y mode
      → likeness.EndAlike (alike m h) x y
  worker-ends mem t x sides y (Free plain) (inl is) = end-alike (alike m h) (Now sides (Free plain) mem) x y is
  worker-ends mem t x sides y (Free plain) (inr (hurt, astray, going)) = going-alike x y astray.stack going astray.is
  worker-ends mem t x sides y (Inside tx) ok = by_inner ok.inner
    where
      going : IsGoing x
      going = kept-going _ mem x tx.kept (ok.kept mem)

      by_inner : IsInside m h sides mem t x y tx ⊎ (IsHurt sides × (IsDoomed m h tx (seen_through tx.footprint mem) y ⊎ IsAstray h y)) → likeness.EndAlike (alike m h) x y
      by_inner (inl i) = both-going x i.now.thread y going (ran-going m mem t x tx.pending i.now going i.ran)
          (end-alike (alike m h) (Now sides (Inside tx) (seen_through tx.footprint mem)) i.now.thread y i.stands)
      by_inner (inr (hurt, inl doomed)) = going-alike x y doomed.stack going doomed.is
      by_inner (inr (hurt, inr astray)) = going-alike x y astray.stack going astray.is

  pub threads-alike : (arguments : List ℕ) (s : SourceState) (workers : List Worker) (turns : List ℕ) (upsets : List Upset) → Facts m h arguments s workers turns upsets
      → likeness.AreEndAlike (alike m h) s.process.threads (map (λ worker. worker.thread) workers)
  threads-alike arguments s workers turns upsets facts = record {
    count = length-map workers (λ worker. worker.thread) ∙ facts.all.count;
    each = λ t. subst (λ (o : Option (Thread Frame)). likeness.EndAlikeAt (alike m h) (slice_get s.process.threads t) o) (sym (slice_get-map (λ worker. worker.thread) workers t))
        (each t (slice_get s.process.threads t) (slice_get workers t) refl refl);
  }
    where
      each : (t : ℕ) (o : Option (Thread SourceFrame)) (p : Option Worker) → slice_get s.process.threads t ≡ o → slice_get workers t ≡ p
          → likeness.EndAlikeAt (alike m h) o (option_map (λ worker. worker.thread) p)
      each t None None e f = tt
      each t (Some x) (Some w) e f = let is = facts.all.each t x w e f in worker-ends s.process.memory t x is.sides w.thread w.mode is.ok
      each t (Some x) None e f =
          let there = same-place s.process.threads workers t x facts.all.count e in
          let clash : Some there.0 ≡ None = sym there.1 ∙ f in cc
      each t None (Some w) e f =
          let there = same-place workers s.process.threads t w (sym facts.all.count) f in
          let clash : Some there.0 ≡ None = sym there.1 ∙ e in cc

-- ---- outside

module _ (plain : Bool) (c : Scene (Free plain)) (inst : Inst) (after : List Inst) (left : source_code c.m c.a.frame ≡ inst ∷ after) (action : Action)
    (acts : action_in c.m c.a.frame inst ≡ action) (target : Option (Side × Loc)) where
  at_frames : slice_get c.s.process.threads c.t ≡ Some (Running c.a)
  at_frames = c.at ∙ ap Some c.link

  step-is : step c.m c.s c.t ≡ source.settled c.s (done c.s.process c.t (outcome_of (frames c.m) c.s.process c.t (destination inst) c.a action))
  step-is = steps-to c.m c.h c.arguments c.good c.s c.workers c.turns c.upsets c.facts c.t c.a at_frames inst action (found (Free plain) c inst after left) acts

  -- memory once the source has done it
  abbrev memory_then : Memory
  memory_then = (applied c.s.process c.t (outcome_of (frames c.m) c.s.process c.t (destination inst) c.a action)).memory

  by-outcome : AreOutcomes (alike c.m c.h) (Now c.sides (Free plain) memory_then) (outcome_of (frames c.m) c.s.process c.t (destination inst) c.a action)
      (outcome_of (hard_frame.frames c.h) (seen_by (now (Free plain) c) (Free plain)) c.t target c.b action)
      → AfterTurn (Free plain) c (acted c.h (now (Free plain) c) c.t (here (Free plain) c) c.b target true action)
  by-outcome (BothGo ex ey e f effects) = rw f (acts-outside c.m c.h c.arguments c.good c.s c.workers c.turns c.upsets c.facts c.t c.a at_frames c.v (Running c.b) plain c.hard_at c.sides c.hurt
      inst action ex ey (found (Free plain) c inst after left) acts e
      (subst (λ (mem : Memory). AreEffects (alike c.m c.h) (Now c.sides (Free plain) mem) ex ey)
      (ap (λ (o : Outcome SourceFrame). (applied c.s.process c.t o).memory) e) effects))
  by-outcome (BothWait e f) = rw f (Runs c.s c.workers c.turns c.upsets refl c.facts)
  by-outcome (BothFault cause e f) = absurd (defined (Free plain) c cause (ap (λ (p : SourceState × Step). p.1)
      (step-is ∙ ap (λ (o : Outcome SourceFrame). source.settled c.s (done c.s.process c.t o)) e)))
  by-outcome (BothEnd code e f) = rw f (ends-program c.m c.h c.arguments c.good c.s c.workers c.turns c.upsets c.facts c.t code c.workers
      (step-is ∙ ap (λ (o : Outcome SourceFrame). source.settled c.s (done c.s.process c.t o)) e))

  pub done-outside : ((mem : Memory) → Asks (alike c.m c.h) (frames c.m) (hard_frame.frames c.h) (Now c.sides (Free plain) mem) (destination inst) target c.a.frame c.b.frame action)
      → AfterTurn (Free plain) c (acted c.h (now (Free plain) c) c.t (here (Free plain) c) c.b target true action)
  done-outside asks = by-outcome (outcomes-alike (alike c.m c.h) (frames c.m) (hard_frame.frames c.h) (Now c.sides (Free plain) memory_then) (destination inst) target c.a c.b
      c.mark c.callers c.s.process (map (λ worker. worker.thread) c.workers) (threads-alike c.m c.h c.arguments c.s c.workers c.turns c.upsets c.facts) c.t action (asks memory_then))

-- ---- inside

module _ (tx : Transaction) (c : Scene (Inside tx)) (inst : Inst) (after : List Inst) (left : source_code c.m c.a.frame ≡ inst ∷ after) (action : Action)
    (acts : action_in c.m c.a.frame inst ≡ action) (by_itself : IsAlone action) (target : Option (Side × Loc)) where
  -- the word that it finds
  abbrev pub word_found : ℕ
  word_found = word_read (seen (Inside tx) c) action

  -- the transaction once it has done it
  abbrev pub transaction_then : Transaction
  transaction_then = after_action true action word_found tx

  can-do : failure (frames c.m) c.s.process.memory.places c.t c.a action ≡ None
  can-do = subst (λ (k : Action). IsAlone k → failure (frames c.m) c.s.process.memory.places c.t c.a k ≡ None) acts (can (Inside tx) c inst after left) by_itself

  link-then : Link c.m c.h c.sides c.s.process.memory c.t c.x transaction_then (thread_after (frames c.m) (destination inst) c.a action word_found)
  link-then =
      let more = adds c.m c.s.process.memory c.t c.a true action word_found tx can-do c.link.buffers c.link.writes in
      link-more c.m c.h c.sides c.s.process.memory c.t c.x tx (touch_of action) (store_of action word_found) c.a inst action word_found c.link
      (found (Inside tx) c inst after left) acts by_itself can-do refl (sym more.written) (covers-own true action (store_of action word_found) tx) more.buffers more.writes

  pub done-inside : mutex_call action ≡ None
      → Asks (alike c.m c.h) (frames c.m) (hard_frame.frames c.h) (Now c.sides (Inside transaction_then) (seen_through transaction_then.footprint c.s.process.memory))
      (destination inst) target c.a.frame c.b.frame action
      → AfterTurn (Inside tx) c (acted c.h (now (Inside tx) c) c.t (here (Inside tx) c) c.b target true action)
  done-inside plain asks = rw (
    plain,
    outcome-alone (hard_frame.frames c.h) (seen_by (now (Inside tx) c) (Inside tx)) c.t target c.b action by_itself,
    same-failure (alike c.m c.h) (frames c.m) (hard_frame.frames c.h) index (destination inst) target c.a c.b c.mark c.callers c.s.process.memory.places c.t action asks ∙ can-do,
  )
      (rooms c.m c.h c.arguments c.s c.workers c.turns c.upsets c.facts c.t c.x c.at (here (Inside tx) c) c.hard_at (has_room_in (Inside tx) (touch_of action)) _
      (accesses c.m c.h c.arguments c.s c.workers c.turns c.upsets c.facts c.t c.x c.at c.v (Running c.b) tx c.hard_at c.sides c.hurt true (touch_of action) (store_of action word_found)
      (thread_after (hard_frame.frames c.h) target c.b action word_found)
      (in-tx c.m c.h c.sides c.s.process.memory c.t c.x (thread_after (frames c.m) (destination inst) c.a action word_found)
      (thread_after (hard_frame.frames c.h) target c.b action word_found) transaction_then link-then
      (same-thread (alike c.m c.h) (frames c.m) (hard_frame.frames c.h) index (destination inst) target c.a c.b c.mark c.callers c.s.process.memory.places c.t action word_found by_itself asks can-do))))
    where
      index : Known
      index = Now c.sides (Inside transaction_then) (seen_through transaction_then.footprint c.s.process.memory)
