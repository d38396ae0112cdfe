-- Turns that store nothing: the first of two that do an instruction, and the second, which retires it.
use Rattle.std.proofs.Common.{ℕ, ◌≡◌, ◌≢◌, ◌∙◌, Bool, true, false, List, [], ◌∷◌, ◌++◌, Option, Some, None, slice_get, refl, ap, sym, subst, inl}
use Rattle.ir_core.specs.declared.instruction.Inst.{Inst}
use Rattle.ir_core.specs.Module.{ModuleParts}
use Rattle.mem_image.specs.Bytes.{Memory}
use Rattle.mem_image.specs.Touches.{Touch, Store, stored_with}
use Rattle.mem_image.specs.Views.{Written, stored, view}
use Rattle.rtm_core.specs.Footprint.{written_by, seen_through}
use Rattle.inst_meaning.specs.declared.actions.Cause.{Cause}
use Rattle.inst_meaning.specs.declared.actions.Action.{Action}
use Rattle.inst_meaning.specs.Accesses.{place_of, word_read}
use Rattle.inst_meaning.specs.Action.{destination}
use Rattle.process.specs.declared.state.Thread.{Thread}
use Rattle.process.specs.declared.state.Thread.TheVariants.{Running}
use Rattle.process.specs.declared.state.Step.{Step}
use Rattle.process.specs.declared.state.Step.TheVariants.{Went}
use Rattle.process.specs.Outcome.{Effect, Goes, failure, thread_after, touch_of, store_of, goes_unless, effect_alone, outcome_of}
use Rattle.process.specs.Process.{applied}
use Rattle.process_laws.specs.Alone.{IsAlone}
use Rattle.src_meaning.specs.declared.state.Frame.{Frame as SourceFrame}
use Rattle.src_meaning.specs.State.{State as SourceState}
use Rattle.src_meaning.specs.Step.{frames, action_in, step}
use Rattle.hard_frames.specs.declared.state.Frame.{Frame}
use Rattle.hard_simulation.proofs.Points.{source_code}
use Rattle.hard_meaning.specs.State.{Transaction, Mode, Free, Inside, Worker, seen_in}
use Rattle.hard_meaning.specs.Aborts.{Claim, spared}
use Rattle.hard_meaning.specs.Effects.{transaction_after, mode_after, has_room_in, did, tried}
use Rattle.tx_simulation.proofs.Walks.{outcome-alone}
use Rattle.tx_simulation.proofs.Points.{IfInside, IsThreadOn}
use Rattle.tx_simulation.proofs.Lines.{never-both}
use Rattle.tx_simulation.proofs.Races.{next_of}
use Rattle.tx_simulation.proofs.Facts.{OkIn, IsRested, machine_of}
use Rattle.tx_simulation.proofs.Kept.{stays-kept, goes-kept}
use Rattle.tx_simulation.proofs.Inner.{Link, Covers, written-quiet, buffers-quiet, writes-quiet, link-quiet, link-more, in-tx}
use Rattle.tx_simulation.proofs.Holds.{Holds, Runs, rooms}
use Rattle.tx_simulation.proofs.Acts.{accesses}
use Rattle.tx_simulation.proofs.Outside.{steps-as}
use Rattle.tx_simulation.proofs.Leaving.{rested-same}
use Rattle.tx_simulation.proofs.Scene.{Scene, here, now, seen, AfterTurn, found, can}

-- ---- what is seen

-- an access that stores nothing leaves what the thread sees
seen-quiet : (retires : Bool) (touch : Option Touch) (tx : Transaction) (mem : Memory)
    → seen_through (transaction_after retires touch None tx).footprint mem ≡ seen_through tx.footprint mem
seen-quiet retires touch tx mem = ap (λ (written : Written). view mem written) (written-quiet retires touch tx)

pub seen-after : (retires : Bool) (touch : Option Touch) (mode : Mode) (mem : Memory) → seen_in (mode_after retires touch None mode) mem ≡ seen_in mode mem
seen-after retires touch (Free plain) mem = refl
seen-after retires touch (Inside tx) mem = seen-quiet retires touch tx mem

-- ---- turns that retire nothing

-- the thread with what it has come to
abbrev pub quiet_effect : (mode : Mode) → Scene mode → Thread Frame → Option Touch → Effect Frame
quiet_effect mode c y touch = record { thread = y; world = c.s.process.world; born = None; touch = touch; store = None }

-- it stands for the same source thread
abbrev pub StillOn : (mode : Mode) → Scene mode → Option Touch → Thread Frame → Type 0
StillOn mode c touch y = IsThreadOn c.m c.h c.sides (mode_after false touch None mode) (seen_in mode c.s.process.memory) (Running c.a) y

pub looks : (mode : Mode) (c : Scene mode) (touch : Option Touch) (y : Thread Frame) → StillOn mode c touch y
    → AfterTurn mode c (did (now mode c) c.t (here mode c) false None (quiet_effect mode c y touch))
looks (Free plain) c touch y is =
    Runs c.s _ c.turns c.upsets refl (stays-kept c.m c.h c.arguments c.s c.workers c.turns c.upsets c.facts c.t c.x (here (Free plain) c) c.at c.hard_at
    (record { touch = touch; mutex = None }) (record c.v { thread = y; mode = Free plain })
    (record {
      sides = c.sides;
      hurt = λ z. let k = c.hurt z in record { number = k.number; carried = k.carried };
      ok = inl (subst (λ (x : Thread SourceFrame). IsThreadOn c.m c.h c.sides (Free plain) c.s.process.memory x y) (sym c.link) is);
    })
    (λ mode clear apart. apart) (λ mode clear apart. apart) (λ a e. cc) (c.facts.all.named c.t (here (Free plain) c) c.hard_at))
looks (Inside tx) c touch y is =
    accesses c.m c.h c.arguments c.s c.workers c.turns c.upsets c.facts c.t c.x c.at c.v (Running c.b) tx c.hard_at c.sides c.hurt false touch None y
    (in-tx c.m c.h c.sides c.s.process.memory c.t c.x (Running c.a) y (transaction_after false touch None tx)
    (link-quiet c.m c.h c.sides c.s.process.memory c.t c.x (Running c.a) tx touch c.link)
    (subst (λ (mem : Memory). IsThreadOn c.m c.h c.sides (Inside (transaction_after false touch None tx)) mem (Running c.a) y)
    (sym (seen-quiet false touch tx c.s.process.memory)) is))

-- where its lists have room
pub tries-looking : (mode : Mode) (c : Scene mode) (touch : Option Touch) (y : Thread Frame) → StillOn mode c touch y
    → AfterTurn mode c (tried (now mode c) c.t (here mode c) false None (quiet_effect mode c y touch))
tries-looking mode c touch y is =
    rooms c.m c.h c.arguments c.s c.workers c.turns c.upsets c.facts c.t c.x c.at (here mode c) c.hard_at (has_room_in mode touch)
    (did (now mode c) c.t (here mode c) false None (quiet_effect mode c y touch)) (looks mode c touch y is)

-- ---- turns that retire an instruction

-- the source has an action next that stores nothing
pub record HasQuiet (mode : Mode) (c : Scene mode) : Type 0 where
  pub inst : Inst
  pub after : List Inst
  pub left : source_code c.m c.a.frame ≡ inst ∷ after
  pub action : Action
  pub acts : action_in c.m c.a.frame inst ≡ action
  pub by_itself : IsAlone action
  pub none : (old : ℕ) → store_of action old ≡ None

-- the source's thread once it has done it, with the word that it found
abbrev pub source_then : (mode : Mode) (c : Scene mode) → HasQuiet mode c → Thread SourceFrame
source_then mode c next = thread_after (frames c.m) (destination next.inst) c.a next.action (word_read (seen mode c) next.action)

-- and the hardened thread stands for it
pub record IsQuiet (mode : Mode) (c : Scene mode) (touch : Option Touch) (y : Thread Frame) : Type 0 where
  pub next : HasQuiet mode c
  pub covers : IfInside (mode_after true touch None mode) (Covers (mode_after true touch None mode) (place_of next.action))
  pub stands : IsThreadOn c.m c.h c.sides (mode_after true touch None mode) (seen_in mode c.s.process.memory) (source_then mode c next) y

module _ (mode : Mode) (c : Scene mode) (is : HasQuiet mode c) where
  -- what the source's step comes to
  abbrev quiet_step : Effect SourceFrame
  quiet_step = record {
    thread = thread_after (frames c.m) (destination is.inst) c.a is.action (word_read c.s.process.memory is.action);
    world = c.s.process.world;
    born = None;
    touch = touch_of is.action;
    store = None;
  }

  can-do : failure (frames c.m) c.s.process.memory.places c.t c.a is.action ≡ None
  can-do = subst (λ (action : Action). IsAlone action → failure (frames c.m) c.s.process.memory.places c.t c.a action ≡ None) is.acts
      (can mode c is.inst is.after is.left) is.by_itself

  comes-to : outcome_of (frames c.m) c.s.process c.t (destination is.inst) c.a is.action ≡ Goes quiet_step
  comes-to = outcome-alone (frames c.m) c.s.process c.t (destination is.inst) c.a is.action is.by_itself
      ∙ ap (λ (o : Option Cause). goes_unless o (effect_alone (frames c.m) c.s.process (destination is.inst) c.a is.action)) can-do
      ∙ ap (λ (o : Option Store). Goes (record quiet_step { store = o })) (is.none (word_read c.s.process.memory is.action))

-- outside, whatever stands for the source's thread then
pub retires-outside : (plain : Bool) (c : Scene (Free plain)) (touch : Option Touch) (y : Thread Frame) (is : HasQuiet (Free plain) c)
    → OkIn c.m c.h c.sides c.s.process.memory c.t (source_then (Free plain) c is) y (Free plain)
    → AfterTurn (Free plain) c (did (now (Free plain) c) c.t (here (Free plain) c) true None (quiet_effect (Free plain) c y touch))
retires-outside plain c touch y is ok =
    Runs next _ (c.turns ++ c.t ∷ []) c.upsets refl
    (goes-kept c.m c.h c.arguments c.s c.workers c.turns c.upsets c.facts c.t c.x (here (Free plain) c) c.at c.hard_at
    (record { touch = touch; mutex = None }) (record c.v { thread = y; mode = Free plain }) (λ line. ⊥) next ex.thread 1 None None
    (record { state = ap (λ (p : SourceState × Step). p.0) goes; answers = ap (λ (p : SourceState × Step). p.1 ∷ []) goes; going = c.facts.going })
    refl tt
    (record { places = refl; before = c.facts.whole; after = c.facts.whole; outside = λ address off. refl })
    (λ u z w ne there hard. rested-same c.s.process.memory (spared (record { touch = touch; mutex = None }) w).mode (next_of c.m z))
    (record {
      sides = c.sides;
      hurt = λ z. let k = c.hurt z in record { number = k.number; carried = k.carried };
      ok = ok;
    })
    (λ mode clear apart. apart) (λ mode clear apart. apart) (λ b e. cc) (λ mode clear free. free)
    (c.facts.all.named c.t (here (Free plain) c) c.hard_at))
  where
    ex : Effect SourceFrame
    ex = quiet_step (Free plain) c is

    next : SourceState
    next = record c.s { process = applied c.s.process c.t (Goes ex) }

    goes : step c.m c.s c.t ≡ (next, Went)
    goes = steps-as c.m c.h c.arguments c.good c.s c.workers c.turns c.upsets c.facts c.t c.a (c.at ∙ ap Some c.link) is.inst is.action ex
        (found (Free plain) c is.inst is.after is.left) is.acts (comes-to (Free plain) c is)

retires-inside : (tx : Transaction) (c : Scene (Inside tx)) (touch : Option Touch) (y : Thread Frame) → IsQuiet (Inside tx) c touch y
    → AfterTurn (Inside tx) c (did (now (Inside tx) c) c.t (here (Inside tx) c) true None (quiet_effect (Inside tx) c y touch))
retires-inside tx c touch y is =
    accesses c.m c.h c.arguments c.s c.workers c.turns c.upsets c.facts c.t c.x c.at c.v (Running c.b) tx c.hard_at c.sides c.hurt true touch None y
    (in-tx c.m c.h c.sides c.s.process.memory c.t c.x _ y (transaction_after true touch None tx)
    (subst (λ (o : Option Store). stored_with stored o (written_by tx.footprint) ≡ written_by (transaction_after true touch None tx).footprint → Linked)
    (is.next.none old) link-with (sym (written-quiet true touch tx)))
    (subst (λ (mem : Memory). IsThreadOn c.m c.h c.sides (Inside (transaction_after true touch None tx)) mem (thread_after (frames c.m) (destination is.next.inst) c.a is.next.action old) y)
    (sym (seen-quiet true touch tx c.s.process.memory)) is.stands))
  where
    old : ℕ
    old = word_read (seen (Inside tx) c) is.next.action

    Linked : Type 0
    Linked = Link c.m c.h c.sides c.s.process.memory c.t c.x (transaction_after true touch None tx) (thread_after (frames c.m) (destination is.next.inst) c.a is.next.action old)

    link-with : stored_with stored (store_of is.next.action old) (written_by tx.footprint) ≡ written_by (transaction_after true touch None tx).footprint → Linked
    link-with same = link-more c.m c.h c.sides c.s.process.memory c.t c.x tx touch None c.a is.next.inst is.next.action old c.link
        (found (Inside tx) c is.next.inst is.next.after is.next.left) is.next.acts is.next.by_itself (can-do (Inside tx) c is.next) refl same is.covers
        (buffers-quiet c.s.process.memory.places true touch tx c.link.buffers) (writes-quiet true touch tx c.link.writes)

retires-quietly : (mode : Mode) (c : Scene mode) (touch : Option Touch) (y : Thread Frame) → IsQuiet mode c touch y
    → AfterTurn mode c (did (now mode c) c.t (here mode c) true None (quiet_effect mode c y touch))
retires-quietly (Free plain) c touch y is = retires-outside plain c touch y is.next (inl is.stands)
retires-quietly (Inside tx) c touch y is = retires-inside tx c touch y is

-- where its lists have room
pub tries-quietly : (mode : Mode) (c : Scene mode) (touch : Option Touch) (y : Thread Frame) → IsQuiet mode c touch y
    → AfterTurn mode c (tried (now mode c) c.t (here mode c) true None (quiet_effect mode c y touch))
tries-quietly mode c touch y is =
    rooms c.m c.h c.arguments c.s c.workers c.turns c.upsets c.facts c.t c.x c.at (here mode c) c.hard_at (has_room_in mode touch)
    (did (now mode c) c.t (here mode c) true None (quiet_effect mode c y touch)) (retires-quietly mode c touch y is)
