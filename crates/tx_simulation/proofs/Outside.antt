-- What an action comes to outside transactions: the source's next step is done at once, and others are aborted that stand in its way.
use Rattle.std.proofs.Common.{ℕ, ◌≡◌, ◌≢◌, ◌⊎◌, ◌∙◌, Bool, true, false, List, [], ◌∷◌, ◌++◌, replicate, Option, Some, None, slice_get, slice_set, refl, ap, sym, subst, inl, inr}
use Rattle.std.specs.Option.{option_map}
use Rattle.ir_core.specs.declared.instruction.Inst.{Inst}
use Rattle.ir_core.specs.Module.{ModuleParts}
use Rattle.mem_image.specs.Bytes.{Memory}
use Rattle.mem_image.specs.Touches.{Touch, Store, memory_with}
use Rattle.inst_meaning.specs.declared.actions.Action.{Action}
use Rattle.inst_meaning.specs.Action.{destination}
use Rattle.process.specs.declared.state.CallStack.{CallStack}
use Rattle.process.specs.declared.state.Thread.{Thread}
use Rattle.process.specs.declared.state.Thread.TheVariants.{Running, Exiting, Ended}
use Rattle.process.specs.declared.state.Step.{Step}
use Rattle.process.specs.declared.state.Step.TheVariants.{Went}
use Rattle.process.specs.Outcome.{Effect, Outcome, Goes, outcome_of}
use Rattle.process.specs.Process.{applied, done}
use Rattle.process_laws.proofs.Likeness.{AreEffects}
use Rattle.process_laws.proofs.Likeness as likeness
use Rattle.src_meaning.specs.declared.state.Frame.{Frame as SourceFrame}
use Rattle.src_meaning.specs.State.{State as SourceState, inst_at}
use Rattle.src_meaning.specs.Step.{frames, action_in, settled, fetched, turned, unless_ended, step}
use Rattle.src_meaning.specs.Races.{race_of, IsGood}
use Rattle.hard_ir.specs.Hardened.{HardParts}
use Rattle.hard_frames.specs.declared.state.Frame.{Frame}
use Rattle.hard_simulation.proofs.Sides.{Sides, Both, IsHurt}
use Rattle.hard_meaning.specs.State.{Mode, Free, Inside, Worker, Upset, State, new_worker}
use Rattle.hard_meaning.specs.Aborts.{Claim, is_in_the_way, spared}
use Rattle.hard_meaning.specs.Effects.{did}
use Rattle.hard_meaning.specs.Locks.{mutex_call, taken_by}
use Rattle.tx_simulation.proofs.Points.{Known, Now, Fresh, IsFresh, alike, IsThreadOn}
use Rattle.tx_simulation.proofs.Lines.{never-both}
use Rattle.tx_simulation.proofs.Races.{next_of}
use Rattle.tx_simulation.proofs.Facts.{IsCarried, Changes, IsRested, Facts, machine_of}
use Rattle.tx_simulation.proofs.Kept.{spared-clear, AreMade, GoesOn, goes-kept}
use Rattle.tx_simulation.proofs.Strangers.{IsStoredLine, changes-line, clear-line, IsMild, mild}
use Rattle.tx_simulation.proofs.Holds.{Holds, Runs}

-- ---- a thread that was just made

callers-now : (m : ModuleParts) (h : HardParts) (mode : Mode) (mem : Memory) (xs : List SourceFrame) (ys : List Frame) → likeness.AreCallers (alike m h) Fresh xs ys
    → likeness.AreCallers (alike m h) (Now Both mode mem) xs ys
callers-now m h mode mem [] [] is = tt
callers-now m h mode mem [] (y ∷ ys) is = is
callers-now m h mode mem (x ∷ xs) [] is = is
callers-now m h mode mem (x ∷ xs) (y ∷ ys) is = (is.0, callers-now m h mode mem xs ys is.1)

-- it stands in any mode over any memory
pub fresh-now : (m : ModuleParts) (h : HardParts) (mode : Mode) (mem : Memory) (x : Thread SourceFrame) (y : Thread Frame)
    → likeness.IsThreadOn (alike m h) Fresh x y → IsThreadOn m h Both mode mem x y
fresh-now m h mode mem (Running a) (Running b) is =
    record { mark = is.mark; frame = is.frame mode mem; callers = callers-now m h mode mem a.callers b.callers is.callers }
fresh-now m h mode mem (Running a) (Exiting k) is = is
fresh-now m h mode mem (Running a) Ended is = is
fresh-now m h mode mem (Exiting n) (Running b) is = is
fresh-now m h mode mem (Exiting n) (Exiting k) is = is
fresh-now m h mode mem (Exiting n) Ended is = is
fresh-now m h mode mem Ended (Running b) is = is
fresh-now m h mode mem Ended (Exiting k) is = is
fresh-now m h mode mem Ended Ended is = is

made-on : (m : ModuleParts) (h : HardParts) (mem : Memory) (x : Thread SourceFrame) (y : Thread Frame) (known : Known) → IsFresh known
    → likeness.IsThreadOn (alike m h) known x y → AreMade m h mem (Some x) (Some (new_worker y))
made-on m h mem x y (Now sides mode old) good is = absurd good
made-on m h mem x y Fresh good is = (λ t. record { sides = Both; hurt = λ z. absurd z; ok = inl (fresh-now m h (Free false) mem x y is) }, refl, refl)

pub made-from : (m : ModuleParts) (h : HardParts) (mem : Memory) (born : Option (Thread SourceFrame)) (made : Option (Thread Frame))
    → likeness.AreBorn (alike m h) born made → AreMade m h mem born (option_map new_worker made)
made-from m h mem None None is = tt
made-from m h mem None (Some y) is = is
made-from m h mem (Some x) None is = is
made-from m h mem (Some x) (Some y) is = made-on m h mem x y is.index is.good is.stands

module _ (m : ModuleParts) (h : HardParts) (arguments : List ℕ) (good : IsGood m arguments) (s : SourceState) (workers : List Worker) (turns : List ℕ)
    (upsets : List Upset) (facts : Facts m h arguments s workers turns upsets) (t : ℕ) (a : CallStack SourceFrame)
    (at : slice_get s.process.threads t ≡ Some (Running a)) where
  no-race : race_of m s ≡ None
  no-race = ap (race_of m) (sym facts.state) ∙ good.race_free turns

  -- the source's next step of the thread
  pub steps-to : (inst : Inst) (action : Action) → inst_at m a.frame ≡ Some inst → action_in m a.frame inst ≡ action
      → step m s t ≡ settled s (done s.process t (outcome_of (frames m) s.process t (destination inst) a action))
  steps-to inst action stands act =
      ap (λ (b : Bool). unless_ended b s (turned m s t (slice_get s.process.threads t))) facts.going
      ∙ ap (λ (o : Option (Thread SourceFrame)). turned m s t o) at ∙ ap (λ (o : Option Inst). fetched m s t a o) stands
      ∙ ap (λ (k : Action). settled s (done s.process t (outcome_of (frames m) s.process t (destination inst) a k))) act

  pub steps-as : (inst : Inst) (action : Action) (effect : Effect SourceFrame) → inst_at m a.frame ≡ Some inst → action_in m a.frame inst ≡ action
      → outcome_of (frames m) s.process t (destination inst) a action ≡ Goes effect
      → step m s t ≡ (record s { process = applied s.process t (Goes effect) }, Went)
  steps-as inst action effect stands act goes =
      steps-to inst action stands act ∙ ap (λ (o : Outcome SourceFrame). settled s (done s.process t o)) goes

  module _ (v : Worker) (y : Thread Frame) (plain : Bool) (hard_at : slice_get workers t ≡ Some (record v { thread = y; mode = Free plain })) (sides : Sides)
      (hurt : IsHurt sides → IsCarried (record v { thread = y; mode = Free plain })) where
    -- what it comes to in the source, it comes to in the machine
    pub acts-outside : (inst : Inst) (action : Action) (ex : Effect SourceFrame) (ey : Effect Frame) → inst_at m a.frame ≡ Some inst
        → action_in m a.frame inst ≡ action → outcome_of (frames m) s.process t (destination inst) a action ≡ Goes ex
        → AreEffects (alike m h) (Now sides (Free plain) (memory_with ex.store s.process.memory)) ex ey
        → Holds m h arguments (did (machine_of s workers turns upsets) t (record v { thread = y; mode = Free plain }) true (taken_by (mutex_call action)) ey)
    acts-outside inst action ex ey stands act outcome effects =
        let claim : Claim = record { touch = ey.touch; mutex = taken_by (mutex_call action) } in
        let after : Worker = record v { thread = ey.thread; mode = Free plain } in
        let next : SourceState = record s { process = applied s.process t (Goes ex) } in
        Runs next _ (turns ++ replicate 1 t) upsets (rw (effects.store, effects.world) refl)
        (goes-kept m h arguments s workers turns upsets facts t (Running a) (record v { thread = y; mode = Free plain }) at hard_at claim after
        (IsStoredLine ex.touch) next ex.thread 1 ex.born (option_map new_worker ey.born)
        (record { state = ap (λ (p : SourceState × Step). p.0) goes; answers = ap (λ (p : SourceState × Step). p.1 ∷ []) goes; going = facts.going })
        refl (made-from m h next.process.memory ex.born ey.born effects.born) changes rested
        (record { sides = sides; hurt = λ z. let c = hurt z in record { number = c.number; carried = c.carried }; ok = inl effects.thread })
        (λ mode clear apart. apart) (λ mode clear apart. apart) (λ b e. absurd (never-both false refl e))
        (λ mode clear free. is-mild.owners mode (clear-source mode clear) free)
        (facts.all.named t (record v { thread = y; mode = Free plain }) hard_at))
      where
        goes : step m s t ≡ (record s { process = applied s.process t (Goes ex) }, Went)
        goes = steps-as inst action ex stands act outcome

        is-mild : IsMild m s t action ex
        is-mild = mild m s no-race facts.going facts.whole t a inst at stands (destination inst) action act ex outcome

        changes : Changes (IsStoredLine ex.touch) s.process.memory (memory_with ex.store s.process.memory)
        changes = changes-line s.process.memory ex.touch ex.store facts.whole is-mild.stores

        clear-source : (mode : Mode) → is_in_the_way (record { touch = ey.touch; mutex = taken_by (mutex_call action) }) mode ≡ false
            → is_in_the_way (record { touch = ex.touch; mutex = taken_by (mutex_call action) }) mode ≡ false
        clear-source mode clear =
            subst (λ (o : Option Touch). is_in_the_way (record { touch = o; mutex = taken_by (mutex_call action) }) mode ≡ false) effects.touch clear

        rested : (u : ℕ) (z : Thread SourceFrame) (w : Worker) → u ≢ t → slice_get s.process.threads u ≡ Some z → slice_get workers u ≡ Some w
            → IsRested (spared (record { touch = ey.touch; mutex = taken_by (mutex_call action) }) w).mode (next_of m z) (IsStoredLine ex.touch) s.process.memory
            (memory_with ex.store s.process.memory)
        rested u z w ne there hard =
            by_mode _ (clear-source _ (spared-clear (record { touch = ey.touch; mutex = taken_by (mutex_call action) }) w))
          where
            by_mode : (mode : Mode) → is_in_the_way (record { touch = ex.touch; mutex = taken_by (mutex_call action) }) mode ≡ false
                → IsRested mode (next_of m z) (IsStoredLine ex.touch) s.process.memory (memory_with ex.store s.process.memory)
            by_mode (Free free) clear = record {
              places = changes.places;
              words = λ place valid next. is-mild.words u z place (λ same. ne (sym same)) there next valid;
            }
            by_mode (Inside other) clear = clear-line ex.touch (taken_by (mutex_call action)) (Inside other) clear
