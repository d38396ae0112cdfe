-- What holds after each event: the machine goes on with the source, or has stopped where it may, or an upset struck that the theorem doesn't speak
-- of. And what keeps it in either mode: a thread that moves by itself, an abort, a stop.
use Rattle.std.proofs.Common.{ℕ, ◌≡◌, ◌≢◌, ◌⊎◌, ◌∙◌, Bool, true, false, ◌||◌, List, [], ◌∷◌, ◌++◌, map, Option, Some, None, slice_get, slice_set, refl, ap, sym, subst}
use Rattle.std.specs.List.{list_any}
use Rattle.ir_core.specs.Module.{ModuleParts}
use Rattle.mem_image.specs.Touches.{Touch, Store}
use Rattle.line_sets.specs.Sets.{has}
use Rattle.process.specs.declared.state.Thread.{Thread}
use Rattle.process.specs.declared.state.Step.{Step}
use Rattle.process.specs.Outcome.{Effect}
use Rattle.src_meaning.specs.declared.state.Frame.{Frame as SourceFrame}
use Rattle.src_meaning.specs.State.{State as SourceState}
use Rattle.src_meaning.specs.Runs.{source}
use Rattle.hard_ir.specs.Hardened.{HardParts}
use Rattle.hard_frames.specs.declared.outcome.Stop.{Stop}
use Rattle.hard_frames.specs.declared.outcome.Stop.TheVariants.{End, Bound, Fail, Trap}
use Rattle.hard_frames.specs.declared.state.Frame.{Frame}
use Rattle.hard_simulation.specs.Meaning.{AllWent, code_of, IsFailure}
use Rattle.hard_simulation.proofs.Sides.{Sides, Both, Alone, IsHurt}
use Rattle.hard_meaning.specs.State.{Transaction, Mode, Free, Inside, Worker, Upset, Nowhere, OnAnother, InWindow, Struck, State}
use Rattle.hard_meaning.specs.Aborts.{Status, Overflow, Claim, aborted_from, aborted, is_in_the_way, aborted_if, spared}
use Rattle.hard_meaning.specs.Effects.{with_worker, transaction_after, did, where_room}
use Rattle.hard_meaning.specs.Records.{carries}
use Rattle.hard_meaning.specs.Turns.{halted}
use Rattle.tx_simulation.proofs.Owners.{AreFree}
use Rattle.tx_simulation.proofs.Points.{IsFree}
use Rattle.tx_simulation.proofs.Lines.{AreApart, apart-after, apart-before}
use Rattle.tx_simulation.proofs.Facts.{IsWorker, IsCarried, OkIn, InTx, mode_at, mode_of, watched_in, AreNamed, AreWorkers, Facts, machine_of, worker-aborted}
use Rattle.tx_simulation.proofs.Kept.{IsWithin, within-same, within-aborted, named-aborted, moved_with, stays-kept}

-- ---- what holds

-- an upset struck while another stood, or in a window
abbrev pub is_broken : Upset → Bool
is_broken Nowhere = false
is_broken OnAnother = true
is_broken InWindow = true
is_broken Struck = false

-- the code with which the program ended
abbrev pub end_of : Stop → Option ℕ
end_of (End code) = Some code
end_of Bound = None
end_of (Fail tid at) = None
end_of (Trap tid at) = None

-- some thread carries an upset that struck
pub record IsHit (now : State) : Type 0 where
  pub thread : ℕ
  pub worker : Worker
  pub number : ℕ
  pub there : slice_get now.workers thread ≡ Some worker
  pub carried : carries number worker ≡ true
  pub struck : slice_get now.upsets number ≡ Some Struck

-- the machine stopped where the source run on its turns ends, or after a hit
pub record IsOver (m : ModuleParts) (arguments : List ℕ) (now : State) (stop : Stop) : Type 0 where
  pub went : AllWent (source m arguments now.turns).answers
  pub ends : code_of (source m arguments now.turns).answers ≡ end_of stop
  pub outputs : now.world.outputs ≡ (source m arguments now.turns).state.process.world.outputs
  pub hit : IsFailure stop → IsHit now

pub data Holds (m : ModuleParts) (h : HardParts) (arguments : List ℕ) (now : State) : Type 0 where
  Runs : (s : SourceState) (workers : List Worker) (turns : List ℕ) (upsets : List Upset) → now ≡ machine_of s workers turns upsets
      → Facts m h arguments s workers turns upsets → Holds m h arguments now
  Over : (stop : Stop) → now.stop ≡ Some stop → IsOver m arguments now stop → Holds m h arguments now
  Broken : list_any is_broken now.upsets ≡ true → Holds m h arguments now

-- ---- no claim on others

abbrev pub no_claim : Claim
no_claim = record { touch = None; mutex = None }

clear-none : (mode : Mode) → is_in_the_way no_claim mode ≡ false
clear-none (Free plain) = refl
clear-none (Inside tx) = refl

pub spared-none : (v : Worker) → spared no_claim v ≡ v
spared-none v = ap (λ (b : Bool). aborted_if b v) (clear-none v.mode)

pub map-none : (ws : List Worker) → map (spared no_claim) ws ≡ ws
map-none [] = refl
map-none (v ∷ ws) = ap (λ (first : Worker). first ∷ map (spared no_claim) ws) (spared-none v) ∙ ap (λ (rest : List Worker). v ∷ rest) (map-none ws)

module _ (m : ModuleParts) (h : HardParts) (arguments : List ℕ) (s : SourceState) (workers : List Worker) (turns : List ℕ) (upsets : List Upset)
    (facts : Facts m h arguments s workers turns upsets) (t : ℕ) (x : Thread SourceFrame) (at : slice_get s.process.threads t ≡ Some x) where
  abbrev pub now : State
  now = machine_of s workers turns upsets

  module _ (w : Worker) (hard_at : slice_get workers t ≡ Some w) where
    mode-here : mode_at workers t ≡ w.mode
    mode-here = ap mode_of hard_at

    free-here : AreFree s.process.world.owners (watched_in w.mode)
    free-here = subst (λ (mode : Mode). AreFree s.process.world.owners (watched_in mode)) mode-here (facts.all.unowned t)

    named-here : AreNamed upsets w
    named-here = facts.all.named t w hard_at

    -- the thread alone has moved
    pub moved-facts : (w' : Worker) → IsWorker m h s.process.memory t x w' → IsWithin w'.mode w.mode → AreNamed upsets w'
        → Facts m h arguments s (slice_set workers t w') turns upsets
    moved-facts w' is within named = subst (λ (list : List Worker). Facts m h arguments s (slice_set list t w') turns upsets) (map-none workers)
        (stays-kept m h arguments s workers turns upsets facts t x w at hard_at no_claim w' is
        (λ mode clear apart line p q. apart line (within.wrote line p) q) (λ mode clear apart line p q. apart line p (within.touched line q))
        (λ a e. free-here a (within.watched a e)) named)

    pub moves : (w' : Worker) → IsWorker m h s.process.memory t x w' → IsWithin w'.mode w.mode → AreNamed upsets w' → Holds m h arguments (with_worker now t w')
    moves w' is within named = Runs s (slice_set workers t w') turns upsets refl (moved-facts w' is within named)

    -- it is aborted, whatever the cause
    pub aborts : (status : Status) → Holds m h arguments (with_worker now t (aborted status w))
    aborts status = moves (aborted status w) (worker-aborted m h s.process.memory t x w status (facts.all.each t x w at hard_at))
        (within-aborted status w w.mode refl) (named-aborted upsets status w named-here)

    -- and so are those first that stand in the way of its access
    pub aborts-after : (claim : Claim) (status : Status) → Holds m h arguments (record now { workers = slice_set (map (spared claim) workers) t (aborted status w) })
    aborts-after claim status =
        let within : IsWithin (aborted status w).mode w.mode = within-aborted status w w.mode refl in
        Runs s _ turns upsets refl (stays-kept m h arguments s workers turns upsets facts t x w at hard_at claim (aborted status w)
        (worker-aborted m h s.process.memory t x w status (facts.all.each t x w at hard_at))
        (λ mode clear apart line p q. apart line (within.wrote line p) q) (λ mode clear apart line p q. apart line p (within.touched line q))
        (λ a e. free-here a (within.watched a e)) (named-aborted upsets status w named-here))

    -- it is done where the lists have room
    pub rooms : (b : Bool) (next : State) → Holds m h arguments next → Holds m h arguments (where_room b now t w next)
    rooms true next is = is
    rooms false next is = aborts Overflow

  -- ---- a thread, written out

  module _ (v : Worker) (y : Thread Frame) (mode : Mode) (hard_at : slice_get workers t ≡ Some (record v { thread = y; mode = mode }))
      (sides : Sides) (hurt : IsHurt sides → IsCarried (record v { thread = y; mode = mode })) where
    abbrev pub here : Worker
    here = record v { thread = y; mode = mode }

    -- it goes on in its mode, whatever its words of the runtime
    pub settles : (y' : Thread Frame) (attempts counter : ℕ) → OkIn m h sides s.process.memory t x y' mode
        → Holds m h arguments (with_worker now t (record v { thread = y'; mode = mode; attempts = attempts; counter = counter }))
    settles y' attempts counter ok = moves here hard_at (record v { thread = y'; mode = mode; attempts = attempts; counter = counter })
        (record { sides = sides; hurt = λ z. let c = hurt z in record { number = c.number; carried = c.carried }; ok = ok }) (within-same mode) (named-here here hard_at)

    -- outside the machine stops, which a hurt thread alone does; inside it is aborted
    pub halts : (status : Status) (stop : Stop) → IsFailure stop → (IsFree mode → IsHurt sides) → Holds m h arguments (halted status stop now t here mode)
    halts status stop failure hurts = by_mode mode refl
      where
        none : (stop : Stop) → IsFailure stop → end_of stop ≡ None
        none (End code) e = absurd e
        none Bound e = absurd e
        none (Fail tid place) e = refl
        none (Trap tid place) e = refl

        over : IsHurt sides → IsOver m arguments (record now { stop = Some stop }) stop
        over z = let c = hurt z in record {
          went = facts.went;
          ends = facts.unended ∙ sym (none stop failure);
          outputs = ap (λ (state : SourceState). state.process.world.outputs) (sym facts.state);
          hit = λ e. record {
            thread = t;
            worker = here;
            number = c.number;
            there = hard_at;
            carried = c.carried;
            struck = named-here here hard_at c.number c.carried;
          };
        }

        by_mode : (k : Mode) → mode ≡ k → Holds m h arguments (halted status stop now t here k)
        by_mode (Free plain) e = Over stop refl (over (hurts (subst IsFree (sym e) tt)))
        by_mode (Inside tx) e = aborts here hard_at status
