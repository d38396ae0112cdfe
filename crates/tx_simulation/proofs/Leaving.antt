-- The end of the program, and of a thread: it ends its transaction and then itself, in one turn.
use Rattle.std.proofs.Common.{ℕ, zero, suc, ◌≡◌, ◌≢◌, ◌⊎◌, ◌∙◌, ◌%◌, ◌^◌, Bool, true, false, List, [], ◌∷◌, ◌++◌, replicate, map, Option, Some, None, slice_get, slice_set, refl, ap, sym, subst, inl, inr}
use Rattle.std.proofs.lemmas.List.{set-set}
use Rattle.ir_core.specs.Module.{ModuleParts}
use Rattle.mem_image.specs.Bytes.{Memory}
use Rattle.inst_meaning.specs.declared.actions.Action.{Action}
use Rattle.process.specs.declared.state.Thread.{Thread}
use Rattle.process.specs.declared.state.Thread.TheVariants.{Running, Exiting, Ended}
use Rattle.process.specs.declared.state.Step.{Step}
use Rattle.process.specs.declared.state.Step.TheVariants.{Went, Waits, Idle, Undefined, Ended as EndsProgram}
use Rattle.process.specs.Process.{with_thread}
use Rattle.src_meaning.specs.declared.state.Frame.{Frame as SourceFrame}
use Rattle.src_meaning.specs.State.{State as SourceState}
use Rattle.src_meaning.specs.Step.{opening, exited, turned, unless_ended, step}
use Rattle.src_meaning.specs.Runs.{source}
use Rattle.src_meaning.specs.Races.{IsGood}
use Rattle.hard_ir.specs.Hardened.{HardParts}
use Rattle.hard_frames.specs.declared.outcome.Stop.{Stop}
use Rattle.hard_frames.specs.declared.outcome.Stop.TheVariants.{End}
use Rattle.hard_frames.specs.declared.state.Frame.{Frame}
use Rattle.hard_simulation.specs.Meaning.{AllWent, code_of}
use Rattle.hard_simulation.proofs.Sides.{Sides, IsHurt}
use Rattle.hard_simulation.proofs.Turns.{state-append, answers-append, answers-more}
use Rattle.hard_meaning.specs.State.{Transaction, Mode, Free, Inside, Worker, Upset, State, seen_in}
use Rattle.hard_meaning.specs.Aborts.{Locked, spared}
use Rattle.hard_meaning.specs.Effects.{with_worker}
use Rattle.hard_meaning.specs.Runtime.{outside, committed, closed, is_empty, can_end, where_ends}
use Rattle.hard_meaning.specs.Turns.{left_as, stop_with, left}
use Rattle.hard_meaning.specs.Turns as hard
use Rattle.tx_simulation.proofs.Walks.{set-there}
use Rattle.tx_simulation.proofs.Points.{IsThreadOn}
use Rattle.tx_simulation.proofs.Lines.{never-both}
use Rattle.tx_simulation.proofs.Races.{next_of}
use Rattle.tx_simulation.proofs.Facts.{IsWorker, IsCarried, OkIn, IsRested, Facts, machine_of}
use Rattle.tx_simulation.proofs.Kept.{goes-kept}
use Rattle.tx_simulation.proofs.Inner.{Link, LinkAt}
use Rattle.tx_simulation.proofs.Holds.{Holds, Runs, Over, IsOver, no_claim, map-none, spared-none, aborts}
use Rattle.tx_simulation.proofs.Commits.{is-empty, committed_source, committed_worker, committed-facts}

-- memory that stays is rested on
pub rested-same : (mem : Memory) (mode : Mode) (next : Option Action) → IsRested mode next (λ line. ⊥) mem mem
rested-same mem (Free plain) next = record { places = refl; words = λ place valid rests. refl }
rested-same mem (Inside tx) next = λ line p q. absurd p

-- answers that all went, and then the program's end
ended-last : (answers : List Step) (code : ℕ) → AllWent answers → code_of answers ≡ None
    → AllWent (answers ++ EndsProgram code ∷ []) × (code_of (answers ++ EndsProgram code ∷ []) ≡ Some code)
ended-last [] code went none = (refl, refl)
ended-last (Went ∷ answers) code went none = ended-last answers code went none
ended-last (EndsProgram other ∷ []) code went none = cc
ended-last (EndsProgram other ∷ answer ∷ answers) code went none = cc
ended-last (Waits ∷ answers) code went none = absurd went
ended-last (Idle ∷ answers) code went none = absurd went
ended-last (Undefined cause ∷ answers) code went none = absurd went

module _ (m : ModuleParts) (h : HardParts) (arguments : List ℕ) (good : IsGood m arguments) (s : SourceState) (workers : List Worker) (turns : List ℕ)
    (upsets : List Upset) (facts : Facts m h arguments s workers turns upsets) (t : ℕ) where
  -- the source's next step ends the program, whatever the threads are then
  pub ends-program : (code : ℕ) (others : List Worker) → step m s t ≡ (record s { ended = true }, EndsProgram code)
      → Holds m h arguments (record (machine_of s others (turns ++ t ∷ []) upsets) { stop = Some (End code) })
  ends-program code others e = Over (End code) refl (record {
    went = subst (λ (list : List Step). AllWent list) (sym all) last.0;
    ends = ap code_of all ∙ last.1;
    outputs = sym (ap (λ (state : SourceState). state.process.world.outputs) (state-append m (opening m arguments) turns (t ∷ [])
        ∙ ap (λ (now : SourceState). (step m now t).0) facts.state ∙ ap (λ (p : SourceState × Step). p.0) e));
    hit = λ failure. absurd failure;
  })
    where
      all : (source m arguments (turns ++ t ∷ [])).answers ≡ (source m arguments turns).answers ++ EndsProgram code ∷ []
      all = answers-more m arguments turns t ∙ ap (λ (now : SourceState). (source m arguments turns).answers ++ (step m now t).1 ∷ []) facts.state
          ∙ ap (λ (p : SourceState × Step). (source m arguments turns).answers ++ p.1 ∷ []) e

      last : AllWent ((source m arguments turns).answers ++ EndsProgram code ∷ []) × (code_of ((source m arguments turns).answers ++ EndsProgram code ∷ []) ≡ Some code)
      last = ended-last (source m arguments turns).answers code facts.went facts.unended

  module _ (n : ℕ) (at : slice_get s.process.threads t ≡ Some (Exiting n)) where
    exits-as : step m s t ≡ exited s t n
    exits-as = ap (λ (b : Bool). unless_ended b s (turned m s t (slice_get s.process.threads t))) facts.going
        ∙ ap (λ (o : Option (Thread SourceFrame)). turned m s t o) at

    -- a thread outside leaves
    pub leaves : (v : Worker) (plain : Bool) (hard_at : slice_get workers t ≡ Some (record v { thread = Exiting n; mode = Free plain }))
        → Holds m h arguments (left t n (machine_of s (slice_set workers t (record v { thread = left_as t n; mode = Free false; attempts = 0 })) turns upsets))
    leaves v plain hard_at = by_number t refl
      where
        by_number : (u : ℕ) → t ≡ u
            → Holds m h arguments (left u n (machine_of s (slice_set workers u (record v { thread = left_as u n; mode = Free false; attempts = 0 })) turns upsets))
        by_number zero e = subst (λ (u : ℕ). Holds m h arguments (record (machine_of s (slice_set workers zero
            (record v { thread = Exiting n; mode = Free false; attempts = 0 })) (turns ++ u ∷ []) upsets) { stop = Some (End (n % 2 ^ 32)) })) e
            (ends-program (n % 2 ^ 32) _ (exits-as ∙ ap (λ (u : ℕ). exited s u n) e))
        by_number (suc u) e =
            let next : SourceState = record s { process = with_thread s.process (suc u) Ended } in
            let goes : step m s t ≡ (next, Went) = exits-as ∙ ap (λ (k : ℕ). exited s k n) e in
            subst (λ (k : ℕ). Holds m h arguments (machine_of next (slice_set workers k (record v { thread = Ended; mode = Free false; attempts = 0 })) (turns ++ k ∷ []) upsets)) e
            (Runs next (slice_set workers t (record v { thread = Ended; mode = Free false; attempts = 0 })) (turns ++ t ∷ []) upsets refl
            (subst (λ (list : List Worker). Facts m h arguments next (slice_set list t (record v { thread = Ended; mode = Free false; attempts = 0 })) (turns ++ t ∷ []) upsets)
            (map-none workers)
            (goes-kept m h arguments s workers turns upsets facts t (Exiting n) (record v { thread = Exiting n; mode = Free plain }) at hard_at no_claim
            (record v { thread = Ended; mode = Free false; attempts = 0 }) (λ line. ⊥) next Ended 1 None None
            (record { state = ap (λ (p : SourceState × Step). p.0) goes; answers = ap (λ (p : SourceState × Step). p.1 ∷ []) goes; going = facts.going })
            (ap (λ (k : ℕ). slice_set s.process.threads k Ended) (sym e)) tt
            (record { places = refl; before = facts.whole; after = facts.whole; outside = λ address off. refl })
            (λ k z w ne there hard. subst (λ (o : Worker). IsRested o.mode (next_of m z) (λ line. ⊥) s.process.memory s.process.memory) (sym (spared-none w))
            (rested-same s.process.memory w.mode (next_of m z)))
            (record {
              sides = ok.sides;
              hurt = λ z. let c = ok.hurt z in record { number = c.number; carried = c.carried };
              ok = inl tt;
            })
            (λ mode clear apart line p q. never-both false refl p) (λ mode clear apart line p q. never-both false refl q)
            (λ b f. absurd (never-both false refl f)) (λ mode clear free. free)
            (facts.all.named t (record v { thread = Exiting n; mode = Free plain }) hard_at))))
          where
            ok : IsWorker m h s.process.memory t (Exiting n) (record v { thread = Exiting n; mode = Free plain })
            ok = facts.all.each t (Exiting n) (record v { thread = Exiting n; mode = Free plain }) at hard_at

module _ (m : ModuleParts) (h : HardParts) (arguments : List ℕ) (good : IsGood m arguments) (s : SourceState) (workers : List Worker) (turns : List ℕ)
    (upsets : List Upset) (facts : Facts m h arguments s workers turns upsets) (t : ℕ) (x : Thread SourceFrame)
    (at : slice_get s.process.threads t ≡ Some x) (v : Worker) (k : ℕ) where
  -- a thread whose function has returned ends its transaction, where it has one, and itself
  exits-with : (mode : Mode) (hard_at : slice_get workers t ≡ Some (record v { thread = Exiting k; mode = mode })) (sides : Sides)
      (hurt : IsHurt sides → IsCarried (record v { thread = Exiting k; mode = mode })) → LinkAt m h sides s.process.memory t x mode (Exiting k)
      → Holds m h arguments (hard.exited (machine_of s workers turns upsets) t (record v { thread = Exiting k; mode = mode }) k)
  exits-with (Free plain) hard_at sides hurt link = leaves m h arguments good s workers turns upsets facts t k (at ∙ ap Some link) v plain hard_at
  exits-with (Inside tx) hard_at sides hurt link = by_held (is_empty tx.held) refl
    where
      by_held : (b : Bool) → is_empty tx.held ≡ b
          → Holds m h arguments (where_ends b (machine_of s workers turns upsets) t (record v { thread = Exiting k; mode = Inside tx })
          (left t k (closed (machine_of s workers turns upsets) t (Inside tx) (record v { thread = left_as t k; mode = Inside tx }))))
      by_held false e = aborts m h arguments s workers turns upsets facts t x at (record v { thread = Exiting k; mode = Inside tx }) hard_at Locked
      by_held true e =
          let next : SourceState = committed_source m h arguments good s workers turns upsets facts t x at v (Exiting k) tx (Exiting k) in
          let after : Worker = committed_worker m h arguments good s workers turns upsets facts t x at v (Exiting k) tx (Exiting k) v.counter in
          let once : Facts m h arguments next (slice_set workers t after) (turns ++ replicate tx.pending t) upsets =
          committed-facts m h arguments good s workers turns upsets facts t x at v (Exiting k) tx hard_at sides hurt (Exiting k) link (is-empty tx.held e) (Exiting k) v.counter (inl refl) in
          subst (λ (list : List Worker). Holds m h arguments (left t k (machine_of next list (turns ++ replicate tx.pending t) upsets)))
          (set-set workers t after (record v { thread = left_as t k; mode = Free false; attempts = 0; hits = tx.struck ++ v.hits }))
          (leaves m h arguments good next (slice_set workers t after) (turns ++ replicate tx.pending t) upsets once t k
          (set-there s.process.threads t (Exiting k) x at) (record v { attempts = 0; hits = tx.struck ++ v.hits }) false
          (set-there workers t after (record v { thread = Exiting k; mode = Inside tx }) hard_at))

  pub exits : (mode : Mode) (hard_at : slice_get workers t ≡ Some (record v { thread = Exiting k; mode = mode })) (sides : Sides)
      (hurt : IsHurt sides → IsCarried (record v { thread = Exiting k; mode = mode })) (xs : Thread SourceFrame) → LinkAt m h sides s.process.memory t x mode xs
      → IsThreadOn m h sides mode (seen_in mode s.process.memory) xs (Exiting k)
      → Holds m h arguments (hard.exited (machine_of s workers turns upsets) t (record v { thread = Exiting k; mode = mode }) k)
  exits mode hard_at sides hurt (Running a) link is = absurd is
  exits mode hard_at sides hurt (Exiting n) link is =
      exits-with mode hard_at sides hurt (subst (λ (i : ℕ). LinkAt m h sides s.process.memory t x mode (Exiting i)) (sym is) link)
  exits mode hard_at sides hurt Ended link is = absurd is
