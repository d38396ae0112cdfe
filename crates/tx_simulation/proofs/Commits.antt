-- A thread ends its transaction: its own turns become the source's, what it wrote becomes memory, and what struck it stands.
use Rattle.std.proofs.Common.{ℕ, ◌≡◌, ◌≢◌, ◌⊎◌, ◌∙◌, Bool, true, false, ◌||◌, List, [], ◌∷◌, ◌++◌, replicate, Option, Some, None, slice_get, slice_set, refl, ap, sym, subst, inl, inr, ⊎_elim, nat_eq}
use Rattle.std.proofs.lemmas.Bool.{or_cases}
use Rattle.ir_core.specs.Module.{ModuleParts}
use Rattle.mem_image.specs.Accesses.{bytes}
use Rattle.mem_image.specs.Bytes.{peek}
use Rattle.mem_image.specs.Views.{Written, view}
use Rattle.mem_image.proofs.Agreement.{view-lines}
use Rattle.mem_image.proofs.Views.{view-whole}
use Rattle.line_sets.specs.Sets.{has}
use Rattle.rtm_core.specs.Footprint.{written_by, seen_through}
use Rattle.process.specs.declared.state.Thread.{Thread}
use Rattle.process.specs.declared.state.Step.{Step}
use Rattle.process.specs.declared.state.Step.TheVariants.{Went}
use Rattle.src_meaning.specs.declared.state.Frame.{Frame as SourceFrame}
use Rattle.src_meaning.specs.State.{State as SourceState}
use Rattle.src_meaning.specs.Runs.{run_from}
use Rattle.src_meaning.specs.Races.{IsGood}
use Rattle.hard_ir.specs.Hardened.{HardParts}
use Rattle.hard_frames.specs.declared.state.Frame.{Frame}
use Rattle.hard_simulation.proofs.Sides.{Sides, IsHurt}
use Rattle.hard_meaning.specs.State.{Transaction, Mode, Free, Inside, Worker, Upset, State, seen_in}
use Rattle.hard_meaning.specs.Aborts.{Locked, is_in_the_way, spared}
use Rattle.hard_meaning.specs.Effects.{with_worker}
use Rattle.hard_meaning.specs.Records.{carries}
use Rattle.hard_meaning.specs.Runtime.{outside, committed, closed, is_empty, can_end, where_ends, ended}
use Rattle.tx_simulation.proofs.Owners.{AreFree, owners_with}
use Rattle.tx_simulation.proofs.Walks.{Lone, state_at, same-process, Walked, solo}
use Rattle.tx_simulation.proofs.Points.{wrote, touched}
use Rattle.tx_simulation.proofs.Lines.{AreApart, or-left, or-right, never-both}
use Rattle.tx_simulation.proofs.Races.{next_of, walk-leaves}
use Rattle.tx_simulation.proofs.Again.{AreAlike}
use Rattle.tx_simulation.proofs.Facts.{IsCarried, OkIn, Changes, IsRested, mode_of, watched_in, AreNamed, Facts, machine_of}
use Rattle.tx_simulation.proofs.Kept.{within-free, GoesOn, goes-kept}
use Rattle.tx_simulation.proofs.Inner.{Link, LinkAt}
use Rattle.tx_simulation.proofs.Holds.{Holds, Runs, no_claim, map-none, spared-none, moves, aborts}

-- ---- what was carried

has-either : (xs ys : List ℕ) (k : ℕ) → has (xs ++ ys) k ≡ (has xs k || has ys k)
has-either [] ys k = refl
has-either (x ∷ xs) ys k = ap (λ (b : Bool). nat_eq k x || b) (has-either xs ys k) ∙ regroup (nat_eq k x) (has xs k) (has ys k)
  where
    regroup : (a b c : Bool) → (a || (b || c)) ≡ ((a || b) || c)
    regroup true b c = refl
    regroup false b c = refl

carried-on : (hits struck : List ℕ) (k : ℕ) → (has hits k || has struck k) ≡ true → (has (struck ++ hits) k || false) ≡ true
carried-on hits struck k e = or-left (has (struck ++ hits) k) false (has-either struck hits k ∙ ⊎_elim
    (λ f. or-right (has struck k) (has hits k) f) (λ f. or-left (has struck k) (has hits k) f) (or_cases (has hits k) (has struck k) e))

carried-from : (hits struck : List ℕ) (k : ℕ) → (has (struck ++ hits) k || false) ≡ true → (has hits k || has struck k) ≡ true
carried-from hits struck k e = ⊎_elim
    (λ f. ⊎_elim (λ g. or-right (has hits k) (has struck k) g) (λ g. or-left (has hits k) (has struck k) g)
    (or_cases (has struck k) (has hits k) (sym (has-either struck hits k) ∙ f)))
    (λ f. absurd (never-both false refl f)) (or_cases (has (struck ++ hits) k) false e)

pub is-empty : (held : List ℕ) → is_empty held ≡ true → held ≡ []
is-empty [] e = refl
is-empty (a ∷ held) e = cc

module _ (m : ModuleParts) (h : HardParts) (arguments : List ℕ) (good : IsGood m arguments) (s : SourceState) (workers : List Worker) (turns : List ℕ)
    (upsets : List Upset) (facts : Facts m h arguments s workers turns upsets) (t : ℕ) (x : Thread SourceFrame)
    (at : slice_get s.process.threads t ≡ Some x) (v : Worker) (y : Thread Frame) where
  -- the source once the thread's own turns are done
  abbrev pub committed_source : Transaction → Thread SourceFrame → SourceState
  committed_source tx xs = record s {
    process = record { memory = seen_through tx.footprint s.process.memory; threads = slice_set s.process.threads t xs; world = s.process.world };
  }

  -- the thread once it has committed
  abbrev pub committed_worker : Transaction → Thread Frame → ℕ → Worker
  committed_worker tx y' counter = record v { thread = y'; mode = Free false; attempts = 0; counter = counter; hits = tx.struck ++ v.hits }

  module _ (tx : Transaction) (hard_at : slice_get workers t ≡ Some (record v { thread = y; mode = Inside tx })) (sides : Sides)
      (hurt : IsHurt sides → IsCarried (record v { thread = y; mode = Inside tx })) (xs : Thread SourceFrame)
      (link : Link m h sides s.process.memory t x tx xs) (none : tx.held ≡ []) where
    free-locked : AreFree s.process.world.owners link.now.locked
    free-locked a e = subst (λ (o : Option Worker). AreFree s.process.world.owners (watched_in (mode_of o))) hard_at (facts.all.unowned t) a (link.locked a e)

    arrives : state_at s t link.now ≡ committed_source tx xs
    arrives = same-process m s t x at facts.going facts.whole _ _ _ _ _ _ (ap (view s.process.memory) link.written)
        (ap (slice_set s.process.threads t) link.thread)
        (ap (λ (held : List ℕ). record s.process.world { owners = owners_with t held s.process.world.owners }) (link.held ∙ none))

    walked : Walked m s t tx.pending link.now
    walked = solo m s t x tx.pending link.now at facts.going facts.whole free-locked link.ran

    goes : GoesOn m h arguments s workers turns upsets facts t x (record v { thread = y; mode = Inside tx }) at hard_at (committed_source tx xs) tx.pending
    goes = record { state = walked.state ∙ arrives; answers = walked.answers; going = facts.going }

    abbrev changed : ℕ → Type 0
    changed line = wrote (Inside tx) line ≡ true

    changes : Changes changed s.process.memory (seen_through tx.footprint s.process.memory)
    changes = record {
      places = refl;
      before = facts.whole;
      after = view-whole s.process.memory (written_by tx.footprint) facts.whole;
      outside = view-lines changed s.process.memory (written_by tx.footprint) link.writes;
    }

    -- the others rest on nothing that changed
    rested : (u : ℕ) (z : Thread SourceFrame) (w : Worker) → u ≢ t → slice_get s.process.threads u ≡ Some z → slice_get workers u ≡ Some w
        → IsRested (spared no_claim w).mode (next_of m z) changed s.process.memory (seen_through tx.footprint s.process.memory)
    rested u z w ne there hard = subst (λ (k : Worker). IsRested k.mode (next_of m z) changed s.process.memory (seen_through tx.footprint s.process.memory))
        (sym (spared-none w)) (by_mode w.mode refl)
      where
        by_mode : (mode : Mode) → w.mode ≡ mode → IsRested mode (next_of m z) changed s.process.memory (seen_through tx.footprint s.process.memory)
        by_mode (Free plain) e = record {
          places = refl;
          words = λ place valid next. sym (ap (λ (f : Written). peek (view s.process.memory f) place.address (bytes place.size)) (sym link.written)
              ∙ walk-leaves m arguments good s turns facts.state facts.going facts.whole t u x z (λ same. ne (sym same)) at there place next valid tx.pending link.now free-locked link.ran);
        }
        by_mode (Inside other) e = λ line p q. facts.all.apart t u (λ same. ne (sym same)) line
            (subst (λ (o : Option Worker). wrote (mode_of o) line ≡ true) (sym hard_at) p)
            (subst (λ (o : Option Worker). touched (mode_of o) line ≡ true) (sym hard) (subst (λ (mode : Mode). touched mode line ≡ true) (sym e) q))

    pub committed-facts : (y' : Thread Frame) (counter : ℕ) → OkIn m h sides (seen_through tx.footprint s.process.memory) t xs y' (Free false)
        → Facts m h arguments (committed_source tx xs) (slice_set workers t (committed_worker tx y' counter)) (turns ++ replicate tx.pending t) upsets
    committed-facts y' counter ok =
        subst (λ (list : List Worker). Facts m h arguments (committed_source tx xs) (slice_set list t (committed_worker tx y' counter)) (turns ++ replicate tx.pending t) upsets)
        (map-none workers)
        (goes-kept m h arguments s workers turns upsets facts t x (record v { thread = y; mode = Inside tx }) at hard_at no_claim (committed_worker tx y' counter)
        changed (committed_source tx xs) xs tx.pending None None goes refl tt changes rested
        (record {
          sides = sides;
          hurt = λ z. let c = hurt z in record { number = c.number; carried = carried-on v.hits tx.struck c.number c.carried };
          ok = ok;
        })
        (λ mode clear apart line p q. never-both false refl p) (λ mode clear apart line p q. never-both false refl q)
        (λ a e. absurd (never-both false refl e)) (λ mode clear free. free)
        (λ k e. facts.all.named t (record v { thread = y; mode = Inside tx }) hard_at k (carried-from v.hits tx.struck k e)))

  -- ---- in either mode

  abbrev pub EndsAs : Sides → Thread SourceFrame → Mode → Thread Frame → Type 0
  EndsAs sides xs mode y' = OkIn m h sides (seen_in mode s.process.memory) t xs y' (Free false)

  -- it ends its transaction, where it has one, and goes on as it moved; or it is aborted, since it holds a mutex
  pub ends : (mode : Mode) (hard_at : slice_get workers t ≡ Some (record v { thread = y; mode = mode })) (sides : Sides)
      (hurt : IsHurt sides → IsCarried (record v { thread = y; mode = mode })) (xs : Thread SourceFrame) → LinkAt m h sides s.process.memory t x mode xs
      → (y' : Thread Frame) (counter : ℕ) → EndsAs sides xs mode y'
      → Holds m h arguments (ended (machine_of s workers turns upsets) t (record v { thread = y; mode = mode }) (record v { thread = y'; mode = mode; counter = counter }))
  ends (Free plain) hard_at sides hurt xs link y' counter ok =
      moves m h arguments s workers turns upsets facts t x at (record v { thread = y; mode = Free plain }) hard_at
      (record v { thread = y'; mode = Free false; attempts = 0; counter = counter })
      (record {
        sides = sides;
        hurt = λ z. let c = hurt z in record { number = c.number; carried = c.carried };
        ok = subst (λ (z : Thread SourceFrame). OkIn m h sides s.process.memory t z y' (Free false)) (sym link) ok;
      })
      (within-free false (Free plain)) (facts.all.named t (record v { thread = y; mode = Free plain }) hard_at)
  ends (Inside tx) hard_at sides hurt xs link y' counter ok = by_held (is_empty tx.held) refl
    where
      by_held : (b : Bool) → is_empty tx.held ≡ b
          → Holds m h arguments (where_ends b (machine_of s workers turns upsets) t (record v { thread = y; mode = Inside tx })
          (closed (machine_of s workers turns upsets) t (Inside tx) (record v { thread = y'; mode = Inside tx; counter = counter })))
      by_held true e = Runs (committed_source tx xs) _ (turns ++ replicate tx.pending t) upsets refl
          (committed-facts tx hard_at sides hurt xs link (is-empty tx.held e) y' counter ok)
      by_held false e = aborts m h arguments s workers turns upsets facts t x at (record v { thread = y; mode = Inside tx }) hard_at Locked
