-- An upset keeps what holds: one that comes while another stands, or in a window, is one that the theorem doesn't speak of; while none stands
-- each thread is whole, and the one that is struck is known by its other side.
use Rattle.std.proofs.Common.{ℕ, zero, suc, ◌≡◌, ◌∙◌, ◌+◌, Bool, true, false, ◌||◌, List, [], ◌∷◌, ◌++◌, length, Option, Some, None, slice_get, refl, ap, arith}
use Rattle.std.specs.List.{list_any}
use Rattle.std.proofs.lemmas.List.Folds.{list_any-append}
use Rattle.ir_core.specs.Module.{ModuleParts}
use Rattle.ir_check.proofs.Members.{or-later, any-in}
use Rattle.process.specs.declared.state.Thread.{Thread}
use Rattle.src_meaning.specs.declared.state.Frame.{Frame as SourceFrame}
use Rattle.src_meaning.specs.State.{State as SourceState}
use Rattle.sched_file.specs.declared.entries.UpsetSpec.{UpsetSpec}
use Rattle.hard_ir.specs.Hardened.{HardParts}
use Rattle.hard_simulation.proofs.Sides.{IsHurt}
use Rattle.hard_meaning.specs.State.{Worker, Upset, Nowhere, OnAnother, InWindow, Struck, State}
use Rattle.hard_meaning.specs.Records.{Hit, carries, hit_if, record_of, records_from, records, stands, some_stands}
use Rattle.hard_meaning.specs.Strikes.{Target, target_of, struck, is_in_window, kind_of, noted, struck_as, struck_at, upset_in, upset_by}
use Rattle.tx_simulation.proofs.Lines.{never-both}
use Rattle.tx_simulation.proofs.Facts.{IsWorker, Facts, machine_of}
use Rattle.tx_simulation.proofs.Holds.{is_broken, Holds, Runs, Broken, moves}
use Rattle.tx_simulation.proofs.StrikeStacks.{IsTarget, target-is}
use Rattle.tx_simulation.proofs.StrikeWorkers.{hurt_worker, within-marked, worker-struck, named-still, named-struck}

-- ---- lists

-- of two lists that are as long, what stands in the one stands beside an item of the other
pub beside : {A B : Type 0} (xs : List A) (ys : List B) → length ys ≡ length xs → (t : ℕ) (y : B) → slice_get ys t ≡ Some y → (x : A) × (slice_get xs t ≡ Some x)
beside xs [] same t y e = absurd cc
beside [] (z ∷ ys) same t y e = absurd cc
beside (x ∷ xs) (z ∷ ys) same zero y e = (x, refl)
beside (x ∷ xs) (z ∷ ys) same (suc t) y e = beside xs ys (grind arith) t y e

-- ---- records

-- the record of an upset, by its number
pub record-at : (workers : List Worker) (first k n : ℕ) (upsets : List Upset) (upset : Upset) → n ≡ first + k → slice_get upsets k ≡ Some upset
    → slice_get (records_from workers first upsets) k ≡ Some (record_of workers n upset)
record-at workers first k n [] upset number e = absurd cc
record-at workers first zero n (other ∷ upsets) upset number e =
    let same : other ≡ upset = cc in
    let here : first ≡ n = grind arith in
    ap (λ (k : ℕ). Some (record_of workers k other)) here ∙ ap (λ (u : Upset). Some (record_of workers n u)) same
record-at workers first (suc k) n (other ∷ upsets) upset number e = record-at workers (suc first) k n upsets upset (grind arith) e

-- what a thread carries is a hit
pub record-hit : (workers : List Worker) (upsets : List Upset) (t k : ℕ) (w : Worker) → slice_get workers t ≡ Some w → carries k w ≡ true
    → slice_get upsets k ≡ Some Struck → slice_get (records_from workers 0 upsets) k ≡ Some Hit
record-hit workers upsets t k w there carried came =
    record-at workers 0 k k upsets Struck (grind arith) came ∙ ap (λ (b : Bool). Some (hit_if b)) (any-in (carries k) w workers (t, there) carried)

module _ (m : ModuleParts) (h : HardParts) (arguments : List ℕ) (s : SourceState) (workers : List Worker) (turns : List ℕ) (upsets : List Upset)
    (facts : Facts m h arguments s workers turns upsets) where
  abbrev now : State
  now = machine_of s workers turns upsets

  -- an upset joins the others, whatever it was
  pub more-upsets : (upset : Upset) → Facts m h arguments s workers turns (upsets ++ upset ∷ [])
  more-upsets upset = record {
    state = facts.state;
    went = facts.went;
    unended = facts.unended;
    going = facts.going;
    whole = facts.whole;
    all = record {
      count = facts.all.count;
      each = facts.all.each;
      apart = facts.all.apart;
      unowned = facts.all.unowned;
      named = λ t w at. named-still upsets upset w (facts.all.named t w at);
    };
  }

  -- while no record stands, each thread is whole
  whole-each : some_stands (records now) ≡ false → (t : ℕ) (x : Thread SourceFrame) (w : Worker) → slice_get workers t ≡ Some w
      → (is : IsWorker m h s.process.memory t x w) → IsHurt is.sides → ⊥
  whole-each none t x w at is z =
      let c = is.hurt z in
      let hit : slice_get (records now) c.number ≡ Some Hit = record-hit workers upsets t c.number w at c.carried (facts.all.named t w at c.number c.carried) in
      never-both (some_stands (records now)) none (any-in stands Hit (records now) (c.number, hit) refl)

  missed : Holds m h arguments (noted now Nowhere)
  missed = Runs s workers turns (upsets ++ Nowhere ∷ []) refl (more-upsets Nowhere)

  broken-last : (kind : Upset) → is_broken kind ≡ true → list_any is_broken (upsets ++ kind ∷ []) ≡ true
  broken-last kind e = list_any-append is_broken upsets (kind ∷ []) ∙ or-later (list_any is_broken upsets) (is_broken kind || false) (ap (λ (b : Bool). b || false) e)

  module _ (upset : UpsetSpec) (w : Worker) (at : slice_get workers upset.tid.0 ≡ Some w) where
    strikes : (to : Target) → IsTarget upset w.thread to → (standing window : Bool) → some_stands (records now) ≡ standing
        → is_in_window h w.mode to.frame to.register ≡ window → Holds m h arguments (struck_as now upset.tid.0 w (struck upset to) (kind_of standing window))
    strikes to target true window e f = Broken (broken-last OnAnother refl)
    strikes to target false true e f = Broken (broken-last InWindow refl)
    strikes to target false false e f =
        let source = beside s.process.threads workers facts.all.count upset.tid.0 w at in
        let is = facts.all.each upset.tid.0 source.0 w source.1 at in
        moves m h arguments s workers turns (upsets ++ Struck ∷ []) (more-upsets Struck) upset.tid.0 source.0 source.1 w at
        (hurt_worker (length upsets) w (struck upset to) w.mode)
        (worker-struck m h s.process.memory upset.tid.0 (length upsets) upset to source.0 w target f is (whole-each e upset.tid.0 source.0 w at is))
        (within-marked (length upsets) w (struck upset to)) (named-struck upsets w (struck upset to) (facts.all.named upset.tid.0 w at))

    by-target : (o : Option Target) → target_of h upset w.thread ≡ o → Holds m h arguments (struck_at h now upset w o)
    by-target None e = missed
    by-target (Some to) e = strikes to (target-is h upset w.thread to e) (some_stands (records now)) (is_in_window h w.mode to.frame to.register) refl refl

  pub upset-kept : (upset : UpsetSpec) → Holds m h arguments (upset_by h now upset)
  upset-kept upset = by_worker (slice_get workers upset.tid.0) refl
    where
      by_worker : (o : Option Worker) → slice_get workers upset.tid.0 ≡ o → Holds m h arguments (upset_in h now upset o)
      by_worker None e = missed
      by_worker (Some w) e = by-target upset w e (target_of h upset w.thread) refl
