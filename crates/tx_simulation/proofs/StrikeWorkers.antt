-- A worker outlives an upset outside windows while it is whole: it is hurt from then on, and carries the upset's number.
use Rattle.std.proofs.Common.{ℕ, zero, suc, ◌≡◌, ◌⊎◌, ◌∙◌, Bool, true, false, ◌||◌, List, [], ◌∷◌, ◌++◌, length, Some, slice_get, refl, ap, sym, subst, inl, inr, nat_eq, eq-eqb, eqb-true}
use Rattle.ir_core.specs.Module.{ModuleParts}
use Rattle.line_sets.specs.Sets.{has}
use Rattle.mem_image.specs.Bytes.{Memory}
use Rattle.rtm_core.specs.Footprint.{seen_through}
use Rattle.inst_meaning.specs.declared.actions.Place.{Place}
use Rattle.process.specs.declared.state.Thread.{Thread}
use Rattle.process.specs.declared.state.Thread.TheVariants.{Running}
use Rattle.src_meaning.specs.declared.state.Frame.{Frame as SourceFrame}
use Rattle.sched_file.specs.declared.entries.UpsetSpec.{UpsetSpec}
use Rattle.hard_ir.specs.Hardened.{HardParts}
use Rattle.hard_frames.specs.declared.state.Frame.{Frame}
use Rattle.hard_simulation.proofs.Sides.{Sides, Both, Alone, IsHurt}
use Rattle.hard_meaning.specs.State.{Transaction, Mode, Free, Inside, Worker, Upset, Struck}
use Rattle.hard_meaning.specs.Records.{carries, struck_in}
use Rattle.hard_meaning.specs.Strikes.{Target, struck, is_in_window, marked}
use Rattle.tx_simulation.proofs.Points.{IsThreadOn}
use Rattle.tx_simulation.proofs.Lines.{or-left, or-right}
use Rattle.tx_simulation.proofs.Facts.{AllTouched, IsInside, IsDoomed, IsAstray, back_to, InTx, OkIn, IsWorker, AreNamed}
use Rattle.tx_simulation.proofs.Kept.{IsWithin, within-same}
use Rattle.tx_simulation.proofs.Checking.{get-behind}
use Rattle.tx_simulation.proofs.StrikeFrames.{struck_mode}
use Rattle.tx_simulation.proofs.StrikeStacks.{known_after, IsTarget, thread-struck}

-- ---- what stands in either mode

all-touched : (k : ℕ) (tx : Transaction) (places : List Place) → AllTouched (Inside tx) places → AllTouched (struck_mode k (Inside tx)) places
all-touched k tx [] all = tt
all-touched k tx (place ∷ places) all = (all.0, all-touched k tx places all.1)

-- what was whole at a transaction's beginning is given back whole
back-both : (numbers : List ℕ) → back_to numbers Both ≡ Both
back-both [] = refl
back-both (n ∷ numbers) = refl

module _ (m : ModuleParts) (h : HardParts) (mem : Memory) (t k : ℕ) (upset : UpsetSpec) (to : Target) (x : Thread SourceFrame) (y : Thread Frame) (target : IsTarget upset y to) where
  abbrev after : Sides
  after = known_after upset.side

  inside-struck : (tx : Transaction) → is_in_window h (Inside tx) to.frame to.register ≡ false → IsInside m h Both mem t x y tx
      → IsInside m h after mem t x (struck upset to) (record tx { struck = k ∷ tx.struck })
  inside-struck tx outside o = record {
    now = o.now;
    ran = o.ran;
    written = o.written;
    accessed = all-touched k tx o.now.accessed o.accessed;
    held = o.held;
    locked = o.locked;
    buffers = o.buffers;
    writes = o.writes;
    stands = thread-struck m h k (Inside tx) (seen_through tx.footprint mem) upset to o.now.thread y target outside o.stands;
  }

  tx-struck : (tx : Transaction) → is_in_window h (Inside tx) to.frame to.register ≡ false → InTx m h Both mem t x y tx
      → InTx m h after mem t x (struck upset to) (record tx { struck = k ∷ tx.struck })
  tx-struck tx outside o = record {
    kept = λ any. subst (λ (sides : Sides). IsThreadOn m h sides (Free false) any x (Running tx.kept)) (back-both tx.struck) (o.kept any);
    inner = by_standing o.inner;
  }
    where
      by_standing : IsInside m h Both mem t x y tx ⊎ (IsHurt Both × (IsDoomed m h tx (seen_through tx.footprint mem) y ⊎ IsAstray h y))
          → IsInside m h after mem t x (struck upset to) (record tx { struck = k ∷ tx.struck })
          ⊎ (IsHurt after × (IsDoomed m h (record tx { struck = k ∷ tx.struck }) (seen_through tx.footprint mem) (struck upset to) ⊎ IsAstray h (struck upset to)))
      by_standing (inl i) = inl (inside-struck tx outside i)
      by_standing (inr (hurt, lost)) = absurd hurt

  both-struck : (mode : Mode) → is_in_window h mode to.frame to.register ≡ false → OkIn m h Both mem t x y mode
      → OkIn m h after mem t x (struck upset to) (struck_mode k mode)
  both-struck (Free plain) outside (inl is) = inl (thread-struck m h k (Free plain) mem upset to x y target outside is)
  both-struck (Free plain) outside (inr (hurt, lost, going)) = absurd hurt
  both-struck (Inside tx) outside ok = tx-struck tx outside ok

  ok-struck : (sides : Sides) → (IsHurt sides → ⊥) → (mode : Mode) → is_in_window h mode to.frame to.register ≡ false → OkIn m h sides mem t x y mode
      → OkIn m h after mem t x (struck upset to) (struck_mode k mode)
  ok-struck Both whole mode outside ok = both-struck mode outside ok
  ok-struck (Alone side) whole mode outside ok = absurd (whole tt)

-- ---- the worker

module _ (k : ℕ) (w : Worker) (y : Thread Frame) where
  -- the worker that was struck, and stands so
  abbrev pub hurt_worker : Mode → Worker
  hurt_worker mode = marked k (record w { thread = y }) mode

  mode-marked : (mode : Mode) → w.mode ≡ mode → (hurt_worker mode).mode ≡ struck_mode k mode
  mode-marked (Free plain) e = e
  mode-marked (Inside tx) e = refl

  thread-marked : (mode : Mode) → (hurt_worker mode).thread ≡ y
  thread-marked (Free plain) = refl
  thread-marked (Inside tx) = refl

  carried-marked : (mode : Mode) → carries k (hurt_worker mode) ≡ true
  carried-marked (Free plain) = or-left _ _ (or-left (nat_eq k k) (has w.hits k) (eq-eqb k k refl))
  carried-marked (Inside tx) = or-right (has w.hits k) _ (or-left (nat_eq k k) (has tx.struck k) (eq-eqb k k refl))

  -- it carries this number and its own
  carries-either : (mode : Mode) → w.mode ≡ mode → (n : ℕ) → carries n (hurt_worker mode) ≡ true → (n ≡ k) ⊎ (carries n w ≡ true)
  carries-either (Free plain) e n c = by_test (nat_eq n k) refl c
    where
      by_test : (b : Bool) → nat_eq n k ≡ b → ((b || has w.hits n) || has (struck_in w.mode) n) ≡ true → (n ≡ k) ⊎ (carries n w ≡ true)
      by_test true same f = inl (eqb-true n k same)
      by_test false same f = inr f
  carries-either (Inside tx) e n c = by_test (nat_eq n k) refl c
    where
      by_test : (b : Bool) → nat_eq n k ≡ b → (has w.hits n || (b || has tx.struck n)) ≡ true → (n ≡ k) ⊎ (carries n w ≡ true)
      by_test true same f = inl (eqb-true n k same)
      by_test false same f = inr (ap (λ (mode : Mode). has w.hits n || has (struck_in mode) n) e ∙ f)

  within-struck : (mode : Mode) → IsWithin (struck_mode k mode) mode
  within-struck (Free plain) = within-same (Free plain)
  within-struck (Inside tx) = record { wrote = λ line e. e; touched = λ line e. e; watched = λ a e. e }

  pub within-marked : IsWithin (hurt_worker w.mode).mode w.mode
  within-marked = subst (λ (mode : Mode). IsWithin mode w.mode) (sym (mode-marked w.mode refl)) (within-struck w.mode)

-- a whole worker that is struck outside windows
pub worker-struck : (m : ModuleParts) (h : HardParts) (mem : Memory) (t k : ℕ) (upset : UpsetSpec) (to : Target) (x : Thread SourceFrame) (w : Worker)
    → IsTarget upset w.thread to → is_in_window h w.mode to.frame to.register ≡ false → (is : IsWorker m h mem t x w) → (IsHurt is.sides → ⊥)
    → IsWorker m h mem t x (hurt_worker k w (struck upset to) w.mode)
worker-struck m h mem t k upset to x w target outside is whole = record {
  sides = known_after upset.side;
  hurt = λ z. record { number = k; carried = carried-marked k w (struck upset to) w.mode };
  ok = subst (λ (mode : Mode). OkIn m h (known_after upset.side) mem t x (hurt_worker k w (struck upset to) w.mode).thread mode)
      (sym (mode-marked k w (struck upset to) w.mode refl))
      (subst (λ (y : Thread Frame). OkIn m h (known_after upset.side) mem t x y (struck_mode k w.mode)) (sym (thread-marked k w (struck upset to) w.mode))
      (ok-struck m h mem t k upset to x w.thread target is.sides whole w.mode outside is.ok));
}

-- ---- upsets join others

there-still : (xs : List Upset) (k : ℕ) (x y : Upset) → slice_get xs k ≡ Some x → slice_get (xs ++ y ∷ []) k ≡ Some x
there-still [] k x y e = absurd cc
there-still (z ∷ xs) zero x y e = e
there-still (z ∷ xs) (suc k) x y e = there-still xs k x y e

pub named-still : (upsets : List Upset) (upset : Upset) (w : Worker) → AreNamed upsets w → AreNamed (upsets ++ upset ∷ []) w
named-still upsets upset w named k e = there-still upsets k Struck upset (named k e)

pub named-struck : (upsets : List Upset) (w : Worker) (y : Thread Frame) → AreNamed upsets w
    → AreNamed (upsets ++ Struck ∷ []) (hurt_worker (length upsets) w y w.mode)
named-struck upsets w y named n e = by_number (carries-either (length upsets) w y w.mode refl n e)
  where
    by_number : (n ≡ length upsets) ⊎ (carries n w ≡ true) → slice_get (upsets ++ Struck ∷ []) n ≡ Some Struck
    by_number (inl same) = ap (slice_get (upsets ++ Struck ∷ [])) same ∙ get-behind upsets Struck []
    by_number (inr c) = there-still upsets n Struck Struck (named n c)
