-- A turn of any thread keeps what holds: one that isn't lost, one that is, one whose function has returned.
use Rattle.std.proofs.Common.{List, None, Option, Some, false, inl, inr, refl, slice_get, sym, ℕ, ◌≡◌, ◌⊎◌}
use Rattle.ir_core.specs.Module.{ModuleParts}
use Rattle.ir_check.specs.Faults.{IsAccepted}
use Rattle.mem_image.specs.Bytes.{Memory}
use Rattle.rtm_core.specs.Footprint.{seen_through}
use Rattle.process.specs.declared.state.CallStack.{CallStack}
use Rattle.process.specs.declared.state.Thread.TheVariants.{Ended, Exiting, Running}
use Rattle.process.specs.declared.state.Thread.{Thread}
use Rattle.src_meaning.specs.Races.{IsGood}
use Rattle.hard_ir.specs.Hardened.{HardParts}
use Rattle.hard_ir.specs.Images.{IsLooseImage}
use Rattle.hard_frames.specs.Code as hard_text
use Rattle.src_meaning.specs.declared.state.Frame.{Frame as SourceFrame}
use Rattle.src_meaning.specs.State.{State as SourceState}
use Rattle.hard_frames.specs.declared.state.Frame.{Frame}
use Rattle.hard_simulation.proofs.Sides.{IsHurt, Sides}
use Rattle.tx_simulation.proofs.PointTurns.{turn-at}
use Rattle.hard_meaning.specs.State.{Free, Inside, Mode, State, Transaction, Upset, Worker, seen_in}
use Rattle.hard_meaning.specs.Turns as hard
use Rattle.hard_meaning.specs.Turns.{turn_of, turned_by}
use Rattle.renamed_modules.proofs.SamePlaces.{same-place}
use Rattle.tx_simulation.proofs.Facts.{Facts, IsAstray, IsCarried, IsDoomed, IsInside, IsWorker, OkIn, back_to, machine_of}
use Rattle.tx_simulation.proofs.Holds.{Holds, Runs}
use Rattle.tx_simulation.proofs.Inner.{LinkAt, link-of}
use Rattle.tx_simulation.proofs.Leaving.{exits}
use Rattle.tx_simulation.proofs.Lost.{astray-turn, doomed-turn}
use Rattle.tx_simulation.proofs.Points.{IsThreadOn}

module _ (m : ModuleParts) (h : HardParts) (arguments : List ℕ) (good : IsGood m arguments) (accepted : IsAccepted m) (image : IsLooseImage m h) (s : SourceState)
    (workers : List Worker) (turns : List ℕ) (upsets : List Upset) (facts : Facts m h arguments s workers turns upsets) (t : ℕ) where
  abbrev before : State
  before = machine_of s workers turns upsets

  module _ (x : Thread SourceFrame) (at : slice_get s.process.threads t ≡ Some x) (v : Worker) where
    abbrev standing : Thread Frame → Mode → Worker
    standing y mode = record v { thread = y; mode = mode }

    runs : (mode : Mode) (b : CallStack Frame) → slice_get workers t ≡ Some (standing (Running b) mode) → (sides : Sides)
        → (IsHurt sides → IsCarried (standing (Running b) mode)) → (xs : Thread SourceFrame) → LinkAt m h sides s.process.memory t x mode xs
        → IsThreadOn m h sides mode (seen_in mode s.process.memory) xs (Running b)
        → Holds m h arguments (hard.fetched h before t (standing (Running b) mode) b (hard_text.inst_at h b.frame))
    runs mode b hard_at sides hurt (Running a) link is = turn-at mode (record {
      m = m;
      h = h;
      arguments = arguments;
      s = s;
      workers = workers;
      turns = turns;
      upsets = upsets;
      t = t;
      x = x;
      v = v;
      a = a;
      b = b;
      sides = sides;
      good = good;
      accepted = accepted;
      image = image;
      facts = facts;
      at = at;
      hard_at = hard_at;
      hurt = hurt;
      link = link;
      mark = is.mark;
      callers = is.callers;
      function = is.frame.function;
      block = is.frame.block;
      start = is.frame.mark;
    }) is.frame.point
    runs mode b hard_at sides hurt (Exiting n) link is = absurd is
    runs mode b hard_at sides hurt Ended link is = absurd is

    runs-inside : (tx : Transaction) (b : CallStack Frame) → slice_get workers t ≡ Some (standing (Running b) (Inside tx)) → (sides : Sides)
        → (IsHurt sides → IsCarried (standing (Running b) (Inside tx)))
        → ((any : Memory) → IsThreadOn m h (back_to tx.struck sides) (Free false) any x (Running tx.kept))
        → IsInside m h sides s.process.memory t x (Running b) tx
        ⊎ (IsHurt sides × (IsDoomed m h tx (seen_through tx.footprint s.process.memory) (Running b) ⊎ IsAstray h (Running b)))
        → Holds m h arguments (hard.fetched h before t (standing (Running b) (Inside tx)) b (hard_text.inst_at h b.frame))
    runs-inside tx b hard_at sides hurt kept (inl i) =
        runs (Inside tx) b hard_at sides hurt i.now.thread (link-of m h sides s.process.memory t x (Running b) tx kept i) i.stands
    runs-inside tx b hard_at sides hurt kept (inr (is_hurt, inl doomed)) =
        doomed-turn m h arguments image s workers turns upsets facts t x at v b tx hard_at sides hurt is_hurt kept doomed
    runs-inside tx b hard_at sides hurt kept (inr (is_hurt, inr astray)) =
        astray-turn m h arguments image s workers turns upsets facts t x at v b (Inside tx) hard_at sides hurt is_hurt astray

    exits-inside : (tx : Transaction) (n : ℕ) → slice_get workers t ≡ Some (standing (Exiting n) (Inside tx)) → (sides : Sides)
        → (IsHurt sides → IsCarried (standing (Exiting n) (Inside tx)))
        → ((any : Memory) → IsThreadOn m h (back_to tx.struck sides) (Free false) any x (Running tx.kept))
        → IsInside m h sides s.process.memory t x (Exiting n) tx
        ⊎ (IsHurt sides × (IsDoomed m h tx (seen_through tx.footprint s.process.memory) (Exiting n) ⊎ IsAstray h (Exiting n)))
        → Holds m h arguments (hard.exited before t (standing (Exiting n) (Inside tx)) n)
    exits-inside tx n hard_at sides hurt kept (inl i) =
        exits m h arguments good s workers turns upsets facts t x at v n (Inside tx) hard_at sides hurt i.now.thread
        (link-of m h sides s.process.memory t x (Exiting n) tx kept i) i.stands
    exits-inside tx n hard_at sides hurt kept (inr (is_hurt, inl doomed)) = let clash : Exiting n ≡ Running doomed.stack = doomed.is in cc
    exits-inside tx n hard_at sides hurt kept (inr (is_hurt, inr astray)) = let clash : Exiting n ≡ Running astray.stack = astray.is in cc

    turn-from : (y : Thread Frame) (mode : Mode) → slice_get workers t ≡ Some (standing y mode) → (sides : Sides)
        → (IsHurt sides → IsCarried (standing y mode)) → OkIn m h sides s.process.memory t x y mode → Holds m h arguments (turned_by h before t (standing y mode) y)
    turn-from (Running b) (Free plain) hard_at sides hurt (inl is) = runs (Free plain) b hard_at sides hurt x refl is
    turn-from (Running b) (Free plain) hard_at sides hurt (inr (is_hurt, astray, going)) =
        astray-turn m h arguments image s workers turns upsets facts t x at v b (Free plain) hard_at sides hurt is_hurt astray
    turn-from (Running b) (Inside tx) hard_at sides hurt ok = runs-inside tx b hard_at sides hurt ok.kept ok.inner
    turn-from (Exiting n) (Free plain) hard_at sides hurt (inl is) =
        exits m h arguments good s workers turns upsets facts t x at v n (Free plain) hard_at sides hurt x refl is
    turn-from (Exiting n) (Free plain) hard_at sides hurt (inr (is_hurt, astray, going)) = let clash : Exiting n ≡ Running astray.stack = astray.is in cc
    turn-from (Exiting n) (Inside tx) hard_at sides hurt ok = exits-inside tx n hard_at sides hurt ok.kept ok.inner
    turn-from Ended mode hard_at sides hurt ok = Runs s workers turns upsets refl facts

  by-worker : (o : Option Worker) → slice_get workers t ≡ o → Holds m h arguments (hard.turned h before t o)
  by-worker None e = Runs s workers turns upsets refl facts
  by-worker (Some w) e =
      let there = same-place workers s.process.threads t w (sym facts.all.count) e in
      let is : IsWorker m h s.process.memory t there.0 w = facts.all.each t there.0 w there.1 e in
      turn-from there.0 there.1 w w.thread w.mode e is.sides is.hurt is.ok

  pub turn-kept : Holds m h arguments (turn_of h (machine_of s workers turns upsets) t)
  turn-kept = by-worker (slice_get workers t) refl
