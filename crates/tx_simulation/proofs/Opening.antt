-- At the opening the machine stands for the source: thread 0 of both is at the entry of `main`, over one memory.
use Rattle.std.proofs.Common.{ℕ, zero, suc, ◌≡◌, ◌∙◌, false, List, [], ◌∷◌, Some, slice_get, refl, ap, sym, subst, inl}
use Rattle.ir_core.specs.Module.{ModuleParts}
use Rattle.ir_layout.specs.Memory.{layout_of}
use Rattle.ir_check.specs.Faults.{IsAccepted}
use Rattle.mem_image.specs.Bytes.{Memory}
use Rattle.mem_image.proofs.WholeOpening.{opening-whole}
use Rattle.process.specs.declared.state.Thread.{Thread}
use Rattle.process.specs.State.{new_thread}
use Rattle.src_meaning.specs.declared.state.Frame.{Frame as SourceFrame}
use Rattle.src_meaning.specs.State.{main_of}
use Rattle.src_meaning.specs.Step as source
use Rattle.src_laws.proofs.Moves.{main-enters}
use Rattle.hard_ir.specs.Hardened.{HardParts}
use Rattle.hard_ir.specs.Images.{IsLooseImage}
use Rattle.hard_laws.proofs.Accepted.{sound}
use Rattle.hard_frames.specs.Frames as hard_frame
use Rattle.hard_simulation.proofs.Heads as heads
use Rattle.hard_simulation.proofs.Sides.{Both}
use Rattle.hard_meaning.specs.State.{Mode, Free, Worker, new_worker, opening}
use Rattle.tx_simulation.proofs.Owners.{AreFree}
use Rattle.tx_simulation.proofs.Lines.{AreApart}
use Rattle.tx_simulation.proofs.Facts.{IsWorker, watched_in, AreNamed, mode_at, Facts, machine_of}
use Rattle.tx_simulation.proofs.Entries.{new-stands}
use Rattle.tx_simulation.proofs.Holds.{Holds, Runs}

module _ (m : ModuleParts) (h : HardParts) (image : IsLooseImage m h) (accepted : IsAccepted m) (arguments : List ℕ) where
  -- the thread with which a run begins
  abbrev pub first_worker : Worker
  first_worker = new_worker (new_thread (hard_frame.frames h) 0 (main_of m) [])

  abbrev memory : Memory
  memory = (source.opening m arguments).process.memory

  abbrev thread : Thread SourceFrame
  thread = new_thread (source.frames m) 0 (main_of m) []

  all-free : (t : ℕ) → mode_at (first_worker ∷ []) t ≡ Free false
  all-free zero = refl
  all-free (suc t) = refl

  first-stands : IsWorker m h memory 0 thread first_worker
  first-stands = record { sides = Both; hurt = λ z. absurd z; ok = inl (new-stands m h image accepted 0 (main_of m) [] (main-enters m accepted) Both (Free false) memory) }

  each : (t : ℕ) (x : Thread SourceFrame) (w : Worker) → slice_get (thread ∷ []) t ≡ Some x → slice_get (first_worker ∷ []) t ≡ Some w → IsWorker m h memory t x w
  each zero x w at hard_at =
      let one : thread ≡ x = cc in
      let two : first_worker ≡ w = cc in
      subst (λ (y : Thread SourceFrame). IsWorker m h memory 0 y w) one (subst (IsWorker m h memory 0 thread) two first-stands)
  each (suc t) x w at hard_at = cc

  named : (t : ℕ) (w : Worker) → slice_get (first_worker ∷ []) t ≡ Some w → AreNamed [] w
  named zero w at = let same : first_worker ≡ w = cc in subst (AreNamed []) same (λ k e. absurd cc)
  named (suc t) w at = cc

  pub opening-facts : Facts m h arguments (source.opening m arguments) (first_worker ∷ []) [] []
  opening-facts = record {
    state = refl;
    went = tt;
    unended = refl;
    going = refl;
    whole = opening-whole m (layout_of m) refl (sound m accepted).limits;
    all = record {
      count = refl;
      each = each;
      apart = λ t u differ. subst (λ (mode : Mode). AreApart mode (mode_at (first_worker ∷ []) u)) (sym (all-free t)) (λ line e touched. absurd cc);
      unowned = λ t. subst (λ (mode : Mode). AreFree (source.opening m arguments).process.world.owners (watched_in mode)) (sym (all-free t)) (λ a e. absurd cc);
      named = named;
    };
  }

  opening-is : opening h arguments ≡ machine_of (source.opening m arguments) (first_worker ∷ []) [] []
  opening-is = rw (ap layout_of image.heads ∙ heads.layout-heads m, ap main_of image.heads ∙ heads.main-heads m, image.heads) refl

  pub opens : Holds m h arguments (opening h arguments)
  opens = Runs (source.opening m arguments) (first_worker ∷ []) [] [] opening-is opening-facts
