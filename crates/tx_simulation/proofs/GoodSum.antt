-- The program that gives out a sum is good.
use Rattle.std.proofs.Common.{ℕ, zero, suc, ◌≡◌, ◌∙◌, List, [], ◌∷◌, Option, Some, None, refl, true, false, ap, subst, Bool}
use Rattle.ir_core.specs.declared.types.Ty.{Ty}
use Rattle.ir_core.specs.declared.types.Ty as ty
use Rattle.ir_core.specs.declared.types.Ty.TheOpen.{Ty-F}
use Rattle.ir_core.specs.declared.types.Ty.TheFolds.{fold-roll-Ty}
use Rattle.ir_core.specs.declared.types.Ty.TheViews.{out-Ty, out-roll-Ty}
use Rattle.ir_core.specs.declared.types.Ty.TheVariants as types
use Rattle.ir_core.specs.declared.types.Width.TheVariants.{W32}
use Rattle.ir_core.specs.declared.values.Out.{Out}
use Rattle.ir_core.specs.declared.values.Out.TheVariants.{Num}
use Rattle.ir_lines.specs.SameTypes.{same_ty, same_layer}
use Rattle.op_table.specs.Operators as operators
use Rattle.mem_image.specs.Bytes.{Memory}
use Rattle.mem_image.specs.Opening.{opening as opening_memory}
use Rattle.ir_layout.specs.Memory.{layout_of}
use Rattle.inst_meaning.specs.World.{opening_world}
use Rattle.process.specs.declared.state.Thread.{Thread}
use Rattle.process.specs.declared.state.Thread.TheVariants.{Running, Exiting}
use Rattle.src_meaning.specs.declared.state.Frame.{Frame}
use Rattle.src_meaning.specs.State.{State, main_of}
use Rattle.src_meaning.specs.Step.{opening, step}
use Rattle.src_meaning.specs.Races.{race_of, IsGood}
use Rattle.hard_meaning.specs.Samples.{sum}
use Rattle.tx_simulation.proofs.GoodRuns.{IsDefined, is-good}

same-int32 : same_ty (types.Int W32) (types.Int W32) ≡ true
unfolding ty.roll-Ty denote.Hole.Carrier.roll
same-int32 =
    ap (λ (f : Ty → Bool). f (types.Int W32)) (fold-roll-Ty (Ty → Bool) (λ layer ty. same_layer layer (out-Ty ty)) (Ty-F.Int W32))
    ∙ ap (same_layer (Ty-F.Int W32)) (out-roll-Ty (Ty-F.Int W32))

module _ (memory : Memory) (arguments : List ℕ) where
  abbrev state_of : Thread Frame → List Out → Bool → State
  state_of thread outputs ended = record {
    process = record { memory = memory; threads = thread ∷ []; world = record (opening_world arguments) { outputs = outputs } };
    ended = ended;
  }

  abbrev running : ℕ → List (Option ℕ) → Thread Frame
  running index registers = Running (record {
    mark = 16777216;
    frame = record { function = 0; block = 0; index = index; registers = registers; mark = 16777216; waiting = None };
    callers = [];
  })

  data Reached : State → Type 0 where
    Entered : Reached (state_of (running 0 []) [] false)
    Added : Reached (state_of (running 1 (None ∷ Some 5 ∷ [])) [] false)
    Given : Reached (state_of (running 2 (None ∷ Some 5 ∷ [])) (Num 5 ∷ []) false)
    Returned : Reached (state_of (Exiting 0) (Num 5 ∷ []) false)
    Over : Reached (state_of (Exiting 0) (Num 5 ∷ []) true)

  kept : (s : State) (t : ℕ) → Reached s → Reached (step sum s t).0 × IsDefined (step sum s t).1
  unfolding operators.binary ty.out-Ty denote.Hole.Carrier.out
  kept s zero Entered = (Added, λ cause e. cc)
  kept s zero Added = (Given, λ cause e. cc)
  kept s zero Given = (Returned, λ cause e. cc)
  kept s zero Returned = (Over, λ cause e. cc)
  kept s zero Over = (Over, λ cause e. cc)
  kept s (suc t) Entered = (Entered, λ cause e. cc)
  kept s (suc t) Added = (Added, λ cause e. cc)
  kept s (suc t) Given = (Given, λ cause e. cc)
  kept s (suc t) Returned = (Returned, λ cause e. cc)
  kept s (suc t) Over = (Over, λ cause e. cc)

  apart : (s : State) → Reached s → race_of sum s ≡ None
  apart s Entered = refl
  apart s Added = refl
  apart s Given = refl
  apart s Returned = refl
  apart s Over = refl

abbrev memory_of : Memory
memory_of = opening_memory (layout_of sum) []

entered : (arguments : List ℕ) → Reached memory_of arguments (opening sum arguments)
entered arguments = rw same-int32 Entered

pub sum-good : (arguments : List ℕ) → IsGood sum arguments
sum-good arguments = is-good sum arguments (Reached memory_of arguments) (entered arguments) (kept memory_of arguments) (apart memory_of arguments)
