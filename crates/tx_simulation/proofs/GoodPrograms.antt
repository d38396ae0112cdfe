-- Every run of the two good programs stands for a run of its source.
use Rattle.std.proofs.Common.{ℕ, List, [], ◌∷◌, arith, All}
use Rattle.std.proofs.lemmas.List.Elements.{All-cons, All-nil}
use Rattle.ir_core.specs.Module.{ModuleParts}
use Rattle.sched_file.specs.Events.{Happening}
use Rattle.hard_ir.specs.Facts.{IsShort, AreShort}
use Rattle.hard_ir.specs.declared.instruction.HBlock.{HBlock}
use Rattle.hard_ir.specs.Hardened.{harden}
use Rattle.hard_meaning.specs.Runs.{run_on}
use Rattle.hard_meaning.specs.Samples.{sum}
use Rattle.tx_simulation.specs.Meaning.{AreCovered, Means}
use Rattle.tx_simulation.specs.Samples.{counted}
use Rattle.tx_simulation.proofs.AcceptedSamples.{sum-accepted, counted-accepted}
use Rattle.tx_simulation.proofs.GoodSum.{sum-good}
use Rattle.tx_simulation.proofs.GoodThreads.{counted-good}
use Rattle.tx_simulation.proofs.Headline.{meant}
use Rattle.tx_simulation.proofs.Loose.{hardened-loose}

-- ---- their hardened modules have few instructions

one-block : (block : HBlock) → IsShort block → All IsShort (block ∷ [])
one-block block short = All-cons IsShort block [] short (All-nil IsShort)

one-function : (block : HBlock) → IsShort block → AreShort ((block ∷ []) ∷ [])
one-function block short = All-cons (All IsShort) (block ∷ []) [] (one-block block short) (All-nil (All IsShort))

two-functions : (first second : HBlock) → IsShort first → IsShort second → AreShort ((first ∷ []) ∷ (second ∷ []) ∷ [])
two-functions first second short other = All-cons (All IsShort) (first ∷ []) ((second ∷ []) ∷ []) (one-block first short) (one-function second other)

sum-short : AreShort (harden sum).funcs
sum-short = one-function _ (omega arith)

counted-short : AreShort (harden counted).funcs
counted-short = two-functions _ _ (omega arith) (omega arith)

-- ---- their runs

pub sum-meant : (arguments : List ℕ) (events : List Happening) → AreCovered (run_on (harden sum) arguments events).upsets
    → Means sum arguments (run_on (harden sum) arguments events)
sum-meant arguments events covered = meant sum (harden sum) arguments sum-accepted (hardened-loose sum sum-short) (sum-good arguments) events covered

pub counted-meant : (arguments : List ℕ) (events : List Happening) → AreCovered (run_on (harden counted) arguments events).upsets
    → Means counted arguments (run_on (harden counted) arguments events)
counted-meant arguments events covered =
    meant counted (harden counted) arguments counted-accepted (hardened-loose counted counted-short) (counted-good arguments) events covered
