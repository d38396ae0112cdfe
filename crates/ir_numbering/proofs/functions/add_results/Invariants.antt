use Rattle.std.proofs.Common.{◌≡◌, ◌++◌, List, [], ◌∷◌, drop}
use Rattle.std.specs.List.{flat_map}
use Rattle.ir_core.specs.declared.instruction.Inst.{Inst}
use Rattle.ir_numbering.specs.declared.places.Place.{Place}
use Rattle.ir_numbering.specs.declared.places.Place.TheVariants.{Local}
use Rattle.ir_numbering.specs.Places.{places_of_option}
use Rattle.ir_core.specs.Instructions.{result_of}
use Rattle.ir_numbering.proofs.functions.add_results.Given as goal

abbrev defined : List Inst → List Place
defined = flat_map (λ inst. places_of_option (λ at. Local at ∷ []) (result_of inst))

abbrev pub invariant-loop-inst : goal.invariant-loop-inst
invariant-loop-inst l = l.list ++ defined (drop l.inst-index l.inst-items) ≡ l.initial.list ++ defined l.inst-items
