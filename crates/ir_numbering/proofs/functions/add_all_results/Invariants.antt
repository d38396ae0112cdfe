use Rattle.std.proofs.Common.{◌≡◌, ◌++◌, drop}
use Rattle.std.specs.List.{flat_map}
use Rattle.ir_numbering.specs.Places.{results_of_block}
use Rattle.ir_numbering.proofs.functions.add_all_results.Given as goal

abbrev pub invariant-loop-block : goal.invariant-loop-block
invariant-loop-block l = l.list ++ flat_map results_of_block (drop l.block-index l.blocks) ≡ l.fn.list ++ flat_map results_of_block l.blocks
