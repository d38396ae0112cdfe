use Rattle.std.proofs.Common.{◌≡◌, ◌++◌, drop}
use Rattle.std.specs.List.{filter_map}
use Rattle.ir_types.specs.Meanings.{result_of}
use Rattle.ir_types.proofs.meaning.add_results.Given as goal

abbrev pub invariant-loop-inst : goal.invariant-loop-inst
invariant-loop-inst l = l.names.items ++ filter_map result_of (drop l.inst-index l.insts) ≡ l.fn.names.items ++ filter_map result_of l.insts
