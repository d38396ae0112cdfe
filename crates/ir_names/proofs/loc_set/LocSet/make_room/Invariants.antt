-- no flag of a function has changed
use Rattle.std.proofs.Common.{◌≡◌, ◌+◌, ◌-◌, ℕ, [], length}
use Rattle.std.specs.Prelude.{slice_index_or}
use Rattle.ir_names.proofs.loc_set.LocSet.make_room.Given as goal

abbrev pub invariant-funcs : goal.invariant-funcs
invariant-funcs l = (n : ℕ) → slice_index_or l.self-inside.funcs.items n [] ≡ slice_index_or l.initial.self-inside.funcs.items n []

abbrev pub decreases-funcs : goal.decreases-funcs
decreases-funcs l = l.func + 1 - length l.self-inside.funcs.items
