use Rattle.std.proofs.Common.{◌≡◌, Bool, List, map, drop}
use Rattle.std.specs.List.{list_all}
use Rattle.ir_core.specs.declared.types.Ty.{Ty}
use Rattle.ir_core.specs.declared.values.Init.{Init}
use Rattle.ir_calls.specs.Calls.{is_plain_init}
use Rattle.ir_calls.proofs.row.Calls.+init_plain.Given as goal

abbrev pub invariant-loop-part : goal.invariant-loop-part
invariant-loop-part l = let seen : List (Ty × Init) → Bool = λ parts. list_all (λ (part : Ty × Bool). part.1) (map (λ (part : Ty × Init). (part.0, is_plain_init l.self part.1)) parts) in seen (drop l.part-index l.part-items) ≡ seen l.part-items
