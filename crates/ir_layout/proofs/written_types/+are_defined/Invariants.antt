use Rattle.std.proofs.Common.{◌≡◌, map, drop}
use Rattle.std.specs.List.{list_all}
use Rattle.ir_layout.specs.WrittenTypes.{are_defined}
use Rattle.ir_layout.proofs.written_types.+are_defined.Given as goal

abbrev pub invariant-loop-part : goal.invariant-loop-part
invariant-loop-part l = list_all (λ part. part) (map (are_defined l.types) (drop l.part-index l.part-items)) ≡ list_all (λ part. part) (map (are_defined l.types) l.part-items)
