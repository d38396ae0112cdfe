use Rattle.std.proofs.Common.{◌≡◌, ◌-◌, ◌≤◌, map, drop}
use Rattle.std.specs.Prelude.{fold, Some}
use Rattle.ir_layout.specs.Shapes.{named_shape, nothing}
use Rattle.ir_layout.specs.KeptShapes.{kept}
use Rattle.ir_layout.proofs.StructShapes.{part_of, add_kept}
use Rattle.ir_layout.proofs.named_types.NamedTypes.+shape_within.Given as goal

abbrev pub invariant-loop-part : goal.invariant-loop-part
invariant-loop-part l =
    let part = part_of (named_shape l.self.types l.self.rounds) (l.limit - 1) in
    record {
      deep : l.fields.depth ≤ l.limit - 1;
      so_far : fold add_kept (Some l.fields) (map part (drop l.part-index l.part-items)) ≡ fold add_kept (Some (kept nothing)) (map part l.part-items);
    }
