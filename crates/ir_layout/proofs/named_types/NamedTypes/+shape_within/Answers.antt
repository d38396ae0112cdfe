use Rattle.std.proofs.Common.{◌≡◌, ◌<◌, ◌-◌, List, map, sym, ap, ◌∙◌, subst, arith}
use Rattle.std.specs.Prelude.{Option, None, Some, fold}
use Rattle.std.specs.Option.{option_map}
use Rattle.ir_core.specs.declared.types.Ty.{Ty}
use Rattle.ir_layout.specs.declared.shapes.KeptShape.{KeptShape}
use Rattle.ir_layout.specs.Shapes.{named_shape, nothing}
use Rattle.ir_layout.specs.KeptShapes.{kept, kept_struct, kept_array}
use Rattle.ir_layout.proofs.StructShapes.{part_of, add_kept, one_more, none_more, all_added, struct_is, array_is}
use Rattle.ir_layout.proofs.named_types.NamedTypes.+shape_within.Goals as goal

pub returns-in_err-field-in-Struct-clause-shape : goal.returns-in_err-field-in-Struct-clause-shape
returns-in_err-field-in-Struct-clause-shape t c =
    let named = named_shape c.args.self.now.types c.args.self.now.rounds in
    let some : 0 < c.args.limit = omega arith in
    let lacks = none_more (part_of named (c.args.limit - 1)) c.loop-part.fields c.items-part-items.result.now c.loop-part.part-index c.part-item.result _ c.loop-part-test.true c.part-item.is (sym (c.in_err-field-in-Struct.ensures.shape)) c.loop-part.invariant.so_far in
    c.from_residual-in_err-field-in-Struct.ensures ∙ sym (struct_is named c.args.ty.now c.in-Struct.parts c.args.limit c.in-Struct.is some ∙ ap (λ (x : Option KeptShape). option_map kept_struct x) (subst (λ (ps : List Ty). fold add_kept (Some (kept nothing)) (map (part_of named (c.args.limit - 1)) ps) ≡ None) c.items-part-items.ensures lacks))

pub loop-part-preserved : goal.loop-part-preserved
loop-part-preserved t c =
    let named = named_shape c.args.self.now.types c.args.self.now.rounds in
    let more = one_more (part_of named (c.args.limit - 1)) c.loop-part.fields c.in_ok-field-in-Struct.field c.items-part-items.result.now c.loop-part.part-index c.part-item.result _ c.loop-part-test.true c.part-item.is (sym (c.in_ok-field-in-Struct.ensures.shape)) c.loop-part.invariant.so_far in
    let deep = c.in_ok-field-in-Struct.ensures.depth in
    record { deep = rw c.with_field-fields.ensures (omega arith); so_far = rw c.with_field-fields.ensures more }

pub returns-in_ok-element-in-Array-clause-shape : goal.returns-in_ok-element-in-Array-clause-shape
returns-in_ok-element-in-Array-clause-shape t c =
    let named = named_shape c.args.self.now.types c.args.self.now.rounds in
    let some : 0 < c.args.limit = omega arith in
    let e = c.in_ok-element-in-Array.ensures.shape in
    ap (λ (x : KeptShape). Some x) c.array.ensures ∙ sym (array_is named c.args.ty.now c.in-Array.count _ c.args.limit c.in-Array.is some ∙ ap (λ (x : Option KeptShape). option_map (kept_array c.in-Array.count) x) (sym (subst (λ (ty : Ty). Some c.in_ok-element-in-Array.element ≡ part_of named (c.args.limit - 1) ty) c.get.ensures e)))

pub returns-after-loop-part-clause-shape : goal.returns-after-loop-part-clause-shape
returns-after-loop-part-clause-shape t c =
    let named = named_shape c.args.self.now.types c.args.self.now.rounds in
    let some : 0 < c.args.limit = omega arith in
    let whole = all_added (part_of named (c.args.limit - 1)) c.loop-part.fields c.items-part-items.result.now c.loop-part.part-index _ (omega arith) c.loop-part.invariant.so_far in
    ap (λ (x : KeptShape). Some x) c.into_struct.ensures ∙ sym (struct_is named c.args.ty.now c.in-Struct.parts c.args.limit c.in-Struct.is some ∙ ap (λ (x : Option KeptShape). option_map kept_struct x) (subst (λ (ps : List Ty). fold add_kept (Some (kept nothing)) (map (part_of named (c.args.limit - 1)) ps) ≡ Some c.loop-part.fields) c.items-part-items.ensures whole))
