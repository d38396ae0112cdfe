use Rattle.std.proofs.Common.{◌≡◌, ◌<◌, ◌≤◌, length, List, sym, ℕ, false, true, arith}
use Rattle.ir_core.specs.declared.types.Ty.{Ty}
use Rattle.ir_lines.proofs.Parts.{uneven, structs-told, differs, over}
use Rattle.ir_lines.proofs.sameness.+same_ty.Goals as goal

pub returns-then-parts-others : goal.returns-then-parts-others
returns-then-parts-others bound c = rw c.in-Struct.is (rw c.in-Struct-b.is (structs-told false c.in-Struct.parts c.in-Struct-b.others c.items-parts.result.now c.items-others.result.now c.items-parts.ensures c.items-others.ensures (uneven c.items-parts.result.now c.items-others.result.now c.if-parts-others.true)))

pub returns-then-not-same_ty : goal.returns-then-not-same_ty
returns-then-not-same_ty bound c =
    let xs : List Ty = c.items-parts.result.now in
    let ys : List Ty = c.items-others.result.now in
    let i : ℕ = c.loop-place.place in
    let even : length xs ≡ length ys = c.if-parts-others.false in
    let inside : i < length xs = c.loop-place-test.true in
    let beside : i < length ys = omega arith in
    rw c.in-Struct.is (rw c.in-Struct-b.is (structs-told false c.in-Struct.parts c.in-Struct-b.others xs ys c.items-parts.ensures c.items-others.ensures
    (differs xs ys i c.index-parts-place.result c.index-others-place.result inside beside c.index-parts-place.is c.index-others-place.is c.loop-place.invariant (sym c.if-not-same_ty.ensures))))

pub returns-after-loop-place : goal.returns-after-loop-place
returns-after-loop-place bound c =
    let xs : List Ty = c.items-parts.result.now in
    let ys : List Ty = c.items-others.result.now in
    let i : ℕ = c.loop-place.place in
    let even : length xs ≡ length ys = c.if-parts-others.false in
    let p : length xs ≤ i = c.loop-place-test.false in
    let q : length ys ≤ i = omega arith in
    rw c.in-Struct.is (rw c.in-Struct-b.is (structs-told true c.in-Struct.parts c.in-Struct-b.others xs ys c.items-parts.ensures c.items-others.ensures (over xs ys i p q c.loop-place.invariant)))
