-- What definitions by recursion on types say of types without parts.
use Rattle.std.proofs.Common.{ℕ, ◌≡◌, ◌∙◌, List, [], Option, Some, None, true, false, ap, Bool}
use Rattle.ir_core.specs.declared.types.Ty.{Ty}
use Rattle.ir_core.specs.declared.types.Ty as ty
use Rattle.ir_core.specs.declared.types.Ty.TheOpen.{Ty-F}
use Rattle.ir_core.specs.declared.types.Ty.TheFolds.{fold-roll-Ty}
use Rattle.ir_core.specs.declared.types.Ty.TheViews.{out-Ty, out-roll-Ty}
use Rattle.ir_core.specs.declared.types.Ty.TheVariants as types
use Rattle.ir_core.specs.declared.types.Width.{Width}
use Rattle.ir_core.specs.declared.types.TypeId.{TypeId}
use Rattle.ir_lines.specs.SameTypes.{same_ty, same_layer, same_width}
use Rattle.ir_layout.specs.Limits.{limit_of, limit_of_shape}
use Rattle.ir_layout.specs.Shapes.{Shape, shape_with, shape_step, scalar, align_of, within, depth_limit, named_shape, nothing}
use Rattle.ir_layout.specs.declared.shapes.Align.TheVariants.{Eight}
use Rattle.ir_numbering.specs.declared.places.Place.{Place}
use Rattle.ir_numbering.specs.Places.{places_of_ty, places_step}

pub void-places : places_of_ty types.Void ≡ []
unfolding ty.roll-Ty denote.Hole.Carrier.roll
void-places = fold-roll-Ty (List Place) places_step Ty-F.Void

shape-int : (named : ℕ → Option Shape) (w : Width) → shape_with named (types.Int w) ≡ Some (scalar (align_of w))
unfolding ty.roll-Ty denote.Hole.Carrier.roll
shape-int named w = fold-roll-Ty (Option Shape) (shape_step named) (Ty-F.Int w)

shape-ptr : (named : ℕ → Option Shape) → shape_with named types.Ptr ≡ Some (scalar Eight)
unfolding ty.roll-Ty denote.Hole.Carrier.roll
shape-ptr named = fold-roll-Ty (Option Shape) (shape_step named) Ty-F.Ptr

shape-void : (named : ℕ → Option Shape) → shape_with named types.Void ≡ Some nothing
unfolding ty.roll-Ty denote.Hole.Carrier.roll
shape-void named = fold-roll-Ty (Option Shape) (shape_step named) Ty-F.Void

pub int-fits : (named : List (TypeId × Ty)) (w : Width) → limit_of named (types.Int w) ≡ limit_of_shape (within depth_limit (Some (scalar (align_of w))))
int-fits named w = ap (λ (shape : Option Shape). limit_of_shape (within depth_limit shape)) (shape-int (named_shape named depth_limit) w)

pub ptr-fits : (named : List (TypeId × Ty)) → limit_of named types.Ptr ≡ None
ptr-fits named = ap (λ (shape : Option Shape). limit_of_shape (within depth_limit shape)) (shape-ptr (named_shape named depth_limit))

pub void-fits : (named : List (TypeId × Ty)) → limit_of named types.Void ≡ None
void-fits named = ap (λ (shape : Option Shape). limit_of_shape (within depth_limit shape)) (shape-void (named_shape named depth_limit))

pub same-int : (v w : Width) → same_ty (types.Int v) (types.Int w) ≡ same_width v w
unfolding ty.roll-Ty denote.Hole.Carrier.roll
same-int v w =
    ap (λ (f : Ty → Bool). f (types.Int w)) (fold-roll-Ty (Ty → Bool) (λ layer ty. same_layer layer (out-Ty ty)) (Ty-F.Int v))
    ∙ ap (same_layer (Ty-F.Int v)) (out-roll-Ty (Ty-F.Int w))

pub same-ptr : same_ty types.Ptr types.Ptr ≡ true
unfolding ty.roll-Ty denote.Hole.Carrier.roll
same-ptr =
    ap (λ (f : Ty → Bool). f types.Ptr) (fold-roll-Ty (Ty → Bool) (λ layer ty. same_layer layer (out-Ty ty)) Ty-F.Ptr)
    ∙ ap (same_layer Ty-F.Ptr) (out-roll-Ty Ty-F.Ptr)

pub same-void : same_ty types.Void types.Void ≡ true
unfolding ty.roll-Ty denote.Hole.Carrier.roll
same-void =
    ap (λ (f : Ty → Bool). f types.Void) (fold-roll-Ty (Ty → Bool) (λ layer ty. same_layer layer (out-Ty ty)) Ty-F.Void)
    ∙ ap (same_layer Ty-F.Void) (out-roll-Ty Ty-F.Void)

pub int-not-void : (w : Width) → same_ty (types.Int w) types.Void ≡ false
unfolding ty.roll-Ty denote.Hole.Carrier.roll
int-not-void w =
    ap (λ (f : Ty → Bool). f types.Void) (fold-roll-Ty (Ty → Bool) (λ layer ty. same_layer layer (out-Ty ty)) (Ty-F.Int w))
    ∙ ap (same_layer (Ty-F.Int w)) (out-roll-Ty Ty-F.Void)
