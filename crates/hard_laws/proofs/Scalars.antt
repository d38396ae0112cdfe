-- What definitions by recursion on types say of integers, of `ptr`, and of the pair that a `cmpxchg` gives.
use Rattle.std.proofs.Common.{◌≡◌, ◌∙◌, ℕ, Bool, true, refl, ap, List, [], ◌∷◌, ◌++◌, Option, Some, None, append-nil}
use Rattle.std.specs.Prelude.{if◌then◌else◌}
use Rattle.ir_core.specs.declared.types.Ty.{Ty}
use Rattle.ir_core.specs.declared.types.Ty as opened
use Rattle.ir_core.specs.declared.types.Ty.TheOpen.{Ty-F}
use Rattle.ir_core.specs.declared.types.Ty.TheFolds.{fold-roll-Ty}
use Rattle.ir_core.specs.declared.types.Ty.TheViews.{out-Ty, out-roll-Ty}
use Rattle.ir_core.specs.declared.types.Ty.TheVariants as types
use Rattle.ir_core.specs.declared.types.TypeId.{TypeId}
use Rattle.ir_core.specs.declared.types.Width.{Width}
use Rattle.ir_core.specs.declared.types.Width.TheVariants.{W1, W8, W16, W32, W64}
use Rattle.ir_layout.specs.Shapes.{Shape, shape_with, shape_step, shape_of, scalar, align_of, within, depth_limit, named_shape}
use Rattle.ir_layout.specs.declared.shapes.Align.TheVariants.{Eight}
use Rattle.ir_layout.specs.Limits.{limit_among, limit_of_shape}
use Rattle.ir_lines.specs.SameTypes.{same_ty, same_layer}
use Rattle.ir_numbering.specs.declared.places.Place.{Place}
use Rattle.ir_numbering.specs.Places.{places_of_ty, places_step}
use Rattle.hard_ir.specs.Image.{pair_of}
use Rattle.hard_ir.specs.Fit.{pair_part, pair_part_step}

shape-int : (named : ℕ → Option Shape) (w : Width) → shape_with named (types.Int w) ≡ Some (scalar (align_of w))
unfolding opened.roll-Ty denote.Hole.Carrier.roll
shape-int named w = fold-roll-Ty (Option Shape) (shape_step named) (Ty-F.Int w)

shape-ptr : (named : ℕ → Option Shape) → shape_with named types.Ptr ≡ Some (scalar Eight)
unfolding opened.roll-Ty denote.Hole.Carrier.roll
shape-ptr named = fold-roll-Ty (Option Shape) (shape_step named) Ty-F.Ptr

-- a type by the limit of its shape
limit-by : (named : List (TypeId × Ty)) (ty : Ty) (shape : Option Shape) → shape_of named ty ≡ shape → limit_of_shape shape ≡ None → limit_among named (ty ∷ []) ≡ None
limit-by named ty shape e l = rw (e, l) refl

pub int-limit : (named : List (TypeId × Ty)) (w : Width) → limit_among named (types.Int w ∷ []) ≡ None
int-limit named w = limit-by named (types.Int w) (within depth_limit (Some (scalar (align_of w)))) (ap (within depth_limit) (shape-int (named_shape named depth_limit) w)) (by_width w)
  where
    by_width : (w : Width) → limit_of_shape (within depth_limit (Some (scalar (align_of w)))) ≡ None
    by_width W1 = refl
    by_width W8 = refl
    by_width W16 = refl
    by_width W32 = refl
    by_width W64 = refl

pub ptr-limit : (named : List (TypeId × Ty)) → limit_among named (types.Ptr ∷ []) ≡ None
ptr-limit named = limit-by named types.Ptr (within depth_limit (Some (scalar Eight))) (ap (within depth_limit) (shape-ptr (named_shape named depth_limit))) refl

pub int-places : (w : Width) → places_of_ty (types.Int w) ≡ []
unfolding opened.roll-Ty denote.Hole.Carrier.roll
int-places w = fold-roll-Ty (List Place) places_step (Ty-F.Int w)

pub ptr-places : places_of_ty types.Ptr ≡ []
unfolding opened.roll-Ty denote.Hole.Carrier.roll
ptr-places = fold-roll-Ty (List Place) places_step Ty-F.Ptr

pub pair-places : (ty : Ty) → places_of_ty (pair_of ty) ≡ places_of_ty ty
unfolding opened.roll-Ty denote.Hole.Carrier.roll
pair-places ty =
    fold-roll-Ty (List Place) places_step (Ty-F.Struct (ty ∷ types.Int W1 ∷ []))
    ∙ ap (λ (rest : List Place). places_of_ty ty ++ (rest ++ [])) (int-places W1) ∙ append-nil (places_of_ty ty)

same-bit : same_ty (types.Int W1) (types.Int W1) ≡ true
unfolding opened.roll-Ty denote.Hole.Carrier.roll
same-bit =
    ap (λ (f : Ty → Bool). f (types.Int W1)) (fold-roll-Ty (Ty → Bool) (λ layer ty. same_layer layer (out-Ty ty)) (Ty-F.Int W1))
    ∙ ap (same_layer (Ty-F.Int W1)) (out-roll-Ty (Ty-F.Int W1))

pub pair-part : (ty : Ty) → pair_part (pair_of ty) ≡ Some ty
unfolding opened.roll-Ty denote.Hole.Carrier.roll
pair-part ty = ap pair_part_step (out-roll-Ty (Ty-F.Struct (ty ∷ types.Int W1 ∷ []))) ∙ ap (λ (b : Bool). if b then Some ty else None) same-bit
