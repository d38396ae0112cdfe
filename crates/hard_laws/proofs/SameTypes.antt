-- A type is the same as itself.
use Rattle.std.proofs.Common.{◌≡◌, ◌∙◌, Bool, true, refl, ap, subst, List, [], ◌∷◌, map}
use Rattle.ir_core.specs.declared.types.Ty.{Ty, map-Ty, roll-Ty}
use Rattle.ir_core.specs.declared.types.Ty.TheFolds.{fold-roll-Ty, ind-Ty}
use Rattle.ir_core.specs.declared.types.Ty.TheOpen.{Ty-F}
use Rattle.ir_core.specs.declared.types.Ty.TheViews.{out-Ty, out-roll-Ty}
use Rattle.ir_core.specs.declared.types.Width.{Width}
use Rattle.ir_core.specs.declared.types.Width.TheVariants.{W1, W8, W16, W32, W64}
use Rattle.ir_lines.specs.SameTypes.{same_width, same_parts, same_layer, same_ty}
use Rattle.hard_laws.proofs.Tallies.{nat-same}

abbrev IsSame : Ty → Type 0
IsSame ty = same_ty ty ty ≡ true

width-same : (w : Width) → same_width w w ≡ true
width-same W1 = refl
width-same W8 = refl
width-same W16 = refl
width-same W32 = refl
width-same W64 = refl

parts-same : (parts : List ((ty : Ty) × IsSame ty)) → same_parts (map same_ty (map (λ e. e.0) parts)) (map (λ e. e.0) parts) ≡ true
parts-same [] = refl
parts-same (e ∷ parts) = rw e.1 (parts-same parts)

layer-same : (y : Ty-F ((ty : Ty) × IsSame ty)) → same_layer (map-Ty Ty (Ty → Bool) same_ty (map-Ty ((ty : Ty) × IsSame ty) Ty (λ e. e.0) y)) (map-Ty ((ty : Ty) × IsSame ty) Ty (λ e. e.0) y) ≡ true
layer-same Ty-F.Void = refl
layer-same (Ty-F.Int w) = width-same w
layer-same Ty-F.Ptr = refl
layer-same (Ty-F.Array count element) = rw (nat-same count, element.1) refl
layer-same (Ty-F.Struct parts) = parts-same parts
layer-same (Ty-F.Named id) = nat-same id.0

pub type-same : (ty : Ty) → same_ty ty ty ≡ true
type-same = ind-Ty IsSame (λ x y is.
    ap (λ (f : Ty → Bool). f (roll-Ty x)) (fold-roll-Ty (Ty → Bool) (λ layer ty. same_layer layer (out-Ty ty)) x)
    ∙ ap (same_layer (map-Ty Ty (Ty → Bool) same_ty x)) (out-roll-Ty x)
    ∙ subst (λ z. same_layer (map-Ty Ty (Ty → Bool) same_ty z) z ≡ true) is (layer-same y))
