-- Whether types are the same: built alike, of the same names (LLVM Language Reference, 'Type System').
use Rattle.std.specs.Prelude.{Bool, true, false, ◌&&◌, List, [], ◌∷◌, map, nat_eq}
use Rattle.ir_core.specs.declared.types.Ty.{Ty, fold-Ty}
use Rattle.ir_core.specs.declared.types.Ty.TheOpen.{Ty-F}
use Rattle.ir_core.specs.declared.types.Ty.TheViews.{out-Ty}
use Rattle.ir_core.specs.declared.types.Width.{Width}
use Rattle.ir_core.specs.declared.types.Width.TheVariants.{W1, W8, W16, W32, W64}

abbrev pub same_width : Width → Width → Bool
same_width W1 W1 = true
same_width W8 W8 = true
same_width W16 W16 = true
same_width W32 W32 = true
same_width W64 W64 = true
same_width a b = false

-- each of the parts is the same as the type beside it
abbrev pub same_parts : List (Ty → Bool) → List Ty → Bool
same_parts [] [] = true
same_parts (part ∷ parts) (ty ∷ types) = part ty && same_parts parts types
same_parts parts types = false

-- one layer of a type, and of another one; whether its parts are the same as others is given
abbrev pub same_layer : Ty-F (Ty → Bool) → Ty-F Ty → Bool
same_layer Ty-F.Void Ty-F.Void = true
same_layer (Ty-F.Int width) (Ty-F.Int other) = same_width width other
same_layer Ty-F.Ptr Ty-F.Ptr = true
same_layer (Ty-F.Array count element) (Ty-F.Array others ty) = nat_eq count others && element ty
same_layer (Ty-F.Struct parts) (Ty-F.Struct types) = same_parts parts types
same_layer (Ty-F.Named id) (Ty-F.Named other) = nat_eq id.0 other.0
same_layer layer other = false

abbrev pub same_ty : Ty → Ty → Bool
same_ty = fold-Ty (Ty → Bool) (λ layer ty. same_layer layer (out-Ty ty))

-- each type is the same as the one beside it, and there are as many
abbrev pub same_types : List Ty → List Ty → Bool
same_types types others = same_parts (map same_ty types) others
