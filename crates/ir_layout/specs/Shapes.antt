-- Sizes, alignments and nesting of types (LLVM Language Reference, 'Data Layout', 'Structure Type', 'Array Type').
--
-- Choices: a shape is told of types as plain data, and named types are followed a bounded number of names deep, so that
-- a struct that holds itself has no shape. Where a name is defined twice, the last definition counts; an accepted module
-- has one. `void` takes no bytes. Sizes are whole numbers without a bound.
use Rattle.std.specs.Prelude.{ℕ, zero, suc, ◌+◌, ◌-◌, ◌*◌, ◌/◌, List, Option, Some, None, max, nat_le, nat_eq, fold, find, reverse, unwrap_or, if◌then◌else◌}
use Rattle.std.specs.Option.{option_map, option_and_then}
use Rattle.ir_core.specs.declared.types.Ty.{Ty, fold-Ty}
use Rattle.ir_core.specs.declared.types.Ty.TheOpen.{Ty-F}
use Rattle.ir_core.specs.declared.types.TypeId.{TypeId}
use Rattle.ir_core.specs.declared.types.Width.{Width}
use Rattle.ir_core.specs.declared.types.Width.TheVariants.{W1, W8, W16, W32, W64}
use Rattle.ir_layout.specs.declared.shapes.Align.{Align}
use Rattle.ir_layout.specs.declared.shapes.Align.TheVariants.{One, Two, Four, Eight}

-- what a layout knows of a type: its bytes, its alignment, how deep it nests
pub record Shape : Type 0 where
  pub size : ℕ
  pub align : Align
  pub depth : ℕ

-- ---- alignments

abbrev pub bytes : Align → ℕ
bytes One = 1
bytes Two = 2
bytes Four = 4
bytes Eight = 8

abbrev pub greater : Align → Align → Align
greater a b = if nat_le (bytes a) (bytes b) then b else a

-- the next multiple of `step` from n on
abbrev pub round_up : ℕ → ℕ → ℕ
round_up step n = (n + (step - 1)) / step * step

-- ---- shapes

-- an integer of this width takes so many bytes, and has the same alignment
abbrev pub align_of : Width → Align
align_of W1 = One
align_of W8 = One
align_of W16 = Two
align_of W32 = Four
align_of W64 = Eight

abbrev pub scalar : Align → Shape
scalar a = record { size = bytes a; align = a; depth = 0 }

-- `void`, and a struct before its first field
abbrev pub nothing : Shape
nothing = record { size = 0; align = One; depth = 0 }

abbrev pub array_of : ℕ → Shape → Shape
array_of count element = record { size = count * element.size; align = element.align; depth = suc element.depth }

-- where a field with this alignment stands behind what takes so many bytes
abbrev pub field_start : ℕ → Align → ℕ
field_start taken a = round_up (bytes a) taken

-- the fields so far and one more: it stands at the next multiple of its alignment
abbrev pub with_field : Shape → Shape → Shape
with_field fields field = record {
  size = field_start fields.size field.align + field.size;
  align = greater fields.align field.align;
  depth = max fields.depth field.depth;
}

-- a struct of its fields: its size is rounded up to its greatest alignment
abbrev pub struct_of : Shape → Shape
struct_of fields = record { size = round_up (bytes fields.align) fields.size; align = fields.align; depth = suc fields.depth }

-- the same where some shape may lack
abbrev pub add_field : Option Shape → Option Shape → Option Shape
add_field None field = None
add_field (Some fields) None = None
add_field (Some fields) (Some field) = Some (with_field fields field)

abbrev pub fields_of : List (Option Shape) → Option Shape
fields_of = fold add_field (Some nothing)

-- one layer of a type: its parts' shapes and those of named types are given
abbrev pub shape_step : (ℕ → Option Shape) → Ty-F (Option Shape) → Option Shape
shape_step named Ty-F.Void = Some nothing
shape_step named (Ty-F.Int width) = Some (scalar (align_of width))
shape_step named Ty-F.Ptr = Some (scalar Eight)
shape_step named (Ty-F.Array count element) = option_map (array_of count) element
shape_step named (Ty-F.Struct parts) = option_map struct_of (fields_of parts)
shape_step named (Ty-F.Named id) = named id.0

abbrev pub shape_with : (ℕ → Option Shape) → Ty → Option Shape
shape_with named = fold-Ty (Option Shape) (shape_step named)

-- ---- named types

-- the shape, where it nests at most so deep
abbrev pub within : ℕ → Option Shape → Option Shape
within limit None = None
within limit (Some shape) = if nat_le shape.depth limit then Some shape else None

-- how deep a type may nest
abbrev pub depth_limit : ℕ
depth_limit = 16

-- the definition of a named type
abbrev pub definition_of : List (TypeId × Ty) → ℕ → Option (TypeId × Ty)
definition_of types id = find (λ named. nat_eq named.0.0 id) (reverse types)

-- the shape of a body, and of a named type, where names are followed so many deep
abbrev pub body_shape : (ℕ → Option Shape) → TypeId × Ty → Option Shape
body_shape named definition = within depth_limit (shape_with named definition.1)

unfoldable pub named_shape : List (TypeId × Ty) → ℕ → ℕ → Option Shape
named_shape types zero id = None
named_shape types (suc rounds) id = option_and_then (body_shape (named_shape types rounds)) (definition_of types id)

-- The shape of a type that nests at most as deep as the limit, or none where it nests deeper. A struct is one deeper
-- than each of its parts, so no such type follows more names than that one behind another.
abbrev pub shape_of : List (TypeId × Ty) → Ty → Option Shape
shape_of types ty = within depth_limit (shape_with (named_shape types depth_limit) ty)

-- the same, and nothing for a type without a shape; how many bytes a type takes
abbrev pub known_shape : List (TypeId × Ty) → Ty → Shape
known_shape types ty = unwrap_or (shape_of types ty) nothing

abbrev pub size_of : List (TypeId × Ty) → Ty → ℕ
size_of types ty = (known_shape types ty).size
