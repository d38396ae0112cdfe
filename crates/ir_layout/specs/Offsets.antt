-- Offsets inside types (LLVM Language Reference, 'getelementptr Instruction').
--
-- Choices: an offset is one sum, reduced modulo 2^64 once. An index is read as signed, in two's complement. The first index
-- counts whole types. A further one counts elements of an array, in range or not, or names a field by a constant `i32`;
-- nothing else has an index. A type without a shape counts no bytes here.
use Rattle.std.specs.Prelude.{◌≡◌, ℕ, ◌+◌, ◌-◌, ◌*◌, ◌^◌, Bool, true, false, List, [], ◌∷◌, Option, Some, None, map, take, slice_get, nat_lt, fold, if◌then◌else◌}
use Rattle.std.specs.Borrow.{Bor}
use Rattle.std.specs.Option.{option_map, option_and_then}
use Rattle.ir_core.specs.declared.types.Ty.{Ty}
use Rattle.ir_core.specs.declared.types.Ty.TheOpen.{Ty-F}
use Rattle.ir_core.specs.declared.types.Ty.TheViews.{out-Ty}
use Rattle.ir_core.specs.declared.types.TypeId.{TypeId}
use Rattle.ir_core.specs.declared.types.Width.{Width}
use Rattle.ir_core.specs.declared.types.Width.TheVariants.{W1, W8, W16, W32, W64}
use Rattle.ir_layout.specs.Shapes.{nothing, with_field, field_start, definition_of, known_shape, size_of}
use Rattle.ir_layout.specs.KeptShapes.{word}

-- ---- indices

-- the least word of a width that stands for a negative number
abbrev pub sign_bit : Width → ℕ
sign_bit W1 = 1
sign_bit W8 = 128
sign_bit W16 = 32768
sign_bit W32 = 2147483648
sign_bit W64 = 9223372036854775808

-- the signed number of an index, as a word of 64 bits
abbrev pub signed_word : Width → ℕ → ℕ
signed_word width n = if nat_lt n (sign_bit width) then n else word (n + (2 ^ 64 - 2 * sign_bit width))

abbrev pub is_i32 : Width → Bool
is_i32 W1 = false
is_i32 W8 = false
is_i32 W16 = false
is_i32 W32 = true
is_i32 W64 = false

-- ---- what an index goes into

-- the fields of a struct
abbrev pub fields_step : Ty-F Ty → Option (List Ty)
fields_step (Ty-F.Struct parts) = Some parts
fields_step other = None

abbrev pub own_fields : Ty → Option (List Ty)
own_fields ty = fields_step (out-Ty ty)

-- and of one that has a name
abbrev pub named_fields_step : List (TypeId × Ty) → Ty-F Ty → Option (List Ty)
named_fields_step named (Ty-F.Struct parts) = Some parts
named_fields_step named (Ty-F.Named id) = option_and_then (λ definition. own_fields definition.1) (definition_of named id.0)
named_fields_step named other = None

abbrev pub fields : List (TypeId × Ty) → Ty → Option (List Ty)
fields named ty = named_fields_step named (out-Ty ty)

-- where a field stands behind those before it
abbrev pub field_offset : List (TypeId × Ty) → List Ty → Ty → ℕ
field_offset named before field = field_start (fold with_field nothing (map (known_shape named) before)).size (known_shape named field).align

-- the field with this number, and where it stands
abbrev pub numbered_field : List (TypeId × Ty) → ℕ → List Ty → Option (Ty × ℕ)
numbered_field named n parts = option_map (λ field. (field, field_offset named (take n parts) field)) (slice_get parts n)

-- the field that an index names
abbrev pub field_at : List (TypeId × Ty) → Width × ℕ → List Ty → Option (Ty × ℕ)
field_at named index parts = if is_i32 index.0 then numbered_field named index.1 parts else None

-- the type that an index goes into, and how many bytes further that stands
abbrev pub entered_step : List (TypeId × Ty) → Width × ℕ → Ty → Ty-F Ty → Option (Ty × ℕ)
entered_step named index ty (Ty-F.Array count element) = Some (element, signed_word index.0 index.1 * size_of named element)
entered_step named index ty other = option_and_then (field_at named index) (fields named ty)

abbrev pub entered : List (TypeId × Ty) → Width × ℕ → Ty → Option (Ty × ℕ)
entered named index ty = entered_step named index ty (out-Ty ty)

-- how far further indices go, or none where one doesn't fit
abbrev pub inner_offset : List (TypeId × Ty) → Ty → List (Width × ℕ) → Option ℕ
inner_offset named ty [] = Some 0
inner_offset named ty (index ∷ indices) = option_and_then (λ step. option_map (λ rest. step.1 + rest) (inner_offset named step.0 indices)) (entered named index ty)

-- the offset of indices into a type
abbrev pub offset_of : List (TypeId × Ty) → Ty → List (Width × ℕ) → Option ℕ
offset_of named base [] = Some 0
offset_of named base (index ∷ indices) = option_map (λ rest. word (signed_word index.0 index.1 * size_of named base + rest)) (inner_offset named base indices)

-- the same type, and the same place modulo 2^64
abbrev pub at_word : Ty × ℕ → Ty × ℕ
at_word step = (step.0, word step.1)

abbrev pub seen : Bor Ty × ℕ → Ty × ℕ
seen found = (found.0.now, found.1)

abbrev pub Reaches : Option (Ty × ℕ) → Option (Bor Ty × ℕ) → Type 0
Reaches step found = option_map at_word step ≡ option_map seen found
