-- The limits of types and of globals, and the first one that a module breaks.
--
-- Choices: a type that nests too deep breaks that limit alone. A line breaks a limit where a type that it writes does, whatever
-- part of the line that type belongs to; the parts of these types aren't looked at. Named types come before globals, each in
-- the module's order; at one place the first limit in the order of `LimitKind` counts.
use Rattle.std.specs.Prelude.{ℕ, ◌≡◌, ◌+◌, Bool, true, false, not, List, [], ◌∷◌, ◌++◌, Option, Some, None, nat_lt, slice_get, unwrap_or, codes, if◌then◌else◌}
use Rattle.std.specs.List.{list_all}
use Rattle.std.specs.Option.{option_or}
use Rattle.ir_core.specs.declared.types.Ty.{Ty}
use Rattle.ir_core.specs.declared.types.TypeId.{TypeId}
use Rattle.ir_core.specs.declared.values.GlobalVar.{GlobalVar}
use Rattle.ir_core.specs.Module.{ModuleParts}
use Rattle.ir_layout.specs.Shapes.{Shape, shape_of}
use Rattle.ir_layout.specs.KeptShapes.{size_limit}
use Rattle.ir_layout.specs.Memory.{area_size, globals_start, span_at, end_of}
use Rattle.ir_layout.specs.WrittenTypes.{types_in_global}
use Rattle.ir_layout.specs.declared.limits.LimitKind.{LimitKind}
use Rattle.ir_layout.specs.declared.limits.LimitKind.TheVariants.{Globals, TypeSize, TypeDepth}
use Rattle.ir_layout.specs.declared.limits.LayoutError.{LayoutError}
use Rattle.ir_layout.specs.declared.limits.LayoutError.TheVariants.{Limit, NoMemory}

-- the limit that a shape breaks
abbrev pub limit_of_shape : Option Shape → Option LimitKind
limit_of_shape None = Some TypeDepth
limit_of_shape (Some shape) = if nat_lt size_limit shape.size then Some TypeSize else None

abbrev pub limit_of : List (TypeId × Ty) → Ty → Option LimitKind
limit_of types ty = limit_of_shape (shape_of types ty)

-- whether a type keeps these two limits
abbrev pub is_too_large : Option LimitKind → Bool
is_too_large (Some TypeSize) = true
is_too_large other = false

abbrev pub is_too_deep : Option LimitKind → Bool
is_too_deep (Some TypeDepth) = true
is_too_deep other = false

-- the first of these limits that one of the types breaks
abbrev pub limit_among : List (TypeId × Ty) → List Ty → Option LimitKind
limit_among types written =
    if not (list_all (λ ty. not (is_too_large (limit_of types ty))) written) then Some TypeSize
    else if not (list_all (λ ty. not (is_too_deep (limit_of types ty))) written) then Some TypeDepth
    else None

-- ---- places

-- one past the last address of globals
abbrev pub globals_end : ℕ
globals_end = globals_start + area_size

-- a name of a table, and no bytes where it has none of that number
abbrev pub name_at : List (List ℕ) → ℕ → List ℕ
name_at names n = unwrap_or (slice_get names n) []

abbrev pub type_place : ModuleParts → TypeId → List ℕ
type_place m id = codes "%" ++ name_at m.type_names id.0

abbrev pub global_place : ModuleParts → GlobalVar → List ℕ
global_place m global = codes "@" ++ name_at m.syms global.sym.0

-- a limit and its place, where one is broken
abbrev pub placed : List ℕ → Option LimitKind → Option (LimitKind × List ℕ)
placed place None = None
placed place (Some kind) = Some (kind, place)

-- ---- the first limit

abbrev pub first_of_types : ModuleParts → List (TypeId × Ty) → Option (LimitKind × List ℕ)
first_of_types m [] = None
first_of_types m (named ∷ types) = option_or (placed (type_place m named.0) (limit_of m.types named.1)) (first_of_types m types)

-- of a global's line, where those before it take the bytes up to `taken`
abbrev pub limit_of_global : List (TypeId × Ty) → ℕ → GlobalVar → Option LimitKind
limit_of_global types taken global = if nat_lt globals_end (end_of (span_at types taken global)) then Some Globals else limit_among types (types_in_global global)

abbrev pub first_of_globals : ModuleParts → ℕ → List GlobalVar → Option (LimitKind × List ℕ)
first_of_globals m taken [] = None
first_of_globals m taken (global ∷ globals) = option_or (placed (global_place m global) (limit_of_global m.types taken global)) (first_of_globals m (end_of (span_at m.types taken global)) globals)

-- the first limit that types or globals break, and its place
abbrev pub first_limit : ModuleParts → Option (LimitKind × List ℕ)
first_limit m = option_or (first_of_types m m.types) (first_of_globals m globals_start m.globals)

-- what a refusal says of the first limit; want of memory says nothing
abbrev pub Refuses : Option (LimitKind × List ℕ) → LayoutError → Type 0
Refuses first (Limit kind at) = first ≡ Some (kind, at)
Refuses first NoMemory = Unit {0}
