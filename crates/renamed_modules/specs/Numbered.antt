-- Modules whose names are in tables, as the reader makes them.
use Rattle.std.specs.Prelude.{ℕ, ◌≡◌, ◌<◌, ◌≤◌, List, [], ◌∷◌, Option, Some, None, length, slice_get}
use Rattle.std.specs.List.{flat_map}
use Rattle.ir_core.specs.Module.{ModuleParts, FuncParts}
use Rattle.ir_numbering.specs.declared.places.Place.{Place}
use Rattle.ir_numbering.specs.declared.places.Place.TheVariants.{Local, Struct, Global}
use Rattle.ir_numbering.specs.Places.{mentions_of_func, places_of_global, places_of_declare}
use Rattle.ir_numbering.specs.Numbers.{places_of_named}

-- no name stands twice in a table
abbrev pub AreDistinct : List (List ℕ) → Type 0
AreDistinct names = (a b : ℕ) (name : List ℕ) → slice_get names a ≡ Some name → slice_get names b ≡ Some name → a ≡ b

-- something holds at all places
abbrev pub AllAt : (Place → Type 0) → List Place → Type 0
AllAt P [] = Unit {0}
AllAt P (place ∷ places) = P place × AllAt P places

-- a name at a place has a number in its table
abbrev pub IsWithin : ModuleParts → List (List ℕ) → Place → Type 0
IsWithin m names (Local at) = at.0 < length names
IsWithin m names (Struct id) = id.0 < length m.type_names
IsWithin m names (Global name) = name.0 < length m.syms

-- the same outside functions, where no register or label is told of
abbrev pub IsOuter : ModuleParts → Place → Type 0
IsOuter m (Local at) = Unit {0}
IsOuter m (Struct id) = id.0 < length m.type_names
IsOuter m (Global name) = name.0 < length m.syms

pub record AreNumbered (m : ModuleParts) : Type 0 where
  pub type_names : AreDistinct m.type_names
  pub syms : AreDistinct m.syms
  pub names : (n : ℕ) (f : FuncParts) → slice_get m.funcs n ≡ Some f → AreDistinct f.names
  pub types : AllAt (IsOuter m) (flat_map places_of_named m.types)
  pub globals : AllAt (IsOuter m) (flat_map places_of_global m.globals)
  pub declares : AllAt (IsOuter m) (flat_map places_of_declare m.declares)
  pub funcs : (n : ℕ) (f : FuncParts) → slice_get m.funcs n ≡ Some f → AllAt (IsWithin m f.names) (mentions_of_func f)

-- no function has more names than a module may have
abbrev pub HasFewNames : ModuleParts → Type 0
HasFewNames m = (n : ℕ) (f : FuncParts) → slice_get m.funcs n ≡ Some f → length f.names ≤ 65536
