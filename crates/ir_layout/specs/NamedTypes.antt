-- What is known of named types while names are followed deeper and deeper.
use Rattle.std.specs.Prelude.{ℕ, ◌≡◌, List, Option, slice_get, nat_eq}
use Rattle.std.specs.Option.{option_map, option_and_then, option_flatten}
use Rattle.std.specs.HashMap.{HashMap, get}
use Rattle.std.specs.declared.hash.FoldHasher.{FoldHasher}
use Rattle.std.specs.declared.hash.BuildHasherDefault.{BuildHasherDefault}
use Rattle.ir_core.specs.declared.types.Ty.{Ty}
use Rattle.ir_core.specs.declared.types.TypeId.{TypeId}
use Rattle.ir_layout.specs.declared.shapes.KeptShape.{KeptShape}
use Rattle.ir_layout.specs.Shapes.{definition_of, named_shape}
use Rattle.ir_layout.specs.KeptShapes.{kept}

-- a table from numbers to places in a list
abbrev pub Places : Type 0
Places = HashMap ℕ ℕ (BuildHasherDefault FoldHasher)

-- at the place of each name stands its definition
abbrev pub ArePlaced : List (TypeId × Ty) → Places → Type 0
ArePlaced types places = (id : ℕ) → option_and_then (slice_get types) (get nat_eq places id) ≡ definition_of types id

-- the shape that a table has for a name
abbrev pub looked_up : Places → List (Option KeptShape) → ℕ → Option KeptShape
looked_up places shapes id = option_flatten (option_and_then (slice_get shapes) (get nat_eq places id))

-- the table has the shapes of all names, followed so many deep
abbrev pub AreKnown : List (TypeId × Ty) → ℕ → Places → List (Option KeptShape) → Type 0
AreKnown types rounds places shapes = (id : ℕ) → looked_up places shapes id ≡ option_map kept (named_shape types rounds id)
