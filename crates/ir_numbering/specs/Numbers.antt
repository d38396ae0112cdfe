-- Name tables over a text: the tables once they have the names at places, and what becomes of places.
use Rattle.std.specs.Prelude.{ℕ, ◌≡◌, ◌+◌, ◌<◌, Bool, true, nat_lt, List, [], ◌∷◌, ◌++◌, length, take, map, fold}
use Rattle.std.specs.List.{flat_map, list_all}
use Rattle.ir_core.specs.declared.types.Ty.{Ty}
use Rattle.ir_core.specs.declared.types.TypeId.{TypeId}
use Rattle.ir_core.specs.Module.{ModuleParts, FuncParts, empty_module}
use Rattle.ir_core.specs.Names.{number_given, numbered}
use Rattle.ir_core.specs.TokenLengths.{name_from}
use Rattle.ir_numbering.specs.Renaming.{Renaming, renamed_type_id, renamed_ty, renamed_global, renamed_declare, renamed_param, renamed_block, renamed_func}
use Rattle.ir_numbering.specs.Places.{places_of_ty, places_of_global, places_of_declare, mentions_of_func, places_of_func}
use Rattle.ir_numbering.specs.declared.places.Place.{Place}
use Rattle.ir_numbering.specs.declared.places.Place.TheVariants.{Local, Struct, Global}

-- ---- the tables once they have names

-- the `%` names of registers and labels at the places, in order
abbrev pub locals_at : List ℕ → List Place → List (List ℕ)
locals_at text [] = []
locals_at text (Local at ∷ places) = name_from text at.0 ∷ locals_at text places
locals_at text (Struct at ∷ places) = locals_at text places
locals_at text (Global at ∷ places) = locals_at text places

-- the names of types there
abbrev pub structs_at : List ℕ → List Place → List (List ℕ)
structs_at text [] = []
structs_at text (Local at ∷ places) = structs_at text places
structs_at text (Struct at ∷ places) = name_from text at.0 ∷ structs_at text places
structs_at text (Global at ∷ places) = structs_at text places

-- the `@` names there
abbrev pub globals_at : List ℕ → List Place → List (List ℕ)
globals_at text [] = []
globals_at text (Local at ∷ places) = globals_at text places
globals_at text (Struct at ∷ places) = globals_at text places
globals_at text (Global at ∷ places) = name_from text at.0 ∷ globals_at text places

-- a table once it has the names, each by its first sight
unfoldable pub with_names : List (List ℕ) → List (List ℕ) → List (List ℕ)
with_names table names = fold numbered table names

-- a module once it has the names at the places
abbrev pub module_with : List ℕ → List Place → ModuleParts → ModuleParts
module_with text places m = record m { syms = with_names m.syms (globals_at text places); type_names = with_names m.type_names (structs_at text places) }

-- a function once it has the names at the places
abbrev pub func_with : List ℕ → List Place → FuncParts → FuncParts
func_with text places f = record f { names = with_names f.names (locals_at text places) }

-- The names at a front of the places have joined the tables, and nothing else changed.
pub record ModuleFront (text : List ℕ) (places : List Place) (before after : ModuleParts) : Type 0 where
  pub count : ℕ
  pub is : after ≡ module_with text (take count places) before

pub record FuncFront (text : List ℕ) (places : List Place) (before after : FuncParts) : Type 0 where
  pub count : ℕ
  pub is : after ≡ func_with text (take count places) before

pub record HasFront (text : List ℕ) (places : List Place) (m : ModuleParts) (f : FuncParts) (m' : ModuleParts) (f' : FuncParts) : Type 0 where
  pub in_module : ModuleFront text places m m'
  pub in_func : FuncFront text places f f'

-- each table of a module has room for so many names more
pub record HasRoom (count : ℕ) (m : ModuleParts) : Type 0 where
  pub syms : length m.syms + count < 4294967295
  pub type_names : length m.type_names + count < 4294967295

-- ---- what becomes of places

-- a place becomes the number of the name that begins there
abbrev pub renaming_of : List ℕ → ModuleParts → FuncParts → Renaming
renaming_of text m f = record {
  loc = λ at. number_given f.names (name_from text at);
  type_id = λ at. number_given m.type_names (name_from text at);
  sym = λ at. number_given m.syms (name_from text at);
}

-- outside functions: no place is a register's or a label's
abbrev pub renaming_outside : List ℕ → ModuleParts → Renaming
renaming_outside text m = record {
  loc = λ at. 0;
  type_id = λ at. number_given m.type_names (name_from text at);
  sym = λ at. number_given m.syms (name_from text at);
}

-- a function whose table takes the names at the places, and which then takes the parameters and the blocks of a tree
abbrev pub filled_by : List ℕ → ModuleParts → FuncParts → List Place → FuncParts → FuncParts
filled_by text m tree places f =
    let named = func_with text places f in
    let r = renaming_of text m named in
    record named { params = named.params ++ map (renamed_param r) tree.params; blocks = named.blocks ++ map (renamed_block r) tree.blocks }

-- a function by a table of the names at the places
abbrev pub numbered_by : List ℕ → ModuleParts → List Place → FuncParts → FuncParts
numbered_by text m places f =
    let names = with_names [] (locals_at text places) in
    record (renamed_func (renaming_of text m (record f { names = names })) f) { names = names }

-- a function whose registers and labels are numbered by the places of its own tree
abbrev pub numbered_func : List ℕ → ModuleParts → FuncParts → FuncParts
numbered_func text m f = numbered_by text m (places_of_func f) f

-- whether the number of a register or a label is below
abbrev pub is_below : ℕ → Place → Bool
is_below count (Local at) = nat_lt at.0 count
is_below count (Struct id) = true
is_below count (Global sym) = true

-- whether a function's table has each register and label that it mentions
abbrev pub is_closed : FuncParts → Bool
is_closed f = list_all (is_below (length f.names)) (mentions_of_func f)

-- ---- whole modules

abbrev pub places_of_named : TypeId × Ty → List Place
places_of_named named = Struct named.0 ∷ [] ++ places_of_ty named.1

-- The names of types and the `@` names of a module are numbered by first sight in this order.
abbrev pub places_of_module : ModuleParts → List Place
places_of_module m = flat_map places_of_named m.types ++ flat_map places_of_global m.globals ++ flat_map places_of_declare m.declares ++ flat_map places_of_func m.funcs

abbrev pub renamed_named : Renaming → TypeId × Ty → TypeId × Ty
renamed_named r named = (renamed_type_id r named.0, renamed_ty r named.1)

-- the parts of a module, by the tables that number its names
abbrev pub parts_by : List ℕ → ModuleParts → ModuleParts → ModuleParts
parts_by text table m =
    let r = renaming_outside text table in
    record table { types = map (renamed_named r) m.types; globals = map (renamed_global r) m.globals; declares = map (renamed_declare r) m.declares; funcs = map (numbered_func text table) m.funcs }

-- a module whose names are numbered by the places of its own tree
abbrev pub numbered_module : List ℕ → ModuleParts → ModuleParts
numbered_module text m = parts_by text (module_with text (places_of_module m) empty_module) m
