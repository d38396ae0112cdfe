-- What name tables keep, whatever names they take.
use Rattle.std.specs.Prelude.{ℕ, ◌≡◌, ◌<◌, List, length}
use Rattle.std.specs.List.{Contains}
use Rattle.ir_core.specs.Module.{ModuleParts, FuncParts}
use Rattle.ir_core.specs.Names.{number_given}
use Rattle.ir_numbering.specs.declared.places.Place.{Place}
use Rattle.ir_numbering.specs.declared.places.Place.TheVariants.{Local, Struct, Global}
use Rattle.ir_numbering.specs.Numbers.{with_names, module_with, func_with, renaming_of, HasFront}

-- a name that has a number keeps it
abbrev pub NumbersStay : Type 0
NumbersStay = (table names : List (List ℕ)) (name : List ℕ) → number_given table name < length table → number_given (with_names table names) name ≡ number_given table name

-- the name at the place has a number
abbrev pub HasNumber : List ℕ → ModuleParts → FuncParts → Place → Type 0
HasNumber text m f (Local at) = (renaming_of text m f).loc at.0 < length f.names
HasNumber text m f (Struct at) = (renaming_of text m f).type_id at.0 < length m.type_names
HasNumber text m f (Global at) = (renaming_of text m f).sym at.0 < length m.syms

-- the names at places have numbers once the tables have taken them
abbrev pub PlacesAreNumbered : Type 0
PlacesAreNumbered = (text : List ℕ) (places : List Place) (m : ModuleParts) (f : FuncParts) (place : Place) → Contains places place → HasNumber text (module_with text places m) (func_with text places f) place

-- after want of memory a module is as before but for its name tables, and so is a function
abbrev pub OnlyTablesChange : Type 0
OnlyTablesChange = (text : List ℕ) (places : List Place) (m m' : ModuleParts) (f f' : FuncParts) → HasFront text places m f m' f' → (m' ≡ record m { syms = m'.syms; type_names = m'.type_names }) × (f' ≡ record f { names = f'.names })
