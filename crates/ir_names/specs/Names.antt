-- The names of a module: what its lines define, and what they mention (LLVM Language Reference, 'Identifiers', 'Module
-- Structure', 'Functions').
--
-- Choices: names of types, `@` names and the `%` names of each function are apart; registers and labels of one function
-- share their names. A declare defines its name. A definition may stand behind what mentions it.
use Rattle.std.specs.Prelude.{ℕ, Bool, false, not, ◌&&◌, List, [], ◌∷◌, ◌++◌, map, Option, Some, None, find, nat_eq, if◌then◌else◌}
use Rattle.std.specs.List.{flat_map, list_any, cons_option}
use Rattle.std.specs.Option.{option_map}
use Rattle.ir_core.specs.Module.{ModuleParts}
use Rattle.ir_numbering.specs.Places.{places_of_ty, places_of_global, places_of_declare, places_of_head, places_of_inst}
use Rattle.ir_core.specs.Instructions.{result_of}
use Rattle.ir_numbering.specs.declared.places.Place.{Place}
use Rattle.ir_numbering.specs.declared.places.Place.TheVariants.{Local, Struct, Global}
use Rattle.ir_lines.specs.Lines.{Line, TypeLine, GlobalLine, DeclareLine, HeadLine, BlockLine, InstLine, site_of, lines_of, first_told}
use Rattle.ir_lines.specs.declared.site.Site.{Site}
use Rattle.ir_lines.specs.declared.site.Named.{Named}
use Rattle.ir_lines.specs.declared.site.Named.TheVariants as names

-- `%` names are the same only where they are of one function
abbrev pub same_name : Named → Named → Bool
same_name (names.Type id) (names.Type other) = nat_eq id.0 other.0
same_name (names.Sym sym) (names.Sym other) = nat_eq sym.0 other.0
same_name (names.Loc n at) (names.Loc m other) = nat_eq n m && nat_eq at.0 other.0
same_name name other = false

-- ---- definitions

-- the names that a line defines, in the order in which it writes them
abbrev pub defined_in : Line → List Named
defined_in (TypeLine named) = names.Type named.0 ∷ []
defined_in (GlobalLine global) = names.Sym global.sym ∷ []
defined_in (DeclareLine declare) = names.Sym declare.sym ∷ []
defined_in (HeadLine n f) = names.Sym f.sym ∷ map (λ param. names.Loc n param.1) f.params
defined_in (BlockLine n f b block) = names.Loc n block.label ∷ []
defined_in (InstLine n f b i inst) = cons_option (option_map (names.Loc n) (result_of inst)) []

-- the same, each with the site where it stands
abbrev pub definitions_in : Line → List (Site × Named)
definitions_in line = map (λ name. (site_of line, name)) (defined_in line)

abbrev pub definitions_of : List Line → List (Site × Named)
definitions_of = flat_map definitions_in

abbrev pub definitions : ModuleParts → List (Site × Named)
definitions m = definitions_of (lines_of m)

-- the first definition of a name that stands among those before it
abbrev pub first_again : List Named → List (Site × Named) → Option (Site × Named)
first_again before [] = None
first_again before (d ∷ defs) = if list_any (same_name d.1) before then Some d else first_again (before ++ d.1 ∷ []) defs

-- the first name of a module that is defined again, where that stands
abbrev pub duplicate : ModuleParts → Option (Site × Named)
duplicate m = first_again [] (definitions m)

-- ---- mentions

-- the name at a place of a tree; inside the function with this number, if the tree has `%` names
abbrev pub name_at : ℕ → Place → Named
name_at n (Local at) = names.Loc n at
name_at n (Struct id) = names.Type id
name_at n (Global sym) = names.Sym sym

-- The names that a line mentions, as it writes them. A block's line has its label alone, which it defines.
abbrev pub mentions_in : Line → List Named
mentions_in (TypeLine named) = map (name_at 0) (places_of_ty named.1)
mentions_in (GlobalLine global) = map (name_at 0) (places_of_global global)
mentions_in (DeclareLine declare) = map (name_at 0) (places_of_declare declare)
mentions_in (HeadLine n f) = map (name_at n) (places_of_head f)
mentions_in (BlockLine n f b block) = []
mentions_in (InstLine n f b i inst) = map (name_at n) (places_of_inst inst)

-- the first of the names that isn't known
abbrev pub first_strange : (Named → Bool) → List Named → Option Named
first_strange known mentioned = find (λ name. not (known name)) mentioned

-- the first name that lines mention and that isn't known, where that stands
abbrev pub first_unknown : (Named → Bool) → List Line → Option (Site × Named)
first_unknown known lines = first_told (λ line. first_strange known (mentions_in line)) lines

-- whether a module defines a name anywhere
abbrev pub is_defined : ModuleParts → Named → Bool
is_defined m name = list_any (same_name name) (map (λ d. d.1) (definitions m))

-- the first name that a module mentions and nowhere defines, where it is mentioned
abbrev pub unknown : ModuleParts → Option (Site × Named)
unknown m = first_unknown (is_defined m) (lines_of m)
