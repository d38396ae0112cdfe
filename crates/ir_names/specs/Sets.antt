-- Sets of names, as the code keeps them: numbers of types, of `@` names, and of functions with their `%` names.
use Rattle.std.specs.Prelude.{◌≡◌, Bool, List, map, nat_eq}
use Rattle.std.specs.List.{list_any}
use Rattle.std.specs.HashSet.{contains}
use Rattle.ir_lines.specs.declared.site.Site.{Site}
use Rattle.ir_lines.specs.declared.site.Named.{Named}
use Rattle.ir_lines.specs.declared.site.Named.TheVariants as names
use Rattle.ir_names.specs.Locals.{has_loc}
use Rattle.ir_names.specs.Names.{same_name}
use Rattle.ir_names.specs.declared.name_set.NameSet.{NameSet}

-- whether a set has a name
abbrev pub has_name : NameSet → Named → Bool
has_name set (names.Type id) = contains nat_eq set.types id.0
has_name set (names.Sym sym) = contains nat_eq set.syms sym.0
has_name set (names.Loc n at) = has_loc set.locs n at.0

-- the set has exactly the names of these definitions
abbrev pub HasNamesOf : List (Site × Named) → NameSet → Type 0
HasNamesOf defs set = (name : Named) → has_name set name ≡ list_any (same_name name) (map (λ d. d.1) defs)
