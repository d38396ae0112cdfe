-- A table of what @ names stand for.
use Rattle.std.specs.Prelude.{ℕ, ◌≡◌, List, nat_eq, Option}
use Rattle.std.specs.Option.{option_map}
use Rattle.std.specs.HashMap.{HashMap, get}
use Rattle.std.specs.declared.hash.FoldHasher.{FoldHasher}
use Rattle.std.specs.declared.hash.BuildHasherDefault.{BuildHasherDefault}
use Rattle.ir_core.specs.declared.types.Sym.{Sym}
use Rattle.ir_calls.specs.declared.table.Item.{Item}
use Rattle.ir_calls.specs.declared.table.Item.TheVariants as items
use Rattle.ir_calls.specs.Calls.{Standing, Variable, of_declare, of_func, first_standing}

abbrev pub Items : Type 0
Items = HashMap ℕ Item (BuildHasherDefault FoldHasher)

-- what an item of the table tells
abbrev pub told : Item → Standing
told items.Variable = Variable
told (items.Declared declare) = (of_declare declare.now).1
told (items.Defined f) = (of_func f.now).1

-- what the table tells of a name
abbrev pub looked_up : Items → Sym → Option Standing
looked_up table sym = option_map told (get nat_eq table sym.0)

-- of each name the table tells what the first of these does
abbrev pub AreItems : List (Sym × Standing) → Items → Type 0
AreItems named table = (sym : Sym) → looked_up table sym ≡ first_standing sym named
