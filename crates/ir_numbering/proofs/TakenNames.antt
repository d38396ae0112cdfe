-- Name tables that take the names at places: one place after others, and how long they get.
use Rattle.std.proofs.Common.{◌≡◌, ℕ, ◌+◌, ◌<◌, ◌≤◌, List, [], ◌∷◌, ◌++◌, length, take, get_or, ap, refl, sym, subst, ◌∙◌, arith}
use Rattle.std.proofs.Math.Seq.{take-length}
use Rattle.std.proofs.lemmas.List.{length-take, take_more}
use Rattle.std.proofs.lemmas.List.Sums.{fold-append}
use Rattle.ir_core.specs.Names.{numbered}
use Rattle.ir_core.specs.Module.{ModuleParts, FuncParts}
use Rattle.ir_core.proofs.Numbering.{length-numbered}
use Rattle.ir_core.specs.TokenLengths.{name_from}
use Rattle.ir_numbering.specs.declared.places.Place.{Place}
use Rattle.ir_numbering.specs.declared.places.Place.TheVariants.{Local, Struct, Global}
use Rattle.ir_numbering.specs.Numbers.{locals_at, structs_at, globals_at, with_names, module_with, func_with, ModuleFront, FuncFront, HasFront, HasRoom}

-- ---- the names at places

pub locals_at-append : (text : List ℕ) (a b : List Place) → locals_at text (a ++ b) ≡ locals_at text a ++ locals_at text b
locals_at-append text [] b = refl
locals_at-append text (Local at ∷ a) b = ap (λ names. name_from text at.0 ∷ names) (locals_at-append text a b)
locals_at-append text (Struct at ∷ a) b = locals_at-append text a b
locals_at-append text (Global at ∷ a) b = locals_at-append text a b

pub structs_at-append : (text : List ℕ) (a b : List Place) → structs_at text (a ++ b) ≡ structs_at text a ++ structs_at text b
structs_at-append text [] b = refl
structs_at-append text (Local at ∷ a) b = structs_at-append text a b
structs_at-append text (Struct at ∷ a) b = ap (λ names. name_from text at.0 ∷ names) (structs_at-append text a b)
structs_at-append text (Global at ∷ a) b = structs_at-append text a b

pub globals_at-append : (text : List ℕ) (a b : List Place) → globals_at text (a ++ b) ≡ globals_at text a ++ globals_at text b
globals_at-append text [] b = refl
globals_at-append text (Local at ∷ a) b = globals_at-append text a b
globals_at-append text (Struct at ∷ a) b = globals_at-append text a b
globals_at-append text (Global at ∷ a) b = ap (λ names. name_from text at.0 ∷ names) (globals_at-append text a b)

length-locals_at : (text : List ℕ) (places : List Place) → length (locals_at text places) ≤ length places
length-locals_at text [] = omega arith
length-locals_at text (Local at ∷ places) = omega (arith, length-locals_at text places)
length-locals_at text (Struct at ∷ places) = omega (arith, length-locals_at text places)
length-locals_at text (Global at ∷ places) = omega (arith, length-locals_at text places)

length-structs_at : (text : List ℕ) (places : List Place) → length (structs_at text places) ≤ length places
length-structs_at text [] = omega arith
length-structs_at text (Local at ∷ places) = omega (arith, length-structs_at text places)
length-structs_at text (Struct at ∷ places) = omega (arith, length-structs_at text places)
length-structs_at text (Global at ∷ places) = omega (arith, length-structs_at text places)

length-globals_at : (text : List ℕ) (places : List Place) → length (globals_at text places) ≤ length places
length-globals_at text [] = omega arith
length-globals_at text (Local at ∷ places) = omega (arith, length-globals_at text places)
length-globals_at text (Struct at ∷ places) = omega (arith, length-globals_at text places)
length-globals_at text (Global at ∷ places) = omega (arith, length-globals_at text places)

-- ---- tables

pub with_names-append : (table a b : List (List ℕ)) → with_names table (a ++ b) ≡ with_names (with_names table a) b
unfolding with_names
with_names-append table a b = fold-append numbered table a b

pub length-with_names : (table names : List (List ℕ)) → length (with_names table names) ≤ length table + length names
unfolding with_names
length-with_names table [] = omega arith
length-with_names table (name ∷ names) = omega (arith, length-with_names (numbered table name) names, (length-numbered table name).1)

-- ---- modules and functions

pub module_with-append : (text : List ℕ) (a b : List Place) (m : ModuleParts) → module_with text b (module_with text a m) ≡ module_with text (a ++ b) m
module_with-append text a b m =
    rw (globals_at-append text a b, structs_at-append text a b, with_names-append m.syms (globals_at text a) (globals_at text b), with_names-append m.type_names (structs_at text a) (structs_at text b))

pub func_with-append : (text : List ℕ) (a b : List Place) (f : FuncParts) → func_with text b (func_with text a f) ≡ func_with text (a ++ b) f
func_with-append text a b f = rw (locals_at-append text a b, with_names-append f.names (locals_at text a) (locals_at text b))

pub syms_within : (text : List ℕ) (places : List Place) (m : ModuleParts) → length (module_with text places m).syms ≤ length m.syms + length places
syms_within text places m = omega (arith, length-with_names m.syms (globals_at text places), length-globals_at text places)

pub type_names_within : (text : List ℕ) (places : List Place) (m : ModuleParts) → length (module_with text places m).type_names ≤ length m.type_names + length places
type_names_within text places m = omega (arith, length-with_names m.type_names (structs_at text places), length-structs_at text places)

pub names_within : (text : List ℕ) (places : List Place) (f : FuncParts) → length (func_with text places f).names ≤ length f.names + length places
names_within text places f = omega (arith, length-with_names f.names (locals_at text places), length-locals_at text places)

-- ---- the tables after a front of the places

-- none
pub ModuleFront-none : (text : List ℕ) (places : List Place) (m : ModuleParts) → ModuleFront text places m m
unfolding with_names
ModuleFront-none text places m = record { count = 0; is = refl }

pub FuncFront-none : (text : List ℕ) (places : List Place) (f : FuncParts) → FuncFront text places f f
unfolding with_names
FuncFront-none text places f = record { count = 0; is = refl }

pub HasFront-none : (text : List ℕ) (places : List Place) (m : ModuleParts) (f : FuncParts) → HasFront text places m f m f
HasFront-none text places m f = record { in_module = ModuleFront-none text places m; in_func = FuncFront-none text places f }

-- all of them
pub ModuleFront-all : (text : List ℕ) (places : List Place) (m m' : ModuleParts) → m' ≡ module_with text places m → ModuleFront text places m m'
ModuleFront-all text places m m' e = record { count = length places; is = e ∙ ap (λ l. module_with text l m) (sym (take-length places)) }

pub FuncFront-all : (text : List ℕ) (places : List Place) (f f' : FuncParts) → f' ≡ func_with text places f → FuncFront text places f f'
FuncFront-all text places f f' e = record { count = length places; is = e ∙ ap (λ l. func_with text l f) (sym (take-length places)) }

pub HasFront-all : (text : List ℕ) (places : List Place) (m m' : ModuleParts) (f f' : FuncParts) → m' ≡ module_with text places m → f' ≡ func_with text places f → HasFront text places m f m' f'
HasFront-all text places m m' f f' e d = record { in_module = ModuleFront-all text places m m' e; in_func = FuncFront-all text places f f' d }

-- the next place
module _ (text : List ℕ) (places : List Place) (i : ℕ) (d : Place) (h : i < length places) where
  pub module_with-next : (m m1 m2 : ModuleParts) → m1 ≡ module_with text (take i places) m → m2 ≡ module_with text (get_or places i d ∷ []) m1 → m2 ≡ module_with text (take (i + 1) places) m
  module_with-next m m1 m2 before here =
      here ∙ ap (module_with text (get_or places i d ∷ [])) before ∙ module_with-append text (take i places) (get_or places i d ∷ []) m ∙ ap (λ l. module_with text l m) (sym (take_more places i d h))

  pub func_with-next : (f f1 f2 : FuncParts) → f1 ≡ func_with text (take i places) f → f2 ≡ func_with text (get_or places i d ∷ []) f1 → f2 ≡ func_with text (take (i + 1) places) f
  func_with-next f f1 f2 before here =
      here ∙ ap (func_with text (get_or places i d ∷ [])) before ∙ func_with-append text (take i places) (get_or places i d ∷ []) f ∙ ap (λ l. func_with text l f) (sym (take_more places i d h))

-- room for all places is room for one more after some of them
module _ (text : List ℕ) (places : List Place) (i : ℕ) (h : i < length places) where
  pub module_room : (m m1 : ModuleParts) → m1 ≡ module_with text (take i places) m → HasRoom (length places) m → HasRoom 0 m1
  module_room m m1 e room =
      let syms = ap (λ m. length m.syms) e in
      let type_names = ap (λ m. length m.type_names) e in
      let taken = length-take i places in
      record {
        syms = omega (arith, room.syms, syms_within text (take i places) m);
        type_names = omega (arith, room.type_names, type_names_within text (take i places) m);
      }

  pub func_room : (f f1 : FuncParts) → f1 ≡ func_with text (take i places) f → length f.names + length places < 4294967295 → length f1.names < 4294967295
  func_room f f1 e room =
      let names = ap (λ f. length f.names) e in
      let taken = length-take i places in
      omega (arith, names_within text (take i places) f)

-- a front in the module, and none in the function
pub HasFront-outer : (text : List ℕ) (places all : List Place) (m m' : ModuleParts) (f : FuncParts) → places ≡ all → ModuleFront text places m m' → HasFront text all m f m' f
HasFront-outer text places all m m' f e front = record { in_module = subst (λ ps. ModuleFront text ps m m') e front; in_func = FuncFront-none text all f }
