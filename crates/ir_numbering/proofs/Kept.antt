-- Numbers are never given anew: a table that takes names keeps the numbers of the earlier ones, and each name has one then.
use Rattle.std.proofs.Common.{◌≡◌, ℕ, ◌+◌, ◌<◌, ◌≤◌, ◌⊎◌, inl, inr, eqb, cond, Bool, true, false, if◌then◌else◌, List, [], ◌∷◌, ◌++◌, length, get_or, ap, sym, refl, ◌∙◌, subst, zero, suc, arith}
use Rattle.std.proofs.lemmas.Bool.{cases_lt}
use Rattle.std.proofs.lemmas.Bool.Decides.{nat_tests}
use Rattle.std.proofs.lemmas.Cmp.{nat_list_eq_equiv}
use Rattle.std.proofs.lemmas.List.Folds.{position_or_len_push}
use Rattle.std.proofs.lemmas.List.Sums.{fails_before_first}
use Rattle.std.proofs.lemmas.Option.{get_or_from_slice_get, slice_get_within}
use Rattle.std.specs.List.{list_any, Contains}
use Rattle.std.specs.Str.{bytes_eq}
use Rattle.ir_core.specs.Names.{number_given, numbered}
use Rattle.ir_core.proofs.Numbering.{length-numbered, slice_get-numbered}
use Rattle.ir_core.specs.Module.{ModuleParts, FuncParts}
use Rattle.ir_core.specs.TokenLengths.{name_from}
use Rattle.ir_core.specs.declared.types.Loc.{Loc}
use Rattle.ir_core.specs.declared.types.TypeId.{TypeId}
use Rattle.ir_core.specs.declared.types.Sym.{Sym}
use Rattle.ir_numbering.specs.declared.places.Place.{Place}
use Rattle.ir_numbering.specs.declared.places.Place.TheVariants.{Local, Struct, Global}
use Rattle.ir_numbering.specs.Numbers.{with_names, locals_at, structs_at, globals_at, module_with, func_with, HasFront}
use Rattle.ir_numbering.specs.Laws.{HasNumber}

-- one name more
number_given-numbered : (table : List (List ℕ)) (other name : List ℕ) → number_given table name < length table → number_given (numbered table other) name ≡ number_given table name
number_given-numbered table other name h = by (list_any (bytes_eq other) table)
  where
    by : (b : Bool) → number_given (if b then table else table ++ other ∷ []) name ≡ number_given table name
    by true = refl
    by false =
        let later : eqb (number_given table name) (length table) ≡ false = grind (arith, nat_tests) in
        position_or_len_push (bytes_eq name) table other ∙ ap (λ b. cond b (length table + cond (bytes_eq name other) 0 1) (number_given table name)) later

pub number_given-with_names : (table names : List (List ℕ)) (name : List ℕ) → number_given table name < length table → number_given (with_names table names) name ≡ number_given table name
unfolding with_names
number_given-with_names table [] name h = refl
number_given-with_names table (other ∷ names) name h =
    let here = number_given-numbered table other name h in
    let within : number_given (numbered table other) name < length (numbered table other) = omega (arith, here, (length-numbered table other).0) in
    number_given-with_names (numbered table other) names name within ∙ here

pub length-with_names-ge : (table names : List (List ℕ)) → length table ≤ length (with_names table names)
unfolding with_names
length-with_names-ge table [] = omega arith
length-with_names-ge table (name ∷ names) = omega (arith, length-with_names-ge (numbered table name) names, (length-numbered table name).0)

-- the name that a table takes has a number in it
number_given-own : (table : List (List ℕ)) (name : List ℕ) → number_given (numbered table name) name < length (numbered table name)
number_given-own table name =
    let at = slice_get-numbered table name in
    let within = slice_get_within (numbered table name) (number_given table name) name at in
    let same = get_or_from_slice_get (numbered table name) (number_given table name) name [] at in
    let passes : bytes_eq name (get_or (numbered table name) (number_given table name) []) ≡ true = ap (bytes_eq name) same ∙ nat_list_eq_equiv.refl name in
    by passes within (cases_lt (number_given table name) (number_given (numbered table name) name))
  where
    by : bytes_eq name (get_or (numbered table name) (number_given table name) []) ≡ true → number_given table name < length (numbered table name) → (number_given table name < number_given (numbered table name) name) ⊎ (number_given (numbered table name) name ≤ number_given table name) → number_given (numbered table name) name < length (numbered table name)
    by passes within (inl h) = let fails = fails_before_first (bytes_eq name) (numbered table name) (number_given table name) [] h in absurd cc
    by passes within (inr h) = omega arith

pub number_given-taken : (table names : List (List ℕ)) (name : List ℕ) → Contains names name → number_given (with_names table names) name < length (with_names table names)
unfolding with_names
number_given-taken table [] name (k, h, e) = absurd (omega arith)
number_given-taken table (other ∷ names) name (zero, h, e) =
    let own = number_given-own table other in
    let kept = number_given-with_names (numbered table other) names other own in
    let taken : number_given (with_names (numbered table other) names) other < length (with_names (numbered table other) names) = omega (arith, kept, length-with_names-ge (numbered table other) names) in
    subst (λ n. number_given (with_names (numbered table other) names) n < length (with_names (numbered table other) names)) e taken
number_given-taken table (other ∷ names) name (suc k, h, e) = number_given-taken (numbered table other) names name (k, omega arith, e)

-- ---- a place of a kind stands for one of the names of that kind

local_is : (text : List ℕ) (places : List Place) (at : Loc) → Contains places (Local at) → Contains (locals_at text places) (name_from text at.0)
local_is text [] at (k, h, e) = absurd (omega arith)
local_is text (Local own ∷ places) at (zero, h, e) = let same : own ≡ at = cc in (0, omega arith, ap (λ (l : Loc). name_from text l.0) same)
local_is text (Struct own ∷ places) at (zero, h, e) = absurd cc
local_is text (Global own ∷ places) at (zero, h, e) = absurd cc
local_is text (Local own ∷ places) at (suc k, h, e) = let rest = local_is text places at (k, omega arith, e) in (suc rest.0, omega (arith, rest.1), rest.2)
local_is text (Struct own ∷ places) at (suc k, h, e) = local_is text places at (k, omega arith, e)
local_is text (Global own ∷ places) at (suc k, h, e) = local_is text places at (k, omega arith, e)

struct_is : (text : List ℕ) (places : List Place) (at : TypeId) → Contains places (Struct at) → Contains (structs_at text places) (name_from text at.0)
struct_is text [] at (k, h, e) = absurd (omega arith)
struct_is text (Struct own ∷ places) at (zero, h, e) = let same : own ≡ at = cc in (0, omega arith, ap (λ (l : TypeId). name_from text l.0) same)
struct_is text (Local own ∷ places) at (zero, h, e) = absurd cc
struct_is text (Global own ∷ places) at (zero, h, e) = absurd cc
struct_is text (Struct own ∷ places) at (suc k, h, e) = let rest = struct_is text places at (k, omega arith, e) in (suc rest.0, omega (arith, rest.1), rest.2)
struct_is text (Local own ∷ places) at (suc k, h, e) = struct_is text places at (k, omega arith, e)
struct_is text (Global own ∷ places) at (suc k, h, e) = struct_is text places at (k, omega arith, e)

global_is : (text : List ℕ) (places : List Place) (at : Sym) → Contains places (Global at) → Contains (globals_at text places) (name_from text at.0)
global_is text [] at (k, h, e) = absurd (omega arith)
global_is text (Global own ∷ places) at (zero, h, e) = let same : own ≡ at = cc in (0, omega arith, ap (λ (l : Sym). name_from text l.0) same)
global_is text (Local own ∷ places) at (zero, h, e) = absurd cc
global_is text (Struct own ∷ places) at (zero, h, e) = absurd cc
global_is text (Global own ∷ places) at (suc k, h, e) = let rest = global_is text places at (k, omega arith, e) in (suc rest.0, omega (arith, rest.1), rest.2)
global_is text (Local own ∷ places) at (suc k, h, e) = global_is text places at (k, omega arith, e)
global_is text (Struct own ∷ places) at (suc k, h, e) = global_is text places at (k, omega arith, e)

pub HasNumber-with : (text : List ℕ) (places : List Place) (m : ModuleParts) (f : FuncParts) (place : Place) → Contains places place → HasNumber text (module_with text places m) (func_with text places f) place
HasNumber-with text places m f (Local at) has = number_given-taken f.names (locals_at text places) (name_from text at.0) (local_is text places at has)
HasNumber-with text places m f (Struct at) has = number_given-taken m.type_names (structs_at text places) (name_from text at.0) (struct_is text places at has)
HasNumber-with text places m f (Global at) has = number_given-taken m.syms (globals_at text places) (name_from text at.0) (global_is text places at has)

-- ---- what a front of the places changes

pub tables_alone : (text : List ℕ) (places : List Place) (m m' : ModuleParts) (f f' : FuncParts) → HasFront text places m f m' f' → (m' ≡ record m { syms = m'.syms; type_names = m'.type_names }) × (f' ≡ record f { names = f'.names })
tables_alone text places m m' f f' front =
    (subst (λ (x : ModuleParts). x ≡ record m { syms = x.syms; type_names = x.type_names }) (sym front.in_module.is) refl, subst (λ (x : FuncParts). x ≡ record f { names = x.names }) (sym front.in_func.is) refl)
