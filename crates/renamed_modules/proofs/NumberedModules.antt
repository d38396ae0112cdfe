-- A module whose names were numbered by the places of its tree has all of them in its tables, each once.
use Rattle.std.proofs.Common.{ℕ, zero, suc, ◌≡◌, ◌⊎◌, inl, inr, ◌∙◌, ◌<◌, ◌≤◌, true, false, List, [], ◌∷◌, ◌++◌, map, length, get_or, Option, Some, None, slice_get, refl, ap, sym as flip, subst, arith, Contains}
use Rattle.std.specs.List.{flat_map, IsDistinct}
use Rattle.std.specs.Option.{option_map}
use Rattle.std.specs.Str.{bytes_eq}
use Rattle.std.proofs.lemmas.Bool.{cases_lt}
use Rattle.std.proofs.lemmas.Cmp.{nat_list_eq_equiv}
use Rattle.std.proofs.lemmas.Map.Keys.{apart_from_distinct}
use Rattle.std.proofs.lemmas.Option.{slice_get-map, slice_get_within, get_or_from_slice_get}
use Rattle.ir_core.specs.Module.{ModuleParts, FuncParts, empty_module, empty_func}
use Rattle.ir_core.specs.Names.{numbered}
use Rattle.ir_core.specs.declared.types.Ty.TheVariants as types
use Rattle.ir_core.proofs.Numbering.{IsDistinct-numbered}
use Rattle.ir_numbering.specs.declared.places.Place.{Place}
use Rattle.ir_numbering.specs.declared.places.Place.TheVariants.{Local, Struct, Global}
use Rattle.ir_numbering.specs.Places.{definitions_of_func, mentions_of_func, places_of_global, places_of_declare, places_of_func}
use Rattle.ir_numbering.specs.Renaming.{Renaming}
use Rattle.ir_numbering.specs.Numbers.{locals_at, structs_at, globals_at, with_names, module_with, renaming_of, renaming_outside, numbered_func, places_of_named, places_of_module, numbered_module}
use Rattle.ir_numbering.proofs.Kept.{HasNumber-with}
use Rattle.renamed_modules.specs.Numbered.{AllAt, AreDistinct, IsWithin, IsOuter, AreNumbered}
use Rattle.renamed_modules.proofs.RenamedAgain.{front-at, back-at}
use Rattle.renamed_modules.proofs.RenamedPlaces.{renamed_place, mentions-moved, types-moved, globals-moved, declares-moved}

-- ---- tables

with-distinct : (table names : List (List ℕ)) → IsDistinct bytes_eq table → IsDistinct bytes_eq (with_names table names)
unfolding with_names
with-distinct table [] d = d
with-distinct table (name ∷ names) d = with-distinct (numbered table name) names (IsDistinct-numbered table name d)

none-distinct : IsDistinct bytes_eq []
unfolding IsDistinct
none-distinct = tt

earlier-apart : (names : List (List ℕ)) → IsDistinct bytes_eq names → (a b : ℕ) (name : List ℕ) → slice_get names a ≡ Some name → slice_get names b ≡ Some name → a < b → ⊥
earlier-apart names d a b name at there less =
    let differ = apart_from_distinct bytes_eq names a b name d less (slice_get_within names b name there) in
    let same : bytes_eq (get_or names a name) (get_or names b name) ≡ true =
    ap (λ (x : List ℕ). bytes_eq x (get_or names b name)) (get_or_from_slice_get names a name name at)
    ∙ ap (bytes_eq name) (get_or_from_slice_get names b name name there) ∙ nat_list_eq_equiv.refl name in
    let clash : true ≡ false = flip same ∙ differ in cc

are-distinct : (names : List (List ℕ)) → IsDistinct bytes_eq names → AreDistinct names
are-distinct names d a b name at there = by (cases_lt a b) (cases_lt b a)
  where
    by : (a < b) ⊎ (b ≤ a) → (b < a) ⊎ (a ≤ b) → a ≡ b
    by (inl less) q = absurd (earlier-apart names d a b name at there less)
    by (inr p) (inl less) = absurd (earlier-apart names d b a name there at less)
    by (inr p) (inr q) = omega (arith, p, q)

taken-distinct : (names : List (List ℕ)) → AreDistinct (with_names [] names)
taken-distinct names = are-distinct (with_names [] names) (with-distinct [] names none-distinct)

-- ---- places

all-contained : (P : Place → Type 0) (places : List Place) → ((place : Place) → Contains places place → P place) → AllAt P places
all-contained P [] so = tt
all-contained P (place ∷ places) so = (so place (0, omega arith, refl), all-contained P places (λ other has. so other (suc has.0, omega (arith, has.1), has.2)))

all-map : (P : Place → Type 0) (f : Place → Place) (places : List Place) → AllAt (λ place. P (f place)) places → AllAt P (map f places)
all-map P f [] all = tt
all-map P f (place ∷ places) all = (all.0, all-map P f places all.1)

all-at : {A : Type 0} (P : Place → Type 0) (places : A → List Place) (trees : List A) (n : ℕ) (tree : A) → AllAt P (flat_map places trees) → slice_get trees n ≡ Some tree → AllAt P (places tree)
all-at P places [] n tree all at = cc
all-at P places (x ∷ trees) zero tree all at = let same : x ≡ tree = cc in subst (λ y. AllAt P (places y)) same (front-at P (places x) (flat_map places trees) all)
all-at P places (x ∷ trees) (suc n) tree all at = all-at P places trees n tree (back-at P (places x) (flat_map places trees) all) at

both-at : (P Q R : Place → Type 0) → ((place : Place) → P place → Q place → R place) → (places : List Place) → AllAt P places → AllAt Q places → AllAt R places
both-at P Q R so [] one two = tt
both-at P Q R so (place ∷ places) one two = (so place one.0 two.0, both-at P Q R so places one.1 two.1)

-- ---- modules

-- a place is a name's whose number its function's table has
abbrev IsOwn : List (List ℕ) → Place → Type 0
IsOwn names (Local at) = at.0 < length names
IsOwn names (Struct id) = Unit {0}
IsOwn names (Global name) = Unit {0}

module _ (text : List ℕ) (tree : ModuleParts) where
  abbrev table : ModuleParts
  table = module_with text (places_of_module tree) empty_module

  abbrev made : ModuleParts
  made = numbered_module text tree

  abbrev outer : Renaming
  outer = renaming_outside text table

  place-outer : (place : Place) → Contains (places_of_module tree) place → IsOuter made (renamed_place outer place)
  place-outer (Local at) has = tt
  place-outer (Struct id) has = HasNumber-with text (places_of_module tree) empty_module (empty_func (record { 0 = 0 }) types.Void) (Struct id) has
  place-outer (Global name) has = HasNumber-with text (places_of_module tree) empty_module (empty_func (record { 0 = 0 }) types.Void) (Global name) has

  all-outer : AllAt (λ place. IsOuter made (renamed_place outer place)) (places_of_module tree)
  all-outer = all-contained (λ place. IsOuter made (renamed_place outer place)) (places_of_module tree) place-outer

  -- the parts of the module's places
  abbrev of_types : List Place
  of_types = flat_map places_of_named tree.types

  abbrev of_globals : List Place
  of_globals = flat_map places_of_global tree.globals

  abbrev of_declares : List Place
  of_declares = flat_map places_of_declare tree.declares

  abbrev of_funcs : List Place
  of_funcs = flat_map places_of_func tree.funcs

  abbrev Outer : Place → Type 0
  Outer place = IsOuter made (renamed_place outer place)

  outer-types : AllAt (IsOuter made) (flat_map places_of_named made.types)
  outer-types = subst (AllAt (IsOuter made)) (flip (types-moved outer tree.types))
      (all-map (IsOuter made) (renamed_place outer) of_types (front-at Outer of_types of_globals (front-at Outer (of_types ++ of_globals) of_declares (front-at Outer ((of_types ++ of_globals) ++ of_declares) of_funcs all-outer))))

  outer-globals : AllAt (IsOuter made) (flat_map places_of_global made.globals)
  outer-globals = subst (AllAt (IsOuter made)) (flip (globals-moved outer tree.globals))
      (all-map (IsOuter made) (renamed_place outer) of_globals (back-at Outer of_types of_globals (front-at Outer (of_types ++ of_globals) of_declares (front-at Outer ((of_types ++ of_globals) ++ of_declares) of_funcs all-outer))))

  outer-declares : AllAt (IsOuter made) (flat_map places_of_declare made.declares)
  outer-declares = subst (AllAt (IsOuter made)) (flip (declares-moved outer tree.declares))
      (all-map (IsOuter made) (renamed_place outer) of_declares (back-at Outer (of_types ++ of_globals) of_declares (front-at Outer ((of_types ++ of_globals) ++ of_declares) of_funcs all-outer)))

  -- ---- functions

  module _ (f : FuncParts) where
    abbrev own_names : List (List ℕ)
    own_names = with_names [] (locals_at text (places_of_func f))

    abbrev inside : Renaming
    inside = renaming_of text table (record f { names = own_names })

    place-own : (place : Place) → Contains (places_of_func f) place → IsOwn own_names (renamed_place inside place)
    place-own (Local at) has = HasNumber-with text (places_of_func f) table (record f { names = [] }) (Local at) has
    place-own (Struct id) has = tt
    place-own (Global name) has = tt

    place-again : (place : Place) → Outer place → IsOwn own_names (renamed_place inside place) → IsWithin made own_names (renamed_place inside place)
    place-again (Local at) one two = two
    place-again (Struct id) one two = one
    place-again (Global name) one two = one

    func-within : (n : ℕ) → slice_get tree.funcs n ≡ Some f → AllAt (IsWithin made own_names) (mentions_of_func (numbered_func text table f))
    func-within n at = subst (AllAt (IsWithin made own_names)) (flip (mentions-moved inside f))
        (all-map (IsWithin made own_names) (renamed_place inside) (mentions_of_func f)
        (back-at (λ place. IsWithin made own_names (renamed_place inside place)) (definitions_of_func f) (mentions_of_func f)
        (both-at Outer (λ place. IsOwn own_names (renamed_place inside place)) (λ place. IsWithin made own_names (renamed_place inside place)) place-again (places_of_func f)
        (all-at Outer places_of_func tree.funcs n f (back-at Outer ((of_types ++ of_globals) ++ of_declares) of_funcs all-outer) at)
        (all-contained (λ place. IsOwn own_names (renamed_place inside place)) (places_of_func f) place-own))))

  -- a function of the module is one of the tree, numbered
  func-of : (n : ℕ) (g : FuncParts) → slice_get made.funcs n ≡ Some g → (f : FuncParts) × (slice_get tree.funcs n ≡ Some f) × (numbered_func text table f ≡ g)
  func-of n g e = by (slice_get tree.funcs n) refl
    where
      by : (o : Option FuncParts) → slice_get tree.funcs n ≡ o → (f : FuncParts) × (slice_get tree.funcs n ≡ Some f) × (numbered_func text table f ≡ g)
      by None h = absurd (let clash : None ≡ Some g = flip (slice_get-map (numbered_func text table) tree.funcs n ∙ ap (option_map (numbered_func text table)) h) ∙ e in cc)
      by (Some f) h =
          let both : Some (numbered_func text table f) ≡ Some g = flip (slice_get-map (numbered_func text table) tree.funcs n ∙ ap (option_map (numbered_func text table)) h) ∙ e in
          let same : numbered_func text table f ≡ g = cc in (f, h, same)

  pub are-numbered : AreNumbered (numbered_module text tree)
  are-numbered = record {
    type_names = taken-distinct (structs_at text (places_of_module tree));
    syms = taken-distinct (globals_at text (places_of_module tree));
    names = λ n g e. let from = func-of n g e in subst (λ (h : FuncParts). AreDistinct h.names) from.2 (taken-distinct (locals_at text (places_of_func from.0)));
    types = outer-types;
    globals = outer-globals;
    declares = outer-declares;
    funcs = λ n g e. let from = func-of n g e in subst (λ (h : FuncParts). AllAt (IsWithin made h.names) (mentions_of_func h)) from.2 (func-within from.0 n from.1);
  }
