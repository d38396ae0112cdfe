-- What parts of initialisers ask of their types.
use Rattle.std.proofs.Common.{◌≡◌, ◌∙◌, ℕ, ◌≤◌, ap, refl, sym, Bool, true, ◌&&◌, List, [], ◌∷◌, map, length, drop, Option, Some, None}
use Rattle.std.specs.Prelude.{nat_eq}
use Rattle.std.specs.List.{list_all}
use Rattle.std.proofs.Math.ListN.{drop_of_length-le}
use Rattle.std.proofs.lemmas.List.{length-map}
use Rattle.std.proofs.Math.Bool.{and-true}
use Rattle.std.proofs.Math.Dec.{eqb-suc-zero}
use Rattle.ir_core.specs.declared.types.Ty.{Ty}
use Rattle.ir_core.specs.declared.types.Ty as tys
use Rattle.ir_core.specs.declared.types.Ty.TheVariants as types
use Rattle.ir_core.specs.declared.types.Ty.TheOpen.{Ty-F}
use Rattle.ir_core.specs.declared.types.Ty.TheViews.{out-Ty, out-roll-Ty}
use Rattle.ir_core.specs.declared.types.TypeId.{TypeId}
use Rattle.ir_core.specs.declared.values.Init.{Init}
use Rattle.ir_core.specs.declared.values.Init as opened
use Rattle.ir_core.specs.declared.values.Init.TheVariants as inits
use Rattle.ir_core.specs.declared.values.Init.TheOpen.{Init-F}
use Rattle.ir_core.specs.declared.values.Init.TheFolds.{fold-roll-Init}
use Rattle.ir_layout.specs.Offsets.{fields}
use Rattle.ir_types.specs.Types.{init_fits, init_step, parts_fit, part_fits, elements_fit, fields_fit}

abbrev pub asked : List (TypeId × Ty) → List (Ty × Init) → List (Ty × (Ty → Bool))
asked named parts = map (λ (part : Ty × Init). (part.0, init_fits named part.1)) parts

parts-told : (named : List (TypeId × Ty)) (parts : List (Ty × Init)) (ty : Ty) → init_fits named (inits.Parts parts) ty ≡ parts_fit (asked named parts) ty (fields named ty)
unfolding opened.roll-Init denote.Hole.Carrier.roll
parts-told named parts ty = ap (λ (f : Ty → Bool). f ty) (fold-roll-Init (Ty → Bool) (init_step named) (Init-F.Parts parts))

-- what holds of fields and parts holds of the initialiser
pub fields-told : (b : Bool) (named : List (TypeId × Ty)) (init : Init) (ty : Ty) (parts xs : List (Ty × Init)) (start : List Ty) → init ≡ inits.Parts parts → xs ≡ parts → fields named ty ≡ Some start → b ≡ fields_fit start (asked named xs) → b ≡ init_fits named init ty
fields-told b named init ty parts xs start is same at e =
    e ∙ ap (λ (ps : List (Ty × Init)). fields_fit start (asked named ps)) same
    ∙ ap (λ (o : Option (List Ty)). parts_fit (asked named parts) ty o) (sym at)
    ∙ sym (parts-told named parts ty)
    ∙ ap (λ (i : Init). init_fits named i ty) (sym is)

-- what holds of an element and of parts does too
pub elements-told : (b : Bool) (named : List (TypeId × Ty)) (init : Init) (ty inner : Ty) (count : ℕ) (element : Ty) (parts xs : List (Ty × Init)) → init ≡ inits.Parts parts → xs ≡ parts → fields named ty ≡ None → ty ≡ types.Array count element → inner ≡ element → b ≡ (nat_eq count (length (asked named xs)) && list_all (part_fits inner) (asked named xs)) → b ≡ init_fits named init ty
unfolding tys.roll-Ty denote.Hole.Carrier.roll
elements-told b named init ty inner count element parts xs is same none array own e =
    e ∙ ap (λ (ps : List (Ty × Init)). nat_eq count (length (asked named ps)) && list_all (part_fits inner) (asked named ps)) same
    ∙ ap (λ (t : Ty). nat_eq count (length (asked named parts)) && list_all (part_fits t) (asked named parts)) own
    ∙ ap (elements_fit (asked named parts)) (sym (out-roll-Ty (Ty-F.Array count element)))
    ∙ ap (λ (t : Ty). elements_fit (asked named parts) (out-Ty t)) (sym array)
    ∙ ap (λ (o : Option (List Ty)). parts_fit (asked named parts) ty o) (sym none)
    ∙ sym (parts-told named parts ty)
    ∙ ap (λ (i : Init). init_fits named i ty) (sym is)

-- no part is left of an array's
pub elements-over : (named : List (TypeId × Ty)) (inner : Ty) (count : ℕ) (xs : List (Ty × Init)) (i : ℕ) → length xs ≤ i → list_all (part_fits inner) (asked named (drop i xs)) ≡ list_all (part_fits inner) (asked named xs) → nat_eq count (length xs) ≡ (nat_eq count (length (asked named xs)) && list_all (part_fits inner) (asked named xs))
elements-over named inner count xs i over invariant =
    let ask : Ty × Init → Ty × (Ty → Bool) = λ part. (part.0, init_fits named part.1) in
    sym (and-true (nat_eq count (length xs)))
    ∙ ap (λ (n : ℕ). nat_eq count n && true) (sym (length-map xs ask))
    ∙ ap (λ (ps : List (Ty × Init)). nat_eq count (length (asked named xs)) && list_all (part_fits inner) (asked named ps)) (sym (drop_of_length-le xs {i = i} over))
    ∙ ap (λ (b : Bool). nat_eq count (length (asked named xs)) && b) invariant

-- no part is left of a struct's
pub fields-over : (named : List (TypeId × Ty)) (start left : List Ty) (xs : List (Ty × Init)) (i : ℕ) → length xs ≤ i → fields_fit left (asked named (drop i xs)) ≡ fields_fit start (asked named xs) → nat_eq (length left) 0 ≡ fields_fit start (asked named xs)
fields-over named start left xs i over invariant =
    no-fields left
    ∙ ap (λ (ps : List (Ty × Init)). fields_fit left (asked named ps)) (sym (drop_of_length-le xs {i = i} over))
    ∙ invariant
  where
    no-fields : (types : List Ty) → nat_eq (length types) 0 ≡ fields_fit types []
    no-fields [] = refl
    no-fields (ty ∷ types) = eqb-suc-zero (length types)
