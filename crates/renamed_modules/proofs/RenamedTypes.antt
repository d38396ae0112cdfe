-- Types under other numbers of their names: sizes, limits and offsets are the same.
use Rattle.std.proofs.Common.{ℕ, zero, suc, ◌≡◌, ◌∙◌, ◌+◌, ◌&&◌, Bool, true, false, List, [], ◌∷◌, map, find, reverse, take, Option, Some, None, slice_get, refl, ap, sym}
use mathlib.Core.List.{reverse_aux}
use Rattle.std.specs.Prelude.{nat_eq, ◌*◌, unwrap_or, if◌then◌else◌}
use Rattle.std.specs.Option.{option_map, option_and_then}
use Rattle.std.proofs.lemmas.Bool.{eqb-true, eq-eqb}
use Rattle.std.proofs.lemmas.Option.{slice_get-map}
use Rattle.ir_core.specs.declared.types.Ty.{Ty, map-Ty, roll-Ty}
use Rattle.ir_core.specs.declared.types.Ty as opened
use Rattle.ir_core.specs.declared.types.Ty.TheFolds.{fold-roll-Ty, ind-Ty}
use Rattle.ir_core.specs.declared.types.Ty.TheOpen.{Ty-F}
use Rattle.ir_core.specs.declared.types.Ty.TheViews.{out-Ty, out-roll-Ty, roll-out-Ty}
use Rattle.ir_core.specs.declared.types.TypeId.{TypeId}
use Rattle.ir_core.specs.declared.types.Width.{Width}
use Rattle.ir_core.specs.declared.types.Ty.TheVariants as kinds
use Rattle.ir_lines.specs.SameTypes.{same_parts, same_layer, same_ty, same_types}
use Rattle.ir_layout.specs.Shapes.{Shape, shape_step, shape_with, fields_of, array_of, struct_of, within, depth_limit, definition_of, body_shape, named_shape, shape_of, known_shape, size_of, nothing}
use Rattle.ir_layout.specs.Limits.{limit_of, limit_of_shape}
use Rattle.ir_layout.specs.Offsets.{fields_step, own_fields, named_fields_step, fields, field_offset, numbered_field, field_at, entered_step, entered, inner_offset, offset_of, signed_word, is_i32}
use Rattle.ir_numbering.specs.Renaming.{Renaming, renamed_step, renamed_ty}
use Rattle.ir_numbering.specs.Numbers.{renamed_named}

-- no two numbers become one
abbrev pub IsApart : (ℕ → ℕ) → Type 0
IsApart number = (a b : ℕ) → number a ≡ number b → a ≡ b

pub same-test : (number : ℕ → ℕ) → IsApart number → (a b : ℕ) → nat_eq (number a) (number b) ≡ nat_eq a b
same-test number apart a b = by_test (nat_eq a b) refl
  where
    other : (b' : Bool) → nat_eq (number a) (number b) ≡ b' → nat_eq a b ≡ false → b' ≡ false
    other false e f = refl
    other true e f = let clash : true ≡ false = sym (eq-eqb a b (apart a b (eqb-true (number a) (number b) e))) ∙ f in cc

    by_test : (c : Bool) → nat_eq a b ≡ c → nat_eq (number a) (number b) ≡ c
    by_test true e = eq-eqb (number a) (number b) (ap number (eqb-true a b e))
    by_test false e = other (nat_eq (number a) (number b)) refl e

-- ---- lists of images

pub find-map : {A B : Type 0} (f : A → B) (test : A → Bool) (other : B → Bool) → ((x : A) → other (f x) ≡ test x) → (xs : List A)
    → find other (map f xs) ≡ option_map f (find test xs)
find-map f test other same [] = refl
find-map {A} {B} f test other same (x ∷ xs) = by_test (test x) refl (find-map f test other same xs)
  where
    by_test : (b : Bool) → test x ≡ b → find other (map f xs) ≡ option_map f (find test xs)
        → find other (map f (x ∷ xs)) ≡ option_map f (find test (x ∷ xs))
    by_test true e rest = rw (same x, e) refl
    by_test false e rest = rw (same x, e) rest

onto-map : {A B : Type 0} (f : A → B) (xs ys : List A) → reverse_aux (map f xs) (map f ys) ≡ map f (reverse_aux xs ys)
onto-map f [] ys = refl
onto-map f (x ∷ xs) ys = onto-map f xs (x ∷ ys)

pub reverse-map : {A B : Type 0} (f : A → B) (xs : List A) → reverse (map f xs) ≡ map f (reverse xs)
reverse-map f xs = onto-map f xs []

pub take-map : {A B : Type 0} (f : A → B) (n : ℕ) (xs : List A) → take n (map f xs) ≡ map f (take n xs)
take-map f zero xs = refl
take-map f (suc n) [] = refl
take-map f (suc n) (x ∷ xs) = ap (λ ys. f x ∷ ys) (take-map f n xs)

pub map-map : {A B C : Type 0} (f : A → B) (g : B → C) (h : A → C) → ((x : A) → g (f x) ≡ h x) → (xs : List A) → map g (map f xs) ≡ map h xs
map-map f g h same [] = refl
map-map f g h same (x ∷ xs) = rw (same x, map-map f g h same xs) refl

-- ---- one layer

pub renamed-layer : (r : Renaming) (x : Ty-F Ty) → renamed_ty r (roll-Ty x) ≡ renamed_step r.type_id (map-Ty Ty Ty (renamed_ty r) x)
renamed-layer r x = fold-roll-Ty Ty (renamed_step r.type_id) x

layer-of : (r : Renaming) (ty : Ty) → renamed_ty r ty ≡ renamed_step r.type_id (map-Ty Ty Ty (renamed_ty r) (out-Ty ty))
layer-of r ty = ap (renamed_ty r) (sym (roll-out-Ty ty)) ∙ renamed-layer r (out-Ty ty)

-- a layer with its names numbered anew, its parts renamed already
abbrev pub numbered_layer : (ℕ → ℕ) → Ty-F Ty → Ty-F Ty
numbered_layer number Ty-F.Void = Ty-F.Void
numbered_layer number (Ty-F.Int w) = Ty-F.Int w
numbered_layer number Ty-F.Ptr = Ty-F.Ptr
numbered_layer number (Ty-F.Array count element) = Ty-F.Array count element
numbered_layer number (Ty-F.Struct parts) = Ty-F.Struct parts
numbered_layer number (Ty-F.Named id) = Ty-F.Named (record { 0 = number id.0 })

pub step-is : (number : ℕ → ℕ) (x : Ty-F Ty) → renamed_step number x ≡ roll-Ty (numbered_layer number x)
unfolding opened.roll-Ty denote.Hole.Carrier.roll
step-is number Ty-F.Void = refl
step-is number (Ty-F.Int w) = refl
step-is number Ty-F.Ptr = refl
step-is number (Ty-F.Array count element) = refl
step-is number (Ty-F.Struct parts) = refl
step-is number (Ty-F.Named id) = refl

-- the layer of a renamed type
pub out-renamed : (r : Renaming) (ty : Ty) → out-Ty (renamed_ty r ty) ≡ numbered_layer r.type_id (map-Ty Ty Ty (renamed_ty r) (out-Ty ty))
out-renamed r ty = ap out-Ty (layer-of r ty ∙ step-is r.type_id (map-Ty Ty Ty (renamed_ty r) (out-Ty ty))) ∙ out-roll-Ty (numbered_layer r.type_id (map-Ty Ty Ty (renamed_ty r) (out-Ty ty)))

-- ---- shapes

module _ (r : Renaming) (apart : IsApart r.type_id) where
  -- named types that have the same shapes under the other numbers
  abbrev SameShapes : (ℕ → Option Shape) → (ℕ → Option Shape) → Type 0
  SameShapes named other = (id : ℕ) → other (r.type_id id) ≡ named id

  module _ (named other : ℕ → Option Shape) (same : SameShapes named other) where
    abbrev IsShapedSame : Ty → Type 0
    IsShapedSame ty = shape_with other (renamed_ty r ty) ≡ shape_with named ty

    parts-shaped : (parts : List ((ty : Ty) × IsShapedSame ty)) → map (shape_with other) (map (renamed_ty r) (map (λ e. e.0) parts)) ≡ map (shape_with named) (map (λ e. e.0) parts)
    parts-shaped [] = refl
    parts-shaped (e ∷ parts) = rw (e.1, parts-shaped parts) refl

    layer-shaped : (y : Ty-F ((ty : Ty) × IsShapedSame ty))
        → shape_step other (map-Ty Ty (Option Shape) (shape_with other) (numbered_layer r.type_id (map-Ty Ty Ty (renamed_ty r) (map-Ty ((ty : Ty) × IsShapedSame ty) Ty (λ e. e.0) y))))
        ≡ shape_step named (map-Ty Ty (Option Shape) (shape_with named) (map-Ty ((ty : Ty) × IsShapedSame ty) Ty (λ e. e.0) y))
    layer-shaped Ty-F.Void = refl
    layer-shaped (Ty-F.Int w) = refl
    layer-shaped Ty-F.Ptr = refl
    layer-shaped (Ty-F.Array count element) = ap (option_map (array_of count)) element.1
    layer-shaped (Ty-F.Struct parts) = ap (λ (shapes : List (Option Shape)). option_map struct_of (fields_of shapes)) (parts-shaped parts)
    layer-shaped (Ty-F.Named id) = same id.0

    pub shape-same : (ty : Ty) → shape_with other (renamed_ty r ty) ≡ shape_with named ty
    shape-same = ind-Ty IsShapedSame (λ x y is.
        ap (shape_with other) (renamed-layer r x ∙ step-is r.type_id (map-Ty Ty Ty (renamed_ty r) x))
        ∙ fold-roll-Ty (Option Shape) (shape_step other) (numbered_layer r.type_id (map-Ty Ty Ty (renamed_ty r) x))
        ∙ ap (λ (z : Ty-F Ty). shape_step other (map-Ty Ty (Option Shape) (shape_with other) (numbered_layer r.type_id (map-Ty Ty Ty (renamed_ty r) z)))) (sym is)
        ∙ layer-shaped y
        ∙ ap (λ (z : Ty-F Ty). shape_step named (map-Ty Ty (Option Shape) (shape_with named) z)) is
        ∙ sym (fold-roll-Ty (Option Shape) (shape_step named) x))

  -- ---- named types

  module _ (types : List (TypeId × Ty)) where
    abbrev others : List (TypeId × Ty)
    others = map (renamed_named r) types

    pub definition-same : (id : ℕ) → definition_of others (r.type_id id) ≡ option_map (renamed_named r) (definition_of types id)
    definition-same id =
        ap (find (λ (named : TypeId × Ty). nat_eq named.0.0 (r.type_id id))) (reverse-map (renamed_named r) types)
        ∙ find-map (renamed_named r) (λ (named : TypeId × Ty). nat_eq named.0.0 id) (λ (named : TypeId × Ty). nat_eq named.0.0 (r.type_id id)) (λ named. same-test r.type_id apart named.0.0 id) (reverse types)

    named-same : (rounds : ℕ) → SameShapes (named_shape types rounds) (named_shape others rounds)
    unfolding named_shape
    named-same zero id = refl
    named-same (suc rounds) id = ap (option_and_then (body_shape (named_shape others rounds))) (definition-same id) ∙ by_definition (definition_of types id) (named-same rounds)
      where
        by_definition : (o : Option (TypeId × Ty)) → SameShapes (named_shape types rounds) (named_shape others rounds)
            → option_and_then (body_shape (named_shape others rounds)) (option_map (renamed_named r) o) ≡ option_and_then (body_shape (named_shape types rounds)) o
        by_definition None same = refl
        by_definition (Some named) same = ap (within depth_limit) (shape-same (named_shape types rounds) (named_shape others rounds) same named.1)

    pub whole-same : (ty : Ty) → shape_of others (renamed_ty r ty) ≡ shape_of types ty
    whole-same ty = ap (within depth_limit) (shape-same (named_shape types depth_limit) (named_shape others depth_limit) (named-same depth_limit) ty)

    pub known-same : (ty : Ty) → known_shape others (renamed_ty r ty) ≡ known_shape types ty
    known-same ty = ap (λ (o : Option Shape). unwrap_or o nothing) (whole-same ty)

    pub size-same : (ty : Ty) → size_of others (renamed_ty r ty) ≡ size_of types ty
    size-same ty = ap (λ (shape : Shape). shape.size) (known-same ty)

    pub limit-same : (ty : Ty) → limit_of others (renamed_ty r ty) ≡ limit_of types ty
    limit-same ty = ap limit_of_shape (whole-same ty)

    -- ---- offsets

    known-all : (parts : List Ty) → map (known_shape others) (map (renamed_ty r) parts) ≡ map (known_shape types) parts
    known-all parts = map-map (renamed_ty r) (known_shape others) (known_shape types) known-same parts

    -- a type with how far it stands
    abbrev renamed_place : Ty × ℕ → Ty × ℕ
    renamed_place place = (renamed_ty r place.0, place.1)

    offset-at : (before : List Ty) (field : Ty) → field_offset others (map (renamed_ty r) before) (renamed_ty r field) ≡ field_offset types before field
    offset-at before field = rw (known-all before, known-same field) refl

    field-same : (n : ℕ) (parts : List Ty) → numbered_field others n (map (renamed_ty r) parts) ≡ option_map renamed_place (numbered_field types n parts)
    field-same n parts = ap (option_map (λ (field : Ty). (field, field_offset others (take n (map (renamed_ty r) parts)) field))) (slice_get-map (renamed_ty r) parts n) ∙ by_part (slice_get parts n)
      where
        by_part : (o : Option Ty) → option_map (λ (field : Ty). (field, field_offset others (take n (map (renamed_ty r) parts)) field)) (option_map (renamed_ty r) o)
            ≡ option_map renamed_place (option_map (λ (field : Ty). (field, field_offset types (take n parts) field)) o)
        by_part None = refl
        by_part (Some field) = ap (λ (k : ℕ). Some (renamed_ty r field, k)) (ap (λ (before : List Ty). field_offset others before (renamed_ty r field)) (take-map (renamed_ty r) n parts) ∙ offset-at (take n parts) field)

    -- the fields of a struct
    own-same : (ty : Ty) → own_fields (renamed_ty r ty) ≡ option_map (map (renamed_ty r)) (own_fields ty)
    own-same ty = ap fields_step (out-renamed r ty) ∙ by_layer (out-Ty ty)
      where
        by_layer : (x : Ty-F Ty) → fields_step (numbered_layer r.type_id (map-Ty Ty Ty (renamed_ty r) x)) ≡ option_map (map (renamed_ty r)) (fields_step x)
        by_layer Ty-F.Void = refl
        by_layer (Ty-F.Int w) = refl
        by_layer Ty-F.Ptr = refl
        by_layer (Ty-F.Array count element) = refl
        by_layer (Ty-F.Struct parts) = refl
        by_layer (Ty-F.Named id) = refl

    fields-by : (x : Ty-F Ty) → named_fields_step others (numbered_layer r.type_id (map-Ty Ty Ty (renamed_ty r) x)) ≡ option_map (map (renamed_ty r)) (named_fields_step types x)
    fields-by Ty-F.Void = refl
    fields-by (Ty-F.Int w) = refl
    fields-by Ty-F.Ptr = refl
    fields-by (Ty-F.Array count element) = refl
    fields-by (Ty-F.Struct parts) = refl
    fields-by (Ty-F.Named id) = ap (option_and_then (λ (definition : TypeId × Ty). own_fields definition.1)) (definition-same id.0) ∙ by_definition (definition_of types id.0)
      where
        by_definition : (o : Option (TypeId × Ty)) → option_and_then (λ (definition : TypeId × Ty). own_fields definition.1) (option_map (renamed_named r) o)
            ≡ option_map (map (renamed_ty r)) (option_and_then (λ (definition : TypeId × Ty). own_fields definition.1) o)
        by_definition None = refl
        by_definition (Some named) = own-same named.1

    pub fields-same : (ty : Ty) → fields others (renamed_ty r ty) ≡ option_map (map (renamed_ty r)) (fields types ty)
    fields-same ty = ap (named_fields_step others) (out-renamed r ty) ∙ fields-by (out-Ty ty)

    into-fields : (index : Width × ℕ) (o : Option (List Ty)) → option_and_then (field_at others index) (option_map (map (renamed_ty r)) o)
        ≡ option_map renamed_place (option_and_then (field_at types index) o)
    into-fields index None = refl
    into-fields index (Some parts) = by_width (is_i32 index.0)
      where
        by_width : (b : Bool) → (if b then numbered_field others index.1 (map (renamed_ty r) parts) else None) ≡ option_map renamed_place (if b then numbered_field types index.1 parts else None)
        by_width true = field-same index.1 parts
        by_width false = refl

    pub entered-same : (index : Width × ℕ) (ty : Ty) → entered others index (renamed_ty r ty) ≡ option_map renamed_place (entered types index ty)
    entered-same index ty = ap (entered_step others index (renamed_ty r ty)) (out-renamed r ty) ∙ by_layer (out-Ty ty)
      where
        inside : option_and_then (field_at others index) (fields others (renamed_ty r ty)) ≡ option_map renamed_place (option_and_then (field_at types index) (fields types ty))
        inside = ap (option_and_then (field_at others index)) (fields-same ty) ∙ into-fields index (fields types ty)

        by_layer : (x : Ty-F Ty) → entered_step others index (renamed_ty r ty) (numbered_layer r.type_id (map-Ty Ty Ty (renamed_ty r) x)) ≡ option_map renamed_place (entered_step types index ty x)
        by_layer Ty-F.Void = inside
        by_layer (Ty-F.Int w) = inside
        by_layer Ty-F.Ptr = inside
        by_layer (Ty-F.Array count element) = ap (λ (size : ℕ). Some (renamed_ty r element, signed_word index.0 index.1 * size)) (size-same element)
        by_layer (Ty-F.Struct parts) = inside
        by_layer (Ty-F.Named id) = inside

    inner-same : (indices : List (Width × ℕ)) (ty : Ty) → inner_offset others (renamed_ty r ty) indices ≡ inner_offset types ty indices
    inner-same [] ty = refl
    inner-same (index ∷ indices) ty =
        ap (option_and_then (λ (step : Ty × ℕ). option_map (λ rest. step.1 + rest) (inner_offset others step.0 indices))) (entered-same index ty)
        ∙ by_step (entered types index ty) (inner-same indices)
      where
        by_step : (o : Option (Ty × ℕ)) → ((other : Ty) → inner_offset others (renamed_ty r other) indices ≡ inner_offset types other indices)
            → option_and_then (λ (step : Ty × ℕ). option_map (λ rest. step.1 + rest) (inner_offset others step.0 indices)) (option_map renamed_place o)
            ≡ option_and_then (λ (step : Ty × ℕ). option_map (λ rest. step.1 + rest) (inner_offset types step.0 indices)) o
        by_step None rest = refl
        by_step (Some step) rest = ap (option_map (λ (k : ℕ). step.1 + k)) (rest step.0)

    pub offset-same : (base : Ty) (indices : List (Width × ℕ)) → offset_of others (renamed_ty r base) indices ≡ offset_of types base indices
    offset-same base [] = refl
    offset-same base (index ∷ indices) = rw (size-same base, inner-same indices base) refl

-- ---- types that are the same

module _ (r : Renaming) (apart : IsApart r.type_id) where
  abbrev IsSame : Ty → Type 0
  IsSame ty = (other : Ty) → same_ty (renamed_ty r ty) (renamed_ty r other) ≡ same_ty ty other

  parts-same : (parts : List ((ty : Ty) × IsSame ty)) (tys : List Ty)
      → same_parts (map same_ty (map (renamed_ty r) (map (λ e. e.0) parts))) (map (renamed_ty r) tys) ≡ same_parts (map same_ty (map (λ e. e.0) parts)) tys
  parts-same [] [] = refl
  parts-same [] (ty ∷ tys) = refl
  parts-same (e ∷ parts) [] = refl
  parts-same (e ∷ parts) (ty ∷ tys) = rw (e.1 ty, parts-same parts tys) refl

  layers-same : (y : Ty-F ((ty : Ty) × IsSame ty)) (x : Ty-F Ty)
      → same_layer (map-Ty Ty (Ty → Bool) same_ty (numbered_layer r.type_id (map-Ty Ty Ty (renamed_ty r) (map-Ty ((ty : Ty) × IsSame ty) Ty (λ e. e.0) y)))) (numbered_layer r.type_id (map-Ty Ty Ty (renamed_ty r) x))
      ≡ same_layer (map-Ty Ty (Ty → Bool) same_ty (map-Ty ((ty : Ty) × IsSame ty) Ty (λ e. e.0) y)) x
  layers-same (Ty-F.Array count element) (Ty-F.Array many ty) = ap (λ (b : Bool). nat_eq count many && b) (element.1 ty)
  layers-same (Ty-F.Struct parts) (Ty-F.Struct tys) = parts-same parts tys
  layers-same (Ty-F.Named id) (Ty-F.Named other) = same-test r.type_id apart id.0 other.0
  layers-same Ty-F.Void x = void x
    where
      void : (x : Ty-F Ty) → same_layer Ty-F.Void (numbered_layer r.type_id (map-Ty Ty Ty (renamed_ty r) x)) ≡ same_layer Ty-F.Void x
      void Ty-F.Void = refl
      void other = refl
  layers-same (Ty-F.Int w) x = int x
    where
      int : (x : Ty-F Ty) → same_layer (Ty-F.Int w) (numbered_layer r.type_id (map-Ty Ty Ty (renamed_ty r) x)) ≡ same_layer (Ty-F.Int w) x
      int (Ty-F.Int v) = refl
      int other = refl
  layers-same Ty-F.Ptr x = ptr x
    where
      ptr : (x : Ty-F Ty) → same_layer Ty-F.Ptr (numbered_layer r.type_id (map-Ty Ty Ty (renamed_ty r) x)) ≡ same_layer Ty-F.Ptr x
      ptr Ty-F.Ptr = refl
      ptr other = refl
  layers-same y x = refl

  pub type-same : (a b : Ty) → same_ty (renamed_ty r a) (renamed_ty r b) ≡ same_ty a b
  type-same = ind-Ty IsSame (λ x y is other.
      ap (λ (ty : Ty). same_ty ty (renamed_ty r other)) (renamed-layer r x ∙ step-is r.type_id (map-Ty Ty Ty (renamed_ty r) x))
      ∙ ap (λ (f : Ty → Bool). f (renamed_ty r other)) (fold-roll-Ty (Ty → Bool) (λ layer ty. same_layer layer (out-Ty ty)) (numbered_layer r.type_id (map-Ty Ty Ty (renamed_ty r) x)))
      ∙ ap (same_layer (map-Ty Ty (Ty → Bool) same_ty (numbered_layer r.type_id (map-Ty Ty Ty (renamed_ty r) x)))) (out-renamed r other)
      ∙ ap (λ (z : Ty-F Ty). same_layer (map-Ty Ty (Ty → Bool) same_ty (numbered_layer r.type_id (map-Ty Ty Ty (renamed_ty r) z))) (numbered_layer r.type_id (map-Ty Ty Ty (renamed_ty r) (out-Ty other)))) (sym is)
      ∙ layers-same y (out-Ty other)
      ∙ ap (λ (z : Ty-F Ty). same_layer (map-Ty Ty (Ty → Bool) same_ty z) (out-Ty other)) is
      ∙ sym (ap (λ (f : Ty → Bool). f other) (fold-roll-Ty (Ty → Bool) (λ layer ty. same_layer layer (out-Ty ty)) x)))

  pub all-same : (xs ys : List Ty) → same_types (map (renamed_ty r) xs) (map (renamed_ty r) ys) ≡ same_types xs ys
  all-same [] [] = refl
  all-same [] (y ∷ ys) = refl
  all-same (x ∷ xs) [] = refl
  all-same (x ∷ xs) (y ∷ ys) = rw (type-same x y, all-same xs ys) refl

  pub void-again : renamed_ty r kinds.Void ≡ kinds.Void
  unfolding opened.roll-Ty denote.Hole.Carrier.roll
  void-again = fold-roll-Ty Ty (renamed_step r.type_id) Ty-F.Void

  pub int-again : (w : Width) → renamed_ty r (kinds.Int w) ≡ kinds.Int w
  unfolding opened.roll-Ty denote.Hole.Carrier.roll
  int-again w = fold-roll-Ty Ty (renamed_step r.type_id) (Ty-F.Int w)

  pub ptr-again : renamed_ty r kinds.Ptr ≡ kinds.Ptr
  unfolding opened.roll-Ty denote.Hole.Carrier.roll
  ptr-again = fold-roll-Ty Ty (renamed_step r.type_id) Ty-F.Ptr
