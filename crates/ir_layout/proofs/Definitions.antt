-- A table of places, one definition after another, and the shapes that it leads to.
use Rattle.std.proofs.Common.{◌≡◌, ℕ, suc, ◌+◌, ◌<◌, List, [], ◌∷◌, ◌++◌, take, map, length, get_or, refl, sym, ap, ◌∙◌, arith, true, false}
use Rattle.std.specs.Prelude.{Bool, Option, None, Some, slice_get, nat_eq, find, if◌then◌else◌}
use Rattle.std.specs.Option.{option_map, option_and_then, option_flatten}
use Rattle.std.proofs.lemmas.List.{take_more, reverse-append}
use Rattle.std.proofs.lemmas.Option.{slice_get-get_or, slice_get-map}
use Rattle.std.proofs.lemmas.Bool.{eqb-true}
use Rattle.ir_core.specs.declared.types.Ty.{Ty}
use Rattle.ir_core.specs.declared.types.TypeId.{TypeId}
use Rattle.ir_layout.specs.Shapes.{definition_of, body_shape, named_shape}
use Rattle.ir_layout.specs.KeptShapes.{kept}
use Rattle.ir_layout.specs.declared.shapes.KeptShape.{KeptShape}

-- a definition more: it counts for its own name, and for no other
definition_of-snoc : (types : List (TypeId × Ty)) (d : TypeId × Ty) (id : ℕ) → definition_of (types ++ d ∷ []) id ≡ (if nat_eq d.0.0 id then Some d else definition_of types id)
definition_of-snoc types d id = ap (λ (ds : List (TypeId × Ty)). find (λ named. nat_eq named.0.0 id) ds) (reverse-append types (d ∷ []))

pub definition_of-more : (types : List (TypeId × Ty)) (i : ℕ) (d : TypeId × Ty) (id : ℕ) → i < length types → d ≡ get_or types i d → definition_of (take (i + 1) types) id ≡ (if nat_eq d.0.0 id then Some d else definition_of (take i types) id)
definition_of-more types i d id inside at =
    let e : take (i + 1) types ≡ take i types ++ d ∷ [] = take_more types i d inside ∙ ap (λ (x : TypeId × Ty). take i types ++ x ∷ []) (sym at) in
    ap (λ (ds : List (TypeId × Ty)). definition_of ds id) e ∙ definition_of-snoc (take i types) d id

-- the table with one place more
pub placed-more : (types : List (TypeId × Ty)) (i : ℕ) (d : TypeId × Ty) (before after : ℕ → Option ℕ) → i < length types → d ≡ get_or types i d → after d.0.0 ≡ Some i → ((q : ℕ) → nat_eq d.0.0 q ≡ false → after q ≡ before q) → ((id : ℕ) → option_and_then (slice_get types) (before id) ≡ definition_of (take i types) id) → (id : ℕ) → option_and_then (slice_get types) (after id) ≡ definition_of (take (i + 1) types) id
placed-more types i d before after inside at here others so_far id = by_name (nat_eq d.0.0 id) refl
  where
    by_name : (b : Bool) → nat_eq d.0.0 id ≡ b → option_and_then (slice_get types) (after id) ≡ definition_of (take (i + 1) types) id
    by_name true e =
        let same : d.0.0 ≡ id = eqb-true d.0.0 id e in
        let found : option_and_then (slice_get types) (after id) ≡ Some d = ap (λ (n : ℕ). option_and_then (slice_get types) (after n)) (sym same) ∙ ap (λ (o : Option ℕ). option_and_then (slice_get types) o) here ∙ slice_get-get_or types i d inside ∙ ap (λ (x : TypeId × Ty). Some x) (sym at) in
        found ∙ sym (definition_of-more types i d id inside at ∙ ap (λ (b : Bool). if b then Some d else definition_of (take i types) id) e)
    by_name false e =
        ap (λ (o : Option ℕ). option_and_then (slice_get types) o) (others id e) ∙ so_far id ∙ sym (definition_of-more types i d id inside at ∙ ap (λ (b : Bool). if b then Some d else definition_of (take i types) id) e)

-- one round of following names
pub followed : (types : List (TypeId × Ty)) (rounds : ℕ) (place : Option ℕ) (id : ℕ) (shapes : List (Option KeptShape)) → option_and_then (slice_get types) place ≡ definition_of types id → shapes ≡ map (λ (d : TypeId × Ty). option_map kept (body_shape (named_shape types rounds) d)) types → option_flatten (option_and_then (slice_get shapes) place) ≡ option_map kept (named_shape types (rounds + 1) id)
unfolding named_shape
followed types rounds place id shapes at e =
    let f : TypeId × Ty → Option KeptShape = λ d. option_map kept (body_shape (named_shape types rounds) d) in
    let one_more : suc rounds ≡ rounds + 1 = omega arith in
    ap (λ (xs : List (Option KeptShape)). option_flatten (option_and_then (slice_get xs) place)) e ∙ mapped types f place ∙ ap (λ (o : Option (TypeId × Ty)). option_flatten (option_map f o)) at ∙ through (definition_of types id) ∙ ap (λ (n : ℕ). option_map kept (named_shape types n id)) one_more
  where
    mapped : (types : List (TypeId × Ty)) (f : TypeId × Ty → Option KeptShape) (place : Option ℕ) → option_flatten (option_and_then (slice_get (map f types)) place) ≡ option_flatten (option_map f (option_and_then (slice_get types) place))
    mapped types f None = refl
    mapped types f (Some p) = ap (λ (o : Option (Option KeptShape)). option_flatten o) (slice_get-map f types p)

    through : (found : Option (TypeId × Ty)) → option_flatten (option_map (λ d. option_map kept (body_shape (named_shape types rounds) d)) found) ≡ option_map kept (option_and_then (body_shape (named_shape types rounds)) found)
    through None = refl
    through (Some d) = refl

-- before the first round
pub unfollowed : (types : List (TypeId × Ty)) (place : Option ℕ) (id : ℕ) → option_flatten (option_and_then (slice_get []) place) ≡ option_map kept (named_shape types 0 id)
unfolding named_shape
unfollowed types None id = refl
unfollowed types (Some p) id = refl
