-- What the calls of a set of keys say of the list of the keys' bytes.
use Rattle.std.proofs.Common.{◌<◌, get_or, take, slice_get, ◌≡◌, ℕ, Bool, true, false, cond, not, if◌then◌else◌, List, [], ◌∷◌, ◌++◌, map, Option, Some, position, ◌+◌, ◌||◌, ap, sym, refl, ◌∙◌, arith}
use Rattle.std.proofs.lemmas.Cmp.{nat_list_eq_equiv}
use Rattle.std.proofs.lemmas.List.{get_or-take, length-map, length-take, map-append, take_more}
use Rattle.std.proofs.lemmas.List.Folds.{list_any_none}
use Rattle.std.proofs.lemmas.Map.Keys.{apart_from_distinct}
use Rattle.std.proofs.lemmas.Option.{get_or_from_slice_get, slice_get_within}
use Rattle.std.specs.List.{AllByRecursion, IsDistinct, list_any, position_or_len}
use Rattle.std.specs.Str.{bytes_eq}
use Rattle.ir_core.specs.Names.{number_of, number_given, numbered}

module _ {K X : Type 0} (f : K → X) where
  pub position_or_len-map : (p : X → Bool) (ks : List K) → position_or_len p (map f ks) ≡ position_or_len (λ k. p (f k)) ks
  position_or_len-map p [] = refl
  position_or_len-map p (k ∷ ks) = ap (λ n. cond (not (p (f k))) (1 + n) 0) (position_or_len-map p ks)

  pub position-map : (p : X → Bool) (ks : List K) → position p (map f ks) ≡ position (λ k. p (f k)) ks
  position-map p ks = rw (position_or_len-map p ks, length-map ks f)

  pub list_any-map : (p : X → Bool) (ks : List K) → list_any p (map f ks) ≡ list_any (λ k. p (f k)) ks
  list_any-map p [] = refl
  list_any-map p (k ∷ ks) = ap (λ b. p (f k) || b) (list_any-map p ks)

  -- no key is equal to a later one, so no image is
  none-map : (e : X → X → Bool) (k : K) (ks : List K) → AllByRecursion (λ q. e (f k) (f q) ≡ false) ks → AllByRecursion (λ y. e (f k) y ≡ false) (map f ks)
  none-map e k [] h = tt
  none-map e k (q ∷ ks) h = (h.0, none-map e k ks h.1)

  pub IsDistinct-map : (e : X → X → Bool) (ks : List K) → IsDistinct (λ x y. e (f x) (f y)) ks → IsDistinct e (map f ks)
  unfolding IsDistinct
  IsDistinct-map e [] h = tt
  IsDistinct-map e (k ∷ ks) h = (none-map e k ks h.0, IsDistinct-map e ks h.1)

  -- the images after a key goes last
  pub map-insert : (b : Bool) (ks : List K) (k : K) → map f (if b then ks else ks ++ k ∷ []) ≡ (if b then map f ks else map f ks ++ f k ∷ [])
  map-insert true ks k = refl
  map-insert false ks k = map-append f ks (k ∷ [])

-- a table whose keys are ks, each with the bytes that f gives
module _ {K : Type 0} (f : K → List ℕ) (ks : List K) (names : List (List ℕ)) (name : List ℕ) (view : map f ks ≡ names) where
  -- what a look-up finds
  pub number_of-keys : (r : Option ℕ) → r ≡ position (λ k. bytes_eq name (f k)) ks → r ≡ number_of names name
  number_of-keys r e = e ∙ sym (position-map f (bytes_eq name) ks) ∙ ap (λ l. number_of l name) view

  -- what an insert of a key with the name's bytes gives, and leaves
  module _ (key : K) (same : f key ≡ name) where
    pub number_given-insert : (i : ℕ) → i ≡ position_or_len (λ k. bytes_eq (f key) (f k)) ks → i ≡ number_given names name
    number_given-insert i e = e ∙ sym (position_or_len-map f (bytes_eq (f key)) ks) ∙ ap (λ l. position_or_len (bytes_eq (f key)) l) view ∙ ap (λ n. number_given names n) same

    pub numbered-insert : (new : List K) → new ≡ (if list_any (λ k. bytes_eq (f key) (f k)) ks then ks else ks ++ key ∷ []) → map f new ≡ numbered names name
    numbered-insert new e = ap (map f) e ∙ map-insert f _ ks key ∙ ap (λ b. if b then map f ks else map f ks ++ f key ∷ []) (sym (list_any-map f (bytes_eq (f key)) ks)) ∙ ap (λ l. numbered l (f key)) view ∙ ap (numbered names) same

-- the names of a table, numbered in turn, make the table again
module _ (names : List (List ℕ)) (i : ℕ) (name : List ℕ) (distinct : IsDistinct bytes_eq names) (at : slice_get names i ≡ Some name) where
  list_any-take : list_any (bytes_eq name) (take i names) ≡ false
  list_any-take =
      list_any_none (bytes_eq name) (take i names) (λ k d h.
      let within = slice_get_within names i name at in
      let low : k < i = omega (arith, length-take i names) in
      let apart = apart_from_distinct bytes_eq names k i d distinct low within in
      ap (bytes_eq name) (get_or-take i names k d low) ∙ nat_list_eq_equiv.symm name (get_or names k d) ∙ ap (bytes_eq (get_or names k d)) (sym (get_or_from_slice_get names i name d at)) ∙ apart)

  pub numbered-take : numbered (take i names) name ≡ take (i + 1) names
  numbered-take =
      ap (λ b. if b then take i names else take i names ++ name ∷ []) list_any-take ∙ ap (λ x. take i names ++ x ∷ []) (sym (get_or_from_slice_get names i name [] at))
      ∙ sym (take_more names i [] (slice_get_within names i name at))
