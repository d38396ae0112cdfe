-- Parts beside types.
use Rattle.std.proofs.Common.{ℕ, ◌≡◌, ◌∙◌, ap, refl, sym, subst, Bool, true, false, ◌&&◌, List, [], ◌∷◌, map, length, suc, ◌+◌, ◌<◌, ◌≤◌, drop, get_or, drop-cons, arith}
use Rattle.std.proofs.Math.ListN.{drop_of_length-le}
use Rattle.ir_core.specs.declared.types.Ty.{Ty}
use Rattle.ir_core.specs.declared.types.Ty as opened
use Rattle.ir_core.specs.declared.types.Ty.TheVariants as types
use Rattle.ir_core.specs.declared.types.Ty.TheOpen.{Ty-F}
use Rattle.ir_core.specs.declared.types.Ty.TheViews.{out-Ty, out-roll-Ty}
use Rattle.ir_core.specs.declared.types.Ty.TheFolds.{fold-roll-Ty}
use Rattle.ir_lines.specs.SameTypes.{same_ty, same_layer, same_types}

none : (b : Bool) → (b && false) ≡ false
none true = refl
none false = refl

-- lists of different lengths aren't the same
pub uneven : (types others : List Ty) → (length types ≡ length others → ⊥) → false ≡ same_types types others
uneven [] [] apart = absurd (apart refl)
uneven [] (other ∷ others) apart = refl
uneven (ty ∷ types) [] apart = refl
uneven (ty ∷ types) (other ∷ others) apart =
    let rest : false ≡ same_types types others = uneven types others (λ e. apart (ap suc e)) in
    subst (λ b. false ≡ (same_ty ty other && b)) rest (sym (none (same_ty ty other)))

structs : (parts others : List Ty) → same_ty (types.Struct parts) (types.Struct others) ≡ same_types parts others
unfolding opened.roll-Ty denote.Hole.Carrier.roll
structs parts others =
    ap (λ (f : Ty → Bool). f (types.Struct others)) (fold-roll-Ty (Ty → Bool) (λ layer ty. same_layer layer (out-Ty ty)) (Ty-F.Struct parts))
    ∙ ap (same_layer (Ty-F.Struct (map same_ty parts))) (out-roll-Ty (Ty-F.Struct others))

-- what holds of parts holds of structs of them
pub structs-told : (b : Bool) (parts others xs ys : List Ty) → xs ≡ parts → ys ≡ others → b ≡ same_types xs ys → b ≡ same_ty (types.Struct parts) (types.Struct others)
structs-told b parts others xs ys p q e = e ∙ ap (λ (zs : List Ty). same_types zs ys) p ∙ ap (λ (zs : List Ty). same_types parts zs) q ∙ sym (structs parts others)

drop_at : {A : Type 0} (xs : List A) (i : ℕ) (x : A) → i < length xs → x ≡ get_or xs i x → drop i xs ≡ x ∷ drop (i + 1) xs
drop_at xs i x inside at = let e : drop i xs ≡ get_or xs i x ∷ drop (suc i) xs = drop-cons xs i x inside in let n : suc i ≡ i + 1 = omega arith in cc

-- a part that isn't the same as the one beside it; and no further part
pub differs : (xs ys : List Ty) (i : ℕ) (x y : Ty) → i < length xs → i < length ys → x ≡ get_or xs i x → y ≡ get_or ys i y → same_types (drop i xs) (drop i ys) ≡ same_types xs ys → same_ty x y ≡ false → false ≡ same_types xs ys
differs xs ys i x y p q at beside invariant e =
    sym (ap (λ (b : Bool). b && same_types (drop (i + 1) xs) (drop (i + 1) ys)) e)
    ∙ ap (λ (zs : List Ty). same_types (x ∷ drop (i + 1) xs) zs) (sym (drop_at ys i y q beside))
    ∙ ap (λ (zs : List Ty). same_types zs (drop i ys)) (sym (drop_at xs i x p at))
    ∙ invariant

pub over : (xs ys : List Ty) (i : ℕ) → length xs ≤ i → length ys ≤ i → same_types (drop i xs) (drop i ys) ≡ same_types xs ys → true ≡ same_types xs ys
over xs ys i p q invariant =
    ap (λ (zs : List Ty). same_types [] zs) (sym (drop_of_length-le ys {i = i} q)) ∙ ap (λ (zs : List Ty). same_types zs (drop i ys)) (sym (drop_of_length-le xs {i = i} p)) ∙ invariant
