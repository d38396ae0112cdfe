-- A table of places with one earlier entry more.
use Rattle.std.proofs.Common.{◌≡◌, ℕ, suc, ◌+◌, ◌<◌, List, ◌∷◌, drop, length, get_or, drop-cons, refl, sym, ap, ◌∙◌, arith, true, false}
use Rattle.std.specs.Prelude.{Bool, Option, Some, slice_get, nat_eq, if◌then◌else◌}
use Rattle.std.specs.Option.{option_and_then}
use Rattle.std.proofs.lemmas.Option.{slice_get-get_or}
use Rattle.std.proofs.lemmas.Bool.{eqb-true}
use Rattle.ir_core.specs.declared.types.Loc.{Loc}
use Rattle.ir_types.specs.Firsts.{entry_of}

pub drop_at : {A : Type 0} (xs : List A) (i : ℕ) (x : A) → i < length xs → x ≡ get_or xs i x → drop i xs ≡ x ∷ drop (i + 1) xs
drop_at xs i x inside at = let e : drop i xs ≡ get_or xs i x ∷ drop (suc i) xs = drop-cons xs i x inside in let n : suc i ≡ i + 1 = omega arith in cc

-- an entry of its own name comes first, and leaves those of other names
pub placed-before : {A : Type 0} (entries : List (Loc × A)) (i : ℕ) (e : Loc × A) (before after : ℕ → Option ℕ) → i < length entries → e ≡ get_or entries i e → after e.0.0 ≡ Some i → ((q : ℕ) → nat_eq e.0.0 q ≡ false → after q ≡ before q) → ((n : ℕ) → option_and_then (slice_get entries) (before n) ≡ entry_of (drop (i + 1) entries) n) → (n : ℕ) → option_and_then (slice_get entries) (after n) ≡ entry_of (drop i entries) n
placed-before {A} entries i e before after inside at here others behind n = by_name (nat_eq e.0.0 n) refl
  where
    by_name : (b : Bool) → nat_eq e.0.0 n ≡ b → option_and_then (slice_get entries) (after n) ≡ entry_of (drop i entries) n
    by_name true q =
        let same : e.0.0 ≡ n = eqb-true e.0.0 n q in
        let found : option_and_then (slice_get entries) (after n) ≡ Some e = ap (λ (k : ℕ). option_and_then (slice_get entries) (after k)) (sym same) ∙ ap (λ (o : Option ℕ). option_and_then (slice_get entries) o) here ∙ slice_get-get_or entries i e inside ∙ ap (λ (x : Loc × A). Some x) (sym at) in
        found ∙ sym (ap (λ (es : List (Loc × A)). entry_of es n) (drop_at entries i e inside at) ∙ ap (λ (b : Bool). if b then Some e else entry_of (drop (i + 1) entries) n) q)
    by_name false q =
        ap (λ (o : Option ℕ). option_and_then (slice_get entries) o) (others n q) ∙ behind n ∙ sym (ap (λ (es : List (Loc × A)). entry_of es n) (drop_at entries i e inside at) ∙ ap (λ (b : Bool). if b then Some e else entry_of (drop (i + 1) entries) n) q)
