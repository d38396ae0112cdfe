-- What comparisons of one thread with the others show.
use Rattle.std.proofs.Common.{ℕ, ◌≡◌, ◌<◌, Bool, true, false, eqb, List, length, Option, Some, None, refl, ap, sym, ◌∙◌, arith, eqb-true}
use Rattle.std.proofs.lemmas.Bool.{eqb-false}
use Rattle.inst_meaning.specs.declared.actions.Access.{Access}
use Rattle.race_watch.specs.Tables.{clashes_in, race_in, OthersAreApart}
use Rattle.race_watch.proofs.FirstPairs.{find-none, find-some}

module _ (accesses : List (Option Access)) (t : ℕ) (apart : OthersAreApart accesses t) where
  -- a pair with t is judged for itself
  none-of : (a b : ℕ) → a < b → b < length accesses → (a ≡ t → clashes_in accesses (a, b) ≡ false) → (b ≡ t → clashes_in accesses (a, b) ≡ false) → clashes_in accesses (a, b) ≡ false
  none-of a b order within first second = by (eqb a t) (eqb b t) refl refl
    where
      by : (p q : Bool) → eqb a t ≡ p → eqb b t ≡ q → clashes_in accesses (a, b) ≡ false
      by true q e f = first (eqb-true a t e)
      by false true e f = second (eqb-true b t f)
      by false false e f = apart a b (eqb-false a t e) (eqb-false b t f) order within

  pub with-earlier : (u : ℕ) → u < t → t < length accesses → ((a : ℕ) → a < u → clashes_in accesses (a, t) ≡ false) → clashes_in accesses (u, t) ≡ true → Some (u, t) ≡ race_in accesses
  with-earlier u below within before e = sym (find-some (clashes_in accesses) (length accesses) u t below within e (record {
    rows = λ a b i order j. none-of a b order j (λ same. absurd (omega arith)) (λ same. ap (λ w. clashes_in accesses (a, w)) same ∙ before a i);
    row = λ b order j. none-of u b order (omega arith) (λ same. absurd (omega arith)) (λ same. absurd (omega arith));
  }))

  pub with-later : (u : ℕ) → t < u → u < length accesses → ((a : ℕ) → a < t → clashes_in accesses (a, t) ≡ false) → ((b : ℕ) → t < b → b < u → clashes_in accesses (t, b) ≡ false) → clashes_in accesses (t, u) ≡ true → Some (t, u) ≡ race_in accesses
  with-later u above within before behind e = sym (find-some (clashes_in accesses) (length accesses) t u above within e (record {
    rows = λ a b i order j. none-of a b order j (λ same. absurd (omega arith)) (λ same. ap (λ w. clashes_in accesses (a, w)) same ∙ before a i);
    row = behind;
  }))

  pub with-none : ((a : ℕ) → a < t → clashes_in accesses (a, t) ≡ false) → ((b : ℕ) → t < b → b < length accesses → clashes_in accesses (t, b) ≡ false) → None ≡ race_in accesses
  with-none before behind = sym (find-none (clashes_in accesses) (length accesses) (λ a b order j. none-of a b order j
      (λ same. ap (λ w. clashes_in accesses (w, b)) same ∙ behind b (omega arith) j)
      (λ same. ap (λ w. clashes_in accesses (a, w)) same ∙ before a (omega arith))))
