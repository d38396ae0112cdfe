-- The threads once an access aborted those that it conflicts with, one after the other.
use Rattle.std.proofs.Common.{◌≡◌, ◌∙◌, ℕ, zero, suc, ◌+◌, ◌<◌, ◌≤◌, Bool, true, false, not, ◌&&◌, List, [], ◌∷◌, ◌++◌, length, take, drop, set, get_or, Option, Some, None, slice_get, nat_eq, refl, sym, ap, arith, add-one, append_assoc}
use Rattle.std.proofs.lemmas.Bool.Decides.{nat_tests}
use Rattle.std.proofs.Math.ListN.{drop_of_length-le}
use Rattle.std.proofs.lemmas.List.{append-nil, take_all}
use Rattle.mem_image.specs.Touches.{Touch}
use Rattle.rtm_core.specs.declared.Aborted.{Aborted}
use Rattle.rtm_core.specs.Calls.{conflict_aborts, conflict_status, aborted_with}
use Rattle.rtm_core.specs.Transactions.{Transaction, strikes, meets, none_if, joined_if, kept_of, spared_from, struck_from}

abbrev Threads : Type 0 → Type 0
Threads C = List (Option (Transaction C))

module _ {C : Type 0} where
  spared-step : (t : ℕ) (touch : Touch) (u i : ℕ) (txs : Threads C) (tx : Option (Transaction C)) → i < length txs → get_or txs i None ≡ tx
      → take (suc i) (set txs i (none_if (strikes t touch u tx) tx)) ++ spared_from t touch (suc u) (drop (suc i) (set txs i (none_if (strikes t touch u tx) tx)))
      ≡ take i txs ++ spared_from t touch u (drop i txs)
  spared-step t touch u i [] tx less is = absurd (omega (arith, less))
  spared-step t touch u zero (x ∷ txs) tx less is = ap (λ (y : Option (Transaction C)). none_if (strikes t touch u y) y ∷ spared_from t touch (suc u) txs) (sym is)
  spared-step t touch u (suc i) (x ∷ txs) tx less is = ap (λ (more : Threads C). x ∷ more) (spared-step t touch u i txs tx (omega (arith, less)) is)

  pub spared-next : (t : ℕ) (touch : Touch) (u : ℕ) (txs : Threads C) (tx new : Option (Transaction C)) → u < length txs → tx ≡ get_or txs u None → new ≡ none_if (strikes t touch u tx) tx
      → take (u + 1) (set txs u new) ++ spared_from t touch (u + 1) (drop (u + 1) (set txs u new)) ≡ take u txs ++ spared_from t touch u (drop u txs)
  spared-next t touch u txs tx new less is put =
      ap (λ (y : Option (Transaction C)). take (u + 1) (set txs u y) ++ spared_from t touch (u + 1) (drop (u + 1) (set txs u y))) put
      ∙ rw add-one (spared-step t touch u u txs tx less (sym is))

  pub spared-done : (t : ℕ) (touch : Touch) (u : ℕ) (txs : Threads C) → length txs ≤ u → take u txs ++ spared_from t touch u (drop u txs) ≡ txs
  spared-done t touch u txs past = rw (take_all u txs past, drop_of_length-le txs past) (append-nil txs)

  joined-again : (b : Bool) (u : ℕ) (kept : Option C) (more : List (ℕ × C)) → joined_if b u kept [] ++ more ≡ joined_if b u kept more
  joined-again true u (Some kept) more = refl
  joined-again true u None more = refl
  joined-again false u kept more = refl

  aborts-append : (xs ys : List (ℕ × C)) → conflict_aborts (xs ++ ys) ≡ conflict_aborts xs ++ conflict_aborts ys
  aborts-append [] ys = refl
  aborts-append (x ∷ xs) ys = ap (λ (more : List (Aborted C)). aborted_with conflict_status x ∷ more) (aborts-append xs ys)

  struck-left : (t : ℕ) (touch : Touch) (u i : ℕ) (txs : Threads C) (tx y : Option (Transaction C)) → i < length txs → get_or txs i None ≡ tx
      → joined_if (strikes t touch u tx) u (kept_of tx) [] ++ struck_from t touch (suc u) (drop (suc i) (set txs i y)) ≡ struck_from t touch u (drop i txs)
  struck-left t touch u i [] tx y less is = absurd (omega (arith, less))
  struck-left t touch u zero (x ∷ txs) tx y less is =
      joined-again (strikes t touch u tx) u (kept_of tx) (struck_from t touch (suc u) txs)
      ∙ ap (λ (z : Option (Transaction C)). joined_if (strikes t touch u z) u (kept_of z) (struck_from t touch (suc u) txs)) (sym is)
  struck-left t touch u (suc i) (x ∷ txs) tx y less is = struck-left t touch u i txs tx y (omega (arith, less)) is

  pub struck-next : (t : ℕ) (touch : Touch) (u : ℕ) (txs : Threads C) (tx y : Option (Transaction C)) (out new : List (Aborted C)) → u < length txs → tx ≡ get_or txs u None
      → new ≡ out ++ conflict_aborts (joined_if (strikes t touch u tx) u (kept_of tx) [])
      → new ++ conflict_aborts (struck_from t touch (u + 1) (drop (u + 1) (set txs u y))) ≡ out ++ conflict_aborts (struck_from t touch u (drop u txs))
  struck-next t touch u txs tx y out new less is put =
      ap (λ (o : List (Aborted C)). o ++ conflict_aborts (struck_from t touch (u + 1) (drop (u + 1) (set txs u y)))) put
      ∙ append_assoc out (conflict_aborts (joined_if (strikes t touch u tx) u (kept_of tx) [])) (conflict_aborts (struck_from t touch (u + 1) (drop (u + 1) (set txs u y))))
      ∙ ap (λ (more : List (Aborted C)). out ++ more)
      (sym (aborts-append (joined_if (strikes t touch u tx) u (kept_of tx) []) (struck_from t touch (u + 1) (drop (u + 1) (set txs u y))))
      ∙ ap conflict_aborts (rw add-one (struck-left t touch u u txs tx y less (sym is))))

  pub struck-done : (t : ℕ) (touch : Touch) (u : ℕ) (txs : Threads C) (out : List (Aborted C)) → length txs ≤ u → out ++ conflict_aborts (struck_from t touch u (drop u txs)) ≡ out
  struck-done t touch u txs out past = rw (drop_of_length-le txs past) (append-nil out)

  -- there are as many threads, and a thread's own transaction stays
  pub length-spared : (t : ℕ) (touch : Touch) (u : ℕ) (txs : Threads C) → length (spared_from t touch u txs) ≡ length txs
  length-spared t touch u [] = refl
  length-spared t touch u (x ∷ txs) = ap suc (length-spared t touch (suc u) txs)

  own : (t : ℕ) (touch : Touch) (u i : ℕ) (txs : Threads C) → u + i ≡ t → slice_get (spared_from t touch u txs) i ≡ slice_get txs i
  own t touch u i [] is = refl
  own t touch u zero (x ∷ txs) is =
      let e : nat_eq u t ≡ true = grind (arith, nat_tests, is) in
      ap (λ (b : Bool). Some (none_if (not b && meets touch x) x)) e
  own t touch u (suc i) (x ∷ txs) is = own t touch (suc u) i txs (omega (arith, is))

  pub own-stays : (t : ℕ) (touch : Touch) (txs : Threads C) → slice_get (spared_from t touch 0 txs) t ≡ slice_get txs t
  own-stays t touch txs = own t touch 0 t txs (omega arith)
