-- An entry that is put in and taken out again leaves the entries as they were.
use Rattle.std.proofs.Common.{ℕ, ◌≡◌, cond, List, [], ◌∷◌, Some, None, refl, ap}
use Rattle.std.specs.declared.cmp.Ordering.{Ordering}
use Rattle.std.specs.declared.cmp.Ordering.TheVariants.{Less, Equal, Greater}
use Rattle.std.specs.Ordering.{is_eq, match_ordering, nat_cmp}
use Rattle.std.specs.Cmp.{nat_cmp_is}
use Rattle.std.specs.Map.{lookup, remove_entry}
use Rattle.std.specs.BTreeMap.{insert_entry, is_at}

removed_at : (k v : ℕ) (es : List (ℕ × ℕ)) → remove_entry (is_at (nat_cmp k)) ((k, v) ∷ es) ≡ es
removed_at k v es = let same : Equal ≡ nat_cmp k k = nat_cmp_is k k Equal refl in rw (← same) refl

pub removed_again : (k v : ℕ) (es : List (ℕ × ℕ)) → lookup (is_at (nat_cmp k)) es ≡ None → remove_entry (is_at (nat_cmp k)) (insert_entry nat_cmp es k v) ≡ es
removed_again k v [] none = removed_at k v []
removed_again k v (e ∷ es) none = by (nat_cmp k e.0) refl none (removed_again k v es)
  where
    by : (o : Ordering) → nat_cmp k e.0 ≡ o → cond (is_eq o) (Some e.1) (lookup (is_at (nat_cmp k)) es) ≡ None → (lookup (is_at (nat_cmp k)) es ≡ None → remove_entry (is_at (nat_cmp k)) (insert_entry nat_cmp es k v) ≡ es) → remove_entry (is_at (nat_cmp k)) (match_ordering o ((k, v) ∷ e ∷ es) ((e.0, v) ∷ es) (e ∷ insert_entry nat_cmp es k v)) ≡ e ∷ es
    by Less is none rest = removed_at k v (e ∷ es)
    by Equal is none rest = absurd cc
    by Greater is none rest = rw is (ap (λ xs. e ∷ xs) (rest none))
