-- Tables of next accesses from one state to the next.
use Rattle.std.proofs.Common.{ℕ, ◌≡◌, ◌<◌, Bool, true, false, eqb, List, length, Option, None, slice_set, refl, ap, sym, ◌∙◌, arith, eqb-true}
use Rattle.std.specs.List.{find}
use Rattle.std.proofs.Math.ListN.{length-set}
use Rattle.std.proofs.lemmas.Bool.{eqb-false}
use Rattle.std.proofs.lemmas.List.{get_or-set_same, get_or-set_other}
use Rattle.ir_core.specs.Module.{ModuleParts}
use Rattle.inst_meaning.specs.declared.actions.Access.{Access}
use Rattle.src_meaning.specs.State.{State}
use Rattle.src_meaning.specs.Races.{next_access, clash_of, is_race, pairs_of, race_of}
use Rattle.race_watch.proofs.Others.{Moved, next_access-moved}
use Rattle.race_watch.specs.Tables.{access_at, clashes_in, race_in, OthersAreApart, AreAccesses}
use Rattle.race_watch.proofs.FirstPairs.{find-same, find-lacks}

clash_of-same : (a b c d : Option Access) → a ≡ c → b ≡ d → clash_of a b ≡ clash_of c d
clash_of-same a b c d e f = ap (λ x. clash_of x b) e ∙ ap (clash_of c) f

-- the first race of a list of next accesses is that of the state
pub race_in-state : (m : ModuleParts) (s : State) (accesses : List (Option Access)) → AreAccesses m s accesses → race_in accesses ≡ race_of m s
race_in-state m s accesses h =
    ap (λ n. find (clashes_in accesses) (pairs_of n)) h.count
    ∙ find-same (clashes_in accesses) (is_race m s) (length s.process.threads) (λ t u order within. clash_of-same _ _ _ _ (h.each t (omega arith)) (h.each u within))

-- thread t went from a state without a race, and made no thread
pub record Followed (m : ModuleParts) (before : State) (t : ℕ) (after : State) (accesses new : List (Option Access)) : Type 0 where
  pub known : AreAccesses m before accesses
  pub none : race_of m before ≡ None
  pub moved : Moved before t after
  pub same : length after.process.threads ≡ length before.process.threads
  pub made : t < length before.process.threads
  pub is : new ≡ slice_set accesses t (next_access m after t)

module _ (m : ModuleParts) (before : State) (t : ℕ) (after : State) (accesses new : List (Option Access)) (h : Followed m before t after accesses new) where
  at-other : (u : ℕ) → (u ≡ t → ⊥) → u < length before.process.threads → access_at new u ≡ next_access m before u
  at-other u other within = ap (λ xs. access_at xs u) h.is ∙ get_or-set_other accesses t u (next_access m after t) None other ∙ h.known.each u within

  at-each : (u : ℕ) → u < length before.process.threads → access_at new u ≡ next_access m after u
  at-each u within = by (eqb u t) refl
    where
      by : (b : Bool) → eqb u t ≡ b → access_at new u ≡ next_access m after u
      by true e =
          let same : u ≡ t = eqb-true u t e in
          let there : t < length accesses = omega (arith, h.known.count, h.made) in
          ap (access_at new) same ∙ ap (λ xs. access_at xs t) h.is ∙ get_or-set_same accesses t (next_access m after t) None there ∙ ap (next_access m after) (sym same)
      by false e = at-other u (eqb-false u t e) within ∙ sym (next_access-moved m before t after h.moved h.same u (eqb-false u t e) within)

  length-new : length new ≡ length after.process.threads
  length-new = ap (λ (xs : List (Option Access)). length xs) h.is ∙ length-set accesses t (next_access m after t) ∙ h.known.count ∙ sym h.same

  pub followed : AreAccesses m after new
  followed = record { count = length-new; each = λ u within. at-each u (omega (arith, h.same)) }

  pub apart : OthersAreApart new t
  apart a b first second order within =
      let there : b < length before.process.threads = omega (arith, length-new, h.same) in
      clash_of-same _ _ _ _ (at-other a first (omega arith)) (at-other b second there)
      ∙ find-lacks (is_race m before) (length before.process.threads) h.none a b order there
