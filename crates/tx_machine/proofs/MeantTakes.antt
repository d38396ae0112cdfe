-- A mutex that a thread takes: all others that watch it are aborted, as the definitions have it.
use Rattle.std.proofs.Common.{ℕ, zero, suc, ◌≡◌, ◌∙◌, ◌<◌, ◌≤◌, ◌+◌, Bool, true, false, not, ◌&&◌, List, [], ◌∷◌, map, length, Option, Some, None, slice_get, slice_set, nat_eq, refl, ap, sym, subst, arith}
use Rattle.std.specs.Option.{option_map_or}
use Rattle.process.specs.declared.state.CallStack.{CallStack}
use Rattle.hard_frames.specs.declared.state.Frame.{Frame}
use Rattle.line_sets.specs.Sets.{has}
use Rattle.elide.specs.Watches.{WatchParts, nothing_watched}
use Rattle.rtm_core.specs.Transactions.{Transaction, thread}
use Rattle.tx_runtime.specs.declared.words.Mode as runtime
use Rattle.tx_runtime.specs.declared.words.Mode.TheVariants.{Out, In, Plain}
use Rattle.hard_meaning.specs.State.{Worker, State, Upset}
use Rattle.hard_meaning.specs.Aborts.{Conflict, Claim, aborted_if, spared}
use Rattle.hard_meaning.specs.Effects.{with_worker}
use Rattle.tx_machine.specs.Own.{OwnParts, once_undone}
use Rattle.tx_machine.specs.Joined.{joined_one, joined}
use Rattle.tx_machine.specs.Core.{CoreParts, aborted_as, watcher_if, watches_other, watchers_aborted, core_taken}
use Rattle.tx_machine.specs.Meant.{state_of, IsTied, StandsAt}
use Rattle.tx_machine.proofs.Undone.{spared_if, spared_but, stays-spared}
use Rattle.tx_machine.proofs.Meant.{length-set, IsFound, found, IsThere, there-within, worker-is, stays}
use Rattle.tx_machine.proofs.MeantAborts.{in_mode, aborted-meant, aborted-tied}
use Rattle.tx_machine.proofs.MeantEnds.{index-there}

-- ---- lists

abbrev pub taking : ℕ → Claim
taking address = record { touch = None; mutex = Some address }

-- the first so many workers from u on, once another has claimed
abbrev spared_first : ℕ → Claim → ℕ → ℕ → List Worker → List Worker
spared_first t claim zero u ws = ws
spared_first t claim (suc n) u [] = []
spared_first t claim (suc n) u (w ∷ ws) = spared_if (nat_eq u t) claim w ∷ spared_first t claim n (suc u) ws

module _ (t : ℕ) (claim : Claim) where
  get-first : (n u : ℕ) (ws : List Worker) → slice_get (spared_first t claim n u ws) n ≡ slice_get ws n
  get-first zero u ws = refl
  get-first (suc n) u [] = refl
  get-first (suc n) u (w ∷ ws) = get-first n (suc u) ws

  one-more : (n u : ℕ) (ws : List Worker) (w : Worker) → slice_get ws n ≡ Some w
      → slice_set (spared_first t claim n u ws) n (spared_if (nat_eq (u + n) t) claim w) ≡ spared_first t claim (suc n) u ws
  one-more zero u [] w e = cc
  one-more zero u (v ∷ ws) w e =
      let none : u + zero ≡ u = omega arith in
      let same : v ≡ w = cc in
      ap (λ (m : ℕ). spared_if (nat_eq m t) claim w ∷ ws) none ∙ ap (λ (z : Worker). spared_if (nat_eq u t) claim z ∷ ws) (sym same)
  one-more (suc n) u [] w e = cc
  one-more (suc n) u (v ∷ ws) w e =
      let more : u + suc n ≡ suc u + n = omega arith in
      ap (λ (m : ℕ). spared_if (nat_eq u t) claim v ∷ slice_set (spared_first t claim n (suc u) ws) n (spared_if (nat_eq m t) claim w)) more
      ∙ ap (λ (rest : List Worker). spared_if (nat_eq u t) claim v ∷ rest) (one-more n (suc u) ws w e)

  all-first : (n u : ℕ) (ws : List Worker) → length ws ≤ n → spared_first t claim n u ws ≡ spared_but t claim u ws
  all-first zero u [] e = refl
  all-first zero u (w ∷ ws) e = absurd (omega (arith, e))
  all-first (suc n) u [] e = refl
  all-first (suc n) u (w ∷ ws) e = ap (λ (rest : List Worker). spared_if (nat_eq u t) claim w ∷ rest) (all-first n (suc u) ws (omega (arith, e)))

few-joined : (ws : List OwnParts) (xs : List (Option (Transaction (CallStack Frame)))) (ks : List WatchParts) → length (joined ws xs ks) ≤ length ws
few-joined [] xs ks = omega arith
few-joined (w ∷ ws) [] ks = omega arith
few-joined (w ∷ ws) (x ∷ xs) [] = omega arith
few-joined (w ∷ ws) (x ∷ xs) (k ∷ ks) = let rest = few-joined ws xs ks in omega (arith, rest)

-- ---- one of them

taken-in : (mode : runtime.Mode) (self : Bool) (address : ℕ) (w : OwnParts) (x : Option (Transaction (CallStack Frame))) (k : WatchParts)
    → aborted_if (not self && has k.watched address) (joined_one (in_mode mode w) x k) ≡ spared_if self (taking address) (joined_one (in_mode mode w) x k)
taken-in mode true address w x k = refl
taken-in Out false address w x k = by_test (has k.watched address)
  where
    by_test : (b : Bool) → aborted_if b (joined_one (in_mode Out w) x k) ≡ joined_one (in_mode Out w) x k
    by_test true = refl
    by_test false = refl
taken-in Plain false address w x k = by_test (has k.watched address)
  where
    by_test : (b : Bool) → aborted_if b (joined_one (in_mode Plain w) x k) ≡ joined_one (in_mode Plain w) x k
    by_test true = refl
    by_test false = refl
taken-in In false address w None k = by_test (has k.watched address)
  where
    by_test : (b : Bool) → aborted_if b (joined_one (in_mode In w) None k) ≡ joined_one (in_mode In w) None k
    by_test true = refl
    by_test false = refl
taken-in In false address w (Some tx) k = refl

aborted-count : (o : Option (Transaction (CallStack Frame))) (u : ℕ) (p : CoreParts) → length (aborted_as o Conflict u p).own ≡ length p.own
aborted-count None u p = refl
aborted-count (Some tx) u p = by_place (slice_get p.own u)
  where
    by_place : (o : Option OwnParts) → length (option_map_or (λ (w : OwnParts). slice_set p.own u (once_undone Conflict tx.kept w)) o p.own) ≡ length p.own
    by_place None = refl
    by_place (Some w) = length-set p.own u (once_undone Conflict tx.kept w)

watcher-count : (b : Bool) (u : ℕ) (p : CoreParts) → length (watcher_if b u p).own ≡ length p.own
watcher-count true u p = aborted-count (thread p.rtm u) u p
watcher-count false u p = refl

module _ (p : CoreParts) (u : ℕ) (w : OwnParts) (x : Option (Transaction (CallStack Frame))) (k : WatchParts) (at : StandsAt p u w x k) (ups : List Upset) where
  watcher-by : (b : Bool) → state_of (watcher_if b u p) ups ≡ with_worker (state_of p ups) u (aborted_if b (joined_one w x k))
  watcher-by true = aborted-meant p u w x k at ups Conflict
  watcher-by false = sym (stays p u w x k at ups)

  watcher-tied : (b : Bool) → IsTied p → IsTied (watcher_if b u p)
  watcher-tied true tied = aborted-tied p u w x k at ups Conflict tied
  watcher-tied false tied = tied

  watcher-meant : (t address : ℕ) → state_of (watcher_if (watches_other p t address u) u p) ups
      ≡ with_worker (state_of p ups) u (spared_if (nat_eq u t) (taking address) (joined_one w x k))
  watcher-meant t address = watcher-by (watches_other p t address u)
      ∙ ap (λ (j : WatchParts). with_worker (state_of p ups) u (aborted_if (not (nat_eq u t) && has j.watched address) (joined_one w x k)))
      (index-there p.watches u k nothing_watched at.watching)
      ∙ ap (λ (v : Worker). with_worker (state_of p ups) u v) (taken-in w.words.mode (nat_eq u t) address w x k)

-- ---- all of them

module _ (p : CoreParts) (t address : ℕ) (ups : List Upset) where
  -- the first so many are done
  record AreTaken (n : ℕ) : Type 0 where
    meant : state_of (watchers_aborted n t address p) ups ≡ record (state_of p ups) { workers = spared_first t (taking address) n 0 (state_of p ups).workers }
    tied : IsTied (watchers_aborted n t address p)
    count : length (watchers_aborted n t address p).own ≡ length p.own

  more-taken : (n : ℕ) → n < length p.own → AreTaken n → AreTaken (suc n)
  more-taken n less so =
      let q : CoreParts = watchers_aborted n t address p in
      let one : IsThere q.own n = there-within q.own n (subst (λ (m : ℕ). n < m) (sym so.count) less) in
      let f : IsFound q n one.one = found q n one.one so.tied one.there in
      let v : Worker = joined_one one.one f.tx f.watch in
      let there : slice_get (state_of p ups).workers n ≡ Some v =
      sym (get-first t (taking address) n 0 (state_of p ups).workers) ∙ ap (λ (s : State). slice_get s.workers n) (sym so.meant)
      ∙ worker-is q n one.one f.tx f.watch f.stands ups in
      record {
        meant = watcher-meant q n one.one f.tx f.watch f.stands ups t address
            ∙ ap (λ (s : State). with_worker s n (spared_if (nat_eq n t) (taking address) v)) so.meant
            ∙ ap (λ (m : ℕ). with_worker (record (state_of p ups) { workers = spared_first t (taking address) n 0 (state_of p ups).workers }) n
            (spared_if (nat_eq m t) (taking address) v)) (none_more n)
            ∙ ap (λ (ws : List Worker). record (state_of p ups) { workers = ws }) (one-more t (taking address) n 0 (state_of p ups).workers v there);
        tied = watcher-tied q n one.one f.tx f.watch f.stands ups (watches_other q t address n) so.tied;
        count = watcher-count (watches_other q t address n) n q ∙ so.count;
      }
    where
      none_more : (n : ℕ) → n ≡ 0 + n
      none_more n = omega arith

  all-taken : (n : ℕ) → n ≤ length p.own → IsTied p → AreTaken n
  all-taken zero few tied = record { meant = refl; tied = tied; count = refl }
  all-taken (suc n) few tied = more-taken n (omega (arith, few)) (all-taken n (omega (arith, few)) tied)

  pub taken-tied : IsTied p → IsTied (core_taken address t p)
  taken-tied tied = (all-taken (length p.own) (omega arith) tied).tied

  pub taken-meant : (w : OwnParts) (x : Option (Transaction (CallStack Frame))) (k : WatchParts) → StandsAt p t w x k → IsTied p
      → state_of (core_taken address t p) ups
      ≡ record (state_of p ups) { workers = slice_set (map (spared (taking address)) (state_of p ups).workers) t (joined_one w x k) }
  taken-meant w x k at tied =
      let ws : List Worker = (state_of p ups).workers in
      (all-taken (length p.own) (omega arith) tied).meant
      ∙ ap (λ (vs : List Worker). record (state_of p ups) { workers = vs })
      (all-first t (taking address) (length p.own) 0 ws (few-joined p.own p.rtm.threads p.watches))
      ∙ ap (λ (vs : List Worker). record (state_of p ups) { workers = vs }) (stays-spared t (taking address) ws (joined_one w x k) (worker-is p t w x k at ups))
