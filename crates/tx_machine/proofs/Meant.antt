-- Laws of the state that the code's parts stand for: a thread that stands there, and one that becomes another.
use Rattle.std.proofs.Common.{ℕ, zero, suc, ◌≡◌, ◌∙◌, ◌<◌, ◌≤◌, List, [], ◌∷◌, length, Option, Some, slice_get, slice_set, refl, ap, sym, subst, arith}
use Rattle.std.specs.Option.{is_some, option_map_or, option_flatten}
use Rattle.ir_layout.specs.Memory.{thread_limit}
use Rattle.process.specs.declared.state.CallStack.{CallStack}
use Rattle.hard_frames.specs.declared.state.Frame.{Frame}
use Rattle.elide.specs.Watches.{WatchParts}
use Rattle.rtm_core.specs.Transactions.{Transaction, thread}
use Rattle.hard_meaning.specs.State.{Worker, Upset}
use Rattle.hard_meaning.specs.Effects.{with_worker}
use Rattle.tx_machine.specs.Own.{OwnParts}
use Rattle.tx_machine.specs.Joined.{joined_one, is_in}
use Rattle.tx_machine.specs.Core.{CoreParts, own_with, with_own, is_open}
use Rattle.tx_machine.specs.Meant.{state_of, AreTied, IsTied, StandsAt}
use Rattle.tx_machine.proofs.Joined.{get-joined, own-joined, set-same}

-- ---- lists

pub length-set : {A : Type 0} (xs : List A) (t : ℕ) (x : A) → length (slice_set xs t x) ≡ length xs
length-set [] zero x = refl
length-set [] (suc t) x = refl
length-set (y ∷ xs) zero x = refl
length-set (y ∷ xs) (suc t) x = ap suc (length-set xs t x)

pub get-set : {A : Type 0} (xs : List A) (t : ℕ) (x y : A) → slice_get xs t ≡ Some y → slice_get (slice_set xs t x) t ≡ Some x
get-set [] zero x y e = cc
get-set [] (suc t) x y e = cc
get-set (z ∷ xs) zero x y e = refl
get-set (z ∷ xs) (suc t) x y e = get-set xs t x y e

pub set-set : {A : Type 0} (xs : List A) (t : ℕ) (x y : A) → slice_set (slice_set xs t x) t y ≡ slice_set xs t y
set-set [] zero x y = refl
set-set [] (suc t) x y = refl
set-set (z ∷ xs) zero x y = refl
set-set (z ∷ xs) (suc t) x y = ap (λ rest. z ∷ rest) (set-set xs t x y)

-- ---- what is tied

pub set-tied : (ws : List OwnParts) (xs : List (Option (Transaction (CallStack Frame)))) (t : ℕ) (v w : OwnParts) (x : Option (Transaction (CallStack Frame)))
    → slice_get ws t ≡ Some v → AreTied ws xs → is_some x ≡ is_in w.words.mode → AreTied (slice_set ws t w) (slice_set xs t x)
set-tied [] xs zero v w x e tied f = cc
set-tied [] xs (suc t) v w x e tied f = cc
set-tied (u ∷ ws) [] t v w x e tied f = absurd tied
set-tied (u ∷ ws) (y ∷ xs) zero v w x e tied f = (f, tied.1)
set-tied (u ∷ ws) (y ∷ xs) (suc t) v w x e tied f = (tied.0, set-tied ws xs t v w x e tied.1 f)

-- a thread that was made stands in all lists
pub record IsFound (p : CoreParts) (t : ℕ) (w : OwnParts) : Type 0 where
  pub tx : Option (Transaction (CallStack Frame))
  pub watch : WatchParts
  pub stands : StandsAt p t w tx watch

pub record IsOpenAt (xs : List (Option (Transaction (CallStack Frame)))) (t : ℕ) (w : OwnParts) : Type 0 where
  pub tx : Option (Transaction (CallStack Frame))
  pub there : slice_get xs t ≡ Some tx
  pub tied : is_some tx ≡ is_in w.words.mode

open-at : (ws : List OwnParts) (xs : List (Option (Transaction (CallStack Frame)))) (t : ℕ) (w : OwnParts) → slice_get ws t ≡ Some w → AreTied ws xs → IsOpenAt xs t w
open-at [] xs zero w e tied = cc
open-at [] xs (suc t) w e tied = cc
open-at (u ∷ ws) [] t w e tied = absurd tied
open-at (u ∷ ws) (y ∷ xs) zero w e tied =
    let same : u ≡ w = cc in
    record { tx = y; there = refl; tied = subst (λ (z : OwnParts). is_some y ≡ is_in z.words.mode) same tied.0 }
open-at (u ∷ ws) (y ∷ xs) (suc t) w e tied =
    let rest = open-at ws xs t w e tied.1 in
    record { tx = rest.tx; there = rest.there; tied = rest.tied }

pub record IsThere {A : Type 0} (xs : List A) (t : ℕ) : Type 0 where
  pub one : A
  pub there : slice_get xs t ≡ Some one

pub there-within : {A : Type 0} (xs : List A) (t : ℕ) → t < length xs → IsThere xs t
there-within [] t e = absurd (omega (arith, e))
there-within (x ∷ xs) zero e = record { one = x; there = refl }
there-within (x ∷ xs) (suc t) e = let rest = there-within xs t (omega (arith, e)) in record { one = rest.one; there = rest.there }

pub within-there : {A : Type 0} (xs : List A) (t : ℕ) (x : A) → slice_get xs t ≡ Some x → t < length xs
within-there [] zero x e = cc
within-there [] (suc t) x e = cc
within-there (y ∷ xs) zero x e = omega arith
within-there (y ∷ xs) (suc t) x e = let less = within-there xs t x e in omega (arith, less)

pub found : (p : CoreParts) (t : ℕ) (w : OwnParts) → IsTied p → slice_get p.own t ≡ Some w → IsFound p t w
found p t w tied e =
    let at = open-at p.own p.rtm.threads t w e tied.tied in
    let less = within-there p.own t w e in
    let few = tied.own in
    let many = tied.watches in
    let k = there-within p.watches t (omega (arith, less, few, many)) in
    record { tx = at.tx; watch = k.one; stands = record { made = e; open_there = at.there; watching = k.there; tied = at.tied } }

-- ---- one thread

module _ (p : CoreParts) (t : ℕ) (w : OwnParts) (x : Option (Transaction (CallStack Frame))) (k : WatchParts) (at : StandsAt p t w x k) (ups : List Upset) where
  pub thread-is : thread p.rtm t ≡ x
  thread-is = ap option_flatten at.open_there

  pub open-is : is_open p t ≡ is_some x
  open-is = ap is_some thread-is

  pub worker-is : slice_get (state_of p ups).workers t ≡ Some (joined_one w x k)
  worker-is = get-joined p.own p.rtm.threads p.watches t w x k at.made at.open_there at.watching

  pub own-is : (f : OwnParts → OwnParts) → own_with t f p.own ≡ slice_set p.own t (f w)
  own-is f = ap (λ (o : Option OwnParts). option_map_or (λ (v : OwnParts). slice_set p.own t (f v)) o p.own) at.made

  -- it stays
  pub stays : with_worker (state_of p ups) t (joined_one w x k) ≡ state_of p ups
  stays = ap (λ (ws : List Worker). record (state_of p ups) { workers = ws }) (set-same (state_of p ups).workers t (joined_one w x k) worker-is)

  -- it changes by itself
  pub own-meant : (f : OwnParts → OwnParts) → state_of (with_own t f p) ups ≡ with_worker (state_of p ups) t (joined_one (f w) x k)
  own-meant f = ap (λ (ws : List OwnParts). state_of (record p { own = ws }) ups) (own-is f)
      ∙ ap (λ (ws : List Worker). record (state_of p ups) { workers = ws }) (own-joined p.own p.rtm.threads p.watches t (f w) x k at.open_there at.watching)

  pub own-tied : (f : OwnParts → OwnParts) → is_in (f w).words.mode ≡ is_in w.words.mode → IsTied p → IsTied (with_own t f p)
  own-tied f e tied =
      let tied_with : AreTied (slice_set p.own t (f w)) p.rtm.threads =
      subst (λ (xs : List (Option (Transaction (CallStack Frame)))). AreTied (slice_set p.own t (f w)) xs) (set-same p.rtm.threads t x at.open_there)
      (set-tied p.own p.rtm.threads t w (f w) x at.made tied.tied (at.tied ∙ sym e)) in
      let long : length (slice_set p.own t (f w)) ≡ length p.own = length-set p.own t (f w) in
      subst (λ (ws : List OwnParts). IsTied (record p { own = ws })) (sym (own-is f))
      (record { threads = tied.threads; watches = tied.watches; own = subst (λ (n : ℕ). n ≤ thread_limit) (sym long) tied.own; tied = tied_with })

  -- the thread as it is then
  pub own-stands : (f : OwnParts → OwnParts) → is_in (f w).words.mode ≡ is_in w.words.mode → StandsAt (with_own t f p) t (f w) x k
  own-stands f e = record {
    made = ap (λ (ws : List OwnParts). slice_get ws t) (own-is f) ∙ get-set p.own t (f w) w at.made;
    open_there = at.open_there;
    watching = at.watching;
    tied = at.tied ∙ sym e;
  }
