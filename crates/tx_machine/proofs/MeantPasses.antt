-- A thread that passes its instruction, counts work or begins a transaction is that of the definitions.
use Rattle.std.proofs.Common.{ℕ, suc, ◌≡◌, ◌∙◌, Bool, true, false, List, [], Option, Some, None, refl, ap, sym, subst}
use Rattle.std.specs.Prelude.{nat_lt}
use Rattle.std.specs.Option.{option_map_or}
use Rattle.process.specs.declared.state.CallStack.{CallStack}
use Rattle.process.specs.declared.state.Thread.{Thread}
use Rattle.process.specs.declared.state.Thread.TheVariants.{Running}
use Rattle.process.specs.State.{in_frame}
use Rattle.hard_frames.specs.declared.state.Frame.{Frame}
use Rattle.hard_frames.specs.Frames.{passed}
use Rattle.elide.specs.Watches.{WatchParts, nothing_watched}
use Rattle.rtm_core.specs.Footprint.{nothing_touched}
use Rattle.rtm_core.specs.Transactions.{Transaction}
use Rattle.tx_runtime.specs.declared.words.Mode as runtime
use Rattle.tx_runtime.specs.declared.words.Mode.TheVariants.{Out, In, Plain}
use Rattle.tx_runtime.specs.Words as words
use Rattle.tx_runtime.specs.Words.{tries, begin_if, begin_act}
use Rattle.hard_meaning.specs.State.{Worker, Upset}
use Rattle.hard_meaning.specs.Effects.{with_worker}
use Rattle.hard_meaning.specs.Runtime as meaning
use Rattle.hard_meaning.specs.Turns.{onward}
use Rattle.tx_machine.specs.Own.{OwnParts, passed_thread, once_passed, once_ticked, begun_as, once_begun, kept_by, kept_thread}
use Rattle.tx_machine.specs.Joined.{joined_one, is_in}
use Rattle.tx_machine.specs.Core.{CoreParts, with_own, begun_with, kept_in, core_begun}
use Rattle.tx_machine.specs.Meant.{state_of, IsTied, StandsAt}
use Rattle.tx_machine.proofs.Meant.{own-meant, own-tied}
use Rattle.tx_machine.proofs.MeantAborts.{in_mode, all-meant, all-tied}

-- ---- another thread in a worker

abbrev pub with_thread : (Thread Frame → Thread Frame) → OwnParts → OwnParts
with_thread g w = record w { thread = g w.thread }

thread-in : (mode : runtime.Mode) (g : Thread Frame → Thread Frame) (w : OwnParts) (x : Option (Transaction (CallStack Frame))) (k : WatchParts)
    → joined_one (with_thread g (in_mode mode w)) x k ≡ record (joined_one (in_mode mode w) x k) { thread = g w.thread }
thread-in Out g w x k = refl
thread-in Plain g w x k = refl
thread-in In g w None k = refl
thread-in In g w (Some tx) k = refl

pub thread-joined : (g : Thread Frame → Thread Frame) (w : OwnParts) (x : Option (Transaction (CallStack Frame))) (k : WatchParts)
    → joined_one (with_thread g w) x k ≡ record (joined_one w x k) { thread = g w.thread }
thread-joined g w x k = thread-in w.words.mode g w x k

ticked-in : (mode : runtime.Mode) (n : ℕ) (w : OwnParts) (x : Option (Transaction (CallStack Frame))) (k : WatchParts)
    → joined_one (once_ticked n (in_mode mode w)) x k ≡ meaning.ticked n (record (joined_one (in_mode mode w) x k) { thread = passed_thread w.thread })
ticked-in Out n w x k = refl
ticked-in Plain n w x k = refl
ticked-in In n w None k = refl
ticked-in In n w (Some tx) k = refl

module _ (p : CoreParts) (t : ℕ) (w : OwnParts) (x : Option (Transaction (CallStack Frame))) (k : WatchParts) (at : StandsAt p t w x k) (ups : List Upset) where
  pub thread-meant : (g : Thread Frame → Thread Frame)
      → state_of (with_own t (with_thread g) p) ups ≡ with_worker (state_of p ups) t (record (joined_one w x k) { thread = g w.thread })
  thread-meant g = own-meant p t w x k at ups (with_thread g) ∙ ap (λ (v : Worker). with_worker (state_of p ups) t v) (thread-joined g w x k)

  pub thread-tied : (g : Thread Frame → Thread Frame) → IsTied p → IsTied (with_own t (with_thread g) p)
  thread-tied g tied = own-tied p t w x k at ups (with_thread g) refl tied

  pub ticked-tied : (n : ℕ) → IsTied p → IsTied (with_own t (once_ticked n) p)
  ticked-tied n tied = own-tied p t w x k at ups (once_ticked n) refl tied

  -- where it runs
  module _ (stack : CallStack Frame) (runs : w.thread ≡ Running stack) where
    pub passed-meant : state_of (with_own t once_passed p) ups ≡ with_worker (state_of p ups) t (onward (joined_one w x k) stack)
    passed-meant = thread-meant passed_thread
        ∙ ap (λ (th : Thread Frame). with_worker (state_of p ups) t (record (joined_one w x k) { thread = passed_thread th })) runs

    pub ticked-meant : (n : ℕ) → state_of (with_own t (once_ticked n) p) ups ≡ with_worker (state_of p ups) t (meaning.ticked n (onward (joined_one w x k) stack))
    ticked-meant n = own-meant p t w x k at ups (once_ticked n)
        ∙ ap (λ (v : Worker). with_worker (state_of p ups) t v) (ticked-in w.words.mode n w x k)
        ∙ ap (λ (th : Thread Frame). with_worker (state_of p ups) t (meaning.ticked n (record (joined_one w x k) { thread = passed_thread th }))) runs

  pub passed-tied : IsTied p → IsTied (with_own t once_passed p)
  passed-tied tied = thread-tied passed_thread tied

-- ---- begin

-- a thread that runs, in a mode of the runtime
abbrev running : runtime.Mode → CallStack Frame → OwnParts → OwnParts
running mode stack w = record w { thread = Running stack; words = record w.words { mode = mode } }

abbrev taken : CallStack Frame → OwnParts → OwnParts
taken stack w = record w {
  thread = in_frame stack (passed stack.frame);
  words = words.begun_if true (record w.words { mode = Out });
  begun = suc w.begun;
  pending = 0;
  struck = [];
}

abbrev given_up : CallStack Frame → OwnParts → OwnParts
given_up stack w = record w { thread = in_frame stack (passed stack.frame); words = words.begun_if false (record w.words { mode = Out }) }

taken-is : (stack : CallStack Frame) (w : OwnParts) → nat_lt w.words.attempts tries ≡ true → once_begun (running Out stack w) ≡ taken stack w
taken-is stack w e = ap (λ (b : Bool). once_passed (begun_as (begin_if b) (running Out stack w))) e
    ∙ ap (λ (b : Bool). record (taken stack w) { words = words.begun_if b (record w.words { mode = Out }) }) e

given-up-is : (stack : CallStack Frame) (w : OwnParts) → nat_lt w.words.attempts tries ≡ false → once_begun (running Out stack w) ≡ given_up stack w
given-up-is stack w e = ap (λ (b : Bool). once_passed (begun_as (begin_if b) (running Out stack w))) e
    ∙ ap (λ (b : Bool). record (given_up stack w) { words = words.begun_if b (record w.words { mode = Out }) }) e

abbrev opened : CallStack Frame → Option (Transaction (CallStack Frame))
opened stack = Some (record { kept = stack; footprint = nothing_touched })

module _ (p : CoreParts) (t : ℕ) (ups : List Upset) (stack : CallStack Frame) (x : Option (Transaction (CallStack Frame))) (k : WatchParts) where
  kept-is : (w : OwnParts) → StandsAt p t w x k → kept_in p t ≡ kept_thread w.thread w
  kept-is w at = ap (λ (o : Option OwnParts). option_map_or (λ (v : OwnParts). kept_thread v.thread v) o None) at.made

  abbrev IsBegun : OwnParts → Type 0
  IsBegun w = StandsAt p t w x k → state_of (core_begun t p) ups ≡ with_worker (state_of p ups) t (meaning.begun stack (onward (joined_one w x k) stack) (joined_one w x k).mode)

  begun-taken : (w : OwnParts) → nat_lt w.words.attempts tries ≡ true → IsBegun (running Out stack w)
  begun-taken w e at =
      let v : OwnParts = running Out stack w in
      let kept : kept_in p t ≡ Some stack = kept-is v at ∙ ap (λ (b : Bool). kept_by (begin_if b) stack) e in
      ap (λ (o : Option (CallStack Frame)). state_of (begun_with o t p) ups) kept
      ∙ all-meant p t v x k at ups once_begun (opened stack) nothing_watched
      ∙ ap (λ (u : OwnParts). with_worker (state_of p ups) t (joined_one u (opened stack) nothing_watched)) (taken-is stack w e)
      ∙ ap (λ (b : Bool). with_worker (state_of p ups) t (meaning.begun_if b stack (onward (joined_one v x k) stack))) (sym e)

  begun-given-up : (w : OwnParts) → nat_lt w.words.attempts tries ≡ false → IsBegun (running Out stack w)
  begun-given-up w e at =
      let v : OwnParts = running Out stack w in
      let kept : kept_in p t ≡ None = kept-is v at ∙ ap (λ (b : Bool). kept_by (begin_if b) stack) e in
      ap (λ (o : Option (CallStack Frame)). state_of (begun_with o t p) ups) kept
      ∙ own-meant p t v x k at ups once_begun
      ∙ ap (λ (u : OwnParts). with_worker (state_of p ups) t (joined_one u x k)) (given-up-is stack w e)
      ∙ ap (λ (b : Bool). with_worker (state_of p ups) t (meaning.begun_if b stack (onward (joined_one v x k) stack))) (sym e)

  begun-by : (w : OwnParts) (b : Bool) → nat_lt w.words.attempts tries ≡ b → IsBegun (running Out stack w)
  begun-by w true e at = begun-taken w e at
  begun-by w false e at = begun-given-up w e at

  begun-plain : (w : OwnParts) → IsBegun (running Plain stack w)
  begun-plain w at = ap (λ (o : Option (CallStack Frame)). state_of (begun_with o t p) ups) (kept-is (running Plain stack w) at)
      ∙ own-meant p t (running Plain stack w) x k at ups once_begun

  abbrev IsTiedBegun : OwnParts → Type 0
  IsTiedBegun w = StandsAt p t w x k → IsTied p → IsTied (core_begun t p)

  tied-by : (w : OwnParts) (b : Bool) → nat_lt w.words.attempts tries ≡ b → IsTiedBegun (running Out stack w)
  tied-by w true e at tied =
      let v : OwnParts = running Out stack w in
      let kept : kept_in p t ≡ Some stack = kept-is v at ∙ ap (λ (b : Bool). kept_by (begin_if b) stack) e in
      let mode : true ≡ is_in (once_begun v).words.mode = ap (λ (u : OwnParts). is_in u.words.mode) (sym (taken-is stack w e)) in
      subst (λ (o : Option (CallStack Frame)). IsTied (begun_with o t p)) (sym kept) (all-tied p t v x k at ups once_begun (opened stack) nothing_watched mode tied)
  tied-by w false e at tied =
      let v : OwnParts = running Out stack w in
      let kept : kept_in p t ≡ None = kept-is v at ∙ ap (λ (b : Bool). kept_by (begin_if b) stack) e in
      let mode : is_in (once_begun v).words.mode ≡ false = ap (λ (u : OwnParts). is_in u.words.mode) (given-up-is stack w e) in
      subst (λ (o : Option (CallStack Frame)). IsTied (begun_with o t p)) (sym kept) (own-tied p t v x k at ups once_begun mode tied)

  tied-plain : (w : OwnParts) → IsTiedBegun (running Plain stack w)
  tied-plain w at tied = subst (λ (o : Option (CallStack Frame)). IsTied (begun_with o t p)) (sym (kept-is (running Plain stack w) at))
      (own-tied p t (running Plain stack w) x k at ups once_begun refl tied)

module _ (p : CoreParts) (t : ℕ) (ups : List Upset) (stack : CallStack Frame) (k : WatchParts) where
  begun-in : (w : OwnParts) (x : Option (Transaction (CallStack Frame))) → IsBegun p t ups stack x k (running In stack w)
  begun-in w None at = let e = at.tied in cc
  begun-in w (Some tx) at = ap (λ (o : Option (CallStack Frame)). state_of (begun_with o t p) ups) (kept-is p t ups stack (Some tx) k (running In stack w) at)
      ∙ own-meant p t (running In stack w) (Some tx) k at ups once_begun

  tied-in : (w : OwnParts) (x : Option (Transaction (CallStack Frame))) → IsTiedBegun p t ups stack x k (running In stack w)
  tied-in w x at tied = subst (λ (o : Option (CallStack Frame)). IsTied (begun_with o t p)) (sym (kept-is p t ups stack x k (running In stack w) at))
      (own-tied p t (running In stack w) x k at ups once_begun refl tied)

  begun-mode : (mode : runtime.Mode) (w : OwnParts) (x : Option (Transaction (CallStack Frame))) → IsBegun p t ups stack x k (running mode stack w)
  begun-mode Out w x = begun-by p t ups stack x k w (nat_lt w.words.attempts tries) refl
  begun-mode In w x = begun-in w x
  begun-mode Plain w x = begun-plain p t ups stack x k w

  tied-mode : (mode : runtime.Mode) (w : OwnParts) (x : Option (Transaction (CallStack Frame))) → IsTiedBegun p t ups stack x k (running mode stack w)
  tied-mode Out w x = tied-by p t ups stack x k w (nat_lt w.words.attempts tries) refl
  tied-mode In w x = tied-in w x
  tied-mode Plain w x = tied-plain p t ups stack x k w

module _ (p : CoreParts) (t : ℕ) (w : OwnParts) (x : Option (Transaction (CallStack Frame))) (k : WatchParts) (at : StandsAt p t w x k) (ups : List Upset)
    (stack : CallStack Frame) (runs : w.thread ≡ Running stack) where
  runs-is : running w.words.mode stack w ≡ w
  runs-is = ap (λ (th : Thread Frame). record w { thread = th }) (sym runs)

  pub begun-meant : state_of (core_begun t p) ups
      ≡ with_worker (state_of p ups) t (meaning.begun stack (onward (joined_one w x k) stack) (joined_one w x k).mode)
  begun-meant = subst (λ (v : OwnParts). IsBegun p t ups stack x k v) runs-is (begun-mode p t ups stack k w.words.mode w x) at

  pub begun-tied : IsTied p → IsTied (core_begun t p)
  begun-tied tied = subst (λ (v : OwnParts). IsTiedBegun p t ups stack x k v) runs-is (tied-mode p t ups stack k w.words.mode w x) at tied
