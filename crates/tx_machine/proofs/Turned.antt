-- Small laws of the code's turns: what stays where a turn is told, where a thread is made, and where a transaction begins.
use Rattle.std.proofs.Common.{ℕ, zero, suc, ◌≡◌, ◌∙◌, ◌+◌, ◌<◌, ◌^◌, OnSome, Bool, true, false, List, [], ◌∷◌, ◌++◌, length, Option, Some, None, slice_get, refl, ap, sym, subst, arith}
use Rattle.std.specs.Option.{option_map, option_map_or}
use Rattle.ir_core.specs.declared.types.Loc.{Loc}
use Rattle.ir_core.specs.declared.values.Side.{Side}
use Rattle.process.specs.declared.state.CallStack.{CallStack}
use Rattle.process.specs.declared.state.Thread.{Thread}
use Rattle.process.specs.declared.state.Thread.TheVariants.{Running, Exiting, Ended}
use Rattle.process.specs.code.Threads.{CanPassAt}
use Rattle.process.specs.State.{new_thread}
use Rattle.tx_runtime.specs.declared.words.Mode.{Mode}
use Rattle.tx_runtime.specs.declared.words.Mode.TheVariants.{Out, In, Plain}
use Rattle.tx_runtime.specs.Words.{begin_from}
use Rattle.hard_frames.specs.declared.state.Frame.{Frame}
use Rattle.hard_frames.specs.Frames.{frames}
use Rattle.tx_machine.specs.Own.{OwnParts, new_own, kept_thread, kept_by}
use Rattle.tx_machine.specs.Joined.{is_in}
use Rattle.tx_machine.specs.Core.{CoreParts, is_open, CanPassIn, BeginsOutside, told_as, core_told, can_close}
use Rattle.tx_machine.specs.Meant.{IsTied}
use Rattle.tx_machine.specs.Turned.{core_called, core_started, core_unstarted}
use Rattle.tx_machine.proofs.Told.{take-front}
use Rattle.tx_machine.proofs.Meant.{found, open-is}

-- ---- a thread that is made stands after the others

pub get-before : {A : Type 0} (xs : List A) (x : A) (t : ℕ) → t < length xs → slice_get (xs ++ x ∷ []) t ≡ slice_get xs t
get-before [] x t less = absurd (omega (arith, less))
get-before (y ∷ xs) x zero less = refl
get-before (y ∷ xs) x (suc t) less = get-before xs x t (omega (arith, less))

pub started-passes : (n argument t : ℕ) (p : CoreParts) → t < length p.own → CanPassIn p t → CanPassIn (core_started n argument p) t
started-passes n argument t p less can =
    subst (λ (o : Option OwnParts). CanPassAt (λ frame. frame.index + 1 < 2 ^ 64) (option_map (λ (w : OwnParts). w.thread) o))
    (sym (get-before p.own (new_own (new_thread (frames p.program) (length p.own) n (argument ∷ []))) t less)) can

pub unstarted-started : (n argument : ℕ) (p : CoreParts) → core_unstarted (core_started n argument p) ≡ p
unstarted-started n argument p =
    ap (λ (ws : List OwnParts). record p { own = ws }) (take-front p.own (new_own (new_thread (frames p.program) (length p.own) n (argument ∷ []))))

-- ---- a call that is done watches nothing

pub called-watches : (retires : Bool) (target : Option (Side × Loc)) (n t : ℕ) (p : CoreParts) → (core_called retires target n t p).watches ≡ p.watches
called-watches false target n t p = refl
called-watches true target n t p = by_open (is_open p t)
  where
    by_open : (b : Bool) → (told_as b t p).watches ≡ p.watches
    by_open true = refl
    by_open false = refl

-- ---- a turn that is told keeps no transaction from its end

pub told-closes : (retires : Bool) (t : ℕ) (p : CoreParts) → can_close (core_told retires t p) t ≡ can_close p t
told-closes false t p = refl
told-closes true t p = by_open (is_open p t)
  where
    by_open : (b : Bool) → can_close (told_as b t p) t ≡ can_close p t
    by_open true = refl
    by_open false = refl

-- ---- a transaction begins where none is open

begins-out : (w : OwnParts) (stack : CallStack Frame) → kept_thread w.thread w ≡ Some stack → is_in w.words.mode ≡ false
begins-out w stack = by_thread w.thread
  where
    by_mode : (mode : Mode) (other : CallStack Frame) → kept_by (begin_from mode w.words) other ≡ Some stack → is_in mode ≡ false
    by_mode Out other e = refl
    by_mode In other e = cc
    by_mode Plain other e = refl

    by_thread : (th : Thread Frame) → kept_thread th w ≡ Some stack → is_in w.words.mode ≡ false
    by_thread (Running other) e = by_mode w.words.mode other e
    by_thread (Exiting n) e = cc
    by_thread Ended e = cc

pub begins-outside : (p : CoreParts) (t : ℕ) → IsTied p → BeginsOutside p t
begins-outside p t tied = by_place (slice_get p.own t) refl
  where
    by_place : (o : Option OwnParts) → slice_get p.own t ≡ o → BeginsOutside p t
    by_place None e =
        subst (λ (o : Option OwnParts). OnSome (option_map_or (λ (w : OwnParts). kept_thread w.thread w) o None) (is_open p t ≡ false)) (sym e) tt
    by_place (Some w) e =
        subst (λ (o : Option OwnParts). OnSome (option_map_or (λ (w : OwnParts). kept_thread w.thread w) o None) (is_open p t ≡ false)) (sym e)
        (by_kept (kept_thread w.thread w) refl)
      where
        by_kept : (kept : Option (CallStack Frame)) → kept_thread w.thread w ≡ kept → OnSome kept (is_open p t ≡ false)
        by_kept None f = tt
        by_kept (Some stack) f =
            let at = found p t w tied e in
            open-is p t w at.tx at.watch at.stands [] ∙ at.stands.tied ∙ begins-out w stack f
