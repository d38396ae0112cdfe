-- Names are compared byte by byte, and a frame that waits is struck where it stands.
use Rattle.std.proofs.Common.{ℕ, zero, suc, ◌+◌, ◌<◌, ◌≡◌, ◌∙◌, Bool, true, false, not, ◌&&◌, cond, List, [], ◌∷◌, length, Some, None, Result, Ok, Err, refl, ap, sym, subst, arith}
use Rattle.std.specs.Prelude.{nat_eq, nat_lt, slice_get, OnOk, OnErr}
use Rattle.std.specs.List.{position_or_len}
use Rattle.std.specs.Str.{bytes_eq}
use Rattle.std.proofs.Math.ListN.{set}
use Rattle.std.proofs.lemmas.List.Recursion.{is_position_or_len}
use Rattle.ir_core.specs.Module.{FuncParts}
use Rattle.ir_core.specs.Names.{number_of}
use Rattle.process.specs.declared.state.CallStack.{CallStack}
use Rattle.sched_file.specs.declared.entries.UpsetSpec.{UpsetSpec}
use Rattle.hard_ir.specs.Hardened.{HardParts}
use Rattle.hard_frames.specs.declared.state.Frame.{Frame}
use Rattle.hard_meaning.specs.Strikes.{same_name, named_in, frame_at, with_frame}
use Rattle.std.proofs.lemmas.List.{set-set}
use Rattle.std.proofs.lemmas.Option.{slice_get_within}
use Rattle.tx_machine.specs.Struck.{found_in, once_struck, once_struck_at, stack_struck}

-- ---- names

same-name : (xs ys : List ℕ) → same_name xs ys ≡ bytes_eq xs ys
same-name [] [] = refl
same-name [] (y ∷ ys) = refl
same-name (x ∷ xs) [] = refl
same-name (x ∷ xs) (y ∷ ys) = ap (λ (b : Bool). nat_eq x y && b) (same-name xs ys)

first-or : (b : Bool) (n : ℕ) → cond (not b) (1 + n) 0 ≡ cond b 0 (1 + n)
first-or true n = refl
first-or false n = refl

same-number : (name : List ℕ) (names : List (List ℕ)) → position_or_len (same_name name) names ≡ position_or_len (bytes_eq name) names
same-number name = is_position_or_len (position_or_len (same_name name)) (bytes_eq name) refl each
  where
    each : (x : List ℕ) (xs : List (List ℕ))
        → position_or_len (same_name name) (x ∷ xs) ≡ cond (bytes_eq name x) 0 (1 + position_or_len (same_name name) xs)
    each x xs = subst (λ (b : Bool). cond (not (same_name name x)) (1 + position_or_len (same_name name) xs) 0 ≡ cond b 0 (1 + position_or_len (same_name name) xs))
        (same-name name x) (first-or (same_name name x) (position_or_len (same_name name) xs))

pub named-is : (f : FuncParts) (name : List ℕ) → number_of f.names name ≡ named_in f name
named-is f name = ap (λ (n : ℕ). cond (nat_lt n (length f.names)) (Some n) None) (sym (same-number name f.names))

-- ---- frames that wait

module _ {A : Type 0} where
  get-set : (xs : List A) (d : ℕ) (x y : A) → d < length xs → slice_get (set xs d x) d ≡ Some y → y ≡ x
  get-set [] d x y h e = absurd (omega (arith, h))
  get-set (z ∷ xs) zero x y h e = cc
  get-set (z ∷ xs) (suc d) x y h e = get-set xs d x y (omega (arith, h)) e

module _ (h : HardParts) (upset : UpsetSpec) (stack : CallStack Frame) (d : ℕ) (deep : d + 1 ≡ upset.depth) (waits : Frame)
    (there : slice_get stack.callers d ≡ Some waits) where
  depth-is : upset.depth ≡ suc d
  depth-is = omega (arith, deep)

  pub frame-is : frame_at stack upset.depth ≡ Some waits
  frame-is = ap (frame_at stack) depth-is ∙ there

  caller-is : (frame : Frame) → with_frame stack upset.depth frame ≡ record stack { callers = set stack.callers d frame }
  caller-is frame = ap (λ (k : ℕ). with_frame stack k frame) depth-is

  pub caller-struck : stack_struck h upset stack ≡ record stack { callers = set stack.callers d (once_struck upset (found_in h upset waits) waits) }
  caller-struck = ap (once_struck_at h upset stack) frame-is ∙ caller-is (once_struck upset (found_in h upset waits) waits)

-- ---- there and back

-- the running frame changed places with one that waits, which became another, and back
module _ (cs : List Frame) (d : ℕ) (running waits after : Frame) (swapped : List Frame) (last : List Frame) (front : Frame)
    (there : slice_get cs d ≡ Some waits) (first : swapped ≡ set cs d running) (second : last ≡ set swapped d after)
    (again : slice_get swapped d ≡ Some front) where
  pub back-callers : last ≡ set cs d after
  back-callers = second ∙ ap (λ (l : List Frame). set l d after) first ∙ set-set cs d running after

  pub back-front : front ≡ running
  back-front = get-set cs d running front (slice_get_within cs d waits there) (sym (ap (λ (l : List Frame). slice_get l d) first) ∙ again)

pub set-own : (cs : List Frame) (d : ℕ) (waits : Frame) → slice_get cs d ≡ Some waits → set cs d waits ≡ cs
set-own [] d waits e = refl
set-own (z ∷ cs) zero waits e = let same : z ≡ waits = cc in ap (λ (f : Frame). f ∷ cs) (sym same)
set-own (z ∷ cs) (suc d) waits e = ap (λ (l : List Frame). z ∷ l) (set-own cs d waits e)

pub on-ok : {A E : Type 0} {P Q : Type 0} (r : Result A E) → (P → Q) → OnOk r P → OnOk r Q
on-ok (Ok x) f p = f p
on-ok (Err e) f p = p

pub on-err : {A E : Type 0} {P Q : Type 0} (r : Result A E) → (P → Q) → OnErr r P → OnErr r Q
on-err (Ok x) f p = p
on-err (Err e) f p = f p

module _ (h : HardParts) (upset : UpsetSpec) (stack : CallStack Frame) (d : ℕ) (waits after : Frame) (swapped last : List Frame) (front : Frame)
    (there : slice_get stack.callers d ≡ Some waits) (first : swapped ≡ set stack.callers d stack.frame) (second : last ≡ set swapped d after)
    (again : slice_get swapped d ≡ Some front) where
  is-back : record { mark = stack.mark; frame = front; callers = last } ≡ record stack { callers = set stack.callers d after }
  is-back =
      let with_frame_ : Frame → CallStack Frame = λ frame. record { mark = stack.mark; frame = frame; callers = last } in
      let with_callers : List Frame → CallStack Frame = λ callers. record stack { callers = callers } in
      ap with_frame_ (back-front stack.callers d stack.frame waits after swapped last front there first second again)
      ∙ ap with_callers (back-callers stack.callers d stack.frame waits after swapped last front there first second again)

  pub back-struck : d + 1 ≡ upset.depth → after ≡ once_struck upset (found_in h upset waits) waits
      → record { mark = stack.mark; frame = front; callers = last } ≡ stack_struck h upset stack
  back-struck deep e =
      let with_caller : Frame → CallStack Frame = λ frame. record stack { callers = set stack.callers d frame } in
      is-back ∙ ap with_caller e ∙ sym (caller-struck h upset stack d deep waits there)

  pub back-same : after ≡ waits → record { mark = stack.mark; frame = front; callers = last } ≡ stack
  back-same e =
      let with_caller : Frame → CallStack Frame = λ frame. record stack { callers = set stack.callers d frame } in
      let with_callers : List Frame → CallStack Frame = λ callers. record stack { callers = callers } in
      is-back ∙ ap with_caller e ∙ ap with_callers (set-own stack.callers d waits there)
