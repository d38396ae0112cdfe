-- What is known after a call that may find no memory.
use Rattle.std.proofs.Common.{◌≡◌, Result, Ok, Err, sym, subst}
use Rattle.std.specs.Prelude.{OnOk, OnErr}

module _ {A E : Type 0} where
  pub one-ok : {P Q : Type 0} (r : Result A E) → (P → Q) → OnOk r P → OnOk r Q
  one-ok (Ok a) f p = f p
  one-ok (Err e) f p = p

  pub both-ok : {P Q R : Type 0} (r : Result A E) → (P → Q → R) → OnOk r P → OnOk r Q → OnOk r R
  both-ok (Ok a) f p q = f p q
  both-ok (Err e) f p q = p

  -- what holds before and after holds either way
  pub either-way : {X : Type 0} (r : Result A E) (P : X → Type 0) (old next new : X) → OnOk r (new ≡ next) → OnErr r (new ≡ old) → P old → P next → P new
  either-way (Ok a) P old next new e f before after = subst P (sym e) after
  either-way (Err x) P old next new e f before after = subst P (sym f) before
