-- What is known of values that may not be there.
use Rattle.std.proofs.Common.{◌≡◌, Option, Some, ◌∙◌}

-- what was found is what was asked for
pub same_some : {X : Type 0} (x y : X) (found : Option X) → Some x ≡ found → found ≡ Some y → x ≡ y
same_some x y found e f = let same : Some x ≡ Some y = e ∙ f in cc
