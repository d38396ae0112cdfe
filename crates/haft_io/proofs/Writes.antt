-- Writes one behind the other append what they append together.
use Rattle.std.proofs.Common.{◌≡◌, ℕ, ◌+◌, Option, Some, None, List, ◌++◌, take, drop, refl, append_assoc}
use Rattle.std.proofs.Math.Seq.{take-add}
use Rattle.std.specs.Option.{option_map}
use Rattle.haft_io.specs.Device.{Puts}

both_appended : (old mid : Option (List ℕ)) (bytes more now : List ℕ) → Puts old bytes mid
    → option_map (λ before. before ++ more) mid ≡ Some now
    → option_map (λ before. before ++ (bytes ++ more)) old ≡ Some now
both_appended old None bytes more now first second = cc
both_appended None (Some m) bytes more now first second = let told = first.appended m refl in cc
both_appended (Some o) (Some m) bytes more now first second =
    let told = first.appended m refl in
    let joined : (o ++ bytes) ++ more ≡ o ++ (bytes ++ more) = append_assoc o bytes more in cc

pub Puts-append : (old mid new : Option (List ℕ)) (bytes more : List ℕ) → Puts old bytes mid → Puts mid more new
    → Puts old (bytes ++ more) new
Puts-append old mid new bytes more first second =
    record { appended = λ now told. both_appended old mid bytes more now first (second.appended now told) }

-- the next n of the bytes behind the first i
pub Puts-take : (old mid new : Option (List ℕ)) (bytes : List ℕ) (i n : ℕ) → Puts old (take i bytes) mid
    → Puts mid (take n (drop i bytes)) new → Puts old (take (i + n) bytes) new
Puts-take old mid new bytes i n first second =
    rw take-add (Puts-append old mid new (take i bytes) (take n (drop i bytes)) first second)
