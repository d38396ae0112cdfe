-- The samples that are shown to be good are accepted.
use Rattle.std.proofs.Common.{ℕ, zero, suc, ◌≡◌, ◌∙◌, ◌||◌, List, [], ◌∷◌, Option, Some, None, slice_get, refl, true, false, ap, subst, Bool, codes}
use Rattle.std.specs.List.{list_all}
use Rattle.std.specs.Option.{option_or}
use Rattle.ir_core.proofs.Lengths.{both_true}
use Rattle.ir_core.specs.declared.types.Ty as ty
use Rattle.ir_core.specs.Module.{ModuleParts, FuncParts}
use Rattle.ir_flow.specs.Paths.{assigned_before}
use Rattle.ir_flow.specs.Uses.{UseAssigned, AllAssigned, uses_of}
use Rattle.ir_calls.specs.Calls.{calls_keep}
use Rattle.ir_types.specs.Types.{types_keep}
use Rattle.ir_check.specs.Flows.{OfAll, PhisFit}
use Rattle.ir_check.specs.declared.fault.Kind.TheVariants.{BadTerminator, BadCall, TypeMismatch}
use Rattle.ir_check.specs.Faults.{Fault, line_fault, duplicate_fault, unknown_fault, limit_fault, rule_fault, shape_fault, IsAccepted}
use Rattle.ir_check.specs.Blocks.{terminators_keep}
use Rattle.hard_laws.proofs.Scalars.{int-places, ptr-places}
use Rattle.tx_simulation.proofs.PlainTypes.{void-places, int-fits, ptr-fits, void-fits, same-int, same-ptr, same-void, int-not-void}
use Rattle.hard_meaning.specs.Samples.{sum, main_with, block, sum_of, out, register, returned}
use Rattle.tx_simulation.specs.Samples.{counted, counting, counting_twice}

-- ---- the parts of acceptance

none-of : (m : ModuleParts) → duplicate_fault m ≡ None → unknown_fault m ≡ None → limit_fault m ≡ None → rule_fault m BadTerminator terminators_keep ≡ None
    → rule_fault m BadCall (calls_keep m) ≡ None → rule_fault m TypeMismatch (types_keep m) ≡ None → shape_fault m ≡ None → line_fault m ≡ None
none-of m duplicates unknowns limits ends calls kinds shapes = rw (duplicates, unknowns, limits, ends, calls, kinds, shapes) refl

module _ {A : Type 0} (P : A → Type 0) (test : A → Bool) (sound : (x : A) → test x ≡ true → P x) where
  tested : (xs : List A) → list_all test xs ≡ true → (place : ℕ) (x : A) → slice_get xs place ≡ Some x → P x
  tested [] all place x at = absurd cc
  tested (y ∷ ys) all zero x at = let same : y ≡ x = cc in subst P same (sound y (both_true (test y) (list_all test ys) all).0)
  tested (y ∷ ys) all (suc place) x at = tested ys (both_true (test y) (list_all test ys) all).1 place x at

-- what each instruction reads is assigned by an earlier one of its block
all-assigned : (f : FuncParts) → list_all (λ u. assigned_before f u.at_block u.at_inst u.reg) (uses_of f) ≡ true → AllAssigned f
all-assigned f all = tested (UseAssigned f) (λ u. assigned_before f u.at_block u.at_inst u.reg) (λ u before path route. rw before refl) (uses_of f) all

-- what holds of each of one or two functions
one-function : (fact : FuncParts → Type 0) (f : FuncParts) → fact f → OfAll fact (f ∷ [])
one-function fact f holds zero g at = let same : f ≡ g = cc in subst fact same holds
one-function fact f holds (suc k) g at = absurd cc

two-functions : (fact : FuncParts → Type 0) (e f : FuncParts) → fact e → fact f → OfAll fact (e ∷ f ∷ [])
two-functions fact e f first second zero g at = let same : e ≡ g = cc in subst fact same first
two-functions fact e f first second (suc k) g at = one-function fact f second k g at

-- ---- the sum

sum-unknowns : unknown_fault sum ≡ None
sum-unknowns = simp (int-places, void-places)

sum-limits : limit_fault sum ≡ None
sum-limits = simp (int-fits, void-fits)

sum-calls : rule_fault sum BadCall (calls_keep sum) ≡ None
unfolding ty.out-Ty denote.Hole.Carrier.out
sum-calls = simp (same-int, same-void)

sum-kinds : rule_fault sum TypeMismatch (types_keep sum) ≡ None
unfolding ty.out-Ty denote.Hole.Carrier.out
sum-kinds = simp same-int

sum-shapes : shape_fault sum ≡ None
sum-shapes = simp same-int

abbrev sum_main : FuncParts
sum_main = main_with 1 (block 0 (sum_of ∷ out 0 (register 1) ∷ returned ∷ []) ∷ []) (codes "0" ∷ codes "a" ∷ [])

pub sum-accepted : IsAccepted sum
sum-accepted = record {
  lines = none-of sum refl sum-unknowns sum-limits refl sum-calls sum-kinds sum-shapes;
  phis = one-function PhisFit sum_main tt;
  uses = one-function AllAssigned sum_main (all-assigned sum_main refl);
}

-- ---- two threads

counted-duplicates : duplicate_fault counted ≡ None
counted-duplicates = refl

counted-unknowns : unknown_fault counted ≡ None
counted-unknowns = simp (int-places, ptr-places, void-places)

counted-limits : limit_fault counted ≡ None
counted-limits = simp (int-fits, ptr-fits, void-fits)

counted-calls : rule_fault counted BadCall (calls_keep counted) ≡ None
unfolding ty.out-Ty denote.Hole.Carrier.out
counted-calls = simp (same-int, same-ptr, same-void, int-not-void)

counted-kinds : rule_fault counted TypeMismatch (types_keep counted) ≡ None
unfolding ty.out-Ty denote.Hole.Carrier.out
counted-kinds = simp (same-int, same-ptr)

counted-shapes : shape_fault counted ≡ None
counted-shapes = simp same-int

pub counted-accepted : IsAccepted counted
counted-accepted = record {
  lines = none-of counted counted-duplicates counted-unknowns counted-limits refl counted-calls counted-kinds counted-shapes;
  phis = two-functions PhisFit counting counting_twice tt tt;
  uses = two-functions AllAssigned counting counting_twice (all-assigned counting refl) (all-assigned counting_twice refl);
}
