-- One function more, of which phis and uses are looked at.
use Rattle.std.proofs.Common.{◌≡◌, ◌∙◌, sym, ℕ, ◌+◌, ◌<◌, ◌≤◌, inl, inr, length, List, Option, Some, None, subst, arith, refl, get_or}
use Rattle.std.proofs.Math.Nat.{eq-or-lt_of_le}
use Rattle.std.specs.Prelude.{slice_get}
use Rattle.std.specs.Option.{option_or}
use Rattle.std.proofs.lemmas.Option.{slice_get_within, slice_get_read}
use Rattle.ir_core.specs.declared.types.Loc.{Loc}
use Rattle.ir_core.specs.Module.{FuncParts}
use Rattle.ir_flow.specs.Uses.{AllAssigned, FirstUnassigned}
use Rattle.ir_check.specs.declared.flows.Unassigned.{Unassigned}
use Rattle.ir_check.specs.Flows.{Before, OfAll, IsFirstUse}

some-injective : {A : Type 0} {x y : A} → Some x ≡ Some y → x ≡ y
some-injective e = cc

-- the function that a loop is at
pub at-item : (items funcs : List FuncParts) (n : ℕ) (f : FuncParts) → items ≡ funcs → n < length items → f ≡ get_or items n f → slice_get funcs n ≡ Some f
at-item items funcs n f same inside is = subst (λ (fs : List FuncParts). slice_get fs n ≡ Some f) same (slice_get_read items (length items) n f refl inside is)

at-last : (fact : FuncParts → Type 0) (funcs : List FuncParts) (n k : ℕ) (f g : FuncParts) → slice_get funcs n ≡ Some f → fact f → slice_get funcs k ≡ Some g → k ≡ n → fact g
at-last fact funcs n k f g at holds stands same =
    let there : slice_get funcs n ≡ Some g = subst (λ (i : ℕ). slice_get funcs i ≡ Some g) same stands in
    subst fact (some-injective (sym at ∙ there)) holds

pub before-next : (fact : FuncParts → Type 0) (funcs : List FuncParts) (n : ℕ) (f : FuncParts) → slice_get funcs n ≡ Some f → fact f → Before fact funcs n → Before fact funcs (n + 1)
before-next fact funcs n f at holds before k g inside stands =
    let near : k ≤ n = omega arith in
    elim (eq-or-lt_of_le near) as (λ _. fact g) [ inl same ↦ at-last fact funcs n k f g at holds stands same | inr p ↦ before k g p stands ]

pub before-none : (fact : FuncParts → Type 0) (funcs : List FuncParts) → Before fact funcs 0
before-none fact funcs k g inside stands = absurd (omega arith)

pub before-all : (fact : FuncParts → Type 0) (funcs : List FuncParts) (n : ℕ) → length funcs ≤ n → Before fact funcs n → OfAll fact funcs
before-all fact funcs n past before k g stands =
    let inside : k < length funcs = slice_get_within funcs k g stands in
    before k g (omega arith) stands

-- the first use stays, where a function's registers are assigned
pub use-stays : (funcs : List FuncParts) (n : ℕ) (f : FuncParts) (first : Option Unassigned) → slice_get funcs n ≡ Some f → AllAssigned f → IsFirstUse funcs n first → IsFirstUse funcs (n + 1) first
use-stays funcs n f None at assigned before = before-next AllAssigned funcs n f at assigned before
use-stays funcs n f (Some u) at assigned found = found

-- and a function's use is the first where there was none
pub use-found : (funcs : List FuncParts) (n : ℕ) (f : FuncParts) (first : Option Unassigned) (block inst : ℕ) (reg : Loc) → slice_get funcs n ≡ Some f → FirstUnassigned f block inst reg → IsFirstUse funcs n first → IsFirstUse funcs (n + 1) (option_or first (Some (record { func = n; block = block; inst = inst; reg = reg })))
use-found funcs n f None block inst reg at unassigned before = record { f = f; stands = at; unassigned = unassigned; before = before }
use-found funcs n f (Some u) block inst reg at unassigned found = found
