-- A module that is accepted has no fault, and any other one has one at most.
use Rattle.std.proofs.Common.{◌≡◌, ◌∙◌, ap, sym, subst, ℕ, ◌<◌, Bool, true, false, ◌||◌, ◌⊎◌, inl, inr, List, [], ◌∷◌, Option, Some, None}
use Rattle.std.specs.Prelude.{slice_get}
use Rattle.std.proofs.lemmas.Bool.{cases_order}
use Rattle.ir_core.specs.declared.types.Loc.{Loc}
use Rattle.ir_core.specs.Module.{ModuleParts, FuncParts}
use Rattle.ir_flow.specs.Paths.{IsAssigned, IsUnassigned, assigned_before, assigns_in, passes}
use Rattle.ir_flow.specs.Phis.{PhiAt, phis_of, AllFitting, FirstMismatch}
use Rattle.ir_flow.specs.Uses.{AllAssigned, FirstUnassigned, uses_of}
use Rattle.ir_lines.specs.declared.site.Site.{Site}
use Rattle.ir_lines.specs.declared.site.Site.TheVariants.{Inst}
use Rattle.ir_lines.specs.declared.site.Named.{Named}
use Rattle.ir_lines.specs.declared.site.Named.TheVariants as names
use Rattle.ir_check.specs.declared.fault.Kind.TheVariants.{PhiMismatch, UseBeforeDef}
use Rattle.ir_check.specs.Flows.{Before, PhisFit, UnfitPhi, UnassignedUse}
use Rattle.ir_check.specs.Faults.{Fault, IsFault, OfLines, OfPhis, OfUses, IsAccepted, line_fault, fault_at, fault_with}

none-some : {A : Type 0} (x : Option A) (a : A) → x ≡ None → x ≡ Some a → ⊥
none-some x a p q = let clash : None ≡ Some a = sym p ∙ q in absurd cc

-- phis that all fit have no first mismatch
no-mismatch : (f : FuncParts) (phis : List PhiAt) (block inst : ℕ) → AllFitting f phis → FirstMismatch f phis block inst → ⊥
no-mismatch f [] block inst fit first = first
no-mismatch f (phi ∷ phis) block inst fit (inl here) = here.0 fit.0
no-mismatch f (phi ∷ phis) block inst fit (inr there) = no-mismatch f phis block inst fit.1 there.1

-- no use is assigned on every path, and not on one
not-both : (f : FuncParts) (block inst : ℕ) (reg : Loc) → IsAssigned f block inst reg → IsUnassigned f block inst reg → ⊥
not-both f block inst reg assigned un =
    let both : (assigned_before f block inst reg || passes (assigns_in f.blocks reg) un.reached.path) ≡ true = assigned un.reached.path un.reached.leads in
    let none : (assigned_before f block inst reg || passes (assigns_in f.blocks reg) un.reached.path) ≡ false = ap (λ (b : Bool). b || passes (assigns_in f.blocks reg) un.reached.path) un.not_before ∙ un.reached.free in
    let clash : false ≡ true = sym none ∙ both in absurd cc

no-first : (f : FuncParts) (block inst : ℕ) (reg : Loc) → AllAssigned f → FirstUnassigned f block inst reg → ⊥
no-first f block inst reg all first = not-both f first.u.at_block first.u.at_inst first.u.reg (all first.place first.u first.stands) first.unassigned

pub fault_excludes : (m : ModuleParts) (fault : Fault) → IsFault m fault → IsAccepted m → ⊥
fault_excludes m fault (OfLines told) accepted = none-some (line_fault m) fault accepted.lines told
fault_excludes m fault (OfPhis none n block inst unfit is) accepted = no-mismatch unfit.f (phis_of unfit.f) block inst (accepted.phis n unfit.f unfit.stands) unfit.mismatch
fault_excludes m fault (OfUses none fit n block inst reg found is) accepted = no-first found.f block inst reg (accepted.uses n found.f found.stands) found.unassigned

-- ---- and a module has one fault at most

some-injective : {A : Type 0} {x y : A} → Some x ≡ Some y → x ≡ y
some-injective e = cc

-- the first mismatch of phis is one
one-mismatch : (f : FuncParts) (phis : List PhiAt) (block inst other place : ℕ) → FirstMismatch f phis block inst → FirstMismatch f phis other place → (block ≡ other) × (inst ≡ place)
one-mismatch f [] block inst other place first second = absurd first
one-mismatch f (phi ∷ phis) block inst other place (inl a) (inl b) = (sym a.1 ∙ b.1, sym a.2 ∙ b.2)
one-mismatch f (phi ∷ phis) block inst other place (inl a) (inr b) = absurd (a.0 b.0)
one-mismatch f (phi ∷ phis) block inst other place (inr a) (inl b) = absurd (b.0 a.0)
one-mismatch f (phi ∷ phis) block inst other place (inr a) (inr b) = one-mismatch f phis block inst other place a.1 b.1

-- no function stands before both of two that are each the first
module _ (funcs : List FuncParts) (fact : FuncParts → Type 0) where
  same-number : (n k : ℕ) (f g : FuncParts) → slice_get funcs n ≡ Some f → slice_get funcs k ≡ Some g → (fact f → ⊥) → (fact g → ⊥) → Before fact funcs n → Before fact funcs k → n ≡ k
  same-number n k f g at beside p q before earlier =
      elim (cases_order n k) as (λ _. n ≡ k) [
        | inl same ↦ same
        | inr apart ↦ elim apart as (λ _. n ≡ k) [ inl lt ↦ absurd (p (earlier n f lt at)) | inr lt ↦ absurd (q (before k g lt beside)) ]
      ]

same-func : (funcs : List FuncParts) (n k : ℕ) (f g : FuncParts) → n ≡ k → slice_get funcs n ≡ Some f → slice_get funcs k ≡ Some g → f ≡ g
same-func funcs n k f g same at beside = some-injective (sym at ∙ ap (λ (i : ℕ). slice_get funcs i) same ∙ beside)

same-phi : (funcs : List FuncParts) (n block inst k other place : ℕ) → UnfitPhi funcs n block inst → UnfitPhi funcs k other place → (n ≡ k) × (block ≡ other) × (inst ≡ place)
same-phi funcs n block inst k other place a b =
    let number : n ≡ k = same-number funcs PhisFit n k a.f b.f a.stands b.stands (λ fit. no-mismatch a.f (phis_of a.f) block inst fit a.mismatch) (λ fit. no-mismatch b.f (phis_of b.f) other place fit b.mismatch) a.before b.before in
    let func : b.f ≡ a.f = sym (same-func funcs n k a.f b.f number a.stands b.stands) in
    let there : FirstMismatch a.f (phis_of a.f) other place = subst (λ (f : FuncParts). FirstMismatch f (phis_of f) other place) func b.mismatch in
    let rest = one-mismatch a.f (phis_of a.f) block inst other place a.mismatch there in
    (number, rest.0, rest.1)

-- the first unassigned use of a function is one
same-place : (f : FuncParts) (block inst other place : ℕ) (reg at : Loc) (a : FirstUnassigned f block inst reg) (b : FirstUnassigned f other place at) → a.place ≡ b.place
same-place f block inst other place reg at a b =
    elim (cases_order a.place b.place) as (λ _. a.place ≡ b.place) [
      | inl same ↦ same
      | inr apart ↦ elim apart as (λ _. a.place ≡ b.place) [
        | inl lt ↦ absurd (not-both f a.u.at_block a.u.at_inst a.u.reg (b.before a.place a.u lt a.stands) a.unassigned)
        | inr lt ↦ absurd (not-both f b.u.at_block b.u.at_inst b.u.reg (a.before b.place b.u lt b.stands) b.unassigned)
      ]
    ]

one-use : (f : FuncParts) (block inst other place : ℕ) (reg at : Loc) → FirstUnassigned f block inst reg → FirstUnassigned f other place at → (block ≡ other) × (inst ≡ place) × (reg ≡ at)
one-use f block inst other place reg at a b =
    let same : a.u ≡ b.u = some-injective (sym a.stands ∙ ap (λ (k : ℕ). slice_get (uses_of f) k) (same-place f block inst other place reg at a b) ∙ b.stands) in
    (sym a.at.0 ∙ ap (λ u. u.block) same ∙ b.at.0, sym a.at.1 ∙ ap (λ u. u.inst) same ∙ b.at.1, sym a.at.2 ∙ ap (λ u. u.reg) same ∙ b.at.2)

same-use : (funcs : List FuncParts) (n block inst k other place : ℕ) (reg at : Loc) → UnassignedUse funcs n block inst reg → UnassignedUse funcs k other place at → (n ≡ k) × (block ≡ other) × (inst ≡ place) × (reg ≡ at)
same-use funcs n block inst k other place reg at a b =
    let number : n ≡ k = same-number funcs AllAssigned n k a.f b.f a.stands b.stands (λ all. no-first a.f block inst reg all a.unassigned) (λ all. no-first b.f other place at all b.unassigned) a.before b.before in
    let func : b.f ≡ a.f = sym (same-func funcs n k a.f b.f number a.stands b.stands) in
    let rest = one-use a.f block inst other place reg at a.unassigned (subst (λ (f : FuncParts). FirstUnassigned f other place at) func b.unassigned) in
    (number, rest.0, rest.1, rest.2)

pub one_fault : (m : ModuleParts) (a b : Fault) → IsFault m a → IsFault m b → a ≡ b
one_fault m a b (OfLines p) (OfLines q) = some-injective (sym p ∙ q)
one_fault m a b (OfLines p) (OfPhis none n block inst unfit is) = absurd (none-some (line_fault m) a none p)
one_fault m a b (OfLines p) (OfUses none fit n block inst reg found is) = absurd (none-some (line_fault m) a none p)
one_fault m a b (OfPhis none n block inst unfit is) (OfLines q) = absurd (none-some (line_fault m) b none q)
one_fault m a b (OfUses none fit n block inst reg found is) (OfLines q) = absurd (none-some (line_fault m) b none q)
one_fault m a b (OfPhis none n block inst unfit is) (OfPhis none' k other place unfit' is') =
    let same = same-phi m.funcs n block inst k other place unfit unfit' in
    let sites : Inst n block inst ≡ Inst k other place = ap (λ (x : ℕ). Inst x block inst) same.0 ∙ ap (λ (x : ℕ). Inst k x inst) same.1 ∙ ap (λ (x : ℕ). Inst k other x) same.2 in
    is ∙ ap (λ (site : Site). fault_at m PhiMismatch site) sites ∙ sym is'
one_fault m a b (OfPhis none n block inst unfit is) (OfUses none' fit k other place reg found is') = absurd (no-mismatch unfit.f (phis_of unfit.f) block inst (fit n unfit.f unfit.stands) unfit.mismatch)
one_fault m a b (OfUses none fit n block inst reg found is) (OfPhis none' k other place unfit is') = absurd (no-mismatch unfit.f (phis_of unfit.f) other place (fit k unfit.f unfit.stands) unfit.mismatch)
one_fault m a b (OfUses none fit n block inst reg found is) (OfUses none' fit' k other place at found' is') =
    let same = same-use m.funcs n block inst k other place reg at found found' in
    let told : (Inst n block inst, names.Loc n reg) ≡ (Inst k other place, names.Loc k at) =
    ap (λ (x : ℕ). (Inst x block inst, names.Loc x reg)) same.0 ∙ ap (λ (x : ℕ). (Inst k x inst, names.Loc k reg)) same.1 ∙ ap (λ (x : ℕ). (Inst k other x, names.Loc k reg)) same.2 ∙ ap (λ (x : Loc). (Inst k other place, names.Loc k x)) same.3 in
    is ∙ ap (λ (x : Site × Named). fault_with m UseBeforeDef x) told ∙ sym is'
