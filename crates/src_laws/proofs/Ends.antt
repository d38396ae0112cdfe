-- Blocks that end in their one terminator.
use Rattle.std.proofs.Common.{ℕ, zero, suc, ◌+◌, ◌≡◌, ◌∙◌, Bool, true, false, not, List, [], ◌∷◌, length, slice_get, Some, refl, ap, sym, arith}
use Rattle.std.specs.Option.{is_some}
use Rattle.ir_core.proofs.Lengths.{both_true}
use Rattle.ir_core.specs.declared.instruction.Inst.{Inst}
use Rattle.ir_core.specs.declared.instruction.Inst.TheVariants as insts
use Rattle.ir_check.specs.Blocks.{is_terminator, ends_well}
use Rattle.inst_meaning.specs.Phis.{phi_count}
use Rattle.ir_core.specs.Instructions.{is_phi}

not-both : (b : Bool) → not b ≡ true → b ≡ true → ⊥
not-both true e f = cc
not-both false e f = cc

-- a terminator is the last instruction
pub terminator-last : (body : List Inst) (i : ℕ) (inst : Inst) → ends_well body ≡ true → slice_get body i ≡ Some inst → is_terminator inst ≡ true
    → length body ≡ suc i
terminator-last [] i inst e at t = cc
terminator-last (x ∷ []) zero inst e at t = refl
terminator-last (x ∷ []) (suc i) inst e at t = cc
terminator-last (x ∷ y ∷ body) zero inst e at t =
    let same : x ≡ inst = cc in
    absurd (not-both (is_terminator x) (both_true (not (is_terminator x)) (ends_well (y ∷ body)) e).0 (ap is_terminator same ∙ t))
terminator-last (x ∷ y ∷ body) (suc i) inst e at t =
    ap suc (terminator-last (y ∷ body) i inst (both_true (not (is_terminator x)) (ends_well (y ∷ body)) e).1 at t)

-- behind any other one stands a further one
pub next-stands : (body : List Inst) (i : ℕ) (inst : Inst) → ends_well body ≡ true → slice_get body i ≡ Some inst → is_terminator inst ≡ false
    → is_some (slice_get body (suc i)) ≡ true
next-stands [] i inst e at t = cc
next-stands (x ∷ []) zero inst e at t = let same : x ≡ inst = cc in let clash : true ≡ false = sym e ∙ ap is_terminator same ∙ t in cc
next-stands (x ∷ []) (suc i) inst e at t = cc
next-stands (x ∷ y ∷ body) zero inst e at t = refl
next-stands (x ∷ y ∷ body) (suc i) inst e at t = next-stands (y ∷ body) i inst (both_true (not (is_terminator x)) (ends_well (y ∷ body)) e).1 at t

pub first-stands : (body : List Inst) → ends_well body ≡ true → is_some (slice_get body 0) ≡ true
first-stands [] e = cc
first-stands (x ∷ body) e = refl

no-phi : (inst : Inst) → is_terminator inst ≡ true → is_phi inst ≡ false
no-phi (insts.Phi dst ty arms) e = cc
no-phi other e = refl

-- and so does one behind the phis
pub behind-phis : (body : List Inst) → ends_well body ≡ true → is_some (slice_get body (phi_count body)) ≡ true
behind-phis [] e = cc
behind-phis (x ∷ []) e = let none : is_phi x ≡ false = no-phi x e in rw none refl
behind-phis (x ∷ y ∷ body) e = by_kind (is_phi x) refl (behind-phis (y ∷ body) (both_true (not (is_terminator x)) (ends_well (y ∷ body)) e).1)
  where
    by_kind : (b : Bool) → is_phi x ≡ b → is_some (slice_get (y ∷ body) (phi_count (y ∷ body))) ≡ true
        → is_some (slice_get (x ∷ y ∷ body) (phi_count (x ∷ y ∷ body))) ≡ true
    by_kind true f rest = let one : 1 + phi_count (y ∷ body) ≡ suc (phi_count (y ∷ body)) = omega arith in rw (f, one) rest
    by_kind false f rest = rw f refl
