-- Phis one after another, and predecessors as a list.
use Rattle.std.proofs.Common.{◌≡◌, ℕ, suc, ◌+◌, ◌<◌, List, [], ◌∷◌, ◌++◌, drop, length, get_or, drop-cons, refl, ap, arith, true, false, inl, inr}
use Rattle.std.specs.Prelude.{Bool, MatchBool}
use Rattle.ir_core.specs.declared.types.Loc.{Loc}
use Rattle.ir_core.specs.declared.values.Val.{Val}
use Rattle.ir_core.specs.declared.instruction.Inst.{Inst}
use Rattle.ir_core.specs.Module.{FuncParts}
use Rattle.ir_flow.specs.Phis.{FitsTo, IsFitting, HasPreds, PhiAt, AllFitting, FirstMismatch, phi_at, phis_of_body}

pub all-append : (f : FuncParts) (xs ys : List PhiAt) → AllFitting f xs → AllFitting f ys → AllFitting f (xs ++ ys)
all-append f [] ys all rest = rest
all-append f (x ∷ xs) ys all rest = (all.0, all-append f xs ys all.1 rest)

pub first-left : (f : FuncParts) (xs ys : List PhiAt) (b i : ℕ) → FirstMismatch f xs b i → FirstMismatch f (xs ++ ys) b i
first-left f [] ys b i h = absurd h
first-left f (x ∷ xs) ys b i (inl h) = inl h
first-left f (x ∷ xs) ys b i (inr h) = inr (h.0, first-left f xs ys b i h.1)

pub first-right : (f : FuncParts) (xs ys : List PhiAt) (b i : ℕ) → AllFitting f xs → FirstMismatch f ys b i → FirstMismatch f (xs ++ ys) b i
first-right f [] ys b i all h = h
first-right f (x ∷ xs) ys b i all h = inr (all.0, first-right f xs ys b i all.1 h)

pub next-phis : (block i : ℕ) (inst : Inst) (body : List Inst) → i < length body → inst ≡ get_or body i inst → phis_of_body block i (drop i body) ≡ phi_at block i inst ++ phis_of_body block (i + 1) (drop (i + 1) body)
next-phis block i inst body inside at =
    let e : drop i body ≡ get_or body i inst ∷ drop (suc i) body = drop-cons body i inst inside in
    let n : suc i ≡ i + 1 = omega arith in
    let whole : drop i body ≡ inst ∷ drop (i + 1) body = cc in
    ap (phis_of_body block i) whole

-- a phi fits the predecessors of its block where it fits the list of them
pub fitting : (f : FuncParts) (block : ℕ) (preds : List ℕ) (arms : List (Val × Loc)) → HasPreds f block preds → FitsTo f.blocks preds arms → IsFitting f block arms
fitting f block preds arms has fits = record {
  known = λ place arm there. let this = fits.known place arm there in (this.0, this.1, has.only this.0 this.2);
  complete = λ from edge. fits.complete from (has.all from edge);
  agree = fits.agree;
}

fitted : (f : FuncParts) (block : ℕ) (preds : List ℕ) (arms : List (Val × Loc)) → HasPreds f block preds → IsFitting f block arms → FitsTo f.blocks preds arms
fitted f block preds arms has fits = record {
  known = λ place arm there. let this = fits.known place arm there in (this.0, this.1, has.all this.0 this.2);
  complete = λ from pred. fits.complete from (has.only from pred);
  agree = fits.agree;
}

-- what a test of one phi tells
pub phi-told : (f : FuncParts) (block number : ℕ) (preds : List ℕ) (arms : List (Val × Loc)) (b : Bool) → HasPreds f block preds → MatchBool b (FitsTo f.blocks preds arms) (FitsTo f.blocks preds arms → ⊥) → let phi : PhiAt = record { block = block; inst = number; arms = arms } in MatchBool b (AllFitting f (phi ∷ [])) (FirstMismatch f (phi ∷ []) block number)
phi-told f block number preds arms true has told = (fitting f block preds arms has told, tt)
phi-told f block number preds arms false has told = inl ((λ fits. told (fitted f block preds arms has fits)), refl, refl)
