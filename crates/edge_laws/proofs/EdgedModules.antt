-- Hardened modules whose blocks check their edges are images by names of what they were hardened of, whichever blocks are chosen.
use Rattle.std.proofs.Common.{ℕ, zero, suc, ◌≡◌, ◌∙◌, ◌+◌, Bool, List, [], ◌∷◌, map, length, Some, slice_get, refl, ap, sym as flip, subst, arith}
use Rattle.std.specs.List.{All, zip}
use Rattle.ir_core.specs.declared.types.Ty.{Ty}
use Rattle.ir_core.specs.Module.{ModuleParts, FuncParts}
use Rattle.ir_check.specs.Faults.{IsAccepted}
use Rattle.ir_numbering.specs.Renaming.{Renaming, renamed_param}
use Rattle.hard_ir.specs.declared.instruction.HBlock.{HBlock}
use Rattle.hard_ir.specs.Image.{split_table}
use Rattle.hard_ir.specs.Hardened.{head_of, heads_of, hard_func, ticked_block, harden}
use Rattle.hard_ir.specs.Facts.{IsShort, AreShort}
use Rattle.hard_ir.specs.Fit.{HardFunc, hard_funcs}
use Rattle.hard_ir.specs.Images.{IsSameFunc, IsSameModule, IsFuncImage, IsCode, IsImage, IsNamedImage}
use Rattle.hard_ir.specs.EdgeChecks.{raised, raising, with_names, marks_of, edged_func, edged_funcs, with_funcs, edged_by}
use Rattle.hard_laws.proofs.Accepted.{Sound, sound}
use Rattle.hard_laws.proofs.ImageRows.{all-got}
use Rattle.edge_laws.proofs.Staying.{inside, ty-stays, types-stay, globals-stay, declares-stay}
use Rattle.edge_laws.proofs.RaisedNumbers.{kept}
use Rattle.edge_laws.proofs.Edged.{hard_of, renumbered, func-image}

-- ---- the module under the other numbers

abbrev pub renumbered_funcs : ModuleParts → (ℕ → ℕ → Bool) → ℕ → List FuncParts → List FuncParts
renumbered_funcs m chosen n [] = []
renumbered_funcs m chosen n (f ∷ funcs) = renumbered m (chosen n) f ∷ renumbered_funcs m chosen (suc n) funcs

abbrev pub renumbered_module : ModuleParts → (ℕ → ℕ → Bool) → ModuleParts
renumbered_module m chosen = record m { funcs = renumbered_funcs m chosen 0 m.funcs }

pub renumbered-at : (m : ModuleParts) (chosen : ℕ → ℕ → Bool) (start i n : ℕ) (funcs : List FuncParts) (g : FuncParts) → n ≡ start + i → slice_get (renumbered_funcs m chosen start funcs) i ≡ Some g
    → (f : FuncParts) × (slice_get funcs i ≡ Some f) × (renumbered m (chosen n) f ≡ g)
renumbered-at m chosen start i n [] g e at = cc
renumbered-at m chosen start zero n (f ∷ funcs) g e at =
    let number : start ≡ n = omega (arith, e) in
    (f, refl, ap (λ (k : ℕ). renumbered m (chosen k) f) (flip number) ∙ (let same : renumbered m (chosen start) f ≡ g = cc in same))
renumbered-at m chosen start (suc i) n (f ∷ funcs) g e at = renumbered-at m chosen (suc start) i n funcs g (omega (arith, e)) at

pub edged-func-at : (m : ModuleParts) (chosen : ℕ → ℕ → Bool) (start i n : ℕ) (funcs : List FuncParts) (blocks : List HBlock) → n ≡ start + i
    → slice_get (map (λ f. f.1) (edged_funcs chosen start (map (hard_of m) funcs))) i ≡ Some blocks
    → (f : FuncParts) × (slice_get funcs i ≡ Some f) × ((edged_func (chosen n) (hard_of m f)).1 ≡ blocks)
edged-func-at m chosen start i n [] blocks e at = cc
edged-func-at m chosen start zero n (f ∷ funcs) blocks e at =
    let number : start ≡ n = omega (arith, e) in
    (f, refl, ap (λ (k : ℕ). (edged_func (chosen k) (hard_of m f)).1) (flip number) ∙ (let same : (edged_func (chosen start) (hard_of m f)).1 ≡ blocks = cc in same))
edged-func-at m chosen start (suc i) n (f ∷ funcs) blocks e at = edged-func-at m chosen (suc start) i n funcs blocks (omega (arith, e)) at

-- ---- the edged module

hard-zip : (m : ModuleParts) (funcs : List FuncParts) → zip (map head_of funcs) (map (map ticked_block) (map (hard_func (split_table m)) funcs)) ≡ map (hard_of m) funcs
hard-zip m [] = refl
hard-zip m (f ∷ funcs) = ap (λ (rest : List HardFunc). hard_of m f ∷ rest) (hard-zip m funcs)

pub harden-funcs : (m : ModuleParts) → hard_funcs (harden m) ≡ map (hard_of m) m.funcs
harden-funcs m = hard-zip m m.funcs

pub edged-is : (m : ModuleParts) (chosen : ℕ → ℕ → Bool) → edged_by chosen (harden m) ≡ with_funcs (harden m) (edged_funcs chosen 0 (map (hard_of m) m.funcs))
edged-is m chosen = ap (λ (funcs : List HardFunc). with_funcs (harden m) (edged_funcs chosen 0 funcs)) (harden-funcs m)

head-same : (m : ModuleParts) (chosen : ℕ → Bool) (f : FuncParts) → (edged_func chosen (hard_of m f)).0 ≡ head_of (renumbered m chosen f)
head-same m chosen f =
    let marks = marks_of chosen (hard_of m f) in
    ap (λ (ty : Ty). let head : FuncParts = record { sym = f.sym; ret = ty; params = map (renamed_param (raising marks)) f.params; blocks = []; names = with_names marks 0 f.names } in head) (flip (ty-stays (raised marks) f.ret))

pub heads-same : (m : ModuleParts) (chosen : ℕ → ℕ → Bool) (n : ℕ) (funcs : List FuncParts) → map (λ (f : HardFunc). f.0) (edged_funcs chosen n (map (hard_of m) funcs)) ≡ map head_of (renumbered_funcs m chosen n funcs)
heads-same m chosen n [] = refl
heads-same m chosen n (f ∷ funcs) =
    ap (λ (head : FuncParts). head ∷ map (λ (f : HardFunc). f.0) (edged_funcs chosen (suc n) (map (hard_of m) funcs))) (head-same m (chosen n) f)
    ∙ ap (λ (rest : List FuncParts). head_of (renumbered m (chosen n) f) ∷ rest) (heads-same m chosen (suc n) funcs)

pub count-same : (m : ModuleParts) (chosen : ℕ → ℕ → Bool) (n : ℕ) (funcs : List FuncParts) → length (map (λ (f : HardFunc). f.1) (edged_funcs chosen n (map (hard_of m) funcs))) ≡ length (renumbered_funcs m chosen n funcs)
count-same m chosen n [] = refl
count-same m chosen n (f ∷ funcs) = ap suc (count-same m chosen (suc n) funcs)

module _ (m : ModuleParts) (chosen : ℕ → ℕ → Bool) (held : Sound m) (short : AreShort (harden m).funcs) where
  abbrev other : ModuleParts
  other = renumbered_module m chosen

  hard-there : (n : ℕ) (f : FuncParts) → slice_get m.funcs n ≡ Some f → slice_get (harden m).funcs n ≡ Some (hard_of m f).1
  hard-there n f at = by_funcs m.funcs n at
    where
      by_funcs : (funcs : List FuncParts) (n : ℕ) → slice_get funcs n ≡ Some f → slice_get (map (map ticked_block) (map (hard_func (split_table m)) funcs)) n ≡ Some (hard_of m f).1
      by_funcs [] n at = cc
      by_funcs (x ∷ funcs) zero at = let same : x ≡ f = cc in ap (λ (y : FuncParts). Some (hard_of m y).1) same
      by_funcs (x ∷ funcs) (suc n) at = by_funcs funcs n at

  each-image : (n : ℕ) (g : FuncParts) (blocks : List HBlock) → slice_get other.funcs n ≡ Some g → slice_get (with_funcs (harden m) (edged_funcs chosen 0 (map (hard_of m) m.funcs))).funcs n ≡ Some blocks
      → IsFuncImage (IsCode other) g blocks
  each-image n g blocks at there =
      let own = renumbered-at m chosen 0 n n m.funcs g (omega arith) at in
      let made = edged-func-at m chosen 0 n n m.funcs blocks (omega arith) there in
      let found : Some own.0 ≡ Some made.0 = flip own.1 ∙ made.1 in
      let same : own.0 ≡ made.0 = cc in
      let hard : (edged_func (chosen n) (hard_of m own.0)).1 ≡ blocks = ap (λ (f : FuncParts). (edged_func (chosen n) (hard_of m f)).1) same ∙ made.2 in
      let image : IsFuncImage (IsCode other) (renumbered m (chosen n) own.0) (edged_func (chosen n) (hard_of m own.0)).1 =
      func-image m (chosen n) held n own.0 own.1 other refl (all-got (All IsShort) (harden m).funcs n (hard_of m own.0).1 short (hard-there n own.0 own.1)) in
      subst (λ (x : FuncParts). IsFuncImage (IsCode other) x blocks) own.2 (subst (IsFuncImage (IsCode other) (renumbered m (chosen n) own.0)) hard image)

  pub edged-image : IsImage other (edged_by chosen (harden m))
  edged-image = subst (IsImage other) (flip (edged-is m chosen)) (record {
    heads = ap (λ (funcs : List FuncParts). record (heads_of m) { funcs = funcs }) (heads-same m chosen 0 m.funcs);
    count = count-same m chosen 0 m.funcs;
    each = each-image;
  })

-- ---- the same module

outer : Renaming
outer = inside (λ k. k)

same-count : (m : ModuleParts) (chosen : ℕ → ℕ → Bool) (n : ℕ) (funcs : List FuncParts) → length (renumbered_funcs m chosen n funcs) ≡ length funcs
same-count m chosen n [] = refl
same-count m chosen n (f ∷ funcs) = ap suc (same-count m chosen (suc n) funcs)

pub same-module : (m : ModuleParts) (chosen : ℕ → ℕ → Bool) → IsSameModule m (renumbered_module m chosen)
unfolding outer
same-module m chosen = record {
  outer = outer;
  type_names = λ n name at. at;
  syms = λ n name at. at;
  types = flip (types-stay (λ k. k) m.types);
  globals = flip (globals-stay (λ k. k) m.globals);
  declares = flip (declares-stay (λ k. k) m.declares);
  count = same-count m chosen 0 m.funcs;
  funcs = λ n f g at there.
      let own = renumbered-at m chosen 0 n n m.funcs g (omega arith) there in
      let found : Some own.0 ≡ Some f = flip own.1 ∙ at in
      let same : own.0 ≡ f = cc in
      subst (IsSameFunc outer f) (ap (renumbered m (chosen n)) (flip same) ∙ own.2) (func-same m (chosen n) f);
}
  where
    func-same : (m : ModuleParts) (chosen : ℕ → Bool) (f : FuncParts) → IsSameFunc outer f (renumbered m chosen f)
    func-same m chosen f = record { loc = raised (marks_of chosen (hard_of m f)); names = λ k name at. kept (marks_of chosen (hard_of m f)) f.names k name at; is = refl }

-- the edged module is an image by names
pub edged-named : (m : ModuleParts) (chosen : ℕ → ℕ → Bool) → IsAccepted m → AreShort (harden m).funcs → IsNamedImage m (edged_by chosen (harden m))
edged-named m chosen accepted short = record { source = renumbered_module m chosen; same = same-module m chosen; image = edged-image m chosen (sound m accepted) short }
