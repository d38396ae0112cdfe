-- No name of a hardened module is defined again on its side, and each that it mentions is defined.
use Rattle.std.proofs.Common.{ℕ, suc, ◌≡◌, ◌∙◌, ◌+◌, ◌≤◌, Bool, true, false, ◌||◌, List, [], ◌∷◌, map, slice_get, Some, None, refl, ap, sym, subst, arith}
use Rattle.std.specs.Prelude.{nat_eq}
use Rattle.std.specs.List.{list_all, list_any}
use Rattle.std.proofs.lemmas.Bool.Decides.{nat_tests}
use Rattle.ir_core.proofs.Lengths.{both_true}
use Rattle.ir_core.specs.declared.types.Ty.{Ty}
use Rattle.ir_core.specs.declared.types.Loc.{Loc}
use Rattle.ir_core.specs.declared.values.Side.{Side}
use Rattle.ir_core.specs.declared.values.Side.TheVariants.{M, S}
use Rattle.ir_core.specs.declared.instruction.Block.{Block}
use Rattle.ir_core.specs.Module.{ModuleParts, FuncParts}
use Rattle.ir_lines.specs.Lines.{lines_of}
use Rattle.ir_lines.specs.declared.site.Named.{Named}
use Rattle.ir_lines.specs.declared.site.Named.TheVariants as names
use Rattle.ir_names.specs.Names.{same_name, definitions, is_defined}
use Rattle.hard_ir.specs.Image.{Table}
use Rattle.hard_ir.specs.Hardened.{hardened_by}
use Rattle.hard_ir.specs.Fit.{HardLine, SidedName, same_sided, hard_definitions, hard_duplicate, hard_lines, is_known}
use Rattle.hard_laws.proofs.Images.{IsTable}
use Rattle.hard_laws.proofs.HardLines.{IsBlockOf, both}
use Rattle.hard_laws.proofs.Accepted.{Sound}
use Rattle.hard_laws.proofs.Tallies.{tally, tally-any, any-tally, on_side, defined-once, none-again}
use Rattle.hard_laws.proofs.Definitions.{source-names, hard-names, in_source, in_hard, lacking, all_lacking, module-tally}

any-other : {A : Type 0} (p q : A → Bool) (xs : List A) → ((x : A) → p x ≡ true → q x ≡ true) → list_any p xs ≡ true → list_any q xs ≡ true
any-other p q [] h e = e
any-other {A} p q (x ∷ xs) h e = by_test (p x) refl (q x) refl e (any-other p q xs h)
  where
    by_test : (a : Bool) → p x ≡ a → (b : Bool) → q x ≡ b → (a || list_any p xs) ≡ true → (list_any p xs ≡ true → list_any q xs ≡ true) → (b || list_any q xs) ≡ true
    by_test a f true g e rest = refl
    by_test true f false g e rest = absurd (let clash : true ≡ false = sym (h x f) ∙ g in cc)
    by_test false f false g e rest = rest e

pub all-other : {A : Type 0} (p q : A → Bool) (xs : List A) → ((x : A) → p x ≡ true → q x ≡ true) → list_all p xs ≡ true → list_all q xs ≡ true
all-other p q [] h e = refl
all-other p q (x ∷ xs) h e = let parts = both_true (p x) (list_all p xs) e in both (h x parts.0) (all-other p q xs h parts.1)

module _ (table : Table) (is : IsTable table) (m : ModuleParts) (sound : Sound m) where
  pub distinct : hard_duplicate (hardened_by table m) ≡ None
  distinct = none-again (hard_definitions (hardened_by table m)) few
    where
      few : (side : Side) (k : Named) → tally (on_side side k) (map (λ (d : HardLine × SidedName). d.1) (hard_definitions (hardened_by table m))) ≤ 1
      few side k =
          let names : tally (on_side side k) (map (λ (d : HardLine × SidedName). d.1) (hard_definitions (hardened_by table m))) ≡ in_hard side k (hard_lines (hardened_by table m)) =
          ap (tally (on_side side k)) (hard-names (hardened_by table m)) in
          let whole = module-tally table is side k m in
          let source : in_source side k (lines_of m) ≤ 1 = subst (λ (xs : List Named). tally (same_name k) xs ≤ 1) (source-names m) (defined-once k (definitions m) sound.distinct) in
          omega arith

  -- ---- known names

  defined-tally : (side : Side) (k : Named) → is_defined m k ≡ true → 1 ≤ in_source side k (lines_of m)
  defined-tally side k e = subst (λ (xs : List Named). 1 ≤ tally (same_name k) xs) (source-names m) (tally-any (same_name k) _ e)

  tally-known : (side : Side) (k : Named) → 1 ≤ in_hard side k (hard_lines (hardened_by table m)) → is_known (hardened_by table m) (Some side, k) ≡ true
  tally-known side k e =
      any-tally (same_sided (Some side, k)) (map (λ (d : HardLine × SidedName). d.1) (hard_definitions (hardened_by table m)))
      (subst (λ (xs : List SidedName). 1 ≤ tally (on_side side k) xs) (sym (hard-names (hardened_by table m))) e)

  masters-there : (k : Named) (n : ℕ) (funcs : List FuncParts) → all_lacking table is M k n funcs ≡ 0
  masters-there k n [] = refl
  masters-there k n (f ∷ funcs) = let first = by_blocks f.blocks in let rest = masters-there k (n + 1) funcs in omega arith
    where
      by_blocks : (blocks : List Block) → lacking table is M k n f blocks ≡ 0
      by_blocks [] = refl
      by_blocks (block ∷ blocks) = refl

  others-params : (n j : ℕ) (at : Loc) (params : List (Ty × Loc)) → nat_eq n j ≡ false → tally (same_name (names.Loc n at)) (map (λ (param : Ty × Loc). names.Loc j param.1) params) ≡ 0
  others-params n j at [] e = refl
  others-params n j at (x ∷ xs) e = rw e (others-params n j at xs e)

  -- a function with a block lacks no shadow
  shadows-there : (n : ℕ) (at : Loc) (j : ℕ) (funcs : List FuncParts) → ((i : ℕ) (f : FuncParts) → slice_get funcs i ≡ Some f → n ≡ j + i → f.blocks ≡ [] → ⊥) → all_lacking table is S (names.Loc n at) j funcs ≡ 0
  shadows-there n at j [] there = refl
  shadows-there n at j (f ∷ funcs) there =
      let first = by_blocks f.blocks refl (nat_eq n j) refl in
      let rest = shadows-there n at (j + 1) funcs (λ i g h same. there (suc i) g h (omega arith)) in
      omega arith
    where
      by_blocks : (blocks : List Block) → f.blocks ≡ blocks → (b : Bool) → nat_eq n j ≡ b → lacking table is S (names.Loc n at) j f blocks ≡ 0
      by_blocks (block ∷ blocks) e b same = refl
      by_blocks [] e false same = others-params n j at f.params same
      by_blocks [] e true same = let number : n ≡ j = grind (arith, nat_tests) in absurd (there 0 f refl (omega arith) e)

  pub master-known : (k : Named) → is_defined m k ≡ true → is_known (hardened_by table m) (Some M, k) ≡ true
  master-known k e =
      let whole = module-tally table is M k m in let none = masters-there k 0 m.funcs in let source = defined-tally M k e in
      tally-known M k (omega arith)

  pub shadow-known : (n b : ℕ) (f : FuncParts) (block : Block) (at : Loc) → IsBlockOf m n f b block → is_defined m (names.Loc n at) ≡ true → is_known (hardened_by table m) (Some S, names.Loc n at) ≡ true
  shadow-known n b f block at (stands, there) e =
      let whole = module-tally table is S (names.Loc n at) m in
      let none : all_lacking table is S (names.Loc n at) 0 m.funcs ≡ 0 = shadows-there n at 0 m.funcs filled in
      let source = defined-tally S (names.Loc n at) e in
      tally-known S (names.Loc n at) (omega arith)
    where
      filled : (i : ℕ) (g : FuncParts) → slice_get m.funcs i ≡ Some g → n ≡ 0 + i → g.blocks ≡ [] → ⊥
      filled i g h same empty =
          let number : n ≡ i = omega arith in
          let found : slice_get m.funcs i ≡ Some f = subst (λ (x : ℕ). slice_get m.funcs x ≡ Some f) number stands in
          let own : f ≡ g = cc in
          let nothing : slice_get f.blocks b ≡ None = ap (λ (x : FuncParts). slice_get x.blocks b) own ∙ ap (λ (xs : List Block). slice_get xs b) empty in
          let clash : None ≡ Some block = sym nothing ∙ there in
          cc

  pub plain-known : (k : Named) → is_defined m k ≡ true → is_known (hardened_by table m) (None, k) ≡ true
  plain-known k e =
      any-other (same_sided (Some M, k)) (same_sided (None, k)) (map (λ (d : HardLine × SidedName). d.1) (hard_definitions (hardened_by table m))) (λ x p. (both_true _ (same_name k x.1) p).1) (master-known k e)
