-- A rule that each line of a hardened module keeps, by what each line stands for.
use Rattle.std.proofs.Common.{ℕ, zero, suc, ◌≡◌, ◌∙◌, ◌+◌, Bool, true, false, ◌&&◌, List, [], ◌∷◌, ◌++◌, map, length, slice_get, Some, refl, ap, sym, arith, subst}
use Rattle.ir_core.proofs.Lengths.{both_true}
use Rattle.std.specs.List.{flat_map, list_all, zip}
use Rattle.std.proofs.lemmas.List.Folds.{list_all-append, list_all-map}
use Rattle.ir_core.specs.declared.types.Ty.{Ty}
use Rattle.ir_core.specs.declared.types.Loc.{Loc}
use Rattle.ir_core.specs.declared.values.Side.{Side}
use Rattle.ir_core.specs.declared.values.Side.TheVariants.{M, S}
use Rattle.ir_core.specs.declared.instruction.Inst.{Inst}
use Rattle.ir_core.specs.declared.instruction.Inst.TheVariants as insts
use Rattle.ir_core.specs.declared.instruction.Block.{Block}
use Rattle.ir_core.specs.Module.{ModuleParts, FuncParts}
use Rattle.ir_flow.specs.Edges.{edges_of, is_loop_head}
use Rattle.ir_lines.specs.Lines.{HeadLine}
use Rattle.ir_core.specs.Instructions.{is_phi}
use Rattle.hard_ir.specs.declared.instruction.HInst.{HInst}
use Rattle.hard_ir.specs.Image.{Table, copy_of, phi_image}
use Rattle.hard_ir.specs.Hardened.{head_of, at_entry, at_head, hard_block, hard_blocks, hard_func, hardened_by}
use Rattle.hard_ir.specs.Fit.{HardFunc, hard_funcs, HardLine, OuterLine, HBlockLine, HPhiLine, HInstLine, phi_lines, inst_lines, block_lines, blocks_lines, funcs_lines, outer_lines, hard_lines}
use Rattle.ir_check.proofs.Members.{IsIn, next-in}
use Rattle.hard_laws.proofs.Images.{is_quiet, IsPart, AreParts, IsTable}

-- the hardened function
abbrev pub hard_of : Table → FuncParts → HardFunc
hard_of table f = (head_of f, hard_func table f)

hard-zip : (table : Table) (funcs : List FuncParts) → zip (map head_of funcs) (map (hard_func table) funcs) ≡ map (hard_of table) funcs
hard-zip table [] = refl
hard-zip table (f ∷ funcs) = ap (λ (rest : List HardFunc). hard_of table f ∷ rest) (hard-zip table funcs)

pub hard-funcs : (table : Table) (m : ModuleParts) → hard_funcs (hardened_by table m) ≡ map (hard_of table) m.funcs
hard-funcs table m = hard-zip table m.funcs

-- what stands at a place of a module
abbrev pub IsBlockOf : ModuleParts → ℕ → FuncParts → ℕ → Block → Type 0
IsBlockOf m n f b block = (slice_get m.funcs n ≡ Some f) × (slice_get f.blocks b ≡ Some block)

-- what stands at a place of a module, by kinds of hardened lines, keeps the rule
pub record EachKeeps (table : Table) (m : ModuleParts) (keeps : HardLine → Bool) : Type 0 where
  pub outer : list_all (λ line. keeps (OuterLine line)) (outer_lines m) ≡ true
  pub head : (n : ℕ) (f : FuncParts) → slice_get m.funcs n ≡ Some f → keeps (OuterLine (HeadLine n (head_of f))) ≡ true
  pub block : (n b : ℕ) (f : FuncParts) (block : Block) → IsBlockOf m n f b block → keeps (HBlockLine n (hard_of table f) b (hard_block table f b block)) ≡ true
  pub phi : (n b i : ℕ) (f : FuncParts) (block : Block) (inst : Inst) (side : Side) → IsBlockOf m n f b block → IsIn inst block.insts → is_phi inst ≡ true
      → keeps (HPhiLine n (hard_of table f) b i (side, inst)) ≡ true
  pub part : (n b i : ℕ) (f : FuncParts) (block : Block) (inst : Inst) (item : HInst) → IsBlockOf m n f b block → IsIn inst block.insts → is_phi inst ≡ false → IsPart inst item
      → keeps (HInstLine n (hard_of table f) b i item) ≡ true
  pub param : (n b i : ℕ) (f : FuncParts) (block : Block) (param : Ty × Loc) → IsBlockOf m n f b block → IsIn param f.params → keeps (HInstLine n (hard_of table f) b i (copy_of param)) ≡ true
  pub quiet : (n b i : ℕ) (f : FuncParts) (item : HInst) → is_quiet item ≡ true → keeps (HInstLine n (hard_of table f) b i item) ≡ true

pub both : {a b : Bool} → a ≡ true → b ≡ true → (a && b) ≡ true
both p q = rw (p, q) refl

-- ---- the lines of one block

module _ (keeps : HardLine → Bool) (n : ℕ) (f : HardFunc) (b : ℕ) where
  -- each item keeps the rule at any place
  abbrev ItemsKeep : List HInst → Type 0
  ItemsKeep [] = Unit {0}
  ItemsKeep (x ∷ xs) = ((i : ℕ) → keeps (HInstLine n f b i x) ≡ true) × ItemsKeep xs

  items-append : (xs ys : List HInst) → ItemsKeep xs → ItemsKeep ys → ItemsKeep (xs ++ ys)
  items-append [] ys p q = q
  items-append (x ∷ xs) ys p q = (p.0, items-append xs ys p.1 q)

  items-lines : (xs : List HInst) (i : ℕ) → ItemsKeep xs → list_all keeps (inst_lines n f b i xs) ≡ true
  items-lines [] i p = refl
  items-lines (x ∷ xs) i p = both (p.0 i) (items-lines xs (i + 1) p.1)

  abbrev PhisKeep : List (Side × Inst) → Type 0
  PhisKeep [] = Unit {0}
  PhisKeep (x ∷ xs) = ((i : ℕ) → keeps (HPhiLine n f b i x) ≡ true) × PhisKeep xs

  phis-append : (xs ys : List (Side × Inst)) → PhisKeep xs → PhisKeep ys → PhisKeep (xs ++ ys)
  phis-append [] ys p q = q
  phis-append (x ∷ xs) ys p q = (p.0, phis-append xs ys p.1 q)

  phis-lines : (xs : List (Side × Inst)) (i : ℕ) → PhisKeep xs → list_all keeps (phi_lines n f b i xs) ≡ true
  phis-lines [] i p = refl
  phis-lines (x ∷ xs) i p = both (p.0 i) (phis-lines xs (i + 1) p.1)

  quiet-items : (items : List HInst) → list_all is_quiet items ≡ true → ((i : ℕ) (item : HInst) → is_quiet item ≡ true → keeps (HInstLine n f b i item) ≡ true) → ItemsKeep items
  quiet-items [] e rule = tt
  quiet-items (x ∷ xs) e rule =
      let parts = both_true (is_quiet x) (list_all is_quiet xs) e in
      ((λ i. rule i x parts.0), quiet-items xs parts.1 rule)

  part-items : (inst : Inst) (items : List HInst) → AreParts inst items → ((i : ℕ) (item : HInst) → IsPart inst item → keeps (HInstLine n f b i item) ≡ true) → ItemsKeep items
  part-items inst [] parts rule = tt
  part-items inst (x ∷ xs) parts rule = ((λ i. rule i x parts.0), part-items inst xs parts.1 rule)

  param-items : (params : List (Ty × Loc)) → ((i : ℕ) (param : Ty × Loc) → IsIn param params → keeps (HInstLine n f b i (copy_of param)) ≡ true) → ItemsKeep (map copy_of params)
  param-items [] rule = tt
  param-items (x ∷ xs) rule = ((λ i. rule i x (0, refl)), param-items xs (λ i param h. rule i param (next-in param x xs h)))

-- ---- a whole module

module _ (table : Table) (is : IsTable table) (m : ModuleParts) (keeps : HardLine → Bool) (each : EachKeeps table m keeps) where
  phis-keep : (n b : ℕ) (f : FuncParts) (block : Block) → IsBlockOf m n f b block → (body : List Inst) → ((inst : Inst) → IsIn inst body → IsIn inst block.insts)
      → PhisKeep keeps n (hard_of table f) b (flat_map phi_image body)
  phis-keep n b f block at [] within = tt
  phis-keep n b f block at (inst ∷ body) within =
      phis-append keeps n (hard_of table f) b (phi_image inst) (flat_map phi_image body) (by_inst inst (within inst (0, refl))) (phis-keep n b f block at body (λ x h. within x (next-in x inst body h)))
    where
      by_inst : (inst : Inst) → IsIn inst block.insts → PhisKeep keeps n (hard_of table f) b (phi_image inst)
      by_inst (insts.Phi dst ty arms) h = ((λ i. each.phi n b i f block (insts.Phi dst ty arms) M at h refl), ((λ i. each.phi n b i f block (insts.Phi dst ty arms) S at h refl), tt))
      by_inst inst h = tt

  image-keeps : (n b : ℕ) (f : FuncParts) (block : Block) → IsBlockOf m n f b block → (body : List Inst) → ((inst : Inst) → IsIn inst body → IsIn inst block.insts)
      → ItemsKeep keeps n (hard_of table f) b (flat_map table.image body)
  image-keeps n b f block at [] within = tt
  image-keeps n b f block at (inst ∷ body) within =
      items-append keeps n (hard_of table f) b (table.image inst) (flat_map table.image body) (by_kind (is_phi inst) refl) (image-keeps n b f block at body (λ x h. within x (next-in x inst body h)))
    where
      by_kind : (t : Bool) → is_phi inst ≡ t → ItemsKeep keeps n (hard_of table f) b (table.image inst)
      by_kind true e = subst (ItemsKeep keeps n (hard_of table f) b) (sym (is.phi inst e)) tt
      by_kind false e = part-items keeps n (hard_of table f) b inst (table.image inst) (is.image inst e).parts (λ i item part. each.part n b i f block inst item at (within inst (0, refl)) e part)

  entry-keeps : (n b : ℕ) (f : FuncParts) (block : Block) → IsBlockOf m n f b block → ItemsKeep keeps n (hard_of table f) b (at_entry table f b)
  entry-keeps n zero f block at =
      let entry = is.entry f.params in
      subst (ItemsKeep keeps n (hard_of table f) 0) (sym entry.1)
      (items-append keeps n (hard_of table f) 0 (map copy_of f.params) entry.0 (param-items keeps n (hard_of table f) 0 f.params (λ i param h. each.param n 0 i f block param at h)) (quiet-items keeps n (hard_of table f) 0 entry.0 entry.2 (λ i item e. each.quiet n 0 i f item e)))
  entry-keeps n (suc b) f block at = tt

  head-keeps : (n b : ℕ) (f : FuncParts) (t : Bool) → ItemsKeep keeps n (hard_of table f) b (at_head table t)
  head-keeps n b f true = quiet-items keeps n (hard_of table f) b table.head is.head (λ i item e. each.quiet n b i f item e)
  head-keeps n b f false = tt

  block-keeps : (n b : ℕ) (f : FuncParts) (block : Block) → IsBlockOf m n f b block → list_all keeps (block_lines n (hard_of table f) b (hard_block table f b block)) ≡ true
  block-keeps n b f block at =
      let hard = hard_block table f b block in
      let items : ItemsKeep keeps n (hard_of table f) b hard.list =
      items-append keeps n (hard_of table f) b (at_entry table f b) (at_head table (is_loop_head (edges_of f).pairs b) ++ flat_map table.image block.insts) (entry-keeps n b f block at)
      (items-append keeps n (hard_of table f) b (at_head table (is_loop_head (edges_of f).pairs b)) (flat_map table.image block.insts) (head-keeps n b f (is_loop_head (edges_of f).pairs b)) (image-keeps n b f block at block.insts (λ inst h. h))) in
      both (each.block n b f block at)
      (list_all-append keeps (phi_lines n (hard_of table f) b 0 hard.phis) (inst_lines n (hard_of table f) b (length hard.phis) hard.list)
      ∙ both (phis-lines keeps n (hard_of table f) b hard.phis 0 (phis-keep n b f block at block.insts (λ inst h. h))) (items-lines keeps n (hard_of table f) b hard.list (length hard.phis) items))

  blocks-keep : (n b : ℕ) (f : FuncParts) (blocks : List Block) → slice_get m.funcs n ≡ Some f → ((k : ℕ) (block : Block) → slice_get blocks k ≡ Some block → slice_get f.blocks (b + k) ≡ Some block)
      → list_all keeps (blocks_lines n (hard_of table f) b (hard_blocks table f b blocks)) ≡ true
  blocks-keep n b f [] at there = refl
  blocks-keep n b f (block ∷ blocks) at there =
      let first : slice_get f.blocks b ≡ Some block = subst (λ (k : ℕ). slice_get f.blocks k ≡ Some block) (omega arith) (there 0 block refl) in
      list_all-append keeps (block_lines n (hard_of table f) b (hard_block table f b block)) (blocks_lines n (hard_of table f) (b + 1) (hard_blocks table f (b + 1) blocks))
      ∙ both (block-keeps n b f block (at, first)) (blocks-keep n (b + 1) f blocks at (λ k x h. subst (λ (j : ℕ). slice_get f.blocks j ≡ Some x) (omega arith) (there (suc k) x h)))

  funcs-keep : (n : ℕ) (funcs : List FuncParts) → ((k : ℕ) (f : FuncParts) → slice_get funcs k ≡ Some f → slice_get m.funcs (n + k) ≡ Some f)
      → list_all keeps (funcs_lines n (map (hard_of table) funcs)) ≡ true
  funcs-keep n [] there = refl
  funcs-keep n (f ∷ funcs) there =
      let at : slice_get m.funcs n ≡ Some f = subst (λ (k : ℕ). slice_get m.funcs k ≡ Some f) (omega arith) (there 0 f refl) in
      both (each.head n f at)
      (list_all-append keeps (blocks_lines n (hard_of table f) 0 (hard_func table f)) (funcs_lines (n + 1) (map (hard_of table) funcs))
      ∙ both (blocks-keep n 0 f f.blocks at (λ k x h. subst (λ (j : ℕ). slice_get f.blocks j ≡ Some x) (omega arith) h)) (funcs-keep (n + 1) funcs (λ k x h. subst (λ (j : ℕ). slice_get m.funcs j ≡ Some x) (omega arith) (there (suc k) x h))))

  pub all-keep : list_all keeps (hard_lines (hardened_by table m)) ≡ true
  all-keep =
      list_all-append keeps (map OuterLine (outer_lines m)) (funcs_lines 0 (hard_funcs (hardened_by table m)))
      ∙ both (list_all-map keeps OuterLine (outer_lines m) ∙ each.outer)
      (ap (λ (funcs : List HardFunc). list_all keeps (funcs_lines 0 funcs)) (hard-funcs table m) ∙ funcs-keep 0 m.funcs (λ k x h. subst (λ (j : ℕ). slice_get m.funcs j ≡ Some x) (omega arith) h))
