-- A hardened module with names for the edges of some of its blocks: its lines, and rules that each of them keeps.
use Rattle.std.proofs.Common.{ℕ, zero, suc, ◌≡◌, ◌∙◌, ◌+◌, Bool, true, List, [], ◌∷◌, ◌++◌, map, length, Option, Some, None, slice_get, refl, ap, sym as flip, subst, arith}
use Rattle.std.specs.List.{list_all, zip}
use Rattle.std.proofs.lemmas.List.Folds.{list_all-append}
use Rattle.ir_core.proofs.Lengths.{both_true}
use Rattle.ir_core.specs.declared.types.Loc.{Loc}
use Rattle.ir_core.specs.declared.values.Side.{Side}
use Rattle.ir_core.specs.declared.values.Side.TheVariants.{M, S}
use Rattle.ir_core.specs.declared.instruction.Inst.{Inst}
use Rattle.ir_core.specs.declared.instruction.Block.{Block}
use Rattle.ir_core.specs.Module.{ModuleParts, FuncParts}
use Rattle.ir_lines.specs.Lines.{Line, HeadLine}
use Rattle.hard_ir.specs.declared.instruction.HInst.{HInst}
use Rattle.hard_ir.specs.declared.instruction.HBlock.{HBlock}
use Rattle.hard_ir.specs.Image.{Table}
use Rattle.hard_ir.specs.Hardened.{HardParts, head_of, heads_of, hard_block, hard_blocks, hardened_by}
use Rattle.hard_ir.specs.Fit.{HardFunc, hard_funcs, HardLine, OuterLine, HBlockLine, HPhiLine, HInstLine, phi_lines, inst_lines, block_lines, blocks_lines, funcs_lines, outer_lines, AllKeep}
use Rattle.hard_ir.specs.EdgeChecks.{edge_phi, edge_phis, edge_check}
use Rattle.hard_laws.proofs.HardLines.{IsBlockOf, hard_of, hard-funcs, both}

-- ---- the module

-- a block, with the phis and the check of a name
abbrev pub edge_on : Option Loc → List Block → HBlock → HBlock
edge_on None blocks block = block
edge_on (Some name) blocks block = record block { phis = block.phis ++ edge_phis name blocks block.label; list = edge_check name ∷ block.list }

module _ (table : Table) where
  abbrev pub edge_blocks : FuncParts → (ℕ → Option Loc) → ℕ → List Block → List HBlock
  edge_blocks f of b [] = []
  edge_blocks f of b (block ∷ blocks) = edge_on (of b) f.blocks (hard_block table f b block) ∷ edge_blocks f of (b + 1) blocks

  abbrev pub edge_func : (ℕ → Option Loc) → FuncParts → HardFunc
  edge_func of f = (head_of f, edge_blocks f of 0 f.blocks)

  abbrev pub edge_funcs : (ℕ → ℕ → Option Loc) → ℕ → List FuncParts → List HardFunc
  edge_funcs ofs n [] = []
  edge_funcs ofs n (f ∷ funcs) = edge_func (ofs n) f ∷ edge_funcs ofs (n + 1) funcs

  abbrev pub edge_module : (ℕ → ℕ → Option Loc) → ModuleParts → HardParts
  edge_module ofs m = record { heads = heads_of m; funcs = map (λ f. f.1) (edge_funcs ofs 0 m.funcs) }

  edge-zip : (ofs : ℕ → ℕ → Option Loc) (n : ℕ) (funcs : List FuncParts) → zip (map head_of funcs) (map (λ (f : HardFunc). f.1) (edge_funcs ofs n funcs)) ≡ edge_funcs ofs n funcs
  edge-zip ofs n [] = refl
  edge-zip ofs n (f ∷ funcs) = ap (λ (rest : List HardFunc). edge_func (ofs n) f ∷ rest) (edge-zip ofs (n + 1) funcs)

  pub edge-funcs : (ofs : ℕ → ℕ → Option Loc) (m : ModuleParts) → hard_funcs (edge_module ofs m) ≡ edge_funcs ofs 0 m.funcs
  edge-funcs ofs m = edge-zip ofs 0 m.funcs

-- ---- rules

-- what keeps a rule without names for edges keeps another with them, and so do the new lines
pub record Passes (table : Table) (ofs : ℕ → ℕ → Option Loc) (m : ModuleParts) (before after : HardLine → Bool) : Type 0 where
  pub outer : (line : Line) → before (OuterLine line) ≡ true → after (OuterLine line) ≡ true
  pub block : (n b : ℕ) (f : FuncParts) (block : Block) → IsBlockOf m n f b block → before (HBlockLine n (hard_of table f) b (hard_block table f b block)) ≡ true
      → after (HBlockLine n (edge_func table (ofs n) f) b (edge_on (ofs n b) f.blocks (hard_block table f b block))) ≡ true
  pub phi : (n b i j : ℕ) (f : FuncParts) (block : Block) (phi : Side × Inst) → IsBlockOf m n f b block → before (HPhiLine n (hard_of table f) b i phi) ≡ true → after (HPhiLine n (edge_func table (ofs n) f) b j phi) ≡ true
  pub item : (n b i j : ℕ) (f : FuncParts) (block : Block) (item : HInst) → IsBlockOf m n f b block → before (HInstLine n (hard_of table f) b i item) ≡ true → after (HInstLine n (edge_func table (ofs n) f) b j item) ≡ true
  pub edge_phi : (n b i : ℕ) (f : FuncParts) (block : Block) (name : Loc) (side : Side) → IsBlockOf m n f b block → ofs n b ≡ Some name
      → after (HPhiLine n (edge_func table (ofs n) f) b i (edge_phi name f.blocks block.label side)) ≡ true
  pub edge_check : (n b i : ℕ) (f : FuncParts) (block : Block) (name : Loc) → IsBlockOf m n f b block → ofs n b ≡ Some name → after (HInstLine n (edge_func table (ofs n) f) b i (edge_check name)) ≡ true

module _ (table : Table) (ofs : ℕ → ℕ → Option Loc) (m : ModuleParts) (before after : HardLine → Bool) (passes : Passes table ofs m before after) where
  module _ (n b : ℕ) (f : FuncParts) (block : Block) (at : IsBlockOf m n f b block) where
    abbrev was : HardFunc
    was = hard_of table f

    abbrev now : HardFunc
    now = edge_func table (ofs n) f

    phis-pass : (phis : List (Side × Inst)) (i j : ℕ) → list_all before (phi_lines n was b i phis) ≡ true → list_all after (phi_lines n now b j phis) ≡ true
    phis-pass [] i j e = refl
    phis-pass (phi ∷ phis) i j e =
        let parts = both_true (before (HPhiLine n was b i phi)) (list_all before (phi_lines n was b (i + 1) phis)) e in
        both (passes.phi n b i j f block phi at parts.0) (phis-pass phis (i + 1) (j + 1) parts.1)

    items-pass : (items : List HInst) (i j : ℕ) → list_all before (inst_lines n was b i items) ≡ true → list_all after (inst_lines n now b j items) ≡ true
    items-pass [] i j e = refl
    items-pass (item ∷ items) i j e =
        let parts = both_true (before (HInstLine n was b i item)) (list_all before (inst_lines n was b (i + 1) items)) e in
        both (passes.item n b i j f block item at parts.0) (items-pass items (i + 1) (j + 1) parts.1)

    two-more : (phis : List (Side × Inst)) (x y : Side × Inst) (j : ℕ) → list_all after (phi_lines n now b j phis) ≡ true
        → ((k : ℕ) → after (HPhiLine n now b k x) ≡ true) → ((k : ℕ) → after (HPhiLine n now b k y) ≡ true) → list_all after (phi_lines n now b j (phis ++ x ∷ y ∷ [])) ≡ true
    two-more [] x y j e p q = both (p j) (both (q (j + 1)) refl)
    two-more (phi ∷ phis) x y j e p q =
        let parts = both_true (after (HPhiLine n now b j phi)) (list_all after (phi_lines n now b (j + 1) phis)) e in both parts.0 (two-more phis x y (j + 1) parts.1 p q)

    block-passes : list_all before (block_lines n was b (hard_block table f b block)) ≡ true → list_all after (block_lines n now b (edge_on (ofs n b) f.blocks (hard_block table f b block))) ≡ true
    block-passes e = both (passes.block n b f block at parts.0) (by_name (ofs n b) refl)
      where
        hard : HBlock
        hard = hard_block table f b block

        parts : (before (HBlockLine n was b (hard_block table f b block)) ≡ true)
            × (list_all before (phi_lines n was b 0 (hard_block table f b block).phis ++ inst_lines n was b (length (hard_block table f b block).phis) (hard_block table f b block).list) ≡ true)
        parts = both_true _ _ e

        rest : (list_all before (phi_lines n was b 0 (hard_block table f b block).phis) ≡ true) × (list_all before (inst_lines n was b (length (hard_block table f b block).phis) (hard_block table f b block).list) ≡ true)
        rest = both_true _ _ (flip (list_all-append before (phi_lines n was b 0 (hard_block table f b block).phis) (inst_lines n was b (length (hard_block table f b block).phis) (hard_block table f b block).list)) ∙ parts.1)

        by_name : (o : Option Loc) → ofs n b ≡ o
            → list_all after (phi_lines n now b 0 (edge_on o f.blocks (hard_block table f b block)).phis
            ++ inst_lines n now b (length (edge_on o f.blocks (hard_block table f b block)).phis) (edge_on o f.blocks (hard_block table f b block)).list) ≡ true
        by_name None e =
            list_all-append after (phi_lines n now b 0 (hard_block table f b block).phis) (inst_lines n now b (length (hard_block table f b block).phis) (hard_block table f b block).list)
            ∙ both (phis-pass (hard_block table f b block).phis 0 0 rest.0) (items-pass (hard_block table f b block).list _ _ rest.1)
        by_name (Some name) e =
            let phis : List (Side × Inst) = (hard_block table f b block).phis ++ edge_phis name f.blocks block.label in
            let list : List HInst = edge_check name ∷ (hard_block table f b block).list in
            list_all-append after (phi_lines n now b 0 phis) (inst_lines n now b (length phis) list)
            ∙ both
            (two-more (hard_block table f b block).phis (edge_phi name f.blocks block.label M) (edge_phi name f.blocks block.label S) 0 (phis-pass (hard_block table f b block).phis 0 0 rest.0)
            (λ k. passes.edge_phi n b k f block name M at e) (λ k. passes.edge_phi n b k f block name S at e))
            (both (passes.edge_check n b (length phis) f block name at e) (items-pass (hard_block table f b block).list _ _ rest.1))

  blocks-pass : (n b : ℕ) (f : FuncParts) (blocks : List Block) → slice_get m.funcs n ≡ Some f → ((k : ℕ) (block : Block) → slice_get blocks k ≡ Some block → slice_get f.blocks (b + k) ≡ Some block)
      → list_all before (blocks_lines n (hard_of table f) b (hard_blocks table f b blocks)) ≡ true → list_all after (blocks_lines n (edge_func table (ofs n) f) b (edge_blocks table f (ofs n) b blocks)) ≡ true
  blocks-pass n b f [] at there e = refl
  blocks-pass n b f (block ∷ blocks) at there e =
      let first : slice_get f.blocks b ≡ Some block = subst (λ (k : ℕ). slice_get f.blocks k ≡ Some block) (omega arith) (there 0 block refl) in
      let parts = both_true _ _ (flip (list_all-append before (block_lines n (hard_of table f) b (hard_block table f b block)) (blocks_lines n (hard_of table f) (b + 1) (hard_blocks table f (b + 1) blocks))) ∙ e) in
      list_all-append after (block_lines n (edge_func table (ofs n) f) b (edge_on (ofs n b) f.blocks (hard_block table f b block))) (blocks_lines n (edge_func table (ofs n) f) (b + 1) (edge_blocks table f (ofs n) (b + 1) blocks))
      ∙ both (block-passes n b f block (at, first) parts.0)
      (blocks-pass n (b + 1) f blocks at (λ k x h. subst (λ (j : ℕ). slice_get f.blocks j ≡ Some x) (omega arith) (there (suc k) x h)) parts.1)

  funcs-pass : (n : ℕ) (funcs : List FuncParts) → ((k : ℕ) (f : FuncParts) → slice_get funcs k ≡ Some f → slice_get m.funcs (n + k) ≡ Some f)
      → list_all before (funcs_lines n (map (hard_of table) funcs)) ≡ true → list_all after (funcs_lines n (edge_funcs table ofs n funcs)) ≡ true
  funcs-pass n [] there e = refl
  funcs-pass n (f ∷ funcs) there e =
      let at : slice_get m.funcs n ≡ Some f = subst (λ (k : ℕ). slice_get m.funcs k ≡ Some f) (omega arith) (there 0 f refl) in
      let head = both_true _ _ e in
      let parts = both_true _ _ (flip (list_all-append before (blocks_lines n (hard_of table f) 0 (hard_blocks table f 0 f.blocks)) (funcs_lines (n + 1) (map (hard_of table) funcs))) ∙ head.1) in
      both (passes.outer (HeadLine n (head_of f)) head.0)
      (list_all-append after (blocks_lines n (edge_func table (ofs n) f) 0 (edge_blocks table f (ofs n) 0 f.blocks)) (funcs_lines (n + 1) (edge_funcs table ofs (n + 1) funcs))
      ∙ both (blocks-pass n 0 f f.blocks at (λ k x h. subst (λ (j : ℕ). slice_get f.blocks j ≡ Some x) (omega arith) h) parts.0)
      (funcs-pass (n + 1) funcs (λ k x h. subst (λ (j : ℕ). slice_get m.funcs j ≡ Some x) (omega arith) (there (suc k) x h)) parts.1))

  outers-pass : (lines : List Line) → list_all before (map OuterLine lines) ≡ true → list_all after (map OuterLine lines) ≡ true
  outers-pass [] e = refl
  outers-pass (line ∷ lines) e = let parts = both_true _ _ e in both (passes.outer line parts.0) (outers-pass lines parts.1)

  pub all-pass : AllKeep before (hardened_by table m) → AllKeep after (edge_module table ofs m)
  all-pass e =
      let split = both_true _ _ (flip (list_all-append before (map OuterLine (outer_lines m)) (funcs_lines 0 (hard_funcs (hardened_by table m)))) ∙ e) in
      list_all-append after (map OuterLine (outer_lines m)) (funcs_lines 0 (hard_funcs (edge_module table ofs m)))
      ∙ both (outers-pass (outer_lines m) split.0)
      (ap (λ (funcs : List HardFunc). list_all after (funcs_lines 0 funcs)) (edge-funcs table ofs m)
      ∙ funcs-pass 0 m.funcs (λ k f h. subst (λ (j : ℕ). slice_get m.funcs j ≡ Some f) (omega arith) h) (flip (ap (λ (funcs : List HardFunc). list_all before (funcs_lines 0 funcs)) (hard-funcs table m)) ∙ split.1))

-- ---- what holds of all lines holds of those of a block

module _ (table : Table) (m : ModuleParts) (keeps : HardLine → Bool) where
  of-blocks : (n : ℕ) (hf : HardFunc) (f : FuncParts) (start i b : ℕ) (blocks : List Block) (block : Block) → b ≡ start + i → slice_get blocks i ≡ Some block
      → list_all keeps (blocks_lines n hf start (hard_blocks table f start blocks)) ≡ true → list_all keeps (block_lines n hf b (hard_block table f b block)) ≡ true
  of-blocks n hf f start i b [] block e at all = cc
  of-blocks n hf f start zero b (x ∷ blocks) block e at all =
      let same : x ≡ block = cc in
      let number : start ≡ b = omega (arith, e) in
      let parts = both_true _ _ (flip (list_all-append keeps (block_lines n hf start (hard_block table f start x)) (blocks_lines n hf (start + 1) (hard_blocks table f (start + 1) blocks))) ∙ all) in
      subst (λ (k : ℕ). list_all keeps (block_lines n hf k (hard_block table f k block)) ≡ true) number (subst (λ (y : Block). list_all keeps (block_lines n hf start (hard_block table f start y)) ≡ true) same parts.0)
  of-blocks n hf f start (suc i) b (x ∷ blocks) block e at all =
      let number : b ≡ (start + 1) + i = omega (arith, e) in
      let parts = both_true _ _ (flip (list_all-append keeps (block_lines n hf start (hard_block table f start x)) (blocks_lines n hf (start + 1) (hard_blocks table f (start + 1) blocks))) ∙ all) in
      of-blocks n hf f (start + 1) i b blocks block number at parts.1

  of-funcs : (start i n : ℕ) (funcs : List FuncParts) (f : FuncParts) → n ≡ start + i → slice_get funcs i ≡ Some f → list_all keeps (funcs_lines start (map (hard_of table) funcs)) ≡ true
      → list_all keeps (blocks_lines n (hard_of table f) 0 (hard_blocks table f 0 f.blocks)) ≡ true
  of-funcs start i n [] f e at all = cc
  of-funcs start zero n (x ∷ funcs) f e at all =
      let same : x ≡ f = cc in
      let number : start ≡ n = omega (arith, e) in
      let parts = both_true _ _ (flip (list_all-append keeps (blocks_lines start (hard_of table x) 0 (hard_blocks table x 0 x.blocks)) (funcs_lines (start + 1) (map (hard_of table) funcs))) ∙ (both_true _ _ all).1) in
      subst (λ (k : ℕ). list_all keeps (blocks_lines k (hard_of table f) 0 (hard_blocks table f 0 f.blocks)) ≡ true) number
      (subst (λ (y : FuncParts). list_all keeps (blocks_lines start (hard_of table y) 0 (hard_blocks table y 0 y.blocks)) ≡ true) same parts.0)
  of-funcs start (suc i) n (x ∷ funcs) f e at all =
      let number : n ≡ (start + 1) + i = omega (arith, e) in
      let parts = both_true _ _ (flip (list_all-append keeps (blocks_lines start (hard_of table x) 0 (hard_blocks table x 0 x.blocks)) (funcs_lines (start + 1) (map (hard_of table) funcs))) ∙ (both_true _ _ all).1) in
      of-funcs (start + 1) i n funcs f number at parts.1

  pub of-block : AllKeep keeps (hardened_by table m) → (n b : ℕ) (f : FuncParts) (block : Block) → IsBlockOf m n f b block
      → list_all keeps (block_lines n (hard_of table f) b (hard_block table f b block)) ≡ true
  of-block all n b f block at =
      let first : n ≡ 0 + n = omega arith in
      let second : b ≡ 0 + b = omega arith in
      let split = both_true _ _ (flip (list_all-append keeps (map OuterLine (outer_lines m)) (funcs_lines 0 (hard_funcs (hardened_by table m)))) ∙ all) in
      let funcs = of-funcs 0 n n m.funcs f first at.0 (flip (ap (λ (funcs : List HardFunc). list_all keeps (funcs_lines 0 funcs)) (hard-funcs table m)) ∙ split.1) in
      of-blocks n (hard_of table f) f 0 b b f.blocks block second at.1 funcs
