-- The hardened module of the whole image table is a loose image of its source, however long its lists are.
use Rattle.std.proofs.Common.{ℕ, zero, suc, ◌≡◌, ◌∙◌, ◌+◌, Bool, true, false, List, [], ◌∷◌, ◌++◌, map, length, slice_get, Option, Some, None, refl, ap, sym, subst, arith, append-nil, append_assoc}
use Rattle.std.specs.List.{flat_map, list_all}
use Rattle.std.proofs.lemmas.List.{length-map}
use Rattle.ir_core.specs.declared.instruction.Inst.{Inst}
use Rattle.ir_core.specs.declared.instruction.Block.{Block}
use Rattle.ir_core.specs.Module.{ModuleParts, FuncParts}
use Rattle.ir_flow.specs.Edges.{edges_of, is_loop_head}
use Rattle.hard_ir.specs.declared.instruction.HInst.{HInst}
use Rattle.hard_ir.specs.declared.instruction.HInst.TheVariants.{Begin}
use Rattle.hard_ir.specs.declared.instruction.HBlock.{HBlock}
use Rattle.hard_ir.specs.Image.{copy_of, phi_image, cut_point, row, split_table, ticked}
use Rattle.hard_ir.specs.Hardened.{at_entry, at_head, hard_block, hard_blocks, hard_func, ticked_block, harden}
use Rattle.hard_ir.specs.Images.{EdgeNames, IsBlockImage, IsFuncImage, LooseRows, CutMark, BeginMark, IsLooseCode, IsLooseImage}
use Rattle.hard_laws.proofs.ImageRows.{is_tickless, table-rows, entry-tickless, head-tickless, ticked-tickless, ticked-rows, rows-loose}

module _ (m : ModuleParts) where
  -- a point where a transaction may be cut is two marks
  marked : {body : List Inst} {rest : List HInst} → LooseRows m body rest → LooseRows m body (cut_point ++ rest)
  marked {body} {rest} rows = CutMark (Begin ∷ rest) refl (BeginMark rest refl rows)

  marked-if : (loops : Bool) {body : List Inst} {rest : List HInst} → LooseRows m body rest → LooseRows m body (at_head (split_table m) loops ++ rest)
  marked-if true rows = marked rows
  marked-if false rows = rows

  -- ---- a block

  abbrev coded : FuncParts → ℕ → Block → List HInst
  coded f b block = (hard_block (split_table m) f b block).list

  -- what has no ticks stays as it is when ticks get their numbers
  passed : (since : ℕ) (xs ys : List HInst) → list_all is_tickless xs ≡ true → (after : ℕ) × (ticked since (xs ++ ys) ≡ xs ++ ticked after ys)
  passed since xs ys e = (_, ticked-tickless since xs ys e)

  -- the list of a block is its entry, the point of a loop head and rows with other numbers
  record Parted (f : FuncParts) (b : ℕ) (block : Block) : Type 0 where
    rest : List HInst
    is : ticked 0 (coded f b block) ≡ at_entry (split_table m) f b ++ (at_head (split_table m) (is_loop_head (edges_of f).pairs b) ++ rest)
    rows : LooseRows m block.insts rest

  parted : (f : FuncParts) (b : ℕ) (block : Block) → Parted f b block
  parted f b block =
      let entry = at_entry (split_table m) f b in
      let head = at_head (split_table m) (is_loop_head (edges_of f).pairs b) in
      let body = flat_map (row m 0) block.insts in
      let first = passed 0 entry (head ++ body) (entry-tickless m f b) in
      let second = passed first.0 head body (head-tickless m (is_loop_head (edges_of f).pairs b)) in
      record {
        rest = ticked second.0 body;
        is = first.1 ∙ ap (λ (code : List HInst). entry ++ code) second.1;
        rows = rows-loose m (ticked-rows m second.0 (table-rows m block.insts));
      }

  loose-code : (f : FuncParts) (b : ℕ) (block : Block) → IsLooseCode m f b block (ticked 0 (coded f b block))
  loose-code f zero block =
      let parts = parted f zero block in
      let head = at_head (split_table m) (is_loop_head (edges_of f).pairs 0) in
      record {
        rest = cut_point ++ (head ++ parts.rest);
        is = parts.is ∙ append_assoc (map copy_of f.params) cut_point (head ++ parts.rest);
        rows = marked (marked-if (is_loop_head (edges_of f).pairs 0) parts.rows);
      }
  loose-code f (suc b) block =
      let parts = parted f (suc b) block in
      record {
        rest = at_head (split_table m) (is_loop_head (edges_of f).pairs (suc b)) ++ parts.rest;
        is = parts.is;
        rows = marked-if (is_loop_head (edges_of f).pairs (suc b)) parts.rows;
      }

  block-image : (f : FuncParts) (b : ℕ) (block : Block) → IsBlockImage (IsLooseCode m) f b block None (ticked_block (hard_block (split_table m) f b block))
  block-image f b block = record {
    label = refl;
    phis = sym (append-nil (flat_map phi_image block.insts));
    code = ticked 0 (coded f b block);
    list = refl;
    keeps = loose-code f b block;
  }

  -- ---- functions and the module

  -- no block has a name for its edges
  no_edges : (f : FuncParts) → EdgeNames f
  no_edges f = record {
    of = λ b. None;
    target = λ b block name at e. let clash : None ≡ Some name = e in cc;
    new = λ b name e. let clash : None ≡ Some name = e in cc;
    single = λ a b name e g. let clash : None ≡ Some name = e in cc;
  }

  hard-count : (f : FuncParts) (b : ℕ) (blocks : List Block) → length (hard_blocks (split_table m) f b blocks) ≡ length blocks
  hard-count f b [] = refl
  hard-count f b (block ∷ blocks) = ap suc (hard-count f (b + 1) blocks)

  blocks-image : (f : FuncParts) (start b place : ℕ) (blocks : List Block) (block : Block) (hard : HBlock) → place ≡ start + b
      → slice_get blocks b ≡ Some block → slice_get (map ticked_block (hard_blocks (split_table m) f start blocks)) b ≡ Some hard
      → IsBlockImage (IsLooseCode m) f place block None hard
  blocks-image f start b place [] block hard e at there = let clash : None ≡ Some block = at in cc
  blocks-image f start zero place (first ∷ blocks) block hard e at there =
      let same : first ≡ block = cc in
      let made : ticked_block (hard_block (split_table m) f start first) ≡ hard = cc in
      let number : start ≡ place = omega arith in
      subst (λ (n : ℕ). IsBlockImage (IsLooseCode m) f n block None hard) number
      (subst (λ (x : Block). IsBlockImage (IsLooseCode m) f start x None hard) same (subst (IsBlockImage (IsLooseCode m) f start first None) made (block-image f start first)))
  blocks-image f start (suc b) place (first ∷ blocks) block hard e at there = blocks-image f (start + 1) b place blocks block hard (omega arith) at there

  func-image : (f : FuncParts) → IsFuncImage (IsLooseCode m) f (map ticked_block (hard_func (split_table m) f))
  unfolding no_edges
  func-image f = record {
    edges = no_edges f;
    count = length-map (hard_func (split_table m) f) ticked_block ∙ hard-count f 0 f.blocks;
    each = λ b block hard at there. blocks-image f 0 b b f.blocks block hard (omega arith) at there;
  }

  funcs-image : (funcs : List FuncParts) (n : ℕ) (f : FuncParts) (blocks : List HBlock) → slice_get funcs n ≡ Some f
      → slice_get (map (map ticked_block) (map (hard_func (split_table m)) funcs)) n ≡ Some blocks → IsFuncImage (IsLooseCode m) f blocks
  funcs-image [] n f blocks at there = let clash : None ≡ Some f = at in cc
  funcs-image (first ∷ funcs) zero f blocks at there =
      let same : first ≡ f = cc in
      let made : map ticked_block (hard_func (split_table m) first) ≡ blocks = cc in
      subst (λ (x : FuncParts). IsFuncImage (IsLooseCode m) x blocks) same (subst (IsFuncImage (IsLooseCode m) first) made (func-image first))
  funcs-image (first ∷ funcs) (suc n) f blocks at there = funcs-image funcs n f blocks at there

  pub hardened-is-loose : IsLooseImage m (harden m)
  hardened-is-loose = record {
    heads = refl;
    count = length-map (map (hard_func (split_table m)) m.funcs) (map ticked_block) ∙ length-map m.funcs (hard_func (split_table m));
    each = λ n f blocks at there. funcs-image m.funcs n f blocks at there;
  }
