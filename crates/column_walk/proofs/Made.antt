-- The column of a hardened module that an earlier table makes is what the column's table makes of its source.
use Rattle.std.proofs.Common.{◌≡◌, ◌∙◌, ℕ, zero, suc, ◌+◌, ◌-◌, ◌&&◌, not, Bool, true, false, List, [], ◌∷◌, ◌++◌, length, map, slice_get, Option, Some, None, refl, ap, sym, subst, arith, append_assoc, append-nil}
use mathlib.Core.Path.{fun_ext}
use Rattle.std.specs.Prelude.{if◌then◌else◌, nat_eq}
use Rattle.std.specs.List.{filter_map, flat_map, cons_option, zip}
use Rattle.std.specs.Option.{option_map, option_map_or, option_or}
use Rattle.std.proofs.lemmas.Grind.{flat_map-append}
use Rattle.std.proofs.lemmas.List.Elements.{filter_map-append}
use Rattle.ir_core.proofs.Lengths.{both_true}
use Rattle.ir_core.specs.declared.types.Ty.{Ty}
use Rattle.ir_core.specs.declared.types.Loc.{Loc}
use Rattle.ir_core.specs.declared.instruction.Inst.{Inst}
use Rattle.ir_core.specs.declared.instruction.Inst.TheVariants as insts
use Rattle.ir_core.specs.declared.instruction.Block.{Block}
use Rattle.ir_core.specs.Instructions.{is_phi}
use Rattle.ir_core.specs.Module.{ModuleParts, FuncParts}
use Rattle.ir_flow.specs.Edges.{labels_of, last_labels, numbered_from, number_of, edge_to, edges_of_block, edges_from, edges_of, is_loop_head}
use Rattle.ir_check.specs.Blocks.{is_terminator, ends_well}
use Rattle.ir_check.specs.Faults.{IsAccepted}
use Rattle.hard_ir.specs.declared.instruction.HInst.{HInst}
use Rattle.hard_ir.specs.declared.instruction.HBlock.{HBlock}
use Rattle.hard_ir.specs.Image.{Table, unflagged, phi_image, check_table}
use Rattle.hard_ir.specs.Hardened.{HardParts, at_entry, at_head, hard_block, hard_blocks, hard_func, head_of, heads_of, hardened_by}
use Rattle.hard_laws.proofs.Accepted.{Sound, sound}
use Rattle.hard_laws.proofs.Shapes.{block-ends}
use Rattle.hard_laws.proofs.Rows.{check-is-table}
use Rattle.column_walk.specs.Columns.{ColumnParts, table_of, retired_by, retired, ending_by, outline, pairs_among, column_list, column_block, column_blocks, column_func, column_pair, column_funcs, column_module}

-- an instruction that isn't a phi, without flags
abbrev pub kept : Inst → List Inst
kept inst = if is_phi inst then [] else unflagged inst ∷ []

abbrev pub ending : Inst → List Inst
ending inst = if is_terminator inst then inst ∷ [] else []

-- what stands for an instruction retires it once and has its terminator, and what stands at entries and loop heads has none
pub record IsTelling (table : Table) : Type 0 where
  pub each : (inst : Inst) → retired (table.image inst) ≡ kept inst
  pub ends : (inst : Inst) → filter_map ending_by (table.image inst) ≡ ending inst
  pub entry : (params : List (Ty × Loc)) → retired (table.entry params) ≡ []
  pub entry_ends : (params : List (Ty × Loc)) → filter_map ending_by (table.entry params) ≡ []
  pub head : retired table.head ≡ []
  pub head_ends : filter_map ending_by table.head ≡ []

-- a column makes nothing of phis, and the same of an instruction without its flags
abbrev pub IsBlind : ColumnParts → Type 0
IsBlind c = (inst : Inst) → flat_map c.image (kept inst) ≡ c.image inst

module _ (table : Table) (tells : IsTelling table) where
  -- ---- what a list retires

  at-entry : (f : FuncParts) (n : ℕ) → retired (at_entry table f n) ≡ []
  at-entry f zero = tells.entry f.params
  at-entry f (suc n) = refl

  at-entry-ends : (f : FuncParts) (n : ℕ) → filter_map ending_by (at_entry table f n) ≡ []
  at-entry-ends f zero = tells.entry_ends f.params
  at-entry-ends f (suc n) = refl

  at-head : (is_head : Bool) → retired (at_head table is_head) ≡ []
  at-head true = tells.head
  at-head false = refl

  at-head-ends : (is_head : Bool) → filter_map ending_by (at_head table is_head) ≡ []
  at-head-ends true = tells.head_ends
  at-head-ends false = refl

  retired-images : (body : List Inst) → retired (flat_map table.image body) ≡ flat_map kept body
  retired-images [] = refl
  retired-images (inst ∷ body) =
      filter_map-append retired_by (table.image inst) (flat_map table.image body)
      ∙ ap (λ (xs : List Inst). xs ++ retired (flat_map table.image body)) (tells.each inst)
      ∙ ap (λ (xs : List Inst). kept inst ++ xs) (retired-images body)

  ending-images : (body : List Inst) → filter_map ending_by (flat_map table.image body) ≡ flat_map ending body
  ending-images [] = refl
  ending-images (inst ∷ body) =
      filter_map-append ending_by (table.image inst) (flat_map table.image body)
      ∙ ap (λ (xs : List Inst). xs ++ filter_map ending_by (flat_map table.image body)) (tells.ends inst)
      ∙ ap (λ (xs : List Inst). ending inst ++ xs) (ending-images body)

  whole : (by : HInst → Option Inst) (f : FuncParts) (n : ℕ) (is_head : Bool) (body : List Inst)
      → filter_map by (at_entry table f n) ≡ [] → filter_map by (at_head table is_head) ≡ []
      → filter_map by (at_entry table f n ++ (at_head table is_head ++ flat_map table.image body)) ≡ filter_map by (flat_map table.image body)
  whole by f n is_head body e g =
      filter_map-append by (at_entry table f n) (at_head table is_head ++ flat_map table.image body)
      ∙ ap (λ (xs : List Inst). xs ++ filter_map by (at_head table is_head ++ flat_map table.image body)) e
      ∙ filter_map-append by (at_head table is_head) (flat_map table.image body)
      ∙ ap (λ (xs : List Inst). xs ++ filter_map by (flat_map table.image body)) g

  -- ---- outlines

  -- the terminator of a body is its last instruction
  ending-labels : (body : List Inst) → ends_well body ≡ true → last_labels (flat_map ending body) ≡ last_labels body
  ending-labels [] e = absurd cc
  ending-labels (inst ∷ []) e = by_test (is_terminator inst) e
    where
      by_test : (b : Bool) → b ≡ true → last_labels ((if b then inst ∷ [] else []) ++ []) ≡ last_labels (inst ∷ [])
      by_test true e = refl
      by_test false e = absurd cc
  ending-labels (inst ∷ next ∷ body) e = by_test (is_terminator inst) (both_true (not (is_terminator inst)) (ends_well (next ∷ body)) e) (ending-labels (next ∷ body))
    where
      place : length (inst ∷ next ∷ body) - 1 ≡ suc (length (next ∷ body) - 1)
      place = omega arith

      behind : last_labels (next ∷ body) ≡ last_labels (inst ∷ next ∷ body)
      behind = sym (ap (λ (k : ℕ). option_map_or labels_of (slice_get (inst ∷ next ∷ body) k) []) place)

      by_test : (b : Bool) → (not b ≡ true) × (ends_well (next ∷ body) ≡ true) → (ends_well (next ∷ body) ≡ true → last_labels (flat_map ending (next ∷ body)) ≡ last_labels (next ∷ body))
          → last_labels ((if b then inst ∷ [] else []) ++ flat_map ending (next ∷ body)) ≡ last_labels (inst ∷ next ∷ body)
      by_test true (e, g) rest = absurd cc
      by_test false (e, g) rest = rest g ∙ behind

  outline-labels : (f : FuncParts) (n : ℕ) (block : Block) → ends_well block.insts ≡ true → last_labels (outline (hard_block table f n block)).insts ≡ last_labels block.insts
  outline-labels f n block e =
      let is_head = is_loop_head (edges_of f).pairs n in
      ap last_labels (whole ending_by f n is_head block.insts (at-entry-ends f n) (at-head-ends is_head) ∙ ending-images block.insts) ∙ ending-labels block.insts e

  abbrev outlines : FuncParts → ℕ → List Block → List Block
  outlines f n blocks = map outline (hard_blocks table f n blocks)

  numbers-same : (f : FuncParts) (n k : ℕ) (blocks : List Block) (at : Loc) → numbered_from k (outlines f n blocks) at ≡ numbered_from k blocks at
  numbers-same f n k [] at = refl
  numbers-same f n k (block ∷ blocks) at = ap (λ (o : Option ℕ). option_or o (if nat_eq block.label.0 at.0 then Some k else None)) (numbers-same f (n + 1) (k + 1) blocks at)

  abbrev AllEnd : List Block → Type 0
  AllEnd blocks = (i : ℕ) (block : Block) → slice_get blocks i ≡ Some block → ends_well block.insts ≡ true

  edges-same : (f : FuncParts) (all other : List Block) (n k : ℕ) (blocks : List Block) → number_of all ≡ number_of other → AllEnd blocks
      → edges_from all k (outlines f n blocks) ≡ edges_from other k blocks
  edges-same f all other n k [] e ends = refl
  edges-same f all other n k (block ∷ blocks) e ends =
      ap (λ (labels : List Loc). filter_map (edge_to all k) labels ++ edges_from all (k + 1) (outlines f (n + 1) blocks)) (outline-labels f n block (ends 0 block refl))
      ∙ ap (λ (number : Loc → Option ℕ). filter_map (λ (at : Loc). option_map (λ (to : ℕ). (k, to)) (number at)) (last_labels block.insts) ++ edges_from all (k + 1) (outlines f (n + 1) blocks)) e
      ∙ ap (λ (rest : List (ℕ × ℕ)). edges_of_block other k block ++ rest) (edges-same f all other (n + 1) (k + 1) blocks e (λ i x h. ends (suc i) x h))

  pairs-same : (f : FuncParts) → AllEnd f.blocks → pairs_among (map outline (hard_func table f)) ≡ (edges_of f).pairs
  pairs-same f ends = edges-same f (outlines f 0 f.blocks) f.blocks 0 0 f.blocks (fun_ext (λ at. numbers-same f 0 0 f.blocks at)) ends

  -- ---- the column

  module _ (c : ColumnParts) (blind : IsBlind c) where
    images : (body : List Inst) → flat_map c.image (flat_map kept body) ≡ flat_map c.image body
    images [] = refl
    images (inst ∷ body) =
        flat_map-append c.image (kept inst) (flat_map kept body)
        ∙ ap (λ (xs : List HInst). xs ++ flat_map c.image (flat_map kept body)) (blind inst)
        ∙ ap (λ (xs : List HInst). c.image inst ++ xs) (images body)

    images-of : (f : FuncParts) (n : ℕ) (block : Block) → flat_map c.image (retired (hard_block table f n block).list) ≡ flat_map c.image block.insts
    images-of f n block =
        let is_head = is_loop_head (edges_of f).pairs n in
        ap (flat_map c.image) (whole retired_by f n is_head block.insts (at-entry f n) (at-head is_head) ∙ retired-images block.insts) ∙ images block.insts

    entry-same : (f : FuncParts) (n : ℕ) → at_entry (table_of c) (head_of f) n ≡ at_entry (table_of c) f n
    entry-same f zero = refl
    entry-same f (suc n) = refl

    abbrev with_list : Block → List HInst → HBlock
    with_list block list = record { label = block.label; phis = flat_map phi_image block.insts; list = list }

    block-made : (f : FuncParts) (n : ℕ) (block : Block) → column_block c (head_of f) (edges_of f).pairs n (hard_block table f n block) ≡ hard_block (table_of c) f n block
    block-made f n block =
        ap (λ (list : List HInst). with_list block (list ++ (at_head (table_of c) (is_loop_head (edges_of f).pairs n) ++ flat_map c.image (retired (hard_block table f n block).list)))) (entry-same f n)
        ∙ ap (λ (list : List HInst). with_list block (at_entry (table_of c) f n ++ (at_head (table_of c) (is_loop_head (edges_of f).pairs n) ++ list))) (images-of f n block)

    blocks-made : (f : FuncParts) (n : ℕ) (blocks : List Block) → column_blocks c (head_of f) (edges_of f).pairs n (hard_blocks table f n blocks) ≡ hard_blocks (table_of c) f n blocks
    blocks-made f n [] = refl
    blocks-made f n (block ∷ blocks) =
        ap (λ (b : HBlock). b ∷ column_blocks c (head_of f) (edges_of f).pairs (n + 1) (hard_blocks table f (n + 1) blocks)) (block-made f n block)
        ∙ ap (λ (bs : List HBlock). hard_block (table_of c) f n block ∷ bs) (blocks-made f (n + 1) blocks)

    func-made : (f : FuncParts) → AllEnd f.blocks → column_func c (head_of f) (hard_func table f) ≡ hard_func (table_of c) f
    func-made f ends =
        ap (λ (pairs : List (ℕ × ℕ)). column_blocks c (head_of f) pairs 0 (hard_func table f)) (pairs-same f ends) ∙ blocks-made f 0 f.blocks

    funcs-made : (funcs : List FuncParts) → ((n : ℕ) (f : FuncParts) → slice_get funcs n ≡ Some f → AllEnd f.blocks)
        → column_funcs c (map head_of funcs) (map (hard_func table) funcs) ≡ map (hard_func (table_of c)) funcs
    funcs-made [] ends = refl
    funcs-made (f ∷ funcs) ends =
        ap (λ (bs : List HBlock). bs ∷ column_funcs c (map head_of funcs) (map (hard_func table) funcs)) (func-made f (ends 0 f refl))
        ∙ ap (λ (fs : List (List HBlock)). hard_func (table_of c) f ∷ fs) (funcs-made funcs (λ n g h. ends (suc n) g h))

    -- of a whole module
    abbrev with_blocks : ModuleParts → List (List HBlock) → HardParts
    with_blocks m funcs = record { heads = heads_of m; funcs = funcs }

    pub column_made : (m : ModuleParts) → IsAccepted m → column_module c (hardened_by table m) ≡ hardened_by (table_of c) m
    column_made m accepted =
        ap (with_blocks m) (funcs-made m.funcs (λ n f at i block h. block-ends check_table check-is-table m (sound m accepted) n i f block (at, h)))
