-- A hardened module some of whose blocks check their edges is an image of its source under other numbers.
use Rattle.std.proofs.Common.{append-nil, ℕ, zero, suc, ◌≡◌, ◌≢◌, ◌∙◌, ◌+◌, ◌<◌, ◌≤◌, Bool, true, false, List, [], ◌∷◌, ◌++◌, map, length, Option, Some, None, slice_get, refl, ap, sym as flip, subst, arith}
use Rattle.std.specs.Prelude.{nat_eq}
use Rattle.std.specs.List.{All, flat_map, list_any}
use Rattle.std.specs.Option.{option_map}
use Rattle.std.proofs.lemmas.List.{map-append, length-map}
use Rattle.std.proofs.lemmas.Bool.{eqb-true}
use Rattle.std.proofs.lemmas.Option.{slice_get-map}
use Rattle.ir_core.proofs.Lengths.{both_true}
use Rattle.ir_core.specs.declared.types.Ty.{Ty}
use Rattle.ir_core.specs.declared.types.Ty.TheVariants as types
use Rattle.ir_core.specs.declared.types.Loc.{Loc}
use Rattle.ir_core.specs.declared.types.Width.TheVariants.{W1}
use Rattle.ir_core.specs.declared.values.Val.{Val}
use Rattle.ir_core.specs.declared.values.Val.TheVariants as values
use Rattle.ir_core.specs.declared.values.Side.{Side}
use Rattle.ir_core.specs.declared.values.Side.TheVariants.{M, S}
use Rattle.ir_core.specs.declared.instruction.Inst.{Inst}
use Rattle.ir_core.specs.declared.instruction.Inst.TheVariants as insts
use Rattle.ir_core.specs.declared.instruction.Block.{Block}
use Rattle.ir_core.specs.Instructions.{result_of}
use Rattle.ir_core.specs.Module.{ModuleParts, FuncParts}
use Rattle.ir_flow.specs.Uses.{reg_in, regs_in, arms_in}
use Rattle.ir_lines.specs.Lines.{BlockLine}
use Rattle.ir_check.specs.Blocks.{ends_well, begins_well}
use Rattle.ir_numbering.specs.Renaming.{Renaming, renamed_loc, renamed_inst, renamed_block, renamed_param, renamed_func, renamed_val}
use Rattle.hard_ir.specs.declared.instruction.HBlock.{HBlock}
use Rattle.hard_ir.specs.Image.{phi_image, split_table, ticked}
use Rattle.hard_ir.specs.Hardened.{head_of, hard_block, hard_blocks, hard_func, ticked_block}
use Rattle.hard_ir.specs.Facts.{IsShort, list_limit}
use Rattle.hard_ir.specs.Fit.{HardFunc, plain_block}
use Rattle.hard_ir.specs.Lines.{in_option, in_arm, registers_of}
use Rattle.hard_ir.specs.Standing.{renamed_item}
use Rattle.hard_ir.specs.Images.{names_in, names_of, is_named, EdgeNames, IsBlockImage, IsFuncImage, IsCode}
use Rattle.hard_ir.specs.EdgeChecks
use Rattle.hard_laws.proofs.Accepted.{Sound, block-line, of-code}
use Rattle.hard_laws.proofs.Rows.{split-is-table}
use Rattle.hard_laws.proofs.ImageRows.{all-got, ticked-code}
use Rattle.renamed_modules.proofs.RenamedTypes.{IsApart}
use Rattle.renamed_modules.proofs.RenamedLines.{flat-images, result-same}
use Rattle.renamed_modules.proofs.RenamedFlow.{ends-same, inst-regs, arms-same}
use Rattle.edge_laws.proofs.Staying.{inside}
use Rattle.edge_laws.proofs.RaisedNumbers.{raised-apart, new-apart}
use Rattle.edge_laws.proofs.Renumbered.{block-moved, func-moved}
use Rattle.edge_laws.proofs.Ends.{EndAlike, target-alike, arms-alike, blocks-end, target-same}
use Rattle.edge_laws.proofs.RaisedTicks.{raised-code}
use Rattle.edge_laws.proofs.Anchors.{anchor-apart, has-mark}

-- ---- a function under other numbers

-- a hardened function
abbrev pub hard_of : ModuleParts → FuncParts → HardFunc
hard_of m f = (head_of f, map ticked_block (hard_func (split_table m) f))

-- its source under the numbers that leave room for the new names
abbrev pub renumbered : ModuleParts → (ℕ → Bool) → FuncParts → FuncParts
renumbered m chosen f =
    let marks = EdgeChecks.marks_of chosen (hard_of m f) in
    record (renamed_func (EdgeChecks.raising marks) f) { names = EdgeChecks.with_names marks 0 f.names }

-- ---- lists

edged-at : (chosen : ℕ → Bool) (f : HardFunc) (marks : EdgeChecks.Marks) (all : List Block) (start i b : ℕ) (blocks : List HBlock) (hard : HBlock) → b ≡ start + i
    → slice_get (EdgeChecks.edged_blocks chosen f marks all start blocks) i ≡ Some hard
    → (old : HBlock) × (slice_get blocks i ≡ Some old) × (EdgeChecks.edged_block (EdgeChecks.is_edged chosen (EdgeChecks.plain_blocks f) b old) marks all old ≡ hard)
edged-at chosen f marks all start i b [] hard e at = cc
edged-at chosen f marks all start zero b (x ∷ blocks) hard e at =
    let number : start ≡ b = omega (arith, e) in
    (x, refl, ap (λ (k : ℕ). EdgeChecks.edged_block (EdgeChecks.is_edged chosen (EdgeChecks.plain_blocks f) k x) marks all x) (flip number) ∙ (let same : EdgeChecks.edged_block (EdgeChecks.is_edged chosen (EdgeChecks.plain_blocks f) start x) marks all x ≡ hard = cc in same))
edged-at chosen f marks all start (suc i) b (x ∷ blocks) hard e at = edged-at chosen f marks all (suc start) i b blocks hard (omega (arith, e)) at

edged-length : (chosen : ℕ → Bool) (f : HardFunc) (marks : EdgeChecks.Marks) (all : List Block) (start : ℕ) (blocks : List HBlock) → length (EdgeChecks.edged_blocks chosen f marks all start blocks) ≡ length blocks
edged-length chosen f marks all start [] = refl
edged-length chosen f marks all start (x ∷ blocks) = ap suc (edged-length chosen f marks all (suc start) blocks)

hard-at : (m : ModuleParts) (f : FuncParts) (start i b : ℕ) (blocks : List Block) (old : HBlock) → b ≡ start + i → slice_get (map ticked_block (hard_blocks (split_table m) f start blocks)) i ≡ Some old
    → (block : Block) × (slice_get blocks i ≡ Some block) × (ticked_block (hard_block (split_table m) f b block) ≡ old)
hard-at m f start i b [] old e at = cc
hard-at m f start zero b (x ∷ blocks) old e at =
    let number : start ≡ b = omega (arith, e) in
    (x, refl, ap (λ (k : ℕ). ticked_block (hard_block (split_table m) f k x)) (flip number) ∙ (let same : ticked_block (hard_block (split_table m) f start x) ≡ old = cc in same))
hard-at m f start (suc i) b (x ∷ blocks) old e at = hard-at m f (start + 1) i b blocks old (omega (arith, e)) at

hard-length : (m : ModuleParts) (f : FuncParts) (start : ℕ) (blocks : List Block) → length (map ticked_block (hard_blocks (split_table m) f start blocks)) ≡ length blocks
hard-length m f start [] = refl
hard-length m f start (x ∷ blocks) = ap suc (hard-length m f (start + 1) blocks)

renamed-at : (r : Renaming) (blocks : List Block) (b : ℕ) (made : Block) → slice_get (map (renamed_block r) blocks) b ≡ Some made → (block : Block) × (slice_get blocks b ≡ Some block) × (renamed_block r block ≡ made)
renamed-at r [] b made at = cc
renamed-at r (x ∷ blocks) zero made at = (x, refl, cc)
renamed-at r (x ∷ blocks) (suc b) made at = renamed-at r blocks b made at

pub edged-count : (m : ModuleParts) (chosen : ℕ → Bool) (f : FuncParts) → length (EdgeChecks.edged_func chosen (hard_of m f)).1 ≡ length (renumbered m chosen f).blocks
edged-count m chosen f =
    let hf = hard_of m f in
    let marks = EdgeChecks.marks_of chosen hf in
    edged-length chosen hf marks (map plain_block (map (EdgeChecks.renamed_hard_block (EdgeChecks.raising marks)) hf.1)) 0 hf.1 ∙ hard-length m f 0 f.blocks ∙ flip (length-map f.blocks (renamed_block (EdgeChecks.raising marks)))

-- ---- names

abbrev pub name_if : ModuleParts → (ℕ → Bool) → FuncParts → Bool → HBlock → Option Loc
name_if m chosen f true block = Some (EdgeChecks.name_for (EdgeChecks.marks_of chosen (hard_of m f)) block)
name_if m chosen f false block = None

abbrev pub name_by : ModuleParts → (ℕ → Bool) → FuncParts → ℕ → Option HBlock → Option Loc
name_by m chosen f b None = None
name_by m chosen f b (Some block) = name_if m chosen f (EdgeChecks.is_edged chosen (EdgeChecks.plain_blocks (hard_of m f)) b block) block

-- the name of a block that checks its edges
abbrev pub name_at : ModuleParts → (ℕ → Bool) → FuncParts → ℕ → Option Loc
name_at m chosen f b = name_by m chosen f b (slice_get (hard_of m f).1 b)

-- ---- one function

module _ (m : ModuleParts) (chosen : ℕ → Bool) (sound : Sound m) (n : ℕ) (f : FuncParts) (here : slice_get m.funcs n ≡ Some f) where
  abbrev hf : HardFunc
  hf = hard_of m f

  abbrev pub marks : EdgeChecks.Marks
  marks = EdgeChecks.marks_of chosen hf

  abbrev pub loc : ℕ → ℕ
  loc = EdgeChecks.raised marks

  abbrev r : Renaming
  r = inside loc

  pub apart : IsApart loc
  apart a b e = raised-apart marks a b e

  abbrev pub g : FuncParts
  g = renumbered m chosen f

  well : (b : ℕ) (block : Block) → slice_get f.blocks b ≡ Some block → ends_well block.insts ≡ true
  well b block at =
      (both_true (ends_well block.insts) (begins_well block.insts) (sound.terminators (BlockLine n f b block) (of-code m (BlockLine n f b block) (block-line m n b f block (here, at))))).0

  pub well-again : (b : ℕ) (made : Block) → slice_get g.blocks b ≡ Some made → ends_well made.insts ≡ true
  well-again b made at =
      let own = renamed-at r f.blocks b made at in
      subst (λ (x : Block). ends_well x.insts ≡ true) own.2 (ends-same r apart own.0.insts ∙ well b own.0 own.1)

  -- what is known of a block with a name
  pub record Named (b : ℕ) (name : Loc) : Type 0 where
    pub old : HBlock
    pub at : slice_get hf.1 b ≡ Some old
    pub edged : EdgeChecks.is_edged chosen (EdgeChecks.plain_blocks hf) b old ≡ true
    pub is : EdgeChecks.name_for marks old ≡ name
    pub block : Block
    pub source : slice_get f.blocks b ≡ Some block
    pub made : ticked_block (hard_block (split_table m) f b block) ≡ old

  pub named : (b : ℕ) (name : Loc) → name_at m chosen f b ≡ Some name → Named b name
  named b name e = by_block (slice_get hf.1 b) refl e
    where
      by_test : (old : HBlock) → slice_get hf.1 b ≡ Some old → (c : Bool) → EdgeChecks.is_edged chosen (EdgeChecks.plain_blocks hf) b old ≡ c → name_if m chosen f c old ≡ Some name → Named b name
      by_test old at true edged e =
          let own = hard-at m f 0 b b f.blocks old (omega arith) at in
          record { old = old; at = at; edged = edged; is = cc; block = own.0; source = own.1; made = own.2 }
      by_test old at false edged e = cc

      by_block : (o : Option HBlock) → slice_get hf.1 b ≡ o → name_by m chosen f b o ≡ Some name → Named b name
      by_block None at e = cc
      by_block (Some old) at e = by_test old at (EdgeChecks.is_edged chosen (EdgeChecks.plain_blocks hf) b old) refl e

  -- ---- new names

  pub marked : (b : ℕ) (name : Loc) (own : Named b name) → 1 ≤ length (EdgeChecks.names_after (EdgeChecks.anchor_of own.old) marks)
  marked b name own = has-mark chosen hf hf.1 0 b b own.old own.at (omega arith) own.edged

  locs-moved : (at : Option Loc) → in_option (option_map (renamed_loc r) at) ≡ map (renamed_loc r) (in_option at)
  locs-moved None = refl
  locs-moved (Some at) = refl

  arm-moved : (arm : Val × Loc) → in_arm (renamed_val r arm.0, renamed_loc r arm.1) ≡ map (renamed_loc r) (in_arm arm)
  arm-moved arm = value-moved arm.0
    where
      value-moved : (val : Val) → reg_in (renamed_val r val) ≡ map (renamed_loc r) (reg_in val)
      value-moved (values.Reg at) = refl
      value-moved (values.Int n) = refl
      value-moved values.Null = refl
      value-moved (values.Global name) = refl
      value-moved (values.Gep gep) = refl

  registers-moved : (inst : Inst) → registers_of (renamed_inst r inst) ≡ map (renamed_loc r) (registers_of inst)
  registers-moved inst =
      let arms : flat_map in_arm (arms_in (renamed_inst r inst)) ≡ map (renamed_loc r) (flat_map in_arm (arms_in inst)) =
      ap (flat_map in_arm) (arms-same r apart f f.names inst) ∙ flat-images (λ (arm : Val × Loc). (renamed_val r arm.0, renamed_loc r arm.1)) in_arm in_arm (renamed_loc r) arm-moved (arms_in inst) in
      ap (λ (o : Option Loc). in_option o ++ (regs_in (renamed_inst r inst) ++ flat_map in_arm (arms_in (renamed_inst r inst)))) (result-same r inst)
      ∙ ap (λ (xs : List Loc). xs ++ (regs_in (renamed_inst r inst) ++ flat_map in_arm (arms_in (renamed_inst r inst)))) (locs-moved (result_of inst))
      ∙ ap (λ (xs : List Loc). map (renamed_loc r) (in_option (result_of inst)) ++ (xs ++ flat_map in_arm (arms_in (renamed_inst r inst)))) (inst-regs r apart f f.names inst)
      ∙ ap (λ (xs : List Loc). map (renamed_loc r) (in_option (result_of inst)) ++ (map (renamed_loc r) (regs_in inst) ++ xs)) arms
      ∙ ap (λ (xs : List Loc). map (renamed_loc r) (in_option (result_of inst)) ++ xs) (flip (map-append (renamed_loc r) (regs_in inst) (flat_map in_arm (arms_in inst))))
      ∙ flip (map-append (renamed_loc r) (in_option (result_of inst)) (regs_in inst ++ flat_map in_arm (arms_in inst)))

  names-moved : names_of g ≡ map (renamed_loc r) (names_of f)
  names-moved =
      let params : map (λ (param : Ty × Loc). param.1) (map (renamed_param r) f.params) ≡ map (renamed_loc r) (map (λ (param : Ty × Loc). param.1) f.params) = by_params f.params in
      let blocks : flat_map names_in (map (renamed_block r) f.blocks) ≡ map (renamed_loc r) (flat_map names_in f.blocks) =
      flat-images (renamed_block r) names_in names_in (renamed_loc r)
      (λ block. ap (λ (xs : List Loc). renamed_loc r block.label ∷ xs) (flat-images (renamed_inst r) registers_of registers_of (renamed_loc r) registers-moved block.insts)) f.blocks in
      ap (λ (xs : List Loc). xs ++ flat_map names_in (map (renamed_block r) f.blocks)) params
      ∙ ap (λ (xs : List Loc). map (renamed_loc r) (map (λ (param : Ty × Loc). param.1) f.params) ++ xs) blocks
      ∙ flip (map-append (renamed_loc r) (map (λ (param : Ty × Loc). param.1) f.params) (flat_map names_in f.blocks))
    where
      by_params : (params : List (Ty × Loc)) → map (λ (param : Ty × Loc). param.1) (map (renamed_param r) params) ≡ map (renamed_loc r) (map (λ (param : Ty × Loc). param.1) params)
      by_params [] = refl
      by_params (param ∷ params) = ap (λ (rest : List Loc). renamed_loc r param.1 ∷ rest) (by_params params)

  none-raised : (at : ℕ) → ((k : ℕ) → at ≢ loc k) → (locs : List Loc) → list_any (λ (name : Loc). nat_eq name.0 at) (map (renamed_loc r) locs) ≡ false
  none-raised at other [] = refl
  none-raised at other (x ∷ locs) = by_test (nat_eq (loc x.0) at) refl (none-raised at other locs)
    where
      by_test : (b : Bool) → nat_eq (loc x.0) at ≡ b → list_any (λ (name : Loc). nat_eq name.0 at) (map (renamed_loc r) locs) ≡ false
          → list_any (λ (name : Loc). nat_eq name.0 at) (map (renamed_loc r) (x ∷ locs)) ≡ false
      by_test true e rest = absurd (other x.0 (flip (eqb-true (loc x.0) at e)))
      by_test false e rest = rw e rest

  pub new-name : (b : ℕ) (name : Loc) → Named b name → is_named g name ≡ false
  new-name b name own =
      let anchor : ℕ = EdgeChecks.anchor_of own.old in
      let number : suc (loc anchor) ≡ name.0 = ap (λ (x : Loc). x.0) own.is in
      ap (list_any (λ (x : Loc). nat_eq x.0 name.0)) names-moved
      ∙ none-raised name.0 (λ k e. new-apart marks anchor k (marked b name own) (number ∙ e)) (names_of f)

  pub one-block : (i j : ℕ) (name : Loc) → Named i name → Named j name → i ≡ j
  one-block i j name a b =
      let both : suc (loc (EdgeChecks.anchor_of a.old)) ≡ suc (loc (EdgeChecks.anchor_of b.old)) = ap (λ (x : Loc). x.0) (a.is ∙ flip b.is) in
      let same : EdgeChecks.anchor_of a.old ≡ EdgeChecks.anchor_of b.old = apart _ _ (omega (arith, both)) in
      anchor-apart m sound n f here (split_table m) i j a.block b.block a.source b.source (ap EdgeChecks.anchor_of a.made ∙ same ∙ flip (ap EdgeChecks.anchor_of b.made))

  -- ---- targets

  pub ends-old : EndAlike (EdgeChecks.plain_blocks hf) f.blocks
  ends-old = blocks-end (split_table m) (split-is-table m) f 0 f.blocks well

  target-old : (b : ℕ) (old : HBlock) → EdgeChecks.is_edged chosen (EdgeChecks.plain_blocks hf) b old ≡ true → EdgeChecks.is_edge_target f.blocks old.label ≡ true
  target-old b old e = flip (target-alike old.label (EdgeChecks.plain_blocks hf) f.blocks ends-old) ∙ (both_true (chosen b) (EdgeChecks.is_edge_target (EdgeChecks.plain_blocks hf) old.label) e).1

  pub leads-there : (b : ℕ) (block : Block) (name : Loc) → slice_get g.blocks b ≡ Some block → Named b name → EdgeChecks.is_edge_target g.blocks block.label ≡ true
  leads-there b block name at own =
      let from = renamed-at r f.blocks b block at in
      let found : Some own.block ≡ Some from.0 = flip own.source ∙ from.1 in
      let same : own.block ≡ from.0 = cc in
      let label : renamed_loc r own.old.label ≡ block.label = ap (λ (x : HBlock). renamed_loc r x.label) (flip own.made) ∙ ap (λ (x : Block). renamed_loc r x.label) same ∙ ap (λ (x : Block). x.label) from.2 in
      subst (λ (x : Loc). EdgeChecks.is_edge_target g.blocks x ≡ true) label (target-same loc apart own.old.label f.blocks ∙ target-old b own.old own.edged)

  pub edge-names : EdgeNames g
  edge-names = record {
    of = name_at m chosen f;
    target = λ b block name at e. leads-there b block name at (named b name e);
    new = λ b name e. new-name b name (named b name e);
    single = λ i j name e h. one-block i j name (named i name e) (named j name h);
  }

  -- ---- blocks

  module _ (other : ModuleParts) (syms : other.syms ≡ m.syms) where
    -- the hardened blocks of the source under the other numbers
    abbrev pub all : List HBlock
    all = map ticked_block (hard_func (split_table other) g)

    pub all-moved : map (EdgeChecks.renamed_hard_block r) hf.1 ≡ all
    all-moved = flip (func-moved loc m other syms apart f g.names)

    ends-new : EndAlike (map plain_block all) g.blocks
    ends-new = blocks-end (split_table other) (split-is-table other) g 0 g.blocks well-again

    pub same-arms : (at : Loc) (side : Side) → map (EdgeChecks.edge_arm at side) (EdgeChecks.predecessors (map plain_block (map (EdgeChecks.renamed_hard_block r) hf.1)) at) ≡ map (EdgeChecks.edge_arm at side) (EdgeChecks.predecessors g.blocks at)
    same-arms at side =
        ap (λ (blocks : List HBlock). map (EdgeChecks.edge_arm at side) (EdgeChecks.predecessors (map plain_block blocks) at)) all-moved
        ∙ arms-alike at side (map plain_block all) g.blocks ends-new

    same-phis : (name at : Loc) → EdgeChecks.edge_phis name (map plain_block (map (EdgeChecks.renamed_hard_block r) hf.1)) at ≡ EdgeChecks.edge_phis name g.blocks at
    same-phis name at =
        ap (λ (arms : List (Val × Loc)). (M, insts.Phi name (types.Int W1) arms) ∷ EdgeChecks.edge_phi name (map plain_block (map (EdgeChecks.renamed_hard_block r) hf.1)) at S ∷ []) (same-arms at M)
        ∙ ap (λ (arms : List (Val × Loc)). EdgeChecks.edge_phi name g.blocks at M ∷ (S, insts.Phi name (types.Int W1) arms) ∷ []) (same-arms at S)

    -- a block, with its checks where it has a name
    abbrev pub with_name : Option Loc → HBlock → HBlock
    with_name None block = block
    with_name (Some name) block = EdgeChecks.edge_block name g.blocks block

    -- what a block of the edged function is made of
    pub record Made (b : ℕ) (hard : HBlock) : Type 0 where
      pub block : Block
      pub source : slice_get g.blocks b ≡ Some block
      pub is : with_name (name_at m chosen f b) (ticked_block (hard_block (split_table other) g b block)) ≡ hard
      pub old : HBlock
      pub at : slice_get hf.1 b ≡ Some old
      pub moved : EdgeChecks.renamed_hard_block r old ≡ ticked_block (hard_block (split_table other) g b block)

    edge-block-by : (name : Loc) (block : HBlock) → EdgeChecks.edge_block name (map plain_block (map (EdgeChecks.renamed_hard_block r) hf.1)) block ≡ EdgeChecks.edge_block name g.blocks block
    edge-block-by name block =
        ap (λ (phis : List (Side × Inst)). let made : HBlock = record block { phis = block.phis ++ phis; list = EdgeChecks.edge_check name ∷ EdgeChecks.first_tick_raised block.list } in made) (same-phis name block.label)

    pub made-of : (b : ℕ) (hard : HBlock) → slice_get (EdgeChecks.edged_func chosen hf).1 b ≡ Some hard → Made b hard
    made-of b hard at =
        let plain = map plain_block (map (EdgeChecks.renamed_hard_block r) hf.1) in
        let edge = edged-at chosen hf marks plain 0 b b hf.1 hard (omega arith) at in
        let own = hard-at m f 0 b b f.blocks edge.0 (omega arith) edge.1 in
        let there : slice_get g.blocks b ≡ Some (renamed_block r own.0) = slice_get-map (renamed_block r) f.blocks b ∙ ap (option_map (renamed_block r)) own.1 in
        let moved : EdgeChecks.renamed_hard_block r edge.0 ≡ ticked_block (hard_block (split_table other) g b (renamed_block r own.0)) =
        ap (EdgeChecks.renamed_hard_block r) (flip own.2) ∙ flip (block-moved loc m other syms apart f g.names b own.0) in
        record { block = renamed_block r own.0; source = there; is = by_test edge.0 edge.1 edge.2 moved (EdgeChecks.is_edged chosen (EdgeChecks.plain_blocks hf) b edge.0) refl; old = edge.0; at = edge.1; moved = moved }
      where
        by_test : (old : HBlock) → slice_get hf.1 b ≡ Some old
            → EdgeChecks.edged_block (EdgeChecks.is_edged chosen (EdgeChecks.plain_blocks hf) b old) marks (map plain_block (map (EdgeChecks.renamed_hard_block r) hf.1)) old ≡ hard
            → {new : HBlock} → EdgeChecks.renamed_hard_block r old ≡ new → (c : Bool) → EdgeChecks.is_edged chosen (EdgeChecks.plain_blocks hf) b old ≡ c → with_name (name_at m chosen f b) new ≡ hard
        by_test old there is {new} moved true e =
            let name : name_at m chosen f b ≡ Some (EdgeChecks.name_for marks old) = ap (name_by m chosen f b) there ∙ ap (λ (c : Bool). name_if m chosen f c old) e in
            ap (λ (o : Option Loc). with_name o new) name ∙ ap (EdgeChecks.edge_block (EdgeChecks.name_for marks old) g.blocks) (flip moved)
            ∙ flip (edge-block-by (EdgeChecks.name_for marks old) (EdgeChecks.renamed_hard_block r old))
            ∙ ap (λ (c : Bool). EdgeChecks.edged_block c marks (map plain_block (map (EdgeChecks.renamed_hard_block r) hf.1)) old) (flip e) ∙ is
        by_test old there is {new} moved false e =
            let name : name_at m chosen f b ≡ None = ap (name_by m chosen f b) there ∙ ap (λ (c : Bool). name_if m chosen f c old) e in
            ap (λ (o : Option Loc). with_name o new) name ∙ flip moved
            ∙ ap (λ (c : Bool). EdgeChecks.edged_block c marks (map plain_block (map (EdgeChecks.renamed_hard_block r) hf.1)) old) (flip e) ∙ is

    -- ---- the function

    module _ (short : All IsShort hf.1) where
      pub short-made : (b : ℕ) (hard : HBlock) (made : Made b hard) → length (ticked 0 (hard_block (split_table other) g b made.block).list) < list_limit
      short-made b hard made =
          let own : length made.old.list < list_limit = all-got IsShort hf.1 b made.old short made.at in
          let same : length (EdgeChecks.renamed_hard_block r made.old).list ≡ length made.old.list = length-map made.old.list (renamed_item r) in
          let here : length (EdgeChecks.renamed_hard_block r made.old).list ≡ length (ticked 0 (hard_block (split_table other) g b made.block).list) = ap (λ (x : HBlock). length x.list) made.moved in
          omega (arith, own, same, here)

      with-name-image : (b : ℕ) (block : Block) (o : Option Loc) → length (ticked 0 (hard_block (split_table other) g b block).list) < list_limit
          → IsBlockImage (IsCode other) g b block o (with_name o (ticked_block (hard_block (split_table other) g b block)))
      with-name-image b block None small = record {
        label = refl;
        phis = flip (append-nil (flat_map phi_image block.insts));
        code = ticked 0 (hard_block (split_table other) g b block).list;
        list = refl;
        keeps = ticked-code other g b block small;
      }
      with-name-image b block (Some name) small = record {
        label = refl;
        phis = refl;
        code = EdgeChecks.first_tick_raised (ticked 0 (hard_block (split_table other) g b block).list);
        list = refl;
        keeps = raised-code other g b block small;
      }

      block-image : (b : ℕ) (block : Block) (hard : HBlock) → slice_get g.blocks b ≡ Some block → slice_get (EdgeChecks.edged_func chosen hf).1 b ≡ Some hard → IsBlockImage (IsCode other) g b block (name_at m chosen f b) hard
      block-image b block hard at there =
          let made = made-of b hard there in
          let found : Some made.block ≡ Some block = flip made.source ∙ at in
          let same : made.block ≡ block = cc in
          subst (IsBlockImage (IsCode other) g b block (name_at m chosen f b)) made.is
          (subst (λ (x : Block). IsBlockImage (IsCode other) g b block (name_at m chosen f b) (with_name (name_at m chosen f b) (ticked_block (hard_block (split_table other) g b x)))) (flip same)
          (with-name-image b block (name_at m chosen f b) (subst (λ (x : Block). length (ticked 0 (hard_block (split_table other) g b x).list) < list_limit) same (short-made b hard made))))

      pub func-image : IsFuncImage (IsCode other) g (EdgeChecks.edged_func chosen hf).1
      unfolding edge-names
      func-image = record {
        edges = edge-names;
        count = edged-count m chosen f;
        each = block-image;
      }
