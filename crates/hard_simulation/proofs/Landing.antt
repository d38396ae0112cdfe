-- Blocks as a frame lands on them: their phis on each side, what stands behind those, and their labels.
use Rattle.std.proofs.Common.{ℕ, suc, ◌≡◌, ◌+◌, ◌∙◌, true, not, List, [], ◌∷◌, map, Option, Some, None, refl, ap, arith, slice_get, drop}
use Rattle.std.specs.Prelude.{nat_eq, if◌then◌else◌}
use Rattle.std.specs.List.{flat_map, filter_map, list_any}
use Rattle.std.specs.Option.{option_map_or, option_or}
use Rattle.ir_core.proofs.Lengths.{both_true}
use Rattle.ir_core.specs.declared.types.Ty.{Ty}
use Rattle.ir_core.specs.declared.types.Loc.{Loc}
use Rattle.ir_core.specs.declared.values.Side.{Side}
use Rattle.ir_core.specs.declared.values.Side.TheVariants.{M, S}
use Rattle.ir_core.specs.declared.instruction.Inst.{Inst}
use Rattle.ir_core.specs.declared.instruction.Inst.TheVariants as insts
use Rattle.ir_core.specs.declared.instruction.Block.{Block}
use Rattle.ir_core.specs.Module.{ModuleParts, FuncParts}
use Rattle.ir_flow.specs.Edges.{numbered_from, number_of}
use Rattle.ir_lines.specs.Lines.{BlockLine}
use Rattle.ir_check.specs.Blocks.{ends_well, begins_well}
use Rattle.ir_check.specs.Faults.{IsAccepted}
use Rattle.inst_meaning.specs.Phis.{phi_count, phis_of}
use Rattle.ir_core.specs.Instructions.{is_phi}
use Rattle.src_meaning.specs.State.{blocks_at as source_blocks}
use Rattle.hard_ir.specs.declared.instruction.HInst.{HInst}
use Rattle.hard_ir.specs.declared.instruction.HBlock.{HBlock}
use Rattle.hard_ir.specs.Image.{phi_image}
use Rattle.hard_ir.specs.Hardened.{HardParts}
use Rattle.hard_laws.proofs.Accepted.{sound, of-code, block-line}
use Rattle.hard_frames.specs.Code.{blocks_at}
use Rattle.hard_frames.specs.Frames.{phi_on, labelled, number_in}
use Rattle.hard_simulation.specs.Image.{Image, Over, Marked, Phi, Next, AreBlockImages, IsImage, copied_at}

-- ---- phis

-- instructions without phis have none on either side
none-on-side : (side : Side) (body : List Inst) → not (list_any is_phi body) ≡ true → filter_map (phi_on side) (flat_map phi_image body) ≡ []
none-on-side side [] plain = refl
none-on-side side (insts.Phi dst ty arms ∷ body) plain = absurd cc
none-on-side side (inst ∷ body) plain = none-on-side side body plain

-- one phi more
phi-first : (phi : Inst) (body phis : List Inst) → is_phi phi ≡ true → phis ≡ phis_of body → phi ∷ phis ≡ phis_of (phi ∷ body)
phi-first phi body phis is e =
    let one : 1 + phi_count body ≡ suc (phi_count body) = omega arith in
    rw (is, one) (ap (λ (rest : List Inst). phi ∷ rest) e)

-- the phis of a side are those at the head of the block, in order
pub phis-on-side : (side : Side) (body : List Inst) → begins_well body ≡ true → filter_map (phi_on side) (flat_map phi_image body) ≡ phis_of body
phis-on-side side [] well = refl
phis-on-side M (insts.Phi dst ty arms ∷ body) well = phi-first (insts.Phi dst ty arms) body _ refl (phis-on-side M body well)
phis-on-side S (insts.Phi dst ty arms ∷ body) well = phi-first (insts.Phi dst ty arms) body _ refl (phis-on-side S body well)
phis-on-side side (inst ∷ body) well = none-on-side side body well

-- ---- blocks of an accepted module

pub begins-well-at : (m : ModuleParts) (n b : ℕ) (block : Block) → IsAccepted m → slice_get (source_blocks m.funcs n) b ≡ Some block
    → begins_well block.insts ≡ true
begins-well-at m n b block accepted at = by_func (slice_get m.funcs n) refl at
  where
    by_func : (o : Option FuncParts) → slice_get m.funcs n ≡ o → slice_get (option_map_or (λ (f : FuncParts). f.blocks) o []) b ≡ Some block
        → begins_well block.insts ≡ true
    by_func None e at = absurd cc
    by_func (Some f) e at =
        let keeps = (sound m accepted).terminators (BlockLine n f b block) (of-code m (BlockLine n f b block) (block-line m n b f block (e, at))) in
        (both_true (ends_well block.insts) (begins_well block.insts) keeps).1

-- ---- behind the phis

pub image-behind-phis : (body : List Inst) (code : List HInst) → Image body code → Image (drop (phi_count body) body) code
image-behind-phis body code (Over e f) = rw e (Over refl f)
image-behind-phis body code (Marked rest e image) = Marked rest e (image-behind-phis body rest image)
image-behind-phis body code (Phi phi behind e is image) =
    let one : 1 + phi_count behind ≡ suc (phi_count behind) = omega arith in
    rw (e, is, one) (image-behind-phis behind code image)
image-behind-phis body code (Next inst behind ticks rest e plain f image) = rw (e, plain) (Next inst behind ticks rest refl plain f image)

-- ---- labels

-- the blocks at a place have one label, or neither list has one there
abbrev pub SameLabel : Option Block → Option HBlock → Type 0
SameLabel None None = Unit {0}
SameLabel (Some block) (Some hard) = hard.label ≡ block.label
SameLabel block hard = ⊥

label-of-image : (copied : List (Ty × Loc)) (block : Option Block) (hard : Option HBlock) → AreBlockImages copied block hard → SameLabel block hard
label-of-image copied None None is = tt
label-of-image copied (Some block) (Some hard) is = is.label
label-of-image copied None (Some hard) is = absurd is
label-of-image copied (Some block) None is = absurd is

pub numbers-same : (n : ℕ) (hards : List HBlock) (blocks : List Block) (label : Loc)
    → ((b : ℕ) → SameLabel (slice_get blocks b) (slice_get hards b)) → numbered_from n (map labelled hards) label ≡ numbered_from n blocks label
numbers-same n [] [] label same = refl
numbers-same n [] (block ∷ blocks) label same = absurd (same 0)
numbers-same n (hard ∷ hards) [] label same = absurd (same 0)
numbers-same n (hard ∷ hards) (block ∷ blocks) label same =
    let rest = numbers-same (n + 1) hards blocks label (λ b. same (suc b)) in
    ap (λ (o : Option ℕ). option_or o (if nat_eq hard.label.0 label.0 then Some n else None)) rest
    ∙ ap (λ (own : Loc). option_or (numbered_from (n + 1) blocks label) (if nat_eq own.0 label.0 then Some n else None)) (same 0)

pub number-of-labels : (m : ModuleParts) (h : HardParts) (n : ℕ) (label : Loc) → IsImage m h
    → number_in (blocks_at h n) label ≡ number_of (source_blocks m.funcs n) label
number-of-labels m h n label is =
    numbers-same 0 (blocks_at h n) (source_blocks m.funcs n) label
    (λ b. label-of-image (copied_at m n b) (slice_get (source_blocks m.funcs n) b) (slice_get (blocks_at h n) b) (is.blocks n b))
