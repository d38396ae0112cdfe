-- A branch along an edge: where the source lands, the hardened program lands too, as far as its known sides tell.
use Rattle.std.proofs.Common.{ℕ, zero, suc, ◌≡◌, ◌∙◌, ◌==◌, true, not, List, [], length, Option, Some, None, slice_get, refl, ap, sym, subst}
use Rattle.std.specs.List.{filter_map}
use Rattle.std.specs.Option.{option_map, option_and_then, option_map_or}
use Rattle.ir_core.specs.declared.types.Ty.{Ty}
use Rattle.ir_core.specs.declared.types.Loc.{Loc}
use Rattle.ir_core.specs.declared.values.Side.{Side}
use Rattle.ir_core.specs.declared.values.Side.TheVariants.{M, S}
use Rattle.ir_core.specs.declared.instruction.Inst.{Inst}
use Rattle.ir_core.specs.declared.instruction.Block.{Block}
use Rattle.ir_core.specs.Module.{ModuleParts, FuncParts}
use Rattle.ir_layout.specs.Memory.{LayoutParts, layout_of}
use Rattle.ir_flow.specs.Edges.{edges_of, labels_of, number_of}
use Rattle.ir_lines.specs.Lines.{BlockLine}
use Rattle.ir_check.specs.Blocks.{enters}
use Rattle.ir_check.specs.Faults.{IsAccepted}
use Rattle.inst_meaning.specs.Phis.{phis_of, phi_words, all_assigned}
use Rattle.inst_laws.proofs.Agreement.{phis-same, all_assigned-agrees}
use Rattle.inst_laws.specs.Agreement.{Agree}
use Rattle.src_meaning.specs.declared.state.Frame.{Frame as SourceFrame}
use Rattle.src_meaning.specs.State as source_state
use Rattle.src_meaning.specs.Step as source
use Rattle.ir_check.proofs.Members.{IsIn, any-in}
use Rattle.src_laws.proofs.Labels.{is-edge}
use Rattle.src_laws.proofs.Ends.{terminator-last}
use Rattle.src_laws.proofs.Accepted.{block-ends}
use Rattle.src_laws.proofs.Suits.{JumpsTo}
use Rattle.src_laws.proofs.Placed.{IsPlaced, in-block}
use Rattle.hard_laws.proofs.Accepted.{sound, block-line, of-code}
use Rattle.hard_ir.specs.declared.instruction.HInst.{HInst}
use Rattle.hard_ir.specs.declared.instruction.HBlock.{HBlock}
use Rattle.hard_ir.specs.Hardened.{HardParts}
use Rattle.hard_frames.specs.declared.state.Frame.{Frame}
use Rattle.hard_frames.specs.Code as hard_text
use Rattle.hard_frames.specs.Frames as hard_frame
use Rattle.hard_simulation.specs.Image.{Image, IsImage, IsBlockImage, copied_at, copies_onto}
use Rattle.hard_simulation.proofs.Sides.{Sides, On, IsHurt, on-map, hurt-if}
use Rattle.hard_simulation.proofs.Points.{source_code, hard_code, At, IsFrame}
use Rattle.hard_simulation.proofs.Headed.{heads-layout}
use Rattle.hard_simulation.proofs.Entries.{hard-block}
use Rattle.hard_simulation.proofs.Landing.{phis-on-side, begins-well-at, image-behind-phis, number-of-labels}

-- where the source lands at this frame, the hardened program lands at one that stands for it, or is lost since some side is hurt
pub data IsLanding (m : ModuleParts) (h : HardParts) (sides : Sides) (frame : SourceFrame) (o : Option Frame) : Type 0 where
  Lost : o ≡ None → IsHurt sides → IsLanding m h sides frame o
  Landed : (other : Frame) → o ≡ Some other → IsFrame m h sides frame other → IsLanding m h sides frame o

-- the edge along which a branch goes
pub record Lands (l : LayoutParts) (blocks : List Block) (a : SourceFrame) (label : Loc) (frame : SourceFrame) : Type 0 where
  pub from : Block
  pub leaves : slice_get blocks a.block ≡ Some from
  pub n : ℕ
  pub number : number_of blocks label ≡ Some n
  pub target : Block
  pub there : slice_get blocks n ≡ Some target
  pub words : List (Loc × ℕ)
  pub taken : phi_words l a.registers from.label (phis_of target.insts) ≡ Some words
  pub is : source.landed a n target words ≡ frame

pub lands-of : (l : LayoutParts) (blocks : List Block) (a : SourceFrame) (label : Loc) (frame : SourceFrame)
    → source.jump_in l blocks a label ≡ Some frame → Lands l blocks a label frame
lands-of l blocks a label frame e = by_from (slice_get blocks a.block) refl e
  where
    by_words : (from target : Block) (n : ℕ) → slice_get blocks a.block ≡ Some from → number_of blocks label ≡ Some n
        → slice_get blocks n ≡ Some target
        → (o : Option (List (Loc × ℕ))) → phi_words l a.registers from.label (phis_of target.insts) ≡ o
        → option_map (source.landed a n target) o ≡ Some frame → Lands l blocks a label frame
    by_words from target n x y z None w k = cc
    by_words from target n x y z (Some words) w k = record
        { from = from; leaves = x; n = n; number = y; target = target; there = z; words = words; taken = w; is = cc }

    by_target : (from : Block) (n : ℕ) → slice_get blocks a.block ≡ Some from → number_of blocks label ≡ Some n
        → (o : Option Block) → slice_get blocks n ≡ o → option_and_then (source.land l a from n) o ≡ Some frame → Lands l blocks a label frame
    by_target from n x y None z k = cc
    by_target from n x y (Some target) z k = by_words from target n x y z (phi_words l a.registers from.label (phis_of target.insts)) refl k

    by_number : (from : Block) → slice_get blocks a.block ≡ Some from
        → (o : Option ℕ) → number_of blocks label ≡ o → option_and_then (λ n. option_and_then (source.land l a from n) (slice_get blocks n)) o ≡ Some
        frame → Lands l blocks a label frame
    by_number from x None y k = cc
    by_number from x (Some n) y k = by_target from n x y (slice_get blocks n) refl k

    by_from : (o : Option Block) → slice_get blocks a.block ≡ o → option_and_then (source.jump_from l blocks a label) o ≡ Some frame
        → Lands l blocks a label frame
    by_from None x k = cc
    by_from (Some from) x k = by_number from x (number_of blocks label) refl k

-- no branch leads to the entry of a function
pub never-enters : (m : ModuleParts) (n b i : ℕ) (f : FuncParts) (block entry : Block) (inst : Inst) (label : Loc) → IsAccepted m
    → slice_get m.funcs n ≡ Some f
    → slice_get f.blocks b ≡ Some block → slice_get block.insts i ≡ Some inst → length block.insts ≡ suc i → IsIn label (labels_of inst)
    → number_of f.blocks label ≡ Some 0 → slice_get f.blocks 0 ≡ Some entry → ⊥
never-enters m n b i f block entry inst label accepted at there stands last one number first =
    let edge : ℕ × ℕ = (b, 0) in
    let leads : IsIn edge (edges_of f).pairs = is-edge f b 0 i block inst label there stands last one number in
    let entered : enters f ≡ true = any-in (λ edge. edge.1 == 0) edge (edges_of f).pairs leads refl in
    let keeps : not (enters f) ≡ true = (sound m accepted).entries (BlockLine n f 0 entry)
    (of-code m (BlockLine n f 0 entry) (block-line m n 0 f entry (at, first))) in
    let never : not true ≡ true = ap not (sym entered) ∙ keeps in cc

module _ (m : ModuleParts) (h : HardParts) (image : IsImage m h) (accepted : IsAccepted m) (sides : Sides) (a : SourceFrame) (b : Frame)
    (function : b.function ≡ a.function) (block : b.block ≡ a.block) (mark : b.mark ≡ a.mark) (masters : On sides M (Agree b.masters a.registers))
    (shadows : On sides S (Agree b.shadows a.registers)) where
  -- the phis of a side that is known take the words of the source
  side-words : (side : Side) (file : List (Option ℕ)) (from : Loc) (words : List (Loc × ℕ)) (insts : List Inst) (target : HBlock)
      → hard_frame.phis_on side target ≡ phis_of insts
      → Agree file a.registers → phi_words (layout_of m) a.registers from (phis_of insts) ≡ Some words
      → phi_words (layout_of h.heads) file from (hard_frame.phis_on side target) ≡ Some words
  side-words side file from words insts target phis agree taken = rw (phis, heads-layout m h image)
      (phis-same (layout_of m) file a.registers agree from (phis_of insts) ∙ taken)

  module _ (inst : Inst) (label : Loc) (placed : IsPlaced m a.function a.block a.index a.registers) (there : source_state.inst_at m a ≡ Some inst)
      (jumps : JumpsTo inst label) where
    blocks-are : source_state.blocks_at m.funcs a.function ≡ placed.f.blocks
    blocks-are = ap (λ (o : Option FuncParts). option_map_or (λ (f : FuncParts). f.blocks) o []) placed.stands

    -- the block to which it goes is no entry
    copied-none : (n : ℕ) (target : Block) → number_of (source_state.blocks_at m.funcs a.function) label ≡ Some n
        → slice_get (source_state.blocks_at m.funcs a.function) n ≡ Some target
        → copied_at m a.function n ≡ []
    copied-none (suc n) target number at = refl
    copied-none zero target number at =
        let here = in-block placed.f.blocks a.block a.index inst
        (ap (λ (blocks : List Block). slice_get (source_state.code_at blocks a.block) a.index) (sym blocks-are) ∙ there) in
        let ends = block-ends m a.function a.block placed.f here.block accepted placed.stands here.there in
        let last = terminator-last here.block.insts a.index inst ends here.at jumps.0 in
        absurd (never-enters m a.function a.block a.index placed.f here.block target inst label accepted placed.stands here.there here.at last jumps.2
        (ap (λ (blocks : List Block). number_of blocks label) (sym blocks-are) ∙ number)
        (ap (λ (blocks : List Block). slice_get blocks 0) (sym blocks-are) ∙ at))

    pub lands : (frame : SourceFrame) → source.jumped m a label ≡ Some frame → IsLanding m h sides frame (hard_frame.jumped h b label)
    lands frame e = subst (λ (o : Option Frame). IsLanding m h sides frame o) (sym jumped-is)
        (by_words (hard_frame.words_on (layout_of h.heads) b from.0.label there-to.0 M) (hard_frame.words_on (layout_of h.heads) b from.0.label there-to.0 S)
        refl refl)
      where
        way : Lands (layout_of m) (source_state.blocks_at m.funcs a.function) a label frame
        way = lands-of (layout_of m) (source_state.blocks_at m.funcs a.function) a label frame e

        from : (from : HBlock) × (slice_get (hard_text.blocks_at h a.function) a.block ≡ Some from) × IsBlockImage (copied_at m a.function a.block)
            way.from from
        from = hard-block m h image a.function a.block way.from way.leaves

        there-to : (target : HBlock) × (slice_get (hard_text.blocks_at h a.function) way.n ≡ Some target) × IsBlockImage
            (copied_at m a.function way.n) way.target target
        there-to = hard-block m h image a.function way.n way.target way.there

        jumped-is : hard_frame.jumped h b label ≡ hard_frame.landed_with b way.n (hard_frame.words_on (layout_of h.heads) b from.0.label there-to.0 M)
            (hard_frame.words_on (layout_of h.heads) b from.0.label there-to.0 S)
        jumped-is = rw (function, block, from.1, number-of-labels m h a.function label image, way.number, there-to.1) refl

        words-same : (side : Side) (file : List (Option ℕ)) → Agree file a.registers
            → phi_words (layout_of h.heads) file from.0.label (hard_frame.phis_on side there-to.0) ≡ Some way.words
        words-same side file agree = rw from.2.label (side-words side file way.from.label way.words way.target.insts there-to.0
            (ap (λ phis. filter_map (hard_frame.phi_on side) phis) there-to.2.phis
            ∙ phis-on-side side way.target.insts (begins-well-at m a.function way.n way.target accepted way.there)) agree way.taken)

        landed-frame : (on_masters on_shadows : List (Loc × ℕ)) → hard_frame.words_on (layout_of h.heads) b from.0.label there-to.0 M ≡ Some on_masters
            → hard_frame.words_on (layout_of h.heads) b from.0.label there-to.0 S ≡ Some on_shadows
            → IsFrame m h sides (source.landed a way.n way.target way.words) (hard_frame.landed b on_masters on_shadows way.n)
        landed-frame on_masters on_shadows x y = record {
          function = function;
          block = refl;
          mark = mark;
          point = At (subst (λ (code : List HInst). Image (source_code m (source.landed a way.n way.target way.words)) code) (sym code-is)
              image-there)
              (on-map sides M _ _ (λ (agree : Agree b.masters a.registers). file-after b.masters on_masters agree (words-same M b.masters agree) x)
              masters)
              (on-map sides S _ _ (λ (agree : Agree b.shadows a.registers). file-after b.shadows on_shadows agree (words-same S b.shadows agree) y)
              shadows);
        }
          where
            file-after : (file : List (Option ℕ)) (words : List (Loc × ℕ)) → Agree file a.registers → {o : Option (List (Loc × ℕ))}
                → o ≡ Some way.words → o ≡ Some words
                → Agree (all_assigned words file) (all_assigned way.words a.registers)
            file-after file words agree known taken =
                let same : words ≡ way.words = cc in
                subst (λ (given : List (Loc × ℕ)). Agree (all_assigned given file) (all_assigned way.words a.registers)) (sym same)
                (all_assigned-agrees way.words file a.registers agree)

            code-is : hard_code h (hard_frame.landed b on_masters on_shadows way.n) ≡ there-to.2.rest
            code-is = ap (λ (n : ℕ). hard_text.list_at (hard_text.blocks_at h n) way.n) function
                ∙ ap (λ (o : Option HBlock). option_map_or (λ (block : HBlock). block.list) o []) there-to.1
                ∙ there-to.2.list ∙ ap (λ (regs : List (Ty × Loc)). copies_onto regs there-to.2.rest)
                (copied-none way.n way.target way.number way.there)

            image-there : Image (source_code m (source.landed a way.n way.target way.words)) there-to.2.rest
            image-there = rw (ap (λ (o : Option Block). option_map_or (λ (block : Block). block.insts) o []) way.there)
                (image-behind-phis way.target.insts there-to.2.rest there-to.2.image)

        by_words : (on_masters on_shadows : Option (List (Loc × ℕ))) → hard_frame.words_on (layout_of h.heads) b from.0.label there-to.0 M ≡ on_masters
            → hard_frame.words_on (layout_of h.heads) b from.0.label there-to.0 S ≡ on_shadows
            → IsLanding m h sides frame (hard_frame.landed_with b way.n on_masters on_shadows)
        by_words None on_shadows x y = Lost refl (hurt-if sides M _ masters
            (λ (agree : Agree b.masters a.registers). no-words (words-same M b.masters agree) x))
          where
            no-words : {o : Option (List (Loc × ℕ))} → o ≡ Some way.words → o ≡ None → ⊥
            no-words known none = cc
        by_words (Some on_masters) None x y = Lost refl (hurt-if sides S _ shadows
            (λ (agree : Agree b.shadows a.registers). no-words (words-same S b.shadows agree) y))
          where
            no-words : {o : Option (List (Loc × ℕ))} → o ≡ Some way.words → o ≡ None → ⊥
            no-words known none = cc
        by_words (Some on_masters) (Some on_shadows) x y = Landed (hard_frame.landed b on_masters on_shadows way.n) refl
            (subst (λ (at : SourceFrame). IsFrame m h sides at (hard_frame.landed b on_masters on_shadows way.n)) way.is
            (landed-frame on_masters on_shadows x y))
