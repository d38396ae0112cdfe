-- A branch along an edge: where the source lands, the hardened program lands too, as far as its known sides tell; and where a struck condition
-- leads a guarded branch elsewhere, the check of the edge is next, and fails.
use Rattle.std.proofs.Common.{ℕ, zero, suc, ◌≡◌, ◌∙◌, Bool, true, List, [], ◌++◌, map, drop, length, Option, Some, None, slice_get, refl, ap, sym, subst}
use Rattle.std.specs.List.{flat_map}
use Rattle.std.specs.Option.{option_map_or}
use Rattle.ir_core.specs.declared.types.Loc.{Loc}
use Rattle.ir_core.specs.declared.types.Ty.TheVariants as types
use Rattle.ir_core.specs.declared.types.Width.TheVariants.{W1}
use Rattle.ir_core.specs.declared.values.Side.{Side}
use Rattle.ir_core.specs.declared.values.Side.TheVariants.{M, S}
use Rattle.ir_core.specs.declared.instruction.Inst.{Inst}
use Rattle.ir_core.specs.declared.instruction.Block.{Block}
use Rattle.ir_core.specs.Module.{ModuleParts, FuncParts}
use Rattle.ir_layout.specs.Memory.{layout_of}
use Rattle.ir_flow.specs.Edges.{labels_of, number_of}
use Rattle.ir_check.specs.Blocks.{is_terminator}
use Rattle.ir_check.specs.Faults.{IsAccepted}
use Rattle.ir_check.proofs.Members.{IsIn, of-take}
use Rattle.mem_image.specs.Bytes.{Memory}
use Rattle.inst_meaning.specs.declared.actions.Action.TheVariants.{Jump}
use Rattle.inst_meaning.specs.Action.{callees_of}
use Rattle.inst_meaning.specs.Operands.{typed_word}
use Rattle.inst_meaning.specs.Phis.{phi_count, phis_of, arm_from, phi_words, all_assigned}
use Rattle.inst_meaning.specs.Registers.{get}
use Rattle.inst_meaning.proofs.Puts.{put-here}
use Rattle.inst_laws.proofs.Agreement.{AreSameIn, regs_of_phi, phi-words-same}
use Rattle.src_meaning.specs.declared.state.Frame.{Frame as SourceFrame}
use Rattle.src_meaning.specs.State as source_state
use Rattle.src_meaning.specs.Step as source
use Rattle.src_laws.proofs.Accepted.{block-ends, labels-apart}
use Rattle.src_laws.proofs.Ends.{terminator-last}
use Rattle.src_laws.proofs.Labels.{label-of}
use Rattle.src_laws.proofs.Placed.{IsPlaced, InBlock, in-block}
use Rattle.src_laws.proofs.Suits.{JumpsTo}
use Rattle.hard_ir.specs.declared.instruction.HInst.{HInst}
use Rattle.hard_ir.specs.declared.instruction.HBlock.{HBlock}
use Rattle.hard_ir.specs.EdgeChecks.{Guard, guard_in, guard_of, predecessors, direction, edge_arm}
use Rattle.hard_ir.specs.Hardened.{HardParts}
use Rattle.hard_ir.specs.Image.{copy_of, phi_image}
use Rattle.hard_ir.specs.Images.{IsBlockImage, IsFuncImage, IsLooseCode, IsLooseImage, LooseRows, copied_in, phis_for, check_for}
use Rattle.hard_frames.specs.declared.state.Frame.{Frame}
use Rattle.hard_frames.specs.Code as hard_text
use Rattle.hard_frames.specs.Frames as hard_frame
use Rattle.hard_simulation.proofs.Edges.{Lands, lands-of, never-enters}
use Rattle.hard_simulation.proofs.Heads as heads
use Rattle.hard_simulation.proofs.Landing.{begins-well-at}
use Rattle.hard_simulation.proofs.Points.{source_code, hard_code}
use Rattle.hard_simulation.proofs.Sides.{Sides, On, IsHurt, on-map, hurt-if}
use Rattle.hard_meaning.specs.State.{Mode}
use Rattle.tx_simulation.proofs.Points.{names_at, AgreeIn, source_action, Stands, At, AtEdge, is_edged, past_code, IsFrame}
use Rattle.tx_simulation.proofs.Named.{put-outside, all-agree, assigned-append, register-named, read-in, arm-in, names-are}
use Rattle.tx_simulation.proofs.Blocks.{IsHardFunc, hard-func, hard-block, numbers-alike, rows-after-phis}
use Rattle.tx_simulation.proofs.Edges.{words-append, edge_phis_on, phis-alike, arm-found, leads-to, guard-is, direction_to, direction-small, edge_words, edge-words, master-word, shadow-word}

-- where the source lands at this frame, the hardened program lands at one that stands for it, or is lost since some side is hurt
pub data IsLanding (m : ModuleParts) (h : HardParts) (sides : Sides) (mode : Mode) (mem : Memory) (frame : SourceFrame) (o : Option Frame) : Type 0 where
  Lost : o ≡ None → IsHurt sides → IsLanding m h sides mode mem frame o
  Landed : (other : Frame) → o ≡ Some other → IsFrame m h sides mode mem frame other → IsLanding m h sides mode mem frame o

-- ---- an edge

-- the edge to a label, in the source and in its image
pub record Edge (m : ModuleParts) (h : HardParts) (f : FuncParts) (a : SourceFrame) (inst : Inst) (label : Loc) (n : ℕ) (target : Block) : Type 0 where
  pub blocks : List HBlock
  pub blocks_at : hard_text.blocks_at h a.function ≡ blocks
  pub image : IsFuncImage (IsLooseCode m) f blocks
  pub from : Block
  pub leaves : slice_get f.blocks a.block ≡ Some from
  pub there : slice_get from.insts a.index ≡ Some inst
  pub last : length from.insts ≡ suc a.index
  pub hard_from : HBlock
  pub hard_leaves : slice_get blocks a.block ≡ Some hard_from
  pub from_label : hard_from.label ≡ from.label
  pub hard_target : HBlock
  pub hard_arrives : slice_get blocks n ≡ Some hard_target
  pub heads : hard_target.phis ≡ flat_map phi_image target.insts ++ phis_for (image.edges.of n) f.blocks label
  pub phis : (side : Side) → hard_frame.phis_on side hard_target ≡ phis_of target.insts ++ edge_phis_on (image.edges.of n) f.blocks label side
  pub arm : (side : Side) → arm_from from.label (map (edge_arm label side) (predecessors f.blocks label)) ≡ Some (direction (guard_of from) label side)
  pub guard : guard_of from ≡ guard_in inst
  pub rest : List HInst
  pub list : hard_target.list ≡ check_for (image.edges.of n) ++ rest
  pub rows : LooseRows m target.insts rest

module _ (m : ModuleParts) (h : HardParts) (image : IsLooseImage m h) (accepted : IsAccepted m) where
  pub same-layout : layout_of h.heads ≡ layout_of m
  same-layout = ap layout_of image.heads ∙ heads.layout-heads m

  -- a branch that stands at a frame's place leads along one
  pub edge-to : (a : SourceFrame) (inst : Inst) (label : Loc) (placed : IsPlaced m a.function a.block a.index a.registers)
      → source_state.inst_at m a ≡ Some inst → is_terminator inst ≡ true → IsIn label (labels_of inst)
      → (n : ℕ) → number_of placed.f.blocks label ≡ Some n → (target : Block) → slice_get placed.f.blocks n ≡ Some target → Edge m h placed.f a inst label n target
  edge-to a inst label placed found ends one n number target arrives = record {
    blocks = hard.blocks;
    blocks_at = hard.at;
    image = hard.image;
    from = here.block;
    leaves = here.there;
    there = here.at;
    last = last;
    hard_from = hard_from.0;
    hard_leaves = hard_from.1;
    from_label = hard_from.2.label;
    hard_target = hard_to.0;
    hard_arrives = hard_to.1;
    heads = heads;
    phis = λ side. phis-alike side hard_to.0 target.insts (hard.image.edges.of n) placed.f.blocks label
        (begins-well-at m a.function n target accepted (ap (λ (blocks : List Block). slice_get blocks n) blocks-are ∙ arrives)) heads;
    arm = λ side. arm-found label side here.block placed.f.blocks (a.block, here.there) (leads-to label here.block a.index inst here.at last one) alone;
    guard = guard-is here.block a.index inst here.at last;
    rest = hard_to.2.keeps.rest;
    list = hard_to.2.list ∙ ap (λ (code : List HInst). check_for (hard.image.edges.of n) ++ code) (hard_to.2.keeps.is ∙ copied n number arrives);
    rows = hard_to.2.keeps.rows;
  }
    where
      hard : IsHardFunc m h a.function placed.f
      hard = hard-func m h image a.function placed.f placed.stands

      blocks-are : source_state.blocks_at m.funcs a.function ≡ placed.f.blocks
      blocks-are = ap (λ (o : Option FuncParts). option_map_or (λ (f : FuncParts). f.blocks) o []) placed.stands

      here : InBlock placed.f.blocks a.block a.index inst
      here = in-block placed.f.blocks a.block a.index inst
          (ap (λ (blocks : List Block). slice_get (source_state.code_at blocks a.block) a.index) (sym blocks-are) ∙ found)

      last : length here.block.insts ≡ suc a.index
      last = terminator-last here.block.insts a.index inst (block-ends m a.function a.block placed.f here.block accepted placed.stands here.there) here.at ends

      alone : (x : Block) → IsIn x placed.f.blocks → x.label.0 ≡ here.block.label.0 → x ≡ here.block
      alone x (k, there) e =
          let same : k ≡ a.block = labels-apart m a.function k a.block placed.f x here.block accepted placed.stands there here.there e in
          let both : Some x ≡ Some here.block = sym there ∙ ap (slice_get placed.f.blocks) same ∙ here.there in cc

      label-is : target.label ≡ label
      label-is = ap (λ (k : ℕ). let at : Loc = record { 0 = k } in at) (label-of placed.f.blocks label n target number arrives)

      hard_from : (block : HBlock) × (slice_get hard.blocks a.block ≡ Some block) × IsBlockImage (IsLooseCode m) placed.f a.block here.block (hard.image.edges.of a.block) block
      hard_from = hard-block m placed.f hard.blocks hard.image a.block here.block here.there

      hard_to : (block : HBlock) × (slice_get hard.blocks n ≡ Some block) × IsBlockImage (IsLooseCode m) placed.f n target (hard.image.edges.of n) block
      hard_to = hard-block m placed.f hard.blocks hard.image n target arrives

      heads : hard_to.0.phis ≡ flat_map phi_image target.insts ++ phis_for (hard.image.edges.of n) placed.f.blocks label
      heads = hard_to.2.phis ∙ ap (λ (to : Loc). flat_map phi_image target.insts ++ phis_for (hard.image.edges.of n) placed.f.blocks to) label-is

      -- the block to which it goes is no entry
      copied : (k : ℕ) → number_of placed.f.blocks label ≡ Some k → slice_get placed.f.blocks k ≡ Some target
          → map copy_of (copied_in placed.f k) ++ hard_to.2.keeps.rest ≡ hard_to.2.keeps.rest
      copied zero number at = absurd (never-enters m a.function a.block a.index placed.f here.block target inst label accepted placed.stands here.there here.at last one number at)
      copied (suc k) number at = refl

  pub hard-jumps : (f : FuncParts) (a : SourceFrame) (b : Frame) (inst : Inst) (label : Loc) (n : ℕ) (target : Block) (edge : Edge m h f a inst label n target)
      → b.function ≡ a.function → b.block ≡ a.block → number_of f.blocks label ≡ Some n
      → hard_frame.jumped h b label ≡ hard_frame.landed_with b n (hard_frame.words_on (layout_of h.heads) b edge.hard_from.label edge.hard_target M)
      (hard_frame.words_on (layout_of h.heads) b edge.hard_from.label edge.hard_target S)
  hard-jumps f a b inst label n target edge function block number =
      rw (function, edge.blocks_at, block, edge.hard_leaves, numbers-alike m f edge.blocks edge.image label, number, edge.hard_arrives) refl

  -- ---- where both land

  module _ (sides : Sides) (mode : Mode) (mem : Memory) (a : SourceFrame) (b : Frame) (function : b.function ≡ a.function) (block : b.block ≡ a.block) (mark : b.mark ≡ a.mark)
      (masters : On sides M (AgreeIn (names_at m a.function) b.masters a.registers)) (shadows : On sides S (AgreeIn (names_at m a.function) b.shadows a.registers))
      (inst : Inst) (label : Loc) (placed : IsPlaced m a.function a.block a.index a.registers) (found : source_state.inst_at m a ≡ Some inst)
      (jumps : JumpsTo inst label) (goes : source_action m a.registers inst ≡ Jump label) where
    pub lands : (frame : SourceFrame) → source.jumped m a label ≡ Some frame → IsLanding m h sides mode mem frame (hard_frame.jumped h b label)
    lands frame e = subst (λ (o : Option Frame). IsLanding m h sides mode mem frame o)
        (sym (hard-jumps f a b inst label way.n way.target edge function block way.number))
        (by_words (taken_on M) (taken_on S) refl refl)
      where
        f : FuncParts
        f = placed.f

        names : ℕ → Bool
        names = names_at m a.function

        blocks-are : source_state.blocks_at m.funcs a.function ≡ placed.f.blocks
        blocks-are = ap (λ (o : Option FuncParts). option_map_or (λ (f : FuncParts). f.blocks) o []) placed.stands

        way : Lands (layout_of m) placed.f.blocks a label frame
        way = lands-of (layout_of m) placed.f.blocks a label frame
            (ap (λ (blocks : List Block). source.jump_in (layout_of m) blocks a label) (sym blocks-are) ∙ e)

        edge : Edge m h placed.f a inst label way.n way.target
        edge = edge-to a inst label placed found jumps.0 jumps.2 way.n way.number way.target way.there

        name : Option Loc
        name = edge.image.edges.of way.n

        word : ℕ
        word = direction_to (guard_in inst) label

        taken_on : Side → Option (List (Loc × ℕ))
        taken_on side = hard_frame.words_on (layout_of h.heads) b edge.hard_from.label edge.hard_target side

        from-is : way.from ≡ edge.from
        from-is = let both : Some way.from ≡ Some edge.from = sym way.leaves ∙ edge.leaves in cc

        -- what the source's phis take, a file that agrees gives too
        agrees-on : (file : List (Option ℕ)) → AgreeIn names file a.registers → (k i : ℕ) (at : Block) (other : Inst) → slice_get placed.f.blocks k ≡ Some at
            → slice_get at.insts i ≡ Some other → AreSameIn (layout_of m) file a.registers (regs_of_phi (layout_of m) file a.registers other)
        agrees-on file agree k i at other here there reg is =
            agree.same reg.0 (names-are m a.function placed.f reg placed.stands ∙ register-named placed.f k i at other reg here there (arm-in other reg is))

        phi-words : (file : List (Option ℕ)) → AgreeIn names file a.registers → phi_words (layout_of m) file edge.from.label (phis_of way.target.insts) ≡ Some way.words
        phi-words file agree =
            ap (λ (at : Block). phi_words (layout_of m) file at.label (phis_of way.target.insts)) (sym from-is)
            ∙ phi-words-same (layout_of m) file a.registers way.from.label (phis_of way.target.insts)
            (λ phi is reg there. let in_body = of-take phi (phi_count way.target.insts) way.target.insts is in agrees-on file agree way.n in_body.0 way.target phi way.there in_body.1 reg there)
            ∙ way.taken

        words-same : (side : Side) (file : List (Option ℕ)) → AgreeIn names file a.registers
            → typed_word (layout_of m) file (types.Int W1) (direction (guard_in inst) label side) ≡ Some word
            → phi_words (layout_of h.heads) file edge.hard_from.label (hard_frame.phis_on side edge.hard_target) ≡ Some (way.words ++ edge_words name word)
        words-same side file agree given = rw (same-layout, edge.from_label, edge.phis side)
            (words-append (layout_of m) file edge.from.label (phis_of way.target.insts) (edge_phis_on name placed.f.blocks label side) way.words (edge_words name word)
            (phi-words file agree)
            (edge-words (layout_of m) file label side edge.from placed.f.blocks name word (edge.arm side)
            (ap (λ (guard : Option Guard). typed_word (layout_of m) file (types.Int W1) (direction guard label side)) edge.guard ∙ given)))

        on-masters : AgreeIn names b.masters a.registers → taken_on M ≡ Some (way.words ++ edge_words name word)
        on-masters agree = words-same M b.masters agree (master-word (layout_of m) b.masters (guard_in inst) label)

        on-shadows : AgreeIn names b.shadows a.registers → taken_on S ≡ Some (way.words ++ edge_words name word)
        on-shadows agree = words-same S b.shadows agree (shadow-word (layout_of m) (callees_of m) a.registers b.shadows inst label goes
            (λ at is. agree.same at.0 (names-are m a.function placed.f at placed.stands ∙ register-named placed.f a.block a.index edge.from inst at edge.leaves edge.there (read-in inst at is))))

        -- the registers after the edge
        given : Option Loc → List (Option ℕ) → List (Option ℕ)
        given o file = all_assigned (edge_words o word) (all_assigned way.words file)

        after : List (Option ℕ)
        after = all_assigned way.words a.registers

        file-after : (file : List (Option ℕ)) (words : List (Loc × ℕ)) {o : Option (List (Loc × ℕ))} → o ≡ Some (way.words ++ edge_words name word) → o ≡ Some words
            → all_assigned words file ≡ given name file
        file-after file words known taken =
            let same : words ≡ way.words ++ edge_words name word = cc in
            ap (λ (words : List (Loc × ℕ)). all_assigned words file) same ∙ assigned-append way.words (edge_words name word) file

        -- the name is none of the function
        agree-after : (o : Option Loc) → name ≡ o → (file : List (Option ℕ)) → AgreeIn names file a.registers → AgreeIn names (given o file) after
        agree-after None g file agree = all-agree names way.words file a.registers agree
        agree-after (Some new) g file agree = put-outside names (all_assigned way.words file) after new.0 word
            (names-are m a.function placed.f new placed.stands ∙ edge.image.edges.new way.n new g) (all-agree names way.words file a.registers agree)

        landed : List (Loc × ℕ) → List (Loc × ℕ) → Frame
        landed xs ys = hard_frame.landed b xs ys way.n

        left : source_code m (source.landed a way.n way.target way.words) ≡ drop (phi_count way.target.insts) way.target.insts
        left = ap (λ (blocks : List Block). drop (phi_count way.target.insts) (source_state.code_at blocks way.n)) blocks-are
            ∙ ap (λ (o : Option Block). drop (phi_count way.target.insts) (option_map_or (λ (block : Block). block.insts) o [])) way.there

        rows : LooseRows m (source_code m (source.landed a way.n way.target way.words)) edge.rest
        rows = subst (λ (insts : List Inst). LooseRows m insts edge.rest) (sym left) (rows-after-phis m way.target.insts edge.rest edge.rows)

        code-is : (xs ys : List (Loc × ℕ)) → hard_code h (landed xs ys) ≡ check_for name ++ edge.rest
        code-is xs ys = ap (λ (n : ℕ). hard_text.list_at (hard_text.blocks_at h n) way.n) function
            ∙ ap (λ (blocks : List HBlock). hard_text.list_at blocks way.n) edge.blocks_at
            ∙ ap (λ (o : Option HBlock). option_map_or (λ (block : HBlock). block.list) o []) edge.hard_arrives ∙ edge.list

        Point : List (Loc × ℕ) → List (Loc × ℕ) → Type 0
        Point xs ys = Stands m (names_at m a.function) (is_edged h (landed xs ys)) sides mode mem (source_code m (source.landed a way.n way.target way.words)) after
            (past_code h (landed xs ys)) (hard_code h (landed xs ys)) (all_assigned xs b.masters) (all_assigned ys b.shadows)

        agree-on : (file : List (Option ℕ)) (words : List (Loc × ℕ)) {o : Option (List (Loc × ℕ))} → AgreeIn names file a.registers
            → o ≡ Some (way.words ++ edge_words name word) → o ≡ Some words → AgreeIn names (all_assigned words file) after
        agree-on file words agree known taken =
            subst (λ (registers : List (Option ℕ)). AgreeIn names registers after) (sym (file-after file words known taken)) (agree-after name refl file agree)

        word-on : (new : Loc) → name ≡ Some new → (file : List (Option ℕ)) (words : List (Loc × ℕ)) {o : Option (List (Loc × ℕ))}
            → o ≡ Some (way.words ++ edge_words name word) → o ≡ Some words → get (all_assigned words file) new.0 ≡ Some word
        word-on new g file words known taken =
            ap (λ (registers : List (Option ℕ)). get registers new.0) (file-after file words known taken) ∙ ap (λ (o : Option Loc). get (given o file) new.0) g
            ∙ put-here (all_assigned way.words file) new.0 word

        point : (o : Option Loc) → name ≡ o → (xs ys : List (Loc × ℕ)) → taken_on M ≡ Some xs → taken_on S ≡ Some ys → Point xs ys
        point None g xs ys x y =
            At (subst (λ (code : List HInst). LooseRows m (source_code m (source.landed a way.n way.target way.words)) code)
            (sym (code-is xs ys ∙ ap (λ (o : Option Loc). check_for o ++ edge.rest) g)) rows)
            (on-map sides M _ _ (λ (agree : AgreeIn names b.masters a.registers). agree-on b.masters xs agree (on-masters agree) x) masters)
            (on-map sides S _ _ (λ (agree : AgreeIn names b.shadows a.registers). agree-on b.shadows ys agree (on-shadows agree) y) shadows)
        point (Some new) g xs ys x y =
            AtEdge new word edge.rest (code-is xs ys ∙ ap (λ (o : Option Loc). check_for o ++ edge.rest) g) rows (direction-small (guard_in inst) label)
            (on-map sides M _ _ (λ (agree : AgreeIn names b.masters a.registers). word-on new g b.masters xs (on-masters agree) x) masters)
            (on-map sides S _ _ (λ (agree : AgreeIn names b.shadows a.registers). word-on new g b.shadows ys (on-shadows agree) y) shadows)
            (on-map sides M _ _ (λ (agree : AgreeIn names b.masters a.registers). agree-on b.masters xs agree (on-masters agree) x) masters)
            (on-map sides S _ _ (λ (agree : AgreeIn names b.shadows a.registers). agree-on b.shadows ys agree (on-shadows agree) y) shadows)

        no-words : {o : Option (List (Loc × ℕ))} → o ≡ Some (way.words ++ edge_words name word) → o ≡ None → ⊥
        no-words known none = cc

        by_words : (on_masters on_shadows : Option (List (Loc × ℕ))) → taken_on M ≡ on_masters → taken_on S ≡ on_shadows
            → IsLanding m h sides mode mem frame (hard_frame.landed_with b way.n on_masters on_shadows)
        by_words None ys x y = Lost refl (hurt-if sides M _ masters (λ (agree : AgreeIn names b.masters a.registers). no-words (on-masters agree) x))
        by_words (Some xs) None x y = Lost refl (hurt-if sides S _ shadows (λ (agree : AgreeIn names b.shadows a.registers). no-words (on-shadows agree) y))
        by_words (Some xs) (Some ys) x y = Landed (landed xs ys) refl
            (subst (λ (at : SourceFrame). IsFrame m h sides mode mem at (landed xs ys)) way.is
            (record { function = function; block = refl; mark = mark; point = point name refl xs ys x y }))
