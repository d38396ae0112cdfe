-- A guarded branch whose condition was struck on the master's side: it leads to a block that checks its edges, and there the words of the edge
-- differ, since the shadow of the condition is the source's.
use Rattle.std.proofs.Common.{ℕ, zero, suc, ◌≡◌, ◌≢◌, ◌⊎◌, inl, inr, ◌∙◌, Bool, true, false, not, ◌&&◌, List, [], ◌∷◌, ◌++◌, drop, find, length, Option, Some, None, slice_get, refl, ap, sym, subst, arith, append-nil}
use Rattle.std.specs.Prelude.{nat_eq, ◌==◌, if◌then◌else◌}
use Rattle.std.specs.List.{flat_map}
use Rattle.std.specs.Option.{option_map_or}
use Rattle.std.proofs.lemmas.Bool.{eqb-true, eq-eqb}
use Rattle.ir_core.proofs.Lengths.{both_true}
use Rattle.ir_core.specs.declared.types.Loc.{Loc}
use Rattle.ir_core.specs.declared.types.Ty.TheVariants as types
use Rattle.ir_core.specs.declared.types.Width.TheVariants.{W1}
use Rattle.ir_core.specs.declared.values.Val.{Val}
use Rattle.ir_core.specs.declared.values.Val.TheVariants as values
use Rattle.ir_core.specs.declared.values.Side.{Side}
use Rattle.ir_core.specs.declared.values.Side.TheVariants.{M, S}
use Rattle.ir_core.specs.declared.instruction.Inst.{Inst}
use Rattle.ir_core.specs.declared.instruction.Inst.TheVariants as insts
use Rattle.ir_core.specs.declared.instruction.Block.{Block}
use Rattle.ir_core.specs.Module.{ModuleParts, FuncParts}
use Rattle.ir_layout.specs.Memory.{layout_of}
use Rattle.ir_flow.specs.Edges.{number_of}
use Rattle.ir_check.specs.Faults.{IsAccepted}
use Rattle.ir_check.proofs.Members.{IsIn, found-in}
use Rattle.inst_meaning.specs.declared.actions.Action.TheVariants.{Jump}
use Rattle.inst_meaning.specs.Action.{on_word, callees_of}
use Rattle.inst_meaning.specs.Operands.{word_at, typed_word}
use Rattle.inst_meaning.specs.Phis.{phis_of, phi_words, all_assigned}
use Rattle.inst_meaning.specs.Registers.{get}
use Rattle.inst_meaning.proofs.Puts.{put-here}
use Rattle.process.specs.declared.state.CallStack.{CallStack}
use Rattle.process.specs.declared.state.Thread.TheVariants.{Running}
use Rattle.src_meaning.specs.declared.state.Frame.{Frame as SourceFrame}
use Rattle.src_meaning.specs.State as source_state
use Rattle.src_laws.proofs.Accepted.{block-ends}
use Rattle.src_laws.proofs.Ends.{terminator-last}
use Rattle.src_laws.proofs.Placed.{IsPlaced, InBlock, in-block}
use Rattle.hard_ir.specs.declared.instruction.HInst.{HInst}
use Rattle.hard_ir.specs.declared.instruction.HInst.TheVariants.{Cut, Begin, Do}
use Rattle.hard_ir.specs.declared.instruction.HBlock.{HBlock}
use Rattle.hard_ir.specs.EdgeChecks.{Guard, guard_in, direction, bit, edge_check}
use Rattle.hard_ir.specs.Hardened.{HardParts}
use Rattle.hard_ir.specs.Image.{phi_image}
use Rattle.hard_ir.specs.Images.{IsBlockImage, IsLooseCode, IsLooseImage, LooseRows, Over, CutMark, BeginMark, Phi, Next, phis_for, check_for}
use Rattle.hard_frames.specs.declared.state.Frame.{Frame}
use Rattle.hard_frames.specs.Code as hard_text
use Rattle.hard_frames.specs.Frames as hard_frame
use Rattle.hard_simulation.proofs.Entries.{get-drop}
use Rattle.hard_simulation.proofs.Points.{source_code, hard_code}
use Rattle.hard_meaning.specs.Windows.{assigns_on, arm_of, phi_value, is_number, is_register, first_compared, compares_in, checks_direction, target_checks, is_guarded, last_guarded, is_edge_checked}
use Rattle.tx_simulation.proofs.Points.{source_action, is_edged}
use Rattle.tx_simulation.proofs.Facts.{IsAstray}
use Rattle.tx_simulation.proofs.Named.{assigned-append}
use Rattle.renamed_modules.proofs.SamePlaces.{same-place}
use Rattle.tx_simulation.proofs.Blocks.{IsHardFunc, hard-func, hard-block, number-of-block}
use Rattle.tx_simulation.proofs.Edges.{Parted, words-part, edge_phis_on, direction_to, edge_words, edge-words, master-word, shadow-word}
use Rattle.tx_simulation.proofs.Landing.{Edge, edge-to, hard-jumps, same-layout}

-- a branch that goes wrong lands nowhere, or at the check of an edge that fails
pub data IsStraying (h : HardParts) (stack : CallStack Frame) (o : Option Frame) : Type 0 where
  Nowhere : o ≡ None → IsStraying h stack o
  Strayed : (other : Frame) → o ≡ Some other → IsAstray h (Running (record stack { frame = other })) → IsStraying h stack o

-- ---- the branch that its targets check

-- no code of marks alone ends in a guarded branch
unguarded : (m : ModuleParts) (blocks : List HBlock) (from : Loc) (insts : List Inst) (code : List HInst) → LooseRows m insts code → insts ≡ []
    → last_guarded blocks from code ≡ false
unguarded m blocks from insts code (Over e f) none = ap (last_guarded blocks from) f
unguarded m blocks from insts code (CutMark rest e rows) none = ap (last_guarded blocks from) e ∙ by_rest rest (unguarded m blocks from insts rest rows none)
  where
    by_rest : (rest : List HInst) → last_guarded blocks from rest ≡ false → last_guarded blocks from (Cut ∷ rest) ≡ false
    by_rest [] f = refl
    by_rest (item ∷ rest) f = f
unguarded m blocks from insts code (BeginMark rest e rows) none = ap (last_guarded blocks from) e ∙ by_rest rest (unguarded m blocks from insts rest rows none)
  where
    by_rest : (rest : List HInst) → last_guarded blocks from rest ≡ false → last_guarded blocks from (Begin ∷ rest) ≡ false
    by_rest [] f = refl
    by_rest (item ∷ rest) f = f
unguarded m blocks from insts code (Phi phi after e is rows) none = let clash : phi ∷ after ≡ [] = sym e ∙ none in cc
unguarded m blocks from insts code (Next inst after works rest e plain f rows) none = let clash : inst ∷ after ≡ [] = sym e ∙ none in cc

-- what is left of a list has its last instruction
last-left : (blocks : List HBlock) (from : Loc) (list : List HInst) (i : ℕ) (item : HInst) (rest : List HInst) → drop i list ≡ item ∷ rest
    → last_guarded blocks from list ≡ last_guarded blocks from (item ∷ rest)
last-left blocks from [] zero item rest e = cc
last-left blocks from [] (suc i) item rest e = cc
last-left blocks from (x ∷ list) zero item rest e = ap (last_guarded blocks from) e
last-left blocks from (x ∷ []) (suc zero) item rest e = cc
last-left blocks from (x ∷ []) (suc (suc i)) item rest e = cc
last-left blocks from (x ∷ y ∷ list) (suc i) item rest e = last-left blocks from (y ∷ list) i item rest e

guarded-here : (m : ModuleParts) (blocks : List HBlock) (from : Loc) (inst : Inst) (rest : List HInst) → LooseRows m [] rest
    → last_guarded blocks from (Do M inst true ∷ rest) ≡ true → is_guarded blocks from (Do M inst true) ≡ true
guarded-here m blocks from inst [] rows e = e
guarded-here m blocks from inst (item ∷ rest) rows e =
    absurd (let clash : true ≡ false = sym e ∙ unguarded m blocks from [] (item ∷ rest) rows refl in cc)

-- nothing is left after a terminator
none-left : {A : Type 0} (xs : List A) (i : ℕ) (x : A) (rest : List A) → drop i xs ≡ x ∷ rest → length xs ≡ suc i → rest ≡ []
none-left [] zero x rest e f = cc
none-left [] (suc i) x rest e f = cc
none-left (y ∷ []) zero x rest e f = cc
none-left (y ∷ z ∷ xs) zero x rest e f = absurd (omega (arith, f))
none-left (y ∷ xs) (suc i) x rest e f = none-left xs i x rest e (omega (arith, f))

-- ---- the block that it leads to

-- without a name for its edges a block's phis give both sides the same value
same-value : (body : List Inst) (d label : Loc) → option_map_or (arm_of label) (find (assigns_on M d) (flat_map phi_image body)) None
    ≡ option_map_or (arm_of label) (find (assigns_on S d) (flat_map phi_image body)) None
same-value [] d label = refl
same-value (insts.Phi dst ty arms ∷ body) d label = by_name (nat_eq d.0 dst.0) refl (same-value body d label)
  where
    by_name : (b : Bool) → nat_eq d.0 dst.0 ≡ b
        → option_map_or (arm_of label) (find (assigns_on M d) (flat_map phi_image body)) None ≡ option_map_or (arm_of label) (find (assigns_on S d) (flat_map phi_image body)) None
        → option_map_or (arm_of label) (find (assigns_on M d) (flat_map phi_image (insts.Phi dst ty arms ∷ body))) None
        ≡ option_map_or (arm_of label) (find (assigns_on S d) (flat_map phi_image (insts.Phi dst ty arms ∷ body))) None
    by_name true e rest = rw e refl
    by_name false e rest = rw e rest
same-value (inst ∷ body) d label = same-value body d label

-- so it doesn't compare a direction with a register
not-both : (number : ℕ) (condition : Loc) (v : Option Val) → (is_number number v && is_register condition v) ≡ true → ⊥
not-both number condition None e = cc
not-both number condition (Some (values.Int n)) e = let parts = both_true (nat_eq number n) false e in cc
not-both number condition (Some (values.Reg reg)) e = cc
not-both number condition (Some values.Null) e = cc
not-both number condition (Some (values.Global sym)) e = cc
not-both number condition (Some (values.Gep gep)) e = cc

-- a block that checks a direction has a name for its edges
named-there : (from : Loc) (number : ℕ) (condition : Loc) (target : HBlock) (body : List Inst) → target.phis ≡ flat_map phi_image body ++ []
    → checks_direction from number condition target ≡ true → ⊥
named-there from number condition target body heads e = by_first (first_compared target.list) refl
  where
    by_first : (o : Option Loc) → first_compared target.list ≡ o → ⊥
    by_first None f = let clash : false ≡ true = ap (λ (o : Option Loc). option_map_or (compares_in target from number condition) o false) (sym f) ∙ e in cc
    by_first (Some d) f =
        let compares : (is_number number (phi_value target M d from) && is_register condition (phi_value target S d from)) ≡ true = ap (λ (o : Option Loc). option_map_or (compares_in target from number condition) o false) (sym f) ∙ e in
        let value : phi_value target M d from ≡ phi_value target S d from = rw (heads ∙ append-nil (flat_map phi_image body)) (same-value body d from) in
        not-both number condition (phi_value target M d from) (ap (λ (v : Option Val). is_number number (phi_value target M d from) && is_register condition v) value ∙ compares)

-- ---- directions

-- a conditional branch goes one way or the other
pub one-way : (first second label : Loc) (o : Option ℕ) → on_word o (λ c. Jump (if c == 1 then first else second)) ≡ Jump label → (label ≡ first) ⊎ (label ≡ second)
one-way first second label None e = cc
one-way first second label (Some n) e = by_test (n == 1) e
  where
    by_test : (b : Bool) → Jump (if b then first else second) ≡ Jump label → (label ≡ first) ⊎ (label ≡ second)
    by_test true f = inl cc
    by_test false f = inr cc

pub is-label : (first second label : Loc) → (label ≡ first) ⊎ (label ≡ second) → IsIn label (first ∷ second ∷ [])
is-label first second label (inl e) = (0, ap (λ (at : Loc). Some at) (sym e))
is-label first second label (inr e) = (1, ap (λ (at : Loc). Some at) (sym e))

bit-two : (b : Bool) → (bit b ≡ 0) ⊎ (bit b ≡ 1)
bit-two true = inr refl
bit-two false = inl refl

second-not : (first second : Loc) → nat_eq first.0 second.0 ≡ false → nat_eq second.0 first.0 ≡ false
second-not first second two = by_test (nat_eq second.0 first.0) refl
  where
    by_test : (b : Bool) → nat_eq second.0 first.0 ≡ b → b ≡ false
    by_test false e = refl
    by_test true e = let clash : true ≡ false = sym (eq-eqb first.0 second.0 (sym (eqb-true second.0 first.0 e))) ∙ two in cc

-- the two directions of a branch differ
ways-differ : (first second a b : Loc) → nat_eq first.0 second.0 ≡ false → (a ≡ first) ⊎ (a ≡ second) → (b ≡ first) ⊎ (b ≡ second) → a ≢ b
    → bit (nat_eq a.0 first.0) ≢ bit (nat_eq b.0 first.0)
ways-differ first second a b two (inl e) (inl f) differ = absurd (differ (e ∙ sym f))
ways-differ first second a b two (inr e) (inr f) differ = absurd (differ (e ∙ sym f))
ways-differ first second a b two (inl e) (inr f) differ = rw (e, f, second-not first second two, eq-eqb first.0 first.0 refl) (λ g. cc)
ways-differ first second a b two (inr e) (inl f) differ = rw (e, f, second-not first second two, eq-eqb first.0 first.0 refl) (λ g. cc)

-- both targets check their direction
checks-way : (blocks : List HBlock) (from cond first second other : Loc) → nat_eq first.0 second.0 ≡ false → target_checks blocks from 1 cond first ≡ true
    → target_checks blocks from 0 cond second ≡ true → (other ≡ first) ⊎ (other ≡ second) → target_checks blocks from (bit (nat_eq other.0 first.0)) cond other ≡ true
checks-way blocks from cond first second other two one none (inl e) = rw (e, eq-eqb first.0 first.0 refl) one
checks-way blocks from cond first second other two one none (inr e) = rw (e, second-not first second two) none

-- a target that checks a direction is a block with the label
record IsChecking (blocks : List HBlock) (from : Loc) (number : ℕ) (cond label : Loc) : Type 0 where
  target : HBlock
  there : IsIn target blocks
  same : target.label.0 ≡ label.0
  checks : checks_direction from number cond target ≡ true

checking : (blocks : List HBlock) (from : Loc) (number : ℕ) (cond label : Loc) → target_checks blocks from number cond label ≡ true
    → IsChecking blocks from number cond label
checking blocks from number cond label e = by_block (find (λ (block : HBlock). nat_eq block.label.0 label.0) blocks) refl
  where
    by_block : (o : Option HBlock) → find (λ (block : HBlock). nat_eq block.label.0 label.0) blocks ≡ o → IsChecking blocks from number cond label
    by_block None f = absurd (let clash : false ≡ true = ap (λ (o : Option HBlock). option_map_or (checks_direction from number cond) o false) (sym f) ∙ e in cc)
    by_block (Some block) f =
        let found = found-in (λ (block : HBlock). nat_eq block.label.0 label.0) block blocks f in
        record {
          target = block;
          there = found.0;
          same = eqb-true block.label.0 label.0 found.1;
          checks = ap (λ (o : Option HBlock). option_map_or (checks_direction from number cond) o false) (sym f) ∙ e;
        }

-- ---- a branch that goes wrong

module _ (m : ModuleParts) (h : HardParts) (image : IsLooseImage m h) (accepted : IsAccepted m) (a : SourceFrame) (stack : CallStack Frame)
    (function : stack.frame.function ≡ a.function) (block : stack.frame.block ≡ a.block) (cond first second : Loc) (behind : List Inst) (rest : List HInst)
    (left : source_code m a ≡ insts.CondBr (values.Reg cond) first second ∷ behind)
    (code : hard_code h stack.frame ≡ Do M (insts.CondBr (values.Reg cond) first second) true ∷ rest) (rows : LooseRows m behind rest)
    (edged : is_edged h stack.frame ≡ true) (placed : IsPlaced m a.function a.block a.index a.registers) where
  abbrev branch : Inst
  branch = insts.CondBr (values.Reg cond) first second

  hard : IsHardFunc m h a.function placed.f
  hard = hard-func m h image a.function placed.f placed.stands

  found : source_state.inst_at m a ≡ Some branch
  found = get-drop _ a.index branch behind left

  blocks-are : source_state.blocks_at m.funcs a.function ≡ placed.f.blocks
  blocks-are = ap (λ (o : Option FuncParts). option_map_or (λ (f : FuncParts). f.blocks) o []) placed.stands

  here : InBlock placed.f.blocks a.block a.index branch
  here = in-block placed.f.blocks a.block a.index branch
      (ap (λ (blocks : List Block). slice_get (source_state.code_at blocks a.block) a.index) (sym blocks-are) ∙ found)

  from : (from : HBlock) × (slice_get hard.blocks a.block ≡ Some from) × IsBlockImage (IsLooseCode m) placed.f a.block here.block (hard.image.edges.of a.block) from
  from = hard-block m placed.f hard.blocks hard.image a.block here.block here.there

  nothing : behind ≡ []
  nothing = none-left here.block.insts a.index branch behind
      (ap (λ (o : Option Block). drop a.index (option_map_or (λ (block : Block). block.insts) o [])) (sym here.there)
      ∙ ap (λ (blocks : List Block). drop a.index (source_state.code_at blocks a.block)) (sym blocks-are) ∙ left)
      (terminator-last here.block.insts a.index branch (block-ends m a.function a.block placed.f here.block accepted placed.stands here.there) here.at refl)

  list-left : drop stack.frame.index from.0.list ≡ Do M branch true ∷ rest
  list-left = ap (λ (o : Option HBlock). drop stack.frame.index (option_map_or (λ (block : HBlock). block.list) o [])) (sym from.1)
      ∙ ap (λ (blocks : List HBlock). drop stack.frame.index (hard_text.list_at blocks a.block)) (sym hard.at)
      ∙ ap (λ (n : ℕ). drop stack.frame.index (hard_text.list_at (hard_text.blocks_at h a.function) n)) (sym block)
      ∙ ap (λ (n : ℕ). drop stack.frame.index (hard_text.list_at (hard_text.blocks_at h n) stack.frame.block)) (sym function) ∙ code

  checked : is_edge_checked hard.blocks from.0 ≡ true
  checked = ap (λ (o : Option HBlock). option_map_or (is_edge_checked hard.blocks) o false) (sym from.1)
      ∙ ap (λ (blocks : List HBlock). option_map_or (is_edge_checked blocks) (slice_get blocks a.block) false) (sym hard.at)
      ∙ ap (λ (n : ℕ). option_map_or (is_edge_checked (hard_text.blocks_at h a.function)) (slice_get (hard_text.blocks_at h a.function) n) false) (sym block)
      ∙ ap (λ (n : ℕ). option_map_or (is_edge_checked (hard_text.blocks_at h n)) (slice_get (hard_text.blocks_at h n) stack.frame.block) false) (sym function) ∙ edged

  guarded : is_guarded hard.blocks from.0.label (Do M branch true) ≡ true
  guarded = guarded-here m hard.blocks from.0.label branch rest (subst (λ (insts : List Inst). LooseRows m insts rest) nothing rows)
      (sym (last-left hard.blocks from.0.label from.0.list stack.frame.index (Do M branch true) rest list-left) ∙ checked)

  both : (not (nat_eq first.0 second.0) ≡ true) × ((target_checks hard.blocks from.0.label 1 cond first && target_checks hard.blocks from.0.label 0 cond second) ≡ true)
  both = both_true (not (nat_eq first.0 second.0)) (target_checks hard.blocks from.0.label 1 cond first && target_checks hard.blocks from.0.label 0 cond second) guarded

  two : nat_eq first.0 second.0 ≡ false
  two = by_test (nat_eq first.0 second.0) both.0
    where
      by_test : (b : Bool) → not b ≡ true → b ≡ false
      by_test true e = cc
      by_test false e = refl

  guard-here : guard_in branch ≡ Some (record { on = cond; first = first; second = second })
  guard-here = rw two refl

  -- the shadow of the condition is the source's, and the master leads to another label
  pub strays : get stack.frame.shadows cond.0 ≡ get a.registers cond.0 → (label other : Loc) → source_action m a.registers branch ≡ Jump label
      → source_action m stack.frame.masters branch ≡ Jump other → other ≢ label → IsStraying h stack (hard_frame.jumped h stack.frame other)
  strays shadow label other goes leads differ =
      subst (IsStraying h stack) (sym (hard-jumps m h image accepted placed.f a stack.frame branch other t.there.0 to.0 edge function block number))
      (by_name edge_name refl)
    where
      to_other : (other ≡ first) ⊎ (other ≡ second)
      to_other = one-way first second other (word_at (layout_of m) stack.frame.masters W1 (values.Reg cond)) leads

      to_label : (label ≡ first) ⊎ (label ≡ second)
      to_label = one-way first second label (word_at (layout_of m) a.registers W1 (values.Reg cond)) goes

      t : IsChecking hard.blocks from.0.label (bit (nat_eq other.0 first.0)) cond other
      t =
          let parts = both_true (target_checks hard.blocks from.0.label 1 cond first) (target_checks hard.blocks from.0.label 0 cond second) both.1 in
          checking hard.blocks from.0.label (bit (nat_eq other.0 first.0)) cond other (checks-way hard.blocks from.0.label cond first second other two parts.0 parts.1 to_other)

      to : (target : Block) × (slice_get placed.f.blocks t.there.0 ≡ Some target)
      to = same-place hard.blocks placed.f.blocks t.there.0 t.target (sym hard.image.count) t.there.1

      number : number_of placed.f.blocks other ≡ Some t.there.0
      number = number-of-block m a.function t.there.0 placed.f to.0 other accepted placed.stands to.1
          (ap (λ (at : Loc). at.0) (sym (hard.image.each t.there.0 to.0 t.target to.1 t.there.1).label) ∙ t.same)

      edge : Edge m h placed.f a branch other t.there.0 to.0
      edge = edge-to m h image accepted a branch other placed found refl (is-label first second other to_other) t.there.0 number to.0 to.1

      edge_name : Option Loc
      edge_name = edge.image.edges.of t.there.0

      is-target : t.target ≡ edge.hard_target
      is-target =
          let blocks : hard.blocks ≡ edge.blocks = sym hard.at ∙ edge.blocks_at in
          let one : Some t.target ≡ Some edge.hard_target = sym t.there.1 ∙ ap (λ (blocks : List HBlock). slice_get blocks t.there.0) blocks ∙ edge.hard_arrives in cc

      taken_on : Side → Option (List (Loc × ℕ))
      taken_on side = hard_frame.words_on (layout_of h.heads) stack.frame edge.hard_from.label edge.hard_target side

      wrong : ℕ
      wrong = direction_to (guard_in branch) other

      right : ℕ
      right = direction_to (guard_in branch) label

      -- the word that the name takes on a side
      name-word : (side : Side) (file : List (Option ℕ)) (word : ℕ) (new : Loc) (words : List (Loc × ℕ)) → edge_name ≡ Some new
          → typed_word (layout_of m) file (types.Int W1) (direction (guard_in branch) other side) ≡ Some word
          → phi_words (layout_of h.heads) file edge.hard_from.label (hard_frame.phis_on side edge.hard_target) ≡ Some words
          → get (all_assigned words file) new.0 ≡ Some word
      name-word side file word new words g given e =
          let same : phi_words (layout_of h.heads) file edge.hard_from.label (hard_frame.phis_on side edge.hard_target)
          ≡ phi_words (layout_of m) file edge.from.label (phis_of to.0.insts ++ edge_phis_on edge_name placed.f.blocks other side) = rw (same-layout m h image accepted, edge.from_label, edge.phis side) refl in
          let parted : Parted (layout_of m) file edge.from.label (phis_of to.0.insts) (edge_phis_on edge_name placed.f.blocks other side) words = words-part (layout_of m) file edge.from.label (phis_of to.0.insts) (edge_phis_on edge_name placed.f.blocks other side) words (sym same ∙ e) in
          let known : phi_words (layout_of m) file edge.from.label (edge_phis_on edge_name placed.f.blocks other side) ≡ Some (edge_words edge_name word) = edge-words (layout_of m) file other side edge.from placed.f.blocks edge_name word (edge.arm side)
          (ap (λ (guard : Option Guard). typed_word (layout_of m) file (types.Int W1) (direction guard other side)) edge.guard ∙ given) in
          let later : parted.later ≡ edge_words edge_name word = let one : Some parted.later ≡ Some (edge_words edge_name word) = sym parted.taken ∙ known in cc in
          ap (λ (words : List (Loc × ℕ)). get (all_assigned words file) new.0) parted.is
          ∙ ap (λ (registers : List (Option ℕ)). get registers new.0) (assigned-append parted.first parted.later file)
          ∙ ap (λ (words : List (Loc × ℕ)). get (all_assigned words (all_assigned parted.first file)) new.0) (later ∙ ap (λ (o : Option Loc). edge_words o word) g)
          ∙ put-here (all_assigned parted.first file) new.0 word

      shadow-given : typed_word (layout_of m) stack.frame.shadows (types.Int W1) (direction (guard_in branch) other S) ≡ Some right
      shadow-given =
          ap (λ (guard : Option Guard). typed_word (layout_of m) stack.frame.shadows (types.Int W1) (direction guard other S)) guard-here
          ∙ sym (ap (λ (guard : Option Guard). typed_word (layout_of m) stack.frame.shadows (types.Int W1) (direction guard label S)) guard-here)
          ∙ shadow-word (layout_of m) (callees_of m) a.registers stack.frame.shadows branch label goes
          (λ at is. only is)
        where
          only : {at : Loc} → IsIn at (cond ∷ []) → get stack.frame.shadows at.0 ≡ get a.registers at.0
          only {at} (zero, there) = let same : cond ≡ at = cc in subst (λ (reg : Loc). get stack.frame.shadows reg.0 ≡ get a.registers reg.0) same shadow
          only {at} (suc k, there) = cc

      differ-there : wrong ≢ right
      differ-there = rw guard-here (ways-differ first second other label two to_other to_label differ)

      bit-of : (at : Loc) → (direction_to (guard_in branch) at ≡ 0) ⊎ (direction_to (guard_in branch) at ≡ 1)
      bit-of at = rw guard-here (bit-two (nat_eq at.0 first.0))

      landed : List (Loc × ℕ) → List (Loc × ℕ) → Frame
      landed xs ys = hard_frame.landed stack.frame xs ys t.there.0

      code-is : (new : Loc) → edge_name ≡ Some new → (xs ys : List (Loc × ℕ)) → hard_code h (landed xs ys) ≡ edge_check new ∷ edge.rest
      code-is new g xs ys = ap (λ (n : ℕ). hard_text.list_at (hard_text.blocks_at h n) t.there.0) function
          ∙ ap (λ (blocks : List HBlock). hard_text.list_at blocks t.there.0) edge.blocks_at
          ∙ ap (λ (o : Option HBlock). option_map_or (λ (block : HBlock). block.list) o []) edge.hard_arrives ∙ edge.list
          ∙ ap (λ (o : Option Loc). check_for o ++ edge.rest) g

      by_words : (new : Loc) → edge_name ≡ Some new → (on_masters on_shadows : Option (List (Loc × ℕ))) → taken_on M ≡ on_masters → taken_on S ≡ on_shadows
          → IsStraying h stack (hard_frame.landed_with stack.frame t.there.0 on_masters on_shadows)
      by_words new g None ys x y = Nowhere refl
      by_words new g (Some xs) None x y = Nowhere refl
      by_words new g (Some xs) (Some ys) x y = Strayed (landed xs ys) refl (record {
        stack = record stack { frame = landed xs ys };
        is = refl;
        name = new;
        rest = edge.rest;
        code = code-is new g xs ys;
        p = wrong;
        s = right;
        master = name-word M stack.frame.masters wrong new xs g (master-word (layout_of m) stack.frame.masters (guard_in branch) other) x;
        shadow = name-word S stack.frame.shadows right new ys g shadow-given y;
        differ = differ-there;
        bits = bit-of other;
        bits' = bit-of label;
      })

      by_name : (o : Option Loc) → edge_name ≡ o
          → IsStraying h stack (hard_frame.landed_with stack.frame t.there.0 (taken_on M) (taken_on S))
      by_name None g = absurd (named-there from.0.label (bit (nat_eq other.0 first.0)) cond edge.hard_target to.0.insts
          (edge.heads ∙ ap (λ (o : Option Loc). flat_map phi_image to.0.insts ++ phis_for o placed.f.blocks other) g)
          (subst (λ (block : HBlock). checks_direction from.0.label (bit (nat_eq other.0 first.0)) cond block ≡ true) is-target t.checks))
      by_name (Some new) g = by_words new g (taken_on M) (taken_on S) refl refl
