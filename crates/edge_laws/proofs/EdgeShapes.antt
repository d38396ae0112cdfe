-- Blocks with names for their edges end and begin as they did, and have the same edges.
use Rattle.std.proofs.Common.{ℕ, suc, ◌≡◌, ◌∙◌, ◌+◌, ◌||◌, ◌&&◌, Bool, true, false, not, List, [], ◌∷◌, ◌++◌, map, length, Option, Some, None, slice_get, refl, ap, sym as flip, subst, arith}
use Rattle.std.specs.List.{flat_map, list_all, list_any}
use Rattle.std.proofs.lemmas.List.{map-append}
use Rattle.std.proofs.lemmas.List.Folds.{list_all-append}
use Rattle.ir_core.proofs.Lengths.{both_true}
use Rattle.ir_core.specs.declared.types.Loc.{Loc}
use Rattle.ir_core.specs.declared.values.Side.{Side}
use Rattle.ir_core.specs.declared.instruction.Inst.{Inst}
use Rattle.ir_core.specs.declared.instruction.Inst.TheVariants as insts
use Rattle.ir_core.specs.declared.instruction.Block.{Block}
use Rattle.ir_core.specs.Instructions.{is_phi}
use Rattle.ir_core.specs.Module.{ModuleParts, FuncParts}
use Rattle.ir_check.specs.Blocks.{is_terminator, ends_well, begins_well, terminators_keep}
use Rattle.hard_ir.specs.declared.instruction.HInst.{HInst}
use Rattle.hard_ir.specs.declared.instruction.HInst.TheVariants.{Cut, Begin, End, Tick, Chk, ChkMem, Mov, Do}
use Rattle.hard_ir.specs.Image.{Table, phi_image}
use Rattle.hard_ir.specs.Hardened.{hard_block, hard_blocks, hardened_by}
use Rattle.hard_ir.specs.Fit.{HardFunc, HInstLine, phi_lines, inst_lines, plain_inst, plain_block, plain_line, forms_keep, AllKeep}
use Rattle.hard_ir.specs.EdgeChecks.{edge_phis}
use Rattle.hard_laws.proofs.HardLines.{IsBlockOf, hard_of, both}
use Rattle.edge_laws.proofs.Ends.{ending, EndAlike, last, last-behind, last-cons}
use Rattle.edge_laws.proofs.WithEdges.{edge_on, edge_blocks, Passes, of-block}

-- ---- bodies

phi-only : Side × Inst → Inst
phi-only phi = phi.1

-- what stands behind phis ends well where the whole does
ends-split : (xs ys : List Inst) → list_all is_phi xs ≡ true → ends_well (xs ++ ys) ≡ true → ends_well ys ≡ true
ends-split [] ys p e = e
ends-split (insts.Phi dst ty arms ∷ []) [] p e = cc
ends-split (insts.Phi dst ty arms ∷ []) (y ∷ ys) p e = e
ends-split (insts.Phi dst ty arms ∷ z ∷ xs) ys p e = ends-split (z ∷ xs) ys p e
ends-split (inst ∷ xs) ys p e = cc

pub ends-join : (xs ys : List Inst) → list_all is_phi xs ≡ true → ends_well ys ≡ true → ends_well (xs ++ ys) ≡ true
ends-join [] ys p e = e
ends-join (insts.Phi dst ty arms ∷ []) [] p e = cc
ends-join (insts.Phi dst ty arms ∷ []) (y ∷ ys) p e = e
ends-join (insts.Phi dst ty arms ∷ z ∷ xs) ys p e = ends-join (z ∷ xs) ys p e
ends-join (inst ∷ xs) ys p e = cc

ends-fence : (ys : List Inst) → ends_well ys ≡ true → ends_well (insts.Fence ∷ ys) ≡ true
ends-fence [] e = cc
ends-fence (y ∷ ys) e = e

begins-join : (xs ys : List Inst) → list_all is_phi xs ≡ true → list_any is_phi ys ≡ false → begins_well (xs ++ insts.Fence ∷ ys) ≡ true
begins-join [] ys p e = ap not e
begins-join (x ∷ xs) ys p e = let parts = both_true (is_phi x) (list_all is_phi xs) p in rw parts.0 (begins-join xs ys parts.1 e)

pub image-phis-only : (body : List Inst) → list_all is_phi (map (λ (phi : Side × Inst). phi.1) (flat_map phi_image body)) ≡ true
image-phis-only [] = refl
image-phis-only (insts.Phi dst ty arms ∷ body) = image-phis-only body
image-phis-only (inst ∷ body) = image-phis-only body

-- no phi is done among items that keep their forms
pub no-phi-done : (n : ℕ) (f : HardFunc) (b i : ℕ) (items : List HInst) → list_all forms_keep (inst_lines n f b i items) ≡ true → list_any is_phi (map plain_inst items) ≡ false
no-phi-done n f b i [] e = refl
no-phi-done n f b i (item ∷ items) e = by_item item (both_true _ _ e).0 (no-phi-done n f b (i + 1) items (both_true _ _ e).1)
  where
    by_done : (inst : Inst) (c rest : Bool) → (not (is_phi inst) && c) ≡ true → rest ≡ false → (is_phi inst || rest) ≡ false
    by_done inst c rest e r = by_test (is_phi inst) e
      where
        by_test : (d : Bool) → (not d && c) ≡ true → (d || rest) ≡ false
        by_test true h = cc
        by_test false h = r

    by_item : (item : HInst) → forms_keep (HInstLine n f b i item) ≡ true → list_any is_phi (map plain_inst items) ≡ false → list_any is_phi (map plain_inst (item ∷ items)) ≡ false
    by_item (Do side inst retires) h rest = by_done inst _ (list_any is_phi (map plain_inst items)) h rest
    by_item (Mov ty reg) h rest = rest
    by_item (Chk when ty reg) h rest = rest
    by_item (ChkMem ty ptr val) h rest = rest
    by_item (Tick work) h rest = rest
    by_item Cut h rest = rest
    by_item Begin h rest = rest
    by_item End h rest = rest

module _ (table : Table) (ofs : ℕ → ℕ → Option Loc) (m : ModuleParts) (forms : AllKeep forms_keep (hardened_by table m)) where
  pub list-free : (n b : ℕ) (f : FuncParts) (block : Block) → IsBlockOf m n f b block → list_any is_phi (map plain_inst (hard_block table f b block).list) ≡ false
  list-free n b f block at =
      let hard = hard_block table f b block in
      let lines = of-block table m forms_keep forms n b f block at in
      let items = (both_true _ _ (flip (list_all-append forms_keep (phi_lines n (hard_of table f) b 0 hard.phis) (inst_lines n (hard_of table f) b (length hard.phis) hard.list)) ∙ lines)).1 in
      no-phi-done n (hard_of table f) b (length hard.phis) hard.list items

  phis-in : (body : List Inst) (more : List (Side × Inst)) → map (λ (phi : Side × Inst). phi.1) (flat_map phi_image body ++ more) ≡ map (λ (phi : Side × Inst). phi.1) (flat_map phi_image body) ++ map (λ (phi : Side × Inst). phi.1) more
  phis-in body more = map-append (λ (phi : Side × Inst). phi.1) (flat_map phi_image body) more

  well-edged : (n b : ℕ) (f : FuncParts) (block : Block) (o : Option Loc) → IsBlockOf m n f b block → (ends_well (plain_block (hard_block table f b block)).insts && begins_well (plain_block (hard_block table f b block)).insts) ≡ true
      → (ends_well (plain_block (edge_on o f.blocks (hard_block table f b block))).insts && begins_well (plain_block (edge_on o f.blocks (hard_block table f b block))).insts) ≡ true
  well-edged n b f block None at e = e
  well-edged n b f block (Some name) at e =
      let parts = both_true _ _ e in
      let list : List Inst = map plain_inst (hard_block table f b block).list in
      let was : List Inst = map (λ (phi : Side × Inst). phi.1) (flat_map phi_image block.insts) in
      let new : List Inst = map (λ (phi : Side × Inst). phi.1) (edge_phis name f.blocks block.label) in
      let only : list_all is_phi (was ++ new) ≡ true = list_all-append is_phi was new ∙ both (image-phis-only block.insts) refl in
      let ends : ends_well ((was ++ new) ++ insts.Fence ∷ list) ≡ true = ends-join (was ++ new) (insts.Fence ∷ list) only (ends-fence list (ends-split was list (image-phis-only block.insts) parts.0)) in
      let begins : begins_well ((was ++ new) ++ insts.Fence ∷ list) ≡ true = begins-join (was ++ new) list only (list-free n b f block at) in
      let phis = flip (phis-in block.insts (edge_phis name f.blocks block.label)) in
      both (subst (λ (xs : List Inst). ends_well (xs ++ insts.Fence ∷ list) ≡ true) phis ends) (subst (λ (xs : List Inst). begins_well (xs ++ insts.Fence ∷ list) ≡ true) phis begins)

  pub terminators-pass : Passes table ofs m (λ line. terminators_keep (plain_line line)) (λ line. terminators_keep (plain_line line))
  terminators-pass = record {
    outer = λ line e. e;
    block = λ n b f block at e. well-edged n b f block (ofs n b) at e;
    phi = λ n b i j f block phi at e. refl;
    item = λ n b i j f block item at e. refl;
    edge_phi = λ n b i f block name side at e. refl;
    edge_check = λ n b i f block name at e. refl;
  }

-- ---- edges

last-fence : (xs : List Inst) (x : Inst) (y : Inst) → last xs ≡ Some y → last (x ∷ xs) ≡ Some y
last-fence xs x y e = last-behind (x ∷ []) xs y e

some-last : (xs : List Inst) → ends_well xs ≡ true → (y : Inst) × (last xs ≡ Some y)
some-last [] e = cc
some-last (x ∷ []) e = (x, refl)
some-last (x ∷ y ∷ xs) e = let rest = some-last (y ∷ xs) (both_true (not (is_terminator x)) (ends_well (y ∷ xs)) e).1 in (rest.0, last-cons x y xs ∙ rest.1)

module _ (table : Table) (f : FuncParts) where
  on-ends : (b : ℕ) (block : Block) (o : Option Loc) → ends_well (plain_block (hard_block table f b block)).insts ≡ true
      → ending (plain_block (edge_on o f.blocks (hard_block table f b block))) ≡ ending (plain_block (hard_block table f b block))
  on-ends b block None e = refl
  on-ends b block (Some name) e =
      let list : List Inst = map plain_inst (hard_block table f b block).list in
      let was : List Inst = map (λ (phi : Side × Inst). phi.1) (flat_map phi_image block.insts) in
      let now : List Inst = map (λ (phi : Side × Inst). phi.1) (flat_map phi_image block.insts ++ edge_phis name f.blocks block.label) in
      let end = some-last list (ends-split was list (image-phis-only block.insts) e) in
      let before : last (was ++ list) ≡ Some end.0 = last-behind was list end.0 end.1 in
      let after : last (now ++ insts.Fence ∷ list) ≡ Some end.0 = last-behind now (insts.Fence ∷ list) end.0 (last-fence list insts.Fence end.0 end.1) in
      ap (λ (o : Option Inst). (block.label, o)) (after ∙ flip before)

  pub edge-ends : (of : ℕ → Option Loc) (b : ℕ) (blocks : List Block) → EndAlike (map plain_block (hard_blocks table f b blocks)) blocks
      → ((k : ℕ) (block : Block) → slice_get blocks k ≡ Some block → ends_well (plain_block (hard_block table f (b + k) block)).insts ≡ true) → EndAlike (map plain_block (edge_blocks table f of b blocks)) blocks
  edge-ends of b [] alike well = tt
  edge-ends of b (block ∷ blocks) alike well =
      let here : ends_well (plain_block (hard_block table f b block)).insts ≡ true = subst (λ (k : ℕ). ends_well (plain_block (hard_block table f k block)).insts ≡ true) (omega arith) (well 0 block refl) in (
        on-ends b block (of b) here ∙ alike.0,
        edge-ends of (b + 1) blocks alike.1 (λ k x h. subst (λ (j : ℕ). ends_well (plain_block (hard_block table f j x)).insts ≡ true) (omega arith) (well (suc k) x h)),
      )
