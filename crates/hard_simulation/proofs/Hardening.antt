-- The hardened module of the image table is an image of its source.
use Rattle.std.proofs.Common.{ℕ, zero, suc, ◌≡◌, ◌+◌, ◌∙◌, Bool, true, false, List, [], ◌∷◌, ◌++◌, Option, Some, None, refl, ap, sym, subst, arith, slice_get, append_assoc}
use Rattle.std.specs.List.{flat_map}
use Rattle.std.specs.Option.{option_map, option_map_or}
use Rattle.std.proofs.lemmas.Option.{slice_get-map}
use Rattle.ir_core.specs.declared.types.Ty.{Ty}
use Rattle.ir_core.specs.declared.types.Loc.{Loc}
use Rattle.ir_core.specs.declared.instruction.Inst.{Inst}
use Rattle.ir_core.specs.declared.instruction.Block.{Block}
use Rattle.ir_core.specs.Module.{ModuleParts, FuncParts}
use Rattle.ir_flow.specs.Edges.{edges_of, is_loop_head}
use Rattle.ir_core.specs.Instructions.{is_phi}
use Rattle.src_meaning.specs.State.{blocks_at as source_blocks}
use Rattle.hard_ir.specs.declared.instruction.HInst.{HInst}
use Rattle.hard_ir.specs.declared.instruction.HBlock.{HBlock}
use Rattle.hard_ir.specs.Image.{check, check_table, checked, flow}
use Rattle.hard_ir.specs.Hardened.{at_entry, at_head, hard_block, hard_blocks, hard_func, hardened_by}
use Rattle.hard_simulation.specs.Image.{Image, Over, Phi, Next, IsBlockImage, AreBlockImages, IsImage, copies_onto, copied_at}
use Rattle.hard_simulation.proofs.Instructions.{phi-flow, phi-checked}

-- ---- instructions

phi-image : (inst : Inst) → is_phi inst ≡ true → check_table.image inst ≡ []
phi-image inst phi = rw (phi-checked inst phi, phi-flow inst phi) refl

-- what the table makes of instructions
abbrev coded : List Inst → List HInst
coded insts = flat_map check_table.image insts

images : (insts : List Inst) → Image insts (coded insts)
images [] = Over refl refl
images (inst ∷ insts) = by_kind (is_phi inst) refl (images insts)
  where
    by_kind : (b : Bool) → is_phi inst ≡ b → Image insts (coded insts) → Image (inst ∷ insts) (coded (inst ∷ insts))
    by_kind true phi rest = Phi inst insts refl phi (subst (λ (code : List HInst). Image insts (code ++ coded insts)) (sym (phi-image inst phi)) rest)
    by_kind false other rest =
        let parts = append_assoc (flat_map check (checked inst)) (flow inst) (coded insts) in
        Next inst insts [] (coded insts) refl other parts rest

-- ---- blocks

-- nothing is added at a loop head
head-none : (b : Bool) → at_head check_table b ≡ []
head-none true = refl
head-none false = refl

-- what is copied at the entry
abbrev copied_in : FuncParts → ℕ → List (Ty × Loc)
copied_in f zero = f.params
copied_in f (suc b) = []

entry-copies : (f : FuncParts) (b : ℕ) (code : List HInst) → at_entry check_table f b ++ code ≡ copies_onto (copied_in f b) code
entry-copies f zero code = refl
entry-copies f (suc b) code = refl

block-image : (f : FuncParts) (b : ℕ) (block : Block) → IsBlockImage (copied_in f b) block (hard_block check_table f b block)
block-image f b block = record {
  label = refl;
  phis = refl;
  rest = coded block.insts;
  list =
      ap (λ (code : List HInst). at_entry check_table f b ++ (code ++ coded block.insts)) (head-none (is_loop_head (edges_of f).pairs b))
      ∙ entry-copies f b (coded block.insts);
  image = images block.insts;
}

-- the blocks from a number on
blocks-image : (f : FuncParts) (start b place : ℕ) (blocks : List Block) → place ≡ start + b
    → AreBlockImages (copied_in f place) (slice_get blocks b) (slice_get (hard_blocks check_table f start blocks) b)
blocks-image f start b place [] e = tt
blocks-image f start zero place (block ∷ blocks) e =
    let same : start ≡ place = omega arith in
    subst (λ (n : ℕ). IsBlockImage (copied_in f n) block (hard_block check_table f start block)) same (block-image f start block)
blocks-image f start (suc b) place (block ∷ blocks) e = blocks-image f (start + 1) b place blocks (omega arith)

-- ---- functions

copied-some : (m : ModuleParts) (n b : ℕ) (f : FuncParts) → slice_get m.funcs n ≡ Some f → copied_at m n b ≡ copied_in f b
copied-some m n zero f at = ap (λ (o : Option FuncParts). option_map_or (λ (f : FuncParts). f.params) o []) at
copied-some m n (suc b) f at = refl

-- the blocks of a function that may not be there
abbrev hard_of : Option (List HBlock) → List HBlock
hard_of o = option_map_or (λ blocks. blocks) o []

func-image : (m : ModuleParts) (n b : ℕ) (o : Option FuncParts) → slice_get m.funcs n ≡ o
    → AreBlockImages (copied_at m n b) (slice_get (option_map_or (λ (f : FuncParts). f.blocks) o []) b)
    (slice_get (hard_of (option_map (hard_func check_table) o)) b)
func-image m n b None at = tt
func-image m n b (Some f) at =
    let place : b ≡ 0 + b = omega arith in
    let images = blocks-image f 0 b b f.blocks place in
    subst (λ (copied : List (Ty × Loc)). AreBlockImages copied (slice_get f.blocks b) (slice_get (hard_func check_table f) b))
    (sym (copied-some m n b f at)) images

pub hardened-is-image : (m : ModuleParts) → IsImage m (hardened_by check_table m)
hardened-is-image m = record {
  heads = refl;
  blocks = λ n b.
      subst (λ (o : Option (List HBlock)). AreBlockImages (copied_at m n b) (slice_get (source_blocks m.funcs n) b) (slice_get (hard_of o) b))
      (sym (slice_get-map (hard_func check_table) m.funcs n)) (func-image m n b (slice_get m.funcs n) refl);
}
