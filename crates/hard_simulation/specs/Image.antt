-- When a hardened module is an image of a source module: as a relation, which the hardened module of the image table keeps, and others
-- with other marks.
--
-- Choices: an image has the heads of the source and its labels, and the phis of the table. What stands in a block is the image of its
-- instructions one after another, behind the copies of parameters where the block is an entry. In a list nothing stands for a phi. Before
-- the image of another instruction pairs of `cut` and `begin` may stand, any number of times, and it may begin with ticks of any number;
-- the columns that are built so far make none of these.
use Rattle.std.specs.Prelude.{ℕ, zero, suc, ◌≡◌, true, false, List, [], ◌∷◌, ◌++◌, map, Option, Some, None, slice_get}
use Rattle.std.specs.List.{flat_map}
use Rattle.std.specs.Option.{option_map_or}
use Rattle.ir_core.specs.declared.types.Ty.{Ty}
use Rattle.ir_core.specs.declared.types.Loc.{Loc}
use Rattle.ir_core.specs.declared.values.Val.{Val}
use Rattle.ir_core.specs.declared.instruction.Inst.{Inst}
use Rattle.ir_core.specs.declared.instruction.Block.{Block}
use Rattle.ir_core.specs.Module.{ModuleParts}
use Rattle.ir_core.specs.Instructions.{is_phi}
use Rattle.src_meaning.specs.State.{blocks_at as source_blocks}
use Rattle.hard_ir.specs.declared.instruction.HInst.{HInst}
use Rattle.hard_ir.specs.declared.instruction.HInst.TheVariants.{Cut, Begin, Tick}
use Rattle.hard_ir.specs.declared.instruction.HBlock.{HBlock}
use Rattle.hard_ir.specs.Image.{copy_of, phi_image, checked, check, flow}
use Rattle.hard_ir.specs.Hardened.{HardParts, heads_of}
use Rattle.hard_frames.specs.Code.{blocks_at}

-- ticks, and then the checks of these operands, before other code
abbrev pub ticks_onto : List ℕ → List HInst → List HInst
ticks_onto ticks code = map Tick ticks ++ code

abbrev pub checks_onto : List (Ty × Val) → List HInst → List HInst
checks_onto operands code = flat_map check operands ++ code

abbrev pub copies_onto : List (Ty × Loc) → List HInst → List HInst
copies_onto registers code = map copy_of registers ++ code

-- the code is an image of the instructions
pub data Image : List Inst → List HInst → Type 0 where
  Over : {insts : List Inst} {code : List HInst} → insts ≡ [] → code ≡ [] → Image insts code
  Marked : {insts : List Inst} {code : List HInst} (rest : List HInst) → code ≡ Cut ∷ Begin ∷ rest → Image insts rest → Image insts code
  Phi : {insts : List Inst} {code : List HInst} (phi : Inst) (behind : List Inst) → insts ≡ phi ∷ behind → is_phi phi ≡ true
      → Image behind code → Image insts code
  Next : {insts : List Inst} {code : List HInst} (inst : Inst) (behind : List Inst) (ticks : List ℕ) (rest : List HInst)
      → insts ≡ inst ∷ behind → is_phi inst ≡ false → code ≡ ticks_onto ticks (checks_onto (checked inst) (flow inst ++ rest))
      → Image behind rest → Image insts code

-- the parameters that are copied where a block begins
abbrev pub copied_at : ModuleParts → ℕ → ℕ → List (Ty × Loc)
copied_at m n zero = option_map_or (λ f. f.params) (slice_get m.funcs n) []
copied_at m n (suc b) = []

-- a block of a function is an image of a source block
pub record IsBlockImage (copied : List (Ty × Loc)) (block : Block) (hard : HBlock) : Type 0 where
  pub label : hard.label ≡ block.label
  pub phis : hard.phis ≡ flat_map phi_image block.insts
  pub rest : List HInst
  pub list : hard.list ≡ copies_onto copied rest
  pub image : Image block.insts rest

abbrev pub AreBlockImages : List (Ty × Loc) → Option Block → Option HBlock → Type 0
AreBlockImages copied None None = Unit {0}
AreBlockImages copied (Some block) (Some hard) = IsBlockImage copied block hard
AreBlockImages copied block hard = ⊥

-- the hardened module is an image of the source module
pub record IsImage (m : ModuleParts) (h : HardParts) : Type 0 where
  pub heads : h.heads ≡ heads_of m
  pub blocks : (n b : ℕ) → AreBlockImages (copied_at m n b) (slice_get (source_blocks m.funcs n) b) (slice_get (blocks_at h n) b)
