-- What the next instruction of a thread reads has words (LLVM Language Reference, 'Well-Formedness', 'phi Instruction').
--
-- Choices: an instruction reads its operands. One that may jump also reads what the phis of each block to which it may jump take
-- from its own block, whichever way it then goes.
use Rattle.std.specs.Prelude.{ℕ, ◌≡◌, ◌<◌, true, List, [], Option, Some, slice_get, length}
use Rattle.std.specs.List.{flat_map}
use Rattle.std.specs.Option.{is_some, option_map_or}
use Rattle.ir_core.specs.declared.types.Loc.{Loc}
use Rattle.ir_core.specs.declared.instruction.Inst.{Inst}
use Rattle.ir_core.specs.declared.instruction.Block.{Block}
use Rattle.ir_core.specs.Module.{ModuleParts, FuncParts}
use Rattle.ir_flow.specs.Edges.{labels_of, number_of}
use Rattle.ir_flow.specs.Uses.{reg_in, regs_in, arms_in}
use Rattle.inst_meaning.specs.Registers.{get}
use Rattle.inst_meaning.specs.Phis.{phis_of, arm_from}
use Rattle.src_meaning.specs.declared.state.Frame.{Frame}
use Rattle.src_meaning.specs.State.{blocks_at, code_at}

-- each function has a block, as each that is read from a text
abbrev pub HaveBlocks : List FuncParts → Type 0
HaveBlocks funcs = (n : ℕ) (f : FuncParts) → slice_get funcs n ≡ Some f → 0 < length f.blocks

-- the register has a word
abbrev pub HasWord : List (Option ℕ) → Loc → Type 0
HasWord registers reg = is_some (get registers reg.0) ≡ true

abbrev pub AllHaveWords : List (Option ℕ) → List Loc → Type 0
AllHaveWords registers regs = (k : ℕ) (reg : Loc) → slice_get regs k ≡ Some reg → HasWord registers reg

-- the register that a phi takes from the block with a label
abbrev pub regs_from : Loc → Inst → List Loc
regs_from from phi = option_map_or reg_in (arm_from from (arms_in phi)) []

-- those that the phis of a block take from there
abbrev pub regs_of_phis : Loc → List Inst → List Loc
regs_of_phis from body = flat_map (regs_from from) (phis_of body)

-- the same, where the block is told by its label too
abbrev pub regs_at_edge : List Block → Loc → Loc → List Loc
regs_at_edge blocks from label = option_map_or (λ n. regs_of_phis from (code_at blocks n)) (number_of blocks label) []

-- whatever an instruction at a frame's place reads has a word
pub record ReadsWords (m : ModuleParts) (frame : Frame) (inst : Inst) : Type 0 where
  pub operands : AllHaveWords frame.registers (regs_in inst)
  pub phis : (from : Block) (k : ℕ) (label : Loc) → slice_get (blocks_at m.funcs frame.function) frame.block ≡ Some from → slice_get (labels_of inst) k ≡ Some label
      → AllHaveWords frame.registers (regs_at_edge (blocks_at m.funcs frame.function) from.label label)
