-- The state of a program that runs from its source: a process of frames with one copy of each register, and whether the program has
-- ended.
--
-- Choices: a place is the numbers of a function and of a block, and an index among the block's instructions, phis counted. What stands in
-- stack regions and in the heap from the start is 0.
use Rattle.std.specs.Prelude.{ℕ, Bool, false, List, [], ◌∷◌, map, Option, None, slice_get, unwrap_or}
use Rattle.std.specs.List.{zip, position}
use Rattle.std.specs.Option.{option_map_or}
use Rattle.ir_core.specs.declared.types.Loc.{Loc}
use Rattle.ir_core.specs.declared.instruction.Inst.{Inst}
use Rattle.ir_core.specs.declared.instruction.Block.{Block}
use Rattle.ir_core.specs.Module.{ModuleParts, FuncParts}
use Rattle.ir_check.specs.Functions.{is_main}
use Rattle.inst_meaning.specs.Phis.{all_assigned}
use Rattle.process.specs.State.{ProcessParts}
use Rattle.src_meaning.specs.declared.state.Frame.{Frame}

pub record State : Type 0 where
  pub process : ProcessParts Frame
  pub ended : Bool

-- what contracts see of a source machine: its program, and its state
pub record Sourced : Type 0 where
  pub program : ModuleParts
  pub state : State

-- ---- code

abbrev pub blocks_at : List FuncParts → ℕ → List Block
blocks_at funcs n = option_map_or (λ f. f.blocks) (slice_get funcs n) []

abbrev pub code_at : List Block → ℕ → List Inst
code_at blocks n = option_map_or (λ block. block.insts) (slice_get blocks n) []

-- the instruction at a frame's place
abbrev pub inst_at : ModuleParts → Frame → Option Inst
inst_at m frame = slice_get (code_at (blocks_at m.funcs frame.function) frame.block) frame.index

-- the number of `main`; each accepted module has one
abbrev pub main_of : ModuleParts → ℕ
main_of m = unwrap_or (position (is_main m) m.funcs) 0

-- ---- entering a function

abbrev pub params_at : List FuncParts → ℕ → List Loc
params_at funcs n = option_map_or (λ f. map (λ param. param.1) f.params) (slice_get funcs n) []

-- a function is entered with these words: it stands at its first instruction, and its parameters have them
abbrev pub entry_frame : ModuleParts → ℕ → List ℕ → ℕ → Frame
entry_frame m n words mark = record { function = n; block = 0; index = 0; registers = all_assigned (zip (params_at m.funcs n) words) []; mark = mark; waiting = None }
