-- How blocks begin and end, and that nothing leads to the first one (LLVM Language Reference, 'Functions', 'Terminator
-- Instructions', 'phi Instruction').
use Rattle.std.specs.Prelude.{Bool, true, false, not, ◌&&◌, ◌==◌, List, [], ◌∷◌, if◌then◌else◌}
use Rattle.std.specs.List.{list_any}
use Rattle.ir_core.specs.declared.instruction.Inst.{Inst}
use Rattle.ir_core.specs.declared.instruction.Inst.TheVariants as insts
use Rattle.ir_core.specs.Instructions.{is_phi}
use Rattle.ir_core.specs.Module.{FuncParts}
use Rattle.ir_flow.specs.Edges.{edges_of}
use Rattle.ir_lines.specs.Lines.{Line, BlockLine}

abbrev pub is_terminator : Inst → Bool
is_terminator (insts.Br to) = true
is_terminator (insts.CondBr cond on_true on_false) = true
is_terminator (insts.Switch ty on default cases) = true
is_terminator (insts.Ret ty val) = true
is_terminator insts.Unreachable = true
is_terminator inst = false

-- the last of the instructions is the one terminator
abbrev pub ends_well : List Inst → Bool
ends_well [] = false
ends_well (inst ∷ []) = is_terminator inst
ends_well (inst ∷ next ∷ body) = not (is_terminator inst) && ends_well (next ∷ body)

-- no phi stands behind another instruction
abbrev pub begins_well : List Inst → Bool
begins_well [] = true
begins_well (inst ∷ body) = if is_phi inst then begins_well body else not (list_any is_phi body)

abbrev pub terminators_keep : Line → Bool
terminators_keep (BlockLine n f b block) = ends_well block.insts && begins_well block.insts
terminators_keep line = true

-- some edge leads to the entry
abbrev pub enters : FuncParts → Bool
enters f = list_any (λ edge. edge.1 == 0) (edges_of f).pairs

-- no edge leads to the entry of a function
abbrev pub entries_keep : Line → Bool
entries_keep (BlockLine n f b block) = not (b == 0 && enters f)
entries_keep line = true
