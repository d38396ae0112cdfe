-- A hardened module with the checks of its instructions: what is made of each item, whatever stands around it.
use Rattle.std.specs.Prelude.{◌≡◌, List, [], ◌∷◌, ◌++◌, map}
use Rattle.std.specs.List.{flat_map}
use Rattle.hard_ir.specs.declared.instruction.HInst.{HInst}
use Rattle.hard_ir.specs.declared.instruction.HInst.TheVariants.{Do}
use Rattle.hard_ir.specs.declared.instruction.HBlock.{HBlock}
use Rattle.hard_ir.specs.Hardened.{HardParts, hardened_by}
use Rattle.hard_ir.specs.Image.{check, check_table, checked, flow_table}
use Rattle.ir_core.specs.Module.{ModuleParts}

-- the checks of an item's operands
abbrev pub checks_of : HInst → List HInst
checks_of (Do side inst retires) = flat_map check (checked inst)
checks_of item = []

abbrev pub checked_item : HInst → List HInst
checked_item item = checks_of item ++ item ∷ []

abbrev pub checked_block : HBlock → HBlock
checked_block block = record block { list = flat_map checked_item block.list }

abbrev pub checked_funcs : List (List HBlock) → List (List HBlock)
checked_funcs = map (map checked_block)

abbrev pub checked_module : HardParts → HardParts
checked_module h = record h { funcs = checked_funcs h.funcs }

-- the checks of a program's two flows are the column of checks
abbrev pub IsColumn : Type 0
IsColumn = (m : ModuleParts) → checked_module (hardened_by flow_table m) ≡ hardened_by check_table m
