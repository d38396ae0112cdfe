-- What holds of each hardened module that is made, and how wide its registers are.
use Rattle.std.specs.Prelude.{ℕ, ◌≡◌, ◌<◌, ◌+◌, List, [], ◌∷◌, ◌++◌, map, length, Option, Some, None, slice_get, unwrap_or}
use Rattle.std.specs.List.{All, flat_map, filter_map, zip}
use Rattle.std.specs.Option.{option_map}
use Rattle.ir_core.specs.declared.types.Ty.{Ty}
use Rattle.ir_core.specs.declared.types.Ty.TheOpen.{Ty-F}
use Rattle.ir_core.specs.declared.types.Ty.TheViews.{out-Ty}
use Rattle.ir_core.specs.declared.types.Loc.{Loc}
use Rattle.ir_core.specs.declared.values.Side.{Side}
use Rattle.ir_core.specs.declared.instruction.Inst.{Inst}
use Rattle.ir_core.specs.Module.{FuncParts}
use Rattle.ir_types.specs.Firsts.{first_of}
use Rattle.ir_types.specs.Meanings.{result_of, word_bits, width_of_meaning}
use Rattle.hard_ir.specs.declared.instruction.HInst.{HInst}
use Rattle.hard_ir.specs.declared.instruction.HInst.TheVariants.{Mov, Do}
use Rattle.hard_ir.specs.declared.instruction.HBlock.{HBlock}
use Rattle.hard_ir.specs.Hardened.{HardParts}
use Rattle.hard_ir.specs.Fit.{Fits}
use Rattle.hard_ir.specs.Standing.{HasLines}

-- ---- facts

-- a list of hardened instructions is shorter than this
abbrev pub list_limit : ℕ
list_limit = 4294967295

abbrev pub IsShort : HBlock → Type 0
IsShort block = length block.list < list_limit

abbrev pub AreShort : List (List HBlock) → Type 0
AreShort = All (All IsShort)

-- The heads have no blocks, there is one list of blocks a function, no list of instructions is too long, the module fits, and each
-- function has a block, and lines of hardened text for all that stands in its blocks.
pub record IsHardened (h : HardParts) : Type 0 where
  pub bare : (n : ℕ) (f : FuncParts) → slice_get h.heads.funcs n ≡ Some f → f.blocks ≡ []
  pub count : length h.funcs ≡ length h.heads.funcs
  pub short : AreShort h.funcs
  pub fits : Fits h
  pub lines : HasLines h

-- ---- widths

-- the bits of a register of a type; one that is a struct holds what a `cmpxchg` gave
abbrev pub register_bits_step : Ty → Ty-F Ty → ℕ
register_bits_step ty (Ty-F.Struct (first ∷ rest)) = word_bits first + 1
register_bits_step ty other = word_bits ty

abbrev pub register_bits : Ty → ℕ
register_bits ty = register_bits_step ty (out-Ty ty)

abbrev pub width_of_param : Ty × Loc → Loc × ℕ
width_of_param param = (param.1, register_bits param.0)

-- the register that takes an instruction's result, with its bits
abbrev pub width_of_result : Inst → Option (Loc × ℕ)
width_of_result inst = option_map (λ result. (result.0, width_of_meaning result.1)) (result_of inst)

abbrev pub width_in : HInst → Option (Loc × ℕ)
width_in (Do side inst retires) = width_of_result inst
width_in (Mov ty reg) = Some (reg, register_bits ty)
width_in other = None

abbrev pub width_of_phi : Side × Inst → Option (Loc × ℕ)
width_of_phi phi = width_of_result phi.1

abbrev pub widths_in : HBlock → List (Loc × ℕ)
widths_in block = filter_map width_of_phi block.phis ++ filter_map width_in block.list

-- the bits of a function's registers, in the order of their definitions
abbrev pub hard_widths : FuncParts → List HBlock → List (Loc × ℕ)
hard_widths head blocks = map width_of_param head.params ++ flat_map widths_in blocks

-- those of each function, in order
abbrev pub widths_of_pair : FuncParts × List HBlock → List (Loc × ℕ)
widths_of_pair pair = hard_widths pair.0 pair.1

abbrev pub module_widths : List FuncParts → List (List HBlock) → List (List (Loc × ℕ))
module_widths heads funcs = map widths_of_pair (zip heads funcs)

-- how many bits a register holds, by its first definition, and 0 for any other name
abbrev pub hard_width : FuncParts → List HBlock → Loc → ℕ
hard_width head blocks reg = unwrap_or (first_of (hard_widths head blocks) reg) 0
