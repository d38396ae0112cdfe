-- What the `%` names of a function stand for (LLVM Language Reference, 'Identifiers', 'Functions', 'Instruction Reference').
--
-- Choices: registers and labels of a function share their names. Where a name is defined twice, its first definition counts;
-- an accepted module has one.
use Rattle.std.specs.Prelude.{ℕ, ◌+◌, List, ◌∷◌, ◌++◌, map, Option, Some, None, nat_eq, unwrap_or, if◌then◌else◌}
use Rattle.std.specs.List.{flat_map, filter_map}
use Rattle.std.specs.Option.{option_map}
use Rattle.ir_core.specs.declared.types.Ty.{Ty}
use Rattle.ir_core.specs.declared.types.Ty.TheOpen.{Ty-F}
use Rattle.ir_core.specs.declared.types.Ty.TheVariants as types
use Rattle.ir_core.specs.declared.types.Ty.TheViews.{out-Ty}
use Rattle.ir_core.specs.declared.types.Loc.{Loc}
use Rattle.ir_core.specs.declared.types.Width.{Width}
use Rattle.ir_core.specs.declared.types.Width.TheVariants.{W1, W8, W16, W32, W64}
use Rattle.ir_core.specs.declared.instruction.Inst.{Inst}
use Rattle.ir_core.specs.declared.instruction.Inst.TheVariants as insts
use Rattle.ir_core.specs.declared.instruction.Block.{Block}
use Rattle.ir_core.specs.Module.{FuncParts}
use Rattle.ir_types.specs.Firsts.{first_of}

-- A label, a register of a type, or one that holds what a `cmpxchg` on a type gave: the old word and whether it succeeded.
pub data Meaning : Type 0 where
  Label : Meaning
  Register : Ty → Meaning
  Pair : Ty → Meaning

-- ---- definitions

-- the type of what an `extractvalue` takes out of a pair
abbrev pub extracted : Ty → ℕ → Ty
extracted ty index = if nat_eq index 0 then ty else types.Int W1

-- the register that an instruction assigns, and what it holds then
abbrev pub result_of : Inst → Option (Loc × Meaning)
result_of (insts.Bin dst op flags w a b) = Some (dst, Register (types.Int w))
result_of (insts.Cmp dst pred ty a b) = Some (dst, Register (types.Int W1))
result_of (insts.Select dst cond ty a b) = Some (dst, Register ty)
result_of (insts.Cast dst op from a to) = Some (dst, Register to)
result_of (insts.Gep dst base ptr index) = Some (dst, Register types.Ptr)
result_of (insts.Alloca dst ty) = Some (dst, Register types.Ptr)
result_of (insts.Load dst ty ptr atomic) = Some (dst, Register ty)
result_of (insts.Rmw dst op ptr ty val) = Some (dst, Register ty)
result_of (insts.CmpXchg dst ptr ty old new) = Some (dst, Pair ty)
result_of (insts.Extract dst elem pair index) = Some (dst, Register (extracted elem index))
result_of (insts.Call dst ret callee args) = option_map (λ dst. (dst, Register ret)) dst
result_of (insts.Phi dst ty arms) = Some (dst, Register ty)
result_of inst = None

abbrev pub param_meaning : Ty × Loc → Loc × Meaning
param_meaning param = (param.1, Register param.0)

abbrev pub block_meanings : Block → List (Loc × Meaning)
block_meanings block = (block.label, Label) ∷ filter_map result_of block.insts

-- what the names of a function stand for, in the order of their definitions
abbrev pub meanings : FuncParts → List (Loc × Meaning)
meanings f = map param_meaning f.params ++ flat_map block_meanings f.blocks

abbrev pub meaning_of : FuncParts → Loc → Option Meaning
meaning_of f at = first_of (meanings f) at

-- ---- widths

abbrev pub bits : Width → ℕ
bits W1 = 1
bits W8 = 8
bits W16 = 16
bits W32 = 32
bits W64 = 64

-- the bits of a word of a type, and 0 for a type that has no word
abbrev pub word_bits_step : Ty-F Ty → ℕ
word_bits_step (Ty-F.Int width) = bits width
word_bits_step Ty-F.Ptr = 64
word_bits_step other = 0

abbrev pub word_bits : Ty → ℕ
word_bits ty = word_bits_step (out-Ty ty)

abbrev pub width_of_meaning : Meaning → ℕ
width_of_meaning Label = 0
width_of_meaning (Register ty) = word_bits ty
width_of_meaning (Pair ty) = word_bits ty + 1

-- how many bits a register of a function holds, and 0 for any other name
abbrev pub width_of : FuncParts → Loc → ℕ
width_of f at = unwrap_or (option_map width_of_meaning (meaning_of f at)) 0
