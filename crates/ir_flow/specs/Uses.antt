-- The registers that a function reads, each with its place and the place at which it must be assigned
-- (LLVM Language Reference, 'Instruction Reference', 'phi Instruction').
--
-- Choices: every operand of an instruction is read, also the value of a `select` that isn't taken. The value of a phi is read at the
-- end of the block that its label names, but a fault of it stands at the phi. Uses stand in the order of blocks and of
-- instructions, and those of one instruction as its line writes them.
use Rattle.std.specs.Prelude.{ℕ, ◌≡◌, ◌+◌, ◌<◌, List, [], ◌∷◌, ◌++◌, length, Option, Some, None, slice_get}
use Rattle.std.specs.List.{flat_map}
use Rattle.ir_core.specs.declared.types.Ty.{Ty}
use Rattle.ir_core.specs.declared.types.Loc.{Loc}
use Rattle.ir_core.specs.declared.types.Width.{Width}
use Rattle.ir_core.specs.declared.values.Val.{Val}
use Rattle.ir_core.specs.declared.values.Val.TheVariants as values
use Rattle.ir_core.specs.declared.instruction.Inst.{Inst}
use Rattle.ir_core.specs.declared.instruction.Inst.TheVariants as insts
use Rattle.ir_core.specs.declared.instruction.Block.{Block}
use Rattle.ir_core.specs.Module.{FuncParts}
use Rattle.ir_flow.specs.Edges.{number_of}
use Rattle.ir_flow.specs.Paths.{body_of, IsAssigned, IsUnassigned}
use Rattle.ir_flow.specs.declared.uses.Use.{Use}

-- ---- the registers of an instruction

abbrev pub reg_in : Val → List Loc
reg_in (values.Reg at) = at ∷ []
reg_in (values.Int n) = []
reg_in values.Null = []
reg_in (values.Global sym) = []
reg_in (values.Gep gep) = []

abbrev pub reg_in_arg : Ty × Val → List Loc
reg_in_arg arg = reg_in arg.1

abbrev pub reg_in_index : Width × Val → List Loc
reg_in_index index = reg_in index.1

abbrev pub reg_in_option : Option Val → List Loc
reg_in_option None = []
reg_in_option (Some val) = reg_in val

-- those that it reads where it stands, as its line writes them
abbrev pub regs_in : Inst → List Loc
regs_in (insts.Bin dst op flags w a b) = reg_in a ++ reg_in b
regs_in (insts.Cmp dst pred ty a b) = reg_in a ++ reg_in b
regs_in (insts.Select dst cond ty a b) = reg_in cond ++ reg_in a ++ reg_in b
regs_in (insts.Cast dst op from a to) = reg_in a
regs_in (insts.Gep dst base ptr index) = reg_in ptr ++ flat_map reg_in_index index
regs_in (insts.Load dst ty ptr atomic) = reg_in ptr
regs_in (insts.Store ty val ptr atomic) = reg_in val ++ reg_in ptr
regs_in (insts.Rmw dst op ptr ty val) = reg_in ptr ++ reg_in val
regs_in (insts.CmpXchg dst ptr ty old new) = reg_in ptr ++ reg_in old ++ reg_in new
regs_in (insts.Extract dst elem pair index) = pair ∷ []
regs_in (insts.Call dst ret callee args) = flat_map reg_in_arg args
regs_in (insts.CondBr cond on_true on_false) = reg_in cond
regs_in (insts.Switch ty on default cases) = reg_in on
regs_in (insts.Ret ty val) = reg_in_option val
regs_in inst = []

-- the arms of a phi
abbrev pub arms_in : Inst → List (Val × Loc)
arms_in (insts.Phi dst ty arms) = arms
arms_in inst = []

-- ---- uses

-- registers that are read where the instruction stands
abbrev pub uses_here : ℕ → ℕ → List Loc → List Use
uses_here block inst [] = []
uses_here block inst (reg ∷ regs) = record { block = block; inst = inst; reg = reg; at_block = block; at_inst = inst } ∷ uses_here block inst regs

-- what is read at the end of the block with a number
abbrev pub uses_at_end : List Block → ℕ → ℕ → Option ℕ → List Loc → List Use
uses_at_end blocks block inst None regs = []
uses_at_end blocks block inst (Some from) [] = []
uses_at_end blocks block inst (Some from) (reg ∷ regs) = record { block = block; inst = inst; reg = reg; at_block = from; at_inst = length (body_of blocks from) } ∷ uses_at_end blocks block inst (Some from) regs

abbrev pub uses_of_arm : List Block → ℕ → ℕ → Val × Loc → List Use
uses_of_arm blocks block inst arm = uses_at_end blocks block inst (number_of blocks arm.1) (reg_in arm.0)

abbrev pub uses_of_inst : List Block → ℕ → ℕ → Inst → List Use
uses_of_inst blocks block inst i = uses_here block inst (regs_in i) ++ flat_map (uses_of_arm blocks block inst) (arms_in i)

abbrev pub uses_of_body : List Block → ℕ → ℕ → List Inst → List Use
uses_of_body blocks block n [] = []
uses_of_body blocks block n (inst ∷ body) = uses_of_inst blocks block n inst ++ uses_of_body blocks block (n + 1) body

abbrev pub uses_from : List Block → ℕ → List Block → List Use
uses_from all n [] = []
uses_from all n (block ∷ blocks) = uses_of_body all n 0 block.insts ++ uses_from all (n + 1) blocks

abbrev pub uses_of : FuncParts → List Use
uses_of f = uses_from f.blocks 0 f.blocks

-- ---- the first use that isn't assigned

abbrev pub UseAssigned : FuncParts → Use → Type 0
UseAssigned f u = IsAssigned f u.at_block u.at_inst u.reg

abbrev pub AllAssigned : FuncParts → Type 0
AllAssigned f = (place : ℕ) (u : Use) → slice_get (uses_of f) place ≡ Some u → UseAssigned f u

-- some use isn't assigned, and each before it is
pub record FirstUnassigned (f : FuncParts) (block inst : ℕ) (reg : Loc) : Type 0 where
  pub place : ℕ
  pub u : Use
  pub stands : slice_get (uses_of f) place ≡ Some u
  pub unassigned : IsUnassigned f u.at_block u.at_inst u.reg
  pub before : (k : ℕ) (other : Use) → k < place → slice_get (uses_of f) k ≡ Some other → UseAssigned f other
  pub at : (u.block ≡ block) × (u.inst ≡ inst) × (u.reg ≡ reg)
