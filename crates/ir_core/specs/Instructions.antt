-- What an instruction is (LLVM Language Reference, 'Instruction Reference').
use Rattle.std.specs.Prelude.{Bool, true, false, Option, Some, None}
use Rattle.ir_core.specs.declared.types.Loc.{Loc}
use Rattle.ir_core.specs.declared.instruction.Inst.{Inst}
use Rattle.ir_core.specs.declared.instruction.Inst.TheVariants as insts

-- the register that takes an instruction's result
abbrev pub result_of : Inst → Option Loc
result_of (insts.Bin dst op flags w a b) = Some dst
result_of (insts.Cmp dst pred ty a b) = Some dst
result_of (insts.Select dst cond ty a b) = Some dst
result_of (insts.Cast dst op from a to) = Some dst
result_of (insts.Gep dst base ptr index) = Some dst
result_of (insts.Alloca dst ty) = Some dst
result_of (insts.Load dst ty ptr atomic) = Some dst
result_of (insts.Rmw dst op ptr ty val) = Some dst
result_of (insts.CmpXchg dst ptr ty old new) = Some dst
result_of (insts.Extract dst elem pair index) = Some dst
result_of (insts.Call dst ret callee args) = dst
result_of (insts.Phi dst ty arms) = Some dst
result_of inst = None

abbrev pub is_phi : Inst → Bool
is_phi (insts.Phi dst ty arms) = true
is_phi inst = false
