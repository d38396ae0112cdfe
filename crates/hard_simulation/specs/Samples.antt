-- A hardened program that no table makes: its shadow computes another word than its master, and a check stands behind both.
use Rattle.std.specs.Prelude.{ℕ, true, false, [], ◌∷◌, Some, None, codes}
use Rattle.ir_core.specs.declared.types.Ty.TheVariants as types
use Rattle.ir_core.specs.declared.types.Width.TheVariants.{W32, W64}
use Rattle.ir_core.specs.declared.values.Val.TheVariants as values
use Rattle.ir_core.specs.declared.values.Side.TheVariants.{M, S}
use Rattle.ir_core.specs.declared.instruction.BinOp.TheVariants as operators
use Rattle.ir_core.specs.declared.instruction.Inst.{Inst}
use Rattle.ir_core.specs.declared.instruction.Inst.TheVariants as insts
use Rattle.mem_image.specs.Bytes.{Memory}
use Rattle.inst_meaning.specs.World.{opening_world}
use Rattle.hard_ir.specs.declared.instruction.When.TheVariants.{Always}
use Rattle.hard_ir.specs.declared.instruction.HInst.TheVariants.{Chk, Do}
use Rattle.hard_ir.specs.Image.{no_flags}
use Rattle.hard_ir.specs.Hardened.{HardParts}
use Rattle.process.specs.State.{new_thread}
use Rattle.hard_machine.specs.State.{State}
use Rattle.hard_frames.specs.Frames.{frames}

-- a register gets 2 and a number more
abbrev pub sum_of : ℕ → Inst
sum_of n = insts.Bin (record { 0 = 1 }) operators.Add no_flags W64 (values.Int 2) (values.Int n)

abbrev pub differing : HardParts
differing = record {
  heads = record {
    types = [];
    globals = [];
    declares = [];
    funcs = record { sym = record { 0 = 0 }; ret = types.Int W32; params = []; blocks = []; names = codes "0" ∷ codes "a" ∷ [] } ∷ [];
    syms = codes "main" ∷ [];
    type_names = [];
  };
  funcs = (record {
    label = record { 0 = 0 };
    phis = [];
    list = Do M (sum_of 3) false ∷ Do S (sum_of 4) true ∷ Chk Always (types.Int W64) (record { 0 = 1 }) ∷ Do M (insts.Ret (types.Int W32) (Some (values.Int 0))) true ∷ [];
  } ∷ []) ∷ [];
}

-- thread 0 stands at the entry of its one function, `main`
abbrev pub entered : Memory → State
entered memory = record {
  process = record { memory = memory; threads = new_thread (frames differing) 0 0 [] ∷ []; world = opening_world [] };
  turns = [];
  stop = None;
}
