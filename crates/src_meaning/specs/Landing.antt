-- How the code keeps where a jump lands, and what it decodes.
use Rattle.std.specs.Prelude.{ℕ, List, Option}
use Rattle.std.specs.Option.{option_map}
use Rattle.ir_core.specs.declared.types.Loc.{Loc}
use Rattle.ir_core.specs.declared.instruction.Inst.{Inst}
use Rattle.ir_core.specs.Module.{ModuleParts}
use Rattle.inst_meaning.specs.declared.actions.Action.{Action}
use Rattle.inst_meaning.specs.Action.{destination}
use Rattle.inst_meaning.specs.Phis.{all_assigned}
use Rattle.src_meaning.specs.declared.state.Frame.{Frame}
use Rattle.src_meaning.specs.State.{inst_at}
use Rattle.src_meaning.specs.Step.{action_in}

-- the frame at a block and an index there, once words have gone to its registers
abbrev pub landed_at : Frame → List (Loc × ℕ) → ℕ × ℕ → Frame
landed_at frame words place = record frame { block = place.0; index = place.1; registers = all_assigned words frame.registers }

-- the register that takes the result of the instruction at a frame's place, and what that instruction asks for
abbrev pub decoded_as : ModuleParts → Frame → Inst → Option Loc × Action
decoded_as m frame inst = (destination inst, action_in m frame inst)

abbrev pub decoded : ModuleParts → Frame → Option (Option Loc × Action)
decoded m frame = option_map (decoded_as m frame) (inst_at m frame)
