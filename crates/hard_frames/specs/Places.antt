-- Places as text: the names of function and block, and the index of an instruction, joined by `/`.
use Rattle.std.specs.Prelude.{ℕ, List, [], ◌++◌, Option, Some, None, slice_get, codes, decimal}
use Rattle.ir_core.specs.Module.{ModuleParts, FuncParts}
use Rattle.ir_layout.specs.Limits.{name_at}
use Rattle.hard_ir.specs.declared.instruction.HBlock.{HBlock}
use Rattle.hard_ir.specs.Hardened.{HardParts}
use Rattle.hard_frames.specs.declared.state.Frame.{Frame}
use Rattle.hard_frames.specs.Code.{blocks_at}

abbrev pub function_text : ModuleParts → Option FuncParts → List ℕ
function_text m (Some f) = name_at m.syms f.sym.0
function_text m None = []

abbrev pub label_text : Option FuncParts → Option HBlock → List ℕ
label_text (Some f) (Some block) = name_at f.names block.label.0
label_text f block = []

abbrev pub place_text : HardParts → Frame → List ℕ
place_text h frame =
    let f = slice_get h.heads.funcs frame.function in
    function_text h.heads f ++ codes "/" ++ label_text f (slice_get (blocks_at h frame.function) frame.block) ++ codes "/" ++ decimal frame.index
