-- What the proofs ask of the image of one instruction, and of a table; and that the tables keep it.
use Rattle.std.proofs.Common.{◌≡◌, Bool, true, false, ◌||◌, not, List, [], ◌∷◌, ◌++◌, map, Option, Some, None, refl}
use Rattle.std.specs.List.{filter_map, cons_option, list_all, list_any}
use Rattle.ir_core.specs.declared.types.Ty.{Ty}
use Rattle.ir_core.specs.declared.types.Loc.{Loc}
use Rattle.ir_core.specs.declared.values.Val.{Val}
use Rattle.ir_core.specs.declared.values.Val.TheVariants as values
use Rattle.ir_core.specs.declared.values.Side.{Side}
use Rattle.ir_core.specs.declared.values.Side.TheVariants.{M, S}
use Rattle.ir_core.specs.declared.instruction.Inst.{Inst}
use Rattle.ir_core.specs.declared.instruction.Inst.TheVariants as insts
use Rattle.ir_core.specs.Instructions.{result_of}
use Rattle.ir_types.specs.Firsts.{first_of}
use Rattle.ir_types.specs.Meanings.{result_of as meaning_of_result}
use Rattle.ir_types.specs.Types.{typed_operands}
use Rattle.ir_check.specs.Blocks.{is_terminator}
use Rattle.ir_core.specs.Instructions.{is_phi}
use Rattle.hard_ir.specs.declared.instruction.HInst.{HInst}
use Rattle.hard_ir.specs.declared.instruction.HInst.TheVariants.{Cut, Begin, End, Tick, Chk, ChkMem, Mov, Do}
use Rattle.hard_ir.specs.Image.{Table, unflagged, single_result, copy_of, on_shadow}
use Rattle.hard_ir.specs.Fit.{plain_inst, meaning_in, must_retire}
use Rattle.ir_check.proofs.Members.{IsIn}

-- an item that reads and defines nothing
abbrev pub is_quiet : HInst → Bool
is_quiet Cut = true
is_quiet Begin = true
is_quiet End = true
is_quiet (Tick work) = true
is_quiet item = false

-- an item that defines nothing and does no instruction of the source
abbrev pub is_silent : HInst → Bool
is_silent (Do side inst retires) = false
is_silent (Mov ty reg) = false
is_silent item = true

-- One of an image: it does the instruction, copies its result, checks one of its operands, or checks what it stored.
abbrev pub IsPart : Inst → HInst → Type 0
IsPart inst (Do side other retires) = (other ≡ unflagged inst) × ((retires || not (must_retire inst)) ≡ true)
IsPart inst (Mov ty reg) = single_result inst ≡ Some (ty, reg)
IsPart inst (Chk when ty reg) = IsIn (ty, values.Reg reg) (typed_operands inst)
IsPart inst (ChkMem ty ptr val) = (p : Val) × (v : Val) × (ptr ≡ on_shadow p) × (val ≡ on_shadow v) × (inst ≡ insts.Store ty v p false)
IsPart inst other = Unit {0}

abbrev pub AreParts : Inst → List HInst → Type 0
AreParts inst [] = Unit {0}
AreParts inst (item ∷ items) = IsPart inst item × AreParts inst items

-- the registers that are assigned on a side
abbrev pub assigned_on : Side → HInst → Option Loc
assigned_on M (Do M inst retires) = result_of inst
assigned_on S (Do S inst retires) = result_of inst
assigned_on S (Mov ty reg) = Some reg
assigned_on side item = None

-- the one terminator stands last, where the instruction is one
abbrev pub EndsAs : Bool → Inst → List HInst → Type 0
EndsAs false inst items = list_any (λ item. is_terminator (plain_inst item)) items ≡ false
EndsAs true inst items = (front : List HInst) × (items ≡ front ++ Do M inst true ∷ []) × (list_any (λ item. is_terminator (plain_inst item)) front ≡ false)

pub record IsImage (inst : Inst) (items : List HInst) : Type 0 where
  pub parts : AreParts inst items
  pub assigns : (side : Side) → filter_map (assigned_on side) items ≡ cons_option (result_of inst) []
  pub first : (at : Loc) → first_of (filter_map meaning_in items) at ≡ first_of (cons_option (meaning_of_result inst) []) at
  pub ends : EndsAs (is_terminator inst) inst items

-- Each instruction but a phi has an image, and at the entry parameters are copied.
pub record IsTable (table : Table) : Type 0 where
  pub image : (inst : Inst) → is_phi inst ≡ false → IsImage inst (table.image inst)
  pub phi : (inst : Inst) → is_phi inst ≡ true → table.image inst ≡ []
  pub entry : (params : List (Ty × Loc)) → (rest : List HInst) × (table.entry params ≡ map copy_of params ++ rest) × (list_all is_quiet rest ≡ true)
  pub head : list_all is_quiet table.head ≡ true

-- an instruction without its flags is a phi where it was one
pub phi-unflagged : (inst : Inst) → is_phi (unflagged inst) ≡ is_phi inst
phi-unflagged (insts.Bin dst op flags w a b) = refl
phi-unflagged inst = refl
