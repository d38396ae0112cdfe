-- The points inside the image of an instruction, and what is known at each: of what is left of the source's block and of the hardened one, of
-- the registers of each side, and of memory as the thread sees it.
--
-- Choices: a point holds for named sides, both or one. What is known without a side was checked, or was just made, and the rule of windows
-- says where it can be lost. Outside a transaction and inside it is one relation, with the mode as a parameter. Files agree in the
-- names of the source's function; the names that check edges are of the hardened program alone.
use Rattle.std.proofs.Common.{ℕ, ◌≡◌, ◌⊎◌, Bool, true, false, ◌||◌, ◌<◌, List, [], ◌∷◌, ◌++◌, take, reverse, Option, Some, None, slice_get}
use Rattle.std.specs.Option.{option_map, option_map_or}
use Rattle.std.specs.List.{flat_map}
use Rattle.ir_core.specs.declared.types.Ty.{Ty}
use Rattle.ir_core.specs.declared.types.Ty.TheVariants as types
use Rattle.ir_core.specs.declared.types.Loc.{Loc}
use Rattle.ir_core.specs.declared.types.Width.{Width}
use Rattle.ir_core.specs.declared.types.Width.TheVariants.{W64}
use Rattle.ir_core.specs.declared.values.Val.{Val}
use Rattle.ir_core.specs.declared.values.Side.TheVariants.{M, S}
use Rattle.ir_core.specs.declared.instruction.Inst.{Inst}
use Rattle.ir_core.specs.Module.{ModuleParts}
use Rattle.ir_layout.specs.Memory.{layout_of, is_valid}
use Rattle.mem_image.specs.Accesses.{bytes}
use Rattle.mem_image.specs.Bytes.{Memory, peek}
use Rattle.mem_image.specs.Lines.{line_of}
use Rattle.line_sets.specs.Sets.{has}
use Rattle.rtm_core.specs.Footprint.{written_lines}
use Rattle.inst_meaning.specs.declared.actions.Place.{Place}
use Rattle.inst_meaning.specs.declared.actions.Action.{Action}
use Rattle.inst_meaning.specs.declared.actions.Action.TheVariants.{Assign, Reserve, Read, Write, Update, Pass, Jump, Call, Ask, Create, Join, Exit, Return, Fault}
use Rattle.inst_meaning.specs.Action.{action_of, callees_of, destination, place_at}
use Rattle.inst_meaning.specs.Operands.{memory_width, word_at}
use Rattle.inst_meaning.specs.Registers.{get, put}
use Rattle.process.specs.declared.state.CallStack.{CallStack}
use Rattle.process.specs.declared.state.Thread.{Thread}
use Rattle.process_laws.proofs.Likeness.{Likeness}
use Rattle.process_laws.proofs.Likeness as likeness
use Rattle.src_meaning.specs.declared.state.Frame.{Frame as SourceFrame}
use Rattle.hard_ir.specs.declared.instruction.When.{When}
use Rattle.hard_ir.specs.declared.instruction.When.TheVariants.{Always, Tx}
use Rattle.hard_ir.specs.declared.instruction.HInst.{HInst}
use Rattle.hard_ir.specs.declared.instruction.HInst.TheVariants.{Do, ChkMem, End}
use Rattle.hard_ir.specs.Image.{unflagged, copies, is_done_twice, checked_before, checked_when, check_when, core, checks_after, body_of, on_shadow}
use Rattle.hard_ir.specs.Images.{LooseRows, is_named}
use Rattle.hard_ir.specs.EdgeChecks.{edge_check}
use Rattle.hard_ir.specs.Hardened.{HardParts}
use Rattle.hard_frames.specs.declared.state.Frame.{Frame}
use Rattle.hard_frames.specs.Code.{blocks_at, list_at}
use Rattle.hard_simulation.specs.Image.{copies_onto}
use Rattle.hard_simulation.proofs.Sides.{Sides, Both, On}
use Rattle.hard_simulation.proofs.Files.{AreFresh, is_among}
use Rattle.tx_simulation.proofs.Reading.{AreSameIn}
use Rattle.hard_simulation.proofs.Points.{source_code, hard_code}
use Rattle.hard_meaning.specs.State.{Mode, Free, Inside, is_inside}
use Rattle.hard_meaning.specs.Windows.{is_effect, is_edge_checked}

-- ---- lines of a mode

-- the lines that a thread in a mode wrote, and those that it wrote or read
abbrev pub wrote : Mode → ℕ → Bool
wrote (Free plain) line = false
wrote (Inside tx) line = has (written_lines tx.footprint) line

abbrev pub touched : Mode → ℕ → Bool
touched (Free plain) line = false
touched (Inside tx) line = has tx.footprint.read_set line || has (written_lines tx.footprint) line

abbrev pub IfInside : Mode → Type 0 → Type 0
IfInside (Free plain) P = Unit {0}
IfInside (Inside tx) P = P

abbrev pub IsFree : Mode → Type 0
IsFree (Free plain) = Unit {0}
IsFree (Inside tx) = ⊥

abbrev pub IfTrue : Bool → Type 0 → Type 0
IfTrue true P = P
IfTrue false P = Unit {0}

-- ---- files of registers

-- the names of the source's function, by number
abbrev pub names_at : ModuleParts → ℕ → ℕ → Bool
names_at m function at = option_map_or (λ f. is_named f (record { 0 = at })) (slice_get m.funcs function) false

-- two files have the same words under these names
pub record AgreeIn (names : ℕ → Bool) (a b : List (Option ℕ)) : Type 0 where
  pub same : (at : ℕ) → names at ≡ true → get a at ≡ get b at

-- and but for some registers
pub record AgreeBut (names : ℕ → Bool) (regs : List (Ty × Loc)) (a b : List (Option ℕ)) : Type 0 where
  pub but : (at : ℕ) → names at ≡ true → is_among at regs ≡ false → get a at ≡ get b at

-- ---- what is done on each side

abbrev pub source_action : ModuleParts → List (Option ℕ) → Inst → Action
source_action m registers inst = action_of (layout_of m) (callees_of m) registers inst

-- the word that an operator or a plain load gives
abbrev pub given_by : Memory → Action → Option ℕ
given_by mem (Assign n) = Some n
given_by mem (Reserve size) = None
given_by mem (Read place true) = None
given_by mem (Read place false) = Some (peek mem place.address (bytes place.size))
given_by mem (Write place n atomic) = None
given_by mem (Update place update) = None
given_by mem Pass = None
given_by mem (Jump label) = None
given_by mem (Call n words) = None
given_by mem (Ask request) = None
given_by mem (Create address n argument) = None
given_by mem (Join other) = None
given_by mem (Exit code) = None
given_by mem (Return n) = None
given_by mem (Fault cause) = None

-- a load was valid, and inside a transaction its line is among those that were touched
abbrev pub IsRead : Mode → Memory → Action → Type 0
IsRead mode mem (Assign n) = Unit {0}
IsRead mode mem (Reserve size) = Unit {0}
IsRead mode mem (Read place atomic) = (is_valid mem.places place.address (bytes place.size) ≡ true) × IfInside mode (touched mode (line_of place.address) ≡ true)
IsRead mode mem (Write place n atomic) = Unit {0}
IsRead mode mem (Update place update) = Unit {0}
IsRead mode mem Pass = Unit {0}
IsRead mode mem (Jump label) = Unit {0}
IsRead mode mem (Call n words) = Unit {0}
IsRead mode mem (Ask request) = Unit {0}
IsRead mode mem (Create address n argument) = Unit {0}
IsRead mode mem (Join other) = Unit {0}
IsRead mode mem (Exit code) = Unit {0}
IsRead mode mem (Return n) = Unit {0}
IsRead mode mem (Fault cause) = Unit {0}

-- ---- stores

-- a word that the transaction stored stands at its place
pub record IsStored (mode : Mode) (mem : Memory) (place : Place) (n : ℕ) : Type 0 where
  pub stands : peek mem place.address (bytes place.size) ≡ n
  pub line : touched mode (line_of place.address) ≡ true
  pub valid : is_valid mem.places place.address (bytes place.size) ≡ true

-- ---- code

-- checks of these operands before other code; and those that were passed, the last first
abbrev pub checks_onto : When → List (Ty × Val) → List HInst → List HInst
checks_onto when operands code = flat_map (check_when when) operands ++ code

abbrev pub checks_passed : When → List (Ty × Val) → List HInst → List HInst
checks_passed when [] before = before
checks_passed when (operand ∷ done) before = checks_passed when done (reverse (check_when when operand) ++ before)

abbrev pub core_onto : Inst → List HInst → List HInst
core_onto inst code = core inst ++ (checks_after inst ++ code)

-- ---- points

pub data Stands (m : ModuleParts) (names : ℕ → Bool) (edged : Bool) (sides : Sides) (mode : Mode) (mem : Memory) (left : List Inst)
    (registers : List (Option ℕ)) (past code : List HInst) (masters shadows : List (Option ℕ)) : Type 0 where
  -- nothing is left in the source, whose next step is undefined
  Nowhere : left ≡ [] → Stands m names edged sides mode mem left registers past code masters shadows
  -- before an image, with its marks and ticks
  At : LooseRows m left code → On sides M (AgreeIn names masters registers) → On sides S (AgreeIn names shadows registers)
      → Stands m names edged sides mode mem left registers past code masters shadows
  -- before the checks that are left of an instruction; where it is an effect, those that were made have shown the masters right
  Checking : (inst : Inst) (behind : List Inst) (done operands : List (Ty × Val)) (rest before : List HInst) → left ≡ inst ∷ behind
      → code ≡ checks_onto (checked_when inst) operands (body_of m inst ++ rest)
      → past ≡ checks_passed (checked_when inst) done before
      → checked_before inst ≡ done ++ operands → LooseRows m behind rest
      → IfTrue (is_effect (is_inside mode) edged inst) (AreSameIn masters registers done)
      → On sides M (AgreeIn names masters registers) → On sides S (AgreeIn names shadows registers)
      → Stands m names edged sides mode mem left registers past code masters shadows
  -- outside, between the end of a transaction and the call of an external
  Outside : (inst : Inst) (behind : List Inst) (rest before : List HInst) → left ≡ inst ∷ behind
      → code ≡ core_onto inst rest → past ≡ End ∷ checks_passed Always (checked_before inst) before → IsFree mode → is_done_twice inst ≡ false
      → is_effect false edged inst ≡ true → checked_when inst ≡ Always
      → LooseRows m behind rest → AreSameIn masters registers (checked_before inst)
      → On sides M (AgreeIn names masters registers) → On sides S (AgreeIn names shadows registers)
      → Stands m names edged sides mode mem left registers past code masters shadows
  -- between master and shadow of an operator or a plain load
  Doubling : (inst : Inst) (behind : List Inst) (rest : List HInst) (dst : Loc) (word : ℕ) → left ≡ inst ∷ behind
      → code ≡ Do S (unflagged inst) true ∷ rest → LooseRows m behind rest → is_done_twice inst ≡ true → destination inst ≡ Some dst
      → given_by mem (source_action m registers inst) ≡ Some word
      → On sides M (IsRead mode mem (source_action m registers inst))
      → On sides M (AgreeIn names masters (put registers dst.0 word)) → On sides S (AgreeIn names shadows registers)
      → Stands m names edged sides mode mem left registers past code masters shadows
  -- after a plain store: its late checks
  Late : (ty : Ty) (ptr val : Val) (w : Width) (pointers : List (Ty × Val)) (address n : ℕ) (rest : List HInst)
      → code ≡ checks_onto Tx pointers (ChkMem ty (on_shadow ptr) (on_shadow val) ∷ rest) → LooseRows m left rest
      → (pointers ≡ []) ⊎ (pointers ≡ (types.Ptr, ptr) ∷ [])
      → memory_width ty ≡ Some w → word_at (layout_of m) registers W64 ptr ≡ Some address → word_at (layout_of m) registers w val ≡ Some n
      → IfInside mode (IsStored mode mem (place_at address w) n)
      → On sides M (AgreeIn names masters registers) → On sides S (AgreeIn names shadows registers)
      → Stands m names edged sides mode mem left registers past code masters shadows
  -- before copies of parameters or of a result
  Copying : (regs : List (Ty × Loc)) (rest : List HInst) → code ≡ copies_onto regs rest → LooseRows m left rest → AreFresh regs masters registers
      → On sides M (AgreeIn names masters registers) → On sides S (AgreeBut names regs shadows registers)
      → Stands m names edged sides mode mem left registers past code masters shadows
  -- at the head of a block that checks its edges
  AtEdge : (name : Loc) (direction : ℕ) (rest : List HInst) → code ≡ edge_check name ∷ rest → LooseRows m left rest → direction < 2
      → On sides M (get masters name.0 ≡ Some direction) → On sides S (get shadows name.0 ≡ Some direction)
      → On sides M (AgreeIn names masters registers) → On sides S (AgreeIn names shadows registers)
      → Stands m names edged sides mode mem left registers past code masters shadows

-- ---- frames and threads

-- what a frame passed of its block, the last first
abbrev pub past_code : HardParts → Frame → List HInst
past_code h frame = reverse (take frame.index (list_at (blocks_at h frame.function) frame.block))

-- the branch of its block is checked by the blocks to which it leads
abbrev pub is_edged : HardParts → Frame → Bool
is_edged h frame = option_map_or (is_edge_checked (blocks_at h frame.function)) (slice_get (blocks_at h frame.function) frame.block) false

-- the frame that runs
pub record IsFrame (m : ModuleParts) (h : HardParts) (sides : Sides) (mode : Mode) (mem : Memory) (a : SourceFrame) (b : Frame) : Type 0 where
  pub function : b.function ≡ a.function
  pub block : b.block ≡ a.block
  pub mark : b.mark ≡ a.mark
  pub point : Stands m (names_at m a.function) (is_edged h b) sides mode mem (source_code m a) a.registers (past_code h b) (hard_code h b) b.masters b.shadows

-- a frame that waits for the result of a call, where there is one
pub record IsCaller (m : ModuleParts) (h : HardParts) (sides : Sides) (a : SourceFrame) (b : Frame) : Type 0 where
  pub function : b.function ≡ a.function
  pub block : b.block ≡ a.block
  pub mark : b.mark ≡ a.mark
  pub result : Option (Ty × Loc)
  pub waits : a.waiting ≡ option_map (λ (reg : Ty × Loc). reg.1) result
  pub takes : b.waiting ≡ option_map (λ (reg : Ty × Loc). (M, reg.1)) result
  pub rest : List HInst
  pub code : hard_code h b ≡ copies result ++ rest
  pub image : LooseRows m (source_code m a) rest
  pub masters : On sides M (AgreeIn (names_at m a.function) b.masters a.registers)
  pub shadows : On sides S (AgreeIn (names_at m a.function) b.shadows a.registers)

-- what is known of a thread: its sides, in its mode, over memory as it sees it; or that it was just made, and stands in any mode over any memory
pub data Known : Type 0 where
  Now : Sides → Mode → Memory → Known
  Fresh : Known

abbrev pub AreFrames : ModuleParts → HardParts → Known → SourceFrame → Frame → Type 0
AreFrames m h (Now sides mode mem) a b = IsFrame m h sides mode mem a b
AreFrames m h Fresh a b = (mode : Mode) (mem : Memory) → IsFrame m h Both mode mem a b

abbrev pub AreWaiting : ModuleParts → HardParts → Known → SourceFrame → Frame → Type 0
AreWaiting m h (Now sides mode mem) a b = IsCaller m h sides a b
AreWaiting m h Fresh a b = IsCaller m h Both a b

abbrev pub IsFresh : Known → Type 0
IsFresh (Now sides mode mem) = ⊥
IsFresh Fresh = Unit {0}

-- frames that stand for each other, as far as that tells
abbrev pub alike : ModuleParts → HardParts → Likeness SourceFrame Frame Known
alike m h = record { runs = AreFrames m h; waits = AreWaiting m h; good = IsFresh }

abbrev pub IsStack : ModuleParts → HardParts → Sides → Mode → Memory → CallStack SourceFrame → CallStack Frame → Type 0
IsStack m h sides mode mem a b = likeness.IsStack (alike m h) (Now sides mode mem) a b

abbrev pub IsThreadOn : ModuleParts → HardParts → Sides → Mode → Memory → Thread SourceFrame → Thread Frame → Type 0
IsThreadOn m h sides mode mem a b = likeness.IsThreadOn (alike m h) (Now sides mode mem) a b
