-- The points inside images: what is left of a source block and of the hardened one, and what the registers of both have in common there.
--
-- One constructor for each point, with equations as fields. Nothing speaks of an instruction's kind: an instruction is done on each side,
-- or once. What was checked since a point began is known whichever side is hurt.
use Rattle.std.proofs.Common.{ℕ, ◌≡◌, true, List, [], ◌∷◌, ◌++◌, drop, Option, Some}
use Rattle.std.specs.Option.{option_map}
use Rattle.ir_core.specs.declared.types.Ty.{Ty}
use Rattle.ir_core.specs.declared.types.Loc.{Loc}
use Rattle.ir_core.specs.declared.values.Val.{Val}
use Rattle.ir_core.specs.declared.values.Side.TheVariants.{M, S}
use Rattle.ir_core.specs.declared.instruction.Inst.{Inst}
use Rattle.ir_core.specs.Module.{ModuleParts}
use Rattle.ir_layout.specs.Memory.{layout_of}
use Rattle.inst_meaning.specs.Registers.{put}
use Rattle.inst_meaning.specs.declared.actions.Action.TheVariants.{Assign}
use Rattle.inst_meaning.specs.Action.{action_of, callees_of, destination}
use Rattle.inst_laws.specs.Agreement.{Agree}
use Rattle.src_meaning.specs.declared.state.Frame.{Frame as SourceFrame}
use Rattle.src_meaning.specs.State.{blocks_at as source_blocks, code_at}
use Rattle.hard_ir.specs.declared.instruction.HInst.{HInst}
use Rattle.hard_ir.specs.declared.instruction.HInst.TheVariants.{Do, Begin}
use Rattle.hard_ir.specs.Image.{is_doubled, unflagged, checked, flow, copies}
use Rattle.hard_ir.specs.Hardened.{HardParts}
use Rattle.hard_frames.specs.declared.state.Frame.{Frame}
use Rattle.process.specs.declared.state.CallStack.{CallStack}
use Rattle.process.specs.declared.state.Thread.{Thread}
use Rattle.process_laws.proofs.Likeness as likeness
use Rattle.process_laws.proofs.Likeness.{Likeness}
use Rattle.hard_frames.specs.Code.{blocks_at, list_at}
use Rattle.hard_simulation.specs.Image.{Image, ticks_onto, checks_onto, copies_onto}
use Rattle.hard_simulation.proofs.Sides.{Sides, On, IsHurt}
use Rattle.hard_simulation.proofs.Files.{AgreeBut, AreFresh}
use Rattle.hard_simulation.proofs.Instructions.{AreSame}

-- what is left of a frame's block
abbrev pub source_code : ModuleParts → SourceFrame → List Inst
source_code m frame = drop frame.index (code_at (source_blocks m.funcs frame.function) frame.block)

abbrev pub hard_code : HardParts → Frame → List HInst
hard_code h frame = drop frame.index (list_at (blocks_at h frame.function) frame.block)

-- where a frame stands that has this left, and these registers
pub data Stands (m : ModuleParts) (sides : Sides) (left : List Inst) (registers : List (Option ℕ)) (code : List HInst)
    (masters shadows : List (Option ℕ)) : Type 0 where
  -- nothing is left in the source, whose next step is undefined
  Nowhere : left ≡ [] → Stands m sides left registers code masters shadows
  -- before an image
  At : Image left code → On sides M (Agree masters registers) → On sides S (Agree shadows registers)
      → Stands m sides left registers code masters shadows
  -- between `cut` and `begin`
  Marked : (rest : List HInst) → code ≡ Begin ∷ rest → Image left rest → On sides M (Agree masters registers) → On sides S (Agree shadows registers)
      → Stands m sides left registers code masters shadows
  -- before the checks that are left of an instruction
  Checking : (inst : Inst) (behind : List Inst) (ticks : List ℕ) (done operands : List (Ty × Val)) (rest : List HInst) → left ≡ inst ∷ behind
      → code ≡ ticks_onto ticks (checks_onto operands (flow inst ++ rest)) → checked inst ≡ done ++ operands → Image behind rest
      → AreSame masters registers done
      → On sides M (Agree masters registers) → On sides S (Agree shadows registers) → Stands m sides left registers code masters shadows
  -- between master and shadow
  Doubling : (inst : Inst) (behind : List Inst) (rest : List HInst) (dst : Loc) (word : ℕ) → left ≡ inst ∷ behind
      → code ≡ Do S (unflagged inst) true ∷ rest
      → Image behind rest → is_doubled inst ≡ true → destination inst ≡ Some dst → action_of (layout_of m) (callees_of m) registers inst ≡ Assign word
      → On sides M (Agree masters (put registers dst.0 word)) → On sides S (Agree shadows registers)
      → Stands m sides left registers code masters shadows
  -- before copies
  Copying : (regs : List (Ty × Loc)) (rest : List HInst) → code ≡ copies_onto regs rest → Image left rest → AreFresh regs masters registers
      → On sides M (Agree masters registers) → On sides S (AgreeBut regs shadows registers) → Stands m sides left registers code masters shadows

-- the frame that runs
pub record IsFrame (m : ModuleParts) (h : HardParts) (sides : Sides) (a : SourceFrame) (b : Frame) : Type 0 where
  pub function : b.function ≡ a.function
  pub block : b.block ≡ a.block
  pub mark : b.mark ≡ a.mark
  pub point : Stands m sides (source_code m a) a.registers (hard_code h b) b.masters b.shadows

-- a frame that waits for the result of a call, where there is one
pub record IsCaller (m : ModuleParts) (h : HardParts) (sides : Sides) (a : SourceFrame) (b : Frame) : Type 0 where
  pub function : b.function ≡ a.function
  pub block : b.block ≡ a.block
  pub mark : b.mark ≡ a.mark
  pub result : Option (Ty × Loc)
  pub waits : a.waiting ≡ option_map (λ (reg : Ty × Loc). reg.1) result
  pub takes : b.waiting ≡ option_map (λ (reg : Ty × Loc). (M, reg.1)) result
  pub rest : List HInst
  pub code : hard_code h b ≡ copies result ++ rest
  pub image : Image (source_code m a) rest
  pub masters : On sides M (Agree b.masters a.registers)
  pub shadows : On sides S (Agree b.shadows a.registers)

-- a hardened frame stands for a source frame, as far as these sides tell; as long as no upset strikes, both are known
abbrev pub alike : ModuleParts → HardParts → Likeness SourceFrame Frame Sides
alike m h = record {
  runs = λ sides a b. IsFrame m h sides a b;
  waits = λ sides a b. IsCaller m h sides a b;
  good = λ sides. IsHurt sides → ⊥;
}

abbrev pub IsStack : ModuleParts → HardParts → Sides → CallStack SourceFrame → CallStack Frame → Type 0
IsStack m h sides a b = likeness.IsStack (alike m h) sides a b

abbrev pub IsThreadOn : ModuleParts → HardParts → Sides → Thread SourceFrame → Thread Frame → Type 0
IsThreadOn m h sides a b = likeness.IsThreadOn (alike m h) sides a b

abbrev pub IsThread : ModuleParts → HardParts → Thread SourceFrame → Thread Frame → Type 0
IsThread m h a b = likeness.IsThread (alike m h) a b

abbrev pub AreThreadsAt : ModuleParts → HardParts → Option (Thread SourceFrame) → Option (Thread Frame) → Type 0
AreThreadsAt m h a b = likeness.AreThreadsAt (alike m h) a b

abbrev pub AreThreads : ModuleParts → HardParts → List (Thread SourceFrame) → List (Thread Frame) → Type 0
AreThreads m h xs ys = likeness.AreThreads (alike m h) xs ys
