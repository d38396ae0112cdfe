-- A branch that is checked by the blocks to which it leads, as the hardened program takes it: it lands where the source lands; or, where its condition
-- was struck on the master's side, it has no word or goes wrong, and then the next check fails.
use Rattle.std.proofs.Common.{ℕ, ◌≡◌, ◌≢◌, ◌⊎◌, inl, inr, ◌∙◌, ◌%◌, Bool, true, false, List, [], ◌∷◌, Option, Some, None, slice_get, refl, ap, sym, subst}
use Rattle.std.specs.Prelude.{nat_eq, ◌==◌, if◌then◌else◌}
use Rattle.std.specs.Option.{option_map, option_map_or}
use Rattle.std.proofs.lemmas.Bool.{eqb-true, eqb-false}
use Rattle.ir_core.specs.declared.types.Loc.{Loc}
use Rattle.ir_core.specs.declared.values.Val.TheVariants as values
use Rattle.ir_core.specs.declared.values.Side.TheVariants.{M, S}
use Rattle.ir_core.specs.declared.instruction.Inst.{Inst}
use Rattle.ir_core.specs.declared.instruction.Inst.TheVariants as insts
use Rattle.ir_core.specs.declared.instruction.Block.{Block}
use Rattle.ir_core.specs.Module.{ModuleParts, FuncParts}
use Rattle.ir_check.specs.Faults.{IsAccepted}
use Rattle.mem_image.specs.Bytes.{Memory}
use Rattle.inst_meaning.specs.declared.actions.Action.{Action}
use Rattle.inst_meaning.specs.declared.actions.Action.TheVariants.{Jump, Fault}
use Rattle.inst_meaning.specs.declared.actions.Cause.TheVariants.{Unreachable}
use Rattle.inst_meaning.specs.Action.{on_word}
use Rattle.inst_meaning.specs.Registers.{get}
use Rattle.process.specs.declared.state.CallStack.{CallStack}
use Rattle.src_meaning.specs.declared.state.Frame.{Frame as SourceFrame}
use Rattle.src_meaning.specs.State as source_state
use Rattle.src_meaning.specs.Step as source
use Rattle.src_laws.proofs.Suits.{JumpsTo}
use Rattle.hard_simulation.proofs.Entries.{get-drop}
use Rattle.inst_meaning.specs.Operands.{word_at}
use Rattle.ir_layout.specs.Memory.{layout_of}
use Rattle.ir_core.specs.declared.types.Width.TheVariants.{W1}
use Rattle.src_laws.proofs.Placed.{IsPlaced, in-block}
use Rattle.hard_ir.specs.declared.instruction.HInst.{HInst}
use Rattle.hard_ir.specs.declared.instruction.HInst.TheVariants.{Do}
use Rattle.hard_ir.specs.Hardened.{HardParts}
use Rattle.hard_ir.specs.Images.{IsLooseImage, LooseRows}
use Rattle.hard_frames.specs.declared.state.Frame.{Frame}
use Rattle.hard_frames.specs.Frames as hard_frame
use Rattle.hard_simulation.proofs.Points.{source_code, hard_code}
use Rattle.hard_simulation.proofs.Sides.{Sides, Both, Alone, On, IsHurt}
use Rattle.hard_meaning.specs.State.{Mode}
use Rattle.tx_simulation.proofs.Points.{names_at, AgreeIn, source_action, is_edged}
use Rattle.tx_simulation.proofs.Landing.{IsLanding, lands}
use Rattle.tx_simulation.proofs.Named.{names-are, register-named, read-in}
use Rattle.tx_simulation.proofs.Straying.{IsStraying, strays, one-way, is-label}

-- how the hardened program takes the branch
pub data IsBranching (m : ModuleParts) (h : HardParts) (sides : Sides) (mode : Mode) (mem : Memory) (frame : SourceFrame) (label : Loc) (stack : CallStack Frame) (inst : Inst) : Type 0 where
  Right : hard_frame.action_on h M stack.frame inst ≡ Jump label → IsLanding m h sides mode mem frame (hard_frame.jumped h stack.frame label)
      → IsBranching m h sides mode mem frame label stack inst
  Wrong : (other : Loc) → hard_frame.action_on h M stack.frame inst ≡ Jump other → IsHurt sides → IsStraying h stack (hard_frame.jumped h stack.frame other)
      → IsBranching m h sides mode mem frame label stack inst
  Wordless : hard_frame.action_on h M stack.frame inst ≡ Fault Unreachable → IsHurt sides → IsBranching m h sides mode mem frame label stack inst

pub label-decided : (a b : Loc) → (a ≡ b) ⊎ (a ≢ b)
label-decided a b = by_test (nat_eq a.0 b.0) refl
  where
    by_test : (c : Bool) → nat_eq a.0 b.0 ≡ c → (a ≡ b) ⊎ (a ≢ b)
    by_test true e = inl (ap (λ (n : ℕ). let label : Loc = record { 0 = n } in label) (eqb-true a.0 b.0 e))
    by_test false e = inr (λ same. eqb-false a.0 b.0 e (ap (λ (label : Loc). label.0) same))

module _ (m : ModuleParts) (h : HardParts) (image : IsLooseImage m h) (accepted : IsAccepted m) (sides : Sides) (mode : Mode) (mem : Memory) (a : SourceFrame) (stack : CallStack Frame)
    (function : stack.frame.function ≡ a.function) (block : stack.frame.block ≡ a.block) (mark : stack.frame.mark ≡ a.mark)
    (masters : On sides M (AgreeIn (names_at m a.function) stack.frame.masters a.registers)) (shadows : On sides S (AgreeIn (names_at m a.function) stack.frame.shadows a.registers))
    (cond first second : Loc) (behind : List Inst) (rest : List HInst) (left : source_code m a ≡ insts.CondBr (values.Reg cond) first second ∷ behind)
    (code : hard_code h stack.frame ≡ Do M (insts.CondBr (values.Reg cond) first second) true ∷ rest) (rows : LooseRows m behind rest)
    (edged : is_edged h stack.frame ≡ true) (placed : IsPlaced m a.function a.block a.index a.registers)
    (label : Loc) (goes : source_action m a.registers (insts.CondBr (values.Reg cond) first second) ≡ Jump label) (frame : SourceFrame) (went : source.jumped m a label ≡ Some frame) where
  abbrev branch : Inst
  branch = insts.CondBr (values.Reg cond) first second

  found-here : source_state.inst_at m a ≡ Some branch
  found-here = get-drop _ a.index branch behind left

  -- the condition is a name of the function
  named : names_at m a.function cond.0 ≡ true
  named =
      let blocks : source_state.blocks_at m.funcs a.function ≡ placed.f.blocks = ap (λ (o : Option FuncParts). option_map_or (λ (f : FuncParts). f.blocks) o []) placed.stands in
      let here = in-block placed.f.blocks a.block a.index branch (ap (λ (blocks : List Block). slice_get (source_state.code_at blocks a.block) a.index) (sym blocks) ∙ found-here) in
      names-are m a.function placed.f cond placed.stands ∙ register-named placed.f a.block a.index here.block branch cond here.there here.at (read-in branch cond (0, refl))

  to_label : JumpsTo branch label
  to_label = (refl, refl, is-label first second label (one-way first second label (word_at (layout_of m) a.registers W1 (values.Reg cond)) goes))

  right : hard_frame.action_on h M stack.frame branch ≡ Jump label → IsBranching m h sides mode mem frame label stack branch
  right e = Right e (lands m h image accepted sides mode mem a stack.frame function block mark masters shadows branch label placed found-here to_label goes frame went)

  -- the masters' condition is the source's
  known : get stack.frame.masters cond.0 ≡ get a.registers cond.0 → IsBranching m h sides mode mem frame label stack branch
  known same = right (ap (λ (o : Option ℕ). on_word (option_map (λ (word : ℕ). word % 2) o) (λ c. Jump (if c == 1 then first else second))) same ∙ goes)

  -- or it is some word, or none, and the shadows' is
  unknown : IsHurt sides → get stack.frame.shadows cond.0 ≡ get a.registers cond.0 → IsBranching m h sides mode mem frame label stack branch
  unknown hurt same = by_word (get stack.frame.masters cond.0) refl
    where
      way : Option ℕ → Action
      way o = on_word (option_map (λ (word : ℕ). word % 2) o) (λ c. Jump (if c == 1 then first else second))

      by_label : (other : Loc) → hard_frame.action_on h M stack.frame branch ≡ Jump other → (other ≡ label) ⊎ (other ≢ label) → IsBranching m h sides mode mem frame label stack branch
      by_label other e (inl same_label) = right (e ∙ ap (λ (to : Loc). Jump to) same_label)
      by_label other e (inr differ) = Wrong other e hurt
          (strays m h image accepted a stack function block cond first second behind rest left code rows edged placed same label other goes e differ)

      by_word : (o : Option ℕ) → get stack.frame.masters cond.0 ≡ o → IsBranching m h sides mode mem frame label stack branch
      by_word None e = Wordless (ap way e) hurt
      by_word (Some n) e =
          let other : Loc = if n % 2 == 1 then first else second in
          by_label other (ap way e) (label-decided other label)

  pub branches : IsBranching m h sides mode mem frame label stack branch
  branches = by_sides sides refl
    where
      by_sides : (given : Sides) → sides ≡ given → IsBranching m h sides mode mem frame label stack branch
      by_sides Both e = known ((subst (λ (k : Sides). On k M (AgreeIn (names_at m a.function) stack.frame.masters a.registers)) e masters).same cond.0 named)
      by_sides (Alone M) e = known ((subst (λ (k : Sides). On k M (AgreeIn (names_at m a.function) stack.frame.masters a.registers)) e masters).same cond.0 named)
      by_sides (Alone S) e = unknown (subst IsHurt (sym e) tt) ((subst (λ (k : Sides). On k S (AgreeIn (names_at m a.function) stack.frame.shadows a.registers)) e shadows).same cond.0 named)
