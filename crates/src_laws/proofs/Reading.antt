-- What a sound thread reads next has words.
use Rattle.std.proofs.Common.{ℕ, suc, ◌≡◌, ◌∙◌, Bool, true, List, [], length, slice_get, Option, Some, None, refl, ap, sym, subst}
use Rattle.std.specs.Prelude.{find, nat_eq}
use Rattle.std.specs.Option.{is_some, option_map, option_map_or}
use Rattle.std.proofs.lemmas.Bool.{eqb-true}
use Rattle.ir_core.specs.declared.types.Ty.{Ty}
use Rattle.ir_core.specs.declared.types.Loc.{Loc}
use Rattle.ir_core.specs.declared.values.Val.{Val}
use Rattle.ir_core.specs.declared.instruction.Inst.{Inst}
use Rattle.ir_core.specs.declared.instruction.Inst.TheVariants as insts
use Rattle.ir_core.specs.declared.instruction.Block.{Block}
use Rattle.ir_core.specs.Module.{ModuleParts}
use Rattle.ir_flow.specs.Edges.{labels_of, number_of, edges_of}
use Rattle.ir_flow.specs.Paths.{IsEdge, body_of}
use Rattle.ir_core.specs.Instructions.{result_of}
use Rattle.ir_flow.specs.Uses.{reg_in, regs_in, arms_in, AllAssigned}
use Rattle.ir_check.specs.Blocks.{is_terminator}
use Rattle.ir_check.specs.Faults.{IsAccepted}
use Rattle.inst_meaning.specs.Phis.{phis_of, phi_count, arm_from}
use Rattle.src_meaning.specs.declared.state.Frame.{Frame}
use Rattle.process.specs.declared.state.CallStack.{CallStack}
use Rattle.process.specs.declared.state.Thread.TheVariants.{Running}
use Rattle.src_meaning.specs.State.{blocks_at, inst_at}
use Rattle.src_meaning.specs.Runs.{source}
use Rattle.src_laws.specs.Assigned.{HaveBlocks, HasWord, AllHaveWords, regs_from, regs_of_phis, regs_at_edge, ReadsWords}
use Rattle.ir_check.proofs.Members.{IsIn, found-in, of-flat, of-take}
use Rattle.src_laws.proofs.Ends.{terminator-last}
use Rattle.src_laws.proofs.ReadUses.{operand-assigned, arm-assigned}
use Rattle.src_laws.proofs.Labels.{label-of, number-same, is-edge, phi-fits}
use Rattle.src_laws.proofs.Accepted.{block-ends}
use Rattle.src_laws.proofs.Placed.{InBlock, in-block, body-is, known-at-end}
use Rattle.src_laws.proofs.Moves.{IsGood, blocks-are, at-place, source-sound}

-- ---- the arm of a phi

jumps : (inst : Inst) (label : Loc) → IsIn label (labels_of inst) → (is_terminator inst ≡ true) × (result_of inst ≡ None)
jumps (insts.Br to) label h = (refl, refl)
jumps (insts.CondBr condition on_true on_false) label h = (refl, refl)
jumps (insts.Switch ty on default cases) label h = (refl, refl)
jumps other label (k, at) = absurd cc

record IsArm (label : Loc) (arms : List (Val × Loc)) (reg : Loc) : Type 0 where
  arm : Val × Loc
  among : IsIn arm arms
  named : arm.1.0 ≡ label.0
  reads : IsIn reg (reg_in arm.0)

arm-read : (label : Loc) (arms : List (Val × Loc)) (reg : Loc) → IsIn reg (option_map_or reg_in (arm_from label arms) []) → IsArm label arms reg
arm-read label arms reg h = by_arm (find test arms) refl h
  where
    test : Val × Loc → Bool
    test = λ (arm : Val × Loc). nat_eq arm.1.0 label.0

    by_arm : (o : Option (Val × Loc)) → find test arms ≡ o → IsIn reg (option_map_or reg_in (option_map (λ (arm : Val × Loc). arm.0) o) [])
        → IsArm label arms reg
    by_arm None e (k, at) = absurd cc
    by_arm (Some arm) e there =
        let found = found-in test arm arms e in record { arm = arm; among = found.0; named = eqb-true arm.1.0 label.0 found.1; reads = there }

-- only phis have arms
record IsPhi (phi : Inst) (arms : List (Val × Loc)) : Type 0 where
  dst : Loc
  ty : Ty
  is : phi ≡ insts.Phi dst ty arms

is-phi : (phi : Inst) (arm : Val × Loc) → IsIn arm (arms_in phi) → IsPhi phi (arms_in phi)
is-phi (insts.Phi dst ty arms) arm h = record { dst = dst; ty = ty; is = refl }
is-phi other arm (k, at) = absurd cc

-- ---- what is read

module _ (m : ModuleParts) (frame : Frame) (inst : Inst) (accepted : IsAccepted m) (good : IsGood m frame) (stands : inst_at m frame ≡ Some inst) where
  at : slice_get (body_of good.f.blocks frame.block) frame.index ≡ Some inst
  at = sym (at-place m frame good) ∙ stands

  here : InBlock good.f.blocks frame.block frame.index inst
  here = in-block good.f.blocks frame.block frame.index inst at

  every : AllAssigned good.f
  every = accepted.uses frame.function good.f good.stands

  operands-have : AllHaveWords frame.registers (regs_in inst)
  operands-have k reg e =
      good.words reg (operand-assigned good.f frame.block frame.index here.block inst reg every here.there here.at (k, e) good.path good.leads)

  -- a phi of a block to which the instruction may jump reads at the end of this one
  phi-has : (label : Loc) (n : ℕ) (target : Block) (i : ℕ) (phi : Inst) (reg : Loc) → IsIn label (labels_of inst)
      → number_of good.f.blocks label ≡ Some n → slice_get good.f.blocks n ≡ Some target → slice_get target.insts i ≡ Some phi
      → IsArm here.block.label (arms_in phi) reg → HasWord frame.registers reg
  phi-has label n target i phi reg one number there phi_at arm =
      let jump = jumps inst label one in
      let last : length here.block.insts ≡ suc frame.index = terminator-last here.block.insts frame.index inst (block-ends m frame.function frame.block good.f here.block accepted good.stands here.there) here.at jump.0 in
      let edge : ℕ × ℕ = (frame.block, n) in
      let is_edge : IsEdge (edges_of good.f).pairs edge = is-edge good.f frame.block n frame.index here.block inst label here.there here.at last one number in
      let shape = is-phi phi arm.arm arm.among in
      let fits = phi-fits good.f n i target shape.dst shape.ty (arms_in phi) (accepted.phis frame.function good.f good.stands) there (phi_at ∙ ap (λ (x : Inst). Some x) shape.is) in
      let mine = fits.complete frame.block is_edge in
      let label_is : here.block.label.0 ≡ mine.arm.1.0 = label-of good.f.blocks mine.arm.1 frame.block here.block mine.of_block here.there in
      let from : number_of good.f.blocks arm.arm.1 ≡ Some frame.block = number-same good.f.blocks arm.arm.1 mine.arm.1 (arm.named ∙ label_is) ∙ mine.of_block in
      let assigned = arm-assigned good.f n i frame.block target phi arm.arm reg every there phi_at arm.among from arm.reads good.path good.leads in
      good.words reg (known-at-end good.f good.path frame.block frame.index inst reg at (ap length (body-is good.f.blocks frame.block here.block here.there) ∙ last) jump.1 assigned)

  phis-have : (label : Loc) (n : ℕ) → IsIn label (labels_of inst) → number_of good.f.blocks label ≡ Some n
      → AllHaveWords frame.registers (regs_of_phis here.block.label (body_of good.f.blocks n))
  phis-have label n one number k reg e =
      let phi = of-flat (regs_from here.block.label) reg (phis_of (body_of good.f.blocks n)) (k, e) in
      let place = of-take phi.0 (phi_count (body_of good.f.blocks n)) (body_of good.f.blocks n) phi.1 in
      let target = in-block good.f.blocks n place.0 phi.0 place.1 in
      phi-has label n target.block place.0 phi.0 reg one number target.there target.at (arm-read here.block.label (arms_in phi.0) reg phi.2)

  edge-has : (label : Loc) → IsIn label (labels_of inst) → AllHaveWords frame.registers (regs_at_edge good.f.blocks here.block.label label)
  edge-has label one = by_number (number_of good.f.blocks label) refl
    where
      by_number : (o : Option ℕ) → number_of good.f.blocks label ≡ o
          → AllHaveWords frame.registers (option_map_or (λ (n : ℕ). regs_of_phis here.block.label (body_of good.f.blocks n)) o [])
      by_number None e = λ k reg at. absurd cc
      by_number (Some n) e = phis-have label n one e

  pub reads-words : ReadsWords m frame inst
  reads-words = record {
    operands = operands-have;
    phis = λ from k label there one. edge from label there (k, one);
  }
    where
      edge : (from : Block) (label : Loc) → slice_get (blocks_at m.funcs frame.function) frame.block ≡ Some from → IsIn label (labels_of inst)
          → AllHaveWords frame.registers (regs_at_edge (blocks_at m.funcs frame.function) from.label label)
      edge from label there one =
          let blocks = blocks-are m frame good in
          let both : Some here.block ≡ Some from = sym here.there ∙ ap (λ (bs : List Block). slice_get bs frame.block) (sym blocks) ∙ there in
          let same : here.block ≡ from = cc in
          subst (λ (bs : List Block). AllHaveWords frame.registers (regs_at_edge bs from.label label)) (sym blocks) (subst (λ (b : Block). AllHaveWords frame.registers (regs_at_edge good.f.blocks b.label label)) same (edge-has label one))

-- ---- in runs

pub stands-next : (m : ModuleParts) (arguments turns : List ℕ) (t : ℕ) (stack : CallStack Frame) → IsAccepted m → HaveBlocks m.funcs
    → slice_get (source m arguments turns).state.process.threads t ≡ Some (Running stack) → is_some (inst_at m stack.frame) ≡ true
stands-next m arguments turns t stack accepted blocks e =
    let good : IsGood m stack.frame = (source-sound m arguments turns accepted t (Running stack) e).0 in
    ap is_some (at-place m stack.frame good) ∙ good.here (blocks stack.frame.function good.f good.stands)

pub reads-next : (m : ModuleParts) (arguments turns : List ℕ) (t : ℕ) (stack : CallStack Frame) (inst : Inst) → IsAccepted m
    → slice_get (source m arguments turns).state.process.threads t ≡ Some (Running stack) → inst_at m stack.frame ≡ Some inst → ReadsWords m stack.frame inst
reads-next m arguments turns t stack inst accepted e stands =
    reads-words m stack.frame inst accepted (source-sound m arguments turns accepted t (Running stack) e).0 stands
