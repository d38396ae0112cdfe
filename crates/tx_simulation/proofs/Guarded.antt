-- The turn of a branch that is checked by the blocks to which it leads: right, wrong, or without a word.
-- ---- a wrong way
-- the thread goes where its target's check will fail
use Rattle.std.proofs.Common.{if◌then◌else◌, ◌==◌, ◌%◌, None, Option, Some, ap, inr, refl, subst, sym, true, ℕ, ◌≡◌}
use Rattle.std.specs.Option.{option_map}
use Rattle.ir_core.specs.declared.instruction.Inst.TheVariants as insts
use Rattle.ir_core.specs.declared.instruction.Inst.{Inst}
use Rattle.ir_core.specs.declared.types.Loc.{Loc}
use Rattle.ir_core.specs.declared.values.Side.TheVariants.{M}
use Rattle.ir_core.specs.declared.values.Side.{Side}
use Rattle.ir_core.specs.declared.values.Val.TheVariants as values
use Rattle.ir_check.proofs.ModuleLines.{kept}
use Rattle.inst_meaning.specs.Action.{on_word}
use Rattle.inst_meaning.specs.Registers.{get}
use Rattle.inst_meaning.specs.declared.actions.Action.TheVariants.{Jump}
use Rattle.inst_meaning.specs.declared.actions.Action.{Action}
use Rattle.inst_meaning.specs.declared.actions.Cause.TheVariants.{Unreachable}
use Rattle.process.specs.declared.state.Thread.TheVariants.{Running}
use Rattle.process.specs.declared.state.Thread.{Thread}
use Rattle.hard_ir.specs.declared.instruction.HInst.TheVariants.{Do}
use Rattle.hard_frames.specs.Frames as hard_frame
use Rattle.src_meaning.specs.declared.state.Frame.{Frame as SourceFrame}
use Rattle.hard_frames.specs.Frames.{action_on, destination_on}
use Rattle.hard_frames.specs.declared.state.Frame.{Frame}
use Rattle.hard_simulation.proofs.Sides.{IsHurt}
use Rattle.hard_meaning.specs.Effects.{did}
use Rattle.hard_meaning.specs.State.{Free, Inside, Mode}
use Rattle.hard_meaning.specs.Turns.{acted, left, stepped}
use Rattle.tx_simulation.proofs.Acts.{accesses}
use Rattle.tx_simulation.proofs.Branching.{IsBranching, Right, Wordless, Wrong, branches}
use Rattle.tx_simulation.proofs.Doubles.{faults-as}
use Rattle.tx_simulation.proofs.Facts.{IsAstray, IsGoing}
use Rattle.tx_simulation.proofs.Points.{is_edged, source_action}
use Rattle.tx_simulation.proofs.Quiet.{HasQuiet, quiet_effect, retires-outside, source_then}
use Rattle.tx_simulation.proofs.Scene.{AfterTurn, Scene, here, not-faulty, now, placed, seen, trapping}
use Rattle.tx_simulation.proofs.Singles.{IsReady, branches-to, goes-along, jump-none}
use Rattle.tx_simulation.proofs.Straying.{IsStraying, Nowhere, Strayed}

strays-in : (mode : Mode) (c : Scene mode) (is : HasQuiet mode c) → IsGoing (source_then mode c is) → IsHurt c.sides → (y : Thread Frame) → IsAstray c.h y
    → AfterTurn mode c (did (now mode c) c.t (here mode c) true None (quiet_effect mode c y None))
strays-in (Free plain) c is going hurt y astray = retires-outside plain c None y is (inr (hurt, astray, going))
strays-in (Inside tx) c is going hurt y astray =
    accesses c.m c.h c.arguments c.s c.workers c.turns c.upsets c.facts c.t c.x c.at c.v (Running c.b) tx c.hard_at c.sides c.hurt true None None y
    (record { kept = c.link.kept; inner = inr (hurt, inr astray) })

-- what a branch comes to that can be taken
jumps-as : (mode : Mode) (c : Scene mode) (target : Option (Side × Loc)) (label : Loc) (other : Frame) → hard_frame.jumped c.h c.b.frame label ≡ Some other
    → acted c.h (now mode c) c.t (here mode c) c.b target true (Jump label)
    ≡ did (now mode c) c.t (here mode c) true None (quiet_effect mode c (Running (record c.b { frame = other })) None)
jumps-as (Free plain) c target label other e = rw e refl
jumps-as (Inside tx) c target label other e = rw e refl

strays-to : (mode : Mode) (c : Scene mode) (is : HasQuiet mode c) → IsGoing (source_then mode c is) → IsHurt c.sides → (target : Option (Side × Loc)) (label : Loc)
    → IsStraying c.h c.b (hard_frame.jumped c.h c.b.frame label) → AfterTurn mode c (acted c.h (now mode c) c.t (here mode c) c.b target true (Jump label))
strays-to mode c is going hurt target label (Nowhere none) = subst (AfterTurn mode c) (sym (jump-none mode c target label none)) (trapping mode c (λ free. hurt))
strays-to mode c is going hurt target label (Strayed other e astray) =
    subst (AfterTurn mode c) (sym (jumps-as mode c target label other e)) (strays-in mode c is going hurt (Running (record c.b { frame = other })) astray)

-- ---- the branch

module _ (mode : Mode) (c : Scene mode) (cond first second : Loc) (r : IsReady mode c (insts.CondBr (values.Reg cond) first second))
    (edged : is_edged c.h c.b.frame ≡ true) where
  abbrev branch : Inst
  branch = insts.CondBr (values.Reg cond) first second

  abbrev TurnsBy : Action → Type 0
  TurnsBy action = AfterTurn mode c (acted c.h (now mode c) c.t (here mode c) c.b (destination_on M branch) true action)

  by-way : (label : Loc) → source_action c.m c.a.frame.registers branch ≡ Jump label → (frame : SourceFrame)
      → IsBranching c.m c.h c.sides mode (seen mode c) frame label c.b branch → TurnsBy (action_on c.h M c.b.frame branch)
  by-way label acts frame (Right e landing) = subst TurnsBy (sym e) (branches-to mode c branch r refl label acts (hard_frame.jumped c.h c.b.frame label) refl)
  by-way label acts frame (Wrong other e hurt straying) = subst TurnsBy (sym e)
      (strays-to mode c (record { inst = branch; after = r.after; left = r.left; action = Jump label; acts = acts; by_itself = tt; none = λ old. refl }) tt hurt
      (destination_on M branch) other straying)
  by-way label acts frame (Wordless e hurt) = subst TurnsBy (sym e)
      (subst (AfterTurn mode c) (sym (faults-as mode c true (destination_on M branch) Unreachable)) (trapping mode c (λ free. hurt)))

  by-word : (o : Option ℕ) → get c.a.frame.registers cond.0 ≡ o → TurnsBy (action_on c.h M c.b.frame branch)
  by-word None e = absurd (not-faulty mode c branch r.after r.left Unreachable
      (ap (λ (o : Option ℕ). on_word (option_map (λ (word : ℕ). word % 2) o) (λ c. Jump (if c == 1 then first else second))) e))
  by-word (Some n) e =
      let label : Loc = if n % 2 == 1 then first else second in
      let acts : source_action c.m c.a.frame.registers branch ≡ Jump label =
      ap (λ (o : Option ℕ). on_word (option_map (λ (word : ℕ). word % 2) o) (λ c. Jump (if c == 1 then first else second))) e in
      let along = goes-along mode c branch r label acts in
      by-way label acts along.0 (branches c.m c.h c.image c.accepted c.sides mode (seen mode c) c.a.frame c.b c.function c.block c.start r.masters r.shadows
      cond first second r.after r.rest r.left r.code r.rows edged (placed mode c) label acts along.0 along.1)

  pub guarded-turn : AfterTurn mode c (stepped c.h (now mode c) c.t (here mode c) c.b (Do M (insts.CondBr (values.Reg cond) first second) true))
  guarded-turn = by-word (get c.a.frame.registers cond.0) refl
