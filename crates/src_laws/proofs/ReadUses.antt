-- Each register that a function reads is among its uses, and so assigned.
use Rattle.std.proofs.Common.{ℕ, zero, suc, ◌≡◌, ◌+◌, List, [], ◌∷◌, ◌++◌, length, slice_get, Option, Some, refl, subst, arith}
use Rattle.std.specs.List.{flat_map}
use Rattle.ir_core.specs.declared.types.Loc.{Loc}
use Rattle.ir_core.specs.declared.values.Val.{Val}
use Rattle.ir_core.specs.declared.instruction.Inst.{Inst}
use Rattle.ir_core.specs.declared.instruction.Block.{Block}
use Rattle.ir_core.specs.Module.{FuncParts}
use Rattle.ir_flow.specs.Edges.{number_of}
use Rattle.ir_flow.specs.Paths.{body_of, IsAssigned}
use Rattle.ir_flow.specs.Uses.{reg_in, regs_in, arms_in, uses_here, uses_at_end, uses_of_arm, uses_of_inst, uses_of_body, uses_from, UseAssigned, AllAssigned}
use Rattle.ir_check.proofs.Members.{IsIn}

abbrev AllHold : {A : Type 0} → (A → Type 0) → List A → Type 0
AllHold {A} fact xs = (k : ℕ) (x : A) → slice_get xs k ≡ Some x → fact x

hold-front : {A : Type 0} (fact : A → Type 0) (xs ys : List A) → AllHold fact (xs ++ ys) → AllHold fact xs
hold-front fact [] ys all k u e = absurd cc
hold-front fact (x ∷ xs) ys all zero u e = all zero u e
hold-front fact (x ∷ xs) ys all (suc k) u e = hold-front fact xs ys (λ j v at. all (suc j) v at) k u e

hold-back : {A : Type 0} (fact : A → Type 0) (xs ys : List A) → AllHold fact (xs ++ ys) → AllHold fact ys
hold-back fact [] ys all = all
hold-back fact (x ∷ xs) ys all = hold-back fact xs ys (λ k u e. all (suc k) u e)

module _ (f : FuncParts) where
  here : (block inst : ℕ) (reg : Loc) (regs : List Loc) → AllHold (UseAssigned f) (uses_here block inst regs) → IsIn reg regs
      → IsAssigned f block inst reg
  here block inst reg [] all (k, at) = absurd cc
  here block inst reg (x ∷ regs) all (zero, at) = let same : x ≡ reg = cc in subst (IsAssigned f block inst) same (all 0 _ refl)
  here block inst reg (x ∷ regs) all (suc k, at) = here block inst reg regs (λ j u e. all (suc j) u e) (k, at)

  at-end : (blocks : List Block) (block inst from : ℕ) (reg : Loc) (regs : List Loc)
      → AllHold (UseAssigned f) (uses_at_end blocks block inst (Some from) regs) → IsIn reg regs
      → IsAssigned f from (length (body_of blocks from)) reg
  at-end blocks block inst from reg [] all (k, at) = absurd cc
  at-end blocks block inst from reg (x ∷ regs) all (zero, at) =
      let same : x ≡ reg = cc in subst (IsAssigned f from (length (body_of blocks from))) same (all 0 _ refl)
  at-end blocks block inst from reg (x ∷ regs) all (suc k, at) = at-end blocks block inst from reg regs (λ j u e. all (suc j) u e) (k, at)

  -- of one arm among several, of an instruction among those of its block, and of a block among all
  of-arm : (blocks : List Block) (block inst : ℕ) (arm : Val × Loc) (arms : List (Val × Loc))
      → AllHold (UseAssigned f) (flat_map (uses_of_arm blocks block inst) arms) → IsIn arm arms
      → AllHold (UseAssigned f) (uses_of_arm blocks block inst arm)
  of-arm blocks block inst arm [] all (k, at) = absurd cc
  of-arm blocks block inst arm (x ∷ arms) all (zero, at) =
      let same : x ≡ arm = cc in
      subst (λ (y : Val × Loc). AllHold (UseAssigned f) (uses_of_arm blocks block inst y)) same (hold-front (UseAssigned f) (uses_of_arm blocks block inst x) (flat_map (uses_of_arm blocks block inst) arms) all)
  of-arm blocks block inst arm (x ∷ arms) all (suc k, at) =
      of-arm blocks block inst arm arms (hold-back (UseAssigned f) (uses_of_arm blocks block inst x) (flat_map (uses_of_arm blocks block inst) arms) all) (k, at)

  of-inst : (blocks : List Block) (block n i place : ℕ) (inst : Inst) (body : List Inst) → AllHold (UseAssigned f) (uses_of_body blocks block n body)
      → slice_get body i ≡ Some inst → place ≡ n + i → AllHold (UseAssigned f) (uses_of_inst blocks block place inst)
  of-inst blocks block n i place inst [] all at e = absurd cc
  of-inst blocks block n zero place inst (x ∷ body) all at e =
      let same : inst ≡ x = cc in
      let number : place ≡ n = omega arith in
      rw (same, number) (hold-front (UseAssigned f) (uses_of_inst blocks block n x) (uses_of_body blocks block (n + 1) body) all)
  of-inst blocks block n (suc i) place inst (x ∷ body) all at e =
      of-inst blocks block (n + 1) i place inst body (hold-back (UseAssigned f) (uses_of_inst blocks block n x) (uses_of_body blocks block (n + 1) body) all) at (omega arith)

  of-block : (every : List Block) (n b place : ℕ) (block : Block) (blocks : List Block) → AllHold (UseAssigned f) (uses_from every n blocks)
      → slice_get blocks b ≡ Some block → place ≡ n + b → AllHold (UseAssigned f) (uses_of_body every place 0 block.insts)
  of-block every n b place block [] all at e = absurd cc
  of-block every n zero place block (x ∷ blocks) all at e =
      let same : block ≡ x = cc in
      let number : place ≡ n = omega arith in
      rw (same, number) (hold-front (UseAssigned f) (uses_of_body every n 0 x.insts) (uses_from every (n + 1) blocks) all)
  of-block every n (suc b) place block (x ∷ blocks) all at e =
      of-block every (n + 1) b place block blocks (hold-back (UseAssigned f) (uses_of_body every n 0 x.insts) (uses_from every (n + 1) blocks) all) at (omega arith)

  of-place : (b i : ℕ) (block : Block) (inst : Inst) → AllAssigned f → slice_get f.blocks b ≡ Some block → slice_get block.insts i ≡ Some inst
      → AllHold (UseAssigned f) (uses_of_inst f.blocks b i inst)
  of-place b i block inst all at there =
      let start : b ≡ 0 + b = omega arith in
      let first : i ≡ 0 + i = omega arith in
      of-inst f.blocks b 0 i i inst block.insts (of-block f.blocks 0 b b block f.blocks all at start) there first

  -- what an instruction reads is assigned where it stands
  pub operand-assigned : (b i : ℕ) (block : Block) (inst : Inst) (reg : Loc) → AllAssigned f → slice_get f.blocks b ≡ Some block
      → slice_get block.insts i ≡ Some inst → IsIn reg (regs_in inst) → IsAssigned f b i reg
  operand-assigned b i block inst reg all at there h =
      here b i reg (regs_in inst) (hold-front (UseAssigned f) (uses_here b i (regs_in inst)) (flat_map (uses_of_arm f.blocks b i) (arms_in inst)) (of-place b i block inst all at there)) h

  -- what a phi takes from a block is assigned at that block's end
  pub arm-assigned : (b i from : ℕ) (block : Block) (inst : Inst) (arm : Val × Loc) (reg : Loc) → AllAssigned f → slice_get f.blocks b ≡ Some block
      → slice_get block.insts i ≡ Some inst → IsIn arm (arms_in inst) → number_of f.blocks arm.1 ≡ Some from → IsIn reg (reg_in arm.0)
      → IsAssigned f from (length (body_of f.blocks from)) reg
  arm-assigned b i from block inst arm reg all at there one number h =
      let mine = of-arm f.blocks b i arm (arms_in inst) (hold-back (UseAssigned f) (uses_here b i (regs_in inst)) (flat_map (uses_of_arm f.blocks b i) (arms_in inst)) (of-place b i block inst all at there)) one in
      at-end f.blocks b i from reg (reg_in arm.0) (subst (λ (o : Option ℕ). AllHold (UseAssigned f) (uses_at_end f.blocks b i o (reg_in arm.0))) number mine) h
