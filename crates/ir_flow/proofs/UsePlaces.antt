-- Registers are read in blocks that the function has.
use Rattle.std.proofs.Common.{◌≡◌, ℕ, zero, suc, ◌+◌, ◌<◌, List, [], ◌∷◌, ◌++◌, length, refl, subst, arith}
use Rattle.std.specs.Prelude.{Option, None, Some, slice_get}
use Rattle.std.specs.List.{flat_map}
use Rattle.ir_core.specs.declared.types.Loc.{Loc}
use Rattle.ir_core.specs.declared.values.Val.{Val}
use Rattle.ir_core.specs.declared.instruction.Inst.{Inst}
use Rattle.ir_core.specs.declared.instruction.Block.{Block}
use Rattle.ir_core.specs.Module.{FuncParts}
use Rattle.ir_flow.specs.Edges.{number_of}
use Rattle.ir_flow.specs.Uses.{uses_here, uses_at_end, uses_of_arm, uses_of_inst, uses_of_body, uses_from, uses_of, regs_in, arms_in, reg_in}
use Rattle.ir_flow.specs.declared.uses.Use.{Use}
use Rattle.ir_flow.proofs.Tables.{numbered-within}

abbrev Below : ℕ → List Use → Type 0
Below n uses = (k : ℕ) (u : Use) → slice_get uses k ≡ Some u → u.at_block < n

below-none : (n : ℕ) → Below n []
below-none n k u at = absurd cc

below-cons : (n : ℕ) (u : Use) (us : List Use) → u.at_block < n → Below n us → Below n (u ∷ us)
below-cons n u us first rest zero v at = let same : u ≡ v = cc in subst (λ (x : Use). x.at_block < n) same first
below-cons n u us first rest (suc k) v at = rest k v at

below-append : (n : ℕ) (xs ys : List Use) → Below n xs → Below n ys → Below n (xs ++ ys)
below-append n [] ys first rest = rest
below-append n (x ∷ xs) ys first rest = below-cons n x (xs ++ ys) (first 0 x refl) (below-append n xs ys (λ k u at. first (suc k) u at) rest)

below-here : (n block inst : ℕ) (regs : List Loc) → block < n → Below n (uses_here block inst regs)
below-here n block inst [] small = below-none n
below-here n block inst (reg ∷ regs) small = below-cons n _ (uses_here block inst regs) small (below-here n block inst regs small)

below-end : (blocks : List Block) (block inst : ℕ) (from : Option ℕ) (regs : List Loc) → ((m : ℕ) → from ≡ Some m → m < length blocks) → Below (length blocks) (uses_at_end blocks block inst from regs)
below-end blocks block inst None regs small = below-none (length blocks)
below-end blocks block inst (Some from) [] small = below-none (length blocks)
below-end blocks block inst (Some from) (reg ∷ regs) small = below-cons (length blocks) _ (uses_at_end blocks block inst (Some from) regs) (small from refl) (below-end blocks block inst (Some from) regs small)

below-arms : (blocks : List Block) (block inst : ℕ) (arms : List (Val × Loc)) → Below (length blocks) (flat_map (uses_of_arm blocks block inst) arms)
below-arms blocks block inst [] = below-none (length blocks)
below-arms blocks block inst (arm ∷ arms) =
    let within = λ (m : ℕ) (e : number_of blocks arm.1 ≡ Some m). let h : m < 0 + length blocks = numbered-within 0 blocks arm.1 m e in let g : m < length blocks = omega arith in g in
    below-append (length blocks) (uses_of_arm blocks block inst arm) (flat_map (uses_of_arm blocks block inst) arms) (below-end blocks block inst (number_of blocks arm.1) (reg_in arm.0) within) (below-arms blocks block inst arms)

below-body : (blocks : List Block) (block n : ℕ) (body : List Inst) → block < length blocks → Below (length blocks) (uses_of_body blocks block n body)
below-body blocks block n [] small = below-none (length blocks)
below-body blocks block n (inst ∷ body) small = below-append (length blocks) (uses_of_inst blocks block n inst) (uses_of_body blocks block (n + 1) body) (below-append (length blocks) (uses_here block n (regs_in inst)) (flat_map (uses_of_arm blocks block n) (arms_in inst)) (below-here (length blocks) block n (regs_in inst) small) (below-arms blocks block n (arms_in inst))) (below-body blocks block (n + 1) body small)

below-from : (all : List Block) (n : ℕ) (blocks : List Block) → n + length blocks ≡ length all → Below (length all) (uses_from all n blocks)
below-from all n [] e = below-none (length all)
below-from all n (block ∷ blocks) e = let small : n < length all = omega arith in let rest : n + 1 + length blocks ≡ length all = omega arith in below-append (length all) (uses_of_body all n 0 block.insts) (uses_from all (n + 1) blocks) (below-body all n 0 block.insts small) (below-from all (n + 1) blocks rest)

pub use-within : (f : FuncParts) (k : ℕ) (u : Use) → slice_get (uses_of f) k ≡ Some u → u.at_block < length f.blocks
use-within f = let e : 0 + length f.blocks ≡ length f.blocks = omega arith in below-from f.blocks 0 f.blocks e
