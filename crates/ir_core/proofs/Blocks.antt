-- Instructions that join the last block.
use Rattle.std.proofs.Common.{◌≡◌, ℕ, zero, suc, ◌+◌, List, [], ◌∷◌, ◌++◌, length, get_or, slice_set, ap, refl, ◌∙◌, arith}
use Rattle.ir_core.specs.declared.instruction.Block.{Block}
use Rattle.ir_core.specs.declared.instruction.Inst.{Inst}
use Rattle.ir_core.specs.Module.{with_inst}

-- the block once it ends in the instruction too
abbrev ended : Inst → Block → Block
ended i b = record b { insts = b.insts ++ i ∷ [] }

-- the blocks before the last one stay
pub with_inst-append : (done : List Block) (b : Block) (i : Inst) → with_inst (done ++ b ∷ []) i ≡ done ++ record b { insts = b.insts ++ i ∷ [] } ∷ []
with_inst-append [] b i = refl
with_inst-append (d ∷ []) b i = refl
with_inst-append (d ∷ e ∷ done) b i = ap (λ bs. d ∷ bs) (with_inst-append (e ∷ done) b i)

-- the blocks are as many
pub length-with_inst : (bs : List Block) (i : Inst) → length (with_inst bs i) ≡ length bs
length-with_inst [] i = refl
length-with_inst (b ∷ []) i = refl
length-with_inst (b ∷ c ∷ bs) i = ap suc (length-with_inst (c ∷ bs) i)

-- a write to the last block
pub set-last : (bs : List Block) (k : ℕ) (b x : Block) (i : Inst) → k + 1 ≡ length bs → b ≡ get_or bs k b → x ≡ record b { insts = b.insts ++ i ∷ [] } → slice_set bs k x ≡ with_inst bs i
set-last [] k b x i n e f = absurd (omega arith)
set-last (y ∷ []) zero b x i n e f = ap (λ z. z ∷ []) (f ∙ ap (ended i) e)
set-last (y ∷ []) (suc k) b x i n e f = absurd (omega arith)
set-last (y ∷ c ∷ bs) zero b x i n e f = absurd (omega arith)
set-last (y ∷ c ∷ bs) (suc k) b x i n e f = ap (λ z. y ∷ z) (set-last (c ∷ bs) k b x i (omega arith) e f)
