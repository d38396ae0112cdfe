-- Instructions that join the last block, one after another.
use Rattle.std.proofs.Common.{◌≡◌, ◌∙◌, ◌<◌, ℕ, List, [], ◌∷◌, ◌++◌, fold, length, Option, Some, None, refl, ap, sym, subst, append-nil, append_assoc, arith}
use Rattle.std.specs.List.{cons_option}
use Rattle.ir_core.specs.declared.instruction.Block.{Block}
use Rattle.ir_core.specs.declared.instruction.Inst.{Inst}
use Rattle.ir_core.specs.Module.{with_inst}
use Rattle.ir_core.proofs.Blocks.{with_inst-append, length-with_inst}

pub fold_more : (found : Option Inst) (blocks : List Block) (rest : List Inst)
    → fold with_inst (fold with_inst blocks (cons_option found [])) rest ≡ fold with_inst blocks (cons_option found rest)
fold_more None blocks rest = refl
fold_more (Some inst) blocks rest = refl

-- there is one still
pub some_more : (blocks : List Block) (inst : Inst) → 0 < length blocks → 0 < length (with_inst blocks inst)
some_more blocks inst some = let same = length-with_inst blocks inst in omega (arith, same, some)

-- the last one gets them all
pub fold_last : (blocks : List Block) (last : Block) (more : List Inst)
    → fold with_inst (blocks ++ last ∷ []) more ≡ blocks ++ record last { insts = last.insts ++ more } ∷ []
fold_last blocks last [] = ap (λ (insts : List Inst). blocks ++ record last { insts = insts } ∷ []) (sym (append-nil last.insts))
fold_last blocks last (inst ∷ more) =
    ap (λ (bs : List Block). fold with_inst bs more) (with_inst-append blocks last inst)
    ∙ fold_last blocks (record last { insts = last.insts ++ inst ∷ [] }) more
    ∙ ap (λ (insts : List Inst). blocks ++ record last { insts = insts } ∷ []) (append_assoc last.insts (inst ∷ []) more)
