-- A hardened module whose lists a column made again is a hardened module, where what the column makes fits and has lines.
use Rattle.std.proofs.Common.{◌≡◌, ◌∙◌, ℕ, List, [], ◌∷◌, length, sym, ap, subst, refl, arith}
use Rattle.std.specs.Prelude.{suc, map}
use Rattle.std.specs.List.{zip}
use Rattle.ir_core.specs.Module.{ModuleParts, FuncParts}
use Rattle.hard_ir.specs.declared.instruction.HBlock.{HBlock}
use Rattle.hard_ir.specs.Facts.{IsHardened, AreShort}
use Rattle.hard_ir.specs.Fit.{Fits}
use Rattle.hard_ir.specs.Hardened.{HardParts}
use Rattle.hard_ir.specs.Standing.{HasLines}
use Rattle.column_walk.specs.Columns.{ColumnParts, column_pair, column_funcs, column_module}

abbrev pub of_parts : ModuleParts → List (List HBlock) → HardParts
of_parts heads funcs = record { heads = heads; funcs = funcs }

-- there are as many functions
pub as_many : (c : ColumnParts) (heads : List FuncParts) (funcs : List (List HBlock)) → length funcs ≡ length heads → length (column_funcs c heads funcs) ≡ length heads
as_many c [] [] e = refl
as_many c [] (blocks ∷ funcs) e = absurd (omega (arith, e))
as_many c (f ∷ heads) [] e = absurd (omega (arith, e))
as_many c (f ∷ heads) (blocks ∷ funcs) e = ap suc (as_many c heads funcs (omega (arith, e)))

-- with other blocks
pub with_funcs_hardened : (h : HardParts) (funcs : List (List HBlock)) → IsHardened h → length funcs ≡ length h.heads.funcs → AreShort funcs
    → Fits (of_parts h.heads funcs) → HasLines (of_parts h.heads funcs) → IsHardened (of_parts h.heads funcs)
with_funcs_hardened h funcs is count short fits lines = record { bare = is.bare; count = count; short = short; fits = fits; lines = lines }

pub parts-made : (c : ColumnParts) (h target : HardParts) (heads : ModuleParts) (blocks funcs : List (List HBlock)) → column_module c h ≡ target → heads ≡ h.heads → blocks ≡ h.funcs
    → funcs ≡ column_funcs c heads.funcs blocks → of_parts heads funcs ≡ target
parts-made c h target heads blocks funcs made of_heads of_blocks is =
    ap (of_parts heads) is ∙ ap (λ (m : ModuleParts). of_parts m (column_funcs c m.funcs blocks)) of_heads
    ∙ ap (λ (bs : List (List HBlock)). of_parts h.heads (column_funcs c h.heads.funcs bs)) of_blocks ∙ made

pub kept : (c : ColumnParts) (h target : HardParts) (heads : ModuleParts) (blocks funcs : List (List HBlock)) → IsHardened h → column_module c h ≡ target → Fits target → HasLines target
    → heads ≡ h.heads → blocks ≡ h.funcs → funcs ≡ column_funcs c heads.funcs blocks → AreShort funcs → IsHardened (of_parts heads funcs)
kept c h target heads blocks funcs is made fits lines of_heads of_blocks of_funcs short =
    let same : of_parts heads funcs ≡ target = parts-made c h target heads blocks funcs made of_heads of_blocks of_funcs in
    let here : of_parts h.heads funcs ≡ target = ap (λ (m : ModuleParts). of_parts m funcs) (sym of_heads) ∙ same in
    let count : length funcs ≡ length h.heads.funcs =
    ap length (of_funcs ∙ ap (λ (m : ModuleParts). column_funcs c m.funcs blocks) of_heads ∙ ap (column_funcs c h.heads.funcs) of_blocks) ∙ as_many c h.heads.funcs h.funcs is.count in
    subst (λ (m : ModuleParts). IsHardened (of_parts m funcs)) (sym of_heads)
    (with_funcs_hardened h funcs is count short (subst Fits (sym here) fits) (subst HasLines (sym here) lines))
