-- What holds of a hardened module still holds once it has checks.
use Rattle.std.proofs.Common.{◌≡◌, List, map, sym, subst, ap, ◌∙◌}
use Rattle.std.proofs.lemmas.List.{length-map}
use Rattle.ir_core.specs.Module.{ModuleParts}
use Rattle.hard_ir.specs.declared.instruction.HBlock.{HBlock}
use Rattle.hard_ir.specs.Facts.{IsHardened, AreShort}
use Rattle.hard_ir.specs.Fit.{Fits}
use Rattle.hard_ir.specs.Hardened.{HardParts, IsHardenedBy}
use Rattle.hard_ir.specs.Standing.{HasLines}
use Rattle.hard_ir.specs.Image.{flow_table}
use Rattle.hard_laws.proofs.Fitting.{check-fits}
use Rattle.hard_grammar.proofs.Modules.{check_has_lines}
use Rattle.check_insert.proofs.Column.{column}
use Rattle.check_insert.specs.Checks.{checked_block, checked_funcs, checked_module}

abbrev of_parts : ModuleParts → List (List HBlock) → HardParts
of_parts heads funcs = record { heads = heads; funcs = funcs }

IsHardened-checked : (h : HardParts) → IsHardenedBy flow_table h → IsHardened h → AreShort (checked_funcs h.funcs) → IsHardened (checked_module h)
IsHardened-checked h flows is short =
    let made = sym (ap checked_module flows.is ∙ column flows.source) in
    record {
      bare = is.bare;
      count = length-map h.funcs (map checked_block) ∙ is.count;
      short = short;
      fits = subst Fits made (check-fits flows.source flows.accepted);
      lines = subst HasLines made (check_has_lines flows.source flows.accepted flows.of_text);
    }

pub kept : (h : HardParts) (heads : ModuleParts) (blocks funcs : List (List HBlock)) → IsHardenedBy flow_table h → IsHardened h → heads ≡ h.heads → blocks ≡ h.funcs
    → funcs ≡ checked_funcs blocks → AreShort funcs → IsHardened (of_parts heads funcs)
kept h heads blocks funcs flows is of_heads of_blocks made short =
    let same = made ∙ ap checked_funcs of_blocks in
    subst (λ m. IsHardened (of_parts m funcs)) (sym of_heads) (subst (λ fs. IsHardened (of_parts h.heads fs)) (sym same) (IsHardened-checked h flows is (subst AreShort same short)))

pub checked_module-is : (h r : HardParts) (heads : ModuleParts) (blocks funcs : List (List HBlock)) → heads ≡ h.heads → blocks ≡ h.funcs
    → funcs ≡ checked_funcs blocks → r ≡ of_parts heads funcs → r ≡ checked_module h
checked_module-is h r heads blocks funcs of_heads of_blocks made is =
    is ∙ ap (λ m. of_parts m funcs) of_heads ∙ ap (of_parts h.heads) (made ∙ ap checked_funcs of_blocks)
