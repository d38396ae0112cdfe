-- A module with transactions becomes the hardened module of the whole table.
use Rattle.std.proofs.Common.{◌≡◌, ◌∙◌, List, length, map, refl, sym, ap, subst}
use Rattle.std.proofs.lemmas.List.{length-map}
use Rattle.ir_core.specs.Module.{ModuleParts}
use Rattle.ir_check.specs.Faults.{IsAccepted}
use Rattle.hard_ir.specs.declared.instruction.HBlock.{HBlock}
use Rattle.hard_ir.specs.Facts.{IsHardened, AreShort}
use Rattle.hard_ir.specs.Fit.{Fits}
use Rattle.hard_ir.specs.Hardened.{HardParts, heads_of, harden, ticked_block, ticked_module, IsMadeBy}
use Rattle.hard_ir.specs.Standing.{HasLines}
use Rattle.hard_laws.proofs.Fitting.{harden-fits}
use Rattle.hard_grammar.proofs.Modules.{harden_has_lines}
use Rattle.column_walk.specs.Columns.{column_funcs, column_module}
use Rattle.column_walk.proofs.Passing.{of_parts, as_many, parts-made, with_funcs_hardened}
use Rattle.tx_place.specs.Placed.{placed_by}
use Rattle.tx_split.specs.Split.{split_parts}
use Rattle.tx_split.proofs.Telling.{hardened_made}

abbrev numbered : List (List HBlock) → List (List HBlock)
numbered = map (map ticked_block)

module _ (h : HardParts) (heads : ModuleParts) (blocks rows funcs : List (List HBlock)) (of_heads : heads ≡ h.heads) (of_blocks : blocks ≡ h.funcs)
    (of_rows : rows ≡ column_funcs (split_parts heads) heads.funcs blocks) (of_funcs : funcs ≡ numbered rows) where
  parts : of_parts heads rows ≡ column_module (split_parts heads) h
  parts = parts-made (split_parts heads) h (column_module (split_parts heads) h) heads blocks rows refl of_heads of_blocks of_rows

  pub whole-made : (m : ModuleParts) → IsAccepted m → h ≡ placed_by m → of_parts heads funcs ≡ harden m
  whole-made m accepted is =
      ap (of_parts heads) of_funcs ∙ ap ticked_module parts
      ∙ ap (λ (x : ModuleParts). ticked_module (column_module (split_parts x) h)) (of_heads ∙ ap (λ (x : HardParts). x.heads) is)
      ∙ ap (λ (x : HardParts). ticked_module (column_module (split_parts (heads_of m)) x)) is ∙ hardened_made m accepted

  pub whole-hardened : IsMadeBy placed_by h → IsHardened h → AreShort funcs → IsHardened (of_parts heads funcs)
  whole-hardened made is short =
      let m = made.source in
      let same : of_parts heads funcs ≡ harden m = whole-made m made.accepted made.is in
      let here : of_parts h.heads funcs ≡ harden m = ap (λ (x : ModuleParts). of_parts x funcs) (sym of_heads) ∙ same in
      let count : length funcs ≡ length h.heads.funcs =
      ap length of_funcs ∙ length-map rows (map ticked_block)
      ∙ ap length (of_rows ∙ ap (λ (x : ModuleParts). column_funcs (split_parts heads) x.funcs blocks) of_heads ∙ ap (column_funcs (split_parts heads) h.heads.funcs) of_blocks)
      ∙ as_many (split_parts heads) h.heads.funcs h.funcs is.count in
      let small : AreShort (harden m).funcs = subst AreShort (ap (λ (x : HardParts). x.funcs) same) short in
      subst (λ (x : ModuleParts). IsHardened (of_parts x funcs)) (sym of_heads)
      (with_funcs_hardened h funcs is count short (subst Fits (sym here) (harden-fits m made.accepted)) (subst HasLines (sym here) (harden_has_lines m made.accepted made.of_text small)))
