use Rattle.std.proofs.Common.{◌≡◌, ◌∙◌, ap}
use Rattle.ir_core.specs.Module.{ModuleParts}
use Rattle.ir_check.specs.Faults.{IsAccepted}
use Rattle.hard_ir.specs.Image.{relax_table}
use Rattle.hard_ir.specs.Hardened.{HardParts, hardened_by}
use Rattle.hard_laws.proofs.Fitting.{place-fits}
use Rattle.hard_grammar.proofs.Modules.{place_has_lines}
use Rattle.column_walk.specs.Columns.{column_funcs, column_module}
use Rattle.column_walk.proofs.Passing.{kept, parts-made}
use Rattle.tx_place.specs.Placed.{place_parts, placed_by}
use Rattle.tx_place.proofs.Telling.{placed_made}
use Rattle.tx_place.proofs.pass.place.Goals as goal

-- a module with late checks becomes the column
made : (h : HardParts) (heads : ModuleParts) (m : ModuleParts) → heads ≡ h.heads → IsAccepted m → h ≡ hardened_by relax_table m → column_module (place_parts heads) h ≡ placed_by m
made h heads m of_heads accepted is =
    ap (λ (x : ModuleParts). column_module (place_parts x) h) (of_heads ∙ ap (λ (x : HardParts). x.heads) is)
    ∙ ap (λ (x : HardParts). column_module (place_parts (hardened_by relax_table m).heads) x) is ∙ placed_made m accepted

pub new-requires : goal.new-requires
new-requires c =
    let source = c.requires.source in
    let heads = c.take-heads.result.0 in
    kept (place_parts heads) c.args.h (placed_by source) heads _ _ c.take-heads.ensures.hardened (made c.args.h heads source c.take-heads.ensures.heads c.requires.accepted c.requires.is) (place-fits source c.requires.accepted)
    (place_has_lines source c.requires.accepted c.requires.of_text) c.take-heads.ensures.heads (c.items.ensures ∙ c.take-heads.ensures.blocks)
    (c.in_ok-funcs.ensures.funcs ∙ ap (λ funcs. column_funcs (place_parts heads) funcs c.items.result.now) c.funcs.ensures) c.in_ok-funcs.ensures.short

pub returns-clause-column : goal.returns-clause-column
returns-clause-column c = λ m accepted is.
    let heads = c.take-heads.result.0 in
    c.in_ok-placed.ensures
    ∙ parts-made (place_parts heads) c.args.h (placed_by m) heads _ _ (made c.args.h heads m c.take-heads.ensures.heads accepted is) c.take-heads.ensures.heads (c.items.ensures ∙ c.take-heads.ensures.blocks)
    (c.in_ok-funcs.ensures.funcs ∙ ap (λ funcs. column_funcs (place_parts heads) funcs c.items.result.now) c.funcs.ensures)

pub returns-clause-answer : goal.returns-clause-answer
returns-clause-answer c =
    let heads = c.take-heads.result.0 in
    record {
      source = c.requires.source;
      accepted = c.requires.accepted;
      of_text = c.requires.of_text;
      is = c.in_ok-placed.ensures
          ∙ parts-made (place_parts heads) c.args.h (placed_by c.requires.source) heads _ _ (made c.args.h heads c.requires.source c.take-heads.ensures.heads c.requires.accepted c.requires.is) c.take-heads.ensures.heads
          (c.items.ensures ∙ c.take-heads.ensures.blocks) (c.in_ok-funcs.ensures.funcs ∙ ap (λ funcs. column_funcs (place_parts heads) funcs c.items.result.now) c.funcs.ensures);
    }
