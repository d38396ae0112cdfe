use Rattle.std.proofs.Common.{◌≡◌, ◌∙◌, ap, sym}
use Rattle.ir_core.specs.Module.{ModuleParts}
use Rattle.ir_check.specs.Faults.{IsAccepted}
use Rattle.hard_ir.specs.Image.{check_table, relax_table}
use Rattle.hard_ir.specs.Hardened.{HardParts, hardened_by}
use Rattle.hard_laws.proofs.Fitting.{relax-fits}
use Rattle.hard_grammar.proofs.Modules.{relax_has_lines}
use Rattle.column_walk.specs.Columns.{column_funcs, column_module}
use Rattle.column_walk.proofs.Passing.{kept, parts-made}
use Rattle.relaxed_mem.specs.Relaxed.{relax_parts}
use Rattle.relaxed_mem.proofs.Telling.{relaxed_made}
use Rattle.relaxed_mem.proofs.pass.relax.Goals as goal

-- a module that checks make becomes the column
made : (h : HardParts) (m : ModuleParts) → IsAccepted m → h ≡ hardened_by check_table m → column_module relax_parts h ≡ hardened_by relax_table m
made h m accepted is = ap (column_module relax_parts) is ∙ relaxed_made m accepted

pub new-requires : goal.new-requires
new-requires c =
    let source = c.requires.source in
    kept relax_parts c.args.h (hardened_by relax_table source) _ _ _ c.take-heads.ensures.hardened (made c.args.h source c.requires.accepted c.requires.is) (relax-fits source c.requires.accepted)
    (relax_has_lines source c.requires.accepted c.requires.of_text) c.take-heads.ensures.heads (c.items.ensures ∙ c.take-heads.ensures.blocks)
    (c.in_ok-funcs.ensures.funcs ∙ ap (λ heads. column_funcs relax_parts heads c.items.result.now) c.funcs.ensures) c.in_ok-funcs.ensures.short

pub returns-clause-column : goal.returns-clause-column
returns-clause-column c = λ m accepted is.
    c.in_ok-relaxed.ensures
    ∙ parts-made relax_parts c.args.h (hardened_by relax_table m) _ _ _ (made c.args.h m accepted is) c.take-heads.ensures.heads (c.items.ensures ∙ c.take-heads.ensures.blocks)
    (c.in_ok-funcs.ensures.funcs ∙ ap (λ heads. column_funcs relax_parts heads c.items.result.now) c.funcs.ensures)

pub returns-clause-answer : goal.returns-clause-answer
returns-clause-answer c = record {
  source = c.requires.source;
  accepted = c.requires.accepted;
  of_text = c.requires.of_text;
  is = c.in_ok-relaxed.ensures
      ∙ parts-made relax_parts c.args.h (hardened_by relax_table c.requires.source) _ _ _ (made c.args.h c.requires.source c.requires.accepted c.requires.is) c.take-heads.ensures.heads
      (c.items.ensures ∙ c.take-heads.ensures.blocks) (c.in_ok-funcs.ensures.funcs ∙ ap (λ heads. column_funcs relax_parts heads c.items.result.now) c.funcs.ensures);
}
