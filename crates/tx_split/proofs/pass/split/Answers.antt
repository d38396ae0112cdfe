use Rattle.std.proofs.Common.{◌≡◌, ◌∙◌, ap, map}
use Rattle.hard_ir.specs.Hardened.{ticked_block}
use Rattle.column_walk.specs.Columns.{column_funcs}
use Rattle.tx_split.specs.Split.{split_parts}
use Rattle.tx_split.proofs.Whole.{whole-made, whole-hardened}
use Rattle.tx_split.proofs.pass.split.Goals as goal

pub new-requires : goal.new-requires
new-requires c =
    let heads = c.take-heads.result.0 in
    whole-hardened c.args.h heads _ _ _ c.take-heads.ensures.heads (c.items.ensures ∙ c.take-heads.ensures.blocks)
    (c.in_ok-rows.ensures.funcs ∙ ap (λ funcs. column_funcs (split_parts heads) funcs c.items.result.now) c.funcs.ensures)
    (c.in_ok-funcs.ensures.funcs ∙ ap (map (map ticked_block)) c.items-2.ensures) c.requires c.take-heads.ensures.hardened c.in_ok-funcs.ensures.short

pub returns-clause-column : goal.returns-clause-column
returns-clause-column c = λ m accepted is.
    let heads = c.take-heads.result.0 in
    c.in_ok-hardened.ensures
    ∙ whole-made c.args.h heads _ _ _ c.take-heads.ensures.heads (c.items.ensures ∙ c.take-heads.ensures.blocks)
    (c.in_ok-rows.ensures.funcs ∙ ap (λ funcs. column_funcs (split_parts heads) funcs c.items.result.now) c.funcs.ensures)
    (c.in_ok-funcs.ensures.funcs ∙ ap (map (map ticked_block)) c.items-2.ensures) m accepted is

pub returns-clause-answer : goal.returns-clause-answer
returns-clause-answer c =
    let heads = c.take-heads.result.0 in
    record {
      source = c.requires.source;
      accepted = c.requires.accepted;
      of_text = c.requires.of_text;
      is = c.in_ok-hardened.ensures
          ∙ whole-made c.args.h heads _ _ _ c.take-heads.ensures.heads (c.items.ensures ∙ c.take-heads.ensures.blocks)
          (c.in_ok-rows.ensures.funcs ∙ ap (λ funcs. column_funcs (split_parts heads) funcs c.items.result.now) c.funcs.ensures)
          (c.in_ok-funcs.ensures.funcs ∙ ap (map (map ticked_block)) c.items-2.ensures) c.requires.source c.requires.accepted c.requires.is;
    }
