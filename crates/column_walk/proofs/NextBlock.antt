-- One block more by a column.
use Rattle.std.proofs.Common.{◌≡◌, ◌∙◌, ◌<◌, ℕ, zero, suc, ◌+◌, Bool, List, [], ◌∷◌, ◌++◌, length, drop, get_or, sym, ap, subst, append_assoc, arith}
use Rattle.std.specs.List.{All}
use Rattle.std.proofs.lemmas.List.Elements.{All-append}
use Rattle.ir_core.specs.Module.{FuncParts}
use Rattle.ir_flow.specs.Edges.{is_loop_head}
use Rattle.ir_lines.proofs.Breaks.{drop_at}
use Rattle.hard_ir.specs.declared.instruction.HBlock.{HBlock}
use Rattle.hard_ir.specs.Facts.{IsShort}
use Rattle.column_walk.specs.Columns.{ColumnParts, column_list, column_blocks}

pub next_block : (c : ColumnParts) (f : FuncParts) (pairs : List (ℕ × ℕ)) (n : ℕ) (blocks done more : List HBlock) (block made : HBlock) (is_head : Bool)
    → n < length blocks → block ≡ get_or blocks n block → is_head ≡ is_loop_head pairs n
    → made ≡ record block { list = column_list c f is_head n block.list } → more ≡ done ++ made ∷ []
    → more ++ column_blocks c f pairs (n + 1) (drop (n + 1) blocks) ≡ done ++ column_blocks c f pairs n (drop n blocks)
next_block c f pairs n blocks done more block made is_head inside at marked is grown =
    let rest : List HBlock = column_blocks c f pairs (n + 1) (drop (n + 1) blocks) in
    ap (λ (xs : List HBlock). xs ++ rest) grown ∙ append_assoc done (made ∷ []) rest
    ∙ ap (λ (b : HBlock). done ++ b ∷ rest) (is ∙ ap (λ (h : Bool). let b : HBlock = record block { list = column_list c f h n block.list } in b) marked)
    ∙ ap (λ (bs : List HBlock). done ++ column_blocks c f pairs n bs) (sym (drop_at blocks n block inside at))

only-short : (block : HBlock) → IsShort block → All IsShort (block ∷ [])
only-short block short zero d h = short
only-short block short (suc k) d h = absurd (omega (arith, h))

pub next_short : (done more : List HBlock) (made : HBlock) → All IsShort done → IsShort made → more ≡ done ++ made ∷ [] → All IsShort more
next_short done more made all short grown = subst (All IsShort) (sym grown) (All-append IsShort done (made ∷ []) all (only-short made short))
