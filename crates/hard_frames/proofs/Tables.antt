-- The table of a function grows by a block, and those of a module by a function.
use Rattle.std.proofs.Common.{ℕ, zero, suc, ◌≡◌, ◌+◌, ◌<◌, List, [], ◌∷◌, ◌++◌, Option, Some, length, get_or, map, take, slice_get, refl, ap, ◌∙◌, sym, arith}
use Rattle.std.proofs.lemmas.List.{take_more, length-take-le, take-map, get_or-map, length-map}
use Rattle.std.proofs.lemmas.Option.{slice_get_within, get_or_from_slice_get}
use Rattle.ir_core.specs.declared.instruction.Block.{Block}
use Rattle.inst_meaning.specs.Registers.{put}
use Rattle.hard_ir.specs.declared.instruction.HBlock.{HBlock}
use Rattle.src_meaning.specs.Labels.{IsTable}
use Rattle.src_meaning.proofs.Tables.{IsTable-more}
use Rattle.hard_frames.specs.Labels.{AreTables}
use Rattle.hard_frames.specs.Frames.{labelled}

-- the table of one more block
pub table_more : (blocks : List HBlock) (i : ℕ) (block : HBlock) (table grown : List (Option ℕ)) → i < length blocks → block ≡ get_or blocks i block
    → grown ≡ put table block.label.0 i → IsTable (map labelled (take i blocks)) table → IsTable (map labelled (take (i + 1) blocks)) grown
table_more blocks i block table grown inside at e so_far =
    let all : List Block = map labelled blocks in
    let within : i < length all = omega (arith, length-map blocks labelled, inside) in
    let there : labelled block ≡ get_or all i (labelled block) = sym (get_or-map labelled blocks i block (labelled block) inside ∙ ap labelled (sym at)) in
    let before : IsTable (take i all) table = rw take-map so_far in
    rw (← take-map labelled (i + 1) blocks) (IsTable-more all i (labelled block) table grown within there e before)

-- the tables of one more function
tables_push : (funcs : List (List HBlock)) (tables : List (List (Option ℕ))) (blocks : List HBlock) (table : List (Option ℕ))
    → length tables ≡ length funcs → AreTables funcs tables → IsTable (map labelled blocks) table
    → AreTables (funcs ++ blocks ∷ []) (tables ++ table ∷ [])
tables_push [] [] blocks table e so_far is zero = is
tables_push [] [] blocks table e so_far is (suc n) = λ label. refl
tables_push [] (other ∷ tables) blocks table e so_far is n = absurd (omega arith)
tables_push (g ∷ funcs) [] blocks table e so_far is n = absurd (omega arith)
tables_push (g ∷ funcs) (other ∷ tables) blocks table e so_far is zero = so_far zero
tables_push (g ∷ funcs) (other ∷ tables) blocks table e so_far is (suc n) = tables_push funcs tables blocks table (omega arith) (λ m. so_far (suc m)) is n

pub tables_more : (funcs : List (List HBlock)) (i : ℕ) (blocks : List HBlock) (tables grown : List (List (Option ℕ))) (table : List (Option ℕ))
    → slice_get funcs i ≡ Some blocks → length tables ≡ i → grown ≡ tables ++ table ∷ [] → AreTables (take i funcs) tables
    → IsTable (map labelled blocks) table → AreTables (take (i + 1) funcs) grown
tables_more funcs i blocks tables grown table at count e so_far is =
    let inside : i < length funcs = slice_get_within funcs i blocks at in
    let here : get_or funcs i blocks ≡ blocks = get_or_from_slice_get funcs i blocks blocks at in
    let front : take (i + 1) funcs ≡ take i funcs ++ blocks ∷ [] = take_more funcs i blocks inside ∙ ap (λ (g : List HBlock). take i funcs ++ g ∷ []) here in
    rw (e, front) (tables_push (take i funcs) tables blocks table (omega (arith, count, length-take-le i funcs (omega (arith, inside)))) so_far is)
