-- A table grows by a block, and the tables of a module by a function.
use Rattle.std.proofs.Common.{ℕ, zero, suc, ◌≡◌, ◌+◌, ◌<◌, List, [], ◌∷◌, ◌++◌, Option, length, get_or, take, refl, ap, ◌∙◌, sym, arith}
use Rattle.std.proofs.lemmas.Bool.{eqb-false}
use Rattle.std.proofs.lemmas.List.{take_more, length-take-le}
use Rattle.ir_core.specs.declared.instruction.Block.{Block}
use Rattle.ir_core.specs.Module.{FuncParts}
use Rattle.inst_meaning.specs.Registers.{get, put}
use Rattle.ir_flow.proofs.Labelled.{numbers-more}
use Rattle.inst_meaning.proofs.Puts.{put-here, put-elsewhere}
use Rattle.src_meaning.specs.Labels.{IsTable, AreTables}

-- the table of one more block
pub IsTable-more : (blocks : List Block) (i : ℕ) (block : Block) (table grown : List (Option ℕ)) → i < length blocks → block ≡ get_or blocks i block → grown ≡ put table block.label.0 i → IsTable (take i blocks) table → IsTable (take (i + 1) blocks) grown
IsTable-more blocks i block table grown inside at e so_far =
    rw e (numbers-more blocks i block (get table) (get (put table block.label.0 i)) inside at (put-here table block.label.0 i) (λ q ne. put-elsewhere table block.label.0 i q (eqb-false block.label.0 q ne)) so_far)

-- the tables of one more function
AreTables-push : (funcs : List FuncParts) (tables : List (List (Option ℕ))) (f : FuncParts) (table : List (Option ℕ)) → length tables ≡ length funcs → AreTables funcs tables → IsTable f.blocks table → AreTables (funcs ++ f ∷ []) (tables ++ table ∷ [])
AreTables-push [] [] f table e so_far is zero = is
AreTables-push [] [] f table e so_far is (suc n) = λ label. refl
AreTables-push [] (other ∷ tables) f table e so_far is n = absurd (omega arith)
AreTables-push (g ∷ funcs) [] f table e so_far is n = absurd (omega arith)
AreTables-push (g ∷ funcs) (other ∷ tables) f table e so_far is zero = so_far zero
AreTables-push (g ∷ funcs) (other ∷ tables) f table e so_far is (suc n) = AreTables-push funcs tables f table (omega arith) (λ m. so_far (suc m)) is n

pub AreTables-more : (funcs : List FuncParts) (i : ℕ) (f : FuncParts) (tables grown : List (List (Option ℕ))) (table : List (Option ℕ)) → i < length funcs → f ≡ get_or funcs i f → length tables ≡ i → grown ≡ tables ++ table ∷ [] → AreTables (take i funcs) tables → IsTable f.blocks table → AreTables (take (i + 1) funcs) grown
AreTables-more funcs i f tables grown table inside at count e so_far is =
    let front : take (i + 1) funcs ≡ take i funcs ++ f ∷ [] = take_more funcs i f inside ∙ ap (λ (g : FuncParts). take i funcs ++ g ∷ []) (sym at) in
    rw (e, front) (AreTables-push (take i funcs) tables f table (omega (arith, length-take-le i funcs (omega arith))) so_far is)
