-- Each function of a module that a text stands for has a block.
use Rattle.std.proofs.Common.{ℕ, ◌<◌, inl, inr, List, [], ◌∷◌, length, map, sym, subst, arith}
use Rattle.std.specs.List.{All}
use Rattle.std.proofs.lemmas.List.{length-map}
use Rattle.std.proofs.lemmas.List.Elements.{All-nil, All-cons, All-append, All-map}
use Rattle.std.proofs.lemmas.Option.{slice_get_within, get_or_from_slice_get}
use Rattle.ir_core.specs.declared.text.Token.{Token}
use Rattle.ir_core.specs.declared.types.Loc.{Loc}
use Rattle.ir_core.specs.declared.instruction.Block.{Block}
use Rattle.ir_core.specs.Module.{ModuleParts, FuncParts, empty_module}
use Rattle.ir_grammar.specs.declared.trees.TopLine.{TopLine}
use Rattle.ir_grammar.specs.declared.trees.TopLine.TheVariants as tops
use Rattle.ir_grammar.specs.declared.trees.BodyLine.{BodyLine}
use Rattle.ir_grammar.specs.declared.trees.BodyLine.TheVariants as bodies
use Rattle.ir_numbering.specs.Renaming.{renamed_block}
use Rattle.ir_numbering.specs.Numbers.{module_with, numbered_func, places_of_module}
use Rattle.ir_parse_top.specs.Sheet.{Sheet, Outside, Inside, begun, with_top, with_body, with_numerals}
use Rattle.ir_parse_top.specs.Text.{Line, Says, Leads, Dropped, Blank, Said, Run, lines_placed, numerals_for}
use Rattle.ir_parse_top.specs.Laws.{FunctionsHaveBlocks}

abbrev HasBlock : FuncParts → Type 0
HasBlock f = 0 < length f.blocks

-- the functions that have ended have blocks
abbrev HaveBlocks : Sheet → Type 0
HaveBlocks (Outside tree) = All HasBlock tree.funcs
HaveBlocks (Inside tree f entry pending) = All HasBlock tree.funcs

-- ---- lines

begun_some : (entry : Loc) (blocks : List Block) → 0 < length (begun entry blocks)
begun_some entry [] = omega arith
begun_some entry (block ∷ blocks) = omega arith

top_has : (text : List ℕ) (tree : ModuleParts) (line : TopLine) → All HasBlock tree.funcs → HaveBlocks (with_top text tree line)
top_has text tree (tops.Type id ty) have = have
top_has text tree (tops.Global global) have = have
top_has text tree (tops.Declare declare) have = have
top_has text tree (tops.Define head) have = have

body_has : (tree : ModuleParts) (f : FuncParts) (entry : Loc) (line : BodyLine) → All HasBlock tree.funcs → HaveBlocks (with_body tree f entry line)
body_has tree f entry (bodies.Label at) have = have
body_has tree f entry (bodies.Inst inst) have = have
body_has tree f entry bodies.End have =
    let ended : FuncParts = record f { blocks = begun entry f.blocks } in
    All-append HasBlock tree.funcs (ended ∷ []) have (All-cons HasBlock ended [] (begun_some entry f.blocks) (All-nil HasBlock))

module _ (text : List ℕ) where
  says_has : (sheet : Sheet) (tokens : List Token) (next : Sheet) → Says text sheet tokens next → HaveBlocks sheet → HaveBlocks next
  says_has (Outside tree) tokens next s have = subst HaveBlocks (sym s.2) (top_has text tree s.0 have)
  says_has (Inside tree f entry pending) tokens next (inl s) have = subst HaveBlocks (sym s.2) (body_has tree f entry s.0 have)
  says_has (Inside tree f entry pending) tokens next (inr s) have = subst HaveBlocks (sym s.1) have

  leads_has : (sheet : Sheet) (line : Line) (next : Sheet) → Leads text sheet line next → HaveBlocks sheet → HaveBlocks next
  leads_has sheet line next (Dropped _ e) have = subst HaveBlocks (sym e) have
  leads_has sheet line next (Blank _ _ e) have = subst HaveBlocks (sym e) have
  leads_has sheet line next (Said all h says) have = says_has sheet all next says have

  run_has : (lines : List Line) (sheet next : Sheet) → Run text sheet lines next → HaveBlocks sheet → HaveBlocks next
  run_has [] sheet next e have = subst HaveBlocks (sym e) have
  run_has (line ∷ lines) sheet next run have = run_has lines run.0 next run.2 (leads_has sheet line run.0 run.1 have)

-- ---- whole texts

numbered_has : (text : List ℕ) (table : ModuleParts) (funcs : List FuncParts) → All HasBlock funcs → All HasBlock (map (numbered_func text table) funcs)
numbered_has text table funcs have = All-map HasBlock (numbered_func text table) funcs (λ k d lt. subst (λ (n : ℕ). 0 < n) (sym (length-map _ (renamed_block _))) (have k d lt))

pub functions_have_blocks : FunctionsHaveBlocks
functions_have_blocks text m t n f at =
    let whole = with_numerals (numerals_for t.tree.funcs) text in
    let table = module_with whole (places_of_module t.tree) empty_module in
    let read = run_has text (lines_placed text) (Outside empty_module) (Outside t.tree) t.read (All-nil HasBlock) in
    let all : All HasBlock m.funcs = subst (λ (x : ModuleParts). All HasBlock x.funcs) (sym t.is) (numbered_has whole table t.tree.funcs read) in
    subst HasBlock (get_or_from_slice_get m.funcs n f f at) (all n f (slice_get_within m.funcs n f at))
