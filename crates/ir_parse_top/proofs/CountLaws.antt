-- A text stands for a module of no more instructions than the text has bytes.
use Rattle.std.proofs.Common.{◌≡◌, ℕ, suc, ◌+◌, ◌≤◌, inl, inr, Bool, true, false, cond, eqb, List, [], ◌∷◌, ◌++◌, length, map, ap, refl, sym, subst, ◌∙◌, arith}
use Rattle.std.proofs.lemmas.List.{length-append, length-map}
use Rattle.std.proofs.lemmas.Grind.{flat_map-append}
use Rattle.ir_core.specs.declared.text.Token.{Token}
use Rattle.ir_core.specs.declared.types.Loc.{Loc}
use Rattle.ir_core.specs.declared.instruction.Block.{Block}
use Rattle.ir_core.specs.declared.instruction.Inst.{Inst}
use Rattle.ir_core.specs.Module.{ModuleParts, FuncParts, empty_module, with_inst}
use Rattle.ir_core.specs.Lines.{with_byte, lines_of}
use Rattle.ir_grammar.specs.declared.trees.TopLine.{TopLine}
use Rattle.ir_grammar.specs.declared.trees.TopLine.TheVariants as tops
use Rattle.ir_grammar.specs.declared.trees.BodyLine.{BodyLine}
use Rattle.ir_grammar.specs.declared.trees.BodyLine.TheVariants as bodies
use Rattle.ir_numbering.specs.Renaming.{Renaming, renamed_block, renamed_inst}
use Rattle.ir_numbering.specs.Numbers.{module_with, numbered_func, places_of_module, numbered_module}
use Rattle.ir_parse_top.specs.Sheet.{Sheet, Outside, Inside, new_block, begun, with_top, with_body}
use Rattle.ir_parse_top.specs.Text.{Line, placed, Says, Leads, Dropped, Blank, Said, Run, lines_placed}
use Rattle.ir_parse_top.specs.Laws.{insts_of_blocks, insts_of_funcs, instruction_count, ModulesAreWithin, ModulesAreSmall}

-- ---- instructions of blocks and functions

abbrev in_blocks : List Block → ℕ
in_blocks blocks = length (insts_of_blocks blocks)

abbrev in_funcs : List FuncParts → ℕ
in_funcs funcs = length (insts_of_funcs funcs)

blocks_more : (a b : List Block) → in_blocks (a ++ b) ≡ in_blocks a + in_blocks b
blocks_more a b = ap length (flat_map-append (λ (block : Block). block.insts) a b) ∙ length-append (insts_of_blocks a) (insts_of_blocks b)

funcs_more : (funcs : List FuncParts) (f : FuncParts) → in_funcs (funcs ++ f ∷ []) ≡ in_funcs funcs + in_blocks f.blocks
funcs_more funcs f =
    ap length (flat_map-append (λ (g : FuncParts). insts_of_blocks g.blocks) funcs (f ∷ []))
    ∙ length-append (insts_of_funcs funcs) (insts_of_funcs (f ∷ []))
    ∙ ap (λ (n : ℕ). in_funcs funcs + n) (length-append (insts_of_blocks f.blocks) [] ∙ omega arith)

-- one more in the last block
one_more : (block : Block) (blocks : List Block) (inst : Inst) → in_blocks (with_inst (block ∷ blocks) inst) ≡ in_blocks (block ∷ blocks) + 1
one_more block [] inst = omega (arith, length-append (block.insts ++ inst ∷ []) [], length-append block.insts (inst ∷ []), length-append block.insts [])
one_more block (next ∷ blocks) inst =
    let more : in_blocks (with_inst (next ∷ blocks) inst) ≡ in_blocks (next ∷ blocks) + 1 = one_more next blocks inst in
    length-append block.insts (insts_of_blocks (with_inst (next ∷ blocks) inst)) ∙ omega (arith, more, length-append block.insts (insts_of_blocks (next ∷ blocks)))

begun_again : (entry : Loc) (blocks : List Block) → in_blocks (begun entry blocks) ≡ in_blocks blocks
begun_again entry [] = refl
begun_again entry (block ∷ blocks) = refl

begun_more : (entry : Loc) (blocks : List Block) (inst : Inst) → in_blocks (with_inst (begun entry blocks) inst) ≡ in_blocks blocks + 1
begun_more entry [] inst = one_more (new_block entry) [] inst
begun_more entry (block ∷ blocks) inst = one_more block blocks inst

-- ---- a line says at most one more

-- the instructions that have been read
abbrev in_sheet : Sheet → ℕ
in_sheet (Outside tree) = in_funcs tree.funcs
in_sheet (Inside tree f entry pending) = in_funcs tree.funcs + in_blocks f.blocks

top_more : (text : List ℕ) (tree : ModuleParts) (line : TopLine) → in_sheet (with_top text tree line) ≤ in_funcs tree.funcs + 1
top_more text tree (tops.Type id ty) = omega arith
top_more text tree (tops.Global global) = omega arith
top_more text tree (tops.Declare declare) = omega arith
top_more text tree (tops.Define head) = omega arith

body_more : (tree : ModuleParts) (f : FuncParts) (entry : Loc) (line : BodyLine) → in_sheet (with_body tree f entry line) ≤ in_funcs tree.funcs + in_blocks f.blocks + 1
body_more tree f entry (bodies.Label at) = omega (arith, blocks_more f.blocks (new_block at ∷ []))
body_more tree f entry (bodies.Inst inst) = omega (arith, begun_more entry f.blocks inst)
body_more tree f entry bodies.End = omega (arith, funcs_more tree.funcs (record f { blocks = begun entry f.blocks }), begun_again entry f.blocks)

module _ (text : List ℕ) where
  says_more : (sheet : Sheet) (tokens : List Token) (next : Sheet) → Says text sheet tokens next → in_sheet next ≤ in_sheet sheet + 1
  says_more (Outside tree) tokens next s = subst (λ (x : Sheet). in_sheet x ≤ in_funcs tree.funcs + 1) (sym s.2) (top_more text tree s.0)
  says_more (Inside tree f entry pending) tokens next (inl s) = subst (λ (x : Sheet). in_sheet x ≤ in_funcs tree.funcs + in_blocks f.blocks + 1) (sym s.2) (body_more tree f entry s.0)
  says_more (Inside tree f entry pending) tokens next (inr s) = let e : in_sheet next ≡ in_funcs tree.funcs + in_blocks f.blocks = ap in_sheet s.1 in omega (arith, e)

  leads_more : (sheet : Sheet) (line : Line) (next : Sheet) → Leads text sheet line next → in_sheet next ≤ in_sheet sheet + 1
  leads_more sheet line next (Dropped _ e) = let same : in_sheet next ≡ in_sheet sheet = ap in_sheet e in omega (arith, same)
  leads_more sheet line next (Blank _ _ e) = let same : in_sheet next ≡ in_sheet sheet = ap in_sheet e in omega (arith, same)
  leads_more sheet line next (Said all h says) = says_more sheet all next says

  run_more : (lines : List Line) (sheet next : Sheet) → Run text sheet lines next → in_sheet next ≤ in_sheet sheet + length lines
  run_more [] sheet next e = let same : in_sheet next ≡ in_sheet sheet = ap in_sheet e in omega (arith, same)
  run_more (line ∷ lines) sheet next run =
      let one : in_sheet run.0 ≤ in_sheet sheet + 1 = leads_more sheet line run.0 run.1 in
      let more : in_sheet next ≤ in_sheet run.0 + length lines = run_more lines run.0 next run.2 in
      omega (arith, one, more)

-- ---- no more lines than bytes

byte_more : (b n : ℕ) (lines : List (List ℕ)) → length lines ≤ n → length (with_byte b lines) ≤ suc n
byte_more b n [] h = omega arith
byte_more b n (line ∷ lines) h = omega (arith, h)

lines_within : (text : List ℕ) → length (lines_of text) ≤ length text
unfolding lines_of
lines_within [] = omega arith
lines_within (b ∷ bytes) = by (eqb b 10) (lines_within bytes)
  where
    by : (t : Bool) → length (lines_of bytes) ≤ length bytes → length (cond t ([] ∷ lines_of bytes) (with_byte b (lines_of bytes))) ≤ suc (length bytes)
    by true h = omega (arith, h)
    by false h = byte_more b (length bytes) (lines_of bytes) h

as_many : (at : ℕ) (lines : List (List ℕ)) → length (placed at lines) ≡ length lines
unfolding placed
as_many at [] = refl
as_many at (bytes ∷ lines) = ap suc (as_many (at + length bytes + 1) lines)

-- ---- numbers of names change no more than names

renamed_again : (r : Renaming) (blocks : List Block) → in_blocks (map (renamed_block r) blocks) ≡ in_blocks blocks
renamed_again r [] = refl
renamed_again r (block ∷ blocks) =
    let more : in_blocks (map (renamed_block r) blocks) ≡ in_blocks blocks = renamed_again r blocks in
    let here : length (map (renamed_inst r) block.insts) ≡ length block.insts = length-map block.insts (renamed_inst r) in
    length-append (map (renamed_inst r) block.insts) (insts_of_blocks (map (renamed_block r) blocks)) ∙ omega (arith, more, here, length-append block.insts (insts_of_blocks blocks))

module _ (text : List ℕ) (table : ModuleParts) where
  numbered_again : (f : FuncParts) → in_blocks (numbered_func text table f).blocks ≡ in_blocks f.blocks
  numbered_again f = renamed_again _ f.blocks

  all_again : (funcs : List FuncParts) → in_funcs (map (numbered_func text table) funcs) ≡ in_funcs funcs
  all_again [] = refl
  all_again (f ∷ funcs) =
      let more : in_funcs (map (numbered_func text table) funcs) ≡ in_funcs funcs = all_again funcs in
      length-append (insts_of_blocks (numbered_func text table f).blocks) (insts_of_funcs (map (numbered_func text table) funcs))
      ∙ omega (arith, more, numbered_again f, length-append (insts_of_blocks f.blocks) (insts_of_funcs funcs))

module_again : (text : List ℕ) (m : ModuleParts) → instruction_count (numbered_module text m) ≡ instruction_count m
module_again text m = all_again text (module_with text (places_of_module m) empty_module) m.funcs

-- ---- whole texts

pub modules_within : ModulesAreWithin
modules_within text m t =
    let read : in_funcs t.tree.funcs ≤ 0 + length (lines_placed text) = run_more text (lines_placed text) (Outside empty_module) (Outside t.tree) t.read in
    let same : instruction_count m ≡ in_funcs t.tree.funcs = ap instruction_count t.is ∙ module_again _ t.tree in
    omega (arith, read, same, as_many 0 (lines_of text), lines_within text)

pub modules_small : ModulesAreSmall
modules_small text m small t = let h : instruction_count m ≤ length text = modules_within text m t in omega (arith, h, small)
