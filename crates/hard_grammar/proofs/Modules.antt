-- The hardened modules of an accepted module that a text stands for have lines.
use Rattle.std.proofs.Common.{ℕ, zero, suc, ◌≡◌, ◌+◌, ◌<◌, ◌≤◌, List, [], ◌∷◌, length, map, fold, max, Some, slice_get, refl, sym, ap, ◌∙◌, subst, arith}
use Rattle.std.specs.List.{All, AllByRecursion}
use Rattle.std.proofs.lemmas.List.{length-map}
use Rattle.ir_core.specs.declared.types.Loc.{Loc}
use Rattle.ir_core.specs.declared.types.Ty.{Ty}
use Rattle.ir_core.specs.declared.instruction.Block.{Block}
use Rattle.ir_core.specs.Module.{ModuleParts, FuncParts, empty_module}
use Rattle.ir_numbering.specs.Renaming.{renamed_block, renamed_param}
use Rattle.ir_numbering.specs.Places.{places_of_func}
use Rattle.ir_numbering.specs.Numbers.{with_names, locals_at, renaming_of, numbered_func, module_with, places_of_module}
use Rattle.ir_parse_top.specs.Sheet.{numerals, with_numerals}
use Rattle.ir_parse_top.specs.Text.{Text, IsOfText, numerals_for}
use Rattle.ir_parse_top.proofs.BlockLaws.{functions_have_blocks}
use Rattle.ir_check.specs.Faults.{IsAccepted}
use Rattle.hard_ir.specs.Image.{Table, flow_table, check_table, relax_table, place_table, split_table}
use Rattle.hard_ir.specs.declared.instruction.HBlock.{HBlock}
use Rattle.hard_ir.specs.Facts.{IsShort, AreShort}
use Rattle.hard_ir.specs.Hardened.{HardParts, head_of, hard_func, hardened_by, ticked_block, ticked_module, harden}
use Rattle.hard_ir.specs.Standing.{Tables, tables_of, HasBlockLines, HasFuncLines, HasLines}
use Rattle.hard_laws.proofs.ImageRows.{all-got, ticked-length}
use Rattle.hard_grammar.proofs.Ordinary.{all_map}
use Rattle.hard_grammar.proofs.TextLines.{IsToldBlock, IsToldFunc, tree_told}
use Rattle.hard_grammar.proofs.NumberedLines.{BlockFacts, FuncFacts, block_facts, param_facts}
use Rattle.hard_grammar.proofs.Accepted.{func_fits, callees_plain}
use Rattle.hard_grammar.proofs.Words.{NotVoid}
use Rattle.hard_grammar.proofs.Parameters.{not_void_renamed}
use Rattle.hard_grammar.proofs.Held.{words_held}
use Rattle.hard_grammar.proofs.Results.{have_words}
use Rattle.hard_grammar.proofs.Columns.{HeldFunc, IsLined, flow_lined, check_lined, relax_lined, place_lined, split_lined, ticked_lines, func_lines}

-- ---- elements of lists

all_at : {A : Type 0} (P : A → Type 0) (xs : List A) (n : ℕ) (x : A) → AllByRecursion P xs → slice_get xs n ≡ Some x → P x
all_at P [] n x all e = absurd cc
all_at P (y ∷ xs) zero x all e = let same : y ≡ x = cc in subst P same all.0
all_at P (y ∷ xs) (suc n) x all e = all_at P xs n x all.1 e

-- what an element of an image is the image of
map_at : {A B : Type 0} (f : A → B) (xs : List A) (n : ℕ) (y : B) → slice_get (map f xs) n ≡ Some y → (x : A) × (slice_get xs n ≡ Some x) × (f x ≡ y)
map_at f [] n y e = absurd cc
map_at f (x ∷ xs) zero y e = (x, refl, cc)
map_at f (x ∷ xs) (suc n) y e = map_at f xs n y e

-- ---- how many numerals there are

least : (n : ℕ) (funcs : List FuncParts) → n ≤ fold (λ (n : ℕ) (f : FuncParts). max n (length f.params + 1)) n funcs
least n [] = omega arith
least n (f ∷ funcs) = let h = least (max n (length f.params + 1)) funcs in omega (arith, h)

enough : (n k : ℕ) (f : FuncParts) (funcs : List FuncParts) → slice_get funcs k ≡ Some f → length f.params + 1 ≤ fold (λ (n : ℕ) (f : FuncParts). max n (length f.params + 1)) n funcs
enough n k f [] e = absurd cc
enough n zero f (g ∷ funcs) e =
    let same : g ≡ f = cc in
    let h = least (max n (length g.params + 1)) funcs in
    subst (λ (x : FuncParts). length x.params + 1 ≤ fold (λ (n : ℕ) (f : FuncParts). max n (length f.params + 1)) (max n (length g.params + 1)) funcs) same (omega (arith, h))
enough n (suc k) f (g ∷ funcs) e = enough (max n (length g.params + 1)) k f funcs e

-- ---- functions of a text

some_blocks : (blocks : List Block) → 0 < length blocks → blocks ≡ [] → ⊥
some_blocks [] lt e = omega (arith, lt)
some_blocks (block ∷ blocks) lt e = cc

-- a function by the numbers of its names
numbered_facts : (text : List ℕ) (count : ℕ) (table : ModuleParts) (f : FuncParts) → length f.params < count → length f.params < 10000000 → IsToldFunc text (numerals 0 count) f
    → 0 < length (numbered_func (with_numerals count text) table f).blocks → FuncFacts (tables_of table (numbered_func (with_numerals count text) table f)) (numbered_func (with_numerals count text) table f)
numbered_facts text count table f within small told some =
    let whole = with_numerals count text in
    let named : FuncParts = record f { names = with_names [] (locals_at whole (places_of_func f)) } in
    let names = renaming_of whole table named in
    record {
      entry = some_blocks (map (renamed_block names) f.blocks) some;
      params = param_facts text count table named (length f.params) within small f.params told.names;
      values = all_map (λ (param : Ty × Loc). NotVoid param.0) (λ (param : Ty × Loc). NotVoid param.0) (renamed_param names)
          (λ param. not_void_renamed names param.0) f.params told.params;
      each = all_map (IsToldBlock text (numerals 0 count) (length f.params)) (BlockFacts (tables_of table named)) (renamed_block names) (block_facts text count table named (length f.params) within small) f.blocks told.each;
    }

-- each function has fewer parameters than this, for which eight bytes of digits are enough
abbrev pub FewParams : ModuleParts → Type 0
FewParams m = (n : ℕ) (f : FuncParts) → slice_get m.funcs n ≡ Some f → length f.params < 10000000

text_facts : (text : List ℕ) (m : ModuleParts) → Text text m → FewParams m → (n : ℕ) (f : FuncParts) → slice_get m.funcs n ≡ Some f → FuncFacts (tables_of m f) f
text_facts text m t few n f at =
    let count = numerals_for t.tree.funcs in
    let whole = with_numerals count text in
    let table = module_with whole (places_of_module t.tree) empty_module in
    let here : slice_get (map (numbered_func whole table) t.tree.funcs) n ≡ Some f = subst (λ (x : ModuleParts). slice_get x.funcs n ≡ Some f) t.is at in
    let from = map_at (numbered_func whole table) t.tree.funcs n f here in
    let told = all_at (IsToldFunc text (numerals 0 count)) t.tree.funcs n from.0 (tree_told text (numerals 0 count) t.tree t.read) from.1 in
    let size : length f.params ≡ length from.0.params = ap (λ (x : FuncParts). length x.params) (sym from.2) ∙ length-map from.0.params (renamed_param (renaming_of whole table (record from.0 { names = with_names [] (locals_at whole (places_of_func from.0)) }))) in
    let below = few n f at in
    let more = enough 0 n from.0 t.tree.funcs from.1 in
    let some = subst (λ (x : FuncParts). 0 < length x.blocks) (sym from.2) (functions_have_blocks text m t n f at) in
    let facts = numbered_facts text count table from.0 (omega (arith, more)) (omega (arith, size, below)) told some in
    subst (λ (x : ModuleParts). FuncFacts (tables_of x f) f) (sym t.is) (subst (λ (x : FuncParts). FuncFacts (tables_of table x) x) from.2 facts)

-- ---- hardened modules

few_params : (m : ModuleParts) → IsAccepted m → FewParams m
few_params m accepted n f at = let few = (func_fits m accepted n f at).few in omega (arith, few)

func_held : (m : ModuleParts) → IsAccepted m → (n : ℕ) (f : FuncParts) → slice_get m.funcs n ≡ Some f → FuncFacts (tables_of m f) f → HeldFunc f
func_held m accepted n f at facts =
    let fits = func_fits m accepted n f at in
    words_held m f (have_words m f (tables_of m f) (callees_plain m accepted) fits facts) fits

lines_of_text : (table : Table) → ((tables : Tables) → IsLined tables table) → (m : ModuleParts) → IsAccepted m → IsOfText m → HasLines (hardened_by table m)
lines_of_text table lined m accepted t n head blocks at there =
    let f = map_at head_of m.funcs n head at in
    let g = map_at (hard_func table) m.funcs n blocks there in
    let same : f.0 ≡ g.0 = let e = f.1 in let h = g.1 in cc in
    let facts = text_facts t.text m t.stands (few_params m accepted) n f.0 f.1 in
    let lines = func_lines (tables_of m f.0) table (lined (tables_of m f.0)) f.0 facts (func_held m accepted n f.0 f.1 facts) in
    subst (HasFuncLines (tables_of m head)) (ap (hard_func table) same ∙ g.2) (subst (λ (x : FuncParts). HasFuncLines (tables_of m x) (hard_func table f.0)) f.2 lines)

pub flow_has_lines : (m : ModuleParts) → IsAccepted m → IsOfText m → HasLines (hardened_by flow_table m)
flow_has_lines = lines_of_text flow_table flow_lined

pub check_has_lines : (m : ModuleParts) → IsAccepted m → IsOfText m → HasLines (hardened_by check_table m)
check_has_lines = lines_of_text check_table check_lined

pub relax_has_lines : (m : ModuleParts) → IsAccepted m → IsOfText m → HasLines (hardened_by relax_table m)
relax_has_lines = lines_of_text relax_table relax_lined

pub place_has_lines : (m : ModuleParts) → IsAccepted m → IsOfText m → HasLines (hardened_by (place_table m) m)
place_has_lines m = lines_of_text (place_table m) (λ tables. place_lined tables m) m

split_has_lines : (m : ModuleParts) → IsAccepted m → IsOfText m → HasLines (hardened_by (split_table m) m)
split_has_lines m = lines_of_text (split_table m) (λ tables. split_lined tables m) m

-- ---- with the numbers of ticks

block_ticked : (tables : Tables) (block : HBlock) → IsShort (ticked_block block) → HasBlockLines tables block → HasBlockLines tables (ticked_block block)
block_ticked tables block short lines =
    let same = ticked-length 0 block.list in
    record { label = lines.label; phis = lines.phis; list = ticked_lines tables 0 block.list (omega (arith, short, same)) lines.list }

blocks_ticked : (tables : Tables) (blocks : List HBlock) → All IsShort (map ticked_block blocks) → AllByRecursion (HasBlockLines tables) blocks → AllByRecursion (HasBlockLines tables) (map ticked_block blocks)
blocks_ticked tables [] short lines = tt
blocks_ticked tables (block ∷ blocks) short lines =
    (block_ticked tables block (short 0 block (omega arith)) lines.0, blocks_ticked tables blocks (λ j d h. short (suc j) d (omega (arith, h))) lines.1)

still_some : (blocks : List HBlock) → (blocks ≡ [] → ⊥) → map ticked_block blocks ≡ [] → ⊥
still_some [] some e = some refl
still_some (block ∷ blocks) some e = absurd cc

ticked_has_lines : (h : HardParts) → AreShort (ticked_module h).funcs → HasLines h → HasLines (ticked_module h)
ticked_has_lines h short lines n f blocks at there =
    let own = map_at (map ticked_block) h.funcs n blocks there in
    let is = lines n f own.0 at own.1 in
    let small : All IsShort (map ticked_block own.0) = subst (All IsShort) (sym own.2) (all-got (All IsShort) (ticked_module h).funcs n blocks short there) in
    subst (HasFuncLines (tables_of h.heads f)) own.2 (record { entry = still_some own.0 is.entry; each = blocks_ticked (tables_of h.heads f) own.0 small is.each })

pub harden_has_lines : (m : ModuleParts) → IsAccepted m → IsOfText m → AreShort (harden m).funcs → HasLines (harden m)
harden_has_lines m accepted t short = ticked_has_lines (hardened_by (split_table m) m) short (split_has_lines m accepted t)
