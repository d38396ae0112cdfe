-- The first break of lines one behind another.
use Rattle.std.proofs.Common.{◌≡◌, ◌∙◌, ap, refl, sym, ℕ, suc, ◌+◌, ◌<◌, List, ◌∷◌, ◌++◌, drop, length, get_or, drop-cons, arith, Bool, not, Option, Some, None, find}
use Rattle.std.specs.Option.{option_map, option_or}
use Rattle.std.proofs.lemmas.List.Folds.{find-append}
use Rattle.ir_core.specs.Module.{FuncParts}
use Rattle.ir_core.specs.declared.instruction.Block.{Block}
use Rattle.ir_lines.specs.Lines.{Line, site_of, block_lines, blocks_lines, func_lines, funcs_lines, first_break}

map-or : {A B : Type 0} (f : A → B) (x y : Option A) → option_map f (option_or x y) ≡ option_or (option_map f x) (option_map f y)
map-or f None y = refl
map-or f (Some x) y = refl

pub first_break_append : (keeps : Line → Bool) (xs ys : List Line) → first_break keeps (xs ++ ys) ≡ option_or (first_break keeps xs) (first_break keeps ys)
first_break_append keeps xs ys =
    let test : Line → Bool = λ line. not (keeps line) in
    ap (option_map site_of) (find-append test xs ys) ∙ map-or site_of (find test xs) (find test ys)

pub drop_at : {A : Type 0} (xs : List A) (i : ℕ) (x : A) → i < length xs → x ≡ get_or xs i x → drop i xs ≡ x ∷ drop (i + 1) xs
drop_at xs i x inside at = let e : drop i xs ≡ get_or xs i x ∷ drop (suc i) xs = drop-cons xs i x inside in let n : suc i ≡ i + 1 = omega arith in cc

-- of one block or one function and those behind it
pub at-block : (keeps : Line → Bool) (n : ℕ) (f : FuncParts) (b : ℕ) (blocks : List Block) (block : Block) → b < length blocks → block ≡ get_or blocks b block → first_break keeps (blocks_lines n f b (drop b blocks)) ≡ option_or (first_break keeps (block_lines n f b block)) (first_break keeps (blocks_lines n f (b + 1) (drop (b + 1) blocks)))
at-block keeps n f b blocks block inside at =
    ap (λ (rest : List Block). first_break keeps (blocks_lines n f b rest)) (drop_at blocks b block inside at) ∙ first_break_append keeps (block_lines n f b block) (blocks_lines n f (b + 1) (drop (b + 1) blocks))

pub at-func : (keeps : Line → Bool) (n : ℕ) (funcs : List FuncParts) (f : FuncParts) → n < length funcs → f ≡ get_or funcs n f → first_break keeps (funcs_lines n (drop n funcs)) ≡ option_or (first_break keeps (func_lines n f)) (first_break keeps (funcs_lines (n + 1) (drop (n + 1) funcs)))
at-func keeps n funcs f inside at =
    ap (λ (rest : List FuncParts). first_break keeps (funcs_lines n rest)) (drop_at funcs n f inside at) ∙ first_break_append keeps (func_lines n f) (funcs_lines (n + 1) (drop (n + 1) funcs))

-- where something was found, it is the first; where nothing was, the rest decides
pub found-first : {A : Type 0} (all now later : Option A) (x : A) → all ≡ option_or now later → now ≡ Some x → Some x ≡ all
found-first all now later x e found = sym (e ∙ ap (λ (o : Option _). option_or o later) found)

pub none-yet : {A : Type 0} (all now later : Option A) → all ≡ option_or now later → now ≡ None → later ≡ all
none-yet all now later e found = sym (e ∙ ap (λ (o : Option _). option_or o later) found)
