-- What the first of lines tells.
use Rattle.std.proofs.Common.{◌≡◌, ◌∙◌, ap, refl, ℕ, suc, ◌+◌, ◌<◌, arith, List, [], ◌∷◌, ◌++◌, drop, drop-cons, length, get_or, Bool, not, Option, Some, None}
use Rattle.std.specs.Prelude.{if◌then◌else◌}
use Rattle.std.specs.Option.{option_or}
use Rattle.ir_core.specs.declared.instruction.Block.{Block}
use Rattle.ir_core.specs.Module.{FuncParts}
use Rattle.ir_lines.specs.Lines.{Line, told_at, block_lines, blocks_lines, func_lines, funcs_lines}
use Rattle.ir_lines.specs.declared.site.Site.{Site}
use Rattle.ir_lines.specs.declared.site.Named.{Named}
use Rattle.ir_names.specs.Names.{mentions_in, first_strange, first_unknown}

or-assoc : {A : Type 0} (x y z : Option A) → option_or x (option_or y z) ≡ option_or (option_or x y) z
or-assoc None y z = refl
or-assoc (Some a) y z = refl

pub first_unknown_append : (known : Named → Bool) (xs ys : List Line) → first_unknown known (xs ++ ys) ≡ option_or (first_unknown known xs) (first_unknown known ys)
first_unknown_append known [] ys = refl
first_unknown_append known (x ∷ xs) ys =
    let here : Option (Site × Named) = told_at x (first_strange known (mentions_in x)) in
    ap (option_or here) (first_unknown_append known xs ys) ∙ or-assoc here (first_unknown known xs) (first_unknown known ys)

drop_at : {A : Type 0} (xs : List A) (i : ℕ) (x : A) → i < length xs → x ≡ get_or xs i x → drop i xs ≡ x ∷ drop (i + 1) xs
drop_at xs i x inside at = let e : drop i xs ≡ get_or xs i x ∷ drop (suc i) xs = drop-cons xs i x inside in let n : suc i ≡ i + 1 = omega arith in cc

-- what one block or one function tells, or those behind it
pub at-block : (known : Named → Bool) (n : ℕ) (f : FuncParts) (b : ℕ) (blocks : List Block) (block : Block) → b < length blocks → block ≡ get_or blocks b block → first_unknown known (blocks_lines n f b (drop b blocks)) ≡ option_or (first_unknown known (block_lines n f b block)) (first_unknown known (blocks_lines n f (b + 1) (drop (b + 1) blocks)))
at-block known n f b blocks block inside at =
    ap (λ (rest : List Block). first_unknown known (blocks_lines n f b rest)) (drop_at blocks b block inside at) ∙ first_unknown_append known (block_lines n f b block) (blocks_lines n f (b + 1) (drop (b + 1) blocks))

pub at-func : (known : Named → Bool) (n : ℕ) (funcs : List FuncParts) (f : FuncParts) → n < length funcs → f ≡ get_or funcs n f → first_unknown known (funcs_lines n (drop n funcs)) ≡ option_or (first_unknown known (func_lines n f)) (first_unknown known (funcs_lines (n + 1) (drop (n + 1) funcs)))
at-func known n funcs f inside at =
    ap (λ (rest : List FuncParts). first_unknown known (funcs_lines n rest)) (drop_at funcs n f inside at) ∙ first_unknown_append known (func_lines n f) (funcs_lines (n + 1) (drop (n + 1) funcs))

strange-alike : (f g : Named → Bool) → ((name : Named) → f name ≡ g name) → (mentioned : List Named) → first_strange f mentioned ≡ first_strange g mentioned
strange-alike f g same [] = refl
strange-alike f g same (name ∷ more) =
    ap (λ (b : Bool). if not b then Some name else first_strange f more) (same name)
    ∙ ap (λ (o : Option Named). if not (g name) then Some name else o) (strange-alike f g same more)

-- who knows the same names tells the same
pub unknown-alike : (f g : Named → Bool) → ((name : Named) → f name ≡ g name) → (lines : List Line) → first_unknown f lines ≡ first_unknown g lines
unknown-alike f g same [] = refl
unknown-alike f g same (line ∷ lines) =
    ap (λ (o : Option Named). option_or (told_at line o) (first_unknown f lines)) (strange-alike f g same (mentions_in line))
    ∙ ap (option_or (told_at line (first_strange g (mentions_in line)))) (unknown-alike f g same lines)
