-- What is told of lines one behind another.
use Rattle.std.proofs.Common.{◌≡◌, ◌∙◌, ap, refl, ℕ, ◌+◌, ◌<◌, List, [], ◌∷◌, ◌++◌, drop, length, get_or, Option, Some, None}
use Rattle.std.specs.Option.{option_or}
use Rattle.ir_core.specs.Module.{FuncParts}
use Rattle.ir_core.specs.declared.instruction.Block.{Block}
use Rattle.ir_lines.specs.Lines.{Line, block_lines, blocks_lines, func_lines, funcs_lines, told_at, first_told}
use Rattle.ir_lines.proofs.Breaks.{drop_at}

assoc : {A : Type 0} (x y z : Option A) → option_or x (option_or y z) ≡ option_or (option_or x y) z
assoc None y z = refl
assoc (Some a) y z = refl

pub first_told_append : {A : Type 0} (told : Line → Option A) (xs ys : List Line) → first_told told (xs ++ ys) ≡ option_or (first_told told xs) (first_told told ys)
first_told_append told [] ys = refl
first_told_append told (x ∷ xs) ys = ap (option_or (told_at x (told x))) (first_told_append told xs ys) ∙ assoc (told_at x (told x)) (first_told told xs) (first_told told ys)

-- of one block or one function and those behind it
pub told-block : {A : Type 0} (told : Line → Option A) (n : ℕ) (f : FuncParts) (b : ℕ) (blocks : List Block) (block : Block) → b < length blocks → block ≡ get_or blocks b block → first_told told (blocks_lines n f b (drop b blocks)) ≡ option_or (first_told told (block_lines n f b block)) (first_told told (blocks_lines n f (b + 1) (drop (b + 1) blocks)))
told-block told n f b blocks block inside at =
    ap (λ (rest : List Block). first_told told (blocks_lines n f b rest)) (drop_at blocks b block inside at) ∙ first_told_append told (block_lines n f b block) (blocks_lines n f (b + 1) (drop (b + 1) blocks))

pub told-func : {A : Type 0} (told : Line → Option A) (n : ℕ) (funcs : List FuncParts) (f : FuncParts) → n < length funcs → f ≡ get_or funcs n f → first_told told (funcs_lines n (drop n funcs)) ≡ option_or (first_told told (func_lines n f)) (first_told told (funcs_lines (n + 1) (drop (n + 1) funcs)))
told-func told n funcs f inside at =
    ap (λ (rest : List FuncParts). first_told told (funcs_lines n rest)) (drop_at funcs n f inside at) ∙ first_told_append told (func_lines n f) (funcs_lines (n + 1) (drop (n + 1) funcs))
