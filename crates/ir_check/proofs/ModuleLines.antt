-- Where lines stand among those of a module, and what a rule without a fault says of each.
use Rattle.std.proofs.Common.{ℕ, zero, suc, ◌≡◌, ◌∙◌, ◌+◌, Bool, true, not, List, [], ◌∷◌, ◌++◌, map, find, slice_get, Option, Some, None, refl, ap, subst, arith}
use Rattle.std.specs.Option.{option_map, option_or}
use Rattle.ir_core.specs.declared.instruction.Inst.{Inst}
use Rattle.ir_core.specs.declared.instruction.Block.{Block}
use Rattle.ir_core.specs.Module.{ModuleParts, FuncParts}
use Rattle.ir_lines.specs.Lines.{Line, TypeLine, GlobalLine, DeclareLine, HeadLine, InstLine, site_of, inst_lines, block_lines, blocks_lines, func_lines, funcs_lines, code_lines, lines_of, first_break}
use Rattle.ir_check.specs.declared.fault.Kind.{Kind}
use Rattle.ir_check.specs.Faults.{rule_fault}
use Rattle.ir_check.proofs.Members.{IsIn, next-in, in-front, in-back, passed-not, none-found}

-- ---- rules

pub neither : {A : Type 0} (x y : Option A) → option_or x y ≡ None → (x ≡ None) × (y ≡ None)
neither None y e = (refl, e)
neither (Some a) y e = cc

pub no-image : {A B : Type 0} (f : A → B) (o : Option A) → option_map f o ≡ None → o ≡ None
no-image f None e = refl
no-image f (Some a) e = cc

-- a rule whose first break is none is kept by each line
pub kept : (m : ModuleParts) (kind : Kind) (keeps : Line → Bool) (line : Line) → rule_fault m kind keeps ≡ None → IsIn line (lines_of m)
    → keeps line ≡ true
kept m kind keeps line none here =
    let nothing : find (λ line. not (keeps line)) (lines_of m) ≡ None = no-image site_of _ (no-image _ (first_break keeps (lines_of m)) none) in
    passed-not (keeps line) (none-found (λ line. not (keeps line)) line (lines_of m) nothing here)

-- ---- lines

pub in-inst : (n : ℕ) (f : FuncParts) (b start i place : ℕ) (inst : Inst) (body : List Inst) → slice_get body i ≡ Some inst → place ≡ start + i
    → IsIn (InstLine n f b place inst) (inst_lines n f b start body)
in-inst n f b start i place inst [] at e = absurd cc
in-inst n f b start zero place inst (x ∷ body) at e =
    let same : x ≡ inst = cc in
    let number : start ≡ place = omega arith in
    (0, ap (λ (y : Inst). Some (InstLine n f b start y)) same ∙ ap (λ (k : ℕ). Some (InstLine n f b k inst)) number)
in-inst n f b start (suc i) place inst (x ∷ body) at e =
    next-in (InstLine n f b place inst) (InstLine n f b start x) (inst_lines n f b (start + 1) body) (in-inst n f b (start + 1) i place inst body at (omega arith))

in-blocks : (n : ℕ) (f : FuncParts) (start b place : ℕ) (block : Block) (blocks : List Block) (line : Line) → slice_get blocks b ≡ Some block
    → place ≡ start + b → IsIn line (block_lines n f place block) → IsIn line (blocks_lines n f start blocks)
in-blocks n f start b place block [] line at e h = absurd cc
in-blocks n f start zero place block (x ∷ blocks) line at e h =
    let same : block ≡ x = cc in
    let number : place ≡ start = omega arith in
    let first : IsIn line (block_lines n f start x) = subst (λ (k : ℕ). IsIn line (block_lines n f k x)) number (subst (λ (y : Block). IsIn line (block_lines n f place y)) same h) in
    in-front line (block_lines n f start x) (blocks_lines n f (start + 1) blocks) first
in-blocks n f start (suc b) place block (x ∷ blocks) line at e h =
    in-back line (block_lines n f start x) (blocks_lines n f (start + 1) blocks) (in-blocks n f (start + 1) b place block blocks line at (omega arith) h)

pub in-funcs : (start n place : ℕ) (f : FuncParts) (funcs : List FuncParts) (line : Line) → slice_get funcs n ≡ Some f → place ≡ start + n
    → IsIn line (func_lines place f) → IsIn line (funcs_lines start funcs)
in-funcs start n place f [] line at e h = absurd cc
in-funcs start zero place f (x ∷ funcs) line at e h =
    let same : f ≡ x = cc in
    let number : place ≡ start = omega arith in
    let first : IsIn line (func_lines start x) = subst (λ (k : ℕ). IsIn line (func_lines k x)) number (subst (λ (y : FuncParts). IsIn line (func_lines place y)) same h) in
    in-front line (func_lines start x) (funcs_lines (start + 1) funcs) first
in-funcs start (suc n) place f (x ∷ funcs) line at e h =
    in-back line (func_lines start x) (funcs_lines (start + 1) funcs) (in-funcs (start + 1) n place f funcs line at (omega arith) h)

pub in-func : (m : ModuleParts) (n : ℕ) (f : FuncParts) (line : Line) → slice_get m.funcs n ≡ Some f → IsIn line (func_lines n f) → IsIn line (code_lines m)
in-func m n f line at h =
    let start : n ≡ 0 + n = omega arith in
    in-back line (map DeclareLine m.declares) (funcs_lines 0 m.funcs) (in-funcs 0 n n f m.funcs line at start h)

pub in-block : (m : ModuleParts) (n b : ℕ) (f : FuncParts) (block : Block) (line : Line) → slice_get m.funcs n ≡ Some f → slice_get f.blocks b ≡ Some block
    → IsIn line (block_lines n f b block) → IsIn line (code_lines m)
in-block m n b f block line at there h =
    let start : b ≡ 0 + b = omega arith in
    in-func m n f line at (next-in line (HeadLine n f) (blocks_lines n f 0 f.blocks) (in-blocks n f 0 b b block f.blocks line there start h))

pub of-code : (m : ModuleParts) (line : Line) → IsIn line (code_lines m) → IsIn line (lines_of m)
of-code m line h = in-back line (map TypeLine m.types ++ map GlobalLine m.globals) (code_lines m) h
