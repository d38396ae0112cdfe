-- What holds of the lines of an accepted module.
use Rattle.std.proofs.Common.{ℕ, zero, suc, ◌≡◌, ◌∙◌, ◌+◌, Bool, true, false, ◌||◌, List, [], ◌∷◌, ◌++◌, map, slice_get, Some, None, refl, ap, sym, subst, arith, append_assoc, append-nil}
use Rattle.std.specs.Prelude.{nat_eq, if◌then◌else◌}
use Rattle.std.specs.List.{list_any}
use Rattle.std.specs.Option.{option_or}
use Rattle.std.proofs.lemmas.Grind.{flat_map-append}
use Rattle.std.proofs.lemmas.List.Folds.{list_any-append}
use Rattle.std.proofs.lemmas.Bool.{eq-eqb}
use Rattle.ir_core.proofs.Lengths.{both_true}
use Rattle.ir_core.specs.declared.values.Declare.{Declare}
use Rattle.ir_core.specs.declared.instruction.Inst.{Inst}
use Rattle.ir_core.specs.declared.instruction.Block.{Block}
use Rattle.ir_core.specs.Module.{ModuleParts, FuncParts}
use Rattle.ir_lines.specs.declared.site.Site.{Site}
use Rattle.ir_lines.specs.declared.site.Site.TheVariants.{Module}
use Rattle.ir_lines.specs.declared.site.Site.TheVariants as sites
use Rattle.ir_lines.specs.declared.site.Named.{Named}
use Rattle.ir_lines.specs.declared.site.Named.TheVariants as names
use Rattle.ir_lines.specs.Lines.{TypeLine, GlobalLine, DeclareLine, HeadLine, BlockLine, InstLine, site_of, inst_lines, funcs_lines, code_lines, lines_of}
use Rattle.ir_names.specs.Names.{same_name, definitions_in, definitions_of, definitions, first_again, duplicate}
use Rattle.ir_calls.specs.Calls.{calls_keep, inst_keeps}
use Rattle.ir_types.specs.Types.{types_keep}
use Rattle.ir_check.specs.declared.fault.Kind.TheVariants.{BadTerminator, BadCall, TypeMismatch, NoMain, EntryHasPredecessor}
use Rattle.ir_check.specs.Blocks.{ends_well, begins_well, terminators_keep, entries_keep}
use Rattle.ir_check.specs.Functions.{has_main}
use Rattle.ir_check.specs.Faults.{Fault, IsAccepted, fault_at, rule_fault, duplicate_fault, unknown_fault, limit_fault, main_fault, shape_fault, code_fault}
use Rattle.ir_check.proofs.Members.{IsIn, next-in, in-back, in-map, in-flat, any-in}
use Rattle.ir_check.proofs.ModuleLines.{neither, no-image, kept, in-inst, in-funcs, in-block, of-code}

-- ---- rules

code-keeps : (m : ModuleParts) → IsAccepted m → code_fault m ≡ None
code-keeps m accepted =
    let named = neither (duplicate_fault m) (option_or (unknown_fault m) (option_or (limit_fault m) (code_fault m))) accepted.lines in
    let known = neither (unknown_fault m) (option_or (limit_fault m) (code_fault m)) named.1 in
    (neither (limit_fault m) (code_fault m) known.1).1

-- ---- what is known of blocks, of instructions and of main

pub block-ends : (m : ModuleParts) (n b : ℕ) (f : FuncParts) (block : Block) → IsAccepted m → slice_get m.funcs n ≡ Some f
    → slice_get f.blocks b ≡ Some block → ends_well block.insts ≡ true
block-ends m n b f block accepted at there =
    let first = neither (rule_fault m BadTerminator terminators_keep) (option_or (rule_fault m BadCall (calls_keep m)) (option_or (rule_fault m TypeMismatch (types_keep m)) (shape_fault m))) (code-keeps m accepted) in
    let here = of-code m (BlockLine n f b block) (in-block m n b f block (BlockLine n f b block) at there (0, refl)) in
    (both_true (ends_well block.insts) (begins_well block.insts) (kept m BadTerminator terminators_keep (BlockLine n f b block) first.0 here)).0

pub inst-calls : (m : ModuleParts) (n b i : ℕ) (f : FuncParts) (block : Block) (inst : Inst) → IsAccepted m → slice_get m.funcs n ≡ Some f
    → slice_get f.blocks b ≡ Some block → slice_get block.insts i ≡ Some inst → inst_keeps m inst ≡ true
inst-calls m n b i f block inst accepted at there stands =
    let first = neither (rule_fault m BadTerminator terminators_keep) (option_or (rule_fault m BadCall (calls_keep m)) (option_or (rule_fault m TypeMismatch (types_keep m)) (shape_fault m))) (code-keeps m accepted) in
    let second = neither (rule_fault m BadCall (calls_keep m)) (option_or (rule_fault m TypeMismatch (types_keep m)) (shape_fault m)) first.1 in
    let line = InstLine n f b i inst in
    let start : i ≡ 0 + i = omega arith in
    let here = of-code m line (in-block m n b f block line at there (next-in line (BlockLine n f b block) (inst_lines n f b 0 block.insts) (in-inst n f b 0 i i inst block.insts stands start))) in
    kept m BadCall (calls_keep m) line second.0 here

pub main-there : (m : ModuleParts) → IsAccepted m → has_main m ≡ true
main-there m accepted =
    let first = neither (rule_fault m BadTerminator terminators_keep) (option_or (rule_fault m BadCall (calls_keep m)) (option_or (rule_fault m TypeMismatch (types_keep m)) (shape_fault m))) (code-keeps m accepted) in
    let second = neither (rule_fault m BadCall (calls_keep m)) (option_or (rule_fault m TypeMismatch (types_keep m)) (shape_fault m)) first.1 in
    let third = neither (rule_fault m TypeMismatch (types_keep m)) (shape_fault m) second.1 in
    by_test (has_main m) (fault_at m NoMain Module) (neither (main_fault m) (rule_fault m EntryHasPredecessor entries_keep) third.1).0
  where
    by_test : (b : Bool) (fault : Fault) → (if b then None else Some fault) ≡ None → b ≡ true
    by_test true fault e = refl
    by_test false fault e = cc

-- ---- no name is defined twice

-- a definition behind others isn't of a name that was defined before them
fresh : (before : List Named) (defs : List (Site × Named)) (d : Site × Named) → first_again before defs ≡ None → IsIn d defs
    → list_any (same_name d.1) before ≡ false
fresh before [] d e (k, at) = absurd cc
fresh before (x ∷ defs) d e (k, at) =
    by_test (list_any (same_name x.1) before) refl k at (λ rest j there. fresh (before ++ x.1 ∷ []) defs d rest (j, there))
  where
    first : (a b : Bool) → (a || b) ≡ false → a ≡ false
    first true b f = cc
    first false b f = refl

    by_test : (b : Bool) → list_any (same_name x.1) before ≡ b → (k : ℕ) → slice_get (x ∷ defs) k ≡ Some d
        → (first_again (before ++ x.1 ∷ []) defs ≡ None → (j : ℕ) → slice_get defs j ≡ Some d → list_any (same_name d.1) (before ++ x.1 ∷ []) ≡ false)
        → list_any (same_name d.1) before ≡ false
    by_test true f k at rest = absurd (let clash : Some x ≡ None = rw f at e in cc)
    by_test false f zero at rest = let same : x ≡ d = cc in rw (← same) f
    by_test false f (suc k) at rest =
        first (list_any (same_name d.1) before) (list_any (same_name d.1) (x.1 ∷ [])) (sym (list_any-append (same_name d.1) before (x.1 ∷ [])) ∙ rest (rw f at e) k at)

again-back : (before : List Named) (xs ys : List (Site × Named)) → first_again before (xs ++ ys) ≡ None
    → first_again (before ++ map (λ d. d.1) xs) ys ≡ None
again-back before [] ys e = subst (λ (names : List Named). first_again names ys ≡ None) (sym (append-nil before)) e
again-back before (x ∷ xs) ys e = by_test (list_any (same_name x.1) before) refl (again-back (before ++ x.1 ∷ []) xs ys)
  where
    by_test : (b : Bool) → list_any (same_name x.1) before ≡ b
        → (first_again (before ++ x.1 ∷ []) (xs ++ ys) ≡ None → first_again ((before ++ x.1 ∷ []) ++ map (λ (d : Site × Named). d.1) xs) ys ≡ None)
        → first_again (before ++ x.1 ∷ map (λ (d : Site × Named). d.1) xs) ys ≡ None
    by_test true f rest = absurd (let clash : Some x ≡ None = rw f at e in cc)
    by_test false f rest =
        subst (λ (names : List Named). first_again names ys ≡ None) (append_assoc before (x.1 ∷ []) (map (λ (d : Site × Named). d.1) xs)) (rest (rw f at e))

-- no function has the name of a declare
pub declare-apart : (m : ModuleParts) (n : ℕ) (f : FuncParts) (declare : Declare) → IsAccepted m → slice_get m.funcs n ≡ Some f
    → IsIn declare m.declares → nat_eq f.sym.0 declare.sym.0 ≡ false
declare-apart m n f declare accepted at here = by_test (nat_eq f.sym.0 declare.sym.0) refl
  where
    front : List (Site × Named)
    front = definitions_of (map TypeLine m.types ++ map GlobalLine m.globals)

    declared : List (Site × Named)
    declared = definitions_of (map DeclareLine m.declares)

    written : List (Site × Named)
    written = definitions_of (funcs_lines 0 m.funcs)

    before : List Named
    before = map (λ (d : Site × Named). d.1) front ++ map (λ (d : Site × Named). d.1) declared

    parts : definitions m ≡ front ++ (declared ++ written)
    parts =
        flat_map-append definitions_in (map TypeLine m.types ++ map GlobalLine m.globals) (code_lines m) ∙ ap (λ (ds : List (Site × Named)). front ++ ds) (flat_map-append definitions_in (map DeclareLine m.declares) (funcs_lines 0 m.funcs))

    alone : first_again before written ≡ None
    alone =
        let none : duplicate m ≡ None = no-image _ (duplicate m) (neither (duplicate_fault m) (option_or (unknown_fault m) (option_or (limit_fault m) (code_fault m))) accepted.lines).0 in
        again-back (map (λ (d : Site × Named). d.1) front) declared written (again-back [] front (declared ++ written) (subst (λ (ds : List (Site × Named)). first_again [] ds ≡ None) parts none))

    name : Site × Named
    name = (site_of (HeadLine n f), names.Sym f.sym)

    other : Site × Named
    other = (site_of (DeclareLine declare), names.Sym declare.sym)

    is-written : IsIn name written
    is-written =
        let start : n ≡ 0 + n = omega arith in
        in-flat definitions_in (HeadLine n f) name (funcs_lines 0 m.funcs) (in-funcs 0 n n f m.funcs (HeadLine n f) at start (0, refl)) (0, refl)

    is-declared : IsIn (names.Sym declare.sym) before
    is-declared =
        let there : IsIn other declared = in-flat definitions_in (DeclareLine declare) other (map DeclareLine m.declares) (in-map DeclareLine declare m.declares here) (0, refl) in
        in-back (names.Sym declare.sym) (map (λ (d : Site × Named). d.1) front) (map (λ (d : Site × Named). d.1) declared) (in-map (λ (d : Site × Named). d.1) other declared there)

    by_test : (b : Bool) → nat_eq f.sym.0 declare.sym.0 ≡ b → nat_eq f.sym.0 declare.sym.0 ≡ false
    by_test false e = e
    by_test true e =
        let clash : true ≡ false = sym (any-in (same_name (names.Sym f.sym)) (names.Sym declare.sym) before is-declared e) ∙ fresh before written name alone is-written in
        cc

-- of two definitions with one name both are the same one
apart : (before : List Named) (defs : List (Site × Named)) (x y : Site × Named) (i j : ℕ) → first_again before defs ≡ None → slice_get defs i ≡ Some x
    → slice_get defs j ≡ Some y → same_name x.1 y.1 ≡ true → same_name y.1 x.1 ≡ true → x ≡ y
apart before [] x y i j e at there f g = absurd cc
apart before (d ∷ defs) x y i j e at there f g = by_test (list_any (same_name d.1) before) refl i j at there (apart (before ++ d.1 ∷ []) defs x y)
  where
    later : (z : Site × Named) → IsIn z defs → first_again (before ++ d.1 ∷ []) defs ≡ None → same_name z.1 d.1 ≡ true → ⊥
    later z h rest same =
        let clash : true ≡ false = sym (any-in (same_name z.1) d.1 (before ++ d.1 ∷ []) (in-back d.1 before (d.1 ∷ []) (0, refl)) same) ∙ fresh (before ++ d.1 ∷ []) defs z rest h in cc

    by_test : (b : Bool) → list_any (same_name d.1) before ≡ b → (i j : ℕ) → slice_get (d ∷ defs) i ≡ Some x → slice_get (d ∷ defs) j ≡ Some y
        → ((k l : ℕ) → first_again (before ++ d.1 ∷ []) defs ≡ None → slice_get defs k ≡ Some x → slice_get defs l ≡ Some y → same_name x.1 y.1 ≡ true
        → same_name y.1 x.1 ≡ true → x ≡ y)
        → x ≡ y
    by_test true h i j at there rest = absurd (let clash : Some d ≡ None = rw h at e in cc)
    by_test false h zero zero at there rest = let one : d ≡ x = cc in let two : d ≡ y = cc in sym one ∙ two
    by_test false h zero (suc l) at there rest =
        let one : d ≡ x = cc in absurd (later y (l, there) (rw h at e) (ap (λ (z : Site × Named). same_name y.1 z.1) one ∙ g))
    by_test false h (suc k) zero at there rest =
        let one : d ≡ y = cc in absurd (later x (k, at) (rw h at e) (ap (λ (z : Site × Named). same_name x.1 z.1) one ∙ f))
    by_test false h (suc k) (suc l) at there rest = rest k l (rw h at e) at there f g

-- no two blocks of a function have one label
pub labels-apart : (m : ModuleParts) (n a b : ℕ) (f : FuncParts) (x y : Block) → IsAccepted m → slice_get m.funcs n ≡ Some f → slice_get f.blocks a ≡ Some x
    → slice_get f.blocks b ≡ Some y → x.label.0 ≡ y.label.0 → a ≡ b
labels-apart m n a b f x y accepted at here there same =
    let one : Site × Named = (sites.Block n a, names.Loc n x.label) in
    let two : Site × Named = (sites.Block n b, names.Loc n y.label) in
    let none : duplicate m ≡ None = no-image _ (duplicate m) (neither (duplicate_fault m) (option_or (unknown_fault m) (option_or (limit_fault m) (code_fault m))) accepted.lines).0 in
    let first = line-defines a x here in
    let second = line-defines b y there in
    let is : one ≡ two = apart [] (definitions m) one two first.0 second.0 none first.1 second.1 (names-same x y same) (names-same y x (sym same)) in
    let places : sites.Block n a ≡ sites.Block n b = ap (λ (d : Site × Named). d.0) is in cc
  where
    names-same : (x y : Block) → x.label.0 ≡ y.label.0 → same_name (names.Loc n x.label) (names.Loc n y.label) ≡ true
    names-same x y e = rw (eq-eqb n n refl) (eq-eqb x.label.0 y.label.0 e)

    line-defines : (b : ℕ) (block : Block) → slice_get f.blocks b ≡ Some block → let d : Site × Named = (sites.Block n b, names.Loc n block.label) in IsIn d (definitions m)
    line-defines b block there =
        let line = of-code m (BlockLine n f b block) (in-block m n b f block (BlockLine n f b block) at there (0, refl)) in
        in-flat definitions_in (BlockLine n f b block) (sites.Block n b, names.Loc n block.label) (lines_of m) line (0, refl)
