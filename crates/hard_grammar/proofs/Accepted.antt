-- What is known of each function of an accepted module: its parameters are few, and its parameters and instructions fit by their types;
-- and that no function that it may call gives a result with parts.
use Rattle.std.proofs.Common.{ℕ, zero, suc, ◌≡◌, ◌+◌, ◌≤◌, nat_lt, Bool, true, false, not, List, [], ◌∷◌, ◌++◌, length, map, find, Option, Some, None, slice_get, refl, ap, ◌∙◌, subst, arith}
use Rattle.std.specs.Prelude.{if◌then◌else◌}
use Rattle.std.specs.List.{AllByRecursion, list_all}
use Rattle.std.specs.Option.{option_map, option_or}
use Rattle.std.proofs.lemmas.Bool.Decides.{nat_tests}
use Rattle.ir_core.proofs.Lengths.{both_true}
use Rattle.ir_core.specs.declared.types.TypeId.{TypeId}
use Rattle.ir_core.specs.declared.types.Ty.{Ty}
use Rattle.ir_core.specs.declared.types.Sym.{Sym}
use Rattle.ir_core.specs.declared.types.Loc.{Loc}
use Rattle.ir_core.specs.declared.values.GlobalVar.{GlobalVar}
use Rattle.ir_core.specs.declared.values.Declare.{Declare}
use Rattle.ir_core.specs.declared.instruction.Inst.{Inst}
use Rattle.ir_core.specs.declared.instruction.Block.{Block}
use Rattle.ir_core.specs.Module.{ModuleParts, FuncParts}
use Rattle.ir_layout.specs.declared.limits.LimitKind.{LimitKind}
use Rattle.ir_layout.specs.declared.limits.LimitKind.TheVariants.{Params, Registers}
use Rattle.ir_layout.specs.Limits.{limit_among, first_limit}
use Rattle.ir_layout.specs.WrittenTypes.{types_in_head}
use Rattle.ir_lines.specs.Lines.{Line, TypeLine, GlobalLine, DeclareLine, HeadLine, BlockLine, InstLine, site_of, inst_lines, block_lines, blocks_lines, func_lines, funcs_lines, code_lines, lines_of, first_break, told_at, first_told}
use Rattle.ir_types.specs.Meanings.{meanings}
use Rattle.ir_types.specs.Types.{inst_fits, has_no_parts, types_keep}
use Rattle.ir_calls.specs.Calls.{Standing, Variable, Declared, Defined, of_global, of_declare, of_func, standings, calls_keep, inst_keeps}
use Rattle.ir_check.specs.declared.fault.Kind.{Kind}
use Rattle.ir_check.specs.declared.fault.Kind.TheVariants.{BadTerminator, BadCall, TypeMismatch}
use Rattle.ir_check.specs.CodeLimits.{over, limit_in, broken_limit}
use Rattle.ir_check.specs.Blocks.{terminators_keep}
use Rattle.ir_check.specs.Faults.{IsAccepted, rule_fault, duplicate_fault, unknown_fault, limit_fault, shape_fault, code_fault}
use Rattle.hard_grammar.proofs.Ordinary.{all_append}

neither : {A : Type 0} (x y : Option A) → option_or x y ≡ None → (x ≡ None) × (y ≡ None)
neither None y e = (refl, e)
neither (Some a) y e = cc

no_image : {A B : Type 0} (f : A → B) (o : Option A) → option_map f o ≡ None → o ≡ None
no_image f None e = refl
no_image f (Some a) e = cc

-- ---- limits

told_split : {A : Type 0} (told : Line → Option A) (xs ys : List Line) → first_told told (xs ++ ys) ≡ None → (first_told told xs ≡ None) × (first_told told ys ≡ None)
told_split told [] ys e = (refl, e)
told_split told (x ∷ xs) ys e =
    let here = neither (told_at x (told x)) (first_told told (xs ++ ys)) e in
    let rest = told_split told xs ys here.1 in
    (ap (λ o. option_or o (first_told told xs)) here.0 ∙ rest.0, rest.1)

within_most : (most count : ℕ) (kind : LimitKind) → over most count kind ≡ None → count ≤ most
within_most most count kind e = by (nat_lt most count) refl e
  where
    by : (t : Bool) → nat_lt most count ≡ t → (if t then Some kind else None) ≡ None → count ≤ most
    by true h e = absurd cc
    by false h e = grind (arith, nat_tests)

few_in : (types : List (TypeId × Ty)) (start : ℕ) (funcs : List FuncParts) (n : ℕ) (f : FuncParts) → first_told (limit_in types) (funcs_lines start funcs) ≡ None → slice_get funcs n ≡ Some f → length f.params ≤ 32
few_in types start [] n f e at = absurd cc
few_in types start (g ∷ funcs) zero f e at =
    let same : g ≡ f = cc in
    let mine = (told_split (limit_in types) (func_lines start g) (funcs_lines (start + 1) funcs) e).0 in
    let head = no_image _ (limit_in types (HeadLine start g)) (neither (told_at (HeadLine start g) (limit_in types (HeadLine start g))) (first_told (limit_in types) (blocks_lines start g 0 g.blocks)) mine).0 in
    let counts = (neither (limit_among types (types_in_head g)) (option_or (over 32 (length g.params) Params) (over 65536 (length g.names) Registers)) head).1 in
    let h = within_most 32 (length g.params) Params (neither (over 32 (length g.params) Params) (over 65536 (length g.names) Registers) counts).0 in
    subst (λ (x : FuncParts). length x.params ≤ 32) same h
few_in types start (g ∷ funcs) (suc n) f e at = few_in types (start + 1) funcs n f (told_split (limit_in types) (func_lines start g) (funcs_lines (start + 1) funcs) e).1 at

-- ---- rules

kept_split : (p : Line → Bool) (xs ys : List Line) → find p (xs ++ ys) ≡ None → (find p xs ≡ None) × (find p ys ≡ None)
kept_split p [] ys e = (refl, e)
kept_split p (x ∷ xs) ys e = by (p x) refl (kept_split p xs ys)
  where
    by : (t : Bool) → p x ≡ t → (find p (xs ++ ys) ≡ None → (find p xs ≡ None) × (find p ys ≡ None)) → (find p (x ∷ xs) ≡ None) × (find p ys ≡ None)
    by true h rest = absurd (let clash : Some x ≡ None = rw h at e in cc)
    by false h rest = let r = rest (rw h at e) in (rw h r.0, r.1)

kept_first : (keeps : Line → Bool) (x : Line) (xs : List Line) → find (λ line. not (keeps line)) (x ∷ xs) ≡ None → (keeps x ≡ true) × (find (λ line. not (keeps line)) xs ≡ None)
kept_first keeps x xs e = by (keeps x) refl
  where
    by : (t : Bool) → keeps x ≡ t → (keeps x ≡ true) × (find (λ line. not (keeps line)) xs ≡ None)
    by true h = (h, rw h at e)
    by false h = absurd (let clash : Some x ≡ None = rw h at e in cc)

module _ (keeps : Line → Bool) (f : FuncParts) (n : ℕ) (P : Inst → Type 0) (says : (b i : ℕ) (inst : Inst) → keeps (InstLine n f b i inst) ≡ true → P inst) where
  abbrev breaks : Line → Bool
  breaks line = not (keeps line)

  insts_keep : (b i : ℕ) (body : List Inst) → find breaks (inst_lines n f b i body) ≡ None → AllByRecursion P body
  insts_keep b i [] e = tt
  insts_keep b i (inst ∷ body) e = let h = kept_first keeps (InstLine n f b i inst) (inst_lines n f b (i + 1) body) e in (says b i inst h.0, insts_keep b (i + 1) body h.1)

  all_blocks_keep : (b : ℕ) (blocks : List Block) → find breaks (blocks_lines n f b blocks) ≡ None → AllByRecursion (λ (block : Block). AllByRecursion P block.insts) blocks
  all_blocks_keep b [] e = tt
  all_blocks_keep b (block ∷ blocks) e =
      let h = kept_split breaks (block_lines n f b block) (blocks_lines n f (b + 1) blocks) e in
      (insts_keep b 0 block.insts (kept_first keeps (BlockLine n f b block) (inst_lines n f b 0 block.insts) h.0).1, all_blocks_keep (b + 1) blocks h.1)

-- the lines of one function keep a rule
func_keeps : (keeps : Line → Bool) (start : ℕ) (funcs : List FuncParts) (n : ℕ) (f : FuncParts) → find (λ line. not (keeps line)) (funcs_lines start funcs) ≡ None → slice_get funcs n ≡ Some f
    → (place : ℕ) × (find (λ line. not (keeps line)) (func_lines place f) ≡ None)
func_keeps keeps start [] n f e at = absurd cc
func_keeps keeps start (g ∷ funcs) zero f e at =
    let same : g ≡ f = cc in
    (start, subst (λ (x : FuncParts). find (λ line. not (keeps line)) (func_lines start x) ≡ None) same (kept_split (λ line. not (keeps line)) (func_lines start g) (funcs_lines (start + 1) funcs) e).0)
func_keeps keeps start (g ∷ funcs) (suc n) f e at = func_keeps keeps (start + 1) funcs n f (kept_split (λ line. not (keeps line)) (func_lines start g) (funcs_lines (start + 1) funcs) e).1 at

-- ---- callees

-- a function's result has no parts
abbrev pub IsPlain : Standing → Type 0
IsPlain Variable = Unit {0}
IsPlain (Declared signature) = has_no_parts signature.result ≡ true
IsPlain (Defined signature) = has_no_parts signature.result ≡ true

abbrev pub IsPlainStanding : Sym × Standing → Type 0
IsPlainStanding named = IsPlain named.1

-- ---- functions of an accepted module

pub record FuncFits (m : ModuleParts) (f : FuncParts) : Type 0 where
  pub few : length f.params ≤ 32
  pub params : list_all has_no_parts (map (λ (param : Ty × Loc). param.0) f.params) ≡ true
  pub fits : AllByRecursion (λ (block : Block). AllByRecursion (λ (inst : Inst). inst_fits m.types (meanings f) f.ret inst ≡ true) block.insts) f.blocks
  pub calls : AllByRecursion (λ (block : Block). AllByRecursion (λ (inst : Inst). inst_keeps m inst ≡ true) block.insts) f.blocks

module _ (m : ModuleParts) (accepted : IsAccepted m) where
  limits_and_code : (broken_limit m ≡ None) × (code_fault m ≡ None)
  limits_and_code =
      let named = neither (duplicate_fault m) (option_or (unknown_fault m) (option_or (limit_fault m) (code_fault m))) accepted.lines in
      let known = neither (unknown_fault m) (option_or (limit_fault m) (code_fault m)) named.1 in
      let both = neither (limit_fault m) (code_fault m) known.1 in
      (no_image _ (broken_limit m) both.0, both.1)

  rules : (rule_fault m BadCall (calls_keep m) ≡ None) × (rule_fault m TypeMismatch (types_keep m) ≡ None)
  rules =
      let first = neither (rule_fault m BadTerminator terminators_keep) (option_or (rule_fault m BadCall (calls_keep m)) (option_or (rule_fault m TypeMismatch (types_keep m)) (shape_fault m))) limits_and_code.1 in
      let second = neither (rule_fault m BadCall (calls_keep m)) (option_or (rule_fault m TypeMismatch (types_keep m)) (shape_fault m)) first.1 in
      (second.0, (neither (rule_fault m TypeMismatch (types_keep m)) (shape_fault m) second.1).0)

  in_code : (kind : Kind) (keeps : Line → Bool) → rule_fault m kind keeps ≡ None
      → (find (λ line. not (keeps line)) (map DeclareLine m.declares) ≡ None) × (find (λ line. not (keeps line)) (funcs_lines 0 m.funcs) ≡ None)
  in_code kind keeps e =
      let p : Line → Bool = λ line. not (keeps line) in
      let none : find p (lines_of m) ≡ None = no_image site_of (find p (lines_of m)) (no_image _ (first_break keeps (lines_of m)) e) in
      let code = (kept_split p (map TypeLine m.types ++ map GlobalLine m.globals) (code_lines m) none).1 in
      kept_split p (map DeclareLine m.declares) (funcs_lines 0 m.funcs) code

  pub func_fits : (n : ℕ) (f : FuncParts) → slice_get m.funcs n ≡ Some f → FuncFits m f
  func_fits n f at =
      let told = (told_split (limit_in m.types) (map DeclareLine m.declares) (funcs_lines 0 m.funcs) (no_image _ (first_told (limit_in m.types) (code_lines m)) (neither (first_limit m) _ limits_and_code.0).1)).1 in
      let typed = func_keeps (types_keep m) 0 m.funcs n f (in_code TypeMismatch (types_keep m) rules.1).1 at in
      let called = func_keeps (calls_keep m) 0 m.funcs n f (in_code BadCall (calls_keep m) rules.0).1 at in
      let head = kept_first (types_keep m) (HeadLine typed.0 f) (blocks_lines typed.0 f 0 f.blocks) typed.1 in
      let calling = kept_first (calls_keep m) (HeadLine called.0 f) (blocks_lines called.0 f 0 f.blocks) called.1 in
      record {
        few = few_in m.types 0 m.funcs n f told at;
        params = (both_true (has_no_parts f.ret) (list_all has_no_parts (map (λ (param : Ty × Loc). param.0) f.params)) head.0).1;
        fits = all_blocks_keep (types_keep m) f typed.0 (λ (inst : Inst). inst_fits m.types (meanings f) f.ret inst ≡ true) (λ b i inst e. e) 0 f.blocks head.1;
        calls = all_blocks_keep (calls_keep m) f called.0 (λ (inst : Inst). inst_keeps m inst ≡ true) (λ b i inst e. e) 0 f.blocks calling.1;
      }

  -- ---- what may be called

  declares_plain : (declares : List Declare) → find (λ line. not (types_keep m line)) (map DeclareLine declares) ≡ None
      → AllByRecursion IsPlainStanding (map of_declare declares)
  declares_plain [] e = tt
  declares_plain (declare ∷ declares) e =
      let h = kept_first (types_keep m) (DeclareLine declare) (map DeclareLine declares) e in
      ((both_true (has_no_parts declare.ret) (list_all has_no_parts declare.params) h.0).0, declares_plain declares h.1)

  funcs_plain : (n : ℕ) (funcs : List FuncParts) → find (λ line. not (types_keep m line)) (funcs_lines n funcs) ≡ None
      → AllByRecursion IsPlainStanding (map of_func funcs)
  funcs_plain n [] e = tt
  funcs_plain n (f ∷ funcs) e =
      let h = kept_split (λ line. not (types_keep m line)) (func_lines n f) (funcs_lines (n + 1) funcs) e in
      let head = kept_first (types_keep m) (HeadLine n f) (blocks_lines n f 0 f.blocks) h.0 in
      ((both_true (has_no_parts f.ret) (list_all has_no_parts (map (λ (param : Ty × Loc). param.0) f.params)) head.0).0, funcs_plain (n + 1) funcs h.1)

  globals_plain : (globals : List GlobalVar) → AllByRecursion IsPlainStanding (map of_global globals)
  globals_plain [] = tt
  globals_plain (global ∷ globals) = (tt, globals_plain globals)

  pub callees_plain : AllByRecursion IsPlainStanding (standings m)
  callees_plain =
      let typed = in_code TypeMismatch (types_keep m) rules.1 in
      let outer = all_append IsPlainStanding (map of_global m.globals) (map of_declare m.declares) (globals_plain m.globals) (declares_plain m.declares typed.0) in
      all_append IsPlainStanding (map of_global m.globals ++ map of_declare m.declares) (map of_func m.funcs) outer (funcs_plain 0 m.funcs typed.1)
