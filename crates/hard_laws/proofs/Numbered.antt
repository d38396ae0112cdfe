-- Whether a hardened module fits doesn't depend on the numbers of its ticks.
use Rattle.std.proofs.Common.{ℕ, zero, suc, ◌≡◌, ◌∙◌, ◌+◌, Bool, true, false, ◌&&◌, not, List, [], ◌∷◌, ◌++◌, map, length, Option, Some, None, refl, ap, sym, subst}
use mathlib.Core.Path.{fun_ext}
use Rattle.std.specs.Prelude.{if◌then◌else◌, is_none}
use Rattle.std.specs.List.{flat_map, filter_map, list_all, list_any, cons_option, zip}
use Rattle.std.proofs.lemmas.List.{map-append, length-map}
use Rattle.std.proofs.lemmas.List.Folds.{list_all-map}
use Rattle.ir_core.specs.declared.types.Ty.{Ty}
use Rattle.ir_core.specs.declared.types.Ty.TheVariants as types
use Rattle.ir_core.specs.declared.types.Loc.{Loc}
use Rattle.ir_core.specs.declared.values.Val.{Val}
use Rattle.ir_core.specs.declared.values.Val.TheVariants as values
use Rattle.ir_core.specs.declared.values.Side.TheVariants.{S}
use Rattle.ir_core.specs.declared.instruction.Inst.TheVariants as insts
use Rattle.ir_core.specs.declared.values.Side.{Side}
use Rattle.ir_core.specs.declared.instruction.Inst.{Inst}
use Rattle.ir_core.specs.declared.instruction.Block.{Block}
use Rattle.ir_core.specs.Module.{ModuleParts, FuncParts}
use Rattle.ir_lines.specs.Lines.{Line, HeadLine, BlockLine, InstLine}
use Rattle.ir_calls.specs.Calls.{calls_keep, are_plain}
use Rattle.ir_types.specs.Firsts.{first_of}
use Rattle.ir_types.specs.Types.{inst_fits, operand_fits, is_register_of}
use Rattle.ir_check.specs.CodeLimits.{limit_in}
use Rattle.std.specs.Option.{option_map_or}
use Rattle.ir_types.specs.Meanings.{Meaning, Label, Register, Pair, param_meaning, result_of as meaning_of_result}
use Rattle.ir_check.specs.Blocks.{terminators_keep, entries_keep}
use Rattle.ir_check.specs.Flows.{OfAll, PhisFit}
use Rattle.hard_ir.specs.declared.instruction.HVal.{HVal}
use Rattle.hard_ir.specs.declared.instruction.HVal.TheVariants as operands
use Rattle.hard_ir.specs.declared.instruction.HInst.{HInst}
use Rattle.hard_ir.specs.declared.instruction.HInst.TheVariants.{Cut, Begin, End, Tick, Chk, ChkMem, Mov, Do}
use Rattle.hard_ir.specs.declared.instruction.HBlock.{HBlock}
use Rattle.hard_ir.specs.Image.{pair_of}
use Rattle.hard_ir.specs.Hardened.{HardParts}
use Rattle.hard_ir.specs.Fit.{HardFunc, hard_funcs, HardLine, OuterLine, HBlockLine, HPhiLine, HInstLine, phi_lines, inst_lines, block_lines, blocks_lines, funcs_lines, outer_lines, hard_lines, plain_inst, plain_block, plain_func, plain_line, SidedName, defined_by, hard_defined_in, named_line, hard_definitions, hard_again, hard_duplicate, is_known, same_sided, names_keep, limits_keep, hard_limit_in, hard_calls_keep, hard_meanings, meaning_in, meanings_in, has_type, meaning_fits, result_fits, is_pair_at, uses_fit, source_fits, same_side, operand_has_type, constants_in_line, hard_mentions_in, hard_types_keep, hard_inst_fits, forms_keep, AllKeep, Fits}
use Rattle.hard_laws.proofs.HardLines.{both}

-- a tick without its number
abbrev pub bare : HInst → HInst
bare (Tick work) = Tick 0
bare (Do side inst retires) = Do side inst retires
bare (Mov ty reg) = Mov ty reg
bare (Chk when ty reg) = Chk when ty reg
bare (ChkMem ty ptr val) = ChkMem ty ptr val
bare Cut = Cut
bare Begin = Begin
bare End = End

abbrev pub bare_block : HBlock → HBlock
bare_block block = record block { list = map bare block.list }

abbrev pub bare_module : HardParts → HardParts
bare_module h = record h { funcs = map (map bare_block) h.funcs }

abbrev bare_func : HardFunc → HardFunc
bare_func f = (f.0, map bare_block f.1)

abbrev bare_line : HardLine → HardLine
bare_line (OuterLine line) = OuterLine line
bare_line (HBlockLine n f b block) = HBlockLine n (bare_func f) b (bare_block block)
bare_line (HPhiLine n f b i phi) = HPhiLine n (bare_func f) b i phi
bare_line (HInstLine n f b i inst) = HInstLine n (bare_func f) b i (bare inst)

-- ---- lines

bare-insts : (n : ℕ) (f : HardFunc) (b i : ℕ) (list : List HInst) → inst_lines n (bare_func f) b i (map bare list) ≡ map bare_line (inst_lines n f b i list)
bare-insts n f b i [] = refl
bare-insts n f b i (item ∷ list) = ap (λ (rest : List HardLine). HInstLine n (bare_func f) b i (bare item) ∷ rest) (bare-insts n f b (i + 1) list)

bare-phis : (n : ℕ) (f : HardFunc) (b i : ℕ) (phis : List (Side × Inst)) → phi_lines n (bare_func f) b i phis ≡ map bare_line (phi_lines n f b i phis)
bare-phis n f b i [] = refl
bare-phis n f b i (phi ∷ phis) = ap (λ (rest : List HardLine). HPhiLine n (bare_func f) b i phi ∷ rest) (bare-phis n f b (i + 1) phis)

bare-lines : (n : ℕ) (f : HardFunc) (b : ℕ) (block : HBlock) → block_lines n (bare_func f) b (bare_block block) ≡ map bare_line (block_lines n f b block)
bare-lines n f b block =
    ap (λ (rest : List HardLine). HBlockLine n (bare_func f) b (bare_block block) ∷ rest)
    (ap (λ (xs : List HardLine). xs ++ inst_lines n (bare_func f) b (length block.phis) (map bare block.list)) (bare-phis n f b 0 block.phis)
    ∙ ap (λ (xs : List HardLine). map bare_line (phi_lines n f b 0 block.phis) ++ xs) (bare-insts n f b (length block.phis) block.list)
    ∙ sym (map-append bare_line (phi_lines n f b 0 block.phis) (inst_lines n f b (length block.phis) block.list)))

bare-blocks : (n : ℕ) (f : HardFunc) (b : ℕ) (blocks : List HBlock) → blocks_lines n (bare_func f) b (map bare_block blocks) ≡ map bare_line (blocks_lines n f b blocks)
bare-blocks n f b [] = refl
bare-blocks n f b (block ∷ blocks) =
    ap (λ (xs : List HardLine). xs ++ blocks_lines n (bare_func f) (b + 1) (map bare_block blocks)) (bare-lines n f b block)
    ∙ ap (λ (xs : List HardLine). map bare_line (block_lines n f b block) ++ xs) (bare-blocks n f (b + 1) blocks)
    ∙ sym (map-append bare_line (block_lines n f b block) (blocks_lines n f (b + 1) blocks))

bare-funcs : (n : ℕ) (funcs : List HardFunc) → funcs_lines n (map bare_func funcs) ≡ map bare_line (funcs_lines n funcs)
bare-funcs n [] = refl
bare-funcs n (f ∷ funcs) =
    ap (λ (rest : List HardLine). OuterLine (HeadLine n f.0) ∷ rest)
    (ap (λ (xs : List HardLine). xs ++ funcs_lines (n + 1) (map bare_func funcs)) (bare-blocks n f 0 f.1)
    ∙ ap (λ (xs : List HardLine). map bare_line (blocks_lines n f 0 f.1) ++ xs) (bare-funcs (n + 1) funcs)
    ∙ sym (map-append bare_line (blocks_lines n f 0 f.1) (funcs_lines (n + 1) funcs)))

bare-zip : (heads : List FuncParts) (funcs : List (List HBlock)) → zip heads (map (map bare_block) funcs) ≡ map bare_func (zip heads funcs)
bare-zip [] funcs = refl
bare-zip (head ∷ heads) [] = refl
bare-zip (head ∷ heads) (blocks ∷ funcs) = ap (λ (rest : List HardFunc). (head, map bare_block blocks) ∷ rest) (bare-zip heads funcs)

bare-outer : (lines : List Line) → map bare_line (map OuterLine lines) ≡ map OuterLine lines
bare-outer [] = refl
bare-outer (line ∷ lines) = ap (λ (rest : List HardLine). OuterLine line ∷ rest) (bare-outer lines)

module _ (h : HardParts) where
  bare-all : hard_lines (bare_module h) ≡ map bare_line (hard_lines h)
  bare-all =
      ap (λ (funcs : List HardFunc). map OuterLine (outer_lines h.heads) ++ funcs_lines 0 funcs) (bare-zip h.heads.funcs h.funcs)
      ∙ ap (λ (xs : List HardLine). map OuterLine (outer_lines h.heads) ++ xs) (bare-funcs 0 (hard_funcs h))
      ∙ ap (λ (xs : List HardLine). xs ++ map bare_line (funcs_lines 0 (hard_funcs h))) (sym (bare-outer (outer_lines h.heads)))
      ∙ sym (map-append bare_line (map OuterLine (outer_lines h.heads)) (funcs_lines 0 (hard_funcs h)))

-- ---- names

bare-defined : (line : HardLine) → hard_defined_in (bare_line line) ≡ hard_defined_in line
bare-defined (OuterLine line) = refl
bare-defined (HBlockLine n f b block) = refl
bare-defined (HPhiLine n f b i phi) = refl
bare-defined (HInstLine n f b i (Tick work)) = refl
bare-defined (HInstLine n f b i item) = refl

abbrev names_of : List HardLine → List SidedName
names_of lines = map (λ (d : HardLine × SidedName). d.1) (flat_map (λ line. map (named_line line) (hard_defined_in line)) lines)

names-each : (line : HardLine) (names : List SidedName) → map (λ (d : HardLine × SidedName). d.1) (map (named_line line) names) ≡ names
names-each line [] = refl
names-each line (name ∷ names) = ap (λ (rest : List SidedName). name ∷ rest) (names-each line names)

names-flat : (lines : List HardLine) → names_of lines ≡ flat_map hard_defined_in lines
names-flat [] = refl
names-flat (line ∷ lines) =
    map-append (λ (d : HardLine × SidedName). d.1) (map (named_line line) (hard_defined_in line)) (flat_map (λ line. map (named_line line) (hard_defined_in line)) lines)
    ∙ ap (λ (xs : List SidedName). xs ++ names_of lines) (names-each line (hard_defined_in line)) ∙ ap (λ (xs : List SidedName). hard_defined_in line ++ xs) (names-flat lines)

bare-flat : (lines : List HardLine) → flat_map hard_defined_in (map bare_line lines) ≡ flat_map hard_defined_in lines
bare-flat [] = refl
bare-flat (line ∷ lines) = ap (λ (xs : List SidedName). xs ++ flat_map hard_defined_in (map bare_line lines)) (bare-defined line) ∙ ap (λ (xs : List SidedName). hard_defined_in line ++ xs) (bare-flat lines)

-- what is defined again depends on names alone
again-same : (before : List SidedName) (xs ys : List (HardLine × SidedName)) → map (λ (d : HardLine × SidedName). d.1) xs ≡ map (λ (d : HardLine × SidedName). d.1) ys
    → hard_again before xs ≡ None → hard_again before ys ≡ None
again-same before [] [] e none = refl
again-same before [] (y ∷ ys) e none = let clash : [] ≡ y.1 ∷ map (λ (d : HardLine × SidedName). d.1) ys = e in cc
again-same before (x ∷ xs) [] e none = let clash : x.1 ∷ map (λ (d : HardLine × SidedName). d.1) xs ≡ [] = e in cc
again-same before (x ∷ xs) (y ∷ ys) e none =
    let whole : x.1 ∷ map (λ (d : HardLine × SidedName). d.1) xs ≡ y.1 ∷ map (λ (d : HardLine × SidedName). d.1) ys = e in
    let name : x.1 ≡ y.1 = cc in
    let rest : map (λ (d : HardLine × SidedName). d.1) xs ≡ map (λ (d : HardLine × SidedName). d.1) ys = cc in
    by_test (list_any (same_sided x.1) before) (list_any (same_sided y.1) before) (ap (λ (name : SidedName). list_any (same_sided name) before) name) none
    (λ none. again-same (before ++ y.1 ∷ []) xs ys rest (subst (λ (name : SidedName). hard_again (before ++ name ∷ []) xs ≡ None) name none))
  where
    by_test : (a b : Bool) → a ≡ b → (if a then Some x else hard_again (before ++ x.1 ∷ []) xs) ≡ None → (hard_again (before ++ x.1 ∷ []) xs ≡ None → hard_again (before ++ y.1 ∷ []) ys ≡ None)
        → (if b then Some y else hard_again (before ++ y.1 ∷ []) ys) ≡ None
    by_test true true e none more = cc
    by_test true false e none more = cc
    by_test false true e none more = cc
    by_test false false e none more = more none

module _ (h : HardParts) where
  bare-names : map (λ (d : HardLine × SidedName). d.1) (hard_definitions (bare_module h)) ≡ map (λ (d : HardLine × SidedName). d.1) (hard_definitions h)
  bare-names = names-flat (hard_lines (bare_module h)) ∙ ap (flat_map hard_defined_in) (bare-all h) ∙ bare-flat (hard_lines h) ∙ sym (names-flat (hard_lines h))

  known-same : (name : SidedName) → is_known (bare_module h) name ≡ is_known h name
  known-same name = ap (list_any (same_sided name)) bare-names

-- ---- as ordinary lines, and what names stand for

bare-plain : (list : List HInst) → map plain_inst (map bare list) ≡ map plain_inst list
bare-plain [] = refl
bare-plain (Tick work ∷ list) = ap (λ (rest : List Inst). plain_inst (Tick work) ∷ rest) (bare-plain list)
bare-plain (item ∷ list) = ap (λ (rest : List Inst). plain_inst item ∷ rest) (bare-plain list)

plain-blocks-same : (blocks : List HBlock) → map plain_block (map bare_block blocks) ≡ map plain_block blocks
plain-blocks-same [] = refl
plain-blocks-same (block ∷ blocks) =
    ap (λ (list : List Inst). let x : Block = record { label = block.label; insts = map (λ phi. phi.1) block.phis ++ list } in x ∷ map plain_block (map bare_block blocks)) (bare-plain block.list)
    ∙ ap (λ (rest : List Block). plain_block block ∷ rest) (plain-blocks-same blocks)

plain-func-same : (f : HardFunc) → plain_func (bare_func f) ≡ plain_func f
plain-func-same f = ap (λ (blocks : List Block). let x : FuncParts = record f.0 { blocks = blocks } in x) (plain-blocks-same f.1)

plain-block-same : (block : HBlock) → plain_block (bare_block block) ≡ plain_block block
plain-block-same block = ap (λ (list : List Inst). let x : Block = record { label = block.label; insts = map (λ phi. phi.1) block.phis ++ list } in x) (bare-plain block.list)

bare-means : (list : List HInst) → filter_map meaning_in (map bare list) ≡ filter_map meaning_in list
bare-means [] = refl
bare-means (Tick work ∷ list) = bare-means list
bare-means (item ∷ list) = ap (λ (rest : List (Loc × Meaning)). cons_option (meaning_in item) rest) (bare-means list)

blocks-means : (blocks : List HBlock) → flat_map meanings_in (map bare_block blocks) ≡ flat_map meanings_in blocks
blocks-means [] = refl
blocks-means (block ∷ blocks) = rw (bare-means block.list, blocks-means blocks) refl

meanings-same : (f : HardFunc) → hard_meanings (bare_func f) ≡ hard_meanings f
meanings-same f = ap (λ (xs : List (Loc × Meaning)). map param_meaning f.0.params ++ xs) (blocks-means f.1)

has-same : (f : HardFunc) (ty : Ty) (reg : Loc) → has_type (bare_func f) ty reg ≡ has_type f ty reg
has-same f ty reg = ap (λ (xs : List (Loc × Meaning)). is_register_of ty (first_of xs reg)) (meanings-same f)

-- ---- each rule

plain-same : (line : HardLine) → plain_line (bare_line line) ≡ plain_line line
plain-same (OuterLine line) = refl
plain-same (HBlockLine n f b block) = ap (λ (g : FuncParts). BlockLine n g b (plain_block (bare_block block))) (plain-func-same f) ∙ ap (BlockLine n (plain_func f) b) (plain-block-same block)
plain-same (HPhiLine n f b i phi) = ap (λ (g : FuncParts). InstLine n g b i phi.1) (plain-func-same f)
plain-same (HInstLine n f b i (Tick work)) = ap (λ (g : FuncParts). InstLine n g b i (plain_inst (Tick work))) (plain-func-same f)
plain-same (HInstLine n f b i item) = ap (λ (g : FuncParts). InstLine n g b i (plain_inst item)) (plain-func-same f)

module _ (h : HardParts) where
  names-same : (line : HardLine) → names_keep (bare_module h) (bare_line line) ≡ names_keep h line
  names-same line =
      ap (λ (known : SidedName → Bool). list_all known (hard_mentions_in (bare_line line))) (fun_ext (known-same h)) ∙ ap (list_all (is_known h)) (mentions_same line)
    where
      mentions_same : (line : HardLine) → hard_mentions_in (bare_line line) ≡ hard_mentions_in line
      mentions_same (OuterLine line) = refl
      mentions_same (HBlockLine n f b block) = refl
      mentions_same (HPhiLine n f b i phi) = refl
      mentions_same (HInstLine n f b i (Tick work)) = refl
      mentions_same (HInstLine n f b i item) = refl

  limits-same : (line : HardLine) → limits_keep (bare_module h) (bare_line line) ≡ limits_keep h line
  limits-same (OuterLine line) = refl
  limits-same (HBlockLine n f b block) = ap (λ (line : Line). is_none (limit_in h.heads.types line)) (plain-same (HBlockLine n f b block))
  limits-same (HPhiLine n f b i phi) = ap (λ (line : Line). is_none (limit_in h.heads.types line)) (plain-same (HPhiLine n f b i phi))
  limits-same (HInstLine n f b i (Do side inst retires)) = ap (λ (g : FuncParts). is_none (limit_in h.heads.types (InstLine n g b i inst))) (plain-func-same f)
  limits-same (HInstLine n f b i item) = refl

  calls-same : (line : HardLine) → hard_calls_keep (bare_module h) (bare_line line) ≡ hard_calls_keep h line
  calls-same line =
      ap (λ (x : Line). calls_keep h.heads x && are_plain h.heads (constants_in_line (bare_line line))) (plain-same line)
      ∙ ap (λ (x : List Val). calls_keep h.heads (plain_line line) && are_plain h.heads x) (constants line)
    where
      constants : (line : HardLine) → constants_in_line (bare_line line) ≡ constants_in_line line
      constants (OuterLine line) = refl
      constants (HBlockLine n f b block) = refl
      constants (HPhiLine n f b i phi) = refl
      constants (HInstLine n f b i (Tick work)) = refl
      constants (HInstLine n f b i item) = refl

  module _ (f : HardFunc) where
    means-same : meaning_fits (bare_func f) ≡ meaning_fits f
    means-same = fun_ext by_entry
      where
        by_entry : (entry : Loc × Meaning) → meaning_fits (bare_func f) entry ≡ meaning_fits f entry
        by_entry (reg, Label) = refl
        by_entry (reg, Register ty) = has-same f ty reg
        by_entry (reg, Pair ty) = has-same f (pair_of ty) reg

    uses-same : (inst : Inst) → uses_fit h.heads.types (bare_func f) inst ≡ uses_fit h.heads.types f inst
    uses-same (insts.Extract dst elem pair index) = ap (list_any (is_pair_at elem pair)) (meanings-same f)
    uses-same inst = ap (λ (xs : List (Loc × Meaning)). inst_fits h.heads.types xs f.0.ret inst) (meanings-same f)

    source-same : (inst : Inst) → source_fits h.heads.types (bare_func f) inst ≡ source_fits h.heads.types f inst
    source-same inst =
        ap (λ (fits : Loc × Meaning → Bool). option_map_or fits (meaning_of_result inst) true && uses_fit h.heads.types (bare_func f) inst) means-same
        ∙ ap (λ (b : Bool). result_fits f inst && b) (uses-same inst)

    operand-same : (ty : Ty) (operand : HVal) → operand_has_type h.heads.types (bare_func f) ty operand ≡ operand_has_type h.heads.types f ty operand
    operand-same ty (operands.Reg reg) = ap (λ (b : Bool). same_side reg.side S && b) (has-same f ty reg.loc)
    operand-same ty (operands.Const (values.Reg at)) = refl
    operand-same ty (operands.Const val) = ap (λ (xs : List (Loc × Meaning)). operand_fits h.heads.types xs (ty, val)) (meanings-same f)

    items-same : (item : HInst) → hard_inst_fits h.heads.types (bare_func f) (bare item) ≡ hard_inst_fits h.heads.types f item
    items-same (Do side inst retires) = source-same inst
    items-same (Mov ty reg) = has-same f ty reg
    items-same (Chk when ty reg) = has-same f ty reg
    items-same (ChkMem ty ptr val) =
        ap (λ (b : Bool). b && operand_has_type h.heads.types (bare_func f) ty val) (operand-same types.Ptr ptr)
        ∙ ap (λ (b : Bool). operand_has_type h.heads.types f types.Ptr ptr && b) (operand-same ty val)
    items-same (Tick work) = refl
    items-same item = refl

  types-same : (line : HardLine) → hard_types_keep (bare_module h) (bare_line line) ≡ hard_types_keep h line
  types-same (OuterLine line) = refl
  types-same (HBlockLine n f b block) = refl
  types-same (HPhiLine n f b i phi) = source-same f phi.1
  types-same (HInstLine n f b i item) = items-same f item

  forms-same : (line : HardLine) → forms_keep (bare_line line) ≡ forms_keep line
  forms-same (OuterLine line) = refl
  forms-same (HBlockLine n f b block) = refl
  forms-same (HPhiLine n f b i phi) = refl
  forms-same (HInstLine n f b i (Tick work)) = refl
  forms-same (HInstLine n f b i item) = refl

  -- ---- modules

  bare-keep : (rule own : HardLine → Bool) → ((line : HardLine) → rule (bare_line line) ≡ own line) → list_all rule (hard_lines (bare_module h)) ≡ true → list_all own (hard_lines h) ≡ true
  bare-keep rule own same e =
      ap (λ (test : HardLine → Bool). list_all test (hard_lines h)) (sym (fun_ext same))
      ∙ sym (list_all-map rule bare_line (hard_lines h)) ∙ ap (list_all rule) (sym (bare-all h)) ∙ e

  plain-funcs-same : (funcs : List HardFunc) → map plain_func (map bare_func funcs) ≡ map plain_func funcs
  plain-funcs-same [] = refl
  plain-funcs-same (f ∷ funcs) = ap (λ (g : FuncParts). g ∷ map plain_func (map bare_func funcs)) (plain-func-same f) ∙ ap (λ (gs : List FuncParts). plain_func f ∷ gs) (plain-funcs-same funcs)

  pub bare-fits : Fits (bare_module h) → Fits h
  bare-fits fits = record {
    distinct = again-same [] (hard_definitions (bare_module h)) (hard_definitions h) (bare-names h) fits.distinct;
    known = bare-keep (names_keep (bare_module h)) (names_keep h) names-same fits.known;
    limits = fits.limits;
    code_limits = bare-keep (limits_keep (bare_module h)) (limits_keep h) limits-same fits.code_limits;
    terminators = bare-keep (λ line. terminators_keep (plain_line line)) (λ line. terminators_keep (plain_line line)) (λ line. ap terminators_keep (plain-same line)) fits.terminators;
    calls = bare-keep (hard_calls_keep (bare_module h)) (hard_calls_keep h) calls-same fits.calls;
    types = bare-keep (hard_types_keep (bare_module h)) (hard_types_keep h) types-same fits.types;
    main = fits.main;
    entries = bare-keep (λ line. entries_keep (plain_line line)) (λ line. entries_keep (plain_line line)) (λ line. ap entries_keep (plain-same line)) fits.entries;
    phis = subst (OfAll PhisFit) (ap (map plain_func) (bare-zip h.heads.funcs h.funcs) ∙ plain-funcs-same (hard_funcs h)) fits.phis;
    forms = bare-keep forms_keep forms_keep forms-same fits.forms;
  }

  keep-bare : (rule own : HardLine → Bool) → ((line : HardLine) → rule (bare_line line) ≡ own line) → list_all own (hard_lines h) ≡ true → list_all rule (hard_lines (bare_module h)) ≡ true
  keep-bare rule own same e =
      ap (list_all rule) (bare-all h) ∙ list_all-map rule bare_line (hard_lines h) ∙ ap (λ (test : HardLine → Bool). list_all test (hard_lines h)) (fun_ext same) ∙ e

  pub fits-bare : Fits h → Fits (bare_module h)
  fits-bare fits = record {
    distinct = again-same [] (hard_definitions h) (hard_definitions (bare_module h)) (sym (bare-names h)) fits.distinct;
    known = keep-bare (names_keep (bare_module h)) (names_keep h) names-same fits.known;
    limits = fits.limits;
    code_limits = keep-bare (limits_keep (bare_module h)) (limits_keep h) limits-same fits.code_limits;
    terminators = keep-bare (λ line. terminators_keep (plain_line line)) (λ line. terminators_keep (plain_line line)) (λ line. ap terminators_keep (plain-same line)) fits.terminators;
    calls = keep-bare (hard_calls_keep (bare_module h)) (hard_calls_keep h) calls-same fits.calls;
    types = keep-bare (hard_types_keep (bare_module h)) (hard_types_keep h) types-same fits.types;
    main = fits.main;
    entries = keep-bare (λ line. entries_keep (plain_line line)) (λ line. entries_keep (plain_line line)) (λ line. ap entries_keep (plain-same line)) fits.entries;
    phis = subst (OfAll PhisFit) (sym (ap (map plain_func) (bare-zip h.heads.funcs h.funcs) ∙ plain-funcs-same (hard_funcs h))) fits.phis;
    forms = keep-bare forms_keep forms_keep forms-same fits.forms;
  }
