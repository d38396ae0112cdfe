-- The lines of a module under other numbers, and what they define and mention: each name once, and each mentioned one defined, where it was so.
use Rattle.std.proofs.Common.{ℕ, suc, ◌≡◌, ◌∙◌, ◌+◌, ◌&&◌, Bool, true, false, not, List, [], ◌∷◌, ◌++◌, map, find, length, Option, Some, None, slice_get, refl, ap, sym as flip, arith}
use Rattle.std.specs.Prelude.{nat_eq}
use Rattle.std.specs.List.{flat_map, list_any, cons_option}
use Rattle.std.specs.Option.{option_map, option_map_or}
use Rattle.std.proofs.lemmas.Bool.{eqb-true}
use Rattle.std.proofs.lemmas.List.{map-append}
use Rattle.ir_check.proofs.ModuleLines.{neither, no-image}
use Rattle.ir_core.specs.declared.types.Ty.{Ty}
use Rattle.ir_core.specs.declared.types.TypeId.{TypeId}
use Rattle.ir_core.specs.declared.types.Loc.{Loc}
use Rattle.ir_core.specs.declared.instruction.Inst.{Inst}
use Rattle.ir_core.specs.declared.instruction.Inst.TheVariants as insts
use Rattle.ir_core.specs.declared.instruction.Block.{Block}
use Rattle.ir_core.specs.declared.values.GlobalVar.{GlobalVar}
use Rattle.ir_core.specs.declared.values.Declare.{Declare}
use Rattle.ir_core.specs.Instructions.{result_of}
use Rattle.ir_core.specs.Module.{ModuleParts, FuncParts}
use Rattle.ir_lines.specs.declared.site.Site.{Site}
use Rattle.ir_lines.specs.declared.site.Site.TheVariants as sites
use Rattle.ir_lines.specs.declared.site.Named.{Named}
use Rattle.ir_lines.specs.declared.site.Named.TheVariants as names
use Rattle.ir_lines.specs.Lines.{Line, TypeLine, GlobalLine, DeclareLine, HeadLine, BlockLine, InstLine, site_of, inst_lines, block_lines, blocks_lines, func_lines, funcs_lines, code_lines, lines_of, first_break, told_at, first_told}
use Rattle.ir_names.specs.Names.{same_name, defined_in, definitions_in, definitions_of, definitions, first_again, duplicate, name_at, mentions_in, first_strange, first_unknown, is_defined, unknown}
use Rattle.ir_numbering.specs.declared.places.Place.{Place}
use Rattle.ir_numbering.specs.declared.places.Place.TheVariants.{Local, Struct, Global}
use Rattle.ir_numbering.specs.Places.{places_of_ty, places_of_global, places_of_declare, places_of_head, places_of_inst}
use Rattle.ir_numbering.specs.Renaming.{Renaming, renamed_loc, renamed_sym, renamed_type_id, renamed_inst, renamed_block, renamed_param, renamed_func, renamed_global, renamed_declare}
use Rattle.ir_numbering.specs.Numbers.{renamed_named}
use Rattle.renamed_modules.proofs.RenamedTypes.{same-test, find-map}
use Rattle.renamed_modules.proofs.RenamedPlaces.{renamed_place, ty-moved, global-moved, declare-moved, params-moved, inst-moved, three}
use Rattle.renamed_modules.proofs.Renames.{Renames, inside, func-at}

pub flat-images : {A B C D : Type 0} (f : A → B) (g : B → List D) (h : A → List C) (k : C → D) → ((x : A) → g (f x) ≡ map k (h x)) → (xs : List A)
    → flat_map g (map f xs) ≡ map k (flat_map h xs)
flat-images f g h k same [] = refl
flat-images f g h k same (x ∷ xs) = rw (same x, flat-images f g h k same xs) (flip (map-append k (h x) (flat_map h xs)))

pub any-images : {A B : Type 0} (f : A → B) (p : A → Bool) (q : B → Bool) → ((x : A) → q (f x) ≡ p x) → (xs : List A) → list_any q (map f xs) ≡ list_any p xs
any-images f p q same [] = refl
any-images f p q same (x ∷ xs) = rw (same x, any-images f p q same xs) refl

pub result-same : (q : Renaming) (inst : Inst) → result_of (renamed_inst q inst) ≡ option_map (renamed_loc q) (result_of inst)
result-same q (insts.Call None ret callee args) = refl
result-same q (insts.Call (Some dst) ret callee args) = refl
result-same q inst = refl

module _ (m other : ModuleParts) (r : Renames m other) where
  abbrev pub in_ : ℕ → Renaming
  in_ n = inside m other r n

  -- the names of the other function with a number
  abbrev pub names_of_func : ℕ → List (List ℕ)
  names_of_func n = option_map_or (λ g. g.names) (slice_get other.funcs n) []

  abbrev pub func_by : ℕ → FuncParts → FuncParts
  func_by n f = record (renamed_func (in_ n) f) { names = names_of_func n }

  abbrev pub renamed_line : Line → Line
  renamed_line (TypeLine named) = TypeLine (renamed_named (in_ 0) named)
  renamed_line (GlobalLine global) = GlobalLine (renamed_global (in_ 0) global)
  renamed_line (DeclareLine declare) = DeclareLine (renamed_declare (in_ 0) declare)
  renamed_line (HeadLine n f) = HeadLine n (func_by n f)
  renamed_line (BlockLine n f b block) = BlockLine n (func_by n f) b (renamed_block (in_ n) block)
  renamed_line (InstLine n f b i inst) = InstLine n (func_by n f) b i (renamed_inst (in_ n) inst)

  -- ---- lines

  insts-by : (n : ℕ) (f : FuncParts) (b i : ℕ) (insts : List Inst) → inst_lines n (func_by n f) b i (map (renamed_inst (in_ n)) insts) ≡ map renamed_line (inst_lines n f b i insts)
  insts-by n f b i [] = refl
  insts-by n f b i (inst ∷ insts) = ap (λ (rest : List Line). InstLine n (func_by n f) b i (renamed_inst (in_ n) inst) ∷ rest) (insts-by n f b (i + 1) insts)

  blocks-by : (n : ℕ) (f : FuncParts) (b : ℕ) (blocks : List Block) → blocks_lines n (func_by n f) b (map (renamed_block (in_ n)) blocks) ≡ map renamed_line (blocks_lines n f b blocks)
  blocks-by n f b [] = refl
  blocks-by n f b (block ∷ blocks) =
      ap (λ (own : List Line). (BlockLine n (func_by n f) b (renamed_block (in_ n) block) ∷ own) ++ blocks_lines n (func_by n f) (b + 1) (map (renamed_block (in_ n)) blocks)) (insts-by n f b 0 block.insts)
      ∙ ap (λ (rest : List Line). map renamed_line (block_lines n f b block) ++ rest) (blocks-by n f (b + 1) blocks)
      ∙ flip (map-append renamed_line (block_lines n f b block) (blocks_lines n f (b + 1) blocks))

  func-by : (n : ℕ) (f : FuncParts) → func_lines n (func_by n f) ≡ map renamed_line (func_lines n f)
  func-by n f = ap (λ (rest : List Line). HeadLine n (func_by n f) ∷ rest) (blocks-by n f 0 f.blocks)

  funcs-by : (k : ℕ) (fs gs : List FuncParts) → length gs ≡ length fs
      → ((n : ℕ) (f g : FuncParts) → slice_get fs n ≡ Some f → slice_get gs n ≡ Some g → g ≡ func_by (k + n) f) → funcs_lines k gs ≡ map renamed_line (funcs_lines k fs)
  funcs-by k [] [] count same = refl
  funcs-by k [] (g ∷ gs) count same = absurd (omega (arith, count))
  funcs-by k (f ∷ fs) [] count same = absurd (omega (arith, count))
  funcs-by k (f ∷ fs) (g ∷ gs) count same =
      let here : k + 0 ≡ k = omega arith in
      let first : g ≡ func_by k f = same 0 f g refl refl ∙ ap (λ (n : ℕ). func_by n f) here in
      ap (λ (h : FuncParts). func_lines k h ++ funcs_lines (k + 1) gs) first
      ∙ ap (λ (own : List Line). own ++ funcs_lines (k + 1) gs) (func-by k f)
      ∙ ap (λ (rest : List Line). map renamed_line (func_lines k f) ++ rest) (funcs-by (k + 1) fs gs (omega (arith, count))
      (λ n a b at there. let next : k + suc n ≡ k + 1 + n = omega arith in same (suc n) a b at there ∙ ap (λ (j : ℕ). func_by j a) next))
      ∙ flip (map-append renamed_line (func_lines k f) (funcs_lines (k + 1) fs))

  pub funcs-here : (n : ℕ) (f g : FuncParts) → slice_get m.funcs n ≡ Some f → slice_get other.funcs n ≡ Some g → g ≡ func_by n f
  funcs-here n f g at there =
      func-at m other r n f g at there ∙ ap (λ (names : List (List ℕ)). record (renamed_func (in_ n) f) { names = names }) (flip (ap (λ (o : Option FuncParts). option_map_or (λ (h : FuncParts). h.names) o []) there))

  types-lines : (types : List (TypeId × Ty)) → map TypeLine (map (renamed_named r.outer) types) ≡ map renamed_line (map TypeLine types)
  types-lines [] = refl
  types-lines (named ∷ types) = ap (λ (rest : List Line). TypeLine (renamed_named r.outer named) ∷ rest) (types-lines types)

  globals-lines : (globals : List GlobalVar) → map GlobalLine (map (renamed_global r.outer) globals) ≡ map renamed_line (map GlobalLine globals)
  globals-lines [] = refl
  globals-lines (global ∷ globals) = ap (λ (rest : List Line). GlobalLine (renamed_global r.outer global) ∷ rest) (globals-lines globals)

  declares-lines : (declares : List Declare) → map DeclareLine (map (renamed_declare r.outer) declares) ≡ map renamed_line (map DeclareLine declares)
  declares-lines [] = refl
  declares-lines (declare ∷ declares) = ap (λ (rest : List Line). DeclareLine (renamed_declare r.outer declare) ∷ rest) (declares-lines declares)

  pub code-same : code_lines other ≡ map renamed_line (code_lines m)
  code-same =
      ap (λ (declares : List Declare). map DeclareLine declares ++ funcs_lines 0 other.funcs) r.declares
      ∙ ap (λ (lines : List Line). lines ++ funcs_lines 0 other.funcs) (declares-lines m.declares)
      ∙ ap (λ (lines : List Line). map renamed_line (map DeclareLine m.declares) ++ lines) (funcs-by 0 m.funcs other.funcs r.count
      (λ n f g at there. let same : n ≡ 0 + n = omega arith in funcs-here n f g at there ∙ ap (λ (k : ℕ). func_by k f) same))
      ∙ flip (map-append renamed_line (map DeclareLine m.declares) (funcs_lines 0 m.funcs))

  pub lines-same : lines_of other ≡ map renamed_line (lines_of m)
  lines-same =
      ap (λ (types : List (TypeId × Ty)). (map TypeLine types ++ map GlobalLine other.globals) ++ code_lines other) r.types
      ∙ ap (λ (globals : List GlobalVar). (map TypeLine (map (renamed_named r.outer) m.types) ++ map GlobalLine globals) ++ code_lines other) r.globals
      ∙ ap (λ (lines : List Line). (lines ++ map GlobalLine (map (renamed_global r.outer) m.globals)) ++ code_lines other) (types-lines m.types)
      ∙ ap (λ (lines : List Line). (map renamed_line (map TypeLine m.types) ++ lines) ++ code_lines other) (globals-lines m.globals)
      ∙ ap (λ (lines : List Line). lines ++ code_lines other) (flip (map-append renamed_line (map TypeLine m.types) (map GlobalLine m.globals)))
      ∙ ap (λ (lines : List Line). map renamed_line (map TypeLine m.types ++ map GlobalLine m.globals) ++ lines) code-same
      ∙ flip (map-append renamed_line (map TypeLine m.types ++ map GlobalLine m.globals) (code_lines m))

  -- ---- names

  abbrev pub renamed_name : Named → Named
  renamed_name (names.Type id) = names.Type (renamed_type_id r.outer id)
  renamed_name (names.Sym name) = names.Sym (renamed_sym r.outer name)
  renamed_name (names.Loc n at) = names.Loc n (renamed_loc (in_ n) at)

  abbrev renamed_site : Site → Site
  renamed_site (sites.Type id) = sites.Type (renamed_type_id r.outer id)
  renamed_site (sites.Global name) = sites.Global (renamed_sym r.outer name)
  renamed_site (sites.Block n b) = sites.Block n b
  renamed_site (sites.Inst n b i) = sites.Inst n b i
  renamed_site sites.Module = sites.Module

  abbrev renamed_definition : Site × Named → Site × Named
  renamed_definition d = (renamed_site d.0, renamed_name d.1)

  name-test : (a b : Named) → same_name (renamed_name a) (renamed_name b) ≡ same_name a b
  name-test (names.Type a) (names.Type b) = same-test r.outer.type_id r.type_apart a.0 b.0
  name-test (names.Type a) (names.Sym b) = refl
  name-test (names.Type a) (names.Loc n b) = refl
  name-test (names.Sym a) (names.Type b) = refl
  name-test (names.Sym a) (names.Sym b) = same-test r.outer.sym r.sym_apart a.0 b.0
  name-test (names.Sym a) (names.Loc n b) = refl
  name-test (names.Loc n a) (names.Type b) = refl
  name-test (names.Loc n a) (names.Sym b) = refl
  name-test (names.Loc n a) (names.Loc k b) = by_func (nat_eq n k) refl
    where
      by_func : (c : Bool) → nat_eq n k ≡ c → (nat_eq n k && nat_eq (r.loc n a.0) (r.loc k b.0)) ≡ (nat_eq n k && nat_eq a.0 b.0)
      by_func true e = let same : n ≡ k = eqb-true n k e in
          ap (λ (c : Bool). nat_eq n k && c) (ap (λ (j : ℕ). nat_eq (r.loc n a.0) (r.loc j b.0)) (flip same) ∙ same-test (r.loc n) (r.loc_apart n) a.0 b.0)
      by_func false e = rw e refl

  defined-same : (line : Line) → defined_in (renamed_line line) ≡ map renamed_name (defined_in line)
  defined-same (TypeLine named) = refl
  defined-same (GlobalLine global) = refl
  defined-same (DeclareLine declare) = refl
  defined-same (HeadLine n f) = ap (λ (rest : List Named). names.Sym (renamed_sym r.outer f.sym) ∷ rest) (locs f.params)
    where
      locs : (params : List (Ty × Loc)) → map (λ (param : Ty × Loc). names.Loc n param.1) (map (renamed_param (in_ n)) params) ≡ map renamed_name (map (λ (param : Ty × Loc). names.Loc n param.1) params)
      locs [] = refl
      locs (param ∷ params) = ap (λ (rest : List Named). names.Loc n (renamed_loc (in_ n) param.1) ∷ rest) (locs params)
  defined-same (BlockLine n f b block) = refl
  defined-same (InstLine n f b i inst) = ap (λ (o : Option Loc). cons_option (option_map (names.Loc n) o) []) (result-same (in_ n) inst) ∙ by_result (result_of inst)
    where
      by_result : (o : Option Loc) → cons_option (option_map (names.Loc n) (option_map (renamed_loc (in_ n)) o)) [] ≡ map renamed_name (cons_option (option_map (names.Loc n) o) [])
      by_result None = refl
      by_result (Some at) = refl

  site-same : (line : Line) → site_of (renamed_line line) ≡ renamed_site (site_of line)
  site-same (TypeLine named) = refl
  site-same (GlobalLine global) = refl
  site-same (DeclareLine declare) = refl
  site-same (HeadLine n f) = refl
  site-same (BlockLine n f b block) = refl
  site-same (InstLine n f b i inst) = refl

  line-definitions : (line : Line) → definitions_in (renamed_line line) ≡ map renamed_definition (definitions_in line)
  line-definitions line =
      ap (map (λ (name : Named). (site_of (renamed_line line), name))) (defined-same line)
      ∙ ap (λ (site : Site). map (λ (name : Named). (site, name)) (map renamed_name (defined_in line))) (site-same line)
      ∙ pairs (site_of line) (defined_in line)
    where
      pairs : (site : Site) (xs : List Named) → map (λ (name : Named). (renamed_site site, name)) (map renamed_name xs) ≡ map renamed_definition (map (λ (name : Named). (site, name)) xs)
      pairs site [] = refl
      pairs site (x ∷ xs) = ap (λ (rest : List (Site × Named)). (renamed_site site, renamed_name x) ∷ rest) (pairs site xs)

  definitions-same : definitions other ≡ map renamed_definition (definitions m)
  definitions-same = ap definitions_of lines-same ∙ flat-images renamed_line definitions_in definitions_in renamed_definition line-definitions (lines_of m)

  again-same : (before : List Named) (defs : List (Site × Named)) → first_again (map renamed_name before) (map renamed_definition defs) ≡ option_map renamed_definition (first_again before defs)
  again-same before [] = refl
  again-same before (d ∷ defs) = by_test (list_any (same_name d.1) before) refl (again-same (before ++ d.1 ∷ []) defs)
    where
      among : list_any (same_name (renamed_name d.1)) (map renamed_name before) ≡ list_any (same_name d.1) before
      among = any-images renamed_name (same_name d.1) (same_name (renamed_name d.1)) (λ name. name-test d.1 name) before

      by_test : (b : Bool) → list_any (same_name d.1) before ≡ b
          → first_again (map renamed_name (before ++ d.1 ∷ [])) (map renamed_definition defs) ≡ option_map renamed_definition (first_again (before ++ d.1 ∷ []) defs)
          → first_again (map renamed_name before) (map renamed_definition (d ∷ defs)) ≡ option_map renamed_definition (first_again before (d ∷ defs))
      by_test true e rest = rw (among, e) refl
      by_test false e rest = rw (among, e) (ap (λ (names : List Named). first_again names (map renamed_definition defs)) (flip (map-append renamed_name before (d.1 ∷ []))) ∙ rest)

  pub duplicates-same : duplicate m ≡ None → duplicate other ≡ None
  duplicates-same none = ap (first_again []) definitions-same ∙ again-same [] (definitions m) ∙ ap (option_map renamed_definition) none

  -- ---- mentions

  place-name : (n : ℕ) (place : Place) → name_at n (renamed_place (in_ n) place) ≡ renamed_name (name_at n place)
  place-name n (Local at) = refl
  place-name n (Struct id) = refl
  place-name n (Global name) = refl

  names-moved : (n : ℕ) (renamed places : List Place) → renamed ≡ map (renamed_place (in_ n)) places → map (name_at n) renamed ≡ map renamed_name (map (name_at n) places)
  names-moved n renamed places e = ap (map (name_at n)) e ∙ again places
    where
      again : (places : List Place) → map (name_at n) (map (renamed_place (in_ n)) places) ≡ map renamed_name (map (name_at n) places)
      again [] = refl
      again (place ∷ places) = rw (place-name n place, again places) refl

  mentions-same : (line : Line) → mentions_in (renamed_line line) ≡ map renamed_name (mentions_in line)
  mentions-same (TypeLine named) = names-moved 0 _ (places_of_ty named.1) (ty-moved (in_ 0) named.1)
  mentions-same (GlobalLine global) = names-moved 0 _ (places_of_global global) (global-moved (in_ 0) global)
  mentions-same (DeclareLine declare) = names-moved 0 _ (places_of_declare declare) (declare-moved (in_ 0) declare)
  mentions-same (HeadLine n f) = names-moved n _ (places_of_head f) (three (in_ n) (places_of_ty f.ret) (Global f.sym ∷ []) (flat_map (λ (param : Ty × Loc). places_of_ty param.0 ++ Local param.1 ∷ []) f.params) _ _ _ (ty-moved (in_ n) f.ret) refl (params-moved (in_ n) f.params))
  mentions-same (BlockLine n f b block) = refl
  mentions-same (InstLine n f b i inst) = names-moved n _ (places_of_inst inst) (inst-moved (in_ n) inst)

  defined-known : (name : Named) → is_defined other (renamed_name name) ≡ is_defined m name
  defined-known name =
      ap (λ (defs : List (Site × Named)). list_any (same_name (renamed_name name)) (map (λ (d : Site × Named). d.1) defs)) definitions-same
      ∙ ap (list_any (same_name (renamed_name name))) (seconds (definitions m))
      ∙ any-images renamed_name (same_name name) (same_name (renamed_name name)) (λ x. name-test name x) (map (λ (d : Site × Named). d.1) (definitions m))
    where
      seconds : (defs : List (Site × Named)) → map (λ (d : Site × Named). d.1) (map renamed_definition defs) ≡ map renamed_name (map (λ (d : Site × Named). d.1) defs)
      seconds [] = refl
      seconds (d ∷ defs) = ap (λ (rest : List Named). renamed_name d.1 ∷ rest) (seconds defs)

  -- what is told of no line of the one module is told of none of the other
  pub none-told : {A : Type 0} (f g : Line → Option A) → ((line : Line) → f line ≡ None → g (renamed_line line) ≡ None) → (lines : List Line)
      → first_told f lines ≡ None → first_told g (map renamed_line lines) ≡ None
  none-told f g so [] e = refl
  none-told f g so (line ∷ lines) e =
      let parts = neither (told_at line (f line)) (first_told f lines) e in
      rw (so line (no-image (λ fact. (site_of line, fact)) (f line) parts.0)) (none-told f g so lines parts.1)

  find-images : {A B : Type 0} (f : A → B) (p : A → Bool) (q : B → Bool) → ((x : A) → q (f x) ≡ p x) → (xs : List A) → find p xs ≡ None → find q (map f xs) ≡ None
  find-images f p q same xs e = find-map f p q same xs ∙ ap (option_map f) e

  pub unknowns-same : unknown m ≡ None → unknown other ≡ None
  unknowns-same none =
      ap (first_unknown (is_defined other)) lines-same
      ∙ none-told (λ line. first_strange (is_defined m) (mentions_in line)) (λ line. first_strange (is_defined other) (mentions_in line))
      (λ line e. ap (first_strange (is_defined other)) (mentions-same line) ∙ find-images renamed_name (λ name. not (is_defined m name)) (λ name. not (is_defined other name)) (λ name. ap not (defined-known name)) (mentions_in line) e)
      (lines_of m) none

  -- ---- rules

  -- a rule that each line keeps
  pub rules-same : (keeps keeps' : Line → Bool) → ((line : Line) → keeps' (renamed_line line) ≡ keeps line) → first_break keeps (lines_of m) ≡ None → first_break keeps' (lines_of other) ≡ None
  rules-same keeps keeps' same none =
      ap (first_break keeps') lines-same
      ∙ ap (option_map site_of) (find-images renamed_line (λ line. not (keeps line)) (λ line. not (keeps' line)) (λ line. ap not (same line)) (lines_of m) (no-image site_of _ none))
