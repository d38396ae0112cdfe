-- With names for edges no name is defined again on its side, and what was known is known.
use Rattle.std.proofs.Common.{ℕ, zero, suc, ◌≡◌, ◌∙◌, ◌+◌, ◌<◌, ◌≤◌, ◌&&◌, ◌||◌, Bool, true, false, List, [], ◌∷◌, ◌++◌, map, length, Option, Some, None, slice_get, refl, ap, sym as flip, subst, arith}
use Rattle.std.specs.Prelude.{nat_eq, nat_lt}
use Rattle.std.specs.List.{flat_map, cons_option, list_any}
use Rattle.std.specs.Option.{option_map}
use Rattle.std.proofs.lemmas.Bool.{eqb-true}
use Rattle.std.proofs.lemmas.Bool.Decides.{nat_tests}
use Rattle.std.proofs.lemmas.Grind.{flat_map-append}
use Rattle.ir_core.specs.declared.types.Ty.{Ty}
use Rattle.ir_core.specs.declared.types.TypeId.{TypeId}
use Rattle.ir_core.specs.declared.types.Loc.{Loc}
use Rattle.ir_core.specs.declared.values.Side.{Side}
use Rattle.ir_core.specs.declared.values.Side.TheVariants.{M, S}
use Rattle.ir_core.specs.declared.values.GlobalVar.{GlobalVar}
use Rattle.ir_core.specs.declared.values.Declare.{Declare}
use Rattle.ir_core.specs.declared.instruction.Inst.{Inst}
use Rattle.ir_core.specs.declared.instruction.Block.{Block}
use Rattle.ir_core.specs.Instructions.{result_of}
use Rattle.ir_core.specs.Module.{ModuleParts, FuncParts}
use Rattle.ir_flow.specs.Uses.{regs_in, arms_in}
use Rattle.ir_lines.specs.Lines.{Line, TypeLine, GlobalLine, DeclareLine, HeadLine, lines_of, inst_lines as source_insts, block_lines as source_block, blocks_lines as source_blocks, func_lines as source_func, funcs_lines as source_funcs}
use Rattle.ir_lines.specs.declared.site.Named.{Named}
use Rattle.ir_lines.specs.declared.site.Named.TheVariants as names
use Rattle.ir_names.specs.Names.{same_name, defined_in, definitions}
use Rattle.hard_ir.specs.declared.instruction.HInst.{HInst}
use Rattle.hard_ir.specs.declared.instruction.HBlock.{HBlock}
use Rattle.hard_ir.specs.Image.{Table}
use Rattle.hard_ir.specs.Hardened.{head_of, hard_block, hard_blocks, hardened_by}
use Rattle.hard_ir.specs.Fit.{HardFunc, hard_funcs, HardLine, OuterLine, phi_lines, inst_lines, block_lines, blocks_lines, funcs_lines, outer_lines, hard_lines, SidedName, same_side, same_sided, on_one_side, label, register, result_on, defined_by, hard_defined_in, hard_definitions, hard_duplicate, is_known}
use Rattle.hard_ir.specs.Images.{names_in, names_of, is_named}
use Rattle.hard_ir.specs.Lines.{in_option, in_arm, registers_of}
use Rattle.hard_ir.specs.EdgeChecks.{edge_phis}
use Rattle.hard_laws.proofs.Images.{IsTable}
use Rattle.hard_laws.proofs.HardLines.{IsBlockOf, hard_of, hard-funcs}
use Rattle.hard_laws.proofs.Accepted.{Sound}
use Rattle.hard_laws.proofs.Tallies.{tally, tally-append, tally-any, any-tally, counted, nat-same, on_side, defined-once, none-again}
use Rattle.hard_laws.proofs.Definitions.{source-names, hard-names, in_source, in_hard, module-tally}
use Rattle.edge_laws.proofs.Anchors.{result_list, defs, is_at, blocks-tally, lines-tally}
use Rattle.edge_laws.proofs.WithEdges.{edge_on, edge_blocks, edge_func, edge_funcs, edge_module, edge-funcs}

same-side : (side : Side) → same_side side side ≡ true
same-side M = refl
same-side S = refl

-- what is asked of names for edges
pub record Asked (m : ModuleParts) (ofs : ℕ → ℕ → Option Loc) : Type 0 where
  pub new : (n b : ℕ) (f : FuncParts) (name : Loc) → slice_get m.funcs n ≡ Some f → ofs n b ≡ Some name → is_named f name ≡ false
  pub single : (n i j : ℕ) (name : Loc) → ofs n i ≡ Some name → ofs n j ≡ Some name → i ≡ j

-- ---- the names that lines define

abbrev pub block_names : ℕ → HBlock → List SidedName
block_names n block = label n block.label ∷ flat_map (λ phi. result_on n phi.0 phi.1) block.phis ++ flat_map (defined_by n) block.list

phi-names : (n : ℕ) (f : HardFunc) (b i : ℕ) (phis : List (Side × Inst)) → flat_map hard_defined_in (phi_lines n f b i phis) ≡ flat_map (λ phi. result_on n phi.0 phi.1) phis
phi-names n f b i [] = refl
phi-names n f b i (phi ∷ phis) = ap (λ (rest : List SidedName). result_on n phi.0 phi.1 ++ rest) (phi-names n f b (i + 1) phis)

item-names : (n : ℕ) (f : HardFunc) (b i : ℕ) (items : List HInst) → flat_map hard_defined_in (inst_lines n f b i items) ≡ flat_map (defined_by n) items
item-names n f b i [] = refl
item-names n f b i (item ∷ items) = ap (λ (rest : List SidedName). defined_by n item ++ rest) (item-names n f b (i + 1) items)

block-names : (n : ℕ) (f : HardFunc) (b : ℕ) (block : HBlock) → flat_map hard_defined_in (block_lines n f b block) ≡ block_names n block
block-names n f b block =
    ap (λ (xs : List SidedName). label n block.label ∷ xs)
    (flat_map-append hard_defined_in (phi_lines n f b 0 block.phis) (inst_lines n f b (length block.phis) block.list)
    ∙ ap (λ (xs : List SidedName). xs ++ flat_map hard_defined_in (inst_lines n f b (length block.phis) block.list)) (phi-names n f b 0 block.phis)
    ∙ ap (λ (xs : List SidedName). flat_map (λ phi. result_on n phi.0 phi.1) block.phis ++ xs) (item-names n f b (length block.phis) block.list))

-- the names of edges
abbrev pub news_at : ℕ → Option Loc → List SidedName
news_at n None = []
news_at n (Some name) = register n M name ∷ register n S name ∷ []

abbrev pub news : ℕ → (ℕ → Option Loc) → ℕ → List Block → List SidedName
news n of b [] = []
news n of b (block ∷ blocks) = news_at n (of b) ++ news n of (b + 1) blocks

abbrev pub all_news : (ℕ → ℕ → Option Loc) → ℕ → List FuncParts → List SidedName
all_news ofs n [] = []
all_news ofs n (f ∷ funcs) = news n (ofs n) 0 f.blocks ++ all_news ofs (n + 1) funcs

module _ (table : Table) (test : SidedName → Bool) where
  abbrev told : List HardLine → ℕ
  told lines = tally test (flat_map hard_defined_in lines)

  told-append : (xs ys : List HardLine) → told (xs ++ ys) ≡ told xs + told ys
  told-append xs ys = ap (tally test) (flat_map-append hard_defined_in xs ys) ∙ tally-append test (flat_map hard_defined_in xs) (flat_map hard_defined_in ys)

  counted-sum : (b : Bool) (x y z w : ℕ) → w ≡ x + z → counted b (w + y) ≡ counted b (x + y) + z
  counted-sum true x y z w e = omega (arith, e)
  counted-sum false x y z w e = omega (arith, e)

  block-told : (n b : ℕ) (f g : HardFunc) (o : Option Loc) (blocks : List Block) (block : HBlock) → told (block_lines n g b (edge_on o blocks block)) ≡ told (block_lines n f b block) + tally test (news_at n o)
  block-told n b f g None blocks block =
      let one = ap (tally test) (block-names n f b block) in let two = ap (tally test) (block-names n g b block) in omega (arith, one, two)
  block-told n b f g (Some name) blocks block =
      let phis : List SidedName = flat_map (λ phi. result_on n phi.0 phi.1) block.phis in
      let items : List SidedName = flat_map (defined_by n) block.list in
      let more : tally test (flat_map (λ phi. result_on n phi.0 phi.1) (block.phis ++ edge_phis name blocks block.label)) ≡ tally test phis + tally test (news_at n (Some name)) =
      ap (tally test) (flat_map-append (λ phi. result_on n phi.0 phi.1) block.phis (edge_phis name blocks block.label)) ∙ tally-append test phis (news_at n (Some name)) in
      let here : told (block_lines n f b block) ≡ counted (test (label n block.label)) (tally test phis + tally test items) =
      ap (tally test) (block-names n f b block) ∙ ap (counted (test (label n block.label))) (tally-append test phis items) in
      let there : told (block_lines n g b (edge_on (Some name) blocks block))
      ≡ counted (test (label n block.label)) (tally test (flat_map (λ phi. result_on n phi.0 phi.1) (block.phis ++ edge_phis name blocks block.label)) + tally test items) =
      ap (tally test) (block-names n g b (edge_on (Some name) blocks block))
      ∙ ap (counted (test (label n block.label))) (tally-append test (flat_map (λ phi. result_on n phi.0 phi.1) (block.phis ++ edge_phis name blocks block.label)) items) in
      there ∙ counted-sum (test (label n block.label)) (tally test phis) (tally test items) (tally test (news_at n (Some name))) _ more ∙ ap (λ (x : ℕ). x + tally test (news_at n (Some name))) (flip here)

  blocks-told : (n b : ℕ) (f g : HardFunc) (of : ℕ → Option Loc) (source : FuncParts) (blocks : List Block)
      → told (blocks_lines n g b (edge_blocks table source of b blocks)) ≡ told (blocks_lines n f b (hard_blocks table source b blocks)) + tally test (news n of b blocks)
  blocks-told n b f g of source [] = refl
  blocks-told n b f g of source (block ∷ blocks) =
      let hard = hard_block table source b block in
      let now = told-append (block_lines n g b (edge_on (of b) source.blocks hard)) (blocks_lines n g (b + 1) (edge_blocks table source of (b + 1) blocks)) in
      let was = told-append (block_lines n f b hard) (blocks_lines n f (b + 1) (hard_blocks table source (b + 1) blocks)) in
      let first = block-told n b f g (of b) source.blocks hard in
      let rest = blocks-told n (b + 1) f g of source blocks in
      let more = tally-append test (news_at n (of b)) (news n of (b + 1) blocks) in
      omega (arith, now, was, first, rest, more)

  funcs-told : (ofs : ℕ → ℕ → Option Loc) (n : ℕ) (funcs : List FuncParts)
      → told (funcs_lines n (edge_funcs table ofs n funcs)) ≡ told (funcs_lines n (map (hard_of table) funcs)) + tally test (all_news ofs n funcs)
  funcs-told ofs n [] = refl
  funcs-told ofs n (f ∷ funcs) =
      let head : HardLine = OuterLine (HeadLine n (head_of f)) in
      let g = edge_func table (ofs n) f in
      let now = told-append (head ∷ blocks_lines n g 0 g.1) (funcs_lines (n + 1) (edge_funcs table ofs (n + 1) funcs)) in
      let now_head = told-append (head ∷ []) (blocks_lines n g 0 g.1) in
      let was = told-append (head ∷ blocks_lines n (hard_of table f) 0 (hard_blocks table f 0 f.blocks)) (funcs_lines (n + 1) (map (hard_of table) funcs)) in
      let was_head = told-append (head ∷ []) (blocks_lines n (hard_of table f) 0 (hard_blocks table f 0 f.blocks)) in
      let first = blocks-told n 0 (hard_of table f) g (ofs n) f f.blocks in
      let rest = funcs-told ofs (n + 1) funcs in
      let more = tally-append test (news n (ofs n) 0 f.blocks) (all_news ofs (n + 1) funcs) in
      omega (arith, now, now_head, was, was_head, first, rest, more)

  pub module-told : (ofs : ℕ → ℕ → Option Loc) (m : ModuleParts)
      → tally test (map (λ d. d.1) (hard_definitions (edge_module table ofs m))) ≡ tally test (map (λ d. d.1) (hard_definitions (hardened_by table m))) + tally test (all_news ofs 0 m.funcs)
  module-told ofs m =
      let now : tally test (map (λ (d : HardLine × SidedName). d.1) (hard_definitions (edge_module table ofs m))) ≡ told (map OuterLine (outer_lines m)) + told (funcs_lines 0 (edge_funcs table ofs 0 m.funcs)) =
      ap (tally test) (hard-names (edge_module table ofs m)) ∙ told-append (map OuterLine (outer_lines m)) (funcs_lines 0 (hard_funcs (edge_module table ofs m)))
      ∙ ap (λ (funcs : List HardFunc). told (map OuterLine (outer_lines m)) + told (funcs_lines 0 funcs)) (edge-funcs table ofs m) in
      let was : tally test (map (λ (d : HardLine × SidedName). d.1) (hard_definitions (hardened_by table m))) ≡ told (map OuterLine (outer_lines m)) + told (funcs_lines 0 (map (hard_of table) m.funcs)) =
      ap (tally test) (hard-names (hardened_by table m)) ∙ told-append (map OuterLine (outer_lines m)) (funcs_lines 0 (hard_funcs (hardened_by table m)))
      ∙ ap (λ (funcs : List HardFunc). told (map OuterLine (outer_lines m)) + told (funcs_lines 0 funcs)) (hard-funcs table m) in
      let funcs = funcs-told ofs 0 m.funcs in
      omega (arith, now, was, funcs)

-- ---- known names

pub known-more : (table : Table) (ofs : ℕ → ℕ → Option Loc) (m : ModuleParts) (name : SidedName) → is_known (hardened_by table m) name ≡ true → is_known (edge_module table ofs m) name ≡ true
known-more table ofs m name e =
    let was = tally-any (same_sided name) (map (λ (d : HardLine × SidedName). d.1) (hard_definitions (hardened_by table m))) e in
    let told = module-told table (same_sided name) ofs m in
    any-tally (same_sided name) (map (λ (d : HardLine × SidedName). d.1) (hard_definitions (edge_module table ofs m))) (omega (arith, was, told))

in-news : (test : SidedName → Bool) (n start i b : ℕ) (of : ℕ → Option Loc) (blocks : List Block) (block : Block) (name : Loc) (side : Side) → b ≡ start + i → slice_get blocks i ≡ Some block → of b ≡ Some name
    → test (register n side name) ≡ true → 1 ≤ tally test (news n of start blocks)
in-news test n start i b of [] block name side e at named passed = cc
in-news test n start zero b of (x ∷ blocks) block name side e at named passed =
    let number : b ≡ start = omega (arith, e) in
    let here : of start ≡ Some name = ap of (flip number) ∙ named in
    let own : 1 ≤ tally test (news_at n (of start)) = subst (λ (o : Option Loc). 1 ≤ tally test (news_at n o)) (flip here) (by_side side passed) in
    let parts = tally-append test (news_at n (of start)) (news n of (start + 1) blocks) in
    omega (arith, own, parts)
  where
    grow : (c : Bool) (k : ℕ) → 1 ≤ k → 1 ≤ counted c k
    grow true k h = omega arith
    grow false k h = h

    by_side : (side : Side) → test (register n side name) ≡ true → 1 ≤ tally test (news_at n (Some name))
    by_side M p = rw p (omega arith)
    by_side S p = let one : 1 ≤ tally test (register n S name ∷ []) = rw p (omega arith) in grow (test (register n M name)) _ one
in-news test n start (suc i) b of (x ∷ blocks) block name side e at named passed =
    let rest = in-news test n (start + 1) i b of blocks block name side (omega (arith, e)) at named passed in
    let parts = tally-append test (news_at n (of start)) (news n of (start + 1) blocks) in
    omega (arith, rest, parts)

in-all-news : (test : SidedName → Bool) (ofs : ℕ → ℕ → Option Loc) (start i n : ℕ) (funcs : List FuncParts) (f : FuncParts) → n ≡ start + i → slice_get funcs i ≡ Some f
    → 1 ≤ tally test (news n (ofs n) 0 f.blocks) → 1 ≤ tally test (all_news ofs start funcs)
in-all-news test ofs start i n [] f e at own = cc
in-all-news test ofs start zero n (x ∷ funcs) f e at own =
    let number : n ≡ start = omega (arith, e) in
    let same : f ≡ x = cc in
    let here : 1 ≤ tally test (news start (ofs start) 0 x.blocks) = subst (λ (k : ℕ). 1 ≤ tally test (news k (ofs k) 0 x.blocks)) number (subst (λ (y : FuncParts). 1 ≤ tally test (news n (ofs n) 0 y.blocks)) same own) in
    let parts = tally-append test (news start (ofs start) 0 x.blocks) (all_news ofs (start + 1) funcs) in
    omega (arith, here, parts)
in-all-news test ofs start (suc i) n (x ∷ funcs) f e at own =
    let rest = in-all-news test ofs (start + 1) i n funcs f (omega (arith, e)) at own in
    let parts = tally-append test (news start (ofs start) 0 x.blocks) (all_news ofs (start + 1) funcs) in
    omega (arith, rest, parts)

-- a new name is known on both sides
pub new-known : (table : Table) (ofs : ℕ → ℕ → Option Loc) (m : ModuleParts) (n b : ℕ) (f : FuncParts) (block : Block) (name : Loc) (side : Side) → IsBlockOf m n f b block → ofs n b ≡ Some name
    → is_known (edge_module table ofs m) (register n side name) ≡ true
new-known table ofs m n b f block name side at named =
    let test : SidedName → Bool = same_sided (register n side name) in
    let passed : test (register n side name) ≡ true = rw (same-side side, nat-same n, nat-same name.0) refl in
    let own = in-all-news test ofs 0 n n m.funcs f (omega arith) at.0 (in-news test n 0 b b (ofs n) f.blocks block name side (omega arith) at.1 named passed) in
    let told = module-told table test ofs m in
    any-tally test (map (λ (d : HardLine × SidedName). d.1) (hard_definitions (edge_module table ofs m))) (omega (arith, own, told))

-- ---- a name that no function has is nowhere defined

pub none-at : (at : ℕ) (locs : List Loc) → list_any (λ (name : Loc). nat_eq name.0 at) locs ≡ false → tally (is_at at) locs ≡ 0
none-at at [] e = refl
none-at at (loc ∷ locs) e = by_test (nat_eq loc.0 at) refl e (none-at at locs)
  where
    by_test : (b : Bool) → nat_eq loc.0 at ≡ b → (b || list_any (λ (name : Loc). nat_eq name.0 at) locs) ≡ false → (list_any (λ (name : Loc). nat_eq name.0 at) locs ≡ false → tally (is_at at) locs ≡ 0) → tally (is_at at) (loc ∷ locs) ≡ 0
    by_test true f e rest = cc
    by_test false f e rest = let other : nat_eq at loc.0 ≡ false = grind (arith, nat_tests) in rw other (rest e)

results-within : (at : ℕ) (body : List Inst) → tally (is_at at) (flat_map result_list body) ≤ tally (is_at at) (flat_map registers_of body)
results-within at [] = omega arith
results-within at (inst ∷ body) =
    let rest = results-within at body in
    let one = tally-append (is_at at) (result_list inst) (flat_map result_list body) in
    let two = tally-append (is_at at) (registers_of inst) (flat_map registers_of body) in
    let own = tally-append (is_at at) (in_option (result_of inst)) (regs_in inst ++ flat_map in_arm (arms_in inst)) in
    let same : tally (is_at at) (result_list inst) ≡ tally (is_at at) (in_option (result_of inst)) = by_option (result_of inst) in
    omega (arith, rest, one, two, own, same)
  where
    by_option : (o : Option Loc) → tally (is_at at) (cons_option o []) ≡ tally (is_at at) (in_option o)
    by_option None = refl
    by_option (Some reg) = refl

pub defs-within : (at : ℕ) (blocks : List Block) → tally (is_at at) (flat_map defs blocks) ≤ tally (is_at at) (flat_map names_in blocks)
defs-within at [] = omega arith
defs-within at (block ∷ blocks) =
    let rest = defs-within at blocks in
    let one = tally-append (is_at at) (defs block) (flat_map defs blocks) in
    let two = tally-append (is_at at) (names_in block) (flat_map names_in blocks) in
    let own = more (nat_eq at block.label.0) _ _ (results-within at block.insts) in
    omega (arith, rest, one, two, own)
  where
    more : (b : Bool) (x y : ℕ) → x ≤ y → counted b x ≤ counted b y
    more true x y h = omega arith
    more false x y h = h

params-named : (n at : ℕ) (params : List (Ty × Loc)) → tally (same_name (names.Loc n (record { 0 = at }))) (map (λ (param : Ty × Loc). names.Loc n param.1) params) ≡ tally (is_at at) (map (λ (param : Ty × Loc). param.1) params)
params-named n at [] = refl
params-named n at (param ∷ params) = rw (nat-same n, params-named n at params) refl

params-other : (n j at : ℕ) (params : List (Ty × Loc)) → nat_eq n j ≡ false → tally (same_name (names.Loc n (record { 0 = at }))) (map (λ (param : Ty × Loc). names.Loc j param.1) params) ≡ 0
params-other n j at [] e = refl
params-other n j at (param ∷ params) e = rw e (params-other n j at params e)

module _ (n at : ℕ) where
  abbrev k : Named
  k = names.Loc n (record { 0 = at })

  abbrev counts : List Line → ℕ
  counts lines = tally (same_name k) (flat_map defined_in lines)

  unnamed-func : (f : FuncParts) → is_named f (record { 0 = at }) ≡ false → counts (source_func n f) ≡ 0
  unnamed-func f e =
      let none = none-at at (names_of f) e in
      let parts = tally-append (is_at at) (map (λ (param : Ty × Loc). param.1) f.params) (flat_map names_in f.blocks) in
      let blocks = blocks-tally n at f 0 f.blocks in
      let within = defs-within at f.blocks in
      let params = params-named n at f.params in
      let whole = lines-tally k (HeadLine n f ∷ []) (source_blocks n f 0 f.blocks) in
      let head : counts (HeadLine n f ∷ []) ≡ tally (same_name k) (map (λ (param : Ty × Loc). names.Loc n param.1) f.params) = tally-nil (map (λ (param : Ty × Loc). names.Loc n param.1) f.params) in
      omega (arith, none, parts, blocks, within, params, whole, head)
    where
      tally-nil : (xs : List Named) → tally (same_name k) (xs ++ []) ≡ tally (same_name k) xs
      tally-nil xs = let e = tally-append (same_name k) xs [] in omega (arith, e)

  insts-other : (j : ℕ) (f : FuncParts) (b i : ℕ) (body : List Inst) → nat_eq n j ≡ false → counts (source_insts j f b i body) ≡ 0
  insts-other j f b i [] e = refl
  insts-other j f b i (inst ∷ body) e =
      let rest = insts-other j f b (i + 1) body e in
      let parts = tally-append (same_name k) (cons_option (option_map (names.Loc j) (result_of inst)) []) (flat_map defined_in (source_insts j f b (i + 1) body)) in
      let own : tally (same_name k) (cons_option (option_map (names.Loc j) (result_of inst)) []) ≡ 0 = by_option (result_of inst) in
      omega (arith, rest, parts, own)
    where
      by_option : (o : Option Loc) → tally (same_name k) (cons_option (option_map (names.Loc j) o) []) ≡ 0
      by_option None = refl
      by_option (Some reg) = rw e refl

  blocks-other : (j : ℕ) (f : FuncParts) (b : ℕ) (blocks : List Block) → nat_eq n j ≡ false → counts (source_blocks j f b blocks) ≡ 0
  blocks-other j f b [] e = refl
  blocks-other j f b (block ∷ blocks) e =
      let rest = blocks-other j f (b + 1) blocks e in
      let parts = lines-tally k (source_block j f b block) (source_blocks j f (b + 1) blocks) in
      let own : counts (source_block j f b block) ≡ 0 = rw e (insts-other j f b 0 block.insts e) in
      omega (arith, rest, parts, own)

  func-other : (j : ℕ) (f : FuncParts) → nat_eq n j ≡ false → counts (source_func j f) ≡ 0
  func-other j f e =
      let blocks = blocks-other j f 0 f.blocks e in
      let params = params-other n j at f.params e in
      let whole = lines-tally k (HeadLine j f ∷ []) (source_blocks j f 0 f.blocks) in
      let head : counts (HeadLine j f ∷ []) ≡ tally (same_name k) (map (λ (param : Ty × Loc). names.Loc j param.1) f.params) = tally-nil (map (λ (param : Ty × Loc). names.Loc j param.1) f.params) in
      omega (arith, blocks, params, whole, head)
    where
      tally-nil : (xs : List Named) → tally (same_name k) (xs ++ []) ≡ tally (same_name k) xs
      tally-nil xs = let e = tally-append (same_name k) xs [] in omega (arith, e)

  funcs-unnamed : (start : ℕ) (funcs : List FuncParts) → ((i : ℕ) (f : FuncParts) → slice_get funcs i ≡ Some f → n ≡ start + i → is_named f (record { 0 = at }) ≡ false) → counts (source_funcs start funcs) ≡ 0
  funcs-unnamed start [] none = refl
  funcs-unnamed start (f ∷ funcs) none =
      let rest = funcs-unnamed (start + 1) funcs (λ i g h e. none (suc i) g h (omega (arith, e))) in
      let parts = lines-tally k (source_func start f) (source_funcs (start + 1) funcs) in
      let own : counts (source_func start f) ≡ 0 = by_test (nat_eq n start) refl in
      omega (arith, rest, parts, own)
    where
      by_test : (b : Bool) → nat_eq n start ≡ b → counts (source_func start f) ≡ 0
      by_test true e =
          let same : n ≡ start = eqb-true n start e in
          subst (λ (j : ℕ). counts (source_func j f) ≡ 0) same (unnamed-func f (none 0 f refl (omega (arith, same))))
      by_test false e = func-other start f e

  types-other : (xs : List (TypeId × Ty)) → counts (map TypeLine xs) ≡ 0
  types-other [] = refl
  types-other (x ∷ xs) = types-other xs

  globals-other : (xs : List GlobalVar) → counts (map GlobalLine xs) ≡ 0
  globals-other [] = refl
  globals-other (x ∷ xs) = globals-other xs

  declares-other : (xs : List Declare) → counts (map DeclareLine xs) ≡ 0
  declares-other [] = refl
  declares-other (x ∷ xs) = declares-other xs

  pub nowhere-defined : (m : ModuleParts) → ((f : FuncParts) → slice_get m.funcs n ≡ Some f → is_named f (record { 0 = at }) ≡ false) → counts (lines_of m) ≡ 0
  nowhere-defined m none =
      let funcs = funcs-unnamed 0 m.funcs (λ i f h e. none f (subst (λ (j : ℕ). slice_get m.funcs j ≡ Some f) (let z : i ≡ n = omega (arith, e) in z) h)) in
      let declares = declares-other m.declares in
      let globals = globals-other m.globals in
      let types = types-other m.types in
      let a = lines-tally k (map DeclareLine m.declares) (source_funcs 0 m.funcs) in
      let b = lines-tally k (map TypeLine m.types) (map GlobalLine m.globals) in
      let c = lines-tally k (map TypeLine m.types ++ map GlobalLine m.globals) (map DeclareLine m.declares ++ source_funcs 0 m.funcs) in
      omega (arith, funcs, declares, globals, types, a, b, c)

-- ---- no name is defined again

module _ (side : Side) (n at : ℕ) where
  abbrev here : SidedName → Bool
  here = on_side side (names.Loc n (record { 0 = at }))

  one-news : (j : ℕ) (name : Loc) → tally here (news_at j (Some name)) ≤ 1
  one-news j name = by_side side (nat_eq n j) (nat_eq at name.0)
    where
      by_side : (side : Side) (b c : Bool) → counted (same_side side M && (b && c)) (counted (same_side side S && (b && c)) 0) ≤ 1
      by_side M true true = omega arith
      by_side M true false = omega arith
      by_side M false c = omega arith
      by_side S true true = omega arith
      by_side S true false = omega arith
      by_side S false c = omega arith

  is-here : (j : ℕ) (name : Loc) → 1 ≤ tally here (news_at j (Some name)) → (n ≡ j) × (at ≡ name.0)
  is-here j name h = by_tests (nat_eq n j) refl (nat_eq at name.0) refl h
    where
      by_tests : (b : Bool) → nat_eq n j ≡ b → (c : Bool) → nat_eq at name.0 ≡ c → 1 ≤ counted (same_side side M && (b && c)) (counted (same_side side S && (b && c)) 0) → (n ≡ j) × (at ≡ name.0)
      by_tests true e true f h = (eqb-true n j e, eqb-true at name.0 f)
      by_tests true e false f h = absurd (none side h)
        where
          none : (side : Side) → 1 ≤ counted (same_side side M && false) (counted (same_side side S && false) 0) → ⊥
          none M h = omega (arith, h)
          none S h = omega (arith, h)
      by_tests false e c f h = absurd (none side h)
        where
          none : (side : Side) → 1 ≤ counted (same_side side M && false) (counted (same_side side S && false) 0) → ⊥
          none M h = omega (arith, h)
          none S h = omega (arith, h)

  -- where a name of an edge is this one
  record Found (ofs : ℕ → ℕ → Option Loc) (j start : ℕ) (blocks : List Block) : Type 0 where
    b : ℕ
    name : Loc
    later : start ≤ b
    named : ofs j b ≡ Some name
    func : n ≡ j
    same : at ≡ name.0

  found : (ofs : ℕ → ℕ → Option Loc) (j start : ℕ) (blocks : List Block) → 1 ≤ tally here (news j (ofs j) start blocks) → Found ofs j start blocks
  found ofs j start [] h = absurd (omega (arith, h))
  found ofs j start (x ∷ blocks) h = by_first (ofs j start) refl (found ofs j (start + 1) blocks)
    where
      parts : tally here (news_at j (ofs j start) ++ news j (ofs j) (start + 1) blocks) ≡ tally here (news_at j (ofs j start)) + tally here (news j (ofs j) (start + 1) blocks)
      parts = tally-append here (news_at j (ofs j start)) (news j (ofs j) (start + 1) blocks)

      pass : Found ofs j (start + 1) blocks → Found ofs j start (x ∷ blocks)
      pass rest = record { b = rest.b; name = rest.name; later = (let l = rest.later in omega (arith, l)); named = rest.named; func = rest.func; same = rest.same }

      by_first : (o : Option Loc) → ofs j start ≡ o → (1 ≤ tally here (news j (ofs j) (start + 1) blocks) → Found ofs j (start + 1) blocks) → Found ofs j start (x ∷ blocks)
      by_first None e rest =
          let own : tally here (news_at j (ofs j start)) ≡ 0 = ap (λ (o : Option Loc). tally here (news_at j o)) e in
          pass (rest (omega (arith, h, parts, own)))
      by_first (Some name) e rest = by_test (nat_lt 0 (tally here (news_at j (ofs j start)))) refl
        where
          by_test : (c : Bool) → nat_lt 0 (tally here (news_at j (ofs j start))) ≡ c → Found ofs j start (x ∷ blocks)
          by_test true g =
              let some : 1 ≤ tally here (news_at j (ofs j start)) = grind (arith, nat_tests) in
              let is = is-here j name (subst (λ (o : Option Loc). 1 ≤ tally here (news_at j o)) e some) in
              record { b = start; name = name; later = omega arith; named = e; func = is.0; same = is.1 }
          by_test false g =
              let none : tally here (news_at j (ofs j start)) ≡ 0 = grind (arith, nat_tests) in
              pass (rest (omega (arith, h, parts, none)))

  few-news : (ofs : ℕ → ℕ → Option Loc) (single : (n i j : ℕ) (name : Loc) → ofs n i ≡ Some name → ofs n j ≡ Some name → i ≡ j) (j start : ℕ) (blocks : List Block) → tally here (news j (ofs j) start blocks) ≤ 1
  few-news ofs single j start [] = omega arith
  few-news ofs single j start (x ∷ blocks) = by_first (ofs j start) refl (few-news ofs single j (start + 1) blocks)
    where
      parts : tally here (news_at j (ofs j start) ++ news j (ofs j) (start + 1) blocks) ≡ tally here (news_at j (ofs j start)) + tally here (news j (ofs j) (start + 1) blocks)
      parts = tally-append here (news_at j (ofs j start)) (news j (ofs j) (start + 1) blocks)

      by_first : (o : Option Loc) → ofs j start ≡ o → tally here (news j (ofs j) (start + 1) blocks) ≤ 1 → tally here (news_at j (ofs j start) ++ news j (ofs j) (start + 1) blocks) ≤ 1
      by_first None e rest = let own : tally here (news_at j (ofs j start)) ≡ 0 = ap (λ (o : Option Loc). tally here (news_at j o)) e in omega (arith, parts, own, rest)
      by_first (Some name) e rest =
          let own : tally here (news_at j (ofs j start)) ≤ 1 = subst (λ (o : Option Loc). tally here (news_at j o) ≤ 1) (flip e) (one-news j name) in
          by_tests own (nat_lt 0 (tally here (news_at j (ofs j start)))) refl (nat_lt 0 (tally here (news j (ofs j) (start + 1) blocks))) refl
        where
          by_tests : tally here (news_at j (ofs j start)) ≤ 1 → (c : Bool) → nat_lt 0 (tally here (news_at j (ofs j start))) ≡ c → (d : Bool) → nat_lt 0 (tally here (news j (ofs j) (start + 1) blocks)) ≡ d
              → tally here (news_at j (ofs j start) ++ news j (ofs j) (start + 1) blocks) ≤ 1
          by_tests own true g true h =
              let some : 1 ≤ tally here (news_at j (ofs j start)) = grind (arith, nat_tests) in
              let more : 1 ≤ tally here (news j (ofs j) (start + 1) blocks) = grind (arith, nat_tests) in
              let is = is-here j name (subst (λ (o : Option Loc). 1 ≤ tally here (news_at j o)) e some) in
              let other = found ofs j (start + 1) blocks more in
              let numbers : name.0 ≡ other.name.0 = flip is.1 ∙ other.same in
              let again : ofs j start ≡ Some other.name = e ∙ ap (λ (k : ℕ). let x : Loc = record { 0 = k } in Some x) numbers in
              let clash = single j start other.b other.name again other.named in
              let later = other.later in
              absurd (omega (arith, clash, later))
          by_tests own true g false h = let none : tally here (news j (ofs j) (start + 1) blocks) ≡ 0 = grind (arith, nat_tests) in omega (arith, parts, own, none)
          by_tests own false g d h = let none : tally here (news_at j (ofs j start)) ≡ 0 = grind (arith, nat_tests) in omega (arith, parts, none, rest)

  -- of other functions there are none
  other-news : (ofs : ℕ → ℕ → Option Loc) (start : ℕ) (funcs : List FuncParts) → n < start → tally here (all_news ofs start funcs) ≡ 0
  other-news ofs start [] less = refl
  other-news ofs start (f ∷ funcs) less =
      let rest = other-news ofs (start + 1) funcs (omega (arith, less)) in
      let parts = tally-append here (news start (ofs start) 0 f.blocks) (all_news ofs (start + 1) funcs) in
      let own : tally here (news start (ofs start) 0 f.blocks) ≡ 0 = by_test (nat_lt 0 (tally here (news start (ofs start) 0 f.blocks))) refl in
      omega (arith, rest, parts, own)
    where
      by_test : (c : Bool) → nat_lt 0 (tally here (news start (ofs start) 0 f.blocks)) ≡ c → tally here (news start (ofs start) 0 f.blocks) ≡ 0
      by_test true g =
          let some : 1 ≤ tally here (news start (ofs start) 0 f.blocks) = grind (arith, nat_tests) in
          let own = found ofs start 0 f.blocks some in
          let same = own.func in
          absurd (omega (arith, same, less))
      by_test false g = grind (arith, nat_tests)

  -- at most one in all, and where there is one, it is a name of an edge of this function
  few-all : (ofs : ℕ → ℕ → Option Loc) (single : (n i j : ℕ) (name : Loc) → ofs n i ≡ Some name → ofs n j ≡ Some name → i ≡ j) (start : ℕ) (funcs : List FuncParts) → tally here (all_news ofs start funcs) ≤ 1
  few-all ofs single start [] = omega arith
  few-all ofs single start (f ∷ funcs) = by_test (nat_lt 0 (tally here (news start (ofs start) 0 f.blocks))) refl (few-all ofs single (start + 1) funcs)
    where
      parts : tally here (news start (ofs start) 0 f.blocks ++ all_news ofs (start + 1) funcs) ≡ tally here (news start (ofs start) 0 f.blocks) + tally here (all_news ofs (start + 1) funcs)
      parts = tally-append here (news start (ofs start) 0 f.blocks) (all_news ofs (start + 1) funcs)

      by_test : (c : Bool) → nat_lt 0 (tally here (news start (ofs start) 0 f.blocks)) ≡ c → tally here (all_news ofs (start + 1) funcs) ≤ 1
          → tally here (news start (ofs start) 0 f.blocks ++ all_news ofs (start + 1) funcs) ≤ 1
      by_test true g rest =
          let some : 1 ≤ tally here (news start (ofs start) 0 f.blocks) = grind (arith, nat_tests) in
          let own = found ofs start 0 f.blocks some in
          let same = own.func in
          let none = other-news ofs (start + 1) funcs (omega (arith, same)) in
          let few = few-news ofs single start 0 f.blocks in
          omega (arith, parts, none, few)
      by_test false g rest = let none : tally here (news start (ofs start) 0 f.blocks) ≡ 0 = grind (arith, nat_tests) in omega (arith, parts, none, rest)

  found-all : (ofs : ℕ → ℕ → Option Loc) (start : ℕ) (funcs : List FuncParts) → 1 ≤ tally here (all_news ofs start funcs) → (b : ℕ) × (name : Loc) × (ofs n b ≡ Some name) × (at ≡ name.0)
  found-all ofs start [] h = absurd (omega (arith, h))
  found-all ofs start (f ∷ funcs) h = by_test (nat_lt 0 (tally here (news start (ofs start) 0 f.blocks))) refl (found-all ofs (start + 1) funcs)
    where
      parts : tally here (news start (ofs start) 0 f.blocks ++ all_news ofs (start + 1) funcs) ≡ tally here (news start (ofs start) 0 f.blocks) + tally here (all_news ofs (start + 1) funcs)
      parts = tally-append here (news start (ofs start) 0 f.blocks) (all_news ofs (start + 1) funcs)

      by_test : (c : Bool) → nat_lt 0 (tally here (news start (ofs start) 0 f.blocks)) ≡ c
          → (1 ≤ tally here (all_news ofs (start + 1) funcs) → (b : ℕ) × (name : Loc) × (ofs n b ≡ Some name) × (at ≡ name.0)) → (b : ℕ) × (name : Loc) × (ofs n b ≡ Some name) × (at ≡ name.0)
      by_test true g rest =
          let some : 1 ≤ tally here (news start (ofs start) 0 f.blocks) = grind (arith, nat_tests) in
          let own = found ofs start 0 f.blocks some in
          (own.b, own.name, ap (λ (k : ℕ). ofs k own.b) own.func ∙ own.named, own.same)
      by_test false g rest = let none : tally here (news start (ofs start) 0 f.blocks) ≡ 0 = grind (arith, nat_tests) in rest (omega (arith, h, parts, none))

-- of names that aren't registers or labels there are none
module _ (side : Side) (test : Named → Bool) (none : (n : ℕ) (at : Loc) → test (names.Loc n at) ≡ false) where
  abbrev tests : SidedName → Bool
  tests name = on_one_side (Some side) name.0 && test name.1

  no-news : (n : ℕ) (of : ℕ → Option Loc) (b : ℕ) (blocks : List Block) → tally tests (news n of b blocks) ≡ 0
  no-news n of b [] = refl
  no-news n of b (block ∷ blocks) =
      let rest = no-news n of (b + 1) blocks in
      let parts = tally-append tests (news_at n (of b)) (news n of (b + 1) blocks) in
      let own : tally tests (news_at n (of b)) ≡ 0 = by_name (of b) in
      omega (arith, rest, parts, own)
    where
      by_side : (side : Side) → counted (same_side side M && false) (counted (same_side side S && false) 0) ≡ 0
      by_side M = refl
      by_side S = refl

      by_name : (o : Option Loc) → tally tests (news_at n o) ≡ 0
      by_name None = refl
      by_name (Some name) = rw (none n name) (by_side side)

  no-all-news : (ofs : ℕ → ℕ → Option Loc) (start : ℕ) (funcs : List FuncParts) → tally tests (all_news ofs start funcs) ≡ 0
  no-all-news ofs start [] = refl
  no-all-news ofs start (f ∷ funcs) =
      let rest = no-all-news ofs (start + 1) funcs in
      let parts = tally-append tests (news start (ofs start) 0 f.blocks) (all_news ofs (start + 1) funcs) in
      let own = no-news start (ofs start) 0 f.blocks in
      omega (arith, rest, parts, own)

module _ (table : Table) (is : IsTable table) (ofs : ℕ → ℕ → Option Loc) (m : ModuleParts) (sound : Sound m) (asked : Asked m ofs) where
  pub distinct-edges : hard_duplicate (edge_module table ofs m) ≡ None
  distinct-edges = none-again (hard_definitions (edge_module table ofs m)) few
    where
      source-few : (side : Side) (k : Named) → tally (on_side side k) (map (λ (d : HardLine × SidedName). d.1) (hard_definitions (hardened_by table m))) ≤ in_source side k (lines_of m)
      source-few side k =
          let names : tally (on_side side k) (map (λ (d : HardLine × SidedName). d.1) (hard_definitions (hardened_by table m))) ≡ in_hard side k (hard_lines (hardened_by table m)) = ap (tally (on_side side k)) (hard-names (hardened_by table m)) in
          let whole = module-tally table is side k m in
          omega (arith, names, whole)

      once : (side : Side) (k : Named) → in_source side k (lines_of m) ≤ 1
      once side k = subst (λ (xs : List Named). tally (same_name k) xs ≤ 1) (source-names m) (defined-once k (definitions m) sound.distinct)

      few : (side : Side) (k : Named) → tally (on_side side k) (map (λ (d : HardLine × SidedName). d.1) (hard_definitions (edge_module table ofs m))) ≤ 1
      few side (names.Type id) =
          let told = module-told table (on_side side (names.Type id)) ofs m in
          let none = no-all-news side (same_name (names.Type id)) (λ n at. refl) ofs 0 m.funcs in
          let most = source-few side (names.Type id) in
          let one = once side (names.Type id) in
          omega (arith, told, none, most, one)
      few side (names.Sym id) =
          let told = module-told table (on_side side (names.Sym id)) ofs m in
          let none = no-all-news side (same_name (names.Sym id)) (λ n at. refl) ofs 0 m.funcs in
          let most = source-few side (names.Sym id) in
          let one = once side (names.Sym id) in
          omega (arith, told, none, most, one)
      few side (names.Loc n at) = by_test (nat_lt 0 (tally (on_side side (names.Loc n at)) (all_news ofs 0 m.funcs))) refl
        where
          told : tally (on_side side (names.Loc n at)) (map (λ (d : HardLine × SidedName). d.1) (hard_definitions (edge_module table ofs m)))
              ≡ tally (on_side side (names.Loc n at)) (map (λ (d : HardLine × SidedName). d.1) (hard_definitions (hardened_by table m))) + tally (on_side side (names.Loc n at)) (all_news ofs 0 m.funcs)
          told = module-told table (on_side side (names.Loc n at)) ofs m

          most : tally (on_side side (names.Loc n at)) (map (λ (d : HardLine × SidedName). d.1) (hard_definitions (hardened_by table m))) ≤ in_source side (names.Loc n at) (lines_of m)
          most = source-few side (names.Loc n at)

          by_test : (c : Bool) → nat_lt 0 (tally (on_side side (names.Loc n at)) (all_news ofs 0 m.funcs)) ≡ c → tally (on_side side (names.Loc n at)) (map (λ (d : HardLine × SidedName). d.1) (hard_definitions (edge_module table ofs m))) ≤ 1
          by_test true g =
              let some : 1 ≤ tally (on_side side (names.Loc n at)) (all_news ofs 0 m.funcs) = grind (arith, nat_tests) in
              let own = found-all side n at.0 ofs 0 m.funcs some in
              let few = few-all side n at.0 ofs asked.single 0 m.funcs in
              let unnamed : (f : FuncParts) → slice_get m.funcs n ≡ Some f → is_named f at ≡ false =
              λ f there. ap (λ (k : ℕ). is_named f (record { 0 = k })) own.3 ∙ asked.new n own.0 f own.1 there own.2 in
              let zero : in_source side (names.Loc n at) (lines_of m) ≡ 0 = nowhere-defined n at.0 m unnamed in
              omega (arith, told, most, few, zero)
          by_test false g =
              let none : tally (on_side side (names.Loc n at)) (all_news ofs 0 m.funcs) ≡ 0 = grind (arith, nat_tests) in
              let one = once side (names.Loc n at) in
              omega (arith, told, none, most, one)
