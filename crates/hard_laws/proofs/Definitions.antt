-- A hardened module defines, on each side, what its module does, and as often; but where a function has no blocks, no shadows of
-- parameters.
use Rattle.std.proofs.Common.{ℕ, zero, suc, ◌≡◌, ◌∙◌, ◌+◌, Bool, true, false, List, [], ◌∷◌, ◌++◌, map, length, Option, Some, None, refl, ap, sym, arith, append_assoc}
use Rattle.std.specs.List.{flat_map, filter_map, cons_option, list_all}
use Rattle.std.specs.Option.{option_map}
use Rattle.std.proofs.lemmas.Grind.{flat_map-append}
use Rattle.std.proofs.lemmas.List.Folds.{list_all-append}
use Rattle.ir_core.proofs.Lengths.{both_true}
use Rattle.ir_core.specs.declared.types.Ty.{Ty}
use Rattle.ir_core.specs.declared.types.TypeId.{TypeId}
use Rattle.ir_core.specs.declared.types.Loc.{Loc}
use Rattle.ir_core.specs.declared.values.Side.{Side}
use Rattle.ir_core.specs.declared.values.Side.TheVariants.{M, S}
use Rattle.ir_core.specs.declared.values.GlobalVar.{GlobalVar}
use Rattle.ir_core.specs.declared.values.Declare.{Declare}
use Rattle.ir_core.specs.declared.instruction.Inst.{Inst}
use Rattle.ir_core.specs.declared.instruction.Inst.TheVariants as insts
use Rattle.ir_core.specs.declared.instruction.Block.{Block}
use Rattle.ir_core.specs.Module.{ModuleParts, FuncParts}
use Rattle.ir_flow.specs.Edges.{edges_of, is_loop_head}
use Rattle.ir_core.specs.Instructions.{result_of}
use Rattle.ir_lines.specs.Lines.{site_of, Line, TypeLine, GlobalLine, DeclareLine, HeadLine, BlockLine, InstLine, lines_of, inst_lines as source_insts, block_lines as source_block, blocks_lines as source_blocks, funcs_lines as source_funcs}
use Rattle.ir_lines.specs.declared.site.Named.{Named}
use Rattle.ir_lines.specs.declared.site.Named.TheVariants as names
use Rattle.ir_names.specs.Names.{same_name, defined_in, definitions}
use Rattle.ir_core.specs.Instructions.{is_phi}
use Rattle.hard_ir.specs.declared.instruction.HInst.{HInst}
use Rattle.hard_ir.specs.declared.instruction.HInst.TheVariants.{Mov, Do}
use Rattle.hard_ir.specs.Image.{Table, copy_of, phi_image}
use Rattle.hard_ir.specs.Hardened.{HardParts, at_entry, at_head, hard_block, hard_blocks, hard_func, hardened_by}
use Rattle.hard_ir.specs.Fit.{HardFunc, hard_funcs, HardLine, OuterLine, phi_lines, inst_lines, block_lines, blocks_lines, funcs_lines, outer_lines, hard_lines, SidedName, outer, register, result_on, defined_by, hard_defined_in, hard_definitions}
use Rattle.hard_laws.proofs.Images.{is_quiet, assigned_on, IsTable}
use Rattle.hard_laws.proofs.HardLines.{hard_of, hard-funcs, both}
use Rattle.hard_laws.proofs.Tallies.{tally, tally-append, counted, counted-more, on_side}

-- ---- names without their lines

names-before : {A B : Type 0} (with : A) (own : List B) (rest : List (A × B)) → map (λ (d : A × B). d.1) (map (λ name. (with, name)) own ++ rest) ≡ own ++ map (λ (d : A × B). d.1) rest
names-before with [] rest = refl
names-before {A} {B} with (name ∷ own) rest = ap (λ (names : List B). name ∷ names) (names-before with own rest)

only-names : {A B C : Type 0} (with : A → C) (names_in : A → List B) (xs : List A) → map (λ (d : C × B). d.1) (flat_map (λ x. map (λ name. (with x, name)) (names_in x)) xs) ≡ flat_map names_in xs
only-names with names_in [] = refl
only-names {A} {B} {C} with names_in (x ∷ xs) =
    names-before (with x) (names_in x) (flat_map (λ x. map (λ name. (with x, name)) (names_in x)) xs) ∙ ap (λ (rest : List B). names_in x ++ rest) (only-names with names_in xs)

pub source-names : (m : ModuleParts) → map (λ d. d.1) (definitions m) ≡ flat_map defined_in (lines_of m)
source-names m = only-names site_of defined_in (lines_of m)

pub hard-names : (h : HardParts) → map (λ d. d.1) (hard_definitions h) ≡ flat_map hard_defined_in (hard_lines h)
hard-names h = only-names (λ line. line) hard_defined_in (hard_lines h)

-- ---- tallies of one side

module _ (side : Side) (k : Named) where
  -- how often lines of the source, and hardened lines, define a name
  abbrev pub in_source : List Line → ℕ
  in_source lines = tally (same_name k) (flat_map defined_in lines)

  abbrev pub in_hard : List HardLine → ℕ
  in_hard lines = tally (on_side side k) (flat_map hard_defined_in lines)

  pub source-append : (xs ys : List Line) → in_source (xs ++ ys) ≡ in_source xs + in_source ys
  source-append xs ys = ap (tally (same_name k)) (flat_map-append defined_in xs ys) ∙ tally-append (same_name k) (flat_map defined_in xs) (flat_map defined_in ys)

  hard-append : (xs ys : List HardLine) → in_hard (xs ++ ys) ≡ in_hard xs + in_hard ys
  hard-append xs ys = ap (tally (on_side side k)) (flat_map-append hard_defined_in xs ys) ∙ tally-append (on_side side k) (flat_map hard_defined_in xs) (flat_map hard_defined_in ys)

  -- types, globals and declares
  abbrev is_outer : Line → Bool
  is_outer (TypeLine named) = true
  is_outer (GlobalLine global) = true
  is_outer (DeclareLine declare) = true
  is_outer line = false

  outer-tally : (lines : List Line) → list_all is_outer lines ≡ true → in_hard (map OuterLine lines) ≡ in_source lines
  outer-tally [] e = refl
  outer-tally (TypeLine named ∷ lines) e = ap (counted (same_name k (names.Type named.0))) (outer-tally lines e)
  outer-tally (GlobalLine global ∷ lines) e = ap (counted (same_name k (names.Sym global.sym))) (outer-tally lines e)
  outer-tally (DeclareLine declare ∷ lines) e = ap (counted (same_name k (names.Sym declare.sym))) (outer-tally lines e)
  outer-tally (HeadLine n f ∷ lines) e = cc
  outer-tally (BlockLine n f b block ∷ lines) e = cc
  outer-tally (InstLine n f b i inst ∷ lines) e = cc

  -- parameters: masters at the head, shadows at the entry
  abbrev params_named : ℕ → List (Ty × Loc) → ℕ
  params_named n params = tally (same_name k) (map (λ param. names.Loc n param.1) params)

  abbrev at_side : Side → ℕ → ℕ
  at_side M n = n
  at_side S n = 0

  abbrev off_side : Side → ℕ → ℕ
  off_side M n = 0
  off_side S n = n

  -- ---- one instruction

  result-tally : (n : ℕ) (inst : Inst) → tally (same_name k) (map (names.Loc n) (cons_option (result_of inst) [])) ≡ tally (same_name k) (cons_option (option_map (names.Loc n) (result_of inst)) [])
  result-tally n inst = by_result (result_of inst)
    where
      by_result : (o : Option Loc) → tally (same_name k) (map (names.Loc n) (cons_option o [])) ≡ tally (same_name k) (cons_option (option_map (names.Loc n) o) [])
      by_result None = refl
      by_result (Some dst) = refl

params-head : (side : Side) (k : Named) (n : ℕ) (params : List (Ty × Loc)) (rest : List SidedName)
    → tally (on_side side k) (map outer (map (λ (param : Ty × Loc). names.Loc n param.1) params) ++ rest) ≡ at_side side k side (params_named side k n params) + tally (on_side side k) rest
params-head M k n [] rest = omega arith
params-head S k n [] rest = omega arith
params-head M k n (x ∷ xs) rest =
    ap (counted (same_name k (names.Loc n x.1))) (params-head M k n xs rest) ∙ counted-more (same_name k (names.Loc n x.1)) (params_named M k n xs) (tally (on_side M k) rest)
params-head S k n (x ∷ xs) rest = params-head S k n xs rest

params-entry : (side : Side) (k : Named) (n : ℕ) (params : List (Ty × Loc)) → tally (on_side side k) (flat_map (defined_by n) (map copy_of params)) ≡ off_side side k side (params_named side k n params)
params-entry M k n [] = refl
params-entry S k n [] = refl
params-entry M k n (x ∷ xs) = params-entry M k n xs
params-entry S k n (x ∷ xs) = ap (counted (same_name k (names.Loc n x.1))) (params-entry S k n xs)

-- an item defines a register on a side where it assigns it there
item-tally : (side : Side) (k : Named) (n : ℕ) (item : HInst) (rest : List SidedName) (more : List Loc) → tally (on_side side k) rest ≡ tally (same_name k) (map (names.Loc n) more)
    → tally (on_side side k) (defined_by n item ++ rest) ≡ tally (same_name k) (map (names.Loc n) (cons_option (assigned_on side item) more))
item-tally M k n (Do M inst retires) rest more e = by_result (result_of inst)
  where
    by_result : (o : Option Loc) → tally (on_side M k) (cons_option (option_map (register n M) o) [] ++ rest) ≡ tally (same_name k) (map (names.Loc n) (cons_option o more))
    by_result None = e
    by_result (Some dst) = ap (counted (same_name k (names.Loc n dst))) e
item-tally S k n (Do S inst retires) rest more e = by_result (result_of inst)
  where
    by_result : (o : Option Loc) → tally (on_side S k) (cons_option (option_map (register n S) o) [] ++ rest) ≡ tally (same_name k) (map (names.Loc n) (cons_option o more))
    by_result None = e
    by_result (Some dst) = ap (counted (same_name k (names.Loc n dst))) e
item-tally M k n (Do S inst retires) rest more e = by_result (result_of inst)
  where
    by_result : (o : Option Loc) → tally (on_side M k) (cons_option (option_map (register n S) o) [] ++ rest) ≡ tally (same_name k) (map (names.Loc n) more)
    by_result None = e
    by_result (Some dst) = e
item-tally S k n (Do M inst retires) rest more e = by_result (result_of inst)
  where
    by_result : (o : Option Loc) → tally (on_side S k) (cons_option (option_map (register n M) o) [] ++ rest) ≡ tally (same_name k) (map (names.Loc n) more)
    by_result None = e
    by_result (Some dst) = e
item-tally M k n (Mov ty reg) rest more e = e
item-tally S k n (Mov ty reg) rest more e = ap (counted (same_name k (names.Loc n reg))) e
item-tally M k n item rest more e = e
item-tally S k n item rest more e = e

items-tally : (side : Side) (k : Named) (n : ℕ) (items : List HInst) → tally (on_side side k) (flat_map (defined_by n) items) ≡ tally (same_name k) (map (names.Loc n) (filter_map (assigned_on side) items))
items-tally side k n [] = refl
items-tally side k n (item ∷ items) = item-tally side k n item (flat_map (defined_by n) items) (filter_map (assigned_on side) items) (items-tally side k n items)

quiet-tally : (test : SidedName → Bool) (n : ℕ) (items : List HInst) → list_all is_quiet items ≡ true → tally test (flat_map (defined_by n) items) ≡ 0
quiet-tally test n [] e = refl
quiet-tally test n (item ∷ items) e = by_item item (both_true (is_quiet item) (list_all is_quiet items) e).0 (quiet-tally test n items (both_true (is_quiet item) (list_all is_quiet items) e).1)
  where
    by_item : (item : HInst) → is_quiet item ≡ true → tally test (flat_map (defined_by n) items) ≡ 0 → tally test (defined_by n item ++ flat_map (defined_by n) items) ≡ 0
    by_item (Do side inst retires) q rest = cc
    by_item (Mov ty reg) q rest = cc
    by_item item q rest = rest

phi-tally : (side : Side) (k : Named) (n : ℕ) (dst : Loc) → tally (on_side side k) (register n M dst ∷ register n S dst ∷ []) ≡ counted (same_name k (names.Loc n dst)) 0
phi-tally M k n dst = refl
phi-tally S k n dst = refl

-- the result of one phi or of one image
module _ (table : Table) (is : IsTable table) (side : Side) (k : Named) (n : ℕ) where
  abbrev phi_names : List (Side × Inst) → List SidedName
  phi_names phis = flat_map (λ phi. result_on n phi.0 phi.1) phis

  abbrev source_result : Inst → ℕ
  source_result inst = tally (same_name k) (cons_option (option_map (names.Loc n) (result_of inst)) [])

  image-tally : (inst : Inst) → is_phi inst ≡ false → tally (on_side side k) (flat_map (defined_by n) (table.image inst)) ≡ source_result inst
  image-tally inst e =
      items-tally side k n (table.image inst) ∙ ap (λ (regs : List Loc). tally (same_name k) (map (names.Loc n) regs)) ((is.image inst e).assigns side) ∙ result-tally side k n inst

  one-tally : (inst : Inst) → tally (on_side side k) (phi_names (phi_image inst)) + tally (on_side side k) (flat_map (defined_by n) (table.image inst)) ≡ source_result inst
  one-tally (insts.Phi dst ty arms) =
      let none : tally (on_side side k) (flat_map (defined_by n) (table.image (insts.Phi dst ty arms))) ≡ 0 = ap (λ (items : List HInst). tally (on_side side k) (flat_map (defined_by n) items)) (is.phi (insts.Phi dst ty arms) refl) in
      let both : tally (on_side side k) (phi_names (phi_image (insts.Phi dst ty arms))) ≡ source_result (insts.Phi dst ty arms) = phi-tally side k n dst in
      omega arith
  one-tally inst = let there = image-tally inst refl in omega arith

  body-tally : (body : List Inst) → tally (on_side side k) (phi_names (flat_map phi_image body)) + tally (on_side side k) (flat_map (defined_by n) (flat_map table.image body))
      ≡ tally (same_name k) (flat_map (λ inst. cons_option (option_map (names.Loc n) (result_of inst)) []) body)
  body-tally [] = refl
  body-tally (inst ∷ body) =
      let first = one-tally inst in
      let rest = body-tally body in
      let phis : tally (on_side side k) (phi_names (flat_map phi_image (inst ∷ body))) ≡ tally (on_side side k) (phi_names (phi_image inst)) + tally (on_side side k) (phi_names (flat_map phi_image body)) =
      ap (tally (on_side side k)) (flat_map-append (λ phi. result_on n phi.0 phi.1) (phi_image inst) (flat_map phi_image body)) ∙ tally-append (on_side side k) (phi_names (phi_image inst)) (phi_names (flat_map phi_image body)) in
      let items : tally (on_side side k) (flat_map (defined_by n) (flat_map table.image (inst ∷ body))) ≡ tally (on_side side k) (flat_map (defined_by n) (table.image inst)) + tally (on_side side k) (flat_map (defined_by n) (flat_map table.image body)) =
      ap (tally (on_side side k)) (flat_map-append (defined_by n) (table.image inst) (flat_map table.image body)) ∙ tally-append (on_side side k) (flat_map (defined_by n) (table.image inst)) (flat_map (defined_by n) (flat_map table.image body)) in
      let whole = tally-append (same_name k) (cons_option (option_map (names.Loc n) (result_of inst)) []) (flat_map (λ inst. cons_option (option_map (names.Loc n) (result_of inst)) []) body) in
      omega arith

-- ---- lines of blocks

phi-lines-names : (n : ℕ) (f : HardFunc) (b i : ℕ) (phis : List (Side × Inst)) → flat_map hard_defined_in (phi_lines n f b i phis) ≡ flat_map (λ phi. result_on n phi.0 phi.1) phis
phi-lines-names n f b i [] = refl
phi-lines-names n f b i (phi ∷ phis) = ap (λ (rest : List SidedName). result_on n phi.0 phi.1 ++ rest) (phi-lines-names n f b (i + 1) phis)

inst-lines-names : (n : ℕ) (f : HardFunc) (b i : ℕ) (items : List HInst) → flat_map hard_defined_in (inst_lines n f b i items) ≡ flat_map (defined_by n) items
inst-lines-names n f b i [] = refl
inst-lines-names n f b i (item ∷ items) = ap (λ (rest : List SidedName). defined_by n item ++ rest) (inst-lines-names n f b (i + 1) items)

source-insts-names : (n : ℕ) (f : FuncParts) (b i : ℕ) (body : List Inst) → flat_map defined_in (source_insts n f b i body) ≡ flat_map (λ inst. cons_option (option_map (names.Loc n) (result_of inst)) []) body
source-insts-names n f b i [] = refl
source-insts-names n f b i (inst ∷ body) = ap (λ (rest : List Named). cons_option (option_map (names.Loc n) (result_of inst)) [] ++ rest) (source-insts-names n f b (i + 1) body)

module _ (table : Table) (is : IsTable table) (side : Side) (k : Named) where
  -- what stands at an entry
  abbrev entry_names : ℕ → ℕ → FuncParts → ℕ
  entry_names n zero f = off_side side k side (params_named side k n f.params)
  entry_names n (suc b) f = 0

  entry-tally : (n b : ℕ) (f : FuncParts) → tally (on_side side k) (flat_map (defined_by n) (at_entry table f b)) ≡ entry_names n b f
  entry-tally n zero f =
      let entry = is.entry f.params in
      let parts : tally (on_side side k) (flat_map (defined_by n) (table.entry f.params)) ≡ tally (on_side side k) (flat_map (defined_by n) (map copy_of f.params)) + tally (on_side side k) (flat_map (defined_by n) entry.0) =
      ap (λ (items : List HInst). tally (on_side side k) (flat_map (defined_by n) items)) entry.1 ∙ ap (tally (on_side side k)) (flat_map-append (defined_by n) (map copy_of f.params) entry.0)
      ∙ tally-append (on_side side k) (flat_map (defined_by n) (map copy_of f.params)) (flat_map (defined_by n) entry.0) in
      let copied = params-entry side k n f.params in
      let none = quiet-tally (on_side side k) n entry.0 entry.2 in
      omega arith
  entry-tally n (suc b) f = refl

  head-tally : (n : ℕ) (t : Bool) → tally (on_side side k) (flat_map (defined_by n) (at_head table t)) ≡ 0
  head-tally n true = quiet-tally (on_side side k) n table.head is.head
  head-tally n false = refl

  block-tally : (n b : ℕ) (f : FuncParts) (block : Block)
      → in_hard side k (block_lines n (hard_of table f) b (hard_block table f b block)) ≡ in_source side k (source_block n f b block) + entry_names n b f
  block-tally n b f block =
      let hard = hard_block table f b block in
      let t = is_loop_head (edges_of f).pairs b in
      let test = on_side side k in
      let lines : in_hard side k (phi_lines n (hard_of table f) b 0 hard.phis ++ inst_lines n (hard_of table f) b (length hard.phis) hard.list)
      ≡ tally test (flat_map (λ phi. result_on n phi.0 phi.1) hard.phis) + tally test (flat_map (defined_by n) hard.list) =
      hard-append side k (phi_lines n (hard_of table f) b 0 hard.phis) (inst_lines n (hard_of table f) b (length hard.phis) hard.list)
      ∙ ap (λ (x : List SidedName). tally test x + in_hard side k (inst_lines n (hard_of table f) b (length hard.phis) hard.list)) (phi-lines-names n (hard_of table f) b 0 hard.phis)
      ∙ ap (λ (x : List SidedName). tally test (flat_map (λ phi. result_on n phi.0 phi.1) hard.phis) + tally test x) (inst-lines-names n (hard_of table f) b (length hard.phis) hard.list) in
      let outside : tally test (flat_map (defined_by n) hard.list)
      ≡ tally test (flat_map (defined_by n) (at_entry table f b)) + tally test (flat_map (defined_by n) (at_head table t ++ flat_map table.image block.insts)) =
      ap (tally test) (flat_map-append (defined_by n) (at_entry table f b) (at_head table t ++ flat_map table.image block.insts)) ∙ tally-append test (flat_map (defined_by n) (at_entry table f b)) (flat_map (defined_by n) (at_head table t ++ flat_map table.image block.insts)) in
      let inside : tally test (flat_map (defined_by n) (at_head table t ++ flat_map table.image block.insts))
      ≡ tally test (flat_map (defined_by n) (at_head table t)) + tally test (flat_map (defined_by n) (flat_map table.image block.insts)) =
      ap (tally test) (flat_map-append (defined_by n) (at_head table t) (flat_map table.image block.insts)) ∙ tally-append test (flat_map (defined_by n) (at_head table t)) (flat_map (defined_by n) (flat_map table.image block.insts)) in
      let entry = entry-tally n b f in
      let head = head-tally n t in
      let body = body-tally table is side k n block.insts in
      let source : tally (same_name k) (flat_map defined_in (source_insts n f b 0 block.insts)) ≡ tally (same_name k) (flat_map (λ inst. cons_option (option_map (names.Loc n) (result_of inst)) []) block.insts) =
      ap (tally (same_name k)) (source-insts-names n f b 0 block.insts) in
      let all : in_hard side k (phi_lines n (hard_of table f) b 0 hard.phis ++ inst_lines n (hard_of table f) b (length hard.phis) hard.list) ≡ tally (same_name k) (flat_map defined_in (source_insts n f b 0 block.insts)) + entry_names n b f = omega arith in
      ap (counted (same_name k (names.Loc n block.label))) all ∙ counted-more (same_name k (names.Loc n block.label)) (tally (same_name k) (flat_map defined_in (source_insts n f b 0 block.insts))) (entry_names n b f)

  later-tally : (n c b : ℕ) (f : FuncParts) (blocks : List Block) → b ≡ suc c → in_hard side k (blocks_lines n (hard_of table f) b (hard_blocks table f b blocks)) ≡ in_source side k (source_blocks n f b blocks)
  later-tally n c b f [] e = refl
  later-tally n c b f (block ∷ blocks) e =
      let hard = hard-append side k (block_lines n (hard_of table f) b (hard_block table f b block)) (blocks_lines n (hard_of table f) (b + 1) (hard_blocks table f (b + 1) blocks)) in
      let source = source-append side k (source_block n f b block) (source_blocks n f (b + 1) blocks) in
      let own = block-tally n b f block in
      let none : entry_names n b f ≡ 0 = ap (λ (x : ℕ). entry_names n x f) e in
      let first : in_hard side k (block_lines n (hard_of table f) b (hard_block table f b block)) ≡ in_source side k (source_block n f b block) = omega arith in
      let rest : in_hard side k (blocks_lines n (hard_of table f) (b + 1) (hard_blocks table f (b + 1) blocks)) ≡ in_source side k (source_blocks n f (b + 1) blocks) = later-tally n b (b + 1) f blocks (omega arith) in
      hard ∙ ap (λ (x : ℕ). x + in_hard side k (blocks_lines n (hard_of table f) (b + 1) (hard_blocks table f (b + 1) blocks))) first
      ∙ ap (λ (x : ℕ). in_source side k (source_block n f b block) + x) rest ∙ sym source

  -- the shadows of parameters that lack
  abbrev pub lacking : ℕ → FuncParts → List Block → ℕ
  lacking n f [] = off_side side k side (params_named side k n f.params)
  lacking n f (block ∷ blocks) = 0

  blocks-tally : (n : ℕ) (f : FuncParts) (blocks : List Block)
      → in_hard side k (blocks_lines n (hard_of table f) 0 (hard_blocks table f 0 blocks)) + lacking n f blocks ≡ in_source side k (source_blocks n f 0 blocks) + off_side side k side (params_named side k n f.params)
  blocks-tally n f [] = refl
  blocks-tally n f (block ∷ blocks) =
      let first = block-tally n 0 f block in
      let rest = later-tally n 0 (0 + 1) f blocks (omega arith) in
      let hard = hard-append side k (block_lines n (hard_of table f) 0 (hard_block table f 0 block)) (blocks_lines n (hard_of table f) (0 + 1) (hard_blocks table f (0 + 1) blocks)) in
      let source = source-append side k (source_block n f 0 block) (source_blocks n f (0 + 1) blocks) in
      omega arith

  sides-sum : (n : ℕ) → at_side side k side n + off_side side k side n ≡ n
  sides-sum n = by_side side
    where
      by_side : (own : Side) → at_side side k own n + off_side side k own n ≡ n
      by_side M = omega arith
      by_side S = omega arith

  abbrev pub all_lacking : ℕ → List FuncParts → ℕ
  all_lacking n [] = 0
  all_lacking n (f ∷ funcs) = lacking n f f.blocks + all_lacking (n + 1) funcs

  func-sum : (c : Bool) (at off params blocks lack source rest more others : ℕ) → at + off ≡ params → blocks + lack ≡ source + off → rest + more ≡ others
      → counted c (at + (blocks + rest)) + (lack + more) ≡ counted c (params + (source + others))
  func-sum true at off params blocks lack source rest more others p q r = omega arith
  func-sum false at off params blocks lack source rest more others p q r = omega arith

  funcs-tally : (n : ℕ) (funcs : List FuncParts) → in_hard side k (funcs_lines n (map (hard_of table) funcs)) + all_lacking n funcs ≡ in_source side k (source_funcs n funcs)
  funcs-tally n [] = refl
  funcs-tally n (f ∷ funcs) =
      let own : List HardLine = blocks_lines n (hard_of table f) 0 (hard_func table f) in
      let others : List HardLine = funcs_lines (n + 1) (map (hard_of table) funcs) in
      let c : Bool = same_name k (names.Sym f.sym) in
      let params : ℕ = params_named side k n f.params in
      let at : ℕ = at_side side k side params in
      let lack : ℕ = lacking n f f.blocks in
      let more : ℕ = all_lacking (n + 1) funcs in
      let head = params-head side k n f.params (flat_map hard_defined_in (own ++ others)) in
      let hard = hard-append side k own others in
      let source = source-append side k (source_blocks n f 0 f.blocks) (source_funcs (n + 1) funcs) in
      let named = tally-append (same_name k) (map (λ (param : Ty × Loc). names.Loc n param.1) f.params) (flat_map defined_in (source_blocks n f 0 f.blocks ++ source_funcs (n + 1) funcs)) in
      ap (λ (x : ℕ). counted c x + (lack + more)) (head ∙ ap (λ (x : ℕ). at + x) hard)
      ∙ func-sum c at (off_side side k side params) params (in_hard side k own) lack (in_source side k (source_blocks n f 0 f.blocks)) (in_hard side k others) more (in_source side k (source_funcs (n + 1) funcs))
      (sides-sum params) (blocks-tally n f f.blocks) (funcs-tally (n + 1) funcs)
      ∙ ap (counted c) (sym (named ∙ ap (λ (x : ℕ). params + x) source))

  kinds : (m : ModuleParts) → list_all (is_outer side k) (outer_lines m) ≡ true
  kinds m =
      list_all-append (is_outer side k) (map TypeLine m.types ++ map GlobalLine m.globals) (map DeclareLine m.declares)
      ∙ both (list_all-append (is_outer side k) (map TypeLine m.types) (map GlobalLine m.globals) ∙ both (types_are m.types) (globals_are m.globals)) (declares_are m.declares)
    where
      types_are : (xs : List (TypeId × Ty)) → list_all (is_outer side k) (map TypeLine xs) ≡ true
      types_are [] = refl
      types_are (x ∷ xs) = types_are xs

      globals_are : (xs : List GlobalVar) → list_all (is_outer side k) (map GlobalLine xs) ≡ true
      globals_are [] = refl
      globals_are (x ∷ xs) = globals_are xs

      declares_are : (xs : List Declare) → list_all (is_outer side k) (map DeclareLine xs) ≡ true
      declares_are [] = refl
      declares_are (x ∷ xs) = declares_are xs

  pub module-tally : (m : ModuleParts) → in_hard side k (hard_lines (hardened_by table m)) + all_lacking 0 m.funcs ≡ in_source side k (lines_of m)
  module-tally m =
      let hard : in_hard side k (hard_lines (hardened_by table m)) ≡ in_source side k (outer_lines m) + in_hard side k (funcs_lines 0 (map (hard_of table) m.funcs)) =
      hard-append side k (map OuterLine (outer_lines m)) (funcs_lines 0 (hard_funcs (hardened_by table m)))
      ∙ ap (λ (x : ℕ). x + in_hard side k (funcs_lines 0 (hard_funcs (hardened_by table m)))) (outer-tally side k (outer_lines m) (kinds m))
      ∙ ap (λ (funcs : List HardFunc). in_source side k (outer_lines m) + in_hard side k (funcs_lines 0 funcs)) (hard-funcs table m) in
      let source : in_source side k (lines_of m) ≡ in_source side k (outer_lines m) + in_source side k (source_funcs 0 m.funcs) =
      ap (in_source side k) (sym (append_assoc (map TypeLine m.types ++ map GlobalLine m.globals) (map DeclareLine m.declares) (source_funcs 0 m.funcs)))
      ∙ source-append side k (outer_lines m) (source_funcs 0 m.funcs) in
      let funcs = funcs-tally 0 m.funcs in
      omega arith
