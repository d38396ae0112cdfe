-- The hardened module of the whole image table is an image of its source, and an exact image is a loose one.
use Rattle.std.proofs.Common.{ℕ, zero, suc, ◌≡◌, ◌∙◌, ◌+◌, ◌<◌, ◌≤◌, ◌^◌, Bool, true, false, ◌&&◌, List, [], ◌∷◌, ◌++◌, map, length, slice_get, Option, Some, None, refl, ap, sym, subst, arith, append-nil, append_assoc}
use Rattle.std.specs.Prelude.{nat_lt, if◌then◌else◌}
use Rattle.std.specs.List.{All, flat_map, list_all}
use Rattle.std.proofs.lemmas.List.{length-map}
use Rattle.std.proofs.lemmas.List.Folds.{list_all-append}
use Rattle.std.proofs.lemmas.Bool.Decides.{nat_tests}
use Rattle.ir_core.proofs.Lengths.{both_true}
use Rattle.ir_core.specs.declared.types.Ty.{Ty}
use Rattle.ir_core.specs.declared.types.Ty.TheVariants as types
use Rattle.ir_core.specs.declared.types.Loc.{Loc}
use Rattle.ir_core.specs.declared.values.Val.{Val}
use Rattle.ir_core.specs.declared.values.Val.TheVariants as values
use Rattle.ir_core.specs.declared.instruction.Inst.{Inst}
use Rattle.ir_core.specs.declared.instruction.Inst.TheVariants as insts
use Rattle.ir_core.specs.declared.instruction.Block.{Block}
use Rattle.ir_core.specs.Module.{ModuleParts, FuncParts}
use Rattle.ir_core.specs.Instructions.{is_phi}
use Rattle.ir_flow.specs.Edges.{edges_of, is_loop_head}
use Rattle.hard_ir.specs.declared.instruction.When.{When}
use Rattle.hard_ir.specs.declared.instruction.HInst.{HInst}
use Rattle.hard_ir.specs.declared.instruction.HInst.TheVariants.{Cut, Begin, End, Tick, Chk, ChkMem, Mov, Do}
use Rattle.hard_ir.specs.declared.instruction.HBlock.{HBlock}
use Rattle.hard_ir.specs.Image.{Table, unflagged, done_by, copies, single_result, copy_of, phi_image, check_when, checked_when, checked_before, checks_before, is_done_twice, core, checks_after, CallKind, Inner, Outer, OfLock, ends_for, begins_for, kind_of, ends_before, begins_after, body_of, placed, cut_point, place_table, leaves, tick_if, tick_before, row, split_table, is_ender, to_ender, since_ender, with_work, ticked}
use Rattle.ir_calls.specs.Calls.{external_named}
use Rattle.hard_ir.specs.Hardened.{HardParts, heads_of, at_entry, at_head, hard_block, hard_blocks, hard_func, ticked_block, harden}
use Rattle.hard_ir.specs.Facts.{IsShort, AreShort, list_limit}
use Rattle.hard_ir.specs.Images.{EdgeNames, CodeRule, IsBlockImage, IsFuncImage, IsImageBy, cuts_onto, Rows, NoRow, PhiRow, Row, is_small, IsCode, IsImage, ticks_onto, body_onto, LooseRows, Over, CutMark, BeginMark, Phi, Next, copied_in, IsLooseCode, IsLooseImage}
use Rattle.hard_laws.proofs.HardLines.{both}

-- what holds of each holds of one
pub all-got : {A : Type 0} (P : A → Type 0) (xs : List A) (k : ℕ) (x : A) → All P xs → slice_get xs k ≡ Some x → P x
all-got P [] k x all at = let clash : None ≡ Some x = at in cc
all-got P (y ∷ ys) zero x all at = let same : y ≡ x = cc in subst P same (all 0 y (omega arith))
all-got P (y ∷ ys) (suc k) x all at = all-got P ys k x (λ j d h. all (suc j) d (omega arith)) at

-- ---- the table's rows

phi-row : (m : ModuleParts) (work : ℕ) (inst : Inst) → is_phi inst ≡ true → row m work inst ≡ []
phi-row m work (insts.Phi dst ty arms) e = refl
phi-row m work inst e = absurd cc

pub table-rows : (m : ModuleParts) (body : List Inst) → Rows m body (flat_map (row m 0) body)
table-rows m [] = NoRow refl refl
table-rows m (inst ∷ body) = by_kind (is_phi inst) refl (table-rows m body)
  where
    by_kind : (b : Bool) → is_phi inst ≡ b → Rows m body (flat_map (row m 0) body) → Rows m (inst ∷ body) (flat_map (row m 0) (inst ∷ body))
    by_kind true e rest = PhiRow inst body refl e (subst (λ (code : List HInst). Rows m body (code ++ flat_map (row m 0) body)) (sym (phi-row m 0 inst e)) rest)
    by_kind false e rest = Row inst body 0 0 (flat_map (row m 0) body) refl e refl rest

-- ---- items that are no ticks

abbrev pub is_tickless : HInst → Bool
is_tickless (Tick work) = false
is_tickless item = true

pub tickless-both : (xs ys : List HInst) → list_all is_tickless xs ≡ true → list_all is_tickless ys ≡ true → list_all is_tickless (xs ++ ys) ≡ true
tickless-both xs ys e f = list_all-append is_tickless xs ys ∙ both e f

checks-tickless : (when : When) (operands : List (Ty × Val)) → list_all is_tickless (flat_map (check_when when) operands) ≡ true
checks-tickless when [] = refl
checks-tickless when ((ty, values.Reg reg) ∷ operands) = checks-tickless when operands
checks-tickless when ((ty, val) ∷ operands) = checks-tickless when operands

copies-tickless : (result : Option (Ty × Loc)) → list_all is_tickless (copies result) ≡ true
copies-tickless None = refl
copies-tickless (Some reg) = refl

done-tickless : (twice : Bool) (inst : Inst) → list_all is_tickless (done_by twice inst) ≡ true
done-tickless true inst = refl
done-tickless false inst = copies-tickless (single_result inst)

core-tickless : (inst : Inst) → list_all is_tickless (core inst) ≡ true
core-tickless (insts.Phi dst ty arms) = refl
core-tickless inst = done-tickless (is_done_twice inst) (unflagged inst)

after-tickless : (inst : Inst) → list_all is_tickless (checks_after inst) ≡ true
after-tickless (insts.Store ty val (values.Reg ptr) false) = refl
after-tickless (insts.Store ty val ptr false) = refl
after-tickless inst = refl

ends-tickless : (m : ModuleParts) (inst : Inst) → list_all is_tickless (ends_before m inst) ≡ true
ends-tickless m (insts.Call dst ret callee args) = by_kind (kind_of (external_named m callee))
  where
    by_kind : (kind : CallKind) → list_all is_tickless (ends_for kind) ≡ true
    by_kind Inner = refl
    by_kind Outer = refl
    by_kind OfLock = refl
ends-tickless m inst = refl

begins-tickless : (m : ModuleParts) (inst : Inst) → list_all is_tickless (begins_after m inst) ≡ true
begins-tickless m (insts.Call dst ret callee args) = by_kind (kind_of (external_named m callee))
  where
    by_kind : (kind : CallKind) → list_all is_tickless (begins_for kind) ≡ true
    by_kind Inner = refl
    by_kind Outer = refl
    by_kind OfLock = refl
begins-tickless m inst = refl

pub placed-tickless : (m : ModuleParts) (inst : Inst) → list_all is_tickless (placed m inst) ≡ true
placed-tickless m inst =
    tickless-both (checks_before inst) (body_of m inst ++ begins_after m inst) (checks-tickless (checked_when inst) (checked_before inst))
    (tickless-both (body_of m inst) (begins_after m inst)
    (tickless-both (ends_before m inst) (core inst ++ checks_after inst) (ends-tickless m inst) (tickless-both (core inst) (checks_after inst) (core-tickless inst) (after-tickless inst)))
    (begins-tickless m inst))

copied-tickless : (params : List (Ty × Loc)) → list_all is_tickless (map copy_of params) ≡ true
copied-tickless [] = refl
copied-tickless (param ∷ params) = copied-tickless params

pub entry-tickless : (m : ModuleParts) (f : FuncParts) (b : ℕ) → list_all is_tickless (at_entry (split_table m) f b) ≡ true
entry-tickless m f zero = tickless-both (map copy_of f.params) cut_point (copied-tickless f.params) refl
entry-tickless m f (suc b) = refl

pub head-tickless : (m : ModuleParts) (loops : Bool) → list_all is_tickless (at_head (split_table m) loops) ≡ true
head-tickless m true = refl
head-tickless m false = refl

-- ---- ticks get numbers

-- what stands since the last ender after these items
abbrev since_all : ℕ → List HInst → ℕ
since_all since [] = since
since_all since (item ∷ items) = since_all (since_ender since item) items

work-tickless : (work : ℕ) (item : HInst) → is_tickless item ≡ true → with_work work item ≡ item
work-tickless work (Tick old) e = cc
work-tickless work item e = refl

pub ticked-tickless : (since : ℕ) (xs ys : List HInst) → list_all is_tickless xs ≡ true → ticked since (xs ++ ys) ≡ xs ++ ticked (since_all since xs) ys
ticked-tickless since [] ys e = refl
ticked-tickless since (x ∷ xs) ys e =
    let parts = both_true (is_tickless x) (list_all is_tickless xs) e in
    ap (λ (item : HInst). item ∷ ticked (since_ender since x) (xs ++ ys)) (work-tickless (since + to_ender (x ∷ xs ++ ys)) x parts.0)
    ∙ ap (λ (items : List HInst). x ∷ items) (ticked-tickless (since_ender since x) xs ys parts.1)

module _ (m : ModuleParts) where
  -- a row with another number, before code that is ticked on
  record Renumbered (inst : Inst) (since : ℕ) (work : ℕ) (rest : List HInst) : Type 0 where
    other : ℕ
    after : ℕ
    is : ticked since (row m work inst ++ rest) ≡ row m other inst ++ ticked after rest

  ticked-row : (inst : Inst) (since work : ℕ) (rest : List HInst) → Renumbered inst since work rest
  ticked-row inst since work rest = let found = by_kind (leaves inst) in record { other = found.0; after = found.1; is = found.2 }
    where
      by_kind : (b : Bool) → (other : ℕ) × (after : ℕ) × (ticked since ((tick_if b work ++ placed m inst) ++ rest) ≡ (tick_if b other ++ placed m inst) ++ ticked after rest)
      by_kind true = (
        since + to_ender (Tick work ∷ placed m inst ++ rest),
        since_all (suc since) (placed m inst),
        ap (λ (items : List HInst). Tick (since + to_ender (Tick work ∷ placed m inst ++ rest)) ∷ items) (ticked-tickless (suc since) (placed m inst) rest (placed-tickless m inst)),
      )
      by_kind false = (0, since_all since (placed m inst), ticked-tickless since (placed m inst) rest (placed-tickless m inst))

  -- so are points of cuts passed over
  record Passed (cuts : ℕ) (since : ℕ) (rest : List HInst) : Type 0 where
    after : ℕ
    is : ticked since (cuts_onto cuts rest) ≡ cuts_onto cuts (ticked after rest)

  ticked-cuts : (cuts since : ℕ) (rest : List HInst) → Passed cuts since rest
  ticked-cuts zero since rest = record { after = since; is = refl }
  ticked-cuts (suc cuts) since rest =
      let more = ticked-cuts cuts (suc (suc since)) rest in
      record { after = more.after; is = ap (λ (code : List HInst). Cut ∷ Begin ∷ code) more.is }

  pub ticked-rows : {body : List Inst} {code : List HInst} (since : ℕ) → Rows m body code → Rows m body (ticked since code)
  ticked-rows since (NoRow e f) = NoRow e (ap (ticked since) f)
  ticked-rows since (PhiRow phi behind e p rest) = PhiRow phi behind e p (ticked-rows since rest)
  ticked-rows since (Row inst behind cuts work rest e p f rows) =
      let passed = ticked-cuts cuts since (row m work inst ++ rest) in
      let own = ticked-row inst passed.after work rest in
      Row inst behind cuts own.other (ticked own.after rest) e p (ap (ticked since) f ∙ passed.is ∙ ap (cuts_onto cuts) own.is) (ticked-rows own.after rows)

-- ---- and stay small

pub ender-within : (list : List HInst) → to_ender list ≤ length list
ender-within [] = omega arith
ender-within (item ∷ list) = by_test (is_ender item) (ender-within list)
  where
    by_test : (b : Bool) → to_ender list ≤ length list → (if b then 1 else suc (to_ender list)) ≤ suc (length list)
    by_test true h = omega arith
    by_test false h = omega arith

pub since-within : (since : ℕ) (item : HInst) → since_ender since item ≤ suc since
since-within since item = by_test (is_ender item)
  where
    by_test : (b : Bool) → (if b then 0 else suc since) ≤ suc since
    by_test true = omega arith
    by_test false = omega arith

-- a tick's number is below a bound
abbrev pub is_under : ℕ → HInst → Bool
is_under bound (Tick work) = nat_lt work bound
is_under bound (Do side inst retires) = true
is_under bound (Mov ty reg) = true
is_under bound (Chk when ty reg) = true
is_under bound (ChkMem ty ptr val) = true
is_under bound Cut = true
is_under bound Begin = true
is_under bound End = true

work-under : (bound work : ℕ) (item : HInst) → work < bound → is_under bound (with_work work item) ≡ true
work-under bound work (Tick old) h = grind (arith, nat_tests)
work-under bound work (Do side inst retires) h = refl
work-under bound work (Mov ty reg) h = refl
work-under bound work (Chk when ty reg) h = refl
work-under bound work (ChkMem ty ptr val) h = refl
work-under bound work Cut h = refl
work-under bound work Begin h = refl
work-under bound work End h = refl

pub ticked-under : (bound since : ℕ) (list : List HInst) → since + length list < bound → list_all (is_under bound) (ticked since list) ≡ true
ticked-under bound since [] h = refl
ticked-under bound since (item ∷ list) h =
    let ender = ender-within (item ∷ list) in
    let next = since-within since item in
    both (work-under bound (since + to_ender (item ∷ list)) item (omega arith)) (ticked-under bound (since_ender since item) list (omega arith))

under-small : (list : List HInst) → list_all (is_under 4294967296) list ≡ true → list_all is_small list ≡ true
under-small [] e = refl
under-small (item ∷ list) e =
    let parts = both_true (is_under 4294967296 item) (list_all (is_under 4294967296) list) e in
    both (by_item item parts.0) (under-small list parts.1)
  where
    by_item : (item : HInst) → is_under 4294967296 item ≡ true → is_small item ≡ true
    by_item (Tick work) e = e
    by_item (Do side inst retires) e = refl
    by_item (Mov ty reg) e = refl
    by_item (Chk when ty reg) e = refl
    by_item (ChkMem ty ptr val) e = refl
    by_item Cut e = refl
    by_item Begin e = refl
    by_item End e = refl

pub ticked-length : (since : ℕ) (list : List HInst) → length (ticked since list) ≡ length list
ticked-length since [] = refl
ticked-length since (item ∷ list) = ap suc (ticked-length (since_ender since item) list)

pub ticked-small : (list : List HInst) → length (ticked 0 list) < list_limit → list_all is_small (ticked 0 list) ≡ true
ticked-small list h =
    let same = ticked-length 0 list in
    under-small (ticked 0 list) (ticked-under 4294967296 0 list (omega arith))

-- ---- the hardened module

module _ (m : ModuleParts) where
  abbrev coded : FuncParts → ℕ → Block → List HInst
  coded f b block = (hard_block (split_table m) f b block).list

  -- a block's list begins with the rows of an entry and a loop head, whose ticks there are none
  pub ticked-code : (f : FuncParts) (b : ℕ) (block : Block) → length (ticked 0 (coded f b block)) < list_limit → IsCode m f b block (ticked 0 (coded f b block))
  ticked-code f b block short =
      let entry = at_entry (split_table m) f b in
      let head = at_head (split_table m) (is_loop_head (edges_of f).pairs b) in
      let body = flat_map (row m 0) block.insts in
      record {
        rest = ticked (since_all (since_all 0 entry) head) body;
        is = ticked-tickless 0 entry (head ++ body) (entry-tickless m f b)
            ∙ ap (λ (code : List HInst). entry ++ code) (ticked-tickless (since_all 0 entry) head body (head-tickless m (is_loop_head (edges_of f).pairs b)));
        rows = ticked-rows m (since_all (since_all 0 entry) head) (table-rows m block.insts);
        small = ticked-small (coded f b block) short;
      }

  no_edges : (f : FuncParts) → EdgeNames f
  no_edges f = record {
    of = λ b. None;
    target = λ b block name at e. let clash : None ≡ Some name = e in cc;
    new = λ b name e. let clash : None ≡ Some name = e in cc;
    single = λ a b name e g. let clash : None ≡ Some name = e in cc;
  }

  block-image : (f : FuncParts) (b : ℕ) (block : Block) → IsShort (ticked_block (hard_block (split_table m) f b block)) → IsBlockImage (IsCode m) f b block None (ticked_block (hard_block (split_table m) f b block))
  block-image f b block short = record {
    label = refl;
    phis = sym (append-nil (flat_map phi_image block.insts));
    code = ticked 0 (coded f b block);
    list = refl;
    keeps = ticked-code f b block short;
  }

  hard-count : (f : FuncParts) (b : ℕ) (blocks : List Block) → length (hard_blocks (split_table m) f b blocks) ≡ length blocks
  hard-count f b [] = refl
  hard-count f b (block ∷ blocks) = ap suc (hard-count f (b + 1) blocks)

  blocks-image : (f : FuncParts) (start b place : ℕ) (blocks : List Block) (block : Block) (hard : HBlock) → place ≡ start + b
      → slice_get blocks b ≡ Some block → slice_get (map ticked_block (hard_blocks (split_table m) f start blocks)) b ≡ Some hard → IsShort hard
      → IsBlockImage (IsCode m) f place block None hard
  blocks-image f start b place [] block hard e at there short = let clash : None ≡ Some block = at in cc
  blocks-image f start zero place (first ∷ blocks) block hard e at there short =
      let same : first ≡ block = cc in
      let made : ticked_block (hard_block (split_table m) f start first) ≡ hard = cc in
      let number : start ≡ place = omega arith in
      let image = block-image f start first (subst IsShort (sym made) short) in
      subst (λ (n : ℕ). IsBlockImage (IsCode m) f n block None hard) number
      (subst (λ (x : Block). IsBlockImage (IsCode m) f start x None hard) same (subst (IsBlockImage (IsCode m) f start first None) made image))
  blocks-image f start (suc b) place (first ∷ blocks) block hard e at there short = blocks-image f (start + 1) b place blocks block hard (omega arith) at there short

  func-image : (f : FuncParts) → All IsShort (map ticked_block (hard_func (split_table m) f)) → IsFuncImage (IsCode m) f (map ticked_block (hard_func (split_table m) f))
  unfolding no_edges
  func-image f short = record {
    edges = no_edges f;
    count = length-map (hard_func (split_table m) f) ticked_block ∙ hard-count f 0 f.blocks;
    each = λ b block hard at there. blocks-image f 0 b b f.blocks block hard (omega arith) at there (all-got IsShort (map ticked_block (hard_func (split_table m) f)) b hard short there);
  }

  funcs-image : (funcs : List FuncParts) (n : ℕ) (f : FuncParts) (blocks : List HBlock) → slice_get funcs n ≡ Some f
      → slice_get (map (map ticked_block) (map (hard_func (split_table m)) funcs)) n ≡ Some blocks → All IsShort blocks → IsFuncImage (IsCode m) f blocks
  funcs-image [] n f blocks at there short = let clash : None ≡ Some f = at in cc
  funcs-image (first ∷ funcs) zero f blocks at there short =
      let same : first ≡ f = cc in
      let made : map ticked_block (hard_func (split_table m) first) ≡ blocks = cc in
      let image = func-image first (subst (All IsShort) (sym made) short) in
      subst (λ (x : FuncParts). IsFuncImage (IsCode m) x blocks) same (subst (IsFuncImage (IsCode m) first) made image)
  funcs-image (first ∷ funcs) (suc n) f blocks at there short = funcs-image funcs n f blocks at there short

  pub hardened-is-image : AreShort (harden m).funcs → IsImage m (harden m)
  hardened-is-image short = record {
    heads = refl;
    count = length-map (map (hard_func (split_table m)) m.funcs) (map ticked_block) ∙ length-map m.funcs (hard_func (split_table m));
    each = λ n f blocks at there. funcs-image m.funcs n f blocks at there (all-got (All IsShort) (harden m).funcs n blocks short there);
  }

-- ---- an exact image is a loose one

module _ (m : ModuleParts) where
  loose-begins : (inst : Inst) {body : List Inst} {rest : List HInst} → LooseRows m body rest → LooseRows m body (begins_after m inst ++ rest)
  loose-begins (insts.Call dst ret callee args) {body} {rest} rows = by_kind (kind_of (external_named m callee))
    where
      by_kind : (kind : CallKind) → LooseRows m body (begins_for kind ++ rest)
      by_kind Inner = CutMark (Begin ∷ rest) refl (BeginMark rest refl rows)
      by_kind Outer = BeginMark rest refl rows
      by_kind OfLock = BeginMark rest refl rows
  loose-begins inst rows = rows

  loose-cuts : (cuts : ℕ) {body : List Inst} {rest : List HInst} → LooseRows m body rest → LooseRows m body (cuts_onto cuts rest)
  loose-cuts zero rows = rows
  loose-cuts (suc cuts) {body} {rest} rows = CutMark (Begin ∷ cuts_onto cuts rest) refl (BeginMark (cuts_onto cuts rest) refl (loose-cuts cuts rows))

  -- a row in its parts
  row-parts : (inst : Inst) (work : ℕ) (rest : List HInst) → (works : List ℕ) × (row m work inst ++ rest ≡ ticks_onto works (body_onto m inst (begins_after m inst ++ rest)))
  row-parts inst work rest = by_kind (leaves inst)
    where
      parts : placed m inst ++ rest ≡ body_onto m inst (begins_after m inst ++ rest)
      parts =
          append_assoc (checks_before inst) (body_of m inst ++ begins_after m inst) rest
          ∙ ap (λ (code : List HInst). checks_before inst ++ code) (append_assoc (body_of m inst) (begins_after m inst) rest)

      by_kind : (b : Bool) → (works : List ℕ) × ((tick_if b work ++ placed m inst) ++ rest ≡ ticks_onto works (body_onto m inst (begins_after m inst ++ rest)))
      by_kind true = (work ∷ [], ap (λ (code : List HInst). Tick work ∷ code) parts)
      by_kind false = ([], parts)

  pub rows-loose : {body : List Inst} {code : List HInst} → Rows m body code → LooseRows m body code
  rows-loose (NoRow e f) = Over e f
  rows-loose (PhiRow phi behind e p rows) = Phi phi behind e p (rows-loose rows)
  rows-loose {body} {code} (Row inst behind cuts work rest e p f rows) =
      let parts = row-parts inst work rest in
      let own = Next inst behind parts.0 (begins_after m inst ++ rest) e p parts.1 (loose-begins inst (rows-loose rows)) in
      subst (LooseRows m body) (sym f) (loose-cuts cuts own)

  -- points of cuts are marks
  loose-head : (loops : Bool) {body : List Inst} {rest : List HInst} → LooseRows m body rest → LooseRows m body (at_head (place_table m) loops ++ rest)
  loose-head true {body} {rest} rows = loose-cuts 1 rows
  loose-head false rows = rows

  code-loose : (f : FuncParts) (b : ℕ) (block : Block) (code : List HInst) → IsCode m f b block code → IsLooseCode m f b block code
  code-loose f zero block code is =
      let head = at_head (place_table m) (is_loop_head (edges_of f).pairs 0) in
      record {
        rest = cut_point ++ (head ++ is.rest);
        is = is.is ∙ append_assoc (map copy_of f.params) cut_point (head ++ is.rest);
        rows = loose-cuts 1 (loose-head (is_loop_head (edges_of f).pairs 0) (rows-loose is.rows));
      }
  code-loose f (suc b) block code is = record {
    rest = at_head (place_table m) (is_loop_head (edges_of f).pairs (suc b)) ++ is.rest;
    is = is.is;
    rows = loose-head (is_loop_head (edges_of f).pairs (suc b)) (rows-loose is.rows);
  }

  block-loose : (f : FuncParts) (b : ℕ) (block : Block) (name : Option Loc) (hard : HBlock) → IsBlockImage (IsCode m) f b block name hard → IsBlockImage (IsLooseCode m) f b block name hard
  block-loose f b block name hard is = record { label = is.label; phis = is.phis; code = is.code; list = is.list; keeps = code-loose f b block is.code is.keeps }

  func-loose : (f : FuncParts) (blocks : List HBlock) → IsFuncImage (IsCode m) f blocks → IsFuncImage (IsLooseCode m) f blocks
  func-loose f blocks is = record { edges = is.edges; count = is.count; each = λ b block hard at there. block-loose f b block (is.edges.of b) hard (is.each b block hard at there) }

  pub image-loose : (h : HardParts) → IsImage m h → IsLooseImage m h
  image-loose h is = record { heads = is.heads; count = is.count; each = λ n f blocks at there. func-loose f blocks (is.each n f blocks at there) }
