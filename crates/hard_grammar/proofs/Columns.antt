-- Each item of the columns of the image table has a line, where instructions have ordinary lines and registers names
-- and types of one word.
use Rattle.std.proofs.Common.{ℕ, zero, suc, ◌≡◌, ◌+◌, ◌<◌, ◌≤◌, ◌^◌, Bool, true, false, List, [], ◌∷◌, ◌++◌, map, Option, Some, None, refl, sym, subst, append-nil, arith, length}
use Rattle.std.specs.List.{AllByRecursion, flat_map}
use Rattle.ir_core.specs.declared.types.Loc.{Loc}
use Rattle.ir_core.specs.declared.types.Ty.{Ty}
use Rattle.ir_core.specs.declared.types.Ty.TheVariants as types
use Rattle.ir_core.specs.declared.values.Val.{Val}
use Rattle.ir_core.specs.declared.values.Val.TheVariants as values
use Rattle.ir_core.specs.declared.values.Side.TheVariants.{M, S}
use Rattle.ir_core.specs.declared.instruction.Inst.{Inst}
use Rattle.ir_core.specs.declared.instruction.Inst.TheVariants as insts
use Rattle.ir_core.specs.declared.instruction.Block.{Block}
use Rattle.ir_core.specs.Module.{ModuleParts, FuncParts}
use Rattle.ir_calls.specs.Calls.{external_named}
use Rattle.ir_core.specs.Instructions.{is_phi}
use Rattle.ir_flow.specs.Edges.{edges_of, is_loop_head}
use Rattle.hard_ir.specs.declared.instruction.When.{When}
use Rattle.hard_ir.specs.declared.instruction.When.TheVariants.{Always, Tx}
use Rattle.hard_ir.specs.declared.instruction.HInst.{HInst}
use Rattle.hard_ir.specs.declared.instruction.HInst.TheVariants.{Cut, Begin, End, Tick, Chk, ChkMem, Mov, Do}
use Rattle.hard_ir.specs.Image.{Table, single_result, copy_of, copies, flow, phi_image, flow_table, checked, check, check_table, checked_before, checked_when, check_when, checks_before, core, checks_after, on_shadow, relaxed, relax_table, CallKind, Inner, Outer, OfLock, kind_of, ends_for, begins_for, ends_before, begins_after, body_of, placed, cut_point, place_table, leaves, tick_if, tick_before, row, split_table, is_ender, to_ender, since_ender, with_work, ticked}
use Rattle.hard_ir.specs.Fit.{must_retire}
use Rattle.hard_ir.specs.Hardened.{at_entry, at_head, hard_block, hard_blocks, hard_func}
use Rattle.hard_ir.specs.Lines.{registers_of}
use Rattle.hard_ir.specs.Standing.{Tables, HasLine, HasPhiLine, HasBlockLines, HasFuncLines}
use Rattle.hard_laws.proofs.ImageRows.{ender-within, since-within}
use Rattle.hard_grammar.proofs.Ordinary.{HasOrdinaryLine, all_append, hardened_line}
use Rattle.hard_grammar.proofs.Unflagged.{unflagged_ordinary}
use Rattle.hard_grammar.proofs.OwnLines.{IsHeld, check_has_line, copy_has_line}
use Rattle.hard_grammar.proofs.OwnWords.{cut-line, begin-line, end-line, tick-line}
use Rattle.hard_grammar.proofs.LateLines.{LateLine}
use Rattle.hard_grammar.proofs.NumberedLines.{NamedOperand, NamedResult, NamedParam, InstFacts, BlockFacts, FuncFacts}

-- ---- types

-- an operand that is a register has a type of one word, or of what a `cmpxchg` gives
abbrev pub HeldOperand : Ty × Val → Type 0
HeldOperand (ty, values.Reg reg) = IsHeld ty
HeldOperand (ty, val) = Unit {0}

abbrev pub HeldResult : Option (Ty × Loc) → Type 0
HeldResult None = Unit {0}
HeldResult (Some reg) = IsHeld reg.0

abbrev pub HeldParam : Ty × Loc → Type 0
HeldParam param = IsHeld param.0

pub record HeldInst (inst : Inst) : Type 0 where
  pub operands : AllByRecursion HeldOperand (checked inst)
  pub result : HeldResult (single_result inst)

abbrev pub HeldBlock : Block → Type 0
HeldBlock block = AllByRecursion HeldInst block.insts

pub record HeldFunc (f : FuncParts) : Type 0 where
  pub params : AllByRecursion HeldParam f.params
  pub blocks : AllByRecursion HeldBlock f.blocks

module _ (tables : Tables) where
  abbrev AreLines : List HInst → Type 0
  AreLines = AllByRecursion (HasLine tables)

  all_flat : {A B : Type 0} (P : A → Type 0) (Q : B → Type 0) (f : A → List B) → ((x : A) → P x → AllByRecursion Q (f x)) → (xs : List A) → AllByRecursion P xs → AllByRecursion Q (flat_map f xs)
  all_flat P Q f step [] all = tt
  all_flat P Q f step (x ∷ xs) all = all_append Q (f x) (flat_map f xs) (step x all.0) (all_flat P Q f step xs all.1)

  -- ---- masters and shadows

  once : (inst : Inst) → is_phi inst ≡ false → HasOrdinaryLine tables inst → HasLine tables (Do M inst true)
  once inst e h = (hardened_line tables M inst true h (λ _. refl), e, λ _. refl)

  copy_lines : (reg : Option (Ty × Loc)) → NamedResult tables reg → HeldResult reg → AreLines (copies reg)
  copy_lines None named held = tt
  copy_lines (Some reg) named held = (copy_has_line tables reg.0 held reg.1 named, tt)

  single : (inst : Inst) → is_phi inst ≡ false → HasOrdinaryLine tables inst → NamedResult tables (single_result inst) → HeldResult (single_result inst) → AreLines (Do M inst true ∷ copies (single_result inst))
  single inst e h named held = (once inst e h, copy_lines (single_result inst) named held)

  doubled : (inst : Inst) → is_phi inst ≡ false → must_retire inst ≡ false → (registers_of inst ≡ [] → ⊥) → HasOrdinaryLine tables inst → AreLines (Do M inst false ∷ Do S inst true ∷ [])
  doubled inst e r some h = (
    (hardened_line tables M inst false h (λ _. refl), e, λ must. absurd (clash must)),
    ((hardened_line tables S inst true h (λ none. absurd (some none)), e, λ _. refl), tt),
  )
    where
      clash : must_retire inst ≡ true → ⊥
      clash must = cc

  flow_lines : (inst : Inst) → HasOrdinaryLine tables inst → NamedResult tables (single_result inst) → HeldResult (single_result inst) → AreLines (flow inst)
  flow_lines (insts.Bin dst op flags w a b) h named held = doubled _ refl refl (λ e. cc) (unflagged_ordinary tables (insts.Bin dst op flags w a b) h)
  flow_lines (insts.Cmp dst pred ty a b) h named held = doubled _ refl refl (λ e. cc) h
  flow_lines (insts.Select dst cond ty a b) h named held = doubled _ refl refl (λ e. cc) h
  flow_lines (insts.Cast dst op from a to) h named held = doubled _ refl refl (λ e. cc) h
  flow_lines (insts.Gep dst base ptr index) h named held = doubled _ refl refl (λ e. cc) h
  flow_lines (insts.Extract dst elem pair index) h named held = doubled _ refl refl (λ e. cc) h
  flow_lines (insts.Alloca dst ty) h named held = single _ refl h named held
  flow_lines (insts.Load dst ty ptr atomic) h named held = single _ refl h named held
  flow_lines (insts.Store ty val ptr atomic) h named held = single _ refl h named held
  flow_lines (insts.Rmw dst op ptr ty val) h named held = single _ refl h named held
  flow_lines (insts.CmpXchg dst ptr ty old new) h named held = single _ refl h named held
  flow_lines insts.Fence h named held = single _ refl h named held
  flow_lines (insts.Call dst ret callee args) h named held = single _ refl h named held
  flow_lines (insts.Phi dst ty arms) h named held = tt
  flow_lines (insts.Br to) h named held = single _ refl h named held
  flow_lines (insts.CondBr cond on_true on_false) h named held = single _ refl h named held
  flow_lines (insts.Switch ty on default cases) h named held = single _ refl h named held
  flow_lines (insts.Ret ty val) h named held = single _ refl h named held
  flow_lines insts.Unreachable h named held = single _ refl h named held

  phi_lines : (inst : Inst) → HasOrdinaryLine tables inst → AllByRecursion (HasPhiLine tables) (phi_image inst)
  phi_lines (insts.Phi dst ty arms) h =
      ((hardened_line tables M (insts.Phi dst ty arms) false h (λ _. refl), refl), ((hardened_line tables S (insts.Phi dst ty arms) false h (λ none. absurd cc), refl), tt))
  phi_lines (insts.Bin dst op flags w a b) h = tt
  phi_lines (insts.Cmp dst pred ty a b) h = tt
  phi_lines (insts.Select dst cond ty a b) h = tt
  phi_lines (insts.Cast dst op from a to) h = tt
  phi_lines (insts.Gep dst base ptr index) h = tt
  phi_lines (insts.Extract dst elem pair index) h = tt
  phi_lines (insts.Alloca dst ty) h = tt
  phi_lines (insts.Load dst ty ptr atomic) h = tt
  phi_lines (insts.Store ty val ptr atomic) h = tt
  phi_lines (insts.Rmw dst op ptr ty val) h = tt
  phi_lines (insts.CmpXchg dst ptr ty old new) h = tt
  phi_lines insts.Fence h = tt
  phi_lines (insts.Call dst ret callee args) h = tt
  phi_lines (insts.Br to) h = tt
  phi_lines (insts.CondBr cond on_true on_false) h = tt
  phi_lines (insts.Switch ty on default cases) h = tt
  phi_lines (insts.Ret ty val) h = tt
  phi_lines insts.Unreachable h = tt

  -- ---- checks

  check_lines : (operand : Ty × Val) → NamedOperand tables operand → HeldOperand operand → AreLines (check operand)
  check_lines (ty, values.Reg reg) named held = (check_has_line tables ty held reg named Always, tt)
  check_lines (ty, values.Int n) named held = tt
  check_lines (ty, values.Null) named held = tt
  check_lines (ty, values.Global sym) named held = tt
  check_lines (ty, values.Gep gep) named held = tt

  all_checks : (operands : List (Ty × Val)) → AllByRecursion (NamedOperand tables) operands → AllByRecursion HeldOperand operands → AreLines (flat_map check operands)
  all_checks [] named held = tt
  all_checks (operand ∷ operands) named held = all_append (HasLine tables) (check operand) (flat_map check operands) (check_lines operand named.0 held.0) (all_checks operands named.1 held.1)

  -- ---- double loads and late checks

  when_lines : (when : When) (operand : Ty × Val) → NamedOperand tables operand → HeldOperand operand → AreLines (check_when when operand)
  when_lines when (ty, values.Reg reg) named held = (check_has_line tables ty held reg named when, tt)
  when_lines when (ty, values.Int n) named held = tt
  when_lines when (ty, values.Null) named held = tt
  when_lines when (ty, values.Global sym) named held = tt
  when_lines when (ty, values.Gep gep) named held = tt

  all_when : (when : When) (operands : List (Ty × Val)) → AllByRecursion (NamedOperand tables) operands → AllByRecursion HeldOperand operands → AreLines (flat_map (check_when when) operands)
  all_when when [] named held = tt
  all_when when (operand ∷ operands) named held =
      all_append (HasLine tables) (check_when when operand) (flat_map (check_when when) operands) (when_lines when operand named.0 held.0) (all_when when operands named.1 held.1)

  -- the operands that are checked before an instruction are among those that are checked
  before_all : (P : Ty × Val → Type 0) (inst : Inst) → AllByRecursion P (checked inst) → AllByRecursion P (checked_before inst)
  before_all P (insts.Load dst ty ptr false) all = tt
  before_all P inst all = all

  before_lines : (inst : Inst) → InstFacts tables inst → HeldInst inst → AreLines (checks_before inst)
  before_lines inst facts held = all_when (checked_when inst) (checked_before inst) (before_all (NamedOperand tables) inst facts.operands) (before_all HeldOperand inst held.operands)

  core_lines : (inst : Inst) → InstFacts tables inst → HeldInst inst → AreLines (core inst)
  core_lines (insts.Load dst ty ptr false) facts held = doubled _ refl refl (λ e. cc) facts.ordinary
  core_lines inst facts held = flow_lines inst facts.ordinary facts.result held.result

  after_lines : (inst : Inst) → InstFacts tables inst → HeldInst inst → AreLines (checks_after inst)
  after_lines (insts.Store ty val ptr false) facts held =
      all_append (HasLine tables) (check_when Tx (types.Ptr, ptr)) (ChkMem ty (on_shadow ptr) (on_shadow val) ∷ []) (when_lines Tx (types.Ptr, ptr) facts.operands.0 held.operands.0) (facts.late, tt)
  after_lines inst facts held = tt

  late_lines : (inst : Inst) → InstFacts tables inst → HeldInst inst → AreLines (core inst ++ checks_after inst)
  late_lines inst facts held = all_append (HasLine tables) (core inst) (checks_after inst) (core_lines inst facts held) (after_lines inst facts held)

  -- ---- transactions and ticks

  ends_lines : (m : ModuleParts) (inst : Inst) → AreLines (ends_before m inst)
  ends_lines m (insts.Call dst ret callee args) = by (kind_of (external_named m callee))
    where
      by : (kind : CallKind) → AreLines (ends_for kind)
      by Inner = tt
      by Outer = (end-line tables, tt)
      by OfLock = tt
  ends_lines m inst = tt

  cut_lines : AreLines cut_point
  cut_lines = (cut-line tables, (begin-line tables, tt))

  begins_lines : (m : ModuleParts) (inst : Inst) → AreLines (begins_after m inst)
  begins_lines m (insts.Call dst ret callee args) = by (kind_of (external_named m callee))
    where
      by : (kind : CallKind) → AreLines (begins_for kind)
      by Inner = cut_lines
      by Outer = (begin-line tables, tt)
      by OfLock = (begin-line tables, tt)
  begins_lines m inst = tt

  body_lines : (m : ModuleParts) (inst : Inst) → InstFacts tables inst → HeldInst inst → AreLines (body_of m inst)
  body_lines m inst facts held = all_append (HasLine tables) (ends_before m inst) (core inst ++ checks_after inst) (ends_lines m inst) (late_lines inst facts held)

  placed_lines : (m : ModuleParts) (inst : Inst) → InstFacts tables inst → HeldInst inst → AreLines (placed m inst)
  placed_lines m inst facts held =
      all_append (HasLine tables) (checks_before inst) (body_of m inst ++ begins_after m inst) (before_lines inst facts held)
      (all_append (HasLine tables) (body_of m inst) (begins_after m inst) (body_lines m inst facts held) (begins_lines m inst))

  tick_lines : (b : Bool) → AreLines (tick_if b 0)
  tick_lines true = (tick-line tables 0 (omega arith), tt)
  tick_lines false = tt

  -- ---- tables

  -- what stands for an instruction has lines, and what stands besides at an entry and at loop heads
  pub record IsLined (table : Table) : Type 0 where
    pub entry : (params : List (Ty × Loc)) → (rest : List HInst) × (table.entry params ≡ map copy_of params ++ rest) × AreLines rest
    pub head : AreLines table.head
    pub image : (inst : Inst) → InstFacts tables inst → HeldInst inst → AreLines (table.image inst)

  only_copies : (params : List (Ty × Loc)) → (rest : List HInst) × (map copy_of params ≡ map copy_of params ++ rest) × AreLines rest
  only_copies params = ([], sym (append-nil (map copy_of params)), tt)

  pub flow_lined : IsLined flow_table
  flow_lined = record { entry = only_copies; head = tt; image = λ inst facts held. flow_lines inst facts.ordinary facts.result held.result }

  pub check_lined : IsLined check_table
  check_lined = record {
    entry = only_copies;
    head = tt;
    image = λ inst facts held. all_append (HasLine tables) (flat_map check (checked inst)) (flow inst) (all_checks (checked inst) facts.operands held.operands) (flow_lines inst facts.ordinary facts.result held.result);
  }

  pub relax_lined : IsLined relax_table
  relax_lined = record {
    entry = only_copies;
    head = tt;
    image = λ inst facts held. all_append (HasLine tables) (checks_before inst) (core inst ++ checks_after inst) (before_lines inst facts held) (late_lines inst facts held);
  }

  pub place_lined : (m : ModuleParts) → IsLined (place_table m)
  place_lined m = record { entry = λ params. (cut_point, refl, cut_lines); head = cut_lines; image = placed_lines m }

  pub split_lined : (m : ModuleParts) → IsLined (split_table m)
  split_lined m = record {
    entry = λ params. (cut_point, refl, cut_lines);
    head = cut_lines;
    image = λ inst facts held. all_append (HasLine tables) (tick_before 0 inst) (placed m inst) (tick_lines (leaves inst)) (placed_lines m inst facts held);
  }

  -- ---- the numbers of ticks

  work_line : (work : ℕ) (item : HInst) → work < 2 ^ 32 → HasLine tables item → HasLine tables (with_work work item)
  work_line work (Tick old) small line = tick-line tables work small
  work_line work (Do side inst retires) small line = line
  work_line work (Mov ty reg) small line = line
  work_line work (Chk when ty reg) small line = line
  work_line work (ChkMem ty ptr val) small line = line
  work_line work Cut small line = line
  work_line work Begin small line = line
  work_line work End small line = line

  pub ticked_lines : (since : ℕ) (list : List HInst) → since + length list < 2 ^ 32 → AreLines list → AreLines (ticked since list)
  ticked_lines since [] small lines = tt
  ticked_lines since (item ∷ list) small lines =
      let ender = ender-within (item ∷ list) in
      let next = since-within since item in
      (work_line (since + to_ender (item ∷ list)) item (omega (arith, small, ender)) lines.0, ticked_lines (since_ender since item) list (omega (arith, small, next)) lines.1)

  -- ---- blocks

  module _ (table : Table) (lined : IsLined table) where
    copy_all : (params : List (Ty × Loc)) → AllByRecursion (NamedParam tables) params → AllByRecursion HeldParam params → AreLines (map copy_of params)
    copy_all [] named held = tt
    copy_all (param ∷ params) named held = (copy_has_line tables param.0 held.0 param.1 named.0, copy_all params named.1 held.1)

    image_lines : (body : List Inst) → AllByRecursion (InstFacts tables) body → AllByRecursion HeldInst body → AreLines (flat_map table.image body)
    image_lines [] facts held = tt
    image_lines (inst ∷ body) facts held = all_append (HasLine tables) (table.image inst) (flat_map table.image body) (lined.image inst facts.0 held.0) (image_lines body facts.1 held.1)

    head_lines : (is_head : Bool) → AreLines (at_head table is_head)
    head_lines true = lined.head
    head_lines false = tt

    entry_lines : (f : FuncParts) (n : ℕ) → AllByRecursion (NamedParam tables) f.params → AllByRecursion HeldParam f.params → AreLines (at_entry table f n)
    entry_lines f zero named held =
        let own = lined.entry f.params in
        subst AreLines (sym own.1) (all_append (HasLine tables) (map copy_of f.params) own.0 (copy_all f.params named held) own.2)
    entry_lines f (suc n) named held = tt

    block_lines : (f : FuncParts) (n : ℕ) (block : Block) → AllByRecursion (NamedParam tables) f.params → AllByRecursion HeldParam f.params → BlockFacts tables block → HeldBlock block
        → HasBlockLines tables (hard_block table f n block)
    block_lines f n block named types facts held =
        let loop = is_loop_head (edges_of f).pairs n in
        let images = flat_map table.image block.insts in
        record {
          label = facts.label;
          phis = all_flat (InstFacts tables) (HasPhiLine tables) phi_image (λ inst fact. phi_lines inst fact.ordinary) block.insts facts.insts;
          list = all_append (HasLine tables) (at_entry table f n) (at_head table loop ++ images) (entry_lines f n named types)
              (all_append (HasLine tables) (at_head table loop) images (head_lines loop) (image_lines block.insts facts.insts held));
        }

    blocks_lines : (f : FuncParts) (n : ℕ) (blocks : List Block) → AllByRecursion (NamedParam tables) f.params → AllByRecursion HeldParam f.params
        → AllByRecursion (BlockFacts tables) blocks → AllByRecursion HeldBlock blocks → AllByRecursion (HasBlockLines tables) (hard_blocks table f n blocks)
    blocks_lines f n [] named types facts held = tt
    blocks_lines f n (block ∷ blocks) named types facts held = (block_lines f n block named types facts.0 held.0, blocks_lines f (n + 1) blocks named types facts.1 held.1)

    blocks_some : (f : FuncParts) (n : ℕ) (blocks : List Block) → hard_blocks table f n blocks ≡ [] → blocks ≡ []
    blocks_some f n [] e = refl
    blocks_some f n (block ∷ blocks) e = absurd cc

    pub func_lines : (f : FuncParts) → FuncFacts tables f → HeldFunc f → HasFuncLines tables (hard_func table f)
    func_lines f facts held = record {
      entry = λ e. facts.entry (blocks_some f 0 f.blocks e);
      each = blocks_lines f 0 f.blocks facts.params held.params facts.each held.blocks;
    }
