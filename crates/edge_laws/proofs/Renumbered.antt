-- The hardened module of a module under other numbers of registers and labels is the hardened module under them.
use Rattle.std.proofs.Common.{ℕ, zero, suc, ◌≡◌, ◌∙◌, ◌+◌, Bool, true, false, List, [], ◌∷◌, ◌++◌, map, Option, Some, None, refl, ap, sym as flip}
use Rattle.std.specs.Prelude.{◌&&◌, if◌then◌else◌}
use Rattle.std.specs.List.{flat_map}
use Rattle.std.specs.Option.{option_map}
use Rattle.std.proofs.lemmas.List.{map-append}
use Rattle.ir_core.specs.declared.types.Ty.{Ty}
use Rattle.ir_core.specs.declared.types.Ty.TheVariants as types
use Rattle.ir_core.specs.declared.types.Loc.{Loc}
use Rattle.ir_core.specs.declared.types.Sym.{Sym}
use Rattle.ir_core.specs.declared.values.Val.{Val}
use Rattle.ir_core.specs.declared.values.Val.TheVariants as values
use Rattle.ir_core.specs.declared.types.Width.TheVariants.{W1}
use Rattle.ir_core.specs.declared.values.Side.{Side}
use Rattle.ir_core.specs.declared.values.Side.TheVariants.{M}
use Rattle.ir_core.specs.declared.instruction.Inst.{Inst}
use Rattle.ir_core.specs.declared.instruction.Inst.TheVariants as insts
use Rattle.ir_core.specs.declared.instruction.Block.{Block}
use Rattle.ir_core.specs.Module.{ModuleParts, FuncParts}
use Rattle.ir_flow.specs.Edges.{edges_of, is_loop_head}
use Rattle.ir_calls.specs.Calls.{external_named}
use Rattle.ir_numbering.specs.Renaming.{Renaming, renamed_loc, renamed_ty, renamed_val, renamed_inst, renamed_block, renamed_param, renamed_func}
use Rattle.hard_ir.specs.declared.instruction.When.{When}
use Rattle.hard_ir.specs.declared.instruction.When.TheVariants.{Tx}
use Rattle.hard_ir.specs.declared.instruction.HVal.{HVal}
use Rattle.hard_ir.specs.declared.instruction.HInst.{HInst}
use Rattle.hard_ir.specs.declared.instruction.HInst.TheVariants.{Cut, Begin, End, Tick, Chk, ChkMem, Mov, Do}
use Rattle.hard_ir.specs.declared.instruction.HBlock.{HBlock}
use Rattle.hard_ir.specs.Image.{unflagged, done_by, copies, single_result, copy_of, phi_image, check_when, checked_when, checked_before, checks_before, is_done_twice, core, on_shadow, checks_after, CallKind, Inner, Outer, OfLock, kind_of, ends_for, begins_for, ends_before, begins_after, body_of, placed, cut_point, pair_of, leaves, tick_if, row, split_table, is_ender, to_ender, since_ender, with_work, ticked}
use Rattle.hard_ir.specs.Hardened.{at_entry, at_head, hard_block, hard_blocks, hard_func, ticked_block}
use Rattle.hard_ir.specs.Standing.{renamed_operand, renamed_item}
use Rattle.hard_ir.specs.EdgeChecks.{renamed_phi, renamed_hard_block}
use Rattle.renamed_modules.proofs.RenamedTypes.{IsApart}
use Rattle.renamed_modules.proofs.RenamedLines.{flat-images}
use Rattle.renamed_modules.proofs.RenamedFlow.{edges-same}
use Rattle.edge_laws.proofs.Staying.{inside, ty-stays}

module _ (loc : ℕ → ℕ) where
  abbrev r : Renaming
  r = inside loc

  -- a list of items with other numbers
  abbrev pub moved : List HInst → List HInst
  moved = map (renamed_item r)

  abbrev moved_reg : Ty × Loc → Ty × Loc
  moved_reg reg = (renamed_ty r reg.0, renamed_loc r reg.1)

  abbrev moved_operand : Ty × Val → Ty × Val
  moved_operand operand = (renamed_ty r operand.0, renamed_val r operand.1)

  -- ---- one instruction

  copied-moved : (o : Option (Ty × Loc)) → copies (option_map moved_reg o) ≡ moved (copies o)
  copied-moved None = refl
  copied-moved (Some reg) = refl

  result-moved : (inst : Inst) → single_result (renamed_inst r inst) ≡ option_map moved_reg (single_result inst)
  result-moved (insts.Alloca dst ty) = ap (λ (t : Ty). Some (t, renamed_loc r dst)) (flip (ty-stays loc types.Ptr))
  result-moved (insts.CmpXchg dst ptr ty old new) = ap (λ (t : Ty). Some (t, renamed_loc r dst)) (ap pair_of (ty-stays loc ty) ∙ flip (ty-stays loc (pair_of ty)))
  result-moved (insts.Call (Some dst) ret callee args) = refl
  result-moved (insts.Call None ret callee args) = refl
  result-moved inst = refl

  doubled-moved : (inst : Inst) → is_done_twice (renamed_inst r inst) ≡ is_done_twice inst
  doubled-moved (insts.Load dst ty ptr true) = refl
  doubled-moved (insts.Load dst ty ptr false) = refl
  doubled-moved inst = refl

  flags-moved : (inst : Inst) → unflagged (renamed_inst r inst) ≡ renamed_inst r (unflagged inst)
  flags-moved (insts.Bin dst op flags w a b) = refl
  flags-moved inst = refl

  done-moved : (twice : Bool) (inst : Inst) → done_by twice (renamed_inst r inst) ≡ moved (done_by twice inst)
  done-moved true inst = refl
  done-moved false inst = ap (λ (items : List HInst). Do M (renamed_inst r inst) true ∷ items) (ap copies (result-moved inst) ∙ copied-moved (single_result inst))

  by-core : (inst : Inst) → done_by (is_done_twice (renamed_inst r inst)) (unflagged (renamed_inst r inst)) ≡ moved (done_by (is_done_twice inst) (unflagged inst))
  by-core inst = rw (doubled-moved inst, flags-moved inst) (done-moved (is_done_twice inst) (unflagged inst))

  core-moved : (inst : Inst) → core (renamed_inst r inst) ≡ moved (core inst)
  core-moved (insts.Phi dst ty arms) = refl
  core-moved (insts.Bin dst op flags w a b) = by-core (insts.Bin dst op flags w a b)
  core-moved (insts.Cmp dst pred ty a b) = by-core (insts.Cmp dst pred ty a b)
  core-moved (insts.Select dst cond ty a b) = by-core (insts.Select dst cond ty a b)
  core-moved (insts.Cast dst op from a to) = by-core (insts.Cast dst op from a to)
  core-moved (insts.Gep dst base ptr index) = by-core (insts.Gep dst base ptr index)
  core-moved (insts.Extract dst elem pair index) = by-core (insts.Extract dst elem pair index)
  core-moved (insts.Alloca dst ty) = by-core (insts.Alloca dst ty)
  core-moved (insts.Load dst ty ptr atomic) = by-core (insts.Load dst ty ptr atomic)
  core-moved (insts.Store ty val ptr atomic) = by-core (insts.Store ty val ptr atomic)
  core-moved (insts.Rmw dst op ptr ty val) = by-core (insts.Rmw dst op ptr ty val)
  core-moved (insts.CmpXchg dst ptr ty old new) = by-core (insts.CmpXchg dst ptr ty old new)
  core-moved insts.Fence = by-core insts.Fence
  core-moved (insts.Call dst ret callee args) = by-core (insts.Call dst ret callee args)
  core-moved (insts.Br to) = by-core (insts.Br to)
  core-moved (insts.CondBr cond on_true on_false) = by-core (insts.CondBr cond on_true on_false)
  core-moved (insts.Switch ty on default cases) = by-core (insts.Switch ty on default cases)
  core-moved (insts.Ret ty val) = by-core (insts.Ret ty val)
  core-moved insts.Unreachable = by-core insts.Unreachable

  check-moved : (when : When) (operand : Ty × Val) → check_when when (moved_operand operand) ≡ moved (check_when when operand)
  check-moved when (ty, values.Reg reg) = refl
  check-moved when (ty, values.Int n) = refl
  check-moved when (ty, values.Null) = refl
  check-moved when (ty, values.Global name) = refl
  check-moved when (ty, values.Gep gep) = refl

  when-moved : (inst : Inst) → checked_when (renamed_inst r inst) ≡ checked_when inst
  when-moved (insts.Store ty val ptr true) = refl
  when-moved (insts.Store ty val ptr false) = refl
  when-moved inst = refl

  ptr-again : types.Ptr ≡ renamed_ty r types.Ptr
  ptr-again = flip (ty-stays loc types.Ptr)

  operand-by : (val : Val) → (types.Ptr, renamed_val r val) ≡ moved_operand (types.Ptr, val)
  operand-by val = ap (λ (t : Ty). (t, renamed_val r val)) ptr-again

  before-moved : (inst : Inst) → checked_before (renamed_inst r inst) ≡ map moved_operand (checked_before inst)
  before-moved (insts.Load dst ty ptr true) = ap (λ (x : Ty × Val). x ∷ []) (operand-by ptr)
  before-moved (insts.Load dst ty ptr false) = refl
  before-moved (insts.Store ty val ptr atomic) = ap (λ (x : Ty × Val). x ∷ moved_operand (ty, val) ∷ []) (operand-by ptr)
  before-moved (insts.Rmw dst op ptr ty val) = ap (λ (x : Ty × Val). x ∷ moved_operand (ty, val) ∷ []) (operand-by ptr)
  before-moved (insts.CmpXchg dst ptr ty old new) = ap (λ (x : Ty × Val). x ∷ moved_operand (ty, old) ∷ moved_operand (ty, new) ∷ []) (operand-by ptr)
  before-moved (insts.Call dst ret callee args) = refl
  before-moved (insts.CondBr cond on_true on_false) = ap (λ (t : Ty). (t, renamed_val r cond) ∷ []) (flip (ty-stays loc (types.Int W1)))
  before-moved (insts.Switch ty on default cases) = refl
  before-moved (insts.Ret ty (Some val)) = refl
  before-moved (insts.Ret ty None) = refl
  before-moved (insts.Bin dst op flags w a b) = refl
  before-moved (insts.Cmp dst pred ty a b) = refl
  before-moved (insts.Select dst cond ty a b) = refl
  before-moved (insts.Cast dst op from a to) = refl
  before-moved (insts.Gep dst base ptr index) = refl
  before-moved (insts.Extract dst elem pair index) = refl
  before-moved (insts.Phi dst ty arms) = refl
  before-moved (insts.Alloca dst ty) = refl
  before-moved insts.Fence = refl
  before-moved (insts.Br to) = refl
  before-moved insts.Unreachable = refl

  checks-moved : (inst : Inst) → checks_before (renamed_inst r inst) ≡ moved (checks_before inst)
  checks-moved inst =
      ap (λ (when : When). flat_map (check_when when) (checked_before (renamed_inst r inst))) (when-moved inst) ∙ ap (flat_map (check_when (checked_when inst))) (before-moved inst)
      ∙ flat-images moved_operand (check_when (checked_when inst)) (check_when (checked_when inst)) (renamed_item r) (check-moved (checked_when inst)) (checked_before inst)

  shadow-moved : (val : Val) → on_shadow (renamed_val r val) ≡ renamed_operand r (on_shadow val)
  shadow-moved (values.Reg reg) = refl
  shadow-moved (values.Int n) = refl
  shadow-moved values.Null = refl
  shadow-moved (values.Global name) = refl
  shadow-moved (values.Gep gep) = refl

  after-moved : (inst : Inst) → checks_after (renamed_inst r inst) ≡ moved (checks_after inst)
  after-moved (insts.Store ty val ptr false) =
      ap (λ (x : Ty × Val). check_when Tx x ++ ChkMem (renamed_ty r ty) (on_shadow (renamed_val r ptr)) (on_shadow (renamed_val r val)) ∷ []) (operand-by ptr)
      ∙ ap (λ (t : Ty). check_when Tx (moved_operand (types.Ptr, ptr)) ++ ChkMem t (on_shadow (renamed_val r ptr)) (on_shadow (renamed_val r val)) ∷ []) (ty-stays loc ty)
      ∙ ap (λ (x : HVal). check_when Tx (moved_operand (types.Ptr, ptr)) ++ ChkMem ty x (on_shadow (renamed_val r val)) ∷ []) (shadow-moved ptr)
      ∙ ap (λ (x : HVal). check_when Tx (moved_operand (types.Ptr, ptr)) ++ ChkMem ty (renamed_operand r (on_shadow ptr)) x ∷ []) (shadow-moved val)
      ∙ ap (λ (items : List HInst). items ++ renamed_item r (ChkMem ty (on_shadow ptr) (on_shadow val)) ∷ []) (check-moved Tx (types.Ptr, ptr))
      ∙ flip (map-append (renamed_item r) (check_when Tx (types.Ptr, ptr)) (ChkMem ty (on_shadow ptr) (on_shadow val) ∷ []))
  after-moved (insts.Store ty val ptr true) = refl
  after-moved inst = refl

  leaves-moved : (inst : Inst) → leaves (renamed_inst r inst) ≡ leaves inst
  leaves-moved (insts.Br to) = refl
  leaves-moved inst = refl

  tick-moved : (b : Bool) (work : ℕ) → tick_if b work ≡ moved (tick_if b work)
  tick-moved true work = refl
  tick-moved false work = refl

  -- ---- in modules of the same `@` names

  module _ (m other : ModuleParts) (syms : other.syms ≡ m.syms) where
    kind-same : (callee : Sym) → kind_of (external_named other callee) ≡ kind_of (external_named m callee)
    kind-same callee = rw syms refl

    ends-for-moved : (kind : CallKind) → ends_for kind ≡ moved (ends_for kind)
    ends-for-moved Inner = refl
    ends-for-moved Outer = refl
    ends-for-moved OfLock = refl

    begins-for-moved : (kind : CallKind) → begins_for kind ≡ moved (begins_for kind)
    begins-for-moved Inner = refl
    begins-for-moved Outer = refl
    begins-for-moved OfLock = refl

    ends-moved : (inst : Inst) → ends_before other (renamed_inst r inst) ≡ moved (ends_before m inst)
    ends-moved (insts.Call dst ret callee args) = ap ends_for (kind-same callee) ∙ ends-for-moved (kind_of (external_named m callee))
    ends-moved inst = refl

    begins-moved : (inst : Inst) → begins_after other (renamed_inst r inst) ≡ moved (begins_after m inst)
    begins-moved (insts.Call dst ret callee args) = ap begins_for (kind-same callee) ∙ begins-for-moved (kind_of (external_named m callee))
    begins-moved inst = refl

    two-moved : (xs ys us vs : List HInst) → xs ≡ moved us → ys ≡ moved vs → xs ++ ys ≡ moved (us ++ vs)
    two-moved xs ys us vs e f = ap (λ (zs : List HInst). zs ++ ys) e ∙ ap (λ (zs : List HInst). moved us ++ zs) f ∙ flip (map-append (renamed_item r) us vs)

    body-moved : (inst : Inst) → body_of other (renamed_inst r inst) ≡ moved (body_of m inst)
    body-moved inst = two-moved _ _ (ends_before m inst) (core inst ++ checks_after inst) (ends-moved inst) (two-moved _ _ (core inst) (checks_after inst) (core-moved inst) (after-moved inst))

    placed-moved : (inst : Inst) → placed other (renamed_inst r inst) ≡ moved (placed m inst)
    placed-moved inst = two-moved _ _ (checks_before inst) (body_of m inst ++ begins_after m inst) (checks-moved inst) (two-moved _ _ (body_of m inst) (begins_after m inst) (body-moved inst) (begins-moved inst))

    row-moved : (work : ℕ) (inst : Inst) → row other work (renamed_inst r inst) ≡ moved (row m work inst)
    row-moved work inst = two-moved _ _ (tick_if (leaves inst) work) (placed m inst) (ap (λ (b : Bool). tick_if b work) (leaves-moved inst) ∙ tick-moved (leaves inst) work) (placed-moved inst)

    -- ---- ticks

    ender-moved : (item : HInst) → is_ender (renamed_item r item) ≡ is_ender item
    ender-moved (Do side inst retires) = ap (λ (b : Bool). retires && b) (leaves-moved inst)
    ender-moved (Mov ty reg) = refl
    ender-moved (Chk when ty reg) = refl
    ender-moved (ChkMem ty ptr val) = refl
    ender-moved (Tick work) = refl
    ender-moved Cut = refl
    ender-moved Begin = refl
    ender-moved End = refl

    to-ender-moved : (list : List HInst) → to_ender (moved list) ≡ to_ender list
    to-ender-moved [] = refl
    to-ender-moved (item ∷ list) = rw (ender-moved item, to-ender-moved list) refl

    work-moved : (work : ℕ) (item : HInst) → with_work work (renamed_item r item) ≡ renamed_item r (with_work work item)
    work-moved work (Do side inst retires) = refl
    work-moved work (Mov ty reg) = refl
    work-moved work (Chk when ty reg) = refl
    work-moved work (ChkMem ty ptr val) = refl
    work-moved work (Tick old) = refl
    work-moved work Cut = refl
    work-moved work Begin = refl
    work-moved work End = refl

    ticked-moved : (since : ℕ) (list : List HInst) → ticked since (moved list) ≡ moved (ticked since list)
    ticked-moved since [] = refl
    ticked-moved since (item ∷ list) =
        ap (λ (n : ℕ). with_work (since + n) (renamed_item r item) ∷ ticked (since_ender since (renamed_item r item)) (moved list)) (to-ender-moved (item ∷ list))
        ∙ ap (λ (b : Bool). with_work (since + to_ender (item ∷ list)) (renamed_item r item) ∷ ticked (if b then 0 else suc since) (moved list)) (ender-moved item)
        ∙ ap (λ (x : HInst). x ∷ ticked (since_ender since item) (moved list)) (work-moved (since + to_ender (item ∷ list)) item)
        ∙ ap (λ (xs : List HInst). renamed_item r (with_work (since + to_ender (item ∷ list)) item) ∷ xs) (ticked-moved (since_ender since item) list)

    -- ---- blocks

    image-phis : (inst : Inst) → phi_image (renamed_inst r inst) ≡ map (renamed_phi r) (phi_image inst)
    image-phis (insts.Phi dst ty arms) = refl
    image-phis inst = refl

    copies-moved : (params : List (Ty × Loc)) → map copy_of (map (renamed_param r) params) ≡ moved (map copy_of params)
    copies-moved [] = refl
    copies-moved (param ∷ params) = ap (λ (rest : List HInst). copy_of (renamed_param r param) ∷ rest) (copies-moved params)

    module _ (apart : IsApart loc) (f : FuncParts) (names : List (List ℕ)) where
      abbrev g : FuncParts
      g = record (renamed_func r f) { names = names }

      entry-moved : (b : ℕ) → at_entry (split_table other) g b ≡ moved (at_entry (split_table m) f b)
      entry-moved zero = two-moved _ _ (map copy_of f.params) cut_point (copies-moved f.params) refl
      entry-moved (suc b) = refl

      head-moved : (b : Bool) → at_head (split_table other) b ≡ moved (at_head (split_table m) b)
      head-moved true = refl
      head-moved false = refl

      loops-same : (b : ℕ) → is_loop_head (edges_of g).pairs b ≡ is_loop_head (edges_of f).pairs b
      loops-same b = ap (λ (pairs : List (ℕ × ℕ)). is_loop_head pairs b) (edges-same r apart f names)

      list-moved : (b : ℕ) (block : Block) → (hard_block (split_table other) g b (renamed_block r block)).list ≡ moved (hard_block (split_table m) f b block).list
      list-moved b block =
          two-moved _ _ (at_entry (split_table m) f b) _ (entry-moved b)
          (two-moved _ _ (at_head (split_table m) (is_loop_head (edges_of f).pairs b)) (flat_map (row m 0) block.insts)
          (ap (at_head (split_table other)) (loops-same b) ∙ head-moved (is_loop_head (edges_of f).pairs b))
          (flat-images (renamed_inst r) (row other 0) (row m 0) (renamed_item r) (row-moved 0) block.insts))

      pub block-moved : (b : ℕ) (block : Block) → ticked_block (hard_block (split_table other) g b (renamed_block r block)) ≡ renamed_hard_block r (ticked_block (hard_block (split_table m) f b block))
      block-moved b block =
          ap (λ (list : List HInst). let made : HBlock = record { label = renamed_loc r block.label; phis = flat_map phi_image (map (renamed_inst r) block.insts); list = ticked 0 list } in made) (list-moved b block)
          ∙ ap (λ (phis : List (Side × Inst)). let made : HBlock = record { label = renamed_loc r block.label; phis = phis; list = ticked 0 (moved (hard_block (split_table m) f b block).list) } in made)
          (flat-images (renamed_inst r) phi_image phi_image (renamed_phi r) image-phis block.insts)
          ∙ ap (λ (list : List HInst). let made : HBlock = record { label = renamed_loc r block.label; phis = map (renamed_phi r) (flat_map phi_image block.insts); list = list } in made)
          (ticked-moved 0 (hard_block (split_table m) f b block).list)

      blocks-moved : (b : ℕ) (blocks : List Block)
          → map ticked_block (hard_blocks (split_table other) g b (map (renamed_block r) blocks)) ≡ map (renamed_hard_block r) (map ticked_block (hard_blocks (split_table m) f b blocks))
      blocks-moved b [] = refl
      blocks-moved b (block ∷ blocks) =
          ap (λ (x : HBlock). x ∷ map ticked_block (hard_blocks (split_table other) g (b + 1) (map (renamed_block r) blocks))) (block-moved b block)
          ∙ ap (λ (xs : List HBlock). renamed_hard_block r (ticked_block (hard_block (split_table m) f b block)) ∷ xs) (blocks-moved (b + 1) blocks)

      -- the hardened function
      pub func-moved : map ticked_block (hard_func (split_table other) g) ≡ map (renamed_hard_block r) (map ticked_block (hard_func (split_table m) f))
      func-moved = blocks-moved 0 f.blocks
