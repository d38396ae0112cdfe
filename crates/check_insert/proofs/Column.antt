-- The two flows of a module become its two flows with checks.
use Rattle.std.proofs.Common.{◌≡◌, ℕ, zero, suc, ◌+◌, Bool, true, false, List, [], ◌∷◌, ◌++◌, Option, Some, None, map, refl, ap, ◌∙◌, append_assoc}
use Rattle.std.proofs.lemmas.Grind.{flat_map-append}
use Rattle.std.specs.List.{flat_map}
use Rattle.ir_core.specs.declared.types.Ty.{Ty}
use Rattle.ir_core.specs.declared.types.Loc.{Loc}
use Rattle.ir_core.specs.declared.values.Side.TheVariants.{M}
use Rattle.ir_core.specs.declared.instruction.Block.{Block}
use Rattle.ir_core.specs.declared.instruction.Inst.{Inst}
use Rattle.ir_core.specs.declared.instruction.Inst.TheVariants as insts
use Rattle.ir_core.specs.Module.{FuncParts, ModuleParts}
use Rattle.ir_flow.specs.Edges.{edges_of, is_loop_head}
use Rattle.hard_ir.specs.declared.instruction.HInst.{HInst}
use Rattle.hard_ir.specs.declared.instruction.HInst.TheVariants.{Do}
use Rattle.hard_ir.specs.declared.instruction.HBlock.{HBlock}
use Rattle.hard_ir.specs.Hardened.{HardParts, at_entry, at_head, hard_block, hard_blocks, hard_func, heads_of}
use Rattle.hard_ir.specs.Image.{check, check_table, checked, copies, copy_of, flow, flow_table, phi_image, single_result, with_checks}
use Rattle.check_insert.specs.Checks.{IsColumn, checked_block, checked_funcs, checked_item}

-- a copy has no checks
checked-copies : (params : List (Ty × Loc)) → flat_map checked_item (map copy_of params) ≡ map copy_of params
checked-copies [] = refl
checked-copies (param ∷ params) = ap (λ l. copy_of param ∷ l) (checked-copies params)

-- an instruction that is done once, and the copy of its result
checked-once : (inst : Inst) (result : Option (Ty × Loc))
    → flat_map checked_item (Do M inst true ∷ copies result) ≡ with_checks inst (Do M inst true ∷ copies result)
checked-once inst None = append_assoc (flat_map check (checked inst)) (Do M inst true ∷ []) []
checked-once inst (Some reg) = append_assoc (flat_map check (checked inst)) (Do M inst true ∷ []) (copy_of reg ∷ [])

checked-flow : (inst : Inst) → flat_map checked_item (flow inst) ≡ with_checks inst (flow inst)
checked-flow (insts.Bin dst op flags w a b) = refl
checked-flow (insts.Cmp dst pred ty a b) = refl
checked-flow (insts.Select dst cond ty a b) = refl
checked-flow (insts.Cast dst op from a to) = refl
checked-flow (insts.Gep dst base ptr index) = refl
checked-flow (insts.Extract dst elem pair index) = refl
checked-flow (insts.Phi dst ty arms) = refl
checked-flow (insts.Alloca dst ty) = checked-once (insts.Alloca dst ty) (single_result (insts.Alloca dst ty))
checked-flow (insts.Load dst ty ptr atomic) = checked-once (insts.Load dst ty ptr atomic) (single_result (insts.Load dst ty ptr atomic))
checked-flow (insts.Store ty val ptr atomic) = checked-once (insts.Store ty val ptr atomic) None
checked-flow (insts.Rmw dst op ptr ty val) = checked-once (insts.Rmw dst op ptr ty val) (single_result (insts.Rmw dst op ptr ty val))
checked-flow (insts.CmpXchg dst ptr ty old new) = checked-once (insts.CmpXchg dst ptr ty old new) (single_result (insts.CmpXchg dst ptr ty old new))
checked-flow insts.Fence = refl
checked-flow (insts.Call dst ret callee args) = checked-once (insts.Call dst ret callee args) (single_result (insts.Call dst ret callee args))
checked-flow (insts.Br to) = refl
checked-flow (insts.CondBr cond on_true on_false) = checked-once (insts.CondBr cond on_true on_false) None
checked-flow (insts.Switch ty on default cases) = checked-once (insts.Switch ty on default cases) None
checked-flow (insts.Ret ty val) = checked-once (insts.Ret ty val) None
checked-flow insts.Unreachable = refl

checked-flows : (insts : List Inst) → flat_map checked_item (flat_map flow insts) ≡ flat_map check_table.image insts
checked-flows [] = refl
checked-flows (inst ∷ insts) =
    flat_map-append checked_item (flow inst) (flat_map flow insts) ∙ ap (λ l. l ++ flat_map checked_item (flat_map flow insts)) (checked-flow inst)
    ∙ ap (λ l. with_checks inst (flow inst) ++ l) (checked-flows insts)

checked-entry : (f : FuncParts) (n : ℕ) → flat_map checked_item (at_entry flow_table f n) ≡ at_entry check_table f n
checked-entry f zero = checked-copies f.params
checked-entry f (suc n) = refl

checked-head : (is_head : Bool) → flat_map checked_item (at_head flow_table is_head) ≡ at_head check_table is_head
checked-head true = refl
checked-head false = refl

checked-parts : (a b c : List HInst)
    → flat_map checked_item (a ++ (b ++ c)) ≡ flat_map checked_item a ++ (flat_map checked_item b ++ flat_map checked_item c)
checked-parts a b c = flat_map-append checked_item a (b ++ c) ∙ ap (λ l. flat_map checked_item a ++ l) (flat_map-append checked_item b c)

checked-block : (f : FuncParts) (n : ℕ) (block : Block) → checked_block (hard_block flow_table f n block) ≡ hard_block check_table f n block
checked-block f n block =
    ap made (checked-parts entry head (flat_map flow block.insts) ∙ rw (checked-entry f n, checked-head is_head, checked-flows block.insts))
  where
    is_head : Bool
    is_head = is_loop_head (edges_of f).pairs n

    entry : List HInst
    entry = at_entry flow_table f n

    head : List HInst
    head = at_head flow_table is_head

    made : List HInst → HBlock
    made list = record { label = block.label; phis = flat_map phi_image block.insts; list = list }

checked-blocks : (f : FuncParts) (n : ℕ) (blocks : List Block)
    → map checked_block (hard_blocks flow_table f n blocks) ≡ hard_blocks check_table f n blocks
checked-blocks f n [] = refl
checked-blocks f n (block ∷ blocks) =
    ap (λ b. b ∷ map checked_block (hard_blocks flow_table f (n + 1) blocks)) (checked-block f n block)
    ∙ ap (λ bs. hard_block check_table f n block ∷ bs) (checked-blocks f (n + 1) blocks)

checked-funcs : (funcs : List FuncParts) → checked_funcs (map (hard_func flow_table) funcs) ≡ map (hard_func check_table) funcs
checked-funcs [] = refl
checked-funcs (f ∷ funcs) =
    ap (λ bs. bs ∷ checked_funcs (map (hard_func flow_table) funcs)) (checked-blocks f 0 f.blocks)
    ∙ ap (λ fs. hard_func check_table f ∷ fs) (checked-funcs funcs)

abbrev of_blocks : ModuleParts → List (List HBlock) → HardParts
of_blocks m funcs = record { heads = heads_of m; funcs = funcs }

pub column : IsColumn
column m = ap (of_blocks m) (checked-funcs m.funcs)
