-- The registers that an instruction checks or copies have types of one word or of what a `cmpxchg` gives, where the names of its
-- function stand for such.
use Rattle.std.proofs.Common.{ℕ, ◌≡◌, Bool, true, false, ◌&&◌, List, [], ◌∷◌, map, Option, Some, None, refl, sym, ap, ◌∙◌, subst}
use Rattle.std.specs.List.{AllByRecursion, list_all, flat_map, filter_map, cons_option}
use Rattle.ir_core.proofs.Lengths.{both_true}
use Rattle.ir_core.specs.declared.types.Loc.{Loc}
use Rattle.ir_core.specs.declared.types.TypeId.{TypeId}
use Rattle.ir_core.specs.declared.types.Width.{Width}
use Rattle.ir_core.specs.declared.types.Width.TheVariants.{W1, W8, W16, W32, W64}
use Rattle.ir_core.specs.declared.types.Ty.{Ty}
use Rattle.ir_core.specs.declared.types.Ty as opened
use Rattle.ir_core.specs.declared.types.Ty.TheVariants as types
use Rattle.ir_core.specs.declared.types.Ty.TheOpen.{Ty-F}
use Rattle.ir_core.specs.declared.types.Ty.TheViews.{roll-Ty, out-Ty}
use Rattle.ir_core.specs.declared.types.Ty.TheFolds.{fold-roll-Ty}
use Rattle.ir_core.specs.declared.values.Val.{Val}
use Rattle.ir_core.specs.declared.values.Val.TheVariants as values
use Rattle.ir_core.specs.declared.instruction.Inst.{Inst}
use Rattle.ir_core.specs.declared.instruction.Inst.TheVariants as insts
use Rattle.ir_core.specs.declared.instruction.Block.{Block}
use Rattle.ir_core.specs.Module.{ModuleParts, FuncParts}
use Rattle.ir_lines.specs.SameTypes.{same_ty, same_layer, same_width}
use Rattle.ir_types.specs.Firsts.{first_of}
use Rattle.ir_types.specs.Meanings.{Meaning, Label, Register, Pair, result_of, param_meaning, block_meanings, meanings}
use Rattle.ir_types.specs.Types.{is_register_of, operand_fits, typed_operands, pair_type, names_label, labels_in, form_fits, inst_fits}
use Rattle.hard_ir.specs.Image.{checked, single_result}
use Rattle.hard_grammar.proofs.Words.{OneWord, AnInt, APtr, IsWord, IsWordResult, HasWordResult, HaveWordResults, AreWordParams, HasWords, whole, word_by}
use Rattle.hard_grammar.proofs.OwnLines.{IsHeld, AWord, APair}
use Rattle.hard_grammar.proofs.Columns.{HeldOperand, HeldResult, HeldParam, HeldInst, HeldBlock, HeldFunc}
use Rattle.hard_grammar.proofs.Ordinary.{all_append, first_among}
use Rattle.hard_grammar.proofs.Accepted.{FuncFits}

-- ---- types that are the same

abbrev layer_of : {ty : Ty} → OneWord ty → Ty-F (Ty → Bool)
layer_of (AnInt w) = Ty-F.Int w
layer_of APtr = Ty-F.Ptr

step : Ty-F (Ty → Bool) → Ty → Bool
step layer ty = same_layer layer (out-Ty ty)

by_layer : {own : Ty} (one : OneWord own) (ty : Ty) → same_ty own ty ≡ same_layer (layer_of one) (out-Ty ty)
unfolding opened.roll-Ty denote.Hole.Carrier.roll
by_layer (AnInt w) ty = ap (λ (f : Ty → Bool). f ty) (fold-roll-Ty (Ty → Bool) (λ layer ty. same_layer layer (out-Ty ty)) (Ty-F.Int w))
by_layer APtr ty = ap (λ (f : Ty → Bool). f ty) (fold-roll-Ty (Ty → Bool) (λ layer ty. same_layer layer (out-Ty ty)) Ty-F.Ptr)

not_void : {own : Ty} (one : OneWord own) → same_layer (layer_of one) Ty-F.Void ≡ false
not_void (AnInt w) = refl
not_void APtr = refl

not_array : {own : Ty} (one : OneWord own) (n : ℕ) (ty : Ty) → same_layer (layer_of one) (Ty-F.Array n ty) ≡ false
not_array (AnInt w) n ty = refl
not_array APtr n ty = refl

not_struct : {own : Ty} (one : OneWord own) (parts : List Ty) → same_layer (layer_of one) (Ty-F.Struct parts) ≡ false
not_struct (AnInt w) parts = refl
not_struct APtr parts = refl

not_named : {own : Ty} (one : OneWord own) (id : TypeId) → same_layer (layer_of one) (Ty-F.Named id) ≡ false
not_named (AnInt w) id = refl
not_named APtr id = refl

clash : {A : Type 0} (b c : Bool) → b ≡ true → b ≡ c → c ≡ false → A
clash b c e f g = absurd (let h : true ≡ false = sym e ∙ f ∙ g in cc)

-- what is the same as a type of one word is one
pub same_word : {own : Ty} (one : OneWord own) (ty : Ty) → same_ty own ty ≡ true → OneWord ty
same_word one ty e = word_by (same_layer (layer_of one)) (not_void one) (not_array one) (not_struct one) (not_named one) ty (sym (by_layer one ty) ∙ e)

w1_same : (ty : Ty) → same_ty (types.Int W1) ty ≡ true → ty ≡ types.Int W1
unfolding opened.roll-Ty denote.Hole.Carrier.roll
w1_same ty e = by (out-Ty ty) refl
  where
    one : OneWord (types.Int W1)
    one = AnInt W1

    width : (v : Width) → out-Ty ty ≡ Ty-F.Int v → same_width W1 v ≡ true → ty ≡ types.Int W1
    width W1 h f = sym (whole ty (Ty-F.Int W1) h)
    width W8 h f = absurd cc
    width W16 h f = absurd cc
    width W32 h f = absurd cc
    width W64 h f = absurd cc

    by : (layer : Ty-F Ty) → out-Ty ty ≡ layer → ty ≡ types.Int W1
    by (Ty-F.Int v) h = width v h (sym (by_layer one ty ∙ ap (same_layer (layer_of one)) h) ∙ e)
    by Ty-F.Ptr h = clash _ _ e (by_layer one ty ∙ ap (same_layer (layer_of one)) h) refl
    by Ty-F.Void h = clash _ _ e (by_layer one ty ∙ ap (same_layer (layer_of one)) h) refl
    by (Ty-F.Array n element) h = clash _ _ e (by_layer one ty ∙ ap (same_layer (layer_of one)) h) refl
    by (Ty-F.Struct parts) h = clash _ _ e (by_layer one ty ∙ ap (same_layer (layer_of one)) h) refl
    by (Ty-F.Named id) h = clash _ _ e (by_layer one ty ∙ ap (same_layer (layer_of one)) h) refl

-- and what is the same as the type of what a `cmpxchg` gives on such a type
same_pair : {own : Ty} (one : OneWord own) (ty : Ty) → same_ty (pair_type own) ty ≡ true → IsHeld ty
unfolding opened.roll-Ty denote.Hole.Carrier.roll
same_pair {own} one ty e = by (out-Ty ty) refl
  where
    parts : List (Ty → Bool)
    parts = same_ty own ∷ same_ty (types.Int W1) ∷ []

    pair_layer : same_ty (pair_type own) ty ≡ same_layer (Ty-F.Struct parts) (out-Ty ty)
    pair_layer = ap (λ (f : Ty → Bool). f ty) (fold-roll-Ty (Ty → Bool) (λ layer ty. same_layer layer (out-Ty ty)) (Ty-F.Struct (own ∷ types.Int W1 ∷ [])))

    at : (layer : Ty-F Ty) → out-Ty ty ≡ layer → same_layer (Ty-F.Struct parts) layer ≡ true
    at layer h = sym (pair_layer ∙ ap (same_layer (Ty-F.Struct parts)) h) ∙ e

    listed : (others : List Ty) → out-Ty ty ≡ Ty-F.Struct others → same_layer (Ty-F.Struct parts) (Ty-F.Struct others) ≡ true → IsHeld ty
    listed [] h f = absurd cc
    listed (a ∷ []) h f = let w = both_true (same_ty own a) false f in absurd (let g : false ≡ true = w.1 in cc)
    listed (a ∷ b ∷ []) h f =
        let w = both_true (same_ty own a) (same_ty (types.Int W1) b && true) f in
        let v = both_true (same_ty (types.Int W1) b) true w.1 in
        let second : b ≡ types.Int W1 = w1_same b v.0 in
        let made : pair_type a ≡ ty = ap (λ (t : Ty). types.Struct (a ∷ t ∷ [])) (sym second) ∙ whole ty (Ty-F.Struct (a ∷ b ∷ [])) h in
        subst IsHeld made (APair a (same_word one a w.0))
    listed (a ∷ b ∷ c ∷ others) h f =
        let w = both_true (same_ty own a) (same_ty (types.Int W1) b && false) f in
        absurd (let g : false ≡ true = (both_true (same_ty (types.Int W1) b) false w.1).1 in cc)

    by : (layer : Ty-F Ty) → out-Ty ty ≡ layer → IsHeld ty
    by (Ty-F.Struct others) h = listed others h (at (Ty-F.Struct others) h)
    by Ty-F.Void h = let f = at Ty-F.Void h in absurd cc
    by (Ty-F.Int v) h = let f = at (Ty-F.Int v) h in absurd cc
    by Ty-F.Ptr h = let f = at Ty-F.Ptr h in absurd cc
    by (Ty-F.Array n element) h = let f = at (Ty-F.Array n element) h in absurd cc
    by (Ty-F.Named id) h = let f = at (Ty-F.Named id) h in absurd cc

-- ---- operands

abbrev pub AreWords : List (Loc × Meaning) → Type 0
AreWords = AllByRecursion (λ entry. IsWord entry.1)

register_held : (ty : Ty) (meaning : Meaning) → IsWord meaning → is_register_of ty (Some meaning) ≡ true → IsHeld ty
register_held ty Label good e = absurd cc
register_held ty (Register own) good e = AWord ty (same_word good ty e)
register_held ty (Pair own) good e = same_pair good ty e

operand_held : (named : List (TypeId × Ty)) (names : List (Loc × Meaning)) (operand : Ty × Val) → AreWords names → operand_fits named names operand ≡ true → HeldOperand operand
operand_held named names (ty, values.Int n) good e = tt
operand_held named names (ty, values.Null) good e = tt
operand_held named names (ty, values.Global sym) good e = tt
operand_held named names (ty, values.Gep gep) good e = tt
operand_held named names (ty, values.Reg at) good e = by (first_of names at) refl e
  where
    by : (o : Option Meaning) → first_of names at ≡ o → is_register_of ty o ≡ true → IsHeld ty
    by None h f = absurd cc
    by (Some meaning) h f = register_held ty meaning (first_among IsWord names at meaning good h) f

-- where the operands of an instruction fit, those that are checked are of such types
pub operands_held : (named : List (TypeId × Ty)) (names : List (Loc × Meaning)) (operands : List (Ty × Val)) → AreWords names → list_all (operand_fits named names) operands ≡ true → AllByRecursion HeldOperand operands
operands_held named names [] good e = tt
operands_held named names (operand ∷ operands) good e =
    let w = both_true (operand_fits named names operand) (list_all (operand_fits named names) operands) e in
    (operand_held named names operand good w.0, operands_held named names operands good w.1)

-- ---- functions

filter_words : (body : List Inst) → AllByRecursion HasWordResult body → AreWords (filter_map result_of body)
filter_words [] all = tt
filter_words (inst ∷ body) all = by (result_of inst) all.0 (filter_words body all.1)
  where
    by : (o : Option (Loc × Meaning)) → IsWordResult o → AreWords (filter_map result_of body) → AreWords (cons_option o (filter_map result_of body))
    by None good rest = rest
    by (Some result) good rest = (good, rest)

blocks_words : (blocks : List Block) → HaveWordResults blocks → AreWords (flat_map block_meanings blocks)
blocks_words [] all = tt
blocks_words (block ∷ blocks) all = all_append (λ entry. IsWord entry.1) (block_meanings block) (flat_map block_meanings blocks) (tt, filter_words block.insts all.0) (blocks_words blocks all.1)

params_words : (params : List (Ty × Loc)) → AreWordParams params → AreWords (map param_meaning params)
params_words [] all = tt
params_words (param ∷ params) all = (all.0, params_words params all.1)

params_held : (params : List (Ty × Loc)) → AreWordParams params → AllByRecursion HeldParam params
params_held [] all = tt
params_held (param ∷ params) all = (AWord param.0 all.0, params_held params all.1)

checked_held : (inst : Inst) → AllByRecursion HeldOperand (typed_operands inst) → AllByRecursion HeldOperand (checked inst)
checked_held (insts.Bin dst op flags w a b) h = tt
checked_held (insts.Cmp dst pred ty a b) h = tt
checked_held (insts.Select dst cond ty a b) h = tt
checked_held (insts.Cast dst op from a to) h = tt
checked_held (insts.Gep dst base ptr index) h = tt
checked_held (insts.Alloca dst ty) h = tt
checked_held (insts.Load dst ty ptr atomic) h = h
checked_held (insts.Store ty val ptr atomic) h = (h.1.0, (h.0, tt))
checked_held (insts.Rmw dst op ptr ty val) h = h
checked_held (insts.CmpXchg dst ptr ty old new) h = h
checked_held insts.Fence h = tt
checked_held (insts.Extract dst elem pair index) h = tt
checked_held (insts.Call dst ret callee args) h = h
checked_held (insts.Phi dst ty arms) h = tt
checked_held (insts.Br to) h = tt
checked_held (insts.CondBr cond on_true on_false) h = h
checked_held (insts.Switch ty on default cases) h = h
checked_held (insts.Ret ty None) h = tt
checked_held (insts.Ret ty (Some val)) h = h
checked_held insts.Unreachable h = tt

result_held : (inst : Inst) → HasWordResult inst → HeldResult (single_result inst)
result_held (insts.Alloca dst ty) good = AWord types.Ptr APtr
result_held (insts.Load dst ty ptr atomic) good = AWord ty good
result_held (insts.Rmw dst op ptr ty val) good = AWord ty good
result_held (insts.CmpXchg dst ptr ty old new) good = APair ty good
result_held (insts.Call None ret callee args) good = tt
result_held (insts.Call (Some dst) ret callee args) good = AWord ret good
result_held (insts.Bin dst op flags w a b) good = tt
result_held (insts.Cmp dst pred ty a b) good = tt
result_held (insts.Select dst cond ty a b) good = tt
result_held (insts.Cast dst op from a to) good = tt
result_held (insts.Gep dst base ptr index) good = tt
result_held (insts.Store ty val ptr atomic) good = tt
result_held insts.Fence good = tt
result_held (insts.Extract dst elem pair index) good = tt
result_held (insts.Phi dst ty arms) good = tt
result_held (insts.Br to) good = tt
result_held (insts.CondBr cond on_true on_false) good = tt
result_held (insts.Switch ty on default cases) good = tt
result_held (insts.Ret ty val) good = tt
result_held insts.Unreachable good = tt

module _ (m : ModuleParts) (f : FuncParts) (words : HasWords f) where
  all_words : AreWords (meanings f)
  all_words = all_append (λ entry. IsWord entry.1) (map param_meaning f.params) (flat_map block_meanings f.blocks) (params_words f.params words.params) (blocks_words f.blocks words.results)

  insts_held : (body : List Inst) → AllByRecursion (λ (inst : Inst). inst_fits m.types (meanings f) f.ret inst ≡ true) body → AllByRecursion HasWordResult body → AllByRecursion HeldInst body
  insts_held [] fits good = tt
  insts_held (inst ∷ body) fits good =
      let operands = list_all (operand_fits m.types (meanings f)) (typed_operands inst) in
      let labels = list_all (names_label (meanings f)) (labels_in inst) in
      let own = form_fits m.types (meanings f) f.ret inst in
      let w = both_true (operands && labels) own fits.0 in
      let v = both_true operands labels w.0 in
      (record { operands = checked_held inst (operands_held m.types (meanings f) (typed_operands inst) all_words v.0); result = result_held inst good.0 }, insts_held body fits.1 good.1)

  blocks_held : (blocks : List Block) → AllByRecursion (λ (block : Block). AllByRecursion (λ (inst : Inst). inst_fits m.types (meanings f) f.ret inst ≡ true) block.insts) blocks
      → HaveWordResults blocks → AllByRecursion HeldBlock blocks
  blocks_held [] fits good = tt
  blocks_held (block ∷ blocks) fits good = (insts_held block.insts fits.0 good.0, blocks_held blocks fits.1 good.1)

  pub words_held : FuncFits m f → HeldFunc f
  words_held fits = record { params = params_held f.params words.params; blocks = blocks_held f.blocks fits.fits words.results }
