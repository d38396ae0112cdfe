-- What the registers and labels of a function are, and whether types fit, under other numbers.
use Rattle.std.proofs.Common.{ℕ, suc, ◌≡◌, ◌∙◌, ◌&&◌, Bool, true, false, not, List, [], ◌∷◌, ◌++◌, map, length, Option, Some, None, refl, ap, sym as flip}
use Rattle.std.specs.Prelude.{nat_eq, if◌then◌else◌}
use Rattle.std.specs.List.{flat_map, filter_map, list_all, cons_option}
use Rattle.std.specs.Option.{option_map, is_some}
use Rattle.std.proofs.lemmas.List.{map-append}
use Rattle.ir_core.specs.declared.types.Ty.{Ty, map-Ty, roll-Ty}
use Rattle.ir_core.specs.declared.types.Ty as opened_types
use Rattle.ir_core.specs.declared.types.Ty.TheFolds.{fold-roll-Ty}
use Rattle.ir_core.specs.declared.types.Ty.TheOpen.{Ty-F}
use Rattle.ir_core.specs.declared.types.Ty.TheViews.{out-Ty}
use Rattle.ir_core.specs.declared.types.Ty.TheVariants as types
use Rattle.ir_core.specs.declared.types.TypeId.{TypeId}
use Rattle.ir_core.specs.declared.types.Loc.{Loc}
use Rattle.ir_core.specs.declared.types.Width.{Width}
use Rattle.ir_core.specs.declared.types.Width.TheVariants.{W1, W8}
use Rattle.ir_core.specs.declared.values.ConstGep.{ConstGep}
use Rattle.ir_core.specs.declared.values.Val.{Val}
use Rattle.ir_core.specs.declared.values.Val.TheVariants as values
use Rattle.ir_core.specs.declared.values.Init.{Init, map-Init}
use Rattle.ir_core.specs.declared.values.Init as opened_inits
use Rattle.ir_core.specs.declared.values.Init.TheFolds.{fold-roll-Init, ind-Init}
use Rattle.ir_core.specs.declared.values.Init.TheOpen.{Init-F}
use Rattle.ir_core.specs.declared.instruction.CastOp.{CastOp}
use Rattle.ir_core.specs.declared.instruction.CastOp.TheVariants.{Zext, Sext, Trunc, Ptrtoint, Inttoptr}
use Rattle.ir_core.specs.declared.instruction.Inst.{Inst}
use Rattle.ir_core.specs.declared.instruction.Inst.TheVariants as insts
use Rattle.ir_core.specs.declared.instruction.Block.{Block}
use Rattle.ir_layout.specs.Offsets.{fields, entered}
use Rattle.ir_lines.specs.SameTypes.{same_ty}
use Rattle.ir_types.specs.Firsts.{entry_of, first_of}
use Rattle.ir_types.specs.Meanings.{Meaning, Label, Register, Pair, result_of, param_meaning, block_meanings}
use Rattle.ir_types.specs.Types.{int_width_step, int_width, is_ptr_step, is_ptr, is_void_step, is_void, is_aggregate_step, pair_type, is_register_of, is_label, names_label, is_pair_of, gep_fits, operand_fits, typed_index, typed_arm, typed_operands, labels_in, cast_fits, holds_of, as_constant, enter, indices_fit, ret_fits, form_fits, inst_fits, is_byte_array_step, is_byte_array, part_fits, fields_fit, elements_fit, parts_fit, init_step, init_fits, has_no_parts}
use Rattle.ir_numbering.specs.Renaming.{Renaming, renamed_loc, renamed_sym, renamed_step, renamed_ty, renamed_val, renamed_gep, renamed_args, renamed_arms, renamed_cases, renamed_index, renamed_option, renamed_init_step, renamed_init, renamed_inst, renamed_block, renamed_param}
use Rattle.ir_numbering.specs.Numbers.{renamed_named}
use Rattle.renamed_modules.proofs.RenamedTypes.{IsApart, same-test, find-map, numbered_layer, out-renamed, offset-same, fields-same, entered-same, type-same, int-again, ptr-again}
use Rattle.renamed_modules.proofs.RenamedLines.{flat-images}

module _ (r : Renaming) where
  -- ---- kinds of types

  by-int : (x : Ty-F Ty) → int_width_step (numbered_layer r.type_id (map-Ty Ty Ty (renamed_ty r) x)) ≡ int_width_step x
  by-int (Ty-F.Int w) = refl
  by-int Ty-F.Void = refl
  by-int Ty-F.Ptr = refl
  by-int (Ty-F.Array count element) = refl
  by-int (Ty-F.Struct parts) = refl
  by-int (Ty-F.Named id) = refl

  int-same : (ty : Ty) → int_width (renamed_ty r ty) ≡ int_width ty
  int-same ty = ap int_width_step (out-renamed r ty) ∙ by-int (out-Ty ty)

  by-ptr : (x : Ty-F Ty) → is_ptr_step (numbered_layer r.type_id (map-Ty Ty Ty (renamed_ty r) x)) ≡ is_ptr_step x
  by-ptr Ty-F.Ptr = refl
  by-ptr (Ty-F.Int w) = refl
  by-ptr Ty-F.Void = refl
  by-ptr (Ty-F.Array count element) = refl
  by-ptr (Ty-F.Struct parts) = refl
  by-ptr (Ty-F.Named id) = refl

  ptr-same : (ty : Ty) → is_ptr (renamed_ty r ty) ≡ is_ptr ty
  ptr-same ty = ap is_ptr_step (out-renamed r ty) ∙ by-ptr (out-Ty ty)

  by-void : (x : Ty-F Ty) → is_void_step (numbered_layer r.type_id (map-Ty Ty Ty (renamed_ty r) x)) ≡ is_void_step x
  by-void Ty-F.Void = refl
  by-void Ty-F.Ptr = refl
  by-void (Ty-F.Int w) = refl
  by-void (Ty-F.Array count element) = refl
  by-void (Ty-F.Struct parts) = refl
  by-void (Ty-F.Named id) = refl

  void-same : (ty : Ty) → is_void (renamed_ty r ty) ≡ is_void ty
  void-same ty = ap is_void_step (out-renamed r ty) ∙ by-void (out-Ty ty)

  by-aggregate : (x : Ty-F Ty) → is_aggregate_step (numbered_layer r.type_id (map-Ty Ty Ty (renamed_ty r) x)) ≡ is_aggregate_step x
  by-aggregate Ty-F.Void = refl
  by-aggregate Ty-F.Ptr = refl
  by-aggregate (Ty-F.Int w) = refl
  by-aggregate (Ty-F.Array count element) = refl
  by-aggregate (Ty-F.Struct parts) = refl
  by-aggregate (Ty-F.Named id) = refl

  pub parts-same : (ty : Ty) → has_no_parts (renamed_ty r ty) ≡ has_no_parts ty
  parts-same ty = ap not (ap is_aggregate_step (out-renamed r ty) ∙ by-aggregate (out-Ty ty))

  pair-again : (ty : Ty) → renamed_ty r (pair_type ty) ≡ pair_type (renamed_ty r ty)
  unfolding opened_types.roll-Ty denote.Hole.Carrier.roll
  pair-again ty =
      fold-roll-Ty Ty (renamed_step r.type_id) (Ty-F.Struct (ty ∷ types.Int W1 ∷ []))
      ∙ ap (λ (t : Ty). types.Struct (renamed_ty r ty ∷ t ∷ [])) (fold-roll-Ty Ty (renamed_step r.type_id) (Ty-F.Int W1))

  -- ---- meanings

  abbrev pub renamed_meaning : Meaning → Meaning
  renamed_meaning Label = Label
  renamed_meaning (Register ty) = Register (renamed_ty r ty)
  renamed_meaning (Pair ty) = Pair (renamed_ty r ty)

  abbrev renamed_entry : Loc × Meaning → Loc × Meaning
  renamed_entry entry = (renamed_loc r entry.0, renamed_meaning entry.1)

  module _ (apart : IsApart r.type_id) where
    result-entry : (inst : Inst) → result_of (renamed_inst r inst) ≡ option_map renamed_entry (result_of inst)
    result-entry (insts.Bin dst op flags w a b) = ap (λ (ty : Ty). Some (renamed_loc r dst, Register ty)) (flip (int-again r apart w))
    result-entry (insts.Cmp dst pred ty a b) = ap (λ (ty : Ty). Some (renamed_loc r dst, Register ty)) (flip (int-again r apart W1))
    result-entry (insts.Select dst cond ty a b) = refl
    result-entry (insts.Cast dst op from a to) = refl
    result-entry (insts.Gep dst base ptr index) = ap (λ (ty : Ty). Some (renamed_loc r dst, Register ty)) (flip (ptr-again r apart))
    result-entry (insts.Alloca dst ty) = ap (λ (ty : Ty). Some (renamed_loc r dst, Register ty)) (flip (ptr-again r apart))
    result-entry (insts.Load dst ty ptr atomic) = refl
    result-entry (insts.Store ty val ptr atomic) = refl
    result-entry (insts.Rmw dst op ptr ty val) = refl
    result-entry (insts.CmpXchg dst ptr ty old new) = refl
    result-entry insts.Fence = refl
    result-entry (insts.Extract dst elem pair index) = ap (λ (ty : Ty). Some (renamed_loc r dst, Register ty)) (by_index (nat_eq index 0))
      where
        by_index : (b : Bool) → (if b then renamed_ty r elem else types.Int W1) ≡ renamed_ty r (if b then elem else types.Int W1)
        by_index true = refl
        by_index false = flip (int-again r apart W1)
    result-entry (insts.Call None ret callee args) = refl
    result-entry (insts.Call (Some dst) ret callee args) = refl
    result-entry (insts.Phi dst ty arms) = refl
    result-entry (insts.Br to) = refl
    result-entry (insts.CondBr cond on_true on_false) = refl
    result-entry (insts.Switch ty on default cases) = refl
    result-entry (insts.Ret ty val) = refl
    result-entry insts.Unreachable = refl

    body-entries : (body : List Inst) → filter_map result_of (map (renamed_inst r) body) ≡ map renamed_entry (filter_map result_of body)
    body-entries [] = refl
    body-entries (inst ∷ body) = rw (result-entry inst, body-entries body) (by_result (result_of inst) (filter_map result_of body))
      where
        by_result : (o : Option (Loc × Meaning)) (rest : List (Loc × Meaning)) → cons_option (option_map renamed_entry o) (map renamed_entry rest) ≡ map renamed_entry (cons_option o rest)
        by_result None rest = refl
        by_result (Some entry) rest = refl

    params-entries : (params : List (Ty × Loc)) → map param_meaning (map (renamed_param r) params) ≡ map renamed_entry (map param_meaning params)
    params-entries [] = refl
    params-entries (param ∷ params) = ap (λ (rest : List (Loc × Meaning)). param_meaning (renamed_param r param) ∷ rest) (params-entries params)

    blocks-entries : (blocks : List Block) → flat_map block_meanings (map (renamed_block r) blocks) ≡ map renamed_entry (flat_map block_meanings blocks)
    blocks-entries = flat-images (renamed_block r) block_meanings block_meanings renamed_entry (λ block. ap (λ (rest : List (Loc × Meaning)). (renamed_loc r block.label, Label) ∷ rest) (body-entries block.insts))

    pub entries-same : (params : List (Ty × Loc)) (blocks : List Block)
        → map param_meaning (map (renamed_param r) params) ++ flat_map block_meanings (map (renamed_block r) blocks) ≡ map renamed_entry (map param_meaning params ++ flat_map block_meanings blocks)
    entries-same params blocks = rw (params-entries params, blocks-entries blocks) (flip (map-append renamed_entry (map param_meaning params) (flat_map block_meanings blocks)))

    module _ (locs : IsApart r.loc) where
      first-same : (entries : List (Loc × Meaning)) (at : Loc) → first_of (map renamed_entry entries) (renamed_loc r at) ≡ option_map renamed_meaning (first_of entries at)
      first-same entries at =
          ap (option_map (λ (entry : Loc × Meaning). entry.1)) (find-map renamed_entry (λ (entry : Loc × Meaning). nat_eq entry.0.0 at.0) (λ (entry : Loc × Meaning). nat_eq entry.0.0 (r.loc at.0)) (λ entry. same-test r.loc locs entry.0.0 at.0) entries)
          ∙ by_entry (entry_of entries at.0)
        where
          by_entry : (o : Option (Loc × Meaning)) → option_map (λ (entry : Loc × Meaning). entry.1) (option_map renamed_entry o) ≡ option_map renamed_meaning (option_map (λ (entry : Loc × Meaning). entry.1) o)
          by_entry None = refl
          by_entry (Some entry) = refl

      -- ---- operands

      module _ (named : List (TypeId × Ty)) (entries : List (Loc × Meaning)) where
        abbrev others : List (TypeId × Ty)
        others = map (renamed_named r) named

        abbrev moved : List (Loc × Meaning)
        moved = map renamed_entry entries

        register-same : (ty : Ty) (o : Option Meaning) → is_register_of (renamed_ty r ty) (option_map renamed_meaning o) ≡ is_register_of ty o
        register-same ty None = refl
        register-same ty (Some Label) = refl
        register-same ty (Some (Register own)) = type-same r apart own ty
        register-same ty (Some (Pair own)) = ap (λ (t : Ty). same_ty t (renamed_ty r ty)) (flip (pair-again own)) ∙ type-same r apart (pair_type own) ty

        label-same : (o : Option Meaning) → is_label (option_map renamed_meaning o) ≡ is_label o
        label-same None = refl
        label-same (Some Label) = refl
        label-same (Some (Register ty)) = refl
        label-same (Some (Pair ty)) = refl

        pair-same : (ty : Ty) (o : Option Meaning) → is_pair_of (renamed_ty r ty) (option_map renamed_meaning o) ≡ is_pair_of ty o
        pair-same ty None = refl
        pair-same ty (Some Label) = refl
        pair-same ty (Some (Register own)) = refl
        pair-same ty (Some (Pair own)) = type-same r apart own ty

        gep-same : (gep : ConstGep) → gep_fits others (renamed_gep r gep) ≡ gep_fits named gep
        gep-same gep = ap is_some (offset-same r apart named gep.base gep.index)

        operand-same : (ty : Ty) (value : Val) → operand_fits others moved (renamed_ty r ty, renamed_val r value) ≡ operand_fits named entries (ty, value)
        operand-same ty (values.Reg at) = ap (is_register_of (renamed_ty r ty)) (first-same entries at) ∙ register-same ty (first_of entries at)
        operand-same ty (values.Int n) = ap is_some (int-same ty)
        operand-same ty values.Null = ptr-same ty
        operand-same ty (values.Global name) = ptr-same ty
        operand-same ty (values.Gep gep) = rw (ptr-same ty, gep-same gep) refl

        abbrev renamed_operand : Ty × Val → Ty × Val
        renamed_operand operand = (renamed_ty r operand.0, renamed_val r operand.1)

        operands-same : (operands : List (Ty × Val)) → list_all (operand_fits others moved) (map renamed_operand operands) ≡ list_all (operand_fits named entries) operands
        operands-same [] = refl
        operands-same (operand ∷ operands) = rw (operand-same operand.0 operand.1, operands-same operands) refl

        -- ---- instructions

        args-operands : (args : List (Ty × Val)) → renamed_args r args ≡ map renamed_operand args
        args-operands [] = refl
        args-operands (arg ∷ args) = ap (λ (rest : List (Ty × Val)). renamed_operand arg ∷ rest) (args-operands args)

        arms-operands : (ty : Ty) (arms : List (Val × Loc)) → map (typed_arm (renamed_ty r ty)) (renamed_arms r arms) ≡ map renamed_operand (map (typed_arm ty) arms)
        arms-operands ty [] = refl
        arms-operands ty (arm ∷ arms) = ap (λ (rest : List (Ty × Val)). (renamed_ty r ty, renamed_val r arm.0) ∷ rest) (arms-operands ty arms)

        index-operands : (indices : List (Width × Val)) → map typed_index (renamed_index r indices) ≡ map renamed_operand (map typed_index indices)
        index-operands [] = refl
        index-operands (index ∷ indices) = rw (int-again r apart index.0) (ap (λ (rest : List (Ty × Val)). (types.Int index.0, renamed_val r index.1) ∷ rest) (index-operands indices))

        typed-same : (inst : Inst) → typed_operands (renamed_inst r inst) ≡ map renamed_operand (typed_operands inst)
        typed-same (insts.Bin dst op flags w a b) = rw (int-again r apart w) refl
        typed-same (insts.Cmp dst pred ty a b) = refl
        typed-same (insts.Select dst cond ty a b) = rw (int-again r apart W1) refl
        typed-same (insts.Cast dst op from a to) = refl
        typed-same (insts.Gep dst base ptr index) = rw (ptr-again r apart) (ap (λ (rest : List (Ty × Val)). (types.Ptr, renamed_val r ptr) ∷ rest) (index-operands index))
        typed-same (insts.Alloca dst ty) = refl
        typed-same (insts.Load dst ty ptr atomic) = rw (ptr-again r apart) refl
        typed-same (insts.Store ty val ptr atomic) = rw (ptr-again r apart) refl
        typed-same (insts.Rmw dst op ptr ty val) = rw (ptr-again r apart) refl
        typed-same (insts.CmpXchg dst ptr ty old new) = rw (ptr-again r apart) refl
        typed-same insts.Fence = refl
        typed-same (insts.Extract dst elem pair index) = refl
        typed-same (insts.Call dst ret callee args) = args-operands args
        typed-same (insts.Phi dst ty arms) = arms-operands ty arms
        typed-same (insts.Br to) = refl
        typed-same (insts.CondBr cond on_true on_false) = rw (int-again r apart W1) refl
        typed-same (insts.Switch ty on default cases) = refl
        typed-same (insts.Ret ty None) = refl
        typed-same (insts.Ret ty (Some val)) = refl
        typed-same insts.Unreachable = refl

        arms-labels : (arms : List (Val × Loc)) → map (λ (arm : Val × Loc). arm.1) (renamed_arms r arms) ≡ map (renamed_loc r) (map (λ (arm : Val × Loc). arm.1) arms)
        arms-labels [] = refl
        arms-labels (arm ∷ arms) = ap (λ (rest : List Loc). renamed_loc r arm.1 ∷ rest) (arms-labels arms)

        cases-labels : (cases : List (ℕ × Loc)) → map (λ (case : ℕ × Loc). case.1) (renamed_cases r cases) ≡ map (renamed_loc r) (map (λ (case : ℕ × Loc). case.1) cases)
        cases-labels [] = refl
        cases-labels (case ∷ cases) = ap (λ (rest : List Loc). renamed_loc r case.1 ∷ rest) (cases-labels cases)

        labels-same : (inst : Inst) → labels_in (renamed_inst r inst) ≡ map (renamed_loc r) (labels_in inst)
        labels-same (insts.Phi dst ty arms) = arms-labels arms
        labels-same (insts.Br to) = refl
        labels-same (insts.CondBr cond on_true on_false) = refl
        labels-same (insts.Switch ty on default cases) = ap (λ (rest : List Loc). renamed_loc r default ∷ rest) (cases-labels cases)
        labels-same inst = refl

        names-labels : (labels : List Loc) → list_all (names_label moved) (map (renamed_loc r) labels) ≡ list_all (names_label entries) labels
        names-labels [] = refl
        names-labels (label ∷ labels) = rw (ap is_label (first-same entries label) ∙ label-same (first_of entries label), names-labels labels) refl

        -- ---- forms

        cast-same : (op : CastOp) (from to : Ty) → cast_fits op (renamed_ty r from) (renamed_ty r to) ≡ cast_fits op from to
        cast-same Zext from to = rw (int-same from, int-same to) refl
        cast-same Sext from to = rw (int-same from, int-same to) refl
        cast-same Trunc from to = rw (int-same from, int-same to) refl
        cast-same Ptrtoint from to = rw (ptr-same from, int-same to) refl
        cast-same Inttoptr from to = rw (int-same from, ptr-same to) refl

        constant-same : (index : Width × Val) → as_constant (index.0, renamed_val r index.1) ≡ as_constant index
        constant-same index = by_value index.1
          where
            by_value : (value : Val) → as_constant (index.0, renamed_val r value) ≡ as_constant (index.0, value)
            by_value (values.Reg at) = refl
            by_value (values.Int n) = refl
            by_value values.Null = refl
            by_value (values.Global name) = refl
            by_value (values.Gep gep) = refl

        enter-same : (indices : List (Width × Val)) (ty : Ty) → enter others (renamed_ty r ty) (renamed_index r indices) ≡ enter named ty indices
        enter-same [] ty = refl
        enter-same (index ∷ indices) ty =
            ap (λ (constant : Width × ℕ). holds_of (λ (step : Ty × ℕ). enter others step.0 (renamed_index r indices)) (entered others constant (renamed_ty r ty))) (constant-same index)
            ∙ ap (holds_of (λ (step : Ty × ℕ). enter others step.0 (renamed_index r indices))) (entered-same r apart named (as_constant index) ty)
            ∙ by_step (entered named (as_constant index) ty) (enter-same indices)
          where
            by_step : (o : Option (Ty × ℕ)) → ((inner : Ty) → enter others (renamed_ty r inner) (renamed_index r indices) ≡ enter named inner indices)
                → holds_of (λ (step : Ty × ℕ). enter others step.0 (renamed_index r indices)) (option_map (λ (place : Ty × ℕ). (renamed_ty r place.0, place.1)) o) ≡ holds_of (λ (step : Ty × ℕ). enter named step.0 indices) o
            by_step None rest = refl
            by_step (Some step) rest = rest step.0

        indices-same : (base : Ty) (indices : List (Width × Val)) → indices_fit others (renamed_ty r base) (renamed_index r indices) ≡ indices_fit named base indices
        indices-same base [] = refl
        indices-same base (index ∷ indices) = enter-same indices base

        ret-same : (ret ty : Ty) (o : Option Val) → ret_fits (renamed_ty r ret) (renamed_ty r ty) (renamed_option (renamed_val r) o) ≡ ret_fits ret ty o
        ret-same ret ty None = rw (type-same r apart ty ret, void-same ty) refl
        ret-same ret ty (Some value) = type-same r apart ty ret

        form-same : (ret : Ty) (inst : Inst) → form_fits others moved (renamed_ty r ret) (renamed_inst r inst) ≡ form_fits named entries ret inst
        form-same ret (insts.Cast dst op from a to) = cast-same op from to
        form-same ret (insts.Gep dst base ptr index) = indices-same base index
        form-same ret (insts.Extract dst elem pair index) = ap (is_pair_of (renamed_ty r elem)) (first-same entries pair) ∙ pair-same elem (first_of entries pair)
        form-same ret (insts.Ret ty val) = ret-same ret ty val
        form-same ret inst = refl

        pub fits-same : (ret : Ty) (inst : Inst) → inst_fits others moved (renamed_ty r ret) (renamed_inst r inst) ≡ inst_fits named entries ret inst
        fits-same ret inst =
            ap (λ (b : Bool). (b && list_all (names_label moved) (labels_in (renamed_inst r inst))) && form_fits others moved (renamed_ty r ret) (renamed_inst r inst))
            (ap (list_all (operand_fits others moved)) (typed-same inst) ∙ operands-same (typed_operands inst))
            ∙ ap (λ (b : Bool). (list_all (operand_fits named entries) (typed_operands inst) && b) && form_fits others moved (renamed_ty r ret) (renamed_inst r inst))
            (ap (list_all (names_label moved)) (labels-same inst) ∙ names-labels (labels_in inst))
            ∙ ap (λ (b : Bool). (list_all (operand_fits named entries) (typed_operands inst) && list_all (names_label entries) (labels_in inst)) && b) (form-same ret inst)

  -- ---- initialisers

  module _ (apart : IsApart r.type_id) (named : List (TypeId × Ty)) where
    abbrev otherwise : List (TypeId × Ty)
    otherwise = map (renamed_named r) named

    abbrev Fitting : Init → Type 0
    Fitting init = (ty : Ty) → init_fits otherwise (renamed_init r init) (renamed_ty r ty) ≡ init_fits named init ty

    abbrev bare : List (Ty × ((init : Init) × Fitting init)) → List (Ty × Init)
    bare parts = map (λ (part : Ty × ((init : Init) × Fitting init)). (part.0, part.1.0)) parts

    abbrev parts_by : List (Ty × Init) → List (Ty × Init)
    parts_by parts = map (λ (part : Ty × Init). (renamed_ty r part.0, part.1)) (map (λ (part : Ty × Init). (part.0, renamed_init r part.1)) parts)

    abbrev tests_by : List (TypeId × Ty) → List (Ty × Init) → List (Ty × (Ty → Bool))
    tests_by types parts = map (λ (part : Ty × Init). (part.0, init_fits types part.1)) parts

    abbrev old : List (Ty × ((init : Init) × Fitting init)) → List (Ty × (Ty → Bool))
    old parts = tests_by named (bare parts)

    abbrev new : List (Ty × ((init : Init) × Fitting init)) → List (Ty × (Ty → Bool))
    new parts = tests_by otherwise (parts_by (bare parts))

    fields-fit : (tys : List Ty) (parts : List (Ty × ((init : Init) × Fitting init))) → fields_fit (map (renamed_ty r) tys) (new parts) ≡ fields_fit tys (old parts)
    fields-fit [] [] = refl
    fields-fit [] (part ∷ parts) = refl
    fields-fit (ty ∷ tys) [] = refl
    fields-fit (ty ∷ tys) (part ∷ parts) = rw (type-same r apart part.0 ty, part.1.1 ty, fields-fit tys parts) refl

    elements-all : (element : Ty) (parts : List (Ty × ((init : Init) × Fitting init))) → list_all (part_fits (renamed_ty r element)) (new parts) ≡ list_all (part_fits element) (old parts)
    elements-all element [] = refl
    elements-all element (part ∷ parts) = rw (type-same r apart part.0 element, part.1.1 element, elements-all element parts) refl

    lengths : (parts : List (Ty × ((init : Init) × Fitting init))) → length (new parts) ≡ length (old parts)
    lengths [] = refl
    lengths (part ∷ parts) = ap suc (lengths parts)

    elements-fit : (parts : List (Ty × ((init : Init) × Fitting init))) (x : Ty-F Ty) → elements_fit (new parts) (numbered_layer r.type_id (map-Ty Ty Ty (renamed_ty r) x)) ≡ elements_fit (old parts) x
    elements-fit parts (Ty-F.Array count element) = rw (lengths parts, elements-all element parts) refl
    elements-fit parts Ty-F.Void = refl
    elements-fit parts (Ty-F.Int w) = refl
    elements-fit parts Ty-F.Ptr = refl
    elements-fit parts (Ty-F.Struct tys) = refl
    elements-fit parts (Ty-F.Named id) = refl

    parts-fit : (parts : List (Ty × ((init : Init) × Fitting init))) (ty : Ty) (o : Option (List Ty)) → parts_fit (new parts) (renamed_ty r ty) (option_map (map (renamed_ty r)) o) ≡ parts_fit (old parts) ty o
    parts-fit parts ty None = ap (elements_fit (new parts)) (out-renamed r ty) ∙ elements-fit parts (out-Ty ty)
    parts-fit parts ty (Some tys) = fields-fit tys parts

    bytes-by : (count : ℕ) (x : Ty-F Ty) → is_byte_array_step count (numbered_layer r.type_id (map-Ty Ty Ty (renamed_ty r) x)) ≡ is_byte_array_step count x
    bytes-by count (Ty-F.Array own element) = ap (λ (b : Bool). nat_eq own count && b) (ap (λ (t : Ty). same_ty t (renamed_ty r element)) (flip (int-again r apart W8)) ∙ type-same r apart (types.Int W8) element)
    bytes-by count Ty-F.Void = refl
    bytes-by count (Ty-F.Int w) = refl
    bytes-by count Ty-F.Ptr = refl
    bytes-by count (Ty-F.Struct tys) = refl
    bytes-by count (Ty-F.Named id) = refl

    bytes-same : (count : ℕ) (ty : Ty) → is_byte_array count (renamed_ty r ty) ≡ is_byte_array count ty
    bytes-same count ty = ap (is_byte_array_step count) (out-renamed r ty) ∙ bytes-by count (out-Ty ty)

    by-layer : (y : Init-F ((init : Init) × Fitting init)) (ty : Ty)
        → init_fits otherwise (renamed_init_step r (map-Init Init Init (renamed_init r) (map-Init ((init : Init) × Fitting init) Init (λ e. e.0) y))) (renamed_ty r ty)
        ≡ init_step named (map-Init Init (Ty → Bool) (init_fits named) (map-Init ((init : Init) × Fitting init) Init (λ e. e.0) y)) ty
    unfolding opened_inits.roll-Init denote.Hole.Carrier.roll
    by-layer Init-F.Zero ty = ap (λ (f : Ty → Bool). f (renamed_ty r ty)) (fold-roll-Init (Ty → Bool) (init_step otherwise) Init-F.Zero)
    by-layer (Init-F.Int n) ty = ap (λ (f : Ty → Bool). f (renamed_ty r ty)) (fold-roll-Init (Ty → Bool) (init_step otherwise) (Init-F.Int n)) ∙ ap is_some (int-same ty)
    by-layer Init-F.Null ty = ap (λ (f : Ty → Bool). f (renamed_ty r ty)) (fold-roll-Init (Ty → Bool) (init_step otherwise) Init-F.Null) ∙ ptr-same ty
    by-layer (Init-F.Addr name) ty = ap (λ (f : Ty → Bool). f (renamed_ty r ty)) (fold-roll-Init (Ty → Bool) (init_step otherwise) (Init-F.Addr (renamed_sym r name))) ∙ ptr-same ty
    by-layer (Init-F.Gep gep) ty = ap (λ (f : Ty → Bool). f (renamed_ty r ty)) (fold-roll-Init (Ty → Bool) (init_step otherwise) (Init-F.Gep (renamed_gep r gep)))
        ∙ ap (λ (b : Bool). b && gep_fits otherwise (renamed_gep r gep)) (ptr-same ty) ∙ ap (λ (o : Option ℕ). is_ptr ty && is_some o) (offset-same r apart named gep.base gep.index)
    by-layer (Init-F.Bytes bs) ty = ap (λ (f : Ty → Bool). f (renamed_ty r ty)) (fold-roll-Init (Ty → Bool) (init_step otherwise) (Init-F.Bytes bs)) ∙ bytes-same (length bs) ty
    by-layer (Init-F.Parts parts) ty = ap (λ (f : Ty → Bool). f (renamed_ty r ty)) (fold-roll-Init (Ty → Bool) (init_step otherwise) (Init-F.Parts (parts_by (bare parts))))
        ∙ ap (parts_fit (new parts) (renamed_ty r ty)) (fields-same r apart named ty) ∙ parts-fit parts ty (fields named ty)

    pub inits-same : (init : Init) (ty : Ty) → init_fits otherwise (renamed_init r init) (renamed_ty r ty) ≡ init_fits named init ty
    inits-same = ind-Init Fitting (λ x y is ty.
        ap (λ (init : Init). init_fits otherwise init (renamed_ty r ty)) (fold-roll-Init Init (renamed_init_step r) x ∙ ap (λ (z : Init-F Init). renamed_init_step r (map-Init Init Init (renamed_init r) z)) (flip is))
        ∙ by-layer y ty
        ∙ ap (λ (z : Init-F Init). init_step named (map-Init Init (Ty → Bool) (init_fits named) z) ty) is
        ∙ flip (ap (λ (f : Ty → Bool). f ty) (fold-roll-Init (Ty → Bool) (init_step named) x)))
