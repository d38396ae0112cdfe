-- A module that keeps the limits keeps them under other numbers, where no function's table of names is too long.
use Rattle.std.proofs.Common.{ℕ, ◌≡◌, ◌∙◌, ◌+◌, Bool, not, List, [], ◌∷◌, ◌++◌, map, length, Option, Some, None, refl, ap, sym as flip}
use Rattle.std.specs.List.{flat_map, list_all}
use Rattle.std.specs.Option.{option_map, option_or}
use Rattle.std.proofs.lemmas.List.{map-append, length-map}
use Rattle.ir_core.specs.declared.types.Ty.{Ty}
use Rattle.ir_core.specs.declared.types.TypeId.{TypeId}
use Rattle.ir_core.specs.declared.types.Loc.{Loc}
use Rattle.ir_core.specs.declared.types.Width.{Width}
use Rattle.ir_core.specs.declared.values.Val.{Val}
use Rattle.ir_core.specs.declared.values.Val.TheVariants as values
use Rattle.ir_core.specs.declared.values.GlobalVar.{GlobalVar}
use Rattle.ir_core.specs.declared.values.Init.{Init, map-Init}
use Rattle.ir_core.specs.declared.values.Init as opened_inits
use Rattle.ir_core.specs.declared.values.Init.TheFolds.{fold-roll-Init, ind-Init}
use Rattle.ir_core.specs.declared.values.Init.TheOpen.{Init-F}
use Rattle.ir_core.specs.declared.instruction.Inst.{Inst}
use Rattle.ir_core.specs.declared.instruction.Inst.TheVariants as insts
use Rattle.ir_core.specs.Module.{ModuleParts}
use Rattle.ir_layout.specs.Limits.{limit_of, is_too_large, is_too_deep, limit_among, placed, type_place, global_place, first_of_types, limit_of_global, first_of_globals, first_limit}
use Rattle.ir_layout.specs.Memory.{globals_start, span_at, end_of}
use Rattle.ir_layout.specs.WrittenTypes.{types_in_val, init_step, types_in_init, types_in_global, types_in_declare, types_in_arg, types_in_arm, types_in_index, types_in_option, types_in_inst, types_in_head}
use Rattle.ir_layout.specs.declared.limits.LimitKind.{LimitKind}
use Rattle.ir_layout.specs.declared.limits.LimitKind.TheVariants.{Params, Registers}
use Rattle.ir_lines.specs.Lines.{Line, TypeLine, GlobalLine, DeclareLine, HeadLine, BlockLine, InstLine, code_lines, first_told}
use Rattle.ir_check.specs.CodeLimits.{over, limit_in, limit_text, broken_limit}
use Rattle.ir_check.proofs.ModuleLines.{neither, no-image}
use Rattle.ir_numbering.specs.Renaming.{Renaming, renamed_ty, renamed_sym, renamed_val, renamed_gep, renamed_args, renamed_arms, renamed_index, renamed_option, renamed_init_step, renamed_init, renamed_inst, renamed_param, renamed_global, renamed_declare}
use Rattle.ir_numbering.specs.Numbers.{renamed_named}
use Rattle.renamed_modules.proofs.RenamedTypes.{IsApart, limit-same, size-same}
use Rattle.renamed_modules.proofs.Renames.{Renames}
use Rattle.renamed_modules.proofs.RenamedLines.{in_, names_of_func, func_by, renamed_line, code-same, none-told}

-- ---- the types that are written

module _ (r : Renaming) where
  abbrev moved : List Ty → List Ty
  moved types = map (renamed_ty r) types

  val-types : (value : Val) → types_in_val (renamed_val r value) ≡ moved (types_in_val value)
  val-types (values.Reg at) = refl
  val-types (values.Int n) = refl
  val-types values.Null = refl
  val-types (values.Global name) = refl
  val-types (values.Gep gep) = refl

  option-types : (o : Option Val) → types_in_option (renamed_option (renamed_val r) o) ≡ moved (types_in_option o)
  option-types None = refl
  option-types (Some value) = val-types value

  two : (a b : Val) → types_in_val (renamed_val r a) ++ types_in_val (renamed_val r b) ≡ moved (types_in_val a ++ types_in_val b)
  two a b = rw (val-types a, val-types b) (flip (map-append (renamed_ty r) (types_in_val a) (types_in_val b)))

  three : (a b c : Val) → (types_in_val (renamed_val r a) ++ types_in_val (renamed_val r b)) ++ types_in_val (renamed_val r c) ≡ moved ((types_in_val a ++ types_in_val b) ++ types_in_val c)
  three a b c = rw (two a b, val-types c) (flip (map-append (renamed_ty r) (types_in_val a ++ types_in_val b) (types_in_val c)))

  args-types : (args : List (Ty × Val)) → flat_map types_in_arg (renamed_args r args) ≡ moved (flat_map types_in_arg args)
  args-types [] = refl
  args-types (arg ∷ args) = rw (val-types arg.1, args-types args) (flip (map-append (renamed_ty r) (types_in_arg arg) (flat_map types_in_arg args)))

  arms-types : (arms : List (Val × Loc)) → flat_map types_in_arm (renamed_arms r arms) ≡ moved (flat_map types_in_arm arms)
  arms-types [] = refl
  arms-types (arm ∷ arms) = rw (val-types arm.0, arms-types arms) (flip (map-append (renamed_ty r) (types_in_arm arm) (flat_map types_in_arm arms)))

  index-types : (indices : List (Width × Val)) → flat_map types_in_index (renamed_index r indices) ≡ moved (flat_map types_in_index indices)
  index-types [] = refl
  index-types (index ∷ indices) = rw (val-types index.1, index-types indices) (flip (map-append (renamed_ty r) (types_in_index index) (flat_map types_in_index indices)))

  pub inst-types : (inst : Inst) → types_in_inst (renamed_inst r inst) ≡ moved (types_in_inst inst)
  inst-types (insts.Bin dst op flags w a b) = two a b
  inst-types (insts.Cmp dst pred ty a b) = ap (λ ts. renamed_ty r ty ∷ ts) (two a b)
  inst-types (insts.Select dst cond ty a b) = ap (λ ts. renamed_ty r ty ∷ ts) (three cond a b)
  inst-types (insts.Cast dst op from a to) = ap (λ ts. renamed_ty r from ∷ renamed_ty r to ∷ ts) (val-types a)
  inst-types (insts.Gep dst base ptr index) = ap (λ ts. renamed_ty r base ∷ ts) (rw (val-types ptr, index-types index) (flip (map-append (renamed_ty r) (types_in_val ptr) (flat_map types_in_index index))))
  inst-types (insts.Alloca dst ty) = refl
  inst-types (insts.Load dst ty ptr atomic) = ap (λ ts. renamed_ty r ty ∷ ts) (val-types ptr)
  inst-types (insts.Store ty val ptr atomic) = ap (λ ts. renamed_ty r ty ∷ ts) (two val ptr)
  inst-types (insts.Rmw dst op ptr ty val) = ap (λ ts. renamed_ty r ty ∷ ts) (two ptr val)
  inst-types (insts.CmpXchg dst ptr ty old new) = ap (λ ts. renamed_ty r ty ∷ ts) (three ptr old new)
  inst-types insts.Fence = refl
  inst-types (insts.Extract dst elem pair index) = refl
  inst-types (insts.Call dst ret callee args) = ap (λ ts. renamed_ty r ret ∷ ts) (args-types args)
  inst-types (insts.Phi dst ty arms) = ap (λ ts. renamed_ty r ty ∷ ts) (arms-types arms)
  inst-types (insts.Br to) = refl
  inst-types (insts.CondBr cond on_true on_false) = val-types cond
  inst-types (insts.Switch ty on default cases) = ap (λ ts. renamed_ty r ty ∷ ts) (val-types on)
  inst-types (insts.Ret ty val) = ap (λ ts. renamed_ty r ty ∷ ts) (option-types val)
  inst-types insts.Unreachable = refl

  -- ---- initialisers

  abbrev IsTyped : Init → Type 0
  IsTyped init = types_in_init (renamed_init r init) ≡ moved (types_in_init init)

  abbrev bare : List (Ty × ((init : Init) × IsTyped init)) → List (Ty × Init)
  bare parts = map (λ (part : Ty × ((init : Init) × IsTyped init)). (part.0, part.1.0)) parts

  abbrev parts_by : List (Ty × Init) → List (Ty × Init)
  parts_by parts = map (λ (part : Ty × Init). (renamed_ty r part.0, part.1)) (map (λ (part : Ty × Init). (part.0, renamed_init r part.1)) parts)

  abbrev types_by : List (Ty × Init) → List Ty
  types_by parts = flat_map (λ (part : Ty × List Ty). part.0 ∷ part.1) (map (λ (part : Ty × Init). (part.0, types_in_init part.1)) parts)

  parts-types : (parts : List (Ty × ((init : Init) × IsTyped init))) → types_by (parts_by (bare parts)) ≡ moved (types_by (bare parts))
  parts-types [] = refl
  parts-types (part ∷ parts) = rw (part.1.1, parts-types parts) (flip (map-append (renamed_ty r) (part.0 ∷ types_in_init part.1.0) (types_by (bare parts))))

  layer-types : (y : Init-F ((init : Init) × IsTyped init))
      → types_in_init (renamed_init_step r (map-Init Init Init (renamed_init r) (map-Init ((init : Init) × IsTyped init) Init (λ e. e.0) y)))
      ≡ moved (init_step (map-Init Init (List Ty) types_in_init (map-Init ((init : Init) × IsTyped init) Init (λ e. e.0) y)))
  unfolding opened_inits.roll-Init denote.Hole.Carrier.roll
  layer-types Init-F.Zero = fold-roll-Init (List Ty) init_step Init-F.Zero
  layer-types (Init-F.Int n) = fold-roll-Init (List Ty) init_step (Init-F.Int n)
  layer-types Init-F.Null = fold-roll-Init (List Ty) init_step Init-F.Null
  layer-types (Init-F.Addr name) = fold-roll-Init (List Ty) init_step (Init-F.Addr (renamed_sym r name))
  layer-types (Init-F.Gep gep) = fold-roll-Init (List Ty) init_step (Init-F.Gep (renamed_gep r gep))
  layer-types (Init-F.Bytes bs) = fold-roll-Init (List Ty) init_step (Init-F.Bytes bs)
  layer-types (Init-F.Parts parts) = fold-roll-Init (List Ty) init_step (Init-F.Parts (parts_by (bare parts))) ∙ parts-types parts

  pub init-types : (init : Init) → types_in_init (renamed_init r init) ≡ moved (types_in_init init)
  init-types = ind-Init IsTyped (λ x y is.
      ap types_in_init (fold-roll-Init Init (renamed_init_step r) x ∙ ap (λ (z : Init-F Init). renamed_init_step r (map-Init Init Init (renamed_init r) z)) (flip is))
      ∙ layer-types y
      ∙ ap (λ (z : Init-F Init). moved (init_step (map-Init Init (List Ty) types_in_init z))) is
      ∙ ap moved (flip (fold-roll-Init (List Ty) init_step x)))

  -- ---- limits of types

  module _ (apart : IsApart r.type_id) (types : List (TypeId × Ty)) where
    abbrev others : List (TypeId × Ty)
    others = map (renamed_named r) types

    all-same : (test : Option LimitKind → Bool) (written : List Ty) → list_all (λ ty. not (test (limit_of others ty))) (moved written) ≡ list_all (λ ty. not (test (limit_of types ty))) written
    all-same test [] = refl
    all-same test (ty ∷ written) = rw (limit-same r apart types ty, all-same test written) refl

    pub among-same : (written : List Ty) → limit_among others (moved written) ≡ limit_among types written
    among-same written = rw (all-same is_too_large written, all-same is_too_deep written) refl

    pub global-limit : (taken : ℕ) (global : GlobalVar) → limit_of_global others taken (renamed_global r global) ≡ limit_of_global types taken global
    global-limit taken global =
        rw (size-same r apart types global.ty, ap (λ (ts : List Ty). limit_among others (renamed_ty r global.ty ∷ ts)) (init-types global.init) ∙ among-same (types_in_global global)) refl

-- ---- modules

neither-told : {A : Type 0} (x y : Option A) → x ≡ None → y ≡ None → option_or x y ≡ None
neither-told x y e f = rw e f

no-place : (place : List ℕ) (o : Option LimitKind) → placed place o ≡ None → o ≡ None
no-place place None e = refl
no-place place (Some kind) e = cc

module _ (m other : ModuleParts) (r : Renames m other) where
  types-keep : (types : List (TypeId × Ty)) → first_of_types m types ≡ None → first_of_types other (map (renamed_named r.outer) types) ≡ None
  types-keep [] e = refl
  types-keep (named ∷ types) e =
      let parts = neither (placed (type_place m named.0) (limit_of m.types named.1)) (first_of_types m types) e in
      let kept : limit_of other.types (renamed_ty r.outer named.1) ≡ None = ap (λ (ts : List (TypeId × Ty)). limit_of ts (renamed_ty r.outer named.1)) r.types ∙ limit-same r.outer r.type_apart m.types named.1 ∙ no-place (type_place m named.0) (limit_of m.types named.1) parts.0 in
      rw kept (types-keep types parts.1)

  globals-keep : (taken : ℕ) (globals : List GlobalVar) → first_of_globals m taken globals ≡ None → first_of_globals other taken (map (renamed_global r.outer) globals) ≡ None
  globals-keep taken [] e = refl
  globals-keep taken (global ∷ globals) e =
      let parts = neither (placed (global_place m global) (limit_of_global m.types taken global)) (first_of_globals m (end_of (span_at m.types taken global)) globals) e in
      let kept : limit_of_global other.types taken (renamed_global r.outer global) ≡ None = ap (λ (ts : List (TypeId × Ty)). limit_of_global ts taken (renamed_global r.outer global)) r.types ∙ global-limit r.outer r.type_apart m.types taken global ∙ no-place (global_place m global) (limit_of_global m.types taken global) parts.0 in
      let further : end_of (span_at other.types taken (renamed_global r.outer global)) ≡ end_of (span_at m.types taken global) = ap (λ (ts : List (TypeId × Ty)). end_of (span_at ts taken (renamed_global r.outer global))) r.types ∙ ap (λ (size : ℕ). (span_at m.types taken global).start + size) (size-same r.outer r.type_apart m.types global.ty) in
      rw kept (ap (λ (n : ℕ). first_of_globals other n (map (renamed_global r.outer) globals)) further ∙ globals-keep (end_of (span_at m.types taken global)) globals parts.1)

  first-keeps : first_limit m ≡ None → first_limit other ≡ None
  first-keeps e =
      let parts = neither (first_of_types m m.types) (first_of_globals m globals_start m.globals) e in
      let types : first_of_types other other.types ≡ None = ap (first_of_types other) r.types ∙ types-keep m.types parts.0 in
      rw types (ap (first_of_globals other globals_start) r.globals ∙ globals-keep globals_start m.globals parts.1)

  -- no table of a function is too long
  abbrev pub AreFew : Type 0
  AreFew = (n : ℕ) → over 65536 (length (names_of_func m other r n)) Registers ≡ None

  module _ (few : AreFew) where
    heads : (n : ℕ) (params : List (Ty × Loc)) → map (λ (param : Ty × Loc). param.0) (map (renamed_param (in_ m other r n)) params) ≡ map (renamed_ty (in_ m other r n)) (map (λ (param : Ty × Loc). param.0) params)
    heads n [] = refl
    heads n (param ∷ params) = ap (λ (rest : List Ty). renamed_ty (in_ m other r n) param.0 ∷ rest) (heads n params)

    line-keeps : (line : Line) → limit_in m.types line ≡ None → limit_in other.types (renamed_line m other r line) ≡ None
    line-keeps (TypeLine named) e = refl
    line-keeps (GlobalLine global) e = refl
    line-keeps (DeclareLine declare) e =
        let parts = neither (limit_among m.types (types_in_declare declare)) (over 32 (length declare.params) Params) e in
        neither-told _ _
        (ap (λ (ts : List (TypeId × Ty)). limit_among ts (types_in_declare (renamed_declare (in_ m other r 0) declare))) r.types ∙ among-same r.outer r.type_apart m.types (types_in_declare declare) ∙ parts.0)
        (ap (λ (n : ℕ). over 32 n Params) (length-map declare.params (renamed_ty (in_ m other r 0))) ∙ parts.1)
    line-keeps (HeadLine n f) e =
        let parts = neither (limit_among m.types (types_in_head f)) (option_or (over 32 (length f.params) Params) (over 65536 (length f.names) Registers)) e in
        let rest = neither (over 32 (length f.params) Params) (over 65536 (length f.names) Registers) parts.1 in
        let written : limit_among (map (renamed_named r.outer) m.types) (renamed_ty (in_ m other r n) f.ret ∷ map (λ (param : Ty × Loc). param.0) (map (renamed_param (in_ m other r n)) f.params)) ≡ None =
        ap (λ (ts : List Ty). limit_among (map (renamed_named r.outer) m.types) (renamed_ty (in_ m other r n) f.ret ∷ ts)) (heads n f.params) ∙ among-same (in_ m other r n) r.type_apart m.types (types_in_head f) ∙ parts.0 in
        neither-told _ _ (ap (λ (ts : List (TypeId × Ty)). limit_among ts (types_in_head (func_by m other r n f))) r.types ∙ written)
        (neither-told _ _ (ap (λ (k : ℕ). over 32 k Params) (length-map f.params (renamed_param (in_ m other r n))) ∙ rest.0) (few n))
    line-keeps (BlockLine n f b block) e = refl
    line-keeps (InstLine n f b i inst) e =
        ap (λ (ts : List (TypeId × Ty)). limit_among ts (types_in_inst (renamed_inst (in_ m other r n) inst))) r.types
        ∙ ap (limit_among (map (renamed_named r.outer) m.types)) (inst-types (in_ m other r n) inst)
        ∙ among-same (in_ m other r n) r.type_apart m.types (types_in_inst inst) ∙ e

    pub limits-same : broken_limit m ≡ None → broken_limit other ≡ None
    limits-same e =
        let parts = neither (first_limit m) (option_map (limit_text m) (first_told (limit_in m.types) (code_lines m))) e in
        let told : first_told (limit_in other.types) (code_lines other) ≡ None = ap (first_told (limit_in other.types)) (code-same m other r) ∙ none-told m other r (limit_in m.types) (limit_in other.types) line-keeps (code_lines m) (no-image (limit_text m) _ parts.1) in
        rw (first-keeps parts.0, told) refl
