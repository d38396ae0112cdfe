-- The places of a renamed tree are those of the tree, renamed.
use Rattle.std.proofs.Common.{ℕ, ◌≡◌, ◌∙◌, List, [], ◌∷◌, ◌++◌, map, Option, Some, None, refl, ap, sym as flip}
use Rattle.std.specs.List.{flat_map}
use Rattle.std.proofs.lemmas.List.{map-append}
use Rattle.ir_core.specs.declared.types.Ty.{Ty, map-Ty}
use Rattle.ir_core.specs.declared.types.Ty as opened_types
use Rattle.ir_core.specs.declared.types.Ty.TheFolds.{fold-roll-Ty, ind-Ty}
use Rattle.ir_core.specs.declared.types.Ty.TheOpen.{Ty-F}
use Rattle.ir_core.specs.declared.types.TypeId.{TypeId}
use Rattle.ir_core.specs.declared.types.Loc.{Loc}
use Rattle.ir_core.specs.declared.types.Width.{Width}
use Rattle.ir_core.specs.declared.values.ConstGep.{ConstGep}
use Rattle.ir_core.specs.declared.values.Val.{Val}
use Rattle.ir_core.specs.declared.values.Val.TheVariants as values
use Rattle.ir_core.specs.declared.values.Declare.{Declare}
use Rattle.ir_core.specs.declared.values.GlobalVar.{GlobalVar}
use Rattle.ir_core.specs.declared.values.Init.{Init, map-Init}
use Rattle.ir_core.specs.declared.values.Init as opened_inits
use Rattle.ir_core.specs.declared.values.Init.TheFolds.{fold-roll-Init, ind-Init}
use Rattle.ir_core.specs.declared.values.Init.TheOpen.{Init-F}
use Rattle.ir_core.specs.declared.instruction.Inst.{Inst}
use Rattle.ir_core.specs.declared.instruction.Inst.TheVariants as insts
use Rattle.ir_core.specs.declared.instruction.Block.{Block}
use Rattle.ir_core.specs.Module.{FuncParts}
use Rattle.ir_numbering.specs.declared.places.Place.{Place}
use Rattle.ir_numbering.specs.declared.places.Place.TheVariants.{Local, Struct, Global}
use Rattle.ir_numbering.specs.Places.{places_step, places_of_ty, places_of_gep, places_of_val, places_init_step, places_of_init, places_of_option, places_of_args, places_of_arms, places_of_cases, places_of_index, places_of_inst, places_of_block, places_of_global, places_of_declare, mentions_of_func}
use Rattle.ir_numbering.specs.Renaming.{Renaming, renamed_loc, renamed_sym, renamed_type_id, renamed_step, renamed_ty, renamed_gep, renamed_val, renamed_init_step, renamed_init, renamed_args, renamed_arms, renamed_cases, renamed_index, renamed_option, renamed_inst, renamed_block, renamed_param, renamed_func, renamed_global, renamed_declare}
use Rattle.ir_numbering.specs.Numbers.{places_of_named, renamed_named}

-- a place of another number
abbrev pub renamed_place : Renaming → Place → Place
renamed_place r (Local at) = Local (renamed_loc r at)
renamed_place r (Struct id) = Struct (renamed_type_id r id)
renamed_place r (Global name) = Global (renamed_sym r name)

module _ (r : Renaming) where
  abbrev pub moved : List Place → List Place
  moved places = map (renamed_place r) places

  -- places that are those of another tree, renamed
  abbrev pub AreMoved : List Place → List Place → Type 0
  AreMoved renamed places = renamed ≡ moved places

  pub both : (xs ys renamed_xs renamed_ys : List Place) → AreMoved renamed_xs xs → AreMoved renamed_ys ys → AreMoved (renamed_xs ++ renamed_ys) (xs ++ ys)
  both xs ys renamed_xs renamed_ys e f = rw (e, f) (flip (map-append (renamed_place r) xs ys))

  pub three : (xs ys zs renamed_xs renamed_ys renamed_zs : List Place) → AreMoved renamed_xs xs → AreMoved renamed_ys ys → AreMoved renamed_zs zs
      → AreMoved ((renamed_xs ++ renamed_ys) ++ renamed_zs) ((xs ++ ys) ++ zs)
  three xs ys zs renamed_xs renamed_ys renamed_zs e f g = both (xs ++ ys) zs (renamed_xs ++ renamed_ys) renamed_zs (both xs ys renamed_xs renamed_ys e f) g

  four : (xs ys zs us renamed_xs renamed_ys renamed_zs renamed_us : List Place) → AreMoved renamed_xs xs → AreMoved renamed_ys ys → AreMoved renamed_zs zs → AreMoved renamed_us us
      → AreMoved (((renamed_xs ++ renamed_ys) ++ renamed_zs) ++ renamed_us) (((xs ++ ys) ++ zs) ++ us)
  four xs ys zs us renamed_xs renamed_ys renamed_zs renamed_us e f g h =
      both ((xs ++ ys) ++ zs) us ((renamed_xs ++ renamed_ys) ++ renamed_zs) renamed_us (three xs ys zs renamed_xs renamed_ys renamed_zs e f g) h

  each : {A : Type 0} (places : A → List Place) (f : A → A) → ((tree : A) → AreMoved (places (f tree)) (places tree)) → (trees : List A)
      → AreMoved (flat_map places (map f trees)) (flat_map places trees)
  each places f same [] = refl
  each places f same (tree ∷ trees) = both (places tree) (flat_map places trees) (places (f tree)) (flat_map places (map f trees)) (same tree) (each places f same trees)

  maybe : {A : Type 0} (places : A → List Place) (f : A → A) → ((tree : A) → AreMoved (places (f tree)) (places tree)) → (tree : Option A)
      → AreMoved (places_of_option places (renamed_option f tree)) (places_of_option places tree)
  maybe places f same None = refl
  maybe places f same (Some tree) = same tree

  -- ---- types

  abbrev IsMovedTy : Ty → Type 0
  IsMovedTy ty = AreMoved (places_of_ty (renamed_ty r ty)) (places_of_ty ty)

  parts-moved : (parts : List ((ty : Ty) × IsMovedTy ty))
      → AreMoved (flat_map (λ part. part) (map places_of_ty (map (renamed_ty r) (map (λ e. e.0) parts)))) (flat_map (λ part. part) (map places_of_ty (map (λ e. e.0) parts)))
  parts-moved [] = refl
  parts-moved (e ∷ parts) = both (places_of_ty e.0) _ (places_of_ty (renamed_ty r e.0)) _ e.1 (parts-moved parts)

  layer-moved : (y : Ty-F ((ty : Ty) × IsMovedTy ty))
      → AreMoved (places_of_ty (renamed_step r.type_id (map-Ty Ty Ty (renamed_ty r) (map-Ty ((ty : Ty) × IsMovedTy ty) Ty (λ e. e.0) y))))
      (places_step (map-Ty Ty (List Place) places_of_ty (map-Ty ((ty : Ty) × IsMovedTy ty) Ty (λ e. e.0) y)))
  unfolding opened_types.roll-Ty denote.Hole.Carrier.roll
  layer-moved Ty-F.Void = fold-roll-Ty (List Place) places_step Ty-F.Void
  layer-moved (Ty-F.Int w) = fold-roll-Ty (List Place) places_step (Ty-F.Int w)
  layer-moved Ty-F.Ptr = fold-roll-Ty (List Place) places_step Ty-F.Ptr
  layer-moved (Ty-F.Array count element) = fold-roll-Ty (List Place) places_step (Ty-F.Array count (renamed_ty r element.0)) ∙ element.1
  layer-moved (Ty-F.Struct parts) = fold-roll-Ty (List Place) places_step (Ty-F.Struct (map (renamed_ty r) (map (λ e. e.0) parts))) ∙ parts-moved parts
  layer-moved (Ty-F.Named id) = fold-roll-Ty (List Place) places_step (Ty-F.Named (renamed_type_id r id))

  pub ty-moved : (ty : Ty) → AreMoved (places_of_ty (renamed_ty r ty)) (places_of_ty ty)
  ty-moved = ind-Ty IsMovedTy (λ x y is.
      ap places_of_ty (fold-roll-Ty Ty (renamed_step r.type_id) x ∙ ap (λ (z : Ty-F Ty). renamed_step r.type_id (map-Ty Ty Ty (renamed_ty r) z)) (flip is))
      ∙ layer-moved y
      ∙ ap (λ (z : Ty-F Ty). moved (places_step (map-Ty Ty (List Place) places_of_ty z))) is
      ∙ ap moved (flip (fold-roll-Ty (List Place) places_step x)))

  -- ---- values and initialisers

  gep-moved : (gep : ConstGep) → AreMoved (places_of_gep (renamed_gep r gep)) (places_of_gep gep)
  gep-moved gep = both (places_of_ty gep.base) (Global gep.sym ∷ []) (places_of_ty (renamed_ty r gep.base)) (Global (renamed_sym r gep.sym) ∷ []) (ty-moved gep.base) refl

  val-moved : (value : Val) → AreMoved (places_of_val (renamed_val r value)) (places_of_val value)
  val-moved (values.Reg at) = refl
  val-moved (values.Int n) = refl
  val-moved values.Null = refl
  val-moved (values.Global name) = refl
  val-moved (values.Gep gep) = gep-moved gep

  abbrev IsMovedInit : Init → Type 0
  IsMovedInit init = AreMoved (places_of_init (renamed_init r init)) (places_of_init init)

  abbrev bare : List (Ty × ((init : Init) × IsMovedInit init)) → List (Ty × Init)
  bare parts = map (λ (part : Ty × ((init : Init) × IsMovedInit init)). (part.0, part.1.0)) parts

  abbrev parts_by : List (Ty × Init) → List (Ty × Init)
  parts_by parts = map (λ (part : Ty × Init). (renamed_ty r part.0, part.1)) (map (λ (part : Ty × Init). (part.0, renamed_init r part.1)) parts)

  abbrev places_in : List (Ty × Init) → List Place
  places_in parts = flat_map (λ (part : Ty × List Place). places_of_ty part.0 ++ part.1) (map (λ (part : Ty × Init). (part.0, places_of_init part.1)) parts)

  init-parts-moved : (parts : List (Ty × ((init : Init) × IsMovedInit init))) → AreMoved (places_in (parts_by (bare parts))) (places_in (bare parts))
  init-parts-moved [] = refl
  init-parts-moved (part ∷ parts) =
      both (places_of_ty part.0 ++ places_of_init part.1.0) (places_in (bare parts)) (places_of_ty (renamed_ty r part.0) ++ places_of_init (renamed_init r part.1.0)) (places_in (parts_by (bare parts)))
      (both (places_of_ty part.0) (places_of_init part.1.0) (places_of_ty (renamed_ty r part.0)) (places_of_init (renamed_init r part.1.0)) (ty-moved part.0) part.1.1) (init-parts-moved parts)

  init-layer-moved : (y : Init-F ((init : Init) × IsMovedInit init))
      → AreMoved (places_of_init (renamed_init_step r (map-Init Init Init (renamed_init r) (map-Init ((init : Init) × IsMovedInit init) Init (λ e. e.0) y))))
      (places_init_step (map-Init Init (List Place) places_of_init (map-Init ((init : Init) × IsMovedInit init) Init (λ e. e.0) y)))
  unfolding opened_inits.roll-Init denote.Hole.Carrier.roll
  init-layer-moved Init-F.Zero = fold-roll-Init (List Place) places_init_step Init-F.Zero
  init-layer-moved (Init-F.Int n) = fold-roll-Init (List Place) places_init_step (Init-F.Int n)
  init-layer-moved Init-F.Null = fold-roll-Init (List Place) places_init_step Init-F.Null
  init-layer-moved (Init-F.Addr name) = fold-roll-Init (List Place) places_init_step (Init-F.Addr (renamed_sym r name))
  init-layer-moved (Init-F.Gep gep) = fold-roll-Init (List Place) places_init_step (Init-F.Gep (renamed_gep r gep)) ∙ gep-moved gep
  init-layer-moved (Init-F.Bytes bs) = fold-roll-Init (List Place) places_init_step (Init-F.Bytes bs)
  init-layer-moved (Init-F.Parts parts) = fold-roll-Init (List Place) places_init_step (Init-F.Parts (parts_by (bare parts))) ∙ init-parts-moved parts

  pub init-moved : (init : Init) → AreMoved (places_of_init (renamed_init r init)) (places_of_init init)
  init-moved = ind-Init IsMovedInit (λ x y is.
      ap places_of_init (fold-roll-Init Init (renamed_init_step r) x ∙ ap (λ (z : Init-F Init). renamed_init_step r (map-Init Init Init (renamed_init r) z)) (flip is))
      ∙ init-layer-moved y
      ∙ ap (λ (z : Init-F Init). moved (places_init_step (map-Init Init (List Place) places_of_init z))) is
      ∙ ap moved (flip (fold-roll-Init (List Place) places_init_step x)))

  -- ---- instructions

  args-moved : (args : List (Ty × Val)) → AreMoved (places_of_args (renamed_args r args)) (places_of_args args)
  args-moved = each (λ (arg : Ty × Val). places_of_ty arg.0 ++ places_of_val arg.1) (λ arg. (renamed_ty r arg.0, renamed_val r arg.1))
      (λ arg. both (places_of_ty arg.0) (places_of_val arg.1) (places_of_ty (renamed_ty r arg.0)) (places_of_val (renamed_val r arg.1)) (ty-moved arg.0) (val-moved arg.1))

  arms-moved : (arms : List (Val × Loc)) → AreMoved (places_of_arms (renamed_arms r arms)) (places_of_arms arms)
  arms-moved = each (λ (arm : Val × Loc). places_of_val arm.0 ++ Local arm.1 ∷ []) (λ arm. (renamed_val r arm.0, renamed_loc r arm.1))
      (λ arm. both (places_of_val arm.0) (Local arm.1 ∷ []) (places_of_val (renamed_val r arm.0)) (Local (renamed_loc r arm.1) ∷ []) (val-moved arm.0) refl)

  cases-moved : (cases : List (ℕ × Loc)) → AreMoved (places_of_cases (renamed_cases r cases)) (places_of_cases cases)
  cases-moved = each (λ (case : ℕ × Loc). Local case.1 ∷ []) (λ case. (case.0, renamed_loc r case.1)) (λ case. refl)

  index-moved : (indices : List (Width × Val)) → AreMoved (places_of_index (renamed_index r indices)) (places_of_index indices)
  index-moved = each (λ (index : Width × Val). places_of_val index.1) (λ index. (index.0, renamed_val r index.1)) (λ index. val-moved index.1)

  pub inst-moved : (inst : Inst) → AreMoved (places_of_inst (renamed_inst r inst)) (places_of_inst inst)
  inst-moved (insts.Bin dst op flags w a b) = rw (val-moved a, val-moved b) (ap (λ ps. Local (renamed_loc r dst) ∷ ps) (flip (map-append (renamed_place r) (places_of_val a) (places_of_val b))))
  inst-moved (insts.Cmp dst pred ty a b) = ap (λ ps. Local (renamed_loc r dst) ∷ ps) (three (places_of_ty ty) (places_of_val a) (places_of_val b) _ _ _ (ty-moved ty) (val-moved a) (val-moved b))
  inst-moved (insts.Select dst cond ty a b) = ap (λ ps. Local (renamed_loc r dst) ∷ ps) (four (places_of_val cond) (places_of_ty ty) (places_of_val a) (places_of_val b) _ _ _ _ (val-moved cond) (ty-moved ty) (val-moved a) (val-moved b))
  inst-moved (insts.Cast dst op from a to) = ap (λ ps. Local (renamed_loc r dst) ∷ ps) (three (places_of_ty from) (places_of_val a) (places_of_ty to) _ _ _ (ty-moved from) (val-moved a) (ty-moved to))
  inst-moved (insts.Gep dst base ptr index) = ap (λ ps. Local (renamed_loc r dst) ∷ ps) (three (places_of_ty base) (places_of_val ptr) (places_of_index index) _ _ _ (ty-moved base) (val-moved ptr) (index-moved index))
  inst-moved (insts.Alloca dst ty) = ap (λ ps. Local (renamed_loc r dst) ∷ ps) (ty-moved ty)
  inst-moved (insts.Load dst ty ptr atomic) = ap (λ ps. Local (renamed_loc r dst) ∷ ps) (both (places_of_ty ty) (places_of_val ptr) _ _ (ty-moved ty) (val-moved ptr))
  inst-moved (insts.Store ty val ptr atomic) = three (places_of_ty ty) (places_of_val val) (places_of_val ptr) _ _ _ (ty-moved ty) (val-moved val) (val-moved ptr)
  inst-moved (insts.Rmw dst op ptr ty val) = ap (λ ps. Local (renamed_loc r dst) ∷ ps) (three (places_of_val ptr) (places_of_ty ty) (places_of_val val) _ _ _ (val-moved ptr) (ty-moved ty) (val-moved val))
  inst-moved (insts.CmpXchg dst ptr ty old new) = ap (λ ps. Local (renamed_loc r dst) ∷ ps) (four (places_of_val ptr) (places_of_ty ty) (places_of_val old) (places_of_val new) _ _ _ _ (val-moved ptr) (ty-moved ty) (val-moved old) (val-moved new))
  inst-moved insts.Fence = refl
  inst-moved (insts.Extract dst elem pair index) = ap (λ ps. Local (renamed_loc r dst) ∷ ps) (both (places_of_ty elem) (Local pair ∷ []) _ _ (ty-moved elem) refl)
  inst-moved (insts.Call dst ret callee args) =
      four (places_of_option (λ (at : Loc). Local at ∷ []) dst) (places_of_ty ret) (Global callee ∷ []) (places_of_args args) _ _ _ _
      (maybe (λ (at : Loc). Local at ∷ []) (renamed_loc r) (λ at. refl) dst) (ty-moved ret) refl (args-moved args)
  inst-moved (insts.Phi dst ty arms) = ap (λ ps. Local (renamed_loc r dst) ∷ ps) (both (places_of_ty ty) (places_of_arms arms) _ _ (ty-moved ty) (arms-moved arms))
  inst-moved (insts.Br to) = refl
  inst-moved (insts.CondBr cond on_true on_false) = three (places_of_val cond) (Local on_true ∷ []) (Local on_false ∷ []) _ _ _ (val-moved cond) refl refl
  inst-moved (insts.Switch ty on default cases) = four (places_of_ty ty) (places_of_val on) (Local default ∷ []) (places_of_cases cases) _ _ _ _ (ty-moved ty) (val-moved on) refl (cases-moved cases)
  inst-moved (insts.Ret ty val) = both (places_of_ty ty) (places_of_option places_of_val val) _ _ (ty-moved ty) (maybe places_of_val (renamed_val r) val-moved val)
  inst-moved insts.Unreachable = refl

  -- ---- functions and modules

  block-moved : (block : Block) → AreMoved (places_of_block (renamed_block r block)) (places_of_block block)
  block-moved block = ap (λ ps. Local (renamed_loc r block.label) ∷ ps) (each places_of_inst (renamed_inst r) inst-moved block.insts)

  pub params-moved : (params : List (Ty × Loc)) → AreMoved (flat_map (λ (param : Ty × Loc). places_of_ty param.0 ++ Local param.1 ∷ []) (map (renamed_param r) params)) (flat_map (λ (param : Ty × Loc). places_of_ty param.0 ++ Local param.1 ∷ []) params)
  params-moved = each (λ (param : Ty × Loc). places_of_ty param.0 ++ Local param.1 ∷ []) (renamed_param r) (λ param. both (places_of_ty param.0) (Local param.1 ∷ []) _ _ (ty-moved param.0) refl)

  pub mentions-moved : (f : FuncParts) → AreMoved (mentions_of_func (renamed_func r f)) (mentions_of_func f)
  mentions-moved f = four (places_of_ty f.ret) (Global f.sym ∷ []) (flat_map (λ (param : Ty × Loc). places_of_ty param.0 ++ Local param.1 ∷ []) f.params) (flat_map places_of_block f.blocks) _ _ _ _
      (ty-moved f.ret) refl (params-moved f.params) (each places_of_block (renamed_block r) block-moved f.blocks)

  pub types-moved : (types : List (TypeId × Ty)) → AreMoved (flat_map places_of_named (map (renamed_named r) types)) (flat_map places_of_named types)
  types-moved = each places_of_named (renamed_named r) (λ named. ap (λ ps. Struct (renamed_type_id r named.0) ∷ ps) (ty-moved named.1))

  pub global-moved : (global : GlobalVar) → AreMoved (places_of_global (renamed_global r global)) (places_of_global global)
  global-moved global = ap (λ ps. Global (renamed_sym r global.sym) ∷ ps)
      (both (places_of_ty global.ty) (places_of_init global.init) _ _ (ty-moved global.ty) (init-moved global.init))

  pub globals-moved : (globals : List GlobalVar) → AreMoved (flat_map places_of_global (map (renamed_global r) globals)) (flat_map places_of_global globals)
  globals-moved = each places_of_global (renamed_global r) global-moved

  pub declare-moved : (declare : Declare) → AreMoved (places_of_declare (renamed_declare r declare)) (places_of_declare declare)
  declare-moved declare = three (places_of_ty declare.ret) (Global declare.sym ∷ []) (flat_map places_of_ty declare.params) _ _ _ (ty-moved declare.ret) refl (each places_of_ty (renamed_ty r) ty-moved declare.params)

  pub declares-moved : (declares : List Declare) → AreMoved (flat_map places_of_declare (map (renamed_declare r) declares)) (flat_map places_of_declare declares)
  declares-moved = each places_of_declare (renamed_declare r) declare-moved
