-- Two renamings that agree at all places of a tree make the same of it.
use Rattle.std.proofs.Common.{ℕ, ◌≡◌, ◌∙◌, List, [], ◌∷◌, ◌++◌, map, Option, Some, None, refl, ap, subst, sym as flip}
use Rattle.std.specs.List.{flat_map}
use Rattle.ir_core.specs.declared.types.Ty.{Ty, map-Ty}
use Rattle.ir_core.specs.declared.types.Ty.TheFolds.{fold-roll-Ty, ind-Ty}
use Rattle.ir_core.specs.declared.types.Ty.TheOpen.{Ty-F}
use Rattle.ir_core.specs.declared.types.Ty.TheVariants as types
use Rattle.ir_core.specs.declared.types.TypeId.{TypeId}
use Rattle.ir_core.specs.declared.types.Loc.{Loc}
use Rattle.ir_core.specs.declared.types.Sym.{Sym}
use Rattle.ir_core.specs.declared.types.Width.{Width}
use Rattle.ir_core.specs.declared.values.ConstGep.{ConstGep}
use Rattle.ir_core.specs.declared.values.Val.{Val}
use Rattle.ir_core.specs.declared.values.Val.TheVariants as values
use Rattle.ir_core.specs.declared.values.Declare.{Declare}
use Rattle.ir_core.specs.declared.values.GlobalVar.{GlobalVar}
use Rattle.ir_core.specs.declared.values.Init.{Init, map-Init}
use Rattle.ir_core.specs.declared.values.Init.TheFolds.{fold-roll-Init, ind-Init}
use Rattle.ir_core.specs.declared.values.Init.TheOpen.{Init-F}
use Rattle.ir_core.specs.declared.values.Init.TheVariants as inits
use Rattle.ir_core.specs.declared.instruction.Inst.{Inst}
use Rattle.ir_core.specs.declared.instruction.Inst.TheVariants as insts
use Rattle.ir_core.specs.declared.instruction.Block.{Block}
use Rattle.ir_core.specs.Module.{FuncParts}
use Rattle.ir_numbering.specs.declared.places.Place.{Place}
use Rattle.ir_numbering.specs.declared.places.Place.TheVariants.{Local, Struct, Global}
use Rattle.ir_numbering.specs.Places.{places_step, places_of_ty, places_of_gep, places_of_val, places_init_step, places_of_init, places_of_option, places_of_args, places_of_arms, places_of_cases, places_of_index, places_of_inst, places_of_block, places_of_global, places_of_declare, mentions_of_func}
use Rattle.ir_numbering.specs.Renaming.{Renaming, renamed_loc, renamed_sym, renamed_type_id, renamed_step, renamed_ty, renamed_gep, renamed_val, renamed_init_step, renamed_init, renamed_args, renamed_arms, renamed_cases, renamed_index, renamed_option, renamed_inst, renamed_block, renamed_param, renamed_func, renamed_global, renamed_declare}
use Rattle.renamed_modules.specs.Numbered.{AllAt}
use Rattle.ir_numbering.specs.Numbers.{places_of_named, renamed_named}

pub front-at : (P : Place → Type 0) (xs ys : List Place) → AllAt P (xs ++ ys) → AllAt P xs
front-at P [] ys all = tt
front-at P (x ∷ xs) ys all = (all.0, front-at P xs ys all.1)

pub back-at : (P : Place → Type 0) (xs ys : List Place) → AllAt P (xs ++ ys) → AllAt P ys
back-at P [] ys all = all
back-at P (x ∷ xs) ys all = back-at P xs ys all.1

module _ (r q : Renaming) where
  -- both give the name at a place the same number
  abbrev pub AgreeAt : Place → Type 0
  AgreeAt (Local at) = r.loc at.0 ≡ q.loc at.0
  AgreeAt (Struct id) = r.type_id id.0 ≡ q.type_id id.0
  AgreeAt (Global name) = r.sym name.0 ≡ q.sym name.0

  abbrev pub AllAgree : List Place → Type 0
  AllAgree places = AllAt AgreeAt places

  front : (xs ys : List Place) → AllAgree (xs ++ ys) → AllAgree xs
  front xs ys all = front-at AgreeAt xs ys all

  back : (xs ys : List Place) → AllAgree (xs ++ ys) → AllAgree ys
  back xs ys all = back-at AgreeAt xs ys all

  each : {A : Type 0} (places : A → List Place) (f g : A → A) → ((tree : A) → AllAgree (places tree) → f tree ≡ g tree) → (trees : List A)
      → AllAgree (flat_map places trees) → map f trees ≡ map g trees
  each places f g same [] all = refl
  each places f g same (tree ∷ trees) all =
      rw (same tree (front (places tree) (flat_map places trees) all), each places f g same trees (back (places tree) (flat_map places trees) all)) refl

  loc-again : (at : Loc) → r.loc at.0 ≡ q.loc at.0 → renamed_loc r at ≡ renamed_loc q at
  loc-again at e = ap (λ (n : ℕ). let label : Loc = record { 0 = n } in label) e

  sym-again : (name : Sym) → r.sym name.0 ≡ q.sym name.0 → renamed_sym r name ≡ renamed_sym q name
  sym-again name e = ap (λ (n : ℕ). let other : Sym = record { 0 = n } in other) e

  id-again : (id : TypeId) → r.type_id id.0 ≡ q.type_id id.0 → renamed_type_id r id ≡ renamed_type_id q id
  id-again id e = ap (λ (n : ℕ). let other : TypeId = record { 0 = n } in other) e

  -- ---- types

  abbrev IsAgain : Ty → Type 0
  IsAgain ty = AllAgree (places_of_ty ty) → renamed_ty r ty ≡ renamed_ty q ty

  parts-again : (parts : List ((ty : Ty) × IsAgain ty)) → AllAgree (flat_map (λ part. part) (map places_of_ty (map (λ e. e.0) parts)))
      → map (renamed_ty r) (map (λ e. e.0) parts) ≡ map (renamed_ty q) (map (λ e. e.0) parts)
  parts-again [] all = refl
  parts-again (e ∷ parts) all =
      let rest : List Place = flat_map (λ part. part) (map places_of_ty (map (λ (e : (ty : Ty) × IsAgain ty). e.0) parts)) in
      rw (e.1 (front (places_of_ty e.0) rest all), parts-again parts (back (places_of_ty e.0) rest all)) refl

  layer-again : (y : Ty-F ((ty : Ty) × IsAgain ty)) → AllAgree (places_step (map-Ty Ty (List Place) places_of_ty (map-Ty ((ty : Ty) × IsAgain ty) Ty (λ e. e.0) y)))
      → renamed_step r.type_id (map-Ty Ty Ty (renamed_ty r) (map-Ty ((ty : Ty) × IsAgain ty) Ty (λ e. e.0) y))
      ≡ renamed_step q.type_id (map-Ty Ty Ty (renamed_ty q) (map-Ty ((ty : Ty) × IsAgain ty) Ty (λ e. e.0) y))
  layer-again Ty-F.Void all = refl
  layer-again (Ty-F.Int w) all = refl
  layer-again Ty-F.Ptr all = refl
  layer-again (Ty-F.Array count element) all = ap (λ (ty : Ty). types.Array count ty) (element.1 all)
  layer-again (Ty-F.Struct parts) all = ap (λ (tys : List Ty). types.Struct tys) (parts-again parts all)
  layer-again (Ty-F.Named id) all = ap (λ (id : TypeId). types.Named id) (id-again id all.0)

  pub ty-again : (ty : Ty) → AllAgree (places_of_ty ty) → renamed_ty r ty ≡ renamed_ty q ty
  ty-again = ind-Ty IsAgain (λ x y is all.
      fold-roll-Ty Ty (renamed_step r.type_id) x
      ∙ ap (λ (z : Ty-F Ty). renamed_step r.type_id (map-Ty Ty Ty (renamed_ty r) z)) (flip is)
      ∙ layer-again y (subst (λ (z : Ty-F Ty). AllAgree (places_step (map-Ty Ty (List Place) places_of_ty z))) (flip is) (subst AllAgree (fold-roll-Ty (List Place) places_step x) all))
      ∙ ap (λ (z : Ty-F Ty). renamed_step q.type_id (map-Ty Ty Ty (renamed_ty q) z)) is
      ∙ flip (fold-roll-Ty Ty (renamed_step q.type_id) x))

  -- ---- values and initialisers

  gep-again : (gep : ConstGep) → AllAgree (places_of_gep gep) → renamed_gep r gep ≡ renamed_gep q gep
  gep-again gep all =
      let base = ty-again gep.base (front (places_of_ty gep.base) (Global gep.sym ∷ []) all) in
      let name = sym-again gep.sym (back (places_of_ty gep.base) (Global gep.sym ∷ []) all).0 in
      ap (λ (ty : Ty). record gep { base = ty; sym = renamed_sym r gep.sym }) base ∙ ap (λ (other : Sym). record gep { base = renamed_ty q gep.base; sym = other }) name

  val-again : (value : Val) → AllAgree (places_of_val value) → renamed_val r value ≡ renamed_val q value
  val-again (values.Reg at) all = ap (λ (at : Loc). values.Reg at) (loc-again at all.0)
  val-again (values.Int n) all = refl
  val-again values.Null all = refl
  val-again (values.Global name) all = ap (λ (other : Sym). values.Global other) (sym-again name all.0)
  val-again (values.Gep gep) all = ap (λ (other : ConstGep). values.Gep other) (gep-again gep all)

  abbrev IsAgainInit : Init → Type 0
  IsAgainInit init = AllAgree (places_of_init init) → renamed_init r init ≡ renamed_init q init

  abbrev bare : List (Ty × ((init : Init) × IsAgainInit init)) → List (Ty × Init)
  bare parts = map (λ (part : Ty × ((init : Init) × IsAgainInit init)). (part.0, part.1.0)) parts

  -- parts of an initialiser, renamed
  abbrev parts_by : Renaming → List (Ty × Init) → List (Ty × Init)
  parts_by s parts = map (λ (part : Ty × Init). (renamed_ty s part.0, part.1)) (map (λ (part : Ty × Init). (part.0, renamed_init s part.1)) parts)

  abbrev places_in : List (Ty × Init) → List Place
  places_in parts = flat_map (λ (part : Ty × List Place). places_of_ty part.0 ++ part.1) (map (λ (part : Ty × Init). (part.0, places_of_init part.1)) parts)

  init-parts-again : (parts : List (Ty × ((init : Init) × IsAgainInit init))) → AllAgree (places_in (bare parts)) → parts_by r (bare parts) ≡ parts_by q (bare parts)
  init-parts-again [] all = refl
  init-parts-again (part ∷ parts) all =
      let own = front (places_of_ty part.0 ++ places_of_init part.1.0) (places_in (bare parts)) all in
      rw (ty-again part.0 (front (places_of_ty part.0) (places_of_init part.1.0) own), part.1.1 (back (places_of_ty part.0) (places_of_init part.1.0) own), init-parts-again parts (back (places_of_ty part.0 ++ places_of_init part.1.0) (places_in (bare parts)) all)) refl

  init-layer-again : (y : Init-F ((init : Init) × IsAgainInit init))
      → AllAgree (places_init_step (map-Init Init (List Place) places_of_init (map-Init ((init : Init) × IsAgainInit init) Init (λ e. e.0) y)))
      → renamed_init_step r (map-Init Init Init (renamed_init r) (map-Init ((init : Init) × IsAgainInit init) Init (λ e. e.0) y))
      ≡ renamed_init_step q (map-Init Init Init (renamed_init q) (map-Init ((init : Init) × IsAgainInit init) Init (λ e. e.0) y))
  init-layer-again Init-F.Zero all = refl
  init-layer-again (Init-F.Int n) all = refl
  init-layer-again Init-F.Null all = refl
  init-layer-again (Init-F.Addr name) all = ap (λ (other : Sym). inits.Addr other) (sym-again name all.0)
  init-layer-again (Init-F.Gep gep) all = ap (λ (other : ConstGep). inits.Gep other) (gep-again gep all)
  init-layer-again (Init-F.Bytes bs) all = refl
  init-layer-again (Init-F.Parts parts) all = ap (λ (parts : List (Ty × Init)). inits.Parts parts) (init-parts-again parts all)

  init-again : (init : Init) → AllAgree (places_of_init init) → renamed_init r init ≡ renamed_init q init
  init-again = ind-Init IsAgainInit (λ x y is all.
      fold-roll-Init Init (renamed_init_step r) x
      ∙ ap (λ (z : Init-F Init). renamed_init_step r (map-Init Init Init (renamed_init r) z)) (flip is)
      ∙ init-layer-again y (subst (λ (z : Init-F Init). AllAgree (places_init_step (map-Init Init (List Place) places_of_init z))) (flip is) (subst AllAgree (fold-roll-Init (List Place) places_init_step x) all))
      ∙ ap (λ (z : Init-F Init). renamed_init_step q (map-Init Init Init (renamed_init q) z)) is
      ∙ flip (fold-roll-Init Init (renamed_init_step q) x))

  -- ---- instructions

  args-again : (args : List (Ty × Val)) → AllAgree (places_of_args args) → renamed_args r args ≡ renamed_args q args
  args-again = each (λ (arg : Ty × Val). places_of_ty arg.0 ++ places_of_val arg.1) (λ arg. (renamed_ty r arg.0, renamed_val r arg.1)) (λ arg. (renamed_ty q arg.0, renamed_val q arg.1))
      (λ arg all. rw (ty-again arg.0 (front (places_of_ty arg.0) (places_of_val arg.1) all), val-again arg.1 (back (places_of_ty arg.0) (places_of_val arg.1) all)) refl)

  arms-again : (arms : List (Val × Loc)) → AllAgree (places_of_arms arms) → renamed_arms r arms ≡ renamed_arms q arms
  arms-again = each (λ (arm : Val × Loc). places_of_val arm.0 ++ Local arm.1 ∷ []) (λ arm. (renamed_val r arm.0, renamed_loc r arm.1)) (λ arm. (renamed_val q arm.0, renamed_loc q arm.1))
      (λ arm all. rw (val-again arm.0 (front (places_of_val arm.0) (Local arm.1 ∷ []) all), loc-again arm.1 (back (places_of_val arm.0) (Local arm.1 ∷ []) all).0) refl)

  cases-again : (cases : List (ℕ × Loc)) → AllAgree (places_of_cases cases) → renamed_cases r cases ≡ renamed_cases q cases
  cases-again = each (λ (case : ℕ × Loc). Local case.1 ∷ []) (λ case. (case.0, renamed_loc r case.1)) (λ case. (case.0, renamed_loc q case.1))
      (λ case all. rw (loc-again case.1 all.0) refl)

  index-again : (indices : List (Width × Val)) → AllAgree (places_of_index indices) → renamed_index r indices ≡ renamed_index q indices
  index-again = each (λ (index : Width × Val). places_of_val index.1) (λ index. (index.0, renamed_val r index.1)) (λ index. (index.0, renamed_val q index.1))
      (λ index all. rw (val-again index.1 all) refl)

  maybe-again : {A : Type 0} (places : A → List Place) (f g : A → A) → ((tree : A) → AllAgree (places tree) → f tree ≡ g tree) → (tree : Option A)
      → AllAgree (places_of_option places tree) → renamed_option f tree ≡ renamed_option g tree
  maybe-again places f g same None all = refl
  maybe-again places f g same (Some tree) all = ap (λ x. Some x) (same tree all)

  inst-again : (inst : Inst) → AllAgree (places_of_inst inst) → renamed_inst r inst ≡ renamed_inst q inst
  inst-again (insts.Bin dst op flags w a b) all = rw (loc-again dst all.0, val-again a (front (places_of_val a) (places_of_val b) all.1), val-again b (back (places_of_val a) (places_of_val b) all.1)) refl
  inst-again (insts.Cmp dst pred ty a b) all =
      let two = front (places_of_ty ty ++ places_of_val a) (places_of_val b) all.1 in
      rw (loc-again dst all.0, ty-again ty (front (places_of_ty ty) (places_of_val a) two), val-again a (back (places_of_ty ty) (places_of_val a) two), val-again b (back (places_of_ty ty ++ places_of_val a) (places_of_val b) all.1)) refl
  inst-again (insts.Select dst cond ty a b) all =
      let three = front ((places_of_val cond ++ places_of_ty ty) ++ places_of_val a) (places_of_val b) all.1 in
      let two = front (places_of_val cond ++ places_of_ty ty) (places_of_val a) three in
      rw (
        loc-again dst all.0,
        val-again cond (front (places_of_val cond) (places_of_ty ty) two),
        ty-again ty (back (places_of_val cond) (places_of_ty ty) two),
        val-again a (back (places_of_val cond ++ places_of_ty ty) (places_of_val a) three),
        val-again b (back ((places_of_val cond ++ places_of_ty ty) ++ places_of_val a) (places_of_val b) all.1),
      ) refl
  inst-again (insts.Cast dst op from a to) all =
      let two = front (places_of_ty from ++ places_of_val a) (places_of_ty to) all.1 in
      rw (loc-again dst all.0, ty-again from (front (places_of_ty from) (places_of_val a) two), val-again a (back (places_of_ty from) (places_of_val a) two), ty-again to (back (places_of_ty from ++ places_of_val a) (places_of_ty to) all.1)) refl
  inst-again (insts.Gep dst base ptr index) all =
      let two = front (places_of_ty base ++ places_of_val ptr) (places_of_index index) all.1 in
      rw (loc-again dst all.0, ty-again base (front (places_of_ty base) (places_of_val ptr) two), val-again ptr (back (places_of_ty base) (places_of_val ptr) two), index-again index (back (places_of_ty base ++ places_of_val ptr) (places_of_index index) all.1)) refl
  inst-again (insts.Alloca dst ty) all = rw (loc-again dst all.0, ty-again ty all.1) refl
  inst-again (insts.Load dst ty ptr atomic) all = rw (loc-again dst all.0, ty-again ty (front (places_of_ty ty) (places_of_val ptr) all.1), val-again ptr (back (places_of_ty ty) (places_of_val ptr) all.1)) refl
  inst-again (insts.Store ty val ptr atomic) all =
      let two = front (places_of_ty ty ++ places_of_val val) (places_of_val ptr) all in
      rw (ty-again ty (front (places_of_ty ty) (places_of_val val) two), val-again val (back (places_of_ty ty) (places_of_val val) two), val-again ptr (back (places_of_ty ty ++ places_of_val val) (places_of_val ptr) all)) refl
  inst-again (insts.Rmw dst op ptr ty val) all =
      let two = front (places_of_val ptr ++ places_of_ty ty) (places_of_val val) all.1 in
      rw (loc-again dst all.0, val-again ptr (front (places_of_val ptr) (places_of_ty ty) two), ty-again ty (back (places_of_val ptr) (places_of_ty ty) two), val-again val (back (places_of_val ptr ++ places_of_ty ty) (places_of_val val) all.1)) refl
  inst-again (insts.CmpXchg dst ptr ty old new) all =
      let three = front ((places_of_val ptr ++ places_of_ty ty) ++ places_of_val old) (places_of_val new) all.1 in
      let two = front (places_of_val ptr ++ places_of_ty ty) (places_of_val old) three in
      rw (
        loc-again dst all.0,
        val-again ptr (front (places_of_val ptr) (places_of_ty ty) two),
        ty-again ty (back (places_of_val ptr) (places_of_ty ty) two),
        val-again old (back (places_of_val ptr ++ places_of_ty ty) (places_of_val old) three),
        val-again new (back ((places_of_val ptr ++ places_of_ty ty) ++ places_of_val old) (places_of_val new) all.1),
      ) refl
  inst-again insts.Fence all = refl
  inst-again (insts.Extract dst elem pair index) all = rw (loc-again dst all.0, ty-again elem (front (places_of_ty elem) (Local pair ∷ []) all.1), loc-again pair (back (places_of_ty elem) (Local pair ∷ []) all.1).0) refl
  inst-again (insts.Call dst ret callee args) all =
      let head = places_of_option (λ (at : Loc). Local at ∷ []) dst in
      let three = front ((head ++ places_of_ty ret) ++ Global callee ∷ []) (places_of_args args) all in
      let two = front (head ++ places_of_ty ret) (Global callee ∷ []) three in
      rw (
        maybe-again (λ (at : Loc). Local at ∷ []) (renamed_loc r) (renamed_loc q) (λ at own. loc-again at own.0) dst (front head (places_of_ty ret) two),
        ty-again ret (back head (places_of_ty ret) two),
        sym-again callee (back (head ++ places_of_ty ret) (Global callee ∷ []) three).0,
        args-again args (back ((head ++ places_of_ty ret) ++ Global callee ∷ []) (places_of_args args) all),
      ) refl
  inst-again (insts.Phi dst ty arms) all = rw (loc-again dst all.0, ty-again ty (front (places_of_ty ty) (places_of_arms arms) all.1), arms-again arms (back (places_of_ty ty) (places_of_arms arms) all.1)) refl
  inst-again (insts.Br to) all = rw (loc-again to all.0) refl
  inst-again (insts.CondBr cond on_true on_false) all =
      let two = front (places_of_val cond ++ Local on_true ∷ []) (Local on_false ∷ []) all in
      rw (val-again cond (front (places_of_val cond) (Local on_true ∷ []) two), loc-again on_true (back (places_of_val cond) (Local on_true ∷ []) two).0, loc-again on_false (back (places_of_val cond ++ Local on_true ∷ []) (Local on_false ∷ []) all).0) refl
  inst-again (insts.Switch ty on default cases) all =
      let three = front ((places_of_ty ty ++ places_of_val on) ++ Local default ∷ []) (places_of_cases cases) all in
      let two = front (places_of_ty ty ++ places_of_val on) (Local default ∷ []) three in
      rw (
        ty-again ty (front (places_of_ty ty) (places_of_val on) two),
        val-again on (back (places_of_ty ty) (places_of_val on) two),
        loc-again default (back (places_of_ty ty ++ places_of_val on) (Local default ∷ []) three).0,
        cases-again cases (back ((places_of_ty ty ++ places_of_val on) ++ Local default ∷ []) (places_of_cases cases) all),
      ) refl
  inst-again (insts.Ret ty val) all = rw (ty-again ty (front (places_of_ty ty) (places_of_option places_of_val val) all), maybe-again places_of_val (renamed_val r) (renamed_val q) val-again val (back (places_of_ty ty) (places_of_option places_of_val val) all)) refl
  inst-again insts.Unreachable all = refl

  -- ---- functions and modules

  block-again : (block : Block) → AllAgree (places_of_block block) → renamed_block r block ≡ renamed_block q block
  block-again block all =
      let code = each places_of_inst (renamed_inst r) (renamed_inst q) inst-again block.insts all.1 in
      rw (loc-again block.label all.0, code) refl

  param-again : (param : Ty × Loc) → AllAgree (places_of_ty param.0 ++ Local param.1 ∷ []) → renamed_param r param ≡ renamed_param q param
  param-again param all =
      rw (ty-again param.0 (front (places_of_ty param.0) (Local param.1 ∷ []) all), loc-again param.1 (back (places_of_ty param.0) (Local param.1 ∷ []) all).0) refl

  pub func-again : (f : FuncParts) → AllAgree (mentions_of_func f) → renamed_func r f ≡ renamed_func q f
  func-again f all =
      let params = flat_map (λ (param : Ty × Loc). places_of_ty param.0 ++ Local param.1 ∷ []) f.params in
      let head = front ((places_of_ty f.ret ++ Global f.sym ∷ []) ++ params) (flat_map places_of_block f.blocks) all in
      let two = front (places_of_ty f.ret ++ Global f.sym ∷ []) params head in
      let blocks = each places_of_block (renamed_block r) (renamed_block q) block-again f.blocks (back ((places_of_ty f.ret ++ Global f.sym ∷ []) ++ params) (flat_map places_of_block f.blocks) all) in
      let given = each (λ (param : Ty × Loc). places_of_ty param.0 ++ Local param.1 ∷ []) (renamed_param r) (renamed_param q) param-again f.params (back (places_of_ty f.ret ++ Global f.sym ∷ []) params head) in
      rw (sym-again f.sym (back (places_of_ty f.ret) (Global f.sym ∷ []) two).0, ty-again f.ret (front (places_of_ty f.ret) (Global f.sym ∷ []) two), given, blocks) refl

  named-again : (named : TypeId × Ty) → AllAgree (places_of_named named) → renamed_named r named ≡ renamed_named q named
  named-again named all = rw (id-again named.0 all.0, ty-again named.1 all.1) refl

  pub types-again : (types : List (TypeId × Ty)) → AllAgree (flat_map places_of_named types) → map (renamed_named r) types ≡ map (renamed_named q) types
  types-again = each places_of_named (renamed_named r) (renamed_named q) named-again

  global-again : (global : GlobalVar) → AllAgree (places_of_global global) → renamed_global r global ≡ renamed_global q global
  global-again global all =
      rw (sym-again global.sym all.0, ty-again global.ty (front (places_of_ty global.ty) (places_of_init global.init) all.1), init-again global.init (back (places_of_ty global.ty) (places_of_init global.init) all.1)) refl

  pub globals-again : (globals : List GlobalVar) → AllAgree (flat_map places_of_global globals) → map (renamed_global r) globals ≡ map (renamed_global q) globals
  globals-again = each places_of_global (renamed_global r) (renamed_global q) global-again

  declare-again : (declare : Declare) → AllAgree (places_of_declare declare) → renamed_declare r declare ≡ renamed_declare q declare
  declare-again declare all =
      let params = flat_map places_of_ty declare.params in
      let head = front (places_of_ty declare.ret ++ Global declare.sym ∷ []) params all in
      let given = each places_of_ty (renamed_ty r) (renamed_ty q) ty-again declare.params (back (places_of_ty declare.ret ++ Global declare.sym ∷ []) params all) in
      rw (sym-again declare.sym (back (places_of_ty declare.ret) (Global declare.sym ∷ []) head).0, ty-again declare.ret (front (places_of_ty declare.ret) (Global declare.sym ∷ []) head), given) refl

  pub declares-again : (declares : List Declare) → AllAgree (flat_map places_of_declare declares) → map (renamed_declare r) declares ≡ map (renamed_declare q) declares
  declares-again = each places_of_declare (renamed_declare r) (renamed_declare q) declare-again
