-- Types and what stands outside functions are the same where registers and labels alone get other numbers.
use Rattle.std.proofs.Common.{ℕ, ◌≡◌, ◌∙◌, List, [], ◌∷◌, map, refl, ap, sym as flip}
use Rattle.ir_core.specs.declared.types.Ty.{Ty, map-Ty, roll-Ty}
use Rattle.ir_core.specs.declared.types.Ty as opened
use Rattle.ir_core.specs.declared.types.Ty.TheFolds.{fold-roll-Ty, ind-Ty}
use Rattle.ir_core.specs.declared.types.Ty.TheOpen.{Ty-F}
use Rattle.ir_core.specs.declared.types.TypeId.{TypeId}
use Rattle.ir_core.specs.declared.values.ConstGep.{ConstGep}
use Rattle.ir_core.specs.declared.values.Declare.{Declare}
use Rattle.ir_core.specs.declared.values.GlobalVar.{GlobalVar}
use Rattle.ir_core.specs.declared.values.Init.{Init, map-Init, roll-Init}
use Rattle.ir_core.specs.declared.values.Init as opened_init
use Rattle.ir_core.specs.declared.values.Init.TheFolds.{fold-roll-Init, ind-Init}
use Rattle.ir_core.specs.declared.values.Init.TheOpen.{Init-F}
use Rattle.ir_numbering.specs.Renaming.{Renaming, renamed_step, renamed_ty, renamed_gep, renamed_init_step, renamed_init, renamed_global, renamed_declare}
use Rattle.ir_numbering.specs.Numbers.{renamed_named}

module _ (loc : ℕ → ℕ) where
  -- registers and labels get other numbers, and no other name does
  abbrev pub inside : Renaming
  inside = record { loc = loc; type_id = λ id. id; sym = λ name. name }

  abbrev Stays : Ty → Type 0
  Stays ty = renamed_ty inside ty ≡ ty

  parts-stay : (parts : List ((ty : Ty) × Stays ty)) → map (renamed_ty inside) (map (λ e. e.0) parts) ≡ map (λ e. e.0) parts
  parts-stay [] = refl
  parts-stay (e ∷ parts) = rw (e.1, parts-stay parts) refl

  layer-stays : (y : Ty-F ((ty : Ty) × Stays ty))
      → renamed_step inside.type_id (map-Ty Ty Ty (renamed_ty inside) (map-Ty ((ty : Ty) × Stays ty) Ty (λ e. e.0) y)) ≡ roll-Ty (map-Ty ((ty : Ty) × Stays ty) Ty (λ e. e.0) y)
  unfolding opened.roll-Ty denote.Hole.Carrier.roll
  layer-stays Ty-F.Void = refl
  layer-stays (Ty-F.Int w) = refl
  layer-stays Ty-F.Ptr = refl
  layer-stays (Ty-F.Array count element) = ap (λ (ty : Ty). roll-Ty (Ty-F.Array count ty)) element.1
  layer-stays (Ty-F.Struct parts) = ap (λ (tys : List Ty). roll-Ty (Ty-F.Struct tys)) (parts-stay parts)
  layer-stays (Ty-F.Named id) = refl

  pub ty-stays : (ty : Ty) → renamed_ty inside ty ≡ ty
  ty-stays = ind-Ty Stays (λ x y is.
      fold-roll-Ty Ty (renamed_step inside.type_id) x ∙ ap (λ (z : Ty-F Ty). renamed_step inside.type_id (map-Ty Ty Ty (renamed_ty inside) z)) (flip is)
      ∙ layer-stays y ∙ ap roll-Ty is)

  pub tys-stay : (tys : List Ty) → map (renamed_ty inside) tys ≡ tys
  tys-stay [] = refl
  tys-stay (ty ∷ tys) = rw (ty-stays ty, tys-stay tys) refl

  -- ---- outside functions

  gep-stays : (gep : ConstGep) → renamed_gep inside gep ≡ gep
  gep-stays gep = ap (λ (ty : Ty). record gep { base = ty }) (ty-stays gep.base)

  abbrev StaysInit : Init → Type 0
  StaysInit init = renamed_init inside init ≡ init

  abbrev bare : List (Ty × ((init : Init) × StaysInit init)) → List (Ty × Init)
  bare parts = map (λ (part : Ty × ((init : Init) × StaysInit init)). (part.0, part.1.0)) parts

  init-parts-stay : (parts : List (Ty × ((init : Init) × StaysInit init)))
      → map (λ (part : Ty × Init). (renamed_ty inside part.0, part.1)) (map (λ (part : Ty × Init). (part.0, renamed_init inside part.1)) (bare parts)) ≡ bare parts
  init-parts-stay [] = refl
  init-parts-stay (part ∷ parts) = rw (ty-stays part.0, part.1.1, init-parts-stay parts) refl

  init-layer-stays : (y : Init-F ((init : Init) × StaysInit init))
      → renamed_init_step inside (map-Init Init Init (renamed_init inside) (map-Init ((init : Init) × StaysInit init) Init (λ e. e.0) y)) ≡ roll-Init (map-Init ((init : Init) × StaysInit init) Init (λ e. e.0) y)
  unfolding opened_init.roll-Init denote.Hole.Carrier.roll
  init-layer-stays Init-F.Zero = refl
  init-layer-stays (Init-F.Int n) = refl
  init-layer-stays Init-F.Null = refl
  init-layer-stays (Init-F.Addr name) = refl
  init-layer-stays (Init-F.Gep gep) = ap (λ (other : ConstGep). roll-Init (Init-F.Gep other)) (gep-stays gep)
  init-layer-stays (Init-F.Bytes bs) = refl
  init-layer-stays (Init-F.Parts parts) = ap (λ (parts : List (Ty × Init)). roll-Init (Init-F.Parts parts)) (init-parts-stay parts)

  init-stays : (init : Init) → renamed_init inside init ≡ init
  init-stays = ind-Init StaysInit (λ x y is.
      fold-roll-Init Init (renamed_init_step inside) x ∙ ap (λ (z : Init-F Init). renamed_init_step inside (map-Init Init Init (renamed_init inside) z)) (flip is)
      ∙ init-layer-stays y ∙ ap roll-Init is)

  pub types-stay : (types : List (TypeId × Ty)) → map (renamed_named inside) types ≡ types
  types-stay [] = refl
  types-stay (named ∷ types) = rw (ty-stays named.1, types-stay types) refl

  pub globals-stay : (globals : List GlobalVar) → map (renamed_global inside) globals ≡ globals
  globals-stay [] = refl
  globals-stay (global ∷ globals) = rw (ty-stays global.ty, init-stays global.init, globals-stay globals) refl

  pub declares-stay : (declares : List Declare) → map (renamed_declare inside) declares ≡ declares
  declares-stay [] = refl
  declares-stay (declare ∷ declares) = rw (ty-stays declare.ret, tys-stay declare.params, declares-stay declares) refl
