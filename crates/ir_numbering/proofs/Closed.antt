-- What a renaming makes of the places of a tree, and functions that mention only what they define.
use Rattle.std.proofs.Common.{◌≡◌, ℕ, ◌<◌, Bool, true, ◌&&◌, nat_lt, List, [], ◌∷◌, ◌++◌, length, map, Option, Some, None, ap, refl, sym, ◌∙◌, arith}
use Rattle.std.proofs.lemmas.Bool.{and_parts}
use Rattle.std.proofs.lemmas.Bool.Decides.{nat_tests}
use Rattle.std.proofs.lemmas.List.{map-append}
use Rattle.std.proofs.lemmas.List.Folds.{list_all-map}
use Rattle.std.specs.List.{flat_map, list_all}
use Rattle.ir_core.specs.Names.{number_given}
use Rattle.ir_core.proofs.Numbering.{numbered-known}
use Rattle.ir_core.specs.Module.{ModuleParts, FuncParts}
use Rattle.ir_core.specs.TokenLengths.{name_from}
use Rattle.ir_core.specs.declared.types.Ty.{Ty, map-Ty}
use Rattle.ir_core.specs.declared.types.Ty.TheFolds.{fold-roll-Ty, ind-Ty}
use Rattle.ir_core.specs.declared.types.Ty.TheOpen.{Ty-F}
use Rattle.ir_core.specs.declared.types.Loc.{Loc}
use Rattle.ir_core.specs.declared.types.Sym.{Sym}
use Rattle.ir_core.specs.declared.types.Width.{Width}
use Rattle.ir_core.specs.declared.values.Val.{Val}
use Rattle.ir_core.specs.declared.values.Val.TheVariants as values
use Rattle.ir_core.specs.declared.instruction.Inst.{Inst}
use Rattle.ir_core.specs.declared.instruction.Inst.TheVariants as insts
use Rattle.ir_core.specs.declared.instruction.Block.{Block}
use Rattle.ir_numbering.specs.declared.places.Place.{Place}
use Rattle.ir_numbering.specs.declared.places.Place.TheVariants.{Local, Struct, Global}
use Rattle.ir_numbering.specs.Places.{places_step, places_of_ty, places_of_val, places_of_option, places_of_args, places_of_arms, places_of_cases, places_of_index, places_of_inst, places_of_block, definitions_of_func, mentions_of_func}
use Rattle.ir_numbering.specs.Renaming.{Renaming, renamed_loc, renamed_sym, renamed_ty, renamed_val, renamed_option, renamed_args, renamed_arms, renamed_cases, renamed_index, renamed_inst, renamed_block, renamed_func}
use Rattle.ir_numbering.specs.Numbers.{locals_at, with_names, renaming_of, numbered_by, numbered_func, is_below, is_closed}
use Rattle.ir_numbering.proofs.TakenNames.{locals_at-append, with_names-append}

-- ---- the numbers of registers and labels at places

abbrev numbers_at : List Place → List ℕ
numbers_at [] = []
numbers_at (Local at ∷ places) = at.0 ∷ numbers_at places
numbers_at (Struct id ∷ places) = numbers_at places
numbers_at (Global sym ∷ places) = numbers_at places

numbers_at-append : (a b : List Place) → numbers_at (a ++ b) ≡ numbers_at a ++ numbers_at b
numbers_at-append [] b = refl
numbers_at-append (Local at ∷ a) b = ap (λ l. at.0 ∷ l) (numbers_at-append a b)
numbers_at-append (Struct id ∷ a) b = numbers_at-append a b
numbers_at-append (Global sym ∷ a) b = numbers_at-append a b

-- none stand in types
abbrev IsBare : Ty → Type 0
IsBare ty = numbers_at (places_of_ty ty) ≡ []

parts-bare : (parts : List ((ty : Ty) × IsBare ty)) → numbers_at (flat_map (λ part. part) (map places_of_ty (map (λ e. e.0) parts))) ≡ []
parts-bare [] = refl
parts-bare (e ∷ parts) = numbers_at-append (places_of_ty e.0) (flat_map (λ part. part) (map places_of_ty (map (λ e. e.0) parts))) ∙ rw (e.1, parts-bare parts)

layer-bare : (y : Ty-F ((ty : Ty) × IsBare ty)) → numbers_at (places_step (map-Ty Ty (List Place) places_of_ty (map-Ty ((ty : Ty) × IsBare ty) Ty (λ e. e.0) y))) ≡ []
layer-bare Ty-F.Void = refl
layer-bare (Ty-F.Int w) = refl
layer-bare Ty-F.Ptr = refl
layer-bare (Ty-F.Array count element) = element.1
layer-bare (Ty-F.Struct parts) = parts-bare parts
layer-bare (Ty-F.Named id) = refl

type-bare : (ty : Ty) → numbers_at (places_of_ty ty) ≡ []
type-bare = ind-Ty IsBare (λ x y is.
    ap numbers_at (fold-roll-Ty (List Place) places_step x)
    ∙ ap (λ z. numbers_at (places_step (map-Ty Ty (List Place) places_of_ty z))) (sym is) ∙ layer-bare y)

-- ---- what a renaming makes of them

module _ (r : Renaming) where
  -- places that tell the numbers of other places, renamed
  record IsMoved (renamed places : List Place) : Type 0 where
    moved : numbers_at renamed ≡ map r.loc (numbers_at places)

  nothing : IsMoved [] []
  nothing = record { moved = refl }

  both : {a a' b b' : List Place} → IsMoved a a' → IsMoved b b' → IsMoved (a ++ b) (a' ++ b')
  both {a} {a'} {b} {b'} ha hb = record {
    moved = numbers_at-append a b ∙ rw (ha.moved, hb.moved) (sym (map-append r.loc (numbers_at a') (numbers_at b'))) ∙ ap (map r.loc) (sym (numbers_at-append a' b'));
  }

  -- a register or a label, an `@` name, and what stands behind them
  led : {a a' : List Place} (at : Loc) → IsMoved a a' → IsMoved (Local (renamed_loc r at) ∷ a) (Local at ∷ a')
  led at rest = record { moved = ap (λ l. r.loc at.0 ∷ l) rest.moved }

  named : {a a' : List Place} (sym : Sym) → IsMoved a a' → IsMoved (Global (renamed_sym r sym) ∷ a) (Global sym ∷ a')
  named sym rest = record { moved = rest.moved }

  each : {A : Type 0} (places : A → List Place) (renamed : A → A) → ((tree : A) → IsMoved (places (renamed tree)) (places tree)) → (trees : List A) → IsMoved (flat_map places (map renamed trees)) (flat_map places trees)
  each places renamed moved [] = nothing
  each places renamed moved (tree ∷ trees) = both (moved tree) (each places renamed moved trees)

  maybe : {A : Type 0} (places : A → List Place) (renamed : A → A) → ((tree : A) → IsMoved (places (renamed tree)) (places tree)) → (tree : Option A) → IsMoved (places_of_option places (renamed_option renamed tree)) (places_of_option places tree)
  maybe places renamed moved None = nothing
  maybe places renamed moved (Some tree) = moved tree

  type-moved : (ty : Ty) → IsMoved (places_of_ty (renamed_ty r ty)) (places_of_ty ty)
  type-moved ty = record { moved = type-bare (renamed_ty r ty) ∙ ap (map r.loc) (sym (type-bare ty)) }

  val-moved : (val : Val) → IsMoved (places_of_val (renamed_val r val)) (places_of_val val)
  val-moved (values.Reg at) = led at nothing
  val-moved (values.Int n) = nothing
  val-moved values.Null = nothing
  val-moved (values.Global sym) = named sym nothing
  val-moved (values.Gep gep) = both (type-moved gep.base) (named gep.sym nothing)

  result-moved : (at : Option Loc) → IsMoved (places_of_option (λ at. Local at ∷ []) (renamed_option (renamed_loc r) at)) (places_of_option (λ at. Local at ∷ []) at)
  result-moved = maybe (λ at. Local at ∷ []) (renamed_loc r) (λ at. led at nothing)

  args-moved : (args : List (Ty × Val)) → IsMoved (places_of_args (renamed_args r args)) (places_of_args args)
  args-moved = each _ _ (λ arg. both (type-moved arg.0) (val-moved arg.1))

  arms-moved : (arms : List (Val × Loc)) → IsMoved (places_of_arms (renamed_arms r arms)) (places_of_arms arms)
  arms-moved = each _ _ (λ arm. both (val-moved arm.0) (led arm.1 nothing))

  cases-moved : (cases : List (ℕ × Loc)) → IsMoved (places_of_cases (renamed_cases r cases)) (places_of_cases cases)
  cases-moved = each _ _ (λ case. led case.1 nothing)

  index-moved : (indices : List (Width × Val)) → IsMoved (places_of_index (renamed_index r indices)) (places_of_index indices)
  index-moved = each _ _ (λ index. val-moved index.1)

  inst-moved : (inst : Inst) → IsMoved (places_of_inst (renamed_inst r inst)) (places_of_inst inst)
  inst-moved (insts.Bin dst op flags w a b) = led dst (both (val-moved a) (val-moved b))
  inst-moved (insts.Cmp dst pred ty a b) = led dst (both (both (type-moved ty) (val-moved a)) (val-moved b))
  inst-moved (insts.Select dst cond ty a b) = led dst (both (both (both (val-moved cond) (type-moved ty)) (val-moved a)) (val-moved b))
  inst-moved (insts.Cast dst op from a to) = led dst (both (both (type-moved from) (val-moved a)) (type-moved to))
  inst-moved (insts.Gep dst base ptr index) = led dst (both (both (type-moved base) (val-moved ptr)) (index-moved index))
  inst-moved (insts.Alloca dst ty) = led dst (type-moved ty)
  inst-moved (insts.Load dst ty ptr atomic) = led dst (both (type-moved ty) (val-moved ptr))
  inst-moved (insts.Store ty val ptr atomic) = both (both (type-moved ty) (val-moved val)) (val-moved ptr)
  inst-moved (insts.Rmw dst op ptr ty val) = led dst (both (both (val-moved ptr) (type-moved ty)) (val-moved val))
  inst-moved (insts.CmpXchg dst ptr ty old new) = led dst (both (both (both (val-moved ptr) (type-moved ty)) (val-moved old)) (val-moved new))
  inst-moved insts.Fence = nothing
  inst-moved (insts.Extract dst elem pair index) = led dst (both (type-moved elem) (led pair nothing))
  inst-moved (insts.Call dst ret callee args) = both (both (both (result-moved dst) (type-moved ret)) (named callee nothing)) (args-moved args)
  inst-moved (insts.Phi dst ty arms) = led dst (both (type-moved ty) (arms-moved arms))
  inst-moved (insts.Br to) = led to nothing
  inst-moved (insts.CondBr cond on_true on_false) = both (both (val-moved cond) (led on_true nothing)) (led on_false nothing)
  inst-moved (insts.Switch ty on default cases) = both (both (both (type-moved ty) (val-moved on)) (led default nothing)) (cases-moved cases)
  inst-moved (insts.Ret ty val) = both (type-moved ty) (maybe places_of_val (renamed_val r) val-moved val)
  inst-moved insts.Unreachable = nothing

  block-moved : (block : Block) → IsMoved (places_of_block (renamed_block r block)) (places_of_block block)
  block-moved block = led block.label (each places_of_inst (renamed_inst r) inst-moved block.insts)

  mentions-moved : (f : FuncParts) → IsMoved (mentions_of_func (renamed_func r f)) (mentions_of_func f)
  mentions-moved f =
      both (both (both (type-moved f.ret) (named f.sym nothing)) (each _ _ (λ param. both (type-moved param.0) (led param.1 nothing)) f.params))
      (each places_of_block (renamed_block r) block-moved f.blocks)

-- ---- names that a table has change nothing

-- whether the table has each of the names
abbrev has_all : List (List ℕ) → List (List ℕ) → Bool
has_all table names = list_all (λ name. nat_lt (number_given table name) (length table)) names

below : (a b : ℕ) → nat_lt a b ≡ true → a < b
below a b e = grind (arith, nat_tests)

with_names-known : (table names : List (List ℕ)) → has_all table names ≡ true → with_names table names ≡ table
unfolding with_names
with_names-known table [] e = refl
with_names-known table (name ∷ names) e =
    let parts = and_parts (nat_lt (number_given table name) (length table)) (has_all table names) e in
    ap (λ t. with_names t names) (numbered-known table name (below (number_given table name) (length table) parts.0)) ∙ with_names-known table names parts.1

-- ---- functions

-- the names of registers and labels at places are those that begin at their numbers
locals_at-is : (text : List ℕ) (places : List Place) → locals_at text places ≡ map (name_from text) (numbers_at places)
locals_at-is text [] = refl
locals_at-is text (Local at ∷ places) = ap (λ l. name_from text at.0 ∷ l) (locals_at-is text places)
locals_at-is text (Struct id ∷ places) = locals_at-is text places
locals_at-is text (Global sym ∷ places) = locals_at-is text places

below-is : (count : ℕ) (places : List Place) → list_all (is_below count) places ≡ list_all (λ n. nat_lt n count) (numbers_at places)
below-is count [] = refl
below-is count (Local at ∷ places) = ap (λ b. nat_lt at.0 count && b) (below-is count places)
below-is count (Struct id ∷ places) = below-is count places
below-is count (Global sym ∷ places) = below-is count places

module _ (text : List ℕ) (m : ModuleParts) (tree : FuncParts) where
  abbrev names : List (List ℕ)
  names = with_names [] (locals_at text (definitions_of_func tree))

  abbrev r : Renaming
  r = renaming_of text m (record tree { names = names })

  known : is_closed (numbered_by text m (definitions_of_func tree) tree) ≡ true → has_all names (locals_at text (mentions_of_func tree)) ≡ true
  known closed =
      ap (has_all names) (locals_at-is text (mentions_of_func tree))
      ∙ list_all-map (λ name. nat_lt (number_given names name) (length names)) (name_from text) (numbers_at (mentions_of_func tree))
      ∙ sym (list_all-map (λ n. nat_lt n (length names)) r.loc (numbers_at (mentions_of_func tree)))
      ∙ ap (list_all (λ n. nat_lt n (length names))) (sym (mentions-moved r tree).moved)
      ∙ sym (below-is (length names) (mentions_of_func (renamed_func r tree))) ∙ closed

  -- what mentions only what it defines is numbered by its definitions alone
  pub closed-numbered : is_closed (numbered_by text m (definitions_of_func tree) tree) ≡ true → numbered_by text m (definitions_of_func tree) tree ≡ numbered_func text m tree
  closed-numbered closed =
      ap (λ names. record (renamed_func (renaming_of text m (record tree { names = names })) tree) { names = names })
      (sym (with_names-known names (locals_at text (mentions_of_func tree)) (known closed))
      ∙ sym (with_names-append [] (locals_at text (definitions_of_func tree)) (locals_at text (mentions_of_func tree)))
      ∙ ap (with_names []) (sym (locals_at-append text (definitions_of_func tree) (mentions_of_func tree))))

  pub closed-is : (places : List Place) (f : FuncParts) → places ≡ definitions_of_func tree → f ≡ numbered_by text m places tree → is_closed f ≡ true → f ≡ numbered_func text m tree
  closed-is places f is by closed =
      let defined : f ≡ numbered_by text m (definitions_of_func tree) tree = by ∙ ap (λ ps. numbered_by text m ps tree) is in
      defined ∙ closed-numbered (ap is_closed (sym defined) ∙ closed)
