-- A module under other numbers of its names, none of which become one: its layout, its callees and its `main` are where they were.
--
-- Choices: this is what `IsSameModule` gives where no two names of a table have one number. A function's registers and labels have a numbering of
-- their own, told here for every number, so that it may be used without a function.
use Rattle.std.proofs.Common.{ℕ, zero, suc, ◌≡◌, ◌∙◌, ◌+◌, Bool, not, cond, List, [], ◌∷◌, map, length, Option, Some, None, slice_get, refl, ap, sym as flip, subst, arith}
use Rattle.std.specs.Prelude.{nat_eq, unwrap_or}
use Rattle.std.specs.List.{slice_index_or, range_with_len, position, position_or_len}
use Rattle.std.specs.Option.{option_map_or}
use Rattle.std.proofs.lemmas.Option.{unwrap_or-slice_get}
use Rattle.ir_core.specs.declared.types.Ty.{Ty}
use Rattle.ir_core.specs.declared.types.Ty.TheVariants as types
use Rattle.ir_core.specs.declared.types.Sym.{Sym}
use Rattle.ir_core.specs.declared.types.Loc.{Loc}
use Rattle.ir_core.specs.declared.types.Width.TheVariants.{W32}
use Rattle.ir_core.specs.Module.{ModuleParts, FuncParts}
use Rattle.ir_layout.specs.Memory.{LayoutParts, layout_of, globals_start}
use Rattle.ir_layout.specs.declared.spans.Span.{Span}
use Rattle.ir_lines.specs.SameTypes.{same_ty}
use Rattle.ir_check.specs.Functions.{is_empty, is_main}
use Rattle.ir_numbering.specs.Renaming.{Renaming, renamed_loc, renamed_sym, renamed_ty, renamed_block, renamed_param, renamed_func, renamed_global, renamed_declare}
use Rattle.ir_numbering.specs.Numbers.{renamed_named}
use Rattle.inst_meaning.specs.declared.actions.Callee.{Callee}
use Rattle.inst_meaning.specs.declared.actions.Callee.TheVariants.{Unknown}
use Rattle.inst_meaning.specs.Action.{numbered_function, callee_of, callees_of}
use Rattle.src_meaning.specs.State.{blocks_at, params_at, main_of}
use Rattle.renamed_modules.proofs.RenamedTypes.{IsApart, same-test, type-same, int-again}
use Rattle.renamed_modules.proofs.RenamedMemory.{renamed_layout, spans-same}

-- ---- modules

-- the functions with a number
abbrev pub IsRenamedAt : Renaming → Option FuncParts → Option FuncParts → Type 0
IsRenamedAt r None None = Unit {0}
IsRenamedAt r None (Some g) = ⊥
IsRenamedAt r (Some f) None = ⊥
IsRenamedAt r (Some f) (Some g) = g ≡ record (renamed_func r f) { names = g.names }

pub record Renames (m other : ModuleParts) : Type 0 where
  pub outer : Renaming
  pub loc : ℕ → ℕ → ℕ
  pub type_apart : IsApart outer.type_id
  pub sym_apart : IsApart outer.sym
  pub loc_apart : (n : ℕ) → IsApart (loc n)
  pub types : other.types ≡ map (renamed_named outer) m.types
  pub globals : other.globals ≡ map (renamed_global outer) m.globals
  pub declares : other.declares ≡ map (renamed_declare outer) m.declares
  pub count : length other.funcs ≡ length m.funcs
  pub funcs : (n : ℕ) → IsRenamedAt (record outer { loc = loc n }) (slice_get m.funcs n) (slice_get other.funcs n)
  pub names : (n : ℕ) → slice_get other.syms (outer.sym n) ≡ slice_get m.syms n

-- ---- positions in two lists

lens-same : {A B : Type 0} (p : A → Bool) (q : B → Bool) (xs : List A) (ys : List B) → length ys ≡ length xs
    → ((n : ℕ) (x : A) (y : B) → slice_get xs n ≡ Some x → slice_get ys n ≡ Some y → q y ≡ p x) → position_or_len q ys ≡ position_or_len p xs
lens-same p q [] [] count same = refl
lens-same p q [] (y ∷ ys) count same = absurd (omega (arith, count))
lens-same p q (x ∷ xs) [] count same = absurd (omega (arith, count))
lens-same p q (x ∷ xs) (y ∷ ys) count same =
    let rest = lens-same p q xs ys (omega (arith, count)) (λ n a b at there. same (suc n) a b at there) in
    ap (λ (n : ℕ). cond (not (q y)) (1 + n) 0) rest ∙ ap (λ (b : Bool). cond (not b) (1 + position_or_len p xs) 0) (same 0 x y refl refl)

pub position-same : {A B : Type 0} (p : A → Bool) (q : B → Bool) (xs : List A) (ys : List B) → length ys ≡ length xs
    → ((n : ℕ) (x : A) (y : B) → slice_get xs n ≡ Some x → slice_get ys n ≡ Some y → q y ≡ p x) → position q ys ≡ position p xs
position-same p q xs ys count same = rw (lens-same p q xs ys count same, count) refl

-- ---- callees

-- a table by numbers has an entry for each item of a list
table-at : {A C : Type 0} (make : ℕ → C) (d : C) (xs : List A) (start k : ℕ)
    → slice_index_or (map make (range_with_len start (length xs))) k d ≡ option_map_or (λ x. make (start + k)) (slice_get xs k) d
table-at make d [] start k = refl
table-at make d (x ∷ xs) start zero = let same : start ≡ start + 0 = omega arith in ap make same
table-at make d (x ∷ xs) start (suc k) = let same : start + 1 + k ≡ start + suc k = omega arith in
    table-at make d xs (start + 1) k ∙ ap (λ (n : ℕ). option_map_or (λ x. make n) (slice_get xs k) d) same

-- ---- parameters

none-same : {A B : Type 0} (f : A → B) (xs : List A) → is_empty (map f xs) ≡ is_empty xs
none-same f [] = refl
none-same f (x ∷ xs) = refl

module _ (m other : ModuleParts) (r : Renames m other) where
  -- the renaming inside a function
  abbrev pub inside : ℕ → Renaming
  inside n = record r.outer { loc = r.loc n }

  pub layout-same : layout_of other ≡ renamed_layout r.outer r.type_apart r.sym_apart (layout_of m)
  layout-same = rw (r.types, r.globals) (ap (λ (spans : List Span). let l : LayoutParts = record { types = map (renamed_named r.outer) m.types; globals = spans } in l)
      (spans-same r.outer r.type_apart m.types globals_start m.globals))

  -- ---- functions

  pub func-at : (n : ℕ) (f g : FuncParts) → slice_get m.funcs n ≡ Some f → slice_get other.funcs n ≡ Some g → g ≡ record (renamed_func (inside n) f) { names = g.names }
  func-at n f g at there = subst (λ (o : Option FuncParts). IsRenamedAt (inside n) o (Some g)) at (subst (λ (o : Option FuncParts). IsRenamedAt (inside n) (slice_get m.funcs n) o) there (r.funcs n))

  pub blocks-same : (n : ℕ) → blocks_at other.funcs n ≡ map (renamed_block (inside n)) (blocks_at m.funcs n)
  blocks-same n = by_func (slice_get m.funcs n) (slice_get other.funcs n) (r.funcs n)
    where
      by_func : (o p : Option FuncParts) → IsRenamedAt (inside n) o p
          → option_map_or (λ (f : FuncParts). f.blocks) p [] ≡ map (renamed_block (inside n)) (option_map_or (λ (f : FuncParts). f.blocks) o [])
      by_func None None is = refl
      by_func None (Some g) is = absurd is
      by_func (Some f) None is = absurd is
      by_func (Some f) (Some g) is = ap (λ (h : FuncParts). h.blocks) is

  pub params-same : (n : ℕ) → params_at other.funcs n ≡ map (renamed_loc (inside n)) (params_at m.funcs n)
  params-same n = by_func (slice_get m.funcs n) (slice_get other.funcs n) (r.funcs n)
    where
      locs : (params : List (Ty × Loc)) → map (λ (param : Ty × Loc). param.1) (map (renamed_param (inside n)) params) ≡ map (renamed_loc (inside n)) (map (λ (param : Ty × Loc). param.1) params)
      locs [] = refl
      locs (param ∷ params) = ap (λ (rest : List Loc). renamed_loc (inside n) param.1 ∷ rest) (locs params)

      by_func : (o p : Option FuncParts) → IsRenamedAt (inside n) o p
          → option_map_or (λ (f : FuncParts). map (λ param. param.1) f.params) p [] ≡ map (renamed_loc (inside n)) (option_map_or (λ (f : FuncParts). map (λ param. param.1) f.params) o [])
      by_func None None is = refl
      by_func None (Some g) is = absurd is
      by_func (Some f) None is = absurd is
      by_func (Some f) (Some g) is = ap (λ (h : FuncParts). map (λ (param : Ty × Loc). param.1) h.params) is ∙ locs f.params

  -- ---- `@` names

  pub name-same : (n : ℕ) → slice_index_or other.syms (r.outer.sym n) [] ≡ slice_index_or m.syms n []
  name-same n = flip (unwrap_or-slice_get other.syms (r.outer.sym n) []) ∙ ap (λ (o : Option (List ℕ)). unwrap_or o []) (r.names n) ∙ unwrap_or-slice_get m.syms n []

  numbered-same : (name : Sym) → numbered_function other (renamed_sym r.outer name) ≡ numbered_function m name
  numbered-same name = position-same (λ (f : FuncParts). nat_eq f.sym.0 name.0) (λ (g : FuncParts). nat_eq g.sym.0 (r.outer.sym name.0)) m.funcs other.funcs r.count
      (λ n f g at there. ap (λ (h : FuncParts). nat_eq h.sym.0 (r.outer.sym name.0)) (func-at n f g at there) ∙ same-test r.outer.sym r.sym_apart f.sym.0 name.0)

  callee-same : (name : Sym) → callee_of other (renamed_sym r.outer name) ≡ callee_of m name
  callee-same name = rw (numbered-same name, name-same name.0) refl

  pub callees-same : (k : ℕ) → slice_index_or (callees_of other) (r.outer.sym k) Unknown ≡ slice_index_or (callees_of m) k Unknown
  callees-same k =
      table-at (λ (n : ℕ). callee_of other (record { 0 = n })) Unknown other.syms 0 (r.outer.sym k)
      ∙ ap (λ (o : Option (List ℕ)). option_map_or (λ (x : List ℕ). callee_of other (record { 0 = 0 + r.outer.sym k })) o Unknown) (r.names k)
      ∙ ap (λ (callee : Callee). option_map_or (λ (x : List ℕ). callee) (slice_get m.syms k) Unknown) same
      ∙ flip (table-at (λ (n : ℕ). callee_of m (record { 0 = n })) Unknown m.syms 0 k)
    where
      same : callee_of other (record { 0 = 0 + r.outer.sym k }) ≡ callee_of m (record { 0 = 0 + k })
      same =
          let a : 0 + r.outer.sym k ≡ r.outer.sym k = omega arith in
          let b : k ≡ 0 + k = omega arith in
          ap (λ (n : ℕ). callee_of other (record { 0 = n })) a ∙ callee-same (record { 0 = k }) ∙ ap (λ (n : ℕ). callee_of m (record { 0 = n })) b

  -- ---- `main`

  pub main-of : (n : ℕ) (f g : FuncParts) → slice_get m.funcs n ≡ Some f → slice_get other.funcs n ≡ Some g → is_main other g ≡ is_main m f
  main-of n f g at there = ap (is_main other) (func-at n f g at there) ∙ rw (r.names f.sym.0, ap (same_ty (renamed_ty (inside n) f.ret)) (flip (int-again (inside n) r.type_apart W32)) ∙ type-same (inside n) r.type_apart f.ret (types.Int W32), none-same (renamed_param (inside n)) f.params) refl

  pub main-same : main_of other ≡ main_of m
  main-same = ap (λ (o : Option ℕ). unwrap_or o 0) (position-same (is_main m) (is_main other) m.funcs other.funcs r.count main-of)
