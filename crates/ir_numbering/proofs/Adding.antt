-- A module, or a block of a function, to which the numbered parts of a tree are added one after another.
use Rattle.std.proofs.Common.{◌≡◌, ℕ, ◌+◌, ◌<◌, List, [], ◌∷◌, ◌++◌, length, get_or, take, map, ap, sym, ◌∙◌, refl}
use Rattle.std.proofs.lemmas.List.{append_assoc, map-append, take_more}
use Rattle.ir_core.specs.declared.types.Sym.{Sym}
use Rattle.ir_core.specs.declared.types.TypeId.{TypeId}
use Rattle.ir_core.specs.declared.types.Ty.{Ty}
use Rattle.ir_core.specs.declared.values.GlobalVar.{GlobalVar}
use Rattle.ir_core.specs.declared.values.Declare.{Declare}
use Rattle.ir_core.specs.declared.types.Loc.{Loc}
use Rattle.ir_core.specs.declared.instruction.Inst.{Inst}
use Rattle.ir_core.specs.declared.instruction.Block.{Block}
use Rattle.ir_core.specs.Module.{ModuleParts, FuncParts, empty_module, empty_func, with_inst}
use Rattle.ir_core.proofs.Blocks.{with_inst-append}
use Rattle.ir_numbering.specs.declared.places.Place.{Place}
use Rattle.ir_numbering.specs.Renaming.{renamed_global, renamed_declare, renamed_sym, renamed_ty, renamed_inst, renamed_block, renamed_param}
use Rattle.ir_numbering.specs.Numbers.{renaming_of, filled_by, numbered_by, func_with, renaming_outside, module_with, numbered_func, renamed_named, parts_by}

-- What is made of a part by the module or function at hand is what the first one makes of it, since only its tables count.
module _ {A S : Type 0} (M : S) (put : List A → S) (add : S → A → S) (g : S → A → A)
    (same : (l : List A) (a : A) → g (put l) a ≡ g M a) (added : (l : List A) (x : A) → add (put l) x ≡ put (l ++ x ∷ [])) (items : List A) where
  pub added-next : (m1 m2 : S) (i : ℕ) (item x : A) → i < length items → item ≡ get_or items i item → x ≡ g m1 item → m1 ≡ put (map (g M) (take i items)) → m2 ≡ add m1 x → m2 ≡ put (map (g M) (take (i + 1) items))
  added-next m1 m2 i item x h is made before here =
      here ∙ ap (λ (m : S). add m x) before ∙ added (map (g M) (take i items)) x
      ∙ ap (λ (y : A). put (map (g M) (take i items) ++ y ∷ [])) (made ∙ ap (λ (m : S). g m item) before ∙ same (map (g M) (take i items)) item ∙ ap (g M) is)
      ∙ ap put (sym (map-append (g M) (take i items) (get_or items i item ∷ [])) ∙ ap (map (g M)) (sym (take_more items i item h)))

module _ (text : List ℕ) (M : ModuleParts) where
  pub next_of_types : (items : List (TypeId × Ty)) (m1 m2 : ModuleParts) (i : ℕ) (item x : TypeId × Ty) → i < length items → item ≡ get_or items i item → x ≡ renamed_named (renaming_outside text m1) item
      → m1 ≡ record M { types = M.types ++ map (renamed_named (renaming_outside text M)) (take i items) } → m2 ≡ record m1 { types = m1.types ++ x ∷ [] } → m2 ≡ record M { types = M.types ++ map (renamed_named (renaming_outside text M)) (take (i + 1) items) }
  next_of_types = added-next M (λ (l : List (TypeId × Ty)). record M { types = M.types ++ l }) (λ (m : ModuleParts) (x : TypeId × Ty). record m { types = m.types ++ x ∷ [] }) (λ (m : ModuleParts). renamed_named (renaming_outside text m)) (λ l a. refl)
      (λ l x. ap (λ (z : List (TypeId × Ty)). record M { types = z }) (append_assoc M.types l (x ∷ [])))

  pub next_of_globals : (items : List (GlobalVar)) (m1 m2 : ModuleParts) (i : ℕ) (item x : GlobalVar) → i < length items → item ≡ get_or items i item → x ≡ renamed_global (renaming_outside text m1) item
      → m1 ≡ record M { globals = M.globals ++ map (renamed_global (renaming_outside text M)) (take i items) } → m2 ≡ record m1 { globals = m1.globals ++ x ∷ [] } → m2 ≡ record M { globals = M.globals ++ map (renamed_global (renaming_outside text M)) (take (i + 1) items) }
  next_of_globals = added-next M (λ (l : List (GlobalVar)). record M { globals = M.globals ++ l }) (λ (m : ModuleParts) (x : GlobalVar). record m { globals = m.globals ++ x ∷ [] }) (λ (m : ModuleParts). renamed_global (renaming_outside text m)) (λ l a. refl)
      (λ l x. ap (λ (z : List (GlobalVar)). record M { globals = z }) (append_assoc M.globals l (x ∷ [])))

  pub next_of_declares : (items : List (Declare)) (m1 m2 : ModuleParts) (i : ℕ) (item x : Declare) → i < length items → item ≡ get_or items i item → x ≡ renamed_declare (renaming_outside text m1) item
      → m1 ≡ record M { declares = M.declares ++ map (renamed_declare (renaming_outside text M)) (take i items) } → m2 ≡ record m1 { declares = m1.declares ++ x ∷ [] } → m2 ≡ record M { declares = M.declares ++ map (renamed_declare (renaming_outside text M)) (take (i + 1) items) }
  next_of_declares = added-next M (λ (l : List (Declare)). record M { declares = M.declares ++ l }) (λ (m : ModuleParts) (x : Declare). record m { declares = m.declares ++ x ∷ [] }) (λ (m : ModuleParts). renamed_declare (renaming_outside text m)) (λ l a. refl)
      (λ l x. ap (λ (z : List (Declare)). record M { declares = z }) (append_assoc M.declares l (x ∷ [])))

  pub next_of_funcs : (items : List (FuncParts)) (m1 m2 : ModuleParts) (i : ℕ) (item x : FuncParts) → i < length items → item ≡ get_or items i item → x ≡ numbered_func text m1 item
      → m1 ≡ record M { funcs = M.funcs ++ map (numbered_func text M) (take i items) } → m2 ≡ record m1 { funcs = m1.funcs ++ x ∷ [] } → m2 ≡ record M { funcs = M.funcs ++ map (numbered_func text M) (take (i + 1) items) }
  next_of_funcs = added-next M (λ (l : List (FuncParts)). record M { funcs = M.funcs ++ l }) (λ (m : ModuleParts) (x : FuncParts). record m { funcs = m.funcs ++ x ∷ [] }) (λ (m : ModuleParts). numbered_func text m) (λ l a. refl)
      (λ l x. ap (λ (z : List (FuncParts)). record M { funcs = z }) (append_assoc M.funcs l (x ∷ [])))

-- the new block of a function with one instruction more
module _ (text : List ℕ) (m : ModuleParts) (f : FuncParts) (label : Loc) where
  abbrev with_insts : List Inst → FuncParts
  with_insts insts = record f { blocks = f.blocks ++ record { label = label; insts = insts } ∷ [] }

  pub next_of_insts : (items : List Inst) (f1 f2 : FuncParts) (i : ℕ) (item x : Inst) → i < length items → item ≡ get_or items i item → x ≡ renamed_inst (renaming_of text m f1) item
      → f1 ≡ with_insts (map (renamed_inst (renaming_of text m f)) (take i items)) → f2 ≡ record f1 { blocks = with_inst f1.blocks x } → f2 ≡ with_insts (map (renamed_inst (renaming_of text m f)) (take (i + 1) items))
  next_of_insts = added-next f with_insts (λ (g : FuncParts) (x : Inst). record g { blocks = with_inst g.blocks x }) (λ (g : FuncParts). renamed_inst (renaming_of text m g)) (λ l a. refl)
      (λ l x. ap (λ (bs : List Block). record f { blocks = bs }) (with_inst-append f.blocks (record { label = label; insts = l }) x))

-- the blocks of a function
module _ (text : List ℕ) (m : ModuleParts) (f : FuncParts) where
  pub next_of_blocks : (items : List Block) (f1 f2 : FuncParts) (i : ℕ) (item : Block) → i < length items → item ≡ get_or items i item
      → f1 ≡ record f { blocks = f.blocks ++ map (renamed_block (renaming_of text m f)) (take i items) } → f2 ≡ record f1 { blocks = f1.blocks ++ renamed_block (renaming_of text m f1) item ∷ [] }
      → f2 ≡ record f { blocks = f.blocks ++ map (renamed_block (renaming_of text m f)) (take (i + 1) items) }
  next_of_blocks items f1 f2 i item h is before here =
      added-next f (λ (l : List Block). record f { blocks = f.blocks ++ l }) (λ (g : FuncParts) (x : Block). record g { blocks = g.blocks ++ x ∷ [] }) (λ (g : FuncParts). renamed_block (renaming_of text m g)) (λ l a. refl)
      (λ l x. ap (λ (z : List Block). record f { blocks = z }) (append_assoc f.blocks l (x ∷ []))) items f1 f2 i item (renamed_block (renaming_of text m f1) item) h is refl before here

-- a function that takes names, then parameters, then blocks
pub filled_func : (text : List ℕ) (m : ModuleParts) (tree : FuncParts) (places : List Place) (params : List (Ty × Loc)) (blocks : List Block) (f0 f1 f2 f3 : FuncParts) → params ≡ tree.params → blocks ≡ tree.blocks
    → f1 ≡ func_with text places f0
    → f2 ≡ record f1 { params = f1.params ++ map (renamed_param (renaming_of text m f1)) params }
    → f3 ≡ record f2 { blocks = f2.blocks ++ map (renamed_block (renaming_of text m f2)) blocks }
    → f3 ≡ filled_by text m tree places f0
filled_func text m tree places params blocks f0 f1 f2 f3 of_params of_blocks e1 e2 e3 =
    e3 ∙ ap (λ (f : FuncParts). record f { blocks = f.blocks ++ map (renamed_block (renaming_of text m f)) blocks })
    (e2 ∙ ap (λ (f : FuncParts). record f { params = f.params ++ map (renamed_param (renaming_of text m f)) params }) e1)
    ∙ ap (λ (l : List (Ty × Loc)). filled_by text m (record tree { params = l; blocks = blocks }) places f0) of_params
    ∙ ap (λ (l : List Block). filled_by text m (record tree { blocks = l }) places f0) of_blocks

pub numbered_by-filled : (text : List ℕ) (m : ModuleParts) (tree : FuncParts) (places : List Place) (own : Sym) (back : Ty) (f0 f1 : FuncParts) → own ≡ renamed_sym (renaming_outside text m) tree.sym → back ≡ renamed_ty (renaming_outside text m) tree.ret
    → f0 ≡ empty_func own back → f1 ≡ filled_by text m tree places f0 → f1 ≡ numbered_by text m places tree
numbered_by-filled text m tree places own back f0 f1 of_sym of_ret e0 e1 =
    e1 ∙ ap (filled_by text m tree places) (e0 ∙ ap (λ (s : Sym). empty_func s back) of_sym ∙ ap (empty_func (renamed_sym (renaming_outside text m) tree.sym)) of_ret)

-- the parts one after another, each by the module at hand
pub filled : (text : List ℕ) (places : List Place) (tree : ModuleParts) (types : List (TypeId × Ty)) (globals : List GlobalVar) (declares : List Declare) (funcs : List FuncParts) (m0 m1 m2 m3 m4 : ModuleParts)
    → types ≡ tree.types → globals ≡ tree.globals → declares ≡ tree.declares → funcs ≡ tree.funcs → m0 ≡ module_with text places empty_module
    → m1 ≡ record m0 { types = m0.types ++ map (renamed_named (renaming_outside text m0)) types }
    → m2 ≡ record m1 { globals = m1.globals ++ map (renamed_global (renaming_outside text m1)) globals }
    → m3 ≡ record m2 { declares = m2.declares ++ map (renamed_declare (renaming_outside text m2)) declares }
    → m4 ≡ record m3 { funcs = m3.funcs ++ map (numbered_func text m3) funcs }
    → m4 ≡ parts_by text (module_with text places empty_module) tree
filled text places tree types globals declares funcs m0 m1 m2 m3 m4 of_types of_globals of_declares of_funcs e0 e1 e2 e3 e4 =
    (e4 ∙ ap (λ (m : ModuleParts). record m { funcs = m.funcs ++ map (numbered_func text m) funcs })
    (e3 ∙ ap (λ (m : ModuleParts). record m { declares = m.declares ++ map (renamed_declare (renaming_outside text m)) declares })
    (e2 ∙ ap (λ (m : ModuleParts). record m { globals = m.globals ++ map (renamed_global (renaming_outside text m)) globals })
    (e1 ∙ ap (λ (m : ModuleParts). record m { types = m.types ++ map (renamed_named (renaming_outside text m)) types }) e0))))
    ∙ ap (λ (l : List (TypeId × Ty)). parts_by text table (record tree { types = l; globals = globals; declares = declares; funcs = funcs })) of_types
    ∙ ap (λ (l : List GlobalVar). parts_by text table (record tree { globals = l; declares = declares; funcs = funcs })) of_globals
    ∙ ap (λ (l : List Declare). parts_by text table (record tree { declares = l; funcs = funcs })) of_declares
    ∙ ap (λ (l : List FuncParts). parts_by text table (record tree { funcs = l })) of_funcs
  where
    table : ModuleParts
    table = module_with text places empty_module
