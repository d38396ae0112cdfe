-- The blocks of a hardened module end in their terminators, begin with their phis and have the edges of their source; so their phis fit.
use Rattle.std.proofs.Common.{ℕ, zero, suc, ◌≡◌, ◌∙◌, ◌+◌, ◌-◌, Bool, true, false, ◌||◌, ◌&&◌, not, List, [], ◌∷◌, ◌++◌, map, length, slice_get, Option, Some, None, refl, ap, sym, subst, arith, append_assoc, append-nil}
use mathlib.Core.Path.{fun_ext}
use Rattle.std.specs.Prelude.{nat_eq, ◌==◌, if◌then◌else◌}
use Rattle.std.specs.List.{flat_map, filter_map, list_all, list_any}
use Rattle.std.specs.Option.{option_map, option_map_or, option_or}
use Rattle.std.proofs.lemmas.List.{map-append}
use Rattle.std.proofs.lemmas.List.Folds.{list_any-append}
use Rattle.ir_core.proofs.Lengths.{both_true}
use Rattle.ir_core.specs.declared.types.Ty.{Ty}
use Rattle.ir_core.specs.declared.types.Loc.{Loc}
use Rattle.ir_core.specs.declared.values.Side.{Side}
use Rattle.ir_core.specs.declared.values.Side.TheVariants.{M}
use Rattle.ir_core.specs.declared.values.Val.{Val}
use Rattle.ir_core.specs.declared.instruction.Inst.{Inst}
use Rattle.ir_core.specs.declared.instruction.Inst.TheVariants as insts
use Rattle.ir_core.specs.declared.instruction.Block.{Block}
use Rattle.ir_core.specs.Module.{ModuleParts, FuncParts}
use Rattle.ir_flow.specs.Edges.{labels_of, last_labels, numbered_from, number_of, edge_to, edges_of_block, edges_from, edges_of, is_loop_head}
use Rattle.ir_flow.specs.Paths.{IsEdge}
use Rattle.ir_flow.specs.Phis.{IsFitting, PhiAt, phis_of_body, phis_from, AllFitting}
use Rattle.ir_lines.specs.Lines.{BlockLine}
use Rattle.ir_check.specs.Blocks.{is_terminator, ends_well, begins_well, terminators_keep, entries_keep}
use Rattle.ir_core.specs.Instructions.{is_phi}
use Rattle.ir_check.specs.Flows.{OfAll, PhisFit}
use Rattle.hard_ir.specs.declared.instruction.HInst.{HInst}
use Rattle.hard_ir.specs.declared.instruction.HInst.TheVariants.{Do}
use Rattle.hard_ir.specs.Image.{Table, copy_of, phi_image}
use Rattle.hard_ir.specs.Hardened.{at_entry, at_head, hard_block, hard_blocks, hardened_by}
use Rattle.hard_ir.specs.Fit.{HardFunc, hard_funcs, plain_inst, plain_block, plain_func, plain_line, outer_lines}
use Rattle.ir_check.proofs.Members.{all-in}
use Rattle.hard_laws.proofs.Images.{phi-unflagged, is_quiet, IsPart, AreParts, EndsAs, IsTable}
use Rattle.hard_laws.proofs.HardLines.{EachKeeps, IsBlockOf, hard_of, hard-funcs, both}
use Rattle.hard_laws.proofs.Accepted.{Sound, block-line, of-code, outer-line}

any-both : {A : Type 0} (p : A → Bool) (xs ys : List A) → list_any p xs ≡ false → list_any p ys ≡ false → list_any p (xs ++ ys) ≡ false
any-both p xs ys e f = list_any-append p xs ys ∙ ap (λ (b : Bool). b || list_any p ys) e ∙ f

any-map : {A B : Type 0} (p : B → Bool) (f : A → B) (xs : List A) → list_any p (map f xs) ≡ list_any (λ x. p (f x)) xs
any-map p f [] = refl
any-map p f (x ∷ xs) = ap (λ (b : Bool). p (f x) || b) (any-map p f xs)

-- ---- bodies behind others

ends-cons : (x : Inst) (xs : List Inst) → is_terminator x ≡ false → ends_well xs ≡ true → ends_well (x ∷ xs) ≡ true
ends-cons x [] e f = cc
ends-cons x (y ∷ ys) e f = rw (e, f) refl

ends-behind : (xs ys : List Inst) → list_any is_terminator xs ≡ false → ends_well ys ≡ true → ends_well (xs ++ ys) ≡ true
ends-behind [] ys e f = f
ends-behind (x ∷ xs) ys e f = by_test (is_terminator x) refl e (ends-behind xs ys)
  where
    by_test : (b : Bool) → is_terminator x ≡ b → (b || list_any is_terminator xs) ≡ false → (list_any is_terminator xs ≡ false → ends_well ys ≡ true → ends_well (xs ++ ys) ≡ true) → ends_well (x ∷ (xs ++ ys)) ≡ true
    by_test true p e rest = cc
    by_test false p e rest = ends-cons x (xs ++ ys) p (rest e f)

labels-cons : (x : Inst) (xs : List Inst) → ends_well xs ≡ true → last_labels (x ∷ xs) ≡ last_labels xs
labels-cons x [] e = cc
labels-cons x (y ∷ ys) e =
    let place : length (x ∷ y ∷ ys) - 1 ≡ suc (length (y ∷ ys) - 1) = omega arith in
    ap (λ (k : ℕ). option_map_or labels_of (slice_get (x ∷ y ∷ ys) k) []) place

labels-behind : (xs ys : List Inst) → list_any is_terminator xs ≡ false → ends_well ys ≡ true → last_labels (xs ++ ys) ≡ last_labels ys
labels-behind [] ys e f = refl
labels-behind (x ∷ xs) ys e f = by_test (is_terminator x) refl e (labels-behind xs ys)
  where
    by_test : (b : Bool) → is_terminator x ≡ b → (b || list_any is_terminator xs) ≡ false → (list_any is_terminator xs ≡ false → ends_well ys ≡ true → last_labels (xs ++ ys) ≡ last_labels ys) → last_labels (x ∷ (xs ++ ys)) ≡ last_labels ys
    by_test true p e rest = cc
    by_test false p e rest = labels-cons x (xs ++ ys) (ends-behind xs ys e f) ∙ rest e f

-- the body ends as another one does
record EndsLike (body other : List Inst) : Type 0 where
  pub ends : ends_well body ≡ true
  pub labels : last_labels body ≡ last_labels other

like-behind : (xs ys other : List Inst) → list_any is_terminator xs ≡ false → EndsLike ys other → EndsLike (xs ++ ys) other
like-behind xs ys other e like = record { ends = ends-behind xs ys e like.ends; labels = labels-behind xs ys e like.ends ∙ like.labels }

begins-behind : (xs ys : List Inst) → list_all is_phi xs ≡ true → list_any is_phi ys ≡ false → begins_well (xs ++ ys) ≡ true
begins-behind [] [] e f = refl
begins-behind [] (y ∷ ys) e f = by_test (is_phi y) refl f
  where
    by_test : (b : Bool) → is_phi y ≡ b → (b || list_any is_phi ys) ≡ false → (if b then begins_well ys else not (list_any is_phi ys)) ≡ true
    by_test true p f = cc
    by_test false p f = ap not f
begins-behind (x ∷ xs) ys e f = let parts = both_true (is_phi x) (list_all is_phi xs) e in rw parts.0 (begins-behind xs ys parts.1 f)

phi-ends : (inst : Inst) → is_phi inst ≡ true → is_terminator inst ≡ false
phi-ends (insts.Phi dst ty arms) e = refl
phi-ends inst e = cc

-- ---- phis of both sides

phis-only : (body : List Inst) → list_all is_phi (map (λ (phi : Side × Inst). phi.1) (flat_map phi_image body)) ≡ true
phis-only [] = refl
phis-only (insts.Phi dst ty arms ∷ body) = phis-only body
phis-only (inst ∷ body) = phis-only body

phis-end : (body : List Inst) → list_any is_terminator (map (λ (phi : Side × Inst). phi.1) (flat_map phi_image body)) ≡ false
phis-end [] = refl
phis-end (insts.Phi dst ty arms ∷ body) = phis-end body
phis-end (inst ∷ body) = phis-end body

-- ---- what does no instruction of the source

copies-end : (p : Inst → Bool) (params : List (Ty × Loc)) → p insts.Fence ≡ false → list_any p (map plain_inst (map copy_of params)) ≡ false
copies-end p [] e = refl
copies-end p (x ∷ xs) e = rw e (copies-end p xs e)

quiet-end : (p : Inst → Bool) (items : List HInst) → p insts.Fence ≡ false → list_all is_quiet items ≡ true → list_any p (map plain_inst items) ≡ false
quiet-end p [] e q = refl
quiet-end p (item ∷ items) e q = by_item item (both_true (is_quiet item) (list_all is_quiet items) q).0 (quiet-end p items e (both_true (is_quiet item) (list_all is_quiet items) q).1)
  where
    by_item : (item : HInst) → is_quiet item ≡ true → list_any p (map plain_inst items) ≡ false → list_any p (map plain_inst (item ∷ items)) ≡ false
    by_item (Do side inst retires) q rest = cc
    by_item item q rest = rw e rest

parts-phi : (inst : Inst) (items : List HInst) → is_phi inst ≡ false → AreParts inst items → list_any is_phi (map plain_inst items) ≡ false
parts-phi inst [] e parts = refl
parts-phi inst (item ∷ items) e parts = by_item item parts.0 (parts-phi inst items e parts.1)
  where
    by_item : (item : HInst) → IsPart inst item → list_any is_phi (map plain_inst items) ≡ false → list_any is_phi (map plain_inst (item ∷ items)) ≡ false
    by_item (Do side other retires) (same, retire) rest = let none : is_phi other ≡ false = ap is_phi same ∙ phi-unflagged inst ∙ e in rw none rest
    by_item item part rest = rest

module _ (table : Table) (is : IsTable table) where
  image-phi : (inst : Inst) → list_any is_phi (map plain_inst (table.image inst)) ≡ false
  image-phi inst = by_kind (is_phi inst) refl
    where
      by_kind : (b : Bool) → is_phi inst ≡ b → list_any is_phi (map plain_inst (table.image inst)) ≡ false
      by_kind true e = ap (λ (items : List HInst). list_any is_phi (map plain_inst items)) (is.phi inst e)
      by_kind false e = parts-phi inst (table.image inst) e (is.image inst e).parts

  images-phi : (body : List Inst) → list_any is_phi (map plain_inst (flat_map table.image body)) ≡ false
  images-phi [] = refl
  images-phi (inst ∷ body) =
      ap (list_any is_phi) (map-append plain_inst (table.image inst) (flat_map table.image body))
      ∙ any-both is_phi (map plain_inst (table.image inst)) (map plain_inst (flat_map table.image body)) (image-phi inst) (images-phi body)

  image-free : (inst : Inst) → is_terminator inst ≡ false → list_any is_terminator (map plain_inst (table.image inst)) ≡ false
  image-free inst t = by_kind (is_phi inst) refl
    where
      by_kind : (b : Bool) → is_phi inst ≡ b → list_any is_terminator (map plain_inst (table.image inst)) ≡ false
      by_kind true e = ap (λ (items : List HInst). list_any is_terminator (map plain_inst items)) (is.phi inst e)
      by_kind false e = any-map is_terminator plain_inst (table.image inst) ∙ subst (λ (b : Bool). EndsAs b inst (table.image inst)) t (is.image inst e).ends

  last-like : (inst : Inst) → is_terminator inst ≡ true → EndsLike (map plain_inst (table.image inst ++ [])) (inst ∷ [])
  last-like inst t = by_kind (is_phi inst) refl
    where
      by_end : EndsAs true inst (table.image inst) → EndsLike (map plain_inst (table.image inst ++ [])) (inst ∷ [])
      by_end (front, same, free) =
          let whole : map plain_inst (table.image inst ++ []) ≡ map plain_inst front ++ inst ∷ [] = ap (map plain_inst) (append-nil (table.image inst) ∙ same) ∙ map-append plain_inst front (Do M inst true ∷ []) in
          let like : EndsLike (inst ∷ []) (inst ∷ []) = record { ends = t; labels = refl } in
          subst (λ (xs : List Inst). EndsLike xs (inst ∷ [])) (sym whole) (like-behind (map plain_inst front) (inst ∷ []) (inst ∷ []) (any-map is_terminator plain_inst front ∙ free) like)

      by_kind : (b : Bool) → is_phi inst ≡ b → EndsLike (map plain_inst (table.image inst ++ [])) (inst ∷ [])
      by_kind true e = absurd (let clash : false ≡ true = sym (phi-ends inst e) ∙ t in cc)
      by_kind false e = by_end (subst (λ (b : Bool). EndsAs b inst (table.image inst)) t (is.image inst e).ends)

  images-like : (body : List Inst) → ends_well body ≡ true → EndsLike (map plain_inst (flat_map table.image body)) body
  images-like [] e = absurd cc
  images-like (inst ∷ []) e = last-like inst e
  images-like (inst ∷ next ∷ body) e =
      let parts = both_true (not (is_terminator inst)) (ends_well (next ∷ body)) e in
      let free : is_terminator inst ≡ false = by_test (is_terminator inst) parts.0 in
      let rest = images-like (next ∷ body) parts.1 in
      let like = like-behind (map plain_inst (table.image inst)) (map plain_inst (flat_map table.image (next ∷ body))) (next ∷ body) (image-free inst free) rest in
      let own : EndsLike (map plain_inst (table.image inst) ++ map plain_inst (flat_map table.image (next ∷ body))) (inst ∷ next ∷ body) =
      record { ends = like.ends; labels = like.labels ∙ sym (labels-cons inst (next ∷ body) parts.1) } in
      subst (λ (xs : List Inst). EndsLike xs (inst ∷ next ∷ body)) (sym (map-append plain_inst (table.image inst) (flat_map table.image (next ∷ body)))) own
    where
      by_test : (b : Bool) → not b ≡ true → b ≡ false
      by_test true e = cc
      by_test false e = refl

  entry-free : (p : Inst → Bool) (f : FuncParts) (b : ℕ) → p insts.Fence ≡ false → list_any p (map plain_inst (at_entry table f b)) ≡ false
  entry-free p f zero e =
      let entry = is.entry f.params in
      ap (λ (items : List HInst). list_any p (map plain_inst items)) entry.1 ∙ ap (list_any p) (map-append plain_inst (map copy_of f.params) entry.0)
      ∙ any-both p (map plain_inst (map copy_of f.params)) (map plain_inst entry.0) (copies-end p f.params e) (quiet-end p entry.0 e entry.2)
  entry-free p f (suc b) e = refl

  head-free : (p : Inst → Bool) (t : Bool) → p insts.Fence ≡ false → list_any p (map plain_inst (at_head table t)) ≡ false
  head-free p true e = quiet-end p table.head e is.head
  head-free p false e = refl

  -- ---- one block

  module _ (f : FuncParts) (b : ℕ) (block : Block) where
    abbrev loops : Bool
    loops = is_loop_head (edges_of f).pairs b

    abbrev before : List Inst
    before = map plain_inst (at_entry table f b) ++ map plain_inst (at_head table loops)

    list-is : map plain_inst (hard_block table f b block).list ≡ before ++ map plain_inst (flat_map table.image block.insts)
    list-is =
        map-append plain_inst (at_entry table f b) (at_head table loops ++ flat_map table.image block.insts)
        ∙ ap (λ (rest : List Inst). map plain_inst (at_entry table f b) ++ rest) (map-append plain_inst (at_head table loops) (flat_map table.image block.insts))
        ∙ sym (append_assoc (map plain_inst (at_entry table f b)) (map plain_inst (at_head table loops)) (map plain_inst (flat_map table.image block.insts)))

    before-free : (p : Inst → Bool) → p insts.Fence ≡ false → list_any p before ≡ false
    before-free p e = any-both p (map plain_inst (at_entry table f b)) (map plain_inst (at_head table loops)) (entry-free p f b e) (head-free p loops e)

    list-phi : list_any is_phi (map plain_inst (hard_block table f b block).list) ≡ false
    list-phi = ap (list_any is_phi) list-is ∙ any-both is_phi before (map plain_inst (flat_map table.image block.insts)) (before-free is_phi refl) (images-phi block.insts)

    block-like : ends_well block.insts ≡ true → EndsLike (plain_block (hard_block table f b block)).insts block.insts
    block-like e =
        like-behind (map (λ (phi : Side × Inst). phi.1) (flat_map phi_image block.insts)) (map plain_inst (hard_block table f b block).list) block.insts (phis-end block.insts)
        (subst (λ (xs : List Inst). EndsLike xs block.insts) (sym list-is) (like-behind before (map plain_inst (flat_map table.image block.insts)) block.insts (before-free is_terminator refl) (images-like block.insts e)))

    block-begins : begins_well (plain_block (hard_block table f b block)).insts ≡ true
    block-begins = begins-behind (map (λ (phi : Side × Inst). phi.1) (flat_map phi_image block.insts)) (map plain_inst (hard_block table f b block).list) (phis-only block.insts) list-phi

  -- ---- edges

  abbrev pub plain_blocks : FuncParts → ℕ → List Block → List Block
  plain_blocks f b blocks = map plain_block (hard_blocks table f b blocks)

  numbers-same : (f : FuncParts) (b k : ℕ) (blocks : List Block) (at : Loc) → numbered_from k (plain_blocks f b blocks) at ≡ numbered_from k blocks at
  numbers-same f b k [] at = refl
  numbers-same f b k (block ∷ blocks) at = ap (λ (o : Option ℕ). option_or o (if nat_eq block.label.0 at.0 then Some k else None)) (numbers-same f (b + 1) (k + 1) blocks at)

  number-same : (f : FuncParts) → number_of (plain_blocks f 0 f.blocks) ≡ number_of f.blocks
  number-same f = fun_ext (λ at. numbers-same f 0 0 f.blocks at)

  edges-same : (f : FuncParts) (all other : List Block) (b k : ℕ) (blocks : List Block) → number_of all ≡ number_of other → ((i : ℕ) (block : Block) → slice_get blocks i ≡ Some block → ends_well block.insts ≡ true)
      → edges_from all k (plain_blocks f b blocks) ≡ edges_from other k blocks
  edges-same f all other b k [] e ends = refl
  edges-same f all other b k (block ∷ blocks) e ends =
      let like = block-like f b block (ends 0 block refl) in
      ap (λ (labels : List Loc). filter_map (edge_to all k) labels ++ edges_from all (k + 1) (plain_blocks f (b + 1) blocks)) like.labels
      ∙ ap (λ (number : Loc → Option ℕ). filter_map (λ (at : Loc). option_map (λ (to : ℕ). (k, to)) (number at)) (last_labels block.insts) ++ edges_from all (k + 1) (plain_blocks f (b + 1) blocks)) e
      ∙ ap (λ (rest : List (ℕ × ℕ)). edges_of_block other k block ++ rest) (edges-same f all other (b + 1) (k + 1) blocks e (λ i x h. ends (suc i) x h))

  pairs-same : (f : FuncParts) → ((i : ℕ) (block : Block) → slice_get f.blocks i ≡ Some block → ends_well block.insts ≡ true) → (edges_of (plain_func (hard_of table f))).pairs ≡ (edges_of f).pairs
  pairs-same f ends = edges-same f (plain_blocks f 0 f.blocks) f.blocks 0 0 f.blocks (number-same f) ends

  -- ---- phis

  fitting-same : (f : FuncParts) → ((i : ℕ) (block : Block) → slice_get f.blocks i ≡ Some block → ends_well block.insts ≡ true) → (b : ℕ) (arms : List (Val × Loc)) → IsFitting f b arms → IsFitting (plain_func (hard_of table f)) b arms
  fitting-same f ends b arms fit = record {
    known = λ place arm at.
        let found = fit.known place arm at in
        (found.0, number arm.1 ∙ found.1, subst (λ (pairs : List (ℕ × ℕ)). IsEdge pairs (found.0, b)) (sym (pairs-same f ends)) found.2);
    complete = λ from edge.
        let arm = fit.complete from (subst (λ (pairs : List (ℕ × ℕ)). IsEdge pairs (from, b)) (pairs-same f ends) edge) in
        record { place = arm.place; arm = arm.arm; stands = arm.stands; of_block = number arm.arm.1 ∙ arm.of_block };
    agree = λ i j x y at there same. fit.agree i j x y at there (sym (number x.1) ∙ same ∙ number y.1);
  }
    where
      number : (at : Loc) → number_of (plain_blocks f 0 f.blocks) at ≡ number_of f.blocks at
      number at = numbers-same f 0 0 f.blocks at

  all-fit : (f : FuncParts) (xs ys : List PhiAt) → AllFitting f xs → AllFitting f ys → AllFitting f (xs ++ ys)
  all-fit f [] ys p q = q
  all-fit f (x ∷ xs) ys p q = (p.0, all-fit f xs ys p.1 q)

  fit-front : (f : FuncParts) (xs ys : List PhiAt) → AllFitting f (xs ++ ys) → AllFitting f xs
  fit-front f [] ys p = tt
  fit-front f (x ∷ xs) ys p = (p.0, fit-front f xs ys p.1)

  fit-back : (f : FuncParts) (xs ys : List PhiAt) → AllFitting f (xs ++ ys) → AllFitting f ys
  fit-back f [] ys p = p
  fit-back f (x ∷ xs) ys p = fit-back f xs ys p.1

  no-phis : (f : FuncParts) (b i : ℕ) (body : List Inst) → list_any is_phi body ≡ false → AllFitting f (phis_of_body b i body)
  no-phis f b i [] e = tt
  no-phis f b i (inst ∷ body) e = by_inst inst e (no-phis f b (i + 1) body)
    where
      by_inst : (inst : Inst) → list_any is_phi (inst ∷ body) ≡ false → (list_any is_phi body ≡ false → AllFitting f (phis_of_body b (i + 1) body)) → AllFitting f (phis_of_body b i (inst ∷ body))
      by_inst (insts.Phi dst ty arms) e rest = absurd cc
      by_inst inst e rest = rest e

  -- the phis of both sides, and what has none behind them
  sides-fit : (f : FuncParts) → ((i : ℕ) (block : Block) → slice_get f.blocks i ≡ Some block → ends_well block.insts ≡ true) → (b i j : ℕ) (body rest : List Inst) → AllFitting f (phis_of_body b i body) → list_any is_phi rest ≡ false
      → AllFitting (plain_func (hard_of table f)) (phis_of_body b j (map (λ (phi : Side × Inst). phi.1) (flat_map phi_image body) ++ rest))
  sides-fit f ends b i j [] rest fit none = no-phis (plain_func (hard_of table f)) b j rest none
  sides-fit f ends b i j (insts.Phi dst ty arms ∷ body) rest fit none =
      let own = fitting-same f ends b arms fit.0 in
      (own, (own, sides-fit f ends b (i + 1) (j + 1 + 1) body rest fit.1 none))
  sides-fit f ends b i j (inst ∷ body) rest fit none = sides-fit f ends b (i + 1) j body rest fit none

  blocks-fit : (f : FuncParts) → ((i : ℕ) (block : Block) → slice_get f.blocks i ≡ Some block → ends_well block.insts ≡ true) → (b k : ℕ) (blocks : List Block) → AllFitting f (phis_from k blocks) → AllFitting (plain_func (hard_of table f)) (phis_from k (plain_blocks f b blocks))
  blocks-fit f ends b k [] fit = tt
  blocks-fit f ends b k (block ∷ blocks) fit =
      all-fit (plain_func (hard_of table f)) (phis_of_body k 0 (plain_block (hard_block table f b block)).insts) (phis_from (k + 1) (plain_blocks f (b + 1) blocks))
      (sides-fit f ends k 0 0 block.insts (map plain_inst (hard_block table f b block).list) (fit-front f (phis_of_body k 0 block.insts) (phis_from (k + 1) blocks) fit) (list-phi f b block))
      (blocks-fit f ends (b + 1) (k + 1) blocks (fit-back f (phis_of_body k 0 block.insts) (phis_from (k + 1) blocks) fit))

  phis-fit : (f : FuncParts) → ((i : ℕ) (block : Block) → slice_get f.blocks i ≡ Some block → ends_well block.insts ≡ true) → PhisFit f → PhisFit (plain_func (hard_of table f))
  phis-fit f ends fit = blocks-fit f ends 0 0 f.blocks fit

-- ---- a whole module

module _ (table : Table) (is : IsTable table) (m : ModuleParts) (sound : Sound m) where
  pub block-ends : (n b : ℕ) (f : FuncParts) (block : Block) → IsBlockOf m n f b block → ends_well block.insts ≡ true
  block-ends n b f block at = (both_true (ends_well block.insts) (begins_well block.insts) (sound.terminators (BlockLine n f b block) (of-code m (BlockLine n f b block) (block-line m n b f block at)))).0

  pub terminators-each : EachKeeps table m (λ line. terminators_keep (plain_line line))
  terminators-each = record {
    outer = all-in terminators_keep (outer_lines m) (λ line h. sound.terminators line (outer-line m line h));
    head = λ n f at. refl;
    block = λ n b f block at. both (block-like table is f b block (block-ends n b f block at)).ends (block-begins table is f b block);
    phi = λ n b i f block inst side at h e. refl;
    part = λ n b i f block inst item at h e part. refl;
    param = λ n b i f block param at h. refl;
    quiet = λ n b i f item e. refl;
  }

  pub entries-each : EachKeeps table m (λ line. entries_keep (plain_line line))
  entries-each = record {
    outer = all-in entries_keep (outer_lines m) (λ line h. sound.entries line (outer-line m line h));
    head = λ n f at. refl;
    block = λ n b f block at.
        ap (λ (pairs : List (ℕ × ℕ)). not (b == 0 && list_any (λ (edge : ℕ × ℕ). edge.1 == 0) pairs)) (pairs-same table is f (λ i x h. block-ends n i f x (at.0, h)))
        ∙ sound.entries (BlockLine n f b block) (of-code m (BlockLine n f b block) (block-line m n b f block at));
    phi = λ n b i f block inst side at h e. refl;
    part = λ n b i f block inst item at h e part. refl;
    param = λ n b i f block param at h. refl;
    quiet = λ n b i f item e. refl;
  }

  pub all-phis-fit : OfAll PhisFit m.funcs → OfAll PhisFit (map plain_func (hard_funcs (hardened_by table m)))
  all-phis-fit fit = subst (λ (funcs : List HardFunc). OfAll PhisFit (map plain_func funcs)) (sym (hard-funcs table m)) (λ n g at. by_func n g (funcs-at m.funcs n g at))
    where
      funcs-at : (funcs : List FuncParts) (n : ℕ) (g : FuncParts) → slice_get (map plain_func (map (hard_of table) funcs)) n ≡ Some g → (f : FuncParts) × (slice_get funcs n ≡ Some f) × (plain_func (hard_of table f) ≡ g)
      funcs-at [] n g at = absurd cc
      funcs-at (f ∷ funcs) zero g at = (f, refl, cc)
      funcs-at (f ∷ funcs) (suc n) g at = funcs-at funcs n g at

      by_func : (n : ℕ) (g : FuncParts) → (f : FuncParts) × (slice_get m.funcs n ≡ Some f) × (plain_func (hard_of table f) ≡ g) → PhisFit g
      by_func n g (f, at, same) = subst PhisFit same (phis-fit table is f (λ i x h. block-ends n i f x (at, h)) (fit n f at))
