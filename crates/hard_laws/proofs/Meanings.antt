-- A name of a hardened function stands for what it does in its source, and each result for its own.
use Rattle.std.proofs.Common.{ℕ, zero, suc, ◌≡◌, ◌∙◌, ◌+◌, Bool, true, false, ◌||◌, not, List, [], ◌∷◌, ◌++◌, map, find, slice_get, Option, Some, None, refl, ap, sym}
use Rattle.std.specs.Prelude.{nat_eq}
use Rattle.std.specs.List.{flat_map, filter_map, cons_option, list_all, list_any}
use Rattle.std.specs.Option.{option_map, option_or}
use Rattle.std.proofs.lemmas.List.Folds.{find-append}
use Rattle.std.proofs.lemmas.List.Elements.{filter_map-append}
use Rattle.ir_core.proofs.Lengths.{both_true}
use Rattle.ir_core.specs.declared.types.Ty.{Ty}
use Rattle.ir_core.specs.declared.types.Loc.{Loc}
use Rattle.ir_core.specs.declared.values.Side.{Side}
use Rattle.ir_core.specs.declared.instruction.Inst.{Inst}
use Rattle.ir_core.specs.declared.instruction.Inst.TheVariants as insts
use Rattle.ir_core.specs.declared.instruction.Block.{Block}
use Rattle.ir_core.specs.Module.{FuncParts}
use Rattle.ir_flow.specs.Edges.{edges_of, is_loop_head}
use Rattle.ir_types.specs.Firsts.{first_of}
use Rattle.ir_types.specs.Meanings.{Meaning, Label, Register, param_meaning, block_meanings, meanings, result_of}
use Rattle.ir_check.specs.Blocks.{begins_well}
use Rattle.ir_core.specs.Instructions.{is_phi}
use Rattle.hard_ir.specs.declared.instruction.HInst.{HInst}
use Rattle.hard_ir.specs.declared.instruction.HInst.TheVariants.{Mov, Do}
use Rattle.hard_ir.specs.Image.{Table, copy_of, phi_image}
use Rattle.hard_ir.specs.Hardened.{at_entry, at_head, hard_block, hard_blocks, hard_func}
use Rattle.hard_ir.specs.Fit.{meaning_in, meaning_of_phi, meanings_in, hard_meanings}
use Rattle.hard_laws.proofs.Images.{is_quiet, IsTable}
use Rattle.hard_laws.proofs.HardLines.{hard_of}

-- ---- first entries

first-append : (xs ys : List (Loc × Meaning)) (at : Loc) → first_of (xs ++ ys) at ≡ option_or (first_of xs at) (first_of ys at)
first-append xs ys at =
    ap (option_map (λ (e : Loc × Meaning). e.1)) (find-append (λ (e : Loc × Meaning). nat_eq e.0.0 at.0) xs ys)
    ∙ by_front (find (λ (e : Loc × Meaning). nat_eq e.0.0 at.0) xs)
  where
    by_front : (o : Option (Loc × Meaning)) → option_map (λ (e : Loc × Meaning). e.1) (option_or o (find (λ (e : Loc × Meaning). nat_eq e.0.0 at.0) ys)) ≡ option_or (option_map (λ (e : Loc × Meaning). e.1) o) (first_of ys at)
    by_front None = refl
    by_front (Some e) = refl

cons-first : (o : Option (Loc × Meaning)) (xs : List (Loc × Meaning)) (at : Loc) → first_of (cons_option o xs) at ≡ option_or (first_of (cons_option o []) at) (first_of xs at)
cons-first None xs at = refl
cons-first (Some e) xs at = first-append (e ∷ []) xs at

or-twice : (e p i : Option Meaning) → option_or (option_or e (option_or e p)) i ≡ option_or e (option_or p i)
or-twice None p i = refl
or-twice (Some x) p i = refl

quiet-first : (items : List HInst) → list_all is_quiet items ≡ true → filter_map meaning_in items ≡ []
quiet-first [] e = refl
quiet-first (item ∷ items) e = by_item item (both_true (is_quiet item) (list_all is_quiet items) e).0 (quiet-first items (both_true (is_quiet item) (list_all is_quiet items) e).1)
  where
    by_item : (item : HInst) → is_quiet item ≡ true → filter_map meaning_in items ≡ [] → filter_map meaning_in (item ∷ items) ≡ []
    by_item (Do side inst retires) q rest = cc
    by_item (Mov ty reg) q rest = cc
    by_item item q rest = rest

copies-first : (params : List (Ty × Loc)) → filter_map meaning_in (map copy_of params) ≡ map param_meaning params
copies-first [] = refl
copies-first (x ∷ xs) = ap (λ (rest : List (Loc × Meaning)). param_meaning x ∷ rest) (copies-first xs)

no-phi-images : (body : List Inst) → list_any is_phi body ≡ false → flat_map phi_image body ≡ []
no-phi-images [] e = refl
no-phi-images (inst ∷ body) e = by_inst inst e (no-phi-images body)
  where
    by_inst : (inst : Inst) → list_any is_phi (inst ∷ body) ≡ false → (list_any is_phi body ≡ false → flat_map phi_image body ≡ []) → flat_map phi_image (inst ∷ body) ≡ []
    by_inst (insts.Phi dst ty arms) e rest = cc
    by_inst inst e rest = rest e

module _ (table : Table) (is : IsTable table) (at : Loc) where
  abbrev first : List (Loc × Meaning) → Option Meaning
  first xs = first_of xs at

  image-first : (inst : Inst) (rest : List HInst) → is_phi inst ≡ false → first (filter_map meaning_in (table.image inst ++ rest)) ≡ option_or (first (cons_option (result_of inst) [])) (first (filter_map meaning_in rest))
  image-first inst rest e =
      ap first (filter_map-append meaning_in (table.image inst) rest) ∙ first-append (filter_map meaning_in (table.image inst)) (filter_map meaning_in rest) at
      ∙ ap (λ (o : Option Meaning). option_or o (first (filter_map meaning_in rest))) ((is.image inst e).first at)

  images-first : (body : List Inst) → list_any is_phi body ≡ false → first (filter_map meaning_in (flat_map table.image body)) ≡ first (filter_map result_of body)
  images-first [] e = refl
  images-first (inst ∷ body) e = by_test (is_phi inst) refl e (images-first body)
    where
      by_test : (b : Bool) → is_phi inst ≡ b → (b || list_any is_phi body) ≡ false → (list_any is_phi body ≡ false → first (filter_map meaning_in (flat_map table.image body)) ≡ first (filter_map result_of body))
          → first (filter_map meaning_in (table.image inst ++ flat_map table.image body)) ≡ first (filter_map result_of (inst ∷ body))
      by_test true p e rest = cc
      by_test false p e rest =
          image-first inst (flat_map table.image body) p ∙ ap (λ (o : Option Meaning). option_or (first (cons_option (result_of inst) [])) o) (rest e)
          ∙ sym (cons-first (result_of inst) (filter_map result_of body) at)

  abbrev both_first : List Inst → Option Meaning
  both_first body = option_or (first (filter_map meaning_of_phi (flat_map phi_image body))) (first (filter_map meaning_in (flat_map table.image body)))

  not-true : (b : Bool) → not b ≡ true → b ≡ false
  not-true true e = cc
  not-true false e = refl

  or-false : (a b : Bool) → a ≡ false → b ≡ false → (a || b) ≡ false
  or-false a b e f = rw (e, f) refl

  plain-first : (inst : Inst) (body : List Inst) → list_any is_phi (inst ∷ body) ≡ false → both_first (inst ∷ body) ≡ first (filter_map result_of (inst ∷ body))
  plain-first inst body none =
      ap (λ (phis : List (Side × Inst)). option_or (first (filter_map meaning_of_phi phis)) (first (filter_map meaning_in (flat_map table.image (inst ∷ body))))) (no-phi-images (inst ∷ body) none) ∙ images-first (inst ∷ body) none

  body-first : (body : List Inst) → begins_well body ≡ true → both_first body ≡ first (filter_map result_of body)
  body-first [] e = refl
  body-first (insts.Phi dst ty arms ∷ body) e =
      let own : Loc × Meaning = (dst, Register ty) in
      let phis : List (Loc × Meaning) = filter_map meaning_of_phi (flat_map phi_image body) in
      let images : first (filter_map meaning_in (table.image (insts.Phi dst ty arms) ++ flat_map table.image body)) ≡ first (filter_map meaning_in (flat_map table.image body)) =
      ap (λ (items : List HInst). first (filter_map meaning_in (items ++ flat_map table.image body))) (is.phi (insts.Phi dst ty arms) refl) in
      let twice : first (own ∷ own ∷ phis) ≡ option_or (first (own ∷ [])) (option_or (first (own ∷ [])) (first phis)) =
      first-append (own ∷ []) (own ∷ phis) at ∙ ap (λ (o : Option Meaning). option_or (first (own ∷ [])) o) (first-append (own ∷ []) phis at) in
      ap (λ (o : Option Meaning). option_or (first (own ∷ own ∷ phis)) o) images
      ∙ ap (λ (o : Option Meaning). option_or o (first (filter_map meaning_in (flat_map table.image body)))) twice
      ∙ or-twice (first (own ∷ [])) (first phis) (first (filter_map meaning_in (flat_map table.image body)))
      ∙ ap (λ (o : Option Meaning). option_or (first (own ∷ [])) o) (body-first body e)
      ∙ sym (first-append (own ∷ []) (filter_map result_of body) at)
  body-first (inst ∷ body) e = plain-first inst body (or-false (is_phi inst) (list_any is_phi body) refl (not-true (list_any is_phi body) e))

  -- ---- blocks

  or-both : (p a b c d : Option Meaning) → option_or p a ≡ option_or p c → option_or p b ≡ option_or p d → option_or p (option_or a b) ≡ option_or p (option_or c d)
  or-both None a b c d e f = ap (λ (o : Option Meaning). option_or o b) e ∙ ap (λ (o : Option Meaning). option_or c o) f
  or-both (Some x) a b c d e f = refl

  module _ (f : FuncParts) where
    abbrev given : Option Meaning
    given = first (map param_meaning f.params)

    entry-first : (b : ℕ) → option_or given (first (filter_map meaning_in (at_entry table f b))) ≡ given
    entry-first zero =
        let entry = is.entry f.params in
        let own : filter_map meaning_in (at_entry table f 0) ≡ map param_meaning f.params ++ filter_map meaning_in entry.0 =
        ap (filter_map meaning_in) entry.1 ∙ filter_map-append meaning_in (map copy_of f.params) entry.0 ∙ ap (λ (xs : List (Loc × Meaning)). xs ++ filter_map meaning_in entry.0) (copies-first f.params) in
        let none : first (filter_map meaning_in entry.0) ≡ None = ap first (quiet-first entry.0 entry.2) in
        ap (λ (xs : List (Loc × Meaning)). option_or given (first xs)) own
        ∙ ap (λ (o : Option Meaning). option_or given o) (first-append (map param_meaning f.params) (filter_map meaning_in entry.0) at ∙ ap (λ (o : Option Meaning). option_or given o) none) ∙ twice given
      where
        twice : (o : Option Meaning) → option_or o (option_or o None) ≡ o
        twice None = refl
        twice (Some x) = refl
    entry-first (suc b) = or-none given
      where
        or-none : (o : Option Meaning) → option_or o None ≡ o
        or-none None = refl
        or-none (Some x) = refl

    head-first : (t : Bool) → filter_map meaning_in (at_head table t) ≡ []
    head-first true = quiet-first table.head is.head
    head-first false = refl

    sum-first : (p l φ e i r : Option Meaning) → option_or p e ≡ p → option_or φ i ≡ r → option_or p (option_or l (option_or φ (option_or e i))) ≡ option_or p (option_or l r)
    sum-first None l φ e i r none same = ap (λ (o : Option Meaning). option_or l (option_or φ (option_or o i))) none ∙ ap (λ (o : Option Meaning). option_or l o) same
    sum-first (Some x) l φ e i r none same = refl

    block-first : (b : ℕ) (block : Block) → begins_well block.insts ≡ true → option_or given (first (meanings_in (hard_block table f b block))) ≡ option_or given (first (block_meanings block))
    block-first b block e =
        let entry : List HInst = at_entry table f b in
        let head : List HInst = at_head table (is_loop_head (edges_of f).pairs b) in
        let images : List HInst = flat_map table.image block.insts in
        let phis : List (Loc × Meaning) = filter_map meaning_of_phi (flat_map phi_image block.insts) in
        let label : Option Meaning = first ((block.label, Label) ∷ []) in
        let list : first (filter_map meaning_in (entry ++ (head ++ images))) ≡ option_or (first (filter_map meaning_in entry)) (first (filter_map meaning_in images)) =
        ap first (filter_map-append meaning_in entry (head ++ images)) ∙ first-append (filter_map meaning_in entry) (filter_map meaning_in (head ++ images)) at
        ∙ ap (λ (xs : List (Loc × Meaning)). option_or (first (filter_map meaning_in entry)) (first xs))
        (filter_map-append meaning_in head images ∙ ap (λ (xs : List (Loc × Meaning)). xs ++ filter_map meaning_in images) (head-first (is_loop_head (edges_of f).pairs b))) in
        let hard : first (meanings_in (hard_block table f b block)) ≡ option_or label (option_or (first phis) (option_or (first (filter_map meaning_in entry)) (first (filter_map meaning_in images)))) =
        first-append ((block.label, Label) ∷ []) (phis ++ filter_map meaning_in (entry ++ (head ++ images))) at
        ∙ ap (λ (o : Option Meaning). option_or label o) (first-append phis (filter_map meaning_in (entry ++ (head ++ images))) at ∙ ap (λ (o : Option Meaning). option_or (first phis) o) list) in
        ap (λ (o : Option Meaning). option_or given o) hard
        ∙ sum-first given label (first phis) (first (filter_map meaning_in entry)) (first (filter_map meaning_in images)) (first (filter_map result_of block.insts)) (entry-first b) (body-first block.insts e)
        ∙ ap (λ (o : Option Meaning). option_or given o) (sym (first-append ((block.label, Label) ∷ []) (filter_map result_of block.insts) at))

    blocks-first : (b : ℕ) (blocks : List Block) → ((i : ℕ) (block : Block) → slice_get blocks i ≡ Some block → begins_well block.insts ≡ true)
        → option_or given (first (flat_map meanings_in (hard_blocks table f b blocks))) ≡ option_or given (first (flat_map block_meanings blocks))
    blocks-first b [] begins = refl
    blocks-first b (block ∷ blocks) begins =
        ap (λ (o : Option Meaning). option_or given o) (first-append (meanings_in (hard_block table f b block)) (flat_map meanings_in (hard_blocks table f (b + 1) blocks)) at)
        ∙ or-both given (first (meanings_in (hard_block table f b block))) (first (flat_map meanings_in (hard_blocks table f (b + 1) blocks))) (first (block_meanings block)) (first (flat_map block_meanings blocks))
        (block-first b block (begins 0 block refl)) (blocks-first (b + 1) blocks (λ i x h. begins (suc i) x h))
        ∙ ap (λ (o : Option Meaning). option_or given o) (sym (first-append (block_meanings block) (flat_map block_meanings blocks) at))

    -- a name stands for the same in both
    pub meaning-same : ((i : ℕ) (block : Block) → slice_get f.blocks i ≡ Some block → begins_well block.insts ≡ true) → first_of (hard_meanings (hard_of table f)) at ≡ first_of (meanings f) at
    meaning-same begins =
        first-append (map param_meaning f.params) (flat_map meanings_in (hard_func table f)) at ∙ blocks-first 0 f.blocks begins
        ∙ sym (first-append (map param_meaning f.params) (flat_map block_meanings f.blocks) at)
