-- What names stand for with names for edges: what they stood for, and a new one for an `i1`.
use Rattle.std.proofs.Common.{ℕ, zero, suc, ◌≡◌, ◌∙◌, ◌+◌, ◌≤◌, ◌||◌, Bool, true, false, List, [], ◌∷◌, ◌++◌, map, find, Option, Some, None, slice_get, refl, ap, sym as flip, subst, arith, append_assoc}
use Rattle.std.specs.Prelude.{nat_eq, if◌then◌else◌}
use Rattle.std.specs.List.{flat_map, filter_map, cons_option}
use Rattle.std.specs.Option.{option_map}
use Rattle.std.proofs.lemmas.Bool.{eqb-true, eq-eqb}
use Rattle.std.proofs.lemmas.Bool.Decides.{nat_tests}
use Rattle.std.proofs.lemmas.List.{map-append}
use Rattle.std.proofs.lemmas.List.Elements.{filter_map-append}
use Rattle.ir_core.specs.declared.types.Ty.{Ty}
use Rattle.ir_core.specs.declared.types.Ty.TheVariants as types
use Rattle.ir_core.specs.declared.types.Loc.{Loc}
use Rattle.ir_core.specs.declared.types.Width.TheVariants.{W1}
use Rattle.ir_core.specs.declared.instruction.Inst.{Inst}
use Rattle.ir_core.specs.declared.instruction.Inst.TheVariants as insts
use Rattle.ir_core.specs.declared.instruction.Block.{Block}
use Rattle.ir_core.specs.Module.{ModuleParts, FuncParts}
use Rattle.ir_types.specs.Firsts.{first_of}
use Rattle.ir_types.specs.Meanings.{Meaning, Label, Register, param_meaning, block_meanings, meanings, result_of}
use Rattle.ir_check.proofs.Members.{IsIn, in-back, in-flat}
use Rattle.hard_ir.specs.declared.instruction.HBlock.{HBlock}
use Rattle.hard_ir.specs.Image.{Table}
use Rattle.hard_ir.specs.Hardened.{hard_block, hard_blocks, hard_func}
use Rattle.hard_ir.specs.Fit.{meaning_in, meaning_of_phi, meanings_in, hard_meanings}
use Rattle.hard_ir.specs.Images.{names_in, names_of, is_named}
use Rattle.hard_ir.specs.EdgeChecks.{edge_phis}
use Rattle.hard_laws.proofs.HardLines.{hard_of}
use Rattle.hard_laws.proofs.Accepted.{Sound}
use Rattle.hard_laws.proofs.Tallies.{tally, tally-append, counted, nat-same}
use Rattle.edge_laws.proofs.Anchors.{result_list, defs, is_at, few-all-defs}
use Rattle.edge_laws.proofs.EdgeDefinitions.{none-at, defs-within}
use Rattle.edge_laws.proofs.WithEdges.{edge_on, edge_blocks, edge_func}

abbrev Entry : Type 0
Entry = Loc × Meaning

-- ---- first entries

first-after : (xs ys zs : List Entry) (at : Loc) → first_of ys at ≡ first_of zs at → first_of (xs ++ ys) at ≡ first_of (xs ++ zs) at
first-after [] ys zs at e = e
first-after (x ∷ xs) ys zs at e = by_test (nat_eq x.0.0 at.0) (first-after xs ys zs at e)
  where
    by_test : (b : Bool) → first_of (xs ++ ys) at ≡ first_of (xs ++ zs) at
        → option_map (λ (entry : Entry). entry.1) (if b then Some x else find (λ (entry : Entry). nat_eq entry.0.0 at.0) (xs ++ ys))
        ≡ option_map (λ (entry : Entry). entry.1) (if b then Some x else find (λ (entry : Entry). nat_eq entry.0.0 at.0) (xs ++ zs))
    by_test true rest = refl
    by_test false rest = rest

skip-other : (x : Entry) (xs : List Entry) (at : Loc) → nat_eq x.0.0 at.0 ≡ false → first_of (x ∷ xs) at ≡ first_of xs at
skip-other x xs at e = rw e refl

none-append : (xs ys : List Entry) (at : Loc) → first_of (xs ++ ys) at ≡ None → (first_of xs at ≡ None) × (first_of ys at ≡ None)
none-append [] ys at e = (refl, e)
none-append (x ∷ xs) ys at e = by_test (nat_eq x.0.0 at.0) e (none-append xs ys at)
  where
    by_test : (b : Bool) → option_map (λ (entry : Entry). entry.1) (if b then Some x else find (λ (entry : Entry). nat_eq entry.0.0 at.0) (xs ++ ys)) ≡ None
        → (first_of (xs ++ ys) at ≡ None → (first_of xs at ≡ None) × (first_of ys at ≡ None))
        → (option_map (λ (entry : Entry). entry.1) (if b then Some x else find (λ (entry : Entry). nat_eq entry.0.0 at.0) xs) ≡ None) × (first_of ys at ≡ None)
    by_test true e rest = cc
    by_test false e rest = rest e

after-none : (xs ys : List Entry) (at : Loc) → first_of xs at ≡ None → first_of (xs ++ ys) at ≡ first_of ys at
after-none [] ys at e = refl
after-none (x ∷ xs) ys at e = by_test (nat_eq x.0.0 at.0) refl e (after-none xs ys at)
  where
    by_test : (b : Bool) → nat_eq x.0.0 at.0 ≡ b → option_map (λ (entry : Entry). entry.1) (if b then Some x else find (λ (entry : Entry). nat_eq entry.0.0 at.0) xs) ≡ None
        → (first_of xs at ≡ None → first_of (xs ++ ys) at ≡ first_of ys at) → first_of (x ∷ xs ++ ys) at ≡ first_of ys at
    by_test true f e rest = cc
    by_test false f e rest = rw f (rest e)

-- ---- the names of entries

result-key : (inst : Inst) (xs : List Entry) → map (λ (e : Entry). e.0) (cons_option (result_of inst) xs) ≡ result_list inst ++ map (λ (e : Entry). e.0) xs
result-key (insts.Bin dst op flags w a b) xs = refl
result-key (insts.Cmp dst pred ty a b) xs = refl
result-key (insts.Select dst cond ty a b) xs = refl
result-key (insts.Cast dst op from a to) xs = refl
result-key (insts.Gep dst base ptr index) xs = refl
result-key (insts.Alloca dst ty) xs = refl
result-key (insts.Load dst ty ptr atomic) xs = refl
result-key (insts.Rmw dst op ptr ty val) xs = refl
result-key (insts.CmpXchg dst ptr ty old new) xs = refl
result-key (insts.Extract dst elem pair index) xs = refl
result-key (insts.Call (Some dst) ret callee args) xs = refl
result-key (insts.Call None ret callee args) xs = refl
result-key (insts.Phi dst ty arms) xs = refl
result-key inst xs = refl

body-keys : (body : List Inst) → map (λ (e : Entry). e.0) (filter_map result_of body) ≡ flat_map result_list body
body-keys [] = refl
body-keys (inst ∷ body) = result-key inst (filter_map result_of body) ∙ ap (λ (xs : List Loc). result_list inst ++ xs) (body-keys body)

blocks-keys : (blocks : List Block) → map (λ (e : Entry). e.0) (flat_map block_meanings blocks) ≡ flat_map defs blocks
blocks-keys [] = refl
blocks-keys (block ∷ blocks) =
    map-append (λ (e : Entry). e.0) (block_meanings block) (flat_map block_meanings blocks)
    ∙ ap (λ (xs : List Loc). (block.label ∷ xs) ++ map (λ (e : Entry). e.0) (flat_map block_meanings blocks)) (body-keys block.insts)
    ∙ ap (λ (xs : List Loc). defs block ++ xs) (blocks-keys blocks)

params-keys : (params : List (Ty × Loc)) → map (λ (e : Entry). e.0) (map param_meaning params) ≡ map (λ (param : Ty × Loc). param.1) params
params-keys [] = refl
params-keys (param ∷ params) = ap (λ (xs : List Loc). param.1 ∷ xs) (params-keys params)

keys : (f : FuncParts) → map (λ (e : Entry). e.0) (meanings f) ≡ map (λ (param : Ty × Loc). param.1) f.params ++ flat_map defs f.blocks
keys f =
    map-append (λ (e : Entry). e.0) (map param_meaning f.params) (flat_map block_meanings f.blocks)
    ∙ ap (λ (xs : List Loc). xs ++ map (λ (e : Entry). e.0) (flat_map block_meanings f.blocks)) (params-keys f.params)
    ∙ ap (λ (xs : List Loc). map (λ (param : Ty × Loc). param.1) f.params ++ xs) (blocks-keys f.blocks)

turned : (a b : ℕ) → nat_eq a b ≡ nat_eq b a
turned a b = by_test (nat_eq a b) refl
  where
    by_test : (c : Bool) → nat_eq a b ≡ c → c ≡ nat_eq b a
    by_test true e = let g : nat_eq b a ≡ true = grind (arith, nat_tests) in flip g
    by_test false e = let g : nat_eq b a ≡ false = grind (arith, nat_tests) in flip g

none-first : (at : Loc) (xs : List Entry) → tally (is_at at.0) (map (λ (e : Entry). e.0) xs) ≡ 0 → first_of xs at ≡ None
none-first at [] e = refl
none-first at (x ∷ xs) e = by_test (nat_eq at.0 x.0.0) refl e (none-first at xs)
  where
    by_test : (b : Bool) → nat_eq at.0 x.0.0 ≡ b → counted b (tally (is_at at.0) (map (λ (e : Entry). e.0) xs)) ≡ 0 → (tally (is_at at.0) (map (λ (e : Entry). e.0) xs) ≡ 0 → first_of xs at ≡ None) → first_of (x ∷ xs) at ≡ None
    by_test true f e rest = absurd (omega (arith, e))
    by_test false f e rest = let other : nat_eq x.0.0 at.0 ≡ false = turned x.0.0 at.0 ∙ f in rw other (rest e)

only-first : (e : Entry) (xs : List Entry) → IsIn e xs → tally (is_at e.0.0) (map (λ (x : Entry). x.0) xs) ≤ 1 → first_of xs e.0 ≡ Some e.1
only-first e [] (k, at) few = cc
only-first e (x ∷ xs) (zero, at) few = let same : x ≡ e = cc in rw (same, nat-same e.0.0) refl
only-first e (x ∷ xs) (suc k, at) few = by_test (nat_eq e.0.0 x.0.0) refl few (only-first e xs (k, at))
  where
    some : (xs : List Entry) (k : ℕ) → slice_get xs k ≡ Some e → 1 ≤ tally (is_at e.0.0) (map (λ (x : Entry). x.0) xs)
    some [] k at = cc
    some (y ∷ ys) zero at = let same : y ≡ e = cc in rw (same, nat-same e.0.0) (omega arith)
    some (y ∷ ys) (suc k) at = grown (nat_eq e.0.0 y.0.0) (some ys k at)
      where
        grown : (b : Bool) → 1 ≤ tally (is_at e.0.0) (map (λ (x : Entry). x.0) ys) → 1 ≤ counted b (tally (is_at e.0.0) (map (λ (x : Entry). x.0) ys))
        grown true h = omega arith
        grown false h = h

    by_test : (b : Bool) → nat_eq e.0.0 x.0.0 ≡ b → counted b (tally (is_at e.0.0) (map (λ (x : Entry). x.0) xs)) ≤ 1 → (tally (is_at e.0.0) (map (λ (x : Entry). x.0) xs) ≤ 1 → first_of xs e.0 ≡ Some e.1) → first_of (x ∷ xs) e.0 ≡ Some e.1
    by_test true f few rest = let more = some xs k at in absurd (omega (arith, few, more))
    by_test false f few rest = let other : nat_eq x.0.0 e.0.0 ≡ false = turned x.0.0 e.0.0 ∙ f in rw other (rest few)

module _ (m : ModuleParts) (sound : Sound m) (n : ℕ) (f : FuncParts) (here : slice_get m.funcs n ≡ Some f) where
  pub label-stands : (b : ℕ) (block : Block) → slice_get f.blocks b ≡ Some block → first_of (meanings f) block.label ≡ Some Label
  label-stands b block at =
      only-first (block.label, Label) (meanings f) (in-back (block.label, Label) (map param_meaning f.params) (flat_map block_meanings f.blocks) (in-flat block_meanings block (block.label, Label) f.blocks (b, at) (0, refl)))
      (subst (λ (xs : List Loc). tally (is_at block.label.0) xs ≤ 1) (flip (keys f)) (few-all-defs m sound n f here block.label.0))

pub unnamed-none : (f : FuncParts) (at : Loc) → is_named f at ≡ false → first_of (meanings f) at ≡ None
unnamed-none f at e =
    let none = none-at at.0 (names_of f) e in
    let parts = tally-append (is_at at.0) (map (λ (param : Ty × Loc). param.1) f.params) (flat_map names_in f.blocks) in
    let own = tally-append (is_at at.0) (map (λ (param : Ty × Loc). param.1) f.params) (flat_map defs f.blocks) in
    let within = defs-within at.0 f.blocks in
    let zero_ : tally (is_at at.0) (map (λ (param : Ty × Loc). param.1) f.params ++ flat_map defs f.blocks) ≡ 0 = omega (arith, none, parts, own, within) in
    none-first at (meanings f) (subst (λ (xs : List Loc). tally (is_at at.0) xs ≡ 0) (flip (keys f)) zero_)

-- ---- with names for edges

module _ (table : Table) (f : FuncParts) (of : ℕ → Option Loc) (at : Loc) where
  -- one of the names
  abbrev is_new_at : Option Loc → Bool
  is_new_at None = false
  is_new_at (Some name) = nat_eq name.0 at.0

  abbrev pub is_new : ℕ → List Block → Bool
  is_new b [] = false
  is_new b (block ∷ blocks) = is_new_at (of b) || is_new (b + 1) blocks

  -- the entries of a block
  pub on-entries : (name : Loc) (block : HBlock)
      → meanings_in (edge_on (Some name) f.blocks block) ≡ ((block.label, Label) ∷ filter_map meaning_of_phi block.phis) ++ (name, Register (types.Int W1)) ∷ (name, Register (types.Int W1)) ∷ filter_map meaning_in block.list
  on-entries name block =
      ap (λ (xs : List Entry). (block.label, Label) ∷ xs ++ filter_map meaning_in block.list) (filter_map-append meaning_of_phi block.phis (edge_phis name f.blocks block.label))
      ∙ ap (λ (xs : List Entry). (block.label, Label) ∷ xs) (append_assoc (filter_map meaning_of_phi block.phis) ((name, Register (types.Int W1)) ∷ (name, Register (types.Int W1)) ∷ []) (filter_map meaning_in block.list))

  -- another name stands for what it did
  other-block : (o : Option Loc) (block : HBlock) (xs ys : List Entry) → is_new_at o ≡ false → first_of xs at ≡ first_of ys at
      → first_of (meanings_in (edge_on o f.blocks block) ++ xs) at ≡ first_of (meanings_in block ++ ys) at
  other-block None block xs ys e same = first-after (meanings_in block) xs ys at same
  other-block (Some name) block xs ys e same =
      let front : List Entry = (block.label, Label) ∷ filter_map meaning_of_phi block.phis in
      let items : List Entry = filter_map meaning_in block.list in
      let own : Entry = (name, Register (types.Int W1)) in
      ap (λ (zs : List Entry). first_of (zs ++ xs) at) (on-entries name block)
      ∙ ap (λ (zs : List Entry). first_of zs at) (append_assoc front (own ∷ own ∷ items) xs)
      ∙ first-after front (own ∷ own ∷ items ++ xs) (items ++ ys) at (skip-other own (own ∷ items ++ xs) at e ∙ skip-other own (items ++ xs) at e ∙ first-after items xs ys at same)
      ∙ ap (λ (zs : List Entry). first_of zs at) (flip (append_assoc front items ys))

  neither : (a b : Bool) → (a || b) ≡ false → (a ≡ false) × (b ≡ false)
  neither true b e = cc
  neither false b e = (refl, e)

  other-blocks : (b : ℕ) (blocks : List Block) → is_new b blocks ≡ false → first_of (flat_map meanings_in (edge_blocks table f of b blocks)) at ≡ first_of (flat_map meanings_in (hard_blocks table f b blocks)) at
  other-blocks b [] e = refl
  other-blocks b (block ∷ blocks) e =
      let parts = neither (is_new_at (of b)) (is_new (b + 1) blocks) e in
      other-block (of b) (hard_block table f b block) (flat_map meanings_in (edge_blocks table f of (b + 1) blocks)) (flat_map meanings_in (hard_blocks table f (b + 1) blocks)) parts.0 (other-blocks (b + 1) blocks parts.1)

  pub other-stands : is_new 0 f.blocks ≡ false → first_of (hard_meanings (edge_func table of f)) at ≡ first_of (hard_meanings (hard_of table f)) at
  other-stands e = first-after (map param_meaning f.params) (flat_map meanings_in (edge_blocks table f of 0 f.blocks)) (flat_map meanings_in (hard_func table f)) at (other-blocks 0 f.blocks e)

  -- a new one stands for an `i1`
  new-blocks : (b : ℕ) (blocks : List Block) → is_new b blocks ≡ true → first_of (flat_map meanings_in (hard_blocks table f b blocks)) at ≡ None
      → first_of (flat_map meanings_in (edge_blocks table f of b blocks)) at ≡ Some (Register (types.Int W1))
  new-blocks b [] e none = cc
  new-blocks b (block ∷ blocks) e none = by_name (of b) refl e (λ h. new-blocks (b + 1) blocks h parts.1)
    where
      hard : HBlock
      hard = hard_block table f b block

      parts : (first_of (meanings_in (hard_block table f b block)) at ≡ None) × (first_of (flat_map meanings_in (hard_blocks table f (b + 1) blocks)) at ≡ None)
      parts = none-append (meanings_in (hard_block table f b block)) (flat_map meanings_in (hard_blocks table f (b + 1) blocks)) at none

      by_name : (o : Option Loc) → of b ≡ o → (is_new_at o || is_new (b + 1) blocks) ≡ true → (is_new (b + 1) blocks ≡ true → first_of (flat_map meanings_in (edge_blocks table f of (b + 1) blocks)) at ≡ Some (Register (types.Int W1)))
          → first_of (meanings_in (edge_on (of b) f.blocks (hard_block table f b block)) ++ flat_map meanings_in (edge_blocks table f of (b + 1) blocks)) at ≡ Some (Register (types.Int W1))
      by_name None g h rest =
          ap (λ (o : Option Loc). first_of (meanings_in (edge_on o f.blocks (hard_block table f b block)) ++ flat_map meanings_in (edge_blocks table f of (b + 1) blocks)) at) g
          ∙ after-none (meanings_in (hard_block table f b block)) (flat_map meanings_in (edge_blocks table f of (b + 1) blocks)) at parts.0 ∙ rest h
      by_name (Some name) g h rest =
          let front : List Entry = (block.label, Label) ∷ filter_map meaning_of_phi (hard_block table f b block).phis in
          let items : List Entry = filter_map meaning_in (hard_block table f b block).list in
          let own : Entry = (name, Register (types.Int W1)) in
          let more : List Entry = flat_map meanings_in (edge_blocks table f of (b + 1) blocks) in
          let halves = none-append front items at parts.0 in
          ap (λ (o : Option Loc). first_of (meanings_in (edge_on o f.blocks (hard_block table f b block)) ++ more) at) g
          ∙ ap (λ (zs : List Entry). first_of (zs ++ more) at) (on-entries name (hard_block table f b block))
          ∙ ap (λ (zs : List Entry). first_of zs at) (append_assoc front (own ∷ own ∷ items) more)
          ∙ after-none front (own ∷ own ∷ items ++ more) at halves.0
          ∙ by_test (nat_eq name.0 at.0) refl h (λ k. after-none items more at halves.1 ∙ rest k)
        where
          by_test : (c : Bool) → nat_eq name.0 at.0 ≡ c → (c || is_new (b + 1) blocks) ≡ true
              → (is_new (b + 1) blocks ≡ true → first_of (filter_map meaning_in (hard_block table f b block).list ++ flat_map meanings_in (edge_blocks table f of (b + 1) blocks)) at ≡ Some (Register (types.Int W1)))
              → first_of ((name, Register (types.Int W1)) ∷ (name, Register (types.Int W1)) ∷ filter_map meaning_in (hard_block table f b block).list ++ flat_map meanings_in (edge_blocks table f of (b + 1) blocks)) at ≡ Some (Register (types.Int W1))
          by_test true q h rest = rw q refl
          by_test false q h rest = rw q (rest h)

  pub new-stands : is_new 0 f.blocks ≡ true → first_of (hard_meanings (hard_of table f)) at ≡ None → first_of (hard_meanings (edge_func table of f)) at ≡ Some (Register (types.Int W1))
  new-stands e none =
      let parts = none-append (map param_meaning f.params) (flat_map meanings_in (hard_func table f)) at none in
      after-none (map param_meaning f.params) (flat_map meanings_in (edge_blocks table f of 0 f.blocks)) at parts.0 ∙ new-blocks 0 f.blocks e parts.1

  -- where one is, a block has it
  pub new-block : (b : ℕ) (blocks : List Block) → is_new b blocks ≡ true → (k : ℕ) × (name : Loc) × (of k ≡ Some name) × (name.0 ≡ at.0)
  new-block b [] e = cc
  new-block b (block ∷ blocks) e = by_name (of b) refl e (new-block (b + 1) blocks)
    where
      by_name : (o : Option Loc) → of b ≡ o → (is_new_at o || is_new (b + 1) blocks) ≡ true → (is_new (b + 1) blocks ≡ true → (k : ℕ) × (name : Loc) × (of k ≡ Some name) × (name.0 ≡ at.0))
          → (k : ℕ) × (name : Loc) × (of k ≡ Some name) × (name.0 ≡ at.0)
      by_name None g h rest = rest h
      by_name (Some name) g h rest = by_test (nat_eq name.0 at.0) refl h
        where
          by_test : (c : Bool) → nat_eq name.0 at.0 ≡ c → (c || is_new (b + 1) blocks) ≡ true → (k : ℕ) × (name : Loc) × (of k ≡ Some name) × (name.0 ≡ at.0)
          by_test true q h = (b, name, g, eqb-true name.0 at.0 q)
          by_test false q h = rest h

  pub block-new : (start i b : ℕ) (blocks : List Block) (block : Block) (name : Loc) → b ≡ start + i → slice_get blocks i ≡ Some block → of b ≡ Some name → name.0 ≡ at.0 → is_new start blocks ≡ true
  block-new start i b [] block name e there named same = cc
  block-new start zero b (x ∷ blocks) block name e there named same =
      let number : start ≡ b = omega (arith, e) in
      let own : is_new_at (of start) ≡ true = ap (λ (k : ℕ). is_new_at (of k)) number ∙ ap is_new_at named ∙ eq-eqb name.0 at.0 same in
      rw own refl
  block-new start (suc i) b (x ∷ blocks) block name e there named same = later (is_new_at (of start)) (block-new (start + 1) i b blocks block name (omega (arith, e)) there named same)
    where
      later : (c : Bool) → is_new (start + 1) blocks ≡ true → (c || is_new (start + 1) blocks) ≡ true
      later true h = refl
      later false h = h
