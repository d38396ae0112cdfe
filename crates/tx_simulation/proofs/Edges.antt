-- What the phis of a block take along an edge: those of the source's block, and those of the name that checks its edges.
use Rattle.std.proofs.Common.{ℕ, zero, suc, ◌≡◌, ◌∙◌, ◌-◌, ◌<◌, ◌%◌, Bool, true, false, List, [], ◌∷◌, ◌++◌, map, length, Option, Some, None, slice_get, refl, ap, sym, subst, arith}
use Rattle.std.specs.Prelude.{nat_eq, ◌==◌, if◌then◌else◌}
use Rattle.std.specs.List.{list_any, filter_map, flat_map}
use Rattle.std.specs.Option.{option_map, option_map_or, option_and_then}
use Rattle.std.proofs.lemmas.Bool.{eqb-true, eq-eqb}
use Rattle.std.proofs.lemmas.List.Elements.{filter_map-append}
use Rattle.ir_core.specs.declared.types.Ty.TheVariants as types
use Rattle.ir_core.specs.declared.types.Loc.{Loc}
use Rattle.ir_core.specs.declared.types.Width.TheVariants.{W1}
use Rattle.ir_core.specs.declared.values.Val.{Val}
use Rattle.ir_core.specs.declared.values.Val.TheVariants as values
use Rattle.ir_core.specs.declared.values.Side.{Side}
use Rattle.ir_core.specs.declared.values.Side.TheVariants.{M, S}
use Rattle.ir_core.specs.declared.instruction.Inst.{Inst}
use Rattle.ir_core.specs.declared.instruction.Inst.TheVariants as insts
use Rattle.ir_core.specs.declared.instruction.Block.{Block}
use Rattle.ir_layout.specs.Memory.{LayoutParts}
use Rattle.ir_flow.specs.Edges.{labels_of, last_labels}
use Rattle.ir_flow.specs.Uses.{regs_in}
use Rattle.ir_check.specs.Blocks.{begins_well}
use Rattle.ir_check.proofs.Members.{IsIn, next-in, any-in}
use Rattle.inst_meaning.specs.declared.actions.Action.TheVariants.{Jump}
use Rattle.inst_meaning.specs.declared.actions.Callee.{Callee}
use Rattle.inst_meaning.specs.Action.{on_word, action_of}
use Rattle.inst_meaning.specs.Operands.{width_step, width_of, word_at, typed_word}
use Rattle.inst_meaning.specs.Phis.{phis_of, arm_from, phi_word, phi_words_with, phi_words}
use Rattle.inst_meaning.specs.Registers.{get}
use Rattle.hard_ir.specs.declared.instruction.HBlock.{HBlock}
use Rattle.hard_ir.specs.EdgeChecks.{Guard, guard_in, guard_at, guard_of, leads_to, predecessors, bit, direction, edge_arm}
use Rattle.hard_ir.specs.Image.{phi_image}
use Rattle.hard_ir.specs.Images.{phis_for}
use Rattle.hard_frames.specs.Frames.{phi_on, phis_on}
use Rattle.hard_simulation.proofs.Landing.{phis-on-side}
use Rattle.tx_simulation.proofs.Reading.{bit-width}

-- ---- phis one after another

pub words-append : (l : LayoutParts) (file : List (Option ℕ)) (from : Loc) (xs ys : List Inst) (first later : List (Loc × ℕ)) → phi_words l file from xs ≡ Some first
    → phi_words l file from ys ≡ Some later → phi_words l file from (xs ++ ys) ≡ Some (first ++ later)
words-append l file from [] ys first later e f = let none : [] ≡ first = cc in f ∙ ap (λ (words : List (Loc × ℕ)). Some (words ++ later)) none
words-append l file from (x ∷ xs) ys first later e f = by_first (phi_word l file from x) refl (phi_words l file from xs) refl (λ rest h. words-append l file from xs ys rest later h f)
  where
    by_first : (o : Option (Loc × ℕ)) → phi_word l file from x ≡ o → (rest : Option (List (Loc × ℕ))) → phi_words l file from xs ≡ rest
        → ((others : List (Loc × ℕ)) → phi_words l file from xs ≡ Some others → phi_words l file from (xs ++ ys) ≡ Some (others ++ later))
        → phi_words l file from (x ∷ xs ++ ys) ≡ Some (first ++ later)
    by_first None g rest h next = absurd (let clash : None ≡ Some first = rw g at e in cc)
    by_first (Some word) g None h next = absurd (let clash : None ≡ Some first = rw (g, h) at e in cc)
    by_first (Some word) g (Some rest) h next =
        let all : Some (word ∷ rest) ≡ Some first = rw (g, h) at e in
        let is : word ∷ rest ≡ first = cc in
        rw (g, next rest h) (ap (λ (words : List (Loc × ℕ)). Some (words ++ later)) is)

-- the words of all phis are those of the first ones and then of the others
pub record Parted (l : LayoutParts) (file : List (Option ℕ)) (from : Loc) (xs ys : List Inst) (words : List (Loc × ℕ)) : Type 0 where
  pub first : List (Loc × ℕ)
  pub later : List (Loc × ℕ)
  pub is : words ≡ first ++ later
  pub taken : phi_words l file from ys ≡ Some later

pub words-part : (l : LayoutParts) (file : List (Option ℕ)) (from : Loc) (xs ys : List Inst) (words : List (Loc × ℕ)) → phi_words l file from (xs ++ ys) ≡ Some words
    → Parted l file from xs ys words
words-part l file from [] ys words e = record { first = []; later = words; is = refl; taken = e }
words-part l file from (x ∷ xs) ys words e = by_first (phi_word l file from x) refl (phi_words l file from (xs ++ ys)) refl (words-part l file from xs ys)
  where
    by_first : (o : Option (Loc × ℕ)) → phi_word l file from x ≡ o → (rest : Option (List (Loc × ℕ))) → phi_words l file from (xs ++ ys) ≡ rest
        → ((others : List (Loc × ℕ)) → phi_words l file from (xs ++ ys) ≡ Some others → Parted l file from xs ys others) → Parted l file from (x ∷ xs) ys words
    by_first None g rest h next = absurd (let clash : None ≡ Some words = rw g at e in cc)
    by_first (Some word) g None h next = absurd (let clash : None ≡ Some words = rw (g, h) at e in cc)
    by_first (Some word) g (Some rest) h next =
        let all : Some (word ∷ rest) ≡ Some words = rw (g, h) at e in
        let is : word ∷ rest ≡ words = cc in
        let parted = next rest h in
        record { first = word ∷ parted.first; later = parted.later; is = sym is ∙ ap (λ (others : List (Loc × ℕ)). word ∷ others) parted.is; taken = parted.taken }

-- ---- the phis of a block's image

-- the phi of an edge's name on a side
abbrev pub edge_phis_on : Option Loc → List Block → Loc → Side → List Inst
edge_phis_on None blocks at side = []
edge_phis_on (Some name) blocks at side = insts.Phi name (types.Int W1) (map (edge_arm at side) (predecessors blocks at)) ∷ []

for-side : (side : Side) (name : Option Loc) (blocks : List Block) (at : Loc) → filter_map (phi_on side) (phis_for name blocks at) ≡ edge_phis_on name blocks at side
for-side side None blocks at = refl
for-side M (Some name) blocks at = refl
for-side S (Some name) blocks at = refl

pub phis-alike : (side : Side) (hard : HBlock) (body : List Inst) (name : Option Loc) (blocks : List Block) (at : Loc) → begins_well body ≡ true
    → hard.phis ≡ flat_map phi_image body ++ phis_for name blocks at → phis_on side hard ≡ phis_of body ++ edge_phis_on name blocks at side
phis-alike side hard body name blocks at well e =
    ap (filter_map (phi_on side)) e ∙ filter_map-append (phi_on side) (flat_map phi_image body) (phis_for name blocks at)
    ∙ ap (λ (phis : List Inst). phis ++ filter_map (phi_on side) (phis_for name blocks at)) (phis-on-side side body well)
    ∙ ap (λ (phis : List Inst). phis_of body ++ phis) (for-side side name blocks at)

-- ---- the arm of a predecessor

-- in blocks of which no other has its label
pub arm-found : (at : Loc) (side : Side) (from : Block) (blocks : List Block) → IsIn from blocks → leads_to at from ≡ true
    → ((x : Block) → IsIn x blocks → x.label.0 ≡ from.label.0 → x ≡ from)
    → arm_from from.label (map (edge_arm at side) (predecessors blocks at)) ≡ Some (direction (guard_of from) at side)
arm-found at side from [] (k, there) to alone = absurd cc
arm-found at side from (x ∷ blocks) (k, there) to alone =
    by_kind (leads_to at x) refl (nat_eq x.label.0 from.label.0) refl k there
    (λ (h : IsIn from blocks). arm-found at side from blocks h to (λ y is. alone y (next-in y x blocks is)))
  where
    this : (same : x ≡ from) → leads_to at x ≡ true
    this same = ap (leads_to at) same ∙ to

    by_kind : (b : Bool) → leads_to at x ≡ b → (c : Bool) → nat_eq x.label.0 from.label.0 ≡ c → (k : ℕ) → slice_get (x ∷ blocks) k ≡ Some from
        → (IsIn from blocks → arm_from from.label (map (edge_arm at side) (predecessors blocks at)) ≡ Some (direction (guard_of from) at side))
        → arm_from from.label (map (edge_arm at side) (predecessors (x ∷ blocks) at)) ≡ Some (direction (guard_of from) at side)
    by_kind true f true g k there rest =
        let same : x ≡ from = alone x (0, refl) (eqb-true x.label.0 from.label.0 g) in
        rw (f, g) (ap (λ (y : Block). Some (direction (guard_of y) at side)) same)
    by_kind true f false g zero there rest =
        let same : x ≡ from = cc in
        absurd (let clash : true ≡ false = sym (eq-eqb x.label.0 from.label.0 (ap (λ (y : Block). y.label.0) same)) ∙ g in cc)
    by_kind true f false g (suc k) there rest = rw (f, g) (rest (k, there))
    by_kind false f c g zero there rest = let same : x ≡ from = cc in absurd (let clash : true ≡ false = sym (this same) ∙ f in cc)
    by_kind false f c g (suc k) there rest = rw f (rest (k, there))

-- a block leads to the labels of its last instruction
pub leads-to : (at : Loc) (block : Block) (i : ℕ) (inst : Inst) → slice_get block.insts i ≡ Some inst → length block.insts ≡ suc i → IsIn at (labels_of inst)
    → leads_to at block ≡ true
leads-to at block i inst there last one =
    let place : length block.insts - 1 ≡ i = omega (arith, last) in
    let labels : last_labels block.insts ≡ labels_of inst = ap (λ (k : ℕ). option_map_or labels_of (slice_get block.insts k) []) place ∙ ap (λ (o : Option Inst). option_map_or labels_of o []) there in
    ap (list_any (λ (to : Loc). nat_eq to.0 at.0)) labels ∙ among (labels_of inst) one
  where
    among : (labels : List Loc) → IsIn at labels → list_any (λ (to : Loc). nat_eq to.0 at.0) labels ≡ true
    among labels h = any-in (λ (to : Loc). nat_eq to.0 at.0) at labels h (eq-eqb at.0 at.0 refl)

pub guard-is : (block : Block) (i : ℕ) (inst : Inst) → slice_get block.insts i ≡ Some inst → length block.insts ≡ suc i → guard_of block ≡ guard_in inst
guard-is block i inst there last =
    let place : length block.insts - 1 ≡ i = omega (arith, last) in
    ap (λ (k : ℕ). guard_at (slice_get block.insts k)) place ∙ ap guard_at there

-- ---- directions

-- a guarded branch
pub record IsGuarded (inst : Inst) (g : Guard) : Type 0 where
  pub is : inst ≡ insts.CondBr (values.Reg g.on) g.first g.second
  pub two : nat_eq g.first.0 g.second.0 ≡ false

pub guarded-is : (inst : Inst) (g : Guard) → guard_in inst ≡ Some g → IsGuarded inst g
guarded-is (insts.CondBr (values.Reg on) first second) g e = by_labels (nat_eq first.0 second.0) refl e
  where
    by_labels : (b : Bool) → nat_eq first.0 second.0 ≡ b → (if b then None else Some (record { on = on; first = first; second = second })) ≡ Some g
        → IsGuarded (insts.CondBr (values.Reg on) first second) g
    by_labels true f k = cc
    by_labels false f k =
        let same : Some (record { on = on; first = first; second = second }) ≡ Some g = k in
        let is : record { on = on; first = first; second = second } ≡ g = cc in
        subst (λ (other : Guard). IsGuarded (insts.CondBr (values.Reg on) first second) other) is (record { is = refl; two = f })
guarded-is (insts.CondBr other first second) g e = cc
guarded-is inst g e = cc

-- the direction that a branch takes to a label, 0 where it isn't guarded
abbrev pub direction_to : Option Guard → Loc → ℕ
direction_to None at = 0
direction_to (Some guard) at = bit (nat_eq at.0 guard.first.0)

pub direction-small : (guard : Option Guard) (at : Loc) → direction_to guard at < 2
direction-small None at = omega arith
direction-small (Some guard) at = by_test (nat_eq at.0 guard.first.0)
  where
    by_test : (b : Bool) → bit b < 2
    by_test true = omega arith
    by_test false = omega arith

-- the word that an edge's name takes
abbrev pub edge_words : Option Loc → ℕ → List (Loc × ℕ)
edge_words None word = []
edge_words (Some name) word = (name, word) ∷ []

pub edge-words : (l : LayoutParts) (file : List (Option ℕ)) (at : Loc) (side : Side) (from : Block) (blocks : List Block) (name : Option Loc) (word : ℕ)
    → arm_from from.label (map (edge_arm at side) (predecessors blocks at)) ≡ Some (direction (guard_of from) at side)
    → typed_word l file (types.Int W1) (direction (guard_of from) at side) ≡ Some word
    → phi_words l file from.label (edge_phis_on name blocks at side) ≡ Some (edge_words name word)
edge-words l file at side from blocks None word arm e = refl
edge-words l file at side from blocks (Some name) word arm e =
    ap (λ (o : Option Val). phi_words_with (option_map (λ (n : ℕ). (name, n)) (option_and_then (typed_word l file (types.Int W1)) o)) (Some [])) arm
    ∙ ap (λ (o : Option ℕ). phi_words_with (option_map (λ (n : ℕ). (name, n)) o) (Some [])) e

-- a word of one bit
pub bit-word : (l : LayoutParts) (file : List (Option ℕ)) (value : Val) → typed_word l file (types.Int W1) value ≡ word_at l file W1 value
bit-word l file value = ap (option_and_then (λ w. word_at l file w value)) bit-width

-- the master of the name takes the direction, whatever its file
pub master-word : (l : LayoutParts) (file : List (Option ℕ)) (guard : Option Guard) (at : Loc)
    → typed_word l file (types.Int W1) (direction guard at M) ≡ Some (direction_to guard at)
master-word l file None at = bit-word l file (values.Int 0)
master-word l file (Some guard) at = by_test (nat_eq at.0 guard.first.0)
  where
    by_test : (b : Bool) → typed_word l file (types.Int W1) (values.Int (bit b)) ≡ Some (bit b)
    by_test true = bit-word l file (values.Int 1)
    by_test false = bit-word l file (values.Int 0)

-- where a guarded branch jumps, its register has the word of the direction
pub guard-word : (l : LayoutParts) (callees : List Callee) (registers : List (Option ℕ)) (inst : Inst) (g : Guard) (label : Loc) → guard_in inst ≡ Some g
    → action_of l callees registers inst ≡ Jump label → typed_word l registers (types.Int W1) (values.Reg g.on) ≡ Some (bit (nat_eq label.0 g.first.0))
guard-word l callees registers inst g label e jumps =
    by_word (get registers g.on.0) refl (ap (action_of l callees registers) (sym is.is) ∙ jumps)
  where
    is : IsGuarded inst g
    is = guarded-is inst g e

    by_bit : (n : ℕ) → n < 2 → Jump (if n == 1 then g.first else g.second) ≡ Jump label → Some n ≡ Some (bit (nat_eq label.0 g.first.0))
    by_bit zero small k =
        let same : g.second ≡ label = cc in
        let no : nat_eq label.0 g.first.0 ≡ false = other (nat_eq label.0 g.first.0) refl same in
        ap (λ (b : Bool). Some (bit b)) (sym no)
      where
        other : (b : Bool) → nat_eq label.0 g.first.0 ≡ b → g.second ≡ label → b ≡ false
        other false f same = refl
        other true f same =
            let one : g.first.0 ≡ g.second.0 = sym (eqb-true label.0 g.first.0 f) ∙ ap (λ (at : Loc). at.0) (sym same) in
            let clash : true ≡ false = sym (eq-eqb g.first.0 g.second.0 one) ∙ is.two in cc
    by_bit (suc zero) small k =
        let same : g.first ≡ label = cc in
        ap (λ (b : Bool). Some (bit b)) (sym (eq-eqb label.0 g.first.0 (ap (λ (at : Loc). at.0) (sym same))))
    by_bit (suc (suc n)) small k = absurd (omega (arith, small))

    by_word : (o : Option ℕ) → get registers g.on.0 ≡ o → on_word (word_at l registers W1 (values.Reg g.on)) (λ c. Jump (if c == 1 then g.first else g.second)) ≡ Jump label
        → typed_word l registers (types.Int W1) (values.Reg g.on) ≡ Some (bit (nat_eq label.0 g.first.0))
    by_word None f k = absurd (let clash : on_word None (λ c. Jump (if c == 1 then g.first else g.second)) ≡ Jump label = ap (λ (o : Option ℕ). on_word (option_map (λ (word : ℕ). word % 2) o) (λ c. Jump (if c == 1 then g.first else g.second))) (sym f) ∙ k in cc)
    by_word (Some n) f k =
        let small : n % 2 < 2 = omega arith in
        bit-word l registers (values.Reg g.on) ∙ ap (option_map (λ (word : ℕ). word % 2)) f
        ∙ by_bit (n % 2) small (ap (λ (o : Option ℕ). on_word (option_map (λ (word : ℕ). word % 2) o) (λ c. Jump (if c == 1 then g.first else g.second))) (sym f) ∙ k)

-- so its shadow gives the name the direction that the source takes
pub shadow-word : (l : LayoutParts) (callees : List Callee) (registers file : List (Option ℕ)) (inst : Inst) (label : Loc) → action_of l callees registers inst ≡ Jump label
    → ((at : Loc) → IsIn at (regs_in inst) → get file at.0 ≡ get registers at.0)
    → typed_word l file (types.Int W1) (direction (guard_in inst) label S) ≡ Some (direction_to (guard_in inst) label)
shadow-word l callees registers file inst label jumps same = by_guard (guard_in inst) refl
  where
    by_guard : (o : Option Guard) → guard_in inst ≡ o → typed_word l file (types.Int W1) (direction o label S) ≡ Some (direction_to o label)
    by_guard None e = bit-word l file (values.Int 0)
    by_guard (Some g) e =
        let reads : IsIn g.on (regs_in inst) = subst (λ (other : Inst). IsIn g.on (regs_in other)) (sym (guarded-is inst g e).is) (0, refl) in
        bit-word l file (values.Reg g.on) ∙ ap (option_map (λ (word : ℕ). word % 2)) (same g.on reads) ∙ sym (bit-word l registers (values.Reg g.on))
        ∙ guard-word l callees registers inst g label e jumps
