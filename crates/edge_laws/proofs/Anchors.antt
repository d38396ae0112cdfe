-- After which name a block's new name comes: one that the block defines, so that no two blocks of an accepted module have the same.
use Rattle.std.proofs.Common.{ℕ, zero, suc, ◌≡◌, ◌∙◌, ◌+◌, ◌≤◌, Bool, true, false, List, [], ◌∷◌, ◌++◌, map, length, Option, Some, None, slice_get, refl, ap, sym as flip, subst, arith, append_assoc}
use Rattle.std.specs.Prelude.{nat_eq, if◌then◌else◌}
use Rattle.std.specs.List.{flat_map, cons_option}
use Rattle.std.specs.Option.{option_map}
use Rattle.std.proofs.lemmas.Bool.{eq-eqb}
use Rattle.std.proofs.lemmas.Grind.{flat_map-append}
use Rattle.ir_core.specs.declared.types.Ty.{Ty}
use Rattle.ir_core.specs.declared.types.Loc.{Loc}
use Rattle.ir_core.specs.declared.instruction.Inst.{Inst}
use Rattle.ir_core.specs.declared.instruction.Inst.TheVariants as insts
use Rattle.ir_core.specs.declared.instruction.Block.{Block}
use Rattle.ir_core.specs.Instructions.{result_of}
use Rattle.ir_core.specs.Module.{ModuleParts, FuncParts}
use Rattle.ir_lines.specs.Lines.{Line, TypeLine, GlobalLine, DeclareLine, HeadLine, lines_of, inst_lines, block_lines, blocks_lines, func_lines, funcs_lines}
use Rattle.ir_lines.specs.declared.site.Named.{Named}
use Rattle.ir_lines.specs.declared.site.Named.TheVariants as names
use Rattle.ir_names.specs.Names.{same_name, defined_in, definitions}
use Rattle.ir_check.proofs.Members.{IsIn, next-in, in-back}
use Rattle.hard_ir.specs.declared.instruction.HBlock.{HBlock}
use Rattle.hard_ir.specs.Image.{Table, phi_image}
use Rattle.hard_ir.specs.Hardened.{hard_block, ticked_block}
use Rattle.hard_ir.specs.Fit.{HardFunc, outer_lines}
use Rattle.hard_ir.specs.EdgeChecks.{Marks, anchor_from, anchor_of, mark_of, mark_if, is_edged, plain_blocks, marks_from, names_after}
use Rattle.hard_laws.proofs.Accepted.{Sound}
use Rattle.hard_laws.proofs.Tallies.{tally, tally-append, counted, defined-once, nat-same}
use Rattle.hard_laws.proofs.Definitions.{source-names}

-- ---- what a block defines

abbrev pub result_list : Inst → List Loc
result_list inst = cons_option (result_of inst) []

abbrev pub defs : Block → List Loc
defs block = block.label ∷ flat_map result_list block.insts

-- the same name
abbrev pub is_at : ℕ → Loc → Bool
is_at at loc = nat_eq at loc.0

anchor-in : (at : Loc) (body : List Inst) → IsIn (anchor_from at (flat_map phi_image body)) (at ∷ flat_map result_list body)
anchor-in at [] = (0, refl)
anchor-in at (insts.Phi dst ty arms ∷ body) = next-in _ at (dst ∷ flat_map result_list body) (anchor-in dst body)
anchor-in at (inst ∷ body) = by_inst (anchor-in at body) (flat_map result_list body) (result_list inst) refl
  where
    by_inst : IsIn (anchor_from at (flat_map phi_image body)) (at ∷ flat_map result_list body) → (rest own : List Loc) → flat_map result_list body ≡ rest
        → IsIn (anchor_from at (flat_map phi_image body)) (at ∷ own ++ rest)
    by_inst (zero, there) rest own e = (0, there)
    by_inst (suc k, there) rest own e = next-in _ at (own ++ rest) (in-back _ own rest (subst (IsIn (anchor_from at (flat_map phi_image body))) e (k, there)))

among : (at : ℕ) (x : Loc) (xs : List Loc) → x.0 ≡ at → IsIn x xs → 1 ≤ tally (is_at at) xs
among at x [] e (k, there) = cc
among at x (y ∷ xs) e (zero, there) =
    let same : y ≡ x = cc in
    let test : nat_eq at y.0 ≡ true = ap (λ (z : Loc). nat_eq at z.0) same ∙ eq-eqb at x.0 (flip e) in
    rw test (omega arith)
among at x (y ∷ xs) e (suc k, there) = by_test (nat_eq at y.0) (among at x xs e (k, there))
  where
    by_test : (b : Bool) → 1 ≤ tally (is_at at) xs → 1 ≤ counted b (tally (is_at at) xs)
    by_test true h = omega arith
    by_test false h = h

anchor-tally : (table : Table) (f : FuncParts) (b : ℕ) (block : Block) (at : ℕ) → anchor_of (ticked_block (hard_block table f b block)) ≡ at → 1 ≤ tally (is_at at) (defs block)
anchor-tally table f b block at e = among at (anchor_from block.label (flat_map phi_image block.insts)) (defs block) e (anchor-in block.label block.insts)

-- ---- no name is defined in two blocks

one-in : {A B : Type 0} (test : B → Bool) (g : A → List B) (xs : List A) (j : ℕ) (y : A) → slice_get xs j ≡ Some y → 1 ≤ tally test (g y) → 1 ≤ tally test (flat_map g xs)
one-in test g [] j y there q = cc
one-in test g (w ∷ xs) zero y there q =
    let same : w ≡ y = cc in
    let parts = tally-append test (g w) (flat_map g xs) in
    let own : 1 ≤ tally test (g w) = subst (λ w. 1 ≤ tally test (g w)) (flip same) q in
    omega arith
one-in test g (w ∷ xs) (suc j) y there q = let parts = tally-append test (g w) (flat_map g xs) in let rest = one-in test g xs j y there q in omega arith

two-in : {A B : Type 0} (test : B → Bool) (g : A → List B) (z : A) (xs : List A) (j : ℕ) (y : A) → 1 ≤ tally test (g z) → slice_get xs j ≡ Some y → 1 ≤ tally test (g y)
    → tally test (flat_map g (z ∷ xs)) ≤ 1 → ⊥
two-in test g z xs j y own there q few = let parts = tally-append test (g z) (flat_map g xs) in let more = one-in test g xs j y there q in omega arith

flat-apart : {A B : Type 0} (test : B → Bool) (g : A → List B) (xs : List A) (i j : ℕ) (x y : A) → slice_get xs i ≡ Some x → slice_get xs j ≡ Some y
    → 1 ≤ tally test (g x) → 1 ≤ tally test (g y) → tally test (flat_map g xs) ≤ 1 → i ≡ j
flat-apart test g [] i j x y at there p q few = cc
flat-apart test g (z ∷ xs) zero zero x y at there p q few = refl
flat-apart test g (z ∷ xs) (suc i) (suc j) x y at there p q few =
    let parts = tally-append test (g z) (flat_map g xs) in
    ap suc (flat-apart test g xs i j x y at there p q (omega arith))
flat-apart test g (z ∷ xs) zero (suc j) x y at there p q few = let same : z ≡ x = cc in absurd (two-in test g z xs j y (subst (λ w. 1 ≤ tally test (g w)) (flip same) p) there q few)
flat-apart test g (z ∷ xs) (suc i) zero x y at there p q few = let same : z ≡ y = cc in absurd (two-in test g z xs i x (subst (λ w. 1 ≤ tally test (g w)) (flip same) q) at p few)

-- the lines of blocks define these
results-named : (n : ℕ) (f : FuncParts) (b i : ℕ) (body : List Inst) → flat_map defined_in (inst_lines n f b i body) ≡ map (names.Loc n) (flat_map result_list body)
results-named n f b i [] = refl
results-named n f b i (inst ∷ body) = by_result (result_of inst) (results-named n f b (i + 1) body)
  where
    by_result : (o : Option Loc) → flat_map defined_in (inst_lines n f b (i + 1) body) ≡ map (names.Loc n) (flat_map result_list body)
        → cons_option (option_map (names.Loc n) o) [] ++ flat_map defined_in (inst_lines n f b (i + 1) body) ≡ map (names.Loc n) (cons_option o [] ++ flat_map result_list body)
    by_result None rest = rest
    by_result (Some at) rest = ap (λ (xs : List Named). names.Loc n at ∷ xs) rest

named-tally : (n at : ℕ) (locs : List Loc) → tally (same_name (names.Loc n (record { 0 = at }))) (map (names.Loc n) locs) ≡ tally (is_at at) locs
named-tally n at [] = refl
named-tally n at (loc ∷ locs) = rw (nat-same n, named-tally n at locs) refl

pub blocks-tally : (n at : ℕ) (f : FuncParts) (b : ℕ) (blocks : List Block)
    → tally (same_name (names.Loc n (record { 0 = at }))) (flat_map defined_in (blocks_lines n f b blocks)) ≡ tally (is_at at) (flat_map defs blocks)
blocks-tally n at f b [] = refl
blocks-tally n at f b (block ∷ blocks) =
    let k : Named = names.Loc n (record { 0 = at }) in
    let own : flat_map defined_in (block_lines n f b block) ≡ map (names.Loc n) (defs block) = ap (λ (xs : List Named). names.Loc n block.label ∷ xs) (results-named n f b 0 block.insts) in
    let here : tally (same_name k) (flat_map defined_in (block_lines n f b block)) ≡ tally (is_at at) (defs block) = ap (tally (same_name k)) own ∙ named-tally n at (defs block) in
    let rest = blocks-tally n at f (b + 1) blocks in
    let both = tally-append (same_name k) (flat_map defined_in (block_lines n f b block)) (flat_map defined_in (blocks_lines n f (b + 1) blocks)) in
    let parts = tally-append (is_at at) (defs block) (flat_map defs blocks) in
    let joined : tally (same_name k) (flat_map defined_in (block_lines n f b block ++ blocks_lines n f (b + 1) blocks))
    ≡ tally (same_name k) (flat_map defined_in (block_lines n f b block)) + tally (same_name k) (flat_map defined_in (blocks_lines n f (b + 1) blocks)) =
    ap (tally (same_name k)) (flat_map-append defined_in (block_lines n f b block) (blocks_lines n f (b + 1) blocks)) ∙ both in
    omega (arith, joined, here, rest, parts)

-- so many of a part are in the whole
pub lines-tally : (k : Named) (xs ys : List Line) → tally (same_name k) (flat_map defined_in (xs ++ ys)) ≡ tally (same_name k) (flat_map defined_in xs) + tally (same_name k) (flat_map defined_in ys)
lines-tally k xs ys = ap (tally (same_name k)) (flat_map-append defined_in xs ys) ∙ tally-append (same_name k) (flat_map defined_in xs) (flat_map defined_in ys)

in-funcs : (k : Named) (start i n : ℕ) (f : FuncParts) (funcs : List FuncParts) → slice_get funcs i ≡ Some f → n ≡ start + i
    → tally (same_name k) (flat_map defined_in (blocks_lines n f 0 f.blocks)) ≤ tally (same_name k) (flat_map defined_in (funcs_lines start funcs))
in-funcs k start i n f [] at e = cc
in-funcs k start zero n f (g ∷ funcs) at e =
    let same : g ≡ f = cc in
    let number : start ≡ n = omega (arith, e) in
    let parts = lines-tally k (func_lines start g) (funcs_lines (start + 1) funcs) in
    let own = lines-tally k (HeadLine start g ∷ []) (blocks_lines start g 0 g.blocks) in
    let here : tally (same_name k) (flat_map defined_in (blocks_lines start g 0 g.blocks)) ≡ tally (same_name k) (flat_map defined_in (blocks_lines n f 0 f.blocks)) =
    ap (λ (x : ℕ). tally (same_name k) (flat_map defined_in (blocks_lines x g 0 g.blocks))) number ∙ ap (λ (x : FuncParts). tally (same_name k) (flat_map defined_in (blocks_lines n x 0 x.blocks))) same in
    omega (arith, parts, own, here)
in-funcs k start (suc i) n f (g ∷ funcs) at e =
    let parts = lines-tally k (func_lines start g) (funcs_lines (start + 1) funcs) in
    let rest = in-funcs k (start + 1) i n f funcs at (omega (arith, e)) in
    omega (arith, parts, rest)

params-tally : (n at : ℕ) (params : List (Ty × Loc)) → tally (same_name (names.Loc n (record { 0 = at }))) (map (λ (param : Ty × Loc). names.Loc n param.1) params) ≡ tally (is_at at) (map (λ (param : Ty × Loc). param.1) params)
params-tally n at [] = refl
params-tally n at (param ∷ params) = rw (nat-same n, params-tally n at params) refl

-- parameters and blocks
in-heads : (k : Named) (start i n : ℕ) (f : FuncParts) (funcs : List FuncParts) → slice_get funcs i ≡ Some f → n ≡ start + i
    → tally (same_name k) (map (λ (param : Ty × Loc). names.Loc n param.1) f.params) + tally (same_name k) (flat_map defined_in (blocks_lines n f 0 f.blocks)) ≤ tally (same_name k) (flat_map defined_in (funcs_lines start funcs))
in-heads k start i n f [] at e = cc
in-heads k start zero n f (g ∷ funcs) at e =
    let same : g ≡ f = cc in
    let number : start ≡ n = omega (arith, e) in
    let parts = lines-tally k (func_lines start g) (funcs_lines (start + 1) funcs) in
    let own = lines-tally k (HeadLine start g ∷ []) (blocks_lines start g 0 g.blocks) in
    let here : tally (same_name k) (flat_map defined_in (blocks_lines start g 0 g.blocks)) ≡ tally (same_name k) (flat_map defined_in (blocks_lines n f 0 f.blocks)) =
    ap (λ (x : ℕ). tally (same_name k) (flat_map defined_in (blocks_lines x g 0 g.blocks))) number ∙ ap (λ (x : FuncParts). tally (same_name k) (flat_map defined_in (blocks_lines n x 0 x.blocks))) same in
    let params : tally (same_name k) (map (λ (param : Ty × Loc). names.Loc start param.1) g.params) ≡ tally (same_name k) (map (λ (param : Ty × Loc). names.Loc n param.1) f.params) =
    ap (λ (x : ℕ). tally (same_name k) (map (λ (param : Ty × Loc). names.Loc x param.1) g.params)) number ∙ ap (λ (x : FuncParts). tally (same_name k) (map (λ (param : Ty × Loc). names.Loc n param.1) x.params)) same in
    let head = tally-append (same_name k) (map (λ (param : Ty × Loc). names.Loc start param.1) g.params) [] in
    let more = by_test (same_name k (names.Sym g.sym)) (tally (same_name k) (map (λ (param : Ty × Loc). names.Loc start param.1) g.params ++ [])) in
    omega (arith, parts, own, here, params, head, more)
  where
    by_test : (b : Bool) (x : ℕ) → x ≤ counted b x
    by_test true x = omega arith
    by_test false x = omega arith
in-heads k start (suc i) n f (g ∷ funcs) at e =
    let parts = lines-tally k (func_lines start g) (funcs_lines (start + 1) funcs) in
    let rest = in-heads k (start + 1) i n f funcs at (omega (arith, e)) in
    omega (arith, parts, rest)

module _ (m : ModuleParts) (sound : Sound m) (n : ℕ) (f : FuncParts) (here : slice_get m.funcs n ≡ Some f) where
  few-defs : (at : ℕ) → tally (is_at at) (flat_map defs f.blocks) ≤ 1
  few-defs at =
      let k : Named = names.Loc n (record { 0 = at }) in
      let whole : tally (same_name k) (flat_map defined_in (lines_of m)) ≤ 1 = subst (λ (xs : List Named). tally (same_name k) xs ≤ 1) (source-names m) (defined-once k (definitions m) sound.distinct) in
      let parts : tally (same_name k) (flat_map defined_in (lines_of m)) ≡ tally (same_name k) (flat_map defined_in (outer_lines m)) + tally (same_name k) (flat_map defined_in (funcs_lines 0 m.funcs)) =
      ap (λ (xs : List Line). tally (same_name k) (flat_map defined_in xs)) (flip (append_assoc (map TypeLine m.types ++ map GlobalLine m.globals) (map DeclareLine m.declares) (funcs_lines 0 m.funcs)))
      ∙ lines-tally k (outer_lines m) (funcs_lines 0 m.funcs) in
      let own = in-funcs k 0 n n f m.funcs here (omega arith) in
      let counts = blocks-tally n at f 0 f.blocks in
      omega (arith, whole, parts, own, counts)

  -- parameters too
  pub few-all-defs : (at : ℕ) → tally (is_at at) (map (λ (param : Ty × Loc). param.1) f.params ++ flat_map defs f.blocks) ≤ 1
  few-all-defs at =
      let k : Named = names.Loc n (record { 0 = at }) in
      let whole : tally (same_name k) (flat_map defined_in (lines_of m)) ≤ 1 = subst (λ (xs : List Named). tally (same_name k) xs ≤ 1) (source-names m) (defined-once k (definitions m) sound.distinct) in
      let parts : tally (same_name k) (flat_map defined_in (lines_of m)) ≡ tally (same_name k) (flat_map defined_in (outer_lines m)) + tally (same_name k) (flat_map defined_in (funcs_lines 0 m.funcs)) =
      ap (λ (xs : List Line). tally (same_name k) (flat_map defined_in xs)) (flip (append_assoc (map TypeLine m.types ++ map GlobalLine m.globals) (map DeclareLine m.declares) (funcs_lines 0 m.funcs)))
      ∙ lines-tally k (outer_lines m) (funcs_lines 0 m.funcs) in
      let own = in-heads k 0 n n f m.funcs here (omega arith) in
      let blocks = blocks-tally n at f 0 f.blocks in
      let params = params-tally n at f.params in
      let both = tally-append (is_at at) (map (λ (param : Ty × Loc). param.1) f.params) (flat_map defs f.blocks) in
      omega (arith, whole, parts, own, blocks, params, both)

  -- blocks of one anchor are one
  pub anchor-apart : (table : Table) (i j : ℕ) (a b : Block) → slice_get f.blocks i ≡ Some a → slice_get f.blocks j ≡ Some b
      → anchor_of (ticked_block (hard_block table f i a)) ≡ anchor_of (ticked_block (hard_block table f j b)) → i ≡ j
  anchor-apart table i j a b at there same =
      let name : ℕ = anchor_of (ticked_block (hard_block table f j b)) in
      flat-apart (is_at name) defs f.blocks i j a b at there (anchor-tally table f i a name same) (anchor-tally table f j b name refl) (few-defs name)

-- ---- marks

more-if : (b : Bool) (mark : ℕ × List ℕ) (at : ℕ) (marks : Marks) → 1 ≤ length (names_after at marks) → 1 ≤ length (names_after at (mark_if b mark marks))
more-if false mark at marks h = h
more-if true mark at marks h = by_test (nat_eq mark.0 at)
  where
    by_test : (c : Bool) → 1 ≤ length (if c then mark.1 ∷ names_after at marks else names_after at marks)
    by_test true = omega arith
    by_test false = h

-- a block that checks its edges has a new name after its anchor
pub has-mark : (chosen : ℕ → Bool) (f : HardFunc) (blocks : List HBlock) (start i b : ℕ) (block : HBlock) → slice_get blocks i ≡ Some block → b ≡ start + i
    → is_edged chosen (plain_blocks f) b block ≡ true → 1 ≤ length (names_after (anchor_of block) (marks_from chosen f start blocks))
has-mark chosen f [] start i b block at e edged = cc
has-mark chosen f (x ∷ blocks) start zero b block at e edged =
    let same : x ≡ block = cc in
    let number : b ≡ start = omega (arith, e) in
    let test : is_edged chosen (plain_blocks f) start x ≡ true = ap (λ (y : HBlock). is_edged chosen (plain_blocks f) start y) same ∙ ap (λ (k : ℕ). is_edged chosen (plain_blocks f) k block) (flip number) ∙ edged in
    let here : nat_eq (anchor_of x) (anchor_of block) ≡ true = eq-eqb (anchor_of x) (anchor_of block) (ap anchor_of same) in
    rw (test, here) (omega arith)
has-mark chosen f (x ∷ blocks) start (suc i) b block at e edged =
    more-if (is_edged chosen (plain_blocks f) start x) (mark_of f start x) (anchor_of block) (marks_from chosen f (suc start) blocks)
    (has-mark chosen f blocks (suc start) i b block at (omega (arith, e)) edged)
