-- The hardened module of an accepted module fits with checks on its edges, where no function gets too many names.
use Rattle.std.proofs.Common.{cond, not, ltb, ℕ, zero, suc, ◌≡◌, ◌∙◌, ◌+◌, ◌≤◌, Bool, true, false, List, [], ◌∷◌, map, length, Option, Some, None, slice_get, refl, ap, sym as flip, subst, arith}
use Rattle.std.specs.Prelude.{nat_lt, position}
use Rattle.std.specs.List.{position_or_len}
use Rattle.std.specs.Option.{option_map}
use Rattle.std.proofs.lemmas.Option.{slice_get-map}
use Rattle.std.proofs.lemmas.Bool.Decides.{nat_tests}
use Rattle.std.proofs.lemmas.List.{length-map, length-append}
use Rattle.ir_core.specs.declared.types.Loc.{Loc}
use Rattle.ir_core.specs.declared.instruction.Block.{Block}
use Rattle.ir_core.specs.Module.{ModuleParts, FuncParts}
use Rattle.ir_check.specs.Faults.{IsAccepted}
use Rattle.ir_parse_top.specs.Text.{IsOfText, numerals_for}
use Rattle.ir_parse_top.specs.Sheet.{with_numerals}
use Rattle.hard_ir.specs.declared.instruction.HInst.{HInst}
use Rattle.hard_ir.specs.declared.instruction.HInst.TheVariants.{Cut, Begin, End, Tick, Chk, ChkMem, Mov, Do}
use Rattle.hard_ir.specs.declared.instruction.HBlock.{HBlock}
use Rattle.hard_ir.specs.Image.{Table, split_table, with_work, to_ender, since_ender, ticked}
use Rattle.hard_ir.specs.Hardened.{HardParts, heads_of, hard_block, ticked_block, harden}
use Rattle.hard_ir.specs.Fit.{Fits, HardFunc, hard_funcs}
use Rattle.hard_ir.specs.Images.{is_named}
use Rattle.hard_ir.specs.EdgeChecks.{Marks, marks_of, names_after, with_names, raised, bit, edge_check, edged_func, edged_funcs, with_funcs, edged_by, edged, is_over, first_over}
use Rattle.hard_laws.proofs.Accepted.{Sound, sound}
use Rattle.hard_laws.proofs.Rows.{split-is-table}
use Rattle.hard_laws.proofs.Fitting.{fits, bare-ticked}
use Rattle.hard_laws.proofs.Numbered.{bare, bare_block, bare_module, bare-fits, fits-bare}
use Rattle.renamed_modules.specs.Numbered.{AreNumbered, HasFewNames}
use Rattle.renamed_modules.proofs.NumberedModules.{are-numbered}
use Rattle.renamed_modules.proofs.RenamedAccepted.{accepted-where-few}
use Rattle.edge_laws.proofs.RaisedNumbers.{raised-step}
use Rattle.edge_laws.proofs.RaisedTicks.{bare-raised}
use Rattle.edge_laws.proofs.Edged.{hard_of, renumbered, edged-count, name_at, marks, named, new-name, one-block, with_name, made-of}
use Rattle.edge_laws.proofs.EdgedModules.{renumbered_funcs, renumbered_module, renumbered-at, edged-is, harden-funcs, heads-same, same-module}
use Rattle.edge_laws.proofs.WithEdges.{edge_on, edge_blocks, edge_funcs, edge_module}
use Rattle.edge_laws.proofs.EdgeDefinitions.{Asked}
use Rattle.edge_laws.proofs.EdgeFits.{edges-fit}

-- ---- names by the numbers of function and block

abbrev pub name_in : ModuleParts → (ℕ → Bool) → Option FuncParts → ℕ → Option Loc
name_in m chosen None b = None
name_in m chosen (Some f) b = name_at m chosen f b

abbrev pub names_for : ModuleParts → (ℕ → ℕ → Bool) → ℕ → ℕ → Option Loc
names_for m chosen n = name_in m (chosen n) (slice_get m.funcs n)

-- ---- lists that are the same at each place

same-lists : {A : Type 0} (xs ys : List A) → length xs ≡ length ys → ((k : ℕ) (x y : A) → slice_get xs k ≡ Some x → slice_get ys k ≡ Some y → x ≡ y) → xs ≡ ys
same-lists [] [] count same = refl
same-lists [] (y ∷ ys) count same = absurd (omega (arith, count))
same-lists (x ∷ xs) [] count same = absurd (omega (arith, count))
same-lists {A} (x ∷ xs) (y ∷ ys) count same =
    ap (λ (z : A). z ∷ xs) (same 0 x y refl refl) ∙ ap (λ (zs : List A). y ∷ zs) (same-lists xs ys (omega (arith, count)) (λ k a b at there. same (suc k) a b at there))

from-map : {A B : Type 0} (f : A → B) (xs : List A) (k : ℕ) (y : B) → slice_get (map f xs) k ≡ Some y → (x : A) × (slice_get xs k ≡ Some x) × (f x ≡ y)
from-map f [] k y at = cc
from-map f (x ∷ xs) zero y at = (x, refl, cc)
from-map f (x ∷ xs) (suc k) y at = from-map f xs k y at

-- ---- one function

edge-at : (table : Table) (f : FuncParts) (of : ℕ → Option Loc) (start i b : ℕ) (blocks : List Block) (made : HBlock) → b ≡ start + i → slice_get (edge_blocks table f of start blocks) i ≡ Some made
    → (block : Block) × (slice_get blocks i ≡ Some block) × (edge_on (of b) f.blocks (hard_block table f b block) ≡ made)
edge-at table f of start i b [] made e at = cc
edge-at table f of start zero b (x ∷ blocks) made e at =
    let number : start ≡ b = omega (arith, e) in
    (x, refl, ap (λ (k : ℕ). edge_on (of k) f.blocks (hard_block table f k x)) (flip number) ∙ (let same : edge_on (of start) f.blocks (hard_block table f start x) ≡ made = cc in same))
edge-at table f of start (suc i) b (x ∷ blocks) made e at = edge-at table f of (start + 1) i b blocks made (omega (arith, e)) at

edge-length : (table : Table) (f : FuncParts) (of : ℕ → Option Loc) (b : ℕ) (blocks : List Block) → length (edge_blocks table f of b blocks) ≡ length blocks
edge-length table f of b [] = refl
edge-length table f of b (x ∷ blocks) = ap suc (edge-length table f of (b + 1) blocks)

module _ (m : ModuleParts) (chosen : ℕ → ℕ → Bool) (held : Sound m) where
  abbrev other : ModuleParts
  other = renumbered_module m chosen

  module _ (n : ℕ) (f : FuncParts) (here : slice_get m.funcs n ≡ Some f) where
    abbrev g : FuncParts
    g = renumbered m (chosen n) f

    bare-block : (o : Option Loc) (b : ℕ) (block : Block)
        → bare_block (with_name m (chosen n) held n f here other refl o (ticked_block (hard_block (split_table other) g b block))) ≡ bare_block (edge_on o g.blocks (hard_block (split_table other) g b block))
    bare-block None b block =
        ap (λ (list : List HInst). let made : HBlock = record (hard_block (split_table other) g b block) { list = list } in made) (bare-ticked 0 (hard_block (split_table other) g b block).list)
    bare-block (Some name) b block =
        ap (λ (list : List HInst). let made : HBlock = record (edge_on (Some name) g.blocks (hard_block (split_table other) g b block)) { list = edge_check name ∷ list } in made)
        (bare-raised (ticked 0 (hard_block (split_table other) g b block).list) ∙ bare-ticked 0 (hard_block (split_table other) g b block).list)

    bare-func : map bare_block (edged_func (chosen n) (hard_of m f)).1 ≡ map bare_block (edge_blocks (split_table other) g (name_at m (chosen n) f) 0 g.blocks)
    bare-func = same-lists (map bare_block (edged_func (chosen n) (hard_of m f)).1) (map bare_block (edge_blocks (split_table other) g (name_at m (chosen n) f) 0 g.blocks)) counts each
      where
        counts : length (map bare_block (edged_func (chosen n) (hard_of m f)).1) ≡ length (map bare_block (edge_blocks (split_table other) g (name_at m (chosen n) f) 0 g.blocks))
        counts =
            length-map (edged_func (chosen n) (hard_of m f)).1 bare_block ∙ edged-count m (chosen n) f
            ∙ flip (length-map (edge_blocks (split_table other) g (name_at m (chosen n) f) 0 g.blocks) bare_block ∙ edge-length (split_table other) g (name_at m (chosen n) f) 0 g.blocks)

        each : (k : ℕ) (x y : HBlock) → slice_get (map bare_block (edged_func (chosen n) (hard_of m f)).1) k ≡ Some x
            → slice_get (map bare_block (edge_blocks (split_table other) g (name_at m (chosen n) f) 0 g.blocks)) k ≡ Some y → x ≡ y
        each k x y at there =
            let one = from-map bare_block (edged_func (chosen n) (hard_of m f)).1 k x at in
            let two = from-map bare_block (edge_blocks (split_table other) g (name_at m (chosen n) f) 0 g.blocks) k y there in
            let made = made-of m (chosen n) held n f here other refl k one.0 one.1 in
            let edge = edge-at (split_table other) g (name_at m (chosen n) f) 0 k k g.blocks two.0 (omega arith) two.1 in
            let found : Some made.block ≡ Some edge.0 = flip made.source ∙ edge.1 in
            let same : made.block ≡ edge.0 = cc in
            flip one.2 ∙ ap bare_block (flip made.is) ∙ bare-block (name_at m (chosen n) f k) k made.block
            ∙ ap (λ (z : Block). bare_block (edge_on (name_at m (chosen n) f k) g.blocks (hard_block (split_table other) g k z))) same ∙ ap bare_block edge.2 ∙ two.2

  bare-funcs : (start : ℕ) (funcs : List FuncParts) → ((k : ℕ) (f : FuncParts) → slice_get funcs k ≡ Some f → slice_get m.funcs (start + k) ≡ Some f)
      → map (map bare_block) (map (λ (f : HardFunc). f.1) (edged_funcs chosen start (map (hard_of m) funcs)))
      ≡ map (map bare_block) (map (λ (f : HardFunc). f.1) (edge_funcs (split_table other) (names_for m chosen) start (renumbered_funcs m chosen start funcs)))
  bare-funcs start [] there = refl
  bare-funcs start (f ∷ funcs) there =
      let here : slice_get m.funcs start ≡ Some f = subst (λ (k : ℕ). slice_get m.funcs k ≡ Some f) (omega arith) (there 0 f refl) in
      let next : start + 1 ≡ suc start = omega arith in
      let rest = bare-funcs (suc start) funcs (λ k x h. subst (λ (j : ℕ). slice_get m.funcs j ≡ Some x) (omega arith) (there (suc k) x h)) in
      let own : map bare_block (edge_blocks (split_table other) (renumbered m (chosen start) f) (name_at m (chosen start) f) 0 (renumbered m (chosen start) f).blocks)
      ≡ map bare_block (edge_blocks (split_table other) (renumbered m (chosen start) f) (names_for m chosen start) 0 (renumbered m (chosen start) f).blocks) =
      ap (λ (o : Option FuncParts). map bare_block (edge_blocks (split_table other) (renumbered m (chosen start) f) (name_in m (chosen start) o) 0 (renumbered m (chosen start) f).blocks)) (flip here) in
      ap (λ (blocks : List HBlock). blocks ∷ map (map bare_block) (map (λ (f : HardFunc). f.1) (edged_funcs chosen (suc start) (map (hard_of m) funcs)))) (bare-func start f here ∙ own)
      ∙ ap (λ (more : List (List HBlock)). map bare_block (edge_blocks (split_table other) (renumbered m (chosen start) f) (names_for m chosen start) 0 (renumbered m (chosen start) f).blocks) ∷ more)
      (rest ∙ ap (λ (k : ℕ). map (map bare_block) (map (λ (f : HardFunc). f.1) (edge_funcs (split_table other) (names_for m chosen) k (renumbered_funcs m chosen (suc start) funcs)))) (flip next))

  bare-edged : bare_module (edged_by chosen (harden m)) ≡ bare_module (edge_module (split_table other) (names_for m chosen) other)
  bare-edged =
      ap bare_module (edged-is m chosen)
      ∙ ap (λ (funcs : List (List HBlock)). let h : HardParts = record { heads = (with_funcs (harden m) (edged_funcs chosen 0 (map (hard_of m) m.funcs))).heads; funcs = funcs } in h)
      (bare-funcs 0 m.funcs (λ k f at. subst (λ (j : ℕ). slice_get m.funcs j ≡ Some f) (omega arith) at))
      ∙ ap (λ (funcs : List FuncParts). let h : HardParts = record { heads = record (heads_of m) { funcs = funcs }; funcs = map (map bare_block) (map (λ (f : HardFunc). f.1) (edge_funcs (split_table other) (names_for m chosen) 0 other.funcs)) } in h)
      (heads-same m chosen 0 m.funcs)

  -- ---- what is asked of the names

  asked : Asked other (names_for m chosen)
  asked = record {
    new = λ n b h name at e.
        let own = renumbered-at m chosen 0 n n m.funcs h (omega arith) at in
        let named_here : name_at m (chosen n) own.0 b ≡ Some name = ap (λ (o : Option FuncParts). name_in m (chosen n) o b) (flip own.1) ∙ e in
        ap (λ (x : FuncParts). is_named x name) (flip own.2) ∙ new-name m (chosen n) held n own.0 own.1 b name (named m (chosen n) held n own.0 own.1 b name named_here);
    single = λ n i j name e h. by_func n i j name (slice_get m.funcs n) refl e h;
  }
    where
      by_func : (n i j : ℕ) (name : Loc) (o : Option FuncParts) → slice_get m.funcs n ≡ o → name_in m (chosen n) (slice_get m.funcs n) i ≡ Some name → name_in m (chosen n) (slice_get m.funcs n) j ≡ Some name → i ≡ j
      by_func n i j name None at e h = let clash : None ≡ Some name = ap (λ (o : Option FuncParts). name_in m (chosen n) o i) (flip at) ∙ e in cc
      by_func n i j name (Some f) at e h =
          let one : name_at m (chosen n) f i ≡ Some name = ap (λ (o : Option FuncParts). name_in m (chosen n) o i) (flip at) ∙ e in
          let two : name_at m (chosen n) f j ≡ Some name = ap (λ (o : Option FuncParts). name_in m (chosen n) o j) (flip at) ∙ h in
          one-block m (chosen n) held n f at i j name (named m (chosen n) held n f at i name one) (named m (chosen n) held n f at j name two)

-- whichever blocks are chosen
pub edged-fits : (m : ModuleParts) (chosen : ℕ → ℕ → Bool) → IsAccepted m → IsAccepted (renumbered_module m chosen) → Fits (edged_by chosen (harden m))
edged-fits m chosen accepted again =
    let other = renumbered_module m chosen in
    let table = split_table other in
    bare-fits (edged_by chosen (harden m))
    (subst Fits (flip (bare-edged m chosen (sound m accepted)))
    (fits-bare (edge_module table (names_for m chosen) other) (edges-fit table (split-is-table other) (names_for m chosen) other again (asked m chosen (sound m accepted)) (fits table (split-is-table other) other again))))

-- ---- the limit of names

names-length : (marks : Marks) (at : ℕ) (names : List (List ℕ)) → raised marks (at + length names) ≡ raised marks at + length (with_names marks at names)
names-length marks at [] = let same : at + 0 ≡ at = omega arith in let here : raised marks (at + 0) ≡ raised marks at = ap (raised marks) same in omega (arith, here)
names-length marks at (name ∷ names) =
    let next : at + length (name ∷ names) ≡ suc at + length names = omega arith in
    let here : raised marks (at + length (name ∷ names)) ≡ raised marks (suc at + length names) = ap (raised marks) next in
    let rest = names-length marks (suc at) names in
    let step = raised-step marks at in
    let parts = length-append (names_after at marks) (with_names marks (suc at) names) in
    omega (arith, here, rest, step, parts)

raised-most : (marks : Marks) (at : ℕ) → raised marks at ≤ at + length marks
raised-most [] at = omega arith
raised-most (mark ∷ marks) at = let rest = raised-most marks at in by_test (nat_lt mark.0 at) rest
  where
    by_test : (b : Bool) → raised marks at ≤ at + length marks → bit b + raised marks at ≤ at + suc (length marks)
    by_test true h = omega (arith, h)
    by_test false h = omega (arith, h)

pub few-names : (marks : Marks) (names : List (List ℕ)) → length (with_names marks 0 names) ≤ length names + length marks
few-names marks names =
    let whole = names-length marks 0 names in
    let most = raised-most marks (0 + length names) in
    omega (arith, whole, most)

none-before : {A : Type 0} (test : A → Bool) (xs : List A) (k : ℕ) (x : A) → length xs ≤ position_or_len test xs → slice_get xs k ≡ Some x → test x ≡ false
none-before test [] k x past at = cc
none-before {A} test (y ∷ xs) k x past at = by_test (test y) refl past k at (λ more j. none-before test xs j x more)
  where
    by_test : (b : Bool) → test y ≡ b → suc (length xs) ≤ cond (not b) (1 + position_or_len test xs) 0 → (k : ℕ) → slice_get (y ∷ xs) k ≡ Some x
        → (length xs ≤ position_or_len test xs → (j : ℕ) → slice_get xs j ≡ Some x → test x ≡ false) → test x ≡ false
    by_test true e past k at rest = absurd (omega (arith, past))
    by_test false e past zero at rest = let same : y ≡ x = cc in subst (λ (z : A). test z ≡ false) same e
    by_test false e past (suc k) at rest = rest (omega (arith, past)) k at

none-over : (funcs : List HardFunc) → position is_over funcs ≡ None → (k : ℕ) (f : HardFunc) → slice_get funcs k ≡ Some f → is_over f ≡ false
none-over funcs e k f at = by_test (ltb (position_or_len is_over funcs) (length funcs)) refl e
  where
    by_test : (b : Bool) → ltb (position_or_len is_over funcs) (length funcs) ≡ b → cond b (Some (position_or_len is_over funcs)) None ≡ None → is_over f ≡ false
    by_test true g e = cc
    by_test false g e = none-before is_over funcs k f (grind (arith, nat_tests)) at

-- ---- the whole module

module _ (m : ModuleParts) (within : first_over (harden m) ≡ None) where
  abbrev all_chosen : ℕ → ℕ → Bool
  all_chosen n b = true

  few-everywhere : HasFewNames (renumbered_module m all_chosen)
  few-everywhere n g at =
      let own = renumbered-at m all_chosen 0 n n m.funcs g (omega arith) at in
      let there : slice_get (hard_funcs (harden m)) n ≡ Some (hard_of m own.0) =
      ap (λ (funcs : List HardFunc). slice_get funcs n) (harden-funcs m) ∙ slice_get-map (hard_of m) m.funcs n ∙ ap (option_map (hard_of m)) own.1 in
      let under : is_over (hard_of m own.0) ≡ false = none-over (hard_funcs (harden m)) within n (hard_of m own.0) there in
      let marks = marks_of (λ b. true) (hard_of m own.0) in
      let most = few-names marks own.0.names in
      let small : length own.0.names + length marks ≤ 65536 = grind (arith, nat_tests, under) in
      subst (λ (f : FuncParts). length f.names ≤ 65536) own.2 (omega (arith, most, small))

  -- the source under the other numbers is accepted too
  pub accepted-edged : IsAccepted m → IsOfText m → IsAccepted (renumbered_module m all_chosen)
  accepted-edged accepted text =
      accepted-where-few m (renumbered_module m all_chosen) (same-module m all_chosen)
      (subst AreNumbered (flip text.stands.is) (are-numbered (with_numerals (numerals_for text.stands.tree.funcs) text.text) text.stands.tree)) accepted few-everywhere

  pub edged-all-fits : IsAccepted m → IsOfText m → Fits (edged (harden m))
  edged-all-fits accepted text = edged-fits m all_chosen accepted (accepted-edged accepted text)
