-- The table of a module holds its windows; an index of labels grows by one block.
use Rattle.std.proofs.Common.{ℕ, zero, suc, ◌+◌, ◌≡◌, ◌≢◌, ◌∙◌, ◌<◌, Bool, true, false, List, [], ◌∷◌, ◌++◌, length, map, take, drop, Option, Some, refl, ap, sym, get_or, slice_get, add-one}
use Rattle.std.specs.Prelude.{nat_eq}
use Rattle.std.specs.List.{slice_index_or}
use Rattle.std.specs.Option.{option_map_or, option_and_then}
use Rattle.std.proofs.Math.Seq.{drop-cons}
use Rattle.std.proofs.lemmas.Bool.{eqb-true, eq-eqb}
use Rattle.std.proofs.lemmas.Option.{slice_get-get_or}
use Rattle.inst_meaning.specs.Registers.{get, put}
use Rattle.inst_meaning.proofs.Puts.{put-here, put-elsewhere}
use Rattle.hard_ir.specs.declared.instruction.HReg.{HReg}
use Rattle.hard_ir.specs.declared.instruction.HBlock.{HBlock}
use Rattle.hard_ir.specs.Hardened.{HardParts}
use Rattle.upset_model.specs.Windows.{is_edge_checked}
use Rattle.upset_model.specs.Intervals.{is_held}
use Rattle.upset_model.specs.Guards.{target, IsIndexFrom}
use Rattle.upset_model.specs.Table.{in_window_of, block_intervals, func_intervals, table_of, HoldsWindows}
use Rattle.upset_model.proofs.IntervalLaws.{windows-held}

-- ---- tables

module _ (block q : ℕ) (r : HReg) (inside : Bool) where
  abbrev found : List HBlock → List HBlock → ℕ → Bool
  found all blocks n = option_map_or (in_window_of all q r inside) (slice_get blocks n) false

  at-block : (all blocks : List HBlock) (n : ℕ)
      → is_held r inside q (slice_index_or (map (block_intervals all) blocks) n []) ≡ found all blocks n
  at-block all [] n = refl
  at-block all (b ∷ blocks) zero = windows-held r inside (is_edge_checked all b) b.list q
  at-block all (b ∷ blocks) (suc n) = at-block all blocks n

  at-func : (funcs : List (List HBlock)) (func : ℕ)
      → is_held r inside q (slice_index_or (slice_index_or (map func_intervals funcs) func []) block [])
      ≡ found (option_map_or (λ blocks. blocks) (slice_get funcs func) []) (option_map_or (λ blocks. blocks) (slice_get funcs func) []) block
  at-func [] func = refl
  at-func (blocks ∷ funcs) zero = at-block blocks blocks block
  at-func (blocks ∷ funcs) (suc func) = at-func funcs func

pub table-holds : (h : HardParts) → HoldsWindows h (table_of h)
table-holds h func block q r inside = at-func block q r inside h.funcs func

-- one more of a list
by-one : {A B : Type 0} (f : A → B) (xs : List A) (n : ℕ) (x : A) → slice_get xs n ≡ Some x
    → map f (take (suc n) xs) ≡ map f (take n xs) ++ f x ∷ []
by-one f [] n x e = absurd cc
by-one {A = A} {B = B} f (y ∷ xs) zero x e = let same : y ≡ x = cc in ap (λ (y : A). f y ∷ []) same
by-one {B = B} f (y ∷ xs) (suc n) x e = ap (λ (ys : List B). f y ∷ ys) (by-one f xs n x e)

pub taken-more : {A B : Type 0} (f : A → B) (xs : List A) (n : ℕ) (x : A) → slice_get xs n ≡ Some x
    → map f (take (n + 1) xs) ≡ map f (take n xs) ++ f x ∷ []
taken-more f xs n x e = rw add-one (by-one f xs n x e)

-- ---- indices of labels

-- a block's label goes to its number, and the others are found as before
pub index-more : (blocks : List HBlock) (n : ℕ) (block : HBlock) (table : List (Option ℕ)) → n < length blocks → block ≡ get_or blocks n block
    → IsIndexFrom blocks (suc n) table → IsIndexFrom blocks n (put table block.label.0 n)
index-more blocks n block table less is rest label =
    by (nat_eq block.label.0 label) refl
  where
    left : drop n blocks ≡ block ∷ drop (suc n) blocks
    left = drop-cons blocks n block less ∙ ap (λ (b : HBlock). b ∷ drop (suc n) blocks) (sym is)

    here : slice_get blocks n ≡ Some block
    here = slice_get-get_or blocks n block less ∙ ap Some (sym is)

    by : (same : Bool) → nat_eq block.label.0 label ≡ same
        → option_and_then (slice_get blocks) (get (put table block.label.0 n) label) ≡ target (drop n blocks) label
    by true s =
        let numbers : block.label.0 ≡ label = eqb-true block.label.0 label s in
        ap (λ (at : ℕ). option_and_then (slice_get blocks) (get (put table block.label.0 n) at)) (sym numbers)
        ∙ ap (option_and_then (slice_get blocks)) (put-here table block.label.0 n)
        ∙ here
        ∙ sym (ap (λ (bs : List HBlock). target bs label) left ∙ rw s refl)
    by false s =
        let apart : block.label.0 ≢ label = λ e. absurd (let same : true ≡ false = sym (eq-eqb block.label.0 label e) ∙ s in cc) in
        ap (option_and_then (slice_get blocks)) (put-elsewhere table block.label.0 n label apart)
        ∙ rest label
        ∙ sym (ap (λ (bs : List HBlock). target bs label) left ∙ rw s refl)
