-- The widths of registers, function by function.
use Rattle.std.proofs.Common.{◌≡◌, ℕ, zero, suc, List, [], ◌∷◌, refl, ap, sym, ◌∙◌}
use Rattle.std.specs.Prelude.{Option, Some, None, slice_get, unwrap_or}
use Rattle.std.specs.List.{zip}
use Rattle.std.specs.Option.{option_zip, option_map, option_and_then}
use Rattle.std.proofs.lemmas.Option.{slice_get-map}
use Rattle.ir_core.specs.declared.types.Loc.{Loc}
use Rattle.ir_core.specs.Module.{FuncParts}
use Rattle.ir_types.specs.Firsts.{first_of}
use Rattle.ir_types.specs.Tables.{width_at}
use Rattle.hard_ir.specs.declared.instruction.HBlock.{HBlock}
use Rattle.hard_ir.specs.Facts.{widths_of_pair, hard_width, module_widths}

option_zip-none : {A : Type 0} (B : Type 0) (o : Option A) → let none : Option B = None in option_zip o none ≡ None
option_zip-none B None = refl
option_zip-none B (Some x) = refl

slice_get-zip : {A B : Type 0} (xs : List A) (ys : List B) (n : ℕ) → slice_get (zip xs ys) n ≡ option_zip (slice_get xs n) (slice_get ys n)
slice_get-zip [] ys n = refl
slice_get-zip {A} {B} (x ∷ xs) [] n = sym (option_zip-none B (slice_get (x ∷ xs) n))
slice_get-zip (x ∷ xs) (y ∷ ys) zero = refl
slice_get-zip (x ∷ xs) (y ∷ ys) (suc n) = slice_get-zip xs ys n

-- what the tables of functions answer is the width by the head and the blocks of that number
pub width_at-module_widths : (heads : List FuncParts) (funcs : List (List HBlock)) (n : ℕ) (reg : Loc) (head : FuncParts) (blocks : List HBlock) → slice_get heads n ≡ Some head → slice_get funcs n ≡ Some blocks → width_at (module_widths heads funcs) n reg ≡ hard_width head blocks reg
width_at-module_widths heads funcs n reg head blocks f b =
    let pair : slice_get (zip heads funcs) n ≡ Some (head, blocks) = slice_get-zip heads funcs n ∙ cc in
    let table : slice_get (module_widths heads funcs) n ≡ Some (widths_of_pair (head, blocks)) = slice_get-map widths_of_pair (zip heads funcs) n ∙ ap (option_map widths_of_pair) pair in
    ap (λ (found : Option (List (Loc × ℕ))). unwrap_or (option_and_then (λ own. first_of own reg) found) 0) table
