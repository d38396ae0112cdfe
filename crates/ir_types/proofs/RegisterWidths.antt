-- The widths of the names of functions.
use Rattle.std.proofs.Common.{◌≡◌, ℕ, List, [], ◌∷◌, map, refl, ap, ◌∙◌, true, false}
use Rattle.std.specs.Prelude.{Bool, Option, None, Some, slice_get, nat_eq, unwrap_or, if◌then◌else◌}
use Rattle.std.specs.Option.{option_map, option_and_then}
use Rattle.std.proofs.lemmas.Option.{slice_get-map}
use Rattle.ir_core.specs.declared.types.Loc.{Loc}
use Rattle.ir_core.specs.Module.{ModuleParts, FuncParts}
use Rattle.ir_types.specs.Firsts.{entry_of, first_of}
use Rattle.ir_types.specs.Meanings.{Meaning, meanings, width_of_meaning, width_of}
use Rattle.ir_types.specs.Tables.{with_width, widths, widths_of, width_at}

entry-with_width : (names : List (Loc × Meaning)) (n : ℕ) → entry_of (map with_width names) n ≡ option_map with_width (entry_of names n)
entry-with_width [] n = refl
entry-with_width (entry ∷ names) n = by_name (nat_eq entry.0.0 n) (entry-with_width names n)
  where
    by_name : (b : Bool) → entry_of (map with_width names) n ≡ option_map with_width (entry_of names n) → (if b then Some (with_width entry) else entry_of (map with_width names) n) ≡ option_map with_width (if b then Some entry else entry_of names n)
    by_name true rest = refl
    by_name false rest = rest

width-of-entry : (found : Option (Loc × Meaning)) → option_map (λ (entry : Loc × ℕ). entry.1) (option_map with_width found) ≡ option_map width_of_meaning (option_map (λ (entry : Loc × Meaning). entry.1) found)
width-of-entry None = refl
width-of-entry (Some entry) = refl

-- the table of a module has the width of each name
pub width_at-widths_of : (m : ModuleParts) (f : FuncParts) (n : ℕ) (at : Loc) → slice_get m.funcs n ≡ Some f → width_at (widths_of m) n at ≡ width_of f at
width_at-widths_of m f n at e =
    let found : slice_get (widths_of m) n ≡ Some (widths f) = slice_get-map widths m.funcs n ∙ ap (option_map widths) e in
    ap (λ (table : Option (List (Loc × ℕ))). unwrap_or (option_and_then (λ own. first_of own at) table) 0) found
    ∙ ap (λ (entry : Option (Loc × ℕ)). unwrap_or (option_map (λ (own : Loc × ℕ). own.1) entry) 0) (entry-with_width (meanings f) at.0)
    ∙ ap (λ (width : Option ℕ). unwrap_or width 0) (width-of-entry (entry_of (meanings f) at.0))
