-- The globals of a module that keeps its limits lie in the area of globals.
use Rattle.std.proofs.Common.{◌≡◌, ℕ, ◌≤◌, List, [], ◌∷◌, refl, ap, ◌∙◌, arith, true}
use Rattle.std.specs.Prelude.{Bool, ◌&&◌, Option, Some, None}
use Rattle.std.specs.List.{list_all}
use Rattle.std.specs.Option.{option_or}
use Rattle.std.proofs.lemmas.Bool.Decides.{nat_tests}
use Rattle.ir_core.specs.declared.types.Ty.{Ty}
use Rattle.ir_core.specs.declared.types.TypeId.{TypeId}
use Rattle.ir_core.specs.declared.values.GlobalVar.{GlobalVar}
use Rattle.ir_core.specs.Module.{ModuleParts}
use Rattle.ir_layout.specs.declared.spans.Span.{Span}
use Rattle.ir_layout.specs.declared.limits.LimitKind.{LimitKind}
use Rattle.ir_layout.specs.Memory.{LayoutParts, area_size, globals_start, lies_in, span_at, end_of, spans_from, layout_of}
use Rattle.ir_layout.specs.Limits.{limit_of_global, placed, global_place, first_of_types, first_of_globals, first_limit, globals_end}
use Rattle.ir_layout.proofs.PlacingLemmas.{fits-end, le-end}

abbrev in_area : Span → Bool
in_area span = lies_in globals_start area_size span.start span.size

neither : (a b : Option (LimitKind × List ℕ)) → option_or a b ≡ None → (a ≡ None) × (b ≡ None)
neither None b e = (refl, e)
neither (Some x) b e = cc

unplaced : (at : List ℕ) (limit : Option LimitKind) → placed at limit ≡ None → limit ≡ None
unplaced at None e = refl
unplaced at (Some kind) e = cc

span-in : (types : List (TypeId × Ty)) (taken : ℕ) (g : GlobalVar) → globals_start ≤ taken → limit_of_global types taken g ≡ None → in_area (span_at types taken g) ≡ true
span-in types taken g low e = let high : end_of (span_at types taken g) ≤ globals_end = fits-end types taken g e in let from : taken ≤ (span_at types taken g).start = omega arith in grind (arith, nat_tests)

pub spans_in : (m : ModuleParts) (taken : ℕ) (globals : List GlobalVar) → globals_start ≤ taken → first_of_globals m taken globals ≡ None → list_all in_area (spans_from m.types taken globals) ≡ true
spans_in m taken [] low e = refl
spans_in m taken (g ∷ gs) low e =
    let both = neither (placed (global_place m g) (limit_of_global m.types taken g)) (first_of_globals m (end_of (span_at m.types taken g)) gs) e in
    let here = span-in m.types taken g low (unplaced (global_place m g) (limit_of_global m.types taken g) both.0) in
    let later = spans_in m (end_of (span_at m.types taken g)) gs (omega (arith, le-end m.types taken g)) both.1 in
    ap (λ (b : Bool). b && list_all in_area (spans_from m.types (end_of (span_at m.types taken g)) gs)) here ∙ later

pub layout_in : (m : ModuleParts) (l : LayoutParts) → l ≡ layout_of m → first_limit m ≡ None → list_all in_area l.globals ≡ true
layout_in m l is fits = ap (λ (parts : LayoutParts). list_all in_area parts.globals) is ∙ spans_in m globals_start m.globals (omega arith) (neither (first_of_types m m.types) (first_of_globals m globals_start m.globals) fits).1
