-- One definition after another, and the names of those before.
use Rattle.std.proofs.Common.{◌≡◌, ◌∙◌, ap, refl, sym, ℕ, suc, ◌+◌, ◌<◌, arith, Bool, true, false, ◌||◌, not, List, [], ◌∷◌, ◌++◌, map, take, drop, drop-cons, length, get_or, Some}
use Rattle.std.specs.Prelude.{if◌then◌else◌}
use Rattle.std.specs.List.{list_any}
use Rattle.std.proofs.lemmas.List.{take_more, map-append}
use Rattle.std.proofs.lemmas.List.Folds.{list_any-append}
use Rattle.ir_lines.specs.declared.site.Site.{Site}
use Rattle.ir_lines.specs.declared.site.Site.TheVariants as sites
use Rattle.ir_lines.specs.declared.site.Named.{Named}
use Rattle.ir_lines.specs.declared.site.Named.TheVariants as kinds
use Rattle.ir_names.specs.Names.{same_name, first_again}
use Rattle.ir_names.specs.Sets.{has_name, HasNamesOf}
use Rattle.ir_names.specs.declared.name_set.NameSet.{NameSet}

-- what stands past the end of definitions
abbrev pub past : Site × Named
past = (sites.Type record { 0 = 0 }, kinds.Type record { 0 = 0 })

abbrev names : List (Site × Named) → List Named
names defs = map (λ d. d.1) defs

drop_at : (defs : List (Site × Named)) (i : ℕ) (d : Site × Named) → i < length defs → drop i defs ≡ get_or defs i d ∷ drop (i + 1) defs
drop_at defs i d inside = let e : drop i defs ≡ get_or defs i d ∷ drop (suc i) defs = drop-cons defs i d inside in let n : suc i ≡ i + 1 = omega arith in cc

names_more : (defs : List (Site × Named)) (i : ℕ) (d : Site × Named) → i < length defs → names (take (i + 1) defs) ≡ names (take i defs) ++ (get_or defs i d).1 ∷ []
names_more defs i d inside = ap names (take_more defs i d inside) ∙ map-append (λ d. d.1) (take i defs) (get_or defs i d ∷ [])

or-none : (x : Bool) → (x || false) ≡ x
or-none true = refl
or-none false = refl

-- a set that takes the next name has the names of one definition more
pub set-more : (defs : List (Site × Named)) (i : ℕ) (d : Site × Named) (before after : NameSet) → i < length defs → ((other : Named) → has_name after other ≡ (has_name before other || same_name other (get_or defs i d).1)) → HasNamesOf (take i defs) before → HasNamesOf (take (i + 1) defs) after
set-more defs i d before after inside added so_far name =
    let here : Named = (get_or defs i d).1 in
    added name ∙ ap (λ (b : Bool). b || same_name name here) (so_far name)
    ∙ ap (λ (b : Bool). list_any (same_name name) (names (take i defs)) || b) (sym (or-none (same_name name here)))
    ∙ sym (ap (list_any (same_name name)) (names_more defs i d inside) ∙ list_any-append (same_name name) (names (take i defs)) (here ∷ []))

-- a name that stands before is the first again; behind another one the search goes on
pub again-here : (defs : List (Site × Named)) (i : ℕ) (d : Site × Named) → i < length defs → list_any (same_name (get_or defs i d).1) (names (take i defs)) ≡ true → first_again (names (take i defs)) (drop i defs) ≡ Some (get_or defs i d)
again-here defs i d inside has =
    let before : List Named = names (take i defs) in
    let here : Site × Named = get_or defs i d in
    ap (first_again before) (drop_at defs i d inside) ∙ ap (λ (b : Bool). if b then Some here else first_again (before ++ here.1 ∷ []) (drop (i + 1) defs)) has

pub again-later : (defs : List (Site × Named)) (i : ℕ) (d : Site × Named) → i < length defs → list_any (same_name (get_or defs i d).1) (names (take i defs)) ≡ false → first_again (names (take (i + 1) defs)) (drop (i + 1) defs) ≡ first_again (names (take i defs)) (drop i defs)
again-later defs i d inside lacks =
    let before : List Named = names (take i defs) in
    let here : Site × Named = get_or defs i d in
    ap (λ (ns : List Named). first_again ns (drop (i + 1) defs)) (names_more defs i d inside)
    ∙ sym (ap (first_again before) (drop_at defs i d inside) ∙ ap (λ (b : Bool). if b then Some here else first_again (before ++ here.1 ∷ []) (drop (i + 1) defs)) lacks)

-- where a set lacked a name, no definition before has it
pub not-false : (b lacked : Bool) → lacked ≡ not b → lacked ≡ false → b ≡ true
not-false true lacked e f = refl
not-false false lacked e f = let g : true ≡ false = sym e ∙ f in cc

pub not-true : (b lacked : Bool) → lacked ≡ not b → lacked ≡ true → b ≡ false
not-true true lacked e f = let g : false ≡ true = sym e ∙ f in cc
not-true false lacked e f = refl
