-- One type or one global after another: the first limit, and where globals stand.
use Rattle.std.proofs.Common.{◌≡◌, ℕ, zero, suc, ◌+◌, ◌<◌, ◌≤◌, List, [], ◌∷◌, ◌++◌, drop, length, get_or, drop-cons, append_assoc, refl, sym, ap, subst, ◌∙◌, arith}
use Rattle.std.specs.Prelude.{Bool, true, false, Option, None, Some, slice_get, nat_lt, if◌then◌else◌}
use Rattle.std.specs.Option.{option_or}
use Rattle.ir_core.specs.declared.types.Ty.{Ty}
use Rattle.ir_core.specs.declared.types.TypeId.{TypeId}
use Rattle.ir_core.specs.declared.values.GlobalVar.{GlobalVar}
use Rattle.ir_core.specs.Module.{ModuleParts}
use Rattle.ir_layout.specs.declared.limits.LimitKind.{LimitKind}
use Rattle.ir_layout.specs.declared.spans.Span.{Span}
use Rattle.ir_layout.specs.Shapes.{round_up}
use Rattle.ir_layout.specs.Memory.{span_at, end_of, spans_from, AreApart}
use Rattle.ir_layout.specs.Limits.{limit_of, limit_of_global, placed, type_place, global_place, limit_among, first_of_types, first_of_globals, globals_end}
use Rattle.ir_layout.specs.WrittenTypes.{types_in_global}
use Rattle.ir_layout.specs.declared.limits.LimitKind.TheVariants.{Globals}
use Rattle.std.proofs.lemmas.Bool.Decides.{nat_tests}

drop_at : {A : Type 0} (xs : List A) (i : ℕ) (x : A) → i < length xs → x ≡ get_or xs i x → drop i xs ≡ x ∷ drop (i + 1) xs
drop_at xs i x inside at = let e : drop i xs ≡ get_or xs i x ∷ drop (suc i) xs = drop-cons xs i x inside in let n : suc i ≡ i + 1 = omega arith in cc

-- ---- named types

pub first-type : (m : ModuleParts) (types : List (TypeId × Ty)) (i : ℕ) (named : TypeId × Ty) (kind : LimitKind) → i < length types → named ≡ get_or types i named → limit_of m.types named.1 ≡ Some kind → first_of_types m (drop i types) ≡ Some (kind, type_place m named.0)
first-type m types i named kind inside at e = ap (first_of_types m) (drop_at types i named inside at) ∙ ap (λ (limit : Option LimitKind). option_or (placed (type_place m named.0) limit) (first_of_types m (drop (i + 1) types))) e

pub next-type : (m : ModuleParts) (types : List (TypeId × Ty)) (i : ℕ) (named : TypeId × Ty) → i < length types → named ≡ get_or types i named → limit_of m.types named.1 ≡ None → first_of_types m (drop (i + 1) types) ≡ first_of_types m (drop i types)
next-type m types i named inside at e = sym (ap (first_of_types m) (drop_at types i named inside at) ∙ ap (λ (limit : Option LimitKind). option_or (placed (type_place m named.0) limit) (first_of_types m (drop (i + 1) types))) e)

-- ---- globals

pub first-global : (m : ModuleParts) (taken : ℕ) (globals : List GlobalVar) (i : ℕ) (global : GlobalVar) (kind : LimitKind) → i < length globals → global ≡ get_or globals i global → limit_of_global m.types taken global ≡ Some kind → first_of_globals m taken (drop i globals) ≡ Some (kind, global_place m global)
first-global m taken globals i global kind inside at e = ap (first_of_globals m taken) (drop_at globals i global inside at) ∙ ap (λ (limit : Option LimitKind). option_or (placed (global_place m global) limit) (first_of_globals m (end_of (span_at m.types taken global)) (drop (i + 1) globals))) e

pub next-global : (m : ModuleParts) (taken : ℕ) (globals : List GlobalVar) (i : ℕ) (global : GlobalVar) → i < length globals → global ≡ get_or globals i global → limit_of_global m.types taken global ≡ None → first_of_globals m (end_of (span_at m.types taken global)) (drop (i + 1) globals) ≡ first_of_globals m taken (drop i globals)
next-global m taken globals i global inside at e = sym (ap (first_of_globals m taken) (drop_at globals i global inside at) ∙ ap (λ (limit : Option LimitKind). option_or (placed (global_place m global) limit) (first_of_globals m (end_of (span_at m.types taken global)) (drop (i + 1) globals))) e)

pub next-span : (types : List (TypeId × Ty)) (taken : ℕ) (globals : List GlobalVar) (i : ℕ) (global : GlobalVar) (spans : List Span) → i < length globals → global ≡ get_or globals i global → (spans ++ span_at types taken global ∷ []) ++ spans_from types (end_of (span_at types taken global)) (drop (i + 1) globals) ≡ spans ++ spans_from types taken (drop i globals)
next-span types taken globals i global spans inside at =
    append_assoc spans (span_at types taken global ∷ []) (spans_from types (end_of (span_at types taken global)) (drop (i + 1) globals)) ∙ ap (λ (gs : List GlobalVar). spans ++ spans_from types taken gs) (sym (drop_at globals i global inside at))

-- ---- globals lie apart

le-next_16 : (n : ℕ) → n ≤ round_up 16 n
le-next_16 n = omega arith

pub spans-behind : (types : List (TypeId × Ty)) (taken : ℕ) (globals : List GlobalVar) (k : ℕ) (span : Span) → slice_get (spans_from types taken globals) k ≡ Some span → taken ≤ span.start
spans-behind types taken [] k span at = cc
spans-behind types taken (g ∷ gs) zero span at = let same : span_at types taken g ≡ span = cc in subst (λ (s : Span). taken ≤ s.start) same (le-next_16 taken)
spans-behind types taken (g ∷ gs) (suc k) span at = omega (arith, spans-behind types (end_of (span_at types taken g)) gs k span at, le-next_16 taken)

pub spans-apart : (types : List (TypeId × Ty)) (taken : ℕ) (globals : List GlobalVar) → AreApart (spans_from types taken globals)
spans-apart types taken [] i j a b less here there = cc
spans-apart types taken (g ∷ gs) zero zero a b less here there = absurd (omega arith)
spans-apart types taken (g ∷ gs) zero (suc j) a b less here there = let same : span_at types taken g ≡ a = cc in subst (λ (s : Span). end_of s ≤ b.start) same (spans-behind types (end_of (span_at types taken g)) gs j b there)
spans-apart types taken (g ∷ gs) (suc i) zero a b less here there = absurd (omega arith)
spans-apart types taken (g ∷ gs) (suc i) (suc j) a b less here there = spans-apart types (end_of (span_at types taken g)) gs i j a b (omega arith) here there

-- a global that keeps its limits ends where globals may
pub fits-end : (types : List (TypeId × Ty)) (taken : ℕ) (global : GlobalVar) → limit_of_global types taken global ≡ None → end_of (span_at types taken global) ≤ globals_end
fits-end types taken global e = by_test (nat_lt globals_end (end_of (span_at types taken global))) refl
  where
    by_test : (b : Bool) → nat_lt globals_end (end_of (span_at types taken global)) ≡ b → end_of (span_at types taken global) ≤ globals_end
    by_test true past = let f : Some Globals ≡ None = sym (ap (λ (b : Bool). if b then Some Globals else limit_among types (types_in_global global)) past) ∙ e in cc
    by_test false past = grind (arith, nat_tests)

pub le-end : (types : List (TypeId × Ty)) (taken : ℕ) (global : GlobalVar) → taken ≤ end_of (span_at types taken global)
le-end types taken global = omega (arith, le-next_16 taken)
