-- Rules that ask nothing of named types, and limits of layouts and of code.
use Rattle.std.proofs.Common.{◌≡◌, ◌∙◌, ap, refl, sym, ℕ, Bool, true, not, List, [], ◌∷◌, ◌++◌, map, find, subst, append_assoc, Option, Some, None}
use Rattle.std.specs.Prelude.{if◌then◌else◌}
use Rattle.std.specs.Option.{option_map, option_or}
use Rattle.ir_core.specs.declared.types.Ty.{Ty}
use Rattle.ir_core.specs.declared.types.TypeId.{TypeId}
use Rattle.ir_core.specs.Module.{ModuleParts}
use Rattle.ir_layout.specs.declared.limits.LimitKind.{LimitKind}
use Rattle.ir_layout.specs.declared.limits.LayoutError.{LayoutError}
use Rattle.ir_layout.specs.declared.limits.LayoutError.TheVariants as layouts
use Rattle.ir_layout.specs.Limits.{Refuses, first_limit}
use Rattle.ir_lines.specs.declared.site.Site.{Site}
use Rattle.ir_lines.specs.Lines.{Line, TypeLine, GlobalLine, site_of, first_break, first_told, lines_of, code_lines}
use Rattle.ir_check.specs.declared.fault.Kind.{Kind}
use Rattle.ir_check.specs.declared.fault.Kind.TheVariants.{Limit}
use Rattle.ir_check.specs.declared.fault.CheckError.{CheckError}
use Rattle.ir_check.specs.CodeLimits.{limit_in, limit_text}
use Rattle.ir_check.specs.Faults.{Fault, fault_at, rule_fault, limit_told, limit_fault, Tells}

-- the lines of named types are passed over
pub unnamed : (keeps : Line → Bool) → ((named : TypeId × Ty) → keeps (TypeLine named) ≡ true) → (types : List (TypeId × Ty)) (rest : List Line) → first_break keeps (map TypeLine types ++ rest) ≡ first_break keeps rest
unnamed keeps kept [] rest = refl
unnamed keeps kept (named ∷ types) rest =
    ap (λ (b : Bool). option_map site_of (if not b then Some (TypeLine named) else find (λ line. not (keeps line)) (map TypeLine types ++ rest))) (kept named) ∙ unnamed keeps kept types rest

-- what is refused first is refused of both
pub refused-first : (x y : Option (LimitKind × List ℕ)) (e : LayoutError) → Refuses x e → Refuses (option_or x y) e
refused-first x y (layouts.Limit kind at) r = ap (λ (o : Option (LimitKind × List ℕ)). option_or o y) r
refused-first x y layouts.NoMemory r = tt

-- the first break is among globals and code
passed : (m : ModuleParts) (keeps : Line → Bool) → ((named : TypeId × Ty) → keeps (TypeLine named) ≡ true) → first_break keeps (lines_of m) ≡ first_break keeps (map GlobalLine m.globals ++ code_lines m)
passed m keeps kept =
    ap (first_break keeps) (append_assoc (map TypeLine m.types) (map GlobalLine m.globals) (code_lines m)) ∙ unnamed keeps kept m.types (map GlobalLine m.globals ++ code_lines m)

pub rule-none : (m : ModuleParts) (kind : Kind) (keeps : Line → Bool) → ((named : TypeId × Ty) → keeps (TypeLine named) ≡ true) → None ≡ first_break keeps (map GlobalLine m.globals ++ code_lines m) → rule_fault m kind keeps ≡ None
rule-none m kind keeps kept none = ap (option_map (fault_at m kind)) (passed m keeps kept ∙ sym none)

pub rule-told : (m : ModuleParts) (kind : Kind) (keeps : Line → Bool) (site : Site) (e : CheckError) → ((named : TypeId × Ty) → keeps (TypeLine named) ≡ true) → Some site ≡ first_break keeps (map GlobalLine m.globals ++ code_lines m) → Tells (Some (fault_at m kind site)) e → Tells (rule_fault m kind keeps) e
rule-told m kind keeps site e kept found told =
    let broken : rule_fault m kind keeps ≡ Some (fault_at m kind site) = ap (option_map (fault_at m kind)) (passed m keeps kept ∙ sym found) in
    subst (λ (x : Option Fault). Tells x e) (sym broken) told

-- a limit of code, where types and globals break none
pub code-limit : (m : ModuleParts) (types : List (TypeId × Ty)) (site : Site) (kind : LimitKind) → types ≡ m.types → first_limit m ≡ None → first_told (limit_in types) (code_lines m) ≡ Some (site, kind) → limit_fault m ≡ Some (fault_at m (Limit kind) site)
code-limit m types site kind same none told =
    let there : first_told (limit_in m.types) (code_lines m) ≡ Some (site, kind) = subst (λ (ts : List (TypeId × Ty)). first_told (limit_in ts) (code_lines m) ≡ Some (site, kind)) same told in
    ap (λ (x : Option (LimitKind × List ℕ)). option_map limit_told (option_or x (option_map (limit_text m) (first_told (limit_in m.types) (code_lines m))))) none
    ∙ ap (λ (x : Option (Site × LimitKind)). option_map limit_told (option_map (limit_text m) x)) there

pub code-limit-told : (m : ModuleParts) (types : List (TypeId × Ty)) (site : Site) (kind : LimitKind) (e : CheckError) → types ≡ m.types → first_limit m ≡ None → first_told (limit_in types) (code_lines m) ≡ Some (site, kind) → Tells (Some (fault_at m (Limit kind) site)) e → Tells (limit_fault m) e
code-limit-told m types site kind e same none found told = subst (λ (x : Option Fault). Tells x e) (sym (code-limit m types site kind same none found)) told
