-- One name more in a set.
use Rattle.std.proofs.Common.{◌≡◌, ◌∙◌, ap, refl, ℕ, Bool, true, false, ◌&&◌, ◌||◌}
use Rattle.std.specs.Prelude.{nat_eq}
use Rattle.std.proofs.lemmas.Cmp.{nat_eq_equiv}
use Rattle.std.specs.HashSet.{contains}
use Rattle.ir_core.specs.declared.types.Loc.{Loc}
use Rattle.ir_lines.specs.declared.site.Named.{Named}
use Rattle.ir_lines.specs.declared.site.Named.TheVariants as names
use Rattle.ir_names.specs.Names.{same_name}
use Rattle.ir_names.specs.Locals.{same_pair, has_loc}
use Rattle.ir_names.specs.Sets.{has_name}
use Rattle.ir_names.specs.declared.name_set.NameSet.{NameSet}

or-none : (x : Bool) → x ≡ (x || false)
or-none true = refl
or-none false = refl

pair-sym : (a b : ℕ × ℕ) → same_pair a b ≡ same_pair b a
pair-sym a b = ap (λ (x : Bool). x && nat_eq a.1 b.1) (nat_eq_equiv.symm a.0 b.0) ∙ ap (λ (y : Bool). nat_eq b.0 a.0 && y) (nat_eq_equiv.symm a.1 b.1)

-- a `%` name of one function
pub loc-added : (before after : NameSet) (n : ℕ) (at : Loc) → ((m o : ℕ) → has_loc after.locs m o ≡ (has_loc before.locs m o || same_pair (n, at.0) (m, o))) → after.types ≡ before.types → after.syms ≡ before.syms → (other : Named) → has_name after other ≡ (has_name before other || same_name other (names.Loc n at))
loc-added before after n at h t s (names.Type o) = ap (λ set. contains nat_eq set o.0) t ∙ or-none (contains nat_eq before.types o.0)
loc-added before after n at h t s (names.Sym o) = ap (λ set. contains nat_eq set o.0) s ∙ or-none (contains nat_eq before.syms o.0)
loc-added before after n at h t s (names.Loc m o) = h m o.0 ∙ ap (λ (b : Bool). has_loc before.locs m o.0 || b) (pair-sym (n, at.0) (m, o.0))
