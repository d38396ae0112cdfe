use Rattle.std.proofs.Common.{◌≡◌, ℕ, List, vec_capacity, ◌++◌, ◌∷◌, [], subst}
use Rattle.line_sets.specs.code.Chains.{IsSet}
use Rattle.line_sets.proofs.Chains.{set-without}
use Rattle.line_sets.proofs.LineSet.clear.Goals as goal

pub lines-preserved-in-Some-pop : goal.lines-preserved-in-Some-pop
lines-preserved-in-Some-pop g c =
    let lines : c.lines.self-inside.lines.items ≡ c.pop.new.self.items ++ c.in-Some.line ∷ [] = c.in-Some.ensures.items in
    let links : c.lines.self-inside.links.items ≡ c.pop-in-Some.new.self.items ++ c.in-Some-pop.before ∷ [] = c.in-Some-pop.ensures.items in
    let set : IsSet g.row.CAP (vec_capacity c.lines.self-inside.lines) (vec_capacity c.lines.self-inside.links) (c.pop.new.self.items ++ c.in-Some.line ∷ []) c.lines.self-inside.heads.items (c.pop-in-Some.new.self.items ++ c.in-Some-pop.before ∷ []) =
    subst (λ (xs : List ℕ). IsSet g.row.CAP (vec_capacity c.lines.self-inside.lines) (vec_capacity c.lines.self-inside.links) xs c.lines.self-inside.heads.items (c.pop-in-Some.new.self.items ++ c.in-Some-pop.before ∷ [])) lines
    (subst (λ (ys : List ℕ). IsSet g.row.CAP (vec_capacity c.lines.self-inside.lines) (vec_capacity c.lines.self-inside.links) c.lines.self-inside.lines.items c.lines.self-inside.heads.items ys) links c.lines.invariant) in
    rw (c.pop.ensures.capacity, c.pop-in-Some.ensures.capacity, c.bucket.ensures.value)
    (set-without g.row.CAP (vec_capacity c.lines.self-inside.lines) (vec_capacity c.lines.self-inside.links) c.in-Some-pop.before c.pop.new.self.items c.lines.self-inside.heads.items c.pop-in-Some.new.self.items c.in-Some.line set)
