use Rattle.std.proofs.Common.{arith, ◌≡◌, ◌<◌, ap, ◌∙◌, ℕ, List, vec_capacity, slice_index, ◌++◌, ◌∷◌, [], length, false}
use Rattle.std.proofs.lemmas.Grind.{common_steps}
use Rattle.line_sets.specs.Sets.{has}
use Rattle.line_sets.proofs.Chains.{set-with}
use Rattle.line_sets.proofs.LineSet.put.Goals as goal

pub invariant_of-self : goal.invariant_of-self
invariant_of-self g c =
    let new : has c.self.inside.lines.items c.args.line ≡ false = ap (λ (lines : List ℕ). has lines c.args.line) c.self.view_is ∙ c.requires.new in
    let room : length c.self.inside.lines.items < g.row.CAP = omega (arith, ap length c.self.view_is, c.requires.room) in
    let before : slice_index c.self.inside.heads.items c.bucket-bucket.result ≡ c.index-before.result.now = grind (arith, common_steps, c.index-before.ensures, c.self.invariant.chains.all_heads, c.bucket-bucket.ensures.below) in
    let lines : c.push.new.self.items ≡ c.self.inside.lines.items ++ c.args.line ∷ [] = grind (arith, common_steps) in
    let links : c.push-2.new.self.items ≡ c.self.inside.links.items ++ c.index-before.result.now ∷ [] = grind (arith, common_steps) in
    let count : c.len-count.result ≡ length c.self.inside.lines.items = grind (arith, common_steps) in
    rw (lines, links, count, ← before, c.bucket-bucket.ensures.value) (set-with g.row.CAP (vec_capacity c.self.inside.lines) (vec_capacity c.self.inside.links)
    (vec_capacity c.push.new.self) (vec_capacity c.push-2.new.self) c.self.inside.lines.items c.self.inside.heads.items c.self.inside.links.items c.args.line
    c.self.invariant new room c.push.ensures.capacity c.push-2.ensures.capacity)
