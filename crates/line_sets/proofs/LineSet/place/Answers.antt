use Rattle.std.proofs.Common.{arith, ◌≡◌, ◌≢◌, ◌-◌, ap, sym, ◌∙◌, ℕ, subst, List, slice_index}
use Rattle.std.proofs.lemmas.Grind.{common_steps}
use Rattle.line_sets.specs.Sets.{place_in}
use Rattle.line_sets.specs.code.Chains.{buckets}
use Rattle.line_sets.proofs.Chains.{IsWalk, some-buckets, walk-starts, walk-next, walk-falls, place-at, place-none}
use Rattle.line_sets.proofs.LineSet.place.Goals as goal

pub chain-init : goal.chain-init
chain-init g c =
    let start : slice_index c.self.inside.heads.items c.bucket.result ≡ c.index-at.result.now = grind (arith, common_steps, c.index-at.ensures, c.self.invariant.chains.all_heads, c.bucket.ensures.below) in
    subst (λ (at : ℕ). IsWalk (buckets g.row.CAP) c.self.inside.lines.items c.args.line at) (ap (slice_index c.self.inside.heads.items) (sym c.bucket.ensures.value) ∙ start)
    (walk-starts (buckets g.row.CAP) c.self.inside.lines.items c.self.inside.heads.items c.self.inside.links.items c.args.line (some-buckets g.row.CAP) c.self.invariant.chains)

pub returns-then-index-line : goal.returns-then-index-line
returns-then-index-line g c =
    let here : slice_index c.self.inside.lines.items (c.chain.at - 1) ≡ c.args.line = grind (arith, common_steps) in
    let within = c.chain.invariant.within in
    sym (place-at c.self.inside.lines.items c.args.line (c.chain.at - 1) c.self.invariant.chains.distinct (omega arith) here) ∙ ap (λ (lines : List ℕ). place_in lines c.args.line) c.self.view_is

pub chain-smaller : goal.chain-smaller
chain-smaller g c =
    let within = c.chain.invariant.within in
    let falls = walk-falls (buckets g.row.CAP) c.self.inside.lines.items c.self.inside.heads.items c.self.inside.links.items c.args.line c.chain.at c.self.invariant.chains c.chain.invariant (omega arith) in
    let next : slice_index c.self.inside.links.items (c.chain.at - 1) ≡ c.index-at-in-chain.result.now = grind (arith, common_steps, c.index-at-in-chain.ensures, c.self.invariant.chains.all_links) in
    omega (arith, falls, next)

pub chain-preserved : goal.chain-preserved
chain-preserved g c =
    let within = c.chain.invariant.within in
    let next : slice_index c.self.inside.links.items (c.chain.at - 1) ≡ c.index-at-in-chain.result.now = grind (arith, common_steps, c.index-at-in-chain.ensures, c.self.invariant.chains.all_links) in
    let other : slice_index c.self.inside.lines.items (c.chain.at - 1) ≢ c.args.line = grind (arith, common_steps, c.index.ensures, c.if-index-line.false) in
    subst (λ (at : ℕ). IsWalk (buckets g.row.CAP) c.self.inside.lines.items c.args.line at) next
    (walk-next (buckets g.row.CAP) c.self.inside.lines.items c.self.inside.heads.items c.self.inside.links.items c.args.line c.chain.at c.self.invariant.chains c.chain.invariant (omega arith) other)

pub returns : goal.returns
returns g c =
    sym (place-none c.self.inside.lines.items c.args.line (λ j less. c.chain.invariant.after j (let end = c.chain-test.false in omega arith) less))
    ∙ ap (λ (lines : List ℕ). place_in lines c.args.line) c.self.view_is
