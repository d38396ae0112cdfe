use Rattle.std.proofs.Common.{◌≡◌, arith, rules, sym, subst}
use Rattle.std.proofs.lemmas.Fn.{filter_same}
use Rattle.std.proofs.lemmas.Grind.{common_steps}
use Rattle.elide.specs.Watches.{without, AreWatched}
use Rattle.elide.proofs.Held.{watched-unlocked}
use Rattle.elide.proofs.watches.Watch.unlock.Goals as goal

pub invariant_of-self : goal.invariant_of-self
invariant_of-self c =
    let enough = c.self.invariant.0 in
    let capacity = c.retain.ensures.capacity in
    let is : c.retain.new.self.items ≡ without c.self.inside.held.items c.args.address = filter_same _ _ _ (λ x b f' k. search rules) _ _ c.retain.ensures.filtered in
    (omega (arith, enough, capacity), subst (AreWatched c.self.inside.watched) (sym is) (watched-unlocked c.self.inside.watched c.self.inside.held.items c.args.address c.self.invariant.1))

pub returns-clause-watch : goal.returns-clause-watch
returns-clause-watch c =
    let is : c.retain.new.self.items ≡ without c.self.inside.held.items c.args.address = filter_same _ _ _ (λ x b f' k. search rules) _ _ c.retain.ensures.filtered in
    grind (arith, common_steps, is)
