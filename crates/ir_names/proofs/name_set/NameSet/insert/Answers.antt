use Rattle.std.proofs.Common.{◌∙◌, ap, refl, sym, ◌||◌}
use Rattle.ir_lines.specs.declared.site.Named.{Named}
use Rattle.ir_names.specs.Names.{same_name}
use Rattle.ir_names.specs.Sets.{has_name}
use Rattle.ir_names.specs.declared.name_set.NameSet.{NameSet}
use Rattle.ir_names.proofs.Adding.{loc-added}
use Rattle.ir_names.proofs.name_set.NameSet.insert.Goals as goal

pub returns-in_ok-insert-in-Loc-clause-added : goal.returns-in_ok-insert-in-Loc-clause-added
returns-in_ok-insert-in-Loc-clause-added c = λ other.
    let after : NameSet = record { types = c.args.self.now.types; syms = c.args.self.now.syms; locs = c.insert-in-Loc.new.self } in
    loc-added c.args.self.now after c.in-Loc.func c.in-Loc.at c.in_ok-insert-in-Loc.ensures.added refl refl other ∙ ap (λ (name : Named). has_name c.args.self.now other || same_name other name) (sym c.in-Loc.is)
