use Rattle.std.proofs.Common.{subst}
use Rattle.std.specs.List.{IsDistinct}
use Rattle.std.specs.Str.{bytes_eq}
use Rattle.ir_core.proofs.Keys.{IsDistinct-map}
use Rattle.ir_core.proofs.tables.Names.count.Goals as goal

pub returns-clause-distinct : goal.returns-clause-distinct
returns-clause-distinct c =
    subst (IsDistinct bytes_eq) c.self.view_is (IsDistinct-map (λ key. key.items) bytes_eq c.self.inside.set.keys c.len.ensures.unique)
