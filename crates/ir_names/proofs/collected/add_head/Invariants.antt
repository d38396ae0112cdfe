use Rattle.std.proofs.Common.{◌≡◌, ◌++◌, ℕ, List, map, drop}
use Rattle.ir_core.specs.declared.types.Ty.{Ty}
use Rattle.ir_core.specs.declared.types.Loc as locs
use Rattle.ir_core.specs.Module.{FuncParts}
use Rattle.ir_lines.specs.declared.site.Site.{Site}
use Rattle.ir_lines.specs.declared.site.Site.TheVariants.{Global}
use Rattle.ir_lines.specs.declared.site.Named.{Named}
use Rattle.ir_lines.specs.declared.site.Named.TheVariants.{Loc}
use Rattle.ir_names.proofs.collected.add_head.Given as goal

abbrev defined : ℕ → FuncParts → List (Ty × locs.Loc) → List (Site × Named)
defined n f params = map (λ name. (Global f.sym, name)) (map (λ param. Loc n param.1) params)

abbrev pub invariant-loop-at : goal.invariant-loop-at
invariant-loop-at l = l.list ++ defined l.n l.f (drop l.at-index l.at-items) ≡ l.initial.list ++ defined l.n l.f l.at-items
