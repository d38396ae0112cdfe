use Rattle.std.proofs.Common.{◌≡◌, [], map, take, drop}
use Rattle.ir_names.specs.Sets.{HasNamesOf}
use Rattle.ir_names.specs.Names.{first_again}
use Rattle.ir_names.proofs.duplicates.first_again.Given as goal

abbrev pub invariant-loop-site : goal.invariant-loop-site
invariant-loop-site l = record {
  seen : HasNamesOf (take l.site-index l.definitions) l.seen;
  rest : first_again (map (λ d. d.1) (take l.site-index l.definitions)) (drop l.site-index l.definitions) ≡ first_again [] l.definitions;
}
