use Rattle.std.proofs.Common.{List, sym, subst}
use Rattle.ir_layout.specs.declared.spans.Span.{Span}
use Rattle.ir_layout.specs.Memory.{AreApart, globals_start}
use Rattle.ir_layout.proofs.PlacingLemmas.{spans-apart}
use Rattle.ir_layout.proofs.placing.layout.Goals as goal

pub of-requires-clause-apart : goal.of-requires-clause-apart
of-requires-clause-apart c = subst (λ (spans : List Span). AreApart spans) (sym c.in_ok-globals.ensures.placed) (spans-apart c.args.m.now.types globals_start c.args.m.now.globals)
