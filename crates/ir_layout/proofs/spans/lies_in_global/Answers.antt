use Rattle.std.proofs.Common.{◌≡◌, ◌+◌, ◌-◌, ◌<◌, length, sym, ◌∙◌, arith}
use Rattle.std.proofs.lemmas.Option.{slice_get-get_or}
use Rattle.ir_layout.proofs.SpanLemmas.{none-started, last-started}
use Rattle.ir_layout.proofs.spans.lies_in_global.Goals as goal

pub returns-then-count-eq0 : goal.returns-then-count-eq0
returns-then-count-eq0 c = sym (none-started c.args.globals.now c.args.address c.args.size c.started-count.result c.started-count.ensures c.if-count-eq0.true)

pub returns : goal.returns
returns c =
    let last : c.started-count.result - 1 + 1 ≡ c.started-count.result = omega arith in
    let within : c.started-count.result - 1 < length c.args.globals.now = omega (arith, c.started-count.ensures.within) in
    c.lies_in.ensures ∙ sym (last-started c.args.globals.now c.args.address c.args.size c.started-count.result (c.started-count.result - 1) _ c.requires.apart c.requires.some c.started-count.ensures last (slice_get-get_or c.args.globals.now (c.started-count.result - 1) (record { sym = record { 0 = 0 }; start = 0; size = 0 }) within))
