use Rattle.std.proofs.Common.{◌∙◌, ap, sym, Err, true, false}
use Rattle.ir_parse_top.proofs.Gathering.{grows_by, comes_to_closed, comes_to_column, comes_to_end, slice_within, slice_closes}
use Rattle.ir_parse_top.proofs.switches.gather_line.Goals as goal

pub returns-in_default-clause-over : goal.returns-in_default-clause-over
returns-in_default-clause-over c =
    let e = c.in_default.ensures in
    comes_to_end c.args.lines.now c.next.new.self c.args.tokens.now.items e.none.0 e.none.1 c.requires.sound

pub returns-in-Err-BadByte-clause-over : goal.returns-in-Err-BadByte-clause-over
returns-in-Err-BadByte-clause-over c =
    let e = c.in-Err-BadByte.ensures.bad c.in-Err-BadByte.column (ap Err c.in-Err-BadByte.field-0-is) in
    (comes_to_column c.args.lines.now c.next.new.self _ _ c.in-Err-BadByte.column c.args.tokens.now.items c.add_tokens.new.all.items c.in-Some.ensures.some c.requires.sound e.0 e.1)

pub has_punct-requires-clause-within : goal.has_punct-requires-clause-within
has_punct-requires-clause-within c =
    slice_within c.args.lines.now c.next.new.self _ _ c.args.tokens.now.items c.add_tokens.new.all.items c.in-Some.ensures.some c.in-Ok.ensures.tokens c.text.result.now c.as_slice.result.now c.as_slice-count.result.now c.text.ensures.text c.as_slice.ensures.value c.as_slice-count.ensures.value

pub returns-then-has_punct-clause-over : goal.returns-then-has_punct-clause-over
returns-then-has_punct-clause-over c =
    comes_to_closed c.args.lines.now c.next.new.self _ _ c.args.tokens.now.items c.add_tokens.new.all.items c.in-Some.ensures.some c.in-Ok.ensures.tokens c.requires.sound c.in-Some.ensures.within
    (slice_closes c.args.lines.now c.next.new.self _ _ c.args.tokens.now.items c.add_tokens.new.all.items c.in-Some.ensures.some c.in-Ok.ensures.tokens c.text.result.now c.as_slice.result.now c.as_slice-count.result.now c.text.ensures.text c.as_slice.ensures.value c.as_slice-count.ensures.value true (sym c.has_punct.ensures ∙ c.if-has_punct.true))

pub returns-clause-more : goal.returns-clause-more
returns-clause-more c =
    grows_by c.args.lines.now c.next.new.self _ _ c.args.tokens.now.items c.add_tokens.new.all.items c.in-Some.ensures.some c.in-Ok.ensures.tokens c.requires.sound c.in-Some.ensures.within
    (slice_closes c.args.lines.now c.next.new.self _ _ c.args.tokens.now.items c.add_tokens.new.all.items c.in-Some.ensures.some c.in-Ok.ensures.tokens c.text.result.now c.as_slice.result.now c.as_slice-count.result.now c.text.ensures.text c.as_slice.ensures.value c.as_slice-count.ensures.value false (sym c.has_punct.ensures ∙ c.if-has_punct.false))
