use Rattle.std.proofs.Common.{inl, inr}
use Rattle.std.proofs.lemmas.Bool.{iff_false}
use Rattle.ir_parse_top.proofs.PassedLines.{passes_more, finds_text, blank_line, empty_list, isnt_empty}
use Rattle.ir_parse_top.proofs.passing.next_text.Goals as goal

pub lines-preserved-then-is_dropped : goal.lines-preserved-then-is_dropped
lines-preserved-then-is_dropped c =
    (c.lines.invariant.0, passes_more c.args.place _ _ _ _ _ c.lines.invariant.1 c.in-Some.ensures.some (inl (c.is_dropped.ensures.0 c.if-is_dropped.true)))

pub returns-in-len1-up-clause-found : goal.returns-in-len1-up-clause-found
returns-in-len1-up-clause-found c =
    finds_text c.args.place _ _ _ _ _ _ _ c.lines.invariant.0 c.lines.invariant.1 c.in-Some.ensures.some (iff_false c.is_dropped.ensures c.if-is_dropped.false) c.in_ok-add_line.ensures.tokens (isnt_empty _ _ c.as_slice.ensures.value c.in-len1-up.len_at_least)

pub lines-preserved : goal.lines-preserved
lines-preserved c =
    let none = empty_list _ _ c.as_slice.ensures.value c.in-empty.len_below in
    (none, passes_more c.args.place _ _ _ _ _ c.lines.invariant.1 c.in-Some.ensures.some (inr (iff_false c.is_dropped.ensures c.if-is_dropped.false, blank_line _ _ _ c.lines.invariant.0 c.in_ok-add_line.ensures.tokens none)))
