use Rattle.std.proofs.Common.{◌≡◌, ◌≤◌, ◌+◌, [], length, refl, subst, arith}
use Rattle.ir_parse_top.specs.Reading.{Left, lines_left, Takes}
use Rattle.ir_parse_top.proofs.LinesLeft.{none_left, to_end, takes}
use Rattle.ir_parse_top.proofs.cursor.Lines.next.Goals as goal

pub returns-then-self-clause-none : goal.returns-then-self-clause-none
returns-then-self-clause-none c = (subst (λ (l : Left). lines_left l ≡ []) c.self.view_is (none_left c.self.inside.text.now c.self.inside.at c.if-self.true), refl)

pub returns-clause-some : goal.returns-clause-some
returns-clause-some c =
    let text = c.self.inside.text.now in
    let at = c.self.inside.at in
    let number = c.self.inside.number in
    let line = c.in_ok-bytes.bytes.now in
    let e = c.in_ok-bytes.ensures in
    subst (λ (l : Left). Takes (record { at = at; bytes = line }) number l (record { text = text; at = at + (length line + 1); number = number + 1 })) c.self.view_is
    (takes text at number _ line c.in_ok-bytes.field-0-1.now (to_end text at) (let h : c.self.inside.at ≤ length c.self.inside.text.now = omega arith in h) e.lines e.first e.within)
