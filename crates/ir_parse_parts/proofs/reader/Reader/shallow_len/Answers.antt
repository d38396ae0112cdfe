use Rattle.std.proofs.Common.{◌≡◌, sym, arith}
use Rattle.ir_parse_parts.proofs.Fronts.{front_more, front_over}
use Rattle.ir_parse_parts.proofs.reader.Reader.shallow_len.Goals as goal

pub tokens-preserved : goal.tokens-preserved
tokens-preserved c =
    let more = front_more c.tokens.ahead c.tokens.standing c.in-Some.behind (sym c.in-Some.ensures) in
    rw c.skip.ensures (omega (arith, c.tokens.invariant, more.0, more.1))

pub overflow_sub-result : goal.overflow_sub-result
overflow_sub-result c = omega (arith, front_over c.tokens.ahead c.tokens.standing (sym c.in_default.ensures), c.tokens.invariant, c.len.ensures, c.len-2.ensures)

pub returns : goal.returns
returns c = omega (arith, front_over c.tokens.ahead c.tokens.standing (sym c.in_default.ensures), c.tokens.invariant, c.len.ensures, c.len-2.ensures)
