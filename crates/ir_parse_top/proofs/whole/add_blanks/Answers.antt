use Rattle.ir_parse_top.proofs.Numerals.{blank_more}
use Rattle.ir_parse_top.proofs.whole.add_blanks.Goals as goal

pub loop-blank-preserved : goal.loop-blank-preserved
loop-blank-preserved c = blank_more c.loop-blank.text.items c.push.new.self.items _ c.loop-blank._blank c.loop-blank-test.true c.in_ok-push.ensures.items c.loop-blank.invariant
