use Rattle.std.proofs.Common.{◌∙◌, sym, ◌+◌, drop}
use Rattle.ir_lines.specs.Lines.{block_lines, blocks_lines, first_break}
use Rattle.ir_lines.proofs.Breaks.{at-block, found-first, none-yet}
use Rattle.ir_lines.proofs.rules.first_in_blocks.Goals as goal

pub returns-in-Some : goal.returns-in-Some
returns-in-Some g c =
    let keeps = g.R.Rule.keeps c.args.rule.now in
    let blocks = c.args.blocks.now in
    let f = c.args.f.now in
    let n = c.args.n in
    found-first (first_break keeps (blocks_lines n f 0 blocks)) (first_break keeps (block_lines n f c.loop-b.b c.index-blocks-b.result)) (first_break keeps (blocks_lines n f (c.loop-b.b + 1) (drop (c.loop-b.b + 1) blocks))) c.in-Some.site
    (sym c.loop-b.invariant ∙ at-block keeps n f c.loop-b.b blocks c.index-blocks-b.result c.loop-b-test.true c.index-blocks-b.is)
    (sym c.in-Some.ensures)

pub loop-b-preserved : goal.loop-b-preserved
loop-b-preserved g c =
    let keeps = g.R.Rule.keeps c.args.rule.now in
    let blocks = c.args.blocks.now in
    let f = c.args.f.now in
    let n = c.args.n in
    none-yet (first_break keeps (blocks_lines n f 0 blocks)) (first_break keeps (block_lines n f c.loop-b.b c.index-blocks-b.result)) (first_break keeps (blocks_lines n f (c.loop-b.b + 1) (drop (c.loop-b.b + 1) blocks)))
    (sym c.loop-b.invariant ∙ at-block keeps n f c.loop-b.b blocks c.index-blocks-b.result c.loop-b-test.true c.index-blocks-b.is)
    (sym c.in_default.ensures)
