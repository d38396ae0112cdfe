use Rattle.std.proofs.Common.{◌∙◌, sym, ◌+◌, drop}
use Rattle.ir_lines.specs.Lines.{block_lines, blocks_lines, first_told}
use Rattle.ir_lines.proofs.Breaks.{found-first, none-yet}
use Rattle.ir_check.specs.CodeLimits.{limit_in}
use Rattle.ir_check.proofs.Told.{told-block}
use Rattle.ir_check.proofs.code_limits.first_of_blocks.Goals as goal

pub returns-in-Some : goal.returns-in-Some
returns-in-Some c =
    let told = limit_in c.args.layout.now.types in
    let blocks = c.args.blocks.now in
    let f = c.args.f.now in
    let n = c.args.n in
    found-first (first_told told (blocks_lines n f 0 blocks)) (first_told told (block_lines n f c.loop-b.b c.index-blocks-b.result)) (first_told told (blocks_lines n f (c.loop-b.b + 1) (drop (c.loop-b.b + 1) blocks))) c.in-Some.first
    (sym c.loop-b.invariant ∙ told-block told n f c.loop-b.b blocks c.index-blocks-b.result c.loop-b-test.true c.index-blocks-b.is)
    (sym c.in-Some.ensures)

pub loop-b-preserved : goal.loop-b-preserved
loop-b-preserved c =
    let told = limit_in c.args.layout.now.types in
    let blocks = c.args.blocks.now in
    let f = c.args.f.now in
    let n = c.args.n in
    none-yet (first_told told (blocks_lines n f 0 blocks)) (first_told told (block_lines n f c.loop-b.b c.index-blocks-b.result)) (first_told told (blocks_lines n f (c.loop-b.b + 1) (drop (c.loop-b.b + 1) blocks)))
    (sym c.loop-b.invariant ∙ told-block told n f c.loop-b.b blocks c.index-blocks-b.result c.loop-b-test.true c.index-blocks-b.is)
    (sym c.in_default.ensures)
