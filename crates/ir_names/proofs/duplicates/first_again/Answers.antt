use Rattle.std.proofs.Common.{◌≡◌, ◌∙◌, sym, true, false}
use Rattle.std.specs.Prelude.{slice_index_or}
use Rattle.ir_lines.specs.declared.site.Named.{Named}
use Rattle.ir_names.specs.Sets.{has_name}
use Rattle.ir_names.proofs.Again.{past, set-more, again-here, again-later, not-false, not-true}
use Rattle.ir_names.proofs.duplicates.first_again.Goals as goal

pub returns-then-not-branch : goal.returns-then-not-branch
returns-then-not-branch c =
    let defs = c.args.definitions.now in
    let i = c.loop-site.site-index in
    let name : Named = (slice_index_or defs i past).1 in
    let known : has_name c.loop-site.seen name ≡ true = not-false _ c.in_ok-insert.field-0 c.in_ok-insert.ensures.lacked c.if-not-branch.true in
    sym (again-here defs i past c.loop-site-test.true (sym (c.loop-site.invariant.seen name) ∙ known)) ∙ c.loop-site.invariant.rest

pub loop-site-preserved : goal.loop-site-preserved
loop-site-preserved c =
    let defs = c.args.definitions.now in
    let i = c.loop-site.site-index in
    let name : Named = (slice_index_or defs i past).1 in
    let lacked : has_name c.loop-site.seen name ≡ false = not-true _ c.in_ok-insert.field-0 c.in_ok-insert.ensures.lacked c.if-not-branch.false in
    record {
      seen = set-more defs i past c.loop-site.seen c.insert.new.self c.loop-site-test.true c.in_ok-insert.ensures.added c.loop-site.invariant.seen;
      rest = again-later defs i past c.loop-site-test.true (sym (c.loop-site.invariant.seen name) ∙ lacked) ∙ c.loop-site.invariant.rest;
    }
