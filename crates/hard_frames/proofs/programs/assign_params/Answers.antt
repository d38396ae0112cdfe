use Rattle.std.proofs.Common.{◌≡◌, ◌∙◌, sym}
use Rattle.std.specs.Iterator.Adapters.{zip_first, zip_second}
use Rattle.std.specs.Slice.Iter.{iter_rest}
use Rattle.std.proofs.lemmas.List.{length_push}
use Rattle.std.proofs.lemmas.Slice.Zip.{zip_turn, zip_end}
use Rattle.src_meaning.proofs.Params.{all_assigned-param, all_assigned-params}
use Rattle.hard_frames.proofs.programs.assign_params.Goals as goal

pub loop-at-preserved : goal.loop-at-preserved
loop-at-preserved c =
    let s = c.into_iter-at-iterator.result in
    let is = c.into_iter-at-iterator.ensures.into_iter_gives in
    let params : iter_rest (zip_first s) ≡ c.args.params.now = cc (is, c.zip-at-items.ensures.first, c.iter.ensures.rest) in
    let words : iter_rest (zip_second s) ≡ c.args.words.now = cc (is, c.zip-at-items.ensures.second.0) in
    let turn = zip_turn c.args.params.now c.args.words.now c.loop-at.yielded s c.loop-at.at-iterator c.next.new.self c.next.result params words c.loop-at.yielded_by (c.in-Some.field-0-0, c.in-Some.word) c.in-Some.is c.next.ensures.steps in
    rw length_push (all_assigned-param c.args.params.now c.args.words.now _ _ _ _ _ _ turn.0 turn.1 (turn.2 _) (turn.3 _) c.from.ensures c.in_ok-assign.ensures.ok ∙ c.loop-at.invariant)

pub returns : goal.returns
returns c =
    let s = c.into_iter-at-iterator.result in
    let is = c.into_iter-at-iterator.ensures.into_iter_gives in
    let params : iter_rest (zip_first s) ≡ c.args.params.now = cc (is, c.zip-at-items.ensures.first, c.iter.ensures.rest) in
    let words : iter_rest (zip_second s) ≡ c.args.words.now = cc (is, c.zip-at-items.ensures.second.0) in
    let all = zip_end c.args.params.now c.args.words.now c.loop-at.yielded s c.loop-at.at-iterator c.next.new.self c.next.result params words c.loop-at.yielded_by c.in-None.is c.next.ensures.steps in
    sym (all_assigned-params c.args.params.now c.args.words.now _ c.loop-at.registers all) ∙ c.loop-at.invariant
