use Rattle.std.proofs.Common.{◌<◌, length, get_or, sym, ◌∙◌, arith}
use Rattle.std.proofs.lemmas.List.{length-set, at_drop_all}
use Rattle.inst_meaning.specs.Phis.{all_assigned}
use Rattle.inst_meaning.proofs.Rooms.{room_for_each, all_assigned-resized, all_assigned-more}
use Rattle.inst_meaning.proofs.files.Registers.assign_all.Goals as goal

pub index_mut-requires : goal.index_mut-requires
index_mut-requires c =
    omega (arith, room_for_each c.len.result c.args.words.now c.loop-at.at-index (record { 0 = 0 }, 0) (omega arith), c.room_for-room.ensures, c.loop-at.self-inside.words.ok.0)

pub loop-at-preserved : goal.loop-at-preserved
loop-at-preserved c =
    let xs = c.loop-at.self-inside.words.items in
    let words = c.args.words.now in
    let at = (get_or words c.loop-at.at-index (record { 0 = 0 }, 0)).0.0 in
    let inside : at < length xs = omega (arith, room_for_each c.len.result words c.loop-at.at-index (record { 0 = 0 }, 0) (omega arith), c.room_for-room.ensures) in
    record {
      room = length-set xs at _ ∙ c.loop-at.invariant.room;
      left = all_assigned-more words xs c.loop-at.at-index (record { 0 = 0 }, 0) _ (omega arith) c.from.ensures inside ∙ c.loop-at.invariant.left;
    }

pub returns-clause-ok : goal.returns-clause-ok
returns-clause-ok c =
    let words = c.args.words.now in
    let room = rw c.len.ensures at c.room_for-room.ensures in
    let grown = all_assigned-resized words c.self.inside.words.items c.resize.new.self.items _ _ (omega (arith, c.self.inside.words.ok.0)) room c.in_ok-resize.ensures.items in
    let rest = at_drop_all (λ ws. all_assigned ws c.loop-at.self-inside.words.items) words c.loop-at.at-index (omega arith) in
    rw (← c.self.view_is) (sym rest ∙ c.loop-at.invariant.left ∙ grown)
