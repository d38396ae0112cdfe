use Rattle.std.proofs.Common.{◌≡◌, ◌∙◌, ◌<◌, ap, sym, arith, false, ℕ, List, [], ◌∷◌, Some, length, length-append, subst, true}
use Rattle.std.proofs.lemmas.Grind.{common_steps}
use Rattle.std.proofs.Math.ListN.{length-set}
use Rattle.line_sets.specs.Sets.{has, place_in, with_member}
use Rattle.mem_image.specs.Lines.{AreLines}
use Rattle.mem_image.proofs.LineBuffers.{opened-lines}
use Rattle.rtm_core.specs.code.Slots.{lines_of}
use Rattle.rtm_core.proofs.Fields.{few-lines}
use Rattle.rtm_core.proofs.LineLists.{new-member, opened-same, place-last, place-none, room-left, with-new}
use Rattle.rtm_core.proofs.slots.open_line.Goals as goal

pub returns-in-Some-clause-lines : goal.returns-in-Some-clause-lines
returns-in-Some-clause-lines c =
    let few = few-lines c.args.writes.now c.args.buffers.now.items c.requires.buffers in
    opened-same c.args.writes.now c.args.buffers.now.items c.args.line c.in-Some.place few (sym c.in-Some.ensures)

pub index_mut-requires : goal.index_mut-requires
index_mut-requires c =
    let none : has c.args.writes.now c.args.line ≡ false = place-none c.args.writes.now c.args.line (sym c.in_default.ensures) in
    let room : length c.args.writes.now < 512 = room-left c.args.writes.now c.args.line c.requires.room none in
    omega (arith, room, c.requires.buffers.count, c.len-place.ensures.length)

pub returns-clause-lines : goal.returns-clause-lines
returns-clause-lines c =
    let none : has c.args.writes.now c.args.line ≡ false = place-none c.args.writes.now c.args.line (sym c.in_default.ensures) in
    let added : c.add.new.self ≡ with_member c.args.writes.now c.args.line = grind (arith, common_steps, c.add.ensures.ok, c.add.ensures.full, c.requires.room) in
    with-new c.args.writes.now c.add.new.self c.args.buffers.now.items c.args.line c.len-place.result c.clear.new.self c.requires.buffers none c.requires.room added c.len-place.ensures.length c.clear.ensures

pub returns-clause-place : goal.returns-clause-place
returns-clause-place c =
    let none : has c.args.writes.now c.args.line ≡ false = place-none c.args.writes.now c.args.line (sym c.in_default.ensures) in
    let added : c.add.new.self ≡ with_member c.args.writes.now c.args.line = grind (arith, common_steps, c.add.ensures.ok, c.add.ensures.full, c.requires.room) in
    ap (λ (ns : List ℕ). place_in ns c.args.line) (added ∙ new-member c.args.writes.now c.args.line none) ∙ place-last c.args.writes.now c.args.line none ∙ ap Some (sym c.len-place.ensures.length)

pub returns-clause-buffers : goal.returns-clause-buffers
returns-clause-buffers c =
    let none : has c.args.writes.now c.args.line ≡ false = place-none c.args.writes.now c.args.line (sym c.in_default.ensures) in
    let room : length c.args.writes.now < 512 = room-left c.args.writes.now c.args.line c.requires.room none in
    let added : c.add.new.self ≡ with_member c.args.writes.now c.args.line = grind (arith, common_steps, c.add.ensures.ok, c.add.ensures.full, c.requires.room) in
    let lines = with-new c.args.writes.now c.add.new.self c.args.buffers.now.items c.args.line c.len-place.result c.clear.new.self c.requires.buffers none c.requires.room added c.len-place.ensures.length c.clear.ensures in
    record {
      count = length-set c.args.buffers.now.items c.len-place.result c.clear.new.self ∙ c.requires.buffers.count;
      few = omega (arith, ap length (added ∙ new-member c.args.writes.now c.args.line none), length-append c.args.writes.now (c.args.line ∷ []), room);
      lines = subst AreLines (sym lines) (opened-lines true (lines_of c.args.writes.now c.args.buffers.now.items) c.args.line c.requires.buffers.lines);
    }
