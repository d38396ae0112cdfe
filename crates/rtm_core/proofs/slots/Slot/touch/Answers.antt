use Rattle.std.proofs.Common.{◌∙◌, ap, not, ◌||◌}
use Rattle.line_sets.specs.Sets.{takes}
use Rattle.mem_image.specs.Lines.{line_of}
use Rattle.rtm_core.specs.Calls.{touch_of}
use Rattle.rtm_core.specs.Footprint.{read_limit, write_limit}
use Rattle.rtm_core.specs.Transactions.{has_room_in}
use Rattle.rtm_core.proofs.Fields.{and-right, room-of}
use Rattle.rtm_core.proofs.slots.Slot.touch.Goals as goal

pub put_word-requires-clause-room : goal.put_word-requires-clause-room
put_word-requires-clause-room g c =
    let i = c.self.inside in
    let access = c.args.access.now in
    and-right (not access.reads || takes read_limit i.reads (line_of access.addr)) (not access.writes || takes write_limit i.writes (line_of access.addr))
    (room-of i.keep i.reads i.writes i.buffers.items (touch_of access) c.self.invariant c.if-is_none.ensures ∙ ap (has_room_in (touch_of access)) c.self.view_is ∙ c.requires.room)
