use Rattle.std.proofs.Common.{◌∙◌, ap, Bool, not, ◌&&◌, ◌||◌, ◌/◌}
use Rattle.line_sets.specs.Sets.{takes}
use Rattle.rtm_core.specs.Footprint.{read_limit}
use Rattle.rtm_core.specs.Calls.{touch_of}
use Rattle.rtm_core.specs.Transactions.{has_room_in}
use Rattle.rtm_core.proofs.Fields.{room-of}
use Rattle.rtm_core.proofs.slots.Slot.has_room.Goals as goal

pub returns : goal.returns
returns g c =
    let i = c.self.inside in
    let access = c.args.access.now in
    c.all_take.ensures
    ∙ ap (λ (b : Bool). (not access.reads || b) && (not access.writes || c.takes-2.result)) c.takes.ensures
    ∙ ap (λ (b : Bool). (not access.reads || takes read_limit i.reads (access.addr / 64)) && (not access.writes || b)) c.takes-2.ensures
    ∙ room-of i.keep i.reads i.writes i.buffers.items (touch_of access) c.self.invariant c.if-is_none.ensures ∙ ap (has_room_in (touch_of access)) c.self.view_is
