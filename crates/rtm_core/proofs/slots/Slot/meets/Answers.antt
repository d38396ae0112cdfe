use Rattle.std.proofs.Common.{◌∙◌, ap, Bool, ◌&&◌, ◌||◌, ◌/◌}
use Rattle.line_sets.specs.Sets.{has}
use Rattle.rtm_core.specs.Calls.{touch_of}
use Rattle.rtm_core.specs.Transactions.{meets}
use Rattle.rtm_core.proofs.Fields.{meets-of}
use Rattle.rtm_core.proofs.slots.Slot.meets.Goals as goal

pub returns : goal.returns
returns g c =
    let i = c.self.inside in
    let access = c.args.access.now in
    c.is_conflict.ensures
    ∙ ap (λ (b : Bool). (access.reads && c.has-2.result) || (access.writes && (b || c.has-2.result))) c.has.ensures
    ∙ ap (λ (b : Bool). (access.reads && b) || (access.writes && (has i.reads (access.addr / 64) || b))) c.has-2.ensures
    ∙ meets-of i.keep i.reads i.writes i.buffers.items (touch_of access) c.self.invariant c.if-is_none.ensures ∙ ap (meets (touch_of access)) c.self.view_is
