use Rattle.std.proofs.Common.{◌≡◌, ◌∙◌, ◌<◌, ◌++◌, ap, sym, subst, arith, ℕ, List, length, true, false}
use Rattle.rtm_core.specs.declared.Aborted.{Aborted}
use Rattle.rtm_core.specs.Calls.{touch_of, store_of, got_of, conflict_aborts, AreThreads}
use Rattle.rtm_core.specs.Transactions.{Entry, entry_of, struck_from}
use Rattle.rtm_core.specs.Transactions.Entry.{Full, Entered}
use Rattle.rtm_core.proofs.Machines.{all-aborted, all-done, entry-is, none-aborted, own-room, room-is}
use Rattle.rtm_core.proofs.Others.{length-spared}
use Rattle.rtm_core.proofs.Threads.{more-threads, struck-threads}
use Rattle.rtm_core.proofs.machine.Rtm.access.Goals as goal

pub returns-then-not-has_room-clause-out : goal.returns-then-not-has_room-clause-out
returns-then-not-has_room-clause-out g c =
    let i = c.self.inside in
    let t : ℕ = c.args.t.0 in
    let touch = touch_of c.args.access.now in
    let less : t < length i.slots.items = omega (arith, c.self.invariant, c.requires.thread) in
    let room = room-is i.image i.slots.items t c.index.result.now touch c.args.self.now c.has_room.result less c.index.ensures c.has_room.ensures c.self.view_is ∙ c.if-not-has_room.true in
    let entry : entry_of c.args.self.now t touch ≡ Full = entry-is c.args.self.now t touch false c.requires.valid room in
    none-aborted c.args.self.now t touch c.args.out.now.items entry

pub invariant_of-self : goal.invariant_of-self
invariant_of-self g c = ap length c.strike_others.ensures.slots ∙ length-spared c.args.t.0 (touch_of c.args.access.now) 0 c.self.inside.slots.items ∙ c.self.invariant

pub done-requires-clause-room : goal.done-requires-clause-room
done-requires-clause-room g c =
    let i = c.self.inside in
    let t : ℕ = c.args.t.0 in
    let touch = touch_of c.args.access.now in
    let less : t < length i.slots.items = omega (arith, c.self.invariant, c.requires.thread) in
    let room = room-is i.image i.slots.items t c.index.result.now touch c.args.self.now c.has_room.result less c.index.ensures c.has_room.ensures c.self.view_is ∙ c.if-not-has_room.false in
    own-room i.image i.slots.items c.strike_others.new.slots.items t touch c.args.self.now c.strike_others.ensures.slots c.self.view_is ∙ room

pub returns-clause-got : goal.returns-clause-got
returns-clause-got g c =
    let i = c.self.inside in
    let t : ℕ = c.args.t.0 in
    let touch = touch_of c.args.access.now in
    let less : t < length i.slots.items = omega (arith, c.self.invariant, c.requires.thread) in
    let room = room-is i.image i.slots.items t c.index.result.now touch c.args.self.now c.has_room.result less c.index.ensures c.has_room.ensures c.self.view_is ∙ c.if-not-has_room.false in
    let entry : entry_of c.args.self.now t touch ≡ Entered = entry-is c.args.self.now t touch true c.requires.valid room in
    sym (ap (λ (e : Entry). got_of e c.args.answer) entry)

pub returns-clause-parts : goal.returns-clause-parts
returns-clause-parts g c =
    let i = c.self.inside in
    let t : ℕ = c.args.t.0 in
    let touch = touch_of c.args.access.now in
    let less : t < length i.slots.items = omega (arith, c.self.invariant, c.requires.thread) in
    let room = room-is i.image i.slots.items t c.index.result.now touch c.args.self.now c.has_room.result less c.index.ensures c.has_room.ensures c.self.view_is ∙ c.if-not-has_room.false in
    let entry : entry_of c.args.self.now t touch ≡ Entered = entry-is c.args.self.now t touch true c.requires.valid room in
    c.done.ensures ∙ all-done i.image i.slots.items c.strike_others.new.slots.items t touch (store_of c.args.access.now c.args.store) c.args.self.now c.strike_others.ensures.slots c.self.view_is entry

pub returns-clause-out : goal.returns-clause-out
returns-clause-out g c =
    let i = c.self.inside in
    let t : ℕ = c.args.t.0 in
    let touch = touch_of c.args.access.now in
    let less : t < length i.slots.items = omega (arith, c.self.invariant, c.requires.thread) in
    let room = room-is i.image i.slots.items t c.index.result.now touch c.args.self.now c.has_room.result less c.index.ensures c.has_room.ensures c.self.view_is ∙ c.if-not-has_room.false in
    let entry : entry_of c.args.self.now t touch ≡ Entered = entry-is c.args.self.now t touch true c.requires.valid room in
    c.strike_others.ensures.out ∙ ap (λ (out : List (Aborted _)). out ++ conflict_aborts (struck_from t touch 0 i.slots.items)) c.reserve.ensures.items
    ∙ all-aborted i.image i.slots.items t touch c.args.self.now c.args.out.now.items c.self.view_is entry

pub returns-clause-threads : goal.returns-clause-threads
returns-clause-threads g c = λ all.
    let i = c.self.inside in
    let t : ℕ = c.args.t.0 in
    let touch = touch_of c.args.access.now in
    subst (λ list. AreThreads list) (sym (c.strike_others.ensures.out ∙ ap (λ (out : List (Aborted _)). out ++ conflict_aborts (struck_from t touch 0 i.slots.items)) c.reserve.ensures.items))
    (more-threads c.args.out.now.items (conflict_aborts (struck_from t touch 0 i.slots.items)) all (struck-threads t touch 0 i.slots.items (omega (arith, c.self.invariant))))
