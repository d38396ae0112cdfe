use Rattle.std.proofs.Common.{◌≡◌, ◌∙◌, ◌<◌, ◌≤◌, sym, arith, length, get_or, None}
use Rattle.std.proofs.lemmas.List.{get_or_default}
use Rattle.rtm_core.specs.Calls.{touch_of}
use Rattle.rtm_core.proofs.Others.{spared-next, spared-done, struck-next, struck-done}
use Rattle.rtm_core.proofs.conflicts.strike_others.Goals as goal

pub loop-u-preserved : goal.loop-u-preserved
loop-u-preserved g c =
    let less : c.loop-u.u < length c.loop-u.slots.items = omega (arith, c.loop-u.invariant.count, c.loop-u-test.true) in
    let slot : c.index_mut.result.now ≡ get_or c.loop-u.slots.items c.loop-u.u None = c.index_mut.ensures.value ∙ get_or_default c.loop-u.slots.items c.loop-u.u c.index_mut.result.now None less in
    record {
      count = c.loop-u.invariant.count;
      room = omega (arith, c.loop-u.invariant.room, c.strike.ensures.len, c.strike.ensures.capacity, c.loop-u-test.true);
      kept = omega (arith, c.loop-u.invariant.kept, c.strike.ensures.capacity);
      slots = spared-next c.args.t.0 (touch_of c.args.access.now) c.loop-u.u c.loop-u.slots.items c.index_mut.result.now c.strike.new.slot less slot c.strike.ensures.slot ∙ c.loop-u.invariant.slots;
      out = struck-next c.args.t.0 (touch_of c.args.access.now) c.loop-u.u c.loop-u.slots.items c.index_mut.result.now c.strike.new.slot c.loop-u.out.items c.strike.new.out.items less slot c.strike.ensures.out ∙ c.loop-u.invariant.out;
    }

pub returns : goal.returns
returns g c =
    let past : length c.loop-u.slots.items ≤ c.loop-u.u = omega (arith, c.loop-u.invariant.count, c.loop-u-test.false) in
    record {
      capacity = c.loop-u.invariant.kept;
      slots = sym (spared-done c.args.t.0 (touch_of c.args.access.now) c.loop-u.u c.loop-u.slots.items past) ∙ c.loop-u.invariant.slots;
      out = sym (struck-done c.args.t.0 (touch_of c.args.access.now) c.loop-u.u c.loop-u.slots.items c.loop-u.out.items past) ∙ c.loop-u.invariant.out;
    }
