use Rattle.std.proofs.Common.{◌≡◌, ◌+◌, ◌-◌, ◌≤◌, ◌++◌, take, drop, vec_len, vec_capacity}
use Rattle.rtm_core.specs.Calls.{touch_of, conflict_aborts}
use Rattle.rtm_core.specs.Transactions.{spared_from, struck_from}
use Rattle.rtm_core.proofs.conflicts.strike_others.Given as goal

abbrev pub invariant-loop-u : goal.invariant-loop-u
invariant-loop-u g l = record {
  count : vec_len l.slots ≡ 64;
  room : vec_len l.out + (64 - l.u) ≤ vec_capacity l.out;
  kept : vec_capacity l.initial.out ≤ vec_capacity l.out;
  slots : take l.u l.slots.items ++ spared_from l.t.0 (touch_of l.access) l.u (drop l.u l.slots.items) ≡ spared_from l.t.0 (touch_of l.access) 0 l.initial.slots.items;
  out : l.out.items ++ conflict_aborts (struck_from l.t.0 (touch_of l.access) l.u (drop l.u l.slots.items)) ≡ l.initial.out.items ++ conflict_aborts (struck_from l.t.0 (touch_of l.access) 0 l.initial.slots.items);
}
