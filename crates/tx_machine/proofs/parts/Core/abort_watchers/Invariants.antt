use Rattle.std.proofs.Common.{◌≡◌, length}
use Rattle.tx_machine.specs.Core.{watchers_aborted}
use Rattle.tx_machine.proofs.parts.Core.abort_watchers.Given as goal

abbrev pub invariant-loop-u : goal.invariant-loop-u
invariant-loop-u l = record {
  count : length l.self.own ≡ length l.initial.self.own;
  parts : l.self ≡ watchers_aborted l.u l.t.0 l.address l.initial.self;
}
