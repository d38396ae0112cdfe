-- the file has room for all, and the words that are left make of it what all make of the one that was grown
use Rattle.std.proofs.Common.{◌≡◌, length, drop}
use Rattle.inst_meaning.specs.Phis.{all_assigned}
use Rattle.inst_meaning.proofs.files.Registers.assign_all.Given as goal

abbrev pub invariant-loop-at : goal.invariant-loop-at
invariant-loop-at l = record {
  room : length l.self-inside.words.items ≡ l.room;
  left : all_assigned (drop l.at-index l.words) l.self-inside.words.items ≡ all_assigned l.words l.initial.self-inside.words.items;
}
