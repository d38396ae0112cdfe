-- as long as the words so far make it
use Rattle.std.proofs.Common.{◌≡◌, take}
use Rattle.inst_meaning.proofs.Rooms.{room_for}
use Rattle.inst_meaning.proofs.files.room_for.Given as goal

abbrev pub invariant-loop-at : goal.invariant-loop-at
invariant-loop-at l = l.room ≡ room_for l.len (take l.at-index l.words)
