-- The runs of samples, computed.
use Rattle.std.proofs.Common.{refl}
use Rattle.ir_core.specs.declared.types.Ty as ty
use Rattle.op_table.specs.Operators as operators
use Rattle.hard_meaning.specs.Rows.{SumIsHardened, Whole, Unfinished, UpsetUndone, UpsetHit, UpsetInWindow, UpsetUnused, UpsetMissed, UndoneTwice, UpsetStacked, HitStands, Trapped, BranchStruck, EdgeChecked, StoreUndone, WriteConflicts, ReadConflicts, BothCommit, WriteFits, WriteOverflows, ReadFits, ReadOverflows, LockedTwice, LocksWatched, WatchConflicts, FallsBack}

pub sum-is-hardened : SumIsHardened
unfolding operators.binary operators.compares operators.converted ty.out-Ty denote.Hole.Carrier.out
sum-is-hardened = refl

pub whole : Whole
unfolding operators.binary operators.compares operators.converted ty.out-Ty denote.Hole.Carrier.out
whole memory = refl

pub unfinished : Unfinished
unfolding operators.binary operators.compares operators.converted ty.out-Ty denote.Hole.Carrier.out
unfinished memory = refl

pub upset-undone : UpsetUndone
unfolding operators.binary operators.compares operators.converted ty.out-Ty denote.Hole.Carrier.out
upset-undone memory = refl

pub upset-hit : UpsetHit
unfolding operators.binary operators.compares operators.converted ty.out-Ty denote.Hole.Carrier.out
upset-hit memory = refl

pub upset-in-window : UpsetInWindow
unfolding operators.binary operators.compares operators.converted ty.out-Ty denote.Hole.Carrier.out
upset-in-window memory = refl

pub upset-unused : UpsetUnused
unfolding operators.binary operators.compares operators.converted ty.out-Ty denote.Hole.Carrier.out
upset-unused memory = refl

pub upset-missed : UpsetMissed
unfolding operators.binary operators.compares operators.converted ty.out-Ty denote.Hole.Carrier.out
upset-missed memory = refl

pub undone-twice : UndoneTwice
unfolding operators.binary operators.compares operators.converted ty.out-Ty denote.Hole.Carrier.out
undone-twice memory = refl

pub upset-stacked : UpsetStacked
unfolding operators.binary operators.compares operators.converted ty.out-Ty denote.Hole.Carrier.out
upset-stacked memory = refl

pub hit-stands : HitStands
unfolding operators.binary operators.compares operators.converted ty.out-Ty denote.Hole.Carrier.out
hit-stands memory = refl

pub trapped : Trapped
unfolding operators.binary operators.compares operators.converted ty.out-Ty denote.Hole.Carrier.out
trapped memory = refl

pub branch-struck : BranchStruck
unfolding operators.binary operators.compares operators.converted ty.out-Ty denote.Hole.Carrier.out
branch-struck memory = refl

pub edge-checked : EdgeChecked
unfolding operators.binary operators.compares operators.converted ty.out-Ty denote.Hole.Carrier.out
edge-checked memory = refl

pub store-undone : StoreUndone
unfolding operators.binary operators.compares operators.converted ty.out-Ty denote.Hole.Carrier.out
store-undone = refl

pub write-conflicts : WriteConflicts
unfolding operators.binary operators.compares operators.converted ty.out-Ty denote.Hole.Carrier.out
write-conflicts = refl

pub read-conflicts : ReadConflicts
unfolding operators.binary operators.compares operators.converted ty.out-Ty denote.Hole.Carrier.out
read-conflicts = refl

pub both-commit : BothCommit
unfolding operators.binary operators.compares operators.converted ty.out-Ty denote.Hole.Carrier.out
both-commit = refl

pub write-fits : WriteFits
unfolding operators.binary operators.compares operators.converted ty.out-Ty denote.Hole.Carrier.out
write-fits = refl

pub write-overflows : WriteOverflows
unfolding operators.binary operators.compares operators.converted ty.out-Ty denote.Hole.Carrier.out
write-overflows = refl

pub read-fits : ReadFits
unfolding operators.binary operators.compares operators.converted ty.out-Ty denote.Hole.Carrier.out
read-fits = refl

pub read-overflows : ReadOverflows
unfolding operators.binary operators.compares operators.converted ty.out-Ty denote.Hole.Carrier.out
read-overflows = refl

pub locked-twice : LockedTwice
unfolding operators.binary operators.compares operators.converted ty.out-Ty denote.Hole.Carrier.out
locked-twice = refl

pub locks-watched : LocksWatched
unfolding operators.binary operators.compares operators.converted ty.out-Ty denote.Hole.Carrier.out
locks-watched = refl

pub watch-conflicts : WatchConflicts
unfolding operators.binary operators.compares operators.converted ty.out-Ty denote.Hole.Carrier.out
watch-conflicts = refl

pub falls-back : FallsBack
unfolding operators.binary operators.compares operators.converted ty.out-Ty denote.Hole.Carrier.out
falls-back = refl
