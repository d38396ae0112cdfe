use Rattle.std.proofs.Common.{◌≡◌, [], length}
use Rattle.sched_file.specs.Reading.{args_from}
use Rattle.sched_file.proofs.drafts.args.Given as goal

-- the arguments so far, with those of the fields that are left, are those of all fields
abbrev pub invariant-fields : goal.invariant-fields
invariant-fields l = args_from l.args l.fields ≡ args_from [] l.fn.fields

abbrev pub decreases-fields : goal.decreases-fields
decreases-fields l = length l.fields
