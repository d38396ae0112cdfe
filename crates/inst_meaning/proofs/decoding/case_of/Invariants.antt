-- the cases that are left give the label
use Rattle.std.proofs.Common.{◌≡◌, drop}
use Rattle.inst_meaning.specs.Action.{case_of}
use Rattle.inst_meaning.proofs.decoding.case_of.Given as goal

abbrev pub invariant-loop-case : goal.invariant-loop-case
invariant-loop-case l = case_of l.n (drop l.case-index l.cases) l.default ≡ case_of l.n l.cases l.default
