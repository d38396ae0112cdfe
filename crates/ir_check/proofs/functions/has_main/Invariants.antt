use Rattle.std.proofs.Common.{◌≡◌, drop}
use Rattle.std.specs.List.{list_any}
use Rattle.ir_check.specs.Functions.{is_main, has_main}
use Rattle.ir_check.proofs.functions.has_main.Given as goal

abbrev pub invariant-loop-f : goal.invariant-loop-f
invariant-loop-f l = list_any (is_main l.m) (drop l.f-index l.f-items) ≡ has_main l.m
