use Rattle.std.proofs.Common.{◌≡◌, ◌++◌, drop}
use Rattle.ir_flow.specs.Uses.{uses_from}
use Rattle.ir_flow.proofs.uses.uses_of.Given as goal

abbrev pub invariant-loop-each : goal.invariant-loop-each
invariant-loop-each l = record { place : l.block ≡ l.each-index; so_far : l.uses.items ++ uses_from l.f.blocks l.each-index (drop l.each-index l.each-items) ≡ uses_from l.f.blocks 0 l.f.blocks }
