use Rattle.std.proofs.Common.{◌≡◌, take}
use Rattle.std.specs.Prelude.{nat_eq}
use Rattle.std.specs.HashMap.{get}
use Rattle.ir_core.specs.declared.types.Loc.{Loc}
use Rattle.ir_flow.specs.Edges.{number_of}
use Rattle.ir_flow.proofs.control.numbers_of.Given as goal

abbrev pub invariant-loop-block : goal.invariant-loop-block
invariant-loop-block l = record {
  place : l.number ≡ l.block-index;
  so_far : (label : Loc) → get nat_eq l.numbers label.0 ≡ number_of (take l.block-index l.blocks) label;
}
