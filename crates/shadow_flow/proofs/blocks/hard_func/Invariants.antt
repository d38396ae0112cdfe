use Rattle.std.proofs.Common.{◌≡◌, ◌++◌, drop}
use Rattle.std.specs.List.{All}
use Rattle.hard_ir.specs.Hardened.{hard_blocks, hard_func}
use Rattle.hard_ir.specs.Image.{flow_table}
use Rattle.hard_ir.specs.Facts.{IsShort}
use Rattle.shadow_flow.proofs.blocks.hard_func.Given as goal

abbrev pub invariant-loop-n : goal.invariant-loop-n
invariant-loop-n l = record { made : l.hardened ++ hard_blocks flow_table l.f l.n (drop l.n l.f.blocks) ≡ hard_func flow_table l.f; short : All IsShort l.hardened }
