use Rattle.std.proofs.Common.{◌≡◌, [], drop}
use Rattle.std.specs.Prelude.{fold}
use Rattle.mem_image.specs.Opening.{with_global}
use Rattle.mem_image.proofs.opening.global_bytes.Given as goal

abbrev pub invariant-loop-global : goal.invariant-loop-global
invariant-loop-global l = fold (with_global l.l) l.bytes.items (drop l.global-index l.global-items) ≡ fold (with_global l.l) [] l.m.globals
