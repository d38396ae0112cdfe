use Rattle.std.proofs.Common.{◌≡◌, drop}
use Rattle.mem_image.specs.Lines.{written_in}
use Rattle.mem_image.specs.Views.{view}
use Rattle.rtm_core.specs.code.Slots.{lines_of}
use Rattle.rtm_core.proofs.slots.put_lines.Given as goal

abbrev pub invariant-loop-i : goal.invariant-loop-i
invariant-loop-i l = view l.image (written_in (drop l.i (lines_of l.writes l.buffers.items))) ≡ view l.initial.image (written_in (lines_of l.writes l.buffers.items))
