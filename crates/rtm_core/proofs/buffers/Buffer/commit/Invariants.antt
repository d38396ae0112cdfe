use Rattle.std.proofs.Common.{◌≡◌, [], ◌∷◌}
use Rattle.mem_image.specs.Lines.{written_in}
use Rattle.mem_image.specs.Views.{view}
use Rattle.rtm_core.proofs.WrittenBytes.{rest_of}
use Rattle.rtm_core.proofs.buffers.Buffer.commit.Given as goal

abbrev pub invariant-loop-k : goal.invariant-loop-k
invariant-loop-k l = view l.image (rest_of l.line l.k l.self) ≡ view l.initial.image (written_in (record { number = l.line; bytes = l.self } ∷ []))
