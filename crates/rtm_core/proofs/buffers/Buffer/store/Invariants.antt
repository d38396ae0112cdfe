use Rattle.std.proofs.Common.{◌≡◌}
use Rattle.byteorder.specs.Endian.{little_bytes}
use Rattle.mem_image.specs.Accesses.{bytes}
use Rattle.rtm_core.proofs.WrittenBytes.{so_far}
use Rattle.rtm_core.proofs.buffers.Buffer.store.Given as goal

abbrev pub invariant-loop-k : goal.invariant-loop-k
invariant-loop-k l = l.self-inside.bytes ≡ so_far l.initial.self-inside.bytes l.at l.k (little_bytes (bytes l.fn.size) l.fn.word)
