use Rattle.std.proofs.Common.{◌∙◌, ◌+◌, ap, arith, ℕ, List, Some, slice_index, set}
use Rattle.mem_image.specs.Accesses.{bytes}
use Rattle.rtm_core.proofs.WrittenBytes.{few-bytes, next-byte}
use Rattle.rtm_core.proofs.buffers.Buffer.store.Goals as goal

pub loop-k-preserved : goal.loop-k-preserved
loop-k-preserved c =
    ap (λ (word : List ℕ). set c.loop-k.self-inside.bytes (c.args.at + c.loop-k.k) (Some (slice_index word c.loop-k.k))) c.to_le_bytes-word.ensures
    ∙ next-byte c.self.inside.bytes c.loop-k.self-inside.bytes c.args.at c.loop-k.k (bytes c.args.size) c.args.word (omega (arith, c.self.invariant, c.requires)) (few-bytes c.args.size) (omega (arith, c.loop-k-test.true, c.bytes-k-end.ensures)) c.loop-k.invariant
