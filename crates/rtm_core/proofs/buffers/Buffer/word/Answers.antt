use Rattle.std.proofs.Common.{ℕ, ◌∙◌, ◌<◌, ◌^◌, ◌*◌, arith, length, refl, subst, sym}
use Rattle.rtm_core.proofs.WrittenBytes.{word-seen, word-below}
use Rattle.rtm_core.proofs.buffers.Buffer.word.Goals as goal

pub returns-clause-word : goal.returns-clause-word
returns-clause-word c = c.read_uint.ensures ∙ word-seen c.args.self.now c.args.at c.args.old.now c.loop-k.word (length c.args.old.now) refl
    (λ j less. c.loop-k.invariant.done j (omega (arith, less, c.loop-k-test.false)))

pub returns-clause-below : goal.returns-clause-below
returns-clause-below c = subst (λ (word : ℕ). word < 2 ^ (8 * length c.args.old.now)) (sym c.read_uint.ensures)
    (word-below (length c.args.old.now) c.loop-k.word (λ j less. c.loop-k.invariant.small j (omega (arith, less, c.loop-k-test.false))))
