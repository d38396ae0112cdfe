use Rattle.std.proofs.Common.{◌≡◌, ◌∙◌, ◌+◌, ap, sym, arith, ℕ, List, Option, Some, None}
use Rattle.mem_image.specs.Bytes.{Memory}
use Rattle.mem_image.specs.Views.{view}
use Rattle.rtm_core.specs.code.Slots.{held_in}
use Rattle.rtm_core.proofs.WrittenBytes.{held-or, rest_of, rest-next, rest-none, rest-skips}
use Rattle.rtm_core.proofs.buffers.Buffer.commit.Goals.{in-Some, in_default}
use Rattle.rtm_core.proofs.buffers.Buffer.commit.Goals as goal

pub loop-k-preserved : goal.loop-k-preserved
loop-k-preserved c = elim c.match-self-k.branch [
  | in-Some w ↦
      let held : held_in c.args.self.now c.loop-k.k ≡ Some w.in-Some.byte = ap (λ (b : List (Option ℕ)). held_in b c.loop-k.k) (sym c.self.view_is) ∙ held-or c.self.inside.bytes c.loop-k.k ∙ w.in-Some.is in
      ap (λ (m : Memory). view m (rest_of c.args.line (c.loop-k.k + 1) c.args.self.now)) (w.image-is ∙ w.put_byte.ensures)
      ∙ rest-next c.loop-k.image c.args.line c.loop-k.k w.in-Some.byte c.args.self.now c.loop-k-test.true held ∙ c.loop-k.invariant
  | in_default w ↦
      let held : held_in c.args.self.now c.loop-k.k ≡ None = ap (λ (b : List (Option ℕ)). held_in b c.loop-k.k) (sym c.self.view_is) ∙ held-or c.self.inside.bytes c.loop-k.k ∙ w.in_default.is in
      ap (λ (m : Memory). view m (rest_of c.args.line (c.loop-k.k + 1) c.args.self.now)) w.image-is
      ∙ rest-skips c.loop-k.image c.args.line c.loop-k.k c.args.self.now c.loop-k-test.true held ∙ c.loop-k.invariant
]

pub returns : goal.returns
returns c = sym (rest-none c.loop-k.image c.args.line c.loop-k.k c.args.self.now (omega (arith, c.loop-k-test.false))) ∙ c.loop-k.invariant
