use Rattle.std.proofs.Common.{◌*◌, ◌∙◌, ap, ℕ}
use Rattle.ir_layout.specs.Shapes.{size_of}
use Rattle.ir_layout.specs.Offsets.{signed_word}
use Rattle.ir_layout.specs.KeptShapes.{word}
use Rattle.ir_layout.specs.declared.shapes.KeptShape.{KeptShape}
use Rattle.ir_layout.proofs.Words.{word-product}
use Rattle.ir_layout.proofs.offsets.whole_values.Goals as goal

pub returns : goal.returns
returns c =
    let size = ap (λ (s : KeptShape). s.size) c.known_shape.ensures in
    ap (λ (x : ℕ). word (x * c.known_shape.result.size)) c.signed_word.ensures ∙ ap (λ (x : ℕ). word (word (signed_word c.args.width c.args.n) * x)) size ∙ word-product (signed_word c.args.width c.args.n) (size_of c.args.types.now c.args.ty.now)
