use Rattle.std.proofs.Common.{ap, sym, ◌∙◌}
use Rattle.ir_layout.specs.declared.shapes.KeptShape.{KeptShape}
use Rattle.ir_layout.specs.Shapes.{bytes, round_up, field_start, known_shape}
use Rattle.ir_layout.specs.KeptShapes.{word}
use Rattle.ir_layout.specs.Memory.{LayoutParts}
use Rattle.ir_layout.proofs.memory.Layout.field_start.Goals as goal

pub returns : goal.returns
returns c =
    c.round_up.ensures
    ∙ ap (λ (shape : KeptShape). word (round_up (bytes shape.align) c.args.taken)) c.known_shape.ensures
    ∙ ap (λ (parts : LayoutParts). word (field_start c.args.taken (known_shape parts.types c.args.field.now).align)) c.self.view_is
