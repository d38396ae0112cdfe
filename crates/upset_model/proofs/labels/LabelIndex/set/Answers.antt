-- The table is grown by labels without blocks where it is too short, and then the label's block is set.
use Rattle.std.proofs.Common.{arith}
use Rattle.inst_meaning.proofs.Puts.{put-within, put-resized}
use Rattle.upset_model.proofs.labels.LabelIndex.set.Goals as goal
use Rattle.upset_model.proofs.labels.LabelIndex.set.Goals.{then-at-len+in_ok-resize, else-at-len}

pub returns : goal.returns
returns c =
    elim c.if-at-len.branch [
      | then-at-len+in_ok-resize w ↦ rw (← c.self.view_is, w.self-inside-is) (put-resized c.self.inside.numbers.items _ _ _ _ (omega arith) (omega arith) w.in_ok-resize.ensures.items)
      | else-at-len w ↦ rw (← c.self.view_is, w.self-inside-is) (put-within _ _ _ (omega arith))
    ]
