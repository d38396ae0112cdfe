-- The file is grown by registers without words where it is too short, and then the word is set.
use Rattle.std.proofs.Common.{arith}
use Rattle.inst_meaning.proofs.Puts.{put-within, put-resized}
use Rattle.inst_meaning.proofs.files.Registers.assign.Goals as goal
use Rattle.inst_meaning.proofs.files.Registers.assign.Goals.{then-at-len+in_ok-resize, else-at-len}

pub returns-clause-ok : goal.returns-clause-ok
returns-clause-ok c =
    rw c.in-Some.is (elim c.if-at-len.branch [
      | then-at-len+in_ok-resize w ↦ rw (← c.self.view_is, w.self-inside-is) (put-resized c.self.inside.words.items _ _ _ _ (omega arith) (omega arith) w.in_ok-resize.ensures.items)
      | else-at-len w ↦ rw (← c.self.view_is, w.self-inside-is) (put-within _ _ _ (omega arith))
    ])
