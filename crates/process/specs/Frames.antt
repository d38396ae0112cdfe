-- What a kind of frames can do, in a program.
--
-- Choices: a frame is a function at work, however many copies of its registers it has. An action names no register; where its result
-- goes is a target of the frame's own kind. A branch and the phis of its target are one thing that a frame does. Each frame keeps how far
-- its thread's stack region was taken when it was entered.
use Rattle.std.specs.Prelude.{ℕ, List, Option}
use Rattle.ir_core.specs.declared.types.Loc.{Loc}

pub record Frames (F D : Type 0) : Type 0 where
  -- a function is entered with these words, at this mark
  pub enter : ℕ → List ℕ → ℕ → F
  -- its instruction is done, with a result that goes to a target, or without one
  pub result : D → ℕ → F → F
  pub advance : F → F
  -- it goes along the edge to a label, where it can
  pub jump : Loc → F → Option F
  -- it waits for the function that it called, whose word is to go to a target; that word has come
  pub suspend : D → F → F
  pub resume : ℕ → F → F
  -- how far the stack region was taken
  pub mark : F → ℕ
