-- the process and the answer after what a thread does alone
use Rattle.std.proofs.Common.{◌∙◌}
use Rattle.process.proofs.Alone.{acted_state, acted_answer}
use Rattle.process.proofs.processes.Process.act_alone.Goals as goal

pub returns-clause-answer : goal.returns-clause-answer
returns-clause-answer g c = c.in_ok-answer.ensures.answer ∙ acted_answer (g.P.Code.frames c.args.program.now) _ _ _ _ _ _ _ _ c.self.view_is c.requires.runs c.index_mut.ensures.value c.requires.alone

pub returns-clause-process : goal.returns-clause-process
returns-clause-process g c = rw (c.in_ok-answer.ensures.thread, c.in_ok-answer.ensures.memory) (acted_state (g.P.Code.frames c.args.program.now) _ _ _ _ _ _ _ _ c.self.view_is c.requires.runs c.index_mut.ensures.value c.requires.alone)
