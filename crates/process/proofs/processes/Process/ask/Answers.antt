-- the process after a request
use Rattle.process.proofs.Outsides.{asked_state}
use Rattle.process.proofs.processes.Process.ask.Goals as goal

pub returns-clause-process : goal.returns-clause-process
returns-clause-process g c = rw (c.in_ok-answer.ensures.thread, c.in_ok-answer.ensures.world) (asked_state (g.P.Code.frames c.args.program.now) _ _ _ _ _ _ _ _ c.self.view_is c.requires.runs c.index_mut.ensures.value)
