-- the process once a thread was added
use Rattle.process.proofs.Outsides.{added_state}
use Rattle.process.proofs.processes.Process.add_thread.Goals as goal

pub returns-clause-ok : goal.returns-clause-ok
returns-clause-ok g c = added_state (g.P.Code.frames c.args.program.now) _ _ _ _ _ _ _ _ _ _ c.self.view_is c.requires.runs c.in_ok-push.ensures.items c.index_mut.ensures.value c.in_default.ensures.ok
