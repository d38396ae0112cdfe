use Rattle.std.proofs.Common.{refl}
use Rattle.std.proofs.lemmas.Bool.{false≢true}
use Rattle.process.proofs.Resumed.{last_resumed, none_resumed}
use Rattle.process.proofs.callers.Callers.resume.Goals as goal
use Rattle.process.proofs.callers.Callers.resume.Goals.{in-Some+in_ok-resume, in_default}

pub returns-clause-ok : goal.returns-clause-ok
returns-clause-ok g c =
    let xs = c.self.inside.frames in
    let frames = g.P.Code.frames c.args.program.now in
    elim c.match-last_mut.branch [
      | in-Some+in_ok-resume w ↦ rw (← c.self.view_is, w.self-inside-is) (last_resumed frames xs.items xs.len c.args.word w.in-Some.caller.now w.resume.new.frame xs.ok.0 (w.in-Some.ensures.variant.0 refl) w.in-Some.ensures.value w.in_ok-resume.ensures.ok)
      | in_default w ↦ rw (← c.self.view_is, w.self-inside-is) (none_resumed frames xs.items xs.len c.args.word xs.ok.0 (λ h. false≢true (w.in_default.ensures.variant.1 h)))
    ]
