use Rattle.std.proofs.Common.{List, ap, refl, sym, ◌∙◌, subst}
use Rattle.sched_file.specs.Events.{events_of}
use Rattle.sched_file.specs.Shown.{shown}
use Rattle.hard_meaning.specs.Records.{Record}
use Rattle.hard_meaning.specs.Runs.{RunParts, run_from, result_of}
use Rattle.hard_simulation.specs.Meaning.{IsFailure}
use Rattle.tx_simulation.specs.Meaning.{AreCovered, AreGone, Means}
use Rattle.tx_simulation.proofs.Headline.{meant, never-fails, unstruck, named-meant}
use Rattle.haft_run.proofs.Happenings.{same-program, same-run}
use Rattle.haft_run.proofs.runs.run_hardened.Goals as goal

pub events-preserved : goal.events-preserved
events-preserved c =
    let before = c.events.machine in
    let after = c.event.new.self in
    let left = c.events.cursor in
    let rest = c.next_event.new.self in
    let event = shown c.in-Some.event in
    let kept = c.events.invariant in
    let drawn = c.in-Some.ensures.next in
    let once = c.in_ok-event.ensures.state in
    record {
      program = same-program left rest event drawn c.args.h.now before after kept.program once;
      same = same-run left rest event drawn c.args.h.now before after kept.program once ∙ kept.same;
    }

pub returns-clause-exact : goal.returns-clause-exact
returns-clause-exact c =
    c.result.ensures
    ∙ ap result_of (ap (run_from c.args.h.now c.events.machine.state) (sym c.in_default.ensures.end.0) ∙ c.events.invariant.same)

pub returns-clause-meaning : goal.returns-clause-meaning
returns-clause-meaning c = λ m accepted image good.
    subst (λ (r : RunParts). AreCovered r.upsets → Means m c.args.s.now.args r) (sym (returns-clause-exact c))
    (meant m c.args.h.now c.args.s.now.args accepted image good (events_of c.args.s.now.lines))

pub returns-clause-never_fails : goal.returns-clause-never_fails
returns-clause-never_fails c = λ m accepted image good.
    subst (λ (r : RunParts). AreGone r.upsets → IsFailure r.stop → ⊥) (sym (returns-clause-exact c))
    (never-fails m c.args.h.now c.args.s.now.args accepted image good (events_of c.args.s.now.lines))

pub returns-clause-without_upsets : goal.returns-clause-without_upsets
returns-clause-without_upsets c = λ m accepted image good free.
    let none = ap (λ (r : RunParts). r.upsets) (returns-clause-exact c) ∙ unstruck c.args.h.now c.args.s.now.args (events_of c.args.s.now.lines) free in (
      returns-clause-meaning c m accepted image good (subst AreCovered (sym none) refl),
      returns-clause-never_fails c m accepted image good (subst AreGone (sym none) refl),
    )

pub returns-clause-by_names : goal.returns-clause-by_names
returns-clause-by_names c = λ m accepted numbered image few good.
    subst (λ (r : RunParts). AreCovered r.upsets → Means m c.args.s.now.args r) (sym (returns-clause-exact c))
    (named-meant m c.args.h.now c.args.s.now.args accepted numbered image few good (events_of c.args.s.now.lines))
