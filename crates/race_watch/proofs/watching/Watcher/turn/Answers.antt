use Rattle.std.proofs.Common.{sym, ap, ◌∙◌, subst}
use Rattle.std.specs.Option.{option_map}
use Rattle.src_meaning.specs.State.{Sourced}
use Rattle.race_watch.specs.declared.outcome.SrcStop.TheVariants as stops
use Rattle.race_watch.specs.Pairs.{numbers_of}
use Rattle.race_watch.specs.Tables.{IsTable}
use Rattle.race_watch.specs.Watching.{Watched}
use Rattle.race_watch.proofs.Turning.{stays, stays-undefined, went-table, undefined-stops}
use Rattle.race_watch.proofs.watching.Watcher.turn.Goals as goal

pub returns-in_ok-follow-in-Went-clause-kept : goal.returns-in_ok-follow-in-Went-clause-kept
returns-in_ok-follow-in-Went-clause-kept c = λ _.
    let before = c.args.self.now.source in
    let after = c.stepped.new.source in
    let went = sym c.in_ok-stepped.ensures.answer ∙ c.in-Went.is in
    went-table before after c.args.t.0 c.args.self.now.table c.follow.new.self c.in_ok-stepped.ensures.state went c.requires.kept (sym c.requires.kept.race ∙ ap (option_map numbers_of) c.requires.none) c.in_ok-follow-in-Went.ensures

pub returns-in-Waits-clause-kept : goal.returns-in-Waits-clause-kept
returns-in-Waits-clause-kept c = λ _.
    let P : Sourced → Type 0 = λ source. IsTable source.program source.state c.args.self.now.table in
    let same = stays c.args.self.now.source c.stepped.new.source c.args.t.0 c.in_ok-stepped.field-0 c.in_ok-stepped.ensures.state c.in_ok-stepped.ensures.answer c.in-Waits.is in
    subst P (sym same) c.requires.kept

pub returns-in-Undefined-clause-stops : goal.returns-in-Undefined-clause-stops
returns-in-Undefined-clause-stops c = λ turns.
    let same = stays-undefined c.args.self.now.source c.stepped.new.source c.args.t.0 c.in_ok-stepped.field-0 c.in-Undefined.cause c.in_ok-stepped.ensures.state c.in_ok-stepped.ensures.answer c.in-Undefined.is in
    let w = c.args.self.now in
    let here : Sourced → Watched = λ source. record { stop = stops.Undefined w.passed c.args.t c.in-Undefined.cause; outputs = source.state.process.world.outputs; turns = w.log } in
    ap here same ∙ undefined-stops w.source.program w.passed w.source.state c.args.t.0 c.in-Undefined.cause w.log turns (sym c.in_ok-stepped.ensures.answer ∙ c.in-Undefined.is)
