use Rattle.std.proofs.Common.{◌≡◌}
use Rattle.ir_grammar.specs.declared.trees.BodyLine.{BodyLine}
use Rattle.ir_grammar.specs.Fitting.{IsLine}
use Rattle.ir_grammar.specs.Tokens.{tokens_of}
use Rattle.ir_grammar.specs.Top.{body_line}
use Rattle.ir_parse_top.specs.declared.switches.Pause.TheVariants.{Closed}
use Rattle.ir_parse_top.specs.Reading.{Blames, FindsBody, TripsInside}
use Rattle.ir_parse_top.proofs.Telling.{ok_map, err_map}
use Rattle.ir_parse_top.proofs.SwitchLines.{small_enough, found_by, trips_by}
use Rattle.ir_parse_top.proofs.inside.switch_of.Goals as goal

pub judge-requires-clause-small : goal.judge-requires-clause-small
judge-requires-clause-small c =
    small_enough c.args.lines.now c.gather.new.lines c.args.tokens.items c.gather.new.tokens.items c.gather.new.counts.items c.deref-2.result.now c.in_ok-pause.pause c.args.number c.in_ok-pause.ensures.gathered c.requires.next c.deref-2.ensures.value c.text.ensures.few

pub returns-clause-line : goal.returns-clause-line
returns-clause-line c old f unclosed =
    ok_map (λ (line : BodyLine). IsLine body_line.means (tokens_of c.text.result.now c.deref.result.now) line × (c.in_ok-pause.pause ≡ Closed)) (FindsBody old c.gather.new.lines) c.judge.result
    (found_by old c.args.lines.now c.gather.new.lines c.args.number c.args.tokens.items c.gather.new.tokens.items c.gather.new.counts.items c.in_ok-pause.pause f unclosed c.in_ok-pause.ensures.gathered c.text.result.now c.deref.result.now c.text.ensures.text c.gather.ensures.text c.deref.ensures.value) c.judge.ensures.line

pub returns-clause-err : goal.returns-clause-err
returns-clause-err c old f unclosed =
    err_map (Blames c.text.result.now c.args.number c.deref.result.now c.deref-2.result.now c.in_ok-pause.pause) (TripsInside old) c.judge.result
    (trips_by old c.args.lines.now c.gather.new.lines c.args.number c.args.tokens.items c.gather.new.tokens.items c.gather.new.counts.items c.in_ok-pause.pause f unclosed c.in_ok-pause.ensures.gathered c.text.result.now c.deref.result.now c.text.ensures.text c.gather.ensures.text c.deref.ensures.value c.deref-2.result.now c.deref-2.ensures.value) c.judge.ensures.err
