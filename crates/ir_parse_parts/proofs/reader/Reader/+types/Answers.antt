use Rattle.std.proofs.Common.{◌∙◌, sym}
use Rattle.std.proofs.lemmas.Result.{err_from_is_err_and}
use Rattle.ir_grammar.specs.Types.{typ}
use Rattle.ir_grammar.proofs.PartLaws.{typ_law}
use Rattle.ir_grammar.proofs.Turns.{comma_turns, comma_then, turns_more, turns_over, turns_stop}
use Rattle.ir_parse_parts.proofs.Exits.{stopped_then}
use Rattle.ir_parse_parts.proofs.reader.Reader.+types.Goals as goal

pub more_types-more-preserved : goal.more_types-more-preserved
more_types-more-preserved t c =
    rw c.in_ok-push.ensures.ok
    (turns_more (comma_turns (typ_law c.args.inner)) c.more.types c.more.self c.typ.new.self c.in_ok-typ.field-0 (sym c.more-test.ensures) (comma_then (typ c.args.inner) c.more.self c.punct.new.self c.in_ok-punct.ensures c.in_ok-typ.ensures)
    ∙ c.more.invariant)

pub more_types-more-smaller : goal.more_types-more-smaller
more_types-more-smaller t c = (comma_turns (typ_law c.args.inner)).shrinks c.more.self c.typ.new.self c.in_ok-typ.field-0 (sym c.more-test.ensures) (comma_then (typ c.args.inner) c.more.self c.punct.new.self c.in_ok-punct.ensures c.in_ok-typ.ensures)

pub more_types-returns-in_err-typ : goal.more_types-returns-in_err-typ
more_types-returns-in_err-typ t c =
    let p = err_from_is_err_and c.from_residual-in_err-typ.result c.from_residual-in_err-typ.ensures.1 in
    rw (p.1, p.2) (stopped_then c.in_err-typ.field-0.0 _ _ (λ n e. sym c.more.invariant ∙ turns_stop (comma_turns (typ_law c.args.inner)) c.more.types c.more.self n (sym c.more-test.ensures) (comma_then (typ c.args.inner) c.more.self c.punct.new.self c.in_ok-punct.ensures e)) c.in_err-typ.ensures)

pub more_types-returns : goal.more_types-returns
more_types-returns t c = sym c.more.invariant ∙ turns_over (comma_turns (typ_law c.args.inner)) c.more.types c.more.self (sym c.more-test.ensures)
