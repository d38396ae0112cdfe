use Rattle.std.proofs.Common.{◌∙◌, sym, true}
use Rattle.std.proofs.lemmas.Result.{err_from_is_err_and}
use Rattle.ir_grammar.proofs.Turns.{metadata_turns, skip_more, skip_over, skip_stop}
use Rattle.ir_parse_parts.proofs.Exits.{stopped_then}
use Rattle.ir_parse_parts.proofs.reader.Reader.metadata_pairs.Goals as goal

pub pairs-preserved : goal.pairs-preserved
pairs-preserved c = skip_more metadata_turns c.pairs.self c.metadata.new.self true (sym c.pairs-test.ensures) c.in_ok-metadata.ensures ∙ c.pairs.invariant

pub returns-in_err-metadata : goal.returns-in_err-metadata
returns-in_err-metadata c =
    let p = err_from_is_err_and c.from_residual.result c.from_residual.ensures.1 in
    rw (p.1, p.2) (stopped_then c.in_err-metadata.field-0.0 _ _ (λ n e. sym c.pairs.invariant ∙ skip_stop metadata_turns c.pairs.self n (sym c.pairs-test.ensures) e) c.in_err-metadata.ensures)

pub returns : goal.returns
returns c = sym c.pairs.invariant ∙ skip_over metadata_turns c.pairs.self (sym c.pairs-test.ensures)
