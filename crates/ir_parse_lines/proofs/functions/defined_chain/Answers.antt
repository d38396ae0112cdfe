use Rattle.std.proofs.Common.{◌≡◌, ◌∙◌, sym, ap, Bool, true, false, Ok}
use Rattle.std.proofs.lemmas.Result.{err_from_is_err_and}
use Rattle.ir_grammar.proofs.Chains.{chain_more, chain_over, chain_stop}
use Rattle.ir_grammar.proofs.TopLaws.{defined_links}
use Rattle.ir_parse_parts.proofs.Exits.{stopped_then}
use Rattle.ir_parse_lines.proofs.functions.defined_chain.Goals as goal

pub params-preserved : goal.params-preserved
params-preserved c =
    let more : c.in_ok-param.more ≡ true = cc in
    rw c.in_ok-push.ensures.ok
    (chain_more defined_links c.params.params c.params.reader c.defined_param.new.reader c.in_ok-param.param (c.in_ok-param.ensures ∙ ap (λ (b : Bool). Ok ((c.in_ok-param.param, b), c.defined_param.new.reader)) more) ∙ c.params.invariant)

pub params-smaller : goal.params-smaller
params-smaller c = defined_links.shrinks c.params.reader c.defined_param.new.reader (c.in_ok-param.param, c.in_ok-param.more) c.in_ok-param.ensures

pub returns-in_err-param : goal.returns-in_err-param
returns-in_err-param c =
    let p = err_from_is_err_and c.from_residual.result c.from_residual.ensures.1 in
    rw (p.1, p.2) (stopped_then c.in_err-param.field-0.0 _ _ (λ n e. sym c.params.invariant ∙ chain_stop defined_links c.params.params c.params.reader n e) c.in_err-param.ensures)

pub returns-then-not-more : goal.returns-then-not-more
returns-then-not-more c =
    let over : c.in_ok-param.more ≡ false = cc in
    rw c.in_ok-push.ensures.ok
    (sym c.params.invariant ∙ chain_over defined_links c.params.params c.params.reader c.defined_param.new.reader c.in_ok-param.param (c.in_ok-param.ensures ∙ ap (λ (b : Bool). Ok ((c.in_ok-param.param, b), c.defined_param.new.reader)) over))
