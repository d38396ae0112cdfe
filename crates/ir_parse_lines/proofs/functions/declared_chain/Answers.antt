use Rattle.std.proofs.Common.{◌≡◌, ◌∙◌, sym, ap, Bool, true, false, Ok}
use Rattle.std.proofs.lemmas.Result.{err_from_is_err_and}
use Rattle.ir_grammar.proofs.Chains.{chain_more, chain_over, chain_stop}
use Rattle.ir_grammar.proofs.TopLaws.{declared_links}
use Rattle.ir_parse_parts.proofs.Exits.{stopped_then}
use Rattle.ir_parse_lines.proofs.functions.declared_chain.Goals as goal

pub params-preserved : goal.params-preserved
params-preserved c =
    let more : c.in_ok-ty.more ≡ true = cc in
    rw c.in_ok-push.ensures.ok
    (chain_more declared_links c.params.params c.params.reader c.declared_param.new.reader c.in_ok-ty.ty (c.in_ok-ty.ensures ∙ ap (λ (b : Bool). Ok ((c.in_ok-ty.ty, b), c.declared_param.new.reader)) more) ∙ c.params.invariant)

pub params-smaller : goal.params-smaller
params-smaller c = declared_links.shrinks c.params.reader c.declared_param.new.reader (c.in_ok-ty.ty, c.in_ok-ty.more) c.in_ok-ty.ensures

pub returns-in_err-ty : goal.returns-in_err-ty
returns-in_err-ty c =
    let p = err_from_is_err_and c.from_residual.result c.from_residual.ensures.1 in
    rw (p.1, p.2) (stopped_then c.in_err-ty.field-0.0 _ _ (λ n e. sym c.params.invariant ∙ chain_stop declared_links c.params.params c.params.reader n e) c.in_err-ty.ensures)

pub returns-then-not-more : goal.returns-then-not-more
returns-then-not-more c =
    let over : c.in_ok-ty.more ≡ false = cc in
    rw c.in_ok-push.ensures.ok
    (sym c.params.invariant ∙ chain_over declared_links c.params.params c.params.reader c.declared_param.new.reader c.in_ok-ty.ty (c.in_ok-ty.ensures ∙ ap (λ (b : Bool). Ok ((c.in_ok-ty.ty, b), c.declared_param.new.reader)) over))
