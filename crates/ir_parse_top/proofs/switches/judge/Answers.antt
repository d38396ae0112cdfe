use Rattle.std.proofs.Common.{ℕ, ◌+◌, ◌∙◌, Err, length, ap}
use Rattle.ir_parse_top.specs.Text.{word_at}
use Rattle.ir_parse_top.specs.Reading.{IsAt, Blames, Early, Late, Whole, fault_at}
use Rattle.ir_parse_top.proofs.Telling.{told_map}
use Rattle.ir_parse_top.proofs.Gathering.{not_closed, all_fit}
use Rattle.ir_parse_top.proofs.switches.judge.Goals as goal

pub returns-in-AtColumn : goal.returns-in-AtColumn
returns-in-AtColumn c = record {
  line = tt;
  err = told_map (IsAt c.args.number (fault_at c.args.pause)) (Blames c.args.text.now c.args.number c.args.tokens.now c.args.counts.now c.args.pause) c.paused.result (λ n fault h. Whole c.in-Ok.line c.in-Ok.ensures.line (not_closed c.args.pause c.in-AtColumn.is)) c.paused.ensures;
}

pub returns-in-Err-Unfit-clause-err : goal.returns-in-Err-Unfit-clause-err
returns-in-Err-Unfit-clause-err c =
    told_map (IsAt (c.args.number + c.count_until.result) (word_at c.args.text.now c.args.tokens.now c.in-Err-Unfit.k)) (Blames c.args.text.now c.args.number c.args.tokens.now c.args.counts.now c.args.pause) c.refused_at.result
    (λ n fault h. Early c.in-Err-Unfit.k c.if-k-tokens.true (c.in-Err-Unfit.ensures.unfit c.in-Err-Unfit.k (ap Err c.in-Err-Unfit.field-0-is)) (h.0 ∙ ap (λ (x : ℕ). c.args.number + x) c.count_until.ensures.count) h.1) c.refused_at.ensures

pub returns-in-Err-Unfit-2-clause-err : goal.returns-in-Err-Unfit-2-clause-err
returns-in-Err-Unfit-2-clause-err c =
    told_map (IsAt (c.args.number + length c.args.counts.now) (fault_at c.args.pause)) (Blames c.args.text.now c.args.number c.args.tokens.now c.args.counts.now c.args.pause) c.paused-in-Err-Unfit-2.result
    (λ n fault h. Late (all_fit c.args.text.now c.args.tokens.now c.in-Err-Unfit.k (c.in-Err-Unfit.ensures.unfit c.in-Err-Unfit.k (ap Err c.in-Err-Unfit.field-0-is)) c.if-k-tokens.false) h.0 h.1) c.paused-in-Err-Unfit-2.ensures
