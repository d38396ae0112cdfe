use Rattle.std.specs.Prelude.{Option, IfSome, IfNone}
use Rattle.std.proofs.Common.{◌∙◌, ◌++◌, ◌∷◌, [], ℕ, length, ap, subst}
use Rattle.ir_parse_top.specs.declared.switches.Pause.{Pause}
use Rattle.ir_parse_top.specs.Reading.{ComesTo, GrowsBy}
use Rattle.ir_parse_top.proofs.Gathering.{gathered_more, gathers, smaller}
use Rattle.ir_parse_top.proofs.switches.gather.Goals as goal

pub returns-in-Some-clause-gathered : goal.returns-in-Some-clause-gathered
returns-in-Some-clause-gathered c =
    gathers c.args.lines.now c.lines.lines c.gather_line.new.lines c.args.tokens.now.items c.lines.tokens.items c.gather_line.new.tokens.items c.lines.counts.items c.push.new.self.items c.lines.invariant
    (c.in_ok-push.ensures.items ∙ ap (λ (n : ℕ). c.lines.counts.items ++ n ∷ []) (ap length c.as_slice.ensures.value)) c.in-Some.pause
    (subst (λ (o : Option Pause). IfSome o (ComesTo c.lines.lines c.gather_line.new.lines c.lines.tokens.items c.gather_line.new.tokens.items)) c.in-Some.is c.in_ok-pause.ensures.over)

pub lines-smaller : goal.lines-smaller
lines-smaller c =
    smaller (length c.args.lines.now.text) c.lines.lines c.gather_line.new.lines c.lines.tokens.items c.gather_line.new.tokens.items (subst (λ (o : Option Pause). IfNone o (GrowsBy c.lines.lines c.gather_line.new.lines c.lines.tokens.items c.gather_line.new.tokens.items)) c.in_default.is c.in_ok-pause.ensures.more) (ap length c.lines.invariant.text) c.gather_line.ensures.at

pub lines-preserved : goal.lines-preserved
lines-preserved c =
    gathered_more c.args.lines.now c.lines.lines c.gather_line.new.lines c.args.tokens.now.items c.lines.tokens.items c.gather_line.new.tokens.items c.lines.counts.items c.push.new.self.items c.lines.invariant
    (c.in_ok-push.ensures.items ∙ ap (λ (n : ℕ). c.lines.counts.items ++ n ∷ []) (ap length c.as_slice.ensures.value))
    (subst (λ (o : Option Pause). IfNone o (GrowsBy c.lines.lines c.gather_line.new.lines c.lines.tokens.items c.gather_line.new.tokens.items)) c.in_default.is c.in_ok-pause.ensures.more) c.gather_line.ensures.text
