use Rattle.std.proofs.Common.{◌+◌, List, ℕ, ◌∷◌, sym, ap, ◌∙◌, take, drop}
use Rattle.std.proofs.lemmas.List.{take_rest}
use Rattle.ir_core.specs.Lines.{lines_of}
use Rattle.sched_file.proofs.Fronts.{lines_first, lines_only}
use Rattle.sched_file.proofs.cutting.cut_line.Goals as goal

pub returns-then-len-text-clause-lines : goal.returns-then-len-text-clause-lines
returns-then-len-text-clause-lines c = lines_only c.args.text.now c.requires (sym c.line_len-len.ensures.len ∙ c.if-len-text.true)

pub returns-clause-lines : goal.returns-clause-lines
returns-clause-lines c =
    let text = c.args.text.now in
    let len = c.line_len-len.result in
    lines_first text c.requires
    ∙ ap (λ (n : ℕ). take n text ∷ lines_of (drop (n + 1) text)) (sym c.line_len-len.ensures.len)
    ∙ ap (λ (l : List ℕ). take len text ∷ lines_of l) (sym (take_rest text (len + 1)))
