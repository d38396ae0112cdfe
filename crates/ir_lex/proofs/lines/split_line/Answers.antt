use Rattle.std.proofs.Common.{rules, ◌≡◌, ℕ, ◌+◌, List, take, drop, sym, ap, ◌∙◌, subst}
use Rattle.std.specs.List.{prefix_len}
use Rattle.std.proofs.lemmas.List.{drop-drop}
use Rattle.ir_core.specs.Lines.{isnt_feed, IsFirstLine}
use Rattle.ir_core.proofs.LineLaws.{first_line, lines_split}
use Rattle.ir_lex.proofs.lines.split_line.Goals as goal

split_is : (text line rest : List ℕ) (len : ℕ) → len ≡ prefix_len isnt_feed text → line ≡ take len text → rest ≡ drop 1 (drop len text) → IsFirstLine text line rest
split_is text line rest len size front back =
    let here : take (prefix_len isnt_feed text) text ≡ line = ap (λ (n : ℕ). take n text) (sym size) ∙ sym front in
    let there : drop (prefix_len isnt_feed text + 1) text ≡ rest = sym (drop-drop 1 (prefix_len isnt_feed text) text) ∙ ap (λ (n : ℕ). drop 1 (drop n text)) (sym size) ∙ sym back in
    subst (λ (l : List ℕ). IsFirstLine text l rest) here (subst (λ (l : List ℕ). IsFirstLine text (take (prefix_len isnt_feed text) text) l) there (first_line text))

pub returns-clause-first : goal.returns-clause-first
returns-clause-first c = split_is c.args.text.now c.split_at.result.0.now c.behind_first.result.now c.line_len.result c.line_len.ensures.len c.split_at.ensures.front (c.behind_first.ensures ∙ ap (drop 1) c.split_at.ensures.back)

pub returns-clause-lines : goal.returns-clause-lines
returns-clause-lines c = lines_split c.args.text.now c.split_at.result.0.now c.behind_first.result.now (search rules) (returns-clause-first c)
