use Rattle.std.proofs.Common.{ℕ, ◌≡◌, List, ◌++◌, codes, decimal, ◌∙◌, ap, sym, append_assoc}
use Rattle.std.proofs.lemmas.Result.{on_ok_weaker}
use Rattle.haft_run.specs.SourceReport.{src_stop_line}
use Rattle.haft_run.proofs.source_report.push_stop.Goals as goal

-- a line that is added in two steps
in_two : (old before new head n tid last : List ℕ) → before ≡ old ++ head → new ≡ before ++ n ++ codes " " ++ tid ++ codes " " ++ last ++ codes "\n" → new ≡ old ++ (head ++ n ++ codes " " ++ tid ++ codes " " ++ last ++ codes "\n")
in_two old before new head n tid last e h = h ∙ rw e (simp append_assoc)

pub returns-in_ok-extend_from_slice-in-Undefined : goal.returns-in_ok-extend_from_slice-in-Undefined
returns-in_ok-extend_from_slice-in-Undefined c =
    let stop = c.in-Undefined in
    let e = ap (λ last. codes "stop undefined " ++ decimal stop.n ++ codes " " ++ decimal stop.tid.0 ++ codes " " ++ last ++ codes "\n") c.cause_word.ensures in
    on_ok_weaker c.push_turn.result
    (λ h. in_two c.args.text.now.items c.extend_from_slice-in-Undefined.new.self.items c.push_turn.new.text.items (codes "stop undefined ") (decimal stop.n) (decimal stop.tid.0) c.cause_word.result.now c.in_ok-extend_from_slice-in-Undefined.ensures.items h ∙ ap (λ line. c.args.text.now.items ++ line) (e ∙ ap src_stop_line (sym stop.is)))
    c.push_turn.ensures
