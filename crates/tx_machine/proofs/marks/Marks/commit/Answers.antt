use Rattle.std.proofs.Common.{ℕ, ◌≤◌, ◌∙◌, List, [], ◌++◌, take, length, reverse, ap, sym, arith}
use Rattle.tx_machine.specs.Own.{MarksParts}
use Rattle.tx_machine.proofs.Cuts.{take-all, drop-all, reverse-parts}
use Rattle.tx_machine.proofs.marks.Marks.commit.Goals as goal

pub returns : goal.returns
returns c =
    let items : List ℕ = c.self.inside.numbers.items in
    let n : ℕ = c.len-self-inside.result in
    let all : length items ≤ n = omega (arith, c.len-self-inside.ensures) in
    ap (λ (list : List ℕ). let parts : MarksParts = record { struck = reverse list; hits = reverse (take n items) } in parts) (drop-all n items all)
    ∙ ap (λ (list : List ℕ). let parts : MarksParts = record { struck = []; hits = reverse list } in parts) (take-all n items all)
    ∙ ap (λ (list : List ℕ). let parts : MarksParts = record { struck = []; hits = list } in parts) (sym (reverse-parts c.self.inside.standing items))
    ∙ ap (λ (m : MarksParts). let parts : MarksParts = record { struck = []; hits = m.struck ++ m.hits } in parts) c.self.view_is
