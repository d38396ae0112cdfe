use Rattle.std.proofs.Common.{◌≡◌, ◌∙◌, Bool, List, [], ◌∷◌, ◌++◌, map, ap, sym, subst, arith}
use Rattle.upset_model.specs.declared.records.Record.{Record}
use Rattle.tx_machine.specs.Log.{kind_as, came, kept, is_firm, more_if, firm_in}
use Rattle.tx_machine.proofs.Logs.{few-kept, more-firm, more-kept}
use Rattle.tx_machine.proofs.records.UpsetLog.add.Goals as goal

pub count_if-self-inside-requires : goal.count_if-self-inside-requires
count_if-self-inside-requires c =
    let rs : List Record = c.self.inside.records.items in
    omega (arith, c.self.invariant.0, few-kept rs, c.self.inside.records.ok, c.in_ok-push.ensures.len, c.self.inside.records.small)

pub invariant_of-self-2 : goal.invariant_of-self-2
invariant_of-self-2 c =
    let rs : List Record = c.self.inside.records.items in
    let latest : Record = c.record-latest.result in
    let kept_all : map kept (map came (rs ++ latest ∷ [])) ≡ rs ++ latest ∷ [] =
    subst (λ (r : Record). map kept (map came (rs ++ r ∷ [])) ≡ rs ++ r ∷ []) (sym c.record-latest.ensures) (more-kept rs (kind_as c.args.kind) c.self.invariant.1) in (
      c.count_if-self-inside.ensures ∙ ap (λ (b : Bool). more_if b c.self.inside.firm) c.is_firm.ensures
          ∙ ap (more_if (is_firm (came latest))) c.self.invariant.0 ∙ sym (more-firm rs latest)
          ∙ ap (λ (list : List Record). firm_in (map came list)) (sym c.in_ok-push.ensures.items),
      subst (λ (list : List Record). map kept (map came list) ≡ list) (sym c.in_ok-push.ensures.items) kept_all,
    )
