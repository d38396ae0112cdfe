use Rattle.std.proofs.Common.{ℕ, ◌≡◌, ◌∙◌, Bool, List, [], ◌∷◌, map, ap, sym, subst}
use Rattle.upset_model.specs.declared.records.Record.{Record}
use Rattle.tx_machine.specs.Log.{came, kept, more_if, firm_in}
use Rattle.tx_machine.proofs.Logs.{least, same-less, more-firm, front-kept}
use Rattle.tx_machine.proofs.records.UpsetLog.take_back.Goals as goal

pub less_if-self-inside-requires : goal.less_if-self-inside-requires
less_if-self-inside-requires c =
    let rs : List Record = c.pop.new.self.items in
    let left : ℕ = firm_in (map came rs) in
    least c.is_firm.result left c.self.inside.firm
    (ap (λ (b : Bool). more_if b left) c.is_firm.ensures ∙ sym (more-firm rs c.in-Some.latest)
    ∙ ap (λ (list : List Record). firm_in (map came list)) (sym c.in-Some.ensures.items) ∙ sym c.self.invariant.0)

pub invariant_of-self : goal.invariant_of-self
invariant_of-self c =
    let rs : List Record = c.pop.new.self.items in
    let left : ℕ = firm_in (map came rs) in (
      same-less c.is_firm.result c.less_if-self-inside.result left
          (c.less_if-self-inside.ensures ∙ c.self.invariant.0 ∙ ap (λ (list : List Record). firm_in (map came list)) c.in-Some.ensures.items
          ∙ more-firm rs c.in-Some.latest ∙ ap (λ (b : Bool). more_if b left) (sym c.is_firm.ensures)),
      front-kept rs (c.in-Some.latest ∷ []) (subst (λ (list : List Record). map kept (map came list) ≡ list) c.in-Some.ensures.items c.self.invariant.1),
    )
