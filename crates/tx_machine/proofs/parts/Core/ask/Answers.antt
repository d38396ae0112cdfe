use Rattle.std.proofs.Common.{◌≡◌, ◌∙◌, OnOk, OnErr, ap, sym, subst}
use Rattle.inst_meaning.specs.declared.actions.Reply.{Reply}
use Rattle.inst_meaning.specs.declared.actions.Reply.TheVariants.{Waits, Refuses}
use Rattle.tx_machine.specs.Core.{CoreParts, core_told, core_untold, core_trapped, reply_at, replied_as}
use Rattle.tx_machine.proofs.Told.{untold-told}
use Rattle.tx_machine.proofs.Asked.{kept-waiting, refused}
use Rattle.tx_machine.proofs.parts.Core.ask.Goals as goal

pub returns-in-Err-clause-err : goal.returns-in-Err-clause-err
returns-in-Err-clause-err c = c.untell.ensures ∙ ap (core_untold c.args.retires c.args.t.0) (c.in-Err.ensures.err ∙ c.in_ok-tell.ensures.ok)
    ∙ untold-told c.args.retires c.args.t.0 c.args.self.now

pub returns-in-Ok-Waits-clause-ok : goal.returns-in-Ok-Waits-clause-ok
returns-in-Ok-Waits-clause-ok c =
    let told = c.in_ok-tell.ensures.ok in
    let reply : reply_at c.tell.new.self c.args.t.0 c.args.request ≡ Waits = sym c.in-Ok-Waits.ensures.reply ∙ c.in-Ok-Waits.field-0-is in
    let back = c.untell-in-Ok-Waits.ensures
    ∙ ap (core_untold c.args.retires c.args.t.0) (c.in-Ok-Waits.ensures.ok ∙ kept-waiting c.args.target c.args.request c.args.t.0 c.tell.new.self reply ∙ told)
    ∙ untold-told c.args.retires c.args.t.0 c.args.self.now in
    let why : Waits ≡ reply_at (core_told c.args.retires c.args.t.0 c.args.self.now) c.args.t.0 c.args.request =
    sym reply ∙ ap (λ (p : CoreParts). reply_at p c.args.t.0 c.args.request) told in
    subst (λ (r : Reply). c.untell-in-Ok-Waits.new.self ≡ replied_as r c.args.retires c.args.target c.args.request c.args.t.0 c.args.self.now) why back

pub returns-in-Ok-Refuses-clause-ok : goal.returns-in-Ok-Refuses-clause-ok
returns-in-Ok-Refuses-clause-ok c =
    let told = c.in_ok-tell.ensures.ok in
    let cause = c.in-Ok-Refuses.field-0-0 in
    let reply : reply_at c.tell.new.self c.args.t.0 c.args.request ≡ Refuses cause = sym c.in-Ok-Refuses.ensures.reply ∙ c.in-Ok-Refuses.field-0-is in
    let back = c.untell-in-Ok-Refuses.ensures
    ∙ ap (core_untold c.args.retires c.args.t.0) (c.in-Ok-Refuses.ensures.ok ∙ refused c.args.target c.args.request c.args.t.0 c.tell.new.self cause reply ∙ told)
    ∙ untold-told c.args.retires c.args.t.0 c.args.self.now in
    let why : Refuses cause ≡ reply_at (core_told c.args.retires c.args.t.0 c.args.self.now) c.args.t.0 c.args.request =
    sym reply ∙ ap (λ (p : CoreParts). reply_at p c.args.t.0 c.args.request) told in
    subst (λ (r : Reply). OnOk c.trap.result (c.trap.new.self ≡ replied_as r c.args.retires c.args.target c.args.request c.args.t.0 c.args.self.now)) why
    (subst (λ (p : CoreParts). OnOk c.trap.result (c.trap.new.self ≡ core_trapped c.args.t.0 p)) back c.trap.ensures.ok)

pub returns-in-Ok-Refuses-clause-err : goal.returns-in-Ok-Refuses-clause-err
returns-in-Ok-Refuses-clause-err c =
    let cause = c.in-Ok-Refuses.field-0-0 in
    let reply : reply_at c.tell.new.self c.args.t.0 c.args.request ≡ Refuses cause = sym c.in-Ok-Refuses.ensures.reply ∙ c.in-Ok-Refuses.field-0-is in
    let back = c.untell-in-Ok-Refuses.ensures
    ∙ ap (core_untold c.args.retires c.args.t.0) (c.in-Ok-Refuses.ensures.ok ∙ refused c.args.target c.args.request c.args.t.0 c.tell.new.self cause reply ∙ c.in_ok-tell.ensures.ok)
    ∙ untold-told c.args.retires c.args.t.0 c.args.self.now in
    subst (λ (p : CoreParts). OnErr c.trap.result (c.trap.new.self ≡ p)) back c.trap.ensures.err
