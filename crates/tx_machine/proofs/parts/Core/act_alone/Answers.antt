use Rattle.std.proofs.Common.{Bool, ◌≡◌, ◌∙◌, OnOk, OnErr, OnSome, Option, ap, sym, subst}
use Rattle.inst_meaning.specs.declared.actions.Cause.{Cause}
use Rattle.tx_machine.specs.Core.{CoreParts, core_untold, core_trapped, core_aborted, core_accessed, failure_at, alone_as, finished_as, core_finished, core_done}
use Rattle.hard_meaning.specs.Aborts.{Overflow}
use Rattle.tx_machine.proofs.Told.{untold-told}
use Rattle.tx_machine.proofs.parts.Core.act_alone.Goals as goal

pub returns-in-Err-clause-err : goal.returns-in-Err-clause-err
returns-in-Err-clause-err c = c.untell.ensures ∙ ap (core_untold c.args.retires c.args.t.0) (c.in-Err.ensures.err ∙ c.in_ok-tell.ensures.ok)
    ∙ untold-told c.args.retires c.args.t.0 c.args.self.now

pub returns-in-Ok-Some-clause-err : goal.returns-in-Ok-Some-clause-err
returns-in-Ok-Some-clause-err c =
    let back = c.untell-in-Ok-Some.ensures ∙ ap (core_untold c.args.retires c.args.t.0) (subst (λ (o : Option Cause). OnSome o (c.move_thread.new.self ≡ c.tell.new.self)) c.in-Ok-Some.field-0-is c.in-Ok-Some.ensures.failed ∙ c.in_ok-tell.ensures.ok)
    ∙ untold-told c.args.retires c.args.t.0 c.args.self.now in
    subst (λ (p : CoreParts). OnErr c.trap.result (c.trap.new.self ≡ p)) back c.trap.ensures.err

pub returns-in-Ok-Some-clause-ok : goal.returns-in-Ok-Some-clause-ok
returns-in-Ok-Some-clause-ok c =
    let back = c.untell-in-Ok-Some.ensures ∙ ap (core_untold c.args.retires c.args.t.0) (subst (λ (o : Option Cause). OnSome o (c.move_thread.new.self ≡ c.tell.new.self)) c.in-Ok-Some.field-0-is c.in-Ok-Some.ensures.failed ∙ c.in_ok-tell.ensures.ok)
    ∙ untold-told c.args.retires c.args.t.0 c.args.self.now in
    let why = sym c.in-Ok-Some.field-0-is ∙ c.in-Ok-Some.ensures.cause ∙ ap (λ (p : CoreParts). failure_at p c.args.t.0 c.args.action.now) c.in_ok-tell.ensures.ok in
    subst (λ (o : Option Cause). OnOk c.trap.result (c.trap.new.self ≡ alone_as o c.args.retires c.args.target c.args.action.now c.args.t.0 c.args.self.now)) why
    (subst (λ (p : CoreParts). OnOk c.trap.result (c.trap.new.self ≡ core_trapped c.args.t.0 p)) back c.trap.ensures.ok)

pub returns-then-not-access-clause-ok : goal.returns-then-not-access-clause-ok
returns-then-not-access-clause-ok c =
    let told = c.in_ok-tell.ensures.ok in
    let moved = c.in-Ok-None.ensures.ok ∙ ap (core_done c.args.target c.args.action.now c.args.t.0) told in
    let why = sym c.in-Ok-None.field-0-is ∙ c.in-Ok-None.ensures.cause ∙ ap (λ (p : CoreParts). failure_at p c.args.t.0 c.args.action.now) told in
    subst (λ (o : Option Cause). c.abort.new.self ≡ alone_as o c.args.retires c.args.target c.args.action.now c.args.t.0 c.args.self.now) why
    (c.abort.ensures.parts ∙ ap (core_aborted Overflow c.args.t.0) (c.if-not-access.ensures.parts)
    ∙ ap (λ (b : Bool). finished_as b c.args.t.0 (core_accessed c.args.action.now c.args.t.0 c.move_thread.new.self)) c.if-not-access.ensures.room
    ∙ ap (core_finished c.args.action.now c.args.t.0) moved)

pub returns-else-not-access-clause-ok : goal.returns-else-not-access-clause-ok
returns-else-not-access-clause-ok c =
    let told = c.in_ok-tell.ensures.ok in
    let moved = c.in-Ok-None.ensures.ok ∙ ap (core_done c.args.target c.args.action.now c.args.t.0) told in
    let why = sym c.in-Ok-None.field-0-is ∙ c.in-Ok-None.ensures.cause ∙ ap (λ (p : CoreParts). failure_at p c.args.t.0 c.args.action.now) told in
    subst (λ (o : Option Cause). c.access.new.self ≡ alone_as o c.args.retires c.args.target c.args.action.now c.args.t.0 c.args.self.now) why
    (c.if-not-access.ensures.parts
    ∙ ap (λ (b : Bool). finished_as b c.args.t.0 (core_accessed c.args.action.now c.args.t.0 c.move_thread.new.self)) c.if-not-access.ensures.room
    ∙ ap (core_finished c.args.action.now c.args.t.0) moved)
