use Rattle.std.proofs.Common.{ℕ, ◌≡◌, ◌∙◌, Option, Some, length, ap, sym}
use Rattle.hard_meaning.specs.State.{Upset}
use Rattle.tx_machine.specs.declared.strikes.StruckAt.{StruckAt}
use Rattle.tx_machine.specs.Core.{CoreParts}
use Rattle.tx_machine.specs.Log.{kind_as}
use Rattle.tx_machine.specs.Upsets.{number_if, core_kind, core_place, core_struck, core_upset_at}
use Rattle.tx_machine.proofs.StruckFrames.{on-ok}
use Rattle.tx_machine.proofs.parts.Core.upset.Goals as goal

pub returns-clause-core : goal.returns-clause-core
returns-clause-core c =
    let n : ℕ = length c.args.log.now in
    let same : c.place_of.new.self ≡ c.args.self.now = c.place_of.ensures.unchanged in
    let there : core_place c.args.upset.now c.args.self.now ≡ Some c.in-Some.at = cc (c.in_ok-at.ensures.place, c.in-Some.is) in
    let kind : kind_as c.in_ok-kind.kind ≡ core_kind c.args.self.now c.args.log.now c.args.upset.now.tid.0 c.in-Some.at =
    c.in_ok-kind.ensures ∙ ap (λ (p : CoreParts). core_kind p c.args.log.now c.args.upset.now.tid.0 c.in-Some.at) same in
    on-ok c.strike_as.result
    (λ e. e ∙ ap (λ (p : CoreParts). core_struck c.args.upset.now (number_if (kind_as c.in_ok-kind.kind) n) p) same
    ∙ ap (λ (k : Upset). core_struck c.args.upset.now (number_if k n) c.args.self.now) kind
    ∙ sym (ap (λ (o : Option StruckAt). core_upset_at o c.args.upset.now c.args.log.now c.args.self.now) there))
    c.strike_as.ensures.core
