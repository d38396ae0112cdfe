use Rattle.std.proofs.Common.{◌≡◌, ◌≤◌, ◌-◌, length, sym, ap, ◌∙◌, arith}
use Rattle.std.proofs.lemmas.List.{set_past}
use Rattle.inst_meaning.specs.declared.actions.Callee.TheVariants.{Defined}
use Rattle.inst_meaning.proofs.NamedCallees.{callees_from, callees_from_last, callees_from_more, callees_from_all}
use Rattle.inst_meaning.proofs.calls.callees_of.Goals as goal

pub loop-number-init : goal.loop-number-init
loop-number-init c = c.in_ok-callees.ensures ∙ callees_from_last c.args.m.now _ (omega (arith, ap length c.funcs-funcs.ensures))

pub loop-number-preserved-then-sym-len : goal.loop-number-preserved-then-sym-len
loop-number-preserved-then-sym-len c =
    let number = c.loop-number.number - 1 in
    let is = rw c.funcs-funcs.ensures at c.index-funcs-number.is in
    rw (c.sym-sym.ensures, c.loop-number.invariant) (callees_from_more c.args.m.now number c.loop-number.number c.index-funcs-number.result (omega arith) (omega (arith, ap length c.funcs-funcs.ensures)) is)

-- a function whose name has no place changes nothing
pub loop-number-preserved : goal.loop-number-preserved
loop-number-preserved c =
    let m = c.args.m.now in
    let number = c.loop-number.number - 1 in
    let is = rw c.funcs-funcs.ensures at c.index-funcs-number.is in
    let more = callees_from_more m number c.loop-number.number c.index-funcs-number.result (omega arith) (omega (arith, ap length c.funcs-funcs.ensures)) is in
    let past : length (callees_from m c.loop-number.number) ≤ c.index-funcs-number.result.sym.0 = omega (arith, c.loop-number.callees.ok.0, ap length c.loop-number.invariant, ap (λ s. s.0) c.sym-sym.ensures) in
    c.loop-number.invariant ∙ sym (set_past _ _ (Defined number) past) ∙ more

pub returns : goal.returns
returns c =
    let none : c.loop-number.number ≡ 0 = omega arith in
    c.loop-number.invariant ∙ ap (callees_from c.args.m.now) none ∙ callees_from_all c.args.m.now
