use Rattle.std.proofs.Common.{◌∙◌, ◌++◌, ◌∷◌, [], ◌≤◌, List, length, map, take, ap, sym, subst, arith}
use Rattle.std.proofs.lemmas.List.{take_all}
use Rattle.upset_model.specs.declared.blocks.Interval.{Interval}
use Rattle.upset_model.specs.Table.{func_intervals, Table, HoldsWindows}
use Rattle.upset_model.proofs.TableLaws.{taken-more, table-holds}
use Rattle.upset_model.proofs.table.WindowTable.of.Goals as goal

pub loop-number-preserved : goal.loop-number-preserved
loop-number-preserved c =
    let built : Table = map func_intervals (take c.loop-number.number c.args.h.now.funcs) in
    c.in_ok-push.ensures.items
    ∙ ap (λ (windows : List (List Interval)). c.loop-number.funcs.items ++ windows ∷ []) c.in_ok-of.ensures
    ∙ ap (λ (before : Table). before ++ func_intervals c.blocks-in-loop-number.result.now ∷ []) c.loop-number.invariant
    ∙ sym (taken-more func_intervals c.args.h.now.funcs c.loop-number.number c.blocks-in-loop-number.result.now c.blocks-in-loop-number.ensures.blocks)

pub returns : goal.returns
returns c =
    let all : length c.args.h.now.funcs ≤ c.loop-number.number = omega (arith, c.requires, c.loop-number-test.false) in
    subst (HoldsWindows c.args.h.now)
    (sym (c.loop-number.invariant ∙ ap (map func_intervals) (take_all c.loop-number.number c.args.h.now.funcs all)))
    (table-holds c.args.h.now)
