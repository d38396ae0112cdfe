use Rattle.std.proofs.Common.{◌∙◌, ap, ℕ, List, map}
use Rattle.std.specs.Prelude.{nat_eq}
use Rattle.std.specs.Map.{lookup}
use Rattle.std.specs.Option.{option_map, option_or}
use Rattle.ir_core.specs.declared.values.GlobalVar.{GlobalVar}
use Rattle.ir_core.specs.declared.values.Declare.{Declare}
use Rattle.ir_core.specs.Module.{FuncParts}
use Rattle.ir_calls.specs.Calls.{of_global, of_declare, of_func, first_standing}
use Rattle.ir_calls.specs.Standings.{looked_up, told}
use Rattle.ir_calls.specs.declared.table.Item.{Item}
use Rattle.ir_calls.proofs.Entered.{all_entered}
use Rattle.ir_calls.proofs.table.items_of.Goals as goal

pub returns : goal.returns
returns c name =
    let before = looked_up c.new-items.result name in
    let globals = looked_up c.enter_globals.new.items name in
    let declares = looked_up c.enter_declares.new.items name in
    all_entered c.args.m.now name before globals declares (looked_up c.enter_funcs.new.items name)
    (ap (λ (es : List (ℕ × Item)). option_map told (lookup (nat_eq name.0) es)) c.new-items.ensures.empty)
    (c.in_ok-enter_globals.ensures name ∙ ap (λ (gs : List GlobalVar). option_or before (first_standing name (map of_global gs))) c.globals.ensures)
    (c.in_ok-enter_declares.ensures name ∙ ap (λ (ds : List Declare). option_or globals (first_standing name (map of_declare ds))) c.declares.ensures)
    (c.in_ok-enter_funcs.ensures name ∙ ap (λ (fs : List FuncParts). option_or declares (first_standing name (map of_func fs))) c.funcs.ensures)
