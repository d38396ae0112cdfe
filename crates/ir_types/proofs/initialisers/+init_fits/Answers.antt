use Rattle.std.proofs.Common.{◌≡◌, ◌∙◌, ap, sym, List, Some, None}
use Rattle.std.specs.Option.{option_copied}
use Rattle.ir_core.specs.declared.types.Ty.{Ty}
use Rattle.ir_layout.specs.Offsets.{fields}
use Rattle.ir_types.proofs.Asked.{fields-told, fields-over, elements-told, elements-over}
use Rattle.ir_types.proofs.initialisers.+init_fits.Goals as goal

pub returns-after-loop-written : goal.returns-after-loop-written
returns-after-loop-written bound c =
    let start : List Ty = c.in-Some-default.fields.now in
    let found : fields c.args.layout.now.types c.args.ty.now ≡ Some start = sym c.fields.ensures ∙ ap option_copied c.in-Some-default.is-0 in
    fields-told c.is_empty.result c.args.layout.now.types c.args.init.now c.args.ty.now c.in-Parts.parts c.items-written-items.result.now start c.in-Parts.is c.items-written-items.ensures found
    (c.is_empty.ensures ∙ fields-over c.args.layout.now.types start c.loop-written.fields.now c.items-written-items.result.now c.loop-written.written-index c.loop-written-test.false c.loop-written.invariant)

pub returns-after-loop-own : goal.returns-after-loop-own
returns-after-loop-own bound c =
    let found : fields c.args.layout.now.types c.args.ty.now ≡ None = sym c.fields.ensures ∙ ap option_copied c.in-None-Array.is-0 in
    elements-told _ c.args.layout.now.types c.args.init.now c.args.ty.now c.get-element.result.now c.in-None-Array.count c.in-None-Array.element c.in-Parts.parts c.items-parts.result.now c.in-Parts.is c.items-parts.ensures found c.in-None-Array.is-1 c.get-element.ensures
    (elements-over c.args.layout.now.types c.get-element.result.now c.in-None-Array.count c.items-parts.result.now c.loop-own.own-index c.loop-own-test.false c.loop-own.invariant)
