use Rattle.std.proofs.Common.{◌∙◌, ◌+◌, ◌*◌, ap, sym, Some, None}
use Rattle.mem_image.specs.declared.areas.Area.{Area}
use Rattle.mem_image.specs.declared.areas.Area.TheVariants.{Globals, Stacks, Heap}
use Rattle.mem_image.specs.Bytes.{Memory}
use Rattle.mem_image.specs.Lines.{line_size}
use Rattle.mem_image.specs.Views.{one_byte, view}
use Rattle.mem_image.proofs.OneByte.{byte-seen}
use Rattle.mem_image.proofs.Records.{memory}
use Rattle.mem_image.proofs.images.Image.put_byte.Goals as goal

pub returns-in-Some-Globals-default : goal.returns-in-Some-Globals-default
returns-in-Some-Globals-default c =
    let i = c.self.inside in
    let place = c.in-Some-Globals-default in
    byte-seen (memory i.places i.globals.items i.stacks.items i.heap.items) (c.args.line * line_size + c.args.offset) c.args.byte c.self.invariant (Some (Globals, place.at))
    (sym c.byte_place.ensures.place ∙ place.is ∙ ap (λ (area : Area). Some (area, place.at)) place.field-0-0-is) ∙ ap (λ (m : Memory). view m (one_byte (c.args.line * line_size + c.args.offset) c.args.byte)) c.self.view_is

pub returns-in-Some-Stacks-default : goal.returns-in-Some-Stacks-default
returns-in-Some-Stacks-default c =
    let i = c.self.inside in
    let place = c.in-Some-Stacks-default in
    byte-seen (memory i.places i.globals.items i.stacks.items i.heap.items) (c.args.line * line_size + c.args.offset) c.args.byte c.self.invariant (Some (Stacks, place.at))
    (sym c.byte_place.ensures.place ∙ place.is ∙ ap (λ (area : Area). Some (area, place.at)) place.field-0-0-is) ∙ ap (λ (m : Memory). view m (one_byte (c.args.line * line_size + c.args.offset) c.args.byte)) c.self.view_is

pub returns-in-Some-Heap-default : goal.returns-in-Some-Heap-default
returns-in-Some-Heap-default c =
    let i = c.self.inside in
    let place = c.in-Some-Heap-default in
    byte-seen (memory i.places i.globals.items i.stacks.items i.heap.items) (c.args.line * line_size + c.args.offset) c.args.byte c.self.invariant (Some (Heap, place.at))
    (sym c.byte_place.ensures.place ∙ place.is ∙ ap (λ (area : Area). Some (area, place.at)) place.field-0-0-is) ∙ ap (λ (m : Memory). view m (one_byte (c.args.line * line_size + c.args.offset) c.args.byte)) c.self.view_is

pub returns-in-None : goal.returns-in-None
returns-in-None c =
    byte-seen c.args.self.now (c.args.line * line_size + c.args.offset) c.args.byte c.byte_place.ensures.whole None (sym c.byte_place.ensures.place ∙ c.in-None.is)
