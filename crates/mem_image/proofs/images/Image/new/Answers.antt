use Rattle.std.proofs.Common.{List, length, ap, ◌∙◌}
use Rattle.std.specs.List.{list_all}
use Rattle.ir_layout.specs.declared.spans.Span.{Span}
use Rattle.ir_layout.specs.Memory.{area_size, lies_in, globals_start}
use Rattle.mem_image.specs.Opening.{exactly}
use Rattle.mem_image.proofs.Lengths.{length_zeroes, length_exactly}
use Rattle.mem_image.proofs.Placed.{layout_in}
use Rattle.mem_image.proofs.Records.{same_memory}
use Rattle.mem_image.proofs.images.Image.new.Goals as goal

pub invariant_of-result : goal.invariant_of-result
invariant_of-result c = record {
  globals = ap length c.in_ok-fit.ensures ∙ length_exactly area_size c.in_ok-globals.globals.items;
  stacks = ap length c.in_ok-stacks.ensures ∙ length_zeroes area_size;
  heap = ap length c.in_ok-heap.ensures ∙ length_zeroes area_size;
  places = ap (λ (places : List Span). list_all (λ (span : Span). lies_in globals_start area_size span.start span.size) places) c.in_ok-places.ensures ∙ layout_in c.args.m.now c.args.l.now c.requires.layout c.requires.fits;
}

pub returns : goal.returns
returns c = same_memory c.in_ok-places.ensures (c.in_ok-fit.ensures ∙ ap (exactly area_size) c.in_ok-globals.ensures) c.in_ok-stacks.ensures c.in_ok-heap.ensures
