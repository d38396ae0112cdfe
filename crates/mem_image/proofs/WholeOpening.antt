-- The memory that a run of an accepted module begins with is whole.
use Rattle.std.proofs.Common.{◌≡◌, [], fold}
use Rattle.std.specs.Prelude.{None}
use Rattle.ir_core.specs.Module.{ModuleParts}
use Rattle.ir_layout.specs.Limits.{first_limit}
use Rattle.ir_layout.specs.Memory.{LayoutParts, area_size, layout_of}
use Rattle.mem_image.specs.Bytes.{IsWhole}
use Rattle.mem_image.specs.Opening.{with_global, opening}
use Rattle.mem_image.proofs.Lengths.{length_zeroes, length_exactly}
use Rattle.mem_image.proofs.Placed.{layout_in}

pub opening-whole : (m : ModuleParts) (l : LayoutParts) → l ≡ layout_of m → first_limit m ≡ None → IsWhole (opening l m.globals)
opening-whole m l is fits = record {
  globals = length_exactly area_size (fold (with_global l) [] m.globals);
  stacks = length_zeroes area_size;
  heap = length_zeroes area_size;
  places = layout_in m l is fits;
}
