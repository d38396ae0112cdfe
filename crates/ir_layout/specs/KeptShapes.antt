-- How a layout keeps a shape: the size modulo 2^64, and whether it is past the limit of sizes.
use Rattle.std.specs.Prelude.{ℕ, suc, ◌+◌, ◌*◌, ◌%◌, ◌^◌, ◌||◌, ◌&&◌, max, nat_lt}
use Rattle.ir_layout.specs.Shapes.{Shape, bytes, greater, round_up}
use Rattle.ir_layout.specs.declared.shapes.KeptShape.{KeptShape}

-- how many bytes a type may take
abbrev pub size_limit : ℕ
size_limit = 1048576

abbrev pub word : ℕ → ℕ
word n = n % 2 ^ 64

abbrev pub kept : Shape → KeptShape
kept shape = record { size = word shape.size; large = nat_lt size_limit shape.size; align = shape.align; depth = shape.depth }

-- an array, the fields so far and one more, and a struct of its fields, as they are kept
abbrev pub kept_array : ℕ → KeptShape → KeptShape
kept_array count element = record {
  size = word (count * element.size);
  large = nat_lt 0 count && (element.large || nat_lt size_limit (count * element.size));
  align = element.align;
  depth = suc element.depth;
}

abbrev pub kept_with_field : KeptShape → KeptShape → KeptShape
kept_with_field fields field =
    let size = word (word (round_up (bytes field.align) fields.size) + field.size) in
    record {
      size = size;
      large = fields.large || field.large || nat_lt size_limit size;
      align = greater fields.align field.align;
      depth = max fields.depth field.depth;
    }

abbrev pub kept_struct : KeptShape → KeptShape
kept_struct fields =
    let size = word (round_up (bytes fields.align) fields.size) in
    record {
      size = size;
      large = fields.large || nat_lt size_limit size;
      align = fields.align;
      depth = suc fields.depth;
    }
