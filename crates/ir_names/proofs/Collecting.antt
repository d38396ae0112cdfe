-- Definitions of lines one behind another.
use Rattle.std.proofs.Common.{◌≡◌, List, ◌++◌}
use Rattle.std.proofs.lemmas.List.Concat.{flat_map-append}
use Rattle.ir_lines.specs.Lines.{Line}
use Rattle.ir_names.specs.Names.{definitions_in, definitions_of}

pub definitions_append : (xs ys : List Line) → definitions_of (xs ++ ys) ≡ definitions_of xs ++ definitions_of ys
definitions_append xs ys = flat_map-append definitions_in xs ys
