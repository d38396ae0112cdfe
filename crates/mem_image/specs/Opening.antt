-- The memory that a run begins with (LLVM Language Reference, 'Global Variables', 'Simple Constants', 'Complex Constants').
--
-- Choices: a byte that no initialiser gives is 0. Bytes are cut, or zeroes follow, where they aren't as many as their type
-- takes; in an accepted module that is so for zeroes and for words of less than 64 bits alone.
use Rattle.std.specs.Prelude.{ℕ, ◌+◌, ◌-◌, List, [], ◌++◌, Option, Some, None, take, length, replicate, fold, unwrap_or}
use Rattle.byteorder.specs.Endian.{little_bytes}
use Rattle.ir_core.specs.declared.types.Ty.{Ty}
use Rattle.ir_core.specs.declared.types.Sym.{Sym}
use Rattle.ir_core.specs.declared.values.ConstGep.{ConstGep}
use Rattle.ir_core.specs.declared.values.GlobalVar.{GlobalVar}
use Rattle.ir_core.specs.declared.values.Init.{Init, fold-Init}
use Rattle.ir_core.specs.declared.values.Init.TheOpen.{Init-F}
use Rattle.ir_layout.specs.Shapes.{known_shape, field_start, size_of}
use Rattle.ir_layout.specs.KeptShapes.{word}
use Rattle.ir_layout.specs.Offsets.{offset_of}
use Rattle.ir_layout.specs.Memory.{LayoutParts, area_size, globals_start, address_of}
use Rattle.ir_layout.specs.Limits.{limit_of}
use Rattle.ir_layout.specs.declared.limits.LimitKind.{LimitKind}
use Rattle.mem_image.specs.Bytes.{Memory}

unfoldable pub zeroes : ℕ → List ℕ
zeroes n = replicate n 0

-- the first n bytes, and zeroes where there are fewer
unfoldable pub exactly : ℕ → List ℕ → List ℕ
exactly n bs = take n bs ++ replicate (n - length bs) 0

-- how many bytes a type takes; one that breaks a limit, which no accepted module writes, takes none
abbrev pub size_within : Option LimitKind → ℕ → ℕ
size_within None size = size
size_within (Some kind) size = 0

abbrev pub size_in : LayoutParts → Ty → ℕ
size_in l ty = size_within (limit_of l.types ty) (size_of l.types ty)

-- the address of a global, and one inside it; a name that is no global has the null pointer's
abbrev pub address_in : LayoutParts → Sym → ℕ
address_in l sym = unwrap_or (address_of l.globals sym) 0

abbrev pub inner_address : LayoutParts → ConstGep → ℕ
inner_address l gep = word (address_in l gep.sym + unwrap_or (offset_of l.types gep.base gep.index) 0)

-- the bytes so far and one more part behind them, at the next multiple of its alignment. The elements of an array stand
-- without gaps, since the size of a type is a multiple of its alignment
abbrev pub with_part : LayoutParts → List ℕ → Ty × List ℕ → List ℕ
with_part l bs part = exactly (field_start (length bs) (known_shape l.types part.0).align) bs ++ exactly (size_in l part.0) part.1

-- one layer of an initialiser, its parts' bytes given
abbrev pub init_step : LayoutParts → Init-F (List ℕ) → List ℕ
init_step l Init-F.Zero = []
init_step l (Init-F.Int n) = little_bytes 8 n
init_step l Init-F.Null = []
init_step l (Init-F.Addr sym) = little_bytes 8 (address_in l sym)
init_step l (Init-F.Gep gep) = little_bytes 8 (inner_address l gep)
init_step l (Init-F.Bytes bs) = bs
init_step l (Init-F.Parts parts) = fold (with_part l) [] parts

-- the bytes that an initialiser gives, and those that it has at its type
abbrev pub bytes_given : LayoutParts → Init → List ℕ
bytes_given l = fold-Init (List ℕ) (init_step l)

abbrev pub bytes_of_init : LayoutParts → Ty → Init → List ℕ
bytes_of_init l ty init = exactly (size_in l ty) (bytes_given l init)

-- the bytes so far and one more global, at its address
abbrev pub with_global : LayoutParts → List ℕ → GlobalVar → List ℕ
with_global l bs global = exactly (address_in l global.sym - globals_start) bs ++ bytes_of_init l global.ty global.init

-- the memory that a run of a module with these globals begins with
abbrev pub opening : LayoutParts → List GlobalVar → Memory
opening l globals = record {
  places = l.globals;
  globals = exactly area_size (fold (with_global l) [] globals);
  stacks = zeroes area_size;
  heap = zeroes area_size;
}
