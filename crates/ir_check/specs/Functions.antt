-- A module has a function `i32 @main()`.
use Rattle.std.specs.Prelude.{Bool, true, false, ◌&&◌, List, [], ◌∷◌, codes}
use Rattle.std.specs.List.{list_any}
use Rattle.std.specs.Str.{bytes_eq}
use Rattle.ir_core.specs.declared.types.Ty.TheVariants as types
use Rattle.ir_core.specs.declared.types.Width.TheVariants.{W32}
use Rattle.ir_core.specs.Module.{ModuleParts, FuncParts}
use Rattle.ir_layout.specs.Limits.{name_at}
use Rattle.ir_lines.specs.SameTypes.{same_ty}

abbrev pub is_empty : {A : Type 0} → List A → Bool
is_empty [] = true
is_empty (x ∷ xs) = false

abbrev pub is_main : ModuleParts → FuncParts → Bool
is_main m f = bytes_eq (name_at m.syms f.sym.0) (codes "main") && same_ty f.ret (types.Int W32) && is_empty f.params

abbrev pub has_main : ModuleParts → Bool
has_main m = list_any (is_main m) m.funcs
