-- The limits of declares and of functions. A type that a line writes has at most 1,048,576 bytes and nests at most 16 deep; a
-- function has at most 32 parameters and 65,536 names of registers and labels. These limits are the tool's own.
use Rattle.std.specs.Prelude.{ℕ, List, length, Option, Some, None, nat_lt, if◌then◌else◌}
use Rattle.std.specs.Option.{option_map, option_or}
use Rattle.ir_core.specs.declared.types.Ty.{Ty}
use Rattle.ir_core.specs.declared.types.TypeId.{TypeId}
use Rattle.ir_core.specs.Module.{ModuleParts}
use Rattle.ir_layout.specs.Limits.{limit_among, first_limit}
use Rattle.ir_layout.specs.WrittenTypes.{types_in_declare, types_in_head, types_in_inst}
use Rattle.ir_layout.specs.declared.limits.LimitKind.{LimitKind}
use Rattle.ir_layout.specs.declared.limits.LimitKind.TheVariants.{Params, Registers}
use Rattle.ir_lines.specs.Lines.{Line, DeclareLine, HeadLine, InstLine, first_told, code_lines}
use Rattle.ir_lines.specs.declared.site.Site.{Site}
use Rattle.ir_check.specs.Places.{site_text}

abbrev pub over : ℕ → ℕ → LimitKind → Option LimitKind
over most count kind = if nat_lt most count then Some kind else None

-- the first limit that a line breaks where the named types are these, in the order of `LimitKind`
abbrev pub limit_in : List (TypeId × Ty) → Line → Option LimitKind
limit_in types (DeclareLine declare) = option_or (limit_among types (types_in_declare declare)) (over 32 (length declare.params) Params)
limit_in types (HeadLine n f) = option_or (limit_among types (types_in_head f)) (option_or (over 32 (length f.params) Params) (over 65536 (length f.names) Registers))
limit_in types (InstLine n f b i inst) = limit_among types (types_in_inst inst)
limit_in types line = None

-- the first limit of a module and its place: types and globals come first
abbrev pub limit_text : ModuleParts → Site × LimitKind → LimitKind × List ℕ
limit_text m limit = (limit.1, site_text m limit.0)

abbrev pub broken_limit : ModuleParts → Option (LimitKind × List ℕ)
broken_limit m = option_or (first_limit m) (option_map (limit_text m) (first_told (limit_in m.types) (code_lines m)))
