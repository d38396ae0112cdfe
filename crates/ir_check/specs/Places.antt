-- How places and names are written: `%T` for a type, `@g` for a global, a declare or a function's head, `F/B` for a block,
-- `F/B/I` for an instruction, `-` for the module. These texts are the tool's own.
use Rattle.std.specs.Prelude.{ℕ, List, [], ◌++◌, slice_get, codes}
use Rattle.std.specs.Option.{option_map_or}
use Rattle.std.specs.Fmt.{decimal}
use Rattle.ir_core.specs.declared.types.Loc.{Loc}
use Rattle.ir_core.specs.Module.{ModuleParts, FuncParts}
use Rattle.ir_layout.specs.Limits.{name_at}
use Rattle.ir_lines.specs.declared.site.Site.{Site}
use Rattle.ir_lines.specs.declared.site.Site.TheVariants as sites
use Rattle.ir_lines.specs.declared.site.Named.{Named}
use Rattle.ir_lines.specs.declared.site.Named.TheVariants as names

-- the name of a function, and the label of one of its blocks
abbrev pub func_text : ModuleParts → ℕ → List ℕ
func_text m n = option_map_or (λ f. name_at m.syms f.sym.0) (slice_get m.funcs n) []

abbrev pub label_in : FuncParts → ℕ → List ℕ
label_in f b = option_map_or (λ block. name_at f.names block.label.0) (slice_get f.blocks b) []

abbrev pub label_text : ModuleParts → ℕ → ℕ → List ℕ
label_text m n b = option_map_or (λ f. label_in f b) (slice_get m.funcs n) []

abbrev pub block_text : ModuleParts → ℕ → ℕ → List ℕ
block_text m n b = func_text m n ++ codes "/" ++ label_text m n b

abbrev pub site_text : ModuleParts → Site → List ℕ
site_text m (sites.Type id) = codes "%" ++ name_at m.type_names id.0
site_text m (sites.Global sym) = codes "@" ++ name_at m.syms sym.0
site_text m (sites.Block n b) = block_text m n b
site_text m (sites.Inst n b i) = block_text m n b ++ codes "/" ++ decimal i
site_text m sites.Module = codes "-"

-- a register or a label of a function
abbrev pub loc_text : ModuleParts → ℕ → Loc → List ℕ
loc_text m n at = option_map_or (λ f. name_at f.names at.0) (slice_get m.funcs n) []

-- a name with its sigil
abbrev pub named_text : ModuleParts → Named → List ℕ
named_text m (names.Type id) = codes "%" ++ name_at m.type_names id.0
named_text m (names.Sym sym) = codes "@" ++ name_at m.syms sym.0
named_text m (names.Loc n at) = codes "%" ++ loc_text m n at
