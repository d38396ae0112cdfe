-- The lines of a module in the order of their places (LLVM Language Reference, 'Module Structure', 'Functions').
--
-- Choices: named types come first, then globals, declares and functions; a function's head is followed by its blocks, and a
-- block by its instructions, phis counted. A rule says of each line whether it keeps it; what a module breaks is
-- told of its first line that doesn't.
use Rattle.std.specs.Prelude.{ℕ, ◌+◌, Bool, not, List, [], ◌∷◌, ◌++◌, map, Option, None, find}
use Rattle.std.specs.Option.{option_map, option_or}
use Rattle.ir_core.specs.declared.types.Ty.{Ty}
use Rattle.ir_core.specs.declared.types.TypeId.{TypeId}
use Rattle.ir_core.specs.declared.values.GlobalVar.{GlobalVar}
use Rattle.ir_core.specs.declared.values.Declare.{Declare}
use Rattle.ir_core.specs.declared.instruction.Inst.{Inst}
use Rattle.ir_core.specs.declared.instruction.Block.{Block}
use Rattle.ir_core.specs.Module.{ModuleParts, FuncParts}
use Rattle.ir_lines.specs.declared.site.Site.{Site}
use Rattle.ir_lines.specs.declared.site.Site.TheVariants as sites

-- A line, with what stands there. A head, a block and an instruction know their function and its number; a block
-- its own number, an instruction that of its block and its own.
pub data Line : Type 0 where
  TypeLine : TypeId × Ty → Line
  GlobalLine : GlobalVar → Line
  DeclareLine : Declare → Line
  HeadLine : ℕ → FuncParts → Line
  BlockLine : ℕ → FuncParts → ℕ → Block → Line
  InstLine : ℕ → FuncParts → ℕ → ℕ → Inst → Line

abbrev pub site_of : Line → Site
site_of (TypeLine named) = sites.Type named.0
site_of (GlobalLine global) = sites.Global global.sym
site_of (DeclareLine declare) = sites.Global declare.sym
site_of (HeadLine n f) = sites.Global f.sym
site_of (BlockLine n f b block) = sites.Block n b
site_of (InstLine n f b i inst) = sites.Inst n b i

-- ---- lines in order

abbrev pub inst_lines : ℕ → FuncParts → ℕ → ℕ → List Inst → List Line
inst_lines n f b i [] = []
inst_lines n f b i (inst ∷ insts) = InstLine n f b i inst ∷ inst_lines n f b (i + 1) insts

abbrev pub block_lines : ℕ → FuncParts → ℕ → Block → List Line
block_lines n f b block = BlockLine n f b block ∷ inst_lines n f b 0 block.insts

abbrev pub blocks_lines : ℕ → FuncParts → ℕ → List Block → List Line
blocks_lines n f b [] = []
blocks_lines n f b (block ∷ blocks) = block_lines n f b block ++ blocks_lines n f (b + 1) blocks

abbrev pub func_lines : ℕ → FuncParts → List Line
func_lines n f = HeadLine n f ∷ blocks_lines n f 0 f.blocks

abbrev pub funcs_lines : ℕ → List FuncParts → List Line
funcs_lines n [] = []
funcs_lines n (f ∷ funcs) = func_lines n f ++ funcs_lines (n + 1) funcs

-- declares and functions, which stand behind types and globals
abbrev pub code_lines : ModuleParts → List Line
code_lines m = map DeclareLine m.declares ++ funcs_lines 0 m.funcs

abbrev pub lines_of : ModuleParts → List Line
lines_of m = map TypeLine m.types ++ map GlobalLine m.globals ++ code_lines m

-- ---- what the first line tells

-- the first of the lines that doesn't keep a rule
abbrev pub first_break : (Line → Bool) → List Line → Option Site
first_break keeps lines = option_map site_of (find (λ line. not (keeps line)) lines)

-- the site of a line, and what is told of it
abbrev pub told_at : {A : Type 0} → Line → Option A → Option (Site × A)
told_at line told = option_map (λ fact. (site_of line, fact)) told

-- what is told of the first line of which something is
abbrev pub first_told : {A : Type 0} → (Line → Option A) → List Line → Option (Site × A)
first_told told [] = None
first_told told (line ∷ lines) = option_or (told_at line (told line)) (first_told told lines)
