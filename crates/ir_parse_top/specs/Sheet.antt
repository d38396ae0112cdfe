-- What the lines of a text have said so far, and what it is once one more has been read.
--
-- A name is told by the place in the text where it begins. Names that no line writes stand behind the text, where
-- numerals are: they are the names of parameters that have none, and of entry blocks without a label
-- (LLVM Language Reference, 'Identifiers', 'Functions').
use Rattle.std.specs.Prelude.{ℕ, zero, suc, ◌+◌, ◌-◌, ◌*◌, List, [], ◌∷◌, ◌++◌, length, replicate, Option, Some, None, if◌then◌else◌}
use Rattle.std.specs.Fmt.{decimal}
use Rattle.ir_core.specs.declared.text.Token.{Token}
use Rattle.ir_core.specs.declared.types.Loc.{Loc}
use Rattle.ir_core.specs.declared.types.Ty.{Ty}
use Rattle.ir_core.specs.declared.instruction.Block.{Block}
use Rattle.ir_core.specs.Module.{ModuleParts, FuncParts, with_inst}
use Rattle.ir_core.specs.Tokens.{is_digits}
use Rattle.ir_core.specs.TokenLengths.{name_from}
use Rattle.ir_grammar.specs.declared.trees.Head.{Head}
use Rattle.ir_grammar.specs.declared.trees.TopLine.{TopLine}
use Rattle.ir_grammar.specs.declared.trees.TopLine.TheVariants as tops
use Rattle.ir_grammar.specs.declared.trees.BodyLine.{BodyLine}
use Rattle.ir_grammar.specs.declared.trees.BodyLine.TheVariants as bodies

-- ---- names that no line writes

-- a number's digits, with blanks behind them up to eight bytes
unfoldable pub numeral : ℕ → List ℕ
numeral n = decimal n ++ replicate (8 - length (decimal n)) 32

-- so many numerals, the first of which is n
unfoldable pub numerals : ℕ → ℕ → List ℕ
numerals n zero = []
numerals n (suc count) = numeral n ++ numerals (n + 1) count

-- a text, a line feed, and the numerals from 0 on, so many of them
abbrev pub with_numerals : ℕ → List ℕ → List ℕ
with_numerals count text = text ++ 10 ∷ numerals 0 count

-- where a numeral stands behind the text
abbrev pub numeral_at : List ℕ → ℕ → Loc
numeral_at text n = record { 0 = length text + 1 + 8 * n }

-- ---- parameters

-- 1 for a parameter whose name is digits, and for one without a written name
abbrev pub counted : List ℕ → Option Loc → ℕ
counted text None = 1
counted text (Some at) = if is_digits (name_from text at.0) then 1 else 0

abbrev pub name_or : List ℕ → ℕ → Option Loc → Loc
name_or text n None = numeral_at text n
name_or text n (Some at) = at

-- Parameters with their names, n such ones standing before them: one without a written name takes the number of
-- those before it.
unfoldable pub named_params : List ℕ → ℕ → List (Ty × Option Loc) → List (Ty × Loc)
named_params text n [] = []
named_params text n (param ∷ params) = (param.0, name_or text n param.1) ∷ named_params text (n + counted text param.1) params

-- how many there are once these have been counted too
unfoldable pub counted_params : List ℕ → ℕ → List (Ty × Option Loc) → ℕ
counted_params text n [] = n
counted_params text n (param ∷ params) = counted_params text (n + counted text param.1) params

-- ---- functions

-- a function without blocks, from the line that begins it
abbrev pub headed : List ℕ → Head → FuncParts
headed text head = record { sym = head.sym; ret = head.ret; params = named_params text 0 head.params; blocks = []; names = [] }

-- the name of its entry block, should that have no label
abbrev pub entry_of : List ℕ → Head → Loc
entry_of text head = numeral_at text (counted_params text 0 head.params)

abbrev pub new_block : Loc → Block
new_block label = record { label = label; insts = [] }

-- the blocks, with an entry block where there is none yet
abbrev pub begun : Loc → List Block → List Block
begun entry [] = new_block entry ∷ []
begun entry (block ∷ blocks) = block ∷ blocks

-- ---- sheets

-- What has been read: a module's tree, and inside a function that one's tree, the name of its entry block and the
-- tokens of a `switch` that isn't closed.
pub data Sheet : Type 0 where
  Outside : ModuleParts → Sheet
  Inside : ModuleParts → FuncParts → Loc → List Token → Sheet

-- behind a line outside functions
abbrev pub with_top : List ℕ → ModuleParts → TopLine → Sheet
with_top text tree (tops.Type id ty) = Outside (record tree { types = tree.types ++ (id, ty) ∷ [] })
with_top text tree (tops.Global global) = Outside (record tree { globals = tree.globals ++ global ∷ [] })
with_top text tree (tops.Declare declare) = Outside (record tree { declares = tree.declares ++ declare ∷ [] })
with_top text tree (tops.Define head) = Inside tree (headed text head) (entry_of text head) []

-- behind a line inside a function
abbrev pub with_body : ModuleParts → FuncParts → Loc → BodyLine → Sheet
with_body tree f entry (bodies.Label at) = Inside tree (record f { blocks = f.blocks ++ new_block at ∷ [] }) entry []
with_body tree f entry (bodies.Inst inst) = Inside tree (record f { blocks = with_inst (begun entry f.blocks) inst }) entry []
with_body tree f entry bodies.End = Outside (record tree { funcs = tree.funcs ++ record f { blocks = begun entry f.blocks } ∷ [] })
