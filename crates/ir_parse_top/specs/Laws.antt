-- What holds of whole texts, by their definitions alone.
use Rattle.std.specs.Prelude.{ℕ, ◌≡◌, ◌<◌, ◌≤◌, List, length, Some, slice_get}
use Rattle.std.specs.List.{flat_map}
use Rattle.std.specs.Fmt.{decimal}
use Rattle.ir_core.specs.declared.instruction.Block.{Block}
use Rattle.ir_core.specs.declared.instruction.Inst.{Inst}
use Rattle.ir_core.specs.Module.{ModuleParts, FuncParts}
use Rattle.ir_core.specs.TokenLengths.{name_from}
use Rattle.ir_parse_top.specs.Sheet.{with_numerals, numeral_at}
use Rattle.ir_parse_top.specs.Text.{Fault, Text, Unfit}

-- ---- a text stands for a module or has an unfit line

-- a text stands for a module, or has a first line that fits no form
pub data Verdict (text : List ℕ) : Type 0 where
  Stands : (m : ModuleParts) → Text text m → Verdict text
  Refused : (n : ℕ) (fault : Fault) → Unfit text n fault → Verdict text

-- Texts stand for one module or have one unfit line, with one fault, and never both.
pub record TextsAreDecided : Type 0 where
  pub one_module : (text : List ℕ) (a b : ModuleParts) → Text text a → Text text b → a ≡ b
  pub one_fault : (text : List ℕ) (m n : ℕ) (a b : Fault) → Unfit text m a → Unfit text n b → (m ≡ n) × (a ≡ b)
  pub verdict : (text : List ℕ) → Verdict text
  pub never_both : (text : List ℕ) (m : ModuleParts) (n : ℕ) (fault : Fault) → Text text m → Unfit text n fault → ⊥

-- ---- how many instructions a text can hold

-- the instructions of blocks and of functions, in order
abbrev pub insts_of_blocks : List Block → List Inst
insts_of_blocks = flat_map (λ block. block.insts)

abbrev pub insts_of_funcs : List FuncParts → List Inst
insts_of_funcs = flat_map (λ f. insts_of_blocks f.blocks)

-- how many instructions a module has; phi nodes are instructions
abbrev pub instruction_count : ModuleParts → ℕ
instruction_count m = length (insts_of_funcs m.funcs)

-- a text stands for a module of no more instructions than the text has bytes
abbrev pub ModulesAreWithin : Type 0
ModulesAreWithin = (text : List ℕ) (m : ModuleParts) → Text text m → instruction_count m ≤ length text

-- a text of at most 4 MiB stands for a module of at most as many instructions
abbrev pub ModulesAreSmall : Type 0
ModulesAreSmall = (text : List ℕ) (m : ModuleParts) → length text ≤ 4194304 → Text text m → instruction_count m ≤ 4194304

-- ---- blocks

-- each function of a module that a text stands for has a block
abbrev pub FunctionsHaveBlocks : Type 0
FunctionsHaveBlocks = (text : List ℕ) (m : ModuleParts) → Text text m → (n : ℕ) (f : FuncParts) → slice_get m.funcs n ≡ Some f → 0 < length f.blocks

-- ---- names behind a text

-- a numeral behind a text is read as its digits
abbrev pub NumeralsAreRead : Type 0
NumeralsAreRead = (text : List ℕ) (count k : ℕ) → k < count → k < 10000000 → name_from (with_numerals count text) (numeral_at text k).0 ≡ decimal k

-- names that begin in a text are the same with numerals behind it
abbrev pub NamesStay : Type 0
NamesStay = (text : List ℕ) (count at : ℕ) → at < length text → name_from (with_numerals count text) at ≡ name_from text at
