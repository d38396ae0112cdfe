-- What a line inside a function stands for once its names have numbers.
use Rattle.std.specs.Prelude.{ℕ, ◌≡◌, List}
use Rattle.ir_core.specs.declared.text.Token.{Token}
use Rattle.ir_core.specs.declared.instruction.Inst.{Inst}
use Rattle.ir_core.specs.Module.{ModuleParts, FuncParts}
use Rattle.ir_grammar.specs.Tokens.{tokens_of}
use Rattle.ir_grammar.specs.Fitting.{IsInstruction}
use Rattle.ir_numbering.specs.Places.{places_of_inst}
use Rattle.ir_numbering.specs.Renaming.{renamed_inst}
use Rattle.ir_numbering.specs.Numbers.{HasFront, module_with, func_with, renaming_of}

-- The tokens stand for a tree whose names are given by their places. The names have joined the tables in the order
-- in which the line writes them, and nothing else has changed; the instruction is the tree with their numbers.
pub record StandsFor (text : List ℕ) (tokens : List Token) (m : ModuleParts) (f : FuncParts) (m' : ModuleParts) (f' : FuncParts) (inst : Inst) : Type 0 where
  pub tree : Inst
  pub is : IsInstruction (tokens_of text tokens) tree
  pub in_module : m' ≡ module_with text (places_of_inst tree) m
  pub in_func : f' ≡ func_with text (places_of_inst tree) f
  pub numbered : inst ≡ renamed_inst (renaming_of text m' f') tree

-- For want of memory: nothing has changed, or the line was read, the names at a prefix of its places have joined the tables, and nothing else has changed.
pub data MayHaveNames (text : List ℕ) (tokens : List Token) (m : ModuleParts) (f : FuncParts) (m' : ModuleParts) (f' : FuncParts) : Type 0 where
  Unchanged : m' ≡ m → f' ≡ f → MayHaveNames text tokens m f m' f'
  Named : (tree : Inst) → IsInstruction (tokens_of text tokens) tree → HasFront text (places_of_inst tree) m f m' f' → MayHaveNames text tokens m f m' f'
