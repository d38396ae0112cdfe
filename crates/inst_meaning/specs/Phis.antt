-- What phis take, and how words go to registers (LLVM Language Reference, 'phi Instruction').
--
-- Choices: the phis at the head of a block take the words that their registers have at the end of the block before, all at once. The
-- first arm with that block's label counts; in an accepted module all such arms are equal.
use Rattle.std.specs.Prelude.{ℕ, List, [], ◌∷◌, Option, Some, None, nat_eq, take, find}
use Rattle.std.specs.List.{prefix_len}
use Rattle.std.specs.Option.{option_map, option_and_then}
use Rattle.ir_core.specs.declared.types.Loc.{Loc}
use Rattle.ir_core.specs.declared.values.Val.{Val}
use Rattle.ir_core.specs.declared.instruction.Inst.{Inst}
use Rattle.ir_core.specs.declared.instruction.Inst.TheVariants as insts
use Rattle.ir_core.specs.Instructions.{is_phi}
use Rattle.ir_layout.specs.Memory.{LayoutParts}
use Rattle.inst_meaning.specs.Registers.{put}
use Rattle.inst_meaning.specs.Operands.{typed_word}

-- how many phis stand at the head of a block, and which
abbrev pub phi_count : List Inst → ℕ
phi_count body = prefix_len is_phi body

abbrev pub phis_of : List Inst → List Inst
phis_of body = take (phi_count body) body

-- the value that comes from a label
abbrev pub arm_from : Loc → List (Val × Loc) → Option Val
arm_from label arms = option_map (λ arm. arm.0) (find (λ arm. nat_eq arm.1.0 label.0) arms)

-- the register that a phi assigns, and the word that it takes from there
abbrev pub phi_word : LayoutParts → List (Option ℕ) → Loc → Inst → Option (Loc × ℕ)
phi_word l registers label (insts.Phi dst ty arms) = option_map (λ n. (dst, n)) (option_and_then (typed_word l registers ty) (arm_from label arms))
phi_word l registers label other = None

abbrev pub phi_words_with : Option (Loc × ℕ) → Option (List (Loc × ℕ)) → Option (List (Loc × ℕ))
phi_words_with None words = None
phi_words_with (Some word) words = option_map (λ rest. word ∷ rest) words

-- those of all phis in order, where all have one
abbrev pub phi_words : LayoutParts → List (Option ℕ) → Loc → List Inst → Option (List (Loc × ℕ))
phi_words l registers label [] = Some []
phi_words l registers label (phi ∷ phis) = phi_words_with (phi_word l registers label phi) (phi_words l registers label phis)

-- ---- registers

-- a result goes to its register, where there is one
abbrev pub assigned : Option Loc → ℕ → List (Option ℕ) → List (Option ℕ)
assigned None n registers = registers
assigned (Some at) n registers = put registers at.0 n

-- each word goes to its register, one after another
abbrev pub all_assigned : List (Loc × ℕ) → List (Option ℕ) → List (Option ℕ)
all_assigned [] registers = registers
all_assigned (word ∷ words) registers = all_assigned words (put registers word.0.0 word.1)
