-- The words that operands stand for (LLVM Language Reference, 'Constants', 'Global Variables', 'Data Layout').
--
-- Choices: an operand is read as a word of its type's width: what lies past that width, which a word of the type doesn't have,
-- doesn't count. A `ptr` is a word of 64 bits. A register that was never assigned has no word. A name that is no global
-- has the null pointer's address; no accepted module reads one.
use Rattle.std.specs.Prelude.{ℕ, ◌%◌, ◌^◌, List, [], ◌∷◌, Option, Some, None}
use Rattle.std.specs.Option.{option_map, option_and_then}
use Rattle.ir_core.specs.declared.types.Width.{Width}
use Rattle.ir_core.specs.declared.types.Width.TheVariants.{W1, W8, W16, W32, W64}
use Rattle.ir_core.specs.declared.types.Ty.{Ty}
use Rattle.ir_core.specs.declared.types.Ty.TheOpen.{Ty-F}
use Rattle.ir_core.specs.declared.types.Ty.TheViews.{out-Ty}
use Rattle.ir_core.specs.declared.values.Val.{Val}
use Rattle.ir_core.specs.declared.values.Val.TheVariants as values
use Rattle.op_table.specs.Operators.{bits}
use Rattle.ir_layout.specs.Memory.{LayoutParts}
use Rattle.mem_image.specs.Opening.{address_in, inner_address}
use Rattle.mem_image.specs.declared.sizes.Size.{Size}
use Rattle.mem_image.specs.declared.sizes.Size.TheVariants.{S1, S2, S4, S8}
use Rattle.inst_meaning.specs.Registers.{get}

-- the width of the words of a type, where it has words
abbrev pub width_step : Ty-F Ty → Option Width
width_step (Ty-F.Int w) = Some w
width_step Ty-F.Ptr = Some W64
width_step other = None

abbrev pub width_of : Ty → Option Width
width_of ty = width_step (out-Ty ty)

-- the width of the words of a type in memory; a word of one bit stands in none
abbrev pub in_bytes : Width → Option Width
in_bytes W1 = None
in_bytes W8 = Some W8
in_bytes W16 = Some W16
in_bytes W32 = Some W32
in_bytes W64 = Some W64

abbrev pub memory_width : Ty → Option Width
memory_width ty = option_and_then in_bytes (width_of ty)

-- how many bytes such a word takes in memory
abbrev pub size_of_width : Width → Size
size_of_width W1 = S1
size_of_width W8 = S1
size_of_width W16 = S2
size_of_width W32 = S4
size_of_width W64 = S8

-- the word that a value stands for
abbrev pub word_of : LayoutParts → List (Option ℕ) → Val → Option ℕ
word_of l registers (values.Reg at) = get registers at.0
word_of l registers (values.Int n) = Some n
word_of l registers values.Null = Some 0
word_of l registers (values.Global sym) = Some (address_in l sym)
word_of l registers (values.Gep gep) = Some (inner_address l gep)

-- the same, as a word of a width
abbrev pub word_at : LayoutParts → List (Option ℕ) → Width → Val → Option ℕ
word_at l registers w value = option_map (λ word. word % 2 ^ bits w) (word_of l registers value)

-- a value as a word of its type
abbrev pub typed_word : LayoutParts → List (Option ℕ) → Ty → Val → Option ℕ
typed_word l registers ty value = option_and_then (λ w. word_at l registers w value) (width_of ty)

-- an address
abbrev pub pointer_word : LayoutParts → List (Option ℕ) → Val → Option ℕ
pointer_word l registers value = word_at l registers W64 value

-- the words of arguments in order, where all have one
abbrev pub words_with : Option ℕ → Option (List ℕ) → Option (List ℕ)
words_with None words = None
words_with (Some word) words = option_map (λ rest. word ∷ rest) words

abbrev pub argument_words : LayoutParts → List (Option ℕ) → List (Ty × Val) → Option (List ℕ)
argument_words l registers [] = Some []
argument_words l registers (argument ∷ arguments) = words_with (typed_word l registers argument.0 argument.1) (argument_words l registers arguments)

-- the words of indices in order, each with its width, where all have one
abbrev pub index_with : Width → Option ℕ → Option (List (Width × ℕ)) → Option (List (Width × ℕ))
index_with w None words = None
index_with w (Some word) words = option_map (λ rest. (w, word) ∷ rest) words

abbrev pub index_words : LayoutParts → List (Option ℕ) → List (Width × Val) → Option (List (Width × ℕ))
index_words l registers [] = Some []
index_words l registers (index ∷ indices) = index_with index.0 (word_at l registers index.0 index.1) (index_words l registers indices)
