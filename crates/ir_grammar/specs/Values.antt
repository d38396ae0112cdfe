-- Values as a line writes them (LLVM Language Reference, 'Constants').
--
-- Choices: a value stands behind its type, which says what fits. A register fits behind any type; whether its own
-- type is the written one is no matter of the text.
use Rattle.std.specs.Prelude.{ℕ, List, [], ◌∷◌, codes, Option, Some, None, option_map}
use Rattle.ir_core.specs.declared.text.TokKind.TheVariants.{Word, Local, At, Num}
use Rattle.ir_core.specs.declared.types.Width.{Width}
use Rattle.ir_core.specs.declared.types.Width.TheVariants.{W1}
use Rattle.ir_core.specs.declared.types.Sym.{Sym}
use Rattle.ir_core.specs.declared.types.Ty.{Ty}
use Rattle.ir_core.specs.declared.types.Ty.TheVariants as types
use Rattle.ir_core.specs.declared.values.Val.{Val}
use Rattle.ir_core.specs.declared.values.Val.TheVariants as values
use Rattle.ir_core.specs.declared.values.ConstGep.{ConstGep}
use Rattle.ir_grammar.specs.declared.heads.FlagSet.TheVariants.{Gep}
use Rattle.ir_grammar.specs.declared.heads.ValueHead.{ValueHead}
use Rattle.ir_grammar.specs.declared.heads.ValueHead.TheVariants as heads
use Rattle.ir_grammar.specs.Parts.{Tok, Part, gives, one, ◌>>=◌}
use Rattle.ir_grammar.specs.Tokens.{name_place, keyword, punct, comma, open_paren, close_paren}
use Rattle.ir_grammar.specs.Numbers.{bits, word_written}
use Rattle.ir_grammar.specs.Words.{entry, flags}
use Rattle.ir_grammar.specs.Types.{width, any_type, more_listed}

-- ---- constants of one token

-- `true` and `false` are the integers of `i1`
abbrev pub truth : Width → List ℕ → Option ℕ
truth w = elim w as (λ _. List ℕ → Option ℕ) [ W1 ↦ entry ((codes "true", 1) ∷ (codes "false", 0) ∷ []) | _ ↦ entry [] ]

-- an integer of the width
abbrev pub integer_of : Width → Tok → Option ℕ
integer_of w t = elim t.kind as (λ _. Option ℕ) [ Num ↦ word_written (bits w) t.text | Word ↦ truth w t.text | _ ↦ None ]

abbrev pub integer : Width → Part ℕ
integer w = one (integer_of w)

-- the place of an `@` name
abbrev pub sym_of : Tok → Option Sym
sym_of t = elim t.kind as (λ _. Option Sym) [ At ↦ Some (record { 0 = name_place t }) | _ ↦ None ]

abbrev pub symbol : Part Sym
symbol = one sym_of

-- ---- constant getelementptr (LLVM Language Reference, 'Constant Expressions')

-- an integer type and a number of it
unfoldable pub constant_index : Part (Width × ℕ)
constant_index = width >>= λ w. integer w >>= λ n. gives (w, n)

-- `, ptr @g , iN K ..`, up to the closing parenthesis, with one index or more
unfoldable pub const_operands : Part (Sym × List (Width × ℕ))
const_operands =
    punct comma >>= λ _. keyword (codes "ptr") >>= λ _. symbol >>= λ sym. punct comma >>= λ _. constant_index >>= λ index. more_listed (index ∷ []) constant_index >>= λ all. punct close_paren >>= λ _. gives (sym, all)

-- what stands behind the word
unfoldable pub const_gep : Part ConstGep
const_gep =
    flags Gep >>= λ _. punct open_paren >>= λ _. any_type >>= λ base. const_operands >>= λ x.
    gives (record { base = base; sym = x.0; index = x.1 })

-- ---- values

abbrev pub null_word : List ℕ → Option ValueHead
null_word = entry ((codes "null", heads.Null) ∷ (codes "getelementptr", heads.Gep) ∷ [])

-- `null`, an `@` name, or the word of a constant getelementptr
abbrev pub pointer_head : Tok → Option ValueHead
pointer_head t = elim t.kind as (λ _. Option ValueHead) [ Word ↦ null_word t.text | At ↦ Some (heads.Global (record { 0 = name_place t })) | _ ↦ None ]

abbrev pub constant_head : Ty → Tok → Option ValueHead
constant_head ty t = elim ty as (λ _. Option ValueHead) [ types.Int w ↦ option_map heads.Int (integer_of w t) | types.Ptr ↦ pointer_head t | _ ↦ None ]

-- what the first token of a value of the type says
abbrev pub value_head : Ty → Tok → Option ValueHead
value_head ty t = elim t.kind as (λ _. Option ValueHead) [ Local ↦ Some (heads.Reg (record { 0 = name_place t })) | _ ↦ constant_head ty t ]

abbrev pub value_rest : ValueHead → Part Val
value_rest (heads.Reg loc) = gives (values.Reg loc)
value_rest (heads.Int n) = gives (values.Int n)
value_rest heads.Null = gives values.Null
value_rest (heads.Global sym) = gives (values.Global sym)
value_rest heads.Gep = const_gep >>= λ gep. gives (values.Gep gep)

-- a value of the type
unfoldable pub value : Ty → Part Val
value ty = one (value_head ty) >>= value_rest
