-- Types as a line writes them (LLVM Language Reference, 'Type System').
--
-- Choices: a name stands for the place where it begins; what its number is, is said where names are numbered.
-- `void` is a type of results alone.
use Rattle.std.specs.Prelude.{ℕ, zero, suc, ◌^◌, Bool, true, false, List, [], ◌∷◌, codes, Option, Some, None, option_map, option_and_then, if◌then◌else◌}
use Rattle.std.specs.Str.{bytes_eq}
use Rattle.ir_core.specs.declared.text.TokKind.TheVariants.{Word, Local, Punct}
use Rattle.ir_core.specs.declared.types.Width.{Width}
use Rattle.ir_core.specs.declared.types.Width.TheVariants.{W1, W8, W16, W32, W64}
use Rattle.ir_core.specs.declared.types.Ty.{Ty}
use Rattle.ir_core.specs.declared.types.Ty.TheVariants as types
use Rattle.ir_core.specs.declared.instruction.RmwOp.{RmwOp}
use Rattle.ir_core.specs.declared.instruction.RmwOp.TheVariants as rmw
use Rattle.ir_grammar.specs.declared.heads.TypeHead.{TypeHead}
use Rattle.ir_grammar.specs.declared.heads.TypeHead.TheVariants as heads
use Rattle.ir_grammar.specs.declared.heads.ResultHead.{ResultHead}
use Rattle.ir_grammar.specs.declared.heads.ResultHead.TheVariants as results
use Rattle.ir_grammar.specs.Parts.{Tok, Part, gives, one, ◌>>=◌, either, more, heads as starts}
use Rattle.ir_grammar.specs.Tokens.{is_punct, name_place, keyword, punct, comma, close_bracket, close_brace}
use Rattle.ir_grammar.specs.Numbers.{count}
use Rattle.ir_grammar.specs.Words.{entry, in_table}

-- ---- types of one word

-- the integer types
abbrev pub width_word : List ℕ → Option Width
width_word = entry ((codes "i1", W1) ∷ (codes "i8", W8) ∷ (codes "i16", W16) ∷ (codes "i32", W32) ∷ (codes "i64", W64) ∷ [])

-- the integer types and `ptr`
abbrev pub scalar_word : List ℕ → Option Ty
scalar_word = entry ((codes "i1", types.Int W1) ∷ (codes "i8", types.Int W8) ∷ (codes "i16", types.Int W16) ∷ (codes "i32", types.Int W32) ∷ (codes "i64", types.Int W64) ∷ (codes "ptr", types.Ptr) ∷ [])

-- the types that memory is read and written by
abbrev pub memory_word : List ℕ → Option Ty
memory_word = entry ((codes "i8", types.Int W8) ∷ (codes "i16", types.Int W16) ∷ (codes "i32", types.Int W32) ∷ (codes "i64", types.Int W64) ∷ (codes "ptr", types.Ptr) ∷ [])

-- integers in memory
abbrev pub number_word : List ℕ → Option Ty
number_word = entry ((codes "i8", types.Int W8) ∷ (codes "i16", types.Int W16) ∷ (codes "i32", types.Int W32) ∷ (codes "i64", types.Int W64) ∷ [])

-- the types of an `atomicrmw`: `ptr` with `xchg` alone
abbrev pub rmw_type_word : RmwOp → List ℕ → Option Ty
rmw_type_word op = elim op as (λ _. List ℕ → Option Ty) [ rmw.Xchg ↦ memory_word | _ ↦ number_word ]

abbrev pub width : Part Width
width = one (in_table width_word)

abbrev pub scalar : Part Ty
scalar = one (in_table scalar_word)

abbrev pub memory_type : Part Ty
memory_type = one (in_table memory_word)

abbrev pub rmw_type : RmwOp → Part Ty
rmw_type op = one (in_table (rmw_type_word op))

-- the word of a type of one word, where a form has the same type again
abbrev pub width_text : Width → List ℕ
width_text W1 = codes "i1"
width_text W8 = codes "i8"
width_text W16 = codes "i16"
width_text W32 = codes "i32"
width_text W64 = codes "i64"

abbrev pub scalar_text : Ty → List ℕ
scalar_text ty = elim ty as (λ _. List ℕ) [ types.Int w ↦ width_text w | _ ↦ codes "ptr" ]

-- ---- all types

abbrev pub type_word : List ℕ → Option TypeHead
type_word = entry ((codes "i1", heads.Int W1) ∷ (codes "i8", heads.Int W8) ∷ (codes "i16", heads.Int W16) ∷ (codes "i32", heads.Int W32) ∷ (codes "i64", heads.Int W64) ∷ (codes "ptr", heads.Ptr) ∷ [])

-- `[` or `{`, where one more bracket may be opened
abbrev pub bracket : Bool → List ℕ → Option TypeHead
bracket may_open text = if may_open then entry ((codes "[", heads.Array) ∷ (codes "{", heads.Struct) ∷ []) text else None

abbrev pub type_head : Bool → Tok → Option TypeHead
type_head may_open t = elim t.kind as (λ _. Option TypeHead) [ Word ↦ type_word t.text | Local ↦ Some (heads.Named (record { 0 = name_place t })) | Punct ↦ bracket may_open t.text | _ ↦ None ]

-- values, and behind them those of further parts behind commas
abbrev pub more_listed : {A : Type 0} → List A → Part A → Part (List A)
more_listed values part = more values (starts (is_punct comma)) (punct comma >>= λ _. part)

-- a part in brackets, any number of times with commas between
abbrev pub listed : {A : Type 0} → ℕ → Part A → Part (List A)
listed close part = either (starts (is_punct close)) (punct close >>= λ _. gives []) (part >>= λ a. more_listed (a ∷ []) part >>= λ all. punct close >>= λ _. gives all)

-- the rest of a type behind its first token, by the type of what stands in its brackets
abbrev pub type_rest : Part Ty → TypeHead → Part Ty
type_rest inner (heads.Int w) = gives (types.Int w)
type_rest inner heads.Ptr = gives types.Ptr
type_rest inner (heads.Named id) = gives (types.Named id)
type_rest inner heads.Array = count (2 ^ 32) >>= λ n. keyword (codes "x") >>= λ _. inner >>= λ element. punct close_bracket >>= λ _. gives (types.Array n element)
type_rest inner heads.Struct = listed close_brace inner >>= λ parts. gives (types.Struct parts)

-- a type without brackets, by its one token
abbrev pub flat : TypeHead → Option Ty
flat (heads.Int w) = Some (types.Int w)
flat heads.Ptr = Some types.Ptr
flat (heads.Named id) = Some (types.Named id)
flat heads.Array = None
flat heads.Struct = None

abbrev pub flat_type : Tok → Option Ty
flat_type t = option_and_then flat (type_head false t)

-- a type, with so many brackets at most inside one another
unfoldable pub typ : ℕ → Part Ty
typ zero = one flat_type
typ (suc n) = one (type_head true) >>= type_rest (typ n)

-- How deep types and initialisers may be nested: as deep as the longest line that is read has bytes, and far deeper than
-- brackets may stand open (`Fitting`). So this is no limit, and the forms say nothing of how many brackets stand open.
abbrev pub any_depth : ℕ
any_depth = 4194304

abbrev pub any_type : Part Ty
any_type = typ any_depth

-- the type of a result
abbrev pub result_head : Tok → Option ResultHead
result_head t = elim t.kind as (λ _. Option ResultHead) [ Word ↦ if bytes_eq t.text (codes "void") then Some results.Void else option_map results.Some (type_word t.text) | _ ↦ option_map results.Some (type_head true t) ]

abbrev pub result_rest : ResultHead → Part Ty
result_rest results.Void = gives types.Void
result_rest (results.Some head) = type_rest any_type head

unfoldable pub result_type : Part Ty
result_type = one result_head >>= result_rest
