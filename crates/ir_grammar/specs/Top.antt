-- Lines outside functions, labels, and the end of a function (LLVM Language Reference, 'Module Structure', 'Functions',
-- 'Global Variables', 'Structure Types').
--
-- Choices: as in `Lines`, a name is told by the place where it begins. A parameter without a name has none here; which
-- one it takes is said where functions are put together. Words of linkage, attributes and what stands behind the
-- parameters are read and dropped.
use Rattle.std.specs.Prelude.{ℕ, zero, suc, ◌==◌, Bool, true, false, List, [], ◌∷◌, length, codes, Option, Some, None, option_map, option_and_then, is_some, if◌then◌else◌}
use Rattle.std.specs.Str.{bytes_eq}
use Rattle.std.specs.Option.{option_map_or}
use Rattle.ir_core.specs.declared.text.TokKind.TheVariants.{Word, At, Label, Bytes, Hash, Bang, Punct}
use Rattle.ir_core.specs.declared.types.Width.{Width}
use Rattle.ir_core.specs.declared.types.Width.TheVariants.{W8}
use Rattle.ir_core.specs.declared.types.Loc.{Loc}
use Rattle.ir_core.specs.declared.types.Ty.{Ty, fold-Ty}
use Rattle.ir_core.specs.declared.types.Ty.TheOpen.{Ty-F}
use Rattle.ir_core.specs.declared.types.Ty.TheVariants as types
use Rattle.ir_core.specs.declared.values.Init.{Init}
use Rattle.ir_core.specs.declared.values.Init.TheVariants as inits
use Rattle.ir_core.specs.Strings.{string_bytes, between_quotes}
use Rattle.ir_grammar.specs.declared.heads.AttributeHead.{AttributeHead}
use Rattle.ir_grammar.specs.declared.heads.AttributeHead.TheVariants.{Whole}
use Rattle.ir_grammar.specs.declared.heads.ValueHead.{ValueHead}
use Rattle.ir_grammar.specs.declared.heads.ValueHead.TheVariants as values
use Rattle.ir_grammar.specs.declared.trees.InitHead.{InitHead}
use Rattle.ir_grammar.specs.declared.trees.InitHead.TheVariants as heads
use Rattle.ir_grammar.specs.declared.trees.TopWord.{TopWord}
use Rattle.ir_grammar.specs.declared.trees.TopWord.TheVariants as words
use Rattle.ir_grammar.specs.declared.trees.TailHead.{TailHead}
use Rattle.ir_grammar.specs.declared.trees.TailHead.TheVariants as tails
use Rattle.ir_grammar.specs.declared.trees.TopLine.{TopLine}
use Rattle.ir_grammar.specs.declared.trees.TopLine.TheVariants as tops
use Rattle.ir_grammar.specs.declared.trees.BodyLine.{BodyLine}
use Rattle.ir_grammar.specs.declared.trees.BodyLine.TheVariants as bodies
use Rattle.ir_grammar.specs.Parts.{Tok, Part, gives, ends, one, ◌>>=◌, either, chain, skipped, seen, heads as starts}
use Rattle.ir_grammar.specs.Tokens.{is_punct, is_local, keyword, punct, bang, local, equals, open_paren, close_paren, close_bracket, open_brace, close_brace}
use Rattle.ir_grammar.specs.Words.{entry, in_table, rows_of, linkage_words}
use Rattle.ir_grammar.specs.Types.{any_depth, any_type, result_type, listed}
use Rattle.ir_grammar.specs.Values.{symbol, constant_head, const_gep}
use Rattle.ir_grammar.specs.Tails.{attributes, aligned}
use Rattle.ir_grammar.specs.Lines.{instruction}

-- ---- named types

-- `%T = type { T, .. }`
unfoldable pub type_line : Part TopLine
type_line = local >>= λ name. punct equals >>= λ _. keyword (codes "type") >>= λ _. punct open_brace >>= λ _. listed close_brace any_type >>= λ parts. ends (tops.Type (record { 0 = name.0 }) (types.Struct parts))

-- ---- initialisers

-- a constant that is no part of an instruction
abbrev pub of_value : ValueHead → Option InitHead
of_value (values.Reg loc) = None
of_value (values.Int n) = Some (heads.Int n)
of_value values.Null = Some heads.Null
of_value (values.Global sym) = Some (heads.Addr sym)
of_value values.Gep = Some heads.Gep

abbrev pub is_byte : Width → Bool
is_byte w = elim w as (λ _. Bool) [ W8 ↦ true | _ ↦ false ]

-- whether a type is `i8`, and how many `i8` it is an array of, from the same of its parts
abbrev pub bytes_step : Ty-F (Bool × Option ℕ) → Bool × Option ℕ
bytes_step (Ty-F.Int w) = (is_byte w, None)
bytes_step (Ty-F.Array n element) = (false, if element.0 then Some n else None)
bytes_step ty = (false, None)

-- how many `i8` the type is an array of
abbrev pub bytes_in : Ty → Option ℕ
bytes_in ty = (fold-Ty (Bool × Option ℕ) bytes_step ty).1

-- the type is an array of so many `i8`
abbrev pub is_string : Ty → ℕ → Bool
is_string ty len = option_map_or (λ n. n == len) (bytes_in ty) false

abbrev pub zero_or : Option InitHead → List ℕ → Option InitHead
zero_or other word = if bytes_eq word (codes "zeroinitializer") then Some heads.Zero else other

abbrev pub parts_of : List ℕ → Option InitHead
parts_of = entry ((codes "[", heads.Array) ∷ (codes "{", heads.Struct) ∷ [])

-- what the first token of an initialiser of the type says
abbrev pub init_head : Ty → Tok → Option InitHead
init_head ty t = elim t.kind as (λ _. Option InitHead) [ Word ↦ zero_or (option_and_then of_value (constant_head ty t)) t.text | Bytes ↦ if is_string ty (length (string_bytes (between_quotes t.text))) then Some heads.Bytes else None | Punct ↦ parts_of t.text | _ ↦ option_and_then of_value (constant_head ty t) ]

-- an initialiser of one token; the text is the token's
abbrev pub whole_init : List ℕ → InitHead → Option Init
whole_init text heads.Zero = Some inits.Zero
whole_init text (heads.Int n) = Some (inits.Int n)
whole_init text heads.Null = Some inits.Null
whole_init text (heads.Addr sym) = Some (inits.Addr sym)
whole_init text heads.Bytes = Some (inits.Bytes (string_bytes (between_quotes text)))
whole_init text heads.Gep = None
whole_init text heads.Array = None
whole_init text heads.Struct = None

abbrev pub flat_init : Ty → Tok → Option Init
flat_init ty t = option_and_then (whole_init t.text) (init_head ty t)

-- a first token, with its text
abbrev pub init_first : Ty → Tok → Option (InitHead × List ℕ)
init_first ty t = option_map (λ head. (head, t.text)) (init_head ty t)

-- `T INIT`
abbrev pub typed_init : (Ty → Part Init) → Part (Ty × Init)
typed_init init = any_type >>= λ ty. init ty >>= λ i. gives (ty, i)

-- the rest of an initialiser behind its first token, by the initialisers that may stand in its brackets
abbrev pub init_rest : (Ty → Part Init) → List ℕ → InitHead → Part Init
init_rest init text heads.Zero = gives inits.Zero
init_rest init text (heads.Int n) = gives (inits.Int n)
init_rest init text heads.Null = gives inits.Null
init_rest init text (heads.Addr sym) = gives (inits.Addr sym)
init_rest init text heads.Bytes = gives (inits.Bytes (string_bytes (between_quotes text)))
init_rest init text heads.Gep = const_gep >>= λ gep. gives (inits.Gep gep)
init_rest init text heads.Array = listed close_bracket (typed_init init) >>= λ parts. gives (inits.Parts parts)
init_rest init text heads.Struct = listed close_brace (typed_init init) >>= λ parts. gives (inits.Parts parts)

-- an initialiser of the type, with so many lists of parts at most inside one another
unfoldable pub init : ℕ → Ty → Part Init
init zero ty = one (flat_init ty)
init (suc n) ty = one (init_first ty) >>= λ x. init_rest (init n) x.1 x.0

-- ---- globals

abbrev pub linkage_word : List ℕ → Option AttributeHead
linkage_word = entry (rows_of Whole linkage_words)

-- words of linkage, any number of them
unfoldable pub linkage : Part Bool
linkage = skipped (starts (λ t. is_some (in_table linkage_word t))) (one (in_table linkage_word))

-- `constant` is read as `global`
abbrev pub global_word : List ℕ → Option Bool
global_word = entry ((codes "global", true) ∷ (codes "constant", true) ∷ [])

-- `@g = [words] global T INIT [, align N]`
unfoldable pub global_line : Part TopLine
global_line = symbol >>= λ sym. punct equals >>= λ _. linkage >>= λ _. one (in_table global_word) >>= λ _. any_type >>= λ ty. init any_depth ty >>= λ i. aligned (tops.Global (record { sym = sym; ty = ty; init = i }))

-- ---- functions

abbrev pub tail_word : List ℕ → Option TailHead
tail_word = entry ((codes "unnamed_addr", tails.Whole) ∷ (codes "local_unnamed_addr", tails.Whole) ∷ [])

abbrev pub tail_head : Tok → Option TailHead
tail_head t = elim t.kind as (λ _. Option TailHead) [ Word ↦ tail_word t.text | Hash ↦ Some tails.Whole | Bang ↦ Some tails.Metadata | _ ↦ None ]

abbrev pub tail_rest : TailHead → Part Bool
tail_rest tails.Whole = gives true
tail_rest tails.Metadata = bang

-- what may stand behind the parameters
unfoldable pub behind_params : Part Bool
behind_params = skipped (starts (λ t. is_some (tail_head t))) (one tail_head >>= tail_rest)

-- `,` before another parameter, or `)` behind the last one
abbrev pub separator : Tok → Option Bool
separator t = elim t.kind as (λ _. Option Bool) [ Punct ↦ entry ((codes ",", true) ∷ (codes ")", false) ∷ []) t.text | _ ↦ None ]

-- `T [attrs] ,` or `T [attrs] )`
unfoldable pub declared_param : Part (Ty × Bool)
declared_param = any_type >>= λ ty. attributes false >>= λ _. one separator >>= λ more. gives (ty, more)

-- `[%x] ,` or `[%x] )`
unfoldable pub param_name : Part (Option Loc × Bool)
param_name = either (starts is_local) (local >>= λ name. one separator >>= λ more. gives (Some name, more)) (one separator >>= λ more. gives (None, more))

-- `T [attrs] [%x] ,` or `T [attrs] [%x] )`
unfoldable pub defined_param : Part ((Ty × Option Loc) × Bool)
defined_param = any_type >>= λ ty. attributes false >>= λ _. param_name >>= λ x. gives ((ty, x.0), x.1)

-- parameters in parentheses
abbrev pub params_of : {A : Type 0} → Part (A × Bool) → Part (List A)
params_of param = punct open_paren >>= λ _. either (starts (is_punct close_paren)) (punct close_paren >>= λ _. gives []) (chain param)

-- `declare [words] [attrs] T @f ( T [attrs], .. ) [tail words]`, behind its first word
unfoldable pub declare_line : Part TopLine
declare_line =
    attributes true >>= λ _. result_type >>= λ ret. symbol >>= λ sym. params_of declared_param >>= λ params. behind_params >>= λ _.
    ends (tops.Declare (record { sym = sym; ret = ret; params = params }))

-- `define [words] [attrs] T @f ( T [attrs] [%x], .. ) [tail words] {`, behind its first word
unfoldable pub define_line : Part TopLine
define_line =
    attributes true >>= λ _. result_type >>= λ ret. symbol >>= λ sym. params_of defined_param >>= λ params. behind_params >>= λ _. punct open_brace >>= λ _.
    ends (tops.Define (record { sym = sym; ret = ret; params = params }))

-- ---- all lines outside functions

abbrev pub top_word : List ℕ → Option TopWord
top_word = entry ((codes "declare", words.Declare) ∷ (codes "define", words.Define) ∷ [])

abbrev pub function_line : TopWord → Part TopLine
function_line words.Declare = declare_line
function_line words.Define = define_line

abbrev pub word_line : Part TopLine
word_line = one (in_table top_word) >>= function_line

abbrev pub is_at : Tok → Bool
is_at t = elim t.kind as (λ _. Bool) [ At ↦ true | _ ↦ false ]

-- a line outside functions
unfoldable pub top_line : Part TopLine
top_line = either (starts is_local) type_line (either (starts is_at) global_line word_line)

-- ---- lines inside functions

-- a label: its name begins where the token does
abbrev pub label_of : Tok → Option Loc
label_of t = elim t.kind as (λ _. Option Loc) [ Label ↦ Some (record { 0 = t.at }) | _ ↦ None ]

abbrev pub is_label : Tok → Bool
is_label t = is_some (label_of t)

abbrev pub label_line : Part BodyLine
label_line = one label_of >>= λ at. ends (bodies.Label at)

abbrev pub end_line : Part BodyLine
end_line = punct close_brace >>= λ _. ends bodies.End

-- a line inside a function
unfoldable pub body_line : Part BodyLine
body_line = either (starts is_label) label_line (either (starts (is_punct close_brace)) end_line (seen bodies.Inst instruction))
