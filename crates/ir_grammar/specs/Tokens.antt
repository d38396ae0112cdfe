-- Single tokens, and the parts that they are.
use Rattle.std.specs.Prelude.{ℕ, ◌+◌, Bool, true, false, List, [], ◌∷◌, Option, Some, None, ◌-◌, take, drop, map}
use Rattle.std.specs.Str.{bytes_eq}
use Rattle.std.specs.List.{list_any}
use Rattle.ir_core.specs.declared.text.Token.{Token}
use Rattle.ir_core.specs.declared.text.TokKind.TheVariants.{Word, Local, Hash, Bang, Punct}
use Rattle.ir_core.specs.declared.types.Loc.{Loc}
use Rattle.ir_grammar.specs.Parts.{Tok, Part, one}

-- a token of a text, with its own text
abbrev pub token_of : List ℕ → Token → Tok
token_of text t = record { kind = t.kind; text = take (t.end - t.start) (drop t.start text); at = t.start }

abbrev pub tokens_of : List ℕ → List Token → List Tok
tokens_of text tokens = map (token_of text) tokens

-- the text of a token that is a word
abbrev pub word_of : Tok → Option (List ℕ)
word_of t = elim t.kind as (λ _. Option (List ℕ)) [ Word ↦ Some t.text | _ ↦ None ]

-- the token is a word, and of these
abbrev pub is_word_of : List (List ℕ) → Tok → Bool
is_word_of words t = elim t.kind as (λ _. Bool) [ Word ↦ list_any (bytes_eq t.text) words | _ ↦ false ]

abbrev pub is_word : List ℕ → Tok → Bool
is_word word t = elim t.kind as (λ _. Bool) [ Word ↦ bytes_eq t.text word | _ ↦ false ]

abbrev pub is_punct : ℕ → Tok → Bool
is_punct byte t = elim t.kind as (λ _. Bool) [ Punct ↦ bytes_eq t.text (byte ∷ []) | _ ↦ false ]

abbrev pub is_bang : Tok → Bool
is_bang t = elim t.kind as (λ _. Bool) [ Bang ↦ true | _ ↦ false ]

abbrev pub is_hash : Tok → Bool
is_hash t = elim t.kind as (λ _. Bool) [ Hash ↦ true | _ ↦ false ]

abbrev pub is_local : Tok → Bool
is_local t = elim t.kind as (λ _. Bool) [ Local ↦ true | _ ↦ false ]

-- Where the name of a `%` or `@` token begins. In what a line stands for, this place tells the name.
abbrev pub name_place : Tok → ℕ
name_place t = t.at + 1

abbrev pub local_of : Tok → Option Loc
local_of t = elim t.kind as (λ _. Option Loc) [ Local ↦ Some (record { 0 = name_place t }) | _ ↦ None ]

-- a test as something that is known or not
abbrev pub known : Bool → Option Bool
known true = Some true
known false = None

-- the word, this punctuation, a `!` name
abbrev pub keyword : List ℕ → Part Bool
keyword word = one (λ t. known (is_word word t))

abbrev pub punct : ℕ → Part Bool
punct byte = one (λ t. known (is_punct byte t))

abbrev pub bang : Part Bool
bang = one (λ t. known (is_bang t))

-- a register or a label
abbrev pub local : Part Loc
local = one local_of

-- punctuation, by its bytes: `=`, `,`, `(`, `)`, `[`, `]`, `{`, `}`
abbrev pub equals : ℕ
equals = 61

abbrev pub comma : ℕ
comma = 44

abbrev pub open_paren : ℕ
open_paren = 40

abbrev pub close_paren : ℕ
close_paren = 41

abbrev pub open_bracket : ℕ
open_bracket = 91

abbrev pub close_bracket : ℕ
close_bracket = 93

abbrev pub open_brace : ℕ
open_brace = 123

abbrev pub close_brace : ℕ
close_brace = 125
