-- Lines outside functions, labels and the end of a function are read as they mean.
use Rattle.std.proofs.Common.{ℕ, zero, suc, ◌≡◌, Bool, true, false, List, [], ◌∷◌, length, Option, Some, None, Ok, Err, refl, sym, ap, ◌∙◌}
use Rattle.std.specs.Prelude.{codes, is_some}
use Rattle.ir_core.specs.declared.text.TokKind.{TokKind}
use Rattle.ir_core.specs.declared.text.TokKind.TheVariants.{Word, Local, At, Label, Num, Bytes, Str, Hash, Bang, Punct}
use Rattle.ir_core.specs.declared.types.Ty.{Ty}
use Rattle.ir_core.specs.declared.types.Ty.TheVariants as types
use Rattle.ir_core.specs.declared.values.Init.{Init}
use Rattle.ir_core.specs.declared.values.Init.TheVariants as inits
use Rattle.ir_grammar.specs.declared.heads.AttributeHead.TheVariants.{Whole}
use Rattle.ir_grammar.specs.declared.trees.InitHead.{InitHead}
use Rattle.ir_grammar.specs.declared.trees.InitHead.TheVariants as heads
use Rattle.ir_grammar.specs.declared.trees.TopWord.{TopWord}
use Rattle.ir_grammar.specs.declared.trees.TopWord.TheVariants as words
use Rattle.ir_grammar.specs.declared.trees.TailHead.{TailHead}
use Rattle.ir_grammar.specs.declared.trees.TailHead.TheVariants as tails
use Rattle.ir_grammar.specs.declared.trees.BodyLine.TheVariants as bodies
use Rattle.ir_grammar.specs.Parts.{Tok, Part, gives, one, read_then, ◌>>=◌, read_row, then_chain, read_chain, chain, star, read_seen, seen, heads as starts}
use Rattle.ir_grammar.specs.Tokens.{is_punct, is_local, local_of, known, punct, local, equals, comma, open_paren, close_paren, close_bracket, open_brace, close_brace}
use Rattle.ir_grammar.specs.Words.{in_table, rows_of, linkage_words, attribute_rows}
use Rattle.ir_grammar.specs.Types.{typ, any_depth, any_type, result_type, type_head}
use Rattle.ir_grammar.specs.Values.{symbol, sym_of}
use Rattle.ir_grammar.specs.Tails.{attribute_word, attributes}
use Rattle.ir_grammar.specs.Words.{plain_opcode_word}
use Rattle.ir_grammar.specs.Lines.{instruction, result_line, plain_line, line_without}
use Rattle.ir_grammar.specs.Top.{type_line, flat_init, init_first, typed_init, init_rest, init, linkage_word, linkage, global_word, global_line, tail_head, tail_rest, behind_params, separator, declared_param, param_name, defined_param, params_of, declare_line, define_line, top_word, function_line, word_line, is_at, top_line, label_of, is_label, label_line, end_line, body_line}
use Rattle.ir_grammar.proofs.Reading.{IsRead, Anywhere, AtEnd, Fails, Refuses, gives_law, ends_law, one_law, then_law, then_other, either_head, seen_law}
use Rattle.ir_grammar.proofs.Rows.{star_heads}
use Rattle.ir_grammar.proofs.Chains.{chain_law, Links, links_of}
use Rattle.ir_grammar.proofs.Refusals.{word_token, punct_token, at_punct, at_local, at_entry, unknown, one_refuses, then_refuses, either_refuses}
use Rattle.ir_grammar.proofs.PartLaws.{keyword_law, punct_law, bang_law, local_law, symbol_law, table_law, punct_refuses, listed_law, any_type_law, typ_refuses, typ_at_brace, typ_at_paren, result_type_law, const_gep_law, attributes_law}
use Rattle.ir_grammar.proofs.TailLaws.{aligned_law}
use Rattle.ir_grammar.proofs.Turns.{Turns, turns_of, one_turns}
use Rattle.ir_grammar.proofs.LineLaws.{instruction_law, no_local, result_refuses, linkage_refused}

-- ---- named types

type_line_law : IsRead AtEnd type_line
unfolding type_line
type_line_law = then_law local_law (λ name front m. then_law (punct_law equals) (λ _ front m. then_law (keyword_law (codes "type")) (λ _ front m. then_law (punct_law open_brace) (λ _ front m. then_law (listed_law close_brace any_type_law (λ at. refl) (typ_at_brace any_depth)) (λ parts front m. ends_law _)))))

-- ---- initialisers

abbrev zero_token : Tok
zero_token = word_token (codes "zeroinitializer") 0

type_at_bracket : (t : Tok) → is_punct close_bracket t ≡ true → Refuses any_type t
type_at_bracket t e = typ_refuses any_depth t (at_punct (type_head true) close_bracket (λ at. refl) t e) (at_punct (type_head false) close_bracket (λ at. refl) t e)

module _ (inner : Ty → Part Init) (law : (ty : Ty) → IsRead Anywhere (inner ty)) where
  pub typed_law : IsRead Anywhere (typed_init inner)
  typed_law = then_law any_type_law (λ ty front m. then_law (law ty) (λ i front m. gives_law (ty, i)))

  init_rest_law : (text : List ℕ) (h : InitHead) → IsRead Anywhere (init_rest inner text h)
  init_rest_law text heads.Zero = gives_law _
  init_rest_law text (heads.Int k) = gives_law _
  init_rest_law text heads.Null = gives_law _
  init_rest_law text (heads.Addr sym) = gives_law _
  init_rest_law text heads.Bytes = gives_law _
  init_rest_law text heads.Gep = then_law const_gep_law (λ gep front m. gives_law _)
  init_rest_law text heads.Array = then_law (listed_law close_bracket typed_law (λ at. refl) (λ t e. then_refuses any_type _ t (type_at_bracket t e))) (λ parts front m. gives_law _)
  init_rest_law text heads.Struct = then_law (listed_law close_brace typed_law (λ at. refl) (λ t e. then_refuses any_type _ t (typ_at_brace any_depth t e))) (λ parts front m. gives_law _)

pub init_law : (n : ℕ) (ty : Ty) → IsRead Anywhere (init n ty)
unfolding init
init_law zero ty = one_law (flat_init ty) zero_token inits.Zero refl
init_law (suc n) ty = then_law (one_law (init_first ty) zero_token (heads.Zero, codes "zeroinitializer") refl) (λ x front m. init_rest_law (init n) (init_law n) x.1 x.0)

-- ---- globals

linkage_law : IsRead (Fails (starts (λ t. is_some (in_table linkage_word t)))) linkage
unfolding linkage
linkage_law = seen_law (λ _. true) (star (starts (λ t. is_some (in_table linkage_word t))) (one (in_table linkage_word)))
    (star_heads (λ t. is_some (in_table linkage_word t)) (table_law linkage_word (codes "private") Whole refl) (λ t e. one_refuses (in_table linkage_word) t (unknown (in_table linkage_word) t e)) refl)

pub linkage_turns : Turns (starts (λ t. is_some (in_table linkage_word t))) (one (in_table linkage_word))
linkage_turns = one_turns (in_table linkage_word)

global_line_law : IsRead AtEnd global_line
unfolding global_line
global_line_law = then_law symbol_law (λ sym front m. then_law (punct_law equals) (λ _ front m. then_other (λ t. is_some (in_table linkage_word t)) linkage_law
    (λ _ front m. then_law (table_law global_word (codes "global") true refl) (λ _ front m. then_law any_type_law (λ ty front m. then_law (init_law any_depth ty) (λ i front m. aligned_law _))))
    (λ _ front m t e. then_refuses (one (in_table global_word)) _ t (one_refuses (in_table global_word) t (at_entry (in_table global_word) (rows_of Whole linkage_words) (λ at. refl) t e)))))

-- ---- functions

separator_law : IsRead Anywhere (one separator)
separator_law = one_law separator (punct_token comma 0) true refl

tail_rest_law : (h : TailHead) → IsRead Anywhere (tail_rest h)
tail_rest_law tails.Whole = gives_law true
tail_rest_law tails.Metadata = bang_law

behind_params_law : IsRead (Fails (starts (λ t. is_some (tail_head t)))) behind_params
unfolding behind_params
behind_params_law = seen_law (λ _. true) (star (starts (λ t. is_some (tail_head t))) (one tail_head >>= tail_rest))
    (star_heads (λ t. is_some (tail_head t)) (then_law (one_law tail_head (record { kind = Hash; text = []; at = 0 }) tails.Whole refl) (λ h front m. tail_rest_law h)) (λ t e. then_refuses (one tail_head) tail_rest t (one_refuses tail_head t (unknown tail_head t e))) refl)

pub behind_turns : Turns (starts (λ t. is_some (tail_head t))) (one tail_head >>= tail_rest)
behind_turns = turns_of (starts (λ t. is_some (tail_head t))) (then_law (one_law tail_head (record { kind = Hash; text = []; at = 0 }) tails.Whole refl) (λ h front m. tail_rest_law h)) refl refl

declared_param_law : IsRead Anywhere declared_param
unfolding declared_param
declared_param_law = then_law any_type_law (λ ty front m. then_other (λ t. is_some (in_table (attribute_word false) t)) (attributes_law false)
    (λ _ front m. then_law separator_law (λ more front m. gives_law (ty, more)))
    (λ _ front m t e. then_refuses (one separator) _ t (one_refuses separator t (at_entry separator attribute_rows (λ at. refl) t e))))

param_name_law : IsRead Anywhere param_name
unfolding param_name
param_name_law = either_head is_local
    (then_law local_law (λ name front m. then_law separator_law (λ more front m. gives_law (Some name, more))))
    (then_law separator_law (λ more front m. gives_law (None, more)))
    (λ t e. then_refuses local _ t (one_refuses local_of t (no_local t e)))
    refl
    (λ t e. then_refuses (one separator) _ t (one_refuses separator t (at_local separator (λ text at. refl) t e)))

param_name_refuses : (t : Tok) → is_local t ≡ false → separator t ≡ None → Refuses param_name t
unfolding param_name
param_name_refuses t e h = either_refuses is_local _ _ t e (then_refuses (one separator) _ t (one_refuses separator t h))

-- a word isn't a `%` name
word_no_local : (t : Tok) → is_some (in_table (attribute_word false) t) ≡ true → is_local t ≡ false
word_no_local t e = by (is_local t) refl
  where
    by : (b : Bool) → is_local t ≡ b → b ≡ false
    by false h = refl
    by true h = let k : is_some (in_table (attribute_word false) t) ≡ false = ap is_some (at_local (in_table (attribute_word false)) (λ text at. refl) t h) in let j : false ≡ true = sym k ∙ e in absurd cc

defined_param_law : IsRead Anywhere defined_param
unfolding defined_param
defined_param_law = then_law any_type_law (λ ty front m. then_other (λ t. is_some (in_table (attribute_word false) t)) (attributes_law false)
    (λ _ front m. then_law param_name_law (λ x front m. gives_law ((ty, x.0), x.1)))
    (λ _ front m t e. then_refuses param_name _ t (param_name_refuses t (word_no_local t e) (at_entry separator attribute_rows (λ at. refl) t e))))

chain_refuses : {A : Type 0} (p : Part (A × Bool)) (t : Tok) → Refuses p t → Refuses (chain p) t
unfolding read_chain
chain_refuses p t r more = ap (then_chain (read_chain p (suc (length more)))) (r more)

params_law : {A : Type 0} (p : Part (A × Bool)) → IsRead Anywhere p → p.reads [] ≡ Err 0 → ((t : Tok) → is_punct close_paren t ≡ true → Refuses p t) → (ts : List Tok) (end : A) → p.reads ts ≡ Ok ((end, false), []) → IsRead Anywhere (params_of p)
params_law p law empty refuses ts end e = then_law (punct_law open_paren) (λ _ front m. either_head (is_punct close_paren)
    (then_law (punct_law close_paren) (λ _ front m. gives_law []))
    (let t = law.sound ts [] (end, false) e in chain_law p law empty t.front end t.is)
    (λ t h. then_refuses (punct close_paren) (λ _. gives []) t (punct_refuses close_paren t h))
    refl
    (λ t h. chain_refuses p t (refuses t h)))

-- `ptr )`
abbrev last_param : List Tok
last_param = word_token (codes "ptr") 0 ∷ punct_token close_paren 4 ∷ []

typ_empty : (n : ℕ) → (typ n).reads [] ≡ Err 0
unfolding typ
typ_empty zero = refl
typ_empty (suc n) = refl

typ_ptr : (n : ℕ) (rest : List Tok) → (typ n).reads (word_token (codes "ptr") 0 ∷ rest) ≡ Ok (types.Ptr, rest)
unfolding typ
typ_ptr zero rest = refl
typ_ptr (suc n) rest = refl

declared_param_empty : declared_param.reads [] ≡ Err 0
unfolding declared_param
declared_param_empty = ap (λ r. read_then r (λ ty. attributes false >>= λ _. one separator >>= λ more. gives (ty, more))) (typ_empty any_depth)

defined_param_empty : defined_param.reads [] ≡ Err 0
unfolding defined_param
defined_param_empty = ap (λ r. read_then r (λ ty. attributes false >>= λ _. param_name >>= λ x. gives ((ty, x.0), x.1))) (typ_empty any_depth)

last_declared : declared_param.reads last_param ≡ Ok ((types.Ptr, false), [])
unfolding declared_param attributes read_row
last_declared = ap (λ r. read_then r (λ ty. attributes false >>= λ _. one separator >>= λ more. gives (ty, more))) (typ_ptr any_depth (punct_token close_paren 4 ∷ []))

last_defined : defined_param.reads last_param ≡ Ok (((types.Ptr, None), false), [])
unfolding defined_param param_name attributes read_row
last_defined = ap (λ r. read_then r (λ ty. attributes false >>= λ _. param_name >>= λ x. gives ((ty, x.0), x.1))) (typ_ptr any_depth (punct_token close_paren 4 ∷ []))

declared_at_paren : (t : Tok) → is_punct close_paren t ≡ true → Refuses declared_param t
unfolding declared_param
declared_at_paren t e = then_refuses any_type _ t (typ_at_paren any_depth t e)

defined_at_paren : (t : Tok) → is_punct close_paren t ≡ true → Refuses defined_param t
unfolding defined_param
defined_at_paren t e = then_refuses any_type _ t (typ_at_paren any_depth t e)

declared_params_law : IsRead Anywhere (params_of declared_param)
declared_params_law = params_law declared_param declared_param_law declared_param_empty declared_at_paren last_param types.Ptr last_declared

defined_params_law : IsRead Anywhere (params_of defined_param)
defined_params_law = params_law defined_param defined_param_law defined_param_empty defined_at_paren last_param (types.Ptr, None) last_defined

pub declared_links : Links declared_param
declared_links = links_of declared_param_law declared_param_empty last_param types.Ptr last_declared

pub defined_links : Links defined_param
defined_links = links_of defined_param_law defined_param_empty last_param (types.Ptr, None) last_defined

-- the end of a line and `{` are none of what stands behind the parameters
brace_is_no_tail : (t : Tok) → is_some (tail_head t) ≡ true → known (is_punct open_brace t) ≡ None
brace_is_no_tail t e = by t.kind e
  where
    by : (k : TokKind) → is_some (tail_head (record { kind = k; text = t.text; at = t.at })) ≡ true → known (is_punct open_brace (record { kind = k; text = t.text; at = t.at })) ≡ None
    by Word e = refl
    by Hash e = refl
    by Bang e = refl
    by Local e = absurd cc
    by At e = absurd cc
    by Label e = absurd cc
    by Num e = absurd cc
    by Bytes e = absurd cc
    by Str e = absurd cc
    by Punct e = absurd cc

declare_line_law : IsRead AtEnd declare_line
unfolding declare_line
declare_line_law = then_other (λ t. is_some (in_table (attribute_word true) t)) (attributes_law true)
    (λ _ front m. then_law result_type_law (λ ret front m. then_law symbol_law (λ sym front m. then_law declared_params_law (λ params front m.
    then_other (λ t. is_some (tail_head t)) behind_params_law (λ _ front m. ends_law _) (λ _ front m t e more. refl)))))
    (λ _ front m t e. then_refuses result_type _ t (result_refuses t (linkage_refused t e)))

define_line_law : IsRead AtEnd define_line
unfolding define_line
define_line_law = then_other (λ t. is_some (in_table (attribute_word true) t)) (attributes_law true)
    (λ _ front m. then_law result_type_law (λ ret front m. then_law symbol_law (λ sym front m. then_law defined_params_law (λ params front m.
    then_other (λ t. is_some (tail_head t)) behind_params_law
    (λ _ front m. then_law (punct_law open_brace) (λ _ front m. ends_law _))
    (λ _ front m t e. then_refuses (punct open_brace) _ t (one_refuses (λ t. known (is_punct open_brace t)) t (brace_is_no_tail t e)))))))
    (λ _ front m t e. then_refuses result_type _ t (result_refuses t (linkage_refused t e)))

-- ---- all lines

function_line_law : (word : TopWord) → IsRead AtEnd (function_line word)
function_line_law words.Declare = declare_line_law
function_line_law words.Define = define_line_law

word_line_law : IsRead AtEnd word_line
word_line_law = then_law (table_law top_word (codes "declare") words.Declare refl) (λ word front m. function_line_law word)

no_at : (t : Tok) → is_at t ≡ false → sym_of t ≡ None
no_at t e = by t.kind e
  where
    by : (k : TokKind) → is_at (record { kind = k; text = t.text; at = t.at }) ≡ false → sym_of (record { kind = k; text = t.text; at = t.at }) ≡ None
    by At e = absurd cc
    by Word e = refl
    by Local e = refl
    by Label e = refl
    by Num e = refl
    by Bytes e = refl
    by Str e = refl
    by Hash e = refl
    by Bang e = refl
    by Punct e = refl

at_symbol : {A : Type 0} (table : List ℕ → Option A) (t : Tok) → is_at t ≡ true → in_table table t ≡ None
at_symbol table t e = by t.kind e
  where
    by : (k : TokKind) → is_at (record { kind = k; text = t.text; at = t.at }) ≡ true → in_table table (record { kind = k; text = t.text; at = t.at }) ≡ None
    by At e = refl
    by Word e = absurd cc
    by Local e = absurd cc
    by Label e = absurd cc
    by Num e = absurd cc
    by Bytes e = absurd cc
    by Str e = absurd cc
    by Hash e = absurd cc
    by Bang e = absurd cc
    by Punct e = absurd cc

local_no_at : (t : Tok) → is_local t ≡ true → is_at t ≡ false
local_no_at t e = by t.kind e
  where
    by : (k : TokKind) → is_local (record { kind = k; text = t.text; at = t.at }) ≡ true → is_at (record { kind = k; text = t.text; at = t.at }) ≡ false
    by Local e = refl
    by At e = absurd cc
    by Word e = absurd cc
    by Label e = absurd cc
    by Num e = absurd cc
    by Bytes e = absurd cc
    by Str e = absurd cc
    by Hash e = absurd cc
    by Bang e = absurd cc
    by Punct e = absurd cc

word_line_at_local : (t : Tok) → is_local t ≡ true → Refuses word_line t
word_line_at_local t e = then_refuses (one (in_table top_word)) _ t (one_refuses (in_table top_word) t (at_local (in_table top_word) (λ text at. refl) t e))

global_line_refuses : (t : Tok) → is_at t ≡ false → Refuses global_line t
unfolding global_line
global_line_refuses t e = then_refuses symbol _ t (one_refuses sym_of t (no_at t e))

type_line_refuses : (t : Tok) → is_local t ≡ false → Refuses type_line t
unfolding type_line
type_line_refuses t e = then_refuses local _ t (one_refuses local_of t (no_local t e))

type_line_empty : type_line.reads [] ≡ Err 0
unfolding type_line
type_line_empty = refl

global_line_empty : global_line.reads [] ≡ Err 0
unfolding global_line
global_line_empty = refl

pub top_line_law : IsRead AtEnd top_line
unfolding top_line
top_line_law = either_head is_local type_line_law
    (either_head is_at global_line_law word_line_law global_line_refuses global_line_empty (λ t e. then_refuses (one (in_table top_word)) _ t (one_refuses (in_table top_word) t (at_symbol top_word t e))))
    type_line_refuses type_line_empty
    (λ t e. either_refuses is_at global_line word_line t (local_no_at t e) (word_line_at_local t e))

-- ---- lines inside functions

no_label : (t : Tok) → is_label t ≡ false → label_of t ≡ None
no_label t e = unknown label_of t e

instruction_refuses : (t : Tok) → is_local t ≡ false → in_table plain_opcode_word t ≡ None → Refuses instruction t
unfolding instruction
instruction_refuses t e h = either_refuses is_local result_line plain_line t e (then_refuses (one (in_table plain_opcode_word)) line_without t (one_refuses (in_table plain_opcode_word) t h))

brace_is_no_local : (t : Tok) → is_punct close_brace t ≡ true → is_local t ≡ false
brace_is_no_local t e = by (is_local t) refl
  where
    by : (b : Bool) → is_local t ≡ b → b ≡ false
    by false h = refl
    by true h = let k : known true ≡ None = sym (ap known e) ∙ at_local (λ t. known (is_punct close_brace t)) (λ text at. refl) t h in absurd cc

inst_at_brace : (t : Tok) → is_punct close_brace t ≡ true → Refuses (seen bodies.Inst instruction) t
inst_at_brace t e more = ap (read_seen bodies.Inst) (instruction_refuses t (brace_is_no_local t e) (at_punct (in_table plain_opcode_word) close_brace (λ at. refl) t e) more)

label_is : (t : Tok) → is_label t ≡ true → t.kind ≡ Label
label_is t e = by t.kind e
  where
    by : (k : TokKind) → is_label (record { kind = k; text = t.text; at = t.at }) ≡ true → k ≡ Label
    by Label e = refl
    by Word e = absurd cc
    by Local e = absurd cc
    by At e = absurd cc
    by Num e = absurd cc
    by Bytes e = absurd cc
    by Str e = absurd cc
    by Hash e = absurd cc
    by Bang e = absurd cc
    by Punct e = absurd cc

at_label : {A : Type 0} (pick : Tok → Option A) → ((text : List ℕ) (at : ℕ) → pick (record { kind = Label; text = text; at = at }) ≡ None) → (t : Tok) → is_label t ≡ true → pick t ≡ None
at_label pick none t e = ap (λ (k : TokKind). pick (record { kind = k; text = t.text; at = t.at })) (label_is t e) ∙ none t.text t.at

label_is_no : (test : Tok → Bool) → ((text : List ℕ) (at : ℕ) → test (record { kind = Label; text = text; at = at }) ≡ false) → (t : Tok) → is_label t ≡ true → test t ≡ false
label_is_no test none t e = ap (λ (k : TokKind). test (record { kind = k; text = t.text; at = t.at })) (label_is t e) ∙ none t.text t.at

inst_at_label : (t : Tok) → is_label t ≡ true → Refuses (seen bodies.Inst instruction) t
inst_at_label t e more = ap (read_seen bodies.Inst) (instruction_refuses t (label_is_no is_local (λ text at. refl) t e) (at_label (in_table plain_opcode_word) (λ text at. refl) t e) more)

label_line_law : IsRead AtEnd label_line
label_line_law = then_law (one_law label_of (record { kind = Label; text = []; at = 0 }) (record { 0 = 0 }) refl) (λ at front m. ends_law _)

end_line_law : IsRead AtEnd end_line
end_line_law = then_law (punct_law close_brace) (λ _ front m. ends_law _)

pub body_line_law : IsRead AtEnd body_line
unfolding body_line
body_line_law = either_head is_label label_line_law
    (either_head (is_punct close_brace) end_line_law (seen_law bodies.Inst instruction instruction_law) (λ t e. then_refuses (punct close_brace) _ t (punct_refuses close_brace t e)) refl inst_at_brace)
    (λ t e. then_refuses (one label_of) _ t (one_refuses label_of t (no_label t e))) refl
    (λ t e. either_refuses (is_punct close_brace) end_line (seen bodies.Inst instruction) t (label_is_no (is_punct close_brace) (λ text at. refl) t e) (inst_at_label t e))
