-- The named parts of a line are read as they mean.
use Rattle.std.proofs.Common.{ℕ, zero, suc, ◌^◌, ◌≡◌, Bool, true, false, List, [], ◌∷◌, Option, Some, None, refl, sym, ap}
use Rattle.std.specs.Prelude.{codes, is_some, is_none, option_and_then, fold, if◌then◌else◌}
use Rattle.std.specs.List.{list_all}
use Rattle.std.specs.Str.{bytes_eq}
use Rattle.std.proofs.lemmas.Slice.Eq.{bytes_eq-Decides}
use Rattle.ir_core.specs.declared.text.TokKind.TheVariants.{Local, At, Num, Bang}
use Rattle.ir_core.specs.declared.types.Width.{Width}
use Rattle.ir_core.specs.declared.types.Width.TheVariants.{W1, W8, W16, W32, W64}
use Rattle.ir_core.specs.declared.types.Ty.{Ty}
use Rattle.ir_core.specs.declared.types.Ty.TheVariants as types
use Rattle.ir_core.specs.declared.instruction.RmwOp.{RmwOp}
use Rattle.ir_core.specs.declared.instruction.RmwOp.TheVariants as rmw
use Rattle.ir_grammar.specs.declared.heads.TypeHead.{TypeHead}
use Rattle.ir_grammar.specs.declared.heads.TypeHead.TheVariants as heads
use Rattle.ir_grammar.specs.declared.heads.ResultHead.{ResultHead}
use Rattle.ir_grammar.specs.declared.heads.ResultHead.TheVariants as results
use Rattle.ir_grammar.specs.declared.heads.ValueHead.{ValueHead}
use Rattle.ir_grammar.specs.declared.heads.ValueHead.TheVariants as values
use Rattle.ir_grammar.specs.declared.heads.Flag.{Flag}
use Rattle.ir_grammar.specs.declared.heads.FlagSet.{FlagSet}
use Rattle.ir_grammar.specs.declared.heads.FlagSet.TheVariants.{Gep}
use Rattle.ir_grammar.specs.declared.heads.AttributeHead.{AttributeHead}
use Rattle.ir_grammar.specs.declared.heads.AttributeHead.TheVariants.{Whole, Align, Sized, Captures}
use Rattle.ir_grammar.specs.Parts.{Tok, Part, gives, one, all_of, ◌>>=◌, star, heads as starts}
use Rattle.ir_grammar.specs.Tokens.{word_of, is_word, is_punct, known, keyword, punct, bang, local, local_of, comma, open_paren, close_paren, close_bracket, close_brace}
use Rattle.ir_grammar.specs.Numbers.{decimal, count, count_of}
use Rattle.ir_grammar.specs.Words.{entry, in_table, gep_flags, flag_rows, flag_of, with_flag, no_flags, flags}
use Rattle.ir_grammar.specs.Types.{width_word, scalar_word, memory_word, rmw_type_word, width, scalar, memory_type, rmw_type, type_head, listed, type_rest, flat, flat_type, typ, any_depth, any_type, result_head, result_rest, result_type}
use Rattle.ir_grammar.specs.Values.{integer_of, integer, symbol, sym_of, constant_index, const_operands, const_gep, value_head, value_rest, value}
use Rattle.ir_grammar.specs.Tails.{order, order_of, attribute_rest, attribute_word, attribute, attributes}
use Rattle.ir_grammar.proofs.Reading.{IsRead, Anywhere, Fails, Refuses, gives_law, one_law, then_law, then_other, either_head, seen_law}
use Rattle.ir_grammar.proofs.Rows.{star_heads, none_of_law}
use Rattle.ir_grammar.proofs.Refusals.{word_token, punct_token, at_punct, at_entry, unknown, not_known, one_refuses, then_refuses}

-- ---- single tokens

same_text : (text : List ℕ) → bytes_eq text text ≡ true
same_text text = (bytes_eq-Decides text text).1 refl

pub keyword_law : (word : List ℕ) → IsRead Anywhere (keyword word)
keyword_law word = one_law (λ t. known (is_word word t)) (word_token word 0) true (ap known (same_text word))

pub punct_law : (byte : ℕ) → IsRead Anywhere (punct byte)
punct_law byte = one_law (λ t. known (is_punct byte t)) (punct_token byte 0) true (ap known (same_text (byte ∷ [])))

pub bang_law : IsRead Anywhere bang
bang_law = one_law _ (record { kind = Bang; text = []; at = 0 }) true refl

pub local_law : IsRead Anywhere local
local_law = one_law local_of (record { kind = Local; text = []; at = 0 }) (record { 0 = 1 }) refl

pub symbol_law : IsRead Anywhere symbol
symbol_law = one_law sym_of (record { kind = At; text = []; at = 0 }) (record { 0 = 1 }) refl

-- a word of a table
pub table_law : {A : Type 0} (table : List ℕ → Option A) (word : List ℕ) (a : A) → table word ≡ Some a → IsRead Anywhere (one (in_table table))
table_law table word a e = one_law (in_table table) (word_token word 0) a e

pub width_law : IsRead Anywhere width
width_law = table_law width_word (codes "i1") W1 refl

pub scalar_law : IsRead Anywhere scalar
scalar_law = table_law scalar_word (codes "ptr") types.Ptr refl

pub memory_type_law : IsRead Anywhere memory_type
memory_type_law = table_law memory_word (codes "ptr") types.Ptr refl

pub rmw_type_law : (op : RmwOp) → IsRead Anywhere (rmw_type op)
rmw_type_law op = table_law (rmw_type_word op) (codes "i8") (types.Int W8) (by op)
  where
    by : (op : RmwOp) → rmw_type_word op (codes "i8") ≡ Some (types.Int W8)
    by rmw.Xchg = refl
    by rmw.Add = refl
    by rmw.Sub = refl
    by rmw.And = refl
    by rmw.Or = refl
    by rmw.Xor = refl
    by rmw.Nand = refl
    by rmw.Max = refl
    by rmw.Min = refl
    by rmw.Umax = refl
    by rmw.Umin = refl

pub integer_law : (w : Width) → IsRead Anywhere (integer w)
unfolding decimal
integer_law w = one_law (integer_of w) (record { kind = Num; text = codes "0"; at = 0 }) 0 (by w)
  where
    by : (w : Width) → integer_of w (record { kind = Num; text = codes "0"; at = 0 }) ≡ Some 0
    by W1 = refl
    by W8 = refl
    by W16 = refl
    by W32 = refl
    by W64 = refl

pub count_law : (limit : ℕ) → count_of limit (record { kind = Num; text = codes "0"; at = 0 }) ≡ Some 0 → IsRead Anywhere (count limit)
count_law limit e = one_law (count_of limit) (record { kind = Num; text = codes "0"; at = 0 }) 0 e

pub wide_count_law : IsRead Anywhere (count (2 ^ 64))
unfolding decimal
wide_count_law = count_law (2 ^ 64) refl

-- ---- lists

pub punct_refuses : (byte : ℕ) (t : Tok) → is_punct byte t ≡ false → Refuses (punct byte) t
punct_refuses byte t e = one_refuses (λ t. known (is_punct byte t)) t (not_known (is_punct byte t) e)

-- parts behind commas
pub comma_row_law : {A : Type 0} {p : Part A} → IsRead Anywhere p → IsRead (Fails (starts (is_punct comma))) (star (starts (is_punct comma)) (punct comma >>= λ _. p))
comma_row_law {A} {p} law = star_heads (is_punct comma) (then_law (punct_law comma) (λ _ front m. law)) (λ t e. then_refuses (punct comma) (λ _. p) t (punct_refuses comma t e)) refl

-- another punctuation isn't a comma
closes : {B : Type 0} (close : ℕ) (k : Bool → Part B) → ((at : ℕ) → known (is_punct close (punct_token comma at)) ≡ None) → (t : Tok) → is_punct comma t ≡ true → Refuses (punct close >>= k) t
closes close k none t e = then_refuses (punct close) k t (one_refuses (λ t. known (is_punct close t)) t (at_punct (λ t. known (is_punct close t)) comma none t e))

pub listed_law : {A : Type 0} (close : ℕ) {p : Part A} → IsRead Anywhere p → ((at : ℕ) → known (is_punct close (punct_token comma at)) ≡ None) → ((t : Tok) → is_punct close t ≡ true → Refuses p t) → IsRead Anywhere (listed close p)
listed_law {A} close {p} law none refuses =
    either_head (is_punct close)
    (then_law (punct_law close) (λ _ front m. gives_law []))
    (then_law law (λ a front m. then_other (is_punct comma) (seen_law (λ others. a ∷ others) _ (comma_row_law law)) (λ all front m. then_law (punct_law close) (λ _ front m. gives_law all)) (λ all front m t e. closes close (λ _. gives all) none t e)))
    (λ t e. then_refuses (punct close) (λ _. gives []) t (punct_refuses close t e))
    refl
    (λ t e. then_refuses p _ t (refuses t e))

-- ---- types

no_flat : (o : Option TypeHead) → o ≡ None → option_and_then flat o ≡ None
no_flat o e = ap (option_and_then flat) e

pub typ_refuses : (n : ℕ) (t : Tok) → type_head true t ≡ None → type_head false t ≡ None → Refuses (typ n) t
unfolding typ
typ_refuses zero t e h = one_refuses flat_type t (no_flat (type_head false t) h)
typ_refuses (suc n) t e h = then_refuses (one (type_head true)) _ t (one_refuses (type_head true) t e)

-- a type doesn't begin with a closing brace or parenthesis
pub typ_at_brace : (n : ℕ) (t : Tok) → is_punct close_brace t ≡ true → Refuses (typ n) t
typ_at_brace n t e = typ_refuses n t (at_punct (type_head true) close_brace (λ at. refl) t e) (at_punct (type_head false) close_brace (λ at. refl) t e)

pub typ_at_paren : (n : ℕ) (t : Tok) → is_punct close_paren t ≡ true → Refuses (typ n) t
typ_at_paren n t e = typ_refuses n t (at_punct (type_head true) close_paren (λ at. refl) t e) (at_punct (type_head false) close_paren (λ at. refl) t e)

array_count_law : IsRead Anywhere (count (2 ^ 32))
unfolding decimal
array_count_law = count_law (2 ^ 32) refl

type_rest_law : (inner : Part Ty) → IsRead Anywhere inner → ((t : Tok) → is_punct close_brace t ≡ true → Refuses inner t) → (h : TypeHead) → IsRead Anywhere (type_rest inner h)
type_rest_law inner law refuses (heads.Int w) = gives_law (types.Int w)
type_rest_law inner law refuses heads.Ptr = gives_law types.Ptr
type_rest_law inner law refuses (heads.Named id) = gives_law (types.Named id)
type_rest_law inner law refuses heads.Array = then_law array_count_law (λ n front m. then_law (keyword_law (codes "x")) (λ _ front m. then_law law (λ e front m. then_law (punct_law close_bracket) (λ _ front m. gives_law (types.Array n e)))))
type_rest_law inner law refuses heads.Struct = then_law (listed_law close_brace law (λ at. refl) refuses) (λ parts front m. gives_law (types.Struct parts))

pub typ_law : (n : ℕ) → IsRead Anywhere (typ n)
unfolding typ
typ_law zero = one_law flat_type (word_token (codes "ptr") 0) types.Ptr refl
typ_law (suc n) = then_law (one_law (type_head true) (word_token (codes "ptr") 0) heads.Ptr refl) (λ h front m. type_rest_law (typ n) (typ_law n) (typ_at_brace n) h)

pub any_type_law : IsRead Anywhere any_type
any_type_law = typ_law any_depth

result_rest_law : (h : ResultHead) → IsRead Anywhere (result_rest h)
result_rest_law results.Void = gives_law types.Void
result_rest_law (results.Some h) = type_rest_law any_type any_type_law (typ_at_brace any_depth) h

pub result_type_law : IsRead Anywhere result_type
unfolding result_type
result_type_law = then_law (one_law result_head (word_token (codes "void") 0) results.Void refl) (λ h front m. result_rest_law h)

-- ---- tokens that a test knows, any number of them

pub all_of_law : {A : Type 0} (pick : Tok → Option A) (t : Tok) (a : A) → pick t ≡ Some a → IsRead (Fails (starts (λ t. is_some (pick t)))) (all_of pick)
all_of_law pick t a e = star_heads (λ t. is_some (pick t)) (one_law pick t a e) (λ t e. one_refuses pick t (unknown pick t e)) refl

-- ---- flags

no_entry : {A : Type 0} (o : Option (List ℕ)) → option_and_then (entry {A = A} []) o ≡ None
no_entry None = refl
no_entry (Some word) = refl

rows_law : (rows : List (List ℕ × Flag)) → IsRead (Fails (starts (λ t. is_some (in_table (entry rows) t)))) (all_of (in_table (entry rows)))
rows_law [] = none_of_law (in_table (entry [])) (λ t. no_entry (word_of t))
rows_law (row ∷ rows) = all_of_law (in_table (entry (row ∷ rows))) (word_token row.0 0) row.1 (ap (λ b. if b then Some row.1 else entry rows row.0) (same_text row.0))

pub flags_law : (set : FlagSet) → IsRead (Fails (starts (λ t. is_some (flag_of set t)))) (flags set)
unfolding flags
flags_law set = seen_law (fold with_flag no_flags) (all_of (flag_of set)) (rows_law (flag_rows set))

-- ---- values

pub constant_index_law : IsRead Anywhere constant_index
unfolding constant_index
constant_index_law = then_law width_law (λ w front m. then_law (integer_law w) (λ n front m. gives_law (w, n)))

-- a word of a table of flags isn't punctuation
flag_is_no_punct : {A : Type 0} (rows : List (List ℕ × A)) (byte : ℕ) (t : Tok) → is_some (in_table (entry rows) t) ≡ true → known (is_punct byte t) ≡ None
flag_is_no_punct rows byte t e = at_entry (λ t. known (is_punct byte t)) rows (λ at. all_pass rows at) t e
  where
    all_pass : {A : Type 0} (rows : List (List ℕ × A)) (at : ℕ) → list_all (λ row. is_none (known (is_punct byte (word_token row.0 at)))) rows ≡ true
    all_pass [] at = refl
    all_pass (row ∷ rows) at = all_pass rows at

const_operands_law : IsRead Anywhere const_operands
unfolding const_operands
const_operands_law =
    then_law (punct_law comma) (λ _ front m. then_law (keyword_law (codes "ptr")) (λ _ front m. then_law symbol_law (λ sym front m. then_law (punct_law comma) (λ _ front m. then_law constant_index_law (λ index front m.
    then_other (is_punct comma) (seen_law (λ others. index ∷ others) _ (comma_row_law constant_index_law))
    (λ all front m. then_law (punct_law close_paren) (λ _ front m. gives_law (sym, all)))
    (λ all front m t e. closes close_paren _ (λ at. refl) t e))))))

pub const_gep_law : IsRead Anywhere const_gep
unfolding const_gep
const_gep_law =
    then_other (λ t. is_some (flag_of Gep t)) (flags_law Gep)
    (λ kept front m. then_law (punct_law open_paren) (λ _ front m. then_law any_type_law (λ base front m. then_law const_operands_law (λ x front m. gives_law _))))
    (λ kept front m t e. then_refuses (punct open_paren) _ t (one_refuses (λ t. known (is_punct open_paren t)) t (flag_is_no_punct gep_flags open_paren t e)))

value_rest_law : (h : ValueHead) → IsRead Anywhere (value_rest h)
value_rest_law (values.Reg loc) = gives_law _
value_rest_law (values.Int n) = gives_law _
value_rest_law values.Null = gives_law _
value_rest_law (values.Global sym) = gives_law _
value_rest_law values.Gep = then_law const_gep_law (λ gep front m. gives_law _)

pub value_law : (ty : Ty) → IsRead Anywhere (value ty)
unfolding value
value_law ty = then_law (one_law (value_head ty) (record { kind = Local; text = []; at = 0 }) (values.Reg (record { 0 = 1 })) refl) (λ h front m. value_rest_law h)

-- ---- orders and attributes

pub order_law : IsRead Anywhere order
order_law = one_law _ (word_token (codes "seq_cst") 0) true refl

pub order_of_law : (atomic : Bool) → IsRead Anywhere (order_of atomic)
order_of_law true = order_law
order_of_law false = gives_law true

attribute_rest_law : (h : AttributeHead) → IsRead Anywhere (attribute_rest h)
attribute_rest_law Whole = gives_law true
attribute_rest_law Align = then_law wide_count_law (λ _ front m. gives_law true)
attribute_rest_law Sized = then_law (punct_law open_paren) (λ _ front m. then_law wide_count_law (λ _ front m. punct_law close_paren))
attribute_rest_law Captures = then_law (punct_law open_paren) (λ _ front m. then_law (keyword_law (codes "none")) (λ _ front m. punct_law close_paren))

-- a word that both tables have
noundef : (linkage : Bool) → attribute_word linkage (codes "noundef") ≡ Some Whole
noundef true = refl
noundef false = refl

pub attribute_law : (linkage : Bool) → IsRead Anywhere (attribute linkage)
attribute_law linkage = then_law (table_law (attribute_word linkage) (codes "noundef") Whole (noundef linkage)) (λ h front m. attribute_rest_law h)

pub attributes_law : (linkage : Bool) → IsRead (Fails (starts (λ t. is_some (in_table (attribute_word linkage) t)))) (attributes linkage)
unfolding attributes
attributes_law linkage =
    seen_law (λ _. true) (star (starts (λ t. is_some (in_table (attribute_word linkage) t))) (attribute linkage))
    (star_heads (λ t. is_some (in_table (attribute_word linkage) t)) (attribute_law linkage)
    (λ t h. then_refuses (one (in_table (attribute_word linkage))) attribute_rest t (one_refuses (in_table (attribute_word linkage)) t (unknown (in_table (attribute_word linkage)) t h))) refl)
