-- What stands beside the operands of an instruction and says nothing here, and how its line ends.
use Rattle.std.specs.Prelude.{ℕ, ◌^◌, ◌&&◌, not, Bool, true, false, List, codes, drop, Option, is_some}
use Rattle.ir_grammar.specs.declared.heads.AttributeHead.{AttributeHead}
use Rattle.ir_grammar.specs.declared.heads.AttributeHead.TheVariants.{Whole, Align, Sized, Captures}
use Rattle.ir_grammar.specs.Parts.{Tok, Part, gives, ends, one, ◌>>=◌, either, skipped, seen, heads as starts}
use Rattle.ir_grammar.specs.Tokens.{is_punct, is_word_of, is_bang, known, keyword, punct, bang, comma, open_paren, close_paren}
use Rattle.ir_grammar.specs.Numbers.{count}
use Rattle.ir_grammar.specs.Words.{entry, in_table, orders, linkage_words, attribute_rows, rows_of, or_else}

-- ---- orders: each fits every form, and all mean `seq_cst`

abbrev pub order : Part Bool
order = one (λ t. known (is_word_of orders t))

-- an order behind an atomic access, and none behind another
abbrev pub order_of : Bool → Part Bool
order_of true = order
order_of false = gives true

-- ---- attributes

-- the rest of an attribute behind its first word
abbrev pub attribute_rest : AttributeHead → Part Bool
attribute_rest Whole = gives true
attribute_rest Align = count (2 ^ 64) >>= λ _. gives true
attribute_rest Sized = punct open_paren >>= λ _. count (2 ^ 64) >>= λ _. punct close_paren
attribute_rest Captures = punct open_paren >>= λ _. keyword (codes "none") >>= λ _. punct close_paren

-- the words by which attributes begin, and before a result's type those of linkage too
abbrev pub attribute_word : Bool → List ℕ → Option AttributeHead
attribute_word false word = entry attribute_rows word
attribute_word true word = or_else (entry attribute_rows word) (entry (rows_of Whole linkage_words) word)

abbrev pub attribute : Bool → Part Bool
attribute linkage = one (in_table (attribute_word linkage)) >>= attribute_rest

-- any number of attributes; words of linkage among them where they may stand
unfoldable pub attributes : Bool → Part Bool
attributes linkage = skipped (starts (λ t. is_some (in_table (attribute_word linkage) t))) (attribute linkage)

-- ---- the end of a line

-- A comma, and behind it no `!` name: more of the instruction follows.
abbrev pub goes_on : List Tok → Bool
goes_on ts = starts (is_punct comma) ts && not (starts is_bang (drop 1 ts))

-- metadata at the end of a line: `, !dbg !7`, any number of times
abbrev pub metadata : Part Bool
metadata = punct comma >>= λ _. bang >>= λ _. bang

unfoldable pub tail : Part Bool
tail = skipped (starts (is_punct comma)) metadata >>= λ _. ends true

-- `, align N` or none, and then the end
unfoldable pub align_tail : Part Bool
align_tail = either goes_on (punct comma >>= λ _. keyword (codes "align") >>= λ _. count (2 ^ 64) >>= λ _. tail) tail

-- the end of the line of an instruction
abbrev pub finished : {A : Type 0} → A → Part A
finished inst = seen (λ _. inst) tail

abbrev pub aligned : {A : Type 0} → A → Part A
aligned inst = seen (λ _. inst) align_tail
