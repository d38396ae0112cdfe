-- Each line form is read as it means.
use Rattle.std.proofs.Common.{[], ◌∷◌, Err, ℕ, ◌≡◌, Bool, true, false, not, List, Option, Some, None, refl, sym, ap, ◌∙◌, ◌⊎◌, inl, inr, ⊎_elim}
use Rattle.std.specs.Prelude.{codes, is_some, is_none, option_and_then}
use Rattle.std.specs.List.{list_all}
use Rattle.ir_core.specs.declared.text.TokKind.{TokKind}
use Rattle.ir_core.specs.declared.text.TokKind.TheVariants.{Word, Local, At, Label, Num, Bytes, Str, Hash, Bang, Punct}
use Rattle.ir_core.specs.declared.types.Width.{Width}
use Rattle.ir_core.specs.declared.types.Width.TheVariants.{W1, W8, W16, W32, W64}
use Rattle.ir_core.specs.declared.types.Loc.{Loc}
use Rattle.ir_core.specs.declared.types.Ty.{Ty}
use Rattle.ir_core.specs.declared.types.Ty.TheVariants as types
use Rattle.ir_core.specs.declared.values.Val.{Val}
use Rattle.ir_core.specs.declared.instruction.BinOp.{BinOp}
use Rattle.ir_core.specs.declared.instruction.BinOp.TheVariants.{Add, Sub, Mul, Udiv, Sdiv, Urem, Srem, Shl, Lshr, Ashr, And, Or, Xor}
use Rattle.ir_core.specs.declared.instruction.CastOp.{CastOp}
use Rattle.ir_core.specs.declared.instruction.CastOp.TheVariants.{Zext, Sext, Trunc, Ptrtoint, Inttoptr}
use Rattle.ir_core.specs.declared.instruction.Pred.TheVariants.{Eq}
use Rattle.ir_core.specs.declared.instruction.RmwOp.TheVariants as rmw
use Rattle.ir_grammar.specs.declared.heads.FlagSet.{FlagSet}
use Rattle.ir_grammar.specs.declared.heads.FlagSet.TheVariants.{Binary, Cast, Gep, Icmp}
use Rattle.ir_core.specs.declared.instruction.Flags.{Flags}
use Rattle.ir_grammar.specs.declared.heads.AttributeHead.TheVariants.{Whole}
use Rattle.ir_grammar.specs.declared.heads.ResultOpcode.{ResultOpcode}
use Rattle.ir_grammar.specs.declared.heads.ResultOpcode.TheVariants as results
use Rattle.ir_grammar.specs.declared.heads.PlainOpcode.{PlainOpcode}
use Rattle.ir_grammar.specs.declared.heads.PlainOpcode.TheVariants as plain
use Rattle.ir_grammar.specs.Parts.{Tok, Part, gives, one, ◌>>=◌, star}
use Rattle.ir_grammar.specs.Tokens.{word_of, is_word, is_punct, is_bang, is_hash, is_local, local_of, known, keyword, punct, local, comma, open_bracket, close_paren, close_bracket, close_brace, open_brace, open_paren, equals}
use Rattle.ir_grammar.specs.Numbers.{decimal, count}
use Rattle.ir_grammar.specs.Words.{entry, in_table, pred_word, rmw_word, binop_flags, cast_flags, gep_flags, icmp_flags, flag_of, flags, attribute_rows, rows_of, linkage_words, or_else, result_opcode_word, plain_opcode_word}
use Rattle.ir_grammar.specs.Types.{width_word, memory_word, width, memory_type, width_text, scalar_text, type_head, typ, any_depth, any_type, result_head, result_type}
use Rattle.ir_grammar.specs.Values.{value_head, value_rest, value}
use Rattle.ir_grammar.specs.Tails.{goes_on, attribute_word}
use Rattle.ir_grammar.specs.Lines.{pointer, comma_pointer, comma_operand, comma_same, label, comma_label, index, binary, comparison, selection, conversion, element, allocation, loading, updating, exchange, extraction, arm, phi, callee_of, callee, argument, call_operands, call, marked_call, storing, fencing, branch, arm_of_switch, switch_cases, switching, returning, line_with, line_without, result_line, instruction}
use Rattle.ir_grammar.proofs.Reading.{IsRead, Anywhere, AtEnd, Fails, Refuses, gives_law, one_law, then_law, then_other, either_head, optional_law, seen_law}
use Rattle.ir_grammar.proofs.Rows.{star_heads}
use Rattle.ir_grammar.proofs.Refusals.{word_token, at_word, at_punct, at_bang, at_hash, at_local, at_entry, not_known, one_refuses, then_refuses}
use Rattle.ir_grammar.proofs.PartLaws.{keyword_law, punct_law, local_law, table_law, width_law, scalar_law, memory_type_law, rmw_type_law, integer_law, count_law, punct_refuses, listed_law, any_type_law, typ_refuses, typ_at_paren, result_type_law, flags_law, value_law, order_law, order_of_law, attributes_law}
use Rattle.ir_grammar.proofs.TailLaws.{items_law, then_over, finished_law, finished_closes, finished_refuses, aligned_law}

-- ---- operands

pointer_law : IsRead Anywhere pointer
unfolding pointer
pointer_law = then_law (keyword_law (codes "ptr")) (λ _ front m. value_law types.Ptr)

comma_pointer_law : IsRead Anywhere comma_pointer
unfolding comma_pointer
comma_pointer_law = then_law (punct_law comma) (λ _ front m. pointer_law)

comma_operand_law : (ty : Ty) → IsRead Anywhere (comma_operand ty)
unfolding comma_operand
comma_operand_law ty = then_law (punct_law comma) (λ _ front m. value_law ty)

comma_same_law : (ty : Ty) → IsRead Anywhere (comma_same ty)
unfolding comma_same
comma_same_law ty = then_law (punct_law comma) (λ _ front m. then_law (keyword_law (scalar_text ty)) (λ _ front m. value_law ty))

label_law : IsRead Anywhere label
unfolding label
label_law = then_law (keyword_law (codes "label")) (λ _ front m. local_law)

comma_label_law : IsRead Anywhere comma_label
unfolding comma_label
comma_label_law = then_law (punct_law comma) (λ _ front m. label_law)

index_rest_law : IsRead {A = Width × Val} Anywhere (width >>= λ w. value (types.Int w) >>= λ v. gives (w, v))
index_rest_law = then_law width_law (λ w front m. then_law (value_law (types.Int w)) (λ v front m. gives_law (w, v)))

pub index_law : IsRead Anywhere index
unfolding index
index_law = then_law (punct_law comma) (λ _ front m. index_rest_law)

bang_is_no_word : {A : Type 0} (table : List ℕ → Option A) (t : Tok) → is_bang t ≡ true → in_table table t ≡ None
bang_is_no_word table t e = at_bang (in_table table) (λ text at. refl) t e

indices_law : IsRead (Fails goes_on) (star goes_on index)
unfolding index
indices_law = items_law _ index_rest_law (λ t e. then_refuses width _ t (one_refuses (in_table width_word) t (bang_is_no_word width_word t e))) refl

-- ---- lines with a result

-- a flag, and then a part whose first word the table of flags lacks
after_flags : {B : Type 0} (set : FlagSet) (k : Flags → Part B) → ((kept : Flags) → IsRead AtEnd (k kept)) → ((kept : Flags) (t : Tok) → is_some (flag_of set t) ≡ true → Refuses (k kept) t) → IsRead AtEnd (flags set >>= k)
after_flags set k laws refuses = then_other (λ t. is_some (flag_of set t)) (flags_law set) (λ kept front m. laws kept) (λ kept front m t e. refuses kept t e)

-- a type doesn't begin with a word of a table that has no type's word
typ_at_entry : {A : Type 0} (rows : List (List ℕ × A)) (n : ℕ) → ((at : ℕ) → list_all (λ row. is_none (type_head true (word_token row.0 at))) rows ≡ true) → ((at : ℕ) → list_all (λ row. is_none (type_head false (word_token row.0 at))) rows ≡ true) → (t : Tok) → is_some (in_table (entry rows) t) ≡ true → Refuses (typ n) t
typ_at_entry rows n some none t e = typ_refuses n t (at_entry (type_head true) rows some t e) (at_entry (type_head false) rows none t e)

pub arm_law : (ty : Ty) → IsRead Anywhere (arm ty)
unfolding arm
arm_law ty = then_law (punct_law open_bracket) (λ _ front m. then_law (value_law ty) (λ v front m. then_law (punct_law comma) (λ _ front m. then_law local_law (λ at front m. then_law (punct_law close_bracket) (λ _ front m. gives_law (v, at))))))

arms_law : (ty : Ty) → IsRead (Fails goes_on) (star goes_on (punct comma >>= λ _. arm ty))
unfolding arm
arms_law ty = items_law (arm ty) (arm_law ty) (λ t e. then_refuses (punct open_bracket) _ t (one_refuses (λ t. known (is_punct open_bracket t)) t (at_bang (λ t. known (is_punct open_bracket t)) (λ text at. refl) t e))) refl

module _ (dst : Loc) where
  binary_law : (op : BinOp) → IsRead AtEnd (binary dst op)
  unfolding binary
  binary_law op = after_flags (Binary op) _
      (λ kept. then_law width_law (λ w front m. then_law (value_law (types.Int w)) (λ a front m. then_law (comma_operand_law (types.Int w)) (λ b front m. finished_law _))))
      (λ kept t e. then_refuses width _ t (one_refuses (in_table width_word) t (at_entry (in_table width_word) (binop_flags op) (no_width op) t e)))
    where
      no_width : (op : BinOp) (at : ℕ) → list_all (λ row. is_none (in_table width_word (word_token row.0 at))) (binop_flags op) ≡ true
      no_width Add at = refl
      no_width Sub at = refl
      no_width Mul at = refl
      no_width Shl at = refl
      no_width Udiv at = refl
      no_width Sdiv at = refl
      no_width Lshr at = refl
      no_width Ashr at = refl
      no_width Or at = refl
      no_width Urem at = refl
      no_width Srem at = refl
      no_width And at = refl
      no_width Xor at = refl

  comparison_law : IsRead AtEnd (comparison dst)
  unfolding comparison
  comparison_law = after_flags Icmp _
      (λ kept. then_law (table_law pred_word (codes "eq") Eq refl) (λ pred front m. then_law scalar_law (λ ty front m. then_law (value_law ty) (λ a front m. then_law (comma_operand_law ty) (λ b front m. finished_law _)))))
      (λ kept t e. then_refuses (one (in_table pred_word)) _ t (one_refuses (in_table pred_word) t (at_entry (in_table pred_word) icmp_flags (λ at. refl) t e)))

  selection_law : IsRead AtEnd (selection dst)
  unfolding selection
  selection_law = then_law (keyword_law (codes "i1")) (λ _ front m. then_law (value_law (types.Int W1)) (λ cond front m. then_law (punct_law comma) (λ _ front m. then_law scalar_law (λ ty front m. then_law (value_law ty) (λ a front m. then_law (comma_same_law ty) (λ b front m. finished_law _))))))

  conversion_law : (op : CastOp) → IsRead AtEnd (conversion dst op)
  unfolding conversion
  conversion_law op = after_flags (Cast op) _
      (λ kept. then_law any_type_law (λ source front m. then_law (value_law source) (λ a front m. then_law (keyword_law (codes "to")) (λ _ front m. then_law any_type_law (λ target front m. finished_law _)))))
      (λ kept t e. then_refuses any_type _ t (typ_at_entry (cast_flags op) any_depth (opening op) (closed op) t e))
    where
      opening : (op : CastOp) (at : ℕ) → list_all (λ row. is_none (type_head true (word_token row.0 at))) (cast_flags op) ≡ true
      opening Zext at = refl
      opening Sext at = refl
      opening Trunc at = refl
      opening Ptrtoint at = refl
      opening Inttoptr at = refl

      closed : (op : CastOp) (at : ℕ) → list_all (λ row. is_none (type_head false (word_token row.0 at))) (cast_flags op) ≡ true
      closed Zext at = refl
      closed Sext at = refl
      closed Trunc at = refl
      closed Ptrtoint at = refl
      closed Inttoptr at = refl

  element_law : IsRead AtEnd (element dst)
  unfolding element
  element_law = after_flags Gep _
      (λ kept. then_law any_type_law (λ base front m. then_law comma_pointer_law (λ ptr front m. then_law index_law (λ first front m. then_over (seen_law (λ others. first ∷ others) _ indices_law) (λ others. finished_law _) (λ others. finished_closes _)))))
      (λ kept t e. then_refuses any_type _ t (typ_at_entry gep_flags any_depth (λ at. refl) (λ at. refl) t e))

  allocation_law : IsRead AtEnd (allocation dst)
  unfolding allocation
  allocation_law = then_law any_type_law (λ ty front m. aligned_law _)

  loading_law : IsRead AtEnd (loading dst)
  unfolding loading
  loading_law = optional_law (is_word (codes "atomic")) _
      (λ atomic. then_law memory_type_law (λ ty front m. then_law comma_pointer_law (λ ptr front m. then_law (order_of_law atomic) (λ _ front m. aligned_law _))))
      (λ t e. then_refuses memory_type _ t (one_refuses (in_table memory_word) t (at_word (in_table memory_word) (codes "atomic") (λ at. refl) t e)))

  updating_law : IsRead AtEnd (updating dst)
  unfolding updating
  updating_law = then_law (table_law rmw_word (codes "xchg") rmw.Xchg refl) (λ op front m. then_law pointer_law (λ ptr front m. then_law (punct_law comma) (λ _ front m. then_law (rmw_type_law op) (λ ty front m. then_law (value_law ty) (λ v front m. then_law order_law (λ _ front m. aligned_law _))))))

  exchange_law : IsRead AtEnd (exchange dst)
  unfolding exchange pointer
  exchange_law = optional_law (is_word (codes "weak")) _
      (λ weak. then_law pointer_law (λ ptr front m. then_law (punct_law comma) (λ _ front m. then_law memory_type_law (λ ty front m. then_law (value_law ty) (λ old front m. then_law (comma_same_law ty) (λ new front m. then_law order_law (λ _ front m. then_law order_law (λ _ front m. aligned_law _))))))))
      (λ t e. then_refuses pointer _ t (then_refuses (keyword (codes "ptr")) _ t (one_refuses (λ t. known (is_word (codes "ptr") t)) t (at_word (λ t. known (is_word (codes "ptr") t)) (codes "weak") (λ at. refl) t e))))

  two_law : IsRead Anywhere (count 2)
  unfolding decimal
  two_law = count_law 2 refl

  extraction_law : IsRead AtEnd (extraction dst)
  unfolding extraction
  extraction_law = then_law (punct_law open_brace) (λ _ front m. then_law any_type_law (λ elem front m. then_law (punct_law comma) (λ _ front m. then_law (keyword_law (codes "i1")) (λ _ front m. then_law (punct_law close_brace) (λ _ front m. then_law local_law (λ pair front m. then_law (punct_law comma) (λ _ front m. then_law two_law (λ n front m. finished_law _))))))))

  phi_law : IsRead AtEnd (phi dst)
  unfolding phi
  phi_law = then_law scalar_law (λ ty front m. then_law (arm_law ty) (λ first front m. then_over (seen_law (λ others. first ∷ others) _ (arms_law ty)) (λ others. finished_law _) (λ others. finished_closes _)))

-- ---- calls

-- no word of the attributes begins a value
value_at_attribute : (ty : Ty) (at : ℕ) → list_all (λ row. is_none (value_head ty (word_token row.0 at))) attribute_rows ≡ true
value_at_attribute ty at = elim ty as (λ ty. list_all (λ row. is_none (value_head ty (word_token row.0 at))) attribute_rows ≡ true) [ types.Int w ↦ by w | types.Ptr ↦ refl | _ ↦ refl ]
  where
    by : (w : Width) → list_all (λ row. is_none (value_head (types.Int w) (word_token row.0 at))) attribute_rows ≡ true
    by W1 = refl
    by W8 = refl
    by W16 = refl
    by W32 = refl
    by W64 = refl

value_refuses : (ty : Ty) (t : Tok) → value_head ty t ≡ None → Refuses (value ty) t
unfolding value
value_refuses ty t e = then_refuses (one (value_head ty)) value_rest t (one_refuses (value_head ty) t e)

pub argument_law : IsRead Anywhere argument
unfolding argument
argument_law = then_law any_type_law (λ ty front m. then_other (λ t. is_some (in_table (attribute_word false) t)) (attributes_law false)
    (λ _ front m. then_law (value_law ty) (λ v front m. gives_law (ty, v)))
    (λ _ front m t e. then_refuses (value ty) _ t (value_refuses ty t (at_entry (value_head ty) attribute_rows (value_at_attribute ty) t e))))

-- a word of linkage or of attributes is none of a type
pub result_refuses : (t : Tok) → result_head t ≡ None → Refuses result_type t
unfolding result_type
result_refuses t e = then_refuses (one result_head) _ t (one_refuses result_head t e)

either_table : {A : Type 0} (f g : List ℕ → Option A) (o : Option (List ℕ)) → is_some (option_and_then (λ word. or_else (f word) (g word)) o) ≡ true → (is_some (option_and_then f o) ≡ true) ⊎ (is_some (option_and_then g o) ≡ true)
either_table f g None e = absurd cc
either_table {A} f g (Some word) e = by (f word) e
  where
    by : (o : Option A) → is_some (or_else o (g word)) ≡ true → (is_some o ≡ true) ⊎ (is_some (g word) ≡ true)
    by None e = inr e
    by (Some a) e = inl refl

pub linkage_refused : (t : Tok) → is_some (in_table (attribute_word true) t) ≡ true → result_head t ≡ None
linkage_refused t e = ⊎_elim (λ h. at_entry result_head attribute_rows (λ at. refl) t h) (λ h. at_entry result_head (rows_of Whole linkage_words) (λ at. refl) t h) (either_table (entry attribute_rows) (entry (rows_of Whole linkage_words)) (word_of t) e)

-- a `#` token isn't a comma
hash_is_no_comma : (t : Tok) → is_hash t ≡ true → is_punct comma t ≡ false
hash_is_no_comma t e = by (is_punct comma t) refl
  where
    by : (b : Bool) → is_punct comma t ≡ b → b ≡ false
    by false h = refl
    by true h = let k : known true ≡ None = sym (ap known h) ∙ at_hash (λ t. known (is_punct comma t)) (λ text at. refl) t e in absurd cc

callee_law : IsRead Anywhere callee
callee_law = one_law callee_of (record { kind = At; text = codes "@f"; at = 0 }) (record { 0 = 1 }) refl

argument_at_paren : (t : Tok) → is_punct close_paren t ≡ true → Refuses argument t
unfolding argument
argument_at_paren t e = then_refuses any_type _ t (typ_at_paren any_depth t e)

call_operands_law : IsRead Anywhere call_operands
unfolding call_operands
call_operands_law = then_law callee_law (λ sym front m. then_law (punct_law open_paren) (λ _ front m. then_law (listed_law close_paren argument_law (λ at. refl) argument_at_paren) (λ args front m. gives_law (sym, args))))

call_law : (dst : Option Loc) → IsRead AtEnd (call dst)
unfolding call
call_law dst = then_other (λ t. is_some (in_table (attribute_word true) t)) (attributes_law true)
    (λ _ front m. then_law result_type_law (λ ret front m. then_law call_operands_law (λ x front m. optional_law is_hash _ (λ hash. finished_law _) (λ t e. finished_refuses _ t (hash_is_no_comma t e)))))
    (λ _ front m t e. then_refuses result_type _ t (result_refuses t (linkage_refused t e)))

marked_call_law : (dst : Option Loc) → IsRead AtEnd (marked_call dst)
unfolding marked_call
marked_call_law dst = then_law (keyword_law (codes "call")) (λ _ front m. call_law dst)

-- ---- lines without a result

storing_law : IsRead AtEnd storing
unfolding storing
storing_law = optional_law (is_word (codes "atomic")) _
    (λ atomic. then_law memory_type_law (λ ty front m. then_law (value_law ty) (λ v front m. then_law comma_pointer_law (λ ptr front m. then_law (order_of_law atomic) (λ _ front m. aligned_law _)))))
    (λ t e. then_refuses memory_type _ t (one_refuses (in_table memory_word) t (at_word (in_table memory_word) (codes "atomic") (λ at. refl) t e)))

fencing_law : IsRead AtEnd fencing
unfolding fencing
fencing_law = then_law order_law (λ _ front m. finished_law _)

keyword_refuses : (word : List ℕ) (t : Tok) → is_word word t ≡ false → Refuses (keyword word) t
keyword_refuses word t e = one_refuses (λ t. known (is_word word t)) t (not_known (is_word word t) e)

branch_law : IsRead AtEnd branch
unfolding branch label
branch_law = either_head (is_word (codes "label"))
    (then_law label_law (λ to front m. finished_law _))
    (then_law (keyword_law (codes "i1")) (λ _ front m. then_law (value_law (types.Int W1)) (λ cond front m. then_law comma_label_law (λ a front m. then_law comma_label_law (λ b front m. finished_law _)))))
    (λ t e. then_refuses label _ t (then_refuses (keyword (codes "label")) _ t (keyword_refuses (codes "label") t e)))
    refl
    (λ t e. then_refuses (keyword (codes "i1")) _ t (one_refuses (λ t. known (is_word (codes "i1") t)) t (at_word (λ t. known (is_word (codes "i1") t)) (codes "label") (λ at. refl) t e)))

pub arm_of_switch_law : (w : Width) → IsRead Anywhere (arm_of_switch w)
unfolding arm_of_switch
arm_of_switch_law w = then_law (keyword_law (width_text w)) (λ _ front m. then_law (integer_law w) (λ n front m. then_law comma_label_law (λ to front m. gives_law (n, to))))

closing : (b : Bool) → not b ≡ false → b ≡ true
closing true e = refl
closing false e = absurd cc

open_still : (b : Bool) → not b ≡ true → b ≡ false
open_still false e = refl
open_still true e = absurd cc

arm_refuses : (w : Width) (t : Tok) → not (is_punct close_bracket t) ≡ false → Refuses (arm_of_switch w) t
unfolding arm_of_switch
arm_refuses w t e = then_refuses (keyword (width_text w)) _ t (one_refuses (λ t. known (is_word (width_text w) t)) t (at_punct (λ t. known (is_word (width_text w) t)) close_bracket (λ at. refl) t (closing (is_punct close_bracket t) e)))

pub arm_of_switch_empty : (w : Width) → (arm_of_switch w).reads [] ≡ Err 0
unfolding arm_of_switch
arm_of_switch_empty w = refl

switch_cases_law : (w : Width) → IsRead Anywhere (switch_cases w)
unfolding switch_cases
switch_cases_law w = then_law (punct_law open_bracket) (λ _ front m.
    then_other (λ t. not (is_punct close_bracket t)) (seen_law (λ others. others) _ (star_heads (λ t. not (is_punct close_bracket t)) (arm_of_switch_law w) (arm_refuses w) (arm_of_switch_empty w)))
    (λ cases front m. then_law (punct_law close_bracket) (λ _ front m. gives_law cases))
    (λ cases front m t e. then_refuses (punct close_bracket) _ t (punct_refuses close_bracket t (open_still (is_punct close_bracket t) e))))

switching_law : IsRead AtEnd switching
unfolding switching
switching_law = then_law width_law (λ w front m. then_law (value_law (types.Int w)) (λ on front m. then_law comma_label_law (λ default front m. then_law (switch_cases_law w) (λ cases front m. finished_law _))))

returning_law : IsRead AtEnd returning
unfolding returning
returning_law = either_head (is_word (codes "void"))
    (then_law (keyword_law (codes "void")) (λ _ front m. finished_law _))
    (then_law any_type_law (λ ty front m. then_law (value_law ty) (λ v front m. finished_law _)))
    (λ t e. then_refuses (keyword (codes "void")) _ t (keyword_refuses (codes "void") t e))
    refl
    (λ t e. then_refuses any_type _ t (typ_refuses any_depth t (at_word (type_head true) (codes "void") (λ at. refl) t e) (at_word (type_head false) (codes "void") (λ at. refl) t e)))

-- ---- all lines

line_with_law : (dst : Loc) (op : ResultOpcode) → IsRead AtEnd (line_with dst op)
line_with_law dst (results.Bin op) = binary_law dst op
line_with_law dst results.Icmp = comparison_law dst
line_with_law dst results.Select = selection_law dst
line_with_law dst (results.Cast op) = conversion_law dst op
line_with_law dst results.Gep = element_law dst
line_with_law dst results.Alloca = allocation_law dst
line_with_law dst results.Load = loading_law dst
line_with_law dst results.Rmw = updating_law dst
line_with_law dst results.CmpXchg = exchange_law dst
line_with_law dst results.Extract = extraction_law dst
line_with_law dst results.Call = call_law (Some dst)
line_with_law dst results.MarkedCall = marked_call_law (Some dst)
line_with_law dst results.Phi = phi_law dst

line_without_law : (op : PlainOpcode) → IsRead AtEnd (line_without op)
line_without_law plain.Store = storing_law
line_without_law plain.Fence = fencing_law
line_without_law plain.Call = call_law None
line_without_law plain.MarkedCall = marked_call_law None
line_without_law plain.Br = branch_law
line_without_law plain.Switch = switching_law
line_without_law plain.Ret = returning_law
line_without_law plain.Unreachable = finished_law _

result_line_law : IsRead AtEnd result_line
unfolding result_line
result_line_law = then_law local_law (λ dst front m. then_law (punct_law equals) (λ _ front m. then_law (table_law result_opcode_word (codes "add") (results.Bin Add) refl) (λ op front m. line_with_law dst op)))

-- a token that is no `%` name is none
pub no_local : (t : Tok) → is_local t ≡ false → local_of t ≡ None
no_local t e = by t.kind e
  where
    by : (k : TokKind) → is_local (record { kind = k; text = t.text; at = t.at }) ≡ false → local_of (record { kind = k; text = t.text; at = t.at }) ≡ None
    by Local e = absurd cc
    by Word e = refl
    by At e = refl
    by Label e = refl
    by Num e = refl
    by Bytes e = refl
    by Str e = refl
    by Hash e = refl
    by Bang e = refl
    by Punct e = refl

pub instruction_law : IsRead AtEnd instruction
unfolding instruction result_line
instruction_law = either_head is_local result_line_law (then_law (table_law plain_opcode_word (codes "store") plain.Store refl) (λ op front m. line_without_law op))
    (λ t e. then_refuses local _ t (one_refuses local_of t (no_local t e)))
    refl
    (λ t e. then_refuses (one (in_table plain_opcode_word)) _ t (one_refuses (in_table plain_opcode_word) t (at_local (in_table plain_opcode_word) (λ text at. refl) t e)))
