-- A register of an instruction or of a parameter stands where a `%` token of its line writes its name.
use Rattle.std.proofs.Common.{◌≡◌, ℕ, ◌+◌, inl, inr, Bool, true, false, List, [], ◌∷◌, ◌++◌, Option, Some, None, sym, subst}
use Rattle.std.specs.Prelude.{codes, option_map, if◌then◌else◌}
use Rattle.std.specs.List.{AllByRecursion}
use Rattle.std.specs.Str.{bytes_eq}
use Rattle.ir_core.specs.declared.text.TokKind.{TokKind}
use Rattle.ir_core.specs.declared.text.TokKind.TheVariants.{Word, Local, At, Label, Num, Bytes, Str, Hash, Bang, Punct}
use Rattle.ir_core.specs.declared.types.Loc.{Loc}
use Rattle.ir_core.specs.declared.types.Sym.{Sym}
use Rattle.ir_core.specs.declared.types.Width.TheVariants.{W1}
use Rattle.ir_core.specs.declared.types.Ty.{Ty}
use Rattle.ir_core.specs.declared.types.Ty.TheVariants as types
use Rattle.ir_core.specs.declared.values.Val.{Val}
use Rattle.ir_core.specs.declared.values.Val.TheVariants as values
use Rattle.ir_core.specs.declared.instruction.Inst.{Inst}
use Rattle.ir_core.specs.declared.instruction.Inst.TheVariants as insts
use Rattle.ir_grammar.specs.declared.trees.TopWord.{TopWord}
use Rattle.ir_grammar.specs.declared.trees.TopWord.TheVariants as words
use Rattle.ir_grammar.specs.declared.trees.TopLine.{TopLine}
use Rattle.ir_grammar.specs.declared.trees.TopLine.TheVariants as tops
use Rattle.ir_grammar.specs.declared.heads.ValueHead.{ValueHead}
use Rattle.ir_grammar.specs.declared.heads.ValueHead.TheVariants as heads
use Rattle.ir_grammar.specs.declared.heads.ResultOpcode.{ResultOpcode}
use Rattle.ir_grammar.specs.declared.heads.ResultOpcode.TheVariants as results
use Rattle.ir_grammar.specs.declared.heads.PlainOpcode.{PlainOpcode}
use Rattle.ir_grammar.specs.declared.heads.PlainOpcode.TheVariants as plain
use Rattle.ir_grammar.specs.Parts.{Tok, ◌>>=◌, gives, either, chain, IsOne, IsRow, IsChain, heads as starts}
use Rattle.ir_grammar.specs.Tokens.{local_of, is_punct, punct, comma, close_paren}
use Rattle.ir_grammar.specs.Types.{listed}
use Rattle.ir_grammar.specs.Values.{integer_of, null_word, pointer_head, constant_head, value_head, value_rest, value}
use Rattle.ir_grammar.specs.Lines.{pointer, comma_pointer, comma_same, argument, call_operands, binary, comparison, selection, conversion, element, allocation, loading, updating, exchange, extraction, call, marked_call, phi, storing, fencing, branch, switching, returning, line_with, line_without, result_line, instruction}
use Rattle.ir_grammar.specs.Top.{param_name, defined_param, type_line, global_line, declare_line, define_line, function_line, top_line}

module _ (P : Loc → Type 0) where
  -- ---- what holds where `%` tokens write names

  abbrev pub IsAt : ℕ → TokKind → Type 0
  IsAt at Local = P (record { 0 = at + 1 })
  IsAt at kind = Unit {0}

  abbrev pub AreAt : List Tok → Type 0
  AreAt = AllByRecursion (λ t. IsAt t.at t.kind)

  split : (front back : List Tok) → AreAt (front ++ back) → AreAt front × AreAt back
  split [] back all = (tt, all)
  split (t ∷ front) back all = let w = split front back all.1 in ((all.0, w.0), w.1)

  before : {tokens : List Tok} (front back : List Tok) → tokens ≡ front ++ back → AreAt tokens → AreAt front
  before front back whole all = (split front back (subst AreAt whole all)).0

  after : {tokens : List Tok} (front back : List Tok) → tokens ≡ front ++ back → AreAt tokens → AreAt back
  after front back whole all = (split front back (subst AreAt whole all)).1

  -- ---- registers

  local_at : (kind : TokKind) (text : List ℕ) (at : ℕ) (reg : Loc) → local_of (record { kind = kind; text = text; at = at }) ≡ Some reg → IsAt at kind → P reg
  local_at Local text at reg e is = let l : Loc = record { 0 = at + 1 } in let same : l ≡ reg = cc in subst P same is
  local_at Word text at reg e is = absurd cc
  local_at At text at reg e is = absurd cc
  local_at Label text at reg e is = absurd cc
  local_at Num text at reg e is = absurd cc
  local_at Bytes text at reg e is = absurd cc
  local_at Str text at reg e is = absurd cc
  local_at Hash text at reg e is = absurd cc
  local_at Bang text at reg e is = absurd cc
  local_at Punct text at reg e is = absurd cc

  pub local_named : {tokens : List Tok} {reg : Loc} → IsOne local_of tokens reg → AreAt tokens → P reg
  local_named {tokens} {reg} h all = let one = subst AreAt h.whole all in local_at h.token.kind h.token.text h.token.at reg h.is one.0

  -- ---- values

  abbrev pub NameOf : Val → Type 0
  NameOf (values.Reg reg) = P reg
  NameOf val = Unit {0}

  abbrev HeadOf : ValueHead → Type 0
  HeadOf (heads.Reg reg) = P reg
  HeadOf head = Unit {0}

  integer_no_register : (n : Option ℕ) (head : ValueHead) → option_map heads.Int n ≡ Some head → HeadOf head
  integer_no_register None head e = absurd cc
  integer_no_register (Some n) head e = let same : heads.Int n ≡ head = cc in subst HeadOf same tt

  word_no_register : (text : List ℕ) (head : ValueHead) → null_word text ≡ Some head → HeadOf head
  word_no_register text head e = by (bytes_eq text (codes "null")) (bytes_eq text (codes "getelementptr")) e
    where
      by : (a b : Bool) → ◌≡◌ {A = Option ValueHead} (if a then Some heads.Null else if b then Some heads.Gep else None) (Some head) → HeadOf head
      by true b h = let same : heads.Null ≡ head = cc in subst HeadOf same tt
      by false true h = let same : heads.Gep ≡ head = cc in subst HeadOf same tt
      by false false h = absurd cc

  pointer_no_register : (kind : TokKind) (text : List ℕ) (at : ℕ) (head : ValueHead) → pointer_head (record { kind = kind; text = text; at = at }) ≡ Some head → HeadOf head
  pointer_no_register Word text at head e = word_no_register text head e
  pointer_no_register At text at head e = let same : heads.Global (record { 0 = at + 1 }) ≡ head = cc in subst HeadOf same tt
  pointer_no_register Local text at head e = absurd cc
  pointer_no_register Label text at head e = absurd cc
  pointer_no_register Num text at head e = absurd cc
  pointer_no_register Bytes text at head e = absurd cc
  pointer_no_register Str text at head e = absurd cc
  pointer_no_register Hash text at head e = absurd cc
  pointer_no_register Bang text at head e = absurd cc
  pointer_no_register Punct text at head e = absurd cc

  abbrev token : TokKind → List ℕ → ℕ → Tok
  token kind text at = record { kind = kind; text = text; at = at }

  constant_no_register : (ty : Ty) (t : Tok) (head : ValueHead) → constant_head ty t ≡ Some head → HeadOf head
  constant_no_register ty t head = elim ty as (λ y. constant_head y t ≡ Some head → HeadOf head) [ types.Int w ↦ λ e. integer_no_register (integer_of w t) head e | types.Ptr ↦ λ e. pointer_no_register t.kind t.text t.at head e | _ ↦ λ e. absurd cc ]

  head_at : (ty : Ty) (kind : TokKind) (text : List ℕ) (at : ℕ) (head : ValueHead) → value_head ty (record { kind = kind; text = text; at = at }) ≡ Some head → IsAt at kind → HeadOf head
  head_at ty Local text at head e is = let same : heads.Reg (record { 0 = at + 1 }) ≡ head = cc in subst HeadOf same is
  head_at ty Word text at head e is = constant_no_register ty (token Word text at) head e
  head_at ty At text at head e is = constant_no_register ty (token At text at) head e
  head_at ty Label text at head e is = constant_no_register ty (token Label text at) head e
  head_at ty Num text at head e is = constant_no_register ty (token Num text at) head e
  head_at ty Bytes text at head e is = constant_no_register ty (token Bytes text at) head e
  head_at ty Str text at head e is = constant_no_register ty (token Str text at) head e
  head_at ty Hash text at head e is = constant_no_register ty (token Hash text at) head e
  head_at ty Bang text at head e is = constant_no_register ty (token Bang text at) head e
  head_at ty Punct text at head e is = constant_no_register ty (token Punct text at) head e

  rest_named : (head : ValueHead) (tokens : List Tok) (val : Val) → (value_rest head).means tokens val → HeadOf head → NameOf val
  rest_named (heads.Reg reg) tokens val h is = subst NameOf (sym h.1) is
  rest_named (heads.Int n) tokens val h is = subst NameOf (sym h.1) tt
  rest_named heads.Null tokens val h is = subst NameOf (sym h.1) tt
  rest_named (heads.Global symbol) tokens val h is = subst NameOf (sym h.1) tt
  rest_named heads.Gep tokens val h is = subst NameOf (sym h.second.1) tt

  value_named : (ty : Ty) (tokens : List Tok) (val : Val) → (value ty).means tokens val → AreAt tokens → NameOf val
  unfolding value
  value_named ty tokens val h all =
      let one = subst AreAt h.first.whole (before h.front h.back h.whole all) in
      rest_named h.value h.back val h.second (head_at ty h.first.token.kind h.first.token.text h.first.token.at h.value h.first.is one.0)

  pointer_named : (tokens : List Tok) (val : Val) → pointer.means tokens val → AreAt tokens → NameOf val
  unfolding pointer
  pointer_named _ _ h all = value_named types.Ptr _ _ h.second (after h.front h.back h.whole all)

  comma_pointer_named : (tokens : List Tok) (val : Val) → comma_pointer.means tokens val → AreAt tokens → NameOf val
  unfolding comma_pointer
  comma_pointer_named _ _ h all = pointer_named _ _ h.second (after h.front h.back h.whole all)

  same_named : (ty : Ty) (tokens : List Tok) (val : Val) → (comma_same ty).means tokens val → AreAt tokens → NameOf val
  unfolding comma_same
  same_named ty _ _ h all =
      let more = after h.front h.back h.whole all in
      value_named ty _ _ h.second.second (after h.second.front h.second.back h.second.whole more)

  -- ---- arguments

  abbrev pub NameOfArg : Ty × Val → Type 0
  NameOfArg arg = NameOf arg.1

  abbrev pub NamesOf : List (Ty × Val) → Type 0
  NamesOf = AllByRecursion NameOfArg

  argument_named : (tokens : List Tok) (arg : Ty × Val) → argument.means tokens arg → AreAt tokens → NameOfArg arg
  unfolding argument
  argument_named _ _ h all =
      let more = after h.front h.back h.whole all in
      let last = after h.second.front h.second.back h.second.whole more in
      let val = value_named h.value _ _ h.second.second.first (before h.second.second.front h.second.second.back h.second.second.whole last) in
      subst NameOfArg (sym h.second.second.second.1) val

  row_named : (args : List (Ty × Val)) (tokens : List Tok) → IsRow (punct comma >>= λ _. argument).means args tokens → AreAt tokens → NamesOf args
  row_named [] tokens h all = tt
  row_named (arg ∷ args) tokens h all =
      let here = before h.front h.back h.whole all in
      (argument_named _ _ h.first.second (after h.first.front h.first.back h.first.whole here), row_named args h.back h.rest (after h.front h.back h.whole all))

  args_named : (tokens : List Tok) (args : List (Ty × Val)) → (listed close_paren argument).means tokens args → AreAt tokens → NamesOf args
  args_named _ _ (inl h) all = subst NamesOf (sym h.second.1) tt
  args_named _ _ (inr h) all =
      let more = after h.front h.back h.whole all in
      let row = h.second.first in
      let first = argument_named _ _ h.first (before h.front h.back h.whole all) in
      let others = row_named row.value h.second.front row.is (before h.second.front h.second.back h.second.whole more) in
      subst NamesOf (sym h.second.second.second.1) (subst NamesOf (sym row.seen) (first, others))

  operands_named : (tokens : List Tok) (x : Sym × List (Ty × Val)) → call_operands.means tokens x → AreAt tokens → NamesOf x.1
  unfolding call_operands
  operands_named _ _ h all =
      let more = after h.front h.back h.whole all in
      let last = after h.second.front h.second.back h.second.whole more in
      let args = args_named _ _ h.second.second.first (before h.second.second.front h.second.second.back h.second.second.whole last) in
      subst (λ (x : Sym × List (Ty × Val)). NamesOf x.1) (sym h.second.second.second.1) args

  -- ---- instructions

  abbrev pub NameOfResult : Option Loc → Type 0
  NameOfResult None = Unit {0}
  NameOfResult (Some reg) = P reg

  -- what holds of the registers that are copied or checked
  abbrev pub NamesIn : Inst → Type 0
  NamesIn (insts.Alloca dst ty) = P dst
  NamesIn (insts.Load dst ty ptr atomic) = P dst × NameOf ptr
  NamesIn (insts.Store ty val ptr atomic) = NameOf val × NameOf ptr
  NamesIn (insts.Rmw dst op ptr ty val) = P dst × NameOf ptr × NameOf val
  NamesIn (insts.CmpXchg dst ptr ty old new) = P dst × NameOf ptr × NameOf old × NameOf new
  NamesIn (insts.Call dst ret callee args) = NameOfResult dst × NamesOf args
  NamesIn (insts.CondBr cond on_true on_false) = NameOf cond
  NamesIn (insts.Switch ty on default cases) = NameOf on
  NamesIn (insts.Ret ty None) = Unit {0}
  NamesIn (insts.Ret ty (Some val)) = NameOf val
  NamesIn inst = Unit {0}

  call_named : (dst : Option Loc) (line : List Tok) (tree : Inst) → (call dst).means line tree → AreAt line → NameOfResult dst → NamesIn tree
  unfolding call
  call_named dst _ _ h all result =
      let more = after h.front h.back h.whole all in
      let last = after h.second.front h.second.back h.second.whole more in
      let args = operands_named _ _ h.second.second.first (before h.second.second.front h.second.second.back h.second.second.whole last) in
      subst NamesIn (sym h.second.second.second.second.seen) (result, args)

  marked_named : (dst : Option Loc) (line : List Tok) (tree : Inst) → (marked_call dst).means line tree → AreAt line → NameOfResult dst → NamesIn tree
  unfolding marked_call
  marked_named dst _ _ h all result = call_named dst _ _ h.second (after h.front h.back h.whole all) result

  load_named : (dst : Loc) (line : List Tok) (tree : Inst) → (loading dst).means line tree → AreAt line → P dst → NamesIn tree
  unfolding loading
  load_named dst _ _ h all result =
      let more = after h.front h.back h.whole all in
      let last = after h.second.front h.second.back h.second.whole more in
      let ptr = comma_pointer_named _ _ h.second.second.first (before h.second.second.front h.second.second.back h.second.second.whole last) in
      subst NamesIn (sym h.second.second.second.second.seen) (result, ptr)

  update_named : (dst : Loc) (line : List Tok) (tree : Inst) → (updating dst).means line tree → AreAt line → P dst → NamesIn tree
  unfolding updating
  update_named dst _ _ h all result =
      let a = after h.front h.back h.whole all in
      let b = after h.second.front h.second.back h.second.whole a in
      let c = after h.second.second.front h.second.second.back h.second.second.whole b in
      let d = after h.second.second.second.front h.second.second.second.back h.second.second.second.whole c in
      let ptr = pointer_named _ _ h.second.first (before h.second.front h.second.back h.second.whole a) in
      let w = h.second.second.second.second in
      let val = value_named h.second.second.second.value _ _ w.first (before w.front w.back w.whole d) in
      subst NamesIn (sym w.second.second.seen) (result, ptr, val)

  exchange_named : (dst : Loc) (line : List Tok) (tree : Inst) → (exchange dst).means line tree → AreAt line → P dst → NamesIn tree
  unfolding exchange
  exchange_named dst _ _ h all result =
      let a = after h.front h.back h.whole all in
      let b = after h.second.front h.second.back h.second.whole a in
      let c = after h.second.second.front h.second.second.back h.second.second.whole b in
      let d = after h.second.second.second.front h.second.second.second.back h.second.second.second.whole c in
      let w = h.second.second.second.second in
      let e = after w.front w.back w.whole d in
      let ptr = pointer_named _ _ h.second.first (before h.second.front h.second.back h.second.whole a) in
      let old = value_named h.second.second.second.value _ _ w.first (before w.front w.back w.whole d) in
      let new = same_named h.second.second.second.value _ _ w.second.first (before w.second.front w.second.back w.second.whole e) in
      subst NamesIn (sym w.second.second.second.second.seen) (result, ptr, old, new)

  with_result : (dst : Loc) (op : ResultOpcode) (line : List Tok) (tree : Inst) → (line_with dst op).means line tree → AreAt line → P dst → NamesIn tree
  unfolding binary comparison selection conversion element allocation extraction phi
  with_result dst (results.Bin op) line tree h all result = subst NamesIn (sym h.second.second.second.second.seen) tt
  with_result dst results.Icmp line tree h all result = subst NamesIn (sym h.second.second.second.second.second.seen) tt
  with_result dst results.Select line tree h all result = subst NamesIn (sym h.second.second.second.second.second.second.seen) tt
  with_result dst (results.Cast op) line tree h all result = subst NamesIn (sym h.second.second.second.second.second.seen) tt
  with_result dst results.Gep line tree h all result = subst NamesIn (sym h.second.second.second.second.second.seen) tt
  with_result dst results.Alloca line tree h all result = subst NamesIn (sym h.second.seen) result
  with_result dst results.Load line tree h all result = load_named dst _ _ h all result
  with_result dst results.Rmw line tree h all result = update_named dst _ _ h all result
  with_result dst results.CmpXchg line tree h all result = exchange_named dst _ _ h all result
  with_result dst results.Extract line tree h all result = subst NamesIn (sym h.second.second.second.second.second.second.second.second.seen) tt
  with_result dst results.Call line tree h all result = call_named (Some dst) _ _ h all result
  with_result dst results.MarkedCall line tree h all result = marked_named (Some dst) _ _ h all result
  with_result dst results.Phi line tree h all result = subst NamesIn (sym h.second.second.second.seen) tt

  store_named : (line : List Tok) (tree : Inst) → storing.means line tree → AreAt line → NamesIn tree
  unfolding storing
  store_named _ _ h all =
      let a = after h.front h.back h.whole all in
      let b = after h.second.front h.second.back h.second.whole a in
      let c = after h.second.second.front h.second.second.back h.second.second.whole b in
      let val = value_named h.second.value _ _ h.second.second.first (before h.second.second.front h.second.second.back h.second.second.whole b) in
      let w = h.second.second.second in
      let ptr = comma_pointer_named _ _ w.first (before w.front w.back w.whole c) in
      subst NamesIn (sym w.second.second.seen) (val, ptr)

  without_result : (op : PlainOpcode) (line : List Tok) (tree : Inst) → (line_without op).means line tree → AreAt line → NamesIn tree
  unfolding fencing branch switching returning
  without_result plain.Store line tree h all = store_named _ _ h all
  without_result plain.Fence line tree h all = subst NamesIn (sym h.second.seen) tt
  without_result plain.Call line tree h all = call_named None _ _ h all tt
  without_result plain.MarkedCall line tree h all = marked_named None _ _ h all tt
  without_result plain.Br line tree (inl h) all = subst NamesIn (sym h.second.seen) tt
  without_result plain.Br line tree (inr h) all =
      let more = after h.front h.back h.whole all in
      subst NamesIn (sym h.second.second.second.second.seen) (value_named (types.Int W1) _ _ h.second.first (before h.second.front h.second.back h.second.whole more))
  without_result plain.Switch line tree h all =
      let more = after h.front h.back h.whole all in
      subst NamesIn (sym h.second.second.second.second.seen) (value_named (types.Int h.value) _ _ h.second.first (before h.second.front h.second.back h.second.whole more))
  without_result plain.Ret line tree (inl h) all = subst NamesIn (sym h.second.seen) tt
  without_result plain.Ret line tree (inr h) all =
      let more = after h.front h.back h.whole all in
      subst NamesIn (sym h.second.second.seen) (value_named h.value _ _ h.second.first (before h.second.front h.second.back h.second.whole more))
  without_result plain.Unreachable line tree h all = subst NamesIn (sym h.seen) tt

  pub names_written : (line : List Tok) (tree : Inst) → instruction.means line tree → AreAt line → NamesIn tree
  unfolding instruction result_line
  names_written line tree (inl h) all =
      let a = after h.front h.back h.whole all in
      let b = after h.second.front h.second.back h.second.whole a in
      let w = h.second.second in
      let c = after w.front w.back w.whole b in
      with_result h.value w.value w.back tree w.second c (local_named h.first (before h.front h.back h.whole all))
  names_written line tree (inr h) all = without_result h.value h.back tree h.second (after h.front h.back h.whole all)

  -- ---- parameters

  abbrev pub NameOfParam : Ty × Option Loc → Type 0
  NameOfParam param = NameOfResult param.1

  abbrev pub NamesOfParams : List (Ty × Option Loc) → Type 0
  NamesOfParams = AllByRecursion NameOfParam

  abbrev pub NamesOfTop : TopLine → Type 0
  NamesOfTop (tops.Define head) = NamesOfParams head.params
  NamesOfTop line = Unit {0}

  name_named : (tokens : List Tok) (x : Option Loc × Bool) → param_name.means tokens x → AreAt tokens → NameOfResult x.0
  unfolding param_name
  name_named _ _ (inl h) all = subst (λ (x : Option Loc × Bool). NameOfResult x.0) (sym h.second.second.1) (local_named h.first (before h.front h.back h.whole all))
  name_named _ _ (inr h) all = subst (λ (x : Option Loc × Bool). NameOfResult x.0) (sym h.second.1) tt

  param_named : (tokens : List Tok) (param : (Ty × Option Loc) × Bool) → defined_param.means tokens param → AreAt tokens → NameOfParam param.0
  unfolding defined_param
  param_named _ _ h all =
      let more = after h.front h.back h.whole all in
      let last = after h.second.front h.second.back h.second.whole more in
      let name = name_named _ _ h.second.second.first (before h.second.second.front h.second.second.back h.second.second.whole last) in
      subst (λ (x : (Ty × Option Loc) × Bool). NameOfResult x.0.1) (sym h.second.second.second.1) name

  chain_named : (params : List (Ty × Option Loc)) (tokens : List Tok) → IsChain defined_param.means params tokens → AreAt tokens → NamesOfParams params
  chain_named [] tokens h all = absurd h
  chain_named (param ∷ []) tokens h all = (param_named _ _ h all, tt)
  chain_named (param ∷ other ∷ params) tokens h all =
      (param_named _ _ h.first (before h.front h.back h.whole all), chain_named (other ∷ params) h.back h.rest (after h.front h.back h.whole all))

  params_named : (params : List (Ty × Option Loc)) (tokens : List Tok)
      → (either (starts (is_punct close_paren)) (punct close_paren >>= λ _. gives []) (chain defined_param)).means tokens params → AreAt tokens → NamesOfParams params
  params_named params tokens (inl h) all = subst NamesOfParams (sym h.second.1) tt
  params_named params tokens (inr h) all = chain_named params tokens h all

  function_named : (word : TopWord) (tokens : List Tok) (line : TopLine) → (function_line word).means tokens line → AreAt tokens → NamesOfTop line
  unfolding declare_line define_line
  function_named words.Declare tokens line h all = subst NamesOfTop (sym h.second.second.second.second.second.1) tt
  function_named words.Define tokens line h all =
      let a = after h.front h.back h.whole all in
      let b = after h.second.front h.second.back h.second.whole a in
      let c = after h.second.second.front h.second.second.back h.second.second.whole b in
      let list = h.second.second.second in
      let inside = after list.first.front list.first.back list.first.whole (before list.front list.back list.whole c) in
      subst NamesOfTop (sym list.second.second.second.1) (params_named list.value list.first.back list.first.second inside)

  -- the parameters of a line outside functions
  pub params_written : (tokens : List Tok) (line : TopLine) → top_line.means tokens line → AreAt tokens → NamesOfTop line
  unfolding top_line type_line global_line
  params_written tokens line (inl h) all = subst NamesOfTop (sym h.second.second.second.second.second.1) tt
  params_written tokens line (inr (inl h)) all = subst NamesOfTop (sym h.second.second.second.second.second.second.seen) tt
  params_written tokens line (inr (inr h)) all = function_named h.value h.back line h.second (after h.front h.back h.whole all)
