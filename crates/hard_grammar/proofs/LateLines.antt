-- The check of what a plain store has left has a line, where the store has one in a text.
use Rattle.std.proofs.Common.{ℕ, zero, suc, ◌≡◌, ◌+◌, ◌-◌, ◌<◌, ◌≤◌, nat_lt, inl, inr, Bool, true, false, List, [], ◌∷◌, ◌++◌, drop, map, Option, Some, None, refl, sym, ap, ◌∙◌, subst, arith, append_assoc, append-nil}
use Rattle.std.specs.Prelude.{codes, nat_eq, is_some, option_and_then, option_map, if◌then◌else◌}
use Rattle.std.specs.List.{AllByRecursion}
use Rattle.std.proofs.lemmas.List.{drop-drop}
use Rattle.std.proofs.lemmas.Bool.Decides.{nat_tests}
use Rattle.ir_core.specs.declared.text.TokKind.{TokKind}
use Rattle.ir_core.specs.declared.text.TokKind.TheVariants.{Word, Local, At, Label, Num, Bytes, Str, Hash, Bang, Punct}
use Rattle.ir_core.specs.declared.text.Token.{Token}
use Rattle.ir_core.specs.declared.types.Loc.{Loc}
use Rattle.ir_core.specs.declared.types.Width.{Width}
use Rattle.ir_core.specs.declared.types.Ty.{Ty}
use Rattle.ir_core.specs.declared.types.Ty.TheVariants as types
use Rattle.ir_core.specs.declared.values.Val.{Val}
use Rattle.ir_core.specs.declared.values.Val.TheVariants as values
use Rattle.ir_core.specs.declared.values.Side.TheVariants.{S}
use Rattle.ir_core.specs.declared.instruction.Inst.{Inst}
use Rattle.ir_core.specs.declared.instruction.Inst.TheVariants as insts
use Rattle.ir_core.specs.Module.{ModuleParts, FuncParts}
use Rattle.ir_core.specs.Names.{number_given}
use Rattle.ir_core.specs.Tokens.{is_name, IsToken}
use Rattle.ir_core.specs.TokenLengths.{name_from}
use Rattle.ir_grammar.specs.declared.heads.ValueHead.{ValueHead}
use Rattle.ir_grammar.specs.declared.heads.ValueHead.TheVariants as heads
use Rattle.ir_grammar.specs.declared.heads.ResultOpcode.{ResultOpcode}
use Rattle.ir_grammar.specs.declared.heads.ResultOpcode.TheVariants as results
use Rattle.ir_grammar.specs.declared.heads.PlainOpcode.{PlainOpcode}
use Rattle.ir_grammar.specs.declared.heads.PlainOpcode.TheVariants as plain
use Rattle.ir_grammar.specs.Parts.{Tok, IsOne, IsOptional}
use Rattle.ir_grammar.specs.Tokens.{token_of, tokens_of, is_word}
use Rattle.ir_grammar.specs.Types.{memory_word, memory_type}
use Rattle.ir_grammar.specs.Values.{integer_of, pointer_head, constant_head, value_head, value_rest, value}
use Rattle.ir_grammar.specs.Lines.{pointer, comma_pointer, binary, comparison, selection, conversion, element, allocation, loading, updating, exchange, extraction, call, marked_call, phi, storing, fencing, branch, switching, returning, line_with, line_without, result_line, instruction}
use Rattle.ir_grammar.specs.Fitting.{bracket_of, open_after, IsShallow}
use Rattle.ir_grammar.proofs.Fronts.{before}
use Rattle.ir_numbering.specs.Renaming.{Renaming, renamed_ty, renamed_val, renamed_inst}
use Rattle.ir_numbering.specs.Numbers.{renaming_of}
use Rattle.ir_parse_top.specs.Sheet.{numerals, with_numerals}
use Rattle.hard_ir.specs.declared.instruction.HVal.{HVal}
use Rattle.hard_ir.specs.declared.instruction.HVal.TheVariants as operands
use Rattle.hard_ir.specs.declared.instruction.HInst.{HInst}
use Rattle.hard_ir.specs.declared.instruction.HInst.TheVariants.{ChkMem}
use Rattle.hard_ir.specs.Image.{on_shadow}
use Rattle.hard_ir.specs.Lines.{HasKind, AreTokens, mark, register_on, shadow_or_constant, memory_check_line, own_line}
use Rattle.hard_ir.specs.Standing.{Tables, tables_of, HasNumbers, AreNumbered, renamed_operand, renamed_item, HasOwnLine}
use Rattle.hard_grammar.proofs.Ordinary.{all_append, all_map, marked, named_bytes}
use Rattle.hard_grammar.proofs.LineTokens.{IsSound, IsRead}
use Rattle.hard_grammar.proofs.TextLines.{IsTold, IsNameAt}
use Rattle.hard_grammar.proofs.WrittenNames.{NameOf, NamesIn}
use Rattle.hard_grammar.proofs.WrittenTypes.{one_word, memories}
use Rattle.hard_grammar.proofs.OwnLines.{word_renamed}
use Rattle.hard_grammar.proofs.Constants.{IsBalanced, none-balanced, one-balanced, both-balanced, in-table-balanced, keyword-balanced, comma-balanced, word-balanced, table-shallow, integer-opens-none, gep-balanced, gep-same}

-- ---- the parts of a store's line

pub record StoreParts (line : List Tok) (ty : Ty) (val ptr : Val) : Type 0 where
  pub opcode : List Tok
  pub type : List Tok
  pub word : List Tok
  pub between : List Tok
  pub pointer : List Tok
  pub back : List Tok
  pub whole : line ≡ opcode ++ (type ++ (word ++ (between ++ (pointer ++ back))))
  pub first : IsBalanced opcode
  pub second : IsBalanced between
  pub typed : memory_type.means type ty
  pub stored : (value ty).means word val
  pub into : (value types.Ptr).means pointer ptr

abbrev PartsOf : List Tok → Inst → Type 0
PartsOf line (insts.Store ty val ptr atomic) = StoreParts line ty val ptr
PartsOf line inst = Unit {0}

-- a line without its first tokens, and with them
behind-opcode : (front back : List Tok) (tree : Inst) → IsBalanced front → PartsOf back tree → PartsOf (front ++ back) tree
behind-opcode front back (insts.Store ty val ptr atomic) even p = record {
  opcode = front ++ p.opcode;
  type = p.type;
  word = p.word;
  between = p.between;
  pointer = p.pointer;
  back = p.back;
  whole = ap (λ (ts : List Tok). front ++ ts) p.whole ∙ sym (append_assoc front p.opcode _);
  first = both-balanced front p.opcode even p.first;
  second = p.second;
  typed = p.typed;
  stored = p.stored;
  into = p.into;
}
behind-opcode front back (insts.Bin dst op flags w a b) even p = tt
behind-opcode front back (insts.Cmp dst pred ty a b) even p = tt
behind-opcode front back (insts.Select dst cond ty a b) even p = tt
behind-opcode front back (insts.Cast dst op from a to) even p = tt
behind-opcode front back (insts.Gep dst base ptr index) even p = tt
behind-opcode front back (insts.Alloca dst ty) even p = tt
behind-opcode front back (insts.Load dst ty ptr atomic) even p = tt
behind-opcode front back (insts.Rmw dst op ptr ty val) even p = tt
behind-opcode front back (insts.CmpXchg dst ptr ty old new) even p = tt
behind-opcode front back insts.Fence even p = tt
behind-opcode front back (insts.Extract dst elem pair index) even p = tt
behind-opcode front back (insts.Call dst ret callee args) even p = tt
behind-opcode front back (insts.Phi dst ty arms) even p = tt
behind-opcode front back (insts.Br to) even p = tt
behind-opcode front back (insts.CondBr cond on_true on_false) even p = tt
behind-opcode front back (insts.Switch ty on default cases) even p = tt
behind-opcode front back (insts.Ret ty val) even p = tt
behind-opcode front back insts.Unreachable even p = tt

with_result : (dst : Loc) (op : ResultOpcode) (part line : List Tok) (tree : Inst) → (line_with dst op).means part tree → PartsOf line tree
unfolding binary comparison selection conversion element allocation loading updating exchange extraction call marked_call phi
with_result dst (results.Bin op) part line tree h = subst (PartsOf line) (sym h.second.second.second.second.seen) tt
with_result dst results.Icmp part line tree h = subst (PartsOf line) (sym h.second.second.second.second.second.seen) tt
with_result dst results.Select part line tree h = subst (PartsOf line) (sym h.second.second.second.second.second.second.seen) tt
with_result dst (results.Cast op) part line tree h = subst (PartsOf line) (sym h.second.second.second.second.second.seen) tt
with_result dst results.Gep part line tree h = subst (PartsOf line) (sym h.second.second.second.second.second.seen) tt
with_result dst results.Alloca part line tree h = subst (PartsOf line) (sym h.second.seen) tt
with_result dst results.Load part line tree h = subst (PartsOf line) (sym h.second.second.second.second.seen) tt
with_result dst results.Rmw part line tree h = subst (PartsOf line) (sym h.second.second.second.second.second.second.seen) tt
with_result dst results.CmpXchg part line tree h = subst (PartsOf line) (sym h.second.second.second.second.second.second.second.second.seen) tt
with_result dst results.Extract part line tree h = subst (PartsOf line) (sym h.second.second.second.second.second.second.second.second.seen) tt
with_result dst results.Call part line tree h = subst (PartsOf line) (sym h.second.second.second.second.seen) tt
with_result dst results.MarkedCall part line tree h = subst (PartsOf line) (sym h.second.second.second.second.second.seen) tt
with_result dst results.Phi part line tree h = subst (PartsOf line) (sym h.second.second.second.seen) tt

atomic-balanced : (tokens : List Tok) (atomic : Bool) → IsOptional (is_word (codes "atomic")) tokens atomic → IsBalanced tokens
atomic-balanced tokens true h = subst IsBalanced (sym h.whole) (word-balanced (codes "atomic") h.token h.passes)
atomic-balanced tokens false h = subst IsBalanced (sym h) none-balanced

without_result : (op : PlainOpcode) (line : List Tok) (tree : Inst) → (line_without op).means line tree → PartsOf line tree
unfolding storing fencing call marked_call branch switching returning pointer comma_pointer
without_result plain.Store line tree h =
    let a = h.second in
    let b = a.second in
    let c = b.second in
    let p = c.first in
    let q = p.second in
    subst (PartsOf line) (sym c.second.second.seen) (record {
      opcode = h.front;
      type = a.front;
      word = b.front;
      between = p.front ++ q.front;
      pointer = q.back;
      back = c.back;
      whole = h.whole ∙ ap (λ (ts : List Tok). h.front ++ ts) (a.whole ∙ ap (λ (ts : List Tok). a.front ++ ts) (b.whole ∙ ap (λ (ts : List Tok). b.front ++ ts)
          (c.whole ∙ ap (λ (ts : List Tok). ts ++ c.back) (p.whole ∙ ap (λ (ts : List Tok). p.front ++ ts) q.whole ∙ sym (append_assoc p.front q.front q.back)) ∙ append_assoc (p.front ++ q.front) q.back c.back)));
      first = atomic-balanced h.front h.value h.first;
      second = both-balanced p.front q.front (comma-balanced p.first) (keyword-balanced (codes "ptr") q.first);
      typed = a.first;
      stored = b.first;
      into = q.second;
    })
without_result plain.Fence line tree h = subst (PartsOf line) (sym h.second.seen) tt
without_result plain.Call line tree h = subst (PartsOf line) (sym h.second.second.second.second.seen) tt
without_result plain.MarkedCall line tree h = subst (PartsOf line) (sym h.second.second.second.second.second.seen) tt
without_result plain.Br line tree (inl h) = subst (PartsOf line) (sym h.second.seen) tt
without_result plain.Br line tree (inr h) = subst (PartsOf line) (sym h.second.second.second.second.seen) tt
without_result plain.Switch line tree h = subst (PartsOf line) (sym h.second.second.second.second.seen) tt
without_result plain.Ret line tree (inl h) = subst (PartsOf line) (sym h.second.seen) tt
without_result plain.Ret line tree (inr h) = subst (PartsOf line) (sym h.second.second.seen) tt
without_result plain.Unreachable line tree h = subst (PartsOf line) (sym h.seen) tt

parts_of : (line : List Tok) (tree : Inst) → instruction.means line tree → PartsOf line tree
unfolding instruction result_line
parts_of line tree (inl h) = with_result h.value h.second.second.value h.second.second.back line tree h.second.second.second
parts_of line tree (inr h) = subst (λ (ts : List Tok). PartsOf ts tree) (sym h.whole) (behind-opcode h.front h.back tree (in-table-balanced _ h.first) (without_result h.value h.back tree h.second))

-- ---- lists

split : (P : Tok → Type 0) (front back : List Tok) → AllByRecursion P (front ++ back) → AllByRecursion P front × AllByRecursion P back
split P [] back all = (tt, all)
split P (t ∷ front) back all = let w = split P front back all.1 in ((all.0, w.0), w.1)

-- what holds of the line's tokens holds of its parts
record OfParts (P : Tok → Type 0) {line : List Tok} {ty : Ty} {val ptr : Val} (p : StoreParts line ty val ptr) : Type 0 where
  type : AllByRecursion P p.type
  word : AllByRecursion P p.word
  pointer : AllByRecursion P p.pointer

of_parts : (P : Tok → Type 0) {line : List Tok} {ty : Ty} {val ptr : Val} (p : StoreParts line ty val ptr) → AllByRecursion P line → OfParts P p
of_parts P p all =
    let a = split P p.opcode _ (subst (AllByRecursion P) p.whole all) in
    let b = split P p.type _ a.1 in
    let c = split P p.word _ b.1 in
    let d = split P p.between _ c.1 in
    record { type = b.0; word = c.0; pointer = (split P p.pointer p.back d.1).0 }

next-shallow : (xs ys : List Tok) → IsBalanced xs → is_some (open_after 0 (xs ++ ys)) ≡ true → is_some (open_after 0 ys) ≡ true
next-shallow xs ys even e = ap is_some (sym (even 0 ys (before 0 xs ys e))) ∙ e

-- ---- places behind all tokens

abbrev place_after : List Tok → ℕ
place_after [] = 0
place_after (t ∷ ts) = t.at + 4 + place_after ts

abbrev AreBelow : ℕ → List Tok → Type 0
AreBelow most = AllByRecursion (λ t. t.at + 3 < most)

all-below : (most : ℕ) (ts : List Tok) → place_after ts ≤ most → AreBelow most ts
all-below most [] le = tt
all-below most (t ∷ ts) le = (omega (arith, le), all-below most ts (omega (arith, le)))

-- ---- constants

const-opens-none : (ty : Ty) (t : Tok) (head : ValueHead) → constant_head ty t ≡ Some head → bracket_of t ≡ None
const-opens-none ty t head = elim ty as (λ y. constant_head y t ≡ Some head → bracket_of t ≡ None) [ types.Int w ↦ λ e. by_integer w (integer_of w t) refl e | types.Ptr ↦ λ e. by_kind t.kind t.text t.at e | _ ↦ λ e. absurd cc ]
  where
    by_integer : (w : Width) (o : Option ℕ) → integer_of w t ≡ o → option_map heads.Int o ≡ Some head → bracket_of t ≡ None
    by_integer w None f e = absurd cc
    by_integer w (Some n) f e = integer-opens-none w t.kind t.text t.at n f

    by_kind : (kind : TokKind) (text : List ℕ) (at : ℕ) → let u : Tok = record { kind = kind; text = text; at = at } in pointer_head u ≡ Some head → bracket_of u ≡ None
    by_kind Word text at e = refl
    by_kind At text at e = refl
    by_kind Num text at e = absurd cc
    by_kind Local text at e = absurd cc
    by_kind Label text at e = absurd cc
    by_kind Bytes text at e = absurd cc
    by_kind Str text at e = absurd cc
    by_kind Hash text at e = absurd cc
    by_kind Bang text at e = absurd cc
    by_kind Punct text at e = absurd cc

abbrev NoRegister : ValueHead → Type 0
NoRegister (heads.Reg loc) = ⊥
NoRegister head = Unit {0}

constant-head : (ty : Ty) (kind : TokKind) (text : List ℕ) (at : ℕ) (head : ValueHead) → let t : Tok = record { kind = kind; text = text; at = at } in value_head ty t ≡ Some head → NoRegister head → constant_head ty t ≡ Some head
constant-head ty Local text at head e free = let same : heads.Reg (record { 0 = at + 1 }) ≡ head = cc in absurd (subst NoRegister (sym same) free)
constant-head ty Word text at head e free = e
constant-head ty At text at head e free = e
constant-head ty Label text at head e free = e
constant-head ty Num text at head e free = e
constant-head ty Bytes text at head e free = e
constant-head ty Str text at head e free = e
constant-head ty Hash text at head e free = e
constant-head ty Bang text at head e free = e
constant-head ty Punct text at head e free = e

-- a value's tokens
value-balanced : (ty : Ty) (val : Val) (tokens : List Tok) → (value ty).means tokens val → IsBalanced tokens
unfolding value
value-balanced ty val tokens h = subst IsBalanced (sym same) (both-balanced (h.first.token ∷ []) h.back (one-balanced h.first.token (by_kind h.first.token.kind h.first.token.text h.first.token.at h.first.is)) (by h.value h.second))
  where
    same : tokens ≡ h.first.token ∷ h.back
    same = h.whole ∙ ap (λ (ts : List Tok). ts ++ h.back) h.first.whole

    by_kind : (kind : TokKind) (text : List ℕ) (at : ℕ) → let t : Tok = record { kind = kind; text = text; at = at } in value_head ty t ≡ Some h.value → bracket_of t ≡ None
    by_kind Local text at e = refl
    by_kind Word text at e = refl
    by_kind At text at e = refl
    by_kind Label text at e = refl
    by_kind Num text at e = refl
    by_kind Bytes text at e = refl
    by_kind Str text at e = refl
    by_kind Hash text at e = refl
    by_kind Bang text at e = refl
    by_kind Punct text at e = const-opens-none ty (record { kind = Punct; text = text; at = at }) h.value e

    by : (head : ValueHead) → (value_rest head).means h.back val → IsBalanced h.back
    by (heads.Reg reg) rest = subst IsBalanced (sym rest.0) none-balanced
    by (heads.Int n) rest = subst IsBalanced (sym rest.0) none-balanced
    by heads.Null rest = subst IsBalanced (sym rest.0) none-balanced
    by (heads.Global symbol) rest = subst IsBalanced (sym rest.0) none-balanced
    by heads.Gep rest =
        let behind : h.back ≡ rest.front = rest.whole ∙ ap (λ (ts : List Tok). rest.front ++ ts) rest.second.0 ∙ append-nil rest.front in
        subst IsBalanced (sym behind) (gep-balanced rest.front rest.value rest.first)

-- an operand's tokens in a line of hardened text's own
record HasShadow (tables : Tables) (r : Renaming) (ty : Ty) (operand : HVal) : Type 0 where
  tokens : List Tok
  tree : HVal
  kinds : AreTokens tokens
  means : (shadow_or_constant ty).means tokens tree
  numbered : AreNumbered tables 3 r tokens
  closed : (rest : List Tok) → open_after 0 (tokens ++ rest) ≡ open_after 0 rest
  is : operand ≡ renamed_operand r tree

-- what a store that is no update leaves has a line
abbrev pub LateLine : Tables → Inst → Type 0
LateLine tables (insts.Store ty val ptr atomic) = HasOwnLine tables (ChkMem ty (on_shadow ptr) (on_shadow val))
LateLine tables inst = Unit {0}

module _ (text : List ℕ) (count : ℕ) (table : ModuleParts) (f : FuncParts) where
  abbrev whole : List ℕ
  whole = with_numerals count text

  abbrev names : Renaming
  names = renaming_of whole table f

  abbrev tables : Tables
  tables = tables_of table f

  abbrev Name : Loc → Type 0
  Name = IsNameAt text (numerals 0 count)

  -- the name of a value that is a register
  abbrev name_of : Val → List ℕ
  name_of (values.Reg reg) = name_from whole reg.0
  name_of val = []

  module _ (most : ℕ) (first second : List ℕ) where
    -- the numbers of names before a place, and of two registers behind it
    abbrev loc : ℕ → ℕ
    loc p = if nat_lt p most then number_given f.names (drop 2 (name_from whole (p - 2))) else if nat_eq p (most + 3) then number_given f.names first else number_given f.names second

    abbrev type_id : ℕ → ℕ
    type_id p = if nat_lt p most then names.type_id p else if nat_eq p (most + 1) then number_given table.type_names (codes "s." ++ first) else number_given table.type_names (codes "s." ++ second)

    abbrev numbers : Renaming
    numbers = record { loc = loc; type_id = type_id; sym = names.sym }

    agree : (p : ℕ) → p < most → type_id p ≡ names.type_id p
    agree p h = let e : nat_lt p most ≡ true = grind (arith, nat_tests) in rw e refl

    loc-below : (p : ℕ) → p < most → loc p ≡ number_given f.names (drop 2 (name_from whole (p - 2)))
    loc-below p h = let e : nat_lt p most ≡ true = grind (arith, nat_tests) in rw e refl

    token-numbered : (t : Token) → IsSound text whole t → t.start + 3 < most → HasNumbers tables 3 numbers (token_of text t)
    token-numbered t h under = by t.kind (token_of text t).text t.start h.name under
      where
        by : (kind : TokKind) (own : List ℕ) (at : ℕ) → IsRead whole at own kind → at + 3 < most → HasNumbers tables 3 numbers (record { kind = kind; text = own; at = at })
        by Local own at h under =
            let same : at + 3 - 2 ≡ at + 1 = omega arith in
            let read : name_from whole (at + 3 - 2) ≡ drop 1 own = ap (name_from whole) same ∙ h in (
              loc-below (at + 3) under ∙ ap (λ (bytes : List ℕ). number_given f.names (drop 2 bytes)) read ∙ ap (number_given f.names) (drop-drop 2 1 own),
              agree (at + 1) (omega (arith, under)) ∙ ap (number_given table.type_names) h,
            )
        by At own at h under = ap (number_given table.syms) h
        by Word own at h under = tt
        by Label own at h under = tt
        by Num own at h under = tt
        by Bytes own at h under = tt
        by Str own at h under = tt
        by Hash own at h under = tt
        by Bang own at h under = tt
        by Punct own at h under = tt

    all-numbered : (tokens : List Token) → AllByRecursion (IsSound text whole) tokens → AreBelow most (tokens_of text tokens) → AreNumbered tables 3 numbers (tokens_of text tokens)
    all-numbered [] sound under = tt
    all-numbered (t ∷ tokens) sound under = (token-numbered t sound.0 under.0, all-numbered tokens sound.1 under.1)

    under-most : (ts : List Tok) → AreBelow most ts → AllByRecursion (λ t. t.at + 1 < most) ts
    under-most [] all = tt
    under-most (t ∷ ts) all = let h = all.0 in (omega (arith, h), under-most ts all.1)

    -- a register of the shadow's side at a place behind
    register : (ty : Ty) (reg : Loc) (at : ℕ) → Name reg → loc (at + 3) ≡ number_given f.names (name_from whole reg.0) → type_id (at + 1) ≡ number_given table.type_names (codes "s." ++ name_from whole reg.0)
        → HasShadow tables numbers ty (on_shadow (renamed_val names (values.Reg reg)))
    unfolding shadow_or_constant open_after
    register ty reg at is number structs =
        let name = name_from whole reg.0 in
        let t : Tok = record { kind = Local; text = mark S ++ name; at = at } in
        let place : Loc = record { 0 = at + 3 } in
        let read : register_on S t ≡ Some (place, name) = rw is refl in
        record {
          tokens = t ∷ [];
          tree = operands.Reg (record { side = S; loc = place });
          kinds = (marked S name (named_bytes name is), tt);
          means = inl (record { value = (place, name); is = record { token = t; whole = refl; is = read }; seen = refl });
          numbered = ((number, structs), tt);
          closed = λ rest. refl;
          is = ap (λ (n : ℕ). operands.Reg (record { side = S; loc = record { 0 = n } })) (sym number);
        }

    -- a constant
    constant : (ty : Ty) (val : Val) (tokens : List Tok) (head : ValueHead) (t : Tok) (back : List Tok) → tokens ≡ t ∷ back → value_head ty t ≡ Some head → NoRegister head
        → (value_rest head).means back val → IsBalanced back → renamed_val numbers val ≡ renamed_val names val → is_some (open_after 0 tokens) ≡ true
        → AreTokens tokens → AreNumbered tables 3 numbers tokens → on_shadow (renamed_val names val) ≡ operands.Const (renamed_val names val) → HasShadow tables numbers ty (on_shadow (renamed_val names val))
    unfolding shadow_or_constant
    constant ty val tokens head t back same e free rest even renamed shallow kinds numbered const =
        let own = constant-head ty t.kind t.text t.at head e free in
        let closed : IsBalanced tokens = subst IsBalanced (sym same) (both-balanced (t ∷ []) back (one-balanced t (const-opens-none ty t head own)) even) in
        record {
          tokens = tokens;
          tree = operands.Const val;
          kinds = kinds;
          means = inr (record { value = val; is = record { front = t ∷ []; back = back; value = head; whole = same; first = record { token = t; whole = refl; is = own }; second = rest }; seen = refl });
          numbered = numbered;
          closed = λ rest. closed 0 rest shallow;
          is = const ∙ ap operands.Const (sym renamed);
        }

    operand : (ty : Ty) (val : Val) (tokens : List Tok) (at : ℕ) → (value ty).means tokens val → NameOf Name val
        → loc (at + 3) ≡ number_given f.names (name_of val) → type_id (at + 1) ≡ number_given table.type_names (codes "s." ++ name_of val)
        → is_some (open_after 0 tokens) ≡ true → AreTokens tokens → AreNumbered tables 3 numbers tokens → AreBelow most tokens → HasShadow tables numbers ty (on_shadow (renamed_val names val))
    unfolding value
    operand ty val tokens at h is number structs shallow kinds numbered below = by h.value h.first.is h.second
      where
        same : tokens ≡ h.first.token ∷ h.back
        same = h.whole ∙ ap (λ (ts : List Tok). ts ++ h.back) h.first.whole

        shadowed : (reg : Loc) → val ≡ values.Reg reg → HasShadow tables numbers ty (on_shadow (renamed_val names val))
        shadowed reg e =
            let own = register ty reg at (subst (NameOf Name) e is) (number ∙ ap (λ (v : Val). number_given f.names (name_of v)) e) (structs ∙ ap (λ (v : Val). number_given table.type_names (codes "s." ++ name_of v)) e) in
            subst (λ (v : Val). HasShadow tables numbers ty (on_shadow (renamed_val names v))) (sym e) own

        Done : Val → Type 0
        Done v = (renamed_val numbers v ≡ renamed_val names v) × (on_shadow (renamed_val names v) ≡ operands.Const (renamed_val names v))

        by : (head : ValueHead) → value_head ty h.first.token ≡ Some head → (value_rest head).means h.back val → HasShadow tables numbers ty (on_shadow (renamed_val names val))
        by (heads.Reg reg) e rest = shadowed reg rest.1
        by (heads.Int n) e rest =
            let done : Done val = subst Done (sym rest.1) (refl, refl) in
            constant ty val tokens (heads.Int n) h.first.token h.back same e tt rest (subst IsBalanced (sym rest.0) none-balanced) done.0 shallow kinds numbered done.1
        by heads.Null e rest =
            let done : Done val = subst Done (sym rest.1) (refl, refl) in
            constant ty val tokens heads.Null h.first.token h.back same e tt rest (subst IsBalanced (sym rest.0) none-balanced) done.0 shallow kinds numbered done.1
        by (heads.Global symbol) e rest =
            let done : Done val = subst Done (sym rest.1) (refl, refl) in
            constant ty val tokens (heads.Global symbol) h.first.token h.back same e tt rest (subst IsBalanced (sym rest.0) none-balanced) done.0 shallow kinds numbered done.1
        by heads.Gep e rest =
            let behind : h.back ≡ rest.front = rest.whole ∙ ap (λ (ts : List Tok). rest.front ++ ts) rest.second.0 ∙ append-nil rest.front in
            let under = (under-most h.back (subst (AreBelow most) same below).1) in
            let gep = gep-same names loc type_id most agree rest.front rest.value rest.first (subst (AllByRecursion (λ t. t.at + 1 < most)) behind under) in
            let done : Done val = subst Done (sym rest.second.1) (ap values.Gep gep, refl) in
            let even : IsBalanced h.back = subst IsBalanced (sym behind) (gep-balanced rest.front rest.value rest.first) in
            constant ty val tokens heads.Gep h.first.token h.back same e tt rest even done.0 shallow kinds numbered done.1

    -- the line
    line_of : (ty : Ty) (ptr val : HVal) (type : List Tok) → memory_type.means type ty → AreTokens type → AreNumbered tables 3 numbers type
        → HasShadow tables numbers types.Ptr ptr → HasShadow tables numbers ty val → HasOwnLine tables (ChkMem ty ptr val)
    unfolding open_after IsToken own_line memory_check_line
    line_of ty ptr val type typed kinds numbered p v =
        let word : Tok = record { kind = Word; text = codes "chkmem.tx"; at = 0 } in
        let comma : Tok = record { kind = Punct; text = codes ","; at = 0 } in
        let items = type ++ (p.tokens ++ (comma ∷ v.tokens)) in
        let last : open_after 0 v.tokens ≡ Some 0 = ap (open_after 0) (sym (append-nil v.tokens)) ∙ v.closed [] in
        record {
          tokens = word ∷ items;
          tree = ChkMem ty p.tree v.tree;
          names = numbers;
          kinds = (refl, all_append HasKind type _ kinds (all_append HasKind p.tokens _ p.kinds (refl, v.kinds)));
          stands = record {
            shallow = ap is_some (table-shallow _ typed (p.tokens ++ (comma ∷ v.tokens)) ∙ p.closed (comma ∷ v.tokens) ∙ last);
            is = inr (inr (inl (record {
              front = word ∷ [];
              back = items;
              value = true;
              whole = refl;
              first = record { token = word; whole = refl; is = refl };
              second = record {
                front = type;
                back = p.tokens ++ (comma ∷ v.tokens);
                value = ty;
                whole = refl;
                first = typed;
                second = record {
                  front = p.tokens;
                  back = comma ∷ v.tokens;
                  value = p.tree;
                  whole = refl;
                  first = p.means;
                  second = record {
                    front = comma ∷ [];
                    back = v.tokens;
                    value = true;
                    whole = refl;
                    first = record { token = comma; whole = refl; is = refl };
                    second = record { front = v.tokens; back = []; value = v.tree; whole = sym (append-nil v.tokens); first = v.means; second = (refl, refl) };
                  };
                };
              };
            })));
          };
          numbered = (tt, all_append (HasNumbers tables 3 numbers) type _ numbered (all_append (HasNumbers tables 3 numbers) p.tokens _ p.numbered (tt, v.numbered)));
          is = ap (λ (x : HVal). ChkMem ty x val) p.is ∙ ap (λ (x : HVal). ChkMem ty (renamed_operand numbers p.tree) x) v.is;
        }

  -- ---- instructions

  -- of a store by its tokens
  module _ (ty : Ty) (val ptr : Val) (line : List Token) (sound : AllByRecursion (IsSound text whole) line) (p : StoreParts (tokens_of text line) ty val ptr) (shallow : IsShallow (tokens_of text line)) where
    abbrev most : ℕ
    most = place_after (tokens_of text line)

    abbrev own : Renaming
    own = numbers most (name_of ptr) (name_of val)

    first-loc : loc most (name_of ptr) (name_of val) (most + 3) ≡ number_given f.names (name_of ptr)
    first-loc = let e : nat_lt (most + 3) most ≡ false = grind (arith, nat_tests) in let g : nat_eq (most + 3) (most + 3) ≡ true = grind (arith, nat_tests) in rw (e, g) refl

    first-type : type_id most (name_of ptr) (name_of val) (most + 1) ≡ number_given table.type_names (codes "s." ++ name_of ptr)
    first-type = let e : nat_lt (most + 1) most ≡ false = grind (arith, nat_tests) in let g : nat_eq (most + 1) (most + 1) ≡ true = grind (arith, nat_tests) in rw (e, g) refl

    second-loc : loc most (name_of ptr) (name_of val) (most + 10 + 3) ≡ number_given f.names (name_of val)
    second-loc = let e : nat_lt (most + 10 + 3) most ≡ false = grind (arith, nat_tests) in let g : nat_eq (most + 10 + 3) (most + 3) ≡ false = grind (arith, nat_tests) in rw (e, g) refl

    second-type : type_id most (name_of ptr) (name_of val) (most + 10 + 1) ≡ number_given table.type_names (codes "s." ++ name_of val)
    second-type = let e : nat_lt (most + 10 + 1) most ≡ false = grind (arith, nat_tests) in let g : nat_eq (most + 10 + 1) (most + 1) ≡ false = grind (arith, nat_tests) in rw (e, g) refl

    store-line : NameOf Name val → NameOf Name ptr → HasOwnLine tables (ChkMem ty (on_shadow (renamed_val names ptr)) (on_shadow (renamed_val names val)))
    unfolding open_after
    store-line named into =
        let tokens = tokens_of text line in
        let below = all-below most tokens (omega arith) in
        let all = all-numbered most (name_of ptr) (name_of val) line sound below in
        let kinds = all_map (IsSound text whole) HasKind (token_of text) (λ t s. s.kind) line sound in
        let numbered_parts = of_parts (HasNumbers tables 3 own) p all in
        let kinds_parts = of_parts HasKind p kinds in
        let below_parts = of_parts (λ t. t.at + 3 < most) p below in
        let at_type = next-shallow p.opcode _ p.first (subst (λ (ts : List Tok). is_some (open_after 0 ts) ≡ true) p.whole shallow) in
        let at_word = ap is_some (sym (table-shallow _ p.typed (p.word ++ (p.between ++ (p.pointer ++ p.back))))) ∙ at_type in
        let word_shallow = before 0 p.word _ at_word in
        let at_between = next-shallow p.word _ (value-balanced ty val p.word p.stored) at_word in
        let at_pointer = next-shallow p.between _ p.second at_between in
        let pointer_shallow = before 0 p.pointer p.back at_pointer in
        line_of most (name_of ptr) (name_of val) ty _ _ p.type p.typed kinds_parts.type numbered_parts.type
        (operand most (name_of ptr) (name_of val) types.Ptr ptr p.pointer most p.into into first-loc first-type pointer_shallow kinds_parts.pointer numbered_parts.pointer below_parts.pointer)
        (operand most (name_of ptr) (name_of val) ty val p.word (most + 10) p.stored named second-loc second-type word_shallow kinds_parts.word numbered_parts.word below_parts.word)

  pub late_line : (inst : Inst) → IsTold text (numerals 0 count) inst → NamesIn Name inst → LateLine tables (renamed_inst names inst)
  late_line (insts.Store ty val ptr atomic) h is =
      let p : StoreParts (tokens_of text h.tokens) ty val ptr = parts_of (tokens_of text h.tokens) (insts.Store ty val ptr atomic) h.stands.is in
      let one = one_word memory_word memories p.type ty p.typed in
      let made = store-line ty val ptr h.tokens h.sound p h.stands.shallow is.0 is.1 in
      subst (λ (t : Ty). HasOwnLine tables (ChkMem t (on_shadow (renamed_val names ptr)) (on_shadow (renamed_val names val)))) (sym (word_renamed one names)) made
  late_line (insts.Bin dst op flags w a b) h is = tt
  late_line (insts.Cmp dst pred ty a b) h is = tt
  late_line (insts.Select dst cond ty a b) h is = tt
  late_line (insts.Cast dst op from a to) h is = tt
  late_line (insts.Gep dst base ptr index) h is = tt
  late_line (insts.Alloca dst ty) h is = tt
  late_line (insts.Load dst ty ptr atomic) h is = tt
  late_line (insts.Rmw dst op ptr ty val) h is = tt
  late_line (insts.CmpXchg dst ptr ty old new) h is = tt
  late_line insts.Fence h is = tt
  late_line (insts.Extract dst elem pair index) h is = tt
  late_line (insts.Call dst ret callee args) h is = tt
  late_line (insts.Phi dst ty arms) h is = tt
  late_line (insts.Br to) h is = tt
  late_line (insts.CondBr cond on_true on_false) h is = tt
  late_line (insts.Switch ty on default cases) h is = tt
  late_line (insts.Ret ty val) h is = tt
  late_line insts.Unreachable h is = tt
