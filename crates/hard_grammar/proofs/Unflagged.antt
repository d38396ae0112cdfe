-- The ordinary line of an operator is one without its flags too.
use Rattle.std.proofs.Common.{ℕ, ◌≡◌, inl, inr, List, [], ◌∷◌, ◌++◌, Option, Some, None, refl, sym, ap, ◌∙◌, subst}
use Rattle.std.specs.Prelude.{option_and_then, is_some}
use Rattle.std.specs.List.{AllByRecursion}
use Rattle.ir_core.specs.declared.text.TokKind.{TokKind}
use Rattle.ir_core.specs.declared.text.TokKind.TheVariants.{Word, Local, At, Label, Num, Bytes, Str, Hash, Bang, Punct}
use Rattle.ir_core.specs.declared.types.Loc.{Loc}
use Rattle.ir_core.specs.declared.instruction.BinOp.{BinOp}
use Rattle.ir_core.specs.declared.instruction.Inst.{Inst}
use Rattle.ir_core.specs.declared.instruction.Inst.TheVariants as insts
use Rattle.ir_grammar.specs.declared.heads.Flag.{Flag}
use Rattle.ir_grammar.specs.declared.heads.FlagSet.{FlagSet}
use Rattle.ir_grammar.specs.declared.heads.FlagSet.TheVariants.{Binary}
use Rattle.ir_grammar.specs.declared.heads.ResultOpcode.{ResultOpcode}
use Rattle.ir_grammar.specs.declared.heads.ResultOpcode.TheVariants as results
use Rattle.ir_grammar.specs.declared.heads.PlainOpcode.{PlainOpcode}
use Rattle.ir_grammar.specs.declared.heads.PlainOpcode.TheVariants as plain
use Rattle.ir_grammar.specs.Parts.{Tok, IsOne, IsRow}
use Rattle.ir_grammar.specs.Tokens.{word_of}
use Rattle.ir_grammar.specs.Words.{flag_of, flags}
use Rattle.ir_grammar.specs.Lines.{binary, comparison, selection, conversion, element, allocation, loading, updating, exchange, extraction, call, marked_call, phi, storing, fencing, branch, switching, returning, line_with, line_without, result_line, instruction}
use Rattle.ir_grammar.specs.Fitting.{bracket_of, open_behind, open_after}
use Rattle.ir_numbering.specs.Renaming.{Renaming, renamed_inst}
use Rattle.hard_ir.specs.Image.{unflagged, no_flags}
use Rattle.hard_ir.specs.Lines.{HasKind}
use Rattle.hard_ir.specs.Standing.{Tables, HasNumbers}
use Rattle.hard_grammar.proofs.Ordinary.{HasOrdinaryLine}

-- The line without some tokens: what held of all its tokens holds of all that are left, and as many brackets are open at its end.
pub record Shorter (line less : List Tok) : Type 1 where
  pub keeps : (P : Tok → Type 0) → AllByRecursion P line → AllByRecursion P less
  pub opens : (n : ℕ) → open_after n line ≡ open_after n less

shorter_same : (line : List Tok) → Shorter line line
shorter_same line = record { keeps = λ P all. all; opens = λ n. refl }

shorter_behind : (front line less : List Tok) → Shorter line less → Shorter (front ++ line) (front ++ less)
unfolding open_after
shorter_behind [] line less s = s
shorter_behind (t ∷ front) line less s =
    let rest = shorter_behind front line less s in
    record { keeps = λ P all. (all.0, rest.keeps P all.1); opens = λ n. opened rest n }
  where
    by : ((m : ℕ) → open_after m (front ++ line) ≡ open_after m (front ++ less)) → (o : Option ℕ)
        → option_and_then (λ m. open_after m (front ++ line)) o ≡ option_and_then (λ m. open_after m (front ++ less)) o
    by rest None = refl
    by rest (Some m) = rest m

    opened : Shorter (front ++ line) (front ++ less) → (n : ℕ) → open_after n (t ∷ (front ++ line)) ≡ open_after n (t ∷ (front ++ less))
    opened rest n = by rest.opens (open_behind (bracket_of t) n)

-- ---- flags

word_opens_none : {A : Type 0} (table : List ℕ → Option A) (kind : TokKind) (text : List ℕ) (at : ℕ) (a : A)
    → let t : Tok = record { kind = kind; text = text; at = at } in option_and_then table (word_of t) ≡ Some a → bracket_of t ≡ None
word_opens_none table Word text at a e = refl
word_opens_none table Local text at a e = cc
word_opens_none table At text at a e = cc
word_opens_none table Label text at a e = cc
word_opens_none table Num text at a e = cc
word_opens_none table Bytes text at a e = cc
word_opens_none table Str text at a e = cc
word_opens_none table Hash text at a e = cc
word_opens_none table Bang text at a e = cc
word_opens_none table Punct text at a e = cc

flags_left_out : (set : FlagSet) (values : List Flag) (tokens rest : List Tok) → IsRow (IsOne (flag_of set)) values tokens → Shorter (tokens ++ rest) rest
unfolding open_after
flags_left_out set [] tokens rest row = subst (λ (ts : List Tok). Shorter (ts ++ rest) rest) (sym row) (shorter_same rest)
flags_left_out set (flag ∷ values) tokens rest row =
    let one = row.first in
    let less = flags_left_out set values row.back rest row.rest in
    let none : bracket_of one.token ≡ None = word_opens_none _ one.token.kind one.token.text one.token.at flag one.is in
    subst (λ (ts : List Tok). Shorter (ts ++ rest) rest) (sym (row.whole ∙ ap (λ (ts : List Tok). ts ++ row.back) one.whole)) (without one.token (row.back ++ rest) none less)
  where
    without : (t : Tok) (line : List Tok) → bracket_of t ≡ None → Shorter line rest → Shorter (t ∷ line) rest
    without t line none less = record { keeps = λ P all. less.keeps P all.1; opens = λ n. opened n }
      where
        opened : (n : ℕ) → open_after n (t ∷ line) ≡ open_after n rest
        opened n = ap (λ b. option_and_then (λ m. open_after m line) (open_behind b n)) none ∙ less.opens n

-- ---- lines

pub record UnflaggedLine (means : List Tok → Inst → Type 0) (line : List Tok) (tree : Inst) : Type 1 where
  pub less : List Tok
  pub is : means less (unflagged tree)
  pub shorter : Shorter line less

has_no_flags : (means : List Tok → Inst → Type 0) (line : List Tok) (tree : Inst) → unflagged tree ≡ tree → means line tree → UnflaggedLine means line tree
has_no_flags means line tree e h = record { less = line; is = subst (means line) (sym e) h; shorter = shorter_same line }

-- what stands for another instruction than an operator stands for it without flags too
stays : (a tree : Inst) → tree ≡ a → unflagged a ≡ a → unflagged tree ≡ tree
stays a tree e u = ap unflagged e ∙ u ∙ sym e

binary_line : (dst : Loc) (op : BinOp) (line : List Tok) (tree : Inst) → (binary dst op).means line tree → UnflaggedLine (binary dst op).means line tree
unfolding binary flags
binary_line dst op line tree h =
    let a = h.second in
    let b = a.second in
    let c = b.second in
    let d = c.second in
    record {
      less = h.back;
      is = record {
        front = [];
        back = h.back;
        value = no_flags;
        whole = refl;
        first = record { value = []; is = refl; seen = refl };
        second = record {
          front = a.front;
          back = a.back;
          value = a.value;
          whole = a.whole;
          first = a.first;
          second = record {
            front = b.front;
            back = b.back;
            value = b.value;
            whole = b.whole;
            first = b.first;
            second = record {
              front = c.front;
              back = c.back;
              value = c.value;
              whole = c.whole;
              first = c.first;
              second = record { value = d.value; is = d.is; seen = ap unflagged d.seen };
            };
          };
        };
      };
      shorter = subst (λ (ts : List Tok). Shorter ts h.back) (sym h.whole) (flags_left_out (Binary op) h.first.value h.front h.back h.first.is);
    }

with_result : (dst : Loc) (op : ResultOpcode) (line : List Tok) (tree : Inst) → (line_with dst op).means line tree → UnflaggedLine (line_with dst op).means line tree
unfolding comparison selection conversion element allocation loading updating exchange extraction call marked_call phi
with_result dst (results.Bin op) line tree h = binary_line dst op line tree h
with_result dst results.Icmp line tree h = has_no_flags _ line tree (stays _ tree h.second.second.second.second.second.seen refl) h
with_result dst results.Select line tree h = has_no_flags _ line tree (stays _ tree h.second.second.second.second.second.second.seen refl) h
with_result dst (results.Cast op) line tree h = has_no_flags _ line tree (stays _ tree h.second.second.second.second.second.seen refl) h
with_result dst results.Gep line tree h = has_no_flags _ line tree (stays _ tree h.second.second.second.second.second.seen refl) h
with_result dst results.Alloca line tree h = has_no_flags _ line tree (stays _ tree h.second.seen refl) h
with_result dst results.Load line tree h = has_no_flags _ line tree (stays _ tree h.second.second.second.second.seen refl) h
with_result dst results.Rmw line tree h = has_no_flags _ line tree (stays _ tree h.second.second.second.second.second.second.seen refl) h
with_result dst results.CmpXchg line tree h = has_no_flags _ line tree (stays _ tree h.second.second.second.second.second.second.second.second.seen refl) h
with_result dst results.Extract line tree h = has_no_flags _ line tree (stays _ tree h.second.second.second.second.second.second.second.second.seen refl) h
with_result dst results.Call line tree h = has_no_flags _ line tree (stays _ tree h.second.second.second.second.seen refl) h
with_result dst results.MarkedCall line tree h = has_no_flags _ line tree (stays _ tree h.second.second.second.second.second.seen refl) h
with_result dst results.Phi line tree h = has_no_flags _ line tree (stays _ tree h.second.second.second.seen refl) h

without_result : (op : PlainOpcode) (line : List Tok) (tree : Inst) → (line_without op).means line tree → unflagged tree ≡ tree
unfolding storing fencing call marked_call branch switching returning
without_result plain.Store line tree h = stays _ tree h.second.second.second.second.second.seen refl
without_result plain.Fence line tree h = stays _ tree h.second.seen refl
without_result plain.Call line tree h = stays _ tree h.second.second.second.second.seen refl
without_result plain.MarkedCall line tree h = stays _ tree h.second.second.second.second.second.seen refl
without_result plain.Br line tree (inl h) = stays _ tree h.second.seen refl
without_result plain.Br line tree (inr h) = stays _ tree h.second.second.second.second.seen refl
without_result plain.Switch line tree h = stays _ tree h.second.second.second.second.seen refl
without_result plain.Ret line tree (inl h) = stays _ tree h.second.seen refl
without_result plain.Ret line tree (inr h) = stays _ tree h.second.second.seen refl
without_result plain.Unreachable line tree h = stays _ tree h.seen refl

unflagged_line : (line : List Tok) (tree : Inst) → instruction.means line tree → UnflaggedLine instruction.means line tree
unfolding instruction result_line
unflagged_line line tree (inr h) = has_no_flags _ line tree (without_result h.value h.back tree h.second) (inr h)
unflagged_line line tree (inl h) =
    let a = h.second in
    let b = a.second in
    let u = with_result h.value b.value b.back tree b.second in
    let behind : Shorter (h.front ++ (a.front ++ (b.front ++ b.back))) (h.front ++ (a.front ++ (b.front ++ u.less))) =
    shorter_behind h.front _ _ (shorter_behind a.front _ _ (shorter_behind b.front b.back u.less u.shorter)) in
    let whole : line ≡ h.front ++ (a.front ++ (b.front ++ b.back)) = h.whole ∙ ap (λ (ts : List Tok). h.front ++ ts) (a.whole ∙ ap (λ (ts : List Tok). a.front ++ ts) b.whole) in
    record {
      less = h.front ++ (a.front ++ (b.front ++ u.less));
      is = inl (record {
        front = h.front;
        back = a.front ++ (b.front ++ u.less);
        value = h.value;
        whole = refl;
        first = h.first;
        second = record {
          front = a.front;
          back = b.front ++ u.less;
          value = a.value;
          whole = refl;
          first = a.first;
          second = record { front = b.front; back = u.less; value = b.value; whole = refl; first = b.first; second = u.is };
        };
      });
      shorter = subst (λ (ts : List Tok). Shorter ts (h.front ++ (a.front ++ (b.front ++ u.less)))) (sym whole) behind;
    }

-- ---- instructions

unflagged_renamed : (r : Renaming) (inst : Inst) → unflagged (renamed_inst r inst) ≡ renamed_inst r (unflagged inst)
unflagged_renamed r (insts.Bin dst op flags w a b) = refl
unflagged_renamed r (insts.Cmp dst pred ty a b) = refl
unflagged_renamed r (insts.Select dst cond ty a b) = refl
unflagged_renamed r (insts.Cast dst op from a to) = refl
unflagged_renamed r (insts.Gep dst base ptr index) = refl
unflagged_renamed r (insts.Alloca dst ty) = refl
unflagged_renamed r (insts.Load dst ty ptr atomic) = refl
unflagged_renamed r (insts.Store ty val ptr atomic) = refl
unflagged_renamed r (insts.Rmw dst op ptr ty val) = refl
unflagged_renamed r (insts.CmpXchg dst ptr ty old new) = refl
unflagged_renamed r insts.Fence = refl
unflagged_renamed r (insts.Extract dst elem pair index) = refl
unflagged_renamed r (insts.Call dst ret callee args) = refl
unflagged_renamed r (insts.Phi dst ty arms) = refl
unflagged_renamed r (insts.Br to) = refl
unflagged_renamed r (insts.CondBr cond on_true on_false) = refl
unflagged_renamed r (insts.Switch ty on default cases) = refl
unflagged_renamed r (insts.Ret ty val) = refl
unflagged_renamed r insts.Unreachable = refl

pub unflagged_ordinary : (tables : Tables) (inst : Inst) → HasOrdinaryLine tables inst → HasOrdinaryLine tables (unflagged inst)
unflagged_ordinary tables inst h =
    let u = unflagged_line h.line h.tree h.stands.is in
    record {
      line = u.less;
      tree = unflagged h.tree;
      names = h.names;
      kinds = u.shorter.keeps HasKind h.kinds;
      stands = record { shallow = ap is_some (sym (u.shorter.opens 0)) ∙ h.stands.shallow; is = u.is };
      numbered = u.shorter.keeps (HasNumbers tables 1 h.names) h.numbered;
      is = ap unflagged h.is ∙ unflagged_renamed h.names h.tree;
    }
