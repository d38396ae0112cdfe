-- Checks and copies of registers of one word, and of what a `cmpxchg` gave, have lines.
use Rattle.std.proofs.Common.{ℕ, suc, ◌≡◌, inl, inr, true, eqb, List, [], ◌∷◌, ◌++◌, drop, Some, refl, sym, ap, ◌∙◌}
use Rattle.std.specs.Prelude.{codes, is_some, if◌then◌else◌}
use Rattle.std.specs.Str.{bytes_eq}
use Rattle.std.proofs.lemmas.Slice.Eq.{bytes_eq-Decides}
use Rattle.ir_core.specs.declared.text.TokKind.TheVariants.{Word, Local, Punct}
use Rattle.ir_core.specs.declared.types.Loc.{Loc}
use Rattle.ir_core.specs.declared.types.Width.{Width}
use Rattle.ir_core.specs.declared.types.Width.TheVariants.{W1, W8, W16, W32, W64}
use Rattle.ir_core.specs.declared.types.Ty.{Ty}
use Rattle.ir_core.specs.declared.types.Ty as opened
use Rattle.ir_core.specs.declared.types.Ty.TheVariants as types
use Rattle.ir_core.specs.declared.types.Ty.TheOpen.{Ty-F}
use Rattle.ir_core.specs.declared.types.Ty.TheFolds.{fold-roll-Ty}
use Rattle.ir_core.specs.declared.values.Side.{Side}
use Rattle.ir_core.specs.declared.values.Side.TheVariants.{M, S}
use Rattle.ir_core.specs.Names.{number_given}
use Rattle.ir_core.specs.Tokens.{is_name, IsToken}
use Rattle.ir_grammar.specs.declared.heads.TypeHead.TheVariants as heads
use Rattle.ir_grammar.specs.Parts.{Tok}
use Rattle.ir_grammar.specs.Tokens.{known}
use Rattle.ir_grammar.specs.Types.{width_text, type_word, typ, any_type}
use Rattle.ir_grammar.specs.Fitting.{open_after}
use Rattle.ir_numbering.specs.Renaming.{Renaming, renamed_step, renamed_ty}
use Rattle.hard_ir.specs.declared.instruction.When.{When}
use Rattle.hard_ir.specs.declared.instruction.When.TheVariants.{Always, Plain, Tx}
use Rattle.hard_ir.specs.declared.instruction.HInst.{HInst}
use Rattle.hard_ir.specs.declared.instruction.HInst.TheVariants.{Chk, Mov}
use Rattle.hard_ir.specs.Image.{pair_of}
use Rattle.hard_ir.specs.Lines.{HasKind, AreTokens, mark, register_on, is_named_on, register_pair, check_word, check_line, copy_line, own_line}
use Rattle.hard_ir.specs.Standing.{Tables, HasNumbers, AreNumbered, renamed_item, HasOwnLine}
use Rattle.hard_grammar.proofs.Words.{OneWord, AnInt, APtr}
use Rattle.hard_grammar.proofs.Ordinary.{all_append, marked, named_bytes}

-- the register's number is that of a name
pub record IsNamed (tables : Tables) (reg : Loc) : Type 0 where
  pub name : List ℕ
  pub is : is_name name ≡ true
  pub number : reg.0 ≡ number_given tables.locals name

-- a type of one word, or the type of what a `cmpxchg` gives on such a type
pub data IsHeld : Ty → Type 0 where
  AWord : (ty : Ty) → OneWord ty → IsHeld ty
  APair : (ty : Ty) → OneWord ty → IsHeld (pair_of ty)

-- ---- types

abbrev word : List ℕ → Tok
word text = record { kind = Word; text = text; at = 0 }

abbrev mark_of : List ℕ → Tok
mark_of text = record { kind = Punct; text = text; at = 0 }

-- the tokens of a type
record HasTokens (ty : Ty) : Type 0 where
  tokens : List Tok
  kinds : AreTokens tokens
  means : any_type.means tokens ty
  numbered : (tables : Tables) (names : Renaming) → AreNumbered tables 3 names tokens
  open_same : (rest : List Tok) → open_after 0 (tokens ++ rest) ≡ open_after 0 rest
  renamed : (names : Renaming) → renamed_ty names ty ≡ ty

width_known : (w : Width) → type_word (width_text w) ≡ Some (heads.Int w)
width_known W1 = refl
width_known W8 = refl
width_known W16 = refl
width_known W32 = refl
width_known W64 = refl

width_kind : (w : Width) → IsToken true Word (width_text w)
unfolding IsToken
width_kind W1 = refl
width_kind W8 = refl
width_kind W16 = refl
width_kind W32 = refl
width_kind W64 = refl

abbrev text_of : {ty : Ty} → OneWord ty → List ℕ
text_of (AnInt w) = width_text w
text_of APtr = codes "ptr"

word_means : (n : ℕ) {ty : Ty} (one : OneWord ty) → (typ (suc n)).means (word (text_of one) ∷ []) ty
unfolding typ
word_means n (AnInt w) = record { front = word (width_text w) ∷ []; back = []; value = heads.Int w; whole = refl; first = record { token = word (width_text w); whole = refl; is = width_known w }; second = (refl, refl) }
word_means n APtr = record { front = word (codes "ptr") ∷ []; back = []; value = heads.Ptr; whole = refl; first = record { token = word (codes "ptr"); whole = refl; is = refl }; second = (refl, refl) }

word_kind : {ty : Ty} (one : OneWord ty) → IsToken true Word (text_of one)
unfolding IsToken
word_kind (AnInt w) = width_kind w
word_kind APtr = refl

pub word_renamed : {ty : Ty} (one : OneWord ty) (names : Renaming) → renamed_ty names ty ≡ ty
unfolding opened.roll-Ty denote.Hole.Carrier.roll
word_renamed (AnInt w) names = fold-roll-Ty Ty (renamed_step names.type_id) (Ty-F.Int w)
word_renamed APtr names = fold-roll-Ty Ty (renamed_step names.type_id) Ty-F.Ptr

pair_renamed : {ty : Ty} (one : OneWord ty) (names : Renaming) → renamed_ty names (pair_of ty) ≡ pair_of ty
unfolding opened.roll-Ty denote.Hole.Carrier.roll
pair_renamed {ty} one names =
    let parts : renamed_ty names (pair_of ty) ≡ types.Struct (renamed_ty names ty ∷ renamed_ty names (types.Int W1) ∷ []) = fold-roll-Ty Ty (renamed_step names.type_id) (Ty-F.Struct (ty ∷ types.Int W1 ∷ [])) in
    parts ∙ ap (λ (t : Ty). types.Struct (t ∷ renamed_ty names (types.Int W1) ∷ [])) (word_renamed one names) ∙ ap (λ (t : Ty). types.Struct (ty ∷ t ∷ [])) (word_renamed (AnInt W1) names)

abbrev pair_tokens : List ℕ → List Tok
pair_tokens text = mark_of (codes "{") ∷ word text ∷ mark_of (codes ",") ∷ word (codes "i1") ∷ mark_of (codes "}") ∷ []

pair_means : (n : ℕ) {ty : Ty} (one : OneWord ty) → (typ (suc (suc n))).means (pair_tokens (text_of one)) (pair_of ty)
unfolding typ
pair_means n {ty} one = record {
  front = mark_of (codes "{") ∷ [];
  back = word (text_of one) ∷ mark_of (codes ",") ∷ word (codes "i1") ∷ mark_of (codes "}") ∷ [];
  value = heads.Struct;
  whole = refl;
  first = record { token = mark_of (codes "{"); whole = refl; is = refl };
  second = record {
    front = word (text_of one) ∷ mark_of (codes ",") ∷ word (codes "i1") ∷ mark_of (codes "}") ∷ [];
    back = [];
    value = ty ∷ types.Int W1 ∷ [];
    whole = refl;
    first = inr (record {
      front = word (text_of one) ∷ [];
      back = mark_of (codes ",") ∷ word (codes "i1") ∷ mark_of (codes "}") ∷ [];
      value = ty;
      whole = refl;
      first = word_means n one;
      second = record {
        front = mark_of (codes ",") ∷ word (codes "i1") ∷ [];
        back = mark_of (codes "}") ∷ [];
        value = ty ∷ types.Int W1 ∷ [];
        whole = refl;
        first = record {
          value = types.Int W1 ∷ [];
          is = record {
            front = mark_of (codes ",") ∷ word (codes "i1") ∷ [];
            back = [];
            whole = refl;
            first = record { front = mark_of (codes ",") ∷ []; back = word (codes "i1") ∷ []; value = true; whole = refl; first = record { token = mark_of (codes ","); whole = refl; is = refl }; second = word_means n (AnInt W1) };
            rest = refl;
          };
          seen = refl;
        };
        second = record { front = mark_of (codes "}") ∷ []; back = []; value = true; whole = refl; first = record { token = mark_of (codes "}"); whole = refl; is = refl }; second = (refl, refl) };
      };
    });
    second = (refl, refl);
  };
}

held_tokens : {ty : Ty} → IsHeld ty → HasTokens ty
unfolding open_after IsToken
held_tokens (AWord ty one) = record {
  tokens = word (text_of one) ∷ [];
  kinds = (word_kind one, tt);
  means = word_means 4194303 one;
  numbered = λ tables names. (tt, tt);
  open_same = λ rest. refl;
  renamed = word_renamed one;
}
held_tokens (APair ty one) = record {
  tokens = pair_tokens (text_of one);
  kinds = (refl, (word_kind one, (refl, (refl, (refl, tt)))));
  means = pair_means 4194302 one;
  numbered = λ tables names. (tt, (tt, (tt, (tt, (tt, tt)))));
  open_same = λ rest. refl;
  renamed = pair_renamed one;
}

-- ---- registers of both sides

abbrev register : Side → ℕ → List ℕ → Tok
register side at name = record { kind = Local; text = mark side ++ name; at = at }

abbrev comma_token : Tok
comma_token = mark_of (codes ",")

abbrev registers : Side → Side → List ℕ → List Tok
registers a b name = register a 100 name ∷ comma_token ∷ register b 200 name ∷ []

abbrev place : Loc
place = record { 0 = 103 }

bytes_same : (bytes : List ℕ) → bytes_eq bytes bytes ≡ true
bytes_same bytes = (bytes_eq-Decides bytes bytes).1 refl

pair_read : (a b : Side) (name : List ℕ) → register_on a (register a 100 name) ≡ Some (place, name) → is_named_on b name (register b 200 name) ≡ true → (register_pair a b).means (registers a b name) place
unfolding register_pair
pair_read a b name first second = record {
  front = register a 100 name ∷ [];
  back = comma_token ∷ register b 200 name ∷ [];
  value = (place, name);
  whole = refl;
  first = record { token = register a 100 name; whole = refl; is = first };
  second = record {
    front = comma_token ∷ [];
    back = register b 200 name ∷ [];
    value = true;
    whole = refl;
    first = record { token = comma_token; whole = refl; is = refl };
    second = record {
      front = register b 200 name ∷ [];
      back = [];
      value = true;
      whole = refl;
      first = record { token = register b 200 name; whole = refl; is = ap known second };
      second = (refl, refl);
    };
  };
}

-- every `%` token of these lines names the register
abbrev names_for : Tables → Side → Side → List ℕ → Renaming
names_for tables a b name = record {
  loc = λ at. number_given tables.locals name;
  type_id = λ at. if eqb at 101 then number_given tables.structs (drop 1 (mark a ++ name)) else number_given tables.structs (drop 1 (mark b ++ name));
  sym = λ at. 0;
}

pair_numbered : (tables : Tables) (a b : Side) (name : List ℕ) → drop 3 (mark a ++ name) ≡ name → drop 3 (mark b ++ name) ≡ name → AreNumbered tables 3 (names_for tables a b name) (registers a b name)
pair_numbered tables a b name e f = ((sym (ap (number_given tables.locals) e), refl), (tt, ((sym (ap (number_given tables.locals) f), refl), tt)))

pair_kinds : (a b : Side) (name : List ℕ) → is_name name ≡ true → AreTokens (registers a b name)
unfolding IsToken
pair_kinds a b name e = (marked a name (named_bytes name e), (refl, (marked b name (named_bytes name e), tt)))

-- a side and a name are a register of that side
read_on : (side : Side) (name : List ℕ) → is_name name ≡ true → register_on side (register side 100 name) ≡ Some (place, name)
read_on M name e = rw e refl
read_on S name e = rw e refl

-- ---- lines

module _ (tables : Tables) (ty : Ty) (held : IsHeld ty) (reg : Loc) (named : IsNamed tables reg) where
  abbrev type : HasTokens ty
  type = held_tokens held

  -- a line of a word, a type and both registers
  line_of : (text : List ℕ) (a b : Side) (tree : HInst) (item : HInst)
      → IsToken true Word text
      → own_line.means (word text ∷ (type.tokens ++ registers a b named.name)) tree
      → drop 3 (mark a ++ named.name) ≡ named.name → drop 3 (mark b ++ named.name) ≡ named.name
      → item ≡ renamed_item (names_for tables a b named.name) tree
      → HasOwnLine tables item
  unfolding open_after
  line_of text a b tree item kind means e f is =
      let names = names_for tables a b named.name in
      record {
        tokens = word text ∷ (type.tokens ++ registers a b named.name);
        tree = tree;
        names = names;
        kinds = (kind, all_append HasKind type.tokens (registers a b named.name) type.kinds (pair_kinds a b named.name named.is));
        stands = record { shallow = ap is_some (type.open_same (registers a b named.name)); is = means };
        numbered = (tt, all_append (HasNumbers tables 3 names) type.tokens (registers a b named.name) (type.numbered tables names) (pair_numbered tables a b named.name e f));
        is = is;
      }

  check_means : (when : When) (text : List ℕ) → check_word text ≡ Some when → own_line.means (word text ∷ (type.tokens ++ registers M S named.name)) (Chk when ty place)
  unfolding own_line check_line
  check_means when text e = inr (inr (inr (inl (record {
    front = word text ∷ [];
    back = type.tokens ++ registers M S named.name;
    value = when;
    whole = refl;
    first = record { token = word text; whole = refl; is = e };
    second = record {
      front = type.tokens;
      back = registers M S named.name;
      value = ty;
      whole = refl;
      first = type.means;
      second = record { front = registers M S named.name; back = []; value = place; whole = refl; first = pair_read M S named.name (read_on M named.name named.is) (bytes_same (mark S ++ named.name)); second = (refl, refl) };
    };
  }))))

  copy_means : own_line.means (word (codes "mov") ∷ (type.tokens ++ registers S M named.name)) (Mov ty place)
  unfolding own_line copy_line
  copy_means = inl (record {
    front = word (codes "mov") ∷ [];
    back = type.tokens ++ registers S M named.name;
    value = true;
    whole = refl;
    first = record { token = word (codes "mov"); whole = refl; is = refl };
    second = record {
      front = type.tokens;
      back = registers S M named.name;
      value = ty;
      whole = refl;
      first = type.means;
      second = record { front = registers S M named.name; back = []; value = place; whole = refl; first = pair_read S M named.name (read_on S named.name named.is) (bytes_same (mark M ++ named.name)); second = (refl, refl) };
    };
  })

  same_register : reg ≡ record { 0 = number_given tables.locals named.name }
  same_register = same reg named.number
    where
      same : (at : Loc) {n : ℕ} → at.0 ≡ n → at ≡ record { 0 = n }
      same at e = ap (λ (k : ℕ). let l : Loc = record { 0 = k } in l) e

  pub check_has_line : (when : When) → HasOwnLine tables (Chk when ty reg)
  unfolding IsToken
  check_has_line when = by when
    where
      names : Renaming
      names = names_for tables M S named.name

      is : (when : When) → Chk when ty reg ≡ renamed_item names (Chk when ty place)
      is when = ap (λ (r : Loc). Chk when ty r) same_register ∙ ap (λ (t : Ty). Chk when t (record { 0 = number_given tables.locals named.name })) (sym (type.renamed names))

      by : (when : When) → HasOwnLine tables (Chk when ty reg)
      by Always = line_of (codes "chk") M S (Chk Always ty place) (Chk Always ty reg) refl (check_means Always (codes "chk") refl) refl refl (is Always)
      by Plain = line_of (codes "chk.plain") M S (Chk Plain ty place) (Chk Plain ty reg) refl (check_means Plain (codes "chk.plain") refl) refl refl (is Plain)
      by Tx = line_of (codes "chk.tx") M S (Chk Tx ty place) (Chk Tx ty reg) refl (check_means Tx (codes "chk.tx") refl) refl refl (is Tx)

  pub copy_has_line : HasOwnLine tables (Mov ty reg)
  unfolding IsToken
  copy_has_line =
      let names = names_for tables S M named.name in
      line_of (codes "mov") S M (Mov ty place) (Mov ty reg) refl copy_means refl refl
      (ap (λ (r : Loc). Mov ty r) same_register ∙ ap (λ (t : Ty). Mov t (record { 0 = number_given tables.locals named.name })) (sym (type.renamed names)))
