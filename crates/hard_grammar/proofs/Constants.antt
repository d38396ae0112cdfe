-- The tokens of a constant: as many brackets close in them as open, and its names are those that the tokens write.
use Rattle.std.proofs.Common.{ℕ, zero, suc, ◌≡◌, ◌+◌, ◌-◌, ◌<◌, nat_lt, inl, inr, Bool, true, false, List, [], ◌∷◌, ◌++◌, map, Option, Some, None, refl, sym, ap, ◌∙◌, subst, arith, append_assoc, append-nil}
use Rattle.std.specs.Prelude.{codes, is_some, option_and_then, option_map, if◌then◌else◌}
use Rattle.std.specs.Str.{bytes_eq}
use Rattle.std.specs.List.{AllByRecursion}
use Rattle.std.proofs.lemmas.Slice.Eq.{bytes_eq-Decides}
use Rattle.ir_core.specs.declared.text.TokKind.{TokKind}
use Rattle.ir_core.specs.declared.text.TokKind.TheVariants.{Word, Local, At, Label, Num, Bytes, Str, Hash, Bang, Punct}
use Rattle.ir_core.specs.declared.types.Ty.{Ty}
use Rattle.ir_core.specs.declared.types.Ty as opened
use Rattle.ir_core.specs.declared.types.Ty.TheVariants as types
use Rattle.ir_core.specs.declared.types.Ty.TheOpen.{Ty-F}
use Rattle.ir_core.specs.declared.types.Ty.TheFolds.{fold-roll-Ty}
use Rattle.ir_core.specs.declared.types.TypeId.{TypeId}
use Rattle.ir_core.specs.declared.types.Width.{Width}
use Rattle.ir_core.specs.declared.types.Width.TheVariants.{W1, W8, W16, W32, W64}
use Rattle.ir_core.specs.declared.types.Sym.{Sym}
use Rattle.ir_core.specs.declared.values.ConstGep.{ConstGep}
use Rattle.ir_grammar.specs.declared.heads.Bracket.{Bracket}
use Rattle.ir_grammar.specs.declared.heads.Bracket.TheVariants.{Opens, Closes}
use Rattle.ir_grammar.specs.declared.heads.TypeHead.{TypeHead}
use Rattle.ir_grammar.specs.declared.heads.TypeHead.TheVariants as heads
use Rattle.ir_grammar.specs.declared.heads.FlagSet.{FlagSet}
use Rattle.ir_grammar.specs.declared.heads.FlagSet.TheVariants.{Gep}
use Rattle.ir_grammar.specs.Parts.{Tok, Part, gives, one, ◌>>=◌, IsOne, IsRow}
use Rattle.ir_grammar.specs.Tokens.{word_of, is_word, is_punct, name_place, known, keyword, punct, comma, close_brace}
use Rattle.ir_grammar.specs.Numbers.{bits, count_of, word_written}
use Rattle.ir_grammar.specs.Words.{entry, in_table, flag_of, flags}
use Rattle.ir_grammar.specs.Types.{type_word, bracket, type_head, flat, flat_type, type_rest, typ, listed, more_listed, any_depth, width}
use Rattle.ir_grammar.specs.Values.{truth, integer_of, integer, sym_of, constant_index, const_operands, const_gep}
use Rattle.ir_grammar.specs.Fitting.{bracket_of, open_behind, open_after}
use Rattle.ir_grammar.proofs.Fronts.{before}
use Rattle.ir_numbering.specs.Renaming.{Renaming, renamed_step, renamed_ty, renamed_gep}
use Rattle.hard_grammar.proofs.Words.{AnInt, APtr}
use Rattle.hard_grammar.proofs.OwnLines.{word_renamed}

-- ---- brackets

-- Behind these tokens as many brackets are open as before them, where there are never too many.
abbrev pub IsBalanced : List Tok → Type 0
IsBalanced tokens = (n : ℕ) (rest : List Tok) → is_some (open_after n tokens) ≡ true → open_after n (tokens ++ rest) ≡ open_after n rest

pub none-balanced : IsBalanced []
none-balanced n rest e = refl

-- a token that is no bracket
pub one-balanced : (t : Tok) → bracket_of t ≡ None → IsBalanced (t ∷ [])
unfolding open_after
one-balanced t none n rest e = ap (λ b. option_and_then (λ m. open_after m rest) (open_behind b n)) none

pub both-balanced : (xs ys : List Tok) → IsBalanced xs → IsBalanced ys → IsBalanced (xs ++ ys)
both-balanced xs ys a b n rest e =
    let first : is_some (open_after n xs) ≡ true = before n xs ys e in
    let second : is_some (open_after n ys) ≡ true = ap is_some (sym (a n ys first)) ∙ e in
    ap (open_after n) (append_assoc xs ys rest) ∙ a n (ys ++ rest) first ∙ b n rest second

-- tokens in brackets
pub wrapped-balanced : (first last : Tok) (inner : List Tok) → bracket_of first ≡ Some Opens → bracket_of last ≡ Some Closes → IsBalanced inner → IsBalanced (first ∷ inner ++ last ∷ [])
unfolding open_after
wrapped-balanced first last inner opens closes even n rest e =
    ap (λ b. option_and_then (λ m. open_after m ((inner ++ last ∷ []) ++ rest)) (open_behind b n)) opens
    ∙ by_room (nat_lt n 64) (sym (ap (λ b. is_some (option_and_then (λ m. open_after m (inner ++ last ∷ [])) (open_behind b n))) opens) ∙ e)
  where
    one_less : (m : ℕ) → suc m - 1 ≡ m
    one_less m = omega arith

    closed : (m : ℕ) → is_some (open_after (suc m) (inner ++ last ∷ [])) ≡ true → open_after (suc m) ((inner ++ last ∷ []) ++ rest) ≡ open_after m rest
    closed m f =
        ap (open_after (suc m)) (append_assoc inner (last ∷ []) rest) ∙ even (suc m) (last ∷ rest) (before (suc m) inner (last ∷ []) f)
        ∙ ap (λ b. option_and_then (λ k. open_after k rest) (open_behind b (suc m))) closes ∙ ap (λ (k : ℕ). open_after k rest) (one_less m)

    by_room : (room : Bool) → is_some (option_and_then (λ m. open_after m (inner ++ last ∷ [])) (if room then Some (suc n) else None)) ≡ true
        → option_and_then (λ m. open_after m ((inner ++ last ∷ []) ++ rest)) (if room then Some (suc n) else None) ≡ open_after n rest
    by_room true f = closed n f
    by_room false f = absurd (let clash : false ≡ true = f in cc)

-- ---- single tokens

abbrev token : TokKind → List ℕ → ℕ → Tok
token kind text at = record { kind = kind; text = text; at = at }

known-true : (b v : Bool) → known b ≡ Some v → b ≡ true
known-true true v e = refl
known-true false v e = absurd cc

pub table-opens-none : {A : Type 0} (table : List ℕ → Option A) (kind : TokKind) (text : List ℕ) (at : ℕ) (a : A) → in_table table (token kind text at) ≡ Some a → bracket_of (token kind text at) ≡ None
table-opens-none table Word text at a e = refl
table-opens-none table Local text at a e = cc
table-opens-none table At text at a e = cc
table-opens-none table Label text at a e = cc
table-opens-none table Num text at a e = cc
table-opens-none table Bytes text at a e = cc
table-opens-none table Str text at a e = cc
table-opens-none table Hash text at a e = cc
table-opens-none table Bang text at a e = cc
table-opens-none table Punct text at a e = cc

-- a token of a table's word
pub in-table-balanced : {A : Type 0} (table : List ℕ → Option A) {tokens : List Tok} {a : A} → IsOne (in_table table) tokens a → IsBalanced tokens
in-table-balanced table {tokens} {a} h = subst IsBalanced (sym h.whole) (one-balanced h.token (table-opens-none table h.token.kind h.token.text h.token.at a h.is))

word-opens-none : (word : List ℕ) (kind : TokKind) (text : List ℕ) (at : ℕ) → is_word word (token kind text at) ≡ true → bracket_of (token kind text at) ≡ None
word-opens-none word Word text at e = refl
word-opens-none word Local text at e = absurd cc
word-opens-none word At text at e = absurd cc
word-opens-none word Label text at e = absurd cc
word-opens-none word Num text at e = absurd cc
word-opens-none word Bytes text at e = absurd cc
word-opens-none word Str text at e = absurd cc
word-opens-none word Hash text at e = absurd cc
word-opens-none word Bang text at e = absurd cc
word-opens-none word Punct text at e = absurd cc

pub word-balanced : (word : List ℕ) (t : Tok) → is_word word t ≡ true → IsBalanced (t ∷ [])
word-balanced word t e = one-balanced t (word-opens-none word t.kind t.text t.at e)

pub table-shallow : {A : Type 0} (table : List ℕ → Option A) {tokens : List Tok} {a : A} → IsOne (in_table table) tokens a → (rest : List Tok) → open_after 0 (tokens ++ rest) ≡ open_after 0 rest
unfolding open_after
table-shallow table {tokens} {a} h rest =
    ap (λ (ts : List Tok). open_after 0 (ts ++ rest)) h.whole
    ∙ ap (λ b. option_and_then (λ m. open_after m rest) (open_behind b 0)) (table-opens-none table h.token.kind h.token.text h.token.at a h.is)

pub keyword-balanced : (word : List ℕ) {tokens : List Tok} {v : Bool} → (keyword word).means tokens v → IsBalanced tokens
keyword-balanced word {tokens} {v} h = subst IsBalanced (sym h.whole) (one-balanced h.token (word-opens-none word h.token.kind h.token.text h.token.at (known-true _ v h.is)))

-- what punctuation of a byte does to brackets
abbrev punct_bracket : ℕ → Option Bracket
punct_bracket byte = bracket_of (token Punct (byte ∷ []) 0)

punct-brackets : (byte : ℕ) (kind : TokKind) (text : List ℕ) (at : ℕ) → is_punct byte (token kind text at) ≡ true → bracket_of (token kind text at) ≡ punct_bracket byte
punct-brackets byte Punct text at e = let same : text ≡ byte ∷ [] = (bytes_eq-Decides text (byte ∷ [])).0 e in subst (λ (own : List ℕ). bracket_of (token Punct own at) ≡ punct_bracket byte) (sym same) refl
punct-brackets byte Word text at e = absurd cc
punct-brackets byte Local text at e = absurd cc
punct-brackets byte At text at e = absurd cc
punct-brackets byte Label text at e = absurd cc
punct-brackets byte Num text at e = absurd cc
punct-brackets byte Bytes text at e = absurd cc
punct-brackets byte Str text at e = absurd cc
punct-brackets byte Hash text at e = absurd cc
punct-brackets byte Bang text at e = absurd cc

pub punct-bracket-of : (byte : ℕ) {tokens : List Tok} {v : Bool} (h : (punct byte).means tokens v) → bracket_of h.token ≡ punct_bracket byte
punct-bracket-of byte {tokens} {v} h = punct-brackets byte h.token.kind h.token.text h.token.at (known-true _ v h.is)

pub comma-balanced : {tokens : List Tok} {v : Bool} → (punct comma).means tokens v → IsBalanced tokens
comma-balanced {tokens} {v} h = subst IsBalanced (sym h.whole) (one-balanced h.token (punct-bracket-of comma h))

count-opens-none : (limit : ℕ) (kind : TokKind) (text : List ℕ) (at n : ℕ) → count_of limit (token kind text at) ≡ Some n → bracket_of (token kind text at) ≡ None
count-opens-none limit Num text at n e = refl
count-opens-none limit Word text at n e = absurd cc
count-opens-none limit Local text at n e = absurd cc
count-opens-none limit At text at n e = absurd cc
count-opens-none limit Label text at n e = absurd cc
count-opens-none limit Bytes text at n e = absurd cc
count-opens-none limit Str text at n e = absurd cc
count-opens-none limit Hash text at n e = absurd cc
count-opens-none limit Bang text at n e = absurd cc
count-opens-none limit Punct text at n e = absurd cc

pub integer-opens-none : (w : Width) (kind : TokKind) (text : List ℕ) (at n : ℕ) → integer_of w (token kind text at) ≡ Some n → bracket_of (token kind text at) ≡ None
integer-opens-none w Num text at n e = refl
integer-opens-none w Word text at n e = refl
integer-opens-none w Local text at n e = absurd cc
integer-opens-none w At text at n e = absurd cc
integer-opens-none w Label text at n e = absurd cc
integer-opens-none w Bytes text at n e = absurd cc
integer-opens-none w Str text at n e = absurd cc
integer-opens-none w Hash text at n e = absurd cc
integer-opens-none w Bang text at n e = absurd cc
integer-opens-none w Punct text at n e = absurd cc

sym-opens-none : (kind : TokKind) (text : List ℕ) (at : ℕ) (s : Sym) → sym_of (token kind text at) ≡ Some s → bracket_of (token kind text at) ≡ None
sym-opens-none At text at s e = refl
sym-opens-none Word text at s e = absurd cc
sym-opens-none Num text at s e = absurd cc
sym-opens-none Local text at s e = absurd cc
sym-opens-none Label text at s e = absurd cc
sym-opens-none Bytes text at s e = absurd cc
sym-opens-none Str text at s e = absurd cc
sym-opens-none Hash text at s e = absurd cc
sym-opens-none Bang text at s e = absurd cc
sym-opens-none Punct text at s e = absurd cc

-- ---- first tokens of types

abbrev head_bracket : TypeHead → Option Bracket
head_bracket (heads.Int w) = None
head_bracket heads.Ptr = None
head_bracket (heads.Named id) = None
head_bracket heads.Array = Some Opens
head_bracket heads.Struct = Some Opens

entry-all : {A : Type 0} (P : A → Type 0) (rows : List (List ℕ × A)) (word : List ℕ) (a : A) → AllByRecursion (λ row. P row.1) rows → entry rows word ≡ Some a → P a
entry-all P [] word a all e = absurd cc
entry-all {A} P (row ∷ rows) word a all e = by (bytes_eq word row.0) e (entry-all P rows word a all.1)
  where
    by : (t : Bool) → ◌≡◌ {A = Option A} (if t then Some row.1 else entry rows word) (Some a) → (entry rows word ≡ Some a → P a) → P a
    by true h rest = let same : row.1 ≡ a = cc in subst P same all.0
    by false h rest = rest h

abbrev word_rows : List (List ℕ × TypeHead)
word_rows = (codes "i1", heads.Int W1) ∷ (codes "i8", heads.Int W8) ∷ (codes "i16", heads.Int W16) ∷ (codes "i32", heads.Int W32) ∷ (codes "i64", heads.Int W64) ∷ (codes "ptr", heads.Ptr) ∷ []

bracket-opens : (text : List ℕ) (at : ℕ) (head : TypeHead) → bracket true text ≡ Some head → bracket_of (token Punct text at) ≡ head_bracket head
bracket-opens text at head e = by (bytes_eq text (codes "[")) (bytes_eq text (codes "{")) refl refl e
  where
    by : (a b : Bool) → bytes_eq text (codes "[") ≡ a → bytes_eq text (codes "{") ≡ b → ◌≡◌ {A = Option TypeHead} (if a then Some heads.Array else if b then Some heads.Struct else None) (Some head)
        → bracket_of (token Punct text at) ≡ head_bracket head
    by true b f g h =
        let same : heads.Array ≡ head = cc in
        let text_is : text ≡ codes "[" = (bytes_eq-Decides text (codes "[")).0 f in
        subst (λ (x : TypeHead). bracket_of (token Punct text at) ≡ head_bracket x) same (subst (λ (own : List ℕ). bracket_of (token Punct own at) ≡ Some Opens) (sym text_is) refl)
    by false true f g h =
        let same : heads.Struct ≡ head = cc in
        let text_is : text ≡ codes "{" = (bytes_eq-Decides text (codes "{")).0 g in
        subst (λ (x : TypeHead). bracket_of (token Punct text at) ≡ head_bracket x) same (subst (λ (own : List ℕ). bracket_of (token Punct own at) ≡ Some Opens) (sym text_is) refl)
    by false false f g h = absurd cc

head-opens : (kind : TokKind) (text : List ℕ) (at : ℕ) (head : TypeHead) → type_head true (token kind text at) ≡ Some head → bracket_of (token kind text at) ≡ head_bracket head
head-opens Word text at head e = let all : AllByRecursion (λ row. None ≡ head_bracket row.1) word_rows = (refl, (refl, (refl, (refl, (refl, (refl, tt)))))) in entry-all (λ (h : TypeHead). None ≡ head_bracket h) word_rows text head all e
head-opens Local text at head e = let same : heads.Named (record { 0 = at + 1 }) ≡ head = cc in subst (λ (h : TypeHead). None ≡ head_bracket h) same refl
head-opens Punct text at head e = bracket-opens text at head e
head-opens At text at head e = absurd cc
head-opens Label text at head e = absurd cc
head-opens Num text at head e = absurd cc
head-opens Bytes text at head e = absurd cc
head-opens Str text at head e = absurd cc
head-opens Hash text at head e = absurd cc
head-opens Bang text at head e = absurd cc

-- ---- types, and what their names become

flat-opens-none : (kind : TokKind) (text : List ℕ) (at : ℕ) (ty : Ty) → flat_type (token kind text at) ≡ Some ty → bracket_of (token kind text at) ≡ None
flat-opens-none Word text at ty e = refl
flat-opens-none Local text at ty e = refl
flat-opens-none Punct text at ty e = absurd cc
flat-opens-none At text at ty e = absurd cc
flat-opens-none Label text at ty e = absurd cc
flat-opens-none Num text at ty e = absurd cc
flat-opens-none Bytes text at ty e = absurd cc
flat-opens-none Str text at ty e = absurd cc
flat-opens-none Hash text at ty e = absurd cc
flat-opens-none Bang text at ty e = absurd cc

-- two renamings that give names of types before a place the same numbers
module _ (q : Renaming) (loc type_id : ℕ → ℕ) (most : ℕ) (agree : (p : ℕ) → p < most → type_id p ≡ q.type_id p) where
  abbrev pub other : Renaming
  other = record { loc = loc; type_id = type_id; sym = q.sym }

  -- the token's name begins before that place
  abbrev pub IsUnder : Tok → Type 0
  IsUnder t = t.at + 1 < most

  abbrev pub AreUnder : List Tok → Type 0
  AreUnder = AllByRecursion IsUnder

  split : (front back : List Tok) → AreUnder (front ++ back) → AreUnder front × AreUnder back
  split [] back all = (tt, all)
  split (t ∷ front) back all = let w = split front back all.1 in ((all.0, w.0), w.1)

  pub under-front : {tokens : List Tok} (front back : List Tok) → tokens ≡ front ++ back → AreUnder tokens → AreUnder front
  under-front front back whole all = (split front back (subst AreUnder whole all)).0

  pub under-back : {tokens : List Tok} (front back : List Tok) → tokens ≡ front ++ back → AreUnder tokens → AreUnder back
  under-back front back whole all = (split front back (subst AreUnder whole all)).1

  -- the tokens stand for a type, whose names become the same
  record IsEven (tokens : List Tok) (ty : Ty) : Type 0 where
    closed : IsBalanced tokens
    same : AreUnder tokens → renamed_ty other ty ≡ renamed_ty q ty

  record AreEven (tokens : List Tok) (parts : List Ty) : Type 0 where
    closed : IsBalanced tokens
    same : AreUnder tokens → map (renamed_ty other) parts ≡ map (renamed_ty q) parts

  int-same : (w : Width) → renamed_ty other (types.Int w) ≡ renamed_ty q (types.Int w)
  int-same w = word_renamed (AnInt w) other ∙ sym (word_renamed (AnInt w) q)

  ptr-same : renamed_ty other types.Ptr ≡ renamed_ty q types.Ptr
  ptr-same = word_renamed APtr other ∙ sym (word_renamed APtr q)

  named-same : (id : TypeId) → id.0 < most → renamed_ty other (types.Named id) ≡ renamed_ty q (types.Named id)
  unfolding opened.roll-Ty denote.Hole.Carrier.roll
  named-same id under =
      fold-roll-Ty Ty (renamed_step type_id) (Ty-F.Named id) ∙ ap (λ (n : ℕ). types.Named (record { 0 = n })) (agree id.0 under) ∙ sym (fold-roll-Ty Ty (renamed_step q.type_id) (Ty-F.Named id))

  array-same : (n : ℕ) (element : Ty) → renamed_ty other element ≡ renamed_ty q element → renamed_ty other (types.Array n element) ≡ renamed_ty q (types.Array n element)
  unfolding opened.roll-Ty denote.Hole.Carrier.roll
  array-same n element e =
      fold-roll-Ty Ty (renamed_step type_id) (Ty-F.Array n element) ∙ ap (λ (ty : Ty). types.Array n ty) e ∙ sym (fold-roll-Ty Ty (renamed_step q.type_id) (Ty-F.Array n element))

  struct-same : (parts : List Ty) → map (renamed_ty other) parts ≡ map (renamed_ty q) parts → renamed_ty other (types.Struct parts) ≡ renamed_ty q (types.Struct parts)
  unfolding opened.roll-Ty denote.Hole.Carrier.roll
  struct-same parts e =
      fold-roll-Ty Ty (renamed_step type_id) (Ty-F.Struct parts) ∙ ap (λ (own : List Ty). types.Struct own) e ∙ sym (fold-roll-Ty Ty (renamed_step q.type_id) (Ty-F.Struct parts))

  flat-same : (kind : TokKind) (text : List ℕ) (at : ℕ) (head : TypeHead) (ty : Ty) (may : Bool) → type_head may (token kind text at) ≡ Some head → flat head ≡ Some ty → at + 1 < most → renamed_ty other ty ≡ renamed_ty q ty
  flat-same kind text at (heads.Int w) ty may e f under = let same : types.Int w ≡ ty = cc in subst (λ (t : Ty). renamed_ty other t ≡ renamed_ty q t) same (int-same w)
  flat-same kind text at heads.Ptr ty may e f under = let same : types.Ptr ≡ ty = cc in subst (λ (t : Ty). renamed_ty other t ≡ renamed_ty q t) same ptr-same
  flat-same kind text at (heads.Named id) ty may e f under = let same : types.Named id ≡ ty = cc in subst (λ (t : Ty). renamed_ty other t ≡ renamed_ty q t) same (named-same id (place kind id e))
    where
      entry-named : (rows : List (List ℕ × TypeHead)) (id : TypeId) → AllByRecursion (λ row. row.1 ≡ heads.Named id → ⊥) rows → entry rows text ≡ Some (heads.Named id) → ⊥
      entry-named rows id all e = entry-all (λ (h : TypeHead). h ≡ heads.Named id → ⊥) rows text (heads.Named id) all e refl

      place : (kind : TokKind) (id : TypeId) → type_head may (token kind text at) ≡ Some (heads.Named id) → id.0 < most
      place Local id e = let own : TypeId = record { 0 = at + 1 } in let same : own ≡ id = cc in subst (λ (i : TypeId). i.0 < most) same under
      place Word id e = absurd (entry-named word_rows id ((λ h. cc), ((λ h. cc), ((λ h. cc), ((λ h. cc), ((λ h. cc), ((λ h. cc), tt)))))) e)
      place Punct id e = absurd (by may e)
        where
          by : (may : Bool) → bracket may text ≡ Some (heads.Named id) → ⊥
          by true h = entry-named ((codes "[", heads.Array) ∷ (codes "{", heads.Struct) ∷ []) id ((λ h. cc), ((λ h. cc), tt)) h
          by false h = cc
      place At id e = absurd cc
      place Label id e = absurd cc
      place Num id e = absurd cc
      place Bytes id e = absurd cc
      place Str id e = absurd cc
      place Hash id e = absurd cc
      place Bang id e = absurd cc
  flat-same kind text at heads.Array ty may e f under = absurd cc
  flat-same kind text at heads.Struct ty may e f under = absurd cc

  -- a row of parts, each behind a comma
  row-even : (p : Part Ty) → ((tokens : List Tok) (ty : Ty) → p.means tokens ty → IsEven tokens ty) → (parts : List Ty) (tokens : List Tok) → IsRow (punct comma >>= λ _. p).means parts tokens → AreEven tokens parts
  row-even p even [] tokens h = record { closed = subst IsBalanced (sym h) none-balanced; same = λ under. refl }
  row-even p even (ty ∷ parts) tokens h =
      let first = h.first in
      let own = even first.back ty first.second in
      let rest = row-even p even parts h.back h.rest in
      let front : IsBalanced h.front = subst IsBalanced (sym first.whole) (both-balanced first.front first.back (comma-balanced first.first) own.closed) in
      record {
        closed = subst IsBalanced (sym h.whole) (both-balanced h.front h.back front rest.closed);
        same = λ under.
            let here = own.same (under-back first.front first.back first.whole (under-front h.front h.back h.whole under)) in
            let there = rest.same (under-back h.front h.back h.whole under) in
            ap (λ (t : Ty). t ∷ map (renamed_ty other) parts) here ∙ ap (λ (ts : List Ty). renamed_ty q ty ∷ ts) there;
      }

  rest-even : (inner : Part Ty) → ((tokens : List Tok) (ty : Ty) → inner.means tokens ty → IsEven tokens ty) → (first : Tok) (head : TypeHead) (tokens : List Tok) (ty : Ty)
      → type_head true first ≡ Some head → (type_rest inner head).means tokens ty → IsEven (first ∷ tokens) ty
  rest-even inner even first (heads.Int w) tokens ty e h = record {
    closed = subst (λ (ts : List Tok). IsBalanced (first ∷ ts)) (sym h.0) (one-balanced first (head-opens first.kind first.text first.at (heads.Int w) e));
    same = λ under. subst (λ (t : Ty). renamed_ty other t ≡ renamed_ty q t) (sym h.1) (int-same w);
  }
  rest-even inner even first heads.Ptr tokens ty e h = record {
    closed = subst (λ (ts : List Tok). IsBalanced (first ∷ ts)) (sym h.0) (one-balanced first (head-opens first.kind first.text first.at heads.Ptr e));
    same = λ under. subst (λ (t : Ty). renamed_ty other t ≡ renamed_ty q t) (sym h.1) ptr-same;
  }
  rest-even inner even first (heads.Named id) tokens ty e h = record {
    closed = subst (λ (ts : List Tok). IsBalanced (first ∷ ts)) (sym h.0) (one-balanced first (head-opens first.kind first.text first.at (heads.Named id) e));
    same = λ under. flat-same first.kind first.text first.at (heads.Named id) ty true e (ap Some (sym h.1)) under.0;
  }
  rest-even inner even first heads.Array tokens ty e h =
      let a = h.second in
      let b = a.second in
      let c = b.second in
      let own = even b.front b.value b.first in
      let front : IsBalanced h.front = subst IsBalanced (sym h.first.whole) (one-balanced h.first.token (count-opens-none _ h.first.token.kind h.first.token.text h.first.token.at h.value h.first.is)) in
      let inside : IsBalanced (h.front ++ (a.front ++ b.front)) = both-balanced h.front (a.front ++ b.front) front (both-balanced a.front b.front (keyword-balanced (codes "x") a.first) own.closed) in
      let last : b.back ≡ c.first.token ∷ [] = c.whole ∙ ap (λ (ts : List Tok). ts ++ c.back) c.first.whole ∙ ap (λ (ts : List Tok). c.first.token ∷ ts) c.second.0 in
      let whole : tokens ≡ (h.front ++ (a.front ++ b.front)) ++ c.first.token ∷ [] =
      h.whole ∙ ap (λ (ts : List Tok). h.front ++ ts) (a.whole ∙ ap (λ (ts : List Tok). a.front ++ ts) (b.whole ∙ ap (λ (ts : List Tok). b.front ++ ts) last))
      ∙ ap (λ (ts : List Tok). h.front ++ ts) (sym (append_assoc a.front b.front (c.first.token ∷ []))) ∙ sym (append_assoc h.front (a.front ++ b.front) (c.first.token ∷ [])) in
      record {
        closed = subst (λ (ts : List Tok). IsBalanced (first ∷ ts)) (sym whole)
            (wrapped-balanced first c.first.token (h.front ++ (a.front ++ b.front)) (head-opens first.kind first.text first.at heads.Array e) (punct-bracket-of 93 c.first) inside);
        same = λ under. subst (λ (t : Ty). renamed_ty other t ≡ renamed_ty q t) (sym c.second.1)
            (array-same h.value b.value (own.same (under-front b.front b.back b.whole (under-back a.front a.back a.whole (under-back h.front h.back h.whole under.1)))));
      }
  rest-even inner even first heads.Struct tokens ty e h = by h.value h.first (sym h.second.1)
    where
      made : (parts : List Ty) → types.Struct parts ≡ ty → (AreUnder h.front → map (renamed_ty other) parts ≡ map (renamed_ty q) parts) → AreUnder (first ∷ tokens) → renamed_ty other ty ≡ renamed_ty q ty
      made parts is same under = subst (λ (t : Ty). renamed_ty other t ≡ renamed_ty q t) is (struct-same parts (same (under-front h.front h.back h.whole under.1)))

      front : tokens ≡ h.front
      front = h.whole ∙ ap (λ (ts : List Tok). h.front ++ ts) h.second.0 ∙ append-nil h.front

      by : (parts : List Ty) → (listed close_brace inner).means h.front parts → types.Struct parts ≡ ty → IsEven (first ∷ tokens) ty
      by parts (inl x) is =
          let last : h.front ≡ x.first.token ∷ [] = x.whole ∙ ap (λ (ts : List Tok). ts ++ x.back) x.first.whole ∙ ap (λ (ts : List Tok). x.first.token ∷ ts) x.second.0 in
          record {
            closed = subst (λ (ts : List Tok). IsBalanced (first ∷ ts)) (sym (front ∙ last))
                (wrapped-balanced first x.first.token [] (head-opens first.kind first.text first.at heads.Struct e) (punct-bracket-of 125 x.first) none-balanced);
            same = made parts is (λ under. ap (λ (ps : List Ty). map (renamed_ty other) ps) x.second.1 ∙ ap (λ (ps : List Ty). map (renamed_ty q) ps) (sym x.second.1));
          }
      by parts (inr x) is =
          let a = x.second in
          let b = a.second in
          let own = even x.front x.value x.first in
          let row = row-even inner even a.first.value a.front a.first.is in
          let last : a.back ≡ b.first.token ∷ [] = b.whole ∙ ap (λ (ts : List Tok). ts ++ b.back) b.first.whole ∙ ap (λ (ts : List Tok). b.first.token ∷ ts) b.second.0 in
          let whole : h.front ≡ (x.front ++ a.front) ++ b.first.token ∷ [] =
          x.whole ∙ ap (λ (ts : List Tok). x.front ++ ts) (a.whole ∙ ap (λ (ts : List Tok). a.front ++ ts) last) ∙ sym (append_assoc x.front a.front (b.first.token ∷ [])) in
          let parts_are : parts ≡ x.value ∷ a.first.value = b.second.1 ∙ a.first.seen in
          record {
            closed = subst (λ (ts : List Tok). IsBalanced (first ∷ ts)) (sym (front ∙ whole))
                (wrapped-balanced first b.first.token (x.front ++ a.front) (head-opens first.kind first.text first.at heads.Struct e) (punct-bracket-of 125 b.first) (both-balanced x.front a.front own.closed row.closed));
            same = made parts is (λ under.
                let here = own.same (under-front x.front x.back x.whole under) in
                let there = row.same (under-front a.front a.back a.whole (under-back x.front x.back x.whole under)) in
                ap (λ (ps : List Ty). map (renamed_ty other) ps) parts_are ∙ ap (λ (t : Ty). t ∷ map (renamed_ty other) a.first.value) here
                ∙ ap (λ (ts : List Ty). renamed_ty q x.value ∷ ts) there ∙ ap (λ (ps : List Ty). map (renamed_ty q) ps) (sym parts_are));
          }

  typ-even : (n : ℕ) (tokens : List Tok) (ty : Ty) → (typ n).means tokens ty → IsEven tokens ty
  unfolding typ
  typ-even zero tokens ty h = record {
    closed = subst IsBalanced (sym h.whole) (one-balanced h.token (flat-opens-none h.token.kind h.token.text h.token.at ty h.is));
    same = λ under. by (type_head false h.token) refl h.is (subst AreUnder h.whole under).0;
  }
    where
      by : (head : Option TypeHead) → type_head false h.token ≡ head → option_and_then flat head ≡ Some ty → IsUnder h.token → renamed_ty other ty ≡ renamed_ty q ty
      by None e f under = absurd cc
      by (Some head) e f under = flat-same h.token.kind h.token.text h.token.at head ty false e f under
  typ-even (suc n) tokens ty h =
      let whole : tokens ≡ h.first.token ∷ h.back = h.whole ∙ ap (λ (ts : List Tok). ts ++ h.back) h.first.whole in
      subst (λ (ts : List Tok). IsEven ts ty) (sym whole) (rest-even (typ n) (typ-even n) h.first.token h.value h.back ty h.first.is h.second)

  -- ---- constant getelementptr

  index-balanced : (tokens : List Tok) (index : Width × ℕ) → constant_index.means tokens index → IsBalanced tokens
  unfolding constant_index
  index-balanced tokens index h =
      let a = h.second in
      let number : IsBalanced a.front = subst IsBalanced (sym a.first.whole) (one-balanced a.first.token (integer-opens-none h.value a.first.token.kind a.first.token.text a.first.token.at a.value a.first.is)) in
      let back : IsBalanced h.back = subst IsBalanced (sym (a.whole ∙ ap (λ (ts : List Tok). a.front ++ ts) a.second.0)) (both-balanced a.front [] number none-balanced) in
      subst IsBalanced (sym h.whole) (both-balanced h.front h.back (in-table-balanced _ h.first) back)

  index-row : (values : List (Width × ℕ)) (tokens : List Tok) → IsRow (punct comma >>= λ _. constant_index).means values tokens → IsBalanced tokens
  index-row [] tokens h = subst IsBalanced (sym h) none-balanced
  index-row (index ∷ values) tokens h =
      let first = h.first in
      let front : IsBalanced h.front = subst IsBalanced (sym first.whole) (both-balanced first.front first.back (comma-balanced first.first) (index-balanced first.back index first.second)) in
      subst IsBalanced (sym h.whole) (both-balanced h.front h.back front (index-row values h.back h.rest))

  flag-row : {A : Type 0} (table : List ℕ → Option A) (values : List A) (tokens : List Tok) → IsRow (IsOne (in_table table)) values tokens → IsBalanced tokens
  flag-row table [] tokens h = subst IsBalanced (sym h) none-balanced
  flag-row table (flag ∷ values) tokens h = subst IsBalanced (sym h.whole) (both-balanced h.front h.back (in-table-balanced table h.first) (flag-row table values h.back h.rest))

  gep-even : (tokens : List Tok) (gep : ConstGep) → const_gep.means tokens gep → IsBalanced tokens
  unfolding const_gep const_operands flags
  gep-even tokens gep h =
      let a = h.second in
      let b = a.second in
      let c = b.second in
      let d = c.first in
      let d1 = d.second in
      let d2 = d1.second in
      let d3 = d2.second in
      let d4 = d3.second in
      let d5 = d4.second in
      let d6 = d5.second in
      let symbol : IsBalanced d2.front = subst IsBalanced (sym d2.first.whole) (one-balanced d2.first.token (sym-opens-none d2.first.token.kind d2.first.token.text d2.first.token.at d2.value d2.first.is)) in
      let inner = b.front ++ (d.front ++ (d1.front ++ (d2.front ++ (d3.front ++ (d4.front ++ d5.front))))) in
      let inside : IsBalanced inner =
      both-balanced b.front _ (typ-even any_depth b.front b.value b.first).closed
      (both-balanced d.front _ (comma-balanced d.first)
      (both-balanced d1.front _ (keyword-balanced (codes "ptr") d1.first)
      (both-balanced d2.front _ symbol
      (both-balanced d3.front _ (comma-balanced d3.first)
      (both-balanced d4.front _ (index-balanced d4.front d4.value d4.first) (index-row d5.first.value d5.front d5.first.is)))))) in
      let last : d5.back ≡ d6.first.token ∷ [] = d6.whole ∙ ap (λ (ts : List Tok). ts ++ d6.back) d6.first.whole ∙ ap (λ (ts : List Tok). d6.first.token ∷ ts) d6.second.0 in
      let close = d6.first.token ∷ [] in
      let behind : b.back ≡ d.front ++ (d1.front ++ (d2.front ++ (d3.front ++ (d4.front ++ (d5.front ++ close))))) =
      c.whole ∙ ap (λ (ts : List Tok). c.front ++ ts) c.second.0 ∙ append-nil c.front
      ∙ d.whole ∙ ap (λ (ts : List Tok). d.front ++ ts) (d1.whole ∙ ap (λ (ts : List Tok). d1.front ++ ts) (d2.whole ∙ ap (λ (ts : List Tok). d2.front ++ ts)
      (d3.whole ∙ ap (λ (ts : List Tok). d3.front ++ ts) (d4.whole ∙ ap (λ (ts : List Tok). d4.front ++ ts) (d5.whole ∙ ap (λ (ts : List Tok). d5.front ++ ts) last))))) in
      let joined : b.front ++ (d.front ++ (d1.front ++ (d2.front ++ (d3.front ++ (d4.front ++ (d5.front ++ close)))))) ≡ inner ++ close =
      ap (λ (ts : List Tok). b.front ++ (d.front ++ (d1.front ++ (d2.front ++ (d3.front ++ ts))))) (sym (append_assoc d4.front d5.front close))
      ∙ ap (λ (ts : List Tok). b.front ++ (d.front ++ (d1.front ++ (d2.front ++ ts)))) (sym (append_assoc d3.front _ close))
      ∙ ap (λ (ts : List Tok). b.front ++ (d.front ++ (d1.front ++ ts))) (sym (append_assoc d2.front _ close))
      ∙ ap (λ (ts : List Tok). b.front ++ (d.front ++ ts)) (sym (append_assoc d1.front _ close))
      ∙ ap (λ (ts : List Tok). b.front ++ ts) (sym (append_assoc d.front _ close))
      ∙ sym (append_assoc b.front _ close) in
      let wrapped : IsBalanced (a.first.token ∷ inner ++ close) = wrapped-balanced a.first.token d6.first.token inner (punct-bracket-of 40 a.first) (punct-bracket-of 41 d6.first) inside in
      let whole : h.back ≡ a.first.token ∷ inner ++ close = a.whole ∙ ap (λ (ts : List Tok). ts ++ a.back) a.first.whole ∙ ap (λ (ts : List Tok). a.first.token ∷ ts) (b.whole ∙ ap (λ (ts : List Tok). b.front ++ ts) behind ∙ joined) in
      subst IsBalanced (sym h.whole) (both-balanced h.front h.back (flag-row _ h.first.value h.front h.first.is) (subst IsBalanced (sym whole) wrapped))

  pub gep-same : (tokens : List Tok) (gep : ConstGep) → const_gep.means tokens gep → AreUnder tokens → renamed_gep other gep ≡ renamed_gep q gep
  unfolding const_gep
  gep-same tokens gep h under =
      let a = h.second in
      let b = a.second in
      let made : ConstGep = record { base = b.value; sym = b.second.value.0; index = b.second.value.1 } in
      let is : gep ≡ made = b.second.second.1 in
      let base = (typ-even any_depth b.front b.value b.first).same (under-front b.front b.back b.whole (under-back a.front a.back a.whole (under-back h.front h.back h.whole under))) in
      ap (renamed_gep other) is ∙ ap (λ (ty : Ty). let x : ConstGep = record (renamed_gep q made) { base = ty } in x) base ∙ ap (renamed_gep q) (sym is)

pub gep-balanced : (tokens : List Tok) (gep : ConstGep) → const_gep.means tokens gep → IsBalanced tokens
gep-balanced tokens gep h =
    let same : Renaming = record { loc = λ n. n; type_id = λ n. n; sym = λ n. n } in
    gep-even same (λ n. n) (λ n. n) 0 (λ p under. refl) tokens gep h
