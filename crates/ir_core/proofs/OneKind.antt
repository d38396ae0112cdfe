-- A text is a token of one kind at most.
use Rattle.std.proofs.Common.{◌≡◌, ℕ, ◌⊎◌, inl, inr, Bool, true, false, if◌then◌else◌, ◌&&◌, ◌||◌, eqb, List, [], ◌∷◌, ◌++◌, refl, sym, ap, ◌∙◌, arith}
use Rattle.std.specs.List.{list_all}
use Rattle.std.specs.Prelude.{codes, ◌==◌}
use Rattle.std.proofs.lemmas.Bool.Decides.{nat_tests}
use Rattle.ir_core.specs.declared.text.TokKind.{TokKind}
use Rattle.ir_core.specs.declared.text.TokKind.TheVariants.{Word, Local, At, Label, Num, Bytes, Str, Hash, Bang, Punct}
use Rattle.ir_core.specs.Tokens.{is_digit, begins_word, is_word_byte, begins_name, is_name_byte, is_punct, is_digits, is_name, is_word, is_one_punct, Behind, IsToken}
use Rattle.ir_core.proofs.Lengths.{both_true, both, either_true, apart, all_pass}

-- the bytes have this one
has : ℕ → List ℕ → Bool
has c [] = false
has c (b ∷ bytes) = b == c || has c bytes

-- the kind of the texts that begin with a byte of names, and the kind of the others
named : ℕ → List ℕ → TokKind
named b rest = if has 34 rest then Bytes else if has 58 rest then Label else if begins_word b then Word else Num

marked : ℕ → TokKind
marked b = if b == 37 then Local else if b == 64 then At else if b == 35 then Hash else if b == 33 then Bang else if b == 34 then Str else Punct

kind_of : List ℕ → TokKind
kind_of [] = Punct
kind_of (b ∷ rest) = if is_name_byte b then named b rest else marked b

lacks : (p : ℕ → Bool) (c : ℕ) (bytes : List ℕ) → p c ≡ false → list_all p bytes ≡ true → has c bytes ≡ false
unfolding has
lacks p c [] fails all = refl
lacks p c (b ∷ bytes) fails all =
    let w = both_true (p b) (list_all p bytes) all in
    rw (apart p b c fails w.0) (lacks p c bytes fails w.1)

has-append : (c : ℕ) (bytes more : List ℕ) → has c (bytes ++ more) ≡ (has c bytes || has c more)
unfolding has
has-append c [] more = refl
has-append c (b ∷ bytes) more = by (eqb b c) (has-append c bytes more)
  where
    by : (t : Bool) → has c (bytes ++ more) ≡ (has c bytes || has c more) → (t || has c (bytes ++ more)) ≡ ((t || has c bytes) || has c more)
    by true e = refl
    by false e = e

or_left : (a b : Bool) → a ≡ true → (a || b) ≡ true
or_left true b e = refl
or_left false b e = absurd cc

or_right : (a b : Bool) → b ≡ true → (a || b) ≡ true
or_right true b e = refl
or_right false b e = e

digit_named : (b : ℕ) → is_digit b ≡ true → is_name_byte b ≡ true
digit_named b e = or_right (begins_name b) (is_digit b) e

word_begins : (b : ℕ) → begins_word b ≡ true → begins_name b ≡ true
word_begins b e = grind (arith, nat_tests)

word_named : (b : ℕ) → is_word_byte b ≡ true → is_name_byte b ≡ true
word_named b e = grind (arith, nat_tests)

digit_word : (b : ℕ) → is_digit b ≡ true → begins_word b ≡ false
digit_word b e = grind (arith, nat_tests)

name_bytes : (name : List ℕ) → is_name name ≡ true → list_all is_name_byte name ≡ true
name_bytes [] e = absurd cc
name_bytes (b ∷ name) e = by (either_true (begins_name b && list_all is_name_byte name) (list_all is_digit (b ∷ name)) e)
  where
    by : ((begins_name b && list_all is_name_byte name) ≡ true) ⊎ (list_all is_digit (b ∷ name) ≡ true) → list_all is_name_byte (b ∷ name) ≡ true
    by (inl h) = let w = both_true (begins_name b) (list_all is_name_byte name) h in both (is_name_byte b) _ (or_left (begins_name b) (is_digit b) w.0) w.1
    by (inr h) = all_pass is_digit is_name_byte (b ∷ name) digit_named h

-- a text that begins with a byte of names
kind_named : (b : ℕ) (rest : List ℕ) → is_name_byte b ≡ true → kind_of (b ∷ rest) ≡ named b rest
unfolding kind_of
kind_named b rest e = rw e refl

word_kind : (text : List ℕ) → is_word text ≡ true → kind_of text ≡ Word
unfolding kind_of named
word_kind [] e = absurd cc
word_kind (b ∷ rest) e =
    let w = both_true (begins_word b) (list_all is_word_byte rest) e in
    kind_named b rest (or_left (begins_name b) (is_digit b) (word_begins b w.0)) ∙ rw (lacks is_word_byte 34 rest refl w.1, lacks is_word_byte 58 rest refl w.1, w.0) refl

digits_kind : (text : List ℕ) → is_digits text ≡ true → kind_of text ≡ Num
unfolding kind_of named
digits_kind [] e = absurd cc
digits_kind (b ∷ rest) e =
    let w = both_true (is_digit b) (list_all is_digit rest) e in
    kind_named b rest (digit_named b w.0) ∙ rw (lacks is_digit 34 rest refl w.1, lacks is_digit 58 rest refl w.1, digit_word b w.0) refl

minus_kind : (rest : List ℕ) → is_digits rest ≡ true → kind_of (45 ∷ rest) ≡ Num
unfolding kind_of named
minus_kind [] e = absurd cc
minus_kind (b ∷ rest) e = rw (lacks is_digit 34 (b ∷ rest) refl e, lacks is_digit 58 (b ∷ rest) refl e) refl

label_kind : (name : List ℕ) → is_name name ≡ true → kind_of (name ++ 58 ∷ []) ≡ Label
unfolding kind_of named has
label_kind [] e = absurd cc
label_kind (b ∷ name) e =
    let w = both_true (is_name_byte b) (list_all is_name_byte name) (name_bytes (b ∷ name) e) in
    let quote : has 34 (name ++ 58 ∷ []) ≡ false = has-append 34 name (58 ∷ []) ∙ ap (λ (t : Bool). t || false) (lacks is_name_byte 34 name refl w.1) in
    let colon : has 58 (name ++ 58 ∷ []) ≡ true = has-append 58 name (58 ∷ []) ∙ ap (λ (t : Bool). t || true) (lacks is_name_byte 58 name refl w.1) in
    kind_named b (name ++ 58 ∷ []) w.0 ∙ rw (quote, colon) refl

punct_kind : (b : ℕ) → is_punct b ≡ true → kind_of (b ∷ []) ≡ Punct
unfolding kind_of named marked
punct_kind b e = rw (punct_name b e, punct_is b 37 refl e, punct_is b 64 refl e, punct_is b 35 refl e, punct_is b 33 refl e, punct_is b 34 refl e) refl
  where
    punct_is : (b k : ℕ) → is_punct k ≡ false → is_punct b ≡ true → eqb b k ≡ false
    punct_is b k fails e = apart is_punct b k fails e

    punct_name : (b : ℕ) → is_punct b ≡ true → is_name_byte b ≡ false
    punct_name b e = grind (arith, nat_tests)

of_whole : (text whole : List ℕ) (kind : TokKind) → text ≡ whole → kind_of whole ≡ kind → kind_of text ≡ kind
of_whole text whole kind e h = ap kind_of e ∙ h

one_punct_kind : (text : List ℕ) → is_one_punct text ≡ true → kind_of text ≡ Punct
one_punct_kind [] e = absurd cc
one_punct_kind (b ∷ []) e = punct_kind b e
one_punct_kind (b ∷ c ∷ text) e = absurd cc

num_kind : (text : List ℕ) → (is_digits text ≡ true) ⊎ Behind (codes "-") is_digits text → kind_of text ≡ Num
num_kind text (inl e) = digits_kind text e
num_kind text (inr h) = of_whole text (45 ∷ h.rest) Num h.whole (minus_kind h.rest h.passes)

kind_is : (first : Bool) (kind : TokKind) (text : List ℕ) → IsToken first kind text → kind_of text ≡ kind
unfolding IsToken kind_of named marked has
kind_is first Word text h = word_kind text h
kind_is first Local text h = of_whole text (37 ∷ h.rest) Local h.whole refl
kind_is first At text h = of_whole text (64 ∷ h.rest) At h.whole refl
kind_is first Label text h = of_whole text (h.1.begin ++ 58 ∷ []) Label h.1.whole (label_kind h.1.begin h.1.passes)
kind_is first Num text h = num_kind text h
kind_is first Bytes text h = of_whole text (99 ∷ 34 ∷ (h.inside ++ 34 ∷ [])) Bytes h.whole refl
kind_is first Str text h = of_whole text (34 ∷ (h.inside ++ 34 ∷ [])) Str h.whole refl
kind_is first Hash text h = of_whole text (35 ∷ h.rest) Hash h.whole refl
kind_is first Bang text h = of_whole text (33 ∷ h.rest) Bang h.whole refl
kind_is first Punct text h = one_punct_kind text h

-- a text is a token of one kind at most
pub one_kind : (first : Bool) (kind other : TokKind) (text : List ℕ) → IsToken first kind text → IsToken first other text → kind ≡ other
one_kind first kind other text h k = sym (kind_is first kind text h) ∙ kind_is first other text k

-- no token is empty
pub nonempty : (first : Bool) (kind : TokKind) → IsToken first kind [] → ⊥
unfolding IsToken
nonempty first Word h = let e : false ≡ true = h in cc
nonempty first Local h = let e : [] ≡ 37 ∷ h.rest = h.whole in cc
nonempty first At h = let e : [] ≡ 64 ∷ h.rest = h.whole in cc
nonempty first Label h = by h.1.begin h.1.whole
  where
    by : (begin : List ℕ) → [] ≡ begin ++ 58 ∷ [] → ⊥
    by [] e = cc
    by (b ∷ begin) e = cc
nonempty first Num (inl h) = let e : false ≡ true = h in cc
nonempty first Num (inr h) = let e : [] ≡ 45 ∷ h.rest = h.whole in cc
nonempty first Bytes h = let e : [] ≡ 99 ∷ 34 ∷ (h.inside ++ 34 ∷ []) = h.whole in cc
nonempty first Str h = let e : [] ≡ 34 ∷ (h.inside ++ 34 ∷ []) = h.whole in cc
nonempty first Hash h = let e : [] ≡ 35 ∷ h.rest = h.whole in cc
nonempty first Bang h = let e : [] ≡ 33 ∷ h.rest = h.whole in cc
nonempty first Punct h = let e : false ≡ true = h in cc
