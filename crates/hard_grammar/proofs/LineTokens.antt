-- The tokens of a line of a text have texts of their kinds, and the names that they write are those that are read at their places.
use Rattle.std.proofs.Common.{ℕ, suc, ◌≡◌, ◌+◌, ◌-◌, ◌≤◌, Bool, true, false, cond, List, [], ◌∷◌, ◌++◌, length, take, drop, refl, sym, ap, ◌∙◌, subst, arith, append_assoc}
use Rattle.std.specs.Prelude.{codes}
use Rattle.std.specs.List.{AllByRecursion, prefix_len}
use Rattle.std.proofs.lemmas.List.{length-append, length-drop, take_at, take-append-le, drop_at, drop-append-le, drop-drop}
use Rattle.std.proofs.lemmas.List.Sums.{prefix_len-le-length}
use Rattle.ir_core.specs.declared.text.TokKind.{TokKind}
use Rattle.ir_core.specs.declared.text.TokKind.TheVariants.{Word, Local, At, Label, Num, Bytes, Str, Hash, Bang, Punct}
use Rattle.ir_core.specs.declared.text.Token.{Token}
use Rattle.ir_core.specs.Tokens.{is_name, is_name_byte, begins_name, is_digit, IsToken, IsLongest, Tokens, Ends, Passes, Takes}
use Rattle.ir_core.specs.TokenLengths.{name_len, name_from}
use Rattle.ir_core.specs.Lines.{IsLongestName}
use Rattle.ir_core.proofs.Lengths.{name_ends}
use Rattle.ir_core.proofs.LongestName.{name_of, name_again}
use Rattle.ir_grammar.specs.Tokens.{token_of}
use Rattle.ir_parse_top.specs.Text.{moved, all_moved}
use Rattle.hard_ir.specs.Lines.{HasKind}

-- ---- names before a line feed

same_run : (p : ℕ → Bool) (bytes rest : List ℕ) → p 10 ≡ false → prefix_len p (bytes ++ 10 ∷ rest) ≡ prefix_len p bytes
same_run p [] rest fails = rw fails refl
same_run p (b ∷ bytes) rest fails = ap (λ (n : ℕ). cond (p b) (1 + n) 0) (same_run p bytes rest fails)

same_name : (bytes rest : List ℕ) → name_len (bytes ++ 10 ∷ rest) ≡ name_len bytes
same_name [] rest = refl
same_name (b ∷ bytes) rest =
    ap (λ (n : ℕ). cond (begins_name b) (1 + n) (prefix_len is_digit ((b ∷ bytes) ++ 10 ∷ rest))) (same_run is_name_byte bytes rest refl)
    ∙ ap (λ (n : ℕ). cond (begins_name b) (1 + prefix_len is_name_byte bytes) n) (same_run is_digit (b ∷ bytes) rest refl)

name_within : (bytes : List ℕ) → name_len bytes ≤ length bytes
name_within [] = omega arith
name_within (b ∷ bytes) = by (begins_name b) (prefix_len-le-length is_name_byte bytes) (prefix_len-le-length is_digit (b ∷ bytes))
  where
    by : (t : Bool) → prefix_len is_name_byte bytes ≤ length bytes → prefix_len is_digit (b ∷ bytes) ≤ suc (length bytes) → cond t (1 + prefix_len is_name_byte bytes) (prefix_len is_digit (b ∷ bytes)) ≤ suc (length bytes)
    by true h g = omega (arith, h)
    by false h g = g

-- the longest name at the front of a line's bytes is read there
name_read : (bytes more name : List ℕ) → IsLongestName name bytes → name_of (bytes ++ 10 ∷ more) ≡ name
name_read bytes more name h =
    ap (λ (n : ℕ). take n (bytes ++ 10 ∷ more)) (same_name bytes more)
    ∙ take-append-le (name_len bytes) bytes (10 ∷ more) (name_within bytes)
    ∙ name_again bytes name h

-- ---- the name that a token writes

-- the name that begins at a place of the text is the one that a token there writes
abbrev pub IsRead : List ℕ → ℕ → List ℕ → TokKind → Type 0
IsRead text at own Local = name_from text (at + 1) ≡ drop 1 own
IsRead text at own At = name_from text (at + 1) ≡ drop 1 own
IsRead text at own Label = own ≡ name_from text at ++ codes ":"
IsRead text at own kind = Unit {0}

-- a token of a text, whose names are read in that text with more behind it
pub record IsSound (text whole : List ℕ) (t : Token) : Type 0 where
  pub kind : HasKind (token_of text t)
  pub name : IsRead whole t.start (token_of text t).text t.kind

first_or_not : (first : Bool) (kind : TokKind) (text : List ℕ) → IsToken first kind text → IsToken true kind text
unfolding IsToken
first_or_not first Word text h = h
first_or_not first Local text h = h
first_or_not first At text h = h
first_or_not first Label text h = (refl, h.1)
first_or_not first Num text h = h
first_or_not first Bytes text h = h
first_or_not first Str text h = h
first_or_not first Hash text h = h
first_or_not first Bang text h = h
first_or_not first Punct text h = h

-- a name behind the byte of a kind is the longest there, where the token is
longest_name : (first : Bool) (kind : TokKind) (mark : ℕ) (name rest : List ℕ) → ((other : List ℕ) → is_name other ≡ true → IsToken first kind (mark ∷ other))
    → IsLongest first kind (mark ∷ name) (mark ∷ (name ++ rest)) → is_name name ≡ true → IsLongestName name (name ++ rest)
longest_name first kind mark name rest makes h is = record {
  is = is;
  front = (rest, refl);
  longest = λ other e f. let le : length (mark ∷ other) ≤ length (mark ∷ name) = h.longest kind (mark ∷ other) (makes other e) (f.0, ap (λ (l : List ℕ). mark ∷ l) f.1) in omega (arith, le);
}

local_made : (first : Bool) (other : List ℕ) → is_name other ≡ true → IsToken first Local (37 ∷ other)
unfolding IsToken
local_made first other e = record { rest = other; whole = refl; passes = e }

at_made : (first : Bool) (other : List ℕ) → is_name other ≡ true → IsToken first At (64 ∷ other)
unfolding IsToken
at_made first other e = record { rest = other; whole = refl; passes = e }

-- the bytes of the text from a place on are those of the line, a line feed and more
abbrev pub Lies : List ℕ → ℕ → List ℕ → Type 0
Lies whole at bytes = (more : List ℕ) × (drop at whole ≡ bytes ++ 10 ∷ more)

lies_on : (whole : List ℕ) (at : ℕ) (front rest : List ℕ) → Lies whole at (front ++ rest) → Lies whole (at + length front) rest
lies_on whole at front rest h =
    (h.0, sym (drop-drop (length front) at whole) ∙ ap (drop (length front)) (h.1 ∙ append_assoc front rest (10 ∷ h.0)) ∙ drop_at front (rest ++ 10 ∷ h.0) (length front) refl)

name_at : (whole name rest : List ℕ) (mark at : ℕ) → Lies whole at (mark ∷ (name ++ rest)) → IsLongestName name (name ++ rest) → name_from whole (at + 1) ≡ name
name_at whole name rest mark at h longest =
    let l = lies_on whole at (mark ∷ []) (name ++ rest) h in
    ap name_of l.1 ∙ name_read (name ++ rest) l.0 name longest

read_there : (first : Bool) (whole own rest : List ℕ) (kind : TokKind) (at : ℕ) → Lies whole at (own ++ rest) → IsLongest first kind own (own ++ rest) → IsRead whole at own kind
unfolding IsToken
read_there first whole own rest Local at lies h =
    let t = h.is in
    let e : own ≡ 37 ∷ t.rest = t.whole in
    let g : IsLongest first Local (37 ∷ t.rest) (37 ∷ (t.rest ++ rest)) = subst (λ (l : List ℕ). IsLongest first Local l (l ++ rest)) e h in
    name_at whole t.rest rest 37 at (subst (λ (l : List ℕ). Lies whole at (l ++ rest)) e lies) (longest_name first Local 37 t.rest rest (local_made first) g t.passes) ∙ sym (ap (drop 1) e)
read_there first whole own rest At at lies h =
    let t = h.is in
    let e : own ≡ 64 ∷ t.rest = t.whole in
    let g : IsLongest first At (64 ∷ t.rest) (64 ∷ (t.rest ++ rest)) = subst (λ (l : List ℕ). IsLongest first At l (l ++ rest)) e h in
    name_at whole t.rest rest 64 at (subst (λ (l : List ℕ). Lies whole at (l ++ rest)) e lies) (longest_name first At 64 t.rest rest (at_made first) g t.passes) ∙ sym (ap (drop 1) e)
read_there first whole own rest Word at lies h = tt
read_there first whole own rest Num at lies h = tt
read_there first whole own rest Bytes at lies h = tt
read_there first whole own rest Str at lies h = tt
read_there first whole own rest Hash at lies h = tt
read_there first whole own rest Bang at lies h = tt
read_there first whole own rest Punct at lies h = tt
read_there first whole own rest Label at lies h =
    let t = h.is.1 in
    let e : own ≡ t.begin ++ codes ":" = t.whole in
    let l : Lies whole at (t.begin ++ 58 ∷ rest) = subst (λ (bytes : List ℕ). Lies whole at bytes) (ap (λ (bytes : List ℕ). bytes ++ rest) e ∙ append_assoc t.begin (codes ":") rest) lies in
    let name : name_from whole at ≡ t.begin =
    ap name_of (l.1 ∙ append_assoc t.begin (58 ∷ rest) (10 ∷ l.0)) ∙ take_at t.begin (58 ∷ (rest ++ 10 ∷ l.0)) (name_len (t.begin ++ 58 ∷ (rest ++ 10 ∷ l.0))) (sym (name_ends t.begin (rest ++ 10 ∷ l.0) t.passes)) in
    e ∙ sym (ap (λ (bytes : List ℕ). bytes ++ codes ":") name)

-- ---- all tokens of a line

same_piece : (text more : List ℕ) (p n : ℕ) → p + n ≤ length text → take n (drop p text) ≡ take n (drop p (text ++ more))
same_piece text more p n le =
    let size : length (drop p text) ≡ length text - p = length-drop p text in
    sym (ap (take n) (drop-append-le p text more (omega (arith, le))) ∙ take-append-le n (drop p text) more (omega (arith, size, le)))

module _ (text more : List ℕ) (base : ℕ) where
  abbrev whole : List ℕ
  whole = text ++ more

  taken : (first : Bool) (at : ℕ) (kind : TokKind) (own rest : List ℕ) → IsLongest first kind own (own ++ rest) → Lies whole (base + at) (own ++ rest) → base + at + length (own ++ rest) ≤ length text
      → IsSound text whole (moved base (record { kind = kind; start = at; end = at + length own }))
  taken first at kind own rest h lies le =
      let size : length (own ++ rest) ≡ length own + length rest = length-append own rest in
      let number : (base + (at + length own)) - (base + at) ≡ length own = omega arith in
      let piece : take ((base + (at + length own)) - (base + at)) (drop (base + at) text) ≡ own =
      ap (λ (n : ℕ). take n (drop (base + at) text)) number
      ∙ same_piece text more (base + at) (length own) (omega (arith, size, le))
      ∙ ap (take (length own)) (lies.1 ∙ append_assoc own rest (10 ∷ lies.0))
      ∙ take_at own (rest ++ 10 ∷ lies.0) (length own) refl in
      record {
        kind = subst (λ (l : List ℕ). IsToken true kind l) (sym piece) (first_or_not first kind own h.is);
        name = subst (λ (l : List ℕ). IsRead whole (base + at) l kind) (sym piece) (read_there first whole own rest kind (base + at) lies h);
      }

  pub all_sound : (first : Bool) (at : ℕ) (bytes : List ℕ) (tokens : List Token) → Tokens first at bytes tokens → Lies whole (base + at) bytes → base + at + length bytes ≤ length text
      → AllByRecursion (IsSound text whole) (all_moved base tokens)
  all_sound first at bytes tokens (Ends _ _ _ _) lies le = tt
  all_sound first at [] tokens (Passes _ _ _ _ gap rest) lies le = cc
  all_sound first at (b ∷ bytes) tokens (Passes _ _ _ _ gap rest) lies le =
      let number : (base + at) + length (b ∷ []) ≡ base + (at + 1) = omega arith in
      all_sound first (at + 1) bytes tokens rest (subst (λ (n : ℕ). Lies whole n bytes) number (lies_on whole (base + at) (b ∷ []) bytes lies)) (omega (arith, le))
  all_sound first at bytes tokens (Takes _ _ _ kind own others _ h rest) lies le =
      let back = h.front.0 in
      let e : bytes ≡ own ++ back = h.front.1 in
      let l : Lies whole (base + at) (own ++ back) = subst (Lies whole (base + at)) e lies in
      let within : base + at + length (own ++ back) ≤ length text = subst (λ (bs : List ℕ). base + at + length bs ≤ length text) e le in
      let behind : drop (length own) bytes ≡ back = ap (drop (length own)) e ∙ drop_at own back (length own) refl in
      let number : (base + at) + length own ≡ base + (at + length own) = omega arith in
      let size : length (own ++ back) ≡ length own + length back = length-append own back in (
        taken first at kind own back (subst (IsLongest first kind own) e h) l within,
        all_sound false (at + length own) (drop (length own) bytes) others rest
            (subst (Lies whole (base + (at + length own))) (sym behind) (subst (λ (n : ℕ). Lies whole n back) number (lies_on whole (base + at) own back l)))
            (subst (λ (bs : List ℕ). base + (at + length own) + length bs ≤ length text) (sym behind) (omega (arith, size, within))),
      )
