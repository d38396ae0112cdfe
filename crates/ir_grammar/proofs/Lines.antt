-- What a part that goes to the end of the line means of all tokens: one value, or one unfit place.
use Rattle.std.proofs.Common.{◌≤◌, ℕ, suc, ◌≡◌, ◌-◌, ◌<◌, List, [], ◌∷◌, ◌++◌, length, Ok, Err, refl, sym, ap, subst, ◌∙◌, append_assoc, length-append, arith}
use Rattle.std.proofs.Common.{⊎_elim}
use Rattle.std.proofs.lemmas.List.{length-map}
use Rattle.ir_core.specs.declared.text.Token.{Token}
use Rattle.ir_grammar.specs.Tokens.{token_of, tokens_of}
use Rattle.std.proofs.lemmas.Bool.{cases_lt}
use Rattle.ir_grammar.specs.Parts.{Tok, Read, Part, Begins}
use Rattle.ir_grammar.specs.Fitting.{IsShallow, shallow_front, IsLine, Fits, IsUnfit, IsDecided, Verdict, Stands, Unfit}
use Rattle.ir_grammar.proofs.Reading.{IsRead, AtEnd, StopsAt, Stops, not_read, read_ok, append_nil}
use Rattle.ir_grammar.proofs.Fronts.{Cuts, cut, shallow_before, all_shallow}

-- as many tokens with their texts as without
pub same_length : (line : List ℕ) (tokens : List Token) → length (tokens_of line tokens) ≡ length tokens
same_length line tokens = length-map tokens (token_of line)

module _ {A : Type 0} {p : Part A} (law : IsRead AtEnd p) where
  -- what tokens stand for is read of them
  meant_read : (ts : List Tok) (v : A) → p.means ts v → p.reads ts ≡ Ok (v, [])
  meant_read ts v h = ap p.reads (sym (append_nil ts)) ∙ law.complete ts [] v h refl

  read_meant : (ts rest : List Tok) (v : A) → p.reads ts ≡ Ok (v, rest) → p.means ts v
  read_meant ts rest v e =
      let t = law.sound ts rest v e in
      let whole : ts ≡ t.front = t.whole ∙ ap (λ y. t.front ++ y) t.follows ∙ append_nil t.front in
      subst (λ y. p.means y v) (sym whole) t.is

  same_value : (ts : List Tok) (a b : A) → IsLine p.means ts a → IsLine p.means ts b → a ≡ b
  same_value ts a b h g = (read_ok (sym (meant_read ts a h.is) ∙ meant_read ts b g.is)).0

  not_meant : (ts : List Tok) (n : ℕ) (v : A) → p.reads ts ≡ Err n → p.means ts v → ⊥
  not_meant ts n v e h = not_read (sym e ∙ meant_read ts v h)

  not_begun : (front stop : List Tok) → StopsAt p.reads front stop → (token : Tok) (rest : List Tok) → stop ≡ token ∷ rest → Begins p.means (front ++ token ∷ []) → ⊥
  not_begun front stop s token rest e b =
      let same : (more : List Tok) → p.reads (front ++ token ∷ more) ≡ Err (suc (length more)) = subst (λ y. StopsAt p.reads front y) e s in
      not_meant (front ++ token ∷ b.more) (suc (length b.more)) b.value (same b.more) (subst (λ y. p.means y b.value) (append_assoc front (token ∷ []) b.more) b.is)

  -- ---- what is read of the tokens before the first bracket too many

  module _ (ts front : List Tok) (c : Cuts 0 ts front) where
    -- all tokens
    pub line_read : (rest : List Tok) (v : A) → length front ≡ length ts → p.reads front ≡ Ok (v, rest) → IsLine p.means ts v
    line_read rest v same e = record { shallow = subst IsShallow whole c.shallow; is = subst (λ y. p.means y v) whole (read_meant front rest v e) }
      where
        by : (rest : List Tok) → c.rest ≡ rest → front ≡ ts
        by [] h = sym (append_nil front) ∙ ap (λ y. front ++ y) (sym h) ∙ sym c.whole
        by (t ∷ more) h = absurd (omega (arith, same, ap length c.whole, length-append front c.rest, ap length h))

        whole : front ≡ ts
        whole = by c.rest refl

    -- a bracket too many stands behind a whole line
    pub unfit_behind : (rest : List Tok) (v : A) → (length front ≡ length ts → ⊥) → p.reads front ≡ Ok (v, rest) → IsUnfit p.means ts (length front)
    unfit_behind rest v other e = record {
      front = front;
      stop = c.rest;
      whole = c.whole;
      place = refl;
      fits = record { shallow = c.shallow; begins = record { more = []; value = v; is = subst (λ y. p.means y v) (sym (append_nil front)) (read_meant front rest v e) } };
      unfit = λ token more h f. c.over token more h f.shallow;
      nothing = λ v l. other (ap length (all_shallow ts front c l.shallow));
    }

    -- a token that stops the reading, or else the bracket too many behind what was read
    pub unfit_read : (n : ℕ) → p.reads front ≡ Err n → IsUnfit p.means ts (length front - n)
    unfit_read n e = record {
      front = s.front;
      stop = s.stop ++ c.rest;
      whole = whole;
      place = omega (arith, ap length s.whole, length-append s.front s.stop, s.left);
      fits = record { shallow = shallow_before s.front s.stop front s.whole c.shallow; begins = s.begins };
      unfit = λ token more h f. by s.stop refl token more h f;
      nothing = λ v l. not_meant front n v e (subst (λ y. p.means y v) (sym (all_shallow ts front c l.shallow)) l.is);
    }
      where
        s : Stops p front n
        s = law.stops front n e

        whole : ts ≡ s.front ++ (s.stop ++ c.rest)
        whole = c.whole ∙ ap (λ y. y ++ c.rest) s.whole ∙ append_assoc s.front s.stop c.rest

        by : (stop : List Tok) → s.stop ≡ stop → (token : Tok) (more : List Tok) → s.stop ++ c.rest ≡ token ∷ more → Fits p.means (s.front ++ token ∷ []) → ⊥
        by [] g token more h f =
            let all : s.front ≡ front = sym (s.whole ∙ ap (λ y. s.front ++ y) g ∙ append_nil s.front) in
            c.over token more (sym (ap (λ y. y ++ c.rest) g) ∙ h) (subst (λ y. IsShallow (y ++ token ∷ [])) all f.shallow)
        by (t ∷ stop) g token more h f =
            let k : ◌≡◌ {A = List Tok} (t ∷ (stop ++ c.rest)) (token ∷ more) = sym (ap (λ y. y ++ c.rest) g) ∙ h in
            let same : t ≡ token = cc in
            not_begun s.front s.stop s.same token stop (g ∙ ap (λ x. x ∷ stop) same) f.begins

    pub left_within : (n : ℕ) → p.reads front ≡ Err n → n ≤ length front
    left_within n e = let s = law.stops front n e in omega (arith, ap length s.whole, length-append s.front s.stop, s.left)

  pub verdict : (ts : List Tok) → Verdict p.means ts
  verdict ts = by (p.reads (shallow_front 0 ts)) refl
    where
      c : Cuts 0 ts (shallow_front 0 ts)
      c = cut 0 ts

      by : (r : Read A) → p.reads (shallow_front 0 ts) ≡ r → Verdict p.means ts
      by (Ok x) e = decide c.rest refl
        where
          decide : (rest : List Tok) → c.rest ≡ rest → Verdict p.means ts
          decide [] h = Stands x.0 (line_read ts (shallow_front 0 ts) c x.1 x.0 (omega (arith, ap length c.whole, length-append (shallow_front 0 ts) c.rest, ap length h)) e)
          decide (t ∷ more) h = Unfit (length (shallow_front 0 ts)) (unfit_behind ts (shallow_front 0 ts) c x.1 x.0 (λ same. omega (arith, same, ap length c.whole, length-append (shallow_front 0 ts) c.rest, ap length h)) e)
      by (Err n) e = Unfit (length (shallow_front 0 ts) - n) (unfit_read ts (shallow_front 0 ts) c n e)

-- ---- the unfit place is one

-- the longer of two fronts begins with the shorter one and a token more
pub record Longer (front other stop : List Tok) : Type 0 where
  pub token : Tok
  pub more : List Tok
  pub rest : List Tok
  pub whole : other ≡ front ++ token ∷ more
  pub behind : stop ≡ token ∷ rest

longer : (front stop other back : List Tok) → front ++ stop ≡ other ++ back → length front < length other → Longer front other stop
longer [] stop [] back e lt = absurd (omega arith)
longer [] stop (t ∷ other) back e lt = record { token = t; more = other; rest = other ++ back; whole = refl; behind = e }
longer (x ∷ front) stop [] back e lt = absurd (omega arith)
longer (x ∷ front) stop (y ∷ other) back e lt =
    let h : x ≡ y = cc in
    let t : front ++ stop ≡ other ++ back = cc in
    let l = longer front stop other back t (omega arith) in
    record { token = l.token; more = l.more; rest = l.rest; whole = ap (λ z. z ∷ other) (sym h) ∙ ap (λ z. x ∷ z) l.whole; behind = l.behind }

module _ {A : Type 0} (means : List Tok → A → Type 0) (ts : List Tok) where
  not_later : (j k : ℕ) → IsUnfit means ts j → IsUnfit means ts k → j < k → ⊥
  not_later j k a b lt =
      let l = longer a.front a.stop b.front b.stop (sym a.whole ∙ b.whole) (omega (arith, a.place, b.place)) in
      let h : means (b.front ++ b.fits.begins.more) b.fits.begins.value = b.fits.begins.is in
      let w : b.front ++ b.fits.begins.more ≡ (a.front ++ l.token ∷ []) ++ (l.more ++ b.fits.begins.more) = ap (λ y. y ++ b.fits.begins.more) l.whole ∙ append_assoc a.front (l.token ∷ l.more) b.fits.begins.more ∙ sym (append_assoc a.front (l.token ∷ []) (l.more ++ b.fits.begins.more)) in
      a.unfit l.token l.rest l.behind (record {
        shallow = shallow_before (a.front ++ l.token ∷ []) l.more b.front (l.whole ∙ sym (append_assoc a.front (l.token ∷ []) l.more)) b.fits.shallow;
        begins = record { more = l.more ++ b.fits.begins.more; value = b.fits.begins.value; is = subst (λ y. means y b.fits.begins.value) w h };
      })

  pub same_place : (j k : ℕ) → IsUnfit means ts j → IsUnfit means ts k → j ≡ k
  same_place j k a b = ⊎_elim (λ lt. absurd (not_later j k a b lt)) (λ ge. ⊎_elim (λ lt. absurd (not_later k j b a lt)) (λ le. omega arith) (cases_lt k j)) (cases_lt j k)

-- a part that goes to the end of the line decides
pub decided : {A : Type 0} {p : Part A} → IsRead AtEnd p → IsDecided p.means
decided {A} {p} law = record { one_value = same_value law; one_place = same_place p.means; verdict = verdict law; never_both = λ ts a k h u. u.nothing a h }
