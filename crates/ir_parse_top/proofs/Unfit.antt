-- Unfit tokens of a list and of its fronts.
use Rattle.std.proofs.Common.{◌≡◌, ℕ, ◌+◌, ◌≤◌, ◌<◌, List, [], ◌∷◌, ◌++◌, length, ap, refl, sym, subst, ◌∙◌, arith}
use Rattle.std.proofs.lemmas.List.{append-nil, append_assoc, length-append}
use Rattle.ir_grammar.specs.Parts.{Tok}
use Rattle.ir_grammar.specs.Fitting.{IsLine, Fits, IsUnfit}
use Rattle.ir_grammar.proofs.Fronts.{shallow_before}
use Rattle.ir_parse_top.proofs.PassedLines.{cons_isnt_nil}

-- of two ways to cut a list the one that cuts first
pub record Split {X : Type 0} (front stop a b : List X) : Type 0 where
  pub middle : List X
  pub left : a ≡ front ++ middle
  pub right : stop ≡ middle ++ b

pub split : {X : Type 0} (front stop a b : List X) → front ++ stop ≡ a ++ b → length front ≤ length a → Split front stop a b
split [] stop a b e h = record { middle = a; left = refl; right = e }
split (x ∷ front) stop [] b e h = absurd (omega (arith, h))
split {X = X} (x ∷ front) stop (y ∷ a) b e h =
    let whole : ◌≡◌ {A = List X} (x ∷ (front ++ stop)) (y ∷ (a ++ b)) = e in
    let head : x ≡ y = cc in
    let tail : front ++ stop ≡ a ++ b = cc in
    let s = split front stop a b tail (omega (arith, h)) in
    record { middle = s.middle; left = ap (λ (l : List X). y ∷ l) s.left ∙ ap (λ (z : X). z ∷ (front ++ s.middle)) (sym head); right = s.right }

module _ {A : Type 0} (means : List Tok → A → Type 0) where
  pub place_within : (ts : List Tok) (k : ℕ) → IsUnfit means ts k → k ≤ length ts
  place_within ts k u =
      let e : length ts ≡ length u.front + length u.stop = ap length u.whole ∙ length-append u.front u.stop in
      let p : k ≡ length u.front = u.place in omega (arith, e, p)

  -- an unfit place that is no token is the end
  pub place_at_end : (ts : List Tok) (k : ℕ) → IsUnfit means ts k → length ts ≤ k → IsUnfit means ts (length ts)
  place_at_end ts k u h = let w = place_within ts k u in let e : k ≡ length ts = omega (arith, w, h) in subst (IsUnfit means ts) e u

  -- ---- fronts

  fits_before : (a c : List Tok) → Fits means (a ++ c) → Fits means a
  fits_before a c f = record {
    shallow = shallow_before a c (a ++ c) refl f.shallow;
    begins = record { more = c ++ f.begins.more; value = f.begins.value; is = subst (λ (ts : List Tok). means ts f.begins.value) (append_assoc a c f.begins.more) f.begins.is };
  }

  line_fits : (ts : List Tok) (v : A) → IsLine means ts v → Fits means ts
  line_fits ts v l = record { shallow = l.shallow; begins = record { more = []; value = v; is = subst (λ (x : List Tok). means x v) (sym (append-nil ts)) l.is } }

  -- what is unfit in a list is so in a front that holds it
  pub unfit_front : (a b : List Tok) (k : ℕ) → IsUnfit means (a ++ b) k → k < length a → IsUnfit means a k
  unfit_front a b k u h = record {
    front = u.front;
    stop = s.middle;
    whole = s.left;
    place = u.place;
    fits = u.fits;
    unfit = λ token rest e. u.unfit token (rest ++ b) (s.right ∙ ap (λ (x : List Tok). x ++ b) e);
    nothing = λ v l. nothing s.middle s.left s.right (line_fits a v l);
  }
    where
      short : length u.front < length a
      short = let p : k ≡ length u.front = u.place in omega (arith, p, h)

      s : Split u.front u.stop a b
      s = split u.front u.stop a b (sym u.whole) (omega (arith, short))

      nothing : (middle : List Tok) → a ≡ u.front ++ middle → u.stop ≡ middle ++ b → Fits means a → ⊥
      nothing [] left right f = let e : length a ≡ length u.front = ap length (left ∙ append-nil u.front) in omega (arith, e, short)
      nothing (token ∷ rest) left right f =
          u.unfit token (rest ++ b) right (fits_before (u.front ++ token ∷ []) rest (subst (Fits means) (left ∙ sym (append_assoc u.front (token ∷ []) rest)) f))

  ends_early : (a : List Tok) → Fits means a → ((v : A) → means a v → ⊥) → IsUnfit means a (length a)
  ends_early a f none = record {
    front = a;
    stop = [];
    whole = sym (append-nil a);
    place = refl;
    fits = f;
    unfit = λ token rest e. absurd (cons_isnt_nil (sym e));
    nothing = λ v l. none v l.is;
  }

  -- a front of tokens that fit is no line and ends too early
  pub front_early : (a b : List Tok) (k : ℕ) → IsUnfit means (a ++ b) k → length a ≤ k → ((v : A) → means a v → ⊥) → IsUnfit means a (length a)
  front_early a b k u h none = ends_early a (fits_before a s.middle (subst (Fits means) s.left u.fits)) none
    where
      s : Split a b u.front u.stop
      s = split a b u.front u.stop u.whole (let p : k ≡ length u.front = u.place in omega (arith, p, h))

  pub line_early : (a b : List Tok) (v : A) → IsLine means (a ++ b) v → ((v : A) → means a v → ⊥) → IsUnfit means a (length a)
  line_early a b v l none = ends_early a (fits_before a b (line_fits (a ++ b) v l)) none
