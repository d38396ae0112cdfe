-- The first pair of threads that passes a test.
use Rattle.std.proofs.Common.{ℕ, zero, suc, ◌≡◌, ◌+◌, ◌-◌, ◌<◌, ◌≤◌, Bool, true, false, cond, nat_lt, List, map, Option, Some, None, refl, ap, sym, ◌∙◌, arith, ltb-true, ltb-false}
use Rattle.std.specs.List.{find, flat_map, range_with_len}
use Rattle.std.specs.Option.{option_or}
use Rattle.std.proofs.lemmas.List.Folds.{find-append}
use Rattle.src_meaning.specs.Races.{pairs_from, pairs_of}

-- no pair before this one passes, among so many threads
pub record NoneBefore (p : ℕ × ℕ → Bool) (n t u : ℕ) : Type 0 where
  pub rows : (a b : ℕ) → a < t → a < b → b < n → p (a, b) ≡ false
  pub row : (b : ℕ) → t < b → b < u → p (t, b) ≡ false

-- no pair passes
abbrev pub NonePasses : (ℕ × ℕ → Bool) → ℕ → Type 0
NonePasses p n = (a b : ℕ) → a < b → b < n → p (a, b) ≡ false

-- ---- a thread with those from another on

abbrev row : ℕ → ℕ → ℕ → List (ℕ × ℕ)
row t a k = map (λ u. (t, u)) (range_with_len a k)

row-none : (p : ℕ × ℕ → Bool) (t a k : ℕ) → ((u : ℕ) → a ≤ u → u < a + k → p (t, u) ≡ false) → find p (row t a k) ≡ None
row-none p t a zero h = refl
row-none p t a (suc k) h =
    ap (λ b. cond b (Some (t, a)) (find p (row t (a + 1) k))) (h a (omega arith) (omega arith))
    ∙ row-none p t (a + 1) k (λ u from below. h u (omega arith) (omega arith))

row-some : (p : ℕ × ℕ → Bool) (t a k u : ℕ) → a ≤ u → u < a + k → p (t, u) ≡ true → ((b : ℕ) → a ≤ b → b < u → p (t, b) ≡ false) → find p (row t a k) ≡ Some (t, u)
row-some p t a zero u from below e h = absurd (omega arith)
row-some p t a (suc k) u from below e h = by (nat_lt a u) refl (λ less. row-some p t (a + 1) k u (omega arith) (omega arith) e (λ b i j. h b (omega arith) j))
  where
    by : (later : Bool) → nat_lt a u ≡ later → (a < u → find p (row t (a + 1) k) ≡ Some (t, u)) → find p (row t a (suc k)) ≡ Some (t, u)
    by true l rest =
        let less : a < u = ltb-true a u l in
        ap (λ b. cond b (Some (t, a)) (find p (row t (a + 1) k))) (h a (omega arith) less) ∙ rest less
    by false l rest =
        let same : a ≡ u = omega (arith, ltb-false a u l) in
        ap (λ (w : ℕ). cond (p (t, w)) (Some (t, w)) (find p (row t (a + 1) k))) same
        ∙ ap (λ b. cond b (Some (t, u)) (find p (row t (a + 1) k))) e

some≢none : {A : Type 0} (x : A) → Some x ≡ None → ⊥
some≢none x e = cc

cond-none : {A : Type 0} (b : Bool) (x : A) (rest : Option A) → cond b (Some x) rest ≡ None → (b ≡ false) × (rest ≡ None)
cond-none true x rest e = absurd (some≢none x e)
cond-none false x rest e = (refl, e)

or-none : {A : Type 0} (o rest : Option A) → option_or o rest ≡ None → (o ≡ None) × (rest ≡ None)
or-none None rest e = (refl, e)
or-none (Some x) rest e = absurd (some≢none x e)

row-lacks : (p : ℕ × ℕ → Bool) (t a k : ℕ) → find p (row t a k) ≡ None → (u : ℕ) → a ≤ u → u < a + k → p (t, u) ≡ false
row-lacks p t a zero e u from below = absurd (omega arith)
row-lacks p t a (suc k) e u from below = by (nat_lt a u) refl (λ less. row-lacks p t (a + 1) k (cond-none (p (t, a)) (t, a) _ e).1 u (omega arith) (omega arith))
  where
    by : (later : Bool) → nat_lt a u ≡ later → (a < u → p (t, u) ≡ false) → p (t, u) ≡ false
    by true l rest = rest (ltb-true a u l)
    by false l rest =
        let same : u ≡ a = omega (arith, ltb-false a u l) in
        ap (λ (w : ℕ). p (t, w)) same ∙ (cond-none (p (t, a)) (t, a) _ e).0

row-same : (p q : ℕ × ℕ → Bool) (t a k : ℕ) → ((u : ℕ) → a ≤ u → u < a + k → p (t, u) ≡ q (t, u)) → find p (row t a k) ≡ find q (row t a k)
row-same p q t a zero h = refl
row-same p q t a (suc k) h =
    ap (λ b. cond b (Some (t, a)) (find p (row t (a + 1) k))) (h a (omega arith) (omega arith))
    ∙ ap (cond (q (t, a)) (Some (t, a))) (row-same p q t (a + 1) k (λ u from below. h u (omega arith) (omega arith)))

-- ---- the rows of threads from one on

abbrev rows : ℕ → ℕ → ℕ → List (ℕ × ℕ)
rows n a k = flat_map (pairs_from n) (range_with_len a k)

rows-suc : (p : ℕ × ℕ → Bool) (n a k : ℕ) → find p (rows n a (suc k)) ≡ option_or (find p (pairs_from n a)) (find p (rows n (a + 1) k))
rows-suc p n a k = find-append p (pairs_from n a) (rows n (a + 1) k)

rows-none : (p : ℕ × ℕ → Bool) (n a k : ℕ) → NonePasses p n → find p (rows n a k) ≡ None
rows-none p n a zero h = refl
rows-none p n a (suc k) h =
    rows-suc p n a k
    ∙ ap (λ o. option_or o (find p (rows n (a + 1) k))) (row-none p a (a + 1) (n - (a + 1)) (λ u from below. h a u (omega arith) (omega arith)))
    ∙ rows-none p n (a + 1) k h

rows-some : (p : ℕ × ℕ → Bool) (n a k t u : ℕ) → a ≤ t → t < a + k → t < u → u < n → p (t, u) ≡ true → NoneBefore p n t u → find p (rows n a k) ≡ Some (t, u)
rows-some p n a zero t u from below order within e h = absurd (omega arith)
rows-some p n a (suc k) t u from below order within e h = rows-suc p n a k ∙ by (nat_lt a t) refl (λ less. rows-some p n (a + 1) k t u (omega arith) (omega arith) order within e h)
  where
    by : (later : Bool) → nat_lt a t ≡ later → (a < t → find p (rows n (a + 1) k) ≡ Some (t, u)) → option_or (find p (pairs_from n a)) (find p (rows n (a + 1) k)) ≡ Some (t, u)
    by true l rest =
        let less : a < t = ltb-true a t l in
        ap (λ o. option_or o (find p (rows n (a + 1) k))) (row-none p a (a + 1) (n - (a + 1)) (λ w i j. h.rows a w less (omega arith) (omega arith))) ∙ rest less
    by false l rest =
        let same : a ≡ t = omega (arith, ltb-false a t l) in
        ap (λ (w : ℕ). option_or (find p (pairs_from n w)) (find p (rows n (a + 1) k))) same
        ∙ ap (λ o. option_or o (find p (rows n (a + 1) k))) (row-some p t (t + 1) (n - (t + 1)) u (omega arith) (omega arith) e (λ b i j. h.row b (omega arith) j))

rows-lack : (p : ℕ × ℕ → Bool) (n a k : ℕ) → find p (rows n a k) ≡ None → (t u : ℕ) → a ≤ t → t < a + k → t < u → u < n → p (t, u) ≡ false
rows-lack p n a zero e t u from below order within = absurd (omega arith)
rows-lack p n a (suc k) e t u from below order within =
    let both = or-none (find p (pairs_from n a)) (find p (rows n (a + 1) k)) (sym (rows-suc p n a k) ∙ e) in
    by (nat_lt a t) refl both.0 (λ less. rows-lack p n (a + 1) k both.1 t u (omega arith) (omega arith) order within)
  where
    by : (later : Bool) → nat_lt a t ≡ later → find p (pairs_from n a) ≡ None → (a < t → p (t, u) ≡ false) → p (t, u) ≡ false
    by true l first rest = rest (ltb-true a t l)
    by false l first rest =
        let same : t ≡ a = omega (arith, ltb-false a t l) in
        ap (λ (w : ℕ). p (w, u)) same ∙ row-lacks p a (a + 1) (n - (a + 1)) first u (omega arith) (omega arith)

rows-same : (p q : ℕ × ℕ → Bool) (n a k : ℕ) → ((t u : ℕ) → t < u → u < n → p (t, u) ≡ q (t, u)) → find p (rows n a k) ≡ find q (rows n a k)
rows-same p q n a zero h = refl
rows-same p q n a (suc k) h =
    rows-suc p n a k
    ∙ ap (λ o. option_or o (find p (rows n (a + 1) k))) (row-same p q a (a + 1) (n - (a + 1)) (λ u from below. h a u (omega arith) (omega arith)))
    ∙ ap (option_or (find q (pairs_from n a))) (rows-same p q n (a + 1) k h)
    ∙ sym (rows-suc q n a k)

-- ---- all pairs

pub find-none : (p : ℕ × ℕ → Bool) (n : ℕ) → NonePasses p n → find p (pairs_of n) ≡ None
find-none p n h = rows-none p n 0 n h

pub find-some : (p : ℕ × ℕ → Bool) (n t u : ℕ) → t < u → u < n → p (t, u) ≡ true → NoneBefore p n t u → find p (pairs_of n) ≡ Some (t, u)
find-some p n t u order within e h = rows-some p n 0 n t u (omega arith) (omega arith) order within e h

pub find-lacks : (p : ℕ × ℕ → Bool) (n : ℕ) → find p (pairs_of n) ≡ None → NonePasses p n
find-lacks p n e a b order within = rows-lack p n 0 n e a b (omega arith) (omega arith) order within

-- tests that answer the same find the same
pub find-same : (p q : ℕ × ℕ → Bool) (n : ℕ) → ((t u : ℕ) → t < u → u < n → p (t, u) ≡ q (t, u)) → find p (pairs_of n) ≡ find q (pairs_of n)
find-same p q n h = rows-same p q n 0 n h
