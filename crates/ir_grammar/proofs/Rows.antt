-- A part any number of times is read as it means.
use Rattle.std.proofs.Common.{ℕ, zero, suc, ◌≡◌, ◌<◌, ◌≤◌, Bool, true, false, List, [], ◌∷◌, ◌++◌, length, Ok, Err, refl, sym, ap, ◌∙◌, subst, append_assoc, length-append, arith}
use Rattle.std.proofs.lemmas.Bool.{false≢true}
use Rattle.std.specs.Prelude.{Option, Some, None, is_some}
use Rattle.ir_grammar.specs.Parts.{Tok, Read, Part, one, all_of, IsRow, with_first, then_row, read_row, star, heads, Begins}
use Rattle.ir_grammar.proofs.Reading.{Took, StopsAt, Stops, IsRead, Anywhere, Fails, Refuses, Steady, heads_steady, a_head, read_ok, not_read, not_stopped, left_is, append_nil}

module _ {A : Type 0} (test : List Tok → Bool) (p : Part A) (each : IsRead Anywhere p)
    (passes : (front rest : List Tok) (v : A) → p.means front v → test (front ++ rest) ≡ true) (stays : Steady test true p.reads) (none : test [] ≡ false) where
  -- a part takes a token
  shorter : (ts front rest : List Tok) (v : A) → p.means front v → ts ≡ front ++ rest → length rest < length ts
  shorter ts [] rest v h e = absurd (false≢true (sym none ∙ passes [] [] v h))
  shorter ts (t ∷ front) rest v h e = omega (arith, ap length e, length-append front rest)

  -- what one turn makes of the answer to the test
  abbrev turn : ℕ → List Tok → Bool → Read (List A)
  turn n ts b = elim b [ true ↦ then_row (read_row test p n) (p.reads ts) | false ↦ Ok ([], ts) ]

  row_sound : (n : ℕ) (ts rest : List Tok) (vs : List A) → length ts ≤ n → read_row test p n ts ≡ Ok (vs, rest) → Took (Fails test) (star test p).means ts vs rest
  unfolding read_row
  row_sound zero [] rest vs le e = record { front = []; whole = (read_ok e).1; is = rw (← (read_ok e).0) refl; follows = rw (← (read_ok e).1) none }
  row_sound zero (t ∷ ts) rest vs le e = absurd (omega arith)
  row_sound (suc n) ts rest vs le e = by (test ts) refl e (λ ts1 x h g. row_sound n ts1 x.1 x.0 h g)
    where
      Again : Type 0
      Again = (ts1 : List Tok) (x : List A × List Tok) → length ts1 ≤ n → read_row test p n ts1 ≡ Ok x → Took (Fails test) (star test p).means ts1 x.0 x.1

      one_more : (a : A) (front ts1 : List Tok) → p.means front a → ts ≡ front ++ ts1 → (r : Read (List A)) → read_row test p n ts1 ≡ r → with_first a r ≡ Ok (vs, rest) → Again → Took (Fails test) (star test p).means ts vs rest
      one_more a front ts1 m w (Err k) g e again = not_read e
      one_more a front ts1 m w (Ok x) g e again =
          let s = again ts1 x (omega (arith, shorter ts front ts1 a m w)) g in
          let whole : ts ≡ (front ++ s.front) ++ rest = w ∙ ap (λ y. front ++ y) (s.whole ∙ ap (λ y. s.front ++ y) (read_ok e).1) ∙ sym (append_assoc front s.front rest) in
          let row : IsRow p.means (a ∷ x.0) (front ++ s.front) = record { front = front; back = s.front; whole = refl; first = m; rest = s.is } in
          record { front = front ++ s.front; whole = whole; is = subst (λ y. IsRow p.means y (front ++ s.front)) (read_ok e).0 row; follows = subst (Fails test) (read_ok e).1 s.follows }

      with_part : (r : Read A) → p.reads ts ≡ r → then_row (read_row test p n) r ≡ Ok (vs, rest) → Again → Took (Fails test) (star test p).means ts vs rest
      with_part (Err k) g e again = not_read e
      with_part (Ok x) g e again = let s = each.sound ts x.1 x.0 g in one_more x.0 s.front x.1 s.is s.whole (read_row test p n x.1) refl e again

      by : (b : Bool) → test ts ≡ b → turn n ts b ≡ Ok (vs, rest) → Again → Took (Fails test) (star test p).means ts vs rest
      by true h e again = with_part (p.reads ts) refl e again
      by false h e again = record { front = []; whole = (read_ok e).1; is = rw (← (read_ok e).0) refl; follows = rw (← (read_ok e).1) h }

  row_complete : (n : ℕ) (vs : List A) (front rest : List Tok) → IsRow p.means vs front → test rest ≡ false → length (front ++ rest) ≤ n → read_row test p n (front ++ rest) ≡ Ok (vs, rest)
  unfolding read_row
  row_complete zero [] front rest h f le = rw h refl
  row_complete (suc n) [] front rest h f le = ap (λ y. read_row test p (suc n) (y ++ rest)) h ∙ ap (turn n rest) f
  row_complete zero (a ∷ vs) front rest h f le =
      let w : front ++ rest ≡ h.front ++ (h.back ++ rest) = rw (h.whole, append_assoc) refl in
      absurd (omega (arith, shorter (front ++ rest) h.front (h.back ++ rest) a h.first w))
  row_complete (suc n) (a ∷ vs) front rest h f le =
      let w : front ++ rest ≡ h.front ++ (h.back ++ rest) = rw (h.whole, append_assoc) refl in
      let t : test (front ++ rest) ≡ true = ap test w ∙ passes h.front (h.back ++ rest) a h.first in
      let r : p.reads (front ++ rest) ≡ Ok (a, h.back ++ rest) = ap p.reads w ∙ each.complete h.front (h.back ++ rest) a h.first tt in
      let later : read_row test p n (h.back ++ rest) ≡ Ok (vs, rest) = row_complete n vs h.back rest h.rest f (omega (arith, shorter (front ++ rest) h.front (h.back ++ rest) a h.first w)) in
      ap (turn n (front ++ rest)) t ∙ ap (λ y. then_row (read_row test p n) y) r ∙ ap (with_first a) later

  -- the same token stops every reading that has turns enough
  abbrev RowStopsAt : List Tok → List Tok → Type 0
  RowStopsAt front [] = Unit {0}
  RowStopsAt front (t ∷ ts) = (more : List Tok) (k : ℕ) → length (front ++ t ∷ more) ≤ k → read_row test p k (front ++ t ∷ more) ≡ Err (suc (length more))

  record RowStops (ts : List Tok) (n : ℕ) : Type 0 where
    front : List Tok
    stop : List Tok
    whole : ts ≡ front ++ stop
    left : n ≡ length stop
    begins : Begins (star test p).means front
    same : RowStopsAt front stop

  some_turn : (k : ℕ) (front more : List Tok) (t : Tok) → length (front ++ t ∷ more) ≤ k → (m : ℕ) × (k ≡ suc m)
  some_turn zero front more t le = absurd (omega (arith, length-append front (t ∷ more)))
  some_turn (suc m) front more t le = (m, refl)

  first_same : (front stop : List Tok) → test (front ++ stop) ≡ true → StopsAt p.reads front stop → RowStopsAt front stop
  unfolding read_row
  first_same front [] h s = tt
  first_same front (t ∷ ts) h s = λ more k le. go more k le (some_turn k front more t le)
    where
      go : (more : List Tok) (k : ℕ) → length (front ++ t ∷ more) ≤ k → ((m : ℕ) × (k ≡ suc m)) → read_row test p k (front ++ t ∷ more) ≡ Err (suc (length more))
      go more k le (m, e) = ap (λ y. read_row test p y (front ++ t ∷ more)) e ∙ ap (turn m (front ++ t ∷ more)) (stays front ts more t h s) ∙ ap (then_row (read_row test p m)) (s more)

  later_same : (front back stop : List Tok) (a : A) → p.means front a → RowStopsAt back stop → RowStopsAt (front ++ back) stop
  unfolding read_row
  later_same front back [] a m s = tt
  later_same front back (t ∷ ts) a m s = λ more k le. go more k le (some_turn k (front ++ back) more t le)
    where
      go : (more : List Tok) (k : ℕ) → length ((front ++ back) ++ t ∷ more) ≤ k → ((m : ℕ) × (k ≡ suc m)) → read_row test p k ((front ++ back) ++ t ∷ more) ≡ Err (suc (length more))
      go more k le (i, e) =
          let w : (front ++ back) ++ t ∷ more ≡ front ++ (back ++ t ∷ more) = append_assoc front back (t ∷ more) in
          let y : test ((front ++ back) ++ t ∷ more) ≡ true = ap test w ∙ passes front (back ++ t ∷ more) a m in
          let r : p.reads ((front ++ back) ++ t ∷ more) ≡ Ok (a, back ++ t ∷ more) = ap p.reads w ∙ each.complete front (back ++ t ∷ more) a m tt in
          let later : read_row test p i (back ++ t ∷ more) ≡ Err (suc (length more)) = s more i (omega (arith, shorter ((front ++ back) ++ t ∷ more) front (back ++ t ∷ more) a m w)) in
          ap (λ z. read_row test p z ((front ++ back) ++ t ∷ more)) e ∙ ap (turn i ((front ++ back) ++ t ∷ more)) y ∙ ap (then_row (read_row test p i)) r ∙ ap (with_first a) later

  row_stops : (n : ℕ) (ts : List Tok) (m : ℕ) → length ts ≤ n → read_row test p n ts ≡ Err m → RowStops ts m
  unfolding read_row
  row_stops zero ts m le e = not_stopped e
  row_stops (suc n) ts m le e = by (test ts) refl e (λ ts1 k h g. row_stops n ts1 k h g)
    where
      Again : Type 0
      Again = (ts1 : List Tok) (k : ℕ) → length ts1 ≤ n → read_row test p n ts1 ≡ Err k → RowStops ts1 k

      one_more : (a : A) (front ts1 : List Tok) → p.means front a → ts ≡ front ++ ts1 → (r : Read (List A)) → read_row test p n ts1 ≡ r → with_first a r ≡ Err m → Again → RowStops ts m
      one_more a front ts1 h w (Ok x) g e again = not_stopped e
      one_more a front ts1 h w (Err k) g e again =
          let s = again ts1 k (omega (arith, shorter ts front ts1 a h w)) g in
          record {
            front = front ++ s.front;
            stop = s.stop;
            whole = w ∙ ap (λ y. front ++ y) s.whole ∙ sym (append_assoc front s.front s.stop);
            left = sym (left_is e) ∙ s.left;
            begins = record { more = s.begins.more; value = a ∷ s.begins.value; is = record { front = front; back = s.front ++ s.begins.more; whole = append_assoc front s.front s.begins.more; first = h; rest = s.begins.is } };
            same = later_same front s.front s.stop a h s.same;
          }

      with_part : (r : Read A) → test ts ≡ true → p.reads ts ≡ r → then_row (read_row test p n) r ≡ Err m → Again → RowStops ts m
      with_part (Ok x) t g e again = let s = each.sound ts x.1 x.0 g in one_more x.0 s.front x.1 s.is s.whole (read_row test p n x.1) refl e again
      with_part (Err k) t g e again =
          let s = each.stops ts k g in
          record {
            front = s.front;
            stop = s.stop;
            whole = s.whole;
            left = sym (left_is e) ∙ s.left;
            begins = record { more = s.begins.more; value = s.begins.value ∷ []; is = record { front = s.front ++ s.begins.more; back = []; whole = sym (append_nil (s.front ++ s.begins.more)); first = s.begins.is; rest = refl } };
            same = first_same s.front s.stop (sym (ap test s.whole) ∙ t) s.same;
          }

      by : (b : Bool) → test ts ≡ b → turn n ts b ≡ Err m → Again → RowStops ts m
      by true h e again = with_part (p.reads ts) h refl e again
      by false h e again = not_stopped e

  enough : (front stop : List Tok) → RowStopsAt front stop → StopsAt (star test p).reads front stop
  enough front [] s = tt
  enough front (t ∷ ts) s = λ more. s more (length (front ++ t ∷ more)) (omega arith)

  stops_there : (ts : List Tok) (n : ℕ) → RowStops ts n → Stops (star test p) ts n
  stops_there ts n s = record { front = s.front; stop = s.stop; whole = s.whole; left = s.left; begins = s.begins; same = enough s.front s.stop s.same }

  pub star_law : IsRead (Fails test) (star test p)
  star_law = record {
    some = record { more = []; value = []; is = refl };
    sound = λ ts rest vs e. row_sound (length ts) ts rest vs (omega arith) e;
    complete = λ front rest vs h f. row_complete (length (front ++ rest)) vs front rest h f (omega arith);
    stops = λ ts n e. stops_there ts n (row_stops (length ts) ts n (omega arith) e);
  }

-- a part any number of times, while the next token passes a test that the part begins with
pub star_heads : {A : Type 0} (f : Tok → Bool) {p : Part A} → IsRead Anywhere p → ((t : Tok) → f t ≡ false → Refuses p t) → p.reads [] ≡ Err 0 → IsRead (Fails (heads f)) (star (heads f) p)
star_heads f {p} law refuses empty = star_law (heads f) p law (λ front rest v h. a_head f p law refuses empty front rest v h tt) (heads_steady f true p.reads) refl

-- tokens that a test knows, where it knows none
module _ {A : Type 0} (pick : Tok → Option A) (none : (t : Tok) → pick t ≡ None) where
  known_none : (ts : List Tok) → heads (λ t. is_some (pick t)) ts ≡ false
  known_none [] = refl
  known_none (t ∷ ts) = ap is_some (none t)

  none_read : (ts : List Tok) → (all_of pick).reads ts ≡ Ok ([], ts)
  unfolding read_row
  none_read [] = refl
  none_read (t ∷ ts) = ap (λ (b : Bool). elim b as (λ _. Read (List A)) [ true ↦ then_row (read_row (heads (λ t. is_some (pick t))) (one pick) (length ts)) ((one pick).reads (t ∷ ts)) | false ↦ Ok ([], t ∷ ts) ]) (known_none (t ∷ ts))

  none_complete : (front rest : List Tok) (vs : List A) → IsRow (one pick).means vs front → (all_of pick).reads (front ++ rest) ≡ Ok (vs, rest)
  none_complete front rest [] h = rw h (none_read rest)
  none_complete front rest (a ∷ vs) h = let e : None ≡ Some a = sym (none h.first.token) ∙ h.first.is in absurd cc

  pub none_of_law : IsRead (Fails (heads (λ t. is_some (pick t)))) (all_of pick)
  none_of_law = record {
    some = record { more = []; value = []; is = refl };
    sound = λ ts rest vs e. let r = read_ok (sym (none_read ts) ∙ e) in record { front = []; whole = r.1; is = subst (λ y. IsRow (one pick).means y []) r.0 refl; follows = known_none rest };
    complete = λ front rest vs h f. none_complete front rest vs h;
    stops = λ ts n e. not_stopped (sym (none_read ts) ∙ e);
  }

-- ---- the turns of a row

module _ {A : Type 0} (test : List Tok → Bool) (p : Part A) (shrinks : (ts rest : List Tok) (a : A) → test ts ≡ true → p.reads ts ≡ Ok (a, rest) → length rest < length ts) (none : test [] ≡ false) where
  -- what one turn makes of the answer to the test
  abbrev a_turn : ℕ → List Tok → Bool → Read (List A)
  a_turn n ts b = elim b [ true ↦ then_row (read_row test p n) (p.reads ts) | false ↦ Ok ([], ts) ]

  -- more turns than tokens make no difference
  row_turns : (n k : ℕ) (ts : List Tok) → length ts ≤ n → length ts ≤ k → read_row test p n ts ≡ read_row test p k ts
  unfolding read_row
  row_turns zero zero ts le ge = refl
  row_turns zero (suc k) [] le ge = sym (ap (a_turn k []) none)
  row_turns zero (suc k) (t ∷ ts) le ge = absurd (omega arith)
  row_turns (suc n) zero [] le ge = ap (a_turn n []) none
  row_turns (suc n) zero (t ∷ ts) le ge = absurd (omega arith)
  row_turns (suc n) (suc k) ts le ge = by (test ts) refl (λ ts1 h g. row_turns n k ts1 h g)
    where
      Again : Type 0
      Again = (ts1 : List Tok) → length ts1 ≤ n → length ts1 ≤ k → read_row test p n ts1 ≡ read_row test p k ts1

      with_part : test ts ≡ true → (r : Read A) → p.reads ts ≡ r → Again → then_row (read_row test p n) r ≡ then_row (read_row test p k) r
      with_part t (Err m) g again = refl
      with_part t (Ok x) g again =
          let lt : length x.1 < length ts = shrinks ts x.1 x.0 t g in
          ap (with_first x.0) (again x.1 (omega arith) (omega arith))

      by : (b : Bool) → test ts ≡ b → Again → a_turn n ts b ≡ a_turn k ts b
      by true t again = with_part t (p.reads ts) refl again
      by false t again = refl

  -- One part more is read, and then the rest in the same way.
  pub row_step : (ts : List Tok) → (star test p).reads ts ≡ elim (test ts) as (λ _. Read (List A)) [ true ↦ then_row (star test p).reads (p.reads ts) | false ↦ Ok ([], ts) ]
  unfolding read_row
  row_step [] = sym (ap (λ (b : Bool). elim b as (λ _. Read (List A)) [ true ↦ then_row (star test p).reads (p.reads []) | false ↦ Ok ([], []) ]) none)
  row_step (t ∷ ts) = by (test (t ∷ ts)) refl
    where
      with_part : test (t ∷ ts) ≡ true → (r : Read A) → p.reads (t ∷ ts) ≡ r → then_row (read_row test p (length ts)) r ≡ then_row (star test p).reads r
      with_part e (Err m) g = refl
      with_part e (Ok x) g =
          let lt : length x.1 < length (t ∷ ts) = shrinks (t ∷ ts) x.1 x.0 e g in
          ap (with_first x.0) (row_turns (length ts) (length x.1) x.1 (omega arith) (omega arith))

      by : (b : Bool) → test (t ∷ ts) ≡ b → a_turn (length ts) (t ∷ ts) b ≡ elim b as (λ _. Read (List A)) [ true ↦ then_row (star test p).reads (p.reads (t ∷ ts)) | false ↦ Ok ([], t ∷ ts) ]
      by true e = with_part e (p.reads (t ∷ ts)) refl
      by false e = refl
