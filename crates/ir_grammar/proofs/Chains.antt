-- Parts that say whether another one follows are read as they mean.
use Rattle.std.proofs.Common.{ℕ, zero, suc, ◌≡◌, ◌<◌, Bool, true, false, List, [], ◌∷◌, ◌++◌, length, Ok, Err, refl, sym, ap, ◌∙◌, subst, append_assoc, length-append, arith}
use Rattle.ir_grammar.specs.Parts.{Tok, Read, Part, IsChain, with_first, then_chain, read_chain, chain, read_seen, chained, Begins}
use Rattle.ir_grammar.proofs.Reading.{Took, StopsAt, Stops, IsRead, Anywhere, read_ok, not_read, not_stopped, left_is}

module _ {A : Type 0} (p : Part (A × Bool)) (law : IsRead Anywhere p) (empty : p.reads [] ≡ Err 0) (last : List Tok) (end : A) (ends : p.means last (end, false)) where
  -- a part takes a token
  shorter : (ts front rest : List Tok) (v : A × Bool) → p.means front v → ts ≡ front ++ rest → length rest < length ts
  shorter ts [] rest v h e = not_read (sym empty ∙ law.complete [] [] v h tt)
  shorter ts (t ∷ front) rest v h e = omega (arith, ap length e, length-append front rest)

  longer : (a : A) (vs : List A) (front back : List Tok) → p.means front (a, true) → IsChain p.means vs back → IsChain p.means (a ∷ vs) (front ++ back)
  longer a [] front back h g = absurd g
  longer a (b ∷ vs) front back h g = record { front = front; back = back; whole = refl; first = h; rest = g }

  chain_sound : (n : ℕ) (ts rest : List Tok) (vs : List A) → length ts < n → read_chain p n ts ≡ Ok (vs, rest) → Took Anywhere (chain p).means ts vs rest
  unfolding read_chain
  chain_sound zero ts rest vs lt e = absurd (omega arith)
  chain_sound (suc n) ts rest vs lt e = by (p.reads ts) refl e (λ ts1 x h g. chain_sound n ts1 x.1 x.0 h g)
    where
      Again : Type 0
      Again = (ts1 : List Tok) (x : List A × List Tok) → length ts1 < n → read_chain p n ts1 ≡ Ok x → Took Anywhere (chain p).means ts1 x.0 x.1

      more : (a : A) (front ts1 : List Tok) → p.means front (a, true) → ts ≡ front ++ ts1 → (r : Read (List A)) → read_chain p n ts1 ≡ r → with_first a r ≡ Ok (vs, rest) → Again → Took Anywhere (chain p).means ts vs rest
      more a front ts1 m w (Err k) g e again = not_read e
      more a front ts1 m w (Ok x) g e again =
          let s = again ts1 x (omega (arith, shorter ts front ts1 (a, true) m w)) g in
          let whole : ts ≡ (front ++ s.front) ++ rest = w ∙ ap (λ y. front ++ y) (s.whole ∙ ap (λ y. s.front ++ y) (read_ok e).1) ∙ sym (append_assoc front s.front rest) in
          record { front = front ++ s.front; whole = whole; is = subst (λ y. IsChain p.means y (front ++ s.front)) (read_ok e).0 (longer a x.0 front s.front m s.is); follows = tt }

      said : (a : A) (b : Bool) (front ts1 : List Tok) → p.means front (a, b) → ts ≡ front ++ ts1 → then_chain (read_chain p n) (Ok ((a, b), ts1)) ≡ Ok (vs, rest) → Again → Took Anywhere (chain p).means ts vs rest
      said a false front ts1 m w e again = record { front = front; whole = w ∙ ap (λ y. front ++ y) (read_ok e).1; is = subst (λ y. IsChain p.means y front) (read_ok e).0 m; follows = tt }
      said a true front ts1 m w e again = more a front ts1 m w (read_chain p n ts1) refl e again

      by : (r : Read (A × Bool)) → p.reads ts ≡ r → then_chain (read_chain p n) r ≡ Ok (vs, rest) → Again → Took Anywhere (chain p).means ts vs rest
      by (Err k) g e again = not_read e
      by (Ok x) g e again = let s = law.sound ts x.1 x.0 g in said x.0.0 x.0.1 s.front x.1 s.is s.whole e again

  chain_complete : (n : ℕ) (vs : List A) (front rest : List Tok) → IsChain p.means vs front → length (front ++ rest) < n → read_chain p n (front ++ rest) ≡ Ok (vs, rest)
  unfolding read_chain
  chain_complete n [] front rest h lt = absurd h
  chain_complete zero (a ∷ vs) front rest h lt = absurd (omega arith)
  chain_complete (suc n) (a ∷ []) front rest h lt = ap (then_chain (read_chain p n)) (law.complete front rest (a, false) h tt)
  chain_complete (suc n) (a ∷ b ∷ vs) front rest h lt =
      let w : front ++ rest ≡ h.front ++ (h.back ++ rest) = rw (h.whole, append_assoc) refl in
      let r : p.reads (front ++ rest) ≡ Ok ((a, true), h.back ++ rest) = ap p.reads w ∙ law.complete h.front (h.back ++ rest) (a, true) h.first tt in
      ap (then_chain (read_chain p n)) r ∙ ap (with_first a) (chain_complete n (b ∷ vs) h.back rest h.rest (omega (arith, shorter (front ++ rest) h.front (h.back ++ rest) (a, true) h.first w)))

  -- the same token stops every reading that has turns enough
  abbrev ChainStopsAt : List Tok → List Tok → Type 0
  ChainStopsAt front [] = Unit {0}
  ChainStopsAt front (t ∷ ts) = (more : List Tok) (k : ℕ) → length (front ++ t ∷ more) < k → read_chain p k (front ++ t ∷ more) ≡ Err (suc (length more))

  record ChainStops (ts : List Tok) (n : ℕ) : Type 0 where
    front : List Tok
    stop : List Tok
    whole : ts ≡ front ++ stop
    left : n ≡ length stop
    begins : Begins (chain p).means front
    same : ChainStopsAt front stop

  some_turn : (k n : ℕ) → n < k → (m : ℕ) × (k ≡ suc m)
  some_turn zero n lt = absurd (omega arith)
  some_turn (suc m) n lt = (m, refl)

  first_same : (front stop : List Tok) → StopsAt p.reads front stop → ChainStopsAt front stop
  unfolding read_chain
  first_same front [] s = tt
  first_same front (t ∷ ts) s = λ more k lt. go more k (some_turn k _ lt)
    where
      go : (more : List Tok) (k : ℕ) → ((m : ℕ) × (k ≡ suc m)) → read_chain p k (front ++ t ∷ more) ≡ Err (suc (length more))
      go more k (m, e) = ap (λ y. read_chain p y (front ++ t ∷ more)) e ∙ ap (then_chain (read_chain p m)) (s more)

  later_same : (front back stop : List Tok) (a : A) → p.means front (a, true) → ChainStopsAt back stop → ChainStopsAt (front ++ back) stop
  unfolding read_chain
  later_same front back [] a h s = tt
  later_same front back (t ∷ ts) a h s = λ more k lt. go more k lt (some_turn k _ lt)
    where
      go : (more : List Tok) (k : ℕ) → length ((front ++ back) ++ t ∷ more) < k → ((m : ℕ) × (k ≡ suc m)) → read_chain p k ((front ++ back) ++ t ∷ more) ≡ Err (suc (length more))
      go more k lt (i, e) =
          let w : (front ++ back) ++ t ∷ more ≡ front ++ (back ++ t ∷ more) = append_assoc front back (t ∷ more) in
          let r : p.reads ((front ++ back) ++ t ∷ more) ≡ Ok ((a, true), back ++ t ∷ more) = ap p.reads w ∙ law.complete front (back ++ t ∷ more) (a, true) h tt in
          let later : read_chain p i (back ++ t ∷ more) ≡ Err (suc (length more)) = s more i (omega (arith, shorter ((front ++ back) ++ t ∷ more) front (back ++ t ∷ more) (a, true) h w)) in
          ap (λ z. read_chain p z ((front ++ back) ++ t ∷ more)) e ∙ ap (then_chain (read_chain p i)) r ∙ ap (with_first a) later

  -- a part that was begun begins a chain
  begun : (front more : List Tok) (a : A) (b : Bool) → p.means (front ++ more) (a, b) → Begins (chain p).means front
  begun front more a false h = record { more = more; value = a ∷ []; is = h }
  begun front more a true h = record { more = more ++ last; value = a ∷ end ∷ []; is = record { front = front ++ more; back = last; whole = sym (append_assoc front more last); first = h; rest = ends } }

  more_begun : (front back : List Tok) (a : A) → p.means front (a, true) → Begins (chain p).means back → Begins (chain p).means (front ++ back)
  more_begun front back a h b = record { more = b.more; value = a ∷ b.value; is = subst (IsChain p.means (a ∷ b.value)) (sym (append_assoc front back b.more)) (longer a b.value front (back ++ b.more) h b.is) }

  chain_stops : (n : ℕ) (ts : List Tok) (m : ℕ) → length ts < n → read_chain p n ts ≡ Err m → ChainStops ts m
  unfolding read_chain
  chain_stops zero ts m lt e = absurd (omega arith)
  chain_stops (suc n) ts m lt e = by (p.reads ts) refl e (λ ts1 k h g. chain_stops n ts1 k h g)
    where
      Again : Type 0
      Again = (ts1 : List Tok) (k : ℕ) → length ts1 < n → read_chain p n ts1 ≡ Err k → ChainStops ts1 k

      more : (a : A) (front ts1 : List Tok) → p.means front (a, true) → ts ≡ front ++ ts1 → (r : Read (List A)) → read_chain p n ts1 ≡ r → with_first a r ≡ Err m → Again → ChainStops ts m
      more a front ts1 h w (Ok x) g e again = not_stopped e
      more a front ts1 h w (Err k) g e again =
          let s = again ts1 k (omega (arith, shorter ts front ts1 (a, true) h w)) g in
          record {
            front = front ++ s.front;
            stop = s.stop;
            whole = w ∙ ap (λ y. front ++ y) s.whole ∙ sym (append_assoc front s.front s.stop);
            left = sym (left_is e) ∙ s.left;
            begins = more_begun front s.front a h s.begins;
            same = later_same front s.front s.stop a h s.same;
          }

      said : (a : A) (b : Bool) (front ts1 : List Tok) → p.means front (a, b) → ts ≡ front ++ ts1 → then_chain (read_chain p n) (Ok ((a, b), ts1)) ≡ Err m → Again → ChainStops ts m
      said a false front ts1 h w e again = not_stopped e
      said a true front ts1 h w e again = more a front ts1 h w (read_chain p n ts1) refl e again

      by : (r : Read (A × Bool)) → p.reads ts ≡ r → then_chain (read_chain p n) r ≡ Err m → Again → ChainStops ts m
      by (Ok x) g e again = let s = law.sound ts x.1 x.0 g in said x.0.0 x.0.1 s.front x.1 s.is s.whole e again
      by (Err k) g e again =
          let s = law.stops ts k g in
          record { front = s.front; stop = s.stop; whole = s.whole; left = sym (left_is e) ∙ s.left; begins = begun s.front s.begins.more s.begins.value.0 s.begins.value.1 s.begins.is; same = first_same s.front s.stop s.same }

  enough : (front stop : List Tok) → ChainStopsAt front stop → StopsAt (chain p).reads front stop
  enough front [] s = tt
  enough front (t ∷ ts) s = λ more. s more (suc (length (front ++ t ∷ more))) (omega arith)

  stops_there : (ts : List Tok) (n : ℕ) → ChainStops ts n → Stops (chain p) ts n
  stops_there ts n s = record { front = s.front; stop = s.stop; whole = s.whole; left = s.left; begins = s.begins; same = enough s.front s.stop s.same }

  pub chain_law : IsRead Anywhere (chain p)
  chain_law = record {
    some = begun [] last end false ends;
    sound = λ ts rest vs e. chain_sound (suc (length ts)) ts rest vs (omega arith) e;
    complete = λ front rest vs h f. chain_complete (suc (length (front ++ rest))) vs front rest h (omega arith);
    stops = λ ts n e. stops_there ts n (chain_stops (suc (length ts)) ts n (omega arith) e);
  }

  -- more turns than tokens make no difference
  chain_turns : (n k : ℕ) (ts : List Tok) → length ts < n → length ts < k → read_chain p n ts ≡ read_chain p k ts
  unfolding read_chain
  chain_turns zero k ts lt ge = absurd (omega arith)
  chain_turns (suc n) zero ts lt ge = absurd (omega arith)
  chain_turns (suc n) (suc k) ts lt ge = by (p.reads ts) refl (λ ts1 h g. chain_turns n k ts1 h g)
    where
      Again : Type 0
      Again = (ts1 : List Tok) → length ts1 < n → length ts1 < k → read_chain p n ts1 ≡ read_chain p k ts1

      said : (a : A) (b : Bool) (front ts1 : List Tok) → p.means front (a, b) → ts ≡ front ++ ts1 → Again → then_chain (read_chain p n) (Ok ((a, b), ts1)) ≡ then_chain (read_chain p k) (Ok ((a, b), ts1))
      said a false front ts1 h w again = refl
      said a true front ts1 h w again =
          let less : length ts1 < length ts = shorter ts front ts1 (a, true) h w in
          ap (with_first a) (again ts1 (omega arith) (omega arith))

      by : (r : Read (A × Bool)) → p.reads ts ≡ r → Again → then_chain (read_chain p n) r ≡ then_chain (read_chain p k) r
      by (Err m) g again = refl
      by (Ok x) g again = let s = law.sound ts x.1 x.0 g in said x.0.0 x.0.1 s.front x.1 s.is s.whole again

  -- One part is read, and then the rest in the same way.
  pub chain_step : (ts : List Tok) → (chain p).reads ts ≡ then_chain (chain p).reads (p.reads ts)
  unfolding read_chain
  chain_step ts = by (p.reads ts) refl
    where
      said : (a : A) (b : Bool) (front ts1 : List Tok) → p.means front (a, b) → ts ≡ front ++ ts1 → then_chain (read_chain p (length ts)) (Ok ((a, b), ts1)) ≡ then_chain (chain p).reads (Ok ((a, b), ts1))
      said a false front ts1 h w = refl
      said a true front ts1 h w =
          let less : length ts1 < length ts = shorter ts front ts1 (a, true) h w in
          ap (with_first a) (chain_turns (length ts) (suc (length ts1)) ts1 (omega arith) (omega arith))

      by : (r : Read (A × Bool)) → p.reads ts ≡ r → then_chain (read_chain p (length ts)) r ≡ then_chain (chain p).reads r
      by (Err m) g = refl
      by (Ok x) g = let s = law.sound ts x.1 x.0 g in said x.0.0 x.0.1 s.front x.1 s.is s.whole

-- what a loop over such a part needs of it
pub record Links {A : Type 0} (p : Part (A × Bool)) : Type 0 where
  pub step : (ts : List Tok) → (chain p).reads ts ≡ then_chain (chain p).reads (p.reads ts)
  pub shrinks : (ts rest : List Tok) (v : A × Bool) → p.reads ts ≡ Ok (v, rest) → length rest < length ts

pub links_of : {A : Type 0} {p : Part (A × Bool)} → IsRead Anywhere p → p.reads [] ≡ Err 0 → (ts : List Tok) (end : A) → p.reads ts ≡ Ok ((end, false), []) → Links p
links_of {A} {p} law empty ts end e =
    let t = law.sound ts [] (end, false) e in
    record {
      step = λ us. chain_step p law empty t.front end t.is us;
      shrinks = λ us rest v r. let s = law.sound us rest v r in shorter p law empty t.front end t.is us s.front rest v s.is s.whole;
    }

module _ {A : Type 0} {p : Part (A × Bool)} (links : Links p) where
  -- another one follows
  pub chain_more : (front : List A) (ts rest : List Tok) (a : A) → p.reads ts ≡ Ok ((a, true), rest) → (chained (front ++ a ∷ []) p).reads rest ≡ (chained front p).reads ts
  chain_more front ts rest a e = by ((chain p).reads rest) ∙ ap (read_seen (λ others. front ++ others)) (sym (links.step ts ∙ ap (then_chain (chain p).reads) e))
    where
      by : (x : Read (List A)) → read_seen (λ others. (front ++ a ∷ []) ++ others) x ≡ read_seen (λ others. front ++ others) (with_first a x)
      by (Ok x) = ap (λ ys. Ok (ys, x.1)) (append_assoc front (a ∷ []) x.0)
      by (Err n) = refl

  -- it was the last one
  pub chain_over : (front : List A) (ts rest : List Tok) (a : A) → p.reads ts ≡ Ok ((a, false), rest) → (chained front p).reads ts ≡ Ok (front ++ a ∷ [], rest)
  chain_over front ts rest a e = ap (read_seen (λ others. front ++ others)) (links.step ts ∙ ap (then_chain (chain p).reads) e)

  -- a part that is unfit
  pub chain_stop : (front : List A) (ts : List Tok) (n : ℕ) → p.reads ts ≡ Err n → (chained front p).reads ts ≡ Err n
  chain_stop front ts n e = ap (read_seen (λ others. front ++ others)) (links.step ts ∙ ap (then_chain (chain p).reads) e)
