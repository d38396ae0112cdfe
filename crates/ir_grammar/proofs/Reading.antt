-- What is read of a part is what it means: one law for each way to make a part.
use Rattle.std.proofs.Common.{ℕ, suc, ◌≡◌, ◌⊎◌, Bool, true, false, List, [], ◌∷◌, ◌++◌, length, Option, Some, None, Ok, Err, refl, sym, ap, ◌∙◌, subst, inl, inr, append_assoc}
use Rattle.std.proofs.Common.{⊎_elim}
use Rattle.ir_grammar.specs.Parts.{Tok, Read, Part, gives, read_end, ends, first, taken, IsOne, one, read_then, ◌>>=◌, read_either, either, read_seen, seen, heads, IsOptional, read_optional, optional, Begins}

-- what was read of the tokens stands for the value, and what is left may follow it
pub record Took {A : Type 0} (Follows : List Tok → Type 0) (means : List Tok → A → Type 0) (ts : List Tok) (v : A) (rest : List Tok) : Type 0 where
  pub front : List Tok
  pub whole : ts ≡ front ++ rest
  pub is : means front v
  pub follows : Follows rest

-- reading stops at the first of these tokens, whatever comes behind it
abbrev pub StopsAt : {A : Type 0} → (List Tok → Read A) → List Tok → List Tok → Type 0
StopsAt reads front [] = Unit {0}
StopsAt reads front (t ∷ ts) = (more : List Tok) → reads (front ++ t ∷ more) ≡ Err (suc (length more))

-- reading stops with n tokens left, and those before begin a part
pub record Stops {A : Type 0} (p : Part A) (ts : List Tok) (n : ℕ) : Type 0 where
  pub front : List Tok
  pub stop : List Tok
  pub whole : ts ≡ front ++ stop
  pub left : n ≡ length stop
  pub begins : Begins p.means front
  pub same : StopsAt p.reads front stop

-- what is read of the part is what it means, where what follows it is as said
pub record IsRead {A : Type 0} (Follows : List Tok → Type 0) (p : Part A) : Type 0 where
  pub some : Begins p.means []
  pub sound : (ts rest : List Tok) (v : A) → p.reads ts ≡ Ok (v, rest) → Took Follows p.means ts v rest
  pub complete : (front rest : List Tok) (v : A) → p.means front v → Follows rest → p.reads (front ++ rest) ≡ Ok (v, rest)
  pub stops : (ts : List Tok) (n : ℕ) → p.reads ts ≡ Err n → Stops p ts n

abbrev pub Anywhere : List Tok → Type 0
Anywhere rest = Unit {0}

abbrev pub AtEnd : List Tok → Type 0
AtEnd rest = rest ≡ []

-- ---- equations between readings

pub read_ok : {A : Type 0} {a v : A} {ts rest : List Tok} → ◌≡◌ {A = Read A} (Ok (a, ts)) (Ok (v, rest)) → (a ≡ v) × (ts ≡ rest)
read_ok {A} {a} {v} {ts} {rest} e = let h : ◌≡◌ {A = A × List Tok} (a, ts) (v, rest) = cc in (ap (λ (x : A × List Tok). x.0) h, ap (λ (x : A × List Tok). x.1) h)

pub not_read : {A B : Type 0} {n : ℕ} {x : A × List Tok} → ◌≡◌ {A = Read A} (Err n) (Ok x) → B
not_read e = absurd cc

pub not_stopped : {A B : Type 0} {n : ℕ} {x : A × List Tok} → ◌≡◌ {A = Read A} (Ok x) (Err n) → B
not_stopped e = absurd cc

pub left_is : {A : Type 0} {n m : ℕ} → ◌≡◌ {A = Read A} (Err n) (Err m) → n ≡ m
left_is e = cc

pub append_nil : (ts : List Tok) → ts ++ [] ≡ ts
append_nil [] = refl
append_nil (t ∷ ts) = ap (λ x. t ∷ x) (append_nil ts)

-- ---- no token

module _ {A : Type 0} (a : A) where
  pub gives_law : IsRead Anywhere (gives a)
  gives_law = record {
    some = record { more = []; value = a; is = (refl, refl) };
    sound = λ ts rest v e. record { front = []; whole = (read_ok e).1; is = (refl, sym (read_ok e).0); follows = tt };
    complete = λ front rest v h f. rw (h.0, h.1) refl;
    stops = λ ts n e. not_stopped e;
  }

  end_sound : (ts rest : List Tok) (v : A) → read_end a ts ≡ Ok (v, rest) → Took AtEnd (ends a).means ts v rest
  end_sound [] rest v e = record { front = []; whole = (read_ok e).1; is = (refl, sym (read_ok e).0); follows = sym (read_ok e).1 }
  end_sound (t ∷ ts) rest v e = not_read e

  end_stops : (ts : List Tok) (n : ℕ) → read_end a ts ≡ Err n → Stops (ends a) ts n
  end_stops [] n e = not_stopped e
  end_stops (t ∷ ts) n e = record { front = []; stop = t ∷ ts; whole = refl; left = sym (left_is e); begins = record { more = []; value = a; is = (refl, refl) }; same = λ more. refl }

  pub ends_law : IsRead AtEnd (ends a)
  ends_law = record {
    some = record { more = []; value = a; is = (refl, refl) };
    sound = end_sound;
    complete = λ front rest v h f. rw (h.0, h.1, f) refl;
    stops = end_stops;
  }

-- ---- one token

module _ {A : Type 0} (pick : Tok → Option A) where
  one_begins : (t : Tok) (a : A) → pick t ≡ Some a → Begins (IsOne pick) []
  one_begins t a e = record { more = t ∷ []; value = a; is = record { token = t; whole = refl; is = e } }

  one_sound : (t : Tok) (ts rest : List Tok) (v : A) (o : Option A) → pick t ≡ o → taken o (t ∷ ts) ≡ Ok (v, rest) → Took Anywhere (IsOne pick) (t ∷ ts) v rest
  one_sound t ts rest v None h e = not_read e
  one_sound t ts rest v (Some a) h e = record { front = t ∷ []; whole = ap (λ x. t ∷ x) (read_ok e).1; is = record { token = t; whole = refl; is = h ∙ ap Some (read_ok e).0 }; follows = tt }

  one_read : (ts rest : List Tok) (v : A) → (one pick).reads ts ≡ Ok (v, rest) → Took Anywhere (IsOne pick) ts v rest
  one_read [] rest v e = not_read e
  one_read (t ∷ ts) rest v e = one_sound t ts rest v (pick t) refl e

  one_stop : (t : Tok) (ts : List Tok) (n : ℕ) (o : Option A) → pick t ≡ o → Begins (IsOne pick) [] → taken o (t ∷ ts) ≡ Err n → Stops (one pick) (t ∷ ts) n
  one_stop t ts n None h b e = record { front = []; stop = t ∷ ts; whole = refl; left = sym (left_is e); begins = b; same = λ more. rw h refl }
  one_stop t ts n (Some a) h b e = not_stopped e

  one_stops : Begins (IsOne pick) [] → (ts : List Tok) (n : ℕ) → (one pick).reads ts ≡ Err n → Stops (one pick) ts n
  one_stops b [] n e = record { front = []; stop = []; whole = refl; left = sym (left_is e); begins = b; same = tt }
  one_stops b (t ∷ ts) n e = one_stop t ts n (pick t) refl b e

  one_complete : (front rest : List Tok) (v : A) → IsOne pick front v → (one pick).reads (front ++ rest) ≡ Ok (v, rest)
  one_complete front rest v h = rw (h.whole, h.is) refl

  -- the test knows some token
  pub one_law : (t : Tok) (a : A) → pick t ≡ Some a → IsRead Anywhere (one pick)
  one_law t a e = record {
    some = one_begins t a e;
    sound = one_read;
    complete = λ front rest v h f. one_complete front rest v h;
    stops = one_stops (one_begins t a e);
  }

-- ---- tests on what follows

-- Where a reading stops at a token, the test answers the same whatever comes behind that token.
abbrev pub Steady : {A : Type 0} → (List Tok → Bool) → Bool → (List Tok → Read A) → Type 0
Steady test b reads = (front stop more : List Tok) (t : Tok) → test (front ++ t ∷ stop) ≡ b → ((m : List Tok) → reads (front ++ t ∷ m) ≡ Err (suc (length m))) → test (front ++ t ∷ more) ≡ b

-- ---- one part, and then another

module _ {A B : Type 0} (Later Follows : List Tok → Type 0) (p : Part A) (k : A → Part B) (first : IsRead Later p) (then_law : (a : A) (front : List Tok) → p.means front a → IsRead Follows (k a))
    (may_follow : (a : A) (front back rest : List Tok) (v : B) → p.means front a → (k a).means back v → Follows rest → Later (back ++ rest))
    (stays : (a : A) (front stop more : List Tok) (t : Tok) → Later (front ++ t ∷ stop) → ((m : List Tok) → (k a).reads (front ++ t ∷ m) ≡ Err (suc (length m))) → Later (front ++ t ∷ more)) where
  both_begin : Begins p.means [] → Begins (p >>= k).means []
  both_begin b =
      let s = (then_law b.value b.more b.is).some in
      record { more = b.more ++ s.more; value = s.value; is = record { front = b.more; back = s.more; value = b.value; whole = refl; first = b.is; second = s.is } }

  both_sound : (ts rest : List Tok) (v : B) (r : Read A) → p.reads ts ≡ r → read_then r k ≡ Ok (v, rest) → Took Follows (p >>= k).means ts v rest
  both_sound ts rest v (Err n) h e = not_read e
  both_sound ts rest v (Ok x) h e =
      let a = first.sound ts x.1 x.0 h in
      let b = (then_law x.0 a.front a.is).sound x.1 rest v e in
      record {
        front = a.front ++ b.front;
        whole = a.whole ∙ ap (λ y. a.front ++ y) b.whole ∙ sym (append_assoc a.front b.front rest);
        is = record { front = a.front; back = b.front; value = x.0; whole = refl; first = a.is; second = b.is };
        follows = b.follows;
      }

  both_complete : (front rest : List Tok) (v : B) → (p >>= k).means front v → Follows rest → (p >>= k).reads (front ++ rest) ≡ Ok (v, rest)
  both_complete front rest v h f =
      let whole : front ++ rest ≡ h.front ++ (h.back ++ rest) = rw (h.whole, append_assoc) refl in
      let a : p.reads (front ++ rest) ≡ Ok (h.value, h.back ++ rest) = ap p.reads whole ∙ first.complete h.front (h.back ++ rest) h.value h.first (may_follow h.value h.front h.back rest v h.first h.second f) in
      ap (λ r. read_then r k) a ∙ (then_law h.value h.front h.first).complete h.back rest v h.second f

  begins_of_first : (front : List Tok) → Begins p.means front → Begins (p >>= k).means front
  begins_of_first front b =
      let s = (then_law b.value (front ++ b.more) b.is).some in
      record { more = b.more ++ s.more; value = s.value; is = record { front = front ++ b.more; back = s.more; value = b.value; whole = sym (append_assoc front b.more s.more); first = b.is; second = s.is } }

  begins_of_second : (front back : List Tok) (a : A) → p.means front a → Begins (k a).means back → Begins (p >>= k).means (front ++ back)
  begins_of_second front back a h b = record { more = b.more; value = b.value; is = record { front = front; back = back ++ b.more; value = a; whole = append_assoc front back b.more; first = h; second = b.is } }

  same_of_first : (front stop : List Tok) → StopsAt p.reads front stop → StopsAt (p >>= k).reads front stop
  same_of_first front [] s = tt
  same_of_first front (t ∷ ts) s = λ more. ap (λ r. read_then r k) (s more)

  same_of_second : (front back stop : List Tok) (a : A) → p.means front a → Later (back ++ stop) → StopsAt (k a).reads back stop → StopsAt (p >>= k).reads (front ++ back) stop
  same_of_second front back [] a h f s = tt
  same_of_second front back (t ∷ ts) a h f s = λ more.
      let whole : (front ++ back) ++ t ∷ more ≡ front ++ (back ++ t ∷ more) = append_assoc front back (t ∷ more) in
      ap (λ r. read_then r k) (ap p.reads whole ∙ first.complete front (back ++ t ∷ more) a h (stays a back ts more t f s)) ∙ s more

  both_stop : (ts : List Tok) (n : ℕ) (r : Read A) → p.reads ts ≡ r → read_then r k ≡ Err n → Stops (p >>= k) ts n
  both_stop ts n (Err m) h e =
      let s = first.stops ts m h in
      record { front = s.front; stop = s.stop; whole = s.whole; left = sym (left_is e) ∙ s.left; begins = begins_of_first s.front s.begins; same = same_of_first s.front s.stop s.same }
  both_stop ts n (Ok x) h e =
      let a = first.sound ts x.1 x.0 h in
      let s = (then_law x.0 a.front a.is).stops x.1 n e in
      let after : Later (s.front ++ s.stop) = subst Later s.whole a.follows in
      record {
        front = a.front ++ s.front;
        stop = s.stop;
        whole = a.whole ∙ ap (λ y. a.front ++ y) s.whole ∙ sym (append_assoc a.front s.front s.stop);
        left = s.left;
        begins = begins_of_second a.front s.front x.0 a.is s.begins;
        same = same_of_second a.front s.front s.stop x.0 a.is after s.same;
      }

  pub then_at : IsRead Follows (p >>= k)
  then_at = record {
    some = both_begin first.some;
    sound = λ ts rest v e. both_sound ts rest v (p.reads ts) refl e;
    complete = both_complete;
    stops = λ ts n e. both_stop ts n (p.reads ts) refl e;
  }

-- a part that anything may follow, and then another
pub then_law : {A B : Type 0} {Follows : List Tok → Type 0} {p : Part A} {k : A → Part B} → IsRead Anywhere p → ((a : A) (front : List Tok) → p.means front a → IsRead Follows (k a)) → IsRead Follows (p >>= k)
then_law {A} {B} {Follows} {p} {k} first second = then_at Anywhere Follows p k first second (λ a front back rest v m h f. tt) (λ a front stop more t f s. tt)

-- ---- one of two parts

module _ {A : Type 0} {Follows : List Tok → Type 0} (test : List Tok → Bool) (p q : Part A) (left : IsRead Follows p) (right : IsRead Follows q)
    (of_left : (front rest : List Tok) (v : A) → p.means front v → Follows rest → test (front ++ rest) ≡ true)
    (of_right : (front rest : List Tok) (v : A) → q.means front v → Follows rest → test (front ++ rest) ≡ false)
    (left_stays : Steady test true p.reads) (right_stays : Steady test false q.reads) where
  either_sound : (ts rest : List Tok) (v : A) (b : Bool) → test ts ≡ b → read_either b p q ts ≡ Ok (v, rest) → Took Follows (either test p q).means ts v rest
  either_sound ts rest v true h e = let s = left.sound ts rest v e in record { front = s.front; whole = s.whole; is = inl s.is; follows = s.follows }
  either_sound ts rest v false h e = let s = right.sound ts rest v e in record { front = s.front; whole = s.whole; is = inr s.is; follows = s.follows }

  either_complete : (front rest : List Tok) (v : A) → p.means front v ⊎ q.means front v → Follows rest → (either test p q).reads (front ++ rest) ≡ Ok (v, rest)
  either_complete front rest v h f = ⊎_elim (λ m. rw (of_left front rest v m f) (left.complete front rest v m f)) (λ m. rw (of_right front rest v m f) (right.complete front rest v m f)) h

  left_same : (front stop : List Tok) → test (front ++ stop) ≡ true → StopsAt p.reads front stop → StopsAt (either test p q).reads front stop
  left_same front [] h s = tt
  left_same front (t ∷ ts) h s = λ more. rw (left_stays front ts more t h s) (s more)

  right_same : (front stop : List Tok) → test (front ++ stop) ≡ false → StopsAt q.reads front stop → StopsAt (either test p q).reads front stop
  right_same front [] h s = tt
  right_same front (t ∷ ts) h s = λ more. rw (right_stays front ts more t h s) (s more)

  either_stops : (ts : List Tok) (n : ℕ) (b : Bool) → test ts ≡ b → read_either b p q ts ≡ Err n → Stops (either test p q) ts n
  either_stops ts n true h e =
      let s = left.stops ts n e in
      record { front = s.front; stop = s.stop; whole = s.whole; left = s.left; begins = record { more = s.begins.more; value = s.begins.value; is = inl s.begins.is }; same = left_same s.front s.stop (sym (ap test s.whole) ∙ h) s.same }
  either_stops ts n false h e =
      let s = right.stops ts n e in
      record { front = s.front; stop = s.stop; whole = s.whole; left = s.left; begins = record { more = s.begins.more; value = s.begins.value; is = inr s.begins.is }; same = right_same s.front s.stop (sym (ap test s.whole) ∙ h) s.same }

  pub either_law : IsRead Follows (either test p q)
  either_law = record {
    some = record { more = left.some.more; value = left.some.value; is = inl left.some.is };
    sound = λ ts rest v e. either_sound ts rest v (test ts) refl e;
    complete = either_complete;
    stops = λ ts n e. either_stops ts n (test ts) refl e;
  }

-- ---- a value seen otherwise

module _ {A B : Type 0} {Follows : List Tok → Type 0} (f : A → B) (p : Part A) (law : IsRead Follows p) where
  seen_sound : (ts rest : List Tok) (v : B) (r : Read A) → p.reads ts ≡ r → read_seen f r ≡ Ok (v, rest) → Took Follows (seen f p).means ts v rest
  seen_sound ts rest v (Err n) h e = not_read e
  seen_sound ts rest v (Ok x) h e =
      let s = law.sound ts x.1 x.0 h in
      record { front = s.front; whole = s.whole ∙ ap (λ y. s.front ++ y) (read_ok e).1; is = record { value = x.0; is = s.is; seen = sym (read_ok e).0 }; follows = subst Follows (read_ok e).1 s.follows }

  seen_complete : (front rest : List Tok) (v : B) → (seen f p).means front v → Follows rest → (seen f p).reads (front ++ rest) ≡ Ok (v, rest)
  seen_complete front rest v h g = ap (read_seen f) (law.complete front rest h.value h.is g) ∙ ap (λ y. Ok (y, rest)) (sym h.seen)

  seen_same : (front stop : List Tok) → StopsAt p.reads front stop → StopsAt (seen f p).reads front stop
  seen_same front [] s = tt
  seen_same front (t ∷ ts) s = λ more. ap (read_seen f) (s more)

  seen_begins : (front : List Tok) → Begins p.means front → Begins (seen f p).means front
  seen_begins front b = record { more = b.more; value = f b.value; is = record { value = b.value; is = b.is; seen = refl } }

  seen_stops : (ts : List Tok) (n : ℕ) (r : Read A) → p.reads ts ≡ r → read_seen f r ≡ Err n → Stops (seen f p) ts n
  seen_stops ts n (Ok x) h e = not_stopped e
  seen_stops ts n (Err m) h e =
      let s = law.stops ts m h in
      record { front = s.front; stop = s.stop; whole = s.whole; left = sym (left_is e) ∙ s.left; begins = seen_begins s.front s.begins; same = seen_same s.front s.stop s.same }

  pub seen_law : IsRead Follows (seen f p)
  seen_law = record {
    some = seen_begins [] law.some;
    sound = λ ts rest v e. seen_sound ts rest v (p.reads ts) refl e;
    complete = seen_complete;
    stops = λ ts n e. seen_stops ts n (p.reads ts) refl e;
  }

-- ---- tests on the first token

-- the part can't begin with the token
abbrev pub Refuses : {A : Type 0} → Part A → Tok → Type 0
Refuses p t = (more : List Tok) → p.reads (t ∷ more) ≡ Err (suc (length more))

-- what follows a part that goes on while its next token passes the test
abbrev pub Fails : (List Tok → Bool) → List Tok → Type 0
Fails test rest = test rest ≡ false

pub heads_steady : {A : Type 0} (f : Tok → Bool) (b : Bool) (reads : List Tok → Read A) → Steady (heads f) b reads
heads_steady f b reads [] stop more t h s = h
heads_steady f b reads (x ∷ front) stop more t h s = h

-- a part that refuses each token that passes begins with none
pub no_head : {A : Type 0} {Follows : List Tok → Type 0} (f : Tok → Bool) (p : Part A) → IsRead Follows p → ((t : Tok) → f t ≡ true → Refuses p t) → (front rest : List Tok) (v : A) → p.means front v → Follows rest → heads f (front ++ rest) ≡ false
no_head f p law refuses front rest v h g = by (front ++ rest) (law.complete front rest v h g)
  where
    at_token : (t : Tok) (ts : List Tok) (b : Bool) → f t ≡ b → p.reads (t ∷ ts) ≡ Ok (v, rest) → b ≡ false
    at_token t ts false e r = refl
    at_token t ts true e r = not_read (sym (refuses t e ts) ∙ r)

    by : (ts : List Tok) → p.reads ts ≡ Ok (v, rest) → heads f ts ≡ false
    by [] r = refl
    by (t ∷ ts) r = at_token t ts (f t) refl r

-- a part that refuses each token that doesn't pass, and is not empty, begins with one that does
pub a_head : {A : Type 0} {Follows : List Tok → Type 0} (f : Tok → Bool) (p : Part A) → IsRead Follows p → ((t : Tok) → f t ≡ false → Refuses p t) → p.reads [] ≡ Err 0 → (front rest : List Tok) (v : A) → p.means front v → Follows rest → heads f (front ++ rest) ≡ true
a_head f p law refuses empty front rest v h g = by (front ++ rest) (law.complete front rest v h g)
  where
    at_token : (t : Tok) (ts : List Tok) (b : Bool) → f t ≡ b → p.reads (t ∷ ts) ≡ Ok (v, rest) → b ≡ true
    at_token t ts true e r = refl
    at_token t ts false e r = not_read (sym (refuses t e ts) ∙ r)

    by : (ts : List Tok) → p.reads ts ≡ Ok (v, rest) → heads f ts ≡ true
    by [] r = not_read (sym empty ∙ r)
    by (t ∷ ts) r = at_token t ts (f t) refl r

-- a part that goes on while the next token passes, and then one that refuses such tokens
pub then_other : {A B : Type 0} {Follows : List Tok → Type 0} (f : Tok → Bool) {p : Part A} {k : A → Part B} → IsRead (Fails (heads f)) p → ((a : A) (front : List Tok) → p.means front a → IsRead Follows (k a)) → ((a : A) (front : List Tok) → p.means front a → (t : Tok) → f t ≡ true → Refuses (k a) t) → IsRead Follows (p >>= k)
then_other {A} {B} {Follows} f {p} {k} law second refuses = then_at (Fails (heads f)) Follows p k law second (λ a front back rest v m h g. no_head f (k a) (second a front m) (refuses a front m) back rest v h g) (λ a front stop more t h s. heads_steady f false (k a).reads front stop more t h s)

-- the first where the next token passes, else the second
pub either_head : {A : Type 0} {Follows : List Tok → Type 0} (f : Tok → Bool) {p q : Part A} → IsRead Follows p → IsRead Follows q → ((t : Tok) → f t ≡ false → Refuses p t) → p.reads [] ≡ Err 0 → ((t : Tok) → f t ≡ true → Refuses q t) → IsRead Follows (either (heads f) p q)
either_head {A} {Follows} f {p} {q} left right others empty refuses = either_law (heads f) p q left right (a_head f p left others empty) (no_head f q right refuses) (heads_steady f true p.reads) (heads_steady f false q.reads)

-- ---- one token or none, and then another part

module _ {A : Type 0} {Follows : List Tok → Type 0} (f : Tok → Bool) (k : Bool → Part A) (laws : (b : Bool) → IsRead Follows (k b)) (refuses : (t : Tok) → f t ≡ true → Refuses (k false) t) where
  -- the parts behind the token, and without it
  behind : (t : Tok) (front : List Tok) (v : A) → f t ≡ true → (k true).means front v → (optional f >>= k).means (t ∷ front) v
  behind t front v e h = record { front = t ∷ []; back = front; value = true; whole = refl; first = record { token = t; whole = refl; passes = e }; second = h }

  without : (front : List Tok) (v : A) → (k false).means front v → (optional f >>= k).means front v
  without front v h = record { front = []; back = front; value = false; whole = refl; first = refl; second = h }

  reads_behind : (t : Tok) (ts : List Tok) → f t ≡ true → (optional f >>= k).reads (t ∷ ts) ≡ (k true).reads ts
  reads_behind t ts e = ap (λ b. read_then (read_optional b (t ∷ ts)) k) e

  reads_without : (ts : List Tok) → heads f ts ≡ false → (optional f >>= k).reads ts ≡ (k false).reads ts
  reads_without ts e = ap (λ b. read_then (read_optional b ts) k) e

  opt_sound : (ts rest : List Tok) (v : A) → (optional f >>= k).reads ts ≡ Ok (v, rest) → Took Follows (optional f >>= k).means ts v rest
  opt_sound ts rest v e = by ts e
    where
      none : (ts : List Tok) → (k false).reads ts ≡ Ok (v, rest) → Took Follows (optional f >>= k).means ts v rest
      none ts e = let s = (laws false).sound ts rest v e in record { front = s.front; whole = s.whole; is = without s.front v s.is; follows = s.follows }

      some : (t : Tok) (ts : List Tok) → f t ≡ true → (k true).reads ts ≡ Ok (v, rest) → Took Follows (optional f >>= k).means (t ∷ ts) v rest
      some t ts h e = let s = (laws true).sound ts rest v e in record { front = t ∷ s.front; whole = ap (λ x. t ∷ x) s.whole; is = behind t s.front v h s.is; follows = s.follows }

      at_token : (t : Tok) (ts : List Tok) (b : Bool) → f t ≡ b → read_then (read_optional b (t ∷ ts)) k ≡ Ok (v, rest) → Took Follows (optional f >>= k).means (t ∷ ts) v rest
      at_token t ts true h e = some t ts h e
      at_token t ts false h e = none (t ∷ ts) e

      by : (ts : List Tok) → (optional f >>= k).reads ts ≡ Ok (v, rest) → Took Follows (optional f >>= k).means ts v rest
      by [] e = none [] e
      by (t ∷ ts) e = at_token t ts (f t) refl e

  opt_complete : (front rest : List Tok) (v : A) → (optional f >>= k).means front v → Follows rest → (optional f >>= k).reads (front ++ rest) ≡ Ok (v, rest)
  opt_complete front rest v h g = by h.value h.first h.second
    where
      by : (b : Bool) → IsOptional f h.front b → (k b).means h.back v → (optional f >>= k).reads (front ++ rest) ≡ Ok (v, rest)
      by true m n =
          let w : front ++ rest ≡ m.token ∷ (h.back ++ rest) = rw (h.whole, m.whole) refl in
          ap (optional f >>= k).reads w ∙ reads_behind m.token (h.back ++ rest) m.passes ∙ (laws true).complete h.back rest v n g
      by false m n =
          let w : front ++ rest ≡ h.back ++ rest = rw (h.whole, m) refl in
          ap (optional f >>= k).reads w ∙ reads_without (h.back ++ rest) (no_head f (k false) (laws false) refuses h.back rest v n g) ∙ (laws false).complete h.back rest v n g

  opt_begins_without : (front : List Tok) → Begins (k false).means front → Begins (optional f >>= k).means front
  opt_begins_without front b = record { more = b.more; value = b.value; is = without _ b.value b.is }

  opt_stops : (ts : List Tok) (n : ℕ) → (optional f >>= k).reads ts ≡ Err n → Stops (optional f >>= k) ts n
  opt_stops ts n e = by ts e
    where
      same_without : (front stop : List Tok) → heads f (front ++ stop) ≡ false → StopsAt (k false).reads front stop → StopsAt (optional f >>= k).reads front stop
      same_without front [] h s = tt
      same_without front (t ∷ stop) h s = λ more. reads_without (front ++ t ∷ more) (heads_steady f false (k false).reads front stop more t h s) ∙ s more

      same_behind : (t : Tok) (front stop : List Tok) → f t ≡ true → StopsAt (k true).reads front stop → StopsAt (optional f >>= k).reads (t ∷ front) stop
      same_behind t front [] h s = tt
      same_behind t front (u ∷ stop) h s = λ more. reads_behind t (front ++ u ∷ more) h ∙ s more

      none : (ts : List Tok) → heads f ts ≡ false → (k false).reads ts ≡ Err n → Stops (optional f >>= k) ts n
      none ts h e =
          let s = (laws false).stops ts n e in
          record { front = s.front; stop = s.stop; whole = s.whole; left = s.left; begins = opt_begins_without s.front s.begins; same = same_without s.front s.stop (sym (ap (heads f) s.whole) ∙ h) s.same }

      some : (t : Tok) (ts : List Tok) → f t ≡ true → (k true).reads ts ≡ Err n → Stops (optional f >>= k) (t ∷ ts) n
      some t ts h e =
          let s = (laws true).stops ts n e in
          record { front = t ∷ s.front; stop = s.stop; whole = ap (λ x. t ∷ x) s.whole; left = s.left; begins = record { more = s.begins.more; value = s.begins.value; is = behind t _ s.begins.value h s.begins.is }; same = same_behind t s.front s.stop h s.same }

      at_token : (t : Tok) (ts : List Tok) (b : Bool) → f t ≡ b → read_then (read_optional b (t ∷ ts)) k ≡ Err n → Stops (optional f >>= k) (t ∷ ts) n
      at_token t ts true h e = some t ts h e
      at_token t ts false h e = none (t ∷ ts) h e

      by : (ts : List Tok) → (optional f >>= k).reads ts ≡ Err n → Stops (optional f >>= k) ts n
      by [] e = none [] refl e
      by (t ∷ ts) e = at_token t ts (f t) refl e

  pub optional_law : IsRead Follows (optional f >>= k)
  optional_law = record {
    some = opt_begins_without [] (laws false).some;
    sound = opt_sound;
    complete = opt_complete;
    stops = opt_stops;
  }
