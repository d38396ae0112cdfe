-- What the fields of the lines say, line by line: one meaning at most, and what one more line changes.
use Rattle.std.proofs.Common.{◌≡◌, ℕ, zero, suc, ◌+◌, ◌*◌, ◌^◌, ◌<◌, ◌≤◌, Bool, true, false, not, cond, ◌&&◌, nat_lt, nat_le, List, [], ◌∷◌, ◌++◌, length, map, Some, None, refl, sym, ap, subst, ◌∙◌, arith, lit≤, codes, append_assoc}
use Rattle.std.specs.Str.{bytes_eq}
use Rattle.std.specs.List.{flat_map, range_with_len}
use Rattle.std.proofs.lemmas.Bool.{ltb-true, lt-ltb}
use Rattle.std.proofs.lemmas.Bool.Decides.{nat_tests}
use Rattle.std.proofs.lemmas.Slice.Eq.{bytes_eq-Decides}
use Rattle.std.proofs.lemmas.List.{append-nil, length-append, length-replicate}
use Rattle.std.proofs.lemmas.List.FromFn.{length-map-range_with_len}
use Rattle.std.proofs.lemmas.Grind.{flat_map-append}
use Rattle.sched_file.specs.declared.entries.Line.{Line}
use Rattle.sched_file.specs.declared.entries.Line.TheVariants as entries
use Rattle.sched_file.specs.declared.drafts.Draft.{Draft}
use Rattle.sched_file.specs.Fields.{is_filled, is_passed}
use Rattle.sched_file.specs.Entries.{IsNumber, IsEntry, Turns, Rounds, Mixes, Aborts, Upsets}
use Rattle.sched_file.specs.Events.{turn_of, round_turns, mixed, mix_turns, events_in, events_of}
use Rattle.sched_file.specs.Schedule.{Pairwise, AreArgs, Means, Without, With}
use Rattle.sched_file.specs.Reading.{◌>>=◌, number_below, args_from, event_count, with_args, with_line, taken, entry_of}
use Rattle.sched_file.proofs.Digits.{bind_some, when_some, some, some_is, both_true, number_below_found, number_below_again}
use Rattle.sched_file.proofs.Readings.{entry_found, entry_again, same_entry}

-- ---- place by place

pairwise_same : {A B : Type 0} (R : A → B → Type 0) → ((x : A) (y z : B) → R x y → R x z → y ≡ z) → (xs : List A) (ys zs : List B) → Pairwise R xs ys → Pairwise R xs zs → ys ≡ zs
pairwise_same R one [] [] [] h k = refl
pairwise_same R one [] [] (z ∷ zs) h k = absurd k
pairwise_same R one [] (y ∷ ys) zs h k = absurd h
pairwise_same R one (x ∷ xs) [] zs h k = absurd h
pairwise_same R one (x ∷ xs) (y ∷ ys) [] h k = absurd k
pairwise_same R one (x ∷ xs) (y ∷ ys) (z ∷ zs) h k =
    let first = one x y z h.0 k.0 in
    let rest = pairwise_same R one xs ys zs h.1 k.1 in
    cc

pairwise_push : {A B : Type 0} (R : A → B → Type 0) (xs : List A) (ys : List B) (x : A) (y : B) → Pairwise R xs ys → R x y → Pairwise R (xs ++ x ∷ []) (ys ++ y ∷ [])
pairwise_push R [] [] x y h k = (k, tt)
pairwise_push R [] (b ∷ ys) x y h k = absurd h
pairwise_push R (a ∷ xs) [] x y h k = absurd h
pairwise_push R (a ∷ xs) (b ∷ ys) x y h k = (h.0, pairwise_push R xs ys x y h.1 k)

-- the items of a list that go with two lists one behind the other
record Parts {A B : Type 0} (R : A → B → Type 0) (xs more : List A) (zs : List B) : Type 0 where
  front : List B
  back : List B
  whole : zs ≡ front ++ back
  first : Pairwise R xs front
  second : Pairwise R more back

pairwise_parts : {A B : Type 0} (R : A → B → Type 0) (xs more : List A) (zs : List B) → Pairwise R (xs ++ more) zs → Parts R xs more zs
pairwise_parts R [] more zs h = record { front = []; back = zs; whole = refl; first = tt; second = h }
pairwise_parts R (x ∷ xs) more [] h = absurd h
pairwise_parts R (x ∷ xs) more (z ∷ zs) h =
    let p = pairwise_parts R xs more zs h.1 in
    record { front = z ∷ p.front; back = p.back; whole = ap (λ (l : List _). z ∷ l) p.whole; first = (h.0, p.first); second = p.second }

record One {A B : Type 0} (R : A → B → Type 0) (x : A) (zs : List B) : Type 0 where
  item : B
  whole : zs ≡ item ∷ []
  is : R x item

pairwise_one : {A B : Type 0} (R : A → B → Type 0) (x : A) (zs : List B) → Pairwise R (x ∷ []) zs → One R x zs
pairwise_one R x [] h = absurd h
pairwise_one R x (z ∷ []) h = record { item = z; whole = refl; is = h.0 }
pairwise_one R x (z ∷ y ∷ zs) h = absurd h.1

-- ---- numbers and arguments

same_number : (limit : ℕ) (field : List ℕ) (n m : ℕ) → IsNumber limit field n → IsNumber limit field m → n ≡ m
same_number limit field n m h k = h.value ∙ sym k.value

-- the fields are these arguments behind those so far
record More (args : List ℕ) (fields : List (List ℕ)) (all : List ℕ) : Type 0 where
  more : List ℕ
  whole : all ≡ args ++ more
  values : Pairwise (IsNumber (2 ^ 64)) fields more
  few : length all ≤ 64

args_found : (args : List ℕ) (fields : List (List ℕ)) (all : List ℕ) → length args ≤ 64 → args_from args fields ≡ Some all → More args fields all
unfolding args_from
args_found args [] all le e =
    let k = some_is args all e in
    record { more = []; whole = sym k ∙ sym (append-nil args); values = tt; few = omega (arith, ap length k) }
args_found args (field ∷ fields) all le e =
    let t = when_some (nat_lt (length args) 64) (number_below (2 ^ 64) field >>= λ n. args_from (args ++ n ∷ []) fields) all e in
    let s = bind_some (number_below (2 ^ 64) field) (λ n. args_from (args ++ n ∷ []) fields) all t.1 in
    let lt : length args < 64 = ltb-true (length args) 64 t.0 in
    let rest = args_found (args ++ s.0 ∷ []) fields all (omega (arith, length-append args (s.0 ∷ []))) s.2 in
    record { more = s.0 ∷ rest.more; whole = rest.whole ∙ append_assoc args (s.0 ∷ []) rest.more; values = (number_below_found (2 ^ 64) field s.0 s.1, rest.values); few = rest.few }

args_again : (args : List ℕ) (fields : List (List ℕ)) (more : List ℕ) → Pairwise (IsNumber (2 ^ 64)) fields more → length (args ++ more) ≤ 64 → args_from args fields ≡ Some (args ++ more)
unfolding args_from
args_again args [] [] h le = ap (λ (l : List ℕ). some l) (sym (append-nil args))
args_again args [] (n ∷ more) h le = absurd h
args_again args (field ∷ fields) [] h le = absurd h
args_again args (field ∷ fields) (n ∷ more) h le =
    let lt : nat_lt (length args) 64 ≡ true = lt-ltb (length args) 64 (omega (arith, length-append args (n ∷ more))) in
    let regroup : (args ++ n ∷ []) ++ more ≡ args ++ n ∷ more = append_assoc args (n ∷ []) more in
    let rest = args_again (args ++ n ∷ []) fields more h.1 (subst (λ (l : List ℕ). length l ≤ 64) (sym regroup) le) in
    ap (λ t. cond t (number_below (2 ^ 64) field >>= λ n. args_from (args ++ n ∷ []) fields) None) lt
    ∙ ap (λ o. o >>= λ n. args_from (args ++ n ∷ []) fields) (number_below_again (2 ^ 64) field n (lit≤ tt) h.0)
    ∙ rest ∙ ap (λ (l : List ℕ). some l) regroup

-- a line of arguments is no entry
not_args : (word : List ℕ) (fields : List (List ℕ)) (line : Line) → IsEntry (word ∷ fields) line → bytes_eq word (codes "args") ≡ false
not_args word fields line (Turns _ _ _ _ e _ _ _) = let k : word ≡ codes "turn" = cc in ap (λ (w : List ℕ). bytes_eq w (codes "args")) k
not_args word fields line (Rounds _ _ _ _ e _ _ _ _) = let k : word ≡ codes "round" = cc in ap (λ (w : List ℕ). bytes_eq w (codes "args")) k
not_args word fields line (Mixes _ _ _ _ _ _ e _ _ _ _ _) = let k : word ≡ codes "mix" = cc in ap (λ (w : List ℕ). bytes_eq w (codes "args")) k
not_args word fields line (Aborts _ _ e _ _) = let k : word ≡ codes "abort" = cc in ap (λ (w : List ℕ). bytes_eq w (codes "args")) k
not_args word fields line (Upsets _ _ _ _ _ _ _ _ _ e _ _ _ _ _ _) = let k : word ≡ codes "upset" = cc in ap (λ (w : List ℕ). bytes_eq w (codes "args")) k

args_entry : (fields : List (List ℕ)) (args : List ℕ) (line : Line) → AreArgs fields args → IsEntry fields line → ⊥
args_entry fields args line h k =
    let e : IsEntry (codes "args" ∷ h.numbers) line = subst (λ (fs : List (List ℕ)). IsEntry fs line) h.whole k in
    let f : true ≡ false = not_args (codes "args") h.numbers line e in
    cc

-- ---- one meaning

same_args : (fields : List (List ℕ)) (args others : List ℕ) → AreArgs fields args → AreArgs fields others → args ≡ others
same_args fields args others h k =
    let numbers : h.numbers ≡ k.numbers = let e = sym h.whole ∙ k.whole in cc in
    let moved : Pairwise (IsNumber (2 ^ 64)) k.numbers args = subst (λ (fs : List (List ℕ)). Pairwise (IsNumber (2 ^ 64)) fs args) numbers h.values in
    pairwise_same (IsNumber (2 ^ 64)) (λ field n m. same_number (2 ^ 64) field n m) k.numbers args others moved k.values

-- no line of arguments among entries
no_args_among : (rows : List (List (List ℕ))) (first : List (List ℕ)) (others : List (List (List ℕ))) (args : List ℕ) (lines : List Line) → rows ≡ first ∷ others → AreArgs first args → Pairwise IsEntry rows lines → ⊥
no_args_among rows first others args lines e h k = by lines (subst (λ (rs : List (List (List ℕ))). Pairwise IsEntry rs lines) e k)
  where
    by : (lines : List Line) → Pairwise IsEntry (first ∷ others) lines → ⊥
    by [] p = p
    by (line ∷ lines) p = args_entry first args line h p.0

pub same_meaning : (rows : List (List (List ℕ))) (args others : List ℕ) (lines again : List Line) → Means rows args lines → Means rows others again → (args ≡ others) × (lines ≡ again)
same_meaning rows args others lines again (Without a h) (Without b k) = (a ∙ sym b, pairwise_same IsEntry same_entry rows lines again h k)
same_meaning rows args others lines again (Without a h) (With first rest e b k) = absurd (no_args_among rows first rest others lines e b h)
same_meaning rows args others lines again (With first rest e a h) (Without b k) = absurd (no_args_among rows first rest args again e a k)
same_meaning rows args others lines again (With first rest e a h) (With second more f b k) =
    let both = sym e ∙ f in
    let same : first ≡ second = cc in
    let left : rest ≡ more = cc in (
      same_args second args others (subst (λ (fs : List (List ℕ)). AreArgs fs args) same a) b,
      pairwise_same IsEntry same_entry more lines again (subst (λ (rs : List (List (List ℕ))). Pairwise IsEntry rs lines) left h) k,
    )

-- ---- the front of a schedule

-- what a front of the rows says
pub record Front (rows : List (List (List ℕ))) (lines : List Line) : Type 0 where
  pub args : List ℕ
  pub front : List Line
  pub back : List Line
  pub whole : lines ≡ front ++ back
  pub means : Means rows args front

pub front_means : (rows more : List (List (List ℕ))) (args : List ℕ) (lines : List Line) → Means (rows ++ more) args lines → Front rows lines
front_means rows more args lines (Without a h) =
    let p = pairwise_parts IsEntry rows more lines h in
    record { args = []; front = p.front; back = p.back; whole = p.whole; means = Without refl p.first }
front_means [] more args lines (With first others e a h) = record { args = []; front = []; back = lines; whole = refl; means = Without refl tt }
front_means (row ∷ rows) more args lines (With first others e a h) =
    let same : row ≡ first = cc in
    let left : others ≡ rows ++ more = cc in
    let p = pairwise_parts IsEntry rows more lines (subst (λ (rs : List (List (List ℕ))). Pairwise IsEntry rs lines) left h) in
    record { args = args; front = p.front; back = p.back; whole = p.whole; means = With first rows (ap (λ (r : List (List ℕ)). r ∷ rows) same) a p.first }

-- what the last row says
data Last (rows : List (List (List ℕ))) (row : List (List ℕ)) (args : List ℕ) (lines : List Line) : Type 0 where
  Arguments : rows ≡ [] → AreArgs row args → Last rows row args lines
  Entry : (front : List Line) (line : Line) → lines ≡ front ++ line ∷ [] → Means rows args front → IsEntry row line → Last rows row args lines

last_entry : (rows : List (List (List ℕ))) (row : List (List ℕ)) (args : List ℕ) (lines : List Line) (entered : List (List (List ℕ)))
    → ((front : List Line) → Pairwise IsEntry entered front → Means rows args front) → Pairwise IsEntry (entered ++ row ∷ []) lines → Last rows row args lines
last_entry rows row args lines entered means h =
    let p = pairwise_parts IsEntry entered (row ∷ []) lines h in
    let o = pairwise_one IsEntry row p.back p.second in
    Entry p.front o.item (p.whole ∙ ap (λ (l : List Line). p.front ++ l) o.whole) (means p.front p.first) o.is

last_of : (rows : List (List (List ℕ))) (row : List (List ℕ)) (args : List ℕ) (lines : List Line) → Means (rows ++ row ∷ []) args lines → Last rows row args lines
last_of rows row args lines (Without a h) = last_entry rows row args lines rows (λ front k. Without a k) h
last_of [] row args lines (With first others e a h) =
    let same : first ≡ row = cc in
    Arguments refl (subst (λ (fs : List (List ℕ)). AreArgs fs args) same a)
last_of (r ∷ rows) row args lines (With first others e a h) =
    let same : r ≡ first = cc in
    let left : others ≡ rows ++ row ∷ [] = cc in
    last_entry (r ∷ rows) row args lines rows (λ front k. With first rows (ap (λ (x : List (List ℕ)). x ∷ rows) same) a k) (subst (λ (rs : List (List (List ℕ))). Pairwise IsEntry rs lines) left h)

-- one more entry
means_push : (rows : List (List (List ℕ))) (row : List (List ℕ)) (args : List ℕ) (lines : List Line) (line : Line) → Means rows args lines → IsEntry row line → Means (rows ++ row ∷ []) args (lines ++ line ∷ [])
means_push rows row args lines line (Without a h) k = Without a (pairwise_push IsEntry rows lines row line h k)
means_push rows row args lines line (With first others e a h) k =
    With first (others ++ row ∷ []) (ap (λ (rs : List (List (List ℕ))). rs ++ row ∷ []) e) a (pairwise_push IsEntry others lines row line h k)

-- ---- how many events

round_length : (threads rounds : ℕ) → length (round_turns threads rounds) ≡ threads * rounds
unfolding round_turns
round_length threads zero = omega arith
round_length threads (suc rounds) =
    let h = round_length threads rounds in
    omega (arith, h, length-append (map turn_of (range_with_len 0 threads)) (round_turns threads rounds), length-map-range_with_len turn_of 0 threads)

mix_length : (threads x turns : ℕ) → length (mix_turns threads x turns) ≡ turns
unfolding mix_turns
mix_length threads x zero = refl
mix_length threads x (suc turns) = ap suc (mix_length threads (mixed x) turns)

pub counted : (line : Line) → length (events_in line) ≡ event_count line
unfolding events_in event_count
counted (entries.Turn thread turns) = length-replicate turns _
counted (entries.Round threads rounds) = round_length threads rounds
counted (entries.Mix threads seed turns) = mix_length threads seed turns
counted (entries.Abort thread) = refl
counted (entries.Upset upset) = refl

pub more_events : (lines more : List Line) → length (events_of (lines ++ more)) ≡ length (events_of lines) + length (events_of more)
unfolding events_of
more_events lines more = ap length (flat_map-append events_in lines more) ∙ length-append (flat_map events_in lines) (flat_map events_in more)

one_entry : (line : Line) → length (events_of (line ∷ [])) ≡ event_count line
unfolding events_of
one_entry line = ap length (append-nil (events_in line)) ∙ counted line

-- ---- what the lines so far say

-- the draft is what these rows say
pub record Holds (rows : List (List (List ℕ))) (draft : Draft) : Type 0 where
  pub means : Means rows draft.args draft.lines
  pub events : draft.events ≡ length (events_of draft.lines)
  pub few : draft.events ≤ 4194304
  pub begun : draft.begun ≡ is_filled rows

none_filled : {A : Type 0} (rows : List A) → is_filled rows ≡ false → rows ≡ []
none_filled [] e = refl
none_filled (row ∷ rows) e = absurd cc

filled : {A : Type 0} (rows : List A) (row : A) → is_filled (rows ++ row ∷ []) ≡ true
filled [] row = refl
filled (r ∷ rows) row = refl

-- the test for a line of arguments
abbrev gives_args : Draft → List ℕ → Bool
gives_args draft word = not draft.begun && bytes_eq word (codes "args")

record Opening (rows : List (List (List ℕ))) (word : List ℕ) : Type 0 where
  empty : rows ≡ []
  args : word ≡ codes "args"

opening : (rows : List (List (List ℕ))) (draft : Draft) (word : List ℕ) → Holds rows draft → gives_args draft word ≡ true → Opening rows word
opening rows draft word h e =
    let q = both_true (not draft.begun) (bytes_eq word (codes "args")) e in
    record { empty = none_filled rows (sym h.begun ∙ unset draft.begun q.0); args = (bytes_eq-Decides word (codes "args")).0 q.1 }
  where
    unset : (b : Bool) → not b ≡ true → b ≡ false
    unset true e = absurd cc
    unset false e = refl

kept_args : (rows : List (List (List ℕ))) (draft after : Draft) (word : List ℕ) (fields : List (List ℕ)) → Holds rows draft → Opening rows word → with_args draft fields ≡ Some after → Holds (rows ++ (word ∷ fields) ∷ []) after
unfolding with_args
kept_args rows draft after word fields h o e =
    let s = bind_some (args_from [] fields) (λ args. some (record draft { args = args; begun = true })) after e in
    let m = args_found [] fields s.0 (omega arith) s.1 in
    let made : Draft = record draft { args = s.0; begun = true } in
    let are : AreArgs (word ∷ fields) s.0 = record { numbers = fields; whole = ap (λ (w : List ℕ). w ∷ fields) o.args; values = subst (Pairwise (IsNumber (2 ^ 64)) fields) (sym m.whole) m.values; few = m.few } in
    let none : Pairwise IsEntry [] draft.lines = none_yet draft.args draft.lines (subst (λ (rs : List (List (List ℕ))). Means rs draft.args draft.lines) o.empty h.means) in
    subst (Holds (rows ++ (word ∷ fields) ∷ [])) (some_is made after s.2)
    (record {
      means = With (word ∷ fields) [] (ap (λ (rs : List (List (List ℕ))). rs ++ (word ∷ fields) ∷ []) o.empty) are none;
      events = h.events;
      few = h.few;
      begun = sym (filled rows (word ∷ fields));
    })
  where
    none_yet : (args : List ℕ) (lines : List Line) → Means [] args lines → Pairwise IsEntry [] lines
    none_yet args lines (Without a k) = k
    none_yet args lines (With first others e a k) = absurd cc

kept_entry : (rows : List (List (List ℕ))) (draft after : Draft) (word : List ℕ) (fields : List (List ℕ)) → Holds rows draft → (entry_of word fields >>= with_line draft) ≡ Some after → Holds (rows ++ (word ∷ fields) ∷ []) after
unfolding with_line
kept_entry rows draft after word fields h e =
    let s = bind_some (entry_of word fields) (with_line draft) after e in
    let made : Draft = record draft { lines = draft.lines ++ s.0 ∷ []; events = draft.events + event_count s.0; begun = true } in
    let t = when_some (nat_le (draft.events + event_count s.0) 4194304) (some made) after s.2 in
    let few : draft.events + event_count s.0 ≤ 4194304 = at_most (draft.events + event_count s.0) t.0 in
    subst (Holds (rows ++ (word ∷ fields) ∷ [])) (some_is made after t.1)
    (record {
      means = means_push rows (word ∷ fields) draft.args draft.lines s.0 h.means (entry_found word fields s.0 s.1);
      events = omega (arith, h.events, more_events draft.lines (s.0 ∷ []), one_entry s.0);
      few = few;
      begun = sym (filled rows (word ∷ fields));
    })
  where
    at_most : (n : ℕ) → nat_le n 4194304 ≡ true → n ≤ 4194304
    at_most n e = grind (arith, nat_tests)

-- a line that fits
pub kept : (rows : List (List (List ℕ))) (row : List (List ℕ)) (draft after : Draft) → is_passed row ≡ false → Holds rows draft → taken draft row ≡ Some after → Holds (rows ++ row ∷ []) after
unfolding taken
kept rows [] draft after p h e = absurd cc
kept rows (word ∷ fields) draft after p h e =
    by (gives_args draft word) (opening rows draft word h) (ap (λ t. cond t (some draft) (cond (gives_args draft word) (with_args draft fields) (entry_of word fields >>= with_line draft))) (sym p) ∙ e)
  where
    by : (t : Bool) → (t ≡ true → Opening rows word) → cond t (with_args draft fields) (entry_of word fields >>= with_line draft) ≡ Some after → Holds (rows ++ (word ∷ fields) ∷ []) after
    by true o e = kept_args rows draft after word fields h (o refl) e
    by false o e = kept_entry rows draft after word fields h e

-- a line that doesn't fit: no meaning of the rows with it
refused_args : (rows : List (List (List ℕ))) (draft : Draft) (word : List ℕ) (fields : List (List ℕ)) (args : List ℕ) → Holds rows draft → rows ≡ [] → AreArgs (word ∷ fields) args
    → (gives_args draft word ≡ true) × (after : Draft) × (with_args draft fields ≡ Some after)
unfolding with_args
refused_args rows draft word fields args h e a =
    let first : word ≡ codes "args" = let k = a.whole in cc in
    let numbers : fields ≡ a.numbers = let k = a.whole in cc in
    let fresh : draft.begun ≡ false = h.begun ∙ ap (λ (rs : List (List (List ℕ))). is_filled rs) e in
    let values : Pairwise (IsNumber (2 ^ 64)) fields args = subst (λ (fs : List (List ℕ)). Pairwise (IsNumber (2 ^ 64)) fs args) (sym numbers) a.values in (
      ap (λ b. not b && bytes_eq word (codes "args")) fresh ∙ (bytes_eq-Decides word (codes "args")).1 first,
      record draft { args = args; begun = true },
      ap (λ o. o >>= λ xs. some (record draft { args = xs; begun = true })) (args_again [] fields args values a.few),
    )

refused_entry : (rows : List (List (List ℕ))) (draft : Draft) (word : List ℕ) (fields : List (List ℕ)) (args : List ℕ) (front : List Line) (line : Line) → Holds rows draft → Means rows args front → IsEntry (word ∷ fields) line
    → length (events_of (front ++ line ∷ [])) ≤ 4194304 → (gives_args draft word ≡ false) × (after : Draft) × ((entry_of word fields >>= with_line draft) ≡ Some after)
unfolding with_line
refused_entry rows draft word fields args front line h m k few =
    let same : draft.lines ≡ front = (same_meaning rows draft.args args draft.lines front h.means m).1 in
    let le : draft.events + event_count line ≤ 4194304 = omega (arith, h.events, ap (λ (l : List Line). length (events_of l)) same, more_events front (line ∷ []), one_entry line, few) in
    let after : Draft = record draft { lines = draft.lines ++ line ∷ []; events = draft.events + event_count line; begun = true } in (
      ap (λ b. not draft.begun && b) (not_args word fields line k) ∙ neither (not draft.begun),
      after,
      ap (λ o. o >>= with_line draft) (entry_again (word ∷ fields) line k) ∙ ap (λ t. cond t (some after) None) (passes (draft.events + event_count line) le),
    )
  where
    neither : (b : Bool) → (b && false) ≡ false
    neither true = refl
    neither false = refl

    passes : (n : ℕ) → n ≤ 4194304 → nat_le n 4194304 ≡ true
    passes n le = grind (arith, nat_tests)

pub refused : (rows : List (List (List ℕ))) (row : List (List ℕ)) (draft : Draft) (args : List ℕ) (lines : List Line) → is_passed row ≡ false → Holds rows draft → taken draft row ≡ None
    → Means (rows ++ row ∷ []) args lines → length (events_of lines) ≤ 4194304 → ⊥
unfolding taken
refused rows [] draft args lines p h e m few = absurd cc
refused rows (word ∷ fields) draft args lines p h e m few =
    by (last_of rows (word ∷ fields) args lines m)
    (ap (λ t. cond t (some draft) (cond (gives_args draft word) (with_args draft fields) (entry_of word fields >>= with_line draft))) (sym p) ∙ e)
  where
    by : Last rows (word ∷ fields) args lines → cond (gives_args draft word) (with_args draft fields) (entry_of word fields >>= with_line draft) ≡ None → ⊥
    by (Arguments empty a) e =
        let r = refused_args rows draft word fields args h empty a in
        let f : None ≡ Some r.1 = sym e ∙ ap (λ t. cond t (with_args draft fields) (entry_of word fields >>= with_line draft)) r.0 ∙ r.2 in
        cc
    by (Entry front line whole k is) e =
        let r = refused_entry rows draft word fields args front line h k is (subst (λ (l : List Line). length (events_of l) ≤ 4194304) whole few) in
        let f : None ≡ Some r.1 = sym e ∙ ap (λ t. cond t (with_args draft fields) (entry_of word fields >>= with_line draft)) r.0 ∙ r.2 in
        cc
