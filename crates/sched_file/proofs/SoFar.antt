-- What the lines of a text so far say, and the laws of schedules and first unfit lines.
use Rattle.std.proofs.Common.{◌≡◌, ℕ, suc, ◌<◌, ◌≤◌, Bool, true, false, not, cond, List, [], ◌∷◌, ◌++◌, length, map, Option, Some, None, refl, sym, ap, subst, ◌∙◌, arith, lit≤, append_assoc}
use Rattle.std.specs.List.{AllByRecursion, filter}
use Rattle.std.proofs.lemmas.List.{append-nil, length-map, map-append}
use Rattle.std.proofs.lemmas.List.Elements.{filter-append}
use Rattle.ir_core.specs.Lines.{lines_of}
use Rattle.sched_file.specs.declared.entries.Line.{Line}
use Rattle.sched_file.specs.declared.drafts.Draft.{Draft}
use Rattle.sched_file.specs.Fields.{fields_of, is_passed, rows_of}
use Rattle.sched_file.specs.Entries.{IsEntry, Turns, Rounds, Mixes, Aborts, Upsets}
use Rattle.sched_file.specs.Events.{events_of, HasThread}
use Rattle.sched_file.specs.Schedule.{Pairwise, Means, Without, With, AreSchedule, UnfitLine}
use Rattle.sched_file.specs.Reading.{taken}
use Rattle.sched_file.proofs.Digits.{some, some_is}
use Rattle.sched_file.proofs.Meanings.{Holds, kept, refused, front_means, more_events}

-- ---- the fields of lines

rows_more : (lines more : List (List ℕ)) → rows_of (lines ++ more) ≡ rows_of lines ++ rows_of more
unfolding rows_of
rows_more lines more =
    ap (filter (λ fields. not (is_passed fields))) (map-append fields_of lines more) ∙ filter-append (λ fields. not (is_passed fields)) (map fields_of lines) (map fields_of more)

rows_passed : (lines : List (List ℕ)) (line : List ℕ) → is_passed (fields_of line) ≡ true → rows_of (lines ++ line ∷ []) ≡ rows_of lines
unfolding rows_of
rows_passed lines line e =
    rows_more lines (line ∷ []) ∙ ap (λ t. rows_of lines ++ cond (not t) (fields_of line ∷ []) []) e ∙ append-nil (rows_of lines)

rows_counted : (lines : List (List ℕ)) (line : List ℕ) → is_passed (fields_of line) ≡ false → rows_of (lines ++ line ∷ []) ≡ rows_of lines ++ fields_of line ∷ []
unfolding rows_of
rows_counted lines line e = rows_more lines (line ∷ []) ∙ ap (λ t. rows_of lines ++ cond (not t) (fields_of line ∷ []) []) e

taken_passed : (row : List (List ℕ)) (draft : Draft) → is_passed row ≡ true → taken draft row ≡ Some draft
unfolding taken
taken_passed [] draft e = refl
taken_passed (word ∷ fields) draft e = by (is_passed (word ∷ fields)) _ e
  where
    by : (t : Bool) (o : Option Draft) → t ≡ true → cond t (some draft) o ≡ some draft
    by true o e = refl
    by false o e = absurd cc

-- ---- one line more

pub keeps : (done : List (List ℕ)) (line : List ℕ) (draft after : Draft) → Holds (rows_of done) draft → taken draft (fields_of line) ≡ Some after → Holds (rows_of (done ++ line ∷ [])) after
keeps done line draft after h e = by (is_passed (fields_of line)) refl
  where
    by : (t : Bool) → is_passed (fields_of line) ≡ t → Holds (rows_of (done ++ line ∷ [])) after
    by true p =
        let same : draft ≡ after = some_is draft after (sym (taken_passed (fields_of line) draft p) ∙ e) in
        subst (λ (rows : List (List (List ℕ))). Holds rows after) (sym (rows_passed done line p)) (subst (Holds (rows_of done)) same h)
    by false p = subst (λ (rows : List (List (List ℕ))). Holds rows after) (sym (rows_counted done line p)) (kept (rows_of done) (fields_of line) draft after p h e)

pub refuses : (done : List (List ℕ)) (line : List ℕ) (draft : Draft) → Holds (rows_of done) draft → taken draft (fields_of line) ≡ None → (args : List ℕ) (lines : List Line) → AreSchedule (done ++ line ∷ []) args lines → ⊥
refuses done line draft h e args lines s = by (is_passed (fields_of line)) refl
  where
    by : (t : Bool) → is_passed (fields_of line) ≡ t → ⊥
    by true p = let k : some draft ≡ None = sym (taken_passed (fields_of line) draft p) ∙ e in cc
    by false p = refused (rows_of done) (fields_of line) draft args lines p h e (subst (λ (rows : List (List (List ℕ))). Means rows args lines) (rows_counted done line p) s.means) s.few

pub schedule_so_far : (done : List (List ℕ)) (draft : Draft) → Holds (rows_of done) draft → AreSchedule done draft.args draft.lines
schedule_so_far done draft h = record { means = h.means; few = omega (arith, h.events, h.few) }

pub nothing_so_far : Holds (rows_of []) (record { args = []; lines = []; events = 0; begun = false })
unfolding rows_of events_of
nothing_so_far = record { means = Without refl tt; events = refl; few = lit≤ tt; begun = refl }

-- ---- threads

entry_has_thread : (fields : List (List ℕ)) (line : Line) → IsEntry fields line → HasThread line
entry_has_thread fields line (Turns _ _ _ _ _ _ _ e) = subst HasThread (sym e) tt
entry_has_thread fields line (Rounds _ _ _ _ _ _ le _ e) = subst HasThread (sym e) le
entry_has_thread fields line (Mixes _ _ _ _ _ _ _ _ le _ _ e) = subst HasThread (sym e) le
entry_has_thread fields line (Aborts _ _ _ _ e) = subst HasThread (sym e) tt
entry_has_thread fields line (Upsets _ _ _ _ _ _ _ _ _ _ _ _ _ _ _ e) = subst HasThread (sym e) tt

entries_have_threads : (rows : List (List (List ℕ))) (lines : List Line) → Pairwise IsEntry rows lines → AllByRecursion HasThread lines
entries_have_threads rows [] h = tt
entries_have_threads [] (line ∷ lines) h = absurd h
entries_have_threads (row ∷ rows) (line ∷ lines) h = (entry_has_thread row line h.0, entries_have_threads rows lines h.1)

pub have_threads : (rows : List (List (List ℕ))) (args : List ℕ) (lines : List Line) → Means rows args lines → AllByRecursion HasThread lines
have_threads rows args lines (Without a h) = entries_have_threads rows lines h
have_threads rows args lines (With first others e a h) = entries_have_threads others lines h

-- ---- how many entries

pairwise_length : (rows : List (List (List ℕ))) (lines : List Line) → Pairwise IsEntry rows lines → length rows ≡ length lines
pairwise_length [] [] h = refl
pairwise_length [] (line ∷ lines) h = absurd h
pairwise_length (row ∷ rows) [] h = absurd h
pairwise_length (row ∷ rows) (line ∷ lines) h = ap suc (pairwise_length rows lines h.1)

means_length : (rows : List (List (List ℕ))) (args : List ℕ) (lines : List Line) → Means rows args lines → length lines ≤ length rows
means_length rows args lines (Without a h) = omega (arith, pairwise_length rows lines h)
means_length rows args lines (With first others e a h) = omega (arith, pairwise_length others lines h, ap length e)

filter_length : (test : List (List ℕ) → Bool) (rows : List (List (List ℕ))) → length (filter test rows) ≤ length rows
filter_length test [] = omega arith
filter_length test (row ∷ rows) = by (test row) (filter_length test rows)
  where
    by : (t : Bool) → length (filter test rows) ≤ length rows → length (cond t (row ∷ filter test rows) (filter test rows)) ≤ length (row ∷ rows)
    by true h = omega arith
    by false h = omega arith

-- a schedule has at most one entry a line
pub few_entries : (text : List (List ℕ)) (args : List ℕ) (lines : List Line) → AreSchedule text args lines → length lines ≤ length text
unfolding rows_of
few_entries text args lines s =
    omega (arith, means_length (rows_of text) args lines s.means, filter_length (λ fields. not (is_passed fields)) (map fields_of text), length-map text fields_of)

-- ---- laws

-- what begins a schedule is one
pub front_schedule : (front more : List (List ℕ)) (args : List ℕ) (lines : List Line) → AreSchedule (front ++ more) args lines → (some_args : List ℕ) × (some_lines : List Line) × AreSchedule front some_args some_lines
front_schedule front more args lines s =
    let f = front_means (rows_of front) (rows_of more) args lines (subst (λ (rows : List (List (List ℕ))). Means rows args lines) (rows_more front more) s.means) in
    let few : length (events_of f.front) ≤ 4194304 = omega (arith, s.few, ap (λ (l : List Line). length (events_of l)) f.whole, more_events f.front f.back) in
    (f.args, f.front, record { means = f.means; few = few })

pub not_unfit : (bytes args : List ℕ) (lines : List Line) (number : ℕ) → AreSchedule (lines_of bytes) args lines → UnfitLine bytes number → ⊥
not_unfit bytes args lines number s u =
    let split : lines_of bytes ≡ (u.earlier ++ u.line ∷ []) ++ u.later = u.parts ∙ sym (append_assoc u.earlier (u.line ∷ []) u.later) in
    let f = front_schedule (u.earlier ++ u.line ∷ []) u.later args lines (subst (λ (l : List (List ℕ)). AreSchedule l args lines) split s) in
    u.unfit f.0 f.1 f.2

-- of two places in a list, what stands before the later one
longer_front : (xs ys : List (List ℕ)) (x y : List ℕ) (us vs : List (List ℕ)) → xs ++ x ∷ us ≡ ys ++ y ∷ vs → length xs < length ys → (more : List (List ℕ)) × (ys ≡ (xs ++ x ∷ []) ++ more)
longer_front [] [] x y us vs e lt = absurd (omega arith)
longer_front [] (z ∷ ys) x y us vs e lt = let same : x ≡ z = cc in (ys, cc)
longer_front (w ∷ xs) [] x y us vs e lt = absurd (omega arith)
longer_front (w ∷ xs) (z ∷ ys) x y us vs e lt =
    let same : w ≡ z = cc in
    let rest : xs ++ x ∷ us ≡ ys ++ y ∷ vs = cc in
    let h = longer_front xs ys x y us vs rest (omega arith) in
    let k = h.1 in
    (h.0, cc)

not_before : (bytes : List ℕ) (number other : ℕ) → UnfitLine bytes number → UnfitLine bytes other → number < other → ⊥
not_before bytes number other u v lt =
    let l = longer_front u.earlier v.earlier u.line v.line u.later v.later (sym u.parts ∙ v.parts) (omega (arith, u.place, v.place)) in
    let f = front_schedule (u.earlier ++ u.line ∷ []) l.0 v.args v.lines (subst (λ (x : List (List ℕ)). AreSchedule x v.args v.lines) l.1 v.before) in
    u.unfit f.0 f.1 f.2

pub same_unfit : (bytes : List ℕ) (number other : ℕ) → UnfitLine bytes number → UnfitLine bytes other → number ≡ other
same_unfit bytes number other u v =
    let below : number < other → ⊥ = not_before bytes number other u v in
    let above : other < number → ⊥ = not_before bytes other number v u in
    omega (arith, below, above)
