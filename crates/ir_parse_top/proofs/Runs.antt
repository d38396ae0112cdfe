-- Lines that are read one after another, and the first that can't be read.
use Rattle.std.specs.List.{AllByRecursion}
use Rattle.std.proofs.Common.{◌≡◌, ℕ, ◌+◌, inl, inr, List, [], ◌∷◌, ◌++◌, length, ap, refl, sym, subst, ◌∙◌, arith}
use Rattle.std.proofs.lemmas.List.{append_assoc}
use Rattle.ir_core.specs.declared.text.Token.{Token}
use Rattle.ir_core.specs.declared.text.LinePlace.{LinePlace}
use Rattle.ir_core.specs.Lines.{IsDropped}
use Rattle.ir_parse_top.specs.Sheet.{Sheet}
use Rattle.ir_parse_top.specs.Text.{Line, all_moved, place_behind, pending_of, Says, HasText, Leads, Dropped, Blank, Said, Fault, word_at, CantStand, Stops, AtByte, AtWord, Run, Trips}
use Rattle.ir_parse_top.specs.Reading.{Left, lines_left, IsPassed, FindsText, FindsBad, TripsFrom}

-- ---- runs in pieces

pub run_append : (text : List ℕ) (a b c : Sheet) (xs ys : List Line) → Run text a xs b → Run text b ys c → Run text a (xs ++ ys) c
run_append text a b c [] ys e run = subst (λ (s : Sheet). Run text s ys c) e run
run_append text a b c (x ∷ xs) ys before run = (before.0, before.1, run_append text before.0 b c xs ys before.2 run)

pub run_one : (text : List ℕ) (a b : Sheet) (line : Line) → Leads text a line b → Run text a (line ∷ []) b
run_one text a b line leads = (b, leads, refl)

pub trips_append : (text : List ℕ) (number : ℕ) (a b : Sheet) (xs ys : List Line) (n : ℕ) (fault : Fault) → Run text a xs b → Trips text (number + length xs) b ys n fault → Trips text number a (xs ++ ys) n fault
trips_append text number a b [] ys n fault e trips =
    let h : number + 0 ≡ number = omega arith in
    subst (λ (s : Sheet). Trips text number s ys n fault) e (subst (λ (m : ℕ). Trips text m b ys n fault) h trips)
trips_append text number a b (x ∷ xs) ys n fault before trips =
    let h : number + length (x ∷ xs) ≡ (number + 1) + length xs = omega arith in
    inr (before.0, before.1, trips_append text (number + 1) before.0 b xs ys n fault before.2 (subst (λ (m : ℕ). Trips text m b ys n fault) h trips))

pub trips_here : (text : List ℕ) (number : ℕ) (a b : Sheet) (xs ys : List Line) (line : Line) (n : ℕ) (fault : Fault) → Run text a xs b → n ≡ number + length xs → Stops text b line fault → Trips text number a (xs ++ line ∷ ys) n fault
trips_here text number a b xs ys line n fault run is stops = trips_append text number a b xs (line ∷ ys) n fault run (inl (is, stops))

-- ---- lines that say nothing

pub run_passed : (text : List ℕ) (sheet : Sheet) (lines : List Line) → AllByRecursion (IsPassed (place_behind sheet)) lines → Run text sheet lines sheet
run_passed text sheet [] all = refl
run_passed text sheet (line ∷ lines) all = (sheet, passed all.0, run_passed text sheet lines all.1)
  where
    passed : IsPassed (place_behind sheet) line → Leads text sheet line sheet
    passed (inl dropped) = Dropped dropped refl
    passed (inr blank) = Blank blank.0 blank.1 refl

module _ (place : LinePlace) (sheet : Sheet) (here : place_behind sheet ≡ place) (fresh : pending_of sheet ≡ []) where
  passed_at : (text : List ℕ) (lines : List Line) → AllByRecursion (IsPassed place) lines → Run text sheet lines sheet
  passed_at text lines all = run_passed text sheet lines (subst (λ (p : LinePlace). AllByRecursion (IsPassed p) lines) (sym here) all)

  has_text : (old new : Left) (number : ℕ) (tokens : List Token) (f : FindsText place old new number tokens) → HasText sheet f.line tokens
  has_text old new number tokens f = record {
    tokens = f.own;
    kept = subst (λ (p : LinePlace). IsDropped p f.line.bytes → ⊥) (sym here) f.kept;
    own = f.is;
    some = f.some;
    whole = f.joined ∙ ap (λ (ts : List Token). ts ++ all_moved f.line.at f.own) (sym fresh);
  }

  -- what a line with tokens leads to
  pub text_leads : (old new : Left) (number : ℕ) (tokens : List Token) (next : Sheet) (f : FindsText place old new number tokens) → Says old.text sheet tokens next → Run old.text sheet (f.used ++ f.line ∷ []) next
  text_leads old new number tokens next f says =
      run_append old.text sheet sheet next f.used (f.line ∷ []) (passed_at old.text f.used f.passed) (run_one old.text sheet next f.line (Said tokens (has_text old new number tokens f) says))

  -- a line with an unfit token
  pub text_trips : (old new : Left) (number : ℕ) (tokens : List Token) (n k : ℕ) (fault : Fault) (f : FindsText place old new number tokens) → n ≡ number → CantStand old.text sheet tokens k → fault ≡ word_at old.text tokens k → TripsFrom old sheet n fault
  text_trips old new number tokens n k fault f is unfit word =
      subst (λ (ls : List Line). Trips old.text old.number sheet ls n fault) (sym (f.goes.lines ∙ append_assoc f.used (f.line ∷ []) (lines_left new)))
      (trips_here old.text old.number sheet sheet f.used (lines_left new) f.line n fault (passed_at old.text f.used f.passed) (is ∙ f.number_is) (AtWord tokens k (has_text old new number tokens f) unfit word))

  -- a line with a bad byte
  pub bad_trips : (old : Left) (n : ℕ) (fault : Fault) → FindsBad place old n fault → TripsFrom old sheet n fault
  bad_trips old n fault f =
      subst (λ (ls : List Line). Trips old.text old.number sheet ls n fault) (sym f.lines)
      (trips_here old.text old.number sheet sheet f.used f.rest f.line n fault (passed_at old.text f.used f.passed) f.n_is
      (AtByte f.column (subst (λ (p : LinePlace). IsDropped p f.line.bytes → ⊥) (sym here) f.kept) f.bad f.fault_is))
