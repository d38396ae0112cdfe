-- A row has one answer to files, whatever those hold that aren't read.
use Rattle.std.proofs.Common.{ℕ, ◌≡◌, ◌<◌, ◌≤◌, List, IsTrue, length, sym, ap, subst, ◌∙◌, arith}
use Rattle.haft_cli.specs.declared.refusal.Refusal.{Refusal}
use Rattle.haft_cli.specs.Table.{Form, Value, is_read, Stands, Answer, Refused, Row}
use Rattle.haft_cli.specs.Answers.{IsLong, IsWithin, limit, AreUnfit, InFirst, InSecond, Works, Unfit, Fit, Answers, LongFirst, LongSecond, Within}
use Rattle.haft_cli.proofs.Forms.{one_value, one_refusal, never_both, stands_on, unfit_on}

one_unfit : (one two : Form) (first second : List ℕ) (refusal other : Refusal) → AreUnfit one two first second refusal → AreUnfit one two first second other → refusal ≡ other
one_unfit one two first second refusal other (InFirst a) (InFirst b) = one_refusal one first refusal other a b
one_unfit one two first second refusal other (InFirst a) (InSecond value stands b) = absurd (never_both one first value refusal stands a)
one_unfit one two first second refusal other (InSecond value stands a) (InFirst b) = absurd (never_both one first value other stands b)
one_unfit one two first second refusal other (InSecond value stands a) (InSecond again stands' b) = one_refusal two second refusal other a b

not_unfit : (one two : Form) (first second : List ℕ) (v : Value one) (w : Value two) (refusal : Refusal) → Stands one first v → Stands two second w → AreUnfit one two first second refusal → ⊥
not_unfit one two first second v w refusal a b (InFirst u) = never_both one first v refusal a u
not_unfit one two first second v w refusal a b (InSecond value stands u) = never_both two second w refusal b u

pub one_work : (row : Row) (first second : List ℕ) (a b : Answer) → Works row first second a → Works row first second b → a ≡ b
one_work row first second a b (Unfit refusal u e) (Unfit other v f) = e ∙ ap Refused (one_unfit row.first row.second first second refusal other u v) ∙ sym f
one_work row first second a b (Unfit refusal u e) (Fit one two x y f) = absurd (not_unfit row.first row.second first second one two refusal x y u)
one_work row first second a b (Fit one two x y e) (Unfit refusal u f) = absurd (not_unfit row.first row.second first second one two refusal x y u)
one_work row first second a b (Fit one two x y e) (Fit one' two' x' y' f) =
    e ∙ ap (λ (v : Value row.first). row.answer v two) (one_value row.first first one one' x x')
    ∙ ap (λ (w : Value row.second). row.answer one' w) (one_value row.second second two two' y y') ∙ sym f

pub not_both : (form : Form) (text : List ℕ) → IsLong form text → IsWithin form text → ⊥
not_both form text long within = let short : length text ≤ limit = within long.0 in omega (arith, long.1, short)

pub one_answer : (row : Row) (first second : List ℕ) (a b : Answer) → Answers row first second a → Answers row first second b → a ≡ b
one_answer row first second a b (LongFirst l e) (LongFirst k f) = e ∙ sym f
one_answer row first second a b (LongFirst l e) (LongSecond w k f) = absurd (not_both row.first first l w)
one_answer row first second a b (LongFirst l e) (Within w v k) = absurd (not_both row.first first l w)
one_answer row first second a b (LongSecond w l e) (LongFirst k f) = absurd (not_both row.first first k w)
one_answer row first second a b (LongSecond w l e) (LongSecond v k f) = e ∙ sym f
one_answer row first second a b (LongSecond w l e) (Within v u k) = absurd (not_both row.second second l u)
one_answer row first second a b (Within w v k) (LongFirst l f) = absurd (not_both row.first first l w)
one_answer row first second a b (Within w v k) (LongSecond u l f) = absurd (not_both row.second second l v)
one_answer row first second a b (Within w v k) (Within w' v' k') = one_work row first second a b k k'

-- ---- files that aren't read

module _ (row : Row) (first second one two : List ℕ) (answer : Answer) (same_first : IsTrue (is_read row.first) → first ≡ one) where
  pub work_on : (IsTrue (is_read row.second) → second ≡ two) → Works row first second answer → Works row one two answer
  work_on same_second (Unfit refusal (InFirst u) e) = Unfit refusal (InFirst (unfit_on row.first first one refusal same_first u)) e
  work_on same_second (Unfit refusal (InSecond v stands u) e) =
      Unfit refusal (InSecond v (stands_on row.first first one v same_first stands) (unfit_on row.second second two refusal same_second u)) e
  work_on same_second (Fit v w x y e) = Fit v w (stands_on row.first first one v same_first x) (stands_on row.second second two w same_second y) e

  within_on : IsWithin row.first first → IsWithin row.first one
  within_on within = λ reads. subst (λ (text : List ℕ). length text ≤ limit) (same_first reads) (within reads)

  pub answers_on : (IsTrue (is_read row.second) → IsWithin row.first one → second ≡ two) → Answers row first second answer → Answers row one two answer
  answers_on same_second (LongFirst l e) = LongFirst (l.0, subst (λ (text : List ℕ). limit < length text) (same_first l.0) l.1) e
  answers_on same_second (LongSecond w l e) = LongSecond (within_on w) (l.0, subst (λ (text : List ℕ). limit < length text) (same_second l.0 (within_on w)) l.1) e
  answers_on same_second (Within w v work) =
      Within (within_on w) (λ reads. subst (λ (text : List ℕ). length text ≤ limit) (same_second reads (within_on w)) (v reads)) (work_on (λ reads. same_second reads (within_on w)) work)
