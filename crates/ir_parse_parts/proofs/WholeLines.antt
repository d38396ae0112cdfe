-- The answer for a line is what its tokens stand for, or their unfit place.
use Rattle.std.proofs.Common.{ℕ, ◌≡◌, ◌-◌, ◌==◌, ◌≤◌, Bool, true, false, List, length, Result, Ok, Err, refl, sym, ap, ◌∙◌, subst, arith}
use Rattle.std.specs.Prelude.{IfOk, IsErrOf, if◌then◌else◌}
use Rattle.std.proofs.lemmas.Bool.Decides.{nat_tests}
use Rattle.ir_core.specs.declared.text.Token.{Token}
use Rattle.ir_grammar.specs.Parts.{Tok, Part}
use Rattle.ir_grammar.specs.Tokens.{tokens_of}
use Rattle.ir_grammar.specs.Fitting.{shallow_front, IsLine, IsUnfit}
use Rattle.ir_grammar.proofs.Reading.{IsRead, AtEnd}
use Rattle.ir_grammar.proofs.Fronts.{cut}
use Rattle.ir_grammar.proofs.Lines.{same_length, line_read, unfit_behind, unfit_read, left_within}
use Rattle.ir_parse_parts.specs.declared.stops.Stop.{Stop}
use Rattle.ir_parse_parts.specs.declared.stops.Stop.TheVariants as stops
use Rattle.ir_parse_parts.specs.declared.stops.LineError.{LineError}
use Rattle.ir_parse_parts.specs.declared.stops.LineError.TheVariants as lines
use Rattle.ir_parse_parts.specs.Reads.{Gave}
use Rattle.ir_parse_parts.specs.Answers.{StopsWithin, answer}

same_number : (a b : ℕ) → (a == b) ≡ true → a ≡ b
same_number a b e = grind (arith, nat_tests)

other_number : (a b : ℕ) → (a == b) ≡ false → a ≡ b → ⊥
other_number a b e h = grind (arith, nat_tests)

module _ {A : Type 0} {p : Part A} (law : IsRead AtEnd p) (ts : List Tok) where
  abbrev front : List Tok
  front = shallow_front 0 ts

  stops_within : (read : Result A Stop) (rest : List Tok) → Gave read rest (p.reads front) → StopsWithin read (length front)
  stops_within (Ok v) rest g = tt
  stops_within (Err (stops.Unfit n)) rest g = left_within law ts front (cut 0 ts) n g
  stops_within (Err stops.NoMemory) rest g = tt

  abbrev whole_or : A → Bool → Result A LineError
  whole_or v b = if b then Ok v else Err (lines.Unfit (length front))

  line_answered : (read : Result A Stop) (rest : List Tok) → Gave read rest (p.reads front) → IfOk (answer read (length front) (length ts)) (IsLine p.means ts)
  line_answered (Ok v) rest g = by (length front == length ts) refl
    where
      by : (b : Bool) → (length front == length ts) ≡ b → IfOk (whole_or v b) (IsLine p.means ts)
      by true e = line_read law ts front (cut 0 ts) rest v (same_number (length front) (length ts) e) g
      by false e = tt
  line_answered (Err (stops.Unfit n)) rest g = tt
  line_answered (Err stops.NoMemory) rest g = tt

  unfit_answered : (read : Result A Stop) (rest : List Tok) → Gave read rest (p.reads front) → (k : ℕ) → IsErrOf (answer read (length front) (length ts)) (lines.Unfit k) → IsUnfit p.means ts k
  unfit_answered (Ok v) rest g k h = by (length front == length ts) refl h
    where
      by : (b : Bool) → (length front == length ts) ≡ b → IsErrOf (whole_or v b) (lines.Unfit k) → IsUnfit p.means ts k
      by true e h = absurd cc
      by false e h =
          let same : length front ≡ k = cc in
          subst (IsUnfit p.means ts) same (unfit_behind law ts front (cut 0 ts) rest v (other_number (length front) (length ts) e) g)
  unfit_answered (Err (stops.Unfit n)) rest g k h =
      let same : length front - n ≡ k = cc in
      subst (IsUnfit p.means ts) same (unfit_read law ts front (cut 0 ts) n g)
  unfit_answered (Err stops.NoMemory) rest g k h = absurd cc

-- the same of a reader at the start of a line
module _ {A : Type 0} {p : Part A} (law : IsRead AtEnd p) (line : List ℕ) (tokens : List Token) (start : List Tok) (read : Result A Stop) (rest : List Tok) (fitting : ℕ)
    (new : start ≡ shallow_front 0 (tokens_of line tokens)) (count : fitting ≡ length start) (gave : Gave read rest (p.reads start)) where
  abbrev ts : List Tok
  ts = tokens_of line tokens

  of_front : Gave read rest (p.reads (shallow_front 0 ts))
  of_front = subst (λ y. Gave read rest (p.reads y)) new gave

  same_count : length (shallow_front 0 ts) ≡ fitting
  same_count = sym (count ∙ ap length new)

  same_answer : (result : Result A LineError) → result ≡ answer read fitting (length tokens) → answer read (length (shallow_front 0 ts)) (length ts) ≡ result
  same_answer result e = ap (λ n. answer read n (length ts)) same_count ∙ ap (answer read fitting) (same_length line tokens) ∙ sym e

  pub within : StopsWithin read fitting
  within = subst (StopsWithin read) same_count (stops_within law ts read rest of_front)

  pub stands_for : (result : Result A LineError) → result ≡ answer read fitting (length tokens) → IfOk result (IsLine p.means ts)
  stands_for result e = subst (λ r. IfOk r (IsLine p.means ts)) (same_answer result e) (line_answered law ts read rest of_front)

  pub unfit_at : (result : Result A LineError) → result ≡ answer read fitting (length tokens) → (k : ℕ) → IsErrOf result (lines.Unfit k) → IsUnfit p.means ts k
  unfit_at result e = subst (λ r. (k : ℕ) → IsErrOf r (lines.Unfit k) → IsUnfit p.means ts k) (same_answer result e) (unfit_answered law ts read rest of_front)
