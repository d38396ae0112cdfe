-- What the fields of one line stand for.
use Rattle.std.specs.Prelude.{ℕ, ◌≡◌, ◌+◌, ◌-◌, ◌*◌, ◌^◌, ◌<◌, ◌≤◌, IsTrue, List, [], ◌∷◌, ◌++◌, fold, codes}
use Rattle.ir_core.specs.declared.values.Side.{Side}
use Rattle.ir_core.specs.declared.values.Side.TheVariants.{M, S}
use Rattle.ir_core.specs.Tokens.{is_digits, is_name}
use Rattle.sched_file.specs.declared.entries.Line.{Line}
use Rattle.sched_file.specs.declared.entries.Line.TheVariants as entries

-- the number that decimal digits write, the most significant digit first
abbrev pub decimal_value : List ℕ → ℕ
decimal_value digits = fold (λ n digit. 10 * n + (digit - 48)) 0 digits

-- The field is one decimal digit or more, and writes the number, which is below the limit. Zeros may lead.
pub record IsNumber (limit : ℕ) (field : List ℕ) (number : ℕ) : Type 0 where
  pub digits : IsTrue (is_digits field)
  pub value : number ≡ decimal_value field
  pub below : number < limit

-- the field is `m.` or `s.`, and then a name
pub data IsRegister (field : List ℕ) (side : Side) (name : List ℕ) : Type 0 where
  Master : field ≡ codes "m." ++ name → IsTrue (is_name name) → side ≡ M → IsRegister field side name
  Shadow : field ≡ codes "s." ++ name → IsTrue (is_name name) → side ≡ S → IsRegister field side name

-- The fields of a line stand for the entry: `turn T N`, `round K N`, `mix K SEED N`, `abort T` or `upset T D R MASK`.
-- A thread T is at most 63, a count K of threads from 1 to 64, a depth D below 2 ^ 32, a MASK from 1 and below 2 ^ 128.
pub data IsEntry (fields : List (List ℕ)) (entry : Line) : Type 0 where
  Turns : (thread count : List ℕ) (t n : ℕ) → fields ≡ codes "turn" ∷ thread ∷ count ∷ []
      → IsNumber 64 thread t → IsNumber (2 ^ 64) count n
      → entry ≡ entries.Turn (record { 0 = t }) n → IsEntry fields entry
  Rounds : (threads count : List ℕ) (k n : ℕ) → fields ≡ codes "round" ∷ threads ∷ count ∷ []
      → IsNumber 65 threads k → 1 ≤ k → IsNumber (2 ^ 64) count n
      → entry ≡ entries.Round k n → IsEntry fields entry
  Mixes : (threads seed count : List ℕ) (k x n : ℕ) → fields ≡ codes "mix" ∷ threads ∷ seed ∷ count ∷ []
      → IsNumber 65 threads k → 1 ≤ k → IsNumber (2 ^ 64) seed x → IsNumber (2 ^ 64) count n
      → entry ≡ entries.Mix k x n → IsEntry fields entry
  Aborts : (thread : List ℕ) (t : ℕ) → fields ≡ codes "abort" ∷ thread ∷ []
      → IsNumber 64 thread t
      → entry ≡ entries.Abort (record { 0 = t }) → IsEntry fields entry
  Upsets : (thread depth register mask : List ℕ) (t d m : ℕ) (side : Side) (name : List ℕ) → fields ≡ codes "upset" ∷ thread ∷ depth ∷ register ∷ mask ∷ []
      → IsNumber 64 thread t → IsNumber (2 ^ 32) depth d → IsRegister register side name → IsNumber (2 ^ 128) mask m → 1 ≤ m
      → entry ≡ entries.Upset (record { tid = record { 0 = t }; depth = d; side = side; name = name; mask = m }) → IsEntry fields entry
