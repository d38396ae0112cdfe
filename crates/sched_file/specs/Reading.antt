-- How the entry of a line is found, from its first field on. `Entries` and `Schedule` say what is meant; what stands
-- here says only how it is found, and no public clause cites it.
use Rattle.std.specs.Prelude.{ℕ, ◌+◌, ◌-◌, ◌*◌, ◌^◌, true, not, ◌&&◌, ◌==◌, nat_lt, nat_le, if◌then◌else◌, List, [], ◌∷◌, ◌++◌, length, codes, Option, Some, None, option_and_then}
use Rattle.std.specs.Str.{bytes_eq}
use Rattle.ir_core.specs.declared.types.Tid.{Tid}
use Rattle.ir_core.specs.declared.values.Side.{Side}
use Rattle.ir_core.specs.declared.values.Side.TheVariants.{M, S}
use Rattle.ir_core.specs.Tokens.{is_digit, is_name}
use Rattle.sched_file.specs.declared.entries.Line.{Line}
use Rattle.sched_file.specs.declared.entries.Line.TheVariants as entries
use Rattle.sched_file.specs.declared.drafts.Draft.{Draft}
use Rattle.sched_file.specs.Fields.{is_comment}

infixl 10 ◌>>=◌
abbrev pub ◌>>=◌ : {A B : Type 0} → Option A → (A → Option B) → Option B
o >>= f = option_and_then f o

-- ---- one field

-- the number with one more digit, where it stays below 2 ^ 128
unfoldable pub with_digit : ℕ → ℕ → Option ℕ
with_digit number b = if is_digit b && nat_lt (10 * number + (b - 48)) (2 ^ 128) then Some (10 * number + (b - 48)) else None

-- the number with more digits
unfoldable pub number_from : ℕ → List ℕ → Option ℕ
number_from number [] = Some number
number_from number (b ∷ bytes) = with_digit number b >>= λ more. number_from more bytes

-- the number that a field writes
unfoldable pub number_in : List ℕ → Option ℕ
number_in [] = None
number_in (b ∷ bytes) = number_from 0 (b ∷ bytes)

-- a value that passes a test
abbrev pub only_below : ℕ → ℕ → Option ℕ
only_below limit n = if nat_lt n limit then Some n else None

abbrev pub only_some : ℕ → Option ℕ
only_some n = if nat_lt 0 n then Some n else None

unfoldable pub number_below : ℕ → List ℕ → Option ℕ
number_below limit field = number_in field >>= only_below limit

-- the side and the name of a register
unfoldable pub side_in : ℕ → Option Side
side_in b = if b == 109 then Some M else if b == 115 then Some S else None

unfoldable pub register_in : List ℕ → Option (Side × List ℕ)
register_in [] = None
register_in (b ∷ []) = None
register_in (b ∷ dot ∷ name) = if dot == 46 && is_name name then (side_in b >>= λ side. Some (side, name)) else None

-- ---- the first of the fields, and the fields behind it

unfoldable pub number_at : ℕ → List (List ℕ) → Option (ℕ × List (List ℕ))
number_at limit [] = None
number_at limit (field ∷ fields) = number_below limit field >>= λ n. Some (n, fields)

unfoldable pub thread_at : List (List ℕ) → Option (Tid × List (List ℕ))
thread_at fields = number_at 64 fields >>= λ x. Some (record { 0 = x.0 }, x.1)

unfoldable pub threads_at : List (List ℕ) → Option (ℕ × List (List ℕ))
threads_at fields = number_at 65 fields >>= λ x. only_some x.0 >>= λ n. Some (n, x.1)

unfoldable pub register_at : List (List ℕ) → Option (Side × List ℕ × List (List ℕ))
register_at [] = None
register_at (field ∷ fields) = register_in field >>= λ x. Some (x.0, x.1, fields)

unfoldable pub mask_at : List (List ℕ) → Option (ℕ × List (List ℕ))
mask_at [] = None
mask_at (field ∷ fields) = number_in field >>= only_some >>= λ n. Some (n, fields)

-- a value behind which no field is left
abbrev pub at_end : {A : Type 0} → A → List (List ℕ) → Option A
at_end x [] = Some x
at_end x (field ∷ fields) = None

-- ---- the fields behind the first one

unfoldable pub turn_entry : List (List ℕ) → Option Line
turn_entry fields = do
  thread ← thread_at fields
  turns ← number_at (2 ^ 64) thread.1
  at_end (entries.Turn thread.0 turns.0) turns.1

unfoldable pub round_entry : List (List ℕ) → Option Line
round_entry fields = do
  threads ← threads_at fields
  rounds ← number_at (2 ^ 64) threads.1
  at_end (entries.Round threads.0 rounds.0) rounds.1

unfoldable pub mix_entry : List (List ℕ) → Option Line
mix_entry fields = do
  threads ← threads_at fields
  seed ← number_at (2 ^ 64) threads.1
  turns ← number_at (2 ^ 64) seed.1
  at_end (entries.Mix threads.0 seed.0 turns.0) turns.1

unfoldable pub abort_entry : List (List ℕ) → Option Line
abort_entry fields = do
  thread ← thread_at fields
  at_end (entries.Abort thread.0) thread.1

unfoldable pub upset_entry : List (List ℕ) → Option Line
upset_entry fields = do
  thread ← thread_at fields
  depth ← number_at (2 ^ 32) thread.1
  register ← register_at depth.1
  mask ← mask_at register.2
  at_end (entries.Upset (record { tid = thread.0; depth = depth.0; side = register.0; name = register.1; mask = mask.0 })) mask.1

-- the entry of a line with these fields
unfoldable pub entry_of : List ℕ → List (List ℕ) → Option Line
entry_of word fields = if bytes_eq word (codes "turn") then turn_entry fields
    else if bytes_eq word (codes "round") then round_entry fields
    else if bytes_eq word (codes "mix") then mix_entry fields
    else if bytes_eq word (codes "abort") then abort_entry fields
    else if bytes_eq word (codes "upset") then upset_entry fields
    else None

-- ---- a line behind others

-- the arguments, with those of the fields
unfoldable pub args_from : List ℕ → List (List ℕ) → Option (List ℕ)
args_from args [] = Some args
args_from args (field ∷ fields) = if nat_lt (length args) 64 then (number_below (2 ^ 64) field >>= λ n. args_from (args ++ n ∷ []) fields) else None

-- how many events an entry has
unfoldable pub event_count : Line → ℕ
event_count (entries.Turn thread turns) = turns
event_count (entries.Round threads rounds) = threads * rounds
event_count (entries.Mix threads seed turns) = turns
event_count (entries.Abort thread) = 1
event_count (entries.Upset upset) = 1

unfoldable pub with_args : Draft → List (List ℕ) → Option Draft
with_args draft fields = args_from [] fields >>= λ args. Some (record draft { args = args; begun = true })

unfoldable pub with_line : Draft → Line → Option Draft
with_line draft line = if nat_le (draft.events + event_count line) 4194304 then Some (record draft { lines = draft.lines ++ line ∷ []; events = draft.events + event_count line; begun = true }) else None

-- what the lines so far say, with a line that has these fields
unfoldable pub taken : Draft → List (List ℕ) → Option Draft
taken draft [] = Some draft
taken draft (word ∷ fields) = if is_comment word then Some draft
    else if not draft.begun && bytes_eq word (codes "args") then with_args draft fields
    else entry_of word fields >>= with_line draft
