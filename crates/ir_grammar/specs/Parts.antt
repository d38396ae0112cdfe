-- Parts of a line, and how bigger ones are made of smaller ones.
--
-- A part says two things. `means ts v`: the tokens ts, all of them, stand for v. `reads ts`: what a reader
-- from the left makes of tokens of which a part is to be the front. A reviewer reads `means`; `reads` says
-- the same (proofs/Reading.antt, one law for each way to make a part), and readers are proved against it.
use Rattle.std.specs.Prelude.{ℕ, zero, suc, ◌≡◌, ◌⊎◌, Bool, true, false, List, [], ◌∷◌, ◌++◌, length, drop, Option, Some, None, option_and_then, is_some, Result, Ok, Err}
use Rattle.ir_core.specs.declared.text.TokKind.{TokKind}

-- a token: its kind, its text, and the place where it begins
pub record Tok : Type 0 where
  pub kind : TokKind
  pub text : List ℕ
  pub at : ℕ

-- What a reader makes of tokens: a value and the tokens behind the part, or how many tokens are left from
-- the first one on that can't stand there (0 where the tokens end too early).
abbrev pub Read : Type 0 → Type 0
Read A = Result (A × List Tok) ℕ

pub record Part (A : Type 0) : Type 1 where
  pub means : List Tok → A → Type 0
  pub reads : List Tok → Read A

-- ---- no token

-- a part that takes no token
abbrev pub gives : {A : Type 0} → A → Part A
gives a = record { means = λ ts v. (ts ≡ []) × (v ≡ a); reads = λ ts. Ok (a, ts) }

-- the end of the line
abbrev pub read_end : {A : Type 0} → A → List Tok → Read A
read_end a [] = Ok (a, [])
read_end a (t ∷ ts) = Err (suc (length ts))

abbrev pub ends : {A : Type 0} → A → Part A
ends a = record { means = λ ts v. (ts ≡ []) × (v ≡ a); reads = read_end a }

-- ---- one token

abbrev pub first : List Tok → Option Tok
first [] = None
first (t ∷ ts) = Some t

-- the first token was taken as a, or it can't stand there
abbrev pub taken : {A : Type 0} → Option A → List Tok → Read A
taken None ts = Err (length ts)
taken (Some a) ts = Ok (a, drop 1 ts)

pub record IsOne {A : Type 0} (pick : Tok → Option A) (ts : List Tok) (v : A) : Type 0 where
  pub token : Tok
  pub whole : ts ≡ token ∷ []
  pub is : pick token ≡ Some v

-- one token that the test knows
abbrev pub one : {A : Type 0} → (Tok → Option A) → Part A
one pick = record { means = IsOne pick; reads = λ ts. taken (option_and_then pick (first ts)) ts }

-- ---- one part, and then another

-- a front of the tokens stands for a value, and the rest for what follows such a value
pub record Splits {A B : Type 0} (p : List Tok → A → Type 0) (k : A → List Tok → B → Type 0) (ts : List Tok) (v : B) : Type 0 where
  pub front : List Tok
  pub back : List Tok
  pub value : A
  pub whole : ts ≡ front ++ back
  pub first : p front value
  pub second : k value back v

abbrev pub read_then : {A B : Type 0} → Read A → (A → Part B) → Read B
read_then (Ok x) k = (k x.0).reads x.1
read_then (Err n) k = Err n

infixl 10 ◌>>=◌
abbrev pub ◌>>=◌ : {A B : Type 0} → Part A → (A → Part B) → Part B
p >>= k = record { means = Splits p.means (λ a. (k a).means); reads = λ ts. read_then (p.reads ts) k }

-- ---- one of two parts

abbrev pub read_either : {A : Type 0} → Bool → Part A → Part A → List Tok → Read A
read_either true p q ts = p.reads ts
read_either false p q ts = q.reads ts

-- one part or the other: the first where the tokens pass the test
abbrev pub either : {A : Type 0} → (List Tok → Bool) → Part A → Part A → Part A
either test p q = record { means = λ ts v. p.means ts v ⊎ q.means ts v; reads = λ ts. read_either (test ts) p q ts }

-- ---- a part any number of times

-- a front of the tokens stands for the value, and the rest for more
pub record HasFirst {A : Type 0} (p : List Tok → A → Type 0) (a : A) (more : List Tok → Type 0) (ts : List Tok) : Type 0 where
  pub front : List Tok
  pub back : List Tok
  pub whole : ts ≡ front ++ back
  pub first : p front a
  pub rest : more back

-- the tokens are parts, one behind the other, and these are their values
abbrev pub IsRow : {A : Type 0} → (List Tok → A → Type 0) → List A → List Tok → Type 0
IsRow p [] ts = ts ≡ []
IsRow p (a ∷ values) ts = HasFirst p a (IsRow p values) ts

-- a value before the values that are read of what follows
abbrev pub with_first : {A : Type 0} → A → Read (List A) → Read (List A)
with_first a (Ok x) = Ok (a ∷ x.0, x.1)
with_first a (Err n) = Err n

abbrev pub then_row : {A : Type 0} → (List Tok → Read (List A)) → Read A → Read (List A)
then_row others (Ok x) = with_first x.0 (others x.1)
then_row others (Err n) = Err n

-- as often as the tokens pass the test, but no more than n times
unfoldable pub read_row : {A : Type 0} → (List Tok → Bool) → Part A → ℕ → List Tok → Read (List A)
read_row test p zero ts = Ok ([], ts)
read_row test p (suc n) ts = elim (test ts) [ true ↦ then_row (read_row test p n) (p.reads ts) | false ↦ Ok ([], ts) ]

-- a part any number of times, as long as the tokens pass the test
abbrev pub star : {A : Type 0} → (List Tok → Bool) → Part A → Part (List A)
star test p = record { means = λ ts values. IsRow p.means values ts; reads = λ ts. read_row test p (length ts) ts }

-- ---- parts that say whether another one follows

-- the tokens are parts, one behind the other, of which each but the last says that another one follows
abbrev pub IsChain : {A : Type 0} → (List Tok → A × Bool → Type 0) → List A → List Tok → Type 0
IsChain p [] ts = ⊥
IsChain p (a ∷ []) ts = p ts (a, false)
IsChain p (a ∷ b ∷ values) ts = HasFirst p (a, true) (IsChain p (b ∷ values)) ts

abbrev pub then_chain : {A : Type 0} → (List Tok → Read (List A)) → Read (A × Bool) → Read (List A)
then_chain others (Err n) = Err n
then_chain others (Ok x) = elim x.0.1 [ true ↦ with_first x.0.0 (others x.1) | false ↦ Ok (x.0.0 ∷ [], x.1) ]

unfoldable pub read_chain : {A : Type 0} → Part (A × Bool) → ℕ → List Tok → Read (List A)
read_chain p zero ts = Err (length ts)
read_chain p (suc n) ts = then_chain (read_chain p n) (p.reads ts)

-- a part once or more, as long as it says that another one follows
abbrev pub chain : {A : Type 0} → Part (A × Bool) → Part (List A)
chain p = record { means = λ ts values. IsChain p.means values ts; reads = λ ts. read_chain p (suc (length ts)) ts }

-- ---- a value seen otherwise, and what may be missing

pub record Sees {A B : Type 0} (p : List Tok → A → Type 0) (f : A → B) (ts : List Tok) (v : B) : Type 0 where
  pub value : A
  pub is : p ts value
  pub seen : v ≡ f value

abbrev pub read_seen : {A B : Type 0} → (A → B) → Read A → Read B
read_seen f (Ok x) = Ok (f x.0, x.1)
read_seen f (Err n) = Err n

-- the same tokens, for what the function makes of their value
abbrev pub seen : {A B : Type 0} → (A → B) → Part A → Part B
seen f p = record { means = Sees p.means f; reads = λ ts. read_seen f (p.reads ts) }

-- values, and behind them those of a part any number of times
abbrev pub more : {A : Type 0} → List A → (List Tok → Bool) → Part A → Part (List A)
more values test p = seen (λ others. values ++ others) (star test p)

-- values, and behind them those of a chain
abbrev pub chained : {A : Type 0} → List A → Part (A × Bool) → Part (List A)
chained values p = seen (λ others. values ++ others) (chain p)

-- a part any number of times that says nothing
abbrev pub skipped : {A : Type 0} → (List Tok → Bool) → Part A → Part Bool
skipped test p = seen (λ _. true) (star test p)

-- the test on the first token; there is none at the end
abbrev pub heads : (Tok → Bool) → List Tok → Bool
heads f [] = false
heads f (t ∷ ts) = f t

-- one token, and it passes the test
pub record IsPassing (f : Tok → Bool) (ts : List Tok) : Type 0 where
  pub token : Tok
  pub whole : ts ≡ token ∷ []
  pub passes : f token ≡ true

-- any number of tokens that the test knows
abbrev pub all_of : {A : Type 0} → (Tok → Option A) → Part (List A)
all_of pick = star (heads (λ t. is_some (pick t))) (one pick)

-- a token that passes the test, or no token
abbrev pub IsOptional : (Tok → Bool) → List Tok → Bool → Type 0
IsOptional f ts true = IsPassing f ts
IsOptional f ts false = ts ≡ []

abbrev pub read_optional : Bool → List Tok → Read Bool
read_optional true ts = Ok (true, drop 1 ts)
read_optional false ts = Ok (false, ts)

-- whether there is a token that passes the test
abbrev pub optional : (Tok → Bool) → Part Bool
optional f = record { means = IsOptional f; reads = λ ts. read_optional (heads f ts) ts }

-- ---- what a front begins

-- some tokens behind the front complete it
pub record Begins {A : Type 0} (means : List Tok → A → Type 0) (front : List Tok) : Type 0 where
  pub more : List Tok
  pub value : A
  pub is : means (front ++ more) value
