-- What is read of the fields of a line is what they stand for, and what they stand for is read.
use Rattle.std.proofs.Common.{◌≡◌, ℕ, ◌^◌, ◌<◌, ◌≤◌, Bool, true, false, cond, ◌&&◌, nat_lt, eqb, List, [], ◌∷◌, Option, Some, None, refl, sym, ap, subst, ◌∙◌, arith, lit≤, codes, ◌⊎◌, inl, inr}
use Rattle.std.specs.Str.{bytes_eq}
use Rattle.std.proofs.lemmas.Bool.{eqb-true, ltb-true, lt-ltb}
use Rattle.std.proofs.lemmas.Slice.Eq.{bytes_eq-Decides}
use Rattle.ir_core.specs.declared.types.Tid.{Tid}
use Rattle.ir_core.specs.declared.values.Side.{Side}
use Rattle.ir_core.specs.declared.values.Side.TheVariants.{M, S}
use Rattle.ir_core.specs.Tokens.{is_name}
use Rattle.sched_file.specs.declared.entries.Line.{Line}
use Rattle.sched_file.specs.declared.entries.Line.TheVariants as entries
use Rattle.sched_file.specs.Entries.{IsNumber, IsRegister, Master, Shadow, IsEntry, Turns, Rounds, Mixes, Aborts, Upsets}
use Rattle.sched_file.specs.Reading.{◌>>=◌, number_in, number_below, only_some, side_in, register_in, number_at, thread_at, threads_at, register_at, mask_at, at_end, turn_entry, round_entry, mix_entry, abort_entry, upset_entry, entry_of}
use Rattle.sched_file.proofs.Digits.{bind_some, when_some, some, some_is, both_true, number_in_found, number_in_again, number_below_found, number_below_again}

-- ---- the first of the fields

-- the fields are one that means the value, and the others
record Takes {A : Type 0} (means : List ℕ → A → Type 0) (fields : List (List ℕ)) (value : A) (others : List (List ℕ)) : Type 0 where
  field : List ℕ
  parts : fields ≡ field ∷ others
  is : means field value

number_found : (limit : ℕ) (fields : List (List ℕ)) (x : ℕ × List (List ℕ)) → number_at limit fields ≡ Some x → Takes (IsNumber limit) fields x.0 x.1
unfolding number_at
number_found limit [] x e = absurd cc
number_found limit (field ∷ fields) x e =
    let s = bind_some (number_below limit field) (λ n. Some (n, fields)) x e in
    let k : (s.0, fields) ≡ x = some_is (s.0, fields) x s.2 in
    subst (λ (y : ℕ × List (List ℕ)). Takes (IsNumber limit) (field ∷ fields) y.0 y.1) k (record { field = field; parts = refl; is = number_below_found limit field s.0 s.1 })

number_again : (limit : ℕ) (field : List ℕ) (fields : List (List ℕ)) (n : ℕ) → limit ≤ 2 ^ 128 → IsNumber limit field n → number_at limit (field ∷ fields) ≡ Some (n, fields)
unfolding number_at
number_again limit field fields n le h = ap (λ o. o >>= λ n. some (n, fields)) (number_below_again limit field n le h)

abbrev IsThread : List ℕ → Tid → Type 0
IsThread field thread = IsNumber 64 field thread.0

thread_found : (fields : List (List ℕ)) (x : Tid × List (List ℕ)) → thread_at fields ≡ Some x → Takes IsThread fields x.0 x.1
unfolding thread_at
thread_found fields x e =
    let make : ℕ × List (List ℕ) → Tid × List (List ℕ) = λ y. (record { 0 = y.0 }, y.1) in
    let s = bind_some (number_at 64 fields) (λ y. Some (make y)) x e in
    let h = number_found 64 fields s.0 s.1 in
    subst (λ (y : Tid × List (List ℕ)). Takes IsThread fields y.0 y.1) (some_is (make s.0) x s.2) (record { field = h.field; parts = h.parts; is = h.is })

thread_again : (field : List ℕ) (fields : List (List ℕ)) (n : ℕ) → IsNumber 64 field n → thread_at (field ∷ fields) ≡ Some (record { 0 = n }, fields)
unfolding thread_at
thread_again field fields n h =
    let make : ℕ × List (List ℕ) → Tid × List (List ℕ) = λ y. (record { 0 = y.0 }, y.1) in
    ap (λ o. o >>= λ y. some (make y)) (number_again 64 field fields n (lit≤ tt) h)

-- a number from 1 on
record IsSome_number (limit : ℕ) (field : List ℕ) (n : ℕ) : Type 0 where
  number : IsNumber limit field n
  least : 1 ≤ n

only_some_found : (n v : ℕ) → only_some n ≡ Some v → (n ≡ v) × (1 ≤ v)
only_some_found n v e =
    let t = when_some (nat_lt 0 n) (Some n) v e in
    let k = some_is n v t.1 in
    (k, let lt : 0 < n = ltb-true 0 n t.0 in omega arith)

only_some_again : (n : ℕ) → 1 ≤ n → only_some n ≡ Some n
only_some_again n le = ap (λ t. cond t (some n) None) (lt-ltb 0 n (omega arith))

threads_found : (fields : List (List ℕ)) (x : ℕ × List (List ℕ)) → threads_at fields ≡ Some x → Takes (IsSome_number 65) fields x.0 x.1
unfolding threads_at
threads_found fields x e =
    let s = bind_some (number_at 65 fields) (λ y. only_some y.0 >>= λ n. Some (n, y.1)) x e in
    let t = bind_some (only_some s.0.0) (λ n. Some (n, s.0.1)) x s.2 in
    let h = number_found 65 fields s.0 s.1 in
    let o = only_some_found s.0.0 t.0 t.1 in
    let is : IsNumber 65 h.field t.0 = subst (IsNumber 65 h.field) o.0 h.is in
    subst (λ (y : ℕ × List (List ℕ)). Takes (IsSome_number 65) fields y.0 y.1) (some_is (t.0, s.0.1) x t.2) (record { field = h.field; parts = h.parts; is = record { number = is; least = o.1 } })

threads_again : (field : List ℕ) (fields : List (List ℕ)) (n : ℕ) → IsNumber 65 field n → 1 ≤ n → threads_at (field ∷ fields) ≡ Some (n, fields)
unfolding threads_at
threads_again field fields n h le =
    ap (λ o. o >>= λ y. only_some y.0 >>= λ m. some (m, y.1)) (number_again 65 field fields n (lit≤ tt) h)
    ∙ ap (λ o. o >>= λ m. some (m, fields)) (only_some_again n le)

mask_found : (fields : List (List ℕ)) (x : ℕ × List (List ℕ)) → mask_at fields ≡ Some x → Takes (IsSome_number (2 ^ 128)) fields x.0 x.1
unfolding mask_at
mask_found [] x e = absurd cc
mask_found (field ∷ fields) x e =
    let s = bind_some (number_in field >>= only_some) (λ n. Some (n, fields)) x e in
    let t = bind_some (number_in field) only_some s.0 s.1 in
    let o = only_some_found t.0 s.0 t.2 in
    let is : IsNumber (2 ^ 128) field s.0 = subst (IsNumber (2 ^ 128) field) o.0 (number_in_found field t.0 t.1) in
    subst (λ (y : ℕ × List (List ℕ)). Takes (IsSome_number (2 ^ 128)) (field ∷ fields) y.0 y.1) (some_is (s.0, fields) x s.2) (record { field = field; parts = refl; is = record { number = is; least = o.1 } })

mask_again : (field : List ℕ) (fields : List (List ℕ)) (n : ℕ) → IsNumber (2 ^ 128) field n → 1 ≤ n → mask_at (field ∷ fields) ≡ Some (n, fields)
unfolding mask_at
mask_again field fields n h le =
    ap (λ o. o >>= only_some >>= λ m. some (m, fields)) (number_in_again field n h)
    ∙ ap (λ o. o >>= λ m. some (m, fields)) (only_some_again n le)

-- ---- registers

-- the test of the first byte, with the byte
side_found : (b : ℕ) (side : Side) → side_in b ≡ Some side → ((b ≡ 109) × (side ≡ M)) ⊎ ((b ≡ 115) × (side ≡ S))
unfolding side_in
side_found b side e = by (eqb b 109) refl (eqb b 115) refl e
  where
    by : (m : Bool) → eqb b 109 ≡ m → (s : Bool) → eqb b 115 ≡ s → cond m (some M) (cond s (some S) None) ≡ Some side → ((b ≡ 109) × (side ≡ M)) ⊎ ((b ≡ 115) × (side ≡ S))
    by true k s l e = inl (eqb-true b 109 k, sym (some_is M side e))
    by false k true l e = inr (eqb-true b 115 l, sym (some_is S side e))
    by false k false l e = absurd cc

register_found : (field : List ℕ) (x : Side × List ℕ) → register_in field ≡ Some x → IsRegister field x.0 x.1
unfolding register_in
register_found [] x e = absurd cc
register_found (b ∷ []) x e = absurd cc
register_found (b ∷ dot ∷ name) x e =
    let t = when_some (eqb dot 46 && is_name name) (side_in b >>= λ side. Some (side, name)) x e in
    let q = both_true (eqb dot 46) (is_name name) t.0 in
    let s = bind_some (side_in b) (λ side. Some (side, name)) x t.1 in
    subst (λ (y : Side × List ℕ). IsRegister (b ∷ dot ∷ name) y.0 y.1) (some_is (s.0, name) x s.2) (by (eqb-true dot 46 q.0) q.1 s.0 (side_found b s.0 s.1))
  where
    by : dot ≡ 46 → is_name name ≡ true → (side : Side) → ((b ≡ 109) × (side ≡ M)) ⊎ ((b ≡ 115) × (side ≡ S)) → IsRegister (b ∷ dot ∷ name) side name
    by d n side (inl p) = let first = p.0 in Master (cc) n p.1
    by d n side (inr p) = let first = p.0 in Shadow (cc) n p.1

register_again : (field : List ℕ) (side : Side) (name : List ℕ) → IsRegister field side name → register_in field ≡ Some (side, name)
unfolding register_in side_in
register_again field side name (Master e n s) = ap register_in e ∙ ap (λ t. cond t (some (M, name)) None) n ∙ ap (λ (side : Side). some (side, name)) (sym s)
register_again field side name (Shadow e n s) = ap register_in e ∙ ap (λ t. cond t (some (S, name)) None) n ∙ ap (λ (side : Side). some (side, name)) (sym s)

-- the fields are one that writes a register, and the others
record TakesRegister (fields : List (List ℕ)) (side : Side) (name : List ℕ) (others : List (List ℕ)) : Type 0 where
  field : List ℕ
  parts : fields ≡ field ∷ others
  is : IsRegister field side name

next_register_found : (fields : List (List ℕ)) (x : Side × List ℕ × List (List ℕ)) → register_at fields ≡ Some x → TakesRegister fields x.0 x.1 x.2
unfolding register_at
next_register_found [] x e = absurd cc
next_register_found (field ∷ fields) x e =
    let s = bind_some (register_in field) (λ y. Some (y.0, y.1, fields)) x e in
    subst (λ (y : Side × List ℕ × List (List ℕ)). TakesRegister (field ∷ fields) y.0 y.1 y.2) (some_is (s.0.0, s.0.1, fields) x s.2) (record { field = field; parts = refl; is = register_found field s.0 s.1 })

next_register_again : (field : List ℕ) (fields : List (List ℕ)) (side : Side) (name : List ℕ) → IsRegister field side name → register_at (field ∷ fields) ≡ Some (side, name, fields)
unfolding register_at
next_register_again field fields side name h = ap (λ o. o >>= λ y. some (y.0, y.1, fields)) (register_again field side name h)

-- ---- the fields behind the first one

end_found : (x line : Line) (fields : List (List ℕ)) → at_end x fields ≡ Some line → (fields ≡ []) × (x ≡ line)
end_found x line [] e = (refl, some_is x line e)
end_found x line (field ∷ fields) e = absurd cc

turn_found : (word : List ℕ) (fields : List (List ℕ)) (line : Line) → word ≡ codes "turn" → turn_entry fields ≡ Some line → IsEntry (word ∷ fields) line
unfolding turn_entry
turn_found word fields line w e =
    let a = bind_some (thread_at fields) (λ thread. number_at (2 ^ 64) thread.1 >>= λ turns. at_end (entries.Turn thread.0 turns.0) turns.1) line e in
    let b = bind_some (number_at (2 ^ 64) a.0.1) (λ turns. at_end (entries.Turn a.0.0 turns.0) turns.1) line a.2 in
    let c = end_found (entries.Turn a.0.0 b.0.0) line b.0.1 b.2 in
    let t = thread_found fields a.0 a.1 in
    let n = number_found (2 ^ 64) a.0.1 b.0 b.1 in
    Turns t.field n.field a.0.0.0 b.0.0
    (ap (λ (x : List ℕ). x ∷ fields) w ∙ ap (λ (fs : List (List ℕ)). codes "turn" ∷ fs) (t.parts ∙ ap (λ (fs : List (List ℕ)). t.field ∷ fs) (n.parts ∙ ap (λ (fs : List (List ℕ)). n.field ∷ fs) c.0)))
    t.is n.is (sym c.1)

round_found : (word : List ℕ) (fields : List (List ℕ)) (line : Line) → word ≡ codes "round" → round_entry fields ≡ Some line → IsEntry (word ∷ fields) line
unfolding round_entry
round_found word fields line w e =
    let a = bind_some (threads_at fields) (λ threads. number_at (2 ^ 64) threads.1 >>= λ rounds. at_end (entries.Round threads.0 rounds.0) rounds.1) line e in
    let b = bind_some (number_at (2 ^ 64) a.0.1) (λ rounds. at_end (entries.Round a.0.0 rounds.0) rounds.1) line a.2 in
    let c = end_found (entries.Round a.0.0 b.0.0) line b.0.1 b.2 in
    let t = threads_found fields a.0 a.1 in
    let n = number_found (2 ^ 64) a.0.1 b.0 b.1 in
    Rounds t.field n.field a.0.0 b.0.0
    (ap (λ (x : List ℕ). x ∷ fields) w ∙ ap (λ (fs : List (List ℕ)). codes "round" ∷ fs) (t.parts ∙ ap (λ (fs : List (List ℕ)). t.field ∷ fs) (n.parts ∙ ap (λ (fs : List (List ℕ)). n.field ∷ fs) c.0)))
    t.is.number t.is.least n.is (sym c.1)

mix_found : (word : List ℕ) (fields : List (List ℕ)) (line : Line) → word ≡ codes "mix" → mix_entry fields ≡ Some line → IsEntry (word ∷ fields) line
unfolding mix_entry
mix_found word fields line w e =
    let a = bind_some (threads_at fields) (λ threads. number_at (2 ^ 64) threads.1 >>= λ seed. number_at (2 ^ 64) seed.1 >>= λ turns. at_end (entries.Mix threads.0 seed.0 turns.0) turns.1) line e in
    let b = bind_some (number_at (2 ^ 64) a.0.1) (λ seed. number_at (2 ^ 64) seed.1 >>= λ turns. at_end (entries.Mix a.0.0 seed.0 turns.0) turns.1) line a.2 in
    let c = bind_some (number_at (2 ^ 64) b.0.1) (λ turns. at_end (entries.Mix a.0.0 b.0.0 turns.0) turns.1) line b.2 in
    let d = end_found (entries.Mix a.0.0 b.0.0 c.0.0) line c.0.1 c.2 in
    let t = threads_found fields a.0 a.1 in
    let s = number_found (2 ^ 64) a.0.1 b.0 b.1 in
    let n = number_found (2 ^ 64) b.0.1 c.0 c.1 in
    Mixes t.field s.field n.field a.0.0 b.0.0 c.0.0
    (ap (λ (x : List ℕ). x ∷ fields) w
    ∙ ap (λ (fs : List (List ℕ)). codes "mix" ∷ fs) (t.parts ∙ ap (λ (fs : List (List ℕ)). t.field ∷ fs) (s.parts ∙ ap (λ (fs : List (List ℕ)). s.field ∷ fs) (n.parts ∙ ap (λ (fs : List (List ℕ)). n.field ∷ fs) d.0))))
    t.is.number t.is.least s.is n.is (sym d.1)

abort_found : (word : List ℕ) (fields : List (List ℕ)) (line : Line) → word ≡ codes "abort" → abort_entry fields ≡ Some line → IsEntry (word ∷ fields) line
unfolding abort_entry
abort_found word fields line w e =
    let a = bind_some (thread_at fields) (λ thread. at_end (entries.Abort thread.0) thread.1) line e in
    let c = end_found (entries.Abort a.0.0) line a.0.1 a.2 in
    let t = thread_found fields a.0 a.1 in
    Aborts t.field a.0.0.0
    (ap (λ (x : List ℕ). x ∷ fields) w ∙ ap (λ (fs : List (List ℕ)). codes "abort" ∷ fs) (t.parts ∙ ap (λ (fs : List (List ℕ)). t.field ∷ fs) c.0))
    t.is (sym c.1)

upset_found : (word : List ℕ) (fields : List (List ℕ)) (line : Line) → word ≡ codes "upset" → upset_entry fields ≡ Some line → IsEntry (word ∷ fields) line
unfolding upset_entry
upset_found word fields line w e =
    let made : Tid → ℕ → Side → List ℕ → ℕ → Line = λ t d s n m. entries.Upset (record { tid = t; depth = d; side = s; name = n; mask = m }) in
    let a = bind_some (thread_at fields) (λ thread. number_at (2 ^ 32) thread.1 >>= λ depth. register_at depth.1 >>= λ register. mask_at register.2 >>= λ mask. at_end (made thread.0 depth.0 register.0 register.1 mask.0) mask.1) line e in
    let b = bind_some (number_at (2 ^ 32) a.0.1) (λ depth. register_at depth.1 >>= λ register. mask_at register.2 >>= λ mask. at_end (made a.0.0 depth.0 register.0 register.1 mask.0) mask.1) line a.2 in
    let c = bind_some (register_at b.0.1) (λ register. mask_at register.2 >>= λ mask. at_end (made a.0.0 b.0.0 register.0 register.1 mask.0) mask.1) line b.2 in
    let d = bind_some (mask_at c.0.2) (λ mask. at_end (made a.0.0 b.0.0 c.0.0 c.0.1 mask.0) mask.1) line c.2 in
    let f = end_found (made a.0.0 b.0.0 c.0.0 c.0.1 d.0.0) line d.0.1 d.2 in
    let t = thread_found fields a.0 a.1 in
    let n = number_found (2 ^ 32) a.0.1 b.0 b.1 in
    let r = next_register_found b.0.1 c.0 c.1 in
    let m = mask_found c.0.2 d.0 d.1 in
    Upsets t.field n.field r.field m.field a.0.0.0 b.0.0 d.0.0 c.0.0 c.0.1
    (ap (λ (x : List ℕ). x ∷ fields) w
    ∙ ap (λ (fs : List (List ℕ)). codes "upset" ∷ fs) (t.parts ∙ ap (λ (fs : List (List ℕ)). t.field ∷ fs) (n.parts ∙ ap (λ (fs : List (List ℕ)). n.field ∷ fs) (r.parts ∙ ap (λ (fs : List (List ℕ)). r.field ∷ fs) (m.parts ∙ ap (λ (fs : List (List ℕ)). m.field ∷ fs) f.0)))))
    t.is n.is r.is m.is.number m.is.least (sym f.1)

-- a choice by a word
chosen : (word name : List ℕ) (a b : Option Line) (line : Line) (P : Type 0) → cond (bytes_eq word name) a b ≡ Some line → (word ≡ name → a ≡ Some line → P) → (b ≡ Some line → P) → P
chosen word name a b line P e is isnt = by (bytes_eq word name) (bytes_eq-Decides word name).0 e
  where
    by : (t : Bool) → (t ≡ true → word ≡ name) → cond t a b ≡ Some line → P
    by true h e = is (h refl) e
    by false h e = isnt e

-- what is read is what the fields stand for
pub entry_found : (word : List ℕ) (fields : List (List ℕ)) (line : Line) → entry_of word fields ≡ Some line → IsEntry (word ∷ fields) line
unfolding entry_of
entry_found word fields line e =
    let P : Type 0 = IsEntry (word ∷ fields) line in
    chosen word (codes "turn") _ _ line P e (turn_found word fields line) (λ e.
    chosen word (codes "round") _ _ line P e (round_found word fields line) (λ e.
    chosen word (codes "mix") _ _ line P e (mix_found word fields line) (λ e.
    chosen word (codes "abort") _ _ line P e (abort_found word fields line) (λ e.
    chosen word (codes "upset") _ None line P e (upset_found word fields line) (λ e. absurd cc)))))

-- the entry of a line with these fields
abbrev pub entry_in : List (List ℕ) → Option Line
entry_in [] = None
entry_in (word ∷ fields) = entry_of word fields

-- what the fields stand for is read
pub entry_again : (fields : List (List ℕ)) (line : Line) → IsEntry fields line → entry_in fields ≡ Some line
unfolding entry_of turn_entry round_entry mix_entry abort_entry upset_entry
entry_again fields line (Turns thread count t n e ht hn l) =
    ap entry_in e
    ∙ ap (λ o. o >>= λ thread. number_at (2 ^ 64) thread.1 >>= λ turns. at_end (entries.Turn thread.0 turns.0) turns.1) (thread_again thread (count ∷ []) t ht)
    ∙ ap (λ o. o >>= λ turns. at_end (entries.Turn (record { 0 = t }) turns.0) turns.1) (number_again (2 ^ 64) count [] n (lit≤ tt) hn)
    ∙ ap (λ (x : Line). some x) (sym l)
entry_again fields line (Rounds threads count k n e hk le hn l) =
    ap entry_in e
    ∙ ap (λ o. o >>= λ threads. number_at (2 ^ 64) threads.1 >>= λ rounds. at_end (entries.Round threads.0 rounds.0) rounds.1) (threads_again threads (count ∷ []) k hk le)
    ∙ ap (λ o. o >>= λ rounds. at_end (entries.Round k rounds.0) rounds.1) (number_again (2 ^ 64) count [] n (lit≤ tt) hn)
    ∙ ap (λ (x : Line). some x) (sym l)
entry_again fields line (Mixes threads seed count k x n e hk le hx hn l) =
    ap entry_in e
    ∙ ap (λ o. o >>= λ threads. number_at (2 ^ 64) threads.1 >>= λ seed. number_at (2 ^ 64) seed.1 >>= λ turns. at_end (entries.Mix threads.0 seed.0 turns.0) turns.1) (threads_again threads (seed ∷ count ∷ []) k hk le)
    ∙ ap (λ o. o >>= λ seed. number_at (2 ^ 64) seed.1 >>= λ turns. at_end (entries.Mix k seed.0 turns.0) turns.1) (number_again (2 ^ 64) seed (count ∷ []) x (lit≤ tt) hx)
    ∙ ap (λ o. o >>= λ turns. at_end (entries.Mix k x turns.0) turns.1) (number_again (2 ^ 64) count [] n (lit≤ tt) hn)
    ∙ ap (λ (y : Line). some y) (sym l)
entry_again fields line (Aborts thread t e ht l) =
    ap entry_in e
    ∙ ap (λ o. o >>= λ thread. at_end (entries.Abort thread.0) thread.1) (thread_again thread [] t ht)
    ∙ ap (λ (x : Line). some x) (sym l)
entry_again fields line (Upsets thread depth register mask t d m side name e ht hd hr hm le l) =
    let made : Tid → ℕ → Side → List ℕ → ℕ → Line = λ t d s n m. entries.Upset (record { tid = t; depth = d; side = s; name = n; mask = m }) in
    let tid : Tid = record { 0 = t } in
    ap entry_in e
    ∙ ap (λ o. o >>= λ thread. number_at (2 ^ 32) thread.1 >>= λ depth. register_at depth.1 >>= λ register. mask_at register.2 >>= λ mask. at_end (made thread.0 depth.0 register.0 register.1 mask.0) mask.1) (thread_again thread (depth ∷ register ∷ mask ∷ []) t ht)
    ∙ ap (λ o. o >>= λ depth. register_at depth.1 >>= λ register. mask_at register.2 >>= λ mask. at_end (made tid depth.0 register.0 register.1 mask.0) mask.1) (number_again (2 ^ 32) depth (register ∷ mask ∷ []) d (lit≤ tt) hd)
    ∙ ap (λ o. o >>= λ register. mask_at register.2 >>= λ mask. at_end (made tid d register.0 register.1 mask.0) mask.1) (next_register_again register (mask ∷ []) side name hr)
    ∙ ap (λ o. o >>= λ mask. at_end (made tid d side name mask.0) mask.1) (mask_again mask [] m hm le)
    ∙ ap (λ (x : Line). some x) (sym l)

-- a line stands for one entry
pub same_entry : (fields : List (List ℕ)) (line other : Line) → IsEntry fields line → IsEntry fields other → line ≡ other
same_entry fields line other h k = some_is line other (sym (entry_again fields line h) ∙ entry_again fields other k)
