-- The turns of one entry that are left, drawn one by one.
use Rattle.std.proofs.Common.{◌≡◌, ℕ, zero, suc, ◌-◌, ◌<◌, ◌≤◌, List, [], ◌∷◌, ◌++◌, length, map, refl, sym, ap, subst, ◌∙◌, arith}
use Rattle.std.proofs.lemmas.List.{nil_from_length}
use Rattle.std.specs.List.{range_with_len, flat_map, AllByRecursion}
use Rattle.ir_core.specs.declared.types.Tid.{Tid}
use Rattle.sched_file.specs.declared.entries.UpsetSpec.{UpsetSpec}
use Rattle.sched_file.specs.declared.entries.Line.{Line}
use Rattle.sched_file.specs.declared.entries.Line.TheVariants as entries
use Rattle.sched_file.specs.declared.drawing.Pending.{Pending}
use Rattle.sched_file.specs.declared.drawing.Pending.TheVariants as pending
use Rattle.sched_file.specs.Events.{Happening, AbortOf, UpsetBy, turn_of, round_turns, events_in, events_of, HasThread}
use Rattle.sched_file.specs.Pending.{turns_left}

-- Where all threads of the last round have had their turn, none is left.
pub no_round : (threads next rounds : ℕ) → threads ≤ next → rounds ≡ 0 → map turn_of (range_with_len next (threads - next)) ++ round_turns threads rounds ≡ []
unfolding round_turns
no_round threads next rounds all last =
    let none : threads - next ≡ zero = omega arith in
    ap (λ (n : ℕ). map turn_of (range_with_len next n) ++ round_turns threads rounds) none ∙ ap (round_turns threads) last

-- Where all threads of a round have had their turn, thread 0 has the first one of the next round.
pub next_round : (threads next rounds : ℕ) → 1 ≤ threads → threads ≤ next → 0 < rounds
    → map turn_of (range_with_len next (threads - next)) ++ round_turns threads rounds ≡ turn_of 0 ∷ (map turn_of (range_with_len 1 (threads - 1)) ++ round_turns threads (rounds - 1))
unfolding round_turns
next_round zero next rounds some all more = absurd (omega arith)
next_round (suc threads) next zero some all more = absurd (omega arith)
next_round (suc threads) next (suc rounds) some all more =
    let none : suc threads - next ≡ zero = omega arith in
    let others : threads ≡ suc threads - 1 = omega arith in
    let left : rounds ≡ suc rounds - 1 = omega arith in
    let turns : ℕ → ℕ → List Happening = λ n r. turn_of 0 ∷ (map turn_of (range_with_len 1 n) ++ round_turns (suc threads) r) in
    ap (λ (n : ℕ). map turn_of (range_with_len next n) ++ round_turns (suc threads) (suc rounds)) none
    ∙ ap (λ (n : ℕ). turns n rounds) others
    ∙ ap (turns (suc threads - 1)) left

-- the first entry of those that are left, where no turn of the one before is left
pub record Opens (before : Pending) (lines : List Line) (all : List Happening) (entry : Line) (rest : List Line) : Type 0 where
  pub none : turns_left before ≡ []
  pub first : lines ≡ entry ∷ rest
  pub same : turns_left before ++ events_of lines ≡ all

pub opened : (before : Pending) (lines rest : List Line) (entry : Line) (all front : List Happening) → Opens before lines all entry rest → events_in entry ≡ front → front ++ events_of rest ≡ all
unfolding events_of
opened before lines rest entry all front h is =
    ap (λ (t : List Happening). t ++ flat_map events_in rest) (sym is) ∙ ap (flat_map events_in) (sym h.first) ∙ ap (λ (t : List Happening). t ++ flat_map events_in lines) (sym h.none) ∙ h.same

-- an entry of one event
pub opened_once : (before : Pending) (lines rest : List Line) (entry : Line) (all : List Happening) (event : Happening) → Opens before lines all entry rest → events_in entry ≡ event ∷ []
    → all ≡ event ∷ (turns_left before ++ events_of rest)
opened_once before lines rest entry all event h is =
    sym (opened before lines rest entry all (event ∷ []) h is) ∙ ap (λ (t : List Happening). event ∷ (t ++ events_of rest)) (sym h.none)

pub ended : (before : Pending) (lines : List Line) (all : List Happening) → turns_left before ≡ [] → length lines ≡ 0 → turns_left before ++ events_of lines ≡ all → all ≡ []
unfolding events_of
ended before lines all none end same =
    sym same ∙ ap (λ (t : List Happening). t ++ flat_map events_in lines) none ∙ ap (flat_map events_in) (nil_from_length lines end)

pub of_turn : (thread : Tid) (turns : ℕ) → events_in (entries.Turn thread turns) ≡ turns_left (pending.Same thread turns)
unfolding events_in turns_left
of_turn thread turns = refl

pub of_round : (threads rounds : ℕ) → events_in (entries.Round threads rounds) ≡ turns_left (pending.Rounds threads threads rounds)
unfolding events_in turns_left
of_round threads rounds =
    let none : 0 ≡ threads - threads = omega arith in
    ap (λ (n : ℕ). map turn_of (range_with_len threads n) ++ round_turns threads rounds) none

pub of_mix : (threads x turns : ℕ) → events_in (entries.Mix threads x turns) ≡ turns_left (pending.Mixed threads x turns)
unfolding events_in turns_left
of_mix threads x turns = refl

pub of_abort : (thread : Tid) → events_in (entries.Abort thread) ≡ AbortOf thread ∷ []
unfolding events_in
of_abort thread = refl

pub of_upset : (upset : UpsetSpec) → events_in (entries.Upset upset) ≡ UpsetBy upset ∷ []
unfolding events_in
of_upset upset = refl

pub first_thread : (lines rest : List Line) (line : Line) → lines ≡ line ∷ rest → AllByRecursion HasThread lines → HasThread line × AllByRecursion HasThread rest
first_thread lines rest line e h = let P : List Line → Type 0 = AllByRecursion HasThread in subst P e h
