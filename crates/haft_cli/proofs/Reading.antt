-- What the reading of the files, one after the other, makes of them.
use Rattle.std.proofs.Common.{ℕ, zero, suc, ◌≡◌, ◌<◌, ◌≤◌, List, [], ◌∷◌, Option, Some, None, Result, Ok, Err, IfOk, IfErr, IsTrue, length, refl, ap, subst, ◌∙◌, arith}
use Rattle.std.specs.Option.{ForSome}
use Rattle.std.specs.declared.alloc.Global.{Global}
use Rattle.std.specs.declared.vec.Vec.{Vec}
use Rattle.haft_io.specs.declared.device.Which.{Which}
use Rattle.haft_io.specs.declared.device.Which.TheVariants.{First, Second}
use Rattle.haft_io.specs.Device.{Rose, emptied, of_file}
use Rattle.haft_cli.specs.declared.refusal.Refusal.{Refusal}
use Rattle.haft_cli.specs.declared.refusal.Stopped.{Stopped}
use Rattle.haft_cli.specs.declared.refusal.Stopped.TheVariants as stopped
use Rattle.haft_cli.specs.Table.{Answer, Report, Refused, Row}
use Rattle.haft_cli.specs.Answers.{Works, Answers, LongFirst, LongSecond, Within, Decides, reads, limit}
use Rattle.haft_cli.specs.Outcome.{Files, Holds, IsKept, KeepsUnread, Outcome}
use Rattle.haft_cli.specs.Work.{Refuses, TakesFile, StopsAt, Stops}
use Rattle.haft_cli.proofs.OneAnswer.{not_both}

-- ---- bytes for a file of which nothing is known

bytes_of_length : (n : ℕ) → (bytes : List ℕ) × (length bytes ≡ n)
bytes_of_length zero = ([], refl)
bytes_of_length (suc n) = let more = bytes_of_length n in (0 ∷ more.0, ap suc more.1)

known_bytes : (left : Option (List ℕ)) → (bytes : List ℕ) × Holds left bytes
known_bytes None = ([], λ rest e. absurd cc)
known_bytes (Some rest) = (rest, λ other e. cc)

long_bytes : (left : Option (List ℕ)) → ForSome left (λ rest. limit < length rest) → (bytes : List ℕ) × Holds left bytes × (limit < length bytes)
long_bytes None long = let many = bytes_of_length 4194305 in (many.0, λ rest e. absurd cc, omega (arith, many.1))
long_bytes (Some rest) long = (rest, λ other e. cc, long rest refl)

-- ---- one file after the other

kept_on : (which : Which) (old mid new : Files) → IsKept which old mid → IsKept which mid new → IsKept which old new
kept_on which old mid new a b = record { left = b.left ∙ a.left; faults = b.faults ∙ a.faults }

-- an outcome, from what is known of each file
module _ (row : Row) (old new : Files) (answer : Answer) (first second : List ℕ) where
  of_both : (IsTrue (reads row First) → Holds (old.left First) first) → (IsTrue (reads row Second) → Holds (old.left Second) second) → Answers row first second answer
      → (IsTrue (reads row First) → length first ≤ limit → new.left First ≡ emptied (old.left First)) → (Decides row first Second → length second ≤ limit → new.left Second ≡ emptied (old.left Second))
      → ((IsTrue (reads row First) → ⊥) → IsKept First old new) → ((Decides row first Second → ⊥) → IsKept Second old new) → Outcome row old new answer
  of_both held_first held_second answers ended_first ended_second kept_first kept_second = record {
    first = first;
    second = second;
    held = held;
    answers = answers;
    ended = ended;
    kept = kept;
  }
    where
      held : (which : Which) → IsTrue (reads row which) → Holds (old.left which) (of_file first second which)
      held First = held_first
      held Second = held_second

      ended : (which : Which) → Decides row first which → length (of_file first second which) ≤ limit → new.left which ≡ emptied (old.left which)
      ended First = ended_first
      ended Second = ended_second

      kept : (which : Which) → (Decides row first which → ⊥) → IsKept which old new
      kept First = kept_first
      kept Second = kept_second

-- the first file stops the reading
module _ (row : Row) (old new : Files) (second_kept : IsKept Second old new) where
  first_long : (refusal : Refusal) → StopsAt row First old new (stopped.Refused refusal) → Outcome row old new (Refused refusal)
  first_long refusal stops =
      let long = long_bytes (old.left First) stops.2 in
      let other = known_bytes (old.left Second) in
      of_both row old new (Refused refusal) long.0 other.0 (λ r. long.1) (λ r. other.1) (LongFirst (stops.0, long.2) (ap Refused stops.1))
      (λ r within. absurd (not_both row.first long.0 (stops.0, long.2) (λ _. within)))
      (λ decides within. absurd (not_both row.first long.0 (stops.0, long.2) decides.1))
      (λ unread. absurd (unread stops.0)) (λ _. second_kept)

  pub first_stops : (why : Stopped) → StopsAt row First old new why → Stops row old new why
  first_stops (stopped.Refused refusal) stops = first_long refusal stops
  first_stops stopped.ReadFault stops = record { which = First; is_read = stops.0; rose = stops.1; decides = λ first known. stops.0 }
  first_stops stopped.NoMemory stops = tt

-- the first file was read
module _ (row : Row) (old mid new : Files) (first : List ℕ) (takes : TakesFile row First old mid first) (second_kept : IsKept Second old mid) (first_unread : (IsTrue (reads row First) → ⊥) → IsKept First old mid) (first_kept : IsKept First mid new) where
  second_long : (refusal : Refusal) → StopsAt row Second mid new (stopped.Refused refusal) → Outcome row old new (Refused refusal)
  second_long refusal stops =
      let long = long_bytes (mid.left Second) stops.2 in
      of_both row old new (Refused refusal) first long.0 takes.held (λ r rest e. long.1 rest (second_kept.left ∙ e))
      (LongSecond (λ _. takes.within) (stops.0, long.2) (ap Refused stops.1))
      (λ r within. first_kept.left ∙ takes.ended r)
      (λ decides within. absurd (not_both row.second long.0 (stops.0, long.2) (λ _. within)))
      (λ unread. kept_on First old mid new (first_unread unread) first_kept)
      (λ aside. absurd (aside (stops.0, λ _. takes.within)))

  pub second_stops : (why : Stopped) → StopsAt row Second mid new why → Stops row old new why
  second_stops (stopped.Refused refusal) stops = second_long refusal stops
  second_stops stopped.ReadFault stops = record {
    which = Second;
    is_read = stops.0;
    rose = subst (λ (count : ℕ). Rose count (new.faults Second)) second_kept.faults stops.1;
    decides = λ bytes known. (stops.0, λ r. subst (λ (text : List ℕ). length text ≤ limit) (takes.held r bytes (known r)) takes.within);
  }
  second_stops stopped.NoMemory stops = tt

  -- and so was the second
  module _ (second : List ℕ) (takes_second : TakesFile row Second mid new second) (second_unread : (IsTrue (reads row Second) → ⊥) → IsKept Second mid new) where
    pub both_read : (answer : Answer) → Works row first second answer → Outcome row old new answer
    both_read answer work =
        of_both row old new answer first second takes.held (λ r rest e. takes_second.held r rest (second_kept.left ∙ e))
        (Within (λ _. takes.within) (λ _. takes_second.within) work)
        (λ r within. first_kept.left ∙ takes.ended r)
        (λ decides within. takes_second.ended decides.0 ∙ ap emptied second_kept.left)
        (λ unread. kept_on First old mid new (first_unread unread) first_kept)
        (λ aside. kept_on Second old mid new second_kept (second_unread (λ r. aside (r, λ _. takes.within))))

    pub report_fits : (result : Result (Vec ℕ Global) Stopped) → IfOk result (λ text. Works row first second (Report text.items)) → IfOk result (λ text. Outcome row old new (Report text.items))
    report_fits (Ok text) work = both_read (Report text.items) work
    report_fits (Err why) work = tt

    pub report_stops : (result : Result (Vec ℕ Global) Stopped) → IfErr result (Refuses (λ refusal. Works row first second (Refused refusal))) → IfErr result (Stops row old new)
    report_stops (Ok text) work = tt
    report_stops (Err (stopped.Refused refusal)) work = both_read (Refused refusal) work
    report_stops (Err stopped.ReadFault) work = absurd work
    report_stops (Err stopped.NoMemory) work = tt

  pub unread_kept : (((IsTrue (reads row Second) → ⊥) → IsKept Second mid new)) → KeepsUnread row old new
  unread_kept second_unread First unread = kept_on First old mid new (first_unread unread) first_kept
  unread_kept second_unread Second unread = kept_on Second old mid new second_kept (second_unread unread)
