-- What an effect of one thread's turn keeps of the whole machine: where the source stays, and where it goes on by turns of that thread.
use Rattle.std.proofs.Common.{ℕ, zero, suc, ◌≡◌, ◌≢◌, ◌∙◌, ◌+◌, Bool, true, false, ◌||◌, List, [], ◌∷◌, ◌++◌, length, replicate, map, Option, Some, None, slice_get, slice_set, refl, ap, sym, subst}
use Rattle.std.specs.Option.{option_map}
use Rattle.std.proofs.lemmas.List.{length-set, length-map, length-append}
use Rattle.std.proofs.lemmas.Option.{slice_get-map}
use Rattle.ir_core.specs.Module.{ModuleParts}
use Rattle.mem_image.specs.Bytes.{Memory}
use Rattle.line_sets.specs.Sets.{has}
use Rattle.process.specs.declared.state.Thread.{Thread}
use Rattle.process.specs.declared.state.Step.{Step}
use Rattle.process.specs.declared.state.Step.TheVariants.{Went, Waits, Idle, Undefined, Ended}
use Rattle.process.specs.Process.{with_born}
use Rattle.process_laws.proofs.Threads.{SetAt, Same, Other, set-at, MoreAt, Before, Last, more-at}
use Rattle.src_meaning.specs.declared.state.Frame.{Frame as SourceFrame}
use Rattle.src_meaning.specs.State.{State as SourceState}
use Rattle.src_meaning.specs.Step.{opening}
use Rattle.src_meaning.specs.Runs.{source, run_from}
use Rattle.hard_ir.specs.Hardened.{HardParts}
use Rattle.hard_simulation.specs.Meaning.{AllWent, code_of}
use Rattle.hard_simulation.proofs.Turns.{state-append, answers-append}
use Rattle.hard_meaning.specs.State.{Mode, Free, Inside, Worker, Upset}
use Rattle.hard_meaning.specs.Aborts.{Status, Conflict, Claim, aborted_from, aborted, is_in_the_way, aborted_if, spared}
use Rattle.hard_meaning.specs.Records.{carries, struck_in}
use Rattle.tx_simulation.proofs.Owners.{AreFree}
use Rattle.tx_simulation.proofs.Points.{wrote, touched}
use Rattle.tx_simulation.proofs.Lines.{AreApart, never-both}
use Rattle.tx_simulation.proofs.Races.{next_of}
use Rattle.tx_simulation.proofs.Facts.{IsWorker, worker-spared, worker-again, Changes, IsRested, mode_of, mode_at, watched_in, AreNamed, AreWorkers, Facts}

-- ---- lists of workers

-- what stands in the list of workers once one of them moved, and others were aborted
pub data Look (ws : List Worker) (t u : ℕ) (f : Worker → Worker) (w : Worker) : Type 0 where
  Here : u ≡ t → slice_get (slice_set (map f ws) t w) u ≡ Some w → Look ws t u f w
  There : u ≢ t → slice_get (slice_set (map f ws) t w) u ≡ option_map f (slice_get ws u) → Look ws t u f w

pub look : (ws : List Worker) (t u : ℕ) (f : Worker → Worker) (w old : Worker) → slice_get ws t ≡ Some old → Look ws t u f w
look ws t u f w old at = by_place (set-at (map f ws) t u w (f old) (slice_get-map f ws t ∙ ap (option_map f) at))
  where
    by_place : SetAt (map f ws) t u w → Look ws t u f w
    by_place (Same e g) = Here e g
    by_place (Other ne g) = There ne (g ∙ slice_get-map f ws u)

-- ---- what an action leaves of others

-- in another mode fewer lines and mutexes, at most
pub record IsWithin (a b : Mode) : Type 0 where
  pub wrote : (line : ℕ) → wrote a line ≡ true → wrote b line ≡ true
  pub touched : (line : ℕ) → touched a line ≡ true → touched b line ≡ true
  pub watched : (address : ℕ) → has (watched_in a) address ≡ true → has (watched_in b) address ≡ true

pub within-same : (mode : Mode) → IsWithin mode mode
within-same mode = record { wrote = λ line e. e; touched = λ line e. e; watched = λ a e. e }

pub within-free : (plain : Bool) (mode : Mode) → IsWithin (Free plain) mode
within-free plain mode = record { wrote = λ line e. cc; touched = λ line e. cc; watched = λ a e. cc }

pub within-aborted : (status : Status) (w : Worker) (mode : Mode) → w.mode ≡ mode → IsWithin (aborted_from status w mode).mode mode
within-aborted status w (Free plain) e = subst (λ (k : Mode). IsWithin k (Free plain)) (sym e) (within-same (Free plain))
within-aborted status w (Inside tx) e = within-free false (Inside tx)

pub within-spared : (claim : Claim) (w : Worker) → IsWithin (spared claim w).mode w.mode
within-spared claim w = by_test (is_in_the_way claim w.mode)
  where
    by_test : (b : Bool) → IsWithin (aborted_if b w).mode w.mode
    by_test true = within-aborted Conflict w w.mode refl
    by_test false = within-same w.mode

abbrev spared_mode : Claim → Option Worker → Mode
spared_mode claim o = mode_of (option_map (spared claim) o)

within-option : (claim : Claim) (o : Option Worker) → IsWithin (spared_mode claim o) (mode_of o)
within-option claim None = within-same (Free false)
within-option claim (Some w) = within-spared claim w

clear-aborted : (claim : Claim) (w : Worker) (mode : Mode) → w.mode ≡ mode → is_in_the_way claim (aborted_from Conflict w mode).mode ≡ false
clear-aborted claim w (Free plain) e = ap (is_in_the_way claim) e
clear-aborted claim w (Inside tx) e = refl

-- nobody who was spared stands in the way
pub spared-clear : (claim : Claim) (w : Worker) → is_in_the_way claim (spared claim w).mode ≡ false
spared-clear claim w = by_test (is_in_the_way claim w.mode) refl
  where
    by_test : (b : Bool) → is_in_the_way claim w.mode ≡ b → is_in_the_way claim (aborted_if b w).mode ≡ false
    by_test true e = clear-aborted claim w w.mode refl
    by_test false e = e

option-clear : (claim : Claim) (o : Option Worker) → is_in_the_way claim (spared_mode claim o) ≡ false
option-clear claim None = refl
option-clear claim (Some w) = spared-clear claim w

-- the worker that it was
spared-from : (claim : Claim) (o : Option Worker) (w : Worker) → option_map (spared claim) o ≡ Some w → (v : Worker) × (o ≡ Some v) × (spared claim v ≡ w)
spared-from claim None w e = cc
spared-from claim (Some v) w e = let f : spared claim v ≡ w = cc in (v, refl, f)

-- an abort leaves only numbers that were carried
carried-aborted : (status : Status) (w : Worker) (mode : Mode) (k : ℕ) → w.mode ≡ mode → carries k (aborted_from status w mode) ≡ true → carries k w ≡ true
carried-aborted status w (Free plain) k e f = f
carried-aborted status w (Inside tx) k e f = by_test (has w.hits k) f
  where
    by_test : (b : Bool) → (b || false) ≡ true → (b || has (struck_in w.mode) k) ≡ true
    by_test true g = refl
    by_test false g = cc

pub named-aborted : (upsets : List Upset) (status : Status) (w : Worker) → AreNamed upsets w → AreNamed upsets (aborted status w)
named-aborted upsets status w named k e = named k (carried-aborted status w w.mode k refl e)

pub named-spared : (upsets : List Upset) (claim : Claim) (w : Worker) → AreNamed upsets w → AreNamed upsets (spared claim w)
named-spared upsets claim w named = by_test (is_in_the_way claim w.mode)
  where
    by_test : (b : Bool) → AreNamed upsets (aborted_if b w)
    by_test true = named-aborted upsets Conflict w named
    by_test false = named

-- answers that all went, after others
went-all : (before : List Step) (n : ℕ) → AllWent before → code_of before ≡ None
    → AllWent (before ++ replicate n Went) × (code_of (before ++ replicate n Went) ≡ None)
went-all [] zero went none = (tt, refl)
went-all [] (suc n) went none = went-all [] n tt refl
went-all (Went ∷ before) n went none = went-all before n went none
went-all (Ended code ∷ []) n went none = cc
went-all (Ended code ∷ answer ∷ before) n went none = cc
went-all (Waits ∷ before) n went none = absurd went
went-all (Idle ∷ before) n went none = absurd went
went-all (Undefined cause ∷ before) n went none = absurd went

-- ---- a thread is made

-- a thread that was made, or none: it is outside, and no upset stands in it
abbrev pub AreMade : ModuleParts → HardParts → Memory → Option (Thread SourceFrame) → Option Worker → Type 0
AreMade m h mem None None = Unit {0}
AreMade m h mem None (Some w) = ⊥
AreMade m h mem (Some x) None = ⊥
AreMade m h mem (Some x) (Some w) = ((t : ℕ) → IsWorker m h mem t x w) × (w.mode ≡ Free false) × (w.hits ≡ [])

module _ (m : ModuleParts) (h : HardParts) (mem : Memory) (owners : List (ℕ × ℕ)) (upsets : List Upset) (xs : List (Thread SourceFrame)) (ws : List Worker)
    (all : AreWorkers m h mem owners upsets xs ws) where
  module _ (x : Thread SourceFrame) (w : Worker) (is : (t : ℕ) → IsWorker m h mem t x w) (free : w.mode ≡ Free false) (none : w.hits ≡ []) where
    one-more : AreWorkers m h mem owners upsets (xs ++ x ∷ []) (ws ++ w ∷ [])
    one-more = record {
      count = length-append ws (w ∷ []) ∙ ap (λ (n : ℕ). n + 1) all.count ∙ sym (length-append xs (x ∷ []));
      each = λ t y v there hard. each t y v there hard (more-at xs x t) (more-at ws w t);
      apart = λ t u ne. apart t u ne (more-at ws w t) (more-at ws w u);
      unowned = λ t. unowned t (more-at ws w t);
      named = λ t v hard. named t v hard (more-at ws w t);
    }
      where
        each : (t : ℕ) (y : Thread SourceFrame) (v : Worker) → slice_get (xs ++ x ∷ []) t ≡ Some y → slice_get (ws ++ w ∷ []) t ≡ Some v
            → MoreAt xs x t → MoreAt ws w t → IsWorker m h mem t y v
        each t y v there hard (Before i e) (Before j f) = all.each t y v (sym e ∙ there) (sym f ∙ hard)
        each t y v there hard (Last i e) (Last j f) =
            let same_x : x ≡ y = let g : Some x ≡ Some y = sym e ∙ there in cc in
            let same_w : w ≡ v = let g : Some w ≡ Some v = sym f ∙ hard in cc in
            subst (λ (z : Thread SourceFrame). IsWorker m h mem t z v) same_x (subst (λ (z : Worker). IsWorker m h mem t x z) same_w (is t))
        each t y v there hard (Before i e) (Last j f) = absurd (i (j ∙ all.count))
        each t y v there hard (Last i e) (Before j f) = absurd (j (i ∙ sym all.count))

        no-lines : (mode : Mode) → AreApart (Free false) mode × AreApart mode (Free false)
        no-lines mode = (λ line p q. never-both false refl p, λ line p q. never-both false refl q)

        apart : (t u : ℕ) → t ≢ u → MoreAt ws w t → MoreAt ws w u → AreApart (mode_at (ws ++ w ∷ []) t) (mode_at (ws ++ w ∷ []) u)
        apart t u ne (Before i e) (Before j f) = rw (e, f) (all.apart t u ne)
        apart t u ne (Before i e) (Last j f) = rw (e, f, free) (no-lines (mode_at ws t)).1
        apart t u ne (Last i e) (Before j f) = rw (e, f, free) (no-lines (mode_at ws u)).0
        apart t u ne (Last i e) (Last j f) = absurd (ne (i ∙ sym j))

        unowned : (t : ℕ) → MoreAt ws w t → AreFree owners (watched_in (mode_at (ws ++ w ∷ []) t))
        unowned t (Before i e) = rw e (all.unowned t)
        unowned t (Last i e) = rw (e, free) (λ a k. cc)

        named : (t : ℕ) (v : Worker) → slice_get (ws ++ w ∷ []) t ≡ Some v → MoreAt ws w t → AreNamed upsets v
        named t v hard (Before i e) = all.named t v (sym e ∙ hard)
        named t v hard (Last i e) =
            let same_w : w ≡ v = let g : Some w ≡ Some v = sym e ∙ hard in cc in
            subst (AreNamed upsets) same_w (λ k c.
            let d : (has [] k || has (struck_in (Free false)) k) ≡ true = ap (λ (l : List ℕ). has l k || has (struck_in (Free false)) k) (sym none)
            ∙ ap (λ (mode : Mode). has w.hits k || has (struck_in mode) k) (sym free) ∙ c in
            cc)

  pub more-workers : (born : Option (Thread SourceFrame)) (made : Option Worker) → AreMade m h mem born made
      → AreWorkers m h mem owners upsets (with_born born xs) (with_born made ws)
  more-workers None None is = all
  more-workers None (Some w) is = absurd is
  more-workers (Some x) None is = absurd is
  more-workers (Some x) (Some w) is = one-more x w is.0 is.1 is.2

module _ (m : ModuleParts) (h : HardParts) (arguments : List ℕ) (s : SourceState) (workers : List Worker) (turns : List ℕ) (upsets : List Upset)
    (facts : Facts m h arguments s workers turns upsets) (t : ℕ) (x : Thread SourceFrame) (w : Worker) (at : slice_get s.process.threads t ≡ Some x)
    (hard_at : slice_get workers t ≡ Some w) where
  -- the workers once it moved, and others were spared
  abbrev pub moved_with : Claim → Worker → List Worker
  moved_with claim w' = slice_set (map (spared claim) workers) t w'

  -- ---- of two threads, and of owners

  apart-others : (claim : Claim) (w' : Worker)
      → ((mode : Mode) → is_in_the_way claim mode ≡ false → AreApart w.mode mode → AreApart w'.mode mode)
      → ((mode : Mode) → is_in_the_way claim mode ≡ false → AreApart mode w.mode → AreApart mode w'.mode)
      → (a b : ℕ) → a ≢ b → AreApart (mode_at (moved_with claim w') a) (mode_at (moved_with claim w') b)
  apart-others claim w' first second a b ne = by_looks (look workers t a (spared claim) w' w hard_at) (look workers t b (spared claim) w' w hard_at)
    where
      by_looks : Look workers t a (spared claim) w' → Look workers t b (spared claim) w'
          → AreApart (mode_at (moved_with claim w') a) (mode_at (moved_with claim w') b)
      by_looks (Here e f) (Here g k) = absurd (ne (e ∙ sym g))
      by_looks (Here e f) (There nb k) =
          rw (f, k) (first (spared_mode claim (slice_get workers b)) (option-clear claim (slice_get workers b))
          (λ line p q. facts.all.apart t b (λ z. nb (sym z)) line (subst (λ (o : Option Worker). wrote (mode_of o) line ≡ true) (sym hard_at) p)
          ((within-option claim (slice_get workers b)).touched line q)))
      by_looks (There na f) (Here g k) =
          rw (f, k) (second (spared_mode claim (slice_get workers a)) (option-clear claim (slice_get workers a))
          (λ line p q. facts.all.apart a t na line ((within-option claim (slice_get workers a)).wrote line p)
          (subst (λ (o : Option Worker). touched (mode_of o) line ≡ true) (sym hard_at) q)))
      by_looks (There na f) (There nb k) =
          rw (f, k) (λ line p q. facts.all.apart a b ne line ((within-option claim (slice_get workers a)).wrote line p)
          ((within-option claim (slice_get workers b)).touched line q))

  -- what nobody watches who was spared may get an owner
  unowned-others : (claim : Claim) (w' : Worker) (owners : List (ℕ × ℕ)) → AreFree owners (watched_in w'.mode)
      → ((mode : Mode) → is_in_the_way claim mode ≡ false → AreFree s.process.world.owners (watched_in mode) → AreFree owners (watched_in mode))
      → (u : ℕ) → AreFree owners (watched_in (mode_at (moved_with claim w') u))
  unowned-others claim w' owners own others u = by_look (look workers t u (spared claim) w' w hard_at)
    where
      by_look : Look workers t u (spared claim) w' → AreFree owners (watched_in (mode_at (moved_with claim w') u))
      by_look (Here e f) = rw f own
      by_look (There ne f) = rw f (others (spared_mode claim (slice_get workers u)) (option-clear claim (slice_get workers u))
          (λ a e. facts.all.unowned u a ((within-option claim (slice_get workers u)).watched a e)))

  named-others : (claim : Claim) (w' : Worker) → AreNamed upsets w' → (u : ℕ) (v : Worker) → slice_get (moved_with claim w') u ≡ Some v → AreNamed upsets v
  named-others claim w' own u v hard = by_look (look workers t u (spared claim) w' w hard_at)
    where
      by_look : Look workers t u (spared claim) w' → AreNamed upsets v
      by_look (Here e f) = let same : w' ≡ v = let g : Some w' ≡ Some v = sym f ∙ hard in cc in subst (AreNamed upsets) same own
      by_look (There ne f) =
          let from = spared-from claim (slice_get workers u) v (sym f ∙ hard) in
          subst (AreNamed upsets) from.2 (named-spared upsets claim from.0 (facts.all.named u from.0 from.1))

  count-moved : (claim : Claim) (w' : Worker) → length (moved_with claim w') ≡ length workers
  count-moved claim w' = length-set (map (spared claim) workers) t w' ∙ length-map workers (spared claim)

  -- ---- the source stays

  each-inside : (claim : Claim) (w' : Worker) → IsWorker m h s.process.memory t x w' → (u : ℕ) (y : Thread SourceFrame) (v : Worker)
      → slice_get s.process.threads u ≡ Some y → slice_get (moved_with claim w') u ≡ Some v → IsWorker m h s.process.memory u y v
  each-inside claim w' is u y v there hard = by_look (look workers t u (spared claim) w' w hard_at)
    where
      by_look : Look workers t u (spared claim) w' → IsWorker m h s.process.memory u y v
      by_look (Here e f) =
          let same_w : w' ≡ v = let g : Some w' ≡ Some v = sym f ∙ hard in cc in
          let same_x : x ≡ y = let g : Some x ≡ Some y = sym at ∙ ap (slice_get s.process.threads) (sym e) ∙ there in cc in
          subst (λ (n : ℕ). IsWorker m h s.process.memory n y v) (sym e) (subst (λ (z : Thread SourceFrame). IsWorker m h s.process.memory t z v) same_x
          (subst (λ (z : Worker). IsWorker m h s.process.memory t x z) same_w is))
      by_look (There ne f) =
          let from = spared-from claim (slice_get workers u) v (sym f ∙ hard) in
          subst (λ (z : Worker). IsWorker m h s.process.memory u y z) from.2
          (worker-spared m h s.process.memory u y from.0 claim (facts.all.each u y from.0 there from.1))

  pub stays-kept : (claim : Claim) (w' : Worker) → IsWorker m h s.process.memory t x w'
      → ((mode : Mode) → is_in_the_way claim mode ≡ false → AreApart w.mode mode → AreApart w'.mode mode)
      → ((mode : Mode) → is_in_the_way claim mode ≡ false → AreApart mode w.mode → AreApart mode w'.mode)
      → AreFree s.process.world.owners (watched_in w'.mode) → AreNamed upsets w'
      → Facts m h arguments s (moved_with claim w') turns upsets
  stays-kept claim w' is first second free named = record {
    state = facts.state;
    went = facts.went;
    unended = facts.unended;
    going = facts.going;
    whole = facts.whole;
    all = record {
      count = count-moved claim w' ∙ facts.all.count;
      each = each-inside claim w' is;
      apart = apart-others claim w' first second;
      unowned = unowned-others claim w' s.process.world.owners free (λ mode clear all. all);
      named = named-others claim w' named;
    };
  }

  -- ---- the source goes on

  each-outside : (claim : Claim) (w' : Worker) (P : ℕ → Type 0) (next : SourceState) (x' : Thread SourceFrame)
      → Changes P s.process.memory next.process.memory
      → ((u : ℕ) (y : Thread SourceFrame) (v : Worker) → u ≢ t → slice_get s.process.threads u ≡ Some y → slice_get workers u ≡ Some v
      → IsRested (spared claim v).mode (next_of m y) P s.process.memory next.process.memory)
      → IsWorker m h next.process.memory t x' w'
      → (u : ℕ) (y : Thread SourceFrame) (v : Worker) → slice_get (slice_set s.process.threads t x') u ≡ Some y → slice_get (moved_with claim w') u ≡ Some v
      → IsWorker m h next.process.memory u y v
  each-outside claim w' P next x' change rested is u y v now hard =
      by_look (look workers t u (spared claim) w' w hard_at) (set-at s.process.threads t u x' x at)
    where
      by_look : Look workers t u (spared claim) w' → SetAt s.process.threads t u x' → IsWorker m h next.process.memory u y v
      by_look (Here e f) (Same g k) =
          let same_w : w' ≡ v = let z : Some w' ≡ Some v = sym f ∙ hard in cc in
          let same_x : x' ≡ y = let z : Some x' ≡ Some y = sym k ∙ now in cc in
          subst (λ (n : ℕ). IsWorker m h next.process.memory n y v) (sym e) (subst (λ (z : Thread SourceFrame). IsWorker m h next.process.memory t z v) same_x
          (subst (λ (z : Worker). IsWorker m h next.process.memory t x' z) same_w is))
      by_look (There ne f) (Other ng k) =
          let from = spared-from claim (slice_get workers u) v (sym f ∙ hard) in
          let old : slice_get s.process.threads u ≡ Some y = sym k ∙ now in
          subst (λ (z : Worker). IsWorker m h next.process.memory u y z) from.2
          (worker-again m h P s.process.memory next.process.memory u y (spared claim from.0) change (rested u y from.0 ne old from.1)
          (worker-spared m h s.process.memory u y from.0 claim (facts.all.each u y from.0 old from.1)))
      by_look (Here e f) (Other ng k) = absurd (ng e)
      by_look (There ne f) (Same g k) = absurd (ne g)

  -- so many turns of this thread, and each went
  pub record GoesOn (next : SourceState) (n : ℕ) : Type 0 where
    pub state : (run_from m s (replicate n t)).state ≡ next
    pub answers : (run_from m s (replicate n t)).answers ≡ replicate n Went
    pub going : next.ended ≡ false

  pub goes-kept : (claim : Claim) (w' : Worker) (P : ℕ → Type 0) (next : SourceState) (x' : Thread SourceFrame) (n : ℕ)
      (born : Option (Thread SourceFrame)) (made : Option Worker) → GoesOn next n
      → next.process.threads ≡ with_born born (slice_set s.process.threads t x') → AreMade m h next.process.memory born made
      → Changes P s.process.memory next.process.memory
      → ((u : ℕ) (y : Thread SourceFrame) (v : Worker) → u ≢ t → slice_get s.process.threads u ≡ Some y → slice_get workers u ≡ Some v
      → IsRested (spared claim v).mode (next_of m y) P s.process.memory next.process.memory)
      → IsWorker m h next.process.memory t x' w'
      → ((mode : Mode) → is_in_the_way claim mode ≡ false → AreApart w.mode mode → AreApart w'.mode mode)
      → ((mode : Mode) → is_in_the_way claim mode ≡ false → AreApart mode w.mode → AreApart mode w'.mode)
      → AreFree next.process.world.owners (watched_in w'.mode)
      → ((mode : Mode) → is_in_the_way claim mode ≡ false → AreFree s.process.world.owners (watched_in mode) → AreFree next.process.world.owners (watched_in mode))
      → AreNamed upsets w'
      → Facts m h arguments next (with_born made (moved_with claim w')) (turns ++ replicate n t) upsets
  goes-kept claim w' P next x' n born made goes threads are_made change rested is first second free others named = record {
    state = state-append m (opening m arguments) turns (replicate n t) ∙ ap (λ (now : SourceState). (run_from m now (replicate n t)).state) facts.state ∙ goes.state;
    went = subst (λ (list : List Step). AllWent list) (sym all) (went-all (source m arguments turns).answers n facts.went facts.unended).0;
    unended = ap code_of all ∙ (went-all (source m arguments turns).answers n facts.went facts.unended).1;
    going = goes.going;
    whole = change.after;
    all = subst (λ (xs : List (Thread SourceFrame)). AreWorkers m h next.process.memory next.process.world.owners upsets xs (with_born made (moved_with claim w')))
        (sym threads) (more-workers m h next.process.memory next.process.world.owners upsets (slice_set s.process.threads t x') (moved_with claim w') (record {
          count = count-moved claim w' ∙ facts.all.count ∙ sym (length-set s.process.threads t x');
          each = each-outside claim w' P next x' change rested is;
          apart = apart-others claim w' first second;
          unowned = unowned-others claim w' next.process.world.owners free others;
          named = named-others claim w' named;
        }) born made are_made);
  }
    where
      all : (source m arguments (turns ++ replicate n t)).answers ≡ (source m arguments turns).answers ++ replicate n Went
      all = answers-append m (opening m arguments) turns (replicate n t)
          ∙ ap (λ (now : SourceState). (source m arguments turns).answers ++ (run_from m now (replicate n t)).answers) facts.state
          ∙ ap (λ (list : List Step). (source m arguments turns).answers ++ list) goes.answers
