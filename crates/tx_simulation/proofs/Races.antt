-- What freedom from races gives: a step of another thread, and a whole commit, leave the word that a thread's next step reads plainly.
use Rattle.std.proofs.Common.{ℕ, zero, suc, ◌≡◌, ◌≢◌, ◌∙◌, ◌+◌, ◌-◌, ◌<◌, ◌≤◌, Bool, true, false, not, ◌||◌, ◌&&◌, List, [], ◌∷◌, ◌++◌, length, replicate, Option, Some, None, slice_get, slice_set, refl, ap, sym, arith, ⊎_elim, nat_lt}
use Rattle.std.specs.List.{range_with_len}
use Rattle.std.proofs.lemmas.Bool.{cases_lt}
use Rattle.ir_core.specs.declared.instruction.Inst.{Inst}
use Rattle.ir_core.specs.Module.{ModuleParts}
use Rattle.ir_layout.specs.Memory.{is_valid}
use Rattle.ir_check.proofs.Members.{IsIn, next-in, in-map, in-flat, none-found}
use Rattle.mem_image.specs.Accesses.{bytes, overlap}
use Rattle.mem_image.specs.Bytes.{Memory, IsWhole, peek}
use Rattle.mem_image.specs.Touches.{memory_with}
use Rattle.mem_image.specs.Views.{view}
use Rattle.mem_image.proofs.Views.{view-whole, view-nothing}
use Rattle.inst_meaning.specs.declared.actions.Place.{Place}
use Rattle.inst_meaning.specs.declared.actions.Access.{Access}
use Rattle.inst_meaning.specs.declared.actions.Action.{Action}
use Rattle.inst_meaning.specs.declared.actions.Action.TheVariants.{Read}
use Rattle.inst_meaning.specs.Accesses.{access_at, access_of, clash, word_read}
use Rattle.process.specs.declared.state.CallStack.{CallStack}
use Rattle.process.specs.declared.state.Thread.{Thread}
use Rattle.process.specs.declared.state.Thread.TheVariants.{Running, Exiting, Ended}
use Rattle.process.specs.Outcome.{failure, store_of}
use Rattle.process_laws.specs.Locality.{IsApart}
use Rattle.process_laws.proofs.Locality.{valid_where_done, words_elsewhere}
use Rattle.process_laws.proofs.Threads.{SetAt, Same, Other, set-at}
use Rattle.src_meaning.specs.declared.state.Frame.{Frame}
use Rattle.src_meaning.specs.State.{State, inst_at}
use Rattle.src_meaning.specs.Step.{frames, opening, action_in}
use Rattle.src_meaning.specs.Runs.{source, run_from}
use Rattle.src_meaning.specs.Races.{access_in, access_by, unless_over, next_access, clash_of, is_race, pairs_from, pairs_of, race_of, IsGood}
use Rattle.hard_simulation.proofs.Entries.{get-drop}
use Rattle.hard_simulation.proofs.Turns.{state-append}
use Rattle.hard_simulation.proofs.Points.{source_code}
use Rattle.tx_simulation.proofs.Owners.{AreFree}
use Rattle.tx_simulation.proofs.Walks.{Lone, Ran, LoneStep, ByItself, OfMutex, state_at, Walked, solo, set-there, memory-seen, locked-before}
use Rattle.tx_simulation.proofs.Points.{source_action}

-- ---- pairs of threads

range-in : (start count t : ℕ) → start ≤ t → t < start + count → IsIn t (range_with_len start count)
range-in start zero t from to = absurd (omega (arith, from, to))
range-in start (suc count) t from to = ⊎_elim
    (λ less. next-in t start (range_with_len (start + 1) count) (range-in (start + 1) count t (omega (arith, less)) (omega (arith, to))))
    (λ more. let e : start ≡ t = omega (arith, from, more) in (0, ap Some e)) (cases_lt start t)

free-ordered : (m : ModuleParts) (s : State) (t u : ℕ) → race_of m s ≡ None → t < u → u < length s.process.threads
    → clash_of (next_access m s t) (next_access m s u) ≡ false
free-ordered m s t u free less there = none-found (is_race m s) (t, u) (pairs_of (length s.process.threads)) free
    (in-flat (pairs_from (length s.process.threads)) t (t, u) (range_with_len 0 (length s.process.threads))
    (range-in 0 (length s.process.threads) t (omega arith) (omega (arith, less, there)))
    (in-map (λ (v : ℕ). (t, v)) u (range_with_len (t + 1) (length s.process.threads - (t + 1)))
    (range-in (t + 1) (length s.process.threads - (t + 1)) u (omega (arith, less)) (omega (arith, less, there)))))

and-swap : (a b : Bool) → (a && b) ≡ (b && a)
and-swap true true = refl
and-swap true false = refl
and-swap false true = refl
and-swap false false = refl

or-swap : (a b : Bool) → (a || b) ≡ (b || a)
or-swap true true = refl
or-swap true false = refl
or-swap false true = refl
or-swap false false = refl

clash-swap : (a b : Access) → clash a b ≡ clash b a
clash-swap a b = rw (and-swap (nat_lt a.addr (b.addr + bytes b.size)) (nat_lt b.addr (a.addr + bytes a.size)), or-swap a.writes b.writes, and-swap a.atomic b.atomic) refl

clash-of-swap : (a b : Option Access) → clash_of a b ≡ clash_of b a
clash-of-swap None None = refl
clash-of-swap None (Some b) = refl
clash-of-swap (Some a) None = refl
clash-of-swap (Some a) (Some b) = clash-swap a b

-- in a state without a race no two threads' next accesses clash
pub race-free : (m : ModuleParts) (s : State) (t u : ℕ) → race_of m s ≡ None → t ≢ u → t < length s.process.threads → u < length s.process.threads
    → clash_of (next_access m s t) (next_access m s u) ≡ false
race-free m s t u free ne at there = ⊎_elim (λ less. free-ordered m s t u free less there)
    (λ more. clash-of-swap (next_access m s t) (next_access m s u) ∙ free-ordered m s u t free (omega (arith, more, ne)) at) (cases_lt t u)

get-below : {A : Type 0} (xs : List A) (t : ℕ) (x : A) → slice_get xs t ≡ Some x → t < length xs
get-below [] t x e = cc
get-below (y ∷ xs) zero x e = omega arith
get-below (y ∷ xs) (suc t) x e = let less = get-below xs t x e in omega (arith, less)

-- ---- a plain read that comes next

-- the action of a thread's next instruction, where it has one
abbrev pub next_action : ModuleParts → List (Option ℕ) → List Inst → Option Action
next_action m registers [] = None
next_action m registers (inst ∷ left) = Some (source_action m registers inst)

abbrev pub next_of : ModuleParts → Thread Frame → Option Action
next_of m (Running stack) = next_action m stack.frame.registers (source_code m stack.frame)
next_of m (Exiting n) = None
next_of m Ended = None

and-true : (a : Bool) → (a && true) ≡ a
and-true true = refl
and-true false = refl

no-clash : (a : Access) (place : Place) → clash a (access_at place false false) ≡ false → a.writes ≡ true
    → overlap a.addr (bytes a.size) place.address (bytes place.size) ≡ false
no-clash a place e w =
    let f : (overlap a.addr (bytes a.size) place.address (bytes place.size) && (a.writes || false) && not (a.atomic && false)) ≡ false = e in
    let g : (a.writes || false) ≡ true = ap (λ (b : Bool). b || false) w in
    let k : not (a.atomic && false) ≡ true = ap not (and-swap a.atomic false) in
    sym (rw (g, k) (and-true (overlap a.addr (bytes a.size) place.address (bytes place.size) && true) ∙ and-true (overlap a.addr (bytes a.size) place.address (bytes place.size)))) ∙ f

apart-from : (o : Option Access) (place : Place) → clash_of o (Some (access_at place false false)) ≡ false → IsApart o place.address (bytes place.size)
apart-from None place e = tt
apart-from (Some a) place e = λ w. no-clash a place e w

first-of : (m : ModuleParts) (stack : CallStack Frame) (left : List Inst) (action : Action) → source_code m stack.frame ≡ left
    → next_action m stack.frame.registers left ≡ Some action → (inst : Inst) × (inst_at m stack.frame ≡ Some inst) × (action_in m stack.frame inst ≡ action)
first-of m stack [] action e f = cc
first-of m stack (inst ∷ left) action e f =
    let same : source_action m stack.frame.registers inst ≡ action = cc in
    (inst, get-drop _ stack.frame.index inst left e, same)

next-reads : (m : ModuleParts) (s : State) (u : ℕ) (y : Thread Frame) (place : Place) → s.ended ≡ false → slice_get s.process.threads u ≡ Some y
    → next_of m y ≡ Some (Read place false) → next_access m s u ≡ Some (access_at place false false)
next-reads m s u (Running stack) place going at next =
    let first = first-of m stack (source_code m stack.frame) (Read place false) refl next in
    ap (λ (b : Bool). unless_over b (access_by m (length s.process.threads) (slice_get s.process.threads u))) going
    ∙ ap (λ (o : Option (Thread Frame)). access_by m (length s.process.threads) o) at
    ∙ ap (λ (o : Option Inst). access_in m (length s.process.threads) stack.frame o) first.1
    ∙ ap (λ (action : Action). access_of (length s.process.threads) action) first.2
next-reads m s u (Exiting n) place going at next = cc
next-reads m s u Ended place going at next = cc

pub next-acts : (m : ModuleParts) (s : State) (t : ℕ) (stack : CallStack Frame) (inst : Inst) → s.ended ≡ false
    → slice_get s.process.threads t ≡ Some (Running stack) → inst_at m stack.frame ≡ Some inst
    → next_access m s t ≡ access_of (length s.process.threads) (action_in m stack.frame inst)
next-acts m s t stack inst going at stands =
    ap (λ (b : Bool). unless_over b (access_by m (length s.process.threads) (slice_get s.process.threads t))) going
    ∙ ap (λ (o : Option (Thread Frame)). access_by m (length s.process.threads) o) at
    ∙ ap (λ (o : Option Inst). access_in m (length s.process.threads) stack.frame o) stands

-- what a thread would access next shares no byte with what another reads plainly next
pub next-apart : (m : ModuleParts) (s : State) (t u : ℕ) (stack : CallStack Frame) (inst : Inst) (y : Thread Frame) (place : Place) → race_of m s ≡ None
    → s.ended ≡ false → t ≢ u → slice_get s.process.threads t ≡ Some (Running stack) → inst_at m stack.frame ≡ Some inst
    → slice_get s.process.threads u ≡ Some y → next_of m y ≡ Some (Read place false)
    → IsApart (access_of (length s.process.threads) (action_in m stack.frame inst)) place.address (bytes place.size)
next-apart m s t u stack inst y place free going ne at stands there next =
    apart-from (access_of (length s.process.threads) (action_in m stack.frame inst)) place
    (sym (ap (λ (o : Option Access). clash_of o (Some (access_at place false false))) (next-acts m s t stack inst going at stands))
    ∙ sym (ap (λ (o : Option Access). clash_of (next_access m s t) o) (next-reads m s u y place going there next))
    ∙ race-free m s t u free ne (get-below s.process.threads t (Running stack) at) (get-below s.process.threads u y there))

-- where another thread comes next to read plainly, what a thread does alone leaves the word
pub step-leaves : (m : ModuleParts) (s : State) (t u : ℕ) (stack : CallStack Frame) (inst : Inst) (y : Thread Frame) (place : Place) (old : ℕ)
    → race_of m s ≡ None → s.ended ≡ false → IsWhole s.process.memory → t ≢ u
    → slice_get s.process.threads t ≡ Some (Running stack) → inst_at m stack.frame ≡ Some inst
    → failure (frames m) s.process.memory.places t stack (action_in m stack.frame inst) ≡ None
    → slice_get s.process.threads u ≡ Some y → next_of m y ≡ Some (Read place false)
    → is_valid s.process.memory.places place.address (bytes place.size) ≡ true
    → peek (memory_with (store_of (action_in m stack.frame inst) old) s.process.memory) place.address (bytes place.size)
    ≡ peek s.process.memory place.address (bytes place.size)
step-leaves m s t u stack inst y place old free going whole ne at stands can there next valid =
    words_elsewhere s.process.memory (action_in m stack.frame inst) (length s.process.threads) old place.address (bytes place.size) whole
    (valid_where_done (frames m) s.process.memory t stack (action_in m stack.frame inst) can) valid
    (next-apart m s t u stack inst y place free going ne at stands there next)

-- ---- a commit

module _ (m : ModuleParts) (arguments : List ℕ) (good : IsGood m arguments) (s : State) (turns : List ℕ) (state : (source m arguments turns).state ≡ s)
    (going : s.ended ≡ false) (whole : IsWhole s.process.memory) (t u : ℕ) (x y : Thread Frame) (ne : t ≢ u) (at : slice_get s.process.threads t ≡ Some x)
    (there : slice_get s.process.threads u ≡ Some y) (place : Place) (next : next_of m y ≡ Some (Read place false))
    (valid : is_valid s.process.memory.places place.address (bytes place.size) ≡ true) where
  -- no state after turns of the thread alone races
  free-at : (n : ℕ) (k : Lone) → AreFree s.process.world.owners k.locked → Ran m s.process.memory t x n k → race_of m (state_at s t k) ≡ None
  free-at n k free ran =
      let walked : Walked m s t n k = solo m s t x n k at going whole free ran in
      let there : (source m arguments (turns ++ replicate n t)).state ≡ state_at s t k =
      state-append m (opening m arguments) turns (replicate n t) ∙ ap (λ (now : State). (run_from m now (replicate n t)).state) state ∙ walked.state in
      ap (race_of m) (sym there) ∙ good.race_free (turns ++ replicate n t)

  other-there : (k : Lone) → slice_get (slice_set s.process.threads t k.thread) u ≡ Some y
  other-there k = by_place (set-at s.process.threads t u k.thread x at)
    where
      by_place : SetAt s.process.threads t u k.thread → slice_get (slice_set s.process.threads t k.thread) u ≡ Some y
      by_place (Same e f) = absurd (ne (sym e))
      by_place (Other nu f) = f ∙ there

  pub walk-leaves : (n : ℕ) (l : Lone) → AreFree s.process.world.owners l.locked → Ran m s.process.memory t x n l
      → peek (view s.process.memory l.written) place.address (bytes place.size) ≡ peek s.process.memory place.address (bytes place.size)
  walk-leaves zero l free ran = ap (λ (o : Lone). peek (view s.process.memory o.written) place.address (bytes place.size)) ran
      ∙ ap (λ (mem : Memory). peek mem place.address (bytes place.size)) (view-nothing s.process.memory)
  walk-leaves (suc n) l free (k, ran, st) = by_step st (walk-leaves n k (λ a e. free a (locked-before m s.process.memory t k l st a e)) ran)
    where
      by_step : LoneStep m s.process.memory t k l
          → peek (view s.process.memory k.written) place.address (bytes place.size) ≡ peek s.process.memory place.address (bytes place.size)
          → peek (view s.process.memory l.written) place.address (bytes place.size) ≡ peek s.process.memory place.address (bytes place.size)
      by_step (ByItself stack inst runs stands by_itself can is) before =
          let action : Action = action_in m stack.frame inst in
          let old : ℕ = word_read (view s.process.memory k.written) action in
          ap (λ (o : Lone). peek (view s.process.memory o.written) place.address (bytes place.size)) is
          ∙ ap (λ (mem : Memory). peek mem place.address (bytes place.size)) (sym (memory-seen m s.process.memory k.written t stack action old whole can))
          ∙ step-leaves m (state_at s t k) t u stack inst y place old (free-at n k (λ a e. free a (locked-before m s.process.memory t k l st a e)) ran)
          going (view-whole s.process.memory k.written whole) ne
          (set-there s.process.threads t k.thread x at ∙ ap Some runs) stands can (other-there k) next valid
          ∙ before
      by_step (OfMutex stack inst call runs stands asks can is) before =
          ap (λ (o : Lone). peek (view s.process.memory o.written) place.address (bytes place.size)) is ∙ before
