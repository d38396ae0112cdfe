-- A thread inside: how far it has got, apart from where its frames stand; and what a turn more comes to.
use Rattle.std.proofs.Common.{ℕ, ◌≡◌, ◌∙◌, Bool, true, false, ◌||◌, List, [], ◌∷◌, ◌++◌, length, replicate, Option, Some, None, slice_get, refl, ap, sym, subst, inl, ⊎_elim, nat_eq, eqb-true}
use mathlib.Core.Path.{fun_ext}
use Rattle.std.specs.List.{cons_option}
use Rattle.std.proofs.lemmas.Bool.{cases_eq}
use Rattle.ir_core.specs.declared.instruction.Inst.{Inst}
use Rattle.ir_core.specs.Module.{ModuleParts}
use Rattle.ir_layout.specs.declared.spans.Span.{Span}
use Rattle.ir_layout.specs.Memory.{is_valid}
use Rattle.mem_image.specs.Bytes.{Memory, IsWhole}
use Rattle.mem_image.specs.Lines.{AreLines, line_of}
use Rattle.mem_image.specs.Touches.{Touch, Store, stored_with}
use Rattle.mem_image.specs.Views.{Written, stored, view}
use Rattle.mem_image.proofs.Agreement.{other-line}
use Rattle.mem_image.proofs.LineBuffers.{access-writes_nothing, access-writes, access-kept}
use Rattle.mem_image.proofs.ViewBytes.{stored-apart}
use Rattle.line_sets.specs.Sets.{has}
use Rattle.rtm_core.specs.Footprint.{written_by, seen_through}
use Rattle.inst_meaning.specs.declared.actions.Cause.{Cause}
use Rattle.inst_meaning.specs.declared.actions.Place.{Place}
use Rattle.inst_meaning.specs.declared.actions.Action.{Action}
use Rattle.inst_meaning.specs.declared.actions.Action.TheVariants.{Assign, Reserve, Read, Write, Update, Pass, Jump, Call, Ask, Create, Join, Exit, Return, Fault}
use Rattle.inst_meaning.specs.Accesses.{place_of, updated, word_read}
use Rattle.inst_meaning.specs.Action.{destination}
use Rattle.process.specs.declared.state.CallStack.{CallStack}
use Rattle.process.specs.declared.state.Thread.{Thread}
use Rattle.process.specs.declared.state.Thread.TheVariants.{Running}
use Rattle.process.specs.declared.state.Step.{Step}
use Rattle.process.specs.declared.state.Step.TheVariants.{Undefined}
use Rattle.process.specs.Outcome.{failure, thread_after, touch_at, touch_of, store_of, called, goes_unless, effect_alone}
use Rattle.process.specs.Process.{done}
use Rattle.process_laws.specs.Alone.{IsAlone}
use Rattle.process_laws.proofs.Locality.{valid_where_done}
use Rattle.src_meaning.specs.declared.state.Frame.{Frame as SourceFrame}
use Rattle.src_meaning.specs.State.{State as SourceState, inst_at}
use Rattle.src_meaning.specs.Step.{frames, opening, action_in, settled, step}
use Rattle.src_meaning.specs.Runs.{source, run_from}
use Rattle.src_meaning.specs.Races.{IsGood}
use Rattle.hard_ir.specs.Hardened.{HardParts}
use Rattle.hard_frames.specs.declared.state.Frame.{Frame}
use Rattle.hard_simulation.proofs.Sides.{Sides}
use Rattle.hard_simulation.proofs.Turns.{state-append, answers-more}
use Rattle.hard_meaning.specs.State.{Transaction, Mode, Free, Inside, seen_in}
use Rattle.hard_meaning.specs.Effects.{transaction_after}
use Rattle.hard_meaning.specs.Locks.{MutexCall, Locks, Unlocks, mutex_call, watching}
use Rattle.tx_simulation.proofs.Owners.{AreFree}
use Rattle.tx_simulation.proofs.Walks.{Lone, lone_after, lone_called, CanCall, held_after, ByItself, OfMutex, Ran, outcome-alone, state_at, process_at, steps-at, Walked, solo}
use Rattle.tx_simulation.proofs.Points.{wrote, touched, IsThreadOn}
use Rattle.tx_simulation.proofs.Lines.{wrote-keeps, wrote-own, touched-keeps, touched-own, member-has, member-keeps}
use Rattle.tx_simulation.proofs.Facts.{AllTouched, AreWritten, IsInside, back_to, InTx, OkIn}

-- ---- what an access adds

abbrev pub after_action : Bool → Action → ℕ → Transaction → Transaction
after_action retires action old tx = transaction_after retires (touch_of action) (store_of action old) tx

pub all-keep : (retires : Bool) (touch : Option Touch) (store : Option Store) (tx : Transaction) (places : List Place) → AllTouched (Inside tx) places
    → AllTouched (Inside (transaction_after retires touch store tx)) places
all-keep retires touch store tx [] all = tt
all-keep retires touch store tx (place ∷ places) all =
    (touched-keeps retires store tx touch (line_of place.address) all.0, all-keep retires touch store tx places all.1)

-- what an action accesses is among the lines of a mode
abbrev pub Covers : Mode → Option Place → Type 0
Covers mode None = Unit {0}
Covers mode (Some place) = touched mode (line_of place.address) ≡ true

pub all-more : (mode : Mode) (o : Option Place) (places : List Place) → Covers mode o → AllTouched mode places → AllTouched mode (cons_option o places)
all-more mode None places own all = all
all-more mode (Some place) places own all = (own, all)

pub covers-own : (retires : Bool) (action : Action) (store : Option Store) (tx : Transaction)
    → Covers (Inside (transaction_after retires (touch_of action) store tx)) (place_of action)
covers-own retires (Read place atomic) store tx = touched-own retires store tx (touch_at place true false) refl
covers-own retires (Write place n atomic) store tx = touched-own retires store tx (touch_at place false true) refl
covers-own retires (Update place update) store tx = touched-own retires store tx (touch_at place true true) refl
covers-own retires (Assign n) store tx = tt
covers-own retires (Reserve n) store tx = tt
covers-own retires Pass store tx = tt
covers-own retires (Jump n) store tx = tt
covers-own retires (Call n words) store tx = tt
covers-own retires (Ask n) store tx = tt
covers-own retires (Create a n b) store tx = tt
covers-own retires (Join n) store tx = tt
covers-own retires (Exit n) store tx = tt
covers-own retires (Return n) store tx = tt
covers-own retires (Fault n) store tx = tt

-- an access that stores nothing leaves what was written, one that stores writes it
pub written-quiet : (retires : Bool) (touch : Option Touch) (tx : Transaction)
    → written_by (transaction_after retires touch None tx).footprint ≡ written_by tx.footprint
written-quiet retires None tx = refl
written-quiet retires (Some touch) tx = fun_ext (λ at. access-writes_nothing touch tx.footprint.write_set at)

pub written-stored : (spans : List Span) (retires : Bool) (touch : Touch) (word : ℕ) (tx : Transaction) → AreLines tx.footprint.write_set → touch.writes ≡ true
    → is_valid spans touch.address touch.size ≡ true
    → written_by (transaction_after retires (Some touch) (Some (record { address = touch.address; size = touch.size; word = word })) tx).footprint
    ≡ stored (written_by tx.footprint) touch.address touch.size word
written-stored spans retires touch word tx all writes valid = fun_ext (λ at.
    access-writes spans touch (record { address = touch.address; size = touch.size; word = word }) tx.footprint.write_set at all writes refl valid)

pub buffers-quiet : (spans : List Span) (retires : Bool) (touch : Option Touch) (tx : Transaction) → AreLines tx.footprint.write_set
    → AreLines (transaction_after retires touch None tx).footprint.write_set
buffers-quiet spans retires None tx all = all
buffers-quiet spans retires (Some touch) tx all = access-kept spans touch None tx.footprint.write_set all (λ s e. cc)

pub buffers-stored : (spans : List Span) (retires : Bool) (touch : Touch) (word : ℕ) (tx : Transaction) → AreLines tx.footprint.write_set
    → is_valid spans touch.address touch.size ≡ true
    → AreLines (transaction_after retires (Some touch) (Some (record { address = touch.address; size = touch.size; word = word })) tx).footprint.write_set
buffers-stored spans retires touch word tx all valid =
    access-kept spans touch (Some (record { address = touch.address; size = touch.size; word = word })) tx.footprint.write_set all
    (λ s e. let same : record { address = touch.address; size = touch.size; word = word } ≡ s = cc in
    subst (λ (k : Store). is_valid spans k.address k.size ≡ true) same valid)

pub writes-quiet : (retires : Bool) (touch : Option Touch) (tx : Transaction) → AreWritten tx → AreWritten (transaction_after retires touch None tx)
writes-quiet retires touch tx written at byte e =
    wrote-keeps retires None tx touch (line_of at) (written at byte (sym (ap (λ (f : Written). f at) (written-quiet retires touch tx)) ∙ e))

pub writes-stored : (spans : List Span) (retires : Bool) (touch : Touch) (word : ℕ) (tx : Transaction) → AreLines tx.footprint.write_set → touch.writes ≡ true
    → is_valid spans touch.address touch.size ≡ true → AreWritten tx
    → AreWritten (transaction_after retires (Some touch) (Some (record { address = touch.address; size = touch.size; word = word })) tx)
writes-stored spans retires touch word tx all writes valid written at byte e = ⊎_elim here elsewhere (cases_eq (line_of at) (line_of touch.address))
  where
    store : Option Store
    store = Some (record { address = touch.address; size = touch.size; word = word })

    tx' : Transaction
    tx' = transaction_after retires (Some touch) store tx

    here : line_of at ≡ line_of touch.address → wrote (Inside tx') (line_of at) ≡ true
    here same = ap (wrote (Inside tx')) same ∙ wrote-own retires store tx touch writes

    elsewhere : (line_of at ≡ line_of touch.address → ⊥) → wrote (Inside tx') (line_of at) ≡ true
    elsewhere off = wrote-keeps retires store tx (Some touch) (line_of at) (written at byte
        (sym (stored-apart (written_by tx.footprint) touch.address touch.size word at (other-line spans touch.address touch.size at valid off))
        ∙ sym (ap (λ (f : Written). f at) (written-stored spans retires touch word tx all writes valid)) ∙ e))

-- what an action of its own adds to a transaction
pub record Adds (retires : Bool) (action : Action) (old : ℕ) (tx : Transaction) : Type 0 where
  pub written : written_by (after_action retires action old tx).footprint ≡ stored_with stored (store_of action old) (written_by tx.footprint)
  pub buffers : AreLines (after_action retires action old tx).footprint.write_set
  pub writes : AreWritten (after_action retires action old tx)

adds-nothing : (spans : List Span) (retires : Bool) (action : Action) (old : ℕ) (tx : Transaction) → AreLines tx.footprint.write_set → AreWritten tx
    → store_of action old ≡ None → Adds retires action old tx
adds-nothing spans retires action old tx all written none = record {
  written = rw none (written-quiet retires (touch_of action) tx);
  buffers = rw none (buffers-quiet spans retires (touch_of action) tx all);
  writes = subst (λ (o : Option Store). AreWritten (transaction_after retires (touch_of action) o tx)) (sym none) (writes-quiet retires (touch_of action) tx written);
}

pub adds : (m : ModuleParts) (mem : Memory) (t : ℕ) (stack : CallStack SourceFrame) (retires : Bool) (action : Action) (old : ℕ) (tx : Transaction)
    → failure (frames m) mem.places t stack action ≡ None → AreLines tx.footprint.write_set → AreWritten tx → Adds retires action old tx
adds m mem t stack retires (Write place n atomic) old tx can all written =
    let valid = valid_where_done (frames m) mem t stack (Write place n atomic) can in
    record {
      written = written-stored mem.places retires (touch_at place false true) n tx all refl valid;
      buffers = buffers-stored mem.places retires (touch_at place false true) n tx all valid;
      writes = writes-stored mem.places retires (touch_at place false true) n tx all refl valid written;
    }
adds m mem t stack retires (Update place update) old tx can all written =
    let valid = valid_where_done (frames m) mem t stack (Update place update) can in
    record {
      written = written-stored mem.places retires (touch_at place true true) (updated update old) tx all refl valid;
      buffers = buffers-stored mem.places retires (touch_at place true true) (updated update old) tx all valid;
      writes = writes-stored mem.places retires (touch_at place true true) (updated update old) tx all refl valid written;
    }
adds m mem t stack retires (Read place atomic) old tx can all written = adds-nothing mem.places retires (Read place atomic) old tx all written refl
adds m mem t stack retires (Assign n) old tx can all written = adds-nothing mem.places retires (Assign n) old tx all written refl
adds m mem t stack retires (Reserve n) old tx can all written = adds-nothing mem.places retires (Reserve n) old tx all written refl
adds m mem t stack retires Pass old tx can all written = adds-nothing mem.places retires Pass old tx all written refl
adds m mem t stack retires (Jump n) old tx can all written = adds-nothing mem.places retires (Jump n) old tx all written refl
adds m mem t stack retires (Call n words) old tx can all written = adds-nothing mem.places retires (Call n words) old tx all written refl
adds m mem t stack retires (Ask n) old tx can all written = adds-nothing mem.places retires (Ask n) old tx all written refl
adds m mem t stack retires (Create a n b) old tx can all written = adds-nothing mem.places retires (Create a n b) old tx all written refl
adds m mem t stack retires (Join n) old tx can all written = adds-nothing mem.places retires (Join n) old tx all written refl
adds m mem t stack retires (Exit n) old tx can all written = adds-nothing mem.places retires (Exit n) old tx all written refl
adds m mem t stack retires (Return n) old tx can all written = adds-nothing mem.places retires (Return n) old tx all written refl
adds m mem t stack retires (Fault n) old tx can all written = adds-nothing mem.places retires (Fault n) old tx all written refl

-- ---- how far a thread has got

-- inside: its own turns, and what its beginning kept
pub record Link (m : ModuleParts) (h : HardParts) (sides : Sides) (mem : Memory) (t : ℕ) (x : Thread SourceFrame) (tx : Transaction) (xs : Thread SourceFrame) : Type 0 where
  pub now : Lone
  pub ran : Ran m mem t x tx.pending now
  pub written : now.written ≡ written_by tx.footprint
  pub accessed : AllTouched (Inside tx) now.accessed
  pub held : now.held ≡ tx.held
  pub locked : (a : ℕ) → has now.locked a ≡ true → has tx.watched a ≡ true
  pub buffers : AreLines tx.footprint.write_set
  pub writes : AreWritten tx
  pub kept : (any : Memory) → IsThreadOn m h (back_to tx.struck sides) (Free false) any x (Running tx.kept)
  pub thread : now.thread ≡ xs

-- the source's thread as this one sees it
abbrev pub LinkAt : ModuleParts → HardParts → Sides → Memory → ℕ → Thread SourceFrame → Mode → Thread SourceFrame → Type 0
LinkAt m h sides mem t x (Free plain) xs = x ≡ xs
LinkAt m h sides mem t x (Inside tx) xs = Link m h sides mem t x tx xs

pub in-tx : (m : ModuleParts) (h : HardParts) (sides : Sides) (mem : Memory) (t : ℕ) (x xs : Thread SourceFrame) (y : Thread Frame) (tx : Transaction)
    → Link m h sides mem t x tx xs → IsThreadOn m h sides (Inside tx) (seen_through tx.footprint mem) xs y → InTx m h sides mem t x y tx
in-tx m h sides mem t x xs y tx l point = record {
  kept = l.kept;
  inner = inl (record {
    now = l.now;
    ran = l.ran;
    written = l.written;
    accessed = l.accessed;
    held = l.held;
    locked = l.locked;
    buffers = l.buffers;
    writes = l.writes;
    stands = subst (λ (z : Thread SourceFrame). IsThreadOn m h sides (Inside tx) (seen_through tx.footprint mem) z y) (sym l.thread) point;
  });
}

pub link-of : (m : ModuleParts) (h : HardParts) (sides : Sides) (mem : Memory) (t : ℕ) (x : Thread SourceFrame) (y : Thread Frame) (tx : Transaction)
    → ((any : Memory) → IsThreadOn m h (back_to tx.struck sides) (Free false) any x (Running tx.kept)) → (i : IsInside m h sides mem t x y tx)
    → Link m h sides mem t x tx i.now.thread
link-of m h sides mem t x y tx kept i = record {
  now = i.now;
  ran = i.ran;
  written = i.written;
  accessed = i.accessed;
  held = i.held;
  locked = i.locked;
  buffers = i.buffers;
  writes = i.writes;
  kept = kept;
  thread = refl;
}

pub ok-from : (m : ModuleParts) (h : HardParts) (sides : Sides) (mem : Memory) (t : ℕ) (x xs : Thread SourceFrame) (y : Thread Frame) (mode : Mode)
    → LinkAt m h sides mem t x mode xs → IsThreadOn m h sides mode (seen_in mode mem) xs y → OkIn m h sides mem t x y mode
ok-from m h sides mem t x xs y (Free plain) l point = inl (subst (λ (z : Thread SourceFrame). IsThreadOn m h sides (Free plain) mem z y) (sym l) point)
ok-from m h sides mem t x xs y (Inside tx) l point = in-tx m h sides mem t x xs y tx l point

-- ---- a turn more

-- a pending turn more, by an action that the thread does by itself
pub link-more : (m : ModuleParts) (h : HardParts) (sides : Sides) (mem : Memory) (t : ℕ) (x : Thread SourceFrame) (tx : Transaction) (touch : Option Touch) (store : Option Store)
    (stack : CallStack SourceFrame) (inst : Inst) (action : Action) (old : ℕ)
    → Link m h sides mem t x tx (Running stack) → inst_at m stack.frame ≡ Some inst → action_in m stack.frame inst ≡ action → IsAlone action
    → failure (frames m) mem.places t stack action ≡ None → word_read (seen_through tx.footprint mem) action ≡ old
    → stored_with stored (store_of action old) (written_by tx.footprint) ≡ written_by (transaction_after true touch store tx).footprint
    → Covers (Inside (transaction_after true touch store tx)) (place_of action)
    → AreLines (transaction_after true touch store tx).footprint.write_set → AreWritten (transaction_after true touch store tx)
    → Link m h sides mem t x (transaction_after true touch store tx) (thread_after (frames m) (destination inst) stack action old)
link-more m h sides mem t x tx touch store stack inst action old l stands act by_itself can word same own buffers writes =
    let word' : word_read (view mem l.now.written) (action_in m stack.frame inst) ≡ old =
    ap (λ (f : Written). word_read (view mem f) (action_in m stack.frame inst)) l.written ∙ ap (word_read (seen_through tx.footprint mem)) act ∙ word in
    record {
      now = lone_after m (destination inst) stack action old l.now;
      ran = (
        l.now,
        l.ran,
        ByItself stack inst l.thread stands (subst IsAlone (sym act) by_itself)
            (ap (failure (frames m) mem.places t stack) act ∙ can)
            (sym (ap (λ (n : ℕ). lone_after m (destination inst) stack (action_in m stack.frame inst) n l.now) word'
            ∙ ap (λ (k : Action). lone_after m (destination inst) stack k old l.now) act)),
      );
      written = ap (λ (f : Written). stored_with stored (store_of action old) f) l.written ∙ same;
      accessed = all-more (Inside (transaction_after true touch store tx)) (place_of action) l.now.accessed own
          (all-keep true touch store tx l.now.accessed l.accessed);
      held = l.held;
      locked = l.locked;
      buffers = buffers;
      writes = writes;
      kept = l.kept;
      thread = refl;
    }

-- a call of a mutex that is done by watching
pub link-called : (m : ModuleParts) (h : HardParts) (sides : Sides) (mem : Memory) (t : ℕ) (x : Thread SourceFrame) (tx : Transaction) (stack : CallStack SourceFrame) (inst : Inst)
    (call : MutexCall) → Link m h sides mem t x tx (Running stack) → inst_at m stack.frame ≡ Some inst
    → mutex_call (action_in m stack.frame inst) ≡ Some call → CanCall call tx.held
    → Link m h sides mem t x (transaction_after true None None (watching call tx)) (called (frames m) (destination inst) stack 0)
link-called m h sides mem t x tx stack inst (Locks a) l stands asks can = record {
  now = lone_called m (destination inst) stack (Locks a) l.now;
  ran = (l.now, l.ran, OfMutex stack inst (Locks a) l.thread stands asks (subst (λ (held : List ℕ). has held a ≡ false) (sym l.held) can) refl);
  written = l.written;
  accessed = l.accessed;
  held = ap (λ (held : List ℕ). a ∷ held) l.held;
  locked = λ b e. by_first (nat_eq b a) b refl e (l.locked b);
  buffers = l.buffers;
  writes = l.writes;
  kept = l.kept;
  thread = refl;
}
  where
    by_first : (first : Bool) → (b : ℕ) → nat_eq b a ≡ first → (first || has l.now.locked b) ≡ true → (has l.now.locked b ≡ true → has tx.watched b ≡ true)
        → has (watching (Locks a) tx).watched b ≡ true
    by_first true b g e rest = ap (has (watching (Locks a) tx).watched) (eqb-true b a g) ∙ member-has tx.watched a
    by_first false b g e rest = member-keeps tx.watched a b (rest e)
link-called m h sides mem t x tx stack inst (Unlocks a) l stands asks can = record {
  now = lone_called m (destination inst) stack (Unlocks a) l.now;
  ran = (l.now, l.ran, OfMutex stack inst (Unlocks a) l.thread stands asks (subst (λ (held : List ℕ). has held a ≡ true) (sym l.held) can) refl);
  written = l.written;
  accessed = l.accessed;
  held = ap (λ (held : List ℕ). held_after (Unlocks a) held) l.held;
  locked = l.locked;
  buffers = l.buffers;
  writes = l.writes;
  kept = l.kept;
  thread = refl;
}

-- an access that retires nothing and stores nothing
pub link-quiet : (m : ModuleParts) (h : HardParts) (sides : Sides) (mem : Memory) (t : ℕ) (x xs : Thread SourceFrame) (tx : Transaction) (touch : Option Touch)
    → Link m h sides mem t x tx xs → Link m h sides mem t x (transaction_after false touch None tx) xs
link-quiet m h sides mem t x xs tx touch l = record {
  now = l.now;
  ran = l.ran;
  written = l.written ∙ sym (written-quiet false touch tx);
  accessed = all-keep false touch None tx l.now.accessed l.accessed;
  held = l.held;
  locked = l.locked;
  buffers = buffers-quiet mem.places false touch tx l.buffers;
  writes = writes-quiet false touch tx l.writes;
  kept = l.kept;
  thread = l.thread;
}

-- ---- the next action of the source can be done

last-there : {A : Type 0} (xs : List A) (x : A) → slice_get (xs ++ x ∷ []) (length xs) ≡ Some x
last-there [] x = refl
last-there (y ∷ xs) x = last-there xs x

-- no step of a good program is undefined, wherever it has come to
pub good-step : (m : ModuleParts) (arguments turns : List ℕ) → IsGood m arguments → (u : ℕ) (cause : Cause)
    → (step m (source m arguments turns).state u).1 ≡ Undefined cause → ⊥
good-step m arguments turns good u cause e =
    good.defined (turns ++ u ∷ []) (length (source m arguments turns).answers) cause
    (ap (λ (answers : List Step). slice_get answers (length (source m arguments turns).answers))
    (answers-more m arguments turns u ∙ ap (λ (answer : Step). (source m arguments turns).answers ++ answer ∷ []) e)
    ∙ last-there (source m arguments turns).answers (Undefined cause))

module _ (m : ModuleParts) (h : HardParts) (arguments : List ℕ) (good : IsGood m arguments) (s : SourceState) (turns : List ℕ)
    (state : (source m arguments turns).state ≡ s) (going : s.ended ≡ false) (whole : IsWhole s.process.memory) (t : ℕ) (x : Thread SourceFrame)
    (at : slice_get s.process.threads t ≡ Some x) where
  -- so is no step after turns of a thread alone
  pub good-alone : (n : ℕ) (k : Lone) → AreFree s.process.world.owners k.locked → Ran m s.process.memory t x n k → (u : ℕ) (cause : Cause)
      → (step m (state_at s t k) u).1 ≡ Undefined cause → ⊥
  good-alone n k free ran u cause e =
      let walked : Walked m s t n k = solo m s t x n k at going whole free ran in
      let there : (source m arguments (turns ++ replicate n t)).state ≡ state_at s t k =
      state-append m (opening m arguments) turns (replicate n t) ∙ ap (λ (now : SourceState). (run_from m now (replicate n t)).state) state ∙ walked.state in
      good-step m arguments (turns ++ replicate n t) good u cause (ap (λ (now : SourceState). (step m now u).1) there ∙ e)

  -- an action that the thread does by itself can be done
  pub can-inside : (n : ℕ) (k : Lone) → AreFree s.process.world.owners k.locked → Ran m s.process.memory t x n k → (stack : CallStack SourceFrame) (inst : Inst)
      → k.thread ≡ Running stack → inst_at m stack.frame ≡ Some inst → IsAlone (action_in m stack.frame inst)
      → failure (frames m) s.process.memory.places t stack (action_in m stack.frame inst) ≡ None
  can-inside n k free ran stack inst runs stands by_itself = by_failure (failure (frames m) s.process.memory.places t stack (action_in m stack.frame inst)) refl
    where
      by_failure : (o : Option Cause) → failure (frames m) s.process.memory.places t stack (action_in m stack.frame inst) ≡ o → o ≡ None
      by_failure None e = refl
      by_failure (Some cause) e = absurd (good-alone n k free ran t cause (ap (λ (p : SourceState × Step). p.1) (steps-at m s t x at going whole k stack inst runs stands
          ∙ ap (λ o. settled (state_at s t k) (done (process_at s.process t k) t o))
          (outcome-alone (frames m) (process_at s.process t k) t (destination inst) stack (action_in m stack.frame inst) by_itself
          ∙ ap (λ (o : Option Cause). goes_unless o (effect_alone (frames m) (process_at s.process t k) (destination inst) stack (action_in m stack.frame inst))) e))))
