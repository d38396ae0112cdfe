-- What holds of each thread, outside and inside, hurt or not; what an abort gives back; and what holds of the whole machine.
--
-- Choices: each thread has its own sides; that one at most is hurt need not be known. A hurt thread is at one named side, or lost: only checks
-- come, and one of them fails. What a transaction kept stands over any memory, since a `begin` stands before an image.
use Rattle.std.proofs.Common.{ℕ, ◌≡◌, ◌≢◌, ◌⊎◌, ◌∙◌, ◌+◌, Bool, true, false, ◌||◌, List, [], ◌∷◌, length, Option, Some, None, slice_get, refl, ap, sym, subst, inl, inr}
use Rattle.ir_core.specs.declared.types.Ty.{Ty}
use Rattle.ir_core.specs.declared.types.Ty.TheVariants as types
use Rattle.ir_core.specs.declared.types.Loc.{Loc}
use Rattle.ir_core.specs.declared.types.Width.{Width}
use Rattle.ir_core.specs.declared.types.Width.TheVariants.{W64}
use Rattle.ir_core.specs.declared.values.Val.{Val}
use Rattle.ir_core.specs.declared.values.Val.TheVariants as values
use Rattle.ir_core.specs.Module.{ModuleParts}
use Rattle.ir_layout.specs.Memory.{layout_of, is_valid}
use Rattle.mem_image.specs.Accesses.{bytes}
use Rattle.mem_image.specs.Agreement.{AgreeOn, AgreeOutside}
use Rattle.mem_image.specs.Bytes.{Memory, IsWhole}
use Rattle.mem_image.specs.Lines.{AreLines, line_of}
use Rattle.mem_image.proofs.AccessLines.{same-line}
use Rattle.line_sets.specs.Sets.{has}
use Rattle.rtm_core.specs.Footprint.{written_by, seen_through}
use Rattle.inst_meaning.specs.declared.actions.Place.{Place}
use Rattle.inst_meaning.specs.declared.actions.Action.{Action}
use Rattle.inst_meaning.specs.Action.{place_at}
use Rattle.inst_meaning.specs.Operands.{memory_width, word_at}
use Rattle.inst_meaning.specs.Registers.{get}
use Rattle.process.specs.declared.state.CallStack.{CallStack}
use Rattle.process.specs.declared.state.Thread.{Thread}
use Rattle.process.specs.declared.state.Thread.TheVariants.{Running, Exiting, Ended}
use Rattle.src_meaning.specs.declared.state.Frame.{Frame as SourceFrame}
use Rattle.src_meaning.specs.State.{State as SourceState}
use Rattle.src_meaning.specs.Runs.{source}
use Rattle.hard_ir.specs.declared.instruction.When.TheVariants.{Tx}
use Rattle.hard_ir.specs.declared.instruction.HInst.{HInst}
use Rattle.hard_ir.specs.declared.instruction.HInst.TheVariants.{ChkMem}
use Rattle.hard_ir.specs.EdgeChecks.{edge_check}
use Rattle.hard_ir.specs.Image.{on_shadow}
use Rattle.hard_ir.specs.Hardened.{HardParts}
use Rattle.hard_frames.specs.declared.state.Frame.{Frame}
use Rattle.hard_simulation.specs.Meaning.{AllWent, code_of}
use Rattle.hard_simulation.proofs.Sides.{Sides, Both, IsHurt}
use Rattle.hard_simulation.proofs.Points.{hard_code}
use Rattle.hard_meaning.specs.State.{Transaction, Mode, Free, Inside, Worker, Upset, Struck, State}
use Rattle.hard_meaning.specs.Aborts.{Status, Conflict, Claim, aborted_from, aborted, is_in_the_way, aborted_if, spared}
use Rattle.hard_meaning.specs.Checks.{same_word}
use Rattle.hard_meaning.specs.Records.{carries, struck_in}
use Rattle.tx_simulation.proofs.Owners.{AreFree}
use Rattle.tx_simulation.proofs.Walks.{Lone, Ran, AgreeOnAll, AllValid, frame, ran-valid, same-seen}
use Rattle.tx_simulation.proofs.Points.{wrote, touched, IsStored, checks_onto, IsThreadOn}
use Rattle.tx_simulation.proofs.Lines.{AreApart}
use Rattle.tx_simulation.proofs.Races.{next_of}
use Rattle.tx_simulation.proofs.Again.{AreAlike, stored-again, thread-again}

-- ---- a thread inside

abbrev pub AllTouched : Mode → List Place → Type 0
AllTouched mode [] = Unit {0}
AllTouched mode (place ∷ places) = (touched mode (line_of place.address) ≡ true) × AllTouched mode places

-- what was written lies in lines that were written
abbrev pub AreWritten : Transaction → Type 0
AreWritten tx = (at byte : ℕ) → written_by tx.footprint at ≡ Some byte → wrote (Inside tx) (line_of at) ≡ true

-- its own turns, taken alone over this memory, give its frames, what it wrote and what it holds; their accesses lie in its lines, and what they
-- locked is watched
pub record IsInside (m : ModuleParts) (h : HardParts) (sides : Sides) (mem : Memory) (t : ℕ) (x : Thread SourceFrame) (y : Thread Frame) (tx : Transaction) : Type 0 where
  pub now : Lone
  pub ran : Ran m mem t x tx.pending now
  pub written : now.written ≡ written_by tx.footprint
  pub accessed : AllTouched (Inside tx) now.accessed
  pub held : now.held ≡ tx.held
  pub locked : (a : ℕ) → has now.locked a ≡ true → has tx.watched a ≡ true
  pub buffers : AreLines tx.footprint.write_set
  pub writes : AreWritten tx
  pub stands : IsThreadOn m h sides (Inside tx) (seen_through tx.footprint mem) now.thread y

-- ---- lost threads

-- what is wrong after a store of a wrong word, or at a wrong place
pub data IsWrong (m : ModuleParts) (tx : Transaction) (seen : Memory) (w : Width) (pointers : List (Ty × Val)) (ptr val : Val)
    (masters shadows : List (Option ℕ)) : Type 0 where
  WrongPlace : (reg : Loc) (p s : ℕ) → pointers ≡ (types.Ptr, values.Reg reg) ∷ [] → get masters reg.0 ≡ Some p → get shadows reg.0 ≡ Some s
      → same_word types.Ptr p s ≡ false → IsWrong m tx seen w pointers ptr val masters shadows
  WrongWord : (address n z : ℕ) → word_at (layout_of m) shadows W64 ptr ≡ Some address → word_at (layout_of m) shadows w val ≡ Some n
      → IsStored (Inside tx) seen (place_at address w) z → z ≢ n → IsWrong m tx seen w pointers ptr val masters shadows

-- inside, after such a store: only its late checks come, up to one that fails
pub record IsDoomed (m : ModuleParts) (h : HardParts) (tx : Transaction) (seen : Memory) (y : Thread Frame) : Type 0 where
  pub stack : CallStack Frame
  pub is : y ≡ Running stack
  pub ty : Ty
  pub ptr : Val
  pub val : Val
  pub w : Width
  pub width : memory_width ty ≡ Some w
  pub pointers : List (Ty × Val)
  pub rest : List HInst
  pub code : hard_code h stack.frame ≡ checks_onto Tx pointers (ChkMem ty (on_shadow ptr) (on_shadow val) ∷ rest)
  pub one : (pointers ≡ []) ⊎ (pointers ≡ (types.Ptr, ptr) ∷ [])
  pub wrong : IsWrong m tx seen w pointers ptr val stack.frame.masters stack.frame.shadows

-- in a block that a struck condition led it to: its next instruction is the check of the edge, which fails
pub record IsAstray (h : HardParts) (y : Thread Frame) : Type 0 where
  pub stack : CallStack Frame
  pub is : y ≡ Running stack
  pub name : Loc
  pub rest : List HInst
  pub code : hard_code h stack.frame ≡ edge_check name ∷ rest
  pub p : ℕ
  pub s : ℕ
  pub master : get stack.frame.masters name.0 ≡ Some p
  pub shadow : get stack.frame.shadows name.0 ≡ Some s
  pub differ : p ≢ s
  pub bits : (p ≡ 0) ⊎ (p ≡ 1)
  pub bits' : (s ≡ 0) ⊎ (s ≡ 1)

-- ---- each thread

-- the sides that an abort gives back: those of the beginning, where an upset struck since
abbrev pub back_to : List ℕ → Sides → Sides
back_to [] sides = sides
back_to (k ∷ struck) sides = Both

pub record InTx (m : ModuleParts) (h : HardParts) (sides : Sides) (mem : Memory) (t : ℕ) (x : Thread SourceFrame) (y : Thread Frame) (tx : Transaction) : Type 0 where
  pub kept : (any : Memory) → IsThreadOn m h (back_to tx.struck sides) (Free false) any x (Running tx.kept)
  pub inner : IsInside m h sides mem t x y tx ⊎ (IsHurt sides × (IsDoomed m h tx (seen_through tx.footprint mem) y ⊎ IsAstray h y))

-- the source's thread has not ended
abbrev pub IsGoing : Thread SourceFrame → Type 0
IsGoing (Running a) = Unit {0}
IsGoing (Exiting n) = Unit {0}
IsGoing Ended = ⊥

abbrev pub OkIn : ModuleParts → HardParts → Sides → Memory → ℕ → Thread SourceFrame → Thread Frame → Mode → Type 0
OkIn m h sides mem t x y (Free plain) = IsThreadOn m h sides (Free plain) mem x y ⊎ (IsHurt sides × IsAstray h y × IsGoing x)
OkIn m h sides mem t x y (Inside tx) = InTx m h sides mem t x y tx

-- an upset stands in the thread
pub record IsCarried (w : Worker) : Type 0 where
  pub number : ℕ
  pub carried : carries number w ≡ true

-- a hardened thread stands for a source thread
pub record IsWorker (m : ModuleParts) (h : HardParts) (mem : Memory) (t : ℕ) (x : Thread SourceFrame) (w : Worker) : Type 0 where
  pub sides : Sides
  pub hurt : IsHurt sides → IsCarried w
  pub ok : OkIn m h sides mem t x w.thread w.mode

-- ---- an abort

left-hits : (w : Worker) (tx : Transaction) (status : Status) (sides : Sides) (struck : List ℕ) → tx.struck ≡ struck → w.mode ≡ Inside tx
    → (IsHurt sides → IsCarried w) → IsHurt (back_to struck sides) → IsCarried (aborted_from status w (Inside tx))
left-hits w tx status sides (k ∷ struck) e is hurt z = absurd z
left-hits w tx status sides [] e is hurt z =
    let c = hurt z in
    let f : (has w.hits c.number || has [] c.number) ≡ true = ap (λ (list : List ℕ). has w.hits c.number || has list c.number) (sym e)
    ∙ ap (λ (mode : Mode). has w.hits c.number || has (struck_in mode) c.number) (sym is) ∙ c.carried in
    record { number = c.number; carried = f }

aborted-at : (m : ModuleParts) (h : HardParts) (mem : Memory) (t : ℕ) (x : Thread SourceFrame) (w : Worker) (status : Status) (sides : Sides) (mode : Mode) → w.mode ≡ mode
    → (IsHurt sides → IsCarried w) → OkIn m h sides mem t x w.thread mode → IsWorker m h mem t x (aborted_from status w mode)
aborted-at m h mem t x w status sides (Free plain) e hurt ok =
    record { sides = sides; hurt = hurt; ok = subst (λ (mode : Mode). OkIn m h sides mem t x w.thread mode) (sym e) ok }
aborted-at m h mem t x w status sides (Inside tx) e hurt ok =
    record { sides = back_to tx.struck sides; hurt = left-hits w tx status sides tx.struck refl e hurt; ok = inl (ok.kept mem) }

-- an abort at any moment keeps what holds of a thread
pub worker-aborted : (m : ModuleParts) (h : HardParts) (mem : Memory) (t : ℕ) (x : Thread SourceFrame) (w : Worker) (status : Status) → IsWorker m h mem t x w
    → IsWorker m h mem t x (aborted status w)
worker-aborted m h mem t x w status ok = aborted-at m h mem t x w status ok.sides w.mode refl ok.hurt ok.ok

pub worker-spared : (m : ModuleParts) (h : HardParts) (mem : Memory) (t : ℕ) (x : Thread SourceFrame) (w : Worker) (claim : Claim) → IsWorker m h mem t x w
    → IsWorker m h mem t x (spared claim w)
worker-spared m h mem t x w claim ok = by_test (is_in_the_way claim w.mode)
  where
    by_test : (b : Bool) → IsWorker m h mem t x (aborted_if b w)
    by_test true = worker-aborted m h mem t x w Conflict ok
    by_test false = ok

-- ---- another memory

-- lines that change are none of a thread's
abbrev pub IsClear : (ℕ → Type 0) → Mode → Type 0
IsClear P mode = (line : ℕ) → P line → touched mode line ≡ true → ⊥

-- a memory that is another one in some lines alone
pub record Changes (P : ℕ → Type 0) (a b : Memory) : Type 0 where
  pub places : a.places ≡ b.places
  pub before : IsWhole a
  pub after : IsWhole b
  pub outside : AgreeOutside P a b

pub agree-on : (P : ℕ → Type 0) (a b : Memory) (place : Place) → is_valid a.places place.address (bytes place.size) ≡ true → AgreeOutside P a b
    → (P (line_of place.address) → ⊥) → AgreeOn place.address (bytes place.size) a b
agree-on P a b place valid outside off k below =
    outside (place.address + k) (λ p. off (subst P (same-line a.places place.address (bytes place.size) k valid below) p))

agree-all : (P : ℕ → Type 0) (mode : Mode) (a b : Memory) (places : List Place) → Changes P a b → IsClear P mode → AllValid a.places places
    → AllTouched mode places → AgreeOnAll a b places
agree-all P mode a b [] change clear valid lines = tt
agree-all P mode a b (place ∷ places) change clear valid lines =
    (agree-on P a b place valid.0 change.outside (λ p. clear (line_of place.address) p lines.0), agree-all P mode a b places change clear valid.1 lines.1)

alike-inside : (P : ℕ → Type 0) (tx : Transaction) (next : Option Action) (a b : Memory) → Changes P a b → IsClear P (Inside tx)
    → AreAlike (Inside tx) next (seen_through tx.footprint a) (seen_through tx.footprint b)
alike-inside P tx next a b change clear = record {
  places = change.places;
  words = λ place valid line. same-seen a b (written_by tx.footprint) place change.before valid
      (agree-on P a b place valid change.outside (λ p. clear (line_of place.address) p line));
}

inside-again : (m : ModuleParts) (h : HardParts) (sides : Sides) (P : ℕ → Type 0) (a b : Memory) (t : ℕ) (x : Thread SourceFrame) (y : Thread Frame) (tx : Transaction)
    → Changes P a b → IsClear P (Inside tx) → IsInside m h sides a t x y tx → IsInside m h sides b t x y tx
inside-again m h sides P a b t x y tx change clear o = record {
  now = o.now;
  ran = frame m a b t x tx.pending o.now change.places change.before
      (agree-all P (Inside tx) a b o.now.accessed change clear (ran-valid m a t x tx.pending o.now o.ran) o.accessed) o.ran;
  written = o.written;
  accessed = o.accessed;
  held = o.held;
  locked = o.locked;
  buffers = o.buffers;
  writes = o.writes;
  stands = thread-again m h sides (Inside tx) (seen_through tx.footprint a) (seen_through tx.footprint b) o.now.thread y
      (alike-inside P tx (next_of m o.now.thread) a b change clear) o.stands;
}

wrong-again : (m : ModuleParts) (P : ℕ → Type 0) (a b : Memory) (tx : Transaction) (w : Width) (pointers : List (Ty × Val)) (ptr val : Val) (masters shadows : List (Option ℕ))
    → Changes P a b → IsClear P (Inside tx) → IsWrong m tx (seen_through tx.footprint a) w pointers ptr val masters shadows
    → IsWrong m tx (seen_through tx.footprint b) w pointers ptr val masters shadows
wrong-again m P a b tx w pointers ptr val masters shadows change clear (WrongPlace reg p s e f g ne) = WrongPlace reg p s e f g ne
wrong-again m P a b tx w pointers ptr val masters shadows change clear (WrongWord address n z e f s ne) =
    WrongWord address n z e f (stored-again tx None (seen_through tx.footprint a) (seen_through tx.footprint b) (place_at address w) z
    (alike-inside P tx None a b change clear) s) ne

-- a change of memory in lines that aren't the transaction's keeps what holds inside
pub tx-again : (m : ModuleParts) (h : HardParts) (sides : Sides) (P : ℕ → Type 0) (a b : Memory) (t : ℕ) (x : Thread SourceFrame) (y : Thread Frame) (tx : Transaction)
    → Changes P a b → IsClear P (Inside tx) → InTx m h sides a t x y tx → InTx m h sides b t x y tx
tx-again m h sides P a b t x y tx change clear o = record { kept = o.kept; inner = by_standing o.inner }
  where
    by_standing : IsInside m h sides a t x y tx ⊎ (IsHurt sides × (IsDoomed m h tx (seen_through tx.footprint a) y ⊎ IsAstray h y))
        → IsInside m h sides b t x y tx ⊎ (IsHurt sides × (IsDoomed m h tx (seen_through tx.footprint b) y ⊎ IsAstray h y))
    by_standing (inl i) = inl (inside-again m h sides P a b t x y tx change clear i)
    by_standing (inr (hurt, inl d)) = inr (
      hurt,
      inl (record {
        stack = d.stack;
        is = d.is;
        ty = d.ty;
        ptr = d.ptr;
        val = d.val;
        w = d.w;
        width = d.width;
        pointers = d.pointers;
        rest = d.rest;
        code = d.code;
        one = d.one;
        wrong = wrong-again m P a b tx d.w d.pointers d.ptr d.val d.stack.frame.masters d.stack.frame.shadows change clear d.wrong;
      }),
    )
    by_standing (inr (hurt, inr d)) = inr (hurt, inr d)

-- and outside, where what the next step of the source reads is the same
abbrev pub IsRested : Mode → Option Action → (ℕ → Type 0) → Memory → Memory → Type 0
IsRested (Free plain) next P a b = AreAlike (Free plain) next a b
IsRested (Inside tx) next P a b = IsClear P (Inside tx)

ok-again : (m : ModuleParts) (h : HardParts) (sides : Sides) (P : ℕ → Type 0) (a b : Memory) (t : ℕ) (x : Thread SourceFrame) (y : Thread Frame) (mode : Mode) → Changes P a b
    → IsRested mode (next_of m x) P a b → OkIn m h sides a t x y mode → OkIn m h sides b t x y mode
ok-again m h sides P a b t x y (Free plain) change rested (inl ok) = inl (thread-again m h sides (Free plain) a b x y rested ok)
ok-again m h sides P a b t x y (Free plain) change rested (inr lost) = inr lost
ok-again m h sides P a b t x y (Inside tx) change rested ok = tx-again m h sides P a b t x y tx change rested ok

pub worker-again : (m : ModuleParts) (h : HardParts) (P : ℕ → Type 0) (a b : Memory) (t : ℕ) (x : Thread SourceFrame) (w : Worker) → Changes P a b
    → IsRested w.mode (next_of m x) P a b → IsWorker m h a t x w → IsWorker m h b t x w
worker-again m h P a b t x w change rested ok =
    record { sides = ok.sides; hurt = ok.hurt; ok = ok-again m h ok.sides P a b t x w.thread w.mode change rested ok.ok }

-- ---- the whole machine

abbrev pub mode_of : Option Worker → Mode
mode_of None = Free false
mode_of (Some w) = w.mode

abbrev pub mode_at : List Worker → ℕ → Mode
mode_at workers t = mode_of (slice_get workers t)

-- the mutexes that a thread watches
abbrev pub watched_in : Mode → List ℕ
watched_in (Free plain) = []
watched_in (Inside tx) = tx.watched

-- the upset that it carries struck
abbrev pub AreNamed : List Upset → Worker → Type 0
AreNamed upsets w = (k : ℕ) → carries k w ≡ true → slice_get upsets k ≡ Some Struck

-- the machine that stands for a source state, with these threads, after these turns and upsets
abbrev pub machine_of : SourceState → List Worker → List ℕ → List Upset → State
machine_of s workers turns upsets =
    record { memory = s.process.memory; workers = workers; world = s.process.world; turns = turns; stop = None; upsets = upsets }

-- workers that stand for the source's threads, over its memory and with its owners
pub record AreWorkers (m : ModuleParts) (h : HardParts) (mem : Memory) (owners : List (ℕ × ℕ)) (upsets : List Upset) (xs : List (Thread SourceFrame)) (ws : List Worker) : Type 0 where
  pub count : length ws ≡ length xs
  pub each : (t : ℕ) (x : Thread SourceFrame) (w : Worker) → slice_get xs t ≡ Some x → slice_get ws t ≡ Some w → IsWorker m h mem t x w
  pub apart : (t u : ℕ) → t ≢ u → AreApart (mode_at ws t) (mode_at ws u)
  pub unowned : (t : ℕ) → AreFree owners (watched_in (mode_at ws t))
  pub named : (t : ℕ) (w : Worker) → slice_get ws t ≡ Some w → AreNamed upsets w

pub record Facts (m : ModuleParts) (h : HardParts) (arguments : List ℕ) (s : SourceState) (workers : List Worker) (turns : List ℕ) (upsets : List Upset) : Type 0 where
  pub state : (source m arguments turns).state ≡ s
  pub went : AllWent (source m arguments turns).answers
  pub unended : code_of (source m arguments turns).answers ≡ None
  pub going : s.ended ≡ false
  pub whole : IsWhole s.process.memory
  pub all : AreWorkers m h s.process.memory s.process.world.owners upsets s.process.threads workers
