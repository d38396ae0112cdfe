-- The turns of a run of the hardened machine, event by event; and runs of the source on turns one behind another.
use Rattle.std.proofs.Common.{ℕ, zero, suc, ◌≡◌, ◌∙◌, Bool, true, false, List, [], ◌∷◌, ◌++◌, length, Option, Some, None, refl, ap, sym, slice_get, append-nil, append_assoc}
use Rattle.ir_core.specs.declared.types.Loc.{Loc}
use Rattle.ir_core.specs.Module.{ModuleParts}
use Rattle.inst_meaning.specs.declared.actions.Cause.{Cause}
use Rattle.inst_meaning.specs.Registers.{get}
use Rattle.sched_file.specs.Events.{Happening, TurnOf, AbortOf, UpsetBy}
use Rattle.process.specs.declared.state.Step.{Step}
use Rattle.process.specs.declared.state.Step.TheVariants.{Went, Waits, Idle, Undefined, Ended}
use Rattle.src_meaning.specs.State.{State as SourceState}
use Rattle.src_meaning.specs.Step.{opening, step}
use Rattle.src_meaning.specs.Runs.{run_from, source}
use Rattle.src_meaning.specs.Races.{IsGood}
use Rattle.hard_ir.specs.declared.instruction.HInst.{HInst}
use Rattle.hard_ir.specs.declared.instruction.HInst.TheVariants.{Cut, Begin, End, Tick, Chk, ChkMem, Mov, Do}
use Rattle.hard_ir.specs.Hardened.{HardParts}
use Rattle.hard_frames.specs.declared.outcome.Stop.{Stop}
use Rattle.hard_frames.specs.declared.state.Frame.{Frame}
use Rattle.process.specs.declared.state.CallStack.{CallStack}
use Rattle.process.specs.declared.state.Thread.{Thread}
use Rattle.process.specs.declared.state.Thread.TheVariants.{Running, Exiting, Ended as HasEnded}
use Rattle.process.specs.State.{ProcessParts}
use Rattle.process.specs.Process.{acted}
use Rattle.hard_machine.specs.State.{State}
use Rattle.hard_frames.specs.Code.{inst_at}
use Rattle.hard_frames.specs.Frames.{frames, action_on, destination_on}
use Rattle.hard_machine.specs.Step.{retired, settled, agreed, compared, checked, copied, stepped, fetched, exited, turned, unless_stopped, turn_of}
use Rattle.hard_frames.specs.Orders.{is_active}
use Rattle.hard_machine.specs.Runs.{happened}
use Rattle.hard_simulation.specs.Meaning.{AllWent, code_of, IsUndefinedOn}

-- ---- turns of the hardened machine

-- turns stand as they stood, with others behind them
pub record Grows (s next : State) : Type 0 where
  pub more : List ℕ
  pub is : next.turns ≡ s.turns ++ more

keeps : (s next : State) → next.turns ≡ s.turns → Grows s next
keeps s next e = record { more = []; is = e ∙ sym (append-nil s.turns) }

retired-grows : (s next : State) (retires : Bool) (t : ℕ) → next.turns ≡ s.turns → Grows s (retired retires t next)
retired-grows s next true t e = record { more = t ∷ []; is = ap (λ (turns : List ℕ). turns ++ t ∷ []) e }
retired-grows s next false t e = keeps s next e

settled-grows : (h : HardParts) (s : State) (t : ℕ) (frame : Frame) (retires : Bool) (p : ProcessParts Frame × Step)
    → Grows s (settled h s t frame retires p)
settled-grows h s t frame retires (process, Went) = retired-grows s _ retires t refl
settled-grows h s t frame retires (process, Ended code) = retired-grows s _ retires t refl
settled-grows h s t frame retires (process, Undefined cause) = keeps s _ refl
settled-grows h s t frame retires (process, Waits) = keeps s _ refl
settled-grows h s t frame retires (process, Idle) = keeps s _ refl

agreed-grows : (h : HardParts) (s : State) (t : ℕ) (stack : CallStack Frame) (same : Bool) → Grows s (agreed h s t stack same)
agreed-grows h s t stack true = keeps s _ refl
agreed-grows h s t stack false = keeps s _ refl

compared-grows : (h : HardParts) (s : State) (t : ℕ) (stack : CallStack Frame) (a b : Option ℕ) → Grows s (compared h s t stack a b)
compared-grows h s t stack None b = keeps s _ refl
compared-grows h s t stack (Some a) None = keeps s _ refl
compared-grows h s t stack (Some a) (Some b) = agreed-grows h s t stack _

checked-grows : (h : HardParts) (s : State) (t : ℕ) (stack : CallStack Frame) (reg : Loc) (active : Bool) → Grows s (checked h s t stack reg active)
checked-grows h s t stack reg true = compared-grows h s t stack (get stack.frame.masters reg.0) (get stack.frame.shadows reg.0)
checked-grows h s t stack reg false = keeps s _ refl

copied-grows : (h : HardParts) (s : State) (t : ℕ) (stack : CallStack Frame) (reg : Loc) (word : Option ℕ) → Grows s (copied h s t stack reg word)
copied-grows h s t stack reg None = keeps s _ refl
copied-grows h s t stack reg (Some n) = keeps s _ refl

stepped-grows : (h : HardParts) (s : State) (t : ℕ) (stack : CallStack Frame) (inst : HInst) → Grows s (stepped h s t stack inst)
stepped-grows h s t stack (Do side inst retires) =
    settled-grows h s t stack.frame retires (acted (frames h) s.process t (destination_on side inst) stack (action_on h side stack.frame inst))
stepped-grows h s t stack (Chk when ty reg) = checked-grows h s t stack reg (is_active when)
stepped-grows h s t stack (Mov ty reg) = copied-grows h s t stack reg (get stack.frame.masters reg.0)
stepped-grows h s t stack Cut = keeps s _ refl
stepped-grows h s t stack Begin = keeps s _ refl
stepped-grows h s t stack End = keeps s _ refl
stepped-grows h s t stack (Tick work) = keeps s _ refl
stepped-grows h s t stack (ChkMem ty ptr val) = keeps s _ refl

fetched-grows : (h : HardParts) (s : State) (t : ℕ) (stack : CallStack Frame) (inst : Option HInst) → Grows s (fetched h s t stack inst)
fetched-grows h s t stack None = keeps s _ refl
fetched-grows h s t stack (Some inst) = stepped-grows h s t stack inst

exited-grows : (s : State) (t n : ℕ) → Grows s (exited s t n)
exited-grows s zero n = retired-grows s _ true zero refl
exited-grows s (suc t) n = retired-grows s _ true (suc t) refl

turned-grows : (h : HardParts) (s : State) (t : ℕ) (thread : Option (Thread Frame)) → Grows s (turned h s t thread)
turned-grows h s t None = keeps s s refl
turned-grows h s t (Some HasEnded) = keeps s s refl
turned-grows h s t (Some (Exiting n)) = exited-grows s t n
turned-grows h s t (Some (Running stack)) = fetched-grows h s t stack (inst_at h stack.frame)

unless_stopped-grows : (stop : Option Stop) (s next : State) → Grows s next → Grows s (unless_stopped stop s next)
unless_stopped-grows None s next grows = grows
unless_stopped-grows (Some stop) s next grows = keeps s s refl

turn-grows : (h : HardParts) (s : State) (t : ℕ) → Grows s (turn_of h s t)
turn-grows h s t = unless_stopped-grows s.stop s _ (turned-grows h s t (slice_get s.process.threads t))

pub turns-grow : (h : HardParts) (s : State) (event : Happening) → Grows s (happened h s event)
turns-grow h s (TurnOf thread) = turn-grows h s thread.0
turns-grow h s (AbortOf thread) = keeps s s refl
turns-grow h s (UpsetBy upset) = keeps s s refl

-- ---- runs of the source

-- a run on turns, and then on others
pub state-append : (m : ModuleParts) (s : SourceState) (front rest : List ℕ)
    → (run_from m s (front ++ rest)).state ≡ (run_from m (run_from m s front).state rest).state
state-append m s [] rest = refl
state-append m s (t ∷ front) rest = state-append m (step m s t).0 front rest

pub answers-append : (m : ModuleParts) (s : SourceState) (front rest : List ℕ)
    → (run_from m s (front ++ rest)).answers ≡ (run_from m s front).answers ++ (run_from m (run_from m s front).state rest).answers
answers-append m s [] rest = refl
answers-append m s (t ∷ front) rest = ap (λ (answers : List Step). (step m s t).1 ∷ answers) (answers-append m (step m s t).0 front rest)

-- a run with one turn more
pub state-more : (m : ModuleParts) (arguments turns : List ℕ) (t : ℕ)
    → (source m arguments (turns ++ t ∷ [])).state ≡ (step m (source m arguments turns).state t).0
state-more m arguments turns t = state-append m (opening m arguments) turns (t ∷ [])

pub answers-more : (m : ModuleParts) (arguments turns : List ℕ) (t : ℕ)
    → (source m arguments (turns ++ t ∷ [])).answers ≡ (source m arguments turns).answers ++ (step m (source m arguments turns).state t).1 ∷ []
answers-more m arguments turns t = answers-append m (opening m arguments) turns (t ∷ [])

-- ---- answers

-- so far no answer was Ended, and another one follows
pub went-more : (answers : List Step) → AllWent answers → code_of answers ≡ None → AllWent (answers ++ Went ∷ [])
went-more [] went none = tt
went-more (Went ∷ answers) went none = went-more answers went none
went-more (Ended code ∷ []) went none = absurd cc
went-more (Ended code ∷ answer ∷ answers) went none = absurd cc
went-more (Waits ∷ answers) went none = absurd went
went-more (Idle ∷ answers) went none = absurd went
went-more (Undefined cause ∷ answers) went none = absurd went

pub ended-more : (answers : List Step) (code : ℕ) → AllWent answers → code_of answers ≡ None → AllWent (answers ++ Ended code ∷ [])
ended-more [] code went none = refl
ended-more (Went ∷ answers) code went none = ended-more answers code went none
ended-more (Ended other ∷ []) code went none = absurd cc
ended-more (Ended other ∷ answer ∷ answers) code went none = absurd cc
ended-more (Waits ∷ answers) code went none = absurd went
ended-more (Idle ∷ answers) code went none = absurd went
ended-more (Undefined cause ∷ answers) code went none = absurd went

pub code-went : (answers : List Step) → AllWent answers → code_of answers ≡ None → code_of (answers ++ Went ∷ []) ≡ None
code-went [] went none = refl
code-went (Went ∷ answers) went none = code-went answers went none
code-went (Ended code ∷ []) went none = absurd cc
code-went (Ended code ∷ answer ∷ answers) went none = absurd cc
code-went (Waits ∷ answers) went none = absurd went
code-went (Idle ∷ answers) went none = absurd went
code-went (Undefined cause ∷ answers) went none = absurd went

pub code-ended : (answers : List Step) (code : ℕ) → AllWent answers → code_of answers ≡ None → code_of (answers ++ Ended code ∷ []) ≡ Some code
code-ended [] code went none = refl
code-ended (Went ∷ answers) code went none = code-ended answers code went none
code-ended (Ended other ∷ []) code went none = absurd cc
code-ended (Ended other ∷ answer ∷ answers) code went none = absurd cc
code-ended (Waits ∷ answers) code went none = absurd went
code-ended (Idle ∷ answers) code went none = absurd went
code-ended (Undefined cause ∷ answers) code went none = absurd went

-- the answers of a front are some of all answers
pub went-front : (front rest : List Step) → AllWent (front ++ rest) → AllWent front
went-front [] rest went = tt
went-front (Went ∷ front) rest went = went-front front rest went
went-front (Ended code ∷ []) rest went = refl
went-front (Ended code ∷ answer ∷ front) rest went = absurd cc
went-front (Waits ∷ front) rest went = absurd went
went-front (Idle ∷ front) rest went = absurd went
went-front (Undefined cause ∷ front) rest went = absurd went

-- ---- undefined steps

-- the next step of a thread is undefined behind turns that all went
pub undefined-now : (m : ModuleParts) (arguments turns : List ℕ) (t : ℕ) (cause : Cause) → AllWent (source m arguments turns).answers
    → (step m (source m arguments turns).state t).1 ≡ Undefined cause → IsUndefinedOn m arguments turns
undefined-now m arguments turns t cause went e = record {
  front = turns;
  rest = [];
  whole = sym (append-nil turns);
  went = went;
  thread = t;
  cause = cause;
  undefined = e;
}

-- and so it stays on more turns
pub undefined-more : (m : ModuleParts) (arguments turns more : List ℕ) → IsUndefinedOn m arguments turns → IsUndefinedOn m arguments (turns ++ more)
undefined-more m arguments turns more u = record {
  front = u.front;
  rest = u.rest ++ more;
  whole = ap (λ (turns : List ℕ). turns ++ more) u.whole ∙ append_assoc u.front u.rest more;
  went = u.went;
  thread = u.thread;
  cause = u.cause;
  undefined = u.undefined;
}

-- an answer more stands behind the others
last-stands : (answers : List Step) (answer : Step) → slice_get (answers ++ answer ∷ []) (length answers) ≡ Some answer
last-stands [] answer = refl
last-stands (first ∷ answers) answer = last-stands answers answer

-- a good program is undefined on no turns
pub never-undefined : (m : ModuleParts) (arguments turns : List ℕ) → IsGood m arguments → IsUndefinedOn m arguments turns → ⊥
never-undefined m arguments turns good u =
    let before = (source m arguments u.front).answers in
    let all : (source m arguments (u.front ++ u.thread ∷ [])).answers ≡ before ++ Undefined u.cause ∷ [] =
    answers-more m arguments u.front u.thread ∙ ap (λ (answer : Step). before ++ answer ∷ []) u.undefined in
    let last = ap (λ (answers : List Step). slice_get answers (length before)) all ∙ last-stands before (Undefined u.cause) in
    good.defined (u.front ++ u.thread ∷ []) (length before) u.cause last
