-- Every step of an accepted module keeps its threads at places to which routes lead, with words for what is assigned on them.
use Rattle.std.proofs.Common.{ℕ, zero, suc, ◌≡◌, ◌∙◌, inl, inr, Bool, true, false, List, [], ◌∷◌, ◌++◌, length, slice_get, slice_set, Option, Some, None, refl, ap, sym, subst}
use Rattle.std.specs.Prelude.{nat_lt, unwrap_or}
use Rattle.std.specs.Option.{option_map, option_map_or, option_and_then}
use Rattle.ir_core.proofs.Lengths.{both_true}
use Rattle.ir_core.specs.declared.types.Loc.{Loc}
use Rattle.ir_core.specs.declared.instruction.Inst.{Inst}
use Rattle.ir_core.specs.declared.instruction.Block.{Block}
use Rattle.ir_core.specs.Module.{ModuleParts, FuncParts}
use Rattle.ir_layout.specs.declared.spans.Span.{Span}
use Rattle.ir_layout.specs.Memory.{layout_of, is_valid, thread_limit}
use Rattle.ir_flow.specs.Edges.{number_of}
use Rattle.ir_flow.specs.Paths.{is_reg, body_of}
use Rattle.ir_check.specs.Functions.{is_empty, is_main}
use Rattle.ir_check.specs.Faults.{IsAccepted}
use Rattle.inst_meaning.specs.declared.actions.Cause.{Cause}
use Rattle.inst_meaning.specs.declared.actions.Reply.{Reply}
use Rattle.inst_meaning.specs.declared.actions.Reply.TheVariants.{Answers, Waits as MustWait, Refuses}
use Rattle.inst_meaning.specs.declared.actions.Action.{Action}
use Rattle.inst_meaning.specs.declared.actions.Action.TheVariants.{Assign, Reserve, Read, Write, Update, Pass, Jump, Call, Ask, Create, Join, Exit, Return, Fault}
use Rattle.inst_meaning.specs.Action.{destination}
use Rattle.inst_meaning.specs.Accesses.{word_read}
use Rattle.inst_meaning.specs.Phis.{phis_of, phi_words, assigned}
use Rattle.inst_meaning.specs.World.{WorldParts, asked_of}
use Rattle.src_meaning.specs.declared.state.Frame.{Frame}
use Rattle.process.specs.declared.state.CallStack.{CallStack}
use Rattle.process.specs.declared.state.Thread.{Thread}
use Rattle.process.specs.declared.state.Thread.TheVariants.{Running, Exiting, Ended as HasEnded}
use Rattle.process.specs.declared.state.Step.{Step}
use Rattle.process.specs.State.{ProcessParts}
use Rattle.process.specs.Outcome.{Outcome, Goes, Waits, Faults, Ends, failure, thread_after, returned, alone, goes_unless, effect_alone, called, replied, created, joined, outcome_of}
use Rattle.process.specs.Process.{applied, done}
use Rattle.process_laws.specs.Alone.{IsAlone}
use Rattle.src_meaning.specs.State.{State, blocks_at, inst_at, main_of}
use Rattle.src_meaning.specs.Step.{landed, land, jump_from, jump_in, jumped, resumed, frames, opening, action_in, settled, fetched, exited, turned, unless_ended, step}
use Rattle.src_meaning.specs.Runs.{run_from, source}
use Rattle.ir_check.proofs.Members.{of-append, of-set, any-position, at-position}
use Rattle.src_laws.proofs.Words.{assigned-keeps, assigned-there}
use Rattle.src_laws.proofs.Accepted.{inst-calls, main-there}
use Rattle.src_laws.proofs.Callees.{Enters}
use Rattle.src_laws.proofs.Suits.{GoesOn, HasNoResult, JumpsTo, Suits, action-suits}
use Rattle.src_laws.proofs.Placed.{IsPlaced, in-block, behind, beyond, entered}

abbrev pub IsGood : ModuleParts → Frame → Type 0
IsGood m frame = IsPlaced m frame.function frame.block frame.index frame.registers

-- whatever word it waits for comes
abbrev pub AreWaiting : ModuleParts → List Frame → Type 0
AreWaiting m [] = Unit {0}
AreWaiting m (caller ∷ callers) = ((n : ℕ) → IsGood m (resumed n caller)) × AreWaiting m callers

abbrev pub IsSound : ModuleParts → Thread Frame → Type 0
IsSound m (Running stack) = IsGood m stack.frame × AreWaiting m stack.callers
IsSound m (Exiting n) = Unit {0}
IsSound m HasEnded = Unit {0}

abbrev pub AllSound : ModuleParts → List (Thread Frame) → Type 0
AllSound m threads = (t : ℕ) (thread : Thread Frame) → slice_get threads t ≡ Some thread → IsSound m thread

-- ---- where a frame stands

pub blocks-are : (m : ModuleParts) (frame : Frame) (good : IsGood m frame) → blocks_at m.funcs frame.function ≡ good.f.blocks
blocks-are m frame good = ap (λ (o : Option FuncParts). option_map_or (λ (f : FuncParts). f.blocks) o []) good.stands

pub at-place : (m : ModuleParts) (frame : Frame) (good : IsGood m frame) → inst_at m frame ≡ slice_get (body_of good.f.blocks frame.block) frame.index
at-place m frame good = ap (λ (blocks : List Block). slice_get (body_of blocks frame.block) frame.index) (blocks-are m frame good)

-- ---- one instruction is done

module _ (m : ModuleParts) (accepted : IsAccepted m) (frame : Frame) (inst : Inst) (good : IsGood m frame) (at : slice_get (body_of good.f.blocks frame.block) frame.index ≡ Some inst) where
  -- its result goes to its register
  result-good : (n : ℕ) → GoesOn inst → IsPlaced m frame.function frame.block (suc frame.index) (assigned (destination inst) n frame.registers)
  result-good n goes =
      behind m frame.function frame.block frame.index frame.registers (assigned (destination inst) n frame.registers) inst good accepted at goes.0 (assigned-keeps (destination inst) n frame.registers)
      (λ reg e. assigned-there (destination inst) n frame.registers reg (subst (λ (o : Option Loc). is_reg reg o ≡ true) goes.1 e))

  -- it has none
  pass-good : HasNoResult inst → IsPlaced m frame.function frame.block (suc frame.index) frame.registers
  pass-good none =
      subst (λ (o : Option Loc). IsPlaced m frame.function frame.block (suc frame.index) (assigned o 0 frame.registers)) none.1 (result-good 0 none.0)

  jump-good : (label : Loc) (next : Frame) → JumpsTo inst label → jumped m frame label ≡ Some next → IsGood m next
  jump-good label next jumps e =
      by_block (slice_get good.f.blocks frame.block) (subst (λ (blocks : List Block). jump_in (layout_of m) blocks frame label ≡ Some next) (blocks-are m frame good) e)
    where
      by_words : (from target : Block) (k : ℕ) (o : Option (List (Loc × ℕ))) → number_of good.f.blocks label ≡ Some k
          → slice_get good.f.blocks k ≡ Some target → phi_words (layout_of m) frame.registers from.label (phis_of target.insts) ≡ o
          → option_map (landed frame k target) o ≡ Some next → IsGood m next
      by_words from target k None number there words f = cc
      by_words from target k (Some taken) number there words f =
          let same : landed frame k target taken ≡ next = cc in
          subst (IsGood m) same (beyond m frame.function frame.block frame.index k (layout_of m) frame.registers inst label from.label target taken good accepted at jumps number there words)

      by_target : (from : Block) (k : ℕ) (o : Option Block) → number_of good.f.blocks label ≡ Some k → slice_get good.f.blocks k ≡ o
          → option_and_then (land (layout_of m) frame from k) o ≡ Some next → IsGood m next
      by_target from k None number there f = cc
      by_target from k (Some target) number there f = by_words from target k (phi_words (layout_of m) frame.registers from.label (phis_of target.insts)) number there refl f

      by_number : (from : Block) (o : Option ℕ) → number_of good.f.blocks label ≡ o
          → option_and_then (λ n. option_and_then (land (layout_of m) frame from n) (slice_get good.f.blocks n)) o ≡ Some next → IsGood m next
      by_number from None number f = cc
      by_number from (Some k) number f = by_target from k (slice_get good.f.blocks k) number refl f

      by_block : (o : Option Block) → option_and_then (jump_from (layout_of m) good.f.blocks frame label) o ≡ Some next → IsGood m next
      by_block None f = cc
      by_block (Some from) f = by_number from (number_of good.f.blocks label) refl f

failed : (m : ModuleParts) (places : List Span) (t : ℕ) (stack : CallStack Frame) (label : Loc) → failure (frames m) places t stack (Jump label) ≡ None
    → (next : Frame) × (jumped m stack.frame label ≡ Some next)
failed m places t stack label e = by_frame (jumped m stack.frame label) refl
  where
    by_frame : (o : Option Frame) → jumped m stack.frame label ≡ o → (next : Frame) × (o ≡ Some next)
    by_frame None f = absurd (let clash : Some _ ≡ None = rw f at e in cc)
    by_frame (Some next) f = (next, refl)

returned-sound : (m : ModuleParts) (n mark : ℕ) (callers : List Frame) → AreWaiting m callers → IsSound m (returned (frames m) n mark callers)
returned-sound m n mark [] waiting = tt
returned-sound m n mark (caller ∷ callers) waiting = (waiting.0 n, waiting.1)

-- the thread that did an action alone
alone-sound : (m : ModuleParts) (places : List Span) (t : ℕ) (stack : CallStack Frame) (inst : Inst) (action : Action) (old : ℕ) → IsAccepted m
    → (sound : IsSound m (Running stack)) → slice_get (body_of sound.0.f.blocks stack.frame.block) stack.frame.index ≡ Some inst → Suits m inst action
    → IsAlone action
    → failure (frames m) places t stack action ≡ None → IsSound m (thread_after (frames m) (destination inst) stack action old)
alone-sound m places t stack inst (Assign n) old accepted sound at suits alone done =
    (result-good m accepted stack.frame inst sound.0 at n suits, sound.1)
alone-sound m places t stack inst (Reserve size) old accepted sound at suits alone done =
    (result-good m accepted stack.frame inst sound.0 at _ suits, sound.1)
alone-sound m places t stack inst (Read place atomic) old accepted sound at suits alone done =
    (result-good m accepted stack.frame inst sound.0 at old suits, sound.1)
alone-sound m places t stack inst (Write place n atomic) old accepted sound at suits alone done =
    (pass-good m accepted stack.frame inst sound.0 at suits, sound.1)
alone-sound m places t stack inst (Update place update) old accepted sound at suits alone done =
    (result-good m accepted stack.frame inst sound.0 at _ suits, sound.1)
alone-sound m places t stack inst Pass old accepted sound at suits alone done = (pass-good m accepted stack.frame inst sound.0 at suits, sound.1)
alone-sound m places t stack inst (Jump label) old accepted sound at suits alone done =
    let next = failed m places t stack label done in
    let there : unwrap_or (jumped m stack.frame label) stack.frame ≡ next.0 = ap (λ (o : Option Frame). unwrap_or o stack.frame) next.1 in
    (subst (IsGood m) (sym there) (jump-good m accepted stack.frame inst sound.0 at label next.0 suits next.1), sound.1)
alone-sound m places t stack inst (Call n words) old accepted sound at suits alone done =
    (entered m n words accepted suits.1, (λ word. result-good m accepted stack.frame inst sound.0 at word suits.0, sound.1))
alone-sound m places t stack inst (Ask request) old accepted sound at suits alone done = absurd alone
alone-sound m places t stack inst (Create address n argument) old accepted sound at suits alone done = absurd alone
alone-sound m places t stack inst (Join other) old accepted sound at suits alone done = absurd alone
alone-sound m places t stack inst (Exit code) old accepted sound at suits alone done = absurd alone
alone-sound m places t stack inst (Return n) old accepted sound at suits alone done = returned-sound m n stack.frame.mark stack.callers sound.1
alone-sound m places t stack inst (Fault cause) old accepted sound at suits alone done = cc

-- ---- states

set-sound : (m : ModuleParts) (t : ℕ) (thread : Thread Frame) (threads : List (Thread Frame)) → AllSound m threads → IsSound m thread
    → AllSound m (slice_set threads t thread)
set-sound m t thread threads all sound k other at =
    elim (of-set thread other t threads (k, at)) as (λ _. IsSound m other) [ inl e ↦ subst (IsSound m) e sound | inr h ↦ all h.0 other h.1 ]

one-sound : (m : ModuleParts) (thread : Thread Frame) → IsSound m thread → AllSound m (thread ∷ [])
one-sound m thread sound zero other at = let same : thread ≡ other = cc in subst (IsSound m) same sound
one-sound m thread sound (suc k) other at = cc

more-sound : (m : ModuleParts) (threads : List (Thread Frame)) (thread : Thread Frame) → AllSound m threads → IsSound m thread → AllSound m (threads ++ thread ∷ [])
more-sound m threads thread all sound k other at =
    elim (of-append other threads (thread ∷ []) (k, at)) as (λ _. IsSound m other) [ inl h ↦ all h.0 other h.1 | inr h ↦ one-sound m thread sound h.0 other h.1 ]

module _ (m : ModuleParts) (p : ProcessParts Frame) (t : ℕ) (stack : CallStack Frame) (inst : Inst) (accepted : IsAccepted m) (all : AllSound m p.threads) (sound : IsSound m (Running stack)) (at : slice_get (body_of sound.0.f.blocks stack.frame.block) stack.frame.index ≡ Some inst) where
  -- an external has answered
  call-sound : (n : ℕ) → GoesOn inst → AllSound m (slice_set p.threads t (called (frames m) (destination inst) stack n))
  call-sound n goes = set-sound m t _ p.threads all (result-good m accepted stack.frame inst sound.0 at n goes, sound.1)

  alone-step : (action : Action) → Suits m inst action → IsAlone action
      → AllSound m (applied p t (alone (frames m) p t (destination inst) stack action)).threads
  alone-step action suits by_itself = by_cause (failure (frames m) p.memory.places t stack action) refl
    where
      by_cause : (o : Option Cause) → failure (frames m) p.memory.places t stack action ≡ o
          → AllSound m (applied p t (goes_unless o (effect_alone (frames m) p (destination inst) stack action))).threads
      by_cause None e = set-sound m t _ p.threads all
          (alone-sound m p.memory.places t stack inst action (word_read p.memory action) accepted sound at suits by_itself e)
      by_cause (Some cause) e = all

  replied-step : (world : WorldParts) (reply : Reply) → GoesOn inst
      → AllSound m (applied p t (replied (frames m) p (destination inst) stack world reply)).threads
  replied-step world (Answers n) goes = call-sound n goes
  replied-step world MustWait goes = all
  replied-step world (Refuses cause) goes = all

  created-step : (address n argument : ℕ) (room valid : Bool) → GoesOn inst → Enters m n 1
      → AllSound m (applied p t (created (frames m) p (destination inst) stack address n argument room valid)).threads
  created-step address n argument true true goes enters = more-sound m _ _ (call-sound 0 goes) (entered m n (argument ∷ []) accepted enters, tt)
  created-step address n argument true false goes enters = all
  created-step address n argument false valid goes enters = call-sound 11 goes

  joined-step : (o : Option (Thread Frame)) → GoesOn inst → AllSound m (applied p t (joined (frames m) p (destination inst) stack o)).threads
  joined-step None goes = all
  joined-step (Some HasEnded) goes = call-sound 0 goes
  joined-step (Some (Running other)) goes = all
  joined-step (Some (Exiting n)) goes = all

  acted-step : (action : Action) → Suits m inst action → AllSound m (applied p t (outcome_of (frames m) p t (destination inst) stack action)).threads
  acted-step (Assign n) suits = alone-step (Assign n) suits tt
  acted-step (Reserve size) suits = alone-step (Reserve size) suits tt
  acted-step (Read place atomic) suits = alone-step (Read place atomic) suits tt
  acted-step (Write place n atomic) suits = alone-step (Write place n atomic) suits tt
  acted-step (Update place update) suits = alone-step (Update place update) suits tt
  acted-step Pass suits = alone-step Pass suits tt
  acted-step (Jump label) suits = alone-step (Jump label) suits tt
  acted-step (Call n words) suits = alone-step (Call n words) suits tt
  acted-step (Ask request) suits = replied-step (asked_of request t p.world).0 (asked_of request t p.world).1 suits
  acted-step (Create address n argument) suits =
      created-step address n argument (nat_lt (length p.threads) thread_limit) (is_valid p.memory.places address 8) suits.0 suits.1
  acted-step (Join other) suits = joined-step (slice_get p.threads other) suits
  acted-step (Exit code) suits = all
  acted-step (Return n) suits = alone-step (Return n) suits tt
  acted-step (Fault cause) suits = alone-step (Fault cause) suits tt

settled-sound : (m : ModuleParts) (s : State) (t : ℕ) (outcome : Outcome Frame) → AllSound m s.process.threads → AllSound m (applied s.process t outcome).threads
    → AllSound m (settled s (done s.process t outcome)).0.process.threads
settled-sound m s t (Goes effect) all after = after
settled-sound m s t Waits all after = all
settled-sound m s t (Faults cause) all after = all
settled-sound m s t (Ends code) all after = all

fetched-step : (m : ModuleParts) (s : State) (t : ℕ) (stack : CallStack Frame) (o : Option Inst) → IsAccepted m → AllSound m s.process.threads
    → IsSound m (Running stack) → inst_at m stack.frame ≡ o → AllSound m (fetched m s t stack o).0.process.threads
fetched-step m s t stack None accepted all sound e = all
fetched-step m s t stack (Some inst) accepted all sound e =
    let at : slice_get (body_of sound.0.f.blocks stack.frame.block) stack.frame.index ≡ Some inst = sym (at-place m stack.frame sound.0) ∙ e in
    let in_block = in-block sound.0.f.blocks stack.frame.block stack.frame.index inst at in
    let keeps = inst-calls m stack.frame.function stack.frame.block stack.frame.index sound.0.f in_block.block inst accepted sound.0.stands in_block.there in_block.at in
    let action = action_in m stack.frame inst in
    settled-sound m s t (outcome_of (frames m) s.process t (destination inst) stack action) all
    (acted-step m s.process t stack inst accepted all sound at action (action-suits m (layout_of m) stack.frame.registers inst accepted keeps).suits)

exited-step : (m : ModuleParts) (s : State) (t n : ℕ) → AllSound m s.process.threads → AllSound m (exited s t n).0.process.threads
exited-step m s zero n all = all
exited-step m s (suc t) n all = set-sound m (suc t) HasEnded s.process.threads all tt

turned-step : (m : ModuleParts) (s : State) (t : ℕ) (o : Option (Thread Frame)) → IsAccepted m → AllSound m s.process.threads → slice_get s.process.threads t ≡ o
    → AllSound m (turned m s t o).0.process.threads
turned-step m s t None accepted all e = all
turned-step m s t (Some HasEnded) accepted all e = all
turned-step m s t (Some (Exiting n)) accepted all e = exited-step m s t n all
turned-step m s t (Some (Running stack)) accepted all e = fetched-step m s t stack (inst_at m stack.frame) accepted all (all t (Running stack) e) refl

unless_ended-step : (m : ModuleParts) (over : Bool) (s : State) (next : State × Step) → AllSound m s.process.threads → AllSound m next.0.process.threads
    → AllSound m (unless_ended over s next).0.process.threads
unless_ended-step m true s next all after = all
unless_ended-step m false s next all after = after

step-sound : (m : ModuleParts) (s : State) (t : ℕ) → IsAccepted m → AllSound m s.process.threads → AllSound m (step m s t).0.process.threads
step-sound m s t accepted all =
    unless_ended-step m s.ended s (turned m s t (slice_get s.process.threads t)) all (turned-step m s t (slice_get s.process.threads t) accepted all refl)

-- ---- runs

no-params : {A : Type 0} (xs : List A) → is_empty xs ≡ true → 0 ≡ length xs
no-params [] e = refl
no-params (x ∷ xs) e = cc

pub main-enters : (m : ModuleParts) → IsAccepted m → Enters m (main_of m) 0
main-enters m accepted =
    let place = any-position (is_main m) m.funcs (main-there m accepted) in
    let found = at-position (is_main m) m.funcs place.0 place.1 in
    let number : main_of m ≡ place.0 = ap (λ (o : Option ℕ). unwrap_or o 0) place.1 in
    record {
      f = found.0;
      stands = ap (slice_get m.funcs) number ∙ found.1;
      params = no-params found.0.params (both_true _ (is_empty found.0.params) found.2).1;
    }

opening-sound : (m : ModuleParts) (arguments : List ℕ) → IsAccepted m → AllSound m (opening m arguments).process.threads
opening-sound m arguments accepted = one-sound m _ (entered m (main_of m) [] accepted (main-enters m accepted), tt)

run-sound : (m : ModuleParts) (s : State) (turns : List ℕ) → IsAccepted m → AllSound m s.process.threads → AllSound m (run_from m s turns).state.process.threads
run-sound m s [] accepted all = all
run-sound m s (t ∷ turns) accepted all = run-sound m (step m s t).0 turns accepted (step-sound m s t accepted all)

pub source-sound : (m : ModuleParts) (arguments turns : List ℕ) → IsAccepted m → AllSound m (source m arguments turns).state.process.threads
source-sound m arguments turns accepted = run-sound m (opening m arguments) turns accepted (opening-sound m arguments accepted)
