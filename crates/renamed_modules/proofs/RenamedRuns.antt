-- Runs of a module under other numbers: the same answers, outputs and codes at the same turns, and the same accesses, so the same races.
use Rattle.std.proofs.Common.{ℕ, zero, suc, ◌≡◌, ◌∙◌, Bool, true, false, List, [], ◌∷◌, map, find, length, Option, Some, None, slice_get, refl, ap, sym as flip, subst}
use Rattle.std.specs.Prelude.{nat_lt}
use Rattle.std.specs.Option.{option_map, option_map_or}
use Rattle.std.proofs.lemmas.Option.{slice_get-map}
use Rattle.ir_core.specs.declared.types.Loc.{Loc}
use Rattle.ir_core.specs.declared.instruction.Inst.{Inst}
use Rattle.ir_core.specs.declared.instruction.Inst.TheVariants as insts
use Rattle.ir_core.specs.declared.instruction.Block.{Block}
use Rattle.ir_core.specs.Module.{ModuleParts}
use Rattle.ir_layout.specs.Memory.{LayoutParts, layout_of, stacks_start, heap_start}
use Rattle.ir_numbering.specs.Renaming.{Renaming, renamed_loc, renamed_inst, renamed_block}
use Rattle.mem_image.specs.Accesses.{bytes}
use Rattle.mem_image.specs.Bytes.{Memory}
use Rattle.mem_image.specs.Touches.{Store, memory_with}
use Rattle.mem_image.specs.Opening.{opening as opening_memory}
use Rattle.inst_meaning.specs.declared.actions.Action.{Action}
use Rattle.inst_meaning.specs.declared.actions.Action.TheVariants.{Assign, Reserve, Read, Write, Update, Pass, Jump, Call, Ask, Create, Join, Exit, Return, Fault}
use Rattle.inst_meaning.specs.Accesses.{access_of}
use Rattle.inst_meaning.specs.Action.{action_of, callees_of, destination}
use Rattle.inst_meaning.specs.World.{WorldParts}
use Rattle.process.specs.Frames.{Frames}
use Rattle.process.specs.State.{ProcessParts, new_thread, stack_start}
use Rattle.process.specs.declared.state.CallStack.{CallStack}
use Rattle.process.specs.declared.state.Thread.{Thread}
use Rattle.process.specs.declared.state.Thread.TheVariants.{Running, Exiting, Ended as HasEnded}
use Rattle.process.specs.declared.state.Step.{Step}
use Rattle.process.specs.Outcome.{Outcome, outcome_of}
use Rattle.process.specs.Process.{done}
use Rattle.process_laws.proofs.Likeness as likeness
use Rattle.process_laws.proofs.Likeness.{BothGo, BothWait, BothFault, BothEnd}
use Rattle.src_meaning.specs.declared.state.Frame.{Frame}
use Rattle.src_meaning.specs.State.{State, blocks_at, code_at, inst_at, main_of}
use Rattle.src_meaning.specs.Step.{jumped, frames, opening, action_in, settled, fetched, exited, turned, unless_ended, step}
use Rattle.src_meaning.specs.Races.{access_in, access_by, unless_over, next_access, is_race, pairs_of, race_of, IsGood}
use Rattle.src_meaning.specs.Runs.{Run, run_from, source}
use Rattle.renamed_modules.proofs.RenamedMemory.{renamed_span, renamed_layout, valid-same, opening-same}
use Rattle.renamed_modules.proofs.RenamedActions.{renamed_action, acts-same}
use Rattle.renamed_modules.proofs.Renames.{Renames, inside, layout-same, blocks-same, callees-same, main-same}
use Rattle.renamed_modules.proofs.RenamedFrames.{within, SameFrame, alike, passes, results, suspends, resumes, entries, jumps}

-- a memory whose globals have their other numbers
abbrev pub renamed_memory : Renaming → Memory → Memory
renamed_memory r mem = record mem { places = map (renamed_span r) mem.places }

destination-same : (r : Renaming) (inst : Inst) → destination (renamed_inst r inst) ≡ option_map (renamed_loc r) (destination inst)
destination-same r (insts.Call None ret callee args) = refl
destination-same r (insts.Call (Some dst) ret callee args) = refl
destination-same r inst = refl

module _ (m other : ModuleParts) (r : Renames m other) where
  -- the other module's frames, which jump by the first one's labels
  abbrev frames_by : Frames Frame (Option Loc)
  frames_by = record (frames other) { jump = λ label frame. jumped other frame (renamed_loc (within m other r frame) label) }

  abbrev r_alike : likeness.Likeness Frame Frame (Unit {0})
  r_alike = alike m other r

  asks : (d : Option Loc) (a b : Frame) → SameFrame m other r a b → (action : Action)
      → likeness.Asks r_alike (frames m) frames_by tt d (option_map (renamed_loc (within m other r a)) d) a b action
  asks d a b s (Assign n) = λ k. results m other r d k a b s
  asks d a b s (Reserve size) = λ k. results m other r d k a b s
  asks d a b s (Read place atomic) = λ k. results m other r d k a b s
  asks d a b s (Write place n atomic) = passes m other r a b s
  asks d a b s (Update place update) = λ k. results m other r d k a b s
  asks d a b s Pass = passes m other r a b s
  asks d a b s (Jump label) = subst (λ (n : ℕ). likeness.AreJumps r_alike tt (jumped m a label) (jumped other b (renamed_loc (inside m other r n) label))) (flip s.function) (jumps m other r a b s label)
  asks d a b s (Call n words) = record { entered = entries m other r n words; suspended = suspends m other r d a b s }
  asks d a b s (Ask request) = λ k. results m other r d k a b s
  asks d a b s (Create address n argument) = record { results = λ k. results m other r d k a b s; new = tt; good = tt; entered = entries m other r n (argument ∷ []) }
  asks d a b s (Join thread) = λ k. results m other r d k a b s
  asks d a b s (Exit code) = tt
  asks d a b s (Return n) = record { mark = s.mark; resumed = λ x y is. resumes m other r n x y is }
  asks d a b s (Fault cause) = tt

  -- the other number of a label
  relabelled : (p : ProcessParts Frame) (t : ℕ) (d : Option Loc) (stack : CallStack Frame) (action : Action)
      → outcome_of (frames other) p t d stack (renamed_action (within m other r stack.frame) action) ≡ outcome_of frames_by p t d stack action
  relabelled p t d stack (Assign n) = refl
  relabelled p t d stack (Reserve size) = refl
  relabelled p t d stack (Read place atomic) = refl
  relabelled p t d stack (Write place n atomic) = refl
  relabelled p t d stack (Update place update) = refl
  relabelled p t d stack Pass = refl
  relabelled p t d stack (Jump label) = refl
  relabelled p t d stack (Call n words) = refl
  relabelled p t d stack (Ask request) = refl
  relabelled p t d stack (Create address n argument) = refl
  relabelled p t d stack (Join thread) = refl
  relabelled p t d stack (Exit code) = refl
  relabelled p t d stack (Return n) = refl
  relabelled p t d stack (Fault cause) = refl

  -- the other numbers of globals
  replaced : (q : Renaming) (mem : Memory) (threads : List (Thread Frame)) (world : WorldParts) (t : ℕ) (d : Option Loc) (stack : CallStack Frame) (action : Action)
      → outcome_of frames_by (record { memory = renamed_memory q mem; threads = threads; world = world }) t d stack action
      ≡ outcome_of frames_by (record { memory = mem; threads = threads; world = world }) t d stack action
  replaced q mem threads world t d stack (Assign n) = refl
  replaced q mem threads world t d stack (Reserve size) = refl
  replaced q mem threads world t d stack (Read place atomic) = rw (valid-same q mem.places place.address (bytes place.size)) refl
  replaced q mem threads world t d stack (Write place n atomic) = rw (valid-same q mem.places place.address (bytes place.size)) refl
  replaced q mem threads world t d stack (Update place update) = rw (valid-same q mem.places place.address (bytes place.size)) refl
  replaced q mem threads world t d stack Pass = refl
  replaced q mem threads world t d stack (Jump label) = refl
  replaced q mem threads world t d stack (Call n words) = refl
  replaced q mem threads world t d stack (Ask request) = refl
  replaced q mem threads world t d stack (Create address n argument) = rw (valid-same q mem.places address 8) refl
  replaced q mem threads world t d stack (Join thread) = refl
  replaced q mem threads world t d stack (Exit code) = refl
  replaced q mem threads world t d stack (Return n) = refl
  replaced q mem threads world t d stack (Fault cause) = refl

  -- ---- states

  pub record SameState (s u : State) : Type 0 where
    pub memory : u.process.memory ≡ renamed_memory r.outer s.process.memory
    pub world : u.process.world ≡ s.process.world
    pub ended : u.ended ≡ s.ended
    pub threads : likeness.AreThreads r_alike s.process.threads u.process.threads

  stored-same : (q : Renaming) (store : Option Store) (mem : Memory) → memory_with store (renamed_memory q mem) ≡ renamed_memory q (memory_with store mem)
  stored-same q None mem = refl
  stored-same q (Some store) mem = by_area (nat_lt store.address stacks_start) refl (nat_lt store.address heap_start) refl
    where
      by_area : (b : Bool) → nat_lt store.address stacks_start ≡ b → (c : Bool) → nat_lt store.address heap_start ≡ c
          → memory_with (Some store) (renamed_memory q mem) ≡ renamed_memory q (memory_with (Some store) mem)
      by_area true e c f = rw e refl
      by_area false e true f = rw (e, f) refl
      by_area false e false f = rw (e, f) refl

  -- ---- steps

  pub record SameStep (x y : State × Step) : Type 0 where
    pub answer : y.1 ≡ x.1
    pub state : SameState x.0 y.0

  settles : (s u : State) (t : ℕ) (a b : Thread Frame) (x y : Outcome Frame) → SameState s u → slice_get s.process.threads t ≡ Some a → slice_get u.process.threads t ≡ Some b
      → likeness.AreOutcomes r_alike tt x y → SameStep (settled s (done s.process t x)) (settled u (done u.process t y))
  settles s u t a b x y same at there (BothGo ex ey e f effects) = rw (e, f) (record {
    answer = refl;
    state = record {
      memory = ap (λ (store : Option Store). memory_with store u.process.memory) effects.store ∙ ap (memory_with ex.store) same.memory ∙ stored-same r.outer ex.store s.process.memory;
      world = effects.world;
      ended = same.ended;
      threads = likeness.effects-threads r_alike s.process.threads u.process.threads same.threads t a b at there tt tt ex ey effects;
    };
  })
  settles s u t a b x y same at there (BothWait e f) = rw (e, f) (record { answer = refl; state = same })
  settles s u t a b x y same at there (BothFault cause e f) = rw (e, f) (record { answer = refl; state = same })
  settles s u t a b x y same at there (BothEnd code e f) = rw (e, f) (record {
    answer = refl;
    state = record { memory = same.memory; world = same.world; ended = refl; threads = same.threads };
  })

  -- the action of an instruction
  action-same : (a b : Frame) → SameFrame m other r a b → (inst : Inst)
      → action_in other b (renamed_inst (within m other r a) inst) ≡ renamed_action (within m other r a) (action_in m a inst)
  action-same a b s inst =
      ap (λ (l : LayoutParts). action_of l (callees_of other) b.registers (renamed_inst (within m other r a) inst)) (layout-same m other r)
      ∙ acts-same (within m other r a) r.type_apart r.sym_apart (layout_of m) a.registers b.registers s.registers (callees_of m) (callees_of other) (callees-same m other r) inst

  acts : (s u : State) (t : ℕ) (a b : CallStack Frame) → SameState s u → slice_get s.process.threads t ≡ Some (Running a) → slice_get u.process.threads t ≡ Some (Running b)
      → likeness.IsStack r_alike tt a b → (inst : Inst)
      → SameStep (fetched m s t a (Some inst)) (fetched other u t b (Some (renamed_inst (within m other r a.frame) inst)))
  acts s u t a b same at there stack inst =
      settles s u t (Running a) (Running b) _ _ same at there (subst (λ (y : Outcome Frame). likeness.AreOutcomes r_alike tt (outcome_of (frames m) s.process t (destination inst) a action) y) (flip outcome)
      (likeness.outcomes-alike r_alike (frames m) frames_by tt (destination inst) dst a b stack.mark stack.callers s.process u.process.threads
      (likeness.ends-of-threads r_alike s.process.threads u.process.threads same.threads) t action (asks (destination inst) a.frame b.frame stack.frame action)))
    where
      q : Renaming
      q = within m other r a.frame

      action : Action
      action = action_in m a.frame inst

      dst : Option Loc
      dst = option_map (renamed_loc (within m other r a.frame)) (destination inst)

      outcome : outcome_of (frames other) u.process t (destination (renamed_inst q inst)) b (action_in other b.frame (renamed_inst q inst))
          ≡ outcome_of frames_by (likeness.over r_alike s.process u.process.threads) t dst b action
      outcome =
          ap (λ (d : Option Loc). outcome_of (frames other) u.process t d b (action_in other b.frame (renamed_inst q inst))) (destination-same q inst)
          ∙ ap (λ (given : Action). outcome_of (frames other) u.process t dst b given)
          (action-same a.frame b.frame stack.frame inst ∙ ap (λ (n : ℕ). renamed_action (inside m other r n) action) (flip stack.frame.function))
          ∙ relabelled u.process t dst b action
          ∙ ap (λ (world : WorldParts). outcome_of frames_by (record u.process { world = world }) t dst b action) same.world
          ∙ ap (λ (mem : Memory). outcome_of frames_by (record { memory = mem; threads = u.process.threads; world = s.process.world }) t dst b action) same.memory
          ∙ replaced r.outer s.process.memory u.process.threads s.process.world t dst b action

  code-same : (q : Renaming) (blocks : List Block) (n : ℕ) → code_at (map (renamed_block q) blocks) n ≡ map (renamed_inst q) (code_at blocks n)
  code-same q blocks n = ap (λ (o : Option Block). option_map_or (λ (block : Block). block.insts) o []) (slice_get-map (renamed_block q) blocks n) ∙ by_block (slice_get blocks n)
    where
      by_block : (o : Option Block) → option_map_or (λ (block : Block). block.insts) (option_map (renamed_block q) o) [] ≡ map (renamed_inst q) (option_map_or (λ (block : Block). block.insts) o [])
      by_block None = refl
      by_block (Some block) = refl

  inst-same : (a b : Frame) → SameFrame m other r a b → inst_at other b ≡ option_map (renamed_inst (within m other r a)) (inst_at m a)
  inst-same a b s =
      ap (λ (n : ℕ). slice_get (code_at (blocks_at other.funcs n) b.block) b.index) s.function
      ∙ ap (λ (blocks : List Block). slice_get (code_at blocks b.block) b.index) (blocks-same m other r a.function)
      ∙ ap (λ (n : ℕ). slice_get (code_at (map (renamed_block (within m other r a)) (blocks_at m.funcs a.function)) n) b.index) s.block
      ∙ ap (λ (n : ℕ). slice_get (code_at (map (renamed_block (within m other r a)) (blocks_at m.funcs a.function)) a.block) n) s.index
      ∙ ap (λ (code : List Inst). slice_get code a.index) (code-same (within m other r a) (blocks_at m.funcs a.function) a.block)
      ∙ slice_get-map (renamed_inst (within m other r a)) (code_at (blocks_at m.funcs a.function) a.block) a.index

  fetches : (s u : State) (t : ℕ) (a b : CallStack Frame) → SameState s u → slice_get s.process.threads t ≡ Some (Running a) → slice_get u.process.threads t ≡ Some (Running b)
      → likeness.IsStack r_alike tt a b → (o : Option Inst)
      → SameStep (fetched m s t a o) (fetched other u t b (option_map (renamed_inst (within m other r a.frame)) o))
  fetches s u t a b same at there stack None = record { answer = refl; state = same }
  fetches s u t a b same at there stack (Some inst) = acts s u t a b same at there stack inst

  exits : (s u : State) (t n : ℕ) → SameState s u → slice_get s.process.threads t ≡ Some (Exiting n) → slice_get u.process.threads t ≡ Some (Exiting n)
      → SameStep (exited s t n) (exited u t n)
  exits s u zero n same at there = record { answer = refl; state = record { memory = same.memory; world = same.world; ended = refl; threads = same.threads } }
  exits s u (suc t) n same at there = record {
    answer = refl;
    state = record {
      memory = same.memory;
      world = same.world;
      ended = same.ended;
      threads = likeness.both-moved r_alike s.process.threads u.process.threads same.threads (suc t) (Exiting n) HasEnded (Exiting n) HasEnded at there
          (record { index = tt; good = tt; stands = tt });
    };
  }

  by-stands : (s u : State) (t : ℕ) (x y : Thread Frame) → SameState s u → slice_get s.process.threads t ≡ Some x → slice_get u.process.threads t ≡ Some y
      → likeness.IsThreadOn r_alike tt x y → SameStep (turned m s t (Some x)) (turned other u t (Some y))
  by-stands s u t (Running a) (Running b) same at there is =
      subst (λ (o : Option Inst). SameStep (fetched m s t a (inst_at m a.frame)) (fetched other u t b o)) (flip (inst-same a.frame b.frame is.frame))
      (fetches s u t a b same at there is (inst_at m a.frame))
  by-stands s u t (Running a) (Exiting k) same at there is = absurd is
  by-stands s u t (Running a) HasEnded same at there is = absurd is
  by-stands s u t (Exiting n) (Running b) same at there is = absurd is
  by-stands s u t (Exiting n) (Exiting k) same at there is =
      subst (λ (word : ℕ). SameStep (exited s t n) (exited u t word)) (flip is) (exits s u t n same at (there ∙ ap (λ (word : ℕ). Some (Exiting word)) is))
  by-stands s u t (Exiting n) HasEnded same at there is = absurd is
  by-stands s u t HasEnded (Running b) same at there is = absurd is
  by-stands s u t HasEnded (Exiting k) same at there is = absurd is
  by-stands s u t HasEnded HasEnded same at there is = record { answer = refl; state = same }

  by-thread : (s u : State) (t : ℕ) (x y : Option (Thread Frame)) → SameState s u → slice_get s.process.threads t ≡ x → slice_get u.process.threads t ≡ y
      → likeness.AreThreadsAt r_alike x y → SameStep (turned m s t x) (turned other u t y)
  by-thread s u t None None same at there is = record { answer = refl; state = same }
  by-thread s u t None (Some y) same at there is = absurd is
  by-thread s u t (Some x) None same at there is = absurd is
  by-thread s u t (Some x) (Some y) same at there is = by-stands s u t x y same at there is.stands

  pub steps : (s u : State) (t : ℕ) → SameState s u → SameStep (step m s t) (step other u t)
  steps s u t same =
      subst (λ (b : Bool). SameStep (step m s t) (unless_ended b u (turned other u t (slice_get u.process.threads t)))) (flip same.ended)
      (by_end s.ended (by-thread s u t (slice_get s.process.threads t) (slice_get u.process.threads t) same refl refl (same.threads.each t)))
    where
      by_end : (b : Bool) → SameStep (turned m s t (slice_get s.process.threads t)) (turned other u t (slice_get u.process.threads t))
          → SameStep (unless_ended b s (turned m s t (slice_get s.process.threads t))) (unless_ended b u (turned other u t (slice_get u.process.threads t)))
      by_end true next = record { answer = refl; state = same }
      by_end false next = next

  -- ---- runs

  pub record SameRun (x y : Run) : Type 0 where
    pub answers : y.answers ≡ x.answers
    pub state : SameState x.state y.state

  pub runs : (s u : State) (turns : List ℕ) → SameState s u → SameRun (run_from m s turns) (run_from other u turns)
  runs s u [] same = record { answers = refl; state = same }
  runs s u (t ∷ turns) same =
      let first = steps s u t same in
      let rest = runs (step m s t).0 (step other u t).0 turns first.state in
      record {
        answers = ap (λ (answer : Step). answer ∷ (run_from other (step other u t).0 turns).answers) first.answer ∙ ap (λ (answers : List Step). (step m s t).1 ∷ answers) rest.answers;
        state = rest.state;
      }

  pub opens : (arguments : List ℕ) → SameState (opening m arguments) (opening other arguments)
  opens arguments = record {
    memory =
        ap (λ (l : LayoutParts). opening_memory l other.globals) (layout-same m other r)
        ∙ ap (opening_memory (renamed_layout r.outer r.type_apart r.sym_apart (layout_of m))) r.globals
        ∙ opening-same r.outer r.type_apart r.sym_apart (layout_of m) m.globals;
    world = refl;
    ended = refl;
    threads = subst (λ (n : ℕ). likeness.AreThreads r_alike (new_thread (frames m) 0 (main_of m) [] ∷ []) (new_thread (frames other) 0 n [] ∷ [])) (flip (main-same m other r))
        (record { count = refl; each = each });
  }
    where
      each : (t : ℕ) → likeness.AreThreadsAt r_alike (slice_get (new_thread (frames m) 0 (main_of m) [] ∷ []) t) (slice_get (new_thread (frames other) 0 (main_of m) [] ∷ []) t)
      each zero = record { index = tt; good = tt; stands = record { mark = refl; frame = entries m other r (main_of m) [] (stack_start 0); callers = tt } }
      each (suc t) = tt

  -- the source runs on the same turns are the same
  pub sources : (arguments turns : List ℕ) → SameRun (source m arguments turns) (source other arguments turns)
  sources arguments turns = runs (opening m arguments) (opening other arguments) turns (opens arguments)

  pub outputs : (arguments turns : List ℕ) → (source other arguments turns).state.process.world.outputs ≡ (source m arguments turns).state.process.world.outputs
  outputs arguments turns = ap (λ (world : WorldParts). world.outputs) (sources arguments turns).state.world

  -- ---- races

  access-same : (q : Renaming) (made : ℕ) (action : Action) → access_of made (renamed_action q action) ≡ access_of made action
  access-same q made (Assign n) = refl
  access-same q made (Reserve size) = refl
  access-same q made (Read place atomic) = refl
  access-same q made (Write place n atomic) = refl
  access-same q made (Update place update) = refl
  access-same q made Pass = refl
  access-same q made (Jump label) = refl
  access-same q made (Call n words) = refl
  access-same q made (Ask request) = refl
  access-same q made (Create address n argument) = refl
  access-same q made (Join thread) = refl
  access-same q made (Exit code) = refl
  access-same q made (Return n) = refl
  access-same q made (Fault cause) = refl

  accesses : (made : ℕ) (a b : Frame) → SameFrame m other r a b → access_in other made b (inst_at other b) ≡ access_in m made a (inst_at m a)
  accesses made a b s = ap (access_in other made b) (inst-same a b s) ∙ by_inst (inst_at m a)
    where
      by_inst : (o : Option Inst) → access_in other made b (option_map (renamed_inst (within m other r a)) o) ≡ access_in m made a o
      by_inst None = refl
      by_inst (Some inst) = ap (access_of made) (action-same a b s inst) ∙ access-same (within m other r a) made (action_in m a inst)

  thread-accesses : (made : ℕ) (x y : Thread Frame) → likeness.IsThreadOn r_alike tt x y → access_by other made (Some y) ≡ access_by m made (Some x)
  thread-accesses made (Running a) (Running b) is = accesses made a.frame b.frame is.frame
  thread-accesses made (Running a) (Exiting k) is = absurd is
  thread-accesses made (Running a) HasEnded is = absurd is
  thread-accesses made (Exiting n) (Running b) is = absurd is
  thread-accesses made (Exiting n) (Exiting k) is = refl
  thread-accesses made (Exiting n) HasEnded is = absurd is
  thread-accesses made HasEnded (Running b) is = absurd is
  thread-accesses made HasEnded (Exiting k) is = absurd is
  thread-accesses made HasEnded HasEnded is = refl

  next-same : (s u : State) (t : ℕ) → SameState s u → next_access other u t ≡ next_access m s t
  next-same s u t same =
      ap (λ (b : Bool). unless_over b (access_by other (length u.process.threads) (slice_get u.process.threads t))) same.ended
      ∙ ap (λ (made : ℕ). unless_over s.ended (access_by other made (slice_get u.process.threads t))) same.threads.count
      ∙ ap (unless_over s.ended) (by_thread (slice_get s.process.threads t) (slice_get u.process.threads t) (same.threads.each t))
    where
      by_thread : (x y : Option (Thread Frame)) → likeness.AreThreadsAt r_alike x y
          → access_by other (length s.process.threads) y ≡ access_by m (length s.process.threads) x
      by_thread None None is = refl
      by_thread None (Some y) is = absurd is
      by_thread (Some x) None is = absurd is
      by_thread (Some x) (Some y) is = thread-accesses (length s.process.threads) x y is.stands

  find-same : (p q : ℕ × ℕ → Bool) → ((x : ℕ × ℕ) → q x ≡ p x) → (xs : List (ℕ × ℕ)) → find q xs ≡ find p xs
  find-same p q same [] = refl
  find-same p q same (x ∷ xs) = rw (same x, find-same p q same xs) refl

  pub races : (s u : State) → SameState s u → race_of other u ≡ race_of m s
  races s u same =
      ap (λ (n : ℕ). find (is_race other u) (pairs_of n)) same.threads.count
      ∙ find-same (is_race m s) (is_race other u) (λ pair. rw (next-same s u pair.0 same, next-same s u pair.1 same) refl) (pairs_of (length s.process.threads))

  -- a module that is free of undefined steps and races stays so
  pub goods : (arguments : List ℕ) → IsGood m arguments → IsGood other arguments
  goods arguments good = record {
    defined = λ turns n cause e. good.defined turns n cause (ap (λ (answers : List Step). slice_get answers n) (flip (sources arguments turns).answers) ∙ e);
    race_free = λ turns. races (source m arguments turns).state (source other arguments turns).state (sources arguments turns).state ∙ good.race_free turns;
  }
