-- A request in the name of a thread, and a thread that is made, as the code does them: one part of the process after another.
use Rattle.std.proofs.Common.{ℕ, zero, suc, ◌≡◌, ◌<◌, List, [], ◌∷◌, ◌++◌, length, arith, Option, Some, None, Bool, true, false, refl, sym, ap, ◌∙◌, slice_get, slice_set, get_or, nat_lt, unwrap_or, lt-ltb, if◌then◌else◌}
use Rattle.std.specs.Option.{is_none}
use Rattle.std.proofs.Math.ListN.{get_or-append}
use Rattle.std.proofs.lemmas.List.{set-append_left}
use Rattle.ir_layout.specs.Memory.{is_valid, thread_limit}
use Rattle.mem_image.specs.Bytes.{Memory, peek, poke, read_of, written}
use Rattle.inst_meaning.specs.declared.actions.Cause.TheVariants.{Access}
use Rattle.inst_meaning.specs.declared.actions.Request.{Request}
use Rattle.inst_meaning.specs.declared.actions.Request.TheVariants.{Lock, Unlock, Put, Output, Allocate, Free, Argument}
use Rattle.inst_meaning.specs.declared.actions.Reply.{Reply}
use Rattle.inst_meaning.specs.declared.actions.Reply.TheVariants.{Answers, Waits as MustWait, Refuses}
use Rattle.inst_meaning.specs.declared.actions.Action.TheVariants.{Ask, Create}
use Rattle.inst_meaning.specs.World.{WorldParts, asked_of, locked, unlocked, allocated, owner_of, holds}
use Rattle.process.specs.declared.state.CallStack.{CallStack}
use Rattle.process.specs.declared.state.Thread.{Thread}
use Rattle.process.specs.declared.state.Thread.TheVariants.{Running, Exiting, Ended}
use Rattle.process.specs.declared.state.Step.{Step}
use Rattle.process.specs.declared.state.Step.TheVariants.{Went, Undefined}
use Rattle.process.specs.Frames.{Frames}
use Rattle.process.specs.State.{ProcessParts, in_frame, new_thread}
use Rattle.process.specs.Outcome.{replied, created, effect_of_creation, Goes, answer_of}
use Rattle.process.specs.Process.{applied, done}
use Rattle.process.specs.code.Moves.{answered}
use Rattle.process.specs.code.Threads.{answer_to, world_after, thread_asked, acted_by, runs, step_of, finished, finished_at, with_finished, with_added}

-- a request that isn't answered leaves the environment
abbrev pub quiet : WorldParts → WorldParts × Reply → Type 0
quiet world (new, Answers n) = Unit {0}
quiet world (new, MustWait) = new ≡ world
quiet world (new, Refuses cause) = new ≡ world

quiet-locked : (owner : Option ℕ) (address t : ℕ) (world : WorldParts) → quiet world (locked owner address t world)
quiet-locked None address t world = tt
quiet-locked (Some owner) address t world = refl

quiet-unlocked : (held : Bool) (address : ℕ) (world : WorldParts) → quiet world (unlocked held address world)
quiet-unlocked true address world = tt
quiet-unlocked false address world = refl

quiet-allocated : (fits : Bool) (size : ℕ) (world : WorldParts) → quiet world (allocated fits size world)
quiet-allocated true size world = tt
quiet-allocated false size world = tt

pub quiet-asked : (request : Request) (t : ℕ) (world : WorldParts) → quiet world (asked_of request t world)
quiet-asked (Lock address) t world = quiet-locked (owner_of world.owners address) address t world
quiet-asked (Unlock address) t world = quiet-unlocked (holds (owner_of world.owners address) t) address world
quiet-asked (Put n) t world = tt
quiet-asked (Output n) t world = tt
quiet-asked (Allocate size) t world = quiet-allocated _ size world
quiet-asked Free t world = tt
quiet-asked (Argument n) t world = tt

-- what stands at a place, put there again, changes nothing
pub set_same : {A : Type 0} (xs : List A) (k : ℕ) (x : A) → slice_get xs k ≡ Some x → slice_set xs k x ≡ xs
set_same [] k x e = refl
set_same (y ∷ xs) zero x e = cc
set_same (y ∷ xs) (suc k) x e = ap (λ ys. y ∷ ys) (set_same xs k x e)

-- a thread that runs is there
pub there : {F : Type 0} (threads : List (Thread F)) (t : ℕ) (thread : Thread F) → runs (slice_get threads t) ≡ true → thread ≡ get_or threads t thread
    → slice_get threads t ≡ Some thread
there [] t thread r e = absurd cc
there (x ∷ xs) zero thread r e = ap Some (sym e)
there (x ∷ xs) (suc t) thread r e = there xs t thread r e

-- a process of these parts
abbrev pub process : {F : Type 0} → Memory → List (Thread F) → WorldParts → ProcessParts F
process mem threads world = record { memory = mem; threads = threads; world = world }

module _ {F D : Type 0} (frames : Frames F D) where
  -- once thread and environment have taken a reply
  abbrev after_reply : ProcessParts F → ℕ → D → CallStack F → WorldParts × Reply → ProcessParts F
  after_reply p t target stack reply =
      record p { threads = slice_set p.threads t (in_frame stack (answered frames target reply.1 stack.frame)); world = reply.0 }

  unchanged : (p : ProcessParts F) (t : ℕ) (thread : Thread F) (new : WorldParts) → slice_get p.threads t ≡ Some thread → new ≡ p.world
      → record p { threads = slice_set p.threads t thread; world = new } ≡ p
  unchanged p t thread new at q =
      ap (λ (ts : List (Thread F)). record p { threads = ts; world = new }) (set_same p.threads t thread at)
      ∙ ap (λ (w : WorldParts). record p { world = w }) q

  replied-after : (p : ProcessParts F) (t : ℕ) (target : D) (stack : CallStack F) (reply : WorldParts × Reply)
      → slice_get p.threads t ≡ Some (Running stack) → quiet p.world reply
      → done p t (replied frames p target stack reply.0 reply.1) ≡ (after_reply p t target stack reply, step_of reply.1)
  replied-after p t target stack (new, Answers n) at q = refl
  replied-after p t target stack (new, MustWait) at q =
      ap (λ (x : ProcessParts F). (x, step_of MustWait)) (sym (unchanged p t (Running stack) new at q))
  replied-after p t target stack (new, Refuses cause) at q =
      ap (λ (x : ProcessParts F). (x, step_of (Refuses cause))) (sym (unchanged p t (Running stack) new at q))

  asked-after : (p : ProcessParts F) (t : ℕ) (target : D) (request : Request) (thread : Thread F)
      → slice_get p.threads t ≡ Some thread → runs (Some thread) ≡ true
      → acted_by frames p t target (Some thread) (Ask request)
      ≡ (record p { threads = slice_set p.threads t (thread_asked frames request t target p.world thread); world = world_after request t p.world thread }, answer_to request t p.world thread)
  asked-after p t target request (Running stack) at r =
      replied-after p t target stack (asked_of request t p.world) at (quiet-asked request t p.world)
  asked-after p t target request (Exiting n) at r = absurd cc
  asked-after p t target request Ended at r = absurd cc

  -- once the thread has asked, with the answer
  abbrev pub after_asked : ProcessParts F → ℕ → D → Request → ProcessParts F × Step
  after_asked now t target request = acted_by frames now t target (slice_get now.threads t) (Ask request)

  asked-pair : (p : ProcessParts F) (t : ℕ) (target : D) (request : Request) (thread : Thread F)
      → runs (slice_get p.threads t) ≡ true → thread ≡ get_or p.threads t thread
      → after_asked p t target request
      ≡ (record p { threads = slice_set p.threads t (thread_asked frames request t target p.world thread); world = world_after request t p.world thread }, answer_to request t p.world thread)
  asked-pair p t target request thread r found =
      let at : slice_get p.threads t ≡ Some thread = there p.threads t thread r found in
      ap (λ (o : Option (Thread F)). acted_by frames p t target o (Ask request)) at
      ∙ asked-after p t target request thread at (ap runs (sym at) ∙ r)

  pub asked_state : (now : ProcessParts F) (mem : Memory) (threads : List (Thread F)) (world : WorldParts) (t : ℕ) (target : D) (request : Request) (thread : Thread F)
      → process mem threads world ≡ now → runs (slice_get now.threads t) ≡ true → thread ≡ get_or threads t thread
      → process mem (slice_set threads t (thread_asked frames request t target world thread)) (world_after request t world thread)
      ≡ (after_asked now t target request).0
  asked_state now mem threads world t target request thread e r found =
      let r : runs (slice_get threads t) ≡ true = ap (λ (v : ProcessParts F). runs (slice_get v.threads t)) e ∙ r in
      ap (λ (x : ProcessParts F × Step). x.0) (sym (asked-pair (process mem threads world) t target request thread r found))
      ∙ ap (λ (v : ProcessParts F). (after_asked v t target request).0) e

  pub asked_answer : (now : ProcessParts F) (mem : Memory) (threads : List (Thread F)) (world : WorldParts) (t : ℕ) (target : D) (request : Request) (thread : Thread F)
      → process mem threads world ≡ now → runs (slice_get now.threads t) ≡ true → thread ≡ get_or threads t thread
      → answer_to request t world thread ≡ (after_asked now t target request).1
  asked_answer now mem threads world t target request thread e r found =
      let r : runs (slice_get threads t) ≡ true = ap (λ (v : ProcessParts F). runs (slice_get v.threads t)) e ∙ r in
      ap (λ (x : ProcessParts F × Step). x.1) (sym (asked-pair (process mem threads world) t target request thread r found))
      ∙ ap (λ (v : ProcessParts F). (after_asked v t target request).1) e

-- ---- a thread is added

within : {F : Type 0} (threads : List (Thread F)) (t : ℕ) → runs (slice_get threads t) ≡ true → t < length threads
within [] t r = absurd cc
within (x ∷ xs) zero r = omega arith
within (x ∷ xs) (suc t) r = let e : t < length xs = within xs t r in omega (arith, e)

module _ {F D : Type 0} (frames : Frames F D) where
  abbrev pub after_added : ProcessParts F → ℕ → D → Thread F → ProcessParts F
  after_added now t target thread = with_added thread (with_finished frames target 0 t now)

  pub added_state : (now : ProcessParts F) (mem : Memory) (threads : List (Thread F)) (world : WorldParts) (t : ℕ) (target : D) (thread : Thread F) (items : List (Thread F)) (old new : Thread F)
      → process mem threads world ≡ now → runs (slice_get now.threads t) ≡ true → items ≡ threads ++ thread ∷ [] → old ≡ get_or items t old
      → new ≡ finished frames target 0 old
      → process mem (slice_set items t new) world ≡ after_added now t target thread
  added_state now mem threads world t target thread items old new e r pushed found made =
      let r : runs (slice_get threads t) ≡ true = ap (λ (v : ProcessParts F). runs (slice_get v.threads t)) e ∙ r in
      let inside : t < length threads = within threads t r in
      let found : old ≡ get_or threads t old =
      found ∙ ap (λ (xs : List (Thread F)). get_or xs t old) pushed ∙ get_or-append threads (thread ∷ []) old t inside in
      let at : slice_get threads t ≡ Some old = there threads t old r found in
      let p : ProcessParts F = record { memory = mem; threads = threads; world = world } in
      let list : slice_set items t new ≡ slice_set threads t (finished frames target 0 old) ++ thread ∷ [] =
      ap (λ (xs : List (Thread F)). slice_set xs t new) pushed ∙ set-append_left threads (thread ∷ []) t new inside
      ∙ ap (λ (x : Thread F). slice_set threads t x ++ thread ∷ []) made in
      ap (λ (xs : List (Thread F)). process mem xs world) list
      ∙ sym (ap (λ (o : Option (Thread F)). with_added thread (finished_at frames target 0 t o p)) at)
      ∙ ap (λ (v : ProcessParts F). after_added v t target thread) e

-- ---- a thread is made

valid_where : (valid : Bool) (word : ℕ) → is_none (if valid then Some word else None) ≡ false → valid ≡ true
valid_where true word e = refl
valid_where false word e = absurd cc

invalid_where : (valid : Bool) (word : ℕ) → is_none (if valid then Some word else None) ≡ true → valid ≡ false
invalid_where true word e = absurd cc
invalid_where false word e = refl

module _ {F D : Type 0} (frames : Frames F D) where
  created-for : (now : ProcessParts F) (mem new : Memory) (threads : List (Thread F)) (world : WorldParts) (t : ℕ) (target : D) (address n argument : ℕ) (thread : Thread F) (stack : CallStack F)
      → is_valid now.memory.places address 8 ≡ true → thread ≡ new_thread frames (length now.threads) n (argument ∷ [])
      → process mem threads world ≡ with_added thread (finished_at frames target 0 t (Some (Running stack)) now)
      → new ≡ unwrap_or (written mem address 8 (length now.threads)) mem
      → process new threads world ≡ applied now t (Goes (effect_of_creation frames now target stack address n argument))
  created-for now mem new threads world t target address n argument thread stack valid made e m =
      let number : ℕ = length now.threads in
      let same : mem ≡ now.memory = ap (λ (v : ProcessParts F). v.memory) e in
      let there : is_valid mem.places address 8 ≡ true = ap (λ (x : Memory). is_valid x.places address 8) same ∙ valid in
      let stored : new ≡ poke mem address 8 number = m ∙ ap (λ (b : Bool). unwrap_or (if b then Some (poke mem address 8 number) else None) mem) there in
      ap (λ (x : Memory). process x threads world) stored
      ∙ ap (λ (v : ProcessParts F). record v { memory = poke v.memory address 8 number }) e
      ∙ ap (λ (x : Thread F). record (with_added x (finished_at frames target 0 t (Some (Running stack)) now)) { memory = poke now.memory address 8 number }) made

  created-by : (now : ProcessParts F) (mem new : Memory) (threads : List (Thread F)) (world : WorldParts) (t : ℕ) (target : D) (address n argument : ℕ) (thread : Thread F) (o : Option (Thread F))
      → runs o ≡ true → nat_lt (length now.threads) thread_limit ≡ true → is_valid now.memory.places address 8 ≡ true
      → thread ≡ new_thread frames (length now.threads) n (argument ∷ [])
      → process mem threads world ≡ with_added thread (finished_at frames target 0 t o now) → new ≡ unwrap_or (written mem address 8 (length now.threads)) mem
      → process new threads world ≡ (acted_by frames now t target o (Create address n argument)).0
  created-by now mem new threads world t target address n argument thread None r room valid made e m = absurd cc
  created-by now mem new threads world t target address n argument thread (Some (Running stack)) r room valid made e m =
      created-for now mem new threads world t target address n argument thread stack valid made e m
      ∙ sym (ap (λ (b : Bool). applied now t (created frames now target stack address n argument b (is_valid now.memory.places address 8))) room
      ∙ ap (λ (b : Bool). applied now t (created frames now target stack address n argument true b)) valid)
  created-by now mem new threads world t target address n argument thread (Some (Exiting k)) r room valid made e m = absurd cc
  created-by now mem new threads world t target address n argument thread (Some Ended) r room valid made e m = absurd cc

  pub created_state : (now : ProcessParts F) (mem new : Memory) (threads : List (Thread F)) (world : WorldParts) (t : ℕ) (target : D) (address n argument number : ℕ) (thread : Thread F) (found : Option ℕ)
      → runs (slice_get now.threads t) ≡ true → number ≡ length now.threads → number < 64 → found ≡ read_of now.memory address 8 → is_none found ≡ false
      → thread ≡ new_thread frames number n (argument ∷ [])
      → process mem threads world ≡ with_added thread (with_finished frames target 0 t now) → new ≡ unwrap_or (written mem address 8 number) mem
      → process new threads world ≡ (acted_by frames now t target (slice_get now.threads t) (Create address n argument)).0
  created_state now mem new threads world t target address n argument number thread found r count few f some made e m =
      let room : nat_lt (length now.threads) thread_limit ≡ true = lt-ltb (length now.threads) 64 (omega (arith, count, few)) in
      let valid : is_valid now.memory.places address 8 ≡ true =
      valid_where (is_valid now.memory.places address 8) (peek now.memory address 8) (ap is_none (sym f) ∙ some) in
      created-by now mem new threads world t target address n argument thread (slice_get now.threads t) r room valid
      (made ∙ ap (λ (k : ℕ). new_thread frames k n (argument ∷ [])) count) e (m ∙ ap (λ (k : ℕ). unwrap_or (written mem address 8 k) mem) count)

  -- ---- a thread isn't made, or the answer where it is

  refused-by : (now : ProcessParts F) (t : ℕ) (target : D) (address n argument : ℕ) (o : Option (Thread F))
      → runs o ≡ true → nat_lt (length now.threads) thread_limit ≡ true → is_valid now.memory.places address 8 ≡ false
      → acted_by frames now t target o (Create address n argument) ≡ (now, Undefined Access)
  refused-by now t target address n argument None r room valid = absurd cc
  refused-by now t target address n argument (Some (Running stack)) r room valid =
      ap (λ (b : Bool). done now t (created frames now target stack address n argument b (is_valid now.memory.places address 8))) room
      ∙ ap (λ (b : Bool). done now t (created frames now target stack address n argument true b)) valid
  refused-by now t target address n argument (Some (Exiting k)) r room valid = absurd cc
  refused-by now t target address n argument (Some Ended) r room valid = absurd cc

  pub refused_pair : (now : ProcessParts F) (t : ℕ) (target : D) (address n argument number : ℕ) (found : Option ℕ)
      → runs (slice_get now.threads t) ≡ true → number ≡ length now.threads → number < 64 → found ≡ read_of now.memory address 8 → is_none found ≡ true
      → acted_by frames now t target (slice_get now.threads t) (Create address n argument) ≡ (now, Undefined Access)
  refused_pair now t target address n argument number found r count few f none =
      refused-by now t target address n argument (slice_get now.threads t) r
      (lt-ltb (length now.threads) 64 (omega (arith, count, few)))
      (invalid_where (is_valid now.memory.places address 8) (peek now.memory address 8) (ap is_none (sym f) ∙ none))

  went-by : (now : ProcessParts F) (t : ℕ) (target : D) (address n argument : ℕ) (o : Option (Thread F))
      → runs o ≡ true → nat_lt (length now.threads) thread_limit ≡ true → is_valid now.memory.places address 8 ≡ true
      → (acted_by frames now t target o (Create address n argument)).1 ≡ Went
  went-by now t target address n argument None r room valid = absurd cc
  went-by now t target address n argument (Some (Running stack)) r room valid =
      ap (λ (b : Bool). answer_of (created frames now target stack address n argument b (is_valid now.memory.places address 8))) room
      ∙ ap (λ (b : Bool). answer_of (created frames now target stack address n argument true b)) valid
  went-by now t target address n argument (Some (Exiting k)) r room valid = absurd cc
  went-by now t target address n argument (Some Ended) r room valid = absurd cc

  pub created_answer : (now : ProcessParts F) (t : ℕ) (target : D) (address n argument number : ℕ) (found : Option ℕ)
      → runs (slice_get now.threads t) ≡ true → number ≡ length now.threads → number < 64 → found ≡ read_of now.memory address 8 → is_none found ≡ false
      → (acted_by frames now t target (slice_get now.threads t) (Create address n argument)).1 ≡ Went
  created_answer now t target address n argument number found r count few f some =
      went-by now t target address n argument (slice_get now.threads t) r
      (lt-ltb (length now.threads) 64 (omega (arith, count, few)))
      (valid_where (is_valid now.memory.places address 8) (peek now.memory address 8) (ap is_none (sym f) ∙ some))
