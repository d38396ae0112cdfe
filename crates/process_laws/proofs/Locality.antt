-- Locality: an action that a thread does alone depends on its thread and on the word that it finds, and changes its thread and the bytes of
-- its access.
use Rattle.std.proofs.Common.{ℕ, ◌≡◌, Option, Some, None, Bool, true, false, refl, ap}
use Rattle.ir_layout.specs.Memory.{is_valid}
use Rattle.mem_image.specs.Accesses.{bytes}
use Rattle.mem_image.specs.Bytes.{Memory, IsWhole, peek}
use Rattle.mem_image.proofs.Laws.{read_elsewhere}
use Rattle.inst_meaning.specs.declared.actions.Cause.{Cause}
use Rattle.inst_meaning.specs.declared.actions.Cause.TheVariants.{Access as AccessCause}
use Rattle.inst_meaning.specs.declared.actions.Action.{Action}
use Rattle.inst_meaning.specs.declared.actions.Action.TheVariants.{Assign, Reserve, Read, Write, Update, Pass, Jump, Call, Ask, Create, Join, Exit, Return, Fault}
use Rattle.inst_meaning.specs.Accesses.{place_of, access_of, updated, word_read}
use Rattle.process.specs.declared.state.CallStack.{CallStack}
use Rattle.process.specs.declared.state.Step.TheVariants.{Undefined}
use Rattle.process.specs.Frames.{Frames}
use Rattle.process.specs.State.{ProcessParts}
use Rattle.process.specs.Outcome.{answer_of, unless, failure, thread_after, store_of, effect_alone, goes_unless, alone}
use Rattle.mem_image.specs.Touches.{memory_with}
use Rattle.process_laws.specs.Locality.{AgreeAt, AreAlike, IsApart, IsValidAt}

-- an action finds the same word in memories that have the same word at its place
pub same_word : (a b : Memory) (action : Action) → AgreeAt a b (place_of action) → word_read a action ≡ word_read b action
same_word a b (Assign n) same = refl
same_word a b (Reserve size) same = refl
same_word a b (Read place atomic) same = same
same_word a b (Write place n atomic) same = refl
same_word a b (Update place update) same = same
same_word a b Pass same = refl
same_word a b (Jump label) same = refl
same_word a b (Call n words) same = refl
same_word a b (Ask request) same = refl
same_word a b (Create address n argument) same = refl
same_word a b (Join other) same = refl
same_word a b (Exit code) same = refl
same_word a b (Return n) same = refl
same_word a b (Fault cause) same = refl

module _ {F D : Type 0} (frames : Frames F D) where
  -- it answers the same in processes whose memories are alike for it
  pub same_answer : (p q : ProcessParts F) (t : ℕ) (target : D) (stack : CallStack F) (action : Action) → AreAlike p.memory q.memory action
      → answer_of (alone frames p t target stack action) ≡ answer_of (alone frames q t target stack action)
  same_answer p q t target stack action alike =
      answers (failure frames p.memory.places t stack action) (failure frames q.memory.places t stack action)
      (ap (λ ps. failure frames ps t stack action) alike.places)
    where
      answers : (x y : Option Cause) → x ≡ y
          → answer_of (goes_unless x (effect_alone frames p target stack action)) ≡ answer_of (goes_unless y (effect_alone frames q target stack action))
      answers None None e = refl
      answers None (Some cause) e = absurd cc
      answers (Some cause) None e = absurd cc
      answers (Some cause) (Some other) e = let f : cause ≡ other = cc in ap Undefined f

  -- and makes the same of its thread
  pub same_thread : (a b : Memory) (target : D) (stack : CallStack F) (action : Action) → AreAlike a b action
      → thread_after frames target stack action (word_read a action) ≡ thread_after frames target stack action (word_read b action)
  same_thread a b target stack action alike = ap (λ n. thread_after frames target stack action n) (same_word a b action alike.word)

  unless-valid : (b : Bool) → unless b AccessCause ≡ None → b ≡ true
  unless-valid true e = refl
  unless-valid false e = absurd cc

  -- where it is done, its access is valid
  pub valid_where_done : (mem : Memory) (t : ℕ) (stack : CallStack F) (action : Action) → failure frames mem.places t stack action ≡ None
      → IsValidAt mem (place_of action)
  valid_where_done mem t stack (Assign n) e = tt
  valid_where_done mem t stack (Reserve size) e = tt
  valid_where_done mem t stack (Read place atomic) e = unless-valid _ e
  valid_where_done mem t stack (Write place n atomic) e = unless-valid _ e
  valid_where_done mem t stack (Update place update) e = unless-valid _ e
  valid_where_done mem t stack Pass e = tt
  valid_where_done mem t stack (Jump label) e = tt
  valid_where_done mem t stack (Call n words) e = tt
  valid_where_done mem t stack (Ask request) e = tt
  valid_where_done mem t stack (Create address n argument) e = tt
  valid_where_done mem t stack (Join other) e = tt
  valid_where_done mem t stack (Exit code) e = tt
  valid_where_done mem t stack (Return n) e = tt
  valid_where_done mem t stack (Fault cause) e = tt

-- it leaves all words that share no byte with its access
pub words_elsewhere : (mem : Memory) (action : Action) (made old address n : ℕ) → IsWhole mem → IsValidAt mem (place_of action)
    → is_valid mem.places address n ≡ true → IsApart (access_of made action) address n
    → peek (memory_with (store_of action old) mem) address n ≡ peek mem address n
words_elsewhere mem (Assign x) made old address n whole valid there apart = refl
words_elsewhere mem (Reserve size) made old address n whole valid there apart = refl
words_elsewhere mem (Read place atomic) made old address n whole valid there apart = refl
words_elsewhere mem (Write place x atomic) made old address n whole valid there apart =
    read_elsewhere mem place.address (bytes place.size) x address n whole valid there (apart refl)
words_elsewhere mem (Update place update) made old address n whole valid there apart =
    read_elsewhere mem place.address (bytes place.size) (updated update old) address n whole valid there (apart refl)
words_elsewhere mem Pass made old address n whole valid there apart = refl
words_elsewhere mem (Jump label) made old address n whole valid there apart = refl
words_elsewhere mem (Call x words) made old address n whole valid there apart = refl
words_elsewhere mem (Ask request) made old address n whole valid there apart = refl
words_elsewhere mem (Create a x argument) made old address n whole valid there apart = refl
words_elsewhere mem (Join other) made old address n whole valid there apart = refl
words_elsewhere mem (Exit code) made old address n whole valid there apart = refl
words_elsewhere mem (Return x) made old address n whole valid there apart = refl
words_elsewhere mem (Fault cause) made old address n whole valid there apart = refl
