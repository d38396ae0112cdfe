-- What an upset does to the parts of the code: to a thread, and to the numbers that it carries.
use Rattle.std.specs.Prelude.{ℕ, Bool, true, false, ◌||◌, List, [], ◌∷◌, ◌++◌, length, reverse, Option, Some, None, slice_get}
use Rattle.std.specs.List.{list_any}
use Rattle.std.specs.Option.{option_and_then, option_map_or}
use Rattle.process.specs.declared.state.Thread.{Thread}
use Rattle.process.specs.declared.state.Thread.TheVariants.{Running, Exiting, Ended}
use Rattle.tx_runtime.specs.declared.words.Mode as runtime
use Rattle.tx_runtime.specs.declared.words.Mode.TheVariants.{Out, In, Plain}
use Rattle.sched_file.specs.declared.entries.UpsetSpec.{UpsetSpec}
use Rattle.hard_ir.specs.Hardened.{HardParts}
use Rattle.hard_frames.specs.declared.state.Frame.{Frame}
use Rattle.hard_frames.specs.declared.outcome.Aborts.{Aborts}
use Rattle.hard_meaning.specs.Runs.{added}
use Rattle.hard_meaning.specs.State.{no_aborts, Upset, Nowhere, OnAnother, InWindow, Struck}
use Rattle.upset_model.specs.Table.{in_window_at}
use Rattle.hard_meaning.specs.Strikes.{kind_of}
use Rattle.tx_machine.specs.declared.strikes.StruckAt.{StruckAt}
use Rattle.tx_machine.specs.Log.{is_firm, struck_at}
use Rattle.tx_machine.specs.Own.{MarksParts, OwnParts}
use Rattle.tx_machine.specs.Joined.{is_in}
use Rattle.tx_machine.specs.Struck.{stack_struck, stack_place}
use Rattle.tx_machine.specs.Core.{CoreParts, with_own}

-- ---- numbers that are carried

-- in the order in which they came; inside those that struck since the transaction began too
abbrev pub carried_if : Bool → MarksParts → List ℕ
carried_if true m = reverse (m.struck ++ m.hits)
carried_if false m = reverse m.hits

abbrev pub carried : OwnParts → List ℕ
carried w = carried_if (is_in w.words.mode) (record { struck = w.struck; hits = w.hits })

abbrev pub all_carried : List OwnParts → List ℕ
all_carried [] = []
all_carried (w ∷ ws) = carried w ++ all_carried ws

-- the aborts of threads
abbrev pub own_aborts : List OwnParts → Aborts
own_aborts [] = no_aborts
own_aborts (w ∷ ws) = added w.aborts (own_aborts ws)

-- ---- a thread

-- where an upset strikes it
abbrev pub thread_place : HardParts → UpsetSpec → Thread Frame → Option StruckAt
thread_place h upset (Running stack) = stack_place h upset stack
thread_place h upset (Exiting n) = None
thread_place h upset Ended = None

abbrev pub thread_struck : HardParts → UpsetSpec → Thread Frame → Thread Frame
thread_struck h upset (Running stack) = Running (stack_struck h upset stack)
thread_struck h upset (Exiting n) = Exiting n
thread_struck h upset Ended = Ended

-- it carries one number more, which an abort takes from it only inside
abbrev pub settled_in : runtime.Mode → ℕ → OwnParts → OwnParts
settled_in Out k w = record w { struck = []; hits = k ∷ w.hits }
settled_in Plain k w = record w { struck = []; hits = k ∷ w.hits }
settled_in In k w = w

abbrev pub own_marked : Option ℕ → OwnParts → OwnParts
own_marked None w = w
own_marked (Some k) w = settled_in w.words.mode k (record w { struck = k ∷ w.struck })

abbrev pub own_struck : HardParts → UpsetSpec → Option ℕ → OwnParts → OwnParts
own_struck h upset number w = own_marked number (record w { thread = thread_struck h upset w.thread })

-- the number that is left, where it counts
abbrev pub number_if : Upset → ℕ → Option ℕ
number_if Nowhere k = None
number_if OnAnother k = None
number_if InWindow k = None
number_if Struck k = Some k

-- ---- whether some stand, and how an upset comes

abbrev pub some_standing : CoreParts → List Upset → Bool
some_standing p upsets = list_any is_firm upsets || list_any (struck_at upsets) (all_carried p.own)

abbrev pub inside_at : CoreParts → ℕ → Bool
inside_at p t = option_map_or (λ (w : OwnParts). is_in w.words.mode) (slice_get p.own t) false

abbrev pub window_of : HardParts → Bool → StruckAt → Bool
window_of h inside at = in_window_at h at.function at.block at.index at.reg inside

abbrev pub core_kind : CoreParts → List Upset → ℕ → StruckAt → Upset
core_kind p upsets t at = kind_of (some_standing p upsets) (window_of p.program (inside_at p t) at)

-- ---- all that runs

abbrev pub core_place : UpsetSpec → CoreParts → Option StruckAt
core_place upset p = option_and_then (λ (w : OwnParts). thread_place p.program upset w.thread) (slice_get p.own upset.tid.0)

abbrev pub core_struck : UpsetSpec → Option ℕ → CoreParts → CoreParts
core_struck upset number p = with_own upset.tid.0 (own_struck p.program upset number) p

-- an upset comes
abbrev pub core_upset_at : Option StruckAt → UpsetSpec → List Upset → CoreParts → CoreParts
core_upset_at None upset upsets p = p
core_upset_at (Some at) upset upsets p = core_struck upset (number_if (core_kind p upsets upset.tid.0 at) (length upsets)) p

abbrev pub core_upset : UpsetSpec → List Upset → CoreParts → CoreParts
core_upset upset upsets p = core_upset_at (core_place upset p) upset upsets p

abbrev pub kind_at : Option StruckAt → UpsetSpec → List Upset → CoreParts → Upset
kind_at None upset upsets p = Nowhere
kind_at (Some at) upset upsets p = core_kind p upsets upset.tid.0 at

abbrev pub upset_kind : UpsetSpec → List Upset → CoreParts → Upset
upset_kind upset upsets p = kind_at (core_place upset p) upset upsets p
