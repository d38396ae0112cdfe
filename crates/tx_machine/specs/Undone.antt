-- The threads that an access aborts, as the code goes through them: one after another, the last first.
use Rattle.std.specs.Prelude.{ℕ, List, [], ◌∷◌, slice_get, slice_set}
use Rattle.std.specs.Option.{option_map_or}
use Rattle.process.specs.declared.state.CallStack.{CallStack}
use Rattle.hard_frames.specs.declared.state.Frame.{Frame}
use Rattle.elide.specs.Watches.{WatchParts, nothing_watched}
use Rattle.rtm_core.specs.declared.Aborted.{Aborted}
use Rattle.hard_meaning.specs.Aborts.{Conflict}
use Rattle.tx_machine.specs.Own.{OwnParts, once_undone}

-- threads by themselves, and what they watch and hold
pub record HeldParts : Type 0 where
  pub own : List OwnParts
  pub watches : List WatchParts

abbrev pub undone_own : List OwnParts → ℕ → CallStack Frame → List OwnParts
undone_own ws u kept = option_map_or (λ w. slice_set ws u (once_undone Conflict kept w)) (slice_get ws u) ws

abbrev pub undone_at : Aborted (CallStack Frame) → HeldParts → HeldParts
undone_at a s = record { own = undone_own s.own a.tid.0 a.keep; watches = slice_set s.watches a.tid.0 nothing_watched }

abbrev pub undone_all : List (Aborted (CallStack Frame)) → HeldParts → HeldParts
undone_all [] s = s
undone_all (a ∷ rest) s = undone_at a (undone_all rest s)

-- ---- each list by itself

abbrev pub own_all : List (Aborted (CallStack Frame)) → List OwnParts → List OwnParts
own_all [] ws = ws
own_all (a ∷ rest) ws = undone_own (own_all rest ws) a.tid.0 a.keep

abbrev pub watches_all : List (Aborted (CallStack Frame)) → List WatchParts → List WatchParts
watches_all [] ks = ks
watches_all (a ∷ rest) ks = slice_set (watches_all rest ks) a.tid.0 nothing_watched
