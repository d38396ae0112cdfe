-- Runs of the program of two threads, as equations: what a schedule makes of its hardened module.
use Rattle.std.specs.Prelude.{ℕ, ◌≡◌, List, [], ◌∷◌, ◌++◌, codes, decimal}
use Rattle.ir_core.specs.declared.values.Side.TheVariants.{M, S}
use Rattle.ir_core.specs.declared.values.Out.TheVariants.{Num}
use Rattle.sched_file.specs.Events.{Happening}
use Rattle.hard_ir.specs.Hardened.{harden}
use Rattle.hard_frames.specs.declared.outcome.Stop.TheVariants.{End, Fail}
use Rattle.hard_meaning.specs.Records.{Window, Hit, Undone, Stacked}
use Rattle.hard_meaning.specs.State.{no_aborts}
use Rattle.hard_meaning.specs.Runs.{RunParts, run_on}
use Rattle.hard_meaning.specs.Samples.{turns, abort_of, upset_of}
use Rattle.hard_meaning.specs.Rows.{of_thread, explicit_aborts, other_aborts}
use Rattle.tx_simulation.specs.Samples.{counted}

-- ---- schedules

-- the first thread until it waits for the second, that one to its end, and the first again
abbrev pub in_turn : List Happening
in_turn = turns 0 60 ++ turns 1 60 ++ turns 0 60

-- the second thread's while the first has read the word, and is inside
abbrev pub across : List Happening
across = turns 0 32 ++ turns 1 60 ++ turns 0 100

-- the first thread is aborted three times, and takes the mutex outside; then the second has to wait for it
abbrev pub given_up : List Happening
given_up = turns 0 32 ++ abort_of 0 ++ turns 0 1 ++ abort_of 0 ++ turns 0 1 ++ abort_of 0 ++ turns 0 7

abbrev pub waiting : List Happening
waiting = given_up ++ turns 1 60 ++ turns 0 60 ++ turns 1 60 ++ turns 0 60

-- the word that was read is struck inside, before one is added
abbrev pub struck_inside : List Happening
struck_inside = turns 0 22 ++ upset_of 0 M (codes "v") 1 ++ in_turn

-- the same outside
abbrev pub struck_outside : List Happening
struck_outside = given_up ++ upset_of 0 M (codes "v") 1 ++ turns 0 60

-- once nothing uses it any more; and then another word while the first upset stands
abbrev pub struck_late : List Happening
struck_late = turns 0 60 ++ turns 1 60 ++ upset_of 0 M (codes "v") 1 ++ turns 0 60

abbrev pub struck_twice : List Happening
struck_twice = turns 0 60 ++ turns 1 60 ++ upset_of 0 M (codes "v") 1 ++ upset_of 0 S (codes "s") 1 ++ turns 0 60

-- the word that is given out, between its check and the call
abbrev pub struck_between : List Happening
struck_between = turns 0 60 ++ turns 1 60 ++ turns 0 7 ++ upset_of 0 M (codes "r") 1 ++ turns 0 60

-- ---- what becomes of them

abbrev pub run_of : List Happening → RunParts
run_of events = run_on (harden counted) [] events

-- both critical sections commit, and nobody takes the mutex
abbrev pub Elided : Type 0
Elided = run_of in_turn
    ≡ record { outs = Num 2 ∷ []; upsets = []; aborts = no_aborts; stop = End 0; turns = of_thread 0 9 ∷ of_thread 1 8 ∷ of_thread 0 5 ∷ [] }

-- the first one aborts, and is done again
abbrev pub Aborted : Type 0
Aborted = run_of across
    ≡ record { outs = Num 2 ∷ []; upsets = []; aborts = record no_aborts { conflict = 1 }; stop = End 0; turns = of_thread 0 4 ∷ of_thread 1 8 ∷ of_thread 0 10 ∷ [] }

-- the first one goes on outside
abbrev pub FallenBack : Type 0
FallenBack = run_of waiting ≡ record {
  outs = Num 2 ∷ [];
  upsets = [];
  aborts = other_aborts 3;
  stop = End 0;
  turns = of_thread 0 5 ∷ of_thread 1 1 ∷ of_thread 0 4 ∷ of_thread 1 7 ∷ of_thread 0 5 ∷ [];
}

-- the store is found to be wrong, and an abort undoes it and the upset
abbrev pub HealedInside : Type 0
HealedInside = run_of struck_inside ≡ record {
  outs = Num 2 ∷ [];
  upsets = Undone ∷ [];
  aborts = explicit_aborts 1;
  stop = End 0;
  turns = of_thread 0 9 ∷ of_thread 1 8 ∷ of_thread 0 5 ∷ [];
}

-- outside a check fails before the store
abbrev pub StoppedOutside : Type 0
StoppedOutside = run_of struck_outside ≡ record {
  outs = [];
  upsets = Hit ∷ [];
  aborts = other_aborts 3;
  stop = Fail (record { 0 = 0 }) (codes "main/0/" ++ decimal 25);
  turns = of_thread 0 7 ∷ [];
}

-- what isn't used does no harm
abbrev pub HitLate : Type 0
HitLate = run_of struck_late
    ≡ record { outs = Num 2 ∷ []; upsets = Hit ∷ []; aborts = no_aborts; stop = End 0; turns = of_thread 0 9 ∷ of_thread 1 8 ∷ of_thread 0 5 ∷ [] }

-- a second upset is stacked on one that stands, and one in a window shows: of such runs the law says nothing
abbrev pub HitTwice : Type 0
HitTwice = run_of struck_twice
    ≡ record { outs = Num 2 ∷ []; upsets = Hit ∷ Stacked ∷ []; aborts = no_aborts; stop = End 0; turns = of_thread 0 9 ∷ of_thread 1 8 ∷ of_thread 0 5 ∷ [] }

abbrev pub HitBetween : Type 0
HitBetween = run_of struck_between
    ≡ record { outs = Num 3 ∷ []; upsets = Window ∷ []; aborts = no_aborts; stop = End 0; turns = of_thread 0 9 ∷ of_thread 1 8 ∷ of_thread 0 5 ∷ [] }
