-- A run over the events of a schedule, one by one.
use Rattle.std.proofs.Common.{◌≡◌, List, ◌∷◌, ap, sym, ◌∙◌}
use Rattle.sched_file.specs.Events.{Happening}
use Rattle.hard_ir.specs.Hardened.{HardParts}
use Rattle.hard_meaning.specs.State.{State}
use Rattle.hard_meaning.specs.Runs.{happened, run_from}
use Rattle.tx_machine.specs.Machined.{Machined}

-- an event is drawn from those that are left, and has happened
module _ (left rest : List Happening) (event : Happening) (drawn : left ≡ event ∷ rest) (h : HardParts) (before after : Machined)
    (program : before.program ≡ h) (once : after ≡ record before { state = happened before.program before.state event }) where
  pub same-program : after.program ≡ h
  same-program = ap (λ (machine : Machined). machine.program) once ∙ program

  state-after : after.state ≡ happened h before.state event
  state-after = ap (λ (machine : Machined). machine.state) once ∙ ap (λ (p : HardParts). happened p before.state event) program

  pub same-run : run_from h after.state rest ≡ run_from h before.state left
  same-run = ap (λ (s : State). run_from h s rest) state-after ∙ sym (ap (run_from h before.state) drawn)
