-- Events of a schedule: what one comes to where nothing has stopped, and that nothing changes where something has.
use Rattle.std.proofs.Common.{◌≡◌, ◌∙◌, List, Option, Some, None, ap, sym}
use Rattle.ir_core.specs.declared.types.Tid.{Tid}
use Rattle.sched_file.specs.Events.{Happening, TurnOf}
use Rattle.hard_ir.specs.Hardened.{HardParts}
use Rattle.hard_frames.specs.declared.outcome.Stop.{Stop}
use Rattle.hard_meaning.specs.State.{State, Upset}
use Rattle.hard_meaning.specs.Runs.{happens, unless_stopped, happened}
use Rattle.tx_machine.specs.Core.{CoreParts}
use Rattle.tx_machine.specs.Meant.{state_of, IsTied}
use Rattle.tx_machine.specs.Machined.{Machined}
use Rattle.tx_machine.specs.Turned.{core_turn}
use Rattle.tx_machine.proofs.MeantTurns.{turn-meant}
use Rattle.tx_machine.proofs.Programs.{turn-program}

pub stays-stopped : (h : HardParts) (s : State) (event : Happening) (stop : Stop) → s.stop ≡ Some stop → happened h s event ≡ s
stays-stopped h s event stop is = ap (λ (o : Option Stop). unless_stopped o s (happens h s event)) is

pub goes-on : (h : HardParts) (s : State) (event : Happening) → s.stop ≡ None → happened h s event ≡ happens h s event
goes-on h s event going = ap (λ (o : Option Stop). unless_stopped o s (happens h s event)) going

abbrev pub machined : HardParts → State → Machined
machined h s = record { program = h; state = s }

-- a machine whose parts have changed by an event
pub event-meant : (p q : CoreParts) (ups : List Upset) (next : State) (event : Happening) → p.stop ≡ None → q.program ≡ p.program → next ≡ happens p.program (state_of p ups) event
    → machined q.program next ≡ machined p.program (happened p.program (state_of p ups) event)
event-meant p q ups next event going same is =
    ap (λ (h : HardParts). machined h next) same ∙ ap (machined p.program) (is ∙ sym (goes-on p.program (state_of p ups) event going))

-- a turn of a thread
pub turn-event : (p : CoreParts) (t : Tid) (ups : List Upset) → IsTied p → p.stop ≡ None
    → machined (core_turn t.0 p).program (state_of (core_turn t.0 p) ups) ≡ machined p.program (happened p.program (state_of p ups) (TurnOf t))
turn-event p t ups tied going =
    event-meant p (core_turn t.0 p) ups (state_of (core_turn t.0 p) ups) (TurnOf t) going (turn-program t.0 p) (turn-meant p t.0 ups tied going)
