-- Actions on memory as actions that need none, once the word that is found is known.
use Rattle.std.specs.Prelude.{Bool, true, false, Option, Some, None}
use Rattle.ir_layout.specs.Memory.{is_valid}
use Rattle.mem_image.specs.Accesses.{bytes}
use Rattle.mem_image.specs.Bytes.{Memory, peek}
use Rattle.inst_meaning.specs.Accesses.{found}
use Rattle.inst_meaning.specs.declared.actions.Action.{Action}
use Rattle.inst_meaning.specs.declared.actions.Action.TheVariants.{Assign, Reserve, Read, Write, Update, Pass, Jump, Call, Ask, Create, Join, Exit, Return, Fault}
use Rattle.inst_meaning.specs.declared.actions.Cause.TheVariants.{Access}
use Rattle.inst_meaning.specs.declared.actions.Place.{Place}

-- one that isn't valid can't be done
abbrev pub where_valid : Bool → Action → Action
where_valid true action = action
where_valid false action = Fault Access

abbrev pub valid_at : Memory → Place → Action → Action
valid_at mem place action = where_valid (is_valid mem.places place.address (bytes place.size)) action

-- what is left of an action for its thread
abbrev pub resolved : Memory → Action → Action
resolved mem (Read place atomic) = valid_at mem place (Assign (peek mem place.address (bytes place.size)))
resolved mem (Write place n atomic) = valid_at mem place Pass
resolved mem (Update place update) = valid_at mem place (Assign (found update (peek mem place.address (bytes place.size))))
resolved mem (Assign n) = Assign n
resolved mem (Reserve n) = Reserve n
resolved mem Pass = Pass
resolved mem (Jump label) = Jump label
resolved mem (Call n words) = Call n words
resolved mem (Ask request) = Ask request
resolved mem (Create address n argument) = Create address n argument
resolved mem (Join other) = Join other
resolved mem (Exit code) = Exit code
resolved mem (Return n) = Return n
resolved mem (Fault cause) = Fault cause

-- the actions on memory alone
abbrev pub resolved_access : Memory → Action → Option Action
resolved_access mem (Read place atomic) = Some (resolved mem (Read place atomic))
resolved_access mem (Write place n atomic) = Some (resolved mem (Write place n atomic))
resolved_access mem (Update place update) = Some (resolved mem (Update place update))
resolved_access mem (Assign n) = None
resolved_access mem (Reserve n) = None
resolved_access mem Pass = None
resolved_access mem (Jump label) = None
resolved_access mem (Call n words) = None
resolved_access mem (Ask request) = None
resolved_access mem (Create address n argument) = None
resolved_access mem (Join other) = None
resolved_access mem (Exit code) = None
resolved_access mem (Return n) = None
resolved_access mem (Fault cause) = None
