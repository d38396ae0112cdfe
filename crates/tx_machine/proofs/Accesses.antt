-- Actions on memory as actions without memory.
use Rattle.std.proofs.Common.{◌≡◌, Some, None, refl}
use Rattle.mem_image.specs.Bytes.{Memory}
use Rattle.inst_meaning.specs.declared.actions.Action.{Action}
use Rattle.inst_meaning.specs.declared.actions.Action.TheVariants.{Assign, Reserve, Read, Write, Update, Pass, Jump, Call, Ask, Create, Join, Exit, Return, Fault}
use Rattle.process.specs.Outcome.{touch_of}
use Rattle.tx_machine.specs.Resolved.{resolved, resolved_access}

-- one that isn't on memory
pub apart-none : (mem : Memory) (action : Action) → resolved_access mem action ≡ None → (touch_of action ≡ None) × (resolved mem action ≡ action)
apart-none mem (Read place atomic) e = cc
apart-none mem (Write place n atomic) e = cc
apart-none mem (Update place update) e = cc
apart-none mem (Assign n) e = (refl, refl)
apart-none mem (Reserve n) e = (refl, refl)
apart-none mem Pass e = (refl, refl)
apart-none mem (Jump label) e = (refl, refl)
apart-none mem (Call n words) e = (refl, refl)
apart-none mem (Ask request) e = (refl, refl)
apart-none mem (Create address n argument) e = (refl, refl)
apart-none mem (Join other) e = (refl, refl)
apart-none mem (Exit code) e = (refl, refl)
apart-none mem (Return n) e = (refl, refl)
apart-none mem (Fault cause) e = (refl, refl)

-- and one that is
pub apart-some : (mem : Memory) (action simple : Action) → resolved_access mem action ≡ Some simple → resolved mem action ≡ simple
apart-some mem (Read place atomic) simple e = cc
apart-some mem (Write place n atomic) simple e = cc
apart-some mem (Update place update) simple e = cc
apart-some mem (Assign n) simple e = cc
apart-some mem (Reserve n) simple e = cc
apart-some mem Pass simple e = cc
apart-some mem (Jump label) simple e = cc
apart-some mem (Call n words) simple e = cc
apart-some mem (Ask request) simple e = cc
apart-some mem (Create address n argument) simple e = cc
apart-some mem (Join other) simple e = cc
apart-some mem (Exit code) simple e = cc
apart-some mem (Return n) simple e = cc
apart-some mem (Fault cause) simple e = cc
