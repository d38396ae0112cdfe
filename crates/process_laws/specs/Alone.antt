-- Actions that a thread and memory do alone.
use Rattle.inst_meaning.specs.declared.actions.Action.{Action}
use Rattle.inst_meaning.specs.declared.actions.Action.TheVariants.{Assign, Reserve, Read, Write, Update, Pass, Jump, Call, Ask, Create, Join, Exit, Return, Fault}

abbrev pub IsAlone : Action → Type 0
IsAlone (Assign n) = Unit {0}
IsAlone (Reserve size) = Unit {0}
IsAlone (Read place atomic) = Unit {0}
IsAlone (Write place n atomic) = Unit {0}
IsAlone (Update place update) = Unit {0}
IsAlone Pass = Unit {0}
IsAlone (Jump label) = Unit {0}
IsAlone (Call n words) = Unit {0}
IsAlone (Ask request) = ⊥
IsAlone (Create address n argument) = ⊥
IsAlone (Join other) = ⊥
IsAlone (Exit code) = ⊥
IsAlone (Return n) = Unit {0}
IsAlone (Fault cause) = Unit {0}
