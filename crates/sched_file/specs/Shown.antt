-- An event that was drawn, without where its upset lies in memory.
use Rattle.sched_file.specs.declared.entries.Event.{Event}
use Rattle.sched_file.specs.declared.entries.Event.TheVariants as events
use Rattle.sched_file.specs.Events.{Happening, TurnOf, AbortOf, UpsetBy}

abbrev pub shown : Event → Happening
shown (events.Turn thread) = TurnOf thread
shown (events.Abort thread) = AbortOf thread
shown (events.Upset upset) = UpsetBy upset.now
