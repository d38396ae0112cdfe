-- An upset whose name stands in the text, as the entry of its line.
use Rattle.sched_file.specs.declared.entries.Line.{Line}
use Rattle.sched_file.specs.declared.entries.Line.TheVariants as entries
use Rattle.sched_file.specs.declared.forms.Upset.{Upset}

abbrev pub upset_of : Upset → Line
upset_of u = entries.Upset (record { tid = u.tid; depth = u.depth; side = u.side; name = u.name.now; mask = u.mask })
