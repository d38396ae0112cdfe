use Rattle.sched_file.proofs.Meanings.{same_meaning}
use Rattle.sched_file.proofs.laws.one_meaning.Goals as goal

pub returns : goal.returns
returns c bytes args others lines again h k = same_meaning _ args others lines again h.means k.means
