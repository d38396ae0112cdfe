-- the words that are left make of the registers what all make
use Rattle.std.proofs.Common.{◌≡◌, length, drop}
use Rattle.inst_meaning.specs.Phis.{all_assigned}
use Rattle.src_meaning.proofs.Params.{words_for}
use Rattle.hard_frames.proofs.programs.assign_params.Given as goal

abbrev pub invariant-loop-at : goal.invariant-loop-at
invariant-loop-at l =
    all_assigned (drop (length l.yielded) (words_for l.params l.words)) l.registers ≡ all_assigned (words_for l.params l.words) l.initial.registers
