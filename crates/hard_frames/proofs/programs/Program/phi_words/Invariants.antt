-- the words so far, and those of the rest
use Rattle.std.proofs.Common.{◌≡◌, ◌++◌, drop}
use Rattle.std.specs.List.{filter_map}
use Rattle.std.specs.Option.{option_map}
use Rattle.ir_layout.specs.Memory.{layout_of}
use Rattle.inst_meaning.specs.Phis.{phi_words}
use Rattle.hard_frames.specs.Frames.{phi_on, phis_on}
use Rattle.hard_frames.proofs.programs.Program.phi_words.Given as goal

abbrev pub invariant-loop-of : goal.invariant-loop-of
invariant-loop-of l =
    option_map (λ rest. l.words.items ++ rest) (phi_words (layout_of l.self.heads) l.registers l.from (filter_map (phi_on l.side) (drop l.of-index l.block.phis)))
    ≡ phi_words (layout_of l.self.heads) l.registers l.from (phis_on l.side l.block)
