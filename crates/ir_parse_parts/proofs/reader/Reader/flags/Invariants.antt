use Rattle.std.proofs.Common.{◌≡◌, length}
use Rattle.std.specs.Prelude.{fold}
use Rattle.ir_grammar.specs.Parts.{read_seen, all_of}
use Rattle.ir_grammar.specs.Words.{with_flag, flag_of, flags}
use Rattle.ir_parse_parts.proofs.reader.Reader.flags.Given as goal

-- the flags so far and those that are read of the rest are all
abbrev pub invariant-flags : goal.invariant-flags
invariant-flags l = read_seen (fold with_flag l.kept) ((all_of (flag_of l.set)).reads l.self) ≡ (flags l.set).reads l.fn.self

abbrev pub decreases-flags : goal.decreases-flags
decreases-flags l = length l.self
