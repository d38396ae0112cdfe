use Rattle.std.proofs.Common.{◌∙◌, sym, drop}
use Rattle.ir_grammar.specs.Words.{with_flag, flag_of}
use Rattle.ir_grammar.proofs.Turns.{some_head, no_head, one_taken, gather_more, gather_over}
use Rattle.ir_parse_parts.proofs.reader.Reader.flags.Goals as goal

pub flags-preserved : goal.flags-preserved
flags-preserved c =
    rw (c.with_flag-kept.ensures, c.skip.ensures)
    (gather_more (flag_of c.args.set) with_flag c.flags.kept c.flags.self (drop 1 c.flags.self) c.in-Some.flag (some_head (flag_of c.args.set) c.flags.self c.in-Some.flag (sym c.in-Some.ensures)) (one_taken (flag_of c.args.set) c.flags.self c.in-Some.flag (sym c.in-Some.ensures))
    ∙ c.flags.invariant)

pub returns : goal.returns
returns c = sym c.flags.invariant ∙ gather_over (flag_of c.args.set) with_flag c.flags.kept c.flags.self (no_head (flag_of c.args.set) c.flags.self (sym c.in_default.ensures))
