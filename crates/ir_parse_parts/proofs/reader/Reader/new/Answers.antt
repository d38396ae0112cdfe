use Rattle.std.proofs.Common.{length, sym, ap, ◌∙◌, subst, ◌≤◌}
use Rattle.std.proofs.lemmas.List.{length-take-le}
use Rattle.ir_parse_parts.proofs.Fronts.{front_within, front_taken}
use Rattle.ir_parse_parts.proofs.reader.Reader.new.Goals as goal

pub slice_bounds-result-end : goal.slice_bounds-result-end
slice_bounds-result-end c = sym (length-take-le c.shallow_len.result c.args.tokens.now (subst (λ n. n ≤ length c.args.tokens.now) (sym c.shallow_len.ensures) (front_within c.args.line.now c.args.tokens.now)))

pub returns : goal.returns
returns c = front_taken c.args.line.now c.args.tokens.now c.shallow_len.result c.shallow_len.ensures
