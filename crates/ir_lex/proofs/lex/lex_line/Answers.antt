use Rattle.std.proofs.lemmas.Result.{IfOk-weaker}
use Rattle.ir_core.specs.Tokens.{HasTokens, AreWithin}
use Rattle.ir_core.proofs.TokenPlaces.{tokens_within}
use Rattle.ir_lex.proofs.lex.lex_line.Goals as goal
use Rattle.std.proofs.Common.{length}

pub returns-clause-within : goal.returns-clause-within
returns-clause-within c = IfOk-weaker c.cut.result (λ tokens. HasTokens c.args.line.now tokens.items) (λ tokens. AreWithin (length c.args.line.now) tokens.items) (λ tokens h. tokens_within c.args.line.now tokens.items h) c.cut.ensures.tokens
