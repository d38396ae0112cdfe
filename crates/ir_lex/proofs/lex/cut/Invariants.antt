use Rattle.std.proofs.Common.{ℕ, ◌-◌, ◌≤◌, List, ◌++◌, length, drop}
use Rattle.ir_core.specs.Tokens.{Tokens, BadColumn, HasTokens, HasBadColumn}
use Rattle.ir_core.specs.declared.text.Token.{Token}
use Rattle.ir_lex.proofs.lex.cut.Given as goal

-- what is left of the line has the rest of its tokens, and its bad column
abbrev pub invariant-places : goal.invariant-places
invariant-places l =
    record {
      within : l.at ≤ length l.line;
      tokens_left : (tokens : List Token) → Tokens l.first l.at (drop l.at l.line) tokens → HasTokens l.line (l.tokens.items ++ tokens);
      column_left : (column : ℕ) → BadColumn l.first l.at (drop l.at l.line) column → HasBadColumn l.line column;
    }

abbrev pub decreases-places : goal.decreases-places
decreases-places l = length l.line - l.at
