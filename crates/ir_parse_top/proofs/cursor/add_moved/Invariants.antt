use Rattle.std.proofs.Common.{◌≡◌, ◌++◌, length}
use Rattle.std.specs.List.{AllByRecursion}
use Rattle.ir_core.specs.Tokens.{IsWithin}
use Rattle.ir_parse_top.specs.Text.{all_moved}
use Rattle.ir_parse_top.proofs.cursor.add_moved.Given as goal

abbrev pub invariant-tokens : goal.invariant-tokens
invariant-tokens l = (l.all.items ++ all_moved l.at l.left ≡ l.fn.all.items ++ all_moved l.at l.fn.tokens) × AllByRecursion (IsWithin 4194304) l.left

abbrev pub decreases-tokens : goal.decreases-tokens
decreases-tokens l = length l.left
