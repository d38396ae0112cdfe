use Rattle.std.proofs.Common.{◌≤◌}
use Rattle.ir_core.specs.Module.{ModuleParts}
use Rattle.ir_parse_top.specs.Text.{Text, IsOfText}
use Rattle.ir_parse_top.specs.Laws.{instruction_count}
use Rattle.ir_parse_top.proofs.CountLaws.{modules_small}
use Rattle.ir_parse_top.proofs.Telling.{ok_map}
use Rattle.ir_parse_top.proofs.whole.parse_module.Goals as goal

pub returns-clause-of_text : goal.returns-clause-of_text
returns-clause-of_text c = ok_map (Text c.args.bytes.now) IsOfText c.read_module-result.result (λ m t. record { text = c.args.bytes.now; stands = t }) c.read_module-result.ensures.module

pub returns-clause-small : goal.returns-clause-small
returns-clause-small c = ok_map (Text c.args.bytes.now) (λ (m : ModuleParts). instruction_count m ≤ 4194304) c.read_module-result.result (λ m t. modules_small c.args.bytes.now m c.requires t) c.read_module-result.ensures.module
