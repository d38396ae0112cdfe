use Rattle.std.proofs.Common.{◌∙◌, ap, map}
use Rattle.hard_ir.specs.Hardened.{hard_func, heads_of}
use Rattle.hard_ir.specs.Image.{flow_table}
use Rattle.shadow_flow.proofs.HeadFacts.{flow-is_hardened, flow-is}
use Rattle.shadow_flow.proofs.pass.shadow.Goals as goal

pub new-requires : goal.new-requires
new-requires c =
    flow-is_hardened c.args.a.now _ _ c.module-m.ensures.accepted c.module-m.ensures.text (c.in_ok-heads.ensures ∙ ap heads_of c.module-m.ensures.module)
    (c.in_ok-funcs.ensures.funcs ∙ ap (map (hard_func flow_table)) (c.funcs.ensures ∙ ap (λ m. m.funcs) c.module-m.ensures.module)) c.in_ok-funcs.ensures.short

pub returns-clause-answer : goal.returns-clause-answer
returns-clause-answer c = record {
  source = c.args.a.now;
  accepted = c.module-m.ensures.accepted;
  of_text = c.module-m.ensures.text;
  is = flow-is c.args.a.now _ _ _ (c.in_ok-heads.ensures ∙ ap heads_of c.module-m.ensures.module)
      (c.in_ok-funcs.ensures.funcs ∙ ap (map (hard_func flow_table)) (c.funcs.ensures ∙ ap (λ m. m.funcs) c.module-m.ensures.module)) c.in_ok-hardened.ensures;
}
