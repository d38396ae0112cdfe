-- The heads of an accepted module of a text, with short lists of instructions, make a hardened module.
use Rattle.std.proofs.Common.{◌≡◌, ℕ, List, [], map, Option, Some, None, slice_get, sym, subst, ap, ◌∙◌}
use Rattle.std.proofs.lemmas.List.{length-map}
use Rattle.std.proofs.lemmas.Option.{slice_get-map}
use Rattle.std.specs.Option.{option_map}
use Rattle.ir_core.specs.Module.{FuncParts, ModuleParts}
use Rattle.ir_parse_top.specs.Text.{IsOfText}
use Rattle.ir_check.specs.Faults.{IsAccepted}
use Rattle.hard_ir.specs.declared.instruction.HBlock.{HBlock}
use Rattle.hard_ir.specs.Facts.{IsHardened, AreShort}
use Rattle.hard_ir.specs.Hardened.{HardParts, hard_func, head_of, heads_of, hardened_by}
use Rattle.hard_ir.specs.Image.{flow_table}
use Rattle.hard_laws.proofs.Fitting.{flow-fits}
use Rattle.hard_grammar.proofs.Modules.{flow_has_lines}

-- ---- functions

bare-head : (found : Option FuncParts) (f : FuncParts) → option_map head_of found ≡ Some f → f.blocks ≡ []
bare-head None f e = absurd cc
bare-head (Some g) f e = let is : head_of g ≡ f = cc in sym (ap (λ (x : FuncParts). x.blocks) is)

bare-heads : (funcs : List FuncParts) (n : ℕ) (f : FuncParts) → slice_get (map head_of funcs) n ≡ Some f → f.blocks ≡ []
bare-heads funcs n f at = bare-head (slice_get funcs n) f (sym (slice_get-map head_of funcs n) ∙ at)

-- ---- the hardened module

abbrev of_parts : ModuleParts → List (List HBlock) → HardParts
of_parts heads funcs = record { heads = heads; funcs = funcs }

IsHardened-flow : (m : ModuleParts) → IsAccepted m → IsOfText m → AreShort (map (hard_func flow_table) m.funcs)
    → IsHardened (of_parts (heads_of m) (map (hard_func flow_table) m.funcs))
IsHardened-flow m is of_text short = record {
  bare = bare-heads m.funcs;
  count = length-map m.funcs (hard_func flow_table) ∙ sym (length-map m.funcs head_of);
  short = short;
  fits = flow-fits m is;
  lines = flow_has_lines m is of_text;
}

pub flow-is_hardened : (m : ModuleParts) (heads : ModuleParts) (funcs : List (List HBlock)) → IsAccepted m → IsOfText m → heads ≡ heads_of m
    → funcs ≡ map (hard_func flow_table) m.funcs → AreShort funcs → IsHardened (of_parts heads funcs)
flow-is_hardened m heads funcs is of_text of_heads of_funcs short =
    subst (λ h. IsHardened (of_parts h funcs)) (sym of_heads) (subst (λ fs. IsHardened (of_parts (heads_of m) fs)) (sym of_funcs) (IsHardened-flow m is of_text (subst AreShort of_funcs short)))

pub flow-is : (m heads : ModuleParts) (funcs : List (List HBlock)) (h : HardParts) → heads ≡ heads_of m → funcs ≡ map (hard_func flow_table) m.funcs → h ≡ of_parts heads funcs
    → h ≡ hardened_by flow_table m
flow-is m heads funcs h of_heads of_funcs is = is ∙ ap (λ x. of_parts x funcs) of_heads ∙ ap (of_parts (heads_of m)) of_funcs
