-- What holds of each line of an accepted module.
use Rattle.std.proofs.Common.{ℕ, zero, suc, ◌≡◌, ◌+◌, Bool, true, false, not, List, [], ◌∷◌, ◌++◌, map, slice_get, Option, Some, None, refl, subst, arith, append_assoc}
use Rattle.std.specs.Prelude.{if◌then◌else◌}
use Rattle.std.specs.Option.{option_map, option_or}
use Rattle.ir_core.specs.declared.instruction.Inst.{Inst}
use Rattle.ir_core.specs.declared.instruction.Block.{Block}
use Rattle.ir_core.specs.Module.{ModuleParts, FuncParts}
use Rattle.ir_layout.specs.Limits.{first_limit}
use Rattle.ir_lines.specs.declared.site.Site.TheVariants.{Module}
use Rattle.ir_lines.specs.declared.site.Named.{Named}
use Rattle.ir_lines.specs.Lines.{Line, TypeLine, GlobalLine, DeclareLine, HeadLine, BlockLine, InstLine, site_of, inst_lines, funcs_lines, code_lines, lines_of, first_told, told_at}
use Rattle.ir_names.specs.Names.{mentions_in, first_strange, is_defined, unknown, duplicate}
use Rattle.ir_calls.specs.Calls.{calls_keep}
use Rattle.ir_types.specs.Types.{types_keep}
use Rattle.ir_check.specs.declared.fault.Kind.TheVariants.{BadTerminator, BadCall, TypeMismatch, NoMain, EntryHasPredecessor}
use Rattle.ir_check.specs.Blocks.{terminators_keep, entries_keep}
use Rattle.ir_check.specs.CodeLimits.{limit_in, limit_text}
use Rattle.ir_check.specs.Functions.{has_main}
use Rattle.ir_check.specs.Faults.{Fault, IsAccepted, fault_at, rule_fault, duplicate_fault, unknown_fault, limit_fault, main_fault, shape_fault, code_fault}
use Rattle.hard_ir.specs.Fit.{outer_lines}
use Rattle.ir_check.proofs.Members.{IsIn, next-in, in-front, passed-not, none-found}
use Rattle.ir_check.proofs.ModuleLines.{neither, no-image, kept, in-inst, in-func, in-block}
pub use Rattle.ir_check.proofs.ModuleLines.{of-code}
use Rattle.hard_laws.proofs.HardLines.{IsBlockOf}

-- ---- rules

none-told : {A : Type 0} (told : Line → Option A) (line : Line) (lines : List Line) → first_told told lines ≡ None → IsIn line lines → told line ≡ None
none-told told line [] e (k, at) = absurd cc
none-told told line (x ∷ lines) e (zero, at) =
    let same : x ≡ line = cc in
    subst (λ (y : Line). told y ≡ None) same (no-image (λ fact. (site_of x, fact)) (told x) (neither (told_at x (told x)) (first_told told lines) e).0)
none-told told line (x ∷ lines) e (suc k, at) = none-told told line lines (neither (told_at x (told x)) (first_told told lines) e).1 (k, at)

-- ---- what an accepted module keeps

pub record Sound (m : ModuleParts) : Type 0 where
  pub distinct : duplicate m ≡ None
  pub known : (line : Line) (name : Named) → IsIn line (lines_of m) → IsIn name (mentions_in line) → is_defined m name ≡ true
  pub limits : first_limit m ≡ None
  pub code_limits : (line : Line) → IsIn line (code_lines m) → limit_in m.types line ≡ None
  pub terminators : (line : Line) → IsIn line (lines_of m) → terminators_keep line ≡ true
  pub calls : (line : Line) → IsIn line (lines_of m) → calls_keep m line ≡ true
  pub types : (line : Line) → IsIn line (lines_of m) → types_keep m line ≡ true
  pub main : has_main m ≡ true
  pub entries : (line : Line) → IsIn line (lines_of m) → entries_keep line ≡ true

main-there : (b : Bool) (fault : Fault) → (if b then None else Some fault) ≡ None → b ≡ true
main-there true fault e = refl
main-there false fault e = cc

pub sound : (m : ModuleParts) → IsAccepted m → Sound m
sound m accepted =
    let calls = rule_fault m BadCall (calls_keep m) in
    let types = rule_fault m TypeMismatch (types_keep m) in
    let entries = rule_fault m EntryHasPredecessor entries_keep in
    let a = neither (duplicate_fault m) (option_or (unknown_fault m) (option_or (limit_fault m) (code_fault m))) accepted.lines in
    let b = neither (unknown_fault m) (option_or (limit_fault m) (code_fault m)) a.1 in
    let c = neither (limit_fault m) (code_fault m) b.1 in
    let d = neither (rule_fault m BadTerminator terminators_keep) (option_or calls (option_or types (shape_fault m))) c.1 in
    let e = neither calls (option_or types (shape_fault m)) d.1 in
    let f = neither types (shape_fault m) e.1 in
    let g = neither (main_fault m) entries f.1 in
    let limit = neither (first_limit m) (option_map (limit_text m) (first_told (limit_in m.types) (code_lines m))) (no-image _ _ c.0) in
    record {
      distinct = no-image _ (duplicate m) a.0;
      known = λ line name here mentioned.
          passed-not (is_defined m name) (none-found (λ name. not (is_defined m name)) name (mentions_in line)
          (none-told (λ line. first_strange (is_defined m) (mentions_in line)) line (lines_of m) (no-image _ (unknown m) b.0) here) mentioned);
      limits = limit.0;
      code_limits = λ line here. none-told (limit_in m.types) line (code_lines m) (no-image (limit_text m) _ limit.1) here;
      terminators = λ line here. kept m BadTerminator terminators_keep line d.0 here;
      calls = λ line here. kept m BadCall (calls_keep m) line e.0 here;
      types = λ line here. kept m TypeMismatch (types_keep m) line f.0 here;
      main = main-there (has_main m) (fault_at m NoMain Module) g.0;
      entries = λ line here. kept m EntryHasPredecessor entries_keep line g.1 here;
    }

-- ---- lines

pub head-line : (m : ModuleParts) (n : ℕ) (f : FuncParts) → slice_get m.funcs n ≡ Some f → IsIn (HeadLine n f) (code_lines m)
head-line m n f at = in-func m n f (HeadLine n f) at (0, refl)

pub block-line : (m : ModuleParts) (n b : ℕ) (f : FuncParts) (block : Block) → IsBlockOf m n f b block → IsIn (BlockLine n f b block) (code_lines m)
block-line m n b f block at = in-block m n b f block (BlockLine n f b block) at.0 at.1 (0, refl)

pub inst-line : (m : ModuleParts) (n b : ℕ) (f : FuncParts) (block : Block) (inst : Inst) → IsBlockOf m n f b block → (h : IsIn inst block.insts)
    → IsIn (InstLine n f b h.0 inst) (code_lines m)
inst-line m n b f block inst at h =
    let start : h.0 ≡ 0 + h.0 = omega arith in
    in-block m n b f block (InstLine n f b h.0 inst) at.0 at.1 (next-in (InstLine n f b h.0 inst) (BlockLine n f b block) (inst_lines n f b 0 block.insts) (in-inst n f b 0 h.0 h.0 inst block.insts h.1 start))

-- types, globals and declares
pub outer-line : (m : ModuleParts) (line : Line) → IsIn line (outer_lines m) → IsIn line (lines_of m)
outer-line m line h = subst (IsIn line) parts (in-front line (outer_lines m) (funcs_lines 0 m.funcs) h)
  where
    parts : outer_lines m ++ funcs_lines 0 m.funcs ≡ lines_of m
    parts = append_assoc (map TypeLine m.types ++ map GlobalLine m.globals) (map DeclareLine m.declares) (funcs_lines 0 m.funcs)
