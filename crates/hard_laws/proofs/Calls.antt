-- The lines of a hardened module keep what is asked of calls: it looks at heads alone.
use Rattle.std.proofs.Common.{ℕ, ◌≡◌, ◌∙◌, Bool, true, ◌&&◌, not, List, [], ◌∷◌, ◌++◌, map, Option, Some, None, refl, ap, sym}
use mathlib.Core.Path.{fun_ext}
use Rattle.std.specs.List.{list_all}
use Rattle.ir_core.specs.declared.types.Ty.{Ty}
use Rattle.ir_core.specs.declared.types.Loc.{Loc}
use Rattle.ir_core.specs.declared.types.Sym.{Sym}
use Rattle.ir_core.specs.declared.values.Val.{Val}
use Rattle.ir_core.specs.declared.values.Val.TheVariants as values
use Rattle.ir_core.specs.declared.values.Init.{Init, fold-Init}
use Rattle.ir_core.specs.declared.values.Init.TheOpen.{Init-F}
use Rattle.ir_core.specs.declared.instruction.Inst.{Inst}
use Rattle.ir_core.specs.declared.instruction.Inst.TheVariants as insts
use Rattle.ir_core.specs.Module.{ModuleParts, FuncParts}
use Rattle.ir_lines.specs.Lines.{Line, TypeLine, GlobalLine, DeclareLine, HeadLine, BlockLine, InstLine}
use Rattle.ir_calls.specs.declared.externals.External.{External}
use Rattle.ir_calls.specs.declared.externals.External.TheVariants.{PthreadCreate, PthreadJoin}
use Rattle.ir_calls.specs.Calls.{Standing, of_global, of_declare, of_func, first_standing, standing_of, is_function, is_callable, is_plain, args_plain, are_plain, values_of, plain_step, is_plain_init, takes, is_start, names_start, third_is_start, second_is_null, without_third, args_keep, result_keeps, call_keeps, inst_keeps, external_named, calls_keep}
use Rattle.hard_ir.specs.declared.instruction.HVal.{HVal}
use Rattle.hard_ir.specs.declared.instruction.HInst.{HInst}
use Rattle.hard_ir.specs.declared.instruction.HInst.TheVariants.{ChkMem, Do}
use Rattle.hard_ir.specs.Image.{Table, unflagged, on_shadow}
use Rattle.std.proofs.lemmas.List.Folds.{list_all-append}
use Rattle.ir_core.proofs.Lengths.{both_true}
use Rattle.hard_ir.specs.Hardened.{head_of, heads_of, hardened_by}
use Rattle.hard_ir.specs.Fit.{HardFunc, HInstLine, constant_in, hard_calls_keep, outer_lines}
use Rattle.ir_check.proofs.Members.{all-in}
use Rattle.hard_laws.proofs.Images.{is_quiet, IsPart}
use Rattle.hard_laws.proofs.HardLines.{EachKeeps, hard_of, both}
use Rattle.hard_laws.proofs.Accepted.{Sound, head-line, inst-line, of-code, outer-line}

-- ---- what is asked of calls by the heads

module _ (m : ModuleParts) where
  funcs-stand : (funcs : List FuncParts) → map of_func (map head_of funcs) ≡ map of_func funcs
  funcs-stand [] = refl
  funcs-stand (f ∷ funcs) = ap (λ (rest : List (Sym × Standing)). of_func f ∷ rest) (funcs-stand funcs)

  standing-same : (sym : Sym) → standing_of (heads_of m) sym ≡ standing_of m sym
  standing-same sym = ap (λ (rest : List (Sym × Standing)). first_standing sym (map of_global m.globals ++ map of_declare m.declares ++ rest)) (funcs-stand m.funcs)

  function-same : (sym : Sym) → is_function (heads_of m) sym ≡ is_function m sym
  function-same sym = ap is_callable (standing-same sym)

  plain-same : is_plain (heads_of m) ≡ is_plain m
  plain-same = fun_ext by_value
    where
      by_value : (val : Val) → is_plain (heads_of m) val ≡ is_plain m val
      by_value (values.Global sym) = ap not (function-same sym)
      by_value (values.Gep gep) = ap not (function-same gep.sym)
      by_value val = refl

  vals-same : (vals : List Val) → are_plain (heads_of m) vals ≡ are_plain m vals
  vals-same vals = ap (λ (test : Val → Bool). list_all test vals) plain-same

  args-same : (args : List (Ty × Val)) → args_plain (heads_of m) args ≡ args_plain m args
  args-same args = ap (λ (test : Val → Bool). list_all (λ arg. test arg.1) args) plain-same

  step-same : plain_step (heads_of m) ≡ plain_step m
  step-same = fun_ext by_layer
    where
      by_layer : (layer : Init-F Bool) → plain_step (heads_of m) layer ≡ plain_step m layer
      by_layer (Init-F.Addr sym) = ap not (function-same sym)
      by_layer (Init-F.Gep gep) = ap not (function-same gep.sym)
      by_layer layer = refl

  init-same : (init : Init) → is_plain_init (heads_of m) init ≡ is_plain_init m init
  init-same init = ap (λ (step : Init-F Bool → Bool). fold-Init Bool step init) step-same

  start-same : (val : Val) → names_start (heads_of m) val ≡ names_start m val
  start-same (values.Global sym) = ap is_start (standing-same sym)
  start-same val = refl

  third-same : (args : List (Ty × Val)) → third_is_start (heads_of m) args ≡ third_is_start m args
  third-same [] = refl
  third-same (first ∷ []) = refl
  third-same (first ∷ second ∷ []) = refl
  third-same (first ∷ second ∷ third ∷ rest) = start-same third.1

  asked-same : (external : Option External) (args : List (Ty × Val)) → args_keep (heads_of m) external args ≡ args_keep m external args
  asked-same (Some PthreadCreate) args =
      ap (λ (b : Bool). second_is_null args && b && args_plain (heads_of m) (without_third args)) (third-same args)
      ∙ ap (λ (b : Bool). second_is_null args && third_is_start m args && b) (args-same (without_third args))
  asked-same (Some PthreadJoin) args = ap (λ (b : Bool). second_is_null args && b) (args-same args)
  asked-same (Some external) args = args-same args
  asked-same None args = args-same args

  call-same : (dst : Option Loc) (ret : Ty) (callee : Sym) (args : List (Ty × Val)) → call_keeps (heads_of m) dst ret callee args ≡ call_keeps m dst ret callee args
  call-same dst ret callee args =
      ap (λ (s : Option Standing). takes s ret (map (λ arg. arg.0) args) && result_keeps dst ret && args_keep (heads_of m) (external_named m callee) args) (standing-same callee)
      ∙ ap (λ (b : Bool). takes (standing_of m callee) ret (map (λ arg. arg.0) args) && result_keeps dst ret && b) (asked-same (external_named m callee) args)

  inst-same : (inst : Inst) → inst_keeps (heads_of m) inst ≡ inst_keeps m inst
  inst-same (insts.Call dst ret callee args) = call-same dst ret callee args
  inst-same inst = vals-same (values_of inst)

  line-same : (line : Line) → calls_keep (heads_of m) line ≡ calls_keep m line
  line-same (TypeLine named) = refl
  line-same (GlobalLine global) = init-same global.init
  line-same (DeclareLine declare) = refl
  line-same (HeadLine n f) = refl
  line-same (BlockLine n f b block) = refl
  line-same (InstLine n f b i inst) = inst-same inst

calls-unflagged : (m : ModuleParts) (inst : Inst) → inst_keeps m (unflagged inst) ≡ inst_keeps m inst
calls-unflagged m (insts.Bin dst op flags w a b) = refl
calls-unflagged m inst = refl

-- no function's name stands in an operand on the shadow's side either
shadow-plain : (m : ModuleParts) (val : Val) → is_plain m val ≡ true → are_plain m (constant_in (on_shadow val)) ≡ true
shadow-plain m (values.Reg reg) e = refl
shadow-plain m (values.Int n) e = refl
shadow-plain m values.Null e = refl
shadow-plain m (values.Global sym) e = both e refl
shadow-plain m (values.Gep gep) e = both e refl

module _ (table : Table) (m : ModuleParts) (sound : Sound m) where
  call-part : (n b i : ℕ) (f : HardFunc) (inst : Inst) (item : HInst) → inst_keeps m inst ≡ true → IsPart inst item
      → hard_calls_keep (hardened_by table m) (HInstLine n f b i item) ≡ true
  call-part n b i f inst (Do side other retires) e (same, retire) =
      both (ap (inst_keeps (heads_of m)) same ∙ calls-unflagged (heads_of m) inst ∙ inst-same m inst ∙ e) refl
  call-part n b i f inst (ChkMem ty ptr val) e (p, v, of_ptr, of_val, store) =
      let stored : are_plain m (v ∷ p ∷ []) ≡ true = sym (ap (inst_keeps m) store) ∙ e in
      let word = both_true (is_plain m v) (is_plain m p && true) stored in
      let pointer = both_true (is_plain m p) true word.1 in
      both refl
      (vals-same m (constant_in ptr ++ constant_in val)
      ∙ ap (λ (x : HVal). are_plain m (constant_in x ++ constant_in val)) of_ptr ∙ ap (λ (x : HVal). are_plain m (constant_in (on_shadow p) ++ constant_in x)) of_val
      ∙ list_all-append (is_plain m) (constant_in (on_shadow p)) (constant_in (on_shadow v)) ∙ both (shadow-plain m p pointer.0) (shadow-plain m v word.0))
  call-part n b i f inst item e part = refl

  call-quiet : (n b i : ℕ) (f : HardFunc) (item : HInst) → is_quiet item ≡ true → hard_calls_keep (hardened_by table m) (HInstLine n f b i item) ≡ true
  call-quiet n b i f (Do side other retires) e = cc
  call-quiet n b i f (ChkMem ty ptr val) e = cc
  call-quiet n b i f item e = refl

  pub calls-each : EachKeeps table m (hard_calls_keep (hardened_by table m))
  calls-each = record {
    outer = all-in (λ line. calls_keep (heads_of m) line && true) (outer_lines m) (λ line h. both (line-same m line ∙ sound.calls line (outer-line m line h)) refl);
    head = λ n f at. both (sound.calls (HeadLine n f) (of-code m (HeadLine n f) (head-line m n f at))) refl;
    block = λ n b f block at. refl;
    phi = λ n b i f block inst side at h e. both (inst-same m inst ∙ sound.calls (InstLine n f b h.0 inst) (of-code m (InstLine n f b h.0 inst) (inst-line m n b f block inst at h))) refl;
    part = λ n b i f block inst item at h e part. call-part n b i (hard_of table f) inst item (sound.calls (InstLine n f b h.0 inst) (of-code m (InstLine n f b h.0 inst) (inst-line m n b f block inst at h))) part;
    param = λ n b i f block param at h. refl;
    quiet = λ n b i f item e. call-quiet n b i (hard_of table f) item e;
  }
