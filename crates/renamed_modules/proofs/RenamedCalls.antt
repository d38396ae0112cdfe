-- Types that are the same, and what names stand for, under other numbers; calls that were right stay so.
use Rattle.std.proofs.Common.{ℕ, suc, ◌≡◌, ◌∙◌, ◌+◌, ◌&&◌, Bool, true, false, not, List, [], ◌∷◌, ◌++◌, map, length, Option, Some, None, slice_get, refl, ap, sym as flip, arith}
use Rattle.std.specs.Prelude.{nat_eq}
use Rattle.std.specs.List.{list_all}
use Rattle.std.specs.Option.{option_map, is_none}
use Rattle.std.proofs.lemmas.List.{map-append}
use Rattle.ir_core.specs.declared.types.Ty.{Ty}
use Rattle.ir_core.specs.declared.types.Ty.TheVariants as types
use Rattle.ir_core.specs.declared.types.Loc.{Loc}
use Rattle.ir_core.specs.declared.types.Sym.{Sym}
use Rattle.ir_core.specs.declared.types.Width.{Width}
use Rattle.ir_core.specs.declared.types.Width.TheVariants.{W32, W64}
use Rattle.ir_core.specs.declared.values.Val.{Val}
use Rattle.ir_core.specs.declared.values.Val.TheVariants as values
use Rattle.ir_core.specs.declared.values.Declare.{Declare}
use Rattle.ir_core.specs.declared.values.GlobalVar.{GlobalVar}
use Rattle.ir_core.specs.declared.values.Init.{Init, map-Init}
use Rattle.ir_core.specs.declared.values.Init as opened_inits
use Rattle.ir_core.specs.declared.values.Init.TheFolds.{fold-roll-Init, ind-Init}
use Rattle.ir_core.specs.declared.values.Init.TheOpen.{Init-F}
use Rattle.ir_core.specs.declared.instruction.Inst.{Inst}
use Rattle.ir_core.specs.declared.instruction.Inst.TheVariants as insts
use Rattle.ir_core.specs.Module.{ModuleParts, FuncParts}
use Rattle.ir_lines.specs.Lines.{Line, TypeLine, GlobalLine, DeclareLine, HeadLine, BlockLine, InstLine}
use Rattle.ir_lines.specs.SameTypes.{same_ty}
use Rattle.ir_calls.specs.declared.externals.External.{External}
use Rattle.ir_calls.specs.declared.externals.External.TheVariants.{PthreadCreate, PthreadJoin, MutexLock, MutexUnlock, Putchar, Exit, Malloc, Free, HaftOut, HaftArg}
use Rattle.ir_calls.specs.Externals.{Signature, signature_of, has_signature, external_of}
use Rattle.ir_calls.specs.Calls.{Standing, Variable, Declared, Defined, of_global, of_declare, of_func, standings, first_standing, standing_of, is_callable, is_function, external_named, is_plain, are_plain, args_plain, values_of, plain_step, is_plain_init, takes, result_keeps, is_null, second_is_null, start_signature, is_start, names_start, third_is_start, without_third, args_keep, call_keeps, inst_keeps, declares_as, calls_keep}
use Rattle.ir_numbering.specs.Renaming.{Renaming, renamed_loc, renamed_sym, renamed_ty, renamed_val, renamed_gep, renamed_args, renamed_arms, renamed_index, renamed_option, renamed_init_step, renamed_init, renamed_inst, renamed_param, renamed_global, renamed_declare}
use Rattle.renamed_modules.proofs.RenamedTypes.{IsApart, same-test, type-same, all-same, void-again, int-again, ptr-again}
use Rattle.renamed_modules.proofs.Renames.{Renames, name-same}
use Rattle.renamed_modules.proofs.RenamedLines.{in_, func_by, renamed_line, funcs-here}

module _ (r : Renaming) (apart : IsApart r.type_id) where
  -- ---- signatures

  abbrev renamed_signature : Signature → Signature
  renamed_signature signature = record { result = renamed_ty r signature.result; params = map (renamed_ty r) signature.params }

  signature-same : (ret : Ty) (params : List Ty) (signature : Signature) → has_signature (renamed_ty r ret) (map (renamed_ty r) params) (renamed_signature signature) ≡ has_signature ret params signature
  signature-same ret params signature = rw (type-same r apart ret signature.result, all-same r apart params signature.params) refl

  external-again : (external : External) → renamed_signature (signature_of external) ≡ signature_of external
  external-again PthreadCreate = rw (int-again r apart W32, ptr-again r apart) refl
  external-again PthreadJoin = rw (int-again r apart W32, int-again r apart W64, ptr-again r apart) refl
  external-again MutexLock = rw (int-again r apart W32, ptr-again r apart) refl
  external-again MutexUnlock = rw (int-again r apart W32, ptr-again r apart) refl
  external-again Putchar = rw (int-again r apart W32) refl
  external-again Exit = rw (int-again r apart W32, void-again r apart) refl
  external-again Malloc = rw (int-again r apart W64, ptr-again r apart) refl
  external-again Free = rw (ptr-again r apart, void-again r apart) refl
  external-again HaftOut = rw (int-again r apart W64, void-again r apart) refl
  external-again HaftArg = rw (int-again r apart W64) refl

-- ---- values

module _ (r : Renaming) where
  args-values : (args : List (Ty × Val)) → map (λ (arg : Ty × Val). arg.1) (renamed_args r args) ≡ map (renamed_val r) (map (λ (arg : Ty × Val). arg.1) args)
  args-values [] = refl
  args-values (arg ∷ args) = ap (λ (rest : List Val). renamed_val r arg.1 ∷ rest) (args-values args)

  arms-values : (arms : List (Val × Loc)) → map (λ (arm : Val × Loc). arm.0) (renamed_arms r arms) ≡ map (renamed_val r) (map (λ (arm : Val × Loc). arm.0) arms)
  arms-values [] = refl
  arms-values (arm ∷ arms) = ap (λ (rest : List Val). renamed_val r arm.0 ∷ rest) (arms-values arms)

  index-values : (indices : List (Width × Val)) → map (λ (index : Width × Val). index.1) (renamed_index r indices) ≡ map (renamed_val r) (map (λ (index : Width × Val). index.1) indices)
  index-values [] = refl
  index-values (index ∷ indices) = ap (λ (rest : List Val). renamed_val r index.1 ∷ rest) (index-values indices)

  inst-values : (inst : Inst) → values_of (renamed_inst r inst) ≡ map (renamed_val r) (values_of inst)
  inst-values (insts.Bin dst op flags w a b) = refl
  inst-values (insts.Cmp dst pred ty a b) = refl
  inst-values (insts.Select dst cond ty a b) = refl
  inst-values (insts.Cast dst op from a to) = refl
  inst-values (insts.Gep dst base ptr index) = ap (λ (rest : List Val). renamed_val r ptr ∷ rest) (index-values index)
  inst-values (insts.Alloca dst ty) = refl
  inst-values (insts.Load dst ty ptr atomic) = refl
  inst-values (insts.Store ty val ptr atomic) = refl
  inst-values (insts.Rmw dst op ptr ty val) = refl
  inst-values (insts.CmpXchg dst ptr ty old new) = refl
  inst-values insts.Fence = refl
  inst-values (insts.Extract dst elem pair index) = refl
  inst-values (insts.Call dst ret callee args) = args-values args
  inst-values (insts.Phi dst ty arms) = arms-values arms
  inst-values (insts.Br to) = refl
  inst-values (insts.CondBr cond on_true on_false) = refl
  inst-values (insts.Switch ty on default cases) = refl
  inst-values (insts.Ret ty None) = refl
  inst-values (insts.Ret ty (Some value)) = refl
  inst-values insts.Unreachable = refl

-- ---- modules

module _ (m other : ModuleParts) (r : Renames m other) where
  abbrev q : Renaming
  q = r.outer

  abbrev renamed_standing : Standing → Standing
  renamed_standing Variable = Variable
  renamed_standing (Declared signature) = Declared (renamed_signature q r.type_apart signature)
  renamed_standing (Defined signature) = Defined (renamed_signature q r.type_apart signature)

  abbrev renamed_pair : Sym × Standing → Sym × Standing
  renamed_pair named = (renamed_sym q named.0, renamed_standing named.1)

  globals-stand : (globals : List GlobalVar) → map of_global (map (renamed_global q) globals) ≡ map renamed_pair (map of_global globals)
  globals-stand [] = refl
  globals-stand (global ∷ globals) = ap (λ (rest : List (Sym × Standing)). (renamed_sym q global.sym, Variable) ∷ rest) (globals-stand globals)

  declares-stand : (declares : List Declare) → map of_declare (map (renamed_declare q) declares) ≡ map renamed_pair (map of_declare declares)
  declares-stand [] = refl
  declares-stand (declare ∷ declares) = ap (λ (rest : List (Sym × Standing)). of_declare (renamed_declare q declare) ∷ rest) (declares-stand declares)

  param-types : (n : ℕ) (params : List (Ty × Loc)) → map (λ (param : Ty × Loc). param.0) (map (renamed_param (in_ m other r n)) params) ≡ map (renamed_ty q) (map (λ (param : Ty × Loc). param.0) params)
  param-types n [] = refl
  param-types n (param ∷ params) = ap (λ (rest : List Ty). renamed_ty q param.0 ∷ rest) (param-types n params)

  func-stands : (n : ℕ) (f : FuncParts) → of_func (func_by m other r n f) ≡ renamed_pair (of_func f)
  func-stands n f = ap (λ (params : List Ty). let pair : Sym × Standing = (renamed_sym q f.sym, Defined (record { result = renamed_ty q f.ret; params = params })) in pair) (param-types n f.params)

  funcs-stand : (k : ℕ) (fs gs : List FuncParts) → length gs ≡ length fs
      → ((n : ℕ) (f g : FuncParts) → slice_get fs n ≡ Some f → slice_get gs n ≡ Some g → g ≡ func_by m other r (k + n) f) → map of_func gs ≡ map renamed_pair (map of_func fs)
  funcs-stand k [] [] count same = refl
  funcs-stand k [] (g ∷ gs) count same = absurd (omega (arith, count))
  funcs-stand k (f ∷ fs) [] count same = absurd (omega (arith, count))
  funcs-stand k (f ∷ fs) (g ∷ gs) count same =
      ap (λ (h : FuncParts). of_func h ∷ map of_func gs) (same 0 f g refl refl)
      ∙ ap (λ (pair : Sym × Standing). pair ∷ map of_func gs) (func-stands (k + 0) f)
      ∙ ap (λ (rest : List (Sym × Standing)). renamed_pair (of_func f) ∷ rest) (funcs-stand (k + 1) fs gs (omega (arith, count))
      (λ n a b at there. let next : k + suc n ≡ k + 1 + n = omega arith in same (suc n) a b at there ∙ ap (λ (j : ℕ). func_by m other r j a) next))

  standings-same : standings other ≡ map renamed_pair (standings m)
  standings-same =
      ap (λ (globals : List GlobalVar). (map of_global globals ++ map of_declare other.declares) ++ map of_func other.funcs) r.globals
      ∙ ap (λ (declares : List Declare). (map of_global (map (renamed_global q) m.globals) ++ map of_declare declares) ++ map of_func other.funcs) r.declares
      ∙ ap (λ (xs : List (Sym × Standing)). (xs ++ map of_declare (map (renamed_declare q) m.declares)) ++ map of_func other.funcs) (globals-stand m.globals)
      ∙ ap (λ (xs : List (Sym × Standing)). (map renamed_pair (map of_global m.globals) ++ xs) ++ map of_func other.funcs) (declares-stand m.declares)
      ∙ ap (λ (xs : List (Sym × Standing)). (map renamed_pair (map of_global m.globals) ++ map renamed_pair (map of_declare m.declares)) ++ xs) (funcs-stand 0 m.funcs other.funcs r.count
      (λ n f g at there. let same : n ≡ 0 + n = omega arith in funcs-here m other r n f g at there ∙ ap (λ (k : ℕ). func_by m other r k f) same))
      ∙ ap (λ (xs : List (Sym × Standing)). xs ++ map renamed_pair (map of_func m.funcs)) (flip (map-append renamed_pair (map of_global m.globals) (map of_declare m.declares)))
      ∙ flip (map-append renamed_pair (map of_global m.globals ++ map of_declare m.declares) (map of_func m.funcs))

  found-same : (name : Sym) (named : List (Sym × Standing)) → first_standing (renamed_sym q name) (map renamed_pair named) ≡ option_map renamed_standing (first_standing name named)
  found-same name [] = refl
  found-same name (x ∷ named) = by_test (nat_eq x.0.0 name.0) refl (found-same name named)
    where
      by_test : (b : Bool) → nat_eq x.0.0 name.0 ≡ b → first_standing (renamed_sym q name) (map renamed_pair named) ≡ option_map renamed_standing (first_standing name named)
          → first_standing (renamed_sym q name) (map renamed_pair (x ∷ named)) ≡ option_map renamed_standing (first_standing name (x ∷ named))
      by_test true e rest = rw (same-test q.sym r.sym_apart x.0.0 name.0, e) refl
      by_test false e rest = rw (same-test q.sym r.sym_apart x.0.0 name.0, e) rest

  standing-same : (name : Sym) → standing_of other (renamed_sym q name) ≡ option_map renamed_standing (standing_of m name)
  standing-same name = ap (first_standing (renamed_sym q name)) standings-same ∙ found-same name (standings m)

  callable-same : (o : Option Standing) → is_callable (option_map renamed_standing o) ≡ is_callable o
  callable-same None = refl
  callable-same (Some Variable) = refl
  callable-same (Some (Declared signature)) = refl
  callable-same (Some (Defined signature)) = refl

  function-same : (name : Sym) → is_function other (renamed_sym q name) ≡ is_function m name
  function-same name = ap is_callable (standing-same name) ∙ callable-same (standing_of m name)

  external-same : (name : Sym) → external_named other (renamed_sym q name) ≡ external_named m name
  external-same name = ap external_of (name-same m other r name.0)

  -- ---- values and initialisers

  module _ (n : ℕ) where
    abbrev own : Renaming
    own = in_ m other r n

    plain-same : (value : Val) → is_plain other (renamed_val own value) ≡ is_plain m value
    plain-same (values.Reg at) = refl
    plain-same (values.Int k) = refl
    plain-same values.Null = refl
    plain-same (values.Global name) = ap not (function-same name)
    plain-same (values.Gep gep) = ap not (function-same gep.sym)

    plains-same : (vals : List Val) → are_plain other (map (renamed_val own) vals) ≡ are_plain m vals
    plains-same [] = refl
    plains-same (value ∷ vals) = rw (plain-same value, plains-same vals) refl

    args-same : (args : List (Ty × Val)) → args_plain other (renamed_args own args) ≡ args_plain m args
    args-same [] = refl
    args-same (arg ∷ args) = rw (plain-same arg.1, args-same args) refl

    -- ---- calls

    takes-same : (o : Option Standing) (ret : Ty) (args : List Ty) → takes (option_map renamed_standing o) (renamed_ty q ret) (map (renamed_ty q) args) ≡ takes o ret args
    takes-same None ret args = refl
    takes-same (Some Variable) ret args = refl
    takes-same (Some (Declared signature)) ret args = signature-same q r.type_apart ret args signature
    takes-same (Some (Defined signature)) ret args = signature-same q r.type_apart ret args signature

    result-keeps : (dst : Option Loc) (ret : Ty) → result_keeps (renamed_option (renamed_loc own) dst) (renamed_ty own ret) ≡ result_keeps dst ret
    result-keeps None ret = refl
    result-keeps (Some dst) ret = ap not (ap (same_ty (renamed_ty q ret)) (flip (void-again q r.type_apart)) ∙ type-same q r.type_apart ret types.Void)

    null-same : (value : Val) → is_null (renamed_val own value) ≡ is_null value
    null-same (values.Reg at) = refl
    null-same (values.Int k) = refl
    null-same values.Null = refl
    null-same (values.Global name) = refl
    null-same (values.Gep gep) = refl

    second-same : (args : List (Ty × Val)) → second_is_null (renamed_args own args) ≡ second_is_null args
    second-same [] = refl
    second-same (a ∷ []) = refl
    second-same (a ∷ b ∷ args) = null-same b.1

    start-same : (o : Option Standing) → is_start (option_map renamed_standing o) ≡ is_start o
    start-same None = refl
    start-same (Some Variable) = refl
    start-same (Some (Declared signature)) = refl
    start-same (Some (Defined signature)) =
        ap (has_signature (renamed_ty q signature.result) (map (renamed_ty q) signature.params)) (flip start-again) ∙ signature-same q r.type_apart signature.result signature.params start_signature
      where
        start-again : renamed_signature q r.type_apart start_signature ≡ start_signature
        start-again = rw (ptr-again q r.type_apart) refl

    starts-same : (value : Val) → names_start other (renamed_val own value) ≡ names_start m value
    starts-same (values.Reg at) = refl
    starts-same (values.Int k) = refl
    starts-same values.Null = refl
    starts-same (values.Global name) = ap is_start (standing-same name) ∙ start-same (standing_of m name)
    starts-same (values.Gep gep) = refl

    third-same : (args : List (Ty × Val)) → third_is_start other (renamed_args own args) ≡ third_is_start m args
    third-same [] = refl
    third-same (a ∷ []) = refl
    third-same (a ∷ b ∷ []) = refl
    third-same (a ∷ b ∷ c ∷ args) = starts-same c.1

    without-same : (args : List (Ty × Val)) → without_third (renamed_args own args) ≡ renamed_args own (without_third args)
    without-same [] = refl
    without-same (a ∷ []) = refl
    without-same (a ∷ b ∷ []) = refl
    without-same (a ∷ b ∷ c ∷ args) = refl

    kept-args : (external : Option External) (args : List (Ty × Val)) → args_keep other external (renamed_args own args) ≡ args_keep m external args
    kept-args None args = args-same args
    kept-args (Some PthreadCreate) args = rw (second-same args, third-same args, ap (args_plain other) (without-same args) ∙ args-same (without_third args)) refl
    kept-args (Some PthreadJoin) args = rw (second-same args, args-same args) refl
    kept-args (Some MutexLock) args = args-same args
    kept-args (Some MutexUnlock) args = args-same args
    kept-args (Some Putchar) args = args-same args
    kept-args (Some Exit) args = args-same args
    kept-args (Some Malloc) args = args-same args
    kept-args (Some Free) args = args-same args
    kept-args (Some HaftOut) args = args-same args
    kept-args (Some HaftArg) args = args-same args

    arg-types : (args : List (Ty × Val)) → map (λ (arg : Ty × Val). arg.0) (renamed_args own args) ≡ map (renamed_ty q) (map (λ (arg : Ty × Val). arg.0) args)
    arg-types [] = refl
    arg-types (arg ∷ args) = ap (λ (rest : List Ty). renamed_ty q arg.0 ∷ rest) (arg-types args)

    call-same : (dst : Option Loc) (ret : Ty) (callee : Sym) (args : List (Ty × Val))
        → call_keeps other (renamed_option (renamed_loc own) dst) (renamed_ty own ret) (renamed_sym own callee) (renamed_args own args) ≡ call_keeps m dst ret callee args
    call-same dst ret callee args =
        ap (λ (b : Bool). (b && result_keeps (renamed_option (renamed_loc own) dst) (renamed_ty own ret)) && args_keep other (external_named other (renamed_sym own callee)) (renamed_args own args))
        (ap (λ (o : Option Standing). takes o (renamed_ty q ret) (map (λ (arg : Ty × Val). arg.0) (renamed_args own args))) (standing-same callee)
        ∙ ap (takes (option_map renamed_standing (standing_of m callee)) (renamed_ty q ret)) (arg-types args)
        ∙ takes-same (standing_of m callee) ret (map (λ (arg : Ty × Val). arg.0) args))
        ∙ ap (λ (b : Bool). (takes (standing_of m callee) ret (map (λ (arg : Ty × Val). arg.0) args) && b) && args_keep other (external_named other (renamed_sym own callee)) (renamed_args own args)) (result-keeps dst ret)
        ∙ ap (λ (b : Bool). (takes (standing_of m callee) ret (map (λ (arg : Ty × Val). arg.0) args) && result_keeps dst ret) && b)
        (ap (λ (o : Option External). args_keep other o (renamed_args own args)) (external-same callee) ∙ kept-args (external_named m callee) args)

    inst-same : (inst : Inst) → inst_keeps other (renamed_inst own inst) ≡ inst_keeps m inst
    inst-same (insts.Call dst ret callee args) = call-same dst ret callee args
    inst-same (insts.Bin dst op flags w a b) = plains-same (a ∷ b ∷ [])
    inst-same (insts.Cmp dst pred ty a b) = plains-same (a ∷ b ∷ [])
    inst-same (insts.Select dst cond ty a b) = plains-same (cond ∷ a ∷ b ∷ [])
    inst-same (insts.Cast dst op from a to) = plains-same (a ∷ [])
    inst-same (insts.Gep dst base ptr index) = ap (are_plain other) (inst-values own (insts.Gep dst base ptr index)) ∙ plains-same (values_of (insts.Gep dst base ptr index))
    inst-same (insts.Alloca dst ty) = refl
    inst-same (insts.Load dst ty ptr atomic) = plains-same (ptr ∷ [])
    inst-same (insts.Store ty val ptr atomic) = plains-same (val ∷ ptr ∷ [])
    inst-same (insts.Rmw dst op ptr ty val) = plains-same (ptr ∷ val ∷ [])
    inst-same (insts.CmpXchg dst ptr ty old new) = plains-same (ptr ∷ old ∷ new ∷ [])
    inst-same insts.Fence = refl
    inst-same (insts.Extract dst elem pair index) = refl
    inst-same (insts.Phi dst ty arms) = ap (are_plain other) (inst-values own (insts.Phi dst ty arms)) ∙ plains-same (values_of (insts.Phi dst ty arms))
    inst-same (insts.Br to) = refl
    inst-same (insts.CondBr cond on_true on_false) = plains-same (cond ∷ [])
    inst-same (insts.Switch ty on default cases) = plains-same (on ∷ [])
    inst-same (insts.Ret ty None) = refl
    inst-same (insts.Ret ty (Some value)) = plains-same (value ∷ [])
    inst-same insts.Unreachable = refl

  -- ---- initialisers

  abbrev IsPlainSame : Init → Type 0
  IsPlainSame init = is_plain_init other (renamed_init q init) ≡ is_plain_init m init

  abbrev bare : List (Ty × ((init : Init) × IsPlainSame init)) → List (Ty × Init)
  bare parts = map (λ (part : Ty × ((init : Init) × IsPlainSame init)). (part.0, part.1.0)) parts

  abbrev parts_by : List (Ty × Init) → List (Ty × Init)
  parts_by parts = map (λ (part : Ty × Init). (renamed_ty q part.0, part.1)) (map (λ (part : Ty × Init). (part.0, renamed_init q part.1)) parts)

  abbrev plain_by : ModuleParts → List (Ty × Init) → Bool
  plain_by of parts = list_all (λ (part : Ty × Bool). part.1) (map (λ (part : Ty × Init). (part.0, is_plain_init of part.1)) parts)

  parts-plain : (parts : List (Ty × ((init : Init) × IsPlainSame init))) → plain_by other (parts_by (bare parts)) ≡ plain_by m (bare parts)
  parts-plain [] = refl
  parts-plain (part ∷ parts) = rw (part.1.1, parts-plain parts) refl

  layer-plain : (y : Init-F ((init : Init) × IsPlainSame init))
      → is_plain_init other (renamed_init_step q (map-Init Init Init (renamed_init q) (map-Init ((init : Init) × IsPlainSame init) Init (λ e. e.0) y)))
      ≡ plain_step m (map-Init Init Bool (is_plain_init m) (map-Init ((init : Init) × IsPlainSame init) Init (λ e. e.0) y))
  unfolding opened_inits.roll-Init denote.Hole.Carrier.roll
  layer-plain Init-F.Zero = fold-roll-Init Bool (plain_step other) Init-F.Zero
  layer-plain (Init-F.Int n) = fold-roll-Init Bool (plain_step other) (Init-F.Int n)
  layer-plain Init-F.Null = fold-roll-Init Bool (plain_step other) Init-F.Null
  layer-plain (Init-F.Addr name) = fold-roll-Init Bool (plain_step other) (Init-F.Addr (renamed_sym q name)) ∙ ap not (function-same name)
  layer-plain (Init-F.Gep gep) = fold-roll-Init Bool (plain_step other) (Init-F.Gep (renamed_gep q gep)) ∙ ap not (function-same gep.sym)
  layer-plain (Init-F.Bytes bs) = fold-roll-Init Bool (plain_step other) (Init-F.Bytes bs)
  layer-plain (Init-F.Parts parts) = fold-roll-Init Bool (plain_step other) (Init-F.Parts (parts_by (bare parts))) ∙ parts-plain parts

  init-plain : (init : Init) → is_plain_init other (renamed_init q init) ≡ is_plain_init m init
  init-plain = ind-Init IsPlainSame (λ x y is.
      ap (is_plain_init other) (fold-roll-Init Init (renamed_init_step q) x ∙ ap (λ (z : Init-F Init). renamed_init_step q (map-Init Init Init (renamed_init q) z)) (flip is))
      ∙ layer-plain y
      ∙ ap (λ (z : Init-F Init). plain_step m (map-Init Init Bool (is_plain_init m) z)) is
      ∙ flip (fold-roll-Init Bool (plain_step m) x))

  -- ---- lines

  declared-same : (ret : Ty) (params : List Ty) (o : Option External) → declares_as (renamed_ty q ret) (map (renamed_ty q) params) o ≡ declares_as ret params o
  declared-same ret params None = refl
  declared-same ret params (Some external) =
      ap (has_signature (renamed_ty q ret) (map (renamed_ty q) params)) (flip (external-again q r.type_apart external)) ∙ signature-same q r.type_apart ret params (signature_of external)

  pub calls-same : (line : Line) → calls_keep other (renamed_line m other r line) ≡ calls_keep m line
  calls-same (TypeLine named) = refl
  calls-same (GlobalLine global) = init-plain global.init
  calls-same (DeclareLine declare) = ap (declares_as (renamed_ty q declare.ret) (map (renamed_ty q) declare.params)) (external-same declare.sym) ∙ declared-same declare.ret declare.params (external_named m declare.sym)
  calls-same (HeadLine n f) = ap is_none (external-same f.sym)
  calls-same (BlockLine n f b block) = refl
  calls-same (InstLine n f b i inst) = inst-same n inst
