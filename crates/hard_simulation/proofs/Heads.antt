-- What is the same of a module and of its heads.
use Rattle.std.proofs.Common.{ℕ, ◌≡◌, ◌+◌, ◌∙◌, Bool, cond, not, List, [], ◌∷◌, map, length, Option, Some, None, refl, ap, slice_get}
use mathlib.Core.Path.{fun_ext}
use Rattle.std.specs.Prelude.{nat_eq, unwrap_or}
use Rattle.std.specs.List.{position, position_or_len, range_with_len}
use Rattle.std.specs.Option.{option_map, option_map_or}
use Rattle.std.proofs.lemmas.List.{length-map}
use Rattle.std.proofs.lemmas.Option.{slice_get-map}
use Rattle.ir_core.specs.declared.types.Sym.{Sym}
use Rattle.ir_core.specs.Module.{ModuleParts, FuncParts}
use Rattle.ir_layout.specs.Memory.{layout_of}
use Rattle.ir_calls.specs.Calls.{external_named}
use Rattle.ir_check.specs.Functions.{is_main}
use Rattle.inst_meaning.specs.declared.actions.Callee.{Callee}
use Rattle.inst_meaning.specs.Action.{callee_of, callee_with, callees_of}
use Rattle.src_meaning.specs.State.{main_of, params_at}
use Rattle.hard_ir.specs.Hardened.{head_of, heads_of}

position_or_len-heads : (test : FuncParts → Bool) (funcs : List FuncParts)
    → position_or_len test (map head_of funcs) ≡ position_or_len (λ f. test (head_of f)) funcs
position_or_len-heads test [] = refl
position_or_len-heads test (f ∷ funcs) = ap (λ n. cond (not (test (head_of f))) (1 + n) 0) (position_or_len-heads test funcs)

position-heads : (test : FuncParts → Bool) (funcs : List FuncParts) → position test (map head_of funcs) ≡ position (λ f. test (head_of f)) funcs
position-heads test funcs = rw (position_or_len-heads test funcs, length-map funcs head_of) refl

pub layout-heads : (m : ModuleParts) → layout_of (heads_of m) ≡ layout_of m
layout-heads m = refl

callee-heads : (m : ModuleParts) (sym : Sym) → callee_of (heads_of m) sym ≡ callee_of m sym
callee-heads m sym = ap (λ (n : Option ℕ). callee_with n (external_named m sym)) (position-heads (λ f. nat_eq f.sym.0 sym.0) m.funcs)

pub callees-heads : (m : ModuleParts) → callees_of (heads_of m) ≡ callees_of m
callees-heads m =
    let same : callee_of (heads_of m) ≡ callee_of m = fun_ext (callee-heads m) in
    ap (λ (callee : Sym → Callee). map (λ n. callee (record { 0 = n })) (range_with_len 0 (length m.syms))) same

pub main-heads : (m : ModuleParts) → main_of (heads_of m) ≡ main_of m
main-heads m = ap (λ (n : Option ℕ). unwrap_or n 0) (position-heads (is_main (heads_of m)) m.funcs)

params-head : (o : Option FuncParts) → option_map_or (λ (f : FuncParts). map (λ param. param.1) f.params) (option_map head_of o) []
    ≡ option_map_or (λ (f : FuncParts). map (λ param. param.1) f.params) o []
params-head None = refl
params-head (Some f) = refl

pub params-heads : (m : ModuleParts) (n : ℕ) → params_at (heads_of m).funcs n ≡ params_at m.funcs n
params-heads m n =
    ap (λ (o : Option FuncParts). option_map_or (λ (f : FuncParts). map (λ param. param.1) f.params) o []) (slice_get-map head_of m.funcs n)
    ∙ params-head (slice_get m.funcs n)
