-- What a table says once globals, declares and functions are entered.
use Rattle.std.proofs.Common.{◌≡◌, ◌∙◌, ap, refl, sym, List, [], ◌∷◌, ◌++◌, map, Bool, true, false, cond}
use Rattle.std.specs.Prelude.{Option, Some, None, nat_eq}
use Rattle.std.specs.Option.{option_or}
use Rattle.ir_core.specs.declared.types.Sym.{Sym}
use Rattle.ir_core.specs.Module.{ModuleParts}
use Rattle.ir_calls.specs.Calls.{Standing, of_global, of_declare, of_func, first_standing, standing_of}

first-append : (name : Sym) (xs ys : List (Sym × Standing)) → first_standing name (xs ++ ys) ≡ option_or (first_standing name xs) (first_standing name ys)
first-append name [] ys = refl
first-append name (x ∷ xs) ys = ap (cond (nat_eq x.0.0 name.0) (Some x.1)) (first-append name xs ys) ∙ by_test (nat_eq x.0.0 name.0)
  where
    by_test : (b : Bool) → cond b (Some x.1) (option_or (first_standing name xs) (first_standing name ys)) ≡ option_or (cond b (Some x.1) (first_standing name xs)) (first_standing name ys)
    by_test true = refl
    by_test false = refl

-- what each step leaves, from an empty table on
pub all_entered : (m : ModuleParts) (name : Sym) (before globals declares funcs : Option Standing) → before ≡ None → globals ≡ option_or before (first_standing name (map of_global m.globals)) → declares ≡ option_or globals (first_standing name (map of_declare m.declares)) → funcs ≡ option_or declares (first_standing name (map of_func m.funcs)) → funcs ≡ standing_of m name
all_entered m name before globals declares funcs p q r s =
    let first = first_standing name (map of_global m.globals) in
    let second = first_standing name (map of_declare m.declares) in
    let third = first_standing name (map of_func m.funcs) in
    s
    ∙ ap (λ (o : Option Standing). option_or o third) (r ∙ ap (λ (o : Option Standing). option_or o second) (q ∙ ap (λ (o : Option Standing). option_or o first) p))
    ∙ ap (λ (o : Option Standing). option_or o third) (sym (first-append name (map of_global m.globals) (map of_declare m.declares)))
    ∙ sym (first-append name (map of_global m.globals ++ map of_declare m.declares) (map of_func m.funcs))
