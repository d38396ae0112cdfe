-- What @ names stand for where they are called, if only the functions from a number on count.
use Rattle.std.proofs.Common.{ℕ, ◌≡◌, ◌+◌, ◌<◌, ◌≤◌, Bool, true, false, cond, List, [], Option, Some, map, length, get_or, drop, refl, ap, sym, ◌∙◌, nat_eq, slice_set, zero-add, arith, ⊎_elim}
use Rattle.std.specs.List.{position_from, range_with_len}
use Rattle.std.proofs.lemmas.Bool.{cases_eq, eq-eqb, ne_eqb}
use Rattle.std.proofs.lemmas.List.{same_lists, length-map, length-set, get_or-map, get_or-set_same, get_or-set_other, at_drop_more, drop_all}
use Rattle.std.proofs.lemmas.List.FromFn.{get_or-map-range_with_len, length-map-range_with_len}
use Rattle.std.proofs.lemmas.Iterator.Adapters.{position_from-zero}
use Rattle.ir_core.specs.Module.{ModuleParts, FuncParts}
use Rattle.ir_calls.specs.Calls.{external_named}
use Rattle.inst_meaning.specs.declared.actions.Callee.{Callee}
use Rattle.inst_meaning.specs.declared.actions.Callee.TheVariants.{Defined}
use Rattle.inst_meaning.specs.Action.{callee_with, callee_of, callees_of, outside_callee}

-- the number of the first of these functions, numbered from here on, that has this name
abbrev pub named_from : ℕ → ℕ → List FuncParts → Option ℕ
named_from name number funcs = position_from (λ f. nat_eq f.sym.0 name) number funcs

abbrev pub callee_from : ModuleParts → ℕ → ℕ → Callee
callee_from m number name = callee_with (named_from name number (drop number m.funcs)) (external_named m (record { 0 = name }))

abbrev pub callees_from : ModuleParts → ℕ → List Callee
callees_from m number = map (callee_from m number) (range_with_len 0 (length m.syms))

module _ (m : ModuleParts) where
  callees_from_at : (number k : ℕ) (d : Callee) → k < length m.syms → get_or (callees_from m number) k d ≡ callee_from m number k
  callees_from_at number k d h = get_or-map-range_with_len (callee_from m number) 0 (length m.syms) k k d h (zero-add k)

  pub length-callees_from : (number : ℕ) → length (callees_from m number) ≡ length m.syms
  length-callees_from number = length-map-range_with_len (callee_from m number) 0 (length m.syms)

  -- past the last function all stand outside
  pub callees_from_last : (number : ℕ) → length m.funcs ≤ number → map outside_callee m.syms ≡ callees_from m number
  callees_from_last number past = same_lists _ _ (length-map m.syms outside_callee ∙ sym (length-callees_from number)) at
    where
      at : (k : ℕ) (d : Callee) → k < length (map outside_callee m.syms) → get_or (map outside_callee m.syms) k d ≡ get_or (callees_from m number) k d
      at k d h =
          let within : k < length m.syms = omega (arith, length-map m.syms outside_callee) in
          rw (get_or-map outside_callee m.syms k [] d within, callees_from_at number k d within, drop_all number m.funcs past) refl

  -- one function more, at its name
  pub callees_from_more : (number next : ℕ) (f : FuncParts) → next ≡ number + 1 → number < length m.funcs → f ≡ get_or m.funcs number f → slice_set (callees_from m next) f.sym.0 (Defined number) ≡ callees_from m number
  callees_from_more number next f is_next within is = same_lists _ _ size at
    where
      later : List Callee
      later = callees_from m next

      size : length (slice_set later f.sym.0 (Defined number)) ≡ length (callees_from m number)
      size = length-set later f.sym.0 (Defined number) ∙ length-callees_from next ∙ sym (length-callees_from number)

      first : (k : ℕ) → named_from k number (drop number m.funcs) ≡ cond (nat_eq f.sym.0 k) (Some number) (named_from k next (drop next m.funcs))
      first k = rw is_next (at_drop_more (named_from k number) m.funcs number f within ∙ ap (λ (g : FuncParts). cond (nat_eq g.sym.0 k) (Some number) (named_from k (number + 1) (drop (number + 1) m.funcs))) (sym is))

      by_test : (k : ℕ) (t : Bool) → nat_eq f.sym.0 k ≡ t → callee_from m number k ≡ callee_with (cond t (Some number) (named_from k next (drop next m.funcs))) (external_named m (record { 0 = k }))
      by_test k t e = rw (first k, e) refl

      at : (k : ℕ) (d : Callee) → k < length (slice_set later f.sym.0 (Defined number)) → get_or (slice_set later f.sym.0 (Defined number)) k d ≡ get_or (callees_from m number) k d
      at k d h = rw (callees_from_at number k d short) (⊎_elim here elsewhere (cases_eq k f.sym.0))
        where
          short : k < length m.syms
          short = omega (arith, length-set later f.sym.0 (Defined number), length-callees_from next)

          here : k ≡ f.sym.0 → get_or (slice_set later f.sym.0 (Defined number)) k d ≡ callee_from m number k
          here e =
              let inside : f.sym.0 < length later = omega (arith, length-callees_from next, short, e) in
              ap (λ j. get_or (slice_set later f.sym.0 (Defined number)) j d) e ∙ get_or-set_same later f.sym.0 (Defined number) d inside ∙ sym (by_test k true (eq-eqb f.sym.0 k (sym e)))

          elsewhere : (k ≡ f.sym.0 → ⊥) → get_or (slice_set later f.sym.0 (Defined number)) k d ≡ callee_from m number k
          elsewhere ne = get_or-set_other later f.sym.0 k (Defined number) d ne ∙ callees_from_at next k d short ∙ sym (by_test k false (ne_eqb f.sym.0 k (λ e. ne (sym e))))

  -- all functions count
  pub callees_from_all : callees_from m 0 ≡ callees_of m
  callees_from_all = same_lists _ _ (length-callees_from 0 ∙ sym (length-map-range_with_len named 0 (length m.syms))) at
    where
      named : ℕ → Callee
      named n = callee_of m (record { 0 = n })

      at : (k : ℕ) (d : Callee) → k < length (callees_from m 0) → get_or (callees_from m 0) k d ≡ get_or (callees_of m) k d
      at k d h =
          let short : k < length m.syms = omega (arith, length-callees_from 0) in
          rw (callees_from_at 0 k d short, get_or-map-range_with_len named 0 (length m.syms) k k d short (zero-add k)) (ap (λ o. callee_with o (external_named m (record { 0 = k }))) (sym (position_from-zero (λ f. nat_eq f.sym.0 k) m.funcs)))
