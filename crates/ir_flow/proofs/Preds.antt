-- Predecessors, and the phis of one block after another.
use Rattle.std.proofs.Common.{◌≡◌, ℕ, zero, suc, ◌+◌, ◌<◌, List, [], ◌∷◌, ◌++◌, map, drop, length, get_or, drop-cons, refl, sym, ap, subst, ◌∙◌, arith, true, false, ◌||◌}
use Rattle.std.specs.Prelude.{Bool, Option, None, Some, slice_get, nat_eq}
use Rattle.std.specs.List.{list_any}
use Rattle.std.specs.Option.{option_map}
use Rattle.std.proofs.lemmas.Option.{slice_get-map}
use Rattle.std.proofs.lemmas.Bool.{eqb-true, eq-eqb}
use Rattle.ir_core.specs.declared.instruction.Block.{Block}
use Rattle.ir_core.specs.Module.{FuncParts}
use Rattle.ir_flow.specs.Edges.{edges_of}
use Rattle.ir_flow.specs.Paths.{IsEdge}
use Rattle.ir_flow.specs.Searches.{Among, targets_of}
use Rattle.ir_flow.specs.Phis.{HasPreds, turned, PhiAt, FirstMismatch, IsPhiFault, phis_of_body, phis_from}
use Rattle.ir_flow.specs.declared.flow.FlowError.{FlowError}
use Rattle.ir_flow.specs.declared.flow.FlowError.TheVariants.{PhiMismatch, UseBeforeDef, NoMemory}
use Rattle.ir_flow.proofs.Tables.{edge-of, target-of}

any-among : (xs : List ℕ) (q : ℕ) → list_any (nat_eq q) xs ≡ true → Among xs q
any-among [] q e = absurd cc
any-among (x ∷ xs) q e = by_test (nat_eq q x) refl (any-among xs q)
  where
    by_test : (b : Bool) → nat_eq q x ≡ b → (list_any (nat_eq q) xs ≡ true → Among xs q) → Among (x ∷ xs) q
    by_test true f rest = (0, ap (λ (n : ℕ). Some n) (sym (eqb-true q x f)))
    by_test false f rest = let h : (false || list_any (nat_eq q) xs) ≡ true = sym (ap (λ (b : Bool). b || list_any (nat_eq q) xs) f) ∙ e in let there = rest h in (suc there.0, there.1)

among-any : (xs : List ℕ) (q place : ℕ) → slice_get xs place ≡ Some q → list_any (nat_eq q) xs ≡ true
among-any [] q place at = absurd cc
among-any (x ∷ xs) q zero at = let same : x ≡ q = cc in ap (λ (b : Bool). b || list_any (nat_eq q) xs) (eq-eqb q x (sym same))
among-any (x ∷ xs) q (suc place) at = ap (λ (b : Bool). nat_eq q x || b) (among-any xs q place at) ∙ or_true (nat_eq q x)
  where
    or_true : (b : Bool) → (b || true) ≡ true
    or_true true = refl
    or_true false = refl

turn : (pairs : List (ℕ × ℕ)) (a b : ℕ) → let edge : ℕ × ℕ = (a, b) in let back : ℕ × ℕ = (b, a) in IsEdge pairs edge → IsEdge (map turned pairs) back
turn pairs a b h = (h.0, slice_get-map turned pairs h.0 ∙ ap (λ (o : Option (ℕ × ℕ)). option_map turned o) h.1)

turn-back : (pairs : List (ℕ × ℕ)) (a b : ℕ) → let edge : ℕ × ℕ = (a, b) in let back : ℕ × ℕ = (b, a) in IsEdge (map turned pairs) back → IsEdge pairs edge
turn-back pairs a b h = by_item (slice_get pairs h.0) refl (sym (slice_get-map turned pairs h.0) ∙ h.1)
  where
    back : ℕ × ℕ
    back = (b, a)

    by_item : (o : Option (ℕ × ℕ)) → slice_get pairs h.0 ≡ o → option_map turned o ≡ Some back → let edge : ℕ × ℕ = (a, b) in IsEdge pairs edge
    by_item None e f = absurd cc
    by_item (Some item) e f = let g : turned item ≡ back = cc in let item_is : item ≡ turned back = ap turned g in (h.0, e ∙ ap (λ (p : ℕ × ℕ). Some p) item_is)

pub preds-are : (f : FuncParts) (block : ℕ) (preds : List ℕ) → preds ≡ targets_of (map turned (edges_of f).pairs) block → HasPreds f block preds
preds-are f block preds is = record {
  all = λ from edge. let there = target-of (map turned (edges_of f).pairs) (block, from) (turn (edges_of f).pairs from block edge) in subst (λ (xs : List ℕ). list_any (nat_eq from) xs ≡ true) (sym is) (among-any (targets_of (map turned (edges_of f).pairs) block) from there.0 there.1);
  only = λ from any. turn-back (edges_of f).pairs from block (edge-of (map turned (edges_of f).pairs) block from (any-among (targets_of (map turned (edges_of f).pairs) block) from (subst (λ (xs : List ℕ). list_any (nat_eq from) xs ≡ true) is any)));
}

pub next-block : (i : ℕ) (block : Block) (blocks : List Block) → i < length blocks → block ≡ get_or blocks i block → phis_from i (drop i blocks) ≡ phis_of_body i 0 block.insts ++ phis_from (i + 1) (drop (i + 1) blocks)
next-block i block blocks inside at =
    let e : drop i blocks ≡ get_or blocks i block ∷ drop (suc i) blocks = drop-cons blocks i block inside in
    let n : suc i ≡ i + 1 = omega arith in
    let whole : drop i blocks ≡ block ∷ drop (i + 1) blocks = cc in
    ap (phis_from i) whole

-- a fault of the phis at hand is one of all
pub fault-of : (f : FuncParts) (some all : List PhiAt) (e : FlowError) → ((b i : ℕ) → FirstMismatch f some b i → FirstMismatch f all b i) → IsPhiFault f some e → IsPhiFault f all e
fault-of f some all (PhiMismatch block inst) first h = first block inst h
fault-of f some all (UseBeforeDef block inst reg) first h = h
fault-of f some all NoMemory first h = h
