-- One arm of a phi after another.
use Rattle.std.proofs.Common.{◌≡◌, ℕ, ◌+◌, ◌<◌, ◌≤◌, List, length, get_or, refl, sym, ap, subst, ◌∙◌, arith, true, false, inl, inr}
use Rattle.std.specs.Prelude.{Bool, MatchBool, IsSome, Option, None, Some, slice_get, nat_eq, ◌⊎◌}
use Rattle.std.specs.List.{list_any}
use Rattle.std.specs.HashMap.{get}
use Rattle.std.proofs.lemmas.Bool.{cases_lt, eqb-true}
use Rattle.std.proofs.lemmas.Option.{slice_get-get_or, slice_get_within}
use Rattle.ir_core.specs.declared.types.Loc.{Loc}
use Rattle.ir_core.specs.declared.values.Val.{Val}
use Rattle.ir_core.specs.declared.instruction.Block.{Block}
use Rattle.ir_flow.specs.Edges.{number_of}
use Rattle.ir_flow.specs.Phis.{FitsTo, HasArm, ArmKnown, ArmsKnown, Places}

-- an arm whose block has one already, with the same value
pub known-again : (blocks : List Block) (preds : List ℕ) (arms : List (Val × Loc)) (i : ℕ) (places : Places) (arm head : Val × Loc) (from first : ℕ) → ArmsKnown blocks preds arms i places → i < length arms → arm ≡ get_or arms i arm → number_of blocks arm.1 ≡ Some from → list_any (nat_eq from) preds ≡ true → get nat_eq places from ≡ Some first → first < length arms → head ≡ get_or arms first head → head.0 ≡ arm.0 → ArmsKnown blocks preds arms (i + 1) places
known-again blocks preds arms i places arm head from first so_far inside at of_block pred here within stands same = record {
  known = λ k other less there. by_place k other there (cases_lt k i) less;
  sound = so_far.sound;
}
  where
    this : ArmKnown blocks preds arms places arm
    this = record { from = from; of_block = of_block; pred = pred; first = first; head = head; at = here; stands = slice_get-get_or arms first head within ∙ ap (λ (x : Val × Loc). Some x) (sym stands); same = same }

    by_place : (k : ℕ) (other : Val × Loc) → slice_get arms k ≡ Some other → (k < i) ⊎ (i ≤ k) → k < i + 1 → ArmKnown blocks preds arms places other
    by_place k other there (inl smaller) less = so_far.known k other smaller there
    by_place k other there (inr above) less = let e : i ≡ k = omega arith in let f : Some arm ≡ Some other = ap (λ (x : Val × Loc). Some x) at ∙ sym (slice_get-get_or arms i arm inside) ∙ ap (slice_get arms) e ∙ there in let g : arm ≡ other = cc in subst (ArmKnown blocks preds arms places) g this

-- the first arm of its block
pub known-new : (blocks : List Block) (preds : List ℕ) (arms : List (Val × Loc)) (i : ℕ) (before after : Places) (arm : Val × Loc) (from : ℕ) → ArmsKnown blocks preds arms i before → i < length arms → arm ≡ get_or arms i arm → number_of blocks arm.1 ≡ Some from → list_any (nat_eq from) preds ≡ true → get nat_eq before from ≡ None → get nat_eq after from ≡ Some i → ((q : ℕ) → nat_eq from q ≡ false → get nat_eq after q ≡ get nat_eq before q) → ArmsKnown blocks preds arms (i + 1) after
known-new blocks preds arms i before after arm from so_far inside at of_block pred none here others = record {
  known = λ k other less there. by_place k other there (cases_lt k i) less;
  sound = λ q first found. by_name q first found (nat_eq from q) refl;
}
  where
    stands : slice_get arms i ≡ Some arm
    stands = slice_get-get_or arms i arm inside ∙ ap (λ (x : Val × Loc). Some x) (sym at)

    kept : (q : ℕ) (first : ℕ) → get nat_eq before q ≡ Some first → (b : Bool) → nat_eq from q ≡ b → get nat_eq after q ≡ Some first
    kept q first found true e = let same : from ≡ q = eqb-true from q e in let f : get nat_eq before q ≡ None = ap (λ (n : ℕ). get nat_eq before n) (sym same) ∙ none in absurd cc
    kept q first found false e = others q e ∙ found

    again : (other : Val × Loc) → ArmKnown blocks preds arms before other → ArmKnown blocks preds arms after other
    again other known = record { from = known.from; of_block = known.of_block; pred = known.pred; first = known.first; head = known.head; at = kept known.from known.first known.at (nat_eq from known.from) refl; stands = known.stands; same = known.same }

    this : ArmKnown blocks preds arms after arm
    this = record { from = from; of_block = of_block; pred = pred; first = i; head = arm; at = here; stands = stands; same = refl }

    by_place : (k : ℕ) (other : Val × Loc) → slice_get arms k ≡ Some other → (k < i) ⊎ (i ≤ k) → k < i + 1 → ArmKnown blocks preds arms after other
    by_place k other there (inl smaller) less = again other (so_far.known k other smaller there)
    by_place k other there (inr above) less = let e : i ≡ k = omega arith in let f : Some arm ≡ Some other = sym stands ∙ ap (slice_get arms) e ∙ there in let g : arm ≡ other = cc in subst (ArmKnown blocks preds arms after) g this

    by_name : (q first : ℕ) → get nat_eq after q ≡ Some first → (b : Bool) → nat_eq from q ≡ b → (head : Val × Loc) × (slice_get arms first ≡ Some head) × (number_of blocks head.1 ≡ Some q)
    by_name q first found true e =
        let same : from ≡ q = eqb-true from q e in
        let f : Some i ≡ Some first = sym here ∙ ap (λ (n : ℕ). get nat_eq after n) same ∙ found in
        let g : i ≡ first = cc in
        (arm, ap (slice_get arms) (sym g) ∙ stands, of_block ∙ ap (λ (n : ℕ). Some n) same)
    by_name q first found false e = so_far.sound q first (sym (others q e) ∙ found)

-- two arms of one block that differ
pub arms-differ : (blocks : List Block) (preds : List ℕ) (arms : List (Val × Loc)) (i : ℕ) (places : Places) (arm head : Val × Loc) (from first : ℕ) → ArmsKnown blocks preds arms i places → i < length arms → arm ≡ get_or arms i arm → number_of blocks arm.1 ≡ Some from → get nat_eq places from ≡ Some first → first < length arms → head ≡ get_or arms first head → (head.0 ≡ arm.0 → ⊥) → FitsTo blocks preds arms → ⊥
arms-differ blocks preds arms i places arm head from first so_far inside at of_block here within stands differ fits =
    let there : slice_get arms first ≡ Some head = slice_get-get_or arms first head within ∙ ap (λ (x : Val × Loc). Some x) (sym stands) in
    let this : slice_get arms i ≡ Some arm = slice_get-get_or arms i arm inside ∙ ap (λ (x : Val × Loc). Some x) (sym at) in
    let known = so_far.sound from first here in
    let f : Some known.0 ≡ Some head = sym known.1 ∙ there in
    let g : known.0 ≡ head = cc in
    differ (fits.agree first i head arm there this (ap (λ (x : Val × Loc). number_of blocks x.1) (sym g) ∙ known.2 ∙ sym of_block))

-- ---- all arms

all-fit : (blocks : List Block) (preds : List ℕ) (arms : List (Val × Loc)) (places : Places) → ArmsKnown blocks preds arms (length arms) places → ((from : ℕ) → list_any (nat_eq from) preds ≡ true → IsSome (get nat_eq places from)) → FitsTo blocks preds arms
all-fit blocks preds arms places known named = record {
  known = λ place arm there. let this = of_arm place arm there in (this.from, this.of_block, this.pred);
  complete = λ from pred. by_place from (get nat_eq places from) refl (named from pred);
  agree = λ i j a b at_i at_j e. same a b (of_arm i a at_i) (of_arm j b at_j) e;
}
  where
    of_arm : (place : ℕ) (arm : Val × Loc) → slice_get arms place ≡ Some arm → ArmKnown blocks preds arms places arm
    of_arm place arm there = known.known place arm (slice_get_within arms place arm there) there

    by_place : (from : ℕ) (found : Option ℕ) → get nat_eq places from ≡ found → IsSome (get nat_eq places from) → HasArm blocks arms from
    by_place from None e some = let f = subst (λ (o : Option ℕ). IsSome o) e some in absurd cc
    by_place from (Some first) e some = let head = known.sound from first e in record { place = first; arm = head.0; stands = head.1; of_block = head.2 }

    same : (a b : Val × Loc) → ArmKnown blocks preds arms places a → ArmKnown blocks preds arms places b → number_of blocks a.1 ≡ number_of blocks b.1 → a.0 ≡ b.0
    same a b x y e =
        let f : Some x.from ≡ Some y.from = sym x.of_block ∙ e ∙ y.of_block in
        let from : x.from ≡ y.from = cc in
        let g : Some x.first ≡ Some y.first = sym x.at ∙ ap (λ (n : ℕ). get nat_eq places n) from ∙ y.at in
        let first : x.first ≡ y.first = cc in
        let h : Some x.head ≡ Some y.head = sym x.stands ∙ ap (slice_get arms) first ∙ y.stands in
        let head : x.head ≡ y.head = cc in
        sym x.same ∙ ap (λ (v : Val × Loc). v.0) head ∙ y.same

one-lacks : (blocks : List Block) (preds : List ℕ) (arms : List (Val × Loc)) (places : Places) → ArmsKnown blocks preds arms (length arms) places → (from : ℕ) → list_any (nat_eq from) preds ≡ true → get nat_eq places from ≡ None → FitsTo blocks preds arms → ⊥
one-lacks blocks preds arms places known from pred none fits =
    let arm = fits.complete from pred in
    let this = known.known arm.place arm.arm (slice_get_within arms arm.place arm.arm arm.stands) arm.stands in
    let f : Some this.from ≡ Some from = sym this.of_block ∙ arm.of_block in
    let same : this.from ≡ from = cc in
    let g : Some this.first ≡ None = sym this.at ∙ ap (λ (n : ℕ). get nat_eq places n) same ∙ none in
    cc

pub fits-by : (blocks : List Block) (preds : List ℕ) (arms : List (Val × Loc)) (places : Places) (b : Bool) → ArmsKnown blocks preds arms (length arms) places → MatchBool b ((from : ℕ) → list_any (nat_eq from) preds ≡ true → IsSome (get nat_eq places from)) ((from : ℕ) × (list_any (nat_eq from) preds ≡ true) × (get nat_eq places from ≡ None)) → MatchBool b (FitsTo blocks preds arms) (FitsTo blocks preds arms → ⊥)
fits-by blocks preds arms places true known named = all-fit blocks preds arms places known named
fits-by blocks preds arms places false known lacks = one-lacks blocks preds arms places known lacks.0 lacks.1 lacks.2
