-- Labels, their blocks and the edges to them; which phis stand in a function.
use Rattle.std.proofs.Common.{ℕ, zero, suc, ◌≡◌, ◌∙◌, ◌+◌, ◌-◌, Bool, true, false, List, [], ◌∷◌, ◌++◌, length, slice_get, Option, Some, None, refl, ap, sym, subst, arith}
use Rattle.std.specs.Prelude.{nat_eq}
use Rattle.std.specs.Option.{option_map, option_map_or}
use Rattle.std.proofs.lemmas.Bool.{eqb-true}
use Rattle.ir_core.specs.declared.types.Ty.{Ty}
use Rattle.ir_core.specs.declared.types.Loc.{Loc}
use Rattle.ir_core.specs.declared.values.Val.{Val}
use Rattle.ir_core.specs.declared.instruction.Inst.{Inst}
use Rattle.ir_core.specs.declared.instruction.Inst.TheVariants as insts
use Rattle.ir_core.specs.declared.instruction.Block.{Block}
use Rattle.ir_core.specs.Module.{FuncParts}
use Rattle.ir_flow.specs.Edges.{labels_of, last_labels, number_of, numbered_from, edge_to, edges_of_block, edges_from, edges_of}
use Rattle.ir_flow.specs.Paths.{IsEdge}
use Rattle.ir_flow.specs.Phis.{PhiAt, AllFitting, IsFitting, phi_at, phis_of_body, phis_from, phis_of}
use Rattle.ir_check.proofs.Members.{IsIn, in-front, in-back, in-filter}

-- ---- the block with a label

-- the block that a number stands for has the label
pub record IsLabelled (blocks : List Block) (n : ℕ) (label : Loc) (k : ℕ) : Type 0 where
  pub place : ℕ
  pub block : Block
  pub at : slice_get blocks place ≡ Some block
  pub number : k ≡ n + place
  pub same : block.label.0 ≡ label.0

pub labelled : (n : ℕ) (blocks : List Block) (label : Loc) (k : ℕ) → numbered_from n blocks label ≡ Some k → IsLabelled blocks n label k
labelled n [] label k e = absurd cc
labelled n (block ∷ blocks) label k e =
    by_rest (numbered_from (n + 1) blocks label) refl (nat_eq block.label.0 label.0) refl (labelled (n + 1) blocks label)
  where
    by_rest : (o : Option ℕ) → numbered_from (n + 1) blocks label ≡ o → (b : Bool) → nat_eq block.label.0 label.0 ≡ b
        → ((j : ℕ) → numbered_from (n + 1) blocks label ≡ Some j → IsLabelled blocks (n + 1) label j) → IsLabelled (block ∷ blocks) n label k
    by_rest (Some j) f b g rest =
        let same : j ≡ k = let found : Some j ≡ Some k = rw f at e in cc in
        let there = rest j f in
        record { place = suc there.place; block = there.block; at = there.at; number = omega (arith, there.number); same = there.same }
    by_rest None f true g rest =
        let same : Some n ≡ Some k = rw (f, g) at e in let number : n ≡ k = cc in record { place = 0; block = block; at = refl; number = omega arith; same = eqb-true block.label.0 label.0 g }
    by_rest None f false g rest = let none : None ≡ Some k = rw (f, g) at e in absurd cc

pub label-of : (blocks : List Block) (label : Loc) (k : ℕ) (block : Block) → number_of blocks label ≡ Some k → slice_get blocks k ≡ Some block
    → block.label.0 ≡ label.0
label-of blocks label k block e at =
    let is = labelled 0 blocks label k e in
    let place : is.place ≡ k = omega (arith, is.number) in
    let both : Some is.block ≡ Some block = sym is.at ∙ ap (slice_get blocks) place ∙ at in
    let same : is.block ≡ block = cc in
    ap (λ (b : Block). b.label.0) (sym same) ∙ is.same

pub number-same : (blocks : List Block) (a b : Loc) → a.0 ≡ b.0 → number_of blocks a ≡ number_of blocks b
number-same blocks a b e = ap (λ (k : ℕ). let label : Loc = record { 0 = k } in number_of blocks label) e

-- ---- edges

from-in : (all : List Block) (n b place : ℕ) (block : Block) (blocks : List Block) (edge : ℕ × ℕ) → slice_get blocks b ≡ Some block → place ≡ n + b
    → IsIn edge (edges_of_block all place block) → IsIn edge (edges_from all n blocks)
from-in all n b place block [] edge at e h = absurd cc
from-in all n zero place block (x ∷ blocks) edge at e h =
    let same : block ≡ x = cc in
    let number : place ≡ n = omega arith in
    in-front edge (edges_of_block all n x) (edges_from all (n + 1) blocks) (rw (same, number) at h)
from-in all n (suc b) place block (x ∷ blocks) edge at e h =
    in-back edge (edges_of_block all n x) (edges_from all (n + 1) blocks) (from-in all (n + 1) b place block blocks edge at (omega arith) h)

-- a label of the last instruction of a block gives an edge to its block
pub is-edge : (f : FuncParts) (b n i : ℕ) (block : Block) (inst : Inst) (label : Loc) → slice_get f.blocks b ≡ Some block
    → slice_get block.insts i ≡ Some inst → length block.insts ≡ suc i → IsIn label (labels_of inst) → number_of f.blocks label ≡ Some n
    → let edge : ℕ × ℕ = (b, n) in IsEdge (edges_of f).pairs edge
is-edge f b n i block inst label at there last one number =
    let edge : ℕ × ℕ = (b, n) in
    let place : length block.insts - 1 ≡ i = omega arith in
    let labels : last_labels block.insts ≡ labels_of inst = ap (λ (k : ℕ). option_map_or labels_of (slice_get block.insts k) []) place ∙ ap (λ (o : Option Inst). option_map_or labels_of o []) there in
    let mine : IsIn label (last_labels block.insts) = subst (λ (ls : List Loc). IsIn label ls) (sym labels) one in
    let start : b ≡ 0 + b = omega arith in
    from-in f.blocks 0 b b block f.blocks edge at start (in-filter (edge_to f.blocks b) label edge (last_labels block.insts) mine (ap (option_map (λ (to : ℕ). (b, to))) number))

-- ---- phis

fit-front : (f : FuncParts) (xs ys : List PhiAt) → AllFitting f (xs ++ ys) → AllFitting f xs
fit-front f [] ys all = tt
fit-front f (x ∷ xs) ys all = (all.0, fit-front f xs ys all.1)

fit-back : (f : FuncParts) (xs ys : List PhiAt) → AllFitting f (xs ++ ys) → AllFitting f ys
fit-back f [] ys all = all
fit-back f (x ∷ xs) ys all = fit-back f xs ys all.1

body-fits : (f : FuncParts) (block n i : ℕ) (body : List Inst) (dst : Loc) (ty : Ty) (arms : List (Val × Loc))
    → AllFitting f (phis_of_body block n body) → slice_get body i ≡ Some (insts.Phi dst ty arms) → IsFitting f block arms
body-fits f block n i [] dst ty arms all at = absurd cc
body-fits f block n zero (x ∷ body) dst ty arms all at =
    let same : x ≡ insts.Phi dst ty arms = cc in
    (subst (λ (inst : Inst). AllFitting f (phi_at block n inst)) same (fit-front f (phi_at block n x) (phis_of_body block (n + 1) body) all)).0
body-fits f block n (suc i) (x ∷ body) dst ty arms all at =
    body-fits f block (n + 1) i body dst ty arms (fit-back f (phi_at block n x) (phis_of_body block (n + 1) body) all) at

from-fits : (f : FuncParts) (n b place i : ℕ) (block : Block) (blocks : List Block) (dst : Loc) (ty : Ty) (arms : List (Val × Loc))
    → AllFitting f (phis_from n blocks) → slice_get blocks b ≡ Some block → place ≡ n + b → slice_get block.insts i ≡ Some (insts.Phi dst ty arms)
    → IsFitting f place arms
from-fits f n b place i block [] dst ty arms all at e there = absurd cc
from-fits f n zero place i block (x ∷ blocks) dst ty arms all at e there =
    let same : x ≡ block = cc in
    let number : n ≡ place = omega arith in
    subst (λ (k : ℕ). IsFitting f k arms) number (body-fits f n 0 i x.insts dst ty arms (fit-front f (phis_of_body n 0 x.insts) (phis_from (n + 1) blocks) all) (ap (λ (b : Block). slice_get b.insts i) same ∙ there))
from-fits f n (suc b) place i block (x ∷ blocks) dst ty arms all at e there =
    from-fits f (n + 1) b place i block blocks dst ty arms (fit-back f (phis_of_body n 0 x.insts) (phis_from (n + 1) blocks) all) at (omega arith) there

pub phi-fits : (f : FuncParts) (b i : ℕ) (block : Block) (dst : Loc) (ty : Ty) (arms : List (Val × Loc)) → AllFitting f (phis_of f)
    → slice_get f.blocks b ≡ Some block → slice_get block.insts i ≡ Some (insts.Phi dst ty arms) → IsFitting f b arms
phi-fits f b i block dst ty arms all at there =
    let start : b ≡ 0 + b = omega arith in from-fits f 0 b b i block f.blocks dst ty arms all at start there
