-- Phis fit in blocks with names for their edges, and no edge leads to an entry.
use Rattle.std.proofs.Common.{ℕ, zero, suc, ◌≡◌, ◌∙◌, ◌+◌, ◌&&◌, ◌||◌, ◌⊎◌, inl, inr, Bool, true, false, not, List, [], ◌∷◌, ◌++◌, map, Option, Some, None, slice_get, refl, ap, sym as flip, subst, arith}
use Rattle.std.specs.Prelude.{nat_eq, ◌==◌, if◌then◌else◌}
use Rattle.std.specs.List.{flat_map, filter, filter_map, cons_option, list_any}
use Rattle.std.specs.Option.{option_map, option_or}
use Rattle.std.proofs.lemmas.Bool.{eqb-true, eq-eqb}
use Rattle.std.proofs.lemmas.List.{map-append}
use Rattle.ir_core.proofs.Lengths.{both_true}
use Rattle.ir_core.specs.declared.types.Loc.{Loc}
use Rattle.ir_core.specs.declared.types.Ty.{Ty}
use Rattle.ir_core.specs.declared.types.Ty.TheVariants as types
use Rattle.ir_core.specs.declared.types.Width.TheVariants.{W1}
use Rattle.ir_core.specs.declared.values.Val.{Val}
use Rattle.ir_core.specs.declared.values.Side.{Side}
use Rattle.ir_core.specs.declared.values.Side.TheVariants.{M, S}
use Rattle.ir_core.specs.declared.instruction.Inst.{Inst}
use Rattle.ir_core.specs.declared.instruction.Inst.TheVariants as insts
use Rattle.ir_core.specs.declared.instruction.Block.{Block}
use Rattle.ir_core.specs.Module.{ModuleParts, FuncParts}
use Rattle.ir_flow.specs.Edges.{last_labels, numbered_from, number_of, edge_to, edges_of_block, edges_from, edges_of}
use Rattle.ir_flow.specs.Paths.{IsEdge}
use Rattle.ir_flow.specs.Phis.{HasArm, IsFitting, PhiAt, phi_at, phis_of_body, phis_from, AllFitting}
use Rattle.ir_check.specs.Blocks.{ends_well, begins_well, terminators_keep, entries_keep, enters}
use Rattle.ir_check.specs.Faults.{IsAccepted}
use Rattle.ir_check.specs.Flows.{OfAll, PhisFit}
use Rattle.ir_check.proofs.Members.{IsIn, in-front, in-back, of-append, next-in, in-map, of-map, any-in}
use Rattle.src_laws.proofs.Labels.{labelled, label-of, number-same}
use Rattle.src_laws.proofs.Accepted.{labels-apart}
use Rattle.hard_ir.specs.declared.instruction.HBlock.{HBlock}
use Rattle.hard_ir.specs.Image.{Table, phi_image}
use Rattle.hard_ir.specs.Hardened.{hard_block, hard_blocks, ticked_block, hardened_by}
use Rattle.hard_ir.specs.Fit.{HardFunc, hard_funcs, Fits, plain_inst, plain_block, plain_func, plain_line}
use Rattle.hard_ir.specs.EdgeChecks.{leads_to, predecessors, edge_arm, edge_phi, edge_phis}
use Rattle.hard_laws.proofs.Images.{IsTable}
use Rattle.hard_laws.proofs.Accepted.{sound}
use Rattle.hard_laws.proofs.Shapes.{block-ends}
use Rattle.hard_laws.proofs.HardLines.{hard_of, hard-funcs}
use Rattle.edge_laws.proofs.Ends.{EndAlike, plain-ticked, blocks-end, numbers-alike, edges-alike}
use Rattle.edge_laws.proofs.WithEdges.{edge_on, edge_blocks, edge_func, edge_funcs, edge_module, edge-funcs, Passes, of-block}
use Rattle.edge_laws.proofs.EdgeShapes.{edge-ends}

some-same : {A : Type 0} (x y : A) → Some x ≡ Some y → x ≡ y
some-same x y e = cc

-- ---- what is left by a test

pub of-filter : {A : Type 0} (p : A → Bool) (x : A) (xs : List A) → IsIn x (filter p xs) → IsIn x xs × (p x ≡ true)
of-filter p x [] (k, at) = cc
of-filter {A} p x (y ∷ xs) h = by_test (p y) refl h (λ k. of-filter p x xs k)
  where
    by_place : (k : ℕ) → p y ≡ true → slice_get (y ∷ filter p xs) k ≡ Some x → (IsIn x (filter p xs) → IsIn x xs × (p x ≡ true)) → IsIn x (y ∷ xs) × (p x ≡ true)
    by_place zero e at later = let same : y ≡ x = cc in ((0, at), subst (λ (z : A). p z ≡ true) same e)
    by_place (suc k) e at later = let rest = later (k, at) in (next-in x y xs rest.0, rest.1)

    by_test : (b : Bool) → p y ≡ b → IsIn x (if b then y ∷ filter p xs else filter p xs) → (IsIn x (filter p xs) → IsIn x xs × (p x ≡ true)) → IsIn x (y ∷ xs) × (p x ≡ true)
    by_test true e (k, at) later = by_place k e at later
    by_test false e h later = let rest = later h in (next-in x y xs rest.0, rest.1)

to-filter : {A : Type 0} (p : A → Bool) (x : A) (xs : List A) → IsIn x xs → p x ≡ true → IsIn x (filter p xs)
to-filter p x [] (k, at) e = cc
to-filter p x (y ∷ xs) (zero, at) e =
    let same : y ≡ x = cc in
    let test : p y ≡ true = ap p same ∙ e in
    rw test (0, ap (λ z. Some z) same)
to-filter {A} p x (y ∷ xs) (suc k, at) e = by_test (p y) (to-filter p x xs (k, at) e)
  where
    by_test : (b : Bool) → IsIn x (filter p xs) → IsIn x (if b then y ∷ filter p xs else filter p xs)
    by_test true h = next-in x y (filter p xs) h
    by_test false h = h

-- ---- the numbers of blocks

some-number : (n : ℕ) (blocks : List Block) (label : Loc) (block : Block) → IsIn block blocks → block.label.0 ≡ label.0 → (k : ℕ) × (numbered_from n blocks label ≡ Some k)
some-number n [] label block (k, at) e = cc
some-number n (x ∷ blocks) label block h e = by_rest (numbered_from (n + 1) blocks label) refl h (λ k. some-number (n + 1) blocks label block k e)
  where
    by_rest : (o : Option ℕ) → numbered_from (n + 1) blocks label ≡ o → IsIn block (x ∷ blocks) → (IsIn block blocks → (k : ℕ) × (numbered_from (n + 1) blocks label ≡ Some k))
        → (k : ℕ) × (option_or (numbered_from (n + 1) blocks label) (if nat_eq x.label.0 label.0 then Some n else None) ≡ Some k)
    by_rest (Some k) f h later = (k, rw f refl)
    by_rest None f (zero, at) later =
        let same : x ≡ block = cc in
        let test : nat_eq x.label.0 label.0 ≡ true = eq-eqb x.label.0 label.0 (ap (λ (b : Block). b.label.0) same ∙ e) in
        (n, rw (f, test) refl)
    by_rest None f (suc j, at) later = let rest = later (j, at) in absurd (let clash : None ≡ Some rest.0 = flip f ∙ rest.1 in cc)

module _ (m : ModuleParts) (accepted : IsAccepted m) (n : ℕ) (f : FuncParts) (here : slice_get m.funcs n ≡ Some f) where
  own-number : (i : ℕ) (block : Block) (label : Loc) → slice_get f.blocks i ≡ Some block → block.label.0 ≡ label.0 → number_of f.blocks label ≡ Some i
  own-number i block label at e =
      let found = some-number 0 f.blocks label block (i, at) e in
      let is = labelled 0 f.blocks label found.0 found.1 in
      let place : is.place ≡ i = labels-apart m n is.place i f is.block block accepted here is.at at (is.same ∙ flip e) in
      let number : found.0 ≡ i = let k = is.number in omega (arith, k, place) in
      found.1 ∙ ap (λ (k : ℕ). Some k) number

  -- ---- edges of blocks

  edges-by : (b i : ℕ) (at : Loc) → number_of f.blocks at ≡ Some b → (labels : List Loc) → list_any (λ (to : Loc). nat_eq to.0 at.0) labels ≡ true → IsIn (i, b) (filter_map (edge_to f.blocks i) labels)
  edges-by b i at number [] e = cc
  edges-by b i at number (label ∷ labels) e = by_test (nat_eq label.0 at.0) refl e (edges-by b i at number labels)
    where
      by_edge : (o : Option (ℕ × ℕ)) → IsIn (i, b) (filter_map (edge_to f.blocks i) labels) → IsIn (i, b) (cons_option o (filter_map (edge_to f.blocks i) labels))
      by_edge None h = h
      by_edge (Some edge) h = next-in (i, b) edge (filter_map (edge_to f.blocks i) labels) h

      by_test : (c : Bool) → nat_eq label.0 at.0 ≡ c → (c || list_any (λ (to : Loc). nat_eq to.0 at.0) labels) ≡ true
          → (list_any (λ (to : Loc). nat_eq to.0 at.0) labels ≡ true → IsIn (i, b) (filter_map (edge_to f.blocks i) labels)) → IsIn (i, b) (filter_map (edge_to f.blocks i) (label ∷ labels))
      by_test true g e later =
          let own : number_of f.blocks label ≡ Some b = number-same f.blocks label at (eqb-true label.0 at.0 g) ∙ number in
          rw own (0, refl)
      by_test false g e later = by_edge (edge_to f.blocks i label) (later e)

  from-in : (edge : ℕ × ℕ) (block : Block) (all : List Block) (start k place : ℕ) (blocks : List Block) → slice_get blocks k ≡ Some block → place ≡ start + k
      → IsIn edge (edges_of_block all place block) → IsIn edge (edges_from all start blocks)
  from-in edge block all start k place [] there e h = cc
  from-in edge block all start zero place (x ∷ blocks) there e h =
      let same : block ≡ x = cc in
      let number : place ≡ start = omega (arith, e) in
      in-front edge (edges_of_block all start x) (edges_from all (start + 1) blocks) (subst (λ (y : Block). IsIn edge (edges_of_block all start y)) same (subst (λ (p : ℕ). IsIn edge (edges_of_block all p block)) number h))
  from-in edge block all start (suc k) place (x ∷ blocks) there e h =
      in-back edge (edges_of_block all start x) (edges_from all (start + 1) blocks) (from-in edge block all (start + 1) k place blocks there (omega (arith, e)) h)

  edge-out : (b i : ℕ) (block : Block) (at : Loc) → number_of f.blocks at ≡ Some b → slice_get f.blocks i ≡ Some block → leads_to at block ≡ true → IsEdge (edges_of f).pairs (i, b)
  edge-out b i block at number there leads = from-in (i, b) block f.blocks 0 i i f.blocks there (omega arith) (edges-by b i at number (last_labels block.insts) leads)

  -- where an edge comes from
  record Source (i b : ℕ) : Type 0 where
    block : Block
    there : slice_get f.blocks i ≡ Some block
    label : Loc
    leads : IsIn label (last_labels block.insts)
    number : number_of f.blocks label ≡ Some b

  abbrev IsLabel : ℕ → ℕ → ℕ → List Loc → Type 0
  IsLabel from i b labels = (label : Loc) × IsIn label labels × (number_of f.blocks label ≡ Some b) × (from ≡ i)

  label-in : (from i b : ℕ) (labels : List Loc) → IsIn (i, b) (filter_map (edge_to f.blocks from) labels) → IsLabel from i b labels
  label-in from i b [] (k, at) = cc
  label-in from i b (label ∷ labels) h = by_number (number_of f.blocks label) refl h (label-in from i b labels)
    where
      later : IsLabel from i b labels → IsLabel from i b (label ∷ labels)
      later (l, inside, number, same) = (l, next-in l label labels inside, number, same)

      by_number : (o : Option ℕ) → number_of f.blocks label ≡ o → IsIn (i, b) (cons_option (option_map (λ (to : ℕ). (from, to)) o) (filter_map (edge_to f.blocks from) labels))
          → (IsIn (i, b) (filter_map (edge_to f.blocks from) labels) → IsLabel from i b labels) → IsLabel from i b (label ∷ labels)
      by_number None e h rest = later (rest h)
      by_number (Some to) e (zero, at) rest =
          let same : (from, to) ≡ (i, b) = some-same (from, to) (i, b) at in
          (label, (0, refl), e ∙ ap (λ (x : ℕ × ℕ). Some x.1) same, ap (λ (x : ℕ × ℕ). x.0) same)
      by_number (Some to) e (suc k, at) rest = later (rest (k, at))

  source-in : (i b start : ℕ) (blocks : List Block) → ((k : ℕ) (x : Block) → slice_get blocks k ≡ Some x → slice_get f.blocks (start + k) ≡ Some x) → IsIn (i, b) (edges_from f.blocks start blocks) → Source i b
  source-in i b start [] there (k, at) = cc
  source-in i b start (x ∷ blocks) there h =
      by_part (of-append (i, b) (edges_of_block f.blocks start x) (edges_from f.blocks (start + 1) blocks) h)
      (λ more. source-in i b (start + 1) blocks (λ k y e. subst (λ (j : ℕ). slice_get f.blocks j ≡ Some y) (omega arith) (there (suc k) y e)) more)
    where
      by_part : IsIn (i, b) (edges_of_block f.blocks start x) ⊎ IsIn (i, b) (edges_from f.blocks (start + 1) blocks) → (IsIn (i, b) (edges_from f.blocks (start + 1) blocks) → Source i b) → Source i b
      by_part (inl h) rest =
          let found = label-in start i b (last_labels x.insts) h in
          let same = found.3 in
          let place : start + 0 ≡ i = omega (arith, same) in
          record { block = x; there = subst (λ (k : ℕ). slice_get f.blocks k ≡ Some x) place (there 0 x refl); label = found.0; leads = found.1; number = found.2 }
      by_part (inr h) rest = rest h

  edge-in : (i b : ℕ) → IsEdge (edges_of f).pairs (i, b) → Source i b
  edge-in i b h = source-in i b 0 f.blocks (λ k x e. subst (λ (j : ℕ). slice_get f.blocks j ≡ Some x) (omega arith) e) h

  -- ---- the phi of a name

  pub phi-fits : (b : ℕ) (block : Block) (side : Side) → slice_get f.blocks b ≡ Some block → IsFitting f b (map (edge_arm block.label side) (predecessors f.blocks block.label))
  phi-fits b block side there = record { known = known; complete = complete; agree = agree }
    where
      at : Loc
      at = block.label

      -- an arm and its block
      of-arm : (place : ℕ) (arm : Val × Loc) → slice_get (map (edge_arm block.label side) (predecessors f.blocks block.label)) place ≡ Some arm
          → (i : ℕ) × (from : Block) × (slice_get f.blocks i ≡ Some from) × (leads_to block.label from ≡ true) × (edge_arm block.label side from ≡ arm)
      of-arm place arm e =
          let own = of-map (edge_arm block.label side) arm (predecessors f.blocks block.label) (place, e) in
          let kept = of-filter (leads_to block.label) own.0 f.blocks own.1 in
          (kept.0.0, own.0, kept.0.1, kept.1, own.2)

      known : (place : ℕ) (arm : Val × Loc) → slice_get (map (edge_arm block.label side) (predecessors f.blocks block.label)) place ≡ Some arm → (from : ℕ) × (number_of f.blocks arm.1 ≡ Some from) × IsEdge (edges_of f).pairs (from, b)
      known place arm e =
          let own = of-arm place arm e in
          (own.0, own-number own.0 own.1 arm.1 own.2 (ap (λ (x : Val × Loc). x.1.0) own.4), edge-out b own.0 own.1 block.label (own-number b block block.label there refl) own.2 own.3)

      complete : (from : ℕ) → IsEdge (edges_of f).pairs (from, b) → HasArm f.blocks (map (edge_arm block.label side) (predecessors f.blocks block.label)) from
      complete from e =
          let source = edge-in from b e in
          let same : block.label.0 ≡ source.label.0 = label-of f.blocks source.label b block source.number there in
          let leads : leads_to block.label source.block ≡ true = any-in (λ (to : Loc). nat_eq to.0 block.label.0) source.label (last_labels source.block.insts) source.leads (eq-eqb source.label.0 block.label.0 (flip same)) in
          let inside = in-map (edge_arm block.label side) source.block (predecessors f.blocks block.label) (to-filter (leads_to block.label) source.block f.blocks (from, source.there) leads) in
          record { place = inside.0; arm = edge_arm block.label side source.block; stands = inside.1; of_block = own-number from source.block source.block.label source.there refl }

      agree : (i j : ℕ) (x y : Val × Loc) → slice_get (map (edge_arm block.label side) (predecessors f.blocks block.label)) i ≡ Some x
          → slice_get (map (edge_arm block.label side) (predecessors f.blocks block.label)) j ≡ Some y → number_of f.blocks x.1 ≡ number_of f.blocks y.1 → x.0 ≡ y.0
      agree i j x y p q same =
          let one = of-arm i x p in
          let two = of-arm j y q in
          let first : number_of f.blocks x.1 ≡ Some one.0 = own-number one.0 one.1 x.1 one.2 (ap (λ (x : Val × Loc). x.1.0) one.4) in
          let second : number_of f.blocks y.1 ≡ Some two.0 = own-number two.0 two.1 y.1 two.2 (ap (λ (x : Val × Loc). x.1.0) two.4) in
          let numbers : Some one.0 ≡ Some two.0 = flip first ∙ same ∙ second in
          let place : one.0 ≡ two.0 = cc in
          let blocks : Some one.1 ≡ Some two.1 = flip one.2 ∙ ap (slice_get f.blocks) place ∙ two.2 in
          let block_same : one.1 ≡ two.1 = cc in
          ap (λ (x : Val × Loc). x.0) (flip one.4) ∙ ap (λ (x : Block). (edge_arm block.label side x).0) block_same ∙ ap (λ (x : Val × Loc). x.0) two.4

-- ---- functions that end alike

alike-back : (xs ys : List Block) → EndAlike xs ys → EndAlike ys xs
alike-back [] [] alike = tt
alike-back [] (y ∷ ys) alike = alike
alike-back (x ∷ xs) [] alike = alike
alike-back (x ∷ xs) (y ∷ ys) alike = (flip alike.0, alike-back xs ys alike.1)

fitting-alike : (f g : FuncParts) → EndAlike g.blocks f.blocks → (b : ℕ) (arms : List (Val × Loc)) → IsFitting f b arms → IsFitting g b arms
fitting-alike f g alike b arms fit = record {
  known = λ place arm at.
      let found = fit.known place arm at in
      (found.0, number arm.1 ∙ found.1, subst (λ (pairs : List (ℕ × ℕ)). IsEdge pairs (found.0, b)) (flip pairs) found.2);
  complete = λ from edge.
      let arm = fit.complete from (subst (λ (pairs : List (ℕ × ℕ)). IsEdge pairs (from, b)) pairs edge) in
      record { place = arm.place; arm = arm.arm; stands = arm.stands; of_block = number arm.arm.1 ∙ arm.of_block };
  agree = λ i j x y at there same. fit.agree i j x y at there (flip (number x.1) ∙ same ∙ number y.1);
}
  where
    number : (at : Loc) → number_of g.blocks at ≡ number_of f.blocks at
    number at = numbers-alike 0 g.blocks f.blocks at alike

    pairs : (edges_of g).pairs ≡ (edges_of f).pairs
    pairs = edges-alike g.blocks f.blocks alike

-- ---- the phis of a body, among new ones

all-join : (f : FuncParts) (xs ys : List PhiAt) → AllFitting f xs → AllFitting f ys → AllFitting f (xs ++ ys)
all-join f [] ys p q = q
all-join f (x ∷ xs) ys p q = (p.0, all-join f xs ys p.1 q)

all-front : (f : FuncParts) (xs ys : List PhiAt) → AllFitting f (xs ++ ys) → AllFitting f xs
all-front f [] ys p = tt
all-front f (x ∷ xs) ys p = (p.0, all-front f xs ys p.1)

all-back : (f : FuncParts) (xs ys : List PhiAt) → AllFitting f (xs ++ ys) → AllFitting f ys
all-back f [] ys p = p
all-back f (x ∷ xs) ys p = all-back f xs ys p.1

module _ (f g : FuncParts) (b : ℕ) (again : (arms : List (Val × Loc)) → IsFitting f b arms → IsFitting g b arms) where
  one-again : (i j : ℕ) (inst : Inst) → AllFitting f (phi_at b i inst) → AllFitting g (phi_at b j inst)
  one-again i j (insts.Phi dst ty arms) fit = (again arms fit.0, tt)
  one-again i j inst fit = tt

  body-again : (i j : ℕ) (body : List Inst) → AllFitting f (phis_of_body b i body) → AllFitting g (phis_of_body b j body)
  body-again i j [] fit = tt
  body-again i j (inst ∷ body) fit =
      all-join g (phi_at b j inst) (phis_of_body b (j + 1) body) (one-again i j inst (all-front f (phi_at b i inst) (phis_of_body b (i + 1) body) fit))
      (body-again (i + 1) (j + 1) body (all-back f (phi_at b i inst) (phis_of_body b (i + 1) body) fit))

  among-again : (i j : ℕ) (xs ys : List Inst) (name : Loc) (ty : Ty) (first second : List (Val × Loc)) → IsFitting g b first → IsFitting g b second → AllFitting f (phis_of_body b i (xs ++ ys))
      → AllFitting g (phis_of_body b j ((xs ++ insts.Phi name ty first ∷ insts.Phi name ty second ∷ []) ++ insts.Fence ∷ ys))
  among-again i j [] ys name ty first second p q fit = (p, (q, body-again i (j + 1 + 1 + 1) ys fit))
  among-again i j (x ∷ xs) ys name ty first second p q fit =
      all-join g (phi_at b j x) (phis_of_body b (j + 1) ((xs ++ insts.Phi name ty first ∷ insts.Phi name ty second ∷ []) ++ insts.Fence ∷ ys))
      (one-again i j x (all-front f (phi_at b i x) (phis_of_body b (i + 1) (xs ++ ys)) fit))
      (among-again (i + 1) (j + 1) xs ys name ty first second p q (all-back f (phi_at b i x) (phis_of_body b (i + 1) (xs ++ ys)) fit))

-- ---- a whole module

plain-again : (blocks : List HBlock) → map plain_block (map ticked_block blocks) ≡ map plain_block blocks
plain-again [] = refl
plain-again (block ∷ blocks) =
    ap (λ (items : List Inst). let made : Block = record { label = block.label; insts = map (λ (phi : Side × Inst). phi.1) block.phis ++ items } in made ∷ map plain_block (map ticked_block blocks)) (plain-ticked 0 block.list)
    ∙ ap (λ (rest : List Block). plain_block block ∷ rest) (plain-again blocks)

module _ (table : Table) (is : IsTable table) (ofs : ℕ → ℕ → Option Loc) (m : ModuleParts) (accepted : IsAccepted m) (fits : Fits (hardened_by table m)) where
  module _ (n : ℕ) (f : FuncParts) (here : slice_get m.funcs n ≡ Some f) where
    hard-ends : EndAlike (map plain_block (hard_blocks table f 0 f.blocks)) f.blocks
    hard-ends = subst (λ (blocks : List Block). EndAlike blocks f.blocks) (plain-again (hard_blocks table f 0 f.blocks))
        (blocks-end table is f 0 f.blocks (λ b block at. block-ends table is m (sound m accepted) n b f block (here, at)))

    hard-well : (b : ℕ) (block : Block) → slice_get f.blocks b ≡ Some block → ends_well (plain_block (hard_block table f b block)).insts ≡ true
    hard-well b block at =
        let lines = of-block table m (λ line. terminators_keep (plain_line line)) fits.terminators n b f block (here, at) in
        (both_true (ends_well (plain_block (hard_block table f b block)).insts) (begins_well (plain_block (hard_block table f b block)).insts) (both_true _ _ lines).0).0

    pub now-ends : EndAlike (map plain_block (edge_blocks table f (ofs n) 0 f.blocks)) f.blocks
    now-ends = edge-ends table f (ofs n) 0 f.blocks hard-ends (λ k block at. let same : k ≡ 0 + k = omega arith in subst (λ (j : ℕ). ends_well (plain_block (hard_block table f j block)).insts ≡ true) same (hard-well k block at))

    abbrev was : FuncParts
    was = plain_func (hard_of table f)

    abbrev now : FuncParts
    now = plain_func (edge_func table (ofs n) f)

    was-now : (b : ℕ) (arms : List (Val × Loc)) → IsFitting was b arms → IsFitting now b arms
    was-now b arms fit = fitting-alike f now now-ends b arms (fitting-alike was f (alike-back (map plain_block (hard_blocks table f 0 f.blocks)) f.blocks hard-ends) b arms fit)

    phis-alike : (body : List Inst) (name : Loc) (at : Loc) → map (λ (phi : Side × Inst). phi.1) (flat_map phi_image body ++ edge_phis name f.blocks at)
        ≡ map (λ (phi : Side × Inst). phi.1) (flat_map phi_image body) ++ (edge_phi name f.blocks at M).1 ∷ (edge_phi name f.blocks at S).1 ∷ []
    phis-alike body name at = map-append (λ (phi : Side × Inst). phi.1) (flat_map phi_image body) (edge_phis name f.blocks at)

    block-fits : (b : ℕ) (block : Block) (o : Option Loc) → slice_get f.blocks b ≡ Some block → AllFitting was (phis_of_body b 0 (plain_block (hard_block table f b block)).insts)
        → AllFitting now (phis_of_body b 0 (plain_block (edge_on o f.blocks (hard_block table f b block))).insts)
    block-fits b block None at fit = body-again was now b (was-now b) 0 0 (plain_block (hard_block table f b block)).insts fit
    block-fits b block (Some name) at fit =
        let list : List Inst = map plain_inst (hard_block table f b block).list in
        let own : (side : Side) → IsFitting now b (map (edge_arm block.label side) (predecessors f.blocks block.label)) =
        λ side. fitting-alike f now now-ends b (map (edge_arm block.label side) (predecessors f.blocks block.label)) (phi-fits m accepted n f here b block side at) in
        subst (λ (xs : List Inst). AllFitting now (phis_of_body b 0 (xs ++ insts.Fence ∷ list))) (flip (phis-alike block.insts name block.label))
        (among-again was now b (was-now b) 0 0 (map (λ (phi : Side × Inst). phi.1) (flat_map phi_image block.insts)) list name (types.Int W1)
        (map (edge_arm block.label M) (predecessors f.blocks block.label)) (map (edge_arm block.label S) (predecessors f.blocks block.label)) (own M) (own S) fit)

    blocks-fit : (b : ℕ) (blocks : List Block) → ((k : ℕ) (block : Block) → slice_get blocks k ≡ Some block → slice_get f.blocks (b + k) ≡ Some block)
        → AllFitting was (phis_from b (map plain_block (hard_blocks table f b blocks))) → AllFitting now (phis_from b (map plain_block (edge_blocks table f (ofs n) b blocks)))
    blocks-fit b [] there fit = tt
    blocks-fit b (block ∷ blocks) there fit =
        let first : slice_get f.blocks b ≡ Some block = subst (λ (k : ℕ). slice_get f.blocks k ≡ Some block) (omega arith) (there 0 block refl) in
        let own = phis_of_body b 0 (plain_block (hard_block table f b block)).insts in
        let rest = phis_from (b + 1) (map plain_block (hard_blocks table f (b + 1) blocks)) in
        all-join now (phis_of_body b 0 (plain_block (edge_on (ofs n b) f.blocks (hard_block table f b block))).insts) (phis_from (b + 1) (map plain_block (edge_blocks table f (ofs n) (b + 1) blocks)))
        (block-fits b block (ofs n b) first (all-front was own rest fit))
        (blocks-fit (b + 1) blocks (λ k x h. subst (λ (j : ℕ). slice_get f.blocks j ≡ Some x) (omega arith) (there (suc k) x h)) (all-back was own rest fit))

    func-fits : PhisFit was → PhisFit now
    func-fits fit = blocks-fit 0 f.blocks (λ k x h. subst (λ (j : ℕ). slice_get f.blocks j ≡ Some x) (omega arith) h) fit

    enters-same : enters now ≡ enters was
    enters-same =
        ap (list_any (λ (edge : ℕ × ℕ). edge.1 == 0)) (edges-alike now.blocks f.blocks now-ends ∙ flip (edges-alike was.blocks f.blocks hard-ends))

  was-at : (funcs : List FuncParts) (k : ℕ) (f : FuncParts) → slice_get funcs k ≡ Some f → slice_get (map plain_func (map (hard_of table) funcs)) k ≡ Some (plain_func (hard_of table f))
  was-at [] k f at = cc
  was-at (x ∷ funcs) zero f at = let same : x ≡ f = cc in ap (λ (y : FuncParts). Some (plain_func (hard_of table y))) same
  was-at (x ∷ funcs) (suc k) f at = was-at funcs k f at

  now-at : (start k n : ℕ) (funcs : List FuncParts) (g : FuncParts) → n ≡ start + k → slice_get (map plain_func (edge_funcs table ofs start funcs)) k ≡ Some g
      → (f : FuncParts) × (slice_get funcs k ≡ Some f) × (plain_func (edge_func table (ofs n) f) ≡ g)
  now-at start k n [] g e at = cc
  now-at start zero n (x ∷ funcs) g e at =
      let number : start ≡ n = omega (arith, e) in
      (x, refl, ap (λ (j : ℕ). plain_func (edge_func table (ofs j) x)) (flip number) ∙ (let same : plain_func (edge_func table (ofs start) x) ≡ g = cc in same))
  now-at start (suc k) n (x ∷ funcs) g e at = now-at (start + 1) k n funcs g (omega (arith, e)) at

  pub phis-pass : OfAll PhisFit (map plain_func (hard_funcs (edge_module table ofs m)))
  phis-pass = subst (λ (funcs : List HardFunc). OfAll PhisFit (map plain_func funcs)) (flip (edge-funcs table ofs m)) (λ n g at. by_func n g (now-at 0 n n m.funcs g (omega arith) at))
    where
      before : OfAll PhisFit (map plain_func (map (hard_of table) m.funcs))
      before = subst (λ (funcs : List HardFunc). OfAll PhisFit (map plain_func funcs)) (hard-funcs table m) fits.phis

      by_func : (n : ℕ) (g : FuncParts) → (f : FuncParts) × (slice_get m.funcs n ≡ Some f) × (plain_func (edge_func table (ofs n) f) ≡ g) → PhisFit g
      by_func n g (f, at, same) = subst PhisFit same (func-fits n f at (before n (plain_func (hard_of table f)) (was-at m.funcs n f at)))

  pub entries-pass : Passes table ofs m (λ line. entries_keep (plain_line line)) (λ line. entries_keep (plain_line line))
  entries-pass = record {
    outer = λ line e. e;
    block = λ n b f block at e. ap (λ (c : Bool). not (b == 0 && c)) (enters-same n f at.0) ∙ e;
    phi = λ n b i j f block phi at e. refl;
    item = λ n b i j f block item at e. refl;
    edge_phi = λ n b i f block name side at e. refl;
    edge_check = λ n b i f block name at e. refl;
  }
