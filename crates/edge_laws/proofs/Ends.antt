-- Blocks that end alike have the same edges, guarded branches and phis of edges: those of a hardened function and of its source do.
use Rattle.std.proofs.Common.{ℕ, suc, ◌≡◌, ◌∙◌, ◌+◌, ◌-◌, Bool, true, false, not, List, [], ◌∷◌, ◌++◌, map, length, Option, Some, None, slice_get, refl, ap, sym as flip, subst, arith, append-nil}
use Rattle.std.specs.Prelude.{nat_eq, if◌then◌else◌}
use Rattle.std.specs.List.{flat_map, filter_map, list_any}
use Rattle.std.specs.Option.{option_map, option_map_or, option_or, is_some}
use Rattle.std.proofs.lemmas.List.{map-append, length-map}
use Rattle.std.proofs.lemmas.Option.{slice_get-map}
use Rattle.ir_core.proofs.Lengths.{both_true}
use Rattle.ir_core.specs.declared.types.Loc.{Loc}
use Rattle.ir_core.specs.declared.values.Side.{Side}
use Rattle.ir_core.specs.declared.values.Side.TheVariants.{M}
use Rattle.ir_core.specs.declared.values.Val.TheVariants as values
use Rattle.ir_core.specs.declared.instruction.Inst.{Inst}
use Rattle.ir_core.specs.declared.instruction.Inst.TheVariants as insts
use Rattle.ir_core.specs.declared.instruction.Block.{Block}
use Rattle.ir_core.specs.Module.{FuncParts}
use Rattle.ir_core.specs.Instructions.{is_phi}
use Rattle.ir_flow.specs.Edges.{labels_of, last_labels, numbered_from, number_of, edge_to, edges_from, edges_of, is_loop_head}
use Rattle.ir_check.specs.Blocks.{is_terminator, ends_well}
use Rattle.ir_numbering.specs.Renaming.{renamed_loc, renamed_inst, renamed_block}
use Rattle.hard_ir.specs.declared.instruction.HInst.{HInst}
use Rattle.hard_ir.specs.declared.instruction.HInst.TheVariants.{Cut, Begin, End, Tick, Chk, ChkMem, Mov, Do}
use Rattle.hard_ir.specs.Image.{Table, phi_image, with_work, to_ender, since_ender, ticked}
use Rattle.hard_ir.specs.Hardened.{at_entry, at_head, hard_block, hard_blocks, ticked_block}
use Rattle.hard_ir.specs.Fit.{plain_inst, plain_block}
use Rattle.hard_ir.specs.EdgeChecks.{Guard, guard_in, guard_at, guard_of, leads_to, guards, predecessors, is_edge_target, direction, edge_arm}
use Rattle.hard_laws.proofs.Images.{EndsAs, IsTable}
use Rattle.renamed_modules.proofs.RenamedTypes.{IsApart, same-test}
use Rattle.renamed_modules.proofs.RenamedLines.{any-images}
use Rattle.renamed_modules.proofs.RenamedFlow.{last-same}
use Rattle.edge_laws.proofs.Staying.{inside}

-- ---- the last of a list

abbrev pub last : {A : Type 0} → List A → Option A
last xs = slice_get xs (length xs - 1)

pub last-cons : {A : Type 0} (x y : A) (xs : List A) → last (x ∷ y ∷ xs) ≡ last (y ∷ xs)
last-cons x y xs = let place : length (x ∷ y ∷ xs) - 1 ≡ suc (length (y ∷ xs) - 1) = omega arith in ap (slice_get (x ∷ y ∷ xs)) place

pub last-behind : {A : Type 0} (xs ys : List A) (y : A) → last ys ≡ Some y → last (xs ++ ys) ≡ Some y
last-behind [] ys y e = e
last-behind (x ∷ []) [] y e = cc
last-behind (x ∷ []) (z ∷ ys) y e = last-cons x z ys ∙ e
last-behind (x ∷ z ∷ xs) ys y e = last-cons x z (xs ++ ys) ∙ last-behind (z ∷ xs) ys y e

-- ---- blocks that end alike

-- a label and a last instruction
abbrev pub ending : Block → Loc × Option Inst
ending block = (block.label, last block.insts)

leads-by : (at : Loc) (a b : Block) → ending a ≡ ending b → leads_to at a ≡ leads_to at b
leads-by at a b e = ap (λ (x : Loc × Option Inst). list_any (λ (to : Loc). nat_eq to.0 at.0) (option_map_or labels_of x.1 [])) e

guard-by : (a b : Block) → ending a ≡ ending b → guard_of a ≡ guard_of b
guard-by a b e = ap (λ (x : Loc × Option Inst). guard_at x.1) e

abbrev pub EndAlike : List Block → List Block → Type 0
EndAlike [] [] = Unit {0}
EndAlike [] (b ∷ bs) = ⊥
EndAlike (a ∷ as_) [] = ⊥
EndAlike (a ∷ as_) (b ∷ bs) = (ending a ≡ ending b) × EndAlike as_ bs

pub target-alike : (at : Loc) (xs ys : List Block) → EndAlike xs ys → is_edge_target xs at ≡ is_edge_target ys at
target-alike at [] [] alike = refl
target-alike at [] (y ∷ ys) alike = absurd alike
target-alike at (x ∷ xs) [] alike = absurd alike
target-alike at (x ∷ xs) (y ∷ ys) alike = rw (guard-by x y alike.0, leads-by at x y alike.0, target-alike at xs ys alike.1) refl

arm-by : (at : Loc) (side : Side) (a b : Block) → ending a ≡ ending b → edge_arm at side a ≡ edge_arm at side b
arm-by at side a b e = ap (λ (x : Loc × Option Inst). (direction (guard_at x.1) at side, x.0)) e

pub arms-alike : (at : Loc) (side : Side) (xs ys : List Block) → EndAlike xs ys → map (edge_arm at side) (predecessors xs at) ≡ map (edge_arm at side) (predecessors ys at)
arms-alike at side [] [] alike = refl
arms-alike at side [] (y ∷ ys) alike = absurd alike
arms-alike at side (x ∷ xs) [] alike = absurd alike
arms-alike at side (x ∷ xs) (y ∷ ys) alike =
    by_test (leads_to at x) refl (leads_to at y) refl (leads-by at x y alike.0) (arms-alike at side xs ys alike.1)
  where
    by_test : (a : Bool) → leads_to at x ≡ a → (b : Bool) → leads_to at y ≡ b → leads_to at x ≡ leads_to at y
        → map (edge_arm at side) (predecessors xs at) ≡ map (edge_arm at side) (predecessors ys at)
        → map (edge_arm at side) (predecessors (x ∷ xs) at) ≡ map (edge_arm at side) (predecessors (y ∷ ys) at)
    by_test true e true f same rest = rw (e, f, arm-by at side x y alike.0, rest) refl
    by_test false e false f same rest = rw (e, f) rest
    by_test true e false f same rest = cc
    by_test false e true f same rest = cc

-- ---- hardened blocks end as their sources do

plain-work : (work : ℕ) (item : HInst) → plain_inst (with_work work item) ≡ plain_inst item
plain-work work (Tick old) = refl
plain-work work (Do side inst retires) = refl
plain-work work (Mov ty reg) = refl
plain-work work (Chk when ty reg) = refl
plain-work work (ChkMem ty ptr val) = refl
plain-work work Cut = refl
plain-work work Begin = refl
plain-work work End = refl

pub plain-ticked : (since : ℕ) (list : List HInst) → map plain_inst (ticked since list) ≡ map plain_inst list
plain-ticked since [] = refl
plain-ticked since (item ∷ list) =
    ap (λ (x : Inst). x ∷ map plain_inst (ticked (since_ender since item) list)) (plain-work (since + to_ender (item ∷ list)) item)
    ∙ ap (λ (xs : List Inst). plain_inst item ∷ xs) (plain-ticked (since_ender since item) list)

not-phi : (inst : Inst) → is_terminator inst ≡ true → is_phi inst ≡ false
not-phi (insts.Phi dst ty arms) e = cc
not-phi inst e = refl

-- two bodies end in one instruction
abbrev EndIn : List Inst → List Inst → Type 0
EndIn xs ys = (inst : Inst) × (last xs ≡ Some inst) × (last ys ≡ Some inst)

module _ (table : Table) (is : IsTable table) where
  images-end : (body : List Inst) → ends_well body ≡ true → EndIn body (map plain_inst (flat_map table.image body))
  images-end [] e = cc
  images-end (inst ∷ []) e =
      let own : EndsAs true inst (table.image inst) = subst (λ (b : Bool). EndsAs b inst (table.image inst)) e (is.image inst (not-phi inst e)).ends in
      let items : map plain_inst (table.image inst ++ []) ≡ map plain_inst own.0 ++ inst ∷ [] = ap (map plain_inst) (append-nil (table.image inst) ∙ own.1) ∙ map-append plain_inst own.0 (Do M inst true ∷ []) in
      (inst, refl, ap last items ∙ last-behind (map plain_inst own.0) (inst ∷ []) inst refl)
  images-end (inst ∷ next ∷ body) e =
      let rest = images-end (next ∷ body) (both_true (not (is_terminator inst)) (ends_well (next ∷ body)) e).1 in (
        rest.0,
        last-cons inst next body ∙ rest.1,
        ap last (map-append plain_inst (table.image inst) (flat_map table.image (next ∷ body)))
            ∙ last-behind (map plain_inst (table.image inst)) (map plain_inst (flat_map table.image (next ∷ body))) rest.0 rest.2,
      )

  pub block-ends : (f : FuncParts) (b : ℕ) (block : Block) → ends_well block.insts ≡ true → ending (plain_block (ticked_block (hard_block table f b block))) ≡ ending block
  block-ends f b block well =
      let body = images-end block.insts well in
      let front : List HInst = at_entry table f b in
      let head : List HInst = at_head table (is_loop_head (edges_of f).pairs b) in
      let items : map plain_inst (ticked 0 (front ++ (head ++ flat_map table.image block.insts))) ≡ map plain_inst front ++ (map plain_inst head ++ map plain_inst (flat_map table.image block.insts)) =
      plain-ticked 0 (front ++ (head ++ flat_map table.image block.insts)) ∙ map-append plain_inst front (head ++ flat_map table.image block.insts)
      ∙ ap (λ (xs : List Inst). map plain_inst front ++ xs) (map-append plain_inst head (flat_map table.image block.insts)) in
      let whole : last (map (λ (phi : Side × Inst). phi.1) (flat_map phi_image block.insts) ++ map plain_inst (ticked 0 (front ++ (head ++ flat_map table.image block.insts)))) ≡ Some body.0 =
      ap (λ (xs : List Inst). last (map (λ (phi : Side × Inst). phi.1) (flat_map phi_image block.insts) ++ xs)) items
      ∙ last-behind (map (λ (phi : Side × Inst). phi.1) (flat_map phi_image block.insts)) _ body.0
      (last-behind (map plain_inst front) _ body.0 (last-behind (map plain_inst head) _ body.0 body.2)) in
      ap (λ (o : Option Inst). (block.label, o)) (whole ∙ flip body.1)

  pub blocks-end : (f : FuncParts) (b : ℕ) (blocks : List Block) → ((i : ℕ) (block : Block) → slice_get blocks i ≡ Some block → ends_well block.insts ≡ true)
      → EndAlike (map plain_block (map ticked_block (hard_blocks table f b blocks))) blocks
  blocks-end f b [] well = tt
  blocks-end f b (block ∷ blocks) well = (block-ends f b block (well 0 block refl), blocks-end f (b + 1) blocks (λ i x h. well (suc i) x h))

-- ---- under other numbers

module _ (loc : ℕ → ℕ) (apart : IsApart loc) where
  among-same : (at : Loc) (labels : List Loc) → list_any (λ (to : Loc). nat_eq to.0 (loc at.0)) (map (renamed_loc (inside loc)) labels) ≡ list_any (λ (to : Loc). nat_eq to.0 at.0) labels
  among-same at labels = any-images (renamed_loc (inside loc)) (λ (to : Loc). nat_eq to.0 at.0) (λ (to : Loc). nat_eq to.0 (loc at.0)) (λ to. same-test loc apart to.0 at.0) labels

  pub leads-same : (at : Loc) (block : Block) → leads_to (renamed_loc (inside loc) at) (renamed_block (inside loc) block) ≡ leads_to at block
  leads-same at block = ap (list_any (λ (to : Loc). nat_eq to.0 (loc at.0))) (last-same (inside loc) apart block.insts) ∙ among-same at (last_labels block.insts)

  abbrev moved_guard : Guard → Guard
  moved_guard guard = record { on = renamed_loc (inside loc) guard.on; first = renamed_loc (inside loc) guard.first; second = renamed_loc (inside loc) guard.second }

  guard-moved : (inst : Inst) → guard_in (renamed_inst (inside loc) inst) ≡ option_map moved_guard (guard_in inst)
  guard-moved (insts.CondBr (values.Reg on) first second) = by_test (nat_eq first.0 second.0) (same-test loc apart first.0 second.0)
    where
      by_test : (b : Bool) → nat_eq (loc first.0) (loc second.0) ≡ b
          → (if nat_eq (loc first.0) (loc second.0) then None else Some (moved_guard (record { on = on; first = first; second = second })))
          ≡ option_map moved_guard (if b then None else Some (record { on = on; first = first; second = second }))
      by_test true e = rw e refl
      by_test false e = rw e refl
  guard-moved (insts.CondBr (values.Int n) first second) = refl
  guard-moved (insts.CondBr values.Null first second) = refl
  guard-moved (insts.CondBr (values.Global name) first second) = refl
  guard-moved (insts.CondBr (values.Gep gep) first second) = refl
  guard-moved inst = refl

  last-moved : (body : List Inst) → last (map (renamed_inst (inside loc)) body) ≡ option_map (renamed_inst (inside loc)) (last body)
  last-moved body = ap (λ (n : ℕ). slice_get (map (renamed_inst (inside loc)) body) (n - 1)) (length-map body (renamed_inst (inside loc))) ∙ slice_get-map (renamed_inst (inside loc)) body (length body - 1)

  pub guard-of-moved : (block : Block) → guard_of (renamed_block (inside loc) block) ≡ option_map moved_guard (guard_of block)
  guard-of-moved block = ap guard_at (last-moved block.insts) ∙ by_last (last block.insts)
    where
      by_last : (o : Option Inst) → guard_at (option_map (renamed_inst (inside loc)) o) ≡ option_map moved_guard (guard_at o)
      by_last None = refl
      by_last (Some inst) = guard-moved inst

  still-some : (o : Option Guard) → is_some (option_map moved_guard o) ≡ is_some o
  still-some None = refl
  still-some (Some guard) = refl

  guards-same : (at : Loc) (block : Block) → guards (renamed_loc (inside loc) at) (renamed_block (inside loc) block) ≡ guards at block
  guards-same at block = rw (guard-of-moved block, still-some (guard_of block), leads-same at block) refl

  pub target-same : (at : Loc) (blocks : List Block) → is_edge_target (map (renamed_block (inside loc)) blocks) (renamed_loc (inside loc) at) ≡ is_edge_target blocks at
  target-same at blocks = any-images (renamed_block (inside loc)) (guards at) (guards (renamed_loc (inside loc) at)) (guards-same at) blocks

-- ---- edges of blocks that end alike

pub numbers-alike : (k : ℕ) (xs ys : List Block) (at : Loc) → EndAlike xs ys → numbered_from k xs at ≡ numbered_from k ys at
numbers-alike k [] [] at alike = refl
numbers-alike k [] (y ∷ ys) at alike = absurd alike
numbers-alike k (x ∷ xs) [] at alike = absurd alike
numbers-alike k (x ∷ xs) (y ∷ ys) at alike =
    ap (λ (o : Option ℕ). option_or o (if nat_eq x.label.0 at.0 then Some k else None)) (numbers-alike (k + 1) xs ys at alike.1)
    ∙ ap (λ (e : Loc × Option Inst). option_or (numbered_from (k + 1) ys at) (if nat_eq e.0.0 at.0 then Some k else None)) alike.0

edges-by-labels : (xs ys : List Block) (from : ℕ) (labels : List Loc) → ((at : Loc) → number_of xs at ≡ number_of ys at) → filter_map (edge_to xs from) labels ≡ filter_map (edge_to ys from) labels
edges-by-labels xs ys from [] same = refl
edges-by-labels xs ys from (label ∷ labels) same = rw (same label, edges-by-labels xs ys from labels same) refl

edges-from-alike : (all others : List Block) (k : ℕ) (xs ys : List Block) → ((at : Loc) → number_of all at ≡ number_of others at) → EndAlike xs ys → edges_from all k xs ≡ edges_from others k ys
edges-from-alike all others k [] [] same alike = refl
edges-from-alike all others k [] (y ∷ ys) same alike = absurd alike
edges-from-alike all others k (x ∷ xs) [] same alike = absurd alike
edges-from-alike all others k (x ∷ xs) (y ∷ ys) same alike =
    ap (λ (e : Loc × Option Inst). filter_map (edge_to all k) (option_map_or labels_of e.1 []) ++ edges_from all (k + 1) xs) alike.0
    ∙ ap (λ (pairs : List (ℕ × ℕ)). pairs ++ edges_from all (k + 1) xs) (edges-by-labels all others k (last_labels y.insts) same)
    ∙ ap (λ (rest : List (ℕ × ℕ)). filter_map (edge_to others k) (last_labels y.insts) ++ rest) (edges-from-alike all others (k + 1) xs ys same alike.1)

pub edges-alike : (xs ys : List Block) → EndAlike xs ys → edges_from xs 0 xs ≡ edges_from ys 0 ys
edges-alike xs ys alike = edges-from-alike xs ys 0 xs ys (λ at. numbers-alike 0 xs ys at alike) alike
