-- Blocks, edges, phis and uses of a function under other numbers: what held of them holds.
use Rattle.std.proofs.Common.{ℕ, zero, suc, ◌≡◌, ◌∙◌, ◌+◌, ◌-◌, ◌||◌, Bool, List, [], ◌∷◌, ◌++◌, map, take, length, Option, Some, None, slice_get, refl, ap, sym as flip, subst}
use Rattle.std.specs.Prelude.{nat_eq, ◌==◌}
use Rattle.std.specs.List.{flat_map, filter_map, list_any}
use Rattle.std.specs.Option.{option_map, option_map_or}
use Rattle.std.proofs.lemmas.List.{map-append, length-map}
use Rattle.std.proofs.lemmas.Option.{slice_get-map}
use Rattle.ir_core.specs.declared.types.Ty.{Ty}
use Rattle.ir_core.specs.declared.types.Loc.{Loc}
use Rattle.ir_core.specs.declared.types.Width.{Width}
use Rattle.ir_core.specs.declared.values.Val.{Val}
use Rattle.ir_core.specs.declared.values.Val.TheVariants as values
use Rattle.ir_core.specs.declared.instruction.Inst.{Inst}
use Rattle.ir_core.specs.declared.instruction.Inst.TheVariants as insts
use Rattle.ir_core.specs.declared.instruction.Block.{Block}
use Rattle.ir_core.specs.Instructions.{result_of, is_phi}
use Rattle.ir_core.specs.Module.{FuncParts}
use Rattle.ir_flow.specs.Edges.{labels_of, last_labels, number_of, edge_to, edges_from, edges_of}
use Rattle.ir_flow.specs.Paths.{IsEdge, IsRoute, passes, is_reg, assigns, body_of, assigns_in, is_param, assigned_before, IsAssigned}
use Rattle.ir_flow.specs.Phis.{IsFitting, PhiAt, phi_at, phis_of_body, phis_from, phis_of, AllFitting}
use Rattle.ir_flow.specs.Uses.{reg_in, reg_in_arg, reg_in_index, reg_in_option, regs_in, arms_in, uses_here, uses_at_end, uses_of_arm, uses_of_inst, uses_of_body, uses_from, uses_of, UseAssigned, AllAssigned}
use Rattle.ir_check.specs.Blocks.{is_terminator, ends_well, begins_well, enters}
use Rattle.ir_numbering.specs.Renaming.{Renaming, renamed_loc, renamed_ty, renamed_val, renamed_args, renamed_arms, renamed_cases, renamed_index, renamed_option, renamed_inst, renamed_block, renamed_param, renamed_func}
use Rattle.renamed_modules.proofs.RenamedTypes.{IsApart, same-test, take-map}
use Rattle.renamed_modules.proofs.RenamedFrames.{numbers-same, phi-kind}
use Rattle.renamed_modules.proofs.RenamedLines.{flat-images, any-images, result-same}

-- ---- lists

-- something holds of each item
abbrev AllOf : {A : Type 0} → (A → Type 0) → List A → Type 0
AllOf P [] = Unit {0}
AllOf P (x ∷ xs) = P x × AllOf P xs

of-hold : {A : Type 0} (P : A → Type 0) (xs : List A) → ((k : ℕ) (x : A) → slice_get xs k ≡ Some x → P x) → AllOf P xs
of-hold P [] all = tt
of-hold P (x ∷ xs) all = (all 0 x refl, of-hold P xs (λ k y e. all (suc k) y e))

to-hold : {A : Type 0} (P : A → Type 0) (xs : List A) → AllOf P xs → (k : ℕ) (x : A) → slice_get xs k ≡ Some x → P x
to-hold P [] all k x e = cc
to-hold P (y ∷ xs) all zero x e = let same : y ≡ x = cc in subst P same all.0
to-hold P (y ∷ xs) all (suc k) x e = to-hold P xs all.1 k x e

of-both : {A : Type 0} (P : A → Type 0) (xs ys : List A) → AllOf P (xs ++ ys) → AllOf P xs × AllOf P ys
of-both P [] ys all = (tt, all)
of-both P (x ∷ xs) ys all = let rest = of-both P xs ys all.1 in ((all.0, rest.0), rest.1)

to-both : {A : Type 0} (P : A → Type 0) (xs ys : List A) → AllOf P xs → AllOf P ys → AllOf P (xs ++ ys)
to-both P [] ys one two = two
to-both P (x ∷ xs) ys one two = (one.0, to-both P xs ys one.1 two)

module _ (r : Renaming) (apart : IsApart r.loc) where
  -- ---- blocks

  terminator-same : (inst : Inst) → is_terminator (renamed_inst r inst) ≡ is_terminator inst
  terminator-same (insts.Br to) = refl
  terminator-same (insts.CondBr cond on_true on_false) = refl
  terminator-same (insts.Switch ty on default cases) = refl
  terminator-same (insts.Ret ty val) = refl
  terminator-same insts.Unreachable = refl
  terminator-same inst = refl

  pub ends-same : (body : List Inst) → ends_well (map (renamed_inst r) body) ≡ ends_well body
  ends-same [] = refl
  ends-same (inst ∷ []) = terminator-same inst
  ends-same (inst ∷ next ∷ body) = rw (terminator-same inst, ends-same (next ∷ body)) refl

  pub begins-same : (body : List Inst) → begins_well (map (renamed_inst r) body) ≡ begins_well body
  begins-same [] = refl
  begins-same (inst ∷ body) = rw (phi-kind r apart inst, begins-same body, any-images (renamed_inst r) is_phi is_phi (phi-kind r apart) body) refl

  -- ---- edges

  labels-same : (inst : Inst) → labels_of (renamed_inst r inst) ≡ map (renamed_loc r) (labels_of inst)
  labels-same (insts.Br to) = refl
  labels-same (insts.CondBr cond on_true on_false) = refl
  labels-same (insts.Switch ty on default cases) = ap (λ (rest : List Loc). renamed_loc r default ∷ rest) (targets cases)
    where
      targets : (cases : List (ℕ × Loc)) → map (λ (case : ℕ × Loc). case.1) (renamed_cases r cases) ≡ map (renamed_loc r) (map (λ (case : ℕ × Loc). case.1) cases)
      targets [] = refl
      targets (case ∷ cases) = ap (λ (rest : List Loc). renamed_loc r case.1 ∷ rest) (targets cases)
  labels-same inst = refl

  pub last-same : (body : List Inst) → last_labels (map (renamed_inst r) body) ≡ map (renamed_loc r) (last_labels body)
  last-same body =
      ap (λ (n : ℕ). option_map_or labels_of (slice_get (map (renamed_inst r) body) (n - 1)) []) (length-map body (renamed_inst r))
      ∙ ap (λ (o : Option Inst). option_map_or labels_of o []) (slice_get-map (renamed_inst r) body (length body - 1)) ∙ by_inst (slice_get body (length body - 1))
    where
      by_inst : (o : Option Inst) → option_map_or labels_of (option_map (renamed_inst r) o) [] ≡ map (renamed_loc r) (option_map_or labels_of o [])
      by_inst None = refl
      by_inst (Some inst) = labels-same inst

  edges-to : (blocks : List Block) (from : ℕ) (labels : List Loc) → filter_map (edge_to (map (renamed_block r) blocks) from) (map (renamed_loc r) labels) ≡ filter_map (edge_to blocks from) labels
  edges-to blocks from [] = refl
  edges-to blocks from (label ∷ labels) = rw (numbers-same r apart 0 blocks label, edges-to blocks from labels) refl

  edges-by : (all : List Block) (n : ℕ) (blocks : List Block) → edges_from (map (renamed_block r) all) n (map (renamed_block r) blocks) ≡ edges_from all n blocks
  edges-by all n [] = refl
  edges-by all n (block ∷ blocks) = rw (last-same block.insts, edges-to all n (last_labels block.insts), edges-by all (n + 1) blocks) refl

  module _ (f : FuncParts) (names : List (List ℕ)) where
    abbrev g : FuncParts
    g = record (renamed_func r f) { names = names }

    pub edges-same : (edges_of g).pairs ≡ (edges_of f).pairs
    edges-same = edges-by f.blocks 0 f.blocks

    pub enters-same : enters g ≡ enters f
    enters-same = ap (list_any (λ (edge : ℕ × ℕ). edge.1 == 0)) edges-same

    -- ---- phis

    numbered : (label : Loc) → number_of g.blocks (renamed_loc r label) ≡ number_of f.blocks label
    numbered label = numbers-same r apart 0 f.blocks label

    abbrev renamed_arm : Val × Loc → Val × Loc
    renamed_arm arm = (renamed_val r arm.0, renamed_loc r arm.1)

    -- an arm of the other list is one of this list, renamed
    arm-of : (arms : List (Val × Loc)) (place : ℕ) (arm : Val × Loc) → slice_get (renamed_arms r arms) place ≡ Some arm → (own : Val × Loc) × (slice_get arms place ≡ Some own) × (renamed_arm own ≡ arm)
    arm-of [] place arm e = absurd cc
    arm-of (x ∷ arms) zero arm e = (x, refl, cc)
    arm-of (x ∷ arms) (suc place) arm e = arm-of arms place arm e

    fitting : (block : ℕ) (arms : List (Val × Loc)) → IsFitting f block arms → IsFitting g block (renamed_arms r arms)
    fitting block arms fits = record {
      known = λ place arm e.
          let own = arm-of arms place arm e in
          let was = fits.known place own.0 own.1 in
          (was.0, ap (λ (x : Val × Loc). number_of g.blocks x.1) (flip own.2) ∙ numbered own.0.1 ∙ was.1, subst (λ (pairs : List (ℕ × ℕ)). IsEdge pairs (was.0, block)) (flip edges-same) was.2);
      complete = λ from e.
          let was = fits.complete from (subst (λ (pairs : List (ℕ × ℕ)). IsEdge pairs (from, block)) edges-same e) in
          record {
            place = was.place;
            arm = renamed_arm was.arm;
            stands = slice_get-map (λ (arm : Val × Loc). (renamed_val r arm.0, renamed_loc r arm.1)) arms was.place ∙ ap (option_map renamed_arm) was.stands;
            of_block = numbered was.arm.1 ∙ was.of_block;
          };
      agree = λ i j a b at there same.
          let one = arm-of arms i a at in
          let two = arm-of arms j b there in
          let were : number_of f.blocks one.0.1 ≡ number_of f.blocks two.0.1 = flip (numbered one.0.1) ∙ ap (λ (x : Val × Loc). number_of g.blocks x.1) one.2 ∙ same ∙ ap (λ (x : Val × Loc). number_of g.blocks x.1) (flip two.2) ∙ numbered two.0.1 in
          ap (λ (x : Val × Loc). x.0) (flip one.2) ∙ ap (renamed_val r) (fits.agree i j one.0 two.0 one.1 two.1 were) ∙ ap (λ (x : Val × Loc). x.0) two.2;
    }

    abbrev renamed_phi : PhiAt → PhiAt
    renamed_phi phi = record phi { arms = renamed_arms r phi.arms }

    phi-same : (block n : ℕ) (inst : Inst) → phi_at block n (renamed_inst r inst) ≡ map renamed_phi (phi_at block n inst)
    phi-same block n (insts.Phi dst ty arms) = refl
    phi-same block n inst = refl

    body-phis : (block n : ℕ) (body : List Inst) → phis_of_body block n (map (renamed_inst r) body) ≡ map renamed_phi (phis_of_body block n body)
    body-phis block n [] = refl
    body-phis block n (inst ∷ body) = rw (phi-same block n inst, body-phis block (n + 1) body) (flip (map-append renamed_phi (phi_at block n inst) (phis_of_body block (n + 1) body)))

    blocks-phis : (n : ℕ) (blocks : List Block) → phis_from n (map (renamed_block r) blocks) ≡ map renamed_phi (phis_from n blocks)
    blocks-phis n [] = refl
    blocks-phis n (block ∷ blocks) = rw (body-phis n 0 block.insts, blocks-phis (n + 1) blocks) (flip (map-append renamed_phi (phis_of_body n 0 block.insts) (phis_from (n + 1) blocks)))

    all-fit : (phis : List PhiAt) → AllFitting f phis → AllFitting g (map renamed_phi phis)
    all-fit [] all = tt
    all-fit (phi ∷ phis) all = (fitting phi.block phi.arms all.0, all-fit phis all.1)

    pub phis-fit : AllFitting f (phis_of f) → AllFitting g (phis_of g)
    phis-fit all = subst (AllFitting g) (flip (blocks-phis 0 f.blocks)) (all-fit (phis_of f) all)

    -- ---- assignments

    body-same : (b : ℕ) → body_of g.blocks b ≡ map (renamed_inst r) (body_of f.blocks b)
    body-same b = ap (λ (o : Option Block). option_map_or (λ (block : Block). block.insts) o []) (slice_get-map (renamed_block r) f.blocks b) ∙ by_block (slice_get f.blocks b)
      where
        by_block : (o : Option Block) → option_map_or (λ (block : Block). block.insts) (option_map (renamed_block r) o) [] ≡ map (renamed_inst r) (option_map_or (λ (block : Block). block.insts) o [])
        by_block None = refl
        by_block (Some block) = refl

    reg-same : (reg : Loc) (o : Option Loc) → is_reg (renamed_loc r reg) (option_map (renamed_loc r) o) ≡ is_reg reg o
    reg-same reg None = refl
    reg-same reg (Some at) = same-test r.loc apart at.0 reg.0

    assigns-same : (body : List Inst) (reg : Loc) → assigns (map (renamed_inst r) body) (renamed_loc r reg) ≡ assigns body reg
    assigns-same body reg = any-images (renamed_inst r) (λ inst. is_reg reg (result_of inst)) (λ inst. is_reg (renamed_loc r reg) (result_of inst))
        (λ inst. ap (is_reg (renamed_loc r reg)) (result-same r inst) ∙ reg-same reg (result_of inst)) body

    param-same : (reg : Loc) → is_param g (renamed_loc r reg) ≡ is_param f reg
    param-same reg = any-images (renamed_param r) (λ (param : Ty × Loc). nat_eq param.1.0 reg.0) (λ (param : Ty × Loc). nat_eq param.1.0 (r.loc reg.0)) (λ param. same-test r.loc apart param.1.0 reg.0) f.params

    before-same : (b i : ℕ) (reg : Loc) → assigned_before g b i (renamed_loc r reg) ≡ assigned_before f b i reg
    before-same b i reg =
        ap (λ (c : Bool). c || assigns (take i (body_of g.blocks b)) (renamed_loc r reg)) (param-same reg)
        ∙ ap (λ (body : List Inst). is_param f reg || assigns (take i body) (renamed_loc r reg)) (body-same b)
        ∙ ap (λ (body : List Inst). is_param f reg || assigns body (renamed_loc r reg)) (take-map (renamed_inst r) i (body_of f.blocks b))
        ∙ ap (λ (c : Bool). is_param f reg || c) (assigns-same (take i (body_of f.blocks b)) reg)

    passes-same : (reg : Loc) (path : List (ℕ × ℕ)) → passes (assigns_in g.blocks (renamed_loc r reg)) path ≡ passes (assigns_in f.blocks reg) path
    passes-same reg [] = refl
    passes-same reg (edge ∷ path) =
        rw (ap (λ (body : List Inst). assigns body (renamed_loc r reg)) (body-same edge.0) ∙ assigns-same (body_of f.blocks edge.0) reg, passes-same reg path) refl

    assigned : (b i : ℕ) (reg : Loc) → IsAssigned f b i reg → IsAssigned g b i (renamed_loc r reg)
    assigned b i reg is path route =
        ap (λ (c : Bool). c || passes (assigns_in g.blocks (renamed_loc r reg)) path) (before-same b i reg)
        ∙ ap (λ (c : Bool). assigned_before f b i reg || c) (passes-same reg path)
        ∙ is path (subst (λ (pairs : List (ℕ × ℕ)). IsRoute pairs path b) edges-same route)

    -- ---- uses

    here : (block n : ℕ) (regs : List Loc) → AllOf (UseAssigned f) (uses_here block n regs) → AllOf (UseAssigned g) (uses_here block n (map (renamed_loc r) regs))
    here block n [] all = tt
    here block n (reg ∷ regs) all = (assigned block n reg all.0, here block n regs all.1)

    at-end : (block n : ℕ) (o : Option ℕ) (regs : List Loc) → AllOf (UseAssigned f) (uses_at_end f.blocks block n o regs) → AllOf (UseAssigned g) (uses_at_end g.blocks block n o (map (renamed_loc r) regs))
    at-end block n None regs all = tt
    at-end block n (Some from) [] all = tt
    at-end block n (Some from) (reg ∷ regs) all = (
      subst (λ (count : ℕ). IsAssigned g from count (renamed_loc r reg)) (flip (ap length (body-same from) ∙ length-map (body_of f.blocks from) (renamed_inst r))) (assigned from (length (body_of f.blocks from)) reg all.0),
      at-end block n (Some from) regs all.1,
    )

    value-regs : (value : Val) → reg_in (renamed_val r value) ≡ map (renamed_loc r) (reg_in value)
    value-regs (values.Reg at) = refl
    value-regs (values.Int n) = refl
    value-regs values.Null = refl
    value-regs (values.Global name) = refl
    value-regs (values.Gep gep) = refl

    two-regs : (a b : Val) → reg_in (renamed_val r a) ++ reg_in (renamed_val r b) ≡ map (renamed_loc r) (reg_in a ++ reg_in b)
    two-regs a b = rw (value-regs a, value-regs b) (flip (map-append (renamed_loc r) (reg_in a) (reg_in b)))

    three-regs : (a b c : Val) → (reg_in (renamed_val r a) ++ reg_in (renamed_val r b)) ++ reg_in (renamed_val r c) ≡ map (renamed_loc r) ((reg_in a ++ reg_in b) ++ reg_in c)
    three-regs a b c = rw (two-regs a b, value-regs c) (flip (map-append (renamed_loc r) (reg_in a ++ reg_in b) (reg_in c)))

    option-regs : (o : Option Val) → reg_in_option (renamed_option (renamed_val r) o) ≡ map (renamed_loc r) (reg_in_option o)
    option-regs None = refl
    option-regs (Some value) = value-regs value

    args-regs : (args : List (Ty × Val)) → flat_map reg_in_arg (renamed_args r args) ≡ map (renamed_loc r) (flat_map reg_in_arg args)
    args-regs = flat-images (λ (arg : Ty × Val). (renamed_ty r arg.0, renamed_val r arg.1)) reg_in_arg reg_in_arg (renamed_loc r) (λ arg. value-regs arg.1)

    index-regs : (indices : List (Width × Val)) → flat_map reg_in_index (renamed_index r indices) ≡ map (renamed_loc r) (flat_map reg_in_index indices)
    index-regs = flat-images (λ (index : Width × Val). (index.0, renamed_val r index.1)) reg_in_index reg_in_index (renamed_loc r) (λ index. value-regs index.1)

    pub inst-regs : (inst : Inst) → regs_in (renamed_inst r inst) ≡ map (renamed_loc r) (regs_in inst)
    inst-regs (insts.Bin dst op flags w a b) = two-regs a b
    inst-regs (insts.Cmp dst pred ty a b) = two-regs a b
    inst-regs (insts.Select dst cond ty a b) = three-regs cond a b
    inst-regs (insts.Cast dst op from a to) = value-regs a
    inst-regs (insts.Gep dst base ptr index) = rw (value-regs ptr, index-regs index) (flip (map-append (renamed_loc r) (reg_in ptr) (flat_map reg_in_index index)))
    inst-regs (insts.Load dst ty ptr atomic) = value-regs ptr
    inst-regs (insts.Store ty val ptr atomic) = two-regs val ptr
    inst-regs (insts.Rmw dst op ptr ty val) = two-regs ptr val
    inst-regs (insts.CmpXchg dst ptr ty old new) = three-regs ptr old new
    inst-regs (insts.Extract dst elem pair index) = refl
    inst-regs (insts.Call dst ret callee args) = args-regs args
    inst-regs (insts.CondBr cond on_true on_false) = value-regs cond
    inst-regs (insts.Switch ty on default cases) = value-regs on
    inst-regs (insts.Ret ty val) = option-regs val
    inst-regs inst = refl

    pub arms-same : (inst : Inst) → arms_in (renamed_inst r inst) ≡ renamed_arms r (arms_in inst)
    arms-same (insts.Phi dst ty arms) = refl
    arms-same inst = refl

    arms-uses : (block n : ℕ) (arms : List (Val × Loc)) → AllOf (UseAssigned f) (flat_map (uses_of_arm f.blocks block n) arms) → AllOf (UseAssigned g) (flat_map (uses_of_arm g.blocks block n) (renamed_arms r arms))
    arms-uses block n [] all = tt
    arms-uses block n (arm ∷ arms) all =
        let parts = of-both (UseAssigned f) (uses_of_arm f.blocks block n arm) (flat_map (uses_of_arm f.blocks block n) arms) all in
        to-both (UseAssigned g) (uses_of_arm g.blocks block n (renamed_val r arm.0, renamed_loc r arm.1)) (flat_map (uses_of_arm g.blocks block n) (renamed_arms r arms))
        (rw (numbered arm.1, value-regs arm.0) (at-end block n (number_of f.blocks arm.1) (reg_in arm.0) parts.0)) (arms-uses block n arms parts.1)

    inst-uses : (block n : ℕ) (inst : Inst) → AllOf (UseAssigned f) (uses_of_inst f.blocks block n inst) → AllOf (UseAssigned g) (uses_of_inst g.blocks block n (renamed_inst r inst))
    inst-uses block n inst all =
        let parts = of-both (UseAssigned f) (uses_here block n (regs_in inst)) (flat_map (uses_of_arm f.blocks block n) (arms_in inst)) all in
        to-both (UseAssigned g) (uses_here block n (regs_in (renamed_inst r inst))) (flat_map (uses_of_arm g.blocks block n) (arms_in (renamed_inst r inst)))
        (subst (λ (regs : List Loc). AllOf (UseAssigned g) (uses_here block n regs)) (flip (inst-regs inst)) (here block n (regs_in inst) parts.0))
        (subst (λ (arms : List (Val × Loc)). AllOf (UseAssigned g) (flat_map (uses_of_arm g.blocks block n) arms)) (flip (arms-same inst)) (arms-uses block n (arms_in inst) parts.1))

    body-uses : (block n : ℕ) (body : List Inst) → AllOf (UseAssigned f) (uses_of_body f.blocks block n body) → AllOf (UseAssigned g) (uses_of_body g.blocks block n (map (renamed_inst r) body))
    body-uses block n [] all = tt
    body-uses block n (inst ∷ body) all =
        let parts = of-both (UseAssigned f) (uses_of_inst f.blocks block n inst) (uses_of_body f.blocks block (n + 1) body) all in
        to-both (UseAssigned g) (uses_of_inst g.blocks block n (renamed_inst r inst)) (uses_of_body g.blocks block (n + 1) (map (renamed_inst r) body)) (inst-uses block n inst parts.0) (body-uses block (n + 1) body parts.1)

    blocks-uses : (n : ℕ) (blocks : List Block) → AllOf (UseAssigned f) (uses_from f.blocks n blocks) → AllOf (UseAssigned g) (uses_from g.blocks n (map (renamed_block r) blocks))
    blocks-uses n [] all = tt
    blocks-uses n (block ∷ blocks) all =
        let parts = of-both (UseAssigned f) (uses_of_body f.blocks n 0 block.insts) (uses_from f.blocks (n + 1) blocks) all in
        to-both (UseAssigned g) (uses_of_body g.blocks n 0 (map (renamed_inst r) block.insts)) (uses_from g.blocks (n + 1) (map (renamed_block r) blocks)) (body-uses n 0 block.insts parts.0) (blocks-uses (n + 1) blocks parts.1)

    pub uses-assigned : AllAssigned f → AllAssigned g
    uses-assigned all = to-hold (UseAssigned g) (uses_of g) (blocks-uses 0 f.blocks (of-hold (UseAssigned f) (uses_of f) all))
