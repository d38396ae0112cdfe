-- A thread's frames stand at places of an accepted module to which a route leads, and have words for what is assigned on it.
use Rattle.std.proofs.Common.{ℕ, zero, suc, ◌≡◌, ◌∙◌, ◌<◌, ◌⊎◌, inl, inr, Bool, true, false, ◌||◌, List, [], ◌∷◌, take, map, length, slice_get, Option, Some, None, refl, ap, sym, arith}
use Rattle.std.specs.List.{zip}
use Rattle.std.specs.Option.{is_some, option_map_or}
use Rattle.std.proofs.lemmas.List.{take_all}
use Rattle.ir_core.specs.declared.types.Loc.{Loc}
use Rattle.ir_core.specs.declared.instruction.Inst.{Inst}
use Rattle.ir_core.specs.declared.instruction.Block.{Block}
use Rattle.ir_core.specs.Module.{ModuleParts, FuncParts}
use Rattle.ir_layout.specs.Memory.{LayoutParts}
use Rattle.ir_flow.specs.Edges.{number_of, edges_of}
use Rattle.ir_flow.specs.Paths.{IsRoute, passes, is_reg, assigns, assigns_in, body_of, is_param, assigned_before}
use Rattle.ir_core.specs.Instructions.{result_of}
use Rattle.ir_check.specs.Blocks.{is_terminator}
use Rattle.ir_check.specs.Faults.{IsAccepted}
use Rattle.inst_meaning.specs.Phis.{phi_count, phis_of, phi_words, all_assigned}
use Rattle.src_meaning.specs.State.{params_at}
use Rattle.src_laws.specs.Assigned.{HasWord}
use Rattle.ir_check.proofs.Members.{or-later}
use Rattle.src_laws.proofs.Words.{Keeps, all-keeps, all-there, params-given, phis-given}
use Rattle.src_laws.proofs.Ends.{terminator-last, next-stands, first-stands, behind-phis}
use Rattle.src_laws.proofs.Labels.{is-edge}
use Rattle.src_laws.proofs.Accepted.{block-ends}
use Rattle.src_laws.proofs.Callees.{Enters}
use Rattle.src_laws.proofs.Suits.{JumpsTo}

-- the register is assigned on the path, or before the place in its block
abbrev pub is_known : FuncParts → List (ℕ × ℕ) → ℕ → ℕ → Loc → Bool
is_known f path block index reg = assigned_before f block index reg || passes (assigns_in f.blocks reg) path

pub record IsPlaced (m : ModuleParts) (n block index : ℕ) (registers : List (Option ℕ)) : Type 0 where
  pub f : FuncParts
  pub stands : slice_get m.funcs n ≡ Some f
  pub path : List (ℕ × ℕ)
  pub leads : IsRoute (edges_of f).pairs path block
  pub here : 0 < length f.blocks → is_some (slice_get (body_of f.blocks block) index) ≡ true
  pub words : (reg : Loc) → is_known f path block index reg ≡ true → HasWord registers reg

-- ---- tests

pub either : (a b : Bool) → (a || b) ≡ true → (a ≡ true) ⊎ (b ≡ true)
either true b e = inl refl
either false b e = inr e

pub or-first : (a b : Bool) → a ≡ true → (a || b) ≡ true
or-first true b e = refl
or-first false b e = cc

-- an instruction more
assigns-next : (body : List Inst) (i : ℕ) (inst : Inst) (reg : Loc) → slice_get body i ≡ Some inst → assigns (take (suc i) body) reg ≡ true
    → (assigns (take i body) reg ≡ true) ⊎ (is_reg reg (result_of inst) ≡ true)
assigns-next [] i inst reg at e = cc
assigns-next (x ∷ body) zero inst reg at e =
    let same : x ≡ inst = cc in
    by_part (either (is_reg reg (result_of x)) false e) same
  where
    by_part : (is_reg reg (result_of x) ≡ true) ⊎ (false ≡ true) → x ≡ inst → (false ≡ true) ⊎ (is_reg reg (result_of inst) ≡ true)
    by_part (inl f) same = inr (ap (λ (y : Inst). is_reg reg (result_of y)) (sym same) ∙ f)
    by_part (inr f) same = inl f
assigns-next (x ∷ body) (suc i) inst reg at e =
    by_part (either (is_reg reg (result_of x)) (assigns (take (suc i) body) reg) e) (assigns-next body i inst reg at)
  where
    by_part : (is_reg reg (result_of x) ≡ true) ⊎ (assigns (take (suc i) body) reg ≡ true)
        → (assigns (take (suc i) body) reg ≡ true → (assigns (take i body) reg ≡ true) ⊎ (is_reg reg (result_of inst) ≡ true))
        → ((is_reg reg (result_of x) || assigns (take i body) reg) ≡ true) ⊎ (is_reg reg (result_of inst) ≡ true)
    by_part (inl f) rest = inl (or-first (is_reg reg (result_of x)) (assigns (take i body) reg) f)
    by_part (inr f) rest =
        elim (rest f) as (λ _. ((is_reg reg (result_of x) || assigns (take i body) reg) ≡ true) ⊎ (is_reg reg (result_of inst) ≡ true)) [
          | inl g ↦ inl (or-later (is_reg reg (result_of x)) (assigns (take i body) reg) g)
          | inr g ↦ inr g
        ]

-- the block of an instruction
pub record InBlock (blocks : List Block) (b i : ℕ) (inst : Inst) : Type 0 where
  pub block : Block
  pub there : slice_get blocks b ≡ Some block
  pub at : slice_get block.insts i ≡ Some inst

pub in-block : (blocks : List Block) (b i : ℕ) (inst : Inst) → slice_get (body_of blocks b) i ≡ Some inst → InBlock blocks b i inst
in-block blocks b i inst e = by_block (slice_get blocks b) refl
  where
    by_block : (o : Option Block) → slice_get blocks b ≡ o → InBlock blocks b i inst
    by_block None f = absurd (let clash : None ≡ Some inst = rw f at e in cc)
    by_block (Some block) f = record { block = block; there = f; at = rw f at e }

pub body-is : (blocks : List Block) (b : ℕ) (block : Block) → slice_get blocks b ≡ Some block → body_of blocks b ≡ block.insts
body-is blocks b block e = ap (λ (o : Option Block). option_map_or (λ (x : Block). x.insts) o []) e

-- a terminator assigns nothing, so the instructions before it assign whatever its block does
pub before-terminator : (body : List Inst) (i : ℕ) (inst : Inst) (reg : Loc) → slice_get body i ≡ Some inst → length body ≡ suc i
    → result_of inst ≡ None → assigns body reg ≡ true → assigns (take i body) reg ≡ true
before-terminator body i inst reg at last none e =
    let all : take (suc i) body ≡ body = take_all (suc i) body (omega arith) in
    elim (assigns-next body i inst reg at (ap (λ (insts : List Inst). assigns insts reg) all ∙ e)) as (λ _. assigns (take i body) reg ≡ true) [
      | inl f ↦ f
      | inr f ↦ absurd (let clash : false ≡ true = ap (λ (o : Option Loc). is_reg reg o) (sym none) ∙ f in cc)
    ]

-- ---- moves

-- what is known at a place is a parameter, assigned in the block, or assigned on the path
data IsKnown (f : FuncParts) (path : List (ℕ × ℕ)) (before : List Inst) (reg : Loc) : Type 0 where
  Param : is_param f reg ≡ true → IsKnown f path before reg
  Before : assigns before reg ≡ true → IsKnown f path before reg
  OnPath : passes (assigns_in f.blocks reg) path ≡ true → IsKnown f path before reg

known : (f : FuncParts) (path : List (ℕ × ℕ)) (b i : ℕ) (reg : Loc) → is_known f path b i reg ≡ true
    → IsKnown f path (take i (body_of f.blocks b)) reg
known f path b i reg e = by_part (is_param f reg) (assigns (take i (body_of f.blocks b)) reg) refl refl e
  where
    by_part : (p a : Bool) → is_param f reg ≡ p → assigns (take i (body_of f.blocks b)) reg ≡ a
        → ((p || a) || passes (assigns_in f.blocks reg) path) ≡ true → IsKnown f path (take i (body_of f.blocks b)) reg
    by_part true a x y z = Param x
    by_part false true x y z = Before y
    by_part false false x y z = OnPath z

is-known : (f : FuncParts) (path : List (ℕ × ℕ)) (b i : ℕ) (reg : Loc) → IsKnown f path (take i (body_of f.blocks b)) reg
    → is_known f path b i reg ≡ true
is-known f path b i reg (Param e) =
    or-first (assigned_before f b i reg) (passes (assigns_in f.blocks reg) path) (or-first (is_param f reg) (assigns (take i (body_of f.blocks b)) reg) e)
is-known f path b i reg (Before e) =
    or-first (assigned_before f b i reg) (passes (assigns_in f.blocks reg) path) (or-later (is_param f reg) (assigns (take i (body_of f.blocks b)) reg) e)
is-known f path b i reg (OnPath e) = or-later (assigned_before f b i reg) (passes (assigns_in f.blocks reg) path) e

-- what is known at the end of a block is known at its terminator
pub known-at-end : (f : FuncParts) (path : List (ℕ × ℕ)) (b i : ℕ) (inst : Inst) (reg : Loc) → slice_get (body_of f.blocks b) i ≡ Some inst
    → length (body_of f.blocks b) ≡ suc i → result_of inst ≡ None → is_known f path b (length (body_of f.blocks b)) reg ≡ true
    → is_known f path b i reg ≡ true
known-at-end f path b i inst reg at last none e = is-known f path b i reg (earlier (known f path b (length (body_of f.blocks b)) reg e))
  where
    whole : take (length (body_of f.blocks b)) (body_of f.blocks b) ≡ body_of f.blocks b
    whole = take_all (length (body_of f.blocks b)) (body_of f.blocks b) (omega arith)

    earlier : IsKnown f path (take (length (body_of f.blocks b)) (body_of f.blocks b)) reg → IsKnown f path (take i (body_of f.blocks b)) reg
    earlier (Param p) = Param p
    earlier (OnPath p) = OnPath p
    earlier (Before p) =
        Before (before-terminator (body_of f.blocks b) i inst reg at last none (ap (λ (body : List Inst). assigns body reg) (sym whole) ∙ p))

-- behind an instruction that goes on
pub behind : (m : ModuleParts) (n b i : ℕ) (registers given : List (Option ℕ)) (inst : Inst) (p : IsPlaced m n b i registers) → IsAccepted m
    → slice_get (body_of p.f.blocks b) i ≡ Some inst → is_terminator inst ≡ false → Keeps registers given
    → ((reg : Loc) → is_reg reg (result_of inst) ≡ true → HasWord given reg) → IsPlaced m n b (suc i) given
behind m n b i registers given inst p accepted at goes keeps result = record {
  f = p.f;
  stands = p.stands;
  path = p.path;
  leads = p.leads;
  here = λ _. ap (λ (body : List Inst). is_some (slice_get body (suc i))) (body-is p.f.blocks b in_block.block in_block.there) ∙ next-stands in_block.block.insts i inst (block-ends m n b p.f in_block.block accepted p.stands in_block.there) in_block.at goes;
  words = λ reg e. word reg (known p.f p.path b (suc i) reg e);
}
  where
    in_block : InBlock p.f.blocks b i inst
    in_block = in-block p.f.blocks b i inst at

    old : (reg : Loc) → IsKnown p.f p.path (take i (body_of p.f.blocks b)) reg → HasWord given reg
    old reg is = keeps reg (p.words reg (is-known p.f p.path b i reg is))

    word : (reg : Loc) → IsKnown p.f p.path (take (suc i) (body_of p.f.blocks b)) reg → HasWord given reg
    word reg (Param e) = old reg (Param e)
    word reg (OnPath e) = old reg (OnPath e)
    word reg (Before e) =
        elim (assigns-next (body_of p.f.blocks b) i inst reg at e) as (λ _. HasWord given reg) [ inl f ↦ old reg (Before f) | inr f ↦ result reg f ]

-- along an edge, behind the phis
pub beyond : (m : ModuleParts) (n b i k : ℕ) (l : LayoutParts) (registers : List (Option ℕ)) (inst : Inst) (label from : Loc) (target : Block) (taken : List (Loc × ℕ)) (p : IsPlaced m n b i registers) → IsAccepted m → slice_get (body_of p.f.blocks b) i ≡ Some inst
    → JumpsTo inst label → number_of p.f.blocks label ≡ Some k → slice_get p.f.blocks k ≡ Some target
    → phi_words l registers from (phis_of target.insts) ≡ Some taken → IsPlaced m n k (phi_count target.insts) (all_assigned taken registers)
beyond m n b i k l registers inst label from target taken p accepted at jumps number there phis = record {
  f = p.f;
  stands = p.stands;
  path = edge ∷ p.path;
  leads = (is-edge p.f b k i in_block.block inst label in_block.there in_block.at last jumps.2 number, refl, p.leads);
  here = λ _. ap (λ (body : List Inst). is_some (slice_get body (phi_count target.insts))) (body-is p.f.blocks k target there) ∙ behind-phis target.insts (block-ends m n k p.f target accepted p.stands there);
  words = λ reg e. word reg (known p.f (edge ∷ p.path) k (phi_count target.insts) reg e);
}
  where
    edge : ℕ × ℕ
    edge = (b, k)

    in_block : InBlock p.f.blocks b i inst
    in_block = in-block p.f.blocks b i inst at

    last : length in_block.block.insts ≡ suc i
    last = terminator-last in_block.block.insts i inst (block-ends m n b p.f in_block.block accepted p.stands in_block.there) in_block.at jumps.0

    old : (reg : Loc) → IsKnown p.f p.path (take i (body_of p.f.blocks b)) reg → HasWord (all_assigned taken registers) reg
    old reg is = all-keeps taken registers reg (p.words reg (is-known p.f p.path b i reg is))

    many : length (body_of p.f.blocks b) ≡ suc i
    many = ap length (body-is p.f.blocks b in_block.block in_block.there) ∙ last

    word : (reg : Loc) → IsKnown p.f (edge ∷ p.path) (take (phi_count target.insts) (body_of p.f.blocks k)) reg
        → HasWord (all_assigned taken registers) reg
    word reg (Param e) = old reg (Param e)
    word reg (Before e) =
        let phi : assigns (phis_of target.insts) reg ≡ true = ap (λ (body : List Inst). assigns (take (phi_count target.insts) body) reg) (sym (body-is p.f.blocks k target there)) ∙ e in
        all-there taken registers reg (phis-given l registers from (phis_of target.insts) taken reg phis phi)
    word reg (OnPath e) =
        elim (either (assigns_in p.f.blocks reg b) (passes (assigns_in p.f.blocks reg) p.path) e) as (λ _. HasWord (all_assigned taken registers) reg) [ inl f ↦ old reg (Before (before-terminator (body_of p.f.blocks b) i inst reg at many jumps.1 f)) | inr f ↦ old reg (OnPath f) ]

-- at the entry of a function
pub entered : (m : ModuleParts) (n : ℕ) (given : List ℕ) → IsAccepted m → Enters m n (length given)
    → IsPlaced m n 0 0 (all_assigned (zip (params_at m.funcs n) given) [])
entered m n given accepted enters = record {
  f = enters.f;
  stands = enters.stands;
  path = [];
  leads = refl;
  here = λ some. by_blocks enters.f.blocks refl some;
  words = λ reg e. word reg (known enters.f [] 0 0 reg e);
}
  where
    by_blocks : (blocks : List Block) → enters.f.blocks ≡ blocks → 0 < length blocks → is_some (slice_get (body_of blocks 0) 0) ≡ true
    by_blocks [] e some = absurd (omega arith)
    by_blocks (block ∷ blocks) e some =
        first-stands block.insts (block-ends m n 0 enters.f block accepted enters.stands (ap (λ (bs : List Block). slice_get bs 0) e))

    word : (reg : Loc) → IsKnown enters.f [] [] reg → HasWord (all_assigned (zip (params_at m.funcs n) given) []) reg
    word reg (Param e) =
        let names : params_at m.funcs n ≡ map (λ param. param.1) enters.f.params = ap (λ (o : Option FuncParts). option_map_or (λ (f : FuncParts). map (λ param. param.1) f.params) o []) enters.stands in
        rw names (all-there (zip (map (λ param. param.1) enters.f.params) given) [] reg (params-given enters.f.params given reg enters.params e))
    word reg (Before e) = cc
    word reg (OnPath e) = cc
