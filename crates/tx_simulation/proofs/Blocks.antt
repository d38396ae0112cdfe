-- The functions and blocks of a loose image, by number and by label; and that no block checks its edges where no branch leads to it.
use Rattle.renamed_modules.proofs.SamePlaces.{same-place}
use Rattle.std.proofs.Common.{ℕ, zero, suc, ◌≡◌, ◌∙◌, ◌⊎◌, inl, inr, ◌<◌, ◌≤◌, ◌+◌, ◌-◌, Bool, true, false, List, [], ◌∷◌, drop, length, get_or, Option, Some, None, slice_get, refl, ap, sym, arith}
use Rattle.std.specs.Prelude.{nat_eq, if◌then◌else◌}
use Rattle.std.specs.List.{list_any}
use Rattle.std.specs.Option.{option_map_or, option_or, is_some}
use Rattle.std.proofs.lemmas.Bool.{eq-eqb, eqb-true}
use Rattle.std.proofs.lemmas.Option.{slice_get_cases, slice_get_within}
use Rattle.ir_core.proofs.Lengths.{both_true}
use Rattle.ir_core.specs.declared.types.Loc.{Loc}
use Rattle.ir_core.specs.declared.instruction.Inst.{Inst}
use Rattle.ir_core.specs.declared.instruction.Block.{Block}
use Rattle.ir_core.specs.Module.{ModuleParts, FuncParts}
use Rattle.ir_flow.specs.Edges.{labels_of, number_of, numbered_from}
use Rattle.ir_check.specs.Faults.{IsAccepted}
use Rattle.ir_check.proofs.Members.{IsIn, any-position, at-position}
use Rattle.inst_meaning.specs.Phis.{phi_count}
use Rattle.src_laws.proofs.Accepted.{labels-apart}
use Rattle.src_laws.proofs.Labels.{labelled}
use Rattle.hard_ir.specs.declared.instruction.HInst.{HInst}
use Rattle.hard_ir.specs.declared.instruction.HBlock.{HBlock}
use Rattle.hard_ir.specs.EdgeChecks.{guard_of, leads_to, guards}
use Rattle.hard_ir.specs.Hardened.{HardParts}
use Rattle.hard_ir.specs.Images.{EdgeNames, IsBlockImage, IsFuncImage, IsLooseCode, IsLooseImage, LooseRows, Over, CutMark, BeginMark, Phi, Next}
use Rattle.hard_frames.specs.Code as hard_text
use Rattle.hard_frames.specs.Frames.{number_in}
use Rattle.hard_simulation.proofs.Edges.{never-enters}
use Rattle.hard_simulation.proofs.Landing.{SameLabel, numbers-same}

-- ---- functions and blocks of an image

-- the blocks of a function, and what they are of
pub record IsHardFunc (m : ModuleParts) (h : HardParts) (n : ℕ) (f : FuncParts) : Type 0 where
  pub blocks : List HBlock
  pub at : hard_text.blocks_at h n ≡ blocks
  pub image : IsFuncImage (IsLooseCode m) f blocks

pub hard-func : (m : ModuleParts) (h : HardParts) (image : IsLooseImage m h) (n : ℕ) (f : FuncParts) → slice_get m.funcs n ≡ Some f → IsHardFunc m h n f
hard-func m h image n f at =
    let there = same-place m.funcs h.funcs n f image.count at in
    record {
      blocks = there.0;
      at = ap (λ (o : Option (List HBlock)). option_map_or (λ (blocks : List HBlock). blocks) o []) there.1;
      image = image.each n f there.0 at there.1;
    }

pub hard-block : (m : ModuleParts) (f : FuncParts) (blocks : List HBlock) (image : IsFuncImage (IsLooseCode m) f blocks) (b : ℕ) (block : Block)
    → slice_get f.blocks b ≡ Some block
    → (hard : HBlock) × (slice_get blocks b ≡ Some hard) × IsBlockImage (IsLooseCode m) f b block (image.edges.of b) hard
hard-block m f blocks image b block at =
    let there = same-place f.blocks blocks b block image.count at in (there.0, there.1, image.each b block there.0 at there.1)

-- ---- what stands after the phis

pub rows-after-phis : (m : ModuleParts) (body : List Inst) (code : List HInst) → LooseRows m body code → LooseRows m (drop (phi_count body) body) code
rows-after-phis m body code (Over e f) = rw e (Over refl f)
rows-after-phis m body code (CutMark rest e rows) = CutMark rest e (rows-after-phis m body rest rows)
rows-after-phis m body code (BeginMark rest e rows) = BeginMark rest e (rows-after-phis m body rest rows)
rows-after-phis m body code (Phi phi after e is rows) =
    let one : 1 + phi_count after ≡ suc (phi_count after) = omega arith in
    rw (e, is, one) (rows-after-phis m after code rows)
rows-after-phis m body code (Next inst after works rest e plain f rows) = rw (e, plain) (Next inst after works rest refl plain f rows)

-- ---- labels

pub numbers-alike : (m : ModuleParts) (f : FuncParts) (blocks : List HBlock) (image : IsFuncImage (IsLooseCode m) f blocks) (label : Loc)
    → number_in blocks label ≡ number_of f.blocks label
numbers-alike m f blocks image label = numbers-same 0 blocks f.blocks label (λ b. by_block b (slice_get f.blocks b) (slice_get blocks b) refl refl)
  where
    by_block : (b : ℕ) (x : Option Block) (y : Option HBlock) → slice_get f.blocks b ≡ x → slice_get blocks b ≡ y → SameLabel x y
    by_block b None None e g = tt
    by_block b (Some block) None e g =
        let there = same-place f.blocks blocks b block image.count e in absurd (let clash : Some there.0 ≡ None = sym there.1 ∙ g in cc)
    by_block b None (Some hard) e g =
        let there = same-place blocks f.blocks b hard (sym image.count) g in absurd (let clash : Some there.0 ≡ None = sym there.1 ∙ e in cc)
    by_block b (Some block) (Some hard) e g = (image.each b block hard e g).label

-- what passes a test in a list
pub of-any : {A : Type 0} (test : A → Bool) (xs : List A) → list_any test xs ≡ true → (x : A) × IsIn x xs × (test x ≡ true)
of-any test xs e =
    let place = any-position test xs e in
    let found = at-position test xs place.0 place.1 in
    (found.0, (place.0, found.1), found.2)

-- a label of a block has a number
numbered : (n b : ℕ) (blocks : List Block) (block : Block) (label : Loc) → slice_get blocks b ≡ Some block → block.label.0 ≡ label.0
    → (k : ℕ) × (numbered_from n blocks label ≡ Some k)
numbered n b [] block label at e = absurd cc
numbered n zero (x ∷ blocks) block label at e = by_rest (numbered_from (n + 1) blocks label) refl
  where
    here : nat_eq x.label.0 label.0 ≡ true
    here = let same : x ≡ block = cc in eq-eqb x.label.0 label.0 (ap (λ (y : Block). y.label.0) same ∙ e)

    by_rest : (o : Option ℕ) → numbered_from (n + 1) blocks label ≡ o → (k : ℕ) × (numbered_from n (x ∷ blocks) label ≡ Some k)
    by_rest (Some k) f = (k, ap (λ (o : Option ℕ). option_or o (if nat_eq x.label.0 label.0 then Some n else None)) f)
    by_rest None f = (n, rw (f, here) refl)
numbered n (suc b) (x ∷ blocks) block label at e =
    let rest = numbered (n + 1) b blocks block label at e in
    (rest.0, ap (λ (o : Option ℕ). option_or o (if nat_eq x.label.0 label.0 then Some n else None)) rest.1)

-- in an accepted module that is the number of the block
pub number-of-block : (m : ModuleParts) (n b : ℕ) (f : FuncParts) (block : Block) (label : Loc) → IsAccepted m → slice_get m.funcs n ≡ Some f
    → slice_get f.blocks b ≡ Some block → block.label.0 ≡ label.0 → number_of f.blocks label ≡ Some b
number-of-block m n b f block label accepted at there e =
    let some = numbered 0 b f.blocks block label there e in
    let is = labelled 0 f.blocks label some.0 some.1 in
    let same : is.place ≡ b = labels-apart m n is.place b f is.block block accepted at is.at there (is.same ∙ sym e) in
    let number : some.0 ≡ b = omega (arith, is.number, same) in
    some.1 ∙ ap (λ (k : ℕ). Some k) number

-- ---- the entry

-- the last instruction of a block that leads somewhere
pub record Leads (at : Loc) (block : Block) : Type 0 where
  pub i : ℕ
  pub inst : Inst
  pub label : Loc
  pub there : slice_get block.insts i ≡ Some inst
  pub last : length block.insts ≡ suc i
  pub one : IsIn label (labels_of inst)
  pub same : label.0 ≡ at.0

pub leads : (at : Loc) (block : Block) → leads_to at block ≡ true → Leads at block
leads at block e = by_last (slice_get block.insts (length block.insts - 1)) refl
  where
    by_last : (o : Option Inst) → slice_get block.insts (length block.insts - 1) ≡ o → Leads at block
    by_last None f = absurd (let clash : false ≡ true = ap (λ (o : Option Inst). list_any (λ (to : Loc). nat_eq to.0 at.0) (option_map_or labels_of o [])) (sym f) ∙ e in cc)
    by_last (Some inst) f =
        let found = of-any (λ (to : Loc). nat_eq to.0 at.0) (labels_of inst) (ap (λ (o : Option Inst). list_any (λ (to : Loc). nat_eq to.0 at.0) (option_map_or labels_of o [])) (sym f) ∙ e) in
        let within : length block.insts - 1 < length block.insts = slice_get_within block.insts (length block.insts - 1) inst f in
        record {
          i = length block.insts - 1;
          inst = inst;
          label = found.0;
          there = f;
          last = omega (arith, within);
          one = found.1;
          same = eqb-true found.0.0 at.0 found.2;
        }

-- no branch leads to the entry of a function, so its edges have no name
pub entry-unnamed : (m : ModuleParts) (n : ℕ) (f : FuncParts) (edges : EdgeNames f) (entry : Block) → IsAccepted m → slice_get m.funcs n ≡ Some f
    → slice_get f.blocks 0 ≡ Some entry → edges.of 0 ≡ None
entry-unnamed m n f edges entry accepted at first = by_name (edges.of 0) refl
  where
    by_name : (o : Option Loc) → edges.of 0 ≡ o → o ≡ None
    by_name None e = refl
    by_name (Some name) e =
        let found = of-any (guards entry.label) f.blocks (edges.target 0 entry name first e) in
        let way = leads entry.label found.0 (both_true (is_some (guard_of found.0)) (leads_to entry.label found.0) found.2).1 in
        absurd (never-enters m n found.1.0 way.i f found.0 entry way.inst way.label accepted at found.1.1 way.there way.last way.one
        (number-of-block m n 0 f entry way.label accepted at first (sym way.same)) first)
