-- Copies of parameters and results, and the check of an edge at the head of a block.
use Rattle.std.proofs.Common.{List, None, Option, Some, ap, false, refl, subst, sym, true, ℕ, ◌∙◌, ◌∷◌, ◌≡◌, []}
use Rattle.std.proofs.lemmas.Bool.{eq-eqb}
use Rattle.std.specs.Option.{is_some}
use Rattle.ir_core.specs.declared.types.Loc.{Loc}
use Rattle.ir_core.specs.declared.types.Ty.TheVariants as types
use Rattle.ir_core.specs.declared.types.Ty.{Ty}
use Rattle.ir_core.specs.declared.types.Width.TheVariants.{W1}
use Rattle.ir_core.specs.declared.values.Side.TheVariants.{M, S}
use Rattle.inst_meaning.specs.Registers.{get}
use Rattle.hard_ir.specs.EdgeChecks.{edge_check}
use Rattle.hard_ir.specs.Images.{LooseRows}
use Rattle.hard_ir.specs.declared.instruction.HInst.TheVariants.{Mov}
use Rattle.hard_ir.specs.declared.instruction.HInst.{HInst}
use Rattle.hard_ir.specs.declared.instruction.When.TheVariants.{Always}
use Rattle.hard_frames.specs.Frames as hard_frame
use Rattle.hard_simulation.proofs.Files.{AreFresh, first-among, fresh-rest}
use Rattle.hard_simulation.proofs.Points.{hard_code, source_code}
use Rattle.hard_simulation.proofs.Sides.{On, hurt-both, hurt-if, on-map}
use Rattle.hard_simulation.specs.Image.{copies_onto}
use Rattle.hard_meaning.specs.Checks.{same_word}
use Rattle.hard_meaning.specs.State.{Mode}
use Rattle.hard_meaning.specs.Turns.{copied, stepped}
use Rattle.tx_simulation.proofs.Checking.{Turns}
use Rattle.tx_simulation.proofs.Entries.{but-none, copied-one}
use Rattle.tx_simulation.proofs.Lines.{never-both}
use Rattle.tx_simulation.proofs.Points.{AgreeBut, AgreeIn, At, Copying, names_at}
use Rattle.tx_simulation.proofs.Scene.{AfterTurn, Scene, by-head, code-after, goes-on, here, now}
use Rattle.tx_simulation.proofs.Silent.{compares}

module _ (mode : Mode) (c : Scene mode) where
  -- ---- copies

  abbrev Masters : List (Option ℕ) → Type 0
  Masters file = On c.sides M (AgreeIn (names_at c.m c.a.frame.function) file c.a.frame.registers)

  abbrev Shadows : List (Option ℕ) → Type 0
  Shadows file = On c.sides S (AgreeIn (names_at c.m c.a.frame.function) file c.a.frame.registers)

  -- the shadow of a register becomes its master, which has the source's word on any sides
  copy-at : (ty : Ty) (reg : Loc) (regs : List (Ty × Loc)) (rest : List HInst) → hard_code c.h c.b.frame ≡ Mov ty reg ∷ copies_onto regs rest
      → LooseRows c.m (source_code c.m c.a.frame) rest → AreFresh ((ty, reg) ∷ regs) c.b.frame.masters c.a.frame.registers → Masters c.b.frame.masters
      → On c.sides S (AgreeBut (names_at c.m c.a.frame.function) ((ty, reg) ∷ regs) c.b.frame.shadows c.a.frame.registers)
      → AfterTurn mode c (stepped c.h (now mode c) c.t (here mode c) c.b (Mov ty reg))
  copy-at ty reg regs rest code rows fresh masters shadows = by_word (get c.b.frame.masters reg.0) refl
    where
      master : get c.b.frame.masters reg.0 ≡ get c.a.frame.registers reg.0
      master = fresh.same reg.0 (first-among (ty, reg) regs)

      by_word : (x : Option ℕ) → get c.b.frame.masters reg.0 ≡ x → AfterTurn mode c (copied c.h (now mode c) c.t (here mode c) c.b reg x)
      by_word None e = let none : false ≡ true = sym (ap is_some (sym master ∙ e)) ∙ fresh.given reg.0 (first-among (ty, reg) regs) in absurd cc
      by_word (Some n) e = goes-on mode c (hard_frame.resulted (Some (S, reg)) n c.b.frame) c.v.attempts c.v.counter refl refl refl
          (Copying regs rest (code-after mode c c.b.frame (Mov ty reg) (copies_onto regs rest) code) rows
          (fresh-rest (ty, reg) regs c.b.frame.masters c.a.frame.registers fresh) masters
          (on-map c.sides S _ _ (λ (but : AgreeBut (names_at c.m c.a.frame.function) ((ty, reg) ∷ regs) c.b.frame.shadows c.a.frame.registers).
          copied-one (names_at c.m c.a.frame.function) (ty, reg) regs c.b.frame.shadows c.a.frame.registers n (sym master ∙ e) but) shadows))

  pub copying-at : ((rest : List HInst) → hard_code c.h c.b.frame ≡ rest → LooseRows c.m (source_code c.m c.a.frame) rest → Masters c.b.frame.masters
      → Shadows c.b.frame.shadows → Turns mode c)
      → (regs : List (Ty × Loc)) (rest : List HInst) → hard_code c.h c.b.frame ≡ copies_onto regs rest
      → LooseRows c.m (source_code c.m c.a.frame) rest → AreFresh regs c.b.frame.masters c.a.frame.registers → Masters c.b.frame.masters
      → On c.sides S (AgreeBut (names_at c.m c.a.frame.function) regs c.b.frame.shadows c.a.frame.registers) → Turns mode c
  copying-at then [] rest code rows fresh masters shadows = then rest code rows masters
      (on-map c.sides S _ _ (λ (but : AgreeBut (names_at c.m c.a.frame.function) [] c.b.frame.shadows c.a.frame.registers).
      but-none (names_at c.m c.a.frame.function) c.b.frame.shadows c.a.frame.registers but) shadows)
  copying-at then ((ty, reg) ∷ regs) rest code rows fresh masters shadows =
      by-head mode c (Mov ty reg) (copies_onto regs rest) code (copy-at ty reg regs rest code rows fresh masters shadows)

  -- ---- the check of an edge

  pub edge-at : (name : Loc) (direction : ℕ) (rest : List HInst) → hard_code c.h c.b.frame ≡ edge_check name ∷ rest → LooseRows c.m (source_code c.m c.a.frame) rest
      → On c.sides M (get c.b.frame.masters name.0 ≡ Some direction) → On c.sides S (get c.b.frame.shadows name.0 ≡ Some direction)
      → Masters c.b.frame.masters → Shadows c.b.frame.shadows → Turns mode c
  edge-at name direction rest code rows on_m on_s masters shadows =
      by-head mode c (edge_check name) rest code (compares mode c Always (types.Int W1) name (record {
        off = λ off. cc;
        same = λ p q on e f k. At (subst (λ (list : List HInst). LooseRows c.m (source_code c.m c.a.frame) list)
            (sym (code-after mode c c.b.frame (edge_check name) rest code)) rows) masters shadows;
        differ = λ p q on e f k free. hurt-both c.sides (get c.b.frame.masters name.0 ≡ Some direction) (get c.b.frame.shadows name.0 ≡ Some direction) on_m on_s (λ x y.
            let both : Some p ≡ Some q = sym e ∙ x ∙ sym y ∙ f in
            let equal : p ≡ q = cc in
            never-both (same_word (types.Int W1) p q) k (ap (λ (n : ℕ). same_word (types.Int W1) p n) (sym equal) ∙ eq-eqb _ _ refl));
        no_master = λ on e free. hurt-if c.sides M (get c.b.frame.masters name.0 ≡ Some direction) on_m (λ x. let clash : None ≡ Some direction = sym e ∙ x in cc);
        no_shadow = λ on e free. hurt-if c.sides S (get c.b.frame.shadows name.0 ≡ Some direction) on_s (λ x. let clash : None ≡ Some direction = sym e ∙ x in cc);
      }))
