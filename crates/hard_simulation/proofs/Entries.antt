-- Frames at the entry of a function, and frames to which a call has come back.
use Rattle.std.proofs.Common.{ℕ, zero, suc, ◌≡◌, ◌∙◌, true, List, [], ◌∷◌, ◌++◌, drop, map, length, Option, Some, None, slice_get, refl, ap, sym, subst}
use Rattle.std.specs.List.{zip}
use Rattle.std.specs.Option.{option_map, option_map_or, is_some}
use Rattle.ir_core.specs.declared.types.Ty.{Ty}
use Rattle.ir_core.specs.declared.types.Loc.{Loc}
use Rattle.ir_core.specs.declared.values.Side.TheVariants.{M, S}
use Rattle.ir_core.specs.declared.instruction.Block.{Block}
use Rattle.ir_core.specs.Module.{ModuleParts, FuncParts}
use Rattle.inst_meaning.specs.Registers.{get}
use Rattle.inst_meaning.specs.Phis.{all_assigned}
use Rattle.inst_laws.proofs.Agreement.{put-agrees, agree-refl}
use Rattle.inst_laws.specs.Agreement.{Agree}
use Rattle.src_meaning.specs.declared.state.Frame.{Frame as SourceFrame}
use Rattle.src_meaning.specs.State as source_state
use Rattle.src_meaning.specs.State.{params_at}
use Rattle.src_meaning.specs.Step as source
use Rattle.hard_ir.specs.declared.instruction.HBlock.{HBlock}
use Rattle.hard_ir.specs.Image.{copies}
use Rattle.hard_ir.specs.Hardened.{HardParts}
use Rattle.hard_frames.specs.declared.state.Frame.{Frame}
use Rattle.hard_frames.specs.Code as hard_text
use Rattle.hard_frames.specs.Frames as hard_frame
use Rattle.hard_simulation.specs.Image.{Image, IsImage, IsBlockImage, AreBlockImages, copied_at, copies_onto}
use Rattle.hard_simulation.proofs.Sides.{Sides, on-map, on-pure}
use Rattle.hard_simulation.proofs.Files.{is_among, one-fresh, one-but, params-but}
use Rattle.hard_simulation.proofs.Headed.{heads-params}
use Rattle.hard_simulation.proofs.Points.{source_code, hard_code, Stands, Nowhere, At, Copying, IsFrame, IsCaller}
use Rattle.src_laws.proofs.Words.{all-there, params-given}
use Rattle.src_laws.proofs.Callees.{Enters}

-- the tail of what is left stands behind its head
pub drop-suc : {A : Type 0} (xs : List A) (at : ℕ) (x : A) (rest : List A) → drop at xs ≡ x ∷ rest → drop (suc at) xs ≡ rest
drop-suc [] zero x rest e = cc
drop-suc [] (suc at) x rest e = cc
drop-suc (y ∷ xs) zero x rest e = cc
drop-suc (y ∷ xs) (suc at) x rest e = drop-suc xs at x rest e

pub get-drop : {A : Type 0} (xs : List A) (at : ℕ) (x : A) (rest : List A) → drop at xs ≡ x ∷ rest → slice_get xs at ≡ Some x
get-drop [] zero x rest e = cc
get-drop [] (suc at) x rest e = cc
get-drop (y ∷ xs) zero x rest e = cc
get-drop (y ∷ xs) (suc at) x rest e = get-drop xs at x rest e

pub get-drop-none : {A : Type 0} (xs : List A) (at : ℕ) → drop at xs ≡ [] → slice_get xs at ≡ None
get-drop-none [] zero e = refl
get-drop-none [] (suc at) e = refl
get-drop-none (y ∷ xs) zero e = cc
get-drop-none (y ∷ xs) (suc at) e = get-drop-none xs at e

-- the block of a frame in the hardened module
pub hard-block : (m : ModuleParts) (h : HardParts) (image : IsImage m h) (n b : ℕ) (block : Block)
    → slice_get (source_state.blocks_at m.funcs n) b ≡ Some block
    → (hard_block : HBlock) × (slice_get (hard_text.blocks_at h n) b ≡ Some hard_block) × IsBlockImage (copied_at m n b) block hard_block
hard-block m h image n b block e = by_hard (slice_get (hard_text.blocks_at h n) b) refl
    (subst (λ (o : Option Block). AreBlockImages (copied_at m n b) o (slice_get (hard_text.blocks_at h n) b)) e (image.blocks n b))
  where
    by_hard : (o : Option HBlock) → slice_get (hard_text.blocks_at h n) b ≡ o
        → AreBlockImages (copied_at m n b) (Some block) (slice_get (hard_text.blocks_at h n) b)
        → (hard_block : HBlock) × (slice_get (hard_text.blocks_at h n) b ≡ Some hard_block) × IsBlockImage (copied_at m n b) block hard_block
    by_hard None f k = absurd (subst (λ (o : Option HBlock). AreBlockImages (copied_at m n b) (Some block) o) f k)
    by_hard (Some hard_block) f k = (hard_block, f, subst (λ (o : Option HBlock). AreBlockImages (copied_at m n b) (Some block) o) f k)

module _ (m : ModuleParts) (h : HardParts) (image : IsImage m h) (sides : Sides) where
  -- at the entry of a function only the parameters have words, and only the masters
  pub entered-frame : (n : ℕ) (words : List ℕ) (mark : ℕ) → Enters m n (length words)
      → IsFrame m h sides (source_state.entry_frame m n words mark) (hard_frame.entry_frame h n words mark)
  entered-frame n words mark enters = record {
    function = refl;
    block = refl;
    mark = refl;
    point = subst (λ (masters : List (Option ℕ)). Stands m sides (source_code m (source_state.entry_frame m n words mark)) registers
        (hard_code h (hard_frame.entry_frame h n words mark)) masters [])
        (ap (λ (params : List Loc). all_assigned (zip params words) []) (sym (heads-params m h image n)))
        (by_block (slice_get (source_state.blocks_at m.funcs n) 0) refl);
  }
    where
      registers : List (Option ℕ)
      registers = all_assigned (zip (params_at m.funcs n) words) []

      params-are : params_at m.funcs n ≡ map (λ param. param.1) enters.f.params
      params-are = ap (λ (o : Option FuncParts). option_map_or (λ (f : FuncParts). map (λ param. param.1) f.params) o []) enters.stands

      copied-are : copied_at m n 0 ≡ enters.f.params
      copied-are = ap (λ (o : Option FuncParts). option_map_or (λ (f : FuncParts). f.params) o []) enters.stands

      given : (at : ℕ) → is_among at enters.f.params ≡ true → is_some (get registers at) ≡ true
      given at e = rw params-are (all-there (zip (map (λ param. param.1) enters.f.params) words) [] (record { 0 = at })
          (params-given enters.f.params words (record { 0 = at }) enters.params e))

      by_block : (o : Option Block) → slice_get (source_state.blocks_at m.funcs n) 0 ≡ o
          → Stands m sides (source_code m (source_state.entry_frame m n words mark)) registers (hard_code h (hard_frame.entry_frame h n words mark))
          registers []
      by_block None e = Nowhere (ap (λ (o : Option Block). option_map_or (λ (block : Block). block.insts) o []) e)
      by_block (Some block) e =
          let hard = hard-block m h image n 0 block e in
          Copying enters.f.params hard.2.rest
          (ap (λ (o : Option HBlock). option_map_or (λ (block : HBlock). block.list) o []) hard.1 ∙ hard.2.list
          ∙ ap (λ (regs : List (Ty × Loc)). copies_onto regs hard.2.rest) copied-are)
          (rw (ap (λ (o : Option Block). option_map_or (λ (block : Block). block.insts) o []) e) hard.2.image)
          (record { same = λ at f. refl; given = given })
          (on-pure sides M _ (agree-refl registers))
          (on-pure sides S _ (rw params-are (params-but enters.f.params words)))

  -- a call has come back with a word
  pub resumed-frame : (a : SourceFrame) (b : Frame) (n : ℕ) → IsCaller m h sides a b → IsFrame m h sides (source.resumed n a) (hard_frame.resumed n b)
  resumed-frame a b n c = by_result c.result refl
    where
      by_result : (result : Option (Ty × Loc)) → c.result ≡ result → IsFrame m h sides (source.resumed n a) (hard_frame.resumed n b)
      by_result None e =
          let waits : a.waiting ≡ None = c.waits ∙ ap (option_map (λ (reg : Ty × Loc). reg.1)) e in
          let takes : b.waiting ≡ None = c.takes ∙ ap (option_map (λ (reg : Ty × Loc). (M, reg.1))) e in
          rw (waits, takes) (record {
            function = c.function;
            block = c.block;
            mark = c.mark;
            point = At (subst (λ (code : List _). Image (source_code m a) code)
                (sym (c.code ∙ ap (λ (result : Option (Ty × Loc)). copies result ++ c.rest) e)) c.image) c.masters c.shadows;
          })
      by_result (Some reg) e =
          let waits : a.waiting ≡ Some reg.1 = c.waits ∙ ap (option_map (λ (reg : Ty × Loc). reg.1)) e in
          let takes : b.waiting ≡ Some (M, reg.1) = c.takes ∙ ap (option_map (λ (reg : Ty × Loc). (M, reg.1))) e in
          rw (waits, takes) (record {
            function = c.function;
            block = c.block;
            mark = c.mark;
            point = Copying (reg ∷ []) c.rest (c.code ∙ ap (λ (result : Option (Ty × Loc)). copies result ++ c.rest) e) c.image
                (one-fresh reg b.masters a.registers n)
                (on-map sides M _ _ (λ (e : Agree b.masters a.registers). put-agrees b.masters a.registers reg.1.0 n e) c.masters)
                (on-map sides S _ _ (λ (e : Agree b.shadows a.registers). one-but reg b.shadows a.registers n e) c.shadows);
          })
