-- Frames at the entry of a function, new threads, and frames to which a call has come back.
use Rattle.std.proofs.Common.{ℕ, ◌≡◌, ◌∙◌, Bool, true, false, ◌||◌, List, [], ◌∷◌, ◌++◌, map, length, Option, Some, None, slice_get, refl, ap, sym, subst}
use Rattle.std.specs.Prelude.{nat_eq}
use Rattle.std.specs.List.{zip}
use Rattle.std.specs.Option.{option_map, option_map_or, is_some}
use Rattle.std.proofs.lemmas.Bool.{eqb-true, eqb-false}
use Rattle.ir_core.specs.declared.types.Ty.{Ty}
use Rattle.ir_core.specs.declared.types.Loc.{Loc}
use Rattle.ir_core.specs.declared.values.Side.TheVariants.{M, S}
use Rattle.ir_core.specs.declared.instruction.Inst.{Inst}
use Rattle.ir_core.specs.declared.instruction.Block.{Block}
use Rattle.ir_core.specs.Module.{ModuleParts, FuncParts}
use Rattle.mem_image.specs.Bytes.{Memory}
use Rattle.inst_meaning.specs.Registers.{get, put}
use Rattle.inst_meaning.proofs.Puts.{put-here, put-elsewhere}
use Rattle.ir_check.specs.Faults.{IsAccepted}
use Rattle.inst_meaning.specs.Phis.{all_assigned}
use Rattle.process.specs.State.{stack_start, new_thread}
use Rattle.src_meaning.specs.declared.state.Frame.{Frame as SourceFrame}
use Rattle.src_meaning.specs.State as source_state
use Rattle.src_meaning.specs.State.{params_at}
use Rattle.src_meaning.specs.Step as source
use Rattle.src_laws.proofs.Words.{all-there, params-given}
use Rattle.src_laws.proofs.Callees.{Enters}
use Rattle.hard_ir.specs.declared.instruction.HInst.{HInst}
use Rattle.hard_ir.specs.declared.instruction.HBlock.{HBlock}
use Rattle.hard_ir.specs.Image.{copies}
use Rattle.hard_ir.specs.Images.{IsLooseImage, LooseRows, check_for}
use Rattle.hard_ir.specs.Hardened.{HardParts}
use Rattle.hard_frames.specs.declared.state.Frame.{Frame}
use Rattle.hard_frames.specs.Code as hard_text
use Rattle.hard_frames.specs.Frames as hard_frame
use Rattle.hard_simulation.proofs.Heads as heads
use Rattle.hard_simulation.proofs.Sides.{Sides, Both, on-map, on-pure}
use Rattle.hard_simulation.proofs.Files.{is_among, one-fresh, names-alone, untouched}
use Rattle.hard_simulation.proofs.Points.{source_code, hard_code}
use Rattle.hard_meaning.specs.State.{Mode}
use Rattle.tx_simulation.proofs.Points.{names_at, AgreeIn, AgreeBut, Stands, Nowhere, At, Copying, is_edged, past_code, IsFrame, IsCaller, Fresh, AreFrames, alike}
use Rattle.process_laws.proofs.Likeness as likeness
use Rattle.tx_simulation.proofs.Named.{agree-refl, put-agrees}
use Rattle.tx_simulation.proofs.Points.{IsThreadOn}
use Rattle.tx_simulation.proofs.Blocks.{IsHardFunc, hard-func, hard-block, entry-unnamed}

-- ---- copies under way

pub but-none : (names : ℕ → Bool) (a b : List (Option ℕ)) → AgreeBut names [] a b → AgreeIn names a b
but-none names a b h = record { same = λ at e. h.but at e refl }

-- a register is copied
pub copied-one : (names : ℕ → Bool) (reg : Ty × Loc) (regs : List (Ty × Loc)) (shadows b : List (Option ℕ)) (word : ℕ) → get b reg.1.0 ≡ Some word
    → AgreeBut names (reg ∷ regs) shadows b → AgreeBut names regs (put shadows reg.1.0 word) b
copied-one names reg regs shadows b word e h = record { but = λ at named other. by_name at (nat_eq reg.1.0 at) refl named other }
  where
    by_name : (at : ℕ) (same : Bool) → nat_eq reg.1.0 at ≡ same → names at ≡ true → is_among at regs ≡ false → get (put shadows reg.1.0 word) at ≡ get b at
    by_name at true f named other =
        let is : reg.1.0 ≡ at = eqb-true reg.1.0 at f in
        ap (get (put shadows reg.1.0 word)) (sym is) ∙ put-here shadows reg.1.0 word ∙ sym e ∙ ap (get b) is
    by_name at false f named other =
        put-elsewhere shadows reg.1.0 word at (eqb-false reg.1.0 at f) ∙ h.but at named (ap (λ (s : Bool). s || is_among at regs) f ∙ other)

-- a word is put on the master's side and in the source, and is still to be copied
pub one-but : (names : ℕ → Bool) (reg : Ty × Loc) (shadows b : List (Option ℕ)) (word : ℕ) → AgreeIn names shadows b
    → AgreeBut names (reg ∷ []) shadows (put b reg.1.0 word)
one-but names reg shadows b word h = record {
  but = λ at named other. h.same at named ∙ sym (put-elsewhere b reg.1.0 word at (eqb-false reg.1.0 at (alone (nat_eq reg.1.0 at) other)));
}
  where
    alone : (same : Bool) → (same || false) ≡ false → same ≡ false
    alone true e = cc
    alone false e = refl

-- ---- frames

module _ (m : ModuleParts) (h : HardParts) (image : IsLooseImage m h) (accepted : IsAccepted m) where
  heads-params : (n : ℕ) → params_at h.heads.funcs n ≡ params_at m.funcs n
  heads-params n = ap (λ (parts : ModuleParts). params_at parts.funcs n) image.heads ∙ heads.params-heads m n

  -- at the entry of a function only the parameters have words, and only the masters
  pub enters : (n : ℕ) (words : List ℕ) (mark : ℕ) → Enters m n (length words) → (sides : Sides) (mode : Mode) (mem : Memory)
      → IsFrame m h sides mode mem (source_state.entry_frame m n words mark) (hard_frame.entry_frame h n words mark)
  enters n words mark called sides mode mem = record {
    function = refl;
    block = refl;
    mark = refl;
    point = subst (λ (masters : List (Option ℕ)). Point masters) (ap (λ (params : List Loc). all_assigned (zip params words) []) (sym (heads-params n)))
        (by_block (slice_get called.f.blocks 0) refl);
  }
    where
      a : SourceFrame
      a = source_state.entry_frame m n words mark

      b : Frame
      b = hard_frame.entry_frame h n words mark

      names : ℕ → Bool
      names = names_at m n

      registers : List (Option ℕ)
      registers = all_assigned (zip (params_at m.funcs n) words) []

      Point : List (Option ℕ) → Type 0
      Point masters = Stands m (names_at m n) (is_edged h b) sides mode mem (source_code m a) registers (past_code h b) (hard_code h b) masters []

      hard : IsHardFunc m h n called.f
      hard = hard-func m h image n called.f called.stands

      params-are : params_at m.funcs n ≡ map (λ param. param.1) called.f.params
      params-are = ap (λ (o : Option FuncParts). option_map_or (λ (f : FuncParts). map (λ param. param.1) f.params) o []) called.stands

      blocks-are : source_state.blocks_at m.funcs n ≡ called.f.blocks
      blocks-are = ap (λ (o : Option FuncParts). option_map_or (λ (f : FuncParts). f.blocks) o []) called.stands

      given : (at : ℕ) → is_among at called.f.params ≡ true → is_some (get registers at) ≡ true
      given at e = rw params-are (all-there (zip (map (λ param. param.1) called.f.params) words) [] (record { 0 = at })
          (params-given called.f.params words (record { 0 = at }) called.params e))

      lacking : AgreeBut names called.f.params [] registers
      lacking = record {
        but = λ at named other. sym (ap (λ (params : List Loc). get (all_assigned (zip params words) []) at) params-are
            ∙ untouched (zip (map (λ param. param.1) called.f.params) words) [] at (names-alone called.f.params words at other));
      }

      by_block : (o : Option Block) → slice_get called.f.blocks 0 ≡ o → Point registers
      by_block None e = Nowhere (ap (λ (blocks : List Block). source_state.code_at blocks 0) blocks-are ∙ ap (λ (o : Option Block). option_map_or (λ (block : Block). block.insts) o []) e)
      by_block (Some block) e =
          let there = hard-block m called.f hard.blocks hard.image 0 block e in
          let code = there.2.keeps in
          let unnamed = entry-unnamed m n called.f hard.image.edges block accepted called.stands e in
          let left : source_state.code_at (source_state.blocks_at m.funcs n) 0 ≡ block.insts = ap (λ (blocks : List Block). source_state.code_at blocks 0) blocks-are ∙ ap (λ (o : Option Block). option_map_or (λ (block : Block). block.insts) o []) e in
          Copying called.f.params code.rest
          (ap (λ (blocks : List HBlock). hard_text.list_at blocks 0) hard.at ∙ ap (λ (o : Option HBlock). option_map_or (λ (block : HBlock). block.list) o []) there.1 ∙ there.2.list
          ∙ ap (λ (o : Option Loc). check_for o ++ there.2.code) unnamed ∙ code.is)
          (subst (λ (insts : List Inst). LooseRows m insts code.rest) (sym left) code.rows)
          (record { same = λ at f. refl; given = given })
          (on-pure sides M _ (agree-refl names registers))
          (on-pure sides S _ lacking)

  -- a thread that is made stands in any mode, over any memory
  pub enters-fresh : (n : ℕ) (words : List ℕ) (mark : ℕ) → Enters m n (length words)
      → AreFrames m h Fresh (source_state.entry_frame m n words mark) (hard_frame.entry_frame h n words mark)
  enters-fresh n words mark here mode mem = enters n words mark here Both mode mem

  pub new-alike : (t n : ℕ) (words : List ℕ) → Enters m n (length words)
      → likeness.IsThreadOn (alike m h) Fresh (new_thread (source.frames m) t n words) (new_thread (hard_frame.frames h) t n words)
  new-alike t n words here = record { mark = refl; frame = enters-fresh n words (stack_start t) here; callers = tt }

  -- the same as it stands in a mode, over a memory
  pub new-stands : (t n : ℕ) (words : List ℕ) → Enters m n (length words) → (sides : Sides) (mode : Mode) (mem : Memory)
      → IsThreadOn m h sides mode mem (new_thread (source.frames m) t n words) (new_thread (hard_frame.frames h) t n words)
  new-stands t n words here sides mode mem = record { mark = refl; frame = enters n words (stack_start t) here sides mode mem; callers = tt }

-- a call has come back with a word
pub resumes : (m : ModuleParts) (h : HardParts) (sides : Sides) (mode : Mode) (mem : Memory) (a : SourceFrame) (b : Frame) (n : ℕ) → IsCaller m h sides a b
    → IsFrame m h sides mode mem (source.resumed n a) (hard_frame.resumed n b)
resumes m h sides mode mem a b n c = by_result c.result refl
  where
    by_result : (result : Option (Ty × Loc)) → c.result ≡ result → IsFrame m h sides mode mem (source.resumed n a) (hard_frame.resumed n b)
    by_result None e =
        let waits : a.waiting ≡ None = c.waits ∙ ap (option_map (λ (reg : Ty × Loc). reg.1)) e in
        let takes : b.waiting ≡ None = c.takes ∙ ap (option_map (λ (reg : Ty × Loc). (M, reg.1))) e in
        rw (waits, takes) (record {
          function = c.function;
          block = c.block;
          mark = c.mark;
          point = At (subst (λ (code : List HInst). LooseRows m (source_code m a) code)
              (sym (c.code ∙ ap (λ (result : Option (Ty × Loc)). copies result ++ c.rest) e)) c.image) c.masters c.shadows;
        })
    by_result (Some reg) e =
        let waits : a.waiting ≡ Some reg.1 = c.waits ∙ ap (option_map (λ (reg : Ty × Loc). reg.1)) e in
        let takes : b.waiting ≡ Some (M, reg.1) = c.takes ∙ ap (option_map (λ (reg : Ty × Loc). (M, reg.1))) e in
        rw (waits, takes) (record {
          function = c.function;
          block = c.block;
          mark = c.mark;
          point = Copying (reg ∷ []) c.rest (c.code ∙ ap (λ (result : Option (Ty × Loc)). copies result ++ c.rest) e) c.image
              (one-fresh reg b.masters a.registers n)
              (on-map sides M _ _ (λ (e : AgreeIn (names_at m a.function) b.masters a.registers). put-agrees (names_at m a.function) b.masters a.registers reg.1.0 n e) c.masters)
              (on-map sides S _ _ (λ (e : AgreeIn (names_at m a.function) b.shadows a.registers). one-but (names_at m a.function) reg b.shadows a.registers n e) c.shadows);
        })
