-- Turns of lost threads: in a block to which a struck condition led, and after a store of a wrong word or at a wrong place. Only checks come, up to one
-- that fails.
-- a word of an operand on the shadow's side
use Rattle.std.proofs.Common.{◌%◌, Bool, List, None, Option, Some, ◌^◌, ap, false, inl, inr, refl, slice_get, subst, sym, true, ℕ, ◌∙◌, ◌∷◌, ◌≡◌, ◌≢◌, ◌⊎◌, []}
use Rattle.std.proofs.lemmas.Bool.{eqb-true}
use Rattle.std.specs.Prelude.{nat_eq}
use Rattle.ir_core.specs.Module.{ModuleParts}
use Rattle.ir_core.specs.declared.types.Loc.{Loc}
use Rattle.ir_core.specs.declared.types.Ty.TheVariants as types
use Rattle.ir_core.specs.declared.types.Ty.{Ty}
use Rattle.ir_core.specs.declared.types.Width.TheVariants.{W1, W64}
use Rattle.ir_core.specs.declared.types.Width.{Width}
use Rattle.ir_core.specs.declared.values.Val.TheVariants as values
use Rattle.ir_core.specs.declared.values.Val.{Val}
use Rattle.ir_layout.specs.Memory.{LayoutParts, layout_of}
use Rattle.mem_image.specs.Bytes.{Memory, peek}
use Rattle.mem_image.specs.Touches.{Touch}
use Rattle.rtm_core.specs.Footprint.{has_room, seen_through}
use Rattle.inst_meaning.specs.Action.{place_at}
use Rattle.inst_meaning.specs.Operands.{memory_width, word_at}
use Rattle.inst_meaning.specs.Registers.{get}
use Rattle.process.specs.Outcome.{touch_at}
use Rattle.process.specs.State.{in_frame}
use Rattle.process.specs.declared.state.CallStack.{CallStack}
use Rattle.process.specs.declared.state.Thread.TheVariants.{Running}
use Rattle.process.specs.declared.state.Thread.{Thread}
use Rattle.hard_ir.specs.EdgeChecks.{edge_check}
use Rattle.hard_ir.specs.Hardened.{HardParts}
use Rattle.hard_ir.specs.Image.{on_shadow}
use Rattle.hard_ir.specs.Images.{IsLooseImage}
use Rattle.hard_ir.specs.declared.instruction.HInst.TheVariants.{Chk, ChkMem}
use Rattle.hard_ir.specs.declared.instruction.HInst.{HInst}
use Rattle.hard_ir.specs.declared.instruction.When.TheVariants.{Tx}
use Rattle.hard_frames.specs.Code as hard_text
use Rattle.hard_frames.specs.Code.{blocks_at, list_at}
use Rattle.hard_frames.specs.Frames as hard_frame
use Rattle.src_meaning.specs.declared.state.Frame.{Frame as SourceFrame}
use Rattle.src_meaning.specs.State.{State as SourceState}
use Rattle.hard_frames.specs.Places.{place_text}
use Rattle.hard_frames.specs.declared.outcome.Stop.TheVariants.{Fail, Trap}
use Rattle.hard_frames.specs.declared.state.Frame.{Frame}
use Rattle.hard_simulation.proofs.Entries.{drop-suc, get-drop}
use Rattle.hard_simulation.proofs.Heads.{layout-heads}
use Rattle.hard_simulation.proofs.Points.{hard_code}
use Rattle.hard_simulation.proofs.Sides.{IsHurt, Sides}
use Rattle.hard_meaning.specs.Aborts.{Mismatch, Other}
use Rattle.hard_meaning.specs.Checks.{operand_word, same_word}
use Rattle.hard_meaning.specs.Effects.{with_worker}
use Rattle.hard_meaning.specs.State.{Free, Inside, Mode, State, Transaction, Upset, Worker}
use Rattle.hard_meaning.specs.Turns as hard
use Rattle.hard_meaning.specs.Turns.{agreed, compared, failed, matched, onward, read_as, read_at, read_back, stepped, trapped}
use Rattle.tx_simulation.proofs.Facts.{Facts, IsAstray, IsCarried, IsDoomed, IsWrong, WrongPlace, WrongWord, back_to, machine_of}
use Rattle.tx_simulation.proofs.Holds.{Holds, aborts-after, halts, rooms, settles}
use Rattle.tx_simulation.proofs.Lines.{never-both}
use Rattle.tx_simulation.proofs.Points.{IsStored, IsThreadOn, checks_onto}
use Rattle.tx_simulation.proofs.Reading.{bit-width, bits-of}

shadow-word : (m : ModuleParts) (h : HardParts) (frame : Frame) (w : Width) (val : Val) → layout_of h.heads ≡ layout_of m
    → operand_word h frame w (on_shadow val) ≡ word_at (layout_of m) frame.shadows w val
shadow-word m h frame w (values.Reg reg) e = ap (λ (l : LayoutParts). word_at l frame.shadows w (values.Reg reg)) e
shadow-word m h frame w (values.Int n) e = ap (λ (l : LayoutParts). word_at l [] w (values.Int n)) e
shadow-word m h frame w values.Null e = ap (λ (l : LayoutParts). word_at l [] w values.Null) e
shadow-word m h frame w (values.Global sym_) e = ap (λ (l : LayoutParts). word_at l [] w (values.Global sym_)) e
shadow-word m h frame w (values.Gep gep) e = ap (λ (l : LayoutParts). word_at l [] w (values.Gep gep)) e

-- two bits that differ are no same word
bits-differ : (p q : ℕ) → p ≢ q → (p ≡ 0) ⊎ (p ≡ 1) → (q ≡ 0) ⊎ (q ≡ 1) → nat_eq (p % 2 ^ 1) (q % 2 ^ 1) ≡ false
bits-differ p q differ (inl e) (inl f) = absurd (differ (e ∙ sym f))
bits-differ p q differ (inl e) (inr f) = ap (λ (a : ℕ). nat_eq (a % 2 ^ 1) (q % 2 ^ 1)) e ∙ ap (λ (a : ℕ). nat_eq (0 % 2 ^ 1) (a % 2 ^ 1)) f
bits-differ p q differ (inr e) (inl f) = ap (λ (a : ℕ). nat_eq (a % 2 ^ 1) (q % 2 ^ 1)) e ∙ ap (λ (a : ℕ). nat_eq (1 % 2 ^ 1) (a % 2 ^ 1)) f
bits-differ p q differ (inr e) (inr f) = absurd (differ (e ∙ sym f))

differ-as-bits : (p q : ℕ) → p ≢ q → (p ≡ 0) ⊎ (p ≡ 1) → (q ≡ 0) ⊎ (q ≡ 1) → same_word (types.Int W1) p q ≡ false
differ-as-bits p q differ one two = ap (λ (n : ℕ). nat_eq (p % 2 ^ n) (q % 2 ^ n)) (bits-of (types.Int W1) W1 bit-width) ∙ bits-differ p q differ one two

module _ (m : ModuleParts) (h : HardParts) (arguments : List ℕ) (image : IsLooseImage m h) (s : SourceState) (workers : List Worker) (turns : List ℕ) (upsets : List Upset)
    (facts : Facts m h arguments s workers turns upsets) (t : ℕ) (x : Thread SourceFrame) (at : slice_get s.process.threads t ≡ Some x) (v : Worker)
    (stack : CallStack Frame) (mode : Mode) (hard_at : slice_get workers t ≡ Some (record v { thread = Running stack; mode = mode })) (sides : Sides)
    (hurt : IsHurt sides → IsCarried (record v { thread = Running stack; mode = mode })) (is_hurt : IsHurt sides) where
  abbrev lost_now : State
  lost_now = machine_of s workers turns upsets

  abbrev lost_here : Worker
  lost_here = record v { thread = Running stack; mode = mode }

  abbrev pub LostTurns : Type 0
  LostTurns = Holds m h arguments (hard.fetched h lost_now t lost_here stack (hard_text.inst_at h stack.frame))

  -- a check fails
  fails-check : Holds m h arguments (failed h lost_now t lost_here stack.frame)
  fails-check = halts m h arguments s workers turns upsets facts t x at v (Running stack) mode hard_at sides hurt Mismatch
      (Fail (record { 0 = t }) (place_text h stack.frame)) tt (λ free. is_hurt)

  -- a register has no word
  lacks-word : Holds m h arguments (trapped h lost_now t lost_here stack.frame)
  lacks-word = halts m h arguments s workers turns upsets facts t x at v (Running stack) mode hard_at sides hurt Other
      (Trap (record { 0 = t }) (place_text h stack.frame)) tt (λ free. is_hurt)

  by-next : (inst : HInst) (rest : List HInst) → hard_code h stack.frame ≡ inst ∷ rest → Holds m h arguments (stepped h lost_now t lost_here stack inst) → LostTurns
  by-next inst rest e is = rw (get-drop (list_at (blocks_at h stack.frame.function) stack.frame.block) stack.frame.index inst rest e) is

  -- ---- astray

  pub astray-turn : IsAstray h (Running stack) → LostTurns
  astray-turn a =
      let same : a.stack ≡ stack = let e : Running stack ≡ Running a.stack = a.is in cc in
      by-next (edge_check a.name) a.rest (subst (λ (k : CallStack Frame). hard_code h k.frame ≡ edge_check a.name ∷ a.rest) same a.code)
      (rw (
        subst (λ (k : CallStack Frame). get k.frame.masters a.name.0 ≡ Some a.p) same a.master,
        subst (λ (k : CallStack Frame). get k.frame.shadows a.name.0 ≡ Some a.s) same a.shadow,
        differ-as-bits a.p a.s a.differ a.bits a.bits',
      ) fails-check)

-- ---- doomed

-- the pointer that is checked
abbrev only_pointer : List (Ty × Val) → Val
only_pointer [] = values.Null
only_pointer (operand ∷ rest) = operand.1

module _ (m : ModuleParts) (h : HardParts) (arguments : List ℕ) (image : IsLooseImage m h) (s : SourceState) (workers : List Worker) (turns : List ℕ) (upsets : List Upset)
    (facts : Facts m h arguments s workers turns upsets) (t : ℕ) (x : Thread SourceFrame) (at : slice_get s.process.threads t ≡ Some x) (v : Worker)
    (stack : CallStack Frame) (tx : Transaction) (hard_at : slice_get workers t ≡ Some (record v { thread = Running stack; mode = Inside tx })) (sides : Sides)
    (hurt : IsHurt sides → IsCarried (record v { thread = Running stack; mode = Inside tx })) (is_hurt : IsHurt sides)
    (kept : (any : Memory) → IsThreadOn m h (back_to tx.struck sides) (Free false) any x (Running tx.kept)) where
  abbrev doomed_now : State
  doomed_now = machine_of s workers turns upsets

  abbrev doomed_here : Worker
  doomed_here = record v { thread = Running stack; mode = Inside tx }

  abbrev DoomedTurns : Type 0
  DoomedTurns = Holds m h arguments (hard.fetched h doomed_now t doomed_here stack (hard_text.inst_at h stack.frame))

  by-following : (inst : HInst) (rest : List HInst) → hard_code h stack.frame ≡ inst ∷ rest → Holds m h arguments (stepped h doomed_now t doomed_here stack inst) → DoomedTurns
  by-following = by-next m h arguments image s workers turns upsets facts t x at v stack (Inside tx) hard_at sides hurt is_hurt

  fails-late : Holds m h arguments (failed h doomed_now t doomed_here stack.frame)
  fails-late = fails-check m h arguments image s workers turns upsets facts t x at v stack (Inside tx) hard_at sides hurt is_hurt

  lacks-late : Holds m h arguments (trapped h doomed_now t doomed_here stack.frame)
  lacks-late = lacks-word m h arguments image s workers turns upsets facts t x at v stack (Inside tx) hard_at sides hurt is_hurt

  same-layout : layout_of h.heads ≡ layout_of m
  same-layout = ap layout_of image.heads ∙ layout-heads m

  module _ (ty : Ty) (ptr val : Val) (w : Width) (width : memory_width ty ≡ Some w) (rest : List HInst) where
    -- the check of memory finds a wrong word
    fails-memory : (address n z : ℕ) → word_at (layout_of m) stack.frame.shadows W64 ptr ≡ Some address → word_at (layout_of m) stack.frame.shadows w val ≡ Some n
        → IsStored (Inside tx) (seen_through tx.footprint s.process.memory) (place_at address w) z → z ≢ n
        → hard_code h stack.frame ≡ ChkMem ty (on_shadow ptr) (on_shadow val) ∷ rest → DoomedTurns
    fails-memory address n z own_at word stored ne code = by-following (ChkMem ty (on_shadow ptr) (on_shadow val)) rest code
        (subst (λ (u : Option Width). Holds m h arguments (read_as h doomed_now t doomed_here stack tx (on_shadow ptr) (on_shadow val) u)) (sym width)
        (subst (λ (o : Option ℕ). Holds m h arguments (read_at h doomed_now t doomed_here stack tx w o (operand_word h stack.frame w (on_shadow val))))
        (sym (shadow-word m h stack.frame W64 ptr same-layout ∙ own_at))
        (subst (λ (o : Option ℕ). Holds m h arguments (read_at h doomed_now t doomed_here stack tx w (Some address) o)) (sym (shadow-word m h stack.frame w val same-layout ∙ word))
        (subst (λ (b : Bool). Holds m h arguments (read_back h doomed_now t doomed_here stack tx touch n b)) (sym stored.valid)
        (rooms m h arguments s workers turns upsets facts t x at doomed_here hard_at (has_room touch tx.footprint) _
        (subst (λ (b : Bool). Holds m h arguments (matched doomed_now t doomed_here stack touch b)) (sym differ)
        (aborts-after m h arguments s workers turns upsets facts t x at doomed_here hard_at (record { touch = Some touch; mutex = None }) Mismatch)))))))
      where
        touch : Touch
        touch = touch_at (place_at address w) true false

        differ : nat_eq (peek (seen_through tx.footprint s.process.memory) touch.address touch.size) n ≡ false
        differ = ap (λ (k : ℕ). nat_eq k n) stored.stands ∙ by_test (nat_eq z n) refl
          where
            by_test : (b : Bool) → nat_eq z n ≡ b → b ≡ false
            by_test true e = absurd (ne (eqb-true z n e))
            by_test false e = refl

    -- the check of the pointer: it fails, or the next one does
    passes-late : (reg : Loc) → hard_code h stack.frame ≡ Chk Tx types.Ptr reg ∷ ChkMem ty (on_shadow ptr) (on_shadow val) ∷ rest
        → IsWrong m tx (seen_through tx.footprint s.process.memory) w [] ptr val stack.frame.masters stack.frame.shadows
        → Holds m h arguments (with_worker doomed_now t (onward doomed_here stack))
    passes-late reg code wrong = settles m h arguments s workers turns upsets facts t x at v (Running stack) (Inside tx) hard_at sides hurt
        (in_frame stack (hard_frame.passed stack.frame)) v.attempts v.counter (record {
          kept = kept;
          inner = inr (
            is_hurt,
            inl (record {
              stack = record stack { frame = hard_frame.passed stack.frame };
              is = refl;
              ty = ty;
              ptr = ptr;
              val = val;
              w = w;
              width = width;
              pointers = [];
              rest = rest;
              code = drop-suc (list_at (blocks_at h stack.frame.function) stack.frame.block) stack.frame.index _ _ code;
              one = inl refl;
              wrong = wrong;
            }),
          );
        })

    module _ (reg : Loc) (is : ptr ≡ values.Reg reg) (code : hard_code h stack.frame ≡ Chk Tx types.Ptr reg ∷ ChkMem ty (on_shadow ptr) (on_shadow val) ∷ rest)
        (wrong : IsWrong m tx (seen_through tx.footprint s.process.memory) w ((types.Ptr, ptr) ∷ []) ptr val stack.frame.masters stack.frame.shadows) where
      by-test : (p q : ℕ) → get stack.frame.masters reg.0 ≡ Some p → get stack.frame.shadows reg.0 ≡ Some q → (b : Bool) → same_word types.Ptr p q ≡ b
          → Holds m h arguments (agreed h doomed_now t doomed_here stack b)
      by-test p q e f false k = fails-late
      by-test p q e f true k = passes-late reg code (by_wrong wrong)
        where
          by_wrong : IsWrong m tx (seen_through tx.footprint s.process.memory) w ((types.Ptr, ptr) ∷ []) ptr val stack.frame.masters stack.frame.shadows
              → IsWrong m tx (seen_through tx.footprint s.process.memory) w [] ptr val stack.frame.masters stack.frame.shadows
          by_wrong (WrongWord address n z own_at word stored ne) = WrongWord address n z own_at word stored ne
          by_wrong (WrongPlace other a b one own_a own_b ne) =
              let same : reg ≡ other = let e : values.Reg reg ≡ values.Reg other = sym is ∙ ap only_pointer one in cc in
              let is_a : p ≡ a = let g : Some p ≡ Some a = sym e ∙ ap (λ (at : Loc). get stack.frame.masters at.0) same ∙ own_a in cc in
              let is_b : q ≡ b = let g : Some q ≡ Some b = sym f ∙ ap (λ (at : Loc). get stack.frame.shadows at.0) same ∙ own_b in cc in
              absurd (never-both (same_word types.Ptr p q) (ap (λ (k : ℕ). same_word types.Ptr k q) is_a ∙ ap (λ (k : ℕ). same_word types.Ptr a k) is_b ∙ ne) k)

      by-words : (o u : Option ℕ) → get stack.frame.masters reg.0 ≡ o → get stack.frame.shadows reg.0 ≡ u
          → Holds m h arguments (compared h doomed_now t doomed_here stack types.Ptr o u)
      by-words (Some p) (Some q) e f = by-test p q e f (same_word types.Ptr p q) refl
      by-words (Some p) None e f = lacks-late
      by-words None u e f = lacks-late

      pointer-late : DoomedTurns
      pointer-late = by-following (Chk Tx types.Ptr reg) (ChkMem ty (on_shadow ptr) (on_shadow val) ∷ rest) code
          (by-words (get stack.frame.masters reg.0) (get stack.frame.shadows reg.0) refl refl)

    -- no check of the pointer stands before the check of memory
    memory-late : (pointers : List (Ty × Val)) → ((reg : Loc) → pointers ≡ (types.Ptr, values.Reg reg) ∷ [] → ⊥)
        → IsWrong m tx (seen_through tx.footprint s.process.memory) w pointers ptr val stack.frame.masters stack.frame.shadows
        → hard_code h stack.frame ≡ ChkMem ty (on_shadow ptr) (on_shadow val) ∷ rest → DoomedTurns
    memory-late pointers none (WrongPlace reg a b one own_a own_b ne) code = absurd (none reg one)
    memory-late pointers none (WrongWord address n z own_at word stored ne) code = fails-memory address n z own_at word stored ne code

    by-pointer : (given : Val) → ptr ≡ given
        → IsWrong m tx (seen_through tx.footprint s.process.memory) w ((types.Ptr, ptr) ∷ []) ptr val stack.frame.masters stack.frame.shadows
        → hard_code h stack.frame ≡ checks_onto Tx ((types.Ptr, given) ∷ []) (ChkMem ty (on_shadow ptr) (on_shadow val) ∷ rest) → DoomedTurns
    by-pointer (values.Reg reg) is wrong code = pointer-late reg is code wrong
    by-pointer (values.Int n) is wrong code = memory-late ((types.Ptr, ptr) ∷ []) (λ reg e. let f : values.Int n ≡ values.Reg reg = sym is ∙ ap only_pointer e in cc) wrong code
    by-pointer values.Null is wrong code = memory-late ((types.Ptr, ptr) ∷ []) (λ reg e. let f : values.Null ≡ values.Reg reg = sym is ∙ ap only_pointer e in cc) wrong code
    by-pointer (values.Global sym_) is wrong code = memory-late ((types.Ptr, ptr) ∷ []) (λ reg e. let f : values.Global sym_ ≡ values.Reg reg = sym is ∙ ap only_pointer e in cc) wrong code
    by-pointer (values.Gep gep) is wrong code = memory-late ((types.Ptr, ptr) ∷ []) (λ reg e. let f : values.Gep gep ≡ values.Reg reg = sym is ∙ ap only_pointer e in cc) wrong code

  pub doomed-turn : IsDoomed m h tx (seen_through tx.footprint s.process.memory) (Running stack) → DoomedTurns
  doomed-turn d = by_one d.one
    where
      same : d.stack ≡ stack
      same = let e : Running stack ≡ Running d.stack = d.is in cc

      wrong : IsWrong m tx (seen_through tx.footprint s.process.memory) d.w d.pointers d.ptr d.val stack.frame.masters stack.frame.shadows
      wrong = subst (λ (k : CallStack Frame). IsWrong m tx (seen_through tx.footprint s.process.memory) d.w d.pointers d.ptr d.val k.frame.masters k.frame.shadows) same d.wrong

      code : hard_code h stack.frame ≡ checks_onto Tx d.pointers (ChkMem d.ty (on_shadow d.ptr) (on_shadow d.val) ∷ d.rest)
      code = subst (λ (k : CallStack Frame). hard_code h k.frame ≡ checks_onto Tx d.pointers (ChkMem d.ty (on_shadow d.ptr) (on_shadow d.val) ∷ d.rest)) same d.code

      by_one : (d.pointers ≡ []) ⊎ (d.pointers ≡ (types.Ptr, d.ptr) ∷ []) → DoomedTurns
      by_one (inl e) = memory-late d.ty d.ptr d.val d.w d.width d.rest [] (λ reg f. cc)
          (subst (λ (list : List (Ty × Val)). IsWrong m tx (seen_through tx.footprint s.process.memory) d.w list d.ptr d.val stack.frame.masters stack.frame.shadows) e wrong)
          (subst (λ (list : List (Ty × Val)). hard_code h stack.frame ≡ checks_onto Tx list (ChkMem d.ty (on_shadow d.ptr) (on_shadow d.val) ∷ d.rest)) e code)
      by_one (inr e) = by-pointer d.ty d.ptr d.val d.w d.width d.rest d.ptr refl
          (subst (λ (list : List (Ty × Val)). IsWrong m tx (seen_through tx.footprint s.process.memory) d.w list d.ptr d.val stack.frame.masters stack.frame.shadows) e wrong)
          (subst (λ (list : List (Ty × Val)). hard_code h stack.frame ≡ checks_onto Tx list (ChkMem d.ty (on_shadow d.ptr) (on_shadow d.val) ∷ d.rest)) e code)
