-- A thread outlives an upset in any of its frames: the side that was struck isn't known from then on, in any of them.
use Rattle.std.proofs.Common.{ℕ, zero, suc, ◌≡◌, ◌∙◌, Bool, false, List, [], ◌∷◌, drop, take, reverse, Option, Some, None, slice_get, slice_set, refl, ap, sym, subst}
use Rattle.std.specs.Option.{option_map, option_map_or, option_and_then}
use Rattle.ir_core.specs.declared.values.Side.{Side}
use Rattle.ir_core.specs.declared.values.Side.TheVariants.{M, S}
use Rattle.ir_core.specs.Module.{ModuleParts, FuncParts}
use Rattle.mem_image.specs.Bytes.{Memory}
use Rattle.inst_meaning.specs.Registers.{put}
use Rattle.process.specs.declared.state.CallStack.{CallStack}
use Rattle.process.specs.declared.state.Thread.{Thread}
use Rattle.process.specs.declared.state.Thread.TheVariants.{Running, Exiting, Ended}
use Rattle.process_laws.proofs.Likeness as likeness
use Rattle.sched_file.specs.declared.entries.UpsetSpec.{UpsetSpec}
use Rattle.src_meaning.specs.declared.state.Frame.{Frame as SourceFrame}
use Rattle.hard_ir.specs.declared.instruction.HReg.{HReg}
use Rattle.hard_ir.specs.declared.instruction.HBlock.{HBlock}
use Rattle.hard_ir.specs.Hardened.{HardParts}
use Rattle.hard_frames.specs.declared.state.Frame.{Frame}
use Rattle.hard_frames.specs.Code.{blocks_at}
use Rattle.hard_frames.specs.Frames.{file, with_file}
use Rattle.hard_simulation.proofs.Sides.{Sides, Both, Alone, on-map}
use Rattle.hard_simulation.proofs.Points.{source_code, hard_code}
use Rattle.hard_meaning.specs.State.{Mode, is_inside}
use Rattle.hard_meaning.specs.Strikes.{frame_at, with_frame, Target, target_with, struck_word, target_at, target_named, target_in, target_of, struck, window_at, is_in_window}
use Rattle.hard_meaning.specs.Windows.{is_edge_checked, is_window}
use Rattle.tx_simulation.proofs.Points.{AgreeIn, names_at, past_code, is_edged, IsFrame, IsCaller, Now, alike, IsStack, IsThreadOn}
use Rattle.tx_simulation.proofs.Windowed.{master}
use Rattle.tx_simulation.proofs.StrikeFrames.{struck_mode, IsLeft, left-shadows, left-masters, left-both, point-left}

-- what is known once one of the sides was struck
abbrev pub known_after : Side → Sides
known_after M = Alone S
known_after S = Alone M

-- a register of a side, by its number
abbrev pub register : Side → ℕ → HReg
register side at = record { side = side; loc = record { 0 = at } }

-- ---- windows

-- a window of a frame is one of what it passed and what is left
window-is : (h : HardParts) (inside : Bool) (frame : Frame) (r : HReg) → window_at inside (blocks_at h frame.function) frame r (slice_get (blocks_at h frame.function) frame.block)
    ≡ is_window inside (is_edged h frame) r (past_code h frame) (hard_code h frame)
window-is h inside frame r = by_block (slice_get (blocks_at h frame.function) frame.block)
  where
    nothing : (n : ℕ) → false ≡ is_window inside false r (reverse (take n [])) (drop n [])
    nothing zero = refl
    nothing (suc n) = refl

    by_block : (o : Option HBlock) → window_at inside (blocks_at h frame.function) frame r o
        ≡ is_window inside (option_map_or (is_edge_checked (blocks_at h frame.function)) o false) r
        (reverse (take frame.index (option_map_or (λ block. block.list) o []))) (drop frame.index (option_map_or (λ block. block.list) o []))
    by_block None = nothing frame.index
    by_block (Some block) = refl

-- ---- frames

module _ (m : ModuleParts) (h : HardParts) (k : ℕ) (mode : Mode) (mem : Memory) where
  frame-left : (sides : Sides) (masters shadows : List (Option ℕ)) (a : SourceFrame) (b : Frame) → IsFrame m h Both mode mem a b
      → IsLeft sides (λ at. is_window (is_inside mode) (is_edged h b) (master at) (past_code h b) (hard_code h b)) b.masters b.shadows masters shadows
      → IsFrame m h sides (struck_mode k mode) mem a (record b { masters = masters; shadows = shadows })
  frame-left sides masters shadows a b is left = record {
    function = is.function;
    block = is.block;
    mark = is.mark;
    point = point-left m (names_at m a.function) (is_edged h b) k mode mem sides a.registers b.masters b.shadows masters shadows
        (source_code m a) (past_code h b) (hard_code h b) left is.point;
  }

  -- the frame that runs is struck
  frame-struck : (side : Side) (at word : ℕ) (a : SourceFrame) (b : Frame) → IsFrame m h Both mode mem a b → is_in_window h mode b (register side at) ≡ false
      → IsFrame m h (known_after side) (struck_mode k mode) mem a (with_file side (put (file side b) at word) b)
  frame-struck M at word a b is outside = frame-left (Alone S) (put b.masters at word) b.shadows a b is
      (left-shadows _ b.masters b.shadows at word (sym (window-is h (is_inside mode) b (register M at)) ∙ outside))
  frame-struck S at word a b is outside = frame-left (Alone M) b.masters (put b.shadows at word) a b is
      (left-masters _ b.masters b.shadows (put b.shadows at word))

  -- another one is
  frame-spared : (side : Side) (a : SourceFrame) (b : Frame) → IsFrame m h Both mode mem a b → IsFrame m h (known_after side) (struck_mode k mode) mem a b
  frame-spared M a b is = frame-left (Alone S) b.masters b.shadows a b is (left-both S _ b.masters b.shadows)
  frame-spared S a b is = frame-left (Alone M) b.masters b.shadows a b is (left-both M _ b.masters b.shadows)

  -- ---- frames that wait

  caller-left : (sides : Sides) (masters shadows : List (Option ℕ)) (a : SourceFrame) (b : Frame) → IsCaller m h Both a b
      → IsLeft sides (λ at. false) b.masters b.shadows masters shadows → IsCaller m h sides a (record b { masters = masters; shadows = shadows })
  caller-left sides masters shadows a b is left = record {
    function = is.function;
    block = is.block;
    mark = is.mark;
    result = is.result;
    waits = is.waits;
    takes = is.takes;
    rest = is.rest;
    code = is.code;
    image = is.image;
    masters = on-map sides M _ _ (λ e. subst (λ (list : List (Option ℕ)). AgreeIn (names_at m a.function) list a.registers) (sym e) is.masters) left.master;
    shadows = on-map sides S _ _ (λ e. subst (λ (list : List (Option ℕ)). AgreeIn (names_at m a.function) list a.registers) (sym e) is.shadows) left.shadow;
  }

  caller-struck : (side : Side) (at word : ℕ) (a : SourceFrame) (b : Frame) → IsCaller m h Both a b
      → IsCaller m h (known_after side) a (with_file side (put (file side b) at word) b)
  caller-struck M at word a b is = caller-left (Alone S) (put b.masters at word) b.shadows a b is (left-shadows _ b.masters b.shadows at word refl)
  caller-struck S at word a b is = caller-left (Alone M) b.masters (put b.shadows at word) a b is (left-masters _ b.masters b.shadows (put b.shadows at word))

  caller-spared : (side : Side) (a : SourceFrame) (b : Frame) → IsCaller m h Both a b → IsCaller m h (known_after side) a b
  caller-spared M a b is = caller-left (Alone S) b.masters b.shadows a b is (left-both S _ b.masters b.shadows)
  caller-spared S a b is = caller-left (Alone M) b.masters b.shadows a b is (left-both M _ b.masters b.shadows)

  module _ (side : Side) where
    abbrev AreCallers : Sides → Mode → List SourceFrame → List Frame → Type 0
    AreCallers sides kind xs ys = likeness.AreCallers (alike m h) (Now sides kind mem) xs ys

    callers-spared : (xs : List SourceFrame) (ys : List Frame) → AreCallers Both mode xs ys → AreCallers (known_after side) (struck_mode k mode) xs ys
    callers-spared [] [] is = tt
    callers-spared [] (b ∷ ys) is = is
    callers-spared (a ∷ xs) [] is = is
    callers-spared (a ∷ xs) (b ∷ ys) is = (caller-spared side a b is.0, callers-spared xs ys is.1)

    -- one of them is struck
    callers-struck : (at word depth : ℕ) (frame : Frame) (xs : List SourceFrame) (ys : List Frame) → slice_get ys depth ≡ Some frame → AreCallers Both mode xs ys
        → AreCallers (known_after side) (struck_mode k mode) xs (slice_set ys depth (with_file side (put (file side frame) at word) frame))
    callers-struck at word depth frame [] [] here is = tt
    callers-struck at word depth frame [] (b ∷ ys) here is = absurd is
    callers-struck at word depth frame (a ∷ xs) [] here is = absurd is
    callers-struck at word zero frame (a ∷ xs) (b ∷ ys) here is =
        let same : b ≡ frame = cc in
        (caller-struck side at word a frame (subst (λ (x : Frame). IsCaller m h Both a x) same is.0), callers-spared xs ys is.1)
    callers-struck at word (suc depth) frame (a ∷ xs) (b ∷ ys) here is =
        (caller-spared side a b is.0, callers-struck at word depth frame xs ys here is.1)

    -- ---- stacks

    stack-struck : (at word depth : ℕ) (frame : Frame) (a : CallStack SourceFrame) (b : CallStack Frame) → frame_at b depth ≡ Some frame
        → is_in_window h mode frame (register side at) ≡ false → IsStack m h Both mode mem a b
        → IsStack m h (known_after side) (struck_mode k mode) mem a (with_frame b depth (with_file side (put (file side frame) at word) frame))
    stack-struck at word zero frame a b here outside is = record {
      mark = is.mark;
      frame = let same : b.frame ≡ frame = cc in
          frame-struck side at word a.frame frame (subst (λ (x : Frame). IsFrame m h Both mode mem a.frame x) same is.frame) outside;
      callers = callers-spared a.callers b.callers is.callers;
    }
    stack-struck at word (suc depth) frame a b here outside is = record {
      mark = is.mark;
      frame = frame-spared side a.frame b.frame is.frame;
      callers = callers-struck at word depth frame a.callers b.callers here is.callers;
    }

-- ---- what an upset strikes

-- a target is a register of a frame of the thread
pub record IsTarget (upset : UpsetSpec) (y : Thread Frame) (to : Target) : Type 0 where
  pub stack : y ≡ Running to.stack
  pub frame : frame_at to.stack upset.depth ≡ Some to.frame
  pub number : ℕ
  pub register : to.register ≡ register upset.side number

module _ (h : HardParts) (upset : UpsetSpec) (stack : CallStack Frame) (frame : Frame) (here : frame_at stack upset.depth ≡ Some frame) where
  target-word : (at : ℕ) (o : Option ℕ) (to : Target) → option_map (target_with upset stack frame at) o ≡ Some to → IsTarget upset (Running stack) to
  target-word at None to e = cc
  target-word at (Some word) to e =
      let same : target_with upset stack frame at word ≡ to = cc in
      subst (λ (x : Target). IsTarget upset (Running stack) x) same (record { stack = refl; frame = here; number = at; register = refl })

  target-name : (f : FuncParts) (o : Option ℕ) (to : Target) → option_and_then (target_at f (blocks_at h frame.function) upset stack frame) o ≡ Some to
      → IsTarget upset (Running stack) to
  target-name f None to e = cc
  target-name f (Some at) to e = target-word at (struck_word f (blocks_at h frame.function) upset frame at) to e

  target-function : (o : Option FuncParts) (to : Target) → option_and_then (target_named h upset stack frame) o ≡ Some to → IsTarget upset (Running stack) to
  target-function None to e = cc
  target-function (Some f) to e = target-name f _ to e

target-frame : (h : HardParts) (upset : UpsetSpec) (stack : CallStack Frame) (o : Option Frame) → frame_at stack upset.depth ≡ o → (to : Target)
    → option_and_then (target_in h upset stack) o ≡ Some to → IsTarget upset (Running stack) to
target-frame h upset stack None here to e = cc
target-frame h upset stack (Some frame) here to e = target-function h upset stack frame here (slice_get h.heads.funcs frame.function) to e

pub target-is : (h : HardParts) (upset : UpsetSpec) (y : Thread Frame) (to : Target) → target_of h upset y ≡ Some to → IsTarget upset y to
target-is h upset (Running stack) to e = target-frame h upset stack (frame_at stack upset.depth) refl to e
target-is h upset (Exiting n) to e = cc
target-is h upset Ended to e = cc

-- ---- threads

module _ (m : ModuleParts) (h : HardParts) (k : ℕ) (mode : Mode) (mem : Memory) (upset : UpsetSpec) (to : Target) where
  running-struck : (number : ℕ) → to.register ≡ register upset.side number → frame_at to.stack upset.depth ≡ Some to.frame
      → is_in_window h mode to.frame to.register ≡ false → (x : Thread SourceFrame) → IsThreadOn m h Both mode mem x (Running to.stack)
      → IsThreadOn m h (known_after upset.side) (struck_mode k mode) mem x (struck upset to)
  running-struck number named here outside (Running a) is =
      subst (λ (r : HReg). IsThreadOn m h (known_after upset.side) (struck_mode k mode) mem (Running a) (Running (with_frame to.stack upset.depth
      (with_file upset.side (put (file upset.side to.frame) r.loc.0 to.word) to.frame)))) (sym named)
      (stack-struck m h k mode mem upset.side number to.word upset.depth to.frame a to.stack here
      (ap (is_in_window h mode to.frame) (sym named) ∙ outside) is)
  running-struck number named here outside (Exiting n) is = absurd is
  running-struck number named here outside Ended is = absurd is

  -- a whole thread, struck outside windows, is known by the other side
  pub thread-struck : (x : Thread SourceFrame) (y : Thread Frame) → IsTarget upset y to → is_in_window h mode to.frame to.register ≡ false
      → IsThreadOn m h Both mode mem x y → IsThreadOn m h (known_after upset.side) (struck_mode k mode) mem x (struck upset to)
  thread-struck x y target outside is = running-struck target.number target.register target.frame outside x
      (subst (IsThreadOn m h Both mode mem x) target.stack is)
