-- What the code of an upset does is what the definitions say: the target that it strikes, and the thread after it.
use Rattle.std.proofs.Common.{ℕ, ◌≡◌, ◌∙◌, Option, Some, None, refl, ap, sym}
use Rattle.std.specs.Prelude.{slice_get}
use Rattle.std.specs.Option.{option_map, option_and_then}
use Rattle.ir_core.specs.Module.{FuncParts}
use Rattle.process.specs.declared.state.CallStack.{CallStack}
use Rattle.process.specs.declared.state.Thread.TheVariants.{Running}
use Rattle.sched_file.specs.declared.entries.UpsetSpec.{UpsetSpec}
use Rattle.hard_ir.specs.Hardened.{HardParts}
use Rattle.hard_frames.specs.declared.state.Frame.{Frame}
use Rattle.hard_frames.specs.Code.{blocks_at}
use Rattle.hard_meaning.specs.Strikes.{Target, target_with, target_at, target_named, target_in, target_of, struck_word, named_in, frame_at, struck}
use Rattle.tx_machine.specs.Struck.{found_at, found_named, found_in, place_struck, struck_place, once_struck_at, stack_struck, stack_place, place_of}

module _ (h : HardParts) (upset : UpsetSpec) (stack : CallStack Frame) where
  module _ (frame : Frame) where
    abbrev target_found : ℕ × ℕ → Target
    target_found found = target_with upset stack frame found.0 found.1

    by-word : (at : ℕ) (o : Option ℕ) → option_map (target_with upset stack frame at) o ≡ option_map target_found (option_map (λ word. (at, word)) o)
    by-word at None = refl
    by-word at (Some word) = refl

    by-number : (f : FuncParts) (o : Option ℕ) → option_and_then (target_at f (blocks_at h frame.function) upset stack frame) o
        ≡ option_map target_found (option_and_then (found_at f (blocks_at h frame.function) upset frame) o)
    by-number f None = refl
    by-number f (Some at) = by-word at (struck_word f (blocks_at h frame.function) upset frame at)

    by-head : (o : Option FuncParts) → option_and_then (target_named h upset stack frame) o
        ≡ option_map target_found (option_and_then (found_named h upset frame) o)
    by-head None = refl
    by-head (Some f) = by-number f (named_in f upset.name)

    in-frame : target_in h upset stack frame ≡ option_map target_found (found_in h upset frame)
    in-frame = by-head (slice_get h.heads.funcs frame.function)

  -- the place that it strikes is the target's
  pub target-place : option_map place_of (target_of h upset (Running stack)) ≡ stack_place h upset stack
  target-place = by (frame_at stack upset.depth)
    where
      found : (frame : Frame) (o : Option (ℕ × ℕ)) → option_map place_of (option_map (target_found frame) o) ≡ option_map (place_struck upset frame) o
      found frame None = refl
      found frame (Some x) = refl

      by : (o : Option Frame) → option_map place_of (option_and_then (target_in h upset stack) o) ≡ option_and_then (struck_place h upset) o
      by None = refl
      by (Some frame) = ap (option_map place_of) (in-frame frame) ∙ found frame (found_in h upset frame)

  -- the thread that is struck is the target's
  pub target-struck : (to : Target) → target_of h upset (Running stack) ≡ Some to → struck upset to ≡ Running (stack_struck h upset stack)
  target-struck to e = by (frame_at stack upset.depth) e
    where
      found : (frame : Frame) (o : Option (ℕ × ℕ)) → found_in h upset frame ≡ o → option_map (target_found frame) o ≡ Some to
          → struck upset to ≡ Running (once_struck_at h upset stack (Some frame))
      found frame None f e = absurd cc
      found frame (Some x) f e =
          let same : target_found frame x ≡ to = cc in
          ap (struck upset) (sym same) ∙ rw f refl

      by : (o : Option Frame) → option_and_then (target_in h upset stack) o ≡ Some to → struck upset to ≡ Running (once_struck_at h upset stack o)
      by None e = absurd cc
      by (Some frame) e = found frame (found_in h upset frame) refl (sym (in-frame frame) ∙ e)
