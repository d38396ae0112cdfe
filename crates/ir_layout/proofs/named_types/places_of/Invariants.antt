use Rattle.std.proofs.Common.{◌≡◌, ℕ, take}
use Rattle.std.specs.Prelude.{slice_get, nat_eq}
use Rattle.std.specs.Option.{option_and_then}
use Rattle.std.specs.HashMap.{get}
use Rattle.ir_layout.specs.Shapes.{definition_of}
use Rattle.ir_layout.proofs.named_types.places_of.Given as goal

abbrev pub invariant-loop-place : goal.invariant-loop-place
invariant-loop-place l = (id : ℕ) → option_and_then (slice_get l.types) (get nat_eq l.places id) ≡ definition_of (take l.place l.types) id
