-- A thread's function has one parameter.
use Rattle.std.proofs.Common.{◌≡◌, ◌∙◌, ap, sym, ◌≤◌, List, [], ◌∷◌, map, length, Bool, false, ◌&&◌, arith}
use Rattle.std.proofs.Math.Bool.{and-false}
use Rattle.ir_core.specs.declared.types.Ty.{Ty}
use Rattle.ir_core.specs.declared.types.Ty.TheVariants as types
use Rattle.ir_core.specs.declared.types.Loc.{Loc}
use Rattle.ir_lines.specs.SameTypes.{same_ty}
use Rattle.ir_calls.specs.Externals.{has_signature}
use Rattle.ir_calls.specs.Calls.{start_signature}

pub more_params : (ret : Ty) (params : List (Ty × Loc)) → 2 ≤ length params → false ≡ has_signature ret (map (λ param. param.0) params) start_signature
more_params ret [] more = absurd (omega arith)
more_params ret (first ∷ []) more = absurd (omega arith)
more_params ret (first ∷ second ∷ rest) more = sym (ap (λ (b : Bool). same_ty ret types.Ptr && b) (and-false (same_ty first.0 types.Ptr)) ∙ and-false (same_ty ret types.Ptr))
