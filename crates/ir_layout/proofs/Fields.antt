-- What fields take together, and where one stands.
use Rattle.std.proofs.Common.{◌≡◌, ℕ, ◌+◌, ◌<◌, List, [], ◌∷◌, ◌++◌, take, map, length, get_or, refl, sym, ap, ◌∙◌}
use Rattle.std.specs.Prelude.{fold}
use Rattle.std.proofs.lemmas.List.{take_more, map-append}
use Rattle.ir_core.specs.declared.types.Ty.{Ty}
use Rattle.ir_core.specs.declared.types.TypeId.{TypeId}
use Rattle.ir_layout.specs.Shapes.{Shape, known_shape, with_field, nothing}
use Rattle.ir_layout.specs.KeptShapes.{kept, kept_with_field}
use Rattle.ir_layout.specs.declared.shapes.KeptShape.{KeptShape}
use Rattle.ir_layout.proofs.StructShapes.{kept-with_field}

fold-snoc : (start : Shape) (shapes : List Shape) (last : Shape) → fold with_field start (shapes ++ last ∷ []) ≡ with_field (fold with_field start shapes) last
fold-snoc start [] last = refl
fold-snoc start (x ∷ xs) last = fold-snoc (with_field start x) xs last

pub taken-more : (types : List (TypeId × Ty)) (parts : List Ty) (i : ℕ) (part : Ty) (fields shape : KeptShape) → i < length parts → part ≡ get_or parts i part → fields ≡ kept (fold with_field nothing (map (known_shape types) (take i parts))) → shape ≡ kept (known_shape types part) → kept_with_field fields shape ≡ kept (fold with_field nothing (map (known_shape types) (take (i + 1) parts)))
taken-more types parts i part fields shape inside at so_far this =
    let front : take (i + 1) parts ≡ take i parts ++ part ∷ [] = take_more parts i part inside ∙ ap (λ (x : Ty). take i parts ++ x ∷ []) (sym at) in
    let shapes : map (known_shape types) (take (i + 1) parts) ≡ map (known_shape types) (take i parts) ++ known_shape types part ∷ [] = ap (λ (xs : List Ty). map (known_shape types) xs) front ∙ map-append (known_shape types) (take i parts) (part ∷ []) in
    let whole = ap (λ (xs : List Shape). kept (fold with_field nothing xs)) shapes ∙ ap (λ (s : Shape). kept s) (fold-snoc nothing (map (known_shape types) (take i parts)) (known_shape types part)) in
    ap (λ (x : KeptShape). kept_with_field x shape) so_far ∙ ap (λ (x : KeptShape). kept_with_field (kept (fold with_field nothing (map (known_shape types) (take i parts)))) x) this ∙ sym (whole ∙ kept-with_field (fold with_field nothing (map (known_shape types) (take i parts))) (known_shape types part))
