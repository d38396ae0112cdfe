-- The phis of one side, one after another among those of both.
use Rattle.std.proofs.Common.{ℕ, ◌≡◌, ◌+◌, ◌<◌, List, [], ◌∷◌, ◌++◌, Option, Some, None, false, length, get_or, drop, is_some, refl, sym, ap, ◌∙◌, append_assoc}
use Rattle.std.specs.List.{filter_map}
use Rattle.std.specs.Option.{option_map}
use Rattle.std.proofs.lemmas.List.{at_drop_more}
use Rattle.ir_core.specs.declared.types.Loc.{Loc}
use Rattle.ir_core.specs.declared.values.Side.{Side}
use Rattle.ir_core.specs.declared.values.Side.TheVariants.{M, S}
use Rattle.ir_core.specs.declared.instruction.Inst.{Inst}
use Rattle.ir_layout.specs.Memory.{LayoutParts}
use Rattle.inst_meaning.specs.Phis.{phi_word, phi_words, phi_words_with}
use Rattle.hard_frames.specs.Frames.{phi_on}

phi_of : (side of : Side) (phi : Inst) → of ≡ side → phi_on side (of, phi) ≡ Some phi
phi_of M M phi e = refl
phi_of M S phi e = absurd cc
phi_of S M phi e = absurd cc
phi_of S S phi e = refl

phi_none : (side of : Side) (phi : Inst) → (of ≡ side → ⊥) → phi_on side (of, phi) ≡ None
phi_none M M phi e = absurd (e refl)
phi_none M S phi e = refl
phi_none S M phi e = refl
phi_none S S phi e = absurd (e refl)

-- what is left from a place on
left_from : (side : Side) (phis : List (Side × Inst)) (i : ℕ) (entry : Side × Inst) → i < length phis → entry ≡ get_or phis i entry
    → filter_map (phi_on side) (drop i phis) ≡ filter_map (phi_on side) (entry ∷ drop (i + 1) phis)
left_from side phis i entry inside at =
    at_drop_more (λ (xs : List (Side × Inst)). filter_map (phi_on side) xs) phis i entry inside
    ∙ ap (λ (x : Side × Inst). filter_map (phi_on side) (x ∷ drop (i + 1) phis)) (sym at)

left_taken : (side of : Side) (phi : Inst) (phis : List (Side × Inst)) → of ≡ side
    → filter_map (phi_on side) ((of, phi) ∷ phis) ≡ phi ∷ filter_map (phi_on side) phis
left_taken side of phi phis e = rw (phi_of side of phi e) refl

left_skipped : (side of : Side) (phi : Inst) (phis : List (Side × Inst)) → (of ≡ side → ⊥)
    → filter_map (phi_on side) ((of, phi) ∷ phis) ≡ filter_map (phi_on side) phis
left_skipped side of phi phis e = rw (phi_none side of phi e) refl

-- the words of one phi before those of the rest
with_one : (word : Option (Loc × ℕ)) (one : List (Loc × ℕ)) (rest : Option (List (Loc × ℕ))) → Some one ≡ phi_words_with word (Some [])
    → phi_words_with word rest ≡ option_map (λ more. one ++ more) rest
with_one None one rest e = absurd cc
with_one (Some word) one rest e = let same : one ≡ word ∷ [] = cc in ap (λ (xs : List (Loc × ℕ)). option_map (λ more. xs ++ more) rest) (sym same)

without_one : (word : Option (Loc × ℕ)) (rest : Option (List (Loc × ℕ))) → is_some (phi_words_with word (Some [])) ≡ false
    → phi_words_with word rest ≡ None
without_one None rest e = refl
without_one (Some word) rest e = absurd cc

both_before : (words one : List (Loc × ℕ)) (rest : Option (List (Loc × ℕ)))
    → option_map (λ more. (words ++ one) ++ more) rest ≡ option_map (λ more. words ++ more) (option_map (λ more. one ++ more) rest)
both_before words one None = refl
both_before words one (Some more) = ap Some (append_assoc words one more)

-- the invariant of a loop over them: the words so far and those that are left are all
pub phi_taken : (l : LayoutParts) (registers : List (Option ℕ)) (from : Loc) (side : Side) (phis : List (Side × Inst)) (i : ℕ) (of : Side) (phi : Inst) (words one grown : List (Loc × ℕ)) (total : Option (List (Loc × ℕ)))
    → i < length phis → (of, phi) ≡ get_or phis i (of, phi) → of ≡ side → Some one ≡ phi_words l registers from (phi ∷ []) → grown ≡ words ++ one
    → option_map (λ rest. words ++ rest) (phi_words l registers from (filter_map (phi_on side) (drop i phis))) ≡ total
    → option_map (λ rest. grown ++ rest) (phi_words l registers from (filter_map (phi_on side) (drop (i + 1) phis))) ≡ total
phi_taken l registers from side phis i of phi words one grown total inside at e found g so_far =
    let rest : List Inst = filter_map (phi_on side) (drop (i + 1) phis) in
    let here : phi ∷ rest ≡ filter_map (phi_on side) (drop i phis) = sym (left_from side phis i (of, phi) inside at ∙ left_taken side of phi (drop (i + 1) phis) e) in
    ap (λ (ws : List (Loc × ℕ)). option_map (λ more. ws ++ more) (phi_words l registers from rest)) g
    ∙ both_before words one (phi_words l registers from rest)
    ∙ sym (ap (λ (o : Option (List (Loc × ℕ))). option_map (λ more. words ++ more) o) (with_one (phi_word l registers from phi) one (phi_words l registers from rest) found))
    ∙ ap (λ (xs : List Inst). option_map (λ more. words ++ more) (phi_words l registers from xs)) here
    ∙ so_far

pub phi_skipped : (l : LayoutParts) (registers : List (Option ℕ)) (from : Loc) (side : Side) (phis : List (Side × Inst)) (i : ℕ) (of : Side) (phi : Inst) (words : List (Loc × ℕ)) (total : Option (List (Loc × ℕ)))
    → i < length phis → (of, phi) ≡ get_or phis i (of, phi) → (of ≡ side → ⊥)
    → option_map (λ rest. words ++ rest) (phi_words l registers from (filter_map (phi_on side) (drop i phis))) ≡ total
    → option_map (λ rest. words ++ rest) (phi_words l registers from (filter_map (phi_on side) (drop (i + 1) phis))) ≡ total
phi_skipped l registers from side phis i of phi words total inside at e so_far =
    ap (λ (xs : List Inst). option_map (λ more. words ++ more) (phi_words l registers from xs)) (sym (left_from side phis i (of, phi) inside at ∙ left_skipped side of phi (drop (i + 1) phis) e))
    ∙ so_far

-- one takes none
pub phi_missing : (l : LayoutParts) (registers : List (Option ℕ)) (from : Loc) (side : Side) (phis : List (Side × Inst)) (i : ℕ) (of : Side) (phi : Inst) (words : List (Loc × ℕ)) (total : Option (List (Loc × ℕ)))
    → i < length phis → (of, phi) ≡ get_or phis i (of, phi) → of ≡ side → is_some (phi_words l registers from (phi ∷ [])) ≡ false
    → option_map (λ rest. words ++ rest) (phi_words l registers from (filter_map (phi_on side) (drop i phis))) ≡ total
    → false ≡ is_some total
phi_missing l registers from side phis i of phi words total inside at e none so_far =
    let rest : List Inst = filter_map (phi_on side) (drop (i + 1) phis) in
    let here : phi ∷ rest ≡ filter_map (phi_on side) (drop i phis) = sym (left_from side phis i (of, phi) inside at ∙ left_taken side of phi (drop (i + 1) phis) e) in
    ap is_some (sym (ap (λ (o : Option (List (Loc × ℕ))). option_map (λ more. words ++ more) o) (without_one (phi_word l registers from phi) (phi_words l registers from rest) none)))
    ∙ ap (λ (xs : List Inst). is_some (option_map (λ more. words ++ more) (phi_words l registers from xs))) here
    ∙ ap is_some so_far
