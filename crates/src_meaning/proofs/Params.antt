-- Parameters take words one after another.
use Rattle.std.proofs.Common.{ℕ, ◌≡◌, ◌+◌, ◌<◌, List, Option, length, get_or, drop, map, min, ap, ◌∙◌, sym, arith}
use Rattle.std.specs.List.{zip}
use Rattle.std.proofs.lemmas.List.{at_drop_more, at_drop_all, get_or-map, length-map}
use Rattle.std.proofs.lemmas.Slice.Zip.{length-zip, get_or-zip}
use Rattle.ir_core.specs.declared.types.Loc.{Loc}
use Rattle.ir_core.specs.declared.types.Ty.{Ty}
use Rattle.inst_meaning.specs.Registers.{put}
use Rattle.inst_meaning.specs.Phis.{all_assigned}

abbrev pub words_for : List (Ty × Loc) → List ℕ → List (Loc × ℕ)
words_for params words = zip (map (λ param. param.1) params) words

-- one more has its word
pub all_assigned-param : (params : List (Ty × Loc)) (words : List ℕ) (n : ℕ) (param : Ty × Loc) (word given : ℕ) (registers grown : List (Option ℕ)) → n < length params → n < length words → param ≡ get_or params n param → word ≡ get_or words n word → given ≡ word → grown ≡ put registers param.1.0 given → all_assigned (drop (n + 1) (words_for params words)) grown ≡ all_assigned (drop n (words_for params words)) registers
all_assigned-param params words n param word given registers grown few within at here same e =
    let all = words_for params words in
    let locs : List Loc = map (λ (p : Ty × Loc). p.1) params in
    let d : Loc × ℕ = (param.1, word) in
    let many : length locs ≡ length params = length-map params (λ (p : Ty × Loc). p.1) in
    let both : n < length all = omega (arith, length-zip locs words) in
    let place : get_or locs n param.1 ≡ param.1 = get_or-map (λ (p : Ty × Loc). p.1) params n param param.1 few ∙ ap (λ (p : Ty × Loc). p.1) (sym at) in
    let pair : get_or all n d ≡ d = get_or-zip locs words n d (omega arith) within ∙ ap (λ (at : Loc). (at, get_or words n word)) place ∙ ap (λ (w : ℕ). (param.1, w)) (sym here) in
    rw (e, same) (sym (at_drop_more (λ (ws : List (Loc × ℕ)). all_assigned ws registers) all n d both ∙ ap (λ (w : Loc × ℕ). all_assigned (drop (n + 1) all) (put registers w.0.0 w.1)) pair))

-- all have theirs
pub all_assigned-params : (params : List (Ty × Loc)) (words : List ℕ) (n : ℕ) (registers : List (Option ℕ)) → n ≡ min (length params) (length words) → all_assigned (drop n (words_for params words)) registers ≡ registers
all_assigned-params params words n registers e =
    let locs : List Loc = map (λ (p : Ty × Loc). p.1) params in
    let many : length locs ≡ length params = length-map params (λ (p : Ty × Loc). p.1) in
    at_drop_all (λ (ws : List (Loc × ℕ)). all_assigned ws registers) (words_for params words) n (omega (arith, length-zip locs words))
