-- A file that has room for all registers to which words go, and in which each is then set, is the one that the words make one
-- after another.
use Rattle.std.proofs.Common.{ℕ, zero, suc, max, ◌≡◌, ◌+◌, ◌-◌, ◌<◌, ◌≤◌, List, [], ◌∷◌, ◌++◌, Option, Some, None, length, get_or, fold, replicate, take, drop, slice_set, refl, ap, ◌∙◌, sym, arith, append-nil, ⊎_elim}
use Rattle.std.proofs.lemmas.Bool.{cases_lt}
use Rattle.std.proofs.lemmas.List.{take_all, at_drop_more}
use Rattle.ir_core.specs.declared.types.Loc.{Loc}
use Rattle.inst_meaning.specs.Registers.{put}
use Rattle.inst_meaning.proofs.Puts.{put-within, put-grown}
use Rattle.inst_meaning.specs.Phis.{all_assigned}

-- how long a file of this length is once words went to it
abbrev pub room_for : ℕ → List (Loc × ℕ) → ℕ
room_for len words = fold (λ room word. max room (word.0.0 + 1)) len words

room_for-from : (len : ℕ) (words : List (Loc × ℕ)) → len ≤ room_for len words
room_for-from len [] = omega arith
room_for-from len (word ∷ words) = omega (arith, room_for-from (max len (word.0.0 + 1)) words)

-- there is room for each
pub room_for_each : (len : ℕ) (words : List (Loc × ℕ)) (k : ℕ) (d : Loc × ℕ) → k < length words → (get_or words k d).0.0 < room_for len words
room_for_each len [] k d h = absurd (omega arith)
room_for_each len (word ∷ words) zero d h = omega (arith, room_for-from (max len (word.0.0 + 1)) words)
room_for_each len (word ∷ words) (suc k) d h = room_for_each (max len (word.0.0 + 1)) words k d (omega arith)

length-put : (xs : List (Option ℕ)) (at word : ℕ) → length (put xs at word) ≡ max (length xs) (at + 1)
length-put [] zero word = refl
length-put [] (suc at) word = omega (arith, length-put [] at word)
length-put (x ∷ xs) zero word = omega arith
length-put (x ∷ xs) (suc at) word = omega (arith, length-put xs at word)

-- a word that goes to a register within the grown file leaves the rest of what was added
put_within_none : (n m at word : ℕ) → length (put [] at word) + m ≡ n → put (replicate n None) at word ≡ put [] at word ++ replicate m None
put_within_none zero m at word e = absurd (omega (arith, length-put [] at word))
put_within_none (suc n) m zero word e = let same : n ≡ m = omega arith in rw same refl
put_within_none (suc n) m (suc at) word e = ap (λ ys. None ∷ ys) (put_within_none n m at word (omega arith))

put_within_grown : (xs : List (Option ℕ)) (n m at word : ℕ) → length (put xs at word) + m ≡ length xs + n → put (xs ++ replicate n None) at word ≡ put xs at word ++ replicate m None
put_within_grown [] n m at word e = put_within_none n m at word (omega arith)
put_within_grown (x ∷ xs) n m zero word e = let same : n ≡ m = omega arith in rw same refl
put_within_grown (x ∷ xs) n m (suc at) word e = ap (λ ys. x ∷ ys) (put_within_grown xs n m at word (omega arith))

-- registers without words that are added change nothing, where the file becomes as long anyway
pub all_assigned-grown : (words : List (Loc × ℕ)) (xs : List (Option ℕ)) (n : ℕ) → length xs + n ≤ room_for (length xs) words → all_assigned words (xs ++ replicate n None) ≡ all_assigned words xs
all_assigned-grown [] xs n h = let none : n ≡ 0 = omega arith in rw none (append-nil xs)
all_assigned-grown (word ∷ words) xs n h =
    let at = word.0.0 in
    let ys = put xs at word.1 in
    let m = length xs + n - length ys in
    let size : length ys ≡ max (length xs) (at + 1) = length-put xs at word.1 in
    let room : room_for (length ys) words ≡ room_for (max (length xs) (at + 1)) words = ap (λ len. room_for len words) size in
    ⊎_elim
    (λ (lt : at < length xs + n).
    let same : length ys + m ≡ length xs + n = omega (arith, lt, size) in
    ap (all_assigned words) (put_within_grown xs n m at word.1 same) ∙ all_assigned-grown words ys m (omega (arith, h, same, room)))
    (λ (le : length xs + n ≤ at). ap (all_assigned words) (put-grown xs n at word.1 (omega arith) (omega arith)))
    (cases_lt at (length xs + n))

-- the file is first made as long as it becomes, as the code does it
pub all_assigned-resized : (words : List (Loc × ℕ)) (xs ys : List (Option ℕ)) (len room : ℕ) → len ≡ length xs → room ≡ room_for len words → ys ≡ take room xs ++ replicate (room - len) None → all_assigned words ys ≡ all_assigned words xs
all_assigned-resized words xs ys len room l r e =
    let from : len ≤ room_for len words = room_for-from len words in
    let all : ys ≡ xs ++ replicate (room - len) None = e ∙ ap (λ zs. zs ++ replicate (room - len) None) (take_all room xs (omega arith)) in
    let long : room_for (length xs) words ≡ room_for len words = ap (λ n. room_for n words) (sym l) in
    ap (all_assigned words) all ∙ all_assigned-grown words xs (room - len) (omega (arith, long, r, from, l))

-- one more word goes to its register
pub all_assigned-more : (words : List (Loc × ℕ)) (xs : List (Option ℕ)) (i : ℕ) (d : Loc × ℕ) (n : ℕ) → i < length words → n ≡ (get_or words i d).1 → (get_or words i d).0.0 < length xs → all_assigned (drop (i + 1) words) (slice_set xs (get_or words i d).0.0 (Some n)) ≡ all_assigned (drop i words) xs
all_assigned-more words xs i d n lt e inside =
    let at = (get_or words i d).0.0 in
    rw e (ap (all_assigned (drop (i + 1) words)) (put-within xs at (get_or words i d).1 inside) ∙ sym (at_drop_more (λ (ws : List (Loc × ℕ)). all_assigned ws xs) words i d lt))
