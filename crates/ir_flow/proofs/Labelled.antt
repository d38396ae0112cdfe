-- Numbers of labels and edges, one block after another.
use Rattle.std.proofs.Common.{◌≡◌, ℕ, suc, ◌+◌, ◌<◌, List, [], ◌∷◌, ◌++◌, take, drop, length, get_or, drop-cons, append_assoc, refl, sym, ap, ◌∙◌, arith, true, false, ◌||◌, ◌&&◌}
use Rattle.std.specs.Prelude.{Bool, Option, None, Some, nat_eq, nat_le, nat_lt, ◌==◌, if◌then◌else◌}
use Rattle.std.specs.List.{filter_map, cons_option}
use Rattle.std.specs.Option.{option_map, option_or}
use Rattle.std.proofs.lemmas.List.{take_more}
use Rattle.std.proofs.lemmas.List.Folds.{list_any-append}
use Rattle.std.proofs.lemmas.Bool.{eqb-true}
use Rattle.std.proofs.lemmas.Bool.Decides.{nat_tests}
use Rattle.std.proofs.lemmas.List.{length-take}
use Rattle.ir_core.specs.declared.types.Loc.{Loc}
use Rattle.ir_core.specs.declared.instruction.Block.{Block}
use Rattle.ir_flow.specs.Edges.{number_of, numbered_from, edge_to, edges_of_block, edges_from, is_loop_head}
use Rattle.ir_flow.specs.Labels.{AreNumbers, Numbers, found_edge}

numbered_from-snoc : (n : ℕ) (blocks : List Block) (block : Block) (label : Loc) → numbered_from n (blocks ++ block ∷ []) label ≡ (if nat_eq block.label.0 label.0 then Some (n + length blocks) else numbered_from n blocks label)
numbered_from-snoc n [] block label = let e : n ≡ n + 0 = omega arith in by_name (nat_eq block.label.0 label.0) e
  where
    by_name : (b : Bool) → n ≡ n + 0 → option_or None (if b then Some n else None) ≡ (if b then Some (n + 0) else None)
    by_name true e = ap (λ (x : ℕ). Some x) e
    by_name false e = refl
numbered_from-snoc n (x ∷ xs) block label = let e : n + 1 + length xs ≡ n + suc (length xs) = omega arith in ap (λ (o : Option ℕ). option_or o (if nat_eq x.label.0 label.0 then Some n else None)) (numbered_from-snoc (n + 1) xs block label) ∙ by_name (nat_eq block.label.0 label.0) e
  where
    by_name : (b : Bool) → n + 1 + length xs ≡ n + suc (length xs) → option_or (if b then Some (n + 1 + length xs) else numbered_from (n + 1) xs label) (if nat_eq x.label.0 label.0 then Some n else None) ≡ (if b then Some (n + suc (length xs)) else option_or (numbered_from (n + 1) xs label) (if nat_eq x.label.0 label.0 then Some n else None))
    by_name true e = ap (λ (m : ℕ). Some m) e
    by_name false e = refl

number_of-more : (blocks : List Block) (i : ℕ) (block : Block) (label : Loc) → i < length blocks → block ≡ get_or blocks i block → number_of (take (i + 1) blocks) label ≡ (if nat_eq block.label.0 label.0 then Some i else number_of (take i blocks) label)
number_of-more blocks i block label inside at =
    let front : take (i + 1) blocks ≡ take i blocks ++ block ∷ [] = take_more blocks i block inside ∙ ap (λ (x : Block). take i blocks ++ x ∷ []) (sym at) in
    let count : 0 + length (take i blocks) ≡ i = omega (arith, length-take i blocks) in
    ap (λ (xs : List Block). number_of xs label) front ∙ numbered_from-snoc 0 (take i blocks) block label ∙ ap (λ (n : ℕ). if nat_eq block.label.0 label.0 then Some n else number_of (take i blocks) label) count

-- the table with one block more
pub numbers-more : (blocks : List Block) (i : ℕ) (block : Block) (before after : ℕ → Option ℕ) → i < length blocks → block ≡ get_or blocks i block → after block.label.0 ≡ Some i → ((q : ℕ) → nat_eq block.label.0 q ≡ false → after q ≡ before q) → ((label : Loc) → before label.0 ≡ number_of (take i blocks) label) → (label : Loc) → after label.0 ≡ number_of (take (i + 1) blocks) label
numbers-more blocks i block before after inside at here others so_far label = by_name (nat_eq block.label.0 label.0) refl
  where
    by_name : (b : Bool) → nat_eq block.label.0 label.0 ≡ b → after label.0 ≡ number_of (take (i + 1) blocks) label
    by_name true e = ap after (sym (eqb-true block.label.0 label.0 e)) ∙ here ∙ sym (number_of-more blocks i block label inside at ∙ ap (λ (b : Bool). if b then Some i else number_of (take i blocks) label) e)
    by_name false e = others label.0 e ∙ so_far label ∙ sym (number_of-more blocks i block label inside at ∙ ap (λ (b : Bool). if b then Some i else number_of (take i blocks) label) e)

-- edges by the table are the edges
filter_map-same : (f g : Loc → Option (ℕ × ℕ)) (labels : List Loc) → ((label : Loc) → f label ≡ g label) → filter_map f labels ≡ filter_map g labels
filter_map-same f g [] same = refl
filter_map-same f g (x ∷ xs) same = ap (λ (o : Option (ℕ × ℕ)). cons_option o (filter_map f xs)) (same x) ∙ ap (λ (ys : List (ℕ × ℕ)). cons_option (g x) ys) (filter_map-same f g xs same)

pub found-edges : (blocks : List Block) (numbers : Numbers) (from : ℕ) (labels : List Loc) → AreNumbers blocks numbers → filter_map (found_edge numbers from) labels ≡ filter_map (edge_to blocks from) labels
found-edges blocks numbers from labels known = filter_map-same (found_edge numbers from) (edge_to blocks from) labels (λ label. ap (λ (o : Option ℕ). option_map (λ to. (from, to)) o) (known label))

pub next-edges : (all blocks : List Block) (i : ℕ) (block : Block) (pairs : List (ℕ × ℕ)) → i < length blocks → block ≡ get_or blocks i block → (pairs ++ edges_of_block all i block) ++ edges_from all (i + 1) (drop (i + 1) blocks) ≡ pairs ++ edges_from all i (drop i blocks)
next-edges all blocks i block pairs inside at =
    let rest : drop i blocks ≡ block ∷ drop (i + 1) blocks = drop_at blocks i block inside at in
    append_assoc pairs (edges_of_block all i block) (edges_from all (i + 1) (drop (i + 1) blocks)) ∙ ap (λ (bs : List Block). pairs ++ edges_from all i bs) (sym rest)
  where
    drop_at : (xs : List Block) (i : ℕ) (x : Block) → i < length xs → x ≡ get_or xs i x → drop i xs ≡ x ∷ drop (i + 1) xs
    drop_at xs i x inside at = let e : drop i xs ≡ get_or xs i x ∷ drop (suc i) xs = drop-cons xs i x inside in let n : suc i ≡ i + 1 = omega arith in cc

-- one edge more
pub heads-more : (pairs : List (ℕ × ℕ)) (i : ℕ) (edge d : ℕ × ℕ) (block blocks : ℕ) (before after : Bool) → i < length pairs → edge ≡ get_or pairs i d → block < blocks → before ≡ is_loop_head (take i pairs) block → after ≡ (before || (nat_lt block blocks && (edge.1 == block && nat_le block edge.0))) → after ≡ is_loop_head (take (i + 1) pairs) block
heads-more pairs i edge d block blocks before after inside at small so_far now =
    let front : take (i + 1) pairs ≡ take i pairs ++ edge ∷ [] = take_more pairs i d inside ∙ ap (λ (x : ℕ × ℕ). take i pairs ++ x ∷ []) (sym at) in
    let all = ap (λ (xs : List (ℕ × ℕ)). is_loop_head xs block) front ∙ list_any-append (λ (e : ℕ × ℕ). e.1 == block && nat_le block e.0) (take i pairs) (edge ∷ []) in
    let within : nat_lt block blocks ≡ true = grind (arith, nat_tests) in
    now ∙ ap (λ (b : Bool). before || (b && (edge.1 == block && nat_le block edge.0))) within ∙ ap (λ (b : Bool). b || (edge.1 == block && nat_le block edge.0)) so_far ∙ sym (all ∙ ap (λ (b : Bool). is_loop_head (take i pairs) block || b) (or_false (edge.1 == block && nat_le block edge.0)))
  where
    or_false : (b : Bool) → (b || false) ≡ b
    or_false true = refl
    or_false false = refl
