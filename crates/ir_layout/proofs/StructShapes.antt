-- The shape of a struct, as it is kept: fields are added one by one to what was kept of those before.
use Rattle.std.proofs.Common.{◌≡◌, ℕ, zero, suc, ◌+◌, ◌-◌, ◌<◌, ◌≤◌, List, [], ◌∷◌, map, drop, length, get_or, drop-cons, refl, sym, ap, subst, ◌∙◌, arith, true, false}
use Rattle.std.specs.Prelude.{Bool, Option, Some, None, fold, nat_le, max}
use Rattle.ir_core.specs.declared.types.Ty.{Ty}
use Rattle.ir_core.specs.declared.types.Ty as opened
use Rattle.ir_core.specs.declared.types.Ty.TheVariants as types
use Rattle.ir_core.specs.declared.types.Ty.TheOpen.{Ty-F}
use Rattle.ir_core.specs.declared.types.Ty.TheFolds.{fold-roll-Ty}
use Rattle.std.specs.Option.{option_map}
use Rattle.std.proofs.Math.ListN.{drop_of_length-le}
use Rattle.std.proofs.lemmas.Bool.Decides.{nat_tests}
use Rattle.ir_layout.specs.declared.shapes.KeptShape.{KeptShape}
use Rattle.ir_layout.specs.Shapes.{Shape, bytes, round_up, field_start, nothing, within, shape_step, shape_with, with_field, struct_of, array_of, add_field, fields_of}
use Rattle.ir_layout.specs.KeptShapes.{word, kept, kept_with_field, kept_struct, kept_array}
use Rattle.ir_layout.proofs.Words.{word-round_up, word-add, le-round_up, round_up-le, large-sum, large-round, word-mul, large-product}

-- what is kept of a shape that nests at most so deep
abbrev pub kept_within : ℕ → Option Shape → Option KeptShape
kept_within limit shape = option_map kept (within limit shape)

-- one more field, where there is one
abbrev pub add_kept : Option KeptShape → Option KeptShape → Option KeptShape
add_kept None field = None
add_kept (Some fields) None = None
add_kept (Some fields) (Some field) = Some (kept_with_field fields field)

pub kept-with_field : (fields field : Shape) → kept (with_field fields field) ≡ kept_with_field (kept fields) (kept field)
kept-with_field fields field =
    let start : ℕ = field_start fields.size field.align in
    let size : word (start + field.size) ≡ word (word (round_up (bytes field.align) (word fields.size)) + word field.size) =
    word-add start field.size ∙ ap (λ (n : ℕ). word (n + word field.size)) (word-round_up field.align fields.size) in
    let large = large-sum fields.size start field.size (le-round_up field.align fields.size) (round_up-le field.align fields.size) in
    cc

kept-struct : (fields : Shape) → kept (struct_of fields) ≡ kept_struct (kept fields)
kept-struct fields =
    let start : ℕ = round_up (bytes fields.align) fields.size in
    let size : word start ≡ word (round_up (bytes fields.align) (word fields.size)) = word-round_up fields.align fields.size in
    let large = large-round fields.size start (le-round_up fields.align fields.size) (round_up-le fields.align fields.size) in
    cc

kept-array : (count : ℕ) (element : Shape) → kept (array_of count element) ≡ kept_array count (kept element)
kept-array count element =
    let size = word-mul count element.size in
    let large = large-product count element.size in
    cc

-- ---- what nests at most so deep

max-le : (a b limit : ℕ) → nat_le a limit ≡ true → nat_le b limit ≡ true → nat_le (max a b) limit ≡ true
max-le a b limit e f = grind (arith, nat_tests)

max-le_left : (a b limit : ℕ) → nat_le a limit ≡ false → nat_le (max a b) limit ≡ false
max-le_left a b limit e = grind (arith, nat_tests)

max-le_right : (a b limit : ℕ) → nat_le b limit ≡ false → nat_le (max a b) limit ≡ false
max-le_right a b limit e = grind (arith, nat_tests)

-- a shape within the limit, by the test
within-true : (limit : ℕ) (shape : Shape) → nat_le shape.depth limit ≡ true → kept_within limit (Some shape) ≡ Some (kept shape)
within-true limit shape e = rw e refl

within-false : (limit : ℕ) (shape : Shape) → nat_le shape.depth limit ≡ false → kept_within limit (Some shape) ≡ None
within-false limit shape e = rw e refl

add_kept-none : (fields : Option KeptShape) → add_kept fields None ≡ None
add_kept-none None = refl
add_kept-none (Some fields) = refl

-- one more field
kept_within-add : (limit : ℕ) (fields field : Option Shape) → kept_within limit (add_field fields field) ≡ add_kept (kept_within limit fields) (kept_within limit field)
kept_within-add limit None field = refl
kept_within-add limit (Some fields) None = sym (add_kept-none (kept_within limit (Some fields)))
kept_within-add limit (Some fields) (Some field) = by_fields (nat_le fields.depth limit) refl (nat_le field.depth limit) refl
  where
    whole : Shape
    whole = with_field fields field

    by_fields : (a : Bool) → nat_le fields.depth limit ≡ a → (b : Bool) → nat_le field.depth limit ≡ b → kept_within limit (Some (with_field fields field)) ≡ add_kept (kept_within limit (Some fields)) (kept_within limit (Some field))
    by_fields false e b f = within-false limit (with_field fields field) (max-le_left fields.depth field.depth limit e) ∙ sym (ap (λ (x : Option KeptShape). add_kept x (kept_within limit (Some field))) (within-false limit fields e))
    by_fields true e false f = within-false limit (with_field fields field) (max-le_right fields.depth field.depth limit f) ∙ sym (ap (λ (x : Option KeptShape). add_kept (kept_within limit (Some fields)) x) (within-false limit field f) ∙ add_kept-none (kept_within limit (Some fields)))
    by_fields true e true f =
        within-true limit (with_field fields field) (max-le fields.depth field.depth limit e f) ∙ ap (λ (x : KeptShape). Some x) (kept-with_field fields field) ∙ sym (ap (λ (x : Option KeptShape). add_kept x (kept_within limit (Some field))) (within-true limit fields e) ∙ ap (λ (x : Option KeptShape). add_kept (Some (kept fields)) x) (within-true limit field f))

-- all fields
kept_within-fold : (limit : ℕ) (fields : Option Shape) (parts : List (Option Shape)) → kept_within limit (fold add_field fields parts) ≡ fold add_kept (kept_within limit fields) (map (λ (p : Option Shape). kept_within limit p) parts)
kept_within-fold limit fields [] = refl
kept_within-fold limit fields (p ∷ ps) = kept_within-fold limit (add_field fields p) ps ∙ ap (λ (x : Option KeptShape). fold add_kept x (map (λ (p : Option Shape). kept_within limit p) ps)) (kept_within-add limit fields p)

-- a struct nests one deeper than its fields
kept_within-struct : (limit : ℕ) (fields : Option Shape) → kept_within (suc limit) (option_map struct_of fields) ≡ option_map kept_struct (kept_within limit fields)
kept_within-struct limit None = refl
kept_within-struct limit (Some fields) = by_depth (nat_le fields.depth limit) refl
  where
    by_depth : (a : Bool) → nat_le fields.depth limit ≡ a → kept_within (suc limit) (Some (struct_of fields)) ≡ option_map kept_struct (kept_within limit (Some fields))
    by_depth false e = let deep : nat_le (suc fields.depth) (suc limit) ≡ false = grind (arith, nat_tests) in within-false (suc limit) (struct_of fields) deep ∙ sym (ap (λ (x : Option KeptShape). option_map kept_struct x) (within-false limit fields e))
    by_depth true e = let deep : nat_le (suc fields.depth) (suc limit) ≡ true = grind (arith, nat_tests) in within-true (suc limit) (struct_of fields) deep ∙ ap (λ (x : KeptShape). Some x) (kept-struct fields) ∙ sym (ap (λ (x : Option KeptShape). option_map kept_struct x) (within-true limit fields e))

kept_within-array : (limit count : ℕ) (element : Option Shape) → kept_within (suc limit) (option_map (array_of count) element) ≡ option_map (kept_array count) (kept_within limit element)
kept_within-array limit count None = refl
kept_within-array limit count (Some element) = by_depth (nat_le element.depth limit) refl
  where
    by_depth : (a : Bool) → nat_le element.depth limit ≡ a → kept_within (suc limit) (Some (array_of count element)) ≡ option_map (kept_array count) (kept_within limit (Some element))
    by_depth false e = let deep : nat_le (suc element.depth) (suc limit) ≡ false = grind (arith, nat_tests) in within-false (suc limit) (array_of count element) deep ∙ sym (ap (λ (x : Option KeptShape). option_map (kept_array count) x) (within-false limit element e))
    by_depth true e = let deep : nat_le (suc element.depth) (suc limit) ≡ true = grind (arith, nat_tests) in within-true (suc limit) (array_of count element) deep ∙ ap (λ (x : KeptShape). Some x) (kept-array count element) ∙ sym (ap (λ (x : Option KeptShape). option_map (kept_array count) x) (within-true limit element e))

-- nothing nests too deep
kept_nothing : (limit : ℕ) → kept_within limit (Some nothing) ≡ Some (kept nothing)
kept_nothing limit = let e : nat_le 0 limit ≡ true = grind (arith, nat_tests) in within-true limit nothing e

map-map : {A B C : Type 0} (g : B → C) (f : A → B) (xs : List A) → map g (map f xs) ≡ map (λ x. g (f x)) xs
map-map g f [] = refl
map-map g f (x ∷ xs) = ap (λ ys. g (f x) ∷ ys) (map-map g f xs)

-- ---- the loop over the parts of a struct

-- what is kept of a part
abbrev pub part_of : (ℕ → Option Shape) → ℕ → Ty → Option KeptShape
part_of named limit ty = kept_within limit (shape_with named ty)

add_none : (parts : List (Option KeptShape)) → fold add_kept None parts ≡ None
add_none [] = refl
add_none (p ∷ ps) = add_none ps

drop_at : (parts : List Ty) (i : ℕ) (part : Ty) → i < length parts → part ≡ get_or parts i part → drop i parts ≡ part ∷ drop (i + 1) parts
drop_at parts i part inside at = let e : drop i parts ≡ get_or parts i part ∷ drop (suc i) parts = drop-cons parts i part inside in let n : suc i ≡ i + 1 = omega arith in cc

pub one_more : (f : Ty → Option KeptShape) (fields field : KeptShape) (parts : List Ty) (i : ℕ) (part : Ty) (whole : Option KeptShape) → i < length parts → part ≡ get_or parts i part → f part ≡ Some field → fold add_kept (Some fields) (map f (drop i parts)) ≡ whole → fold add_kept (Some (kept_with_field fields field)) (map f (drop (i + 1) parts)) ≡ whole
one_more f fields field parts i part whole inside at has h =
    let e : drop i parts ≡ part ∷ drop (i + 1) parts = drop_at parts i part inside at in
    let h2 = subst (λ (ps : List Ty). fold add_kept (Some fields) (map f ps) ≡ whole) e h in
    subst (λ (x : Option KeptShape). fold add_kept (add_kept (Some fields) x) (map f (drop (i + 1) parts)) ≡ whole) has h2

pub all_added : (f : Ty → Option KeptShape) (fields : KeptShape) (parts : List Ty) (i : ℕ) (whole : Option KeptShape) → length parts ≤ i → fold add_kept (Some fields) (map f (drop i parts)) ≡ whole → whole ≡ Some fields
all_added f fields parts i whole past h = sym (subst (λ (ps : List Ty). fold add_kept (Some fields) (map f ps) ≡ whole) (drop_of_length-le parts {i = i} past) h)

pub none_more : (f : Ty → Option KeptShape) (fields : KeptShape) (parts : List Ty) (i : ℕ) (part : Ty) (whole : Option KeptShape) → i < length parts → part ≡ get_or parts i part → f part ≡ None → fold add_kept (Some fields) (map f (drop i parts)) ≡ whole → whole ≡ None
none_more f fields parts i part whole inside at lacks h =
    let e : drop i parts ≡ part ∷ drop (i + 1) parts = drop_at parts i part inside at in
    let h2 = subst (λ (ps : List Ty). fold add_kept (Some fields) (map f ps) ≡ whole) e h in
    sym h2 ∙ ap (λ (x : Option KeptShape). fold add_kept (add_kept (Some fields) x) (map f (drop (i + 1) parts))) lacks ∙ add_none (map f (drop (i + 1) parts))

shape-struct : (named : ℕ → Option Shape) (parts : List Ty) → shape_with named (types.Struct parts) ≡ option_map struct_of (fields_of (map (shape_with named) parts))
unfolding opened.roll-Ty denote.Hole.Carrier.roll
shape-struct named parts = fold-roll-Ty (Option Shape) (shape_step named) (Ty-F.Struct parts)

shape-array : (named : ℕ → Option Shape) (count : ℕ) (element : Ty) → shape_with named (types.Array count element) ≡ option_map (array_of count) (shape_with named element)
unfolding opened.roll-Ty denote.Hole.Carrier.roll
shape-array named count element = fold-roll-Ty (Option Shape) (shape_step named) (Ty-F.Array count element)

pub struct_is : (named : ℕ → Option Shape) (ty : Ty) (parts : List Ty) (limit : ℕ) → ty ≡ types.Struct parts → 0 < limit → kept_within limit (shape_with named ty) ≡ option_map kept_struct (fold add_kept (Some (kept nothing)) (map (part_of named (limit - 1)) parts))
struct_is named ty parts zero e some = absurd (omega arith)
struct_is named ty parts (suc limit) e some =
    let less : limit ≡ suc limit - 1 = omega arith in
    let inner : kept_within (suc limit) (shape_with named (types.Struct parts)) ≡ option_map kept_struct (fold add_kept (Some (kept nothing)) (map (part_of named limit) parts)) =
    ap (λ (x : Option Shape). kept_within (suc limit) x) (shape-struct named parts) ∙ kept_within-struct limit (fields_of (map (shape_with named) parts)) ∙ ap (λ (x : Option KeptShape). option_map kept_struct x) (kept_within-fold limit (Some nothing) (map (shape_with named) parts) ∙ ap (λ (x : Option KeptShape). fold add_kept x (map (λ (p : Option Shape). kept_within limit p) (map (shape_with named) parts))) (kept_nothing limit) ∙ ap (λ (x : List (Option KeptShape)). fold add_kept (Some (kept nothing)) x) (map-map (λ (p : Option Shape). kept_within limit p) (shape_with named) parts)) in
    subst (λ (n : ℕ). kept_within (suc limit) (shape_with named ty) ≡ option_map kept_struct (fold add_kept (Some (kept nothing)) (map (part_of named n) parts))) less (ap (λ (t : Ty). kept_within (suc limit) (shape_with named t)) e ∙ inner)

pub array_is : (named : ℕ → Option Shape) (ty : Ty) (count : ℕ) (element : Ty) (limit : ℕ) → ty ≡ types.Array count element → 0 < limit → kept_within limit (shape_with named ty) ≡ option_map (kept_array count) (part_of named (limit - 1) element)
array_is named ty count element zero e some = absurd (omega arith)
array_is named ty count element (suc limit) e some =
    let less : limit ≡ suc limit - 1 = omega arith in
    subst (λ (n : ℕ). kept_within (suc limit) (shape_with named ty) ≡ option_map (kept_array count) (part_of named n element)) less (ap (λ (t : Ty). kept_within (suc limit) (shape_with named t)) e ∙ ap (λ (x : Option Shape). kept_within (suc limit) x) (shape-array named count element) ∙ kept_within-array limit count (shape_with named element))
