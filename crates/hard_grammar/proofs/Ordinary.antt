-- An instruction that has an ordinary line has a hardened one, on either side.
use Rattle.std.proofs.Common.{ℕ, ◌≡◌, ◌+◌, ◌||◌, Bool, true, false, ◌&&◌, List, [], ◌∷◌, ◌++◌, map, drop, codes, Option, Some, refl, sym, ap, subst}
use Rattle.std.specs.Prelude.{nat_eq, if◌then◌else◌}
use Rattle.std.specs.List.{AllByRecursion, list_all}
use Rattle.std.specs.Option.{option_map}
use Rattle.ir_core.specs.declared.text.TokKind.{TokKind}
use Rattle.ir_core.specs.declared.text.TokKind.TheVariants.{Word, Local, At, Label, Num, Bytes, Str, Hash, Bang, Punct}
use Rattle.ir_core.specs.declared.types.Loc.{Loc}
use Rattle.ir_core.specs.declared.values.Side.{Side}
use Rattle.ir_core.specs.declared.values.Side.TheVariants.{M, S}
use Rattle.ir_core.specs.declared.instruction.Inst.{Inst}
use Rattle.ir_core.specs.Tokens.{is_name, is_name_byte, begins_name, is_digit, IsToken}
use Rattle.ir_core.proofs.Lengths.{both, both_true}
use Rattle.ir_grammar.specs.Parts.{Tok, IsOptional}
use Rattle.ir_grammar.specs.Tokens.{is_punct}
use Rattle.ir_grammar.specs.Fitting.{IsInstruction}
use Rattle.ir_numbering.specs.Renaming.{Renaming, renamed_inst}
use Rattle.ir_types.specs.Firsts.{entry_of, first_of}
use Rattle.hard_ir.specs.Lines.{HasKind, AreTokens, mark, registers_of, is_register_at, on_side, sided, asterisk}
use Rattle.hard_ir.specs.Standing.{Tables, AreNumbered, HasInstLine}

-- an ordinary line stands for the instruction
pub record HasOrdinaryLine (tables : Tables) (inst : Inst) : Type 0 where
  pub line : List Tok
  pub tree : Inst
  pub names : Renaming
  pub kinds : AreTokens line
  pub stands : IsInstruction line tree
  pub numbered : AreNumbered tables 1 names line
  pub is : inst ≡ renamed_inst names tree

-- ---- all of a list

pub all_append : {A : Type 0} (P : A → Type 0) (xs ys : List A) → AllByRecursion P xs → AllByRecursion P ys → AllByRecursion P (xs ++ ys)
all_append P [] ys all more = more
all_append P (x ∷ xs) ys all more = (all.0, all_append P xs ys all.1 more)

pub all_map : {A B : Type 0} (P : A → Type 0) (Q : B → Type 0) (f : A → B) → ((x : A) → P x → Q (f x)) → (xs : List A) → AllByRecursion P xs → AllByRecursion Q (map f xs)
all_map P Q f step [] all = tt
all_map P Q f step (x ∷ xs) all = (step x all.0, all_map P Q f step xs all.1)

-- what stands first under a name
pub first_among : {A : Type 0} (P : A → Type 0) (entries : List (Loc × A)) (at : Loc) (a : A) → AllByRecursion (λ entry. P entry.1) entries → first_of entries at ≡ Some a → P a
first_among P [] at a all e = absurd cc
first_among {A} P (entry ∷ entries) at a all e = by (nat_eq entry.0.0 at.0) e (first_among P entries at a all.1)
  where
    by : (t : Bool) → ◌≡◌ {A = Option A} (option_map (λ x. x.1) (if t then Some entry else entry_of entries at.0)) (Some a) → (first_of entries at ≡ Some a → P a) → P a
    by true h rest = let same : entry.1 ≡ a = cc in subst P same all.0
    by false h rest = rest h

-- ---- names

digits_named : (name : List ℕ) → list_all is_digit name ≡ true → list_all is_name_byte name ≡ true
digits_named [] e = refl
digits_named (b ∷ name) e =
    let w = both_true (is_digit b) (list_all is_digit name) e in
    both (is_name_byte b) (list_all is_name_byte name) (digit (begins_name b) (is_digit b) w.0) (digits_named name w.1)
  where
    digit : (x d : Bool) → d ≡ true → (x || d) ≡ true
    digit true d e = refl
    digit false d e = e

-- the bytes of a name are such as stand in names
pub named_bytes : (name : List ℕ) → is_name name ≡ true → list_all is_name_byte name ≡ true
named_bytes [] e = cc
named_bytes (b ∷ name) e = by (begins_name b) (list_all is_name_byte name) refl refl e
  where
    by : (x y : Bool) → begins_name b ≡ x → list_all is_name_byte name ≡ y → ((x && y) || list_all is_digit (b ∷ name)) ≡ true → list_all is_name_byte (b ∷ name) ≡ true
    by true true f g h = rw (f, g) refl
    by true false f g h = digits_named (b ∷ name) h
    by false y f g h = digits_named (b ∷ name) h

-- behind a side such bytes are a name
pub marked : (side : Side) (bytes : List ℕ) → list_all is_name_byte bytes ≡ true → IsToken true Local (mark side ++ bytes)
unfolding IsToken
marked M bytes e = record { rest = codes "m." ++ bytes; whole = refl; passes = rw e refl }
marked S bytes e = record { rest = codes "s." ++ bytes; whole = refl; passes = rw e refl }

-- ---- tokens with sides

local_sided : (side : Side) (text : List ℕ) → IsToken true Local text → IsToken true Local (mark side ++ drop 1 text)
unfolding IsToken
local_sided side text h = subst (λ (l : List ℕ). IsToken true Local (mark side ++ l)) (sym (ap (drop 1) h.whole)) (marked side h.rest (named_bytes h.rest h.passes))

sided_kept : (side : Side) (inst : Inst) (t : Tok) → IsToken true t.kind t.text → IsToken true (sided side inst t).kind (sided side inst t).text
sided_kept side inst t h = by t.kind t.text t.at h
  where
    chosen : (b : Bool) (text : List ℕ) (at : ℕ) → IsToken true Local text
        → let t : Tok = record { kind = Local; text = text; at = at } in IsToken true (if b then on_side side t else t).kind (if b then on_side side t else t).text
    chosen true text at h = local_sided side text h
    chosen false text at h = h

    by : (kind : TokKind) (text : List ℕ) (at : ℕ) → IsToken true kind text
        → let t : Tok = record { kind = kind; text = text; at = at } in IsToken true (sided side inst t).kind (sided side inst t).text
    by Local text at h = chosen (is_register_at inst (at + 1)) text at h
    by Word text at h = h
    by At text at h = h
    by Label text at h = h
    by Num text at h = h
    by Bytes text at h = h
    by Str text at h = h
    by Hash text at h = h
    by Bang text at h = h
    by Punct text at h = h

-- ---- the end of the line

abbrev star : Tok
star = record { kind = Punct; text = codes "*"; at = 0 }

abbrev stars : Bool → List Tok
stars true = star ∷ []
stars false = []

star_ends : (retires : Bool) → IsOptional (is_punct asterisk) (stars retires) retires
star_ends true = record { token = star; whole = refl; passes = refl }
star_ends false = refl

star_kinds : (retires : Bool) → AreTokens (stars retires)
unfolding IsToken
star_kinds true = (refl, tt)
star_kinds false = tt

-- ---- hardened lines

pub hardened_line : (tables : Tables) (side : Side) (inst : Inst) (retires : Bool) → HasOrdinaryLine tables inst → (registers_of inst ≡ [] → side ≡ M) → HasInstLine tables side inst retires
hardened_line tables side inst retires h bare = record {
  tokens = map (sided side h.tree) h.line ++ stars retires;
  tree = h.tree;
  names = h.names;
  kinds = all_append HasKind (map (sided side h.tree) h.line) (stars retires) (all_map HasKind HasKind (sided side h.tree) (sided_kept side h.tree) h.line h.kinds) (star_kinds retires);
  stands = record { line = h.line; back = stars retires; kinds = h.kinds; ordinary = h.stands; end = star_ends retires; whole = refl };
  numbered = h.numbered;
  is = h.is;
  bare = bare;
}
