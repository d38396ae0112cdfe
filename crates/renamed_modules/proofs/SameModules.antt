-- The same module under other numbers (`IsSameModule`) does the same, where its names are numbered by tables in which no name stands twice.
--
-- Choices: a renaming says something of each number, and only what it says of numbers of names counts. So it is first carried on past the tables, such
-- that no two numbers become one; nothing in the module is past its tables.
use Rattle.std.proofs.Common.{ℕ, ◌≡◌, ◌⊎◌, inl, inr, ◌∙◌, ◌+◌, ◌<◌, ◌≤◌, true, false, List, [], ◌∷◌, length, Option, Some, None, slice_get, refl, ap, sym as flip, subst, arith}
use Rattle.std.specs.Prelude.{nat_lt, if◌then◌else◌}
use Rattle.std.specs.List.{flat_map}
use Rattle.std.proofs.lemmas.Bool.Decides.{nat_tests}
use Rattle.std.proofs.lemmas.Option.{slice_get_cases, slice_get_within, slice_get_past}
use Rattle.ir_core.specs.Module.{ModuleParts, FuncParts}
use Rattle.ir_numbering.specs.declared.places.Place.{Place}
use Rattle.ir_numbering.specs.declared.places.Place.TheVariants.{Local, Struct, Global}
use Rattle.ir_numbering.specs.Places.{mentions_of_func, places_of_global, places_of_declare}
use Rattle.ir_numbering.specs.Numbers.{places_of_named}
use Rattle.ir_numbering.specs.Renaming.{Renaming}
use Rattle.hard_ir.specs.Images.{Keeps, IsSameModule}
use Rattle.src_meaning.specs.Races.{IsGood}
use Rattle.src_meaning.specs.Runs.{source}
use Rattle.renamed_modules.specs.Numbered.{AllAt, AreDistinct, IsWithin, IsOuter, AreNumbered}
use Rattle.renamed_modules.proofs.RenamedTypes.{IsApart}
use Rattle.renamed_modules.proofs.RenamedAgain.{AgreeAt, func-again, types-again, globals-again, declares-again}
use Rattle.renamed_modules.proofs.Renames.{Renames, IsRenamedAt}
use Rattle.renamed_modules.proofs.RenamedRuns.{sources, outputs, goods}
use Rattle.renamed_modules.proofs.SamePlaces.{same-place}

-- ---- numbers past a table

-- a numbering goes on past a table, past the other table
abbrev pub carried_on : List (List ℕ) → List (List ℕ) → (ℕ → ℕ) → ℕ → ℕ
carried_on from to number n = if nat_lt n (length from) then number n else length to + n

module _ (from to : List (List ℕ)) (number : ℕ → ℕ) (keeps : Keeps from to number) where
  abbrev number_on : ℕ → ℕ
  number_on = carried_on from to number

  on-within : (n : ℕ) → n < length from → number_on n ≡ number n
  on-within n within = let yes : nat_lt n (length from) ≡ true = grind (arith, nat_tests) in rw yes refl

  on-past : (n : ℕ) → length from ≤ n → number_on n ≡ length to + n
  on-past n past = let no : nat_lt n (length from) ≡ false = grind (arith, nat_tests) in rw no refl

  -- what stands at a number
  there : (n : ℕ) → ((name : List ℕ) × (slice_get from n ≡ Some name) × (n < length from)) ⊎ (length from ≤ n)
  there n = elim (slice_get_cases from n).1 as (λ _. ((name : List ℕ) × (slice_get from n ≡ Some name) × (n < length from)) ⊎ (length from ≤ n)) [
    | inl h ↦ inl (h.0, h.2, h.1)
    | inr h ↦ inr h.0
  ]

  number-within : (n : ℕ) (name : List ℕ) → slice_get from n ≡ Some name → number n < length to
  number-within n name e = slice_get_within to (number n) name (keeps n name e)

  on-apart : AreDistinct from → IsApart number_on
  on-apart distinct a b e = by (there a) (there b)
    where
      by : ((name : List ℕ) × (slice_get from a ≡ Some name) × (a < length from)) ⊎ (length from ≤ a)
          → ((name : List ℕ) × (slice_get from b ≡ Some name) × (b < length from)) ⊎ (length from ≤ b) → a ≡ b
      by (inl (x, at, within)) (inl (y, other_at, other_within)) =
          let same : number a ≡ number b = flip (on-within a within) ∙ e ∙ on-within b other_within in
          let both : Some x ≡ Some y = flip (keeps a x at) ∙ ap (slice_get to) same ∙ keeps b y other_at in
          let one : x ≡ y = cc in
          distinct a b x at (other_at ∙ ap (λ (name : List ℕ). Some name) (flip one))
      by (inl (x, at, within)) (inr past) =
          let small : number a < length to = number-within a x at in
          let same : number a ≡ length to + b = flip (on-within a within) ∙ e ∙ on-past b past in
          absurd (omega (arith, small, same))
      by (inr past) (inl (y, at, within)) =
          let small : number b < length to = number-within b y at in
          let same : length to + a ≡ number b = flip (on-past a past) ∙ e ∙ on-within b within in
          absurd (omega (arith, small, same))
      by (inr past) (inr other_past) =
          let same : length to + a ≡ length to + b = flip (on-past a past) ∙ e ∙ on-past b other_past in
          omega (arith, same)

  -- the same name stands there, or none on either side
  on-names : (n : ℕ) → slice_get to (number_on n) ≡ slice_get from n
  on-names n = by (there n)
    where
      by : ((name : List ℕ) × (slice_get from n ≡ Some name) × (n < length from)) ⊎ (length from ≤ n) → slice_get to (number_on n) ≡ slice_get from n
      by (inl (name, at, within)) = ap (slice_get to) (on-within n within) ∙ keeps n name at ∙ flip at
      by (inr past) =
          let beyond : length to ≤ length to + n = omega arith in
          ap (slice_get to) (on-past n past) ∙ slice_get_past to (length to + n) beyond ∙ flip (slice_get_past from n past)

-- ---- the same module

all-so : (P Q : Place → Type 0) → ((place : Place) → P place → Q place) → (places : List Place) → AllAt P places → AllAt Q places
all-so P Q so [] all = tt
all-so P Q so (place ∷ places) all = (so place all.0, all-so P Q so places all.1)

module _ (m other : ModuleParts) (same : IsSameModule m other) (numbered : AreNumbered m) where
  abbrev pub outer_on : Renaming
  outer_on = record {
    loc = same.outer.loc;
    type_id = carried_on m.type_names other.type_names same.outer.type_id;
    sym = carried_on m.syms other.syms same.outer.sym;
  }

  -- inside a function, and outside all
  agree-in : (names others : List (List ℕ)) (loc : ℕ → ℕ) (place : Place) → Keeps names others loc → IsWithin m names place
      → AgreeAt (record same.outer { loc = loc }) (record outer_on { loc = carried_on names others loc }) place
  agree-in names others loc (Local at) keeps within = flip (on-within names others loc keeps at.0 within)
  agree-in names others loc (Struct id) keeps within = flip (on-within m.type_names other.type_names same.outer.type_id same.type_names id.0 within)
  agree-in names others loc (Global name) keeps within = flip (on-within m.syms other.syms same.outer.sym same.syms name.0 within)

  agree-out : (place : Place) → IsOuter m place → AgreeAt same.outer outer_on place
  agree-out (Local at) within = refl
  agree-out (Struct id) within = flip (on-within m.type_names other.type_names same.outer.type_id same.type_names id.0 within)
  agree-out (Global name) within = flip (on-within m.syms other.syms same.outer.sym same.syms name.0 within)

  -- the numbering of a function's registers and labels
  record InFunc (n : ℕ) : Type 0 where
    loc : ℕ → ℕ
    apart : IsApart loc
    is : IsRenamedAt (record outer_on { loc = loc }) (slice_get m.funcs n) (slice_get other.funcs n)

  in-func : (n : ℕ) → InFunc n
  in-func n = by (slice_get m.funcs n) (slice_get other.funcs n) refl refl
    where
      by : (o p : Option FuncParts) → slice_get m.funcs n ≡ o → slice_get other.funcs n ≡ p → InFunc n
      by None None e g = record {
        loc = λ k. k;
        apart = λ a b f. f;
        is = subst (λ (o : Option FuncParts). IsRenamedAt (record outer_on { loc = λ k. k }) o (slice_get other.funcs n)) (flip e) (subst (λ (p : Option FuncParts). IsRenamedAt (record outer_on { loc = λ k. k }) None p) (flip g) tt);
      }
      by None (Some g) e h =
          let found = same-place other.funcs m.funcs n g (flip same.count) h in absurd (let clash : Some found.0 ≡ None = flip found.1 ∙ e in cc)
      by (Some f) None e h =
          let found = same-place m.funcs other.funcs n f same.count e in absurd (let clash : Some found.0 ≡ None = flip found.1 ∙ h in cc)
      by (Some f) (Some g) e h =
          let own = same.funcs n f g e h in
          let number : ℕ → ℕ = carried_on f.names g.names own.loc in
          record {
            loc = number;
            apart = on-apart f.names g.names own.loc own.names (numbered.names n f e);
            is = subst (λ (o : Option FuncParts). IsRenamedAt (record outer_on { loc = number }) o (slice_get other.funcs n)) (flip e)
                (subst (λ (p : Option FuncParts). IsRenamedAt (record outer_on { loc = number }) (Some f) p) (flip h)
                (own.is ∙ ap (λ (func : FuncParts). record func { names = g.names })
                (func-again (record same.outer { loc = own.loc }) (record outer_on { loc = number }) f
                (all-so (IsWithin m f.names) (AgreeAt (record same.outer { loc = own.loc }) (record outer_on { loc = number }))
                (λ place within. agree-in f.names g.names own.loc place own.names within) (mentions_of_func f) (numbered.funcs n f e)))));
          }

  pub renames : Renames m other
  renames = record {
    outer = outer_on;
    loc = λ n. (in-func n).loc;
    type_apart = on-apart m.type_names other.type_names same.outer.type_id same.type_names numbered.type_names;
    sym_apart = on-apart m.syms other.syms same.outer.sym same.syms numbered.syms;
    loc_apart = λ n. (in-func n).apart;
    types = same.types ∙ types-again same.outer outer_on m.types (all-so (IsOuter m) (AgreeAt same.outer outer_on) agree-out (flat_map places_of_named m.types) numbered.types);
    globals = same.globals ∙ globals-again same.outer outer_on m.globals (all-so (IsOuter m) (AgreeAt same.outer outer_on) agree-out (flat_map places_of_global m.globals) numbered.globals);
    declares = same.declares ∙ declares-again same.outer outer_on m.declares (all-so (IsOuter m) (AgreeAt same.outer outer_on) agree-out (flat_map places_of_declare m.declares) numbered.declares);
    count = same.count;
    funcs = λ n. (in-func n).is;
    names = on-names m.syms other.syms same.outer.sym same.syms;
  }

  -- ---- what the source does

  pub same-answers : (arguments turns : List ℕ) → (source other arguments turns).answers ≡ (source m arguments turns).answers
  same-answers arguments turns = (sources m other renames arguments turns).answers

  pub same-outputs : (arguments turns : List ℕ) → (source other arguments turns).state.process.world.outputs ≡ (source m arguments turns).state.process.world.outputs
  same-outputs arguments turns = outputs m other renames arguments turns

  pub same-good : (arguments : List ℕ) → IsGood m arguments → IsGood other arguments
  same-good arguments good = goods m other renames arguments good
