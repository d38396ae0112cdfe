-- Lines of `cut`, `begin`, `end`, and of `tick` with a number below 2^32.
use Rattle.std.proofs.Common.{ℕ, zero, suc, ◌≡◌, ◌+◌, ◌-◌, ◌*◌, ◌/◌, ◌%◌, ◌^◌, ◌<◌, ◌≤◌, ◌==◌, nat_lt, inl, inr, Bool, true, false, List, [], ◌∷◌, ◌++◌, fold, Some, None, Option, refl, sym, ap, ◌∙◌, subst, arith}
use Rattle.std.specs.Prelude.{codes, if◌then◌else◌}
use Rattle.std.specs.Fmt.{decimal}
use Rattle.std.specs.List.{list_all}
use Rattle.std.proofs.lemmas.Bool.Decides.{nat_tests}
use Rattle.std.proofs.lemmas.Fmt.{decimal_by_steps}
use Rattle.std.proofs.lemmas.List.Folds.{list_all-append}
use Rattle.std.proofs.lemmas.List.Sums.{fold-append}
use Rattle.ir_core.proofs.Lengths.{both, both_true}
use Rattle.ir_core.specs.declared.text.TokKind.TheVariants.{Word, Num}
use Rattle.ir_core.specs.Tokens.{is_digit, is_digits, IsToken}
use Rattle.ir_grammar.specs.Parts.{Tok}
use Rattle.ir_grammar.specs.Numbers.{decimal as written, count_of, count_written}
use Rattle.ir_grammar.specs.Fitting.{open_after}
use Rattle.ir_numbering.specs.Renaming.{Renaming}
use Rattle.hard_ir.specs.declared.instruction.HInst.{HInst}
use Rattle.hard_ir.specs.declared.instruction.HInst.TheVariants.{Cut, Begin, End, Tick}
use Rattle.hard_ir.specs.Lines.{bare_line, tick_line, check_line, own_line}
use Rattle.hard_ir.specs.Standing.{Tables, HasOwnLine}

-- ---- numbers

record IsWritten (n : ℕ) (digits : List ℕ) : Type 0 where
  value : written digits ≡ n
  digit : is_digits digits ≡ true

is-written : (n : ℕ) → n < 2 ^ 64 → IsWritten n (decimal n)
unfolding written
is-written = decimal_by_steps IsWritten one more
  where
    own : (d : ℕ) → d < 10 → is_digit (48 + d) ≡ true
    own d h = grind (arith, nat_tests)

    one : (n : ℕ) → n < 10 → IsWritten n ((48 + n) ∷ [])
    one n h = record { value = omega arith; digit = both (is_digit (48 + n)) true (own n h) refl }

    all : (ds : List ℕ) → is_digits ds ≡ true → list_all is_digit ds ≡ true
    all [] e = cc
    all (d ∷ ds) e = e

    some : (ds : List ℕ) → list_all is_digit ds ≡ true → (d : ℕ) → is_digit d ≡ true → is_digits (ds ++ d ∷ []) ≡ true
    some [] e d f = both (is_digit d) true f refl
    some (b ∷ ds) e d f = list_all-append is_digit (b ∷ ds) (d ∷ []) ∙ both (list_all is_digit (b ∷ ds)) _ e (both (is_digit d) true f refl)

    more : (n : ℕ) (ds : List ℕ) → 10 ≤ n → IsWritten (n / 10) ds → IsWritten n (ds ++ (48 + n % 10) ∷ [])
    more n ds h is = record {
      value = fold-append (λ (n digit : ℕ). 10 * n + (digit - 48)) 0 ds ((48 + n % 10) ∷ []) ∙ ap (λ (k : ℕ). 10 * k + ((48 + n % 10) - 48)) is.value ∙ omega arith;
      digit = some ds (all ds is.digit) (48 + n % 10) (own (n % 10) (omega arith));
    }

-- a token of a number's digits
count-read : (limit n : ℕ) (digits : List ℕ) → n < limit → IsWritten n digits → count_written limit digits ≡ Some n
count-read limit n [] h is = let clash : false ≡ true = is.digit in cc
count-read limit n (b ∷ digits) h is =
    let digit : is_digit b ≡ true = (both_true (is_digit b) (list_all is_digit digits) is.digit).0 in
    let sign : (b == 45) ≡ false = no_sign b digit in
    let small : nat_lt (written (b ∷ digits)) limit ≡ true = ap (λ (k : ℕ). nat_lt k limit) is.value ∙ under in
    rw (sign, small) (ap Some is.value)
  where
    no_sign : (b : ℕ) → is_digit b ≡ true → (b == 45) ≡ false
    no_sign b e = grind (arith, nat_tests)

    under : nat_lt n limit ≡ true
    under = grind (arith, nat_tests)

-- ---- lines

abbrev no_names : Renaming
no_names = record { loc = λ at. 0; type_id = λ at. 0; sym = λ at. 0 }

abbrev word : List ℕ → Tok
word text = record { kind = Word; text = text; at = 0 }

module _ (tables : Tables) where
  pub cut-line : HasOwnLine tables Cut
  unfolding own_line bare_line open_after IsToken
  cut-line = record {
    tokens = word (codes "cut") ∷ [];
    tree = Cut;
    names = no_names;
    kinds = (refl, tt);
    stands = record { shallow = refl; is = inr (inr (inr (inr (record { front = word (codes "cut") ∷ []; back = []; value = Cut; whole = refl; first = record { token = word (codes "cut"); whole = refl; is = refl }; second = (refl, refl) })))) };
    numbered = (tt, tt);
    is = refl;
  }

  pub begin-line : HasOwnLine tables Begin
  unfolding own_line bare_line open_after IsToken
  begin-line = record {
    tokens = word (codes "begin") ∷ [];
    tree = Begin;
    names = no_names;
    kinds = (refl, tt);
    stands = record { shallow = refl; is = inr (inr (inr (inr (record { front = word (codes "begin") ∷ []; back = []; value = Begin; whole = refl; first = record { token = word (codes "begin"); whole = refl; is = refl }; second = (refl, refl) })))) };
    numbered = (tt, tt);
    is = refl;
  }

  pub end-line : HasOwnLine tables End
  unfolding own_line bare_line open_after IsToken
  end-line = record {
    tokens = word (codes "end") ∷ [];
    tree = End;
    names = no_names;
    kinds = (refl, tt);
    stands = record { shallow = refl; is = inr (inr (inr (inr (record { front = word (codes "end") ∷ []; back = []; value = End; whole = refl; first = record { token = word (codes "end"); whole = refl; is = refl }; second = (refl, refl) })))) };
    numbered = (tt, tt);
    is = refl;
  }

  pub tick-line : (work : ℕ) → work < 2 ^ 32 → HasOwnLine tables (Tick work)
  unfolding own_line tick_line open_after IsToken
  tick-line work small =
      let number : Tok = record { kind = Num; text = decimal work; at = 0 } in
      let is = is-written work (omega (arith, small)) in
      record {
        tokens = word (codes "tick") ∷ number ∷ [];
        tree = Tick work;
        names = no_names;
        kinds = (refl, (inl is.digit, tt));
        stands = record {
          shallow = refl;
          is = inr (inl (record {
            front = word (codes "tick") ∷ [];
            back = number ∷ [];
            value = true;
            whole = refl;
            first = record { token = word (codes "tick"); whole = refl; is = refl };
            second = record { front = number ∷ []; back = []; value = work; whole = refl; first = record { token = number; whole = refl; is = count-read (2 ^ 32) work (decimal work) small is }; second = (refl, refl) };
          }));
        };
        numbered = (tt, (tt, tt));
        is = refl;
      }
