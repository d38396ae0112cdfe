-- What registers hold once some of them take words, and copies of them that are under way.
use Rattle.std.proofs.Common.{ℕ, ◌≡◌, ◌∙◌, Bool, true, false, ◌||◌, List, [], ◌∷◌, map, Option, Some, refl, ap, sym}
use Rattle.std.specs.Prelude.{nat_eq}
use Rattle.std.proofs.lemmas.Bool.{eqb-true, eqb-false, eq-eqb}
use Rattle.std.specs.List.{list_any, zip}
use Rattle.std.specs.Option.{is_some}
use Rattle.ir_core.specs.declared.types.Ty.{Ty}
use Rattle.ir_core.specs.declared.types.Loc.{Loc}
use Rattle.inst_meaning.specs.Registers.{get, put}
use Rattle.inst_meaning.proofs.Puts.{put-here, put-elsewhere}
use Rattle.inst_meaning.specs.Phis.{all_assigned}
use Rattle.inst_laws.specs.Agreement.{Agree}

-- ---- copies under way

-- the register is one of these
abbrev pub is_among : ℕ → List (Ty × Loc) → Bool
is_among at regs = list_any (λ reg. nat_eq reg.1.0 at) regs

-- the files hold the same words but in these registers
pub record AgreeBut (regs : List (Ty × Loc)) (a b : List (Option ℕ)) : Type 0 where
  pub but : (at : ℕ) → is_among at regs ≡ false → get a at ≡ get b at

-- these registers have a word, and the same in both files
pub record AreFresh (regs : List (Ty × Loc)) (a b : List (Option ℕ)) : Type 0 where
  pub same : (at : ℕ) → is_among at regs ≡ true → get a at ≡ get b at
  pub given : (at : ℕ) → is_among at regs ≡ true → is_some (get b at) ≡ true

pub but-none : (a b : List (Option ℕ)) → AgreeBut [] a b → Agree a b
but-none a b h = record { same = λ at. h.but at refl }

among-rest : (b rest : Bool) → rest ≡ true → (b || rest) ≡ true
among-rest true rest e = refl
among-rest false rest e = e

pub fresh-rest : (reg : Ty × Loc) (regs : List (Ty × Loc)) (a b : List (Option ℕ)) → AreFresh (reg ∷ regs) a b → AreFresh regs a b
fresh-rest reg regs a b h = record {
  same = λ at e. h.same at (among-rest (nat_eq reg.1.0 at) (is_among at regs) e);
  given = λ at e. h.given at (among-rest (nat_eq reg.1.0 at) (is_among at regs) e);
}

pub first-among : (reg : Ty × Loc) (regs : List (Ty × Loc)) → is_among reg.1.0 (reg ∷ regs) ≡ true
first-among reg regs = ap (λ (b : Bool). b || is_among reg.1.0 regs) (eq-eqb reg.1.0 reg.1.0 refl)

-- a register is copied
pub copied-one : (reg : Ty × Loc) (regs : List (Ty × Loc)) (shadows b : List (Option ℕ)) (word : ℕ) → get b reg.1.0 ≡ Some word
    → AgreeBut (reg ∷ regs) shadows b → AgreeBut regs (put shadows reg.1.0 word) b
copied-one reg regs shadows b word e h = record { but = λ at n. by_name at (nat_eq reg.1.0 at) refl n }
  where
    by_name : (at : ℕ) (same : Bool) → nat_eq reg.1.0 at ≡ same → is_among at regs ≡ false → get (put shadows reg.1.0 word) at ≡ get b at
    by_name at true f n =
        let is : reg.1.0 ≡ at = eqb-true reg.1.0 at f in
        ap (get (put shadows reg.1.0 word)) (sym is) ∙ put-here shadows reg.1.0 word ∙ sym e ∙ ap (get b) is
    by_name at false f n =
        put-elsewhere shadows reg.1.0 word at (eqb-false reg.1.0 at f) ∙ h.but at (ap (λ (s : Bool). s || is_among at regs) f ∙ n)

-- a word is put on the master's side and in the source, and is still to be copied
pub one-but : (reg : Ty × Loc) (shadows b : List (Option ℕ)) (word : ℕ) → Agree shadows b → AgreeBut (reg ∷ []) shadows (put b reg.1.0 word)
one-but reg shadows b word h = record {
  but = λ at n. h.same at
      ∙ sym (put-elsewhere b reg.1.0 word at (eqb-false reg.1.0 at (alone (nat_eq reg.1.0 at) n)));
}
  where
    alone : (same : Bool) → (same || false) ≡ false → same ≡ false
    alone true e = cc
    alone false e = refl

pub one-fresh : (reg : Ty × Loc) (masters b : List (Option ℕ)) (word : ℕ) → AreFresh (reg ∷ []) (put masters reg.1.0 word) (put b reg.1.0 word)
one-fresh reg masters b word = record {
  same = λ at e. here at (alone (nat_eq reg.1.0 at) e);
  given = λ at e. has at (alone (nat_eq reg.1.0 at) e);
}
  where
    alone : (same : Bool) → (same || false) ≡ true → same ≡ true
    alone true e = refl
    alone false e = cc

    here : (at : ℕ) → nat_eq reg.1.0 at ≡ true → get (put masters reg.1.0 word) at ≡ get (put b reg.1.0 word) at
    here at f =
        let is : reg.1.0 ≡ at = eqb-true reg.1.0 at f in
        ap (get (put masters reg.1.0 word)) (sym is) ∙ put-here masters reg.1.0 word ∙ sym (put-here b reg.1.0 word)
        ∙ ap (get (put b reg.1.0 word)) is

    has : (at : ℕ) → nat_eq reg.1.0 at ≡ true → is_some (get (put b reg.1.0 word) at) ≡ true
    has at f =
        let is : reg.1.0 ≡ at = eqb-true reg.1.0 at f in
        ap (λ (k : ℕ). is_some (get (put b reg.1.0 word) k)) (sym is) ∙ ap is_some (put-here b reg.1.0 word)

-- ---- parameters

-- a file that took words has the old ones elsewhere
pub untouched : (words : List (Loc × ℕ)) (registers : List (Option ℕ)) (at : ℕ) → list_any (λ word. nat_eq word.0.0 at) words ≡ false
    → get (all_assigned words registers) at ≡ get registers at
untouched [] registers at n = refl
untouched (word ∷ words) registers at n =
    let parts = neither (nat_eq word.0.0 at) (list_any (λ word. nat_eq word.0.0 at) words) n in
    untouched words (put registers word.0.0 word.1) at parts.1 ∙ put-elsewhere registers word.0.0 word.1 at (eqb-false word.0.0 at parts.0)
  where
    neither : (b rest : Bool) → (b || rest) ≡ false → (b ≡ false) × (rest ≡ false)
    neither true rest e = cc
    neither false rest e = (refl, e)

pub names-alone : (params : List (Ty × Loc)) (words : List ℕ) (at : ℕ) → is_among at params ≡ false
    → list_any (λ word. nat_eq word.0.0 at) (zip (map (λ param. param.1) params) words) ≡ false
names-alone [] words at n = refl
names-alone (param ∷ params) [] at n = refl
names-alone (param ∷ params) (word ∷ words) at n = under (nat_eq param.1.0 at) (names-alone params words at) n
  where
    under : (b : Bool) {rest later : Bool} → (rest ≡ false → later ≡ false) → (b || rest) ≡ false → (b || later) ≡ false
    under true f e = cc
    under false f e = f e

-- at the entry of a function the shadows lack the parameters alone
pub params-but : (params : List (Ty × Loc)) (words : List ℕ) → AgreeBut params [] (all_assigned (zip (map (λ param. param.1) params) words) [])
params-but params words = record { but = λ at n. sym (untouched (zip (map (λ param. param.1) params) words) [] at (names-alone params words at n)) }
