-- Registers keep the words that they have, and those that are assigned have one.
use Rattle.std.proofs.Common.{ℕ, zero, suc, ◌≡◌, ◌∙◌, Bool, true, false, ◌||◌, List, [], ◌∷◌, map, length, Option, Some, None, refl, ap, sym, arith}
use Rattle.std.specs.Prelude.{nat_eq}
use Rattle.std.specs.List.{list_any, zip}
use Rattle.std.specs.Option.{is_some, option_map}
use Rattle.std.proofs.lemmas.Bool.{eqb-true}
use Rattle.ir_core.specs.declared.types.Ty.{Ty}
use Rattle.ir_core.specs.declared.types.Loc.{Loc}
use Rattle.ir_core.specs.declared.instruction.Inst.{Inst}
use Rattle.ir_core.specs.declared.instruction.Inst.TheVariants as insts
use Rattle.ir_layout.specs.Memory.{LayoutParts}
use Rattle.ir_flow.specs.Paths.{is_reg, assigns}
use Rattle.ir_core.specs.Instructions.{result_of}
use Rattle.inst_meaning.specs.Registers.{get, put}
use Rattle.inst_meaning.proofs.Puts.{put-here}
use Rattle.inst_meaning.specs.Phis.{phi_word, phi_words, phi_words_with, assigned, all_assigned}
use Rattle.src_laws.specs.Assigned.{HasWord}

-- no register loses its word
abbrev pub Keeps : List (Option ℕ) → List (Option ℕ) → Type 0
Keeps old new = (reg : Loc) → HasWord old reg → HasWord new reg

put-keeps : (registers : List (Option ℕ)) (at word k : ℕ) → is_some (get registers k) ≡ true → is_some (get (put registers at word) k) ≡ true
put-keeps [] at word k h = cc
put-keeps (old ∷ registers) zero word zero h = refl
put-keeps (old ∷ registers) zero word (suc k) h = h
put-keeps (old ∷ registers) (suc at) word zero h = h
put-keeps (old ∷ registers) (suc at) word (suc k) h = put-keeps registers at word k h

put-there : (registers : List (Option ℕ)) (at word k : ℕ) → nat_eq at k ≡ true → is_some (get (put registers at word) k) ≡ true
put-there registers at word k e = ap (λ (j : ℕ). is_some (get (put registers at word) j)) (sym (eqb-true at k e)) ∙ ap is_some (put-here registers at word)

pub assigned-keeps : (dst : Option Loc) (n : ℕ) (registers : List (Option ℕ)) → Keeps registers (assigned dst n registers)
assigned-keeps None n registers reg h = h
assigned-keeps (Some at) n registers reg h = put-keeps registers at.0 n reg.0 h

pub assigned-there : (dst : Option Loc) (n : ℕ) (registers : List (Option ℕ)) (reg : Loc) → is_reg reg dst ≡ true
    → HasWord (assigned dst n registers) reg
assigned-there None n registers reg e = cc
assigned-there (Some at) n registers reg e = put-there registers at.0 n reg.0 e

pub all-keeps : (words : List (Loc × ℕ)) (registers : List (Option ℕ)) → Keeps registers (all_assigned words registers)
all-keeps [] registers reg h = h
all-keeps (word ∷ words) registers reg h = all-keeps words (put registers word.0.0 word.1) reg (put-keeps registers word.0.0 word.1 reg.0 h)

-- one of the words goes to the register
abbrev pub is_given : List (Loc × ℕ) → Loc → Bool
is_given words reg = list_any (λ word. nat_eq word.0.0 reg.0) words

pub all-there : (words : List (Loc × ℕ)) (registers : List (Option ℕ)) (reg : Loc) → is_given words reg ≡ true
    → HasWord (all_assigned words registers) reg
all-there [] registers reg e = cc
all-there (word ∷ words) registers reg e = by_name (nat_eq word.0.0 reg.0) refl (all-there words (put registers word.0.0 word.1) reg)
  where
    by_name : (b : Bool) → nat_eq word.0.0 reg.0 ≡ b → (is_given words reg ≡ true → HasWord (all_assigned (word ∷ words) registers) reg)
        → HasWord (all_assigned (word ∷ words) registers) reg
    by_name true f rest = all-keeps words (put registers word.0.0 word.1) reg (put-there registers word.0.0 word.1 reg.0 f)
    by_name false f rest = rest (sym (ap (λ (b : Bool). b || is_given words reg) f) ∙ e)

-- ---- parameters

either-way : (b : Bool) {rest later : Bool} → (b || rest) ≡ true → (rest ≡ true → later ≡ true) → (b || later) ≡ true
either-way true e f = refl
either-way false e f = f e

pub params-given : (params : List (Ty × Loc)) (words : List ℕ) (reg : Loc) → length words ≡ length params
    → list_any (λ param. nat_eq param.1.0 reg.0) params ≡ true → is_given (zip (map (λ param. param.1) params) words) reg ≡ true
params-given [] words reg e any = cc
params-given (param ∷ params) [] reg e any = absurd (omega arith)
params-given (param ∷ params) (word ∷ words) reg e any = either-way (nat_eq param.1.0 reg.0) any (params-given params words reg (omega arith))

-- ---- phis

record Given (o : Option (Loc × ℕ)) (rest : Option (List (Loc × ℕ))) (words : List (Loc × ℕ)) : Type 0 where
  first : Loc × ℕ
  others : List (Loc × ℕ)
  here : o ≡ Some first
  there : rest ≡ Some others
  all : words ≡ first ∷ others

given : (o : Option (Loc × ℕ)) (rest : Option (List (Loc × ℕ))) (words : List (Loc × ℕ)) → phi_words_with o rest ≡ Some words → Given o rest words
given None rest words e = cc
given (Some first) None words e = cc
given (Some first) (Some others) words e = record { first = first; others = others; here = refl; there = refl; all = cc }

named : (dst : Loc) (o : Option ℕ) (word : Loc × ℕ) → option_map (λ n. (dst, n)) o ≡ Some word → Some dst ≡ Some word.0
named dst None word e = cc
named dst (Some n) word e = let pair : (dst, n) ≡ word = cc in ap (λ (p : Loc × ℕ). Some p.0) pair

phi-named : (l : LayoutParts) (registers : List (Option ℕ)) (label : Loc) (inst : Inst) (word : Loc × ℕ) → phi_word l registers label inst ≡ Some word
    → result_of inst ≡ Some word.0
phi-named l registers label (insts.Phi dst ty arms) word e = named dst _ word e
phi-named l registers label other word e = cc

-- a register that phis assign is given one of their words
pub phis-given : (l : LayoutParts) (registers : List (Option ℕ)) (label : Loc) (phis : List Inst) (words : List (Loc × ℕ)) (reg : Loc)
    → phi_words l registers label phis ≡ Some words → assigns phis reg ≡ true → is_given words reg ≡ true
phis-given l registers label [] words reg e any = cc
phis-given l registers label (phi ∷ phis) words reg e any =
    let parts = given (phi_word l registers label phi) (phi_words l registers label phis) words e in
    let name : result_of phi ≡ Some parts.first.0 = phi-named l registers label phi parts.first parts.here in
    let one : (nat_eq parts.first.0.0 reg.0 || assigns phis reg) ≡ true = ap (λ (o : Option Loc). is_reg reg o || assigns phis reg) (sym name) ∙ any in
    rw parts.all (either-way (nat_eq parts.first.0.0 reg.0) one (phis-given l registers label phis parts.others reg parts.there))
