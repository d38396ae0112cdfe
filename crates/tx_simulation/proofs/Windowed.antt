-- Masters whose words are known without a side are in a window: those that were checked, up to the effect that uses them, and those that were
-- just made, up to their copies.
use Rattle.std.proofs.Common.{ℕ, zero, suc, ◌≡◌, ◌∙◌, Bool, true, false, ◌&&◌, ◌||◌, List, [], ◌∷◌, ◌++◌, reverse, Some, slice_get, refl, ap, sym, subst}
use Rattle.std.specs.Prelude.{nat_eq}
use Rattle.std.specs.List.{list_any}
use Rattle.std.proofs.lemmas.Bool.{eqb-true, eq-eqb}
use Rattle.ir_core.specs.declared.types.Ty.{Ty}
use Rattle.ir_core.specs.declared.types.Loc.{Loc}
use Rattle.ir_core.specs.declared.values.Val.{Val}
use Rattle.ir_core.specs.declared.values.Val.TheVariants as values
use Rattle.ir_core.specs.declared.values.Side.TheVariants.{M}
use Rattle.ir_core.specs.declared.instruction.Inst.{Inst}
use Rattle.ir_core.specs.declared.instruction.Inst.TheVariants as insts
use Rattle.ir_core.specs.Module.{ModuleParts}
use Rattle.ir_flow.specs.Uses.{regs_in}
use Rattle.ir_check.proofs.Members.{IsIn, in-front, or-later, any-in}
use Rattle.hard_ir.specs.declared.instruction.When.{When}
use Rattle.hard_ir.specs.declared.instruction.When.TheVariants.{Always}
use Rattle.hard_ir.specs.declared.instruction.HReg.{HReg}
use Rattle.hard_ir.specs.declared.instruction.HInst.{HInst}
use Rattle.hard_ir.specs.declared.instruction.HInst.TheVariants.{Chk, End}
use Rattle.hard_ir.specs.Image.{CallKind, Inner, Outer, OfLock, checked_before, checked_when, check_when, core, checks_after, ends_for, ends_before, body_of}
use Rattle.hard_simulation.specs.Image.{copies_onto}
use Rattle.hard_simulation.proofs.Files.{is_among}
use Rattle.hard_meaning.specs.Checks.{is_active}
use Rattle.hard_meaning.specs.Windows.{is_between, is_effect, uses, checked_before as found_before, used_next, copied_next, is_window}
use Rattle.tx_simulation.proofs.Points.{checks_onto, checks_passed, core_onto}
use Rattle.tx_simulation.proofs.Checking.{before-reads, inactive-effect}

-- the master of a name
abbrev pub master : ℕ → HReg
master at = record { side = M; loc = record { 0 = at } }

-- ---- what was passed

module _ (inside : Bool) (r : HReg) (when : When) where
  -- a check of it stays behind checks
  found-behind : (done : List (Ty × Val)) (before : List HInst) → found_before inside r before ≡ true
      → found_before inside r (checks_passed when done before) ≡ true
  found-behind [] before e = e
  found-behind ((ty, values.Reg reg) ∷ done) before e = found-behind done (Chk when ty reg ∷ before) (or-later _ _ e)
  found-behind ((ty, values.Int n) ∷ done) before e = found-behind done before e
  found-behind ((ty, values.Null) ∷ done) before e = found-behind done before e
  found-behind ((ty, values.Global sym) ∷ done) before e = found-behind done before e
  found-behind ((ty, values.Gep gep) ∷ done) before e = found-behind done before e

  -- one of the checks that were passed
  found-passed : is_active when inside ≡ true → (done : List (Ty × Val)) (k : ℕ) (ty : Ty) (reg : Loc) → nat_eq r.loc.0 reg.0 ≡ true
      → slice_get done k ≡ Some (ty, values.Reg reg) → (before : List HInst) → found_before inside r (checks_passed when done before) ≡ true
  found-passed on [] k ty reg same e before = absurd cc
  found-passed on (operand ∷ done) zero ty reg same e before =
      let is : operand ≡ (ty, values.Reg reg) = cc in
      let first : found_before inside r (Chk when ty reg ∷ before) ≡ true = rw (on, same) refl in
      found-behind done (reverse (check_when when operand) ++ before)
      (subst (λ (o : Ty × Val). found_before inside r (reverse (check_when when o) ++ before) ≡ true) (sym is) first)
  found-passed on (operand ∷ done) (suc k) ty reg same e before =
      found-passed on done k ty reg same e (reverse (check_when when operand) ++ before)

-- ---- what is left

module _ (inside edged : Bool) where
  used-front : (r : HReg) (xs ys : List HInst) → used_next inside edged r xs ≡ true → used_next inside edged r (xs ++ ys) ≡ true
  used-front r [] ys e = absurd cc
  used-front r (inst ∷ xs) ys e = by_tests (uses inside edged r inst) (is_between inst) (used-front r xs ys) e
    where
      by_tests : (a b : Bool) → (used_next inside edged r xs ≡ true → used_next inside edged r (xs ++ ys) ≡ true)
          → (a || (b && used_next inside edged r xs)) ≡ true → (a || (b && used_next inside edged r (xs ++ ys))) ≡ true
      by_tests true b later f = refl
      by_tests false true later f = later f
      by_tests false false later f = f

  -- only checks stand before it
  used-checks : (r : HReg) (when : When) (operands : List (Ty × Val)) (code : List HInst) → used_next inside edged r code ≡ true
      → used_next inside edged r (checks_onto when operands code) ≡ true
  used-checks r when [] code e = e
  used-checks r when ((ty, values.Reg reg) ∷ operands) code e = used-checks r when operands code e
  used-checks r when ((ty, values.Int n) ∷ operands) code e = used-checks r when operands code e
  used-checks r when ((ty, values.Null) ∷ operands) code e = used-checks r when operands code e
  used-checks r when ((ty, values.Global sym) ∷ operands) code e = used-checks r when operands code e
  used-checks r when ((ty, values.Gep gep) ∷ operands) code e = used-checks r when operands code e

  -- an effect is done on the master's side, first
  used-core : (at : ℕ) (inst : Inst) → is_effect inside edged inst ≡ true → list_any (λ reg. nat_eq at reg.0) (regs_in inst) ≡ true
      → used_next inside edged (master at) (core inst) ≡ true
  used-core at (insts.Bin dst op flags w a b) effect among = absurd cc
  used-core at (insts.Cmp dst pred ty a b) effect among = absurd cc
  used-core at (insts.Select dst condition ty a b) effect among = absurd cc
  used-core at (insts.Cast dst op from a to) effect among = absurd cc
  used-core at (insts.Gep dst base ptr index) effect among = absurd cc
  used-core at (insts.Alloca dst ty) effect among = absurd cc
  used-core at (insts.Load dst ty ptr true) effect among = rw among refl
  used-core at (insts.Load dst ty ptr false) effect among = absurd cc
  used-core at (insts.Store ty val ptr atomic) effect among = rw (effect, among) refl
  used-core at (insts.Rmw dst op ptr ty val) effect among = rw among refl
  used-core at (insts.CmpXchg dst ptr ty old new) effect among = rw among refl
  used-core at insts.Fence effect among = absurd cc
  used-core at (insts.Extract dst elem pair index) effect among = absurd cc
  used-core at (insts.Call dst ret callee args) effect among = rw among refl
  used-core at (insts.Phi dst ty arms) effect among = absurd cc
  used-core at (insts.Br to) effect among = absurd cc
  used-core at (insts.CondBr condition on_true on_false) effect among = rw (effect, among) refl
  used-core at (insts.Switch ty on default cases) effect among = rw among refl
  used-core at (insts.Ret ty val) effect among = rw among refl
  used-core at insts.Unreachable effect among = absurd cc

  -- a transaction may end before it
  used-ends : (r : HReg) (kind : CallKind) (code : List HInst) → used_next inside edged r code ≡ true
      → used_next inside edged r (ends_for kind ++ code) ≡ true
  used-ends r Inner code e = e
  used-ends r Outer code e = e
  used-ends r OfLock code e = e

  used-behind : (m : ModuleParts) (r : HReg) (inst : Inst) (code : List HInst) → used_next inside edged r code ≡ true
      → used_next inside edged r (ends_before m inst ++ code) ≡ true
  used-behind m r (insts.Call dst ret callee args) code e = used-ends r _ code e
  used-behind m r inst code e = e

  -- ---- a window of a check

  module _ (inst : Inst) (effect : is_effect inside edged inst ≡ true) where
    active : is_active (checked_when inst) inside ≡ true
    active = by_test (is_active (checked_when inst) inside) refl
      where
        by_test : (b : Bool) → is_active (checked_when inst) inside ≡ b → is_active (checked_when inst) inside ≡ true
        by_test true e = e
        by_test false e = let none : true ≡ false = sym effect ∙ inactive-effect inst inside edged e in absurd cc

    among : (ty : Ty) (reg : Loc) → IsIn (ty, values.Reg reg) (checked_before inst) → list_any (λ (other : Loc). nat_eq reg.0 other.0) (regs_in inst) ≡ true
    among ty reg (k, e) = any-in (λ (other : Loc). nat_eq reg.0 other.0) reg (regs_in inst) (before-reads inst k ty reg e) (eq-eqb reg.0 reg.0 refl)

    module _ (ty : Ty) (reg : Loc) (k : ℕ) (before : List HInst) where
      -- one of the checks was made, and others come
      pub checked-window : (m : ModuleParts) (done operands : List (Ty × Val)) (rest : List HInst) → checked_before inst ≡ done ++ operands
          → slice_get done k ≡ Some (ty, values.Reg reg)
          → is_window inside edged (master reg.0) (checks_passed (checked_when inst) done before)
          (checks_onto (checked_when inst) operands (body_of m inst ++ rest)) ≡ true
      checked-window m done operands rest all at =
          let own : list_any (λ (other : Loc). nat_eq reg.0 other.0) (regs_in inst) ≡ true = among ty reg
          (subst (IsIn (ty, values.Reg reg)) (sym all) (in-front (ty, values.Reg reg) done operands (k, at))) in
          let found : found_before inside (master reg.0) (checks_passed (checked_when inst) done before) ≡ true =
          found-passed inside (master reg.0) (checked_when inst) active done k ty reg (eq-eqb reg.0 reg.0 refl) at before in
          let used : used_next inside edged (master reg.0) (checks_onto (checked_when inst) operands (body_of m inst ++ rest)) ≡ true =
          used-checks (master reg.0) (checked_when inst) operands (body_of m inst ++ rest) (used-front (master reg.0) (body_of m inst) rest
          (used-behind m (master reg.0) inst (core inst ++ checks_after inst) (used-front (master reg.0) (core inst) (checks_after inst) (used-core reg.0 inst effect own)))) in
          rw (found, used) refl

      -- all were made, and the transaction has ended
      pub ended-window : (rest : List HInst) → checked_when inst ≡ Always → slice_get (checked_before inst) k ≡ Some (ty, values.Reg reg)
          → is_window inside edged (master reg.0) (End ∷ checks_passed Always (checked_before inst) before) (core_onto inst rest) ≡ true
      ended-window rest always at =
          let found : found_before inside (master reg.0) (checks_passed Always (checked_before inst) before) ≡ true =
          found-passed inside (master reg.0) Always (ap (λ (when : When). is_active when inside) (sym always) ∙ active)
          (checked_before inst) k ty reg (eq-eqb reg.0 reg.0 refl) at before in
          let used : used_next inside edged (master reg.0) (core_onto inst rest) ≡ true =
          used-front (master reg.0) (core inst) (checks_after inst ++ rest) (used-core reg.0 inst effect (among ty reg (k, at))) in
          rw (found, used) refl

-- ---- a window of a copy

copied-among : (at : ℕ) (regs : List (Ty × Loc)) (rest : List HInst) → is_among at regs ≡ true → copied_next (master at) (copies_onto regs rest) ≡ true
copied-among at [] rest e = absurd cc
copied-among at (reg ∷ regs) rest e = by_name (nat_eq reg.1.0 at) refl (copied-among at regs rest) e
  where
    by_name : (b : Bool) → nat_eq reg.1.0 at ≡ b → (is_among at regs ≡ true → copied_next (master at) (copies_onto regs rest) ≡ true)
        → (b || is_among at regs) ≡ true → (nat_eq at reg.1.0 || copied_next (master at) (copies_onto regs rest)) ≡ true
    by_name true same later f = ap (λ (b : Bool). b || copied_next (master at) (copies_onto regs rest)) (eq-eqb at reg.1.0 (sym (eqb-true reg.1.0 at same)))
    by_name false same later f = or-later (nat_eq at reg.1.0) _ (later f)

pub copy-window : (inside edged : Bool) (at : ℕ) (regs : List (Ty × Loc)) (rest past : List HInst) → is_among at regs ≡ true
    → is_window inside edged (master at) past (copies_onto regs rest) ≡ true
copy-window inside edged at regs rest past e = or-later _ (copied_next (master at) (copies_onto regs rest)) (copied-among at regs rest e)
