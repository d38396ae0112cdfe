-- The intervals of a block hold exactly its windows.
use Rattle.std.proofs.Common.{ℕ, zero, suc, ◌+◌, ◌≤◌, ◌<◌, ◌≡◌, ◌∙◌, Bool, true, false, ◌&&◌, ◌||◌, List, [], ◌∷◌, ◌++◌, length, take, drop, reverse, Option, Some, None, refl, ap, sym, append-nil, append_assoc, arith}
use Rattle.std.specs.Prelude.{nat_eq, nat_le}
use Rattle.std.specs.List.{list_all}
use Rattle.std.specs.Option.{option_or}
use Rattle.std.proofs.lemmas.Bool.{eqb-true}
use Rattle.std.proofs.lemmas.Bool.Decides.{nat_tests}
use Rattle.std.proofs.lemmas.Grind.{reverse_onto}
use Rattle.std.proofs.lemmas.List.Folds.{list_any-append}
use Rattle.ir_core.specs.declared.types.Loc.{Loc}
use Rattle.ir_core.specs.declared.values.Side.{Side}
use Rattle.ir_core.specs.declared.values.Side.TheVariants.{M, S}
use Rattle.ir_core.specs.declared.instruction.Inst.{Inst}
use Rattle.ir_core.specs.declared.instruction.Inst.TheVariants as insts
use Rattle.ir_flow.specs.Uses.{regs_in}
use Rattle.hard_ir.specs.declared.instruction.HReg.{HReg}
use Rattle.hard_ir.specs.declared.instruction.HInst.{HInst}
use Rattle.hard_ir.specs.declared.instruction.HInst.TheVariants.{Cut, Begin, End, Tick, Chk, ChkMem, Mov, Do}
use Rattle.upset_model.specs.declared.blocks.Interval.{Interval}
use Rattle.upset_model.specs.Windows.{same_side, same_reg, is_among, checks, is_between, is_effect, uses, is_copy, copies, checked_before, used_next, copied_next, is_window, in_window}
use Rattle.upset_model.specs.Intervals.{is_in, used_by, where_between, number_if, first_checked, index_if, copies_from, on_side, after_check, checked_intervals, intervals_if, effect_intervals, intervals_at, intervals_from, intervals_of, same_mode, holds, is_held}

-- ---- tests of numbers

at-most : (a b : ℕ) → a ≤ b → nat_le a b ≡ true
at-most a b h = grind (arith, nat_tests)

over : (a b : ℕ) → b < a → nat_le a b ≡ false
over a b h = grind (arith, nat_tests)

-- ---- truth tables

and-none : (b : Bool) → (b && false) ≡ false
and-none true = refl
and-none false = refl

and-all : (b : Bool) → (b && true) ≡ b
and-all true = refl
and-all false = refl

or-none : (b : Bool) → (b || false) ≡ b
or-none true = refl
or-none false = refl

or-all : (b : Bool) → (b || true) ≡ true
or-all true = refl
or-all false = refl

and-in : (a b c : Bool) → (a && (b && c)) ≡ ((a && b) && c)
and-in true b c = refl
and-in false b c = refl

swapped : (a b c d : Bool) → ((a || b) || (c || d)) ≡ ((a || c) || (b || d))
swapped true b c d = refl
swapped false true c d = sym (or-all c)
swapped false false c d = refl

shared : (u p between un : Bool) → ((u && p) || ((between && p) && un)) ≡ (p && (u || (between && un)))
shared true true between un = refl
shared false true true un = refl
shared false true false un = refl
shared true false true un = refl
shared true false false un = refl
shared false false true un = refl
shared false false false un = refl

joined : (u a b between un c k copy cn : Bool)
    → (((u && (a && b)) || (c && k)) || ((((between && a) && b) && un) || ((copy && k) && cn)))
    ≡ (((a && b) && (u || (between && un))) || (k && (c || (copy && cn))))
joined u a b between un c k copy cn =
    ap (λ (p : Bool). ((u && (a && b)) || (c && k)) || ((p && un) || ((copy && k) && cn))) (sym (and-in between a b))
    ∙ swapped (u && (a && b)) (c && k) ((between && (a && b)) && un) ((copy && k) && cn)
    ∙ ap (λ (p : Bool). p || ((c && k) || ((copy && k) && cn))) (shared u (a && b) between un)
    ∙ ap (λ (p : Bool). ((a && b) && (u || (between && un))) || p) (shared c k copy cn)

-- ---- checks in what was passed

check-between : (inside : Bool) (r : HReg) (inst : HInst) → is_between inst ≡ false → checks inside r inst ≡ false
check-between inside r Cut e = refl
check-between inside r Begin e = refl
check-between inside r End e = refl
check-between inside r (Tick work) e = refl
check-between inside r (Chk when ty reg) e = absurd cc
check-between inside r (ChkMem ty ptr val) e = absurd cc
check-between inside r (Mov ty reg) e = refl
check-between inside r (Do side inst retires) e = refl

-- a check stands before an index
abbrev stands_before : Option ℕ → ℕ → Bool
stands_before None q = false
stands_before (Some check) q = nat_le (suc check) q

module _ (inside : Bool) (r : HReg) where
  -- the check of an instruction and of those before it
  abbrev Lies : Option ℕ → ℕ → Type 0
  Lies None n = Unit {0}
  Lies (Some check) n = check < n

  lies-or : (between checked : Bool) (found : Option ℕ) (n : ℕ) → Lies found n → Lies (where_between between (option_or found (number_if checked n))) (suc n)
  lies-or true checked (Some check) n h = omega (arith, h)
  lies-or true true None n h = omega arith
  lies-or true false None n h = tt
  lies-or false checked found n h = tt

  check-lies : (passed : List HInst) → Lies (first_checked inside r passed) (length passed)
  check-lies [] = tt
  check-lies (inst ∷ passed) =
      lies-or (is_between inst) (checks inside r inst) (first_checked inside r passed) (length passed) (check-lies passed)

  -- what was passed, but for the last so many, has a check with only checks and `end` after it up to here
  abbrev checked_behind : ℕ → List HInst → Bool
  checked_behind d passed = list_all is_between (take d passed) && checked_before inside r (drop d passed)

  here-or : (between checked before : Bool) (found : Option ℕ) (n : ℕ) → (between ≡ false → checked ≡ false) → Lies found n
      → stands_before found n ≡ before
      → stands_before (where_between between (option_or found (number_if checked n))) (suc n) ≡ (checked || (between && before))
  here-or true true before (Some check) n off h e = at-most (suc check) (suc n) (omega (arith, h))
  here-or true false before (Some check) n off h e =
      at-most (suc check) (suc n) (omega (arith, h)) ∙ sym (at-most (suc check) n (omega (arith, h))) ∙ e
  here-or true true before None n off h e = at-most (suc n) (suc n) (omega arith)
  here-or true false before None n off h e = e
  here-or false true before found n off h e = absurd cc (off refl)
  here-or false false before found n off h e = refl

  later-or : (between checked before : Bool) (found : Option ℕ) (n q : ℕ) → q ≤ n → (between ≡ false → checked ≡ false)
      → stands_before found q ≡ before
      → stands_before (where_between between (option_or found (number_if checked n))) q ≡ (between && before)
  later-or true checked before (Some check) n q few off e = e
  later-or true true before None n q few off e = over (suc n) q (omega arith) ∙ e
  later-or true false before None n q few off e = e
  later-or false checked before found n q few off e = refl

  check-is : (passed : List HInst) (d q : ℕ) → q + d ≡ length passed
      → stands_before (first_checked inside r passed) q ≡ checked_behind d passed
  check-is [] zero q e = refl
  check-is [] (suc d) q e = absurd (omega arith)
  check-is (inst ∷ passed) zero q e =
      let at : q ≡ suc (length passed) = omega arith in
      let rest : stands_before (first_checked inside r passed) (length passed) ≡ checked_before inside r passed =
      check-is passed zero (length passed) (omega arith) in
      ap (stands_before (first_checked inside r (inst ∷ passed))) at
      ∙ here-or (is_between inst) (checks inside r inst) (checked_before inside r passed) (first_checked inside r passed) (length passed)
      (check-between inside r inst) (check-lies passed) rest
  check-is (inst ∷ passed) (suc d) q e =
      later-or (is_between inst) (checks inside r inst) (checked_behind d passed) (first_checked inside r passed) (length passed) q
      (omega arith) (check-between inside r inst) (check-is passed d q (omega arith))
      ∙ and-in (is_between inst) (list_all is_between (take d passed)) (checked_before inside r (drop d passed))

-- ---- copies in what was passed

copies-few : (passed : List HInst) → copies_from passed ≤ length passed
copies-few [] = omega arith
copies-few (inst ∷ passed) = by (is_copy inst) (copies-few passed)
  where
    by : (copy : Bool) → copies_from passed ≤ length passed → index_if copy (copies_from passed) (suc (length passed)) ≤ suc (length passed)
    by true h = omega (arith, h)
    by false h = omega arith

copied-is : (passed : List HInst) (d q : ℕ) → q + d ≡ length passed → nat_le (copies_from passed) q ≡ list_all is_copy (take d passed)
copied-is [] zero q e = at-most 0 q (omega arith)
copied-is [] (suc d) q e = absurd (omega arith)
copied-is (inst ∷ passed) zero q e = at-most (copies_from (inst ∷ passed)) q (omega (arith, copies-few (inst ∷ passed)))
copied-is (inst ∷ passed) (suc d) q e = by (is_copy inst) (copied-is passed d q (omega arith))
  where
    by : (copy : Bool) → nat_le (copies_from passed) q ≡ list_all is_copy (take d passed)
        → nat_le (index_if copy (copies_from passed) (suc (length passed))) q ≡ (copy && list_all is_copy (take d passed))
    by true h = h
    by false h = over (suc (length passed)) q (omega arith)

-- ---- registers

same-sides : (a b : Side) → same_side a b ≡ true → a ≡ b
same-sides M M e = refl
same-sides M S e = absurd cc
same-sides S M e = absurd cc
same-sides S S e = refl

same-regs : (a b : HReg) → same_reg a b ≡ true → a ≡ b
same-regs a b e = by (same_side a.side b.side) refl
  where
    by : (same : Bool) → same_side a.side b.side ≡ same → a ≡ b
    by true s =
        let sides : a.side ≡ b.side = same-sides a.side b.side s in
        let numbers : a.loc.0 ≡ b.loc.0 =
        eqb-true a.loc.0 b.loc.0 (sym (ap (λ (same : Bool). same && nat_eq a.loc.0 b.loc.0) s) ∙ e) in
        let with_side : Side → HReg = λ side. record { side = side; loc = a.loc } in
        let with_number : ℕ → HReg = λ n. record { side = b.side; loc = record { 0 = n } } in
        ap with_side sides ∙ ap with_number numbers
    by false s = absurd (let none : false ≡ true = sym (ap (λ (same : Bool). same && nat_eq a.loc.0 b.loc.0) s) ∙ e in cc)

-- those that an effect uses
used-regs : (inside edge_checked : Bool) (r : HReg) (side : Side) (inst : Inst)
    → (is_effect inside edge_checked inst && is_among r side (used_by inst)) ≡ (is_effect inside edge_checked inst && is_among r side (regs_in inst))
used-regs inside edge_checked r side (insts.Bin dst op flags w a b) = refl
used-regs inside edge_checked r side (insts.Cmp dst pred ty a b) = refl
used-regs inside edge_checked r side (insts.Select dst cond ty a b) = refl
used-regs inside edge_checked r side (insts.Cast dst op from a to) = refl
used-regs inside edge_checked r side (insts.Gep dst base ptr index) = refl
used-regs inside edge_checked r side (insts.Alloca dst ty) = refl
used-regs inside edge_checked r side (insts.Load dst ty ptr atomic) = refl
used-regs inside edge_checked r side (insts.Store ty val ptr atomic) = refl
used-regs inside edge_checked r side (insts.Rmw dst op ptr ty val) = refl
used-regs inside edge_checked r side (insts.CmpXchg dst ptr ty old new) = refl
used-regs inside edge_checked r side insts.Fence = refl
used-regs inside edge_checked r side (insts.Extract dst elem pair index) = refl
used-regs inside edge_checked r side (insts.Call dst ret callee args) = refl
used-regs inside edge_checked r side (insts.Phi dst ty arms) = refl
used-regs inside edge_checked r side (insts.Br to) = refl
used-regs inside edge_checked r side (insts.CondBr cond on_true on_false) = refl
used-regs inside edge_checked r side (insts.Switch ty on default cases) = refl
used-regs inside edge_checked r side (insts.Ret ty val) = refl
used-regs inside edge_checked r side insts.Unreachable = refl

-- ---- the intervals of one instruction

module _ (r : HReg) (inside : Bool) (q : ℕ) where
  -- of a register that an effect uses
  after-held : (mode : Bool) (n : ℕ) (reg : HReg) (found : Option ℕ) → q ≤ n
      → is_held r inside q (after_check reg mode n found) ≡ (same_reg r reg && (same_mode inside mode && stands_before found q))
  after-held mode n reg None h = sym (by (same_reg r reg) (same_mode inside mode))
    where
      by : (a b : Bool) → (a && (b && false)) ≡ false
      by true true = refl
      by true false = refl
      by false b = refl
  after-held mode n reg (Some check) h =
      or-none (holds r inside q (record { reg = reg; inside = mode; from = suc check; until = n }))
      ∙ ap (λ (b : Bool). same_reg r reg && (same_mode inside mode && (nat_le (suc check) q && b))) (at-most q n h)
      ∙ ap (λ (b : Bool). same_reg r reg && (same_mode inside mode && b)) (and-all (nat_le (suc check) q))

  -- which is the register itself
  own-held : (mode : Bool) (reg : HReg) (passed : List HInst)
      → (same_reg r reg && (same_mode inside mode && stands_before (first_checked mode reg passed) q))
      ≡ (same_reg r reg && (same_mode inside mode && stands_before (first_checked mode r passed) q))
  own-held mode reg passed = by (same_reg r reg) refl
    where
      by : (same : Bool) → same_reg r reg ≡ same
          → (same && (same_mode inside mode && stands_before (first_checked mode reg passed) q))
          ≡ (same && (same_mode inside mode && stands_before (first_checked mode r passed) q))
      by true s = ap (λ (reg : HReg). same_mode inside mode && stands_before (first_checked mode reg passed) q) (sym (same-regs r reg s))
      by false s = refl

  gathered : (s m a b t : Bool) → (((s && a) && (m && t)) || (m && ((s && b) && t))) ≡ (m && ((s && (a || b)) && t))
  gathered false true a b t = refl
  gathered false false a b t = refl
  gathered true true true b true = refl
  gathered true true true b false = and-none b
  gathered true true false b t = refl
  gathered true false a b t = ap (λ (x : Bool). x || false) (and-none a)

  checked-held : (mode : Bool) (side : Side) (passed : List HInst) (regs : List Loc) → q ≤ length passed
      → is_held r inside q (checked_intervals mode side passed regs)
      ≡ (same_mode inside mode && (is_among r side regs && stands_before (first_checked mode r passed) q))
  checked-held mode side passed [] h = sym (by (same_mode inside mode) (same_side r.side side))
    where
      by : (a b : Bool) → (a && ((b && false) && stands_before (first_checked mode r passed) q)) ≡ false
      by true true = refl
      by true false = refl
      by false b = refl
  checked-held mode side passed (reg ∷ regs) h =
      let first : List Interval = after_check (on_side side reg) mode (length passed) (first_checked mode (on_side side reg) passed) in
      let rest : List Interval = checked_intervals mode side passed regs in
      let held : is_held r inside q first
      ≡ (same_reg r (on_side side reg) && (same_mode inside mode && stands_before (first_checked mode r passed) q)) =
      after-held mode (length passed) (on_side side reg) (first_checked mode (on_side side reg) passed) h ∙ own-held mode (on_side side reg) passed in
      list_any-append (holds r inside q) first rest
      ∙ ap (λ (b : Bool). b || is_held r inside q rest) held
      ∙ ap (λ (b : Bool). (same_reg r (on_side side reg) && (same_mode inside mode && stands_before (first_checked mode r passed) q)) || b)
      (checked-held mode side passed regs h)
      ∙ gathered (same_side r.side side) (same_mode inside mode) (nat_eq r.loc.0 reg.0) (is_in r.loc regs) (stands_before (first_checked mode r passed) q)

  -- of an effect in a mode
  effect-held : (edge_checked mode : Bool) (side : Side) (passed : List HInst) (inst : Inst) → q ≤ length passed
      → is_held r inside q (effect_intervals edge_checked mode side passed inst)
      ≡ (same_mode inside mode && ((is_effect mode edge_checked inst && is_among r side (regs_in inst)) && stands_before (first_checked mode r passed) q))
  effect-held edge_checked mode side passed inst h =
      by (is_effect mode edge_checked inst)
      ∙ ap (λ (b : Bool). same_mode inside mode && (b && stands_before (first_checked mode r passed) q)) (used-regs mode edge_checked r side inst)
    where
      by : (effect : Bool) → is_held r inside q (intervals_if effect mode side passed (used_by inst))
          ≡ (same_mode inside mode && ((effect && is_among r side (used_by inst)) && stands_before (first_checked mode r passed) q))
      by true = checked-held mode side passed (used_by inst) h
      by false = sym (and-none (same_mode inside mode))

  -- in the mode that is asked for
  own-mode : (f : Bool → Bool) (b : Bool) → ((same_mode b false && f false) || (same_mode b true && f true)) ≡ f b
  own-mode f true = refl
  own-mode f false = or-none (f false)

  -- of an instruction, from an index so far before it
  at-held : (edge_checked : Bool) (passed : List HInst) (inst : HInst) (d : ℕ) → q + d ≡ length passed
      → is_held r inside q (intervals_at edge_checked passed inst)
      ≡ ((uses inside edge_checked r inst && checked_behind inside r d passed) || (copies r inst && list_all is_copy (take d passed)))
  at-held edge_checked passed Cut d e = refl
  at-held edge_checked passed Begin d e = refl
  at-held edge_checked passed End d e = refl
  at-held edge_checked passed (Tick work) d e = refl
  at-held edge_checked passed (Chk when ty reg) d e = refl
  at-held edge_checked passed (ChkMem ty ptr val) d e = refl
  at-held edge_checked passed (Mov ty reg) d e =
      by (same_reg r (on_side M reg)) inside (nat_le (copies_from passed) q) (nat_le q (length passed)) (at-most q (length passed) (omega (arith, e)))
      ∙ ap (λ (b : Bool). same_reg r (on_side M reg) && b) (copied-is passed d q e)
    where
      by : (s m f u : Bool) → u ≡ true
          → ((s && (same_mode m false && (f && u))) || ((s && (same_mode m true && (f && u))) || false)) ≡ (s && f)
      by false m f u on = refl
      by true true f u on = or-none (f && u) ∙ ap (λ (b : Bool). f && b) on ∙ and-all f
      by true false f u on = or-none (f && u) ∙ ap (λ (b : Bool). f && b) on ∙ and-all f
  at-held edge_checked passed (Do side inst retires) d e =
      let few : q ≤ length passed = omega (arith, e) in
      let outside : List Interval = effect_intervals edge_checked false side passed inst in
      let within : List Interval = effect_intervals edge_checked true side passed inst in
      let held : Bool → Bool = λ mode. (is_effect mode edge_checked inst && is_among r side (regs_in inst)) && stands_before (first_checked mode r passed) q in
      list_any-append (holds r inside q) outside within
      ∙ ap (λ (b : Bool). b || is_held r inside q within) (effect-held edge_checked false side passed inst few)
      ∙ ap (λ (b : Bool). (same_mode inside false && held false) || b) (effect-held edge_checked true side passed inst few)
      ∙ own-mode held inside
      ∙ ap (λ (b : Bool). (is_effect inside edge_checked inst && is_among r side (regs_in inst)) && b) (check-is inside r passed d q e)
      ∙ sym (or-none ((is_effect inside edge_checked inst && is_among r side (regs_in inst)) && checked_behind inside r d passed))

  -- past an instruction it has none
  after-ends : (mode : Bool) (n : ℕ) (reg : HReg) (found : Option ℕ) → n < q → is_held r inside q (after_check reg mode n found) ≡ false
  after-ends mode n reg None h = refl
  after-ends mode n reg (Some check) h = ended (same_reg r reg) (same_mode inside mode) (nat_le (suc check) q) (nat_le q n) (over q n h)
    where
      ended : (s m f u : Bool) → u ≡ false → ((s && (m && (f && u))) || false) ≡ false
      ended false m f u off = refl
      ended true false f u off = refl
      ended true true false u off = refl
      ended true true true u off = or-none u ∙ off

  checked-ends : (mode : Bool) (side : Side) (passed : List HInst) (regs : List Loc) → length passed < q
      → is_held r inside q (checked_intervals mode side passed regs) ≡ false
  checked-ends mode side passed [] h = refl
  checked-ends mode side passed (reg ∷ regs) h =
      let first : List Interval = after_check (on_side side reg) mode (length passed) (first_checked mode (on_side side reg) passed) in
      let rest : List Interval = checked_intervals mode side passed regs in
      list_any-append (holds r inside q) first rest
      ∙ ap (λ (b : Bool). b || is_held r inside q rest) (after-ends mode (length passed) (on_side side reg) (first_checked mode (on_side side reg) passed) h)
      ∙ checked-ends mode side passed regs h

  effect-ends : (edge_checked mode : Bool) (side : Side) (passed : List HInst) (inst : Inst) → length passed < q
      → is_held r inside q (effect_intervals edge_checked mode side passed inst) ≡ false
  effect-ends edge_checked mode side passed inst h = by (is_effect mode edge_checked inst)
    where
      by : (effect : Bool) → is_held r inside q (intervals_if effect mode side passed (used_by inst)) ≡ false
      by true = checked-ends mode side passed (used_by inst) h
      by false = refl

  at-ends : (edge_checked : Bool) (passed : List HInst) (inst : HInst) → length passed < q
      → is_held r inside q (intervals_at edge_checked passed inst) ≡ false
  at-ends edge_checked passed Cut h = refl
  at-ends edge_checked passed Begin h = refl
  at-ends edge_checked passed End h = refl
  at-ends edge_checked passed (Tick work) h = refl
  at-ends edge_checked passed (Chk when ty reg) h = refl
  at-ends edge_checked passed (ChkMem ty ptr val) h = refl
  at-ends edge_checked passed (Mov ty reg) h =
      ended (same_reg r (on_side M reg)) (same_mode inside false) (same_mode inside true) (nat_le (copies_from passed) q)
      (nat_le q (length passed)) (over q (length passed) h)
    where
      ended : (s m n f u : Bool) → u ≡ false → ((s && (m && (f && u))) || ((s && (n && (f && u))) || false)) ≡ false
      ended false m n f u off = refl
      ended true m n false u off = rw (and-none m, and-none n) refl
      ended true m n true u off = rw (off, and-none m, and-none n) refl
  at-ends edge_checked passed (Do side inst retires) h =
      list_any-append (holds r inside q) (effect_intervals edge_checked false side passed inst) (effect_intervals edge_checked true side passed inst)
      ∙ ap (λ (b : Bool). b || is_held r inside q (effect_intervals edge_checked true side passed inst)) (effect-ends edge_checked false side passed inst h)
      ∙ effect-ends edge_checked true side passed inst h

  -- ---- those of a list

  -- what is left makes a window from an index so far back
  abbrev window_behind : Bool → ℕ → List HInst → List HInst → Bool
  window_behind edge_checked d passed code =
      (checked_behind inside r d passed && used_next inside edge_checked r code) || (list_all is_copy (take d passed) && copied_next r code)

  behind : (edge_checked : Bool) (code passed : List HInst) (d : ℕ) → q + d ≡ length passed
      → is_held r inside q (intervals_from edge_checked passed code) ≡ window_behind edge_checked d passed code
  behind edge_checked [] passed d e = sym (rw (and-none (checked_behind inside r d passed), and-none (list_all is_copy (take d passed))) refl)
  behind edge_checked (inst ∷ code) passed d e =
      list_any-append (holds r inside q) (intervals_at edge_checked passed inst) (intervals_from edge_checked (inst ∷ passed) code)
      ∙ ap (λ (b : Bool). b || is_held r inside q (intervals_from edge_checked (inst ∷ passed) code)) (at-held edge_checked passed inst d e)
      ∙ ap (λ (b : Bool). ((uses inside edge_checked r inst && checked_behind inside r d passed) || (copies r inst && list_all is_copy (take d passed))) || b)
      (behind edge_checked code (inst ∷ passed) (suc d) (omega (arith, e)))
      ∙ joined (uses inside edge_checked r inst) (list_all is_between (take d passed)) (checked_before inside r (drop d passed)) (is_between inst)
      (used_next inside edge_checked r code) (copies r inst) (list_all is_copy (take d passed)) (is_copy inst) (copied_next r code)

module _ (r : HReg) (inside edge_checked : Bool) where
  ahead : (e : ℕ) (code passed : List HInst)
      → is_held r inside (length passed + e) (intervals_from edge_checked passed code)
      ≡ is_window inside edge_checked r (reverse (take e code) ++ passed) (drop e code)
  ahead zero code passed = behind r inside (length passed + 0) edge_checked code passed 0 (omega arith)
  ahead (suc e) [] passed = sym (rw (and-none (checked_before inside r passed)) refl)
  ahead (suc e) (inst ∷ code) passed =
      let q : ℕ = length passed + suc e in
      list_any-append (holds r inside q) (intervals_at edge_checked passed inst) (intervals_from edge_checked (inst ∷ passed) code)
      ∙ ap (λ (b : Bool). b || is_held r inside q (intervals_from edge_checked (inst ∷ passed) code))
      (at-ends r inside q edge_checked passed inst (omega arith))
      ∙ ap (λ (q : ℕ). is_held r inside q (intervals_from edge_checked (inst ∷ passed) code)) moved
      ∙ ahead e code (inst ∷ passed)
      ∙ ap (λ (before : List HInst). is_window inside edge_checked r before (drop e code)) turned
    where
      moved : length passed + suc e ≡ suc (length passed) + e
      moved = omega arith

      turned : reverse (take e code) ++ inst ∷ passed ≡ reverse (inst ∷ take e code) ++ passed
      turned = sym (ap (λ (before : List HInst). before ++ passed) (reverse_onto (take e code) inst []) ∙ append_assoc (reverse (take e code)) (inst ∷ []) passed)

  -- the law
  pub windows-held : (list : List HInst) (q : ℕ) → is_held r inside q (intervals_of edge_checked list) ≡ in_window inside edge_checked r list q
  windows-held list q =
      ap (λ (n : ℕ). is_held r inside n (intervals_of edge_checked list)) (omega arith)
      ∙ ahead q list []
      ∙ ap (λ (before : List HInst). is_window inside edge_checked r before (drop q list)) (append-nil (reverse (take q list)))
