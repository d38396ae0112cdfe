-- Code whose first tick is one greater is an image of the same instructions, and fits and stands as it did.
use Rattle.std.proofs.Common.{ℕ, zero, suc, ◌≡◌, ◌∙◌, ◌+◌, ◌<◌, Bool, true, false, List, [], ◌∷◌, ◌++◌, map, length, refl, ap, arith}
use Rattle.std.specs.Prelude.{nat_lt}
use Rattle.std.specs.List.{list_all}
use Rattle.std.proofs.lemmas.Bool.Decides.{nat_tests}
use Rattle.ir_core.proofs.Lengths.{both_true}
use Rattle.ir_core.specs.declared.instruction.Inst.{Inst}
use Rattle.ir_core.specs.declared.instruction.Block.{Block}
use Rattle.ir_core.specs.Module.{ModuleParts, FuncParts}
use Rattle.ir_flow.specs.Edges.{edges_of, is_loop_head}
use Rattle.hard_ir.specs.declared.instruction.HInst.{HInst}
use Rattle.hard_ir.specs.declared.instruction.HInst.TheVariants.{Cut, Begin, End, Tick, Chk, ChkMem, Mov, Do}
use Rattle.hard_ir.specs.Image.{leaves, placed, tick_if, row, split_table, ticked}
use Rattle.hard_ir.specs.Hardened.{at_entry, at_head, hard_block}
use Rattle.hard_ir.specs.Facts.{list_limit}
use Rattle.hard_ir.specs.Images.{cuts_onto, Rows, NoRow, PhiRow, Row, is_small, IsCode}
use Rattle.hard_ir.specs.EdgeChecks.{first_tick_raised}
use Rattle.hard_laws.proofs.HardLines.{both}
use Rattle.hard_laws.proofs.ImageRows.{is_tickless, placed-tickless, entry-tickless, head-tickless, is_under, ticked-under, ticked-length, ticked-code}
use Rattle.hard_laws.proofs.Numbered.{bare}
use Rattle.hard_ir.specs.Fit.{plain_inst}

-- ---- rows

pub raised-behind : (xs ys : List HInst) → list_all is_tickless xs ≡ true → first_tick_raised (xs ++ ys) ≡ xs ++ first_tick_raised ys
raised-behind [] ys e = refl
raised-behind (x ∷ xs) ys e = by_item x (both_true (is_tickless x) (list_all is_tickless xs) e).0 (raised-behind xs ys (both_true (is_tickless x) (list_all is_tickless xs) e).1)
  where
    by_item : (x : HInst) → is_tickless x ≡ true → first_tick_raised (xs ++ ys) ≡ xs ++ first_tick_raised ys → first_tick_raised (x ∷ xs ++ ys) ≡ x ∷ xs ++ first_tick_raised ys
    by_item (Tick work) t rest = cc
    by_item (Do side inst retires) t rest = ap (λ (items : List HInst). Do side inst retires ∷ items) rest
    by_item (Mov ty reg) t rest = ap (λ (items : List HInst). Mov ty reg ∷ items) rest
    by_item (Chk when ty reg) t rest = ap (λ (items : List HInst). Chk when ty reg ∷ items) rest
    by_item (ChkMem ty ptr val) t rest = ap (λ (items : List HInst). ChkMem ty ptr val ∷ items) rest
    by_item Cut t rest = ap (λ (items : List HInst). Cut ∷ items) rest
    by_item Begin t rest = ap (λ (items : List HInst). Begin ∷ items) rest
    by_item End t rest = ap (λ (items : List HInst). End ∷ items) rest

raised-cuts : (cuts : ℕ) (rest : List HInst) → first_tick_raised (cuts_onto cuts rest) ≡ cuts_onto cuts (first_tick_raised rest)
raised-cuts zero rest = refl
raised-cuts (suc cuts) rest = ap (λ (code : List HInst). Cut ∷ Begin ∷ code) (raised-cuts cuts rest)

module _ (m : ModuleParts) where
  -- a row with another number, or other rest
  record RaisedRow (inst : Inst) (work : ℕ) (behind : List Inst) (rest : List HInst) : Type 0 where
    other : ℕ
    after : List HInst
    is : first_tick_raised (row m work inst ++ rest) ≡ row m other inst ++ after
    rows : Rows m behind after

  raised-row : (inst : Inst) (work : ℕ) (behind : List Inst) (rest : List HInst) → Rows m behind rest → Rows m behind (first_tick_raised rest) → RaisedRow inst work behind rest
  raised-row inst work behind rest rows more = let found = by_kind (leaves inst) in record { other = found.0; after = found.1; is = found.2; rows = found.3 }
    where
      by_kind : (b : Bool) → (other : ℕ) × (after : List HInst) × (first_tick_raised ((tick_if b work ++ placed m inst) ++ rest) ≡ (tick_if b other ++ placed m inst) ++ after) × Rows m behind after
      by_kind true = (work + 1, rest, refl, rows)
      by_kind false = (0, first_tick_raised rest, raised-behind (placed m inst) rest (placed-tickless m inst), more)

  raised-rows : {body : List Inst} {code : List HInst} → Rows m body code → Rows m body (first_tick_raised code)
  raised-rows (NoRow e f) = NoRow e (ap first_tick_raised f)
  raised-rows (PhiRow phi behind e p rest) = PhiRow phi behind e p (raised-rows rest)
  raised-rows (Row inst behind cuts work rest e p f rows) =
      let own = raised-row inst work behind rest rows (raised-rows rows) in
      Row inst behind cuts own.other own.after e p (ap first_tick_raised f ∙ raised-cuts cuts (row m work inst ++ rest) ∙ ap (cuts_onto cuts) own.is) own.rows

  -- ---- numbers

  small-raised : (list : List HInst) → list_all (is_under list_limit) list ≡ true → list_all is_small (first_tick_raised list) ≡ true
  small-raised [] e = refl
  small-raised (item ∷ list) e =
      let parts = both_true (is_under list_limit item) (list_all (is_under list_limit) list) e in by_item item parts.0 (small-raised list parts.1) (small list parts.1)
    where
      small : (list : List HInst) → list_all (is_under list_limit) list ≡ true → list_all is_small list ≡ true
      small [] e = refl
      small (item ∷ list) e = let parts = both_true (is_under list_limit item) (list_all (is_under list_limit) list) e in both (by_kind item parts.0) (small list parts.1)
        where
          by_kind : (item : HInst) → is_under list_limit item ≡ true → is_small item ≡ true
          by_kind (Tick work) h = let less : nat_lt work 4294967296 ≡ true = grind (arith, nat_tests) in less
          by_kind (Do side inst retires) h = refl
          by_kind (Mov ty reg) h = refl
          by_kind (Chk when ty reg) h = refl
          by_kind (ChkMem ty ptr val) h = refl
          by_kind Cut h = refl
          by_kind Begin h = refl
          by_kind End h = refl

      by_item : (item : HInst) → is_under list_limit item ≡ true → list_all is_small (first_tick_raised list) ≡ true → list_all is_small list ≡ true → list_all is_small (first_tick_raised (item ∷ list)) ≡ true
      by_item (Tick work) h rest same = let less : nat_lt (work + 1) 4294967296 ≡ true = grind (arith, nat_tests) in both less same
      by_item (Do side inst retires) h rest same = rest
      by_item (Mov ty reg) h rest same = rest
      by_item (Chk when ty reg) h rest same = rest
      by_item (ChkMem ty ptr val) h rest same = rest
      by_item Cut h rest same = rest
      by_item Begin h rest same = rest
      by_item End h rest same = rest

  abbrev coded : FuncParts → ℕ → Block → List HInst
  coded f b block = (hard_block (split_table m) f b block).list

  -- the code of a block, its first tick raised
  pub raised-code : (f : FuncParts) (b : ℕ) (block : Block) → length (ticked 0 (coded f b block)) < list_limit → IsCode m f b block (first_tick_raised (ticked 0 (coded f b block)))
  raised-code f b block short =
      let was = ticked-code m f b block short in
      let entry = at_entry (split_table m) f b in
      let head = at_head (split_table m) (is_loop_head (edges_of f).pairs b) in
      let same = ticked-length 0 (coded f b block) in
      record {
        rest = first_tick_raised was.rest;
        is = ap first_tick_raised was.is ∙ raised-behind entry (head ++ was.rest) (entry-tickless m f b)
            ∙ ap (λ (code : List HInst). entry ++ code) (raised-behind head was.rest (head-tickless m (is_loop_head (edges_of f).pairs b)));
        rows = raised-rows was.rows;
        small = small-raised (ticked 0 (coded f b block)) (ticked-under list_limit 0 (coded f b block) (omega (arith, same, short)));
      }

-- ---- what doesn't depend on numbers

pub bare-raised : (list : List HInst) → map bare (first_tick_raised list) ≡ map bare list
bare-raised [] = refl
bare-raised (item ∷ list) = by_item item (bare-raised list)
  where
    by_item : (item : HInst) → map bare (first_tick_raised list) ≡ map bare list → map bare (first_tick_raised (item ∷ list)) ≡ map bare (item ∷ list)
    by_item (Tick work) rest = refl
    by_item (Do side inst retires) rest = ap (λ (items : List HInst). Do side inst retires ∷ items) rest
    by_item (Mov ty reg) rest = ap (λ (items : List HInst). Mov ty reg ∷ items) rest
    by_item (Chk when ty reg) rest = ap (λ (items : List HInst). Chk when ty reg ∷ items) rest
    by_item (ChkMem ty ptr val) rest = ap (λ (items : List HInst). ChkMem ty ptr val ∷ items) rest
    by_item Cut rest = ap (λ (items : List HInst). Cut ∷ items) rest
    by_item Begin rest = ap (λ (items : List HInst). Begin ∷ items) rest
    by_item End rest = ap (λ (items : List HInst). End ∷ items) rest

pub plain-raised : (list : List HInst) → map plain_inst (first_tick_raised list) ≡ map plain_inst list
plain-raised [] = refl
plain-raised (item ∷ list) = by_item item (plain-raised list)
  where
    by_item : (item : HInst) → map plain_inst (first_tick_raised list) ≡ map plain_inst list → map plain_inst (first_tick_raised (item ∷ list)) ≡ map plain_inst (item ∷ list)
    by_item (Tick work) rest = refl
    by_item (Do side inst retires) rest = ap (λ (items : List Inst). inst ∷ items) rest
    by_item (Mov ty reg) rest = ap (λ (items : List Inst). plain_inst (Mov ty reg) ∷ items) rest
    by_item (Chk when ty reg) rest = ap (λ (items : List Inst). plain_inst (Chk when ty reg) ∷ items) rest
    by_item (ChkMem ty ptr val) rest = ap (λ (items : List Inst). plain_inst (ChkMem ty ptr val) ∷ items) rest
    by_item Cut rest = ap (λ (items : List Inst). plain_inst Cut ∷ items) rest
    by_item Begin rest = ap (λ (items : List Inst). plain_inst Begin ∷ items) rest
    by_item End rest = ap (λ (items : List Inst). plain_inst End ∷ items) rest
