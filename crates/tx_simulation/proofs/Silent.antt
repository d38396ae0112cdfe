-- Turns that do nothing of the source: marks of transactions, ticks, and checks of registers.
--
-- Choice: what a check that is active asks is said by its caller, since it stands at three kinds of points.
use Rattle.std.proofs.Common.{ℕ, zero, suc, ◌≡◌, ◌∙◌, ◌+◌, ◌%◌, ◌^◌, Bool, true, false, not, ◌||◌, List, [], ◌∷◌, ◌++◌, take, drop, reverse, length, min, Option, Some, None, slice_get, refl, ap, sym, subst, inl, nat_eq}
use mathlib.Core.Path.{fun_ext}
use Rattle.std.specs.Prelude.{nat_lt, nat_le}
use Rattle.std.specs.List.{flat_map, list_any}
use Rattle.std.specs.Option.{option_map, option_map_or, is_some}
use Rattle.std.proofs.lemmas.Bool.{eqb-true, eqb-false, eq-eqb}
use Rattle.std.proofs.lemmas.List.{reverse-append}
use Rattle.ir_core.specs.declared.types.Ty.{Ty}
use Rattle.ir_core.specs.declared.types.Loc.{Loc}
use Rattle.ir_core.specs.declared.values.Val.{Val}
use Rattle.ir_core.specs.declared.values.Val.TheVariants as values
use Rattle.ir_core.specs.declared.values.Side.TheVariants.{M, S}
use Rattle.ir_core.specs.declared.instruction.Inst.{Inst}
use Rattle.ir_core.specs.declared.instruction.Inst.TheVariants as insts
use Rattle.ir_core.specs.declared.instruction.Block.{Block}
use Rattle.ir_core.specs.Module.{ModuleParts, FuncParts}
use Rattle.ir_core.specs.Instructions.{is_phi}
use Rattle.ir_flow.specs.Uses.{regs_in}
use Rattle.ir_check.proofs.Members.{IsIn, in-front, in-back, in-flat, next-in, any-in}
use Rattle.mem_image.specs.Bytes.{Memory}
use Rattle.tx_runtime.specs.Words.{tries, threshold, last_count}
use Rattle.rtm_core.specs.Footprint.{nothing_touched, seen_through, written_by}
use Rattle.inst_meaning.specs.declared.actions.Cause.TheVariants.{Unreachable}
use Rattle.inst_meaning.specs.Registers.{get}
use Rattle.process.specs.declared.state.CallStack.{CallStack}
use Rattle.process.specs.declared.state.Thread.{Thread}
use Rattle.process.specs.declared.state.Thread.TheVariants.{Running}
use Rattle.src_meaning.specs.declared.state.Frame.{Frame as SourceFrame}
use Rattle.src_meaning.specs.State as source_state
use Rattle.hard_ir.specs.declared.instruction.When.{When}
use Rattle.hard_ir.specs.declared.instruction.When.TheVariants.{Always, Plain, Tx}
use Rattle.hard_ir.specs.declared.instruction.HInst.{HInst}
use Rattle.hard_ir.specs.declared.instruction.HInst.TheVariants.{Cut, Begin, End, Tick, Chk}
use Rattle.hard_ir.specs.Facts.{register_bits}
use Rattle.hard_ir.specs.Hardened.{HardParts}
use Rattle.hard_ir.specs.Images.{LooseRows, names_in, names_of, is_named}
use Rattle.hard_ir.specs.Lines.{registers_of}
use Rattle.hard_frames.specs.declared.state.Frame.{Frame}
use Rattle.hard_frames.specs.Code.{blocks_at, list_at}
use Rattle.hard_frames.specs.Frames as hard_frame
use Rattle.hard_simulation.proofs.Sides.{Sides, On, IsHurt, on-map, hurt-if, hurt-both, either-on}
use Rattle.hard_simulation.proofs.Points.{source_code, hard_code}
use Rattle.hard_meaning.specs.State.{Transaction, Mode, Free, Inside, Worker, is_inside, seen_in}
use Rattle.hard_meaning.specs.Effects.{with_worker}
use Rattle.hard_meaning.specs.Runtime.{fresh, begun_if, begun, ticked, ended, cut_if}
use Rattle.hard_meaning.specs.Checks.{is_active, same_word}
use Rattle.hard_meaning.specs.Turns.{onward, stepped, agreed, compared, checked}
use Rattle.tx_simulation.proofs.Reading.{word_in}
use Rattle.tx_simulation.proofs.Walks.{lone_start}
use Rattle.tx_simulation.proofs.Lines.{never-both}
use Rattle.tx_simulation.proofs.Points.{IsFree, Stands, At, names_at, past_code, is_edged, AgreeIn, Now, alike, IsThreadOn}
use Rattle.tx_simulation.proofs.Facts.{OkIn, AreNamed, machine_of}
use Rattle.tx_simulation.proofs.Kept.{IsWithin, within-free}
use Rattle.tx_simulation.proofs.Holds.{Holds, moves}
use Rattle.tx_simulation.proofs.Commits.{ends}
use Rattle.tx_simulation.proofs.Scene.{Scene, here, now, seen, AfterTurn, PointAt, goes-on, failing, trapping}

-- ---- lists

take-next : {A : Type 0} (xs : List A) (i : ℕ) (x : A) (rest : List A) → drop i xs ≡ x ∷ rest → take (suc i) xs ≡ take i xs ++ x ∷ []
take-next [] zero x rest e = cc
take-next [] (suc i) x rest e = cc
take-next (y ∷ ys) zero x rest e = let same : y ≡ x = cc in ap (λ (z : _). z ∷ []) same
take-next (y ∷ ys) (suc i) x rest e = ap (λ (zs : List _). y ∷ zs) (take-next ys i x rest e)

-- what a frame has passed once it passed an instruction more
pub past-after : (h : HardParts) (frame : Frame) (inst : HInst) (rest : List HInst) → hard_code h frame ≡ inst ∷ rest
    → past_code h (hard_frame.passed frame) ≡ inst ∷ past_code h frame
past-after h frame inst rest e =
    ap reverse (take-next (list_at (blocks_at h frame.function) frame.block) frame.index inst rest e)
    ∙ reverse-append (take frame.index (list_at (blocks_at h frame.function) frame.block)) (inst ∷ [])

-- ---- marks of transactions, and ticks

module _ (mode : Mode) (c : Scene mode) where
  -- the point of a frame in some mode, over some memory
  abbrev pub PointIn : Mode → Memory → Frame → Type 0
  PointIn k mem frame = Stands c.m (names_at c.m c.a.frame.function) (is_edged c.h frame) c.sides k mem (source_code c.m c.a.frame) c.a.frame.registers
      (past_code c.h frame) (hard_code c.h frame) frame.masters frame.shadows

  -- the frame at the thread's place
  pub record IsHere (frame : Frame) : Type 0 where
    pub function : frame.function ≡ c.b.frame.function
    pub block : frame.block ≡ c.b.frame.block
    pub mark : frame.mark ≡ c.b.frame.mark

  pub thread-on : (k : Mode) (mem : Memory) (frame : Frame) → IsHere frame → PointIn k mem frame
      → IsThreadOn c.m c.h c.sides k mem (Running c.a) (Running (record c.b { frame = frame }))
  thread-on k mem frame is point = record {
    mark = c.mark;
    callers = c.callers;
    frame = record { function = is.function ∙ c.function; block = is.block ∙ c.block; mark = is.mark ∙ c.start; point = point };
  }

  -- it passes its instruction
  pub passes : PointAt mode c (hard_frame.passed c.b.frame) → AfterTurn mode c (with_worker (now mode c) c.t (onward (here mode c) c.b))
  passes point = goes-on mode c (hard_frame.passed c.b.frame) c.v.attempts c.v.counter refl refl refl point

  -- and its work is counted
  pub counts : (work : ℕ) → PointAt mode c (hard_frame.passed c.b.frame) → AfterTurn mode c (stepped c.h (now mode c) c.t (here mode c) c.b (Tick work))
  counts work point = goes-on mode c (hard_frame.passed c.b.frame) c.v.attempts (min last_count (c.v.counter + work)) refl refl refl point

  -- its transaction ends, where it has one, and it stands outside
  pub ends-at : (frame : Frame) → IsHere frame → PointIn (Free false) (seen mode c) frame
      → AfterTurn mode c (ended (now mode c) c.t (here mode c) (record (here mode c) { thread = Running (record c.b { frame = frame }) }))
  ends-at frame is point = ends c.m c.h c.arguments c.good c.s c.workers c.turns c.upsets c.facts c.t c.x c.at c.v (Running c.b) mode c.hard_at c.sides c.hurt
      (Running c.a) c.link (Running (record c.b { frame = frame })) c.v.counter (inl (thread-on (Free false) (seen mode c) frame is point))

  passed-here : IsHere (hard_frame.passed c.b.frame)
  passed-here = record { function = refl; block = refl; mark = refl }

  pub cuts : PointAt mode c (hard_frame.passed c.b.frame) → PointIn (Free false) (seen mode c) (hard_frame.passed c.b.frame)
      → AfterTurn mode c (stepped c.h (now mode c) c.t (here mode c) c.b Cut)
  cuts inside outside = by_work (nat_le threshold c.v.counter)
    where
      by_work : (b : Bool) → AfterTurn mode c (cut_if b (now mode c) c.t (here mode c) (onward (here mode c) c.b))
      by_work true = ends-at (hard_frame.passed c.b.frame) passed-here outside
      by_work false = passes inside

  pub stops-inside : PointIn (Free false) (seen mode c) (hard_frame.passed c.b.frame)
      → AfterTurn mode c (stepped c.h (now mode c) c.t (here mode c) c.b End)
  stops-inside outside = ends-at (hard_frame.passed c.b.frame) passed-here outside

-- ---- begin

within-fresh : (stack : CallStack Frame) → IsWithin (Inside (fresh stack)) (Free false)
within-fresh stack = record { wrote = λ line e. cc; touched = λ line e. cc; watched = λ a e. e }

-- a transaction begins: it keeps the frames as they stand before `begin`
begins : (c : Scene (Free false)) → ((k : Mode) (mem : Memory) → PointIn (Free false) c k mem c.b.frame)
    → ((k : Mode) (mem : Memory) → PointIn (Free false) c k mem (hard_frame.passed c.b.frame))
    → AfterTurn (Free false) c (with_worker (now (Free false) c) c.t (begun_if true c.b (onward (here (Free false) c) c.b)))
begins c before after =
    moves c.m c.h c.arguments c.s c.workers c.turns c.upsets c.facts c.t c.x c.at (here (Free false) c) c.hard_at
    (begun_if true c.b (onward (here (Free false) c) c.b))
    (record {
      sides = c.sides;
      hurt = λ z. let k = c.hurt z in record { number = k.number; carried = k.carried };
      ok = record {
        kept = λ any. subst (λ (x : Thread SourceFrame). IsThreadOn c.m c.h c.sides (Free false) any x (Running c.b)) (sym c.link)
            (thread-on (Free false) c (Free false) any c.b.frame (record { function = refl; block = refl; mark = refl }) (before (Free false) any));
        inner = inl (record {
          now = lone_start c.x;
          ran = refl;
          written = refl;
          accessed = tt;
          held = refl;
          locked = λ a e. e;
          buffers = tt;
          writes = λ at byte e. cc;
          stands = subst (λ (x : Thread SourceFrame). IsThreadOn c.m c.h c.sides (Inside (fresh c.b)) (seen_through nothing_touched c.s.process.memory) x
              (Running (record c.b { frame = hard_frame.passed c.b.frame }))) (sym c.link)
              (thread-on (Free false) c (Inside (fresh c.b)) (seen_through nothing_touched c.s.process.memory) (hard_frame.passed c.b.frame)
              (record { function = refl; block = refl; mark = refl }) (after (Inside (fresh c.b)) (seen_through nothing_touched c.s.process.memory)));
        });
      };
    })
    (within-fresh c.b) (c.facts.all.named c.t (here (Free false) c) c.hard_at)

-- or transactions are given up
gives-up : (c : Scene (Free false)) → ((k : Mode) (mem : Memory) → PointIn (Free false) c k mem (hard_frame.passed c.b.frame))
    → AfterTurn (Free false) c (with_worker (now (Free false) c) c.t (begun_if false c.b (onward (here (Free false) c) c.b)))
gives-up c after =
    moves c.m c.h c.arguments c.s c.workers c.turns c.upsets c.facts c.t c.x c.at (here (Free false) c) c.hard_at
    (begun_if false c.b (onward (here (Free false) c) c.b))
    (record {
      sides = c.sides;
      hurt = λ z. let k = c.hurt z in record { number = k.number; carried = k.carried };
      ok = inl (subst (λ (x : Thread SourceFrame). IsThreadOn c.m c.h c.sides (Free true) c.s.process.memory x
          (Running (record c.b { frame = hard_frame.passed c.b.frame }))) (sym c.link)
          (thread-on (Free false) c (Free true) c.s.process.memory (hard_frame.passed c.b.frame)
          (record { function = refl; block = refl; mark = refl }) (after (Free true) c.s.process.memory)));
    })
    (within-free true (Free false)) (c.facts.all.named c.t (here (Free false) c) c.hard_at)

pub begins-at : (mode : Mode) (c : Scene mode) → ((k : Mode) (mem : Memory) → PointIn mode c k mem c.b.frame)
    → ((k : Mode) (mem : Memory) → PointIn mode c k mem (hard_frame.passed c.b.frame))
    → AfterTurn mode c (stepped c.h (now mode c) c.t (here mode c) c.b Begin)
begins-at (Free false) c before after = by_tries (nat_lt c.v.attempts tries)
  where
    by_tries : (b : Bool) → AfterTurn (Free false) c (with_worker (now (Free false) c) c.t (begun_if b c.b (onward (here (Free false) c) c.b)))
    by_tries true = begins c before after
    by_tries false = gives-up c after
begins-at (Free true) c before after = passes (Free true) c (after (Free true) (seen (Free true) c))
begins-at (Inside tx) c before after = passes (Inside tx) c (after (Inside tx) (seen (Inside tx) c))

-- ---- checks of registers

module _ (mode : Mode) (c : Scene mode) where
  -- what a check asks: a point behind it where it isn't active, and where both words are the same; and else that outside the thread is hurt
  pub record AsksOf (when : When) (ty : Ty) (reg : Loc) : Type 0 where
    pub off : is_active when (is_inside mode) ≡ false → PointAt mode c (hard_frame.passed c.b.frame)
    pub same : (p q : ℕ) → is_active when (is_inside mode) ≡ true → get c.b.frame.masters reg.0 ≡ Some p → get c.b.frame.shadows reg.0 ≡ Some q
        → same_word ty p q ≡ true → PointAt mode c (hard_frame.passed c.b.frame)
    pub differ : (p q : ℕ) → is_active when (is_inside mode) ≡ true → get c.b.frame.masters reg.0 ≡ Some p → get c.b.frame.shadows reg.0 ≡ Some q → same_word ty p q ≡ false → IsFree mode → IsHurt c.sides
    pub no_master : is_active when (is_inside mode) ≡ true → get c.b.frame.masters reg.0 ≡ None → IsFree mode → IsHurt c.sides
    pub no_shadow : is_active when (is_inside mode) ≡ true → get c.b.frame.shadows reg.0 ≡ None → IsFree mode → IsHurt c.sides

  pub compares : (when : When) (ty : Ty) (reg : Loc) → AsksOf when ty reg
      → AfterTurn mode c (stepped c.h (now mode c) c.t (here mode c) c.b (Chk when ty reg))
  compares when ty reg asks = by_active (is_active when (is_inside mode)) refl
    where
      by_test : (p q : ℕ) → is_active when (is_inside mode) ≡ true → get c.b.frame.masters reg.0 ≡ Some p → get c.b.frame.shadows reg.0 ≡ Some q
          → (b : Bool) → same_word ty p q ≡ b → AfterTurn mode c (agreed c.h (now mode c) c.t (here mode c) c.b b)
      by_test p q on e f true k = passes mode c (asks.same p q on e f k)
      by_test p q on e f false k = failing mode c (asks.differ p q on e f k)

      by_words : is_active when (is_inside mode) ≡ true → (o u : Option ℕ) → get c.b.frame.masters reg.0 ≡ o → get c.b.frame.shadows reg.0 ≡ u
          → AfterTurn mode c (compared c.h (now mode c) c.t (here mode c) c.b ty o u)
      by_words on (Some p) (Some q) e f = by_test p q on e f (same_word ty p q) refl
      by_words on (Some p) None e f = trapping mode c (asks.no_shadow on f)
      by_words on None u e f = trapping mode c (asks.no_master on e)

      by_active : (b : Bool) → is_active when (is_inside mode) ≡ b → AfterTurn mode c (checked c.h (now mode c) c.t (here mode c) c.b ty reg b)
      by_active true on = by_words on (get c.b.frame.masters reg.0) (get c.b.frame.shadows reg.0) refl refl
      by_active false off = passes mode c (asks.off off)

-- ---- what known sides tell of a register

module _ (sides : Sides) (names : ℕ → Bool) (masters shadows registers : List (Option ℕ)) (reg : Loc) (named : names reg.0 ≡ true)
    (on_m : On sides M (AgreeIn names masters registers)) (on_s : On sides S (AgreeIn names shadows registers)) where
  pub on-master : On sides M (get masters reg.0 ≡ get registers reg.0)
  on-master = on-map sides M _ _ (λ (agree : AgreeIn names masters registers). agree.same reg.0 named) on_m

  pub on-shadow : On sides S (get shadows reg.0 ≡ get registers reg.0)
  on-shadow = on-map sides S _ _ (λ (agree : AgreeIn names shadows registers). agree.same reg.0 named) on_s

  -- it differs on one of them
  pub differ-hurt : (ty : Ty) (p q : ℕ) → get masters reg.0 ≡ Some p → get shadows reg.0 ≡ Some q → same_word ty p q ≡ false → IsHurt sides
  differ-hurt ty p q e f k = hurt-both sides (get masters reg.0 ≡ get registers reg.0) (get shadows reg.0 ≡ get registers reg.0) on-master on-shadow (λ x y.
      let both : Some p ≡ Some q = sym e ∙ x ∙ sym y ∙ f in
      let equal : p ≡ q = cc in
      never-both (same_word ty p q) k (ap (λ (n : ℕ). same_word ty p n) (sym equal) ∙ eq-eqb _ _ refl))

  no-word : (file : List (Option ℕ)) → is_some (get registers reg.0) ≡ true → get file reg.0 ≡ None → get file reg.0 ≡ get registers reg.0 → ⊥
  no-word file has none same = never-both (is_some (get registers reg.0)) (ap is_some (sym same ∙ none)) has

  pub missing-master : is_some (get registers reg.0) ≡ true → get masters reg.0 ≡ None → IsHurt sides
  missing-master has none = hurt-if sides M (get masters reg.0 ≡ get registers reg.0) on-master (no-word masters has none)

  pub missing-shadow : is_some (get registers reg.0) ≡ true → get shadows reg.0 ≡ None → IsHurt sides
  missing-shadow has none = hurt-if sides S (get shadows reg.0 ≡ get registers reg.0) on-shadow (no-word shadows has none)

  -- both have the same word of a type: the master has the source's
  pub master-same : (ty : Ty) (p q : ℕ) → get masters reg.0 ≡ Some p → get shadows reg.0 ≡ Some q → same_word ty p q ≡ true
      → word_in ty masters reg ≡ word_in ty registers reg
  master-same ty p q e f k = either-on sides (word_in ty masters reg ≡ word_in ty registers reg) (get shadows reg.0 ≡ get registers reg.0)
      (on-map sides M (get masters reg.0 ≡ get registers reg.0) _ (λ same. ap (option_map (λ n. n % 2 ^ register_bits ty)) same) on-master) on-shadow
      (λ same. ap (option_map (λ n. n % 2 ^ register_bits ty)) e ∙ ap Some (eqb-true _ _ k)
      ∙ ap (option_map (λ n. n % 2 ^ register_bits ty)) (sym f ∙ same))
