-- A hardened module fits with names for its edges where it fits without.
use Rattle.std.proofs.Common.{ℕ, ◌≡◌, ◌∙◌, ◌+◌, ◌-◌, ◌&&◌, ◌||◌, Bool, true, false, List, [], ◌∷◌, ◌++◌, map, length, Option, Some, None, slice_get, refl, ap, sym as flip, arith}
use Rattle.std.specs.Prelude.{nat_eq, if◌then◌else◌}
use Rattle.std.specs.List.{flat_map, filter_map, list_all, list_any}
use Rattle.std.specs.Option.{option_map_or, is_some}
use Rattle.std.proofs.lemmas.List.Folds.{list_all-append, list_any-append}
use Rattle.ir_core.proofs.Lengths.{both_true}
use Rattle.ir_core.specs.declared.types.Ty.{Ty}
use Rattle.ir_core.specs.declared.types.Ty as opened
use Rattle.ir_core.specs.declared.types.Ty.TheOpen.{Ty-F}
use Rattle.ir_core.specs.declared.types.Ty.TheViews.{out-roll-Ty}
use Rattle.ir_core.specs.declared.types.Ty.TheVariants as types
use Rattle.ir_core.specs.declared.types.Loc.{Loc}
use Rattle.ir_core.specs.declared.types.Width.TheVariants.{W1}
use Rattle.ir_core.specs.declared.values.Side.{Side}
use Rattle.ir_core.specs.declared.values.Side.TheVariants.{M, S}
use Rattle.ir_core.specs.declared.values.Val.{Val}
use Rattle.ir_core.specs.declared.values.Val.TheVariants as values
use Rattle.ir_core.specs.declared.instruction.Inst.{Inst}
use Rattle.ir_core.specs.declared.instruction.Inst.TheVariants as insts
use Rattle.ir_core.specs.declared.instruction.Block.{Block}
use Rattle.ir_core.specs.Module.{ModuleParts, FuncParts}
use Rattle.ir_numbering.specs.declared.places.Place.{Place}
use Rattle.ir_numbering.specs.Places.{places_of_val}
use Rattle.ir_lines.specs.Lines.{BlockLine, InstLine, lines_of}
use Rattle.ir_lines.specs.declared.site.Named.TheVariants as names
use Rattle.ir_names.specs.Names.{same_name, defined_in, is_defined}
use Rattle.ir_types.specs.Firsts.{first_of}
use Rattle.ir_types.specs.Meanings.{Meaning, Label, Register, Pair, meanings, result_of as meaning_of_result, param_meaning}
use Rattle.ir_types.specs.Types.{inst_fits, operand_fits, names_label, is_label, form_fits, is_int, int_width_step, is_register_of, typed_operands, typed_arm, labels_in}
use Rattle.ir_check.specs.Blocks.{ends_well, begins_well, terminators_keep, entries_keep}
use Rattle.ir_check.specs.Faults.{IsAccepted}
use Rattle.ir_check.proofs.Members.{IsIn, next-in, in-flat, any-in}
use Rattle.hard_ir.specs.declared.instruction.HVal.{HVal}
use Rattle.hard_ir.specs.declared.instruction.HVal.TheVariants as operands
use Rattle.hard_ir.specs.declared.instruction.HInst.{HInst}
use Rattle.hard_ir.specs.declared.instruction.HInst.TheVariants.{Cut, Begin, End, Tick, Chk, ChkMem, Mov, Do}
use Rattle.hard_ir.specs.declared.instruction.HBlock.{HBlock}
use Rattle.hard_ir.specs.Image.{Table, pair_of}
use Rattle.hard_ir.specs.Hardened.{HardParts, hard_block, hard_blocks, hard_func, hardened_by}
use Rattle.hard_ir.specs.Fit.{Fits, HardFunc, label, register, all_sided, mentions_on, mentions_of, names_in_arm, names_keep, limits_keep, hard_calls_keep, hard_types_keep, forms_keep, plain_line, is_known, meaning_fits, result_fits, has_type, is_pair_at, uses_fit, source_fits, operand_has_type, hard_inst_fits, hard_meanings, meanings_in, meaning_in, meaning_of_phi, same_side}
use Rattle.hard_ir.specs.Images.{is_named}
use Rattle.hard_ir.specs.EdgeChecks.{Guard, guard_in, guard_at, guard_of, direction, edge_arm, edge_phi, predecessors, leads_to}
use Rattle.hard_laws.proofs.Images.{IsTable}
use Rattle.hard_laws.proofs.HardLines.{IsBlockOf, hard_of, both}
use Rattle.hard_laws.proofs.Accepted.{Sound, sound, block-line, inst-line, of-code}
use Rattle.hard_laws.proofs.Tallies.{name-same}
use Rattle.hard_laws.proofs.Definitions.{source-names}
use Rattle.hard_laws.proofs.Names.{all-other, shadow-known, plain-known}
use Rattle.hard_laws.proofs.Scalars.{int-places}
use Rattle.hard_laws.proofs.SameTypes.{type-same}
use Rattle.hard_laws.proofs.Meanings.{meaning-same}
use Rattle.edge_laws.proofs.Ends.{last}
use Rattle.edge_laws.proofs.WithEdges.{edge_on, edge_blocks, edge_func, edge_module, Passes, all-pass}
use Rattle.edge_laws.proofs.EdgeRules.{limits-pass, calls-pass, forms-pass}
use Rattle.edge_laws.proofs.EdgeShapes.{terminators-pass}
use Rattle.edge_laws.proofs.EdgePhis.{phis-pass, entries-pass, of-filter}
use Rattle.edge_laws.proofs.EdgeDefinitions.{Asked, known-more, new-known, distinct-edges}
use Rattle.edge_laws.proofs.EdgeMeanings.{on-entries, label-stands, unnamed-none, is_new, other-stands, new-stands, new-block, block-new}

-- ---- guarded branches

-- the branch in which a block ends
guard-inst : (inst : Inst) (guard : Guard) → guard_in inst ≡ Some guard → insts.CondBr (values.Reg guard.on) guard.first guard.second ≡ inst
guard-inst (insts.CondBr (values.Reg on) first second) guard e = by_test (nat_eq first.0 second.0) e
  where
    by_test : (b : Bool) → (if b then None else Some (let g : Guard = record { on = on; first = first; second = second } in g)) ≡ Some guard → insts.CondBr (values.Reg guard.on) guard.first guard.second ≡ insts.CondBr (values.Reg on) first second
    by_test true e = cc
    by_test false e =
        let same : (let g : Guard = record { on = on; first = first; second = second } in g) ≡ guard = cc in
        ap (λ (g : Guard). insts.CondBr (values.Reg g.on) g.first g.second) (flip same)
guard-inst (insts.CondBr (values.Int n) first second) guard e = cc
guard-inst (insts.CondBr values.Null first second) guard e = cc
guard-inst (insts.CondBr (values.Global name) first second) guard e = cc
guard-inst (insts.CondBr (values.Gep gep) first second) guard e = cc
guard-inst inst guard e = cc

pub guard-branch : (block : Block) (guard : Guard) → guard_of block ≡ Some guard → IsIn (insts.CondBr (values.Reg guard.on) guard.first guard.second) block.insts
guard-branch block guard e = by_last (last block.insts) refl e
  where
    by_last : (o : Option Inst) → last block.insts ≡ o → guard_at o ≡ Some guard → IsIn (insts.CondBr (values.Reg guard.on) guard.first guard.second) block.insts
    by_last None f e = cc
    by_last (Some inst) f e = (length block.insts - 1, f ∙ ap (λ (x : Inst). Some x) (flip (guard-inst inst guard e)))

bit-int : is_int (types.Int W1) ≡ true
unfolding opened.roll-Ty denote.Hole.Carrier.roll
bit-int = ap (λ (layer : Ty-F Ty). is_some (int_width_step layer)) (out-roll-Ty (Ty-F.Int W1))

module _ (table : Table) (is : IsTable table) (ofs : ℕ → ℕ → Option Loc) (m : ModuleParts) (accepted : IsAccepted m) (asked : Asked m ofs) (fits : Fits (hardened_by table m)) where
  abbrev H : HardParts
  H = hardened_by table m

  abbrev E : HardParts
  E = edge_module table ofs m

  held : Sound m
  held = sound m accepted

  -- ---- known names

  defined-label : (n b : ℕ) (f : FuncParts) (block : Block) → IsBlockOf m n f b block → is_defined m (names.Loc n block.label) ≡ true
  defined-label n b f block at =
      ap (list_any (same_name (names.Loc n block.label))) (source-names m)
      ∙ any-in (same_name (names.Loc n block.label)) (names.Loc n block.label) (flat_map defined_in (lines_of m))
      (in-flat defined_in (BlockLine n f b block) (names.Loc n block.label) (lines_of m) (of-code m (BlockLine n f b block) (block-line m n b f block at)) (0, refl)) (name-same (names.Loc n block.label))

  defined-on : (n b : ℕ) (f : FuncParts) (block : Block) (guard : Guard) → IsBlockOf m n f b block → guard_of block ≡ Some guard → is_defined m (names.Loc n guard.on) ≡ true
  defined-on n b f block guard at e =
      let inst = insts.CondBr (values.Reg guard.on) guard.first guard.second in
      let h = guard-branch block guard e in
      held.known (InstLine n f b h.0 inst) (names.Loc n guard.on) (of-code m (InstLine n f b h.0 inst) (inst-line m n b f block inst at h)) (0, refl)

  label-known : (n b : ℕ) (f : FuncParts) (block : Block) → IsBlockOf m n f b block → is_known E (label n block.label) ≡ true
  label-known n b f block at = known-more table ofs m (label n block.label) (plain-known table is m held (names.Loc n block.label) (defined-label n b f block at))

  on-known : (n b : ℕ) (f : FuncParts) (block : Block) (guard : Guard) → IsBlockOf m n f b block → guard_of block ≡ Some guard → is_known E (register n S guard.on) ≡ true
  on-known n b f block guard at e = known-more table ofs m (register n S guard.on) (shadow-known table is m held n b f block guard.on at (defined-on n b f block guard at e))

  arm-known : (n b : ℕ) (f : FuncParts) (block : Block) (at : Loc) (side : Side) → IsBlockOf m n f b block → list_all (is_known E) (names_in_arm n side (edge_arm at side block)) ≡ true
  arm-known n b f block at side there = by_guard side (guard_of block) refl
    where
      by_guard : (side : Side) (o : Option Guard) → guard_of block ≡ o → list_all (is_known E) (all_sided n side (places_of_val (direction o at side)) ++ label n block.label ∷ []) ≡ true
      by_guard side None e = both (label-known n b f block there) refl
      by_guard M (Some guard) e = both (label-known n b f block there) refl
      by_guard S (Some guard) e = both (on-known n b f block guard there e) (both (label-known n b f block there) refl)

  arms-known : (n : ℕ) (f : FuncParts) (at : Loc) (side : Side) (blocks : List Block) → slice_get m.funcs n ≡ Some f → ((block : Block) → IsIn block blocks → IsIn block f.blocks)
      → list_all (is_known E) (flat_map (names_in_arm n side) (map (edge_arm at side) blocks)) ≡ true
  arms-known n f at side [] here within = refl
  arms-known n f at side (block ∷ blocks) here within =
      let own = within block (0, refl) in
      list_all-append (is_known E) (names_in_arm n side (edge_arm at side block)) (flat_map (names_in_arm n side) (map (edge_arm at side) blocks))
      ∙ both (arm-known n own.0 f block at side (here, own.1)) (arms-known n f at side blocks here (λ x h. within x (next-in x block blocks h)))

  names-pass : Passes table ofs m (names_keep H) (names_keep E)
  names-pass = record {
    outer = λ line e. all-other (is_known H) (is_known E) _ (known-more table ofs m) e;
    block = λ n b f block at e. refl;
    phi = λ n b i j f block phi at e. all-other (is_known H) (is_known E) (mentions_on n phi.0 phi.1) (known-more table ofs m) e;
    item = λ n b i j f block item at e. all-other (is_known H) (is_known E) (mentions_of n item) (known-more table ofs m) e;
    edge_phi = λ n b i f block name side at e.
        let arms = arms-known n f block.label side (predecessors f.blocks block.label) at.0 (λ x h. (of-filter (leads_to block.label) x f.blocks h).0) in
        both (new-known table ofs m n b f block name side at e)
        (ap (λ (places : List Place). list_all (is_known E) (all_sided n side places ++ flat_map (names_in_arm n side) (map (edge_arm block.label side) (predecessors f.blocks block.label)))) (int-places W1) ∙ arms);
    edge_check = λ n b i f block name at e.
        ap (λ (places : List Place). list_all (is_known E) (all_sided n M places ++ register n M name ∷ register n S name ∷ [])) (int-places W1)
        ∙ both (new-known table ofs m n b f block name M at e) (both (new-known table ofs m n b f block name S at e) refl);
  }

  -- ---- types

  module _ (n : ℕ) (f : FuncParts) (here : slice_get m.funcs n ≡ Some f) where
    abbrev was : HardFunc
    was = hard_of table f

    abbrev now : HardFunc
    now = edge_func table (ofs n) f

    same-source : (at : Loc) → first_of (hard_meanings was) at ≡ first_of (meanings f) at
    same-source at =
        meaning-same table is at f (λ i block there. (both_true (ends_well block.insts) (begins_well block.insts) (held.terminators (BlockLine n f i block) (of-code m (BlockLine n f i block) (block-line m n i f block (here, there))))).1)

    new-nothing : (at : Loc) → is_new table f (ofs n) at 0 f.blocks ≡ true → first_of (hard_meanings was) at ≡ None
    new-nothing at e =
        let found = new-block table f (ofs n) at 0 f.blocks e in
        same-source at ∙ unnamed-none f at (ap (λ (k : ℕ). is_named f (record { 0 = k })) (flip found.3) ∙ asked.new n found.0 f found.1 here found.2)

    -- what a name stood for it stands for
    stays : (at : Loc) (mean : Meaning) → first_of (hard_meanings was) at ≡ Some mean → first_of (hard_meanings now) at ≡ Some mean
    stays at mean e = by_test (is_new table f (ofs n) at 0 f.blocks) refl
      where
        by_test : (b : Bool) → is_new table f (ofs n) at 0 f.blocks ≡ b → first_of (hard_meanings now) at ≡ Some mean
        by_test true g = absurd (let clash : None ≡ Some mean = flip (new-nothing at g) ∙ e in cc)
        by_test false g = other-stands table f (ofs n) at g ∙ e

    pub bit-type : (b : ℕ) (block : Block) (name : Loc) → slice_get f.blocks b ≡ Some block → ofs n b ≡ Some name → has_type now (types.Int W1) name ≡ true
    bit-type b block name there e =
        let new = block-new table f (ofs n) name 0 b b f.blocks block name (omega arith) there e refl in
        ap (is_register_of (types.Int W1)) (new-stands table f (ofs n) name new (new-nothing name new)) ∙ type-same (types.Int W1)

    type-stays : (ty : Ty) (at : Loc) → has_type was ty at ≡ true → has_type now ty at ≡ true
    type-stays ty at e = by_meaning (first_of (hard_meanings was) at) refl e
      where
        by_meaning : (o : Option Meaning) → first_of (hard_meanings was) at ≡ o → is_register_of ty o ≡ true → has_type now ty at ≡ true
        by_meaning None g e = cc
        by_meaning (Some mean) g e = ap (is_register_of ty) (stays at mean g) ∙ e

    label-stays : (at : Loc) → names_label (hard_meanings was) at ≡ true → names_label (hard_meanings now) at ≡ true
    label-stays at e = by_meaning (first_of (hard_meanings was) at) refl e
      where
        by_meaning : (o : Option Meaning) → first_of (hard_meanings was) at ≡ o → is_label o ≡ true → names_label (hard_meanings now) at ≡ true
        by_meaning None g e = cc
        by_meaning (Some mean) g e = ap is_label (stays at mean g) ∙ e

    operand-stays : (x : Ty × Val) → operand_fits m.types (hard_meanings was) x ≡ true → operand_fits m.types (hard_meanings now) x ≡ true
    operand-stays (ty, values.Reg at) e = type-stays ty at e
    operand-stays (ty, values.Int k) e = e
    operand-stays (ty, values.Null) e = e
    operand-stays (ty, values.Global name) e = e
    operand-stays (ty, values.Gep gep) e = e

    -- any definition counts
    pair-in : (elem : Ty) (pair : Loc) (xs ys zs : List (Loc × Meaning)) → list_any (is_pair_at elem pair) (xs ++ zs) ≡ true → list_any (is_pair_at elem pair) (xs ++ (ys ++ zs)) ≡ true
    pair-in elem pair [] ys zs e = list_any-append (is_pair_at elem pair) ys zs ∙ or-back (list_any (is_pair_at elem pair) ys) (list_any (is_pair_at elem pair) zs) e
      where
        or-back : (a b : Bool) → b ≡ true → (a || b) ≡ true
        or-back true b h = refl
        or-back false b h = h
    pair-in elem pair (x ∷ xs) ys zs e = by_test (is_pair_at elem pair x) e (pair-in elem pair xs ys zs)
      where
        by_test : (b : Bool) → (b || list_any (is_pair_at elem pair) (xs ++ zs)) ≡ true → (list_any (is_pair_at elem pair) (xs ++ zs) ≡ true → list_any (is_pair_at elem pair) (xs ++ (ys ++ zs)) ≡ true)
            → (b || list_any (is_pair_at elem pair) (xs ++ (ys ++ zs))) ≡ true
        by_test true e rest = refl
        by_test false e rest = rest e

    or-both : (a b c d : Bool) → (a ≡ true → c ≡ true) → (b ≡ true → d ≡ true) → (a || b) ≡ true → (c || d) ≡ true
    or-both true b c d p q e = let first : c ≡ true = p refl in rw first refl
    or-both false b true d p q e = refl
    or-both false b false d p q e = q e

    pair-block : (elem : Ty) (pair : Loc) (o : Option Loc) (block : HBlock) → list_any (is_pair_at elem pair) (meanings_in block) ≡ true → list_any (is_pair_at elem pair) (meanings_in (edge_on o f.blocks block)) ≡ true
    pair-block elem pair None block e = e
    pair-block elem pair (Some name) block e =
        let own : Loc × Meaning = (name, Register (types.Int W1)) in
        ap (list_any (is_pair_at elem pair)) (on-entries table f (ofs n) pair name block)
        ∙ pair-in elem pair ((block.label, Label) ∷ filter_map meaning_of_phi block.phis) (own ∷ own ∷ []) (filter_map meaning_in block.list) e

    pair-blocks : (elem : Ty) (pair : Loc) (b : ℕ) (blocks : List Block) → list_any (is_pair_at elem pair) (flat_map meanings_in (hard_blocks table f b blocks)) ≡ true
        → list_any (is_pair_at elem pair) (flat_map meanings_in (edge_blocks table f (ofs n) b blocks)) ≡ true
    pair-blocks elem pair b [] e = e
    pair-blocks elem pair b (block ∷ blocks) e =
        let test = is_pair_at elem pair in
        let hard = hard_block table f b block in
        list_any-append test (meanings_in (edge_on (ofs n b) f.blocks hard)) (flat_map meanings_in (edge_blocks table f (ofs n) (b + 1) blocks))
        ∙ or-both (list_any test (meanings_in hard)) (list_any test (flat_map meanings_in (hard_blocks table f (b + 1) blocks)))
        (list_any test (meanings_in (edge_on (ofs n b) f.blocks hard))) (list_any test (flat_map meanings_in (edge_blocks table f (ofs n) (b + 1) blocks)))
        (pair-block elem pair (ofs n b) hard) (pair-blocks elem pair (b + 1) blocks)
        (flip (list_any-append test (meanings_in hard) (flat_map meanings_in (hard_blocks table f (b + 1) blocks))) ∙ e)

    pair-stays : (elem : Ty) (pair : Loc) → list_any (is_pair_at elem pair) (hard_meanings was) ≡ true → list_any (is_pair_at elem pair) (hard_meanings now) ≡ true
    pair-stays elem pair e =
        let test = is_pair_at elem pair in
        list_any-append test (map param_meaning f.params) (flat_map meanings_in (edge_blocks table f (ofs n) 0 f.blocks))
        ∙ or-both (list_any test (map param_meaning f.params)) (list_any test (flat_map meanings_in (hard_func table f)))
        (list_any test (map param_meaning f.params)) (list_any test (flat_map meanings_in (edge_blocks table f (ofs n) 0 f.blocks)))
        (λ h. h) (pair-blocks elem pair 0 f.blocks) (flip (list_any-append test (map param_meaning f.params) (flat_map meanings_in (hard_func table f))) ∙ e)

    meaning-stays : (x : Loc × Meaning) → meaning_fits was x ≡ true → meaning_fits now x ≡ true
    meaning-stays (reg, Label) e = refl
    meaning-stays (reg, Register ty) e = type-stays ty reg e
    meaning-stays (reg, Pair ty) e = type-stays (pair_of ty) reg e

    result-stays : (o : Option (Loc × Meaning)) → option_map_or (meaning_fits was) o true ≡ true → option_map_or (meaning_fits now) o true ≡ true
    result-stays None e = refl
    result-stays (Some x) e = meaning-stays x e

    three : (a b c a' b' c' : Bool) → (a ≡ true → a' ≡ true) → (b ≡ true → b' ≡ true) → (c ≡ true → c' ≡ true) → (a && b && c) ≡ true → (a' && b' && c') ≡ true
    three a b c a' b' c' p q r e =
        let parts = both_true (a && b) c e in
        let front = both_true a b parts.0 in
        both (both (p front.0) (q front.1)) (r parts.1)

    fits-stays : (inst : Inst) → (form_fits m.types (hard_meanings was) f.ret inst ≡ true → form_fits m.types (hard_meanings now) f.ret inst ≡ true)
        → inst_fits m.types (hard_meanings was) f.ret inst ≡ true → inst_fits m.types (hard_meanings now) f.ret inst ≡ true
    fits-stays inst form e =
        three (list_all (operand_fits m.types (hard_meanings was)) (typed_operands inst)) (list_all (names_label (hard_meanings was)) (labels_in inst)) (form_fits m.types (hard_meanings was) f.ret inst)
        (list_all (operand_fits m.types (hard_meanings now)) (typed_operands inst)) (list_all (names_label (hard_meanings now)) (labels_in inst)) (form_fits m.types (hard_meanings now) f.ret inst)
        (all-other (operand_fits m.types (hard_meanings was)) (operand_fits m.types (hard_meanings now)) (typed_operands inst) operand-stays)
        (all-other (names_label (hard_meanings was)) (names_label (hard_meanings now)) (labels_in inst) label-stays) form e

    uses-stay : (inst : Inst) → uses_fit m.types was inst ≡ true → uses_fit m.types now inst ≡ true
    uses-stay (insts.Extract dst elem pair index) e = pair-stays elem pair e
    uses-stay (insts.Bin dst op flags w a b) e = fits-stays (insts.Bin dst op flags w a b) (λ h. h) e
    uses-stay (insts.Cmp dst pred ty a b) e = fits-stays (insts.Cmp dst pred ty a b) (λ h. h) e
    uses-stay (insts.Select dst cond ty a b) e = fits-stays (insts.Select dst cond ty a b) (λ h. h) e
    uses-stay (insts.Cast dst op from a to) e = fits-stays (insts.Cast dst op from a to) (λ h. h) e
    uses-stay (insts.Gep dst base ptr index) e = fits-stays (insts.Gep dst base ptr index) (λ h. h) e
    uses-stay (insts.Alloca dst ty) e = fits-stays (insts.Alloca dst ty) (λ h. h) e
    uses-stay (insts.Load dst ty ptr atomic) e = fits-stays (insts.Load dst ty ptr atomic) (λ h. h) e
    uses-stay (insts.Store ty val ptr atomic) e = fits-stays (insts.Store ty val ptr atomic) (λ h. h) e
    uses-stay (insts.Rmw dst op ptr ty val) e = fits-stays (insts.Rmw dst op ptr ty val) (λ h. h) e
    uses-stay (insts.CmpXchg dst ptr ty old new) e = fits-stays (insts.CmpXchg dst ptr ty old new) (λ h. h) e
    uses-stay insts.Fence e = fits-stays insts.Fence (λ h. h) e
    uses-stay (insts.Call dst ret callee args) e = fits-stays (insts.Call dst ret callee args) (λ h. h) e
    uses-stay (insts.Phi dst ty arms) e = fits-stays (insts.Phi dst ty arms) (λ h. h) e
    uses-stay (insts.Br to) e = fits-stays (insts.Br to) (λ h. h) e
    uses-stay (insts.CondBr cond on_true on_false) e = fits-stays (insts.CondBr cond on_true on_false) (λ h. h) e
    uses-stay (insts.Switch ty on default cases) e = fits-stays (insts.Switch ty on default cases) (λ h. h) e
    uses-stay (insts.Ret ty val) e = fits-stays (insts.Ret ty val) (λ h. h) e
    uses-stay insts.Unreachable e = fits-stays insts.Unreachable (λ h. h) e

    source-stays : (inst : Inst) → source_fits m.types was inst ≡ true → source_fits m.types now inst ≡ true
    source-stays inst e =
        let parts = both_true (result_fits was inst) (uses_fit m.types was inst) e in both (result-stays (meaning_of_result inst) parts.0) (uses-stay inst parts.1)

    operand-type-stays : (ty : Ty) (val : HVal) → operand_has_type m.types was ty val ≡ true → operand_has_type m.types now ty val ≡ true
    operand-type-stays ty (operands.Reg reg) e = let parts = both_true (same_side reg.side S) (has_type was ty reg.loc) e in both parts.0 (type-stays ty reg.loc parts.1)
    operand-type-stays ty (operands.Const (values.Reg at)) e = e
    operand-type-stays ty (operands.Const (values.Int k)) e = e
    operand-type-stays ty (operands.Const values.Null) e = e
    operand-type-stays ty (operands.Const (values.Global name)) e = e
    operand-type-stays ty (operands.Const (values.Gep gep)) e = e

    item-stays : (item : HInst) → hard_inst_fits m.types was item ≡ true → hard_inst_fits m.types now item ≡ true
    item-stays (Do side inst retires) e = source-stays inst e
    item-stays (Mov ty reg) e = type-stays ty reg e
    item-stays (Chk when ty reg) e = type-stays ty reg e
    item-stays (ChkMem ty ptr val) e =
        let parts = both_true (operand_has_type m.types was types.Ptr ptr) (operand_has_type m.types was ty val) e in both (operand-type-stays types.Ptr ptr parts.0) (operand-type-stays ty val parts.1)
    item-stays (Tick work) e = refl
    item-stays Cut e = refl
    item-stays Begin e = refl
    item-stays End e = refl

    -- the arms of a new phi
    on-type : (b : ℕ) (block : Block) (guard : Guard) → slice_get f.blocks b ≡ Some block → guard_of block ≡ Some guard → has_type now (types.Int W1) guard.on ≡ true
    on-type b block guard there e =
        let inst = insts.CondBr (values.Reg guard.on) guard.first guard.second in
        let h = guard-branch block guard e in
        let own : inst_fits m.types (meanings f) f.ret inst ≡ true = held.types (InstLine n f b h.0 inst) (of-code m (InstLine n f b h.0 inst) (inst-line m n b f block inst (here, there) h)) in
        let parts = both_true (is_register_of (types.Int W1) (first_of (meanings f) guard.on) && true) (list_all (names_label (meanings f)) (guard.first ∷ guard.second ∷ [])) (both_true _ true own).0 in
        let typed = both_true (is_register_of (types.Int W1) (first_of (meanings f) guard.on)) true parts.0 in
        type-stays (types.Int W1) guard.on (ap (is_register_of (types.Int W1)) (same-source guard.on) ∙ typed.0)

    arm-type : (b : ℕ) (block : Block) (at : Loc) (side : Side) → slice_get f.blocks b ≡ Some block → operand_fits m.types (hard_meanings now) (types.Int W1, direction (guard_of block) at side) ≡ true
    arm-type b block at side there = by_guard side (guard_of block) refl
      where
        by_guard : (side : Side) (o : Option Guard) → guard_of block ≡ o → operand_fits m.types (hard_meanings now) (types.Int W1, direction o at side) ≡ true
        by_guard side None e = bit-int
        by_guard M (Some guard) e = bit-int
        by_guard S (Some guard) e = on-type b block guard there e

    arms-fit : (at : Loc) (side : Side) (blocks : List Block) → ((block : Block) → IsIn block blocks → IsIn block f.blocks)
        → list_all (operand_fits m.types (hard_meanings now)) (map (typed_arm (types.Int W1)) (map (edge_arm at side) blocks)) ≡ true
    arms-fit at side [] within = refl
    arms-fit at side (block ∷ blocks) within =
        let own = within block (0, refl) in both (arm-type own.0 block at side own.1) (arms-fit at side blocks (λ x h. within x (next-in x block blocks h)))

    labels-fit : (at : Loc) (side : Side) (blocks : List Block) → ((block : Block) → IsIn block blocks → IsIn block f.blocks)
        → list_all (names_label (hard_meanings now)) (map (λ (arm : Val × Loc). arm.1) (map (edge_arm at side) blocks)) ≡ true
    labels-fit at side [] within = refl
    labels-fit at side (block ∷ blocks) within =
        let own = within block (0, refl) in
        let stands = stays block.label Label (same-source block.label ∙ label-stands m held n f here own.0 block own.1) in
        both (ap is_label stands) (labels-fit at side blocks (λ x h. within x (next-in x block blocks h)))

    phi-type : (b : ℕ) (block : Block) (name : Loc) (side : Side) → slice_get f.blocks b ≡ Some block → ofs n b ≡ Some name → source_fits m.types now (edge_phi name f.blocks block.label side).1 ≡ true
    phi-type b block name side there e =
        let within = λ (x : Block) (h : IsIn x (predecessors f.blocks block.label)). (of-filter (leads_to block.label) x f.blocks h).0 in
        both (bit-type b block name there e)
        (both (both (arms-fit block.label side (predecessors f.blocks block.label) within) (labels-fit block.label side (predecessors f.blocks block.label) within)) refl)

  types-pass : Passes table ofs m (hard_types_keep H) (hard_types_keep E)
  types-pass = record {
    outer = λ line e. e;
    block = λ n b f block at e. refl;
    phi = λ n b i j f block phi at e. source-stays n f at.0 phi.1 e;
    item = λ n b i j f block item at e. item-stays n f at.0 item e;
    edge_phi = λ n b i f block name side at e. phi-type n f at.0 b block name side at.1 e;
    edge_check = λ n b i f block name at e. bit-type n f at.0 b block name at.1 e;
  }

  pub edges-fit : Fits E
  edges-fit = record {
    distinct = distinct-edges table is ofs m held asked;
    known = all-pass table ofs m (names_keep H) (names_keep E) names-pass fits.known;
    limits = fits.limits;
    code_limits = all-pass table ofs m (limits_keep H) (limits_keep E) (limits-pass table ofs m) fits.code_limits;
    terminators = all-pass table ofs m (λ line. terminators_keep (plain_line line)) (λ line. terminators_keep (plain_line line)) (terminators-pass table ofs m fits.forms) fits.terminators;
    calls = all-pass table ofs m (hard_calls_keep H) (hard_calls_keep E) (calls-pass table ofs m) fits.calls;
    types = all-pass table ofs m (hard_types_keep H) (hard_types_keep E) types-pass fits.types;
    main = fits.main;
    entries = all-pass table ofs m (λ line. entries_keep (plain_line line)) (λ line. entries_keep (plain_line line)) (entries-pass table is ofs m accepted fits) fits.entries;
    phis = phis-pass table is ofs m accepted fits;
    forms = all-pass table ofs m forms_keep forms_keep (forms-pass table ofs m) fits.forms;
  }
