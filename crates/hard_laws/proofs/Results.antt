-- In an accepted module a name that an instruction or a head defines stands for what stands there.
use Rattle.std.proofs.Common.{ℕ, zero, suc, ◌≡◌, ◌∙◌, ◌+◌, ◌≤◌, Bool, true, false, List, [], ◌∷◌, ◌++◌, map, find, slice_get, Some, None, refl, ap, sym, subst, arith}
use Rattle.std.specs.Prelude.{nat_eq, if◌then◌else◌}
use Rattle.std.specs.List.{flat_map, filter_map, cons_option}
use Rattle.std.specs.Option.{option_map}
use Rattle.std.proofs.lemmas.Bool.Decides.{nat_tests}
use Rattle.ir_core.specs.declared.types.Ty.{Ty}
use Rattle.ir_core.specs.declared.types.Ty.TheVariants as types
use Rattle.ir_core.specs.declared.types.Width.TheVariants.{W1}
use Rattle.ir_core.specs.declared.types.Loc.{Loc}
use Rattle.ir_core.specs.declared.values.Side.TheVariants.{M}
use Rattle.ir_core.specs.declared.instruction.Inst.{Inst}
use Rattle.ir_core.specs.declared.instruction.Inst.TheVariants as insts
use Rattle.ir_core.specs.declared.instruction.Block.{Block}
use Rattle.ir_core.specs.Module.{ModuleParts, FuncParts}
use Rattle.ir_core.specs.Instructions.{result_of as named_result}
use Rattle.ir_lines.specs.Lines.{TypeLine, GlobalLine, DeclareLine, inst_lines, block_lines, blocks_lines, func_lines, funcs_lines, code_lines, lines_of}
use Rattle.ir_lines.specs.declared.site.Named.{Named}
use Rattle.ir_lines.specs.declared.site.Named.TheVariants as names
use Rattle.ir_names.specs.Names.{same_name, defined_in, definitions}
use Rattle.ir_types.specs.Firsts.{first_of}
use Rattle.ir_types.specs.Meanings.{Meaning, Label, Register, Pair, extracted, param_meaning, block_meanings, meanings, result_of}
use Rattle.ir_check.proofs.Members.{IsIn, next-in, in-front, in-back, in-map, in-flat, in-filter}
use Rattle.hard_laws.proofs.HardLines.{IsBlockOf}
use Rattle.hard_laws.proofs.Accepted.{Sound}
use Rattle.hard_laws.proofs.Tallies.{tally, tally-append, counted, nat-same, defined-once}
use Rattle.hard_laws.proofs.Definitions.{source-names, in_source, source-append}

-- ---- one entry of a name

abbrev named : Loc → Loc × Meaning → Bool
named at entry = nat_eq entry.0.0 at.0

some-tally : (e : Loc × Meaning) (xs : List (Loc × Meaning)) → IsIn e xs → 1 ≤ tally (named e.0) xs
some-tally e [] (k, at) = absurd cc
some-tally e (x ∷ xs) (zero, at) = let same : x ≡ e = cc in rw (same, nat-same e.0.0) (omega arith)
some-tally e (x ∷ xs) (suc k, at) = grown (named e.0 x) (some-tally e xs (k, at))
  where
    grown : (b : Bool) → 1 ≤ tally (named e.0) xs → 1 ≤ counted b (tally (named e.0) xs)
    grown true p = omega arith
    grown false p = p

only-entry : (e : Loc × Meaning) (xs : List (Loc × Meaning)) → IsIn e xs → tally (named e.0) xs ≤ 1 → first_of xs e.0 ≡ Some e.1
only-entry e [] (k, at) few = absurd cc
only-entry e (x ∷ xs) (zero, at) few = let same : x ≡ e = cc in rw (same, nat-same e.0.0) refl
only-entry e (x ∷ xs) (suc k, at) few = by_test (named e.0 x) refl few (only-entry e xs (k, at))
  where
    by_test : (b : Bool) → named e.0 x ≡ b → counted b (tally (named e.0) xs) ≤ 1 → (tally (named e.0) xs ≤ 1 → first_of xs e.0 ≡ Some e.1)
        → option_map (λ (entry : Loc × Meaning). entry.1) (if b then Some x else find (λ (entry : Loc × Meaning). nat_eq entry.0.0 e.0.0) xs) ≡ Some e.1
    by_test false p few rest = rest few
    by_test true p few rest = let more = some-tally e xs (k, at) in absurd (omega arith)

-- ---- as often as names are defined

same-loc : (n : ℕ) (at x : Loc) → same_name (names.Loc n at) (names.Loc n x) ≡ nat_eq x.0 at.0
same-loc n at x = rw (nat-same n) (turned (nat_eq at.0 x.0) refl (nat_eq x.0 at.0) refl)
  where
    turned : (a : Bool) → nat_eq at.0 x.0 ≡ a → (b : Bool) → nat_eq x.0 at.0 ≡ b → a ≡ b
    turned true p true q = refl
    turned false p false q = refl
    turned true p false q = absurd (let e : at.0 ≡ x.0 = grind (arith, nat_tests) in let s : nat_eq x.0 at.0 ≡ true = grind (arith, nat_tests) in let clash : true ≡ false = sym s ∙ q in cc)
    turned false p true q = absurd (let e : x.0 ≡ at.0 = grind (arith, nat_tests) in let s : nat_eq at.0 x.0 ≡ true = grind (arith, nat_tests) in let clash : true ≡ false = sym s ∙ p in cc)

module _ (n : ℕ) (at : Loc) where
  abbrev key : Named
  key = names.Loc n at

  params-count : (params : List (Ty × Loc)) → tally (named at) (map param_meaning params) ≡ tally (same_name key) (map (λ (param : Ty × Loc). names.Loc n param.1) params)
  params-count [] = refl
  params-count (x ∷ xs) =
      ap (λ (k : ℕ). counted (named at (param_meaning x)) k) (params-count xs)
      ∙ ap (λ (b : Bool). counted b (tally (same_name key) (map (λ (param : Ty × Loc). names.Loc n param.1) xs))) (sym (same-loc n at x.1))

  result-count : (inst : Inst) (xs : List (Loc × Meaning)) (ys : List Named) → tally (named at) xs ≡ tally (same_name key) ys
      → tally (named at) (cons_option (result_of inst) xs) ≡ tally (same_name key) (cons_option (option_map (names.Loc n) (named_result inst)) [] ++ ys)
  result-count inst xs ys e = by_inst inst
    where
      one : (dst : Loc) (mean : Meaning) → counted (named at (dst, mean)) (tally (named at) xs) ≡ counted (same_name key (names.Loc n dst)) (tally (same_name key) ys)
      one dst mean = ap (counted (named at (dst, mean))) e ∙ ap (λ (b : Bool). counted b (tally (same_name key) ys)) (sym (same-loc n at dst))

      by_inst : (inst : Inst) → tally (named at) (cons_option (result_of inst) xs) ≡ tally (same_name key) (cons_option (option_map (names.Loc n) (named_result inst)) [] ++ ys)
      by_inst (insts.Bin dst op flags w a b) = one dst (Register (types.Int w))
      by_inst (insts.Cmp dst pred ty a b) = one dst (Register (types.Int W1))
      by_inst (insts.Select dst cond ty a b) = one dst (Register ty)
      by_inst (insts.Cast dst op from a to) = one dst (Register to)
      by_inst (insts.Gep dst base ptr index) = one dst (Register types.Ptr)
      by_inst (insts.Alloca dst ty) = one dst (Register types.Ptr)
      by_inst (insts.Load dst ty ptr atomic) = one dst (Register ty)
      by_inst (insts.Rmw dst op ptr ty val) = one dst (Register ty)
      by_inst (insts.CmpXchg dst ptr ty old new) = one dst (Pair ty)
      by_inst (insts.Extract dst elem pair index) = one dst (Register (extracted elem index))
      by_inst (insts.Call (Some dst) ret callee args) = one dst (Register ret)
      by_inst (insts.Call None ret callee args) = e
      by_inst (insts.Phi dst ty arms) = one dst (Register ty)
      by_inst inst = e

  body-count : (f : FuncParts) (b i : ℕ) (body : List Inst) → tally (named at) (filter_map result_of body) ≡ in_source M key (inst_lines n f b i body)
  body-count f b i [] = refl
  body-count f b i (inst ∷ body) = result-count inst (filter_map result_of body) (flat_map defined_in (inst_lines n f b (i + 1) body)) (body-count f b (i + 1) body)

  blocks-count : (f : FuncParts) (b : ℕ) (blocks : List Block) → tally (named at) (flat_map block_meanings blocks) ≡ in_source M key (blocks_lines n f b blocks)
  blocks-count f b [] = refl
  blocks-count f b (block ∷ blocks) =
      tally-append (named at) (block_meanings block) (flat_map block_meanings blocks)
      ∙ ap (λ (k : ℕ). counted (named at (block.label, Label)) k + tally (named at) (flat_map block_meanings blocks)) (body-count f b 0 block.insts)
      ∙ ap (λ (c : Bool). counted c (in_source M key (inst_lines n f b 0 block.insts)) + tally (named at) (flat_map block_meanings blocks)) (sym (same-loc n at block.label))
      ∙ ap (λ (k : ℕ). in_source M key (block_lines n f b block) + k) (blocks-count f (b + 1) blocks)
      ∙ sym (source-append M key (block_lines n f b block) (blocks_lines n f (b + 1) blocks))

  func-count : (f : FuncParts) → tally (named at) (meanings f) ≡ in_source M key (func_lines n f)
  func-count f =
      let params : List Named = map (λ (param : Ty × Loc). names.Loc n param.1) f.params in
      tally-append (named at) (map param_meaning f.params) (flat_map block_meanings f.blocks)
      ∙ ap (λ (k : ℕ). k + tally (named at) (flat_map block_meanings f.blocks)) (params-count f.params)
      ∙ ap (λ (k : ℕ). tally (same_name key) params + k) (blocks-count f 0 f.blocks)
      ∙ sym (tally-append (same_name key) params (flat_map defined_in (blocks_lines n f 0 f.blocks)))

  funcs-count : (i j : ℕ) (f : FuncParts) (funcs : List FuncParts) → slice_get funcs i ≡ Some f → n ≡ j + i → in_source M key (func_lines n f) ≤ in_source M key (funcs_lines j funcs)
  funcs-count i j f [] e same = absurd cc
  funcs-count zero j f (x ∷ funcs) e same =
      let own : x ≡ f = cc in
      let number : n ≡ j = omega arith in
      let first : in_source M key (func_lines j x) ≡ in_source M key (func_lines n f) = ap (λ (y : FuncParts). in_source M key (func_lines j y)) own ∙ ap (λ (k : ℕ). in_source M key (func_lines k f)) (sym number) in
      let whole = source-append M key (func_lines j x) (funcs_lines (j + 1) funcs) in
      omega arith
  funcs-count (suc i) j f (x ∷ funcs) e same =
      let rest = funcs-count i (j + 1) f funcs e (omega arith) in
      let whole = source-append M key (func_lines j x) (funcs_lines (j + 1) funcs) in
      omega arith

-- ---- what a name stands for

module _ (m : ModuleParts) (sound : Sound m) where
  once : (n : ℕ) (f : FuncParts) (at : Loc) → slice_get m.funcs n ≡ Some f → tally (named at) (meanings f) ≤ 1
  once n f at stands =
      let whole : in_source M (names.Loc n at) (lines_of m) ≤ 1 = subst (λ (xs : List Named). tally (same_name (names.Loc n at)) xs ≤ 1) (source-names m) (defined-once (names.Loc n at) (definitions m) sound.distinct) in
      let outer = source-append M (names.Loc n at) (map TypeLine m.types ++ map GlobalLine m.globals) (code_lines m) in
      let inner = source-append M (names.Loc n at) (map DeclareLine m.declares) (funcs_lines 0 m.funcs) in
      let own = funcs-count n at n 0 f m.funcs stands (omega arith) in
      let count = func-count n at f in
      omega arith

  pub result-stands : (n b : ℕ) (f : FuncParts) (block : Block) (inst : Inst) (dst : Loc) (mean : Meaning) → IsBlockOf m n f b block → IsIn inst block.insts → result_of inst ≡ Some (dst, mean) → first_of (meanings f) dst ≡ Some mean
  result-stands n b f block inst dst mean (stands, there) h e =
      let result : IsIn (dst, mean) (block_meanings block) = next-in (dst, mean) (block.label, Label) (filter_map result_of block.insts) (in-filter result_of inst (dst, mean) block.insts h e) in
      only-entry (dst, mean) (meanings f) (in-back (dst, mean) (map param_meaning f.params) (flat_map block_meanings f.blocks) (in-flat block_meanings block (dst, mean) f.blocks (b, there) result)) (once n f dst stands)

  pub param-stands : (n : ℕ) (f : FuncParts) (param : Ty × Loc) → slice_get m.funcs n ≡ Some f → IsIn param f.params → first_of (meanings f) param.1 ≡ Some (Register param.0)
  param-stands n f param stands h =
      only-entry (param_meaning param) (meanings f) (in-front (param_meaning param) (map param_meaning f.params) (flat_map block_meanings f.blocks) (in-map param_meaning param f.params h)) (once n f param.1 stands)
