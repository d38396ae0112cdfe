-- The parameters of a function of an accepted module that a text stands for are words, and so is what its instructions give, or it is
-- what a `cmpxchg` gives.
use Rattle.std.proofs.Common.{ℕ, ◌≡◌, Bool, true, false, not, ◌&&◌, List, [], ◌∷◌, map, cond, Option, Some, None, refl, sym, subst}
use Rattle.std.specs.Prelude.{nat_eq, if◌then◌else◌}
use Rattle.std.specs.List.{AllByRecursion, list_all, flat_map, filter_map, cons_option}
use Rattle.ir_core.proofs.Lengths.{both_true}
use Rattle.ir_core.specs.declared.types.Loc.{Loc}
use Rattle.ir_core.specs.declared.types.Sym.{Sym}
use Rattle.ir_core.specs.declared.types.Width.TheVariants.{W1}
use Rattle.ir_core.specs.declared.types.Ty.{Ty}
use Rattle.ir_core.specs.declared.types.Ty.TheVariants as types
use Rattle.ir_core.specs.declared.values.Val.{Val}
use Rattle.ir_core.specs.declared.instruction.Inst.{Inst}
use Rattle.ir_core.specs.declared.instruction.Inst.TheVariants as insts
use Rattle.ir_core.specs.declared.instruction.Block.{Block}
use Rattle.ir_core.specs.Module.{ModuleParts, FuncParts}
use Rattle.ir_lines.specs.SameTypes.{same_ty, same_types}
use Rattle.ir_types.specs.Firsts.{first_of}
use Rattle.ir_types.specs.Meanings.{Meaning, Pair, extracted, result_of, param_meaning, block_meanings, meanings}
use Rattle.ir_types.specs.Types.{operand_fits, typed_operands, is_pair_of, names_label, labels_in, form_fits, inst_fits, has_no_parts}
use Rattle.ir_calls.specs.Calls.{Standing, Variable, Declared, Defined, standings, first_standing, standing_of, takes, result_keeps, args_keep, external_named, inst_keeps}
use Rattle.hard_ir.specs.Standing.{Tables}
use Rattle.hard_grammar.proofs.Ordinary.{all_append, first_among}
use Rattle.hard_grammar.proofs.Words.{OneWord, AnInt, APtr, HasWordResult, HaveWordResults, AreWordParams, HasWords, plain_word, cast_word, same_plain_word}
use Rattle.hard_grammar.proofs.Parameters.{AreValues}
use Rattle.hard_grammar.proofs.WrittenTypes.{WritesWord}
use Rattle.hard_grammar.proofs.NumberedLines.{InstFacts, BlockFacts, FuncFacts}
use Rattle.hard_grammar.proofs.Accepted.{IsPlain, IsPlainStanding, FuncFits}
use Rattle.hard_grammar.proofs.Held.{same_word}

-- ---- parameters

params_words : (params : List (Ty × Loc)) → AreValues params → list_all has_no_parts (map (λ (param : Ty × Loc). param.0) params) ≡ true → AreWordParams params
params_words [] values plain = tt
params_words (param ∷ params) values plain =
    let h = both_true (has_no_parts param.0) (list_all has_no_parts (map (λ (param : Ty × Loc). param.0) params)) plain in
    (plain_word param.0 values.0 h.0, params_words params values.1 h.1)

-- ---- what a `cmpxchg` gives

abbrev IsPairWord : Meaning → Type 0
IsPairWord (Pair ty) = OneWord ty
IsPairWord other = Unit {0}

abbrev ArePairs : List (Loc × Meaning) → Type 0
ArePairs = AllByRecursion (λ entry. IsPairWord entry.1)

abbrev IsPairResult : Option (Loc × Meaning) → Type 0
IsPairResult None = Unit {0}
IsPairResult (Some result) = IsPairWord result.1

pair_result : (inst : Inst) → WritesWord inst → IsPairResult (result_of inst)
pair_result (insts.CmpXchg dst ptr ty old new) word = word
pair_result (insts.Call None ret callee args) word = tt
pair_result (insts.Call (Some dst) ret callee args) word = tt
pair_result inst word = tt

pair_word : (names : List (Loc × Meaning)) (elem : Ty) (at : Loc) → ArePairs names → is_pair_of elem (first_of names at) ≡ true → OneWord elem
pair_word names elem at pairs e = by (first_of names at) refl e
  where
    by : (o : Option Meaning) → first_of names at ≡ o → is_pair_of elem o ≡ true → OneWord elem
    by (Some (Pair own)) h f = same_word (first_among IsPairWord names at (Pair own) pairs h) elem f
    by other h f = absurd cc

-- ---- what a call gives

callee_plain : (sym : Sym) (named : List (Sym × Standing)) (standing : Standing) → AllByRecursion IsPlainStanding named
    → first_standing sym named ≡ Some standing → IsPlain standing
callee_plain sym [] standing plain e = absurd cc
callee_plain sym (other ∷ named) standing plain e = by (nat_eq other.0.0 sym.0) e (callee_plain sym named standing plain.1)
  where
    by : (t : Bool) → ◌≡◌ {A = Option Standing} (cond t (Some other.1) (first_standing sym named)) (Some standing)
        → (first_standing sym named ≡ Some standing → IsPlain standing) → IsPlain standing
    by true h rest = let same : other.1 ≡ standing = cc in subst IsPlain same plain.0
    by false h rest = rest h

called_word : (standing : Standing) (ret : Ty) (args : List Ty) → IsPlain standing → takes (Some standing) ret args ≡ true
    → not (same_ty ret types.Void) ≡ true → OneWord ret
called_word Variable ret args plain e some = absurd cc
called_word (Declared signature) ret args plain e some =
    same_plain_word ret signature.result (both_true (same_ty ret signature.result) (same_types args signature.params) e).0 plain some
called_word (Defined signature) ret args plain e some =
    same_plain_word ret signature.result (both_true (same_ty ret signature.result) (same_types args signature.params) e).0 plain some

module _ (m : ModuleParts) (f : FuncParts) (tables : Tables) (callees : AllByRecursion IsPlainStanding (standings m)) where
  call_word : (dst : Loc) (ret : Ty) (callee : Sym) (args : List (Ty × Val)) → inst_keeps m (insts.Call (Some dst) ret callee args) ≡ true → OneWord ret
  call_word dst ret callee args e = by (standing_of m callee) refl w.0
    where
      types_of : List Ty
      types_of = map (λ (arg : Ty × Val). arg.0) args

      v : (takes (standing_of m callee) ret types_of && result_keeps (Some dst) ret ≡ true) × (args_keep m (external_named m callee) args ≡ true)
      v = both_true (takes (standing_of m callee) ret types_of && result_keeps (Some dst) ret) (args_keep m (external_named m callee) args) e

      w : (takes (standing_of m callee) ret types_of ≡ true) × (not (same_ty ret types.Void) ≡ true)
      w = both_true (takes (standing_of m callee) ret types_of) (result_keeps (Some dst) ret) v.0

      by : (o : Option Standing) → standing_of m callee ≡ o → takes o ret types_of ≡ true → OneWord ret
      by None h g = absurd cc
      by (Some standing) h g = called_word standing ret types_of (callee_plain callee (standings m) standing callees h) g w.1

  -- ---- instructions

  extracted_word : (elem : Ty) (index : ℕ) → OneWord elem → OneWord (extracted elem index)
  extracted_word elem index word = by (nat_eq index 0)
    where
      by : (t : Bool) → OneWord (if t then elem else types.Int W1)
      by true = word
      by false = AnInt W1

  result_word : (inst : Inst) → ArePairs (meanings f) → form_fits m.types (meanings f) f.ret inst ≡ true → inst_keeps m inst ≡ true
      → WritesWord inst → HasWordResult inst
  result_word (insts.Bin dst op flags w a b) pairs form call word = AnInt w
  result_word (insts.Cmp dst pred ty a b) pairs form call word = AnInt W1
  result_word (insts.Select dst c ty a b) pairs form call word = word
  result_word (insts.Cast dst op source a target) pairs form call word = cast_word op source target form
  result_word (insts.Gep dst base ptr index) pairs form call word = APtr
  result_word (insts.Alloca dst ty) pairs form call word = APtr
  result_word (insts.Load dst ty ptr atomic) pairs form call word = word
  result_word (insts.Rmw dst op ptr ty val) pairs form call word = word
  result_word (insts.CmpXchg dst ptr ty old new) pairs form call word = word
  result_word (insts.Extract dst elem pair index) pairs form call word = extracted_word elem index (pair_word (meanings f) elem pair pairs form)
  result_word (insts.Call None ret callee args) pairs form call word = tt
  result_word (insts.Call (Some dst) ret callee args) pairs form call word = call_word dst ret callee args call
  result_word (insts.Phi dst ty arms) pairs form call word = word
  result_word inst pairs form call word = tt

  form_of : (inst : Inst) → inst_fits m.types (meanings f) f.ret inst ≡ true → form_fits m.types (meanings f) f.ret inst ≡ true
  form_of inst e =
      let operands = list_all (operand_fits m.types (meanings f)) (typed_operands inst) in
      let labels = list_all (names_label (meanings f)) (labels_in inst) in
      (both_true (operands && labels) (form_fits m.types (meanings f) f.ret inst) e).1

  -- ---- functions

  abbrev AllFit : List Inst → Type 0
  AllFit = AllByRecursion (λ (inst : Inst). inst_fits m.types (meanings f) f.ret inst ≡ true)

  abbrev AllKeep : List Inst → Type 0
  AllKeep = AllByRecursion (λ (inst : Inst). inst_keeps m inst ≡ true)

  results_words : (body : List Inst) → ArePairs (meanings f) → AllFit body → AllKeep body → AllByRecursion (InstFacts tables) body
      → AllByRecursion HasWordResult body
  results_words [] pairs fit keep facts = tt
  results_words (inst ∷ body) pairs fit keep facts =
      (result_word inst pairs (form_of inst fit.0) keep.0 facts.0.written, results_words body pairs fit.1 keep.1 facts.1)

  blocks_words : (blocks : List Block) → ArePairs (meanings f) → AllByRecursion (λ (block : Block). AllFit block.insts) blocks
      → AllByRecursion (λ (block : Block). AllKeep block.insts) blocks → AllByRecursion (BlockFacts tables) blocks → HaveWordResults blocks
  blocks_words [] pairs fit keep facts = tt
  blocks_words (block ∷ blocks) pairs fit keep facts =
      (results_words block.insts pairs fit.0 keep.0 facts.0.insts, blocks_words blocks pairs fit.1 keep.1 facts.1)

  body_pairs : (body : List Inst) → AllByRecursion (InstFacts tables) body → ArePairs (filter_map result_of body)
  body_pairs [] facts = tt
  body_pairs (inst ∷ body) facts = by (result_of inst) (pair_result inst facts.0.written) (body_pairs body facts.1)
    where
      by : (o : Option (Loc × Meaning)) → IsPairResult o → ArePairs (filter_map result_of body) → ArePairs (cons_option o (filter_map result_of body))
      by None word rest = rest
      by (Some result) word rest = (word, rest)

  blocks_pairs : (blocks : List Block) → AllByRecursion (BlockFacts tables) blocks → ArePairs (flat_map block_meanings blocks)
  blocks_pairs [] facts = tt
  blocks_pairs (block ∷ blocks) facts =
      let here = body_pairs block.insts facts.0.insts in
      all_append (λ entry. IsPairWord entry.1) (block_meanings block) (flat_map block_meanings blocks) (tt, here) (blocks_pairs blocks facts.1)

  params_pairs : (params : List (Ty × Loc)) → ArePairs (map param_meaning params)
  params_pairs [] = tt
  params_pairs (param ∷ params) = (tt, params_pairs params)

  pub have_words : FuncFits m f → FuncFacts tables f → HasWords f
  have_words fits facts =
      let params = params_pairs f.params in
      let results = blocks_pairs f.blocks facts.each in
      let pairs = all_append (λ entry. IsPairWord entry.1) (map param_meaning f.params) (flat_map block_meanings f.blocks) params results in
      record { params = params_words f.params facts.values fits.params; results = blocks_words f.blocks pairs fits.fits fits.calls facts.each }
