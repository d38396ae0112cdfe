-- Of the functions of a module that a text stands for: blocks have labels' lines, instructions ordinary lines, and registers names.
use Rattle.std.proofs.Common.{ℕ, ◌≡◌, ◌<◌, true, List, [], ◌∷◌, ◌++◌, length, map, Option, Some, None, refl, sym, ap, ◌∙◌, subst, arith}
use Rattle.std.specs.Prelude.{codes}
use Rattle.std.specs.List.{AllByRecursion}
use Rattle.std.specs.Fmt.{decimal}
use Rattle.std.proofs.lemmas.Fmt.{decimal_nonempty}
use Rattle.ir_core.specs.declared.text.TokKind.{TokKind}
use Rattle.ir_core.specs.declared.text.TokKind.TheVariants.{Word, Local, At, Label, Num, Bytes, Str, Hash, Bang, Punct}
use Rattle.ir_core.specs.declared.text.Token.{Token}
use Rattle.ir_core.specs.declared.types.Loc.{Loc}
use Rattle.ir_core.specs.declared.types.Ty.{Ty}
use Rattle.ir_core.specs.declared.values.Val.{Val}
use Rattle.ir_core.specs.declared.values.Val.TheVariants as values
use Rattle.ir_core.specs.declared.instruction.Inst.{Inst}
use Rattle.ir_core.specs.declared.instruction.Inst.TheVariants as insts
use Rattle.ir_core.specs.declared.instruction.Block.{Block}
use Rattle.ir_core.specs.Module.{ModuleParts, FuncParts}
use Rattle.ir_core.specs.Names.{number_given}
use Rattle.ir_core.specs.Tokens.{is_name, IsToken}
use Rattle.ir_core.specs.TokenLengths.{name_from}
use Rattle.ir_core.proofs.LongestName.{name_from-some}
use Rattle.ir_grammar.specs.Tokens.{token_of, tokens_of}
use Rattle.ir_numbering.specs.Renaming.{Renaming, renamed_loc, renamed_val, renamed_inst, renamed_args, renamed_block, renamed_param}
use Rattle.ir_numbering.specs.Numbers.{renaming_of}
use Rattle.ir_parse_top.specs.Sheet.{numerals, with_numerals, numeral_at}
use Rattle.ir_parse_top.proofs.NumeralLaws.{numerals_read}
use Rattle.hard_ir.specs.Image.{checked, single_result}
use Rattle.hard_ir.specs.Lines.{HasKind}
use Rattle.hard_ir.specs.Standing.{Tables, tables_of, HasNumbers, HasLabelLine}
use Rattle.hard_grammar.proofs.Ordinary.{HasOrdinaryLine, all_map}
use Rattle.hard_grammar.proofs.LineTokens.{IsSound, IsRead}
use Rattle.hard_grammar.proofs.Parameters.{AreValues}
use Rattle.hard_grammar.proofs.TextLines.{IsTold, IsLabel, Written, Unwritten, IsNameAt, names_at, IsParam, Named, Numbered, AreParams, IsToldBlock}
use Rattle.hard_grammar.proofs.WrittenNames.{NameOf, NamesOf, NamesIn, names_written}
use Rattle.hard_grammar.proofs.OwnLines.{IsNamed}
use Rattle.hard_grammar.proofs.LateLines.{LateLine, late_line}
use Rattle.hard_grammar.proofs.WrittenTypes.{WritesWord, writes_numbered}

-- ---- what is known of instructions and blocks

-- an operand that is a register has a name
abbrev pub NamedVal : Tables → Val → Type 0
NamedVal tables (values.Reg reg) = IsNamed tables reg
NamedVal tables val = Unit {0}

abbrev pub NamedOperand : Tables → Ty × Val → Type 0
NamedOperand tables operand = NamedVal tables operand.1

abbrev pub NamedResult : Tables → Option (Ty × Loc) → Type 0
NamedResult tables None = Unit {0}
NamedResult tables (Some reg) = IsNamed tables reg.1

abbrev pub NamedParam : Tables → Ty × Loc → Type 0
NamedParam tables param = IsNamed tables param.1

pub record InstFacts (tables : Tables) (inst : Inst) : Type 0 where
  pub ordinary : HasOrdinaryLine tables inst
  pub operands : AllByRecursion (NamedOperand tables) (checked inst)
  pub result : NamedResult tables (single_result inst)
  pub written : WritesWord inst
  pub late : LateLine tables inst

pub record BlockFacts (tables : Tables) (block : Block) : Type 0 where
  pub label : HasLabelLine tables block.label
  pub insts : AllByRecursion (InstFacts tables) block.insts

pub record FuncFacts (tables : Tables) (f : FuncParts) : Type 0 where
  pub entry : f.blocks ≡ [] → ⊥
  pub params : AllByRecursion (NamedParam tables) f.params
  pub values : AreValues f.params
  pub each : AllByRecursion (BlockFacts tables) f.blocks

-- ---- names

label_made : (name : List ℕ) → is_name name ≡ true → IsToken true Label (name ++ codes ":")
unfolding IsToken
label_made name e = (refl, record { begin = name; whole = refl; passes = e })

module _ (text : List ℕ) (count : ℕ) (table : ModuleParts) (f : FuncParts) where
  abbrev whole : List ℕ
  whole = with_numerals count text

  abbrev names : Renaming
  names = renaming_of whole table f

  abbrev tables : Tables
  tables = tables_of table f

  abbrev Name : Loc → Type 0
  Name = IsNameAt text (numerals 0 count)

  named : (at : Loc) → Name at → IsNamed tables (renamed_loc names at)
  named at is = record { name = name_from whole at.0; is = is; number = refl }

  sound_numbered : (t : Token) → IsSound text whole t → HasNumbers tables 1 names (token_of text t)
  sound_numbered t h = by t.kind (token_of text t).text t.start h.name
    where
      by : (kind : TokKind) (own : List ℕ) (at : ℕ) → IsRead whole at own kind → HasNumbers tables 1 names (record { kind = kind; text = own; at = at })
      by Local own at h = (ap (number_given f.names) h, ap (number_given table.type_names) h)
      by At own at h = ap (number_given table.syms) h
      by Word own at h = tt
      by Label own at h = tt
      by Num own at h = tt
      by Bytes own at h = tt
      by Str own at h = tt
      by Hash own at h = tt
      by Bang own at h = tt
      by Punct own at h = tt

  ordinary : (inst : Inst) → IsTold text (numerals 0 count) inst → HasOrdinaryLine tables (renamed_inst names inst)
  ordinary inst h = record {
    line = tokens_of text h.tokens;
    tree = inst;
    names = names;
    kinds = all_map (IsSound text whole) HasKind (token_of text) (λ t s. s.kind) h.tokens h.sound;
    stands = h.stands;
    numbered = all_map (IsSound text whole) (HasNumbers tables 1 names) (token_of text) sound_numbered h.tokens h.sound;
    is = refl;
  }

  named_val : (val : Val) → NameOf Name val → NamedVal tables (renamed_val names val)
  named_val (values.Reg reg) is = named reg is
  named_val (values.Int n) is = tt
  named_val values.Null is = tt
  named_val (values.Global sym) is = tt
  named_val (values.Gep gep) is = tt

  named_args : (args : List (Ty × Val)) → NamesOf Name args → AllByRecursion (NamedOperand tables) (renamed_args names args)
  named_args [] is = tt
  named_args (arg ∷ args) is = (named_val arg.1 is.0, named_args args is.1)

  named_operands : (inst : Inst) → NamesIn Name inst → AllByRecursion (NamedOperand tables) (checked (renamed_inst names inst))
  named_operands (insts.Bin dst op flags w a b) is = tt
  named_operands (insts.Cmp dst pred ty a b) is = tt
  named_operands (insts.Select dst cond ty a b) is = tt
  named_operands (insts.Cast dst op from a to) is = tt
  named_operands (insts.Gep dst base ptr index) is = tt
  named_operands (insts.Alloca dst ty) is = tt
  named_operands (insts.Load dst ty ptr atomic) is = (named_val ptr is.1, tt)
  named_operands (insts.Store ty val ptr atomic) is = (named_val ptr is.1, (named_val val is.0, tt))
  named_operands (insts.Rmw dst op ptr ty val) is = (named_val ptr is.1, (named_val val is.2, tt))
  named_operands (insts.CmpXchg dst ptr ty old new) is = (named_val ptr is.1, (named_val old is.2, (named_val new is.3, tt)))
  named_operands insts.Fence is = tt
  named_operands (insts.Extract dst elem pair index) is = tt
  named_operands (insts.Call dst ret callee args) is = named_args args is.1
  named_operands (insts.Phi dst ty arms) is = tt
  named_operands (insts.Br to) is = tt
  named_operands (insts.CondBr cond on_true on_false) is = (named_val cond is, tt)
  named_operands (insts.Switch ty on default cases) is = (named_val on is, tt)
  named_operands (insts.Ret ty None) is = tt
  named_operands (insts.Ret ty (Some val)) is = (named_val val is, tt)
  named_operands insts.Unreachable is = tt

  named_result : (inst : Inst) → NamesIn Name inst → NamedResult tables (single_result (renamed_inst names inst))
  named_result (insts.Bin dst op flags w a b) is = tt
  named_result (insts.Cmp dst pred ty a b) is = tt
  named_result (insts.Select dst cond ty a b) is = tt
  named_result (insts.Cast dst op from a to) is = tt
  named_result (insts.Gep dst base ptr index) is = tt
  named_result (insts.Alloca dst ty) is = named dst is
  named_result (insts.Load dst ty ptr atomic) is = named dst is.0
  named_result (insts.Store ty val ptr atomic) is = tt
  named_result (insts.Rmw dst op ptr ty val) is = named dst is.0
  named_result (insts.CmpXchg dst ptr ty old new) is = named dst is.0
  named_result insts.Fence is = tt
  named_result (insts.Extract dst elem pair index) is = tt
  named_result (insts.Call None ret callee args) is = tt
  named_result (insts.Call (Some dst) ret callee args) is = named dst is.0
  named_result (insts.Phi dst ty arms) is = tt
  named_result (insts.Br to) is = tt
  named_result (insts.CondBr cond on_true on_false) is = tt
  named_result (insts.Switch ty on default cases) is = tt
  named_result (insts.Ret ty val) is = tt
  named_result insts.Unreachable is = tt

  -- ---- blocks and functions

  numeral_named : (k : ℕ) → k < count → k < 10000000 → Name (numeral_at text k)
  numeral_named k within small =
      let read : name_from whole (numeral_at text k).0 ≡ decimal k = numerals_read text count k within small in
      let some : 0 < length (decimal k) = decimal_nonempty k (omega (arith, small)) in
      (name_from-some whole (numeral_at text k).0 (λ e. filled (decimal k) some (sym read ∙ e))).is
    where
      filled : (digits : List ℕ) → 0 < length digits → digits ≡ [] → ⊥
      filled [] lt e = omega (arith, lt)
      filled (b ∷ digits) lt e = cc

  unwritten : (k : ℕ) → k < count → k < 10000000 → IsToken true Label (name_from whole (numeral_at text k).0 ++ codes ":")
  unwritten k within small = label_made (name_from whole (numeral_at text k).0) (numeral_named k within small)

  label_line : (n : ℕ) (label : Loc) → n < count → n < 10000000 → IsLabel text (numerals 0 count) n label → HasLabelLine tables (renamed_loc names label)
  label_line n label within small h = record { name = name_from whole label.0; kind = by h; number = refl }
    where
      by : IsLabel text (numerals 0 count) n label → IsToken true Label (name_from whole label.0 ++ codes ":")
      by (Written is) = is
      by (Unwritten k le e) = subst (λ (at : Loc). IsToken true Label (name_from whole at.0 ++ codes ":")) (sym e) (unwritten k (omega (arith, le, within)) (omega (arith, le, small)))

  inst_facts : (inst : Inst) → IsTold text (numerals 0 count) inst → InstFacts tables (renamed_inst names inst)
  inst_facts inst h =
      let is = names_written Name (tokens_of text h.tokens) inst h.stands.is (names_at text (numerals 0 count) h.tokens h.sound) in
      record { ordinary = ordinary inst h; operands = named_operands inst is; result = named_result inst is; written = writes_numbered names (tokens_of text h.tokens) inst h.stands.is; late = late_line text count table f inst h is }

  pub block_facts : (n : ℕ) → n < count → n < 10000000 → (block : Block) → IsToldBlock text (numerals 0 count) n block → BlockFacts tables (renamed_block names block)
  block_facts n within small block h = record {
    label = label_line n block.label within small h.label;
    insts = all_map (IsTold text (numerals 0 count)) (InstFacts tables) (renamed_inst names) inst_facts block.insts h.insts;
  }

  param_named : (n : ℕ) (at : Loc) → n < count → n < 10000000 → IsParam text (numerals 0 count) n at → Name at
  param_named n at within small (Named is) = is
  param_named n at within small (Numbered k le e) = subst Name (sym e) (numeral_named k (omega (arith, le, within)) (omega (arith, le, small)))

  pub param_facts : (n : ℕ) → n < count → n < 10000000 → (params : List (Ty × Loc)) → AreParams text (numerals 0 count) n params → AllByRecursion (NamedParam tables) (map (renamed_param names) params)
  param_facts n within small [] told = tt
  param_facts n within small (param ∷ params) told = (named param.1 (param_named n param.1 within small told.0), param_facts n within small params told.1)
