-- The words of instruction lines, and what they stand for.
use Rattle.std.specs.Prelude.{ℕ, true, false, List, [], ◌∷◌, codes, Option, Some, None, option_and_then, option_map, fold, if◌then◌else◌}
use Rattle.std.specs.Str.{bytes_eq}
use Rattle.ir_core.specs.declared.instruction.BinOp.{BinOp}
use Rattle.ir_core.specs.declared.instruction.BinOp.TheVariants.{Add, Sub, Mul, Udiv, Sdiv, Urem, Srem, Shl, Lshr, Ashr, And, Or, Xor}
use Rattle.ir_core.specs.declared.instruction.Pred.{Pred}
use Rattle.ir_core.specs.declared.instruction.Pred.TheVariants.{Eq, Ne, Ugt, Uge, Ult, Ule, Sgt, Sge, Slt, Sle}
use Rattle.ir_core.specs.declared.instruction.CastOp.{CastOp}
use Rattle.ir_core.specs.declared.instruction.CastOp.TheVariants.{Zext, Sext, Trunc, Ptrtoint, Inttoptr}
use Rattle.ir_core.specs.declared.instruction.RmwOp.{RmwOp}
use Rattle.ir_core.specs.declared.instruction.RmwOp.TheVariants as rmw
use Rattle.ir_core.specs.declared.instruction.Flags.{Flags}
use Rattle.ir_grammar.specs.declared.heads.Flag.{Flag}
use Rattle.ir_grammar.specs.declared.heads.Flag.TheVariants.{Nuw, Nsw, Exact, Dropped}
use Rattle.ir_grammar.specs.declared.heads.FlagSet.{FlagSet}
use Rattle.ir_grammar.specs.declared.heads.FlagSet.TheVariants.{Binary, Cast, Gep, Icmp}
use Rattle.ir_grammar.specs.declared.heads.AttributeHead.{AttributeHead}
use Rattle.ir_grammar.specs.declared.heads.AttributeHead.TheVariants.{Whole, Align, Sized, Captures}
use Rattle.ir_grammar.specs.declared.heads.ResultOpcode.{ResultOpcode}
use Rattle.ir_grammar.specs.declared.heads.ResultOpcode.TheVariants as results
use Rattle.ir_grammar.specs.declared.heads.PlainOpcode.{PlainOpcode}
use Rattle.ir_grammar.specs.declared.heads.PlainOpcode.TheVariants as plain
use Rattle.ir_grammar.specs.Parts.{Tok, Part, seen, all_of}
use Rattle.ir_grammar.specs.Tokens.{word_of}

-- what a table says of a word
abbrev pub entry : {A : Type 0} → List (List ℕ × A) → List ℕ → Option A
entry [] word = None
entry (row ∷ rows) word = if bytes_eq word row.0 then Some row.1 else entry rows word

-- what a table says of a token that is a word
abbrev pub in_table : {A : Type 0} → (List ℕ → Option A) → Tok → Option A
in_table table t = option_and_then table (word_of t)

-- ---- operators (LLVM Language Reference, 'Binary Operations', 'Bitwise Binary Operations')

abbrev pub binop_word : List ℕ → Option BinOp
binop_word = entry ((codes "add", Add) ∷ (codes "sub", Sub) ∷ (codes "mul", Mul) ∷ (codes "udiv", Udiv) ∷ (codes "sdiv", Sdiv) ∷ (codes "urem", Urem) ∷ (codes "srem", Srem) ∷ (codes "shl", Shl) ∷ (codes "lshr", Lshr) ∷ (codes "ashr", Ashr) ∷ (codes "and", And) ∷ (codes "or", Or) ∷ (codes "xor", Xor) ∷ [])

-- LLVM Language Reference, 'icmp' Instruction
abbrev pub pred_word : List ℕ → Option Pred
pred_word = entry ((codes "eq", Eq) ∷ (codes "ne", Ne) ∷ (codes "ugt", Ugt) ∷ (codes "uge", Uge) ∷ (codes "ult", Ult) ∷ (codes "ule", Ule) ∷ (codes "sgt", Sgt) ∷ (codes "sge", Sge) ∷ (codes "slt", Slt) ∷ (codes "sle", Sle) ∷ [])

-- LLVM Language Reference, 'Conversion Operations'
abbrev pub cast_word : List ℕ → Option CastOp
cast_word = entry ((codes "zext", Zext) ∷ (codes "sext", Sext) ∷ (codes "trunc", Trunc) ∷ (codes "ptrtoint", Ptrtoint) ∷ (codes "inttoptr", Inttoptr) ∷ [])

-- LLVM Language Reference, 'atomicrmw' Instruction
abbrev pub rmw_word : List ℕ → Option RmwOp
rmw_word = entry ((codes "xchg", rmw.Xchg) ∷ (codes "add", rmw.Add) ∷ (codes "sub", rmw.Sub) ∷ (codes "and", rmw.And) ∷ (codes "or", rmw.Or) ∷ (codes "xor", rmw.Xor) ∷ (codes "nand", rmw.Nand) ∷ (codes "max", rmw.Max) ∷ (codes "min", rmw.Min) ∷ (codes "umax", rmw.Umax) ∷ (codes "umin", rmw.Umin) ∷ [])

-- ---- flags

-- The flags of an operator. Those of its poison are kept; no other one fits.
abbrev pub binop_flags : BinOp → List (List ℕ × Flag)
binop_flags Add = (codes "nuw", Nuw) ∷ (codes "nsw", Nsw) ∷ []
binop_flags Sub = (codes "nuw", Nuw) ∷ (codes "nsw", Nsw) ∷ []
binop_flags Mul = (codes "nuw", Nuw) ∷ (codes "nsw", Nsw) ∷ []
binop_flags Shl = (codes "nuw", Nuw) ∷ (codes "nsw", Nsw) ∷ []
binop_flags Udiv = (codes "exact", Exact) ∷ []
binop_flags Sdiv = (codes "exact", Exact) ∷ []
binop_flags Lshr = (codes "exact", Exact) ∷ []
binop_flags Ashr = (codes "exact", Exact) ∷ []
binop_flags Or = (codes "disjoint", Dropped) ∷ []
binop_flags op = []

-- the flags that are read and dropped
abbrev pub cast_flags : CastOp → List (List ℕ × Flag)
cast_flags Zext = (codes "nneg", Dropped) ∷ []
cast_flags Trunc = (codes "nuw", Dropped) ∷ (codes "nsw", Dropped) ∷ []
cast_flags op = []

abbrev pub gep_flags : List (List ℕ × Flag)
gep_flags = (codes "inbounds", Dropped) ∷ (codes "nusw", Dropped) ∷ (codes "nuw", Dropped) ∷ []

abbrev pub icmp_flags : List (List ℕ × Flag)
icmp_flags = (codes "samesign", Dropped) ∷ []

abbrev pub flag_rows : FlagSet → List (List ℕ × Flag)
flag_rows (Binary op) = binop_flags op
flag_rows (Cast op) = cast_flags op
flag_rows Gep = gep_flags
flag_rows Icmp = icmp_flags

-- a flag of the set
abbrev pub flag_of : FlagSet → Tok → Option Flag
flag_of set = in_table (entry (flag_rows set))

-- the kept flags of a list, in any order, repeats too
abbrev pub with_flag : Flags → Flag → Flags
with_flag flags Nuw = record flags { nuw = true }
with_flag flags Nsw = record flags { nsw = true }
with_flag flags Exact = record flags { exact = true }
with_flag flags Dropped = flags

abbrev pub no_flags : Flags
no_flags = record { nuw = false; nsw = false; exact = false }

-- flags of the set, any number of them
unfoldable pub flags : FlagSet → Part Flags
flags set = seen (fold with_flag no_flags) (all_of (flag_of set))

-- ---- orders (LLVM Language Reference, 'Atomic Memory Ordering Constraints')

abbrev pub orders : List (List ℕ)
orders = codes "unordered" ∷ codes "monotonic" ∷ codes "acquire" ∷ codes "release" ∷ codes "acq_rel" ∷ codes "seq_cst" ∷ []

-- ---- words and attributes that are read and dropped

-- how a function is linked and called
abbrev pub linkage_words : List (List ℕ)
linkage_words = codes "private" ∷ codes "internal" ∷ codes "common" ∷ codes "weak" ∷ codes "linkonce_odr" ∷ codes "dso_local" ∷ codes "local_unnamed_addr" ∷ codes "unnamed_addr" ∷ codes "hidden" ∷ codes "protected" ∷ codes "default" ∷ codes "ccc" ∷ codes "fastcc" ∷ []

-- LLVM Language Reference, 'Parameter Attributes'
abbrev pub attribute_words : List (List ℕ)
attribute_words = codes "noundef" ∷ codes "signext" ∷ codes "zeroext" ∷ codes "nonnull" ∷ codes "noalias" ∷ codes "nocapture" ∷ codes "readonly" ∷ codes "readnone" ∷ codes "writeonly" ∷ codes "returned" ∷ []

abbrev pub rows_of : {A : Type 0} → A → List (List ℕ) → List (List ℕ × A)
rows_of a [] = []
rows_of a (word ∷ words) = (word, a) ∷ rows_of a words

abbrev pub attribute_rows : List (List ℕ × AttributeHead)
attribute_rows = (codes "align", Align) ∷ (codes "dereferenceable", Sized) ∷ (codes "dereferenceable_or_null", Sized) ∷ (codes "captures", Captures) ∷ rows_of Whole attribute_words

-- ---- opcodes

abbrev pub or_else : {A : Type 0} → Option A → Option A → Option A
or_else None b = b
or_else (Some a) b = Some a

-- the opcodes beside operators and casts
abbrev pub other_opcode_word : List ℕ → Option ResultOpcode
other_opcode_word = entry ((codes "icmp", results.Icmp) ∷ (codes "select", results.Select) ∷ (codes "getelementptr", results.Gep) ∷ (codes "alloca", results.Alloca) ∷ (codes "load", results.Load) ∷ (codes "atomicrmw", results.Rmw) ∷ (codes "cmpxchg", results.CmpXchg) ∷ (codes "extractvalue", results.Extract) ∷ (codes "call", results.Call) ∷ (codes "tail", results.MarkedCall) ∷ (codes "notail", results.MarkedCall) ∷ (codes "phi", results.Phi) ∷ [])

abbrev pub result_opcode_word : List ℕ → Option ResultOpcode
result_opcode_word word = or_else (option_map results.Bin (binop_word word)) (or_else (option_map results.Cast (cast_word word)) (other_opcode_word word))

abbrev pub plain_opcode_word : List ℕ → Option PlainOpcode
plain_opcode_word = entry ((codes "store", plain.Store) ∷ (codes "fence", plain.Fence) ∷ (codes "call", plain.Call) ∷ (codes "tail", plain.MarkedCall) ∷ (codes "notail", plain.MarkedCall) ∷ (codes "br", plain.Br) ∷ (codes "switch", plain.Switch) ∷ (codes "ret", plain.Ret) ∷ (codes "unreachable", plain.Unreachable) ∷ [])
