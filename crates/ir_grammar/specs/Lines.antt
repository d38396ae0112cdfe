-- The instruction lines (LLVM Language Reference, 'Instruction Reference'): what the tokens of a line inside a
-- function stand for.
--
-- Choices: one form for each instruction: first those with a result, then those without. In an instruction that a line
-- stands for, a name is told by the place where it begins in the line. Memory orders, alignments, attributes,
-- words of linkage and metadata are read and dropped. How many brackets may stand open is said apart from the forms (`Fitting`).
use Rattle.std.specs.Prelude.{ℕ, nat_eq, ◌||◌, not, Bool, true, false, List, [], ◌∷◌, codes, Option, Some, None, if◌then◌else◌}
use Rattle.std.specs.List.{starts_with}
use Rattle.ir_core.specs.declared.text.TokKind.TheVariants.{At}
use Rattle.ir_core.specs.declared.types.Width.{Width}
use Rattle.ir_core.specs.declared.types.Width.TheVariants.{W1}
use Rattle.ir_core.specs.declared.types.Loc.{Loc}
use Rattle.ir_core.specs.declared.types.Sym.{Sym}
use Rattle.ir_core.specs.declared.types.Ty.{Ty}
use Rattle.ir_core.specs.declared.types.Ty.TheVariants as types
use Rattle.ir_core.specs.declared.values.Val.{Val}
use Rattle.ir_core.specs.declared.instruction.BinOp.{BinOp}
use Rattle.ir_core.specs.declared.instruction.CastOp.{CastOp}
use Rattle.ir_core.specs.declared.instruction.Inst.{Inst}
use Rattle.ir_core.specs.declared.instruction.Inst.TheVariants as insts
use Rattle.ir_grammar.specs.declared.heads.FlagSet.TheVariants.{Binary, Cast, Gep, Icmp}
use Rattle.ir_grammar.specs.declared.heads.ResultOpcode.{ResultOpcode}
use Rattle.ir_grammar.specs.declared.heads.ResultOpcode.TheVariants as results
use Rattle.ir_grammar.specs.declared.heads.PlainOpcode.{PlainOpcode}
use Rattle.ir_grammar.specs.declared.heads.PlainOpcode.TheVariants as plain
use Rattle.ir_grammar.specs.Parts.{Tok, Part, gives, one, ◌>>=◌, either, more, optional, heads as starts}
use Rattle.ir_grammar.specs.Tokens.{is_word, is_punct, is_hash, is_local, name_place, keyword, punct, local, equals, comma, open_paren, close_paren, open_bracket, close_bracket, open_brace, close_brace}
use Rattle.ir_grammar.specs.Numbers.{count}
use Rattle.ir_grammar.specs.Words.{in_table, pred_word, rmw_word, flags, result_opcode_word, plain_opcode_word}
use Rattle.ir_grammar.specs.Types.{width, scalar, memory_type, rmw_type, width_text, scalar_text, listed, any_type, result_type}
use Rattle.ir_grammar.specs.Values.{integer, value}
use Rattle.ir_grammar.specs.Tails.{order, order_of, attributes, goes_on, finished, aligned}

-- ---- operands

-- `ptr V`
unfoldable pub pointer : Part Val
pointer = keyword (codes "ptr") >>= λ _. value types.Ptr

unfoldable pub comma_pointer : Part Val
comma_pointer = punct comma >>= λ _. pointer

-- `, V` behind an operand of the same type
unfoldable pub comma_operand : Ty → Part Val
comma_operand ty = punct comma >>= λ _. value ty

-- `, T V`, where T is the word of that type
unfoldable pub comma_same : Ty → Part Val
comma_same ty = punct comma >>= λ _. keyword (scalar_text ty) >>= λ _. value ty

-- `label %L`
unfoldable pub label : Part Loc
label = keyword (codes "label") >>= λ _. local

unfoldable pub comma_label : Part Loc
comma_label = punct comma >>= λ _. label

-- `, iN V`
unfoldable pub index : Part (Width × Val)
index = punct comma >>= λ _. width >>= λ w. value (types.Int w) >>= λ v. gives (w, v)

-- indices, and behind them those that follow
abbrev pub more_indices : List (Width × Val) → Part (List (Width × Val))
more_indices indices = more indices goes_on index

-- ---- lines with a result

unfoldable pub binary : Loc → BinOp → Part Inst
binary dst op =
    flags (Binary op) >>= λ kept. width >>= λ w. value (types.Int w) >>= λ a. comma_operand (types.Int w) >>= λ b.
    finished (insts.Bin dst op kept w a b)

unfoldable pub comparison : Loc → Part Inst
comparison dst =
    flags Icmp >>= λ _. one (in_table pred_word) >>= λ pred. scalar >>= λ ty. value ty >>= λ a. comma_operand ty >>= λ b.
    finished (insts.Cmp dst pred ty a b)

unfoldable pub selection : Loc → Part Inst
selection dst =
    keyword (codes "i1") >>= λ _. value (types.Int W1) >>= λ cond. punct comma >>= λ _. scalar >>= λ ty. value ty >>= λ a. comma_same ty >>= λ b.
    finished (insts.Select dst cond ty a b)

unfoldable pub conversion : Loc → CastOp → Part Inst
conversion dst op =
    flags (Cast op) >>= λ _. any_type >>= λ source. value source >>= λ a. keyword (codes "to") >>= λ _. any_type >>= λ target.
    finished (insts.Cast dst op source a target)

unfoldable pub element : Loc → Part Inst
element dst =
    flags Gep >>= λ _. any_type >>= λ base. comma_pointer >>= λ ptr. index >>= λ first. more_indices (first ∷ []) >>= λ all.
    finished (insts.Gep dst base ptr all)

unfoldable pub allocation : Loc → Part Inst
allocation dst = any_type >>= λ ty. aligned (insts.Alloca dst ty)

unfoldable pub loading : Loc → Part Inst
loading dst =
    optional (is_word (codes "atomic")) >>= λ atomic. memory_type >>= λ ty. comma_pointer >>= λ ptr. order_of atomic >>= λ _.
    aligned (insts.Load dst ty ptr atomic)

unfoldable pub updating : Loc → Part Inst
updating dst =
    one (in_table rmw_word) >>= λ op. pointer >>= λ ptr. punct comma >>= λ _. rmw_type op >>= λ ty. value ty >>= λ v. order >>= λ _.
    aligned (insts.Rmw dst op ptr ty v)

unfoldable pub exchange : Loc → Part Inst
exchange dst =
    optional (is_word (codes "weak")) >>= λ _. pointer >>= λ ptr. punct comma >>= λ _. memory_type >>= λ ty. value ty >>= λ old. comma_same ty >>= λ new. order >>= λ _. order >>= λ _.
    aligned (insts.CmpXchg dst ptr ty old new)

unfoldable pub extraction : Loc → Part Inst
extraction dst =
    punct open_brace >>= λ _. any_type >>= λ elem. punct comma >>= λ _. keyword (codes "i1") >>= λ _. punct close_brace >>= λ _. local >>= λ pair. punct comma >>= λ _. count 2 >>= λ n.
    finished (insts.Extract dst elem pair n)

-- `[ V , %L ]`
unfoldable pub arm : Ty → Part (Val × Loc)
arm ty = punct open_bracket >>= λ _. value ty >>= λ v. punct comma >>= λ _. local >>= λ from. punct close_bracket >>= λ _. gives (v, from)

-- arms, and behind them those that follow
abbrev pub more_arms : Ty → List (Val × Loc) → Part (List (Val × Loc))
more_arms ty arms = more arms goes_on (punct comma >>= λ _. arm ty)

unfoldable pub phi : Loc → Part Inst
phi dst =
    scalar >>= λ ty. arm ty >>= λ first. more_arms ty (first ∷ []) >>= λ all.
    finished (insts.Phi dst ty all)

-- ---- calls, with a result and without

-- The names of the debugger's and the lifetimes' functions don't fit a call.
abbrev pub is_callee : List ℕ → Bool
is_callee name = not (starts_with nat_eq name (codes "@llvm.dbg.") || starts_with nat_eq name (codes "@llvm.lifetime."))

abbrev pub callee_of : Tok → Option Sym
callee_of t = elim t.kind as (λ _. Option Sym) [ At ↦ if is_callee t.text then Some (record { 0 = name_place t }) else None | _ ↦ None ]

unfoldable pub argument : Part (Ty × Val)
argument = any_type >>= λ ty. attributes false >>= λ _. value ty >>= λ v. gives (ty, v)

abbrev pub callee : Part Sym
callee = one callee_of

-- `@f ( T V , .. )`
unfoldable pub call_operands : Part (Sym × List (Ty × Val))
call_operands = callee >>= λ sym. punct open_paren >>= λ _. listed close_paren argument >>= λ args. gives (sym, args)

unfoldable pub call : Option Loc → Part Inst
call dst =
    attributes true >>= λ _. result_type >>= λ ret. call_operands >>= λ x. optional is_hash >>= λ _.
    finished (insts.Call dst ret x.0 x.1)

unfoldable pub marked_call : Option Loc → Part Inst
marked_call dst = keyword (codes "call") >>= λ _. call dst

-- ---- lines without a result

unfoldable pub storing : Part Inst
storing =
    optional (is_word (codes "atomic")) >>= λ atomic. memory_type >>= λ ty. value ty >>= λ v. comma_pointer >>= λ ptr. order_of atomic >>= λ _.
    aligned (insts.Store ty v ptr atomic)

unfoldable pub fencing : Part Inst
fencing = order >>= λ _. finished insts.Fence

-- `br label %L`
abbrev pub jump : Part Inst
jump = label >>= λ to. finished (insts.Br to)

-- `br i1 V, label %L, label %L`
abbrev pub conditional : Part Inst
conditional = keyword (codes "i1") >>= λ _. value (types.Int W1) >>= λ cond. comma_label >>= λ yes. comma_label >>= λ no. finished (insts.CondBr cond yes no)

unfoldable pub branch : Part Inst
branch = either (starts (is_word (codes "label"))) jump conditional

-- `iN K , label %L`
unfoldable pub arm_of_switch : Width → Part (ℕ × Loc)
arm_of_switch w = keyword (width_text w) >>= λ _. integer w >>= λ n. comma_label >>= λ to. gives (n, to)

-- cases, and behind them those that follow, up to the closing bracket
abbrev pub more_cases : Width → List (ℕ × Loc) → Part (List (ℕ × Loc))
more_cases w cases = more cases (starts (λ t. not (is_punct close_bracket t))) (arm_of_switch w)

-- the cases in their brackets
unfoldable pub switch_cases : Width → Part (List (ℕ × Loc))
switch_cases w = punct open_bracket >>= λ _. more_cases w [] >>= λ cases. punct close_bracket >>= λ _. gives cases

unfoldable pub switching : Part Inst
switching =
    width >>= λ w. value (types.Int w) >>= λ on. comma_label >>= λ default. switch_cases w >>= λ cases.
    finished (insts.Switch (types.Int w) on default cases)

-- `ret void`
abbrev pub plain_return : Part Inst
plain_return = keyword (codes "void") >>= λ _. finished (insts.Ret types.Void None)

-- `ret T V`
abbrev pub value_return : Part Inst
value_return = any_type >>= λ ty. value ty >>= λ v. finished (insts.Ret ty (Some v))

unfoldable pub returning : Part Inst
returning = either (starts (is_word (codes "void"))) plain_return value_return

-- ---- all lines

abbrev pub line_with : Loc → ResultOpcode → Part Inst
line_with dst (results.Bin op) = binary dst op
line_with dst results.Icmp = comparison dst
line_with dst results.Select = selection dst
line_with dst (results.Cast op) = conversion dst op
line_with dst results.Gep = element dst
line_with dst results.Alloca = allocation dst
line_with dst results.Load = loading dst
line_with dst results.Rmw = updating dst
line_with dst results.CmpXchg = exchange dst
line_with dst results.Extract = extraction dst
line_with dst results.Call = call (Some dst)
line_with dst results.MarkedCall = marked_call (Some dst)
line_with dst results.Phi = phi dst

abbrev pub line_without : PlainOpcode → Part Inst
line_without plain.Store = storing
line_without plain.Fence = fencing
line_without plain.Call = call None
line_without plain.MarkedCall = marked_call None
line_without plain.Br = branch
line_without plain.Switch = switching
line_without plain.Ret = returning
line_without plain.Unreachable = finished insts.Unreachable

-- `%x = ..`
unfoldable pub result_line : Part Inst
result_line = local >>= λ dst. punct equals >>= λ _. one (in_table result_opcode_word) >>= line_with dst

-- a line that begins with its opcode
abbrev pub plain_line : Part Inst
plain_line = one (in_table plain_opcode_word) >>= line_without

-- an instruction line
unfoldable pub instruction : Part Inst
instruction = either (starts is_local) result_line plain_line
