-- Types that the line of an instruction writes by one word.
use Rattle.std.proofs.Common.{◌≡◌, ℕ, inl, inr, Bool, true, false, List, [], ◌∷◌, Option, Some, None, sym, subst}
use Rattle.std.specs.Prelude.{codes, option_and_then, if◌then◌else◌}
use Rattle.std.specs.List.{AllByRecursion}
use Rattle.std.specs.Str.{bytes_eq}
use Rattle.ir_core.specs.declared.types.Loc.{Loc}
use Rattle.ir_core.specs.declared.types.Width.TheVariants.{W1, W8, W16, W32, W64}
use Rattle.ir_core.specs.declared.types.Ty.{Ty}
use Rattle.ir_core.specs.declared.types.Ty.TheVariants as types
use Rattle.ir_core.specs.declared.instruction.RmwOp.{RmwOp}
use Rattle.ir_core.specs.declared.instruction.RmwOp.TheVariants as rmw
use Rattle.ir_core.specs.declared.instruction.Inst.{Inst}
use Rattle.ir_core.specs.declared.instruction.Inst.TheVariants as insts
use Rattle.ir_grammar.specs.declared.heads.ResultOpcode.{ResultOpcode}
use Rattle.ir_grammar.specs.declared.heads.ResultOpcode.TheVariants as results
use Rattle.ir_grammar.specs.declared.heads.PlainOpcode.{PlainOpcode}
use Rattle.ir_grammar.specs.declared.heads.PlainOpcode.TheVariants as plain
use Rattle.ir_grammar.specs.Parts.{Tok, IsOne}
use Rattle.ir_grammar.specs.Tokens.{word_of}
use Rattle.ir_grammar.specs.Words.{entry, in_table}
use Rattle.ir_grammar.specs.Types.{scalar_word, memory_word, number_word, rmw_type_word}
use Rattle.ir_grammar.specs.Lines.{binary, comparison, selection, conversion, element, allocation, loading, updating, exchange, extraction, call, marked_call, phi, storing, fencing, branch, switching, returning, line_with, line_without, result_line, instruction}
use Rattle.ir_numbering.specs.Renaming.{Renaming, renamed_inst}
use Rattle.hard_grammar.proofs.Words.{OneWord, AnInt, APtr}
use Rattle.hard_grammar.proofs.OwnLines.{word_renamed}

-- ---- words of tables

entry_all : {A : Type 0} (P : A → Type 0) (rows : List (List ℕ × A)) (word : List ℕ) (a : A) → AllByRecursion (λ row. P row.1) rows → entry rows word ≡ Some a → P a
entry_all P [] word a all e = absurd cc
entry_all {A} P (row ∷ rows) word a all e = by (bytes_eq word row.0) e (entry_all P rows word a all.1)
  where
    by : (t : Bool) → ◌≡◌ {A = Option A} (if t then Some row.1 else entry rows word) (Some a) → (entry rows word ≡ Some a → P a) → P a
    by true h rest = let same : row.1 ≡ a = cc in subst P same all.0
    by false h rest = rest h

pub one_word : (table : List ℕ → Option Ty) → ((word : List ℕ) (ty : Ty) → table word ≡ Some ty → OneWord ty) → (tokens : List Tok) (ty : Ty) → IsOne (in_table table) tokens ty → OneWord ty
one_word table all tokens ty h = by (word_of h.token) h.is
  where
    by : (o : Option (List ℕ)) → option_and_then table o ≡ Some ty → OneWord ty
    by None e = absurd cc
    by (Some word) e = all word ty e

abbrev number_rows : List (List ℕ × Ty)
number_rows = (codes "i8", types.Int W8) ∷ (codes "i16", types.Int W16) ∷ (codes "i32", types.Int W32) ∷ (codes "i64", types.Int W64) ∷ []

abbrev memory_rows : List (List ℕ × Ty)
memory_rows = (codes "i8", types.Int W8) ∷ (codes "i16", types.Int W16) ∷ (codes "i32", types.Int W32) ∷ (codes "i64", types.Int W64) ∷ (codes "ptr", types.Ptr) ∷ []

abbrev scalar_rows : List (List ℕ × Ty)
scalar_rows = (codes "i1", types.Int W1) ∷ (codes "i8", types.Int W8) ∷ (codes "i16", types.Int W16) ∷ (codes "i32", types.Int W32) ∷ (codes "i64", types.Int W64) ∷ (codes "ptr", types.Ptr) ∷ []

abbrev AreWords : List (List ℕ × Ty) → Type 0
AreWords = AllByRecursion (λ row. OneWord row.1)

scalars : (word : List ℕ) (ty : Ty) → scalar_word word ≡ Some ty → OneWord ty
scalars word ty = let all : AreWords scalar_rows = (AnInt W1, (AnInt W8, (AnInt W16, (AnInt W32, (AnInt W64, (APtr, tt)))))) in entry_all OneWord scalar_rows word ty all

pub memories : (word : List ℕ) (ty : Ty) → memory_word word ≡ Some ty → OneWord ty
memories word ty = let all : AreWords memory_rows = (AnInt W8, (AnInt W16, (AnInt W32, (AnInt W64, (APtr, tt))))) in entry_all OneWord memory_rows word ty all

numbers : (word : List ℕ) (ty : Ty) → number_word word ≡ Some ty → OneWord ty
numbers word ty = let all : AreWords number_rows = (AnInt W8, (AnInt W16, (AnInt W32, (AnInt W64, tt)))) in entry_all OneWord number_rows word ty all

updated : (op : RmwOp) (word : List ℕ) (ty : Ty) → rmw_type_word op word ≡ Some ty → OneWord ty
updated rmw.Xchg = memories
updated rmw.Add = numbers
updated rmw.Sub = numbers
updated rmw.And = numbers
updated rmw.Or = numbers
updated rmw.Xor = numbers
updated rmw.Nand = numbers
updated rmw.Max = numbers
updated rmw.Min = numbers
updated rmw.Umax = numbers
updated rmw.Umin = numbers

-- ---- instructions

-- the type of the result, where the line writes it by one word
abbrev pub WritesWord : Inst → Type 0
WritesWord (insts.Select dst cond ty a b) = OneWord ty
WritesWord (insts.Load dst ty ptr atomic) = OneWord ty
WritesWord (insts.Rmw dst op ptr ty val) = OneWord ty
WritesWord (insts.CmpXchg dst ptr ty old new) = OneWord ty
WritesWord (insts.Phi dst ty arms) = OneWord ty
WritesWord inst = Unit {0}

with_result : (dst : Loc) (op : ResultOpcode) (line : List Tok) (tree : Inst) → (line_with dst op).means line tree → WritesWord tree
unfolding binary comparison selection conversion element allocation loading updating exchange extraction call marked_call phi
with_result dst (results.Bin op) line tree h = subst WritesWord (sym h.second.second.second.second.seen) tt
with_result dst results.Icmp line tree h = subst WritesWord (sym h.second.second.second.second.second.seen) tt
with_result dst results.Select line tree h = subst WritesWord (sym h.second.second.second.second.second.second.seen) (one_word scalar_word scalars _ _ h.second.second.second.first)
with_result dst (results.Cast op) line tree h = subst WritesWord (sym h.second.second.second.second.second.seen) tt
with_result dst results.Gep line tree h = subst WritesWord (sym h.second.second.second.second.second.seen) tt
with_result dst results.Alloca line tree h = subst WritesWord (sym h.second.seen) tt
with_result dst results.Load line tree h = subst WritesWord (sym h.second.second.second.second.seen) (one_word memory_word memories _ _ h.second.first)
with_result dst results.Rmw line tree h = subst WritesWord (sym h.second.second.second.second.second.second.seen) (one_word (rmw_type_word h.value) (updated h.value) _ _ h.second.second.second.first)
with_result dst results.CmpXchg line tree h = subst WritesWord (sym h.second.second.second.second.second.second.second.second.seen) (one_word memory_word memories _ _ h.second.second.second.first)
with_result dst results.Extract line tree h = subst WritesWord (sym h.second.second.second.second.second.second.second.second.seen) tt
with_result dst results.Call line tree h = subst WritesWord (sym h.second.second.second.second.seen) tt
with_result dst results.MarkedCall line tree h = subst WritesWord (sym h.second.second.second.second.second.seen) tt
with_result dst results.Phi line tree h = subst WritesWord (sym h.second.second.second.seen) (one_word scalar_word scalars _ _ h.first)

without_result : (op : PlainOpcode) (line : List Tok) (tree : Inst) → (line_without op).means line tree → WritesWord tree
unfolding storing fencing call marked_call branch switching returning
without_result plain.Store line tree h = subst WritesWord (sym h.second.second.second.second.second.seen) tt
without_result plain.Fence line tree h = subst WritesWord (sym h.second.seen) tt
without_result plain.Call line tree h = subst WritesWord (sym h.second.second.second.second.seen) tt
without_result plain.MarkedCall line tree h = subst WritesWord (sym h.second.second.second.second.second.seen) tt
without_result plain.Br line tree (inl h) = subst WritesWord (sym h.second.seen) tt
without_result plain.Br line tree (inr h) = subst WritesWord (sym h.second.second.second.second.seen) tt
without_result plain.Switch line tree h = subst WritesWord (sym h.second.second.second.second.seen) tt
without_result plain.Ret line tree (inl h) = subst WritesWord (sym h.second.seen) tt
without_result plain.Ret line tree (inr h) = subst WritesWord (sym h.second.second.seen) tt
without_result plain.Unreachable line tree h = subst WritesWord (sym h.seen) tt

writes_word : (line : List Tok) (tree : Inst) → instruction.means line tree → WritesWord tree
unfolding instruction result_line
writes_word line tree (inl h) = with_result h.value h.second.second.value h.second.second.back tree h.second.second.second
writes_word line tree (inr h) = without_result h.value h.back tree h.second

-- and once its names are numbered
pub writes_numbered : (r : Renaming) (line : List Tok) (tree : Inst) → instruction.means line tree → WritesWord (renamed_inst r tree)
writes_numbered r line tree h = by tree (writes_word line tree h)
  where
    by : (tree : Inst) → WritesWord tree → WritesWord (renamed_inst r tree)
    by (insts.Select dst cond ty a b) w = subst OneWord (sym (word_renamed w r)) w
    by (insts.Load dst ty ptr atomic) w = subst OneWord (sym (word_renamed w r)) w
    by (insts.Rmw dst op ptr ty val) w = subst OneWord (sym (word_renamed w r)) w
    by (insts.CmpXchg dst ptr ty old new) w = subst OneWord (sym (word_renamed w r)) w
    by (insts.Phi dst ty arms) w = subst OneWord (sym (word_renamed w r)) w
    by (insts.Bin dst op flags width a b) w = tt
    by (insts.Cmp dst pred ty a b) w = tt
    by (insts.Cast dst op from a to) w = tt
    by (insts.Gep dst base ptr index) w = tt
    by (insts.Alloca dst ty) w = tt
    by (insts.Store ty val ptr atomic) w = tt
    by insts.Fence w = tt
    by (insts.Extract dst elem pair index) w = tt
    by (insts.Call dst ret callee args) w = tt
    by (insts.Br to) w = tt
    by (insts.CondBr cond on_true on_false) w = tt
    by (insts.Switch ty on default cases) w = tt
    by (insts.Ret ty val) w = tt
    by insts.Unreachable w = tt
