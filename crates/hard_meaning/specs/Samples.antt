-- Programs whose runs are computed, and short schedules.
use Rattle.std.specs.Prelude.{ℕ, ◌+◌, true, false, List, [], ◌∷◌, replicate, map, Some, None, codes}
use Rattle.ir_core.specs.declared.types.Loc.{Loc}
use Rattle.ir_core.specs.declared.types.Sym.{Sym}
use Rattle.ir_core.specs.declared.types.Ty.{Ty}
use Rattle.ir_core.specs.declared.types.Ty.TheVariants as types
use Rattle.ir_core.specs.declared.types.Width.TheVariants.{W1, W32, W64}
use Rattle.ir_core.specs.declared.values.Val.{Val}
use Rattle.ir_core.specs.declared.values.Val.TheVariants as values
use Rattle.ir_core.specs.declared.values.Declare.{Declare}
use Rattle.ir_core.specs.declared.values.Side.{Side}
use Rattle.ir_core.specs.declared.values.Side.TheVariants.{M, S}
use Rattle.ir_core.specs.declared.instruction.BinOp.TheVariants as operators
use Rattle.ir_core.specs.declared.instruction.Pred.TheVariants as predicates
use Rattle.ir_core.specs.declared.instruction.CastOp.TheVariants as casts
use Rattle.ir_core.specs.declared.instruction.Inst.{Inst}
use Rattle.ir_core.specs.declared.instruction.Inst.TheVariants as insts
use Rattle.ir_core.specs.declared.instruction.Block.{Block}
use Rattle.ir_core.specs.Module.{ModuleParts, FuncParts}
use Rattle.mem_image.specs.Bytes.{Memory}
use Rattle.mem_image.specs.Lines.{blank}
use Rattle.inst_meaning.specs.World.{opening_world}
use Rattle.process.specs.State.{new_thread}
use Rattle.sched_file.specs.Events.{Happening, TurnOf, AbortOf, UpsetBy}
use Rattle.hard_ir.specs.declared.instruction.When.TheVariants.{Always}
use Rattle.hard_ir.specs.declared.instruction.HInst.TheVariants.{Cut, Begin, End, Tick, Chk, Do}
use Rattle.hard_ir.specs.declared.instruction.HBlock.{HBlock}
use Rattle.hard_ir.specs.Image.{no_flags}
use Rattle.hard_ir.specs.Hardened.{HardParts}
use Rattle.hard_frames.specs.declared.outcome.Aborts.{Aborts}
use Rattle.hard_frames.specs.Frames.{frames}
use Rattle.hard_meaning.specs.State.{Mode, Free, Inside, Worker, State, new_worker}
use Rattle.hard_meaning.specs.Turns.{turn_of}
use Rattle.hard_meaning.specs.Runs.{RunParts, run_from, result_of, all_aborts}

-- ---- events

abbrev pub turns : ℕ → ℕ → List Happening
turns t n = replicate n (TurnOf (record { 0 = t }))

abbrev pub abort_of : ℕ → List Happening
abort_of t = AbortOf (record { 0 = t }) ∷ []

abbrev pub upset_of : ℕ → Side → List ℕ → ℕ → List Happening
upset_of t side name mask = UpsetBy (record { tid = record { 0 = t }; depth = 0; side = side; name = name; mask = mask }) ∷ []

-- ---- parts of programs

abbrev pub at : ℕ → Loc
at n = record { 0 = n }

abbrev pub symbol : ℕ → Sym
symbol n = record { 0 = n }

abbrev pub register : ℕ → Val
register n = values.Reg (at n)

abbrev pub takes : ℕ → Ty → List Ty → Declare
takes n ret params = record { sym = symbol n; ret = ret; params = params }

abbrev pub gives_out : ℕ → Declare
gives_out n = takes n types.Void (types.Int W64 ∷ [])

abbrev pub locks : ℕ → Declare
locks n = takes n (types.Int W32) (types.Ptr ∷ [])

abbrev pub makes_threads : ℕ → Declare
makes_threads n = takes n (types.Int W32) (types.Ptr ∷ types.Ptr ∷ types.Ptr ∷ types.Ptr ∷ [])

-- the address of a byte of the heap
abbrev pub address_of : ℕ → ℕ → Inst
address_of dst byte = insts.Cast (at dst) casts.Inttoptr (types.Int W64) (values.Int (67108864 + byte)) types.Ptr

abbrev pub out : ℕ → Val → Inst
out callee val = insts.Call None types.Void (symbol callee) ((types.Int W64, val) ∷ [])

abbrev pub on_mutex : ℕ → ℕ → Val → Inst
on_mutex dst callee mutex = insts.Call (Some (at dst)) (types.Int W32) (symbol callee) ((types.Ptr, mutex) ∷ [])

-- a thread is made, which does a function with an argument
abbrev pub made : ℕ → ℕ → Val → ℕ → Val → Inst
made dst callee thread function argument = insts.Call (Some (at dst)) (types.Int W32) (symbol callee)
    ((types.Ptr, thread) ∷ (types.Ptr, values.Null) ∷ (types.Ptr, values.Global (symbol function)) ∷ (types.Ptr, argument) ∷ [])

abbrev pub stored : ℕ → Val → Inst
stored n ptr = insts.Store (types.Int W64) (values.Int n) ptr false

abbrev pub loaded : ℕ → Val → Inst
loaded dst ptr = insts.Load (at dst) (types.Int W64) ptr false

abbrev pub returned : Inst
returned = insts.Ret (types.Int W32) (Some (values.Int 0))

abbrev pub returned_null : Inst
returned_null = insts.Ret types.Ptr (Some values.Null)

abbrev pub block : ℕ → List Inst → Block
block label list = record { label = at label; insts = list }

abbrev pub main_with : ℕ → List Block → List (List ℕ) → FuncParts
main_with n blocks names = record { sym = symbol n; ret = types.Int W32; params = []; blocks = blocks; names = names }

-- a function of one block that takes a pointer and gives one back, as threads do
abbrev pub thread_with : ℕ → List Inst → List (List ℕ) → FuncParts
thread_with n list names =
    record { sym = symbol n; ret = types.Ptr; params = (types.Ptr, at 0) ∷ []; blocks = block 1 list ∷ []; names = codes "x" ∷ codes "0" ∷ names }

abbrev pub module_of : List Declare → List FuncParts → List (List ℕ) → ModuleParts
module_of declares funcs syms = record { types = []; globals = []; declares = declares; funcs = funcs; syms = syms; type_names = [] }

-- ---- programs

abbrev pub sum_of : Inst
sum_of = insts.Bin (at 1) operators.Add no_flags W64 (values.Int 2) (values.Int 3)

-- a sum is given out
abbrev pub sum : ModuleParts
sum = module_of (gives_out 0 ∷ []) (main_with 1 (block 0 (sum_of ∷ out 0 (register 1) ∷ returned ∷ []) ∷ []) (codes "0" ∷ codes "a" ∷ []) ∷ [])
    (codes "haft_out" ∷ codes "main" ∷ [])

-- its hardened text, written out
abbrev pub hard_sum : HardParts
hard_sum = record {
  heads = module_of (gives_out 0 ∷ []) (main_with 1 [] (codes "0" ∷ codes "a" ∷ []) ∷ []) (codes "haft_out" ∷ codes "main" ∷ []);
  funcs = (record {
    label = at 0;
    phis = [];
    list = Cut ∷ Begin ∷ Do M sum_of false ∷ Do S sum_of true ∷ Tick 8 ∷ Chk Always (types.Int W64) (at 1) ∷ End ∷ Do M (out 0 (register 1)) true
        ∷ Begin ∷ Tick 3 ∷ Do M returned true ∷ [];
  } ∷ []) ∷ [];
}

-- a word is stored, read again and given out
abbrev pub store_and_load : ModuleParts
store_and_load = module_of (gives_out 0 ∷ [])
    (main_with 1 (block 0 (address_of 1 0 ∷ stored 7 (register 1) ∷ loaded 2 (register 1) ∷ out 0 (register 2) ∷ returned ∷ []) ∷ [])
    (codes "0" ∷ codes "p" ∷ codes "v" ∷ []) ∷ [])
    (codes "haft_out" ∷ codes "main" ∷ [])

-- a mutex is locked twice
abbrev pub locked_twice : ModuleParts
locked_twice = module_of (locks 0 ∷ [])
    (main_with 1 (block 0 (address_of 1 0 ∷ on_mutex 2 0 (register 1) ∷ on_mutex 3 0 (register 1) ∷ returned ∷ []) ∷ [])
    (codes "0" ∷ codes "p" ∷ codes "a" ∷ codes "b" ∷ []) ∷ [])
    (codes "pthread_mutex_lock" ∷ codes "main" ∷ [])

-- `main` writes a word of the heap and reads it again, while a second thread does this to the word at a place of the heap
abbrev pub beside : (Val → Inst) → ℕ → ModuleParts
beside does byte = module_of (makes_threads 0 ∷ gives_out 1 ∷ [])
    (thread_with 2 (does (register 0) ∷ returned_null ∷ []) (codes "y" ∷ [])
    ∷ main_with 3 (block 0
    (address_of 1 0
    ∷ address_of 2 byte
    ∷ address_of 3 128
    ∷ made 4 0 (register 3) 2 (register 2)
    ∷ stored 2 (register 1)
    ∷ loaded 5 (register 1)
    ∷ out 1 (register 5)
    ∷ returned ∷ []) ∷ []) (codes "0" ∷ codes "a" ∷ codes "b" ∷ codes "t" ∷ codes "r" ∷ codes "v" ∷ [])
    ∷ [])
    (codes "pthread_create" ∷ codes "haft_out" ∷ codes "w" ∷ codes "main" ∷ [])

-- a division by zero
abbrev pub divided : ModuleParts
divided = module_of []
    (main_with 0 (block 0 (insts.Bin (at 1) operators.Udiv no_flags W64 (values.Int 1) (values.Int 0) ∷ returned ∷ []) ∷ []) (codes "0" ∷ codes "a" ∷ []) ∷ [])
    (codes "main" ∷ [])

-- two threads write to different lines, each while it holds the same mutex
abbrev pub locked_writers : ModuleParts
locked_writers = module_of (makes_threads 0 ∷ locks 1 ∷ locks 2 ∷ [])
    (thread_with 3 (address_of 2 128 ∷ on_mutex 3 1 (register 0) ∷ stored 2 (register 2) ∷ on_mutex 4 2 (register 0) ∷ returned_null ∷ [])
    (codes "b" ∷ codes "l" ∷ codes "u" ∷ [])
    ∷ main_with 4 (block 0
    (address_of 1 0
    ∷ address_of 2 64
    ∷ address_of 3 192
    ∷ made 4 0 (register 3) 3 (register 1)
    ∷ on_mutex 5 1 (register 1)
    ∷ stored 1 (register 2)
    ∷ on_mutex 6 2 (register 1)
    ∷ returned ∷ []) ∷ []) (codes "0" ∷ codes "m" ∷ codes "a" ∷ codes "t" ∷ codes "r" ∷ codes "l" ∷ codes "u" ∷ [])
    ∷ [])
    (codes "pthread_create" ∷ codes "pthread_mutex_lock" ∷ codes "pthread_mutex_unlock" ∷ codes "w" ∷ codes "main" ∷ [])

-- a word is given out while a mutex is held
abbrev pub out_while_locked : ModuleParts
out_while_locked = module_of (locks 0 ∷ locks 1 ∷ gives_out 2 ∷ [])
    (main_with 3 (block 0 (address_of 1 0 ∷ on_mutex 2 0 (register 1) ∷ out 2 (values.Int 7) ∷ on_mutex 3 1 (register 1) ∷ returned ∷ []) ∷ [])
    (codes "0" ∷ codes "m" ∷ codes "l" ∷ codes "u" ∷ []) ∷ [])
    (codes "pthread_mutex_lock" ∷ codes "pthread_mutex_unlock" ∷ codes "haft_out" ∷ codes "main" ∷ [])

abbrev pub is_zero : Inst
is_zero = insts.Cmp (at 1) predicates.Eq (types.Int W64) (values.Int 0) (values.Int 0)

-- a branch on a register
abbrev pub branched : ModuleParts
branched = module_of (gives_out 0 ∷ [])
    (main_with 1
    (block 0 (is_zero ∷ insts.CondBr (register 1) (at 2) (at 3) ∷ [])
    ∷ block 2 (out 0 (values.Int 1) ∷ returned ∷ [])
    ∷ block 3 (out 0 (values.Int 2) ∷ returned ∷ [])
    ∷ []) (codes "0" ∷ codes "c" ∷ codes "a" ∷ codes "b" ∷ []) ∷ [])
    (codes "haft_out" ∷ codes "main" ∷ [])

-- its hardened text with checks on edges, written out: each target compares the direction taken with the condition's shadow
abbrev pub direction_phis : ℕ → ℕ → List (Side × Inst)
direction_phis name bit = (M, insts.Phi (at name) (types.Int W1) ((values.Int bit, at 0) ∷ [])) ∷ (S, insts.Phi (at name) (types.Int W1) ((register 1, at 0) ∷ [])) ∷ []

abbrev pub target_of : ℕ → ℕ → ℕ → ℕ → HBlock
target_of label name bit n = record {
  label = at label;
  phis = direction_phis name bit;
  list = Chk Always (types.Int W1) (at name) ∷ Tick 4 ∷ End ∷ Do M (out 0 (values.Int n)) true ∷ Begin ∷ Tick 3 ∷ Do M returned true ∷ [];
}

abbrev pub edged_branch : HardParts
edged_branch = record {
  heads = module_of (gives_out 0 ∷ []) (main_with 1 [] (codes "0" ∷ codes "c" ∷ codes "a" ∷ codes "edge.1" ∷ codes "b" ∷ codes "edge.2" ∷ []) ∷ [])
      (codes "haft_out" ∷ codes "main" ∷ []);
  funcs = (record {
    label = at 0;
    phis = [];
    list = Cut ∷ Begin ∷ Do M is_zero false ∷ Do S is_zero true ∷ Tick 7 ∷ Chk Always (types.Int W1) (at 1) ∷ Do M (insts.CondBr (register 1) (at 2) (at 4)) true ∷ [];
  } ∷ target_of 2 3 1 1 ∷ target_of 4 5 0 2 ∷ []) ∷ [];
}

-- ---- runs

-- no global has bytes, and of the heap these few are there
abbrev pub small_heap : Memory
small_heap = record { places = []; globals = []; stacks = []; heap = replicate 256 0 }

-- thread 0 stands at the entry of the function with a number, with this memory
abbrev pub entered : HardParts → ℕ → Memory → State
entered h main memory = record {
  memory = memory;
  workers = new_worker (new_thread (frames h) 0 main []) ∷ [];
  world = opening_world [];
  turns = [];
  stop = None;
  upsets = [];
}

abbrev pub run_in : HardParts → ℕ → Memory → List Happening → RunParts
run_in h main memory events = result_of (run_from h (entered h main memory) events)

-- ---- full lists

-- so many lines were read and so many written, none of them of the heap
abbrev pub filled : ℕ → ℕ → Mode → Mode
filled read write (Free plain) = Free plain
filled read write (Inside tx) = Inside (record tx { footprint = record { read_set = replicate read 0; write_set = replicate write (blank 0) } })

abbrev pub filled_in : ℕ → ℕ → Worker → Worker
filled_in read write w = record w { mode = filled read write w.mode }

abbrev pub with_filled : ℕ → ℕ → State → State
with_filled read write s = record s { workers = map (filled_in read write) s.workers }

-- how often threads were aborted, where one more turn comes to a thread with these lists, after so many
abbrev pub aborts_after : HardParts → ℕ → ℕ → ℕ → Aborts
aborts_after h n read write = all_aborts (turn_of h (with_filled read write (run_from h (entered h 0 small_heap) (turns 0 n))) 0).workers
