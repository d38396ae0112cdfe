-- A program with two threads, a mutex, loads and stores, whose runs are good in every interleaving.
use Rattle.std.specs.Prelude.{ℕ, false, List, [], ◌∷◌, Some, codes}
use Rattle.ir_core.specs.declared.types.Ty.TheVariants as types
use Rattle.ir_core.specs.declared.types.Width.TheVariants.{W32, W64}
use Rattle.ir_core.specs.declared.values.Val.{Val}
use Rattle.ir_core.specs.declared.values.Val.TheVariants as values
use Rattle.ir_core.specs.declared.values.Declare.{Declare}
use Rattle.ir_core.specs.declared.instruction.BinOp.TheVariants as operators
use Rattle.ir_core.specs.declared.instruction.Inst.{Inst}
use Rattle.ir_core.specs.declared.instruction.Inst.TheVariants as insts
use Rattle.ir_core.specs.Module.{ModuleParts, FuncParts}
use Rattle.hard_ir.specs.Image.{no_flags}
use Rattle.hard_meaning.specs.Samples.{at, symbol, register, takes, gives_out, locks, makes_threads, address_of, out, on_mutex, made, loaded, returned, returned_null, block, main_with, thread_with, module_of}

-- ---- parts

abbrev pub joins_threads : ℕ → Declare
joins_threads n = takes n (types.Int W32) (types.Int W64 ∷ types.Ptr ∷ [])

-- one more than a register
abbrev pub one_more : ℕ → ℕ → Inst
one_more dst n = insts.Bin (at dst) operators.Add no_flags W64 (register n) (values.Int 1)

abbrev pub stored_from : ℕ → Val → Inst
stored_from n ptr = insts.Store (types.Int W64) (register n) ptr false

-- a thread is waited for, by its number
abbrev pub joined : ℕ → ℕ → ℕ → Inst
joined dst callee thread = insts.Call (Some (at dst)) (types.Int W32) (symbol callee) ((types.Int W64, values.Int thread) ∷ (types.Ptr, values.Null) ∷ [])

-- ---- the program

-- one is added to a word of the heap while the mutex is held that a thread was given
abbrev pub counting : FuncParts
counting = thread_with 5
    (address_of 2 64
    ∷ on_mutex 3 2 (register 0)
    ∷ loaded 4 (register 2)
    ∷ one_more 5 4
    ∷ stored_from 5 (register 2)
    ∷ on_mutex 6 3 (register 0)
    ∷ returned_null ∷ [])
    (codes "p" ∷ codes "l" ∷ codes "v" ∷ codes "s" ∷ codes "u" ∷ [])

-- a thread is made that does so, and this one does so too; once the other has ended, the word is given out
abbrev pub counting_twice : FuncParts
counting_twice = main_with 6
    (block 0
    (address_of 1 0
    ∷ address_of 2 64
    ∷ address_of 3 128
    ∷ made 4 0 (register 3) 5 (register 1)
    ∷ on_mutex 5 2 (register 1)
    ∷ loaded 6 (register 2)
    ∷ one_more 7 6
    ∷ stored_from 7 (register 2)
    ∷ on_mutex 8 3 (register 1)
    ∷ joined 9 1 1
    ∷ loaded 10 (register 2)
    ∷ out 4 (register 10)
    ∷ returned ∷ []) ∷ [])
    (codes "0" ∷ codes "m" ∷ codes "p" ∷ codes "t" ∷ codes "c" ∷ codes "l" ∷ codes "v" ∷ codes "s" ∷ codes "u" ∷ codes "j" ∷ codes "r" ∷ [])

abbrev pub counted : ModuleParts
counted = module_of (makes_threads 0 ∷ joins_threads 1 ∷ locks 2 ∷ locks 3 ∷ gives_out 4 ∷ []) (counting ∷ counting_twice ∷ [])
    (codes "pthread_create" ∷ codes "pthread_join" ∷ codes "pthread_mutex_lock" ∷ codes "pthread_mutex_unlock" ∷ codes "haft_out" ∷ codes "w" ∷ codes "main" ∷ [])
