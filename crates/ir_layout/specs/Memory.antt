-- Where globals stand, and which accesses are valid. The address map is this tool's own.
--
-- Choices: an access is valid or not for a whole run. Its whole range lies in one global, in the stack region of one thread
-- or in the heap, and its address is a multiple of its size. Where a name is defined twice, the last global counts.
use Rattle.std.specs.Prelude.{ℕ, ◌+◌, ◌-◌, ◌*◌, ◌/◌, ◌%◌, ◌==◌, ◌≡◌, ◌<◌, ◌≤◌, Some, slice_get, length, Bool, ◌&&◌, ◌||◌, List, [], ◌∷◌, Option, find, reverse, nat_eq, nat_lt, nat_le}
use Rattle.std.specs.List.{list_any}
use Rattle.std.specs.Option.{option_map}
use Rattle.std.specs.HashMap.{HashMap, get}
use Rattle.std.specs.declared.hash.FoldHasher.{FoldHasher}
use Rattle.std.specs.declared.hash.BuildHasherDefault.{BuildHasherDefault}
use Rattle.ir_core.specs.declared.types.Ty.{Ty}
use Rattle.ir_core.specs.declared.types.TypeId.{TypeId}
use Rattle.ir_core.specs.declared.types.Sym.{Sym}
use Rattle.ir_core.specs.declared.values.GlobalVar.{GlobalVar}
use Rattle.ir_core.specs.Module.{ModuleParts}
use Rattle.ir_layout.specs.Shapes.{round_up, size_of}
use Rattle.ir_layout.specs.declared.spans.Span.{Span}

-- what contracts see of a layout: the named types, and the places of the globals in order
pub record LayoutParts : Type 0 where
  pub types : List (TypeId × Ty)
  pub globals : List Span

-- a table from numbers of names to addresses
abbrev pub Addresses : Type 0
Addresses = HashMap ℕ ℕ (BuildHasherDefault FoldHasher)

-- ---- the address map

-- how many bytes each area has: the globals, the stacks together, the heap
abbrev pub area_size : ℕ
area_size = 1048576

abbrev pub globals_start : ℕ
globals_start = 65536

abbrev pub stacks_start : ℕ
stacks_start = 16777216

-- of one thread
abbrev pub stack_size : ℕ
stack_size = 16384

abbrev pub heap_start : ℕ
heap_start = 67108864

-- how many threads there may be, and how many frames a thread may have
abbrev pub thread_limit : ℕ
thread_limit = 64

abbrev pub frame_limit : ℕ
frame_limit = 256

-- ---- globals

-- each global stands at the next multiple of 16 behind those before it
abbrev pub span_at : List (TypeId × Ty) → ℕ → GlobalVar → Span
span_at types taken global = record { sym = global.sym; start = round_up 16 taken; size = size_of types global.ty }

abbrev pub end_of : Span → ℕ
end_of span = span.start + span.size

abbrev pub spans_from : List (TypeId × Ty) → ℕ → List GlobalVar → List Span
spans_from types taken [] = []
spans_from types taken (global ∷ globals) = span_at types taken global ∷ spans_from types (end_of (span_at types taken global)) globals

abbrev pub layout_of : ModuleParts → LayoutParts
layout_of m = record { types = m.types; globals = spans_from m.types globals_start m.globals }

abbrev pub address_of : List Span → Sym → Option ℕ
address_of globals sym = option_map (λ span. span.start) (find (λ span. nat_eq span.sym.0 sym.0) (reverse globals))

-- the table has the address of each name
abbrev pub AreAddresses : List Span → Addresses → Type 0
AreAddresses globals table = (sym : Sym) → get nat_eq table sym.0 ≡ address_of globals sym

-- no global reaches into a later one
abbrev pub AreApart : List Span → Type 0
AreApart globals = (i j : ℕ) (a b : Span) → i < j → slice_get globals i ≡ Some a → slice_get globals j ≡ Some b → end_of a ≤ b.start

-- the globals before the count start at the address or before it, and those from there on behind it
pub record IsStarted (globals : List Span) (address count : ℕ) : Type 0 where
  pub within : count ≤ length globals
  pub before : (k : ℕ) (span : Span) → k < count → slice_get globals k ≡ Some span → span.start ≤ address
  pub behind : (k : ℕ) (span : Span) → count ≤ k → slice_get globals k ≡ Some span → address < span.start

-- ---- valid accesses

-- the `size` bytes from `address` on lie among the `length` bytes from `start` on
abbrev pub lies_in : ℕ → ℕ → ℕ → ℕ → Bool
lies_in start length address size = nat_le start address && nat_le (address + size) (start + length)

abbrev pub lies_in_global : List Span → ℕ → ℕ → Bool
lies_in_global globals address size = list_any (λ span. lies_in span.start span.size address size) globals

-- the stack regions of the threads stand side by side; the thread whose region an address lies in, from 0
abbrev pub thread_of : ℕ → ℕ
thread_of address = (address - stacks_start) / stack_size

abbrev pub lies_in_stack : ℕ → ℕ → Bool
lies_in_stack address size = nat_lt (thread_of address) thread_limit && lies_in (stacks_start + thread_of address * stack_size) stack_size address size

abbrev pub lies_in_heap : ℕ → ℕ → Bool
lies_in_heap address size = lies_in heap_start area_size address size

-- the sizes of accesses
abbrev pub is_access_size : ℕ → Bool
is_access_size size = size == 1 || size == 2 || size == 4 || size == 8

abbrev pub is_valid : List Span → ℕ → ℕ → Bool
is_valid globals address size = is_access_size size && address % size == 0 && (lies_in_global globals address size || lies_in_stack address size || lies_in_heap address size)
