-- What is neither a register nor memory nor a thread, and what externals ask of it. The externals are the C library's and the
-- tool's own.
--
-- Choices: a lock is known by its address alone, whatever stands there. The heap is given out once, from its start on; nothing
-- is given back. A request that waits or is refused changes nothing.
use Rattle.std.specs.Prelude.{ℕ, ◌+◌, ◌%◌, nat_eq, nat_le, Bool, true, false, List, [], ◌∷◌, ◌++◌, Option, Some, None}
use Rattle.std.specs.List.{slice_index_or}
use Rattle.std.specs.Map.{lookup, remove_entry}
use Rattle.std.specs.Ordering.{nat_cmp}
use Rattle.std.specs.BTreeMap.{insert_entry, is_at}
use Rattle.ir_core.specs.declared.types.Loc.{Loc}
use Rattle.ir_core.specs.declared.values.Out.{Out}
use Rattle.ir_core.specs.declared.values.Out.TheVariants.{Num, Put as PutByte}
use Rattle.ir_layout.specs.Shapes.{round_up}
use Rattle.ir_layout.specs.Memory.{area_size, heap_start}
use Rattle.inst_meaning.specs.Phis.{assigned}
use Rattle.inst_meaning.specs.declared.actions.Cause.TheVariants.{Unlock as UnlockCause}
use Rattle.inst_meaning.specs.declared.actions.Request.{Request}
use Rattle.inst_meaning.specs.declared.actions.Request.TheVariants.{Lock, Unlock, Put, Output, Allocate, Free, Argument}
use Rattle.inst_meaning.specs.declared.actions.Reply.{Reply}
use Rattle.inst_meaning.specs.declared.actions.Reply.TheVariants.{Answers, Waits, Refuses}

-- who owns which address, in the order of addresses; how far the heap is given out; what the run was given, and what it gave out
pub record WorldParts : Type 0 where
  pub owners : List (ℕ × ℕ)
  pub heap_mark : ℕ
  pub arguments : List ℕ
  pub outputs : List Out

-- nobody owns anything, and nothing was given out
abbrev pub opening_world : List ℕ → WorldParts
opening_world arguments = record { owners = []; heap_mark = heap_start; arguments = arguments; outputs = [] }

-- the owner of an address
abbrev pub owner_of : List (ℕ × ℕ) → ℕ → Option ℕ
owner_of owners address = lookup (is_at (nat_cmp address)) owners

abbrev pub locked : Option ℕ → ℕ → ℕ → WorldParts → WorldParts × Reply
locked None address thread world = (record world { owners = insert_entry nat_cmp world.owners address thread }, Answers 0)
locked (Some owner) address thread world = (world, Waits)

abbrev pub holds : Option ℕ → ℕ → Bool
holds None thread = false
holds (Some owner) thread = nat_eq owner thread

abbrev pub unlocked : Bool → ℕ → WorldParts → WorldParts × Reply
unlocked true address world = (record world { owners = remove_entry (is_at (nat_cmp address)) world.owners }, Answers 0)
unlocked false address world = (world, Refuses UnlockCause)

abbrev pub given_out : Out → ℕ → WorldParts → WorldParts × Reply
given_out out n world = (record world { outputs = world.outputs ++ out ∷ [] }, Answers n)

-- the heap from its mark on, at a multiple of 16
abbrev pub heap_next : WorldParts → ℕ
heap_next world = round_up 16 world.heap_mark

abbrev pub allocated : Bool → ℕ → WorldParts → WorldParts × Reply
allocated true size world = (record world { heap_mark = heap_next world + size }, Answers (heap_next world))
allocated false size world = (world, Answers 0)

-- the registers once a call was answered
abbrev pub given_to : Option Loc → Reply → List (Option ℕ) → List (Option ℕ)
given_to dst (Answers n) registers = assigned dst n registers
given_to dst other registers = registers

-- the world after a thread's request, and what it answers
abbrev pub asked_of : Request → ℕ → WorldParts → WorldParts × Reply
asked_of (Lock address) thread world = locked (owner_of world.owners address) address thread world
asked_of (Unlock address) thread world = unlocked (holds (owner_of world.owners address) thread) address world
asked_of (Put n) thread world = given_out (PutByte (n % 256)) (n % 256) world
asked_of (Output n) thread world = given_out (Num n) 0 world
asked_of (Allocate size) thread world = allocated (nat_le (heap_next world + size) (heap_start + area_size)) size world
asked_of Free thread world = (world, Answers 0)
asked_of (Argument n) thread world = (world, Answers (slice_index_or world.arguments n 0))
