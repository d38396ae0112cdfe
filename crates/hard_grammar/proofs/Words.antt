-- Types of one word; functions whose parameters and results are words, or what a `cmpxchg` gives.
use Rattle.std.proofs.Common.{ℕ, ◌≡◌, Bool, true, false, not, ◌&&◌, List, Option, Some, None, refl, sym, ap, ◌∙◌, subst, map}
use Rattle.std.specs.List.{AllByRecursion}
use Rattle.std.specs.Option.{is_some}
use Rattle.ir_core.specs.declared.types.Ty.{Ty, map-Ty}
use Rattle.ir_core.specs.declared.types.Ty as opened
use Rattle.ir_core.specs.declared.types.Ty.TheVariants as types
use Rattle.ir_core.specs.declared.types.Ty.TheOpen.{Ty-F}
use Rattle.ir_core.specs.declared.types.Ty.TheViews.{roll-Ty, out-Ty, out-roll-Ty, roll-out-Ty}
use Rattle.ir_core.specs.declared.types.Ty.TheFolds.{fold-roll-Ty}
use Rattle.ir_core.specs.declared.types.TypeId.{TypeId}
use Rattle.ir_core.specs.declared.types.Loc.{Loc}
use Rattle.ir_core.specs.declared.types.Width.{Width}
use Rattle.ir_core.specs.declared.instruction.CastOp.{CastOp}
use Rattle.ir_core.specs.declared.instruction.CastOp.TheVariants.{Zext, Sext, Trunc, Ptrtoint, Inttoptr}
use Rattle.ir_core.specs.declared.instruction.Inst.{Inst}
use Rattle.ir_core.specs.declared.instruction.Block.{Block}
use Rattle.ir_core.specs.Module.{FuncParts}
use Rattle.ir_core.proofs.Lengths.{both_true, both}
use Rattle.ir_lines.specs.SameTypes.{same_ty, same_layer}
use Rattle.ir_types.specs.Meanings.{Meaning, Label, Register, Pair, result_of}
use Rattle.ir_types.specs.Types.{int_width_step, int_width, is_int, is_ptr_step, is_ptr, is_void_step, is_void, is_aggregate_step, has_no_parts, is_narrower, cast_fits}

-- an integer type, or `ptr`
pub data OneWord : Ty → Type 0 where
  AnInt : (w : Width) → OneWord (types.Int w)
  APtr : OneWord types.Ptr

abbrev pub NotVoid : Ty → Type 0
NotVoid ty = is_void ty ≡ false

-- ---- functions

-- a register is of such a type, or of what a `cmpxchg` gives on one
abbrev pub IsWord : Meaning → Type 0
IsWord Label = Unit {0}
IsWord (Register ty) = OneWord ty
IsWord (Pair ty) = OneWord ty

-- the result of an instruction is
abbrev pub IsWordResult : Option (Loc × Meaning) → Type 0
IsWordResult None = Unit {0}
IsWordResult (Some result) = IsWord result.1

abbrev pub HasWordResult : Inst → Type 0
HasWordResult inst = IsWordResult (result_of inst)

abbrev pub HaveWordResults : List Block → Type 0
HaveWordResults = AllByRecursion (λ (block : Block). AllByRecursion HasWordResult block.insts)

abbrev pub AreWordParams : List (Ty × Loc) → Type 0
AreWordParams = AllByRecursion (λ (param : Ty × Loc). OneWord param.0)

-- the parameters and the results of a function are
pub record HasWords (f : FuncParts) : Type 0 where
  pub params : AreWordParams f.params
  pub results : HaveWordResults f.blocks

-- ---- types by their layers

-- a type is what its layer makes
pub whole : (ty : Ty) (layer : Ty-F Ty) → out-Ty ty ≡ layer → roll-Ty layer ≡ ty
whole ty layer h = sym (ap roll-Ty h) ∙ roll-out-Ty ty

-- A type is of one word where its layer passes a test that no other layer passes.
pub word_by : (test : Ty-F Ty → Bool) → test Ty-F.Void ≡ false → ((n : ℕ) (element : Ty) → test (Ty-F.Array n element) ≡ false)
    → ((parts : List Ty) → test (Ty-F.Struct parts) ≡ false) → ((id : TypeId) → test (Ty-F.Named id) ≡ false) → (ty : Ty) → test (out-Ty ty) ≡ true → OneWord ty
unfolding opened.roll-Ty denote.Hole.Carrier.roll
word_by test void array struct name ty passes = by (out-Ty ty) refl
  where
    by : (layer : Ty-F Ty) → out-Ty ty ≡ layer → OneWord ty
    by (Ty-F.Int w) h = subst OneWord (whole ty (Ty-F.Int w) h) (AnInt w)
    by Ty-F.Ptr h = subst OneWord (whole ty Ty-F.Ptr h) APtr
    by Ty-F.Void h = absurd (let clash : true ≡ false = sym passes ∙ ap test h ∙ void in cc)
    by (Ty-F.Array n element) h = absurd (let clash : true ≡ false = sym passes ∙ ap test h ∙ array n element in cc)
    by (Ty-F.Struct parts) h = absurd (let clash : true ≡ false = sym passes ∙ ap test h ∙ struct parts in cc)
    by (Ty-F.Named id) h = absurd (let clash : true ≡ false = sym passes ∙ ap test h ∙ name id in cc)

-- a type that isn't `void` and has no parts
pub plain_word : (ty : Ty) → NotVoid ty → has_no_parts ty ≡ true → OneWord ty
plain_word ty some flat =
    word_by (λ layer. not (is_void_step layer) && not (is_aggregate_step layer)) refl (λ n element. refl) (λ parts. refl) (λ id. refl) ty
    (both (not (is_void ty)) (has_no_parts ty) (ap not some) flat)

int_word : (ty : Ty) → is_int ty ≡ true → OneWord ty
int_word = word_by (λ layer. is_some (int_width_step layer)) refl (λ n element. refl) (λ parts. refl) (λ id. refl)

ptr_word : (ty : Ty) → is_ptr ty ≡ true → OneWord ty
ptr_word = word_by is_ptr_step refl (λ n element. refl) (λ parts. refl) (λ id. refl)

-- what a conversion gives
pub cast_word : (op : CastOp) (source target : Ty) → cast_fits op source target ≡ true → OneWord target
cast_word op source target = by op
  where
    known : (a b : Option Width) → is_narrower a b ≡ true → (is_some a ≡ true) × (is_some b ≡ true)
    known (Some a) (Some b) e = (refl, refl)
    known (Some a) None e = absurd cc
    known None b e = absurd cc

    by : (op : CastOp) → cast_fits op source target ≡ true → OneWord target
    by Zext e = int_word target (known (int_width source) (int_width target) e).1
    by Sext e = int_word target (known (int_width source) (int_width target) e).1
    by Trunc e = int_word target (known (int_width target) (int_width source) e).0
    by Ptrtoint e = int_word target (both_true (is_ptr source) (is_int target) e).1
    by Inttoptr e = ptr_word target (both_true (is_int source) (is_ptr target) e).1

-- ---- types that are the same

-- one layer of each decides whether two types are the same
same_by : (ty other : Ty) → same_ty ty other ≡ same_layer (map-Ty Ty (Ty → Bool) same_ty (out-Ty ty)) (out-Ty other)
same_by ty other =
    ap (λ (t : Ty). same_ty t other) (sym (roll-out-Ty ty))
    ∙ ap (λ (f : Ty → Bool). f other) (fold-roll-Ty (Ty → Bool) (λ layer ty. same_layer layer (out-Ty ty)) (out-Ty ty))

-- a layer without parts isn't the same as one with parts
pub record IsApart (layer : Ty-F Ty) : Type 0 where
  pub array : (n : ℕ) (element : Ty → Bool) → same_layer (Ty-F.Array n element) layer ≡ false
  pub struct : (parts : List (Ty → Bool)) → same_layer (Ty-F.Struct parts) layer ≡ false
  pub name : (id : TypeId) → same_layer (Ty-F.Named id) layer ≡ false

apart : (layer : Ty-F Ty) → not (is_aggregate_step layer) ≡ true → IsApart layer
apart Ty-F.Void flat = record { array = λ n element. refl; struct = λ parts. refl; name = λ id. refl }
apart (Ty-F.Int w) flat = record { array = λ n element. refl; struct = λ parts. refl; name = λ id. refl }
apart Ty-F.Ptr flat = record { array = λ n element. refl; struct = λ parts. refl; name = λ id. refl }
apart layer flat = absurd cc

-- a type that is the same as one without parts, and isn't the same as `void`
pub same_plain_word : (ty own : Ty) → same_ty ty own ≡ true → has_no_parts own ≡ true → not (same_ty ty types.Void) ≡ true → OneWord ty
unfolding opened.roll-Ty denote.Hole.Carrier.roll
same_plain_word ty own same flat some =
    let parts : Ty-F Ty → Ty-F (Ty → Bool) = map-Ty Ty (Ty → Bool) same_ty in
    let here : Ty-F (Ty → Bool) = parts (out-Ty ty) in
    let none = apart (out-Ty own) flat in
    let void : same_ty ty types.Void ≡ same_layer here Ty-F.Void = same_by ty types.Void ∙ ap (same_layer here) (out-roll-Ty Ty-F.Void) in
    word_by (λ layer. not (same_layer (parts layer) Ty-F.Void) && same_layer (parts layer) (out-Ty own)) refl
    (λ n element. none.array n (same_ty element)) (λ fields. none.struct (map same_ty fields)) none.name ty
    (both (not (same_layer here Ty-F.Void)) (same_layer here (out-Ty own)) (sym (ap not void) ∙ some) (sym (same_by ty own) ∙ same))
